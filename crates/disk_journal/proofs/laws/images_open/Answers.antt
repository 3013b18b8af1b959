use Rattle.disk_journal.proofs.LawLemmas.{image_opens, within_image, empty_image}
use Rattle.disk_journal.proofs.laws.images_open.Goals as goal

pub returns : goal.returns
returns c = record { opens = λ head file bodies pending is. image_opens head bodies pending file is; within = within_image; empty = empty_image }
