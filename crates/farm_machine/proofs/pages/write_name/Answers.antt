use Rattle.std.proofs.Common.{[], ◌∷◌, sym}
use Rattle.task_index.specs.declared.lists.TaskList.{TaskList}
use Rattle.farm_machine.specs.Pages.{list_name}
use Rattle.task_statuses.proofs.WritingLemmas.{members_of_same}
use Rattle.task_index.specs.declared.lists.TaskList.TheVariants.{Group}
use Rattle.std.proofs.lemmas.Result.{on_ok_weaker}
use Rattle.farm_machine.proofs.pages.write_name.Goals as goal

pub returns-in-Group-clause-ok : goal.returns-in-Group-clause-ok
returns-in-Group-clause-ok c =
    on_ok_weaker c.id_member.result
    (λ e. members_of_same c.args.out.now.tokens c.id_member.new.out.tokens (λ (list : TaskList). list_name list ∷ []) (Group c.in-Group.group) c.args.list.now e (sym c.in-Group.is))
    c.id_member.ensures.ok
