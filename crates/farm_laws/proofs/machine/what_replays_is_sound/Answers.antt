use Rattle.farm_laws.proofs.SoundLemmas.{replays-sound}
use Rattle.farm_laws.proofs.machine.what_replays_is_sound.Goals as goal

pub returns : goal.returns
returns c = replays-sound
