use Rattle.inc_fs.specs.Sound.{start_sound, step_sound, end_sound}
use Rattle.inc_fs.proofs.laws.directories_stay_sound.Goals as goal

pub returns : goal.returns
returns c = record { start = start_sound; step = λ F G who op reply f s. step_sound F who op reply G s f; ending = end_sound }
