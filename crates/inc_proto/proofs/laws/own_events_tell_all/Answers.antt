use Rattle.inc_proto.specs.EventLaws.{own_steps-by, is_running-by, job_of-by}
use Rattle.inc_proto.proofs.laws.own_events_tell_all.Goals as goal

pub returns : goal.returns
returns c = record { steps = own_steps-by; running = is_running-by; job = job_of-by }
