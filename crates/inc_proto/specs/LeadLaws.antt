-- What leads on: each earlier history did, and each state that one leads to is sound.
use Rattle.std.specs.Prelude.{◌++◌, List, [], ◌∷◌, Some, None, refl}
use Rattle.std.proofs.Common.{sym, subst}
use Rattle.inc_fs.specs.State.{State}
use Rattle.inc_fs.specs.Step.{cut_short}
use Rattle.inc_fs.specs.Sound.{IsSound, start_sound, step_sound, end_sound}
use Rattle.inc_fs.specs.declared.op.Reply.TheVariants.{Fault}
use Rattle.inc_proto.specs.declared.event.Event.{Event}
use Rattle.inc_proto.specs.declared.event.Event.TheVariants.{Begin, Did, Left}
use Rattle.inc_proto.specs.Leads.{IsPossible, LeadsTo, Happens}

-- what a history that leads to a state began with leads to one
pub leads_before : (later earlier : List Event) (G : State) → LeadsTo (later ++ earlier) G → IsPossible earlier
leads_before [] earlier G leads = record { state = G; leads = leads }
leads_before (event ∷ later) earlier G (F, leads, is) = leads_before later earlier F leads

event_sound : (events : List Event) (F : State) (event : Event) (G : State) → Happens events F event G → IsSound F → IsSound G
event_sound events F (Begin number job) G is f = subst IsSound (sym is.1) f
event_sound events F (Did number op reply) G is f = step_sound F number op reply G is f
event_sound events F (Left number None cut) G is f = subst IsSound (sym is) (end_sound F number f)
event_sound events F (Left number (Some op) cut) G is f = subst IsSound (sym is) (end_sound (cut_short F op cut) number (step_sound F number op Fault (cut_short F op cut) (cut, refl) f))

-- a state that a history leads to
pub leads_sound : (events : List Event) (G : State) → LeadsTo events G → IsSound G
leads_sound [] G is = subst IsSound (sym is) start_sound
leads_sound (event ∷ events) G (F, leads, is) = event_sound events F event G is (leads_sound events F leads)
