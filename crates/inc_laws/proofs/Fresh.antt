-- A handle that a session gets is new to it: it wasn't open, and held nothing.
use Rattle.std.specs.Prelude.{◌≡◌, ◌==◌, ℕ, Bool, true, false, cond, List, [], ◌∷◌, refl, Option, Some, None, is_some}
use Rattle.std.proofs.Common.{ap, subst, ◌∙◌}
use Rattle.std.proofs.lemmas.Bool.{eqb-true}
use Rattle.inc_base.specs.declared.job.Job.{Job}
use Rattle.inc_fs.specs.State.{State, IsIn}
use Rattle.inc_fs.specs.Step.{Step}
use Rattle.inc_fs.specs.declared.op.Op.{Op}
use Rattle.inc_fs.specs.declared.op.Op.TheVariants.{MakeLock, OpenLock, TryLock, Close}
use Rattle.inc_fs.specs.declared.op.Reply.{Reply}
use Rattle.inc_fs.specs.declared.op.Reply.TheVariants.{Handle, Got, Done}
use Rattle.inc_proto.specs.declared.event.Event.{Event}
use Rattle.inc_proto.specs.declared.event.Event.TheVariants.{Begin, Did, Left}
use Rattle.inc_proto.specs.Events.{Steps, own_steps}
use Rattle.inc_proto.specs.Files.{Files}
use Rattle.inc_proto.specs.Leads.{LeadsTo}
use Rattle.inc_proto.specs.Legal.{MayDo, AreAllowed}
use Rattle.inc_proto.specs.Views.{Opening, opening, mode, since, begun, grown}
use Rattle.inc_laws.specs.Laws.{Laws}
use Rattle.inc_laws.specs.Places.{IsFresh, AreFresh}
use Rattle.inc_laws.specs.Readings.{running}
use Rattle.inc_laws.proofs.Lasting.{may_parts, laws_hold}

-- ---- A handle holds its lock since some step exactly where it holds it.

some_grown : (step : Op × Reply) (o : Option Steps) → is_some (grown step o) ≡ is_some o
some_grown step None = refl
some_grown step (Some steps) = refl

some_begun : (step : Op × Reply) (o : Option Steps) → is_some (begun step o) ≡ true
some_begun step None = refl
some_begun step (Some steps) = refl

since_held : (h : ℕ) (steps : Steps) → is_some (since h steps) ≡ is_some (mode h steps)
since_held h [] = refl
since_held h ((TryLock handle exclusive, Got) ∷ steps) = go (since_held h steps) (handle == h)
  where
    go : is_some (since h steps) ≡ is_some (mode h steps) → (b : Bool) → is_some (cond b (begun (TryLock handle exclusive, Got) (since h steps)) (grown (TryLock handle exclusive, Got) (since h steps))) ≡ is_some (cond b (Some exclusive) (mode h steps))
    go ih true = some_begun (TryLock handle exclusive, Got) (since h steps)
    go ih false = some_grown (TryLock handle exclusive, Got) (since h steps) ∙ ih
since_held h ((Close handle, Done) ∷ steps) = go (since_held h steps) (handle == h)
  where
    go : is_some (since h steps) ≡ is_some (mode h steps) → (b : Bool) → is_some (cond b None (grown (Close handle, Done) (since h steps))) ≡ is_some (cond b None (mode h steps))
    go ih true = refl
    go ih false = some_grown (Close handle, Done) (since h steps) ∙ ih
since_held h (step ∷ steps) = some_grown step (since h steps) ∙ since_held h steps

none_if : {A : Type 0} (o : Option A) → is_some o ≡ false → o ≡ None
none_if None is = refl
none_if (Some x) is = cc

-- ---- So a handle that is new to the directory is new to its session.

module _ (files : Files) (H : List Event) (F : State) (l : Laws files H F) (who h : ℕ) (job : Job) (runs : running who H ≡ Some job) (unknown : ¬ IsIn F.given h) where
  pub unopened : opening h (own_steps who H) ≡ None
  unopened = go (opening h (own_steps who H)) refl
    where
      go : (o : Option Opening) → opening h (own_steps who H) ≡ o → opening h (own_steps who H) ≡ None
      go None is = is
      go (Some by) is = let there = l.handles.there who h job by runs is in absurd (unknown (l.handles.taken h there.0 there.1))

  pub unheld : since h (own_steps who H) ≡ None
  unheld = none_if (since h (own_steps who H)) (since_held h (own_steps who H) ∙ ap is_some (l.handles.unopened who h unopened))

fresh_step : (files : Files) (H : List Event) (F : State) → Laws files H F → (who : ℕ) (op : Op) (reply : Reply) (G : State) → MayDo files H who op → Step F who op reply G → IsFresh (op, reply) (own_steps who H)
fresh_step files H F l who op reply G may step = go op reply step (let p = may_parts files H who op may in (p.0, p.1))
  where
    go : (op : Op) (reply : Reply) → Step F who op reply G → (job : Job) × (running who H ≡ Some job) → IsFresh (op, reply) (own_steps who H)
    go (MakeLock k e) (Handle handle) step runs = unheld files H F l who handle runs.0 runs.1 step.1
    go (OpenLock k e) (Handle handle) step runs = unheld files H F l who handle runs.0 runs.1 step.2
    go op reply step runs = tt

pub fresh_own : (files : Files) (events : List Event) (G : State) → LeadsTo events G → AreAllowed files events → (who : ℕ) → AreFresh (own_steps who events)
fresh_own files [] G leads allowed who = tt
fresh_own files (Begin number job ∷ events) G (F, leads, is) allowed who = go (fresh_own files events F leads allowed.0 who) (number == who)
  where
    go : AreFresh (own_steps who events) → (b : Bool) → AreFresh (cond b [] (own_steps who events))
    go ih true = tt
    go ih false = ih
fresh_own files (Did number op reply ∷ events) G (F, leads, is) allowed who = go (fresh_own files events F leads allowed.0 who) (number == who) refl
  where
    go : AreFresh (own_steps who events) → (b : Bool) → number == who ≡ b → AreFresh (cond b ((op, reply) ∷ own_steps who events) (own_steps who events))
    go ih true same = (
      ih,
      subst (λ w. IsFresh (op, reply) (own_steps w events)) (eqb-true number who same) (fresh_step files events F (laws_hold files events F leads allowed.0) number op reply G allowed.1 is),
    )
    go ih false other = ih
fresh_own files (Left number op cut ∷ events) G (F, leads, is) allowed who = fresh_own files events F leads allowed.0 who
