-- Each step of an ending is permitted, and the session ends as its own steps say.
use Rattle.std.proofs.Common.{◌≡◌, ℕ, Bool, true, false, cond, [], ◌∷◌, refl, ap, sym, ◌∙◌, subst, inl, inr}
use Rattle.std.specs.Prelude.{◌||◌, None, Some}
use Rattle.inc_base.specs.Meters.{raised}
use Rattle.inc_base.specs.declared.job.Job.{Job}
use Rattle.inc_fs.specs.Kinds.{IsKindOf}
use Rattle.inc_fs.specs.Paths.{Text}
use Rattle.inc_fs.specs.declared.op.Op.TheVariants.{RemoveDir, UnlinkLock, Close}
use Rattle.inc_fs.specs.declared.op.Reply.{Reply}
use Rattle.inc_fs.specs.declared.op.Reply.TheVariants.{Done, Missing, NotEmpty, Fault}
use Rattle.inc_laws.specs.Fair.{CanBe}
use Rattle.inc_names.specs.declared.session.SessionName.{SessionName}
use Rattle.inc_names.specs.Entries.{lock_text, working_text}
use Rattle.inc_plan.specs.Plan.{Plan, then, asks, fed, Safe}
use Rattle.inc_plan.specs.Plan.Plan.{Give, Ask}
use Rattle.inc_proto.specs.Events.{Steps}
use Rattle.inc_proto.specs.Permits.{MayRemoveLock}
use Rattle.inc_proto.specs.Views.{dir, dir_after}
use Rattle.inc_proto.specs.Views.Dir.{Stands, Removed}
use Rattle.inc_session.specs.Compiling.{compiled_of, units_in, units_of}
use Rattle.inc_session.specs.Ending.{is_fault, lock_gone, dir_gone, fails}
use Rattle.inc_session.specs.Ends.{judge, making, IsWorking, IsCauseOf, SaveFits}
use Rattle.inc_session.specs.Order.{after_saving}
use Rattle.inc_session.specs.Reading.{metered}
use Rattle.inc_session.specs.Saves.{saved_files}
use Rattle.inc_session.specs.Saving.{SaveEnd}
use Rattle.inc_session.specs.Saving.SaveEnd.{Saved, Faulted, Off}
use Rattle.inc_session.specs.declared.compile.Made.{Made}
use Rattle.inc_session.specs.declared.outcome.Outcome.{Outcome}
use Rattle.inc_session.specs.declared.outcome.Outcome.TheVariants.{Errors}
use Rattle.inc_session.proofs.Fair.{IsFair}
use Rattle.inc_session.proofs.Words.{here}

or_none : (b : Bool) → b ≡ (b || false)
or_none true = refl
or_none false = refl

module _ (job : Job) (its : SessionName) (h : ℕ) where
  abbrev Good : Plan Outcome → Steps → Type 0
  Good plan steps = Safe (judge job) (IsCauseOf job) plan steps

  -- published, it closes its lock
  pub saved_safe : (made : Made) → (compiled_of job).made ≡ Some made → (end : SaveEnd) (steps : Steps) → SaveFits job its h end steps
      → Safe (judge job) (IsCauseOf job) (after_saving (compiled_of job).diags made.image made.units h end) steps
  saved_safe made compiled Saved steps saved = (
    (λ can. tt),
    λ reply kind. record {
      its = its;
      handle = h;
      made = made;
      compiled = compiled;
      diags_are = refl;
      image_is = refl;
      units_are = refl;
      all_emitted = refl;
      before = steps;
      saved = saved;
      closed = reply;
      ended = refl;
      noted = refl;
      rose = λ start. ap (λ steps. metered (units_of job) steps start) saved.is ∙ saved.working.rose start ∙ ap (λ made. raised start (units_in made)) compiled;
    },
  )
  saved_safe made compiled Faulted steps cut = cut
  saved_safe made compiled (Off op reply) steps off = off

  -- ---- After errors.

  module _ (fair : IsFair job) (errors : (compiled_of job).made ≡ None) (before : Steps) (w : IsWorking job its h [] (making job its ∷ before)) where
    abbrev made_dir : Steps
    made_dir = making job its ∷ before

    abbrev next : Bool → Plan Outcome
    next note = Give (Errors (compiled_of job).diags note)

    abbrev entry : Text
    entry = working_text its

    emits_none : (start : ℕ) → metered (units_of job) made_dir start ≡ raised start 0
    emits_none start = w.rose start ∙ ap (λ made. raised start (units_in made)) errors

    removed : dir ((RemoveDir job.krate entry, Done) ∷ made_dir) ≡ Removed
    removed = ap (dir_after (RemoveDir job.krate entry, Done)) w.has_dir ∙ ap (λ b. cond b Removed (Stands job.krate entry [])) (here job.krate entry)

    was_removed : (gone : Reply) → Some gone ≡ Some Done → dir ((RemoveDir job.krate entry, gone) ∷ made_dir) ≡ Removed
    was_removed gone is =
        let done : gone ≡ Done = cc in
        ap (λ gone. dir ((RemoveDir job.krate entry, gone) ∷ made_dir)) done ∙ removed

    -- the directory is answered to be gone, or passed over, and then the lock file is to go
    module _ (gone : Reply) (goes : dir_gone job.krate its h gone ≡ Ask (UnlinkLock job.krate (lock_text its)) (lock_gone h)) (calm : is_fault gone ≡ false) where
      lock_gone_safe : (reply : Reply) → Good (then (lock_gone h reply) next) ((UnlinkLock job.krate (lock_text its), reply) ∷ (RemoveDir job.krate entry, gone) ∷ made_dir)
      lock_gone_safe reply = (
        (λ can. tt),
        λ closed kind. record {
          its = its;
          handle = h;
          errors = errors;
          diags_are = refl;
          before = before;
          ended = record {
            ending = (Close h, closed) ∷ (UnlinkLock job.krate (lock_text its), reply) ∷ (RemoveDir job.krate entry, gone) ∷ [];
            made = refl;
            whole = record { follows = (((tt, refl), ap asks goes), ap (λ plan. asks (fed plan reply)) goes); ended = ap (λ plan. fed (fed plan reply) closed) goes };
            noted = ap (λ b. is_fault closed || b) (or_none (is_fault reply) ∙ ap (λ b. is_fault reply || (b || false)) (sym calm));
          };
          sooner = (UnlinkLock job.krate (lock_text its), reply) ∷ (RemoveDir job.krate entry, gone) ∷ made_dir;
          closed = closed;
          last = refl;
          named = w.named;
          removed = λ is. ap (λ d. dir_after (Close h, closed) (dir_after (UnlinkLock job.krate (lock_text its), reply) d)) (was_removed gone is);
          rose = emits_none;
        },
      )

      unlocks_safe : (CanBe saved_files job ((RemoveDir job.krate entry, gone) ∷ made_dir) → MayRemoveLock job ((RemoveDir job.krate entry, gone) ∷ made_dir) job.krate (lock_text its))
          → Good (then (Ask (UnlinkLock job.krate (lock_text its)) (lock_gone h)) next) ((RemoveDir job.krate entry, gone) ∷ made_dir)
      unlocks_safe may = (may, λ reply kind. lock_gone_safe reply)

    dir_gone_safe : (reply : Reply) → IsKindOf (RemoveDir job.krate entry) reply → Good (then (dir_gone job.krate its h reply) next) ((RemoveDir job.krate entry, reply) ∷ made_dir)
    dir_gone_safe Done kind = unlocks_safe Done refl refl (λ can. inl (its, w.named, refl, refl, (h, w.locked), inr removed))
    dir_gone_safe Missing kind = unlocks_safe Missing refl refl (λ can. absurd (fair.there job.krate entry h made_dir w.locked w.has_dir can))
    dir_gone_safe NotEmpty kind = unlocks_safe NotEmpty refl refl (λ can. absurd (fair.empty job.krate entry h made_dir w.locked w.has_dir can))
    dir_gone_safe Fault kind = (
      (λ can. tt),
      λ closed kind. record {
        its = its;
        handle = h;
        errors = errors;
        diags_are = refl;
        before = before;
        ended = record {
          ending = (Close h, closed) ∷ (RemoveDir job.krate entry, Fault) ∷ [];
          made = refl;
          whole = record { follows = ((tt, refl), refl); ended = refl };
          noted = refl;
        };
        sooner = (RemoveDir job.krate entry, Fault) ∷ made_dir;
        closed = closed;
        last = refl;
        named = w.named;
        removed = λ is. absurd (cc);
        rose = emits_none;
      },
    )
    dir_gone_safe reply kind = absurd (cc)

    made_dir_safe : Good (then (fails job.krate its h) next) made_dir
    made_dir_safe = ((λ can. inl ([], w.has_dir, (h, w.locked))), λ reply kind. dir_gone_safe reply kind.0)

  -- with errors, its directory and its lock file go
  pub fails_safe : IsFair job → (compiled_of job).made ≡ None → (before steps : Steps) → steps ≡ making job its ∷ before → IsWorking job its h [] steps
      → Safe (judge job) (IsCauseOf job) (then (fails job.krate its h) (λ note. Give (Errors (compiled_of job).diags note))) steps
  fails_safe fair errors before steps is w =
      subst (λ steps. Good (then (fails job.krate its h) (λ note. Give (Errors (compiled_of job).diags note))) steps) (sym is)
      (made_dir_safe fair errors before (subst (IsWorking job its h []) is w))
