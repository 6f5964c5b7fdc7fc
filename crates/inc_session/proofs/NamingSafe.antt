-- Each step of naming is permitted, and it ends as its own steps say.
use Rattle.std.proofs.Common.{◌≡◌, ℕ, zero, suc, ◌+◌, Bool, true, false, cond, List, ◌∷◌, refl, ap, sym, ◌∙◌, subst, inl, inr, arith}
use Rattle.std.specs.Prelude.{not, Some}
use Rattle.inc_base.specs.Meters.{raised}
use Rattle.inc_base.specs.declared.job.Job.{Job}
use Rattle.inc_fs.specs.Kinds.{IsKindOf}
use Rattle.inc_fs.specs.Lists.{IsIn}
use Rattle.inc_fs.specs.Paths.{Text}
use Rattle.inc_fs.specs.declared.op.Op.{Op}
use Rattle.inc_fs.specs.declared.op.Op.TheVariants.{Draw, MakeLock, TryLock, Look, MakeDir, Close}
use Rattle.inc_fs.specs.declared.op.Reply.{Reply}
use Rattle.inc_fs.specs.declared.op.Reply.TheVariants.{Drawn, Handle, Names, Done, Got, Held, Exists, Missing, Fault}
use Rattle.inc_laws.specs.Readings.{draws, draws_after}
use Rattle.inc_names.specs.declared.session.SessionName.{SessionName}
use Rattle.inc_names.specs.Entries.{lock_text, working_text}
use Rattle.inc_names.specs.EntryLaws.{same_lock_text}
use Rattle.inc_plan.specs.Plan.{Plan, Safe}
use Rattle.inc_plan.specs.Plan.Plan.{Ask}
use Rattle.inc_proto.specs.Events.{Steps}
use Rattle.inc_proto.specs.Views.{name, dir_after, made_dir as dir_made, own, alone, begun, grown, IsMakeDir, tried_own}
use Rattle.inc_proto.specs.Views.Dir.{Unmade}
use Rattle.inc_proto.specs.declared.own.OwnLock.TheVariants.{Locked, Unlocked}
use Rattle.inc_session.specs.Compiling.{units_of}
use Rattle.inc_session.specs.Ends.{judge, IsUnnamed, IsCutByFault, NamingFits}
use Rattle.inc_session.specs.Naming.{lists, naming, drawn, made_lock, locked, looked, made_dir, lost, closed}
use Rattle.inc_session.specs.Reading.{loses, is_listed, lost_names, metered_step}
use Rattle.inc_session.specs.declared.naming.NamingEnd.{NamingEnd}
use Rattle.inc_session.proofs.Fair.{IsFair}
use Rattle.inc_session.proofs.Words.{itself, got_some, is_in}

module _ (job : Job) (fair : IsFair job) (names : ℕ) where
  abbrev Good : Plan NamingEnd → Steps → Type 0
  Good plan steps = Safe (judge job) (NamingFits job names) plan steps

  -- after a step that makes no directory, no lock file but of a name that was drawn, and emits nothing
  more : (lost now : ℕ) (op : Op) (reply : Reply) (steps : Steps) → IsUnnamed job lost steps → dir_made (op, reply) ≡ Unmade → ¬ IsMakeDir (op, reply)
      → ((n : SessionName) → op ≡ MakeLock job.krate (lock_text n) → IsIn (draws steps) n)
      → ((n : SessionName) → IsIn (draws steps) n → IsIn (draws ((op, reply) ∷ steps)) n)
      → lost_names ((op, reply) ∷ steps) ≡ now → ((count : ℕ) → metered_step (units_of job) op reply count ≡ count)
      → IsUnnamed job now ((op, reply) ∷ steps)
  more lost now op reply steps u quiet no_dir new kept lost_is still = record {
    no_dir = ap (dir_after (op, reply)) u.no_dir ∙ quiet;
    untried = λ tried. elim tried [ inl this ↦ no_dir this | inr before ↦ u.untried before ];
    drawn = λ n tried. elim tried [ inl this ↦ kept n (new n this) | inr before ↦ kept n (u.drawn n before) ];
    lost_is = lost_is;
    still = λ start. still _ ∙ u.still start;
  }

  -- after a step on its locks, or a look, that keeps its name
  keeps : (lost : ℕ) (op : Op) (reply : Reply) (steps : Steps) → IsUnnamed job lost steps → dir_made (op, reply) ≡ Unmade → ¬ IsMakeDir (op, reply)
      → ((n : SessionName) → op ≡ MakeLock job.krate (lock_text n) → ⊥) → draws_after (op, reply) (draws steps) ≡ draws steps
      → loses (op, reply) (name steps) ≡ false → ((count : ℕ) → metered_step (units_of job) op reply count ≡ count) → IsUnnamed job lost ((op, reply) ∷ steps)
  keeps lost op reply steps u made no_dir no_lock same kept still =
      more lost lost op reply steps u made no_dir (λ n is. absurd (no_lock n is)) (λ n is. subst (λ names. IsIn names n) (sym same) is)
      (ap (λ b. cond b (lost_names steps + 1) (lost_names steps)) kept ∙ u.lost_is) still

  -- or that loses it
  gives_up : (lost : ℕ) (op : Op) (reply : Reply) (steps : Steps) → IsUnnamed job lost steps → dir_made (op, reply) ≡ Unmade → ¬ IsMakeDir (op, reply)
      → ((n : SessionName) → op ≡ MakeLock job.krate (lock_text n) → ⊥) → draws_after (op, reply) (draws steps) ≡ draws steps
      → loses (op, reply) (name steps) ≡ true → ((count : ℕ) → metered_step (units_of job) op reply count ≡ count) → IsUnnamed job (lost + 1) ((op, reply) ∷ steps)
  gives_up lost op reply steps u made no_dir no_lock same gone still =
      more lost (lost + 1) op reply steps u made no_dir (λ n is. absurd (no_lock n is)) (λ n is. subst (λ names. IsIn names n) (sym same) is)
      (ap (λ b. cond b (lost_names steps + 1) (lost_names steps)) gone ∙ ap (λ k. k + 1) u.lost_is) still

  -- cut by a fault
  cut : (lost : ℕ) (op : Op) (steps : Steps) → IsUnnamed job lost steps → IsCutByFault job ((op, Fault) ∷ steps)
  cut lost op steps u = record { asked = op; before = steps; made = refl; early = inl u.no_dir }

  -- it has made its lock file, by this handle
  record HasLockFile (n : SessionName) (handle lost : ℕ) (steps : Steps) : Type 0 where
    unnamed : IsUnnamed job lost steps
    named : name steps ≡ Some n
    unlocked : own steps ≡ Unlocked handle

  -- and locked it, these steps ago
  record HasGot (n : SessionName) (handle lost : ℕ) (after steps : Steps) : Type 0 where
    unnamed : IsUnnamed job lost steps
    named : name steps ≡ Some n
    locked : own steps ≡ Locked handle
    held : alone handle steps ≡ Some after

  module _ (again : Plan NamingEnd) (lost_so : ℕ) (on : (steps : Steps) → IsUnnamed job (lost_so + 1) steps → Good again steps) where
    closed_safe : (handle : ℕ) (reply : Reply) (steps : Steps) → IsUnnamed job (lost_so + 1) steps → Good (closed job.krate again reply) ((Close handle, reply) ∷ steps)
    closed_safe handle Fault steps u = cut (lost_so + 1) (Close handle) steps u
    closed_safe handle reply steps u = on ((Close handle, reply) ∷ steps) (keeps (lost_so + 1) (Close handle) reply steps u refl (λ n. n) (λ n is. cc) refl refl (λ count. refl))

    lost_safe : (handle : ℕ) (steps : Steps) → IsUnnamed job (lost_so + 1) steps → Good (lost job.krate again handle) steps
    lost_safe handle steps u = ((λ can. tt), λ reply kind. closed_safe handle reply steps u)

    made_dir_safe : (n : SessionName) (handle : ℕ) (reply : Reply) (after steps : Steps) → HasGot n handle lost_so after steps → IsKindOf (MakeDir job.krate (working_text n)) reply
        → Good (made_dir job.krate again n handle reply) ((MakeDir job.krate (working_text n), reply) ∷ steps)
    made_dir_safe n handle Done after steps g kind = (
      record {
        named = g.named;
        locked = g.locked;
        has_dir = ap (dir_after (MakeDir job.krate (working_text n), Done)) g.unnamed.no_dir;
        rose = λ start. ap (λ count. raised count (units_of job)) (g.unnamed.still start);
      },
      (steps, refl),
    )
    made_dir_safe n handle Exists after steps g kind = record { before = steps; made = refl; disturbs = tt; early = inl g.unnamed.no_dir }
    made_dir_safe n handle Fault after steps g kind = cut lost_so (MakeDir job.krate (working_text n)) steps g.unnamed
    made_dir_safe n handle reply after steps g kind = absurd (cc)

    listed_safe : (n : SessionName) (handle : ℕ) (seen : List Text) (after steps : Steps) → HasGot n handle lost_so after steps → (is_seen : Bool) → lists seen (lock_text n) ≡ is_seen
        → Good (cond is_seen (Ask (MakeDir job.krate (working_text n)) (made_dir job.krate again n handle)) (lost job.krate again handle)) ((Look job.krate, Names seen) ∷ steps)
    listed_safe n handle seen after steps g true is =
        let kept : loses (Look job.krate, Names seen) (name steps) ≡ false = ap (λ its. not (is_listed seen its)) g.named ∙ ap not is in
        let now : HasGot n handle lost_so ((Look job.krate, Names seen) ∷ after) ((Look job.krate, Names seen) ∷ steps) = record {
          unnamed = keeps lost_so (Look job.krate) (Names seen) steps g.unnamed refl (λ n. n) (λ n is. cc) refl kept (λ count. refl);
          named = g.named;
          locked = g.locked;
          held = ap (grown (Look job.krate, Names seen)) g.held;
        } in (
          (λ can. (n, handle, (Look job.krate, Names seen) ∷ after, g.named, refl, refl, now.unnamed.untried, g.locked, now.held, inl (refl, is_in seen (lock_text n) is))),
          λ reply kind. made_dir_safe n handle reply ((Look job.krate, Names seen) ∷ after) ((Look job.krate, Names seen) ∷ steps) now kind.0,
        )
    listed_safe n handle seen after steps g false is =
        let gone : loses (Look job.krate, Names seen) (name steps) ≡ true = ap (λ its. not (is_listed seen its)) g.named ∙ ap not is in
        lost_safe handle ((Look job.krate, Names seen) ∷ steps) (gives_up lost_so (Look job.krate) (Names seen) steps g.unnamed refl (λ n. n) (λ n is. cc) refl gone (λ count. refl))

    looked_safe : (n : SessionName) (handle : ℕ) (reply : Reply) (after steps : Steps) → HasGot n handle lost_so after steps → IsKindOf (Look job.krate) reply
        → Good (looked job.krate again n handle reply) ((Look job.krate, reply) ∷ steps)
    looked_safe n handle (Names seen) after steps g kind = listed_safe n handle seen after steps g (lists seen (lock_text n)) refl
    looked_safe n handle Fault after steps g kind = cut lost_so (Look job.krate) steps g.unnamed
    looked_safe n handle reply after steps g kind = absurd (cc)

    locked_safe : (n : SessionName) (handle : ℕ) (reply : Reply) (steps : Steps) → HasLockFile n handle lost_so steps → IsKindOf (TryLock handle true) reply
        → Good (locked job.krate again n handle reply) ((TryLock handle true, reply) ∷ steps)
    locked_safe n handle Got steps m kind =
        let got = got_some (TryLock handle true, Got) (alone handle steps) in
        let g : HasGot n handle lost_so got.0 ((TryLock handle true, Got) ∷ steps) = record {
          unnamed = keeps lost_so (TryLock handle true) Got steps m.unnamed refl (λ n. n) (λ n is. cc) refl refl (λ count. refl);
          named = m.named;
          locked = ap (tried_own handle true) m.unlocked ∙ itself handle (Locked handle) (Unlocked handle);
          held = itself handle (begun (TryLock handle true, Got) (alone handle steps)) (grown (TryLock handle true, Got) (alone handle steps)) ∙ got.1;
        } in
        ((λ can. tt), λ reply kind. looked_safe n handle reply got.0 ((TryLock handle true, Got) ∷ steps) g kind.0)
    locked_safe n handle Held steps m kind =
        lost_safe handle ((TryLock handle true, Held) ∷ steps) (gives_up lost_so (TryLock handle true) Held steps m.unnamed refl (λ n. n) (λ n is. cc) refl refl (λ count. refl))
    locked_safe n handle Missing steps m kind =
        lost_safe handle ((TryLock handle true, Missing) ∷ steps) (gives_up lost_so (TryLock handle true) Missing steps m.unnamed refl (λ n. n) (λ n is. cc) refl refl (λ count. refl))
    locked_safe n handle Fault steps m kind = cut lost_so (TryLock handle true) steps m.unnamed
    locked_safe n handle reply steps m kind = absurd (cc)

    -- its lock file is of a name that it drew
    made_own : (now : ℕ) (n : SessionName) (reply : Reply) (steps : Steps) → IsUnnamed job lost_so steps → IsIn (draws steps) n → lost_names ((MakeLock job.krate (lock_text n), reply) ∷ steps) ≡ now
        → IsUnnamed job now ((MakeLock job.krate (lock_text n), reply) ∷ steps)
    made_own now n reply steps u drew lost_is =
        more lost_so now (MakeLock job.krate (lock_text n)) reply steps u refl (λ n. n) (λ m is. subst (IsIn (draws steps)) (same_lock_text n m (cc)) drew) (λ n is. is) lost_is (λ count. refl)

    made_lock_safe : (n : SessionName) (reply : Reply) (steps : Steps) → IsUnnamed job lost_so steps → name steps ≡ Some n → IsIn (draws steps) n → IsKindOf (MakeLock job.krate (lock_text n)) reply
        → Good (made_lock job.krate again n reply) ((MakeLock job.krate (lock_text n), reply) ∷ steps)
    made_lock_safe n (Handle handle) steps u named drew kind = (
      (λ can. tt),
      λ reply kind. locked_safe n handle reply ((MakeLock job.krate (lock_text n), Handle handle) ∷ steps)
          (record { unnamed = made_own lost_so n (Handle handle) steps u drew u.lost_is; named = named; unlocked = refl }) kind.0,
    )
    made_lock_safe n Exists steps u named drew kind = on ((MakeLock job.krate (lock_text n), Exists) ∷ steps) (made_own (lost_so + 1) n Exists steps u drew (ap (λ k. k + 1) u.lost_is))
    made_lock_safe n Fault steps u named drew kind = cut lost_so (MakeLock job.krate (lock_text n)) steps u
    made_lock_safe n reply steps u named drew kind = absurd (cc)

    drawn_safe : (reply : Reply) (steps : Steps) → IsUnnamed job lost_so steps → IsKindOf Draw reply → Good (drawn job.krate again reply) ((Draw, reply) ∷ steps)
    drawn_safe (Drawn moment random) steps u kind =
        let n : SessionName = record { moment = moment; random = random } in
        let now : IsUnnamed job lost_so ((Draw, Drawn moment random) ∷ steps) = more lost_so lost_so Draw (Drawn moment random) steps u refl (λ n. n) (λ n is. cc) (λ n is. inr is) u.lost_is (λ count. refl) in (
          (λ can. (n, refl, refl, refl, λ tried. elim tried [ inl this ↦ cc | inr before ↦ fair.fresh moment random steps can (u.drawn n before) ])),
          λ reply kind. made_lock_safe n reply ((Draw, Drawn moment random) ∷ steps) now refl (inl refl) kind.0,
        )
    drawn_safe Fault steps u kind = cut lost_so Draw steps u
    drawn_safe reply steps u kind = absurd (cc)

  pub naming_safe : (left lost_so : ℕ) (steps : Steps) → lost_so + left ≡ names → IsUnnamed job lost_so steps → Safe (judge job) (NamingFits job names) (naming job.krate left) steps
  naming_safe zero lost_so steps all u = record { count = u.lost_is ∙ omega (arith, all); untried = u.untried; still = u.still }
  naming_safe (suc left) lost_so steps all u =
      ((λ can. u.no_dir), λ reply kind. drawn_safe (naming job.krate left) lost_so (λ steps u. naming_safe left (lost_so + 1) steps (omega (arith, all)) u) reply steps u kind.0)
