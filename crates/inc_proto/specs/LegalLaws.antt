-- Laws of legal histories and of what sessions see.
use Rattle.std.specs.Prelude.{◌≡◌, ◌≢◌, ◌==◌, ◌++◌, ℕ, Bool, true, false, cond, List, [], ◌∷◌, Option, Some, None, IsSome, refl}
use Rattle.std.specs.List.{AllByRecursion}
use Rattle.std.proofs.Common.{ap, ◌∙◌, sym, subst}
use Rattle.std.proofs.lemmas.Bool.{ne_eqb}
use Rattle.inc_base.specs.declared.job.Job.{Job}
use Rattle.inc_fs.specs.State.{State}
use Rattle.inc_fs.specs.declared.op.Op.{Op}
use Rattle.inc_proto.specs.declared.event.Event.{Event}
use Rattle.inc_proto.specs.declared.event.Event.TheVariants.{Begin, Did, Left}
use Rattle.inc_proto.specs.Events.{is_running, job_of, own_steps, by, Steps, AreOfRunning}
use Rattle.inc_proto.specs.EventLaws.{is_running-by, job_of-by, own_steps-by}
use Rattle.inc_proto.specs.Files.{Files}
use Rattle.inc_proto.specs.Growth.{IsOfOther}
use Rattle.inc_proto.specs.Leads.{LeadsTo, IsPossible}
use Rattle.inc_proto.specs.Legal.{Sight, sighted, sight_of, view_of, MaySee, MayDo, MayLeave, AreAllowed, IsLegal}

-- ---- Prefixes.

allowed_before : (files : Files) (later earlier : List Event) → AreAllowed files (later ++ earlier) → AreAllowed files earlier
allowed_before files [] earlier allowed = allowed
allowed_before files (event ∷ later) earlier allowed = allowed_before files later earlier allowed.0

legal_from : (files : Files) (later earlier : List Event) (G : State) → LeadsTo (later ++ earlier) G → AreAllowed files earlier → IsLegal files earlier
legal_from files [] earlier G leads allowed = record { state = G; leads = leads; allowed = allowed }
legal_from files (event ∷ later) earlier G (F, leads, is) allowed = legal_from files later earlier F leads allowed

-- what a legal history began with is legal
pub legal_before : (files : Files) (later earlier : List Event) → IsLegal files (later ++ earlier) → IsLegal files earlier
legal_before files later earlier legal = legal_from files later earlier legal.state legal.leads (allowed_before files later earlier legal.allowed)

-- a legal history can have happened
pub legal_possible : (files : Files) (events : List Event) → IsLegal files events → IsPossible events
legal_possible files events legal = record { state = legal.state; leads = legal.leads }

-- ---- What sessions see.

-- what three readings say of a session
abbrev pub seen_by : Bool → Option Job → Steps → Option Sight
seen_by runs job steps = cond runs (sighted job steps) None

same_seen : (r s : Bool) (i j : Option Job) (x y : Steps) → r ≡ s → i ≡ j → x ≡ y → seen_by r i x ≡ seen_by s j y
same_seen r s i j x y runs job steps = ap (λ r. seen_by r i x) runs ∙ ap (λ i. seen_by s i x) job ∙ ap (λ x. seen_by s j x) steps

skipped : {A : Type 0} (number who : ℕ) (x y : A) → number ≢ who → cond (number == who) x y ≡ y
skipped number who x y apart = ap (λ b. cond b x y) (ne_eqb number who apart)

-- another's event leaves alone what a session sees
pub other_keeps_view : (who : ℕ) (event : Event) (events : List Event) → IsOfOther who event → view_of who (event ∷ events) ≡ view_of who events
other_keeps_view who (Begin number job) events apart =
    same_seen _ _ _ _ _ _ (skipped number who true (is_running who events) apart) (skipped number who (Some job) (job_of who events) apart)
    (skipped number who [] (own_steps who events) apart)
other_keeps_view who (Did number op reply) events apart =
    same_seen _ _ _ _ _ _ refl refl (skipped number who ((op, reply) ∷ own_steps who events) (own_steps who events) apart)
other_keeps_view who (Left number op cut) events apart =
    same_seen _ _ _ _ _ _ (skipped number who false (is_running who events) apart) refl refl

-- and so do others' events, however many
pub others_keep_view : (who : ℕ) (others old : List Event) → AllByRecursion (IsOfOther who) others → view_of who (others ++ old) ≡ view_of who old
others_keep_view who [] old by_others = refl
others_keep_view who (event ∷ others) old by_others = other_keeps_view who event (others ++ old) by_others.0 ∙ others_keep_view who others old by_others.1

-- a step that a session may make it may still make after others' events
pub others_keep_may : (files : Files) (who : ℕ) (op : Op) (others old : List Event) → AllByRecursion (IsOfOther who) others
    → MayDo files old who op → MayDo files (others ++ old) who op
others_keep_may files who op others old by_others may = subst (λ sight. MaySee files sight op) (sym (others_keep_view who others old by_others)) may

-- what a session sees is read from its own events
pub view_of-by : (who : ℕ) (events : List Event) → view_of who (by who events) ≡ view_of who events
view_of-by who events = same_seen _ _ _ _ _ _ (is_running-by who events) (job_of-by who events) (own_steps-by who events)

-- ---- Who runs.

runs_if : (files : Files) (r : Bool) (s : Option Sight) (op : Op) → MaySee files (cond r s None) op → r ≡ true
runs_if files true s op may = refl
runs_if files false s op may = absurd may

leaves_if : (files : Files) (events : List Event) (who : ℕ) (op : Option Op) → MayLeave files events who op → is_running who events ≡ true
leaves_if files events who None may = sees_if (is_running who events) (sight_of who events) may
  where
    sees_if : (r : Bool) (s : Option Sight) → IsSome (cond r s None) → r ≡ true
    sees_if true s may = refl
    sees_if false s may = absurd (cc)
leaves_if files events who (Some op) may = runs_if files (is_running who events) (sight_of who events) op may.1

-- each step and leaving of a legal history is of a session that runs then
pub allowed_running : (files : Files) (events : List Event) → AreAllowed files events → AreOfRunning events
allowed_running files [] allowed = tt
allowed_running files (Begin number job ∷ events) allowed = (tt, allowed_running files events allowed.0)
allowed_running files (Did number op reply ∷ events) allowed =
    (runs_if files (is_running number events) (sight_of number events) op allowed.1, allowed_running files events allowed.0)
allowed_running files (Left number op cut ∷ events) allowed = (leaves_if files events number op allowed.1, allowed_running files events allowed.0)
