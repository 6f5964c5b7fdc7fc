-- What the answers to questions about a session's steps say of its permissions.
use Rattle.std.specs.Prelude.{◌≡◌, ◌⊎◌, ◌↔◌, ◌++◌, ℕ, Bool, true, false, IsTrue, IfOk, Ok, Err, List, [], ◌∷◌, Option, Some, None, refl, unwrap_or}
use Rattle.std.proofs.Common.{ap, sym, ◌∙◌, subst, inl, inr}
use Rattle.std.proofs.lemmas.Bool.{false≢true}
use Rattle.std.specs.declared.result.Result.{Result}
use Rattle.inc_base.specs.declared.job.Job.{Job}
use Rattle.inc_fs.specs.Lists.{IsIn}
use Rattle.inc_fs.specs.Paths.{Text}
use Rattle.inc_fs.specs.declared.op.Op.{Op}
use Rattle.inc_fs.specs.declared.op.Op.TheVariants.{Look, MakeLock, Rename}
use Rattle.inc_fs.specs.declared.op.Reply.{Reply}
use Rattle.inc_fs.specs.declared.op.Reply.TheVariants.{Names}
use Rattle.inc_names.specs.declared.session.SessionName.{SessionName}
use Rattle.inc_names.specs.Entries.{lock_text, working_text, final_text, IsSessionName, IsNewer}
use Rattle.inc_names.specs.EntryLaws.{same_lock_text, same_working_text, same_final_name}
use Rattle.inc_wire.specs.Forms.{job_hash_of}
use Rattle.inc_proto.specs.Clears.{IsClearLook, HasClearLook}
use Rattle.inc_proto.specs.Asked.{HasNewer, HoldsBoth, HasWanted}
use Rattle.inc_proto.specs.Events.{Steps}
use Rattle.inc_proto.specs.Files.{Files}
use Rattle.inc_proto.specs.Permits.{IsHash, IsOn, IsNotOut, IsOthers, HasNoDir, HoldsAlone, IsPermitted, MayMakeLock, MayMakeDirectory, MayCreate, MayLink, MayClearOwn, MayClearOthers, MayPublish, MayRetire, MayRemoveOwn, MayRemoveOthers}
use Rattle.inc_proto.specs.Sought.{IsOnBy, Holds}
use Rattle.inc_proto.specs.Views.{name, own, Dir, dir, Opening, opening, alone, HasAny, HasTried, HasTriedDir, HasLooked, HasSeenBoth, HasListed, HasDone, IsStanding, IsLook, IsDone, left_after}
use Rattle.inc_proto.specs.Views.Dir.{Unmade, Removed}
use Rattle.inc_proto.specs.Views.Opening.{Made, Opened}
use Rattle.inc_proto.specs.declared.own.OwnLock.{OwnLock}
use Rattle.inc_proto.specs.declared.own.OwnLock.TheVariants.{NoLock, Unlocked, Locked}
use Rattle.inc_proto.specs.declared.holds.Way.TheVariants.{Alone, ByOpening}

-- ---- Answers.

-- an answer no
pub never : {X : Type 0} → (X → ⊥) → IsTrue false ↔ X
never off = (λ t. absurd (false≢true t), λ x. absurd (off x))

-- the same where the answer has another form
pub never_if : {X : Type 0} {b : Bool} → b ≡ false → (X → ⊥) → IsTrue b ↔ X
never_if is off = (λ t. absurd (false≢true (sym is ∙ t)), λ x. absurd (off x))

-- an answer yes
pub always : {X : Type 0} → X → IsTrue true ↔ X
always x = (λ t. x, λ x. refl)

-- an answer to one question is one to another
pub answers_as : {E : Type 0} (X Y : Type 0) (r : Result Bool E) → (X → Y) → (Y → X) → IfOk r (λ yes. IsTrue yes ↔ X) → IfOk r (λ yes. IsTrue yes ↔ Y)
answers_as X Y (Ok b) to from f = (λ t. to (f.0 t), λ y. f.1 (from y))
answers_as X Y (Err e) to from f = f

-- where the first of two isn't so, the second decides
pub answers_or : {E : Type 0} (X Y : Type 0) (r : Result Bool E) → (X → ⊥) → IfOk r (λ yes. IsTrue yes ↔ Y) → IfOk r (λ yes. IsTrue yes ↔ (X ⊎ Y))
answers_or X Y r off f = answers_as Y (X ⊎ Y) r inr (other X Y off) f
  where
    other : (X Y : Type 0) → (X → ⊥) → X ⊎ Y → Y
    other X Y off (inl x) = absurd (off x)
    other X Y off (inr y) = y

-- ---- Holds.

opened_on : (krate entry : Text) (o : Option Opening) → IsOnBy ByOpening krate entry o → o ≡ Some (Opened krate entry)
opened_on krate entry None on = absurd on
opened_on krate entry (Some (Made k e)) on = absurd on
opened_on krate entry (Some (Opened k e)) on = ap (λ k. Some (Opened k e)) on.0 ∙ ap (λ e. Some (Opened krate e)) on.1

on_opened : (krate entry : Text) (o : Option Opening) → o ≡ Some (Opened krate entry) → IsOnBy ByOpening krate entry o
on_opened krate entry o is = subst (IsOnBy ByOpening krate entry) (sym is) (refl, refl)

alone_on : (krate entry : Text) (o : Option Opening) → IsOnBy Alone krate entry o → IsOn krate entry o
alone_on krate entry None on = absurd on
alone_on krate entry (Some (Made k e)) on = on
alone_on krate entry (Some (Opened k e)) on = on

on_alone : (krate entry : Text) (o : Option Opening) → IsOn krate entry o → IsOnBy Alone krate entry o
on_alone krate entry None on = absurd on
on_alone krate entry (Some (Made k e)) on = on
on_alone krate entry (Some (Opened k e)) on = on

holds_alone : (krate : Text) (n : SessionName) (steps : Steps) (h : ℕ) (after : Steps) → Holds Alone krate n steps h after → HoldsAlone krate n steps h after
holds_alone krate n steps h after holds = (alone_on krate (lock_text n) (opening h steps) holds.0, holds.1)

alone_holds : (krate : Text) (m n : SessionName) (steps : Steps) (h : ℕ) (after : Steps) → m ≡ n → HoldsAlone krate m steps h after → Holds Alone krate n steps h after
alone_holds krate m n steps h after same holds =
    (on_alone krate (lock_text n) (opening h steps) (subst (λ n. IsOn krate (lock_text n) (opening h steps)) same holds.0), holds.1)

-- ---- Linking.

-- it holds n by a handle that it opened, and has since listed the file there
abbrev pub HoldsListing : Text → Text → Text → SessionName → Steps → Type 0
HoldsListing krate from file n steps = (h : ℕ) × (after : Steps) × Holds ByOpening krate n steps h after × HasListed krate from file after

pub may_link : (steps : Steps) (krate from to file : Text) (n : SessionName) (hash : ℕ) → IsSessionName n → IsHash hash → from ≡ final_text n hash
    → MayCreate steps krate to file → HoldsListing krate from file n steps → MayLink steps krate from to file
may_link steps krate from to file n hash named small is may w =
    (may.0, n, hash, w.0, w.1, may.1, may.2, may.3, named, small, is, (opened_on krate (lock_text n) (opening w.0 steps) w.2.0, w.2.1), w.3)

pub link_holds : (steps : Steps) (krate from to file : Text) (n : SessionName) (hash : ℕ) → from ≡ final_text n hash
    → MayLink steps krate from to file → HoldsListing krate from file n steps
link_holds steps krate from to file n hash is w =
    let same : w.1 ≡ n = same_final_name w.1 n w.2 hash (sym w.10 ∙ is) in
    (w.3, w.4, (on_opened krate (lock_text n) (opening w.3 steps) (subst (λ n. opening w.3 steps ≡ Some (Opened krate (lock_text n))) same w.11.0), w.11.1), w.12)

pub link_creates : (steps : Steps) (krate from to file : Text) → MayLink steps krate from to file → MayCreate steps krate to file
link_creates steps krate from to file w = (w.0, w.5, w.6, w.7)

-- ---- Clearing what isn't its own.

pub others_of : (krate : Text) (n : SessionName) (d : Dir) (steps : Steps) → d ≡ dir steps → IsNotOut krate n d → IsOthers krate n steps
others_of krate n d steps is off = subst (IsNotOut krate n) is off

pub of_others : (krate : Text) (n : SessionName) (d : Dir) (steps : Steps) → d ≡ dir steps → IsOthers krate n steps → IsNotOut krate n d
of_others krate n d steps is off = subst (IsNotOut krate n) (sym is) off

back_out : (krate entry : Text) (n : SessionName) (steps : Steps) → HasAny (λ step. (hash : ℕ) × IsHash hash × IsDone (Rename krate (final_text n hash) entry) step) steps
    → (hash : ℕ) × IsHash hash × HasDone (Rename krate (final_text n hash) entry) steps
back_out krate entry n [] any = absurd any
back_out krate entry n (step ∷ steps) (inl is) = (is.0, is.1, inl is.2)
back_out krate entry n (step ∷ steps) (inr any) = let w = back_out krate entry n steps any in (w.0, w.1, inr w.2)

back_in : (krate entry : Text) (n : SessionName) (steps : Steps) (hash : ℕ) → IsHash hash → HasDone (Rename krate (final_text n hash) entry) steps
    → HasAny (λ step. (hash : ℕ) × IsHash hash × IsDone (Rename krate (final_text n hash) entry) step) steps
back_in krate entry n [] hash small any = absurd any
back_in krate entry n (step ∷ steps) hash small (inl is) = inl (hash, small, is)
back_in krate entry n (step ∷ steps) hash small (inr any) = inr (back_in krate entry n steps hash small any)

-- it saw the directory, or renamed it back itself
abbrev pub HasFound : Text → Text → SessionName → Steps → Type 0
HasFound krate entry n after =
    HasLooked krate entry after ⊎ HasAny (λ step. (hash : ℕ) × IsHash hash × IsDone (Rename krate (final_text n hash) entry) step) after

found_out : (krate entry : Text) (n : SessionName) (after : Steps) → HasFound krate entry n after
    → HasLooked krate entry after ⊎ ((hash : ℕ) × IsHash hash × HasDone (Rename krate (final_text n hash) entry) after)
found_out krate entry n after (inl is) = inl is
found_out krate entry n after (inr is) = inr (back_out krate entry n after is)

found_in : (krate entry : Text) (n : SessionName) (after : Steps)
    → HasLooked krate entry after ⊎ ((hash : ℕ) × IsHash hash × HasDone (Rename krate (final_text n hash) entry) after) → HasFound krate entry n after
found_in krate entry n after (inl is) = inl is
found_in krate entry n after (inr w) = inr (back_in krate entry n after w.0 w.1 w.2)

abbrev pub HoldsFound : Text → Text → SessionName → Steps → Type 0
HoldsFound krate entry n steps = (h : ℕ) × (after : Steps) × Holds Alone krate n steps h after × HasFound krate entry n after

pub may_clear_others : (steps : Steps) (krate entry : Text) (n : SessionName) → IsSessionName n → entry ≡ working_text n → IsOthers krate n steps
    → HoldsFound krate entry n steps → MayClearOthers steps krate entry
may_clear_others steps krate entry n named is others w =
    (n, w.0, w.1, named, is, holds_alone krate n steps w.0 w.1 w.2, others, found_out krate entry n w.1 w.3)

pub clear_holds : (steps : Steps) (krate entry : Text) (n : SessionName) → entry ≡ working_text n → MayClearOthers steps krate entry → HoldsFound krate entry n steps
clear_holds steps krate entry n is w =
    let same : w.0 ≡ n = same_working_text w.0 n (sym w.4 ∙ is) in
    (w.1, w.2, alone_holds krate w.0 n steps w.1 w.2 same w.5, subst (λ n. HasFound krate entry n w.2) same (found_in krate entry w.0 w.2 w.7))

pub clear_others : (steps : Steps) (krate entry : Text) (n : SessionName) → entry ≡ working_text n → MayClearOthers steps krate entry → IsOthers krate n steps
clear_others steps krate entry n is w = subst (λ n. IsOthers krate n steps) (same_working_text w.0 n (sym w.4 ∙ is)) w.6

-- ---- Removing another's lock file.

-- what a clear `Look` lists
abbrev pub Clears : Text → SessionName → Steps → Type 0
Clears krate n after =
    (later : Steps) × (earlier : Steps) × (names : List Text) × (after ≡ later ++ (Look krate, Names names) ∷ earlier) × IsIn names (lock_text n) × HasNoDir n (left_after krate later names)

clears_by : (krate : Text) (n : SessionName) (after later earlier : Steps) (step : Op × Reply) → after ≡ later ++ step ∷ earlier → IsClearLook krate n step later → Clears krate n after
clears_by krate n after later earlier (Look k, Names names) same is =
    (later, earlier, names, subst (λ k. after ≡ later ++ (Look k, Names names) ∷ earlier) is.0 same, is.1, is.2)
clears_by krate n after later earlier step same is = absurd is

abbrev pub HoldsClear : Text → SessionName → Steps → Type 0
HoldsClear krate n steps = (h : ℕ) × (after : Steps) × Holds Alone krate n steps h after × HasClearLook krate n after

pub may_remove_others : (steps : Steps) (krate entry : Text) (n : SessionName) → IsSessionName n → entry ≡ lock_text n → HoldsClear krate n steps → MayRemoveOthers steps krate entry
may_remove_others steps krate entry n named is w =
    let look = clears_by krate n w.1 w.3.0 w.3.1 w.3.2 w.3.3 w.3.4 in
    (n, w.0, w.1, look.0, look.1, look.2, named, is, holds_alone krate n steps w.0 w.1 w.2, look.3, subst (IsIn look.2) (sym is) look.4, look.5)

pub remove_holds : (steps : Steps) (krate entry : Text) (n : SessionName) → entry ≡ lock_text n → MayRemoveOthers steps krate entry → HoldsClear krate n steps
remove_holds steps krate entry n is w =
    let same : w.0 ≡ n = same_lock_text w.0 n (sym w.7 ∙ is) in (
      w.1,
      w.2,
      alone_holds krate w.0 n steps w.1 w.2 same w.8,
      (w.3, w.4, (Look krate, Names w.5), w.9, (refl, subst (IsIn w.5) is w.10, subst (λ n. HasNoDir n (left_after krate w.3 w.5)) same w.11)),
    )

-- ---- Retiring.

pub newer_out : (krate : Text) (n : SessionName) (steps : Steps)
    → HasAny (λ step. (m : SessionName) × (hash : ℕ) × IsSessionName m × IsHash hash × IsLook krate (final_text m hash) step × IsNewer m n) steps → HasNewer krate n steps
newer_out krate n [] any = absurd any
newer_out krate n (step ∷ steps) (inl is) = (is.0, is.1, is.2, is.3, inl is.4, is.5)
newer_out krate n (step ∷ steps) (inr any) = let w = newer_out krate n steps any in (w.0, w.1, w.2, w.3, inr w.4, w.5)

pub newer_in : (krate : Text) (n : SessionName) (steps : Steps) (m : SessionName) (hash : ℕ) → IsSessionName m → IsHash hash → HasLooked krate (final_text m hash) steps → IsNewer m n
    → HasAny (λ step. (m : SessionName) × (hash : ℕ) × IsSessionName m × IsHash hash × IsLook krate (final_text m hash) step × IsNewer m n) steps
newer_in krate n [] m hash named small any newer = absurd any
newer_in krate n (step ∷ steps) m hash named small (inl is) newer = inl (m, hash, named, small, is, newer)
newer_in krate n (step ∷ steps) m hash named small (inr any) newer = inr (newer_in krate n steps m hash named small any newer)

pub may_retire : (steps : Steps) (krate from to : Text) (n : SessionName) (hash : ℕ) → IsSessionName n → IsHash hash → from ≡ final_text n hash → to ≡ working_text n
    → IsOthers krate n steps → HasNewer krate n steps → HoldsBoth krate from n steps → MayRetire steps krate from to
may_retire steps krate from to n hash named small is back others newer w =
    (n, hash, w.0, w.1, newer.0, newer.1, named, small, is, back, holds_alone krate n steps w.0 w.1 w.2, others, w.3, newer.2, newer.3, newer.4, newer.5)

pub retires_of : (steps : Steps) (krate from to : Text) (n : SessionName) (hash : ℕ) (d : Dir) → d ≡ dir steps → from ≡ final_text n hash
    → MayRetire steps krate from to → (to ≡ working_text n) × IsNotOut krate n d × HasNewer krate n steps
retires_of steps krate from to n hash d at is w =
    let same : w.0 ≡ n = same_final_name w.0 n w.1 hash (sym w.8 ∙ is) in (
      w.9 ∙ ap working_text same,
      of_others krate n d steps at (subst (λ n. IsOthers krate n steps) same w.11),
      (w.4, w.5, w.13, w.14, w.15, subst (IsNewer w.4) same w.16),
    )

pub retires_both : (steps : Steps) (krate from to : Text) (n : SessionName) (hash : ℕ) → from ≡ final_text n hash → MayRetire steps krate from to → HoldsBoth krate from n steps
retires_both steps krate from to n hash is w =
    let same : w.0 ≡ n = same_final_name w.0 n w.1 hash (sym w.8 ∙ is) in
    (w.2, w.3, alone_holds krate w.0 n steps w.2 w.3 same w.10, subst (λ n. HasSeenBoth krate (lock_text n) from w.3) same w.12)

-- ---- Its own name.

some_same : {A : Type 0} (m n : A) → Some m ≡ Some n → m ≡ n
some_same m n is = ap (λ o. unwrap_or o n) is

none_some : {A : Type 0} {x : A} → None ≡ Some x → ⊥
none_some is = cc

-- it drew no name, so it has none
pub unnamed : {A : Type 0} {x : A} (o p : Option A) → o ≡ None → o ≡ p → p ≡ Some x → ⊥
unnamed o p none is some = none_some (sym none ∙ is ∙ some)

abbrev pub IsFirstLock : Job → Steps → Text → Text → SessionName → Type 0
IsFirstLock job steps krate entry n = (krate ≡ job.krate) × (entry ≡ lock_text n) × (¬ HasTried (MakeLock krate entry) steps)

pub may_make_lock : (job : Job) (steps : Steps) (krate entry : Text) (n : SessionName) → name steps ≡ Some n → IsFirstLock job steps krate entry n → MayMakeLock job steps krate entry
may_make_lock job steps krate entry n named w = (n, named, w.0, w.1, w.2)

pub lock_is_first : (job : Job) (steps : Steps) (krate entry : Text) (n : SessionName) → name steps ≡ Some n → MayMakeLock job steps krate entry → IsFirstLock job steps krate entry n
lock_is_first job steps krate entry n named w = (w.2, w.3 ∙ ap lock_text (some_same w.0 n (sym w.1 ∙ named)), w.4)

abbrev pub IsFirstDir : Job → Steps → Text → Text → SessionName → Type 0
IsFirstDir job steps krate entry n = (krate ≡ job.krate) × (entry ≡ working_text n) × (¬ HasTriedDir steps)

-- it has its own lock, and its lock file has stood since
abbrev pub HasStandingLock : OwnLock → Text → SessionName → Steps → Type 0
HasStandingLock lock krate n steps = (h : ℕ) × (after : Steps) × (lock ≡ Locked h) × (alone h steps ≡ Some after) × IsStanding krate (lock_text n) after

-- the same by this handle
abbrev pub StandsSince : ℕ → Text → SessionName → Steps → Type 0
StandsSince h krate n steps = (after : Steps) × (alone h steps ≡ Some after) × IsStanding krate (lock_text n) after

pub stands_locked : (lock : OwnLock) (h : ℕ) (krate : Text) (n : SessionName) (steps : Steps) → lock ≡ Locked h → StandsSince h krate n steps → HasStandingLock lock krate n steps
stands_locked lock h krate n steps is w = (h, w.0, is, w.1, w.2)

-- the handle of a lock, where it has one
abbrev handle_of : ℕ → OwnLock → ℕ
handle_of h NoLock = h
handle_of h (Unlocked k) = k
handle_of h (Locked k) = k

pub locked_stands : (lock : OwnLock) (h : ℕ) (krate : Text) (n : SessionName) (steps : Steps) → lock ≡ Locked h → HasStandingLock lock krate n steps → StandsSince h krate n steps
locked_stands lock h krate n steps is w =
    (w.1, subst (λ k. alone k steps ≡ Some w.1) (ap (handle_of h) (sym w.2 ∙ is)) w.3, w.4)

pub may_make_dir : (job : Job) (steps : Steps) (krate entry : Text) (n : SessionName) (lock : OwnLock) → name steps ≡ Some n → lock ≡ own steps
    → IsFirstDir job steps krate entry n → HasStandingLock lock krate n steps → MayMakeDirectory job steps krate entry
may_make_dir job steps krate entry n lock named locked first w = (n, w.0, w.1, named, first.0, first.1, first.2, sym locked ∙ w.2, w.3, w.4)

pub dir_is_first : (job : Job) (steps : Steps) (krate entry : Text) (n : SessionName) → name steps ≡ Some n → MayMakeDirectory job steps krate entry → IsFirstDir job steps krate entry n
dir_is_first job steps krate entry n named w = (w.4, w.5 ∙ ap working_text (some_same w.0 n (sym w.3 ∙ named)), w.6)

pub dir_stands : (job : Job) (steps : Steps) (krate entry : Text) (n : SessionName) (lock : OwnLock) → name steps ≡ Some n → lock ≡ own steps
    → MayMakeDirectory job steps krate entry → HasStandingLock lock krate n steps
dir_stands job steps krate entry n lock named locked w =
    (w.1, w.2, locked ∙ w.7, w.8, subst (λ n. IsStanding krate (lock_text n) w.2) (some_same w.0 n (sym w.3 ∙ named)) w.9)

-- its own lock file, where its directory is nowhere
pub may_remove_own : (job : Job) (steps : Steps) (krate entry : Text) (n : SessionName) (d : Dir) (lock : OwnLock) → name steps ≡ Some n → d ≡ dir steps → lock ≡ own steps
    → (krate ≡ job.krate) × (entry ≡ lock_text n) × ((h : ℕ) × (lock ≡ Locked h)) → (d ≡ Unmade) ⊎ (d ≡ Removed) → MayRemoveOwn job steps krate entry
may_remove_own job steps krate entry n d lock named is locked w nowhere =
    (n, named, w.0, w.1, (w.2.0, sym locked ∙ w.2.1), subst (λ d. (d ≡ Unmade) ⊎ (d ≡ Removed)) is nowhere)

pub remove_is_own : (job : Job) (steps : Steps) (krate entry : Text) (n : SessionName) (lock : OwnLock) → name steps ≡ Some n → lock ≡ own steps
    → MayRemoveOwn job steps krate entry → (krate ≡ job.krate) × (entry ≡ lock_text n) × ((h : ℕ) × (lock ≡ Locked h))
remove_is_own job steps krate entry n lock named locked w = (w.2, w.3 ∙ ap lock_text (some_same w.0 n (sym w.1 ∙ named)), (w.4.0, locked ∙ w.4.1))

pub remove_nowhere : (job : Job) (steps : Steps) (krate entry : Text) (d : Dir) → d ≡ dir steps → MayRemoveOwn job steps krate entry → (d ≡ Unmade) ⊎ (d ≡ Removed)
remove_nowhere job steps krate entry d is w = subst (λ d. (d ≡ Unmade) ⊎ (d ≡ Removed)) (sym is) w.5

-- ---- Publishing.

abbrev pub Publishes : Files → SessionName → Job → Dir → Text → Text → Text → Type 0
Publishes files n job d krate from to = (to ≡ final_text n (job_hash_of job)) × HasWanted files job d krate from

pub may_publish : (files : Files) (n : SessionName) (job : Job) (d : Dir) (steps : Steps) (krate from to : Text) → name steps ≡ Some n → d ≡ dir steps
    → MayClearOwn steps krate from → Publishes files n job d krate from to → MayPublish files job steps krate from to
may_publish files n job d steps krate from to named at own w =
    (w.1.0, n, w.1.1, sym at ∙ w.1.2, own.2, named, w.0, w.1.3, w.1.4)

pub publishes : (files : Files) (n : SessionName) (job : Job) (d : Dir) (steps : Steps) (krate from to : Text) → name steps ≡ Some n → d ≡ dir steps
    → MayPublish files job steps krate from to → Publishes files n job d krate from to
publishes files n job d steps krate from to named at w =
    (w.6 ∙ ap (λ n. final_text n (job_hash_of job)) (some_same w.1 n (sym w.5 ∙ named)), (w.0, w.2, at ∙ w.3, w.7, w.8))

pub publishes_own : (files : Files) (job : Job) (steps : Steps) (krate from to : Text) → MayPublish files job steps krate from to → MayClearOwn steps krate from
publishes_own files job steps krate from to w = (w.0, w.3, w.4)

-- ---- Any step.

-- what is asked of equal steps is answered alike
pub permitted_as : {E : Type 0} (files : Files) (job j : Job) (steps ss : Steps) (op o : Op) (r : Result Bool E) → j ≡ job → ss ≡ steps → op ≡ o
    → IfOk r (λ yes. IsTrue yes ↔ IsPermitted files j ss o) → IfOk r (λ yes. IsTrue yes ↔ IsPermitted files job steps op)
permitted_as files job j steps ss op o r jobs all is f =
    subst (λ j. IfOk r (λ yes. IsTrue yes ↔ IsPermitted files j steps op)) jobs
    (subst (λ ss. IfOk r (λ yes. IsTrue yes ↔ IsPermitted files j ss op)) all
    (subst (λ o. IfOk r (λ yes. IsTrue yes ↔ IsPermitted files j ss o)) (sym is) f))
