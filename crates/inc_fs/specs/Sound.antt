-- What each state is like that steps and endings lead to from the empty one: it is tidy, and who holds a lock is a handle
-- that was given.
use Rattle.std.specs.Prelude.{◌≡◌, ◌≢◌, ℕ, zero, suc, ◌==◌, ◌++◌, List, [], ◌∷◌, Bool, true, false, not, cond, filter, map, refl, Option, Some, None, slice_get, slice_set, take}
use Rattle.std.specs.List.{AllByRecursion}
use Rattle.std.proofs.Common.{sym, subst, inr}
use Rattle.inc_fs.specs.declared.state.File.{File}
use Rattle.inc_fs.specs.declared.state.Handle.{Handle}
use Rattle.inc_fs.specs.declared.state.Lock.{Lock}
use Rattle.inc_fs.specs.declared.state.Lock.TheVariants.{Free, Shared, Exclusive}
use Rattle.inc_fs.specs.declared.op.Op.{Op}
use Rattle.inc_fs.specs.declared.op.Op.TheVariants.{Draw, MakeLock, OpenLock, TryLock, Look, ListDir, MakeDir, Link, Read, Create, Append, Unlink, UnlinkLock, RemoveDir, Rename, Close}
use Rattle.inc_fs.specs.declared.op.Reply.{Reply}
use Rattle.inc_fs.specs.declared.op.Reply.TheVariants.{Drawn, Handle as GotHandle, Names, Bytes, Done, Got, Held, Exists, Missing, NotEmpty, Fault}
use Rattle.inc_fs.specs.Readings.{own_is, file_is}
use Rattle.inc_fs.specs.State.{State, Text, IsIn, start, file_at, others, locked, shared_by, freed, is_whose, released, released_file, end_of, with_lock, with_piece}
use Rattle.inc_fs.specs.Step.{Step}
use Rattle.inc_fs.specs.Steps.{step_changes}
use Rattle.inc_fs.specs.Ending.{end_tidy}
use Rattle.inc_fs.specs.Tidy.{IsTidy, start_tidy}

-- each holder of a lock is one of these handles, and a shared lock has a holder
abbrev pub IsHeldBy : List ℕ → Lock → Type 0
IsHeldBy given Free = Unit {0}
IsHeldBy given (Shared holders) = (holders ≢ []) × AllByRecursion (IsIn given) holders
IsHeldBy given (Exclusive holder) = IsIn given holder

-- the locks of these files are held by these handles
abbrev pub AreHeldBy : List ℕ → List File → Type 0
AreHeldBy given files = AllByRecursion (λ file. IsHeldBy given file.lock) files

-- what each state is like that a history leads to
pub record IsSound (F : State) : Type 0 where
  pub tidy : IsTidy F
  pub held : AreHeldBy F.given F.files

module _ {X : Type 0} (P : X → Type 0) where
  all_get : (xs : List X) (n : ℕ) (x : X) → AllByRecursion P xs → slice_get xs n ≡ Some x → P x
  all_get [] n x all is = cc
  all_get (y ∷ xs) zero x all is = let same : y ≡ x = cc in subst P same all.0
  all_get (y ∷ xs) (suc n) x all is = all_get xs n x all.1 is

  all_set : (xs : List X) (n : ℕ) (x : X) → AllByRecursion P xs → P x → AllByRecursion P (slice_set xs n x)
  all_set [] n x all this = tt
  all_set (y ∷ xs) zero x all this = (this, all.1)
  all_set (y ∷ xs) (suc n) x all this = (all.0, all_set xs n x all.1 this)

  all_push : (xs : List X) (x : X) → AllByRecursion P xs → P x → AllByRecursion P (xs ++ x ∷ [])
  all_push [] x all this = (this, tt)
  all_push (y ∷ xs) x all this = (all.0, all_push xs x all.1 this)

  all_passed : (p : X → Bool) (xs : List X) → AllByRecursion P xs → AllByRecursion P (filter p xs)
  all_passed p [] all = tt
  all_passed p (x ∷ xs) all =
      elim (p x) as (λ b. AllByRecursion P (cond b (x ∷ filter p xs) (filter p xs))) [
        | true ↦ (all.0, all_passed p xs all.1)
        | false ↦ all_passed p xs all.1
      ]

  all_mapped : (f : X → X) → ((x : X) → P x → P (f x)) → (xs : List X) → AllByRecursion P xs → AllByRecursion P (map f xs)
  all_mapped f each [] all = tt
  all_mapped f each (x ∷ xs) all = (each x all.0, all_mapped f each xs all.1)

pub all_more : {X : Type 0} (P Q : X → Type 0) → ((x : X) → P x → Q x) → (xs : List X) → AllByRecursion P xs → AllByRecursion Q xs
all_more P Q each [] all = tt
all_more P Q each (x ∷ xs) all = (each x all.0, all_more P Q each xs all.1)

some_last : (xs : List ℕ) (x : ℕ) → xs ++ x ∷ [] ≢ []
some_last [] x = λ e. cc
some_last (y ∷ xs) x = λ e. cc

-- ---- What is made of a lock.

more_given : (h : ℕ) (given : List ℕ) (lock : Lock) → IsHeldBy given lock → IsHeldBy (h ∷ given) lock
more_given h given Free held = tt
more_given h given (Shared holders) held = (held.0, all_more (IsIn given) (IsIn (h ∷ given)) (λ g is. inr is) holders held.1)
more_given h given (Exclusive holder) held = inr held

files_given : (h : ℕ) (given : List ℕ) (files : List File) → AreHeldBy given files → AreHeldBy (h ∷ given) files
files_given h given files held = all_more (λ file. IsHeldBy given file.lock) (λ file. IsHeldBy (h ∷ given) file.lock) (λ file is. more_given h given file.lock is) files held

others_held : (given : List ℕ) (lock : Lock) (h : ℕ) → IsHeldBy given lock → AllByRecursion (IsIn given) (others lock h)
others_held given Free h held = tt
others_held given (Shared holders) h held = all_passed (IsIn given) (λ other. not (other == h)) holders held.1
others_held given (Exclusive holder) h held = tt

locked_held : (given : List ℕ) (lock : Lock) (h : ℕ) (exclusive : Bool) → IsIn given h → IsHeldBy given lock → IsHeldBy given (locked lock h exclusive)
locked_held given lock h true is held = is
locked_held given lock h false is held = (some_last (others lock h) h, all_push (IsIn given) (others lock h) h (others_held given lock h held) is)

shared_held : (given holders : List ℕ) → AllByRecursion (IsIn given) holders → IsHeldBy given (shared_by holders)
unfolding shared_by
shared_held given [] all = tt
shared_held given (x ∷ holders) all = (λ e. cc, all)

one_held : (given : List ℕ) (holder : ℕ) (b : Bool) → IsIn given holder → IsHeldBy given (cond b Free (Exclusive holder))
one_held given holder true is = tt
one_held given holder false is = is

freed_held : (given : List ℕ) (lock : Lock) (h : ℕ) → IsHeldBy given lock → IsHeldBy given (freed lock h)
freed_held given Free h held = tt
freed_held given (Shared holders) h held = shared_held given (filter (λ other. not (other == h)) holders) (all_passed (IsIn given) (λ other. not (other == h)) holders held.1)
freed_held given (Exclusive holder) h held = one_held given holder (holder == h) held

released_held : (handles : List (ℕ × Handle)) (who : ℕ) (given : List ℕ) (lock : Lock) → IsHeldBy given lock → IsHeldBy given (released handles who lock)
released_held handles who given Free held = tt
released_held handles who given (Shared holders) held =
    shared_held given (filter (λ h. not (is_whose handles who h)) holders) (all_passed (IsIn given) (λ h. not (is_whose handles who h)) holders held.1)
released_held handles who given (Exclusive holder) held = one_held given holder (is_whose handles who holder) held

-- ---- The changes of the table.

new_held : (given : List ℕ) (files : List File) → AreHeldBy given files → AreHeldBy given (files ++ record { bytes = []; lock = Free } ∷ [])
new_held given files held = all_push (λ file. IsHeldBy given file.lock) files (record { bytes = []; lock = Free }) held tt

lock_held : (F : State) (found : ℕ × File) (lock : Lock) → AreHeldBy F.given F.files → IsHeldBy F.given lock → AreHeldBy F.given (with_lock F found lock).files
lock_held F found lock held this = all_set (λ file. IsHeldBy F.given file.lock) F.files found.0 (record { bytes = found.1.bytes; lock = lock }) held this

found_held : (F : State) (found : ℕ × File) → AreHeldBy F.given F.files → slice_get F.files found.0 ≡ Some found.1 → IsHeldBy F.given found.1.lock
found_held F found held at = all_get (λ file. IsHeldBy F.given file.lock) F.files found.0 found.1 held at

piece_held : (F : State) (krate entry file piece : Text) (found : Option (ℕ × File)) → file_at F krate entry file ≡ found → AreHeldBy F.given F.files → AreHeldBy F.given (with_piece F found piece).files
piece_held F krate entry file piece None is held = held
piece_held F krate entry file piece (Some found) is held =
    all_set (λ file. IsHeldBy F.given file.lock) F.files found.0 (record { bytes = found.1.bytes ++ piece; lock = found.1.lock }) held (found_held F found held (file_is F krate entry file found is).1)

piece_given : (F : State) (found : Option (ℕ × File)) (piece : Text) → (with_piece F found piece).given ≡ F.given
piece_given F None piece = refl
piece_given F (Some found) piece = refl

-- each holder was given
abbrev AllHeld : State → Type 0
AllHeld F = AreHeldBy F.given F.files

appended_held : (F : State) (krate entry file piece : Text) → AllHeld F → AllHeld (with_piece F (file_at F krate entry file) piece)
appended_held F krate entry file piece held =
    subst (λ given. AreHeldBy given (with_piece F (file_at F krate entry file) piece).files) (sym (piece_given F (file_at F krate entry file) piece))
    (piece_held F krate entry file piece (file_at F krate entry file) refl held)

step_held : (F : State) (who : ℕ) (op : Op) (reply : Reply) (G : State) → IsTidy F → AllHeld F → Step F who op reply G → AllHeld G
step_held F who (Append krate entry file piece) Fault G t held s = subst AllHeld (sym s.1) (appended_held F krate entry file (take s.0 piece) held)
step_held F who op Fault G t held s = subst AllHeld (sym s.1) held
step_held F who Draw (Drawn moment random) G t held s = subst AllHeld (sym s.2) held
step_held F who (MakeLock krate entry) (GotHandle handle) G t held s = subst AllHeld (sym s.2) (files_given handle F.given _ (new_held F.given F.files held))
step_held F who (MakeLock krate entry) Exists G t held s = subst AllHeld (sym s.1) held
step_held F who (OpenLock krate entry) (GotHandle handle) G t held s = subst AllHeld (sym s.3) (files_given handle F.given F.files held)
step_held F who (OpenLock krate entry) Missing G t held s = subst AllHeld (sym s.1) held
step_held F who (TryLock handle exclusive) Got G t held s =
    let own = own_is F who handle s.0 s.1 in
    subst AllHeld (sym s.3) (lock_held F s.0 (locked s.0.1.lock handle exclusive) held (locked_held F.given s.0.1.lock handle exclusive (IsTidy.opened t handle own.0 own.1) (found_held F s.0 held own.4)))
step_held F who (TryLock handle exclusive) Held G t held s = subst AllHeld (sym s.3) held
step_held F who (TryLock handle exclusive) Missing G t held s = subst AllHeld (sym s.1) held
step_held F who (Look krate) (Names names) G t held s = subst AllHeld (sym s.1) held
step_held F who (ListDir krate entry) (Names names) G t held s = subst AllHeld (sym s.3) held
step_held F who (ListDir krate entry) Missing G t held s = subst AllHeld (sym s.1) held
step_held F who (MakeDir krate entry) Done G t held s = subst AllHeld (sym s.1) held
step_held F who (MakeDir krate entry) Exists G t held s = subst AllHeld (sym s.1) held
step_held F who (Link krate from to file) Done G t held s = subst AllHeld (sym s.5) held
step_held F who (Link krate from to file) Missing G t held s = subst AllHeld (sym s.1) held
step_held F who (Link krate from to file) Exists G t held s = subst AllHeld (sym s.2) held
step_held F who (Read krate entry file) (Bytes bytes) G t held s = subst AllHeld (sym s.3) held
step_held F who (Read krate entry file) Missing G t held s = subst AllHeld (sym s.1) held
step_held F who (Create krate entry file) Done G t held s = subst AllHeld (sym s.3) (new_held F.given F.files held)
step_held F who (Create krate entry file) Missing G t held s = subst AllHeld (sym s.1) held
step_held F who (Create krate entry file) Exists G t held s = subst AllHeld (sym s.1) held
step_held F who (Append krate entry file piece) Done G t held s = subst AllHeld (sym s.1) (appended_held F krate entry file piece held)
step_held F who (Append krate entry file piece) Missing G t held s = subst AllHeld (sym s.1) held
step_held F who (Unlink krate entry file) Done G t held s = subst AllHeld (sym s.3) held
step_held F who (Unlink krate entry file) Missing G t held s = subst AllHeld (sym s.1) held
step_held F who (UnlinkLock krate entry) Done G t held s = subst AllHeld (sym s.1) held
step_held F who (UnlinkLock krate entry) Missing G t held s = subst AllHeld (sym s.1) held
step_held F who (RemoveDir krate entry) Done G t held s = subst AllHeld (sym s.1) held
step_held F who (RemoveDir krate entry) Missing G t held s = subst AllHeld (sym s.1) held
step_held F who (RemoveDir krate entry) NotEmpty G t held s = subst AllHeld (sym s.3) held
step_held F who (Rename krate from to) Done G t held s = subst AllHeld (sym s.3) held
step_held F who (Rename krate from to) Missing G t held s = subst AllHeld (sym s.1) held
step_held F who (Rename krate from to) Exists G t held s = subst AllHeld (sym s.2) held
step_held F who (Close handle) Done G t held s =
    let own = own_is F who handle s.0 s.1 in
    subst AllHeld (sym s.2) (lock_held F s.0 (freed s.0.1.lock handle) held (freed_held F.given s.0.1.lock handle (found_held F s.0 held own.4)))
step_held F who (Close handle) Missing G t held s = subst AllHeld (sym s.1) held
step_held F who op reply G t held s = absurd s

-- ---- What steps and endings keep.

pub step_sound : (F : State) (who : ℕ) (op : Op) (reply : Reply) (G : State) → Step F who op reply G → IsSound F → IsSound G
step_sound F who op reply G s f = record { tidy = (step_changes F who op reply G s).tidy f.tidy; held = step_held F who op reply G f.tidy f.held s }

pub end_sound : (F : State) (who : ℕ) → IsSound F → IsSound (end_of F who)
end_sound F who f = record {
  tidy = end_tidy F who f.tidy;
  held = all_mapped (λ file. IsHeldBy F.given file.lock) (released_file F.handles who) (λ file held. released_held F.handles who F.given file.lock held) F.files f.held;
}

pub start_sound : IsSound start
start_sound = record { tidy = start_tidy; held = tt }
