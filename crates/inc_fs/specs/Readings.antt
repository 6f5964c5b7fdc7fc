-- What is read of a state, and how the changes of the table change it: each reading at one point, or not at all.
use Rattle.std.specs.Prelude.{◌≡◌, ◌≢◌, ◌⊎◌, ◌==◌, ◌<◌, ◌++◌, ℕ, zero, suc, List, [], ◌∷◌, length, Bool, true, false, cond, if◌then◌else◌, refl, Option, Some, None, IsSome, slice_get, slice_set, nat_eq}
use Rattle.std.specs.List.{list_any}
use Rattle.std.specs.Option.{option_map, option_and_then}
use Rattle.std.specs.Ordering.{is_eq, nat_cmp}
use Rattle.std.specs.Cmp.{nat_cmp_total, tied_itself}
use Rattle.std.specs.Cmp.Lexicographic.{pointwise}
use Rattle.std.specs.Map.{lookup}
use Rattle.std.specs.BTreeMap.{is_at}
use Rattle.std.proofs.Common.{ap, sym, ◌∙◌, subst, inl, inr, eq-eqb, arith}
use Rattle.std.proofs.lemmas.Bool.{ne_eqb, eqb-true}
use Rattle.std.proofs.lemmas.Option.{slice_get_within}
use Rattle.inc_fs.specs.declared.state.Entry.{Entry}
use Rattle.inc_fs.specs.declared.state.Entry.TheVariants.{LockFile, Folder}
use Rattle.inc_fs.specs.declared.state.File.{File}
use Rattle.inc_fs.specs.declared.state.Handle.{Handle}
use Rattle.inc_fs.specs.declared.state.Lock.{Lock}
use Rattle.inc_fs.specs.declared.state.Lock.TheVariants.{Free, Shared, Exclusive}
use Rattle.inc_fs.specs.Lookups.{lookup_here, lookup_there, removed_here, removed_there, path_cmp_total, same_paths, same_numbers, same_bytes}
use Rattle.inc_fs.specs.Points.{with_at, here, there, same_number, put_at, put_here, part_put}
use Rattle.inc_fs.specs.State.{State, Text, Path, IsIn, path_cmp, entry_at, lock_of, folder_of, lock_at, folder_at, opened_at, owned, own_file, numbered, number_at, file_at, listed, with_entry, without_entry, with_new_file, with_handle, without_handle}

-- ---- The readings beside `entry_at`, `folder_at`, `lock_at` and `opened_at`.

-- the bytes of a file, by its number
abbrev pub bytes_of : State → ℕ → Option Text
bytes_of F number = option_map (λ file. file.bytes) (slice_get F.files number)

-- the lock of a file, by its number
abbrev pub locks_of : State → ℕ → Option Lock
locks_of F number = option_map (λ file. file.lock) (slice_get F.files number)

-- whether a handle holds a lock, and whether exclusively
abbrev pub held_in : Lock → ℕ → Option Bool
held_in Free h = None
held_in (Shared holders) h = if list_any (λ other. other == h) holders then Some false else None
held_in (Exclusive holder) h = if holder == h then Some true else None

abbrev pub held_by : Option Lock → ℕ → Option Bool
held_by None h = None
held_by (Some lock) h = held_in lock h

-- ---- Entries, by their paths.

-- where a directory stands, no lock file does
pub no_lock : (o : Option Entry) (folder : List (Text × ℕ)) → folder_of o ≡ Some folder → lock_of o ≡ None
no_lock None folder is = refl
no_lock (Some (LockFile number)) folder is = cc
no_lock (Some (Folder names)) folder is = refl

-- and the other way round
pub no_folder : (o : Option Entry) (number : ℕ) → lock_of o ≡ Some number → folder_of o ≡ None
no_folder None number is = refl
no_folder (Some (LockFile other)) number is = refl
no_folder (Some (Folder names)) number is = cc

module _ (F : State) (krate entry : Text) where
  pub entries_put : (what : Entry) → entry_at (with_entry F krate entry what) ≡ put_at (entry_at F) krate entry (Some what)
  entries_put what = λ i k e. go k e (same_paths (k, e) (krate, entry)) i
    where
      go : (k e : Text) → (◌≡◌ {A = Path} (k, e) (krate, entry)) ⊎ (is_eq (path_cmp (k, e) (krate, entry)) ≡ false) → entry_at (with_entry F krate entry what) k e ≡ put_at (entry_at F) krate entry (Some what) k e
      go k e (inl is) = subst (λ (p : Path). entry_at (with_entry F krate entry what) p.0 p.1 ≡ put_at (entry_at F) krate entry (Some what) p.0 p.1) (sym is)
          (lookup_here path_cmp path_cmp_total F.entries (krate, entry) what ∙ sym (put_here (entry_at F) krate entry (Some what)))
      go k e (inr off) = lookup_there path_cmp path_cmp_total F.entries (krate, entry) (k, e) what off ∙ sym (ap (λ b. cond b (Some what) (entry_at F k e)) off)

  pub entries_cut : entry_at (without_entry F krate entry) ≡ put_at (entry_at F) krate entry None
  entries_cut = λ i k e. go k e (same_paths (k, e) (krate, entry)) i
    where
      go : (k e : Text) → (◌≡◌ {A = Path} (k, e) (krate, entry)) ⊎ (is_eq (path_cmp (k, e) (krate, entry)) ≡ false) → entry_at (without_entry F krate entry) k e ≡ put_at (entry_at F) krate entry None k e
      go k e (inl is) = subst (λ (p : Path). entry_at (without_entry F krate entry) p.0 p.1 ≡ put_at (entry_at F) krate entry None p.0 p.1) (sym is)
          (removed_here path_cmp path_cmp_total F.entries (krate, entry) ∙ sym (put_here (entry_at F) krate entry None))
      go k e (inr off) = removed_there path_cmp path_cmp_total F.entries (krate, entry) (k, e) off ∙ sym (ap (λ b. cond b None (entry_at F k e)) off)

  pub folders_put : (what : Entry) → folder_at (with_entry F krate entry what) ≡ put_at (folder_at F) krate entry (folder_of (Some what))
  folders_put what = (λ i k e. folder_of (entries_put what i k e)) ∙ part_put folder_of (entry_at F) krate entry (Some what)

  pub locks_put : (what : Entry) → lock_at (with_entry F krate entry what) ≡ put_at (lock_at F) krate entry (lock_of (Some what))
  locks_put what = (λ i k e. lock_of (entries_put what i k e)) ∙ part_put lock_of (entry_at F) krate entry (Some what)

  pub folders_cut : folder_at (without_entry F krate entry) ≡ put_at (folder_at F) krate entry None
  folders_cut = (λ i k e. folder_of (entries_cut i k e)) ∙ part_put folder_of (entry_at F) krate entry None

  pub locks_cut : lock_at (without_entry F krate entry) ≡ put_at (lock_at F) krate entry None
  locks_cut = (λ i k e. lock_of (entries_cut i k e)) ∙ part_put lock_of (entry_at F) krate entry None

-- what a `Look` lists stands
pub listed_stands : (krate entry : Text) (entries : List (Path × Entry)) → IsIn (listed krate entries) entry → IsSome (lookup (is_at (path_cmp (krate, entry))) entries)
listed_stands k e [] h = absurd h
listed_stands k e (x ∷ entries) h = go (listed_stands k e entries) (pointwise nat_eq x.0.0 k) refl h
  where
    skip : IsSome (lookup (is_at (path_cmp (k, e))) entries) → (b : Bool) → IsSome (cond b (Some x.1) (lookup (is_at (path_cmp (k, e))) entries))
    skip s true = refl
    skip s false = s

    go : (IsIn (listed k entries) e → IsSome (lookup (is_at (path_cmp (k, e))) entries)) → (b : Bool) → pointwise nat_eq x.0.0 k ≡ b → IsIn (cond b (x.0.1 ∷ listed k entries) (listed k entries)) e
        → IsSome (cond (is_eq (path_cmp (k, e) x.0)) (Some x.1) (lookup (is_at (path_cmp (k, e))) entries))
    go ih true is (inl at) = subst (λ (p : Path). IsSome (cond (is_eq (path_cmp p x.0)) (Some x.1) (lookup (is_at (path_cmp (k, e))) entries))) (λ i. (same_bytes x.0.0 k is i, at i))
        (subst (λ r. IsSome (cond (is_eq r) (Some x.1) (lookup (is_at (path_cmp (k, e))) entries))) (sym (tied_itself path_cmp_total x.0)) refl)
    go ih true is (inr h) = skip (ih h) (is_eq (path_cmp (k, e) x.0))
    go ih false is h = skip (ih h) (is_eq (path_cmp (k, e) x.0))

-- ---- Files, by their numbers.

same_test : (n m : ℕ) → n == m ≡ suc n == suc m
same_test n m = elim (same_number n m) [
  | inl is ↦ eq-eqb n m is ∙ sym (eq-eqb (suc n) (suc m) (ap suc is))
  | inr off ↦ ne_eqb n m off ∙ sym (ne_eqb (suc n) (suc m) (λ e. off (omega arith)))
]

set_at : {X : Type 0} (xs : List X) (n : ℕ) (y : X) → n < length xs → (m : ℕ) → slice_get (slice_set xs n y) m ≡ cond (n == m) (Some y) (slice_get xs m)
set_at [] n y h m = absurd (omega arith)
set_at (x ∷ xs) zero y h zero = refl
set_at (x ∷ xs) zero y h (suc m) = sym (ap (λ b. cond b (Some y) (slice_get xs m)) (ne_eqb zero (suc m) (λ e. cc)))
set_at (x ∷ xs) (suc n) y h zero = sym (ap (λ b. cond b (Some y) (Some x)) (ne_eqb (suc n) zero (λ e. cc)))
set_at (x ∷ xs) (suc n) y h (suc m) = set_at xs n y (omega arith) m ∙ ap (λ b. cond b (Some y) (slice_get xs m)) (same_test n m)

push_at : {X : Type 0} (xs : List X) (y : X) (m : ℕ) → slice_get (xs ++ y ∷ []) m ≡ cond (length xs == m) (Some y) (slice_get xs m)
push_at [] y zero = refl
push_at [] y (suc m) = sym (ap (λ b. cond b (Some y) None) (ne_eqb zero (suc m) (λ e. cc)))
push_at (x ∷ xs) y zero = sym (ap (λ b. cond b (Some y) (Some x)) (ne_eqb (suc (length xs)) zero (λ e. cc)))
push_at (x ∷ xs) y (suc m) = push_at xs y m ∙ ap (λ b. cond b (Some y) (slice_get xs m)) (same_test (length xs) m)

part_at : {X Y : Type 0} (g : X → Y) (b : Bool) (x : X) (o : Option X) → option_map g (cond b (Some x) o) ≡ cond b (Some (g x)) (option_map g o)
part_at g true x o = refl
part_at g false x o = refl

-- a part of the files, as their bytes or their locks
module _ {Y : Type 0} (g : File → Y) (F : State) where
  pub new_file : with_at (λ n. option_map g (slice_get F.files n)) (length F.files) (Some (g (record { bytes = []; lock = Free }))) ≡ (λ n. option_map g (slice_get (with_new_file F).files n))
  new_file = λ i m. sym (ap (option_map g) (push_at F.files (record { bytes = []; lock = Free }) m) ∙ part_at g (length F.files == m) (record { bytes = []; lock = Free }) (slice_get F.files m)) i

  pub set_file : (n : ℕ) (old new : File) → slice_get F.files n ≡ Some old → with_at (λ n. option_map g (slice_get F.files n)) n (Some (g new)) ≡ (λ m. option_map g (slice_get (slice_set F.files n new) m))
  set_file n old new is = λ i m. sym (ap (option_map g) (set_at F.files n new (slice_get_within F.files n old is) m) ∙ part_at g (n == m) new (slice_get F.files m)) i

  -- where that part stays, so does the reading
  pub same_file : (n : ℕ) (old new : File) → slice_get F.files n ≡ Some old → g new ≡ g old → ◌≡◌ {A = ℕ → Option Y} (λ n. option_map g (slice_get F.files n)) (λ m. option_map g (slice_get (slice_set F.files n new) m))
  same_file n old new is same = λ i m. (go m (same_number n m) ∙ (λ i. set_file n old new is i m)) i
    where
      go : (m : ℕ) → (n ≡ m) ⊎ (n ≢ m) → option_map g (slice_get F.files m) ≡ with_at (λ n. option_map g (slice_get F.files n)) n (Some (g new)) m
      go m (inl at) = subst (λ m. option_map g (slice_get F.files m) ≡ with_at (λ n. option_map g (slice_get F.files n)) n (Some (g new)) m) at
          (ap (option_map g) is ∙ ap Some (sym same) ∙ sym (here (λ n. option_map g (slice_get F.files n)) n (Some (g new))))
      go m (inr off) = sym (there (λ n. option_map g (slice_get F.files n)) n (Some (g new)) m off)

-- ---- Handles, by their numbers.

apart_numbers : (q h : ℕ) → h ≢ q → is_eq (nat_cmp q h) ≡ false
apart_numbers q h off = go (same_numbers q h)
  where
    go : (q ≡ h) ⊎ (is_eq (nat_cmp q h) ≡ false) → is_eq (nat_cmp q h) ≡ false
    go (inl is) = absurd (off (sym is))
    go (inr apart) = apart

module _ (F : State) (h : ℕ) where
  pub new_handle : (who file : ℕ) → with_at (opened_at F) h (Some (record { owner = who; file = file })) ≡ opened_at (with_handle F who h file)
  new_handle who file = λ i q. sym (go q (same_number h q)) i
    where
      go : (q : ℕ) → (h ≡ q) ⊎ (h ≢ q) → opened_at (with_handle F who h file) q ≡ with_at (opened_at F) h (Some (record { owner = who; file = file })) q
      go q (inl is) = subst (λ q. opened_at (with_handle F who h file) q ≡ with_at (opened_at F) h (Some (record { owner = who; file = file })) q) is
          (lookup_here nat_cmp nat_cmp_total F.handles h (record { owner = who; file = file }) ∙ sym (here (opened_at F) h (Some (record { owner = who; file = file }))))
      go q (inr off) = lookup_there nat_cmp nat_cmp_total F.handles h q (record { owner = who; file = file }) (apart_numbers q h off) ∙ sym (there (opened_at F) h (Some (record { owner = who; file = file })) q off)

  pub gone_handle : (found : ℕ × File) → with_at (opened_at F) h None ≡ opened_at (without_handle F h found)
  gone_handle found = λ i q. sym (go q (same_number h q)) i
    where
      go : (q : ℕ) → (h ≡ q) ⊎ (h ≢ q) → opened_at (without_handle F h found) q ≡ with_at (opened_at F) h None q
      go q (inl is) = subst (λ q. opened_at (without_handle F h found) q ≡ with_at (opened_at F) h None q) is (removed_here nat_cmp nat_cmp_total F.handles h ∙ sym (here (opened_at F) h None))
      go q (inr off) = removed_there nat_cmp nat_cmp_total F.handles h q (apart_numbers q h off) ∙ sym (there (opened_at F) h None q off)

-- ---- A file that was found.

none_some : {X : Type 0} (x : X) → None ≡ Some x → ⊥
none_some x is = cc

some_same : {X : Type 0} (x y : X) → Some x ≡ Some y → x ≡ y
some_same x y is = cc

numbered_is : (F : State) (n : ℕ) (found : ℕ × File) → numbered F n ≡ Some found → (n ≡ found.0) × (slice_get F.files found.0 ≡ Some found.1)
numbered_is F n found is = go (slice_get F.files n) refl is
  where
    go : (f : Option File) → slice_get F.files n ≡ f → option_map (λ file. (n, file)) f ≡ Some found → (n ≡ found.0) × (slice_get F.files found.0 ≡ Some found.1)
    go None e p = absurd (none_some found p)
    go (Some f) e p = let s = some_same (n, f) found p in (ap (λ (p : ℕ × File). p.0) s, ap (slice_get F.files) (sym (ap (λ (p : ℕ × File). p.0) s)) ∙ e ∙ ap (λ (p : ℕ × File). Some p.1) s)

-- the caller's own open handle, with its file
pub own_is : (F : State) (who h : ℕ) (found : ℕ × File) → own_file F who h ≡ Some found → (o : Handle) × (opened_at F h ≡ Some o) × (o.owner ≡ who) × (o.file ≡ found.0) × (slice_get F.files found.0 ≡ Some found.1)
own_is F who h found is = go (opened_at F h) refl is
  where
    go : (o : Option Handle) → opened_at F h ≡ o → option_and_then (numbered F) (owned who o) ≡ Some found → (o : Handle) × (opened_at F h ≡ Some o) × (o.owner ≡ who) × (o.file ≡ found.0) × (slice_get F.files found.0 ≡ Some found.1)
    go None e p = absurd (none_some found p)
    go (Some o) e p = mine (o.owner == who) refl p
      where
        mine : (b : Bool) → o.owner == who ≡ b → option_and_then (numbered F) (cond b (Some o.file) None) ≡ Some found → (o : Handle) × (opened_at F h ≡ Some o) × (o.owner ≡ who) × (o.file ≡ found.0) × (slice_get F.files found.0 ≡ Some found.1)
        mine true b p = let s = numbered_is F o.file found p in (o, e, eqb-true o.owner who b, s.0, s.1)
        mine false b p = absurd (none_some found p)

-- the file of a name, with its number
pub file_is : (F : State) (krate entry file : Text) (found : ℕ × File) → file_at F krate entry file ≡ Some found → (number_at F krate entry file ≡ Some found.0) × (slice_get F.files found.0 ≡ Some found.1)
file_is F krate entry file found is = go (number_at F krate entry file) refl is
  where
    go : (n : Option ℕ) → number_at F krate entry file ≡ n → option_and_then (numbered F) n ≡ Some found → (number_at F krate entry file ≡ Some found.0) × (slice_get F.files found.0 ≡ Some found.1)
    go None e p = absurd (none_some found p)
    go (Some n) e p = let s = numbered_is F n found p in (e ∙ ap Some s.0, s.1)
