-- What each step changes, and that it leaves the rest alone, other sessions' handles with it.
use Rattle.std.specs.Prelude.{◌≡◌, ℕ, ◌++◌, List, [], cond, refl, Option, Some, None, length, take}
use Rattle.std.specs.List.Sorted.{IsStrictlySortedBy}
use Rattle.std.specs.Map.{keys_of}
use Rattle.std.specs.BTreeMap.{insert_entry, is_at}
use Rattle.std.specs.Cmp.Lexicographic.{nat_list_cmp_total}
use Rattle.std.proofs.Common.{ap, sym, ◌∙◌, subst, inl, inr, eq-eqb}
use Rattle.inc_fs.specs.declared.state.Entry.TheVariants.{LockFile, Folder}
use Rattle.inc_fs.specs.declared.state.File.{File}
use Rattle.inc_fs.specs.declared.state.Handle.{Handle}
use Rattle.inc_fs.specs.declared.op.Op.{Op}
use Rattle.inc_fs.specs.declared.op.Op.TheVariants.{Draw, MakeLock, OpenLock, TryLock, Look, ListDir, MakeDir, Link, Read, Create, Append, Unlink, UnlinkLock, RemoveDir, Rename, Close}
use Rattle.inc_fs.specs.declared.op.Reply.{Reply}
use Rattle.inc_fs.specs.declared.op.Reply.TheVariants.{Drawn, Handle as GotHandle, Names, Bytes, Done, Got, Held, Exists, Missing, NotEmpty, Fault}
use Rattle.inc_fs.specs.Changes.{Touches, Writes, Locks, Changed, idle, then_changed, drew, put, cut, made, wrote, relocked, opened, closed}
use Rattle.inc_fs.specs.Locks.{locked_there}
use Rattle.inc_fs.specs.Readings.{own_is, file_is}
use Rattle.inc_fs.specs.State.{State, Text, remove_entry, text_cmp, file_at, opened_at, owned, locked, with_entry, with_new_file, with_piece}
use Rattle.inc_fs.specs.Step.{Step}
use Rattle.inc_fs.specs.Tidy.{IsTidy, sorted_inserted, sorted_removed}

-- what an op may change of the state F
abbrev pub ChangedBy : ℕ → Op → State → State → Type 0
ChangedBy who op F G = Changed who (Touches op) (Writes F op) (Locks F who op) F G

ends_in : (who : ℕ) (op : Op) (F G H : State) → G ≡ H → ChangedBy who op F H → ChangedBy who op F G
ends_in who op F G H is c = subst (ChangedBy who op F) (sym is) c

names_are : (names folder : List (Text × ℕ)) → Some names ≡ Some folder → IsStrictlySortedBy text_cmp (keys_of names) → IsStrictlySortedBy text_cmp (keys_of folder)
names_are names folder is sorted = subst (λ names. IsStrictlySortedBy text_cmp (keys_of names)) (some_same is) sorted
  where
    some_same : Some names ≡ Some folder → names ≡ folder
    some_same is = cc

none_sorted : IsStrictlySortedBy text_cmp []
unfolding IsStrictlySortedBy
none_sorted = tt

own_number : (F : State) (who h file : ℕ) (o : Handle) → opened_at F h ≡ Some o → o.owner ≡ who → o.file ≡ file → owned who (opened_at F h) ≡ Some file
own_number F who h file o lies own is = ap (owned who) lies ∙ ap (λ b. cond b (Some o.file) None) (eq-eqb o.owner who own) ∙ ap Some is

appended : (F : State) (who : ℕ) (krate entry file piece front : Text) (found : Option (ℕ × File)) → file_at F krate entry file ≡ found → ChangedBy who (Append krate entry file piece) F (with_piece F found front)
appended F who krate entry file piece front None is = idle F F refl
appended F who krate entry file piece front (Some found) is =
    let at = file_is F krate entry file found is in
    wrote F found (found.1.bytes ++ front) at.1 at.0

pub step_changes : (F : State) (who : ℕ) (op : Op) (reply : Reply) (G : State) → Step F who op reply G → ChangedBy who op F G
step_changes F who (Append krate entry file piece) Fault G s = ends_in who (Append krate entry file piece) F G _ s.1 (appended F who krate entry file piece (take s.0 piece) (file_at F krate entry file) refl)
step_changes F who op Fault G s = idle F G s.1
step_changes F who Draw (Drawn moment random) G s = ends_in who Draw F G _ s.2 (drew F (moment, random) s.1)
step_changes F who (MakeLock krate entry) (GotHandle handle) G s =
    let A = with_new_file F in
    let B = with_entry A krate entry (LockFile (length F.files)) in
    ends_in who (MakeLock krate entry) F G _ s.2 (then_changed F A _ (made F) (then_changed A B _ (put A krate entry (LockFile (length F.files)) (refl, refl) (λ _ folder is. cc)) (opened B handle (length F.files) s.1)))
step_changes F who (MakeLock krate entry) Exists G s = idle F G s.1
step_changes F who (OpenLock krate entry) (GotHandle handle) G s = ends_in who (OpenLock krate entry) F G _ s.3 (opened F handle s.0 s.2)
step_changes F who (OpenLock krate entry) Missing G s = idle F G s.1
step_changes F who (TryLock handle exclusive) Got G s =
    let own = own_is F who handle s.0 s.1 in
    ends_in who (TryLock handle exclusive) F G _ s.3 (relocked F handle own.0 s.0 (locked s.0.1.lock handle exclusive) own.1 own.2 own.4 (own_number F who handle s.0.0 own.0 own.1 own.2 own.3)
    (λ g off. locked_there handle g off s.0.1.lock exclusive s.2))
step_changes F who (TryLock handle exclusive) Held G s = idle F G s.3
step_changes F who (TryLock handle exclusive) Missing G s = idle F G s.1
step_changes F who (Look krate) (Names names) G s = idle F G s.1
step_changes F who (ListDir krate entry) (Names names) G s = idle F G s.3
step_changes F who (ListDir krate entry) Missing G s = idle F G s.1
step_changes F who (MakeDir krate entry) Done G s = ends_in who (MakeDir krate entry) F G _ s.1 (put F krate entry (Folder []) (refl, refl) (λ _ folder is. names_are [] folder is none_sorted))
step_changes F who (MakeDir krate entry) Exists G s = idle F G s.1
step_changes F who (Link krate from to file) Done G s =
    ends_in who (Link krate from to file) F G _ s.5 (put F krate to (Folder (insert_entry text_cmp s.1 file s.0)) (refl, refl)
    (λ t folder is. names_are _ folder is (sorted_inserted text_cmp nat_list_cmp_total s.1 file s.0 (IsTidy.names t krate to s.1 s.3))))
step_changes F who (Link krate from to file) Missing G s = idle F G s.1
step_changes F who (Link krate from to file) Exists G s = idle F G s.2
step_changes F who (Read krate entry file) (Bytes bytes) G s = idle F G s.3
step_changes F who (Read krate entry file) Missing G s = idle F G s.1
step_changes F who (Create krate entry file) Done G s =
    let A = with_new_file F in
    ends_in who (Create krate entry file) F G _ s.3 (then_changed F A _ (made F) (put A krate entry (Folder (insert_entry text_cmp s.0 file (length F.files))) (refl, refl)
    (λ t folder is. names_are _ folder is (sorted_inserted text_cmp nat_list_cmp_total s.0 file (length F.files) (IsTidy.names t krate entry s.0 s.1)))))
step_changes F who (Create krate entry file) Missing G s = idle F G s.1
step_changes F who (Create krate entry file) Exists G s = idle F G s.1
step_changes F who (Append krate entry file piece) Done G s = ends_in who (Append krate entry file piece) F G _ s.1 (appended F who krate entry file piece piece (file_at F krate entry file) refl)
step_changes F who (Append krate entry file piece) Missing G s = idle F G s.1
step_changes F who (Unlink krate entry file) Done G s =
    ends_in who (Unlink krate entry file) F G _ s.3 (put F krate entry (Folder (remove_entry (is_at (text_cmp file)) s.0)) (refl, refl)
    (λ t folder is. names_are _ folder is (sorted_removed text_cmp (is_at (text_cmp file)) s.0 (IsTidy.names t krate entry s.0 s.1))))
step_changes F who (Unlink krate entry file) Missing G s = idle F G s.1
step_changes F who (UnlinkLock krate entry) Done G s = ends_in who (UnlinkLock krate entry) F G _ s.1 (cut F krate entry (refl, refl))
step_changes F who (UnlinkLock krate entry) Missing G s = idle F G s.1
step_changes F who (RemoveDir krate entry) Done G s = ends_in who (RemoveDir krate entry) F G _ s.1 (cut F krate entry (refl, refl))
step_changes F who (RemoveDir krate entry) Missing G s = idle F G s.1
step_changes F who (RemoveDir krate entry) NotEmpty G s = idle F G s.3
step_changes F who (Rename krate from to) Done G s =
    let B = with_entry F krate to (Folder s.0) in
    ends_in who (Rename krate from to) F G _ s.3 (then_changed F B _ (put F krate to (Folder s.0) (refl, inr refl) (λ t folder is. names_are _ folder is (IsTidy.names t krate from s.0 s.1))) (cut B krate from (refl, inl refl)))
step_changes F who (Rename krate from to) Missing G s = idle F G s.1
step_changes F who (Rename krate from to) Exists G s = idle F G s.2
step_changes F who (Close handle) Done G s =
    let own = own_is F who handle s.0 s.1 in
    ends_in who (Close handle) F G _ s.2 (closed F handle own.0 s.0 own.1 own.2 own.4 (own_number F who handle s.0.0 own.0 own.1 own.2 own.3))
step_changes F who (Close handle) Missing G s = idle F G s.1
step_changes F who op reply G s = absurd s
