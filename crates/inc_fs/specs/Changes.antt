-- What a step changes, of entries, files and handles, and what it leaves alone.
use Rattle.std.specs.Prelude.{◌≡◌, ◌≢◌, ◌⊎◌, ℕ, ◌<◌, ◌≤◌, List, [], ◌∷◌, length, refl, Option, Some, None, slice_get}
use Rattle.std.specs.Option.{option_map}
use Rattle.std.specs.List.Sorted.{IsStrictlySortedBy}
use Rattle.std.specs.Map.{keys_of}
use Rattle.std.proofs.Common.{ap, sym, ◌∙◌, subst, arith, length-set, length-append}
use Rattle.std.proofs.lemmas.Option.{slice_get_past}
use Rattle.inc_fs.specs.declared.state.Entry.{Entry}
use Rattle.inc_fs.specs.declared.state.File.{File}
use Rattle.inc_fs.specs.declared.state.Handle.{Handle}
use Rattle.inc_fs.specs.declared.state.Lock.{Lock}
use Rattle.inc_fs.specs.declared.state.Lock.TheVariants.{Free}
use Rattle.inc_fs.specs.declared.op.Op.{Op}
use Rattle.inc_fs.specs.declared.op.Op.TheVariants.{MakeLock, TryLock, MakeDir, Link, Create, Append, Unlink, UnlinkLock, RemoveDir, Rename, Close}
use Rattle.inc_fs.specs.Points.{with_at, there, each, each_path}
use Rattle.inc_fs.specs.Readings.{bytes_of, locks_of, held_in, held_by, entries_put, entries_cut, new_file, set_file, same_file, new_handle, gone_handle}
use Rattle.inc_fs.specs.Locks.{freed_there}
use Rattle.inc_fs.specs.State.{State, Text, IsIn, text_cmp, entry_at, folder_of, number_at, opened_at, owned, freed, with_entry, without_entry, with_new_file, with_bytes, with_lock, with_handle, without_handle}
use Rattle.inc_fs.specs.Tidy.{IsTidy, draw_tidy, put_tidy, cut_tidy, new_file_tidy, file_tidy, handle_tidy, closed_tidy}

-- the paths whose entries an op may change
abbrev pub Touches : Op → Text → Text → Type 0
Touches (MakeLock krate entry) k e = (k ≡ krate) × (e ≡ entry)
Touches (MakeDir krate entry) k e = (k ≡ krate) × (e ≡ entry)
Touches (Link krate from to file) k e = (k ≡ krate) × (e ≡ to)
Touches (Create krate entry file) k e = (k ≡ krate) × (e ≡ entry)
Touches (Unlink krate entry file) k e = (k ≡ krate) × (e ≡ entry)
Touches (UnlinkLock krate entry) k e = (k ≡ krate) × (e ≡ entry)
Touches (RemoveDir krate entry) k e = (k ≡ krate) × (e ≡ entry)
Touches (Rename krate from to) k e = (k ≡ krate) × ((e ≡ from) ⊎ (e ≡ to))
Touches op k e = ⊥

-- the number of the file that an op may append to
abbrev pub Writes : State → Op → ℕ → Type 0
Writes F (Append krate entry file piece) number = number_at F krate entry file ≡ Some number
Writes F op number = ⊥

-- the number of the file whose lock an op of this session may change
abbrev pub Locks : State → ℕ → Op → ℕ → Type 0
Locks F who (TryLock handle exclusive) number = owned who (opened_at F handle) ≡ Some number
Locks F who (Close handle) number = owned who (opened_at F handle) ≡ Some number
Locks F who op number = ⊥

-- the open handles of other sessions stay, and what they hold
pub record OthersStay (who : ℕ) (F G : State) : Type 0 where
  pub kept : (h : ℕ) (o : Handle) → opened_at F h ≡ Some o → o.owner ≢ who → opened_at G h ≡ Some o
  pub only : (h : ℕ) (o : Handle) → opened_at G h ≡ Some o → o.owner ≢ who → opened_at F h ≡ Some o
  pub held : (f h : ℕ) (o : Handle) → opened_at F h ≡ Some o → o.owner ≢ who → held_by (locks_of G f) h ≡ held_by (locks_of F f) h

-- G is F but for these entries, these files' bytes, these files' locks, new files, and handles of this session
pub record Changed (who : ℕ) (touched : Text → Text → Type 0) (written locked : ℕ → Type 0) (F G : State) : Type 0 where
  pub tidy : IsTidy F → IsTidy G
  pub grows : length F.files ≤ length G.files
  pub entries : (k e : Text) → ¬ touched k e → entry_at G k e ≡ entry_at F k e
  pub bytes : (number : ℕ) → number < length F.files → ¬ written number → bytes_of G number ≡ bytes_of F number
  pub locks : (number : ℕ) → number < length F.files → ¬ locked number → locks_of G number ≡ locks_of F number
  pub others : IsTidy F → OthersStay who F G

module _ {who : ℕ} {touched : Text → Text → Type 0} {written locked : ℕ → Type 0} where
  -- nothing changed
  pub idle : (F G : State) → G ≡ F → Changed who touched written locked F G
  idle F G is = subst (Changed who touched written locked F) (sym is) (record {
    tidy = λ t. t;
    grows = omega arith;
    entries = λ k e _. refl;
    bytes = λ n _ _. refl;
    locks = λ n _ _. refl;
    others = λ _. record { kept = λ h o is _. is; only = λ h o is _. is; held = λ f h o _ _. refl };
  })

  -- one change after another
  pub then_changed : (F G H : State) → Changed who touched written locked F G → Changed who touched written locked G H → Changed who touched written locked F H
  then_changed F G H a b = record {
    tidy = λ t. b.tidy (a.tidy t);
    grows = let p = a.grows in let q = b.grows in omega arith;
    entries = λ k e off. b.entries k e off ∙ a.entries k e off;
    bytes = λ n below off. let p = a.grows in b.bytes n (omega arith) off ∙ a.bytes n below off;
    locks = λ n below off. let p = a.grows in b.locks n (omega arith) off ∙ a.locks n below off;
    others = λ t. let p = a.others t in let q = b.others (a.tidy t) in record {
      kept = λ h o is off. q.kept h o (p.kept h o is off) off;
      only = λ h o is off. p.only h o (q.only h o is off) off;
      held = λ f h o is off. q.held f h o (p.kept h o is off) off ∙ p.held f h o is off;
    };
  }

  pub drew : (F : State) (pair : ℕ × ℕ) → ¬ IsIn F.drawn pair → Changed who touched written locked F (record F { drawn = pair ∷ F.drawn })
  drew F pair new = record {
    tidy = λ t. draw_tidy t pair new;
    grows = omega arith;
    entries = λ k e _. refl;
    bytes = λ n _ _. refl;
    locks = λ n _ _. refl;
    others = λ _. record { kept = λ h o is _. is; only = λ h o is _. is; held = λ f h o _ _. refl };
  }

  pub put : (F : State) (krate entry : Text) (what : Entry) → touched krate entry
      → (IsTidy F → (folder : List (Text × ℕ)) → folder_of (Some what) ≡ Some folder → IsStrictlySortedBy text_cmp (keys_of folder))
      → Changed who touched written locked F (with_entry F krate entry what)
  put F krate entry what at new = record {
    tidy = λ t. put_tidy t krate entry what (new t);
    grows = omega arith;
    entries = λ k e off. (λ i. entries_put F krate entry what i k e)
        ∙ each_path (entry_at F) krate entry (Some what) (λ k e z. ¬ touched k e → z ≡ entry_at F k e) (λ k e _ _. refl) (λ off. absurd (off at)) k e off;
    bytes = λ n _ _. refl;
    locks = λ n _ _. refl;
    others = λ _. record { kept = λ h o is _. is; only = λ h o is _. is; held = λ f h o _ _. refl };
  }

  pub cut : (F : State) (krate entry : Text) → touched krate entry → Changed who touched written locked F (without_entry F krate entry)
  cut F krate entry at = record {
    tidy = λ t. cut_tidy t krate entry;
    grows = omega arith;
    entries = λ k e off. (λ i. entries_cut F krate entry i k e)
        ∙ each_path (entry_at F) krate entry None (λ k e z. ¬ touched k e → z ≡ entry_at F k e) (λ k e _ _. refl) (λ off. absurd (off at)) k e off;
    bytes = λ n _ _. refl;
    locks = λ n _ _. refl;
    others = λ _. record { kept = λ h o is _. is; only = λ h o is _. is; held = λ f h o _ _. refl };
  }

  pub made : (F : State) → Changed who touched written locked F (with_new_file F)
  made F = record {
    tidy = λ t. new_file_tidy t;
    grows = omega (arith, length-append F.files (record { bytes = []; lock = Free } ∷ []));
    entries = λ k e _. refl;
    bytes = λ n below _. (λ i. sym (new_file (λ file. file.bytes) F) i n) ∙ there (bytes_of F) (length F.files) (Some []) n (λ e. omega arith);
    locks = λ n below _. (λ i. sym (new_file (λ file. file.lock) F) i n) ∙ there (locks_of F) (length F.files) (Some Free) n (λ e. omega arith);
    others = λ _. record {
      kept = λ h o is _. is;
      only = λ h o is _. is;
      held = λ f h o _ _. (λ i. held_by (sym (new_file (λ file. file.lock) F) i f) h)
          ∙ each (locks_of F) (length F.files) (Some Free) (λ f z. held_by z h ≡ held_by (locks_of F f) h) (λ f _. refl)
          (sym (ap (λ f. held_by (option_map (λ (file : File). file.lock) f) h) (slice_get_past F.files (length F.files) (omega arith)))) f;
    };
  }

  pub wrote : (F : State) (found : ℕ × File) (bytes : Text) → slice_get F.files found.0 ≡ Some found.1 → written found.0 → Changed who touched written locked F (with_bytes F found bytes)
  wrote F found bytes is at = record {
    tidy = λ t. file_tidy t found.0 (record { bytes = bytes; lock = found.1.lock });
    grows = omega (arith, length-set F.files found.0 (record { bytes = bytes; lock = found.1.lock }));
    entries = λ k e _. refl;
    bytes = λ n below off. (λ i. sym (set_file (λ file. file.bytes) F found.0 found.1 (record { bytes = bytes; lock = found.1.lock }) is) i n)
        ∙ there (bytes_of F) found.0 (Some bytes) n (λ e. off (subst written e at));
    locks = λ n _ _. λ i. sym same i n;
    others = λ _. record { kept = λ h o is _. is; only = λ h o is _. is; held = λ f h o _ _. λ i. held_by (sym same i f) h };
  }
    where
      same : locks_of F ≡ locks_of (with_bytes F found bytes)
      same = same_file (λ file. file.lock) F found.0 found.1 (record { bytes = bytes; lock = found.1.lock }) is refl

  -- the lock changed for a handle of this session alone
  pub relocked : (F : State) (h : ℕ) (o : Handle) (found : ℕ × File) (lock : Lock) → opened_at F h ≡ Some o → o.owner ≡ who → slice_get F.files found.0 ≡ Some found.1 → locked found.0
      → ((g : ℕ) → h ≢ g → held_in lock g ≡ held_in found.1.lock g) → Changed who touched written locked F (with_lock F found lock)
  relocked F h o found lock lies own is at stays = record {
    tidy = λ t. file_tidy t found.0 (record { bytes = found.1.bytes; lock = lock });
    grows = omega (arith, length-set F.files found.0 (record { bytes = found.1.bytes; lock = lock }));
    entries = λ k e _. refl;
    bytes = λ n _ _. λ i. sym (same_file (λ file. file.bytes) F found.0 found.1 (record { bytes = found.1.bytes; lock = lock }) is refl) i n;
    locks = λ n below off. (λ i. sym changes i n) ∙ there (locks_of F) found.0 (Some lock) n (λ e. off (subst locked e at));
    others = λ _. record {
      kept = λ h o is _. is;
      only = λ h o is _. is;
      held = λ f g p there off. (λ i. held_by (sym changes i f) g)
          ∙ each (locks_of F) found.0 (Some lock) (λ f z. held_by z g ≡ held_by (locks_of F f) g) (λ f _. refl)
          (stays g (λ e. off (ap (λ (x : Handle). x.owner) (one (opened_at F g) p o there (ap (opened_at F) (sym e) ∙ lies)) ∙ own))
          ∙ sym (ap (λ l. held_by (option_map (λ (file : File). file.lock) l) g) is)) f;
    };
  }
    where
      changes : with_at (locks_of F) found.0 (Some lock) ≡ locks_of (with_lock F found lock)
      changes = set_file (λ file. file.lock) F found.0 found.1 (record { bytes = found.1.bytes; lock = lock }) is

      one : (x : Option Handle) (p q : Handle) → x ≡ Some p → x ≡ Some q → p ≡ q
      one x p q a b = cc

  pub opened : (F : State) (h file : ℕ) → ¬ IsIn F.given h → Changed who touched written locked F (with_handle F who h file)
  opened F h file new = record {
    tidy = λ t. handle_tidy t who h file new;
    grows = omega arith;
    entries = λ k e _. refl;
    bytes = λ n _ _. refl;
    locks = λ n _ _. refl;
    others = λ t. record {
      kept = λ g o is off. (λ i. sym (new_handle F h who file) i g) ∙ there (opened_at F) h (Some (record { owner = who; file = file })) g (λ e. new (t.opened h o (ap (opened_at F) e ∙ is))) ∙ is;
      only = λ g o is off. each (opened_at F) h (Some (record { owner = who; file = file })) (λ g z. z ≡ Some o → opened_at F g ≡ Some o) (λ g _ is. is)
          (λ is. absurd (off (sym (owner_is o is)))) g ((λ i. new_handle F h who file i g) ∙ is);
      held = λ f h o _ _. refl;
    };
  }
    where
      owner_is : (o : Handle) → Some (record { owner = who; file = file }) ≡ Some o → who ≡ o.owner
      owner_is o is = cc

  pub closed : (F : State) (h : ℕ) (o : Handle) (found : ℕ × File) → opened_at F h ≡ Some o → o.owner ≡ who → slice_get F.files found.0 ≡ Some found.1 → locked found.0
      → Changed who touched written locked F (without_handle F h found)
  closed F h o found lies own is at = record {
    tidy = λ t. closed_tidy t h found;
    grows = freed_lock.grows;
    entries = λ k e _. refl;
    bytes = freed_lock.bytes;
    locks = freed_lock.locks;
    others = λ t. record {
      kept = λ g p there_ off. (λ i. sym (gone_handle F h found) i g) ∙ there (opened_at F) h None g (λ e. off (ap (λ (x : Handle). x.owner) (one (opened_at F g) p o there_ (ap (opened_at F) (sym e) ∙ lies)) ∙ own)) ∙ there_;
      only = λ g p is off. each (opened_at F) h None (λ g z. z ≡ Some p → opened_at F g ≡ Some p) (λ g _ is. is) (λ is. cc) g ((λ i. gone_handle F h found i g) ∙ is);
      held = (freed_lock.others t).held;
    };
  }
    where
      freed_lock : Changed who touched written locked F (with_lock F found (freed found.1.lock h))
      freed_lock = relocked F h o found (freed found.1.lock h) lies own is at (λ g off. freed_there h g off found.1.lock)

      one : (x : Option Handle) (p q : Handle) → x ≡ Some p → x ≡ Some q → p ≡ q
      one x p q a b = cc
