-- What each state is like that steps and endings lead to: keys ascend, so each stands once, and an open handle is
-- one of those given.
use Rattle.std.specs.Prelude.{◌≡◌, ℕ, List, [], ◌∷◌, Bool, true, false, cond, filter, refl, Some, None}
use Rattle.std.specs.List.{AllByRecursion}
use Rattle.std.specs.List.Sorted.{IsStrictlySortedBy}
use Rattle.std.specs.Map.{keys_of}
use Rattle.std.specs.BTreeMap.{insert_entry, is_at}
use Rattle.std.specs.Ordering.{match_ordering, nat_cmp, ordering_reverse}
use Rattle.std.specs.declared.cmp.Ordering.{Ordering}
use Rattle.std.specs.declared.cmp.Ordering.TheVariants.{Less, Equal, Greater}
use Rattle.std.specs.Cmp.{IsTotalOrder, nat_cmp_total}
use Rattle.std.proofs.Common.{ap, sym, ◌∙◌, inl, inr}
use Rattle.inc_fs.specs.declared.state.Entry.{Entry}
use Rattle.inc_fs.specs.declared.state.File.{File}
use Rattle.inc_fs.specs.declared.state.Handle.{Handle}
use Rattle.inc_fs.specs.Lists.{AreDistinct}
use Rattle.inc_fs.specs.Lookups.{path_cmp_total}
use Rattle.inc_fs.specs.Points.{each, each_path}
use Rattle.inc_fs.specs.Readings.{folders_put, folders_cut, new_handle, gone_handle}
use Rattle.inc_fs.specs.State.{State, Text, IsIn, remove_entry, text_cmp, path_cmp, start, folder_at, folder_of, opened_at, with_entry, without_entry, with_new_file, with_file, with_handle, without_handle}

pub record IsTidy (F : State) : Type 0 where
  pub entries : IsStrictlySortedBy path_cmp (keys_of F.entries)
  pub names : (krate entry : Text) (folder : List (Text × ℕ)) → folder_at F krate entry ≡ Some folder → IsStrictlySortedBy text_cmp (keys_of folder)
  pub handles : IsStrictlySortedBy nat_cmp (keys_of F.handles)
  pub opened : (h : ℕ) (o : Handle) → opened_at F h ≡ Some o → IsIn F.given h
  pub given : AreDistinct F.given
  pub drawn : AreDistinct F.drawn

-- ---- Lists whose keys ascend.

all_below : {K : Type 0} (R : K → K → Ordering) → IsTotalOrder R → (k l : K) (ks : List K) → R k l ≡ Less → AllByRecursion (λ y. R l y ≡ Less) ks → AllByRecursion (λ y. R k y ≡ Less) ks
all_below R o k l [] less all = all
all_below R o k l (x ∷ ks) less all = (o.trans k l x less all.0, all_below R o k l ks less all.1)

module _ {K V : Type 0} where
  all_inserted : (R : K → K → Ordering) (P : K → Type 0) (es : List (K × V)) (k : K) (v : V) → AllByRecursion P (keys_of es) → P k → AllByRecursion P (keys_of (insert_entry R es k v))
  all_inserted R P [] k v all this = (this, tt)
  all_inserted R P (e ∷ es) k v all this =
      elim (R k e.0) as (λ r. AllByRecursion P (keys_of (match_ordering r ((k, v) ∷ e ∷ es) ((e.0, v) ∷ es) (e ∷ insert_entry R es k v)))) [
        | Less ↦ (this, all)
        | Equal ↦ all
        | Greater ↦ (all.0, all_inserted R P es k v all.1 this)
      ]

  pub sorted_inserted : (R : K → K → Ordering) → IsTotalOrder R → (es : List (K × V)) (k : K) (v : V) → IsStrictlySortedBy R (keys_of es) → IsStrictlySortedBy R (keys_of (insert_entry R es k v))
  unfolding IsStrictlySortedBy
  sorted_inserted R o [] k v sorted = (tt, tt)
  sorted_inserted R o (e ∷ es) k v sorted =
      elim (R k e.0) as (λ r. R k e.0 ≡ r → IsStrictlySortedBy R (keys_of (match_ordering r ((k, v) ∷ e ∷ es) ((e.0, v) ∷ es) (e ∷ insert_entry R es k v)))) [
        | Less ↦ λ is. ((is, all_below R o k e.0 (keys_of es) is sorted.0), sorted)
        | Equal ↦ λ is. sorted
        | Greater ↦ λ is. (all_inserted R (λ y. R e.0 y ≡ Less) es k v sorted.0 (o.antisymm e.0 k ∙ ap ordering_reverse is), sorted_inserted R o es k v sorted.1)
      ] refl

  all_left : (test : K → Bool) (P : K → Type 0) (es : List (K × V)) → AllByRecursion P (keys_of es) → AllByRecursion P (keys_of (remove_entry test es))
  all_left test P [] all = tt
  all_left test P (e ∷ es) all =
      elim (test e.0) as (λ b. AllByRecursion P (keys_of (cond b (remove_entry test es) (e ∷ remove_entry test es)))) [
        | true ↦ all_left test P es all.1
        | false ↦ (all.0, all_left test P es all.1)
      ]

  pub sorted_removed : (R : K → K → Ordering) (test : K → Bool) (es : List (K × V)) → IsStrictlySortedBy R (keys_of es) → IsStrictlySortedBy R (keys_of (remove_entry test es))
  unfolding IsStrictlySortedBy
  sorted_removed R test [] sorted = tt
  sorted_removed R test (e ∷ es) sorted =
      elim (test e.0) as (λ b. IsStrictlySortedBy R (keys_of (cond b (remove_entry test es) (e ∷ remove_entry test es)))) [
        | true ↦ sorted_removed R test es sorted.1
        | false ↦ (all_left test (λ y. R e.0 y ≡ Less) es sorted.0, sorted_removed R test es sorted.1)
      ]

  all_kept : (p : K × V → Bool) (P : K → Type 0) (es : List (K × V)) → AllByRecursion P (keys_of es) → AllByRecursion P (keys_of (filter p es))
  all_kept p P [] all = tt
  all_kept p P (e ∷ es) all =
      elim (p e) as (λ b. AllByRecursion P (keys_of (cond b (e ∷ filter p es) (filter p es)))) [
        | true ↦ (all.0, all_kept p P es all.1)
        | false ↦ all_kept p P es all.1
      ]

  pub sorted_kept : (R : K → K → Ordering) (p : K × V → Bool) (es : List (K × V)) → IsStrictlySortedBy R (keys_of es) → IsStrictlySortedBy R (keys_of (filter p es))
  unfolding IsStrictlySortedBy
  sorted_kept R p [] sorted = tt
  sorted_kept R p (e ∷ es) sorted =
      elim (p e) as (λ b. IsStrictlySortedBy R (keys_of (cond b (e ∷ filter p es) (filter p es)))) [
        | true ↦ (all_kept p (λ y. R e.0 y ≡ Less) es sorted.0, sorted_kept R p es sorted.1)
        | false ↦ sorted_kept R p es sorted.1
      ]

-- ---- The changes of the table.

pub start_tidy : IsTidy start
unfolding IsStrictlySortedBy
start_tidy = record { entries = tt; names = λ krate entry folder is. cc; handles = tt; opened = λ h o is. cc; given = tt; drawn = tt }

module _ {F : State} (t : IsTidy F) where
  pub draw_tidy : (pair : ℕ × ℕ) → ¬ IsIn F.drawn pair → IsTidy (record F { drawn = pair ∷ F.drawn })
  draw_tidy pair new = record { entries = t.entries; names = t.names; handles = t.handles; opened = t.opened; given = t.given; drawn = (new, t.drawn) }

  pub put_tidy : (krate entry : Text) (what : Entry) → ((folder : List (Text × ℕ)) → folder_of (Some what) ≡ Some folder → IsStrictlySortedBy text_cmp (keys_of folder)) → IsTidy (with_entry F krate entry what)
  put_tidy krate entry what new = record {
    entries = sorted_inserted path_cmp path_cmp_total F.entries (krate, entry) what t.entries;
    names = λ k e folder is. each_path (folder_at F) krate entry (folder_of (Some what)) (λ k e z. (folder : List (Text × ℕ)) → z ≡ Some folder → IsStrictlySortedBy text_cmp (keys_of folder))
        (λ k e _ folder is. t.names k e folder is) new k e folder ((λ i. sym (folders_put F krate entry what) i k e) ∙ is);
    handles = t.handles;
    opened = t.opened;
    given = t.given;
    drawn = t.drawn;
  }

  pub cut_tidy : (krate entry : Text) → IsTidy (without_entry F krate entry)
  cut_tidy krate entry = record {
    entries = sorted_removed path_cmp (is_at (path_cmp (krate, entry))) F.entries t.entries;
    names = λ k e folder is. each_path (folder_at F) krate entry None (λ k e z. (folder : List (Text × ℕ)) → z ≡ Some folder → IsStrictlySortedBy text_cmp (keys_of folder))
        (λ k e _ folder is. t.names k e folder is) (λ folder is. cc) k e folder ((λ i. sym (folders_cut F krate entry) i k e) ∙ is);
    handles = t.handles;
    opened = t.opened;
    given = t.given;
    drawn = t.drawn;
  }

  pub new_file_tidy : IsTidy (with_new_file F)
  new_file_tidy = record { entries = t.entries; names = t.names; handles = t.handles; opened = t.opened; given = t.given; drawn = t.drawn }

  pub file_tidy : (number : ℕ) (file : File) → IsTidy (with_file F number file)
  file_tidy number file = record { entries = t.entries; names = t.names; handles = t.handles; opened = t.opened; given = t.given; drawn = t.drawn }

  pub handle_tidy : (who h file : ℕ) → ¬ IsIn F.given h → IsTidy (with_handle F who h file)
  handle_tidy who h file new = record {
    entries = t.entries;
    names = t.names;
    handles = sorted_inserted nat_cmp nat_cmp_total F.handles h (record { owner = who; file = file }) t.handles;
    opened = λ g o is. each (opened_at F) h (Some (record { owner = who; file = file })) (λ g z. (o : Handle) → z ≡ Some o → IsIn (h ∷ F.given) g)
        (λ g _ o is. inr (t.opened g o is)) (λ o is. inl refl) g o ((λ i. new_handle F h who file i g) ∙ is);
    given = (new, t.given);
    drawn = t.drawn;
  }

  pub closed_tidy : (h : ℕ) (found : ℕ × File) → IsTidy (without_handle F h found)
  closed_tidy h found = record {
    entries = t.entries;
    names = t.names;
    handles = sorted_removed nat_cmp (is_at (nat_cmp h)) F.handles t.handles;
    opened = λ g o is. each (opened_at F) h None (λ g z. (o : Handle) → z ≡ Some o → IsIn F.given g)
        (λ g _ o is. t.opened g o is) (λ o is. cc) g o ((λ i. gone_handle F h found i g) ∙ is);
    given = t.given;
    drawn = t.drawn;
  }
