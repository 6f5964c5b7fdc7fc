-- What a listing names: exactly what stands, each name once, in the order of their bytes.
use Rattle.std.specs.Prelude.{◌≡◌, ◌⊎◌, ◌↔◌, ℕ, List, [], ◌∷◌, Bool, true, false, cond, refl, Some, IsSome, nat_eq}
use Rattle.std.specs.List.{AllByRecursion}
use Rattle.std.specs.List.Sorted.{IsStrictlySortedBy}
use Rattle.std.specs.Map.{lookup, keys_of}
use Rattle.std.specs.BTreeMap.{is_at}
use Rattle.std.specs.Option.{option_and_then}
use Rattle.std.specs.Ordering.{is_eq, ordering_then}
use Rattle.std.specs.declared.cmp.Ordering.TheVariants.{Less}
use Rattle.std.specs.Cmp.{IsEquivalence, tied_itself}
use Rattle.std.specs.Cmp.Lexicographic.{pointwise, nat_list_cmp_total, nat_list_eq_equiv}
use Rattle.std.proofs.Common.{ap, sym, ◌∙◌, subst, inl, inr}
use Rattle.inc_fs.specs.declared.state.Entry.{Entry}
use Rattle.inc_fs.specs.Lists.{IsIn}
use Rattle.inc_fs.specs.Lookups.{same_paths, same_texts, same_bytes}
use Rattle.inc_fs.specs.Paths.{Text, Path, text_cmp, path_cmp, names_in}
use Rattle.inc_fs.specs.Readings.{listed_stands}
use Rattle.inc_fs.specs.State.{State, listed, named, number_at, entry_at}
use Rattle.inc_fs.specs.Step.{Looks, ListsDir}
use Rattle.inc_fs.specs.declared.op.Reply.TheVariants.{Names}
use Rattle.inc_fs.specs.Tidy.{IsTidy}

-- ---- What stands is listed.

listed_first : (krate entry : Text) (names : List Text) (b : Bool) → b ≡ true → IsIn (cond b (entry ∷ names) names) entry
listed_first krate entry names true is = inl refl
listed_first krate entry names false is = cc

listed_more : (name entry : Text) (names : List Text) (b : Bool) → IsIn names entry → IsIn (cond b (name ∷ names) names) entry
listed_more name entry names true h = inr h
listed_more name entry names false h = h

pub stands_listed : (krate entry : Text) (entries : List (Path × Entry)) → IsSome (lookup (is_at (path_cmp (krate, entry))) entries) → IsIn (listed krate entries) entry
stands_listed k e [] h = cc
stands_listed k e (x ∷ entries) h = go (stands_listed k e entries) (same_paths (k, e) x.0) h
  where
    rest : (IsSome (lookup (is_at (path_cmp (k, e))) entries) → IsIn (listed k entries) e) → (b : Bool) → b ≡ false → IsSome (cond b (Some x.1) (lookup (is_at (path_cmp (k, e))) entries)) → IsIn (listed k (x ∷ entries)) e
    rest ih true is s = cc
    rest ih false is s = listed_more x.0.1 e (listed k entries) (pointwise nat_eq x.0.0 k) (ih s)

    go : (IsSome (lookup (is_at (path_cmp (k, e))) entries) → IsIn (listed k entries) e) → (◌≡◌ {A = Path} (k, e) x.0) ⊎ (is_eq (path_cmp (k, e) x.0) ≡ false) → IsSome (lookup (is_at (path_cmp (k, e))) (x ∷ entries)) → IsIn (listed k (x ∷ entries)) e
    go ih (inl is) s = subst (λ (p : Path). IsIn (cond (pointwise nat_eq p.0 k) (p.1 ∷ listed k entries) (listed k entries)) e) is
        (listed_first k e (listed k entries) (pointwise nat_eq k k) (IsEquivalence.refl nat_list_eq_equiv k))
    go ih (inr off) s = rest ih (is_eq (path_cmp (k, e) x.0)) off s

-- ---- A listing ascends.

below_first : (krate name : Text) (path : Path) → path.0 ≡ krate → path_cmp (krate, name) path ≡ Less → text_cmp name path.1 ≡ Less
below_first krate name path is less =
    ap (λ r. ordering_then r (text_cmp name path.1)) (sym (ap (text_cmp krate) is ∙ tied_itself nat_list_cmp_total krate)) ∙ less

module _ (krate : Text) where
  below_listed : (name : Text) (paths : List Path) → AllByRecursion (λ path. path_cmp (krate, name) path ≡ Less) paths → AllByRecursion (λ other. text_cmp name other ≡ Less) (names_in krate paths)
  below_listed name [] all = tt
  below_listed name (path ∷ paths) all = go (below_listed name paths all.1) (pointwise nat_eq path.0 krate) refl
    where
      go : AllByRecursion (λ other. text_cmp name other ≡ Less) (names_in krate paths) → (b : Bool) → pointwise nat_eq path.0 krate ≡ b → AllByRecursion (λ other. text_cmp name other ≡ Less) (cond b (path.1 ∷ names_in krate paths) (names_in krate paths))
      go ih true is = (below_first krate name path (same_bytes path.0 krate is) all.0, ih)
      go ih false is = ih

  pub names_ascend : (paths : List Path) → IsStrictlySortedBy path_cmp paths → IsStrictlySortedBy text_cmp (names_in krate paths)
  unfolding IsStrictlySortedBy
  names_ascend [] sorted = tt
  names_ascend (path ∷ paths) sorted = go (names_ascend paths sorted.1) (pointwise nat_eq path.0 krate) refl
    where
      go : IsStrictlySortedBy text_cmp (names_in krate paths) → (b : Bool) → pointwise nat_eq path.0 krate ≡ b → IsStrictlySortedBy text_cmp (cond b (path.1 ∷ names_in krate paths) (names_in krate paths))
      go ih true is = (below_listed path.1 paths (subst (λ k. AllByRecursion (λ other. path_cmp (k, path.1) other ≡ Less) paths) (same_bytes path.0 krate is) sorted.0), ih)
      go ih false is = ih

-- ---- The names of a directory.

named_is_key : (file : Text) (folder : List (Text × ℕ)) → IsSome (named file folder) → IsIn (keys_of folder) file
named_is_key file [] h = cc
named_is_key file (x ∷ folder) h = go (named_is_key file folder) (same_texts file x.0) h
  where
    rest : (IsSome (named file folder) → IsIn (keys_of folder) file) → (b : Bool) → b ≡ false → IsSome (cond b (Some x.1) (named file folder)) → IsIn (keys_of (x ∷ folder)) file
    rest ih true is s = cc
    rest ih false is s = inr (ih s)

    go : (IsSome (named file folder) → IsIn (keys_of folder) file) → (file ≡ x.0) ⊎ (is_eq (text_cmp file x.0) ≡ false) → IsSome (named file (x ∷ folder)) → IsIn (keys_of (x ∷ folder)) file
    go ih (inl is) s = inl (sym is)
    go ih (inr off) s = rest ih (is_eq (text_cmp file x.0)) off s

key_is_named : (file : Text) (folder : List (Text × ℕ)) → IsIn (keys_of folder) file → IsSome (named file folder)
key_is_named file [] h = absurd h
key_is_named file (x ∷ folder) (inl is) =
    subst (λ k. IsSome (cond (is_eq (text_cmp k x.0)) (Some x.1) (named k folder))) is
    (subst (λ r. IsSome (cond (is_eq r) (Some x.1) (named x.0 folder))) (sym (tied_itself nat_list_cmp_total x.0)) refl)
key_is_named file (x ∷ folder) (inr h) = skip (is_eq (text_cmp file x.0)) (key_is_named file folder h)
  where
    skip : (b : Bool) → IsSome (named file folder) → IsSome (cond b (Some x.1) (named file folder))
    skip true s = refl
    skip false s = s

-- ---- The two rows.

module _ (F G : State) (krate : Text) (names : List Text) where
  pub look_is_exact : (entry : Text) → Looks F krate (Names names) G → IsIn names entry ↔ IsSome (entry_at F krate entry)
  look_is_exact entry s = (
    λ within. listed_stands krate entry F.entries (subst (λ names. IsIn names entry) s.0 within),
    λ stands. subst (λ names. IsIn names entry) (sym s.0) (stands_listed krate entry F.entries stands),
  )

  pub look_ascends : IsTidy F → Looks F krate (Names names) G → IsStrictlySortedBy text_cmp names
  look_ascends t s = subst (IsStrictlySortedBy text_cmp) (sym s.0) (names_ascend krate (keys_of F.entries) t.entries)

  pub list_is_exact : (entry file : Text) → ListsDir F krate entry (Names names) G → IsIn names file ↔ IsSome (number_at F krate entry file)
  list_is_exact entry file s =
      let at : number_at F krate entry file ≡ named file s.0 = ap (option_and_then (named file)) s.1 in (
        λ within. subst IsSome (sym at) (key_is_named file s.0 (subst (λ names. IsIn names file) s.2 within)),
        λ stands. subst (λ names. IsIn names file) (sym s.2) (named_is_key file s.0 (subst IsSome at stands)),
      )

  pub list_ascends : (entry : Text) → IsTidy F → ListsDir F krate entry (Names names) G → IsStrictlySortedBy text_cmp names
  list_ascends entry t s = subst (IsStrictlySortedBy text_cmp) (sym s.2) (t.names krate entry s.0 s.1)
