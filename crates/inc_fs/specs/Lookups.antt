-- Look-ups after an insertion and a removal, by keys in a total order, and keys that compare equal.
use Rattle.std.specs.Prelude.{◌≡◌, ◌⊎◌, ◌&&◌, ℕ, nat_eq, Bool, List, [], ◌∷◌, true, false, cond, refl, Some, None}
use Rattle.std.proofs.lemmas.Bool.{eqb-true}
use Rattle.std.proofs.Common.{ap, sym, ◌∙◌, inl, inr}
use Rattle.std.specs.declared.cmp.Ordering.{Ordering}
use Rattle.std.specs.declared.cmp.Ordering.TheVariants.{Less, Equal, Greater}
use Rattle.std.specs.Ordering.{is_eq, match_ordering, nat_cmp}
use Rattle.std.specs.Cmp.{IsTotalOrder, tied_itself, alike_right, then_total, on_total}
use Rattle.std.specs.Cmp.Lexicographic.{pointwise, nat_list_cmp_total}
use Rattle.std.specs.Map.{lookup}
use Rattle.std.specs.BTreeMap.{insert_entry, is_at}
use Rattle.std.proofs.lemmas.Map.Lookups.{CmpEqualImpliesEq, exact_bytes, exact_pairs, exact_unsigned}
use Rattle.inc_fs.specs.Lists.{remove_entry}
use Rattle.inc_fs.specs.Paths.{Text, Path, text_cmp, path_cmp}

module _ {K V : Type 0} (R : K → K → Ordering) (o : IsTotalOrder R) where
  -- what was put at a key is found there
  pub lookup_here : (es : List (K × V)) (k : K) (v : V) → lookup (is_at (R k)) (insert_entry R es k v) ≡ Some v
  lookup_here [] k v = ap (λ r. cond (is_eq r) (Some v) None) (tied_itself o k)
  lookup_here (e ∷ es) k v =
      elim (R k e.0) as (λ r. R k e.0 ≡ r → lookup (is_at (R k)) (match_ordering r ((k, v) ∷ e ∷ es) ((e.0, v) ∷ es) (e ∷ insert_entry R es k v)) ≡ Some v) [
        | Less ↦ λ is. ap (λ r. cond (is_eq r) (Some v) (lookup (is_at (R k)) (e ∷ es))) (tied_itself o k)
        | Equal ↦ λ is. ap (λ r. cond (is_eq r) (Some v) (lookup (is_at (R k)) es)) is
        | Greater ↦ λ is. ap (λ r. cond (is_eq r) (Some e.1) (lookup (is_at (R k)) (insert_entry R es k v))) is ∙ lookup_here es k v
      ] refl

  -- and other keys find what they found
  pub lookup_there : (es : List (K × V)) (k q : K) (v : V) → is_eq (R q k) ≡ false → lookup (is_at (R q)) (insert_entry R es k v) ≡ lookup (is_at (R q)) es
  lookup_there [] k q v apart = ap (λ b. cond b (Some v) None) apart
  lookup_there (e ∷ es) k q v apart =
      elim (R k e.0) as (λ r. R k e.0 ≡ r → lookup (is_at (R q)) (match_ordering r ((k, v) ∷ e ∷ es) ((e.0, v) ∷ es) (e ∷ insert_entry R es k v)) ≡ lookup (is_at (R q)) (e ∷ es)) [
        | Less ↦ λ is. ap (λ b. cond b (Some v) (lookup (is_at (R q)) (e ∷ es))) apart
        | Equal ↦ λ is.
            let off : is_eq (R q e.0) ≡ false = ap is_eq (sym (alike_right o k e.0 q is)) ∙ apart in
            ap (λ b. cond b (Some v) (lookup (is_at (R q)) es)) off ∙ sym (ap (λ b. cond b (Some e.1) (lookup (is_at (R q)) es)) off)
        | Greater ↦ λ is. ap (λ l. cond (is_eq (R q e.0)) (Some e.1) l) (lookup_there es k q v apart)
      ] refl

  -- what was removed is not found
  pub removed_here : (es : List (K × V)) (k : K) → lookup (is_at (R k)) (remove_entry (is_at (R k)) es) ≡ None
  removed_here [] k = refl
  removed_here (e ∷ es) k =
      elim (is_eq (R k e.0)) as (λ b. is_eq (R k e.0) ≡ b → lookup (is_at (R k)) (cond b (remove_entry (is_at (R k)) es) (e ∷ remove_entry (is_at (R k)) es)) ≡ None) [
        | true ↦ λ is. removed_here es k
        | false ↦ λ is. ap (λ b. cond b (Some e.1) (lookup (is_at (R k)) (remove_entry (is_at (R k)) es))) is ∙ removed_here es k
      ] refl

  -- and other keys find what they found
  pub removed_there : (es : List (K × V)) (k q : K) → is_eq (R q k) ≡ false → lookup (is_at (R q)) (remove_entry (is_at (R k)) es) ≡ lookup (is_at (R q)) es
  removed_there [] k q apart = refl
  removed_there (e ∷ es) k q apart =
      elim (R k e.0) as (λ r. R k e.0 ≡ r → lookup (is_at (R q)) (cond (is_eq r) (remove_entry (is_at (R k)) es) (e ∷ remove_entry (is_at (R k)) es)) ≡ lookup (is_at (R q)) (e ∷ es)) [
        | Less ↦ λ is. ap (λ l. cond (is_eq (R q e.0)) (Some e.1) l) (removed_there es k q apart)
        | Equal ↦ λ is. removed_there es k q apart ∙ sym (ap (λ b. cond b (Some e.1) (lookup (is_at (R q)) es)) (ap is_eq (sym (alike_right o k e.0 q is)) ∙ apart))
        | Greater ↦ λ is. ap (λ l. cond (is_eq (R q e.0)) (Some e.1) l) (removed_there es k q apart)
      ] refl

-- two keys are the same, or compare as apart
pub same_or_apart : {K : Type 0} (R : K → K → Ordering) → CmpEqualImpliesEq R → (x y : K) → (x ≡ y) ⊎ (is_eq (R x y) ≡ false)
same_or_apart {K} R exact x y = go (R x y) refl
  where
    go : (r : Ordering) → R x y ≡ r → (x ≡ y) ⊎ (is_eq (R x y) ≡ false)
    go Less is = inr (ap is_eq is)
    go Equal is = inl (exact x y is)
    go Greater is = inr (ap is_eq is)

-- paths are in a total order
pub path_cmp_total : IsTotalOrder path_cmp
path_cmp_total = then_total {R = λ x y. text_cmp x.0 y.0} {S = λ x y. text_cmp x.1 y.1} (on_total (λ p. p.0) nat_list_cmp_total) (on_total (λ p. p.1) nat_list_cmp_total)

pub same_paths : (x y : Path) → (x ≡ y) ⊎ (is_eq (path_cmp x y) ≡ false)
same_paths = same_or_apart path_cmp (exact_pairs text_cmp text_cmp exact_bytes exact_bytes)

pub same_texts : (x y : Text) → (x ≡ y) ⊎ (is_eq (text_cmp x y) ≡ false)
same_texts = same_or_apart text_cmp exact_bytes

pub same_numbers : (x y : ℕ) → (x ≡ y) ⊎ (is_eq (nat_cmp x y) ≡ false)
same_numbers = same_or_apart nat_cmp exact_unsigned

-- texts that the test finds equal are the same
pub same_bytes : (x y : Text) → pointwise nat_eq x y ≡ true → x ≡ y
same_bytes [] [] e = refl
same_bytes [] (y ∷ ys) e = cc
same_bytes (x ∷ xs) [] e = cc
same_bytes (x ∷ xs) (y ∷ ys) e = go (same_bytes xs ys) (nat_eq x y) (pointwise nat_eq xs ys) refl refl e
  where
    go : (pointwise nat_eq xs ys ≡ true → xs ≡ ys) → (a b : Bool) → nat_eq x y ≡ a → pointwise nat_eq xs ys ≡ b → (a && b) ≡ true → x ∷ xs ≡ y ∷ ys
    go ih true true p q e = λ i. eqb-true x y p i ∷ ih q i
    go ih true false p q e = cc
    go ih false b p q e = cc
