-- When a thing was said last, brought forward by one more step, and keys that are set in a table.
use Rattle.std.specs.Prelude.{◌≡◌, ◌⊎◌, ◌↔◌, ◌≤◌, ◌+◌, ◌++◌, ℕ, suc, List, [], ◌∷◌, length, drop, false, refl, Option, Some, None}
use Rattle.std.proofs.Common.{ap, sym, ◌∙◌, subst, inl, inr, arith, length-append}
use Rattle.std.proofs.lemmas.Bool.{false≢true}
use Rattle.std.proofs.lemmas.Map.Lookups.{CmpEqualImpliesEq, exact_bytes, exact_pairs}
use Rattle.std.specs.declared.cmp.Ordering.{Ordering}
use Rattle.std.specs.Ordering.{is_eq}
use Rattle.std.specs.Cmp.{IsTotalOrder, tied_itself, then_total, on_total}
use Rattle.std.specs.Cmp.Lexicographic.{nat_list_cmp_total}
use Rattle.std.specs.Map.{lookup}
use Rattle.std.specs.BTreeMap.{insert_entry, is_at}
use Rattle.inc_fs.specs.Lists.{IsIn, remove_entry}
use Rattle.inc_fs.specs.Lookups.{lookup_here, lookup_there, removed_there, same_or_apart, path_cmp_total}
use Rattle.inc_fs.specs.Paths.{Text, text_cmp, path_cmp}
use Rattle.inc_fs.specs.declared.op.Op.{Op}
use Rattle.inc_fs.specs.declared.op.Reply.{Reply}
use Rattle.inc_proto.specs.Events.{Steps}
use Rattle.inc_proto.specs.Indexes.{IsSince, Tells, put_all, file_cmp}
use Rattle.inc_proto.specs.Views.{HasAny}

pub one_more : {A B C : Type 0} → (A → C) → (B → C) → A ⊎ B → C
one_more f g (inl a) = f a
one_more f g (inr b) = g b

-- ---- Keys that are set.

module _ {K : Type 0} (R : K → K → Ordering) (total : IsTotalOrder R) where
  pub itself : (k : K) → is_eq (R k k) ≡ false → ⊥
  itself k apart = false≢true (sym apart ∙ ap is_eq (tied_itself total k))

  pub set_here : {V : Type 0} (es : List (K × V)) (k : K) (v : V) → lookup (is_at (R k)) (insert_entry R (remove_entry (is_at (R k)) es) k v) ≡ Some v
  set_here es k v = lookup_here R total (remove_entry (is_at (R k)) es) k v

  pub set_there : {V : Type 0} (es : List (K × V)) (k q : K) (v : V) → is_eq (R q k) ≡ false
      → lookup (is_at (R q)) (insert_entry R (remove_entry (is_at (R k)) es) k v) ≡ lookup (is_at (R q)) es
  set_there es k q v apart = lookup_there R total (remove_entry (is_at (R k)) es) k q v apart ∙ removed_there R total es k q apart

  -- each key is one of those that were put, or finds what it found
  pub puts : CmpEqualImpliesEq R → (key : Text → K) (at : ℕ) (names : List Text) (es : List (K × ℕ)) (q : K)
      → ((name : Text) × IsIn names name × (key name ≡ q) × (lookup (is_at (R q)) (put_all R key at names es) ≡ Some at))
      ⊎ (((name : Text) → IsIn names name → key name ≡ q → ⊥) × (lookup (is_at (R q)) (put_all R key at names es) ≡ lookup (is_at (R q)) es))
  puts exact key at [] es q = inr (λ name is same. absurd is, refl)
  puts exact key at (name ∷ names) es q = go (puts exact key at names (insert_entry R es (key name) at) q) (same_or_apart R exact q (key name))
    where
      go : ((x : Text) × IsIn names x × (key x ≡ q) × (lookup (is_at (R q)) (put_all R key at names (insert_entry R es (key name) at)) ≡ Some at))
          ⊎ (((x : Text) → IsIn names x → key x ≡ q → ⊥)
          × (lookup (is_at (R q)) (put_all R key at names (insert_entry R es (key name) at)) ≡ lookup (is_at (R q)) (insert_entry R es (key name) at)))
          → (q ≡ key name) ⊎ (is_eq (R q (key name)) ≡ false)
          → ((x : Text) × IsIn (name ∷ names) x × (key x ≡ q) × (lookup (is_at (R q)) (put_all R key at (name ∷ names) es) ≡ Some at))
          ⊎ (((x : Text) → IsIn (name ∷ names) x → key x ≡ q → ⊥) × (lookup (is_at (R q)) (put_all R key at (name ∷ names) es) ≡ lookup (is_at (R q)) es))
      go (inl w) same = inl (w.0, inr w.1, w.2, w.3)
      go (inr w) (inl same) =
          inl (name, inl refl, sym same, w.1 ∙ subst (λ k. lookup (is_at (R q)) (insert_entry R es k at) ≡ Some at) same (lookup_here R total es q at))
      go (inr w) (inr apart) = inr (off, w.1 ∙ lookup_there R total es (key name) q at apart)
        where
          off : (x : Text) → IsIn (name ∷ names) x → key x ≡ q → ⊥
          off x (inl is) same = itself q (subst (λ k. is_eq (R q k) ≡ false) (ap key is ∙ same) apart)
          off x (inr is) same = w.0 x is same

-- ---- When a thing was said last.

-- now,
pub told_now : (Says : Steps → Type 0) (step : Op × Reply) (steps : Steps) → (Says [] → ⊥) → ((after : Steps) → Says (step ∷ after))
    → Tells Says (step ∷ steps) (Some (length steps))
told_now Says step steps none now [] before is = (λ says. absurd (none says), λ le. absurd (past (length steps) (length before) (ap length is) le))
  where
    past : (n m : ℕ) → suc n ≡ m → m ≤ n → ⊥
    past n m same le = omega arith
told_now Says step steps none now (x ∷ after) before is =
    let same : step ≡ x = cc in
    let rest : steps ≡ after ++ before = ap (drop 1) is in
    let count = ap length rest ∙ length-append after before in
    (λ says. within (length steps) (length after) (length before) count, λ le. subst (λ s. Says (s ∷ after)) same (now after))
  where
    within : (n a b : ℕ) → n ≡ a + b → b ≤ n
    within n a b same = omega arith

pub since_less : (at : Option ℕ) (from : ℕ) → IsSince at (suc from) → IsSince at from
since_less None from is = is
since_less (Some at) from is = omega arith

-- or not now
pub told_still : (Says : Steps → Type 0) (step : Op × Reply) (steps : Steps) (at : Option ℕ) → (Says [] → ⊥) → ((after : Steps) → Says (step ∷ after) ↔ Says after)
    → Tells Says steps at → Tells Says (step ∷ steps) at
told_still Says step steps at none same told [] before is =
    (λ says. absurd (none says), λ since. absurd (none ((told [] steps refl).1 (since_less at (length steps) (subst (λ ss. IsSince at (length ss)) (sym is) since)))))
told_still Says step steps at none same told (x ∷ after) before is =
    let first : step ≡ x = cc in
    let rest : steps ≡ after ++ before = ap (drop 1) is in (
      λ says. (told after before rest).0 ((same after).0 (subst (λ s. Says (s ∷ after)) (sym first) says)),
      λ since. subst (λ s. Says (s ∷ after)) first ((same after).1 ((told after before rest).1 since)),
    )

-- and so before
pub told_before : (Says : Steps → Type 0) (step : Op × Reply) (steps : Steps) (at : Option ℕ) → ((after : Steps) → Says (step ∷ after) ↔ Says after)
    → Tells Says (step ∷ steps) at → Tells Says steps at
told_before Says step steps at same told after before is =
    let now = told (step ∷ after) before (ap (λ ss. step ∷ ss) is) in
    (λ says. now.0 ((same after).1 says), λ since. (same after).0 (now.1 since))

pub any_same : (P : Op × Reply → Type 0) (step : Op × Reply) → (P step → ⊥) → (after : Steps) → HasAny P (step ∷ after) ↔ HasAny P after
any_same P step off after = (one_more (λ is. absurd (off is)) (λ any. any), inr)

pub any_now : (P : Op × Reply → Type 0) (step : Op × Reply) (steps : Steps) → P step → Tells (HasAny P) (step ∷ steps) (Some (length steps))
any_now P step steps is = told_now (HasAny P) step steps (λ none. none) (λ after. inl is)

pub any_still : (P : Op × Reply → Type 0) (step : Op × Reply) (steps : Steps) (at : Option ℕ) → (P step → ⊥) → Tells (HasAny P) steps at → Tells (HasAny P) (step ∷ steps) at
any_still P step steps at off told = told_still (HasAny P) step steps at (λ none. none) (any_same P step off) told

pub file_cmp_total : IsTotalOrder file_cmp
file_cmp_total = then_total {R = λ x y. path_cmp x.0 y.0} {S = λ x y. text_cmp x.1 y.1} (on_total (λ p. p.0) path_cmp_total) (on_total (λ p. p.1) nat_list_cmp_total)

pub path_exact : CmpEqualImpliesEq path_cmp
path_exact = exact_pairs text_cmp text_cmp exact_bytes exact_bytes

pub file_exact : CmpEqualImpliesEq file_cmp
file_exact = exact_pairs path_cmp text_cmp path_exact exact_bytes
