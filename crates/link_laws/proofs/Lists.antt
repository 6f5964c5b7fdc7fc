-- Elements of lists that are made of others, and lists in which nothing stands twice.
use Rattle.std.proofs.Common.{◌≡◌, ℕ, zero, suc, Bool, true, false, cond, List, [], ◌∷◌, ◌++◌, map, Option, Some, None, refl, sym, ap, ◌∙◌, subst, arith}
use Rattle.std.specs.Prelude.{filter, slice_get}
use Rattle.std.specs.List.{AllByRecursion, Contains, IsDistinct, cons_option, filter_map, flat_map}
use Rattle.std.proofs.lemmas.List.Elements.{All-contains, All-from_recursion, Contains-append_left, Contains-append_right}
use Rattle.std.proofs.lemmas.Option.{get_or_from_slice_get, none-some, same_Some, slice_get-get_or, slice_get_within}
use Rattle.std.proofs.lemmas.Map.Keys.{IsDistinct-cons, IsDistinct-head, IsDistinct-tail}
use Rattle.rs_grammar.specs.Tidy.{Distinct, Throughout}

pub first : {X : Type 0} (x : X) (xs : List X) → Contains (x ∷ xs) x
first x xs = (0, omega arith, refl)

pub later : {X : Type 0} (y : X) (xs : List X) (x : X) → Contains xs x → Contains (y ∷ xs) x
later y xs x h = (suc h.0, omega (arith, h.1), h.2)

-- between an element and its number
pub numbered : {X : Type 0} (xs : List X) (x : X) → Contains xs x → (i : ℕ) × (slice_get xs i ≡ Some x)
numbered xs x h = (h.0, slice_get-get_or xs h.0 x h.1 ∙ ap Some h.2)

pub at_number : {X : Type 0} (xs : List X) (i : ℕ) (x : X) → slice_get xs i ≡ Some x → Contains xs x
at_number xs i x e = (i, slice_get_within xs i x e, get_or_from_slice_get xs i x x e)

pub contains_map : {X Y : Type 0} (f : X → Y) (xs : List X) (x : X) → Contains xs x → Contains (map f xs) (f x)
contains_map f [] x h = absurd (omega (arith, h.1))
contains_map f (y ∷ xs) x (zero, l, e) = (0, omega arith, ap f e)
contains_map f (y ∷ xs) x (suc k, l, e) = later (f y) (map f xs) (f x) (contains_map f xs x (k, omega (arith, l), e))

pub contains_filter : {X : Type 0} (p : X → Bool) (xs : List X) (x : X) → Contains xs x → p x ≡ true → Contains (filter p xs) x
contains_filter p [] x h pass = absurd (omega (arith, h.1))
contains_filter p (y ∷ xs) x (zero, l, e) pass = by (p y) (ap p e ∙ pass)
  where
    by : (b : Bool) → b ≡ true → Contains (cond b (y ∷ filter p xs) (filter p xs)) x
    by true h = (0, omega arith, e)
    by false h = absurd cc
contains_filter p (y ∷ xs) x (suc k, l, e) pass = by (p y) (contains_filter p xs x (k, omega (arith, l), e) pass)
  where
    by : (b : Bool) → Contains (filter p xs) x → Contains (cond b (y ∷ filter p xs) (filter p xs)) x
    by true h = later y (filter p xs) x h
    by false h = h

pub contains_filter_map : {X Y : Type 0} (f : X → Option Y) (xs : List X) (x : X) (y : Y) → Contains xs x → f x ≡ Some y → Contains (filter_map f xs) y
contains_filter_map f [] x y h is = absurd (omega (arith, h.1))
contains_filter_map {X} {Y} f (z ∷ xs) x y (zero, l, e) is = by (f z) (ap f e ∙ is)
  where
    by : (o : Option Y) → o ≡ Some y → Contains (cons_option o (filter_map f xs)) y
    by None h = absurd (none-some y h)
    by (Some v) h = (0, omega arith, same_Some v y h)
contains_filter_map {X} {Y} f (z ∷ xs) x y (suc k, l, e) is = by (f z) (contains_filter_map f xs x y (k, omega (arith, l), e) is)
  where
    by : (o : Option Y) → Contains (filter_map f xs) y → Contains (cons_option o (filter_map f xs)) y
    by None h = h
    by (Some v) h = later v (filter_map f xs) y h

pub contains_flat_map : {X Y : Type 0} (f : X → List Y) (xs : List X) (x : X) (y : Y) → Contains xs x → Contains (f x) y → Contains (flat_map f xs) y
contains_flat_map f [] x y h has = absurd (omega (arith, h.1))
contains_flat_map f (z ∷ xs) x y (zero, l, e) has = Contains-append_left (f z) (flat_map f xs) y (subst (λ v. Contains (f v) y) (sym e) has)
contains_flat_map f (z ∷ xs) x y (suc k, l, e) has = Contains-append_right (f z) (flat_map f xs) y (contains_flat_map f xs x y (k, omega (arith, l), e) has)

-- ---- What holds of each element.

pub each_from : {X : Type 0} (P : X → Type 0) (xs : List X) → ((x : X) → Contains xs x → P x) → AllByRecursion P xs
each_from P [] f = tt
each_from P (x ∷ xs) f = (f x (first x xs), each_from P xs (λ y has. f y (later x xs y has)))

pub each_at : {X : Type 0} (P : X → Type 0) (xs : List X) (x : X) → AllByRecursion P xs → Contains xs x → P x
each_at P xs x h has = All-contains P xs x (All-from_recursion P xs h) has

pub each_throughout : {X : Type 0} (P : X → Type 0) (xs : List X) → Throughout P xs → AllByRecursion P xs
each_throughout P [] h = tt
each_throughout P (x ∷ xs) h = (h.0, each_throughout P xs h.1)

pub each_map : {X Y : Type 0} (P : Y → Type 0) (f : X → Y) (xs : List X) → AllByRecursion (λ x. P (f x)) xs → AllByRecursion P (map f xs)
each_map P f [] h = tt
each_map P f (x ∷ xs) h = (h.0, each_map P f xs h.1)

pub each_filter : {X : Type 0} (P : X → Type 0) (p : X → Bool) (xs : List X) → AllByRecursion P xs → AllByRecursion P (filter p xs)
each_filter P p [] h = tt
each_filter P p (x ∷ xs) h = by (p x) (each_filter P p xs h.1)
  where
    by : (b : Bool) → AllByRecursion P (filter p xs) → AllByRecursion P (cond b (x ∷ filter p xs) (filter p xs))
    by true more = (h.0, more)
    by false more = more

pub each_append : {X : Type 0} (P : X → Type 0) (xs ys : List X) → AllByRecursion P xs → AllByRecursion P ys → AllByRecursion P (xs ++ ys)
each_append P [] ys g h = h
each_append P (x ∷ xs) ys g h = (g.0, each_append P xs ys g.1 h)

pub each_flat_map : {X Y : Type 0} (P : Y → Type 0) (f : X → List Y) (xs : List X) → AllByRecursion (λ x. AllByRecursion P (f x)) xs → AllByRecursion P (flat_map f xs)
each_flat_map P f [] h = tt
each_flat_map P f (x ∷ xs) h = each_append P (f x) (flat_map f xs) h.0 (each_flat_map P f xs h.1)

pub each_filter_map : {X Y : Type 0} (P : Y → Type 0) (f : X → Option Y) (xs : List X) → AllByRecursion (λ x. (y : Y) → f x ≡ Some y → P y) xs → AllByRecursion P (filter_map f xs)
each_filter_map P f [] h = tt
each_filter_map {X} {Y} P f (x ∷ xs) h = by (f x) h.0 (each_filter_map P f xs h.1)
  where
    by : (o : Option Y) → ((y : Y) → o ≡ Some y → P y) → AllByRecursion P (filter_map f xs) → AllByRecursion P (cons_option o (filter_map f xs))
    by None here more = more
    by (Some y) here more = (here y refl, more)

pub each_weaker : {X : Type 0} (P Q : X → Type 0) (xs : List X) → ((x : X) → P x → Q x) → AllByRecursion P xs → AllByRecursion Q xs
each_weaker P Q [] f h = tt
each_weaker P Q (x ∷ xs) f h = (f x h.0, each_weaker P Q xs f h.1)

-- ---- Lists in which nothing stands twice.

pub split : {X : Type 0} (xs : List X) (x : X) → Contains xs x → (before : List X) × (rest : List X) × (xs ≡ before ++ x ∷ rest)
split [] x h = absurd (omega (arith, h.1))
split (y ∷ xs) x (zero, l, e) = ([], xs, ap (λ z. z ∷ xs) e)
split (y ∷ xs) x (suc k, l, e) = (let cut = split xs x (k, omega (arith, l), e) in (y ∷ cut.0, cut.1, ap (λ zs. y ∷ zs) cut.2))

pub head_apart : {X : Type 0} (x : X) (xs : List X) → Distinct (x ∷ xs) → (y : X) → Contains xs y → x ≡ y → ⊥
head_apart x xs d y has e = (let cut = split xs y has in d (x ∷ cut.0) y cut.1 (ap (λ zs. x ∷ zs) cut.2) (0, omega arith, e))

pub rest_distinct : {X : Type 0} (x : X) (xs : List X) → Distinct (x ∷ xs) → Distinct xs
rest_distinct x xs d before y rest e has = d (x ∷ before) y rest (ap (λ zs. x ∷ zs) e) (later x before y has)

-- each element has one number
abbrev pub Once : {X : Type 0} → List X → Type 0
Once {X} xs = (i j : ℕ) (x : X) → slice_get xs i ≡ Some x → slice_get xs j ≡ Some x → i ≡ j

pub once : {X : Type 0} (xs : List X) → Distinct xs → Once xs
once [] d i j x p q = absurd (none-some x p)
once (y ∷ xs) d zero zero x p q = refl
once (y ∷ xs) d zero (suc j) x p q = absurd (head_apart y xs d x (at_number xs j x q) (same_Some y x p))
once (y ∷ xs) d (suc i) zero x p q = absurd (head_apart y xs d x (at_number xs i x p) (same_Some y x q))
once (y ∷ xs) d (suc i) (suc j) x p q = ap suc (once xs (rest_distinct y xs d) i j x p q)

pub none_distinct : {X : Type 0} (e : X → X → Bool) → IsDistinct e []
unfolding IsDistinct
none_distinct e = tt

-- what is made of the elements that pass, differs where it does for all
pub distinct_made : {X Y : Type 0} (e : Y → Y → Bool) (f : X → Y) (p : X → Bool) (xs : List X) → IsDistinct (λ a b. e (f a) (f b)) xs → IsDistinct e (map f (filter p xs))
distinct_made e f p [] d = none_distinct e
distinct_made e f p (x ∷ xs) d = by (p x) (distinct_made e f p xs (IsDistinct-tail (λ a b. e (f a) (f b)) x xs d))
  where
    by : (b : Bool) → IsDistinct e (map f (filter p xs)) → IsDistinct e (map f (cond b (x ∷ filter p xs) (filter p xs)))
    by true more = IsDistinct-cons e (f x) (map f (filter p xs)) (each_map (λ y. e (f x) y ≡ false) f (filter p xs) (each_filter (λ y. e (f x) (f y) ≡ false) p xs (IsDistinct-head (λ a b. e (f a) (f b)) x xs d))) more
    by false more = more
