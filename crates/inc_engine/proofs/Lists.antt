-- Lists of queries and positions in them.
use Rattle.std.proofs.Common.{◌≡◌, ◌≢◌, ℕ, ◌<◌, List, [], ◌∷◌, ◌++◌, map, length, refl, sym, ◌∙◌, ap, subst, arith, get_or, length-append}
use Rattle.std.specs.List.{All, AllByRecursion, Contains}
use Rattle.std.proofs.lemmas.List.{get_or-map, length-map}
use Rattle.std.proofs.lemmas.List.Elements.{Contains-append_right}
use Rattle.std.proofs.Math.ListN.{get_or-append}
use Rattle.inc_query.specs.declared.query.Query.{Query}
use Rattle.inc_engine.specs.Builds.{at}
use Rattle.inc_engine.specs.Marking.{asked, Distinct}
use Rattle.inc_engine.specs.declared.done.Done.{Done}

pub all-append : {X : Type 0} (P : X → Type 0) (Q : X → Type 0) (xs ys : List X) → ((x : X) → P x → Q x) → AllByRecursion P xs → AllByRecursion Q ys → AllByRecursion Q (xs ++ ys)
all-append P Q [] ys w h k = k
all-append P Q (x ∷ xs) ys w h k = (w x h.0, all-append P Q xs ys w h.1 k)

pub all-weaker : {X : Type 0} (P : X → Type 0) (Q : X → Type 0) (xs : List X) → ((x : X) → P x → Q x) → AllByRecursion P xs → AllByRecursion Q xs
all-weaker P Q [] w h = tt
all-weaker P Q (x ∷ xs) w h = (w x h.0, all-weaker P Q xs w h.1)

pub all-push : {X : Type 0} (P : X → Type 0) (xs : List X) (x : X) → AllByRecursion P xs → P x → AllByRecursion P (xs ++ x ∷ [])
all-push P [] x h k = (k, tt)
all-push P (y ∷ ys) x h k = (h.0, all-push P ys x h.1 k)

-- of the elements that a function gives
pub all-mapped : {X Y : Type 0} (P : Y → Type 0) (f : X → Y) (xs : List X) → AllByRecursion (λ x. P (f x)) xs → AllByRecursion P (map f xs)
all-mapped P f [] h = tt
all-mapped P f (x ∷ xs) h = (h.0, all-mapped P f xs h.1)

pub distinct-push : (xs : List Query) (q : Query) → Distinct xs → AllByRecursion (λ (r : Query). r ≢ q) xs → Distinct (xs ++ q ∷ [])
distinct-push [] q h a = (tt, tt)
distinct-push (x ∷ xs) q h a = (all-push _ xs q h.0 (λ e. a.0 (sym e)), distinct-push xs q h.1 a.1)

-- the query at a position of the memo
pub at-asked : (memo : List Done) (i : ℕ) (d : Done) → i < length memo → at (asked memo) i ≡ (get_or memo i d).query
at-asked memo i d l = get_or-map (λ (x : Done). x.query) memo i d _ l

pub length-asked : (memo : List Done) → length (asked memo) ≡ length memo
length-asked memo = length-map memo (λ (x : Done). x.query)

-- positions keep their queries where more are asked
pub at-more : (qs more : List Query) (i : ℕ) → i < length qs → at (qs ++ more) i ≡ at qs i
at-more qs more i l = get_or-append qs more _ i l

pub wider-visited : (qs more : List Query) (top : ℕ) (i : ℕ) → (i < length qs) × ((at qs i).kind < top) → (i < length (qs ++ more)) × ((at (qs ++ more) i).kind < top)
wider-visited qs more top i p =
    let kind = ap (λ (q : Query). q.kind) (at-more qs more i p.0) in
    (omega (arith, p.0, length-append qs more), omega (arith, p.1, kind))

pub mapped-more : (qs more : List Query) (top : ℕ) (places : List ℕ) → AllByRecursion (λ i. (i < length qs) × ((at qs i).kind < top)) places → map (at (qs ++ more)) places ≡ map (at qs) places
mapped-more qs more top [] h = refl
mapped-more qs more top (i ∷ is) h = ap (λ q. q ∷ map (at (qs ++ more)) is) (at-more qs more i h.0.0) ∙ ap (λ rs. at qs i ∷ rs) (mapped-more qs more top is h.1)

-- an element is as all are
pub all-at : {X : Type 0} (P : X → Type 0) (xs : List X) (i : ℕ) (d : X) → All P xs → i < length xs → d ≡ get_or xs i d → P d
all-at P xs i d all l e = subst P (sym e) (all i d l)

pub contains_after : (xs : List Query) (r : Query) (ys : List Query) → Contains (xs ++ r ∷ ys) r
contains_after xs r ys = Contains-append_right xs (r ∷ ys) r (0, omega arith, refl)

pub contains_in : {qs : List Query} (xs : List Query) (r : Query) (ys : List Query) → qs ≡ xs ++ r ∷ ys → Contains qs r
contains_in {qs} xs r ys e = subst (λ l. Contains l r) (sym e) (contains_after xs r ys)
