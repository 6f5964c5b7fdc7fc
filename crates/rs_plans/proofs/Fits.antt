-- The reads of each plan are those that a plan may have.
use Rattle.std.proofs.Common.{◌≡◌, ◌≢◌, ◌⊎◌, inl, inr, ℕ, ◌<◌, ◌≤◌, ◌==◌, Bool, true, false, List, [], ◌∷◌, length, refl, sym, ap, ◌∙◌, arith, if◌then◌else◌}
use Rattle.std.specs.Prelude.{Option, Some, None}
use Rattle.std.specs.List.{AllByRecursion, list_all}
use Rattle.std.proofs.lemmas.Bool.Decides.{Decides-eqb}
use Rattle.inc_query.specs.Plans.{Plan, Give, IsRead, ReadsFit}
use Rattle.inc_query.specs.Queries.{IsQuery}
use Rattle.inc_query.specs.declared.query.Query.{Query}
use Rattle.rs_tree.specs.declared.index.Index.{Index}
use Rattle.rs_tree.specs.declared.index.Sig.{Sig}
use Rattle.rs_tree.specs.declared.place.Place.{Place}
use Rattle.rs_tree.specs.declared.tree.Item.{Item}
use Rattle.rs_tree.specs.Plain.{definition}
use Rattle.rs_tree.proofs.Both.{left_of, right_of}
use Rattle.rs_reach.specs.Dead.{is_function, is_main, dead_of}
use Rattle.rs_units.specs.Units.{is_own}
use Rattle.rs_units.specs.Members.{is_inline, members_of, wanted_of}
use Rattle.rs_forms.proofs.Readers.{forms_are_answered}
use Rattle.rs_answers.proofs.Seeks.{answers_are_answered}
use Rattle.rs_answers.specs.Forms.{const_form, places_form}
use Rattle.rs_object.specs.Forms.{object_form}
use Rattle.rs_emit.specs.Objects.{object_of}
use Rattle.rs_plans.specs.Names.{are_new, are_places, is_index, is_place}
use Rattle.rs_plans.specs.Readings.{const_in, index_in, ir_in, item_in, passed, places_in, sig_in}
use Rattle.rs_plans.specs.Steps.{ask, ask_each, query, whole}
use Rattle.rs_plans.specs.Plans.{answers, calls_plan, check_from, check_of, check_plan, const_at, const_from, const_plan, constants_in, dead_from, dead_plan, entry, index_plan, ir_from, ir_of, ir_plan, is_constant, is_constant_at, item_plan, level_of, members_from, members_plan, named_items, object_plan, places_found, plan_of, sig_plan, subject, use_in, use_query, wanted_from_main}
use Rattle.rs_plans.proofs.Fresh.{AreApart, after, after_all, all_weaker, among_first, fresh, once_new, query_apart}
use Rattle.rs_plans.proofs.Named.{query_is, whole_is}
use Rattle.rs_plans.proofs.Places as places
use Rattle.rs_plans.proofs.Steps.{ask_fits, calls_fit, constants_fit, each_fits}

-- ---- Reads that all plans make.

kinds_apart : (a b : Query) → (a.kind ≡ b.kind → ⊥) → a ≢ b
kinds_apart a b differ e = differ (ap (λ (q : Query). q.kind) e)

-- a read of another kind is of none of these places
not_of : (m : Query) (kind : ℕ) → (m.kind ≡ kind → ⊥) → (p : Place) → m ≢ query kind p
not_of m kind differ p e = differ (ap (λ (q : Query). q.kind) e)

-- of the query's own place
subject_read : (q : Query) (kind : ℕ) (made : List Query) → kind < q.kind → kind ≤ 9 → AllByRecursion (λ m. m.kind ≢ kind) made → IsRead q made (query kind (subject q))
subject_read q kind made low below differ = record {
  lower = low;
  new = all_weaker (λ m apart. kinds_apart m (query kind (subject q)) apart) made differ;
  form = λ is. record { kind = omega (arith, below); «module» = is.«module»; name = is.name; unit = λ e. absurd (omega (arith, below, e)) };
}

whole_read : (q : Query) (kind : ℕ) (made : List Query) → kind < q.kind → kind ≤ 10 → AllByRecursion (λ m. m.kind ≢ kind) made → IsRead q made (whole kind)
whole_read q kind made low below differ = record { lower = low; new = all_weaker (λ m apart. kinds_apart m (whole kind) apart) made differ; form = λ is. whole_is kind below }

passed_is : {X : Type 0} (test : X → Bool) (o : Option X) (x : X) → passed test o ≡ Some x → test x ≡ true
passed_is test None x e = absurd (cc)
passed_is test (Some y) x e = by (test y) refl e
  where
    by : (b : Bool) → test y ≡ b → (if b then Some y else None) ≡ Some x → test x ≡ true
    by true is h = (let same : y ≡ x = cc in ap test (sym same) ∙ is)
    by false is h = absurd (cc)

index_is : (v : List ℕ) (index : Index) → index_in v ≡ Some index → is_index index ≡ true
unfolding index_in
index_is v index e = passed_is is_index (forms_are_answered.index v).0 index e

places_are : (v : List ℕ) (ps : List Place) → places_in v ≡ Some ps → are_places ps ≡ true
unfolding places_in
places_are v ps e = passed_is are_places (answers_are_answered.places v).0 ps e

where_so : (q : Query) (made : List Query) (b : Bool) (x y : Plan) → ReadsFit q made x → ReadsFit q made y → ReadsFit q made (if b then x else y)
where_so q made true x y h k = h
where_so q made false x y h k = k

of_item : (q : Query) → 2 < q.kind → (more : Item → Plan) → ((item : Item) → ReadsFit q (query 2 (subject q) ∷ []) (more item)) → ReadsFit q [] (ask (query 2 (subject q)) item_in more)
of_item q low more h = ask_fits q [] (query 2 (subject q)) item_in more (subject_read q 2 [] low (omega arith) tt) (λ v item e. h item)

of_index : (q : Query) (made : List Query) → 1 < q.kind → AllByRecursion (λ m. m.kind ≢ 1) made → (more : Index → Plan) → ((index : Index) → is_index index ≡ true → ReadsFit q (whole 1 ∷ made) (more index)) → ReadsFit q made (ask (whole 1) index_in more)
of_index q made low differ more h = ask_fits q made (whole 1) index_in more (whole_read q 1 made low (omega arith) differ) (λ v index e. h index (index_is v index e))

-- what was read of an item and of the index
abbrev Begun : Query → List Query
Begun q = whole 1 ∷ query 2 (subject q) ∷ []

not_index : (q : Query) → AllByRecursion (λ m. m.kind ≢ 1) (query 2 (subject q) ∷ [])
not_index q = (λ e. absurd (cc), tt)

-- ---- The plans, each for its kind.

index_fits : (q : Query) → q.kind ≡ 1 → ReadsFit q [] index_plan
index_fits q is = (whole_read q 0 [] (omega (arith, is)) (omega arith) tt, λ v. tt)

item_fits : (q : Query) → q.kind ≡ 2 → ReadsFit q [] (item_plan q)
item_fits q is = (whole_read q 0 [] (omega (arith, is)) (omega arith) tt, λ v. tt)

sig_fits : (q : Query) → q.kind ≡ 3 → ReadsFit q [] (sig_plan q)
sig_fits q is = of_item q (omega (arith, is)) _ (λ item. tt)

const_fits : (q : Query) → q.kind ≡ 4 → ReadsFit q [] (const_plan q)
const_fits q is = of_item q (omega (arith, is)) _ (λ item. where_so q (query 2 (subject q) ∷ []) (is_constant (definition item.body)) _ _ (of_index q (query 2 (subject q) ∷ []) (omega (arith, is)) (not_index q) _ (λ index fits. from item index fits)) tt)
  where
    from : (item : Item) (index : Index) → is_index index ≡ true → ReadsFit q (Begun q) (const_from (subject q) item index)
    from item index fits =
        constants_fit q (omega (arith, is)) index (length index.items) (entry index (subject q) item ∷ []) (constants_in index (answers index (subject q) item)) (λ es. Give (const_form (const_at es (subject q)))) (Begun q)
        (λ p other. places.constants_fit index fits p other) (places.constants_fit index fits (subject q) item)
        (inl (not_of (whole 1) 2 (λ e. absurd (omega (arith, e)))), (inr (subject q, among_first (subject q) [], refl), tt))
        (λ es made. tt)

check_fits : (q : Query) → q.kind ≡ 5 → ReadsFit q [] (check_plan q)
check_fits q is = of_item q (omega (arith, is)) _ (λ item. of_index q (query 2 (subject q) ∷ []) (omega (arith, is)) (not_index q) _ (λ index fits. from item index fits))
  where
    then_value : (item : Item) (index : Index) (ps : List Place) (sigs : List (Place × Sig)) → ReadsFit q (after (query 3) (Begun q) ps) (check_of (subject q) item index sigs)
    then_value item index ps sigs = where_so q (after (query 3) (Begun q) ps) (is_constant (definition item.body)) _ _
        (ask_fits q (after (query 3) (Begun q) ps) (query 4 (subject q)) const_in _
        (subject_read q 4 (after (query 3) (Begun q) ps) (omega (arith, is)) (omega arith) (after_all (query 3) (λ m. m.kind ≢ 4) (λ p e. absurd (omega (arith, e))) (Begun q) ps (λ e. absurd (omega (arith, e)), (λ e. absurd (omega (arith, e)), tt)))) (λ v value e. tt))
        tt

    from : (item : Item) (index : Index) → is_index index ≡ true → ReadsFit q (Begun q) (check_from (subject q) item index)
    from item index fits =
        let ps = named_items (answers index (subject q) item) in
        each_fits q (query 3) (λ p. sig_in) (Begun q) ps (check_of (subject q) item index)
        (fresh (query 3) (query_apart 3) [] (Begun q) ps (once_new [] (places_found (answers index (subject q) item))) (inl (not_of (whole 1) 3 (λ e. absurd (omega (arith, e)))), (inl (not_of (query 2 (subject q)) 3 (λ e. absurd (omega (arith, e)))), tt)))
        (all_weaker (λ p place. record { lower = omega (arith, is); form = query_is 3 p (omega arith) place }) ps (places.named_fit index fits (subject q) item))
        (λ sigs. then_value item index ps sigs)

calls_plan_fits : (q : Query) → q.kind ≡ 6 → ReadsFit q [] (calls_plan q)
calls_plan_fits q is = of_item q (omega (arith, is)) _ (λ item. of_index q (query 2 (subject q) ∷ []) (omega (arith, is)) (not_index q) _ (λ index fits. tt))

dead_fits : (q : Query) → q.kind ≡ 7 → ReadsFit q [] dead_plan
dead_fits q is = of_index q [] (omega (arith, is)) tt _ from
  where
    from : (index : Index) → is_index index ≡ true → ReadsFit q (whole 1 ∷ []) (dead_from index)
    from index fits =
        calls_fit q (omega (arith, is)) (length index.items) (wanted_from_main index) [] (λ calls. Give (places_form (dead_of index.items calls))) (whole 1 ∷ [])
        (λ calls p e. places.wanted_new is_main is_function index fits calls p e) (inl (not_of (whole 1) 6 (λ e. absurd (omega (arith, e)))), tt) (λ calls made. tt)

members_fits : (q : Query) → q.kind ≡ 8 → ReadsFit q [] (members_plan q)
members_fits q is = of_index q [] (omega (arith, is)) tt _ from
  where
    from : (index : Index) → is_index index ≡ true → ReadsFit q (whole 1 ∷ []) (members_from q.«module» index)
    from index fits =
        calls_fit q (omega (arith, is)) (length index.items) (wanted_of q.«module» index.items) [] (λ calls. Give (places_form (members_of q.«module» index.items calls))) (whole 1 ∷ [])
        (λ calls p e. places.wanted_new (is_own q.«module») is_inline index fits calls p e) (inl (not_of (whole 1) 6 (λ e. absurd (omega (arith, e)))), tt) (λ calls made. tt)

-- the value or the signature of an item
use_subject : (index : Index) (p : Place) → subject (use_query index p) ≡ p
use_subject index p = by (is_constant_at index p)
  where
    by : (b : Bool) → subject (if b then query 4 p else query 3 p) ≡ p
    by true = refl
    by false = refl

use_apart : (index : Index) → AreApart (use_query index)
use_apart index p s e = sym (use_subject index p) ∙ ap subject e ∙ use_subject index s

use_kind : (index : Index) (p : Place) → ((use_query index p).kind ≡ 4) ⊎ ((use_query index p).kind ≡ 3)
use_kind index p = by (is_constant_at index p)
  where
    by : (b : Bool) → ((if b then query 4 p else query 3 p).kind ≡ 4) ⊎ ((if b then query 4 p else query 3 p).kind ≡ 3)
    by true = inl refl
    by false = inr refl

use_form : (index : Index) (p : Place) → is_place p ≡ true → IsQuery (use_query index p)
use_form index p place = by (is_constant_at index p)
  where
    by : (b : Bool) → IsQuery (if b then query 4 p else query 3 p)
    by true = query_is 4 p (omega arith) place
    by false = query_is 3 p (omega arith) place

-- a read of another kind is of none of them
use_other : (index : Index) (m : Query) → m.kind < 3 → (p : Place) → m ≢ use_query index p
use_other index m low p e = elim (use_kind index p) [
  | inl four ↦ (let same : m.kind ≡ 4 = ap (λ (q : Query). q.kind) e ∙ four in absurd (omega (arith, low, same)))
  | inr three ↦ (let same : m.kind ≡ 3 = ap (λ (q : Query). q.kind) e ∙ three in absurd (omega (arith, low, same)))
]

ir_fits : (level : ℕ) (q : Query) → q.kind ≡ 9 → ReadsFit q [] (ir_plan level q)
ir_fits level q is = of_item q (omega (arith, is)) _ (λ item. where_so q (query 2 (subject q) ∷ []) (is_constant (definition item.body)) _ _ tt (of_index q (query 2 (subject q) ∷ []) (omega (arith, is)) (not_index q) _ (λ index fits. from item index fits)))
  where
    lower : (index : Index) (p : Place) → (use_query index p).kind < q.kind
    lower index p = elim (use_kind index p) [ inl four ↦ omega (arith, is, four) | inr three ↦ omega (arith, is, three) ]

    from : (item : Item) (index : Index) → is_index index ≡ true → ReadsFit q (Begun q) (ir_from level (subject q) item index)
    from item index fits =
        let ps = named_items (answers index (subject q) item) in
        each_fits q (use_query index) (use_in index) (Begun q) ps (λ uses. Give (ir_of level (subject q) item index uses))
        (fresh (use_query index) (use_apart index) [] (Begun q) ps (once_new [] (places_found (answers index (subject q) item))) (inl (use_other index (whole 1) (omega arith)), (inl (use_other index (query 2 (subject q)) (omega arith)), tt)))
        (all_weaker (λ p place. record { lower = lower index p; form = use_form index p place }) ps (places.named_fit index fits (subject q) item))
        (λ uses. tt)

all_in : (ps : List Place) → list_all is_place ps ≡ true → AllByRecursion (λ p. is_place p ≡ true) ps
all_in [] e = tt
all_in (p ∷ ps) e = (left_of (is_place p) (list_all is_place ps) e, all_in ps (right_of (is_place p) (list_all is_place ps) e))

object_fits : (q : Query) → q.kind ≡ 10 → ReadsFit q [] (object_plan q)
object_fits q is =
    ask_fits q [] unit places_in _ (record { lower = omega (arith, is); new = tt; form = λ its. record { kind = omega arith; «module» = its.«module»; name = inl refl; unit = λ e. absurd (cc) } }) (λ v ps e. from ps (places_are v ps e))
  where
    unit : Query
    unit = record { kind = 8; «module» = q.«module»; name = [] }

    from : (ps : List Place) → are_places ps ≡ true → ReadsFit q (unit ∷ []) (ask_each (query 9) (λ p. ir_in) ps (λ members. Give (object_form (object_of q.«module» members))))
    from ps are =
        each_fits q (query 9) (λ p. ir_in) (unit ∷ []) ps _
        (fresh (query 9) (query_apart 9) [] (unit ∷ []) ps (right_of (list_all is_place ps) (are_new [] ps) are) (inl (not_of unit 9 (λ e. absurd (omega (arith, e)))), tt))
        (all_weaker (λ p place. record { lower = omega (arith, is); form = query_is 9 p (omega arith) place }) ps (all_in ps (left_of (list_all is_place ps) (are_new [] ps) are)))
        (λ members. tt)

-- ---- All of them.

by_kind : (q : Query) (k : ℕ) (x y : Plan) → (q.kind ≡ k → ReadsFit q [] x) → ReadsFit q [] y → ReadsFit q [] (if q.kind == k then x else y)
by_kind q k x y h other = by (q.kind == k) refl
  where
    by : (b : Bool) → (q.kind == k) ≡ b → ReadsFit q [] (if b then x else y)
    by true e = h ((Decides-eqb q.kind k).0 e)
    by false e = other

pub plans_fit : (setting : List ℕ) (q : Query) → ReadsFit q [] (plan_of setting q)
unfolding plan_of
plans_fit setting q =
    by_kind q 1 _ _ (index_fits q) (by_kind q 2 _ _ (item_fits q) (by_kind q 3 _ _ (sig_fits q) (by_kind q 4 _ _ (const_fits q) (by_kind q 5 _ _ (check_fits q)
    (by_kind q 6 _ _ (calls_plan_fits q) (by_kind q 7 _ _ (dead_fits q) (by_kind q 8 _ _ (members_fits q) (by_kind q 9 _ _ (ir_fits (level_of setting) q) (by_kind q 10 _ _ (object_fits q) tt)))))))))
