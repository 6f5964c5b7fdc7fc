-- The reads of the steps of plans are those that a plan may have.
use Rattle.std.proofs.Common.{◌≡◌, inr, ℕ, zero, suc, ◌<◌, Bool, true, false, List, [], ◌∷◌, ◌++◌, map, refl, sym, subst, arith, if◌then◌else◌}
use Rattle.std.specs.Prelude.{Option, Some, None}
use Rattle.std.specs.List.{AllByRecursion}
use Rattle.std.proofs.lemmas.List.{map-append}
use Rattle.inc_query.specs.Plans.{Plan, IsRead, ReadsFit}
use Rattle.inc_query.specs.Queries.{IsQuery}
use Rattle.inc_query.specs.declared.query.Query.{Query}
use Rattle.rs_tree.specs.declared.place.Place.{Place}
use Rattle.rs_tree.specs.declared.index.Index.{Index}
use Rattle.rs_tree.specs.declared.tree.Item.{Item}
use Rattle.rs_const.specs.Constants.{Entry}
use Rattle.rs_plans.specs.Names.{is_among, is_place}
use Rattle.rs_plans.specs.Readings.{item_in, places_in}
use Rattle.rs_plans.specs.Steps.{ask, ask_calls, ask_each, ask_wanted, given_or_empty, query}
use Rattle.rs_plans.specs.Plans.{answers, ask_constant, ask_constants, constants_in, entry, first_new, places_known}
use Rattle.rs_plans.proofs.Named.{query_is}
use Rattle.rs_plans.proofs.Fresh.{Fresh, IsTold, after, among_front, among_last, query_apart, told_apart, told_more}

given_fits : {A : Type 0} (q : Query) (made : List Query) (o : Option A) (more : A → Plan) → ((a : A) → o ≡ Some a → ReadsFit q made (more a)) → ReadsFit q made (given_or_empty o more)
given_fits q made None more h = tt
given_fits q made (Some a) more h = h a refl

pub ask_fits : {A : Type 0} (q : Query) (made : List Query) (r : Query) (read : List ℕ → Option A) (more : A → Plan) → IsRead q made r → ((v : List ℕ) (a : A) → read v ≡ Some a → ReadsFit q (r ∷ made) (more a)) → ReadsFit q made (ask r read more)
ask_fits q made r read more is h = (is, λ v. given_fits q (r ∷ made) (read v) more (λ a e. h v a e))

-- a read of a place
pub record CanBeAsked (q : Query) (of : Place → Query) (p : Place) : Type 0 where
  pub lower : (of p).kind < q.kind
  pub form : IsQuery (of p)

pub each_fits : {A : Type 0} (q : Query) (of : Place → Query) (read : Place → List ℕ → Option A) (made : List Query) (ps : List Place) (more : List (Place × A) → Plan) → Fresh of made ps → AllByRecursion (CanBeAsked q of) ps
    → ((xs : List (Place × A)) → ReadsFit q (after of made ps) (more xs)) → ReadsFit q made (ask_each of read ps more)
each_fits q of read made [] more new can h = h []
each_fits q of read made (p ∷ ps) more new can h =
    ask_fits q made (of p) (read p) (λ a. ask_each of read ps (λ xs. more ((p, a) ∷ xs))) (record { lower = can.0.lower; new = new.0; form = λ is. can.0.form })
    (λ v a e. each_fits q of read (of p ∷ made) ps (λ xs. more ((p, a) ∷ xs)) new.1 can.1 (λ xs. h ((p, a) ∷ xs)))

abbrev pub places_of : {A : Type 0} → List (Place × A) → List Place
places_of xs = map (λ a. a.0) xs

-- one more place is told of
told_next : {A : Type 0} (kind : ℕ) (xs : List (Place × A)) (p : Place) (a : A) (made : List Query) → AllByRecursion (IsTold (query kind) (places_of xs)) made → AllByRecursion (IsTold (query kind) (places_of (xs ++ (p, a) ∷ []))) (query kind p ∷ made)
told_next {A} kind xs p a made told =
    let is : places_of (xs ++ (p, a) ∷ []) ≡ places_of xs ++ p ∷ [] = map-append (λ (x : Place × A). x.0) xs ((p, a) ∷ []) in
    subst (λ seen. AllByRecursion (IsTold (query kind) seen) (query kind p ∷ made)) (sym is) (inr (p, among_last (places_of xs) p, refl), told_more (query kind) (places_of xs) (places_of xs ++ p ∷ []) (among_front (places_of xs) (p ∷ [])) made told)

-- What is wanted is the place of an item, and isn't known.
pub record WantsNew (calls : List (Place × List Place)) (p : Place) : Type 0 where
  pub place : is_place p ≡ true
  pub new : is_among (places_of calls) p ≡ false

abbrev pub AllWanted : (List (Place × List Place) → Option Place) → Type 0
AllWanted wanted = (calls : List (Place × List Place)) (p : Place) → wanted calls ≡ Some p → WantsNew calls p

-- what is asked where one is wanted
wanted_fits : (q : Query) → 6 < q.kind → (next more : List (Place × List Place) → Plan) (calls : List (Place × List Place)) (made : List Query) → AllByRecursion (IsTold (query 6) (places_of calls)) made
    → ((calls : List (Place × List Place)) (made : List Query) → AllByRecursion (IsTold (query 6) (places_of calls)) made → ReadsFit q made (next calls)) → ReadsFit q made (more calls)
    → (o : Option Place) → ((p : Place) → o ≡ Some p → WantsNew calls p) → ReadsFit q made (ask_wanted next more calls o)
wanted_fits q low next more calls made told later now None all = now
wanted_fits q low next more calls made told later now (Some p) all =
    let its = all p refl in
    ask_fits q made (query 6 p) places_in (λ ps. next (calls ++ (p, ps) ∷ []))
    (record { lower = low; new = told_apart (query 6) (query_apart 6) (places_of calls) p its.new made told; form = λ is. query_is 6 p (omega arith) its.place })
    (λ v ps is. later (calls ++ (p, ps) ∷ []) (query 6 p ∷ made) (told_next 6 calls p ps made told))

pub calls_fit : (q : Query) → 6 < q.kind → (n : ℕ) (wanted : List (Place × List Place) → Option Place) (calls : List (Place × List Place)) (more : List (Place × List Place) → Plan) (made : List Query) → AllWanted wanted
    → AllByRecursion (IsTold (query 6) (places_of calls)) made → ((calls : List (Place × List Place)) (made : List Query) → ReadsFit q made (more calls)) → ReadsFit q made (ask_calls n wanted calls more)
calls_fit q low zero wanted calls more made all told h = h calls made
calls_fit q low (suc n) wanted calls more made all told h =
    wanted_fits q low (λ known. ask_calls n wanted known more) more calls made told (λ known reads is. calls_fit q low n wanted known more reads all is h) (h calls made) (wanted calls) (all calls)

-- the first place that isn't known
pub record IsFirst (es : List Entry) (p : Place × List Place) : Type 0 where
  pub place : is_place p.0 ≡ true
  pub new : is_among (places_known es) p.0 ≡ false
  pub rest : AllByRecursion (λ s. is_place s ≡ true) p.1

first_is : (es : List Entry) (left : List Place) (p : Place × List Place) → AllByRecursion (λ s. is_place s ≡ true) left → first_new es left ≡ Some p → IsFirst es p
first_is es [] p all e = absurd (cc)
first_is es (s ∷ ss) p all e = by (is_among (places_known es) s) refl (first_is es ss p all.1) e
  where
    by : (b : Bool) → is_among (places_known es) s ≡ b → (first_new es ss ≡ Some p → IsFirst es p) → (if b then first_new es ss else Some (s, ss)) ≡ Some p → IsFirst es p
    by true is rest h = rest h
    by false is rest h = (let same : (s, ss) ≡ p = cc in subst (IsFirst es) same (record { place = all.0; new = is; rest = all.1 }))

pub all_more : {X : Type 0} (P : X → Type 0) (xs ys : List X) → AllByRecursion P xs → AllByRecursion P ys → AllByRecursion P (xs ++ ys)
all_more P [] ys a b = b
all_more P (x ∷ xs) ys a b = (a.0, all_more P xs ys a.1 b)

abbrev AllPlaces : List Place → Type 0
AllPlaces ps = AllByRecursion (λ p. is_place p ≡ true) ps

told_entry : (es : List Entry) (e : Entry) (made : List Query) → AllByRecursion (IsTold (query 2) (places_known es)) made → AllByRecursion (IsTold (query 2) (places_known (es ++ e ∷ []))) (query 2 e.0 ∷ made)
told_entry es e made told =
    let is : places_known (es ++ e ∷ []) ≡ places_known es ++ e.0 ∷ [] = map-append (λ (x : Entry). x.0) es (e ∷ []) in
    subst (λ seen. AllByRecursion (IsTold (query 2) seen) (query 2 e.0 ∷ made)) (sym is) (inr (e.0, among_last (places_known es) e.0, refl), told_more (query 2) (places_known es) (places_known es ++ e.0 ∷ []) (among_front (places_known es) (e.0 ∷ [])) made told)

-- what is asked where one isn't known
constant_fits : (q : Query) → 2 < q.kind → (index : Index) (next : List Entry → List Place → Plan) (more : List Entry → Plan) (es : List Entry) (made : List Query) → AllByRecursion (IsTold (query 2) (places_known es)) made
    → ((p : Place) (item : Item) → AllPlaces (constants_in index (answers index p item)))
    → ((es : List Entry) (left : List Place) (made : List Query) → AllPlaces left → AllByRecursion (IsTold (query 2) (places_known es)) made → ReadsFit q made (next es left)) → ReadsFit q made (more es)
    → (o : Option (Place × List Place)) → ((p : Place × List Place) → o ≡ Some p → IsFirst es p) → ReadsFit q made (ask_constant index next more es o)
constant_fits q low index next more es made told all later now None first = now
constant_fits q low index next more es made told all later now (Some p) first =
    let its = first p refl in
    ask_fits q made (query 2 p.0) item_in (λ item. next (es ++ entry index p.0 item ∷ []) (constants_in index (answers index p.0 item) ++ p.1))
    (record { lower = low; new = told_apart (query 2) (query_apart 2) (places_known es) p.0 its.new made told; form = λ is. query_is 2 p.0 (omega arith) its.place })
    (λ v item is. later (es ++ entry index p.0 item ∷ []) (constants_in index (answers index p.0 item) ++ p.1) (query 2 p.0 ∷ made)
    (all_more (λ s. is_place s ≡ true) (constants_in index (answers index p.0 item)) p.1 (all p.0 item) its.rest) (told_entry es (entry index p.0 item) made told))

pub constants_fit : (q : Query) → 2 < q.kind → (index : Index) (n : ℕ) (es : List Entry) (left : List Place) (more : List Entry → Plan) (made : List Query)
    → ((p : Place) (item : Item) → AllPlaces (constants_in index (answers index p item))) → AllPlaces left → AllByRecursion (IsTold (query 2) (places_known es)) made
    → ((es : List Entry) (made : List Query) → ReadsFit q made (more es)) → ReadsFit q made (ask_constants n index es left more)
constants_fit q low index zero es left more made all named told h = h es made
constants_fit q low index (suc n) es left more made all named told h =
    constant_fits q low index (λ known rest. ask_constants n index known rest more) more es made told all (λ known rest reads places is. constants_fit q low index n known rest more reads all places is h) (h es made) (first_new es left) (λ p e. first_is es left p named e)
