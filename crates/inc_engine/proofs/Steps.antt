-- How the memo grows, and how a run goes on.
use Rattle.std.proofs.Common.{◌≡◌, ◌≢◌, ℕ, ◌+◌, ◌<◌, ◌≤◌, ◌==◌, List, [], ◌∷◌, ◌++◌, length, map, refl, sym, ◌∙◌, ap, subst, arith, append_assoc, cond, if◌then◌else◌}
use Rattle.std.specs.Prelude.{None, false}
use Rattle.std.specs.List.{AllByRecursion, Contains}
use Rattle.std.proofs.lemmas.List.{append-nil, map-append, get_or-map}
use Rattle.std.proofs.lemmas.List.Sums.{sum_by-append}
use Rattle.inc_query.specs.Plans.{Known, Plan, Give, follow, Asked, made_of, IsRead, ReadsFit, doing}
use Rattle.inc_query.specs.PlanLaws.{asked-push, read-fits, read-next, value-done, fits-doing, doing-zero, doing-above, denote-doing, reads-doing, by_kind}
use Rattle.inc_query.specs.Ticks.{rise}
use Rattle.inc_query.specs.TickLaws.{rise-none, rise-rise}
use Rattle.inc_query.specs.declared.query.Query.{Query}
use Rattle.inc_query.specs.declared.answer.Answer.{Answer}
use Rattle.inc_query.specs.declared.answer.Answer.TheVariants.{Read, Value}
use Rattle.inc_engine.specs.Builds.{at, Setup, value_in, reads_in, Before, Reached, by_read, along, stale}
use Rattle.inc_engine.specs.Marking.{asked, Distinct, Visited, Grew, IsAt, Underway, DidRun, IsValue}
use Rattle.inc_engine.specs.declared.done.Done.{Done}
use Rattle.inc_engine.specs.declared.done.Ran.{Ran}
use Rattle.inc_engine.proofs.Lists.{all-append, all-weaker, all-push, distinct-push, at-asked, length-asked, wider-visited, mapped-more, contains_in}

-- nothing was asked
pub grew-none : {b : Setup} {root : Query} {old : List Done} {top from : ℕ} → Grew b root old old top from from
grew-none {b} {root} {old} {top} {from} = record {
  more = [];
  asked_are = sym (append-nil (asked old));
  lower = tt;
  reached = λ _ _. tt;
  ticked = λ _ _ _. sym (rise-none from);
}

-- one step after another
pub grew-then : {b : Setup} {root next : Query} {old mid new : List Done} {low high top from between to : ℕ} → Grew b root old mid low from between → Grew b next mid new high between to → low ≤ top → high ≤ top → ((s : List ℕ) → Before b s → Reached (reads_in b b.input) root next) → Grew b root old new top from to
grew-then {b} {root} {next} {old} {mid} {new} {low} {high} {top} {from} {between} {to} x y l h way = record {
  more = x.more ++ y.more;
  asked_are = y.asked_are ∙ ap (λ z. z ++ y.more) x.asked_are ∙ append_assoc (asked old) x.more y.more;
  reached = λ s before. all-append _ _ x.more y.more (λ q k. k) (x.reached s before) (all-weaker _ _ y.more (λ q k. along root next q (way s before) k) (y.reached s before));
  lower = all-append _ _ x.more y.more (λ q k. omega arith) x.lower (all-weaker _ _ y.more (λ q k. omega arith) y.lower);
  ticked = λ s before kept.
      let e = x.ticked s before kept in
      let f = y.ticked s before kept in
      let sum = sum_by-append (λ q. cond (stale b s q) 1 0) x.more y.more in
      e_then _ _ e f ∙ ap (rise from) (sym sum);
}
  where
    e_then : (m n : ℕ) → between ≡ rise from m → to ≡ rise between n → to ≡ rise from (m + n)
    e_then m n e f = f ∙ ap (λ k. rise k n) e ∙ rise-rise from m n

pub grew-from : {b : Setup} {root : Query} {old new : List Done} {top from between to : ℕ} → between ≡ from → Grew b root old new top between to → Grew b root old new top from to
grew-from {b} {root} {old} {new} {top} {from} {between} {to} e h = subst (λ n. Grew b root old new top n to) e h

-- what was asked stays asked
pub visited-grew : {b : Setup} {root : Query} {old new : List Done} {top from to k : ℕ} {places : List ℕ} → Visited (asked old) k places → Grew b root old new top from to → Visited (asked new) k places
visited-grew {b} {root} {old} {new} {top} {from} {to} {k} {places} h grew = record {
  each = subst (λ qs. AllByRecursion (λ i. (i < length qs) × ((at qs i).kind < k)) places) (sym grew.asked_are) (all-weaker _ _ places (λ i p. wider-visited (asked old) grew.more k i p) h.each);
}

-- and positions keep their queries
pub mapped-grew : {b : Setup} {root : Query} {old new : List Done} {top from to k : ℕ} {places : List ℕ} → Visited (asked old) k places → Grew b root old new top from to → map (at (asked new)) places ≡ map (at (asked old)) places
mapped-grew {b} {root} {old} {new} {top} {from} {to} {k} {places} h grew =
    ap (λ qs. map (at qs) places) grew.asked_are ∙ mapped-more (asked old) grew.more k places h.each

pub visited-push : {qs : List Query} {k : ℕ} {places : List ℕ} (i : ℕ) → Visited qs k places → i < length qs → (at qs i).kind < k → Visited qs k (places ++ i ∷ [])
visited-push {qs} {k} {places} i h l low = record { each = all-push _ places i h.each (l, low) }

-- the position of a query in the memo
pub at-is : (memo : List Done) (i : ℕ) (q : Query) (d : Done) → IsAt memo i q → at (asked memo) i ≡ q
at-is memo i q d h = at-asked memo i d h.0 ∙ h.1 d

pub at-within : (memo : List Done) (i : ℕ) (q : Query) → IsAt memo i q → i < length (asked memo)
at-within memo i q h = omega (arith, h.0, length-asked memo)

-- a query's place shows that it was asked
pub asked-at : (memo : List Done) (i : ℕ) (q : Query) → IsAt memo i q → Contains (asked memo) q
asked-at memo i q h =
    let none : Done = record { query = q; print = record { 0 = [] }; reads = []; value = None; ran = false } in
    (i, at-within memo i q h, get_or-map (λ (x : Done). x.query) memo i none q h.0 ∙ h.1 none)

-- what the provider answers
pub answers : (plan : Query → Plan) (input : List ℕ) (q : Query) (known : Known) (a : Answer) → (q.kind ≡ 0 → a ≡ Value input) → (0 < q.kind → a ≡ follow (plan q) known) → a ≡ follow (doing plan input q) known
answers plan input q known a start step =
    by_kind q.kind (λ e. start e ∙ ap (λ p. follow p known) (sym (doing-zero plan input q e))) (λ l. step l ∙ ap (λ p. follow p known) (sym (doing-above plan input q l)))

-- reads that were asked of what is done were asked of the plan
pub asked-plan : (plan : Query → Plan) (input : List ℕ) (q : Query) (known : Known) → Asked known (doing plan input q) → Asked known (plan q)
asked-plan plan input q known h =
    by_kind q.kind (λ e. none known (subst (Asked known) (doing-zero plan input q e) h)) (λ l. subst (Asked known) (doing-above plan input q l) h)
  where
    none : (ks : Known) → Asked ks (Give input) → Asked ks (plan q)
    none [] h = tt
    none (k ∷ ks) h = absurd h

pub underway-start : {b : Setup} {q : Query} {qs : List Query} → Underway b q qs [] []
underway-start {b} {q} {qs} = record {
  asked_so = tt;
  places_are = refl;
  differ = tt;
  visited = record { each = tt };
  right = λ _ _. tt;
}

-- a read that is asked for is one that the query may have
pub next-read : {b : Setup} {q : Query} {qs : List Query} {known : Known} {places : List ℕ} (r : Query) → Underway b q qs known places → ReadsFit q [] (b.plan q) → Read r ≡ follow (doing b.plan b.input q) known → IsRead q [] r × AllByRecursion (λ m. m ≢ r) (made_of known)
next-read {b} {q} {qs} {known} {places} r h fits e = read-fits q [] known (doing b.plan b.input q) r (fits-doing b.plan b.input q fits) h.asked_so (sym e)

-- a run goes on by a read
pub underway-read : {b : Setup} {q root : Query} {old new : List Done} {known : Known} {places : List ℕ} {top from to : ℕ} (r : Query) (v : List ℕ) (i : ℕ) (d : Done) → Underway b q (asked old) known places → ReadsFit q [] (b.plan q) → Read r ≡ follow (doing b.plan b.input q) known → Grew b root old new top from to → IsAt new i r → IsValue b r v → Underway b q (asked new) (known ++ (r, v) ∷ []) (places ++ i ∷ [])
underway-read {b} {q} {root} {old} {new} {known} {places} {top} {from} {to} r v i d h fits e grew there is =
    let read = next-read r h fits e in
    let pushed : made_of (known ++ (r, v) ∷ []) ≡ made_of known ++ r ∷ [] = map-append (λ (x : Query × List ℕ). x.0) known ((r, v) ∷ []) in
    let here : at (asked new) i ≡ r = at-is new i r d there in
    record {
      asked_so = asked-push known (doing b.plan b.input q) r v h.asked_so (sym e);
      places_are = map-append (at (asked new)) places (i ∷ []) ∙ ap (λ rs. rs ++ at (asked new) i ∷ []) (mapped-grew h.visited grew ∙ h.places_are) ∙ ap (λ x. made_of known ++ x ∷ []) here ∙ sym pushed;
      differ = subst Distinct (sym pushed) (distinct-push (made_of known) r h.differ read.1);
      visited = visited-push i (visited-grew h.visited grew) (at-within new i r there) (let kind = ap (λ (x : Query). x.kind) here in omega (arith, read.0.lower, kind));
      right = λ s before. all-push _ known (r, v) (h.right s before) (is.is s before);
    }

-- the read that a run asks for is a read of the query
pub way-read : {b : Setup} {q : Query} {qs : List Query} {known : Known} {places : List ℕ} (r : Query) → Underway b q qs known places → Read r ≡ follow (doing b.plan b.input q) known → (s : List ℕ) → Before b s → Reached (reads_in b b.input) q r
way-read {b} {q} {qs} {known} {places} r h e s before =
    let more = read-next (value_in b b.input) known (doing b.plan b.input q) r h.asked_so (h.right s before) (sym e) in
    by_read q r (contains_in (made_of known) r more.0 (reads-doing b.plan b.input q ∙ more.1))

-- a run that ended
pub did_run : {b : Setup} {q : Query} {old new : List Done} {from until to : ℕ} {known : Known} (r : Ran) → ((x : Query) → ReadsFit x [] (b.plan x)) → Grew b q old new q.kind from until → to ≡ rise until (if q.kind == b.ticking then 1 else 0) → Underway b q (asked new) known r.reads → Value r.value ≡ follow (doing b.plan b.input q) known → DidRun b q old new from to r
did_run {b} {q} {old} {new} {from} {until} {to} {known} r fits grew tick h e = record {
  until = until;
  grew = grew;
  ticked = tick;
  visited = h.visited;
  differ = subst Distinct (sym h.places_are) h.differ;
  value_is = λ s before. sym (denote-doing b.plan b.input fits q ∙ (value-done (value_in b b.input) known (doing b.plan b.input q) r.value h.asked_so (h.right s before) (sym e)).0);
  reads_are = λ s before. h.places_are ∙ sym (reads-doing b.plan b.input q ∙ (value-done (value_in b b.input) known (doing b.plan b.input q) r.value h.asked_so (h.right s before) (sym e)).1);
}
