-- What roots reach is closed under reads, and nothing closed lacks it.
use Rattle.std.proofs.Common.{ℕ, zero, suc, ◌<◌, ◌≤◌, inl, inr, List, [], ◌∷◌, refl, sym, subst, arith}
use Rattle.inc_query.specs.Plans.{Plan, ReadsFit, Give, Need, doing, reads_by, reads_of, denote}
use Rattle.inc_query.specs.PlanLaws.{fits-doing, reads-doing}
use Rattle.inc_query.specs.declared.query.Query.{Query}
use Rattle.inc_engine.specs.Builds.{Reached}
use Rattle.inc_engine.specs.Builds.Reached.{itself, by_read, along}
use Rattle.inc_roots.specs.Reached.{all_reached, reached, reached_to}
use Rattle.inc_roots.proofs.Members.{IsIn, from_flat, in_flat, in_from}

-- reads are of lower kinds
abbrev pub AreLower : (Query → List Query) → Type 0
AreLower reads = (q r : Query) → IsIn (reads q) r → r.kind < q.kind

-- these have what they read
abbrev pub IsClosed : (Query → List Query) → List Query → Type 0
IsClosed reads qs = (q r : Query) → IsIn qs q → IsIn (reads q) r → IsIn qs r

by_plan : (v : Query → List ℕ) (q : Query) (made : List Query) (p : Plan) → ReadsFit q made p → (r : Query) → IsIn (reads_by v p) r → r.kind < q.kind
by_plan v q made (Give w) fit r h = absurd h
by_plan v q made (Need s k) fit r (inl e) = subst (λ (t : Query). t.kind < q.kind) e fit.0.lower
by_plan v q made (Need s k) fit r (inr h) = by_plan v q (s ∷ made) (k (v s)) (fit.1 (v s)) r h

pub lower : (plan : Query → Plan) (input : List ℕ) → ((q : Query) → ReadsFit q [] (plan q)) → AreLower (reads_of plan input)
lower plan input fits q r h = by_plan (denote plan input) q [] (doing plan input q) (fits-doing plan input q (fits q)) r (subst (λ l. IsIn l r) (reads-doing plan input q) h)

-- ---- It is closed.

module _ (reads : Query → List Query) (low : AreLower reads) where
  -- the first of them
  root_in : (n : ℕ) (q : Query) → IsIn (reached_to reads n q) q
  root_in zero q = inl refl
  root_in (suc n) q = inl refl

  more : (n : ℕ) (q : Query) → q.kind ≤ n → (r s : Query) → IsIn (reached_to reads n q) r → IsIn (reads r) s → IsIn (reached_to reads n q) s
  more zero q k r s (inl e) h = absurd (let l : s.kind < q.kind = low q s (subst (λ t. IsIn (reads t) s) (sym e) h) in omega (arith, l, k))
  more zero q k r s (inr none) h = absurd none
  more (suc n) q k r s (inl e) h = inr (in_flat (reached_to reads n) (reads q) s s (subst (λ t. IsIn (reads t) s) (sym e) h) (root_in n s))
  more (suc n) q k r s (inr h) g =
      let found = from_flat (reached_to reads n) (reads q) r h in
      inr (in_flat (reached_to reads n) (reads q) found.0 s found.1 (more n found.0 (let l : found.0.kind < q.kind = low q found.0 found.1 in omega (arith, l, k)) r s found.2 g))

  pub all_closed : (roots : List Query) → IsClosed reads (all_reached reads roots)
  all_closed roots q r h g =
      let found = from_flat (reached reads) roots q h in
      in_flat (reached reads) roots found.0 r found.1 (more found.0.kind found.0 (omega arith) q r found.2 g)

  pub roots_in : (roots : List Query) (q : Query) → IsIn roots q → IsIn (all_reached reads roots) q
  roots_in roots q h = in_flat (reached reads) roots q q h (root_in q.kind q)

-- what is reached from one of them is one
pub reached_in : (reads : Query → List Query) (qs : List Query) → IsClosed reads qs → (q r : Query) → Reached reads q r → IsIn qs q → IsIn qs r
reached_in reads qs c q r (itself _) h = h
reached_in reads qs c q r (by_read _ _ k) h = c q r h (in_from (reads q) r k)
reached_in reads qs c q r (along _ m _ f g) h = reached_in reads qs c m r g (reached_in reads qs c q m f h)

-- ---- It is the least.

least_to : (reads : Query → List Query) (qs : List Query) → IsClosed reads qs → (n : ℕ) (q r : Query) → IsIn qs q → IsIn (reached_to reads n q) r → IsIn qs r
least_to reads qs c zero q r h (inl e) = subst (IsIn qs) e h
least_to reads qs c zero q r h (inr none) = absurd none
least_to reads qs c (suc n) q r h (inl e) = subst (IsIn qs) e h
least_to reads qs c (suc n) q r h (inr g) = (let found = from_flat (reached_to reads n) (reads q) r g in least_to reads qs c n found.0 r (c q found.0 h found.1) found.2)

pub least : (reads : Query → List Query) (roots qs : List Query) → IsClosed reads qs → ((q : Query) → IsIn roots q → IsIn qs q) → (r : Query) → IsIn (all_reached reads roots) r → IsIn qs r
least reads roots qs c has r h = (let found = from_flat (reached reads) roots r h in least_to reads qs c found.0.kind found.0 r (has found.0 found.1) found.2)
