-- One root after the other is asked.
use Rattle.std.proofs.Common.{◌≡◌, ℕ, Bool, List, [], ◌∷◌, ◌++◌, length, drop, sym, ◌∙◌, ap, subst, arith, append_assoc, append-nil, cond}
use Rattle.std.specs.List.{All, Contains, count_by}
use Rattle.std.proofs.lemmas.List.Elements.{All-append, All-push, Contains-append_left, Contains-append_right, Contains-push}
use Rattle.std.proofs.lemmas.List.Sums.{sum_by-append}
use Rattle.std.proofs.Math.Seq.{drop-append_seam}
use Rattle.inc_query.specs.TickLaws.{rise-none, rise-rise}
use Rattle.inc_query.specs.Ticks.{rise}
use Rattle.inc_query.specs.declared.query.Query.{Query}
use Rattle.inc_engine.specs.Builds.{Asks, Reached, Setup, reads_in}
use Rattle.inc_engine.proofs.Lists.{all-append, all-weaker}
use Rattle.inc_roots.specs.Asked.{AsksAll, IsReachedFrom}

pub asked_none : (b : Setup) (old : List Query) → AsksAll b [] old old
asked_none b old = record { more = []; are = sym (append-nil old); there = λ k d l. absurd (omega (arith, l)); reached = λ s before. tt }

still_there : (roots old more : List Query) → All (Contains old) roots → All (Contains (old ++ more)) roots
still_there roots old more h = λ k d l. Contains-append_left old more _ (h k d l)

pub asked_more : (b : Setup) (roots : List Query) (q : Query) (old mid new : List Query) → AsksAll b roots old mid → Asks b q mid new → AsksAll b (roots ++ q ∷ []) old new
asked_more b roots q old mid new all one = record {
  more = all.more ++ one.more;
  are = one.are ∙ ap (λ qs. qs ++ one.more) all.are ∙ append_assoc old all.more one.more;
  there = All-push (Contains new) roots q (subst (λ qs. All (Contains qs) roots) (sym one.are) (still_there roots mid one.more all.there)) one.it;
  reached = λ s before.
      all-append (IsReachedFrom (reads_in b b.input) roots) (IsReachedFrom (reads_in b b.input) (roots ++ q ∷ [])) all.more one.more
      (λ r from. (from.0, Contains-append_left roots (q ∷ []) from.0 from.1, from.2)) (all.reached s before)
      (all-weaker (Reached (reads_in b b.input) q) (IsReachedFrom (reads_in b b.input) (roots ++ q ∷ [])) one.more (λ r from. (q, Contains-push roots q, from)) (one.reached s before));
}

-- some roots and then others
pub asked_both : (b : Setup) (roots more : List Query) (old mid new : List Query) → AsksAll b roots old mid → AsksAll b more mid new → AsksAll b (roots ++ more) old new
asked_both b roots more old mid new first last = record {
  more = first.more ++ last.more;
  are = last.are ∙ ap (λ qs. qs ++ last.more) first.are ∙ append_assoc old first.more last.more;
  there = All-append (Contains new) roots more (subst (λ qs. All (Contains qs) roots) (sym last.are) (still_there roots mid last.more first.there)) last.there;
  reached = λ s before.
      all-append (IsReachedFrom (reads_in b b.input) roots) (IsReachedFrom (reads_in b b.input) (roots ++ more)) first.more last.more
      (λ r from. (from.0, Contains-append_left roots more from.0 from.1, from.2)) (first.reached s before)
      (all-weaker (IsReachedFrom (reads_in b b.input) more) (IsReachedFrom (reads_in b b.input) (roots ++ more)) last.more (λ r from. (from.0, Contains-append_right roots more from.0 from.1, from.2)) (last.reached s before));
}

-- what was added, of which so many are stale
pub ticked_more : (f : Query → Bool) (start from to : ℕ) (old more some new : List Query) → new ≡ (old ++ more) ++ some
    → from ≡ rise start (count_by f (drop (length old) (old ++ more))) → to ≡ rise from (count_by f (drop (length (old ++ more)) new)) → to ≡ rise start (count_by f (drop (length old) new))
ticked_more f start from to old more some new e before step =
    let first : drop (length old) (old ++ more) ≡ more = drop-append_seam old more in
    let last : drop (length (old ++ more)) new ≡ some = ap (drop (length (old ++ more))) e ∙ drop-append_seam (old ++ more) some in
    let both : drop (length old) new ≡ more ++ some = ap (drop (length old)) (e ∙ append_assoc old more some) ∙ drop-append_seam old (more ++ some) in
    step ∙ ap (λ qs. rise from (count_by f qs)) last ∙ ap (λ n. rise n (count_by f some)) (before ∙ ap (λ qs. rise start (count_by f qs)) first)
    ∙ rise-rise start (count_by f more) (count_by f some) ∙ ap (rise start) (sym (sum_by-append (λ r. cond (f r) 1 0) more some)) ∙ ap (λ qs. rise start (count_by f qs)) (sym both)

pub ticked_none : (f : Query → Bool) (start : ℕ) (old : List Query) → start ≡ rise start (count_by f (drop (length old) old))
ticked_none f start old =
    let none : drop (length old) old ≡ [] = ap (drop (length old)) (sym (append-nil old)) ∙ drop-append_seam old [] in
    sym (rise-none start) ∙ ap (λ qs. rise start (count_by f qs)) (sym none)
