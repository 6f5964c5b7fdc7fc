-- A plan turns the old files into the wanted ones.
use Rattle.std.proofs.Common.{◌≡◌, ℕ, Bool, true, false, nat_eq, cond, List, [], ◌∷◌, map, refl, sym, ap, ◌∙◌, subst}
use Rattle.std.specs.List.{AllByRecursion}
use Rattle.std.specs.List.Sorted.{IsStrictlySortedBy}
use Rattle.std.specs.Map.{keys_of, remove_entry}
use Rattle.std.specs.BTreeMap.{is_at}
use Rattle.std.specs.Ordering.{is_eq, match_ordering}
use Rattle.std.specs.Cmp.Lexicographic.{pointwise, same_text}
use Rattle.std.specs.declared.cmp.Ordering.{Ordering}
use Rattle.std.specs.declared.cmp.Ordering.TheVariants.{Less, Equal, Greater}
use Rattle.std.proofs.lemmas.Cmp.{nat_list_cmp_total, tied_itself}
use Rattle.std.proofs.lemmas.Map.Lookups.{exact_bytes}
use Rattle.inc_products.specs.declared.change.Change.{Change}
use Rattle.inc_products.specs.declared.change.Change.TheVariants as c
use Rattle.inc_products.specs.Named.{AreOrdered, name_cmp, with_value}
use Rattle.inc_products.specs.Plans.{File, applied, drop_of, name_of, plan_at, plan_of, rewrite, write_of}
use Rattle.inc_products.proofs.Places.{turned, weaker_each}

-- names that are all behind one
abbrev Behind : List ℕ → List (List ℕ) → Type 0
Behind name names = AllByRecursion (λ y. name_cmp name y ≡ Less) names

abbrev names_of : List Change → List (List ℕ)
names_of changes = map name_of changes

behind_further : (a b : List ℕ) → name_cmp a b ≡ Less → (names : List (List ℕ)) → Behind b names → Behind a names
behind_further a b less names h = weaker_each (λ y. name_cmp b y ≡ Less) (λ y. name_cmp a y ≡ Less) (λ y k. nat_list_cmp_total.trans a b y less k) names h

-- each name of a plan is one of the files'
module _ (P : List ℕ → Type 0) where
  writes_all : (ws : List File) → AllByRecursion P (keys_of ws) → AllByRecursion P (names_of (map write_of ws))
  writes_all [] h = tt
  writes_all (w ∷ ws) h = (h.0, writes_all ws h.1)

  rewrite_all : (o w : File) (b : Bool) (cs : List Change) → P w.0 → AllByRecursion P (names_of cs) → AllByRecursion P (names_of (cond b cs (write_of w ∷ cs)))
  rewrite_all o w true cs p h = h
  rewrite_all o w false cs p h = (p, h)

  ordering_all : (r : Ordering) (a b d : List Change) → AllByRecursion P (names_of a) → AllByRecursion P (names_of b) → AllByRecursion P (names_of d) → AllByRecursion P (names_of (match_ordering r a b d))
  ordering_all Less a b d p q s = p
  ordering_all Equal a b d p q s = q
  ordering_all Greater a b d p q s = s

  plan_at_all : (o : File) (later : List File → List Change) → P o.0 → ((ws : List File) → AllByRecursion P (keys_of ws) → AllByRecursion P (names_of (later ws))) → (ws : List File) → AllByRecursion P (keys_of ws) → AllByRecursion P (names_of (plan_at o later ws))
  plan_at_all o later p all [] h = (p, all [] tt)
  plan_at_all o later p all (w ∷ ws) h =
      ordering_all (name_cmp o.0 w.0) (drop_of o ∷ later (w ∷ ws)) (rewrite o w (later ws)) (write_of w ∷ plan_at o later ws)
      (p, all (w ∷ ws) h) (rewrite_all o w (pointwise nat_eq o.1 w.1) (later ws) h.0 (all ws h.1)) (h.0, plan_at_all o later p all ws h.1)

  plan_all : (os ws : List File) → AllByRecursion P (keys_of os) → AllByRecursion P (keys_of ws) → AllByRecursion P (names_of (plan_of os ws))
  plan_all [] ws h k = writes_all ws k
  plan_all (o ∷ os) ws h k = plan_at_all o (plan_of os) h.0 (λ ws k. plan_all os ws h.1 k) ws k

-- a file stays before changes of names behind it
stays : (e : File) (cs : List Change) (fs : List File) → Behind e.0 (names_of cs) → applied cs (e ∷ fs) ≡ e ∷ applied cs fs
stays e [] fs h = refl
stays e (c.Drop name ∷ cs) fs h =
    let off : is_eq (name_cmp name e.0) ≡ false = ap is_eq (turned e.0 name Less h.0) in
    ap (λ b. applied cs (cond b fs (e ∷ remove_entry (is_at (name_cmp name)) fs))) off ∙ stays e cs (remove_entry (is_at (name_cmp name)) fs) h.1
stays e (c.Write name bytes ∷ cs) fs h =
    ap (λ r. applied cs (match_ordering r ((name, bytes) ∷ e ∷ fs) ((e.0, bytes) ∷ fs) (e ∷ with_value fs name bytes))) (turned e.0 name Less h.0) ∙ stays e cs (with_value fs name bytes) h.1

writes_made : (ws : List File) → AreOrdered ws → applied (map write_of ws) [] ≡ ws
unfolding IsStrictlySortedBy
writes_made [] s = refl
writes_made (w ∷ ws) s = stays w (map write_of ws) [] (writes_all (λ y. name_cmp w.0 y ≡ Less) ws s.0) ∙ ap (λ l. w ∷ l) (writes_made ws s.1)

module _ (o : File) (os : List File) (above : Behind o.0 (keys_of os)) where
  dropped : (cs : List Change) → applied (drop_of o ∷ cs) (o ∷ os) ≡ applied cs os
  dropped cs = ap (λ b. applied cs (cond b os (o ∷ remove_entry (is_at (name_cmp o.0)) os))) (ap is_eq (tied_itself nat_list_cmp_total o.0))

  same_file : (w : File) → o.0 ≡ w.0 → o.1 ≡ w.1 → o ≡ w
  same_file w n b = ap (λ x. (x, o.1)) n ∙ ap (λ y. (w.0, y)) b

  rewritten : (w : File) (ws : List File) (b : Bool) → pointwise nat_eq o.1 w.1 ≡ b → name_cmp o.0 w.0 ≡ Equal → Behind w.0 (keys_of ws) → applied (plan_of os ws) os ≡ ws → applied (cond b (plan_of os ws) (write_of w ∷ plan_of os ws)) (o ∷ os) ≡ w ∷ ws
  rewritten w ws true same is behind later =
      let name = exact_bytes o.0 w.0 is in
      let over : Behind o.0 (keys_of ws) = subst (λ n. Behind n (keys_of ws)) (sym name) behind in
      stays o (plan_of os ws) os (plan_all (λ y. name_cmp o.0 y ≡ Less) os ws above over) ∙ ap (λ l. o ∷ l) later ∙ ap (λ f. f ∷ ws) (same_file w name (same_text o.1 w.1 (sym same)))
  rewritten w ws false same is behind later =
      let name = exact_bytes o.0 w.0 is in
      let over : Behind o.0 (keys_of ws) = subst (λ n. Behind n (keys_of ws)) (sym name) behind in
      ap (λ r. applied (plan_of os ws) (match_ordering r ((w.0, w.1) ∷ o ∷ os) ((o.0, w.1) ∷ os) (o ∷ with_value os w.0 w.1))) (turned o.0 w.0 Equal is)
      ∙ stays (o.0, w.1) (plan_of os ws) os (plan_all (λ y. name_cmp o.0 y ≡ Less) os ws above over) ∙ ap (λ l. (o.0, w.1) ∷ l) later ∙ ap (λ n. (n, w.1) ∷ ws) name

  module _ (later : (ws : List File) → AreOrdered ws → applied (plan_of os ws) os ≡ ws) where
    step_made : (w : File) (ws : List File) (r : Ordering) → name_cmp o.0 w.0 ≡ r → AreOrdered (w ∷ ws) → applied (plan_at o (plan_of os) ws) (o ∷ os) ≡ ws
        → applied (match_ordering r (drop_of o ∷ plan_of os (w ∷ ws)) (rewrite o w (plan_of os ws)) (write_of w ∷ plan_at o (plan_of os) ws)) (o ∷ os) ≡ w ∷ ws
    unfolding IsStrictlySortedBy
    step_made w ws Less is s more = dropped (plan_of os (w ∷ ws)) ∙ later (w ∷ ws) s
    step_made w ws Equal is s more = rewritten w ws (pointwise nat_eq o.1 w.1) refl is s.0 (later ws s.1)
    step_made w ws Greater is s more =
        let lower : name_cmp w.0 o.0 ≡ Less = turned o.0 w.0 Greater is in
        ap (λ r. applied (plan_at o (plan_of os) ws) (match_ordering r ((w.0, w.1) ∷ o ∷ os) ((o.0, w.1) ∷ os) (o ∷ with_value os w.0 w.1))) lower
        ∙ stays w (plan_at o (plan_of os) ws) (o ∷ os) (plan_at_all (λ y. name_cmp w.0 y ≡ Less) o (plan_of os) lower (λ vs k. plan_all (λ y. name_cmp w.0 y ≡ Less) os vs (behind_further w.0 o.0 lower (keys_of os) above) k) ws s.0) ∙ ap (λ l. w ∷ l) more

    at_made : (ws : List File) → AreOrdered ws → applied (plan_at o (plan_of os) ws) (o ∷ os) ≡ ws
    unfolding IsStrictlySortedBy
    at_made [] s = dropped (plan_of os []) ∙ later [] s
    at_made (w ∷ ws) s = step_made w ws (name_cmp o.0 w.0) refl s (at_made ws s.1)

pub plan_made : (os ws : List File) → AreOrdered os → AreOrdered ws → applied (plan_of os ws) os ≡ ws
unfolding IsStrictlySortedBy
plan_made [] ws s t = writes_made ws t
plan_made (o ∷ os) ws s t = at_made o os s.0 (λ vs u. plan_made os vs s.1 u) ws t

-- the changes stand in the order of their names

writes_sorted : (ws : List File) → AreOrdered ws → IsStrictlySortedBy name_cmp (names_of (map write_of ws))
unfolding IsStrictlySortedBy
writes_sorted [] s = tt
writes_sorted (w ∷ ws) s = (writes_all (λ y. name_cmp w.0 y ≡ Less) ws s.0, writes_sorted ws s.1)

module _ (o : File) (os : List File) (above : Behind o.0 (keys_of os)) (later : (ws : List File) → AreOrdered ws → IsStrictlySortedBy name_cmp (names_of (plan_of os ws))) where
  rewrite_sorted : (w : File) (ws : List File) (b : Bool) → name_cmp o.0 w.0 ≡ Equal → AreOrdered (w ∷ ws) → IsStrictlySortedBy name_cmp (names_of (cond b (plan_of os ws) (write_of w ∷ plan_of os ws)))
  unfolding IsStrictlySortedBy
  rewrite_sorted w ws true is s = later ws s.1
  rewrite_sorted w ws false is s =
      let over : Behind w.0 (keys_of os) = subst (λ n. Behind n (keys_of os)) (exact_bytes o.0 w.0 is) above in
      (plan_all (λ y. name_cmp w.0 y ≡ Less) os ws over s.0, later ws s.1)

  step_sorted : (w : File) (ws : List File) (r : Ordering) → name_cmp o.0 w.0 ≡ r → AreOrdered (w ∷ ws) → IsStrictlySortedBy name_cmp (names_of (plan_at o (plan_of os) ws))
      → IsStrictlySortedBy name_cmp (names_of (match_ordering r (drop_of o ∷ plan_of os (w ∷ ws)) (rewrite o w (plan_of os ws)) (write_of w ∷ plan_at o (plan_of os) ws)))
  unfolding IsStrictlySortedBy
  step_sorted w ws Less is s more = (plan_all (λ y. name_cmp o.0 y ≡ Less) os (w ∷ ws) above (is, behind_further o.0 w.0 is (keys_of ws) s.0), later (w ∷ ws) s)
  step_sorted w ws Equal is s more = rewrite_sorted w ws (pointwise nat_eq o.1 w.1) is s
  step_sorted w ws Greater is s more =
      let lower : name_cmp w.0 o.0 ≡ Less = turned o.0 w.0 Greater is in
      (plan_at_all (λ y. name_cmp w.0 y ≡ Less) o (plan_of os) lower (λ vs k. plan_all (λ y. name_cmp w.0 y ≡ Less) os vs (behind_further w.0 o.0 lower (keys_of os) above) k) ws s.0, more)

  at_sorted : (ws : List File) → AreOrdered ws → IsStrictlySortedBy name_cmp (names_of (plan_at o (plan_of os) ws))
  unfolding IsStrictlySortedBy
  at_sorted [] s = (plan_all (λ y. name_cmp o.0 y ≡ Less) os [] above tt, later [] tt)
  at_sorted (w ∷ ws) s = step_sorted w ws (name_cmp o.0 w.0) refl s (at_sorted ws s.1)

pub plan_sorted : (os ws : List File) → AreOrdered os → AreOrdered ws → IsStrictlySortedBy name_cmp (names_of (plan_of os ws))
unfolding IsStrictlySortedBy
plan_sorted [] ws s t = writes_sorted ws t
plan_sorted (o ∷ os) ws s t = at_sorted o os s.0 (λ vs u. plan_sorted os vs s.1 u) ws t
