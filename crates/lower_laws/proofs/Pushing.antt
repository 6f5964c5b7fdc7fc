-- What is folded is pushed, and level 0 reduces nothing.
use Rattle.std.proofs.Common.{◌≡◌, ℕ, ℤ, Bool, true, false, cond, ◌∷◌, [], Option, None, Some, refl, ap, ◌∙◌}
use Rattle.rs_tree.specs.declared.answers.Const.{Const}
use Rattle.rs_tree.specs.declared.answers.Const.TheVariants as c
use Rattle.rs_tree.specs.declared.answers.Found.{Found}
use Rattle.rs_tree.specs.declared.answers.Found.TheVariants as f
use Rattle.rs_tree.specs.declared.ir.Instr.TheVariants as i
use Rattle.rs_tree.specs.declared.place.At.{At}
use Rattle.rs_tree.specs.declared.tree.Path as path
use Rattle.rs_tree.specs.Plain.{Exp, Exps, Operands, Number, Truth, Path, Call, Group, Unary, Arith, Compare, And, Or, Done, By}
use Rattle.rs_tree.specs.Plain.{Sta, Stas, Arms, Let, Assign, Return, Eval, While, If, Print, Bare, Else, Arm}
use Rattle.rs_lookup.specs.Places.{place_name}
use Rattle.rs_value.specs.Value.{number_of, value, given}
use Rattle.rs_lower.specs.Code.{code, is_not, path_code, pushed}
use Rattle.rs_lower.specs.Fixed.{shown}
use Rattle.rs_lower.specs.Locals.{Env}
use Rattle.rs_lower.specs.Meanings.{Leaf, Meanings, const_at}
use Rattle.rs_lower.specs.Reduced.{by_consts, constant_of, folded, folded_or, number_in, outcome, reduced, reduced_all, reduced_by, reduced_in, sta_reduced, stas_reduced, arms_reduced, value_in, valued, valued_all}
use Rattle.lower_laws.proofs.Kept.{Shows, folded_known, number_shows, unary_shows, compare_bit, all_bit, any_bit}

constant_pushed : (w : Meanings) (env : Env) (n : ℕ) (at : At) (truth : Bool) (x : ℤ) → code w env n (constant_of at truth x) ≡ i.Push (shown truth x) ∷ []
constant_pushed w env n at false x = refl
constant_pushed w env n at true x = refl

pushed_or : (w : Meanings) (env : Env) (n : ℕ) (at : At) (truth : Bool) (e parts : Exp Leaf) (x : ℤ) → folded w e ≡ Some x → Shows truth (value (valued (by_consts w) e)) → code w env n (folded_or at truth (folded w e) parts) ≡ i.Push x ∷ []
pushed_or w env n at truth e parts x is shows =
    ap (λ o. code w env n (folded_or at truth o parts)) is ∙ constant_pushed w env n at truth x ∙ ap (λ (v : ℤ). i.Push v ∷ []) (shows x (folded_known w e x is).1)

path_pushed : (w : Meanings) (env : Env) (p : path.Path) (found : Found) (at : At) (x : ℤ) → folded w (Path at (p, found)) ≡ Some x → path_code w env (p, found) ∷ [] ≡ i.Push x ∷ []
path_pushed w env p f.Local at x is = absurd (none w.folds is)
  where
    none : (b : Bool) → cond b None None ≡ Some x → ⊥
    none true h = cc
    none false h = cc
path_pushed w env p f.Private at x is = absurd (none w.folds is)
  where
    none : (b : Bool) → cond b None None ≡ Some x → ⊥
    none true h = cc
    none false h = cc
path_pushed w env p f.Absent at x is = absurd (none w.folds is)
  where
    none : (b : Bool) → cond b None None ≡ Some x → ⊥
    none true h = cc
    none false h = cc
path_pushed w env p (f.Item place) at x is = by w.folds (const_at (place_name place) w.consts) is
  where
    by : (b : Bool) (o : Option Const) → cond b (value_in (Some (given (number_in o)))) None ≡ Some x → pushed o ∷ [] ≡ i.Push x ∷ []
    by false o h = absurd cc
    by true None h = absurd cc
    by true (Some (c.Int v)) h = let same : v ≡ x = cc in ap (λ (y : ℤ). i.Push y ∷ []) same
    by true (Some (c.Bool b)) h = let same : number_of b ≡ x = cc in ap (λ (y : ℤ). i.Push y ∷ []) same
    by true (Some c.Cycle) h = absurd cc
    by true (Some c.Overflow) h = absurd cc
    by true (Some c.DivZero) h = absurd cc
    by true (Some c.Bad) h = absurd cc

literal_is : (b : Bool) (v x : ℤ) → cond b (Some v) None ≡ Some x → v ≡ x
literal_is true v x h = cc
literal_is false v x h = absurd cc

-- an expression that has a value is lowered to that value
pub folded_pushed : (w : Meanings) (env : Env) (n : ℕ) (e : Exp Leaf) (x : ℤ) → folded w e ≡ Some x → code w env n (reduced w e) ≡ i.Push x ∷ []
folded_pushed w env n (Number at v) x is = ap (λ (y : ℤ). i.Push y ∷ []) (literal_is w.folds v x is)
folded_pushed w env n (Truth at b) x is = ap (λ (y : ℤ). i.Push y ∷ []) (literal_is w.folds (number_of b) x is)
folded_pushed w env n (Path at p) x is = path_pushed w env p.0 p.1 at x is
folded_pushed w env n (Call at p args) x is = absurd (none w.folds is)
  where
    none : (b : Bool) → cond b None None ≡ Some x → ⊥
    none true h = cc
    none false h = cc
folded_pushed w env n (Group at e) x is = folded_pushed w env n e x is
folded_pushed w env n (Unary at op e) x is = pushed_or w env n at (is_not op) (Unary at op e) _ x is (unary_shows op (value (valued (by_consts w) e)))
folded_pushed w env n (Arith at a more) x is = pushed_or w env n at false (Arith at a more) _ x is (number_shows _)
folded_pushed w env n (Compare at op a b) x is = pushed_or w env n at true (Compare at op a b) _ x is (compare_bit op (value (valued (by_consts w) a)) (value (valued (by_consts w) b)))
folded_pushed w env n (And at parts) x is = pushed_or w env n at true (And at parts) _ x is (all_bit (valued_all (by_consts w) parts))
folded_pushed w env n (Or at parts) x is = pushed_or w env n at true (Or at parts) _ x is (any_bit (valued_all (by_consts w) parts))

-- where nothing folds
parts_stay : (w : Meanings) → w.folds ≡ false → (at : At) (truth : Bool) (e parts : Exp Leaf) → parts ≡ e → folded_or at truth (folded w e) parts ≡ e
parts_stay w off at truth e parts same = ap (λ b. folded_or at truth (cond b (value_in (outcome w e)) None) parts) off ∙ same

mutual
  pub unreduced : (w : Meanings) → w.folds ≡ false → (e : Exp Leaf) → reduced w e ≡ e
  unreduced w off (Number at n) = refl
  unreduced w off (Truth at b) = refl
  unreduced w off (Path at p) = refl
  unreduced w off (Call at p args) = ap (Call at p) (unreduced_all w off args)
  unreduced w off (Group at e) = ap (Group at) (unreduced w off e)
  unreduced w off (Unary at op e) = parts_stay w off at (is_not op) (Unary at op e) (Unary at op (reduced w e)) (ap (Unary at op) (unreduced w off e))
  unreduced w off (Arith at a more) = parts_stay w off at false (Arith at a more) (Arith at (reduced w a) (reduced_by w more)) (λ j. Arith at (unreduced w off a j) (unreduced_by w off more j))
  unreduced w off (Compare at op a b) = parts_stay w off at true (Compare at op a b) (Compare at op (reduced w a) (reduced w b)) (λ j. Compare at op (unreduced w off a j) (unreduced w off b j))
  unreduced w off (And at parts) = parts_stay w off at true (And at parts) (And at (reduced_all w parts)) (ap (And at) (unreduced_all w off parts))
  unreduced w off (Or at parts) = parts_stay w off at true (Or at parts) (Or at (reduced_all w parts)) (ap (Or at) (unreduced_all w off parts))

  unreduced_all : (w : Meanings) → w.folds ≡ false → (es : Exps Leaf) → reduced_all w es ≡ es
  unreduced_all w off Exps.Empty = refl
  unreduced_all w off (Exps.Of e more) = (λ j. Exps.Of (unreduced w off e j) (unreduced_all w off more j))

  unreduced_by : (w : Meanings) → w.folds ≡ false → (os : Operands Leaf) → reduced_by w os ≡ os
  unreduced_by w off Done = refl
  unreduced_by w off (By op e more) = (λ j. By op (unreduced w off e j) (unreduced_by w off more j))

pub unreduced_in : (w : Meanings) → w.folds ≡ false → (value : Option (Exp Leaf)) → reduced_in w value ≡ value
unreduced_in w off None = refl
unreduced_in w off (Some e) = ap Some (unreduced w off e)

mutual
  unreduced_sta : (w : Meanings) → w.folds ≡ false → (t : Sta Leaf) → sta_reduced w t ≡ t
  unreduced_sta w off (Let mutable at name typ value) = ap (Let mutable at name typ) (unreduced w off value)
  unreduced_sta w off (Assign at name value) = ap (Assign at name) (unreduced w off value)
  unreduced_sta w off (Return at value) = ap (Return at) (unreduced_in w off value)
  unreduced_sta w off (Eval value) = ap Eval (unreduced w off value)
  unreduced_sta w off (While cond body) = (λ j. While (unreduced w off cond j) (unreduced_stas w off body j))
  unreduced_sta w off (If arms) = ap If (unreduced_arms w off arms)
  unreduced_sta w off (Print value) = ap Print (unreduced w off value)

  pub unreduced_stas : (w : Meanings) → w.folds ≡ false → (ts : Stas Leaf) → stas_reduced w ts ≡ ts
  unreduced_stas w off Stas.Empty = refl
  unreduced_stas w off (Stas.Of t more) = (λ j. Stas.Of (unreduced_sta w off t j) (unreduced_stas w off more j))

  unreduced_arms : (w : Meanings) → w.folds ≡ false → (arms : Arms Leaf) → arms_reduced w arms ≡ arms
  unreduced_arms w off Bare = refl
  unreduced_arms w off (Else body) = ap Else (unreduced_stas w off body)
  unreduced_arms w off (Arm cond body more) = (λ j. Arm (unreduced w off cond j) (unreduced_stas w off body j) (unreduced_arms w off more j))
