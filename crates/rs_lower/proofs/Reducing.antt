-- A reduced tree needs no more labels than the tree, and as many slots; its values are of the same kinds.
use Rattle.std.proofs.Common.{◌≡◌, ℕ, ◌+◌, ◌≤◌, ℤ, Bool, true, false, List, Option, Some, None, refl, ◌∙◌, arith}
use Rattle.rs_tree.specs.declared.answers.Found.{Found}
use Rattle.rs_tree.specs.declared.answers.Found.TheVariants.{Absent}
use Rattle.rs_tree.specs.declared.place.At.{At}
use Rattle.rs_tree.specs.declared.tree.Path as path
use Rattle.rs_tree.specs.Plain.{Exp, Exps, Operands, Number, Truth, Path, Call, Group, Unary, Arith, Compare, And, Or, Done, By}
use Rattle.rs_tree.specs.Plain.{Sta, Stas, Arms, Let, Assign, Return, Eval, While, If, Print, Bare, Else, Arm}
use Rattle.rs_tree.specs.Leaves.{filled, sta_filled, stas_filled}
use Rattle.rs_lower.specs.Code.{is_not, is_truth, has_value}
use Rattle.rs_lower.specs.Counts.{labels, labels_all, labels_by, labels_in, places, places_all, places_arms, lets, lets_all, lets_arms}
use Rattle.rs_lower.specs.Locals.{Env}
use Rattle.rs_lower.specs.Meanings.{Leaf, Meanings}
use Rattle.rs_lower.specs.Reduced.{folded, folded_or, reduced, reduced_all, reduced_by, reduced_in, sta_reduced, stas_reduced, arms_reduced}
use Rattle.rs_lower.proofs.CountLemmas.{labels_filled, places_filled, places_all_filled, lets_filled, lets_all_filled}

fewer_or : (at : At) (truth : Bool) (v : Option ℤ) (parts : Exp Leaf) (n : ℕ) → labels parts ≤ n → labels (folded_or at truth v parts) ≤ n
fewer_or at truth None parts n few = few
fewer_or at false (Some v) parts n few = omega arith
fewer_or at true (Some v) parts n few = omega arith

mutual
  pub labels_reduced : (w : Meanings) (e : Exp Leaf) → labels (reduced w e) ≤ labels e
  labels_reduced w (Number at n) = omega arith
  labels_reduced w (Truth at b) = omega arith
  labels_reduced w (Path at p) = omega arith
  labels_reduced w (Call at p args) = labels_all_reduced w args
  labels_reduced w (Group at e) = labels_reduced w e
  labels_reduced w (Unary at op e) = fewer_or at (is_not op) (folded w (Unary at op e)) (Unary at op (reduced w e)) _ (labels_reduced w e)
  labels_reduced w (Arith at a more) =
      fewer_or at false (folded w (Arith at a more)) (Arith at (reduced w a) (reduced_by w more)) _ (omega (arith, labels_reduced w a, labels_by_reduced w more))
  labels_reduced w (Compare at op a b) =
      fewer_or at true (folded w (Compare at op a b)) (Compare at op (reduced w a) (reduced w b)) _ (omega (arith, labels_reduced w a, labels_reduced w b))
  labels_reduced w (And at parts) = fewer_or at true (folded w (And at parts)) (And at (reduced_all w parts)) _ (omega (arith, labels_all_reduced w parts))
  labels_reduced w (Or at parts) = fewer_or at true (folded w (Or at parts)) (Or at (reduced_all w parts)) _ (omega (arith, labels_all_reduced w parts))

  pub labels_all_reduced : (w : Meanings) (es : Exps Leaf) → labels_all (reduced_all w es) ≤ labels_all es
  labels_all_reduced w Exps.Empty = omega arith
  labels_all_reduced w (Exps.Of e more) = omega (arith, labels_reduced w e, labels_all_reduced w more)

  pub labels_by_reduced : (w : Meanings) (os : Operands Leaf) → labels_by (reduced_by w os) ≤ labels_by os
  labels_by_reduced w Done = omega arith
  labels_by_reduced w (By op e more) = omega (arith, labels_reduced w e, labels_by_reduced w more)

labels_in_reduced : (w : Meanings) (value : Option (Exp Leaf)) → labels_in (reduced_in w value) ≤ labels_in value
labels_in_reduced w None = omega arith
labels_in_reduced w (Some e) = labels_reduced w e

mutual
  places_reduced : (w : Meanings) (t : Sta Leaf) → places (sta_reduced w t) ≤ places t
  places_reduced w (Let mutable at name typ value) = labels_reduced w value
  places_reduced w (Assign at name value) = labels_reduced w value
  places_reduced w (Return at value) = labels_in_reduced w value
  places_reduced w (Eval value) = labels_reduced w value
  places_reduced w (While cond body) = omega (arith, labels_reduced w cond, places_all_reduced w body)
  places_reduced w (If arms) = omega (arith, places_arms_reduced w arms)
  places_reduced w (Print value) = labels_reduced w value

  places_all_reduced : (w : Meanings) (ts : Stas Leaf) → places_all (stas_reduced w ts) ≤ places_all ts
  places_all_reduced w Stas.Empty = omega arith
  places_all_reduced w (Stas.Of t more) = omega (arith, places_reduced w t, places_all_reduced w more)

  places_arms_reduced : (w : Meanings) (arms : Arms Leaf) → places_arms (arms_reduced w arms) ≤ places_arms arms
  places_arms_reduced w Bare = omega arith
  places_arms_reduced w (Else body) = places_all_reduced w body
  places_arms_reduced w (Arm cond body more) = omega (arith, labels_reduced w cond, places_all_reduced w body, places_arms_reduced w more)

mutual
  lets_reduced : (w : Meanings) (t : Sta Leaf) → lets (sta_reduced w t) ≡ lets t
  lets_reduced w (Let mutable at name typ value) = refl
  lets_reduced w (Assign at name value) = refl
  lets_reduced w (Return at value) = refl
  lets_reduced w (Eval value) = refl
  lets_reduced w (While cond body) = lets_all_reduced w body
  lets_reduced w (If arms) = lets_arms_reduced w arms
  lets_reduced w (Print value) = refl

  lets_all_reduced : (w : Meanings) (ts : Stas Leaf) → lets_all (stas_reduced w ts) ≡ lets_all ts
  lets_all_reduced w Stas.Empty = refl
  lets_all_reduced w (Stas.Of t more) = (λ j. lets_reduced w t j + lets_all_reduced w more j)

  lets_arms_reduced : (w : Meanings) (arms : Arms Leaf) → lets_arms (arms_reduced w arms) ≡ lets_arms arms
  lets_arms_reduced w Bare = refl
  lets_arms_reduced w (Else body) = lets_all_reduced w body
  lets_arms_reduced w (Arm cond body more) = (λ j. lets_all_reduced w body j + lets_arms_reduced w more j)

-- the same of a tree that is answered and reduced
pub fewer : (w : Meanings) (bs : List Found) (e : Exp path.Path) → labels (reduced w (filled Absent bs e)) ≤ labels e
fewer w bs e = omega (arith, labels_reduced w (filled Absent bs e), labels_filled Absent bs e)

pub fewer_places : (w : Meanings) (bs : List Found) (t : Sta path.Path) → places (sta_reduced w (sta_filled Absent bs t)) ≤ places t
fewer_places w bs t = omega (arith, places_reduced w (sta_filled Absent bs t), places_filled Absent bs t)

pub fewer_places_all : (w : Meanings) (bs : List Found) (ts : Stas path.Path) → places_all (stas_reduced w (stas_filled Absent bs ts)) ≤ places_all ts
fewer_places_all w bs ts = omega (arith, places_all_reduced w (stas_filled Absent bs ts), places_all_filled Absent bs ts)

pub same_lets : (w : Meanings) (bs : List Found) (t : Sta path.Path) → lets (sta_reduced w (sta_filled Absent bs t)) ≡ lets t
same_lets w bs t = lets_reduced w (sta_filled Absent bs t) ∙ lets_filled Absent bs t

pub same_lets_all : (w : Meanings) (bs : List Found) (ts : Stas path.Path) → lets_all (stas_reduced w (stas_filled Absent bs ts)) ≡ lets_all ts
same_lets_all w bs ts = lets_all_reduced w (stas_filled Absent bs ts) ∙ lets_all_filled Absent bs ts

kept_truth : (w : Meanings) (env : Env) (at : At) (truth : Bool) (v : Option ℤ) (parts : Exp Leaf) → is_truth w env parts ≡ truth → is_truth w env (folded_or at truth v parts) ≡ truth
kept_truth w env at truth None parts is = is
kept_truth w env at false (Some v) parts is = refl
kept_truth w env at true (Some v) parts is = refl

kept_value : (w : Meanings) (at : At) (truth : Bool) (v : Option ℤ) (parts : Exp Leaf) → has_value w parts ≡ true → has_value w (folded_or at truth v parts) ≡ true
kept_value w at truth None parts is = is
kept_value w at false (Some v) parts is = refl
kept_value w at true (Some v) parts is = refl

pub truth_reduced : (w : Meanings) (env : Env) (e : Exp Leaf) → is_truth w env (reduced w e) ≡ is_truth w env e
truth_reduced w env (Number at v) = refl
truth_reduced w env (Truth at b) = refl
truth_reduced w env (Path at p) = refl
truth_reduced w env (Call at p args) = refl
truth_reduced w env (Group at e) = truth_reduced w env e
truth_reduced w env (Unary at op e) = kept_truth w env at (is_not op) (folded w (Unary at op e)) (Unary at op (reduced w e)) refl
truth_reduced w env (Arith at a more) = kept_truth w env at false (folded w (Arith at a more)) (Arith at (reduced w a) (reduced_by w more)) refl
truth_reduced w env (Compare at op a b) = kept_truth w env at true (folded w (Compare at op a b)) (Compare at op (reduced w a) (reduced w b)) refl
truth_reduced w env (And at parts) = kept_truth w env at true (folded w (And at parts)) (And at (reduced_all w parts)) refl
truth_reduced w env (Or at parts) = kept_truth w env at true (folded w (Or at parts)) (Or at (reduced_all w parts)) refl

pub value_reduced : (w : Meanings) (e : Exp Leaf) → has_value w (reduced w e) ≡ has_value w e
value_reduced w (Number at v) = refl
value_reduced w (Truth at b) = refl
value_reduced w (Path at p) = refl
value_reduced w (Call at p args) = refl
value_reduced w (Group at e) = value_reduced w e
value_reduced w (Unary at op e) = kept_value w at (is_not op) (folded w (Unary at op e)) (Unary at op (reduced w e)) refl
value_reduced w (Arith at a more) = kept_value w at false (folded w (Arith at a more)) (Arith at (reduced w a) (reduced_by w more)) refl
value_reduced w (Compare at op a b) = kept_value w at true (folded w (Compare at op a b)) (Compare at op (reduced w a) (reduced w b)) refl
value_reduced w (And at parts) = kept_value w at true (folded w (And at parts)) (And at (reduced_all w parts)) refl
value_reduced w (Or at parts) = kept_value w at true (folded w (Or at parts)) (Or at (reduced_all w parts)) refl
