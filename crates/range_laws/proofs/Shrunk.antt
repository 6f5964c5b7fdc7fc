-- Answering a tree's paths keeps its size, and reducing it doesn't add to it.
use Rattle.std.proofs.Common.{◌≡◌, ℕ, ◌≤◌, ℤ, Bool, true, false, List, Option, Some, None, length, drop, refl, arith}
use Rattle.rs_tree.specs.declared.place.At.{At}
use Rattle.rs_tree.specs.Plain.{Exp, Exps, Operands, Number, Truth, Path, Call, Group, Unary, Arith, Compare, And, Or, Done, By}
use Rattle.rs_tree.specs.Plain.{Sta, Stas, Arms, Let, Assign, Return, Eval, While, If, Print, Bare, Else, Arm}
use Rattle.rs_tree.specs.Leaves.{filled, filled_all, filled_by, filled_in, sta_filled, stas_filled, arms_filled, leaves, sta_leaves, stas_leaves}
use Rattle.rs_lower.specs.Code.{is_not}
use Rattle.rs_lower.specs.Meanings.{Leaf, Meanings}
use Rattle.rs_lower.specs.Reduced.{constant_of, folded, folded_or, reduced, reduced_all, reduced_by, reduced_in, sta_reduced, stas_reduced, arms_reduced}
use Rattle.range_laws.specs.Sizes.{size, size_all, size_by, size_in, sta_size, stas_size, arms_size}

some_size : {A : Type 0} (e : Exp A) → 1 ≤ size e
some_size (Number at n) = omega arith
some_size (Truth at b) = omega arith
some_size (Path at p) = omega arith
some_size (Call at p args) = omega arith
some_size (Group at e) = omega arith
some_size (Unary at op e) = omega arith
some_size (Arith at a more) = omega (arith, some_size a)
some_size (Compare at op a b) = omega arith
some_size (And at parts) = omega arith
some_size (Or at parts) = omega arith

constant_size : {n : ℕ} (at : At) (truth : Bool) (v : ℤ) → 1 ≤ n → size (constant_of at truth v) ≤ n
constant_size at false v some = some
constant_size at true v some = some

folded_size : {n : ℕ} (at : At) (truth : Bool) (o : Option ℤ) (e : Exp Leaf) → 1 ≤ n → size e ≤ n → size (folded_or at truth o e) ≤ n
folded_size at truth None e some less = less
folded_size at truth (Some v) e some less = constant_size at truth v some

module _ (w : Meanings) where
  mutual
    pub size_reduced : (e : Exp Leaf) → size (reduced w e) ≤ size e
    size_reduced (Number at n) = omega arith
    size_reduced (Truth at b) = omega arith
    size_reduced (Path at p) = omega arith
    size_reduced (Call at p args) = omega (arith, size_all_reduced args)
    size_reduced (Group at e) = omega (arith, size_reduced e)
    size_reduced (Unary at op e) = folded_size at (is_not op) (folded w (Unary at op e)) (Unary at op (reduced w e)) (omega arith) (omega (arith, size_reduced e))
    size_reduced (Arith at a more) =
        folded_size at false (folded w (Arith at a more)) (Arith at (reduced w a) (reduced_by w more)) (omega (arith, some_size a)) (omega (arith, size_reduced a, size_by_reduced more))
    size_reduced (Compare at op a b) = folded_size at true (folded w (Compare at op a b)) (Compare at op (reduced w a) (reduced w b)) (omega arith) (omega (arith, size_reduced a, size_reduced b))
    size_reduced (And at parts) = folded_size at true (folded w (And at parts)) (And at (reduced_all w parts)) (omega arith) (omega (arith, size_all_reduced parts))
    size_reduced (Or at parts) = folded_size at true (folded w (Or at parts)) (Or at (reduced_all w parts)) (omega arith) (omega (arith, size_all_reduced parts))

    size_all_reduced : (es : Exps Leaf) → size_all (reduced_all w es) ≤ size_all es
    size_all_reduced Exps.Empty = omega arith
    size_all_reduced (Exps.Of e more) = omega (arith, size_reduced e, size_all_reduced more)

    size_by_reduced : (os : Operands Leaf) → size_by (reduced_by w os) ≤ size_by os
    size_by_reduced Done = omega arith
    size_by_reduced (By op e more) = omega (arith, size_reduced e, size_by_reduced more)

  pub size_in_reduced : (value : Option (Exp Leaf)) → size_in (reduced_in w value) ≤ size_in value
  size_in_reduced None = omega arith
  size_in_reduced (Some e) = size_reduced e

  mutual
    sta_size_reduced : (s : Sta Leaf) → sta_size (sta_reduced w s) ≤ sta_size s
    sta_size_reduced (Let mutable at name typ value) = omega (arith, size_reduced value)
    sta_size_reduced (Assign at name value) = omega (arith, size_reduced value)
    sta_size_reduced (Return at value) = omega (arith, size_in_reduced value)
    sta_size_reduced (Eval value) = omega (arith, size_reduced value)
    sta_size_reduced (While cond body) = omega (arith, size_reduced cond, stas_size_reduced body)
    sta_size_reduced (If arms) = arms_size_reduced arms
    sta_size_reduced (Print value) = omega (arith, size_reduced value)

    pub stas_size_reduced : (ss : Stas Leaf) → stas_size (stas_reduced w ss) ≤ stas_size ss
    stas_size_reduced Stas.Empty = omega arith
    stas_size_reduced (Stas.Of s more) = omega (arith, sta_size_reduced s, stas_size_reduced more)

    arms_size_reduced : (arms : Arms Leaf) → arms_size (arms_reduced w arms) ≤ arms_size arms
    arms_size_reduced Bare = omega arith
    arms_size_reduced (Else body) = omega (arith, stas_size_reduced body)
    arms_size_reduced (Arm cond body more) = omega (arith, size_reduced cond, stas_size_reduced body, arms_size_reduced more)

module _ {A B : Type 0} (missing : B) where
  mutual
    size_filled : (bs : List B) (e : Exp A) → size (filled missing bs e) ≡ size e
    size_filled bs (Number at n) = refl
    size_filled bs (Truth at b) = refl
    size_filled bs (Path at p) = refl
    size_filled bs (Call at p args) = omega (arith, size_all_filled (drop 1 bs) args)
    size_filled bs (Group at e) = omega (arith, size_filled bs e)
    size_filled bs (Unary at op e) = omega (arith, size_filled bs e)
    size_filled bs (Arith at a more) = omega (arith, size_filled bs a, size_by_filled (drop (length (leaves a)) bs) more)
    size_filled bs (Compare at op a b) = omega (arith, size_filled bs a, size_filled (drop (length (leaves a)) bs) b)
    size_filled bs (And at parts) = omega (arith, size_all_filled bs parts)
    size_filled bs (Or at parts) = omega (arith, size_all_filled bs parts)

    size_all_filled : (bs : List B) (es : Exps A) → size_all (filled_all missing bs es) ≡ size_all es
    size_all_filled bs Exps.Empty = refl
    size_all_filled bs (Exps.Of e more) = omega (arith, size_filled bs e, size_all_filled (drop (length (leaves e)) bs) more)

    size_by_filled : (bs : List B) (os : Operands A) → size_by (filled_by missing bs os) ≡ size_by os
    size_by_filled bs Done = refl
    size_by_filled bs (By op e more) = omega (arith, size_filled bs e, size_by_filled (drop (length (leaves e)) bs) more)

  pub size_in_filled : (bs : List B) (value : Option (Exp A)) → size_in (filled_in missing bs value) ≡ size_in value
  size_in_filled bs None = refl
  size_in_filled bs (Some e) = size_filled bs e

  mutual
    sta_size_filled : (bs : List B) (s : Sta A) → sta_size (sta_filled missing bs s) ≡ sta_size s
    sta_size_filled bs (Let mutable at name typ value) = omega (arith, size_filled bs value)
    sta_size_filled bs (Assign at name value) = omega (arith, size_filled bs value)
    sta_size_filled bs (Return at value) = omega (arith, size_in_filled bs value)
    sta_size_filled bs (Eval value) = omega (arith, size_filled bs value)
    sta_size_filled bs (While cond body) = omega (arith, size_filled bs cond, stas_size_filled (drop (length (leaves cond)) bs) body)
    sta_size_filled bs (If arms) = arms_size_filled bs arms
    sta_size_filled bs (Print value) = omega (arith, size_filled bs value)

    pub stas_size_filled : (bs : List B) (ss : Stas A) → stas_size (stas_filled missing bs ss) ≡ stas_size ss
    stas_size_filled bs Stas.Empty = refl
    stas_size_filled bs (Stas.Of s more) = omega (arith, sta_size_filled bs s, stas_size_filled (drop (length (sta_leaves s)) bs) more)

    arms_size_filled : (bs : List B) (arms : Arms A) → arms_size (arms_filled missing bs arms) ≡ arms_size arms
    arms_size_filled bs Bare = refl
    arms_size_filled bs (Else body) = omega (arith, stas_size_filled bs body)
    arms_size_filled bs (Arm cond body more) = omega (
      arith,
      size_filled bs cond,
      stas_size_filled (drop (length (leaves cond)) bs) body,
      arms_size_filled (drop (length (stas_leaves body)) (drop (length (leaves cond)) bs)) more,
    )
