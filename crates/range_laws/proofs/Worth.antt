-- What an expression comes to is a number of 64 bits where its numbers and the values of its paths are.
use Rattle.std.proofs.Common.{ℤ, pos, Bool, true, false, if◌then◌else◌, Option, Some, None}
use Rattle.std.specs.Prelude.{FitsSigned, Ok, Err}
use Rattle.std.specs.Int.{w64}
use Rattle.rs_tree.specs.Plain.{Exp, Exps, Operands, Number, Truth, Path, Call, Group, Unary, Arith, Compare, And, Or, Done, By}
use Rattle.rs_tree.specs.declared.place.At.{At}
use Rattle.rs_lower.specs.Code.{is_not}
use Rattle.rs_lower.specs.Meanings.{Leaf, Meanings}
use Rattle.rs_lower.specs.Reduced.{by_consts, folded, folded_or, is_fixed, leaf_value, reduced, reduced_all, reduced_by, value_in, valued, valued_all, valued_by}
use Rattle.rs_value.specs.Value.{Outcome, all, and_then, any, arithmetic, chain, holds, is_zero, number_of, unary, value}
use Rattle.range_laws.proofs.Consts.{Gives, InRange, all_step, and_then_fits, any_step, arithmetic_fits, given_fits, truth_fits, unary_fits}

-- each number is one of 64 bits, and P holds of each path that is called
abbrev mutual
  pub Worded : (Leaf → Type 0) → Exp Leaf → Type 0
  Worded P (Number at n) = FitsSigned w64 n
  Worded P (Truth at b) = Unit {0}
  Worded P (Path at p) = Unit {0}
  Worded P (Call at p args) = P p × WordedAll P args
  Worded P (Group at e) = Worded P e
  Worded P (Unary at op e) = Worded P e
  Worded P (Arith at a more) = Worded P a × WordedBy P more
  Worded P (Compare at op a b) = Worded P a × Worded P b
  Worded P (And at parts) = WordedAll P parts
  Worded P (Or at parts) = WordedAll P parts

  pub WordedAll : (Leaf → Type 0) → Exps Leaf → Type 0
  WordedAll P Exps.Empty = Unit {0}
  WordedAll P (Exps.Of e more) = Worded P e × WordedAll P more

  pub WordedBy : (Leaf → Type 0) → Operands Leaf → Type 0
  WordedBy P Done = Unit {0}
  WordedBy P (By op e more) = Worded P e × WordedBy P more

module _ (P : Leaf → Type 0) (w : Meanings) (known : (p : Leaf) → Gives (leaf_value w p)) where
  mutual
    value_fits : (e : Exp Leaf) → Worded P e → InRange (value (valued (by_consts w) e))
    value_fits (Number at n) h = h
    value_fits (Truth at b) h = truth_fits b
    value_fits (Path at p) h = given_fits (leaf_value w p) (known p)
    value_fits (Call at p args) h = tt
    value_fits (Group at e) h = value_fits e h
    value_fits (Unary at op e) h = and_then_fits (value (valued (by_consts w) e)) (unary op) (value_fits e h) (λ v f. unary_fits op v)
    value_fits (Arith at a more) h = chain_fits more (value (valued (by_consts w) a)) h.1 (value_fits a h.0)
    value_fits (Compare at op a b) h =
        and_then_fits (value (valued (by_consts w) a)) (λ x. and_then (value (valued (by_consts w) b)) (λ y. Ok (number_of (holds op x y)))) (value_fits a h.0)
        (λ x f. and_then_fits (value (valued (by_consts w) b)) (λ y. Ok (number_of (holds op x y))) (value_fits b h.1) (λ y g. truth_fits (holds op x y)))
    value_fits (And at parts) h = all_fits parts h
    value_fits (Or at parts) h = any_fits parts h

    chain_fits : (os : Operands Leaf) (o : Outcome) → WordedBy P os → InRange o → InRange (chain (valued_by (by_consts w) os) o)
    chain_fits Done o h f = f
    chain_fits (By op e more) o h f =
        chain_fits more (and_then o (λ x. and_then (value (valued (by_consts w) e)) (arithmetic op x))) h.1
        (and_then_fits o (λ x. and_then (value (valued (by_consts w) e)) (arithmetic op x)) f (λ x g. and_then_fits (value (valued (by_consts w) e)) (arithmetic op x) (value_fits e h.0) (λ y k. arithmetic_fits op x y k)))

    all_fits : (es : Exps Leaf) → WordedAll P es → InRange (all (valued_all (by_consts w) es))
    all_fits Exps.Empty h = truth_fits true
    all_fits (Exps.Of e more) h =
        and_then_fits (value (valued (by_consts w) e)) (λ v. if is_zero v then Ok (pos 0) else all (valued_all (by_consts w) more)) (value_fits e h.0)
        (λ v f. all_step (is_zero v) (all (valued_all (by_consts w) more)) (all_fits more h.1))

    any_fits : (es : Exps Leaf) → WordedAll P es → InRange (any (valued_all (by_consts w) es))
    any_fits Exps.Empty h = truth_fits false
    any_fits (Exps.Of e more) h =
        and_then_fits (value (valued (by_consts w) e)) (λ v. if is_zero v then any (valued_all (by_consts w) more) else Ok (pos 1)) (value_fits e h.0)
        (λ v f. any_step (is_zero v) (any (valued_all (by_consts w) more)) (any_fits more h.1))

  value_in_fits : (o : Outcome) → InRange o → Gives (value_in (Some o))
  value_in_fits (Ok v) h = h
  value_in_fits (Err t) h = tt

  folded_fits : (e : Exp Leaf) → Worded P e → Gives (folded w e)
  folded_fits e h = by w.folds (is_fixed e)
    where
      by : (b c : Bool) → Gives (if b then value_in (if c then Some (value (valued (by_consts w) e)) else None) else None)
      by false c = tt
      by true false = tt
      by true true = value_in_fits (value (valued (by_consts w) e)) (value_fits e h)

  kept_worded : (at : At) (truth : Bool) (o : Option ℤ) (e : Exp Leaf) → Gives o → Worded P e → Worded P (folded_or at truth o e)
  kept_worded at truth None e f h = h
  kept_worded at false (Some v) e f h = f
  kept_worded at true (Some v) e f h = tt

  mutual
    pub reduced_worded : (e : Exp Leaf) → Worded P e → Worded P (reduced w e)
    reduced_worded (Number at n) h = h
    reduced_worded (Truth at b) h = h
    reduced_worded (Path at p) h = h
    reduced_worded (Call at p args) h = (h.0, reduced_all_worded args h.1)
    reduced_worded (Group at e) h = reduced_worded e h
    reduced_worded (Unary at op e) h = kept_worded at (is_not op) (folded w (Unary at op e)) (Unary at op (reduced w e)) (folded_fits (Unary at op e) h) (reduced_worded e h)
    reduced_worded (Arith at a more) h =
        kept_worded at false (folded w (Arith at a more)) (Arith at (reduced w a) (reduced_by w more)) (folded_fits (Arith at a more) h) (reduced_worded a h.0, reduced_by_worded more h.1)
    reduced_worded (Compare at op a b) h =
        kept_worded at true (folded w (Compare at op a b)) (Compare at op (reduced w a) (reduced w b)) (folded_fits (Compare at op a b) h) (reduced_worded a h.0, reduced_worded b h.1)
    reduced_worded (And at parts) h = kept_worded at true (folded w (And at parts)) (And at (reduced_all w parts)) (folded_fits (And at parts) h) (reduced_all_worded parts h)
    reduced_worded (Or at parts) h = kept_worded at true (folded w (Or at parts)) (Or at (reduced_all w parts)) (folded_fits (Or at parts) h) (reduced_all_worded parts h)

    reduced_all_worded : (es : Exps Leaf) → WordedAll P es → WordedAll P (reduced_all w es)
    reduced_all_worded Exps.Empty h = h
    reduced_all_worded (Exps.Of e more) h = (reduced_worded e h.0, reduced_all_worded more h.1)

    reduced_by_worded : (os : Operands Leaf) → WordedBy P os → WordedBy P (reduced_by w os)
    reduced_by_worded Done h = h
    reduced_by_worded (By op e more) h = (reduced_worded e h.0, reduced_by_worded more h.1)
