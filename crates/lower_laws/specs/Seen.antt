-- What an expression comes to, whatever its locals are worth and whatever functions give.
use Rattle.std.specs.Prelude.{◌≡◌, ℤ, true, List, [], ◌∷◌, Option}
use Rattle.rs_tree.specs.Plain.{Exp, Exps, Operands, Number, Truth, Path, Call, Group, Unary, Arith, Compare, And, Or, Done, By}
use Rattle.rs_value.specs.Value as worth
use Rattle.rs_lower.specs.Meanings.{Leaf, Meanings}
use Rattle.rs_lower.specs.Reduced.{is_item, leaf_value}

-- the values of paths, and what functions give for what their arguments come to
pub record World : Type 0 where
  pub path : Leaf → Option ℤ
  pub call : Leaf → List worth.Outcome → Option ℤ

-- each path that leads to a constant has the constant's value
abbrev pub Agrees : Meanings → World → Type 0
Agrees w given = (p : Leaf) → is_item p ≡ true → given.path p ≡ leaf_value w p

abbrev pub outcomes : Exps worth.Leaf → List worth.Outcome
outcomes Exps.Empty = []
outcomes (Exps.Of e more) = worth.value e ∷ outcomes more

-- the expression with these values at its paths, and in place of a call a path with what it gives
abbrev mutual
  pub seen : World → Exp Leaf → Exp worth.Leaf
  seen g (Number at n) = Number at n
  seen g (Truth at b) = Truth at b
  seen g (Path at p) = Path at (p.0, g.path p)
  seen g (Call at p args) = Path at (p.0, g.call p (outcomes (seen_all g args)))
  seen g (Group at e) = Group at (seen g e)
  seen g (Unary at op e) = Unary at op (seen g e)
  seen g (Arith at a more) = Arith at (seen g a) (seen_by g more)
  seen g (Compare at op a b) = Compare at op (seen g a) (seen g b)
  seen g (And at parts) = And at (seen_all g parts)
  seen g (Or at parts) = Or at (seen_all g parts)

  pub seen_all : World → Exps Leaf → Exps worth.Leaf
  seen_all g Exps.Empty = Exps.Empty
  seen_all g (Exps.Of e more) = Exps.Of (seen g e) (seen_all g more)

  pub seen_by : World → Operands Leaf → Operands worth.Leaf
  seen_by g Done = Done
  seen_by g (By op e more) = By op (seen g e) (seen_by g more)

abbrev pub worth_of : World → Exp Leaf → worth.Outcome
worth_of g e = worth.value (seen g e)
