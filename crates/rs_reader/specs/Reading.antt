-- What a function that reads ensures.
use Rattle.std.specs.Prelude.{◌≡◌, ◌≤◌, ◌<◌, Bool, true, false, length, List, ◌++◌, Option, Some, None, Result, Ok, Err}
use Rattle.rs_grammar.specs.Lexeme.{Lexeme}
use Rattle.rs_reader.specs.declared.fault.Fault.{Fault}
use Rattle.rs_reader.specs.declared.fault.Fault.TheVariants.{Syntax, Memory}
use Rattle.rs_tree.specs.declared.kind.Kind.{Kind}
use Rattle.rs_grammar.specs.Grammar.{Shape, Val, Grammar, Rep, Tail}
use Rattle.rs_grammar.specs.Sets.{nullable}
use Rattle.rs_grammar.specs.Parses.{Parses}

abbrev pub Outcome : {s : Shape} → Grammar s → List Lexeme → Result (Val s) Fault → List Lexeme → Type 0
Outcome g old (Ok x) new = Parses _ g old (Some x) new
Outcome g old (Err Syntax) new = Parses _ g old None new
Outcome g old (Err Memory) new = Unit {0}

-- a form that may not be empty takes a token
abbrev pub Advances : {X : Type 0} → Bool → Result X Fault → List Lexeme → List Lexeme → Type 0
Advances true (Ok x) old new = length new ≤ length old
Advances false (Ok x) old new = length new < length old
Advances empty (Err e) old new = Unit {0}

-- the form's value was read, or its fault stands before what is left, unless memory ran out
pub record Reading {s : Shape} (g : Grammar s) (old : List Lexeme) (result : Result (Val s) Fault) (new : List Lexeme) : Type 0 where
  pub is : Outcome g old result new
  pub on : Advances (nullable g) result old new

-- the same, where the result is what a function makes of the form's value
abbrev pub OutcomeAs : {s : Shape} {X : Type 0} → Grammar s → (Val s → X) → List Lexeme → Result X Fault → List Lexeme → Type 0
OutcomeAs g f old (Ok x) new = (v : Val _) × (x ≡ f v) × Parses _ g old (Some v) new
OutcomeAs g f old (Err Syntax) new = Parses _ g old None new
OutcomeAs g f old (Err Memory) new = Unit {0}

pub record ReadingAs {s : Shape} {X : Type 0} (g : Grammar s) (f : Val s → X) (old : List Lexeme) (result : Result X Fault) (new : List Lexeme) : Type 0 where
  pub is : OutcomeAs g f old result new
  pub on : Advances (nullable g) result old new

-- The turns done so far: what is read from here on completes what is read from the start.
pub record Turns {s : Shape} (g : Grammar s) (start : List Lexeme) (done : List (Val s)) (now : List Lexeme) : Type 0 where
  pub ends : (xs : List (Val s)) (w : List Lexeme) → Parses _ (Rep g) now (Some xs) w → Parses _ (Rep g) start (Some (done ++ xs)) w
  pub fails : (w : List Lexeme) → Parses _ (Rep g) now None w → Parses _ (Rep g) start None w
  pub on : length now ≤ length start

-- the same in { c g } [ c h ]
pub record TailTurns {s t : Shape} (c : Kind) (g : Grammar s) (h : Grammar t) (start : List Lexeme) (done : List (Val s)) (now : List Lexeme) : Type 0 where
  pub ends : (xs : List (Val s)) (y : Option (Val t)) (w : List Lexeme) → Parses _ (Tail c g h) now (Some (xs, y)) w → Parses _ (Tail c g h) start (Some (done ++ xs, y)) w
  pub fails : (w : List Lexeme) → Parses _ (Tail c g h) now None w → Parses _ (Tail c g h) start None w
  pub on : length now ≤ length start
