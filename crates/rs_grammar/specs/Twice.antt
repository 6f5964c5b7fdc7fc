-- Names that are defined twice (docs/LANGUAGE.md, "Faults").
use Rattle.std.specs.Prelude.{◌≡◌, ℕ, List, ◌∷◌, ◌++◌, map, Option}
use Rattle.std.specs.List.{Contains}
use Rattle.rs_tree.specs.declared.place.At.{At}
use Rattle.rs_grammar.specs.declared.named.Named.{Named}

-- Two names clash where both are modules' names, or both are names of items of one module, and are the same.
abbrev pub key : Named → Option (List ℕ) × List ℕ
key d = (d.«module», d.name)

-- an earlier one clashes with it
abbrev pub IsTwice : List Named → Named → Type 0
IsTwice before d = Contains (map key before) (key d)

-- no name has an earlier one that clashes
abbrev pub AllOnce : List Named → Type 0
AllOnce ds = (before : List Named) (d : Named) (rest : List Named) → ds ≡ before ++ d ∷ rest → IsTwice before d → ⊥

-- the first that has one
pub record IsFirstTwice (ds : List Named) (d : Named) : Type 0 where
  pub before : List Named
  pub rest : List Named
  pub parts : ds ≡ before ++ d ∷ rest
  pub twice : IsTwice before d
  pub once : AllOnce before

-- the place and the text of the first that has one
pub record IsTwiceAt (ds : List Named) (at : At) (name : List ℕ) : Type 0 where
  pub named : Named
  pub first : IsFirstTwice ds named
  pub place : at ≡ named.at
  pub text : name ≡ named.name
