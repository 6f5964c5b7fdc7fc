-- How the first damaged file is found.
use Rattle.std.specs.Prelude.{◌≡◌, ◌+◌, ◌<◌, ℕ, List, [], ◌∷◌, Option, Some, None, length}
use Rattle.std.specs.List.{AllByRecursion}
use Rattle.std.specs.Map.{keys_of}
use Rattle.std.specs.declared.cmp.Ordering.TheVariants.{Less}
use Rattle.inc_products.specs.declared.part.Part.{Part}
use Rattle.inc_products.specs.declared.walk.Step.{Step}
use Rattle.inc_products.specs.declared.walk.Step.TheVariants as s
use Rattle.inc_products.specs.Named.{AreOrdered, name_cmp}
use Rattle.inc_products.specs.Plans.{File}
use Rattle.inc_products.specs.Starts.{IsFirstDamaged}

-- the files are those demanded, in the order of both, and each is well
abbrev pub AreWell : (Part → List ℕ → Type 0) → List (List ℕ × Part) → List File → Type 0
AreWell Well [] [] = Unit {0}
AreWell Well [] (f ∷ fs) = ⊥
AreWell Well (p ∷ ps) [] = ⊥
AreWell Well (p ∷ ps) (f ∷ fs) = (p.0 ≡ f.0) × (Well p.1 f.1 × AreWell Well ps fs)

-- names that are all behind one
abbrev pub Behind : List ℕ → List (List ℕ) → Type 0
Behind name names = AllByRecursion (λ y. name_cmp name y ≡ Less) names

-- the first damaged name, which is behind each name that all are behind
pub record IsFound (Well : Part → List ℕ → Type 0) (parts : List (List ℕ × Part)) (files : List File) (name : List ℕ) : Type 0 where
  pub damaged : IsFirstDamaged Well parts files name
  pub behind : (q : List ℕ) → Behind q (keys_of parts) → Behind q (keys_of files) → name_cmp q name ≡ Less

-- what is found of parts and files: the first damaged name, or that all are well
abbrev pub IsAnswer : (Part → List ℕ → Type 0) → List (List ℕ × Part) → List File → Option (List ℕ) → Type 0
IsAnswer Well parts files None = AreWell Well parts files
IsAnswer Well parts files (Some name) = IsFound Well parts files name

-- what follows the first of both, which are well: what is found of it is found of all
pub record LeadsOn (Well : Part → List ℕ → Type 0) (parts : List (List ℕ × Part)) (files : List File) (more : List (List ℕ × Part)) (others : List File) : Type 0 where
  pub answer : (o : Option (List ℕ)) → IsAnswer Well more others o → IsAnswer Well parts files o
  pub parts_ordered : AreOrdered more
  pub files_ordered : AreOrdered others
  pub less : 0 < length parts + length files → length more + length others < length parts + length files

abbrev pub IsStep : (Part → List ℕ → Type 0) → List (List ℕ × Part) → List File → Step → Type 0
IsStep Well parts files (s.Damaged name) = IsFound Well parts files name
IsStep Well parts files (s.Rest more others) = LeadsOn Well parts files more.now others.now
