-- The words that are accepted, and what they ask for.
use Rattle.std.specs.Prelude.{◌≡◌, ◌≢◌, ◌⊎◌, ℕ, ◌<◌, List, [], ◌∷◌, Some, None, length, slice_index, codes}
use Rattle.inc_base.specs.Texts.{IsName}
use Rattle.inc_words.specs.declared.words.Command.{Command}
use Rattle.inc_words.specs.declared.words.Command.TheVariants.{Build, Clean}
use Rattle.inc_words.specs.declared.words.OpenPlaces.{OpenPlaces}

-- the value of an option: at least one byte, and no dash first
pub record IsValue (word : List ℕ) : Type 0 where
  pub some : 0 < length word
  pub no_dash : slice_index word 0 ≢ 45

-- `--level 0` or `--level 1`; the level is 1 where it isn't given
abbrev pub IsLevel : List (List ℕ) → ℕ → Type 0
IsLevel words level =
    (words ≡ []) × (level ≡ 1)
    ⊎ (words ≡ codes "--level" ∷ codes "0" ∷ []) × (level ≡ 0)
    ⊎ (words ≡ codes "--level" ∷ codes "1" ∷ []) × (level ≡ 1)

-- `build --crate NAME --root DIR --src FILE --image FILE`, and the level, whatever value stands for the name
pub record IsSpelled (words : List (List ℕ)) (krate root src image : List ℕ) (level : ℕ) : Type 0 where
  pub rest : List (List ℕ)
  pub spelled : words ≡ codes "build" ∷ codes "--crate" ∷ krate ∷ codes "--root" ∷ root ∷ codes "--src" ∷ src ∷ codes "--image" ∷ image ∷ rest
  pub krate_is : IsValue krate
  pub root_is : IsValue root
  pub src_is : IsValue src
  pub image_is : IsValue image
  pub level_is : IsLevel rest level

-- the same, with a crate's name
pub record IsBuild (words : List (List ℕ)) (krate root src image : List ℕ) (level : ℕ) : Type 0 where
  pub words_are : IsSpelled words krate root src image level
  pub name : IsName krate

-- `clean --src FILE --image FILE`, and the level
pub record IsClean (words : List (List ℕ)) (src image : List ℕ) (level : ℕ) : Type 0 where
  pub rest : List (List ℕ)
  pub spelled : words ≡ codes "clean" ∷ codes "--src" ∷ src ∷ codes "--image" ∷ image ∷ rest
  pub src_is : IsValue src
  pub image_is : IsValue image
  pub level_is : IsLevel rest level

-- The words ask for this command and name these places. The compiler is this one, whose version is 1.
pub record IsBuildOf (words : List (List ℕ)) (krate : List ℕ) (version level : ℕ) (places : OpenPlaces) : Type 0 where
  pub root : List ℕ
  pub src : List ℕ
  pub image : List ℕ
  pub build : IsBuild words krate root src image level
  pub version_is : version ≡ 1
  pub places_are : places ≡ record { root = Some root; src = Some src; image = Some image }

pub record IsCleanOf (words : List (List ℕ)) (version level : ℕ) (places : OpenPlaces) : Type 0 where
  pub src : List ℕ
  pub image : List ℕ
  pub clean : IsClean words src image level
  pub version_is : version ≡ 1
  pub places_are : places ≡ record { root = None; src = Some src; image = Some image }

abbrev pub Asks : List (List ℕ) → Command → OpenPlaces → Type 0
Asks words (Build krate compiler) places = IsBuildOf words krate compiler.version compiler.level places
Asks words (Clean compiler) places = IsCleanOf words compiler.version compiler.level places

-- the words ask for this command, wherever its places are
abbrev pub AsksFor : List (List ℕ) → Command → Type 0
AsksFor words command = (places : OpenPlaces) × Asks words command places

-- the words are those of some command with these places
abbrev pub NamesPlaces : List (List ℕ) → OpenPlaces → Type 0
NamesPlaces words places = (command : Command) × Asks words command places

-- they are those of none
abbrev pub AreRefused : List (List ℕ) → Type 0
AreRefused words = (command : Command) (places : OpenPlaces) → ¬ Asks words command places
