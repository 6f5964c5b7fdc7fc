-- What a search finds, and what its next question depends on.
use Rattle.std.specs.Prelude.{◌≡◌, ℕ, ◌+◌, ◌<◌, ◌↔◌, Bool, nat_eq, List, length, Option, None, option_and_then, map}
use Rattle.std.specs.List.{All, Contains, IsDistinct}
use Rattle.rs_tree.specs.declared.index.IndexItem.{IndexItem}
use Rattle.rs_reach.specs.Dead.{numbers_where}
use Rattle.rs_reach.specs.Search.{State, start, next, walk, Reached}

-- roots that differ, each with a number below that of the functions
pub record AreRoots (may : List Bool) (roots : List ℕ) : Type 0 where
  pub distinct : IsDistinct nat_eq roots
  pub below : All (λ r. r < length may) roots

-- after more steps than there are functions nothing is left to ask, but for what isn't known
abbrev pub Ends : Type 0
Ends = (may : List Bool) (ask : ℕ → Option (List ℕ)) (roots : List ℕ) → AreRoots may roots → option_and_then ask (next (walk may ask (start roots) (length may + 1))) ≡ None

-- where nothing is left to ask, those found are those reached
abbrev pub FindsReached : Type 0
FindsReached = (may : List Bool) (ask : ℕ → Option (List ℕ)) (roots : List ℕ) (n : ℕ) → next (walk may ask (start roots) n) ≡ None → (b : ℕ) → Contains (walk may ask (start roots) n).found b ↔ Reached may ask roots b

-- none is found twice
abbrev pub FindsOnce : Type 0
FindsOnce = (may : List Bool) (ask : ℕ → Option (List ℕ)) (roots : List ℕ) (n : ℕ) → AreRoots may roots → AreRoots may (walk may ask (start roots) n).found

-- where the first n questions have equal answers, the next question is the same
abbrev pub ReadsAgree : Type 0
ReadsAgree = (may : List Bool) (ask answer : ℕ → Option (List ℕ)) (s : State) (n : ℕ) → ((k : ℕ) → k < n → option_and_then ask (next (walk may ask s k)) ≡ option_and_then answer (next (walk may ask s k))) → walk may ask s n ≡ walk may answer s n

-- the items that pass have numbers that differ, each below that of the items
abbrev pub RootsDiffer : Type 0
RootsDiffer = (from may : IndexItem → Bool) (items : List IndexItem) → AreRoots (map may items) (numbers_where from 0 items)
