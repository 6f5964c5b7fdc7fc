-- What the members of a unit are, and which function is wanted next.
use Rattle.std.specs.Prelude.{◌≡◌, ℕ, ◌<◌, ◌↔◌, ◌⊎◌, true, nat_eq, List, ◌++◌, length, map, Some, None, slice_get}
use Rattle.std.specs.List.{All, Contains, IsDistinct}
use Rattle.rs_tree.specs.declared.place.Place.{Place}
use Rattle.rs_tree.specs.declared.index.IndexItem.{IndexItem}
use Rattle.rs_lookup.specs.Places.{item_name}
use Rattle.rs_reach.specs.Search.{Reached}
use Rattle.rs_reach.specs.Places.{ask}
use Rattle.rs_reach.specs.Dead.{numbers_where}
use Rattle.rs_units.specs.Units.{is_own}
use Rattle.rs_units.specs.Members.{is_inline, search_of, member_numbers, members_of, place_numbered, wanted_of}

-- a path of calls, each of a function of kind 2, leads from one of the unit's own functions to the item with this
-- number, or it is one of them
abbrev pub IsReached : List ℕ → List IndexItem → List (Place × List Place) → ℕ → Type 0
IsReached unit items calls i = Reached (map is_inline items) (ask (map item_name items) calls) (numbers_where (is_own unit) 0 items) i

-- the calls of the item with this number are known
abbrev pub IsKnown : List IndexItem → List (Place × List Place) → ℕ → Type 0
IsKnown items calls i = (cs : List ℕ) × (ask (map item_name items) calls i ≡ Some cs)

-- the item with this number is one of the unit's own functions, or of kind 2 and reached
pub record IsMember (unit : List ℕ) (items : List IndexItem) (calls : List (Place × List Place)) (i : ℕ) : Type 0 where
  pub item : IndexItem
  pub numbered : slice_get items i ≡ Some item
  pub either : (is_own unit item ≡ true) ⊎ ((is_inline item ≡ true) × IsReached unit items calls i)

-- where nothing is wanted, the members are the places of these items
abbrev pub MembersReached : Type 0
MembersReached = (unit : List ℕ) (items : List IndexItem) (calls : List (Place × List Place)) → wanted_of unit items calls ≡ None
    → (p : Place) → Contains (members_of unit items calls) p ↔ ((i : ℕ) × IsMember unit items calls i × (place_numbered items i ≡ Some p))

-- nothing is wanted exactly where the calls of each function that is reached are known
abbrev pub NoneMissing : Type 0
NoneMissing = (unit : List ℕ) (items : List IndexItem) (calls : List (Place × List Place)) → (wanted_of unit items calls ≡ None) ↔ ((i : ℕ) → IsReached unit items calls i → IsKnown items calls i)

-- the place is that of a function which was found and whose calls are missing, and those of each found before it are known
pub record IsFirstMissing (unit : List ℕ) (items : List IndexItem) (calls : List (Place × List Place)) (p : Place) : Type 0 where
  pub at : ℕ
  pub number : ℕ
  pub found : slice_get (search_of unit items calls).found at ≡ Some number
  pub placed : place_numbered items number ≡ Some p
  pub missing : ask (map item_name items) calls number ≡ None
  pub before : (k i : ℕ) → k < at → slice_get (search_of unit items calls).found k ≡ Some i → IsKnown items calls i

-- what is wanted is that
abbrev pub WantsFirst : Type 0
WantsFirst = (unit : List ℕ) (items : List IndexItem) (calls : List (Place × List Place)) (p : Place) → wanted_of unit items calls ≡ Some p → IsFirstMissing unit items calls p

-- those found begin with the unit's own functions, in index order
abbrev pub OwnFirst : Type 0
OwnFirst = (unit : List ℕ) (items : List IndexItem) (calls : List (Place × List Place)) → (more : List ℕ) × ((search_of unit items calls).found ≡ numbers_where (is_own unit) 0 items ++ more)

-- each number is that of an item, and none is there twice
pub record AreNumbers (items : List IndexItem) (ns : List ℕ) : Type 0 where
  pub below : All (λ i. i < length items) ns
  pub once : IsDistinct nat_eq ns

-- so are the numbers of members
abbrev pub MembersOnce : Type 0
MembersOnce = (unit : List ℕ) (items : List IndexItem) (calls : List (Place × List Place)) → AreNumbers items (member_numbers unit items calls)
