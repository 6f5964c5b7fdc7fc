-- Words on lists that the table and its laws use.
use Rattle.std.specs.Prelude.{◌≡◌, ◌⊎◌, ℕ, zero, suc, Bool, cond, List, [], ◌∷◌}

-- x is among these
abbrev pub IsIn : {X : Type 0} → List X → X → Type 0
IsIn [] x = ⊥
IsIn (y ∷ ys) x = (y ≡ x) ⊎ IsIn ys x

-- without the entries whose keys pass. (std's takes the first alone away; where keys differ they are the same.)
abbrev pub remove_entry : {K X : Type 0} → (K → Bool) → List (K × X) → List (K × X)
remove_entry test [] = []
remove_entry test (e ∷ es) = cond (test e.0) (remove_entry test es) (e ∷ remove_entry test es)

-- the numbers below n, the greatest first
unfoldable pub below : ℕ → List ℕ
below zero = []
below (suc n) = n ∷ below n

-- no element stands twice
abbrev pub AreDistinct : {X : Type 0} → List X → Type 0
AreDistinct [] = Unit {0}
AreDistinct (x ∷ xs) = (¬ IsIn xs x) × AreDistinct xs
