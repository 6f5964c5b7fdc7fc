-- Known bytes that grow twice.
use Rattle.std.proofs.Common.{ℕ, List, ◌++◌, append_assoc, ap, ◌∙◌, Some, None}
use Rattle.std.specs.Prelude.{Option}
use Rattle.std.specs.Io.KnownBytes.{Appends, Keeps}

pub appends_twice : (a b c : Option (List ℕ)) (x y : List ℕ) → Appends a b x → Appends b c y → Appends a c (x ++ y)
appends_twice None b c x y p q = tt
appends_twice (Some a) None c x y p q = absurd p
appends_twice (Some a) (Some b) None x y p q = absurd q
appends_twice (Some a) (Some b) (Some c) x y p q = q ∙ ap (λ bytes. bytes ++ y) p ∙ append_assoc a x y

pub appends_kept : (a b c : Option (List ℕ)) (x : List ℕ) → Appends a b x → Keeps b c → Appends a c x
appends_kept None b c x p k = tt
appends_kept (Some a) None c x p k = absurd p
appends_kept (Some a) (Some b) None x p k = absurd k
appends_kept (Some a) (Some b) (Some c) x p k = k ∙ p
