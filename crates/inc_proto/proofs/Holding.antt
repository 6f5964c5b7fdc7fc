-- What the index says of who holds a name.
use Rattle.std.specs.Prelude.{◌≡◌, ◌↔◌, ◌++◌, ℕ, length, Bool, IsTrue, IfSome, Option, Some, None, unwrap_or}
use Rattle.std.proofs.Common.{ap, sym, ◌∙◌, subst}
use Rattle.std.specs.Map.{lookup}
use Rattle.std.specs.BTreeMap.{is_at}
use Rattle.std.specs.Ordering.{nat_cmp}
use Rattle.inc_fs.specs.Paths.{Text, path_cmp}
use Rattle.inc_names.specs.declared.session.SessionName.{SessionName}
use Rattle.inc_names.specs.Entries.{lock_text}
use Rattle.inc_proto.specs.declared.holds.Way.{Way}
use Rattle.inc_proto.specs.declared.index.Index.{Index}
use Rattle.inc_proto.specs.Events.{Steps}
use Rattle.inc_proto.specs.Indexes.{from_of, kept_hold, handles_of, HeldAt, HeldBy, IsSince, IsAnyHeld, Tells, Indexes}
use Rattle.inc_proto.specs.Sought.{IsOnBy, Holds, held}
use Rattle.inc_proto.proofs.Given.{on_given}

-- what was surely said since this place
abbrev pub Surely : (Steps → Type 0) → Steps → Option ℕ → Type 0
Surely Says steps at = (after before : Steps) → steps ≡ after ++ before → IsSince at (length before) → Says after

-- who has held the name since then holds it, and says this since,
pub held_says : (Says : Steps → Type 0) (steps : Steps) (at : Option ℕ) (since : Option Steps) (from : Option ℕ) → Surely Says steps at → HeldAt since steps from
    → HeldBy from at → (after : Steps) × (since ≡ Some after) × Says after
held_says Says steps at since None told was by = absurd by
held_says Says steps at since (Some from) told w by = (w.0, w.2, told w.0 w.1 w.3 (subst (IsSince at) (sym w.4) by))

-- and the other way round
pub says_held : (Says : Steps → Type 0) (steps : Steps) (at : Option ℕ) (since : Option Steps) (from : Option ℕ) (after : Steps) → Tells Says steps at → HeldAt since steps from
    → since ≡ Some after → Says after → HeldBy from at
says_held Says steps at since None after told was is says = absurd (none_some (sym was ∙ is))
  where
    none_some : {x : Steps} → None ≡ Some x → ⊥
    none_some e = cc
says_held Says steps at since (Some from) after told w is says =
    let same : after ≡ w.0 = ap (λ o. unwrap_or o after) (sym is ∙ w.2) in
    subst (IsSince at) w.4 ((told w.0 w.1 w.3).0 (subst Says same says))

pub any_surely : (index : Index) (steps : Steps) (Says : Steps → Type 0) (krate : Text) (n : SessionName) (way : Way) (at : Option ℕ) → Indexes steps index → Surely Says steps at
    → IsAnyHeld way (krate, lock_text n) at index.holds (handles_of (lookup (is_at (path_cmp (krate, lock_text n))) index.given))
    → (h : ℕ) × (after : Steps) × Holds way krate n steps h after × Says after
any_surely index steps Says krate n way at is told w =
    let was = is.holds w.0 in
    let hold = kept_hold (lookup (is_at (nat_cmp w.0)) index.holds) in
    let on = subst (IsOnBy way krate (lock_text n)) was.opened w.2.0 in
    let says = held_says Says steps at (held way w.0 steps) (from_of way hold) told (was.held_at way) w.2.1 in
    (w.0, says.0, (on, says.1), says.2)

pub any_holds : (index : Index) (steps : Steps) (Says : Steps → Type 0) (krate : Text) (n : SessionName) (way : Way) (at : Option ℕ) → Indexes steps index → Tells Says steps at
    → IsAnyHeld way (krate, lock_text n) at index.holds (handles_of (lookup (is_at (path_cmp (krate, lock_text n))) index.given))
    ↔ ((h : ℕ) × (after : Steps) × Holds way krate n steps h after × Says after)
any_holds index steps Says krate n way at is told = (any_surely index steps Says krate n way at is (λ after before split. (told after before split).1), back)
  where
    back : ((h : ℕ) × (after : Steps) × Holds way krate n steps h after × Says after)
        → IsAnyHeld way (krate, lock_text n) at index.holds (handles_of (lookup (is_at (path_cmp (krate, lock_text n))) index.given))
    back w =
        let was = is.holds w.0 in
        let hold = kept_hold (lookup (is_at (nat_cmp w.0)) index.holds) in
        let on = subst (IsOnBy way krate (lock_text n)) (sym was.opened) w.2.0 in
        let by = says_held Says steps at (held way w.0 steps) (from_of way hold) w.1 told (was.held_at way) w.2.1 w.3 in
        (w.0, is.given (krate, lock_text n) w.0 (on_given way krate (lock_text n) w.0 steps w.2.0), (on, by))

-- what the index tells
pub some_told : (found : Option Bool) (b : Bool) (X : Type 0) → found ≡ Some b → IfSome found (λ b. IsTrue b ↔ X) → IsTrue b ↔ X
some_told found b X is f = subst (λ found. IfSome found (λ b. IsTrue b ↔ X)) is f
