-- Locals that were read, and what is said of the others, one local on.
use Rattle.std.proofs.Common.{◌≡◌, ℕ, zero, suc, ◌+◌, ◌<◌, Bool, List, [], ◌∷◌, ◌++◌, length, drop, refl, sym, ap, ◌∙◌, arith}
use Rattle.std.specs.Prelude.{nat_eq, slice_get}
use Rattle.std.specs.List.{list_any}
use Rattle.rs_check.specs.declared.body.Checker.{Checker}
use Rattle.rs_check.specs.Bodies.{Declared}
use Rattle.rs_check.specs.Items.{unused}
use Rattle.rs_check.specs.State.{said, unread_at}
use Rattle.rs_check.proofs.Bodies.{said_twice}

-- the local with number i, and those after it
unused_at : (read : List ℕ) (n : ℕ) (ds : Declared) (i : ℕ) → i < length ds → unused n read (drop i ds) ≡ unread_at (list_any (nat_eq n) read) (slice_get ds i) ++ unused (n + 1) read (drop (i + 1) ds)
unused_at read n [] i h = absurd (omega arith)
unused_at read n (d ∷ ds) zero h = refl
unused_at read n (d ∷ ds) (suc i) h = let e : suc i + 1 ≡ suc (i + 1) = omega arith in rw e (unused_at read n ds i (omega arith))

pub unused_next : (read : List ℕ) (ds : Declared) (i : ℕ) (mark : Bool) (s s2 x : Checker) → i < length ds → mark ≡ list_any (nat_eq i) read
    → s2 ≡ said (unread_at mark (slice_get ds i)) s → said (unused i read (drop i ds)) s ≡ x → said (unused (i + 1) read (drop (i + 1) ds)) s2 ≡ x
unused_next read ds i mark s s2 x h em e2 inv =
    let rest = unused (i + 1) read (drop (i + 1) ds) in
    ap (said rest) (e2 ∙ ap (λ b. said (unread_at b (slice_get ds i)) s) em)
    ∙ sym (said_twice (unread_at (list_any (nat_eq i) read) (slice_get ds i)) rest s)
    ∙ ap (λ ds'. said ds' s) (sym (unused_at read i ds i h)) ∙ inv
