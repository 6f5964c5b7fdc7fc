-- A table that is gone through row by row.
use Rattle.std.proofs.Common.{◌≡◌, ℕ, ◌<◌, ◌+◌, true, false, cond, List, map, length, get_or, drop, Some, refl, sym, ap, ◌∙◌, add-one, nat_eq, Bor}
use Rattle.std.specs.Prelude.{Option}
use Rattle.std.specs.Cmp.Lexicographic.{pointwise}
use Rattle.std.proofs.Math.Seq.{drop-cons}
use Rattle.rs_tree.specs.Kinds.{kind_in}
use Rattle.rs_tree.specs.declared.kind.Kind.{Kind}

abbrev pub read_rows : List (Bor (List ℕ) × Kind) → List (List ℕ × Kind)
read_rows rows = map (λ r. (r.0.now, r.1)) rows

row_at : (rows : List (Bor (List ℕ) × Kind)) (i : ℕ) (d : Bor (List ℕ) × Kind) (text : List ℕ) → i < length rows →
    kind_in (read_rows (drop i rows)) text ≡ cond (pointwise nat_eq text (get_or rows i d).0.now) (Some (get_or rows i d).1) (kind_in (read_rows (drop (i + 1) rows)) text)
row_at rows i d text h = rw (add-one, drop-cons rows i d h) refl

pub found_at : (rows : List (Bor (List ℕ) × Kind)) (i : ℕ) (d : Bor (List ℕ) × Kind) (text : List ℕ) (v : Option Kind) → i < length rows →
    kind_in (read_rows (drop i rows)) text ≡ v → pointwise nat_eq text (get_or rows i d).0.now ≡ true → Some (get_or rows i d).1 ≡ v
found_at rows i d text v h is same = sym (row_at rows i d text h ∙ ap (λ b. cond b (Some (get_or rows i d).1) (kind_in (read_rows (drop (i + 1) rows)) text)) same) ∙ is

pub next_at : (rows : List (Bor (List ℕ) × Kind)) (i : ℕ) (d : Bor (List ℕ) × Kind) (text : List ℕ) (v : Option Kind) → i < length rows →
    kind_in (read_rows (drop i rows)) text ≡ v → pointwise nat_eq text (get_or rows i d).0.now ≡ false → kind_in (read_rows (drop (i + 1) rows)) text ≡ v
next_at rows i d text v h is other = sym (row_at rows i d text h ∙ ap (λ b. cond b (Some (get_or rows i d).1) (kind_in (read_rows (drop (i + 1) rows)) text)) other) ∙ is
