-- Places in an item, and in its text.
use Rattle.std.proofs.Common.{◌≡◌, ℕ, ◌+◌, ◌-◌, ◌<◌, ◌≤◌, ◌==◌, if◌then◌else◌, inl, inr, ap, arith}
use Rattle.std.proofs.lemmas.Bool.Decides.{nat_tests}
use Rattle.rs_tree.specs.declared.place.At.{At}
use Rattle.rs_grammar.specs.Lexeme.{relative}
use Rattle.rs_grammar.specs.Lexed.{IsBefore, IsNotAfter, absolute, PlacesTurn}

at_same : {a b : At} → a.line ≡ b.line → a.column ≡ b.column → a ≡ b
at_same l c = λ i. record { line = l i; column = c i }

-- The columns, of a base at line l and column c.
seen_column : (l c m d : ℕ) → (if l + m == l then (if m == 0 then c + d else d) - c else (if m == 0 then c + d else d)) ≡ d
seen_column l c m d = grind (arith, nat_tests)

back_column : (l c m d : ℕ) → l ≤ m → (l ≡ m → c ≤ d) → (if m - l == 0 then c + (if m == l then d - c else d) else (if m == l then d - c else d)) ≡ d
back_column l c m d h k = grind (arith, nat_tests)

relative_column : (l c m d n e : ℕ) → (l ≡ m → c ≤ d) → m ≡ n → d < e → (if m == l then d - c else d) < (if n == l then e - c else e)
relative_column l c m d n e k h less = grind (arith, nat_tests)

absolute_column : (c m d n e : ℕ) → m ≡ n → d < e → (if m == 0 then c + d else d) < (if n == 0 then c + e else e)
absolute_column c m d n e h less = grind (arith, nat_tests)

line_not_after : (a b : At) → IsNotAfter a b → a.line ≤ b.line
line_not_after a b (inl e) = omega (arith, ap (λ (x : At). x.line) e)
line_not_after a b (inr (inl less)) = omega (arith, less)
line_not_after a b (inr (inr same)) = omega (arith, same.0)

column_not_after : (a b : At) → IsNotAfter a b → a.line ≡ b.line → a.column ≤ b.column
column_not_after a b (inl e) h = omega (arith, ap (λ (x : At). x.column) e)
column_not_after a b (inr (inl less)) h = absurd (omega (arith, less, h))
column_not_after a b (inr (inr same)) h = omega (arith, same.1)

seen : (base at : At) → relative base (absolute base at) ≡ at
seen base at = at_same (omega arith) (seen_column base.line base.column at.line at.column)

back : (base at : At) → IsNotAfter base at → absolute base (relative base at) ≡ at
back base at h = at_same (omega (arith, line_not_after base at h)) (back_column base.line base.column at.line at.column (line_not_after base at h) (column_not_after base at h))

order : (base a b : At) → IsNotAfter base a → IsNotAfter base b → IsBefore a b → IsBefore (relative base a) (relative base b)
order base a b h k (inl less) = inl (omega (arith, less, line_not_after base a h, line_not_after base b k))
order base a b h k (inr same) = inr (omega (arith, same.0), relative_column base.line base.column a.line a.column b.line b.column (column_not_after base a h) same.0 same.1)

text_order : (base a b : At) → IsBefore a b → IsBefore (absolute base a) (absolute base b)
text_order base a b (inl less) = inl (omega (arith, less))
text_order base a b (inr same) = inr (omega (arith, same.0), absolute_column base.column a.line a.column b.line b.column same.0 same.1)

pub places_turn : PlacesTurn
places_turn = record { seen = seen; back = back; order = order; text_order = text_order }
