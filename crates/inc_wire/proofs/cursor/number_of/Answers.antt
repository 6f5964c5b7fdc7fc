use Rattle.std.proofs.Common.{◌≡◌, ℕ, ◌<◌, List, [], ◌∷◌, length, get_or, ap, ◌∙◌, arith}
use Rattle.std.proofs.Math.Nat.{mod-eq_of_lt}
use Rattle.std.proofs.lemmas.Nat.{be_bytes_2, be_bytes_4, be_bytes_8}
use Rattle.byteorder.specs.Endian.{big_bytes}
use Rattle.inc_wire.specs.Forms.{number_form}
use Rattle.inc_wire.proofs.cursor.number_of.Goals as goal

one_byte : (bytes : List ℕ) (v : ℕ) → length bytes ≡ 1 → get_or bytes 0 0 < 256 → v ≡ get_or bytes 0 0 → big_bytes 1 v ≡ bytes
one_byte [] v count small is = absurd (omega (arith, count))
one_byte (b ∷ []) v count small is =
    let small' : v < 256 = omega (arith, small, is) in ap (λ x. x ∷ []) (mod-eq_of_lt small' ∙ is)
one_byte (b ∷ c ∷ more) v count small is = absurd (omega (arith, count))

pub returns-in-len1-clause-form : goal.returns-in-len1-clause-form
unfolding number_form
returns-in-len1-clause-form c =
    let bytes = c.args.bytes.now in
    let count : length bytes ≡ 1 = omega (arith, c.in-len1.len_at_least, c.in-len1.len_below) in
    ap (λ n. number_form n c.from.result) count ∙ one_byte bytes c.from.result count (c.type_inv.bytes 0).fits c.from.ensures

pub returns-in-len2-clause-form : goal.returns-in-len2-clause-form
unfolding number_form
returns-in-len2-clause-form c =
    let bytes = c.args.bytes.now in
    let v = c.from-in-len2.result in
    let count : length bytes ≡ 2 = omega (arith, c.in-len2.len_at_least, c.in-len2.len_below) in
    ap (λ n. number_form n v) count ∙ be_bytes_2 bytes v count (λ i. (c.type_inv.bytes i).fits) (c.from-in-len2.ensures ∙ c.from_be_bytes.ensures)

pub returns-in-len4-clause-form : goal.returns-in-len4-clause-form
unfolding number_form
returns-in-len4-clause-form c =
    let bytes = c.args.bytes.now in
    let v = c.from-in-len4.result in
    let count : length bytes ≡ 4 = omega (arith, c.in-len4.len_at_least, c.in-len4.len_below) in
    ap (λ n. number_form n v) count ∙ be_bytes_4 bytes v count (λ i. (c.type_inv.bytes i).fits) (c.from-in-len4.ensures ∙ c.from_be_bytes-in-len4.ensures)

pub returns-in-len8-clause-form : goal.returns-in-len8-clause-form
unfolding number_form
returns-in-len8-clause-form c =
    let bytes = c.args.bytes.now in
    let v = c.from_be_bytes-in-len8.result in
    let count : length bytes ≡ 8 = omega (arith, c.in-len8.len_at_least, c.in-len8.len_below) in
    ap (λ n. number_form n v) count ∙ be_bytes_8 bytes v count (λ i. (c.type_inv.bytes i).fits) c.from_be_bytes-in-len8.ensures
