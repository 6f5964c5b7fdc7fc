-- Fields are seen from the bytes that they begin.
use Rattle.std.proofs.Common.{◌≡◌, ◌≢◌, ℕ, zero, suc, ◌+◌, ◌*◌, ◌%◌, ◌^◌, ◌<◌, ◌≤◌, List, [], ◌∷◌, ◌++◌, length, take, drop, refl, sym, ap, ◌∙◌, subst, arith, lit<, append_assoc, length-append, codes}
use Rattle.std.proofs.lemmas.List.{append_cancel_left}
use Rattle.std.proofs.Math.Bridge.{le_prop}
use Rattle.std.proofs.Math.Nat.{mod-eq_of_lt}
use Rattle.byteorder.specs.Endian.{big_from}
use Rattle.byteorder.specs.Numbers.{big_from-bytes, length-bytes_high_first}
use Rattle.inc_base.specs.declared.job.Compiler.{Compiler}
use Rattle.inc_base.specs.Texts.{IsName}
use Rattle.inc_wire.specs.declared.header.Header.{Header}
use Rattle.inc_wire.specs.Forms.{number_form, text_form, fields_form, header_form, IsHeader}

pub length-number_form : (width v : ℕ) → length (number_form width v) ≡ width
unfolding number_form
length-number_form width v = length-bytes_high_first width v

-- fronts of one length
pub same_split : (t u r s : List ℕ) → length t ≡ length u → t ++ r ≡ u ++ s → (t ≡ u) × (r ≡ s)
same_split [] [] r s len same = (refl, same)
same_split [] (d ∷ u) r s len same = absurd (omega (arith, len))
same_split (c ∷ t) [] r s len same = absurd (omega (arith, len))
same_split (c ∷ t) (d ∷ u) r s len same =
    let first : c ≡ d = cc in
    let below = same_split t u r s (omega (arith, len)) cc in
    (ap (λ x. x ∷ t) first ∙ ap (λ x. d ∷ x) below.0, below.1)

number_back : (width v : ℕ) (rest : List ℕ) → v < 256 ^ width → big_from 0 width (number_form width v ++ rest) ≡ v
unfolding number_form
number_back width v rest small = big_from-bytes width v rest ∙ mod-eq_of_lt small

-- a number and what follows it
pub same_number_front : (width v w : ℕ) (r s : List ℕ) → v < 256 ^ width → w < 256 ^ width → number_form width v ++ r ≡ number_form width w ++ s → (v ≡ w) × (r ≡ s)
same_number_front width v w r s v_small w_small same =
    let split = same_split (number_form width v) (number_form width w) r s (length-number_form width v ∙ sym (length-number_form width w)) same in
    (sym (number_back width v r v_small) ∙ ap (big_from 0 width) same ∙ number_back width w s w_small, split.1)

pub text_form-parts : (text rest : List ℕ) → text_form text ++ rest ≡ number_form 4 (length text) ++ (text ++ rest)
unfolding text_form
text_form-parts text rest = append_assoc (number_form 4 (length text)) text rest

-- a text and what follows it
pub same_text_front : (t u r s : List ℕ) → length t < 2 ^ 32 → length u < 2 ^ 32 → text_form t ++ r ≡ text_form u ++ s → (t ≡ u) × (r ≡ s)
same_text_front t u r s t_small u_small same =
    let numbers = same_number_front 4 (length t) (length u) (t ++ r) (u ++ s) t_small u_small (sym (text_form-parts t r) ∙ same ∙ text_form-parts u s) in
    same_split t u r s numbers.0 numbers.1

-- the fields of a header, one after the other
pub fields_form-parts : (format : ℕ) (compiler : Compiler) (name rest : List ℕ) → fields_form format compiler name ++ rest ≡ codes "INCC" ++ (number_form 2 format ++ (number_form 4 compiler.version ++ (number_form 1 compiler.level ++ (text_form name ++ rest))))
unfolding fields_form
fields_form-parts format compiler name rest = simp append_assoc

abbrev make : (version level : ℕ) → level < 2 → Compiler
make version level level_is = record { version = version; level = level; level_is = level_is }

-- the level of a compiler is 0 or 1 in one way only
same_level : (version m n : ℕ) (p : m < 2) (q : n < 2) → m ≡ n → make version m p ≡ make version n q
same_level version m n p q same =
    let P : ℕ → Type 0 = λ k. (r : k < 2) → make version m p ≡ make version k r in
    subst P same (λ r. ap (make version m) (le_prop p r)) q

same_compiler : (c d : Compiler) → c.version ≡ d.version → c.level ≡ d.level → c ≡ d
same_compiler c d versions levels =
    same_level c.version c.level d.level c.level_is d.level_is levels ∙ ap (λ v. make v d.level d.level_is) versions

-- the fields of a header are seen from the bytes
pub same_fields_front : (f g : ℕ) (c d : Compiler) (m n r s : List ℕ) → f < 2 ^ 16 → g < 2 ^ 16 → c.version < 2 ^ 32 → d.version < 2 ^ 32 → length m < 2 ^ 32 → length n < 2 ^ 32 → fields_form f c m ++ r ≡ fields_form g d n ++ s → (f ≡ g) × (c ≡ d) × (m ≡ n) × (r ≡ s)
same_fields_front f g c d m n r s f_small g_small c_small d_small m_small n_small same =
    let whole = sym (fields_form-parts f c m r) ∙ same ∙ fields_form-parts g d n s in
    let formats = same_number_front 2 f g (number_form 4 c.version ++ (number_form 1 c.level ++ (text_form m ++ r))) (number_form 4 d.version ++ (number_form 1 d.level ++ (text_form n ++ s))) f_small g_small (append_cancel_left (codes "INCC") (number_form 2 f ++ (number_form 4 c.version ++ (number_form 1 c.level ++ (text_form m ++ r)))) (number_form 2 g ++ (number_form 4 d.version ++ (number_form 1 d.level ++ (text_form n ++ s)))) whole) in
    let versions = same_number_front 4 c.version d.version (number_form 1 c.level ++ (text_form m ++ r)) (number_form 1 d.level ++ (text_form n ++ s)) c_small d_small formats.1 in
    let levels = same_number_front 1 c.level d.level (text_form m ++ r) (text_form n ++ s) (omega (arith, c.level_is)) (omega (arith, d.level_is)) versions.1 in
    let names = same_text_front m n r s m_small n_small levels.1 in
    (formats.0, same_compiler c d versions.0 levels.0, names.0, names.1)

-- a header and what follows it: so no header's bytes begin another's
pub same_header_front : (h k : Header) (r s : List ℕ) → IsHeader h → IsHeader k → header_form h ++ r ≡ header_form k ++ s → (h ≡ k) × (r ≡ s)
same_header_front h k r s p q same =
    let h_small : length h.krate < 2 ^ 32 = omega (arith, p.krate.few) in
    let k_small : length k.krate < 2 ^ 32 = omega (arith, q.krate.few) in
    let parts = same_fields_front h.format k.format h.compiler k.compiler h.krate k.krate r s p.format q.format p.version q.version h_small k_small same in
    let formats = parts.0 in
    let compilers = parts.1 in
    let krates = parts.2 in
    (ap (λ f. record h { format = f }) formats ∙ ap (λ c. record { format = k.format; compiler = c; krate = h.krate }) compilers ∙ ap (λ n. record k { krate = n }) krates, parts.3)
