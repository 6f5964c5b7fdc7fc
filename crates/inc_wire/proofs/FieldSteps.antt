-- Fields that are read one after the other.
use Rattle.std.proofs.Common.{◌≡◌, ◌≢◌, ℕ, ◌+◌, ◌^◌, ◌<◌, ◌≤◌, List, [], ◌∷◌, ◌++◌, length, take, drop, refl, sym, ap, ◌∙◌, subst, arith, append_assoc, length-append, codes}
use Rattle.std.proofs.lemmas.List.{append_cancel_left, take-append-drop, length-take, length-drop}
use Rattle.inc_base.specs.declared.job.Compiler.{Compiler}
use Rattle.inc_wire.specs.Forms.{number_form, text_form, fields_form, BeginsWithText}
use Rattle.inc_wire.specs.FormLaws.{length-number_form, same_number_front, text_form-parts, fields_form-parts}

-- bytes that are too few for a text's length begin with no text
pub no_text_length : (b : List ℕ) → length b < 4 → ¬ BeginsWithText b
no_text_length b few begins =
    let text = begins.0 in
    let rest = begins.1 in
    absurd (omega (arith, few, ap length (begins.3 ∙ text_form-parts text rest), length-append (number_form 4 (length text)) (text ++ rest), length-number_form 4 (length text)))

-- and so do bytes that are fewer than it says
pub no_text_bytes : (b r : List ℕ) (len : ℕ) → len < 2 ^ 32 → b ≡ number_form 4 len ++ r → length r < len → ¬ BeginsWithText b
no_text_bytes b r len small is few begins =
    let text = begins.0 in
    let rest = begins.1 in
    let numbers = same_number_front 4 len (length text) r (text ++ rest) small begins.2 (sym is ∙ begins.3 ∙ text_form-parts text rest) in
    absurd (omega (arith, few, numbers.0, ap length numbers.1, length-append text rest))

-- a length and as many bytes are a text
pub text_read : (b r text rest : List ℕ) (len : ℕ) → b ≡ number_form 4 len ++ r → text ≡ take len r → rest ≡ drop len r → length text ≡ len → b ≡ text_form text ++ rest
text_read b r text rest len is is_text is_rest count =
    is
    ∙ ap (λ n. number_form 4 n ++ r) (sym count)
    ∙ ap (λ t. number_form 4 (length text) ++ t) (sym (take-append-drop len r) ∙ ap (λ t. t ++ drop len r) (sym is_text) ∙ ap (λ t. text ++ t) (sym is_rest))
    ∙ sym (text_form-parts text rest)

-- pieces that are put together
pub fields_appended : (format : ℕ) (compiler : Compiler) (name a b c d e : List ℕ) → a ≡ codes "INCC" → b ≡ a ++ number_form 2 format → c ≡ b ++ number_form 4 compiler.version → d ≡ c ++ number_form 1 compiler.level → e ≡ d ++ text_form name → e ≡ fields_form format compiler name
unfolding fields_form
fields_appended format compiler name a b c d e is_a is_b is_c is_d is_e =
    is_e
    ∙ ap (λ t. t ++ text_form name) (is_d
    ∙ ap (λ t. t ++ number_form 1 compiler.level) (is_c
    ∙ ap (λ t. t ++ number_form 4 compiler.version) (is_b
    ∙ ap (λ t. t ++ number_form 2 format) is_a)))

-- what follows the format, and what follows the version
abbrev pub after_format : Compiler → List ℕ → List ℕ → List ℕ
after_format compiler name rest = number_form 4 compiler.version ++ (number_form 1 compiler.level ++ (text_form name ++ rest))

abbrev pub after_version : Compiler → List ℕ → List ℕ → List ℕ
after_version compiler name rest = number_form 1 compiler.level ++ (text_form name ++ rest)

-- bytes that are too few for a number don't begin with it
pub too_few : (width v : ℕ) (b rest : List ℕ) → b ≡ number_form width v ++ rest → length b < width → ⊥
too_few width v b rest is few =
    omega (arith, few, ap length is, length-append (number_form width v) rest, length-number_form width v)

-- a header's fields follow its first bytes
pub mark_read : (b r : List ℕ) (format : ℕ) (compiler : Compiler) (name rest : List ℕ) → b ≡ codes "INCC" ++ r → b ≡ fields_form format compiler name ++ rest → r ≡ number_form 2 format ++ after_format compiler name rest
mark_read b r format compiler name rest is same =
    append_cancel_left (codes "INCC") r (number_form 2 format ++ after_format compiler name rest) (sym is ∙ same ∙ fields_form-parts format compiler name rest)

-- what is read is what was written, and the rest follows
pub next_number : (width v w : ℕ) (b r t : List ℕ) → b ≡ number_form width v ++ r → v < 256 ^ width → b ≡ number_form width w ++ t → w < 256 ^ width → (v ≡ w) × (r ≡ t)
next_number width v w b r t is v_small same w_small = same_number_front width v w r t v_small w_small (sym is ∙ same)

-- the fields make the whole
pub fields_made : (b p q r s rest name : List ℕ) (format : ℕ) (compiler : Compiler) → b ≡ codes "INCC" ++ p → p ≡ number_form 2 format ++ q → q ≡ number_form 4 compiler.version ++ r → r ≡ number_form 1 compiler.level ++ s → s ≡ text_form name ++ rest → b ≡ fields_form format compiler name ++ rest
fields_made b p q r s rest name format compiler is_p is_q is_r is_s is_rest =
    is_p
    ∙ ap (λ t. codes "INCC" ++ t) (is_q
    ∙ ap (λ t. number_form 2 format ++ t) (is_r
    ∙ ap (λ t. number_form 4 compiler.version ++ t) (is_s
    ∙ ap (λ t. number_form 1 compiler.level ++ t) is_rest)))
    ∙ sym (fields_form-parts format compiler name rest)
