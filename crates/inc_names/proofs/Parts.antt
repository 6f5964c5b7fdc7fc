-- Texts of entries, part by part.
use Rattle.std.proofs.Common.{◌≡◌, ◌≢◌, ℕ, zero, suc, ◌+◌, ◌≤◌, ◌<◌, ◌^◌, true, false, List, [], ◌∷◌, ◌++◌, length, get_or, take, drop, refl, sym, ap, ◌∙◌, subst, arith, append_assoc, codes}
use Rattle.std.proofs.lemmas.List.{append_cancel_left, take-append-drop}
use Rattle.std.specs.List.{AllPass}
use Rattle.inc_base.specs.Base36.{is_digit36, text36, wide36, Spells36, SpellsWide36}
use Rattle.inc_base.specs.Base36Laws.{text36_spells, wide36_spells, same_text36, same_wide_text36}
use Rattle.inc_names.specs.declared.entry.Entry.{Entry}
use Rattle.inc_names.specs.declared.entry.Entry.TheVariants.{Lock, Working, Final}
use Rattle.inc_names.specs.declared.session.SessionName.{SessionName}
use Rattle.inc_names.specs.Entries.{stem_text, lock_text, working_text, final_text, entry_text, IsSessionName, IsEntry}
use Rattle.inc_names.specs.EntryLaws.{StartsNoDigit, same_front, same_number_front, stem_text-parts, same_stem}

-- pieces that are put together
pub stem_appended : (name : SessionName) (end moment random a b c d e : List ℕ) → a ≡ codes "s-" → b ≡ a ++ moment → text36 name.moment ≡ moment → c ≡ b ++ codes "-" → d ≡ c ++ random → text36 name.random ≡ random → e ≡ d ++ end → e ≡ stem_text name ++ end
unfolding stem_text
stem_appended name end moment random a b c d e is_a is_b is_moment is_c is_d is_random is_e =
    is_e
    ∙ ap (λ t. t ++ end) (is_d
    ∙ ap (λ t. t ++ random) (is_c ∙ ap (λ t. t ++ codes "-") (is_b ∙ ap (λ t. t ++ moment) is_a ∙ ap (λ t. codes "s-" ++ t) (sym is_moment)))
    ∙ ap (λ t. codes "s-" ++ text36 name.moment ++ codes "-" ++ t) (sym is_random))

pub final_appended : (name : SessionName) (hash : ℕ) (wide a b : List ℕ) → a ≡ stem_text name ++ codes "-" → b ≡ a ++ wide → wide36 hash ≡ wide → b ≡ final_text name hash
unfolding final_text
final_appended name hash wide a b is_a is_b is_wide =
    is_b ∙ ap (λ t. t ++ wide) is_a ∙ ap (λ t. stem_text name ++ codes "-" ++ t) (sym is_wide)

-- a byte that is no digit ends them
pub StartsNoDigit-drop : (text : List ℕ) (i : ℕ) → i < length text → is_digit36 (get_or text i 0) ≡ false → StartsNoDigit (drop i text)
StartsNoDigit-drop [] zero in' other = absurd (omega (arith, in'))
StartsNoDigit-drop [] (suc i) in' other = absurd (omega (arith, in'))
StartsNoDigit-drop (c ∷ text) zero in' other = other
StartsNoDigit-drop (c ∷ text) (suc i) in' other = StartsNoDigit-drop text i (omega (arith, in')) other

-- the digits at the front of a text are those of its number
pub front_is_number : (text front rest : List ℕ) (v : ℕ) → text ≡ front ++ rest → Spells36 front v → text ≡ text36 v ++ rest
front_is_number text front rest v whole spells = whole ∙ ap (λ t. t ++ rest) (same_text36 spells (text36_spells v))

-- and where these spell no number none begins the text
pub number_is_front : (text front rest : List ℕ) (v : ℕ) (more : List ℕ) → text ≡ front ++ rest → AllPass is_digit36 front → StartsNoDigit rest → StartsNoDigit more → text ≡ text36 v ++ more → Spells36 front v
number_is_front text front rest v more whole all ends more_ends same =
    let spells = text36_spells v in
    let fronts = same_front front (text36 v) rest more all spells.digits ends more_ends (sym whole ∙ same) in
    subst (λ t. Spells36 t v) (sym fronts.0) spells

-- what follows the first bytes of a text that begins with a session
pub after_s : (text r : List ℕ) (name : SessionName) (rest : List ℕ) → text ≡ codes "s-" ++ r → text ≡ stem_text name ++ rest → r ≡ text36 name.moment ++ (codes "-" ++ (text36 name.random ++ rest))
after_s text r name rest is same =
    append_cancel_left (codes "s-") r (text36 name.moment ++ (codes "-" ++ (text36 name.random ++ rest))) (sym is ∙ same ∙ stem_text-parts name rest)

-- what follows its moment
pub after_moment : (text r q : List ℕ) (v : ℕ) (name : SessionName) (rest : List ℕ) → text ≡ codes "s-" ++ r → r ≡ text36 v ++ q → StartsNoDigit q → text ≡ stem_text name ++ rest → q ≡ codes "-" ++ (text36 name.random ++ rest)
after_moment text r q v name rest is split ends same =
    (same_number_front v name.moment q (codes "-" ++ (text36 name.random ++ rest)) ends refl (sym split ∙ after_s text r name rest is same)).1

-- what follows the dash
pub after_dash : (text r q p : List ℕ) (v : ℕ) (name : SessionName) (rest : List ℕ) → text ≡ codes "s-" ++ r → r ≡ text36 v ++ q → StartsNoDigit q → q ≡ codes "-" ++ p → text ≡ stem_text name ++ rest → p ≡ text36 name.random ++ rest
after_dash text r q p v name rest is split ends dash same =
    append_cancel_left (codes "-") p (text36 name.random ++ rest) (sym dash ∙ after_moment text r q v name rest is split ends same)

-- the parts make the whole
pub stem_made : (text r q p end : List ℕ) (moment random : ℕ) → text ≡ codes "s-" ++ r → r ≡ text36 moment ++ q → q ≡ codes "-" ++ p → p ≡ text36 random ++ end → text ≡ stem_text (record { moment = moment; random = random }) ++ end
stem_made text r q p end moment random is_r is_q is_p is_end =
    let name : SessionName = record { moment = moment; random = random } in
    is_r ∙ ap (λ t. codes "s-" ++ t) (is_q ∙ ap (λ t. text36 moment ++ t) (is_p ∙ ap (λ t. codes "-" ++ t) is_end)) ∙ sym (stem_text-parts name end)

-- no session, no entry
pub no_stem : (text : List ℕ) → ((name : SessionName) (rest : List ℕ) → IsSessionName name → StartsNoDigit rest → text ≢ stem_text name ++ rest) → (e : Entry) → IsEntry e → text ≢ entry_text e
unfolding lock_text working_text final_text
no_stem text none (Lock name) is same = none name (codes ".lock") is refl same
no_stem text none (Working name) is same = none name (codes "-working") is refl same
no_stem text none (Final name hash) is same =
    none name (codes "-" ++ wide36 hash) is.0 refl (same ∙ append_assoc (stem_text name) (codes "-") (wide36 hash))

-- a session and an end of no entry
pub no_end : (text end : List ℕ) (name : SessionName) → text ≡ stem_text name ++ end → StartsNoDigit end → end ≢ codes ".lock" → end ≢ codes "-working" → ((hash : ℕ) → hash < 2 ^ 128 → end ≢ codes "-" ++ wide36 hash) → (e : Entry) → IsEntry e → text ≢ entry_text e
unfolding lock_text working_text final_text
no_end text end name whole ends no_lock no_working no_final (Lock n) is same =
    no_lock (same_stem name n end (codes ".lock") ends refl (sym whole ∙ same)).1
no_end text end name whole ends no_lock no_working no_final (Working n) is same =
    no_working (same_stem name n end (codes "-working") ends refl (sym whole ∙ same)).1
no_end text end name whole ends no_lock no_working no_final (Final n hash) is same =
    no_final hash is.1 (same_stem name n end (codes "-" ++ wide36 hash) ends refl (sym whole ∙ same ∙ append_assoc (stem_text n) (codes "-") (wide36 hash))).1
