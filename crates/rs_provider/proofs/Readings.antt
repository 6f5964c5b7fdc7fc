-- What values are read as.
use Rattle.std.proofs.Common.{◌≡◌, ◌==◌, ◌&&◌, ◌||◌, inl, inr, ℕ, Bool, true, false, nat_lt, List, [], ◌∷◌, Option, Some, None, Result, Ok, Err, refl, sym, ap, ◌∙◌, arith, if◌then◌else◌, IsTrue, ◌↔◌, IfOk}
use Rattle.std.specs.Option.{is_some}
use Rattle.std.proofs.lemmas.Bool.Decides.{nat_tests}
use Rattle.inc_wire.specs.Readings.{IsReadAs}
use Rattle.inc_wire.specs.Fits.{FitsList}
use Rattle.inc_wire.specs.Forms.{list_form}
use Rattle.rs_forms.specs.Fits.{FitsIndex, FitsIr, FitsSig, FitsToken}
use Rattle.rs_forms.specs.Forms.{index_form, ir_form, sig_form, token_form}
use Rattle.rs_forms.proofs.Readers.{forms_are_answered, forms_have_one_answer}
use Rattle.rs_answers.specs.Fits.{FitsConst, FitsPlaces}
use Rattle.rs_answers.specs.Forms.{const_form, places_form}
use Rattle.rs_answers.proofs.Seeks.{answers_are_answered, answers_have_one_answer}
use Rattle.rs_grammar.specs.Correct.{HasTree, IsSyntaxRefusal}
use Rattle.rs_grammar.specs.Lexed.{Ascend, AreTokens, IsBefore, IsLexed, first_or}
use Rattle.rs_grammar.specs.declared.fault.SyntaxFault.{SyntaxFault}
use Rattle.rs_grammar.specs.declared.fault.SyntaxFault.TheVariants.{Memory}
use Rattle.rs_text.specs.Text.{parsed}
use Rattle.rs_text.proofs.Whole.{parsed_only}
use Rattle.rs_tree.specs.Kinds.{kind_of}
use Rattle.rs_tree.specs.declared.answers.Const.{Const}
use Rattle.rs_tree.specs.declared.index.Index.{Index}
use Rattle.rs_tree.specs.declared.index.Sig.{Sig}
use Rattle.rs_tree.specs.declared.ir.Ir.{Ir}
use Rattle.rs_tree.specs.declared.place.At.{At}
use Rattle.rs_tree.specs.declared.place.Place.{Place}
use Rattle.rs_tree.specs.declared.token.Token.{Token}
use Rattle.rs_tree.specs.declared.tree.Crate.{Crate}
use Rattle.rs_tree.specs.declared.tree.Item.{Item}
use Rattle.rs_plans.specs.Names.{are_places, is_index}
use Rattle.rs_plans.specs.Readings.{are_lexed, const_in, has_labels, index_in, ir_in, is_before, item_by, item_in, item_of, last_place, passed, places_in, sig_in}

-- ---- Values with one reading.

pub sig_read : (bytes : List ℕ) (read : Option Sig) → IsReadAs FitsSig sig_form bytes read → read ≡ sig_in bytes
unfolding sig_in
sig_read bytes read is = forms_have_one_answer.sig bytes read (forms_are_answered.sig bytes).0 is (forms_are_answered.sig bytes).1

pub const_read : (bytes : List ℕ) (read : Option Const) → IsReadAs FitsConst const_form bytes read → read ≡ const_in bytes
unfolding const_in
const_read bytes read is = answers_have_one_answer.constant bytes read (answers_are_answered.constant bytes).0 is (answers_are_answered.constant bytes).1

pub index_read : (bytes : List ℕ) (read : Option Index) → IsReadAs FitsIndex index_form bytes read → passed is_index read ≡ index_in bytes
unfolding index_in
index_read bytes read is = ap (passed is_index) (forms_have_one_answer.index bytes read (forms_are_answered.index bytes).0 is (forms_are_answered.index bytes).1)

pub places_read : (bytes : List ℕ) (read : Option (List Place)) → IsReadAs FitsPlaces places_form bytes read → passed are_places read ≡ places_in bytes
unfolding places_in
places_read bytes read is = ap (passed are_places) (answers_have_one_answer.places bytes read (answers_are_answered.places bytes).0 is (answers_are_answered.places bytes).1)

pub ir_read : (bytes : List ℕ) (read : Option Ir) → IsReadAs FitsIr ir_form bytes read → passed has_labels read ≡ ir_in bytes
unfolding ir_in
ir_read bytes read is = ap (passed has_labels) (forms_have_one_answer.ir bytes read (forms_are_answered.ir bytes).0 is (forms_are_answered.ir bytes).1)

tokens_read : (bytes : List ℕ) (read : Option (List Token)) → IsReadAs (FitsList FitsToken) (list_form token_form) bytes read → read ≡ (forms_are_answered.tokens bytes).0
tokens_read bytes read is = forms_have_one_answer.tokens bytes read (forms_are_answered.tokens bytes).0 is (forms_are_answered.tokens bytes).1

pub no_item_read : (bytes : List ℕ) (read : Option (List Token)) → IsReadAs (FitsList FitsToken) (list_form token_form) bytes read → read ≡ None → None ≡ item_in bytes
unfolding item_in
no_item_read bytes read is none = ap (Rattle.std.specs.Prelude.option_and_then item_of) (sym none ∙ tokens_read bytes read is)

pub item_read : (bytes : List ℕ) (read : Option (List Token)) (tokens : List Token) → IsReadAs (FitsList FitsToken) (list_form token_form) bytes read → read ≡ Some tokens → item_of tokens ≡ item_in bytes
unfolding item_in
item_read bytes read tokens is some = ap (Rattle.std.specs.Prelude.option_and_then item_of) (sym some ∙ tokens_read bytes read is)

-- ---- An item's tokens.

before_true : (a b : At) → IsBefore a b → is_before a b ≡ true
before_true a b (inl l) = (let e : nat_lt a.line b.line ≡ true = grind (arith, nat_tests, l) in ap (λ x. x || (a.line == b.line && nat_lt a.column b.column)) e)
before_true a b (inr h) =
    let e : (a.line == b.line) ≡ true = grind (arith, nat_tests, h.0) in
    let f : nat_lt a.column b.column ≡ true = grind (arith, nat_tests, h.1) in
    ap (λ x. nat_lt a.line b.line || (x && nat_lt a.column b.column)) e ∙ ap (λ x. nat_lt a.line b.line || x) f ∙ or_true (nat_lt a.line b.line)
  where
    or_true : (x : Bool) → (x || true) ≡ true
    or_true true = refl
    or_true false = refl

before_is : (a b : At) → is_before a b ≡ true → IsBefore a b
before_is a b e = by (nat_lt a.line b.line) refl
  where
    by : (x : Bool) → nat_lt a.line b.line ≡ x → IsBefore a b
    by true is = inl (grind (arith, nat_tests, is))
    by false is =
        let h : (a.line == b.line && nat_lt a.column b.column) ≡ true = sym (ap (λ x. x || (a.line == b.line && nat_lt a.column b.column)) is) ∙ e in
        rest (a.line == b.line) refl h
      where
        rest : (y : Bool) → (a.line == b.line) ≡ y → (a.line == b.line && nat_lt a.column b.column) ≡ true → IsBefore a b
        rest true line h = (let f : nat_lt a.column b.column ≡ true = sym (ap (λ x. x && nat_lt a.column b.column) line) ∙ h in inr (grind (arith, nat_tests, line), grind (arith, nat_tests, f)))
        rest false line h = absurd (let f : false ≡ true = sym (ap (λ x. x && nat_lt a.column b.column) line) ∙ h in cc)

both : (a b : Bool) → a ≡ true → b ≡ true → (a && b) ≡ true
both true b e f = f
both false b e f = absurd cc

front : (a b : Bool) → (a && b) ≡ true → a ≡ true
front true b e = refl
front false b e = e

back : (a b : Bool) → (a && b) ≡ true → b ≡ true
back true b e = e
back false b e = absurd cc

lexed_true : (ts : List Token) → AreTokens ts → Ascend last_place ts → are_lexed ts ≡ true
lexed_true [] h a = refl
lexed_true (t ∷ ts) h a = both (is_some (kind_of t.text) && is_before t.at (first_or last_place ts)) (are_lexed ts) (both (is_some (kind_of t.text)) (is_before t.at (first_or last_place ts)) h.0 (before_true t.at (first_or last_place ts) a.0)) (lexed_true ts h.1 a.1)

lexed_texts : (ts : List Token) → are_lexed ts ≡ true → AreTokens ts
lexed_texts [] e = tt
lexed_texts (t ∷ ts) e = (front (is_some (kind_of t.text)) (is_before t.at (first_or last_place ts)) (front (is_some (kind_of t.text) && is_before t.at (first_or last_place ts)) (are_lexed ts) e), lexed_texts ts (back (is_some (kind_of t.text) && is_before t.at (first_or last_place ts)) (are_lexed ts) e))

lexed_places : (ts : List Token) → are_lexed ts ≡ true → Ascend last_place ts
lexed_places [] e = tt
lexed_places (t ∷ ts) e = (before_is t.at (first_or last_place ts) (back (is_some (kind_of t.text)) (is_before t.at (first_or last_place ts)) (front (is_some (kind_of t.text) && is_before t.at (first_or last_place ts)) (are_lexed ts) e)), lexed_places ts (back (is_some (kind_of t.text) && is_before t.at (first_or last_place ts)) (are_lexed ts) e))

lexed_not : (b : Bool) (ts : List Token) → are_lexed ts ≡ b → (IsLexed ts last_place → false ≡ true) → false ≡ are_lexed ts
lexed_not true ts e h = absurd (let bad : false ≡ true = h (record { texts = lexed_texts ts e; places = lexed_places ts e }) in cc)
lexed_not false ts e h = sym e

pub lexed_is : (b : Bool) (ts : List Token) → IsTrue b ↔ IsLexed ts last_place → b ≡ are_lexed ts
lexed_is true ts h = (let l = h.0 refl in sym (lexed_true ts l.texts l.places))
lexed_is false ts h = lexed_not (are_lexed ts) ts refl h.1

-- they aren't a text's
pub not_lexed : (ts : List Token) → false ≡ are_lexed ts → None ≡ item_of ts
not_lexed ts e = ap (λ b. if b then item_by (parsed ts last_place) else None) e

-- they have a tree
pub has_tree : (ts : List Token) (tree : Crate) → true ≡ are_lexed ts → HasTree ts tree → item_by (Ok tree) ≡ item_of ts
has_tree ts tree e h = ap item_by (parsed_only ts last_place (Ok tree) h) ∙ ap (λ b. if b then item_by (parsed ts last_place) else None) e

-- or a fault
pub has_fault : (ts : List Token) (fault : SyntaxFault) → true ≡ are_lexed ts → IsSyntaxRefusal ts last_place fault → (fault ≡ Memory → ⊥) → None ≡ item_of ts
has_fault ts fault e h other = ap item_by (parsed_only ts last_place (Err fault) (h, other)) ∙ ap (λ b. if b then item_by (parsed ts last_place) else None) e

-- ---- What passes.

pub passes : {X : Type 0} (test : X → Bool) (x : X) → test x ≡ true → passed test (Some x) ≡ Some x
passes test x e = ap (λ b. if b then Some x else None) e

pub refused : {X : Type 0} (test : X → Bool) (x : X) → test x ≡ false → passed test (Some x) ≡ None
refused test x e = ap (λ b. if b then Some x else None) e

-- a fault that isn't want of memory
pub told_refused : {E : Type 0} (r : Result (Option Item) E) (o : Option Item) (fault : SyntaxFault) → IfOk r (λ x. x ≡ None) → IfOk r (λ x. fault ≡ Memory → ⊥) → ((fault ≡ Memory → ⊥) → None ≡ o) → IfOk r (λ x. x ≡ o)
told_refused (Ok x) o fault none other is = none ∙ is other
told_refused (Err e) o fault none other is = tt
