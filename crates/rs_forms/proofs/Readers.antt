-- The readings of this crate's forms, each of which has an answer.
use Rattle.std.proofs.Common.{◌≡◌, ◌⊎◌, ℕ, ℤ, ◌^◌, ◌<◌, Bool, true, false, List, [], ◌∷◌, ◌++◌, inl, inr, refl, sym, ap, arith, append-nil}
use Rattle.std.specs.Prelude.{FitsSigned}
use Rattle.std.specs.Int.{cast_signed, cast_unsigned, w64}
use Rattle.std.proofs.Math.Facts.{Fits-lt-pow, Fits-of_lt, Fits-of_z, of_z-to_z, sfits_to_z}
use Rattle.inc_wire.specs.Fits.{Always, Each, FitsList}
use Rattle.inc_wire.specs.Forms.{flag_form, flag_of, list_form, number_form}
use Rattle.inc_wire.specs.Fronts.{HasFronts, flag_fronts, list_fronts, number_fronts, text_fronts}
use Rattle.rs_tree.specs.declared.place.Place.{Place}
use Rattle.rs_tree.specs.declared.token.Token.{Token}
use Rattle.rs_tree.specs.declared.tree.Typ.{Typ}
use Rattle.rs_tree.specs.declared.tree.Typ.TheVariants as t
use Rattle.rs_tree.specs.declared.index.Index.{Index}
use Rattle.rs_tree.specs.declared.index.IndexFault.{IndexFault}
use Rattle.rs_tree.specs.declared.index.IndexItem.{IndexItem}
use Rattle.rs_tree.specs.declared.index.Sig.{Sig}
use Rattle.rs_tree.specs.declared.index.TextFault.{TextFault}
use Rattle.rs_tree.specs.declared.index.TextFault.TheVariants as f
use Rattle.rs_tree.specs.declared.ir.Ir.{Ir}
use Rattle.rs_tree.specs.declared.ir.Instr.{Instr}
use Rattle.rs_tree.specs.declared.ir.Instr.TheVariants as i
use Rattle.rs_forms.specs.Fits.{FitsFault, FitsIndex, FitsIndexItem, FitsInstr, FitsIr, FitsPlace, FitsSig, FitsToken, IsJumpCode, IsPlainCode}
use Rattle.rs_forms.specs.Forms.{fault_code, fault_code_form, fault_form, index_form, index_item_form, instr_form, ir_form, place_form, sig_form, token_form, typ_code, typ_form}
use Rattle.rs_forms.specs.Answered.{FormsAreAnswered, FormsHaveOneAnswer}
use Rattle.rs_forms.proofs.Fronts.{code_fronts, fault_small, index_fronts, index_item_fronts, sig_fronts, token_fronts, typ_fronts, typ_small, whole_fault_fronts}
use Rattle.rs_forms.proofs.Instrs.{instr_fronts, ir_fronts, jump_small, plain_small}
use Rattle.rs_forms.proofs.Sought.{Seeks, Sought, among, le_decided, list_seeks, made_seeks, marked_seeks, named_seeks, narrow_seeks, number_is, number_seeks, pair_seeks, read_of, read_one, text_seeks}

flag_small : (b : Bool) → flag_of b < 256 ^ 1
flag_small true = omega arith
flag_small false = omega arith

flag_seeks : Seeks (Always {X = Bool}) flag_form
flag_seeks = named_seeks flag_of flag_small (λ c. elim (among flag_of c (false ∷ true ∷ [])) [ inl x ↦ inl x | inr none ↦ inr (missing c none) ])
  where
    missing : (c : ℕ) → Each (λ x. flag_of x ≡ c → ⊥) (false ∷ true ∷ []) → (x : Bool) → flag_of x ≡ c → ⊥
    missing c none false = none.0
    missing c none true = none.1.0

typ_seeks : Seeks (Always {X = Typ}) typ_form
typ_seeks = named_seeks typ_code typ_small (λ c. elim (among typ_code c (t.Unit ∷ t.Int ∷ t.Bool ∷ [])) [ inl x ↦ inl x | inr none ↦ inr (missing c none) ])
  where
    missing : (c : ℕ) → Each (λ x. typ_code x ≡ c → ⊥) (t.Unit ∷ t.Int ∷ t.Bool ∷ []) → (x : Typ) → typ_code x ≡ c → ⊥
    missing c none t.Unit = none.0
    missing c none t.Int = none.1.0
    missing c none t.Bool = none.1.1.0

code_seeks : Seeks (Always {X = TextFault}) fault_code_form
code_seeks = named_seeks fault_code fault_small (λ c. elim (among fault_code c (f.Byte ∷ f.Nesting ∷ f.Syntax ∷ f.Twice ∷ [])) [ inl x ↦ inl x | inr none ↦ inr (missing c none) ])
  where
    missing : (c : ℕ) → Each (λ x. fault_code x ≡ c → ⊥) (f.Byte ∷ f.Nesting ∷ f.Syntax ∷ f.Twice ∷ []) → (x : TextFault) → fault_code x ≡ c → ⊥
    missing c none f.Byte = none.0
    missing c none f.Nesting = none.1.0
    missing c none f.Syntax = none.1.1.0
    missing c none f.Twice = none.1.1.1.0

token_seeks : Seeks FitsToken token_form
token_seeks = made_seeks
    (λ (p : ℕ × (ℕ × List ℕ)). record { at = record { line = p.0; column = p.1.0 }; text = p.1.1 }) (λ (x : Token). (x.at.line, (x.at.column, x.text)))
    (λ p fits. record { line = fits.0; column = fits.1.0; text = fits.1.1 }) (λ x fits. (fits.line, (fits.column, fits.text))) (λ p fits. refl) (λ x. refl)
    (pair_seeks (number_fronts 4) (number_seeks 4) (pair_seeks (number_fronts 4) (number_seeks 4) text_seeks))

place_seeks : Seeks FitsPlace place_form
place_seeks = made_seeks
    (λ (p : List ℕ × List ℕ). record { «module» = p.0; name = p.1 }) (λ (x : Place). (x.module, x.name))
    (λ p fits. record { «module» = fits.0; name = fits.1 }) (λ x fits. (fits.module, fits.name)) (λ p fits. refl) (λ x. refl)
    (pair_seeks text_fronts text_seeks text_seeks)

index_item_seeks : Seeks FitsIndexItem index_item_form
index_item_seeks = made_seeks
    (λ (p : List ℕ × (List ℕ × (ℕ × Bool))). record { «module» = p.0; name = p.1.0; kind = p.1.1.0; public = p.1.1.1 }) (λ (x : IndexItem). (x.module, (x.name, (x.kind, x.public))))
    (λ p fits. record { «module» = fits.0; name = fits.1.0; kind = fits.1.1.0 }) (λ x fits. (fits.module, (fits.name, (fits.kind, tt)))) (λ p fits. refl) (λ x. refl)
    (pair_seeks text_fronts text_seeks (pair_seeks text_fronts text_seeks (pair_seeks (number_fronts 1) (number_seeks 1) flag_seeks)))

index_seeks : Seeks FitsIndex index_form
index_seeks = made_seeks
    (λ (p : List (List ℕ) × List IndexItem). record { modules = p.0; items = p.1 }) (λ (x : Index). (x.modules, x.items))
    (λ p fits. record { modules = fits.0; items = fits.1 }) (λ x fits. (fits.modules, fits.items)) (λ p fits. refl) (λ x. refl)
    (marked_seeks 1 (omega arith) (pair_seeks (list_fronts text_fronts) (list_seeks text_fronts text_seeks) (list_seeks index_item_fronts index_item_seeks)))

fault_seeks : Seeks FitsFault fault_form
fault_seeks = made_seeks
    (λ (p : ℕ × (ℕ × (TextFault × List ℕ))). record { at = record { line = p.0; column = p.1.0 }; code = p.1.1.0; name = p.1.1.1 }) (λ (x : IndexFault). (x.at.line, (x.at.column, (x.code, x.name))))
    (λ p fits. record { line = fits.0; column = fits.1.0; name = fits.1.1.1 }) (λ x fits. (fits.line, (fits.column, (tt, fits.name)))) (λ p fits. refl) (λ x. refl)
    (marked_seeks 0 (omega arith) (pair_seeks (number_fronts 4) (number_seeks 4) (pair_seeks (number_fronts 4) (number_seeks 4) (pair_seeks code_fronts code_seeks text_seeks))))

sig_seeks : Seeks FitsSig sig_form
sig_seeks = made_seeks
    (λ (p : ℕ × (Bool × (List Typ × Typ))). record { kind = p.0; public = p.1.0; params = p.1.1.0; gives = p.1.1.1 }) (λ (x : Sig). (x.kind, (x.public, (x.params, x.gives))))
    (λ p fits. record { kind = fits.0; params = fits.1.1.0 }) (λ x fits. (fits.kind, (tt, (fits.params, tt)))) (λ p fits. refl) (λ x. refl)
    (pair_seeks (number_fronts 1) (number_seeks 1) (pair_seeks flag_fronts flag_seeks (pair_seeks (list_fronts typ_fronts) (list_seeks typ_fronts typ_seeks) typ_seeks)))

-- instructions, kind by kind

int_small : (z : ℤ) → FitsSigned w64 z → cast_unsigned w64 z < 256 ^ 8
int_small z fits = let below : cast_unsigned w64 z < 2 ^ 64 = Fits-lt-pow {w = w64} (Fits-of_z fits) in omega (arith, below)

int_fits : (v : ℕ) → v < 256 ^ 8 → FitsSigned w64 (cast_signed w64 v)
int_fits v small = let below : v < 2 ^ 64 = omega (arith, small) in sfits_to_z {w = w64} (Fits-of_lt {w = w64} below)

int_back : (v : ℕ) → v < 256 ^ 8 → number_form 8 v ≡ number_form 8 (cast_unsigned w64 (cast_signed w64 v))
int_back v small = let below : v < 2 ^ 64 = omega (arith, small) in ap (number_form 8) (sym (of_z-to_z {w = w64} (Fits-of_lt {w = w64} below)))

push_seeks : Seeks (FitsSigned w64) (λ z. number_form 1 1 ++ number_form 8 (cast_unsigned w64 z))
push_seeks = marked_seeks 1 (omega arith) (made_seeks (cast_signed w64) (cast_unsigned w64) int_fits int_small int_back (λ z. refl) (number_seeks 8))

slot_seeks : (mark : ℕ) → mark < 256 ^ 1 → Seeks (λ v. v < 256 ^ 2) (λ v. number_form 1 mark ++ number_form 2 v)
slot_seeks mark small = marked_seeks mark small (number_seeks 2)

call_seeks : Seeks {X = Bool × Place} (λ p. Always p.0 × FitsPlace p.1) (λ p. number_form 1 48 ++ (flag_form p.0 ++ place_form p.1))
call_seeks = marked_seeks 48 (omega arith) (pair_seeks flag_fronts flag_seeks place_seeks)

or_decided : {A B : Type 0} → A ⊎ (A → ⊥) → B ⊎ (B → ⊥) → (A ⊎ B) ⊎ (A ⊎ B → ⊥)
or_decided (inl a) b = inl (inl a)
or_decided (inr not_a) (inl b) = inl (inr b)
or_decided (inr not_a) (inr not_b) = inr (λ either. elim either [ inl a ↦ not_a a | inr b ↦ not_b b ])

both_decided : {A B : Type 0} → A ⊎ (A → ⊥) → B ⊎ (B → ⊥) → (A × B) ⊎ (A × B → ⊥)
both_decided (inl a) (inl b) = inl (a, b)
both_decided (inl a) (inr not_b) = inr (λ p. not_b p.1)
both_decided (inr not_a) b = inr (λ p. not_a p.0)

plain_decided : (c : ℕ) → IsPlainCode c ⊎ (IsPlainCode c → ⊥)
plain_decided c = or_decided (number_is 4 c) (or_decided (both_decided (le_decided 16 c) (le_decided c 28)) (or_decided (number_is 32 c) (or_decided (number_is 33 c) (or_decided (number_is 49 c) (number_is 50 c)))))

jump_decided : (c : ℕ) → IsJumpCode c ⊎ (IsJumpCode c → ⊥)
jump_decided c = or_decided (number_is 40 c) (or_decided (number_is 41 c) (number_is 42 c))

plain_seeks : Seeks IsPlainCode (λ c. number_form 1 c ++ [])
plain_seeks = made_seeks (λ c. c) (λ c. c) (λ c fits. fits.1) (λ c fits. (plain_small c fits, fits)) (λ c fits. sym (append-nil (number_form 1 c))) (λ c. append-nil (number_form 1 c)) (narrow_seeks {Q = IsPlainCode} (number_fronts 1) plain_decided (number_seeks 1))

jump_fronts : HasFronts (λ c. (c < 256 ^ 1) × IsJumpCode c) (number_form 1)
jump_fronts = record { seen = λ x y r s fx fy same. (number_fronts 1).seen x y r s fx.0 fy.0 same }

jump_seeks : Seeks {X = ℕ × ℕ} (λ p. ((p.0 < 256 ^ 1) × IsJumpCode p.0) × (p.1 < 256 ^ 2)) (λ p. number_form 1 p.0 ++ number_form 2 p.1)
jump_seeks = pair_seeks jump_fronts (narrow_seeks {Q = IsJumpCode} (number_fronts 1) jump_decided (number_seeks 1)) (number_seeks 2)

abbrev None : {X : Type 0} → (X → Type 0) → (X → List ℕ) → List ℕ → Type 0
None {X} P form before = (x : X) (after : List ℕ) → P x → before ≡ form x ++ after → ⊥

-- the bytes begin with an instruction of none of the kinds
record NoInstr (before : List ℕ) : Type 0 where
  push : None (FitsSigned w64) (λ z. number_form 1 1 ++ number_form 8 (cast_unsigned w64 z)) before
  load : None (λ v. v < 256 ^ 2) (λ v. number_form 1 2 ++ number_form 2 v) before
  store : None (λ v. v < 256 ^ 2) (λ v. number_form 1 3 ++ number_form 2 v) before
  label : None (λ v. v < 256 ^ 2) (λ v. number_form 1 5 ++ number_form 2 v) before
  plain : None IsPlainCode (λ c. number_form 1 c ++ []) before
  jump : None {X = ℕ × ℕ} (λ p. ((p.0 < 256 ^ 1) × IsJumpCode p.0) × (p.1 < 256 ^ 2)) (λ p. number_form 1 p.0 ++ number_form 2 p.1) before
  call : None {X = Bool × Place} (λ p. Always p.0 × FitsPlace p.1) (λ p. number_form 1 48 ++ (flag_form p.0 ++ place_form p.1)) before

no_instr : (before : List ℕ) → NoInstr before → (x : Instr) (after : List ℕ) → FitsInstr x → before ≡ instr_form x ++ after → ⊥
no_instr before none (i.Push z) after fits is = none.push z after fits is
no_instr before none (i.Load v) after fits is = none.load v after fits is
no_instr before none (i.Store v) after fits is = none.store v after fits is
no_instr before none (i.Label v) after fits is = none.label v after fits is
no_instr before none (i.Plain c) after fits is = none.plain c after fits is
no_instr before none (i.Jump c v) after fits is = none.jump (c, v) after ((jump_small c fits.0, fits.0), fits.1) is
no_instr before none (i.Call b p) after fits is = none.call (b, p) after (tt, fits) is

instr_sought : (before : List ℕ) → Sought FitsInstr instr_form before
instr_sought before = elim (push_seeks.seek before) [
  | inl one ↦ inl (i.Push one.0, one.1, one.2, one.3)
  | inr push ↦ elim ((slot_seeks 2 (omega arith)).seek before) [
    | inl one ↦ inl (i.Load one.0, one.1, one.2, one.3)
    | inr load ↦ elim ((slot_seeks 3 (omega arith)).seek before) [
      | inl one ↦ inl (i.Store one.0, one.1, one.2, one.3)
      | inr store ↦ elim ((slot_seeks 5 (omega arith)).seek before) [
        | inl one ↦ inl (i.Label one.0, one.1, one.2, one.3)
        | inr label ↦ elim (plain_seeks.seek before) [
          | inl one ↦ inl (i.Plain one.0, one.1, one.2, one.3)
          | inr plain ↦ elim (jump_seeks.seek before) [
            | inl one ↦ inl (i.Jump one.0.0 one.0.1, one.1, (one.2.0.1, one.2.1), one.3)
            | inr jump ↦ elim (call_seeks.seek before) [
              | inl one ↦ inl (i.Call one.0.0 one.0.1, one.1, one.2.1, one.3)
              | inr call ↦ inr (no_instr before (record { push = push; load = load; store = store; label = label; plain = plain; jump = jump; call = call }))
            ]
          ]
        ]
      ]
    ]
  ]
]

instr_seeks : Seeks FitsInstr instr_form
instr_seeks = record { seek = instr_sought }

ir_seeks : Seeks FitsIr ir_form
ir_seeks = made_seeks
    (λ (p : Bool × (ℕ × (ℕ × List Instr))). record { inline = p.0; params = p.1.0; slots = p.1.1.0; code = p.1.1.1 }) (λ (x : Ir). (x.inline, (x.params, (x.slots, x.code))))
    (λ p fits. record { params = fits.1.0; slots = fits.1.1.0; code = fits.1.1.1 }) (λ x fits. (tt, (fits.params, (fits.slots, fits.code)))) (λ p fits. refl) (λ x. refl)
    (pair_seeks flag_fronts flag_seeks (pair_seeks (number_fronts 2) (number_seeks 2) (pair_seeks (number_fronts 2) (number_seeks 2) (list_seeks instr_fronts instr_seeks))))

pub forms_are_answered : FormsAreAnswered
forms_are_answered = record {
  tokens = read_of (list_fronts token_fronts) (list_seeks token_fronts token_seeks);
  index = read_of index_fronts index_seeks;
  fault = read_of whole_fault_fronts fault_seeks;
  sig = read_of sig_fronts sig_seeks;
  ir = read_of ir_fronts ir_seeks;
}

pub forms_have_one_answer : FormsHaveOneAnswer
forms_have_one_answer = record {
  tokens = read_one (FitsList FitsToken) (list_form token_form);
  index = read_one FitsIndex index_form;
  fault = read_one FitsFault fault_form;
  sig = read_one FitsSig sig_form;
  ir = read_one FitsIr ir_form;
}
