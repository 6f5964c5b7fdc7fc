-- Forms are seen from the bytes that they begin.
use Rattle.std.proofs.Common.{◌≡◌, ℕ, ◌^◌, ◌<◌, Bool, List, refl, arith}
use Rattle.inc_wire.specs.Fits.{Always}
use Rattle.inc_wire.specs.Forms.{number_form}
use Rattle.inc_wire.specs.FormLaws.{same_number_front}
use Rattle.inc_wire.specs.Fronts.{HasFronts, flag_fronts, list_fronts, made_fronts, marked_fronts, number_fronts, pair_fronts, text_fronts}
use Rattle.rs_tree.specs.declared.place.Place.{Place}
use Rattle.rs_tree.specs.declared.token.Token.{Token}
use Rattle.rs_tree.specs.declared.tree.Typ.{Typ}
use Rattle.rs_tree.specs.declared.tree.Typ.TheVariants as t
use Rattle.rs_tree.specs.declared.index.Index.{Index}
use Rattle.rs_tree.specs.declared.index.IndexFault.{IndexFault}
use Rattle.rs_tree.specs.declared.index.IndexItem.{IndexItem}
use Rattle.rs_tree.specs.declared.index.Sig.{Sig}
use Rattle.rs_tree.specs.declared.index.TextFault.{TextFault}
use Rattle.rs_tree.specs.declared.index.TextFault.TheVariants as f
use Rattle.rs_forms.specs.Fits.{FitsFault, FitsIndex, FitsIndexItem, FitsPlace, FitsSig, FitsToken}
use Rattle.rs_forms.specs.Forms.{fault_code, fault_code_form, fault_form, index_form, index_item_form, place_form, sig_form, token_form, typ_code, typ_form}

-- a value of few, by the number of its byte
named_fronts : {X : Type 0} (code : X → ℕ) → ((x : X) → code x < 256 ^ 1) → ((x y : X) → code x ≡ code y → x ≡ y) → HasFronts (Always {X = X}) (λ x. number_form 1 (code x))
named_fronts code small same_code = record {
  seen = λ x y r s fx fy same. (let codes = same_number_front 1 (code x) (code y) r s (small x) (small y) same in record { value = same_code x y codes.0; rest = codes.1 });
}

typ_same : (x y : Typ) → typ_code x ≡ typ_code y → x ≡ y
typ_same t.Unit t.Unit e = refl
typ_same t.Int t.Int e = refl
typ_same t.Bool t.Bool e = refl
typ_same t.Unit t.Int e = absurd (cc)
typ_same t.Unit t.Bool e = absurd (cc)
typ_same t.Int t.Unit e = absurd (cc)
typ_same t.Int t.Bool e = absurd (cc)
typ_same t.Bool t.Unit e = absurd (cc)
typ_same t.Bool t.Int e = absurd (cc)

pub typ_small : (x : Typ) → typ_code x < 256 ^ 1
typ_small t.Unit = omega arith
typ_small t.Int = omega arith
typ_small t.Bool = omega arith

pub typ_fronts : HasFronts (Always {X = Typ}) typ_form
typ_fronts = named_fronts typ_code typ_small typ_same

fault_same : (x y : TextFault) → fault_code x ≡ fault_code y → x ≡ y
fault_same f.Byte f.Byte e = refl
fault_same f.Byte f.Nesting e = absurd (cc)
fault_same f.Byte f.Syntax e = absurd (cc)
fault_same f.Byte f.Twice e = absurd (cc)
fault_same f.Nesting f.Byte e = absurd (cc)
fault_same f.Nesting f.Nesting e = refl
fault_same f.Nesting f.Syntax e = absurd (cc)
fault_same f.Nesting f.Twice e = absurd (cc)
fault_same f.Syntax f.Byte e = absurd (cc)
fault_same f.Syntax f.Nesting e = absurd (cc)
fault_same f.Syntax f.Syntax e = refl
fault_same f.Syntax f.Twice e = absurd (cc)
fault_same f.Twice f.Byte e = absurd (cc)
fault_same f.Twice f.Nesting e = absurd (cc)
fault_same f.Twice f.Syntax e = absurd (cc)
fault_same f.Twice f.Twice e = refl

pub fault_small : (x : TextFault) → fault_code x < 256 ^ 1
fault_small f.Byte = omega arith
fault_small f.Nesting = omega arith
fault_small f.Syntax = omega arith
fault_small f.Twice = omega arith

pub code_fronts : HasFronts (Always {X = TextFault}) fault_code_form
code_fronts = named_fronts fault_code fault_small fault_same

-- a struct has the form of nested pairs of its fields

pub token_fronts : HasFronts FitsToken token_form
token_fronts = made_fronts
    (λ (p : ℕ × (ℕ × List ℕ)). record { at = record { line = p.0; column = p.1.0 }; text = p.1.1 }) (λ (x : Token). (x.at.line, (x.at.column, x.text)))
    (pair_fronts (number_fronts 4) (pair_fronts (number_fronts 4) text_fronts))
    (λ x fits. (fits.line, (fits.column, fits.text))) (λ x. refl) (λ x. refl)

pub place_fronts : HasFronts FitsPlace place_form
place_fronts = made_fronts
    (λ (p : List ℕ × List ℕ). record { «module» = p.0; name = p.1 }) (λ (x : Place). (x.module, x.name))
    (pair_fronts text_fronts text_fronts)
    (λ x fits. (fits.module, fits.name)) (λ x. refl) (λ x. refl)

pub index_item_fronts : HasFronts FitsIndexItem index_item_form
index_item_fronts = made_fronts
    (λ (p : List ℕ × (List ℕ × (ℕ × Bool))). record { «module» = p.0; name = p.1.0; kind = p.1.1.0; public = p.1.1.1 }) (λ (x : IndexItem). (x.module, (x.name, (x.kind, x.public))))
    (pair_fronts text_fronts (pair_fronts text_fronts (pair_fronts (number_fronts 1) flag_fronts)))
    (λ x fits. (fits.module, (fits.name, (fits.kind, tt)))) (λ x. refl) (λ x. refl)

pub index_fronts : HasFronts FitsIndex index_form
index_fronts = made_fronts
    (λ (p : List (List ℕ) × List IndexItem). record { modules = p.0; items = p.1 }) (λ (x : Index). (x.modules, x.items))
    (marked_fronts (number_form 1 1) (pair_fronts (list_fronts text_fronts) (list_fronts index_item_fronts)))
    (λ x fits. (fits.modules, fits.items)) (λ x. refl) (λ x. refl)

pub whole_fault_fronts : HasFronts FitsFault fault_form
whole_fault_fronts = made_fronts
    (λ (p : ℕ × (ℕ × (TextFault × List ℕ))). record { at = record { line = p.0; column = p.1.0 }; code = p.1.1.0; name = p.1.1.1 }) (λ (x : IndexFault). (x.at.line, (x.at.column, (x.code, x.name))))
    (marked_fronts (number_form 1 0) (pair_fronts (number_fronts 4) (pair_fronts (number_fronts 4) (pair_fronts code_fronts text_fronts))))
    (λ x fits. (fits.line, (fits.column, (tt, fits.name)))) (λ x. refl) (λ x. refl)

pub sig_fronts : HasFronts FitsSig sig_form
sig_fronts = made_fronts
    (λ (p : ℕ × (Bool × (List Typ × Typ))). record { kind = p.0; public = p.1.0; params = p.1.1.0; gives = p.1.1.1 }) (λ (x : Sig). (x.kind, (x.public, (x.params, x.gives))))
    (pair_fronts (number_fronts 1) (pair_fronts flag_fronts (pair_fronts (list_fronts typ_fronts) typ_fronts)))
    (λ x fits. (fits.kind, (tt, (fits.params, tt)))) (λ x. refl) (λ x. refl)

-- no index begins as a fault does
pub forms_apart : (index : Index) (fault : IndexFault) → index_form index ≡ fault_form fault → ⊥
forms_apart index fault same = (let marks = same_number_front 1 1 0 _ _ (omega arith) (omega arith) same in cc)
