-- Each list of bytes is read as a value or as none, in one way: what it is read as is a function of the bytes.
use Rattle.std.specs.Prelude.{◌≡◌, ℕ, List, Option}
use Rattle.inc_wire.specs.Fits.{FitsList}
use Rattle.inc_wire.specs.Forms.{list_form}
use Rattle.inc_wire.specs.Readings.{IsReadAs}
use Rattle.rs_tree.specs.declared.index.Index.{Index}
use Rattle.rs_tree.specs.declared.index.IndexFault.{IndexFault}
use Rattle.rs_tree.specs.declared.index.Sig.{Sig}
use Rattle.rs_tree.specs.declared.ir.Ir.{Ir}
use Rattle.rs_tree.specs.declared.token.Token.{Token}
use Rattle.rs_forms.specs.Fits.{FitsFault, FitsIndex, FitsIr, FitsSig, FitsToken}
use Rattle.rs_forms.specs.Forms.{fault_form, index_form, ir_form, sig_form, token_form}

-- whatever the bytes, there is an answer
pub record FormsAreAnswered : Type 0 where
  pub tokens : (bytes : List ℕ) → (read : Option (List Token)) × IsReadAs (FitsList FitsToken) (list_form token_form) bytes read
  pub index : (bytes : List ℕ) → (read : Option Index) × IsReadAs FitsIndex index_form bytes read
  pub fault : (bytes : List ℕ) → (read : Option IndexFault) × IsReadAs FitsFault fault_form bytes read
  pub sig : (bytes : List ℕ) → (read : Option Sig) × IsReadAs FitsSig sig_form bytes read
  pub ir : (bytes : List ℕ) → (read : Option Ir) × IsReadAs FitsIr ir_form bytes read

-- and no other
pub record FormsHaveOneAnswer : Type 0 where
  pub tokens : (bytes : List ℕ) (a b : Option (List Token)) → IsReadAs (FitsList FitsToken) (list_form token_form) bytes a → IsReadAs (FitsList FitsToken) (list_form token_form) bytes b → a ≡ b
  pub index : (bytes : List ℕ) (a b : Option Index) → IsReadAs FitsIndex index_form bytes a → IsReadAs FitsIndex index_form bytes b → a ≡ b
  pub fault : (bytes : List ℕ) (a b : Option IndexFault) → IsReadAs FitsFault fault_form bytes a → IsReadAs FitsFault fault_form bytes b → a ≡ b
  pub sig : (bytes : List ℕ) (a b : Option Sig) → IsReadAs FitsSig sig_form bytes a → IsReadAs FitsSig sig_form bytes b → a ≡ b
  pub ir : (bytes : List ℕ) (a b : Option Ir) → IsReadAs FitsIr ir_form bytes a → IsReadAs FitsIr ir_form bytes b → a ≡ b
