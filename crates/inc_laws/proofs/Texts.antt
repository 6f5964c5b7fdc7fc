-- Texts of entries that differ.
use Rattle.std.proofs.Common.{◌≡◌, ℕ, sym}
use Rattle.inc_names.specs.declared.session.SessionName.{SessionName}
use Rattle.inc_names.specs.Entries.{working_text, final_text}
use Rattle.inc_names.specs.EntryLaws.{working_is_no_final}

pub final_no_working : (n m : SessionName) (hash : ℕ) → final_text n hash ≡ working_text m → ⊥
final_no_working n m hash e = working_is_no_final m n hash (sym e)
