-- The entries of a crate's directory, and the order of sessions.
use Rattle.std.specs.Prelude.{◌≡◌, ◌^◌, ◌<◌, ◌⊎◌, ℕ, List, ◌++◌, codes}
use Rattle.std.specs.declared.cmp.Ordering.{Ordering}
use Rattle.std.specs.Ordering.{nat_cmp, ordering_then}
use Rattle.inc_base.specs.Base36.{text36, wide36}
use Rattle.inc_names.specs.declared.entry.Entry.{Entry}
use Rattle.inc_names.specs.declared.entry.Entry.TheVariants.{Lock, Working, Final}
use Rattle.inc_names.specs.declared.session.SessionName.{SessionName}

-- what all entries of a session begin with: `s-T-R`, its moment and its random part in base 36
unfoldable pub stem_text : SessionName → List ℕ
stem_text name = codes "s-" ++ text36 name.moment ++ codes "-" ++ text36 name.random

-- `s-T-R.lock`
unfoldable pub lock_text : SessionName → List ℕ
lock_text name = stem_text name ++ codes ".lock"

-- `s-T-R-working`
unfoldable pub working_text : SessionName → List ℕ
working_text name = stem_text name ++ codes "-working"

-- `s-T-R-H`, with the hash in 25 digits of base 36
unfoldable pub final_text : SessionName → ℕ → List ℕ
final_text name hash = stem_text name ++ codes "-" ++ wide36 hash

-- the text of an entry
abbrev pub entry_text : Entry → List ℕ
entry_text (Lock name) = lock_text name
entry_text (Working name) = working_text name
entry_text (Final name hash) = final_text name hash

-- the numbers of a name are in their types' ranges
pub record IsSessionName (name : SessionName) : Type 0 where
  pub moment : name.moment < 2 ^ 64
  pub random : name.random < 2 ^ 32

-- the numbers of an entry are in their types' ranges
abbrev pub IsEntry : Entry → Type 0
IsEntry (Lock name) = IsSessionName name
IsEntry (Working name) = IsSessionName name
IsEntry (Final name hash) = IsSessionName name × (hash < 2 ^ 128)

-- sessions are ordered by moment, and then by random part, as numbers
abbrev pub name_order : SessionName → SessionName → Ordering
name_order a b = ordering_then (nat_cmp a.moment b.moment) (nat_cmp a.random b.random)

-- the session a is newer than b
abbrev pub IsNewer : SessionName → SessionName → Type 0
IsNewer a b = (b.moment < a.moment) ⊎ (b.moment ≡ a.moment) × (b.random < a.random)
