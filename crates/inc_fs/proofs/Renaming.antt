-- A directory that goes to a name that nothing has.
use Rattle.std.proofs.Common.{◌≡◌, ◌⊎◌, ◌∙◌, false, refl, ap, inl, inr, List, Option, Some, None, IsSome}
use Rattle.std.specs.Ordering.{is_eq}
use Rattle.std.specs.Map.{lookup, set_value}
use Rattle.std.specs.BTreeMap.{insert_entry, is_at}
use Rattle.inc_fs.specs.declared.state.Entry.{Entry}
use Rattle.inc_fs.specs.declared.state.Entry.TheVariants.{LockFile, Folder}
use Rattle.inc_fs.specs.declared.op.Reply.TheVariants.{Done}
use Rattle.inc_fs.specs.Lookups.{path_cmp_total, same_paths, lookup_there}
use Rattle.inc_fs.specs.State.{State, Text, Path, path_cmp, remove_entry, entry_at, folder_at, folder_of}
use Rattle.inc_fs.specs.Step.{Renames}
use Rattle.inc_fs.proofs.Tables.{set_value-remove-insert}

-- the entries once room was made at the new name, and what stood at the old one was put there
pub renamed : (F : State) (krate from to : Text) (out : Entry) (moved : List (Path × Entry))
    → IsSome (folder_at F krate from) → entry_at F krate to ≡ None
    → ((what : Entry) → lookup (is_at (path_cmp (krate, from))) (insert_entry path_cmp F.entries (krate, to) out) ≡ Some what
    → moved ≡ set_value (is_at (path_cmp (krate, to))) (remove_entry (is_at (path_cmp (krate, from))) (insert_entry path_cmp F.entries (krate, to) out)) what)
    → Renames F krate from to Done (record F { entries = moved })
renamed F krate from to out moved stands free puts = go (entry_at F krate from) refl stands
  where
    apart : (found : Entry) → entry_at F krate from ≡ Some found → is_eq (path_cmp (krate, from) (krate, to)) ≡ false
    apart found is = split (same_paths (krate, from) (krate, to))
      where
        split : (◌≡◌ {A = Path} (krate, from) (krate, to)) ⊎ (is_eq (path_cmp (krate, from) (krate, to)) ≡ false) → is_eq (path_cmp (krate, from) (krate, to)) ≡ false
        split (inl same) = let e : entry_at F krate from ≡ entry_at F krate to = ap (λ (p : Path). lookup (is_at (path_cmp p)) F.entries) same in absurd cc
        split (inr off) = off

    go : (found : Option Entry) → entry_at F krate from ≡ found → IsSome (folder_of found) → Renames F krate from to Done (record F { entries = moved })
    go None is some = absurd cc
    go (Some (LockFile number)) is some = absurd cc
    go (Some (Folder names)) is some =
        let off = apart (Folder names) is in (
          names,
          ap folder_of is,
          free,
          λ i. record F {
            entries = (puts (Folder names) (lookup_there path_cmp path_cmp_total F.entries (krate, to) (krate, from) out off ∙ is)
                ∙ set_value-remove-insert path_cmp path_cmp_total F.entries (krate, to) (krate, from) out (Folder names) off) i;
          },
        )
