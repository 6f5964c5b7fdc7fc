-- What changes one set of files into another.
use Rattle.std.specs.Prelude.{ℕ, nat_eq, cond, List, [], ◌∷◌, map}
use Rattle.std.specs.Ordering.{match_ordering}
use Rattle.std.specs.Cmp.Lexicographic.{pointwise}
use Rattle.std.specs.Map.{remove_entry}
use Rattle.std.specs.BTreeMap.{is_at}
use Rattle.inc_products.specs.declared.change.Change.{Change}
use Rattle.inc_products.specs.declared.change.Change.TheVariants as c
use Rattle.inc_products.specs.Named.{name_cmp, with_value}

-- a file: its name and its bytes
abbrev pub File : Type 0
File = List ℕ × List ℕ

-- the files after a change
abbrev pub changed : Change → List File → List File
changed (c.Drop name) files = remove_entry (is_at (name_cmp name)) files
changed (c.Write name bytes) files = with_value files name bytes

-- the files after changes, the first made first
abbrev pub applied : List Change → List File → List File
applied [] files = files
applied (change ∷ changes) files = applied changes (changed change files)

-- the name that a change is of
abbrev pub name_of : Change → List ℕ
name_of (c.Drop name) = name
name_of (c.Write name bytes) = name

-- the change that writes a file, and the one that drops it
abbrev pub write_of : File → Change
write_of file = c.Write file.0 file.1

abbrev pub drop_of : File → Change
drop_of file = c.Drop file.0

-- the change of a file that both have, where its bytes differ
abbrev pub rewrite : File → File → List Change → List Change
rewrite old wanted changes = cond (pointwise nat_eq old.1 wanted.1) changes (write_of wanted ∷ changes)

-- the plan from a file that stands and what follows it to the wanted files: those before it are written, and it is dropped where it isn't wanted
abbrev pub plan_at : File → (List File → List Change) → List File → List Change
plan_at old later [] = drop_of old ∷ later []
plan_at old later (w ∷ ws) =
    match_ordering (name_cmp old.0 w.0) (drop_of old ∷ later (w ∷ ws)) (rewrite old w (later ws)) (write_of w ∷ plan_at old later ws)

-- In the order of the names: what isn't wanted is dropped, what isn't there or has other bytes is written, and what is equal isn't named.
abbrev pub plan_of : List File → List File → List Change
plan_of [] wanted = map write_of wanted
plan_of (old ∷ olds) wanted = plan_at old (plan_of olds) wanted
