-- Files that were put one by one stand in name order.
use Rattle.std.proofs.Common.{◌≡◌, ℕ, ◌+◌, Bool, true, false, cond, List, [], ◌∷◌, ◌++◌, Some, None, refl, ap, sym, ◌∙◌, subst, append-nil, append_assoc}
use Rattle.std.specs.Map.{lookup}
use Rattle.std.specs.BTreeMap.{insert_entry, is_at}
use Rattle.std.specs.Ordering.{is_eq, match_ordering, ordering_reverse}
use Rattle.std.specs.declared.cmp.Ordering.{Ordering}
use Rattle.std.specs.declared.cmp.Ordering.TheVariants.{Less, Equal, Greater}
use Rattle.std.specs.Cmp.Lexicographic.{nat_list_cmp_total}
use Rattle.inc_fs.specs.Paths.{Text, text_cmp}
use Rattle.inc_wire.specs.declared.header.Header.{Header}
use Rattle.inc_graph.specs.declared.node.Node.{Node}
use Rattle.inc_products.specs.declared.part.Part.{Part}
use Rattle.inc_products.specs.declared.part.Part.TheVariants as part
use Rattle.inc_products.specs.Named.{with_value}
use Rattle.inc_products.specs.Saved.{Value, by_names, bytes_of, cache_name, files_of, graph_name, is_object_kind, object_name, products_name, with_object, with_objects}
use Rattle.inc_session.specs.Compiling.{AreInOrder, AreNew, put_all}

abbrev Set : Type 0
Set = List (Text × Text)

-- a name stands before those of some files
abbrev IsBefore : Text → Set → Type 0
IsBefore x [] = Unit {0}
IsBefore x (file ∷ files) = (text_cmp x file.0 ≡ Less) × IsBefore x files

-- each name stands before those after it
abbrev Rises : Set → Type 0
Rises [] = Unit {0}
Rises (file ∷ files) = IsBefore file.0 files × Rises files

turned : (x y : Text) (r : Ordering) → text_cmp x y ≡ r → text_cmp y x ≡ ordering_reverse r
turned x y r is = nat_list_cmp_total.antisymm y x ∙ ap ordering_reverse is

earlier : (x y : Text) (files : Set) → text_cmp x y ≡ Less → IsBefore y files → IsBefore x files
earlier x y [] less before = tt
earlier x y (file ∷ files) less before = (nat_list_cmp_total.trans x y file.0 less before.0, earlier x y files less before.1)

module _ (k v : Text) where
  before_put : (x : Text) (files : Set) → text_cmp x k ≡ Less → IsBefore x files → IsBefore x (insert_entry text_cmp files k v)
  before_put x [] less before = (less, tt)
  before_put x (e ∷ es) less before = go (text_cmp k e.0) (before_put x es less before.1)
    where
      go : (r : Ordering) → IsBefore x (insert_entry text_cmp es k v) → IsBefore x (match_ordering r ((k, v) ∷ e ∷ es) ((e.0, v) ∷ es) (e ∷ insert_entry text_cmp es k v))
      go Less later = (less, before)
      go Equal later = before
      go Greater later = (before.0, later)

  rises_put : (files : Set) → Rises files → Rises (insert_entry text_cmp files k v)
  rises_put [] rises = (tt, tt)
  rises_put (e ∷ es) rises = go (text_cmp k e.0) refl (rises_put es rises.1)
    where
      go : (r : Ordering) → text_cmp k e.0 ≡ r → Rises (insert_entry text_cmp es k v) → Rises (match_ordering r ((k, v) ∷ e ∷ es) ((e.0, v) ∷ es) (e ∷ insert_entry text_cmp es k v))
      go Less is later = ((is, earlier k e.0 es is rises.0), rises)
      go Equal is later = rises
      go Greater is later = (before_put e.0 es (turned k e.0 Greater is) rises.0, later)

-- with an object's file where there is one
rises_object : (f : ℕ → Text) (i : ℕ) (n : Node) (files : Set) → Rises files → Rises (with_object f i n files)
rises_object f i n files rises = by (is_object_kind n.query.kind)
  where
    by : (b : Bool) → Rises (cond b (with_value files (object_name n.query.module) (f i)) files)
    by true = rises_put (object_name n.query.module) (f i) files rises
    by false = rises

rises_objects : (f : ℕ → Text) (i : ℕ) (nodes : List Node) (files : Set) → Rises files → Rises (with_objects f i nodes files)
rises_objects f i [] files rises = rises
rises_objects f i (n ∷ nodes) files rises = rises_objects f (i + 1) nodes (with_object f i n files) (rises_object f i n files rises)

-- the files of each part, by their names
rises_named : (f : Part → Text) (nodes : List Node) → Rises (by_names f nodes)
rises_named f nodes =
    rises_objects (λ i. f (part.Object i)) 0 nodes (with_value (with_value (with_value [] graph_name (f part.Graph)) cache_name (f part.Cache)) products_name (f part.Products))
    (rises_put products_name (f part.Products) (with_value (with_value [] graph_name (f part.Graph)) cache_name (f part.Cache))
    (rises_put cache_name (f part.Cache) (with_value [] graph_name (f part.Graph))
    (rises_put graph_name (f part.Graph) [] tt)))

-- a name stands after those of some files
abbrev IsAfter : Text → Set → Type 0
IsAfter x [] = Unit {0}
IsAfter x (file ∷ files) = (text_cmp x file.0 ≡ Greater) × IsAfter x files

after_more : (x : Text) (set : Set) (file : Text × Text) → IsAfter x set → text_cmp file.0 x ≡ Less → IsAfter x (set ++ file ∷ [])
after_more x [] file after less = (turned file.0 x Less less, tt)
after_more x (e ∷ es) file after less = (after.0, after_more x es file after.1 less)

-- so it is none of theirs, and comes last
not_there : (x : Text) (set : Set) → IsAfter x set → lookup (is_at (text_cmp x)) set ≡ None
not_there x [] after = refl
not_there x (e ∷ es) after = ap (λ r. cond (is_eq r) (Some e.1) (lookup (is_at (text_cmp x)) es)) after.0 ∙ not_there x es after.1

put_last : (x v : Text) (set : Set) → IsAfter x set → insert_entry text_cmp set x v ≡ set ++ (x, v) ∷ []
put_last x v [] after = refl
put_last x v (e ∷ es) after =
    ap (λ r. match_ordering r ((x, v) ∷ e ∷ es) ((e.0, v) ∷ es) (e ∷ insert_entry text_cmp es x v)) after.0 ∙ ap (λ es. e ∷ es) (put_last x v es after.1)

abbrev AllAfter : Set → Set → Type 0
AllAfter set [] = Unit {0}
AllAfter set (file ∷ files) = IsAfter file.0 set × AllAfter set files

all_more : (set : Set) (file : Text × Text) (files : Set) → AllAfter set files → IsBefore file.0 files → AllAfter (set ++ file ∷ []) files
all_more set file [] after before = tt
all_more set file (next ∷ files) after before = (after_more next.0 set file after.0 before.0, all_more set file files after.1 before.1)

-- files in order, put one by one behind others that stand before them
one_by_one : (set files : Set) → AllAfter set files → Rises files → AreNew set files × (put_all set files ≡ set ++ files)
one_by_one set [] after rises = (tt, sym (append-nil set))
one_by_one set (file ∷ files) after rises =
    let last : insert_entry text_cmp set file.0 file.1 ≡ set ++ file ∷ [] = put_last file.0 file.1 set after.0 in
    let rest = one_by_one (set ++ file ∷ []) files (all_more set file files after.1 rises.0) rises.1 in (
      (not_there file.0 set after.0, subst (λ set. AreNew set files) (sym last) rest.0),
      ap (λ set. put_all set files) last ∙ rest.1 ∙ append_assoc set (file ∷ []) files,
    )

all_first : (files : Set) → AllAfter [] files
all_first [] = tt
all_first (file ∷ files) = (tt, all_first files)

-- the files of a graph and of the values kept of it are in order
pub files_in_order : (h : Header) (nodes : List Node) (values : List Value) → AreInOrder (files_of h nodes values)
files_in_order h nodes values =
    let both = one_by_one [] (files_of h nodes values) (all_first (files_of h nodes values)) (rises_named (bytes_of h nodes values) nodes) in
    record { new = both.0; same = both.1 }
