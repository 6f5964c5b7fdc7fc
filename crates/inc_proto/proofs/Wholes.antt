-- Whether known files are exactly the wanted ones, by their names in order and a look-up of each.
use Rattle.std.specs.Prelude.{◌≡◌, ◌↔◌, ◌==◌, zero, suc, length, IsTrue, List, [], ◌∷◌, Bool, true, false, cond, Option, Some, None, refl, unwrap_or}
use Rattle.std.proofs.Common.{ap, sym, ◌∙◌, subst, inl, inr}
use Rattle.std.proofs.lemmas.Map.{keys-set_value}
use Rattle.std.proofs.lemmas.Bool.{false≢true, ne_eqb}
use Rattle.std.specs.List.{AllByRecursion}
use Rattle.std.specs.List.Sorted.{IsStrictlySortedBy}
use Rattle.std.specs.Ordering.{is_eq, ordering_reverse}
use Rattle.std.specs.declared.cmp.Ordering.TheVariants.{Less}
use Rattle.std.specs.Cmp.{tied_itself}
use Rattle.std.specs.Cmp.Lexicographic.{nat_list_cmp_total}
use Rattle.std.specs.Map.{lookup, keys_of}
use Rattle.std.specs.BTreeMap.{is_at}
use Rattle.inc_fs.specs.Lists.{IsIn, remove_entry}
use Rattle.inc_fs.specs.Paths.{Text, text_cmp}
use Rattle.inc_fs.specs.Tidy.{sorted_inserted, sorted_removed}
use Rattle.inc_fs.specs.declared.op.Op.{Op}
use Rattle.inc_fs.specs.declared.op.Op.TheVariants.{MakeDir, Link, Read, Create, Append, Unlink, RemoveDir, Rename}
use Rattle.inc_fs.specs.declared.op.Reply.{Reply}
use Rattle.inc_fs.specs.declared.op.Reply.TheVariants.{Bytes, Done, Fault}
use Rattle.inc_proto.specs.declared.own.Known.{Known}
use Rattle.inc_proto.specs.Asked.{AreOrdered, bytes_of, bytes_at, AreWanted}
use Rattle.inc_proto.specs.Events.{Steps}
use Rattle.inc_proto.specs.Permits.{complete, with_bytes}
use Rattle.inc_proto.specs.Views.{Dir, dir, dir_after, made_dir, in_dir, is_here, put, appended, forgotten, read_as}
use Rattle.inc_proto.specs.Views.Dir.{Unmade, Stands, Removed, Published}

-- ---- The files of its directory stand in the order of their names.

put_ordered : (file : Text) (f : Known → Known) (o : Option Known) (files : List (Text × Known)) → IsStrictlySortedBy text_cmp (keys_of files) → IsStrictlySortedBy text_cmp (keys_of (put file f o files))
put_ordered file f None files sorted = sorted
put_ordered file f (Some known) files sorted = subst (IsStrictlySortedBy text_cmp) (sym (keys-set_value (is_at (text_cmp file)) files (f known))) sorted

either_ordered : (b : Bool) (x y : Dir) → AreOrdered x → AreOrdered y → AreOrdered (cond b x y)
either_ordered true x y here there = here
either_ordered false x y here there = there

in_ordered : (step : Op × Reply) (krate entry : Text) (files : List (Text × Known)) → IsStrictlySortedBy text_cmp (keys_of files) → AreOrdered (in_dir step krate entry files)
in_ordered (Link k from to file, Done) krate entry files sorted = sorted_inserted text_cmp nat_list_cmp_total files file _ sorted
in_ordered (Create k e file, Done) krate entry files sorted = sorted_inserted text_cmp nat_list_cmp_total files file _ sorted
in_ordered (Append k e file piece, Done) krate entry files sorted = put_ordered file (appended piece) (lookup (is_at (text_cmp file)) files) files sorted
in_ordered (Append k e file piece, Fault) krate entry files sorted = put_ordered file forgotten (lookup (is_at (text_cmp file)) files) files sorted
in_ordered (Read k e file, Bytes bytes) krate entry files sorted = put_ordered file (read_as bytes) (lookup (is_at (text_cmp file)) files) files sorted
in_ordered (Unlink k e file, Done) krate entry files sorted =
    either_ordered (is_here krate entry k e) (Stands krate entry (remove_entry (is_at (text_cmp file)) files)) (Stands krate entry files)
    (sorted_removed text_cmp (is_at (text_cmp file)) files sorted) sorted
in_ordered (RemoveDir k e, Done) krate entry files sorted = either_ordered (is_here krate entry k e) Removed (Stands krate entry files) tt sorted
in_ordered (Rename k from to, Done) krate entry files sorted = either_ordered (is_here krate entry k from) (Published k to files) (Stands krate entry files) tt sorted
in_ordered step krate entry files sorted = sorted

made_ordered : (step : Op × Reply) → AreOrdered (made_dir step)
unfolding IsStrictlySortedBy
made_ordered (MakeDir krate entry, Done) = tt
made_ordered step = tt

after_ordered : (step : Op × Reply) (d : Dir) → AreOrdered d → AreOrdered (dir_after step d)
after_ordered step Unmade is = made_ordered step
after_ordered step (Stands krate entry files) is = in_ordered step krate entry files is
after_ordered step Removed is = tt
after_ordered step (Published krate entry files) is = tt

pub dir_ordered : (steps : Steps) → AreOrdered (dir steps)
dir_ordered [] = tt
dir_ordered (step ∷ steps) = after_ordered step (dir steps) (dir_ordered steps)

-- ---- Files that are a whole set.

in_all : {X : Type 0} (P : X → Type 0) (xs : List X) (x : X) → AllByRecursion P xs → IsIn xs x → P x
in_all P [] x all is = absurd is
in_all P (y ∷ xs) x all (inl is) = subst P is all.0
in_all P (y ∷ xs) x all (inr is) = in_all P xs x all.1 is

-- a later key isn't the first
apart : (x y : Text) → text_cmp x y ≡ Less → is_eq (text_cmp y x) ≡ false
apart x y less = ap is_eq (nat_list_cmp_total.antisymm y x ∙ ap ordering_reverse less)

found_here : (file : Text × Known) (files : List (Text × Known)) → lookup (is_at (text_cmp file.0)) (file ∷ files) ≡ Some file.1
found_here file files = ap (λ r. cond (is_eq r) (Some file.1) (lookup (is_at (text_cmp file.0)) files)) (tied_itself nat_list_cmp_total file.0)

found_there : (file : Text × Known) (files : List (Text × Known)) (name : Text) → text_cmp file.0 name ≡ Less → lookup (is_at (text_cmp name)) (file ∷ files) ≡ lookup (is_at (text_cmp name)) files
found_there file files name less = ap (λ b. cond b (Some file.1) (lookup (is_at (text_cmp name)) files)) (apart file.0 name less)

with_none : (name : Text) (bytes : Option Text) (rest : Option (List (Text × Text))) → with_bytes name bytes rest ≡ Some [] → ⊥
with_none name None rest is = cc
with_none name (Some text) None is = cc
with_none name (Some text) (Some others) is = cc

-- the first file and the others, of a set
record IsFirst (name : Text) (bytes : Option Text) (rest : Option (List (Text × Text))) (one : Text × Text) (others : List (Text × Text)) : Type 0 where
  same : name ≡ one.0
  known : bytes ≡ Some one.1
  after : rest ≡ Some others

first_of_set : (name : Text) (bytes : Option Text) (rest : Option (List (Text × Text))) (one : Text × Text) (others : List (Text × Text))
    → with_bytes name bytes rest ≡ Some (one ∷ others) → IsFirst name bytes rest one others
first_of_set name None rest one others is = absurd (cc)
first_of_set name (Some text) None one others is = absurd (cc)
first_of_set name (Some text) (Some more) one others is =
    let lists : ((name, text) ∷ more) ≡ (one ∷ others) = ap (λ o. unwrap_or o []) is in
    record {
      same = ap (λ ps. name_of ps) lists;
      known = ap (λ ps. Some (text_of ps)) lists;
      after = ap (λ ps. Some (rest_of ps)) lists;
    }
  where
    name_of : List (Text × Text) → Text
    name_of [] = name
    name_of (p ∷ ps) = p.0

    text_of : List (Text × Text) → Text
    text_of [] = text
    text_of (p ∷ ps) = p.1

    rest_of : List (Text × Text) → List (Text × Text)
    rest_of [] = more
    rest_of (p ∷ ps) = ps

set_of_first : (name : Text) (bytes : Option Text) (rest : Option (List (Text × Text))) (one : Text × Text) (others : List (Text × Text))
    → name ≡ one.0 → bytes ≡ Some one.1 → rest ≡ Some others → with_bytes name bytes rest ≡ Some (one ∷ others)
set_of_first name bytes rest one others same known after =
    ap (λ b. with_bytes name b rest) known ∙ ap (with_bytes name (Some one.1)) after ∙ ap (λ n. Some ((n, one.1) ∷ others)) same

-- of files that end with these
wanted_end : (files rest : List (Text × Known)) (wanted : List (Text × Text)) → IsStrictlySortedBy text_cmp (keys_of rest)
    → ((name : Text) → IsIn (keys_of rest) name → lookup (is_at (text_cmp name)) files ≡ lookup (is_at (text_cmp name)) rest)
    → AreWanted files (keys_of rest) wanted ↔ (complete rest ≡ Some wanted)
unfolding IsStrictlySortedBy
wanted_end files [] [] sorted same = (λ all. refl, λ is. tt)
wanted_end files [] (one ∷ others) sorted same = (λ none. absurd none, λ is. absurd (cc))
wanted_end files (file ∷ rest) [] sorted same = (λ none. absurd none, λ is. with_none file.0 file.1.bytes (complete rest) is)
wanted_end files (file ∷ rest) (one ∷ others) sorted same =
    let here : lookup (is_at (text_cmp file.0)) files ≡ Some file.1 = same file.0 (inl refl) ∙ found_here file rest in
    let its : bytes_at file.0 files ≡ file.1.bytes = ap bytes_of here in
    let tail = wanted_end files rest others sorted.1
    (λ name is. same name (inr is) ∙ found_there file rest name (in_all (λ y. text_cmp file.0 y ≡ Less) (keys_of rest) name sorted.0 is)) in (
      λ all. set_of_first file.0 file.1.bytes (complete rest) one others all.0 (sym its ∙ all.1) (tail.0 all.2),
      λ is. let w = first_of_set file.0 file.1.bytes (complete rest) one others is in (w.same, its ∙ w.known, tail.1 w.after),
    )

-- of all
pub whole : (files : List (Text × Known)) (wanted : List (Text × Text)) → IsStrictlySortedBy text_cmp (keys_of files) → AreWanted files (keys_of files) wanted ↔ (complete files ≡ Some wanted)
whole files wanted sorted = wanted_end files files wanted sorted (λ name is. refl)

-- none are wanted any more
pub none_wanted : (files : List (Text × Known)) (names : List Text) (b : Bool) → b ≡ (length names == 0) → IsTrue b ↔ AreWanted files names []
none_wanted files [] b is = (λ yes. tt, λ all. is)
none_wanted files (name ∷ names) b is =
    let off : b ≡ false = is ∙ ne_eqb (suc (length names)) zero (λ e. cc) in
    (λ yes. absurd (false≢true (sym off ∙ yes)), λ none. absurd none)
