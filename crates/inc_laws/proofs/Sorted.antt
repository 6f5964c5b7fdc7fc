-- A session knows the files of its directory in the order of their names, so what it published stands in that order.
use Rattle.std.specs.Prelude.{◌≡◌, ◌∷◌, Bool, true, false, cond, List, [], refl, Option, Some, None}
use Rattle.std.specs.List.Sorted.{IsStrictlySortedBy}
use Rattle.std.specs.Map.{lookup, keys_of}
use Rattle.std.specs.BTreeMap.{is_at}
use Rattle.std.specs.Cmp.Lexicographic.{nat_list_cmp_total}
use Rattle.std.proofs.Common.{ap, sym, subst, ◌∙◌}
use Rattle.std.proofs.lemmas.Map.{keys-set_value}
use Rattle.inc_fs.specs.State.{Text, text_cmp}
use Rattle.inc_fs.specs.Tidy.{sorted_inserted, sorted_removed}
use Rattle.inc_fs.specs.declared.op.Op.{Op}
use Rattle.inc_fs.specs.declared.op.Op.TheVariants.{MakeDir, Link, Read, Create, Append, Unlink, RemoveDir, Rename}
use Rattle.inc_fs.specs.declared.op.Reply.{Reply}
use Rattle.inc_fs.specs.declared.op.Reply.TheVariants.{Bytes, Done, Fault}
use Rattle.inc_proto.specs.declared.own.Known.{Known}
use Rattle.inc_proto.specs.Events.{Steps}
use Rattle.inc_proto.specs.Permits.{complete, with_bytes}
use Rattle.inc_proto.specs.Views.{Dir, dir, dir_after, put, changed, is_here}
use Rattle.inc_proto.specs.Views.Dir.{Unmade, Stands, Removed, Published}

-- the files of a directory stand in the order of their names
abbrev pub IsOrdered : Dir → Type 0
IsOrdered Unmade = Unit {0}
IsOrdered (Stands krate entry files) = IsStrictlySortedBy text_cmp (keys_of files)
IsOrdered Removed = Unit {0}
IsOrdered (Published krate entry files) = IsStrictlySortedBy text_cmp (keys_of files)

none_ordered : IsStrictlySortedBy text_cmp []
unfolding IsStrictlySortedBy
none_ordered = tt

put_ordered : (file : Text) (f : Known → Known) (found : Option Known) (files : List (Text × Known)) → IsStrictlySortedBy text_cmp (keys_of files) → IsStrictlySortedBy text_cmp (keys_of (put file f found files))
put_ordered file f None files sorted = sorted
put_ordered file f (Some known) files sorted = subst (IsStrictlySortedBy text_cmp) (sym (keys-set_value (is_at (text_cmp file)) files (f known))) sorted

changed_ordered : (file : Text) (f : Known → Known) (files : List (Text × Known)) → IsStrictlySortedBy text_cmp (keys_of files) → IsStrictlySortedBy text_cmp (keys_of (changed file f files))
changed_ordered file f files = put_ordered file f (lookup (is_at (text_cmp file)) files) files

either : (b : Bool) (x y : Dir) → IsOrdered x → IsOrdered y → IsOrdered (cond b x y)
either true x y p q = p
either false x y p q = q

dir_ordered : (op : Op) (reply : Reply) (d : Dir) → IsOrdered d → IsOrdered (dir_after (op, reply) d)
dir_ordered op reply Removed o = tt
dir_ordered op reply (Published krate entry files) o = o
dir_ordered (MakeDir k e) Done Unmade o = none_ordered
dir_ordered op reply Unmade o = tt
dir_ordered (Link k from to file) Done (Stands krate entry files) o = sorted_inserted text_cmp nat_list_cmp_total files file _ o
dir_ordered (Create k e file) Done (Stands krate entry files) o = sorted_inserted text_cmp nat_list_cmp_total files file _ o
dir_ordered (Append k e file piece) Done (Stands krate entry files) o = changed_ordered file _ files o
dir_ordered (Append k e file piece) Fault (Stands krate entry files) o = changed_ordered file _ files o
dir_ordered (Read k e file) (Bytes bytes) (Stands krate entry files) o = changed_ordered file _ files o
dir_ordered (Unlink k e file) Done (Stands krate entry files) o = either (is_here krate entry k e) _ _ (sorted_removed text_cmp (is_at (text_cmp file)) files o) o
dir_ordered (RemoveDir k e) Done (Stands krate entry files) o = either (is_here krate entry k e) Removed (Stands krate entry files) tt o
dir_ordered (Rename k from to) Done (Stands krate entry files) o = either (is_here krate entry k from) (Published k to files) (Stands krate entry files) o o
dir_ordered op reply (Stands krate entry files) o = o

pub files_ordered : (steps : Steps) → IsOrdered (dir steps)
files_ordered [] = tt
files_ordered ((op, reply) ∷ steps) = dir_ordered op reply (dir steps) (files_ordered steps)

-- a complete view has the names of its set
pub complete_keys : (files : List (Text × Known)) (set : List (Text × Text)) → complete files ≡ Some set → keys_of files ≡ keys_of set
complete_keys [] set is = let none : [] ≡ set = cc in ap keys_of none
complete_keys (file ∷ files) set is = go file.1.bytes (complete files) (complete_keys files) refl is
  where
    go : (b : Option Text) (rest : Option (List (Text × Text))) → ((set : List (Text × Text)) → complete files ≡ Some set → keys_of files ≡ keys_of set) → complete files ≡ rest → with_bytes file.0 b rest ≡ Some set → file.0 ∷ keys_of files ≡ keys_of set
    go None rest ih r is = cc
    go (Some bytes) None ih r is = cc
    go (Some bytes) (Some rest) ih r is = let whole : (file.0, bytes) ∷ rest ≡ set = cc in ap (λ keys. file.0 ∷ keys) (ih rest r) ∙ ap keys_of whole
