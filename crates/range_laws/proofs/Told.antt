-- What is said at a near place of short names is in the ranges of its types.
use Rattle.std.proofs.Common.{◌≡◌, ℕ, ◌+◌, ◌*◌, ◌<◌, ◌≤◌, Bool, true, false, List, [], ◌++◌, length, Option, Some, None, arith, codes, length-append}
use Rattle.std.specs.Prelude.{◌^◌, decimal}
use Rattle.std.proofs.lemmas.Fmt.{length-decimal-le_succ}
use Rattle.inc_wire.specs.Fits.{FitsText}
use Rattle.rs_tree.specs.declared.place.At.{At}
use Rattle.rs_tree.specs.declared.tree.Path as path
use Rattle.rs_tree.specs.declared.tree.Typ.{Typ}
use Rattle.rs_tree.specs.declared.tree.Typ.TheVariants as t
use Rattle.rs_answers.specs.Fits.{FitsDiag}
use Rattle.rs_diag.specs.declared.fault.Want.{Want}
use Rattle.rs_diag.specs.declared.fault.Want.TheVariants as want
use Rattle.rs_diag.specs.Faults.{Wrong, around, code, diag, module_text, path_text, rooted_text, text, typ_text, want_text}
use Rattle.rs_diag.specs.Faults.Wrong.{Lost, Private, Mistyped, Count, Fixed, NoFunction, Function, Cycle, Overflow, DivZero, ConstCall, NoValue, NoMain, BadMain, ParamTwice, Constant, Unused, Dead}
use Rattle.range_laws.specs.Bounded.{most, BoundedPath, IsNear, IsShort, IsShortIn}

-- a name, with the module before it
abbrev pub IsNamed : List ℕ → Type 0
IsNamed name = length name ≤ 3 * most

pub short_named : (name : List ℕ) → IsShort name → IsNamed name
short_named name h = omega (arith, h)

-- what is wrong names and counts no more than a text has
abbrev pub IsSmall : Wrong → Type 0
IsSmall (Lost name) = IsNamed name
IsSmall (Private name) = IsNamed name
IsSmall (Mistyped wanted found) = Unit {0}
IsSmall (Count wanted found) = (wanted ≤ most) × (found ≤ most)
IsSmall (Fixed name) = IsNamed name
IsSmall (NoFunction name) = IsNamed name
IsSmall (Function name) = IsNamed name
IsSmall (Cycle name) = IsNamed name
IsSmall (Overflow name) = IsNamed name
IsSmall (DivZero name) = IsNamed name
IsSmall ConstCall = Unit {0}
IsSmall (NoValue name) = IsNamed name
IsSmall NoMain = Unit {0}
IsSmall BadMain = Unit {0}
IsSmall (ParamTwice name) = IsNamed name
IsSmall (Constant name) = IsNamed name
IsSmall (Unused name) = IsNamed name
IsSmall (Dead name) = IsNamed name

rooted_small : (b : Bool) → length (rooted_text b) ≤ 7
rooted_small true = omega arith
rooted_small false = omega arith

module_small : (m : Option (List ℕ)) → IsShortIn m → length (module_text m) ≤ most + 2
module_small None h = omega arith
module_small (Some m) h = omega (arith, h, length-append m (codes "::"))

-- a path as it is written
pub path_named : (p : path.Path) → BoundedPath p → IsNamed (path_text p)
path_named p b = three (rooted_text p.rooted) (module_text p.module) p.name (rooted_small p.rooted) (module_small p.module b.module) b.name
  where
    three : (x y z : List ℕ) → length x ≤ 7 → length y ≤ most + 2 → length z ≤ most → length (x ++ y ++ z) ≤ 3 * most
    three x y z f g h = omega (arith, f, g, h, length-append (x ++ y) z, length-append x y)

-- ---- Texts of parts.

fits_by : {n m : ℕ} → n ≡ m → m < 2 ^ 32 → n < 2 ^ 32
fits_by e h = omega (arith, e, h)

four_long : (a b c d : List ℕ) → length (a ++ b ++ c ++ d) ≡ length a + length b + length c + length d
four_long a b c d = omega (arith, length-append (a ++ b ++ c) d, length-append (a ++ b) c, length-append a b)

five_long : (a b c d e : List ℕ) → length (a ++ b ++ c ++ d ++ e) ≡ length a + length b + length c + length d + length e
five_long a b c d e = omega (arith, length-append (a ++ b ++ c ++ d) e, four_long a b c d)

around_fits : (before name after : List ℕ) → length before ≤ 32 → length after ≤ 32 → IsNamed name → FitsText (around before name after)
around_fits before name after f g h = fits_by (five_long before (codes "`") name (codes "`") after) (omega (arith, f, g, h))

typ_small : (typ : Typ) → length (typ_text typ) ≤ 4
typ_small t.Unit = omega arith
typ_small t.Int = omega arith
typ_small t.Bool = omega arith

want_small : (w : Want) → length (want_text w) ≤ 7
want_small (want.Of typ) = omega (arith, typ_small typ)
want_small want.Value = omega arith

mistyped_fits : (wanted : Want) (found : Typ) → FitsText (text (Mistyped wanted found))
mistyped_fits wanted found = fits_by (four_long (codes "expected ") (want_text wanted) (codes ", found ") (typ_text found)) (omega (arith, want_small wanted, typ_small found))

number_small : (n : ℕ) → n ≤ most → length (decimal n) ≤ most + 1
number_small n h = omega (arith, h, length-decimal-le_succ n (omega (arith, h)))

count_fits : (wanted found : ℕ) → wanted ≤ most → found ≤ most → FitsText (text (Count wanted found))
count_fits wanted found f g = fits_by (four_long (codes "expected ") (decimal wanted) (codes " arguments, found ") (decimal found)) (omega (arith, number_small wanted f, number_small found g))

text_fits : (w : Wrong) → IsSmall w → FitsText (text w)
text_fits (Lost name) h = around_fits (codes "cannot find ") name [] (omega arith) (omega arith) h
text_fits (Private name) h = around_fits [] name (codes " is private") (omega arith) (omega arith) h
text_fits (Mistyped wanted found) h = mistyped_fits wanted found
text_fits (Count wanted found) h = count_fits wanted found h.0 h.1
text_fits (Fixed name) h = around_fits (codes "cannot assign to ") name [] (omega arith) (omega arith) h
text_fits (NoFunction name) h = around_fits [] name (codes " is not a function") (omega arith) (omega arith) h
text_fits (Function name) h = around_fits [] name (codes " is a function") (omega arith) (omega arith) h
text_fits (Cycle name) h = around_fits (codes "cycle in constant ") name [] (omega arith) (omega arith) h
text_fits (Overflow name) h = around_fits (codes "constant ") name (codes " overflows") (omega arith) (omega arith) h
text_fits (DivZero name) h = around_fits (codes "constant ") name (codes " divides by zero") (omega arith) (omega arith) h
text_fits ConstCall h = omega arith
text_fits (NoValue name) h = around_fits (codes "missing value at the end of ") name [] (omega arith) (omega arith) h
text_fits NoMain h = omega arith
text_fits BadMain h = omega arith
text_fits (ParamTwice name) h = around_fits (codes "parameter ") name (codes " twice") (omega arith) (omega arith) h
text_fits (Constant name) h = around_fits [] name (codes " is a constant") (omega arith) (omega arith) h
text_fits (Unused name) h = around_fits (codes "unused variable ") name [] (omega arith) (omega arith) h
text_fits (Dead name) h = around_fits (codes "function ") name (codes " is never used") (omega arith) (omega arith) h

code_fits : (w : Wrong) → code w < 2 ^ 16
code_fits (Lost name) = omega arith
code_fits (Private name) = omega arith
code_fits (Mistyped wanted found) = omega arith
code_fits (Count wanted found) = omega arith
code_fits (Fixed name) = omega arith
code_fits (NoFunction name) = omega arith
code_fits (Function name) = omega arith
code_fits (Cycle name) = omega arith
code_fits (Overflow name) = omega arith
code_fits (DivZero name) = omega arith
code_fits ConstCall = omega arith
code_fits (NoValue name) = omega arith
code_fits NoMain = omega arith
code_fits BadMain = omega arith
code_fits (ParamTwice name) = omega arith
code_fits (Constant name) = omega arith
code_fits (Unused name) = omega arith
code_fits (Dead name) = omega arith

pub diag_fits : (at : At) (w : Wrong) → IsNear at → IsSmall w → FitsDiag (diag at w)
diag_fits at w near small =
    let l = near.line in
    let c = near.column in
    record { line = omega (arith, l); column = omega (arith, c); code = code_fits w; text = text_fits w small }
