-- Offsets, lengths and relocations.
use Rattle.std.proofs.Common.{◌≡◌, ℕ, ◌+◌, ◌≤◌, ◌<◌, Bool, true, false, cond, List, [], ◌∷◌, ◌++◌, length, get_or, take, drop, Some, None, refl, sym, ap, subst, ◌∙◌, arith, append_assoc, append-nil, length-append, w64, map}
use Rattle.std.specs.Prelude.{unwrap_or}
use Rattle.std.specs.Int.{cast_unsigned}
use Rattle.std.specs.Option.{option_map_or}
use Rattle.std.specs.List.{flat_map, All}
use Rattle.std.proofs.lemmas.Cmp.{nat_eq_equiv}
use Rattle.std.proofs.lemmas.List.{drop_at, take_more, take-append-drop}
use Rattle.std.proofs.lemmas.List.Elements.{All-head, All-tail, All-map}
use Rattle.inc_wire.specs.Forms.{number_form}
use Rattle.inc_wire.specs.FormLaws.{length-number_form}
use Rattle.rs_tree.specs.declared.place.Place.{Place}
use Rattle.rs_tree.specs.declared.ir.Ir.{Ir}
use Rattle.rs_tree.specs.declared.ir.Instr.{Instr}
use Rattle.rs_tree.specs.declared.ir.Instr.TheVariants as i
use Rattle.rs_object.specs.Grammar.{AreRelocs, HasRelocs}
use Rattle.rs_emit.specs.Code.{size, sizes, is_place, offset_of, offset, bytes_of}
use Rattle.rs_emit.specs.Symbols.{reloc_of, relocs_from}
use Rattle.rs_emit.specs.Objects.{func_of}
use Rattle.rs_emit.specs.Laws.{OffsetsAreSums, CodeHasLength, RelocsAreRight}

-- one more instruction at the end

offset_last : (l : ℕ) (xs : List Instr) (x : Instr) → offset_of l (xs ++ x ∷ []) ≡ cond (is_place l x) (Some (sizes xs)) (offset_of l xs)
offset_last l [] x = refl
offset_last l (y ∷ xs) x = ap (λ o. option_map_or (λ n. Some (size y + n)) o (cond (is_place l y) (Some 0) None)) (offset_last l xs x) ∙ by (is_place l x)
  where
    by : (b : Bool) → option_map_or (λ n. Some (size y + n)) (cond b (Some (sizes xs)) (offset_of l xs)) (cond (is_place l y) (Some 0) None) ≡ cond b (Some (size y + sizes xs)) (offset_of l (y ∷ xs))
    by true = refl
    by false = refl

pub offset_more : (l : ℕ) (xs : List Instr) (k : ℕ) (x : Instr) → k < length xs → x ≡ get_or xs k x → offset (take (k + 1) xs) l ≡ cond (is_place l x) (sizes (take k xs)) (offset (take k xs) l)
offset_more l xs k x less is =
    ap (λ ys. offset ys l) (take_more xs k x less)
    ∙ ap (λ y. offset (take k xs ++ y ∷ []) l) (sym is)
    ∙ ap (λ o. unwrap_or o 0) (offset_last l (take k xs) x)
    ∙ by (is_place l x)
  where
    by : (b : Bool) → unwrap_or (cond b (Some (sizes (take k xs))) (offset_of l (take k xs))) 0 ≡ cond b (sizes (take k xs)) (offset (take k xs) l)
    by true = refl
    by false = refl

sizes-append : (xs ys : List Instr) → sizes (xs ++ ys) ≡ sizes xs + sizes ys
sizes-append [] ys = omega arith
sizes-append (x ∷ xs) ys = omega (arith, sizes-append xs ys)

pub sizes_more : (xs : List Instr) (k : ℕ) (x : Instr) → k < length xs → x ≡ get_or xs k x → sizes (take (k + 1) xs) ≡ sizes (take k xs) + size x
sizes_more xs k x less is =
    let all = ap sizes (take_more xs k x less ∙ ap (λ y. take k xs ++ y ∷ []) (sym is)) ∙ sizes-append (take k xs) (x ∷ []) in
    omega (arith, all)

pub sizes_part : (xs : List Instr) (k : ℕ) → sizes (take k xs) ≤ sizes xs
sizes_part xs k = omega (arith, sizes-append (take k xs) (drop k xs), ap sizes (take-append-drop k xs))

relocs_last : (unit : List ℕ) (at : ℕ) (xs : List Instr) (x : Instr) → relocs_from unit at (xs ++ x ∷ []) ≡ relocs_from unit at xs ++ reloc_of unit (at + sizes xs) x
relocs_last unit at [] x = append-nil (reloc_of unit at x) ∙ (let none : at ≡ at + 0 = omega arith in ap (λ n. reloc_of unit n x) none)
relocs_last unit at (y ∷ xs) x =
    let sum : (at + size y) + sizes xs ≡ at + (size y + sizes xs) = omega arith in
    ap (λ rs. reloc_of unit at y ++ rs) (relocs_last unit (at + size y) xs x)
    ∙ sym (append_assoc (reloc_of unit at y) (relocs_from unit (at + size y) xs) (reloc_of unit ((at + size y) + sizes xs) x))
    ∙ ap (λ n. relocs_from unit at (y ∷ xs) ++ reloc_of unit n x) sum

pub relocs_more : (unit : List ℕ) (xs : List Instr) (k : ℕ) (x : Instr) → k < length xs → x ≡ get_or xs k x → relocs_from unit 0 (take (k + 1) xs) ≡ relocs_from unit 0 (take k xs) ++ reloc_of unit (sizes (take k xs)) x
relocs_more unit xs k x less is =
    let none : 0 + sizes (take k xs) ≡ sizes (take k xs) = omega arith in
    ap (relocs_from unit 0) (take_more xs k x less ∙ ap (λ y. take k xs ++ y ∷ []) (sym is))
    ∙ relocs_last unit 0 (take k xs) x ∙ ap (λ n. relocs_from unit 0 (take k xs) ++ reloc_of unit n x) none

-- laws

two_parts : (w v n m : ℕ) → length (number_form w v ++ number_form n m) ≡ w + n
two_parts w v n m = length-append (number_form w v) (number_form n m) ∙ (λ j. length-number_form w v j + length-number_form n m j)

bytes_length : (at : ℕ → ℕ) (x : Instr) → length (bytes_of at x) ≡ size x
bytes_length at (i.Push value) = two_parts 1 1 8 (cast_unsigned w64 value)
bytes_length at (i.Load slot) = two_parts 1 2 2 slot
bytes_length at (i.Store slot) = two_parts 1 3 2 slot
bytes_length at (i.Plain code) = length-number_form 1 code
bytes_length at (i.Jump code label) = two_parts 1 code 4 (at label)
bytes_length at (i.Label label) = refl
bytes_length at (i.Call inline place) = refl

code_length : (at : ℕ → ℕ) (xs : List Instr) → length (flat_map (bytes_of at) xs) ≡ sizes xs
code_length at [] = refl
code_length at (x ∷ xs) = length-append (bytes_of at x) (flat_map (bytes_of at) xs) ∙ (λ j. bytes_length at x j + code_length at xs j)

pub has_length : CodeHasLength
has_length xs = code_length (offset xs) xs

no_place : (l : ℕ) (xs : List Instr) → All (λ x. is_place l x ≡ false) xs → offset_of l xs ≡ None
no_place l [] none = refl
no_place l (x ∷ xs) none = (λ j. option_map_or (λ n. Some (size x + n)) (no_place l xs (All-tail (λ x. is_place l x ≡ false) x xs none) j) (cond (All-head (λ x. is_place l x ≡ false) x xs none j) (Some 0) None))

pub are_sums : OffsetsAreSums
are_sums [] rest l none = (λ j. option_map_or (λ n. Some (0 + n)) (no_place l rest none j) (cond (nat_eq_equiv.refl l j) (Some 0) None))
are_sums (x ∷ front) rest l none = ap (λ o. option_map_or (λ n. Some (size x + n)) o (cond (is_place l x) (Some 0) None)) (are_sums front rest l none)

-- the relocations of what follows an instruction, from an offset on
abbrev Rest : (ℕ → ℕ) → List ℕ → List ℕ → List Instr → Instr → Type 0
Rest o unit front xs x = (at from : ℕ) → length (front ++ bytes_of o x) ≡ at → from ≤ at → AreRelocs from ((front ++ bytes_of o x) ++ flat_map (bytes_of o) xs) (relocs_from unit at xs)

shown : (o : ℕ → ℕ) (unit front : List ℕ) (xs : List Instr) (x : Instr) (at from : ℕ) → length front ≡ at → from ≤ at + size x → Rest o unit front xs x → AreRelocs from (front ++ (bytes_of o x ++ flat_map (bytes_of o) xs)) (relocs_from unit (at + size x) xs)
shown o unit front xs x at from is le rest =
    let long : length (front ++ bytes_of o x) ≡ at + size x = omega (arith, length-append front (bytes_of o x), bytes_length o x, is) in
    subst (λ (code : List ℕ). AreRelocs from code (relocs_from unit (at + size x) xs)) (append_assoc front (bytes_of o x) (flat_map (bytes_of o) xs)) (rest (at + size x) from long le)

instr_relocs : (o : ℕ → ℕ) (unit front : List ℕ) (xs : List Instr) (x : Instr) (at from : ℕ) → length front ≡ at → from ≤ at → Rest o unit front xs x → AreRelocs from (front ++ (bytes_of o x ++ flat_map (bytes_of o) xs)) (reloc_of unit at x ++ relocs_from unit (at + size x) xs)
instr_relocs o unit front xs (i.Push value) at from is le rest = shown o unit front xs (i.Push value) at from is (omega (arith, le)) rest
instr_relocs o unit front xs (i.Load slot) at from is le rest = shown o unit front xs (i.Load slot) at from is (omega (arith, le)) rest
instr_relocs o unit front xs (i.Store slot) at from is le rest = shown o unit front xs (i.Store slot) at from is (omega (arith, le)) rest
instr_relocs o unit front xs (i.Plain code) at from is le rest = shown o unit front xs (i.Plain code) at from is (omega (arith, le)) rest
instr_relocs o unit front xs (i.Jump code label) at from is le rest = shown o unit front xs (i.Jump code label) at from is (omega (arith, le)) rest
instr_relocs o unit front xs (i.Label label) at from is le rest = shown o unit front xs (i.Label label) at from is (omega (arith, le)) rest
instr_relocs o unit front xs (i.Call inline place) at from is le rest =
    let rest_bytes = flat_map (bytes_of o) xs in
    let long : length (front ++ 48 ∷ []) ≡ at + 1 = omega (arith, length-append front (48 ∷ []), is) in
    let zeros = ap (take 4) (ap (drop (at + 1)) (sym (append_assoc front (48 ∷ []) (0 ∷ 0 ∷ 0 ∷ 0 ∷ rest_bytes))) ∙ drop_at (front ++ 48 ∷ []) (0 ∷ 0 ∷ 0 ∷ 0 ∷ rest_bytes) (at + 1) long) in
    (record { behind = omega (arith, le); zeros = zeros }, shown o unit front xs (i.Call inline place) at (at + 1 + 4) is (omega arith) rest)

pub relocs_right : (o : ℕ → ℕ) (unit : List ℕ) (xs : List Instr) (front : List ℕ) (at from : ℕ) → length front ≡ at → from ≤ at → AreRelocs from (front ++ flat_map (bytes_of o) xs) (relocs_from unit at xs)
relocs_right o unit [] front at from is le = tt
relocs_right o unit (x ∷ xs) front at from is le = instr_relocs o unit front xs x at from is le (λ at from is le. relocs_right o unit xs (front ++ bytes_of o x) at from is le)

pub are_right : RelocsAreRight
are_right unit m = relocs_right (offset m.1.code) unit m.1.code [] 0 0 refl (omega arith)

pub all_right : (unit : List ℕ) (ms : List (Place × Ir)) → All HasRelocs (map (func_of unit) ms)
all_right unit ms = All-map HasRelocs (func_of unit) ms (λ k d less. are_right unit (get_or ms k d))
