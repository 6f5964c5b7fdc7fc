-- Numbers of functions, and code with numbers in it.
use Rattle.std.proofs.Common.{◌≡◌, ℕ, ◌+◌, ◌-◌, ◌<◌, ◌≤◌, ◌^◌, suc, Bool, true, false, cond, ◌||◌, List, [], ◌∷◌, ◌++◌, length, get_or, take, drop, map, Option, Some, refl, sym, ap, subst, ◌∙◌, arith, Bor, nat_cmp, append_assoc, length-append}
use Rattle.std.specs.Prelude.{is_some, unwrap_or}
use Rattle.std.specs.List.{All, flat_map, list_any}
use Rattle.std.specs.Cmp.Lexicographic.{slice_cmp}
use Rattle.std.specs.Str.{bytes_eq}
use Rattle.std.specs.BTreeMap.{BTreeMap, get_by, UpdatesBy}
use Rattle.std.proofs.lemmas.Map.Text.{btree_map_updates_str}
use Rattle.std.proofs.lemmas.Cmp.{nat_list_eq_equiv}
use Rattle.std.proofs.lemmas.List.{at_drop_more, take_more, take_at, drop_at, drop-drop, take-append-drop, length-take, length-drop, flat_map_more, length-map, get_or-map}
use Rattle.std.proofs.lemmas.List.Elements.{All-nil, All-head, All-tail, All-append}
use Rattle.std.proofs.lemmas.List.Sums.{fold_push}
use Rattle.inc_wire.specs.Forms.{number_form}
use Rattle.rs_object.specs.Grammar.{IsReloc, AreRelocs, HasRelocs, InGrammar}
use Rattle.rs_object.specs.declared.object.Func.{Func}
use Rattle.rs_object.specs.declared.object.Object.{Object}
use Rattle.rs_link.specs.Symbols.{funcs_of, number_from, number_of, first_twice}
use Rattle.rs_link.specs.Image.{with_number, linked_code, body_form}

-- what borrowed functions are
abbrev pub seen : List (Bor Func) → List Func
seen fs = map (λ (f : Bor Func). f.now) fs

-- one more function, before those that the table has
pub table_more : (m n : BTreeMap (Bor (List ℕ)) ℕ) (fs : List (Bor Func)) (i : ℕ) (d : Bor Func) (bs : List ℕ) → i < length fs → bs ≡ (get_or fs i d).now.symbol
    → UpdatesBy (λ (x y : Bor (List ℕ)). slice_cmp nat_cmp x.now y.now) (λ (k : Bor (List ℕ)). slice_cmp nat_cmp bs k.now) m n (Some i)
    → ((q : List ℕ) → get_by (λ (k : Bor (List ℕ)). slice_cmp nat_cmp q k.now) m ≡ number_from q (i + 1) (seen (drop (i + 1) fs)))
    → (q : List ℕ) → get_by (λ (k : Bor (List ℕ)). slice_cmp nat_cmp q k.now) n ≡ number_from q i (seen (drop i fs))
table_more m n fs i d bs l is up has q =
    btree_map_updates_str bs m n (Some i) up q
    ∙ (λ j. cond ((nat_list_eq_equiv.symm bs q ∙ ap (bytes_eq q) is) j) (Some i) (has q j))
    ∙ sym (at_drop_more (λ gs. number_from q i (seen gs)) fs i d l)

-- a symbol has a number where a function has it
has_number : (s : List ℕ) (i : ℕ) (fs : List Func) → is_some (number_from s i fs) ≡ list_any (λ g. bytes_eq s g.symbol) fs
has_number s i [] = refl
has_number s i (f ∷ fs) = by (bytes_eq s f.symbol) (has_number s (i + 1) fs)
  where
    by : (b : Bool) → is_some (number_from s (i + 1) fs) ≡ list_any (λ g. bytes_eq s g.symbol) fs → is_some (cond b (Some i) (number_from s (i + 1) fs)) ≡ (b || list_any (λ g. bytes_eq s g.symbol) fs)
    by true h = refl
    by false h = h

pub twice_more : (fs : List (Bor Func)) (i : ℕ) (d : Bor Func) (bs : List ℕ) (again : Bool) (old new : Option (List ℕ)) → i < length fs → bs ≡ (get_or fs i d).now.symbol
    → again ≡ is_some (number_from bs (i + 1) (seen (drop (i + 1) fs))) → old ≡ first_twice (seen (drop (i + 1) fs)) → new ≡ cond again (Some bs) old → new ≡ first_twice (seen (drop i fs))
twice_more fs i d bs again old new l is more before now =
    let rest = seen (drop (i + 1) fs) in
    now
    ∙ (λ j. cond ((more ∙ has_number bs (i + 1) rest) j) (Some bs) (before j))
    ∙ ap (λ s. cond (list_any (λ g. bytes_eq s g.symbol) rest) (Some s) (first_twice rest)) is
    ∙ sym (at_drop_more (λ gs. first_twice (seen gs)) fs i d l)

number_below : (s : List ℕ) (i n : ℕ) (fs : List Func) → number_from s i fs ≡ Some n → n < i + length fs
number_below s i n [] e = absurd cc
number_below s i n (f ∷ fs) e = by (bytes_eq s f.symbol) e (λ h. number_below s (i + 1) n fs h)
  where
    by : (b : Bool) → cond b (Some i) (number_from s (i + 1) fs) ≡ Some n → (number_from s (i + 1) fs ≡ Some n → n < i + 1 + length fs) → n < i + suc (length fs)
    by true e rest = let same : i ≡ n = cc in omega arith
    by false e rest = omega (arith, rest e)

pub number_small : (s : List ℕ) (n : ℕ) (fs : List Func) → length fs < 2 ^ 32 → Some n ≡ number_of fs s → n < 2 ^ 32
number_small s n fs few e = omega (arith, number_below s 0 n fs (sym e))

-- a relocation's place lies in the code
pub room : (code : List ℕ) (from at : ℕ) → IsReloc from code at → at + 4 ≤ length code
room code from at r =
    let long : length (take 4 (drop at code)) ≡ 4 = ap length r.zeros in
    omega (arith, long, length-take 4 (drop at code), length-drop at code)

-- a number goes behind what is copied up to its place
pub patched : (front code slice : List ℕ) (from at n : ℕ) → length front ≡ from → from ≤ at → at + 4 ≤ length code → slice ≡ take (at - from) (drop from code)
    → ((front ++ slice) ++ number_form 4 n) ++ drop (at + 4) code ≡ with_number (front ++ drop from code) at n
patched front code slice from at n long le room is =
    let rest = drop from code in
    let m = at - from in
    let parts : front ++ rest ≡ (front ++ take m rest) ++ drop m rest = ap (λ xs. front ++ xs) (sym (take-append-drop m rest)) ∙ sym (append_assoc front (take m rest) (drop m rest)) in
    let size : length (front ++ take m rest) ≡ at = omega (arith, length-append front (take m rest), length-take m rest, length-drop from code, long) in
    let before : take at (front ++ rest) ≡ front ++ take m rest = ap (take at) parts ∙ take_at (front ++ take m rest) (drop m rest) at size in
    let to : from + (at + 4 - from) ≡ at + 4 = omega arith in
    let after : drop (at + 4) (front ++ rest) ≡ drop (at + 4) code =
    ap (λ k. drop k (front ++ rest)) (sym to) ∙ sym (drop-drop (at + 4 - from) from (front ++ rest))
    ∙ ap (drop (at + 4 - from)) (drop_at front rest from long) ∙ drop-drop (at + 4 - from) from code ∙ ap (λ k. drop k code) to in
    append_assoc (front ++ slice) (number_form 4 n) (drop (at + 4) code)
    ∙ (λ j. (front ++ is j) ++ (number_form 4 n ++ drop (at + 4) code))
    ∙ (λ j. sym before j ++ (number_form 4 n ++ sym after j))

pub linked_more : (all : List Func) (code : List ℕ) (rs : List (ℕ × List ℕ)) (k : ℕ) (r : ℕ × List ℕ) → k < length rs → r ≡ get_or rs k r → linked_code all code (take (k + 1) rs) ≡ with_number (linked_code all code (take k rs)) r.0 (unwrap_or (number_of all r.1) 0)
linked_more all code rs k r l is =
    ap (linked_code all code) (take_more rs k r l ∙ ap (λ x. take k rs ++ x ∷ []) (sym is))
    ∙ fold_push (λ c (r : ℕ × List ℕ). with_number c r.0 (unwrap_or (number_of all r.1) 0)) code (take k rs) r

pub rest_relocs : (from : ℕ) (code : List ℕ) (rs : List (ℕ × List ℕ)) (k : ℕ) (r : ℕ × List ℕ) → k < length rs → r ≡ get_or rs k r → AreRelocs from code (drop k rs) → IsReloc from code r.0 × AreRelocs (r.0 + 4) code (drop (k + 1) rs)
rest_relocs from code rs k r l is are =
    let at : drop k rs ≡ r ∷ drop (k + 1) rs = at_drop_more (λ xs. xs) rs k r l ∙ ap (λ x. x ∷ drop (k + 1) rs) (sym is) in
    subst (λ (xs : List (ℕ × List ℕ)). AreRelocs from code xs) at are

-- one more function's bytes
pub body_more : (all : List Func) (fs : List Func) (start image new : List ℕ) (k : ℕ) (f : Func) → k < length fs → f ≡ get_or fs k f → image ≡ start ++ flat_map (body_form all) (take k fs) → new ≡ image ++ body_form all f → new ≡ start ++ flat_map (body_form all) (take (k + 1) fs)
body_more all fs start image new k f l is so_far now =
    now ∙ ap (λ xs. xs ++ body_form all f) so_far
    ∙ flat_map_more (body_form all) start (take k fs) f
    ∙ ap (λ xs. start ++ flat_map (body_form all) xs) (sym (take_more fs k f l ∙ ap (λ x. take k fs ++ x ∷ []) (sym is)))

pub at_seen : (fs : List (Bor Func)) (k : ℕ) (r : Bor Func) → k < length fs → r ≡ get_or fs k r → (k < length (seen fs)) × (r.now ≡ get_or (seen fs) k r.now)
at_seen fs k r l is = (omega (arith, l, length-map fs (λ (f : Bor Func). f.now)), ap (λ (f : Bor Func). f.now) is ∙ sym (get_or-map (λ (f : Bor Func). f.now) fs k r r.now l))

-- the functions of objects that are in the grammar
pub all_have_relocs : (os : List Object) → All InGrammar os → All HasRelocs (funcs_of os)
all_have_relocs [] all = All-nil HasRelocs
all_have_relocs (o ∷ os) all = All-append HasRelocs o.funcs (funcs_of os) (All-head InGrammar o os all) (all_have_relocs os (All-tail InGrammar o os all))
