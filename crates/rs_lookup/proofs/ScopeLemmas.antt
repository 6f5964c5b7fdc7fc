use Rattle.std.proofs.Common.{◌≡◌, ℕ, suc, ◌-◌, ◌<◌, Bool, true, false, if◌then◌else◌, List, [], ◌∷◌, length, get_or, drop, reverse, ◌++◌, cond, Option, Some, None, Result, Ok, Err, OnOk, OnErr, refl, sym, ap, ◌∙◌, subst, arith}
use Rattle.std.proofs.lemmas.List.{length-reverse, get_or-reverse, reverse-append}
use Rattle.std.proofs.lemmas.Map.Text.{is_eq-slice_cmp}
use Rattle.std.proofs.lemmas.Cmp.{nat_list_eq_equiv}
use Rattle.std.proofs.lemmas.Slice.Eq.{bytes_eq-Decides}
use Rattle.std.specs.Ordering.{is_eq}
use Rattle.std.specs.Str.{bytes_eq}
use Rattle.std.specs.Borrow.{Bor}
use Rattle.std.specs.BTreeMap as map
use Rattle.std.specs.declared.collections.BTreeMap.{BTreeMap}
use Rattle.std.specs.declared.alloc.Global.{Global}
use Rattle.rs_lookup.specs.Env.{find}
use Rattle.rs_lookup.specs.Tracks.{name_cmp, shown, place, Tracks}
use Rattle.rs_lookup.specs.declared.scope.Entry.{Entry}

shown_length : (es : List Entry) → length (shown es) ≡ length es
shown_length [] = refl
shown_length (e ∷ older) = ap suc (shown_length older)

pub shown_reverse_length : (es : List Entry) → length (shown (reverse es)) ≡ length es
shown_reverse_length es = shown_length (reverse es) ∙ length-reverse es

none_step : (b : Bool) (x n : ℕ) (p q : Option ℕ) → (p ≡ None → q ≡ None) → (if b then Some n else p) ≡ None → (if b then Some x else q) ≡ None
none_step true x n p q r h = cc
none_step false x n p q r h = r h

place_none : (name : List ℕ) (es : List Entry) → place name es ≡ None → find name (shown es) ≡ None
place_none name [] h = refl
place_none name (e ∷ older) h = none_step (bytes_eq name e.name.now) e.number (length older) (place name older) (find name (shown older)) (place_none name older) h

some_step : (b : Bool) (e : Entry) (older : List Entry) (p q : Option ℕ) (i : ℕ) (d : Entry)
    → (p ≡ Some i → (i < length older) × (q ≡ Some (get_or older (length older - 1 - i) d).number))
    → (if b then Some (length older) else p) ≡ Some i
    → (i < suc (length older)) × ((if b then Some e.number else q) ≡ Some (get_or (e ∷ older) (suc (length older) - 1 - i) d).number)
some_step true e older p q i d r h =
    let same : length older ≡ i = cc in
    let n : suc (length older) - 1 - i ≡ 0 = omega arith in
    (omega arith, rw n refl)
some_step false e older p q i d r h =
    let (below, found) = r h in
    let n : suc (length older) - 1 - i ≡ suc (length older - 1 - i) = omega arith in
    (omega arith, rw n found)

place_some : (name : List ℕ) (es : List Entry) (i : ℕ) (d : Entry) → place name es ≡ Some i → (i < length es) × (find name (shown es) ≡ Some (get_or es (length es - 1 - i) d).number)
place_some name [] i d h = cc
place_some name (e ∷ older) i d h = some_step (bytes_eq name e.name.now) e older (place name older) (find name (shown older)) i d (place_some name older i d) h

pub found_none : (m : BTreeMap (Bor (List ℕ)) ℕ Global) (xs : List Entry) (name : Bor (List ℕ)) → Tracks m (reverse xs) → map.get name_cmp m name ≡ None → find name.now (shown (reverse xs)) ≡ None
found_none m xs name t h = place_none name.now (reverse xs) (sym (t.leads name) ∙ h)

pub found_at : (m : BTreeMap (Bor (List ℕ)) ℕ Global) (xs : List Entry) (name : Bor (List ℕ)) (i : ℕ) (d : Entry) → Tracks m (reverse xs) → map.get name_cmp m name ≡ Some i
    → (i < length xs) × (find name.now (shown (reverse xs)) ≡ Some (get_or xs i d).number)
found_at m xs name i d t h =
    let (below, found) = place_some name.now (reverse xs) i d (sym (t.leads name) ∙ h) in
    let l : length (reverse xs) ≡ length xs = length-reverse xs in
    let b : i < length xs = omega arith in
    let k : length xs - 1 - (length (reverse xs) - 1 - i) ≡ i = omega arith in
    let j : length (reverse xs) - 1 - i < length xs = omega arith in
    (b, found ∙ ap (λ (x : Entry). Some x.number) (get_or-reverse xs (length (reverse xs) - 1 - i) d j ∙ ap (λ (n : ℕ). get_or xs n d) k))

pub found_below : (m : BTreeMap (Bor (List ℕ)) ℕ Global) (xs : List Entry) (name : Bor (List ℕ)) (i : ℕ) → Tracks m (reverse xs) → map.get name_cmp m name ≡ Some i → i < length xs
found_below m xs name i t h = (found_at m xs name i (record { name = name; number = 0; hidden = None }) t h).0

name_is_eq : (a b : Bor (List ℕ)) → is_eq (name_cmp a b) ≡ bytes_eq b.now a.now
name_is_eq a b = is_eq-slice_cmp a.now b.now ∙ nat_list_eq_equiv.symm a.now b.now

-- one more local
entered : (m n : BTreeMap (Bor (List ℕ)) ℕ Global) (es : List Entry) (e : Entry) → Tracks m es → e.hidden ≡ map.get name_cmp m e.name → map.Updates name_cmp m n e.name (Some (length es)) → Tracks n (e ∷ es)
entered m n es e t hidden up = record {
  leads = λ q. up.0 q ∙ (λ i. cond (name_is_eq e.name q i) (Some (length es)) (t.leads q i));
  hides = (hidden ∙ t.leads e.name, t.hides);
}

pub declared : (m n : BTreeMap (Bor (List ℕ)) ℕ Global) (xs ys : List Entry) (e : Entry) (at : ℕ) → Tracks m (reverse xs) → at ≡ length xs → e.hidden ≡ map.get name_cmp m e.name
    → map.Updates name_cmp m n e.name (Some at) → ys ≡ xs ++ e ∷ [] → Tracks n (reverse ys)
declared m n xs ys e at t is hidden up more =
    let all : at ≡ length (reverse xs) = is ∙ sym (length-reverse xs) in
    subst (Tracks n) (sym (ap reverse more ∙ reverse-append xs (e ∷ [])))
    (entered m n (reverse xs) e t hidden (subst (λ (k : ℕ). map.Updates name_cmp m n e.name (Some k)) all up))

-- one local less
taken : (m n : BTreeMap (Bor (List ℕ)) ℕ Global) (es : List Entry) (e : Entry) (o : Option ℕ) → Tracks m (e ∷ es) → e.hidden ≡ o → map.Updates name_cmp m n e.name o → Tracks n es
taken m n es e o t is up = record {
  leads = λ q. up.0 q ∙ (λ i. cond (name_is_eq e.name q i) o (t.leads q i)) ∙ by q (bytes_eq q.now e.name.now) refl;
  hides = t.hides.1;
}
  where
    by : (q : Bor (List ℕ)) (b : Bool) → bytes_eq q.now e.name.now ≡ b → cond b o (cond b (Some (length es)) (place q.now es)) ≡ place q.now es
    by q true h = sym is ∙ t.hides.0 ∙ ap (λ (x : List ℕ). place x es) (sym ((bytes_eq-Decides q.now e.name.now).0 h))
    by q false h = refl

pub undone : (m n : BTreeMap (Bor (List ℕ)) ℕ Global) (xs ys : List Entry) (e : Entry) (o : Option ℕ) → Tracks m (reverse xs) → e.hidden ≡ o
    → map.Updates name_cmp m n e.name o → xs ≡ ys ++ e ∷ [] → Tracks n (reverse ys)
undone m n xs ys e o t is up less = taken m n (reverse ys) e o (subst (Tracks m) (ap reverse less ∙ reverse-append ys (e ∷ [])) t) is up

-- what is taken away was the innermost of its name
pub present : (m : BTreeMap (Bor (List ℕ)) ℕ Global) (xs ys : List Entry) (e : Entry) → Tracks m (reverse xs) → xs ≡ ys ++ e ∷ [] → map.get name_cmp m e.name ≡ Some (length (reverse ys))
present m xs ys e t less =
    let here : Tracks m (e ∷ reverse ys) = subst (Tracks m) (ap reverse less ∙ reverse-append ys (e ∷ [])) t in
    here.leads e.name ∙ (λ i. cond ((bytes_eq-Decides e.name.now e.name.now).1 refl i) (Some (length (reverse ys))) (place e.name.now (reverse ys)))

-- a key that is there is set without memory
pub set_there : {T E : Type 0} {P : Type 0} (r : Result T E) (o : Option ℕ) (k : ℕ) → OnOk r P → OnErr r (o ≡ None) → o ≡ Some k → P
set_there (Ok x) o k ok err is = ok
set_there (Err e) o k ok err is = absurd (let bad : Some k ≡ None = sym is ∙ err in cc)

pub left_one : {X : Type 0} (xs ys : List X) (d : ℕ) → d < length xs → ys ≡ drop 1 xs → drop (length ys - d) ys ≡ drop (length xs - d) xs
left_one [] ys d h e = absurd (omega arith)
left_one (x ∷ xs) ys d h e =
    let n : suc (length xs) - d ≡ suc (length xs - d) = omega arith in
    rw (e, n) refl

pub ruleset scopes = (found_none, found_at, found_below, shown_reverse_length)
