-- The locals in scope, as they are held.
use Rattle.std.proofs.Common.{◌≡◌, ℕ, zero, suc, ◌<◌, ◌-◌, Bool, true, false, cond, List, [], ◌∷◌, ◌++◌, length, get_or, map, drop, Some, refl, sym, ap, arith, length-append}
use Rattle.std.specs.Option.{option_map}
use Rattle.std.specs.Str.{bytes_eq}
use Rattle.std.proofs.lemmas.Slice.Eq.{bytes_eq-Decides}
use Rattle.rs_lookup.specs.Env as names
use Rattle.rs_lower.specs.declared.locals.Held.{Held}
use Rattle.rs_lower.specs.Locals.{find}
use Rattle.rs_lower.specs.Held.{local_of, none_held, shown, AreHeld}

kept : (hs : List Held) (h : Held) (k : ℕ) (d : Held) → k < length hs → get_or (hs ++ h ∷ []) k d ≡ get_or hs k d
kept [] h k d less = absurd (omega (arith, less))
kept (g ∷ hs) h zero d less = refl
kept (g ∷ hs) h (suc k) d less = kept hs h k d (omega (arith, less))

last : (hs : List Held) (h d : Held) → get_or (hs ++ h ∷ []) (length hs) d ≡ h
last [] h d = refl
last (g ∷ hs) h d = last hs h d

pub held_more : (hs : List Held) (h : Held) (es : names.Env) → AreHeld hs es → AreHeld (hs ++ h ∷ []) es
held_more hs h [] are = tt
held_more hs h (e ∷ es) are = (omega (arith, are.0, length-append hs (h ∷ [])), held_more hs h es are.1)

shown_more : (hs : List Held) (h : Held) (es : names.Env) → AreHeld hs es → map (shown (hs ++ h ∷ [])) es ≡ map (shown hs) es
shown_more hs h [] are = refl
shown_more hs h (e ∷ es) are = (λ j. local_of e.0 (kept hs h e.1 none_held are.0 j) ∷ shown_more hs h es are.1 j)

-- one more local, innermost
pub declared : (hs : List Held) (h : Held) (name : List ℕ) (es : names.Env) → AreHeld hs es → map (shown (hs ++ h ∷ [])) ((name, length hs) ∷ es) ≡ local_of name h ∷ map (shown hs) es
declared hs h name es are = (λ j. local_of name (last hs h none_held j) ∷ shown_more hs h es are j)

pub declared_held : (hs : List Held) (h : Held) (name : List ℕ) (es : names.Env) → AreHeld hs es → AreHeld (hs ++ h ∷ []) ((name, length hs) ∷ es)
declared_held hs h name es are = (omega (arith, length-append hs (h ∷ [])), held_more hs h es are)

-- the innermost of a name
pub found_shown : (hs : List Held) (name : List ℕ) (es : names.Env) → find name (map (shown hs) es) ≡ option_map (λ n. local_of name (get_or hs n none_held)) (names.find name es)
found_shown hs name [] = refl
found_shown hs name (e ∷ es) = by (bytes_eq name e.0) (bytes_eq-Decides name e.0).0 (found_shown hs name es)
  where
    by : (b : Bool) → (b ≡ true → name ≡ e.0) → find name (map (shown hs) es) ≡ option_map (λ n. local_of name (get_or hs n none_held)) (names.find name es) → cond b (Some (shown hs e)) (find name (map (shown hs) es)) ≡ option_map (λ n. local_of name (get_or hs n none_held)) (cond b (Some e.1) (names.find name es))
    by true same rest = ap (λ x. Some (local_of x (get_or hs e.1 none_held))) (sym (same refl))
    by false same rest = rest

pub found_below : (hs : List Held) (name : List ℕ) (es : names.Env) (n : ℕ) → AreHeld hs es → names.find name es ≡ Some n → n < length hs
found_below hs name [] n are is = absurd cc
found_below hs name (e ∷ es) n are is = by (bytes_eq name e.0) (λ h. found_below hs name es n are.1 h) is
  where
    by : (b : Bool) → (names.find name es ≡ Some n → n < length hs) → cond b (Some e.1) (names.find name es) ≡ Some n → n < length hs
    by true rest h = let same : e.1 ≡ n = cc in omega (arith, are.0)
    by false rest h = rest h

-- leaving a block
pub left_held : (hs : List Held) (k : ℕ) (es : names.Env) → AreHeld hs es → AreHeld hs (drop k es)
left_held hs zero es are = are
left_held hs (suc k) [] are = tt
left_held hs (suc k) (e ∷ es) are = left_held hs k es are.1

pub length-shown : (hs : List Held) (es : names.Env) → length (map (shown hs) es) ≡ length es
length-shown hs [] = refl
length-shown hs (e ∷ es) = ap suc (length-shown hs es)

pub left_shown : (hs : List Held) (k : ℕ) (es : names.Env) → map (shown hs) (drop k es) ≡ drop k (map (shown hs) es)
left_shown hs zero es = refl
left_shown hs (suc k) [] = refl
left_shown hs (suc k) (e ∷ es) = left_shown hs k es

-- leaving all
pub none_left : (hs : List Held) (es : names.Env) → AreHeld hs (drop (length es - 0) es)
none_left hs es =
    let n : length es - 0 ≡ length es = omega arith in
    rw n (rw (drop_none es) tt)
  where
    drop_none : (xs : names.Env) → drop (length xs) xs ≡ []
    drop_none [] = refl
    drop_none (x ∷ xs) = drop_none xs

pub ruleset holds = (none_left, held_more, declared, declared_held, found_shown, found_below, left_held, left_shown, length-shown)
