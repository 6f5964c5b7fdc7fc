-- An item is read as it is seen from its first token.
use Rattle.std.proofs.Common.{◌≡◌, ℕ, zero, suc, ◌-◌, ◌<◌, List, [], ◌∷◌, length, Some, None, Result, Ok, Err, sym, ap, ◌∙◌, subst, take, drop, arith}
use Rattle.std.proofs.lemmas.List.{take-append-drop, length-map}
use Rattle.rs_tree.specs.declared.place.At.{At}
use Rattle.rs_tree.specs.declared.tree.Item as item
use Rattle.rs_reader.specs.declared.fault.Fault.{Fault}
use Rattle.rs_reader.specs.declared.fault.Fault.TheVariants as fault
use Rattle.rs_grammar.specs.Lexeme.{Lexeme, moved, seen, next_place, start_of}
use Rattle.rs_grammar.specs.declared.sited.Sited.{Sited}
use Rattle.rs_grammar.specs.Grammar.{Nt, Item, Definition, made}
use Rattle.rs_grammar.specs.Parses.{Parses, r-nt, r-no_nt, r-here, r-no_here, r-here_end}
use Rattle.rs_grammar.proofs.Lists.{some_same}
use Rattle.rs_grammar.proofs.Seen.{seen_last}
use Rattle.rs_grammar.proofs.Soundness.{read_matches, read_front}
use Rattle.std.specs.Result.{IsErrAnd}
use Rattle.rs_reader.specs.Reading.{Reading}
use Rattle.rs_reader.proofs.Exits.{failed, out_of_memory, read_as}

pub nothing_there : {u : List Lexeme} → next_place u ≡ None → Parses _ (Nt Item) u None u
nothing_there {u = []} e = r-no_nt {n = Item} r-here_end
nothing_there {u = t ∷ u} e = absurd cc

pub item_fails : (u : List Lexeme) (start : At) (v : List Lexeme) → next_place u ≡ Some start → Parses _ (Nt Definition) (seen start u) None v → Parses _ (Nt Item) u None (drop (length u - length v) u)
item_fails [] start v e r = absurd cc
item_fails (t ∷ u) start v e r =
    let m = read_front r in
    let h : t.at ≡ start = some_same e in
    let n = length (t ∷ u) - length v in
    r-no_nt {n = Item} (r-no_here (take n (t ∷ u)) (sym (take-append-drop n (t ∷ u)))
    (subst (λ (at : At). Parses _ (Nt Definition) (seen at (t ∷ u)) None (seen at (drop n (t ∷ u)))) (sym h)
    (subst (λ (w : List Lexeme). Parses _ (Nt Definition) (seen start (t ∷ u)) None w) (sym (seen_last start (t ∷ u) v m.0 m.1)) r)))

pub item_reads : (u : List Lexeme) (start : At) (x : item.Item) (v : List Lexeme) → next_place u ≡ Some start → length v < length u → Parses _ (Nt Definition) (seen start u) (Some x) v
    → Parses _ (Nt Item) u (Some (made Item (take (length u - length v) u, x))) (drop (length u - length v) u)
item_reads [] start x v e l r = absurd cc
item_reads (t ∷ u) start x v e l r = go (length u - length v) (omega (arith, l))
  where
    go : (n : ℕ) → length (t ∷ u) - length v ≡ suc n → Parses _ (Nt Item) (t ∷ u) (Some (made Item (take (length (t ∷ u) - length v) (t ∷ u), x))) (drop (length (t ∷ u) - length v) (t ∷ u))
    go n k =
        let m = read_matches r in
        let h : t.at ≡ start = some_same e in
        let s : seen start (drop (suc n) (t ∷ u)) ≡ v = ap (λ i. seen start (drop i (t ∷ u))) (sym k) ∙ seen_last start (t ∷ u) v m.0 m.1 in
        subst (λ (i : ℕ). Parses _ (Nt Item) (t ∷ u) (Some (made Item (take i (t ∷ u), x))) (drop i (t ∷ u))) (sym k)
        (r-nt {n = Item} {x = (t ∷ take n u, x)} (r-here (take n u) (sym (take-append-drop n u))
        (subst (λ (at : At). Parses _ (Nt Definition) (seen at (t ∷ u)) (Some x) (seen at (drop n u))) (sym h)
        (subst (λ (w : List Lexeme). Parses _ (Nt Definition) (seen start (t ∷ u)) (Some x) w) (sym s) r))))

-- a form that takes a token leaves a first one
pub starts : (u : List Lexeme) (start : At) (n : ℕ) → next_place u ≡ Some start → start ≡ start_of (take (suc n) u)
starts [] start n e = absurd cc
starts (t ∷ u) start n e = sym (some_same e)

starts_so : (u : List Lexeme) (start : At) (n : ℕ) → next_place u ≡ Some start → 0 < n → start ≡ start_of (take n u)
starts_so u start n e h = go n h
  where
    go : (n : ℕ) → 0 < n → start ≡ start_of (take n u)
    go zero h = absurd (omega (arith, h))
    go (suc n) h = starts u start n e

-- How the function returns: u are the tokens, s as they are seen, v what the definition leaves of those.
module _ (u s v w front : List Lexeme) (start : At) (l m n : ℕ) (there : next_place u ≡ Some start) (sight : s ≡ seen start u) (all : l ≡ length u) (left : m ≡ length v) (count : n ≡ l - m) (fronts : front ≡ take n u) (skips : w ≡ drop n u) where
  taken : n ≡ length u - length v
  taken = omega (arith, all, left, count)

  skipped : w ≡ drop (length u - length v) u
  skipped = skips ∙ ap (λ i. drop i u) taken

  fails : Parses _ (Nt Definition) s None v → Parses _ (Nt Item) u None w
  fails r = subst (λ (z : List Lexeme). Parses _ (Nt Item) u None z) (sym skipped) (item_fails u start v there (subst (λ (z : List Lexeme). Parses _ (Nt Definition) z None v) sight r))

  pub item_passes : (e : Fault) (r : Result Sited Fault) → IsErrAnd r (λ d. d ≡ e) → Reading (Nt Definition) s (Err e) v → Reading (Nt Item) u r w
  item_passes e (Ok x) i f = absurd i
  item_passes fault.Syntax (Err fault.Syntax) i f = failed (fails f.is)
  item_passes fault.Memory (Err fault.Syntax) i f = absurd cc
  item_passes e (Err fault.Memory) i f = out_of_memory

  shorter : (x : item.Item) → Reading (Nt Definition) s (Ok x) v → length v < length u
  shorter x f = omega (arith, f.on, ap length sight, length-map u (moved start))

  pub item_starts : (x : item.Item) → Reading (Nt Definition) s (Ok x) v → start ≡ start_of front
  item_starts x f = starts_so u start n there (omega (arith, taken, shorter x f)) ∙ ap start_of (sym fronts)

  pub item_returns : (x : item.Item) (y : Sited) → y ≡ made Item (front, x) → Reading (Nt Definition) s (Ok x) v → Reading (Nt Item) u (Ok y) w
  item_returns x y e f = read_as (e ∙ ap (λ z. made Item (z, x)) (fronts ∙ ap (λ i. take i u) taken))
      (subst (λ (z : List Lexeme). Parses _ (Nt Item) u (Some (made Item (take (length u - length v) u, x))) z) (sym skipped)
      (item_reads u start x v there (shorter x f) (subst (λ (z : List Lexeme). Parses _ (Nt Definition) z (Some x) v) sight f.is)))
