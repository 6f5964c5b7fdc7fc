-- Tokens as they are seen from a place.
use Rattle.std.proofs.Common.{◌≡◌, ◌-◌, List, ◌++◌, length, sym, ap, ◌∙◌, drop}
use Rattle.std.proofs.lemmas.List.{drop-map, length-map}
use Rattle.rs_tree.specs.declared.place.At.{At}
use Rattle.rs_grammar.specs.Lexeme.{Lexeme, moved, seen}
use Rattle.rs_grammar.proofs.Lists.{last}

-- the last of them
pub seen_last : (base : At) (u v a : List Lexeme) → seen base u ≡ a ++ v → seen base (drop (length u - length v) u) ≡ v
seen_last base u v a e =
    let n : length u ≡ length (seen base u) = sym (length-map u (moved base)) in
    sym (drop-map (moved base) (length u - length v) u) ∙ ap (λ k. drop (k - length v) (seen base u)) n ∙ last (seen base u) a v e
