use Rattle.std.proofs.Common.{◌≡◌, ℕ, ◌+◌, ◌-◌, ◌<◌, List, length, drop, subst, ap, ◌∙◌, arith, Bor, nat_cmp}
use Rattle.std.specs.Prelude.{is_some}
use Rattle.std.specs.Option.{option_copied}
use Rattle.std.specs.BTreeMap.{get_by}
use Rattle.std.specs.Cmp.Lexicographic.{slice_cmp}
use Rattle.rs_link.specs.Symbols.{number_from, first_twice}
use Rattle.rs_link.proofs.Tables.{seen, table_more, twice_more}
use Rattle.rs_link.proofs.numbers.numbers_of.Goals as goal

pub loop-i-preserved : goal.loop-i-preserved
loop-i-preserved c =
    let fs = c.args.funcs.now in
    let i = c.loop-i.i - 1 in
    let at : c.loop-i.i ≡ i + 1 = omega arith in
    let l : i < length fs = omega arith in
    let d = c.index-funcs-i.result in
    let bs = c.as_slice-symbol.result.now in
    let symbol = c.as_slice-symbol.ensures.value in
    let N : ℕ → Type 0 = λ n. (q : List ℕ) → get_by (λ (k : Bor (List ℕ)). slice_cmp nat_cmp q k.now) c.loop-i.map ≡ number_from q n (seen (drop n fs)) in
    let T : ℕ → Type 0 = λ n. option_copied c.loop-i.twice ≡ first_twice (seen (drop n fs)) in
    let numbers = subst N at c.loop-i.invariant.numbers in
    record {
      numbers = table_more c.loop-i.map c.insert.new.self fs i d bs l symbol c.in_ok-insert.ensures.updates numbers;
      twice = twice_more fs i d bs c.is_some-again.result (option_copied c.loop-i.twice) _ l symbol (c.is_some-again.ensures ∙ ap is_some (c.in_ok-insert.ensures.old ∙ numbers bs)) (subst T at c.loop-i.invariant.twice) c.earlier-twice.ensures;
    }
