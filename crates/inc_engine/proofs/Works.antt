-- What was done, entry by entry.
use Rattle.std.proofs.Common.{◌≡◌, ◌≢◌, ℕ, ◌+◌, ◌<◌, ◌≤◌, inr, List, length, refl, sym, ◌∙◌, ap, arith, get_or, take, true, false, Bool, cond}
use Rattle.std.specs.Prelude.{not, IsTrue, ◌↔◌}
use Rattle.std.specs.List.{All, count_by}
use Rattle.std.proofs.lemmas.List.{get_or_default}
use Rattle.std.proofs.lemmas.List.Sums.{sum_by_more}
use Rattle.inc_graph.specs.Graphs.{queries_of}
use Rattle.inc_graph.specs.declared.node.Node.{Node}
use Rattle.inc_engine.specs.Builds.{at, Setup, Before, is_red}
use Rattle.inc_engine.specs.Marking.{asked, IsRight}
use Rattle.inc_engine.specs.Finish.{IsRedBy}
use Rattle.inc_engine.specs.declared.done.Done.{Done}
use Rattle.inc_engine.proofs.Lists.{all-at}
use Rattle.inc_engine.proofs.Stale.{red-is}

-- a node is there: red by its print
pub red-by : (nodes : List Node) (d : Done) (i : ℕ) (node : Node) (r : Bool) → i < length nodes → at (queries_of nodes) i ≡ d.query → node ≡ get_or nodes i node → (IsTrue r ↔ (d.print.0 ≡ node.print.0)) → IsRedBy nodes d (not r)
red-by nodes d i node r l e f same = inr (i, l, e, λ n. split r (get_or nodes i n) same (ap (λ (m : Node). m.print.0) (f ∙ get_or_default nodes i node n l)))
  where
    split : (x : Bool) (m : Node) → (IsTrue x ↔ (d.print.0 ≡ node.print.0)) → node.print.0 ≡ m.print.0 → IsTrue (not x) ↔ (d.print.0 ≢ m.print.0)
    split true m iff g = (λ h. absurd (let bad : false ≡ true = h in cc), λ apart. absurd (apart (iff.0 refl ∙ g)))
    split false m iff g = (λ h equal. absurd (let bad : false ≡ true = iff.1 (equal ∙ sym g) in cc), λ apart. refl)

-- one more entry
pub reds-more : (b : Setup) (s : List ℕ) (memo : List Done) (i : ℕ) (d : Done) (red : Bool) (old new : ℕ) → i < length memo → d ≡ get_or memo i d → IsRedBy b.nodes d red → Before b s → All (IsRight b (asked memo)) memo → old ≡ count_by (λ x. is_red b s x.query) (take i memo) → new ≡ old + cond red 1 0 → new ≡ count_by (λ x. is_red b s x.query) (take (i + 1) memo)
reds-more b s memo i d red old new l e by before right so_far more =
    let is : red ≡ is_red b s d.query = red-is d red by before (all-at (IsRight b (asked memo)) memo i d right l e) in
    let step = sum_by_more (λ (x : Done). cond (is_red b s x.query) 1 0) memo i d l in
    more ∙ ap (λ n. n + cond red 1 0) so_far ∙ ap (λ r. count_by (λ (x : Done). is_red b s x.query) (take i memo) + cond r 1 0) (is ∙ ap (λ (x : Done). is_red b s x.query) e) ∙ sym step

pub cond-le : (b : Bool) → cond b 1 0 ≤ 1
cond-le true = omega arith
cond-le false = omega arith
