-- Declaring parameters, one on.
use Rattle.std.proofs.Common.{◌≡◌, ℕ, ◌+◌, ◌<◌, List, [], ◌∷◌, ◌++◌, length, get_or, drop, refl, sym, ap, ◌∙◌, append_assoc, add-one}
use Rattle.std.proofs.Math.Seq.{drop-cons}
use Rattle.rs_tree.specs.declared.answers.Diag.{Diag}
use Rattle.rs_tree.specs.declared.tree.Param.{Param}
use Rattle.rs_types.specs.Types.{Context}
use Rattle.rs_check.specs.declared.body.Checker.{Checker}
use Rattle.rs_check.specs.Bodies.{as_local, declare, name_wrongs, param_places, params_wrongs, twice_wrongs, with_params}
use Rattle.rs_check.specs.State.{around, context, declaring, said, with_all}

-- what a parameter makes of the checker
abbrev with_one : Param → Checker → Checker
with_one p s = declaring p.at p.name (as_local p) (said (name_wrongs (around s) p.at p.name) (said (twice_wrongs (context s) p) s))

with_all_more : (p : Param) (more : List Param) (s : Checker) → with_all (p ∷ more) s ≡ with_all more (with_one p s)
with_all_more p more s = λ i. record s {
  typer = record s.typer {
    diags = (sym (append_assoc s.typer.diags (tw ++ nw) rest) ∙ ap (λ x. x ++ rest) (sym (append_assoc s.typer.diags tw nw))) i;
    scope = (with_params more inner).scope;
    locals = (with_params more inner).locals;
  };
  declared = sym (append_assoc s.declared ((p.at, p.name) ∷ []) (param_places more)) i;
}
  where
    tw : List Diag
    tw = twice_wrongs (context s) p

    nw : List Diag
    nw = name_wrongs (around s) p.at p.name

    inner : Context
    inner = declare p.name (as_local p) (context s)

    rest : List Diag
    rest = params_wrongs (around s) inner more

params_at : (ps : List Param) (i : ℕ) (p : Param) → i < length ps → p ≡ get_or ps i p → drop i ps ≡ p ∷ drop (i + 1) ps
params_at ps i p h is = rw (add-one, drop-cons ps i p h, ← is) refl

pub params_next : (ps : List Param) (i : ℕ) (p : Param) (name : List ℕ) (s s1 s2 s3 x : Checker) → i < length ps → p ≡ get_or ps i p → name ≡ p.name
    → s1 ≡ said (twice_wrongs (context s) p) s → s2 ≡ said (name_wrongs (around s1) p.at name) s1 → s3 ≡ declaring p.at name (as_local p) s2
    → with_all (drop i ps) s ≡ x → with_all (drop (i + 1) ps) s3 ≡ x
params_next ps i p name s s1 s2 s3 x h is en e1 e2 e3 inv =
    ap (with_all (drop (i + 1) ps)) (e3 ∙ ap (declaring p.at name (as_local p)) (e2 ∙ ap (λ t. said (name_wrongs (around t) p.at name) t) e1))
    ∙ ap (λ n. with_all (drop (i + 1) ps) (declaring p.at n (as_local p) (said (name_wrongs (around s) p.at n) (said (twice_wrongs (context s) p) s)))) en
    ∙ sym (with_all_more p (drop (i + 1) ps) s)
    ∙ ap (λ x. with_all x s) (sym (params_at ps i p h is)) ∙ inv
