-- A whole item: what its parts leave makes what is said of it.
use Rattle.std.proofs.Common.{◌≡◌, ℕ, Bool, false, List, [], ◌∷◌, ◌++◌, length, drop, refl, sym, ap, subst, ◌∙◌, append_assoc}
use Rattle.std.specs.Prelude.{Option}
use Rattle.std.proofs.lemmas.List.{append-nil}
use Rattle.rs_tree.specs.declared.place.At.{At}
use Rattle.rs_tree.specs.declared.answers.Const as const
use Rattle.rs_tree.specs.declared.answers.Diag.{Diag}
use Rattle.rs_tree.specs.declared.answers.Found.TheVariants.{Absent}
use Rattle.rs_tree.specs.declared.tree.Param.{Param}
use Rattle.rs_tree.specs.declared.tree.Path as path
use Rattle.rs_tree.specs.declared.tree.Typ.{Typ}
use Rattle.rs_tree.specs.Plain.{Exp, Stas, Definition, Func}
use Rattle.rs_tree.specs.Leaves.{filled_in, stas_filled, leaves_in, stas_leaves}
use Rattle.rs_names.specs.Indexed.{is_root_main}
use Rattle.rs_types.specs.Types.{Leaf, Context}
use Rattle.rs_check.specs.declared.body.Checker.{Checker}
use Rattle.rs_check.specs.Bodies.{Around, after_all, as_local, declare, declared_all, param_places, params_wrongs, reads_in, stas_reads, stas_wrongs, with_params}
use Rattle.rs_check.specs.Items.{body_wrongs, end_wrongs, main_wrongs, tail_wrongs, unused}
use Rattle.rs_check.specs.State.{Begins, given_by, is_constants, around, checked_all, checked_tail, context, grown, said, with_all}
use Rattle.rs_check.proofs.Bodies.{Keeps, keeps_all, relocated}

keeps_params : (ps : List Param) (c : Context) → Keeps c (with_params ps c)
keeps_params [] c = record { constant = refl; sigs = refl }
keeps_params (p ∷ more) c =
    let k = keeps_params more (declare p.name (as_local p) c) in
    record { constant = k.constant; sigs = k.sigs }

-- ---- A function: its parameters, its statements and its last expression, in contexts that are named.

-- the parts behind the statements, where these stand in c and begin at s
abbrev stated : Stas path.Path → Context → Checker → Checker
stated stmts c s =
    let f = stas_filled Absent s.typer.answers stmts in
    grown (length (stas_leaves stmts)) (stas_wrongs (around s) c f) (stas_reads c f) (after_all f c) (declared_all stmts) s

abbrev ended : Option (Exp path.Path) → Context → Checker → Checker
ended tail c s =
    let f = filled_in Absent s.typer.answers tail in
    grown (length (leaves_in tail)) (tail_wrongs (around s) c f) (reads_in c f) c [] s

parts : (params : List Param) (stmts : Stas path.Path) (tail : Option (Exp path.Path)) (s : Checker)
    → checked_tail tail (checked_all stmts (with_all params s))
    ≡ ended tail (after_all (stas_filled Absent s.typer.answers stmts) (with_params params (context s))) (stated stmts (with_params params (context s)) (with_all params s))
parts params stmts tail s =
    ap (λ c. checked_tail tail (stated stmts c s2)) here
    ∙ ap (λ c. ended tail c (stated stmts begun s2)) there
  where
    begun : Context
    begun = with_params params (context s)

    s2 : Checker
    s2 = with_all params s

    here : context s2 ≡ begun
    here = relocated (context s) begun (keeps_params params (context s))

    end : Context
    end = after_all (stas_filled Absent s.typer.answers stmts) begun

    whole : Keeps (context s) end
    whole = record {
      constant = (keeps_all (stas_filled Absent s.typer.answers stmts) begun).constant ∙ (keeps_params params (context s)).constant;
      sigs = (keeps_all (stas_filled Absent s.typer.answers stmts) begun).sigs ∙ (keeps_params params (context s)).sigs;
    }

    there : context (stated stmts begun s2) ≡ end
    there = relocated (context s) end whole

regroup : (a b c d e : List Diag) → ((((a ++ b) ++ c) ++ d) ++ e) ≡ (((a ++ (b ++ c)) ++ d) ++ e)
regroup a b c d e = ap (λ x. (x ++ d) ++ e) (append_assoc a b c)

-- what is said at the end of a function, where this stood after its last expression
abbrev closed : List Diag → Checker → List Diag
closed ends s = (s.typer.diags ++ ends) ++ unused 0 s.typer.reads s.declared

-- what is wrong with a function that stands in these surroundings and begins in c
abbrev function_wrongs : List Diag → List Diag → List Param → Stas path.Path → Option (Exp path.Path) → Checker → Typ → Context → List Diag
function_wrongs mains ends params stmts tail s gives c =
    let g : Around = record { items = s.names.now; home = s.«module».now; gives = gives } in
    let begun = with_params params c in
    let body = stas_filled Absent s.typer.answers stmts in
    let last = filled_in Absent (drop (length (stas_leaves stmts)) s.typer.answers) tail in
    let at_end = after_all body begun in
    (mains ++ params_wrongs g c params)
    ++ (stas_wrongs g begun body ++ tail_wrongs g at_end last)
    ++ ends
    ++ unused 0 (stas_reads begun body ++ reads_in at_end last) (param_places params ++ declared_all stmts)

func_end : (inlined : Bool) (params : List Param) (gives : Typ) (stmts : Stas path.Path) (tail : Option (Exp path.Path)) (at : At) (name : List ℕ) (value : Option const.Const) (s s1 s2 s3 s4 s5 s6 : Checker)
    → Begins false gives s → s1 ≡ said (main_wrongs at (is_root_main s.«module».now name) params gives) s → s2 ≡ with_all params s1 → s3 ≡ checked_all stmts s2 → s4 ≡ checked_tail tail s3
    → s5 ≡ said (end_wrongs at name gives stmts tail) s4 → s6 ≡ said (unused 0 s5.typer.reads s5.declared) s5
    → s6.typer.diags ≡ body_wrongs s.names.now s.typer.sigs.now s.«module».now s.typer.answers value at name (Func inlined params gives stmts tail)
func_end inlined params gives stmts tail at name value s s1 s2 s3 s4 s5 s6 b e1 e2 e3 e4 e5 e6 =
    ap (λ t. t.typer.diags) e6
    ∙ ap (λ t. t.typer.diags ++ unused 0 t.typer.reads t.declared) e5
    ∙ ap (closed ends) (e4 ∙ ap (checked_tail tail) (e3 ∙ ap (checked_all stmts) (e2 ∙ ap (with_all params) e1)) ∙ parts params stmts tail (said mains s))
    ∙ (λ i. (((((b.unsaid i ++ mains) ++ pw) ++ sw) ++ tw) ++ ends) ++ unused 0 ((b.unseen i ++ stas_reads begun body) ++ reads_in at_end last) (append-nil ((b.undeclared i ++ param_places params) ++ declared_all stmts) i))
    ∙ regroup (mains ++ pw) sw tw ends (unused 0 (stas_reads begun body ++ reads_in at_end last) (param_places params ++ declared_all stmts))
    ∙ (λ i. function_wrongs mains ends params stmts tail s (b.giving i) (b.stands i))
  where
    mains : List Diag
    mains = main_wrongs at (is_root_main s.«module».now name) params gives

    ends : List Diag
    ends = end_wrongs at name gives stmts tail

    begun : Context
    begun = with_params params (context s)

    body : Stas Leaf
    body = stas_filled Absent s.typer.answers stmts

    last : Option (Exp Leaf)
    last = filled_in Absent (drop (length (stas_leaves stmts)) s.typer.answers) tail

    at_end : Context
    at_end = after_all body begun

    pw : List Diag
    pw = params_wrongs (around s) (context s) params

    sw : List Diag
    sw = stas_wrongs (around s) begun body

    tw : List Diag
    tw = tail_wrongs (around s) at_end last

pub item_end : (inlined : Bool) (params : List Param) (gives : Typ) (stmts : Stas path.Path) (tail : Option (Exp path.Path)) (d : Definition path.Path) (at : At) (name : List ℕ) (value : Option const.Const) (s s1 s2 s3 s4 s5 s6 : Checker)
    → d ≡ Func inlined params gives stmts tail → Begins (is_constants d) (given_by d) s
    → s1 ≡ said (main_wrongs at (is_root_main s.«module».now name) params gives) s → s2 ≡ with_all params s1 → s3 ≡ checked_all stmts s2 → s4 ≡ checked_tail tail s3
    → s5 ≡ said (end_wrongs at name gives stmts tail) s4 → s6 ≡ said (unused 0 s5.typer.reads s5.declared) s5
    → s6.typer.diags ≡ body_wrongs s.names.now s.typer.sigs.now s.«module».now s.typer.answers value at name d
item_end inlined params gives stmts tail d at name value s s1 s2 s3 s4 s5 s6 ed b e1 e2 e3 e4 e5 e6 =
    func_end inlined params gives stmts tail at name value s s1 s2 s3 s4 s5 s6 (subst (λ d. Begins (is_constants d) (given_by d) s) ed b) e1 e2 e3 e4 e5 e6
    ∙ ap (body_wrongs s.names.now s.typer.sigs.now s.«module».now s.typer.answers value at name) (sym ed)
