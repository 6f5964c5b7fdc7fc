-- Checking statements, one part on.
use Rattle.std.proofs.Common.{◌≡◌, ℕ, Bool, Some, None, ◌+◌, ◌-◌, ◌<◌, ◌≤◌, List, [], ◌∷◌, ◌++◌, length, get_or, drop, refl, sym, ap, ◌∙◌, append_assoc, arith, length-append}
use Rattle.std.specs.Prelude.{Option}
use Rattle.std.proofs.lemmas.List.{append-nil, drop-drop}
use Rattle.std.proofs.Math.Seq.{drop-append_seam}
use Rattle.rs_tree.specs.declared.place.At.{At}
use Rattle.rs_tree.specs.declared.answers.Diag.{Diag}
use Rattle.rs_tree.specs.declared.answers.Found.TheVariants.{Absent}
use Rattle.rs_tree.specs.declared.tree.Expr.{Expr}
use Rattle.rs_tree.specs.declared.tree.Stmt.{Stmt}
use Rattle.rs_tree.specs.declared.tree.Typ.{Typ}
use Rattle.rs_tree.specs.declared.tree.Typ.TheVariants as t
use Rattle.rs_tree.specs.declared.tree.Path as path
use Rattle.rs_tree.specs.Plain.{at_of, Exp, Sta, Stas, Arms, Let, Assign, Return, Eval, While, If, Print, Bare, Else, Arm, exp, sta, statements, choices}
use Rattle.rs_tree.specs.Equations.{turns, known_forms, known_statements, known_bodies, choices_at, statements_at, at_is}
use Rattle.rs_tree.specs.Leaves.{stas_filled, sta_filled, arms_filled, leaves, sta_leaves, stas_leaves, arms_leaves}
use Rattle.rs_tree.specs.Weight.{weighs}
use Rattle.rs_lookup.specs.Env.{Env}
use Rattle.rs_types.specs.Answered.{at_filled}
use Rattle.rs_types.specs.Types.{Leaf, Context, local_of, need, need_value, reads, type_of, wrongs}
use Rattle.rs_types.specs.State as typer
use Rattle.rs_check.specs.declared.body.Checker.{Checker}
use Rattle.rs_check.specs.Bodies.{Declared, after, after_all, after_arms, arms_reads, arms_wrongs, assign_wrongs, cond_wrongs, declared, declared_all, declared_arms, let_typ, let_wrongs, name_wrongs, outside, sta_reads, sta_wrongs, stas_reads, stas_wrongs}
use Rattle.rs_check.specs.State.{around, checked, checked_all, checked_arms, checked_block, checked_tail, context, declaring, grown, leaving, looked, needing, said, with_typer}

-- ---- What a body stands in stays, but for the locals.

pub record Keeps (c d : Context) : Type 0 where
  pub constant : d.constant ≡ c.constant
  pub sigs : d.sigs ≡ c.sigs

mutual
  keeps : (t : Sta Leaf) (c : Context) → Keeps c (after t c)
  keeps (Let mutable at name typ value) c = record { constant = refl; sigs = refl }
  keeps (Assign at name value) c = record { constant = refl; sigs = refl }
  keeps (Return at value) c = record { constant = refl; sigs = refl }
  keeps (Eval value) c = record { constant = refl; sigs = refl }
  keeps (While cond body) c = record { constant = (keeps_all body c).constant; sigs = (keeps_all body c).sigs }
  keeps (If arms) c = keeps_arms arms c
  keeps (Print value) c = record { constant = refl; sigs = refl }

  pub keeps_all : (t : Stas Leaf) (c : Context) → Keeps c (after_all t c)
  keeps_all Stas.Empty c = record { constant = refl; sigs = refl }
  keeps_all (Stas.Of s more) c = record {
    constant = (keeps_all more (after s c)).constant ∙ (keeps s c).constant;
    sigs = (keeps_all more (after s c)).sigs ∙ (keeps s c).sigs;
  }

  keeps_arms : (t : Arms Leaf) (c : Context) → Keeps c (after_arms t c)
  keeps_arms Bare c = record { constant = refl; sigs = refl }
  keeps_arms (Else body) c = record { constant = (keeps_all body c).constant; sigs = (keeps_all body c).sigs }
  keeps_arms (Arm cond body more) c =
      let inner = outside c (after_all body c) in
      record {
        constant = (keeps_arms more inner).constant ∙ (keeps_all body c).constant;
        sigs = (keeps_arms more inner).sigs ∙ (keeps_all body c).sigs;
      }

-- so with the locals of d the typer stands in d
pub relocated : (c d : Context) → Keeps c d → (record c { scope = d.scope; locals = d.locals }) ≡ d
relocated c d k = λ i. record { constant = sym k.constant i; sigs = sym k.sigs i; scope = d.scope; locals = d.locals }

-- ---- The state, part by part.

drop_both : {A : Type 0} (n m k : ℕ) (xs : List A) → k ≡ n + m → drop k xs ≡ drop m (drop n xs)
drop_both n m k xs e = ap (λ j. drop j xs) e ∙ sym (drop-drop m n xs)

-- two parts, one after the other
joined : (n m k : ℕ) (d1 d2 : List Diag) (r1 r2 : List ℕ) (c1 c2 : Context) (ns1 ns2 : Declared) (s : Checker) → k ≡ n + m
    → grown k (d1 ++ d2) (r1 ++ r2) c2 (ns1 ++ ns2) s ≡ grown m d2 r2 c2 ns2 (grown n d1 r1 c1 ns1 s)
joined n m k d1 d2 r1 r2 c1 c2 ns1 ns2 s e = λ i. record s {
  typer = record s.typer {
    answers = drop_both n m k s.typer.answers e i;
    diags = sym (append_assoc s.typer.diags d1 d2) i;
    reads = sym (append_assoc s.typer.reads r1 r2) i;
    scope = c2.scope;
    locals = c2.locals;
  };
  declared = sym (append_assoc s.declared ns1 ns2) i;
}

-- the typer stands in the locals that a part left
placed : (n : ℕ) (d : List Diag) (r : List ℕ) (c : Context) (ns : Declared) (s : Checker) → Keeps (context s) c → context (grown n d r c ns s) ≡ c
placed n d r c ns s k = relocated (context s) c k

pub checked_none : (s : Checker) → checked_all Stas.Empty s ≡ s
checked_none s = λ i. record s {
  typer = record s.typer { diags = append-nil s.typer.diags i; reads = append-nil s.typer.reads i };
  declared = append-nil s.declared i;
}

pub checked_bare : (s : Checker) → checked_arms Bare s ≡ s
checked_bare s = checked_none s

pub checked_more : (t : Sta path.Path) (more : Stas path.Path) (s : Checker) → checked_all (Stas.Of t more) s ≡ checked_all more (checked t s)
checked_more t more s =
    let f = sta_filled Absent s.typer.answers t in
    let rest = stas_filled Absent (drop (length (sta_leaves t)) s.typer.answers) more in
    let c = after f (context s) in
    let one = checked t s in
    joined (length (sta_leaves t)) (length (stas_leaves more)) _ (sta_wrongs (around s) (context s) f) (stas_wrongs (around s) c rest) (sta_reads (context s) f) (stas_reads c rest) c (after_all rest c) (declared t) (declared_all more) s
    (length-append (sta_leaves t) (stas_leaves more))
    ∙ (λ i. grown (length (stas_leaves more)) (stas_wrongs (around s) (here i) rest) (stas_reads (here i) rest) (after_all rest (here i)) (declared_all more) one)
  where
    here : (after (sta_filled Absent s.typer.answers t) (context s)) ≡ context (checked t s)
    here =
        let f = sta_filled Absent s.typer.answers t in
        sym (placed (length (sta_leaves t)) (sta_wrongs (around s) (context s) f) (sta_reads (context s) f) (after f (context s)) (declared t) s (keeps f (context s)))

-- ---- A condition and a block.

needing_is : (e : Exp path.Path) (s : Checker) → needing e (at_of e) s ≡ grown (length (leaves e)) (cond_wrongs (context s) (typer.fill s.typer e)) (reads s.typer.scope (leaves (typer.fill s.typer e))) (context s) [] s
needing_is e s = λ i. record s {
  typer = record s.typer {
    answers = drop (length (leaves e)) s.typer.answers;
    diags = (append_assoc s.typer.diags (wrongs (context s) f) (need (at_of e) t.Bool found) ∙ ap (λ at. s.typer.diags ++ (wrongs (context s) f ++ need at t.Bool found)) (sym (at_filled s.typer.answers e))) i;
    reads = s.typer.reads ++ reads s.typer.scope (leaves f);
  };
  declared = sym (append-nil s.declared) i;
}
  where
    f : Exp Leaf
    f = typer.fill s.typer e

    found : Option Typ
    found = type_of (context s) f

-- the answers of a block behind a condition
abbrev block_of : Exp path.Path → Stas path.Path → Checker → Stas Leaf
block_of cond body s = stas_filled Absent (drop (length (leaves cond)) s.typer.answers) body

abbrev arm_end : Exp path.Path → Stas path.Path → Checker → Context
arm_end cond body s = outside (context s) (after_all (block_of cond body s) (context s))

cond_block : (cond : Exp path.Path) (body : Stas path.Path) (s : Checker)
    → grown (length (leaves cond) + length (stas_leaves body)) (cond_wrongs (context s) (typer.fill s.typer cond) ++ stas_wrongs (around s) (context s) (block_of cond body s))
    (reads s.typer.scope (leaves (typer.fill s.typer cond)) ++ stas_reads (context s) (block_of cond body s)) (arm_end cond body s) (declared_all body) s
    ≡ checked_block body (needing cond (at_of cond) s)
cond_block cond body s =
    joined (length (leaves cond)) (length (stas_leaves body)) _ (cond_wrongs (context s) (typer.fill s.typer cond)) (stas_wrongs (around s) (context s) (block_of cond body s))
    (reads s.typer.scope (leaves (typer.fill s.typer cond))) (stas_reads (context s) (block_of cond body s)) (context s) (arm_end cond body s) [] (declared_all body) s refl
    ∙ ap (checked_block body) (sym (needing_is cond s))

block_keeps : (body : Stas Leaf) (c : Context) → Keeps c (outside c (after_all body c))
block_keeps body c = record { constant = (keeps_all body c).constant; sigs = (keeps_all body c).sigs }

pub checked_arm : (cond : Exp path.Path) (body : Stas path.Path) (more : Arms path.Path) (s : Checker)
    → checked_arms (Arm cond body more) s ≡ checked_arms more (checked_block body (needing cond (at_of cond) s))
checked_arm cond body more s =
    let b = block_of cond body s in
    let c = arm_end cond body s in
    let rest = arms_filled Absent (drop (length (stas_leaves body)) (drop (length (leaves cond)) s.typer.answers)) more in
    let ds = cond_wrongs (context s) (typer.fill s.typer cond) ++ stas_wrongs (around s) (context s) b in
    let rs = reads s.typer.scope (leaves (typer.fill s.typer cond)) ++ stas_reads (context s) b in
    let n = length (leaves cond) + length (stas_leaves body) in
    let one = grown n ds rs c (declared_all body) s in
    let there : drop n s.typer.answers ≡ drop (length (stas_leaves body)) (drop (length (leaves cond)) s.typer.answers) = drop_both (length (leaves cond)) (length (stas_leaves body)) n s.typer.answers refl in
    let here : c ≡ context one = sym (placed n ds rs c (declared_all body) s (block_keeps b (context s))) in
    joined n (length (arms_leaves more)) _ ds (arms_wrongs (around s) c rest) rs (arms_reads c rest) c (after_arms rest c) (declared_all body) (declared_arms more) s
    (length-append (leaves cond) (stas_leaves body ++ arms_leaves more) ∙ ap (λ k. length (leaves cond) + k) (length-append (stas_leaves body) (arms_leaves more)) ∙ omega arith)
    ∙ (λ i. grown (length (arms_leaves more)) (arms_wrongs (around s) (here i) (arms_filled Absent (sym there i) more)) (arms_reads (here i) (arms_filled Absent (sym there i) more)) (after_arms (arms_filled Absent (sym there i) more) (here i)) (declared_arms more) one)
    ∙ ap (checked_arms more) (cond_block cond body s)

pub checked_if : (arms : Arms path.Path) (s : Checker) → checked (If arms) s ≡ checked_arms arms s
checked_if arms s = refl

pub checked_else : (body : Stas path.Path) (s : Checker) → checked_arms (Else body) s ≡ checked_block body s
checked_else body s = refl

-- ---- What is said, and what a block leaves in scope.

pub said_twice : (d1 d2 : List Diag) (s : Checker) → said (d1 ++ d2) s ≡ said d2 (said d1 s)
said_twice d1 d2 s = λ i. record s { typer = record s.typer { diags = sym (append_assoc s.typer.diags d1 d2) i } }

arms_scope : (arms : Arms Leaf) (c : Context) → (after_arms arms c).scope ≡ c.scope
arms_scope Bare c = refl
arms_scope (Else body) c = refl
arms_scope (Arm cond body more) c = arms_scope more (outside c (after_all body c))

scope_front : (t : Sta Leaf) (c : Context) → (front : Env) × ((after t c).scope ≡ front ++ c.scope)
scope_front (Let mutable at name typ value) c = ((name, length c.locals) ∷ [], refl)
scope_front (Assign at name value) c = ([], refl)
scope_front (Return at value) c = ([], refl)
scope_front (Eval value) c = ([], refl)
scope_front (While cond body) c = ([], refl)
scope_front (If arms) c = ([], arms_scope arms c)
scope_front (Print value) c = ([], refl)

scope_all_front : (ts : Stas Leaf) (c : Context) → (front : Env) × ((after_all ts c).scope ≡ front ++ c.scope)
scope_all_front Stas.Empty c = ([], refl)
scope_all_front (Stas.Of t more) c =
    let one = scope_front t c in
    let rest = scope_all_front more (after t c) in
    (rest.0 ++ one.0, rest.1 ∙ ap (λ x. rest.0 ++ x) one.1 ∙ sym (append_assoc rest.0 one.0 c.scope))

pub block_left : (ts : Stas Leaf) (c : Context) → drop (length (after_all ts c).scope - length c.scope) (after_all ts c).scope ≡ c.scope
block_left ts c =
    let f = scope_all_front ts c in
    let n : length (f.0 ++ c.scope) - length c.scope ≡ length f.0 = omega (arith, length-append f.0 c.scope) in
    rw f.1 (rw n (drop-append_seam f.0 c.scope))

pub block_deeper : (ts : Stas Leaf) (c : Context) → length c.scope ≤ length (after_all ts c).scope
block_deeper ts c =
    let f = scope_all_front ts c in
    rw f.1 (omega (arith, length-append f.0 c.scope))

pub block_end : (ts : Stas path.Path) (depth : ℕ) (s s1 s2 : Checker) → depth ≡ length s.typer.scope → s1 ≡ checked_all ts s → s2 ≡ leaving depth s1 → s2 ≡ checked_block ts s
block_end ts depth s s1 s2 ed e1 e2 =
    e2 ∙ (λ i. leaving (ed i) (e1 i))
    ∙ (λ i. record s1' { typer = record s1'.typer { scope = block_left (stas_filled Absent s.typer.answers ts) (context s) i } })
  where
    s1' : Checker
    s1' = checked_all ts s

-- ---- The other statements.

-- a part with one thing more to say
telling : (n : ℕ) (d1 d2 : List Diag) (r : List ℕ) (s : Checker) → grown n (d1 ++ d2) r (context s) [] s ≡ said d2 (with_typer (typer.grown n d1 r s.typer) s)
telling n d1 d2 r s = λ i. record s {
  typer = record s.typer { answers = drop n s.typer.answers; diags = sym (append_assoc s.typer.diags d1 d2) i; reads = s.typer.reads ++ r };
  declared = append-nil s.declared i;
}

place_is : (value : Expr) (s : Checker) → at_of (typer.fill s.typer (exp value)) ≡ value.at
place_is value s = at_filled s.typer.answers (exp value) ∙ at_is value

pub checked_let : (mutable : Bool) (at : At) (name : List ℕ) (typ : Option Typ) (value : Expr) (s : Checker)
    → checked (Let mutable at name typ (exp value)) s
    ≡ declaring at name (record { typ = let_typ typ (typer.typed (exp value) s.typer); mutable = mutable }) (said (name_wrongs (around s) at name) (said (let_wrongs value.at typ (typer.typed (exp value) s.typer)) (looked (exp value) s)))
checked_let mutable at name typ value s = λ i. record s {
  typer = record s.typer {
    answers = drop (length (leaves (exp value))) s.typer.answers;
    diags = (ap (λ at'. s.typer.diags ++ ((w ++ let_wrongs at' typ found) ++ clash)) (place_is value s) ∙ sym (append_assoc s.typer.diags (w ++ let_wrongs value.at typ found) clash) ∙ ap (λ x. x ++ clash) (sym (append_assoc s.typer.diags w (let_wrongs value.at typ found)))) i;
    reads = s.typer.reads ++ reads s.typer.scope (leaves (typer.fill s.typer (exp value)));
    scope = (name, length s.typer.locals) ∷ s.typer.scope;
    locals = s.typer.locals ++ (record { typ = let_typ typ found; mutable = mutable }) ∷ [];
  };
  declared = s.declared ++ (at, name) ∷ [];
}
  where
    w : List Diag
    w = wrongs (context s) (typer.fill s.typer (exp value))

    clash : List Diag
    clash = name_wrongs (around s) at name

    found : Option Typ
    found = typer.typed (exp value) s.typer

pub checked_assign : (at : At) (name : List ℕ) (value : Expr) (s : Checker)
    → checked (Assign at name (exp value)) s ≡ said (assign_wrongs at name value.at (local_of (context s) name) (typer.typed (exp value) s.typer)) (looked (exp value) s)
checked_assign at name value s =
    telling _ (wrongs (context s) (typer.fill s.typer (exp value))) (assign_wrongs at name (at_of (typer.fill s.typer (exp value))) (local_of (context s) name) (typer.typed (exp value) s.typer)) _ s
    ∙ ap (λ at'. said (assign_wrongs at name at' (local_of (context s) name) (typer.typed (exp value) s.typer)) (looked (exp value) s)) (place_is value s)

pub checked_eval : (value : Expr) (s : Checker) → checked (Eval (exp value)) s ≡ looked (exp value) s
checked_eval value s = λ i. record s { typer = typer.looked (exp value) s.typer; declared = append-nil s.declared i }

pub checked_print : (value : Expr) (s : Checker) → checked (Print (exp value)) s ≡ said (need_value value.at (typer.typed (exp value) s.typer)) (looked (exp value) s)
checked_print value s =
    telling _ (wrongs (context s) (typer.fill s.typer (exp value))) (need_value (at_of (typer.fill s.typer (exp value))) (typer.typed (exp value) s.typer)) _ s
    ∙ ap (λ at. said (need_value at (typer.typed (exp value) s.typer)) (looked (exp value) s)) (place_is value s)

pub checked_return : (at : At) (value : Expr) (s : Checker) → checked (Return at (Some (exp value))) s ≡ said (need value.at s.gives (typer.typed (exp value) s.typer)) (looked (exp value) s)
checked_return at value s =
    telling _ (wrongs (context s) (typer.fill s.typer (exp value))) (need (at_of (typer.fill s.typer (exp value))) s.gives (typer.typed (exp value) s.typer)) _ s
    ∙ ap (λ at. said (need at s.gives (typer.typed (exp value) s.typer)) (looked (exp value) s)) (place_is value s)

pub checked_leave : (at : At) (s : Checker) → checked (Return at None) s ≡ said (need at s.gives (Some t.Unit)) s
checked_leave at s = λ i. record s { typer = record s.typer { diags = s.typer.diags ++ need at s.gives (Some t.Unit); reads = append-nil s.typer.reads i }; declared = append-nil s.declared i }

pub tail_none : (s : Checker) → checked_tail None s ≡ s
tail_none s = checked_none s

pub tail_some : (value : Expr) (s : Checker) → checked_tail (Some (exp value)) s ≡ said (need value.at s.gives (typer.typed (exp value) s.typer)) (looked (exp value) s)
tail_some value s =
    telling _ (wrongs (context s) (typer.fill s.typer (exp value))) (need (at_of (typer.fill s.typer (exp value))) s.gives (typer.typed (exp value) s.typer)) _ s
    ∙ ap (λ at. said (need at s.gives (typer.typed (exp value) s.typer)) (looked (exp value) s)) (place_is value s)

-- ---- Loops, one turn on.

pub stas_next : (ss : List Stmt) (i : ℕ) (t : Stmt) (s s2 x : Checker) → i < length ss → t ≡ get_or ss i t → s2 ≡ checked (sta t) s
    → checked_all (statements (drop i ss)) s ≡ x → checked_all (statements (drop (i + 1) ss)) s2 ≡ x
stas_next ss i t s s2 x h is en inv =
    ap (checked_all (statements (drop (i + 1) ss))) en
    ∙ sym (checked_more (sta t) (statements (drop (i + 1) ss)) s)
    ∙ ap (λ x. checked_all x s) (sym (statements_at ss i t h is)) ∙ inv

pub arms_next : (cs : List (Expr × List Stmt)) (other : Option (List Stmt)) (i : ℕ) (c : Expr × List Stmt) (b : List Stmt) (s s1 s2 x : Checker) → i < length cs → c ≡ get_or cs i c
    → s1 ≡ needing (exp c.0) c.0.at s → b ≡ c.1 → s2 ≡ checked_block (statements b) s1
    → checked_arms (choices (drop i cs) other) s ≡ x → checked_arms (choices (drop (i + 1) cs) other) s2 ≡ x
arms_next cs other i c b s s1 s2 x h is e1 eb e2 inv =
    let rest = choices (drop (i + 1) cs) other in
    ap (checked_arms rest) (e2 ∙ (λ j. checked_block (statements (eb j)) (e1 j)))
    ∙ ap (λ at. checked_arms rest (checked_block (statements c.1) (needing (exp c.0) at s))) (sym (at_is c.0))
    ∙ sym (checked_arm (exp c.0) (statements c.1) rest s)
    ∙ ap (λ x. checked_arms x s) (sym (choices_at cs other i c h is)) ∙ inv

pub ruleset bodies = (turns, known_forms, known_statements, known_bodies, weighs, checked_none, checked_bare, checked_if, checked_else, checked_let, checked_assign, checked_eval, checked_print, checked_return, checked_leave, tail_none, tail_some, block_left, block_deeper, said_twice, append_assoc)
