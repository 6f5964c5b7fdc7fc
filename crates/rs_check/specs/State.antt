-- What checking a part of a body makes of the checker.
use Rattle.std.specs.Prelude.{◌≡◌, ℕ, Bool, true, false, List, [], ◌∷◌, ◌++◌, ◌-◌, length, drop, Option, Some, None}
use Rattle.rs_tree.specs.declared.place.At.{At}
use Rattle.rs_tree.specs.declared.answers.Diag.{Diag}
use Rattle.rs_tree.specs.declared.answers.Found.TheVariants.{Absent}
use Rattle.rs_tree.specs.declared.tree.Param.{Param}
use Rattle.rs_tree.specs.declared.tree.Path as path
use Rattle.rs_tree.specs.declared.tree.Typ.{Typ}
use Rattle.rs_tree.specs.declared.tree.Typ.TheVariants as t
use Rattle.rs_tree.specs.Plain.{Exp, Sta, Stas, Arms, Definition, Const, Func}
use Rattle.rs_tree.specs.Leaves.{filled_in, sta_filled, stas_filled, arms_filled, leaves_in, sta_leaves, stas_leaves, arms_leaves}
use Rattle.rs_types.specs.declared.typer.Typer.{Typer}
use Rattle.rs_types.specs.declared.locals.Local.{Local}
use Rattle.rs_types.specs.Types.{Context, need}
use Rattle.rs_types.specs.State as typer
use Rattle.rs_check.specs.declared.body.Checker.{Checker}
use Rattle.rs_check.specs.Bodies.{Around, Declared, after, after_all, after_arms, arms_reads, arms_wrongs, declared, declared_all, declared_arms, outside, param_places, params_wrongs, reads_in, with_params, sta_reads, sta_wrongs, stas_reads, stas_wrongs}
use Rattle.rs_check.specs.Items.{begin, tail_wrongs, unread}

abbrev pub around : Checker → Around
around s = record { items = s.names.now; home = s.«module».now; gives = s.gives }

abbrev pub context : Checker → Context
context s = typer.context s.typer

abbrev pub with_typer : Typer → Checker → Checker
with_typer t s = record s { typer = t }

abbrev pub said : List Diag → Checker → Checker
said ds s = with_typer (typer.said ds s.typer) s

abbrev pub looked : Exp path.Path → Checker → Checker
looked e s = with_typer (typer.looked e s.typer) s

-- an expression was looked at that must be a truth value
abbrev pub needing : Exp path.Path → At → Checker → Checker
needing e at s = with_typer (typer.said (need at t.Bool (typer.typed e s.typer)) (typer.looked e s.typer)) s

-- one more local, the innermost
abbrev pub declaring : At → List ℕ → Local → Checker → Checker
declaring at name l s = record s {
  typer = record s.typer { scope = (name, length s.typer.locals) ∷ s.typer.scope; locals = s.typer.locals ++ l ∷ [] };
  declared = s.declared ++ (at, name) ∷ [];
}

-- only so many of the outermost locals are in scope
abbrev pub leaving : ℕ → Checker → Checker
leaving depth s = record s { typer = record s.typer { scope = drop (length s.typer.scope - depth) s.typer.scope } }

-- parameters were declared, in their order
abbrev pub with_all : List Param → Checker → Checker
with_all ps s = record s {
  typer = record s.typer { diags = s.typer.diags ++ params_wrongs (around s) (context s) ps; scope = (with_params ps (context s)).scope; locals = (with_params ps (context s)).locals };
  declared = s.declared ++ param_places ps;
}

-- so many answers were taken, this was found, these are the locals now, and these were declared
abbrev pub grown : ℕ → List Diag → List ℕ → Context → Declared → Checker → Checker
grown n ds rs c names s = record s {
  typer = record s.typer { answers = drop n s.typer.answers; diags = s.typer.diags ++ ds; reads = s.typer.reads ++ rs; scope = c.scope; locals = c.locals };
  declared = s.declared ++ names;
}

abbrev pub checked : Sta path.Path → Checker → Checker
checked t s =
    let f = sta_filled Absent s.typer.answers t in
    grown (length (sta_leaves t)) (sta_wrongs (around s) (context s) f) (sta_reads (context s) f) (after f (context s)) (declared t) s

abbrev pub checked_all : Stas path.Path → Checker → Checker
checked_all t s =
    let f = stas_filled Absent s.typer.answers t in
    grown (length (stas_leaves t)) (stas_wrongs (around s) (context s) f) (stas_reads (context s) f) (after_all f (context s)) (declared_all t) s

-- a block's names are out of scope after it
abbrev pub checked_block : Stas path.Path → Checker → Checker
checked_block t s =
    let f = stas_filled Absent s.typer.answers t in
    grown (length (stas_leaves t)) (stas_wrongs (around s) (context s) f) (stas_reads (context s) f) (outside (context s) (after_all f (context s))) (declared_all t) s

abbrev pub checked_arms : Arms path.Path → Checker → Checker
checked_arms t s =
    let f = arms_filled Absent s.typer.answers t in
    grown (length (arms_leaves t)) (arms_wrongs (around s) (context s) f) (arms_reads (context s) f) (after_arms f (context s)) (declared_arms t) s

-- the last expression of a body was looked at
abbrev pub checked_tail : Option (Exp path.Path) → Checker → Checker
checked_tail t s =
    let f = filled_in Absent s.typer.answers t in
    grown (length (leaves_in t)) (tail_wrongs (around s) (context s) f) (reads_in (context s) f) (context s) [] s

-- what is said of a declared local, where there is one
abbrev pub unread_at : Bool → Option (At × List ℕ) → List Diag
unread_at read None = []
unread_at read (Some d) = unread read d.0 d.1

-- whether the expressions stand in a constant, and what the item has or gives
abbrev pub is_constants : {A : Type 0} → Definition A → Bool
is_constants (Const typ e) = true
is_constants (Func inlined params gives stmts tail) = false

abbrev pub given_by : {A : Type 0} → Definition A → Typ
given_by (Const typ e) = typ
given_by (Func inlined params gives stmts tail) = gives

-- at the beginning of an item nothing is declared, read or said
pub record Begins (constant : Bool) (typ : Typ) (s : Checker) : Type 0 where
  pub stands : context s ≡ begin constant s.typer.sigs.now
  pub giving : s.gives ≡ typ
  pub unsaid : s.typer.diags ≡ []
  pub unseen : s.typer.reads ≡ []
  pub undeclared : s.declared ≡ []
