-- What typing a part of an expression makes of the typer.
use Rattle.std.specs.Prelude.{ℕ, List, ◌++◌, length, drop, Option, Some, None}
use Rattle.std.specs.Borrow.{Bor}
use Rattle.rs_tree.specs.declared.place.At.{At}
use Rattle.rs_tree.specs.declared.answers.Diag.{Diag}
use Rattle.rs_tree.specs.declared.answers.Found.{Found}
use Rattle.rs_tree.specs.declared.answers.Found.TheVariants.{Absent}
use Rattle.rs_tree.specs.declared.tree.Path as path
use Rattle.rs_tree.specs.declared.tree.Typ.{Typ}
use Rattle.rs_tree.specs.Plain.{Exp, Exps, Operands}
use Rattle.rs_tree.specs.Leaves.{filled, filled_all, filled_by, leaves, leaves_all, leaves_by}
use Rattle.rs_types.specs.declared.typer.Typer.{Typer}
use Rattle.rs_types.specs.Types.{Context, type_of, wrongs, wrongs_by, wrongs_of_truths, args_wrongs, reads}

abbrev pub context : Typer → Context
context s = record { constant = s.constant; sigs = s.sigs.now; scope = s.scope; locals = s.locals }

-- an answer as the typer takes it: there may be none left
abbrev pub taken : Option (Bor Found) → Found
taken None = Absent
taken (Some f) = f.now

abbrev pub said : List Diag → Typer → Typer
said ds s = record s { diags = s.diags ++ ds }

abbrev pub with_reads : List ℕ → Typer → Typer
with_reads rs s = record s { reads = s.reads ++ rs }

abbrev pub noted : List Diag → List ℕ → Typer → Typer
noted ds rs s = record s { diags = s.diags ++ ds; reads = s.reads ++ rs }

-- so many answers were taken, and this was found
abbrev pub grown : ℕ → List Diag → List ℕ → Typer → Typer
grown n ds rs s = record s { answers = drop n s.answers; diags = s.diags ++ ds; reads = s.reads ++ rs }

abbrev pub fill : Typer → Exp path.Path → Exp (path.Path × Found)
fill s e = filled Absent s.answers e

-- where a place isn't looked at
abbrev pub at_any : At
at_any = record { line = 0; column = 0 }

abbrev pub looked : Exp path.Path → Typer → Typer
looked e s = grown (length (leaves e)) (wrongs (context s) (fill s e)) (reads s.scope (leaves (fill s e))) s

abbrev pub typed : Exp path.Path → Typer → Option Typ
typed e s = type_of (context s) (fill s e)

abbrev pub argued : List Typ → Exps path.Path → Typer → Typer
argued ps es s =
    grown (length (leaves_all es)) (args_wrongs (context s) ps (filled_all Absent s.answers es)) (reads s.scope (leaves_all (filled_all Absent s.answers es))) s

abbrev pub chained : Operands path.Path → Typer → Typer
chained os s = grown (length (leaves_by os)) (wrongs_by (context s) (filled_by Absent s.answers os)) (reads s.scope (leaves_by (filled_by Absent s.answers os))) s

abbrev pub conjoined : Exps path.Path → Typer → Typer
conjoined es s =
    grown (length (leaves_all es)) (wrongs_of_truths (context s) (filled_all Absent s.answers es)) (reads s.scope (leaves_all (filled_all Absent s.answers es))) s
