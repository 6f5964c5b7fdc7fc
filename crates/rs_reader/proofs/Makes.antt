-- How a function returns that makes something of what it reads.
use Rattle.std.proofs.Common.{◌≡◌, Bool, true, false, List, Some, None, Result, Ok, Err}
use Rattle.std.specs.Result.{IsErrAnd}
use Rattle.rs_grammar.specs.Lexeme.{Lexeme}
use Rattle.rs_reader.specs.declared.fault.Fault.{Fault}
use Rattle.rs_reader.specs.declared.fault.Fault.TheVariants.{Syntax, Memory}
use Rattle.rs_grammar.specs.Grammar.{Shape, Val, Grammar}
use Rattle.rs_grammar.specs.Sets.{nullable}
use Rattle.rs_grammar.specs.Parses.{Parses}
use Rattle.rs_reader.specs.Reading.{Reading, ReadingAs, Advances}
use Rattle.rs_reader.proofs.Exits.{read, read_as, failed, out_of_memory}

still : {X Y : Type 0} (u v : List Lexeme) (b : Bool) (x : X) (y : Y) → Advances b (Ok y) u v → Advances b (Ok x) u v
still u v true x y h = h
still u v false x y h = h

not_on : (X : Type 0) (b : Bool) (e : Fault) (u v : List Lexeme) → Advances {X = X} b (Err e) u v
not_on X true e u v = tt
not_on X false e u v = tt

pub makes : {s : Shape} {X : Type 0} {g : Grammar s} {f : Val s → X} {u v : List Lexeme} {x : X} (y : Val s) → x ≡ f y → Parses _ g u (Some y) v → ReadingAs g f u (Ok x) v
makes {g} {u} {v} {x} y e r = record { is = (y, e, r); on = still u v (nullable g) x y (let q : Reading g u (Ok y) v = read r in q.on) }

pub makes_none : {s : Shape} {X : Type 0} {g : Grammar s} {f : Val s → X} {u v : List Lexeme} → Parses _ g u None v → ReadingAs g f u (Err Syntax) v
makes_none {X} {g} {u} {v} r = record { is = r; on = not_on X (nullable g) Syntax u v }

pub makes_lacks : {s : Shape} {X : Type 0} {g : Grammar s} {f : Val s → X} {u v : List Lexeme} → ReadingAs g f u (Err Memory) v
makes_lacks {X} {g} {u} {v} = record { is = tt; on = not_on X (nullable g) Memory u v }

-- a fault within is a fault
pub passes_as : {s t : Shape} {X : Type 0} {g : Grammar s} {h : Grammar t} {f : Val t → X} {u v w : List Lexeme} {e : Fault} (r : Result X Fault)
    → IsErrAnd r (λ d. d ≡ e) → Reading g v (Err e) w → (Parses _ g v None w → Parses _ h u None w) → ReadingAs h f u r w
passes_as (Ok x) i k q = absurd i
passes_as {e = Syntax} (Err Syntax) i k q = makes_none (q k.is)
passes_as {e = Memory} (Err Syntax) i k q = absurd cc
passes_as (Err Memory) i k q = makes_lacks

pub passes_made : {s t : Shape} {X : Type 0} {g : Grammar s} {h : Grammar t} {f : Val s → X} {u v w : List Lexeme} {e : Fault} (r : Result (Val t) Fault)
    → IsErrAnd r (λ d. d ≡ e) → ReadingAs g f v (Err e) w → (Parses _ g v None w → Parses _ h u None w) → Reading h u r w
passes_made (Ok x) i k q = absurd i
passes_made {e = Syntax} (Err Syntax) i k q = failed (q k.is)
passes_made {e = Memory} (Err Syntax) i k q = absurd cc
passes_made (Err Memory) i k q = out_of_memory

-- a result that is handed on
pub hands_made : {s t : Shape} {g : Grammar s} {h : Grammar t} {f : Val s → Val t} {u v w : List Lexeme} (r : Result (Val t) Fault) → ReadingAs g f v r w
    → (Parses _ g v None w → Parses _ h u None w) → ((y : Val s) → Parses _ g v (Some y) w → Parses _ h u (Some (f y)) w) → Reading h u r w
hands_made (Ok x) o k l = read_as o.is.1 (l o.is.0 o.is.2)
hands_made (Err Syntax) o k l = failed (k o.is)
hands_made (Err Memory) o k l = out_of_memory
