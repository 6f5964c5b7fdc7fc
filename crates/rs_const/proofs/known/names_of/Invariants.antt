use Rattle.std.proofs.Common.{◌≡◌, ℕ, map, take, Vec, Global}
use Rattle.rs_const.specs.Constants.{Entry, names, named_by}
use Rattle.rs_const.proofs.known.names_of.Given as goal

abbrev pub invariant-loop-found : goal.invariant-loop-found
invariant-loop-found l = map (λ (v : Vec ℕ Global). v.items) l.lists.items ≡ map (λ (e : Entry). named_by (names l.known) e.2) (take l.found-index l.known)
