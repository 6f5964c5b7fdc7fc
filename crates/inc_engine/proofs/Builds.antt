-- What a call leaves of the queries that were asked.
use Rattle.std.proofs.Common.{◌≡◌, ℕ, ◌<◌, List, length, map, subst, get_or}
use Rattle.std.specs.List.{All, AllByRecursion, Contains}
use Rattle.std.proofs.lemmas.List.Elements.{All-map, All-from_recursion, Contains-get_or}
use Rattle.inc_query.specs.declared.query.Query.{Query}
use Rattle.inc_engine.specs.Builds.{at, Setup, reads_in, Before, Asks}
use Rattle.inc_engine.specs.Marking.{asked, Sound, Grew}
use Rattle.inc_engine.specs.declared.done.Done.{Done}
use Rattle.inc_engine.proofs.Lists.{all-weaker, all-mapped}

-- the reads of what was asked were asked
closed : {b : Setup} {memo : List Done} {s : List ℕ} → Sound b memo → Before b s → All (λ r. All (Contains (asked memo)) (reads_in b b.input r)) (asked memo)
closed {b} {memo} {s} sound before = All-map (λ r. All (Contains (asked memo)) (reads_in b b.input r)) (λ (d : Done). d.query) memo (λ i d l. one (get_or memo i d) (get_or memo i d).query.kind (sound.formed i d l).visited.each (sound.right s before i d l).reads_are)
  where
    one : (d : Done) (top : ℕ) → AllByRecursion (λ i. (i < length (asked memo)) × ((at (asked memo) i).kind < top)) d.reads → map (at (asked memo)) d.reads ≡ reads_in b b.input d.query → All (Contains (asked memo)) (reads_in b b.input d.query)
    one d top each are = subst (All (Contains (asked memo))) are (All-from_recursion (Contains (asked memo)) (map (at (asked memo)) d.reads) (all-mapped (Contains (asked memo)) (at (asked memo)) d.reads (all-weaker _ _ d.reads (λ i p. Contains-get_or (asked memo) i _ p.0) each)))

pub asks-grew : {b : Setup} {q : Query} {old new : List Done} {top from to : ℕ} → Grew b q old new top from to → Sound b new → Contains (asked new) q → Asks b q (asked old) (asked new)
asks-grew grew sound it = record { more = grew.more; are = grew.asked_are; it = it; reached = grew.reached; closed = λ s before. closed sound before }
