-- An engine of the compiler's queries: what it stands on, and what its queries' values are.
use Rattle.std.specs.Prelude.{◌≡◌, ℕ, List, [], ◌∷◌, drop, length, false}
use Rattle.std.specs.List.{count_by}
use Rattle.inc_base.specs.declared.job.Compiler.{Compiler}
use Rattle.inc_query.specs.Plans.{denote}
use Rattle.inc_query.specs.Ticks.{rise}
use Rattle.inc_query.specs.declared.query.Query.{Query}
use Rattle.inc_engine.specs.Builds.{Before, Build, Setup, setup, stale}
use Rattle.inc_graph.specs.declared.node.Node.{Node}
use Rattle.inc_roots.specs.Asked.{AsksAll}
use Rattle.inc_roots.specs.Rooted.{cache_of, graph_of}
use Rattle.rs_text.specs.Text.{text_of}
use Rattle.rs_queries.specs.Built.{IsFaultCompiled}
use Rattle.rs_queries.specs.Diagnosed.{OfText}
use Rattle.rs_queries.specs.declared.compiled.Compiled.{Compiled}
use Rattle.plan_laws.specs.Assembled.{IsAssembled, roots_read}
use Rattle.rs_plans.specs.Plans.{plan_of}
use Rattle.rs_provider.specs.Kept.{is_kept}

abbrev pub setup_of : Build → Setup
setup_of e = setup (plan_of e.setting) is_kept 10 11 e.input e.nodes e.cache

-- the earlier build that it stands on was of this input, with no value of its queries like another's by its print alone
abbrev pub IsOver : Build → List ℕ → Type 0
IsOver e s = Before (setup_of e) s

-- the value of a query of its input
abbrev pub value_of : Build → Query → List ℕ
value_of e = denote (plan_of e.setting) e.input

-- it was asked these roots, and nothing but what they reach was added
abbrev pub WasAsked : List Query → Build → Build → Type 0
WasAsked roots old new = AsksAll (setup_of old) roots old.asked new.asked

-- the count rose by the objects that were made anew
abbrev pub HasTicked : Build → Build → ℕ → ℕ → Type 0
HasTicked old new from to = (s : List ℕ) → IsOver old s → to ≡ rise from (count_by (stale (setup_of old) s) (drop (length old.asked) new.asked))

-- but for what it was asked, it is as before
abbrev pub IsAsBefore : Build → Build → Type 0
IsAsBefore old new = new ≡ record old { asked = new.asked; failed = new.failed }

-- ---- A build of a text by a compiler.

abbrev pub setting_of : Compiler → List ℕ
setting_of compiler = compiler.version ∷ compiler.level ∷ []

-- an engine that was asked nothing yet
abbrev pub begun : List ℕ → Compiler → List Node → List (ℕ × List ℕ) → Build
begun text compiler nodes cache = record { setting = setting_of compiler; input = text; nodes = nodes; cache = cache; asked = []; failed = false }

-- the roots of a text: the index, the check of each item, and where nothing is wrong the functions that are never used and the object of each unit
abbrev pub roots_of : Compiler → List ℕ → List Query
roots_of compiler text = roots_read (denote (plan_of (setting_of compiler)) text) (text_of text)

-- what its roots reach, and the values that are kept of it
abbrev pub reached_graph : Compiler → List ℕ → List Node
reached_graph compiler text = graph_of (plan_of (setting_of compiler)) text (roots_of compiler text)

abbrev pub kept_values : Compiler → List ℕ → List (ℕ × List ℕ)
kept_values compiler text = cache_of (plan_of (setting_of compiler)) is_kept text (roots_of compiler text)

-- these are the graph and the cache of an engine's input by these roots
pub record IsReached (e : Build) (roots : List Query) (nodes : List Node) (cache : List (ℕ × List ℕ)) : Type 0 where
  pub graph_is : nodes ≡ graph_of (plan_of e.setting) e.input roots
  pub cache_is : cache ≡ cache_of (plan_of e.setting) is_kept e.input roots

-- what is compiled of a text: the line of its fault, or what is told and made of the values of its tree's roots
abbrev pub IsReadAssembled : (Query → List ℕ) → List ℕ → ℕ → Compiled → Type 0
IsReadAssembled v text level c = OfText text (λ f. IsFaultCompiled f c) (λ krate. IsAssembled v krate c)
