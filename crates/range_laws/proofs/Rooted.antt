-- Each text of at most 1,048,576 bytes is what its queries are stated by, in the ranges of the types.
use Rattle.std.specs.Prelude.{ℕ, List}
use Rattle.rs_tree.specs.declared.answers.Const.{Const}
use Rattle.rs_tree.specs.declared.tree.Crate.{Crate}
use Rattle.rs_const.specs.Constants.{AreValues}
use Rattle.rs_reach.specs.Laws.{Ends, FindsReached, FindsOnce}
use Rattle.rs_text.specs.Laws.{TextIs, TokensAreLexed}
use Rattle.rs_queries.specs.Known.{constants_of}
use Rattle.rs_queries.proofs.Values.{there}
use Rattle.plan_laws.specs.Roots.{FitsClean, IsTextFitting}
use Rattle.range_laws.specs.Bounded.{IsShort, BoundedCrate}
use Rattle.range_laws.proofs.Fitting.{crate_fits, items_fit, text_fault_fits}
use Rattle.range_laws.proofs.Whole.{text_bounded}

module _ (law : TextIs) (lexed : TokensAreLexed) (ends : Ends) (reached : FindsReached) (once : FindsOnce)
    (clean : (krate : Crate) (level : ℕ) (values : List Const) → BoundedCrate krate → AreValues (constants_of krate) values → FitsClean krate level values) where
  pub text_fitting : (text : List ℕ) (level : ℕ) → IsShort text → IsTextFitting text level
  text_fitting text level short = record {
    fault = λ f e. text_fault_fits law text f short e;
    tree = λ krate e.
        let b = text_bounded law text krate short e in
        let v = there ends reached once (constants_of krate) in
        record { whole = crate_fits text krate e b; items = items_fit law lexed text krate short e; values = v.0; are = v.1; fits = clean krate level v.0 b v.1 };
  }
