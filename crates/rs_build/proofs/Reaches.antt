-- An engine that was asked some roots, and nothing else before, finishes with what they reach.
use Rattle.std.proofs.Common.{◌≡◌, ℕ, Bool, cond, List, [], Result, Ok, Err, OnOk, sym, ◌∙◌, subst}
use Rattle.std.specs.Prelude.{IsPermutation, ◌↔◌}
use Rattle.std.specs.List.{All, count_by}
use Rattle.std.proofs.lemmas.List.Elements.{All-from_recursion}
use Rattle.std.proofs.lemmas.List.Sorted.{All-permutation, Contains-permutation, sum_by-IsPermutation}
use Rattle.inc_query.specs.Plans.{denote}
use Rattle.inc_query.specs.declared.query.Query.{Query}
use Rattle.inc_engine.specs.Builds.{Before, Setup, reads_in}
use Rattle.inc_roots.specs.Asked.{AreAsked, AsksAll, IsReachedFrom}
use Rattle.rs_tree.specs.declared.tree.Crate.{Crate}
use Rattle.rs_text.specs.Text.{text_of}
use Rattle.rs_text.specs.declared.fault.TextFault.{TextFault}
use Rattle.rs_queries.specs.Built.{IsCompiled}
use Rattle.rs_queries.specs.declared.compiled.Compiled.{Compiled}
use Rattle.rs_plans.specs.Plans.{level_of, plan_of}
use Rattle.plan_laws.specs.Assembled.{IsAssembled}
use Rattle.plan_laws.specs.Roots.{IsTextAssembled, IsTextFitting}
use Rattle.rs_build.specs.Over.{IsReadAssembled}

pub asked_are : (b : Setup) (roots asked queries : List Query) (s : List ℕ) → Before b s → AsksAll b roots [] asked → IsPermutation asked queries → AreAsked (reads_in b b.input) roots queries
asked_are b roots asked queries s before asks moved = record {
  there = λ k d l. Contains-permutation asked queries _ moved (asks.there k d l);
  reached =
      All-permutation (IsReachedFrom (reads_in b b.input) roots) asked queries moved
      (subst (All (IsReachedFrom (reads_in b b.input) roots)) (sym asks.are) (All-from_recursion (IsReachedFrom (reads_in b b.input) roots) asks.more (asks.reached s before)));
}

pub counted : (f : Query → Bool) (asked queries : List Query) → IsPermutation asked queries → count_by f asked ≡ count_by f queries
counted f asked queries moved = sym (sum_by-IsPermutation (λ r. cond (f r) 1 0) asked queries moved)

pub on_ok_weaker : {A E P Q : Type 0} (r : Result A E) → (P → Q) → OnOk r P → OnOk r Q
on_ok_weaker (Ok a) f h = f h
on_ok_weaker (Err e) f h = tt

-- ---- A text that was read as a tree.

no_fault : (text : List ℕ) (krate : Crate) (fault : TextFault) → text_of text ≡ Ok krate → text_of text ≡ Err fault → ⊥
no_fault text krate fault is other = absurd (let bad : Ok krate ≡ Err fault = sym is ∙ other in cc)

pub tree_assembled : (v : Query → List ℕ) (text : List ℕ) (level : ℕ) (krate : Crate) (c : Compiled) → text_of text ≡ Ok krate → IsAssembled v krate c → IsReadAssembled v text level c
tree_assembled v text level krate c is made = record {
  fault = λ f other. absurd (no_fault text krate f is other);
  tree = λ k other. (let both : Ok krate ≡ Ok k = sym is ∙ other in let same : krate ≡ k = cc in subst (λ t. IsAssembled v t c) same made);
}

-- what is put together by the values of queries is what is compiled
pub compiled_is : ((setting text : List ℕ) (c : Compiled) → IsTextFitting text (level_of setting) → IsTextAssembled text (denote (plan_of setting) text) c ↔ IsCompiled text (level_of setting) c)
    → (setting text : List ℕ) (c : Compiled) → IsTextFitting text (level_of setting) → IsReadAssembled (denote (plan_of setting) text) text (level_of setting) c → IsCompiled text (level_of setting) c
compiled_is law setting text c fits read = record {
  fault = read.fault;
  tree = λ krate is. ((law setting text c fits).0 (record { fault = λ f other. absurd (no_fault text krate f is other); tree = read.tree })).tree krate is;
}
