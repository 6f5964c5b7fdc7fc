use Rattle.std.proofs.Common.{◌≢◌, ℕ, List, sym, ap, ◌∙◌}
use Rattle.std.specs.Prelude.{Some}
use Rattle.std.proofs.lemmas.List.Elements.{All-map}
use Rattle.inc_query.specs.declared.query.Query.{Query}
use Rattle.inc_engine.specs.declared.done.Done.{Done}
use Rattle.inc_engine.proofs.finish.value_at.Goals as goal

pub unreachable-requires-in-None : goal.unreachable-requires-in-None
unreachable-requires-in-None c = (let h = c.requires.asked in All-map (λ (r : Query). r ≢ c.args.q.now) (λ (d : Done). d.query) c.args.memo.now c.in-None.ensures.none h.0 c.args.q.now h.1 h.2)

pub returns : goal.returns
returns c = record {
  place = c.in-Some.place;
  done = c.entry-done.result.now;
  within = c.in-Some.ensures.found.0;
  is = c.entry-done.ensures;
  query = ap (λ (x : Done). x.query) c.entry-done.ensures ∙ c.in-Some.ensures.found.1 c.entry-done.result.now;
  value = c.in-Some-value.is ∙ ap (λ (v : List ℕ). Some v) (sym c.in_ok-copied-in-Some-value.ensures);
}
