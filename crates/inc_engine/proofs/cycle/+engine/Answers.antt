use Rattle.std.proofs.Common.{◌≡◌, ◌≢◌, ℕ, ◌<◌, ◌==◌, List, [], true, false, get_or, arith, rules, sym, refl, ◌∙◌, ap, subst}
use Rattle.std.specs.Prelude.{Some, None}
use Rattle.inc_query.specs.Queries.{IsQuery}
use Rattle.inc_query.specs.Ticks.{rise, ticks}
use Rattle.inc_query.specs.TickLaws.{rise-none}
use Rattle.inc_query.specs.declared.query.Query.{Query}
use Rattle.inc_graph.specs.declared.node.Node.{Node}
use Rattle.inc_engine.specs.Marking.{Greening}
use Rattle.inc_engine.specs.declared.done.Done.{Done}
use Rattle.inc_engine.proofs.Apart.{node-differs}
use Rattle.inc_engine.proofs.Steps.{grew-none, grew-then, grew-from, answers, asked-plan, underway-start, underway-read, next-read, way-read, did_run, visited-grew, visited-push, at-is, at-within}
use Rattle.inc_engine.proofs.Marks.{is_read, marked-differs, greening-more, taken-more, told-more, told-all, way-mark, marked-green, marked-uncached, settled-run, settled-green, settled-after, stale-other, value-found, grew-rerun, sound-rerun, sound-push, grew-push, at-rerun, fresh, if-ok}
use Rattle.inc_engine.proofs.cycle.+engine.Goals as goal

moved : {ns nodes : List Node} (i : ℕ) (n : Node) → ns ≡ nodes → n ≡ get_or ns i n → n ≡ get_or nodes i n
moved {ns} {nodes} i n e f = f ∙ ap (λ (xs : List Node). get_or xs i n) e

pub mark-loop-position-init : goal.mark-loop-position-init
mark-loop-position-init g t c = record {
  sound = c.requires.sound;
  grew = grew-none;
  told = rw c.new-reads.ensures refl;
  green = record { agree = λ _ _. tt };
  visited = rw c.new-reads.ensures (record { each = tt });
}

pub mark-returns-then-not-same_print-clause-grew : goal.mark-returns-then-not-same_print-clause-grew
mark-returns-then-not-same_print-clause-grew g t c =
    let nodes = c.args.previous.now.graph in
    let items = c.as_slice-position-items.result.now in
    let node = moved c.args.place c.index-nodes-place.result c.as_slice-nodes.ensures.value c.index-nodes-place.is in
    let read = is_read nodes c.requires.sound.graph c.args.place c.index-nodes-place.result items c.loop-position.position-index c.index-nodes-position.result c.requires.within node c.as_slice-position-items.ensures.value c.loop-position-test.true (moved _ c.index-nodes-position.result c.as_slice-nodes.ensures.value c.index-nodes-position.is) in
    grew-then c.loop-position.invariant.grew c.in_ok-i.ensures.grew (omega arith) (omega (arith, read.lower))
    (way-mark c.index-nodes-place.result read c.requires.within node c.as_slice-position-items.ensures.value c.loop-position-test.true c.requires.above c.loop-position.invariant.green)

pub mark-returns-then-not-same_print-clause-marked : goal.mark-returns-then-not-same_print-clause-marked
mark-returns-then-not-same_print-clause-marked g t c =
    let nodes = c.args.previous.now.graph in
    let items = c.as_slice-position-items.result.now in
    let node = moved c.args.place c.index-nodes-place.result c.as_slice-nodes.ensures.value c.index-nodes-place.is in
    let read = is_read nodes c.requires.sound.graph c.args.place c.index-nodes-place.result items c.loop-position.position-index c.index-nodes-position.result c.requires.within node c.as_slice-position-items.ensures.value c.loop-position-test.true (moved _ c.index-nodes-position.result c.as_slice-nodes.ensures.value c.index-nodes-position.is) in
    let apart : c.entry.result.now.print.0 ≢ c.index-nodes-position.result.print.0 = λ e. absurd (let bad : true ≡ false = sym (c.same_print.ensures.1 e) ∙ c.if-not-same_print.true in cc) in
    marked-differs [] c.index-nodes-place.result c.in_ok-i.i c.entry.result.now read c.requires.within node c.as_slice-position-items.ensures.value c.loop-position-test.true c.in_ok-i.ensures.sound c.in_ok-i.ensures.place c.entry.ensures apart

pub mark-loop-position-preserved : goal.mark-loop-position-preserved
mark-loop-position-preserved g t c =
    let nodes = c.args.previous.now.graph in
    let items = c.as_slice-position-items.result.now in
    let node = moved c.args.place c.index-nodes-place.result c.as_slice-nodes.ensures.value c.index-nodes-place.is in
    let read = is_read nodes c.requires.sound.graph c.args.place c.index-nodes-place.result items c.loop-position.position-index c.index-nodes-position.result c.requires.within node c.as_slice-position-items.ensures.value c.loop-position-test.true (moved _ c.index-nodes-position.result c.as_slice-nodes.ensures.value c.index-nodes-position.is) in
    let same = c.same_print.ensures.0 c.if-not-same_print.false in
    let kind = ap (λ (q : Query). q.kind) (at-is c.visit.new.memo c.in_ok-i.i c.index-nodes-position.result.query c.entry.result.now c.in_ok-i.ensures.place) in
    record {
      sound = c.in_ok-i.ensures.sound;
      grew = grew-then c.loop-position.invariant.grew c.in_ok-i.ensures.grew (omega arith) (omega (arith, read.lower))
          (way-mark c.index-nodes-place.result read c.requires.within node c.as_slice-position-items.ensures.value c.loop-position-test.true c.requires.above c.loop-position.invariant.green);
      told = rw c.in_ok-push.ensures.ok (told-more c.in_ok-i.i c.entry.result.now read c.loop-position-test.true c.loop-position.invariant.visited c.in_ok-i.ensures.grew c.in_ok-i.ensures.place c.loop-position.invariant.told);
      green = subst (Greening _) (sym (taken-more read c.loop-position-test.true)) (greening-more c.in_ok-i.i c.entry.result.now read c.in_ok-i.ensures.sound c.in_ok-i.ensures.place c.entry.ensures same c.loop-position.invariant.green);
      visited = rw c.in_ok-push.ensures.ok (visited-push c.in_ok-i.i (visited-grew c.loop-position.invariant.visited c.in_ok-i.ensures.grew) (at-within c.visit.new.memo c.in_ok-i.i c.index-nodes-position.result.query c.in_ok-i.ensures.place) (omega (arith, read.lower, kind)));
    }

pub mark-returns-in_ok-copy-in-Some-clause-marked : goal.mark-returns-in_ok-copy-in-Some-clause-marked
mark-returns-in_ok-copy-in-Some-clause-marked g t c =
    let nodes = c.args.previous.now.graph in
    let items = c.as_slice-position-items.result.now in
    let node = moved c.args.place c.index-nodes-place.result c.as_slice-nodes.ensures.value c.index-nodes-place.is in
    let told = told-all nodes items c.loop-position-test.false c.loop-position.invariant.told in
    let whole = told-all nodes items c.loop-position-test.false refl in
    let d : Done = record { query = c.in_ok-copy-in-Some.field-0; print = c.index-nodes-place.result.print; reads = c.loop-position.reads; value = c.in-Some.value; ran = false } in
    marked-green c.index-nodes-place.result c.loop-position.reads d (λ x. g.met.P.Providers.fits _ x) c.requires.sound.graph c.requires.within node c.as_slice-position-items.ensures.value c.requires.above c.requires.kind told
    (node-differs nodes c.requires.sound.graph c.args.place c.index-nodes-place.result items c.requires.within node c.as_slice-position-items.ensures.value)
    (subst (Greening _) whole c.loop-position.invariant.green) c.in_ok-copy-in-Some.ensures refl refl (rw c.in-Some.is at c.in_ok-value.ensures.some) c.loop-position.invariant.visited

pub mark-returns-in-None-clause-marked : goal.mark-returns-in-None-clause-marked
mark-returns-in-None-clause-marked g t c =
    let node = moved c.args.place c.index-nodes-place.result c.as_slice-nodes.ensures.value c.index-nodes-place.is in
    let none = rw c.in-None.is at c.in_ok-value.ensures.none in
    marked-uncached [] c.index-nodes-place.result c.requires.within node none.0 none.1

pub run-loop-init : goal.run-loop-init
run-loop-init g t c = record {
  sound = c.requires.sound;
  grew = grew-none;
  underway = rw (c.new-known.ensures, c.new-reads.ensures) underway-start;
}

pub run-next-requires-clause-asked : goal.run-next-requires-clause-asked
run-next-requires-clause-asked g t c = asked-plan (g.P.Providers.plan (g.P.Providers.setting c.args.p.now)) (g.P.Providers.input c.args.p.now) c.args.q.now c.loop.known c.loop.invariant.underway.asked_so

pub run-value_of-requires : goal.run-value_of-requires
run-value_of-requires g t c κs within =
    let e = sym c.in-Read.is ∙ answers (g.P.Providers.plan (g.P.Providers.setting c.args.p.now)) (g.P.Providers.input c.args.p.now) c.args.q.now c.loop.known _ c.in_ok-r.ensures.start c.in_ok-r.ensures.step in
    let read = next-read c.in-Read.r c.loop.invariant.underway (g.met.P.Providers.fits _ c.args.q.now) e in
    let low : c.in-Read.r.kind < c.args.q.now.kind = read.0.lower in
    let form : IsQuery c.in-Read.r = read.0.form c.requires.query in
    search (rules, low, form)

pub run-loop-preserved : goal.run-loop-preserved
run-loop-preserved g t c =
    let r = c.in-Read.r in
    let e = sym c.in-Read.is ∙ answers (g.P.Providers.plan (g.P.Providers.setting c.args.p.now)) (g.P.Providers.input c.args.p.now) c.args.q.now c.loop.known _ c.in_ok-r.ensures.start c.in_ok-r.ensures.step in
    let read = next-read r c.loop.invariant.underway (g.met.P.Providers.fits _ c.args.q.now) e in
    let tick : g.P.Tick.Tally.count c.next.new.meter ≡ g.P.Tick.Tally.count c.loop.meter =
    c.in_ok-r.ensures.ticks ∙ ap (λ a. rise (g.P.Tick.Tally.count c.loop.meter) (ticks (c.args.q.now.kind == g.P.Providers.ticking) a)) c.in-Read.is ∙ rise-none _ in
    let none : Done = record { query = r; print = record { 0 = [] }; reads = []; value = None; ran = false } in
    let low = read.0.lower in
    record {
      sound = c.in_ok-place-in-Read.ensures.sound;
      grew = grew-then c.loop.invariant.grew (grew-from tick c.in_ok-place-in-Read.ensures.grew) (omega arith) (omega (arith, low)) (way-read r c.loop.invariant.underway e);
      underway = rw (c.in_ok-push-in-Read.ensures.ok, c.in_ok-push-in-Read-2.ensures.ok) (underway-read r c.in_ok-place-in-Read.value c.in_ok-place-in-Read.place none c.loop.invariant.underway (g.met.P.Providers.fits _ c.args.q.now) e c.in_ok-place-in-Read.ensures.grew c.in_ok-place-in-Read.ensures.place c.in_ok-place-in-Read.ensures.value);
    }

pub run-returns-in-Value-clause-run : goal.run-returns-in-Value-clause-run
run-returns-in-Value-clause-run g t c =
    did_run (record { reads = c.loop.reads; value = c.in-Value.value }) (λ x. g.met.P.Providers.fits _ x) c.loop.invariant.grew
    (c.in_ok-r.ensures.ticks ∙ ap (λ a. rise (g.P.Tick.Tally.count c.loop.meter) (ticks (c.args.q.now.kind == g.P.Providers.ticking) a)) c.in-Value.is)
    c.loop.invariant.underway
    (sym c.in-Value.is ∙ answers (g.P.Providers.plan (g.P.Providers.setting c.args.p.now)) (g.P.Providers.input c.args.p.now) c.args.q.now c.loop.known _ c.in_ok-r.ensures.start c.in_ok-r.ensures.step)

pub settle-returns-in_ok-ran-in-None-clause-settled : goal.settle-returns-in_ok-ran-in-None-clause-settled
settle-returns-in_ok-ran-in-None-clause-settled g t c =
    if-ok _ _ c.done_of.result (λ d h. settled-run d c.requires.query c.requires.kind c.in_ok-ran-in-None.ensures.run (stale-other c.in-None.ensures.none g.met.P.Providers.ticks_above) h.query h.print h.reads_are h.value_is) c.done_of.ensures

pub settle-returns-in-Some-2-clause-settled : goal.settle-returns-in-Some-2-clause-settled
settle-returns-in-Some-2-clause-settled g t c =
    settled-green c.in-Some.place c.in-Some-2.done c.in-Some.ensures.found.1 c.in_ok-done-in-Some.ensures.grew (rw c.in-Some-2.is at c.in_ok-done-in-Some.ensures.marked)

pub settle-returns-in_ok-ran-in-None-2-clause-settled : goal.settle-returns-in_ok-ran-in-None-2-clause-settled
settle-returns-in_ok-ran-in-None-2-clause-settled g t c =
    if-ok _ _ c.done_of-in-None-2.result (λ d h. settled-after c.in-Some.place d c.requires.query c.requires.kind c.in-Some.ensures.found.1 c.in_ok-done-in-Some.ensures.grew (rw c.in-None-2.is at c.in_ok-done-in-Some.ensures.marked) c.in_ok-ran-in-None-2.ensures.run h.query h.print h.reads_are h.value_is) c.done_of-in-None-2.ensures

pub value_of-returns-in-Some-clause-value : goal.value_of-returns-in-Some-clause-value
value_of-returns-in-Some-clause-value g t c =
    value-found c.in_ok-place.place c.entry.result.now c.in_ok-value.value c.in_ok-place.ensures.sound c.in_ok-place.ensures.place c.entry.ensures (c.in-Some.is ∙ ap (λ (v : List ℕ). Some v) (sym c.in_ok-value.ensures))

pub value_of-returns-clause-sound : goal.value_of-returns-clause-sound
value_of-returns-clause-sound g t c =
    sound-rerun c.in_ok-place.place c.in_ok-kept.kept c.in_ok-ran.ensures.sound c.in_ok-place.ensures.place c.in_ok-ran.ensures.run c.in_ok-kept.ensures c.keep.ensures c.entry.result.now

pub value_of-returns-clause-grew : goal.value_of-returns-clause-grew
value_of-returns-clause-grew g t c =
    grew-rerun c.in_ok-place.place c.entry.result.now _ c.in_ok-place.ensures.grew c.in_ok-place.ensures.sound c.in_ok-place.ensures.place c.entry.ensures c.in_default.is c.in_ok-ran.ensures.run (c.keep.ensures c.entry.result.now) refl

pub value_of-returns-clause-place : goal.value_of-returns-clause-place
value_of-returns-clause-place g t c =
    at-rerun c.in_ok-place.place c.entry.result.now _ c.in_ok-place.ensures.place c.in_ok-ran.ensures.run (c.keep.ensures c.entry.result.now) refl

pub visit-returns-in-Some-clause-grew : goal.visit-returns-in-Some-clause-grew
visit-returns-in-Some-clause-grew g t c = grew-none

pub visit-enter-requires : goal.visit-enter-requires
visit-enter-requires g t c = fresh c.in_ok-done.done c.in_ok-done.ensures.settled c.in_default.ensures.none

pub visit-returns-clause-sound : goal.visit-returns-clause-sound
visit-returns-clause-sound g t c = sound-push c.in_ok-done.done c.in_ok-done.ensures.sound c.in_ok-done.ensures.settled c.in_ok-place.ensures.memo c.in_default.ensures.none

pub visit-returns-clause-grew : goal.visit-returns-clause-grew
visit-returns-clause-grew g t c = grew-push c.in_ok-done.done c.in_ok-done.ensures.settled c.in_ok-place.ensures.memo
