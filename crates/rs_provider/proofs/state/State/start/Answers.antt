use Rattle.std.proofs.Common.{ap, ◌∙◌}
use Rattle.inc_query.specs.Plans.{Give}
use Rattle.rs_provider.proofs.Starts.{calls_begin, check_begins, const_begins, dead_begins, form_begins, index_begins, item_begins, members_begin, none_begins, object_begins, sig_begins}
use Rattle.rs_provider.proofs.state.State.start.Goals as goal

pub returns-then-q-eq1 : goal.returns-then-q-eq1
returns-then-q-eq1 c = (index_begins c.args.level c.args.q.now c.if-q-eq1.true).at

pub returns-then-q-eq2 : goal.returns-then-q-eq2
returns-then-q-eq2 c = (item_begins c.args.level c.args.q.now c.in_ok-at.at c.in_ok-at.ensures c.if-q-eq2.true).at

pub returns-then-q-eq3 : goal.returns-then-q-eq3
returns-then-q-eq3 c = (sig_begins c.args.level c.args.q.now c.in_ok-at-2.at c.in_ok-at-2.ensures c.if-q-eq3.true).at

pub returns-then-q-eq4 : goal.returns-then-q-eq4
returns-then-q-eq4 c = (const_begins c.args.level c.args.q.now c.in_ok-at-3.at c.in_ok-at-3.ensures c.if-q-eq4.true).at

pub returns-then-q-eq5 : goal.returns-then-q-eq5
returns-then-q-eq5 c = (check_begins c.args.level c.args.q.now c.in_ok-at-4.at c.in_ok-at-4.ensures c.if-q-eq5.true).at

pub returns-then-q-eq6 : goal.returns-then-q-eq6
returns-then-q-eq6 c = (calls_begin c.args.level c.args.q.now c.in_ok-at-5.at c.in_ok-at-5.ensures c.if-q-eq6.true).at

pub returns-then-q-eq7 : goal.returns-then-q-eq7
returns-then-q-eq7 c = (dead_begins c.args.level c.args.q.now c.if-q-eq7.true).at

pub returns-then-q-eq8 : goal.returns-then-q-eq8
returns-then-q-eq8 c = (members_begin c.args.level c.args.q.now c.in_ok-unit.unit c.in_ok-unit.ensures c.if-q-eq8.true).at

pub returns-then-q-eq9 : goal.returns-then-q-eq9
returns-then-q-eq9 c = (form_begins c.args.level c.args.q.now c.in_ok-at-6.at c.in_ok-at-6.ensures c.if-q-eq9.true).at

pub returns-then-q-eq10 : goal.returns-then-q-eq10
returns-then-q-eq10 c = (object_begins c.args.level c.args.q.now c.in_ok-unit-2.unit c.in_ok-unit-2.ensures c.if-q-eq10.true).at

pub returns : goal.returns
returns c = λ version. ap Give c.new.ensures ∙ (none_begins c.args.level c.args.q.now c.if-q-eq1.false c.if-q-eq2.false c.if-q-eq3.false c.if-q-eq4.false c.if-q-eq5.false c.if-q-eq6.false c.if-q-eq7.false c.if-q-eq8.false c.if-q-eq9.false c.if-q-eq10.false).at version
