use Rattle.std.proofs.Common.{◌≡◌, reverse, sym, subst, IfSome}
use Rattle.inc_proto.specs.Indexes.{Indexes}
use Rattle.inc_proto.specs.Seen.{AreOf}
use Rattle.inc_proto.specs.Views.{dir}
use Rattle.inc_proto.proofs.Brought.{placed}
use Rattle.inc_proto.proofs.view.View.hold_place.Goals as goal

pub invariant_of-self : goal.invariant_of-self
invariant_of-self c =
    let inside = c.self.inside in
    let kept = subst (λ k. IfSome k (λ own. own ≡ dir (reverse c.as_slice.result.now))) (sym c.replace.ensures.after) c.kept_again-again.ensures in
    let its = subst (λ xs. IfSome c.replace.new.dest (λ own. own ≡ dir (reverse xs))) c.as_slice.ensures.value kept in
    let index = subst (λ xs. IfSome c.keep_index.new.kept (Indexes (reverse xs))) c.as_slice-2.ensures.value c.keep_index.ensures in
    let are : AreOf (reverse inside.steps) inside.drawn inside.lock c.replace.new.dest c.keep_index.new.kept =
    record { name_is = c.self.invariant.name_is; own_is = c.self.invariant.own_is; dir_is = its; index_is = index } in
    placed c.push.result inside.steps c.push.new.self inside.drawn inside.lock c.replace.new.dest c.keep_index.new.kept c.push.ensures.ok c.push.ensures.err are
