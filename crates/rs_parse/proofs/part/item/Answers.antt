use Rattle.std.proofs.Common.{sym, ◌∙◌}
use Rattle.rs_reader.proofs.Exits.{failed}
use Rattle.rs_parse.proofs.Items.{nothing_there, item_passes, item_starts, item_returns}
use Rattle.rs_parse.proofs.part.item.Goals as goal

pub returns-in_default : goal.returns-in_default
returns-in_default c = failed (nothing_there (sym c.at.ensures ∙ c.in_default.is))

pub returns-in_err-read : goal.returns-in_err-read
returns-in_err-read c = item_passes c.args.tokens.now _ _ _ c.front-front.result c.in-Some.start c.len.result c.len-2.result c.saturating_sub-count.result (sym c.at.ensures ∙ c.in-Some.is) c.new-inner.ensures c.len.ensures c.len-2.ensures c.saturating_sub-count.ensures c.front-front.ensures c.skip.ensures
    c.in_err-read.field-0.0 c.from_residual.result c.from_residual.ensures.1 c.in_err-read.ensures

pub whole_item-requires : goal.whole_item-requires
whole_item-requires c = item_starts c.args.tokens.now _ _ _ c.front-front.result c.in-Some.start c.len.result c.len-2.result c.saturating_sub-count.result (sym c.at.ensures ∙ c.in-Some.is) c.new-inner.ensures c.len.ensures c.len-2.ensures c.saturating_sub-count.ensures c.front-front.ensures c.skip.ensures
    c.in_ok-read.field-0 c.in_ok-read.ensures

pub returns : goal.returns
returns c = item_returns c.args.tokens.now _ _ _ c.front-front.result c.in-Some.start c.len.result c.len-2.result c.saturating_sub-count.result (sym c.at.ensures ∙ c.in-Some.is) c.new-inner.ensures c.len.ensures c.len-2.ensures c.saturating_sub-count.ensures c.front-front.ensures c.skip.ensures
    c.in_ok-read.field-0 _ c.in_ok-whole_item.ensures c.in_ok-read.ensures
