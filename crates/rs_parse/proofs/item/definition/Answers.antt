use Rattle.std.proofs.Common.{sym, inl, inr}
use Rattle.rs_grammar.specs.Grammar.{Nt, Definition}
use Rattle.rs_grammar.specs.Parses.{r-nt, r-no_nt, r-seq, r-second, r-left, r-right, r-no_left, r-no_right, r-ahead, r-no_ahead, r-other_way, r-no_other_way}
use Rattle.rs_reader.specs.Reading.{Reading}
use Rattle.rs_reader.proofs.Exits.{hands, as_is}
use Rattle.rs_reader.proofs.Makes.{hands_made}
use Rattle.rs_parse.specs.Blocks.{public_constant}
use Rattle.rs_grammar.specs.Grammar.{made}
use Rattle.rs_parse.proofs.item.definition.Goals as goal

pub returns-then-sees_pub_const : goal.returns-then-sees_pub_const
returns-then-sees_pub_const c = hands_made {g = public_constant} {h = Nt Definition} {f = λ v. made Definition (inl v)} c.public_constant.result c.public_constant.ensures (λ r. r-no_nt {n = Definition} (r-no_ahead (sym c.if-sees_pub_const.ensures) r)) (λ y r. r-nt {n = Definition} {x = inl y} (r-ahead (sym c.if-sees_pub_const.ensures) r))

pub returns-then-sees : goal.returns-then-sees
returns-then-sees c = as_is (λ q. Reading (Nt Definition) c.args.tokens.now q c.constant.new.tokens) c.constant.result
    (hands {h = (Nt Definition)} c.constant.result c.constant.ensures (λ x. x) (λ r. r-no_nt {n = Definition} (r-no_other_way (sym c.if-sees_pub_const.ensures) (r-no_left (sym c.if-sees.ensures) (r-second c.take.ensures.is r)))) (λ x r. r-nt {n = Definition} {x = inr (inl (c.take.result, x))} (r-other_way (sym c.if-sees_pub_const.ensures) (r-left (sym c.if-sees.ensures) (r-seq c.take.ensures.is r)))))

pub returns : goal.returns
returns c = as_is (λ q. Reading (Nt Definition) c.args.tokens.now q c.function.new.tokens) c.function.result
    (hands {h = (Nt Definition)} c.function.result c.function.ensures (λ x. x) (λ r. r-no_nt {n = Definition} (r-no_other_way (sym c.if-sees_pub_const.ensures) (r-no_right (sym c.if-sees.ensures) r))) (λ x r. r-nt {n = Definition} {x = inr (inr x)} (r-other_way (sym c.if-sees_pub_const.ensures) (r-right (sym c.if-sees.ensures) r))))
