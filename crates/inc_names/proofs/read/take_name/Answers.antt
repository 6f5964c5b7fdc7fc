use Rattle.std.proofs.Common.{◌≡◌, ◌≤◌, ◌<◌, ◌^◌, ◌++◌, refl, sym, ap, ◌∙◌, arith, codes}
use Rattle.inc_base.specs.Base36.{text36}
use Rattle.inc_names.proofs.Parts.{after_s, after_moment, after_dash, stem_made}
use Rattle.inc_names.specs.EntryLaws.{stem_text-parts}
use Rattle.inc_names.proofs.read.take_name.Goals as goal

pub returns-in_err-after-clause-none : goal.returns-in_err-after-clause-none
returns-in_err-after-clause-none c =
    rw c.from_residual.ensures (λ name rest is ends same.
    c.in_err-after.ensures (text36 name.moment ++ (codes "-" ++ (text36 name.random ++ rest))) (same ∙ stem_text-parts name rest))

pub returns-in_err-moment-clause-none : goal.returns-in_err-moment-clause-none
returns-in_err-moment-clause-none c =
    rw c.from_residual-in_err-moment.ensures (λ name rest is ends same.
    let next = after_s c.args.text.now c.in_ok-after.field-0.now name rest c.in_ok-after.ensures same in
    c.in_err-moment.ensures.none name.moment (codes "-" ++ (text36 name.random ++ rest)) (omega (arith, is.moment, c.from.ensures)) refl next)

pub returns-in_err-after-2-clause-none : goal.returns-in_err-after-2-clause-none
returns-in_err-after-2-clause-none c =
    rw c.from_residual-in_err-after-2.ensures (λ name rest is ends same.
    let first = c.in_ok-moment.ensures.some in
    let next = after_moment c.args.text.now c.in_ok-after.field-0.now c.in_ok-moment.rest.now c.in_ok-moment.moment name rest c.in_ok-after.ensures first.1 first.2 same in
    c.in_err-after-2.ensures (text36 name.random ++ rest) next)

pub returns-in_err-random-clause-none : goal.returns-in_err-random-clause-none
returns-in_err-random-clause-none c =
    rw c.from_residual-in_err-random.ensures (λ name rest is ends same.
    let first = c.in_ok-moment.ensures.some in
    let next = after_dash c.args.text.now c.in_ok-after.field-0.now c.in_ok-moment.rest.now c.in_ok-after-2.field-0.now c.in_ok-moment.moment name rest c.in_ok-after.ensures first.1 first.2 c.in_ok-after-2.ensures same in
    c.in_err-random.ensures.none name.random rest (omega (arith, is.random, c.from-2.ensures)) ends next)

pub returns-clause-some : goal.returns-clause-some
returns-clause-some c =
    let first = c.in_ok-moment.ensures.some in
    let second = c.in_ok-random.ensures.some in (
      record {
        moment = omega (arith, first.0, c.from.ensures);
        random = omega (arith, second.0, c.from-2.ensures);
      },
      stem_made c.args.text.now c.in_ok-after.field-0.now c.in_ok-moment.rest.now c.in_ok-after-2.field-0.now c.in_ok-random.rest.now c.in_ok-moment.moment c.in_ok-random.random c.in_ok-after.ensures first.1 c.in_ok-after-2.ensures second.1,
      second.2,
    )
