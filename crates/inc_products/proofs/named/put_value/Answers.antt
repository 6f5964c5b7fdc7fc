use Rattle.std.proofs.Common.{◌≡◌, true, false, sym, ap, ◌∙◌, subst, set}
use Rattle.std.specs.Prelude.{slice_get}
use Rattle.std.proofs.lemmas.Cmp.{nat_list_cmp_total}
use Rattle.inc_products.specs.Named.{AreOrdered, is_keyed, name_cmp, place_in}
use Rattle.inc_products.proofs.Places.{put_found, put_new, sorted_put}
use Rattle.inc_products.proofs.named.put_value.Goals as goal

pub returns-then-stands_at-clause-ok : goal.returns-then-stands_at-clause-ok
returns-then-stands_at-clause-ok g c =
    let items = c.args.pairs.now.items in
    let name = c.args.name in
    let place = c.place_of-place.result in
    let at : place ≡ place_in name_cmp name items = c.place_of-place.ensures.place ∙ ap (place_in name_cmp name) c.as_slice.ensures.value in
    let keyed : is_keyed name_cmp name (slice_get items place) ≡ true = ap (λ l. is_keyed name_cmp name (slice_get l place)) (sym c.as_slice-2.ensures.value) ∙ sym c.stands_at.ensures.test ∙ c.if-stands_at.true in
    ap (λ w. set items place (c.index_mut.result.now.0, w)) c.replace.ensures.after ∙ ap (λ p. set items place (p.0, c.args.value)) c.index_mut.ensures.value
    ∙ put_found name_cmp nat_list_cmp_total name c.args.value items place c.index_mut.result.now at keyed

pub returns-then-stands_at-clause-ordered : goal.returns-then-stands_at-clause-ordered
returns-then-stands_at-clause-ordered g c =
    subst AreOrdered (sym (returns-then-stands_at-clause-ok g c)) (sorted_put name_cmp nat_list_cmp_total c.args.name c.args.value c.args.pairs.now.items c.requires.ordered)

pub returns-clause-ok : goal.returns-clause-ok
returns-clause-ok g c =
    let items = c.args.pairs.now.items in
    let name = c.args.name in
    let place = c.place_of-place.result in
    let at : place ≡ place_in name_cmp name items = c.place_of-place.ensures.place ∙ ap (place_in name_cmp name) c.as_slice.ensures.value in
    let off : is_keyed name_cmp name (slice_get items place) ≡ false = ap (λ l. is_keyed name_cmp name (slice_get l place)) (sym c.as_slice-2.ensures.value) ∙ sym c.stands_at.ensures.test ∙ c.if-stands_at.false in
    c.in_ok-insert.ensures.items ∙ put_new name_cmp nat_list_cmp_total name c.args.value items place at off

pub returns-clause-ordered : goal.returns-clause-ordered
returns-clause-ordered g c =
    subst AreOrdered (sym (returns-clause-ok g c)) (sorted_put name_cmp nat_list_cmp_total c.args.name c.args.value c.args.pairs.now.items c.requires.ordered)
