use Rattle.std.proofs.Common.{◌≡◌, ℕ, ◌++◌, [], ◌∷◌, ap, sym, ◌∙◌, Some, None, Vec, Global, append-nil}
use Rattle.rs_lookup.specs.Places.{place_from}
use Rattle.rs_provider.proofs.Further.{number_more}
use Rattle.rs_reach.specs.Places.{numbers}
use Rattle.rs_provider.proofs.walk.numbers_of.Goals as goal
use Rattle.rs_provider.proofs.walk.numbers_of.Goals.{in-Some+in_ok-push-in-Some, in-None}

pub loop-place-preserved : goal.loop-place-preserved
loop-place-preserved c =
    let names = c.args.places.now in
    let ps = c.args.called.now in
    let i = c.loop-place.place-index in
    let p = c.place-item.result in
    let key : place_from (c.as_slice.result.now, c.as_slice-in-loop-place.result.now) 0 names ≡ place_from (p.«module», p.name) 0 names = (λ j. place_from (c.as_slice.ensures.value j, c.as_slice-in-loop-place.ensures.value j) 0 names) in
    elim c.match-find.branch [
      | in-Some+in_ok-push-in-Some w ↦
          ap (λ (v : Vec ℕ Global). v.items) w.numbers-is ∙ w.in_ok-push-in-Some.ensures.items ∙ ap (λ xs. xs ++ w.in-Some.number ∷ []) c.loop-place.invariant
          ∙ sym (number_more names ps i p (Some w.in-Some.number) c.loop-place-test.true c.place-item.is (sym w.in-Some.is ∙ c.find.ensures ∙ key))
      | in-None w ↦
          ap (λ (v : Vec ℕ Global). v.items) w.numbers-is ∙ c.loop-place.invariant ∙ sym (append-nil (numbers names _))
          ∙ sym (number_more names ps i p None c.loop-place-test.true c.place-item.is (sym w.in-None.is ∙ c.find.ensures ∙ key))
    ]
