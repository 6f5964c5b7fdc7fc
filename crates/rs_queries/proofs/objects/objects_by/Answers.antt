use Rattle.std.proofs.Common.{◌≡◌, ℕ, ◌+◌, ◌<◌, List, [], ◌∷◌, ◌++◌, length, get_or, take, map, sym, ap, subst, ◌∙◌}
use Rattle.std.specs.Prelude.{All}
use Rattle.std.proofs.lemmas.List.{map-append, take_more}
use Rattle.std.proofs.lemmas.List.Elements.{All-push}
use Rattle.inc_base.specs.Meters.{ticked}
use Rattle.rs_object.specs.Grammar.{InGrammar}
use Rattle.rs_emit.specs.Objects.{object_of}
use Rattle.rs_queries.specs.Built.{members_in}
use Rattle.rs_queries.proofs.Emitted.{raised_more}
use Rattle.rs_queries.proofs.objects.objects_by.Goals as goal

more : {A B : Type 0} (f : A → B) (xs : List A) (i : ℕ) (x : A) (os ps : List B) (o : B) → i < length xs → x ≡ get_or xs i x → os ≡ map f (take i xs) → ps ≡ os ++ o ∷ [] → o ≡ f x → ps ≡ map f (take (i + 1) xs)
more f xs i x os ps o l at was push is =
    push ∙ (λ j. was j ++ is j ∷ [])
    ∙ sym (ap (map f) (take_more xs i x l) ∙ map-append f (take i xs) (get_or xs i x ∷ []) ∙ ap (λ y. map f (take i xs) ++ f y ∷ []) (sym at))

pub loop-unit-preserved : goal.loop-unit-preserved
loop-unit-preserved c =
    let g = c.args.graph.now in
    let f = λ (u : List ℕ). object_of u (members_in g.0 g.1 c.args.forms.now u) in
    let was = c.loop-unit.invariant in
    let made = c.in_ok-object_in.ensures in
    let o = c.in_ok-object_in.field-0 in
    let push = c.in_ok-push.ensures.ok in
    record {
      made = more f c.args.units.now c.loop-unit.unit-index c.unit-item.result c.loop-unit.objects c.push.new.self o c.loop-unit-test.true c.unit-item.is was.made push (made.makes ∙ ap f c.as_slice.ensures.value);
      grammar = subst (All InGrammar) (sym push) (All-push InGrammar c.loop-unit.objects o was.grammar made.grammar);
      count = made.tick ∙ ap ticked was.count ∙ raised_more c.args.meter.now c.loop-unit.unit-index c.requires;
    }
