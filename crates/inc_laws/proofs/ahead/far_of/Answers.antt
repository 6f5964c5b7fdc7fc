use Rattle.std.proofs.Common.{◌≡◌, ◌≢◌, ◌∙◌, ◌==◌, ◌<◌, ◌↔◌, List, ◌∷◌, [], length, true, false, ap, sym, subst, refl, arith}
use Rattle.std.proofs.lemmas.Bool.{false≢true, true≢false, eqb-true}
use Rattle.std.proofs.lemmas.Result.{IfOk-weaker}
use Rattle.inc_fs.specs.Lookups.{same_bytes}
use Rattle.inc_fs.specs.Paths.{Text}
use Rattle.inc_proto.specs.Views.{same_text}
use Rattle.inc_laws.specs.Places.{closed_in, linked_in, AreBefore}
use Rattle.inc_laws.proofs.Coming.{far_listing, far_here, far_never}
use Rattle.inc_laws.proofs.Here.{same_itself}
use Rattle.inc_laws.proofs.ahead.far_of.Goals.{else-eq-via-then-eq+else-not-is_empty, else-eq-via-else-eq}
use Rattle.inc_laws.proofs.ahead.far_of.Goals as goal

some_names : (names : List Text) → length names == 0 ≡ false → names ≢ []
some_names names is none = true≢false (ap (λ ns. length ns == 0) (sym none) ∙ is)

no_names : (names : List Text) → length names == 0 ≡ true → names ≢ [] → ⊥
no_names [] is some = some refl
no_names (name ∷ names) is some = let none : length (name ∷ names) ≡ 0 = eqb-true (length (name ∷ names)) 0 is in absurd (omega (arith, none))

pub returns-then-not-is_empty : goal.returns-then-not-is_empty
returns-then-not-is_empty c =
    let f = closed_in c.args.closings.now c.args.end in
    let g = linked_in c.args.linkings.now c.args.end in
    let k = c.in-ListDir-Names.k in
    let entry = c.in-ListDir-Names.entry in
    let names = c.in-ListDir-Names.names in
    let krate = c.args.krate.now in
    let here : k ≡ krate = same_bytes k krate (sym c.eq.ensures ∙ c.if-eq.true) in
    let some : names ≢ [] = some_names names (sym (c.is_empty.ensures ∙ ap (λ ns. length ns == 0) c.as_slice.ensures.value) ∙ c.if-not-is_empty.true) in
    IfOk-weaker c.all_linked.result _ _
    (λ far is. far_listing krate f g c.args.end k entry names c.args.step.now far c.in-ListDir-Names.is-0 c.in-ListDir-Names.is-1
    (far_here krate f g c.args.end k entry names far here some
    (λ bound positive. subst (λ ns. far < bound ↔ AreBefore (λ file. g (entry, file)) bound ns) c.as_slice-then-not-is_empty.ensures.value (is bound positive))))
    c.all_linked.ensures

pub returns-else-eq : goal.returns-else-eq
returns-else-eq c =
    let f = closed_in c.args.closings.now c.args.end in
    let g = linked_in c.args.linkings.now c.args.end in
    let k = c.in-ListDir-Names.k in
    let entry = c.in-ListDir-Names.entry in
    let names = c.in-ListDir-Names.names in
    let krate = c.args.krate.now in
    far_listing krate f g c.args.end k entry names c.args.step.now c.args.end c.in-ListDir-Names.is-0 c.in-ListDir-Names.is-1
    (elim c.else-eq.branch [
      | else-eq-via-then-eq+else-not-is_empty w ↦ far_never krate f g c.args.end k entry names
          (λ here some. no_names names (sym (w.is_empty.ensures ∙ ap (λ ns. length ns == 0) w.as_slice.ensures.value) ∙ w.if-not-is_empty.false) some)
      | else-eq-via-else-eq w ↦ far_never krate f g c.args.end k entry names
          (λ here some. false≢true (sym w.if-eq.false ∙ c.eq.ensures ∙ ap (λ x. same_text x krate) here ∙ same_itself krate))
    ])
