-- As many answers as paths.
use Rattle.std.proofs.Common.{◌≡◌, ◌+◌, List, [], ◌++◌, length, map, ◌∙◌, sym, refl, length-append}
use Rattle.std.proofs.lemmas.List.{length-map}
use Rattle.rs_tree.specs.declared.answers.Found.{Found}
use Rattle.rs_tree.specs.declared.tree.Path as path
use Rattle.rs_tree.specs.Plain.{Sta, Stas, Arms, Let, Assign, Return, Eval, While, If, Print, Bare, Else, Arm, Const, Func}
use Rattle.rs_tree.specs.Leaves.{leaves, leaves_in, sta_leaves, stas_leaves, arms_leaves}
use Rattle.rs_names.specs.Resolved.{Locals, path_answer, with_params, after, after_all, sta_answers, stas_answers, arms_answers}
use Rattle.rs_names.specs.Laws.{OneEach}

both : {A B : Type 0} (cs bs : List A) (xs ys : List B) → length cs ≡ length xs → length bs ≡ length ys → length (cs ++ bs) ≡ length (xs ++ ys)
both cs bs xs ys e f = length-append cs bs ∙ (λ i. e i + f i) ∙ sym (length-append xs ys)

module _ (look : Locals → path.Path → Found) where
  mapped : (locals : Locals) (ps : List path.Path) → length (map (look locals) ps) ≡ length ps
  mapped locals ps = length-map ps (look locals)

  mutual
    sta : (s : Sta path.Path) (locals : Locals) → length (sta_answers look s locals) ≡ length (sta_leaves s)
    sta (Let mutable at name typ value) locals = mapped locals (leaves value)
    sta (Assign at name value) locals = mapped locals (leaves value)
    sta (Return at value) locals = mapped locals (leaves_in value)
    sta (Eval value) locals = mapped locals (leaves value)
    sta (While cond body) locals = both _ _ _ _ (mapped locals (leaves cond)) (stas body locals)
    sta (If more) locals = arms more locals
    sta (Print value) locals = mapped locals (leaves value)

    stas : (ss : Stas path.Path) (locals : Locals) → length (stas_answers look ss locals) ≡ length (stas_leaves ss)
    stas Stas.Empty locals = refl
    stas (Stas.Of s more) locals = both _ _ _ _ (sta s locals) (stas more (after s locals))

    arms : (choices : Arms path.Path) (locals : Locals) → length (arms_answers look choices locals) ≡ length (arms_leaves choices)
    arms Bare locals = refl
    arms (Else body) locals = stas body locals
    arms (Arm cond body more) locals = both _ _ _ _ (mapped locals (leaves cond)) (both _ _ _ _ (stas body locals) (arms more locals))

pub one_each : OneEach
one_each items m (Const typ value) = mapped (path_answer items m) [] (leaves value)
one_each items m (Func inlined params gives stmts tail) =
    both _ _ _ _ (stas (path_answer items m) stmts (with_params params [])) (mapped (path_answer items m) (after_all stmts (with_params params [])) (leaves_in tail))
