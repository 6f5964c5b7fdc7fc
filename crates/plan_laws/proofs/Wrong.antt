-- What is wrong with an item, by either of two lists of signatures.
use Rattle.std.proofs.Common.{◌≡◌, ℕ, zero, suc, false, true, List, [], ◌∷◌, ◌++◌, drop, length, refl, sym, ap, subst, ◌∙◌}
use Rattle.std.specs.Prelude.{Option, Some, None}
use Rattle.std.specs.List.{AllByRecursion}
use Rattle.rs_tree.specs.declared.answers.Const.{Const as Value}
use Rattle.rs_tree.specs.declared.answers.Diag.{Diag}
use Rattle.rs_tree.specs.declared.answers.Found.{Found}
use Rattle.rs_tree.specs.declared.answers.Found.TheVariants as f
use Rattle.rs_tree.specs.declared.index.IndexItem.{IndexItem}
use Rattle.rs_tree.specs.declared.index.Sig.{Sig}
use Rattle.rs_tree.specs.declared.place.At.{At}
use Rattle.rs_tree.specs.declared.place.Place.{Place}
use Rattle.rs_tree.specs.declared.tree.Param.{Param}
use Rattle.rs_tree.specs.declared.tree.Path as path
use Rattle.rs_tree.specs.Plain.{at_of, Exp, Definition, PlainItem, Const, Func, Sta, Stas, Arms, Let, Assign, Return, Eval, While, If, Print, Bare, Else, Arm}
use Rattle.rs_tree.specs.Leaves.{answered, filled, filled_in, leaves, leaves_in, stas_filled, sta_leaves, stas_leaves, arms_leaves}
use Rattle.rs_tree.specs.LeafLaws.{of_expression, of_statements, of_value}
use Rattle.rs_names.specs.Indexed.{is_root_main}
use Rattle.rs_types.specs.Types.{Leaf, Context, need, reads}
use Rattle.rs_check.specs.Bodies.{Around, after, after_all, arms_reads, as_local, declare, declared_all, name_wrongs, outside, param_places, params_wrongs, reads_in, sta_reads, stas_reads, stas_wrongs, twice_wrongs, with_params}
use Rattle.rs_check.specs.Items.{begin, body_wrongs, end_wrongs, item_wrongs, main_wrongs, tail_wrongs, unused, value_wrongs}
use Rattle.plan_laws.specs.Agree.{Agrees}
use Rattle.plan_laws.proofs.Agree.{AllAgree, after_all_same, after_same, all_back, all_front, all_sigs_stay, sigs_stay, stas_same, two_same, type_same, with_sigs, wrongs_same}

-- ---- The answers at the paths of a tree.

abbrev AnswersAgree : List (Place × Sig) → List (Place × Sig) → List Found → Type 0
AnswersAgree one other found = AllByRecursion (Agrees one other) found

dropped_agree : (one other : List (Place × Sig)) (n : ℕ) (found : List Found) → AnswersAgree one other found → AnswersAgree one other (drop n found)
dropped_agree one other zero found h = h
dropped_agree one other (suc n) [] h = tt
dropped_agree one other (suc n) (b ∷ bs) h = dropped_agree one other n bs h.1

leaves_agree : (one other : List (Place × Sig)) (found : List Found) (ps : List path.Path) → AnswersAgree one other found → AllAgree one other (answered f.Absent found ps)
leaves_agree one other found [] h = tt
leaves_agree one other [] (p ∷ ps) h = (tt, leaves_agree one other [] ps tt)
leaves_agree one other (b ∷ bs) (p ∷ ps) h = (h.0, leaves_agree one other bs ps h.1)

pub exp_agrees : (one other : List (Place × Sig)) (found : List Found) (e : Exp path.Path) → AnswersAgree one other found → AllAgree one other (leaves (filled f.Absent found e))
exp_agrees one other found e h = subst (AllAgree one other) (sym (of_expression f.Absent found e)) (leaves_agree one other found (leaves e) h)

tail_agrees : (one other : List (Place × Sig)) (found : List Found) (o : Option (Exp path.Path)) → AnswersAgree one other found → AllAgree one other (leaves_in (filled_in f.Absent found o))
tail_agrees one other found o h = subst (AllAgree one other) (sym (of_value f.Absent found o)) (leaves_agree one other found (leaves_in o) h)

stas_agree : (one other : List (Place × Sig)) (found : List Found) (ss : Stas path.Path) → AnswersAgree one other found → AllAgree one other (stas_leaves (stas_filled f.Absent found ss))
stas_agree one other found ss h = subst (AllAgree one other) (sym (of_statements f.Absent found ss)) (leaves_agree one other found (stas_leaves ss) h)

-- ---- Parameters.

with_same : (other : List (Place × Sig)) (ps : List Param) (c : Context) → with_params ps (with_sigs other c) ≡ with_sigs other (with_params ps c)
with_same other [] c = refl
with_same other (p ∷ ps) c = with_same other ps (declare p.name (as_local p) c)

params_stay : (ps : List Param) (c : Context) → (with_params ps c).sigs ≡ c.sigs
params_stay [] c = refl
params_stay (p ∷ ps) c = params_stay ps (declare p.name (as_local p) c)

params_same : (other : List (Place × Sig)) (g : Around) (c : Context) (ps : List Param) → params_wrongs g c ps ≡ params_wrongs g (with_sigs other c) ps
params_same other g c [] = refl
params_same other g c (p ∷ ps) = ap (λ l. (twice_wrongs c p ++ name_wrongs g p.at p.name) ++ l) (params_same other g (declare p.name (as_local p) c) ps)

-- ---- The locals that are read.

tail_reads_same : (other : List (Place × Sig)) (c : Context) (o : Option (Exp Leaf)) → reads_in c o ≡ reads_in (with_sigs other c) o
tail_reads_same other c None = refl
tail_reads_same other c (Some e) = refl

mutual
  sta_reads_same : (other : List (Place × Sig)) (c : Context) (s : Sta Leaf) → AllAgree c.sigs other (sta_leaves s) → sta_reads c s ≡ sta_reads (with_sigs other c) s
  sta_reads_same other c (Let mutable at name typ value) h = refl
  sta_reads_same other c (Assign at name value) h = refl
  sta_reads_same other c (Return at value) h = tail_reads_same other c value
  sta_reads_same other c (Eval value) h = refl
  sta_reads_same other c (While cond body) h = ap (λ l. reads c.scope (leaves cond) ++ l) (stas_reads_same other c body (all_back c.sigs other (leaves cond) (stas_leaves body) h))
  sta_reads_same other c (If arms) h = arms_reads_same other c arms h
  sta_reads_same other c (Print value) h = refl

  stas_reads_same : (other : List (Place × Sig)) (c : Context) (ss : Stas Leaf) → AllAgree c.sigs other (stas_leaves ss) → stas_reads c ss ≡ stas_reads (with_sigs other c) ss
  stas_reads_same other c Stas.Empty h = refl
  stas_reads_same other c (Stas.Of s more) h =
      let one = all_front c.sigs other (sta_leaves s) (stas_leaves more) h in
      let two = subst (λ sigs. AllAgree sigs other (stas_leaves more)) (sym (sigs_stay s c)) (all_back c.sigs other (sta_leaves s) (stas_leaves more) h) in
      two_same (sta_reads_same other c s one) (stas_reads_same other (after s c) more two ∙ ap (λ a. stas_reads a more) (sym (after_same other s c one)))

  arms_reads_same : (other : List (Place × Sig)) (c : Context) (arms : Arms Leaf) → AllAgree c.sigs other (arms_leaves arms) → arms_reads c arms ≡ arms_reads (with_sigs other c) arms
  arms_reads_same other c Bare h = refl
  arms_reads_same other c (Else body) h = stas_reads_same other c body h
  arms_reads_same other c (Arm cond body more) h =
      let rest = all_back c.sigs other (leaves cond) (stas_leaves body ++ arms_leaves more) h in
      let inner = all_front c.sigs other (stas_leaves body) (arms_leaves more) rest in
      let later = subst (λ sigs. AllAgree sigs other (arms_leaves more)) (sym (all_sigs_stay body c)) (all_back c.sigs other (stas_leaves body) (arms_leaves more) rest) in
      two_same (ap (λ l. reads c.scope (leaves cond) ++ l) (stas_reads_same other c body inner))
      (arms_reads_same other (outside c (after_all body c)) more later ∙ ap (λ a. arms_reads (outside c a) more) (sym (after_all_same other body c inner)))

-- ---- A body.

tail_same : (other : List (Place × Sig)) (g : Around) (c : Context) (o : Option (Exp Leaf)) → AllAgree c.sigs other (leaves_in o) → tail_wrongs g c o ≡ tail_wrongs g (with_sigs other c) o
tail_same other g c None h = refl
tail_same other g c (Some e) h = two_same (wrongs_same other c e h) (ap (need (at_of e) g.gives) (type_same other c e h))

abbrev told : Around → Stas Leaf → Option (Exp Leaf) → Context → List Diag
told g body last c = stas_wrongs g c body ++ tail_wrongs g (after_all body c) last

abbrev read : Stas Leaf → Option (Exp Leaf) → Context → List ℕ
read body last c = stas_reads c body ++ reads_in (after_all body c) last

told_same : (other : List (Place × Sig)) (g : Around) (c : Context) (body : Stas Leaf) (last : Option (Exp Leaf)) → AllAgree c.sigs other (stas_leaves body) → AllAgree c.sigs other (leaves_in last) → told g body last c ≡ told g body last (with_sigs other c)
told_same other g c body last h k =
    let end = subst (λ sigs. AllAgree sigs other (leaves_in last)) (sym (all_sigs_stay body c)) k in
    two_same (stas_same other g c body h) (tail_same other g (after_all body c) last end ∙ ap (λ a. tail_wrongs g a last) (sym (after_all_same other body c h)))

read_same : (other : List (Place × Sig)) (c : Context) (body : Stas Leaf) (last : Option (Exp Leaf)) → AllAgree c.sigs other (stas_leaves body) → read body last c ≡ read body last (with_sigs other c)
read_same other c body last h = two_same (stas_reads_same other c body h) (tail_reads_same other (after_all body c) last ∙ ap (λ a. reads_in a last) (sym (after_all_same other body c h)))

body_same : (items : List IndexItem) (sigs other : List (Place × Sig)) (home : List ℕ) (found : List Found) (value : Option Value) (at : At) (name : List ℕ) (d : Definition path.Path) → AnswersAgree sigs other found
    → body_wrongs items sigs home found value at name d ≡ body_wrongs items other home found value at name d
body_same items sigs other home found value at name (Const typ e) h =
    let agree = exp_agrees sigs other found e h in
    ap (λ l. l ++ value_wrongs at name value) (two_same (wrongs_same other (begin true sigs) (filled f.Absent found e) agree) (ap (need (at_of (filled f.Absent found e)) typ) (type_same other (begin true sigs) (filled f.Absent found e) agree)))
body_same items sigs other home found value at name (Func inlined params gives stmts tail) h =
    let g : Around = record { items = items; home = home; gives = gives } in
    let c : Context = with_params params (begin false sigs) in
    let body : Stas Leaf = stas_filled f.Absent found stmts in
    let last : Option (Exp Leaf) = filled_in f.Absent (drop (length (stas_leaves stmts)) found) tail in
    let stay : c.sigs ≡ sigs = params_stay params (begin false sigs) in
    let same : with_sigs other c ≡ with_params params (begin false other) = sym (with_same other params (begin false sigs)) in
    let inner = subst (λ s. AllAgree s other (stas_leaves body)) (sym stay) (stas_agree sigs other found stmts h) in
    let end = subst (λ s. AllAgree s other (leaves_in last)) (sym stay) (tail_agrees sigs other (drop (length (stas_leaves stmts)) found) tail (dropped_agree sigs other (length (stas_leaves stmts)) found h)) in
    two_same (ap (λ l. l ++ end_wrongs at name gives stmts tail) (two_same (ap (λ l. main_wrongs at (is_root_main home name) params gives ++ l) (params_same other g (begin false sigs) params)) (told_same other g c body last inner end ∙ ap (told g body last) same)))
    (ap (λ l. unused 0 l (param_places params ++ declared_all stmts)) (read_same other c body last inner ∙ ap (read body last) same))

-- where the lists agree at each answer
pub wrong_same : (items : List IndexItem) (sigs other : List (Place × Sig)) (home : List ℕ) (found : List Found) (value : Option Value) (item : PlainItem path.Path) → AllByRecursion (Agrees sigs other) found
    → item_wrongs items sigs home found value item ≡ item_wrongs items other home found value item
wrong_same items sigs other home found value item h = body_same items sigs other home found value item.at item.name item.body h
