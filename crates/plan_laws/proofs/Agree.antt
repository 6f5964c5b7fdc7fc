-- What is wrong with an item depends on the signatures of the items that its paths lead to, and on no others.
use Rattle.std.proofs.Common.{◌≡◌, ℕ, ◌&&◌, List, [], ◌∷◌, ◌++◌, drop, refl, sym, ap, subst, ◌∙◌, if◌then◌else◌}
use Rattle.std.specs.Prelude.{Option, Some, None}
use Rattle.std.specs.List.{AllByRecursion}
use Rattle.rs_tree.specs.declared.answers.Found.{Found}
use Rattle.rs_tree.specs.declared.answers.Found.TheVariants as f
use Rattle.rs_tree.specs.declared.index.Sig.{Sig}
use Rattle.rs_tree.specs.declared.place.At.{At}
use Rattle.rs_tree.specs.declared.place.Place.{Place}
use Rattle.rs_tree.specs.declared.tree.Path as path
use Rattle.rs_tree.specs.declared.tree.Typ.{Typ}
use Rattle.rs_tree.specs.declared.tree.Typ.TheVariants as t
use Rattle.rs_tree.specs.Plain.{at_of, Exp, Exps, Operands, Number, Truth, Path, Call, Group, Unary, Arith, Compare, And, Or, Done, By, Sta, Stas, Arms, Let, Assign, Return, Eval, While, If, Print, Bare, Else, Arm}
use Rattle.rs_tree.specs.Leaves.{leaves, leaves_all, leaves_by, leaves_in, sta_leaves, stas_leaves, arms_leaves}
use Rattle.rs_diag.specs.Faults.Wrong.{ConstCall}
use Rattle.rs_types.specs.Types.{Leaf, Context, type_of, args_fit, all_ints, all_truths, wrongs, args_wrongs, wrong, wrongs_by, wrongs_of_truths, path_typ, path_wrongs, callee, called, call_wrongs, compared, counted, count, first_fits, function_as_value, function_of, given, is_typ, item_typ, need, need_first, need_same, need_value, operand, type_if, wants, wrong_callee}
use Rattle.plan_laws.specs.Agree.{Agrees}
use Rattle.rs_check.specs.Bodies.{Around, after, after_all, after_arms, arms_wrongs, assign_wrongs, cond_wrongs, declare, let_typ, let_wrongs, outside, return_wrongs, sta_wrongs, stas_wrongs}

abbrev pub AllAgree : List (Place × Sig) → List (Place × Sig) → List Leaf → Type 0
AllAgree one other ls = AllByRecursion (λ (l : Leaf). Agrees one other l.1) ls

pub all_front : (one other : List (Place × Sig)) (ls ms : List Leaf) → AllAgree one other (ls ++ ms) → AllAgree one other ls
all_front one other [] ms h = tt
all_front one other (l ∷ ls) ms h = (h.0, all_front one other ls ms h.1)

pub all_back : (one other : List (Place × Sig)) (ls ms : List Leaf) → AllAgree one other (ls ++ ms) → AllAgree one other ms
all_back one other [] ms h = h
all_back one other (l ∷ ls) ms h = all_back one other ls ms h.1

-- the same, with other signatures
abbrev pub with_sigs : List (Place × Sig) → Context → Context
with_sigs other c = record c { sigs = other }

-- ---- Expressions.

path_typ_same : (other : List (Place × Sig)) (c : Context) (p : path.Path) (x : Found) → Agrees c.sigs other x → path_typ c p x ≡ path_typ (with_sigs other c) p x
path_typ_same other c p f.Local h = refl
path_typ_same other c p (f.Item at) h = ap item_typ h
path_typ_same other c p f.Private h = refl
path_typ_same other c p f.Absent h = refl

path_wrongs_same : (other : List (Place × Sig)) (c : Context) (p : path.Path) (x : Found) → Agrees c.sigs other x → path_wrongs c p x ≡ path_wrongs (with_sigs other c) p x
path_wrongs_same other c p f.Local h = refl
path_wrongs_same other c p (f.Item at) h = ap (function_as_value p) h
path_wrongs_same other c p f.Private h = refl
path_wrongs_same other c p f.Absent h = refl

callee_same : (other : List (Place × Sig)) (c : Context) (x : Found) → Agrees c.sigs other x → callee c x ≡ callee (with_sigs other c) x
callee_same other c f.Local h = refl
callee_same other c (f.Item at) h = ap function_of h
callee_same other c f.Private h = refl
callee_same other c f.Absent h = refl

called_same : (other : List (Place × Sig)) (c : Context) (x : Found) (n : ℕ) → Agrees c.sigs other x → called c x n ≡ called (with_sigs other c) x n
called_same other c x n h = ap (λ o. if c.constant then None else counted n o) (callee_same other c x h)

call_wrongs_same : (other : List (Place × Sig)) (c : Context) (p : path.Path) (x : Found) (n : ℕ) → Agrees c.sigs other x → call_wrongs c p x n ≡ call_wrongs (with_sigs other c) p x n
call_wrongs_same other c p x n h = ap (λ o. if c.constant then wrong p.at ConstCall else wrong_callee p x n o) (callee_same other c x h)

mutual
  pub type_same : (other : List (Place × Sig)) (c : Context) (e : Exp Leaf) → AllAgree c.sigs other (leaves e) → type_of c e ≡ type_of (with_sigs other c) e
  type_same other c (Number at n) h = refl
  type_same other c (Truth at b) h = refl
  type_same other c (Path at p) h = path_typ_same other c p.0 p.1 h.0
  type_same other c (Call at p args) h =
      ap (λ o. given o (args_fit c (wants o) args)) (called_same other c p.1 (count args) h.0)
      ∙ ap (given (called (with_sigs other c) p.1 (count args))) (args_same other c (wants (called (with_sigs other c) p.1 (count args))) args h.1)
  type_same other c (Group at e) h = type_same other c e h
  type_same other c (Unary at op e) h = ap (λ o. type_if (is_typ (operand op) o) (operand op)) (type_same other c e h)
  type_same other c (Arith at first more) h =
      ap (λ o. type_if (is_typ t.Int o && all_ints c more) t.Int) (type_same other c first (all_front c.sigs other (leaves first) (leaves_by more) h))
      ∙ ap (λ b. type_if (is_typ t.Int (type_of (with_sigs other c) first) && b) t.Int) (ints_same other c more (all_back c.sigs other (leaves first) (leaves_by more) h))
  type_same other c (Compare at op a b) h =
      ap (λ o. compared o (type_of c b)) (type_same other c a (all_front c.sigs other (leaves a) (leaves b) h)) ∙ ap (compared (type_of (with_sigs other c) a)) (type_same other c b (all_back c.sigs other (leaves a) (leaves b) h))
  type_same other c (And at parts) h = ap (λ b. type_if b t.Bool) (truths_same other c parts h)
  type_same other c (Or at parts) h = ap (λ b. type_if b t.Bool) (truths_same other c parts h)

  args_same : (other : List (Place × Sig)) (c : Context) (ps : List Typ) (es : Exps Leaf) → AllAgree c.sigs other (leaves_all es) → args_fit c ps es ≡ args_fit (with_sigs other c) ps es
  args_same other c ps Exps.Empty h = refl
  args_same other c ps (Exps.Of e more) h =
      ap (λ o. first_fits ps o && args_fit c (drop 1 ps) more) (type_same other c e (all_front c.sigs other (leaves e) (leaves_all more) h))
      ∙ ap (λ b. first_fits ps (type_of (with_sigs other c) e) && b) (args_same other c (drop 1 ps) more (all_back c.sigs other (leaves e) (leaves_all more) h))

  ints_same : (other : List (Place × Sig)) (c : Context) (os : Operands Leaf) → AllAgree c.sigs other (leaves_by os) → all_ints c os ≡ all_ints (with_sigs other c) os
  ints_same other c Done h = refl
  ints_same other c (By op e more) h =
      ap (λ o. is_typ t.Int o && all_ints c more) (type_same other c e (all_front c.sigs other (leaves e) (leaves_by more) h))
      ∙ ap (λ b. is_typ t.Int (type_of (with_sigs other c) e) && b) (ints_same other c more (all_back c.sigs other (leaves e) (leaves_by more) h))

  truths_same : (other : List (Place × Sig)) (c : Context) (es : Exps Leaf) → AllAgree c.sigs other (leaves_all es) → all_truths c es ≡ all_truths (with_sigs other c) es
  truths_same other c Exps.Empty h = refl
  truths_same other c (Exps.Of e more) h =
      ap (λ o. is_typ t.Bool o && all_truths c more) (type_same other c e (all_front c.sigs other (leaves e) (leaves_all more) h))
      ∙ ap (λ b. is_typ t.Bool (type_of (with_sigs other c) e) && b) (truths_same other c more (all_back c.sigs other (leaves e) (leaves_all more) h))

-- two parts that are the same
pub two_same : {X : Type 0} {a b x y : List X} → a ≡ b → x ≡ y → a ++ x ≡ b ++ y
two_same {X} {a} {b} {x} {y} p q = ap (λ l. l ++ x) p ∙ ap (λ l. b ++ l) q

mutual
  pub wrongs_same : (other : List (Place × Sig)) (c : Context) (e : Exp Leaf) → AllAgree c.sigs other (leaves e) → wrongs c e ≡ wrongs (with_sigs other c) e
  wrongs_same other c (Number at n) h = refl
  wrongs_same other c (Truth at b) h = refl
  wrongs_same other c (Path at p) h = path_wrongs_same other c p.0 p.1 h.0
  wrongs_same other c (Call at p args) h =
      two_same (call_wrongs_same other c p.0 p.1 (count args) h.0)
      (ap (λ o. args_wrongs c (wants o) args) (called_same other c p.1 (count args) h.0) ∙ args_wrongs_same other c (wants (called (with_sigs other c) p.1 (count args))) args h.1)
  wrongs_same other c (Group at e) h = wrongs_same other c e h
  wrongs_same other c (Unary at op e) h = two_same (wrongs_same other c e h) (ap (need (at_of e) (operand op)) (type_same other c e h))
  wrongs_same other c (Arith at first more) h =
      let one = all_front c.sigs other (leaves first) (leaves_by more) h in
      two_same (two_same (wrongs_same other c first one) (ap (need (at_of first) t.Int) (type_same other c first one))) (wrongs_by_same other c more (all_back c.sigs other (leaves first) (leaves_by more) h))
  wrongs_same other c (Compare at op a b) h =
      let one = all_front c.sigs other (leaves a) (leaves b) h in
      let two = all_back c.sigs other (leaves a) (leaves b) h in
      two_same (two_same (wrongs_same other c a one) (wrongs_same other c b two))
      (two_same (ap (need_value (at_of a)) (type_same other c a one)) (ap (λ o. need_same (at_of b) o (type_of c b)) (type_same other c a one) ∙ ap (need_same (at_of b) (type_of (with_sigs other c) a)) (type_same other c b two)))
  wrongs_same other c (And at parts) h = wrongs_of_same other c parts h
  wrongs_same other c (Or at parts) h = wrongs_of_same other c parts h

  args_wrongs_same : (other : List (Place × Sig)) (c : Context) (ps : List Typ) (es : Exps Leaf) → AllAgree c.sigs other (leaves_all es) → args_wrongs c ps es ≡ args_wrongs (with_sigs other c) ps es
  args_wrongs_same other c ps Exps.Empty h = refl
  args_wrongs_same other c ps (Exps.Of e more) h =
      let one = all_front c.sigs other (leaves e) (leaves_all more) h in
      two_same (two_same (wrongs_same other c e one) (ap (need_first (at_of e) ps) (type_same other c e one))) (args_wrongs_same other c (drop 1 ps) more (all_back c.sigs other (leaves e) (leaves_all more) h))

  wrongs_by_same : (other : List (Place × Sig)) (c : Context) (os : Operands Leaf) → AllAgree c.sigs other (leaves_by os) → wrongs_by c os ≡ wrongs_by (with_sigs other c) os
  wrongs_by_same other c Done h = refl
  wrongs_by_same other c (By op e more) h =
      let one = all_front c.sigs other (leaves e) (leaves_by more) h in
      two_same (two_same (wrongs_same other c e one) (ap (need (at_of e) t.Int) (type_same other c e one))) (wrongs_by_same other c more (all_back c.sigs other (leaves e) (leaves_by more) h))

  wrongs_of_same : (other : List (Place × Sig)) (c : Context) (es : Exps Leaf) → AllAgree c.sigs other (leaves_all es) → wrongs_of_truths c es ≡ wrongs_of_truths (with_sigs other c) es
  wrongs_of_same other c Exps.Empty h = refl
  wrongs_of_same other c (Exps.Of e more) h =
      let one = all_front c.sigs other (leaves e) (leaves_all more) h in
      two_same (two_same (wrongs_same other c e one) (ap (need (at_of e) t.Bool) (type_same other c e one))) (wrongs_of_same other c more (all_back c.sigs other (leaves e) (leaves_all more) h))

-- ---- Statements.

-- the locals after statements are the same, and the signatures stay
mutual
  pub after_same : (other : List (Place × Sig)) (s : Sta Leaf) (c : Context) → AllAgree c.sigs other (sta_leaves s) → after s (with_sigs other c) ≡ with_sigs other (after s c)
  after_same other (Let mutable at name typ value) c h = ap (λ o. declare name (record { typ = let_typ typ o; mutable = mutable }) (with_sigs other c)) (sym (type_same other c value h))
  after_same other (Assign at name value) c h = refl
  after_same other (Return at value) c h = refl
  after_same other (Eval value) c h = refl
  after_same other (While cond body) c h = ap (outside c) (after_all_same other body c (all_back c.sigs other (leaves cond) (stas_leaves body) h))
  after_same other (If arms) c h = after_arms_same other arms c h
  after_same other (Print value) c h = refl

  pub after_all_same : (other : List (Place × Sig)) (ss : Stas Leaf) (c : Context) → AllAgree c.sigs other (stas_leaves ss) → after_all ss (with_sigs other c) ≡ with_sigs other (after_all ss c)
  after_all_same other Stas.Empty c h = refl
  after_all_same other (Stas.Of s more) c h =
      ap (after_all more) (after_same other s c (all_front c.sigs other (sta_leaves s) (stas_leaves more) h))
      ∙ after_all_same other more (after s c) (subst (λ sigs. AllAgree sigs other (stas_leaves more)) (sym (sigs_stay s c)) (all_back c.sigs other (sta_leaves s) (stas_leaves more) h))

  pub after_arms_same : (other : List (Place × Sig)) (arms : Arms Leaf) (c : Context) → AllAgree c.sigs other (arms_leaves arms) → after_arms arms (with_sigs other c) ≡ with_sigs other (after_arms arms c)
  after_arms_same other Bare c h = refl
  after_arms_same other (Else body) c h = ap (outside c) (after_all_same other body c h)
  after_arms_same other (Arm cond body more) c h =
      let rest = all_back c.sigs other (leaves cond) (stas_leaves body ++ arms_leaves more) h in
      ap (λ inner. after_arms more (outside c inner)) (after_all_same other body c (all_front c.sigs other (stas_leaves body) (arms_leaves more) rest))
      ∙ after_arms_same other more (outside c (after_all body c)) (subst (λ sigs. AllAgree sigs other (arms_leaves more)) (sym (all_sigs_stay body c)) (all_back c.sigs other (stas_leaves body) (arms_leaves more) rest))

  pub sigs_stay : (s : Sta Leaf) (c : Context) → (after s c).sigs ≡ c.sigs
  sigs_stay (Let mutable at name typ value) c = refl
  sigs_stay (Assign at name value) c = refl
  sigs_stay (Return at value) c = refl
  sigs_stay (Eval value) c = refl
  sigs_stay (While cond body) c = all_sigs_stay body c
  sigs_stay (If arms) c = arms_sigs_stay arms c
  sigs_stay (Print value) c = refl

  pub all_sigs_stay : (ss : Stas Leaf) (c : Context) → (after_all ss c).sigs ≡ c.sigs
  all_sigs_stay Stas.Empty c = refl
  all_sigs_stay (Stas.Of s more) c = all_sigs_stay more (after s c) ∙ sigs_stay s c

  arms_sigs_stay : (arms : Arms Leaf) (c : Context) → (after_arms arms c).sigs ≡ c.sigs
  arms_sigs_stay Bare c = refl
  arms_sigs_stay (Else body) c = all_sigs_stay body c
  arms_sigs_stay (Arm cond body more) c = arms_sigs_stay more (outside c (after_all body c)) ∙ all_sigs_stay body c

cond_same : (other : List (Place × Sig)) (c : Context) (e : Exp Leaf) → AllAgree c.sigs other (leaves e) → cond_wrongs c e ≡ cond_wrongs (with_sigs other c) e
cond_same other c e h = two_same (wrongs_same other c e h) (ap (need (at_of e) t.Bool) (type_same other c e h))

return_same : (other : List (Place × Sig)) (g : Around) (c : Context) (at : At) (o : Option (Exp Leaf)) → AllAgree c.sigs other (leaves_in o) → return_wrongs g c at o ≡ return_wrongs g (with_sigs other c) at o
return_same other g c at None h = refl
return_same other g c at (Some e) h = two_same (wrongs_same other c e h) (ap (need (at_of e) g.gives) (type_same other c e h))

mutual
  pub sta_same : (other : List (Place × Sig)) (g : Around) (c : Context) (s : Sta Leaf) → AllAgree c.sigs other (sta_leaves s) → sta_wrongs g c s ≡ sta_wrongs g (with_sigs other c) s
  sta_same other g c (Let mutable at name typ value) h = two_same (two_same (wrongs_same other c value h) (ap (let_wrongs (at_of value) typ) (type_same other c value h))) refl
  sta_same other g c (Assign at name value) h = two_same (wrongs_same other c value h) (ap (assign_wrongs at name (at_of value) _) (type_same other c value h))
  sta_same other g c (Return at value) h = return_same other g c at value h
  sta_same other g c (Eval value) h = wrongs_same other c value h
  sta_same other g c (While cond body) h = two_same (cond_same other c cond (all_front c.sigs other (leaves cond) (stas_leaves body) h)) (stas_same other g c body (all_back c.sigs other (leaves cond) (stas_leaves body) h))
  sta_same other g c (If arms) h = arms_same other g c arms h
  sta_same other g c (Print value) h = two_same (wrongs_same other c value h) (ap (need_value (at_of value)) (type_same other c value h))

  pub stas_same : (other : List (Place × Sig)) (g : Around) (c : Context) (ss : Stas Leaf) → AllAgree c.sigs other (stas_leaves ss) → stas_wrongs g c ss ≡ stas_wrongs g (with_sigs other c) ss
  stas_same other g c Stas.Empty h = refl
  stas_same other g c (Stas.Of s more) h =
      let one = all_front c.sigs other (sta_leaves s) (stas_leaves more) h in
      let two = subst (λ sigs. AllAgree sigs other (stas_leaves more)) (sym (sigs_stay s c)) (all_back c.sigs other (sta_leaves s) (stas_leaves more) h) in
      two_same (sta_same other g c s one) (stas_same other g (after s c) more two ∙ ap (λ after. stas_wrongs g after more) (sym (after_same other s c one)))

  arms_same : (other : List (Place × Sig)) (g : Around) (c : Context) (arms : Arms Leaf) → AllAgree c.sigs other (arms_leaves arms) → arms_wrongs g c arms ≡ arms_wrongs g (with_sigs other c) arms
  arms_same other g c Bare h = refl
  arms_same other g c (Else body) h = stas_same other g c body h
  arms_same other g c (Arm cond body more) h =
      let rest = all_back c.sigs other (leaves cond) (stas_leaves body ++ arms_leaves more) h in
      let inner = all_front c.sigs other (stas_leaves body) (arms_leaves more) rest in
      let later = subst (λ sigs. AllAgree sigs other (arms_leaves more)) (sym (all_sigs_stay body c)) (all_back c.sigs other (stas_leaves body) (arms_leaves more) rest) in
      two_same (two_same (cond_same other c cond (all_front c.sigs other (leaves cond) (stas_leaves body ++ arms_leaves more) h)) (stas_same other g c body inner))
      (arms_same other g (outside c (after_all body c)) more later ∙ ap (λ a. arms_wrongs g (outside c a) more) (sym (after_all_same other body c inner)))
