-- In an item without errors each call leads to a function.
use Rattle.std.proofs.Common.{◌≡◌, ℕ, ◌+◌, ◌==◌, ◌||◌, suc, Bool, true, false, not, cond, List, [], ◌∷◌, ◌++◌, length, drop, Option, Some, None, refl, sym, ap, ◌∙◌, subst, arith}
use Rattle.std.specs.List.{Contains, list_any}
use Rattle.std.proofs.lemmas.Bool.{or_parts}
use Rattle.std.proofs.lemmas.List.{length-append}
use Rattle.std.proofs.lemmas.List.Elements.{Contains-append_left, Contains-append_right}
use Rattle.std.proofs.lemmas.List.Folds.{list_any-append}
use Rattle.rs_tree.specs.declared.answers.Const.{Const}
use Rattle.rs_tree.specs.declared.answers.Diag.{Diag}
use Rattle.rs_tree.specs.declared.answers.Found.{Found}
use Rattle.rs_tree.specs.declared.answers.Found.TheVariants as f
use Rattle.rs_tree.specs.declared.index.IndexItem.{IndexItem}
use Rattle.rs_tree.specs.declared.index.Sig.{Sig}
use Rattle.rs_tree.specs.declared.place.At.{At}
use Rattle.rs_tree.specs.declared.place.Place.{Place}
use Rattle.rs_tree.specs.declared.tree.Param.{Param}
use Rattle.rs_tree.specs.declared.tree.Path as path
use Rattle.rs_tree.specs.declared.tree.Typ.{Typ}
use Rattle.rs_tree.specs.Plain.{Exp, Exps, Operands, Number, Truth, Path, Call, Group, Unary, Arith, Compare, And, Or, Done, By}
use Rattle.rs_tree.specs.Plain.{Sta, Stas, Arms, Let, Assign, Return, Eval, While, If, Print, Bare, Else, Arm, Func}
use Rattle.rs_tree.specs.Leaves.{answer, filled, filled_all, filled_by, filled_in, sta_filled, stas_filled, arms_filled, leaves, leaves_all, leaves_by, leaves_in, sta_leaves, stas_leaves, arms_leaves}
use Rattle.rs_lookup.specs.Places.{place_name}
use Rattle.rs_lines.specs.Lines.{is_warning}
use Rattle.rs_reach.specs.Calls.{called, definition_marks, marks, marks_all, marks_by, marks_in, sta_marks, stas_marks, arms_marks, with_item}
use Rattle.rs_types.specs.Types.{Context, Leaf, call_wrongs, callee, count, function_of, sig_at, wrong, wrong_callee, wrongs, args_wrongs, wrongs_by, wrongs_of_truths}
use Rattle.rs_diag.specs.Faults.Wrong.{ConstCall}
use Rattle.rs_check.specs.Bodies.{Around, after, after_all, after_arms, arms_wrongs, outside, return_wrongs, sta_wrongs, stas_wrongs, with_params}
use Rattle.rs_check.specs.Items.{begin, body_wrongs, tail_wrongs}
use Rattle.link_laws.proofs.Lists.{later}

-- ---- What holds of each call of a tree.

abbrev mutual
  pub ExpCalls : (Leaf → Type 0) → Exp Leaf → Type 0
  ExpCalls P (Number at n) = Unit {0}
  ExpCalls P (Truth at b) = Unit {0}
  ExpCalls P (Path at p) = Unit {0}
  ExpCalls P (Call at p args) = P p × ExpsCalls P args
  ExpCalls P (Group at e) = ExpCalls P e
  ExpCalls P (Unary at op e) = ExpCalls P e
  ExpCalls P (Arith at e more) = ExpCalls P e × OperandsCalls P more
  ExpCalls P (Compare at op a b) = ExpCalls P a × ExpCalls P b
  ExpCalls P (And at parts) = ExpsCalls P parts
  ExpCalls P (Or at parts) = ExpsCalls P parts

  pub ExpsCalls : (Leaf → Type 0) → Exps Leaf → Type 0
  ExpsCalls P Exps.Empty = Unit {0}
  ExpsCalls P (Exps.Of e more) = ExpCalls P e × ExpsCalls P more

  pub OperandsCalls : (Leaf → Type 0) → Operands Leaf → Type 0
  OperandsCalls P Done = Unit {0}
  OperandsCalls P (By op e more) = ExpCalls P e × OperandsCalls P more

abbrev pub TailCalls : (Leaf → Type 0) → Option (Exp Leaf) → Type 0
TailCalls P None = Unit {0}
TailCalls P (Some e) = ExpCalls P e

abbrev mutual
  pub StaCalls : (Leaf → Type 0) → Sta Leaf → Type 0
  StaCalls P (Let mutable at name typ value) = ExpCalls P value
  StaCalls P (Assign at name value) = ExpCalls P value
  StaCalls P (Return at value) = TailCalls P value
  StaCalls P (Eval value) = ExpCalls P value
  StaCalls P (While cond body) = ExpCalls P cond × StasCalls P body
  StaCalls P (If arms) = ArmsCalls P arms
  StaCalls P (Print value) = ExpCalls P value

  pub StasCalls : (Leaf → Type 0) → Stas Leaf → Type 0
  StasCalls P Stas.Empty = Unit {0}
  StasCalls P (Stas.Of s more) = StaCalls P s × StasCalls P more

  pub ArmsCalls : (Leaf → Type 0) → Arms Leaf → Type 0
  ArmsCalls P Bare = Unit {0}
  ArmsCalls P (Else body) = StasCalls P body
  ArmsCalls P (Arm cond body more) = ExpCalls P cond × (StasCalls P body × ArmsCalls P more)

-- ---- Diagnostics without an error.

abbrev pub is_fault : Diag → Bool
is_fault d = not (is_warning d.code)

pub record Warns (ds : List Diag) : Type 0 where
  pub none : list_any is_fault ds ≡ false

pub left : (xs ys : List Diag) → Warns (xs ++ ys) → Warns xs
left xs ys w = record { none = (or_parts (list_any is_fault xs) (list_any is_fault ys) (sym (list_any-append is_fault xs ys) ∙ w.none)).0 }

pub right : (xs ys : List Diag) → Warns (xs ++ ys) → Warns ys
right xs ys w = record { none = (or_parts (list_any is_fault xs) (list_any is_fault ys) (sym (list_any-append is_fault xs ys) ∙ w.none)).1 }

-- ---- What called paths lead to.

both : {X Y : Type 0} (xs ys : List X) (us vs : List Y) → length xs ≡ length us → length ys ≡ length vs → length (xs ++ ys) ≡ length (us ++ vs)
both xs ys us vs e h = length-append xs ys ∙ (λ j. e j + h j) ∙ sym (length-append us vs)

-- there are as many marks as paths
mutual
  marked : {A : Type 0} (e : Exp A) → length (marks e) ≡ length (leaves e)
  marked (Number at n) = refl
  marked (Truth at b) = refl
  marked (Path at p) = refl
  marked (Call at p args) = ap suc (marked_all args)
  marked (Group at e) = marked e
  marked (Unary at op e) = marked e
  marked (Arith at e more) = both (marks e) (marks_by more) (leaves e) (leaves_by more) (marked e) (marked_by more)
  marked (Compare at op a b) = both (marks a) (marks b) (leaves a) (leaves b) (marked a) (marked b)
  marked (And at parts) = marked_all parts
  marked (Or at parts) = marked_all parts

  marked_all : {A : Type 0} (es : Exps A) → length (marks_all es) ≡ length (leaves_all es)
  marked_all Exps.Empty = refl
  marked_all (Exps.Of e more) = both (marks e) (marks_all more) (leaves e) (leaves_all more) (marked e) (marked_all more)

  marked_by : {A : Type 0} (os : Operands A) → length (marks_by os) ≡ length (leaves_by os)
  marked_by Done = refl
  marked_by (By op e more) = both (marks e) (marks_by more) (leaves e) (leaves_by more) (marked e) (marked_by more)

marked_in : {A : Type 0} (e : Option (Exp A)) → length (marks_in e) ≡ length (leaves_in e)
marked_in None = refl
marked_in (Some e) = marked e

mutual
  sta_marked : {A : Type 0} (s : Sta A) → length (sta_marks s) ≡ length (sta_leaves s)
  sta_marked (Let mutable at name typ value) = marked value
  sta_marked (Assign at name value) = marked value
  sta_marked (Return at value) = marked_in value
  sta_marked (Eval value) = marked value
  sta_marked (While cond body) = both (marks cond) (stas_marks body) (leaves cond) (stas_leaves body) (marked cond) (stas_marked body)
  sta_marked (If arms) = arms_marked arms
  sta_marked (Print value) = marked value

  stas_marked : {A : Type 0} (ss : Stas A) → length (stas_marks ss) ≡ length (stas_leaves ss)
  stas_marked Stas.Empty = refl
  stas_marked (Stas.Of s more) = both (sta_marks s) (stas_marks more) (sta_leaves s) (stas_leaves more) (sta_marked s) (stas_marked more)

  arms_marked : {A : Type 0} (arms : Arms A) → length (arms_marks arms) ≡ length (arms_leaves arms)
  arms_marked Bare = refl
  arms_marked (Else body) = stas_marked body
  arms_marked (Arm cond body more) =
      both (marks cond) (stas_marks body ++ arms_marks more) (leaves cond) (stas_leaves body ++ arms_leaves more) (marked cond)
      (both (stas_marks body) (arms_marks more) (stas_leaves body) (arms_leaves more) (stas_marked body) (arms_marked more))

item_first : (found : Found) (q : Place) (more : List Place) → found ≡ f.Item q → Contains (with_item found more) q
item_first found q more is = subst (λ (x : Found). Contains (with_item x more) q) (sym is) (0, omega arith, refl)

item_later : (found : Found) (q : Place) (more : List Place) → Contains more q → Contains (with_item found more) q
item_later f.Local q more has = has
item_later (f.Item p) q more has = later p more q has
item_later f.Private q more has = has
item_later f.Absent q more has = has

called_none : (ms : List Bool) → called ms [] ≡ []
called_none [] = refl
called_none (m ∷ ms) = refl

with_append : (found : Found) (ps qs : List Place) → with_item found (ps ++ qs) ≡ with_item found ps ++ qs
with_append f.Local ps qs = refl
with_append (f.Item p) ps qs = refl
with_append f.Private ps qs = refl
with_append f.Absent ps qs = refl

called_append : (ms ns : List Bool) (fs : List Found) → called (ms ++ ns) fs ≡ called ms fs ++ called ns (drop (length ms) fs)
called_append [] ns fs = refl
called_append (m ∷ ms) ns [] = sym (called_none ns)
called_append (true ∷ ms) ns (x ∷ fs) = ap (with_item x) (called_append ms ns fs) ∙ with_append x (called ms fs) (called ns (drop (length ms) fs))
called_append (false ∷ ms) ns (x ∷ fs) = called_append ms ns fs

called_first : (ms : List Bool) (fs : List Found) (q : Place) → answer f.Absent fs ≡ f.Item q → Contains (called (true ∷ ms) fs) q
called_first ms [] q is = absurd cc
called_first ms (x ∷ fs) q is = item_first x q (called ms fs) is

called_later : (ms : List Bool) (fs : List Found) (q : Place) → Contains (called ms (drop 1 fs)) q → Contains (called (true ∷ ms) fs) q
called_later ms [] q has = subst (λ ps. Contains ps q) (called_none ms) has
called_later ms (x ∷ fs) q has = item_later x q (called ms fs) has

called_left : (ms ns : List Bool) (fs : List Found) (q : Place) → Contains (called ms fs) q → Contains (called (ms ++ ns) fs) q
called_left ms ns fs q has = subst (λ ps. Contains ps q) (sym (called_append ms ns fs)) (Contains-append_left (called ms fs) (called ns (drop (length ms) fs)) q has)

called_right : (ms ns : List Bool) (fs : List Found) (k : ℕ) (q : Place) → length ms ≡ k → Contains (called ns (drop k fs)) q → Contains (called (ms ++ ns) fs) q
called_right ms ns fs k q is has =
    subst (λ ps. Contains ps q) (sym (called_append ms ns fs)) (Contains-append_right (called ms fs) (called ns (drop (length ms) fs)) q (subst (λ n. Contains (called ns (drop n fs)) q) (sym is) has))

-- ---- A statement keeps the signatures that are known.

mutual
  after_sigs : (s : Sta Leaf) (c : Context) → (after s c).sigs ≡ c.sigs
  after_sigs (Let mutable at name typ value) c = refl
  after_sigs (Assign at name value) c = refl
  after_sigs (Return at value) c = refl
  after_sigs (Eval value) c = refl
  after_sigs (While cond body) c = all_sigs body c
  after_sigs (If arms) c = arms_sigs arms c
  after_sigs (Print value) c = refl

  all_sigs : (ss : Stas Leaf) (c : Context) → (after_all ss c).sigs ≡ c.sigs
  all_sigs Stas.Empty c = refl
  all_sigs (Stas.Of s more) c = all_sigs more (after s c) ∙ after_sigs s c

  arms_sigs : (arms : Arms Leaf) (c : Context) → (after_arms arms c).sigs ≡ c.sigs
  arms_sigs Bare c = refl
  arms_sigs (Else body) c = all_sigs body c
  arms_sigs (Arm cond body more) c = arms_sigs more (outside c (after_all body c)) ∙ all_sigs body c

params_sigs : (ps : List Param) (c : Context) → (with_params ps c).sigs ≡ c.sigs
params_sigs [] c = refl
params_sigs (p ∷ ps) c = params_sigs ps _

-- ---- Calls.

-- a path leads to a function, which is told of
pub record Leads (sigs : List (Place × Sig)) (T : Place → Type 0) (l : Leaf) : Type 0 where
  pub place : Place
  pub is : l.1 ≡ f.Item place
  pub sig : Sig
  pub known : sig_at (place_name place) sigs ≡ Some sig
  pub function : (sig.kind == 0) ≡ false
  pub told : T place

module _ (sigs : List (Place × Sig)) (T : Place → Type 0) where
  faulty : {A : Type 0} (d : Diag) → is_fault d ≡ true → Warns (d ∷ []) → A
  faulty d is w = absurd (let bad : true ≡ false = sym (ap (λ b. b || false) is) ∙ w.none in cc)

  callee_leads : (c : Context) → c.sigs ≡ sigs → (p : path.Path) (found : Found) (n : ℕ) → Warns (wrong_callee p found n (callee c found)) → ((q : Place) → found ≡ f.Item q → T q) → Leads sigs T (p, found)
  callee_leads c same p f.Local n w told = faulty _ refl w
  callee_leads c same p f.Private n w told = faulty _ refl w
  callee_leads c same p f.Absent n w told = faulty _ refl w
  callee_leads c same p (f.Item at) n w told = known (sig_at (place_name at) c.sigs) refl w
    where
      kinds : (s : Sig) (b : Bool) → (s.kind == 0) ≡ b → sig_at (place_name at) c.sigs ≡ Some s → Warns (wrong_callee p (f.Item at) n (cond b None (Some s))) → Leads sigs T (p, f.Item at)
      kinds s true k e w = faulty _ refl w
      kinds s false k e w = record { place = at; is = refl; sig = s; known = ap (λ (xs : List (Place × Sig)). sig_at (place_name at) xs) (sym same) ∙ e; function = k; told = told at refl }

      known : (o : Option Sig) → sig_at (place_name at) c.sigs ≡ o → Warns (wrong_callee p (f.Item at) n (function_of o)) → Leads sigs T (p, f.Item at)
      known None e w = faulty _ refl w
      known (Some s) e w = kinds s (s.kind == 0) refl e w

  call_leads : (c : Context) → c.sigs ≡ sigs → (p : path.Path) (found : Found) (n : ℕ) → Warns (call_wrongs c p found n) → ((q : Place) → found ≡ f.Item q → T q) → Leads sigs T (p, found)
  call_leads c same p found n w told = by c.constant w
    where
      by : (b : Bool) → Warns (cond b (wrong p.at ConstCall) (wrong_callee p found n (callee c found))) → Leads sigs T (p, found)
      by true w = faulty _ refl w
      by false w = callee_leads c same p found n w told

module _ (sigs : List (Place × Sig)) (T : Place → Type 0) (P : Leaf → Type 0) (gives : (l : Leaf) → Leads sigs T l → P l) where
  -- each call of an expression in which nothing is wrong leads to a function
  mutual
    lead : (c : Context) → c.sigs ≡ sigs → (fs : List Found) (e : Exp path.Path) → Warns (wrongs c (filled f.Absent fs e)) → ((q : Place) → Contains (called (marks e) fs) q → T q) → ExpCalls P (filled f.Absent fs e)
    lead c same fs (Number at n) w told = tt
    lead c same fs (Truth at b) w told = tt
    lead c same fs (Path at p) w told = tt
    lead c same fs (Call at p args) w told = (
      gives (p, answer f.Absent fs) (call_leads sigs T c same p (answer f.Absent fs) (count (filled_all f.Absent (drop 1 fs) args)) (left _ _ w) (λ q is. told q (called_first (marks_all args) fs q is))),
      lead_args c same _ (drop 1 fs) args (right _ _ w) (λ q has. told q (called_later (marks_all args) fs q has)),
    )
    lead c same fs (Group at e) w told = lead c same fs e w told
    lead c same fs (Unary at op e) w told = lead c same fs e (left _ _ w) told
    lead c same fs (Arith at a more) w told = (
      lead c same fs a (left _ _ (left _ _ w)) (λ q has. told q (called_left (marks a) (marks_by more) fs q has)),
      lead_by c same (drop (length (leaves a)) fs) more (right _ _ w) (λ q has. told q (called_right (marks a) (marks_by more) fs (length (leaves a)) q (marked a) has)),
    )
    lead c same fs (Compare at op a b) w told = (
      lead c same fs a (left _ _ (left _ _ w)) (λ q has. told q (called_left (marks a) (marks b) fs q has)),
      lead c same (drop (length (leaves a)) fs) b (right _ _ (left _ _ w)) (λ q has. told q (called_right (marks a) (marks b) fs (length (leaves a)) q (marked a) has)),
    )
    lead c same fs (And at parts) w told = lead_truths c same fs parts w told
    lead c same fs (Or at parts) w told = lead_truths c same fs parts w told

    lead_args : (c : Context) → c.sigs ≡ sigs → (ps : List Typ) (fs : List Found) (es : Exps path.Path) → Warns (args_wrongs c ps (filled_all f.Absent fs es)) → ((q : Place) → Contains (called (marks_all es) fs) q → T q) → ExpsCalls P (filled_all f.Absent fs es)
    lead_args c same ps fs Exps.Empty w told = tt
    lead_args c same ps fs (Exps.Of e more) w told = (
      lead c same fs e (left _ _ (left _ _ w)) (λ q has. told q (called_left (marks e) (marks_all more) fs q has)),
      lead_args c same (drop 1 ps) (drop (length (leaves e)) fs) more (right _ _ w) (λ q has. told q (called_right (marks e) (marks_all more) fs (length (leaves e)) q (marked e) has)),
    )

    lead_by : (c : Context) → c.sigs ≡ sigs → (fs : List Found) (os : Operands path.Path) → Warns (wrongs_by c (filled_by f.Absent fs os)) → ((q : Place) → Contains (called (marks_by os) fs) q → T q) → OperandsCalls P (filled_by f.Absent fs os)
    lead_by c same fs Done w told = tt
    lead_by c same fs (By op e more) w told = (
      lead c same fs e (left _ _ (left _ _ w)) (λ q has. told q (called_left (marks e) (marks_by more) fs q has)),
      lead_by c same (drop (length (leaves e)) fs) more (right _ _ w) (λ q has. told q (called_right (marks e) (marks_by more) fs (length (leaves e)) q (marked e) has)),
    )

    lead_truths : (c : Context) → c.sigs ≡ sigs → (fs : List Found) (es : Exps path.Path) → Warns (wrongs_of_truths c (filled_all f.Absent fs es)) → ((q : Place) → Contains (called (marks_all es) fs) q → T q) → ExpsCalls P (filled_all f.Absent fs es)
    lead_truths c same fs Exps.Empty w told = tt
    lead_truths c same fs (Exps.Of e more) w told = (
      lead c same fs e (left _ _ (left _ _ w)) (λ q has. told q (called_left (marks e) (marks_all more) fs q has)),
      lead_truths c same (drop (length (leaves e)) fs) more (right _ _ w) (λ q has. told q (called_right (marks e) (marks_all more) fs (length (leaves e)) q (marked e) has)),
    )

  lead_return : (g : Around) (c : Context) → c.sigs ≡ sigs → (at : At) (fs : List Found) (value : Option (Exp path.Path)) → Warns (return_wrongs g c at (filled_in f.Absent fs value)) → ((q : Place) → Contains (called (marks_in value) fs) q → T q) → TailCalls P (filled_in f.Absent fs value)
  lead_return g c same at fs None w told = tt
  lead_return g c same at fs (Some e) w told = lead c same fs e (left _ _ w) told

  lead_tail : (g : Around) (c : Context) → c.sigs ≡ sigs → (fs : List Found) (value : Option (Exp path.Path)) → Warns (tail_wrongs g c (filled_in f.Absent fs value)) → ((q : Place) → Contains (called (marks_in value) fs) q → T q) → TailCalls P (filled_in f.Absent fs value)
  lead_tail g c same fs None w told = tt
  lead_tail g c same fs (Some e) w told = lead c same fs e (left _ _ w) told

  -- and of a statement
  mutual
    sta_lead : (g : Around) (c : Context) → c.sigs ≡ sigs → (fs : List Found) (s : Sta path.Path) → Warns (sta_wrongs g c (sta_filled f.Absent fs s)) → ((q : Place) → Contains (called (sta_marks s) fs) q → T q) → StaCalls P (sta_filled f.Absent fs s)
    sta_lead g c same fs (Let mutable at name typ value) w told = lead c same fs value (left _ _ (left _ _ w)) told
    sta_lead g c same fs (Assign at name value) w told = lead c same fs value (left _ _ w) told
    sta_lead g c same fs (Return at value) w told = lead_return g c same at fs value w told
    sta_lead g c same fs (Eval value) w told = lead c same fs value w told
    sta_lead g c same fs (While cond body) w told = (
      lead c same fs cond (left _ _ (left _ _ w)) (λ q has. told q (called_left (marks cond) (stas_marks body) fs q has)),
      stas_lead g c same (drop (length (leaves cond)) fs) body (right _ _ w) (λ q has. told q (called_right (marks cond) (stas_marks body) fs (length (leaves cond)) q (marked cond) has)),
    )
    sta_lead g c same fs (If arms) w told = arms_lead g c same fs arms w told
    sta_lead g c same fs (Print value) w told = lead c same fs value (left _ _ w) told

    stas_lead : (g : Around) (c : Context) → c.sigs ≡ sigs → (fs : List Found) (ss : Stas path.Path) → Warns (stas_wrongs g c (stas_filled f.Absent fs ss)) → ((q : Place) → Contains (called (stas_marks ss) fs) q → T q) → StasCalls P (stas_filled f.Absent fs ss)
    stas_lead g c same fs Stas.Empty w told = tt
    stas_lead g c same fs (Stas.Of s more) w told = (
      sta_lead g c same fs s (left _ _ w) (λ q has. told q (called_left (sta_marks s) (stas_marks more) fs q has)),
      stas_lead g (after (sta_filled f.Absent fs s) c) (after_sigs (sta_filled f.Absent fs s) c ∙ same) (drop (length (sta_leaves s)) fs) more (right _ _ w) (λ q has. told q (called_right (sta_marks s) (stas_marks more) fs (length (sta_leaves s)) q (sta_marked s) has)),
    )

    arms_lead : (g : Around) (c : Context) → c.sigs ≡ sigs → (fs : List Found) (arms : Arms path.Path) → Warns (arms_wrongs g c (arms_filled f.Absent fs arms)) → ((q : Place) → Contains (called (arms_marks arms) fs) q → T q) → ArmsCalls P (arms_filled f.Absent fs arms)
    arms_lead g c same fs Bare w told = tt
    arms_lead g c same fs (Else body) w told = stas_lead g c same fs body w told
    arms_lead g c same fs (Arm cond body more) w told = (
      lead c same fs cond (left _ _ (left _ _ (left _ _ w))) (λ q has. told q (called_left (marks cond) (stas_marks body ++ arms_marks more) fs q has)),
      (
        stas_lead g c same (drop (length (leaves cond)) fs) body (right _ _ (left _ _ w)) (λ q has. told q (called_right (marks cond) (stas_marks body ++ arms_marks more) fs (length (leaves cond)) q (marked cond) (called_left (stas_marks body) (arms_marks more) (drop (length (leaves cond)) fs) q has))),
        arms_lead g (outside c (after_all (stas_filled f.Absent (drop (length (leaves cond)) fs) body) c)) (all_sigs (stas_filled f.Absent (drop (length (leaves cond)) fs) body) c ∙ same) (drop (length (stas_leaves body)) (drop (length (leaves cond)) fs)) more (right _ _ w)
            (λ q has. told q (called_right (marks cond) (stas_marks body ++ arms_marks more) fs (length (leaves cond)) q (marked cond) (called_right (stas_marks body) (arms_marks more) (drop (length (leaves cond)) fs) (length (stas_leaves body)) q (stas_marked body) has))),
      ),
    )

-- each call of a function in which nothing is wrong leads to a function
pub function_leads : (items : List IndexItem) (sigs : List (Place × Sig)) (home : List ℕ) (fs : List Found) (value : Option Const) (at : At) (name : List ℕ) (inlined : Bool) (params : List Param) (gives : Typ) (stmts : Stas path.Path) (tail : Option (Exp path.Path)) (P : Leaf → Type 0)
    → ((l : Leaf) → Leads sigs (Contains (called (definition_marks (Func inlined params gives stmts tail)) fs)) l → P l)
    → Warns (body_wrongs items sigs home fs value at name (Func inlined params gives stmts tail))
    → StasCalls P (stas_filled f.Absent fs stmts) × TailCalls P (filled_in f.Absent (drop (length (stas_leaves stmts)) fs) tail)
function_leads items sigs home fs value at name inlined params gives stmts tail P each w =
    let T : Place → Type 0 = Contains (called (stas_marks stmts ++ marks_in tail) fs) in
    let g : Around = record { items = items; home = home; gives = gives } in
    let c : Context = with_params params (begin false sigs) in
    let same : c.sigs ≡ sigs = params_sigs params (begin false sigs) in
    let body : Stas Leaf = stas_filled f.Absent fs stmts in
    let last : Option (Exp Leaf) = filled_in f.Absent (drop (length (stas_leaves stmts)) fs) tail in
    let inside : Warns (stas_wrongs g c body ++ tail_wrongs g (after_all body c) last) = right _ _ (left _ _ (left _ _ w)) in (
      stas_lead sigs T P each g c same fs stmts (left _ _ inside) (λ q has. called_left (stas_marks stmts) (marks_in tail) fs q has),
      lead_tail sigs T P each g (after_all body c) (all_sigs body c ∙ same) (drop (length (stas_leaves stmts)) fs) tail (right _ _ inside) (λ q has. called_right (stas_marks stmts) (marks_in tail) fs (length (stas_leaves stmts)) q (stas_marked stmts) has),
    )
