-- Answers change no count.
use Rattle.std.proofs.Common.{◌≡◌, ◌+◌, List, Option, Some, None, length, drop, refl}
use Rattle.rs_tree.specs.Plain.{Exp, Exps, Operands, Number, Truth, Path, Call, Group, Unary, Arith, Compare, And, Or, Done, By}
use Rattle.rs_tree.specs.Plain.{Sta, Stas, Arms, Let, Assign, Return, Eval, While, If, Print, Bare, Else, Arm}
use Rattle.rs_tree.specs.Leaves.{leaves, sta_leaves, stas_leaves}
use Rattle.rs_tree.specs.Leaves.{filled, filled_all, filled_by, filled_in, sta_filled, stas_filled, arms_filled}
use Rattle.rs_lower.specs.Counts.{labels, labels_all, labels_by, labels_in, places, places_all, places_arms, lets, lets_all, lets_arms}

mutual
  pub labels_filled : {A B : Type 0} (d : B) (bs : List B) (e : Exp A) → labels (filled d bs e) ≡ labels e
  labels_filled d bs (Number at n) = refl
  labels_filled d bs (Truth at b) = refl
  labels_filled d bs (Path at p) = refl
  labels_filled d bs (Call at p args) = labels_all_filled d (drop 1 bs) args
  labels_filled d bs (Group at e) = labels_filled d bs e
  labels_filled d bs (Unary at op e) = labels_filled d bs e
  labels_filled d bs (Arith at a more) = (λ j. labels_filled d bs a j + labels_by_filled d (drop (length (leaves a)) bs) more j)
  labels_filled d bs (Compare at op a b) = (λ j. labels_filled d bs a j + labels_filled d (drop (length (leaves a)) bs) b j)
  labels_filled d bs (And at parts) = (λ j. 2 + labels_all_filled d bs parts j)
  labels_filled d bs (Or at parts) = (λ j. 2 + labels_all_filled d bs parts j)

  pub labels_all_filled : {A B : Type 0} (d : B) (bs : List B) (es : Exps A) → labels_all (filled_all d bs es) ≡ labels_all es
  labels_all_filled d bs Exps.Empty = refl
  labels_all_filled d bs (Exps.Of e more) = (λ j. labels_filled d bs e j + labels_all_filled d (drop (length (leaves e)) bs) more j)

  pub labels_by_filled : {A B : Type 0} (d : B) (bs : List B) (os : Operands A) → labels_by (filled_by d bs os) ≡ labels_by os
  labels_by_filled d bs Done = refl
  labels_by_filled d bs (By op e more) = (λ j. labels_filled d bs e j + labels_by_filled d (drop (length (leaves e)) bs) more j)

pub labels_in_filled : {A B : Type 0} (d : B) (bs : List B) (value : Option (Exp A)) → labels_in (filled_in d bs value) ≡ labels_in value
labels_in_filled d bs None = refl
labels_in_filled d bs (Some e) = labels_filled d bs e

mutual
  pub places_filled : {A B : Type 0} (d : B) (bs : List B) (s : Sta A) → places (sta_filled d bs s) ≡ places s
  places_filled d bs (Let mutable at name typ value) = labels_filled d bs value
  places_filled d bs (Assign at name value) = labels_filled d bs value
  places_filled d bs (Return at value) = labels_in_filled d bs value
  places_filled d bs (Eval value) = labels_filled d bs value
  places_filled d bs (While cond body) = (λ j. 2 + labels_filled d bs cond j + places_all_filled d (drop (length (leaves cond)) bs) body j)
  places_filled d bs (If arms) = (λ j. 1 + places_arms_filled d bs arms j)
  places_filled d bs (Print value) = labels_filled d bs value

  pub places_all_filled : {A B : Type 0} (d : B) (bs : List B) (ss : Stas A) → places_all (stas_filled d bs ss) ≡ places_all ss
  places_all_filled d bs Stas.Empty = refl
  places_all_filled d bs (Stas.Of s more) = (λ j. places_filled d bs s j + places_all_filled d (drop (length (sta_leaves s)) bs) more j)

  pub places_arms_filled : {A B : Type 0} (d : B) (bs : List B) (arms : Arms A) → places_arms (arms_filled d bs arms) ≡ places_arms arms
  places_arms_filled d bs Bare = refl
  places_arms_filled d bs (Else body) = places_all_filled d bs body
  places_arms_filled d bs (Arm cond body more) =
      (λ j. 1 + labels_filled d bs cond j + places_all_filled d (drop (length (leaves cond)) bs) body j + places_arms_filled d (drop (length (stas_leaves body)) (drop (length (leaves cond)) bs)) more j)

mutual
  pub lets_filled : {A B : Type 0} (d : B) (bs : List B) (s : Sta A) → lets (sta_filled d bs s) ≡ lets s
  lets_filled d bs (Let mutable at name typ value) = refl
  lets_filled d bs (Assign at name value) = refl
  lets_filled d bs (Return at value) = refl
  lets_filled d bs (Eval value) = refl
  lets_filled d bs (While cond body) = lets_all_filled d (drop (length (leaves cond)) bs) body
  lets_filled d bs (If arms) = lets_arms_filled d bs arms
  lets_filled d bs (Print value) = refl

  pub lets_all_filled : {A B : Type 0} (d : B) (bs : List B) (ss : Stas A) → lets_all (stas_filled d bs ss) ≡ lets_all ss
  lets_all_filled d bs Stas.Empty = refl
  lets_all_filled d bs (Stas.Of s more) = (λ j. lets_filled d bs s j + lets_all_filled d (drop (length (sta_leaves s)) bs) more j)

  pub lets_arms_filled : {A B : Type 0} (d : B) (bs : List B) (arms : Arms A) → lets_arms (arms_filled d bs arms) ≡ lets_arms arms
  lets_arms_filled d bs Bare = refl
  lets_arms_filled d bs (Else body) = lets_all_filled d bs body
  lets_arms_filled d bs (Arm cond body more) = (λ j. lets_all_filled d (drop (length (leaves cond)) bs) body j + lets_arms_filled d (drop (length (stas_leaves body)) (drop (length (leaves cond)) bs)) more j)
