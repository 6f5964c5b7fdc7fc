-- The pieces of a file are of their size, and are its bytes.
use Rattle.std.proofs.Common.{◌≡◌, ℕ, zero, suc, ◌<◌, ◌≤◌, List, [], ◌∷◌, ◌++◌, length, map, take, drop, min, refl, ap, sym, ◌∙◌, arith, append_assoc, append-nil, length-take, length-drop}
use Rattle.inc_base.specs.declared.job.Job.{Job}
use Rattle.std.proofs.Common.{inl, inr, Bool, true, false, ◌==◌, ◌&&◌}
use Rattle.std.proofs.lemmas.Bool.{cases_lt}
use Rattle.std.proofs.Common.{get_or, ◌+◌}
use Rattle.std.proofs.lemmas.List.{take-append-drop, take_all, drop_all, take_more}
use Rattle.inc_fs.specs.Paths.{Text}
use Rattle.inc_fs.specs.declared.op.Op.{Op}
use Rattle.inc_fs.specs.declared.op.Op.TheVariants.{Append}
use Rattle.inc_names.specs.declared.session.SessionName.{SessionName}
use Rattle.inc_names.specs.Entries.{working_text}
use Rattle.inc_session.specs.Saving.{pieces, pieces_by, file_ops, saving_ops, publishing, all_ops, are_writes}

-- these bytes, with the pieces after them
abbrev pub joined : Text → List Text → Text
joined before [] = before
joined before (piece ∷ pieces) = joined (before ++ piece) pieces

abbrev pub ArePieces : List Text → Type 0
ArePieces [] = Unit {0}
ArePieces (piece ∷ pieces) = (0 < length piece) × (length piece ≤ 65536) × ArePieces pieces

sized : (n : ℕ) (bytes : Text) → ArePieces (pieces_by n bytes)
sized zero bytes = tt
sized (suc n) [] = tt
sized (suc n) (x ∷ xs) = (omega (arith, length-take 65536 (x ∷ xs)), omega (arith, length-take 65536 (x ∷ xs)), sized n (drop 65536 (x ∷ xs)))

whole : (n : ℕ) (before bytes : Text) → length bytes ≤ n → joined before (pieces_by n bytes) ≡ before ++ bytes
whole zero before [] few = sym (append-nil before)
whole zero before (x ∷ xs) few = absurd (omega arith)
whole (suc n) before [] few = sym (append-nil before)
whole (suc n) before (x ∷ xs) few =
    whole n (before ++ take 65536 (x ∷ xs)) (drop 65536 (x ∷ xs)) (omega (arith, length-drop 65536 (x ∷ xs)))
    ∙ append_assoc before (take 65536 (x ∷ xs)) (drop 65536 (x ∷ xs)) ∙ ap (λ bytes. before ++ bytes) (take-append-drop 65536 (x ∷ xs))

-- however many are allowed, once they are enough
enough : (n m : ℕ) (bytes : Text) → length bytes ≤ n → length bytes ≤ m → pieces_by n bytes ≡ pieces_by m bytes
enough zero zero bytes p q = refl
enough zero (suc m) [] p q = refl
enough zero (suc m) (x ∷ xs) p q = absurd (omega arith)
enough (suc n) zero [] p q = refl
enough (suc n) zero (x ∷ xs) p q = absurd (omega arith)
enough (suc n) (suc m) [] p q = refl
enough (suc n) (suc m) (x ∷ xs) p q =
    ap (λ rest. take 65536 (x ∷ xs) ∷ rest) (enough n m (drop 65536 (x ∷ xs)) (omega (arith, length-drop 65536 (x ∷ xs))) (omega (arith, length-drop 65536 (x ∷ xs))))

-- no byte has no piece
pub pieces_none : pieces [] ≡ []
unfolding pieces
pieces_none = refl

-- at most so many, or all
take_min : (n : ℕ) (bytes : Text) → take (min (length bytes) n) bytes ≡ take n bytes
take_min n bytes = elim (cases_lt (length bytes) n) [
  | inl less ↦ ap (λ k. take k bytes) (omega (arith, less)) ∙ take_all (length bytes) bytes (omega arith) ∙ sym (take_all n bytes (omega (arith, less)))
  | inr more ↦ ap (λ k. take k bytes) (omega (arith, more))
]

drop_min : (n : ℕ) (bytes : Text) → drop (min (length bytes) n) bytes ≡ drop n bytes
drop_min n bytes = elim (cases_lt (length bytes) n) [
  | inl less ↦ ap (λ k. drop k bytes) (omega (arith, less)) ∙ drop_all (length bytes) bytes (omega arith) ∙ sym (drop_all n bytes (omega (arith, less)))
  | inr more ↦ ap (λ k. drop k bytes) (omega (arith, more))
]

-- the first piece, and those of what is left
pub pieces_more : (bytes : Text) → 0 < length bytes → pieces bytes ≡ take (min (length bytes) 65536) bytes ∷ pieces (drop (min (length bytes) 65536) bytes)
unfolding pieces
pieces_more [] some = absurd (omega (arith, some))
pieces_more (x ∷ xs) some =
    let rest = drop 65536 (x ∷ xs) in
    enough (length (x ∷ xs)) (suc (length xs)) (x ∷ xs) (omega arith) (omega arith)
    ∙ ap (λ more. take 65536 (x ∷ xs) ∷ more) (enough (length xs) (length rest) rest (omega (arith, length-drop 65536 (x ∷ xs))) (omega arith))
    ∙ (λ i. sym (take_min 65536 (x ∷ xs)) i ∷ pieces (sym (drop_min 65536 (x ∷ xs)) i))

-- all of them are of their size, and are the bytes
pub pieces_sized : (bytes : Text) → ArePieces (pieces bytes)
unfolding pieces
pieces_sized bytes = sized (length bytes) bytes

pub pieces_whole : (bytes : Text) → joined [] (pieces bytes) ≡ bytes
unfolding pieces
pieces_whole bytes = whole (length bytes) [] bytes (omega arith)

-- one more piece, and none left
pub pieces_step : (f : Text → Op) (ops : List Op) (rest piece later : Text) → 0 < length rest → piece ≡ take (min (length rest) 65536) rest → later ≡ drop (min (length rest) 65536) rest
    → (ops ++ f piece ∷ []) ++ map f (pieces later) ≡ ops ++ map f (pieces rest)
pieces_step f ops rest piece later some is left =
    append_assoc ops (f piece ∷ []) (map f (pieces later)) ∙ ap (λ all. ops ++ map f all) (sym (pieces_more rest some ∙ (λ i. sym is i ∷ pieces (sym left i))))

pub pieces_done : (f : Text → Op) (ops : List Op) (rest : Text) → length rest ≡ 0 → ops ++ map f (pieces rest) ≡ ops
pieces_done f ops [] none = ap (λ all. ops ++ map f all) pieces_none ∙ append-nil ops
pieces_done f ops (x ∷ xs) none = absurd (omega (arith, none))

pub some_left : (n : ℕ) (none : Bool) → none ≡ (n == 0) → none ≡ false → 0 < n
some_left zero none is false_is = absurd (cc)
some_left (suc n) none is false_is = omega arith

-- the steps that save some files and one more
pub saving_more : (krate entry : Text) (files : List (Text × Text)) (file : Text × Text) → saving_ops krate entry (files ++ file ∷ []) ≡ saving_ops krate entry files ++ file_ops krate entry file
saving_more krate entry [] file = append-nil (file_ops krate entry file)
saving_more krate entry (first ∷ files) file =
    ap (λ ops. file_ops krate entry first ++ ops) (saving_more krate entry files file) ∙ sym (append_assoc (file_ops krate entry first) (saving_ops krate entry files) (file_ops krate entry file))

pub saving_next : (krate entry : Text) (before now later : List Op) (files : List (Text × Text)) (i : ℕ) (file : Text × Text) → i < length files → file ≡ get_or files i file
    → now ≡ before ++ saving_ops krate entry (take i files) → later ≡ now ++ file_ops krate entry file → later ≡ before ++ saving_ops krate entry (take (i + 1) files)
saving_next krate entry before now later files i file within is so more =
    more ∙ ap (λ ops. ops ++ file_ops krate entry file) so ∙ append_assoc before (saving_ops krate entry (take i files)) (file_ops krate entry file)
    ∙ ap (λ ops. before ++ ops) (sym (saving_more krate entry (take i files) file) ∙ ap (saving_ops krate entry) (ap (λ one. take i files ++ one ∷ []) is ∙ sym (take_more files i file within)))

-- none of the steps that save makes a directory
appends_writes : (krate entry file : Text) (pieces : List Text) (later : List Op) → are_writes later ≡ true → are_writes (map (Append krate entry file) pieces ++ later) ≡ true
appends_writes krate entry file [] later w = w
appends_writes krate entry file (piece ∷ pieces) later w = appends_writes krate entry file pieces later w

saving_writes : (krate entry : Text) (files : List (Text × Text)) (later : List Op) → are_writes later ≡ true → are_writes (saving_ops krate entry files ++ later) ≡ true
saving_writes krate entry [] later w = w
saving_writes krate entry (file ∷ files) later w =
    ap are_writes (append_assoc (file_ops krate entry file) (saving_ops krate entry files) later)
    ∙ appends_writes krate entry file.0 (pieces file.1) (saving_ops krate entry files ++ later) (saving_writes krate entry files later w)

pub all_writes : (job : Job) (its : SessionName) (files : List (Text × Text)) → are_writes (all_ops job its files) ≡ true
all_writes job its files = saving_writes job.krate (working_text its) files (publishing job its ∷ []) refl

pub both_true : (a b : Bool) → (a && b) ≡ true → (a ≡ true) × (b ≡ true)
both_true true b is = (refl, is)
both_true false b is = absurd (cc)
