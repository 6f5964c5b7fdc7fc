-- The intermediate form is seen from its bytes.
use Rattle.std.proofs.Common.{◌≡◌, ◌≢◌, ℕ, ℤ, ◌^◌, ◌<◌, Bool, List, ◌++◌, refl, sym, ap, ◌∙◌, arith, append_assoc}
use Rattle.std.specs.Prelude.{FitsSigned}
use Rattle.std.specs.Int.{cast_signed, cast_unsigned, w64}
use Rattle.std.proofs.Math.Facts.{Fits-lt-pow, Fits-of_z, to_z-of_z}
use Rattle.inc_wire.specs.Forms.{number_form}
use Rattle.inc_wire.specs.FormLaws.{same_number_front}
use Rattle.rs_tree.specs.declared.place.Place.{Place}
use Rattle.rs_tree.specs.declared.ir.Ir.{Ir}
use Rattle.rs_tree.specs.declared.ir.Instr.{Instr}
use Rattle.rs_tree.specs.declared.ir.Instr.TheVariants as i
use Rattle.rs_forms.specs.Fits.{FitsInstr, FitsIr, IsJumpCode, IsPlainCode}
use Rattle.inc_wire.specs.Fronts.{HasFronts, flag_fronts, list_fronts, made_fronts, number_fronts, pair_fronts}
use Rattle.inc_wire.specs.Readings.{IsSeen}
use Rattle.rs_forms.specs.Forms.{code_of, instr_form, ir_form, operand_form}
use Rattle.rs_forms.proofs.Fronts.{place_fronts}

-- codes that are none of the others
record IsApart (c : ℕ) : Type 0 where
  push : c ≢ 1
  load : c ≢ 2
  store : c ≢ 3
  label : c ≢ 5
  call : c ≢ 48

plain_apart : (c : ℕ) → IsPlainCode c → IsApart c
plain_apart c is = record { push = λ e. grind arith; load = λ e. grind arith; store = λ e. grind arith; label = λ e. grind arith; call = λ e. grind arith }

jump_apart : (c : ℕ) → IsJumpCode c → IsApart c
jump_apart c is = record { push = λ e. grind arith; load = λ e. grind arith; store = λ e. grind arith; label = λ e. grind arith; call = λ e. grind arith }

plain_jump : (c d : ℕ) → IsPlainCode c → IsJumpCode d → c ≢ d
plain_jump c d p j = λ e. grind arith

pub plain_small : (c : ℕ) → IsPlainCode c → c < 256 ^ 1
plain_small c is = grind arith

pub jump_small : (c : ℕ) → IsJumpCode c → c < 256 ^ 1
jump_small c is = grind arith

code_small : (x : Instr) → FitsInstr x → code_of x < 256 ^ 1
code_small (i.Push a) f = omega arith
code_small (i.Load a) f = omega arith
code_small (i.Store a) f = omega arith
code_small (i.Plain a) f = plain_small a f
code_small (i.Jump a l) f = jump_small a f.0
code_small (i.Label a) f = omega arith
code_small (i.Call a p) f = omega arith

number_seen : (width a b : ℕ) (make : ℕ → Instr) (r s : List ℕ) → a < 256 ^ width → b < 256 ^ width → number_form width a ++ r ≡ number_form width b ++ s → IsSeen (make a) (make b) r s
number_seen width a b make r s fa fb same = let parts = same_number_front width a b r s fa fb same in record { value = ap make parts.0; rest = parts.1 }

push_seen : (a b : ℤ) (r s : List ℕ) → FitsSigned w64 a → FitsSigned w64 b → number_form 8 (cast_unsigned w64 a) ++ r ≡ number_form 8 (cast_unsigned w64 b) ++ s → IsSeen (i.Push a) (i.Push b) r s
push_seen a b r s fa fb same =
    let parts = same_number_front 8 (cast_unsigned w64 a) (cast_unsigned w64 b) r s (small a fa) (small b fb) same in
    let e : a ≡ b = sym (to_z-of_z fa) ∙ ap (cast_signed w64) parts.0 ∙ to_z-of_z fb in
    record { value = ap i.Push e; rest = parts.1 }
  where
    small : (z : ℤ) → FitsSigned w64 z → cast_unsigned w64 z < 256 ^ 8
    small z f = let below : cast_unsigned w64 z < 2 ^ 64 = Fits-lt-pow {w = w64} (Fits-of_z f) in omega (arith, below)

call_seen : (a b : Bool) (p q : Place) (r s : List ℕ) → FitsInstr (i.Call a p) → FitsInstr (i.Call b q) → operand_form (i.Call a p) ++ r ≡ operand_form (i.Call b q) ++ s → IsSeen (i.Call a p) (i.Call b q) r s
call_seen a b p q r s fa fb same =
    let seen = (pair_fronts flag_fronts place_fronts).seen (a, p) (b, q) r s (tt, fa) (tt, fb) same in
    record { value = ap (λ (c : Bool × Place). i.Call c.0 c.1) seen.value; rest = seen.rest }

operand_seen : (x y : Instr) (r s : List ℕ) → FitsInstr x → FitsInstr y → code_of x ≡ code_of y → operand_form x ++ r ≡ operand_form y ++ s → IsSeen x y r s
operand_seen (i.Push a1) (i.Push a2) r s fx fy codes same = push_seen a1 a2 r s fx fy same
operand_seen (i.Push a1) (i.Load a2) r s fx fy codes same = absurd (cc)
operand_seen (i.Push a1) (i.Store a2) r s fx fy codes same = absurd (cc)
operand_seen (i.Push a1) (i.Plain a2) r s fx fy codes same = absurd ((plain_apart a2 fy).push (sym codes))
operand_seen (i.Push a1) (i.Jump a2 l2) r s fx fy codes same = absurd ((jump_apart a2 fy.0).push (sym codes))
operand_seen (i.Push a1) (i.Label a2) r s fx fy codes same = absurd (cc)
operand_seen (i.Push a1) (i.Call a2 p2) r s fx fy codes same = absurd (cc)
operand_seen (i.Load a1) (i.Push a2) r s fx fy codes same = absurd (cc)
operand_seen (i.Load a1) (i.Load a2) r s fx fy codes same = number_seen 2 a1 a2 i.Load r s fx fy same
operand_seen (i.Load a1) (i.Store a2) r s fx fy codes same = absurd (cc)
operand_seen (i.Load a1) (i.Plain a2) r s fx fy codes same = absurd ((plain_apart a2 fy).load (sym codes))
operand_seen (i.Load a1) (i.Jump a2 l2) r s fx fy codes same = absurd ((jump_apart a2 fy.0).load (sym codes))
operand_seen (i.Load a1) (i.Label a2) r s fx fy codes same = absurd (cc)
operand_seen (i.Load a1) (i.Call a2 p2) r s fx fy codes same = absurd (cc)
operand_seen (i.Store a1) (i.Push a2) r s fx fy codes same = absurd (cc)
operand_seen (i.Store a1) (i.Load a2) r s fx fy codes same = absurd (cc)
operand_seen (i.Store a1) (i.Store a2) r s fx fy codes same = number_seen 2 a1 a2 i.Store r s fx fy same
operand_seen (i.Store a1) (i.Plain a2) r s fx fy codes same = absurd ((plain_apart a2 fy).store (sym codes))
operand_seen (i.Store a1) (i.Jump a2 l2) r s fx fy codes same = absurd ((jump_apart a2 fy.0).store (sym codes))
operand_seen (i.Store a1) (i.Label a2) r s fx fy codes same = absurd (cc)
operand_seen (i.Store a1) (i.Call a2 p2) r s fx fy codes same = absurd (cc)
operand_seen (i.Plain a1) (i.Push a2) r s fx fy codes same = absurd ((plain_apart a1 fx).push codes)
operand_seen (i.Plain a1) (i.Load a2) r s fx fy codes same = absurd ((plain_apart a1 fx).load codes)
operand_seen (i.Plain a1) (i.Store a2) r s fx fy codes same = absurd ((plain_apart a1 fx).store codes)
operand_seen (i.Plain a1) (i.Plain a2) r s fx fy codes same = record { value = ap i.Plain codes; rest = same }
operand_seen (i.Plain a1) (i.Jump a2 l2) r s fx fy codes same = absurd (plain_jump a1 a2 fx fy.0 codes)
operand_seen (i.Plain a1) (i.Label a2) r s fx fy codes same = absurd ((plain_apart a1 fx).label codes)
operand_seen (i.Plain a1) (i.Call a2 p2) r s fx fy codes same = absurd ((plain_apart a1 fx).call codes)
operand_seen (i.Jump a1 l1) (i.Push a2) r s fx fy codes same = absurd ((jump_apart a1 fx.0).push codes)
operand_seen (i.Jump a1 l1) (i.Load a2) r s fx fy codes same = absurd ((jump_apart a1 fx.0).load codes)
operand_seen (i.Jump a1 l1) (i.Store a2) r s fx fy codes same = absurd ((jump_apart a1 fx.0).store codes)
operand_seen (i.Jump a1 l1) (i.Plain a2) r s fx fy codes same = absurd (plain_jump a2 a1 fy fx.0 (sym codes))
operand_seen (i.Jump a1 l1) (i.Jump a2 l2) r s fx fy codes same = (let labels = number_seen 2 l1 l2 (i.Jump a1) r s fx.1 fy.1 same in record { value = labels.value ∙ ap (λ c. i.Jump c l2) codes; rest = labels.rest })
operand_seen (i.Jump a1 l1) (i.Label a2) r s fx fy codes same = absurd ((jump_apart a1 fx.0).label codes)
operand_seen (i.Jump a1 l1) (i.Call a2 p2) r s fx fy codes same = absurd ((jump_apart a1 fx.0).call codes)
operand_seen (i.Label a1) (i.Push a2) r s fx fy codes same = absurd (cc)
operand_seen (i.Label a1) (i.Load a2) r s fx fy codes same = absurd (cc)
operand_seen (i.Label a1) (i.Store a2) r s fx fy codes same = absurd (cc)
operand_seen (i.Label a1) (i.Plain a2) r s fx fy codes same = absurd ((plain_apart a2 fy).label (sym codes))
operand_seen (i.Label a1) (i.Jump a2 l2) r s fx fy codes same = absurd ((jump_apart a2 fy.0).label (sym codes))
operand_seen (i.Label a1) (i.Label a2) r s fx fy codes same = number_seen 2 a1 a2 i.Label r s fx fy same
operand_seen (i.Label a1) (i.Call a2 p2) r s fx fy codes same = absurd (cc)
operand_seen (i.Call a1 p1) (i.Push a2) r s fx fy codes same = absurd (cc)
operand_seen (i.Call a1 p1) (i.Load a2) r s fx fy codes same = absurd (cc)
operand_seen (i.Call a1 p1) (i.Store a2) r s fx fy codes same = absurd (cc)
operand_seen (i.Call a1 p1) (i.Plain a2) r s fx fy codes same = absurd ((plain_apart a2 fy).call (sym codes))
operand_seen (i.Call a1 p1) (i.Jump a2 l2) r s fx fy codes same = absurd ((jump_apart a2 fy.0).call (sym codes))
operand_seen (i.Call a1 p1) (i.Label a2) r s fx fy codes same = absurd (cc)
operand_seen (i.Call a1 p1) (i.Call a2 p2) r s fx fy codes same = call_seen a1 a2 p1 p2 r s fx fy same

instr_seen : (x y : Instr) (r s : List ℕ) → FitsInstr x → FitsInstr y → instr_form x ++ r ≡ instr_form y ++ s → IsSeen x y r s
instr_seen x y r s fx fy same =
    let whole = sym (append_assoc (number_form 1 (code_of x)) (operand_form x) r) ∙ same ∙ append_assoc (number_form 1 (code_of y)) (operand_form y) s in
    let codes = same_number_front 1 (code_of x) (code_of y) (operand_form x ++ r) (operand_form y ++ s) (code_small x fx) (code_small y fy) whole in
    operand_seen x y r s fx fy codes.0 codes.1

pub instr_fronts : HasFronts FitsInstr instr_form
instr_fronts = record { seen = instr_seen }

pub ir_fronts : HasFronts FitsIr ir_form
ir_fronts = made_fronts
    (λ (p : Bool × (ℕ × (ℕ × List Instr))). record { inline = p.0; params = p.1.0; slots = p.1.1.0; code = p.1.1.1 }) (λ (x : Ir). (x.inline, (x.params, (x.slots, x.code))))
    (pair_fronts flag_fronts (pair_fronts (number_fronts 2) (pair_fronts (number_fronts 2) (list_fronts instr_fronts))))
    (λ x fits. (tt, (fits.params, (fits.slots, fits.code)))) (λ x. refl) (λ x. refl)
