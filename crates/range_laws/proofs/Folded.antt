-- Reducing statements keeps that their numbers are ones of 64 bits, and what holds of their calls.
use Rattle.std.proofs.Common.{Option, Some, None}
use Rattle.rs_tree.specs.declared.place.Place.{Place}
use Rattle.rs_tree.specs.Plain.{Exp, Sta, Stas, Arms, Let, Assign, Return, Eval, While, If, Print, Bare, Else, Arm}
use Rattle.rs_lower.specs.Meanings.{Leaf, Meanings}
use Rattle.rs_lower.specs.Reduced.{arms_reduced, leaf_value, reduced_in, sta_reduced, stas_reduced}
use Rattle.range_laws.proofs.Instructions.{Calls, WordedArms, WordedIn, WordedSta, WordedStas}
use Rattle.range_laws.proofs.Consts.{Gives}
use Rattle.range_laws.proofs.Worth.{reduced_worded}

module _ (P : Place → Type 0) (w : Meanings) (known : (p : Leaf) → Gives (leaf_value w p)) where
  pub reduced_in_worded : (value : Option (Exp Leaf)) → WordedIn P value → WordedIn P (reduced_in w value)
  reduced_in_worded None h = h
  reduced_in_worded (Some e) h = reduced_worded (Calls P) w known e h

  mutual
    sta_reduced_worded : (s : Sta Leaf) → WordedSta P s → WordedSta P (sta_reduced w s)
    sta_reduced_worded (Let mutable at name typ value) h = reduced_worded (Calls P) w known value h
    sta_reduced_worded (Assign at name value) h = reduced_worded (Calls P) w known value h
    sta_reduced_worded (Return at value) h = reduced_in_worded value h
    sta_reduced_worded (Eval value) h = reduced_worded (Calls P) w known value h
    sta_reduced_worded (While cond body) h = (reduced_worded (Calls P) w known cond h.0, stas_reduced_worded body h.1)
    sta_reduced_worded (If arms) h = arms_reduced_worded arms h
    sta_reduced_worded (Print value) h = reduced_worded (Calls P) w known value h

    pub stas_reduced_worded : (ss : Stas Leaf) → WordedStas P ss → WordedStas P (stas_reduced w ss)
    stas_reduced_worded Stas.Empty h = h
    stas_reduced_worded (Stas.Of s more) h = (sta_reduced_worded s h.0, stas_reduced_worded more h.1)

    arms_reduced_worded : (arms : Arms Leaf) → WordedArms P arms → WordedArms P (arms_reduced w arms)
    arms_reduced_worded Bare h = h
    arms_reduced_worded (Else body) h = stas_reduced_worded body h
    arms_reduced_worded (Arm cond body more) h = (reduced_worded (Calls P) w known cond h.0, (stas_reduced_worded body h.1.0, arms_reduced_worded more h.1.1))
