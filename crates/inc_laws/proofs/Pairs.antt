-- The drawn pairs of a state are those that were drawn in its history.
use Rattle.std.specs.Prelude.{◌≡◌, ℕ, List, [], ◌∷◌, refl, Option, Some, None, take}
use Rattle.std.proofs.Common.{ap, ◌∙◌}
use Rattle.std.specs.Prelude.{◌+◌, cond, length, count_by, reverse}
use Rattle.std.specs.List.{sum_by}
use Rattle.std.proofs.Common.{arith}
use Rattle.std.proofs.lemmas.Grind.{reverse_onto}
use Rattle.std.proofs.lemmas.List.Sums.{sum_by-append}
use Rattle.std.proofs.lemmas.List.Recursion.{is_count_by}
use Rattle.inc_fs.specs.declared.state.File.{File}
use Rattle.inc_fs.specs.declared.op.Op.{Op}
use Rattle.inc_fs.specs.declared.op.Op.TheVariants.{Draw, MakeLock, OpenLock, TryLock, Look, ListDir, MakeDir, Link, Read, Create, Append, Unlink, UnlinkLock, RemoveDir, Rename, Close}
use Rattle.inc_fs.specs.declared.op.Reply.{Reply}
use Rattle.inc_fs.specs.declared.op.Reply.TheVariants.{Drawn, Handle as GotHandle, Names, Bytes, Done, Got, Held, Exists, Missing, NotEmpty, Fault}
use Rattle.inc_fs.specs.State.{State, Text, file_at, end_of, with_piece}
use Rattle.inc_fs.specs.Step.{Step}
use Rattle.inc_proto.specs.declared.event.Event.{Event}
use Rattle.inc_proto.specs.declared.event.Event.TheVariants.{Begin, Did, Left}
use Rattle.inc_proto.specs.Leads.{LeadsTo, stopped}
use Rattle.inc_laws.specs.Drawn.{drawn_by, drawn_in, is_draw, is_drawing}

abbrev drawn_of : State → List (ℕ × ℕ)
drawn_of F = F.drawn

piece_drawn : (F : State) (found : Option (ℕ × File)) (piece : Text) → drawn_of (with_piece F found piece) ≡ F.drawn
piece_drawn F None piece = refl
piece_drawn F (Some found) piece = refl

step_drawn : (F : State) (who : ℕ) (op : Op) (reply : Reply) (G : State) → Step F who op reply G → G.drawn ≡ drawn_by op reply F.drawn
step_drawn F who (Append krate entry file piece) Fault G s = ap drawn_of s.1 ∙ piece_drawn F (file_at F krate entry file) (take s.0 piece)
step_drawn F who op Fault G s = ap drawn_of s.1
step_drawn F who Draw (Drawn moment random) G s = ap drawn_of s.2
step_drawn F who (MakeLock krate entry) (GotHandle handle) G s = ap drawn_of s.2
step_drawn F who (MakeLock krate entry) Exists G s = ap drawn_of s.1
step_drawn F who (OpenLock krate entry) (GotHandle handle) G s = ap drawn_of s.3
step_drawn F who (OpenLock krate entry) Missing G s = ap drawn_of s.1
step_drawn F who (TryLock handle exclusive) Got G s = ap drawn_of s.3
step_drawn F who (TryLock handle exclusive) Held G s = ap drawn_of s.3
step_drawn F who (TryLock handle exclusive) Missing G s = ap drawn_of s.1
step_drawn F who (Look krate) (Names names) G s = ap drawn_of s.1
step_drawn F who (ListDir krate entry) (Names names) G s = ap drawn_of s.3
step_drawn F who (ListDir krate entry) Missing G s = ap drawn_of s.1
step_drawn F who (MakeDir krate entry) Done G s = ap drawn_of s.1
step_drawn F who (MakeDir krate entry) Exists G s = ap drawn_of s.1
step_drawn F who (Link krate from to file) Done G s = ap drawn_of s.5
step_drawn F who (Link krate from to file) Missing G s = ap drawn_of s.1
step_drawn F who (Link krate from to file) Exists G s = ap drawn_of s.2
step_drawn F who (Read krate entry file) (Bytes bytes) G s = ap drawn_of s.3
step_drawn F who (Read krate entry file) Missing G s = ap drawn_of s.1
step_drawn F who (Create krate entry file) Done G s = ap drawn_of s.3
step_drawn F who (Create krate entry file) Missing G s = ap drawn_of s.1
step_drawn F who (Create krate entry file) Exists G s = ap drawn_of s.1
step_drawn F who (Append krate entry file piece) Done G s = ap drawn_of s.1 ∙ piece_drawn F (file_at F krate entry file) piece
step_drawn F who (Append krate entry file piece) Missing G s = ap drawn_of s.1
step_drawn F who (Unlink krate entry file) Done G s = ap drawn_of s.3
step_drawn F who (Unlink krate entry file) Missing G s = ap drawn_of s.1
step_drawn F who (UnlinkLock krate entry) Done G s = ap drawn_of s.1
step_drawn F who (UnlinkLock krate entry) Missing G s = ap drawn_of s.1
step_drawn F who (RemoveDir krate entry) Done G s = ap drawn_of s.1
step_drawn F who (RemoveDir krate entry) Missing G s = ap drawn_of s.1
step_drawn F who (RemoveDir krate entry) NotEmpty G s = ap drawn_of s.3
step_drawn F who (Rename krate from to) Done G s = ap drawn_of s.3
step_drawn F who (Rename krate from to) Missing G s = ap drawn_of s.1
step_drawn F who (Rename krate from to) Exists G s = ap drawn_of s.2
step_drawn F who (Close handle) Done G s = ap drawn_of s.2
step_drawn F who (Close handle) Missing G s = ap drawn_of s.1
step_drawn F who op reply G s = absurd s

stopped_drawn : (F : State) (op : Option Op) (cut who : ℕ) → drawn_of (end_of (stopped F op cut) who) ≡ F.drawn
stopped_drawn F None cut who = refl
stopped_drawn F (Some (Append krate entry file piece)) cut who = piece_drawn F (file_at F krate entry file) (take cut piece)
stopped_drawn F (Some op) cut who = refl

pub drawn_is : (events : List Event) (G : State) → LeadsTo events G → G.drawn ≡ drawn_in events
drawn_is [] G is = ap drawn_of is
drawn_is (Begin number job ∷ events) G (F, leads, is) = ap drawn_of is.1 ∙ drawn_is events F leads
drawn_is (Did number op reply ∷ events) G (F, leads, is) = step_drawn F number op reply G is ∙ ap (drawn_by op reply) (drawn_is events F leads)
drawn_is (Left number op cut ∷ events) G (F, leads, is) = ap drawn_of is ∙ stopped_drawn F op cut number ∙ drawn_is events F leads

-- ---- They are counted.

counted_by : (op : Op) (reply : Reply) (pairs : List (ℕ × ℕ)) → length (drawn_by op reply pairs) ≡ cond (is_draw op reply) (1 + length pairs) (length pairs)
counted_by Draw (Drawn moment random) pairs = omega arith
counted_by op reply pairs = refl

counted_next : (event : Event) (events : List Event) → length (drawn_in (event ∷ events)) ≡ cond (is_drawing event) (1 + length (drawn_in events)) (length (drawn_in events))
counted_next (Begin number job) events = refl
counted_next (Did number op reply) events = counted_by op reply (drawn_in events)
counted_next (Left number op cut) events = refl

turned : (f : Event → ℕ) (events : List Event) → sum_by f (reverse events) ≡ sum_by f events
turned f [] = refl
turned f (x ∷ xs) =
    ap (sum_by f) (reverse_onto xs x []) ∙ sum_by-append f (reverse xs) (x ∷ []) ∙ omega (arith, turned f xs, sum_by-append f (x ∷ []) xs)

-- as the events that are draws, in their order
pub drawn_count : (events : List Event) → length (drawn_in (reverse events)) ≡ count_by is_drawing events
drawn_count events = is_count_by (λ events. length (drawn_in events)) is_drawing refl counted_next (reverse events) ∙ turned (λ event. cond (is_drawing event) 1 0) events
