-- The newest entry of a crate, as the renamings of a history show it.
use Rattle.std.specs.Prelude.{◌≡◌, ◌≢◌, ◌⊎◌, ℕ, List, [], ◌∷◌, Option, Some, None}
use Rattle.inc_fs.specs.Paths.{Text}
use Rattle.inc_fs.specs.declared.op.Op.{Op}
use Rattle.inc_fs.specs.declared.op.Op.TheVariants.{Rename}
use Rattle.inc_fs.specs.declared.op.Reply.{Reply}
use Rattle.inc_fs.specs.declared.op.Reply.TheVariants.{Done}
use Rattle.inc_names.specs.declared.entry.Entry.{Entry}
use Rattle.inc_names.specs.declared.entry.Entry.TheVariants.{Final}
use Rattle.inc_names.specs.declared.session.SessionName.{SessionName}
use Rattle.inc_names.specs.Entries.{final_text, IsSessionName, IsNewer}
use Rattle.inc_wire.specs.Forms.{job_hash_of}
use Rattle.inc_proto.specs.declared.event.Event.{Event}
use Rattle.inc_proto.specs.declared.event.Event.TheVariants.{Begin, Did, Left}
use Rattle.inc_proto.specs.Finals.{Publication}
use Rattle.inc_proto.specs.Permits.{IsHash}

-- the finalised entry under which it was published
abbrev pub final_of : Publication → Entry
final_of made = Final made.name (job_hash_of made.job)

-- the same as a session's name and a hash
abbrev pub pair_of : Publication → SessionName × ℕ
pair_of made = (made.name, job_hash_of made.job)

abbrev pub entry_by : SessionName × ℕ → Entry
entry_by its = Final its.0 its.1

-- the text is that of this session's finalised entry with this hash, or of none
abbrev pub IsFinal : Text → Option (SessionName × ℕ) → Type 0
IsFinal text None = (n : SessionName) (hash : ℕ) → IsSessionName n → IsHash hash → text ≢ final_text n hash
IsFinal text (Some its) = IsSessionName its.0 × IsHash its.1 × (text ≡ final_text its.0 its.1)

abbrev pub IsRenamed : Text → Op → Reply → Option (SessionName × ℕ) → Type 0
IsRenamed krate (Rename k from to) Done found = ((k ≡ krate) × IsFinal to found) ⊎ ((k ≢ krate) × (found ≡ None))
IsRenamed krate op reply found = found ≡ None

-- the finalised entry to which this event renamed a directory of the crate, where it did
abbrev pub IsFound : Text → Event → Option (SessionName × ℕ) → Type 0
IsFound krate (Begin number job) found = found ≡ None
IsFound krate (Did number op reply) found = IsRenamed krate op reply found
IsFound krate (Left number op cut) found = found ≡ None

-- of what was found and what was found before, the one with the newer name
abbrev pub IsLater : Option (SessionName × ℕ) → Option (SessionName × ℕ) → Option (SessionName × ℕ) → Type 0
IsLater None before now = now ≡ before
IsLater (Some one) None now = now ≡ Some one
IsLater (Some one) (Some other) now = (IsNewer other.0 one.0 × (now ≡ Some other)) ⊎ ((¬ IsNewer other.0 one.0) × (now ≡ Some one))

-- of what these events, the newest first, renamed so, the one with the newest name
abbrev pub IsNewestFound : Text → List Event → Option (SessionName × ℕ) → Type 0
IsNewestFound krate [] best = best ≡ None
IsNewestFound krate (event ∷ events) best =
    (found before : Option (SessionName × ℕ)) × IsFound krate event found × IsNewestFound krate events before × IsLater found before best
