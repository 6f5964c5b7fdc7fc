-- The names that were drawn and the hashes of jobs are in their types' ranges.
use Rattle.std.specs.Prelude.{◌<◌, ◌≤◌, ◌^◌, ◌++◌, ℕ, zero, suc, List, [], ◌∷◌, slice_index}
use Rattle.std.specs.Int.{w32, byte_at, bytes_high_first, to_be_bytes}
use Rattle.std.specs.List.{AllByRecursion}
use Rattle.std.proofs.Common.{subst, inl, inr, arith, lit≤}
use Rattle.byteorder.specs.Numbers.{big_from-lt}
use Rattle.sha2.specs.Sha256.{digest_bytes, final_hash, initial_hash_256, sha256}
use Rattle.inc_base.specs.declared.job.Job.{Job}
use Rattle.inc_fs.specs.State.{State, IsIn}
use Rattle.inc_fs.specs.Step.{Step}
use Rattle.inc_fs.specs.declared.op.Op.{Op}
use Rattle.inc_fs.specs.declared.op.Op.TheVariants.{Draw}
use Rattle.inc_fs.specs.declared.op.Reply.{Reply}
use Rattle.inc_fs.specs.declared.op.Reply.TheVariants.{Drawn}
use Rattle.inc_names.specs.declared.session.SessionName.{SessionName}
use Rattle.inc_names.specs.Entries.{IsSessionName}
use Rattle.inc_wire.specs.Forms.{header_form, header_of, job_hash_of}
use Rattle.inc_proto.specs.declared.event.Event.{Event}
use Rattle.inc_proto.specs.declared.event.Event.TheVariants.{Begin, Did, Left}
use Rattle.inc_proto.specs.Leads.{LeadsTo}
use Rattle.inc_proto.specs.Permits.{IsHash}
use Rattle.inc_laws.specs.Drawn.{drawn_by, drawn_in}
use Rattle.inc_laws.proofs.Pairs.{drawn_is}

abbrev IsPair : ℕ × ℕ → Type 0
IsPair pair = (pair.0 < 2 ^ 64) × (pair.1 < 2 ^ 32)

step_pairs : (F G : State) (who : ℕ) (op : Op) (reply : Reply) (pairs : List (ℕ × ℕ)) → Step F who op reply G
    → ((pair : ℕ × ℕ) → IsIn pairs pair → IsPair pair) → (pair : ℕ × ℕ) → IsIn (drawn_by op reply pairs) pair → IsPair pair
step_pairs F G who Draw (Drawn moment random) pairs s all pair (inl same) = subst IsPair same (s.3, s.4)
step_pairs F G who Draw (Drawn moment random) pairs s all pair (inr rest) = all pair rest
step_pairs F G who op reply pairs s all pair within = all pair within

pairs_in : (events : List Event) (G : State) → LeadsTo events G → (pair : ℕ × ℕ) → IsIn (drawn_in events) pair → IsPair pair
pairs_in [] G is pair within = absurd within
pairs_in (Begin number job ∷ events) G (F, leads, is) pair within = pairs_in events F leads pair within
pairs_in (Did number op reply ∷ events) G (F, leads, is) pair within = step_pairs F G number op reply (drawn_in events) is (pairs_in events F leads) pair within
pairs_in (Left number op cut ∷ events) G (F, leads, is) pair within = pairs_in events F leads pair within

pub drawn_name : (events : List Event) (F : State) → LeadsTo events F → (n : SessionName) → IsIn F.drawn (n.moment, n.random) → IsSessionName n
drawn_name events F leads n within =
    let p = pairs_in events F leads (n.moment, n.random) (subst (λ pairs. IsIn pairs (n.moment, n.random)) (drawn_is events F leads) within) in
    record { moment = p.0; random = p.1 }

-- ---- Hashes.

small_byte : (k n : ℕ) → byte_at k n < 256
small_byte zero n = omega arith
small_byte (suc k) n = omega arith

small_bytes : (k n : ℕ) → AllByRecursion (λ b. b < 256) (bytes_high_first k n)
small_bytes zero n = tt
small_bytes (suc k) n = (small_byte k n, small_bytes k n)

small_both : (xs ys : List ℕ) → AllByRecursion (λ b. b < 256) xs → AllByRecursion (λ b. b < 256) ys → AllByRecursion (λ b. b < 256) (xs ++ ys)
small_both [] ys p q = q
small_both (x ∷ xs) ys p q = (p.0, small_both xs ys p.1 q)

small_digest : (h : List ℕ) (n : ℕ) → AllByRecursion (λ b. b < 256) (digest_bytes h n)
unfolding digest_bytes
small_digest h zero = tt
small_digest h (suc n) = small_both (digest_bytes h n) (to_be_bytes w32 (slice_index h n)) (small_digest h n) (small_bytes 4 (slice_index h n))

small_sha256 : (m : List ℕ) → AllByRecursion (λ b. b < 256) (sha256 m)
unfolding sha256
small_sha256 m = small_digest (final_hash initial_hash_256 m) 8

small_at : (xs : List ℕ) → AllByRecursion (λ b. b < 256) xs → (k : ℕ) → slice_index xs k < 256
small_at [] all k = omega arith
small_at (x ∷ xs) all zero = all.0
small_at (x ∷ xs) all (suc k) = small_at xs all.1 k

pub hash_small : (job : Job) → IsHash (job_hash_of job)
unfolding job_hash_of
hash_small job =
    let below = big_from-lt 0 16 (sha256 (header_form (header_of 1 job) ++ job.text)) (small_at (sha256 (header_form (header_of 1 job) ++ job.text)) (small_sha256 (header_form (header_of 1 job) ++ job.text))) in
    let same : 256 ^ 16 ≤ 2 ^ 128 = lit≤ tt in
    omega (arith, below, same)
