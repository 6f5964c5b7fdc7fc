-- The newest entry's directory has the names of its job's files, in their order, and their bytes.
use Rattle.std.specs.Prelude.{◌≡◌, ◌≢◌, ◌++◌, ℕ, Bool, true, false, cond, List, [], ◌∷◌, refl, Option, Some, None, IsSome, slice_get}
use Rattle.std.specs.List.{AllByRecursion}
use Rattle.std.specs.List.Sorted.{IsStrictlySortedBy}
use Rattle.std.specs.Map.{lookup, keys_of}
use Rattle.std.specs.BTreeMap.{is_at}
use Rattle.std.specs.Cmp.{tied_itself}
use Rattle.std.specs.Cmp.Lexicographic.{nat_list_cmp_total}
use Rattle.std.specs.Option.{option_and_then, option_map}
use Rattle.std.specs.Ordering.{is_eq}
use Rattle.std.specs.declared.cmp.Ordering.TheVariants.{Less, Equal}
use Rattle.std.proofs.Common.{ap, sym, subst, ◌∙◌, inl, inr}
use Rattle.std.proofs.lemmas.Bool.{true≢false}
use Rattle.inc_base.specs.declared.job.Job.{Job}
use Rattle.inc_fs.specs.declared.state.File.{File}
use Rattle.inc_fs.specs.Lookups.{same_texts}
use Rattle.inc_fs.specs.Readings.{bytes_of}
use Rattle.inc_fs.specs.State.{State, Text, IsIn, text_cmp, folder_at, file_at, named, numbered}
use Rattle.inc_fs.specs.declared.op.Op.{Op}
use Rattle.inc_fs.specs.declared.op.Op.TheVariants.{Rename}
use Rattle.inc_fs.specs.declared.op.Reply.{Reply}
use Rattle.inc_fs.specs.declared.op.Reply.TheVariants.{Done}
use Rattle.inc_names.specs.declared.session.SessionName.{SessionName}
use Rattle.inc_proto.specs.declared.event.Event.{Event}
use Rattle.inc_proto.specs.declared.event.Event.TheVariants.{Begin, Did, Left}
use Rattle.inc_proto.specs.Events.{own_steps, job_of}
use Rattle.inc_proto.specs.Files.{Files, IsSet}
use Rattle.inc_proto.specs.Finals.{Publication, IsWhole, entry_of, is_publishing, publication, published, newest}
use Rattle.inc_proto.specs.Leads.{LeadsTo}
use Rattle.inc_proto.specs.LeadLaws.{leads_sound}
use Rattle.inc_proto.specs.Legal.{MayDo, AreAllowed}
use Rattle.inc_proto.specs.Permits.{IsPermitted}
use Rattle.inc_proto.specs.Views.{Dir, dir, name}
use Rattle.inc_proto.specs.Views.Dir.{Unmade, Stands, Removed, Published}
use Rattle.inc_laws.specs.Laws.{Laws}
use Rattle.inc_laws.specs.Parts.{IsBytes, HoldsSet}
use Rattle.inc_laws.specs.Readings.{running}
use Rattle.inc_laws.proofs.InPlace.{some_same}
use Rattle.inc_laws.proofs.Lasting.{may_parts, laws_hold}
use Rattle.inc_laws.proofs.Newest.{Found, IsNewestOf, is_here_same, newest_found, newest_whole, publishes}
use Rattle.inc_laws.proofs.Next.{runs_job}
use Rattle.inc_laws.proofs.Sorted.{IsOrdered, files_ordered, complete_keys}
use Rattle.inc_laws.proofs.Texts.{final_no_working}
use Rattle.inc_laws.proofs.Wraps.{own_place}

-- ---- Lists whose keys ascend.

abbrev pub Ascend : List Text → Type 0
Ascend ks = IsStrictlySortedBy text_cmp ks

not_below_itself : (k : Text) → text_cmp k k ≡ Less → ⊥
not_below_itself k less = let tied : text_cmp k k ≡ Equal = tied_itself nat_list_cmp_total k in cc

all_in : (P : Text → Type 0) (ks : List Text) (k : Text) → AllByRecursion P ks → IsIn ks k → P k
all_in P [] k all within = absurd within
all_in P (l ∷ ks) k all (inl same) = subst P same all.0
all_in P (l ∷ ks) k all (inr later) = all_in P ks k all.1 later

apart_after : (l k : Text) (ks : List Text) → AllByRecursion (λ y. text_cmp l y ≡ Less) ks → IsIn ks k → l ≢ k
apart_after l k ks all within same = not_below_itself k (subst (λ x. text_cmp x k ≡ Less) same (all_in (λ y. text_cmp l y ≡ Less) ks k all within))

-- equal elements in one order are one list
same_sorted : (ks ls : List Text) → Ascend ks → Ascend ls → ((q : Text) → IsIn ks q → IsIn ls q) → ((q : Text) → IsIn ls q → IsIn ks q) → ks ≡ ls
unfolding IsStrictlySortedBy
same_sorted [] [] a b to back = refl
same_sorted [] (l ∷ ls) a b to back = absurd (back l (inl refl))
same_sorted (k ∷ ks) [] a b to back = absurd (to k (inl refl))
same_sorted (k ∷ ks) (l ∷ ls) a b to back = (λ i. heads i ∷ same_sorted ks ls a.1 b.1 forward backward i)
  where
    heads : k ≡ l
    heads = elim (to k (inl refl)) [
      | inl same ↦ sym same
      | inr after ↦ elim (back l (inl refl)) [
        | inl same ↦ same
        | inr before ↦ absurd (not_below_itself k (nat_list_cmp_total.trans k l k (all_in (λ y. text_cmp k y ≡ Less) ks l a.0 before) (all_in (λ y. text_cmp l y ≡ Less) ls k b.0 after)))
      ]
    ]

    forward : (q : Text) → IsIn ks q → IsIn ls q
    forward q within = elim (to q (inr within)) [
      | inl same ↦ absurd (apart_after k q ks a.0 within (heads ∙ same))
      | inr later ↦ later
    ]

    backward : (q : Text) → IsIn ls q → IsIn ks q
    backward q within = elim (back q (inr within)) [
      | inl same ↦ absurd (apart_after l q ls b.0 within (sym heads ∙ same))
      | inr later ↦ later
    ]

module _ {V : Type 0} where
  found_in : (es : List (Text × V)) (q : Text) → IsSome (lookup (is_at (text_cmp q)) es) → IsIn (keys_of es) q
  found_in [] q some = cc
  found_in (e ∷ es) q some = elim (same_texts q e.0) [
    | inl same ↦ inl (sym same)
    | inr off ↦ inr (found_in es q (subst (λ b. IsSome (cond b (Some e.1) (lookup (is_at (text_cmp q)) es))) off some))
  ]

  pub in_found : (es : List (Text × V)) (q : Text) → IsIn (keys_of es) q → IsSome (lookup (is_at (text_cmp q)) es)
  in_found [] q within = absurd within
  in_found (e ∷ es) q within = go (in_found es q) (is_eq (text_cmp q e.0)) refl
    where
      go : (IsIn (keys_of es) q → IsSome (lookup (is_at (text_cmp q)) es)) → (b : Bool) → is_eq (text_cmp q e.0) ≡ b → IsSome (cond b (Some e.1) (lookup (is_at (text_cmp q)) es))
      go ih true is = cc
      go ih false is = elim within [
        | inl same ↦ absurd (true≢false (sym (ap is_eq (tied_itself nat_list_cmp_total q)) ∙ ap (λ k. is_eq (text_cmp q k)) (sym same) ∙ is))
        | inr later ↦ ih later
      ]

  pub key_in : (es : List (Text × V)) (q : Text) (v : V) → IsIn es (q, v) → IsIn (keys_of es) q
  key_in [] q v within = absurd within
  key_in (e ∷ es) q v (inl same) = inl (ap (λ (x : Text × V). x.0) same)
  key_in (e ∷ es) q v (inr later) = inr (key_in es q v later)

  pub lookup_in : (es : List (Text × V)) (q : Text) (v : V) → Ascend (keys_of es) → IsIn es (q, v) → lookup (is_at (text_cmp q)) es ≡ Some v
  unfolding IsStrictlySortedBy
  lookup_in [] q v a within = absurd within
  lookup_in (e ∷ es) q v a (inl same) =
      subst (λ (x : Text × V). cond (is_eq (text_cmp q x.0)) (Some x.1) (lookup (is_at (text_cmp q)) es) ≡ Some v) (sym same)
      (ap (λ r. cond (is_eq r) (Some v) (lookup (is_at (text_cmp q)) es)) (tied_itself nat_list_cmp_total q))
  lookup_in (e ∷ es) q v a (inr later) = elim (same_texts q e.0) [
    | inl same ↦ absurd (apart_after e.0 q (keys_of es) a.0 (key_in es q v later) (sym same))
    | inr off ↦ ap (λ b. cond b (Some e.1) (lookup (is_at (text_cmp q)) es)) off ∙ lookup_in es q v a.1 later
  ]

-- ---- The set that was published stands in the order of its names.

module _ (files : Files) (H : List Event) (F : State) (l : Laws files H F) where
  sorted_set : (who : ℕ) (op : Op) (reply : Reply) → MayDo files H who op → is_publishing (op, reply) (dir (own_steps who H)) ≡ true
      → (job : Job) × (job_of who H ≡ Some job) × ((set : List (Text × Text)) → IsSet files job set → Ascend (keys_of set))
  sorted_set who op reply may is = go op reply (dir (own_steps who H)) refl is (may_parts files H who op may)
    where
      Result : Type 0
      Result = (job : Job) × (job_of who H ≡ Some job) × ((set : List (Text × Text)) → IsSet files job set → Ascend (keys_of set))

      some_set : (a b : List (Text × Text)) → Some a ≡ Some b → a ≡ b
      some_set a b same = cc

      go : (op : Op) (reply : Reply) (d : Dir) → dir (own_steps who H) ≡ d → is_publishing (op, reply) d ≡ true → (job : Job) × (running who H ≡ Some job) × IsPermitted files job (own_steps who H) op → Result
      go (Rename k from to) Done (Stands kd e known) d is (job, runs, inl p) = (
        job,
        runs_job H who job runs,
        λ set of_job.
            subst (λ set. Ascend (keys_of set)) (some_set p.2 set (sym p.8 ∙ of_job)) (subst Ascend (complete_keys p.0 p.2 p.7) (subst IsOrdered p.3 (files_ordered (own_steps who H)))),
      )
      go (Rename k from to) Done (Stands kd e known) d is (job, runs, inr p) =
          let place = own_place files H F l who job runs kd e known d in
          let same = is_here_same kd e k from is in
          absurd (final_no_working p.0 place.0 p.1 (sym p.8 ∙ sym same.1 ∙ place.3))
      go (Rename k from to) Done Unmade d is p = cc
      go (Rename k from to) Done Removed d is p = cc
      go (Rename k from to) Done (Published kd e known) d is p = cc
      go (Rename k from to) reply d at is p = cc
      go op reply d at is p = cc

pub published_sorted : (files : Files) (events : List Event) (G : State) → LeadsTo events G → AreAllowed files events → (made : Publication) → IsIn (published events) made
    → (set : List (Text × Text)) → IsSet files made.job set → Ascend (keys_of set)
published_sorted files [] G leads allowed made at = absurd at
published_sorted files (Begin number job ∷ H) G (F, leads, is) allowed made at = published_sorted files H F leads allowed.0 made at
published_sorted files (Left number op cut ∷ H) G (F, leads, is) allowed made at = published_sorted files H F leads allowed.0 made at
published_sorted files (Did who op reply ∷ H) G (F, leads, is) allowed made at =
    go (published_sorted files H F leads allowed.0 made) (is_publishing (op, reply) (dir (own_steps who H))) refl at
  where
    go : (IsIn (published H) made → (set : List (Text × Text)) → IsSet files made.job set → Ascend (keys_of set)) → (b : Bool) → is_publishing (op, reply) (dir (own_steps who H)) ≡ b
        → IsIn (cond b (publication (name (own_steps who H)) (job_of who H) ++ published H) (published H)) made → (set : List (Text × Text)) → IsSet files made.job set → Ascend (keys_of set)
    go ih false idle within = ih within
    go ih true publishing within =
        let l = laws_hold files H F leads allowed.0 in
        let p = publishes files H F l who op reply G allowed.1 publishing in
        let s = sorted_set files H F l who op reply allowed.1 publishing in
        new p.0 p.1 (subst (λ ms. IsIn (ms ++ published H) made) (λ i. publication (p.2 i) (p.3 i)) within) s.0 (some_same p.1 s.0 (sym p.3 ∙ s.1)) s.2
      where
        new : (n : SessionName) (job : Job) → IsIn (record { name = n; job = job } ∷ published H) made → (its : Job) → job ≡ its → ((set : List (Text × Text)) → IsSet files its set → Ascend (keys_of set))
            → (set : List (Text × Text)) → IsSet files made.job set → Ascend (keys_of set)
        new n job (inr rest) its same sorted = ih rest
        new n job (inl here) its same sorted = λ set of_job. sorted set (subst (λ job. IsSet files job set) (sym (ap (λ (m : Publication). m.job) here) ∙ same) of_job)

-- ---- So the newest is whole.

pub file_bytes : (F : State) (f : ℕ) → option_map (λ (found : ℕ × File). found.1.bytes) (numbered F f) ≡ bytes_of F f
file_bytes F f = go (slice_get F.files f)
  where
    go : (o : Option File) → option_map (λ (found : ℕ × File). found.1.bytes) (option_map (λ file. (f, file)) o) ≡ option_map (λ file. file.bytes) o
    go None = refl
    go (Some file) = refl

-- a directory that holds a set has its names
pub set_keys : (bytes : ℕ → Option Text) (folder : List (Text × ℕ)) (set : List (Text × Text)) → Ascend (keys_of folder) → Ascend (keys_of set) → HoldsSet bytes folder set → keys_of folder ≡ keys_of set
set_keys all folder set a b holds =
    same_sorted (keys_of folder) (keys_of set) a b
    (λ q within. found_in set q (forward (named q folder) (lookup (is_at (text_cmp q)) set) (holds q) (in_found folder q within)))
    (λ q within. found_in folder q (backward (named q folder) (lookup (is_at (text_cmp q)) set) (holds q) (in_found set q within)))
  where
    forward : (f : Option ℕ) (found : Option Text) → IsBytes all f found → IsSome f → IsSome found
    forward None found is some = cc
    forward (Some f) found is some = is.0

    backward : (f : Option ℕ) (found : Option Text) → IsBytes all f found → IsSome found → IsSome f
    backward None found is some = subst IsSome is some
    backward (Some f) found is some = cc

whole_from : (F : State) (krate entry : Text) (folder : List (Text × ℕ)) (set : List (Text × Text)) → folder_at F krate entry ≡ Some folder → Ascend (keys_of folder) → Ascend (keys_of set)
    → HoldsSet (bytes_of F) folder set → IsWhole F krate entry set
whole_from F krate entry folder set stands a b holds = record {
  folder = folder;
  stands = stands;
  names = set_keys (bytes_of F) folder set a b holds;
  bytes = λ file bytes within. at file bytes (named file folder) refl (subst (IsBytes (bytes_of F) (named file folder)) (lookup_in set file bytes b within) (holds file));
}
  where
    at : (file bytes : Text) (f : Option ℕ) → named file folder ≡ f → IsBytes (bytes_of F) f (Some bytes) → option_map (λ (found : ℕ × File). found.1.bytes) (file_at F krate entry file) ≡ Some bytes
    at file bytes None is holds = cc
    at file bytes (Some f) is holds =
        ap (λ o. option_map (λ (found : ℕ × File). found.1.bytes) (option_and_then (numbered F) (option_and_then (named file) o))) stands
        ∙ ap (λ o. option_map (λ (found : ℕ × File). found.1.bytes) (option_and_then (numbered F) o)) is
        ∙ file_bytes F f ∙ holds.1

pub newest_is_whole : (files : Files) (events : List Event) (F : State) → LeadsTo events F → AreAllowed files events → (krate : Text) (made : Publication) → newest events krate ≡ Some made
    → (set : List (Text × Text)) × IsIn (published events) made × IsSet files made.job set × IsWhole F krate (entry_of made) set
newest_is_whole files events F leads allowed krate made is =
    let w = newest_whole files events F leads allowed krate made is in
    let best : IsNewestOf krate made (published events) = subst (λ o. Found krate o (published events)) is (newest_found krate (published events)) in (
      w.0,
      best.within,
      w.2,
      whole_from F krate (entry_of made) w.1 w.0 w.3 ((leads_sound events F leads).tidy.names krate (entry_of made) w.1 w.3) (published_sorted files events F leads allowed made best.within w.0 w.2) w.4,
    )

pub none_published : (events : List Event) (krate : Text) → newest events krate ≡ None → (made : Publication) → IsIn (published events) made → made.job.krate ≢ krate
none_published events krate is made within = subst (λ o. Found krate o (published events)) is (newest_found krate (published events)) made within
