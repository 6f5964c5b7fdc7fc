-- What a session linked as a whole set is the file set of a published job.
use Rattle.std.specs.Prelude.{◌≡◌, ◌⊎◌, ◌==◌, ◌++◌, ℕ, Bool, true, false, cond, List, [], ◌∷◌, reverse, refl, Some}
use Rattle.std.specs.Map.{lookup, keys_of}
use Rattle.std.specs.BTreeMap.{insert_entry, is_at}
use Rattle.std.specs.Cmp.Lexicographic.{nat_list_cmp_total}
use Rattle.std.specs.Option.{option_and_then, option_map}
use Rattle.std.proofs.Common.{ap, sym, subst, ◌∙◌, inl, inr}
use Rattle.std.proofs.lemmas.Bool.{eqb-true}
use Rattle.std.proofs.lemmas.List.{reverse-append}
use Rattle.inc_fs.specs.declared.state.Entry.TheVariants.{Folder}
use Rattle.inc_fs.specs.declared.state.File.{File}
use Rattle.inc_fs.specs.Lookups.{lookup_here}
use Rattle.inc_fs.specs.Points.{put_here}
use Rattle.inc_fs.specs.Readings.{bytes_of, folders_put}
use Rattle.inc_fs.specs.State.{State, Text, IsIn, text_cmp, folder_at, file_at, named, numbered, with_entry}
use Rattle.inc_fs.specs.Step.{Links, ListsDir}
use Rattle.inc_fs.specs.declared.op.Op.{Op}
use Rattle.inc_fs.specs.declared.op.Op.TheVariants.{ListDir, Link}
use Rattle.inc_fs.specs.declared.op.Reply.{Reply}
use Rattle.inc_fs.specs.declared.op.Reply.TheVariants.{Names, Done}
use Rattle.inc_names.specs.declared.session.SessionName.{SessionName}
use Rattle.inc_names.specs.declared.entry.Entry.TheVariants.{Final}
use Rattle.inc_names.specs.Entries.{final_text}
use Rattle.inc_names.specs.EntryLaws.{same_final_text, same_final_name}
use Rattle.inc_wire.specs.Forms.{job_hash_of}
use Rattle.inc_proto.specs.declared.event.Event.{Event}
use Rattle.inc_proto.specs.declared.event.Event.TheVariants.{Begin, Did, Left}
use Rattle.inc_proto.specs.Events.{Steps, own_steps, job_of}
use Rattle.inc_proto.specs.Files.{Files, IsSet}
use Rattle.inc_proto.specs.Finals.{Publication, entry_of, is_publishing, publication, published}
use Rattle.inc_proto.specs.Leads.{LeadsTo}
use Rattle.inc_proto.specs.LeadLaws.{leads_sound}
use Rattle.inc_proto.specs.Legal.{AreAllowed, IsLegal}
use Rattle.inc_proto.specs.LegalLaws.{legal_before}
use Rattle.inc_proto.specs.Permits.{MayLink}
use Rattle.inc_proto.specs.Views.{HasAny, dir, name}
use Rattle.inc_proto.proofs.Anys.{in_right}
use Rattle.inc_laws.specs.Loads.{IsLink, LinksHeld, HasLoad, WasGiven, GaveSet}
use Rattle.inc_laws.specs.Parts.{IsBytes, HoldsSet}
use Rattle.inc_laws.specs.Readings.{head_of, jobs_of, names_of, sites_of}
use Rattle.inc_laws.specs.Readings.Site.{Out}
use Rattle.inc_laws.proofs.InPlace.{some_same}
use Rattle.inc_laws.proofs.Lasting.{may_parts, laws_hold}
use Rattle.inc_laws.proofs.Newest.{published_outs, outs_published}
use Rattle.inc_laws.proofs.Own.{Owners, out_name, one_out}
use Rattle.inc_laws.proofs.Ranges.{hash_small}
use Rattle.inc_laws.proofs.Whole.{Ascend, set_keys, lookup_in, key_in, published_sorted, file_bytes}
use Rattle.inc_laws.proofs.Wraps.{number_is}

-- ---- Steps among a session's own, and their events.

module _ (P : Op × Reply → Type 0) where
  either_any : (xs ys : Steps) → HasAny P (xs ++ ys) → HasAny P xs ⊎ HasAny P ys
  either_any [] ys any = inr any
  either_any (x ∷ xs) ys (inl is) = inl (inl is)
  either_any (x ∷ xs) ys (inr any) = go (either_any xs ys any)
    where
      go : HasAny P xs ⊎ HasAny P ys → (P x ⊎ HasAny P xs) ⊎ HasAny P ys
      go (inl is) = inl (inr is)
      go (inr is) = inr is

  any_turned : (xs : Steps) → HasAny P (reverse xs) → HasAny P xs
  any_turned [] any = any
  any_turned (x ∷ xs) any = go (any_turned xs) (either_any (reverse xs) (x ∷ []) (subst (HasAny P) (reverse-append (x ∷ []) xs) any))
    where
      go : (HasAny P (reverse xs) → HasAny P xs) → HasAny P (reverse xs) ⊎ (P x ⊎ ⊥) → P x ⊎ HasAny P xs
      go ih (inl early) = inr (ih early)
      go ih (inr late) = elim late [
        | inl is ↦ inl is
        | inr never ↦ absurd never
      ]

  any_later : (xs ys : Steps) → HasAny P xs → HasAny P (xs ++ ys)
  any_later [] ys any = absurd any
  any_later (x ∷ xs) ys (inl is) = inl is
  any_later (x ∷ xs) ys (inr any) = inr (any_later xs ys any)

  any_earlier : (xs ys : Steps) → HasAny P ys → HasAny P (xs ++ ys)
  any_earlier [] ys any = any
  any_earlier (x ∷ xs) ys any = inr (any_earlier xs ys any)

  -- an own step is an event of the history
  abbrev IsEvent : ℕ → List Event → Type 0
  IsEvent who events = (later : List Event) × (earlier : List Event) × (op : Op) × (reply : Reply) × (events ≡ later ++ Did who op reply ∷ earlier) × P (op, reply)

  after : (who : ℕ) (event : Event) (events : List Event) → IsEvent who events → IsEvent who (event ∷ events)
  after who event events w = (event ∷ w.0, w.1, w.2, w.3, ap (λ es. event ∷ es) w.4, w.5)

  event_of : (who : ℕ) (events : List Event) → HasAny P (own_steps who events) → IsEvent who events
  event_of who [] any = absurd any
  event_of who (Begin number job ∷ events) any = go (event_of who events) (number == who) any
    where
      go : (HasAny P (own_steps who events) → IsEvent who events) → (b : Bool) → HasAny P (cond b [] (own_steps who events)) → IsEvent who (Begin number job ∷ events)
      go ih true any = absurd any
      go ih false any = after who (Begin number job) events (ih any)
  event_of who (Did number op reply ∷ events) any = go (event_of who events) (number == who) refl any
    where
      go : (HasAny P (own_steps who events) → IsEvent who events) → (b : Bool) → number == who ≡ b → HasAny P (cond b ((op, reply) ∷ own_steps who events) (own_steps who events)) → IsEvent who (Did number op reply ∷ events)
      go ih true same (inl is) = ([], events, op, reply, ap (λ n. Did n op reply ∷ events) (eqb-true number who same), is)
      go ih true same (inr any) = after who (Did number op reply) events (ih any)
      go ih false other any = after who (Did number op reply) events (ih any)
  event_of who (Left number op cut ∷ events) any = after who (Left number op cut) events (event_of who events any)

links_any : (krate from file : Text) (h : ℕ) (coming : Steps) → LinksHeld krate from file h coming → HasAny (IsLink krate from file) coming
links_any krate from file h [] held = absurd held
links_any krate from file h (step ∷ coming) (inl is) = inl is
links_any krate from file h (step ∷ coming) (inr rest) = inr (links_any krate from file h coming rest.1)

link_is : (krate from file : Text) (op : Op) (reply : Reply) → IsLink krate from file (op, reply) → (to : Text) × (op ≡ Link krate from to file) × (reply ≡ Done)
link_is krate from file (Link k f to x) Done is = (to, (λ i. Link (is.0 i) (is.1 i) to (is.2 i)), refl)
link_is krate from file op reply is = absurd is

-- ---- What was published stays so.

pub published_last : (later earlier : List Event) (made : Publication) → IsIn (published earlier) made → IsIn (published (later ++ earlier)) made
published_last [] earlier made within = within
published_last (Begin number job ∷ later) earlier made within = published_last later earlier made within
published_last (Left number op cut ∷ later) earlier made within = published_last later earlier made within
published_last (Did w op reply ∷ later) earlier made within = go (is_publishing (op, reply) (dir (own_steps w (later ++ earlier)))) (published_last later earlier made within)
  where
    go : (b : Bool) → IsIn (published (later ++ earlier)) made
        → IsIn (cond b (publication (name (own_steps w (later ++ earlier))) (job_of w (later ++ earlier)) ++ published (later ++ earlier)) (published (later ++ earlier))) made
    go true old = in_right (publication (name (own_steps w (later ++ earlier))) (job_of w (later ++ earlier))) (published (later ++ earlier)) made old
    go false old = old

-- one job at most was published under an entry of a crate
pub one_made : (files : Files) (events : List Event) (F : State) → LeadsTo events F → AreAllowed files events → (a b : Publication) → IsIn (published events) a → IsIn (published events) b
    → a.job.krate ≡ b.job.krate → entry_of a ≡ entry_of b → a.job ≡ b.job
one_made files events F leads allowed a b in_a in_b same_krate same_entry =
    let l = laws_hold files events F leads allowed in
    let o : Owners (jobs_of events) (names_of events) (sites_of events) F.drawn = record { own = l.own_names; once = l.names_once } in
    let v = published_outs files events F leads allowed a in_a in
    let w = published_outs files events F leads allowed b in_b in
    let its = out_name o w.0 b.job.krate (entry_of b) w.1 in
    let called : head_of (names_of events w.0) ≡ Some b.name = its.4 ∙ ap Some (sym (same_final_name b.name its.1 (job_hash_of b.job) (job_hash_of its.0) its.5)) in
    let one : v.0 ≡ w.0 = one_out o v.0 w.0 b.job.krate b.name (job_hash_of b.job) (v.1 ∙ (λ i. Out (same_krate i) (same_entry i))) called in
    some_same a.job b.job (sym v.2 ∙ ap (jobs_of events) one ∙ w.2)

-- a finalised directory that stands was published, and holds exactly its job's files
pub record StandsSet (files : Files) (events : List Event) (F : State) (krate : Text) (n : SessionName) (hash : ℕ) (folder : List (Text × ℕ)) : Type 0 where
  pub made : Publication
  pub within : IsIn (published events) made
  pub of_crate : made.job.krate ≡ krate
  pub entry : entry_of made ≡ final_text n hash
  pub set : List (Text × Text)
  pub of_job : IsSet files made.job set
  pub sorted : Ascend (keys_of set)
  pub keys : keys_of folder ≡ keys_of set
  pub holds : HoldsSet (bytes_of F) folder set

pub stands_set : (files : Files) (events : List Event) (F : State) → LeadsTo events F → AreAllowed files events → (krate : Text) (n : SessionName) (hash : ℕ) (folder : List (Text × ℕ))
    → folder_at F krate (final_text n hash) ≡ Some folder → StandsSet files events F krate n hash folder
stands_set files events F leads allowed krate n hash folder stands =
    let l = laws_hold files events F leads allowed in
    let o : Owners (jobs_of events) (names_of events) (sites_of events) F.drawn = record { own = l.own_names; once = l.names_once } in
    let w = l.wholes krate n hash folder stands in
    let p = outs_published files events F leads allowed w.0 krate (final_text n hash) w.3 in
    let v = published_outs files events F leads allowed p.0 p.1 in
    let its = out_name o v.0 p.0.job.krate (entry_of p.0) v.1 in
    let same_entry : final_text n hash ≡ final_text its.1 (job_hash_of its.0) = subst (λ text. text ≡ final_text its.1 (job_hash_of its.0)) p.3 its.5 in
    let called : head_of (names_of events v.0) ≡ Some n = its.4 ∙ ap Some (sym (same_final_name n its.1 hash (job_hash_of its.0) same_entry)) in
    let one : w.0 ≡ v.0 = one_out o w.0 v.0 krate n hash w.3 called in
    let same : w.1 ≡ p.0.job = some_same w.1 p.0.job (sym w.4 ∙ ap (jobs_of events) one ∙ v.2) in
    let of_made : IsSet files p.0.job w.2 = subst (λ job. IsSet files job w.2) same w.5 in
    let sorted = published_sorted files events F leads allowed p.0 p.1 w.2 of_made in
    record {
      made = p.0;
      within = p.1;
      of_crate = p.2;
      entry = p.3;
      set = w.2;
      of_job = of_made;
      sorted = sorted;
      keys = set_keys (bytes_of F) folder w.2 ((leads_sound events F leads).tidy.names krate (final_text n hash) folder stands) sorted w.6;
      holds = w.6;
    }

-- ---- What a link gives.

link_gives : (F G : State) (krate from to file bytes : Text) (set : List (Text × Text)) → Links F krate from to file Done G → lookup (is_at (text_cmp file)) set ≡ Some bytes
    → ((folder : List (Text × ℕ)) → folder_at F krate from ≡ Some folder → HoldsSet (bytes_of F) folder set) → option_map (λ (found : ℕ × File). found.1.bytes) (file_at G krate to file) ≡ Some bytes
link_gives F G krate from to file bytes set step at holds =
    let number = step.0 in
    let source = number_is (folder_at F krate from) file number step.2 in
    let more = Folder (insert_entry text_cmp step.1 file number) in
    let stands : folder_at (with_entry F krate to more) krate to ≡ Some (insert_entry text_cmp step.1 file number) = (λ i. folders_put F krate to more i krate to) ∙ put_here (folder_at F) krate to (Some (insert_entry text_cmp step.1 file number)) in
    ap (λ S. option_map (λ (found : ℕ × File). found.1.bytes) (file_at S krate to file)) step.5
    ∙ ap (λ o. option_map (λ (found : ℕ × File). found.1.bytes) (option_and_then (numbered (with_entry F krate to more)) (option_and_then (named file) o))) stands
    ∙ ap (λ o. option_map (λ (found : ℕ × File). found.1.bytes) (option_and_then (numbered (with_entry F krate to more)) o)) (lookup_here text_cmp nat_list_cmp_total step.1 file number)
    ∙ file_bytes F number
    ∙ (subst (λ o. IsBytes (bytes_of F) o (Some bytes)) source.2 (subst (IsBytes (bytes_of F) (named file source.0)) at (holds source.0 source.1 file))).1

-- ---- What was linked as a whole set.

module _ (files : Files) (events : List Event) (G : State) (leads : LeadsTo events G) (allowed : AreAllowed files events) (who : ℕ) (krate : Text) (n : SessionName) (hash : ℕ) where
  legal : IsLegal files events
  legal = record { state = G; leads = leads; allowed = allowed }

  before : (later : List Event) (op : Op) (reply : Reply) (earlier : List Event) → events ≡ later ++ Did who op reply ∷ earlier → IsLegal files (Did who op reply ∷ earlier)
  before later op reply earlier is = legal_before files later (Did who op reply ∷ earlier) (subst (IsLegal files) is legal)

  then_within : (later : List Event) (op : Op) (reply : Reply) (earlier : List Event) → events ≡ later ++ Did who op reply ∷ earlier → (made : Publication) → IsIn (published earlier) made → IsIn (published events) made
  then_within later op reply earlier is made within =
      subst (λ es. IsIn (published es) made) (sym is) (published_last later (Did who op reply ∷ earlier) made (published_last (Did who op reply ∷ []) earlier made within))

  -- when it was listed, that directory was published, and held the set of its job
  pub record Listed (names : List Text) : Type 0 where
    pub made : Publication
    pub within : IsIn (published events) made
    pub of_crate : made.job.krate ≡ krate
    pub entry : entry_of made ≡ final_text n hash
    pub set : List (Text × Text)
    pub of_job : IsSet files made.job set
    pub sorted : Ascend (keys_of set)
    pub keys : names ≡ keys_of set

  pub listed : (names : List Text) → HasAny (λ step. step ≡ (ListDir krate (final_text n hash), Names names)) (own_steps who events) → Listed names
  listed names any =
      let e = event_of (λ step. step ≡ (ListDir krate (final_text n hash), Names names)) who events any in
      at e.0 e.1 (e.4 ∙ (λ i. e.0 ++ Did who ((e.5 i).0) ((e.5 i).1) ∷ e.1))
    where
      at : (later earlier : List Event) → events ≡ later ++ Did who (ListDir krate (final_text n hash)) (Names names) ∷ earlier → Listed names
      at later earlier is =
          let b = before later (ListDir krate (final_text n hash)) (Names names) earlier is in
          let step : ListsDir b.leads.0 krate (final_text n hash) (Names names) b.state = b.leads.2 in
          let s = stands_set files earlier b.leads.0 b.leads.1 b.allowed.0 krate n hash step.0 step.1 in
          record {
            made = s.made;
            within = then_within later (ListDir krate (final_text n hash)) (Names names) earlier is s.made s.within;
            of_crate = s.of_crate;
            entry = s.entry;
            set = s.set;
            of_job = s.of_job;
            sorted = s.sorted;
            keys = step.2 ∙ s.keys;
          }

  given : (names : List Text) (l : Listed names) (file bytes : Text) → HasAny (IsLink krate (final_text n hash) file) (own_steps who events) → IsIn l.set (file, bytes)
      → WasGiven events who krate (final_text n hash) file bytes
  given names l file bytes any within =
      let e = event_of (IsLink krate (final_text n hash) file) who events any in
      let link = link_is krate (final_text n hash) file e.2 e.3 e.5 in
      at e.0 e.1 link.0 (e.4 ∙ (λ i. e.0 ++ Did who (link.1 i) (link.2 i) ∷ e.1))
    where
      at : (later earlier : List Event) (to : Text) → events ≡ later ++ Did who (Link krate (final_text n hash) to file) Done ∷ earlier → WasGiven events who krate (final_text n hash) file bytes
      at later earlier to is =
          let b = before later (Link krate (final_text n hash) to file) Done earlier is in
          let may = may_parts files earlier who (Link krate (final_text n hash) to file) b.allowed.1 in
          let its : MayLink (own_steps who earlier) krate (final_text n hash) to file = may.2 in
          record {
            later = later;
            earlier = earlier;
            to = to;
            is = is;
            files = its.0;
            own = its.5;
            has = λ S leads_on. link_gives leads_on.0 S krate (final_text n hash) to file bytes l.set leads_on.2 (lookup_in l.set file bytes l.sorted within)
                (λ folder stands.
                let s = stands_set files earlier leads_on.0 leads_on.1 b.allowed.0 krate n hash folder stands in
                let same : s.made.job ≡ l.made.job = one_made files events G leads allowed s.made l.made (then_within later (Link krate (final_text n hash) to file) Done earlier is s.made s.within) l.within
                (s.of_crate ∙ sym l.of_crate) (s.entry ∙ sym l.entry) in
                subst (HoldsSet (bytes_of leads_on.0) folder) (some_set s.set l.set (sym s.of_job ∙ ap files same ∙ l.of_job)) s.holds);
          }
        where
          some_set : (a b : List (Text × Text)) → Some a ≡ Some b → a ≡ b
          some_set a b same = cc

  pub gave : (names : List Text) → HasLoad krate n hash names (own_steps who events) → GaveSet files events who krate n hash names
  gave names load =
      let begins = load.begins in
      let l = listed names (subst (HasAny (λ step. step ≡ (ListDir krate (final_text n hash), Names names))) (sym load.is)
      (any_earlier (λ step. step ≡ (ListDir krate (final_text n hash), Names names)) load.later (load.step ∷ load.before)
      (inl (begins.lists ∙ (λ i. (ListDir krate (final_text n hash), Names (load.listed i))))))) in
      let same = same_final_text l.made.name n (job_hash_of l.made.job) hash (hash_small l.made.job) begins.named.1 l.entry in
      record {
        made = l.made;
        within = l.within;
        of_crate = l.of_crate;
        entry = (λ i. Final (same.0 i) (same.1 i));
        set = l.set;
        of_job = l.of_job;
        listed = l.keys;
        given = λ file bytes within. given names l file bytes (linked l file bytes within) within;
      }
    where
      linked : (l : Listed names) (file bytes : Text) → IsIn l.set (file, bytes) → HasAny (IsLink krate (final_text n hash) file) (own_steps who events)
      linked l file bytes within =
          let among : IsIn load.begins.names file = subst (λ ns. IsIn ns file) (sym (load.listed ∙ l.keys)) (key_in l.set file bytes within) in
          let coming = links_any krate (final_text n hash) file load.begins.handle (reverse load.later) (load.begins.linked file among) in
          subst (HasAny (IsLink krate (final_text n hash) file)) (sym load.is)
          (any_later (IsLink krate (final_text n hash) file) load.later (load.step ∷ load.before) (any_turned (IsLink krate (final_text n hash) file) load.later coming))
