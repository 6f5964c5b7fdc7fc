-- What the end of a session does: its handles are gone, and what they held is free; the rest stays.
use Rattle.std.specs.Prelude.{◌≡◌, ◌≢◌, ◌==◌, ◌&&◌, ℕ, Bool, true, false, not, cond, filter, refl, Option, Some, None, IsSome, slice_get}
use Rattle.std.specs.List.{list_any}
use Rattle.std.specs.Option.{option_map}
use Rattle.std.specs.Map.{keys_of}
use Rattle.std.specs.Ordering.{nat_cmp}
use Rattle.std.specs.Cmp.{nat_cmp_total, eq_by_cmp_equiv}
use Rattle.std.proofs.Common.{ap, sym, ◌∙◌, eq-eqb}
use Rattle.std.proofs.lemmas.Bool.{ne_eqb, eqb-true, true≢false}
use Rattle.std.proofs.lemmas.Map.Entries.{option_filter, lookup-filter-values}
use Rattle.std.proofs.lemmas.Map.Keys.{IsDistinct-from_sorted}
use Rattle.std.proofs.lemmas.Map.Views.{any-filter_same}
use Rattle.std.proofs.lemmas.Option.{slice_get-map}
use Rattle.inc_fs.specs.declared.state.File.{File}
use Rattle.inc_fs.specs.declared.state.Handle.{Handle}
use Rattle.inc_fs.specs.declared.state.Lock.{Lock}
use Rattle.inc_fs.specs.declared.state.Lock.TheVariants.{Free, Shared, Exclusive}
use Rattle.inc_fs.specs.Locks.{shared_is}
use Rattle.inc_fs.specs.Readings.{bytes_of, locks_of, held_in, held_by}
use Rattle.inc_fs.specs.State.{State, opened_at, is_owner, is_whose, released, released_file, entry_at, end_of}
use Rattle.inc_fs.specs.Tidy.{IsTidy, sorted_kept}

-- the facts of an ending: other sessions' handles stay, no others do, they hold what they held, and what is held was
-- held before, by no handle of this session; entries and bytes stay
pub record Ended (who : ℕ) (F G : State) : Type 0 where
  pub kept : (h : ℕ) (o : Handle) → opened_at F h ≡ Some o → o.owner ≢ who → opened_at G h ≡ Some o
  pub only : (h : ℕ) (o : Handle) → opened_at G h ≡ Some o → (opened_at F h ≡ Some o) × (o.owner ≢ who)
  pub held : (f h : ℕ) (o : Handle) → opened_at F h ≡ Some o → o.owner ≢ who → held_by (locks_of G f) h ≡ held_by (locks_of F f) h
  pub freed : (f h : ℕ) → IsSome (held_by (locks_of G f) h) → IsSome (held_by (locks_of F f) h) × ((o : Handle) → opened_at F h ≡ Some o → o.owner ≢ who)
  pub entries : entry_at G ≡ entry_at F
  pub bytes : (f : ℕ) → bytes_of G f ≡ bytes_of F f

none_held : (w : Bool) → ◌≡◌ {A = Option Bool} None (cond w None None)
none_held true = refl
none_held false = refl

-- how a lock is held without what this session's handles hold
released_held : (F : State) (who : ℕ) (lock : Lock) (h : ℕ) → held_in (released F.handles who lock) h ≡ cond (is_whose F.handles who h) None (held_in lock h)
released_held F who Free h = none_held (is_whose F.handles who h)
released_held F who (Shared holders) h =
    shared_is h (filter (λ other. not (is_whose F.handles who other)) holders)
    ∙ ap (λ b. cond b (Some false) None) (any-filter_same (λ other. other == h) (λ other. not (is_whose F.handles who other)) (not (is_whose F.handles who h)) (λ k is. ap (λ k. not (is_whose F.handles who k)) (eqb-true k h is)) holders)
    ∙ go (is_whose F.handles who h) (list_any (λ other. other == h) holders)
  where
    go : (w a : Bool) → ◌≡◌ {A = Option Bool} (cond (not w && a) (Some false) None) (cond w None (cond a (Some false) None))
    go true a = refl
    go false a = refl
released_held F who (Exclusive holder) h = go (holder == h) refl (is_whose F.handles who holder) (is_whose F.handles who h) refl refl
  where
    go : (b : Bool) → holder == h ≡ b → (v w : Bool) → is_whose F.handles who holder ≡ v → is_whose F.handles who h ≡ w → held_in (cond v Free (Exclusive holder)) h ≡ cond w None (cond b (Some true) None)
    go true is true true p q = refl
    go true is true false p q = absurd (true≢false (sym p ∙ ap (is_whose F.handles who) (eqb-true holder h is) ∙ q))
    go true is false true p q = absurd (true≢false (sym q ∙ sym (ap (is_whose F.handles who) (eqb-true holder h is)) ∙ p))
    go true is false false p q = ap (λ b. cond b (Some true) None) is
    go false is true true p q = refl
    go false is true false p q = refl
    go false is false true p q = ap (λ b. cond b (Some true) None) is
    go false is false false p q = ap (λ b. cond b (Some true) None) is

-- and at a file's number
locks_ended : (F : State) (who f h : ℕ) → held_by (locks_of (end_of F who) f) h ≡ cond (is_whose F.handles who h) None (held_by (locks_of F f) h)
locks_ended F who f h = ap (λ o. held_by (option_map (λ (file : File). file.lock) o) h) (slice_get-map (released_file F.handles who) F.files f) ∙ go (slice_get F.files f)
  where
    go : (o : Option File) → held_by (option_map (λ (file : File). file.lock) (option_map (released_file F.handles who) o)) h ≡ cond (is_whose F.handles who h) None (held_by (option_map (λ (file : File). file.lock) o) h)
    go None = none_held (is_whose F.handles who h)
    go (Some file) = released_held F who file.lock h

-- the lies handles that are left
opened_ended : (F : State) (who : ℕ) → IsTidy F → (h : ℕ) → opened_at (end_of F who) h ≡ option_filter (λ o. not (o.owner == who)) (opened_at F h)
opened_ended F who t h = lookup-filter-values (eq_by_cmp_equiv nat_cmp_total) (λ (o : Handle). not (o.owner == who)) h F.handles (IsDistinct-from_sorted nat_cmp (keys_of F.handles) t.handles)

not_own : (F : State) (who h : ℕ) (o : Handle) → opened_at F h ≡ Some o → o.owner ≢ who → is_whose F.handles who h ≡ false
not_own F who h o lies off = ap (is_owner who) lies ∙ ne_eqb o.owner who off

pub end_facts : (F : State) (who : ℕ) → IsTidy F → Ended who F (end_of F who)
end_facts F who t = record {
  kept = λ h o lies off. opened_ended F who t h ∙ ap (option_filter (λ o. not (o.owner == who))) lies ∙ ap (λ b. cond (not b) (Some o) None) (ne_eqb o.owner who off);
  only = λ h o is. left h o (opened_at F h) refl (sym (opened_ended F who t h) ∙ is);
  held = λ f h o lies off. locks_ended F who f h ∙ ap (λ w. cond w None (held_by (locks_of F f) h)) (not_own F who h o lies off);
  freed = λ f h some. was f h (is_whose F.handles who h) refl (held_by (locks_of (end_of F who) f) h) (locks_ended F who f h) some;
  entries = refl;
  bytes = λ f. ap (option_map (λ (file : File). file.bytes)) (slice_get-map (released_file F.handles who) F.files f) ∙ same (slice_get F.files f);
}
  where
    left : (h : ℕ) (o : Handle) (x : Option Handle) → opened_at F h ≡ x → option_filter (λ o. not (o.owner == who)) x ≡ Some o → (opened_at F h ≡ Some o) × (o.owner ≢ who)
    left h o None lies is = cc
    left h o (Some p) lies is = go (p.owner == who) refl is
      where
        go : (b : Bool) → p.owner == who ≡ b → cond (not b) (Some p) None ≡ Some o → (opened_at F h ≡ Some o) × (o.owner ≢ who)
        go true own is = cc
        go false own is = (lies ∙ is, λ e. true≢false (sym (eq-eqb p.owner who (owner_is is ∙ e)) ∙ own))
          where
            owner_is : Some p ≡ Some o → p.owner ≡ o.owner
            owner_is is = cc

    was : (f h : ℕ) (w : Bool) → is_whose F.handles who h ≡ w → (x : Option Bool) → x ≡ cond (is_whose F.handles who h) None (held_by (locks_of F f) h) → IsSome x
        → IsSome (held_by (locks_of F f) h) × ((o : Handle) → opened_at F h ≡ Some o → o.owner ≢ who)
    was f h true own x is some = absurd (gone x (is ∙ ap (λ w. cond w None (held_by (locks_of F f) h)) own) some)
      where
        gone : (x : Option Bool) → x ≡ None → IsSome x → ⊥
        gone None is some = absurd cc
        gone (Some b) is some = absurd cc
    was f h false own x is some = (
      same_some x (held_by (locks_of F f) h) (is ∙ ap (λ w. cond w None (held_by (locks_of F f) h)) own) some,
      λ o lies e. true≢false (sym (eq-eqb o.owner who e) ∙ sym (ap (is_owner who) lies) ∙ own),
    )
      where
        same_some : (x y : Option Bool) → x ≡ y → IsSome x → IsSome y
        same_some x None is some = cc
        same_some x (Some b) is some = refl

    same : (o : Option File) → option_map (λ (file : File). file.bytes) (option_map (released_file F.handles who) o) ≡ option_map (λ (file : File). file.bytes) o
    same None = refl
    same (Some file) = refl

pub end_tidy : (F : State) (who : ℕ) → IsTidy F → IsTidy (end_of F who)
end_tidy F who t = record {
  entries = t.entries;
  names = t.names;
  handles = sorted_kept nat_cmp (λ pair. not (pair.1.owner == who)) F.handles t.handles;
  opened = λ h o is. t.opened h o ((end_facts F who t).only h o is).0;
  given = t.given;
  drawn = t.drawn;
}
