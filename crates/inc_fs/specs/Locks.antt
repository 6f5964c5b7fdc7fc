-- How a lock is held, before a handle gets it or is closed and after.
use Rattle.std.specs.Prelude.{◌≡◌, ◌≢◌, ◌==◌, ◌||◌, ◌++◌, ℕ, List, [], ◌∷◌, Bool, true, false, not, filter, cond, refl, Some, None, IsSome}
use Rattle.std.specs.List.{list_any}
use Rattle.std.proofs.Common.{ap, sym, ◌∙◌, eq-eqb}
use Rattle.std.proofs.Math.Bool.{or-true}
use Rattle.std.proofs.lemmas.Bool.{ne_eqb, eqb-true}
use Rattle.inc_fs.specs.declared.state.Lock.{Lock}
use Rattle.inc_fs.specs.declared.state.Lock.TheVariants.{Free, Shared, Exclusive}
use Rattle.inc_fs.specs.State.{is_excluded, others, locked, freed, shared_by}
use Rattle.inc_fs.specs.Readings.{held_in}

-- an exclusive lock is held by one handle
pub alone_in : (lock : Lock) (h g : ℕ) → held_in lock h ≡ Some true → IsSome (held_in lock g) → h ≡ g
alone_in Free h g e s = cc
alone_in (Shared holders) h g e s = absurd (go (list_any (λ other. other == h) holders) e)
  where
    go : (b : Bool) → cond b (Some false) None ≡ Some true → ⊥
    go true e = cc
    go false e = cc
alone_in (Exclusive holder) h g e s = sym (eqb-true holder h (yes (holder == h) e)) ∙ eqb-true holder g (some (holder == g) s)
  where
    yes : (b : Bool) → cond b (Some true) None ≡ Some true → b ≡ true
    yes true e = refl
    yes false e = cc

    some : (b : Bool) → IsSome (cond b (Some true) None) → b ≡ true
    some true e = refl
    some false e = cc

module _ (h g : ℕ) (apart : h ≢ g) where
  off : h == g ≡ false
  off = ne_eqb h g apart

  -- among the others and this one, another is found as before
  with_this : (holders : List ℕ) → list_any (λ other. other == g) (filter (λ other. not (other == h)) holders ++ h ∷ []) ≡ list_any (λ other. other == g) holders
  with_this [] = ap (λ b. b || false) off
  with_this (x ∷ holders) = go (with_this holders) (x == h) refl
    where
      go : list_any (λ other. other == g) (filter (λ other. not (other == h)) holders ++ h ∷ []) ≡ list_any (λ other. other == g) holders → (b : Bool) → x == h ≡ b
          → list_any (λ other. other == g) (cond (not b) (x ∷ filter (λ other. not (other == h)) holders) (filter (λ other. not (other == h)) holders) ++ h ∷ []) ≡ x == g || list_any (λ other. other == g) holders
      go ih true is = ih ∙ sym (ap (λ b. b || list_any (λ other. other == g) holders) (ne_eqb x g (λ q. apart (sym (eqb-true x h is) ∙ q))))
      go ih false is = ap (λ b. x == g || b) ih

  -- the others without this one
  without_this : (holders : List ℕ) → list_any (λ other. other == g) (filter (λ other. not (other == h)) holders) ≡ list_any (λ other. other == g) holders
  without_this [] = refl
  without_this (x ∷ holders) = go (without_this holders) (x == h) refl
    where
      go : list_any (λ other. other == g) (filter (λ other. not (other == h)) holders) ≡ list_any (λ other. other == g) holders → (b : Bool) → x == h ≡ b
          → list_any (λ other. other == g) (cond (not b) (x ∷ filter (λ other. not (other == h)) holders) (filter (λ other. not (other == h)) holders)) ≡ x == g || list_any (λ other. other == g) holders
      go ih true is = ih ∙ sym (ap (λ b. b || list_any (λ other. other == g) holders) (ne_eqb x g (λ q. apart (sym (eqb-true x h is) ∙ q))))
      go ih false is = ap (λ b. x == g || b) ih

  -- where no other handle holds it, this one doesn't
  none_other : (holders : List ℕ) → list_any (λ other. not (other == h)) holders ≡ false → list_any (λ other. other == g) holders ≡ false
  none_other [] e = refl
  none_other (x ∷ holders) e = go (none_other holders) (x == h) refl e
    where
      go : (list_any (λ other. not (other == h)) holders ≡ false → list_any (λ other. other == g) holders ≡ false) → (b : Bool) → x == h ≡ b
          → not b || list_any (λ other. not (other == h)) holders ≡ false → x == g || list_any (λ other. other == g) holders ≡ false
      go ih true is e = ap (λ b. b || list_any (λ other. other == g) holders) (ne_eqb x g (λ q. apart (sym (eqb-true x h is) ∙ q))) ∙ ih e
      go ih false is e = cc

  not_exclusive : (holder : ℕ) → not (holder == h) ≡ false → cond (holder == g) (Some true) None ≡ None
  not_exclusive holder e = go (holder == h) refl e
    where
      go : (b : Bool) → holder == h ≡ b → not b ≡ false → cond (holder == g) (Some true) None ≡ None
      go true is e = ap (λ b. cond b (Some true) None) (ne_eqb holder g (λ q. apart (sym (eqb-true holder h is) ∙ q)))
      go false is e = cc

  -- another handle holds as before what this one got
  pub locked_there : (lock : Lock) (exclusive : Bool) → is_excluded lock h exclusive ≡ false → held_in (locked lock h exclusive) g ≡ held_in lock g
  locked_there Free true e = ap (λ b. cond b (Some true) None) off
  locked_there Free false e = ap (λ b. cond (b || false) (Some false) None) off
  locked_there (Shared holders) true e = ap (λ b. cond b (Some true) None) off ∙ sym (ap (λ b. cond b (Some false) None) (none_other holders e))
  locked_there (Shared holders) false e = ap (λ b. cond b (Some false) None) (with_this holders)
  locked_there (Exclusive holder) true e = ap (λ b. cond b (Some true) None) off ∙ sym (not_exclusive holder e)
  locked_there (Exclusive holder) false e = ap (λ b. cond (b || false) (Some false) None) off ∙ sym (not_exclusive holder e)

  shared_in : (holders : List ℕ) → held_in (shared_by holders) g ≡ cond (list_any (λ other. other == g) holders) (Some false) None
  unfolding shared_by
  shared_in [] = refl
  shared_in (x ∷ holders) = refl

  -- another handle holds as before what this one freed
  pub freed_there : (lock : Lock) → held_in (freed lock h) g ≡ held_in lock g
  freed_there Free = refl
  freed_there (Shared holders) = shared_in (filter (λ other. not (other == h)) holders) ∙ ap (λ b. cond b (Some false) None) (without_this holders)
  freed_there (Exclusive holder) = go (holder == h) refl
    where
      go : (b : Bool) → holder == h ≡ b → held_in (cond b Free (Exclusive holder)) g ≡ cond (holder == g) (Some true) None
      go true is = sym (ap (λ b. cond b (Some true) None) (ne_eqb holder g (λ q. apart (sym (eqb-true holder h is) ∙ q))))
      go false is = refl

last_in : (h : ℕ) (holders : List ℕ) → list_any (λ other. other == h) (holders ++ h ∷ []) ≡ true
last_in h [] = ap (λ b. b || false) (eq-eqb h h refl)
last_in h (x ∷ holders) = ap (λ b. x == h || b) (last_in h holders) ∙ or-true (x == h)

-- the handle that got the lock holds it in this mode
pub locked_here : (lock : Lock) (h : ℕ) (exclusive : Bool) → held_in (locked lock h exclusive) h ≡ Some exclusive
locked_here lock h true = ap (λ b. cond b (Some true) None) (eq-eqb h h refl)
locked_here lock h false = ap (λ b. cond b (Some false) None) (last_in h (others lock h))

none_left : (h : ℕ) (holders : List ℕ) → list_any (λ other. other == h) (filter (λ other. not (other == h)) holders) ≡ false
none_left h [] = refl
none_left h (x ∷ holders) = go (none_left h holders) (x == h) refl
  where
    go : list_any (λ other. other == h) (filter (λ other. not (other == h)) holders) ≡ false → (b : Bool) → x == h ≡ b
        → list_any (λ other. other == h) (cond (not b) (x ∷ filter (λ other. not (other == h)) holders) (filter (λ other. not (other == h)) holders)) ≡ false
    go ih true is = ih
    go ih false is = ap (λ b. b || list_any (λ other. other == h) (filter (λ other. not (other == h)) holders)) is ∙ ih

-- how a lock that these handles hold shared is held
pub shared_is : (h : ℕ) (holders : List ℕ) → held_in (shared_by holders) h ≡ cond (list_any (λ other. other == h) holders) (Some false) None
unfolding shared_by
shared_is h [] = refl
shared_is h (x ∷ holders) = refl

-- the handle that was closed holds nothing
pub freed_here : (h : ℕ) (lock : Lock) → held_in (freed lock h) h ≡ None
freed_here h Free = refl
freed_here h (Shared holders) = shared_is h (filter (λ other. not (other == h)) holders) ∙ ap (λ b. cond b (Some false) None) (none_left h holders)
freed_here h (Exclusive holder) = go (holder == h) refl
  where
    go : (b : Bool) → holder == h ≡ b → held_in (cond b Free (Exclusive holder)) h ≡ None
    go true is = refl
    go false is = ap (λ b. cond b (Some true) None) is
