-- What is known of a directory's files as a set of names and bytes.
use Rattle.std.proofs.Common.{◌≡◌, Bool, true, false, cond, List, [], ◌∷◌, refl, ap, sym, ◌∙◌}
use Rattle.std.specs.Prelude.{Option, Some, None}
use Rattle.std.specs.Map.{lookup, set_value}
use Rattle.std.specs.BTreeMap.{insert_entry, is_at}
use Rattle.std.specs.Ordering.{is_eq, match_ordering}
use Rattle.std.specs.declared.cmp.Ordering.{Ordering}
use Rattle.std.specs.declared.cmp.Ordering.TheVariants.{Less, Equal, Greater}
use Rattle.std.specs.Cmp.{tied_itself}
use Rattle.std.specs.Cmp.Lexicographic.{nat_list_cmp_total}
use Rattle.inc_fs.specs.Paths.{Text, text_cmp}
use Rattle.inc_proto.specs.Permits.{complete, with_bytes}
use Rattle.inc_proto.specs.declared.own.Known.{Known}

-- a file that is known, before others that are
known_more : (x : Text) (k : Known) (b : Text) (files : List (Text × Known)) (set : List (Text × Text)) → k.bytes ≡ Some b → complete files ≡ Some set → complete ((x, k) ∷ files) ≡ Some ((x, b) ∷ set)
known_more x k b files set known is = ap (λ o. with_bytes x o (complete files)) known ∙ ap (λ o. with_bytes x (Some b) o) is

record Front (e : Text × Known) (es : List (Text × Known)) (set : List (Text × Text)) : Type 0 where
  bytes : Text
  rest : List (Text × Text)
  known : e.1.bytes ≡ Some bytes
  others : complete es ≡ Some rest
  is : set ≡ (e.0, bytes) ∷ rest

front : (e : Text × Known) (es : List (Text × Known)) (set : List (Text × Text)) → complete (e ∷ es) ≡ Some set → Front e es set
front e es set is = go e.1.bytes refl (complete es) refl is
  where
    go : (o : Option Text) → e.1.bytes ≡ o → (p : Option (List (Text × Text))) → complete es ≡ p → with_bytes e.0 o p ≡ Some set → Front e es set
    go None a p b h = absurd (cc)
    go (Some bytes) a None b h = absurd (cc)
    go (Some bytes) a (Some rest) b h = record { bytes = bytes; rest = rest; known = a; others = b; is = cc }

-- a file that is made
pub complete_put : (files : List (Text × Known)) (set : List (Text × Text)) (x : Text) (k : Known) (b : Text) → k.bytes ≡ Some b → complete files ≡ Some set
    → complete (insert_entry text_cmp files x k) ≡ Some (insert_entry text_cmp set x b)
complete_put [] set x k b known is = known_more x k b [] [] known refl ∙ ap (λ (s : List (Text × Text)). Some (insert_entry text_cmp s x b)) (let none : [] ≡ set = cc in none)
complete_put (e ∷ es) set x k b known is =
    let f = front e es set is in
    go f (text_cmp x e.0) refl (complete_put es f.rest x k b known f.others)
  where
    put : (f : Front e es set) (r : Ordering) → text_cmp x e.0 ≡ r → match_ordering r ((x, b) ∷ (e.0, f.bytes) ∷ f.rest) ((e.0, b) ∷ f.rest) ((e.0, f.bytes) ∷ insert_entry text_cmp f.rest x b) ≡ insert_entry text_cmp set x b
    put f r same = ap (λ r. match_ordering r ((x, b) ∷ (e.0, f.bytes) ∷ f.rest) ((e.0, b) ∷ f.rest) ((e.0, f.bytes) ∷ insert_entry text_cmp f.rest x b)) (sym same) ∙ ap (λ set. insert_entry text_cmp set x b) (sym f.is)

    go : (f : Front e es set) (r : Ordering) → text_cmp x e.0 ≡ r → complete (insert_entry text_cmp es x k) ≡ Some (insert_entry text_cmp f.rest x b)
        → complete (match_ordering r ((x, k) ∷ e ∷ es) ((e.0, k) ∷ es) (e ∷ insert_entry text_cmp es x k)) ≡ Some (insert_entry text_cmp set x b)
    go f Less same later = known_more x k b (e ∷ es) ((e.0, f.bytes) ∷ f.rest) known (known_more e.0 e.1 f.bytes es f.rest f.known f.others) ∙ ap Some (put f Less same)
    go f Equal same later = known_more e.0 k b es f.rest known f.others ∙ ap Some (put f Equal same)
    go f Greater same later = known_more e.0 e.1 f.bytes (insert_entry text_cmp es x k) (insert_entry text_cmp f.rest x b) f.known later ∙ ap Some (put f Greater same)

-- one whose bytes change
pub complete_set : (test : Text → Bool) (files : List (Text × Known)) (set : List (Text × Text)) (k : Known) (b : Text) → k.bytes ≡ Some b → complete files ≡ Some set
    → complete (set_value test files k) ≡ Some (set_value test set b)
complete_set test [] set k b known is = let none : [] ≡ set = cc in ap (λ (s : List (Text × Text)). Some (set_value test s b)) none
complete_set test (e ∷ es) set k b known is =
    let f = front e es set is in
    go f (test e.0) refl (complete_set test es f.rest k b known f.others)
  where
    with_set : (f : Front e es set) (t : Bool) → test e.0 ≡ t → cond t ((e.0, b) ∷ f.rest) ((e.0, f.bytes) ∷ set_value test f.rest b) ≡ set_value test set b
    with_set f t same = ap (λ t. cond t ((e.0, b) ∷ f.rest) ((e.0, f.bytes) ∷ set_value test f.rest b)) (sym same) ∙ ap (λ set. set_value test set b) (sym f.is)

    go : (f : Front e es set) (t : Bool) → test e.0 ≡ t → complete (set_value test es k) ≡ Some (set_value test f.rest b) → complete (cond t ((e.0, k) ∷ es) (e ∷ set_value test es k)) ≡ Some (set_value test set b)
    go f true same later = known_more e.0 k b es f.rest known f.others ∙ ap Some (with_set f true same)
    go f false same later = known_more e.0 e.1 f.bytes (set_value test es k) (set_value test f.rest b) f.known later ∙ ap Some (with_set f false same)

-- what was put and is changed was put so at once
pub set_put : (set : List (Text × Text)) (x a b : Text) → set_value (is_at (text_cmp x)) (insert_entry text_cmp set x a) b ≡ insert_entry text_cmp set x b
set_put [] x a b = ap (λ r. cond (is_eq r) ((x, b) ∷ []) ((x, a) ∷ [])) (tied_itself nat_list_cmp_total x)
set_put (e ∷ es) x a b = go (text_cmp x e.0) refl (set_put es x a b)
  where
    go : (r : Ordering) → text_cmp x e.0 ≡ r → set_value (is_at (text_cmp x)) (insert_entry text_cmp es x a) b ≡ insert_entry text_cmp es x b
        → set_value (is_at (text_cmp x)) (match_ordering r ((x, a) ∷ e ∷ es) ((e.0, a) ∷ es) (e ∷ insert_entry text_cmp es x a)) b ≡ match_ordering r ((x, b) ∷ e ∷ es) ((e.0, b) ∷ es) (e ∷ insert_entry text_cmp es x b)
    go Less same later = ap (λ r. cond (is_eq r) ((x, b) ∷ e ∷ es) ((x, a) ∷ set_value (is_at (text_cmp x)) (e ∷ es) b)) (tied_itself nat_list_cmp_total x)
    go Equal same later = ap (λ r. cond (is_eq r) ((e.0, b) ∷ es) ((e.0, a) ∷ set_value (is_at (text_cmp x)) es b)) same
    go Greater same later = ap (λ r. cond (is_eq r) ((e.0, b) ∷ insert_entry text_cmp es x a) (e ∷ set_value (is_at (text_cmp x)) (insert_entry text_cmp es x a) b)) same ∙ ap (λ es. e ∷ es) later

-- and is found so
pub found_set : (test : Text → Bool) (files : List (Text × Known)) (k other : Known) → lookup test files ≡ Some other → lookup test (set_value test files k) ≡ Some k
found_set test [] k other is = absurd (cc)
found_set test (e ∷ es) k other is = go (test e.0) refl is (found_set test es k other)
  where
    go : (t : Bool) → test e.0 ≡ t → cond t (Some e.1) (lookup test es) ≡ Some other → (lookup test es ≡ Some other → lookup test (set_value test es k) ≡ Some k)
        → lookup test (cond t ((e.0, k) ∷ es) (e ∷ set_value test es k)) ≡ Some k
    go true same is later = ap (λ t. cond t (Some k) (lookup test es)) same
    go false same is later = ap (λ t. cond t (Some e.1) (lookup test (set_value test es k))) same ∙ later is

-- what a set lacks the directory lacks
pub lacks : (files : List (Text × Known)) (set : List (Text × Text)) (x : Text) → complete files ≡ Some set → lookup (is_at (text_cmp x)) set ≡ None → lookup (is_at (text_cmp x)) files ≡ None
lacks [] set x is none = refl
lacks (e ∷ es) set x is none =
    let f = front e es set is in
    go f (is_eq (text_cmp x e.0)) refl (lacks es f.rest x f.others)
  where
    at : (f : Front e es set) (b : Bool) → is_eq (text_cmp x e.0) ≡ b → cond b (Some f.bytes) (lookup (is_at (text_cmp x)) f.rest) ≡ None
    at f b same = ap (λ b. cond b (Some f.bytes) (lookup (is_at (text_cmp x)) f.rest)) (sym same) ∙ ap (λ set. lookup (is_at (text_cmp x)) set) (sym f.is) ∙ none

    go : (f : Front e es set) (b : Bool) → is_eq (text_cmp x e.0) ≡ b → (lookup (is_at (text_cmp x)) f.rest ≡ None → lookup (is_at (text_cmp x)) es ≡ None) → cond b (Some e.1) (lookup (is_at (text_cmp x)) es) ≡ None
    go f true same rest = let gone = at f true same in absurd (cc)
    go f false same rest = rest (at f false same)
