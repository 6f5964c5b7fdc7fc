-- The diagnostics of items.
use Rattle.std.proofs.Common.{◌≡◌, ℕ, List, [], ◌∷◌, ◌++◌, map, refl, sym, ap, subst, ◌∙◌, arith, if◌then◌else◌}
use Rattle.std.specs.Prelude.{Option, Some, None}
use Rattle.std.specs.List.{AllByRecursion}
use Rattle.inc_wire.specs.Narrow.{read_back}
use Rattle.inc_query.specs.Plans.{Give, Plan, given}
use Rattle.inc_query.specs.declared.query.Query.{Query}
use Rattle.rs_tree.specs.declared.answers.Const.{Const as Value}
use Rattle.rs_tree.specs.declared.answers.Diag.{Diag}
use Rattle.rs_tree.specs.declared.answers.Found.{Found}
use Rattle.rs_tree.specs.declared.answers.Found.TheVariants as f
use Rattle.rs_tree.specs.declared.index.IndexItem.{IndexItem}
use Rattle.rs_tree.specs.declared.index.Sig.{Sig}
use Rattle.rs_tree.specs.declared.place.Place.{Place}
use Rattle.rs_tree.specs.declared.tree.Crate.{Crate}
use Rattle.rs_tree.specs.declared.tree.Path as path
use Rattle.rs_tree.specs.declared.tree.Placed.{Placed}
use Rattle.rs_tree.specs.Plain.{Definition, Const, Func, definition, plain_item}
use Rattle.rs_grammar.specs.Again.{ItemsParseAgain}
use Rattle.rs_grammar.specs.Tidy.{Distinct, NamesArePlain, TreesAreTidy, place_in}
use Rattle.rs_text.specs.Laws.{ParsedIs, TextIs}
use Rattle.rs_forms.specs.Fits.{FitsSig}
use Rattle.rs_forms.specs.Forms.{sig_form}
use Rattle.rs_forms.proofs.Readers.{forms_are_answered}
use Rattle.rs_answers.specs.Forms.{diags_form}
use Rattle.rs_lookup.specs.Places.{place_name}
use Rattle.rs_types.specs.Types.{sig_at}
use Rattle.rs_check.specs.Items.{body_wrongs, item_wrongs, lines}
use Rattle.rs_queries.specs.Built.{tree_index}
use Rattle.rs_queries.specs.Known.{answered, items_of, place_of, sig_of, sigs_of}
use Rattle.rs_plans.specs.Plans.{check_from, check_of, check_plan, is_constant, named_items, plan_of}
use Rattle.rs_plans.specs.Readings.{const_in, index_in, item_in, sig_in}
use Rattle.rs_plans.specs.Steps.{ask, ask_each, query, whole}
use Rattle.rs_plans.proofs.Fresh.{all_weaker}
use Rattle.plan_laws.specs.Agree.{Agrees}
use Rattle.plan_laws.specs.Texts.{HasCrate, HasItem}
use Rattle.plan_laws.specs.Whole.{FitsPlaced, HasItems}
use Rattle.plan_laws.proofs.Given.{AreRead, by_plan, given_ask, given_each, valued}
use Rattle.plan_laws.proofs.Index.{index_read, tidy_tree}
use Rattle.plan_laws.proofs.Items.{item_read, sig_given}
use Rattle.plan_laws.proofs.Lookups.{IsIn, IsItem, IsPlaced, at_split, found_placed, kind_fits, named_in, named_there, same_found, sig_there}
use Rattle.plan_laws.proofs.Wrong.{wrong_same}

-- ---- Reads of one place after the other, each of which has a value.

-- these places are read, and this is so of what is read of each
pub record AllRead {A : Type 0} (v : Query → List ℕ) (of : Place → Query) (read : Place → List ℕ → Option A) (R : Place → A → Type 0) (ps : List Place) : Type 0 where
  pub reads : List (Place × A)
  pub places : map (λ (x : Place × A). x.0) reads ≡ ps
  pub are : AreRead v of read reads
  pub so : AllByRecursion (λ (x : Place × A). R x.0 x.1) reads

pub all_read : {A : Type 0} (v : Query → List ℕ) (of : Place → Query) (read : Place → List ℕ → Option A) (R : Place → A → Type 0) (ps : List Place) → AllByRecursion (λ p. (a : A) × (read p (v (of p)) ≡ Some a) × R p a) ps
    → AllRead v of read R ps
all_read v of read R [] h = record { reads = []; places = refl; are = tt; so = tt }
all_read v of read R (p ∷ ps) h =
    let more = all_read v of read R ps h.1 in
    record { reads = (p, h.0.0) ∷ more.reads; places = ap (λ l. p ∷ l) more.places; are = (h.0.1, more.are); so = (h.0.2, more.so) }

pub given_reads : {A : Type 0} (v : Query → List ℕ) (of : Place → Query) (read : Place → List ℕ → Option A) (R : Place → A → Type 0) (ps : List Place) (more : List (Place × A) → Plan) (r : AllRead v of read R ps)
    → given v (ask_each of read ps more) ≡ given v (more r.reads)
given_reads v of read R ps more r = ap (λ l. given v (ask_each of read l more)) (sym r.places) ∙ given_each v of read r.reads more r.are

-- of a constant, the value that its query gives; of a function, any
abbrev pub IsKnown : (Query → List ℕ) → Place → Option Value → Definition path.Path → Type 0
IsKnown v at value (Const typ e) = (c : Value) × (value ≡ Some c) × (const_in (v (query 4 at)) ≡ Some c)
IsKnown v at value (Func inlined params gives stmts tail) = Unit {0}

-- ---- Signatures.

sig_back : (sig : Sig) → FitsSig sig → sig_in (sig_form sig) ≡ Some sig
unfolding sig_in
sig_back sig fits = read_back FitsSig sig_form sig (forms_are_answered.sig (sig_form sig)).0 fits (forms_are_answered.sig (sig_form sig)).1

module _ (krate : Crate) where
  -- the signature of an item, as the tree has it
  abbrev pub HasSig : Place → Sig → Type 0
  HasSig q sig = sig_at (place_name q) (sigs_of krate) ≡ Some sig

  -- where each named item's signature was read, the signatures agree with those of the tree
  agree : (reads : List (Place × Sig)) → AllByRecursion (λ (x : Place × Sig). HasSig x.0 x.1) reads → (b : Found) → IsIn (map (λ (x : Place × Sig). x.0) reads) b → Agrees reads (sigs_of krate) b
  agree reads h f.Local e = tt
  agree reads h (f.Item q) e = same_found (sigs_of krate) reads q e h
  agree reads h f.Private e = tt
  agree reads h f.Absent e = tt

  pub all_agree : (reads : List (Place × Sig)) (fs : List Found) → map (λ (x : Place × Sig). x.0) reads ≡ named_items fs → AllByRecursion (λ (x : Place × Sig). HasSig x.0 x.1) reads → AllByRecursion (Agrees reads (sigs_of krate)) fs
  all_agree reads fs places h = all_weaker (agree reads h) fs (subst (λ ps. AllByRecursion (IsIn ps) fs) (sym places) (named_in fs))

-- an item of the tree is in the ranges of its types
its : (ps : List Placed) (p : Placed) (before rest : List Placed) → ps ≡ before ++ p ∷ rest → AllByRecursion FitsPlaced ps → FitsPlaced p
its ps p before rest is h = at_split FitsPlaced before p rest (subst (AllByRecursion FitsPlaced) is h)

module _ (texts : TextIs) (plain : NamesArePlain) (trees : TreesAreTidy) (parses : ParsedIs) (again : ItemsParseAgain) (setting text : List ℕ) (krate : Crate) (has : HasCrate text krate) (whole_tree : HasItems krate) where
  abbrev v : Query → List ℕ
  v = valued setting text

  pub item_of : (p : Placed) (before rest : List Placed) → krate.items ≡ before ++ p ∷ rest → HasItem krate p
  item_of p before rest is = (let fits = its krate.items p before rest is whole_tree.each in record { before = before; rest = rest; is = is; tokens = fits.tokens; lexed = fits.lexed })

  pub sig_known : (q : Place) (is : IsPlaced krate.items (place_name q)) → HasSig krate q (sig_of (items_of krate) is.placed).1
  sig_known q is =
      let items = items_of krate in
      ap (λ n. sig_at n (sigs_of krate)) (sym is.at) ∙ ap (λ ps. sig_at (place_in is.placed) (map (sig_of items) ps)) is.is
      ∙ sig_there items is.before is.rest is.placed (subst (λ ps. Distinct (map place_in ps)) is.is (tidy_tree texts trees text krate has.is).items)

  -- it is read as the one that the tree has
  pub sig_of_item : (q : Place) (is : IsPlaced krate.items (place_name q)) → sig_in (v (query 3 q)) ≡ Some (sig_of (items_of krate) is.placed).1
  sig_of_item q is =
      let p = is.placed in
      let items = items_of krate in
      let fits = its krate.items p is.before is.rest is.is whole_tree.each in
      let at : place_of p ≡ q = ap (λ n. record { «module» = n.0; name = n.1 }) is.at in
      let ranges : FitsSig (sig_of items p).1 = record { kind = kind_fits items (place_of p) has.index.items.each; params = fits.params } in
      ap (λ q. sig_in (v (query 3 q))) (sym at) ∙ ap sig_in (sig_given texts trees setting text krate has p (item_of p is.before is.rest is.is) parses again) ∙ sig_back (sig_of items p).1 ranges

  sig_read : (q : Place) → IsItem (items_of krate) q → (sig : Sig) × (sig_in (v (query 3 q)) ≡ Some sig) × HasSig krate q sig
  sig_read q item = (let is = found_placed (place_name q) krate.items item.0 item.1 in ((sig_of (items_of krate) is.placed).1, sig_of_item q is, sig_known q is))

  -- ---- Diagnostics.

  module _ (p : Placed) (it : HasItem krate p) (value : Option Value) where
    abbrev items : List IndexItem
    items = items_of krate

    abbrev found : List Found
    found = (answered items p).1

    named : AllRead v (query 3) (λ q. sig_in) (HasSig krate) (named_items found)
    named = all_read v (query 3) (λ q. sig_in) (HasSig krate) (named_items found) (all_weaker sig_read (named_items found) (named_there items p.«module» (definition p.item.body)))

    -- the lines of what is wrong with an item of this body
    abbrev told : Definition path.Path → List (Place × Sig) → Option Value → List Diag
    told d sigs given = lines (body_wrongs items sigs p.«module» found given p.item.at p.item.name d)

    told_same : (d : Definition path.Path) (given : Option Value) → told d named.reads given ≡ told d (sigs_of krate) given
    told_same d given =
        ap lines (wrong_same items named.reads (sigs_of krate) p.«module» found given (record { public = p.item.public; name = p.item.name; at = p.item.at; tokens = p.item.tokens; body = d }) (all_agree krate named.reads found named.places named.so))

    by_body : (d : Definition path.Path) → IsKnown v (place_of p) value d
        → given v (if is_constant d then ask (query 4 (place_of p)) const_in (λ x. Give (diags_form (told d named.reads (Some x)))) else Give (diags_form (told d named.reads None))) ≡ diags_form (told d (sigs_of krate) value)
    by_body (Const typ e) known =
        given_ask v (query 4 (place_of p)) const_in (λ x. Give (diags_form (told (Const typ e) named.reads (Some x)))) known.0 known.2
        ∙ ap diags_form (told_same (Const typ e) (Some known.0)) ∙ ap (λ o. diags_form (told (Const typ e) (sigs_of krate) o)) (sym known.1)
    by_body (Func inlined params gives stmts tail) known = ap diags_form (told_same (Func inlined params gives stmts tail) None)

    planned : plan_of setting (query 5 (place_of p)) ≡ check_plan (query 5 (place_of p))
    unfolding plan_of
    planned = refl

    pub check_given : IsKnown v (place_of p) value (definition p.item.body) → v (query 5 (place_of p)) ≡ diags_form (lines (item_wrongs items (sigs_of krate) p.«module» found value (plain_item p.item)))
    check_given known =
        by_plan setting text (query 5 (place_of p)) (omega arith) ∙ ap (given v) planned
        ∙ given_ask v (query 2 (place_of p)) item_in (λ item. ask (whole 1) index_in (check_from (place_of p) item)) p.item (item_read texts trees setting text krate has p it parses again)
        ∙ given_ask v (whole 1) index_in (check_from (place_of p) p.item) (tree_index krate) (index_read plain texts trees setting text krate has)
        ∙ given_reads v (query 3) (λ q. sig_in) (HasSig krate) (named_items found) (check_of (place_of p) p.item (tree_index krate)) named
        ∙ by_body (definition p.item.body) known
