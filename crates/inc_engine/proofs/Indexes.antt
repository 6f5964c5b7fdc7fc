-- The index of a memo.
use Rattle.std.proofs.Common.{◌≡◌, ◌≢◌, ℕ, ◌<◌, ◌+◌, zero, suc, ◌⊎◌, inl, inr, List, [], ◌∷◌, ◌++◌, length, refl, sym, ◌∙◌, ap, subst, arith, length-append, get_or, take, true, false, Bool}
use Rattle.std.specs.Prelude.{Option, Some, None, IfSome, IfNone}
use Rattle.std.specs.List.{All}
use Rattle.std.specs.BTreeMap.{BTreeMap, get, is_at, Updates}
use Rattle.std.specs.Map.{lookup}
use Rattle.std.proofs.lemmas.Cmp.{eq_by_cmp_equiv}
use Rattle.std.proofs.lemmas.Map.Views.{tells_apart}
use Rattle.std.proofs.Math.ListN.{get_or-append}
use Rattle.std.proofs.Math.Seq.{get_or-append_seam}
use Rattle.inc_query.specs.Queries.{query_cmp}
use Rattle.inc_query.specs.QueryLaws.{queries_total, exact_queries}
use Rattle.inc_query.specs.declared.query.Query.{Query}
use Rattle.inc_engine.specs.Marking.{IsAt}
use Rattle.inc_engine.specs.Index.{Indexed}
use Rattle.inc_engine.specs.declared.done.Done.{Done}

pub looked-found : {index : BTreeMap Query ℕ} {memo : List Done} (q : Query) (r : Option ℕ) → Indexed index memo → r ≡ get query_cmp index q → IfSome r (λ i. IsAt memo i q)
looked-found q None h e = tt
looked-found q (Some i) h e = h.found q i (sym e)

pub looked-none : {index : BTreeMap Query ℕ} {memo : List Done} (q : Query) (r : Option ℕ) → Indexed index memo → r ≡ get query_cmp index q → IfNone r (All (λ d. d.query ≢ q) memo)
looked-none {index} {memo} q None h e = λ i d l same.
    (let there : get query_cmp index q ≡ Some i = subst (λ r. get query_cmp index r ≡ Some i) same (h.all i d l) in
    absurd (let bad : None ≡ Some i = e ∙ there in cc))
looked-none q (Some i) h e = tt

same_or_not : (a b : Query) → (a ≡ b) ⊎ (is_at (query_cmp a) b ≡ false)
same_or_not a b = split (is_at (query_cmp a) b) refl
  where
    split : (t : Bool) → is_at (query_cmp a) b ≡ t → (a ≡ b) ⊎ (is_at (query_cmp a) b ≡ false)
    split true e = inl (tells_apart exact_queries a b e)
    split false e = inr e

-- one more entry
pub indexed-push : {index new : BTreeMap Query ℕ} {memo : List Done} (d : Done) → Indexed index memo → Updates query_cmp index new d.query (Some (length memo)) → All (λ (x : Done). x.query ≢ d.query) memo → Indexed new (memo ++ d ∷ [])
indexed-push {index} {new} {memo} d h updates fresh = record {
  found = λ q i e. found q i e (same_or_not d.query q);
  all = λ i x l. all i x l (same_or_not d.query (get_or (memo ++ d ∷ []) i x).query);
}
  where
    long : length (memo ++ d ∷ []) ≡ length memo + 1
    long = length-append memo (d ∷ [])

    mine : get query_cmp new d.query ≡ Some (length memo)
    mine = updates.1

    found : (q : Query) (i : ℕ) → get query_cmp new q ≡ Some i → (d.query ≡ q) ⊎ (is_at (query_cmp d.query) q ≡ false) → IsAt (memo ++ d ∷ []) i q
    found q i e (inl same) =
        let both : Some (length memo) ≡ Some i = sym mine ∙ ap (get query_cmp new) same ∙ e in
        let there : length memo ≡ i = cc in
        subst (λ k. IsAt (memo ++ d ∷ []) k q) there (omega (arith, long), λ x. ap (λ (y : Done). y.query) (get_or-append_seam memo d [] x) ∙ same)
    found q i e (inr other) =
        let was = h.found q i (sym (updates.2 q other) ∙ e) in
        (omega (arith, long, was.0), λ x. ap (λ (y : Done). y.query) (get_or-append memo (d ∷ []) x i was.0) ∙ was.1 x)

    itself_not : {q : Query} → q ≡ d.query → is_at (query_cmp d.query) q ≡ false → ⊥
    itself_not {q} e apart = (let yes_is : is_at (query_cmp d.query) d.query ≡ true = (eq_by_cmp_equiv queries_total).refl d.query in let not_is : is_at (query_cmp d.query) d.query ≡ false = subst (λ r. is_at (query_cmp d.query) r ≡ false) e apart in let bad : true ≡ false = sym yes_is ∙ not_is in cc)

    last : (i n : ℕ) → i < n + 1 → (i < n) ⊎ (i ≡ n)
    last zero zero l = inr refl
    last zero (suc n) l = inl (omega arith)
    last (suc i) zero l = absurd (omega arith)
    last (suc i) (suc n) l = elim (last i n (omega arith)) [ inl h ↦ inl (omega arith) | inr e ↦ inr (ap suc e) ]

    at_end : (i : ℕ) (x : Done) → d.query ≡ (get_or (memo ++ d ∷ []) i x).query → (i < length memo) ⊎ (i ≡ length memo) → get query_cmp new (get_or (memo ++ d ∷ []) i x).query ≡ Some i
    at_end i x same (inl l) = absurd (fresh i x l (sym (ap (λ (y : Done). y.query) (get_or-append memo (d ∷ []) x i l)) ∙ sym same))
    at_end i x same (inr e) = ap (get query_cmp new) (sym same) ∙ mine ∙ ap (λ (k : ℕ). Some k) (sym e)

    before : (i : ℕ) (x : Done) → is_at (query_cmp d.query) (get_or (memo ++ d ∷ []) i x).query ≡ false → (i < length memo) ⊎ (i ≡ length memo) → get query_cmp new (get_or (memo ++ d ∷ []) i x).query ≡ Some i
    before i x other (inl l) = updates.2 _ other ∙ ap (λ (y : Done). get query_cmp index y.query) (get_or-append memo (d ∷ []) x i l) ∙ h.all i x l
    before i x other (inr e) = absurd (itself_not (ap (λ k. (get_or (memo ++ d ∷ []) k x).query) e ∙ ap (λ (y : Done). y.query) (get_or-append_seam memo d [] x)) other)

    all : (i : ℕ) (x : Done) → i < length (memo ++ d ∷ []) → (d.query ≡ (get_or (memo ++ d ∷ []) i x).query) ⊎ (is_at (query_cmp d.query) (get_or (memo ++ d ∷ []) i x).query ≡ false) → get query_cmp new (get_or (memo ++ d ∷ []) i x).query ≡ Some i
    all i x l (inl same) = at_end i x same (last i (length memo) (omega (arith, long)))
    all i x l (inr other) = before i x other (last i (length memo) (omega (arith, long)))

-- what `enter` leaves where there is room
pub entered : {index new : BTreeMap Query ℕ} {items : List Done} (memo : List Done) (d : Done) (key : Query) (place : ℕ) → Indexed index memo → key ≡ d.query → place ≡ length memo → place < 4294967295 → Updates query_cmp index new key (Some place) → All (λ (x : Done). x.query ≢ d.query) memo → items ≡ memo ++ d ∷ [] → (length items < 4294967296) × Indexed new items
entered {index} {new} {items} memo d key place h e f room updates fresh g =
    let numbered : Updates query_cmp index new key (Some (length memo)) = subst (λ n. Updates query_cmp index new key (Some n)) f updates in
    let named : Updates query_cmp index new d.query (Some (length memo)) = subst (λ k. Updates query_cmp index new k (Some (length memo))) e numbered in
    let long : length items ≡ length memo + 1 = ap length g ∙ length-append memo (d ∷ []) in
    (omega (arith, long, room, f), subst (Indexed new) (sym g) (indexed-push d h named fresh))

take-front : (xs ys : List Done) → take (length xs) (xs ++ ys) ≡ xs
take-front [] ys = refl
take-front (x ∷ xs) ys = ap (λ r. x ∷ r) (take-front xs ys)

-- an index with the same entries
indexed-same : {index new : BTreeMap Query ℕ} {memo : List Done} → Indexed index memo → new.entries ≡ index.entries → Indexed new memo
indexed-same {index} {new} {memo} h same = record { found = λ q i e. h.found q i (sym (gets q) ∙ e); all = λ i d l. gets _ ∙ h.all i d l }
  where
    gets : (q : Query) → get query_cmp new q ≡ get query_cmp index q
    gets q = ap (λ es. lookup (is_at (query_cmp q)) es) same

-- and where there is none
pub left-out : {index new : BTreeMap Query ℕ} {items whole : List Done} (memo : List Done) (d : Done) (place : ℕ) → Indexed index memo → place ≡ length memo → place < 4294967295 → new.entries ≡ index.entries → whole ≡ memo ++ d ∷ [] → items ≡ take place whole → (length items < 4294967296) × Indexed new items
left-out {index} {new} {items} {whole} memo d place h f room same g cut =
    let back : items ≡ memo = cut ∙ ap (λ n. take n whole) f ∙ ap (take (length memo)) g ∙ take-front memo (d ∷ []) in
    (let long = ap length back in omega (arith, long, room, f), subst (Indexed new) (sym back) (indexed-same h same))
