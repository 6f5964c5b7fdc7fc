-- What follows from plans: how reads are made one after the other, and the law of reads.
use Rattle.std.proofs.Common.{◌≡◌, ◌≢◌, ℕ, zero, suc, ◌<◌, ◌≤◌, inl, inr, List, [], ◌∷◌, ◌++◌, take, drop, if◌then◌else◌, refl, sym, ◌∙◌, ap, subst, arith}
use Rattle.std.specs.List.{AllByRecursion}
use Rattle.std.proofs.lemmas.Bool.{false_from_ne_true}
use Rattle.std.proofs.lemmas.Bool.Decides.{Decides-eqb}
use Rattle.inc_query.specs.Plans.{Known, Plan, Give, Need, follow, Asked, made_of, IsRead, ReadsFit, given, reads_by, doing, value_to, denote, reads_of}
use Rattle.inc_query.specs.Laws.{NextAgrees, LawOfReads}
use Rattle.inc_query.specs.declared.query.Query.{Query}
use Rattle.inc_query.specs.declared.answer.Answer.TheVariants.{Read, Value}

-- one more read
pub asked-push : (known : Known) (p : Plan) (r : Query) (w : List ℕ) → Asked known p → follow p known ≡ Read r → Asked (known ++ (r, w) ∷ []) p
asked-push [] (Give v) r w h e = absurd (cc)
asked-push [] (Need q k) r w h e = (let same : q ≡ r = cc in sym same, tt)
asked-push (x ∷ xs) (Give v) r w h e = absurd h
asked-push (x ∷ xs) (Need q k) r w h e = (h.0, asked-push xs (k x.1) r w h.1 e)

-- the next read is one that the plan may have, and none of those before
pub read-fits : (q : Query) (made : List Query) (known : Known) (p : Plan) (r : Query) → ReadsFit q made p → Asked known p → follow p known ≡ Read r → IsRead q made r × AllByRecursion (λ m. m ≢ r) (made_of known)
read-fits q made [] (Give w) r fit h e = absurd (cc)
read-fits q made [] (Need s k) r fit h e = (let same : s ≡ r = cc in subst (IsRead q made) same fit.0, tt)
read-fits q made (x ∷ xs) (Give w) r fit h e = absurd h
read-fits q made (x ∷ xs) (Need s k) r fit h e =
    let more = read-fits q (s ∷ made) xs (k x.1) r (fit.1 x.1) h.1 e in
    (record { lower = more.0.lower; new = more.0.new.1; form = more.0.form }, (λ same. more.0.new.0 (sym h.0 ∙ same), more.1))

-- the next read is the next of the plan's reads
pub read-next : (v : Query → List ℕ) (known : Known) (p : Plan) (r : Query) → Asked known p → AllByRecursion (λ x. x.1 ≡ v x.0) known → follow p known ≡ Read r → (rest : List Query) × (reads_by v p ≡ made_of known ++ r ∷ rest)
read-next v [] (Give u) r h a e = absurd (cc)
read-next v [] (Need s k) r h a e = (reads_by v (k (v s)), (let same : s ≡ r = cc in ap (λ t. t ∷ reads_by v (k (v s))) same))
read-next v (x ∷ xs) (Give u) r h a e = absurd h
read-next v (x ∷ xs) (Need s k) r h a e =
    let same : x.1 ≡ v s = a.0 ∙ ap v h.0 in
    let more = read-next v xs (k x.1) r h.1 a.1 e in
    (more.0, ap (λ t. s ∷ reads_by v (k t)) (sym same) ∙ ap (λ l. s ∷ l) more.1 ∙ ap (λ t. t ∷ (made_of xs ++ r ∷ more.0)) (sym h.0))

-- the value is that of the plan, and the reads were its reads
pub value-done : (v : Query → List ℕ) (known : Known) (p : Plan) (w : List ℕ) → Asked known p → AllByRecursion (λ x. x.1 ≡ v x.0) known → follow p known ≡ Value w → (given v p ≡ w) × (reads_by v p ≡ made_of known)
value-done v [] (Give u) w h a e = (let same : u ≡ w = cc in same, refl)
value-done v [] (Need s k) w h a e = absurd (cc)
value-done v (x ∷ xs) (Give u) w h a e = absurd h
value-done v (x ∷ xs) (Need s k) w h a e =
    let same : x.1 ≡ v s = a.0 ∙ ap v h.0 in
    let more = value-done v xs (k x.1) w h.1 a.1 e in (
      ap (λ t. given v (k t)) (sym same) ∙ more.0,
      ap (λ t. s ∷ reads_by v (k t)) (sym same) ∙ ap (λ l. s ∷ l) more.1 ∙ ap (λ t. t ∷ made_of xs) (sym h.0),
    )

-- reads with equal values lead to the same reads and the same value
pub agree-all : (v0 v1 : Query → List ℕ) (p : Plan) → AllByRecursion (λ r. v0 r ≡ v1 r) (reads_by v0 p) → (reads_by v0 p ≡ reads_by v1 p) × (given v0 p ≡ given v1 p)
agree-all v0 v1 (Give w) a = (refl, refl)
agree-all v0 v1 (Need r k) a =
    let more = agree-all v0 v1 (k (v0 r)) a.1 in
    (ap (λ l. r ∷ l) more.0 ∙ ap (λ t. r ∷ reads_by v1 (k t)) a.0, more.1 ∙ ap (λ t. given v1 (k t)) a.0)

-- the reads begin alike as far as they agree, and one further
pub agree-prefix : (v0 v1 : Query → List ℕ) (p : Plan) (xs : List Query) (r : Query) (ys : List Query) → reads_by v0 p ≡ xs ++ r ∷ ys → AllByRecursion (λ q. v0 q ≡ v1 q) xs → (zs : List Query) × (reads_by v1 p ≡ xs ++ r ∷ zs)
agree-prefix v0 v1 (Give w) [] r ys e a = absurd (cc)
agree-prefix v0 v1 (Give w) (x ∷ xs) r ys e a = absurd (cc)
agree-prefix v0 v1 (Need q k) [] r ys e a = (reads_by v1 (k (v1 q)), (let same : q ≡ r = cc in ap (λ t. t ∷ reads_by v1 (k (v1 q))) same))
agree-prefix v0 v1 (Need q k) (x ∷ xs) r ys e a =
    let same : q ≡ x = cc in
    let tail : reads_by v0 (k (v0 q)) ≡ xs ++ r ∷ ys = cc in
    let equal : v0 q ≡ v1 q = ap v0 same ∙ a.0 ∙ ap v1 (sym same) in
    let more = agree-prefix v0 v1 (k (v0 q)) xs r ys tail a.1 in
    (more.0, ap (λ t. q ∷ reads_by v1 (k t)) (sym equal) ∙ ap (λ l. q ∷ l) more.1 ∙ ap (λ t. t ∷ (xs ++ r ∷ more.0)) same)

agree-first : (v0 v1 : Query → List ℕ) (p : Plan) (k : ℕ) → AllByRecursion (λ r. v0 r ≡ v1 r) (take k (reads_by v0 p)) → take k (reads_by v0 p) ≡ take k (reads_by v1 p)
agree-first v0 v1 (Give w) k a = refl
agree-first v0 v1 (Need r f) zero a = refl
agree-first v0 v1 (Need r f) (suc k) a = ap (λ l. r ∷ l) (agree-first v0 v1 (f (v0 r)) k a.1) ∙ ap (λ t. r ∷ take k (reads_by v1 (f t))) a.0

agree-next : (v0 v1 : Query → List ℕ) (p : Plan) (k : ℕ) → AllByRecursion (λ r. v0 r ≡ v1 r) (take k (reads_by v0 p)) → NextAgrees (drop k (reads_by v0 p)) (drop k (reads_by v1 p)) (given v0 p) (given v1 p)
agree-next v0 v1 (Give w) zero a = inr (refl, refl, refl)
agree-next v0 v1 (Give w) (suc k) a = inr (refl, refl, refl)
agree-next v0 v1 (Need r f) zero a = inl (r, reads_by v0 (f (v0 r)), reads_by v1 (f (v1 r)), refl, refl)
agree-next v0 v1 (Need r f) (suc k) a =
    let Agrees : List ℕ → Type 0 = λ t. NextAgrees (drop k (reads_by v0 (f (v0 r)))) (drop k (reads_by v1 (f t))) (given v0 (f (v0 r))) (given v1 (f t)) in
    subst Agrees a.0 (agree-next v0 v1 (f (v0 r)) k a.1)

-- what is done for a query
pub doing-zero : (plan : Query → Plan) (input : List ℕ) (q : Query) → q.kind ≡ 0 → doing plan input q ≡ Give input
unfolding doing
doing-zero plan input q e = ap (λ t. if t then Give input else plan q) ((Decides-eqb q.kind 0).1 e)

pub doing-above : (plan : Query → Plan) (input : List ℕ) (q : Query) → 0 < q.kind → doing plan input q ≡ plan q
unfolding doing
doing-above plan input q l = ap (λ t. if t then Give input else plan q) (false_from_ne_true _ (λ t. let z = (Decides-eqb q.kind 0).0 t in omega arith))

pub by_kind : {X : Type 0} (k : ℕ) → (k ≡ 0 → X) → (0 < k → X) → X
by_kind zero f h = f refl
by_kind (suc k) f h = h (omega arith)

-- and it has the reads of a plan
pub fits-doing : (plan : Query → Plan) (input : List ℕ) (q : Query) → ReadsFit q [] (plan q) → ReadsFit q [] (doing plan input q)
fits-doing plan input q h = by_kind q.kind (λ e. subst (ReadsFit q []) (sym (doing-zero plan input q e)) tt) (λ l. subst (ReadsFit q []) (sym (doing-above plan input q l)) h)

-- a plan sees the values of its reads alone
given-same : (u v : Query → List ℕ) (q : Query) (made : List Query) (p : Plan) → ReadsFit q made p → ((r : Query) → r.kind < q.kind → u r ≡ v r) → given u p ≡ given v p
given-same u v q made (Give w) h e = refl
given-same u v q made (Need r k) h e = ap (λ a. given u (k a)) (e r h.0.lower) ∙ given-same u v q (r ∷ made) (k (v r)) (h.1 (v r)) e

-- more kinds give the same value
value-same : (plan : Query → Plan) (input : List ℕ) → ((q : Query) → ReadsFit q [] (plan q)) → (m n : ℕ) (q : Query) → q.kind ≤ m → q.kind ≤ n → value_to plan input m q ≡ value_to plan input n q
value-same plan input fits zero zero q a b = refl
value-same plan input fits zero (suc n) q a b = sym (ap (given (value_to plan input n)) (doing-zero plan input q (omega arith)))
value-same plan input fits (suc m) zero q a b = ap (given (value_to plan input m)) (doing-zero plan input q (omega arith))
value-same plan input fits (suc m) (suc n) q a b =
    given-same (value_to plan input m) (value_to plan input n) q [] (doing plan input q) (fits-doing plan input q (fits q)) (λ r l. value-same plan input fits m n r (omega arith) (omega arith))

-- the value of a query is given by what is done for it, where each read is answered by its own value
pub denote-doing : (plan : Query → Plan) (input : List ℕ) → ((q : Query) → ReadsFit q [] (plan q)) → (q : Query) → denote plan input q ≡ given (denote plan input) (doing plan input q)
unfolding denote
denote-doing plan input fits q = at q.kind refl
  where
    at : (k : ℕ) → q.kind ≡ k → value_to plan input k q ≡ given (denote plan input) (doing plan input q)
    at zero e = sym (ap (given (denote plan input)) (doing-zero plan input q e))
    at (suc n) e =
        given-same (value_to plan input n) (denote plan input) q [] (doing plan input q) (fits-doing plan input q (fits q)) (λ r l. value-same plan input fits n r.kind r (omega arith) (omega arith))

-- its reads
pub reads-doing : (plan : Query → Plan) (input : List ℕ) (q : Query) → reads_of plan input q ≡ reads_by (denote plan input) (doing plan input q)
unfolding reads_of
reads-doing plan input q = refl

-- above kind 0 the input is seen through reads alone
pub denote-above : (plan : Query → Plan) (input : List ℕ) → ((q : Query) → ReadsFit q [] (plan q)) → (q : Query) → 0 < q.kind → denote plan input q ≡ given (denote plan input) (plan q)
denote-above plan input fits q l = denote-doing plan input fits q ∙ ap (given (denote plan input)) (doing-above plan input q l)

pub reads-above : (plan : Query → Plan) (input : List ℕ) (q : Query) → 0 < q.kind → reads_of plan input q ≡ reads_by (denote plan input) (plan q)
reads-above plan input q l = reads-doing plan input q ∙ ap (reads_by (denote plan input)) (doing-above plan input q l)

-- reads with equal values under two inputs: the query has the same reads and the same value under both
pub same-above : (plan : Query → Plan) (input0 input1 : List ℕ) → ((q : Query) → ReadsFit q [] (plan q)) → (q : Query) → 0 < q.kind → AllByRecursion (λ r. denote plan input0 r ≡ denote plan input1 r) (reads_of plan input0 q) → (reads_of plan input0 q ≡ reads_of plan input1 q) × (denote plan input0 q ≡ denote plan input1 q)
same-above plan input0 input1 fits q l a =
    let reads0 = reads-above plan input0 q l in
    let both = agree-all (denote plan input0) (denote plan input1) (plan q) (subst (AllByRecursion (λ r. denote plan input0 r ≡ denote plan input1 r)) reads0 a) in
    (reads0 ∙ both.0 ∙ sym (reads-above plan input1 q l), denote-above plan input0 fits q l ∙ both.1 ∙ sym (denote-above plan input1 fits q l))

-- first reads with equal values: they and the one after them are first reads under both
pub prefix-above : (plan : Query → Plan) (input0 input1 : List ℕ) (q : Query) → 0 < q.kind → (xs : List Query) (r : Query) (ys : List Query) → reads_of plan input0 q ≡ xs ++ r ∷ ys → AllByRecursion (λ x. denote plan input0 x ≡ denote plan input1 x) xs → (zs : List Query) × (reads_of plan input1 q ≡ xs ++ r ∷ zs)
prefix-above plan input0 input1 q l xs r ys e a =
    let more = agree-prefix (denote plan input0) (denote plan input1) (plan q) xs r ys (sym (reads-above plan input0 q l) ∙ e) a in
    (more.0, reads-above plan input1 q l ∙ more.1)

reads-lower : (v : Query → List ℕ) (q : Query) (made : List Query) (p : Plan) → ReadsFit q made p → AllByRecursion (λ r. r.kind < q.kind) (reads_by v p)
reads-lower v q made (Give w) h = tt
reads-lower v q made (Need r k) h = (h.0.lower, reads-lower v q (r ∷ made) (k (v r)) (h.1 (v r)))

-- the law of reads
pub law-of-reads : (plan : Query → Plan) → ((q : Query) → ReadsFit q [] (plan q)) → LawOfReads plan
law-of-reads plan fits = record {
  lower = λ input q. subst (AllByRecursion (λ r. r.kind < q.kind)) (sym (reads-doing plan input q)) (reads-lower (denote plan input) q [] (doing plan input q) (fits-doing plan input q (fits q)));
  first = λ input0 input1 q k l agree.
      let reads0 = reads-above plan input0 q l in
      let Agree : List Query → Type 0 = λ rs. AllByRecursion (λ r. denote plan input0 r ≡ denote plan input1 r) (take k rs) in
      ap (take k) reads0 ∙ agree-first (denote plan input0) (denote plan input1) (plan q) k (subst Agree reads0 agree) ∙ ap (take k) (sym (reads-above plan input1 q l));
  next = λ input0 input1 q k l agree.
      let reads0 = reads-above plan input0 q l in
      let Agree : List Query → Type 0 = λ rs. AllByRecursion (λ r. denote plan input0 r ≡ denote plan input1 r) (take k rs) in
      let same = agree-next (denote plan input0) (denote plan input1) (plan q) k (subst Agree reads0 agree) in
      let w0 = sym (denote-above plan input0 fits q l) in
      let w1 = sym (denote-above plan input1 fits q l) in
      let reads1 = sym (reads-above plan input1 q l) in
      subst (λ rs. NextAgrees (drop k rs) (drop k (reads_of plan input1 q)) (denote plan input0 q) (denote plan input1 q)) (sym reads0) (subst (λ rs. NextAgrees (drop k (reads_by (denote plan input0) (plan q))) (drop k rs) (denote plan input0 q) (denote plan input1 q)) reads1 (subst (λ w. NextAgrees (drop k (reads_by (denote plan input0) (plan q))) (drop k (reads_by (denote plan input1) (plan q))) w (denote plan input1 q)) w0 (subst (λ w. NextAgrees (drop k (reads_by (denote plan input0) (plan q))) (drop k (reads_by (denote plan input1) (plan q))) (given (denote plan input0) (plan q)) w) w1 same)));
}
