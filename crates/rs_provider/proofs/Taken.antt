-- Queries that are taken up where they were left.
use Rattle.std.proofs.Common.{◌≡◌, ◌+◌, ◌<◌, ◌≤◌, ℕ, List, [], ◌∷◌, ◌++◌, length, take, get_or, refl, sym, ap, ◌∙◌}
use Rattle.std.proofs.Math.Seq.{take-length}
use Rattle.std.proofs.lemmas.List.{map_more, take_all, take_more}
use Rattle.std.specs.Coded.{Coded-set}
use Rattle.std.proofs.Math.Logic.{∥∥₁_elim, ∥∥₁_map}
use Rattle.inc_query.specs.Plans.{Known, Plan, follow}
use Rattle.inc_query.specs.contracts.answer.Answer as answer
use Rattle.inc_query.specs.declared.answer.Answer.{Answer}
use Rattle.inc_query.specs.declared.query.Query.{Query}
use Rattle.rs_plans.specs.Plans.{plan_of}
use Rattle.rs_provider.specs.Begun.{IsBegun, after_all, values_of}
use Rattle.rs_provider.specs.Fitting.{Fits, WasFed}
use Rattle.rs_provider.specs.Rests.{after, answer_of, rest}
use Rattle.rs_provider.specs.declared.begun.Begun.{Begun}
use Rattle.rs_provider.specs.declared.state.State.{State}
use Rattle.rs_provider.proofs.Follows.{follows}

-- what a query says that was led to its place by all of its reads
pub said_is : (version level : ℕ) (q : Query) (known : Known) (b : Begun) (a : Answer) → ∥ IsBegun b.level b.q b.fed b.state ∥₁ → WasFed level q (values_of known) b → a ≡ answer_of (rest b.state) → a ≡ follow (plan_of (version ∷ level ∷ []) q) known
said_is version level q known b a is fed e =
    e ∙ ∥∥₁_elim is (Coded-set answer.the_row.coded _ _)
    (λ i. ap answer_of (i.at version ∙ (λ j. after_all (plan_of (version ∷ fed.level_is j ∷ []) (fed.query_is j)) (fed.fed_is j))) ∙ follows (plan_of (version ∷ level ∷ []) q) known)

-- one that was fed nothing was fed the first of any reads
pub anew_fits : (level : ℕ) (q : Query) (known : Known) (b : Begun) → WasFed level q [] b → Fits level q known b
anew_fits level q known b h = record {
  level_is = h.level_is;
  query_is = h.query_is;
  fed_is = h.fed_is ∙ ap (λ (vs : List (List ℕ)). values_of (take (length vs) known)) (sym h.fed_is);
}

-- where it goes on from, and where it comes
pub led : (level : ℕ) (q : Query) (values more : List (List ℕ)) (b later : Begun) → WasFed level q values b → WasFed b.level b.q more later → WasFed level q more later
led level q values more b later h on = record { level_is = on.level_is ∙ h.level_is; query_is = on.query_is ∙ h.query_is; fed_is = on.fed_is }

-- ---- One more read.

after_last : (plan : Plan) (vs : List (List ℕ)) (v : List ℕ) → after_all plan (vs ++ v ∷ []) ≡ after (after_all plan vs) v
after_last plan [] v = refl
after_last plan (w ∷ ws) v = after_last (after plan w) ws v

-- one more value leads it on
pub begun_more : (level : ℕ) (q : Query) (fed more : List (List ℕ)) (v : List ℕ) (s later : State) → ∥ IsBegun level q fed s ∥₁ → more ≡ fed ++ v ∷ [] → rest later ≡ after (rest s) v → ∥ IsBegun level q more later ∥₁
begun_more level q fed more v s later is more_is on =
    ∥∥₁_map is
    (λ i. record {
      at = λ version.
          let plan = plan_of (version ∷ level ∷ []) q in
          on ∙ ap (λ (p : Plan). after p v) (i.at version) ∙ sym (after_last plan fed v) ∙ ap (λ (vs : List (List ℕ)). after_all plan vs) (sym more_is);
    })

value_more : (known : Known) (i : ℕ) (d : Query × List ℕ) → i < length known → values_of (take i known) ++ (get_or known i d).1 ∷ [] ≡ values_of (take (i + 1) known)
value_more known i d within = sym (map_more (λ (x : Query × List ℕ). x.1) known i d within)

pub fed_more : (level : ℕ) (q : Query) (known : Known) (i : ℕ) (d : Query × List ℕ) (b later : Begun) → i < length known → WasFed level q (values_of (take i known)) b → WasFed b.level b.q (b.fed ++ (get_or known i d).1 ∷ []) later
    → WasFed level q (values_of (take (i + 1) known)) later
fed_more level q known i d b later within h more = record {
  level_is = more.level_is ∙ h.level_is;
  query_is = more.query_is ∙ h.query_is;
  fed_is = more.fed_is ∙ ap (λ (vs : List (List ℕ)). vs ++ (get_or known i d).1 ∷ []) h.fed_is ∙ value_more known i d within;
}

-- after the last
pub fed_whole : (level : ℕ) (q : Query) (known : Known) (i : ℕ) (b : Begun) → length known ≤ i → WasFed level q (values_of (take i known)) b → WasFed level q (values_of known) b
fed_whole level q known i b all h = record { level_is = h.level_is; query_is = h.query_is; fed_is = h.fed_is ∙ ap values_of (take_all i known all) }

-- one more value that is that of the read at its place
pub first_more : (values : List (List ℕ)) (known : Known) (i : ℕ) (v : List ℕ) (x : Query × List ℕ) → i < length values → i < length known → v ≡ get_or values i v → x ≡ get_or known i x → v ≡ x.1
    → take i values ≡ values_of (take i known) → take (i + 1) values ≡ values_of (take (i + 1) known)
first_more values known i v x here there v_is x_is same front =
    take_more values i v here ∙ (λ j. front j ++ (sym v_is ∙ same ∙ ap (λ (y : Query × List ℕ). y.1) x_is) j ∷ []) ∙ value_more known i x there

-- and all of them
pub first_all : (values : List (List ℕ)) (known : Known) (i : ℕ) → i ≡ length values → take i values ≡ values_of (take i known) → values ≡ values_of (take (length values) known)
first_all values known i e h = sym (take-length values) ∙ ap (λ n. take n values) (sym e) ∙ h ∙ ap (λ n. values_of (take n known)) e
