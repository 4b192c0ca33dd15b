-- What marks can cost (document 02, Req 09): what a refinement adds, some cell of the marks needs, and what a cell needs lies in its
-- reach, which has few cells. Assumes nothing.
use mathlib.Core.Path.{◌≡◌, sym, ap, ◌∙◌, subst}
use mathlib.Core.Bool.{Bool, false, not, ◌||◌, beq}
use mathlib.Core.List.{List, [], ◌∷◌}
use Prim.Native.Nat.{ℕ, suc, ◌<◌}
use native.Mathlib.Omega.{arith}
use lib.Dec.{T, eqb, eqb→eq}
use lib.ListN.{length}
use Rattle.facts.specs.Numbers.{elem}
use Rattle.facts.proofs.Tests.{and_l, and_r, and_i, or_l, or_r, or_e, not_e, not_i, same}
use Rattle.facts.proofs.Numbers.{listed→, →listed}
use Rattle.facts.proofs.Counting.{Few, few_none, few_or, few_within}
use Rattle.hierarchy.specs.Hierarchy.{Cells, closure}
use Rattle.hierarchy.proofs.Sets.{◌∪◌}
use Rattle.hierarchy.proofs.Sets as sets
use Rattle.hierarchy.proofs.Closure.{closure_has, closure_added}
use Rattle.hierarchy.proofs.Undo.{active_out}
use Rattle.grid.specs.declared.Plan.{Plan}
use Rattle.grid.specs.Plan.{cell_total, hierarchy}
use Rattle.grid.specs.Range.{InRange}
use Rattle.grid.proofs.Laws.{lawful}
use Rattle.mesh.specs.Mesh.{refined}
use Rattle.mesh.proofs.Bridge.{Good, check_good}
use Rattle.outcomes.specs.Calls.{refine, By, selected, changed, new_cells, refused, refusal, Outcome, outcome}
use Rattle.outcomes.proofs.Sets.{difference}
use Rattle.outcomes.proofs.Marks.{Fits, refusal_e}
use Rattle.outcomes.proofs.Results.{Made, refusal_of, accepted_as, made, accepted, written_take, may, new_difference}
use Rattle.cost.specs.Reach.{reaches}
use Rattle.cost.specs.Cost.{most_of, listed_cells, Cost}
use Rattle.cost.proofs.Reach.{needs_reaches, reaches_few, reaches_itself}

-- ---- several cells reach at most what they can cost

module _ (p : Plan) where
  -- some cell of the list reaches x
  abbrev reached_by : List ℕ → ℕ → Bool
  reached_by [] x = false
  reached_by (c ∷ ns) x = reaches p c x || reached_by ns x

  reached_i : (ns : List ℕ) (c x : ℕ) → T (elem c ns) → T (reaches p c x) → T (reached_by ns x)
  unfolding elem
  reached_i [] c x m r = absurd m
  reached_i (n ∷ ns) c x m r = or_e (eqb c n) (elem c ns) m
      (λ e. or_l (reaches p n x) _ (subst (λ (d : ℕ). T (reaches p d x)) (eqb→eq c n e) r))
      (λ t. or_r (reaches p n x) _ (reached_i ns c x t r))

  reached_few : InRange p → (ns : List ℕ) → Few (cell_total p) (reached_by ns) (most_of p ns)
  unfolding most_of
  reached_few range [] = few_none (cell_total p) (reached_by []) (λ x _ t. t)
  reached_few range (c ∷ ns) = few_or (cell_total p) (reached_by (c ∷ ns)) (reaches p c) (reached_by ns) (λ x _ t. t) (reaches_few p range c) (reached_few range ns)

-- ---- the cells that a refinement adds

module _ (by : By) (p : Plan) (cs fs marks : List ℕ) (G : Good p cs) (fit : (x : ℕ) → T (elem x marks) → Fits refine by p cs fs x) where
  abbrev S : Cells
  S = refined cs

  abbrev M : Cells
  M = selected refine by p cs fs marks

  abbrev new : List ℕ
  new = new_cells refine by p cs fs marks

  abbrev differs : ℕ → Bool
  differs x = not (beq (refined cs x) (refined new x))

  -- some cell that the marks stand for reaches it
  added_reached : (x : ℕ) → x < cell_total p → T (differs x) → (c : ℕ) × (c < cell_total p) × T (M c) × T (reaches p c x)
  added_reached x i t =
      let d : T (difference refine S (closure (hierarchy p) (S ∪ M)) x) = subst T (new_difference refine by p cs fs marks G fit x i) t in
      let (c, l, m, n) = closure_added (hierarchy p) (lawful p G.range) S M G.admissible x (and_l (closure (hierarchy p) (S ∪ M) x) _ d)
      (not_e (S x) (and_r (closure (hierarchy p) (S ∪ M) x) _ d)) in
      (c, l, m, needs_reaches p G.range l n)

  -- what the marks stand for is added
  selected_added : (x : ℕ) → x < cell_total p → T (M x) → T (differs x)
  selected_added x i m =
      let R : Cells = closure (hierarchy p) (S ∪ M) in
      let a : T (sets.active (hierarchy p) S x) = (may refine by p cs fs marks G fit x i m).0 in
      let n : T (S x) → ⊥ = active_out (hierarchy p) S x a in
      let r : T (R x) = closure_has (hierarchy p) (lawful p G.range) (S ∪ M) x i (or_r (S x) (M x) m) in
      subst T (sym (new_difference refine by p cs fs marks G fit x i)) (and_i (R x) (not (S x)) r (not_i (S x) n))

  differing_most : (ns : List ℕ) → ((c : ℕ) → c < cell_total p → T (M c) → T (elem c ns)) → Few (cell_total p) differs (most_of p ns)
  differing_most ns h = few_within (cell_total p) differs (reached_by p ns)
      (λ x i t. let (c, l, m, r) = added_reached x i t in reached_i p ns c x (h c l m) r) (reached_few p G.range ns)

-- ---- the outcome

module _ (by : By) (p : Plan) (cs fs marks cl fl : List ℕ) where
  -- the list of an accepted call is that of the cells that differ
  record Counted (o : Outcome) : Type 0 where
    passed : refusal refine by p cs fs marks ≡ 0
    count : o.answer.cells ≡ length (changed (cell_total p) cs (new_cells refine by p cs fs marks))
    list : listed_cells o ≡ changed (cell_total p) cs (new_cells refine by p cs fs marks)

  counted : (o : Outcome) → Made refine by p cs fs marks cl fl o → o.answer.number ≡ 0 → Counted o
  unfolding accepted refused
  counted o (refusal_of n e) z = absurd (let k : suc n ≡ 0 = ap (λ o. o.answer.number) (sym e) ∙ z in omega arith)
  counted o (accepted_as cs' fs' ec ef r a b e) z =
      rw e (record {
        passed = r;
        count = ap (λ (u : List ℕ). length (changed (cell_total p) cs u)) ec;
        list = written_take (changed (cell_total p) cs cs') cl ∙ ap (changed (cell_total p) cs) ec;
      })

  pub call_cost : (outcome refine by p cs fs marks cl fl).answer.number ≡ 0 → Cost by p cs fs marks (outcome refine by p cs fs marks cl fl)
  unfolding changed
  call_cost z =
      let o : Outcome = outcome refine by p cs fs marks cl fl in
      let k = counted o (made refine by p cs fs marks cl fl) z in
      let (h, fit) = refusal_e refine by p cs fs marks k.passed in
      let G : Good p cs = (check_good p cs fs h).0 in
      let d : ℕ → Bool = differs by p cs fs marks G fit in
      record {
        most = λ ns m. omega (arith, k.count, differing_most by p cs fs marks G fit ns m);
        reached = λ x t. let (i, u) = listed→ (cell_total p) d x (rw k.list at t) in added_reached by p cs fs marks G fit x i u;
        alone = λ c x i. same (elem x (listed_cells o)) (selected refine by p cs fs marks x)
            (λ t. let (_, u) = listed→ (cell_total p) d x (rw k.list at t) in
            let (y, l, m, r) = added_reached by p cs fs marks G fit x i u in
            subst (λ (w : ℕ). T (selected refine by p cs fs marks w)) (sym (reaches_itself p (omega (arith, c)) y x r)) m)
            (λ t. rw k.list (→listed (cell_total p) d x i (selected_added by p cs fs marks G fit x i t)));
      }
