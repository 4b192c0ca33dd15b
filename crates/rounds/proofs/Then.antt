-- The mesh by round k has, of the wanted cells, those of the levels before k, beside today's: so the round lists what is missing on level k,
-- and refining adds no other cell, since the wanted mesh is admissible. Assumes nothing.
use mathlib.Core.Path.{◌≡◌, refl, sym, ap, ap₂, ◌∙◌, subst}
use mathlib.Core.Bool.{Bool, true, false, not, ◌&&◌, ◌||◌, beq}
use mathlib.Core.List.{List}
use Prim.Native.Nat.{ℕ, suc, ◌+◌, ◌≤◌, ◌<◌}
use native.Mathlib.Omega.{arith}
use lib.Dec.{T, eqb, eqb→eq, ltb, ltb→lt, lt→ltb}
use lib.ListN.{length, take}
use Rattle.facts.specs.Numbers.{elem}
use Rattle.facts.proofs.Tests.{and_i, and_l, and_r, or_l, or_r, or_e, not_i, not_e, cases, same, eqb_of}
use Rattle.facts.proofs.Numbers.{listed→, →listed, listed_same, length_tabulate}
use Rattle.facts.proofs.Turns.{listed_short}
use Rattle.hierarchy.specs.Hierarchy.{Cells, closure}
use Rattle.hierarchy.proofs.Sets.{Admissible}
use Rattle.hierarchy.proofs.Closure.{closure_is}
use Rattle.hierarchy.proofs.Undo.{→active, active_out}
use Rattle.grid.specs.declared.Plan.{Plan}
use Rattle.grid.specs.Plan.{cell_total, function_total, cell_level, last_level, parent, hierarchy}
use Rattle.grid.proofs.Laws.{lawful, parent_lt, parent_level, near_level}
use Rattle.mesh.specs.Mesh.{active, refined, labels, check}
use Rattle.mesh.proofs.Bridge.{Good, active_is, good_check}
use Rattle.outcomes.specs.Calls.{refine, cells, eligible, is_too_deep, selected, changed, Outcome, new_cells}
use Rattle.outcomes.specs.Runs.{Tables, LentLists, result, after, entry}
use Rattle.outcomes.proofs.Marks.{Fits, refusal_i, closure_same_below}
use Rattle.outcomes.proofs.Results.{new_good, new_refined, accepted, outcome_accepted, written_take}
use Rattle.rounds.specs.Rounds.{ample, as_call, marks_on}
use Rattle.rounds.specs.Demands.{missing}

-- ---- two facts about tests

-- what is of level k or of one before is of a level below k + 1
below_next : (j k : ℕ) → ltb j (suc k) ≡ eqb j k || ltb j k
below_next j k = same _ _
    (λ t. cases (eqb j k) (or_l (eqb j k) (ltb j k)) (λ n. or_r (eqb j k) (ltb j k) (lt→ltb j k (let d : j ≡ k → ⊥ = λ e. not_e (eqb j k) n (eqb_of j k e) in omega (arith, ltb→lt j (suc k) t, d)))))
    (λ t. or_e (eqb j k) (ltb j k) t (λ e. lt→ltb j (suc k) (omega (arith, eqb→eq j k e))) (λ l. lt→ltb j (suc k) (omega (arith, ltb→lt j k l))))

-- of two sets that grow by what is wanted (w) on level k (e): s is refined today, l and m are the levels below k and below k + 1
grown : (s w l e m : Bool) → m ≡ e || l → (T e → T l → ⊥) → not (beq (s || (w && l)) (s || (w && m))) ≡ e && (w && not s)
grown true true l true m q h = refl
grown true true l false m q h = refl
grown true false l true m q h = refl
grown true false l false m q h = refl
grown false false l true m q h = refl
grown false false l false m q h = refl
grown false true true true m q h = absurd (h tt tt)
grown false true true false m q h = rw q refl
grown false true false true m q h = rw q refl
grown false true false false m q h = rw q refl

module _ (p : Plan) (cs ws : List ℕ) (G : Good p cs) (W : Good p ws) (within : (c : ℕ) → c < cell_total p → T (refined cs c) → T (refined ws c)) where
  -- the refined cells by round k
  abbrev pub by : ℕ → Cells
  by k c = refined cs c || (refined ws c && ltb (cell_level p c) k)

  pub record Then (k : ℕ) (t : Tables) : Type 0 where
    pub good : Good p t.cells
    pub labelled : t.functions ≡ labels p t.cells
    pub has : (c : ℕ) → c < cell_total p → refined t.cells c ≡ by k c

  -- at the beginning, and at the end
  by_first : (c : ℕ) → refined cs c ≡ by 0 c
  by_first c = same _ _ (or_l (refined cs c) _) (λ t. or_e (refined cs c) _ t (λ r. r) (λ u. absurd (omega (arith, ltb→lt (cell_level p c) 0 (and_r (refined ws c) _ u)))))

  pub then_first : {fs : List ℕ} → fs ≡ labels p cs → Then 0 (record { cells = cs; functions = fs })
  then_first l = record { good = G; labelled = l; has = λ c _. by_first c }

  pub by_last : (k : ℕ) → k + 1 ≡ p.levels → (c : ℕ) → c < cell_total p → by k c ≡ refined ws c
  by_last k e c i = same _ _ (λ t. or_e (refined cs c) _ t (within c i) (λ u. and_l (refined ws c) _ u))
      (λ r. or_r (refined cs c) _ (and_i (refined ws c) _ r (lt→ltb (cell_level p c) k (omega (arith, W.mesh.shallow c i r)))))

  by_in : (k c : ℕ) → c < cell_total p → T (by k c) → T (refined ws c)
  by_in k c i t = or_e (refined cs c) _ t (within c i) (λ u. and_l (refined ws c) _ u)

  -- what a class asks for, of the cells of the levels before k, is among them
  by_admissible : (k : ℕ) → Admissible (hierarchy p) (by k)
  by_admissible k q c i t n = or_e (refined cs q) _ t
      (λ r. or_l (refined cs c) _ (G.admissible q c i r n))
      (λ u. or_r (refined cs c) _ (and_i (refined ws c) _ (W.admissible q c i (and_l (refined ws q) _ u) n)
      (lt→ltb (cell_level p c) k (omega (arith, near_level p G.range q c n, ltb→lt (cell_level p q) k (and_r (refined ws q) _ u))))))

  module _ (k : ℕ) (t : Tables) (N : Then k t) where
    abbrev pub marks : List ℕ
    marks = marks_on p ws k t.cells

    -- the test of the round, and that of what is missing
    abbrev asked : ℕ → Bool
    asked c = eqb (cell_level p c) k && (refined ws c && active t.cells c)

    abbrev lacking : ℕ → Bool
    lacking c = eqb (cell_level p c) k && (refined ws c && not (refined cs c))

    -- of level k there is by then what there is today
    on_level : (c : ℕ) → c < cell_total p → cell_level p c ≡ k → T (refined t.cells c) → T (refined cs c)
    on_level c i e r = or_e (refined cs c) _ (subst T (N.has c i) r) (λ x. x) (λ u. absurd (omega (arith, ltb→lt (cell_level p c) k (and_r (refined ws c) _ u))))

    -- the parent of a wanted cell of level k is refined by then
    parents : (c : ℕ) → c < cell_total p → cell_level p c ≡ k → T (refined ws c) → 1 ≤ cell_level p c → T (refined t.cells (parent p c))
    parents c i e r l =
        let j : parent p c < cell_total p = parent_lt p G.range c i l in
        subst T (sym (N.has (parent p c) j)) (or_r (refined cs (parent p c)) _
        (and_i (refined ws (parent p c)) _ (W.mesh.closed c i r l) (lt→ltb (cell_level p (parent p c)) k (omega (arith, parent_level p G.range c i l)))))

    asked_is : (c : ℕ) → c < cell_total p → asked c ≡ lacking c
    asked_is c i = same (asked c) (lacking c)
        (λ a. let e = and_l (eqb (cell_level p c) k) _ a in
        let w = and_r (eqb (cell_level p c) k) (refined ws c && active t.cells c) a in
        let x = subst T (active_is p t.cells N.good c i) (and_r (refined ws c) _ w) in
        and_i (eqb (cell_level p c) k) _ e (and_i (refined ws c) _ (and_l (refined ws c) _ w) (not_i (refined cs c) (λ r.
        active_out (hierarchy p) (refined t.cells) c x (subst T (sym (N.has c i)) (or_l (refined cs c) _ r))))))
        (λ a. let e = and_l (eqb (cell_level p c) k) _ a in
        let w = and_r (eqb (cell_level p c) k) (refined ws c && not (refined cs c)) a in
        let on : cell_level p c ≡ k = eqb→eq (cell_level p c) k e in
        let r = and_l (refined ws c) _ w in
        and_i (eqb (cell_level p c) k) _ e (and_i (refined ws c) _ r (subst T (sym (active_is p t.cells N.good c i))
        (→active (hierarchy p) (refined t.cells) c
        (λ x. not_e (refined cs c) (and_r (refined ws c) _ w) (on_level c i on x))
        (parents c i on r)))))

    pub round_is : marks ≡ missing p cs ws k
    unfolding marks_on missing
    round_is = listed_same (cell_total p) asked lacking asked_is

    in_round : (c : ℕ) → T (elem c marks) → (c < cell_total p) × T (asked c)
    unfolding marks_on
    in_round c m = listed→ (cell_total p) asked c m

    module _ (deep : k + 1 < p.levels) where
      fits : (x : ℕ) → T (elem x marks) → Fits refine cells p t.cells t.functions x
      unfolding eligible is_too_deep last_level
      fits x m =
          let (i, a) = in_round x m in
          let e : cell_level p x ≡ k = eqb→eq (cell_level p x) k (and_l (eqb (cell_level p x) k) _ a) in
          record {
            inside = i;
            kind = and_r (refined ws x) _ (and_r (eqb (cell_level p x) k) (refined ws x && active t.cells x) a);
            shallow = λ u. absurd (omega (arith, eqb→eq (cell_level p x + 1) p.levels u));
          }

      abbrev pub new : List ℕ
      new = new_cells refine cells p t.cells t.functions marks

      missed : (c : ℕ) → c < cell_total p → T (by (suc k) c) → (T (refined t.cells c) → ⊥) → T (elem c marks)
      unfolding marks_on
      missed c i u n = →listed (cell_total p) asked c i (subst T (sym (asked_is c i))
          (or_e (refined cs c) _ u (λ r. absurd (n (subst T (sym (N.has c i)) (or_l (refined cs c) _ r))))
          (λ v. let w = and_l (refined ws c) _ v in
          or_e (eqb (cell_level p c) k) (ltb (cell_level p c) k) (subst T (below_next (cell_level p c) k) (and_r (refined ws c) _ v))
          (λ e. and_i (eqb (cell_level p c) k) _ e (and_i (refined ws c) _ w (not_i (refined cs c) (λ r. n (subst T (sym (N.has c i)) (or_l (refined cs c) _ r))))))
          (λ l. absurd (n (subst T (sym (N.has c i)) (or_r (refined cs c) _ (and_i (refined ws c) _ w l))))))))

      -- a cell is refined by then or marked just where it is by the next round
      join : (c : ℕ) → c < cell_total p → refined t.cells c || elem c marks ≡ by (suc k) c
      join c i = same _ _
          (λ u. or_e (refined t.cells c) (elem c marks) u
          (λ r. or_e (refined cs c) _ (subst T (N.has c i) r) (or_l (refined cs c) _)
          (λ v. or_r (refined cs c) _ (and_i (refined ws c) _ (and_l (refined ws c) _ v) (lt→ltb (cell_level p c) (suc k) (omega (arith, ltb→lt (cell_level p c) k (and_r (refined ws c) _ v)))))))
          (λ m. let a = (in_round c m).1 in
          or_r (refined cs c) _ (and_i (refined ws c) _ (and_l (refined ws c) _ (and_r (eqb (cell_level p c) k) (refined ws c && active t.cells c) a))
          (lt→ltb (cell_level p c) (suc k) (omega (arith, eqb→eq (cell_level p c) k (and_l (eqb (cell_level p c) k) _ a)))))))
          (λ u. cases (refined t.cells c) (or_l (refined t.cells c) (elem c marks))
          (λ n. or_r (refined t.cells c) (elem c marks) (missed c i u (not_e (refined t.cells c) n))))

      -- refining by the round adds its marks, and no other cell
      put_is : closure (hierarchy p) (λ c. refined t.cells c || selected refine cells p t.cells t.functions marks c) ≡ closure (hierarchy p) (by (suc k))
      unfolding selected
      put_is = closure_same_below p _ _ join

      new_has : (c : ℕ) → c < cell_total p → refined new c ≡ by (suc k) c
      new_has c i = ap (λ X. X c) (new_refined refine cells p t.cells t.functions marks N.good fits ∙ put_is)
          ∙ closure_is (hierarchy p) (lawful p G.range) (by (suc k)) (by (suc k)) (by_admissible (suc k)) (λ _ _ x. x) (λ _ _ x. x) c i

      pub then_new : Then (suc k) (record { cells = new; functions = labels p new })
      then_new = record { good = new_good refine cells p t.cells t.functions marks N.good fits; labelled = refl; has = new_has }

      -- what changes is the round
      changed_at : (c : ℕ) → c < cell_total p → not (beq (refined t.cells c) (refined new c)) ≡ asked c
      changed_at c i = ap₂ (λ x y. not (beq x y)) (N.has c i) (new_has c i) ∙ grown (refined cs c) (refined ws c) (ltb (cell_level p c) k) (eqb (cell_level p c) k) (ltb (cell_level p c) (suc k)) (below_next (cell_level p c) k)
          (λ e l. omega (arith, eqb→eq (cell_level p c) k e, ltb→lt (cell_level p c) k l)) ∙ sym (asked_is c i)

      pub changed_is : changed (cell_total p) t.cells new ≡ marks
      unfolding changed marks_on
      changed_is = listed_same (cell_total p) _ asked changed_at

      -- the call, with any lists that are long enough
      module _ (room : LentLists) (a : length marks ≤ length room.cells) (b : length (changed (function_total p) t.functions (labels p new)) ≤ length room.functions) where
        result_is : result p t (as_call marks room) ≡ accepted p t.cells t.functions room.cells room.functions new (labels p new)
        unfolding result
        result_is = outcome_accepted refine cells p t.cells t.functions marks room.cells room.functions
            (refusal_i refine cells p t.cells t.functions marks (subst (λ f. check p t.cells f ≡ 0) (sym N.labelled) (good_check p t.cells N.good)) fits)
            (subst (λ x. length x ≤ length room.cells) (sym changed_is) a) b

        pub after_new : after p t (as_call marks room) ≡ record { cells = new; functions = labels p new }
        unfolding after accepted
        after_new = ap (λ (o : Outcome). record { cells = o.cells; functions = o.functions }) result_is

        pub number_new : (entry p t (as_call marks room)).number ≡ 0
        unfolding entry accepted
        number_new = ap (λ (o : Outcome). o.answer.number) result_is

        pub cells_new : (entry p t (as_call marks room)).cells ≡ marks
        unfolding entry accepted
        cells_new = ap (λ (o : Outcome). take o.answer.cells o.cell_list) result_is ∙ written_take (changed (cell_total p) t.cells new) room.cells ∙ changed_is

      -- an entry for each cell and each function is enough
      pub after_ample : after p t (as_call marks (ample p)) ≡ record { cells = new; functions = labels p new }
      unfolding changed marks_on
      after_ample = after_new (ample p)
          (omega (arith, listed_short asked (cell_total p), length_tabulate (cell_total p) (λ i. 0)))
          (omega (arith, listed_short (λ x. not (beq (refined t.functions x) (refined (labels p new) x))) (function_total p), length_tabulate (function_total p) (λ i. 0)))
