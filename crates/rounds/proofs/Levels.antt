-- The numbers that pass a test, level by level: what is missing on each level, one level after another, is what differs between the tables.
-- Assumes nothing.
use mathlib.Core.Path.{◌≡◌, refl, sym, ap, ◌∙◌}
use mathlib.Core.Bool.{Bool, not, ◌&&◌, cond, beq}
use mathlib.Core.List.{List, [], ◌∷◌, ◌++◌, map, flatten, append-nil, append_assoc}
use Prim.Native.Nat.{ℕ, zero, suc, ◌+◌, ◌-◌, ◌*◌, ◌≤◌, ◌<◌}
use native.Mathlib.Nat.{add-zero, add-sub_of_le}
use native.Mathlib.Numerals.{add-one}
use native.Mathlib.Omega.{arith}
use lib.Dec.{T, eqb, eqb→eq}
use lib.ListN.{length}
use Rattle.facts.specs.Numbers.{listed, tabulate}
use Rattle.facts.proofs.Tests.{and_l, and_r, T_true, T_false, eqb_of}
use Rattle.facts.proofs.Numbers.{tabulate_is}
use Rattle.grid.specs.declared.Plan.{Plan}
use Rattle.grid.specs.Range.{InRange}
use Rattle.grid.specs.Plan.{columns_at, rows_at, cell_offset, cell_total, cell_level}
use Rattle.grid.proofs.Laws.{cell_inside, cell_number_place}
use Rattle.grid.proofs.Levels.{offset_next, offset_mono, level_before, level_from}
use Rattle.mesh.specs.Mesh.{refined}
use Rattle.outcomes.specs.Calls.{changed}
use Rattle.outcomes.proofs.Sets.{differs}
use Rattle.rounds.specs.Rounds.{in_turn}
use Rattle.rounds.specs.Demands.{missing}
use Rattle.rounds.specs.Steps.{missing_on}
use Rattle.rounds.proofs.InTurn.{turn_length, turn_map, turn_at}

-- ---- one test on a part of the numbers

module _ (r : ℕ → Bool) where
  pub none_below : (n : ℕ) → ((c : ℕ) → c < n → T (r c) → ⊥) → listed n r ≡ []
  unfolding listed
  none_below zero h = refl
  none_below (suc n) h = rw (T_false (r n) (h n (omega arith)), none_below n (λ c l. h c (omega arith))) refl

  none_above : (b e : ℕ) → ((c : ℕ) → b ≤ c → c < b + e → T (r c) → ⊥) → listed (b + e) r ≡ listed b r
  unfolding listed
  none_above b zero h = ap (λ (n : ℕ). listed n r) (add-zero b)
  none_above b (suc e) h =
      let q : b + suc e ≡ suc (b + e) = omega arith in
      rw (q, T_false (r (b + e)) (h (b + e) (omega arith) (omega arith)), append-nil (listed (b + e) r)) (none_above b e (λ c l m. h c l (omega arith)))

  module _ (q : ℕ → Bool) (a : ℕ) (low : (c : ℕ) → T (r c) → a ≤ c) where
    part_to : (d : ℕ) → ((c : ℕ) → a ≤ c → c < a + d → r c ≡ q c) → listed (a + d) q ≡ listed a q ++ listed (a + d) r
    unfolding listed
    part_to zero h =
        let n : listed (a + 0) r ≡ [] = none_below (a + 0) (λ c l t. absurd (omega (arith, low c t))) in
        rw (n, append-nil (listed a q)) (ap (λ (n : ℕ). listed n q) (add-zero a))
    part_to (suc d) h =
        let e : a + suc d ≡ suc (a + d) = omega arith in
        rw (e, h (a + d) (omega arith) (omega arith), part_to d (λ c l m. h c l (omega arith)))
        (append_assoc (listed a q) (listed (a + d) r) (cond (q (a + d)) ((a + d) ∷ []) []))

    -- the numbers from a on, d of them, that pass, after those before
    part_of : (d n : ℕ) → a + d ≤ n → ((c : ℕ) → a ≤ c → c < a + d → r c ≡ q c) → ((c : ℕ) → T (r c) → c < a + d) → listed (a + d) q ≡ listed a q ++ listed n r
    part_of d n l h high =
        let e : a + d + (n - (a + d)) ≡ n = add-sub_of_le l in
        part_to d h ∙ ap (λ (x : List ℕ). listed a q ++ x) (sym (rw e at (none_above (a + d) (n - (a + d)) (λ c k m t. absurd (omega (arith, high c t))))))

-- ---- levels

module _ (p : Plan) (range : InRange p) (c : ℕ) (i : c < cell_total p) (k : ℕ) where
  before : c < cell_offset p k → cell_level p c < k
  before = level_before (columns_at p) (rows_at p) p.levels c (cell_inside p range c i) (cell_number_place p range c i) k

  from : cell_offset p k ≤ c → k ≤ cell_level p c
  from = level_from (columns_at p) (rows_at p) p.levels c (cell_inside p range c i) (cell_number_place p range c i) k

module _ (p : Plan) (range : InRange p) (cs ws : List ℕ) (within : (c : ℕ) → T (refined cs c) → T (refined ws c))
    (inside : (c : ℕ) → T (refined ws c) → c < cell_total p) where
  abbrev lacking : ℕ → ℕ → Bool
  lacking k c = eqb (cell_level p c) k && (refined ws c && not (refined cs c))

  wanted : (k c : ℕ) → T (lacking k c) → T (refined ws c)
  wanted k c t = and_l (refined ws c) _ (and_r (eqb (cell_level p c) k) (refined ws c && not (refined cs c)) t)

  on : (k c : ℕ) → T (lacking k c) → cell_level p c ≡ k
  on k c t = eqb→eq (cell_level p c) k (and_l (eqb (cell_level p c) k) _ t)

  pub changed_next : (k : ℕ) → k < p.levels → changed (cell_offset p (k + 1)) cs ws ≡ changed (cell_offset p k) cs ws ++ missing p cs ws k
  unfolding changed missing
  changed_next k l =
      let e : cell_offset p (k + 1) ≡ cell_offset p k + rows_at p k * columns_at p k = offset_next (columns_at p) (rows_at p) k in
      let m : cell_offset p (k + 1) ≤ cell_total p = offset_mono (columns_at p) (rows_at p) (k + 1) p.levels (omega arith) in
      rw e (part_of (lacking k) (λ c. not (beq (refined cs c) (refined ws c))) (cell_offset p k)
      (λ c t. low c t) (rows_at p k * columns_at p k) (cell_total p) (omega arith)
      (λ c a b. let i : c < cell_total p = omega arith in
      let o : cell_level p c ≡ k = omega (arith, from p range c i k a, before p range c i (k + 1) (omega arith)) in
      rw (T_true (eqb (cell_level p c) k) (eqb_of _ _ o)) (sym (differs (refined cs c) (refined ws c) (within c))))
      (λ c t. omega (arith, high c t)))
    where
      low : (c : ℕ) → T (lacking k c) → cell_offset p k ≤ c
      low c t =
          let n : ¬ (c < cell_offset p k) = λ b. absurd (omega (arith, before p range c (inside c (wanted k c t)) k b, on k c t)) in
          omega (arith, n)

      high : (c : ℕ) → T (lacking k c) → c < cell_offset p (k + 1)
      high c t =
          let n : ¬ (cell_offset p (k + 1) ≤ c) = λ b. absurd (omega (arith, from p range c (inside c (wanted k c t)) (k + 1) b, on k c t)) in
          omega (arith, n)

  -- round after round
  pub flatten_is : (n k : ℕ) → k + n ≤ p.levels → changed (cell_offset p k) cs ws ++ flatten (in_turn (missing p cs ws) k n) ≡ changed (cell_offset p (k + n)) cs ws
  unfolding flatten in_turn
  flatten_is zero k l = append-nil (changed (cell_offset p k) cs ws) ∙ ap (λ (j : ℕ). changed (cell_offset p j) cs ws) (sym (add-zero k))
  flatten_is (suc n) k l =
      sym (append_assoc (changed (cell_offset p k) cs ws) (missing p cs ws k) (flatten (in_turn (missing p cs ws) (suc k) n)))
      ∙ ap (λ (x : List ℕ). x ++ flatten (in_turn (missing p cs ws) (suc k) n)) (sym (changed_next k (omega arith)) ∙ ap (λ (j : ℕ). changed (cell_offset p j) cs ws) (add-one k))
      ∙ flatten_is n (suc k) (omega arith)
      ∙ ap (λ (j : ℕ). changed (cell_offset p j) cs ws) (omega arith)

  -- no cell of the last level is missing
  pub last_none : (k : ℕ) → k + 1 ≡ p.levels → ((c : ℕ) → T (refined ws c) → cell_level p c < k) → changed (cell_total p) cs ws ≡ changed (cell_offset p k) cs ws
  last_none k e h =
      ap (λ (j : ℕ). changed (cell_offset p j) cs ws) (sym e) ∙ changed_next k (omega arith)
      ∙ ap (λ (x : List ℕ). changed (cell_offset p k) cs ws ++ x) empty ∙ append-nil (changed (cell_offset p k) cs ws)
    where
      empty : missing p cs ws k ≡ []
      empty = unfold missing in none_below (lacking k) (cell_total p) (λ c i t. absurd (omega (arith, h c (wanted k c t), on k c t)))

-- how many on each level
pub lengths_are : (p : Plan) (cs ws : List ℕ) (n : ℕ) → map length (in_turn (missing p cs ws) 0 n) ≡ tabulate n (missing_on p cs ws)
lengths_are p cs ws n =
    turn_map length (missing p cs ws) n 0
    ∙ tabulate_is n (missing_on p cs ws) _ (turn_length (missing_on p cs ws) n 0) (λ i l. turn_at (missing_on p cs ws) n 0 i l ∙ ap (missing_on p cs ws) (omega arith))
