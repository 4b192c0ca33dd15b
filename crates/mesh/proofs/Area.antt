-- The area of a mesh (document 01, "Count"): A·B·4^(L-1), however it is refined. Assumes nothing.
use mathlib.Core.Path.{◌≡◌, refl, ap, sym, ◌∙◌}
use mathlib.Core.Bool.{Bool, true, false, not, cond}
use mathlib.Core.List.{List}
use Prim.Native.Nat.{ℕ, zero, suc, ◌+◌, ◌-◌, ◌*◌, ◌/◌, ◌%◌, ◌^◌, ◌<◌, ◌≤◌}
use native.Mathlib.Nat.{sub-zero, pow-zero, mod-lt, div-add-mod', add_assoc, pow-suc, mul_assoc, mul-one}
use native.Mathlib.Omega.{arith}
use lib.Dec.{T, eqb}
use lib.ListN.{get_or}
use Rattle.facts.specs.Bounded.{sum}
use Rattle.facts.proofs.Tests.{T_true, T_false}
use Rattle.facts.proofs.Sums.{sum_same, sum_zero, sum_const, sum_add, sum_mul, sum_split, sum_rows, sum_digits}
use Rattle.grid.specs.declared.Plan.{Plan}
use Rattle.grid.specs.declared.Place.{Place}
use Rattle.grid.specs.Numbering.{offset, number}
use Rattle.grid.specs.Plan.{ratio, grown, columns_at, rows_at, cell_total, cell_place, cell_number, cell_level, CellInside, below, child}
use Rattle.grid.specs.Range.{InRange}
use Rattle.grid.proofs.Direction.{grown_up}
use Rattle.grid.proofs.Laws.{ratio_pos, cell_place_number, cell_number_lt}
use Rattle.mesh.proofs.Bridge.{mesh_fits}
use Rattle.mesh.specs.Mesh.{absent, active, refined, is_mesh, area_of}

abbrev at : ℕ → ℕ → ℕ → Place
at k r c = record { level = k; row = r; column = c }

-- a sum over the numbers of L levels, by level, row and column
pub sum_levels : (w h : ℕ → ℕ) (L : ℕ) (f : ℕ → ℕ)
    → sum (offset w h L) f ≡ sum L (λ k. sum (h k) (λ r. sum (w k) (λ c. f (number w h (at k r c)))))
unfolding sum offset number
sum_levels w h zero f = refl
sum_levels w h (suc k) f = rw (sum_split (offset w h k) (h k * w k) f, sum_levels w h k f, sum_rows (h k) (w k) (λ j. f (offset w h k + j))) (simp add_assoc)

-- ---- what a mesh asks of a cell, as facts

abbrev one : Bool → ℕ
one b = cond b 1 0

bytes : (b : ℕ) → b ≤ 2 → one (not (eqb b 0)) ≡ one (eqb b 1) + one (eqb b 2)
bytes zero h = refl
bytes (suc zero) h = refl
bytes (suc (suc zero)) h = refl
bytes (suc (suc (suc b))) h = absurd (omega arith)

-- what level 0 adds, and what a next level does: x is what one cell of the level counts
base : (x a r y : ℕ) → y ≡ a + r → 0 + x * a + x * r ≡ x * y
base x a r y e = rw e (omega arith)

step : (S q x y a r R : ℕ) {all : ℕ} → x ≡ y * q → a + r ≡ q * R → S + x * R ≡ all → S + y * a + y * r ≡ all
step S q x y a r R {all} e f t = let u : S + y * q * R ≡ all = rw e at t in omega (arith, ap (λ z. y * z) f)

weigh : (b : Bool) (x : ℕ) → cond b x 0 ≡ x * cond b 1 0
weigh true x = omega arith
weigh false x = omega arith

module _ (p : Plan) (range : InRange p) (cells : List ℕ) (mesh : T (is_mesh p cells)) where
  abbrev w : ℕ → ℕ
  w = columns_at p

  abbrev h : ℕ → ℕ
  h = rows_at p

  -- how many cells of level k pass
  abbrev on : ℕ → (ℕ → Bool) → ℕ
  on k test = sum (h k) (λ r. sum (w k) (λ c. one (test (cell_number p (at k r c)))))

  inside : (k r c : ℕ) → k < p.levels → r < h k → c < w k → CellInside p (at k r c)
  inside k r c i j l = record { level< = i; row< = j; column< = l }

  cell_place_lem : (k r c : ℕ) → k < p.levels → r < h k → c < w k → cell_place p (cell_number p (at k r c)) ≡ at k r c
  cell_place_lem k r c i j l = cell_place_number p range (at k r c) (inside k r c i j l)

  cell_lt : (k r c : ℕ) → k < p.levels → r < h k → c < w k → cell_number p (at k r c) < cell_total p
  cell_lt k r c i j l = cell_number_lt p range (at k r c) (inside k r c i j l)

  next : (b k : ℕ) → grown (ratio p) b (suc k) ≡ grown (ratio p) b k * ratio p
  unfolding grown
  next b k = rw (pow-suc, mul_assoc)

  module _ (k r c : ℕ) (i : suc k < p.levels) (j : r < h (suc k)) (l : c < w (suc k)) where
    over : ℕ
    over = cell_number p (at k (r / ratio p) (c / ratio p))

    jr : r / ratio p < h k
    jr = grown_up (ratio p) (ratio_pos p) p.rows (suc k) r (omega arith) j

    lc : c / ratio p < w k
    lc = grown_up (ratio p) (ratio_pos p) p.columns (suc k) c (omega arith) l

    over_child : child p over (r % ratio p) (c % ratio p) ≡ cell_number p (at (suc k) r c)
    unfolding child below over
    over_child = rw (cell_place_lem k (r / ratio p) (c / ratio p) (omega arith) jr lc, div-add-mod' r (ratio p), div-add-mod' c (ratio p))

    over_level : cell_level p over ≡ k
    unfolding over
    over_level = ap (λ (x : Place). x.level) (cell_place_lem k (r / ratio p) (c / ratio p) (omega arith) jr lc)

    -- a cell of the next level is present just where the cell above it is refined
    up : not (absent cells (cell_number p (at (suc k) r c))) ≡ refined cells over
    up = rw (← over_child)
        ((mesh_fits p cells mesh over (unfold over in cell_lt k (r / ratio p) (c / ratio p) (omega arith) jr lc)).below (omega (arith, over_level))
        (r % ratio p) (c % ratio p) (mod-lt _ (ratio_pos p)) (mod-lt _ (ratio_pos p)))

  abbrev present : ℕ → Bool
  present n = not (absent cells n)

  -- the square of the ratio
  abbrev q : ℕ
  q = ratio p * ratio p

  next_present : (k : ℕ) → suc k < p.levels → on (suc k) present ≡ q * on k (refined cells)
  unfolding over
  next_present k i =
      let g : ℕ → ℕ → ℕ = λ r c. one (refined cells (cell_number p (at k r c))) in
      let row : ℕ → ℕ = λ r. sum (w k) (g r) in
      let across : (r : ℕ) → sum (w (suc k)) (λ c. g (r / ratio p) (c / ratio p)) ≡ ratio p * row (r / ratio p)
      = λ r. rw next (sum_digits (w k) (ratio p) (g (r / ratio p))) in
      let upward : sum (h (suc k)) (λ r. ratio p * row (r / ratio p)) ≡ ratio p * sum (h k) (λ r. ratio p * row r)
      = rw next (sum_digits (h k) (ratio p) (λ r. ratio p * row r)) in
      let all : ratio p * sum (h k) (λ r. ratio p * row r) ≡ q * sum (h k) row = rw (sum_mul (h k) (ratio p) row, mul_assoc) in
      sum_same (h (suc k)) _ (λ r. ratio p * row (r / ratio p))
      (λ r j. sum_same (w (suc k)) _ (λ c. g (r / ratio p) (c / ratio p)) (λ c l. ap one (up k r c i j l)) ∙ across r)
      ∙ (upward ∙ all)

  -- a present cell is active or refined
  on_present : (k : ℕ) → k < p.levels → on k present ≡ on k (active cells) + on k (refined cells)
  unfolding absent active refined
  on_present k i =
      sum_same (h k) _ (λ r. sum (w k) (λ c. one (active cells (cell_number p (at k r c)))) + sum (w k) (λ c. one (refined cells (cell_number p (at k r c)))))
      (λ r j. sum_same (w k) _ (λ c. one (active cells (cell_number p (at k r c))) + one (refined cells (cell_number p (at k r c))))
      (λ c l. bytes (get_or cells (cell_number p (at k r c)) 0) (mesh_fits p cells mesh (cell_number p (at k r c)) (cell_lt k r c i j l)).byte) ∙ sum_add (w k) _ _)
      ∙ sum_add (h k) _ _

  on_ground : on 0 present ≡ h 0 * w 0
  on_ground =
      sum_same (h 0) _ (λ r. w 0) (λ r j. sum_same (w 0) _ (λ c. 1) (λ c l.
      let e : cell_level p (cell_number p (at 0 r c)) ≡ 0 = ap (λ (x : Place). x.level) (cell_place_lem 0 r c range.levels≥ j l) in
      ap one (T_true (present (cell_number p (at 0 r c))) ((mesh_fits p cells mesh (cell_number p (at 0 r c)) (cell_lt 0 r c range.levels≥ j l)).first e))) ∙ (sum_const (w 0) 1 ∙ mul-one (w 0)))
      ∙ sum_const (h 0) (w 0)

  on_last : (k : ℕ) → suc k ≡ p.levels → on k (refined cells) ≡ 0
  on_last k e =
      let i : k < p.levels = omega arith in
      sum_zero (h k) _ (λ r j. sum_zero (w k) _ (λ c l.
      let f : cell_level p (cell_number p (at k r c)) ≡ k = ap (λ (x : Place). x.level) (cell_place_lem k r c i j l) in
      ap one (T_false (refined cells (cell_number p (at k r c))) (λ t. (mesh_fits p cells mesh (cell_number p (at k r c)) (cell_lt k r c i j l)).shallow t (omega arith)))))

  -- what a cell of level k counts
  abbrev weight : ℕ → ℕ
  weight k = q ^ (p.levels - 1 - k)

  weight_suc : (k : ℕ) → suc k < p.levels → weight k ≡ weight (suc k) * q
  weight_suc k i = rw (← pow-suc) (ap (λ x. q ^ x) (omega arith))

  -- the levels to n, and what is refined on n
  upto : (n : ℕ) → n < p.levels → sum (suc n) (λ k. weight k * on k (active cells)) + weight n * on n (refined cells) ≡ weight 0 * (h 0 * w 0)
  unfolding sum
  upto zero i = base (weight 0) (on 0 (active cells)) (on 0 (refined cells)) (h 0 * w 0) (sym on_ground ∙ on_present 0 i)
  upto (suc n) i =
      step (sum (suc n) (λ k. weight k * on k (active cells))) q (weight n) (weight (suc n)) (on (suc n) (active cells)) (on (suc n) (refined cells)) (on n (refined cells)) (weight_suc n i)
      (sym (on_present (suc n) i) ∙ next_present n i) (upto n (omega arith))

  by_level : area_of p cells ≡ sum p.levels (λ k. weight k * on k (active cells))
  unfolding area_of
  by_level = sum_levels w h p.levels _ ∙ sum_same p.levels _ _ (λ k i.
      sum_same (h k) _ (λ r. weight k * sum (w k) (λ c. one (active cells (cell_number p (at k r c))))) (λ r j.
      sum_same (w k) _ (λ c. weight k * one (active cells (cell_number p (at k r c)))) (λ c l.
      ap (λ (x : Place). cond (active cells (cell_number p (at k r c))) (q ^ (p.levels - 1 - x.level)) 0) (cell_place_lem k r c i j l)
      ∙ weigh (active cells (cell_number p (at k r c))) (weight k)) ∙ sum_mul (w k) (weight k) _) ∙ sum_mul (h k) (weight k) _)

  -- what all levels sum to
  total : (M : ℕ) → suc M ≡ p.levels → sum p.levels (λ k. weight k * on k (active cells)) ≡ weight 0 * (h 0 * w 0)
  total M e =
      let t : sum (suc M) (λ k. weight k * on k (active cells)) + weight M * 0 ≡ weight 0 * (h 0 * w 0) = rw (on_last M e) at (upto M (omega arith)) in
      omega (arith, ap (λ n. sum n (λ k. weight k * on k (active cells))) e)

  -- document 01: "The area of a wall is A·B·4^(L-1)", over the ratio
  pub area : area_of p cells ≡ p.columns * p.rows * (ratio p * ratio p) ^ (p.levels - 1)
  area =
      let t : sum p.levels (λ k. weight k * on k (active cells)) ≡ weight 0 * (h 0 * w 0) = total (p.levels - 1) (omega (arith, range.levels≥)) in
      let a : h 0 ≡ p.rows = unfold grown in simp (pow-zero, mul-one) in
      let b : w 0 ≡ p.columns = unfold grown in simp (pow-zero, mul-one) in
      let d : weight 0 ≡ q ^ (p.levels - 1) = ap (λ n. q ^ n) (sub-zero (p.levels - 1)) in
      by_level ∙ (t ∙ rw (a, b, d) (omega arith))

  -- the same with the ratio as it is
  pub area_4 : area_of p cells ≡ p.columns * p.rows * 4 ^ (p.levels - 1)
  unfolding ratio
  area_4 = area
