-- What a function has of those of the next level: the shares in one make 1, and formula 2 of document 000 holds in both directions. Assumes
-- nothing.
use mathlib.Core.Path.{◌≡◌, refl, sym, ap, ap₂, subst, ◌∙◌}
use mathlib.Core.Logic.{◌≢◌}
use Prim.Native.Nat.{ℕ, suc, pred, ◌+◌, ◌-◌, ◌*◌, ◌/◌, ◌≤◌, ◌<◌, zero-le}
use native.Mathlib.Nat.{le_of_eq, add-sub_of_le, add-zero, zero-add, zero-mul, mul-zero, mul_comm}
use native.Mathlib.Omega.{arith}
use lib.Dec.{T, eqb, eqb→eq, eqb_refl}
use Rattle.facts.specs.Bounded.{sum}
use Rattle.facts.proofs.Sums.{sum_same, sum_zero, sum_split, sum_rows, sum_mul}
use Rattle.facts.proofs.Tests.{cases, differ, zero_or, T_true, T_false}
use Rattle.grid.specs.declared.Plan.{Plan}
use Rattle.grid.specs.declared.Place.{Place}
use Rattle.grid.specs.Numbering.{number}
use Rattle.grid.specs.Range.{InRange}
use Rattle.grid.specs.Plan.{ratio, across_at, up_at, cell_total, cell_place, cell_level, above, parent, supported, function_columns_at, function_rows_at, function_offset, function_total, function_place, function_level, FunctionInside}
use Rattle.grid.specs.Knots.{covers}
use Rattle.grid.proofs.Laws.{parent_place, function_inside, function_number_place}
use Rattle.grid.proofs.Levels.{offset_next, offset_mono, level_before, level_from}
use Rattle.grid.proofs.Spans.{Supported, supported_places, supported_of}
use Rattle.grid.proofs.Sides.{across_functions, up_functions}
use Rattle.heights.specs.Heights.{eighths, on_mesh, value_at}
use Rattle.heights.specs.Steps.{Point}
use Rattle.heights.proofs.Points.{eighths_up, on_across, on_up, place_at}
use Rattle.splines.specs.Values.{value_on}
use Rattle.twoscale.specs.TwoScale.{quarters}
use Rattle.carry.specs.Carry.{sixteenths, share}
use Rattle.carry.specs.Steps.{Allowed, Scales}

-- ---- levels

module _ (p : Plan) (range : InRange p) where
  module _ (f : ℕ) (b : f < function_total p) (k : ℕ) where
    pub before : f < function_offset p k → function_level p f < k
    before = level_before (function_columns_at p) (function_rows_at p) p.levels f (function_inside p range f b) (function_number_place p range f b) k

    from : function_offset p k ≤ f → k ≤ function_level p f
    from = level_from (function_columns_at p) (function_rows_at p) p.levels f (function_inside p range f b) (function_number_place p range f b) k

  -- numbers rise with levels
  level_mono : (f g : ℕ) → f < function_total p → g < function_total p → f ≤ g → function_level p f ≤ function_level p g
  unfolding number
  level_mono f g b d l = from g d (function_level p f) (omega (arith, function_number_place p range f b))

-- of n numbers only the m from c on are not zero
sum_window : (n c m : ℕ) (f : ℕ → ℕ) → c + m ≤ n → ((k : ℕ) → k < c → f k ≡ 0) → ((k : ℕ) → c + m ≤ k → k < n → f k ≡ 0) → sum n f ≡ sum m (λ k. f (c + k))
sum_window n c m f h before after =
    ap (λ z. sum z f) (sym (add-sub_of_le h))
    ∙ sum_split (c + m) (n - (c + m)) f
    ∙ rw (sum_zero (n - (c + m)) (λ k. f (c + m + k)) (λ k l. after (c + m + k) (omega arith) (omega arith)), add-zero)
    (sum_split c m f ∙ rw (sum_zero c f before, zero-add))

-- a sum over all functions of which only those of level k count, by row and column
sum_level : (p : Plan) → InRange p → (k : ℕ) → k < p.levels → (v : Place → ℕ) → ((x : Place) → x.level ≢ k → v x ≡ 0)
    → sum (function_total p) (λ f. v (function_place p f)) ≡ sum (function_rows_at p k) (λ r. sum (function_columns_at p k) (λ c. v (record { level = k; row = r; column = c })))
sum_level p range k l v none =
    let W = function_columns_at p in
    let R = function_rows_at p in
    let next = offset_next W R k in
    let last = offset_mono W R (k + 1) p.levels (omega arith) in
    sum_window (function_total p) (function_offset p k) (R k * W k) _ (omega arith)
    (λ f m. none (function_place p f) (let b : f < function_total p = omega arith in omega (arith, before p range f b k m)))
    (λ f m b. none (function_place p f) (omega (arith, from p range f b (k + 1) (omega arith))))
    ∙ sum_rows (R k) (W k) _
    ∙ sum_same (R k) _ _ (λ r m. sum_same (W k) _ _ (λ c n. ap v (place_at p range k l r c m n)))

-- a sum of products over rows and columns
sum_both : (h w : ℕ) (a b : ℕ → ℕ) → sum h (λ r. sum w (λ c. a c * b r)) ≡ sum w a * sum h b
sum_both h w a b =
    sum_same h _ (λ r. sum w a * b r) (λ r m. sum_same w _ (λ c. b r * a c) (λ c n. mul_comm (a c) (b r)) ∙ sum_mul w (b r) a ∙ mul_comm (b r) _)
    ∙ sum_mul h (sum w a) b

four : (a b c d : ℕ) → a * b * (c * d) ≡ a * c * (b * d)
four a b c d = omega arith

-- a cell has twice as many points as one of the next level
halves : (p : Plan) (k : ℕ) → suc k < p.levels → eighths p k ≡ 2 * eighths p (suc k)
unfolding ratio
halves p k l =
    let e : k ≡ suc k - 1 = omega arith in
    ap (eighths p) e ∙ sym (eighths_up p (suc k) (omega arith) l) ∙ mul_comm (eighths p (suc k)) 2

-- ---- shares

module _ (p : Plan) where
  sixteenths_level : (f g : Place) → g.level ≢ suc f.level → sixteenths p f g ≡ 0
  unfolding sixteenths
  sixteenths_level f g n = rw (T_false (eqb g.level (suc f.level)) (λ t. n (eqb→eq g.level (suc f.level) t)))

  sixteenths_is : (k : ℕ) (f g : Place) → f.level ≡ k → g.level ≡ suc k
      → sixteenths p f g ≡ quarters (across_at p k) (across_at p (suc k)) f.column g.column * quarters (up_at p k) (up_at p (suc k)) f.row g.row
  unfolding sixteenths
  sixteenths_is k f g d e = rw (d, e, T_true (eqb (suc k) (suc k)) (eqb_refl (suc k))) refl

  pub share_level : (f g : ℕ) → function_level p g ≢ suc (function_level p f) → share p f g ≡ 0
  share_level f g n = sixteenths_level (function_place p f) (function_place p g) n

module _ (p : Plan) (allowed : Allowed p) (scales : Scales p) where
  pub share_later : (f g : ℕ) → f < function_total p → g ≤ f → share p f g ≡ 0
  share_later f g b l = share_level p f g (omega (arith, level_mono p allowed.range g f (omega arith) b l))

  -- a function that has a share of f has its support within that of f
  within : (f g c : Place) → FunctionInside p f → FunctionInside p g → sixteenths p f g ≢ 0 → Supported p g c → Supported p f (above p c)
  unfolding above ratio
  within f g c a b n s = cases (eqb g.level (suc f.level))
      (λ t. let k = f.level in
      let e = eqb→eq g.level (suc k) t in
      let d : c.level ≡ suc k = omega (arith, s.level) in
      let u : k ≡ pred c.level = omega arith in
      let is = sixteenths_is p k f g refl e in
      let l : suc k < p.levels = omega (arith, b.level<) in
      record {
        level = u;
        columns = subst (λ j. T (covers (across_at p j) f.column (c.column / 2))) u
            ((scales.across k l).within f.column g.column c.column (omega (arith, a.column<, across_functions p k))
            (omega (arith, b.column<, ap (function_columns_at p) e, across_functions p (suc k))) (λ z. n (is ∙ rw z (zero-mul _))) (rw d at s.columns));
        rows = subst (λ j. T (covers (up_at p j) f.row (c.row / 2))) u
            ((scales.up k l).within f.row g.row c.row (omega (arith, a.row<, up_functions p k))
            (omega (arith, b.row<, ap (function_rows_at p) e, up_functions p (suc k))) (λ z. n (is ∙ rw z (mul-zero _))) (rw d at s.rows));
      })
      (λ t. absurd (n (sixteenths_level p f g (differ g.level (suc f.level) t))))

  pub share_within : (f g c : ℕ) → f < function_total p → g < function_total p → c < cell_total p → share p f g ≢ 0
      → T (supported p g c) → 1 ≤ cell_level p c → T (supported p f (parent p c))
  share_within f g c b d i n t l =
      let r = allowed.range in
      supported_of p r f (parent p c)
      (rw (parent_place p r c i l) (within (function_place p f) (function_place p g) (cell_place p c) (function_inside p r f b) (function_inside p r g d) n (supported_places p r g c i t)))

  -- what a function of level k + 1 gets of those of level k
  sum_one : (k : ℕ) → suc k < p.levels → (g : Place) → g.level ≡ suc k → FunctionInside p g → sum (function_total p) (λ f. sixteenths p (function_place p f) g) ≡ 16
  sum_one k l g e i =
      sum_level p allowed.range k (omega arith) (λ f. sixteenths p f g) (λ f n. sixteenths_level p f g (omega arith))
      ∙ sum_same (function_rows_at p k) _ _ (λ r m. sum_same (function_columns_at p k) _ _ (λ c n. sixteenths_is p k (record { level = k; row = r; column = c }) g refl e))
      ∙ sum_both (function_rows_at p k) (function_columns_at p k) (λ c. quarters (across_at p k) (across_at p (suc k)) c g.column) (λ r. quarters (up_at p k) (up_at p (suc k)) r g.row)
      ∙ ap₂ ◌*◌
      (ap (λ n. sum n (λ c. quarters (across_at p k) (across_at p (suc k)) c g.column)) (sym (across_functions p k))
      ∙ (scales.across k l).one g.column (omega (arith, i.column<, ap (function_columns_at p) e, across_functions p (suc k))))
      (ap (λ n. sum n (λ r. quarters (up_at p k) (up_at p (suc k)) r g.row)) (sym (up_functions p k))
      ∙ (scales.up k l).one g.row (omega (arith, i.row<, ap (function_rows_at p) e, up_functions p (suc k))))

  pub share_one : (g : ℕ) → g < function_total p → 1 ≤ function_level p g → sum (function_total p) (λ f. share p f g) ≡ 16
  share_one g b l =
      let i = function_inside p allowed.range g b in
      let e : function_level p g ≡ suc (function_level p g - 1) = omega arith in
      sum_one (function_level p g - 1) (omega (arith, i.level<)) (function_place p g) e i

  pub share_sum : (g : ℕ) → g < function_total p → sum (function_total p) (λ f. share p f g) ≤ 16
  share_sum g b =
      zero_or (function_level p g)
      (λ z. rw (sum_zero (function_total p) (λ f. share p f g) (λ f m. share_level p f g (omega arith))) zero-le)
      (λ l. le_of_eq (share_one g b l))

  -- formula 2 in both directions
  module _ (x y : ℕ) (on : T (on_mesh p x y)) where
    point : Point p x y
    point = record { range = allowed.range; across≤ = allowed.across≤; up≤ = allowed.up≤; levels≤ = allowed.levels≤; inside = on }

    pub two_scale : (f : ℕ) → f < function_total p → suc (function_level p f) < p.levels
        → value_at p x y (function_place p f) ≡ sum (function_total p) (λ g. share p f g * value_at p x y (function_place p g))
    unfolding value_at
    two_scale f b l =
        let k = function_level p f in
        let h = eighths p (suc k) in
        let F = function_place p f in
        let i = function_inside p allowed.range f b in
        let a = on_across p x y point (suc k) l in
        let u = on_up p x y point (suc k) l in
        let twice : eighths p k ≡ 2 * h = halves p k l in
        let ax : ℕ → ℕ = λ c. quarters (across_at p k) (across_at p (suc k)) F.column c * value_on (across_at p (suc k)) h c x in
        let ay : ℕ → ℕ = λ r. quarters (up_at p k) (up_at p (suc k)) F.row r * value_on (up_at p (suc k)) h r y in
        ap₂ ◌*◌
        (ap (λ n. value_on (across_at p k) n F.column x) twice
        ∙ (scales.across k l).formula h x F.column a.parts≥ a.point≤ (omega (arith, i.column<, across_functions p k))
        ∙ ap (λ n. sum n ax) (across_functions p (suc k)))
        (ap (λ n. value_on (up_at p k) n F.row y) twice
        ∙ (scales.up k l).formula h y F.row u.parts≥ u.point≤ (omega (arith, i.row<, up_functions p k))
        ∙ ap (λ n. sum n ay) (up_functions p (suc k)))
        ∙ sym (sum_level p allowed.range (suc k) l (λ g. sixteenths p F g * value_at p x y g) (λ g n. rw (sixteenths_level p F g n) (zero-mul _))
        ∙ sum_same (function_rows_at p (suc k)) _ _ (λ r m. sum_same (function_columns_at p (suc k)) _ _ (λ c n. rw (sixteenths_is p k F (record { level = suc k; row = r; column = c }) refl refl) (four _ _ _ _)))
        ∙ sum_both (function_rows_at p (suc k)) (function_columns_at p (suc k)) ax ay)
