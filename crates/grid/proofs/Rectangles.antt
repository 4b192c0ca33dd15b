-- Rectangles of a plan's cells: the support of a function, the children and the neighbourhood of a cell are some, and the numbers of a rectangle's cells are counted row by row.
-- Assumes nothing.
use Prim.Native.Nat.{ℕ, suc, pred, ◌+◌, ◌-◌, ◌*◌, ◌/◌, ◌<◌, ◌≤◌}
use native.Mathlib.Nat.{mod-lt, div-add-mod'}
use native.Mathlib.Numerals.{add-one}
use native.Mathlib.Omega.{arith}
use mathlib.Core.Path.{◌≡◌, refl, sym, ap, ◌∙◌}
use lib.Dec.{T}
use lib.Arith.{digits_div}
use Rattle.grid.specs.declared.Plan.{Plan}
use Rattle.grid.specs.declared.Place.{Place}
use Rattle.grid.specs.declared.Rectangle.{Rectangle}
use Rattle.grid.specs.Plan.{ratio, grown, columns_at, rows_at, across_at, up_at, cell_total, cell_place, cell_number, cell_level, CellInside, FunctionInside, above, parent}
use Rattle.grid.specs.Range.{InRange, HasNeighbourhood}
use Rattle.grid.specs.Spans.{in_rectangle, support_of, finer_span, children_of, near_level, ancestor_level, around, ancestor_of, coarser_span, parents_of, neighbourhood}
use Rattle.grid.specs.Side.{around_span}
use Rattle.grid.proofs.Direction.{grown_down, grown_more}
use Rattle.grid.proofs.SideLaws.{SpanIn, support_span_in, around_span_in, coarser_span_in}
use Rattle.grid.proofs.Laws.{ratio_pos, across_sized, up_sized, cell_number_lt, cell_number_place, cell_place_number, parent_place}
use Rattle.grid.proofs.Spans.{InSpan, InRectangle, rectangle_fact, rectangle_test, level_below, ancestor_in, across_functions, up_functions}

abbrev at : ℕ → ℕ → ℕ → Place
at k r c = record { level = k; row = r; column = c }

-- a rectangle of the plan's cells
pub record RectangleIn (p : Plan) (r : Rectangle) : Type 0 where
  pub level< : r.level < p.levels
  pub rows : SpanIn (rows_at p r.level) r.rows
  pub columns : SpanIn (columns_at p r.level) r.columns

-- ---- its cells

module _ (p : Plan) (range : InRange p) (r : Rectangle) (i : RectangleIn p r) where
  module _ (y x : ℕ) (rows : InSpan r.rows y) (columns : InSpan r.columns x) where
    pub rectangle_inside : CellInside p (at r.level y x)
    rectangle_inside =
        let n = i.rows.within in
        let e = i.columns.within in
        record { level< = i.level<; row< = omega (arith, rows.to); column< = omega (arith, columns.to) }

    pub rectangle_lt : cell_number p (at r.level y x) < cell_total p
    rectangle_lt = cell_number_lt p range _ rectangle_inside

    pub rectangle_place : cell_place p (cell_number p (at r.level y x)) ≡ at r.level y x
    rectangle_place = cell_place_number p range _ rectangle_inside

    pub rectangle_has : T (in_rectangle r (cell_place p (cell_number p (at r.level y x))))
    rectangle_has = rw rectangle_place (rectangle_test r (at r.level y x) (record { level = refl; columns = columns; rows = rows }))

  module _ (c : ℕ) (b : c < cell_total p) (t : T (in_rectangle r (cell_place p c))) where
    pub cell_in_rectangle : InRectangle r (cell_place p c)
    cell_in_rectangle = rectangle_fact r (cell_place p c) t

    pub rectangle_number : c ≡ cell_number p (at r.level (cell_place p c).row (cell_place p c).column)
    rectangle_number =
        let e : (cell_place p c).level ≡ r.level = sym cell_in_rectangle.level in
        sym (cell_number_place p range c b) ∙ (λ j. cell_number p (at (e j) (cell_place p c).row (cell_place p c).column))

-- ---- the children of a cell

-- one direction: the columns on x are those that x is above
module _ (s x y : ℕ) (z : 0 < s) where
  finer_down : InSpan (finer_span s x) y → y / s ≡ x
  unfolding finer_span
  finer_down i =
      let low : x * s ≤ y = i.from in
      let high : y < x * s + s = i.to in
      let e : y ≡ x * s + (y - x * s) = omega arith in
      rw e (digits_div x (omega arith))

  finer_up : y / s ≡ x → InSpan (finer_span s x) y
  unfolding finer_span
  finer_up e = let d = div-add-mod' y s in let m = mod-lt y z in let q : y / s * s ≡ x * s = ap (λ n. n * s) e in omega arith

finer_in : (s b k x : ℕ) → 0 < s → x < grown s b k → SpanIn (grown s b (suc k)) (finer_span s x)
unfolding finer_span
finer_in s b k x z l = record { some = omega arith; within = omega (arith, grown_down s z b k x (s - 1) l (omega arith)) }

pub children_in : (p : Plan) → (x : Place) → x.level + 1 < p.levels → CellInside p x → RectangleIn p (children_of p x)
unfolding children_of
children_in p x l i = record {
  level< = l;
  rows = rw (add-one x.level) (finer_in (ratio p) p.rows x.level x.row (ratio_pos p) i.row<);
  columns = rw (add-one x.level) (finer_in (ratio p) p.columns x.level x.column (ratio_pos p) i.column<);
}

-- its rectangle has the cells whose parent it is
module _ (p : Plan) (range : InRange p) (c d : ℕ) (b : c < cell_total p) (e : d < cell_total p) where
  pub in_children : 0 < cell_level p d → parent p d ≡ c → T (in_rectangle (children_of p (cell_place p c)) (cell_place p d))
  unfolding children_of above
  in_children z q =
      let a : above p (cell_place p d) ≡ cell_place p c = sym (parent_place p range d e z) ∙ ap (cell_place p) q in
      let l : pred (cell_level p d) + 1 ≡ cell_level p d = omega arith in
      rectangle_test _ _ (record {
        level = rw (← a) l;
        columns = rw (← a) (finer_up (ratio p) _ _ (ratio_pos p) refl);
        rows = rw (← a) (finer_up (ratio p) _ _ (ratio_pos p) refl);
      })

  pub children_parent : T (in_rectangle (children_of p (cell_place p c)) (cell_place p d)) → (0 < cell_level p d) × (parent p d ≡ c)
  unfolding children_of above parent
  children_parent t =
      let i = rectangle_fact (children_of p (cell_place p c)) (cell_place p d) t in
      let z : 0 < cell_level p d = omega (arith, i.level) in
      let l : pred (cell_level p d) ≡ cell_level p c = omega (arith, i.level) in
      let a : above p (cell_place p d) ≡ cell_place p c = λ j. record {
        level = l j;
        row = finer_down (ratio p) _ _ (ratio_pos p) i.rows j;
        column = finer_down (ratio p) _ _ (ratio_pos p) i.columns j;
      } in
      (z, ap (cell_number p) a ∙ cell_number_place p range c b)

-- ---- supports and neighbourhoods

pub support_in : (p : Plan) → InRange p → (x : Place) → FunctionInside p x → RectangleIn p (support_of p x)
unfolding support_of
support_in p range x i = record {
  level< = i.level<;
  rows = support_span_in (up_at p x.level) (up_sized p range x.level) x.row (rw (up_functions p x.level) i.row<);
  columns = support_span_in (across_at p x.level) (across_sized p range x.level) x.column (rw (across_functions p x.level) i.column<);
}

pub ancestor_level_lem : (p : Plan) (x : Place) → (ancestor_of p x).level ≡ ancestor_level p x.level
unfolding ancestor_of
ancestor_level_lem p x = refl

pub neighbourhood_level : (p : Plan) → InRange p → (x : Place) → HasNeighbourhood p x.level → (neighbourhood p x).level ≡ near_level p x.level
unfolding neighbourhood parents_of around ancestor_of
neighbourhood_level p range x has = ap pred (level_below p x.level range has)

-- the cells on which those near a cell stand
module _ (p : Plan) (range : InRange p) (a : Place) (i : CellInside p a) (z : 1 ≤ a.level) where
  pub parents_around_in : RectangleIn p (parents_of p (around p a))
  unfolding parents_of around
  parents_around_in = go (pred a.level) (omega arith)
    where
      w : (b k : ℕ) → grown (ratio p) b (suc k) ≡ grown (ratio p) b k * ratio p
      w b k = grown_more (ratio p) (ratio_pos p) b (suc k) (omega arith)

      go : (k : ℕ) → a.level ≡ suc k → RectangleIn p (record { level = k; rows = coarser_span (ratio p) (around_span (up_at p a.level) a.row); columns = coarser_span (ratio p) (around_span (across_at p a.level) a.column) })
      go k e = record {
        level< = omega (arith, e, i.level<);
        rows = rw e (coarser_span_in (ratio p) (ratio_pos p) (up_at p (suc k)) (up_sized p range (suc k)) (rows_at p k) (w p.rows k) a.row (rw e at i.row<));
        columns = rw e (coarser_span_in (ratio p) (ratio_pos p) (across_at p (suc k)) (across_sized p range (suc k)) (columns_at p k) (w p.columns k) a.column (rw e at i.column<));
      }

  -- what code asks of those near it
  pub around_ends : (1 ≤ (around p a).level) × (1 ≤ (around p a).rows.end) × (1 ≤ (around p a).columns.end)
  unfolding around
  around_ends =
      let r = around_span_in (up_at p a.level) (up_sized p range _) a.row i.row< in
      let c = around_span_in (across_at p a.level) (across_sized p range _) a.column i.column< in
      (z, omega (arith, r.some), omega (arith, c.some))

-- the ancestor is of a level that has one before it
pub ancestor_below : (p : Plan) → InRange p → (x : Place) → HasNeighbourhood p x.level → 1 ≤ (ancestor_of p x).level
ancestor_below p range x has = omega (arith, ancestor_level_lem p x, level_below p x.level range has)

pub neighbourhood_in : (p : Plan) → InRange p → (x : Place) → HasNeighbourhood p x.level → CellInside p x → RectangleIn p (neighbourhood p x)
unfolding neighbourhood
neighbourhood_in p range x has i = parents_around_in p range (ancestor_of p x) (ancestor_in p range x has i) (ancestor_below p range x has)
