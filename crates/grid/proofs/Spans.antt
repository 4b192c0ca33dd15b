-- Supports and neighbourhoods, as facts and as rectangles; no support is empty. Assumes nothing.
use Prim.Native.Nat.{ℕ, suc, pred, ◌-◌, ◌*◌, ◌<◌, ◌≤◌}
use native.Mathlib.Omega.{arith}
use mathlib.Core.Bool.{Bool, ◌&&◌}
use mathlib.Core.Path.{◌≡◌, refl, ap, ◌∙◌}
use lib.Dec.{T, leb, ltb, eqb, leb→le, le→leb, ltb→lt, lt→ltb, eqb→eq}
use Rattle.facts.proofs.Tests.{and_i, and_l, and_r, same, eqb_of, T_true}
use Rattle.grid.specs.declared.Plan.{Plan}
use Rattle.grid.specs.declared.Place.{Place}
use Rattle.grid.specs.declared.Span.{Span}
use Rattle.grid.specs.declared.Rectangle.{Rectangle}
use Rattle.grid.specs.Plan.{ratio, grown, below, across_at, up_at, columns_at, rows_at, function_columns_at, function_rows_at, cell_total, function_total, cell_place, cell_number, function_place, cell_level, function_level, CellInside, FunctionInside, supported_at, supported, ancestor, near_at, near}
use Rattle.grid.specs.Knots.{functions, covers}
use Rattle.grid.specs.Side.{support_span}
use Rattle.grid.specs.Range.{InRange, HasNeighbourhood}
use Rattle.grid.specs.Spans.{in_span, in_rectangle, support_of, near_level, ancestor_level, around, ancestor_of, parents_of, neighbourhood}
use Rattle.grid.proofs.Direction.{grown_ancestor, grown_more}
use Rattle.grid.proofs.Laws.{ratio_pos, across_sized, up_sized, Near, near_fact, near_test, near_places, function_inside, cell_inside, cell_number_lt, cell_place_number}
use Rattle.grid.proofs.SideLaws.{SpanIn, support_is, support_span_in, coarser_e, coarser_i}

-- ---- spans and rectangles

pub span_same : {s t : Span} → s.first ≡ t.first → s.end ≡ t.end → s ≡ t
span_same a b = λ i. record { first = a i; end = b i }

pub record InSpan (s : Span) (x : ℕ) : Type 0 where
  pub from : s.first ≤ x
  pub to : x < s.end

pub span_fact : (s : Span) (x : ℕ) → T (in_span s x) → InSpan s x
unfolding in_span
span_fact s x t = record {
  from = leb→le s.first x (and_l (leb s.first x) (ltb x s.end) t);
  to = ltb→lt x s.end (and_r (leb s.first x) (ltb x s.end) t);
}

pub span_test : (s : Span) (x : ℕ) → InSpan s x → T (in_span s x)
unfolding in_span
span_test s x i = and_i (leb s.first x) (ltb x s.end) (le→leb s.first x i.from) (lt→ltb x s.end i.to)

pub record InRectangle (r : Rectangle) (c : Place) : Type 0 where
  pub level : r.level ≡ c.level
  pub columns : InSpan r.columns c.column
  pub rows : InSpan r.rows c.row

module _ (r : Rectangle) (c : Place) where
  abbrev leveled : Bool
  leveled = eqb r.level c.level

  abbrev columned : Bool
  columned = in_span r.columns c.column

  abbrev rowed : Bool
  rowed = in_span r.rows c.row

  pub rectangle_fact : T (in_rectangle r c) → InRectangle r c
  unfolding in_rectangle
  rectangle_fact t =
      let u : T (columned && rowed) = and_r leveled _ t in
      record {
        level = eqb→eq r.level c.level (and_l leveled _ t);
        columns = span_fact _ _ (and_l columned rowed u);
        rows = span_fact _ _ (and_r columned rowed u);
      }

  pub rectangle_test : InRectangle r c → T (in_rectangle r c)
  unfolding in_rectangle
  rectangle_test i =
      let a : T leveled = eqb_of _ _ i.level in
      let d : T columned = span_test _ _ i.columns in
      let e : T rowed = span_test _ _ i.rows in
      and_i leveled _ a (and_i columned rowed d e)

-- ---- supports

-- what `supported_at` tests, as facts
pub record Supported (p : Plan) (f c : Place) : Type 0 where
  pub level : f.level ≡ c.level
  pub columns : T (covers (across_at p c.level) f.column c.column)
  pub rows : T (covers (up_at p c.level) f.row c.row)

module _ (p : Plan) (f c : Place) where
  abbrev level_covered : Bool
  level_covered = eqb f.level c.level

  abbrev columns_covered : Bool
  columns_covered = covers (across_at p f.level) f.column c.column

  abbrev rows_covered : Bool
  rows_covered = covers (up_at p f.level) f.row c.row

  supported_fact : T (supported_at p f c) → Supported p f c
  unfolding supported_at
  supported_fact t =
      let e : f.level ≡ c.level = eqb→eq f.level c.level (and_l level_covered _ t) in
      let u : T (columns_covered && rows_covered) = and_r level_covered _ t in
      record { level = e; columns = rw e at (and_l columns_covered rows_covered u); rows = rw e at (and_r columns_covered rows_covered u) }

  supported_test : Supported p f c → T (supported_at p f c)
  unfolding supported_at
  supported_test s =
      let e = s.level in
      and_i level_covered _ (eqb_of _ _ e) (and_i columns_covered rows_covered (rw e s.columns) (rw e s.rows))

module _ (p : Plan) (range : InRange p) where
  -- a cell lies in a function's support just where it lies in the rectangle
  pub supported_rectangle : (f c : Place) → supported_at p f c ≡ in_rectangle (support_of p f) c
  unfolding supported_at in_rectangle support_of
  supported_rectangle f c = rw (support_is (across_at p f.level) (across_sized p range f.level) f.column c.column, support_is (up_at p f.level) (up_sized p range f.level) f.row c.row) refl

  pub supported_places : (f c : ℕ) → c < cell_total p → T (supported p f c) → Supported p (function_place p f) (cell_place p c)
  unfolding supported
  supported_places f c b t = supported_fact p (function_place p f) (cell_place p c) t

  pub supported_of : (f c : ℕ) → Supported p (function_place p f) (cell_place p c) → T (supported p f c)
  unfolding supported
  supported_of f c s = supported_test p (function_place p f) (cell_place p c) s

  -- the cells of a function's support are those of its rectangle
  pub supported_is : (f c : ℕ) → supported p f c ≡ in_rectangle (support_of p (function_place p f)) (cell_place p c)
  unfolding supported
  supported_is f c = supported_rectangle (function_place p f) (cell_place p c)

-- how many functions a level has across and up
pub across_functions : (p : Plan) (k : ℕ) → functions (across_at p k) ≡ function_columns_at p k
unfolding functions
across_functions p k = refl

pub up_functions : (p : Plan) (k : ℕ) → functions (up_at p k) ≡ function_rows_at p k
unfolding functions
up_functions p k = refl

-- no function's support is empty
pub support_some : (p : Plan) (range : InRange p) (f : ℕ) → f < function_total p → (c : ℕ) × (c < cell_total p) × T (supported p f c)
support_some p range f b = (cell_number p x, cell_number_lt p range x i, supported_of p range f (cell_number p x) (rw (cell_place_number p range x i) s))
  where
    k : ℕ
    k = function_level p f

    at : FunctionInside p (function_place p f)
    at = function_inside p range f b

    across : SpanIn (columns_at p k) (support_span (across_at p k) (function_place p f).column)
    across = support_span_in (across_at p k) (across_sized p range k) (function_place p f).column (rw (across_functions p k) at.column<)

    up : SpanIn (rows_at p k) (support_span (up_at p k) (function_place p f).row)
    up = support_span_in (up_at p k) (up_sized p range k) (function_place p f).row (rw (up_functions p k) at.row<)

    x : Place
    x = record { level = k; row = (support_span (up_at p k) (function_place p f).row).first; column = (support_span (across_at p k) (function_place p f).column).first }

    i : CellInside p x
    i = record { level< = at.level<; row< = omega (arith, up.some, up.within); column< = omega (arith, across.some, across.within) }

    first_column : InSpan (support_span (across_at p k) (function_place p f).column) x.column
    first_column = omega (arith, across.some)

    first_row : InSpan (support_span (up_at p k) (function_place p f).row) x.row
    first_row = omega (arith, up.some)

    s : Supported p (function_place p f) x
    s = record {
      level = refl;
      columns = rw (support_is (across_at p k) (across_sized p range k) (function_place p f).column x.column) at (span_test _ _ first_column);
      rows = rw (support_is (up_at p k) (up_sized p range k) (function_place p f).row x.row) at (span_test _ _ first_row);
    }

-- ---- neighbourhoods

-- the level of the ancestor is the one below the neighbourhood's
pub level_below : (p : Plan) (j : ℕ) → InRange p → HasNeighbourhood p j → ancestor_level p j ≡ suc (near_level p j)
level_below p j range has = omega (arith, range.class≢, has.class≢, has.level≥)

-- a cell's ancestor is a cell
pub ancestor_in : (p : Plan) → InRange p → (q : Place) → HasNeighbourhood p q.level → CellInside p q → CellInside p (ancestor_of p q)
unfolding ancestor_of ancestor
ancestor_in p range q g i =
    let l : p.class - 2 ≤ q.level = omega arith in
    let b : q.level - (p.class - 2) < p.levels = omega arith in
    record {
      level< = b;
      row< = grown_ancestor (ratio p) (ratio_pos p) p.rows q.level (p.class - 2) q.row l i.row<;
      column< = grown_ancestor (ratio p) (ratio_pos p) p.columns q.level (p.class - 2) q.column l i.column<;
    }

-- a cell that is near q lies on the level of q's neighbourhood, which q has
pub near_has : (p : Plan) (q c : Place) → Near p q c → HasNeighbourhood p q.level
near_has p q c n = let l = n.levels in record { class≢ = n.graded; level≥ = omega arith }

module _ (p : Plan) (range : InRange p) (q c : Place) (has : HasNeighbourhood p q.level) (at : CellInside p q) (inside : CellInside p c) where
  -- a cell is in the neighbourhood of q just where it lies in the rectangle
  pub near_rectangle : near_at p q c ≡ in_rectangle (neighbourhood p q) c
  unfolding neighbourhood parents_of around ancestor_of below
  near_rectangle = same (near_at p q c) (in_rectangle (neighbourhood p q) c) to from
    where
      k : ℕ
      k = q.level - (p.class - 2)

      level_is : (neighbourhood p q).level ≡ pred k
      level_is = refl

      a : CellInside p (ancestor_of p q)
      a = ancestor_in p range q has at

      w : (b : ℕ) → grown (ratio p) b (suc c.level) ≡ grown (ratio p) b c.level * ratio p
      w b = grown_more (ratio p) (ratio_pos p) b (suc c.level) (omega arith)

      to : T (near_at p q c) → T (in_rectangle (neighbourhood p q) c)
      to t =
          let n = near_fact p q c t in
          let e : k ≡ suc c.level = omega (arith, n.levels, range.class≢, has.class≢, has.level≥) in
          rectangle_test (neighbourhood p q) c (record {
            level = level_is ∙ ap pred e;
            columns = span_fact _ _ (rw e (coarser_i (ratio p) (ratio_pos p) (across_at p (suc c.level)) (across_sized p range (suc c.level)) (columns_at p c.level) (w p.columns) (ancestor p (p.class - 2) q.column) (rw e at a.column<) c.column n.right inside.column< n.right< n.common.columns));
            rows = span_fact _ _ (rw e (coarser_i (ratio p) (ratio_pos p) (up_at p (suc c.level)) (up_sized p range (suc c.level)) (rows_at p c.level) (w p.rows) (ancestor p (p.class - 2) q.row) (rw e at a.row<) c.row n.down inside.row< n.down< n.common.rows));
          })

      from : T (in_rectangle (neighbourhood p q) c) → T (near_at p q c)
      from t =
          let i = rectangle_fact (neighbourhood p q) c t in
          let f : pred k ≡ c.level = i.level in
          let e : k ≡ suc c.level = omega (arith, level_below p q.level range has) in
          let (b, m, u) = coarser_e (ratio p) (ratio_pos p) (across_at p (suc c.level)) (across_sized p range (suc c.level)) (columns_at p c.level) (w p.columns) (ancestor p (p.class - 2) q.column) (rw e at a.column<) c.column inside.column< (rw e at (span_test _ _ i.columns)) in
          let (d, l, v) = coarser_e (ratio p) (ratio_pos p) (up_at p (suc c.level)) (up_sized p range (suc c.level)) (rows_at p c.level) (w p.rows) (ancestor p (p.class - 2) q.row) (rw e at a.row<) c.row inside.row< (rw e at (span_test _ _ i.rows)) in
          near_test p q c (record {
            graded = has.class≢;
            levels = omega (arith, has.level≥, has.class≢, range.class≢);
            down = d;
            right = b;
            down< = l;
            right< = m;
            common = record { columns = u; rows = v };
          })

module _ (p : Plan) (range : InRange p) (q c : ℕ) where
  pub near_neighbourhood : T (near p q c) → HasNeighbourhood p (cell_level p q)
  near_neighbourhood t = near_has p (cell_place p q) (cell_place p c) (near_places p range q c t)

  -- the cells near q are those of its rectangle
  pub near_is : q < cell_total p → c < cell_total p → HasNeighbourhood p (cell_level p q) → near p q c ≡ in_rectangle (neighbourhood p (cell_place p q)) (cell_place p c)
  unfolding near
  near_is a b has = rw (T_true (ltb c (cell_total p)) (lt→ltb c (cell_total p) b)) (near_rectangle p range (cell_place p q) (cell_place p c) has (cell_inside p range q a) (cell_inside p range c b))
