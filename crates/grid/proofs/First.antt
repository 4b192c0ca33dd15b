-- Supports and neighbourhoods by the first functions over columns and rows: function i covers column x where it is one of the
-- degree + 1 functions from the first over x on, and columns whose first functions are at most the degree apart are near. Tables that
-- have a cell at its first functions' place are read by these laws alone. Assumes nothing.
use Prim.Native.Nat.{ℕ, pred, ◌+◌, ◌-◌, ◌*◌, ◌%◌, ◌<◌, ◌≤◌}
use native.Mathlib.Nat.{mod-lt, mul-le-mul_right}
use native.Mathlib.Omega.{arith}
use mathlib.Core.Path.{◌≡◌, refl, sym, ap, subst, ◌∙◌}
use lib.Arith.{digits_div}
use lib.Dec.{T}
use Rattle.grid.specs.declared.Plan.{Plan}
use Rattle.grid.specs.declared.Place.{Place}
use Rattle.grid.specs.declared.Side.{Side}
use Rattle.grid.specs.Plan.{ratio, columns_at, rows_at, cell_total, cell_place, cell_number, cell_level, function_place, CellInside, across_at, up_at, above, parent, supported, ancestor, near}
use Rattle.grid.specs.Range.{InRange, HasNeighbourhood}
use Rattle.grid.specs.Spans.{ancestor_level, around, ancestor_of, parents_of, neighbourhood}
use Rattle.grid.specs.Knots.{covers, first_over}
use Rattle.grid.specs.Side.{Sized}
use Rattle.grid.proofs.Rising.{Apart}
use Rattle.grid.proofs.Knots.{covers_fact, covers_test}
use Rattle.grid.proofs.SideLaws.{together_fact, together_test, coarser_e, span_first, first_span}
use Rattle.grid.proofs.Laws.{ratio_pos, across_sized, up_sized, above_in, below_above, cell_inside, cell_number_lt, cell_place_number, near_in, near_places, near_of, near_child, near_child_in, near_child_above, near_child_level}
use Rattle.grid.proofs.Direction.{grown_unit, grown_more}
use Rattle.grid.proofs.Generations.{ancestor_one}
use Rattle.grid.proofs.Rectangles.{ancestor_below, parents_around_in}
use Rattle.grid.proofs.Spans.{rectangle_fact, span_test, supported_places, supported_of, level_below, ancestor_in, near_is}

-- function i is over column x
pub record Over (s : Side) (i x : ℕ) : Type 0 where
  pub from : first_over s x ≤ i
  pub to : i ≤ first_over s x + s.degree

-- columns under one function have first functions at most the degree apart
common : (s : Side) (i x z : ℕ) → Over s i x → Over s i z → Apart s.degree (first_over s x) (first_over s z)
common s i x z a b = record { right = omega (arith, a.from, b.to); left = omega (arith, b.from, a.to) }

-- a function at f is over the cell at c
pub record Under (p : Plan) (f c : Place) : Type 0 where
  pub level : f.level ≡ c.level
  pub columns : Over (across_at p c.level) f.column c.column
  pub rows : Over (up_at p c.level) f.row c.row

-- the cell at c is around that at a, of the same level
pub record Around (p : Plan) (a c : Place) : Type 0 where
  pub level : a.level ≡ c.level
  pub columns : Apart p.degree_across (first_over (across_at p c.level) c.column) (first_over (across_at p c.level) a.column)
  pub rows : Apart p.degree_up (first_over (up_at p c.level) c.row) (first_over (up_at p c.level) a.row)

over_of : (s : Side) → Sized s → (i x : ℕ) → T (covers s i x) → Over s i x
over_of s sized i x t = let (l, a, b) = covers_fact s sized i x t in record { from = a; to = b }

module _ (p : Plan) (range : InRange p) where
  module _ (f c : ℕ) (b : c < cell_total p) where
    pub supported_under : T (supported p f c) → Under p (function_place p f) (cell_place p c)
    supported_under t =
        let s = supported_places p range f c b t in
        record {
          level = s.level;
          columns = over_of _ (across_sized p range _) _ _ s.columns;
          rows = over_of _ (up_sized p range _) _ _ s.rows;
        }

    pub under_supported : Under p (function_place p f) (cell_place p c) → T (supported p f c)
    under_supported u =
        let i = cell_inside p range c b in
        let columns = u.columns in
        let rows = u.rows in
        supported_of p range f c (record {
          level = u.level;
          columns = covers_test _ (across_sized p range _) _ _ i.column< columns.from columns.to;
          rows = covers_test _ (up_sized p range _) _ _ i.row< rows.from rows.to;
        })

  -- a cell is near q where it has a child around the ancestor of q
  pub near_around : (q c : ℕ) → q < cell_total p → T (near p q c)
      → (e : Place) × CellInside p e × (above p e ≡ cell_place p c) × Around p (ancestor_of p (cell_place p q)) e
  unfolding ancestor_of
  near_around q c a t =
      let n = near_places p range q c t in
      let i = cell_inside p range q a in
      let j = cell_inside p range c (near_in p range q c t) in (
        near_child p range _ _ i j n,
        near_child_in p range _ _ i j n,
        near_child_above p range _ _ i j n,
        record {
          level = near_child_level p range _ _ i j n;
          columns = together_fact _ (across_sized p range _) _ _ n.common.columns;
          rows = together_fact _ (up_sized p range _) _ _ n.common.rows;
        },
      )

  above_level : (e : Place) → (above p e).level ≡ pred e.level
  unfolding above
  above_level e = refl

  above_levels : (j : ℕ) (e : Place) → 0 < e.level → ancestor_level p j ≡ e.level → HasNeighbourhood p j → j + 1 ≡ (above p e).level + p.class
  above_levels j e z l h = omega (arith, above_level e, h.level≥, h.class≢, range.class≢)

  pub around_near : (q : ℕ) (e : Place) → q < cell_total p → HasNeighbourhood p (cell_level p q) → CellInside p e → Around p (ancestor_of p (cell_place p q)) e
      → T (near p q (cell_number p (above p e)))
  unfolding ancestor_of
  around_near q e a h i r =
      let l = r.level in
      let g = h.class≢ in
      let s = h.level≥ in
      let o : CellInside p (ancestor_of p (cell_place p q)) = ancestor_in p range (cell_place p q) h (cell_inside p range q a) in
      let z : 0 < e.level = omega (arith, level_below p (cell_level p q) range h) in
      let u : CellInside p (above p e) = above_in p range e z i in
      near_of p range q (cell_number p (above p e)) (cell_number_lt p range (above p e) u)
      (rw (cell_place_number p range (above p e) u) (record {
        graded = h.class≢;
        levels = above_levels (cell_level p q) e z l h;
        down = e.row % ratio p;
        right = e.column % ratio p;
        down< = mod-lt _ (ratio_pos p);
        right< = mod-lt _ (ratio_pos p);
        common = rw (below_above p range e z) (record {
          columns = together_test _ (across_sized p range _) _ _ i.column< (rw l at o.column<) r.columns;
          rows = together_test _ (up_sized p range _) _ _ i.row< (rw l at o.row<) r.rows;
        });
      }))

  -- a function over both a cell and the ancestor of q makes that cell's parent near q: neighbourhoods are wide enough for supports
  pub near_of_common : (f q d : ℕ) → q < cell_total p → d < cell_total p → HasNeighbourhood p (cell_level p q)
      → T (supported p f (cell_number p (ancestor_of p (cell_place p q)))) → T (supported p f d) → T (near p q (parent p d))
  unfolding parent
  near_of_common f q d i j has t u =
      let a : Place = ancestor_of p (cell_place p q) in
      let b : CellInside p a = ancestor_in p range (cell_place p q) has (cell_inside p range q i) in
      let n : Under p (function_place p f) a = rw (cell_place_number p range a b) at (supported_under f (cell_number p a) (cell_number_lt p range a b) t) in
      let m : Under p (function_place p f) (cell_place p d) = supported_under f d j u in
      let e : a.level ≡ cell_level p d = sym n.level ∙ m.level in
      around_near q (cell_place p d) i has (cell_inside p range d j) (record {
        level = e;
        columns = common _ _ _ _ m.columns (rw e at n.columns);
        rows = common _ _ _ _ m.rows (rw e at n.rows);
      })

-- ---- a neighbourhood by the first functions of columns and rows on its own

-- the columns on the column x, or the rows on a row, of `side`: the first of them tells that one of them has a function in common with
-- the one whose first function is o
pub record StandsBy (degree spread o i : ℕ) : Type 0 where
  pub right : i ≤ o + degree
  pub left : o ≤ i + degree + spread

-- the cell at c is in a row whose first row is so, and in the column under a column that has a function in common with a's
pub record NearBy (p : Plan) (a c : Place) : Type 0 where
  pub level : c.level ≡ a.level - 1
  pub rows : StandsBy p.degree_up (ratio p - 1) (first_over (up_at p a.level) a.row) (first_over (up_at p a.level) (c.row * ratio p))
  pub row< : c.row < rows_at p (a.level - 1)
  pub column : ℕ
  pub column< : column < columns_at p a.level
  pub stands : ancestor p 1 column ≡ c.column
  pub columns : Apart p.degree_across (first_over (across_at p a.level) column) (first_over (across_at p a.level) a.column)

before : (n : ℕ) → pred n ≡ n - 1
before n = omega arith

module _ (p : Plan) (range : InRange p) (q : ℕ) (b : q < cell_total p) (has : HasNeighbourhood p (cell_level p q)) where
  abbrev a : Place
  a = ancestor_of p (cell_place p q)

  a_in : CellInside p a
  a_in = ancestor_in p range (cell_place p q) has (cell_inside p range q b)

  z : 1 ≤ a.level
  z = ancestor_below p range (cell_place p q) has

  whole : rows_at p a.level ≡ rows_at p (pred a.level) * ratio p
  whole = grown_more (ratio p) (ratio_pos p) p.rows a.level z

  units : (up_at p a.level).unit ≡ ratio p * (up_at p (pred a.level)).unit
  units = grown_unit (ratio p) (ratio_pos p) a.level z

  pub near_by : (c : ℕ) → T (near p q c) → NearBy p a (cell_place p c)
  unfolding neighbourhood parents_of around above
  near_by c t =
      let l = near_in p range q c t in
      let i = rectangle_fact (neighbourhood p (cell_place p q)) (cell_place p c) (rw (near_is p range q c b l has) at t) in
      let r = (parents_around_in p range a a_in z).rows in
      let m : (cell_place p c).row < rows_at p (pred a.level) = omega (arith, i.rows.to, r.within) in
      let s = span_first (ratio p) (ratio_pos p) (up_at p a.level) (up_sized p range a.level) (rows_at p (pred a.level)) whole a.row a_in.row< (up_at p (pred a.level)).unit units (cell_place p c).row m (span_test _ _ i.rows) in
      let (e, j, v, u) = near_around p range q c b t in
      let n = u.level in
      record {
        level = sym i.level ∙ before a.level;
        rows = record { right = s.0; left = s.1 };
        row< = subst (λ (k : ℕ). (cell_place p c).row < rows_at p k) (before a.level) m;
        column = e.column;
        column< = rw n j.column<;
        stands = ancestor_one p e.column ∙ ap (λ (x : Place). x.column) v;
        columns = rw n u.columns;
      }

  pub by_near : (y x : ℕ) → y < rows_at p (a.level - 1) → StandsBy p.degree_up (ratio p - 1) (first_over (up_at p a.level) a.row) (first_over (up_at p a.level) (y * ratio p))
      → x < columns_at p a.level → Apart p.degree_across (first_over (across_at p a.level) x) (first_over (across_at p a.level) a.column)
      → T (near p q (cell_number p (record { level = a.level - 1; row = y; column = ancestor p 1 x })))
  unfolding above
  by_near y x h o l s =
      let m : y < rows_at p (pred a.level) = subst (λ (k : ℕ). y < rows_at p k) (sym (before a.level)) h in
      let t = first_span (ratio p) (ratio_pos p) (up_at p a.level) (up_sized p range a.level) (rows_at p (pred a.level)) whole a.row a_in.row< (up_at p (pred a.level)).unit units y m o.right o.left in
      let (d, k, u) = coarser_e (ratio p) (ratio_pos p) (up_at p a.level) (up_sized p range a.level) (rows_at p (pred a.level)) whole a.row a_in.row< y m t in
      let g : y * ratio p + d < rows_at p (pred a.level) * ratio p = omega (arith, mul-le-mul_right (ratio p) m) in
      let f : y * ratio p + d < rows_at p a.level = subst (λ (n : ℕ). y * ratio p + d < n) (sym whole) g in
      let v : above p (record { level = a.level; row = y * ratio p + d; column = x }) ≡ record { level = a.level - 1; row = y; column = ancestor p 1 x } =
      λ n. record { level = before a.level n; row = digits_div y k n; column = sym (ancestor_one p x) n } in
      subst (λ (c : Place). T (near p q (cell_number p c))) v
      (around_near p range q (record { level = a.level; row = y * ratio p + d; column = x }) b has (record { level< = a_in.level<; row< = f; column< = l })
      (record { level = refl; columns = s; rows = together_fact _ (up_sized p range a.level) _ _ u }))
