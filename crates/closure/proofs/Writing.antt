-- The table of a set of cells, byte by byte; a rectangle of cells written through its level's part; and a cell that is refined, or made
-- active again: the table of the set with it, or without it. Assumes nothing.
use mathlib.Core.Path.{◌≡◌, refl, sym, ap, subst, ◌∙◌}
use mathlib.Core.Logic.{◌≢◌}
use mathlib.Core.Bool.{Bool, true, false, cond}
use mathlib.Core.List.{List}
use Prim.Native.Nat.{ℕ, ◌+◌, ◌-◌, ◌*◌, ◌/◌, ◌%◌, ◌≤◌, ◌<◌}
use native.Mathlib.Nat.{mul-le-mul_right, div-add-mod'}
use native.Mathlib.Omega.{arith}
use lib.Arith.{digits_div, digits_mod}
use lib.Dec.{T, eqb, eqb→eq}
use lib.ListN.{length, get_or, set, length-set}
use lib.Seq.{ext_get_or, get_or-set_same, get_or-set_other}
use borrow.Rule.Slice.PartMut.{put_mid, mid_of}
use Rattle.facts.specs.Mapped.{in_run, filled}
use Rattle.facts.proofs.Mapped.{run_in, run_before, run_after, run_e, mapped_length, mapped_at, mapped_is, mapped_more, mapped_part, filled_part}
use Rattle.facts.proofs.Numbers.{get_d_tabulate, tabulate_same}
use Rattle.facts.proofs.Tests.{and_i, and_l, and_r, or_l, or_r, cases, same, differ, positive, T_true, T_false, not_e}
use Rattle.hierarchy.specs.Hierarchy.{Cells}
use Rattle.grid.specs.declared.Plan.{Plan}
use Rattle.grid.specs.declared.Place.{Place}
use Rattle.grid.specs.declared.Span.{Span}
use Rattle.grid.specs.declared.Rectangle.{Rectangle}
use Rattle.grid.specs.Numbering.{number}
use Rattle.grid.specs.Plan.{columns_at, rows_at, cell_offset, cell_total, cell_level, cell_place, cell_number, parent}
use Rattle.grid.specs.Range.{InRange}
use Rattle.grid.specs.Spans.{in_span, in_rectangle, children_of}
use Rattle.grid.proofs.Numbering.{level_ends}
use Rattle.grid.proofs.Laws.{cell_number_place, parent_lt, parent_level}
use Rattle.grid.proofs.Spans.{InSpan, span_fact, span_test}
use Rattle.grid.proofs.Rectangles.{RectangleIn, rectangle_has, cell_in_rectangle, rectangle_number, in_children, children_parent}
use Rattle.mesh.specs.Mesh.{table_of}
use Rattle.mesh.proofs.Bridge.{rooted, byte_two, length_table_of}
use Rattle.windows.specs.Windows.{always}
use Rattle.closure.specs.Walk.{at, fill_cells, write_cell, in_block, fill_block, Block}

-- ---- the table of a set

module _ (p : Plan) where
  abbrev pub byte_of : Cells → ℕ → ℕ
  byte_of S c = cond (S c) 2 (cond (rooted p S c) 1 0)

  module _ (S : Cells) where
    pub get_d_table_of : (c : ℕ) → c < cell_total p → get_or (table_of p S) c 0 ≡ byte_of S c
    unfolding table_of
    get_d_table_of c i = get_d_tabulate (cell_total p) (byte_of S) c 0 i

  -- the byte 2 says that the cell is in the set
  pub refined_is : (S : Cells) (c : ℕ) → c < cell_total p → eqb (get_or (table_of p S) c 0) 2 ≡ S c
  refined_is S c i = rw (get_d_table_of S c i) (byte_two (S c) (rooted p S c))

  byte_same : (S S' : Cells) (c : ℕ) → S c ≡ S' c → (1 ≤ cell_level p c → S (parent p c) ≡ S' (parent p c)) → byte_of S c ≡ byte_of S' c
  byte_same S S' c e f = cases (eqb (cell_level p c) 0)
      (λ z. rw (T_true (eqb (cell_level p c) 0) z, e) refl)
      (λ z. rw (e, f (positive (cell_level p c) z)) refl)

  -- sets with the same cells have the same table
  pub table_same : InRange p → (S S' : Cells) → ((c : ℕ) → c < cell_total p → S c ≡ S' c) → table_of p S ≡ table_of p S'
  unfolding table_of
  table_same range S S' h = tabulate_same (cell_total p) (byte_of S) (byte_of S') (λ c i.
      byte_same S S' c (h c i) (λ l. h (parent p c) (parent_lt p range c i l)))

-- ---- rows and columns of a level's part

module _ (rows columns : Span) (width j : ℕ) where
  block_fact : T (in_block rows columns width j) → InSpan rows (j / width) × InSpan columns (j % width)
  unfolding in_block
  block_fact t = (span_fact rows (j / width) (and_l (in_span rows (j / width)) _ t), span_fact columns (j % width) (and_r (in_span rows (j / width)) _ t))

  block_test : InSpan rows (j / width) → InSpan columns (j % width) → T (in_block rows columns width j)
  unfolding in_block
  block_test a b = and_i (in_span rows (j / width)) (in_span columns (j % width)) (span_test rows (j / width) a) (span_test columns (j % width) b)

abbrev pub span : ℕ → ℕ → Span
span first end = record { first = first; end = end }

pub block_none : (first : ℕ) (columns : Span) (width v : ℕ) (xs : List ℕ) → xs ≡ fill_block (span first first) columns width v xs
unfolding fill_block
block_none first columns width v xs = mapped_is _ xs xs refl (λ j l.
    let none : in_block (span first first) columns width j ≡ false = T_false _ (λ t. let b = (block_fact (span first first) columns width j t).0 in omega arith) in
    rw none refl)

-- one row more: `count` entries from the column `west` on
module _ (first row west count width : ℕ) (l : first ≤ row) (w : west + count ≤ width) where
  abbrev columns : Span
  columns = span west (west + count)

  abbrev from : ℕ
  from = row * width + west

  row_in : (j : ℕ) → from ≤ j → j < from + count → in_block (span first (row + 1)) columns width j ≡ true
  row_in j a b =
      let e : j ≡ row * width + (j - row * width) = omega arith in
      let m : j - row * width < width = omega arith in
      let y : j / width ≡ row = ap (λ z. z / width) e ∙ digits_div row m in
      let x : j % width ≡ j - row * width = ap (λ z. z % width) e ∙ digits_mod row m in
      T_true _ (block_test (span first (row + 1)) columns width j (rw y (record { from = l; to = omega arith })) (rw x (record { from = omega arith; to = omega arith })))

  row_out : (j : ℕ) → (from ≤ j → j < from + count → ⊥) → in_block (span first row) columns width j ≡ in_block (span first (row + 1)) columns width j
  row_out j n = same _ _
      (λ t.
      let b = block_fact (span first row) columns width j t in
      let low = b.0.from in
      let high = b.0.to in
      block_test (span first (row + 1)) columns width j (record { from = low; to = omega arith }) b.1)
      (λ t.
      let b = block_fact (span first (row + 1)) columns width j t in
      let low = b.0.from in
      let high = b.0.to in
      let d = div-add-mod' j width in
      cases (eqb (j / width) row)
      (λ u.
      let q : j / width * width ≡ row * width = ap (λ z. z * width) (eqb→eq (j / width) row u) in
      let west≤ = b.1.from in
      let east> = b.1.to in
      absurd (n (omega arith) (omega arith)))
      (λ u. let z = differ (j / width) row u in block_test (span first row) columns width j (record { from = low; to = omega arith }) b.1))

  next_row : (v j x : ℕ) → cond (in_run from count j) v (cond (in_block (span first row) columns width j) v x) ≡ cond (in_block (span first (row + 1)) columns width j) v x
  next_row v j x = run_e from count j
      (λ u. rw (run_before from count j u, row_out j (λ a b. omega arith)) refl)
      (λ a b. rw (run_in from count j a b, row_in j a b) refl)
      (λ u. rw (run_after from count j u, row_out j (λ a b. omega arith)) refl)

  pub block_more : (v : ℕ) (xs ys zs : List ℕ) → ys ≡ fill_block (span first row) columns width v xs → from ≤ length ys
      → zs ≡ filled 0 count (always v) (mid_of from (length ys - from) ys) → put_mid from (length ys - from) ys zs ≡ fill_block (span first (row + 1)) columns width v xs
  unfolding fill_block filled always
  block_more v xs ys zs e k q =
      ap (put_mid from (length ys - from) ys) q
      ∙ (filled_part from count (always v) (always v) ys k (λ j m. refl)
      ∙ (ap (filled from count (always v)) e ∙ mapped_more _ _ _ xs (next_row v)))

-- ---- a rectangle of cells

module _ (p : Plan) (range : InRange p) (r : Rectangle) (i : RectangleIn p r) (cells : List ℕ) (s : length cells ≡ cell_total p) where
  abbrev o : ℕ
  o = cell_offset p r.level

  abbrev w : ℕ
  w = columns_at p r.level

  pub block_in : Block r w (length cells - o)
  block_in =
      let e = level_ends (columns_at p) (rows_at p) r.level p.levels i.level< in
      let m = mul-le-mul_right w i.rows.within in
      record { rows≤ = omega (arith, i.rows.some); columns≤ = omega (arith, i.columns.some); wide = i.columns.within; tall = omega arith }

  pub offset_in : o ≤ length cells
  offset_in = omega (arith, level_ends (columns_at p) (rows_at p) r.level p.levels i.level<)

  number_at : (y x : ℕ) → cell_number p (at r.level y x) ≡ o + (y * w + x)
  unfolding number
  number_at y x = omega arith

  module _ (c : ℕ) (b : c < cell_total p) (t : T (in_rectangle r (cell_place p c))) where
    number_is : c ≡ o + ((cell_place p c).row * w + (cell_place p c).column)
    number_is = rectangle_number p range r i c b t ∙ number_at _ _

  entry_in : (j : ℕ) → o + j < length cells → in_block r.rows r.columns w j ≡ in_rectangle r (cell_place p (o + j))
  entry_in j l = same _ _
      (λ t.
      let b = block_fact r.rows r.columns w j t in
      let n : cell_number p (at r.level (j / w) (j % w)) ≡ o + j = number_at (j / w) (j % w) ∙ ap (λ z. o + z) (div-add-mod' j w) in
      subst (λ (c : ℕ). T (in_rectangle r (cell_place p c))) n (rectangle_has p range r i (j / w) (j % w) b.0 b.1))
      (λ t.
      let b : o + j < cell_total p = omega arith in
      let n = cell_in_rectangle p range r i (o + j) b t in
      let m : (cell_place p (o + j)).column < w = omega (arith, n.columns.to, i.columns.within) in
      let e : j ≡ (cell_place p (o + j)).row * w + (cell_place p (o + j)).column = omega (arith, number_is (o + j) b t) in
      let y : j / w ≡ (cell_place p (o + j)).row = ap (λ z. z / w) e ∙ digits_div (cell_place p (o + j)).row m in
      let x : j % w ≡ (cell_place p (o + j)).column = ap (λ z. z % w) e ∙ digits_mod (cell_place p (o + j)).row m in
      block_test r.rows r.columns w j (subst (InSpan r.rows) (sym y) n.rows) (subst (InSpan r.columns) (sym x) n.columns))

  before : (c : ℕ) → c < o → in_rectangle r (cell_place p c) ≡ false
  before c l = T_false _ (λ t. omega (arith, number_is c (omega (arith, offset_in)) t))

  -- what is done to the level's part is done to the table
  rectangle_filled : (v : ℕ) → put_mid o (length cells - o) cells (fill_block r.rows r.columns w v (mid_of o (length cells - o) cells)) ≡ fill_cells p r v cells
  unfolding fill_block fill_cells
  rectangle_filled v = mapped_part o _ _ cells offset_in (λ c x u. rw (before c u) refl) (λ j x b. rw (entry_in j b) refl)

-- ---- a cell and its children

module _ (p : Plan) where
  abbrev child_of : Place → ℕ → Bool
  child_of x d = in_rectangle (children_of p x) (cell_place p d)

  pub write_long : (v : ℕ) (x : Place) (t : List ℕ) → length (write_cell p v x t) ≡ length t
  unfolding write_cell fill_cells
  write_long v x t = mapped_length _ (set t (cell_number p x) v) ∙ length-set t (cell_number p x) v

  set_byte : (t : List ℕ) (c v d : ℕ) → d < length t → get_or (set t c v) d 0 ≡ cond (eqb d c) v (get_or t d 0)
  set_byte t c v d h = cases (eqb d c)
      (λ e. let q = eqb→eq d c e in rw (T_true (eqb d c) e, q) (get_or-set_same t c v 0 (omega arith)))
      (λ e. rw (T_false (eqb d c) (not_e (eqb d c) e)) (get_or-set_other t c d v 0 (differ d c e)))

  write_byte : (v : ℕ) (x : Place) (t : List ℕ) (d : ℕ) → d < length t
      → get_or (write_cell p v x t) d 0 ≡ cond (child_of x d) (v - 1) (cond (eqb d (cell_number p x)) v (get_or t d 0))
  unfolding write_cell fill_cells
  write_byte v x t d h =
      mapped_at _ (set t (cell_number p x) v) d (rw length-set h)
      ∙ ap (cond (child_of x d) (v - 1)) (set_byte t (cell_number p x) v d h)

-- as code does it: the byte at the cell's number, then the children through their level's part
pub cell_written : (p : Plan) → InRange p → (x : Place) (r : Rectangle) → RectangleIn p r → (t : List ℕ) → length t ≡ cell_total p → (o w c v : ℕ) (zs : List ℕ)
    → r ≡ children_of p x → o ≡ cell_offset p r.level → w ≡ columns_at p r.level → c ≡ cell_number p x
    → zs ≡ fill_block r.rows r.columns w (v - 1) (mid_of o (length (set t c v) - o) (set t c v))
    → put_mid o (length (set t c v) - o) (set t c v) zs ≡ write_cell p v x t
unfolding write_cell
cell_written p range x r i t s o w c v zs er eo ew ec e =
    ap (put_mid o (length (set t c v) - o) (set t c v)) e
    ∙ (rw (eo, ew) (rectangle_filled p range r i (set t c v) (length-set t c v ∙ s) (v - 1))
    ∙ (λ j. fill_cells p (er j) (v - 1) (set t (ec j) v)))

less : (b : Bool) → cond b 2 1 - 1 ≡ cond b 1 0
less true = refl
less false = refl

module _ (p : Plan) (range : InRange p) (c : ℕ) (i : c < cell_total p) where
  -- S' is S but for the cell c, which has no refined child: the table changes at c and at its children alone
  module _ (S S' : Cells)
      (other : (d : ℕ) → d < cell_total p → d ≢ c → S d ≡ S' d)
      (leaf : (d : ℕ) → d < cell_total p → 1 ≤ cell_level p d → parent p d ≡ c → T (S d) → ⊥)
      (root : 1 ≤ cell_level p c → T (S (parent p c))) where
    at_child : (d : ℕ) → d < cell_total p → T (child_of p (cell_place p c) d) → cond (S' c) 1 0 ≡ byte_of p S' d
    at_child d j t =
        let (l, e) = children_parent p range c d i j t in
        let apart : d ≢ c = λ q. let k = parent_level p range d j l in absurd (omega (arith, ap (cell_level p) q, ap (cell_level p) e)) in
        let out : S' d ≡ false = sym (other d j apart) ∙ T_false (S d) (leaf d j l e) in
        let z : eqb (cell_level p d) 0 ≡ false = T_false _ (λ t. omega (arith, eqb→eq (cell_level p d) 0 t)) in
        rw (out, z, e) refl

    rooted_still : rooted p S' c ≡ true
    rooted_still = T_true _ (cases (eqb (cell_level p c) 0) (λ z. or_l (eqb (cell_level p c) 0) _ z) (λ z.
        let l : 1 ≤ cell_level p c = positive (cell_level p c) z in
        let apart : parent p c ≢ c = λ q. omega (arith, parent_level p range c i l, ap (cell_level p) q) in
        or_r (eqb (cell_level p c) 0) _ (subst T (other (parent p c) (parent_lt p range c i l) apart) (root l))))

    at_cell : cond (S' c) 2 1 ≡ byte_of p S' c
    at_cell = rw rooted_still refl

    elsewhere : (d : ℕ) → d < cell_total p → (T (child_of p (cell_place p c) d) → ⊥) → d ≢ c → byte_of p S d ≡ byte_of p S' d
    elsewhere d j n m = byte_same p S S' d (other d j m) (λ l.
        other (parent p d) (parent_lt p range d j l) (λ e. n (in_children p range c d i j l e)))

    byte_is_lem : (d : ℕ) → d < cell_total p
        → cond (child_of p (cell_place p c) d) (cond (S' c) 2 1 - 1) (cond (eqb d (cell_number p (cell_place p c))) (cond (S' c) 2 1) (byte_of p S d)) ≡ byte_of p S' d
    byte_is_lem d j = cases (child_of p (cell_place p c) d)
        (λ t. rw (T_true (child_of p (cell_place p c) d) t) (less (S' c) ∙ at_child d j t))
        (λ n. let n' = not_e (child_of p (cell_place p c) d) n in
        rw (T_false (child_of p (cell_place p c) d) n', cell_number_place p range c i)
        (cases (eqb d c)
        (λ e. let q = eqb→eq d c e in rw (T_true (eqb d c) e) (at_cell ∙ ap (byte_of p S') (sym q)))
        (λ e. rw (T_false (eqb d c) (not_e (eqb d c) e)) (elsewhere d j n' (differ d c e)))))

    pub rewritten : write_cell p (cond (S' c) 2 1) (cell_place p c) (table_of p S) ≡ table_of p S'
    rewritten =
        let t : List ℕ = table_of p S in
        let v : ℕ = cond (S' c) 2 1 in
        let e : length (write_cell p v (cell_place p c) t) ≡ cell_total p = write_long p v (cell_place p c) t ∙ length_table_of p S in
        ext_get_or 0 _ _ (e ∙ sym (length_table_of p S')) (λ d h.
        let j : d < cell_total p = omega arith in
        write_byte p v (cell_place p c) t d (omega (arith, length_table_of p S))
        ∙ ap (λ (x : ℕ). cond (child_of p (cell_place p c) d) (v - 1) (cond (eqb d (cell_number p (cell_place p c))) v x)) (get_d_table_of p S d j)
        ∙ byte_is_lem d j ∙ sym (get_d_table_of p S' d j))
