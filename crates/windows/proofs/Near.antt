-- The least byte of a cell's neighbourhood: what it says of the cells there, and that the table of its level has it. Assumes nothing.
use mathlib.Core.Path.{◌≡◌, refl, sym, ap, subst, ◌∙◌}
use mathlib.Core.Bool.{not, cond}
use mathlib.Core.List.{List}
use Prim.Native.Nat.{ℕ, ◌+◌, ◌-◌, ◌*◌, ◌≤◌, ◌<◌}
use native.Mathlib.Nat.{le_refl, le_of_eq, le_trans, le_antisymm, le-add_right, mul-le-mul, mul-le-mul_right}
use native.Mathlib.Omega.{arith}
use lib.Dec.{T, eqb, eqb→eq, leb, leb→le, le→leb}
use lib.Arith.{digits_div, digits_mod}
use lib.ListN.{length, get_or}
use Rattle.facts.specs.Bounded.{implies, every}
use Rattle.facts.specs.Mapped.{in_run, filled}
use Rattle.facts.proofs.Tests.{and_i, and_l, and_r, not_i, not_e, cases, same, differ, implies_i, implies_e, T_true, T_false, eqb_of}
use Rattle.facts.proofs.Bounded.{every_i, every_e}
use Rattle.facts.proofs.Least.{least_le, least_top, least_ge}
use Rattle.facts.proofs.Mapped.{run_in, run_before, run_after, run_e, mapped_at}
use Rattle.grid.specs.declared.Plan.{Plan}
use Rattle.grid.specs.declared.Place.{Place}
use Rattle.grid.specs.declared.Side.{Side}
use Rattle.grid.specs.Plan.{ratio, columns_at, rows_at, cell_total, cell_place, cell_number, cell_level, CellInside, across_at, up_at, ancestor, near}
use Rattle.grid.specs.Range.{InRange, HasNeighbourhood}
use Rattle.grid.specs.Knots.{beyond}
use Rattle.grid.specs.Side.{first_over, functions, firsts}
use Rattle.grid.specs.Spans.{ancestor_level, ancestor_of}
use Rattle.grid.proofs.Laws.{ratio_pos, cell_number_lt, cell_number_place, cell_place_number, near_in}
use Rattle.grid.proofs.Rectangles.{ancestor_level_lem}
use Rattle.grid.proofs.Sides.{across_in, up_in, first_lt}
use Rattle.grid.proofs.Spans.{level_below, ancestor_in, near_neighbourhood}
use Rattle.grid.proofs.First.{near_by, by_near}
use Rattle.windows.specs.Windows.{LevelIn}
use Rattle.windows.specs.Level.{least_over, PlaceIn, wide, high, NearRoom}
use Rattle.windows.specs.Near.{has_near, least_near, above_byte, near_across, near_up, near_least, near_leasts, near_index, near_byte, NearTable}
use Rattle.windows.proofs.Levels.{over_le, over_ge}
use Rattle.windows.proofs.OneUp.{rows_are}

-- ---- the test whether there is one

module _ (p : Plan) (j : ℕ) where
  pub has_fact : T (has_near p j) → HasNeighbourhood p j
  unfolding has_near
  has_fact t = record {
    class≢ = differ p.class 0 (and_l (not (eqb p.class 0)) _ t);
    level≥ = leb→le p.class (j + 1) (and_r (not (eqb p.class 0)) _ t);
  }

  has_test : HasNeighbourhood p j → T (has_near p j)
  unfolding has_near
  has_test h =
      and_i (not (eqb p.class 0)) (leb p.class (j + 1)) (not_i (eqb p.class 0) (λ t. h.class≢ (eqb→eq p.class 0 t)))
      (le→leb p.class (j + 1) h.level≥)

-- ---- it is below the bytes of the cells there, and above what is below them all

module _ (p : Plan) (range : InRange p) (cells : List ℕ) (q : ℕ) where
  pub least_near_le : (c : ℕ) → T (near p q c) → least_near p cells q ≤ get_or cells c 0
  unfolding least_near
  least_near_le c t =
      let e : cond (near p q c) (get_or cells c 0) 2 ≡ get_or cells c 0 = rw (T_true (near p q c) t) refl in
      rw e at (least_le 2 (cell_total p) (λ d. cond (near p q d) (get_or cells d 0) 2) c (near_in p range q c t))

  least_near_ge : (v : ℕ) → v ≤ 2 → ((c : ℕ) → T (near p q c) → v ≤ get_or cells c 0) → v ≤ least_near p cells q
  unfolding least_near
  least_near_ge v l h = least_ge 2 (cell_total p) _ v l (λ c i. cases (near p q c)
      (λ t. rw (T_true (near p q c) t) (h c t))
      (λ t. rw (T_false (near p q c) (not_e (near p q c) t)) l))

  least_near_top : least_near p cells q ≤ 2
  unfolding least_near
  least_near_top = least_top 2 _ _

  least_near_none : (HasNeighbourhood p (cell_level p q) → ⊥) → least_near p cells q ≡ 2
  least_near_none f = le_antisymm least_near_top (least_near_ge 2 (le_refl 2) (λ c t. absurd (f (near_neighbourhood p range q c t))))

  -- of bytes that are at most 2 it is 2 where all of them are
  pub least_near_two : ((c : ℕ) → c < cell_total p → get_or cells c 0 ≤ 2)
      → eqb (least_near p cells q) 2 ≡ every (cell_total p) (λ c. implies (near p q c) (eqb (get_or cells c 0) 2))
  least_near_two small = same _ _
      (λ t.
      let e : least_near p cells q ≡ 2 = eqb→eq (least_near p cells q) 2 t in
      every_i (cell_total p) _ (λ c i. implies_i (near p q c) _ (λ n. eqb_of (get_or cells c 0) 2 (le_antisymm (small c i) (rw e at (least_near_le c n))))))
      (λ t. eqb_of (least_near p cells q) 2 (le_antisymm least_near_top (least_near_ge 2 (le_refl 2) (λ c n.
      le_of_eq (sym (eqb→eq (get_or cells c 0) 2 (implies_e (near p q c) _ (every_e (cell_total p) _ t c (near_in p range q c n)) n)))))))

-- ---- by the first functions of its rows and columns

module _ (p : Plan) (range : InRange p) (cells : List ℕ) (q : ℕ) (b : q < cell_total p) (has : HasNeighbourhood p (cell_level p q)) where
  abbrev up : Place
  up = ancestor_of p (cell_place p q)

  -- the row and the column of the table in which it is read
  abbrev J : ℕ
  J = first_over (up_at p up.level) up.row + p.degree_up

  abbrev I : ℕ
  I = first_over (across_at p up.level) up.column + p.degree_across

  abbrev spot : ℕ → ℕ
  spot y = first_over (up_at p up.level) (y * ratio p)

  abbrev window : ℕ → ℕ
  window y = least_over (across_at p up.level) (near_across p) I (above_byte p cells up.level y)

  window_near : near_least p cells up.level J I ≡ least_near p cells q
  unfolding near_least above_byte
  window_near = le_antisymm
      (least_near_ge p range cells q _ (least_top 2 _ _) (λ c t.
      let n = near_by p range q b has c t in
      let r = n.rows in
      let o = n.columns in
      let m : cell_number p (record { level = up.level - 1; row = (cell_place p c).row; column = ancestor p 1 n.column }) ≡ c =
      (λ j. cell_number p (record { level = sym n.level j; row = (cell_place p c).row; column = n.stands j })) ∙ cell_number_place p range c (near_in p range q c t) in
      let e : cond (in_run (spot (cell_place p c).row) (near_up p + 1) J) (window (cell_place p c).row) 2 ≡ window (cell_place p c).row =
      rw (run_in (spot (cell_place p c).row) (near_up p + 1) J r.right (omega (arith, r.left))) in
      le_trans (rw e at (least_le 2 (rows_at p (up.level - 1)) (λ y. cond (in_run (spot y) (near_up p + 1) J) (window y) 2) (cell_place p c).row n.row<))
      (le_trans (over_le (across_at p up.level) (near_across p) I (above_byte p cells up.level (cell_place p c).row) n.column n.column< o.right (omega (arith, o.left)))
      (le_of_eq (ap (λ (x : ℕ). get_or cells x 0) m)))))
      (least_ge 2 _ _ _ (least_near_top p range cells q) (λ y l. run_e (spot y) (near_up p + 1) J
      (λ u. rw (run_before (spot y) (near_up p + 1) J u) (least_near_top p range cells q))
      (λ u v. rw (run_in (spot y) (near_up p + 1) J u v) (over_ge (across_at p up.level) (near_across p) I (above_byte p cells up.level y) _ (least_near_top p range cells q) (λ x m c d.
      least_near_le p range cells q _ (by_near p range q b has y x l (record { right = u; left = omega arith }) m (record { right = c; left = omega (arith, d) })))))
      (λ u. rw (run_after (spot y) (near_up p + 1) J u) (least_near_top p range cells q))))

-- ---- the place where it is read

module _ (p : Plan) (range : InRange p) (x : Place) (i : CellInside p x) (has : HasNeighbourhood p x.level) where
  abbrev a : Place
  a = ancestor_of p x

  pub above_in : CellInside p a
  above_in = ancestor_in p range x has i

  row_in : first_over (up_at p a.level) a.row + p.degree_up < high p a.level (near_up p)
  row_in = omega (arith, first_lt (up_at p a.level) (up_in p range a.level above_in.level<) a.row above_in.row<)

  column_in : first_over (across_at p a.level) a.column + p.degree_across < wide p a.level (near_across p)
  column_in = omega (arith, first_lt (across_at p a.level) (across_in p range a.level above_in.level<) a.column above_in.column<)

  -- on a level with a finer one
  above_deep : x.level + 1 < p.levels → a.level < p.levels - 1
  above_deep deep = rw (ancestor_level_lem p x) (omega arith)

  pub index_fits : x.level + 1 < p.levels → {n : ℕ} → NearRoom p n → near_index p a < n
  unfolding near_index
  index_fits deep room =
      let m = mul-le-mul_right (wide p a.level (near_across p)) row_in in
      let c = column_in in
      omega (arith, room.enough a.level (above_deep deep))

  -- in the table of the ancestor's level
  read_is : x.level + 1 < p.levels → (cells found start : List ℕ) → NearRoom p (length start)
      → found ≡ filled 0 (high p a.level (near_up p) * wide p a.level (near_across p)) (near_leasts p cells a.level) start
      → get_or found (near_index p a) 0 ≡ least_near p cells (cell_number p x)
  unfolding near_index filled near_leasts
  read_is deep cells found start room e =
      let q : cell_place p (cell_number p x) ≡ x = cell_place_number p range x i in
      let m = mul-le-mul_right (wide p a.level (near_across p)) row_in in
      let c = column_in in
      ap (λ z. get_or z (near_index p a) 0) e
      ∙ (mapped_at _ start (near_index p a) (omega (arith, index_fits deep room))
      ∙ (rw (run_in 0 (high p a.level (near_up p) * wide p a.level (near_across p)) (near_index p a) (omega arith) (omega arith), digits_div (first_over (up_at p a.level) a.row + p.degree_up) c, digits_mod (first_over (up_at p a.level) a.row + p.degree_up) c)
      (subst (λ (y : Place). near_least p cells (ancestor_of p y).level (first_over (up_at p (ancestor_of p y).level) (ancestor_of p y).row + p.degree_up) (first_over (across_at p (ancestor_of p y).level) (ancestor_of p y).column + p.degree_across) ≡ least_near p cells (cell_number p x)) q
      (window_near p range cells (cell_number p x) (cell_number_lt p range x i) (subst (λ (y : Place). HasNeighbourhood p y.level) (sym q) has)))))

-- ---- the table of a level

cells_firsts : (s : Side) → s.cells ≤ firsts s
unfolding firsts functions beyond
cells_firsts s = omega arith

module _ (p : Plan) (range : InRange p) (cells : List ℕ) (j : ℕ) (l : j + 1 < p.levels) where
  abbrev k : ℕ
  k = ancestor_level p j

  -- what its parts ask
  module _ (has : HasNeighbourhood p j) where
    pub fine_level : (1 ≤ ancestor_level p j) × (ancestor_level p j < p.levels - 1)
    fine_level = (omega (arith, level_below p j range has), omega arith)

    fine_lt : ancestor_level p j < p.levels
    fine_lt = omega (arith, fine_level)

    rows_le : rows_at p (ancestor_level p j - 1) ≤ rows_at p (ancestor_level p j)
    rows_le = rw (rows_are p range (ancestor_level p j) fine_level.0 fine_lt) (omega (arith, mul-le-mul (le_refl (rows_at p (ancestor_level p j - 1))) (ratio_pos p)))

    -- as many bytes as rows of the one and columns of the other make
    pub near_repeat_in : {n : ℕ} → NearRoom p n → rows_at p (ancestor_level p j - 1) * columns_at p (ancestor_level p j) ≤ n
    near_repeat_in room = le_trans (mul-le-mul (le_trans rows_le (le_trans (cells_firsts (up_at p k)) (le-add_right _ (near_up p)))) (le_trans (cells_firsts (across_at p k)) (le-add_right _ (near_across p)))) (room.enough k fine_level.1)

    pub near_place_in : {m n : ℕ} → NearRoom p m → NearRoom p n → PlaceIn (across_at p k) (up_at p k) (ratio p) (rows_at p (k - 1)) m n (near_across p)
    near_place_in x y = record {
      across_in = across_in p range k fine_lt;
      up_in = up_in p range k fine_lt;
      step≥ = ratio_pos p;
      rows≤ = rw (rows_are p range (ancestor_level p j) fine_level.0 fine_lt) (omega arith);
      from≤ = near_repeat_in x;
      out≤ = le_trans (mul-le-mul_right (wide p k (near_across p)) (le-add_right (firsts (up_at p k)) (near_up p))) (y.enough k fine_level.1);
    }

    pub near_level_in : {m n : ℕ} → NearRoom p m → NearRoom p n → LevelIn m n (firsts (across_at p k)) (firsts (up_at p k)) (near_across p) (near_up p)
    near_level_in x y = record {
      columns≥ = omega (arith, first_lt (across_at p k) (across_in p range k fine_lt) 0 (across_in p range k fine_lt).cells≥);
      rows≥ = omega (arith, first_lt (up_at p k) (up_in p range k fine_lt) 0 (up_in p range k fine_lt).cells≥);
      across≥ = omega (arith, range.across≥);
      up≥ = omega (arith, range.up≥);
      scratch≤ = le_trans (mul-le-mul_right (wide p k (near_across p)) (le-add_right (firsts (up_at p k)) (near_up p))) (x.enough k fine_level.1);
      out≤ = y.enough k fine_level.1;
    }

  pub near_table : T (has_near p j) → (found start : List ℕ) → NearRoom p (length start)
      → found ≡ filled 0 (high p k (near_up p) * wide p k (near_across p)) (near_leasts p cells k) start → NearTable p cells found j
  unfolding near_byte
  near_table has found start room e = record {
    made = λ x i q.
        let h : T (has_near p x.level) = subst (λ (n : ℕ). T (has_near p n)) (sym q) has in
        let n : ancestor_level p j ≡ (ancestor_of p x).level = ap (ancestor_level p) (sym q) ∙ sym (ancestor_level_lem p x) in
        rw (T_true (has_near p x.level) h) (read_is p range x i (has_fact p x.level h) (omega (arith, q)) cells found start room (rw n at e));
  }

  pub near_table_none : (T (has_near p j) → ⊥) → (found : List ℕ) → NearTable p cells found j
  unfolding near_byte
  near_table_none none found = record {
    made = λ x i q.
        let n : T (has_near p x.level) → ⊥ = λ t. none (subst (λ (n : ℕ). T (has_near p n)) q t) in
        let e : cell_place p (cell_number p x) ≡ x = cell_place_number p range x i in
        rw (T_false (has_near p x.level) n) (sym (least_near_none p range cells (cell_number p x) (λ h.
        n (has_test p x.level (subst (λ (y : Place). HasNeighbourhood p y.level) e h)))));
  }
