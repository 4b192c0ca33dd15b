-- The pair: walking a neighbourhood adds the neighbourhood, and refining a cell adds the cell, each with all that it needs. A cell whose
-- neighbourhood was refined before needs no walk. Assumes nothing.
use mathlib.Core.Path.{◌≡◌, refl, sym, ap, subst, ◌∙◌}
use mathlib.Core.Bool.{Bool, true, false, ◌||◌, cond, or-false}
use mathlib.Core.List.{List}
use Prim.Native.Nat.{ℕ, zero, suc, ◌+◌, ◌≤◌, ◌<◌}
use native.Mathlib.Omega.{arith}
use lib.Dec.{T, eqb, eqb→eq, eqb_refl, leb, leb→le, nleb→lt}
use Rattle.facts.proofs.Tests.{or_l, or_r, or_e, cases, differ, T_true, T_false, not_e}
use Rattle.hierarchy.specs.Hierarchy.{Hierarchy, Cells}
use Rattle.grid.specs.declared.Plan.{Plan}
use Rattle.grid.specs.declared.Place.{Place}
use Rattle.grid.specs.declared.Rectangle.{Rectangle}
use Rattle.grid.specs.Plan.{cell_total, cell_level, cell_place, cell_number, parent, near, hierarchy}
use Rattle.grid.specs.Spans.{in_rectangle, neighbourhood}
use Rattle.grid.specs.Range.{InRange, HasNeighbourhood}
use Rattle.grid.proofs.Laws.{parent_lt, near_in, near_level, cell_inside, cell_number_place}
use Rattle.grid.proofs.Spans.{InSpan, near_neighbourhood, near_is}
use Rattle.grid.proofs.Rectangles.{RectangleIn, rectangle_lt, rectangle_place, rectangle_has, cell_in_rectangle, rectangle_number, neighbourhood_in}
use Rattle.mesh.specs.Mesh.{table_of}
use Rattle.mesh.proofs.Bridge.{rooted}
use Rattle.windows.specs.Near.{least_near}
use Rattle.windows.proofs.Near.{least_near_le}
use Rattle.closure.specs.Walk.{at, write_cell, over, walk_near, refine_after, refine_cell, settled, close_cell}
use Rattle.closure.proofs.Writing.{get_d_table_of, refined_is, rewritten}
use Rattle.closure.proofs.Growing.{Allowed, Between, grows_none, grows_more, grows_up, Swept, Reaches, Walks, between_more, walks_none, walks_sweep, walks_is, walks_has, walks_up}

-- ---- walking a rectangle of cells

-- some cell of the rectangle has d
abbrev pub Met : Plan → Rectangle → (ℕ → ℕ → Type 0) → ℕ → Type 0
Met p r E d = (c : ℕ) × (c < cell_total p) × T (in_rectangle r (cell_place p c)) × E c d

module _ (p : Plan) (range : InRange p) (H : Hierarchy) (table : Cells → List ℕ) (A K : Cells) (l : ℕ) (f : Place → List ℕ → List ℕ) (r : Rectangle) (i : RectangleIn p r)
    (E : ℕ → ℕ → Type 0) (each : (c : ℕ) → c < cell_total p → T (in_rectangle r (cell_place p c)) → Walks H table A K l (f (cell_place p c)) (E c)) where
  pub over_walks : Walks H table A K l (over f r) (Met p r E)
  unfolding over
  over_walks =
      let D : ℕ → ℕ → ℕ → Type 0 = λ y x d. E (cell_number p (at r.level y x)) d in
      walks_has H table A K l _ _ _
      (λ d m. let n = cell_in_rectangle p range r i m.0 m.1 m.2 in
      let rows = n.rows in
      let columns = n.columns in
      ((cell_place p m.0).row, rows.from, omega arith, ((cell_place p m.0).column, columns.from, omega arith, subst (λ (c : ℕ). E c d) (rectangle_number p range r i m.0 m.1 m.2) m.3)))
      (walks_sweep H table A K l _ (λ y. Swept (D y) _ _) _ _ (λ y ys yn. walks_sweep H table A K l _ (D y) _ _ (λ x xw xe.
      let rows : InSpan r.rows y = omega arith in
      let columns : InSpan r.columns x = omega arith in
      subst (λ (z : Place). Walks H table A K l (f z) (D y x)) (rectangle_place p range r i y x rows columns)
      (each _ (rectangle_lt p range r i y x rows columns) (rectangle_has p range r i y x rows columns)))))

-- ---- walking a neighbourhood

module _ (p : Plan) (range : InRange p) (A K : Cells) (l : ℕ) (f : Place → List ℕ → List ℕ) (q : ℕ) (i : q < cell_total p)
    (each : (d : ℕ) → d < cell_total p → T (near p q d) → Walks (hierarchy p) (table_of p) A K l (f (cell_place p d)) (λ e. e ≡ d)) where
  abbrev Walk : (List ℕ → List ℕ) → Type 0
  Walk g = Walks (hierarchy p) (table_of p) A K l g (λ d. T (near p q d))

  near_over_walks : HasNeighbourhood p (cell_level p q) → Walk (over f (neighbourhood p (cell_place p q)))
  near_over_walks has =
      let r : Rectangle = neighbourhood p (cell_place p q) in
      walks_has (hierarchy p) (table_of p) A K l _ _ _
      (λ d t. let j = near_in p range q d t in (d, j, subst T (near_is p range q d i j has) t, refl))
      (over_walks p range (hierarchy p) (table_of p) A K l f r (neighbourhood_in p range (cell_place p q) has (cell_inside p range q i)) (λ c d. d ≡ c)
      (λ c j t. each c j (subst T (sym (near_is p range q c i j has)) t)))

  near_walks : Walk (walk_near f p (cell_place p q))
  unfolding walk_near
  near_walks = cases (eqb p.class 0)
      (λ z. walks_is (hierarchy p) (table_of p) A K l _ (λ t. t) _ (λ t. rw (T_true (eqb p.class 0) z) refl)
      (walks_none (hierarchy p) (table_of p) A K l _ (λ d t. (near_neighbourhood p range q d t).class≢ (eqb→eq p.class 0 z))))
      (λ z. let e : eqb p.class 0 ≡ false = T_false (eqb p.class 0) (not_e (eqb p.class 0) z) in
      cases (leb p.class ((cell_place p q).level + 1))
      (λ u. walks_is (hierarchy p) (table_of p) A K l _ (over f (neighbourhood p (cell_place p q))) _
      (λ t. rw (e, T_true (leb p.class ((cell_place p q).level + 1)) u) refl)
      (near_over_walks (record { class≢ = differ p.class 0 z; level≥ = leb→le p.class ((cell_place p q).level + 1) u })))
      (λ u. walks_is (hierarchy p) (table_of p) A K l _ (λ t. t) _
      (λ t. rw (e, T_false (leb p.class ((cell_place p q).level + 1)) (not_e (leb p.class ((cell_place p q).level + 1)) u)) refl)
      (walks_none (hierarchy p) (table_of p) A K l _ (λ d t. omega (arith, (near_neighbourhood p range q d t).level≥, nleb→lt p.class ((cell_place p q).level + 1) u)))))

-- ---- refining a cell

two_in : (s x : Bool) → 2 ≤ cond s 2 (cond x 1 0) → T s
two_in true x l = tt
two_in false true l = omega arith
two_in false false l = omega arith

module _ (p : Plan) (range : InRange p) (A K : Cells) (may : Allowed (hierarchy p) A K) where
  -- a cell that is not refined, after its neighbourhood
  module _ (c : ℕ) (i : c < cell_total p) (k : T (K c)) (S : Cells) (b : Between (hierarchy p) A K S)
      (out : T (S c) → ⊥) (whole : (d : ℕ) → T (near p c d) → T (S d)) where
    abbrev more : Cells
    more d = S d || eqb d c

    more_c : more c ≡ true
    more_c = T_true _ (or_r (S c) (eqb c c) (eqb_refl c))

    written : write_cell p 2 (cell_place p c) (table_of p S) ≡ table_of p more
    written =
        let e = rewritten p range c i S more
        (λ d j n. sym (ap (λ (x : Bool). S d || x) (T_false (eqb d c) (λ t. n (eqb→eq d c t))) ∙ or-false (S d)))
        (λ d j m e t. out (b.low c i (subst (λ (x : ℕ). T (A x)) e (may.rooted d j (b.high d j t) m))))
        (λ m. b.low (parent p c) (parent_lt p range c i m) (may.rooted c i k m)) in
        rw more_c at e

    refines : Reaches (hierarchy p) (table_of p) A K (suc (cell_level p c)) (write_cell p 2 (cell_place p c)) (λ e. e ≡ c) S
    refines = record {
      set = more;
      made = written;
      grows = record {
        keeps = λ d t. or_l (S d) (eqb d c) t;
        high = λ d j t. or_e (S d) (eqb d c) t (b.high d j) (λ e. subst (λ (x : ℕ). T (K x)) (sym (eqb→eq d c e)) k);
        near = λ q d j t n m. or_e (S q) (eqb q c) t (λ s. absurd (n s)) (λ e.
            or_l (S d) (eqb d c) (whole d (subst (λ (x : ℕ). T (near p x d)) (eqb→eq q c e) m)));
        level = λ q j t n. or_e (S q) (eqb q c) t (λ s. absurd (n s)) (λ e. omega (arith, ap (cell_level p) (eqb→eq q c e)));
      };
      has = λ d e. rw e (or_r (S c) (eqb c c) (eqb_refl c));
    }

  not_yet : (f : List ℕ → List ℕ) (c : ℕ) → c < cell_total p → (S : Cells) → (T (S c) → ⊥)
      → refine_after f p (cell_place p c) (table_of p S) ≡ write_cell p 2 (cell_place p c) (f (table_of p S))
  unfolding refine_after
  not_yet f c i S out = rw (cell_number_place p range c i, refined_is p S c i, T_false (S c) out) refl

  -- after a walk that adds its neighbourhood
  pub after_walks : (c : ℕ) → c < cell_total p → T (K c) → (f : List ℕ → List ℕ) → Walks (hierarchy p) (table_of p) A K (cell_level p c) f (λ d. T (near p c d))
      → Walks (hierarchy p) (table_of p) A K (suc (cell_level p c)) (refine_after f p (cell_place p c)) (λ e. e ≡ c)
  unfolding refine_after
  after_walks c i k f w S b = cases (S c)
      (λ s. record {
        set = S;
        made = rw (cell_number_place p range c i, refined_is p S c i, T_true (S c) s) refl;
        grows = grows_none (hierarchy p) K _ S b.high;
        has = λ d e. rw e s;
      })
      (λ s. let out = not_e (S c) s in
      let one = w S b in
      let still : T (one.set c) → ⊥ = λ t. omega (arith, one.grows.level c i t out) in
      let two = refines c i k one.set (between_more (hierarchy p) (table_of p) A K b one.grows) still one.has in
      record {
        set = two.set;
        made = not_yet f c i S out ∙ (ap (write_cell p 2 (cell_place p c)) one.made ∙ two.made);
        grows = grows_more (hierarchy p) K (grows_up (hierarchy p) K (omega arith) one.grows) two.grows;
        has = two.has;
      })

  cell_walks : (n c : ℕ) → c < cell_total p → T (K c) → cell_level p c < n → Walks (hierarchy p) (table_of p) A K (suc (cell_level p c)) (refine_cell n p (cell_place p c)) (λ e. e ≡ c)
  unfolding refine_cell
  cell_walks zero c i k l = absurd (omega arith)
  cell_walks (suc n) c i k l =
      walks_is (hierarchy p) (table_of p) A K _ _ (refine_after (walk_near (refine_cell n p) p (cell_place p c)) p (cell_place p c)) _ (λ t. refl)
      (after_walks c i k (walk_near (refine_cell n p) p (cell_place p c))
      (near_walks p range A K (cell_level p c) (refine_cell n p) c i (λ d j t.
      let h = near_level p range c d t in
      walks_up (hierarchy p) (table_of p) A K _ _ _ _ (omega arith) (cell_walks n d j (may.near c d i k t) (omega arith)))))

  -- a neighbourhood that is refined in the table of A
  settled_has : (c d : ℕ) → c < cell_total p → T (settled p (table_of p A) (cell_place p c)) → T (near p c d) → T (A d)
  unfolding settled
  settled_has c d i t n =
      let e : least_near p (table_of p A) c ≡ 2 = eqb→eq (least_near p (table_of p A) c) 2 (rw (cell_number_place p range c i) at t) in
      two_in (A d) (rooted p A d) (rw (e, get_d_table_of p A d (near_in p range c d n)) at (least_near_le p range (table_of p A) c d n))

  pub close_walks : (c : ℕ) → c < cell_total p → T (K c) → Walks (hierarchy p) (table_of p) A K (cell_level p c) (close_cell (settled p (table_of p A)) p (cell_place p c)) (λ d. T (near p c d))
  unfolding close_cell
  close_walks c i k = cases (settled p (table_of p A) (cell_place p c))
      (λ t S b. record {
        set = S;
        made = rw (T_true (settled p (table_of p A) (cell_place p c)) t) refl;
        grows = grows_none (hierarchy p) K _ S b.high;
        has = λ d n. b.low d (near_in p range c d n) (settled_has c d i t n);
      })
      (λ t. walks_is (hierarchy p) (table_of p) A K _ _ (walk_near (refine_cell p.levels p) p (cell_place p c)) _
      (λ u. rw (T_false (settled p (table_of p A) (cell_place p c)) (not_e (settled p (table_of p A) (cell_place p c)) t)) refl)
      (near_walks p range A K (cell_level p c) (refine_cell p.levels p) c i (λ d j n.
      let h = near_level p range c d n in
      let m = (cell_inside p range d j).level< in
      walks_up (hierarchy p) (table_of p) A K _ _ _ _ (omega arith) (cell_walks p.levels d j (may.near c d i k n) m))))
