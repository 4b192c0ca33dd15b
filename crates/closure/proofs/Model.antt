-- Which case of the model applies, as the code's tests say; and what the code wants of a neighbourhood. Assumes nothing.
use mathlib.Core.Path.{◌≡◌, refl, sym, ap, subst}
use mathlib.Core.Bool.{Bool, true, false}
use mathlib.Core.List.{List}
use Prim.Native.Nat.{ℕ, zero, suc, ◌+◌, ◌-◌, ◌≤◌, ◌<◌}
use native.Mathlib.Omega.{arith}
use lib.Dec.{eqb}
use lib.ListN.{get_or}
use borrow.Author.Tests.{eq-eqb, ne_eqb, le-leb, lt-leb}
use Rattle.grid.specs.declared.Plan.{Plan}
use Rattle.grid.specs.declared.Place.{Place}
use Rattle.grid.specs.declared.Rectangle.{Rectangle}
use Rattle.grid.specs.Plan.{cell_number, CellInside}
use Rattle.grid.specs.Range.{InRange, HasNeighbourhood}
use Rattle.grid.specs.Spans.{neighbourhood}
use Rattle.grid.proofs.Rectangles.{neighbourhood_in, neighbourhood_level}
use Rattle.closure.specs.declared.Pass.{Pass}
use Rattle.closure.specs.declared.Pass.TheVariants.{Refine, Activate, Close}
use Rattle.windows.specs.Near.{NearTable}
use Rattle.closure.specs.Walk.{sweep, at, over_row, over, write_cell, walk_near, refine_after, refine_cell, flagged, settled, told, close_cell, visit, level_cells, pass_level}
use Rattle.closure.proofs.Sweeps.{over_same}

-- ---- a cell

module _ (p : Plan) (x : Place) (t : List ℕ) where
  pub refine_done : (n : ℕ) → x.level < n → get_or t (cell_number p x) 0 ≡ 2 → t ≡ refine_cell n p x t
  unfolding refine_cell refine_after
  refine_done zero l e = absurd (omega arith)
  refine_done (suc n) l e = rw (eq-eqb _ _ e) refl

  -- a cell that was not refined, from the table after its neighbourhood
  pub refine_opened : (n : ℕ) (mid : List ℕ) → x.level < n → (get_or t (cell_number p x) 0 ≡ 2 → ⊥)
      → ((m : ℕ) → x.level ≤ m → mid ≡ walk_near (refine_cell m p) p x t) → write_cell p 2 x mid ≡ refine_cell n p x t
  unfolding refine_cell refine_after
  refine_opened zero mid l f h = absurd (omega arith)
  refine_opened (suc n) mid l f h = rw (ne_eqb _ _ f) (ap (write_cell p 2 x) (h n (omega arith)))

  -- ---- a neighbourhood

  module _ (f : Place → List ℕ → List ℕ) where
    pub near_plain : p.class ≡ 0 → t ≡ walk_near f p x t
    unfolding walk_near
    near_plain e = rw (eq-eqb _ _ e) refl

    pub near_low : (p.class ≡ 0 → ⊥) → x.level + 1 < p.class → t ≡ walk_near f p x t
    unfolding walk_near
    near_low h l = rw (ne_eqb _ _ h, lt-leb _ _ l) refl

    -- the two loops, over the rectangle r
    pub near_over : {r : Rectangle} → r ≡ neighbourhood p x → (p.class ≡ 0 → ⊥) → p.class ≤ x.level + 1
        → sweep (λ y. over_row f r.level y r.columns) r.rows.first (r.rows.end - r.rows.first) t ≡ walk_near f p x t
    unfolding walk_near over
    near_over e h l = rw (ne_eqb _ _ h, le-leb _ _ l, e) refl

-- ---- the rectangle of a neighbourhood

pub record Lower (p : Plan) (x : Place) (r : Rectangle) : Type 0 where
  pub level< : r.level < x.level
  pub rows≤ : r.rows.first ≤ r.rows.end
  pub columns≤ : r.columns.first ≤ r.columns.end
  pub inside : (y c : ℕ) → y < r.rows.end → c < r.columns.end → CellInside p (at r.level y c)

lower_near : (p : Plan) (x : Place) → InRange p → CellInside p x → HasNeighbourhood p x.level → Lower p x (neighbourhood p x)
lower_near p x range i has =
    let r = neighbourhood_in p range x has i in
    let rows = r.rows in
    let columns = r.columns in
    record {
      level< = omega (arith, neighbourhood_level p range x has, range.class≢, has.class≢, has.level≥);
      rows≤ = omega (arith, rows.some);
      columns≤ = omega (arith, columns.some);
      inside = λ y c a b. record { level< = r.level<; row< = omega (arith, rows.within); column< = omega (arith, columns.within) };
    }

pub lower : {p : Plan} {x : Place} {r : Rectangle} → r ≡ neighbourhood p x → InRange p → CellInside p x → HasNeighbourhood p x.level → Lower p x r
lower {p} {x} e range i has = subst (Lower p x) (sym e) (lower_near p x range i has)

-- ---- a visit of a pass

module _ (p : Plan) (x : Place) (test : Place → Bool) (t : List ℕ) where
  pub close_settled : test x ≡ true → t ≡ close_cell test p x t
  unfolding close_cell
  close_settled e = rw e refl

  pub close_open : test x ≡ false → walk_near (refine_cell p.levels p) p x t ≡ close_cell test p x t
  unfolding close_cell
  close_open e = rw e refl

  module _ (flags : List ℕ) {c : ℕ} (n : c ≡ cell_number p x) {w : Pass} where
    pub visit_refine : w ≡ Refine → get_or flags c 0 ≡ 1 → (get_or t c 0 ≡ 2 → ⊥) → write_cell p 2 x (close_cell test p x t) ≡ visit w p flags test x t
    unfolding visit flagged refine_after
    visit_refine e f g = rw (e, ← n, eq-eqb _ _ f, ne_eqb _ _ g) refl

    pub visit_refine_done : w ≡ Refine → get_or flags c 0 ≡ 1 → get_or t c 0 ≡ 2 → t ≡ visit w p flags test x t
    unfolding visit flagged refine_after
    visit_refine_done e f g = rw (e, ← n, eq-eqb _ _ f, eq-eqb _ _ g) refl

    pub visit_refine_not : w ≡ Refine → (get_or flags c 0 ≡ 1 → ⊥) → t ≡ visit w p flags test x t
    unfolding visit flagged
    visit_refine_not e f = rw (e, ← n, ne_eqb _ _ f) refl

    pub visit_activate : w ≡ Activate → get_or flags c 0 ≡ 1 → write_cell p 1 x t ≡ visit w p flags test x t
    unfolding visit flagged
    visit_activate e f = rw (e, ← n, eq-eqb _ _ f) refl

    pub visit_activate_not : w ≡ Activate → (get_or flags c 0 ≡ 1 → ⊥) → t ≡ visit w p flags test x t
    unfolding visit flagged
    visit_activate_not e f = rw (e, ← n, ne_eqb _ _ f) refl

    pub visit_close : w ≡ Close → get_or t c 0 ≡ 2 → close_cell test p x t ≡ visit w p flags test x t
    unfolding visit
    visit_close e f = rw (e, ← n, eq-eqb _ _ f) refl

    pub visit_close_not : w ≡ Close → (get_or t c 0 ≡ 2 → ⊥) → t ≡ visit w p flags test x t
    unfolding visit
    visit_close_not e f = rw (e, ← n, ne_eqb _ _ f) refl

-- tests that say the same of the cell
visit_same : (w : Pass) (p : Plan) (flags : List ℕ) (a b : Place → Bool) (x : Place) (t : List ℕ) → a x ≡ b x → visit w p flags a x t ≡ visit w p flags b x t
unfolding visit close_cell refine_after
visit_same Refine p flags a b x t e = rw e refl
visit_same Activate p flags a b x t e = refl
visit_same Close p flags a b x t e = rw e refl

-- the table of a level's neighbourhoods tells what is refined when the level is entered
pub level_told : (w : Pass) (p : Plan) (flags near t : List ℕ) (k : ℕ) → k < p.levels → NearTable p t near k
    → over (visit w p flags (told p near)) (level_cells p k) t ≡ pass_level w p flags k t
unfolding pass_level told settled
level_told w p flags near t k l table = over_same _ _ (level_cells p k) t (λ y x u rows columns.
    visit_same w p flags (told p near) (settled p t) (at k y x) u
    (ap (λ b. eqb b 2) (table.made (at k y x) (record { level< = l; row< = rows.to; column< = columns.to }) refl)))
