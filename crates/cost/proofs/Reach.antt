-- A marked cell reaches all cells that it needs, and few cells (document 02, Req 09). Of neighbourhoods this uses `near_beside` alone.
-- Assumes nothing.
use Prim.Native.Nat.{ℕ, suc, ◌+◌, ◌-◌, ◌*◌, ◌/◌, ◌<◌, ◌≤◌}
use native.Mathlib.Nat.{le_refl, suc-mul, div-zero, le-div_iff_mul-le}
use native.Mathlib.Omega.{arith}
use mathlib.Core.Bool.{Bool}
use mathlib.Core.Path.{◌≡◌, sym, ap, ◌∙◌, subst}
use lib.Dec.{T, eqb, eqb→eq, eqb_refl}
use Rattle.facts.specs.Bounded.{some}
use Rattle.facts.proofs.Tests.{or_l, or_r, or_e, eqb_of}
use Rattle.facts.proofs.Bounded.{some_i}
use Rattle.facts.proofs.Counting.{Few, few_one, few_or, few_some, few_within}
use Rattle.hierarchy.proofs.Closure.{Needs, here, step}
use Rattle.grid.specs.declared.Plan.{Plan}
use Rattle.grid.specs.declared.Place.{Place}
use Rattle.grid.specs.declared.Rectangle.{Rectangle}
use Rattle.grid.specs.Plan.{cell_total, cell_place, cell_number, cell_level, ancestor, hierarchy}
use Rattle.grid.specs.Range.{InRange}
use Rattle.grid.specs.Spans.{in_rectangle}
use Rattle.grid.proofs.Rising.{Apart}
use Rattle.grid.proofs.Laws.{cell_number_place, near_in}
use Rattle.grid.proofs.Spans.{InRectangle, rectangle_fact, rectangle_test}
use Rattle.grid.proofs.Generations.{ancestor_own, ancestor_more, ancestors_apart, ancestors_within, Beside, NearBeside, near_beside}
use Rattle.cost.specs.Reach.{at_most, window, levels_reached, reaches, most_refined}

-- ---- what a cell needs

-- x is in c's window d levels up, as facts
record InWindow (p : Plan) (d : ℕ) (c x : Place) : Type 0 where
  levels : x.level + d ≡ c.level
  columns : Apart p.degree_across x.column (ancestor p d c.column)
  rows : Apart p.degree_up x.row (ancestor p d c.row)

window_test : (p : Plan) (d : ℕ) (c x : Place) → InWindow p d c x → T (in_rectangle (window p d c) x)
unfolding window at_most
window_test p d c x i =
    let columns = i.columns in
    let rows = i.rows in
    rectangle_test (window p d c) x (record {
      level = omega (arith, i.levels);
      columns = record { from = omega (arith, columns.left); to = omega (arith, columns.right) };
      rows = record { from = omega (arith, rows.left); to = omega (arith, rows.right) };
    })

-- a cell is in its own window
own_window : (p : Plan) (c : Place) → InWindow p 0 c c
own_window p c = record {
  levels = omega arith;
  columns = rw (ancestor_own p c.column) (record { right = omega arith; left = omega arith });
  rows = rw (ancestor_own p c.row) (record { right = omega arith; left = omega arith });
}

-- one direction: from a column at most g from a's ancestor, a step to the parent of one at most g from its own ancestor ends at most g
-- from the next ancestor of a
step_apart : (p : Plan) (d e g a q x : ℕ) → Beside p g e q x → Apart g q (ancestor p d a) → Apart g x (ancestor p (d + (e + 1)) a)
step_apart p d e g a q x s o =
    let h = ancestors_within p e g q (ancestor p d a) o in
    let n = s.near in
    rw (ancestor_more p d (e + 1) a, ancestor_more p e 1 (ancestor p d a), ← s.stands)
    (ancestors_apart p 1 g s.child (ancestor p e (ancestor p d a)) (omega arith) (record { right = omega (arith, n.right, h.right); left = omega (arith, n.left, h.left) }))

-- a step into a neighbourhood leads into the next window
window_step : (p : Plan) (d : ℕ) (c y x : Place) → InWindow p d c y → NearBeside p y x → InWindow p (d + (p.class - 1)) c x
window_step p d c y x i b =
    let e : p.class - 2 + 1 ≡ p.class - 1 = omega (arith, b.graded) in
    rw (← e) (record {
      levels = omega (arith, i.levels, b.levels, b.graded);
      columns = step_apart p d (p.class - 2) p.degree_across c.column y.column x.column b.columns i.columns;
      rows = step_apart p d (p.class - 2) p.degree_up c.row y.row x.row b.rows i.rows;
    })

module _ (p : Plan) (range : InRange p) where
  -- so do as many steps as there are
  window_needs : (c : Place) (i : ℕ) {y x : ℕ} → y < cell_total p → InWindow p (i * (p.class - 1)) c (cell_place p y) → Needs (hierarchy p) y x
      → (k : ℕ) × (i ≤ k) × InWindow p (k * (p.class - 1)) c (cell_place p x)
  window_needs c i b w here = (i, le_refl i, w)
  window_needs c i {y} b w (step {y = z} n m) =
      let e : i * (p.class - 1) + (p.class - 1) ≡ suc i * (p.class - 1) = sym (suc-mul i (p.class - 1)) in
      let v : InWindow p (suc i * (p.class - 1)) c (cell_place p z) =
      subst (λ (d : ℕ). InWindow p d c (cell_place p z)) e (window_step p (i * (p.class - 1)) c (cell_place p y) (cell_place p z) w (near_beside p range y z b n)) in
      let (k, l, o) = window_needs c (suc i) (near_in p range y z n) v m in
      (k, omega arith, o)

  -- a marked cell reaches all that it needs
  pub needs_reaches : {c x : ℕ} → c < cell_total p → Needs (hierarchy p) c x → T (reaches p c x)
  unfolding reaches
  needs_reaches {c} b here = or_l (eqb c c) _ (eqb_refl c)
  needs_reaches {c} {x} b (step {y = y} n m) =
      let s = near_beside p range c y b n in
      let z : 0 < p.class - 1 = omega (arith, s.graded) in
      let e : 0 + (p.class - 1) ≡ 1 * (p.class - 1) = omega arith in
      let v : InWindow p (1 * (p.class - 1)) (cell_place p c) (cell_place p y) =
      subst (λ (d : ℕ). InWindow p d (cell_place p c) (cell_place p y)) e (window_step p 0 (cell_place p c) (cell_place p c) (cell_place p y) (own_window p (cell_place p c)) s) in
      let (k, l, w) = window_needs (cell_place p c) 1 (near_in p range c y n) v m in
      let h : k ≤ levels_reached p (cell_level p c) = (le-div_iff_mul-le z).1 (omega (arith, w.levels)) in
      let f : suc (k - 1) ≡ k = omega arith in
      or_r (eqb x c) _ (some_i (levels_reached p (cell_level p c)) _ (k - 1) (omega arith)
      (window_test p (suc (k - 1) * (p.class - 1)) (cell_place p c) (cell_place p x) (subst (λ (i : ℕ). InWindow p (i * (p.class - 1)) (cell_place p c) (cell_place p x)) (sym f) w)))

  -- ---- how many

  -- a rectangle of so many rows and columns has at most as many cells as both make
  rectangle_few : (r : Rectangle) (m n : ℕ) → r.rows.end ≤ r.rows.first + m → r.columns.end ≤ r.columns.first + n
      → Few (cell_total p) (λ x. in_rectangle r (cell_place p x)) (m * (n * 1))
  rectangle_few r m n high wide =
      few_within (cell_total p) (λ x. in_rectangle r (cell_place p x)) (λ x. some m (λ i. some n (λ k. eqb x (cell_at i k)))) among
      (few_some (cell_total p) m (n * 1) (λ i x. some n (λ k. eqb x (cell_at i k))) (λ i _.
      few_some (cell_total p) n 1 (λ k x. eqb x (cell_at i k)) (λ k _. few_one (cell_total p) (cell_at i k))))
    where
      cell_at : ℕ → ℕ → ℕ
      cell_at i k = cell_number p (record { level = r.level; row = r.rows.first + i; column = r.columns.first + k })

      among : (x : ℕ) → x < cell_total p → T (in_rectangle r (cell_place p x)) → T (some m (λ i. some n (λ k. eqb x (cell_at i k))))
      among x b t =
          let f : InRectangle r (cell_place p x) = rectangle_fact r (cell_place p x) t in
          let rows = f.rows in
          let columns = f.columns in
          let i : ℕ = (cell_place p x).row - r.rows.first in
          let k : ℕ = (cell_place p x).column - r.columns.first in
          let el : cell_level p x ≡ r.level = sym f.level in
          let er : (cell_place p x).row ≡ r.rows.first + i = omega (arith, rows.from) in
          let ek : (cell_place p x).column ≡ r.columns.first + k = omega (arith, columns.from) in
          let e : x ≡ cell_at i k = sym (cell_number_place p range x b) ∙ (λ j. cell_number p (record { level = el j; row = er j; column = ek j })) in
          some_i _ _ i (omega (arith, rows.from, rows.to)) (some_i _ _ k (omega (arith, columns.from, columns.to)) (eqb_of x (cell_at i k) e))

  window_few : (d : ℕ) (c : Place) → Few (cell_total p) (λ x. in_rectangle (window p d c) (cell_place p x)) ((2 * p.degree_up + 1) * ((2 * p.degree_across + 1) * 1))
  unfolding window at_most
  window_few d c = rectangle_few (window p d c) (2 * p.degree_up + 1) (2 * p.degree_across + 1) (omega arith) (omega arith)

  -- a marked cell reaches at most so many
  pub reaches_few : (c : ℕ) → Few (cell_total p) (reaches p c) (most_refined p (cell_level p c))
  unfolding reaches
  reaches_few c =
      let n : ℕ = levels_reached p (cell_level p c) in
      let q : ℕ → ℕ → Bool = λ i x. in_rectangle (window p (suc i * (p.class - 1)) (cell_place p c)) (cell_place p x) in
      let f : Few (cell_total p) (λ x. some n (λ i. q i x)) (n * ((2 * p.degree_up + 1) * ((2 * p.degree_across + 1) * 1))) =
      few_some (cell_total p) n _ q (λ i _. window_few (suc i * (p.class - 1)) (cell_place p c)) in
      let o : Few (cell_total p) (reaches p c) (1 + n * ((2 * p.degree_up + 1) * ((2 * p.degree_across + 1) * 1))) =
      few_or (cell_total p) (reaches p c) (λ x. eqb x c) (λ x. some n (λ i. q i x)) (λ x _ t. t) (few_one (cell_total p) c) f in
      omega arith

-- in class 0 a marked cell reaches itself alone
pub reaches_itself : (p : Plan) → p.class ≡ 0 → (c x : ℕ) → T (reaches p c x) → x ≡ c
unfolding reaches some
reaches_itself p z c x t =
    let n : p.class - 1 ≡ 0 = omega arith in
    let e : cell_level p c / (p.class - 1) ≡ 0 = ap (λ (m : ℕ). cell_level p c / m) n ∙ div-zero (cell_level p c) in
    eqb→eq x c (or_e (eqb x c) _ t (λ u. u) (λ u. absurd (rw e at u)))
