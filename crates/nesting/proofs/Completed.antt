-- The bytes of the cells that are not refined, made part by part: the refined cells stay the same, and so does what is still to be made.
-- Assumes nothing.
use mathlib.Core.Path.{◌≡◌, refl, sym, ap, ◌∙◌}
use mathlib.Core.Bool.{Bool, true, ◌||◌, cond}
use mathlib.Core.List.{List}
use Prim.Native.Nat.{ℕ, ◌+◌, ◌-◌, ◌*◌, ◌≤◌, ◌<◌}
use native.Mathlib.Omega.{arith}
use lib.Dec.{eqb, ltb, ltb→lt, nltb→le}
use lib.ListN.{length, get_or, set, get_or-eq_default}
use Rattle.facts.specs.Mapped.{filled}
use Rattle.facts.proofs.Tests.{cases}
use Rattle.facts.proofs.Mapped.{run_in, run_before, run_after, run_e, mapped_at, filled_length, filled_none, filled_set, filled_more, filled_same, filled_all}
use Rattle.hierarchy.specs.Hierarchy.{Cells}
use Rattle.grid.specs.declared.Plan.{Plan}
use Rattle.grid.specs.Plan.{ratio, columns_at, rows_at, cell_offset, cell_total, cell_level, parent}
use Rattle.grid.specs.Range.{InRange}
use Rattle.grid.proofs.Levels.{offset_mono}
use Rattle.mesh.proofs.Bridge.{byte_two}
use Rattle.mesh.specs.Mesh.{refined, table_of}
use Rattle.nesting.specs.Table.{RowUnder}
use Rattle.nesting.specs.Completed.{byte_in, completed}
use Rattle.nesting.proofs.Rows.{first_before, level_more, present_of_lem}
use Rattle.nesting.proofs.Nested.{level_zero}

pub filled_zero : (a n : ℕ) (f : ℕ → ℕ) (xs : List ℕ) → n ≡ 0 → xs ≡ filled a n f xs
filled_zero a n f xs z = rw z (filled_none a f xs)

-- a table in which f gives 2 just to its refined cells keeps them
refined_filled : (a n : ℕ) (f : ℕ → ℕ) (xs : List ℕ) → ((c : ℕ) → eqb (f c) 2 ≡ refined xs c) → (c : ℕ) → refined (filled a n f xs) c ≡ refined xs c
unfolding refined filled
refined_filled a n f xs h c = cases (ltb c (length xs))
    (λ t. ap (λ x. eqb x 2) (mapped_at _ xs c (ltb→lt _ _ t)) ∙ run_e a n c (λ u. rw (run_before a n c u)) (λ u w. rw (run_in a n c u w) (h c)) (λ u. rw (run_after a n c u)))
    (λ t.
    let l : length xs ≤ c = nltb→le _ _ t in
    let m : length (filled a n f xs) ≤ c = omega (arith, filled_length a n f xs) in
    rw (get_or-eq_default xs 0 l, get_or-eq_default (filled a n f xs) 0 m))

-- bytes that are made by which cells are refined, part by part
module _ (g : Cells → ℕ → ℕ) (two : (S : Cells) (c : ℕ) → eqb (g S c) 2 ≡ S c) (ts : List ℕ) where
  filled_join : (a m b n : ℕ) {xs zs : List ℕ} → b ≡ a + m → xs ≡ filled a m (g (refined ts)) ts → zs ≡ filled b n (g (refined xs)) xs → zs ≡ filled a (m + n) (g (refined ts)) ts
  filled_join a m b n q e f =
      let keeps = ap refined e ∙ (λ i c. refined_filled a m (g (refined ts)) ts (two (refined ts)) c i) in
      f ∙ ((λ i. filled b n (g (keeps i)) (e i)) ∙ filled_more a m b n (g (refined ts)) ts q)

-- one cell more
pub cells_next : (a i : ℕ) (present : Bool) (ts : List ℕ) {v : ℕ} {xs : List ℕ} → a ≤ i → i < length xs → xs ≡ filled a (i - a) (byte_in (refined ts) present) ts
    → v ≡ cond (eqb (get_or xs i 0) 2) 2 (cond present 1 0) → set xs i v ≡ filled a (i + 1 - a) (byte_in (refined ts) present) ts
unfolding byte_in refined
cells_next a i present ts {v} {xs} m l e q =
    let n : i + 1 - a ≡ i - a + 1 = omega arith in
    rw n (filled_join (λ S. byte_in S present) (λ S c. byte_two (S c) present) ts a (i - a) i 1 (omega arith) e (filled_set i v (byte_in (refined xs) present) xs l q))

module _ (p : Plan) where
  completed_two : (S : Cells) (c : ℕ) → eqb (completed p S c) 2 ≡ S c
  unfolding completed byte_in
  completed_two S c = byte_two (S c) (eqb (cell_level p c) 0 || S (parent p c))

  -- a level's rows, and a row's cells with one parent, w each
  pub rows_next : (ts : List ℕ) (a w row at : ℕ) {n : ℕ} {xs zs : List ℕ} → at ≡ a + row * w → n ≡ w → xs ≡ filled a (row * w) (completed p (refined ts)) ts → zs ≡ filled at n (completed p (refined xs)) xs
      → zs ≡ filled a ((row + 1) * w) (completed p (refined ts)) ts
  rows_next ts a w row at q en e f =
      let u : (row + 1) * w ≡ row * w + w = omega arith in
      rw u (filled_join (completed p) completed_two ts a (row * w) at w q e (rw en at f))

  -- the children of one cell more
  pub children_next : (k start over width : ℕ) (r : RowUnder p k start over width) (x : ℕ) → x < width → (ts : List ℕ) {at n : ℕ} {xs zs : List ℕ} → at ≡ start + x * ratio p → n ≡ ratio p
      → xs ≡ filled start (x * ratio p) (completed p (refined ts)) ts → zs ≡ filled at n (byte_in (refined xs) (eqb (get_or xs (over + x) 0) 2)) xs
      → zs ≡ filled start ((x + 1) * ratio p) (completed p (refined ts)) ts
  unfolding refined completed byte_in
  children_next k start over width r x l ts {xs = xs} ea en e f =
      rows_next ts start (ratio p) x (start + x * ratio p) refl refl e
      ((rw (ea, en) at f) ∙ sym (filled_same _ _ _ _ xs (λ d from to i. byte_in (refined xs) (present_of_lem p k start over width r x l d from to (refined xs) i) d)))

  -- the levels below the first, one by one
  pub levels_next : (ts : List ℕ) (k : ℕ) {xs zs : List ℕ} → xs ≡ filled (cell_offset p 1) (cell_offset p (k + 1) - cell_offset p 1) (completed p (refined ts)) ts
      → zs ≡ filled (cell_offset p (k + 1)) (rows_at p (k + 1) * columns_at p (k + 1)) (completed p (refined xs)) xs
      → zs ≡ filled (cell_offset p 1) (cell_offset p (k + 1 + 1) - cell_offset p 1) (completed p (refined ts)) ts
  levels_next ts k e f = rw (level_more p k) (filled_join (completed p) completed_two ts (cell_offset p 1) _ (cell_offset p (k + 1)) _ (omega (arith, first_before p k)) e f)

  -- the first, and then all of those
  pub all_completed : (range : InRange p) (ts : List ℕ) {end : ℕ} {xs zs : List ℕ} → length ts ≡ cell_total p → end ≡ cell_offset p 1 → xs ≡ filled 0 end (byte_in (refined ts) true) ts
      → zs ≡ filled (cell_offset p 1) (cell_total p - cell_offset p 1) (completed p (refined xs)) xs → zs ≡ table_of p (refined ts)
  unfolding table_of completed byte_in
  all_completed range ts size ee e f =
      let first = (rw ee at e) ∙ filled_same 0 (cell_offset p 1) _ (completed p (refined ts)) ts (λ c l m. rw (level_zero p range c (omega arith))) in
      let q : cell_offset p 1 + (cell_total p - cell_offset p 1) ≡ cell_total p = omega (arith, offset_mono (columns_at p) (rows_at p) 1 p.levels range.levels≥) in
      filled_join (completed p) completed_two ts 0 (cell_offset p 1) (cell_offset p 1) _ (omega arith) first f
      ∙ (ap (λ n. filled 0 n (completed p (refined ts)) ts) q ∙ filled_all (cell_total p) (completed p (refined ts)) ts size)
