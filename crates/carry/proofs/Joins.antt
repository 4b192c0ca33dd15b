-- Rows make a level and levels make the whole: heights passed on part by part. Assumes nothing.
use mathlib.Core.Path.{◌≡◌, sym, ap, ◌∙◌}
use mathlib.Core.Bool.{false}
use mathlib.Core.List.{List}
use Prim.Native.Nat.{ℕ, zero, suc, ◌+◌, ◌-◌, ◌*◌, ◌≤◌}
use native.Mathlib.Nat.{zero-mul, add-zero, add-suc, add-sub_of_le}
use native.Mathlib.Omega.{arith}
use lib.IntN.{ℤ}
use lib.ListN.{length}
use Rattle.grid.specs.declared.Plan.{Plan}
use Rattle.grid.specs.Plan.{function_columns_at, function_rows_at, function_offset, function_total}
use Rattle.grid.proofs.Levels.{offset_zero, offset_next, offset_mono}
use Rattle.mesh.specs.Mesh.{deactivated}
use Rattle.carry.specs.Carry.{carried}
use Rattle.carry.specs.Steps.{carried_from, Underway, NoneLast}
use Rattle.carry.proofs.Small.{carried_length}
use Rattle.carry.proofs.Turns.{from_none, from_carried, from_join}

module _ {p : Plan} {fs : List ℕ} where
  pub underway_size : {n : ℕ} {hs : List ℤ} → Underway p fs n hs → length hs ≡ function_total p
  underway_size {n} u = ap length u.is ∙ carried_length p fs n u.start u.started.sized

  -- m more
  pub underway_more : {n : ℕ} {hs new : List ℤ} (m : ℕ) → Underway p fs n hs → new ≡ carried_from p fs n m hs → Underway p fs (n + m) new
  underway_more {n} m u e = record {
    start = u.start;
    started = u.started;
    sized = u.sized;
    is = e ∙ (ap (carried_from p fs n m) u.is ∙ from_carried p fs n m u.start);
  }

-- ---- a level, row by row: from `o` on, w functions to a row

module _ (p : Plan) (fs : List ℕ) (o w : ℕ) where
  pub rows_none : (hs : List ℤ) → hs ≡ carried_from p fs o (0 * w) hs
  rows_none hs = rw (zero-mul w) (from_none p fs o hs)

  pub rows_more : (r : ℕ) (old : List ℤ) {hs new : List ℤ} → hs ≡ carried_from p fs o (r * w) old → new ≡ carried_from p fs (o + r * w) w hs → new ≡ carried_from p fs o ((r + 1) * w) old
  rows_more r old e q =
      let n : r * w + w ≡ (r + 1) * w = omega arith in
      q ∙ (ap (carried_from p fs (o + r * w) w) e ∙ (from_join p fs o (r * w) w old ∙ ap (λ n. carried_from p fs o n old) n))

-- ---- all levels

module _ (p : Plan) (fs : List ℕ) where
  pub levels_none : (hs : List ℤ) → hs ≡ carried p fs (function_offset p 0) hs
  unfolding carried
  levels_none hs = rw (offset_zero (function_columns_at p) (function_rows_at p))

  pub levels_more : (k : ℕ) (old : List ℤ) {hs new : List ℤ} → hs ≡ carried p fs (function_offset p k) old → new ≡ carried_from p fs (function_offset p k) (function_rows_at p k * function_columns_at p k) hs
      → new ≡ carried p fs (function_offset p (k + 1)) old
  levels_more k old e q =
      q ∙ (ap (carried_from p fs (function_offset p k) (function_rows_at p k * function_columns_at p k)) e
      ∙ (from_carried p fs (function_offset p k) (function_rows_at p k * function_columns_at p k) old ∙ ap (λ n. carried p fs n old) (sym (offset_next (function_columns_at p) (function_rows_at p) k))))

  -- where none is deactivated any more, nothing changes
  idle : (a n : ℕ) (hs : List ℤ) → ((f : ℕ) → a ≤ f → deactivated fs f ≡ false) → carried p fs a hs ≡ carried p fs (a + n) hs
  unfolding carried
  idle a zero hs none = rw (add-zero a)
  idle a (suc n) hs none = rw (add-suc a n, none (a + n) (omega arith)) (idle a n hs none)

  pub levels_all : (hs : List ℤ) → NoneLast p fs → carried p fs (function_offset p (p.levels - 1)) hs ≡ carried p fs (function_total p) hs
  levels_all hs none =
      let from = function_offset p (p.levels - 1) in
      idle from (function_total p - from) hs none ∙ ap (λ n. carried p fs n hs) (add-sub_of_le (offset_mono (function_columns_at p) (function_rows_at p) (p.levels - 1) p.levels (omega arith)))
