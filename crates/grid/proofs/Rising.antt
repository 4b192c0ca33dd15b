-- Columns under functions, where column x has G x as its first function and d more: G starts at 0 and rises by 1 to d from column to
-- column. All that a level asks of its supports follows from this. Assumes nothing.
use Prim.Native.Nat.{ℕ, zero, suc, min, max, ◌+◌, ◌-◌, ◌/◌, ◌≤◌, ◌<◌}
use native.Mathlib.Nat.{add-zero, add-suc}
use native.Mathlib.Omega.{arith}
use mathlib.Core.Logic.{◌↔◌}
use mathlib.Core.Path.{◌≡◌, refl}

pub record Rises (d : ℕ) (G : ℕ → ℕ) : Type 0 where
  pub starts : G 0 ≡ 0
  pub rises : (x : ℕ) → G x < G (suc x)
  pub step : (x : ℕ) → G (suc x) ≤ G x + d

-- at most d apart
pub record Apart (d x y : ℕ) : Type 0 where
  pub right : x ≤ y + d
  pub left : y ≤ x + d

-- function i is one of the d + 1 from g on
pub record Covers (d g i : ℕ) : Type 0 where
  pub from : g ≤ i
  pub to : i ≤ g + d

-- one of a span's
pub record In (first end x : ℕ) : Type 0 where
  pub from : first ≤ x
  pub to : x < end

module _ (d : ℕ) (G : ℕ → ℕ) (r : Rises d G) where
  -- the functions are as far apart as the columns, or farther
  farther : (x k : ℕ) → G x + k ≤ G (x + k)
  farther x zero = rw (add-zero x) (omega arith)
  farther x (suc k) = rw (add-suc x k) (omega (arith, farther x k, r.rises (x + k)))

  pub spread : (x y : ℕ) → x ≤ y → G x + (y - x) ≤ G y
  spread x y l = let e : x + (y - x) ≡ y = omega arith in rw e at (farther x (y - x))

  pub ordered : (x y : ℕ) → x ≤ y → G x ≤ G y
  ordered x y l = omega (arith, spread x y l)

  -- columns under a common function are at most d apart
  pub columns_reach : (x y : ℕ) → G x ≤ G y + d → x ≤ y + d
  columns_reach x y h = go (y - x) (x - y) refl refl
    where
      go : (a b : ℕ) → y - x ≡ a → x - y ≡ b → x ≤ y + d
      go a zero e f = omega arith
      go a (suc b) e f = omega (arith, spread y x (omega arith))

  pub columns_apart : (x y : ℕ) → Apart d (G x) (G y) → Apart d x y
  columns_apart x y a = record { right = columns_reach x y a.right; left = columns_reach y x a.left }

  -- ---- a common function

  pub apart_common : (n x y : ℕ) → x < n → y < n → Apart d (G x) (G y)
      → (i : ℕ) × (i < G (n - 1) + d + 1) × Covers d (G x) i × Covers d (G y) i
  apart_common n x y l m a =
      let g = ordered x (n - 1) (omega arith) in
      let h = ordered y (n - 1) (omega arith) in
      (max (G x) (G y), omega arith, omega arith, omega arith)

  -- ---- spans: B j counts the columns whose first function is below j

  module _ (B : ℕ → ℕ) (inverse : (j x : ℕ) → (x < B j) ↔ (G x < j)) where
    in_before : (j x : ℕ) → x < B j → G x < j
    in_before j x = (inverse j x).0

    before_in : (j x : ℕ) → G x < j → x < B j
    before_in j x = (inverse j x).1

    not_before : (j x : ℕ) → B j ≤ x → j ≤ G x
    not_before j x l = go (j - G x) refl
      where
        go : (a : ℕ) → j - G x ≡ a → j ≤ G x
        go zero e = omega arith
        go (suc a) e = let b = before_in j x (omega arith) in omega arith

    before_not : (j x : ℕ) → j ≤ G x → B j ≤ x
    before_not j x l = go (B j - x) refl
      where
        go : (a : ℕ) → B j - x ≡ a → B j ≤ x
        go zero e = omega arith
        go (suc a) e = let b = in_before j x (omega arith) in omega arith

    module _ (n : ℕ) (some : 0 < n) where
      -- the columns that function i covers
      pub span_covers : (i x : ℕ) → x < n → In (B (i - d)) (min n (B (i + 1))) x ↔ Covers d (G x) i
      span_covers i x l = (
        λ s. let a = not_before (i - d) x s.from in
            let b = in_before (i + 1) x (omega (arith, s.to)) in
            record { from = omega arith; to = omega arith },
        λ c. let a = before_not (i - d) x (omega (arith, c.to)) in
            let b = before_in (i + 1) x (omega (arith, c.from)) in
            record { from = a; to = omega arith },
      )

      -- no function is without a column
      pub span_some : (i : ℕ) → i < G (n - 1) + d + 1 → B (i - d) < min n (B (i + 1))
      span_some i l =
          let a = before_not (i - d) (n - 1) (omega arith) in
          let b : B (i - d) < B (i + 1) = go (B (i - d)) refl in
          omega arith
        where
          go : (x : ℕ) → B (i - d) ≡ x → x < B (i + 1)
          go zero e = before_in (i + 1) 0 (omega (arith, r.starts))
          go (suc x) e = before_in (i + 1) (suc x) (omega (arith, in_before (i - d) x (omega arith), r.step x))

      -- the columns under a common function with x
      pub span_together : (g y : ℕ) → y < n → In (B (g - d)) (min n (B (g + d + 1))) y ↔ Apart d (G y) g
      span_together g y l = (
        λ s. let a = not_before (g - d) y s.from in
            let b = in_before (g + d + 1) y (omega (arith, s.to)) in
            record { right = omega arith; left = omega arith },
        λ c. let a = before_not (g - d) y (omega (arith, c.left)) in
            let b = before_in (g + d + 1) y (omega (arith, c.right)) in
            record { from = a; to = omega arith },
      )

-- ---- two levels: s columns of the one, with G, stand on a column of the other, with H

-- what they must have in common: columns under a common function have parents under one
abbrev pub Tied : ℕ → ℕ → (ℕ → ℕ) → (ℕ → ℕ) → Type 0
Tied s d G H = (x y : ℕ) → G x ≤ G y + d → H (x / s) ≤ H (y / s) + d
