-- Tables that agree, byte by byte: one number more, and what it says of the bytes. Assumes nothing.
use mathlib.Core.Path.{◌≡◌}
use mathlib.Core.Bool.{Bool, true, ◌&&◌, and_comm}
use mathlib.Core.List.{List}
use Prim.Native.Nat.{ℕ, suc, ◌+◌, ◌-◌, ◌≤◌, ◌<◌}
use native.Mathlib.Omega.{arith}
use lib.Dec.{eqb, eqb→eq}
use lib.ListN.{get_or}
use Rattle.facts.specs.Bounded.{every}
use Rattle.facts.specs.Ranges.{every_from}
use Rattle.facts.proofs.Tests.{true_T}
use Rattle.facts.proofs.Ranges.{every_from_lem, from_e}
use Rattle.compare.specs.Agree.{agree}

module _ (a b : List ℕ) where
  -- the bytes at a number are the same
  abbrev pub alike : ℕ → Bool
  alike i = eqb (get_or a i 0) (get_or b i 0)

  pub agree_none : (from : ℕ) → true ≡ agree from from a b
  unfolding agree every_from every
  agree_none from = let z : from - from ≡ 0 = omega arith in rw z

  pub agree_next : (from i : ℕ) (ok : Bool) → from ≤ i → ok ≡ agree from i a b → ok && alike i ≡ agree from (i + 1) a b
  unfolding agree every_from every
  agree_next from i ok l e =
      let s : i + 1 - from ≡ suc (i - from) = omega arith in
      let q : from + (i - from) ≡ i = omega arith in
      rw (s, q, e) (and_comm (every_from from (i - from) alike) (alike i))

  -- what a comparison that passes says
  pub agree_at : (from to : ℕ) → agree from to a b ≡ true → (i : ℕ) → from ≤ i → i < to → get_or a i 0 ≡ get_or b i 0
  unfolding agree
  agree_at from to e i l m = eqb→eq (get_or a i 0) (get_or b i 0) (from_e from (to - from) alike (true_T _ e) i l (omega arith))

  -- whole tables
  pub agree_all : (n : ℕ) → agree 0 n a b ≡ every n alike
  unfolding agree
  agree_all n = let z : n - 0 ≡ n = omega arith in rw z (every_from_lem n alike)
