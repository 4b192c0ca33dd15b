-- Parts of arrays of zeros, which are lent as tables. Assumes nothing.
use mathlib.Core.Path.{◌≡◌, refl, sym, ◌∙◌}
use Prim.Native.Nat.{ℕ, zero, suc, ◌≤◌}
use lib.ListN.{length, take, replicate, length-replicate}
use lib.Seq.{length-take-le}
use Rattle.facts.specs.Numbers.{Clear}

-- the first n of m zeros
pub zeros : (m n : ℕ) → n ≤ m → n ≡ length {A = ℕ} (take n (replicate m 0))
zeros m n h = sym (length-take-le {A = ℕ} n (replicate m 0) (rw length-replicate h))

pub part_length : (m n : ℕ) {t : ℕ} → n ≡ t → t ≤ m → length {A = ℕ} (take n (replicate m 0)) ≡ t
part_length m n e h = sym (zeros m n (rw e h)) ∙ e

pub clear : (m n : ℕ) → Clear (take n (replicate m 0))
clear zero zero i = refl
clear zero (suc n) i = refl
clear (suc m) zero i = refl
clear (suc m) (suc n) zero = refl
clear (suc m) (suc n) (suc i) = clear m n i
