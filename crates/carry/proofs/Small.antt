-- No height leaves 32 bits on its way: what a function gets is at most 16 sixteenths of the most of the level before. Assumes nothing.
use mathlib.Core.Path.{◌≡◌, refl, sym, ap, ◌∙◌}
use mathlib.Core.Bool.{Bool, true, false, cond}
use mathlib.Core.List.{List}
use Prim.Native.Nat.{ℕ, zero, suc, ◌+◌, ◌-◌, ◌*◌, ◌^◌, ◌≤◌, ◌<◌, zero-le}
use native.Mathlib.Nat.{le_trans, le_of_eq, pow-suc, add-sub_of_le, mul-le-mul_left, mul-le-mul_right, mul-zero}
use native.Mathlib.Omega.{arith}
use lib.Dec.{eqb, eqb→eq, lit≤}
use lib.IntN.{ℤ, pos, nat_abs, ◌+ℤ◌, ◌*ℤ◌}
use lib.ListN.{length}
use Rattle.facts.specs.Bounded.{sum}
use Rattle.facts.proofs.Sums.{sum_split}
use Rattle.facts.proofs.Tests.{cases, differ}
use Rattle.exact.proofs.Dyadic.{abs_mul}
use Rattle.exact.proofs.Sums.{abs_add}
use Rattle.grid.specs.declared.Plan.{Plan}
use Rattle.grid.specs.Plan.{function_total, function_level}
use Rattle.grid.proofs.Laws.{function_inside}
use Rattle.mesh.specs.Mesh.{deactivated}
use Rattle.carry.specs.Carry.{share, at, pass_on, carried}
use Rattle.carry.specs.Steps.{most, Started, Passing, Scales}
use Rattle.carry.proofs.OnePass.{passed_length, passed_at}
use Rattle.carry.proofs.Shares.{share_level, share_sum}

pub carried_length : (p : Plan) (fs : List ℕ) (n : ℕ) (hs : List ℤ) → length hs ≡ function_total p → length (carried p fs n hs) ≡ function_total p
unfolding carried
carried_length p fs zero hs e = e
carried_length p fs (suc n) hs e = go (deactivated fs n) (carried_length p fs n hs e)
  where
    go : (b : Bool) → length (carried p fs n hs) ≡ function_total p → length (cond b (pass_on p n (carried p fs n hs)) (carried p fs n hs)) ≡ function_total p
    go true d = passed_length p n (carried p fs n hs)
    go false d = d

-- ---- sizes

-- the most that a function of the level before has, for each level: its own, at most 65,536 mm, and 16 sixteenths of the most before
most_before : ℕ → ℕ
most_before zero = 0
most_before (suc k) = 65536 * 16 ^ k + most_before k * 16

most_is : (k : ℕ) → most_before (suc k) ≡ suc k * (65536 * 16 ^ k)
unfolding most_before
most_is zero = refl
most_is (suc k) = rw (pow-suc 16 k) (omega (arith, most_is k))

four_levels : (k : ℕ) → k ≤ 4 → most_before k ≤ 1073741824
unfolding most_before
four_levels zero l = zero-le
four_levels (suc zero) l = lit≤ tt
four_levels (suc (suc zero)) l = lit≤ tt
four_levels (suc (suc (suc zero))) l = lit≤ tt
four_levels (suc (suc (suc (suc zero)))) l = lit≤ tt
four_levels (suc (suc (suc (suc (suc k))))) l = absurd (omega arith)

module _ (p : Plan) (fs : List ℕ) (hs : List ℤ) (s : Started p hs) (scales : Scales p) where
  -- what g has got of the functions below n
  abbrev got : ℕ → ℕ → ℕ
  got n g = sum n (λ f. share p f g)

  got_most : (n g : ℕ) → n ≤ function_total p → g < function_total p → got n g ≤ 16
  got_most n g l b =
      let e = ap (λ m. got m g) (sym (add-sub_of_le l)) ∙ sum_split n (function_total p - n) (λ f. share p f g) in
      omega (arith, e, share_sum p s.allowed scales g b)

  abbrev room : ℕ → ℕ → ℕ
  room n g = 65536 * 16 ^ function_level p g + most_before (function_level p g) * got n g

  abbrev Low : ℕ → Type 0
  Low n = (g : ℕ) → g < function_total p → nat_abs (at (carried p fs n hs) g) ≤ room n g

  room_most : (n g : ℕ) → n ≤ function_total p → g < function_total p → room n g ≤ most_before (suc (function_level p g))
  unfolding most_before
  room_most n g l b = omega (arith, mul-le-mul_left (most_before (function_level p g)) (got_most n g l b))

  -- what g has, and gets of n
  next : (n : ℕ) → n < function_total p → Low n
      → (g : ℕ) → g < function_total p → nat_abs (at (carried p fs n hs) g) + nat_abs (at (carried p fs n hs) n) * share p n g ≤ room (suc n) g
  unfolding sum
  next n l low g b =
      let h = nat_abs (at (carried p fs n hs) n) in
      let part : h * share p n g ≤ most_before (function_level p g) * share p n g =
      cases (eqb (function_level p g) (suc (function_level p n)))
      (λ t. let e = eqb→eq (function_level p g) (suc (function_level p n)) t in
      mul-le-mul_right (share p n g) (rw e (le_trans (low n l) (room_most n n (omega arith) l))))
      (λ t. rw (share_level p n g (differ (function_level p g) (suc (function_level p n)) t), mul-zero h) zero-le) in
      omega (arith, low g b)

  low : (n : ℕ) → n ≤ function_total p → Low n
  unfolding carried sum
  low zero l g b = omega (arith, s.low g)
  low (suc n) l g b = go (deactivated fs n) (next n l (low n (omega arith)) g b)
    where
      before : List ℤ
      before = carried p fs n hs

      gets : (c : Bool) → nat_abs (at before g) + nat_abs (at before n) * share p n g ≤ room (suc n) g
          → nat_abs (cond c (pos 0) (at before g +ℤ at before n *ℤ pos (share p n g))) ≤ room (suc n) g
      gets true m = zero-le
      gets false m = omega (arith, abs_add (at before g) (at before n *ℤ pos (share p n g)), abs_mul (at before n) (pos (share p n g)))

      go : (d : Bool) → nat_abs (at before g) + nat_abs (at before n) * share p n g ≤ room (suc n) g → nat_abs (at (cond d (pass_on p n before) before) g) ≤ room (suc n) g
      go true m = rw (passed_at p n before g b) (gets (eqb g n) m)
      go false m = omega arith

  pub carried_small : (n g : ℕ) → n ≤ function_total p → g < function_total p
      → nat_abs (at (carried p fs n hs) g) ≤ suc (function_level p g) * (65536 * 16 ^ function_level p g)
  carried_small n g l b = le_trans (low n l g b) (le_trans (room_most n g l b) (le_of_eq (most_is (function_level p g))))

  -- a level more has room for 16 times as much
  passes : (n : ℕ) → n < function_total p → suc (function_level p n) < p.levels → nat_abs (at (carried p fs n hs) n) * 16 ≤ most
  unfolding most_before
  passes n b l =
      let k = function_level p n in
      omega (arith, mul-le-mul_right 16 (le_trans (low n (omega arith) n b) (room_most n n (omega arith) b)), four_levels (suc (suc k)) (omega (arith, s.allowed.levels≤)))

  pub may_pass : (n : ℕ) → n < function_total p → suc (function_level p n) < p.levels → Passing p n (carried p fs n hs)
  may_pass n b l = record {
    allowed = s.allowed;
    function< = b;
    level< = l;
    sized = carried_length p fs n hs s.sized;
    times = passes n b l;
    small = λ g d.
        le_trans (next n b (low n (omega arith)) g d)
        (le_trans (room_most (suc n) g b d)
        (le_trans (four_levels (suc (function_level p g)) (omega (arith, (function_inside p s.allowed.range g d).level<, s.allowed.levels≤))) (lit≤ tt)));
  }
