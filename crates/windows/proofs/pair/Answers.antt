-- `windows::pair` meets its contract: what stands before, in and after the run of both, and the rest. Assumes nothing.
use mathlib.Core.Path.{◌≡◌, ap, ◌∙◌}
use Prim.Native.Nat.{ℕ, ◌+◌, ◌-◌, ◌*◌, ◌≤◌}
use native.Mathlib.Omega.{arith}
use borrow.Rule.Slice.PartMut.{put_mid}
use mathlib.Core.List.{List}
use lib.ListN.{length}
use Rattle.facts.specs.Mapped.{filled}
use Rattle.facts.proofs.Mapped.{filled_same, fill_part}
use Rattle.windows.specs.Windows.{slid}
use Rattle.windows.proofs.Lowered.{pair_head, pair_middle, pair_tail, pair_rest}
use Rattle.windows.proofs.pair.Goals as goal
use Rattle.windows.proofs.pair.Goals.{After-fill}

module _ (c : After-fill) where
  -- the table with the run of both, and with those after it
  abbrev up_to : List ℕ
  up_to = let o = c.least_of.new.out in put_mid c.args.step (length o - c.args.step) o c.least_of-2.new.out

  abbrev past : List ℕ
  past = put_mid c.args.n (length up_to - c.args.n) up_to c.least_of-3.new.out

  -- the entries before the run of both
  headed : c.least_of.new.out ≡ filled 0 c.args.step (slid c.args.from.now c.args.n c.args.step 2) c.args.out.now
  headed = c.least_of.ensures ∙ filled_same 0 _ _ _ _ (λ j u v. pair_head c.args.from.now c.args.n c.args.step c.requires.step≤ j (omega arith))

  -- the run of both
  run : up_to ≡ filled 0 c.args.n (slid c.args.from.now c.args.n c.args.step 2) c.args.out.now
  run =
      let q : c.args.step + (c.args.n - c.args.step) ≡ c.args.n = omega arith in
      rw q at (fill_part _ _ _ _ headed (c.args.n - c.args.step) _ _ (omega arith) c.least_of-2.ensures (pair_middle c.args.from.now c.args.n c.args.step c.requires.step≤))

  -- those after it
  tailed : past ≡ filled 0 (c.args.n + c.args.step) (slid c.args.from.now c.args.n c.args.step 2) c.args.out.now
  tailed = fill_part _ _ _ _ run c.args.step _ _ (omega arith) c.least_of-3.ensures (pair_tail c.args.from.now c.args.n c.args.step c.requires.step≤)

  -- all of it is lent
  room : (c.args.n + c.args.step + (c.args.times - 1) * c.args.step ≡ c.args.n + c.args.times * c.args.step) × (c.args.n + c.args.step ≤ length c.args.out.now)
  room =
      let q : c.args.times - 1 + 1 ≡ c.args.times = omega arith in
      let e = ap (λ (m : ℕ). m * c.args.step) q in
      (omega arith, omega arith)

-- and nothing stands after those
pub returns : goal.returns
returns c = let f = (goal.at.returns c).After-fill in
    let a = c.args in
    rw (room f).0 at (fill_part _ _ _ _ (tailed f) ((a.times - 1) * a.step) _ _ (room f).1 c.fill.ensures (λ j l. pair_rest a.from.now a.n a.step c.requires.step≤ j))
