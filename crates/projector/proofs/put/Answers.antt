-- `put` meets its contract: three words in a row. Assumes nothing.
use mathlib.Core.Path.{◌≡◌, refl, ap}
use mathlib.Core.List.{◌++◌}
use Prim.Native.Nat.{◌+◌, ◌-◌}
use native.Mathlib.Omega.{arith}
use lib.ListN.{take}
use lib.Seq.{drop-drop}
use Rattle.facts.specs.Writing.{written_at}
use Rattle.projector.specs.Projector.{three_words}
use Rattle.projector.proofs.put.Goals as goal

pub returns : goal.returns
unfolding written_at
returns c = let a = c.args in
    let three : a.at + 3 - a.at ≡ 3 = omega arith in
    record { end = refl; bytes = rw (c.copy_from_slice.ensures.after, three) (ap (λ t. take a.at a.out.now ++ (three_words a.corner ++ t)) (drop-drop 3 a.at a.out.now)) }
