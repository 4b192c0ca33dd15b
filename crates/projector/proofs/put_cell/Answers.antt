-- `put_cell` meets its contract: four corners, one after another. Assumes nothing.
use native.Mathlib.Omega.{arith}
use lib.Dec.{lit≤}
use Rattle.projector.proofs.Places.{numbers}
use Rattle.projector.proofs.Words.{four_written}
use Rattle.projector.proofs.put_cell.Goals as goal

pub put-at2-requires : goal.put-at2-requires
put-at2-requires c = let s = c in
    record { at_in_bounds = omega (arith, s.requires.at_in_bounds); numbers = numbers _ _ _ _ _ _ c.corner_of.ensures }

pub put-at3-requires : goal.put-at3-requires
put-at3-requires c = let s = c in
    let one = c.put-at2 in
    record { at_in_bounds = omega (arith, one.ensures.end, one.auto.out, s.requires.at_in_bounds); numbers = numbers _ _ _ _ _ _ c.corner_of-2.ensures }

pub put-at4-requires : goal.put-at4-requires
put-at4-requires c = let one = c.put-at2 in
    let two = c.put-at3 in
    let s = c in
    record { at_in_bounds = omega (arith, one.ensures.end, two.ensures.end, one.auto.out, two.auto.out, s.requires.at_in_bounds); numbers = numbers _ _ _ _ _ _ c.corner_of-3.ensures }

pub corner_of-requires-4 : goal.corner_of-requires-4
corner_of-requires-4 c = let s = c in record { ready = s.requires.ready; cell_inside = s.requires.cell_inside; right_bound = (lit≤ tt, lit≤ tt) }

pub put-requires : goal.put-requires
put-requires c = let one = c.put-at2 in
    let two = c.put-at3 in
    let three = c.put-at4 in
    let s = c in
    record { at_in_bounds = omega (arith, one.ensures.end, two.ensures.end, three.ensures.end, one.auto.out, two.auto.out, three.auto.out, s.requires.at_in_bounds); numbers = numbers _ _ _ _ _ _ c.corner_of-4.ensures }

pub returns : goal.returns
returns c = let s = c in
    let a = s.args in
    four_written
    a.plan
    a.functions.now
    a.heights.now
    a.place
    c.corner_of.result
    c.corner_of-2.result
    c.corner_of-3.result
    c.corner_of-4.result
    {out = a.out.now}
    s.requires.at_in_bounds
    c.corner_of.ensures
    c.corner_of-2.ensures
    c.corner_of-3.ensures
    c.corner_of-4.ensures
    c.put-at2.ensures
    c.put-at3.ensures
    c.put-at4.ensures
    c.put.ensures
