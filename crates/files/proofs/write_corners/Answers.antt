-- `write_corners` meets its contract. Assumes nothing.
use mathlib.Core.Path.{◌≡◌, sym, ◌∙◌}
use mathlib.Core.Bool.{false}
use native.Mathlib.Omega.{arith}
use Rattle.facts.proofs.Writing.{writes_none, writes_more}
use Rattle.files.specs.File.{no_corners}
use Rattle.files.proofs.CornerNumbers.{bytes_none, bytes_both, length_both}
use Rattle.files.proofs.write_corners.Goals as goal
use Rattle.files.proofs.write_corners.Goals.{Else-no_corners}

pub returns-then-no_corners : goal.returns-then-no_corners
returns-then-no_corners c = let a = c.args in
    rw (bytes_none a.across a.up (sym c.no_corners.ensures ∙ c.if-no_corners.true)) (writes_none a.out.now a.at)

-- a number is not 0
some : (c : Else-no_corners) → let a = c.args in no_corners a.across a.up ≡ false
some c = sym c.no_corners.ensures ∙ c.if-no_corners.false

pub write-middle-requires : goal.write-middle-requires
write-middle-requires c = let s = c in
    record { n_lt_number_limit = s.requires.across_lt_number_limit.0; n_in_bounds = omega (arith, s.requires.up_in_bounds, length_both s.args.across s.args.up (some (goal.at.write-middle-requires c).Else-no_corners)) }

pub write-requires : goal.write-requires
write-requires c = let s = c in
    let w = c.write-middle in
    record { n_lt_number_limit = s.requires.across_lt_number_limit.1; n_in_bounds = omega (arith, s.requires.up_in_bounds, length_both s.args.across s.args.up (some (goal.at.write-requires c).Else-no_corners), w.ensures.end, w.auto.out) }

pub returns : goal.returns
returns c = let s = c in
    let e = some (goal.at.returns c).Else-no_corners in
    rw (bytes_both s.args.across s.args.up e)
    (writes_more (omega (arith, s.requires.up_in_bounds, length_both s.args.across s.args.up e)) c.write-middle.ensures c.write.ensures)
