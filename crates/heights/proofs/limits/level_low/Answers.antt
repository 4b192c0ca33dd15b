-- `level_low` meets its contract: a level ends where the next begins. Assumes nothing.
use Prim.Native.Nat.{◌+◌}
use native.Mathlib.Omega.{arith}
use Rattle.grid.specs.Plan.{function_columns_at, function_rows_at}
use Rattle.grid.proofs.Levels.{offset_mono}
use Rattle.heights.proofs.Lows.{level_low}
use Rattle.heights.proofs.limits.level_low.Goals as goal

pub run_low-requires : goal.run_low-requires
run_low-requires c = let s = c in
    let w = function_columns_at s.args.plan in
    let h = function_rows_at s.args.plan in
    let a = c.function_offset-from.ensures in
    let b = c.function_offset-to.ensures in
    let m = offset_mono w h s.args.level (s.args.level + 1) (omega arith) in
    let n = offset_mono w h (s.args.level + 1) s.args.plan.levels (omega (arith, s.requires.in_range.2)) in
    record { level_bound = omega (arith, s.requires.in_range.2, s.requires.in_range.1); from_le_to = (omega arith, omega (arith, s.requires.functions_len.0), omega (arith, s.requires.functions_len.1)) }

pub returns : goal.returns
returns c = let s = c in level_low s.args.plan s.requires.in_range.0 _ _ s.args.level s.requires.in_range.2 c.function_offset-from.ensures c.function_offset-to.ensures c.run_low.ensures
