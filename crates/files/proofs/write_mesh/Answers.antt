-- `write_mesh` meets its contract. Assumes nothing.
use mathlib.Core.Path.{sym}
use native.Mathlib.Omega.{arith}
use lib.ListN.{take}
use lib.Seq.{length-take-le}
use Rattle.files.specs.File.{unwritten}
use Rattle.files.proofs.Coding.{corners_fit}
use Rattle.files.proofs.Writing.{Part, coarser_fits, coarse, small_head, file_length, few_bytes, too_few, wrote_parts}
use Rattle.files.proofs.write_mesh.Goals as goal
use Rattle.files.proofs.write_mesh.Goals.{After-cell_offset-inner}

pub slice_bounds-coarse-end : goal.slice_bounds-coarse-end
slice_bounds-coarse-end c =
    sym (length-take-le c.cell_offset-inner.result c.args.cells.now (omega (arith, coarser_fits c.requires.0, c.cell_offset-inner.ensures)))

-- what is read of the table has all refined cells
part : (c : After-cell_offset-inner) → let a = c.args in Part a.plan a.cells.now (take c.cell_offset-inner.result a.cells.now)
part c = coarse c.requires.0 c.requires.1 _ c.cell_offset-inner.ensures

pub measure-listed-requires : goal.measure-listed-requires
measure-listed-requires c = omega (arith, (part (goal.at.measure-listed-requires c).After-cell_offset-inner).small)

pub size_all-requires : goal.size_all-requires
size_all-requires c = record { small = small_head (part (goal.at.size_all-requires c).After-cell_offset-inner) c.measure-listed.ensures; numbers_len_bound = omega arith }

pub overflow_add-length : goal.overflow_add-length
overflow_add-length c = omega (arith, few_bytes (part (goal.at.overflow_add-length c).After-cell_offset-inner) c.measure-listed.ensures, c.size_all.ensures)

pub size_corners-requires : goal.size_corners-requires
size_corners-requires c = corners_fit c.args.plan c.requires.0.sized.range

pub overflow_add-length-2 : goal.overflow_add-length-2
overflow_add-length-2 c =
    omega (arith, few_bytes (part (goal.at.overflow_add-length-2 c).After-cell_offset-inner) c.measure-listed.ensures, c.size_all.ensures, c.size_corners.ensures)

pub returns-then-file-length : goal.returns-then-file-length
unfolding unwritten
returns-then-file-length c =
    let l = file_length (part (goal.at.returns-then-file-length c).After-cell_offset-inner) c.measure-listed.ensures in
    too_few _ _ (omega (arith, c.if-file-length.true, l, c.size_all.ensures, c.size_corners.ensures))

pub write_all-at-requires : goal.write_all-at-requires
write_all-at-requires c = record {
  small = small_head (part (goal.at.write_all-at-requires c).After-cell_offset-inner) c.measure-listed.ensures;
  numbers_in_bounds = omega (arith, c.if-file-length.false, c.size_all.ensures);
}

pub write_cells-end-requires : goal.write_cells-end-requires
write_cells-end-requires c = let w = c.write_all-at in record {
  table_len_bound = omega (arith, (part (goal.at.write_cells-end-requires c).After-cell_offset-inner).small);
  table_in_bounds = omega (arith, w.ensures.end, w.auto.out, c.measure-listed.ensures.bytes, c.size_all.ensures, c.if-file-length.false);
}

pub write_corners-requires : goal.write_corners-requires
write_corners-requires c = let v = c.write_cells-end in
    let w = c.write_all-at in record {
      across_lt_number_limit = corners_fit c.args.plan c.requires.0.sized.range;
      up_in_bounds = omega (
        arith,
        v.ensures.end,
        v.auto.out,
        w.ensures.end,
        w.auto.out,
        c.measure-listed.ensures.bytes,
        c.size_all.ensures,
        c.size_corners.ensures,
        c.if-file-length.false,
      );
    }

pub overflow_cast-result : goal.overflow_cast-result
overflow_cast-result c =
    omega (arith, few_bytes (part (goal.at.overflow_cast-result c).After-cell_offset-inner) c.measure-listed.ensures, c.size_all.ensures, c.size_corners.ensures)

pub returns : goal.returns
returns c = let k = part (goal.at.returns c).After-cell_offset-inner in
    let l = file_length k c.measure-listed.ensures in
    wrote_parts k c.measure-listed.ensures _ _ _ _ _ _ _ _ (omega (arith, l, c.if-file-length.false, c.size_all.ensures, c.size_corners.ensures)) (omega (arith, l, c.size_all.ensures, c.size_corners.ensures))
    c.write_all-at.ensures c.write_cells-end.ensures c.write_corners.ensures
