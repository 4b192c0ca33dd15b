-- `restore` meets its contract. Assumes nothing.
use mathlib.Core.Path.{◌≡◌, refl, sym, ap, ◌∙◌}
use mathlib.Core.List.{List}
use Prim.Native.Nat.{ℕ, ◌<◌}
use native.Mathlib.Omega.{arith}
use lib.Dec.{eqb}
use lib.ListN.{length}
use Rattle.refusals.proofs.Refused.{refused, handed_on}
use Rattle.facts.proofs.Zeros.{zeros, part_length, clear}
use Rattle.grid.specs.Plan.{cell_total}
use Rattle.grid.specs.Bounds.{most_cells}
use Rattle.mesh.proofs.Bridge.{Passed, passed}
use Rattle.files.specs.File.{rebuilt}
use Rattle.files.specs.Steps.{cells_of, table_refusal}
use Rattle.files.proofs.Reading.{rebuilt_size, read_early, read_beyond, mesh_table, read_refused, read_done}
use Rattle.files.proofs.restore.Goals as goal
use Rattle.files.proofs.restore.Goals.{In_ok-refusal, After-rebuild, Else-outline-total}

pub returns-in_err-refusal : goal.returns-in_err-refusal
returns-in_err-refusal c = let e = c.in_err-refusal in
    rw (handed_on _ c.from_residual.ensures.1) (read_early c.requires.good_file _ _ e.ensures (refused e.field-0.0))

-- what refusals 1 to 3 leave
fits : (c : In_ok-refusal) → Passed c.args.outline.plan c.args.cells.now c.args.functions.now
fits c = passed c.args.outline.plan c.args.cells.now c.args.functions.now (sym c.in_ok-refusal.ensures)

pub cell_total-total-requires : goal.cell_total-total-requires
cell_total-total-requires c = (fits (goal.at.cell_total-total-requires c).In_ok-refusal).range

pub returns-then-outline-total : goal.returns-then-outline-total
returns-then-outline-total c =
    read_beyond c.requires.good_file _ _ (sym c.in_ok-refusal.ensures) (omega (arith, c.cell_total-total.ensures, c.if-outline-total.true))

pub slice_bounds-room-end : goal.slice_bounds-room-end
slice_bounds-room-end c = omega (arith, c.cell_total-total.ensures, (fits (goal.at.slice_bounds-room-end c).In_ok-refusal).small)

pub slice_bounds-table-end : goal.slice_bounds-table-end
slice_bounds-table-end c = zeros most_cells c.cell_total-total.result (omega (arith, c.cell_total-total.ensures, (fits (goal.at.slice_bounds-table-end c).In_ok-refusal).small))

pub rebuild-requires : goal.rebuild-requires
rebuild-requires c = let t = c.cell_total-total in
    let k = fits (goal.at.rebuild-requires c).In_ok-refusal in
    let l = part_length most_cells t.result t.ensures k.small in
    record {
      good_file = c.requires.good_file;
      last_in_bounds = omega (arith, c.if-outline-total.false, t.ensures, l);
      cell_table = record { range = k.range; size = l };
      clear = clear most_cells t.result;
    }

size : (c : After-rebuild) → length c.rebuild.new.table ≡ cell_total c.args.outline.plan
size c = ap length c.rebuild.ensures ∙ rebuilt_size c.args.outline.plan _

-- the rebuilt table decides
decided : (c : After-rebuild) → let a = c.args in
    let whole = eqb a.outline.end (length a.file.now) in
    table_refusal a.outline.plan c.rebuild.new.table whole ≡ table_refusal a.outline.plan (rebuilt a.outline.plan (cells_of a.file.now a.outline)) whole
decided c = let a = c.args in
    ap (λ (t : List ℕ). table_refusal a.outline.plan t (eqb a.outline.end (length a.file.now))) c.rebuild.ensures

inside : (c : Else-outline-total) → c.args.outline.last < cell_total c.args.outline.plan
inside c = omega (arith, c.if-outline-total.false, c.cell_total-total.ensures)

pub table_refusal-requires : goal.table_refusal-requires
table_refusal-requires c = let k = fits (goal.at.table_refusal-requires c).In_ok-refusal in
    (record { range = k.range; size = size (goal.at.table_refusal-requires c).After-rebuild }, k.small)

pub returns-in_err-table_refusal : goal.returns-in_err-table_refusal
returns-in_err-table_refusal c = let e = c.in_err-table_refusal in
    let at = goal.at.returns-in_err-table_refusal c in
    rw (handed_on _ c.from_residual-in_err-table_refusal.ensures.1)
    (read_refused c.requires.good_file _ _ (sym c.in_ok-refusal.ensures) (inside at.Else-outline-total) (e.ensures ∙ decided at.After-rebuild) (refused e.field-0.0))

pub copy_from_slice-requires : goal.copy_from_slice-requires
copy_from_slice-requires c = (fits (goal.at.copy_from_slice-requires c).In_ok-refusal).cells ∙ sym (size (goal.at.copy_from_slice-requires c).After-rebuild)

pub write_labels-requires : goal.write_labels-requires
write_labels-requires c = let at = goal.at.write_labels-requires c in
    let k = fits at.In_ok-refusal in
    let taken = c.in_ok-table_refusal.ensures ∙ decided at.After-rebuild in
    record {
      mesh_table = mesh_table c.requires.good_file _ _ (sym c.in_ok-refusal.ensures) (inside at.Else-outline-total) taken refl _ (c.copy_from_slice.ensures.after ∙ c.rebuild.ensures);
      out_len = (k.functions, k.small);
    }

pub returns : goal.returns
returns c = let at = goal.at.returns c in
    let taken = c.in_ok-table_refusal.ensures ∙ decided at.After-rebuild in
    read_done c.requires.good_file _ _ (sym c.in_ok-refusal.ensures) (inside at.Else-outline-total) taken refl _ _ (c.copy_from_slice.ensures.after ∙ c.rebuild.ensures) c.write_labels.ensures
