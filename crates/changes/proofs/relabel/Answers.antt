-- `relabel` meets its contract: what is taken over are the labels that the settled cells fix. Assumes nothing.
use mathlib.Core.Path.{sym, subst}
use mathlib.Core.List.{List}
use Prim.Native.Nat.{ℕ, ◌≤◌}
use native.Mathlib.Omega.{arith}
use lib.ListN.{length}
use Rattle.mesh.specs.Mesh.{labels}
use Rattle.outcomes.specs.Calls.{changed}
use Rattle.grid.proofs.Totals.{functions_bound}
use Rattle.changes.proofs.Steps.{relabels}
use borrow.Author.Rules.{rules}
use Rattle.changes.proofs.relabel.Goals as goal

pub take_over-requires : goal.take_over-requires
take_over-requires c = let s = c in
    let w = c.write_labels in
    let F = s.requires.rooms in
    let fs = s.args.functions.now in
    let r : length (changed (length fs) fs (labels s.args.plan s.args.cells.now)) ≤ length s.args.list.now = rw F.functions_are s.requires.cells_in_bounds in
    record {
      same = search rules;
      small = omega (arith, F.functions_are, functions_bound s.args.plan s.requires.mesh_table.sized.range F.cells_small);
      room = subst (λ (u : List ℕ). length (changed (length fs) fs u) ≤ length s.args.list.now) (sym w.ensures) r;
    }

pub returns : goal.returns
returns c = let s = c in
    let t = c.take_over.ensures in
    relabels s.args.plan s.args.cells.now s.args.functions.now s.args.list.now s.requires.rooms.functions_are c.write_labels.ensures t.count t.bytes t.listed
