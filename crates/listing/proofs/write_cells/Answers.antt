-- `write_cells` meets its contract. Assumes nothing.
use mathlib.Core.Path.{◌≡◌, sym, ◌∙◌}
use native.Mathlib.Omega.{arith}
use lib.ListN.{length}
use Rattle.listing.proofs.Cells.{bytes_no, last_none, last_yes, last_no, has_room, write_turn, write_start}
use Rattle.listing.proofs.write_cells.Goals as goal
use Rattle.listing.proofs.write_cells.Goals.{then-entry-eq2, else-entry-eq2}

pub loop-i-init : goal.loop-i-init
loop-i-init c = let a = c.args in
    (omega arith, sym (last_none a.table.now), write_start a.table.now a.out.now a.from)

pub write-at-requires : goal.write-at-requires
write-at-requires c = let a = c.args in
    let l = c.loop-i in
    record { n_lt_number_limit = omega (arith, c.requires.table_len_bound); n_in_bounds = has_room a.table.now l.i l.last c.if-entry-eq2.true l.invariant.1 a.from l.at a.out.now l.out (omega arith) c.requires.table_in_bounds l.invariant.2 }

pub loop-i-preserved : goal.loop-i-preserved
loop-i-preserved c = let a = c.args in
    let t = a.table.now in
    let at = c.loop-i in
    elim c.if-entry-eq2.branch [
      | then-entry-eq2 w ↦ (
        omega (arith, w.last-is),
        w.last-is ∙ sym (last_yes t at.i w.if-entry-eq2.true),
        rw (w.out-is, w.at-is) (write_turn t at.i at.last w.if-entry-eq2.true at.invariant.1 a.from at.at a.out.now at.out (omega arith) c.requires.table_in_bounds at.invariant.2 _ _ w.write-at.ensures),
      )
      | else-entry-eq2 w ↦ (
        omega (arith, w.last-is),
        w.last-is ∙ at.invariant.1 ∙ sym (last_no t at.i w.if-entry-eq2.false),
        rw (w.out-is, w.at-is, bytes_no t at.i w.if-entry-eq2.false) at.invariant.2,
      )
    ]

pub returns : goal.returns
returns c = let t = c.args.table.now in
    let at = c.loop-i in
    let e : at.i ≡ length t = omega arith in
    rw e at at.invariant.2
