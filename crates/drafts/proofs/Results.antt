-- What is claimed of drafts holds. Assumes nothing.
use Rattle.drafts.specs.Demands.{Demands}
use Rattle.drafts.proofs.Refusals.{change_not_open, carry_not_open}
use Rattle.drafts.proofs.Seasons.{undone_by_cells_lem, undone_by_functions_lem}
use Rattle.drafts.proofs.Kept.{guarded, refused_add_lem, refused_close_lem, closed_ends_lem}
use Rattle.drafts.proofs.Filled.{filled}

pub demands : Demands
demands = record {
  undone_by_cells = undone_by_cells_lem;
  undone_by_functions = undone_by_functions_lem;
  filled = filled;
  without = change_not_open;
  without_but_heights = carry_not_open;
  guarded = guarded;
  refused_add = refused_add_lem;
  refused_close = refused_close_lem;
  closed_ends = closed_ends_lem;
}
