-- What is claimed of a refinement with heights, and of seasons of them, holds. Assumes nothing.
use Rattle.refining.specs.Demands.{Demands}
use Rattle.refining.proofs.Shape.{shaped}
use Rattle.refining.proofs.Seasons.{undone_by_cells_lem, undone_by_functions_lem}

pub demands : Demands
demands = record { shaped = shaped; undone_by_cells = undone_by_cells_lem; undone_by_functions = undone_by_functions_lem }
