-- Neighbourhoods lie in those of the rule before Req 12. Assumes nothing.
use Prim.Native.Nat.{ℕ, ◌+◌, ◌<◌}
use mathlib.Core.Bool.{not}
use lib.Dec.{T, ltb, eqb, eqb→eq, lt→ltb}
use Rattle.facts.proofs.Tests.{and_i, not_i, eqb_of}
use Rattle.grid.specs.declared.Plan.{Plan}
use Rattle.grid.specs.declared.Place.{Place}
use Rattle.grid.specs.Plan.{cell_total, cell_place, CellInside, near}
use Rattle.grid.specs.HNear.{h_near_at, h_near}
use Rattle.grid.specs.Range.{InRange}
use Rattle.grid.proofs.Laws.{common_test, Near, near_in, near_places, cell_inside}
use Rattle.grid.proofs.Generations.{near_there}

h_near_at_lem : (p : Plan) → InRange p → (q c : Place) → CellInside p q → CellInside p c → Near p q c → T (h_near_at p q c)
unfolding h_near_at
h_near_at_lem p range q c i j n =
    and_i (not (eqb p.class 0)) _ (not_i (eqb p.class 0) (λ t. n.graded (eqb→eq p.class 0 t)))
    (and_i (eqb (q.level + 1) (c.level + p.class)) _ (eqb_of _ _ n.levels) (common_test p c _ _ (near_there p range q c i j n)))

pub h_near_lem : (p : Plan) → InRange p → (q c : ℕ) → q < cell_total p → T (near p q c) → T (h_near p q c)
unfolding h_near
h_near_lem p range q c a t =
    let l = near_in p range q c t in
    and_i (ltb c (cell_total p)) _ (lt→ltb c (cell_total p) l)
    (h_near_at_lem p range (cell_place p q) (cell_place p c) (cell_inside p range q a) (cell_inside p range c l) (near_places p range q c t))
