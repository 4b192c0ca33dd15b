-- Document 02, Req 11: the calls on planes, each made of its byte call on the cells that the planes hold. Everywhere P and R are the planes
-- of present and of refined cells, cs and fs the cell and the function table, cl and fl the lent lists. Definitions only.
use Rattle.std.specs.Prelude.{Bool, not, ◌&&◌, cond, List, ℕ, eqb, length}
use Rattle.grid.specs.declared.Plan.{Plan}
use Rattle.grid.specs.Plan.{plan_refusal_or, plan_refusal, cell_total, function_total}
use Rattle.mesh.specs.declared.Count.{Count}
use Rattle.mesh.specs.Mesh.{check, count, open_mesh}
use Rattle.outcomes.specs.declared.Answer.{Answer}
use Rattle.outcomes.specs.Calls.{Outcome}
use Rattle.planes.specs.Bits.{words_for, bytes_of, present_of, refined_of, are_small, in_order}

-- the cells that the planes hold
abbrev pub cells_of : Plan → List ℕ → List ℕ → List ℕ
cells_of p P R = bytes_of (cell_total p) P R

-- ---- refusals

-- how many words each plane has, 0 where the plan is refused
unfoldable pub planes_length : Plan → ℕ
planes_length p = cond (eqb (plan_refusal p) 0) (words_for (cell_total p)) 0

-- the most that this is; plan 1 1 8 has as many
abbrev pub most_plane_words : ℕ
most_plane_words = 342

-- both planes have "T/64 words, rounded up"
unfoldable pub sized : Plan → List ℕ → List ℕ → Bool
sized p P R = eqb (length P) (words_for (cell_total p)) && eqb (length R) (words_for (cell_total p))

-- 1 and 2 by the plan; 3 where a length is not right
unfoldable pub size_refusal : Plan → Bool → ℕ
size_refusal p right = plan_refusal_or p (cond (not right) 3 0)

-- 1 to 3 of planes and functions
unfoldable pub refusal3 : Plan → List ℕ → List ℕ → List ℕ → ℕ
refusal3 p P R fs = size_refusal p (sized p P R && eqb (length fs) (function_total p))

-- then "4 for a spare bit set or a split cell not present"; n is the refusal so far
unfoldable pub order_refusal : Plan → List ℕ → List ℕ → ℕ → ℕ
order_refusal p P R n = cond (eqb n 0) (cond (in_order (cell_total p) P R) 0 4) n

-- what the planes themselves are refused for; the byte call's refusals come after it
unfoldable pub refusal4 : Plan → List ℕ → List ℕ → List ℕ → ℕ
refusal4 p P R fs = order_refusal p P R (refusal3 p P R fs)

-- ---- open, which asks nothing of the bits that it finds; check, count

pub record OpenedPlanes : Type 0 where
  pub number : ℕ
  pub present : List ℕ
  pub refined : List ℕ
  pub functions : List ℕ

unfoldable pub open_planes : Plan → List ℕ → List ℕ → List ℕ → OpenedPlanes
open_planes p P R fs =
    let n = refusal3 p P R fs in
    let o = open_mesh p (cells_of p P R) fs in
    cond (eqb n 0)
    (record { number = o.number; present = present_of o.cells; refined = refined_of o.cells; functions = o.functions })
    (record { number = n; present = P; refined = R; functions = fs })

unfoldable pub check_planes : Plan → List ℕ → List ℕ → List ℕ → ℕ
check_planes p P R fs = cond (eqb (refusal4 p P R fs) 0) (check p (cells_of p P R) fs) (refusal4 p P R fs)

unfoldable pub count_planes : Plan → List ℕ → List ℕ → List ℕ → Count
count_planes p P R fs =
    cond (eqb (refusal4 p P R fs) 0)
    (count p (cells_of p P R) fs)
    (record { number = refusal4 p P R fs; active = 0; refined = 0; functions = 0; area = 0 })

-- ---- refine and coarsen

pub record PlanesOutcome : Type 0 where
  pub answer : Answer
  pub present : List ℕ
  pub refined : List ℕ
  pub functions : List ℕ
  pub cell_list : List ℕ
  pub function_list : List ℕ

-- an outcome with its cells held as planes
unfoldable pub held : Outcome → PlanesOutcome
held o = record {
  answer = o.answer;
  present = present_of o.cells;
  refined = refined_of o.cells;
  functions = o.functions;
  cell_list = o.cell_list;
  function_list = o.function_list;
}

unfoldable pub refused_planes : ℕ → List ℕ → List ℕ → List ℕ → List ℕ → List ℕ → PlanesOutcome
refused_planes n P R fs cl fl = record {
  answer = record { number = n; cells = 0; functions = 0 };
  present = P;
  refined = R;
  functions = fs;
  cell_list = cl;
  function_list = fl;
}

-- a call on planes, where `call` is the same call of the plan on bytes
unfoldable pub on_planes : (Plan → List ℕ → List ℕ → List ℕ → List ℕ → List ℕ → Outcome) → Plan → List ℕ → List ℕ → List ℕ → List ℕ → List ℕ → List ℕ → PlanesOutcome
on_planes call p P R fs marks cl fl =
    cond (eqb (refusal4 p P R fs) 0) (held (call p (cells_of p P R) fs marks cl fl)) (refused_planes (refusal4 p P R fs) P R fs cl fl)

-- ---- from cells and to cells; neither asks whether they are a mesh

-- 1 to 3 of planes and cells
unfoldable pub cells_refusal : Plan → List ℕ → List ℕ → List ℕ → ℕ
cells_refusal p P R cs = size_refusal p (sized p P R && eqb (length cs) (cell_total p))

pub record PlanesMade : Type 0 where
  pub number : ℕ
  pub present : List ℕ
  pub refined : List ℕ

-- 1 to 3, and 4 for another byte than 0, 1, 2
unfoldable pub pack_refusal : Plan → List ℕ → List ℕ → List ℕ → ℕ
pack_refusal p cs P R = cond (eqb (cells_refusal p P R cs) 0) (cond (are_small cs) 0 4) (cells_refusal p P R cs)

unfoldable pub packed : Plan → List ℕ → List ℕ → List ℕ → PlanesMade
packed p cs P R =
    let n = pack_refusal p cs P R in
    cond (eqb n 0) (record { number = 0; present = present_of cs; refined = refined_of cs }) (record { number = n; present = P; refined = R })

pub record CellsMade : Type 0 where
  pub number : ℕ
  pub cells : List ℕ

-- 1 to 3, and 4 for planes that are not in order
unfoldable pub unpack_refusal : Plan → List ℕ → List ℕ → List ℕ → ℕ
unpack_refusal p P R cs = order_refusal p P R (cells_refusal p P R cs)

unfoldable pub unpacked : Plan → List ℕ → List ℕ → List ℕ → CellsMade
unpacked p P R cs =
    let n = unpack_refusal p P R cs in
    cond (eqb n 0) (record { number = 0; cells = cells_of p P R }) (record { number = n; cells = cs })
