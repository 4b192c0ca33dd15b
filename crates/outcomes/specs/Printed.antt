-- Document 000, algorithms 1 to 6, as printed: what refining does to the sets of active and deactivated cells and functions of each
-- level (there E^A, E^D, F^A, F^D), and the claim that an accepted refinement does just this. Definitions only.
-- cs and fs are the tables before, cs' are the cells of the refined mesh, ME is the list of "the cells to be deactivated".
use Rattle.std.specs.Prelude.{◌≡◌, Bool, not, ◌&&◌, ◌||◌, List, ℕ, ◌<◌, eqb, take}
use Rattle.facts.specs.Bounded.{implies, some, every}
use Rattle.facts.specs.Numbers.{elem}
use Rattle.grid.specs.declared.Plan.{Plan}
use Rattle.grid.specs.Plan.{cell_total, function_total, cell_level, parent, supported}
use Rattle.mesh.specs.Mesh.{active, refined, deactivated}
use Rattle.outcomes.specs.Calls.{refine, By, cells, functions, under_marked, selected, Outcome}

-- ---- algorithm 3, refine_hierarchical_mesh

-- line 8: NE, the children of the cells of ME
unfoldable pub is_new : Plan → List ℕ → ℕ → Bool
is_new p ME c = not (eqb (cell_level p c) 0) && elem (parent p c) ME

-- lines 6 and 9: a level gets its NE in the turn of the level before it, and loses its ME in its own
unfoldable pub is_active_cell : Plan → List ℕ → List ℕ → ℕ → Bool
is_active_cell p cs ME c = (active cs c || is_new p ME c) && not (elem c ME)

-- line 7
unfoldable pub is_deactivated_cell : List ℕ → List ℕ → ℕ → Bool
is_deactivated_cell cs ME c = refined cs c || elem c ME

-- ---- algorithm 4, functions_to_deactivate_from_cells: MF

-- lines 2 and 3: the active functions over a cell of ME; lines 4 to 8: less those with an active cell of the refined mesh
unfoldable pub is_to_deactivate : Plan → List ℕ → List ℕ → List ℕ → ℕ → Bool
is_to_deactivate p cs' fs ME f =
    some (cell_total p) (λ c. supported p f c && elem c ME)
    && (active fs f && not (some (cell_total p) (λ c. supported p f c && active cs' c)))

-- ---- algorithm 5, functions_to_deactivate_from_neighbors: MF from marked functions

-- line 2: the function shares a cell with a marked one
unfoldable pub is_neighbor : Plan → List ℕ → ℕ → Bool
is_neighbor p marks f = some (cell_total p) (λ c. supported p f c && under_marked p marks c)

-- lines 3 to 8: the active neighbours that are not marked, less those with an active cell of the refined mesh; line 9: and the marked ones
unfoldable pub is_to_deactivate_near : Plan → List ℕ → List ℕ → List ℕ → ℕ → Bool
is_to_deactivate_near p cs' fs marks f =
    (is_neighbor p marks f && (active fs f && (not (elem f marks) && not (some (cell_total p) (λ c. supported p f c && active cs' c)))))
    || elem f marks

-- ---- algorithm 1, lines 7 to 11

unfoldable pub is_to_deactivate_by : By → Plan → List ℕ → List ℕ → List ℕ → List ℕ → ℕ → Bool
is_to_deactivate_by cells p cs' fs ME marks f = is_to_deactivate p cs' fs ME f
is_to_deactivate_by functions p cs' fs ME marks f = is_to_deactivate_near p cs' fs marks f

-- ---- algorithm 6, refine_hierarchical_space

-- lines 7 to 14: F^C, the functions over a cell of NE that are not active, less those with a cell that is neither active nor deactivated
unfoldable pub is_candidate : Plan → List ℕ → List ℕ → List ℕ → ℕ → Bool
is_candidate p cs' fs ME f =
    some (cell_total p) (λ c. supported p f c && is_new p ME c)
    && (not (active fs f) && every (cell_total p) (λ c. implies (supported p f c) (active cs' c || refined cs' c)))

-- lines 5 and 15: a level gets its F^C in the turn of the level before it, and loses its MF in its own
unfoldable pub is_active_function : Plan → List ℕ → List ℕ → List ℕ → ℕ → Bool
is_active_function p cs' fs ME f = (active fs f || is_candidate p cs' fs ME f) && not (is_to_deactivate p cs' fs ME f)

-- line 6
unfoldable pub is_deactivated_function : Plan → List ℕ → List ℕ → List ℕ → ℕ → Bool
is_deactivated_function p cs' fs ME f = deactivated fs f || is_to_deactivate p cs' fs ME f

-- ---- the claim, of the outcome of an accepted refinement: its cell list is ME, its function list MF

abbrev pub cells_of : Outcome → List ℕ
cells_of o = take o.answer.cells o.cell_list

abbrev pub functions_of : Outcome → List ℕ
functions_of o = take o.answer.functions o.function_list

pub record AsPrinted (by : By) (p : Plan) (cs fs marks : List ℕ) (o : Outcome) : Type 0 where
  -- algorithm 1, lines 1 to 5, and algorithm 2: ME are the cells that the marks stand for. The paper's refinement knows no class; in
  -- another class than 0, ME has what the class adds as well (`Smallest` in Demands.antt)
  pub marked : p.class ≡ 0 → (c : ℕ) → c < cell_total p → elem c (cells_of o) ≡ selected refine by p cs fs marks c
  -- line 6
  pub active_cells : (c : ℕ) → c < cell_total p → active o.cells c ≡ is_active_cell p cs (cells_of o) c
  pub deactivated_cells : (c : ℕ) → c < cell_total p → refined o.cells c ≡ is_deactivated_cell cs (cells_of o) c
  -- lines 7 to 11: by algorithm 4 from ME, whatever the class and the marks; by algorithm 5 from marked functions as printed
  pub to_deactivate_by : p.class ≡ 0 → (f : ℕ) → f < function_total p → elem f (functions_of o) ≡ is_to_deactivate_by by p o.cells fs (cells_of o) marks f
  pub to_deactivate : (f : ℕ) → f < function_total p → elem f (functions_of o) ≡ is_to_deactivate p o.cells fs (cells_of o) f
  -- line 12
  pub active_functions : (f : ℕ) → f < function_total p → active o.functions f ≡ is_active_function p o.cells fs (cells_of o) f
  pub deactivated_functions : (f : ℕ) → f < function_total p → deactivated o.functions f ≡ is_deactivated_function p o.cells fs (cells_of o) f
