-- Document 02, Req 08: refine ("split") with heights, by cells and by functions, as one function of its whole input. Names as in
-- outcomes/specs/Calls.antt; hs are the heights. Definitions only.
use Rattle.std.specs.Prelude.{cond, List, ℕ, eqb, ℤ}
use Rattle.grid.specs.declared.Plan.{Plan}
use Rattle.mesh.specs.Mesh.{check}
use Rattle.outcomes.specs.Calls.{By, cells, functions, refine, Outcome, refused, outcome}
use Rattle.heights.specs.Heights.{all_low, heights_refusal}
use Rattle.carry.specs.Carry.{carry}

-- what the call leaves: the answer, both tables and both lists as without heights, and the heights
pub record WithHeights : Type 0 where
  pub outcome : Outcome
  pub heights : List ℤ

-- "It refuses 3, 14 and 15's height rule directly after 6": the first of 1 to 6 and of these, or 0
unfoldable pub tables_refusal : Plan → List ℕ → List ℕ → List ℤ → ℕ
tables_refusal p cs fs hs = cond (eqb (check p cs fs) 0) (heights_refusal p fs hs) (check p cs fs)

-- a refusal: tables, lists and heights keep their values
unfoldable pub refused_with : ℕ → List ℕ → List ℕ → List ℤ → List ℕ → List ℕ → WithHeights
refused_with n cs fs hs cl fl = record { outcome = refused n cs fs cl fl; heights = hs }

-- "and 17, last, where a carried height of an active function passes 65,536 mm": of the outcome o without heights, when that is accepted
unfoldable pub carry_into : Plan → List ℕ → List ℕ → List ℤ → List ℕ → List ℕ → Outcome → WithHeights
carry_into p cs fs hs cl fl o =
    let hs' = carry p fs o.functions hs in
    cond (all_low p o.functions hs') (record { outcome = o; heights = hs' }) (refused_with 17 cs fs hs cl fl)

-- the call: plan, both tables, heights, marks and both lent lists to number, lengths, tables, lists and heights
unfoldable pub outcome_with_heights : By → Plan → List ℕ → List ℕ → List ℤ → List ℕ → List ℕ → List ℕ → WithHeights
outcome_with_heights by p cs fs hs marks cl fl =
    let n = tables_refusal p cs fs hs in
    let o = outcome refine by p cs fs marks cl fl in
    cond (eqb n 0)
    (cond (eqb o.answer.number 0) (carry_into p cs fs hs cl fl o) (record { outcome = o; heights = hs }))
    (refused_with n cs fs hs cl fl)

-- the two calls by name
abbrev pub refine_cells_with_heights : Plan → List ℕ → List ℕ → List ℤ → List ℕ → List ℕ → List ℕ → WithHeights
refine_cells_with_heights = outcome_with_heights cells

abbrev pub refine_functions_with_heights : Plan → List ℕ → List ℕ → List ℤ → List ℕ → List ℕ → List ℕ → WithHeights
refine_functions_with_heights = outcome_with_heights functions
