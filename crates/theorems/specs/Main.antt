-- The final theorems on one page, in the order of the mission's demands, with its words and those of documents 01 and 02. proofs/Main.antt
-- proves the record `Main`. They are about the definitions that the contracts of the exported calls cite: each call's answer, tables and
-- lists equal `outcome` (crate outcomes, specs/Calls.antt), and open, check and count equal `open_mesh`, `check` and `count` (crate mesh).
use Rattle.std.specs.Prelude.{◌≡◌, cond, List, [], ◌∷◌, ◌≢◌, ◌↔◌, ℕ, ◌+◌, ◌-◌, ◌*◌, ◌/◌, ◌^◌, ◌<◌, ◌≤◌, T, get_or}
use Rattle.facts.specs.Numbers.{elem}
use Rattle.grid.specs.declared.Plan.{Plan}
use Rattle.grid.specs.Plan.{numbers_in_range, in_range, across_at, up_at, function_total, cell_level}
use Rattle.grid.specs.Claims.{ByKnots, Smooth, OnlyInner}
use Rattle.mesh.specs.Mesh.{check, open_mesh, count}
use Rattle.mesh.specs.HAdmissible.{h_check}
use Rattle.outcomes.specs.Calls.{Direction, refine, By, cells, functions, Outcome, refused, new_cells, refusal, outcome}
use Rattle.outcomes.specs.Steps.{relabel, in_steps, relabelled_by}
use Rattle.outcomes.specs.Printed.{AsPrinted}
use Rattle.outcomes.specs.Demands.{Accepted, Refused}
use Rattle.outcomes.specs.Runs.{Tables, LentLists, Call, log, backwards, LongEnough, Undone, covered, RefinesByFunctions}
use Rattle.cost.specs.Cost.{most_of, Cost}
use Rattle.basis.specs.Basis.{Published}
use Rattle.basis.specs.Levels.{Present}

-- ---- marks that repeat

-- the numbers of a list in its order, without those of `seen` and without repeats
unfoldable pub unseen : List ℕ → List ℕ → List ℕ
unseen seen [] = []
unseen seen (x ∷ xs) = cond (elem x seen) (unseen seen xs) (x ∷ unseen (x ∷ seen) xs)

-- each number once, where it stands first
abbrev pub once : List ℕ → List ℕ
once = unseen []

-- two calls on the same tables and lists: their outcomes are equal; or both are refused for a mark, each with 7, 8 or 9, and
-- change nothing
pub data SameButNumber (cs fs cl fl : List ℕ) (o u : Outcome) : Type 0 where
  equal : o ≡ u → SameButNumber cs fs cl fl o u
  mark_refused : (n m : ℕ) → 7 ≤ n → n ≤ 9 → 7 ≤ m → m ≤ 9 → o ≡ refused n cs fs cl fl → u ≡ refused m cs fs cl fl
      → SameButNumber cs fs cl fl o u

-- ---- the theorems. cs and fs are the cell and the function table, cl and fl the lent cell and function list

pub record Main : Type 0 where
  -- Demand 1: "what document 01 refuses gets its number, in its order" (that is `outcome`'s number), "and both tables and both
  -- lists then hold the bytes they held before"; document 01: "with zero lengths"
  pub refused_call : (d : Direction) (by : By) (p : Plan) (cs fs marks cl fl : List ℕ)
      → (outcome d by p cs fs marks cl fl).answer.number ≢ 0 → Refused cs fs cl fl (outcome d by p cs fs marks cl fl)
  -- Demand 2: "After an accepted split the wall is the smallest of its class with the old split cells and the marked ones; after an
  -- accepted join, the smallest with the split cells not marked. The lists hold exactly the cells that became split or ceased to be,
  -- and the functions that became deactivated or ceased to be"; document 01: "each in rising order, once each", "List entries past
  -- those lengths keep their values". And check passes, so that each function's label is the one fixed by the new cells
  pub accepted_call : (d : Direction) (by : By) (p : Plan) (cs fs marks cl fl : List ℕ)
      → (outcome d by p cs fs marks cl fl).answer.number ≡ 0 → Accepted d by p cs fs marks cl fl (outcome d by p cs fs marks cl fl)
  -- Demand 2: "Every function is active, deactivated or passive as the published hierarchical basis has it": its byte in the new
  -- function table is 1, 2 or 0 exactly where the published basis over the new cell table has it so
  pub published_call : (d : Direction) (by : By) (p : Plan) (cs fs marks cl fl : List ℕ)
      → (outcome d by p cs fs marks cl fl).answer.number ≡ 0 → (f : ℕ) → f < function_total p
      → Published p (outcome d by p cs fs marks cl fl).cells f (get_or (outcome d by p cs fs marks cl fl).functions f 0)
  -- Demand 3: "For every wall that check passes, in any class, and every run of splits and joins on it, by cells or by functions,
  -- refused ones included, whatever their marks and list room: after the whole run its own cell lists walk it back. Given last first,
  -- each to the opposite call by cells, with lists long enough, every one is accepted and names the same cells and functions as the
  -- call it takes back, and both tables end as they began, byte for byte"
  pub undone_by_cells : (p : Plan) (t : Tables) (run : List Call) (rooms : List LentLists) → check p t.cells t.functions ≡ 0
      → LongEnough (backwards (log p t run)) rooms → Undone cells p t run rooms
  -- Demand 3: "And in class 0, for every run of splits by functions, refused ones included, from a wall where each split cell lies in
  -- the support of a deactivated function of its own level: after the whole run its own function lists, given last first to join by
  -- functions, walk it back likewise"
  pub undone_by_functions : (p : Plan) → p.class ≡ 0 → (t : Tables) (run : List Call) (rooms : List LentLists)
      → check p t.cells t.functions ≡ 0 → T (covered p t.cells t.functions) → RefinesByFunctions run
      → LongEnough (backwards (log p t run)) rooms → Undone functions p t run rooms
  -- Document 02, Req 04: "settles the whole mesh first and relabels functions afterwards". A call that 1 to 9 do not refuse is these two
  -- steps, one behind the other
  pub in_two_steps : (d : Direction) (by : By) (p : Plan) (cs fs marks cl fl : List ℕ) → refusal d by p cs fs marks ≡ 0
      → outcome d by p cs fs marks cl fl ≡ in_steps p cs fs cl fl (new_cells d by p cs fs marks)
  -- Req 04: "what the functions and their list get follows from the settled cells and the old function bytes alone"
  pub relabelled_call : (d : Direction) (by : By) (p : Plan) (cs fs marks cl fl : List ℕ) → (outcome d by p cs fs marks cl fl).answer.number ≡ 0
      → relabelled_by (outcome d by p cs fs marks cl fl) ≡ relabel p (outcome d by p cs fs marks cl fl).cells fs fl
  -- Req 04: "Our shapers read along with document 000": the cells and functions of an accepted refinement are those that its algorithms
  -- 1 to 6 print, its cell list the cells, and its function list the functions, that they deactivate. Where the class is not 0, the cells
  -- that it adds are among these
  pub printed_call : (by : By) (p : Plan) (cs fs marks cl fl : List ℕ) → (outcome refine by p cs fs marks cl fl).answer.number ≡ 0
      → AsPrinted by p cs fs marks (outcome refine by p cs fs marks cl fl)
  -- Document 01: "The area of a wall is A·B·4^(L-1)": what count answers wherever it is not refused
  pub area : (p : Plan) (cs fs : List ℕ) → (count p cs fs).number ≡ 0 → (count p cs fs).area ≡ p.columns * p.rows * 4 ^ (p.levels - 1)
  -- Demand 3 begins with a "wall that check passes": one that was opened is such a wall, for every plan that open does not refuse
  pub opened : (p : Plan) (cs fs : List ℕ) → (open_mesh p cs fs).number ≡ 0
      → check p (open_mesh p cs fs).cells (open_mesh p cs fs).functions ≡ 0
  -- Document 02, Req 12, in place of Req 02: "every function of level k-m+1 that covers an active cell of level k (k at least m) is active or
  -- deactivated". Of a graded wall: check passes, with a class other than 0; so it is after every accepted call (`accepted_call`, `.checked`)
  pub present_levels : (p : Plan) (cs fs : List ℕ) → check p cs fs ≡ 0 → p.class ≢ 0 → Present p cs fs
  -- Req 12: "Old graded walls pass": what check passed by the rule before, it passes
  pub old_pass : (p : Plan) (cs fs : List ℕ) → h_check p cs fs ≡ 0 → check p cs fs ≡ 0
  -- Document 02, Req 05: "supports follow from the knots", across and up, on every level of a plan that refusal 1 does not meet
  pub by_knots : (p : Plan) → T (in_range p) → (k : ℕ) → ByKnots (across_at p k) × ByKnots (up_at p k)
  -- and a direction without corners is as document 01 has it, whatever the other has
  pub smooth_plan : (p : Plan) (k : ℕ) → (p.corners_across ≡ 0 → Smooth (across_at p k)) × (p.corners_up ≡ 0 → Smooth (up_at p k))
  -- Req 05: "It refuses 1 where a bit outside 1 to A-1 (or B-1) is set"
  pub inner_corners : (p : Plan) → T (in_range p)
      ↔ (T (numbers_in_range p) × OnlyInner p.columns p.corners_across × OnlyInner p.rows p.corners_up)
  -- Document 01: "Marks may repeat; repeats mean one mark": each mark once, where it stands first, has the same outcome
  pub repeats : (d : Direction) (by : By) (p : Plan) (cs fs marks cl fl : List ℕ)
      → outcome d by p cs fs (once marks) cl fl ≡ outcome d by p cs fs marks cl fl
  -- and so have the same marks in any order and with any repeats, but that with a mark that is refused the order decides which
  -- refusal comes first
  pub reordered : (d : Direction) (by : By) (p : Plan) (cs fs marks others cl fl : List ℕ)
      → ((x : ℕ) → elem x marks ≡ elem x others)
      → SameButNumber cs fs cl fl (outcome d by p cs fs marks cl fl) (outcome d by p cs fs others cl fl)
  -- Document 02, Req 09: "In a graded wall, one marked cell of level j splits at most 1 + ⌊j/(m-1)⌋·(4p+1)·(4q+1) cells, itself
  -- included". This is the number of cells that an accepted call answers; its marks are all one cell c, once or more
  pub one_mark : (p : Plan) (cs fs marks cl fl : List ℕ) (c : ℕ) → p.class ≢ 0 → ((x : ℕ) → T (elem x marks) → x ≡ c)
      → (outcome refine cells p cs fs marks cl fl).answer.number ≡ 0
      → (outcome refine cells p cs fs marks cl fl).answer.cells
      ≤ 1 + cell_level p c / (p.class - 1) * (4 * p.degree_across + 1) * (4 * p.degree_up + 1)
  -- Req 12: "Req 09's bound [is] read with this neighbourhood". With it 2p+1 and 2q+1 are enough
  pub one_mark_truncated : (p : Plan) (cs fs marks cl fl : List ℕ) (c : ℕ) → p.class ≢ 0 → ((x : ℕ) → T (elem x marks) → x ≡ c)
      → (outcome refine cells p cs fs marks cl fl).answer.number ≡ 0
      → (outcome refine cells p cs fs marks cl fl).answer.cells ≤ 1 + cell_level p c / (p.class - 1) * (2 * p.degree_across + 1) * (2 * p.degree_up + 1)
  -- several marks: at most the sum of their bounds, each cell counted once
  pub several_marks : (p : Plan) (cs fs marks cl fl : List ℕ) → (outcome refine cells p cs fs marks cl fl).answer.number ≡ 0
      → (outcome refine cells p cs fs marks cl fl).answer.cells ≤ most_of p (once marks)
  -- by cells or by functions, in any class: how many, where they lie, and class 0
  pub marks_cost : (by : By) (p : Plan) (cs fs marks cl fl : List ℕ) → (outcome refine by p cs fs marks cl fl).answer.number ≡ 0
      → Cost by p cs fs marks (outcome refine by p cs fs marks cl fl)
