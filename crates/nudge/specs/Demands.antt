-- What is claimed of a surface whose heights are changed. Definitions only.
use Rattle.std.specs.Prelude.{◌≡◌, ◌≢◌, not, List, ℕ, ◌-◌, ◌*◌, ◌^◌, ◌≤◌, ◌<◌, T, ℤ, pos, nat_abs, ◌-ℤ◌, ◌*ℤ◌, Float, get_or}
use Rattle.std.specs.Float.{binary64}
use Rattle.std.specs.Float.Ieee.{sub}
use Rattle.facts.specs.Bounded.{sum}
use Rattle.exact.specs.Dyadic.{dyadic}
use Rattle.exact.specs.Distance.{within, Above}
use Rattle.grid.specs.declared.Plan.{Plan}
use Rattle.grid.specs.Plan.{cell_total, function_place, cell_level, function_level, supported}
use Rattle.mesh.specs.Mesh.{active}
use Rattle.heights.specs.Heights.{value_at, places, answer, number_of, height_of}
use Rattle.heights.specs.Demands.{touches, inside_at}
use Rattle.nudge.specs.Nudge.{nudged}

-- ---- one height

-- the height of function f is changed by d of its level's units; the point had the height h and has the height h'
module _ (p : Plan) (f : ℕ) (d : ℤ) (x y : ℕ) (h h' : Float) where
  pub record Nudged : Type 0 where
    -- "moves by at most d"
    pub most : T (within h h' (nat_abs d) (16 ^ function_level p f))
    -- "and a point outside that function's support moves by nothing", nor does one on its edge: one that touches a cell of f's level outside
    -- the support. What is left of the edge lies on the mesh's own
    pub outside : (c : ℕ) → c < cell_total p → cell_level p c ≡ function_level p f → T (touches p x y c) → T (not (supported p f c)) → h' ≡ h
    -- the move is d times the function's value, and the same way as d
    pub exact : Above h h' (d *ℤ pos (value_at p x y (function_place p f))) (2 ^ places p.levels)
    -- a program that subtracts the two floats gets just that: nothing is rounded away
    pub subtracted : sub binary64 h' h ≡ dyadic (places p.levels) (d *ℤ pos (value_at p x y (function_place p f)))
    -- it is something just where the point lies inside the support
    pub still : T (not (inside_at p x y (function_place p f))) → h' ≡ h
    pub moves : d ≢ pos 0 → T (inside_at p x y (function_place p f)) → h' ≢ h

-- "If one active height rises or falls by d mm, every point that Req 03 answers both before and after"
abbrev pub Nudging : Type 0
Nudging =
    (p : Plan) (cells functions : List ℕ) (heights : List ℤ) (f : ℕ) (d : ℤ) (x y : ℕ) → T (active functions f)
    → let before = answer p cells functions heights x y in
    let after = answer p cells functions (nudged f d heights) x y in
    number_of before ≡ 0 → number_of after ≡ 0 → Nudged p f d x y (height_of before) (height_of after)

-- ---- any heights

-- no active function of level k has moved by more than d k of its units
abbrev pub Moved : Plan → List ℕ → (ℕ → ℕ) → List ℤ → List ℤ → Type 0
Moved p functions d old new =
    (f : ℕ) → T (active functions f) → nat_abs (get_or new f (pos 0) -ℤ get_or old f (pos 0)) ≤ d (function_level p f)

-- then no point moves by more than all d k together, d k / 16 ^ k mm each: the levels' largest moves, where there are active functions
abbrev pub Moving : Type 0
Moving =
    (p : Plan) (cells functions : List ℕ) (old new : List ℤ) (d : ℕ → ℕ) (x y : ℕ) → Moved p functions d old new
    → let before = answer p cells functions old x y in
    let after = answer p cells functions new x y in
    number_of before ≡ 0 → number_of after ≡ 0
    → T (within (height_of before) (height_of after) (sum p.levels (λ k. d k * 16 ^ (p.levels - 1 - k))) (16 ^ (p.levels - 1)))

pub record Demands : Type 0 where
  pub nudging : Nudging
  pub moving : Moving
