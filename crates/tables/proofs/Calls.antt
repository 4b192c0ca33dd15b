-- What the steps of open, check and count answer is what their definitions answer. Assumes nothing.
use mathlib.Core.Path.{◌≡◌, refl, sym, ap, ◌∙◌}
use mathlib.Core.Bool.{Bool, true, false, cond}
use mathlib.Core.List.{List}
use Prim.Native.Nat.{ℕ, zero, suc, ◌-◌, ◌*◌, ◌^◌, ◌≤◌, ◌<◌}
use native.Mathlib.Nat.{mul-one, pow-zero, pow-suc}
use native.Mathlib.Omega.{arith}
use lib.Dec.{T, eqb, ltb, eqb→eq, ltb→lt, nltb→le}
use lib.ListN.{length}
use borrow.Author.Tests.{eq-eqb, ne_eqb}
use Rattle.facts.specs.Ranges.{Written}
use Rattle.facts.proofs.Tests.{cases, same, eqb_of}
use Rattle.facts.proofs.Numbers.{tabulate_is}
use Rattle.grid.specs.declared.Plan.{Plan}
use Rattle.grid.specs.Numbering.{Inside, offset, number, place}
use Rattle.grid.specs.Plan.{plan_refusal, ratio, grown, columns_at, rows_at, function_columns_at, function_rows_at, cell_offset, function_offset, cell_total, function_total}
use Rattle.grid.specs.Range.{InRange}
use Rattle.grid.proofs.Laws.{taken, refused, cell_inside, cell_number_place, function_inside, function_number_place}
use Rattle.grid.proofs.Totals.{functions_bound}
use Rattle.mesh.specs.Mesh.{active, refined, is_mesh, is_admissible, is_labelled, refusal3, refusal6, check, fresh_cells, fresh_functions, open_mesh, tally, area_of, count}
use Rattle.mesh.proofs.Bridge.{Passed, passed, check_good, is_mesh_lem, length_labels}
use Rattle.mesh.proofs.Area.{area}
use Rattle.tables.specs.Entries.{byte_is, fresh_byte}
use Rattle.grid.proofs.Levels.{offset_mono, level_before, level_from}

-- ---- the area

square : (s k : ℕ) → (s * s) ^ k ≡ s ^ k * s ^ k
square s zero = simp (pow-zero, mul-one)
square s (suc k) = rw (pow-suc (s * s) k, pow-suc s k, square s k) (omega arith)

-- the area of a mesh is how many cells the last level has
area_last : (p : Plan) → InRange p → (cs : List ℕ) → T (is_mesh p cs) → area_of p cs ≡ rows_at p (p.levels - 1) * columns_at p (p.levels - 1)
unfolding grown
area_last p range cs mesh = area p range cs mesh ∙ rw (square (ratio p) (p.levels - 1)) (omega arith)

module _ (p : Plan) (cs fs : List ℕ) where
  -- ---- refusals 1 to 3

  pub refuse_plan : (plan_refusal p ≡ 0 → ⊥) → plan_refusal p ≡ refusal3 p cs fs
  unfolding refusal3
  refuse_plan e = sym (refused p _ e)

  pub refuse_3 : plan_refusal p ≡ 0 → (length cs ≡ cell_total p → ⊥) → 3 ≡ refusal3 p cs fs
  unfolding refusal3
  refuse_3 e g = sym (taken p _ e ∙ rw (ne_eqb _ _ g))

  pub refuse_3' : plan_refusal p ≡ 0 → length cs ≡ cell_total p → (length fs ≡ function_total p → ⊥) → 3 ≡ refusal3 p cs fs
  unfolding refusal3
  refuse_3' e g h = sym (taken p _ e ∙ rw (eq-eqb _ _ g, ne_eqb _ _ h))

  pub refuse_0 : plan_refusal p ≡ 0 → length cs ≡ cell_total p → length fs ≡ function_total p → 0 ≡ refusal3 p cs fs
  unfolding refusal3
  refuse_0 e g h = sym (taken p _ e ∙ rw (eq-eqb _ _ g, eq-eqb _ _ h))

  -- ---- refusals 4 to 6

  pub refuse_6 : is_mesh p cs ≡ true → is_admissible p cs ≡ true → is_labelled p cs fs ≡ false → 6 ≡ refusal6 p cs fs
  unfolding refusal6
  refuse_6 e f g = rw (e, f, g)

  pub refuse_none : is_mesh p cs ≡ true → is_admissible p cs ≡ true → is_labelled p cs fs ≡ true → 0 ≡ refusal6 p cs fs
  unfolding refusal6
  refuse_none e f g = rw (e, f, g)

  -- ---- check

  pub check_later : refusal3 p cs fs ≡ 0 → refusal6 p cs fs ≡ check p cs fs
  unfolding check
  check_later e = rw e

  pub check_first : (refusal3 p cs fs ≡ 0 → ⊥) → refusal3 p cs fs ≡ check p cs fs
  unfolding check
  check_first e = rw (ne_eqb _ _ e)

  -- ---- count

  functions_sized : check p cs fs ≡ 0 → length fs ≡ function_total p
  functions_sized e = ap length (check_good p cs fs e).1 ∙ length_labels p cs

  pub counted : {n a r f x : ℕ} → n ≡ check p cs fs → n ≡ 0 → a ≡ tally (length cs) (byte_is cs 1) → r ≡ tally (length cs) (byte_is cs 2) → f ≡ tally (length fs) (byte_is fs 1)
      → x ≡ rows_at p (p.levels - 1) * columns_at p (p.levels - 1) → record { number = n; active = a; refined = r; functions = f; area = x } ≡ count p cs fs
  unfolding count byte_is active refined
  counted e z ea er ef ex =
      let c : check p cs fs ≡ 0 = sym e ∙ z in
      let G = (check_good p cs fs c).0 in
      rw (c, z, ea, er, ef, ex, G.sized, functions_sized c, area_last p G.range cs (is_mesh_lem p cs G))

  pub uncounted : {n : ℕ} → n ≡ check p cs fs → (n ≡ 0 → ⊥) → record { number = n; active = 0; refined = 0; functions = 0; area = 0 } ≡ count p cs fs
  unfolding count
  uncounted e z = rw (ne_eqb (check p cs fs) 0 (λ q. z (e ∙ q)), e)

  -- both tables have fewer entries than 32 bits count
  pub short_cells : check p cs fs ≡ 0 → length cs < 2 ^ 32
  short_cells e = let G = (check_good p cs fs e).0 in omega (arith, G.sized, G.small)

  pub short_functions : check p cs fs ≡ 0 → length fs < 2 ^ 32
  short_functions e = let G = (check_good p cs fs e).0 in omega (arith, functions_sized e, functions_bound p G.range G.small)

-- ---- open

-- the first level's numbers are those below the second
module _ (w h : ℕ → ℕ) (L n : ℕ) (inside : Inside w h L (place w h L n)) (is : number w h (place w h L n) ≡ n) where
  pub first_level : fresh_byte (offset w h 1) n ≡ cond (eqb (place w h L n).level 0) 1 0
  unfolding fresh_byte
  first_level = ap (λ (b : Bool). cond b 1 0) (same (ltb n (offset w h 1)) (eqb (place w h L n).level 0)
      (λ t. eqb_of (place w h L n).level 0 (omega (arith, level_before w h L n inside is 1 (ltb→lt _ _ t))))
      (λ t. cases (ltb n (offset w h 1)) (λ u. u) (λ u. absurd (omega (arith, eqb→eq (place w h L n).level 0 t, level_from w h L n inside is 1 (nltb→le _ _ u))))))

module _ (p : Plan) (cs fs : List ℕ) where
  fresh_cells_lem : (ds : List ℕ) → Passed p cs fs → Written cs ds 0 (length cs) (fresh_byte (cell_offset p 1)) → ds ≡ fresh_cells p
  unfolding fresh_cells
  fresh_cells_lem ds k w = tabulate_is (cell_total p) _ ds (w.size ∙ k.cells) (λ i l. w.made i (omega arith) (omega (arith, k.cells))
      ∙ first_level _ _ p.levels i (cell_inside p k.range i l) (cell_number_place p k.range i l))

  fresh_functions_lem : (gs : List ℕ) → Passed p cs fs → Written fs gs 0 (length fs) (fresh_byte (function_offset p 1)) → gs ≡ fresh_functions p
  unfolding fresh_functions
  fresh_functions_lem gs k w = let r = k.range in tabulate_is (function_total p) _ gs (w.size ∙ k.functions) (λ i l. w.made i (omega arith) (omega (arith, k.functions))
      ∙ first_level _ _ p.levels i (function_inside p r i l) (function_number_place p r i l))

  -- the first level lies in each table
  pub first_cells : Passed p cs fs → cell_offset p 1 ≤ length cs
  first_cells k = omega (arith, k.cells, offset_mono (columns_at p) (rows_at p) 1 p.levels k.range.levels≥)

  pub first_functions : Passed p cs fs → function_offset p 1 ≤ length fs
  first_functions k = omega (arith, k.functions, offset_mono (function_columns_at p) (function_rows_at p) 1 p.levels k.range.levels≥)

  abbrev After : ℕ → List ℕ → List ℕ → Type 0
  After n ds gs = (n ≡ (open_mesh p cs fs).number) × ((ds ≡ (open_mesh p cs fs).cells) × (gs ≡ (open_mesh p cs fs).functions))

  pub opened : {n a b : ℕ} (ds gs : List ℕ) → n ≡ refusal3 p cs fs → n ≡ 0 → a ≡ cell_offset p 1 → Written cs ds 0 (length cs) (fresh_byte a)
      → b ≡ function_offset p 1 → Written fs gs 0 (length fs) (fresh_byte b) → After n ds gs
  unfolding open_mesh
  opened {n} {a} {b} ds gs e z ea wa eb wb =
      let r : refusal3 p cs fs ≡ 0 = sym e ∙ z in
      let k = passed p cs fs r in
      rw r (z, (fresh_cells_lem ds k (rw ea at wa), fresh_functions_lem gs k (rw eb at wb)))

  pub unopened : {n : ℕ} → n ≡ refusal3 p cs fs → (n ≡ 0 → ⊥) → After n cs fs
  unfolding open_mesh
  unopened e z = rw (ne_eqb (refusal3 p cs fs) 0 (λ q. z (e ∙ q))) (e, (refl, refl))
