-- The claims about a plan's layout, from the laws of the grid. Assumes nothing.
use mathlib.Core.Path.{◌≡◌, refl, sym, ap, ◌∙◌}
use mathlib.Core.Bool.{Bool, true, false, not, ◌&&◌, cond}
use mathlib.Core.List.{List}
use Prim.Native.Nat.{ℕ, ◌+◌, ◌*◌, ◌<◌}
use native.Mathlib.Omega.{arith}
use lib.Dec.{T, eqb, eqb→eq}
use lib.ListN.{length}
use Rattle.facts.proofs.Tests.{cases, not_e, T_true, T_false, differ}
use Rattle.grid.specs.declared.Plan.{Plan}
use Rattle.grid.specs.declared.Place.{Place}
use Rattle.grid.specs.Numbering.{number}
use Rattle.grid.specs.Plan.{plan_refusal, cell_total, function_total, cell_place, function_place, cell_number, function_number, FunctionInside, supported}
use Rattle.grid.specs.Spans.{in_span, in_rectangle, support_of}
use Rattle.grid.proofs.Laws.{taken, refused, cell_inside, cell_number_lt, cell_number_place, cell_place_number, function_inside, function_number_lt, function_place_number}
use Rattle.grid.proofs.Rectangles.{support_in}
use Rattle.grid.proofs.Spans.{supported_is}
use Rattle.mesh.specs.Mesh.{refusal3}
use Rattle.layout.specs.declared.CellAt.{CellAt}
use Rattle.layout.specs.Layout.{is_taken, cells_length, functions_length, has_level, level_at, place_of, has_place, cell_at, support_at, support}
use Rattle.layout.specs.Claims.{is_in, Within, Claims}
use Rattle.layout.proofs.Found.{cells_taken, functions_taken, cells_below, cells_some, functions_below, functions_some, level_has, level_taken, level_test, place_level, place_test, place_has, level_found, place_found, cell_found, support_found, support_is}

flip : (b : Bool) → cond {A = ℕ} (not b) 3 0 ≡ cond b 0 3
flip true = refl
flip false = refl

module _ (p : Plan) where
  lengths_asked : (cells functions : List ℕ)
      → refusal3 p cells functions
      ≡ cond (is_taken p) (cond (eqb (length cells) (cells_length p) && eqb (length functions) (functions_length p)) 0 3) (plan_refusal p)
  unfolding refusal3
  lengths_asked cells functions = cases (is_taken p)
      (λ t. let e = eqb→eq (plan_refusal p) 0 t in
      taken p _ e ∙ rw (T_true (is_taken p) t, ← cells_taken p e, ← functions_taken p e) (flip (eqb (length cells) (cell_total p) && eqb (length functions) (function_total p))))
      (λ t. refused p _ (differ (plan_refusal p) 0 t) ∙ rw (T_false (is_taken p) (not_e (is_taken p) t)) refl)

  -- what was found is there
  found_place : (x : Place) → (cell_at p x).found ≡ 1 → T (has_place p x)
  unfolding cell_at
  found_place x e = go (has_place p x) e
    where
      go : (b : Bool) → (cond {A = CellAt} b (record { found = 1; cell = cell_number p x }) (record { found = 0; cell = 0 })).found ≡ 1 → T b
      go true z = tt
      go false z = absurd (omega arith)

  some_level : (k : ℕ) → 0 < (level_at p k).functions_up → T (has_level p k)
  unfolding level_at
  some_level k l = cases (has_level p k) (λ t. t) (λ t. let z : 0 < 0 = rw (T_false (has_level p k) (not_e (has_level p k) t)) at l in absurd (omega arith))

  cell_numbered : (x : Place) → (cell_at p x).found ≡ 1
      → let l = level_at p x.level in (cell_at p x).cell ≡ l.first_cell + x.row * l.columns + x.column
  unfolding number
  cell_numbered x e = let t = found_place x e in rw (cell_found p x t, level_found p x.level (place_level p x t)) refl

  function_numbered : (x : Place) → let l = level_at p x.level in x.row < l.functions_up → x.column < l.functions_across
      → support p (l.first_function + x.row * l.functions_across + x.column) ≡ support_at p x
  unfolding number
  function_numbered x a b =
      let t : T (has_level p x.level) = some_level x.level (omega arith) in
      let (range, l) = level_has p x.level t in
      let e = level_found p x.level t in
      let i : FunctionInside p x = record { level< = l; row< = rw e at a; column< = rw e at b } in
      let m : function_number p x < functions_length p = rw (← functions_taken p (level_taken p x.level t)) (function_number_lt p range x i) in
      rw e (support_found p (function_number p x) m ∙ ap (support_at p) (function_place_number p range x i))

  there_and_back : (c : ℕ) → c < cells_length p
      → let x = place_of p c in cell_at p (record { level = x.level; row = x.row; column = x.column }) ≡ record { found = 1; cell = c }
  there_and_back c l =
      let (range, m) = cells_below p c l in
      let t : T (has_place p (cell_place p c)) = place_test p (cell_place p c) (cells_some p c l) (cell_inside p range c m) in
      rw (place_found p c l) (cell_found p (cell_place p c) t ∙ (λ j. record { found = 1; cell = cell_number_place p range c m j }))

  back_and_forth : (x : Place) → (cell_at p x).found ≡ 1
      → place_of p (cell_at p x).cell ≡ record { found = 1; level = x.level; row = x.row; column = x.column }
  back_and_forth x e =
      let t = found_place x e in
      let (range, i) = place_has p x t in
      let m : cell_number p x < cells_length p = rw (← cells_taken p (level_taken p x.level (place_level p x t))) (cell_number_lt p range x i) in
      let q = cell_place_number p range x i in
      rw (cell_found p x t) (place_found p (cell_number p x) m ∙ (λ j. record { found = 1; level = (q j).level; row = (q j).row; column = (q j).column }))

  module _ (f : ℕ) (l : f < functions_length p) where
    covered : (c : ℕ) → c < cells_length p → is_in (support p f) (place_of p c) ≡ supported p f c
    unfolding is_in in_rectangle in_span
    covered c m =
        let (range, b) = functions_below p f l in
        rw (support_found p f l, support_is p range (function_place p f) (function_inside p range f b), place_found p c m) (sym (supported_is p range f c))

    contained : Within (level_at p (support p f).level) (support p f)
    unfolding support_of
    contained =
        let (range, b) = functions_below p f l in
        let x = function_place p f in
        let i = function_inside p range f b in
        let r = support_in p range x i in
        let rows = r.rows in
        let columns = r.columns in
        rw (support_found p f l, support_is p range x i, level_found p x.level (level_test p x.level (functions_some p f l) i.level<))
        (record { rows> = rows.some; rows≤ = rows.within; columns> = columns.some; columns≤ = columns.within })

pub claims : (p : Plan) → Claims p
claims p = record {
  lengths = lengths_asked p;
  cell_number = cell_numbered p;
  function_number = function_numbered p;
  back = there_and_back p;
  forth = back_and_forth p;
  covers = λ f c l m. covered p f l c m;
  within = contained p;
}
