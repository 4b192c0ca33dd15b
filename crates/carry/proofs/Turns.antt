-- One function after another passes its height on: what each turn of the loops leaves. Assumes nothing.
use mathlib.Core.Path.{◌≡◌, refl, sym, ap, subst, ◌∙◌}
use mathlib.Core.Bool.{true, false, not, ◌&&◌, cond}
use mathlib.Core.List.{List}
use Prim.Native.Nat.{ℕ, zero, suc, ◌+◌, ◌*◌, ◌^◌, ◌≤◌, ◌<◌}
use native.Mathlib.Nat.{add-zero, add-suc, add_assoc}
use native.Mathlib.Numerals.{add-one}
use native.Mathlib.Omega.{arith}
use lib.Dec.{eqb, eqb→eq}
use lib.IntN.{ℤ, pos, zero-*ℤ, +ℤ_idr}
use lib.ListN.{length, get_or}
use lib.Signed.{mag}
use mir.Syntax.{w32}
use mir.Val.{to_z, of_z}
use borrow.Author.Tests.{ne_eqb}
use Rattle.facts.proofs.Tests.{and_l, cases, not_e, differ, T_true, T_false, true_T}
use Rattle.grid.specs.declared.Plan.{Plan}
use Rattle.grid.specs.declared.Place.{Place}
use Rattle.grid.specs.Numbering.{number}
use Rattle.grid.specs.Plan.{across_at, up_at, function_columns_at, function_rows_at, function_offset, function_total, function_place, FunctionInside}
use Rattle.grid.proofs.Laws.{function_place_number}
use Rattle.grid.proofs.Levels.{row_within}
use Rattle.grid.proofs.Sides.{total_small}
use Rattle.mesh.specs.Mesh.{refined, deactivated}
use Rattle.twoscale.specs.declared.Children.{Children}
use Rattle.twoscale.specs.Passing.{children_of}
use Rattle.carry.specs.Carry.{at, pass_on, carried}
use Rattle.carry.specs.Steps.{block_passed, BlockRoom, carried_from, Allowed, Underway, Passing}
use Rattle.carry.proofs.Lists.{heights_is}
use Rattle.heights.proofs.Turns.{element}
use Rattle.carry.proofs.Small.{may_pass, carried_length}
use Rattle.carry.proofs.Scales.{scales}
use Rattle.carry.proofs.Families.{family_room, family_passed}

-- ---- the functions from one number on

module _ (p : Plan) (fs : List ℕ) where
  pub from_none : (from : ℕ) (hs : List ℤ) → hs ≡ carried_from p fs from 0 hs
  unfolding carried_from
  from_none from hs = refl

  -- one more, who is deactivated or not
  pub from_yes : (from n : ℕ) (hs : List ℤ) → deactivated fs (from + n) ≡ true → pass_on p (from + n) (carried_from p fs from n hs) ≡ carried_from p fs from (n + 1) hs
  unfolding carried_from
  from_yes from n hs e = rw (add-one n, e)

  pub from_no : (from n : ℕ) (hs : List ℤ) → deactivated fs (from + n) ≡ false → carried_from p fs from n hs ≡ carried_from p fs from (n + 1) hs
  unfolding carried_from
  from_no from n hs e = rw (add-one n, e)

  -- those below `from` before
  pub from_carried : (from n : ℕ) (start : List ℤ) → carried_from p fs from n (carried p fs from start) ≡ carried p fs (from + n) start
  unfolding carried_from carried
  from_carried from zero start = ap (λ n. carried p fs n start) (sym (add-zero from))
  from_carried from (suc n) start = rw (add-suc from n) (ap (λ hs. cond (deactivated fs (from + n)) (pass_on p (from + n) hs) hs) (from_carried from n start))

  -- m of them, and then n
  pub from_join : (from m n : ℕ) (hs : List ℤ) → carried_from p fs (from + m) n (carried_from p fs from m hs) ≡ carried_from p fs from (m + n) hs
  unfolding carried_from
  from_join from m zero hs = ap (λ n. carried_from p fs from n hs) (sym (add-zero m))
  from_join from m (suc n) hs = rw (add-suc m n, add_assoc from m n) (ap (λ hs. cond (deactivated fs (from + (m + n))) (pass_on p (from + (m + n)) hs) hs) (from_join from m n hs))

-- whose height is 0 changes none
pub nothing_passed : (p : Plan) (f : ℕ) (hs : List ℤ) → length hs ≡ function_total p → at hs f ≡ pos 0 → hs ≡ pass_on p f hs
unfolding pass_on
nothing_passed p f hs e z = heights_is (function_total p) _ hs e (λ g l. rw (z, zero-*ℤ) (cases (eqb g f)
    (λ t. rw (T_true (eqb g f) t, eqb→eq g f t) z)
    (λ t. rw (ne_eqb g f (differ g f t)) (sym (+ℤ_idr (at hs g))))))

-- a height that as a word is 0
none : (z : ℤ) → mag z < 2 ^ 31 → not (eqb (of_z w32 z) 0) ≡ false → z ≡ pos 0
none z s d = sym (element z s) ∙ ap (to_z w32) (cases (eqb (of_z w32 z) 0) (eqb→eq (of_z w32 z) 0) (λ t. absurd (rw d at t)))

-- ---- the functions of a row of a level; those below it are done

module _ {p : Plan} {fs : List ℕ} {k r : ℕ} {heights : List ℤ} (u : Underway p fs (function_offset p k + r * function_columns_at p k) heights) (l : suc k < p.levels) (m : r < function_rows_at p k) where
  abbrev allowed : Allowed p
  allowed = u.started.allowed

  abbrev b : ℕ
  b = function_offset p k + r * function_columns_at p k

  pub row_ends : b + function_columns_at p k ≤ function_total p
  row_ends = row_within (function_columns_at p) (function_rows_at p) k p.levels r (omega arith) m

  pub row_fits : b + function_columns_at p k < 35179273
  row_fits = omega (arith, row_ends, total_small p allowed.range)

  module _ (c : ℕ) {hs : List ℤ} (e : hs ≡ carried_from p fs b c heights) where
    is : hs ≡ carried p fs (b + c) u.start
    is = e ∙ (ap (carried_from p fs b c) u.is ∙ from_carried p fs b c u.start)

    pub turn_size : length hs ≡ function_total p
    turn_size = ap length is ∙ carried_length p fs (b + c) u.start u.started.sized

    pub turn_same : length hs ≡ length heights
    turn_same = turn_size ∙ sym (ap length u.is ∙ carried_length p fs b u.start u.started.sized)

    -- a function that is not deactivated, or whose height as a word is 0
    pub turn_no : {f : ℕ} → f ≡ b + c → mag (at hs f) < 2 ^ 31 → eqb (get_or fs f 0) 2 && not (eqb (of_z w32 (at hs f)) 0) ≡ false → hs ≡ carried_from p fs b (c + 1) heights
    unfolding refined
    turn_no {f} ef s d = cases (eqb (get_or fs f 0) 2)
        (λ t.
        let y : eqb (get_or fs f 0) 2 ≡ true = T_true (eqb (get_or fs f 0) 2) t in
        let z : at hs f ≡ pos 0 = none (at hs f) s (rw y at d) in
        nothing_passed p (b + c) hs turn_size (rw ef at z) ∙ (ap (pass_on p (b + c)) e ∙ from_yes p fs b c heights (rw ef at y)))
        (λ t. e ∙ from_no p fs b c heights (rw ef at (T_false (eqb (get_or fs f 0) 2) (not_e (eqb (get_or fs f 0) 2) t))))

    -- function c of the row
    module _ (n : c < function_columns_at p k) where
      abbrev x : Place
      x = record { level = k; row = r; column = c }

      inside : FunctionInside p x
      inside = record { level< = omega arith; row< = m; column< = n }

      here : function_place p (b + c) ≡ x
      unfolding number
      here = function_place_number p allowed.range x inside

      passing : Passing p (b + c) hs
      passing = rw is (may_pass p fs u.start u.started (scales p allowed) (b + c) (omega (arith, row_ends)) (subst (λ (y : Place). suc y.level < p.levels) (sym here) l))

      -- what code finds: the function, its children, where their level begins and how wide it is
      module _ {f o w : ℕ} {up across : Children} (ef : f ≡ b + c) (eo : o ≡ function_offset p (k + 1)) (ew : w ≡ function_columns_at p (k + 1)) (eu : up ≡ children_of (up_at p k) r) (ea : across ≡ children_of (across_at p k) c) where
        pub turn_room : BlockRoom f o w up across hs
        turn_room = rw (ef, eo, ew, eu, ea, add-one k) (family_room passing (scales p allowed) x here)

        turned : block_passed f o w up across hs ≡ pass_on p (b + c) hs
        turned = rw (ef, eo, ew, eu, ea, add-one k) (family_passed passing (scales p allowed) x here)

        -- one that is deactivated
        pub turn_yes : {new : List ℤ} → eqb (get_or fs f 0) 2 && not (eqb (of_z w32 (at hs f)) 0) ≡ true → new ≡ block_passed f o w up across hs → new ≡ carried_from p fs b (c + 1) heights
        unfolding refined
        turn_yes d q = q ∙ (turned ∙ (ap (pass_on p (b + c)) e ∙ from_yes p fs b c heights (rw (← ef) (T_true (eqb (get_or fs f 0) 2) (and_l (eqb (get_or fs f 0) 2) _ (true_T _ d))))))
