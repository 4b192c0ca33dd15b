-- Each cell fits its parent just where the table is a mesh. Assumes nothing.
use mathlib.Core.Path.{◌≡◌, refl, sym, ap, ◌∙◌, subst}
use mathlib.Core.Bool.{Bool, true, false, not, ◌||◌}
use mathlib.Core.List.{List}
use Prim.Native.Nat.{ℕ, zero, suc, ◌+◌, ◌≤◌, ◌<◌}
use native.Mathlib.Omega.{arith}
use lib.Dec.{T, leb, eqb, leb→le, le→leb, eqb→eq, eqb-suc-zero}
use lib.ListN.{get_or}
use borrow.Author.Tests.{ne_eqb}
use Rattle.facts.specs.Bounded.{every}
use Rattle.facts.specs.Ranges.{every_from}
use Rattle.facts.proofs.Tests.{and_r, or_l, cases, same, differ, positive, eqb_of, not_e, T_true, T_false}
use Rattle.facts.proofs.Ranges.{from_same}
use Rattle.facts.proofs.Bounded.{every_i, every_e}
use Rattle.grid.specs.declared.Plan.{Plan}
use Rattle.grid.specs.Plan.{columns_at, rows_at, cell_offset, cell_total, cell_level, last_level, parent, child}
use Rattle.grid.specs.Range.{InRange}
use Rattle.grid.proofs.Laws.{cell_inside, cell_number_place, parent_lt, parent_level, is_child, child_lt, child_level, parent_of_child}
use Rattle.mesh.specs.Mesh.{absent, refined, cell_fits, is_mesh}
use Rattle.mesh.proofs.Bridge.{CellFits, fits_e, fits_i, rooted}
use Rattle.nesting.specs.Nested.{byte_fits, cell_byte_fits, most_at, nested}
use Rattle.grid.proofs.Levels.{offset_mono, level_before}

-- ---- one byte

byte_i : (most byte : ℕ) (present : Bool) → byte ≤ most → not (eqb byte 0) ≡ present → T (byte_fits most present byte)
unfolding byte_fits
byte_i most zero present l e = rw (← e) tt
byte_i most (suc n) present l e = rw (← e, eqb-suc-zero n) (le→leb (suc n) most l)

byte_most : (most byte : ℕ) (present : Bool) → T (byte_fits most present byte) → byte ≤ most
unfolding byte_fits
byte_most most zero present t = omega arith
byte_most most (suc n) present t = leb→le (suc n) most (and_r present (leb (suc n) most) (rw (eqb-suc-zero n) at t))

byte_present : (most byte : ℕ) (present : Bool) → T (byte_fits most present byte) → not (eqb byte 0) ≡ present
unfolding byte_fits
byte_present most zero true t = absurd t
byte_present most zero false t = refl
byte_present most (suc n) true t = rw (eqb-suc-zero n)
byte_present most (suc n) false t = absurd (rw (eqb-suc-zero n) at t)

most_two : (p : Plan) (k : ℕ) → most_at p k ≤ 2
unfolding most_at
most_two p k = cases (last_level p k) (λ t. rw (T_true (last_level p k) t) (omega arith)) (λ t. rw (T_false (last_level p k) (not_e (last_level p k) t)) (omega arith))

most_last : (p : Plan) (k : ℕ) → k + 1 ≡ p.levels → most_at p k ≡ 1
unfolding most_at last_level
most_last p k e = rw (T_true (eqb (k + 1) p.levels) (eqb_of _ _ e))

most_inner : (p : Plan) (k : ℕ) → (k + 1 ≡ p.levels → ⊥) → most_at p k ≡ 2
unfolding most_at last_level
most_inner p k f = rw (ne_eqb (k + 1) p.levels f)

-- the cells before the offset of level 1 are those of level 0
pub level_zero : (p : Plan) → InRange p → (c : ℕ) → c < cell_offset p 1 → cell_level p c ≡ 0
level_zero p range c m =
    let i : c < cell_total p = omega (arith, offset_mono (columns_at p) (rows_at p) 1 p.levels range.levels≥) in
    omega (arith, level_before _ _ p.levels c (cell_inside p range c i) (cell_number_place p range c i) 1 m)

module _ (p : Plan) (range : InRange p) (cells : List ℕ) where
  -- ---- from a mesh

  module _ (fit : (c : ℕ) → c < cell_total p → CellFits p cells c) (c : ℕ) (i : c < cell_total p) where
    abbrev byte : ℕ
    byte = get_or cells c 0

    most_is : byte ≤ most_at p (cell_level p c)
    unfolding refined
    most_is = cases (eqb (cell_level p c + 1) p.levels)
        (λ t. let e = eqb→eq (cell_level p c + 1) p.levels t in
        let two : byte ≡ 2 → ⊥ = λ q. (fit c i).shallow (eqb_of byte 2 q) e in
        rw (most_last p (cell_level p c) e) (omega (arith, (fit c i).byte)))
        (λ t. rw (most_inner p (cell_level p c) (differ (cell_level p c + 1) p.levels t)) (fit c i).byte)

    present_is : not (absent cells c) ≡ rooted p (refined cells) c
    present_is = cases (eqb (cell_level p c) 0)
        (λ z. rw (T_true (eqb (cell_level p c) 0) z) (T_true (not (absent cells c)) ((fit c i).first (eqb→eq (cell_level p c) 0 z))))
        (λ z. let l : 1 ≤ cell_level p c = positive (cell_level p c) z in
        let (a, b, ha, hb, e) = is_child p range c i l in
        let k : suc (cell_level p (parent p c)) < p.levels = omega (arith, parent_level p range c i l, (cell_inside p range c i).level<) in
        rw (T_false (eqb (cell_level p c) 0) (not_e (eqb (cell_level p c) 0) z))
        (ap (λ d. not (absent cells d)) (sym e) ∙ (fit (parent p c) (parent_lt p range c i l)).below k a b ha hb))

    nested_of : T (nested p cells c)
    unfolding nested absent
    nested_of = byte_i _ _ _ most_is present_is

  -- ---- and back

  module _ (nest : (c : ℕ) → c < cell_total p → T (nested p cells c)) where
    most_of_lem : (c : ℕ) → c < cell_total p → get_or cells c 0 ≤ most_at p (cell_level p c)
    unfolding nested
    most_of_lem c i = byte_most _ _ _ (nest c i)

    present_of_lem : (c : ℕ) → c < cell_total p → not (absent cells c) ≡ rooted p (refined cells) c
    unfolding nested absent
    present_of_lem c i = byte_present (most_at p (cell_level p c)) _ _ (nest c i)

    fits_of : (c : ℕ) → c < cell_total p → CellFits p cells c
    unfolding refined
    fits_of c i = record {
      byte = omega (arith, most_of_lem c i, most_two p (cell_level p c));
      first = λ z. subst T (sym (present_of_lem c i)) (or_l (eqb (cell_level p c) 0) _ (eqb_of _ _ z));
      below = λ l a b ha hb.
          let d : ℕ = child p c a b in
          let f : cell_level p d ≡ suc (cell_level p c) = child_level p range c a b i l ha hb in
          present_of_lem d (child_lt p range c a b i l ha hb) ∙ (ap (λ x. x || refined cells (parent p d)) (ne_eqb (cell_level p d) 0 (λ e. absurd (omega arith))) ∙ ap (refined cells) (parent_of_child p range c a b i l ha hb));
      shallow = λ r e. omega (arith, most_of_lem c i, most_last p (cell_level p c) e, eqb→eq (get_or cells c 0) 2 r);
    }

  pub mesh_is : every (cell_total p) (nested p cells) ≡ is_mesh p cells
  unfolding is_mesh
  mesh_is = same _ _
      (λ t. every_i (cell_total p) (cell_fits p cells) (λ c i. fits_i p cells c (cell_inside p range c i).level< (fits_of (every_e (cell_total p) (nested p cells) t) c i)))
      (λ t. every_i (cell_total p) (nested p cells) (nested_of (λ c i. fits_e p cells c (every_e (cell_total p) (cell_fits p cells) t c i))))

  -- what is asked of the cells of level 0
  nested_first : every_from 0 (cell_offset p 1) (cell_byte_fits cells (most_at p 0) true) ≡ every_from 0 (cell_offset p 1) (nested p cells)
  unfolding nested cell_byte_fits
  nested_first = from_same 0 (cell_offset p 1) _ _ (λ c l m. rw (level_zero p range c (omega arith)))

  pub first_fits : {b : Bool} {end most : ℕ} → end ≡ cell_offset p 1 → most ≡ most_at p 0 → b ≡ every_from 0 end (cell_byte_fits cells most true) → b ≡ every_from 0 (cell_offset p 1) (nested p cells)
  first_fits ee em e = (rw (ee, em) at e) ∙ nested_first
