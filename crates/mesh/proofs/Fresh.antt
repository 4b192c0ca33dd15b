-- A mesh that was just opened passes check: the labels of its functions are those that its cells fix. Assumes nothing.
use mathlib.Core.Path.{◌≡◌, sym, ap, ◌∙◌}
use mathlib.Core.Bool.{Bool, true, false, cond, or-false}
use mathlib.Core.List.{List}
use Prim.Native.Nat.{ℕ, ◌≤◌, ◌<◌}
use native.Mathlib.Nat.{le_refl}
use native.Mathlib.Omega.{arith}
use lib.Dec.{T, eqb, eqb→eq}
use lib.ListN.{get_or}
use Rattle.facts.proofs.Tests.{cases, not_e, T_true, T_false, eqb_of}
use Rattle.facts.proofs.Numbers.{get_d_tabulate, tabulate_same}
use Rattle.hierarchy.specs.Hierarchy.{Cells}
use Rattle.grid.specs.declared.Plan.{Plan}
use Rattle.grid.specs.Plan.{cell_total, function_total, cell_level, function_level, supported}
use Rattle.grid.specs.Bounds.{most_cells}
use Rattle.grid.specs.Range.{InRange}
use Rattle.grid.proofs.Spans.{supported_places, support_some}
use Rattle.mesh.specs.Mesh.{table_of, label_of, labels, refusal3, check, fresh_cells, fresh_functions, open_mesh}
use Rattle.mesh.proofs.Bridge.{Good, good_table, good_check, passed}
use Rattle.mesh.proofs.Label.{label}

-- the byte of a cell, and of a function, of level k
abbrev byte : ℕ → ℕ
byte k = cond (eqb k 0) 1 0

byte_le : (b : Bool) → cond b 1 0 ≤ 2
byte_le true = omega arith
byte_le false = omega arith

module _ (p : Plan) (range : InRange p) (small : cell_total p ≤ most_cells) where
  abbrev none : Cells
  none = λ c. false

  fresh_table : fresh_cells p ≡ table_of p none
  unfolding fresh_cells table_of
  fresh_table = tabulate_same (cell_total p) _ _ (λ c _. ap (λ b. cond b 1 0) (sym (or-false (eqb (cell_level p c) 0))))

  fresh_good : Good p (fresh_cells p)
  fresh_good = rw fresh_table
      (good_table p range none (λ c t. absurd t) small (record { closed = λ c i t l. absurd t; shallow = λ c i t. absurd t }) (λ q c i t n. absurd t))

  fresh_byte_lem : (c : ℕ) → c < cell_total p → get_or (fresh_cells p) c 0 ≡ byte (cell_level p c)
  unfolding fresh_cells
  fresh_byte_lem c i = get_d_tabulate (cell_total p) (λ c. byte (cell_level p c)) c 0 i

  -- all cells of a support are of the function's level, so their bytes are equal
  module _ (f : ℕ) (b : f < function_total p) where
    under_byte : (c : ℕ) → c < cell_total p → T (supported p f c) → get_or (fresh_cells p) c 0 ≡ byte (function_level p f)
    under_byte c i s = fresh_byte_lem c i ∙ ap byte (sym (supported_places p range f c i s).level)

    fresh_label : label_of p (fresh_cells p) f ≡ byte (function_level p f)
    fresh_label =
        label p f (fresh_cells p) (λ c i. rw (fresh_byte_lem c i) (byte_le (eqb (cell_level p c) 0)))
        (byte (function_level p f)) (byte_le (eqb (function_level p f) 0))
        (λ c i s. rw (under_byte c i s) (le_refl (byte (function_level p f))))
        (λ x _ h. let (c, i, s) = support_some p range f b in rw (under_byte c i s) at (h c i s))

  fresh_labels : fresh_functions p ≡ labels p (fresh_cells p)
  unfolding fresh_functions labels
  fresh_labels = tabulate_same (function_total p) _ _ (λ f b. sym (fresh_label f b))

  pub fresh_checked : check p (fresh_cells p) (fresh_functions p) ≡ 0
  fresh_checked = rw fresh_labels (good_check p (fresh_cells p) fresh_good)

-- What open leaves, where it is not refused, passes check
pub opened_checked : (p : Plan) (cs fs : List ℕ) → (open_mesh p cs fs).number ≡ 0
    → check p (open_mesh p cs fs).cells (open_mesh p cs fs).functions ≡ 0
unfolding open_mesh
opened_checked p cs fs e = cases (eqb (refusal3 p cs fs) 0)
    (λ z. let k = passed p cs fs (eqb→eq (refusal3 p cs fs) 0 z) in
    rw (T_true (eqb (refusal3 p cs fs) 0) z) (fresh_checked p k.range k.small))
    (λ z. absurd (not_e (eqb (refusal3 p cs fs) 0) z (eqb_of (refusal3 p cs fs) 0 (rw (T_false (eqb (refusal3 p cs fs) 0) (not_e (eqb (refusal3 p cs fs) 0) z)) at e))))
