-- Open on planes leaves the planes of the tables that open leaves. Assumes nothing.
use mathlib.Core.Path.{◌≡◌, refl, sym, ◌∙◌}
use mathlib.Core.Logic.{◌≢◌}
use mathlib.Core.Bool.{Bool, true, false, not, cond}
use mathlib.Core.List.{List}
use Prim.Native.Nat.{ℕ, ◌≤◌}
use native.Mathlib.Omega.{arith}
use lib.Dec.{eqb, ltb, ltb→lt, nltb→le}
use lib.ListN.{length, get_or, get_or-eq_default}
use borrow.Author.Tests.{ne_eqb, le-ltb}
use Rattle.facts.specs.Numbers.{tabulate}
use Rattle.facts.specs.Ranges.{Written}
use Rattle.facts.proofs.Tests.{cases}
use Rattle.facts.proofs.Numbers.{length_tabulate, get_d_tabulate}
use Rattle.grid.specs.declared.Plan.{Plan}
use Rattle.grid.specs.Plan.{cell_total, function_total, cell_offset, function_offset}
use Rattle.mesh.specs.Mesh.{absent, refined}
use Rattle.mesh.proofs.Bridge.{Passed}
use Rattle.tables.specs.Entries.{fresh_byte}
use Rattle.tables.proofs.Calls.{refuse_0, opened, first_cells, first_functions}
use Rattle.planes.specs.Bits.{words_for, plane_of, is_present, present_of, refined_of}
use Rattle.words.specs.Words.{below}
use Rattle.planes.specs.Planes.{refusal3, cells_of, open_planes}
use Rattle.planes.proofs.Laws.{plane_same, length_bytes}
use Rattle.planes.proofs.Refusals.{Sized, both_of}
use Rattle.plane_calls.proofs.Rooms.{room_enough}

-- ---- bytes of a table just opened, as bits

module _ (n first : ℕ) (l : first ≤ n) where
  abbrev fresh : List ℕ
  fresh = tabulate n (fresh_byte first)

  fresh_past : (c : ℕ) → n ≤ c → get_or fresh c 0 ≡ 0
  fresh_past c m = get_or-eq_default fresh 0 (rw (length_tabulate n (fresh_byte first)) m)

  digit : (b : Bool) → not (eqb (cond b 1 0) 0) ≡ b
  digit true = refl
  digit false = refl

  never : (b : Bool) → eqb (cond b 1 0) 2 ≡ false
  never true = refl
  never false = refl

  pub fresh_present : (c : ℕ) → is_present fresh c ≡ below first c
  unfolding is_present absent below fresh_byte
  fresh_present c = cases (ltb c n)
      (λ t. rw (get_d_tabulate n (fresh_byte first) c 0 (ltb→lt c n t)) (digit (ltb c first)))
      (λ t. rw (fresh_past c (nltb→le c n t), le-ltb c first (omega (arith, nltb→le c n t))))

  pub fresh_refined : (c : ℕ) → refined fresh c ≡ below 0 c
  unfolding refined below fresh_byte
  fresh_refined c = cases (ltb c n)
      (λ t. rw (get_d_tabulate n (fresh_byte first) c 0 (ltb→lt c n t), le-ltb c 0 (omega arith)) (never (ltb c first)))
      (λ t. rw (fresh_past c (nltb→le c n t), le-ltb c 0 (omega arith)))

-- ---- open

module _ (p : Plan) (P R fs : List ℕ) where
  pub unopened_planes : {n : ℕ} → n ≡ refusal3 p P R fs → n ≢ 0 → record { number = n; present = P; refined = R; functions = fs } ≡ open_planes p P R fs
  unfolding open_planes
  unopened_planes e z = rw (ne_eqb (refusal3 p P R fs) 0 (λ q. z (e ∙ q)), e)

  module _ (e : refusal3 p P R fs ≡ 0) where
    pub sizes : Sized p P R × (length fs ≡ function_total p)
    unfolding refusal3
    sizes = both_of p P R fs (function_total p) e

    pub few_present : length P ≤ 65536
    few_present = omega (arith, sizes.0.present, room_enough (cell_total p) sizes.0.small)

    pub few_refined : length R ≤ 65536
    few_refined = omega (arith, sizes.0.refined, room_enough (cell_total p) sizes.0.small)

    passes : Passed p (cells_of p P R) fs
    passes = record { range = sizes.0.range; small = sizes.0.small; cells = length_bytes (cell_total p) P R; functions = sizes.1 }

    pub labels_fit : function_offset p 1 ≤ length fs
    labels_fit = first_functions p (cells_of p P R) fs passes

    first_fits : cell_offset p 1 ≤ cell_total p
    first_fits = omega (arith, first_cells p (cells_of p P R) fs passes, length_bytes (cell_total p) P R)

    abbrev ds : List ℕ
    ds = tabulate (cell_total p) (fresh_byte (cell_offset p 1))

    length_ds : length ds ≡ cell_total p
    length_ds = length_tabulate (cell_total p) (fresh_byte (cell_offset p 1))

    ds_written : Written (cells_of p P R) ds 0 (length (cells_of p P R)) (fresh_byte (cell_offset p 1))
    ds_written = record {
      size = length_ds ∙ sym (length_bytes (cell_total p) P R);
      kept = λ i l. absurd (omega arith);
      made = λ i l m. get_d_tabulate (cell_total p) (fresh_byte (cell_offset p 1)) i 0 (omega (arith, length_bytes (cell_total p) P R));
    }

    present_ds : plane_of (length P) (below (cell_offset p 1)) ≡ present_of ds
    unfolding present_of
    present_ds = rw (length_ds, sizes.0.present) (plane_same (words_for (cell_total p)) _ _ (λ c l. sym (fresh_present (cell_total p) (cell_offset p 1) first_fits c)))

    refined_ds : plane_of (length R) (below 0) ≡ refined_of ds
    unfolding refined_of
    refined_ds = rw (length_ds, sizes.0.refined) (plane_same (words_for (cell_total p)) _ _ (λ c l. sym (fresh_refined (cell_total p) (cell_offset p 1) first_fits c)))

    pub opened_planes : {a b : ℕ} {P' R' : List ℕ} (gs : List ℕ) → a ≡ cell_offset p 1 → P' ≡ plane_of (length P) (below a) → R' ≡ plane_of (length R) (below 0)
        → b ≡ function_offset p 1 → Written fs gs 0 (length fs) (fresh_byte b) → record { number = 0; present = P'; refined = R'; functions = gs } ≡ open_planes p P R fs
    unfolding open_planes refusal3
    opened_planes gs ea eP eR eb w =
        let o = opened p (cells_of p P R) fs ds gs (refuse_0 p (cells_of p P R) fs sizes.0.plan (length_bytes (cell_total p) P R) sizes.1) refl refl ds_written refl (rw eb at w) in
        rw (e, eP, eR, ea, present_ds, refined_ds, o.1.0, o.1.1, o.0)
