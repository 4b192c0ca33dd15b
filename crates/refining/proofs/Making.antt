-- The new tables: what `make` may rely on and leaves. Assumes nothing.
use mathlib.Core.Path.{◌≡◌, sym, ap, ◌∙◌}
use mathlib.Core.Logic.{◌≢◌}
use mathlib.Core.List.{List}
use Prim.Native.Nat.{ℕ}
use Rattle.facts.specs.Numbers.{first}
use Rattle.grid.specs.declared.Plan.{Plan}
use Rattle.mesh.specs.Mesh.{labels, check}
use Rattle.mesh.proofs.Bridge.{check_passed, check_good}
use Rattle.outcomes.specs.Calls.{By, refine, mark_refusal, new_cells}
use Rattle.outcomes.specs.Steps.{room_refusal}
use Rattle.outcomes.proofs.Marks.{refusal_mark}
use Rattle.closure.proofs.Marked.{flags_mean}
use Rattle.closure.specs.Ready as closure
use Rattle.nesting.specs.Table.{MeshTable}
use Rattle.calls.specs.Parts.{Flags, renewed, Applicable}
use Rattle.calls.proofs.Outcomes.{applicable, ready_are, mesh_are}
use Rattle.refining.specs.Steps.{Made}
use Rattle.refining.proofs.Outcomes.{make_room, make_mark}

module _ (by : By) (p : Plan) (cs fs marks : List ℕ) (k : check p cs fs ≡ 0) (cell_room function_room : ℕ) where
  pub made_marks : {n : ℕ} {cs' fs' : List ℕ} → n ≡ first (mark_refusal refine by p cs fs) marks → n ≢ 0 → Made by p cs fs marks cell_room function_room n cs' fs'
  made_marks e z =
      let r = refusal_mark refine by p cs fs marks k in
      record { is = e ∙ sym r ∙ sym (make_mark by p cs fs marks cell_room function_room (λ w. z (e ∙ sym r ∙ w))); cells = λ w. absurd (z w); functions = λ w. absurd (z w) }

  -- past 9 the flags may be applied, to a copy of the cells
  module _ {n : ℕ} {flags : List ℕ} (F : Flags refine by p cs fs marks n flags) (z : n ≡ 0) where
    applies : Applicable refine p cs fs flags fs
    applies = let l = (check_passed p cs fs k).functions in applicable refine by p cs fs marks flags k F z fs l l

    pub renewable : {copy : List ℕ} → copy ≡ cs → closure.Ready refine p copy flags
    renewable e = ready_are e applies.ready

    module _ {copy cs' : List ℕ} (copied : copy ≡ cs) (renews : cs' ≡ renewed refine p copy flags) where
      is_renewed : cs' ≡ renewed refine p cs flags
      is_renewed = renews ∙ ap (λ u. renewed refine p u flags) copied

      is_new_lem : cs' ≡ new_cells refine by p cs fs marks
      is_new_lem = is_renewed ∙ flags_mean refine by p cs fs marks flags (check_good p cs fs k).0.range (F.says z)

      pub new_mesh : MeshTable p cs'
      new_mesh = mesh_are is_renewed applies.mesh

      pub made_rooms : {number : ℕ} {fs' : List ℕ} → number ≡ room_refusal p cs fs cell_room function_room cs' → (number ≡ 0 → fs' ≡ labels p cs')
          → Made by p cs fs marks cell_room function_room number cs' fs'
      made_rooms r l = record {
        is = r ∙ ap (room_refusal p cs fs cell_room function_room) is_new_lem ∙ sym (make_room by p cs fs marks cell_room function_room (refusal_mark refine by p cs fs marks k ∙ sym F.number ∙ z));
        cells = λ w. is_new_lem;
        functions = l;
      }
