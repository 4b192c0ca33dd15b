-- The whole call: its refusals, and what `finish` may rely on and makes of it. Assumes nothing.
use mathlib.Core.Path.{◌≡◌, refl, sym, ap, ◌∙◌}
use mathlib.Core.Logic.{◌≢◌}
use mathlib.Core.List.{List}
use Prim.Native.Nat.{ℕ}
use lib.IntN.{ℤ}
use lib.ListN.{length}
use Rattle.grid.specs.declared.Plan.{Plan}
use Rattle.mesh.specs.Mesh.{labels}
use Rattle.mesh.proofs.Bridge.{check_good, is_mesh_lem}
use Rattle.outcomes.specs.declared.Answer.{Answer}
use Rattle.outcomes.specs.Calls.{By, refine, new_cells, refusal, refused, Outcome, outcome}
use Rattle.outcomes.specs.Steps.{room_refusal}
use Rattle.outcomes.specs.Meets.{outcome_of}
use Rattle.outcomes.proofs.Marks.{refusal_e}
use Rattle.outcomes.proofs.Results.{new_good, refining_keeps, outcome_settled, outcome_accepted, accepted}
use Rattle.outcomes.proofs.Steps.{rooms}
use Rattle.refining.specs.Refining.{WithHeights, tables_refusal, refused_with, carry_into, outcome_with_heights}
use Rattle.refining.specs.Steps.{make_refusal, Made, Ready, finished}
use Rattle.refining.proofs.Outcomes.{tables_none, make_none, without_refused, whole_tables, whole_refused, whole_carried}

module _ (by : By) (p : Plan) (cs fs : List ℕ) (hs : List ℤ) (marks cl fl : List ℕ) where
  abbrev whole : WithHeights
  whole = outcome_with_heights by p cs fs hs marks cl fl

  module _ {n : ℕ} {r : Answer} (e : r ≡ record { number = n; cells = 0; functions = 0 }) (z : n ≢ 0) where
    refused_as : record { outcome = outcome_of r cs fs cl fl; heights = hs } ≡ refused_with n cs fs hs cl fl
    unfolding refused_with refused
    refused_as = ap (λ (a : Answer). record { outcome = outcome_of a cs fs cl fl; heights = hs }) e

    pub tables_refused : n ≡ tables_refusal p cs fs hs → record { outcome = outcome_of r cs fs cl fl; heights = hs } ≡ whole
    tables_refused q = refused_as ∙ ap (λ m. refused_with m cs fs hs cl fl) q ∙ sym (whole_tables by p cs fs hs marks cl fl (λ w. z (q ∙ w)))

    pub make_refused : tables_refusal p cs fs hs ≡ 0 → n ≡ make_refusal by p cs fs marks (length cl) (length fl) → record { outcome = outcome_of r cs fs cl fl; heights = hs } ≡ whole
    unfolding refused_with refused
    make_refused t q =
        let w = without_refused by p cs fs hs marks cl fl (λ w. z (q ∙ w)) in
        refused_as ∙ ap (λ m. refused_with m cs fs hs cl fl) q
        ∙ sym (whole_refused by p cs fs hs marks cl fl t (rw w (λ v. z (q ∙ v))) ∙ ap (λ o. record { outcome = o; heights = hs }) w)

  module _ (t : tables_refusal p cs fs hs ≡ 0) {n : ℕ} {cs' fs' : List ℕ} (M : Made by p cs fs marks (length cl) (length fl) n cs' fs') (z : n ≡ 0) where
    unrefused : (refusal refine by p cs fs marks ≡ 0) × (room_refusal p cs fs (length cl) (length fl) (new_cells refine by p cs fs marks) ≡ 0)
    unrefused = make_none by p cs fs marks (length cl) (length fl) (sym M.is ∙ z)

    pub ready : Ready p cs fs hs cl fl cs' fs'
    ready =
        let (k, fit) = refusal_e refine by p cs fs marks unrefused.0 in
        let G = (check_good p cs fs k).0 in
        let N = new_good refine by p cs fs marks G fit in
        let (a, b) = rooms p cs fs (length cl) (length fl) (new_cells refine by p cs fs marks) unrefused.1 in
        let R : Ready p cs fs hs cl fl (new_cells refine by p cs fs marks) (labels p (new_cells refine by p cs fs marks)) = record {
          checked = k;
          allowed = (tables_none p cs fs hs t).1;
          grows = record { before = is_mesh_lem p cs G; after = is_mesh_lem p (new_cells refine by p cs fs marks) N; stays = refining_keeps by p cs fs marks G fit };
          sized = N.sized;
          labelled = refl;
          cells≤ = a;
          functions≤ = b;
        } in
        rw (M.functions z, M.cells z) R

    is_0 : (outcome refine by p cs fs marks cl fl).answer.number ≡ 0
    unfolding accepted
    is_0 =
        let (a, b) = rooms p cs fs (length cl) (length fl) (new_cells refine by p cs fs marks) unrefused.1 in
        ap (λ (o : Outcome). o.answer.number) (outcome_accepted refine by p cs fs marks cl fl unrefused.0 a b)

    pub finished_is : finished p cs fs hs cl fl cs' fs' ≡ whole
    unfolding finished
    finished_is =
        rw (M.functions z, M.cells z)
        (ap (carry_into p cs fs hs cl fl) (sym (outcome_settled refine by p cs fs marks cl fl unrefused.0)) ∙ sym (whole_carried by p cs fs hs marks cl fl t is_0))
