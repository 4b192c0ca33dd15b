-- A label is the smallest byte of the function's support. Assumes nothing.
use mathlib.Core.Path.{◌≡◌}
use mathlib.Core.Bool.{Bool, not, ◌&&◌}
use mathlib.Core.List.{List}
use Prim.Native.Nat.{ℕ, ◌<◌, ◌≤◌}
use native.Mathlib.Nat.{le_refl}
use native.Mathlib.Omega.{arith}
use lib.Dec.{T, leb, leb→le, eqb→eq, nleb→lt}
use lib.ListN.{get_or}
use Rattle.facts.specs.Bounded.{implies, some, every}
use Rattle.facts.proofs.Tests.{and_i, and_l, and_r, cases, not_i, not_e, implies_i, implies_e, eqb_of, positive, T_true, T_false}
use Rattle.facts.proofs.Bounded.{some_i, some_e, every_i, every_e}
use Rattle.grid.specs.declared.Plan.{Plan}
use Rattle.grid.specs.Plan.{cell_total, supported}
use Rattle.mesh.specs.Mesh.{absent, refined, label_of}

-- x is below the byte of each cell of the support
abbrev pub Below : Plan → ℕ → List ℕ → ℕ → Type 0
Below p f cells x = (n : ℕ) → n < cell_total p → T (supported p f n) → x ≤ get_or cells n 0

-- a table of bytes to 2, and the smallest byte of the support: it is below each, and above what is below all
module _ (p : Plan) (f : ℕ) (cells : List ℕ) (small : (n : ℕ) → n < cell_total p → get_or cells n 0 ≤ 2) (smallest : ℕ) (top : smallest ≤ 2)
    (le : Below p f cells smallest) (ge : (x : ℕ) → x ≤ 2 → Below p f cells x → x ≤ smallest) where
  abbrev any : Bool
  any = some (cell_total p) (λ n. supported p f n && absent cells n)

  abbrev all : Bool
  all = every (cell_total p) (λ n. implies (supported p f n) (refined cells n))

  passive : T any → 0 ≡ smallest
  unfolding absent
  passive t =
      let w = some_e (cell_total p) _ t in
      let u : T (supported p f w.0) = and_l (supported p f w.0) (absent cells w.0) w.2 in
      let e : get_or cells w.0 0 ≡ 0 = eqb→eq _ 0 (and_r (supported p f w.0) (absent cells w.0) w.2) in
      omega (arith, le w.0 w.1 u, e)

  deactivated : T all → 2 ≡ smallest
  unfolding refined
  deactivated t = omega (
    arith,
    ge 2 (le_refl 2) (λ n b u.
        let e : get_or cells n 0 ≡ 2 = eqb→eq _ 2 (implies_e (supported p f n) (refined cells n) (every_e (cell_total p) _ t n b) u) in
        omega arith),
  )

  active : T (not any) → T (not all) → 1 ≡ smallest
  unfolding absent refined
  active t u =
      let low : 1 ≤ smallest = ge 1 (omega arith) (λ n b v. positive (get_or cells n 0)
      (not_i (absent cells n) (λ e. not_e any t (some_i (cell_total p) _ n b (and_i (supported p f n) (absent cells n) v e))))) in
      cases (leb 2 smallest)
      (λ e. absurd (not_e all u (every_i (cell_total p) _ (λ n b. implies_i (supported p f n) (refined cells n) (λ v.
      let two : get_or cells n 0 ≡ 2 = omega (arith, leb→le 2 smallest e, le n b v, small n b) in
      eqb_of _ 2 two)))))
      (λ e. omega (arith, nleb→lt 2 smallest e))

  -- it is document 01's label
  pub label : label_of p cells f ≡ smallest
  unfolding label_of
  label =
      cases any (λ t. rw (T_true any t) (passive t))
      (λ t. rw (T_false any (not_e any t))
      (cases all (λ u. rw (T_true all u) (deactivated u)) (λ u. rw (T_false all (not_e all u)) (active t u))))
