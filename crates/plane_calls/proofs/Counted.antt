-- Count on planes: cells by ones, functions by bytes. Assumes nothing.
use mathlib.Core.Path.{◌≡◌, refl, sym, ◌∙◌}
use mathlib.Core.Logic.{◌≢◌}
use mathlib.Core.List.{List}
use Prim.Native.Nat.{ℕ, ◌-◌, ◌*◌}
use lib.Dec.{eqb, eqb→eq}
use lib.ListN.{length}
use borrow.Author.Tests.{ne_eqb}
use Rattle.facts.specs.Bounded.{sum}
use Rattle.facts.proofs.Tests.{cases, differ}
use Rattle.grid.specs.declared.Plan.{Plan}
use Rattle.grid.specs.Plan.{cell_total, rows_at, columns_at}
use Rattle.mesh.specs.Mesh.{tally, active, refined}
use Rattle.tables.specs.Entries.{byte_is}
use Rattle.tables.proofs.Calls.{counted, uncounted}
use Rattle.planes.specs.Bits.{Words, bytes_of, active_ones, ones_at}
use Rattle.planes.specs.Planes.{cells_of, refusal4, check_planes, count_planes}
use Rattle.planes.proofs.Laws.{length_bytes}
use Rattle.planes.proofs.Counts.{active_tally, refined_tally}
use Rattle.planes.proofs.Refusals.{Held, held_of, holding_of, check_early, check_held, check_of}

-- as the count of bytes has them
module _ (n : ℕ) (P R : List ℕ) where
  active_bytes : tally n (active (bytes_of n P R)) ≡ tally (length (bytes_of n P R)) (byte_is (bytes_of n P R) 1)
  unfolding active byte_is
  active_bytes = rw (length_bytes n P R)

  refined_bytes_lem : tally n (refined (bytes_of n P R)) ≡ tally (length (bytes_of n P R)) (byte_is (bytes_of n P R) 2)
  unfolding refined byte_is
  refined_bytes_lem = rw (length_bytes n P R)

-- what check leaves
pub held_checked : {p : Plan} {P R fs : List ℕ} → check_planes p P R fs ≡ 0 → Held p P R fs
held_checked {p} {P} {R} {fs} e = held_of p P R fs (check_of p P R fs e).0

module _ (p : Plan) (P R fs : List ℕ) where
  pub counted_planes : 0 ≡ check_planes p P R fs → Words P → Words R → {a r f x : ℕ} → a ≡ sum (length P) (active_ones P R) → r ≡ sum (length R) (ones_at R) → f ≡ tally (length fs) (byte_is fs 1)
      → x ≡ rows_at p (p.levels - 1) * columns_at p (p.levels - 1) → record { number = 0; active = a; refined = r; functions = f; area = x } ≡ count_planes p P R fs
  unfolding count_planes
  counted_planes e sP sR ea er ef ex =
      let k = check_of p P R fs (sym e) in
      let h = holding_of p P R fs (held_checked (sym e)) sP sR in
      rw k.0 (counted p (cells_of p P R) fs (sym k.1) refl
      (ea ∙ active_tally (cell_total p) P R h ∙ active_bytes (cell_total p) P R)
      (er ∙ refined_tally (cell_total p) P R h ∙ refined_bytes_lem (cell_total p) P R) ef ex)

  pub uncounted_planes : {n : ℕ} → n ≡ check_planes p P R fs → n ≢ 0 → record { number = n; active = 0; refined = 0; functions = 0; area = 0 } ≡ count_planes p P R fs
  unfolding count_planes
  uncounted_planes e z = cases (eqb (refusal4 p P R fs) 0)
      (λ t. let k = eqb→eq (refusal4 p P R fs) 0 t in rw k (uncounted p (cells_of p P R) fs (e ∙ sym (check_held p P R fs k)) z))
      (λ t. let k = differ (refusal4 p P R fs) 0 t in rw (ne_eqb (refusal4 p P R fs) 0 k, e ∙ sym (check_early p P R fs refl k)))
