-- A file read at places of its bytes. Assumes nothing.
use mathlib.Core.Path.{◌≡◌, refl, ◌∙◌}
use mathlib.Core.List.{List}
use Prim.Native.Nat.{ℕ, ◌<◌}
use native.Mathlib.Omega.{arith}
use lib.ListN.{length, get_or, drop}
use Rattle.codec.specs.Fitting.{number_limit}
use Rattle.codec.specs.Numbers.{bad_many, got_many, decode_numbers, decode_rising}
use Rattle.codec.specs.Steps.{AllFound}
use Rattle.codec.proofs.Lists.{numbers_canonical, small_at_lem}
use Rattle.listing.specs.declared.End.{End}
use Rattle.listing.specs.Judged.{CellsFound}
use Rattle.listing.proofs.Judging.{ends_good}
use Rattle.grid.specs.declared.Plan.{Plan}
use Rattle.files.specs.File.{bad_file, decode_corners, with_corners, with_cells, with_head, decode_file}
use Rattle.files.specs.Steps.{CornersFound, plan_with, numbers_of, cells_of, GoodFile}

pub file_no_head : (s : List ℕ) → decode_numbers 7 s ≡ bad_many → decode_file s ≡ bad_file
unfolding decode_file with_head
file_no_head s e = rw e refl

module _ {s ns : List ℕ} {to : ℕ} (seven : length ns ≡ 7) (f : AllFound s 0 ns to) where
  head_reads : decode_numbers 7 s ≡ got_many ns (drop to s)
  head_reads = rw seven at f.reads

  pub count_small : get_or ns 6 0 < number_limit
  count_small = small_at_lem (numbers_canonical 7 s ns (drop to s) head_reads).small 6 (omega arith)

  file_cells : decode_file s ≡ with_cells ns (decode_rising (get_or ns 6 0) (drop to s))
  unfolding decode_file with_head
  file_cells = rw head_reads refl

  pub file_no_cells : decode_rising (get_or ns 6 0) (drop to s) ≡ bad_many → decode_file s ≡ bad_file
  unfolding with_cells
  file_no_cells e = file_cells ∙ rw e refl

  module _ {e : End} (k : CellsFound s to (get_or ns 6 0) e) where
    pub file_no_corners : decode_corners (drop e.at s) ≡ bad_many → decode_file s ≡ bad_file
    unfolding with_cells with_corners
    file_no_corners b = ends_good 0 e.last (decode_rising (get_or ns 6 0) (drop to s)) (drop e.at s) k.reads (λ cs m l.
        file_cells ∙ rw (m, b) refl)

    pub file_good : {across up end : ℕ} {q : Plan} → CornersFound s e.at across up end → q ≡ plan_with ns across up
        → GoodFile s (record { plan = q; count = get_or ns 6 0; first = to; end = end; last = e.last })
    unfolding with_cells with_corners cells_of numbers_of
    file_good f p = rw p (ends_good 0 e.last (decode_rising (get_or ns 6 0) (drop to s)) (drop e.at s) k.reads (λ cs m l.
        record { file = file_cells ∙ rw (m, f.reads) refl; behind = drop e.at s; cells = k.reads; inside = f.inside }))
