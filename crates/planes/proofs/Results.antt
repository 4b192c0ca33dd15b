-- What is claimed of planes holds. Assumes nothing.
use Rattle.planes.specs.Demands.{Demands}
use Rattle.planes.proofs.Laws.{bytes_back_lem, present_back_lem, refined_back_lem, planes_hold}
use Rattle.planes.proofs.Same.{same_open, same_check, same_count, same_change}
use Rattle.planes.proofs.Kept.{left, refused_planes_lem, most_words, opened_passes_lem, active_by_ones_lem, refined_by_ones_lem}
use Rattle.planes.proofs.Copies.{packed_back_lem, unpacked_back_lem}
use Rattle.planes.proofs.Runs.{planes_undone_by_cells, planes_undone_by_functions}

pub demands : Demands
demands = record {
  bytes_back = bytes_back_lem;
  present_back = present_back_lem;
  refined_back = refined_back_lem;
  holding = planes_hold;
  opened = same_open;
  checked = same_check;
  counted = same_count;
  changed = λ d by p cs fs marks cl fl k. same_change p cs fs k d by marks cl fl;
  left = left;
  refused = refused_planes_lem;
  most = most_words;
  opened_passes = opened_passes_lem;
  active_by_ones = active_by_ones_lem;
  refined_by_ones = refined_by_ones_lem;
  packed_back = packed_back_lem;
  unpacked_back = unpacked_back_lem;
  undone_by_cells = λ p t run rooms u v k. planes_undone_by_cells p t u v k run rooms;
  undone_by_functions = λ p z t run rooms u v k c. planes_undone_by_functions p t u v k z c run rooms;
}
