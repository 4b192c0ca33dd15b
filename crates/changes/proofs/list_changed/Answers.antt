-- `list_changed` meets its contract: nothing is listed before. Assumes nothing.
use native.Mathlib.Omega.{arith}
use Rattle.changes.proofs.Changes.{none_listed}
use Rattle.changes.proofs.list_changed.Goals as goal

pub list_changed_between-requires : goal.list_changed_between-requires
list_changed_between-requires c = record {
  list_room = c.requires;
  block = record { same = c.requires.same; rises = omega arith; inside = omega arith };
  listed_to = none_listed _ _ _;
}
