-- `list_block` meets its contract: in a still block nothing changed; else the list starts with the numbers passed that changed, and keeps its
-- entries behind them. Assumes nothing.
use mathlib.Core.Path.{◌≡◌, sym, ap, ◌∙◌}
use mathlib.Core.List.{List, ◌++◌}
use Prim.Native.Nat.{ℕ, ◌+◌, ◌<◌}
use native.Mathlib.Omega.{arith}
use lib.ListN.{length, drop}
use Rattle.outcomes.specs.Calls.{changed, written}
use Rattle.changes.specs.Changes.{ListRoom}
use Rattle.changes.proofs.Changes.{changed_fixed, changed_no, changed_longer, changed_le, changed_write, listed_behind}
use Rattle.changes.proofs.list_block.Goals as goal
use Rattle.changes.proofs.list_block.Goals.{Then-differ, then-differ, else-differ}

pub returns-then-is_still : goal.returns-then-is_still
returns-then-is_still c = let s = c in
    let q = changed_fixed s.args.old.now s.args.new.now s.args.from s.args.to s.requires.block.rises (sym c.is_still.ensures ∙ c.if-is_still.true) in
    record { value = s.requires.listed_to.count ∙ ap length (sym q); list_after = s.requires.listed_to.begins ∙ ap (λ (x : List ℕ). written x s.args.list.now) (sym q) }

pub loop-i-init : goal.loop-i-init
loop-i-init c = let s = c in (s.requires.listed_to.count, listed_behind s.args.old.now s.args.new.now s.requires.listed_to)

-- there is room for one more
room : (old new start list : List ℕ) (n i : ℕ) → ListRoom old new start → i < length old → length (changed (i + 1) old new) ≡ length (changed i old new) + 1
    → n ≡ length (changed i old new) → length list ≡ length start → n < length list
room old new start list n i r inside longer e l = omega (arith, r.room, changed_le old new (i + 1) (length old) (omega arith))

here : (c : Then-differ) → c.loop-i.k < length c.loop-i.list
here c = let a = c.args in
    let at = c.loop-i in
    room a.old.now a.new.now a.list.now at.list at.k at.i c.requires.list_room (omega (arith, c.requires.block))
    (changed_longer a.old.now a.new.now at.i (sym c.differ.ensures ∙ c.if-differ.true)) at.invariant.0 at.auto.list

pub bounds-list-k : goal.bounds-list-k
bounds-list-k c = here (goal.at.bounds-list-k c).Then-differ

pub loop-i-preserved : goal.loop-i-preserved
loop-i-preserved c = let a = c.args in
    let at = c.loop-i in
    let tested = sym c.differ.ensures in
    elim c.if-differ.branch [
      | then-differ w ↦
          let y = tested ∙ w.if-differ.true in
          let longer = changed_longer a.old.now a.new.now at.i y in
          let small : at.k < length at.list = room a.old.now a.new.now a.list.now at.list at.k at.i c.requires.list_room (omega (arith, c.requires.block)) longer at.invariant.0 at.auto.list in (
            w.k-is ∙ ap (λ (x : ℕ). x + 1) at.invariant.0 ∙ sym longer,
            w.list-is ∙ changed_write a.old.now a.new.now at.list a.list.now at.k at.i at.invariant.0 at.invariant.1 (omega (arith, small)) y
                ∙ ap (λ (j : ℕ). changed (at.i + 1) a.old.now a.new.now ++ drop j a.list.now) (sym w.k-is),
          )
      | else-differ w ↦
          let z = sym (changed_no a.old.now a.new.now at.i (tested ∙ w.if-differ.false)) in (
            w.k-is ∙ at.invariant.0 ∙ ap length z,
            w.list-is ∙ at.invariant.1 ∙ ap (λ (x : List ℕ). x ++ drop at.k a.list.now) z ∙ ap (λ (j : ℕ). changed (at.i + 1) a.old.now a.new.now ++ drop j a.list.now) (sym w.k-is),
          )
    ]

pub returns : goal.returns
unfolding written
returns c = let a = c.args in
    let at = c.loop-i in
    let e : at.i ≡ a.to = omega arith in record {
      value = rw e at at.invariant.0;
      list_after = at.invariant.1
          ∙ ap (λ (j : ℕ). changed at.i a.old.now a.new.now ++ drop j a.list.now) at.invariant.0
          ∙ ap (λ (j : ℕ). changed j a.old.now a.new.now ++ drop (length (changed j a.old.now a.new.now)) a.list.now) e;
    }
