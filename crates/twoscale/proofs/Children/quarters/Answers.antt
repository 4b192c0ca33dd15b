-- `Children::quarters` meets its contract. Assumes nothing.
use native.Mathlib.Omega.{arith}
use Rattle.twoscale.proofs.Steps.{is_low, is_high, is_middle}
use Rattle.twoscale.proofs.Children.quarters.Goals as goal

pub returns-then-j-self : goal.returns-then-j-self
returns-then-j-self c = let s = c in is_low s.args.self s.args.j s.requires.0 s.requires.1 (omega arith)

pub returns-then-j-self-2 : goal.returns-then-j-self-2
returns-then-j-self-2 c = let s = c in is_high s.args.self s.args.j s.requires.0 s.requires.1 (λ e. omega arith) (omega arith)

pub returns-else-j-self-2 : goal.returns-else-j-self-2
returns-else-j-self-2 c = let s = c in is_middle s.args.self s.args.j s.requires.0 s.requires.1 (λ e. omega arith) (λ e. omega arith)
