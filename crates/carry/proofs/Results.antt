-- What is claimed of shares, and of heights on their way, holds. Assumes nothing.
use Rattle.carry.specs.Demands.{Demands}
use Rattle.carry.proofs.Scales.{scales}
use Rattle.carry.proofs.Shares.{two_scale, share_one}
use Rattle.carry.proofs.Small.{carried_small}

pub demands : Demands
demands = record {
  formula = λ p a x y f on b l. two_scale p a (scales p a) x y on f b l;
  one = λ p a g b l. share_one p a (scales p a) g b l;
  small = λ p functions heights s n g l b. carried_small p functions heights s (scales p s.allowed) n g l b;
}
