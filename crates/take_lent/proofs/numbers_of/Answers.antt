use Rattle.std.proofs.Common.{rules}
use Rattle.arc_limits.specs.Limits.{station_key, no_station}
use Rattle.arc_heading.specs.Judge.{numbers_of}
use Rattle.take_lent.proofs.Copies.{mapped}
use Rattle.take_lent.proofs.numbers_of.Goals as goal

pub returns : goal.returns
unfolding numbers_of station_key
returns c = mapped station_key no_station _ (λ p x y q k. search rules) (search rules) c.map.ensures.items
