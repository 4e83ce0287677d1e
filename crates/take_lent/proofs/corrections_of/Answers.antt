use Rattle.std.proofs.Common.{rules}
use Rattle.arc_limits.specs.Limits.{station_key, no_station}
use Rattle.take_laws.specs.Taking.{corrections_of}
use Rattle.take_lent.proofs.Copies.{mapped}
use Rattle.take_lent.proofs.corrections_of.Goals as goal

pub returns : goal.returns
unfolding corrections_of station_key
returns c = mapped (λ t. t.correction) no_station _ (λ p x y q k. search rules) (search rules) c.map.ensures.items
