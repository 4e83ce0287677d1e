use Rattle.std.proofs.Common.{ltb, rules, tests}
use Rattle.std.proofs.lemmas.List.Sorted.{answers_always}
use Rattle.num_whole.proofs.Ascends.{ascends}
use Rattle.arc_limits.specs.Limits.{station_key, no_station}
use Rattle.arc_heading.specs.Judge.{stations_of}
use Rattle.arc_heading.proofs.stations_ascend.Goals as goal

pub returns : goal.returns
unfolding stations_of
returns c =
    ascends station_key no_station _ _
    (c.is_sorted_by.ensures.cases (λ x y. ltb (station_key x) (station_key y)) (answers_always _ _ _ (λ f a r q k. search (rules, tests))))
