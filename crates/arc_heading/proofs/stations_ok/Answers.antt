use Rattle.std.proofs.Common.{◌∙◌, rules, tests}
use Rattle.std.proofs.lemmas.Iterator.{YieldsList-from_slice}
use Rattle.std.proofs.lemmas.Iterator.Search.{all_from_yields_List}
use Rattle.num_whole.proofs.Alls.{list_all_is}
use Rattle.arc_limits.specs.Limits.{station_ok}
use Rattle.arc_heading.specs.Judge.{stations_of}
use Rattle.arc_heading.proofs.stations_ok.Goals as goal

pub returns : goal.returns
unfolding stations_of
returns c =
    all_from_yields_List station_ok _ _ _ c.all.ensures.ran (YieldsList-from_slice _ (cc)) (λ x b q k. search (rules, tests)) ∙ list_all_is station_ok _
