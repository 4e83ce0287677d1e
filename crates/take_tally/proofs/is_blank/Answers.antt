use Rattle.std.proofs.Common.{◌∙◌, rules, tests}
use Rattle.std.proofs.lemmas.Iterator.{YieldsList-from_slice}
use Rattle.std.proofs.lemmas.Iterator.Search.{all_from_yields_List}
use Rattle.num_whole.specs.Tests.{same}
use Rattle.num_whole.proofs.Alls.{list_all_is}
use Rattle.take_tally.proofs.is_blank.Goals as goal

pub returns : goal.returns
unfolding same
returns c =
    all_from_yields_List (λ t. same t 0) _ _ _ c.all.ensures.ran (YieldsList-from_slice c.args.w.times (cc)) (λ x b q k. search (rules, tests)) ∙ list_all_is (λ t. same t 0) _
