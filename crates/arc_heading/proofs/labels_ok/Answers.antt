use Rattle.std.proofs.Common.{◌∙◌, rules, tests}
use Rattle.std.proofs.lemmas.Iterator.{YieldsList-from_slice}
use Rattle.std.proofs.lemmas.Iterator.Search.{all_from_yields_List}
use Rattle.num_whole.proofs.Alls.{list_all_is}
use Rattle.arc_limits.specs.Limits.{label_ok}
use Rattle.arc_heading.specs.Judge.{labels_of}
use Rattle.arc_heading.proofs.labels_ok.Goals as goal

pub returns : goal.returns
unfolding labels_of
returns c =
    all_from_yields_List label_ok _ _ _ c.all.ensures.ran (YieldsList-from_slice _ (cc)) (λ x b q k. search (rules, tests)) ∙ list_all_is label_ok _
