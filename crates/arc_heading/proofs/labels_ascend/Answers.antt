use Rattle.std.proofs.Common.{ltb, rules, tests}
use Rattle.std.proofs.lemmas.List.Sorted.{answers_always}
use Rattle.num_whole.proofs.Ascends.{ascends}
use Rattle.arc_limits.specs.Limits.{label_key, no_label}
use Rattle.arc_heading.specs.Judge.{labels_of}
use Rattle.arc_heading.proofs.labels_ascend.Goals as goal

pub returns : goal.returns
unfolding labels_of
returns c =
    ascends label_key no_label _ _
    (c.is_sorted_by.ensures.cases (λ x y. ltb (label_key x) (label_key y)) (answers_always _ _ _ (λ f a r q k. search (rules, tests))))
