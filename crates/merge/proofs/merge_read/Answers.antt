-- `merge::merge_read` meets its contract: 21 where the union of the arcs counts less than both, 22 to 24 and 20 by their tests, else the file.
use native.Mathlib.Omega.{arith}
use Rattle.merge_put.proofs.Known.{known}
use Rattle.merge.proofs.Answers.{answers_21, answers_22, arcs_fit, answers_23, answers_24, none_refuses, answers_20, answers_written}
use Rattle.merge.proofs.merge_read.Goals as goal

pub overflow_add-x : goal.overflow_add-x
overflow_add-x c = omega (arith, (known _ _ c.requires.0).few_arcs, (known _ _ c.requires.1).few_arcs)

pub returns-then-m-x : goal.returns-then-m-x
returns-then-m-x c = answers_21 _ _ (known _ _ c.requires.0) _ _ (known _ _ c.requires.1) _ c.count_arcs-m.ensures _ c.if-m-x.true

pub returns-then-m-gt-ARCS_MOST : goal.returns-then-m-gt-ARCS_MOST
returns-then-m-gt-ARCS_MOST c =
    answers_22 _ _ (known _ _ c.requires.0) _ _ (known _ _ c.requires.1) _ c.count_arcs-m.ensures c.if-m-x.false _ c.if-m-gt-ARCS_MOST.true

pub returns-then-n-gt-LABELS_MOST : goal.returns-then-n-gt-LABELS_MOST
returns-then-n-gt-LABELS_MOST c =
    let x = known _ _ c.requires.0 in
    let y = known _ _ c.requires.1 in
    let fit = arcs_fit _ _ x _ _ y _ c.count_arcs-m.ensures c.if-m-x.false c.if-m-gt-ARCS_MOST.false in
    answers_23 _ _ x _ _ y _ fit _ _ _ c.join_labels-n.ensures _ c.if-n-gt-LABELS_MOST.true

pub overflow_mul-begin : goal.overflow_mul-begin
overflow_mul-begin c = omega (arith, (known _ _ c.requires.0).few_arcs)

pub overflow_add-begin : goal.overflow_add-begin
overflow_add-begin c = omega (arith, (known _ _ c.requires.0).few_arcs)

pub overflow_mul-start : goal.overflow_mul-start
overflow_mul-start c = omega (arith, (known _ _ c.requires.1).few_arcs)

pub overflow_add-start : goal.overflow_add-start
overflow_add-start c = omega (arith, (known _ _ c.requires.1).few_arcs)

pub agree-requires : goal.agree-requires
agree-requires c =
    let j = c.join_labels-n.ensures in record {
      n_in_bounds = ((known _ _ c.requires.0).labels_end, (known _ _ c.requires.1).labels_end);
      count_in_bounds = (j.left_long, j.right_long);
    }

pub returns-then-not-agree : goal.returns-then-not-agree
returns-then-not-agree c =
    let x = known _ _ c.requires.0 in
    let y = known _ _ c.requires.1 in
    let fit = arcs_fit _ _ x _ _ y _ c.count_arcs-m.ensures c.if-m-x.false c.if-m-gt-ARCS_MOST.false in
    answers_24 _ _ x _ _ y _ fit _ _ _ c.join_labels-n.ensures c.if-n-gt-LABELS_MOST.false _ c.agree.ensures _ c.if-not-agree.true

pub needed-length-requires : goal.needed-length-requires
needed-length-requires c = (c.if-m-gt-ARCS_MOST.false, c.if-n-gt-LABELS_MOST.false)

pub returns-then-out-length : goal.returns-then-out-length
returns-then-out-length c =
    let x = known _ _ c.requires.0 in
    let y = known _ _ c.requires.1 in
    let fit = arcs_fit _ _ x _ _ y _ c.count_arcs-m.ensures c.if-m-x.false c.if-m-gt-ARCS_MOST.false in
    let j = c.join_labels-n.ensures in
    let none = none_refuses _ _ x _ _ y _ fit _ _ _ j c.if-n-gt-LABELS_MOST.false _ c.agree.ensures c.if-not-agree.false in
    answers_20 _ _ x _ _ y _ fit _ _ _ j none _ c.needed-length.ensures _ c.if-out-length.true

pub put_file-requires : goal.put_file-requires
put_file-requires c =
    let x = known _ _ c.requires.0 in
    let y = known _ _ c.requires.1 in
    let fit = arcs_fit _ _ x _ _ y _ c.count_arcs-m.ensures c.if-m-x.false c.if-m-gt-ARCS_MOST.false in
    let j = c.join_labels-n.ensures in
    let few = c.if-n-gt-LABELS_MOST.false in
    let none = none_refuses _ _ x _ _ y _ fit _ _ _ j few _ c.agree.ensures c.if-not-agree.false in record {
      as_read = c.requires;
      arcs_fit = (fit, j);
      b_value = (none, few, omega (arith, c.needed-length.ensures, c.if-out-length.false));
    }

pub returns : goal.returns
returns c =
    let x = known _ _ c.requires.0 in
    let y = known _ _ c.requires.1 in
    let fit = arcs_fit _ _ x _ _ y _ c.count_arcs-m.ensures c.if-m-x.false c.if-m-gt-ARCS_MOST.false in
    let j = c.join_labels-n.ensures in
    let none = none_refuses _ _ x _ _ y _ fit _ _ _ j c.if-n-gt-LABELS_MOST.false _ c.agree.ensures c.if-not-agree.false in
    answers_written _ _ x _ _ y _ fit _ _ _ j none _ c.needed-length.ensures _ _ c.if-out-length.false c.put_file.ensures
