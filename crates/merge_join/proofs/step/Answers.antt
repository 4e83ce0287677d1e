-- A step takes the least number that is left, and gives its place in both lists.
use native.Mathlib.Omega.{arith}
use Rattle.merge_join.proofs.Joining.{own_last, own_next, other_last, other_next, both_next}
use borrow.Author.Rules.{rules}
use Rattle.merge_join.proofs.step.Goals as goal

pub returns-then-x-y : goal.returns-then-x-y
returns-then-x-y c =
    record { takes_left = own_next _ _ (search rules) (search rules) _ _ (omega arith) (omega arith) (omega arith); takes_right = other_next _ _ (search rules) (search rules) _ _ (omega arith) (omega arith) (omega arith); within_left = omega arith; within_right = omega arith; on = omega arith }

pub returns-then-y-x : goal.returns-then-y-x
returns-then-y-x c =
    record { takes_left = other_next _ _ (search rules) (search rules) _ _ (omega arith) (omega arith) (omega arith); takes_right = own_next _ _ (search rules) (search rules) _ _ (omega arith) (omega arith) (omega arith); within_left = omega arith; within_right = omega arith; on = omega arith }

pub returns-then-j-n : goal.returns-then-j-n
returns-then-j-n c =
    record { takes_left = both_next _ _ (search rules) (search rules) _ _ (omega arith) (omega arith) (omega arith); takes_right = both_next _ _ (search rules) (search rules) _ _ (omega arith) (omega arith) (omega arith); within_left = omega arith; within_right = omega arith; on = omega arith }

pub returns-then-i-m : goal.returns-then-i-m
returns-then-i-m c =
    record { takes_left = own_last _ _ (search rules) (search rules) _ _ (omega arith) (omega arith); takes_right = other_last _ _ (search rules) (search rules) _ _ (omega arith) (omega arith) (omega arith); within_left = omega arith; within_right = omega arith; on = omega arith }

pub returns : goal.returns
returns c =
    record { takes_left = other_last _ _ (search rules) (search rules) _ _ (omega arith) (omega arith) (omega arith); takes_right = own_last _ _ (search rules) (search rules) _ _ (omega arith) (omega arith); within_left = omega arith; within_right = omega arith; on = omega arith }
