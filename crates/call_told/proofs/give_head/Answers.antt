-- `call_told::give_head` meets its contract: 20, or the heading and the number in their rooms.
use Rattle.num_whole.proofs.Cases.{is_up_to, not_up_to}
use Rattle.call_told.specs.Told.{head_roomy}
use Rattle.call_told.proofs.Told.{head_short, head_put}
use Rattle.call_told.proofs.give_head.Goals as goal

pub returns-then-h-heading : goal.returns-then-h-heading
unfolding head_roomy
returns-then-h-heading c =
    let got = head_put _ _ _ _ (is_up_to _ _ c.if-h-heading.true) c.requires.2 c.put_heading.ensures (c.give.ensures.value, c.give.ensures.left) in record {
      value = got.0;
      heading = got.1.0;
      left = got.1.1;
    }

pub returns-else-h-heading : goal.returns-else-h-heading
unfolding head_roomy
returns-else-h-heading c =
    let got = head_short _ _ _ _ (not_up_to _ _ c.if-h-heading.false) in record {
      value = got.0;
      heading = got.1.0;
      left = got.1.1;
    }
