-- `call_heading::judge_head` meets its contract: one step for each test.
use mathlib.Core.Path.{◌≡◌, sym, ap, ◌∙◌}
use native.Mathlib.Omega.{arith}
use Rattle.num_whole.proofs.Cases.{is_up_to, not_up_to}
use Rattle.refusal.specs.declared.Refusal.TheVariants.{Room, Count}
use Rattle.refusal.proofs.Firsts.{unless_true, unless_false, first_pass, first_by, first_none_left}
use Rattle.arc_limits.specs.Limits.{numbers_ok}
use Rattle.arc_heading.specs.Judge.{counts_ok}
use Rattle.call_heading.specs.Lent.{heading_in, head_number}
use Rattle.call_heading.proofs.judge_head.Lts
use Rattle.call_heading.proofs.judge_head.Reads
use Rattle.call_heading.proofs.judge_head.Tie
use Rattle.call_heading.proofs.judge_head.Goals as goal

-- the facts known at one place of the code
abbrev At-After-numbers_ok : Type 0
At-After-numbers_ok = Lts.After-numbers_ok Tie.the-claims Reads.Pre Reads.Post

-- the counts of the heading that was read
counts : (c : At-After-numbers_ok) → c.numbers_ok.result ≡ counts_ok (heading_in c.args.heading.now)
unfolding counts_ok
counts c = c.numbers_ok.ensures ∙ ap (λ h. numbers_ok h.parameters h.stations) c.heading_in-h.ensures

pub returns-then-heading-lt16 : goal.returns-then-heading-lt16
unfolding head_number
returns-then-heading-lt16 c = first_by _ _ Room (unless_false 20 _ (not_up_to _ _ (omega arith)))

pub returns-then-has_heading : goal.returns-then-has_heading
unfolding head_number
returns-then-has_heading c =
    sym (first_pass _ _ (unless_true 20 _ (is_up_to _ _ (omega arith)))
    ∙ first_pass _ _ (unless_true 2 _ (sym (counts c.before.before.before.before) ∙ c.if-numbers_ok.true))
    ∙ first_pass _ _ (unless_true 20 _ (sym c.has_heading.ensures ∙ c.if-has_heading.true))
    ∙ first_none_left)

pub returns-else-has_heading : goal.returns-else-has_heading
unfolding head_number
returns-else-has_heading c =
    first_by _ _ Room (unless_false 20 _ (sym c.has_heading.ensures ∙ c.if-has_heading.false))
    ∙ sym (first_pass _ _ (unless_true 20 _ (is_up_to _ _ (omega arith)))
    ∙ first_pass _ _ (unless_true 2 _ (sym (counts c.before.before.before.before) ∙ c.if-numbers_ok.true)))

pub returns-else-numbers_ok : goal.returns-else-numbers_ok
unfolding head_number
returns-else-numbers_ok c =
    first_by _ _ Count (unless_false 2 _ (sym (counts c.before.before) ∙ c.if-numbers_ok.false))
    ∙ sym (first_pass _ _ (unless_true 20 _ (is_up_to _ _ (omega arith))))
