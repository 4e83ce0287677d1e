-- `wheloruka::judge_headed` meets its contract: one step for each test.
use mathlib.Core.Path.{◌≡◌, sym, ap, ◌∙◌}
use Rattle.refusal.specs.Told.{told}
use Rattle.arc_heading.specs.Judge.{judged}
use Rattle.call_heading.specs.Lent.{heading_in, head_number}
use Rattle.wheloruka.proofs.Writes.{headed_head, headed_judged, headed_tally, headed_none}
use Rattle.wheloruka.proofs.judge_headed.Lts
use Rattle.wheloruka.proofs.judge_headed.Reads
use Rattle.wheloruka.proofs.judge_headed.Tie
use Rattle.wheloruka.proofs.judge_headed.Goals as goal

-- the facts known at one place of the code
abbrev At-After-judge : Type 0
At-After-judge = Lts.After-judge Tie.the-claims Reads.Pre Reads.Post

-- nothing is wrong with the heading's numbers, and what its judge told
head : (c : At-After-judge) → head_number c.args.heading.now ≡ 0
head c = sym c.judge_head-k.ensures ∙ c.if-k-eq0.true

heard : (c : At-After-judge) → judged (heading_in c.args.heading.now) ≡ told c.judge.result
heard c = ap judged (sym c.heading_in.ensures) ∙ sym c.judge.ensures

pub returns-in-Err : goal.returns-in-Err
returns-in-Err c =
    headed_judged _ _ (head c.before.before.before) c.in-Err.e (heard c.before.before.before ∙ ap told c.in-Err.is) c.number.ensures

pub returns-then-has_tally : goal.returns-then-has_tally
returns-then-has_tally c =
    headed_none _ _ (head c.before.before.before.before) (heard c.before.before.before.before ∙ ap told c.in-Ok.is) (sym c.has_tally.ensures ∙ c.if-has_tally.true)

pub returns-else-has_tally : goal.returns-else-has_tally
returns-else-has_tally c =
    headed_tally _ _ (head c.before.before.before.before) (heard c.before.before.before.before ∙ ap told c.in-Ok.is) (sym c.has_tally.ensures ∙ c.if-has_tally.false)

pub returns-else-k-eq0 : goal.returns-else-k-eq0
returns-else-k-eq0 c = headed_head _ _ c.judge_head-k.ensures c.if-k-eq0.false
