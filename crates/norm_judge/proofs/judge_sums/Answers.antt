-- `norm_judge::judge_sums` meets its contract: the rooms, then the sums.
use mathlib.Core.Path.{sym, ◌∙◌}
use Rattle.norm_judge.proofs.Numbers.{roomed, sums_room, sums_unsound, sums_sound_lem}
use Rattle.norm_judge.proofs.judge_sums.Goals as goal

pub sums_fit-requires : goal.sums_fit-requires
sums_fit-requires c = roomed _ _ _ _ _ c.requires (sym c.sums_roomy.ensures ∙ c.if-not-sums_roomy.false)

pub returns : goal.returns
returns c = sums_sound_lem _ _ _ _ (sym c.sums_roomy.ensures ∙ c.if-not-sums_roomy.false) (sym c.sums_fit.ensures ∙ c.if-not-sums_fit.false)

pub returns-then-not-sums_fit : goal.returns-then-not-sums_fit
returns-then-not-sums_fit c = sums_unsound _ _ _ _ (sym c.sums_roomy.ensures ∙ c.if-not-sums_roomy.false) (sym c.sums_fit.ensures ∙ c.if-not-sums_fit.true)

pub returns-then-not-sums_roomy : goal.returns-then-not-sums_roomy
returns-then-not-sums_roomy c = sums_room _ _ _ _ (sym c.sums_roomy.ensures ∙ c.if-not-sums_roomy.true)
