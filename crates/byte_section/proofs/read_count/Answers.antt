-- `byte_section::read_count` meets its contract: its tests are the definition's, in its order.
use native.Mathlib.Omega.{arith}
use mathlib.Core.Path.{refl, ap, sym, ◌∙◌}
use Prim.Native.Nat.{ℕ}
use Rattle.num_whole.specs.Answer.{good}
use Rattle.num_whole.specs.Tests.{between}
use Rattle.num_whole.proofs.Cases.{yes, no, is_less, not_less}
use Rattle.byte_section.specs.Section.{count_at}
use Rattle.byte_section.proofs.read_count.Goals as goal

pub returns-then-left-lt4 : goal.returns-then-left-lt4
unfolding count_at
returns-then-left-lt4 c = yes _ _ _ (is_less _ _ (omega arith)) refl

pub returns-then-within : goal.returns-then-within
unfolding count_at
returns-then-within c =
    let low = c.args.low in
    let high = c.args.high in
    no _ _ _ (not_less _ _ (omega arith)) (yes _ _ _ (sym (c.within.ensures ∙ ap (λ (n : ℕ). between low n high) c.read_u32-n.ensures) ∙ c.if-within.true) (ap good c.read_u32-n.ensures))

pub returns-else-within : goal.returns-else-within
unfolding count_at
returns-else-within c =
    let low = c.args.low in
    let high = c.args.high in
    no _ _ _ (not_less _ _ (omega arith)) (no _ _ _ (sym (c.within.ensures ∙ ap (λ (n : ℕ). between low n high) c.read_u32-n.ensures) ∙ c.if-within.false) refl)
