use mathlib.Core.Path.{◌≡◌, refl, ap, ◌∙◌}
use Prim.Native.Nat.{ℕ, ◌+◌, ◌-◌}
use mathlib.Core.List.{List}
use lib.ListN.{get_or}
use Rattle.num_whole.specs.Tests.{less, pick}
use Rattle.take_marks.specs.Marks.{with_mark}
use native.Mathlib.Omega.{arith}
use native.Mathlib.Numerals.{add-one}
use native.Mathlib.Nat.{le_antisymm}
use Rattle.take_marks.specs.Parts.{heard_word}
use Rattle.take_marks.proofs.heard.Goals as goal

next : (counts : List ℕ) (k : ℕ) → pick (less 0 (get_or counts k 0)) (with_mark (heard_word counts k) k) (heard_word counts k) ≡ heard_word counts (k + 1)
unfolding heard_word
next counts k = rw (add-one k) refl

pub loop-k-init : goal.loop-k-init
unfolding heard_word
loop-k-init c = (omega arith, refl)

pub loop-k-preserved : goal.loop-k-preserved
loop-k-preserved c =
    let l = c.loop-k in
    let counts = c.args.counts in
    (omega arith, c.with_count-word.ensures ∙ ap (λ w. pick (less 0 (get_or counts l.k 0)) (with_mark w l.k) w) l.invariant.1 ∙ next counts l.k)

pub returns : goal.returns
returns c =
    let l = c.loop-k in
    l.invariant.1 ∙ ap (heard_word c.args.counts) (le_antisymm l.invariant.0 (omega arith))
