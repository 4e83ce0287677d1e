use Prim.Native.Nat.{◌+◌, ◌<◌}
use mathlib.Core.Path.{refl, sym, ap, ◌∙◌}
use native.Mathlib.Omega.{arith}
use lib.ListN.{length, get_or, drop}
use Rattle.list_tallies.specs.Tables.{counted}
use Rattle.list_tallies.proofs.Counts.{counted_end, counted_turn, bumped_most}
use Rattle.list_tallies.proofs.count.Goals as goal

pub loop-answer-init : goal.loop-answer-init
loop-answer-init c = (refl, (λ k. omega (arith, c.requires k)), refl)

pub count_one-requires : goal.count_one-requires
count_one-requires c =
    let l = c.loop-answer in
    omega (arith, l.invariant.1 (get_or c.args.told.now l.answer-index 0))

pub loop-answer-preserved : goal.loop-answer-preserved
loop-answer-preserved c =
    let l = c.loop-answer in
    let told = c.args.told.now in
    let more : l.answer-index < length told = c.loop-answer-test.true in
    let new = c.count_one.ensures in (
      c.count_one.auto.table ∙ l.invariant.0,
      (λ k. omega (arith, ap (λ t. get_or t k 0) new, bumped_most l.table (get_or told l.answer-index 0) k, l.invariant.1 k)),
      ap (λ t. counted t (drop (l.answer-index + 1) told)) new ∙ counted_turn l.table told l.answer-index more ∙ l.invariant.2,
    )

pub shape_of-table : goal.shape_of-table
shape_of-table c = c.loop-answer.invariant.0

pub returns : goal.returns
returns c = let l = c.loop-answer in sym (counted_end l.table c.args.told.now l.answer-index (omega arith)) ∙ l.invariant.2
