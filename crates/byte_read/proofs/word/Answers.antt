use Rattle.std.proofs.Common.{length, length-drop, ◌+◌, ◌-◌, ◌≤◌, ◌∙◌, refl, arith, ap}
use Rattle.byte_words.proofs.Words.{pow_256}
use Rattle.byte_read.proofs.Ends.{word_whole, word_short}
use Rattle.byte_read.proofs.word.Goals as goal

pub returns-then-left-clause-value : goal.returns-then-left-clause-value
returns-then-left-clause-value g c =
    let a = c.args in
    let few : length c.rest.result.now ≤ g.row.K = omega (arith, ap length c.rest.ensures, length-drop a.at a.s.now) in
    c.number.ensures.value ∙ word_short g.row.K a.s.now c.rest.result.now a.at c.rest.ensures few

pub returns-then-left-clause-small : goal.returns-then-left-clause-small
returns-then-left-clause-small g c =
    let a = c.args in
    let few : length c.rest.result.now ≤ g.row.K = omega (arith, ap length c.rest.ensures, length-drop a.at a.s.now) in
    omega (arith, c.number.ensures.small, pow_256 (length c.rest.result.now) g.row.K few)

pub returns-else-left-clause-value : goal.returns-else-left-clause-value
returns-else-left-clause-value g c =
    let a = c.args in
    c.number-else-left.ensures.value ∙ word_whole g.row.K (a.at + g.row.K - a.at) a.s.now _ a.at (omega arith) refl (omega arith)
