use Rattle.std.proofs.Common.{◌-◌, refl, sym, arith, length}
use Rattle.byte_words.proofs.Words.{lay_out}
use Rattle.byte_write.proofs.Laid.{laid_whole, laid_short}
use Rattle.byte_write.proofs.write.Goals as goal

pub returns-then-at-s : goal.returns-then-at-s
returns-then-at-s g c =
    let a = c.args in
    laid_short g.row.K (length a.s.now - a.at) a.s.now c.put.new.room a.at a.number refl (omega arith) (omega arith) c.put.ensures

pub returns-else-at-s : goal.returns-else-at-s
returns-else-at-s g c = sym (lay_out _ _ _ (omega arith))

pub returns-else-left : goal.returns-else-left
returns-else-left g c =
    let a = c.args in
    laid_whole g.row.K _ a.s.now c.put-else-left.new.room a.at a.number (omega arith) (omega arith) c.put-else-left.ensures
