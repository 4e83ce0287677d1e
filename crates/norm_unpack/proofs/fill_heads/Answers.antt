-- `norm_unpack::fill_heads` meets its contract: the arcs, the labels and the totals one after the other.
use native.Mathlib.Omega.{arith}
use lib.ListN.{length-set}
use Rattle.norm_unpack.proofs.Laid.{heads_laid}
use borrow.Author.Rules.{rules}
use Rattle.norm_unpack.proofs.fill_heads.Goals as goal

pub bounds-heads-k-2 : goal.bounds-heads-k-2
bounds-heads-k-2 c = simp length-set (omega arith)

pub shape_of-heads : goal.shape_of-heads
shape_of-heads c = simp length-set (search rules)

pub returns : goal.returns
returns c = rw (c.fill_labels.ensures, c.load_arcs.ensures) (heads_laid _ _ _ _ _ _ _ c.read_u64.ensures c.read_u64-2.ensures)
