-- `norm_unpack::fill_label` meets its contract: each value is the word at its place.
use mathlib.Core.Path.{◌∙◌}
use native.Mathlib.Omega.{arith}
use lib.ListN.{length-set}
use Rattle.norm_unpack.proofs.Laid.{label_laid}
use borrow.Author.Rules.{rules}
use Rattle.norm_unpack.proofs.fill_label.Goals as goal

pub bounds-heads-k-2 : goal.bounds-heads-k-2
bounds-heads-k-2 c = simp length-set (omega arith)

pub bounds-heads-k-3 : goal.bounds-heads-k-3
bounds-heads-k-3 c = simp length-set (omega arith)

pub bounds-heads-k-4 : goal.bounds-heads-k-4
bounds-heads-k-4 c = simp length-set (omega arith)

pub bounds-heads-k-5 : goal.bounds-heads-k-5
bounds-heads-k-5 c = simp length-set (omega arith)

pub returns : goal.returns
returns c =
    label_laid _ _ _ _ _ _ _ _ _ (c.from.ensures ∙ c.read_u16.ensures) (c.from-2.ensures ∙ c.read_u16-2.ensures) (c.from-3.ensures ∙ c.read_u32.ensures) (c.from-4.ensures ∙ c.read_u32-2.ensures) c.read_u64.ensures (record { fits = search rules })
