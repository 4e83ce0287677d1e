-- `merge_read::label_at` meets its contract.
use Prim.Native.Nat.{◌+◌, ◌-◌}
use mathlib.Core.Path.{◌∙◌}
use native.Mathlib.Omega.{arith}
use Rattle.merge_read.proofs.Compared.{label_part}
use Rattle.merge_read.proofs.label_at.Goals as goal

pub returns : goal.returns
returns c = c.load_label.ensures ∙ label_part c.args.s.now c.args.at (c.args.at + 24 - c.args.at) (omega arith)
