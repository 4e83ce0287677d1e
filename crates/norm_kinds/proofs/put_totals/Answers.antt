-- `norm_kinds::put_totals` meets its contract: its count and the two totals are laid one after the other.
use mathlib.Core.Path.{◌∙◌}
use native.Mathlib.Omega.{arith}
use Rattle.byte_words.proofs.Words.{lay_append, length_bytes_of}
use Rattle.norm_kinds.proofs.put_totals.Goals as goal

pub returns : goal.returns
returns c =
    rw (c.write_u64-2.ensures, c.write_u64.ensures, c.write_u32.ensures)
    (lay_append _ _ _ _ _ (simp length_bytes_of (omega arith)) ∙ lay_append _ _ _ _ _ (simp length_bytes_of))
