-- `merge_heads::put_arc` meets its contract: an arc is one word.
use Rattle.norm_kinds.specs.Kinds.{arc_number_bytes}
use Rattle.merge_heads.proofs.put_arc.Goals as goal

pub returns : goal.returns
unfolding arc_number_bytes
returns c = c.write_u32.ensures
