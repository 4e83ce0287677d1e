-- `arc_record::decode` meets its contract.
use mathlib.Core.Path.{ap, ◌∙◌}
use lib.Ieee.{binary64, of_bits}
use Rattle.arc_record.specs.Record.{record_in}
use Rattle.arc_record.proofs.decode.Goals as goal

pub returns : goal.returns
unfolding record_in
returns c =
    λ i. record {
      station = c.read_u16.ensures i;
      sigma = c.read_u16-2.ensures i;
      kind = c.read_u32.ensures i;
      day = c.read_u32-2.ensures i;
      ms = c.read_u32-3.ensures i;
      observed = (c.double_of_bits.ensures ∙ ap (of_bits binary64) c.read_u64.ensures) i;
      computed = (c.double_of_bits-2.ensures ∙ ap (of_bits binary64) c.read_u64-2.ensures) i;
    }
