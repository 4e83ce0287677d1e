-- `call_heading::heading_in` meets its contract: each part is what stands at its place.
use Rattle.call_heading.specs.Lent.{heading_in}
use Rattle.call_heading.proofs.heading_in.Goals as goal

pub returns : goal.returns
unfolding heading_in
returns c =
    rw (
      c.read_u16-2.ensures,
      c.read_u16.ensures,
      c.load_settings.ensures,
      c.stations_in.ensures,
      c.labels_in.ensures,
      c.held-m.ensures,
      c.held-n.ensures,
    )
