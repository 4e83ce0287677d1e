-- `list_lines::put_refused` meets its contract.
use Rattle.list_lines.specs.Lines.{refused_line}
use Rattle.list_lines.proofs.put_refused.Goals as goal

pub returns : goal.returns
unfolding refused_line
returns c = c.put_two.ensures
