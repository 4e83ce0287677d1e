-- `norm_state::put_label` meets its contract: a label of the old form.
use mir.Syntax.{w64}
use mir.ValLaws.{to_z-of_z}
use Rattle.norm_kinds.proofs.Records.{old_fielded}
use Rattle.norm_state.specs.OfState.{label_of_arc}
use Rattle.norm_state.proofs.put_label.Goals as goal

pub returns : goal.returns
unfolding label_of_arc
returns c =
    let l = c.args.l in
    let back = to_z-of_z w64 l.estimate (record { sfits = c.struct_told-1.given.1.1.1.0.1 }) in
    rw (c.put_label.ensures, c.arc_for.ensures, back, old_fielded _)
