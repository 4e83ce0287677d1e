-- `part_place::parameters_at` meets its contract: a length past the room is as all of it.
use native.Mathlib.Omega.{arith}
use mathlib.Core.Path.{◌≡◌, sym, ap, ◌∙◌}
use lib.ListN.{length, take}
use lib.Seq.{length-take-le}
use Rattle.part_laws.specs.Entries.{parameters_in}
use Rattle.part_place.proofs.Looks.{least_take}
use Rattle.part_place.proofs.parameters_at.Lts
use Rattle.part_place.proofs.parameters_at.Reads
use Rattle.part_place.proofs.parameters_at.Tie
use Rattle.part_place.proofs.parameters_at.Goals as goal

-- the facts known at one place of the code
abbrev At-After-least-len : Type 0
At-After-least-len = Lts.After-least Tie.the-claims Reads.Pre Reads.Post

long : (c : At-After-least-len) → length c.args.p.kept ≡ 1088
long c = c.well_formed.0.1.1.0.1.0.1

pub slice_bounds-kept-end : goal.slice_bounds-kept-end
slice_bounds-kept-end c = omega (arith, c.least-len.ensures, long c)

pub slice_bounds-parameters_in-end : goal.slice_bounds-parameters_in-end
slice_bounds-parameters_in-end c = sym (length-take-le _ _ (slice_bounds-kept-end c.before))

pub returns : goal.returns
returns c =
    let p = c.args.p in
    let n = c.least-len in
    c.parameters_in.ensures ∙ ap parameters_in (ap (λ k. take k p.kept) n.ensures ∙ least_take p.length 1088 p.kept (long c.before.before))
