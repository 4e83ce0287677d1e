-- `part_place::open_at` meets its contract: a length past the room is as all of it.
use native.Mathlib.Omega.{arith}
use mathlib.Core.Path.{◌≡◌, sym, ap, ◌∙◌}
use lib.ListN.{length, take}
use lib.Seq.{length-take-le}
use Rattle.part_laws.specs.Beginning.{opened}
use Rattle.part_place.proofs.Looks.{least_take, opens_within}
use Rattle.part_place.proofs.open_at.Goals as goal

pub slice_bounds-kept-end : goal.slice_bounds-kept-end
slice_bounds-kept-end c = omega (arith, c.least-len.ensures, c.well_formed.0.1.1.0.1.0.1)

pub slice_bounds-open-end : goal.slice_bounds-open-end
slice_bounds-open-end c = sym (length-take-le _ _ (slice_bounds-kept-end c.before))

pub returns : goal.returns
returns c =
    let p = c.args.p in
    let n = c.least-len in
    let fit = slice_bounds-open-end c.before in
    record {
      told = c.open.ensures.opened ∙ ap opened (ap (λ k. take k p.kept) n.ensures ∙ least_take p.length 1088 p.kept c.well_formed.0.1.1.0.1.0.1);
      fits = opens_within c.open.result _ (omega (arith, fit, n.ensures)) c.open.ensures.fits;
    }
