-- `norm_judge::sums_fit` meets its contract: the rooms' parts that hold the sums are walked over.
use native.Mathlib.Omega.{arith}
use mathlib.Core.Path.{◌≡◌, sym, ◌∙◌}
use lib.ListN.{length, take}
use lib.Seq.{length-take-le}
use Rattle.norm_judge.proofs.Sums.{sums_in}
use Rattle.norm_judge.proofs.sums_fit.Goals as goal

pub slice_bounds-sums_sound-end : goal.slice_bounds-sums_sound-end
slice_bounds-sums_sound-end c = sym (length-take-le _ _ (omega (arith, c.triangle-sums.ensures.0)))

pub slice_bounds-sums_sound-end-2 : goal.slice_bounds-sums_sound-end-2
slice_bounds-sums_sound-end-2 c = sym (length-take-le _ _ (omega arith))

pub sums_sound-requires : goal.sums_sound-requires
sums_sound-requires c =
    let sums = c.triangle-sums in
    let m : length (take sums.result c.args.matrix.now) ≡ sums.result = length-take-le _ _ (omega (arith, sums.ensures.0)) in
    let r : length (take c.args.p c.args.rights.now) ≡ c.args.p = length-take-le _ _ (omega arith) in
    (c.requires.arcs, c.requires.parameters, omega (arith, sums.ensures.0), omega arith)

pub returns : goal.returns
returns c = (rw c.triangle-sums.ensures.0 at c.sums_sound.ensures) ∙ sums_in _ _ _ _ _ (omega arith)
