use mathlib.Core.Path.{◌≡◌, refl, sym, ap, ◌∙◌}
use mathlib.Core.List.{map}
use Prim.Native.Nat.{◌+◌, ◌*◌}
use native.Mathlib.Nat.{add-zero}
use native.Mathlib.Omega.{arith}
use Rattle.num_whole.specs.Lists.{rest}
use Rattle.num_whole.proofs.Walks.{rest_end, rest_more}
use Rattle.byte_words.proofs.Words.{length_lay}
use Rattle.byte_section.proofs.Laid.{laid_none, laid_one}
use Rattle.arc_limits.specs.Limits.{no_label}
use Rattle.arc_heading.specs.Judge.{labels_of}
use Rattle.norm_kinds.specs.Kinds.{normal_label_bytes}
use Rattle.norm_kinds.proofs.Records.{length_label}
use Rattle.norm_put.proofs.Laid.{section_laid}
use Rattle.norm_state.proofs.Laid.{labels_long}
use Rattle.norm_state.specs.OfState.{label_of_arc}
use Rattle.norm_state.proofs.put_labels.Goals as goal

pub loop-i-init : goal.loop-i-init
unfolding labels_of rest
loop-i-init c = (c.well_formed.0.1.1.1.1.1.0.1.0.1, refl, rw add-zero)

pub loop-i-preserved : goal.loop-i-preserved
loop-i-preserved c =
    let l = c.loop-i in
    let e = c.put_label.ensures in
    let next : c.args.start + 4 + 24 * (l.i + 1) ≡ c.args.start + 4 + 24 * l.i + 24 = omega arith in (
      l.invariant.0,
      rw e (length_lay _ _ _ ∙ l.invariant.1),
      rw (e, next) (l.invariant.2 ∙ laid_one normal_label_bytes _ length_label _ _ (ap (map _) (rest_more _ _ _ no_label (omega arith) (omega arith)))),
    )

pub returns : goal.returns
returns c =
    let l = c.loop-i in
    let h = c.args.h in
    let none = ap (map (label_of_arc h.settings.arc)) (rest_end h.labels h.parameters l.i (omega arith)) in
    sym (l.invariant.2 ∙ laid_none normal_label_bytes _ length_label _ _ none)
    ∙ section_laid normal_label_bytes _ _ _ _ _ c.write_u32.ensures (labels_long h (omega (arith, l.invariant.0)))
