-- Labels that were read fit their array.
-- Assumes nothing.
use Prim.Native.Nat.{ℕ, ◌+◌, ◌≤◌}
use mathlib.Core.Path.{◌≡◌, ap}
use mathlib.Core.List.{List}
use native.Mathlib.Omega.{arith}
use Rattle.num_whole.specs.Answer.{good}
use Rattle.byte_section.proofs.Walk.{good_same, then_read, counted, records_next}
use Rattle.arc_kinds.specs.Kinds.{label_kind}
use Rattle.arc_sections.specs.Sections.{labels_from, labels_part}
use Rattle.arc_sections.specs.declared.Labels.{Labels}

pub few_labels : (s : List ℕ) (at : ℕ) (b : Labels) → labels_part s at ≡ good b → b.count ≤ 50
unfolding labels_part labels_from
few_labels s at b e =
    let n = then_read _ _ _ e in
    let r = then_read _ _ _ n.2 in
    let most = (counted s at 1 50 n.0 n.1).to in
    let size = (records_next label_kind s n.0 (at + 4) 0 r.0 r.1).1 in
    omega (arith, ap (λ x. x.count) (good_same r.2))
