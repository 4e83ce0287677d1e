-- `norm_state::put_labels` meets its contract. The loop's invariant: the bytes of the labels left, laid at the place, make the whole.
use mathlib.Core.Path.{◌≡◌}
use mathlib.Core.List.{map}
use Prim.Native.Nat.{◌+◌, ◌*◌}
use lib.ListN.{length}
use Rattle.num_whole.specs.Lists.{rest}
use Rattle.byte_words.specs.Words.{lay}
use Rattle.byte_section.specs.Section.{encoded}
use Rattle.arc_heading.specs.Judge.{labels_of}
use Rattle.norm_kinds.specs.Kinds.{normal_label_bytes}
use Rattle.norm_state.specs.OfState.{label_of_arc}
use Rattle.norm_state.proofs.put_labels.Given as goal

abbrev pub invariant-loop-i : goal.invariant-loop-i
invariant-loop-i l =
    (length l.h.labels ≡ 50)
    × (length l.out ≡ length l.initial.out)
    × (lay l.initial.out (l.start + 4) (encoded normal_label_bytes (map (label_of_arc l.h.settings.arc) (labels_of l.h))) ≡ lay l.out (l.start + 4 + 24 * l.i) (encoded normal_label_bytes (map (label_of_arc l.h.settings.arc) (rest l.h.labels l.h.parameters l.i))))
