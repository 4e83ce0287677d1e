-- `norm_heads::read_parameters` meets its contract: the arcs are those of the file.
use native.Mathlib.Omega.{arith}
use mathlib.Core.Path.{sym, ap, ◌∙◌}
use lib.Seq.{length-take-le}
use Rattle.byte_section.specs.Section.{section_at}
use Rattle.norm_kinds.specs.Kinds.{fielded_kind, is_small_form}
use Rattle.byte_section.specs.Told.{span_of}
use Rattle.norm_heads.proofs.read_parameters.Goals as goal

pub slice_bounds-read_labels-end : goal.slice_bounds-read_labels-end
slice_bounds-read_labels-end c = sym (length-take-le _ _ (omega (arith, c.arcs_of-arcs.ensures.1)))

pub returns : goal.returns
returns c =
    let a = c.args in
    c.read_labels.ensures
    ∙ ap (λ l. span_of (section_at (fielded_kind (is_small_form a.s.now a.at) l) a.s.now 1 500 a.at)) c.arcs_of-arcs.ensures.0
