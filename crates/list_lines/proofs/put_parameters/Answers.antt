use mathlib.Core.Path.{refl, ◌∙◌}
use native.Mathlib.Omega.{arith}
use mir.Syntax.{w64}
use mir.ValLaws.{to_z-of_z}
use borrow.Author.Rules.{rules}
use Rattle.num_whole.specs.Lists.{rest}
use Rattle.arc_heading.specs.Judge.{labels_of}
use Rattle.num_packed.proofs.Places.{tri_within}
use Rattle.take_state.proofs.Rooms.{place_small}
use Rattle.list_lines.proofs.Laws.{row_laid, lines_turn, lines_end, parameters_turn, parameters_end}
use Rattle.list_lines.proofs.put_parameters.Goals as goal

pub loop-i-init : goal.loop-i-init
unfolding labels_of rest
loop-i-init c = (search rules, c.well_formed.1.1.0.1.1.1.1.1.0.1.0.1, refl, refl)

pub offset_bounds-matrix-k : goal.offset_bounds-matrix-k
offset_bounds-matrix-k c = record { fits = omega (arith, c.place-k.ensures, place_small c.loop-i.i (omega arith)) }

pub bounds-matrix-k : goal.bounds-matrix-k
bounds-matrix-k c = omega (arith, c.place-k.ensures, tri_within _ _ c.loop-i-test.true)

pub loop-i-preserved : goal.loop-i-preserved
loop-i-preserved c =
    let more = c.loop-i-test.true in
    let l = c.loop-i in
    let a = c.args in
    let line = row_laid l.room l.at _ a.matrix.now a.rights.now l.i _ c.place-k.ensures
    (to_z-of_z w64 _ (search rules)) (to_z-of_z w64 _ (search rules)) c.put_parameter-at.ensures in (
      omega (arith, more),
      l.invariant.1,
      c.put_parameter-at.auto.room ∙ l.invariant.2,
      lines_turn _ _ _ _ line (parameters_turn a.matrix.now a.rights.now a.t.marks _ _ l.i (omega (arith, c.requires.0, l.invariant.1)) more) l.invariant.3,
    )

pub returns : goal.returns
returns c = lines_end _ _ c.min.ensures (parameters_end _ _ _ _ _ _ (omega arith)) c.loop-i.invariant.3
