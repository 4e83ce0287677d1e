use native.Mathlib.Omega.{arith}
use mathlib.Core.Path.{refl, sym, ap, ◌∙◌}
use mir.Syntax.{w16}
use mir.ValLaws.{to_z-of_z}
use Prim.Native.Nat.{◌+◌, ◌-◌}
use lib.ListN.{length, set, length-set}
use lib.Seq.{sets}
use borrow.Author.Rules.{rules}
use Rattle.arc_record.specs.Record.{partials_from}
use Rattle.arc_record.proofs.Fills.{fill_start, fill_turn, fill_end}
use Rattle.arc_record.proofs.read_partials.Goals as goal

pub loop-i-init : goal.loop-i-init
loop-i-init c = (omega arith, refl, refl, fill_start c.args.bytes.now (length c.args.out.now) 0 32 c.args.out.now refl)

pub loop-i-preserved : goal.loop-i-preserved
loop-i-preserved c =
    let l = c.loop-i in
    let x = to_z-of_z w16 c.read_i16.result (search rules) ∙ c.read_i16.ensures in
    (omega arith, rw length-set l.invariant.1, omega arith, ap (λ v. sets (set l.out l.i v) (l.i + 1) (partials_from (length c.args.out.now - (l.i + 1)) c.args.bytes.now (l.at + 2))) x ∙ sym (fill_turn c.args.bytes.now (length c.args.out.now) l.i l.at l.out (omega arith)) ∙ l.invariant.3)

pub shape_of-out : goal.shape_of-out
shape_of-out c = c.loop-i.invariant.1

pub returns : goal.returns
returns c = sym (fill_end _ _ _ _ _ (omega arith)) ∙ c.loop-i.invariant.3
