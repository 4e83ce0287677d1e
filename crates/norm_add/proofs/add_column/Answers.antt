use mathlib.Core.Path.{◌≡◌, refl, ap, ◌∙◌}
use Prim.Native.Nat.{◌<◌, ◌+◌, ◌*◌}
use native.Mathlib.Omega.{arith}
use borrow.Author.Rules.{rules}
use lib.IntN.{pos, ◌+ℤ◌}
use lib.ListN.{length, get_or, set, length-set}
use mir.Syntax.{w64}
use mir.ValLaws.{to_z-of_z}
use Rattle.byte_words.specs.Words.{signed_word}
use Rattle.norm_add.proofs.Scatter.{scatter_starts, scatter_small, scatter_turn, scatter_ends}
use Rattle.norm_add.proofs.add_column.Goals as goal

pub loop-i-init : goal.loop-i-init
loop-i-init c = (refl, scatter_starts c.args.s.now c.args.c.base c.args.t.now c.args.part.now)

pub add_at-requires : goal.add_at-requires
add_at-requires c =
    let l = c.loop-i in
    let x = c.sum_from-x in
    let there : get_or c.args.t.now l.i 0 < length c.args.part.now = c.requires.t_value.1 l.i (omega arith) in record {
      k_in_bounds = omega (arith, l.invariant.0);
      x_bound = rw (to_z-of_z w64 x.result (search rules), x.ensures)
          (omega (
            arith,
            c.requires.addable.fits,
            c.requires.addable.sums_within l.i (omega arith),
            scatter_small c.args.s.now c.args.c.base c.args.t.now c.args.part.now c.requires.t_value.0 l.part l.i l.invariant.0 (omega arith) there l.invariant.1 c.requires.addable.target_bound c.requires.addable.target_within,
          ));
    }

pub loop-i-preserved : goal.loop-i-preserved
loop-i-preserved c =
    let l = c.loop-i in
    let x = c.sum_from-x in
    let there : get_or c.args.t.now l.i 0 < length c.args.part.now = c.requires.t_value.1 l.i (omega arith) in
    let k = get_or c.args.t.now l.i 0 in
    let e : c.add_at.new.part ≡ set l.part k (get_or l.part k (pos 0) +ℤ signed_word w64 c.args.s.now (c.args.c.base + 8 * l.i)) =
    c.add_at.ensures
    ∙ ap (λ z. set l.part k (get_or l.part k (pos 0) +ℤ z)) (to_z-of_z w64 x.result (search rules) ∙ x.ensures) in (
      ap length e ∙ length-set l.part k _ ∙ l.invariant.0,
      scatter_turn c.args.s.now c.args.c.base c.args.t.now c.args.part.now c.requires.t_value.0 l.part l.i l.invariant.0 (omega arith) there l.invariant.1 _ e,
    )

pub returns : goal.returns
returns c =
    let l = c.loop-i in
    scatter_ends c.args.s.now c.args.c c.args.t.now c.args.part.now l.part l.i (omega arith) l.invariant.0 l.invariant.1
