use borrow.Author.Rules.{rules}
use native.Mathlib.Omega.{arith}
use mathlib.Core.Path.{◌≡◌, refl, sym, ap, ◌∙◌}
use Prim.Native.Nat.{◌+◌, ◌*◌}
use native.Mathlib.Nat.{sub-zero}
use lib.ListN.{take, length-set}
use Rattle.byte_words.specs.Words.{word}
use Rattle.byte_words.proofs.Stands.{put_end, put_turn, put_all}
use Rattle.norm_heads.proofs.arcs_of.Goals as goal

pub loop-i-init : goal.loop-i-init
loop-i-init c = (search rules, refl, refl, rw sub-zero)

pub loop-i-preserved : goal.loop-i-preserved
loop-i-preserved c =
    let l = c.loop-i in
    let f = word 4 c.args.s.now in
    let place : 4 + 4 * l.i + 4 ≡ 4 + 4 * (l.i + 1) = omega arith in
    let turn = put_turn f 4 l.arcs c.args.n l.i (4 + 4 * l.i) (omega arith) in (
      search rules,
      refl,
      length-set l.arcs l.i c.read_u32.result ∙ l.invariant.2,
      rw (c.read_u32.ensures, ← place) (l.invariant.3 ∙ turn),
    )

pub returns : goal.returns
returns c =
    let done = c.loop-i.invariant.3 ∙ put_end (word 4 c.args.s.now) 4 c.loop-i.arcs c.args.n c.loop-i.i (4 + 4 * c.loop-i.i) (omega arith) in (
      ap (take c.args.n) (sym done) ∙ put_all (word 4 c.args.s.now) 4 c.args.n 4 _ (omega arith),
      sym c.loop-i.invariant.2,
    )
