use mathlib.Core.Path.{◌≡◌, refl, sym, ◌∙◌}
use Prim.Native.Nat.{◌+◌, ◌*◌}
use native.Mathlib.Omega.{arith}
use lib.ListN.{length-set}
use Rattle.byte_words.proofs.Stands.{load_start, load_end, load_turn}
use Rattle.norm_heads.proofs.load_arcs.Goals as goal

pub loop-i-init : goal.loop-i-init
loop-i-init c = (omega arith, refl, load_start _ _ _ _ _)

pub loop-i-preserved : goal.loop-i-preserved
loop-i-preserved c =
    let l = c.loop-i in
    let place : 4 + 4 * (l.i + 1) ≡ 4 + 4 * l.i + 4 = omega arith in (
      omega arith,
      length-set l.arcs l.i _ ∙ l.invariant.1,
      rw place (l.invariant.2 ∙ load_turn _ _ l.arcs _ l.i _ c.from.result (omega arith) (c.from.ensures ∙ c.read_u32.ensures)),
    )

pub returns : goal.returns
returns c = sym (c.loop-i.invariant.2 ∙ load_end _ _ _ _ _ _ (omega arith))
