use mathlib.Core.Path.{◌≡◌, refl, sym, ap, ◌∙◌}
use Prim.Native.Nat.{◌+◌, ◌*◌}
use native.Mathlib.Nat.{add-zero, sub-zero}
use native.Mathlib.Omega.{arith}
use lib.ListN.{length-set}
use Rattle.norm_system.specs.System.{key_of}
use Rattle.merge_read.specs.Read.{key_at, keys_at}
use Rattle.byte_words.proofs.Stands.{load_end, load_turn}
use Rattle.merge_read.proofs.load_keys.Goals as goal

pub loop-i-init : goal.loop-i-init
unfolding keys_at
loop-i-init c = (refl, rw (sub-zero, add-zero))

pub loop-i-preserved : goal.loop-i-preserved
unfolding key_at
loop-i-preserved c =
    let l = c.loop-i in
    let next : c.args.start + 24 * (l.i + 1) ≡ c.args.start + 24 * l.i + 24 = omega arith in (
      length-set l.keys l.i _ ∙ l.invariant.0,
      rw next (l.invariant.1 ∙ load_turn _ _ l.keys _ l.i _ c.label_key-k.result (omega arith) (c.label_key-k.ensures.0 ∙ ap key_of c.label_at-l.ensures)),
    )

pub returns : goal.returns
returns c = sym (c.loop-i.invariant.1 ∙ load_end _ _ _ _ _ _ (omega arith))
