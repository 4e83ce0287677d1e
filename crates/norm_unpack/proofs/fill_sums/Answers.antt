use mathlib.Core.Path.{◌≡◌, refl, sym, ap, ◌∙◌}
use Prim.Native.Nat.{ℕ, ◌+◌, ◌-◌, ◌*◌}
use native.Mathlib.Nat.{sub-zero, add-zero}
use native.Mathlib.Omega.{arith}
use borrow.Author.Rules.{rules}
use lib.ListN.{set, length-set}
use lib.Seq.{sets}
use mir.Syntax.{w64}
use mir.ValLaws.{to_z-of_z}
use Rattle.byte_words.specs.Words.{signed_word}
use Rattle.norm_sum.specs.Sums.{sums_at}
use Rattle.byte_words.proofs.Stands.{put_end, put_turn}
use Rattle.norm_unpack.proofs.fill_sums.Goals as goal

pub loop-i-init : goal.loop-i-init
loop-i-init c = (refl, rw (sub-zero, add-zero))

pub loop-i-preserved : goal.loop-i-preserved
loop-i-preserved c =
    let l = c.loop-i in
    let s = c.args in
    let at : ℕ = s.start + 8 * l.i in
    let next : s.start + 8 * (l.i + 1) ≡ at + 8 = omega arith in
    let x = to_z-of_z w64 c.sum_from.result (search rules) ∙ c.sum_from.ensures in (
      length-set l.out l.i _ ∙ l.invariant.0,
      rw next
          (l.invariant.1 ∙ put_turn (signed_word w64 s.s.now) 8 l.out s.n l.i at (omega arith)
          ∙ ap (λ v. sets (set l.out l.i v) (l.i + 1) (sums_at s.s.now (at + 8) (s.n - (l.i + 1)))) (sym x)),
    )

pub returns : goal.returns
returns c = sym (c.loop-i.invariant.1 ∙ put_end _ _ _ _ _ _ (omega arith))
