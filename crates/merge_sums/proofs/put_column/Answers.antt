use mathlib.Core.Path.{◌≡◌, refl, sym, ap, ap₂, ◌∙◌}
use Prim.Native.Nat.{ℕ, ◌+◌, ◌*◌}
use native.Mathlib.Nat.{add-zero}
use native.Mathlib.Omega.{arith}
use borrow.Author.Rules.{rules}
use lib.IntN.{pos}
use lib.ListN.{length, get_or, drop}
use mir.Syntax.{w64}
use mir.ValLaws.{to_z-of_z}
use Rattle.byte_words.specs.Words.{lay, signed_bytes}
use Rattle.byte_words.proofs.Words.{length_lay}
use Rattle.merge_sums.proofs.Writing.{bytes_in}
use Rattle.merge_sums.proofs.Both.{bytes_end, bytes_turn}
use Rattle.merge_sums.proofs.put_column.Goals as goal

pub loop-i-init : goal.loop-i-init
loop-i-init c = (refl, rw add-zero)

pub loop-i-preserved : goal.loop-i-preserved
loop-i-preserved c =
    let l = c.loop-i in
    let x = get_or c.args.col.now l.i (pos 0) in
    let at : ℕ = c.args.at + 8 * l.i in
    let next : c.args.at + 8 * (l.i + 1) ≡ at + 8 = omega arith in
    let e : c.put_sum.new.out ≡ lay l.out at (signed_bytes w64 x) =
    c.put_sum.ensures ∙ ap₂ (λ p z. lay l.out p (signed_bytes w64 z)) (omega arith) (to_z-of_z w64 x (search rules)) in (
      ap length e ∙ length_lay _ _ _ ∙ l.invariant.0,
      rw next (l.invariant.1 ∙ bytes_turn l.out at c.args.col.now l.i (omega arith) ∙ ap (λ o. lay o (at + 8) (bytes_in (drop (l.i + 1) c.args.col.now))) (sym e)),
    )

pub returns : goal.returns
returns c =
    let l = c.loop-i in
    sym (l.invariant.1 ∙ bytes_end l.out (c.args.at + 8 * l.i) c.args.col.now l.i (omega arith))
