use mathlib.Core.Path.{◌≡◌, refl, sym, ap, ◌∙◌}
use Prim.Native.Nat.{ℕ, ◌+◌, ◌-◌, ◌*◌}
use native.Mathlib.Nat.{sub-zero, add-zero}
use native.Mathlib.Omega.{arith}
use lib.ListN.{length}
use mir.Syntax.{w64}
use mir.ValLaws.{to_z-of_z}
use Rattle.byte_words.specs.Words.{lay}
use Rattle.byte_words.proofs.Words.{length_lay}
use Rattle.byte_section.specs.Section.{encoded}
use Rattle.norm_kinds.specs.Kinds.{sum_bytes}
use Rattle.norm_kinds.proofs.Records.{length_sum}
use Rattle.norm_labels.specs.Table.{rows_of}
use Rattle.norm_gather.specs.Gather.{side_gathered}
use Rattle.norm_gather.proofs.Writing.{rows_end, rows_turn}
use Rattle.norm_gather.proofs.put_gathered.Goals as goal

pub loop-i-init : goal.loop-i-init
loop-i-init c = (refl, rw (sub-zero, add-zero))

pub loop-i-preserved : goal.loop-i-preserved
unfolding side_gathered sum_bytes
loop-i-preserved c =
    let l = c.loop-i in
    let s = c.args in
    let f = side_gathered s.s.now s.c s.u.now in
    let at : ℕ = s.at + 8 * l.i in
    let next : s.at + 8 * (l.i + 1) ≡ at + 8 = omega arith in
    let e : c.put_sum.new.out ≡ lay l.out at (sum_bytes (f l.i)) =
    c.put_sum.ensures ∙ ap (λ v. lay l.out at (sum_bytes v)) (to_z-of_z w64 c.held_at-x.result (record { sfits = c.held_at-x.type_inv }) ∙ c.held_at-x.ensures) in (
      ap length e ∙ length_lay _ _ _ ∙ l.invariant.0,
      rw next
          (l.invariant.1 ∙ rows_turn sum_bytes 8 length_sum l.out at f s.count l.i (omega arith)
          ∙ ap (λ o. lay o (at + 8) (encoded sum_bytes (rows_of f (l.i + 1) (s.count - (l.i + 1))))) (sym e)),
    )

pub returns : goal.returns
returns c = sym (c.loop-i.invariant.1 ∙ rows_end sum_bytes 8 length_sum _ _ _ _ _ (omega arith))
