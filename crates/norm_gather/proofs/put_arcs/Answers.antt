use mathlib.Core.Path.{◌≡◌, refl, sym, ap, ◌∙◌}
use Prim.Native.Nat.{ℕ, ◌+◌, ◌-◌, ◌*◌}
use native.Mathlib.Nat.{sub-zero}
use native.Mathlib.Omega.{arith}
use lib.ListN.{length}
use Rattle.byte_words.specs.Words.{word, bytes_of, lay}
use Rattle.byte_words.specs.Stands.{stands}
use Rattle.byte_words.proofs.Words.{length_lay}
use Rattle.byte_section.specs.Section.{encoded}
use Rattle.norm_kinds.specs.Kinds.{arc_number_bytes}
use Rattle.norm_kinds.proofs.Records.{length_arc}
use Rattle.norm_gather.proofs.Writing.{stands_end, stands_turn}
use Rattle.norm_gather.proofs.put_arcs.Goals as goal

pub loop-i-init : goal.loop-i-init
loop-i-init c = (refl, rw sub-zero)

pub loop-i-preserved : goal.loop-i-preserved
unfolding arc_number_bytes
loop-i-preserved c =
    let l = c.loop-i in
    let at : ℕ = 4 + 4 * l.i in
    let next : 4 + 4 * (l.i + 1) ≡ at + 4 = omega arith in
    let e : c.write_u32.new.s ≡ lay l.out at (bytes_of 4 (word 4 c.args.s.now at)) =
    c.write_u32.ensures ∙ ap (λ v. lay l.out at (bytes_of 4 v)) c.read_u32-a.ensures in (
      ap length e ∙ length_lay _ _ _ ∙ l.invariant.0,
      rw next
          (l.invariant.1 ∙ stands_turn arc_number_bytes 4 length_arc l.out at (word 4 c.args.s.now) c.args.n l.i 4 at (omega arith)
          ∙ ap (λ o. lay o (at + 4) (encoded arc_number_bytes (stands (word 4 c.args.s.now) 4 (c.args.n - (l.i + 1)) (at + 4)))) (sym e)),
    )

pub returns : goal.returns
returns c =
    let l = c.loop-i in
    let at : ℕ = 4 + 4 * l.i in
    sym (l.invariant.1 ∙ stands_end arc_number_bytes 4 length_arc l.out at (word 4 c.args.s.now) c.args.n l.i 4 at (omega arith))
