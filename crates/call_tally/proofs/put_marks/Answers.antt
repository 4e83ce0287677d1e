use native.Mathlib.Omega.{arith}
use Prim.Native.Nat.{◌-◌}
use mathlib.Core.Path.{◌≡◌, refl, sym, ap, ◌∙◌}
use lib.ListN.{length}
use Rattle.byte_words.specs.Words.{lay, bytes_of}
use Rattle.byte_words.proofs.Words.{length_lay, length_bytes_of}
use Rattle.byte_section.specs.Section.{encoded}
use Rattle.call_tally.proofs.Loops.{rest_whole, lay_end, lay_turn}
use borrow.Author.Rules.{rules}
use Rattle.call_tally.proofs.put_marks.Goals as goal

pub loop-i-init : goal.loop-i-init
loop-i-init c =
    let long : length c.args.marks ≡ 50 = search rules in
    (search rules, long, refl, omega arith, ap (λ l. lay c.args.out.now 1352 (encoded (bytes_of 2) l)) (rest_whole _ 50 long))

pub loop-i-preserved : goal.loop-i-preserved
loop-i-preserved c =
    let e = c.write_u16.ensures in
    let inv = c.loop-i.invariant in (
      search rules,
      search rules,
      rw e (length_lay _ _ _ ∙ inv.2),
      search rules,
      rw e (inv.4 ∙ lay_turn _ _ _ _ _ _ 0 2 (omega arith) (omega arith) (length_bytes_of 2 _)),
    )

pub returns : goal.returns
returns c = sym (c.loop-i.invariant.4 ∙ lay_end _ _ _ _ _ _ (omega arith))
