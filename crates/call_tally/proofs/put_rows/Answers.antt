use native.Mathlib.Omega.{arith}
use Prim.Native.Nat.{◌-◌}
use mathlib.Core.Path.{◌≡◌, refl, sym, ap, ◌∙◌}
use lib.ListN.{length}
use Rattle.num_whole.specs.Lists.{rest}
use Rattle.byte_words.specs.Words.{lay}
use Rattle.byte_words.proofs.Words.{length_lay}
use Rattle.byte_section.specs.Section.{encoded}
use Rattle.take_tally.specs.Tally.{no_row}
use Rattle.call_tally.specs.Tally.{row_bytes}
use Rattle.call_tally.proofs.Bytes.{row_long}
use Rattle.call_tally.proofs.Loops.{rest_whole, lay_end, lay_turn, long_end, long_turn}
use borrow.Author.Rules.{rules}
use Rattle.call_tally.proofs.put_rows.Goals as goal

pub loop-i-init : goal.loop-i-init
loop-i-init c =
    let long : length c.args.t.rows ≡ 16 = c.well_formed.0.1.1.1.1.0.1.0.1 in
    let bytes : length (encoded row_bytes c.args.t.rows) ≡ length (encoded row_bytes (rest c.args.t.rows 16 0)) =
    ap (λ l. length (encoded row_bytes l)) (rest_whole _ 16 long) in
    (search rules, long, refl, omega arith, ap (λ l. lay c.args.out.now 72 (encoded row_bytes l)) (rest_whole _ 16 long), omega (arith, bytes))

pub loop-i-preserved : goal.loop-i-preserved
loop-i-preserved c =
    let e = c.put_row.ensures.0 in
    let inv = c.loop-i.invariant in (
      search rules,
      search rules,
      rw e (length_lay _ _ _ ∙ inv.2),
      search rules,
      rw e (inv.4 ∙ lay_turn _ _ _ _ _ _ no_row 80 (omega arith) (omega arith) (row_long _ c.put_row.ensures.1)),
      long_turn row_bytes 80 _ _ _ _ inv.5 no_row (omega arith) (omega arith) (row_long _ c.put_row.ensures.1),
    )

pub returns : goal.returns
returns c =
    let inv = c.loop-i.invariant in (
      sym (inv.4 ∙ lay_end _ _ _ _ _ _ (omega arith)),
      long_end row_bytes 80 _ _ _ _ inv.5 (omega arith) ∙ omega arith,
    )
