-- `Record::load` of a station meets its contract: the zero field and then the others decide.
use Prim.Native.Nat.{◌+◌}
use mathlib.Core.Path.{◌≡◌, sym, ap, ◌∙◌}
use native.Mathlib.Omega.{arith}
use borrow.Author.Tests.{ne_eqb}
use Rattle.std.specs.Bool.{then_some}
use Rattle.byte_words.specs.Words.{word}
use Rattle.num_whole.proofs.Cases.{holds, fails, is_same, not_same}
use Rattle.arc_limits.specs.Limits.{station_ok}
use Rattle.arc_kinds.specs.Kinds.{station_at, station_at_ok}
use Rattle.arc_kinds.proofs.StationRecord.load.Goals as goal
use Rattle.arc_kinds.proofs.StationRecord.load.Goals.{then-zero-eq0, else-zero-eq0}

pub returns : goal.returns
unfolding station_at_ok
returns c =
    let zero : word 2 c.args.s.now (c.args.at + 2) ≡ c.read_u16-zero.result = ap (word 2 c.args.s.now) (omega arith) ∙ sym c.read_u16-zero.ensures in
    let decided : c.if-zero-eq0.then_some ≡ station_at_ok c.args.s.now c.args.at =
    elim c.if-zero-eq0.branch [
      | then-zero-eq0 w ↦ w.then_some-is ∙ holds _ _ (is_same _ _ (zero ∙ w.if-zero-eq0.true)) (w.station_ok.ensures ∙ ap station_ok c.load_station-t.ensures)
      | else-zero-eq0 w ↦ w.then_some-is ∙ ne_eqb _ _ w.if-zero-eq0.false ∙ fails _ _ (not_same _ _ (λ e. w.if-zero-eq0.false (sym zero ∙ e)))
    ] in
    rw (c.then_some.ensures, c.load_station-t.ensures) (ap (λ b. then_some b (station_at c.args.s.now c.args.at)) decided)
