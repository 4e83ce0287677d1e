use Prim.Native.Nat.{◌-◌}
use native.Mathlib.Omega.{arith}
use mathlib.Core.Path.{sym, ◌∙◌}
use Rattle.arc_limits.specs.Limits.{no_station}
use Rattle.byte_words.proofs.Stands.{put_end, put_turn}
use Rattle.call_tally.proofs.Loops.{fill_start}
use borrow.Author.Rules.{rules}
use Rattle.call_heading.proofs.stations_in.Goals as goal

pub loop-i-init : goal.loop-i-init
loop-i-init c = (search rules, search rules, fill_start _ _ _ _ no_station 16 c.requires.1)

pub loop-i-preserved : goal.loop-i-preserved
loop-i-preserved c =
    (search rules, search rules, rw c.load_station.ensures (sym (put_turn _ _ _ _ _ _ (omega arith)) ∙ c.loop-i.invariant.2))

pub returns : goal.returns
returns c = sym (put_end _ _ _ _ _ _ (omega arith)) ∙ c.loop-i.invariant.2
