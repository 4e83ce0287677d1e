-- `take_rules::well_inside` meets its contract: a day starts at day·86,400,000 or later, by 27 seconds at the most.
use native.Mathlib.Omega.{arith}
use mathlib.Core.Path.{◌≡◌, sym, ◌∙◌}
use mathlib.Core.Bool.{Bool, true, ◌&&◌}
use Prim.Native.Nat.{ℕ, ◌+◌, ◌*◌}
use borrow.Author.Tests.{leb-true, ltb-true, le-leb, lt-ltb}
use lib.IntN.{ℤ, pos, negsuc}
use lib.Signed.{le_z, lt_z}
use mir.Syntax.{w64}
use mir.ValLaws.{to_z-of_z, to_z_pos}
use Rattle.num_whole.proofs.Cases.{apart}
use Rattle.days_leap.specs.Leap.{day_start}
use Rattle.days_leap.proofs.Days.{start_around}
use Rattle.take_rules.specs.Rules.{in_window}
use Rattle.take_rules.proofs.well_inside.Goals as goal

both_true : (a b : Bool) → a ≡ true → b ≡ true → (a && b) ≡ true
both_true a b p q = rw (p, q)

inside : (first days : ℕ) (t : ℤ) → le_z (pos (first * 86400000 + 27000)) t ≡ true → lt_z t (pos ((first + days) * 86400000)) ≡ true → in_window first days t ≡ true
unfolding in_window
inside first days (pos n) p q =
    both_true _ _
    (le-leb (day_start first) n (omega (arith, leb-true (first * 86400000 + 27000) n p, (start_around first).1)))
    (lt-ltb n (day_start (first + days)) (omega (arith, ltb-true n ((first + days) * 86400000) q, (start_around (first + days)).0)))
inside first days (negsuc n) p q = absurd (apart (sym p))

pub returns-then-from-t : goal.returns-then-from-t
returns-then-from-t c e =
    let a = c.args in
    let f = c.ranges.t in
    let begins : le_z (pos (a.first * 86400000 + 27000)) a.t ≡ true = rw (to_z_pos w64 (a.first * 86400000 + 27000) (omega arith), to_z-of_z w64 a.t f) at c.if-from-t.true in
    let ends : lt_z a.t (pos ((a.first + a.days) * 86400000)) ≡ true = rw (to_z-of_z w64 a.t f, to_z_pos w64 ((a.first + a.days) * 86400000) (omega arith)) at e in
    inside a.first a.days a.t begins ends

pub returns-else-from-t : goal.returns-else-from-t
returns-else-from-t c e = absurd (apart (sym e ∙ c.if-from-t.false))
