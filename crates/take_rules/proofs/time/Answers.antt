-- `take_rules::time` meets its contract: the sum is far within 64 bits.
use borrow.Author.Rules.{rules}
use native.Mathlib.Omega.{arith}
use mathlib.Core.Path.{◌≡◌, ap, ap₂, ◌∙◌}
use Prim.Native.Nat.{ℕ, ◌+◌, ◌≤◌}
use lib.IntN.{ℤ, pos, nat_abs, ◌+ℤ◌}
use mir.Syntax.{w32, w64}
use mir.Val.{SFits, to_z, of_z}
use mir.Facts.{sfits_widen}
use mir.ValLaws.{to_z-of_z, to_z_pos}
use Rattle.num_whole.proofs.Ints.{+-within, within_fits, fits_within}
use Rattle.days_leap.specs.Leap.{day_start, last_ms}
use Rattle.days_leap.specs.Parts.{start_most}
use Rattle.days_leap.proofs.Days.{last_between}
use Rattle.take_rules.specs.Rules.{time_of}
use Rattle.take_rules.proofs.time.Goals as goal

-- the two summands as the machine has them: the clock's time, from a start of the day, and the correction
module _ (day ms n : ℕ) (e : n ≡ day_start day) (low : n ≤ start_most) (inside : ms ≤ last_ms day) (k : ℤ) (fits : SFits w32 k) where
  clock_small : n + ms ≤ 4733769628000
  clock_small = omega (arith, low, inside, last_between day)

  wide : SFits w64 k
  wide = sfits_widen {w = w32} tt fits

  same : to_z w64 (n + ms) +ℤ to_z w64 (of_z w64 (to_z w32 (of_z w32 k))) ≡ pos (day_start day + ms) +ℤ k
  same =
      ap₂ (λ x y. x +ℤ y) (to_z_pos w64 (n + ms) (omega (arith, clock_small)) ∙ ap (λ m. pos (m + ms)) e)
      (ap (λ z. to_z w64 (of_z w64 z)) (to_z-of_z w32 k fits) ∙ to_z-of_z w64 k wide)

  sum_fits : SFits w64 (pos (day_start day + ms) +ℤ k)
  sum_fits =
      let early : nat_abs (pos (day_start day + ms)) ≤ 4733769628000 = omega (arith, clock_small, e) in
      within_fits w64 (pos (day_start day + ms) +ℤ k) (+-within (pos (day_start day + ms)) k early (fits_within w32 k fits)) tt

pub overflow_add-clock : goal.overflow_add-clock
overflow_add-clock c =
    let a = c.args in
    let s = c.start.ensures in
    omega (arith, clock_small a.day a.ms _ s.0 s.1 c.requires.1 a.correction c.ranges.correction)

pub overflow_cast-result : goal.overflow_cast-result
overflow_cast-result c =
    let a = c.args in
    let s = c.start.ensures in
    let small = clock_small a.day a.ms _ s.0 s.1 c.requires.1 a.correction c.ranges.correction in
    search rules

pub overflow_cast-result-2 : goal.overflow_cast-result-2
overflow_cast-result-2 c =
    let a = c.args in
    rw (to_z-of_z w32 a.correction c.ranges.correction) (sfits_widen {w = w32} tt c.ranges.correction)

pub overflow_add-result : goal.overflow_add-result
overflow_add-result c =
    let a = c.args in
    let s = c.start.ensures in
    rw (same a.day a.ms _ s.0 s.1 c.requires.1 a.correction c.ranges.correction)
    (sum_fits a.day a.ms _ s.0 s.1 c.requires.1 a.correction c.ranges.correction)

pub returns : goal.returns
unfolding time_of
returns c =
    let a = c.args in
    let s = c.start.ensures in
    ap (λ z. to_z w64 (of_z w64 z)) (same a.day a.ms _ s.0 s.1 c.requires.1 a.correction c.ranges.correction)
    ∙ to_z-of_z w64 (pos (day_start a.day + a.ms) +ℤ a.correction) (sum_fits a.day a.ms _ s.0 s.1 c.requires.1 a.correction c.ranges.correction)
