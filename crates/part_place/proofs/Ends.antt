-- What finish answers and leaves, by what it finds.
-- Assumes nothing.
use Prim.Native.Nat.{ℕ, ◌+◌, ◌*◌, ◌≤◌, ◌<◌}
use mathlib.Core.Path.{◌≡◌, refl, sym, ap, ◌∙◌}
use mathlib.Core.Bool.{true, false}
use native.Mathlib.Omega.{arith}
use native.Mathlib.Nat.{mul-le-mul}
use lib.ListN.{length}
use Rattle.num_whole.specs.Answer.{Judged, good, bad}
use Rattle.num_whole.proofs.Cases.{yes, no, is_less, not_less, both_first, both_second}
use Rattle.num_limits.specs.Capacities.{parameters_most, records_most}
use Rattle.arc_read.specs.Arc.{Arc}
use Rattle.part_laws.specs.Beginning.{opened, size_of, ends_at, closed_at, read_at}
use Rattle.part_laws.specs.Feeding.{Position, ended, closing}
use Rattle.part_laws.specs.Entries.{position_most, position_of, held_of, took, broken, tidy, placed, led, fair, told_end}
use Rattle.part_laws.specs.declared.Position as ByValue
use Rattle.part_laws.proofs.ByValue.{tidy_fits, tidy_long, held_back}
use Rattle.part_laws.proofs.Cuts.{read_good, read_bad}
use Rattle.part_laws.proofs.Six.{placed_amid, within_numbers}

pub small : (n p : ℕ) → n ≤ records_most → p ≤ parameters_most → n * (32 + 2 * p) ≤ 8650620
small n p h k = let size : 32 + 2 * p ≤ 132 = omega arith in mul-le-mul h size

-- ---- a position that the entries give, of a file that is not over
module _ (p : ByValue.Position) (room : length p.kept ≡ position_most) (ok : fair p ≡ true) (going : p.over ≡ false) where
  clean : tidy p ≡ true
  unfolding fair
  clean = both_first _ _ ok

  pub there : placed (position_of p) ≡ true
  unfolding fair led
  there = no _ _ _ going refl ∙ both_second _ _ ok

  pub long : length (position_of p).kept ≡ p.length
  long = tidy_long p room clean

  pub fits : p.length ≤ position_most
  fits = tidy_fits p room clean

  abbrev reading : Judged Arc
  reading = read_at p.taken (position_of p).kept

  module _ (a : Arc) (e : opened (position_of p).kept ≡ good a) where
    few : p.taken ≤ a.count
    few = (placed_amid (position_of p) a there e).few

    pub taken_small : a.count ≤ records_most → a.heading.parameters ≤ parameters_most → p.taken * size_of a ≤ 8650620
    taken_small h k = small p.taken a.heading.parameters (omega (arith, few)) k

    read_is : reading ≡ closed_at a (p.length + p.taken * size_of a)
    read_is = read_good p.taken (position_of p).kept a e ∙ ap (λ n. closed_at a (n + p.taken * size_of a)) long

    -- 1
    pub ends_short : p.length + p.taken * size_of a < ends_at a
        → (broken 1 (p.length + p.taken * size_of a) p.taken ≡ told_end reading p.taken) × (held_of (ended p.taken) ≡ held_of (closing reading (position_of p)))
    unfolding closed_at
    ends_short h =
        let is : bad 1 (p.length + p.taken * size_of a) ≡ reading = yes _ _ _ (is_less _ _ h) refl ∙ sym read_is in
        (ap (λ x. told_end x p.taken) is, ap (λ x. held_of (closing x (position_of p))) is)

    -- or nothing is missing
    pub ends_all : ends_at a ≤ p.length + p.taken * size_of a
        → (took 0 ≡ told_end reading p.taken)
        × (record { kept = p.kept; length = p.length; taken = p.taken; over = true } ≡ held_of (closing reading (position_of p)))
    unfolding closed_at
    ends_all h =
        let v = placed_amid (position_of p) a there e in
        let most : p.length + p.taken * size_of a ≤ ends_at a = omega (arith, long, within_numbers a (length (position_of p).kept) p.taken v.few v.short) in
        let is : good a ≡ reading = no _ _ _ (not_less _ _ h) (no _ _ _ (not_less _ _ most) refl) ∙ sym read_is in (
          ap (λ x. told_end x p.taken) is,
          ap (λ q. record { kept = q.kept; length = q.length; taken = q.taken; over = true }) (sym (held_back p room clean)) ∙ ap (λ x. held_of (closing x (position_of p))) is,
        )

  -- before the file is opened
  pub ends_before : (number place : ℕ) → opened (position_of p).kept ≡ bad number place
      → (broken number place p.taken ≡ told_end reading p.taken) × (held_of (ended p.taken) ≡ held_of (closing reading (position_of p)))
  ends_before number place e =
      let is : bad number place ≡ reading = sym (read_bad p.taken (position_of p).kept e) in
      (ap (λ x. told_end x p.taken) is, ap (λ x. held_of (closing x (position_of p))) is)
