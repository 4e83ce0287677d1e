-- Document 02, #103: the days follow one another without a gap and without an overlap, by one argument for all of them; times rise with day
-- and millisecond; and where no listed day lies before, they are those of document 01.
-- Assumes nothing.
use Prim.Native.Nat.{ℕ, zero, suc, ◌+◌, ◌-◌, ◌*◌, ◌≤◌, ◌<◌}
use mathlib.Core.Path.{◌≡◌, refl, sym, ap, subst}
use mathlib.Core.Bool.{true, false}
use native.Mathlib.Omega.{arith}
use native.Mathlib.Nat.{add-zero}
use mathlib.Core.Logic.{◌⊎◌, ⊎_elim}
use lib.ListN.{length}
use Rattle.num_limits.specs.Capacities.{day_after_last}
use Rattle.num_whole.specs.Tests.{less, pick}
use Rattle.num_whole.proofs.Cases.{yes, no, by_cases, less_true, less_false}
use Rattle.days_leap.specs.Leap.{listed_days, is_listed, listed_before, common_length, second, day_length, last_ms, day_start}
use Rattle.days_leap.specs.Parts.{listed_most, start_most}
use Rattle.days_leap.proofs.Counts.{one_if, before_most, before_rises, before_none, before_next}
use Rattle.days_leap.proofs.Listed.{listing, listed_so, ascending, first_listed}

-- ---- how many listed days lie before
-- a listed day counts for the next day, not for its own
pub listed_next : (d : ℕ) → listed_before (d + 1) ≡ listed_before d + one_if (is_listed d)
unfolding listed_before is_listed
listed_next d = before_next d 0 listed_days ascending

pub listed_most_lem : (d : ℕ) → listed_before d ≤ listed_most
unfolding listed_before listing
listed_most_lem d = subst (λ l. listed_before d ≤ length l) listed_so (before_most d listed_days)

pub listed_rises : (d e : ℕ) → d ≤ e → listed_before d ≤ listed_before e
unfolding listed_before
listed_rises d e h = before_rises d e h listed_days

-- ---- the length of a day
pub long_day : (d : ℕ) → is_listed d ≡ true → day_length d ≡ common_length + second
unfolding day_length
long_day d e = ap (λ n. common_length + n) (sym (yes _ _ _ e refl))

pub common_day : (d : ℕ) → is_listed d ≡ false → day_length d ≡ common_length
unfolding day_length
common_day d e = ap (λ n. common_length + n) (sym (no _ _ _ e refl))

-- between the two, and so never empty
pub length_between : (d : ℕ) → (common_length ≤ day_length d) × (day_length d ≤ common_length + second)
length_between d =
    by_cases (is_listed d)
    (λ e. (omega (arith, long_day d e), omega (arith, long_day d e)))
    (λ e. (omega (arith, common_day d e), omega (arith, common_day d e)))

-- "ms runs to 86,400,999" on a listed day, and to 86,399,999 on any other
pub long_last : (d : ℕ) → is_listed d ≡ true → last_ms d ≡ 86400999
unfolding last_ms
long_last d e = omega (arith, long_day d e)

pub common_last : (d : ℕ) → is_listed d ≡ false → last_ms d ≡ 86399999
unfolding last_ms
common_last d e = omega (arith, common_day d e)

pub last_between : (d : ℕ) → (common_length ≤ last_ms d + 1) × (last_ms d < common_length + second)
unfolding last_ms
last_between d = (omega (arith, length_between d), omega (arith, length_between d))

-- ---- one day after another
pub day_next : (d : ℕ) → day_start (d + 1) ≡ day_start d + day_length d
unfolding day_start day_length
day_next d = by_cases (is_listed d) listed not_listed
  where
    listed : is_listed d ≡ true → day_start (d + 1) ≡ day_start d + day_length d
    listed e =
        let p : ◌≡◌ {A = ℕ} 1 (one_if (is_listed d)) = yes _ _ _ e refl in
        let q : ◌≡◌ {A = ℕ} second (pick (is_listed d) second 0) = yes _ _ _ e refl in
        omega (arith, listed_next d)

    not_listed : is_listed d ≡ false → day_start (d + 1) ≡ day_start d + day_length d
    not_listed e =
        let p : ◌≡◌ {A = ℕ} 0 (one_if (is_listed d)) = no _ _ _ e refl in
        let q : ◌≡◌ {A = ℕ} 0 (pick (is_listed d) second 0) = no _ _ _ e refl in
        omega (arith, listed_next d)

-- each day's last millisecond is followed by the next day's first
pub last_next : (d : ℕ) → day_start d + last_ms d + 1 ≡ day_start (d + 1)
unfolding last_ms
last_next d = omega (arith, day_next d, length_between d)

-- starts ascend, by a whole day at least
pub starts_rise : (d e : ℕ) → d < e → day_start d + day_length d ≤ day_start e
unfolding day_start
starts_rise d e h =
    let n = day_next d in
    let m = listed_rises (d + 1) e (omega arith) in
    omega (arith, n, m, start_of (d + 1), start_of e)
  where
    start_of : (k : ℕ) → day_start k ≡ k * common_length + second * listed_before k
    start_of k = refl

pub start_most_lem : (d : ℕ) → d ≤ day_after_last → day_start d ≤ start_most
unfolding day_start
start_most_lem d h = omega (arith, listed_most_lem d)

-- a day starts at day·86,400,000 or later, by the seconds of all listed days at the most
pub start_around : (d : ℕ) → (d * common_length ≤ day_start d) × (day_start d ≤ d * common_length + listed_most * second)
unfolding day_start
start_around d = (omega arith, omega (arith, listed_most_lem d))

-- ---- the time of a clock's reading, before its station's correction
-- a reading is before another: on an earlier day, or on the same day earlier
abbrev pub Earlier : ℕ → ℕ → ℕ → ℕ → Type 0
Earlier d ms e ns = (d < e) ⊎ ((d ≡ e) × (ms < ns))

module _ (d ms e ns : ℕ) (inside : ms ≤ last_ms d) (within : ns ≤ last_ms e) where
  -- strictly monotone in day and millisecond
  pub time_rises : Earlier d ms e ns → day_start d + ms < day_start e + ns
  time_rises h = ⊎_elim (λ p. omega (arith, starts_rise d e p, last_next d, day_next d)) (λ q. same_day q.0 q.1) h
    where
      same_day : d ≡ e → ms < ns → day_start d + ms < day_start e + ns
      same_day p q = omega (arith, ap day_start p)

  -- and so two readings have one time only where they are one
  pub one_time : day_start d + ms ≡ day_start e + ns → (d ≡ e) × (ms ≡ ns)
  one_time h =
      by_cases (less d e)
      (λ t. absurd (omega (arith, starts_rise d e (less_true _ _ t), last_next d, day_next d)))
      (λ t. by_cases (less e d)
      (λ u. absurd (omega (arith, starts_rise e d (less_true _ _ u), last_next e, day_next e)))
      (λ u. let p : d ≡ e = omega (arith, less_false _ _ t, less_false _ _ u) in (p, omega (arith, ap day_start p))))

-- no gap: each time from a day's start up to a later day's start is a reading of one of the days between
pub record Reading (from to n : ℕ) : Type 0 where
  pub day : ℕ
  pub ms : ℕ
  pub first : from ≤ day
  pub last : day < to
  pub inside : ms ≤ last_ms day
  pub time : day_start day + ms ≡ n

pub no_gap : (from k n : ℕ) → day_start from ≤ n → n < day_start (from + k) → Reading from (from + k) n
no_gap from zero n h e = absurd (omega (arith, ap day_start (add-zero from)))
no_gap from (suc k) n h e =
    by_cases (less n (day_start (from + k)))
    (λ t. let r = no_gap from k n h (less_true _ _ t) in
    record { day = r.day; ms = r.ms; first = r.first; last = omega (arith, r.last); inside = r.inside; time = r.time })
    (λ t. let p = less_false _ _ t in
    record {
      day = from + k;
      ms = n - day_start (from + k);
      first = omega arith;
      last = omega arith;
      inside = omega (arith, p, e, last_next (from + k), ap day_start (last_is k));
      time = omega (arith, p);
    })
  where
    last_is : (j : ℕ) → from + suc j ≡ from + j + 1
    last_is j = omega arith

-- ---- where no listed day lies before, times are those of document 01
pub start_before : (d : ℕ) → listed_before d ≡ 0 → day_start d ≡ d * common_length
unfolding day_start
start_before d e = omega (arith, e)

-- 1972 Jun 30 is the first listed day, and none lies before it
pub none_before : (d : ℕ) → d ≤ 8217 → listed_before d ≡ 0
unfolding listed_before
none_before d h = before_none d 8217 h listed_days first_listed
