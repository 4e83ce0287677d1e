-- `days_leap::in_day` meets its contract: a second decides only where the day's common length is past.
use native.Mathlib.Omega.{arith}
use mathlib.Core.Path.{◌≡◌, sym, ◌∙◌}
use Prim.Native.Nat.{ℕ, ◌+◌, ◌≤◌, ◌<◌}
use Rattle.num_whole.specs.Tests.{up_to}
use Rattle.num_whole.proofs.Cases.{by_cases, is_up_to, not_up_to}
use Rattle.days_leap.specs.Leap.{is_listed, last_ms, common_length, second}
use Rattle.days_leap.proofs.Days.{long_last, common_last, last_between}
use Rattle.days_leap.proofs.in_day.Goals as goal

-- in the second that only listed days have
by_list : (d ms : ℕ) → common_length ≤ ms → ms < common_length + second → is_listed d ≡ up_to ms (last_ms d)
by_list d ms p q =
    by_cases (is_listed d)
    (λ e. e ∙ sym (is_up_to _ _ (omega (arith, long_last d e))))
    (λ e. e ∙ sym (not_up_to _ _ (omega (arith, common_last d e))))

pub returns-then-ms-lt-COMMON_LENGTH : goal.returns-then-ms-lt-COMMON_LENGTH
returns-then-ms-lt-COMMON_LENGTH c = sym (is_up_to _ _ (omega (arith, last_between c.args.day)))

pub returns-then-ms : goal.returns-then-ms
returns-then-ms c = c.is_listed.ensures ∙ by_list _ _ (omega arith) (omega arith)

pub returns : goal.returns
returns c = sym (not_up_to _ _ (omega (arith, last_between c.args.day)))
