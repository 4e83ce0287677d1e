-- For the proofs of the code alone: no public promise and no law cites this, and an auditor may skip it.
-- What an accepted record adds, and the tests that are left for one that fits its heading.
use Rattle.std.specs.Prelude.{ℕ, ◌*◌, [], ◌∷◌, ℤ, pos, ◌*ℤ◌, nat_abs}
use Rattle.num_limits.specs.Capacities.{count_most}
use Rattle.num_whole.specs.Answer.{Answered, given, refused}
use Rattle.num_whole.specs.Tests.{less}
use Rattle.refusal.specs.Number.{number_of}
use Rattle.refusal.specs.First.{unless, first, answered}
use Rattle.take_rules.specs.Rules.{weight_of, passes_edit}
use Rattle.take_laws.specs.Taking.{residual}
use Rattle.take_fit.specs.declared.Fit.{Fit}
use Rattle.take_judge.specs.declared.Terms.{Terms}

-- w, w·R and w·R²
unfoldable pub terms_by : ℕ → ℤ → ℕ → Terms
terms_by sigma r factor =
    record {
      weight = weight_of sigma;
      side = pos (weight_of sigma) *ℤ (r *ℤ pos factor);
      square = weight_of sigma * (nat_abs (r *ℤ pos factor) * nat_abs (r *ℤ pos factor));
    }

-- 17, 18, 19, or the terms
unfoldable pub judged_late : ℕ → Fit → ℕ → ℕ → Answered Terms
judged_late level x last count =
    answered
    (first
    (unless 17 (less last x.time)
    ∷ unless 18 (passes_edit level x.sigma x.step x.residual)
    ∷ unless 19 (less count count_most)
    ∷ []))
    (terms_by x.sigma x.residual x.factor)
