-- Document 01, refusal 24: "a common label with unlike prior weight or estimate".
use Rattle.std.specs.Prelude.{Bool, false, ℤ, pos, negsuc}
use Rattle.num_whole.specs.Tests.{same, both}
use Rattle.norm_system.specs.declared.NormalLabel.{NormalLabel}

unfoldable pub equal : ℤ → ℤ → Bool
equal (pos m) (pos n) = same m n
equal (pos m) (negsuc n) = false
equal (negsuc m) (pos n) = false
equal (negsuc m) (negsuc n) = same m n

-- two labels with one prior weight and one estimate
unfoldable pub alike : NormalLabel → NormalLabel → Bool
alike l m = both (same l.weight m.weight) (equal l.estimate m.estimate)
