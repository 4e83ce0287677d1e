-- `days_leap::of_six` meets its contract: each leaf has the number of days before, since they ascend.
use native.Mathlib.Omega.{arith}
use mathlib.Core.Path.{◌≡◌, refl}
use mathlib.Core.List.{[], ◌∷◌}
use Prim.Native.Nat.{ℕ, ◌+◌, ◌≤◌, ◌<◌}
use Rattle.num_whole.specs.Tests.{less}
use Rattle.days_leap.specs.Leap.{days_before}
use Rattle.days_leap.proofs.Counts.{one_if, one, none}
use Rattle.days_leap.proofs.of_six.Goals as goal

-- each of the six is counted, or not; they ascend
module _ (n a b c d e f : ℕ) (up : (a < b) × (b < c) × (c < d) × (d < e) × (e < f)) where
  six : ℕ
  six = days_before n (a ∷ b ∷ c ∷ d ∷ e ∷ f ∷ [])

  of_six : six ≡ one_if (less a n) + (one_if (less b n) + (one_if (less c n) + (one_if (less d n) + (one_if (less e n) + (one_if (less f n) + 0)))))
  unfolding six days_before
  of_six = refl

  at0 : n ≤ a → (0 ≡ days_before n (a ∷ b ∷ c ∷ d ∷ e ∷ f ∷ [])) × (0 ≤ 6)
  unfolding six
  at0 h0 = (omega (arith, of_six, none a n (omega (arith, up)), none b n (omega (arith, up)), none c n (omega (arith, up)), none d n (omega (arith, up)), none e n (omega (arith, up)), none f n (omega (arith, up))), omega arith)

  at1 : a < n → n ≤ b → (1 ≡ days_before n (a ∷ b ∷ c ∷ d ∷ e ∷ f ∷ [])) × (1 ≤ 6)
  unfolding six
  at1 h0 h1 = (omega (arith, of_six, one a n (omega (arith, up)), none b n (omega (arith, up)), none c n (omega (arith, up)), none d n (omega (arith, up)), none e n (omega (arith, up)), none f n (omega (arith, up))), omega arith)

  at2 : b < n → n ≤ c → (2 ≡ days_before n (a ∷ b ∷ c ∷ d ∷ e ∷ f ∷ [])) × (2 ≤ 6)
  unfolding six
  at2 h0 h1 = (omega (arith, of_six, one a n (omega (arith, up)), one b n (omega (arith, up)), none c n (omega (arith, up)), none d n (omega (arith, up)), none e n (omega (arith, up)), none f n (omega (arith, up))), omega arith)

  at3 : c < n → n ≤ d → (3 ≡ days_before n (a ∷ b ∷ c ∷ d ∷ e ∷ f ∷ [])) × (3 ≤ 6)
  unfolding six
  at3 h0 h1 = (omega (arith, of_six, one a n (omega (arith, up)), one b n (omega (arith, up)), one c n (omega (arith, up)), none d n (omega (arith, up)), none e n (omega (arith, up)), none f n (omega (arith, up))), omega arith)

  at4 : d < n → n ≤ e → (4 ≡ days_before n (a ∷ b ∷ c ∷ d ∷ e ∷ f ∷ [])) × (4 ≤ 6)
  unfolding six
  at4 h0 h1 = (omega (arith, of_six, one a n (omega (arith, up)), one b n (omega (arith, up)), one c n (omega (arith, up)), one d n (omega (arith, up)), none e n (omega (arith, up)), none f n (omega (arith, up))), omega arith)

  at5 : e < n → n ≤ f → (5 ≡ days_before n (a ∷ b ∷ c ∷ d ∷ e ∷ f ∷ [])) × (5 ≤ 6)
  unfolding six
  at5 h0 h1 = (omega (arith, of_six, one a n (omega (arith, up)), one b n (omega (arith, up)), one c n (omega (arith, up)), one d n (omega (arith, up)), one e n (omega (arith, up)), none f n (omega (arith, up))), omega arith)

  at6 : f < n → (6 ≡ days_before n (a ∷ b ∷ c ∷ d ∷ e ∷ f ∷ [])) × (6 ≤ 6)
  unfolding six
  at6 h0 = (omega (arith, of_six, one a n (omega (arith, up)), one b n (omega (arith, up)), one c n (omega (arith, up)), one d n (omega (arith, up)), one e n (omega (arith, up)), one f n (omega (arith, up))), omega arith)

pub returns-then-day-a : goal.returns-then-day-a
returns-then-day-a c = at0 _ _ _ _ _ _ _ c.requires (omega arith)

pub returns-then-day-b : goal.returns-then-day-b
returns-then-day-b c = at1 _ _ _ _ _ _ _ c.requires (omega arith) (omega arith)

pub returns-then-day-c : goal.returns-then-day-c
returns-then-day-c c = at2 _ _ _ _ _ _ _ c.requires (omega arith) (omega arith)

pub returns-then-day-d : goal.returns-then-day-d
returns-then-day-d c = at3 _ _ _ _ _ _ _ c.requires (omega arith) (omega arith)

pub returns-then-day-e : goal.returns-then-day-e
returns-then-day-e c = at4 _ _ _ _ _ _ _ c.requires (omega arith) (omega arith)

pub returns-then-day-f : goal.returns-then-day-f
returns-then-day-f c = at5 _ _ _ _ _ _ _ c.requires (omega arith) (omega arith)

pub returns : goal.returns
returns c = at6 _ _ _ _ _ _ _ c.requires (omega arith)
