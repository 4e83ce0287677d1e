-- Clearing room: place by place; and room that is cleared further is cleared as far as it was.
-- Assumes nothing.
use Prim.Native.Nat.{ℕ, zero, suc, ◌+◌, ◌-◌, ◌≤◌, ◌<◌}
use mathlib.Core.Path.{◌≡◌, refl, sym, ap}
use mathlib.Core.List.{List, [], ◌∷◌, ◌++◌}
use native.Mathlib.Numerals.{add-one}
use native.Mathlib.Omega.{arith}
use lib.IntN.{ℤ, pos}
use lib.ListN.{length, get_or, take, drop, set, replicate, take-append-drop}
use lib.Seq.{drop-cons, drop-set-lt, take-suc-set, append_snoc}
use Rattle.take_room.specs.Room.{cleared}

-- clearing: what is done, with the rest cleared
module _ (room : List ℤ) (n i : ℕ) where
  pub clear_end : n ≤ i → take i room ++ cleared (n - i) (drop i room) ≡ room
  unfolding cleared
  clear_end h = let z : n - i ≡ 0 = omega arith in rw z (take-append-drop i room)

  pub clear_turn : i < n → n ≤ length room → take i room ++ cleared (n - i) (drop i room) ≡ take (i + 1) (set room i (pos 0)) ++ cleared (n - (i + 1)) (drop (i + 1) (set room i (pos 0)))
  unfolding cleared
  clear_turn h l =
      let more : n - i ≡ suc (n - (i + 1)) = omega arith in
      let head : take (i + 1) (set room i (pos 0)) ≡ take i room ++ (pos 0 ∷ []) = rw add-one (take-suc-set room i (pos 0) (omega arith)) in
      let tail : drop (i + 1) (set room i (pos 0)) ≡ drop (i + 1) room = drop-set-lt (i + 1) room i (pos 0) (omega arith) in
      let cut : drop i room ≡ get_or room i (pos 0) ∷ drop (i + 1) room = rw add-one (drop-cons room i (pos 0) (omega arith)) in
      rw (more, cut, head, tail) (sym (append_snoc (take i room) (pos 0) _))

zeros_again : (k n : ℕ) (l : List ℤ) → k ≤ n → replicate k (pos 0) ++ drop k (replicate n (pos 0) ++ l) ≡ replicate n (pos 0) ++ l
zeros_again zero n l h = refl
zeros_again (suc k) zero l h = absurd (omega arith)
zeros_again (suc k) (suc n) l h = ap (λ x. pos 0 ∷ x) (zeros_again k n l (omega arith))

pub cleared_again : (k n : ℕ) (l : List ℤ) → k ≤ n → cleared k (cleared n l) ≡ cleared n l
unfolding cleared
cleared_again k n l h = zeros_again k n (drop n l) h
