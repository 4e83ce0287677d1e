-- Values put into a room one after the other, or a room that is too short: what the definitions say of each; and of an answer that is a
-- refusal.
-- Assumes nothing.
use Prim.Native.Nat.{ℕ, ◌+◌, ◌≤◌, ◌<◌}
use mathlib.Core.Path.{◌≡◌, refl, sym, ap, ◌∙◌}
use mathlib.Core.List.{List, [], ◌++◌, append-nil}
use native.Mathlib.Omega.{arith}
use native.Mathlib.Nat.{zero-add}
use lib.ListN.{length, take, drop}
use lib.Seq.{sets, sets-eq, take-length, drop-length}
use Rattle.num_whole.specs.Answer.{Answered, given, refused}
use Rattle.num_whole.specs.Tests.{less, pick}
use Rattle.num_whole.proofs.Cases.{yes, no, is_less, not_less, by_cases}
use Rattle.refusal.proofs.Firsts.{when_true, when_false}
use Rattle.num_whole.specs.Lists.{over}
use Rattle.call_rooms.specs.Result.{result_number, result_left, told_values, room_for, bytes_left}

module _ {A : Type 0} (l out : List A) where
  -- 20, and the room as it was
  pub short : length out < length l → (20 ≡ result_number (given l) (length out)) × (out ≡ result_left (given l) out)
  unfolding result_number result_left
  short h = let t = is_less (length out) (length l) h in (sym (when_true 20 _ t), yes _ _ _ t refl)

  -- 0, and the values over the room
  pub roomy : length l ≤ length out → (0 ≡ result_number (given l) (length out)) × (over l out ≡ result_left (given l) out)
  unfolding result_number result_left
  roomy h = let t = not_less (length out) (length l) h in (sym (when_false 20 _ t), no _ _ _ t refl)

  -- each value put in its place
  pub placed : length l ≤ length out → (0 ≡ result_number (given l) (length out)) × (sets out 0 l ≡ result_left (given l) out)
  unfolding over
  placed h = ((roomy h).0, sets-eq l out 0 (omega arith) ∙ ap (λ k. l ++ drop k out) (zero-add (length l)) ∙ (roomy h).1)

-- ---- an answer by its cases
module _ {A : Type 0} (x : Answered (List A)) (out : List A) where
  pub as_given : (l : List A) {n : ℕ} {left : List A} → x ≡ given l → (n ≡ result_number (given l) (length out)) × (left ≡ result_left (given l) out)
      → (n ≡ result_number x (length out)) × (left ≡ result_left x out)
  as_given l e h = rw e h

  pub as_refused : (k : ℕ) {n : ℕ} → x ≡ refused k → n ≡ k → (n ≡ result_number x (length out)) × (out ≡ result_left x out)
  unfolding result_number result_left
  as_refused k e h = rw e (h, refl)

-- the same for values made of what the answer gives
module _ {A B : Type 0} (f : A → List B) (x : Answered A) (out : List B) where
  pub on_given : (a : A) {n : ℕ} {left : List B} → x ≡ given a → (n ≡ result_number (given (f a)) (length out)) × (left ≡ result_left (given (f a)) out)
      → (n ≡ result_number (told_values f x) (length out)) × (left ≡ result_left (told_values f x) out)
  unfolding told_values
  on_given a e h = as_given (told_values f x) out (f a) (rw e) h

  pub on_refused : (k : ℕ) {n : ℕ} → x ≡ refused k → n ≡ k → (n ≡ result_number (told_values f x) (length out)) × (out ≡ result_left (told_values f x) out)
  unfolding told_values
  on_refused k e h = as_refused (told_values f x) out k (rw e) h

-- ---- bytes beside their number
module _ (size : ℕ) (out : List ℕ) where
  -- the part that is handed on has just that length
  pub part_long : length (take (room_for size (length out)) out) ≡ room_for size (length out)
  unfolding room_for
  part_long =
      by_cases (less size 1)
      (λ t. let z : pick (less size 1) 0 (length out) ≡ 0 = sym (yes _ _ _ t refl) in rw z)
      (λ t. let z : pick (less size 1) 0 (length out) ≡ length out = sym (no _ _ _ t refl) in rw (z, take-length out))

  -- and what comes back of it, with the rest, is what is left
  pub part_left_lem : (f : List ℕ → List ℕ) → f [] ≡ [] → f (take (room_for size (length out)) out) ++ drop (room_for size (length out)) out ≡ bytes_left size f out
  unfolding room_for bytes_left
  part_left_lem f e =
      by_cases (less size 1)
      (λ t.
      let z : pick (less size 1) 0 (length out) ≡ 0 = sym (yes _ _ _ t refl) in
      rw z (ap (λ l. l ++ out) e ∙ yes _ _ _ t refl))
      (λ t.
      let z : pick (less size 1) 0 (length out) ≡ length out = sym (no _ _ _ t refl) in
      rw (z, take-length out, drop-length out) (append-nil (f out) ∙ no _ _ _ t refl))
