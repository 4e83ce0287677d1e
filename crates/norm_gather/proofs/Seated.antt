-- The places that the code finds, one turn of each loop.
-- Assumes nothing.
use mathlib.Core.Path.{◌≡◌, refl, sym, ap, ◌∙◌}
use mathlib.Core.List.{List, [], ◌∷◌}
use Prim.Native.Nat.{ℕ, suc, ◌+◌, ◌-◌, ◌≤◌, ◌<◌}
use native.Mathlib.Numerals.{add-one}
use native.Mathlib.Nat.{le_refl}
use native.Mathlib.Omega.{arith}
use lib.ListN.{length, get_or, drop, set, drop_of_length-le}
use lib.Seq.{drop-cons}
use Rattle.num_whole.specs.Tests.{same}
use Rattle.num_whole.proofs.Cases.{yes, no, is_same, not_same, by_cases}
use Rattle.byte_words.specs.Words.{lay, word}
use Rattle.byte_words.specs.Stands.{stands}
use Rattle.byte_words.proofs.Stands.{stands_done, stands_next}
use Rattle.norm_kinds.specs.Kinds.{fielded_at}
use Rattle.norm_gather.specs.Gather.{seats_from, kept_seats}

lay_none : (l : List ℕ) (n : ℕ) → lay l n [] ≡ l
unfolding lay
lay_none l n = refl

lay_one : (l : List ℕ) (n v : ℕ) (more : List ℕ) → lay l n (v ∷ more) ≡ lay (set l n v) (n + 1) more
unfolding lay
lay_one l n v more = rw add-one

-- ---- labels with their fields, i of p done; the next stands at a place
module _ (s : List ℕ) (n p i at q : ℕ) (w : List ℕ) where
  pub seats_end : p ≤ i → lay w i (seats_from n q (stands (fielded_at s) 24 (p - i) at)) ≡ w
  unfolding seats_from
  seats_end h = ap (λ l. lay w i (seats_from n q l)) (stands_done (fielded_at s) 24 p i at h) ∙ lay_none w i

  pub seats_off : i < p → word 4 s (at + 12) ≡ 2
      → lay w i (seats_from n q (stands (fielded_at s) 24 (p - i) at)) ≡ lay (set w i n) (i + 1) (seats_from n q (stands (fielded_at s) 24 (p - (i + 1)) (at + 24)))
  unfolding seats_from fielded_at
  seats_off h e =
      ap (λ l. lay w i (seats_from n q l)) (stands_next (fielded_at s) 24 p i at h)
      ∙ ap (lay w i) (sym (yes _ _ _ (is_same _ 2 e) refl))
      ∙ lay_one w i n (seats_from n q (stands (fielded_at s) 24 (p - (i + 1)) (at + 24)))

  pub seats_on : i < p → (word 4 s (at + 12) ≡ 2 → ⊥)
      → lay w i (seats_from n q (stands (fielded_at s) 24 (p - i) at)) ≡ lay (set w i q) (i + 1) (seats_from n (q + 1) (stands (fielded_at s) 24 (p - (i + 1)) (at + 24)))
  unfolding seats_from fielded_at
  seats_on h e =
      ap (λ l. lay w i (seats_from n q l)) (stands_next (fielded_at s) 24 p i at h)
      ∙ ap (lay w i) (sym (no _ _ _ (not_same _ 2 e) refl))
      ∙ lay_one w i q (seats_from n (suc q) (stands (fielded_at s) 24 (p - (i + 1)) (at + 24)))
      ∙ ap (λ k. lay (set w i q) (i + 1) (seats_from n k (stands (fielded_at s) 24 (p - (i + 1)) (at + 24)))) (sym (add-one q))

-- ---- those kept, i of the places done
module _ (f : ℕ → ℕ) where
  pub kept_few : (w : List ℕ) → length (kept_seats f w) ≤ length w
  unfolding kept_seats
  kept_few [] = le_refl 0
  kept_few (k ∷ w) =
      let rest : length (kept_seats f w) ≤ length w = kept_few w in
      by_cases (same (f k) 2)
      (λ e. let z : length (kept_seats f (k ∷ w)) ≡ length (kept_seats f w) = ap length (sym (yes _ _ _ e refl)) in omega arith)
      (λ e. let z : length (kept_seats f (k ∷ w)) ≡ suc (length (kept_seats f w)) = ap length (sym (no _ _ _ e refl)) in omega arith)

  module _ (w : List ℕ) (i : ℕ) where
    pub kept_none : length w ≤ i → kept_seats f (drop i w) ≡ []
    unfolding kept_seats
    kept_none h = ap (kept_seats f) (drop_of_length-le w h)

    cut : i < length w → drop i w ≡ get_or w i 0 ∷ drop (i + 1) w
    cut h = rw add-one (drop-cons w i 0 h)

    pub kept_off : i < length w → f (get_or w i 0) ≡ 2 → kept_seats f (drop i w) ≡ kept_seats f (drop (i + 1) w)
    unfolding kept_seats
    kept_off h e = ap (kept_seats f) (cut h) ∙ sym (yes _ _ _ (is_same _ 2 e) refl)

    pub kept_on : i < length w → (f (get_or w i 0) ≡ 2 → ⊥) → kept_seats f (drop i w) ≡ get_or w i 0 ∷ kept_seats f (drop (i + 1) w)
    unfolding kept_seats
    kept_on h e = ap (kept_seats f) (cut h) ∙ sym (no _ _ _ (not_same _ 2 e) refl)

    pub kept_turn : (u : List ℕ) (m v : ℕ) → i < length w → v ≡ get_or w i 0 → (f (get_or w i 0) ≡ 2 → ⊥)
        → lay u m (kept_seats f (drop i w)) ≡ lay (set u m v) (m + 1) (kept_seats f (drop (i + 1) w))
    kept_turn u m v h a e =
        ap (lay u m) (kept_on h e) ∙ lay_one u m (get_or w i 0) (kept_seats f (drop (i + 1) w))
        ∙ ap (λ k. lay (set u m k) (m + 1) (kept_seats f (drop (i + 1) w))) (sym a)

    pub kept_done : (u : List ℕ) (m : ℕ) → length w ≤ i → lay u m (kept_seats f (drop i w)) ≡ u
    kept_done u m h = ap (lay u m) (kept_none h) ∙ lay_none u m
