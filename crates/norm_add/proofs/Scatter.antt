-- Sums added one by one at places that ascend: what has been added after i of them, and that after all of them it is what was promised.
-- Assumes nothing.
use mathlib.Core.Path.{◌≡◌, refl, sym, ap, ap₂, ◌∙◌, subst}
use mathlib.Core.List.{List}
use mathlib.Core.Bool.{true}
use Prim.Native.Nat.{ℕ, ◌+◌, ◌*◌, ◌≤◌, ◌<◌}
use native.Mathlib.Nat.{zero-add}
use native.Mathlib.Omega.{arith}
use lib.IntN.{ℤ, pos, ◌+ℤ◌, nat_abs, +ℤ_idr}
use lib.ListN.{length, get_or, set}
use lib.Seq.{ext_get_or, get_or-set_same, get_or-set_other}
use mir.Syntax.{w64}
use Rattle.num_whole.specs.Tests.{less, same}
use Rattle.num_whole.specs.Sums.{plus, Within}
use Rattle.num_whole.proofs.Cases.{is_less, less_true, less_false, same_true, same_false, by_cases}
use Rattle.num_whole.proofs.Adding.{length_plus, get_d_plus}
use Rattle.byte_words.specs.Words.{signed_word}
use Rattle.norm_system.specs.System.{has}
use Rattle.norm_labels.specs.Seats.{ascending, seat}
use Rattle.norm_labels.proofs.Seats.{seated, seat_at, seat_within}
use Rattle.norm_labels.specs.Table.{rows_of}
use Rattle.norm_add.specs.Add.{held_at, on_place}
use Rattle.norm_add.specs.declared.Column.{Column}
use Rattle.norm_labels.proofs.Tables.{rows_at}
use Rattle.norm_add.proofs.Held.{held_there, held_past}

-- the first i of them
abbrev pub up_to_row : ℕ → ℕ → Column
up_to_row base i = record { base = base; rows = i }

-- after the first i
abbrev pub Scattered : List ℕ → ℕ → List ℕ → List ℤ → List ℤ → ℕ → Type 0
Scattered s base t part₀ part i = (k : ℕ) → k < length part₀ → get_or part k (pos 0) ≡ get_or part₀ k (pos 0) +ℤ held_at s (up_to_row base i) (seat t k)

-- what is past row i is not heard of
held_more : (s : List ℕ) (base i q : ℕ) → (q ≡ i → ⊥) → held_at s (up_to_row base i) q ≡ held_at s (up_to_row base (i + 1)) q
held_more s base i q off =
    by_cases (less q i)
    (λ e. let h : q < i = less_true q i e in
    sym (held_there s (up_to_row base i) q h refl) ∙ held_there s (up_to_row base (i + 1)) q (omega arith) refl)
    (λ e. let h : i ≤ q = less_false q i e in
    sym (held_past s (up_to_row base i) q h) ∙ held_past s (up_to_row base (i + 1)) q (omega arith))

module _ (s : List ℕ) (base : ℕ) (t : List ℕ) (part₀ : List ℤ) where
  pub scatter_starts : Scattered s base t part₀ part₀ 0
  scatter_starts k h =
      sym (ap (λ z. get_or part₀ k (pos 0) +ℤ z) (sym (held_past s (up_to_row base 0) (seat t k) (omega arith))) ∙ +ℤ_idr (get_or part₀ k (pos 0)))

  module _ (up : ascending t ≡ true) (part : List ℤ) (i : ℕ) (long : length part ≡ length part₀) (inside : i < length t) (there : get_or t i 0 < length part₀)
      (d : Scattered s base t part₀ part i) where
    -- where the next one goes, nothing has been added
    untouched : get_or part (get_or t i 0) (pos 0) ≡ get_or part₀ (get_or t i 0) (pos 0)
    untouched =
        d (get_or t i 0) there
        ∙ ap (λ q. get_or part₀ (get_or t i 0) (pos 0) +ℤ held_at s (up_to_row base i) q) (seat_at t up i inside)
        ∙ ap (λ z. get_or part₀ (get_or t i 0) (pos 0) +ℤ z) (sym (held_past s (up_to_row base i) i (omega arith)))
        ∙ +ℤ_idr (get_or part₀ (get_or t i 0) (pos 0))

    pub scatter_small : (m : ℕ) → Within m part₀ → nat_abs (get_or part (get_or t i 0) (pos 0)) ≤ m
    scatter_small m w = subst (λ z. nat_abs z ≤ m) (sym untouched) (w (get_or t i 0))

    pub scatter_turn : (after : List ℤ) → after ≡ set part (get_or t i 0) (get_or part (get_or t i 0) (pos 0) +ℤ signed_word w64 s (base + 8 * i)) → Scattered s base t part₀ after (i + 1)
    scatter_turn after e k h =
        by_cases (same (get_or t i 0) k)
        (λ a. here (same_true (get_or t i 0) k a))
        (λ a. let off : get_or t i 0 ≡ k → ⊥ = same_false (get_or t i 0) k a in
        ap (λ l. get_or l k (pos 0)) e ∙ get_or-set_other part (get_or t i 0) k _ (pos 0) (λ q. off (sym q)) ∙ d k h
        ∙ ap (λ z. get_or part₀ k (pos 0) +ℤ z) (held_more s base i (seat t k) (λ q. off (elsewhere q))))
      where
        elsewhere : seat t k ≡ i → get_or t i 0 ≡ k
        elsewhere q =
            let l : seat t k < length t = omega arith in
            let c : has k t ≡ true = sym (seat_within t k) ∙ is_less (seat t k) (length t) l in
            ap (λ n. get_or t n 0) (sym q) ∙ (seated t k c).is

        here : get_or t i 0 ≡ k → get_or after k (pos 0) ≡ get_or part₀ k (pos 0) +ℤ held_at s (up_to_row base (i + 1)) (seat t k)
        here a =
            subst (λ n. get_or after n (pos 0) ≡ get_or part₀ n (pos 0) +ℤ held_at s (up_to_row base (i + 1)) (seat t n)) a
            (ap (λ l. get_or l (get_or t i 0) (pos 0)) e ∙ get_or-set_same part (get_or t i 0) _ (pos 0) (omega arith)
            ∙ ap₂ (λ u v. u +ℤ v) untouched
            (held_there s (up_to_row base (i + 1)) i (omega arith) refl ∙ ap (held_at s (up_to_row base (i + 1))) (sym (seat_at t up i inside))))

pub scatter_ends : (s : List ℕ) (c : Column) (t : List ℕ) (part₀ part : List ℤ) (i : ℕ) → i ≡ c.rows → length part ≡ length part₀ → Scattered s c.base t part₀ part i
    → part ≡ plus part₀ (rows_of (on_place s c t) 0 (length part₀))
unfolding on_place
scatter_ends s c t part₀ part i e long d =
    ext_get_or (pos 0) part (plus part₀ (rows_of (on_place s c t) 0 (length part₀))) (long ∙ sym (length_plus part₀ _))
    (λ k h. let g : k < length part₀ = omega arith in
    d k g
    ∙ ap (λ z. get_or part₀ k (pos 0) +ℤ z)
    (ap (λ n. held_at s (up_to_row c.base n) (seat t k)) e ∙ ap (λ n. held_at s c (seat t n)) (sym (zero-add k)) ∙ sym (rows_at (λ k. held_at s c (seat t k)) 0 (length part₀) k g))
    ∙ sym (get_d_plus part₀ (rows_of (λ k. held_at s c (seat t k)) 0 (length part₀)) k g))
