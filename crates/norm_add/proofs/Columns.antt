-- A column of a target: the file's next column is this one, or none of its columns is.
-- Assumes nothing.
use mathlib.Core.Path.{◌≡◌, refl, sym, ap, ap₂, ◌∙◌, subst}
use mathlib.Core.List.{List, [], ◌∷◌}
use mathlib.Core.Bool.{true, false}
use Prim.Native.Nat.{ℕ, zero, suc, ◌+◌, ◌*◌, ◌≤◌, ◌<◌}
use native.Mathlib.Omega.{arith}
use lib.IntN.{ℤ, pos, ◌+ℤ◌, +ℤ_idr, nat_abs}
use lib.ListN.{length, get_or}
use mir.Syntax.{w64}
use Rattle.num_whole.specs.Tests.{less, same}
use Rattle.num_whole.specs.Sums.{plus}
use Rattle.num_whole.proofs.Cases.{apart, less_true, less_false, same_true, same_false, by_cases}
use Rattle.byte_words.specs.Words.{signed_word}
use Rattle.num_packed.specs.Triangle.{tri}
use Rattle.num_packed.proofs.Places.{tri_within}
use Rattle.norm_system.specs.System.{has}
use Rattle.norm_labels.specs.Seats.{ascending, seat}
use Rattle.norm_labels.proofs.Seats.{Seated, seated, unseated, seat_at, rise, has_at}
use Rattle.norm_labels.specs.Table.{rows_of}
use Rattle.norm_add.specs.Add.{held_at, column_at, on_place, on_places, Passed, Addable}
use Rattle.norm_add.specs.declared.Column.{Column}
use Rattle.norm_add.proofs.Held.{held_past, column_is, column_none}

-- adding nothing
plus_noughts : (f : ℕ → ℤ) → ((k : ℕ) → f k ≡ pos 0) → (l : List ℤ) (i m : ℕ) → plus l (rows_of f i m) ≡ l
unfolding plus rows_of
plus_noughts f z [] i m = refl
plus_noughts f z (x ∷ l) i zero = refl
plus_noughts f z (x ∷ l) i (suc m) = ap₂ (λ a b. a ∷ b) (ap (λ v. x +ℤ v) (z i) ∙ +ℤ_idr x) (plus_noughts f z l (suc i) m)

pub passed_starts : (t : List ℕ) → Passed t 0 0
passed_starts t = record { within = omega arith; before = λ i h. absurd (omega arith); after = λ i h g. omega arith }

module _ (t : List ℕ) (up : ascending t ≡ true) (j q : ℕ) (p : Passed t j q) where
  -- ---- none of the file's columns is this one
  lacks : (q < length t → get_or t q 0 ≡ j → ⊥) → has j t ≡ false
  lacks off = by_cases (has j t) (λ h. absurd (out (seated t j h))) (λ h. h)
    where
      out : Seated t j → ⊥
      out d =
          by_cases (less (seat t j) q)
          (λ e. below (p.before (seat t j) (less_true (seat t j) q e)) d.is)
          (λ e. by_cases (less q (seat t j))
          (λ f. above (p.after q (omega arith) (in_list (less_true q (seat t j) f) d.inside)) (rise t up q (seat t j) (less_true q (seat t j) f) d.inside) d.is)
          (λ f. let same-one : seat t j ≡ q = omega (arith, less_false (seat t j) q e, less_false q (seat t j) f) in
          off (subst (λ n. n < length t) same-one d.inside) (sym (ap (λ n. get_or t n 0) same-one) ∙ d.is)))
        where
          below : {n : ℕ} → n < j → n ≡ j → ⊥
          below h e = omega arith

          above : {m n : ℕ} → j ≤ m → m < n → n ≡ j → ⊥
          above h g e = omega arith

          in_list : {m n : ℕ} → m < n → n < length t → m < length t
          in_list h g = omega arith

  pub skipped : (s : List ℕ) (start : ℕ) (part : List ℤ) → (q < length t → get_or t q 0 ≡ j → ⊥)
      → (part ≡ plus part (rows_of (λ i. on_places s start t i j) 0 (j + 1))) × Passed t (j + 1) q
  unfolding on_places on_place
  skipped s start part off = (
    sym (plus_noughts (λ i. on_places s start t i j) nothing part 0 (j + 1)),
    record {
      within = p.within;
      before = λ i h. let b : get_or t i 0 < j = p.before i h in omega arith;
      after = λ i h g. next i h g (p.after i h g);
    },
  )
    where
      gone : column_at start (length t) (seat t j) ≡ record { base = start; rows = 0 }
      gone = let e : seat t j ≡ length t = unseated t j (lacks off) in column_none start (length t) (seat t j) (omega arith)

      nothing : (i : ℕ) → held_at s (column_at start (length t) (seat t j)) (seat t i) ≡ pos 0
      nothing i = ap (λ c. held_at s c (seat t i)) gone ∙ sym (held_past s (record { base = start; rows = 0 }) (seat t i) (omega arith))

      -- the qth is past j, so those after it are
      next : (i : ℕ) → q ≤ i → i < length t → j ≤ get_or t i 0 → j + 1 ≤ get_or t i 0
      next i h g b =
          by_cases (same (get_or t i 0) j)
          (λ e. absurd (apart (sym (has_i e) ∙ lacks off)))
          (λ e. let d : get_or t i 0 ≡ j → ⊥ = same_false (get_or t i 0) j e in omega arith)
        where
          has_i : same (get_or t i 0) j ≡ true → has j t ≡ true
          has_i e = subst (λ n. has n t ≡ true) (same_true (get_or t i 0) j e) (has_at t i g)

  -- ---- the file's next column is this one
  module _ (h : q < length t) (e : get_or t q 0 ≡ j) where
    pub here : seat t j ≡ q
    here = subst (λ n. seat t n ≡ q) e (seat_at t up q h)

    pub places_in : (i : ℕ) → i < q + 1 → get_or t i 0 < j + 1
    places_in i g =
        by_cases (less i q)
        (λ b. let d : get_or t i 0 < j = p.before i (less_true i q b) in omega arith)
        (λ b. let d : i ≡ q = omega (arith, less_false i q b) in let f : get_or t i 0 ≡ j = ap (λ n. get_or t n 0) d ∙ e in omega arith)

    pub passed_on : Passed t (j + 1) (q + 1)
    passed_on =
        record {
          within = omega arith;
          before = places_in;
          after = λ i a b. let r : get_or t q 0 < get_or t i 0 = rise t up q i (omega arith) b in omega arith;
        }

    -- the column as the code works it out
    pub column_here : (start k : ℕ) → k ≡ tri q → record { base = start + 8 * k; rows = q + 1 } ≡ column_at start (length t) (seat t j)
    column_here start k d = column_is start (length t) q k d h ∙ ap (column_at start (length t)) (sym here)

    -- its sums are among all, and the target is as it was
    pub fits_here : (s : List ℕ) (start k : ℕ) (part : List ℤ) → k ≡ tri q → Addable s start (tri (length t)) part → Addable s (start + 8 * k) (q + 1) part
    fits_here s start k part d f =
        record {
          target_bound = f.target_bound;
          sums_bound = f.sums_bound;
          target_within = f.target_within;
          sums_within = λ i g.
              let w : tri q + q + 1 ≤ tri (length t) = tri_within q (length t) h in
              let n : start + 8 * (k + i) ≡ start + 8 * k + 8 * i = omega arith in
              subst (λ m. nat_abs (signed_word w64 s m) ≤ f.sums_bound) n (f.sums_within (k + i) (omega arith));
          fits = f.fits;
        }

    pub taken : (s : List ℕ) (start : ℕ) (c : Column) (part after : List ℤ) → c ≡ column_at start (length t) (seat t j) → j + 1 ≡ length part
        → after ≡ plus part (rows_of (on_place s c t) 0 (length part)) → after ≡ plus part (rows_of (λ i. on_places s start t i j) 0 (j + 1))
    unfolding on_places
    taken s start c part after d long a =
        a ∙ ap (λ n. plus part (rows_of (on_place s c t) 0 n)) (sym long) ∙ ap (λ v. plus part (rows_of (on_place s v t) 0 (j + 1))) d
