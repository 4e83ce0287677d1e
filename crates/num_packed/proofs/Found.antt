-- The first of some numbers at which a test holds, and the first entry of a triangle at which one does: with the code's count upwards, what
-- is left at each turn; what it says of every number where there is none; and that what was found is the first.
-- Assumes nothing.
use Prim.Native.Nat.{ℕ, zero, suc, ◌+◌, ◌-◌, ◌≤◌, ◌<◌}
use mathlib.Core.Path.{◌≡◌, refl, sym, ◌∙◌, subst}
use mathlib.Core.Bool.{Bool, true, false}
use mathlib.Core.Logic.{⊎_elim}
use native.Mathlib.Omega.{arith}
use native.Mathlib.Nat.{eq-or-lt_of_le, not-suc-le-zero, zero-add}
use native.Mathlib.Numerals.{add-one}
use Rattle.num_whole.specs.Tests.{pick}
use Rattle.num_whole.proofs.Cases.{yes, no, by_cases}
use Rattle.num_packed.specs.Triangle.{tri}
use Rattle.num_packed.specs.Found.{Found, none, at, first_from, in_column, columns_from}
use Rattle.num_packed.proofs.Places.{tri_within, earlier}

-- something was found, or nothing
pub none_not : {k : ℕ} → at k ≡ none → ⊥
none_not e = let z : ◌≡◌ {A = ℕ} 0 1 = cc in omega arith

pub at_same : {k l : ℕ} → at k ≡ at l → k ≡ l
at_same e = cc

-- ---- n numbers, i of them done
module _ (f : ℕ → Bool) (n i : ℕ) where
  pub first_end : n ≤ i → first_from f i (n - i) ≡ none
  unfolding first_from
  first_end e = let z : n - i ≡ zero = omega arith in rw z

  module _ (more : i < n) where
    one_less : n - i ≡ suc (n - (i + 1))
    one_less = omega arith

    pub first_here : f i ≡ true → first_from f i (n - i) ≡ at i
    unfolding first_from pick
    first_here e = rw (one_less, e)

    pub first_on : f i ≡ false → first_from f i (n - i) ≡ first_from f (i + 1) (n - (i + 1))
    unfolding first_from pick
    first_on e = rw (one_less, e)

-- ---- p columns, j of them done
module _ (f : ℕ → ℕ → Bool) (p j : ℕ) where
  pub columns_end : p ≤ j → columns_from f j (p - j) ≡ none
  unfolding columns_from
  columns_end e = let z : p - j ≡ zero = omega arith in rw z

  module _ (more : j < p) where
    column : p - j ≡ suc (p - (j + 1))
    column = omega arith

    pub columns_here : (i : ℕ) → first_from (λ v. f v j) 0 (j + 1) ≡ at i → columns_from f j (p - j) ≡ at (tri j + i)
    unfolding columns_from in_column
    columns_here i e = let e₁ = rw (add-one j) at e in rw (column, e₁)

    pub columns_on : first_from (λ v. f v j) 0 (j + 1) ≡ none → columns_from f j (p - j) ≡ columns_from f (j + 1) (p - (j + 1))
    unfolding columns_from in_column
    columns_on e = let e₁ = rw (add-one j) at e in rw (column, e₁)

-- ---- where there is none, the test fails at each
first_none_from : (f : ℕ → Bool) (n i : ℕ) → first_from f i n ≡ none → (v : ℕ) → i ≤ v → v < i + n → f v ≡ false
unfolding first_from
first_none_from f zero i e v h l = absurd (omega arith)
first_none_from f (suc n) i e v h l =
    by_cases (f i)
    (λ t. absurd (none_not (yes _ _ _ t refl ∙ e)))
    (λ t. ⊎_elim (λ q. subst (λ m. f m ≡ false) q t)
    (λ q. first_none_from f n (i + 1) (no _ _ _ t refl ∙ e) v (omega arith) (omega arith)) (eq-or-lt_of_le h))

pub first_none : (f : ℕ → Bool) (n : ℕ) → first_from f 0 n ≡ none → (v : ℕ) → v < n → f v ≡ false
first_none f n e v l = first_none_from f n 0 e v (omega arith) (omega arith)

-- and where it fails at each, there is none
first_sound_from : (f : ℕ → Bool) (n i : ℕ) → ((v : ℕ) → i ≤ v → v < i + n → f v ≡ false) → first_from f i n ≡ none
unfolding first_from
first_sound_from f zero i h = refl
first_sound_from f (suc n) i h =
    sym (no _ _ _ (h i (omega arith) (omega arith)) (sym (first_sound_from f n (i + 1) (λ v a b. h v (omega arith) (omega arith)))))

pub first_sound : (f : ℕ → Bool) (n : ℕ) → ((v : ℕ) → v < n → f v ≡ false) → first_from f 0 n ≡ none
first_sound f n h = first_sound_from f n 0 (λ v a b. h v (omega arith))

-- ---- what was found is the first: the test holds there, and at none of those before it
record FirstOf (f : ℕ → Bool) (i n k : ℕ) : Type 0 where
  inside : k < i + n
  holds : f k ≡ true
  before : (v : ℕ) → i ≤ v → v < k → f v ≡ false

first_of : (f : ℕ → Bool) (n i k : ℕ) → first_from f i n ≡ at k → FirstOf f i n k
unfolding first_from
first_of f zero i k e = absurd (none_not (sym e))
first_of f (suc n) i k e =
    by_cases (f i)
    (λ t. let same : i ≡ k = at_same (yes _ _ _ t refl ∙ e) in
    record { inside = omega arith; holds = subst (λ m. f m ≡ true) same t; before = λ v h l. absurd (omega arith) })
    (λ t. let r = first_of f n (i + 1) k (no _ _ _ t refl ∙ e) in
    record {
      inside = omega (arith, r.inside);
      holds = r.holds;
      before = λ v h l. ⊎_elim (λ q. subst (λ m. f m ≡ false) q t) (λ q. r.before v (omega arith) l) (eq-or-lt_of_le h);
    })

-- of n numbers
pub record FirstNumber (f : ℕ → Bool) (n k : ℕ) : Type 0 where
  pub inside : k < n
  pub holds : f k ≡ true
  pub before : (v : ℕ) → v < k → f v ≡ false

pub first_number : (f : ℕ → Bool) (n k : ℕ) → first_from f 0 n ≡ at k → FirstNumber f n k
first_number f n k e =
    let r = first_of f n 0 k e in
    record { inside = omega (arith, r.inside); holds = r.holds; before = λ v l. r.before v (omega arith) l }

-- a column's part in the answer, by what was found in it
in_column_lem : (base : ℕ) (x rest : Found) → (x ≡ none → in_column base x rest ≡ rest) × ((i : ℕ) → x ≡ at i → in_column base x rest ≡ at (base + i))
unfolding in_column
in_column_lem base x rest = (λ e. rw e, λ i e. rw e)

pub by_found : {A : Type 0} (x : Found) → (x ≡ none → A) → ((i : ℕ) → x ≡ at i → A) → A
by_found none f g = f refl
by_found (at i) f g = g i refl

columns_none_from : (f : ℕ → ℕ → Bool) (n j : ℕ) → columns_from f j n ≡ none → (v u : ℕ) → v ≤ u → j ≤ u → u < j + n → f v u ≡ false
unfolding columns_from
columns_none_from f zero j e v u h a b = absurd (omega arith)
columns_none_from f (suc n) j e v u h a b =
    let col = first_from (λ i. f i j) 0 (suc j) in
    let rest = columns_from f (j + 1) n in
    by_found col
    (λ t. ⊎_elim (λ q. subst (λ m. f v m ≡ false) q (first_none (λ i. f i j) (suc j) t v (omega arith)))
    (λ q. columns_none_from f n (j + 1) (sym ((in_column_lem (tri j) col rest).0 t) ∙ e) v u h (omega arith) (omega arith)) (eq-or-lt_of_le a))
    (λ i t. absurd (none_not (sym ((in_column_lem (tri j) col rest).1 i t) ∙ e)))

pub columns_none : (f : ℕ → ℕ → Bool) (p : ℕ) → columns_from f 0 p ≡ none → (v u : ℕ) → v ≤ u → u < p → f v u ≡ false
columns_none f p e v u h l = columns_none_from f p 0 e v u h (omega arith) (omega arith)

columns_sound_from : (f : ℕ → ℕ → Bool) (n j : ℕ) → ((v u : ℕ) → v ≤ u → j ≤ u → u < j + n → f v u ≡ false) → columns_from f j n ≡ none
unfolding columns_from
columns_sound_from f zero j h = refl
columns_sound_from f (suc n) j h =
    let col = first_sound (λ i. f i j) (suc j) (λ v l. h v j (omega arith) (omega arith) (omega arith)) in
    (in_column_lem (tri j) _ _).0 col ∙ columns_sound_from f n (j + 1) (λ v u a b l. h v u a (omega arith) (omega arith))

pub columns_sound : (f : ℕ → ℕ → Bool) (p : ℕ) → ((v u : ℕ) → v ≤ u → u < p → f v u ≡ false) → columns_from f 0 p ≡ none
columns_sound f p h = columns_sound_from f p 0 (λ v u a b l. h v u a (omega arith))

-- of a triangle's entries, in the order of their places
pub record FirstEntry (f : ℕ → ℕ → Bool) (p k : ℕ) : Type 0 where
  pub row : ℕ
  pub column : ℕ
  pub upper : row ≤ column
  pub inside : column < p
  pub place : k ≡ tri column + row
  pub holds : f row column ≡ true
  pub before : (i j : ℕ) → i ≤ j → tri j + i < k → f i j ≡ false

first_entry_from : (f : ℕ → ℕ → Bool) (n j k : ℕ) → ((v u : ℕ) → v ≤ u → u < j → f v u ≡ false) → columns_from f j n ≡ at k → FirstEntry f (j + n) k
unfolding columns_from
first_entry_from f zero j k known e = absurd (none_not (sym e))
first_entry_from f (suc n) j k known e =
    let col = first_from (λ i. f i j) 0 (suc j) in
    let rest = columns_from f (j + 1) n in
    by_found col
    (λ t. let more : (v u : ℕ) → v ≤ u → u < j + 1 → f v u ≡ false =
    λ v u h l. ⊎_elim (λ q. subst (λ m. f v m ≡ false) (sym q) (first_none (λ i. f i j) (suc j) t v (omega arith))) (λ q. known v u h (omega arith)) (eq-or-lt_of_le (low l)) in
    let r = first_entry_from f n (j + 1) k more (sym ((in_column_lem (tri j) col rest).0 t) ∙ e) in
    record {
      row = r.row;
      column = r.column;
      upper = r.upper;
      inside = omega (arith, r.inside);
      place = r.place;
      holds = r.holds;
      before = r.before;
    })
    (λ i t. let same : tri j + i ≡ k = at_same (sym ((in_column_lem (tri j) col rest).1 i t) ∙ e) in
    let r = first_number (λ v. f v j) (suc j) i t in
    let upper : i ≤ j = omega (arith, r.inside) in
    record {
      row = i;
      column = j;
      upper = upper;
      inside = omega arith;
      place = sym same;
      holds = r.holds;
      before = λ v u h l. ⊎_elim (λ lt. known v u h lt) (λ q. subst (λ m. f v m ≡ false) (sym q.0) (r.before v q.1))
          (earlier v u i j h upper (subst (λ m. tri u + v < m) (sym same) l));
    })
  where
    low : {m : ℕ} → m < j + 1 → m ≤ j
    low l = omega arith

pub first_entry : (f : ℕ → ℕ → Bool) (p k : ℕ) → columns_from f 0 p ≡ at k → FirstEntry f p k
first_entry f p k e =
    subst (λ n. FirstEntry f n k) (zero-add p) (first_entry_from f p 0 k (λ v u h l. absurd (not-suc-le-zero l)) e)

pub columns_inside : (f : ℕ → ℕ → Bool) (p k : ℕ) → columns_from f 0 p ≡ at k → k < tri p
columns_inside f p k e =
    let r = first_entry f p k e in
    omega (arith, r.place, r.upper, tri_within r.column p r.inside)
