-- One step of the walk over two ascending lists, by which of them has the next number of the union; and the walk's stores.
-- Assumes nothing.
use mathlib.Core.Path.{◌≡◌, refl, sym, ap, ◌∙◌, subst}
use mathlib.Core.List.{List, [], ◌∷◌, map}
use mathlib.Core.Bool.{true}
use Prim.Native.Nat.{ℕ, zero, suc, ◌+◌, ◌-◌, ◌≤◌, ◌<◌}
use native.Mathlib.Nat.{add-zero, add-suc, suc-add, zero-add}
use native.Mathlib.Numerals.{add-one}
use native.Mathlib.Omega.{arith}
use lib.ListN.{length, drop, get_or, set, length-drop, length-map, drop_of_length-le}
use lib.Seq.{drop-cons}
use Rattle.num_whole.specs.Tests.{pick}
use Rattle.num_whole.proofs.Cases.{is_less, not_less}
use Rattle.byte_words.specs.Words.{lay}
use Rattle.norm_labels.specs.Seats.{ascending, seat, seats}
use Rattle.merge_join.specs.Join.{union, Joins}
use Rattle.merge_join.specs.Walk.{ahead, Stepped}
use Rattle.merge_join.specs.declared.Turn.{Turn}
use Rattle.norm_labels.proofs.Ascending.{Asc, asc_from, asc_down}
use Rattle.merge_join.proofs.Union.{union_asc, union_comm}
use Rattle.norm_labels.proofs.Seats.{seat_first, seat_later, seat_below}

asc_drop : (floor i : ℕ) (l : List ℕ) → Asc floor l → Asc floor (drop i l)
asc_drop floor zero l p = p
asc_drop floor (suc i) [] p = tt
asc_drop floor (suc i) (x ∷ l) p = asc_down floor (suc x) (drop i l) (more p.0) (asc_drop (suc x) i l p.1)
  where
    more : floor ≤ x → floor ≤ suc x
    more h = omega arith

-- what two functions do alike from a floor on
map_above : (f g : ℕ → ℕ) (floor : ℕ) (l : List ℕ) → Asc floor l → ((k : ℕ) → floor ≤ k → f k ≡ g k) → map f l ≡ map g l
map_above f g floor [] p h = refl
map_above f g floor (x ∷ l) p h =
    ap (λ t. f x ∷ t) (map_above f g (suc x) l p.1 (λ k b. h k (more k p.0 b))) ∙ ap (λ v. v ∷ map g l) (h x p.0)
  where
    more : (k : ℕ) → floor ≤ x → suc x ≤ k → floor ≤ k
    more k a b = omega arith

-- ---- on what is left of the two lists: the places in the first, from the ith on
abbrev places : ℕ → List ℕ → List ℕ → List ℕ
places i l u = map (λ k. i + seat l k) u

-- past the first number of the first list
later : (i x : ℕ) (l u : List ℕ) → Asc (suc x) u → places i (x ∷ l) u ≡ places (suc i) l u
later i x l u p =
    map_above (λ k. i + seat (x ∷ l) k) (λ k. suc i + seat l k) (suc x) u p
    (λ k h. ap (λ n. i + n) (seat_later x k l (under h)) ∙ add-suc i (seat l k) ∙ sym (suc-add i (seat l k)))
  where
    under : {k : ℕ} → suc x ≤ k → x ≡ k → ⊥
    under h e = omega arith

first : (i x : ℕ) (l u : List ℕ) → places i (x ∷ l) (x ∷ u) ≡ i ∷ places i (x ∷ l) u
first i x l u = ap (λ n. n ∷ places i (x ∷ l) u) (ap (λ n. i + n) (seat_first x x l refl) ∙ add-zero i)

lacking : (i y : ℕ) (l u : List ℕ) → Asc (suc y) l → places i l (y ∷ u) ≡ (i + length l) ∷ places i l u
lacking i y l u p = ap (λ n. (i + n) ∷ places i l u) (seat_below y l p)

union_left : (x y : ℕ) (xs ys : List ℕ) → x < y → union (x ∷ xs) (y ∷ ys) ≡ x ∷ union xs (y ∷ ys)
unfolding union pick
union_left x y xs ys t = rw (is_less x y t)

union_right : (x y : ℕ) (xs ys : List ℕ) → y < x → union (x ∷ xs) (y ∷ ys) ≡ y ∷ union (x ∷ xs) ys
unfolding union pick
union_right x y xs ys t = rw (not_less x y (omega arith), is_less y x t)

union_both : (x y : ℕ) (xs ys : List ℕ) → x ≡ y → union (x ∷ xs) (y ∷ ys) ≡ x ∷ union xs ys
unfolding union pick
union_both x y xs ys t = rw (not_less x y (omega arith), not_less y x (omega arith))

union_nil : (xs : List ℕ) → union xs [] ≡ xs
unfolding union
union_nil [] = refl
union_nil (x ∷ xs) = refl

-- ---- the steps, with i numbers of the first list done and j of the second
module _ (xs ys : List ℕ) (p : ascending xs ≡ true) (q : ascending ys ≡ true) (i j : ℕ) where
  asc_left : i < length xs → Asc 0 (get_or xs i 0 ∷ drop (suc i) xs)
  asc_left h = subst (Asc 0) (drop-cons xs i 0 h) (asc_drop 0 i xs (asc_from xs p))

  asc_right : j < length ys → Asc 0 (get_or ys j 0 ∷ drop (suc j) ys)
  asc_right h = subst (Asc 0) (drop-cons ys j 0 h) (asc_drop 0 j ys (asc_from ys q))

  pub ends : length xs ≤ i → length ys ≤ j → ahead xs ys i j ≡ []
  unfolding ahead union
  ends g h =
      let g' : drop i xs ≡ [] = drop_of_length-le xs g in
      let h' : drop j ys ≡ [] = drop_of_length-le ys h in
      rw (g', h')

  -- the first list has the next number, the second does not
  pub own_last : i < length xs → length ys ≤ j → ahead xs ys i j ≡ i ∷ ahead xs ys (i + 1) j
  unfolding ahead union
  own_last g h =
      let g' : drop i xs ≡ get_or xs i 0 ∷ drop (suc i) xs = drop-cons xs i 0 g in
      let h' : drop j ys ≡ [] = drop_of_length-le ys h in
      rw (add-one, g', h', union_nil)
      (first i (get_or xs i 0) (drop (suc i) xs) (drop (suc i) xs) ∙ ap (λ t. i ∷ t) (later i (get_or xs i 0) (drop (suc i) xs) (drop (suc i) xs) (asc_left g).1))

  pub own_next : i < length xs → j < length ys → get_or xs i 0 < get_or ys j 0 → ahead xs ys i j ≡ i ∷ ahead xs ys (i + 1) j
  unfolding ahead
  own_next g h t =
      let g' : drop i xs ≡ get_or xs i 0 ∷ drop (suc i) xs = drop-cons xs i 0 g in
      let h' : drop j ys ≡ get_or ys j 0 ∷ drop (suc j) ys = drop-cons ys j 0 h in
      let u = union (drop (suc i) xs) (get_or ys j 0 ∷ drop (suc j) ys) in
      let a : Asc (suc (get_or xs i 0)) u = union_asc (suc (get_or xs i 0)) (drop (suc i) xs) (get_or ys j 0 ∷ drop (suc j) ys) (asc_left g).1 (t, (asc_right h).1) in
      rw (add-one, g', h', union_left (get_or xs i 0) (get_or ys j 0) (drop (suc i) xs) (drop (suc j) ys) t)
      (first i (get_or xs i 0) (drop (suc i) xs) u ∙ ap (λ t. i ∷ t) (later i (get_or xs i 0) (drop (suc i) xs) u a))

  -- the second list has the next number, the first does not
  pub other_last : length xs ≤ i → i ≤ length xs → j < length ys → ahead xs ys i j ≡ length xs ∷ ahead xs ys i (j + 1)
  unfolding ahead union
  other_last g g₁ h =
      let g' : drop i xs ≡ [] = drop_of_length-le xs g in
      let h' : drop j ys ≡ get_or ys j 0 ∷ drop (suc j) ys = drop-cons ys j 0 h in
      let e : i + 0 ≡ length xs = omega arith in
      rw (add-one, g', h') (lacking i (get_or ys j 0) [] (drop (suc j) ys) tt ∙ ap (λ n. n ∷ places i [] (drop (suc j) ys)) e)

  pub other_next : i < length xs → j < length ys → get_or ys j 0 < get_or xs i 0 → ahead xs ys i j ≡ length xs ∷ ahead xs ys i (j + 1)
  unfolding ahead
  other_next g h t =
      let g' : drop i xs ≡ get_or xs i 0 ∷ drop (suc i) xs = drop-cons xs i 0 g in
      let h' : drop j ys ≡ get_or ys j 0 ∷ drop (suc j) ys = drop-cons ys j 0 h in
      let u = union (get_or xs i 0 ∷ drop (suc i) xs) (drop (suc j) ys) in
      let n : length (drop (suc i) xs) ≡ length xs - suc i = length-drop (suc i) xs in
      let e : i + suc (length (drop (suc i) xs)) ≡ length xs = omega arith in
      rw (add-one, g', h', union_right (get_or xs i 0) (get_or ys j 0) (drop (suc i) xs) (drop (suc j) ys) t)
      (lacking i (get_or ys j 0) (get_or xs i 0 ∷ drop (suc i) xs) u (t, (asc_left g).1) ∙ ap (λ n. n ∷ places i (get_or xs i 0 ∷ drop (suc i) xs) u) e)

  -- both have it
  pub both_next : i < length xs → j < length ys → get_or xs i 0 ≡ get_or ys j 0 → ahead xs ys i j ≡ i ∷ ahead xs ys (i + 1) (j + 1)
  unfolding ahead
  both_next g h t =
      let g' : drop i xs ≡ get_or xs i 0 ∷ drop (suc i) xs = drop-cons xs i 0 g in
      let h' : drop j ys ≡ get_or ys j 0 ∷ drop (suc j) ys = drop-cons ys j 0 h in
      let u = union (drop (suc i) xs) (drop (suc j) ys) in
      let a : Asc (suc (get_or xs i 0)) u = union_asc (suc (get_or xs i 0)) (drop (suc i) xs) (drop (suc j) ys) (asc_left g).1 (subst (λ k. Asc (suc k) (drop (suc j) ys)) (sym t) (asc_right h).1) in
      rw (add-one i, add-one j, g', h', union_both (get_or xs i 0) (get_or ys j 0) (drop (suc i) xs) (drop (suc j) ys) t)
      (first i (get_or xs i 0) (drop (suc i) xs) u ∙ ap (λ t. i ∷ t) (later i (get_or xs i 0) (drop (suc i) xs) u a))

-- ---- the walk: n numbers of the union are stored, and the rest is to come
abbrev pub Walking : List ℕ → List ℕ → List ℕ → List ℕ → List ℕ → List ℕ → ℕ → ℕ → ℕ → Type 0
Walking xs ys left₀ right₀ left right i j n =
    (n + length (ahead xs ys i j) ≡ length (union xs ys))
    × (lay left n (ahead xs ys i j) ≡ lay left₀ 0 (ahead xs ys 0 0))
    × (lay right n (ahead ys xs j i) ≡ lay right₀ 0 (ahead ys xs 0 0))

pub walk_starts : (xs ys left right : List ℕ) → Walking xs ys left right left right 0 0 0
unfolding ahead
walk_starts xs ys left right = (zero-add _ ∙ length-map (union xs ys) (λ k. 0 + seat xs k), refl, refl)

pub lay_one : (l : List ℕ) (n v : ℕ) (more : List ℕ) → lay l n (v ∷ more) ≡ lay (set l n v) (n + 1) more
unfolding lay
lay_one l n v more = rw add-one

pub walk_on : (xs ys left₀ right₀ left right : List ℕ) (i j n : ℕ) (t : Turn) → Stepped xs ys i j t → Walking xs ys left₀ right₀ left right i j n
    → Walking xs ys left₀ right₀ (set left n t.left) (set right n t.right) t.i t.j (n + 1)
walk_on xs ys left₀ right₀ left right i j n t s w =
    let more : length (ahead xs ys i j) ≡ suc (length (ahead xs ys t.i t.j)) = ap length s.takes_left in
    let count : n + length (ahead xs ys i j) ≡ length (union xs ys) = w.0 in (
      omega arith,
      sym (lay_one left n t.left (ahead xs ys t.i t.j)) ∙ ap (lay left n) (sym s.takes_left) ∙ w.1,
      sym (lay_one right n t.right (ahead ys xs t.j t.i)) ∙ ap (lay right n) (sym s.takes_right) ∙ w.2,
    )

pub lay_none : (l : List ℕ) (n : ℕ) → lay l n [] ≡ l
unfolding lay
lay_none l n = refl

all : (xs ys : List ℕ) → ahead xs ys 0 0 ≡ seats xs (union xs ys)
unfolding ahead seats
all xs ys = ap (λ f. map f (union xs ys)) (λ i k. zero-add (seat xs k) i)

pub walk_ends : (xs ys left₀ right₀ left right : List ℕ) (i j n : ℕ) → ascending xs ≡ true → ascending ys ≡ true → length xs ≤ i → length ys ≤ j
    → Walking xs ys left₀ right₀ left right i j n → Joins xs ys left₀ right₀ n left right
walk_ends xs ys left₀ right₀ left right i j n p q g h w =
    let done : ahead xs ys i j ≡ [] = ends xs ys p q i j g h in
    let done' : ahead ys xs j i ≡ [] = ends ys xs q p j i h g in
    let none : length (ahead xs ys i j) ≡ 0 = ap length done in
    let count : n + length (ahead xs ys i j) ≡ length (union xs ys) = w.0 in
    record {
      count = omega arith;
      left_is = sym (lay_none left n) ∙ ap (lay left n) (sym done) ∙ w.1 ∙ ap (lay left₀ 0) (all xs ys);
      right_is = sym (lay_none right n) ∙ ap (lay right n) (sym done') ∙ w.2 ∙ ap (lay right₀ 0) (all ys xs ∙ ap (seats ys) (union_comm ys xs q p));
    }
