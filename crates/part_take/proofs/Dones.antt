-- The records that a part completes, out of the front and the part.
-- Assumes nothing.
use Prim.Native.Nat.{ℕ, suc, ◌+◌, ◌-◌, ◌*◌, ◌≤◌, min}
use mathlib.Core.Path.{◌≡◌, refl, sym, ap, ap₂, ◌∙◌}
use mathlib.Core.List.{List, [], ◌∷◌}
use native.Mathlib.Omega.{arith}
use native.Mathlib.Nat.{suc-mul}
use lib.ListN.{length, take, drop, replicate, length-append, length-take}
use lib.Seq.{length-take-le, drop-drop, drop-append-add, take-take, take_at}
use Rattle.arc_read.specs.Arc.{Arc}
use Rattle.take_state.specs.State.{State, state_number}
use Rattle.take_laws.specs.Taking.{cut}
use Rattle.arc_heading.proofs.Sound.{sound}
use Rattle.take_laws.proofs.Guarded.{whole}
use Rattle.part_laws.specs.Beginning.{size_of, done}
use Rattle.part_laws.proofs.Front.{opened_start, done_within, done_cut, cut_take, drop_take_le}
use Rattle.part_place.specs.declared.Front.{Front}
use Rattle.part_take.specs.Ready.{beginning, Ready}

nothing : {A : Type 0} (l : List A) → length l ≡ 0 → l ≡ []
nothing [] e = refl
nothing (x ∷ l) e = absurd (omega arith)

front_part : (i k m : ℕ) (l : List ℕ) → i + k ≤ m → take k (drop i (take m l)) ≡ take k (drop i l)
front_part i k m l h =
    let j = m - i in
    let all : m ≡ i + j = omega arith in
    let less : k ≤ j = omega arith in
    ap (λ x. take k (drop i (take x l))) all ∙ ap (take k) (drop_take_le i j l) ∙ take-take k j (drop i l) less

module _ (a : Arc) (f : Front) (taken n : ℕ) (bytes : List ℕ) (r : Ready a f taken n bytes) (room : length f.room ≡ 1088) where
  abbrev start : ℕ
  start = a.start

  abbrev front : List ℕ
  front = f.room

  abbrev len : ℕ
  len = f.held

  abbrev size : ℕ
  size = size_of a

  abbrev b : List ℕ
  b = beginning f bytes

  pub low : start ≤ 956
  low = opened_start b a r.opens

  long : length b ≡ len + length bytes
  long = length-append (take len front) bytes ∙ ap (λ k. k + length bytes) (length-take-le len front (omega (arith, r.within)))

  -- the front is that of the bytes
  pub front_first : take (min 1088 (len + length bytes)) front ≡ take 1088 b
  front_first =
      let m = min 1088 (len + length bytes) in
      let size_is : length (take 1088 b) ≡ m = length-take 1088 b ∙ omega (arith, long) in
      ap (take m) r.room ∙ take_at (take 1088 b) (replicate (1088 - length (take 1088 b)) 0) m size_is

  -- they stand in the bytes
  pub inside : start + n * size ≤ len + length bytes
  inside = omega (arith, done_within taken b a r.opens, long, ap (λ k. k * size) r.number)

  pub none_done : n ≡ 0 → [] ≡ done taken b
  none_done z = sym (nothing (done taken b) (omega (arith, r.number)))

  pub some_done : (k : ℕ) → n ≡ suc k → a.heading.parameters ≤ 50
      → take size (drop start front) ∷ cut size k (take (k * size) (drop (start + size - len) bytes)) ≡ done taken b
  unfolding cut
  some_done k e few =
      let room-one : start + size ≤ length b = omega (arith, inside, long, ap (λ m. m * size) e, suc-mul k size) in
      let m = min 1088 (len + length bytes) in
      let first : take size (drop start front) ≡ take size (drop start b) =
      sym (front_part start size m front (omega (arith, low, r.near, long)))
      ∙ ap (λ z. take size (drop start z)) front_first
      ∙ front_part start size 1088 b (omega (arith, low)) in
      let gap : len + (start + size - len) ≡ start + size = omega (arith, r.near) in
      let others : drop (start + size - len) bytes ≡ drop size (drop start b) =
      sym (drop-append-add (take len front) bytes (start + size - len))
      ∙ ap (λ j. drop j b) (ap (λ j. j + (start + size - len)) (length-take-le len front (omega (arith, r.within))) ∙ gap)
      ∙ sym (drop-drop size start b) in
      ap₂ (λ x y. x ∷ y) first (cut_take size k (drop (start + size - len) bytes) ∙ ap (cut size k) others)
      ∙ sym (done_cut taken b a r.opens ∙ ap (λ j. cut size j (drop start b)) (sym r.number ∙ e))

  inside_others : (k : ℕ) → n ≡ suc k → start + (k * size + size) ≤ len + length bytes
  inside_others k e = omega (arith, inside, ap (λ m. m * size) e, suc-mul k size)

  -- so the numbers of the code fit
  pub numbers : (s : State) → state_number a.heading s ≡ 0 → (n ≡ 0 → ⊥)
      → (a.heading.parameters ≤ 50) × (start ≤ 956) × (start + ((n - 1) * size + size) ≤ len + length bytes)
  numbers s e some = ((sound a.heading (whole a.heading s e).heading).few, low, inside_others (n - 1) (omega arith))
