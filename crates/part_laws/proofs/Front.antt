-- What the code goes by: the front of a beginning opens it, for a heading with its counts is at most 956 bytes; and how many records are whole.
-- Assumes nothing.
use Prim.Native.Nat.{ℕ, zero, suc, ◌+◌, ◌-◌, ◌*◌, ◌/◌, ◌≤◌, ◌<◌, min}
use mathlib.Core.Path.{◌≡◌, refl, sym, ap, ap₂, ◌∙◌, subst}
use mathlib.Core.List.{List, [], ◌∷◌, ◌++◌}
use native.Mathlib.Omega.{arith}
use native.Mathlib.Nat.{suc-add, zero-add, suc-mul, zero-mul, div-eq_of_lt, add-div_right}
use lib.ListN.{length, take, drop, length-drop, take-append-drop}
use lib.Seq.{length-take-le, take_all, take-nil, drop-drop}
use Rattle.num_limits.specs.Capacities.{parameters_most, stations_most, records_most}
use Rattle.num_whole.specs.Tests.{less}
use Rattle.num_whole.specs.Answer.{good, bad}
use Rattle.num_whole.proofs.Cases.{by_cases, less_true, less_false}
use Rattle.byte_section.proofs.Walk.{not_bad, good_same, by_judged, then_read}
use Rattle.byte_section.proofs.Read.{section_read}
use Rattle.byte_section.proofs.Fronts.{Short, then_short, count_short, section_short}
use Rattle.arc_kinds.specs.Kinds.{settings_kind, label_kind, station_kind}
use Rattle.arc_read.specs.Arc.{Arc}
use Rattle.take_laws.specs.Taking.{cut}
use Rattle.part_laws.specs.Beginning.{opened, size_of, whole, behind, done, left}
use Rattle.part_laws.specs.Entries.{opened_most, position_most}
use Rattle.part_laws.proofs.Runs.{whole_more, behind_more, whole_short, behind_short, whole_long}
use Rattle.part_laws.proofs.Opened.{opened_stays, opened_within}
use Rattle.part_laws.proofs.Cuts.{done_good, left_good}

-- a heading with its counts: 4 + 12, 4 + 50·16, 4 + 16·8 and 4 bytes at most. Where it is not complete, the place is the number of bytes
pub opened_short : (s : List ℕ) (place : ℕ) → opened s ≡ bad 1 place → Short s place opened_most
unfolding opened
opened_short s place e =
    then_short _ _ place
    (λ f. let x = section_short s place settings_kind 1 1 0 f in
    record { few = omega (arith, x.1.0, x.1.1.few); here = x.1.1.here })
    (λ a f. let one = section_read settings_kind s 1 1 0 a f in
    then_short _ _ place
    (λ g. let x = section_short s place label_kind 1 parameters_most a.next g in
    record { few = omega (arith, x.1.0, x.1.1.few, one.next, one.count.to); here = x.1.1.here })
    (λ b g. let two = section_read label_kind s 1 parameters_most a.next b g in
    then_short _ _ place
    (λ h. let x = section_short s place station_kind 0 stations_most b.next h in
    record { few = omega (arith, x.1.0, x.1.1.few, one.next, one.count.to, two.next, two.count.to); here = x.1.1.here })
    (λ c h. let three = section_read station_kind s 0 stations_most b.next c h in
    then_short _ _ place
    (λ k. let x = count_short s place c.next 0 records_most k in
    record { few = omega (arith, x.few, one.next, one.count.to, two.next, two.count.to, three.next, three.count.to); here = x.here })
    (λ n k z. absurd (not_bad z)))))
    e

pub opened_start : (s : List ℕ) (a : Arc) → opened s ≡ good a → a.start ≤ opened_most
unfolding opened
opened_start s a e =
    let p = then_read _ _ _ e in
    let q = then_read _ _ _ p.2 in
    let r = then_read _ _ _ q.2 in
    let t = then_read _ _ _ r.2 in
    let one = section_read settings_kind s 1 1 0 p.0 p.1 in
    let two = section_read label_kind s 1 parameters_most p.0.next q.0 q.1 in
    let three = section_read station_kind s 0 stations_most q.0.next r.0 r.1 in
    omega (arith, one.next, one.count.to, two.next, two.count.to, three.next, three.count.to, ap (λ x. x.start) (good_same t.2))

-- so the first bytes, as many as a position has room for, open a file as all of them do
pub opened_front : (b : List ℕ) → opened (take position_most b) ≡ opened b
opened_front b =
    by_cases (less (length b) position_most)
    (λ e. ap opened (take_all position_most b (omega (arith, less_true _ _ e))))
    (λ e. let long : length (take position_most b) ≡ position_most = length-take-le position_most b (less_false _ _ e) in
    let u = take position_most b in
    let stays = opened_stays u (drop position_most b) in
    let whole-b : opened (u ++ drop position_most b) ≡ opened b = ap opened (take-append-drop position_most b) in
    by_judged (opened u)
    (λ a o. o ∙ sym (stays.same a o) ∙ whole-b)
    (λ number place o. o
    ∙ sym (stays.kept number place o (λ z. absurd (omega (arith, (opened_short u place (subst (λ n. opened u ≡ bad n place) z o)).few))))
    ∙ whole-b))

-- ---- how many records are whole, which, and what follows them
module _ (size : ℕ) where
  pub whole_is : (n : ℕ) (l : List ℕ) → whole size n l ≡ cut size (length (whole size n l)) l
  unfolding cut whole
  whole_is zero l = refl
  whole_is (suc n) l =
      by_cases (less (length l) size)
      (λ e. rw (whole_short size n l (less_true _ _ e)))
      (λ e. rw (whole_more size n l (less_false _ _ e)) (ap (λ x. take size l ∷ x) (whole_is n (drop size l))))

  pub behind_is : (n : ℕ) (l : List ℕ) → behind size n l ≡ drop (length (whole size n l) * size) l
  unfolding whole behind
  behind_is zero l = rw (zero-mul size)
  behind_is (suc n) l =
      by_cases (less (length l) size)
      (λ e. rw (whole_short size n l (less_true _ _ e), behind_short size n l (less_true _ _ e), zero-mul))
      (λ e. let h = less_false _ _ e in
      let k = length (whole size n (drop size l)) in
      let all : size + k * size ≡ suc k * size = omega (arith, suc-mul k size) in
      rw (whole_more size n l h, behind_more size n l h)
      (behind_is n (drop size l) ∙ drop-drop (k * size) size l ∙ ap (λ m. drop m l) all))

  pub whole_number : 0 < size → (n : ℕ) (l : List ℕ) → length (whole size n l) ≡ min n (length l / size)
  unfolding whole
  whole_number some zero l = omega arith
  whole_number some (suc n) l =
      by_cases (less (length l) size)
      (λ e. let h = less_true _ _ e in rw (whole_short size n l h) (omega (arith, div-eq_of_lt h)))
      (λ e. let h = less_false _ _ e in
      let one : length l ≡ length (drop size l) + size = omega (arith, length-drop size l) in
      rw (whole_more size n l h)
      (omega (arith, whole_number some n (drop size l), ap (λ x. x / size) one, add-div_right (length (drop size l)) some)))

-- ---- a beginning: its records, and it without them, by their number
module _ (t : ℕ) (b : List ℕ) (a : Arc) (o : opened b ≡ good a) where
  pub done_number : length (done t b) ≡ min (a.count - t) ((length b - a.start) / size_of a)
  done_number =
      ap length (done_good t b a o) ∙ whole_number (size_of a) (omega arith) (a.count - t) (drop a.start b)
      ∙ ap (λ n. min (a.count - t) (n / size_of a)) (length-drop a.start b)

  pub done_cut : done t b ≡ cut (size_of a) (length (done t b)) (drop a.start b)
  done_cut =
      let d = done_good t b a o in
      d ∙ whole_is (size_of a) (a.count - t) (drop a.start b) ∙ ap (λ x. cut (size_of a) (length x) (drop a.start b)) (sym d)

  pub left_cut : left t b ≡ take a.start b ++ drop (a.start + length (done t b) * size_of a) b
  left_cut =
      let d = done_good t b a o in
      left_good t b a o
      ∙ ap (λ x. take a.start b ++ x) (behind_is (size_of a) (a.count - t) (drop a.start b) ∙ drop-drop _ a.start b)
      ∙ ap (λ x. take a.start b ++ drop (a.start + length x * size_of a) b) (sym d)

  -- they stand in it
  pub done_within : a.start + length (done t b) * size_of a ≤ length b
  done_within =
      let d = ap length (done_good t b a o) in
      let n = a.count - t in
      let r = drop a.start b in
      omega (arith, whole_long (size_of a) n r, length-drop a.start b, opened_within b a o, ap (λ x. x * size_of a) d)

-- the front of a front
take_take_le : (n k : ℕ) (l : List ℕ) → take n (take (n + k) l) ≡ take n l
take_take_le zero k l = refl
take_take_le (suc n) k [] = rw (suc-add n k)
take_take_le (suc n) k (x ∷ l) = rw (suc-add n k) (ap (λ z. x ∷ z) (take_take_le n k l))

pub drop_take_le : (n k : ℕ) (l : List ℕ) → drop n (take (n + k) l) ≡ take k (drop n l)
drop_take_le zero k l = rw (zero-add k)
drop_take_le (suc n) k [] = rw (suc-add n k) (sym (take-nil k))
drop_take_le (suc n) k (x ∷ l) = rw (suc-add n k) (drop_take_le n k l)

-- records cut out of no more bytes than they are
pub cut_take : (size n : ℕ) (l : List ℕ) → cut size n (take (n * size) l) ≡ cut size n l
unfolding cut
cut_take size zero l = refl
cut_take size (suc n) l =
    let sum : suc n * size ≡ size + n * size = omega (arith, suc-mul n size) in
    ap₂ (λ x y. x ∷ cut size n y)
    (ap (λ k. take size (take k l)) sum ∙ take_take_le size (n * size) l)
    (ap (λ k. drop size (take k l)) sum ∙ drop_take_le size (n * size) l)
    ∙ ap (λ x. take size l ∷ x) (cut_take size n (drop size l))
