-- Where a part leads once the file is opened: a surplus, or what is left.
-- Assumes nothing.
use Prim.Native.Nat.{ℕ, suc, ◌+◌, ◌-◌, ◌*◌, ◌≤◌, ◌<◌, min}
use mathlib.Core.Path.{◌≡◌, refl, sym, ap, ap₂, ◌∙◌}
use mathlib.Core.List.{List, ◌++◌}
use mathlib.Core.Bool.{false}
use native.Mathlib.Omega.{arith}
use native.Mathlib.Nat.{add-mul, zero-mul, suc-mul}
use lib.ListN.{length, take, drop, length-append, length-drop, take-append-drop}
use lib.Seq.{length-take-le, drop-append-add, take-take, take_all}
use Rattle.num_whole.specs.Tests.{less}
use Rattle.num_whole.specs.Answer.{Judged, good, bad}
use Rattle.num_whole.specs.Lists.{padded}
use Rattle.num_whole.proofs.Cases.{yes, no, by_cases, is_less, not_less, not_same, less_true, less_false}
use Rattle.arc_kinds.specs.Kinds.{record_size}
use Rattle.arc_read.specs.Arc.{Arc}
use Rattle.part_laws.specs.Beginning.{size_of, ends_at, closed_at, whole, behind, left, read_at}
use Rattle.part_laws.specs.Feeding.{ended, so_far, moved}
use Rattle.part_laws.specs.Entries.{position_most, held_of, took, broken, told_form}
use Rattle.part_laws.proofs.Runs.{whole_long}
use Rattle.part_laws.proofs.Cuts.{left_good, read_good}
use Rattle.part_laws.proofs.Six.{whole_few, behind_few, so_far_within}
use Rattle.part_laws.proofs.Opened.{opened_within}
use Rattle.part_laws.proofs.Front.{opened_start, left_cut}
use Rattle.part_place.specs.declared.Front.{Front}
use Rattle.part_take.specs.Ready.{beginning, Ready}
use Rattle.part_take.proofs.Dones.{front_first}

module _ (a : Arc) (f : Front) (taken n : ℕ) (bytes : List ℕ) (r : Ready a f taken n bytes) (room : length f.room ≡ 1088)
    (few : a.heading.parameters ≤ 50) (fewer : taken ≤ a.count)
  where
    abbrev count : ℕ
    count = a.count

    abbrev start : ℕ
    start = a.start

    abbrev front : List ℕ
    front = f.room

    abbrev len : ℕ
    len = f.held

    abbrev size : ℕ
    size = size_of a

    abbrev b : List ℕ
    b = beginning f bytes

    abbrev verdict : Judged (Unit {0})
    verdict = so_far (read_at taken b)

    long : length b ≡ len + length bytes
    long = length-append (take len front) bytes ∙ ap (λ k. k + length bytes) (length-take-le len front (omega (arith, r.within)))

    read_is : read_at taken b ≡ closed_at a (len + length bytes + taken * size)
    read_is = read_good taken b a r.opens ∙ ap (λ k. closed_at a (k + taken * size)) long

    abbrev N : ℕ
    N = len + length bytes + taken * size

    -- 3
    pub goes_surplus : start + count * size < N
        → (broken 3 (start + count * size) (taken + n) ≡ told_form verdict n (taken + n)) × (held_of (ended (taken + n)) ≡ held_of (moved verdict (taken + n) (left taken b)))
    unfolding so_far closed_at
    goes_surplus p =
        let is : closed_at a N ≡ bad 3 (ends_at a) = sym (no _ _ _ (not_less _ _ (omega arith)) (yes _ _ _ (is_less _ _ p) refl)) in
        let three : bad 3 (ends_at a) ≡ verdict = no _ _ _ (not_same 3 1 (λ z. omega arith)) refl ∙ ap so_far (sym (read_is ∙ is)) in
        (ap (λ v. told_form v n (taken + n)) three, ap (λ v. held_of (moved v (taken + n) (left taken b))) three)

    -- or not
    module _ (p : N ≤ start + count * size) where
      goes_on : good tt ≡ verdict
      goes_on = sym (ap so_far read_is ∙ so_far_within a N p)

      -- what is left is short
      left_long : length (left taken b) ≤ 1087
      left_long =
          let m = count - taken in
          let l = drop start b in
          let j = length (whole size m l) in
          let rest = length (behind size m l) in
          let within = opened_within b a r.opens in
          let is : length (left taken b) ≡ start + rest =
          ap length (left_good taken b a r.opens) ∙ length-append (take start b) (behind size m l) ∙ ap (λ k. k + rest) (length-take-le start b within) in
          let low = opened_start b a r.opens in
          by_cases (less j m)
          (λ e. omega (arith, is, low, behind_few size m l (less_true _ _ e)))
          (λ e. let all : j + taken ≡ count = omega (arith, less_false _ _ e, whole_few size m l) in
          omega (arith, is, low, long, whole_long size m l, length-drop start b, add-mul j taken size, ap (λ x. x * size) all))

      left_is : left taken b ≡ take start b ++ drop (start + n * size) b
      left_is = left_cut taken b a r.opens ∙ ap (λ k. take start b ++ drop (start + k * size) b) (sym r.number)

      -- no record: all of it
      pub goes_none : n ≡ 0 → (took 0 ≡ told_form verdict n (taken + n))
          × (record { kept = front; length = len + length bytes; taken = taken + n; over = false } ≡ held_of (moved verdict (taken + n) (left taken b)))
      goes_none z =
          let whole-b : left taken b ≡ b = left_is ∙ ap (λ k. take start b ++ drop k b) none ∙ take-append-drop start b in
          let small : length b ≤ 1087 = omega (arith, ap length whole-b, left_long) in
          let kept : front ≡ padded position_most 0 (left taken b) = r.room ∙ ap (padded position_most 0) (take_all 1088 b (omega arith) ∙ sym whole-b) in (
            ap₂ (λ v k. told_form v k (taken + n)) goes_on (sym z),
            ap₂ (λ x k. record { kept = x; length = k; taken = taken + n; over = false }) kept (sym long ∙ ap length (sym whole-b)) ∙ ap (λ v. held_of (moved v (taken + n) (left taken b))) goes_on,
          )
        where
          none : start + n * size ≡ start
          none = ap (λ k. start + k * size) z ∙ omega (arith, zero-mul size)

      -- some: the front's heading, and the rest of the part
      module _ (some : 1 ≤ n) where
        abbrev upto : ℕ
        upto = start + n * size - len

        pub more : size ≤ n * size
        more = let k = n - 1 in let e : n ≡ suc k = omega arith in omega (arith, ap (λ x. x * size) e, suc-mul k size)

        rest_is : drop upto bytes ≡ drop (start + n * size) b
        rest_is =
            let gap : len + upto ≡ start + n * size = omega (arith, r.near, more) in
            sym (drop-append-add (take len front) bytes upto)
            ∙ ap (λ j. drop j b) (ap (λ j. j + upto) (length-take-le len front (omega (arith, r.within))) ∙ gap)

        pub rest_fits : start + length (drop upto bytes) ≤ 1088
        rest_fits =
            omega (
              arith,
              left_long,
              ap length left_is,
              length-append (take start b) (drop (start + n * size) b),
              length-take-le start b (opened_within b a r.opens),
              ap length rest_is,
            )

        pub goes_some : (took n ≡ told_form verdict n (taken + n))
            × (record { kept = padded position_most 0 (take start front ++ drop upto bytes); length = start + length (drop upto bytes); taken = taken + n; over = false }
            ≡ held_of (moved verdict (taken + n) (left taken b)))
        goes_some =
            let low = opened_start b a r.opens in
            let within = opened_within b a r.opens in
            let rest = drop upto bytes in
            let m = min 1088 (len + length bytes) in
            let head : take start front ≡ take start b =
            sym (take-take start m front (omega (arith, low, within, long)))
            ∙ ap (take start) (front_first a f taken n bytes r room)
            ∙ take-take start 1088 b (omega (arith, low)) in
            let is : take start front ++ rest ≡ left taken b = ap₂ (λ x y. x ++ y) head rest_is ∙ sym left_is in
            let size_is : start + length rest ≡ length (left taken b) =
            ap (λ k. k + length rest) (sym (length-take-le start front (omega (arith, low)))) ∙ sym (length-append (take start front) rest) ∙ ap length is in (
              ap (λ v. told_form v n (taken + n)) goes_on,
              ap₂ (λ x k. record { kept = padded position_most 0 x; length = k; taken = taken + n; over = false }) is size_is
                  ∙ ap (λ v. held_of (moved v (taken + n) (left taken b))) goes_on,
            )
