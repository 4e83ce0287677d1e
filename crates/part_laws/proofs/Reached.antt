-- 6 of positions, exactly: each position by value that is not refused is one that begin, some bytes and perhaps finish give. So is each of a file
-- that is over: one that keeps its heading by finish, one that keeps nothing by a byte too many.
-- Assumes nothing.
use Prim.Native.Nat.{ℕ, ◌+◌, ◌-◌, ◌*◌, ◌≤◌, ◌<◌}
use mathlib.Core.Path.{◌≡◌, refl, sym, ap, ap₂, ◌∙◌, subst}
use mathlib.Core.List.{List, [], ◌∷◌, ◌++◌}
use mathlib.Core.Bool.{true, false}
use mathlib.Core.Logic.{◌⊎◌, inl, inr}
use native.Mathlib.Omega.{arith}
use native.Mathlib.Nat.{zero-add, sub-zero}
use lib.ListN.{length, drop, replicate, length-append, length-drop, length-replicate}
use Rattle.num_whole.specs.Tests.{less, up_to, same, pick, both, either, between}
use Rattle.num_whole.specs.Answer.{good, bad}
use Rattle.num_whole.proofs.Cases.{yes, no, by_cases, is_less, not_less, not_same, is_between, same_true, up_to_true, both_first, both_second}
use Rattle.num_limits.specs.Capacities.{parameters_most, stations_most, records_most}
use Rattle.byte_words.specs.Words.{word, bytes_of, signed_word}
use Rattle.byte_words.proofs.Words.{word_after, word_bytes_of, length_bytes_of}
use Rattle.byte_section.specs.Section.{and_then, count_at, judged_at, records, section_at}
use Rattle.byte_section.proofs.Walk.{by_judged, then_good}
use Rattle.byte_section.proofs.Prefix.{section_stays}
use Rattle.arc_limits.specs.Limits.{window_ok, settings_ok, index_ok, label_ok, label_key}
use Rattle.arc_kinds.specs.Kinds.{settings_at, settings_kind, label_at, label_kind, station_kind}
use Rattle.arc_kinds.proofs.Local.{settings_local, label_local, station_local}
use Rattle.arc_read.specs.Arc.{Arc, heading_of}
use Rattle.take_state.specs.State.{State}
use Rattle.take_laws.proofs.Runs.{length_cut}
use Rattle.part_laws.specs.Beginning.{opened, size_of, ends_at, closed_at, whole, done, left, read_at}
use Rattle.part_laws.specs.Feeding.{Position, begun, ended, so_far, moved, feed, finish, closing}
use Rattle.part_laws.specs.Entries.{position_most, position_of, held_of, placed, ends_by, ends, led, fair}
use Rattle.part_laws.specs.declared.Position as ByValue
use Rattle.part_laws.proofs.ByValue.{held_back}
use Rattle.part_laws.proofs.Runs.{whole_cut}
use Rattle.part_laws.proofs.Cuts.{done_good, read_good}
use Rattle.part_laws.proofs.Feeding.{not_over}
use Rattle.part_laws.proofs.Six.{amid_placed, reached}

-- ---- a small file: arc 1, its first day 1, one day, edit level 10; parameter 0 of kind 3; no station; then n records of zeros, and a byte too many
head : List ℕ
head =
    1 ∷ 0 ∷ 0 ∷ 0 ∷ 1 ∷ 0 ∷ 0 ∷ 0 ∷ 1 ∷ 0 ∷ 0 ∷ 0 ∷ 1 ∷ 0 ∷ 10 ∷ 0
    ∷ 1 ∷ 0 ∷ 0 ∷ 0 ∷ 3 ∷ 0 ∷ 0 ∷ 0 ∷ 0 ∷ 0 ∷ 0 ∷ 0 ∷ 0 ∷ 0 ∷ 0 ∷ 0 ∷ 0 ∷ 0 ∷ 0 ∷ 0
    ∷ 0 ∷ 0 ∷ 0 ∷ 0 ∷ []

one : section_at settings_kind head 1 1 0 ≡ good (record { items = settings_at head 4 ∷ []; next = 16 })
unfolding head section_at count_at records judged_at and_then pick less up_to both between word settings_at settings_ok window_ok
one = refl

two : section_at label_kind head 1 parameters_most 16 ≡ good (record { items = label_at head 20 ∷ []; next = 36 })
unfolding head section_at count_at records judged_at and_then pick less up_to same both either between word signed_word label_at label_ok index_ok label_key
two = refl

three : section_at station_kind head 0 stations_most 36 ≡ good (record { items = []; next = 40 })
unfolding head section_at count_at records and_then pick less up_to both between word
three = refl

module _ (n : ℕ) (few : n ≤ records_most) where
  abbrev tail : List ℕ
  tail = bytes_of 4 n ++ replicate (n * 34 + 1) 0

  abbrev file : List ℕ
  file = head ++ tail

  count_is : count_at file 40 0 records_most ≡ good n
  unfolding count_at head
  count_is =
      let long : length file ≡ 40 + (4 + (n * 34 + 1)) =
      length-append head tail ∙ ap (λ k. 40 + k) (length-append (bytes_of 4 n) (replicate (n * 34 + 1) 0) ∙ ap₂ (λ x y. x + y) (length_bytes_of 4 n) (length-replicate (n * 34 + 1) 0)) in
      let is : word 4 file 40 ≡ n = word_after 4 head tail 0 ∙ word_bytes_of 4 n (replicate (n * 34 + 1) 0) (omega arith) in
      sym (no _ _ _ (not_less _ _ (omega (arith, long))) (yes _ _ _ (ap (λ k. between 0 k records_most) is ∙ is_between 0 n records_most (omega arith) few) (ap good (sym is))))

  abbrev arc : Arc
  arc = record { heading = heading_of (settings_at head 4) (label_at head 20 ∷ []) []; count = n; start = 44 }

  opens : opened file ≡ good arc
  unfolding opened
  opens =
      then_good _ _ ((section_stays head tail settings_kind settings_local 1 1 0).same _ one)
      ∙ then_good _ _ ((section_stays head tail label_kind label_local 1 parameters_most 16).same _ two)
      ∙ then_good _ _ ((section_stays head tail station_kind station_local 0 stations_most 36).same _ three)
      ∙ then_good _ _ count_is

  size_is : size_of arc ≡ 34
  unfolding heading_of
  size_is = refl

  long : length file ≡ 45 + n * 34
  unfolding head
  long =
      length-append head tail
      ∙ ap (λ k. 40 + k) (length-append (bytes_of 4 n) (replicate (n * 34 + 1) 0) ∙ ap₂ (λ x y. x + y) (length_bytes_of 4 n) (length-replicate (n * 34 + 1) 0))
      ∙ omega arith

  -- all its records are whole
  all_done : length (done 0 file) ≡ n
  all_done =
      let room : n * size_of arc ≤ length (drop 44 file) = rw (size_is, length-drop 44 file, long) (omega arith) in
      ap length (done_good 0 file arc opens ∙ ap (λ k. whole (size_of arc) k (drop 44 file)) (sub-zero n) ∙ whole_cut (size_of arc) n (drop 44 file) room)
      ∙ length_cut (size_of arc) n (drop 44 file)

  -- and then 3
  refused_three : so_far (read_at 0 file) ≡ bad 3 (ends_at arc)
  unfolding so_far closed_at
  refused_three =
      let past : ends_at arc < length file + 0 * size_of arc = rw (size_is, long) (omega arith) in
      let is : closed_at arc (length file + 0 * size_of arc) ≡ bad 3 (ends_at arc) = sym (no _ _ _ (not_less _ _ (omega arith)) (yes _ _ _ (is_less _ _ past) refl)) in
      ap so_far (read_good 0 file arc opens ∙ is) ∙ sym (no _ _ _ (not_same 3 1 (λ z. omega arith)) refl)

  ended_reached : (s : State) → (feed begun s file).position ≡ ended n
  ended_reached s =
      ap (λ x. x.position) (not_over begun s file refl)
      ∙ ap (λ v. moved v (0 + length (done 0 file)) (left 0 file)) refused_three
      ∙ ap ended (zero-add (length (done 0 file)) ∙ all_done)

-- ---- where bytes lead from begin, and finish after them
abbrev pub finish_at : Position → Position
finish_at q = closing (finish q) q

-- some bytes lead there, or some bytes and finish
pub record Led (s : State) (p : Position) : Type 0 where
  pub bytes : List ℕ
  pub there : ((feed begun s bytes).position ≡ p) ⊎ (finish_at (feed begun s bytes).position ≡ p)

none_kept : (l : List ℕ) → length l ≡ 0 → l ≡ []
none_kept [] e = refl
none_kept (x ∷ l) e = absurd (omega arith)

module _ (p : Position) (over : p.over ≡ true) (ok : ends p ≡ true) (s : State) where
  is_over : (kept : List ℕ) (taken : ℕ) → kept ≡ p.kept → taken ≡ p.taken → record { kept = kept; taken = taken; over = true } ≡ p
  is_over kept taken e f = λ i. record { kept = e i; taken = f i; over = sym over i }

  by_finish : (a : Arc) → opened p.kept ≡ good a → Led s p
  unfolding ends finish closed_at pick read_at
  by_finish a o =
      let v : ends_by (length p.kept) p.taken (good a) ≡ true = ap (ends_by (length p.kept) p.taken) (sym o) ∙ ok in
      let long : length p.kept ≡ a.start = same_true _ _ (both_first _ _ v) in
      let all : p.taken ≡ a.count = same_true _ _ (both_second _ _ v) in
      let q : Position = record { kept = p.kept; taken = p.taken; over = false } in
      let placed-q : placed q ≡ true = amid_placed q a o (record {
        few = omega arith;
        short = subst (λ k. length p.kept < a.start + k) (no _ _ _ (not_less _ _ (omega arith)) refl) (omega arith);
      }) in
      let x = reached q placed-q s refl in
      let total : length p.kept + p.taken * size_of a ≡ ends_at a = ap₂ (λ i j. i + j * size_of a) long all in
      let fine : finish q ≡ good a =
      read_good p.taken p.kept a o
      ∙ sym (no _ _ _ (not_less _ _ (omega arith)) (no _ _ _ (not_less _ _ (omega arith)) refl)) in
      record {
        bytes = x.0;
        there = inr (ap finish_at x.1 ∙ ap (λ j. closing j q) fine ∙ is_over p.kept p.taken refl refl);
      }

  by_surplus : (number place : ℕ) → opened p.kept ≡ bad number place → Led s p
  unfolding ends
  by_surplus number place o =
      let v : ends_by (length p.kept) p.taken (bad number place) ≡ true = ap (ends_by (length p.kept) p.taken) (sym o) ∙ ok in
      let none = none_kept p.kept (same_true _ _ (both_first _ _ v)) in
      let few = up_to_true _ _ (both_second _ _ v) in
      record { bytes = file p.taken few; there = inl (ended_reached p.taken few s ∙ is_over [] p.taken (sym none) refl) }

  pub over_reached : Led s p
  over_reached = by_judged (opened p.kept) by_finish by_surplus

-- ---- each position by value that is not refused
pub fair_reached : (p : ByValue.Position) → length p.kept ≡ position_most → fair p ≡ true → (s : State) → (q : Position) × ((held_of q ≡ p) × Led s q)
unfolding fair led
fair_reached p room ok s =
    let q = position_of p in
    let there = both_second _ _ ok in (
      q,
      (
        held_back p room (both_first _ _ ok),
        by_cases p.over
            (λ o. over_reached q o (yes _ _ _ o refl ∙ there) s)
            (λ o. let x = reached q (no _ _ _ o refl ∙ there) s o in record { bytes = x.0; there = inl x.1 }),
      ),
    )
