-- The laws of merging at the level of files, in the words of the promise, `mergeAnswer` and `mergeLeft`: order and grouping don't matter, a merged
-- file is accepted, its sums are those of both, and priors are kept.
-- Assumes nothing.
use mathlib.Core.Path.{◌≡◌, refl, sym, ap, ◌∙◌, subst}
use mathlib.Core.List.{List, [], ◌∷◌}
use mathlib.Core.Bool.{true}
use mathlib.Core.Logic.{◌↔◌}
use Prim.Native.Nat.{ℕ, ◌+◌, ◌≤◌}
use native.Mathlib.Nat.{le_refl, le_trans}
use lib.IntN.{pos, ◌+ℤ◌}
use lib.ListN.{length, take}
use mir.Syntax.{w64}
use mir.Val.{SFits}
use Rattle.num_whole.specs.Tests.{less, same, pick, either}
use Rattle.num_whole.specs.Answer.{good, bad}
use Rattle.num_whole.proofs.Cases.{by_cases, same_true, same_false}
use Rattle.num_whole.proofs.Ints.{within_fits}
use Rattle.byte_words.specs.Words.{lay}
use Rattle.byte_words.proofs.Words.{Bytes}
use Rattle.refusal.specs.First.{when, first, answered}
use Rattle.num_whole.specs.Lists.{Each}
use Rattle.norm_system.specs.System.{System, has}
use Rattle.norm_system.proofs.Sound.{SoundSystem}
use Rattle.norm_kinds.specs.Bytes.{normal_bytes}
use Rattle.norm_read.specs.Normal.{read_normal}
use Rattle.norm_read.proofs.Accepted.{accepted_estimates}
use Rattle.norm_read.proofs.Back.{longest, placed, normal_longest, written_read}
use Rattle.norm_labels.specs.Labels.{keys_of, label_by_key, value, side}
use Rattle.merge_laws.specs.Merge.{merged_of, merge_number}
use Rattle.merge_laws.proofs.Merged.{in_merged_first, in_merged_second}
use Rattle.merge_laws.proofs.Laws.{merge_value, merge_side, merge_totals, merge_labels, merge_arcs, priors_first, priors_second, merge_either, refuse_either, merge_sound, merge_groups, accept_groups, accept_back}
use Rattle.merge_laws.proofs.Files.{merged_each}
use Rattle.merge_put.specs.Parts.{normal_or, normal_in, system_in_file}
use Rattle.byte_section.specs.Told.{on_done}
use Rattle.byte_section.proofs.Walk.{by_judged}
use Rattle.merge.specs.Files.{wrote, in_file, refusing, merged_bytes, pair_number, pair_answer, pair_left, merge_answer, merge_left}
use Rattle.merge.proofs.Written.{accepted, holds_sound, Written, written_file, written_where}
use Rattle.merge.proofs.Outcomes.{pair_refused, first_bad, second_bad, both_good}

-- ---- two systems, in either order
pub pair_either : (x y : System) → SoundSystem x → SoundSystem y → (out : List ℕ)
    → (pair_answer x y (length out) ≡ pair_answer y x (length out)) × (pair_left x y out ≡ pair_left y x out)
unfolding pair_number pair_answer pair_left merged_bytes
pair_either x y p q out =
    by_cases (same (merge_number x y) 0)
    (λ t. let bytes : normal_bytes (merged_of x y) ≡ normal_bytes (merged_of y x) = ap normal_bytes (merge_either x y p q (same_true _ _ t)) in
    let number : pair_number x y (length out) ≡ pair_number y x (length out) =
    (λ i. first (refuse_either x y p q i ∷ when 20 (less (length out) (length (bytes i))) ∷ [])) in
    ((λ i. pick (same (number i) 0) (wrote (length (bytes i))) (refusing (number i))), (λ i. on_done (answered (number i) (length (bytes i))) (lay out 0 (bytes i)) out)))
    (λ t. let one = pair_refused x y out (merge_number x y) refl (same_false _ _ t) in
    let two = pair_refused y x out (merge_number x y) (sym (refuse_either x y p q)) (same_false _ _ t) in
    (sym one.0 ∙ two.0, sym one.1 ∙ two.1))

-- ---- "The two may be given in either order: the bytes are the same."
module _ (a b out : List ℕ) where
  -- two files that are accepted: one answer, and the same bytes
  pub either_order : read_normal a ≡ good (normal_in a) → read_normal b ≡ good (normal_in b)
      → (merge_answer a b (length out) ≡ merge_answer b a (length out)) × (merge_left a b out ≡ merge_left b a out)
  either_order e f =
      let one = both_good a b out e f in
      let two = both_good b a out f e in
      let both = pair_either (system_in_file a) (system_in_file b) (holds_sound a e) (holds_sound b f) out in
      (sym one.0 ∙ both.0 ∙ two.0, sym one.1 ∙ both.1 ∙ two.1)

  -- where only one is refused: the same number and place, and the answer names that file
  pub either_one : (number place : ℕ) → read_normal a ≡ bad number place → read_normal b ≡ good (normal_in b)
      → (merge_answer a b (length out) ≡ in_file 1 number place) × (merge_answer b a (length out) ≡ in_file 2 number place)
  either_one number place e f = (sym (first_bad a b number place out e).0, sym (second_bad b a (normal_in b) number place out f e).0)

  -- where both are refused: the one that is given first
  pub either_both : (number place other at : ℕ) → read_normal a ≡ bad number place → read_normal b ≡ bad other at
      → (merge_answer a b (length out) ≡ in_file 1 number place) × (merge_answer b a (length out) ≡ in_file 1 other at)
  either_both number place other at e f = (sym (first_bad a b number place out e).0, sym (first_bad b a other at out f).0)

  -- and whatever is refused, either order leaves the same
  pub either_left : merge_left a b out ≡ merge_left b a out
  either_left =
      by_judged (read_normal a)
      (λ x e. by_judged (read_normal b)
      (λ y f. (either_order (accepted a x e) (accepted b y f)).1)
      (λ other at f. sym (second_bad a b x other at out e f).1 ∙ (first_bad b a other at out f).1))
      (λ number place e. sym (first_bad a b number place out e).1 ∙ by_judged (read_normal b)
      (λ y f. (second_bad b a y number place out f e).1)
      (λ other at f. (first_bad b a other at out f).1))

-- ---- the merged file: what stands at the room's front
module _ (a b out : List ℕ) (n : ℕ) (first-bytes : Bytes a) (second-bytes : Bytes b) (w : merge_answer a b (length out) ≡ wrote n) where
  abbrev merged : List ℕ
  merged = take n (merge_left a b out)

  both : Written a b out n
  both = written_file a b out n w

  estimates : Each (λ l. SFits w64 l.estimate) (merged_of (system_in_file a) (system_in_file b)).labels
  unfolding system_in_file
  estimates =
      merged_each (λ l. SFits w64 l.estimate) (within_fits w64 (pos 0) {m = 0} (le_refl 0) tt) (system_in_file a) (system_in_file b)
      (accepted_estimates a (normal_in a) both.first_read first-bytes) (accepted_estimates b (normal_in b) both.second_read second-bytes)

  -- "two normal files": it is one again, accepted by reading, and holds what merging says
  pub merged_read : read_normal merged ≡ good (placed (merged_of (system_in_file a) (system_in_file b)))
  merged_read =
      ap read_normal both.front
      ∙ written_read (merged_of (system_in_file a) (system_in_file b))
      (merge_sound (system_in_file a) (system_in_file b) both.first_sound both.second_sound both.none_refuses) estimates

  pub merged_holds : system_in_file merged ≡ merged_of (system_in_file a) (system_in_file b)
  unfolding system_in_file normal_in normal_or
  merged_holds = ap (λ j. (normal_or j).holds) merged_read

  -- "Merging adds sums of like labels"
  pub sums_added : (k l : ℕ) → value (system_in_file merged) k l ≡ value (system_in_file a) k l +ℤ value (system_in_file b) k l
  sums_added k l = ap (λ z. value z k l) merged_holds ∙ merge_value (system_in_file a) (system_in_file b) both.first_sound both.second_sound k l

  pub sides_added : (k : ℕ) → side (system_in_file merged) k ≡ side (system_in_file a) k +ℤ side (system_in_file b) k
  sides_added k = ap (λ z. side z k) merged_holds ∙ merge_side (system_in_file a) (system_in_file b) both.first_sound both.second_sound k

  pub totals_added : ((system_in_file merged).accepted ≡ (system_in_file a).accepted + (system_in_file b).accepted) × ((system_in_file merged).square ≡ (system_in_file a).square + (system_in_file b).square)
  totals_added =
      let t = merge_totals (system_in_file a) (system_in_file b) both.first_sound both.second_sound in
      (ap (λ z. z.accepted) merged_holds ∙ t.0, ap (λ z. z.square) merged_holds ∙ t.1)

  module _ (k : ℕ) where
    -- "unites labels and arcs"
    pub labels_united : has k (keys_of (system_in_file merged)) ≡ either (has k (keys_of (system_in_file a))) (has k (keys_of (system_in_file b)))
    labels_united = ap (λ z. has k (keys_of z)) merged_holds ∙ merge_labels (system_in_file a) (system_in_file b) k

    pub arcs_united : has k (system_in_file merged).arcs ≡ either (has k (system_in_file a).arcs) (has k (system_in_file b).arcs)
    arcs_united = ap (λ z. has k z.arcs) merged_holds ∙ merge_arcs (system_in_file a) (system_in_file b) k

    -- "carries priors over without adding them": a label of either file is the same label, prior weight and estimate with it, in the merged one
    pub first_kept : has k (keys_of (system_in_file a)) ≡ true → (has k (keys_of (system_in_file merged)) ≡ true) × (label_by_key (system_in_file merged) k ≡ label_by_key (system_in_file a) k)
    first_kept h = (
      ap (λ z. has k (keys_of z)) merged_holds ∙ in_merged_first (system_in_file a) (system_in_file b) k h,
      ap (λ z. label_by_key z k) merged_holds ∙ priors_first (system_in_file a) (system_in_file b) both.first_sound both.second_sound both.none_refuses k h,
    )

    pub second_kept : has k (keys_of (system_in_file b)) ≡ true → (has k (keys_of (system_in_file merged)) ≡ true) × (label_by_key (system_in_file merged) k ≡ label_by_key (system_in_file b) k)
    second_kept h = (
      ap (λ z. has k (keys_of z)) merged_holds ∙ in_merged_second (system_in_file a) (system_in_file b) k h,
      ap (λ z. label_by_key z k) merged_holds ∙ priors_second (system_in_file a) (system_in_file b) both.first_sound both.second_sound both.none_refuses k h,
    )

-- ---- three files, in either grouping: a merged one is given as one of two
module _ (a b c room other out : List ℕ) (n m : ℕ) (first-bytes : Bytes a) (second-bytes : Bytes b) (third-bytes : Bytes c)
    (ab : merge_answer a b (length room) ≡ wrote n) (bc : merge_answer b c (length other) ≡ wrote m) where
  -- the two that are merged first
  abbrev front_two : List ℕ
  front_two = take n (merge_left a b room)

  abbrev last_two : List ℕ
  last_two = take m (merge_left b c other)

  front_pair : Written a b room n
  front_pair = written_file a b room n ab

  last_pair : Written b c other m
  last_pair = written_file b c other m bc

  front_holds : system_in_file front_two ≡ merged_of (system_in_file a) (system_in_file b)
  front_holds = merged_holds a b room n first-bytes second-bytes ab

  last_holds : system_in_file last_two ≡ merged_of (system_in_file b) (system_in_file c)
  last_holds = merged_holds b c other m second-bytes third-bytes bc

  one_system : merged_of (system_in_file front_two) (system_in_file c) ≡ merged_of (system_in_file a) (system_in_file last_two)
  one_system =
      ap (λ z. merged_of z (system_in_file c)) front_holds ∙ merge_groups (system_in_file a) (system_in_file b) (system_in_file c) front_pair.first_sound front_pair.second_sound last_pair.second_sound
      ∙ ap (merged_of (system_in_file a)) (sym last_holds)

  -- the same bytes
  pub groups : (k l : ℕ) → merge_answer front_two c (length out) ≡ wrote k → merge_answer a last_two (length out) ≡ wrote l
      → (k ≡ l) × (merge_left front_two c out ≡ merge_left a last_two out)
  groups k l e f =
      let x = written_file front_two c out k e in
      let y = written_file a last_two out l f in (
        x.long ∙ ap (λ z. length (normal_bytes z)) one_system ∙ sym y.long,
        x.whole ∙ ap (λ z. lay out 0 (normal_bytes z)) one_system ∙ sym y.whole,
      )

  -- and written in the one where in the other
  pub groups_forth : (k : ℕ) → merge_answer front_two c (length out) ≡ wrote k → merge_answer a last_two (length out) ≡ wrote k
  groups_forth k e =
      let x = written_file front_two c out k e in
      let long : k ≡ length (normal_bytes (merged_of (system_in_file a) (system_in_file last_two))) = x.long ∙ ap (λ z. length (normal_bytes z)) one_system in
      let z = accept_groups (system_in_file a) (system_in_file b) (system_in_file c) front_pair.first_sound front_pair.second_sound last_pair.second_sound front_pair.none_refuses
      (ap (λ z. merge_number z (system_in_file c)) (sym front_holds) ∙ x.none_refuses) in
      written_where a last_two out front_pair.first_read (accepted last_two _ (merged_read b c other m second-bytes third-bytes bc))
      (ap (merge_number (system_in_file a)) last_holds ∙ z.1) (subst (λ i. i ≤ length out) long x.fits) ∙ ap wrote (sym long)

  pub groups_back : (k : ℕ) → merge_answer a last_two (length out) ≡ wrote k → merge_answer front_two c (length out) ≡ wrote k
  groups_back k e =
      let y = written_file a last_two out k e in
      let long : k ≡ length (normal_bytes (merged_of (system_in_file front_two) (system_in_file c))) = y.long ∙ ap (λ z. length (normal_bytes z)) (sym one_system) in
      let z = accept_back (system_in_file a) (system_in_file b) (system_in_file c) front_pair.first_sound front_pair.second_sound last_pair.second_sound last_pair.none_refuses
      (ap (merge_number (system_in_file a)) (sym last_holds) ∙ y.none_refuses) in
      written_where front_two c out (accepted front_two _ (merged_read a b room n first-bytes second-bytes ab)) last_pair.second_read
      (ap (λ z. merge_number z (system_in_file c)) front_holds ∙ z.1) (subst (λ i. i ≤ length out) long y.fits) ∙ ap wrote (sym long)

-- ---- three files, in either grouping: with room for any normal file where two are merged first, both ways are written or neither
-- the first two are merged, then what was written with the third: k bytes
pub record FrontFirst (a b c room out : List ℕ) (k : ℕ) : Type 0 where
  pub two : ℕ
  pub pair : merge_answer a b (length room) ≡ wrote two
  pub all : merge_answer (take two (merge_left a b room)) c (length out) ≡ wrote k

-- the last two are merged, then the first with what was written: k bytes
pub record LastFirst (a b c room out : List ℕ) (k : ℕ) : Type 0 where
  pub two : ℕ
  pub pair : merge_answer b c (length room) ≡ wrote two
  pub all : merge_answer a (take two (merge_left b c room)) (length out) ≡ wrote k

-- two accepted files that nothing refuses are written where there is room for any normal file
pair_written : (a b room : List ℕ) → read_normal a ≡ good (normal_in a) → read_normal b ≡ good (normal_in b) → merge_number (system_in_file a) (system_in_file b) ≡ 0
    → longest ≤ length room → merge_answer a b (length room) ≡ wrote (length (normal_bytes (merged_of (system_in_file a) (system_in_file b))))
pair_written a b room e f z h =
    let merged = merge_sound (system_in_file a) (system_in_file b) (holds_sound a e) (holds_sound b f) z in
    written_where a b room e f z (le_trans (normal_longest _ merged) h)

module _ (a b c room other out : List ℕ) (first-bytes : Bytes a) (second-bytes : Bytes b) (third-bytes : Bytes c) where
  pub grouped_forth : longest ≤ length other → (k : ℕ) → FrontFirst a b c room out k → LastFirst a b c other out k
  grouped_forth h k x =
      let p = written_file a b room x.two x.pair in
      let q = written_file (take x.two (merge_left a b room)) c out k x.all in
      let holds = merged_holds a b room x.two first-bytes second-bytes x.pair in
      let z = accept_groups (system_in_file a) (system_in_file b) (system_in_file c) p.first_sound p.second_sound q.second_sound p.none_refuses
      (ap (λ s. merge_number s (system_in_file c)) (sym holds) ∙ q.none_refuses) in
      let pair = pair_written b c other p.second_read q.second_read z.0 h in
      record { two = _; pair = pair; all = groups_forth a b c room other out x.two _ first-bytes second-bytes third-bytes x.pair pair k x.all }

  pub grouped_back : longest ≤ length room → (k : ℕ) → LastFirst a b c other out k → FrontFirst a b c room out k
  grouped_back h k y =
      let p = written_file b c other y.two y.pair in
      let q = written_file a (take y.two (merge_left b c other)) out k y.all in
      let holds = merged_holds b c other y.two second-bytes third-bytes y.pair in
      let z = accept_back (system_in_file a) (system_in_file b) (system_in_file c) q.first_sound p.first_sound p.second_sound p.none_refuses
      (ap (merge_number (system_in_file a)) (sym holds) ∙ q.none_refuses) in
      let pair = pair_written a b room q.first_read p.first_read z.0 h in
      record { two = _; pair = pair; all = groups_back a b c room other out _ y.two first-bytes second-bytes third-bytes pair y.pair k y.all }

  pub grouped : longest ≤ length room → longest ≤ length other → (k : ℕ) → FrontFirst a b c room out k ↔ LastFirst a b c other out k
  grouped h g k = (grouped_forth g k, grouped_back h k)

  -- and then with the same bytes
  pub grouped_bytes : (k l : ℕ) (x : FrontFirst a b c room out k) (y : LastFirst a b c other out l)
      → (k ≡ l) × (merge_left (take x.two (merge_left a b room)) c out ≡ merge_left a (take y.two (merge_left b c other)) out)
  grouped_bytes k l x y = groups a b c room other out x.two y.two first-bytes second-bytes third-bytes x.pair y.pair k l x.all y.all
