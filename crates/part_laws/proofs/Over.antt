-- Positions of a file that is over: what a refused part and finish leave is one that the entries give (6 of `heading`); and how long a position is.
-- Assumes nothing.
use Prim.Native.Nat.{ℕ, suc, ◌+◌, ◌-◌, ◌*◌, ◌≤◌}
use mathlib.Core.Path.{◌≡◌, refl, sym, ap, ◌∙◌, subst}
use mathlib.Core.List.{List, ◌++◌}
use mathlib.Core.Bool.{true, false}
use native.Mathlib.Omega.{arith}
use native.Mathlib.Nat.{add-mul, suc-mul}
use lib.ListN.{length, drop}
use Rattle.num_limits.specs.Capacities.{records_most}
use Rattle.num_whole.specs.Tests.{less}
use Rattle.num_whole.specs.Answer.{Judged, good, bad}
use Rattle.num_whole.proofs.Cases.{yes, no, by_cases, holds, is_same, is_up_to, not_less, less_true, less_false}
use Rattle.byte_section.proofs.Walk.{by_judged, then_read, pick_read, counted, good_same}
use Rattle.arc_heading.proofs.Sound.{sound}
use Rattle.arc_read.specs.Arc.{Arc}
use Rattle.take_state.specs.State.{State}
use Rattle.take_laws.specs.Machine.{answers}
use Rattle.take_laws.specs.Taking.{frame_of, record_answer, record_step}
use Rattle.take_laws.proofs.Runs.{length_answers}
use Rattle.part_laws.specs.Beginning.{opened, size_of, ends_at, closed_at, done, left, read_at, opened_heading}
use Rattle.part_laws.specs.Feeding.{Position, ended, so_far, moved, feed, finish, closing}
use Rattle.part_laws.specs.Entries.{record_size_most, placed, ends_by, ends}
use Rattle.part_laws.proofs.Opened.{opened_within}
use Rattle.part_laws.proofs.Cuts.{done_good, done_bad, read_good, read_bad}
use Rattle.part_laws.proofs.Feeding.{not_over}
use Rattle.part_laws.proofs.OneGo.{opened_sound}
use Rattle.part_laws.proofs.Front.{opened_short, opened_start}
use Rattle.part_laws.proofs.Six.{placed_before, placed_amid, taken_few, taken_none, whole_few, within_numbers}
use Rattle.part_laws.proofs.States.{nothing_opened}

-- ---- how long the bytes kept are: a heading with its counts and a record but one byte at most
pub record_most : (l : List ℕ) (a : Arc) → opened l ≡ good a → size_of a ≤ record_size_most
record_most l a o = omega (arith, (sound a.heading (opened_sound l a o)).few)

pub placed_short : (p : Position) → placed p ≡ true → length p.kept ≤ 1087
placed_short p ok =
    by_judged (opened p.kept)
    (λ a o. let v = placed_amid p a ok o in
    let low = opened_start p.kept a o in
    let size = record_most p.kept a o in
    by_cases (less p.taken a.count)
    (λ e. omega (arith, v.short, yes {A = ℕ} _ (size_of a) 1 e refl))
    (λ e. omega (arith, v.short, no {A = ℕ} _ (size_of a) 1 e refl)))
    (λ number place o. let v = placed_before p number place ok o in
    omega (arith, (opened_short p.kept place (subst (λ n. opened p.kept ≡ bad n place) v.one o)).few))

-- ---- what a part does to the numbers
pub record Moves (p : Position) (s : State) (l : List ℕ) : Type 0 where
  pub taken : (feed p s l).position.taken ≡ p.taken + length (done p.taken (p.kept ++ l))
  pub number : length (feed p s l).answers ≡ length (done p.taken (p.kept ++ l))
  pub goes : (u : Unit {0}) → (feed p s l).verdict ≡ good u → (feed p s l).position.over ≡ false
  pub stops : (number place : ℕ) → (feed p s l).verdict ≡ bad number place → (feed p s l).position.over ≡ true

moved_taken : (v : Judged (Unit {0})) (n : ℕ) (l : List ℕ) → (moved v n l).taken ≡ n
moved_taken (good u) n l = refl
moved_taken (bad number place) n l = refl

pub feed_moved : (p : Position) (s : State) → p.over ≡ false → (l : List ℕ) → Moves p s l
feed_moved p s f l =
    let b = p.kept ++ l in
    let t = p.taken in
    let x = not_over p s l f in
    let h = frame_of (opened_heading b) in
    let place = ap (λ y. y.position) x in
    let says = ap (λ y. y.verdict) x in
    record {
      taken = ap (λ q. q.taken) place ∙ moved_taken (so_far (read_at t b)) (t + length (done t b)) (left t b);
      number = ap (λ y. length y.answers) x ∙ length_answers (record_step h) (record_answer h) (done t b) s;
      goes = λ u v. ap (λ q. q.over) place ∙ ap (λ w. (moved w (t + length (done t b)) (left t b)).over) (sym says ∙ v);
      stops = λ number at v. ap (λ q. q.over) place ∙ ap (λ w. (moved w (t + length (done t b)) (left t b)).over) (sym says ∙ v);
    }

-- ---- a file that is over
pub count_most_lem : (l : List ℕ) (a : Arc) → opened l ≡ good a → a.count ≤ records_most
unfolding opened
count_most_lem l a e =
    let p = then_read _ _ _ e in
    let q = then_read _ _ _ p.2 in
    let r = then_read _ _ _ q.2 in
    let t = then_read _ _ _ r.2 in
    omega (arith, (counted l r.0.next 0 records_most t.0 t.1).to, ap (λ x. x.count) (good_same t.2))

-- no bytes, and no more records than a file has
pub ended_ends : (n : ℕ) → n ≤ records_most → ends (ended n) ≡ true
unfolding ends
ended_ends n h = ap (ends_by 0 n) nothing_opened ∙ sym (holds _ _ (is_same 0 0 refl) (sym (is_up_to _ _ h)))

-- the heading with its counts, and all its records taken
pub whole_ends : (kept : List ℕ) (taken : ℕ) (a : Arc) → opened kept ≡ good a → length kept ≡ a.start → taken ≡ a.count
    → ends (record { kept = kept; taken = taken; over = true }) ≡ true
unfolding ends
whole_ends kept taken a o long all = ap (ends_by (length kept) taken) o ∙ sym (holds _ _ (is_same _ _ long) (sym (is_same _ _ all)))

module _ (p : Position) (ok : placed p ≡ true) (f : p.over ≡ false) where
  -- a refusal in the file's form
  pub part_ends : (s : State) (l : List ℕ) (number place : ℕ) → (feed p s l).verdict ≡ bad number place → ends (feed p s l).position ≡ true
  part_ends s l number place v =
      let b = p.kept ++ l in
      let t = p.taken in
      let x = not_over p s l f in
      let says : so_far (read_at t b) ≡ bad number place = ap (λ y. y.verdict) (sym x) ∙ v in
      let few : t + length (done t b) ≤ records_most =
      by_judged (opened b)
      (λ a o. omega (arith, count_most_lem b a o, taken_few p ok l a o, ap length (done_good t b a o), whole_few (size_of a) (a.count - t) (drop a.start b)))
      (λ k q o. omega (arith, taken_none p ok l k q o, ap length (done_bad t b o))) in
      ap (λ y. ends y.position) x ∙ ap (λ w. ends (moved w (t + length (done t b)) (left t b))) says ∙ ended_ends (t + length (done t b)) few

  -- where all its records were taken and no byte is missing, its heading with its counts is all that it keeps
  pub record AtEnd (a : Arc) : Type 0 where
    pub long : length p.kept ≡ a.start
    pub all : p.taken ≡ a.count

  at_end : (a : Arc) → opened p.kept ≡ good a → ends_at a ≤ length p.kept + p.taken * size_of a → AtEnd a
  at_end a o h =
      let v = placed_amid p a ok o in
      let size = size_of a in
      let n = a.count - p.taken in
      let sum : a.count * size ≡ p.taken * size + n * size = let all : a.count ≡ p.taken + n = omega (arith, v.few) in ap (λ x. x * size) all ∙ add-mul p.taken n size in
      let low = opened_within p.kept a o in
      by_cases (less p.taken a.count)
      (λ e. let m = n - 1 in
      let one : n ≡ suc m = omega (arith, less_true _ _ e) in
      let product : n * size ≡ m * size + size = ap (λ x. x * size) one ∙ omega (arith, suc-mul m size) in
      absurd (omega (arith, v.short, yes {A = ℕ} _ size 1 e refl)))
      (λ e. let same_count : p.taken ≡ a.count = omega (arith, v.few, less_false _ _ e) in
      record { long = omega (arith, v.short, no {A = ℕ} _ size 1 e refl); all = same_count })

  -- finish
  pub finish_ends : ends (closing (finish p) p) ≡ true
  unfolding finish closed_at
  finish_ends =
      let going : finish p ≡ read_at p.taken p.kept = sym (no _ _ _ f refl) in
      by_judged (opened p.kept)
      (λ a o. let size = size_of a in
      let N = length p.kept + p.taken * size in
      let v = placed_amid p a ok o in
      let is : finish p ≡ closed_at a N = going ∙ read_good p.taken p.kept a o in
      by_cases (less N (ends_at a))
      (λ e. let short : finish p ≡ bad 1 N = is ∙ sym (yes _ _ _ e refl) in
      ap (λ j. ends (closing j p)) short ∙ ended_ends p.taken (omega (arith, v.few, count_most_lem p.kept a o)))
      (λ e. let z = at_end a o (less_false _ _ e) in
      let most = within_numbers a (length p.kept) p.taken v.few v.short in
      let fine : finish p ≡ good a = is ∙ sym (no _ _ _ e (no _ _ _ (not_less _ _ most) refl)) in
      ap (λ j. ends (closing j p)) fine ∙ whole_ends p.kept p.taken a o z.long z.all))
      (λ number place o. let v = placed_before p number place ok o in
      let short : finish p ≡ bad number place = going ∙ read_bad p.taken p.kept o in
      ap (λ j. ends (closing j p)) short ∙ ended_ends p.taken (omega (arith, v.none)))

  -- and nothing was missing
  pub record Whole (a : Arc) : Type 0 where
    pub opens : opened p.kept ≡ good a
    pub long : length p.kept ≡ a.start
    pub all : p.taken ≡ a.count

  pub finish_all : (a : Arc) → finish p ≡ good a → Whole a
  unfolding finish read_at closed_at
  finish_all a e =
      let x = then_read _ _ _ (no _ _ _ f refl ∙ e) in
      let y = pick_read _ _ _ _ _ x.2 in
      let z = pick_read _ _ _ _ _ y.1 in
      let o : opened p.kept ≡ good a = x.1 ∙ z.1 in
      let w = at_end x.0 x.1 (less_false _ _ y.0) in
      let same-arc : x.0 ≡ a = good_same z.1 in
      record { opens = o; long = w.long ∙ ap (λ b. b.start) same-arc; all = w.all ∙ ap (λ b. b.count) same-arc }
