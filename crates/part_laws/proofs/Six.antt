-- 6 is given exactly where no use of the entries leads: a part leads from a position that is not refused to another, and each of them is reached
-- from the empty one by some bytes.
-- Assumes nothing.
use Prim.Native.Nat.{ℕ, zero, suc, ◌+◌, ◌-◌, ◌*◌, ◌≤◌, ◌<◌}
use mathlib.Core.Path.{◌≡◌, refl, sym, ap, ap₂, ◌∙◌, subst}
use mathlib.Core.List.{List, [], ◌∷◌, ◌++◌, append-nil}
use mathlib.Core.Bool.{true, false}
use native.Mathlib.Omega.{arith}
use native.Mathlib.Nat.{add-zero, add-mul, suc-mul, suc-add, zero-mul, zero-add}
use lib.ListN.{length, take, drop, replicate, length-append, length-drop, length-replicate, take-append-drop}
use lib.Seq.{length-take-le, take_at, drop_at, drop-append-le}
use Rattle.num_whole.specs.Tests.{less, same, pick}
use Rattle.num_whole.specs.Answer.{Judged, good, bad}
use Rattle.num_whole.proofs.Cases.{yes, no, by_cases, holds, is_less, not_less, is_up_to, is_same, less_true, less_false, up_to_true, same_true, both_first, both_second}
use Rattle.byte_section.proofs.Walk.{not_bad, by_judged}
use Rattle.arc_read.specs.Arc.{Arc}
use Rattle.take_state.specs.State.{State}
use Rattle.take_laws.specs.Machine.{run, answers}
use Rattle.take_laws.specs.Taking.{frame_of, record_answer, record_step}
use Rattle.part_laws.specs.Beginning.{opened, size_of, ends_at, closed_at, whole, behind, done, left, read_at, opened_heading}
use Rattle.part_laws.specs.Feeding.{Position, begun, so_far, moved, handed, feed}
use Rattle.part_laws.specs.Entries.{placed_by, placed}
use Rattle.part_laws.proofs.Runs.{more, whole_long, whole_more, behind_more}
use Rattle.part_laws.proofs.Opened.{opened_stays, opened_within, opened_again}
use Rattle.part_laws.proofs.Cuts.{done_good, left_good, read_good, done_bad, left_bad, read_bad, opened_left}
use Rattle.part_laws.proofs.Feeding.{not_over}

-- ---- no more records than asked for; where fewer are whole, what follows is shorter than one
pub whole_few : (size n : ℕ) (l : List ℕ) → length (whole size n l) ≤ n
unfolding whole pick
whole_few size zero l = omega arith
whole_few size (suc n) l =
    by_cases (less (length l) size)
    (λ e. rw e (omega arith))
    (λ e. rw e (omega (arith, whole_few size n (drop size l))))

pub behind_few : (size n : ℕ) (l : List ℕ) → length (whole size n l) < n → length (behind size n l) < size
unfolding whole behind pick
behind_few size zero l h = absurd (omega arith)
behind_few size (suc n) l h =
    by_cases (less (length l) size)
    (λ e. rw e (less_true _ _ e))
    (λ e. let h₁ : length (take size l ∷ whole size n (drop size l)) < suc n = rw e at h in
    rw e (behind_few size n (drop size l) (omega arith)))

-- ---- a position that is not refused
pub record Before (p : Position) (number place : ℕ) : Type 0 where
  pub one : number ≡ 1
  pub none : p.taken ≡ 0

pub placed_before : (p : Position) (number place : ℕ) → placed p ≡ true → opened p.kept ≡ bad number place → Before p number place
unfolding placed
placed_before p number place e o =
    let v : placed_by (length p.kept) p.taken (bad number place) ≡ true = ap (placed_by (length p.kept) p.taken) (sym o) ∙ e in
    record { one = same_true _ _ (both_first _ _ v); none = same_true _ _ (both_second _ _ v) }

pub record Amid (p : Position) (a : Arc) : Type 0 where
  pub few : p.taken ≤ a.count
  pub short : length p.kept < a.start + pick (less p.taken a.count) (size_of a) 1

pub placed_amid : (p : Position) (a : Arc) → placed p ≡ true → opened p.kept ≡ good a → Amid p a
unfolding placed
placed_amid p a e o =
    let v : placed_by (length p.kept) p.taken (good a) ≡ true = ap (placed_by (length p.kept) p.taken) (sym o) ∙ e in
    record { few = up_to_true _ _ (both_first _ _ v); short = less_true _ _ (both_second _ _ v) }

pub amid_placed : (p : Position) (a : Arc) → opened p.kept ≡ good a → Amid p a → placed p ≡ true
unfolding placed
amid_placed p a o v =
    ap (placed_by (length p.kept) p.taken) o ∙ sym (holds _ _ (is_up_to _ _ v.few) (sym (is_less _ _ v.short)))

-- ---- a part that is not refused leads from one to another
-- what is said so far
so_far_one : (number place : ℕ) → so_far {A = Arc} (bad number place) ≡ good tt → number ≡ 1
unfolding so_far
so_far_one number place e =
    by_cases (same number 1) (λ f. same_true _ _ f) (λ f. absurd (not_bad (sym (no _ _ _ f refl ∙ e))))

no_surplus : (a : Arc) (n : ℕ) → so_far (closed_at a n) ≡ good tt → n ≤ ends_at a
unfolding closed_at
no_surplus a n e =
    by_cases (less (ends_at a) n)
    (λ f. let past : ends_at a < n = less_true _ _ f in
    let three : closed_at a n ≡ bad 3 (ends_at a) = sym (no _ _ _ (not_less _ _ (omega arith)) (yes _ _ _ f refl)) in
    absurd (let z : 3 ≡ 1 = so_far_one 3 (ends_at a) (ap so_far (sym three) ∙ e) in omega arith))
    (λ f. less_false _ _ f)

module _ (p : Position) (ok : placed p ≡ true) (l : List ℕ) where
  abbrev b : List ℕ
  b = p.kept ++ l

  pub taken_few : (a : Arc) → opened b ≡ good a → p.taken ≤ a.count
  taken_few a o =
      by_judged (opened p.kept)
      (λ c e. let same-arc : c ≡ a = good_is (sym ((opened_stays p.kept l).same c e) ∙ o) in
      subst (λ x. p.taken ≤ x.count) same-arc (placed_amid p c ok e).few)
      (λ number place e. omega (arith, (placed_before p number place ok e).none))
    where
      good_is : {A : Type 0} {x y : A} → ◌≡◌ {A = Judged A} (good x) (good y) → x ≡ y
      good_is e = cc

  pub taken_none : (number place : ℕ) → opened b ≡ bad number place → p.taken ≡ 0
  taken_none number place o =
      by_judged (opened p.kept)
      (λ c e. absurd (not_bad (sym ((opened_stays p.kept l).same c e) ∙ o)))
      (λ k q e. (placed_before p k q ok e).none)

  abbrev t : ℕ
  t = p.taken

  abbrev next : Position
  next = record { kept = left t b; taken = t + length (done t b); over = false }

  next_amid : (a : Arc) → opened b ≡ good a → so_far (read_at t b) ≡ good tt → placed next ≡ true
  next_amid a o v =
      let size = size_of a in
      let n = a.count - t in
      let r = drop a.start b in
      let j = length (whole size n r) in
      let few = taken_few a o in
      let within = opened_within b a o in
      let again : opened (left t b) ≡ good a = ap opened (sym (append-nil (left t b))) ∙ opened_left t b [] a o in
      let is : length (done t b) ≡ j = ap length (done_good t b a o) in
      let most = whole_few size n r in
      let long : length (left t b) ≡ a.start + length (behind size n r) =
      ap length (left_good t b a o) ∙ rw (length-append, length-take-le a.start b within) in
      let room : length b + t * size ≤ ends_at a = no_surplus a (length b + t * size) (ap so_far (sym (read_good t b a o)) ∙ v) in
      amid_placed next a again
      (record {
        few = omega (arith, is, most);
        short = by_cases (less (t + length (done t b)) a.count)
            (λ f. subst (λ k. length (left t b) < a.start + k) (yes _ _ _ f refl)
            (omega (arith, behind_few size n r (omega (arith, less_true _ _ f, is)), long)))
            (λ f. let all : j + t ≡ a.count = omega (arith, less_false _ _ f, is, most) in
            subst (λ k. length (left t b) < a.start + k) (no _ _ _ f refl)
            (omega (arith, long, whole_long size n r, length-drop a.start b, add-mul j t size, ap (λ x. x * size) all)));
      })

  next_before : (number place : ℕ) → opened b ≡ bad number place → so_far (read_at t b) ≡ good tt → placed next ≡ true
  unfolding placed
  next_before number place o v =
      let one : number ≡ 1 = so_far_one number place (ap so_far (sym (read_bad t b o)) ∙ v) in
      let none : t + length (done t b) ≡ 0 = rw (done_bad t b o) (omega (arith, taken_none number place o)) in
      ap (λ x. placed_by (length x) (t + length (done t b)) (opened x)) (left_bad t b o)
      ∙ ap (placed_by (length b) (t + length (done t b))) o
      ∙ sym (holds _ _ (is_same _ _ one) (sym (is_same _ _ none)))

  pub part_placed : (s : State) → p.over ≡ false → (feed p s l).verdict ≡ good tt → placed (feed p s l).position ≡ true
  part_placed s f v =
      let v₁ : so_far (read_at t b) ≡ good tt = ap (λ x. x.verdict) (sym (not_over p s l f)) ∙ v in
      ap (λ x. placed x.position) (not_over p s l f)
      ∙ ap (λ w. placed (moved w (t + length (done t b)) (left t b))) v₁
      ∙ by_judged (opened b) (λ a o. next_amid a o v₁) (λ number place o. next_before number place o v₁)

-- ---- and each is reached: by its bytes, with any bytes for the records taken
-- k records, then bytes that have none
nothing : (z : List ℕ) → length z ≡ 0 → z ≡ []
nothing [] e = refl
nothing (x ∷ z) e = absurd (omega arith)

module _ (size n : ℕ) (l : List ℕ) (none : whole size n l ≡ []) (rest : behind size n l ≡ l) where
  skipped : (k : ℕ) (z : List ℕ) → length z ≡ k * size → (length (whole size (k + n) (z ++ l)) ≡ k) × (behind size (k + n) (z ++ l) ≡ l)
  skipped zero z long =
      let e : z ≡ [] = nothing z (omega (arith, zero-mul size)) in
      rw (e, zero-add, none, rest) (refl, refl)
  skipped (suc k) z long =
      let here : size ≤ length z = omega (arith, suc-mul k size) in
      let more : size ≤ length (z ++ l) = rw length-append (omega arith) in
      let cutting = drop-append-le size z l here in
      let ih = skipped k (drop size z) (length-drop size z ∙ omega (arith, suc-mul k size)) in
      rw (suc-add, whole_more size (k + n) (z ++ l) more, behind_more size (k + n) (z ++ l) more, cutting)
      (ap suc ih.0, ih.1)

pub so_far_within : (a : Arc) (n : ℕ) → n ≤ ends_at a → so_far (closed_at a n) ≡ good tt
unfolding so_far closed_at pick
so_far_within a n h =
    by_cases (less n (ends_at a))
    (λ e. rw (e, is_same 1 1 refl))
    (λ e. rw (e, not_less (ends_at a) n h))

module _ (p : Position) (ok : placed p ≡ true) (s : State) (f : p.over ≡ false) where
  reached_by : (l : List ℕ) → so_far (read_at 0 l) ≡ good tt → length (done 0 l) ≡ p.taken → left 0 l ≡ p.kept → (feed begun s l).position ≡ p
  reached_by l v n k =
      ap (λ x. x.position) (not_over begun s l refl)
      ∙ ap (λ w. moved w (0 + length (done 0 l)) (left 0 l)) v
      ∙ ap₂ (λ x y. record { kept = y; taken = x; over = false }) (zero-add (length (done 0 l)) ∙ n) k
      ∙ ap (λ x. record { kept = p.kept; taken = p.taken; over = x }) (sym f)

  from_before : (number place : ℕ) → opened p.kept ≡ bad number place → (l : List ℕ) × ((feed begun s l).position ≡ p)
  unfolding so_far pick
  from_before number place o =
      let v = placed_before p number place ok o in (
        p.kept,
        reached_by p.kept
            (ap so_far (read_bad 0 p.kept o) ∙ rw (is_same number 1 v.one))
            (ap length (done_bad 0 p.kept o) ∙ sym v.none) (left_bad 0 p.kept o),
      )

  from_amid : (a : Arc) → opened p.kept ≡ good a → (l : List ℕ) × ((feed begun s l).position ≡ p)
  unfolding whole behind pick
  from_amid a o =
      let v = placed_amid p a ok o in
      let size = size_of a in
      let n = a.count - p.taken in
      let h = drop a.start p.kept in
      let u = take a.start p.kept in
      let z : List ℕ = replicate (p.taken * size) 0 in
      let l = u ++ (z ++ h) in
      let within = opened_within p.kept a o in
      let long = length-take-le a.start p.kept within in
      let opens : opened l ≡ good a = opened_again p.kept (z ++ h) a o in
      let all : a.count - 0 ≡ p.taken + n = omega (arith, v.few) in
      let total : a.count ≡ p.taken + n = omega (arith, v.few) in
      let short : (length h ≤ n * size) × ((whole size n h ≡ []) × (behind size n h ≡ h)) =
      by_cases (less p.taken a.count)
      (λ e. let m = n - 1 in
      let one : n ≡ suc m = omega (arith, less_true _ _ e) in
      let small : length h < size = rw length-drop (omega (arith, v.short, yes {A = ℕ} _ size 1 e refl)) in
      (rw one (omega (arith, suc-mul m size)), (rw (one, is_less _ _ small), rw (one, is_less _ _ small))))
      (λ e. let none : n ≡ 0 = omega (arith, less_false _ _ e) in
      (omega (arith, length-drop a.start p.kept, v.short, no {A = ℕ} _ size 1 e refl), (rw none, rw none))) in
      let w = skipped size n h short.1.0 short.1.1 p.taken z (length-replicate (p.taken * size) 0) in
      let tail : drop a.start l ≡ z ++ h = drop_at u (z ++ h) a.start long in
      let bytes : length l + 0 * size ≤ ends_at a =
      rw (length-append, length-append, long, length-replicate) (omega (arith, zero-mul size, short.0, add-mul p.taken n size, ap (λ x. x * size) total)) in (
        l,
        reached_by l
            (ap so_far (read_good 0 l a opens) ∙ so_far_within a (length l + 0 * size) bytes)
            (ap length (done_good 0 l a opens ∙ ap₂ (whole size) all tail) ∙ w.0)
            (left_good 0 l a opens ∙ ap₂ (λ x y. x ++ y) (take_at u (z ++ h) a.start long) (ap₂ (behind size) all tail ∙ w.1) ∙ take-append-drop a.start p.kept),
      )

  pub reached : (l : List ℕ) × ((feed begun s l).position ≡ p)
  reached = by_judged (opened p.kept) from_amid from_before

-- no byte follows the last record
pub within_numbers : (a : Arc) (long taken : ℕ) → taken ≤ a.count → long < a.start + pick (less taken a.count) (size_of a) 1
    → long + taken * size_of a ≤ ends_at a
within_numbers a long taken few short =
    let size = size_of a in
    let n = a.count - taken in
    let all : a.count ≡ taken + n = omega arith in
    let sum : a.count * size ≡ taken * size + n * size = ap (λ x. x * size) all ∙ add-mul taken n size in
    by_cases (less taken a.count)
    (λ e. let m = n - 1 in
    let one : n ≡ suc m = omega (arith, less_true _ _ e) in
    let product : n * size ≡ m * size + size = ap (λ x. x * size) one ∙ omega (arith, suc-mul m size) in
    omega (arith, yes {A = ℕ} _ size 1 e refl))
    (λ e. omega (arith, no {A = ℕ} _ size 1 e refl))

-- ---- a part of no bytes changes nothing
module _ (p : Position) (ok : placed p ≡ true) (s : State) (f : p.over ≡ false) where
  feed_is : done p.taken p.kept ≡ [] → left p.taken p.kept ≡ p.kept → so_far (read_at p.taken p.kept) ≡ good tt
      → feed p s [] ≡ record { position = p; state = s; answers = []; verdict = good tt }
  unfolding run answers
  feed_is d k v =
      let t = p.taken in
      let h = frame_of (opened_heading p.kept) in
      not_over p s [] f
      ∙ ap (λ b. handed t b s) (append-nil p.kept)
      ∙ (λ i. record {
        position = moved (v i) (t + length (d i)) (k i);
        state = run (record_step h) s (d i);
        answers = answers (record_step h) (record_answer h) s (d i);
        verdict = v i;
      })
      ∙ ap₂ (λ n o. record { position = record { kept = p.kept; taken = n; over = o }; state = s; answers = []; verdict = good tt }) (add-zero t) (sym f)

  nothing_amid : (a : Arc) → opened p.kept ≡ good a → feed p s [] ≡ record { position = p; state = s; answers = []; verdict = good tt }
  unfolding whole behind pick
  nothing_amid a o =
      let v = placed_amid p a ok o in
      let size = size_of a in
      let n = a.count - p.taken in
      let h = drop a.start p.kept in
      let none : (whole size n h ≡ []) × (behind size n h ≡ h) =
      by_cases (less p.taken a.count)
      (λ e. let m = n - 1 in
      let one : n ≡ suc m = omega (arith, less_true _ _ e) in
      let small : length h < size = rw length-drop (omega (arith, v.short, yes {A = ℕ} _ size 1 e refl)) in
      (rw (one, is_less _ _ small), rw (one, is_less _ _ small)))
      (λ e. let none : n ≡ 0 = omega (arith, less_false _ _ e) in (rw none, rw none)) in
      feed_is
      (done_good p.taken p.kept a o ∙ none.0)
      (left_good p.taken p.kept a o ∙ ap (λ x. take a.start p.kept ++ x) none.1 ∙ take-append-drop a.start p.kept)
      (ap so_far (read_good p.taken p.kept a o) ∙ so_far_within a _ (within_numbers a (length p.kept) p.taken v.few v.short))

  nothing_before : (number place : ℕ) → opened p.kept ≡ bad number place → feed p s [] ≡ record { position = p; state = s; answers = []; verdict = good tt }
  unfolding so_far pick
  nothing_before number place o =
      let v = placed_before p number place ok o in
      feed_is (done_bad p.taken p.kept o) (left_bad p.taken p.kept o)
      (ap so_far (read_bad p.taken p.kept o) ∙ rw (is_same number 1 v.one))

  pub feed_nothing : feed p s [] ≡ record { position = p; state = s; answers = []; verdict = good tt }
  feed_nothing = by_judged (opened p.kept) nothing_amid nothing_before
