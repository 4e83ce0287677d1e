-- Cuts don't matter: a part and then another is both of them as one.
-- Assumes nothing.
use Prim.Native.Nat.{ℕ, ◌+◌, ◌-◌, ◌*◌, ◌≤◌, ◌<◌}
use mathlib.Core.Path.{◌≡◌, refl, sym, ap, ap₂, ◌∙◌}
use mathlib.Core.List.{List, [], ◌++◌, append_assoc, append-nil}
use native.Mathlib.Omega.{arith}
use native.Mathlib.Nat.{add-mul, add-zero, zero-mul}
use lib.ListN.{length, take, drop, length-append, length-drop}
use lib.Seq.{length-take-le, take-append-le, drop-append-le, take_at, drop_at}
use Rattle.num_whole.specs.Tests.{less}
use Rattle.num_whole.specs.Answer.{Judged, good, bad}
use Rattle.num_whole.proofs.Cases.{yes, no, by_cases, is_less, not_less, less_true, less_false}
use Rattle.byte_section.proofs.Walk.{not_bad, by_judged, then_good, then_bad}
use Rattle.take_laws.proofs.Runs.{length_cut}
use Rattle.arc_heading.specs.declared.Heading.{Heading}
use Rattle.arc_read.specs.Arc.{Arc}
use Rattle.part_laws.specs.Beginning.{opened, size_of, ends_at, closed_at, whole, behind, done_by, left_by, done, left, read_at, heading_by, opened_heading}
use Rattle.part_laws.proofs.Runs.{more, whole_long, whole_cut}
use Rattle.part_laws.proofs.Opened.{opened_stays, opened_within, opened_again}

bad_number : {A : Type 0} {n m p q : ℕ} → ◌≡◌ {A = Judged A} (bad n p) (bad m q) → n ≡ m
bad_number e = cc

-- ---- what is done and left of a beginning, by what opens it
module _ (t : ℕ) (b : List ℕ) where
  module _ (a : Arc) (e : opened b ≡ good a) where
    pub done_good : done t b ≡ whole (size_of a) (a.count - t) (drop a.start b)
    unfolding done
    done_good = ap (done_by t b) e

    pub left_good : left t b ≡ take a.start b ++ behind (size_of a) (a.count - t) (drop a.start b)
    unfolding left
    left_good = ap (left_by t b) e

    pub read_good : read_at t b ≡ closed_at a (length b + t * size_of a)
    unfolding read_at
    read_good = then_good _ _ e

    pub heading_good : opened_heading b ≡ a.heading
    unfolding opened_heading
    heading_good = ap heading_by e

  module _ {number place : ℕ} (e : opened b ≡ bad number place) where
    pub done_bad : done t b ≡ []
    unfolding done
    done_bad = ap (done_by t b) e

    pub left_bad : left t b ≡ b
    unfolding left
    left_bad = ap (left_by t b) e

    pub read_bad : read_at t b ≡ bad number place
    unfolding read_at
    read_bad = then_bad _ _ e

-- ---- more bytes
pub record After (t : ℕ) (b m : List ℕ) : Type 0 where
  pub records : done t (b ++ m) ≡ done t b ++ done (t + length (done t b)) (left t b ++ m)
  pub rest : left t (b ++ m) ≡ left (t + length (done t b)) (left t b ++ m)
  pub read : read_at t (b ++ m) ≡ read_at (t + length (done t b)) (left t b ++ m)
  pub heading : opened_heading (b ++ m) ≡ opened_heading (left t b ++ m)

module _ (t : ℕ) (b m : List ℕ) where
  after_bad : (number place : ℕ) → opened b ≡ bad number place → After t b m
  after_bad number place e =
      let d = done_bad t b e in
      let l = left_bad t b e in
      record {
        records = rw (d, l, add-zero);
        rest = rw (d, l, add-zero);
        read = rw (d, l, add-zero);
        heading = rw l;
      }

  is_left : (a : Arc) → opened b ≡ good a → left t b ++ m ≡ take a.start b ++ (behind (size_of a) (a.count - t) (drop a.start b) ++ m)
  is_left a e = ap (λ x. x ++ m) (left_good t b a e) ∙ append_assoc (take a.start b) (behind (size_of a) (a.count - t) (drop a.start b)) m

  pub opened_left : (a : Arc) → opened b ≡ good a → opened (left t b ++ m) ≡ good a
  opened_left a e = ap opened (is_left a e) ∙ opened_again b (behind (size_of a) (a.count - t) (drop a.start b) ++ m) a e

  after_good : (a : Arc) → opened b ≡ good a → After t b m
  after_good a e =
      let n = a.count - t in
      let size = size_of a in
      let l = drop a.start b in
      let j = length (whole size n l) in
      let u = left t b ++ m in
      let within = opened_within b a e in
      let long = length-take-le a.start b within in
      let d = done_good t b a e in
      let longer : opened (b ++ m) ≡ good a = (opened_stays b m).same a e in
      let is : u ≡ take a.start b ++ (behind size n l ++ m) = is_left a e in
      let again : opened u ≡ good a = opened_left a e in
      let tail : drop a.start u ≡ behind size n l ++ m = ap (drop a.start) is ∙ drop_at (take a.start b) (behind size n l ++ m) a.start long in
      let head : take a.start u ≡ take a.start b = ap (take a.start) is ∙ take_at (take a.start b) (behind size n l ++ m) a.start long in
      let fewer : a.count - (t + length (done t b)) ≡ n - j = ap (λ x. a.count - (t + length x)) d ∙ omega arith in
      let x = more size n l m in
      let bytes : length (b ++ m) + t * size ≡ length u + (t + length (done t b)) * size =
      rw (length-append b m, ap length is, length-append, length-append, length-take-le a.start b within, d, add-mul)
      (omega (arith, whole_long size n l, length-drop a.start b)) in
      record {
        records =
            done_good t (b ++ m) a longer
            ∙ ap (whole size n) (drop-append-le a.start b m within)
            ∙ x.done
            ∙ ap₂ (λ p q. p ++ q) (sym d) (sym (done_good _ u a again ∙ ap₂ (whole size) fewer tail));
        rest =
            left_good t (b ++ m) a longer
            ∙ ap₂ (λ p q. p ++ behind size n q) (take-append-le a.start b m within) (drop-append-le a.start b m within)
            ∙ ap (λ q. take a.start b ++ q) x.left
            ∙ sym (left_good _ u a again ∙ ap₂ (λ p q. p ++ q) head (ap₂ (behind size) fewer tail));
        read =
            read_good t (b ++ m) a longer
            ∙ ap (closed_at a) bytes
            ∙ sym (read_good _ u a again);
        heading = heading_good t (b ++ m) a longer ∙ sym (heading_good t u a again);
      }

  pub after : After t b m
  after = by_judged (opened b) after_good after_bad

  -- what is made of the records so far is made of them with the heading so far
  pub before : {C : Type 0} (g : Heading → List (List ℕ) → C) → ((h k : Heading) → g h [] ≡ g k []) → g (opened_heading b) (done t b) ≡ g (opened_heading (b ++ m)) (done t b)
  before g none =
      by_judged (opened b)
      (λ a e. ap (λ k. g k (done t b)) (heading_good t b a e ∙ sym (heading_good t (b ++ m) a ((opened_stays b m).same a e))))
      (λ number place e. rw (done_bad t b e) (none _ _))

-- ---- a refusal in the file's form: it stays, and no record follows it
module _ (a : Arc) (n : ℕ) where
  -- of n bytes a refusal other than 1 is 3, since bytes follow the records
  surplus : (number place : ℕ) → closed_at a n ≡ bad number place → (number ≡ 1 → ⊥) → ends_at a < n
  unfolding closed_at
  surplus number place e other =
      by_cases (less n (ends_at a))
      (λ f. let one : closed_at a n ≡ bad 1 n = sym (yes _ _ _ f refl) in absurd (other (bad_number (sym e ∙ one))))
      (λ f. by_cases (less (ends_at a) n)
      (λ g. less_true _ _ g)
      (λ g. let fine : closed_at a n ≡ good a = sym (no _ _ _ f (no _ _ _ g refl)) in absurd (not_bad (sym fine ∙ e))))

  is_surplus : ends_at a < n → closed_at a n ≡ bad 3 (ends_at a)
  unfolding closed_at
  is_surplus h = sym (no _ _ _ (not_less _ _ (omega arith)) (yes _ _ _ (is_less _ _ h) refl))

-- where bytes follow them all records are whole
all_whole : (count t start size : ℕ) (b : List ℕ) → start ≤ length b → start + count * size < length b + t * size
    → length (whole size (count - t) (drop start b)) ≡ count - t
all_whole count t start size b within h =
    let room : (count - t) * size ≤ length (drop start b) = by_cases (less count t)
    (λ f. let z : count - t ≡ 0 = omega (arith, less_true _ _ f) in rw z (omega (arith, zero-mul size)))
    (λ f. let z : count - t + t ≡ count = omega (arith, less_false _ _ f) in
    omega (arith, length-drop start b, add-mul (count - t) t size, ap (λ x. x * size) z)) in
    ap length (whole_cut size (count - t) (drop start b) room) ∙ length_cut size (count - t) (drop start b)

module _ (t : ℕ) (b m : List ℕ) (number place : ℕ) (e : read_at t b ≡ bad number place) (other : number ≡ 1 → ⊥) where
  pub record Closed : Type 0 where
    pub read : read_at t (b ++ m) ≡ bad number place
    pub records : done t (b ++ m) ≡ done t b

  pub refusal_closes : Closed
  unfolding whole
  refusal_closes =
      by_judged (opened b)
      (λ a o.
      let n = length b + t * size_of a in
      let longer : opened (b ++ m) ≡ good a = (opened_stays b m).same a o in
      let here : closed_at a n ≡ bad number place = sym (read_good t b a o) ∙ e in
      let past : ends_at a < n = surplus a n number place here other in
      let within = opened_within b a o in
      let u = left t b ++ m in
      let every = all_whole a.count t a.start (size_of a) b within past in
      let none : a.count - (t + length (done t b)) ≡ 0 = rw (done_good t b a o, every) (omega arith) in
      let again : opened u ≡ good a = opened_left t b m a o in
      let past₁ : ends_at a < length (b ++ m) + t * size_of a = rw length-append (omega arith) in
      record {
        read = read_good t (b ++ m) a longer ∙ is_surplus a _ past₁ ∙ sym (is_surplus a n past) ∙ here;
        records = (after t b m).records ∙ ap (λ x. done t b ++ x) (done_good _ u a again ∙ ap (λ k. whole (size_of a) k (drop a.start u)) none) ∙ append-nil (done t b);
      })
      (λ k p o.
      let longer : opened (b ++ m) ≡ bad k p = (opened_stays b m).kept k p o (λ z. other (bad_number (sym e ∙ read_bad t b o) ∙ z)) in
      record {
        read = read_bad t (b ++ m) longer ∙ sym (read_bad t b o) ∙ e;
        records = done_bad t (b ++ m) longer ∙ sym (done_bad t b o);
      })
