-- A run of records is its records taken one by one.
-- Assumes nothing.
use Prim.Native.Nat.{ℕ, zero, suc, ◌≤◌}
use mathlib.Core.Path.{◌≡◌, refl, sym, ap, ◌∙◌, subst, subst₂}
use mathlib.Core.Bool.{false}
use mathlib.Core.List.{List, [], ◌∷◌, ◌++◌}
use mathlib.Core.Logic.{◌↔◌}
use native.Mathlib.Omega.{arith}
use lib.IntN.{ℤ, pos}
use lib.ListN.{length, drop}
use Rattle.num_whole.specs.Tests.{up_to}
use Rattle.num_whole.proofs.Cases.{is_same, up_to_true, yes}
use Rattle.refusal.proofs.Firsts.{first_none, unless_none}
use Rattle.byte_words.specs.Words.{lay}
use Rattle.byte_words.proofs.Words.{lay_front}
use Rattle.arc_heading.specs.declared.Heading.{Heading}
use Rattle.arc_kinds.specs.Kinds.{record_size}
use Rattle.take_state.specs.State.{State, capped, room_number, started, seen_in, state_number}
use Rattle.take_laws.specs.Machine.{run, answers}
use Rattle.take_laws.specs.Taking.{frame_of, take_answer, take_step, cut, whole_records, records_in, run_number, run_state, run_answers}
use Rattle.num_whole.specs.Lists.{Each}
use Rattle.take_laws.specs.Mix.{keep, pairs, records_told, told_to, taken}
use Rattle.take_laws.specs.Arc.{end_of, told_in}
use Rattle.take_laws.specs.SumsOver.{partial_of, SumsOver}
use Rattle.take_laws.specs.Order.{whose}
use Rattle.take_laws.specs.Runs.{Unrefused, run_end, run_told, Runs}
use Rattle.take_laws.proofs.Guarded.{Held, guarded_run, guarded_answers, started_held}
use Rattle.take_laws.proofs.SumsOver.{sums_over}
use Rattle.take_laws.proofs.Silence.{silence}
use Rattle.take_laws.proofs.Order.{order}
use Rattle.take_laws.proofs.Never.{never}

-- ---- lengths
pub length_cut : (size n : ℕ) (l : List ℕ) → length (cut size n l) ≡ n
unfolding cut
length_cut size zero l = refl
length_cut size (suc n) l = ap suc (length_cut size n (drop size l))

pub length_answers : {R S A : Type 0} (step : R → S → S) (ans : R → S → A) (l : List R) (s : S) → length (answers step ans s l) ≡ length l
unfolding answers
length_answers step ans [] s = refl
length_answers step ans (r ∷ l) s = ap suc (length_answers step ans l (step r s))

-- what stands beside a list, and more behind it
pairs_front : {A B : Type 0} (l : List A) (m x : List B) → length m ≡ length l → pairs l (m ++ x) ≡ pairs l m
unfolding pairs
pairs_front [] m x e = refl
pairs_front (a ∷ l) [] x e = absurd (omega arith)
pairs_front (a ∷ l) (b ∷ m) x e = ap (λ p. (a, b) ∷ p) (pairs_front l m x (omega arith))

-- ---- from any state that an entry may be handed
module _ (h : Heading) (l : List ℕ) (s : State) (v : Held h s) where
  pub run_state_lem : (room : ℕ) → run_number h l room s ≡ 0 → run_state h l room s ≡ run (take_step h) s (records_in h l)
  unfolding run_state
  run_state_lem room e = sym (yes _ _ _ (is_same _ _ e) (guarded_run h (records_in h l) s v))

  pub run_answers_lem : (out : List ℕ) → run_number h l (length out) s ≡ 0
      → run_answers h l out s ≡ lay out 0 (answers (take_step h) (take_answer h) s (records_in h l))
  unfolding run_answers
  run_answers_lem out e = sym (yes _ _ _ (is_same _ _ e) (ap (lay out 0) (guarded_answers h (records_in h l) s v)))

  -- there is room for them
  room_enough : (room : ℕ) → run_number h l room s ≡ 0 → length (records_in h l) ≤ room
  unfolding run_number records_in
  room_enough room e =
      let n : whole_records h l ≤ room = up_to_true _ _ (unless_none 20 _ (omega arith) (first_none _ _ e).0) in
      omega (arith, length_cut (record_size (capped h)) (whole_records h l) l)

  pub run_told_lem : (out : List ℕ) → run_number h l (length out) s ≡ 0 → pairs (records_in h l) (run_answers h l out s) ≡ records_told (take_step h) (take_answer h) s (records_in h l)
  run_told_lem out e =
      let bs = records_in h l in
      let given = answers (take_step h) (take_answer h) s bs in
      let long : length given ≡ length bs = length_answers (take_step h) (take_answer h) bs s in
      ap (pairs bs) (run_answers_lem out e ∙ lay_front out given (omega (arith, room_enough (length out) e))) ∙ pairs_front bs given (drop (length given) out) long

-- ---- from the empty state
module _ (h : Heading) (m r : List ℤ) (e : room_number h m r ≡ 0) where
  pub runs : Runs h m r
  runs =
      let f = frame_of h in
      let v = started_held h m r e in
      let ends : (l out : List ℕ) → Unrefused h m r l out → run_end h m r l out ≡ end_of h m r (records_in h l) = λ l out n. run_state_lem h l (started h m r) v (length out) n in
      let tells : (l out : List ℕ) → Unrefused h m r l out → run_told h m r l out ≡ told_in h m r (records_in h l) = λ l out n. run_told_lem h l (started h m r) v out n in
      record {
        end = ends;
        told = tells;
        sums = λ l out n. subst₂ (λ s t. SumsOver f s (taken t)) (sym (ends l out n)) (sym (tells l out n)) (sums_over h m r e (records_in h l));
        unseen = λ l out n i b. subst₂ (λ s t. (seen_in s.matrix i ≡ false) ↔ Each (λ b. partial_of f b i ≡ pos 0) (taken t))
            (sym (ends l out n)) (sym (tells l out n)) ((silence h m r e).exactly (records_in h l) i b);
        one_by_one = λ l out n k b. ap (told_to (whose f) k) (tells l out n) ∙ (order h m r e).one_by_one (records_in h l) k b;
        strays = λ l out n. ap (keep (λ x. up_to 16 (whose f x.0))) (tells l out n) ∙ (order h m r e).strays (records_in h l);
        ends = λ l out n. ends l out n ∙ (order h m r e).ends (records_in h l);
        same_answers = λ l out l₁ out₁ n n₁ x k b. ap (told_to (whose f) k) (tells l out n)
            ∙ (order h m r e).same_answers (records_in h l) (records_in h l₁) x k b ∙ sym (ap (told_to (whose f) k) (tells l₁ out₁ n₁));
        same_end = λ l out l₁ out₁ n n₁ x. ends l out n ∙ (order h m r e).same_end (records_in h l) (records_in h l₁) x ∙ sym (ends l₁ out₁ n₁);
        sound = λ l out n. subst (λ s. state_number h s ≡ 0) (sym (ends l out n)) ((never h m r e).number (records_in h l));
      }
