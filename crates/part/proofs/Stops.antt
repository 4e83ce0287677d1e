-- What a part answers and leaves where nothing but the file's form is wrong, and where something else is; the same of finish, begin and the heading.
-- Assumes nothing.
use Prim.Native.Nat.{ℕ, ◌+◌, ◌≤◌, ◌<◌, min}
use mathlib.Core.Path.{◌≡◌, refl, sym, ap, ◌∙◌}
use mathlib.Core.List.{List, [], ◌∷◌, ◌++◌}
use mathlib.Core.Bool.{true, false}
use native.Mathlib.Omega.{arith}
use lib.IntN.{ℤ}
use lib.ListN.{length}
use Rattle.num_whole.specs.Tests.{same, both}
use Rattle.num_whole.specs.Answer.{Judged, given, refused}
use Rattle.num_whole.proofs.Cases.{yes, no, is_same, not_same, is_up_to, not_up_to, up_to_true, both_first, both_second}
use Rattle.num_limits.specs.Capacities.{parameters_most}
use Rattle.num_packed.specs.Triangle.{tri}
use Rattle.refusal.specs.First.{unless, first, answered}
use Rattle.refusal.specs.declared.Refusal.TheVariants.{Room}
use Rattle.refusal.proofs.Firsts.{first_pass, first_stop, first_one, first_none, when_true, when_false, when_none, unless_true, unless_false, unless_none, answered_given, answered_by}
use Rattle.arc_front.specs.Front.{blank_heading}
use Rattle.arc_read.specs.Arc.{Arc}
use Rattle.take_tally.specs.Tally.{empty_tally}
use Rattle.take_state.specs.State.{State, state_of}
use Rattle.part_laws.specs.Beginning.{opened, done, read_at, heading_by, opened_heading}
use Rattle.part_laws.specs.Feeding.{Position, finish, closing}
use Rattle.part_laws.specs.OneGo.{emptied}
use Rattle.num_packed.specs.Room.{sums_roomy}
use Rattle.part_laws.specs.Entries.{position_of, held_of, fair, sound_at, parameters_in, Told, stopped, begin_number, begin_state, part_number, part_position, part_state, part_answers, part_told, told_end, finish_number, finish_told, finish_position, heading_told, heading_given}
use Rattle.part_laws.specs.declared.Position as ByValue
use Rattle.part_laws.proofs.States.{parameters_most_lem}

-- ---- the room, as the code asks for it
pub room_asked : (k n : ℕ) (m r : List ℤ) → k ≡ n → n ≤ parameters_most
    → sums_roomy (min k parameters_most) (length m) (length r) ≡ sums_roomy n (length m) (length r)
room_asked k n m r e h =
    let least : min k parameters_most ≡ n = omega arith in
    ap (λ i. sums_roomy i (length m) (length r)) least

pub asked : (p : ByValue.Position) (m r : List ℤ) (k : ℕ) → k ≡ parameters_in (position_of p).kept
    → sums_roomy (parameters_in (position_of p).kept) (length m) (length r) ≡ sums_roomy (min k parameters_most) (length m) (length r)
asked p m r k e = sym (room_asked k _ m r e (parameters_most_lem (position_of p).kept))

pub room_given : (n m r : ℕ) → sums_roomy n m r ≡ true → (tri n ≤ m) × (n ≤ r)
unfolding sums_roomy
room_given n m r e = (up_to_true _ _ (both_first _ _ e), up_to_true _ _ (both_second _ _ e))

-- ---- a part
module _ (p : ByValue.Position) (s : State) (l out : List ℕ) where
  pub record Outcome (told : Told) (q : ByValue.Position) (z : State) (w : List ℕ) : Type 0 where
    pub says : told ≡ part_told p s l (length out)
    pub leads : q ≡ part_position p s l (length out)
    pub state : z ≡ part_state p s l (length out)
    pub answers : w ≡ part_answers p s l out

  stops : (k : ℕ) → part_number p s l (length out) ≡ k → (k ≡ 0 → ⊥) → Outcome (stopped k) p s out
  unfolding part_told part_position part_state part_answers
  stops k e z =
      let f : same (part_number p s l (length out)) 0 ≡ false = not_same _ _ (λ x. z (sym e ∙ x)) in
      record {
        says = no _ _ _ f (ap stopped (sym e));
        leads = no _ _ _ f refl;
        state = no _ _ _ f refl;
        answers = no _ _ _ f refl;
      }

  -- 28
  pub stop_over : p.over ≡ true → Outcome (stopped 28) p s out
  unfolding part_number
  stop_over e = stops 28 (first_stop _ _ (λ x. omega (arith, when_true 28 _ e)) ∙ when_true 28 _ e) (λ z. omega arith)

  module _ (going : p.over ≡ false) where
    -- 20: the sums
    pub stop_room : sums_roomy (parameters_in (position_of p).kept) (length s.matrix) (length s.rights) ≡ false → Outcome (stopped 20) p s out
    unfolding part_number
    stop_room e =
        stops 20 (first_pass _ _ (when_false 28 _ going) ∙ first_stop _ _ (λ x. omega (arith, unless_false 20 _ e)) ∙ unless_false 20 _ e) (λ z. omega arith)

    module _ (room : sums_roomy (parameters_in (position_of p).kept) (length s.matrix) (length s.rights) ≡ true) where
      -- 20: the answers
      pub stop_answers : length out < length (done p.taken ((position_of p).kept ++ l)) → Outcome (stopped 20) p s out
      unfolding part_number
      stop_answers h =
          let e = not_up_to _ _ h in
          stops 20
          (first_pass _ _ (when_false 28 _ going) ∙ first_pass _ _ (unless_true 20 _ room)
          ∙ first_stop _ _ (λ x. omega (arith, unless_false 20 _ e)) ∙ unless_false 20 _ e)
          (λ z. omega arith)

      module _ (enough : length (done p.taken ((position_of p).kept ++ l)) ≤ length out) where
        six : part_number p s l (length out) ≡ first (unless 6 (both (fair p) (sound_at (position_of p) s)) ∷ [])
        unfolding part_number
        six = first_pass _ _ (when_false 28 _ going) ∙ first_pass _ _ (unless_true 20 _ room) ∙ first_pass _ _ (unless_true 20 _ (is_up_to _ _ enough))

        -- 6
        pub stop_unsound : both (fair p) (sound_at (position_of p) s) ≡ false → Outcome (stopped 6) p s out
        stop_unsound e = stops 6 (six ∙ first_one _ ∙ unless_false 6 _ e) (λ z. omega arith)

        -- nothing
        pub goes : both (fair p) (sound_at (position_of p) s) ≡ true → part_number p s l (length out) ≡ 0
        goes e = six ∙ first_one _ ∙ unless_true 6 _ e

  -- what is known where nothing is wrong
  pub record Fine : Type 0 where
    pub going : p.over ≡ false
    pub matrix : tri (parameters_in (position_of p).kept) ≤ length s.matrix
    pub rights : parameters_in (position_of p).kept ≤ length s.rights
    pub enough : length (done p.taken ((position_of p).kept ++ l)) ≤ length out
    pub place : fair p ≡ true
    pub state : sound_at (position_of p) s ≡ true

  module _ (e : part_number p s l (length out) ≡ 0) where
    pub fine : Fine
    unfolding part_number sums_roomy
    fine =
        let a = first_none _ _ e in
        let b = first_none _ _ a.1 in
        let c = first_none _ _ b.1 in
        let d = first_none _ _ c.1 in
        let room = unless_none 20 _ (λ z. omega arith) b.0 in
        let six = unless_none 6 _ (λ z. omega arith) d.0 in
        record {
          going = when_none 28 _ (λ z. omega arith) a.0;
          matrix = up_to_true _ _ (both_first _ _ room);
          rights = up_to_true _ _ (both_second _ _ room);
          enough = up_to_true _ _ (unless_none 20 _ (λ z. omega arith) c.0);
          place = both_first _ _ six;
          state = both_second _ _ six;
        }

-- ---- finish
module _ (p : ByValue.Position) where
  ends : (k : ℕ) → finish_number p ≡ k → (k ≡ 0 → ⊥) → (stopped k ≡ finish_told p) × (p ≡ finish_position p)
  unfolding finish_told finish_position
  ends k e z =
      let f : same (finish_number p) 0 ≡ false = not_same _ _ (λ x. z (sym e ∙ x)) in
      (no _ _ _ f (ap stopped (sym e)), no _ _ _ f refl)

  pub end_over : p.over ≡ true → (stopped 28 ≡ finish_told p) × (p ≡ finish_position p)
  unfolding finish_number
  end_over e = ends 28 (first_stop _ _ (λ x. omega (arith, when_true 28 _ e)) ∙ when_true 28 _ e) (λ z. omega arith)

  module _ (going : p.over ≡ false) where
    pub end_unsound : fair p ≡ false → (stopped 6 ≡ finish_told p) × (p ≡ finish_position p)
    unfolding finish_number
    end_unsound e = ends 6 (first_pass _ _ (when_false 28 _ going) ∙ first_one _ ∙ unless_false 6 _ e) (λ z. omega arith)

    pub end_told : fair p ≡ true
        → (told_end (read_at p.taken (position_of p).kept) p.taken ≡ finish_told p)
        × (held_of (closing (read_at p.taken (position_of p).kept) (position_of p)) ≡ finish_position p)
    unfolding finish_number finish_told finish_position finish
    end_told e =
        let f = is_same _ _ (first_pass _ _ (when_false 28 _ going) ∙ first_one _ ∙ unless_true 6 _ e) in
        let is : read_at p.taken (position_of p).kept ≡ finish (position_of p) = no _ _ _ going refl in
        (yes _ _ _ f (ap (λ x. told_end x p.taken) is), yes _ _ _ f (ap (λ x. held_of (closing x (position_of p))) is))

-- ---- begin
module _ (m r : List ℤ) where
  pub begins : sums_roomy parameters_most (length m) (length r) ≡ true → (given (tt {0}) ≡ answered (begin_number m r) tt) × (emptied m r ≡ begin_state m r)
  unfolding begin_number begin_state
  begins e = let k = first_one _ ∙ unless_true 20 _ e in (answered_given _ tt k, yes _ _ _ (is_same _ _ k) refl)

  pub begins_not : sums_roomy parameters_most (length m) (length r) ≡ false → (refused 20 ≡ answered (begin_number m r) (tt {0})) × (state_of m r empty_tally ≡ begin_state m r)
  unfolding begin_number begin_state
  begins_not e =
      let k = first_one _ ∙ unless_false 20 _ e in
      (answered_by _ tt Room k, no _ _ _ (not_same _ _ (λ z. omega (arith, k))) refl)

-- ---- the heading
module _ (p : ByValue.Position) where
  pub headed : fair p ≡ true → (j : Judged Arc) → j ≡ opened (position_of p).kept → (told_end j p.taken ≡ heading_told p) × (heading_by j ≡ heading_given p)
  unfolding heading_told heading_given opened_heading
  headed e j f = (yes _ _ _ e (ap (λ x. told_end x p.taken) f), yes _ _ _ e (ap heading_by f))

  pub headed_not : fair p ≡ false → (stopped 6 ≡ heading_told p) × (blank_heading ≡ heading_given p)
  unfolding heading_told heading_given
  headed_not e = (no _ _ _ e refl, no _ _ _ e refl)
