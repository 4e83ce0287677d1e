-- The calls for a file in parts: too little room, refused with everything kept, or a position and a state put into their rooms.
-- Assumes nothing.
use Prim.Native.Nat.{ℕ, ◌≤◌}
use mathlib.Core.Path.{◌≡◌, refl, sym, ap, ap₂, ◌∙◌}
use mathlib.Core.List.{List}
use mathlib.Core.Bool.{true, false}
use native.Mathlib.Omega.{arith}
use lib.IntN.{ℤ}
use lib.ListN.{length}
use Rattle.num_whole.specs.Tests.{up_to, same, pick, both}
use Rattle.num_whole.specs.Answer.{Judged, good, bad, given, refused}
use Rattle.num_whole.proofs.Cases.{apart, yes, no, is_same, not_same, by_cases, both_first, both_second, up_to_true}
use Rattle.byte_words.specs.Words.{lay}
use Rattle.refusal.specs.Number.{number_of}
use Rattle.refusal.specs.First.{answered}
use Rattle.refusal.specs.declared.Refusal.{Refusal}
use Rattle.refusal.proofs.Apart.{not_none}
use Rattle.refusal.proofs.Firsts.{unless_true, unless_false, first_pass, first_stop, first_one}
use Rattle.take_tally.specs.declared.Tally.{Tally}
use Rattle.take_state.specs.State.{State, state_of}
use Rattle.take_state.proofs.Rooms.{by_given, by_refused}
use Rattle.call_tally.specs.Tally.{tally_bytes}
use Rattle.part_laws.specs.Feeding.{begun, feed}
use Rattle.part_laws.specs.Entries.{Told, stopped, position_of, held_of, told_form, begin_number, begin_state, part_number, part_told, part_position, part_state, part_answers, finish_told, finish_position}
use Rattle.part_laws.specs.declared.Position.{Position}
use Rattle.call_position.specs.Position.{position_long, position_in, position_bytes, has_position}
use Rattle.call_told.specs.Told.{told_number, told_out, changes, with_all}
use Rattle.call_part.specs.Calls.{Rooms, rooms, place_in, rooms_state, has_state, begin_call, begin_left, part_lent, part_call, part_left, part_answers_left, place_lent, finish_call, finish_left}

-- ---- what is there whole
pub position_long_lem : (b : List ℕ) → has_position b ≡ true → position_long ≤ length b
unfolding has_position
position_long_lem b e = up_to_true _ _ e

pub place_long : (b : List ℕ) (out : ℕ) → place_lent b out ≡ true → (position_long ≤ length b) × (2 ≤ out)
place_long b out e = (position_long_lem b (both_first _ _ e), up_to_true _ _ (both_second _ _ e))

pub state_long : (b t : List ℕ) (out : ℕ) → both (has_state b t) (up_to 2 out) ≡ true → (position_long ≤ length b) × (2 ≤ out)
state_long b t out e = (position_long_lem b (both_first _ _ (both_first _ _ e)), up_to_true _ _ (both_second _ _ e))

-- ---- begin
module _ (x : Rooms) where
  left_kept : (begin_call x ≡ 0 → ⊥) → x ≡ begin_left x
  unfolding begin_left
  left_kept some = no _ _ _ (not_same _ _ some) refl

  pub begin_short : has_state x.position x.tally ≡ false → (20 ≡ begin_call x) × (x ≡ begin_left x)
  unfolding begin_call
  begin_short e =
      let is = unless_false 20 _ e in
      let number : begin_call x ≡ 20 = first_stop _ _ (λ z. omega (arith, sym is ∙ z)) ∙ is in
      (sym number, left_kept (λ z. omega (arith, sym number ∙ z)))

  module _ (whole : has_state x.position x.tally ≡ true) where
    begin_number_lem : begin_call x ≡ begin_number x.matrix x.rights
    unfolding begin_call
    begin_number_lem = first_pass _ _ (unless_true 20 _ whole) ∙ first_one _

    module _ (m r : List ℤ) (u : Tally) (state : state_of m r u ≡ begin_state x.matrix x.rights) where
      pub begin_done : (q : Position) {b t : List ℕ} → q ≡ held_of begun → given (tt {0}) ≡ answered (begin_number x.matrix x.rights) (tt {0})
          → b ≡ lay x.position 0 (position_bytes q) → t ≡ lay x.tally 0 (tally_bytes u) → (0 ≡ begin_call x) × (rooms b t m r ≡ begin_left x)
      unfolding begin_left
      begin_done q is told e f =
          let zero : begin_call x ≡ 0 = begin_number_lem ∙ by_given _ told in (
            sym zero,
            yes _ _ _ (is_same _ _ zero)
                (ap₂ (λ y z. rooms y z m r) (e ∙ ap (λ p. lay x.position 0 (position_bytes p)) is) f
                ∙ ap (λ s. rooms (lay x.position 0 (position_bytes (held_of begun))) (lay x.tally 0 (tally_bytes s.tally)) s.matrix s.rights) state),
          )

      pub begin_kept : (e : Refusal) (n : ℕ) → refused (number_of e) ≡ answered (begin_number x.matrix x.rights) (tt {0}) → n ≡ number_of e
          → (n ≡ begin_call x) × (rooms x.position x.tally m r ≡ begin_left x)
      unfolding begin_state
      begin_kept e n told i =
          let number : begin_number x.matrix x.rights ≡ number_of e = by_refused _ _ told in
          let some : begin_number x.matrix x.rights ≡ 0 → ⊥ = λ z. not_none e (sym number ∙ z) in
          let back = state ∙ sym (no _ _ _ (not_same _ 0 some) refl) in (
            i ∙ sym number ∙ sym begin_number_lem,
            ap₂ (λ y z. rooms x.position x.tally y z) (ap (λ s. s.matrix) back) (ap (λ s. s.rights) back)
                ∙ left_kept (λ z. some (sym begin_number_lem ∙ z)),
          )

-- ---- a part: an answer that changes nothing has left the state as it was
form_changes : (j : Judged (Unit {0})) (now all : ℕ) → changes (told_form j now all) ≡ true
unfolding changes
form_changes (good u) now all = refl
form_changes (bad number place) now all = refl

part_kept : (p : Position) (s : State) (l : List ℕ) (room : ℕ) → changes (part_told p s l room) ≡ false → part_state p s l room ≡ s
unfolding part_told part_state
part_kept p s l room e =
    by_cases (same (part_number p s l room) 0)
    (λ z. absurd (apart (sym (ap changes (sym (yes _ _ _ z refl)) ∙ form_changes (feed (position_of p) s l).verdict _ _) ∙ e)))
    (λ z. sym (no _ _ _ z refl))

module _ (x : Rooms) (l answers out : List ℕ) where
  abbrev call : Told
  call = part_call x l (length answers) (length out)

  abbrev Parts : ℕ → Rooms → List ℕ → List ℕ → Type 0
  Parts n y told left =
      (n ≡ told_number call)
      × ((y ≡ part_left x l (length answers) (length out)) × ((told ≡ part_answers_left x l answers (length out)) × (left ≡ told_out call out)))

  pub part_short : part_lent x (length out) ≡ false → Parts 20 x answers out
  unfolding part_call part_left part_answers_left told_number told_out changes
  part_short e =
      let is : call ≡ stopped 20 = sym (no _ _ _ e refl) in
      (sym (ap told_number is), (no _ _ _ (ap changes is) refl, (no _ _ _ e refl, sym (ap (λ t. told_out t out) is))))

  module _ (lent : part_lent x (length out) ≡ true) (t : Told) (q : Position) (m r : List ℤ) (u : Tally) where
    pub part_done : t ≡ part_told (place_in x) (rooms_state x) l (length answers) → q ≡ part_position (place_in x) (rooms_state x) l (length answers)
        → state_of m r u ≡ part_state (place_in x) (rooms_state x) l (length answers) → {n : ℕ} {b c told left : List ℕ}
        → told ≡ part_answers (place_in x) (rooms_state x) l answers → n ≡ told_number t
        → b ≡ pick (changes t) (lay x.position 0 (position_bytes q)) x.position → c ≡ pick (changes t) (lay x.tally 0 (tally_bytes u)) x.tally
        → left ≡ told_out t out → Parts n (rooms b c m r) told left
    unfolding part_call part_left part_answers_left
    part_done says leads state {n} {b} {c} told number put tally two =
        let is : t ≡ call = yes _ _ _ lent says in (
          number ∙ ap told_number is,
          (
            by_cases (changes t)
                (λ z.
                yes _ _ _ (sym (ap changes is) ∙ z)
                (ap₂ (λ y w. rooms y w m r) (put ∙ sym (yes _ _ _ z refl) ∙ ap (λ p. lay x.position 0 (position_bytes p)) leads) (tally ∙ sym (yes _ _ _ z refl))
                ∙ ap
                (λ s. rooms (lay x.position 0 (position_bytes (part_position (place_in x) (rooms_state x) l (length answers)))) (lay x.tally 0 (tally_bytes s.tally)) s.matrix s.rights)
                state))
                (λ z.
                let back = state ∙ part_kept (place_in x) (rooms_state x) l (length answers) (sym (ap changes says) ∙ z) in
                no _ _ _ (sym (ap changes is) ∙ z)
                (ap₂ (λ y w. rooms y w m r) (put ∙ sym (no _ _ _ z refl)) (tally ∙ sym (no _ _ _ z refl))
                ∙ ap₂ (λ y w. rooms x.position x.tally y w) (ap (λ s. s.matrix) back) (ap (λ s. s.rights) back))),
            (yes _ _ _ lent told, two ∙ ap (λ y. told_out y out) is),
          ),
        )

-- ---- finish
module _ (b out : List ℕ) where
  abbrev ending : Told
  ending = finish_call b (length out)

  abbrev Ends : ℕ → List ℕ → List ℕ → Type 0
  Ends n c left = (n ≡ told_number ending) × ((c ≡ finish_left b (length out)) × (left ≡ told_out ending out))

  pub finish_short : place_lent b (length out) ≡ false → Ends 20 b out
  unfolding finish_call finish_left told_number told_out changes
  finish_short e =
      let is : ending ≡ stopped 20 = sym (no _ _ _ e refl) in
      (sym (ap told_number is), (no _ _ _ (ap changes is) refl, sym (ap (λ t. told_out t out) is)))

  module _ (lent : place_lent b (length out) ≡ true) (t : Told) (q : Position) where
    pub finish_done : t ≡ with_all (position_in b).taken (finish_told (position_in b)) → q ≡ finish_position (position_in b) → {n : ℕ} {c left : List ℕ}
        → n ≡ told_number t → c ≡ pick (changes t) (lay b 0 (position_bytes q)) b → left ≡ told_out t out → Ends n c left
    unfolding finish_call finish_left
    finish_done says leads number put two =
        let is : t ≡ ending = yes _ _ _ lent says in (
          number ∙ ap told_number is,
          (put ∙ ap₂ (λ y w. pick (changes y) (lay b 0 (position_bytes w)) b) is leads, two ∙ ap (λ y. told_out y out) is),
        )
