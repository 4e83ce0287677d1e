-- The entries one after another: where the rooms suffice they are `feed`, so cuts don't matter to them either.
-- Assumes nothing.
use Prim.Native.Nat.{ℕ, ◌+◌, ◌-◌, ◌≤◌}
use mathlib.Core.Path.{◌≡◌, refl, sym, ap, ap₂, ◌∙◌, subst, subst₂}
use mathlib.Core.List.{List, [], ◌∷◌, ◌++◌}
use mathlib.Core.Bool.{true, false}
use native.Mathlib.Omega.{arith}
use lib.ListN.{length, take, drop}
use lib.Seq.{take_at}
use Rattle.num_whole.specs.Tests.{same}
use Rattle.num_whole.specs.Answer.{Judged, good, bad}
use Rattle.num_whole.proofs.Cases.{yes, no, holds, is_same, not_same, is_up_to}
use Rattle.refusal.proofs.Firsts.{first_pass, first_stop, first_one, when_true, when_false, unless_true}
use Rattle.byte_words.specs.Words.{lay}
use Rattle.byte_words.proofs.Words.{lay_front}
use Rattle.byte_section.specs.Section.{and_then}
use Rattle.byte_section.proofs.Walk.{by_judged}
use Rattle.take_state.specs.State.{State}
use Rattle.take_laws.specs.Machine.{answers}
use Rattle.part_laws.specs.Beginning.{done}
use Rattle.part_laws.specs.Feeding.{Position, Fed, feed, fed_on, concat}
use Rattle.num_packed.specs.Room.{sums_roomy}
use Rattle.part_laws.specs.Entries.{position_most, position_of, held_of, tidy, led, fair, part_number, part_position, part_state, part_answers, told_form, part_told}
use Rattle.part_laws.specs.Sequence.{Piece, bytes_in, form_of, Gone, gone_part, gone_on, gone, Enough, gone_of}
use Rattle.part_laws.specs.declared.Position as ByValue
use Rattle.part_laws.proofs.ByValue.{position_back, held_tidy}
use Rattle.part_laws.proofs.Feeding.{after_over, cuts}
use Rattle.part_laws.proofs.Six.{feed_nothing}
use Rattle.part_laws.proofs.States.{Fit, part_fit}
use Rattle.part_laws.proofs.Over.{placed_short, feed_moved}

-- ---- an entry is `feed` where its rooms suffice
module _ (p : ByValue.Position) (s : State) (fit : Fit (position_of p) s) (clean : tidy p ≡ true) (going : p.over ≡ false) (l : List ℕ) where
  pub fair_going : fair p ≡ true
  unfolding fair led
  fair_going = sym (holds _ _ clean (no _ _ _ going (sym fit.place)))

  pub part_goes : (room : ℕ) → length (done p.taken ((position_of p).kept ++ l)) ≤ room → part_number p s l room ≡ 0
  unfolding part_number sums_roomy
  part_goes room enough =
      first_pass _ _ (when_false 28 _ going)
      ∙ first_pass _ _ (unless_true 20 _ (sym (holds _ _ (is_up_to _ _ fit.matrix) (sym (is_up_to _ _ fit.rights)))))
      ∙ first_pass _ _ (unless_true 20 _ (is_up_to _ _ enough))
      ∙ first_one _ ∙ unless_true 6 _ (sym (holds _ _ fair_going (sym fit.state)))

  module _ (out : List ℕ) (enough : length (done p.taken ((position_of p).kept ++ l)) ≤ length out) where
    pub part_position_lem : part_position p s l (length out) ≡ held_of (feed (position_of p) s l).position
    unfolding part_position
    part_position_lem = sym (yes _ _ _ (is_same _ _ (part_goes (length out) enough)) refl)

    pub part_state_lem : part_state p s l (length out) ≡ (feed (position_of p) s l).state
    unfolding part_state
    part_state_lem = sym (yes _ _ _ (is_same _ _ (part_goes (length out) enough)) refl)

    pub part_answers_lem : part_answers p s l out ≡ lay out 0 (feed (position_of p) s l).answers
    unfolding part_answers
    part_answers_lem = sym (yes _ _ _ (is_same _ _ (part_goes (length out) enough)) refl)

    pub part_told_lem : part_told p s l (length out)
        ≡ told_form (feed (position_of p) s l).verdict (length (feed (position_of p) s l).answers) (feed (position_of p) s l).position.taken
    unfolding part_told
    part_told_lem = sym (yes _ _ _ (is_same _ _ (part_goes (length out) enough)) refl)

-- ---- 28: nothing changes, whatever is handed over
module _ (p : ByValue.Position) (s : State) (over : p.over ≡ true) (l : List ℕ) where
  pub part_over : (room : ℕ) → part_number p s l room ≡ 28
  unfolding part_number
  part_over room = first_stop _ _ (λ x. omega (arith, when_true 28 _ over)) ∙ when_true 28 _ over

  not_none : (room : ℕ) → same (part_number p s l room) 0 ≡ false
  not_none room = not_same _ _ (λ z. omega (arith, part_over room))

  pub over_position : (room : ℕ) → part_position p s l room ≡ p
  unfolding part_position
  over_position room = sym (no _ _ _ (not_none room) refl)

  pub over_state : (room : ℕ) → part_state p s l room ≡ s
  unfolding part_state
  over_state room = sym (no _ _ _ (not_none room) refl)

  pub over_answers : (out : List ℕ) → part_answers p s l out ≡ out
  unfolding part_answers
  over_answers out = sym (no _ _ _ (not_none (length out)) refl)

-- so the pieces after it are as if they weren't
pub record Still (p : ByValue.Position) (s : State) (x : Gone) : Type 0 where
  pub position : x.position ≡ p
  pub state : x.state ≡ s
  pub answers : x.answers ≡ []

pub gone_over : (p : ByValue.Position) (s : State) → p.over ≡ true → (xs : List Piece) → Still p s (gone p s xs)
unfolding gone
gone_over p s over [] = record { position = refl; state = refl; answers = refl }
gone_over p s over (x ∷ xs) =
    let n = length x.room in
    let a = over_position p s over x.bytes n in
    let b = over_state p s over x.bytes n in
    let no_more : (part_position p s x.bytes n).taken - p.taken ≡ 0 = omega (arith, ap (λ q. q.taken) a) in
    let none : take ((part_position p s x.bytes n).taken - p.taken) (part_answers p s x.bytes x.room) ≡ [] =
    ap (λ k. take k (part_answers p s x.bytes x.room)) no_more in
    let ih : Still p s (gone (part_position p s x.bytes n) (part_state p s x.bytes n) xs) =
    subst₂ (λ q z. Still p s (gone q z xs)) (sym a) (sym b) (gone_over p s over xs) in
    record { position = ih.position; state = ih.state; answers = ap₂ (λ y z. y ++ z) none ih.answers }

-- ---- pieces from a position on
form_told : (v : Judged (Unit {0})) (n m : ℕ) → form_of (told_form v n m) ≡ v
form_told (good u) n m = refl
form_told (bad number place) n m = refl

-- one of them
module _ (q : Position) (s : State) (fit : Fit q s) (going : q.over ≡ false) (x : Piece) where
  abbrev l : List ℕ
  l = x.bytes

  abbrev f : Fed
  f = feed q s l

  small : length q.kept ≤ position_most
  small = omega (arith, placed_short q fit.place)

  fit_held : Fit (position_of (held_of q)) s
  fit_held = subst (λ z. Fit z s) (sym (position_back q)) fit

  module _ (enough : length (done q.taken ((position_of (held_of q)).kept ++ l)) ≤ length x.room) where
    one_gone : gone_part (held_of q) s x ≡ gone_of f
    one_gone =
        let out = x.room in
        let back : feed (position_of (held_of q)) s l ≡ f = ap (λ z. feed z s l) (position_back q) in
        let clean = held_tidy q small in
        let m = feed_moved q s going l in
        let place : part_position (held_of q) s l (length out) ≡ held_of f.position =
        part_position_lem (held_of q) s fit_held clean going l out enough ∙ ap (λ z. held_of z.position) back in
        let state : part_state (held_of q) s l (length out) ≡ f.state = part_state_lem (held_of q) s fit_held clean going l out enough ∙ ap (λ z. z.state) back in
        let many : (part_position (held_of q) s l (length out)).taken - q.taken ≡ length f.answers =
        ap (λ z. z.taken - q.taken) place ∙ omega (arith, m.taken, m.number) in
        let short : length f.answers ≤ length out =
        omega (arith, m.number, ap (λ z. length (done q.taken (z.kept ++ l))) (position_back q), enough) in
        let told : part_answers (held_of q) s l out ≡ f.answers ++ drop (length f.answers) out =
        part_answers_lem (held_of q) s fit_held clean going l out enough ∙ ap (λ z. lay out 0 z.answers) back ∙ lay_front out f.answers short in
        let written : take ((part_position (held_of q) s l (length out)).taken - q.taken) (part_answers (held_of q) s l out) ≡ f.answers =
        ap₂ (λ k z. take k z) many told ∙ take_at f.answers (drop (length f.answers) out) (length f.answers) refl in
        let form : form_of (part_told (held_of q) s l (length out)) ≡ f.verdict =
        ap form_of (part_told_lem (held_of q) s fit_held clean going l out enough) ∙ form_told _ _ _ ∙ ap (λ z. z.verdict) back in
        λ i. record { position = place i; state = state i; answers = written i; form = form i }

closes : {A B : Type 0} (g : A → Judged B) (number place : ℕ) → and_then (bad number place) g ≡ bad number place
unfolding and_then
closes g number place = refl

pub gone_feed : (q : Position) (s : State) → Fit q s → q.over ≡ false → (xs : List Piece) → Enough (held_of q) s xs
    → gone (held_of q) s xs ≡ gone_of (feed q s (bytes_in xs))
unfolding gone concat Enough
gone_feed q s fit going [] e = ap gone_of (sym (feed_nothing q fit.place s going))
gone_feed q s fit going (x ∷ xs) e =
    let f = feed q s x.bytes in
    let rest = bytes_in xs in
    let one : gone_part (held_of q) s x ≡ gone_of f = one_gone q s fit going x (e.0 going) in
    let both-parts : Fed = fed_on f (feed f.position f.state rest) in
    let more : Enough (held_of f.position) f.state xs = subst₂ (λ p z. Enough p z xs) (ap (λ y. y.position) one) (ap (λ y. y.state) one) e.1 in
    ap (λ y. gone_on y (gone y.position y.state xs)) one
    ∙ by_judged f.verdict
    (λ u v. let m = feed_moved q s going x.bytes in
    ap (gone_on (gone_of f)) (gone_feed f.position f.state (part_fit q s fit x.bytes going v) (m.goes u v) xs more))
    (λ number place v. let m = feed_moved q s going x.bytes in
    let over = m.stops number place v in
    let still = gone_over (held_of f.position) f.state over xs in
    let off = after_over f.position f.state rest over in
    λ i. record {
      position = (still.position ∙ ap (λ y. held_of y.position) (sym off)) i;
      state = (still.state ∙ ap (λ y. y.state) (sym off)) i;
      answers = f.answers ++ (still.answers ∙ ap (λ y. y.answers) (sym off)) i;
      form = (ap (λ w. and_then w (λ u. (gone (held_of f.position) f.state xs).form)) v ∙ closes _ number place ∙ sym (ap (λ w. and_then w (λ u. (feed f.position f.state rest).verdict)) v ∙ closes _ number place)) i;
    })
    ∙ ap gone_of (sym (cuts q s x.bytes rest))
