-- The heading of a position: too little room, what is told of it, or it is put into its room.
-- Assumes nothing.
use Rattle.std.specs.Prelude.{Result, Ok, Err, IfOk}
use Prim.Native.Nat.{ℕ, ◌≤◌, zero-le}
use mathlib.Core.Path.{◌≡◌, refl, sym, ap, ap₂, ◌∙◌, subst}
use mathlib.Core.List.{List}
use mathlib.Core.Bool.{true, false}
use lib.ListN.{length}
use Rattle.num_whole.specs.Tests.{pick}
use Rattle.num_whole.specs.Answer.{Judged, good, bad}
use Rattle.num_whole.proofs.Cases.{yes, no, by_cases}
use Rattle.byte_words.specs.Words.{lay}
use Rattle.arc_heading.specs.declared.Heading.{Heading}
use Rattle.arc_heading.proofs.Sound.{sound}
use Rattle.arc_front.specs.Front.{blank_heading}
use Rattle.call_heading.specs.Lent.{heading_bytes}
use Rattle.part_laws.specs.Beginning.{opened, opened_heading, heading_by}
use Rattle.part_laws.specs.Entries.{Told, took, stopped, broken, fair, told_part, heading_told, heading_given}
use Rattle.part_laws.specs.declared.PartRefusal.{PartRefusal}
use Rattle.part_laws.specs.declared.PartRefusal.TheVariants.{Stopped, Broken}
use Rattle.part_laws.specs.declared.Position.{Position}
use Rattle.part_laws.proofs.OneGo.{opened_sound}
use Rattle.refusal.specs.Number.{number_of}
use Rattle.part.specs.Given.{heading_of}
use Rattle.call_position.specs.Position.{position_in, marked}
use Rattle.call_told.specs.Told.{told_number, told_out, head_roomy, tells}
use Rattle.call_part.specs.Calls.{place_lent, head_told, head_given, head_fits, head_call, head_left}
use Rattle.call_told.proofs.Told.{Puts}

-- ---- its counts are within their limits, read or blank
abbrev Fits : Heading → Type 0
Fits h = (h.parameters ≤ 50) × (h.stations ≤ 16)

opened_fits : (s : List ℕ) (j : Judged _) → opened s ≡ j → Fits (heading_by j)
opened_fits s (good a) e = let v = sound a.heading (opened_sound s a e) in (v.few, v.seats)
opened_fits s (bad number place) e = (zero-le, zero-le)

pub given_fits : (p : Position) → Fits (heading_given p)
unfolding heading_given opened_heading
given_fits p =
    by_cases (fair p) (λ e. subst Fits (yes _ _ _ e refl) (opened_fits _ _ refl)) (λ e. subst Fits (no _ _ _ e refl) (zero-le, zero-le))

pub fits_if : (x : Result Heading PartRefusal) → Fits (heading_of x) → IfOk x (λ h. (h.parameters ≤ 50) × (h.stations ≤ 16))
fits_if (Ok h) f = f
fits_if (Err r) f = tt

-- ---- the word for whether the file is over
module _ (b : List ℕ) (h : Heading) (t : Told) where
  pub looked : marked b ≡ true → (p : Position) → p ≡ position_in b → t ≡ heading_told p → h ≡ heading_given p → (t ≡ head_told b) × ((h ≡ head_given b) × Fits h)
  unfolding head_told head_given
  looked e p is f g = (yes _ _ _ e (f ∙ ap heading_told is), (yes _ _ _ e (g ∙ ap heading_given is), subst Fits (sym g) (given_fits p)))

  pub looked_not : marked b ≡ false → t ≡ stopped 6 → h ≡ blank_heading → (t ≡ head_told b) × ((h ≡ head_given b) × Fits h)
  unfolding head_told head_given
  looked_not e f g = (no _ _ _ e f, (no _ _ _ e g, subst Fits (sym g) (zero-le, zero-le)))

-- ---- the call
module _ (b room out : List ℕ) where
  abbrev call : Told
  call = head_call b (length room) (length out)

  abbrev Gives : ℕ → List ℕ → List ℕ → Type 0
  Gives n h left = (n ≡ told_number call) × ((h ≡ head_left b room (length out)) × (left ≡ told_out call out))

  -- what is told, and no heading
  only_told : (t : Told) → call ≡ t → tells t ≡ false → {n : ℕ} {left : List ℕ} → n ≡ told_number t → left ≡ told_out t out → Gives n room left
  unfolding head_left
  only_told t is none number two =
      (number ∙ ap told_number (sym is), (no _ _ _ (ap tells is ∙ none) refl, two ∙ ap (λ y. told_out y out) (sym is)))

  pub head_lacks : place_lent b (length out) ≡ false → Gives 20 room out
  unfolding head_call tells told_number told_out
  head_lacks e = only_told (stopped 20) (sym (no _ _ _ e refl)) refl refl refl

  module _ (lent : place_lent b (length out) ≡ true) where
    by_head : (t : Told) → t ≡ head_told b → call ≡ head_fits (head_roomy (head_given b) (length room)) (position_in b).taken t
    unfolding head_call
    by_head t e = sym (yes _ _ _ lent refl) ∙ ap (head_fits (head_roomy (head_given b) (length room)) (position_in b).taken) (sym e)

    pub head_refused : (r : PartRefusal) {n : ℕ} {left : List ℕ} → told_part (Err r) ≡ head_told b
        → (n ≡ told_number (told_part (Err r))) × (left ≡ told_out (told_part (Err r)) out) → Gives n room left
    unfolding tells
    head_refused (Stopped w) e put = only_told (stopped (number_of w)) (by_head (stopped (number_of w)) e) refl put.0 put.1
    head_refused (Broken f m) e put =
        only_told (broken (number_of f.why) f.place m) (by_head (broken (number_of f.why) f.place m) e) refl put.0 put.1

    pub head_given_lem : (k : ℕ) (h : Heading) (taken : ℕ) → took k ≡ head_told b → h ≡ head_given b → taken ≡ (position_in b).taken → {n : ℕ} {left told : List ℕ}
        → Puts h taken room out n left told → Gives n left told
    unfolding head_left tells
    head_given_lem k h taken e is many {n} {left} {told} put =
        let fit = by_head (took k) e in
        let says : pick (head_roomy h (length room)) (took taken) (stopped 20) ≡ call =
        ap₂ (λ y z. pick (head_roomy y (length room)) (took z) (stopped 20)) is many ∙ sym fit in (
          put.0 ∙ ap told_number says,
          (
            by_cases (head_roomy h (length room))
                (λ z.
                yes _ _ _ (ap tells (sym says ∙ sym (yes _ _ _ z refl)))
                (put.1.0 ∙ sym (yes _ _ _ z refl) ∙ ap (λ y. lay room 0 (heading_bytes y)) is))
                (λ z. no _ _ _ (ap tells (sym says ∙ sym (no _ _ _ z refl))) (put.1.0 ∙ sym (no _ _ _ z refl))),
            put.1.1 ∙ ap (λ y. told_out y out) says,
          ),
        )
