-- Whole files through the entries: begin, parts with room enough, finish. One part of all the bytes does the same; good form and bad form.
-- Assumes nothing.
use Prim.Native.Nat.{ℕ, ◌≤◌}
use mathlib.Core.Path.{◌≡◌, refl, sym, ap, ◌∙◌, subst, subst₂}
use mathlib.Core.List.{List, [], ◌∷◌, append-nil}
use mathlib.Core.Bool.{true, false}
use native.Mathlib.Omega.{arith}
use native.Mathlib.Nat.{zero-add}
use lib.IntN.{ℤ}
use lib.ListN.{length}
use Rattle.num_whole.specs.Answer.{Judged, good, bad}
use Rattle.num_whole.proofs.Cases.{yes, holds, is_same, is_up_to}
use Rattle.num_limits.specs.Capacities.{parameters_most}
use Rattle.refusal.proofs.Firsts.{first_pass, first_one, when_false, unless_true}
use Rattle.byte_words.specs.Words.{lay}
use Rattle.byte_section.specs.Section.{and_then}
use Rattle.byte_section.proofs.Walk.{by_judged, then_good, then_bad, then_read}
use Rattle.arc_read.specs.Arc.{Arc, read_arc}
use Rattle.num_packed.specs.Triangle.{tri}
use Rattle.take_state.specs.State.{State}
use Rattle.take_laws.specs.Taking.{frame_of}
use Rattle.take_laws.specs.Order.{Mixes}
use Rattle.part_laws.specs.Beginning.{opened, done, opened_heading}
use Rattle.part_laws.specs.Feeding.{Position, begun, Fed, finish, closing, concat}
use Rattle.part_laws.specs.OneGo.{emptied, fed, said, TakenOneByOne, MixedAlike}
use Rattle.num_packed.specs.Room.{sums_roomy}
use Rattle.part_laws.specs.Entries.{position_most, held_of, ends, led, fair, took, begin_number, begin_state, told_end, finish_number, finish_told, finish_position, heading_told, heading_given}
use Rattle.part_laws.specs.Sequence.{Piece, bytes_in, form_of, gone, Enough, gone_of, form_only, gone_all, GoodForm, BadForm, TakenParts, MixedParts}
use Rattle.part_laws.proofs.ByValue.{position_back, held_tidy}
use Rattle.part_laws.proofs.Cuts.{heading_good}
use Rattle.part_laws.proofs.OneGo.{form, one_go, taken_so, mixed}
use Rattle.part_laws.proofs.States.{Fit, part_fit, begun_fit}
use Rattle.part_laws.proofs.Over.{placed_short, feed_moved, finish_ends, finish_all}
use Rattle.part_laws.proofs.Sequence.{gone_feed, fair_going}

-- ---- finish at a position that the entries give
module _ (q : Position) (s : State) (fit : Fit q s) (going : q.over ≡ false) where
  small : length q.kept ≤ position_most
  small = omega (arith, placed_short q fit.place)

  number_none : finish_number (held_of q) ≡ 0
  unfolding finish_number
  number_none =
      first_pass _ _ (when_false 28 _ going)
      ∙ first_one _ ∙ unless_true 6 _ (fair_going (held_of q) s (subst (λ z. Fit z s) (sym (position_back q)) fit) (held_tidy q small) going [])

  pub finish_told_lem : finish_told (held_of q) ≡ told_end (finish q) q.taken
  unfolding finish_told
  finish_told_lem = sym (yes _ _ _ (is_same _ _ number_none) refl) ∙ ap (λ z. told_end (finish z) q.taken) (position_back q)

  pub finish_leads : finish_position (held_of q) ≡ held_of (closing (finish q) q)
  unfolding finish_position
  finish_leads = sym (yes _ _ _ (is_same _ _ number_none) refl) ∙ ap (λ z. held_of (closing (finish z) z)) (position_back q)

  -- where nothing is missing its heading is kept
  module _ (a : Arc) (e : finish q ≡ good a) where
    abbrev last : Position
    last = record { kept = q.kept; taken = q.taken; over = true }

    leads_last : finish_position (held_of q) ≡ held_of last
    leads_last = finish_leads ∙ ap (λ j. held_of (closing j q)) e

    fair_last : fair (held_of last) ≡ true
    unfolding fair led
    fair_last =
        sym (holds _ _ (held_tidy last small)
        (yes _ _ _ refl (sym (ap ends (position_back last) ∙ ap (λ j. ends (closing j q)) (sym e) ∙ finish_ends q fit.place going))))

    pub asks_told : heading_told (finish_position (held_of q)) ≡ took 0
    unfolding heading_told
    asks_told =
        ap heading_told leads_last
        ∙ sym (yes _ _ _ fair_last refl)
        ∙ ap (λ x. told_end (opened x.kept) q.taken) (position_back last)
        ∙ ap (λ j. told_end j q.taken) (finish_all q fit.place going a e).opens

    pub asks_heading : heading_given (finish_position (held_of q)) ≡ a.heading
    unfolding heading_given
    asks_heading =
        ap heading_given leads_last
        ∙ sym (yes _ _ _ fair_last refl)
        ∙ ap (λ x. opened_heading x.kept) (position_back last)
        ∙ heading_good 0 q.kept a (finish_all q fit.place going a e).opens

-- ---- from begin on
form_end : (j : Judged Arc) (n : ℕ) → form_of (told_end j n) ≡ form_only j
form_end (good a) n = refl
form_end (bad number place) n = refl

module _ (m r : List ℤ) (wide : tri parameters_most ≤ length m) (high : parameters_most ≤ length r) where
  pub begin_none : begin_number m r ≡ 0
  unfolding begin_number sums_roomy
  begin_none = first_one _ ∙ unless_true 20 _ (sym (holds _ _ (is_up_to _ _ wide) (sym (is_up_to _ _ high))))

  pub begin_empty : begin_state m r ≡ emptied m r
  unfolding begin_state
  begin_empty = sym (yes _ _ _ (is_same _ _ begin_none) refl)

  module _ (xs : List Piece) (enough : Enough (held_of begun) (begin_state m r) xs) where
    abbrev l : List ℕ
    l = bytes_in xs

    abbrev f : Fed
    f = fed m r l

    -- parts with room enough are what their bytes are as one
    pub gone_parts : gone_all m r xs ≡ gone_of f
    gone_parts =
        ap (λ s. gone (held_of begun) s xs) begin_empty
        ∙ gone_feed begun (emptied m r) (begun_fit m r wide high) refl xs (subst (λ s. Enough (held_of begun) s xs) begin_empty enough)

    -- what the parts and finish say of the form is what reading the whole says
    pub said_form : and_then (gone_all m r xs).form (λ u. form_of (finish_told (gone_all m r xs).position)) ≡ form_only (read_arc l)
    said_form =
        ap (λ g. and_then g.form (λ u. form_of (finish_told g.position))) gone_parts
        ∙ by_judged f.verdict
        (λ u v. let going = (feed_moved begun (emptied m r) refl l).goes u v in
        let fit = part_fit begun (emptied m r) (begun_fit m r wide high) l refl v in
        then_good _ _ v
        ∙ ap form_of (finish_told_lem f.position f.state fit going)
        ∙ form_end (finish f.position) f.position.taken
        ∙ ap form_only (sym (then_good _ _ v) ∙ form m r l))
        (λ number place v. then_bad _ _ v ∙ ap form_only (sym (then_bad {B = Arc} _ _ v) ∙ form m r l))

    -- ---- good form
    pub good_form : (a : Arc) → read_arc l ≡ good a → GoodForm m r xs a
    good_form a e =
        let x = then_read _ _ _ (form m r l ∙ e) in
        let v : f.verdict ≡ good tt = x.1 in
        let going = (feed_moved begun (emptied m r) refl l).goes tt v in
        let fit = part_fit begun (emptied m r) (begun_fit m r wide high) l refl v in
        let q = f.position in
        let whole = one_go m r wide high l a e in
        let place : (gone_all m r xs).position ≡ held_of q = ap (λ g. g.position) gone_parts in
        record {
          form = ap (λ g. g.form) gone_parts ∙ v;
          finished = ap finish_told place ∙ finish_told_lem q f.state fit going ∙ ap (λ j. told_end j q.taken) x.2;
          told_heading_lem = ap (λ p. heading_told (finish_position p)) place ∙ asks_told q f.state fit going a x.2;
          heading = ap (λ p. heading_given (finish_position p)) place ∙ asks_heading q f.state fit going a x.2;
          taken = ap (λ p. p.taken) place ∙ (finish_all q fit.place going a x.2).all;
          state = λ room n. ap (λ g. g.state) gone_parts ∙ whole.state room n;
          answers = λ out n. ap (λ g. lay out 0 g.answers) gone_parts ∙ whole.answers out n;
        }

    -- ---- every file that is opened
    pub parts_taken : (a : Arc) → opened l ≡ good a → TakenParts m r xs a
    parts_taken a o = subst (λ g. TakenOneByOne m r a.heading (done 0 l) g.answers g.state) (sym gone_parts) (taken_so m r wide high l a o)

    -- ---- bad form
    pub bad_form : (number place : ℕ) → read_arc l ≡ bad number place → BadForm m r xs number place
    bad_form number place e =
        let n = feed_moved begun (emptied m r) refl l in
        record {
          said = said_form ∙ ap form_only e;
          taken = ap (λ g. g.position.taken) gone_parts ∙ n.taken ∙ zero-add _;
          answers = ap (λ g. length g.answers) gone_parts ∙ n.number;
        }

  -- ---- so one part of all the bytes does the same, and finish after it
  pub one_part : (xs : List Piece) → Enough (held_of begun) (begin_state m r) xs
      → (y : Piece) → y.bytes ≡ bytes_in xs → Enough (held_of begun) (begin_state m r) (y ∷ []) → gone_all m r xs ≡ gone_all m r (y ∷ [])
  unfolding concat
  one_part xs enough y e room =
      gone_parts xs enough
      ∙ ap (λ l. gone_of (fed m r l)) (sym (append-nil y.bytes ∙ e))
      ∙ sym (gone_parts (y ∷ []) room)

  -- ---- and two files mix as their records do
  pub parts_mixed : (xs ys : List Piece) → Enough (held_of begun) (begin_state m r) xs → Enough (held_of begun) (begin_state m r) ys
      → (a b : Arc) → opened (bytes_in xs) ≡ good a → opened (bytes_in ys) ≡ good b → b.heading ≡ a.heading
      → Mixes (frame_of a.heading) (done 0 (bytes_in xs)) (done 0 (bytes_in ys)) → MixedParts m r xs ys a.heading
  parts_mixed xs ys e f a b o o₁ alike x =
      subst₂ (λ g h. MixedAlike a.heading (done 0 (bytes_in xs)) (done 0 (bytes_in ys)) g.answers h.answers g.state h.state)
      (sym (gone_parts xs e)) (sym (gone_parts ys f))
      (mixed m r wide high (bytes_in xs) (bytes_in ys) a b o o₁ alike x)
