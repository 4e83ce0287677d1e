-- The position that a call leaves in its room is read by the next one as the one that the entry led to.
-- Assumes nothing.
use Prim.Native.Nat.{ℕ, ◌≤◌, zero-le}
use mathlib.Core.Path.{◌≡◌, refl, sym, ap, ◌∙◌, subst}
use mathlib.Core.List.{List}
use mathlib.Core.Bool.{true, false}
use native.Mathlib.Omega.{arith}
use lib.ListN.{length}
use Rattle.num_whole.specs.Tests.{same}
use Rattle.num_whole.proofs.Cases.{apart, yes, no, is_same, by_cases, both_first, both_second, same_true, up_to_true}
use Rattle.num_whole.proofs.Padded.{length_padded}
use Rattle.refusal.proofs.Firsts.{first_none, when_none, unless_none}
use Rattle.byte_section.proofs.Walk.{by_judged}
use Rattle.take_state.specs.State.{State}
use Rattle.part_laws.specs.Beginning.{opened}
use Rattle.part_laws.specs.Feeding.{Position, begun, feed, finish, closing}
use Rattle.part_laws.specs.Entries.{stopped, position_of, held_of, placed, ends, ends_by, led, fair, part_number, part_told, part_position, finish_number, finish_told, finish_position}
use Rattle.part_laws.specs.declared.Position as ByValue
use Rattle.part_laws.proofs.Front.{opened_start}
use Rattle.part_laws.proofs.Six.{placed_before, placed_amid, part_placed}
use Rattle.part_laws.proofs.Over.{placed_short, count_most_lem, part_ends, finish_ends}
use Rattle.part.proofs.Stops.{fine}
use Rattle.call_position.specs.Position.{position_in}
use Rattle.call_position.proofs.Bytes.{PositionFits, position_stays}
use Rattle.call_told.specs.Told.{changes, with_all}
use Rattle.call_part.specs.Calls.{Rooms, place_in, rooms_state, begin_call, begin_left, part_lent, part_call, part_left, place_lent, finish_call, finish_left}
use Rattle.call_part.proofs.Calls.{position_long_lem, place_long, state_long}

-- ---- a position that the entries give has numbers of their widths
abbrev Small : Position → Type 0
Small p = (length p.kept ≤ 1088) × (p.taken ≤ 65535)

ends_small : (p : Position) → ends p ≡ true → Small p
unfolding ends
ends_small p e =
    by_judged (opened p.kept)
    (λ a o. let v = sym (ap (ends_by (length p.kept) p.taken) o) ∙ e in
    (omega (arith, same_true _ _ (both_first _ _ v), opened_start p.kept a o), omega (arith, same_true _ _ (both_second _ _ v), count_most_lem p.kept a o)))
    (λ number place o. let v = sym (ap (ends_by (length p.kept) p.taken) o) ∙ e in
    (omega (arith, same_true _ _ (both_first _ _ v)), up_to_true _ _ (both_second _ _ v)))

placed_small : (p : Position) → placed p ≡ true → Small p
placed_small p e =
    by_judged (opened p.kept)
    (λ a o. (omega (arith, placed_short p e), omega (arith, (placed_amid p a e o).few, count_most_lem p.kept a o)))
    (λ number place o. (omega (arith, placed_short p e), omega (arith, (placed_before p number place e o).none)))

held_fits : (p : Position) → Small p → PositionFits (held_of p)
held_fits p h = record { long = length_padded 1088 0 p.kept h.0; length = omega (arith, h.0); taken = omega (arith, h.1) }

-- ---- what a part and a finish lead to
placed_there : (p : ByValue.Position) → p.over ≡ false → fair p ≡ true → placed (position_of p) ≡ true
unfolding fair led
placed_there p f e = no _ _ _ f refl ∙ both_second _ _ e

part_small : (p : Position) (s : State) (l : List ℕ) → p.over ≡ false → placed p ≡ true → Small (feed p s l).position
part_small p s l f ok =
    by_judged (feed p s l).verdict
    (λ u v. placed_small (feed p s l).position (part_placed p ok l s f v))
    (λ number place v. ends_small (feed p s l).position (part_ends p ok f s l number place v))

part_fits : (p : ByValue.Position) (s : State) (l answers : List ℕ) → part_number p s l (length answers) ≡ 0 → PositionFits (part_position p s l (length answers))
unfolding part_position
part_fits p s l answers none =
    let v = fine p s l answers none in
    let next = (feed (position_of p) s l).position in
    subst PositionFits (yes _ (held_of next) p (is_same _ _ none) refl)
    (held_fits next (part_small (position_of p) s l v.going (placed_there p v.going v.place)))

finish_fits : (p : ByValue.Position) → finish_number p ≡ 0 → PositionFits (finish_position p)
unfolding finish_number finish_position
finish_fits p none =
    let a = first_none _ _ none in
    let b = first_none _ _ a.1 in
    let going = when_none 28 _ (λ z. omega arith) a.0 in
    let place = unless_none 6 _ (λ z. omega arith) b.0 in
    let next = closing (finish (position_of p)) (position_of p) in
    subst PositionFits (yes _ (held_of next) p (is_same _ _ none) refl)
    (held_fits next (ends_small next (finish_ends (position_of p) (placed_there p going place) going)))

-- ---- an answer that changes the rooms was not stopped
stopped_not : (k : ℕ) → changes (stopped k) ≡ true → ⊥
unfolding changes
stopped_not k e = apart (sym e)

part_none : (p : ByValue.Position) (s : State) (l : List ℕ) (room : ℕ) → changes (part_told p s l room) ≡ true → part_number p s l room ≡ 0
unfolding part_told
part_none p s l room e =
    by_cases (same (part_number p s l room) 0) (λ z. same_true _ _ z)
    (λ z. absurd (stopped_not _ (ap changes (no _ _ _ z refl) ∙ e)))

finish_none : (p : ByValue.Position) (n : ℕ) → changes (with_all n (finish_told p)) ≡ true → finish_number p ≡ 0
unfolding finish_told
finish_none p n e =
    by_cases (same (finish_number p) 0) (λ z. same_true _ _ z)
    (λ z. absurd (stopped_not _ (ap (λ t. changes (with_all n t)) (no _ _ _ z refl) ∙ e)))

-- ---- the laws
pub begin_leads : (x : Rooms) → begin_call x ≡ 0 → place_in (begin_left x) ≡ held_of begun
unfolding begin_call begin_left
begin_leads x none =
    let whole = unless_none 20 _ (λ z. omega arith) (first_none _ _ none).0 in
    ap place_in (sym (yes _ _ _ (is_same _ _ none) refl))
    ∙ position_stays (held_of begun) x.position (held_fits begun (zero-le, zero-le)) (position_long_lem _ (both_first _ _ whole))

pub part_leads : (x : Rooms) (l answers : List ℕ) (out : ℕ) → changes (part_call x l (length answers) out) ≡ true
    → place_in (part_left x l (length answers) out) ≡ part_position (place_in x) (rooms_state x) l (length answers)
unfolding part_call part_left
part_leads x l answers out e =
    by_cases (part_lent x out)
    (λ z. let none = part_none (place_in x) (rooms_state x) l (length answers) (ap changes (yes _ _ _ z refl) ∙ e) in
    ap place_in (sym (yes _ _ _ e refl))
    ∙ position_stays _ x.position (part_fits (place_in x) (rooms_state x) l answers none) (state_long x.position x.tally out z).0)
    (λ z. absurd (stopped_not 20 (ap changes (no _ _ _ z refl) ∙ e)))

pub finish_leads : (b : List ℕ) (out : ℕ) → changes (finish_call b out) ≡ true → position_in (finish_left b out) ≡ finish_position (position_in b)
unfolding finish_call finish_left
finish_leads b out e =
    by_cases (place_lent b out)
    (λ z. let none = finish_none (position_in b) (position_in b).taken (ap changes (yes _ _ _ z refl) ∙ e) in
    ap position_in (sym (yes _ _ _ e refl)) ∙ position_stays _ b (finish_fits (position_in b) none) (place_long b out z).0)
    (λ z. absurd (stopped_not 20 (ap changes (no _ _ _ z refl) ∙ e)))
