-- Doubles to units and back, for every type: a law over k of the crate below, at the row of the type.
-- Assumes nothing.
use Prim.Native.Nat.{ℕ, ◌^◌, ◌<◌, ◌≤◌}
use native.Mathlib.Omega.{arith}
use mathlib.Core.Path.{◌≡◌, refl, sym, ap, ◌∙◌, subst}
use mathlib.Core.Bool.{true, cond}
use lib.Dec.{T}
use lib.IntN.{ℤ, pos, nat_abs}
use lib.Ieee.{Float, binary64, of_bits}
use lib.Ieee.Scale.{finite}
use lib.Ieee.Bits.{is_true}
use Rattle.num_whole.specs.Answer.{Answered, given, refused}
use Rattle.num_whole.specs.Tests.{pick, same}
use Rattle.num_whole.proofs.Cases.{refused_not, chosen, yes}
use Rattle.unit_nearest.specs.Doubles.{size, nearest_unit, fits_in, unit_within, quotient, times1074, whole_bits, Nearest, Exactly}
use Rattle.unit_nearest.proofs.Claims.{answered, answers, answered_bits, unit_bits, round_trip}
use Rattle.unit_nearest.proofs.Back.{quotient_exact}
use Rattle.unit_types.specs.declared.TypeRow.{TypeRow}
use Rattle.unit_types.specs.Types.{is_type, row_of_type}
use Rattle.unit_types.proofs.Rows.{by_rows, in_table}
use Rattle.unit_turn.specs.Turning.{is_turn, on_circle, top_of}
use Rattle.unit_turn.proofs.Limits.{within_limits, top_small}
use Rattle.unit_turn.proofs.Circle.{top_of_circle, below_top}
use Rattle.unit_convert.specs.Units.{turned, unit_of, double_of}

-- ---- what an answer was made of
-- a unit before T becomes 0
record Before (r : TypeRow) (a : Answered ℤ) (q : ℤ) : Type 0 where
  pub whole : ℤ
  pub answer : a ≡ given whole
  pub circle : q ≡ on_circle r whole

before : (r : TypeRow) (a : Answered ℤ) (q : ℤ) → turned r a ≡ given q → Before r a q
unfolding turned
before r (given n) q e = record { whole = n; answer = refl; circle = cc }
before r (refused n) q e = absurd (refused_not refl e)

answer : (t : ℕ) (x : Float) (q : ℤ) → unit_of t x ≡ given q → Before (row_of_type t) (unit_within (row_of_type t).k (row_of_type t).low (row_of_type t).high x) q
unfolding unit_of
answer t x q e = before (row_of_type t) _ q (chosen 11 (is_type t) _ e).1

-- ---- "A double x becomes q, the whole number nearest to x·2^k, ties to even, with at most half a unit between q and x·2^k."
-- "The limits and the half unit apply to q before T becomes 0." X is x * 2 ^ 1074.
pub record UnitOf (t : ℕ) (X q : ℤ) : Type 0 where
  pub whole : ℤ
  pub nearest : Nearest (row_of_type t).k X whole
  pub limits : fits_in (row_of_type t).low (row_of_type t).high whole ≡ true
  pub circle : q ≡ on_circle (row_of_type t) whole

pub unit_nearest : (t : ℕ) (x : Float) (q : ℤ) → unit_of t x ≡ given q → UnitOf t (times1074 x) q
unit_nearest t x q e =
    let b = answer t x q e in
    let h = answered (row_of_type t).k (row_of_type t).low (row_of_type t).high x b.whole b.answer in
    record { whole = b.whole; nearest = h.0; limits = is_true _ h.1; circle = b.circle }

-- the same by the bits of the double
pub unit_nearest_bits : (t p : ℕ) (q : ℤ) → unit_of t (of_bits binary64 p) ≡ given q → UnitOf t (whole_bits p) q
unit_nearest_bits t p q e =
    let r = row_of_type t in
    let b = answer t (of_bits binary64 p) q e in
    let h = answered_bits r.k r.low r.high p b.whole (sym (unit_bits r.k r.low r.high p) ∙ b.answer) in
    record { whole = b.whole; nearest = h.0; limits = is_true _ h.1; circle = b.circle }

-- and the other way: what is nearest and within the limits is the unit
pub nearest_is_unit : (t : ℕ) (x : Float) (q : ℤ) → is_type t ≡ true → T (finite x) → UnitOf t (times1074 x) q → unit_of t x ≡ given q
unfolding unit_of turned
nearest_is_unit t x q y f u =
    let r = row_of_type t in
    sym (yes (is_type t) _ _ y (ap given u.circle
    ∙ ap (λ a. turned r a) (sym (answers r.k r.low r.high x u.whole f u.nearest (subst T (sym u.limits) tt)))))

-- "Minus zero gives 0", for every type
pub minus_zero : (t : ℕ) → is_type t ≡ true → unit_of t (of_bits binary64 (2 ^ 63)) ≡ given (pos 0)
unfolding unit_of turned unit_within nearest_unit size of_bits on_circle is_turn same pick
minus_zero t y =
    rw y (by_rows (λ r. turned r (unit_within r.k r.low r.high (of_bits binary64 (2 ^ 63))) ≡ given (pos 0)) refl refl refl refl refl refl t)

-- ---- "All |q| stay below 2^53", and a unit of types 7 and 9 is below T
pub unit_limits : (t : ℕ) (x : Float) (q : ℤ) → unit_of t x ≡ given q → fits_in (row_of_type t).low (top_of (row_of_type t)) q ≡ true
unit_limits t x q e =
    let u = unit_nearest t x q e in
    ap (λ z. fits_in (row_of_type t).low (top_of (row_of_type t)) z) u.circle ∙ top_of_circle (row_of_type t) (in_table t) u.whole u.limits

-- a unit of a type's limits is small
pub small : (t : ℕ) (q : ℤ) → fits_in (row_of_type t).low (top_of (row_of_type t)) q ≡ true → nat_abs q ≤ 2 ^ 40
small t q f =
    let n = (in_table t).narrow in within_limits (row_of_type t).low (top_of (row_of_type t)) q f n.low (top_small (row_of_type t) n)

pub unit_small : (t : ℕ) (x : Float) (q : ℤ) → unit_of t x ≡ given q → nat_abs q < 2 ^ 53
unit_small t x q e = let h : nat_abs q ≤ 2 ^ 40 = small t q (unit_limits t x q e) in omega arith

-- ---- "so q becomes a double, and q/2^k is exact"
pub record Back (t : ℕ) (q : ℤ) (x : Float) : Type 0 where
  pub limits : fits_in (row_of_type t).low (top_of (row_of_type t)) q ≡ true
  pub exact : Exactly (row_of_type t).k q x
  -- rounding back gives the unit
  pub unit : unit_of t x ≡ given q

pub back : (t : ℕ) (q : ℤ) (x : Float) → double_of t q ≡ given x → Back t q x
unfolding double_of unit_of turned
back t q x e =
    let r = row_of_type t in
    let a = chosen 11 (is_type t) _ e in
    let b = chosen 16 (fits_in r.low (top_of r) q) _ a.1 in
    let h : nat_abs q ≤ 2 ^ 40 = small t q b.0 in
    let s = below_top r (in_table t) q b.0 in
    let v : quotient r.k q ≡ x = cc in
    let y : Exactly r.k q x = subst (λ z. Exactly r.k q z) v (quotient_exact r.k q (omega arith) (in_table t).narrow.scale) in
    record {
      limits = b.0;
      exact = y;
      unit =
          sym (yes (is_type t) _ _ a.0 (ap given (sym s.stays)
          ∙ ap (λ z. turned r z) (sym (round_trip r.k r.low r.high q x y ∙ ap (λ b. cond b (given q) (refused 16)) s.limits))));
    }

-- every unit within its type's limits becomes a double, and so does every unit of a double
pub there : (t : ℕ) (q : ℤ) → is_type t ≡ true → fits_in (row_of_type t).low (top_of (row_of_type t)) q ≡ true → double_of t q ≡ given (quotient (row_of_type t).k q)
unfolding double_of
there t q y f = sym (yes (is_type t) _ _ y (yes (fits_in (row_of_type t).low (top_of (row_of_type t)) q) _ _ f refl))

pub unit_there : (t : ℕ) (x : Float) (q : ℤ) → unit_of t x ≡ given q → double_of t q ≡ given (quotient (row_of_type t).k q)
unfolding unit_of
unit_there t x q e = there t q (chosen 11 (is_type t) _ e).0 (unit_limits t x q e)
