-- `unit_nearest::shifted` meets its contract: past 63 less than a half is left, else `rounds`. Assumes nothing.
use mathlib.Core.Path.{◌≡◌, sym, ap, ◌∙◌, subst}
use Prim.Native.Nat.{ℕ, ◌+◌, ◌-◌, ◌*◌, ◌/◌, ◌%◌, ◌^◌, ◌≤◌, ◌<◌}
use native.Mathlib.Omega.{arith}
use lib.Dec.{lit≤}
use lib.Pow.{pow_pos, pow_mono}
use lib.Ieee.Nearest.{closest}
use Rattle.unit_nearest.proofs.Steps.{rounds, shifted_out, closest_small}
use Rattle.unit_nearest.proofs.shifted.Goals as goal

-- the unit is from 1 to 2 ^ 63
module _ (s u : ℕ) (e : u ≡ 2 ^ s) where
  least : 0 < u
  least = subst (λ (x : ℕ). 0 < x) (sym e) (pow_pos s)

  most : s ≤ 63 → u ≤ 2 ^ 63
  most h = subst (λ (x : ℕ). x ≤ 2 ^ 63) (sym e) (pow_mono {i = s} {j = 63} h)

-- with the unit under both its names
is_closest : (d s u : ℕ) → u ≡ 2 ^ s → (2 * d + u - 1 + d / 2 ^ s % 2) / u / 2 ≡ closest d (2 ^ s)
is_closest d s u e = ap (λ (x : ℕ). (2 * d + x - 1 + d / 2 ^ s % 2) / x / 2) e ∙ rounds d (2 ^ s) (pow_pos s)

pub returns-then-shift-gt63 : goal.returns-then-shift-gt63
returns-then-shift-gt63 c =
    record {
      is = shifted_out c.args.digits c.args.shift c.requires c.if-shift-gt63.true;
      small = lit≤ tt;
    }

pub overflow_add-result : goal.overflow_add-result
overflow_add-result c =
    record { fits = omega (arith, most c.args.shift c.power-unit.result c.power-unit.ensures c.if-shift-gt63.false, c.requires) }

pub overflow_sub-result : goal.overflow_sub-result
overflow_sub-result c = omega (arith, least c.args.shift c.power-unit.result c.power-unit.ensures)

pub overflow_add-result-2 : goal.overflow_add-result-2
overflow_add-result-2 c =
    record { fits = omega (arith, most c.args.shift c.power-unit.result c.power-unit.ensures c.if-shift-gt63.false, c.requires) }

pub nonzero_div-result : goal.nonzero_div-result
nonzero_div-result c = least c.args.shift c.power-unit.result c.power-unit.ensures

pub returns : goal.returns
returns c =
    let e = is_closest c.args.digits c.args.shift c.power-unit.result c.power-unit.ensures in record {
      is = e;
      small = subst (λ (x : ℕ). x ≤ 2 ^ 53) (sym e) (closest_small c.args.digits (2 ^ c.args.shift) c.requires);
    }
