-- `take_add::scale` meets its contract: the product is within 2 ^ 16 * 2 ^ 15.
use mathlib.Core.Path.{◌≡◌, refl}
use native.Mathlib.Omega.{arith}
use Prim.Native.Nat.{◌^◌, ◌*◌, ◌≤◌}
use lib.IntN.{pos, ◌*ℤ◌, nat_abs}
use mir.Syntax.{w16, w64}
use mir.Val.{SFits, to_z}
use mir.ValLaws.{to_z-of_z, to_z_pos}
use mir.Facts.{sfits_widen}
use Rattle.num_whole.proofs.Ints.{*-within, within_fits, fits_within}
use Rattle.take_add.proofs.scale.Goals as goal

module _ (c : goal.Start) where
  wide : SFits w64 c.args.x
  wide = sfits_widen {w = w16} tt c.ranges.x

  weight : to_z w64 c.args.w ≡ pos c.args.w
  weight = to_z_pos w64 c.args.w (omega arith)

  small : nat_abs (pos c.args.w *ℤ c.args.x) ≤ 65536 * 2 ^ 15
  small = *-within (pos c.args.w) c.args.x c.requires (fits_within w16 c.args.x c.ranges.x)

  prod : SFits w64 (pos c.args.w *ℤ c.args.x)
  prod = within_fits w64 (pos c.args.w *ℤ c.args.x) small tt

pub overflow_cast-result-2 : goal.overflow_cast-result-2
overflow_cast-result-2 c = rw (to_z-of_z w16 c.args.x c.ranges.x) (wide c)

pub overflow_mul-result : goal.overflow_mul-result
overflow_mul-result c = simp (to_z-of_z w16 _ c.ranges.x, to_z-of_z w64 _ (wide c), weight c) (prod c)

pub returns : goal.returns
returns c = simp (to_z-of_z w16 _ c.ranges.x, to_z-of_z w64 _ (wide c), weight c, to_z-of_z w64 _ (prod c)) (refl, small c)
