-- `take_add::mac` meets its contract: the product is within 2 ^ 46 and the sum within 2 ^ 62 + 2 ^ 46.
use lib.IntN.{◌+ℤ◌, ◌*ℤ◌}
use mir.Syntax.{w16, w64}
use mir.Val.{SFits}
use mir.ValLaws.{to_z-of_z}
use mir.Facts.{sfits_widen}
use Rattle.num_whole.proofs.Ints.{*-within, +-within, within_fits, fits_within}
use Rattle.take_add.proofs.mac.Goals as goal

module _ (c : goal.Start) where
  wide : SFits w64 c.args.x
  wide = sfits_widen {w = w16} tt c.ranges.x

  prod : SFits w64 (c.args.f *ℤ c.args.x)
  prod = within_fits w64 (c.args.f *ℤ c.args.x) (*-within c.args.f c.args.x c.requires.1 (fits_within w16 c.args.x c.ranges.x)) tt

  sum : SFits w64 (c.args.s +ℤ c.args.f *ℤ c.args.x)
  sum = within_fits w64 (c.args.s +ℤ c.args.f *ℤ c.args.x)
      (+-within c.args.s (c.args.f *ℤ c.args.x) c.requires.0 (*-within c.args.f c.args.x c.requires.1 (fits_within w16 c.args.x c.ranges.x))) tt

pub overflow_cast-result : goal.overflow_cast-result
overflow_cast-result c = rw (to_z-of_z w16 c.args.x c.ranges.x) (wide c)

pub overflow_mul-result : goal.overflow_mul-result
overflow_mul-result c = simp (to_z-of_z w16 _ c.ranges.x, to_z-of_z w64 _ (wide c), to_z-of_z w64 _ c.ranges.f) (prod c)

pub overflow_add-result : goal.overflow_add-result
overflow_add-result c =
    simp (to_z-of_z w16 _ c.ranges.x, to_z-of_z w64 _ (wide c), to_z-of_z w64 _ c.ranges.f, to_z-of_z w64 _ (prod c), to_z-of_z w64 _ c.ranges.s) (sum c)

pub returns : goal.returns
returns c =
    simp (to_z-of_z w16 _ c.ranges.x, to_z-of_z w64 _ (wide c), to_z-of_z w64 _ c.ranges.f, to_z-of_z w64 _ (prod c), to_z-of_z w64 _ c.ranges.s, to_z-of_z w64 _ (sum c))
