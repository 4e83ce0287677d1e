-- `norm_put::put_name` meets its contract: the five fields are laid one after the other.
use Rattle.norm_put.proofs.Laid.{name_laid}
use Rattle.norm_put.proofs.put_name.Goals as goal

-- Each `let` of a place leads from a later one to an earlier one; they stand here since `rw` takes no view.
pub returns : goal.returns
returns c =
    rw (
      c.write_u32-3.ensures,
      c.write_u32-2.ensures,
      c.low32-2.ensures,
      c.write_u32.ensures,
      c.low32.ensures,
      c.write_u16-2.ensures,
      c.low16-2.ensures,
      c.write_u16.ensures,
      c.low16.ensures,
    )
    (name_laid _ _ _ _ _ _)
