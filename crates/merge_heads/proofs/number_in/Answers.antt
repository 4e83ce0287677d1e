-- `merge_heads::number_in` meets its contract, one step for its test.
use native.Mathlib.Omega.{arith}
use Rattle.merge_heads.proofs.Chosen.{number_first, number_second}
use Rattle.merge_heads.proofs.number_in.Goals as goal

pub returns-then-p-xs : goal.returns-then-p-xs
returns-then-p-xs c = number_first _ _ _ _ (omega arith)

pub offset_bounds-ys-q : goal.offset_bounds-ys-q
offset_bounds-ys-q c = omega (arith, c.requires (omega arith))

pub bounds-ys-q : goal.bounds-ys-q
bounds-ys-q c = c.requires (omega arith)

pub returns-else-p-xs : goal.returns-else-p-xs
returns-else-p-xs c = number_second _ _ _ _ (omega arith)
