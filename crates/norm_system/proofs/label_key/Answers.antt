-- `norm_system::label_key` meets its contract: no label overflows, and its kind bounds it.
use native.Mathlib.Omega.{arith}
use Rattle.norm_system.specs.System.{key_of}
use Rattle.norm_system.proofs.label_key.Goals as goal

pub returns : goal.returns
unfolding key_of
returns c = (omega arith, omega arith)
