-- `norm_sum::put_sum` meets its contract: the part with its bytes, put back.
use Prim.Native.Nat.{◌+◌, ◌-◌}
use native.Mathlib.Omega.{arith}
use mathlib.Core.Path.{ap, ◌∙◌}
use mathlib.Core.List.{◌++◌}
use lib.ListN.{take, drop}
use mir.Syntax.{w64}
use mir.ValLaws.{to_z-of_z}
use Rattle.byte_words.specs.Words.{lay, signed_bytes}
use Rattle.byte_words.proofs.Parts.{lay_part}
use Rattle.byte_words.proofs.Written.{length_signed}
use Rattle.norm_sum.proofs.put_sum.Goals as goal

pub returns : goal.returns
returns c =
    let out = c.args.out.now in
    let n = c.args.at + 8 - c.args.at in
    ap (λ l. take c.args.at out ++ (l ++ drop n (drop c.args.at out))) c.write_i64.ensures
    ∙ ap (λ z. take c.args.at out ++ (lay (take n (drop c.args.at out)) 0 (signed_bytes w64 z) ++ drop n (drop c.args.at out))) (to_z-of_z w64 c.args.x c.ranges.x)
    ∙ lay_part out c.args.at n (signed_bytes w64 c.args.x) (omega (arith, length_signed w64 c.args.x)) (omega (arith, length_signed w64 c.args.x, c.requires))
