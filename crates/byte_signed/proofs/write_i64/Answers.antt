-- `byte_signed::write_i64` meets its contract.
use native.Mathlib.Omega.{arith}
use mathlib.Core.Path.{ap, ◌∙◌}
use mir.Syntax.{w64}
use mir.Val.{of_z}
use mir.ValLaws.{to_z-of_z}
use Rattle.byte_words.specs.Words.{lay, bytes_of, signed_bytes}
use Rattle.byte_signed.proofs.write_i64.Goals as goal

pub returns : goal.returns
unfolding signed_bytes
returns c =
    let cast = c.cast_unsigned.ensures ∙ ap (of_z w64) (to_z-of_z w64 c.args.z c.ranges.z) in
    c.write_u64.ensures ∙ ap (λ v. lay c.args.s.now c.args.at (bytes_of 8 v)) (omega (arith, cast))
