-- `merge_heads::put_label` meets its contract: the part with its bytes, put back.
use Prim.Native.Nat.{◌+◌, ◌-◌}
use native.Mathlib.Omega.{arith}
use mathlib.Core.Path.{ap, ◌∙◌}
use mathlib.Core.List.{◌++◌}
use lib.ListN.{take, drop}
use Rattle.byte_words.specs.Words.{lay}
use Rattle.byte_words.proofs.Parts.{lay_part}
use Rattle.norm_kinds.specs.Kinds.{normal_label_bytes}
use Rattle.norm_kinds.proofs.Records.{length_label, old_fielded}
use Rattle.merge_heads.proofs.put_label.Goals as goal

pub returns : goal.returns
returns c =
    let out = c.args.out.now in
    let n = c.args.at + 24 - c.args.at in
    ap (λ l. take c.args.at out ++ (l ++ drop n (drop c.args.at out))) (c.put_label.ensures ∙ ap (lay _ 0) (old_fielded c.args.l))
    ∙ lay_part out c.args.at n (normal_label_bytes c.args.l) (omega (arith, length_label c.args.l)) (omega (arith, length_label c.args.l, c.requires))
