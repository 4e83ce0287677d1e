-- `merge_read::alike_at` meets its contract, one step for its test.
use borrow.Author.Tests.{ne_eqb}
use mathlib.Core.Path.{sym, ◌∙◌}
use Rattle.merge_read.proofs.Compared.{weights_differ, estimates_tell}
use Rattle.merge_read.proofs.alike_at.Goals as goal

pub returns-then-read_u32 : goal.returns-then-read_u32
returns-then-read_u32 c =
    let s = c.args in
    let x = c.read_i64 in
    let y = c.read_i64-then-read_u32 in
    estimates_tell s.a.now s.p s.b.now s.q x.result y.result (sym c.read_u32.ensures ∙ c.if-read_u32.true ∙ c.read_u32-2.ensures) x.ensures y.ensures
    (record { sfits = x.type_inv }) (record { sfits = y.type_inv })

pub returns-else-read_u32 : goal.returns-else-read_u32
returns-else-read_u32 c = ne_eqb _ _ c.if-read_u32.false ∙ weights_differ _ _ _ _ (λ e. c.if-read_u32.false (c.read_u32.ensures ∙ e ∙ sym c.read_u32-2.ensures))
