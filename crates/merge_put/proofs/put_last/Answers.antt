-- `merge_put::put_last` meets its contract: a count and two words.
use mathlib.Core.Path.{ap₂, ◌∙◌}
use Prim.Native.Nat.{◌+◌}
use native.Mathlib.Omega.{arith}
use Rattle.merge_put.proofs.Known.{Known, known}
use Rattle.merge_put.proofs.Steps.{totals_fit, last_put}
use Rattle.merge_put.proofs.put_last.Lts
use Rattle.merge_put.proofs.put_last.Reads
use Rattle.merge_put.proofs.put_last.Tie
use Rattle.merge_put.proofs.put_last.Goals as goal

-- the facts known at one place of the code
abbrev At-Start : Type 0
At-Start = Lts.Start Tie.the-claims Reads.Pre Reads.Post Tie.handed_clauses

kx : (c : At-Start) → Known c.args.a.now c.args.x
kx c = known _ _ c.requires.as_read.0

ky : (c : At-Start) → Known c.args.b.now c.args.y
ky c = known _ _ c.requires.as_read.1

pub overflow_add-accepted : goal.overflow_add-accepted
overflow_add-accepted c =
    let k = kx c.before.before.before.before.before.before in
    let l = ky c.before.before.before.before.before.before in
    omega (arith, c.read_u64.ensures ∙ k.accepted_is, c.read_u64-2.ensures ∙ l.accepted_is, (totals_fit _ _ k _ _ l).0)

pub overflow_add-x : goal.overflow_add-x
overflow_add-x c = omega (arith, (kx c.before.before.before.before.before.before.before).totals_end)

pub overflow_add-y : goal.overflow_add-y
overflow_add-y c = omega (arith, (ky c.before.before.before.before.before.before.before.before.before).totals_end)

pub overflow_add-square : goal.overflow_add-square
overflow_add-square c =
    let k = kx c.before.before.before.before.before.before.before.before.before.before in
    let l = ky c.before.before.before.before.before.before.before.before.before.before in
    omega (arith, c.read_u64-3.ensures ∙ k.square_is, c.read_u64-4.ensures ∙ l.square_is, (totals_fit _ _ k _ _ l).1)

pub returns : goal.returns
returns c =
    let k = kx c.before.before.before.before.before.before.before.before.before.before.before.before.before.before.before.before.before.before.before.before.before.before in
    let l = ky c.before.before.before.before.before.before.before.before.before.before.before.before.before.before.before.before.before.before.before.before.before.before in
    last_put _ _ k _ _ l _ _ _ _ _ _ _
    (ap₂ (λ u v. u + v) (c.read_u64.ensures ∙ k.accepted_is) (c.read_u64-2.ensures ∙ l.accepted_is))
    (ap₂ (λ u v. u + v) (c.read_u64-3.ensures ∙ k.square_is) (c.read_u64-4.ensures ∙ l.square_is))
    c.write_u32.ensures c.write_u64.ensures c.write_u64-2.ensures
