-- `norm_sum::is_broken_side` meets its contract: its tests are the definition's, in its order.
use native.Mathlib.Omega.{arith}
use mathlib.Core.Path.{◌≡◌, ap, sym, ◌∙◌}
use mathlib.Core.Bool.{false}
use Prim.Native.Nat.{ℕ, ◌<◌}
use lib.IntN.{pos}
use lib.ListN.{get_or}
use mir.Syntax.{w64}
use mir.Val.{to_z, of_z}
use Rattle.num_packed.specs.Sound.{is_zero}
use Rattle.num_packed.proofs.Places.{tri_next}
use Rattle.norm_sum.specs.Sums.{sums_at, past}
use Rattle.norm_sum.proofs.Entries.{sum_read, entry_read, side_past, side_zero, side_diagonal}
use Rattle.norm_sum.proofs.is_broken_side.Lts
use Rattle.norm_sum.proofs.is_broken_side.Reads
use Rattle.norm_sum.proofs.is_broken_side.Tie
use Rattle.norm_sum.proofs.is_broken_side.Goals as goal

-- the facts known at one place of the code
abbrev At-After-sum_at-y : Type 0
At-After-sum_at-y = Lts.After-sum_at Tie.the-claims Reads.Pre Reads.Post Tie.handed_clauses

-- the facts known at one place of the code
abbrev At-Else-is_past : Type 0
At-Else-is_past = Lts.Else1 Tie.the-claims Reads.Pre Reads.Post Tie.handed_clauses

-- the right side that is tested, where it stands among k of them
here : (c : At-After-sum_at-y) → let a = c.args in (k : ℕ) → a.i < k
    → to_z w64 (of_z w64 c.sum_at-y.result) ≡ get_or (sums_at a.s.now a.rights k) a.i (pos 0)
here c k g =
    let a = c.args in
    sum_read a.s.now a.rights k a.i _ (record { sfits = c.sum_at-y.type_inv }) c.sum_at-y.ensures g

within : (c : At-Else-is_past) → past c.args.bound (to_z w64 (of_z w64 c.sum_at-y.result)) ≡ false
within c = sym c.is_past.ensures ∙ c.if-is_past.false

pub returns-then-is_past : goal.returns-then-is_past
returns-then-is_past c = λ n k h g. side_past _ _ _ _ _ (here c.before.before.before k g) (sym c.is_past.ensures ∙ c.if-is_past.true)

pub returns-then-is_zero : goal.returns-then-is_zero
returns-then-is_zero c =
    λ n k h g. side_zero _ _ _ _ _ (here c.before.before.before.before.before k g) (within c.before.before.before) (sym c.is_zero.ensures ∙ c.if-is_zero.true)

pub sum_at-requires : goal.sum_at-requires
sum_at-requires c = omega (arith, tri_next c.args.i, c.place.ensures)

pub returns : goal.returns
returns c =
    let a = c.args in
    λ n k h g.
    let diagonal = entry_read a.s.now a.matrix n _ _ (record { sfits = c.sum_at.type_inv }) c.sum_at.ensures a.i a.i c.place.ensures
    (omega (arith, tri_next a.i)) in
    c.is_zero-2.ensures ∙ ap is_zero diagonal ∙ side_diagonal _ _ _ _ _ (here c.before.before.before.before.before.before.before.before k g) (within c.before.before.before.before.before.before) (sym c.is_zero.ensures ∙ c.if-is_zero.false)
