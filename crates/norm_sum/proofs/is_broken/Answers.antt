-- `norm_sum::is_broken` meets its contract: its tests are the definition's, in its order; the form says how low a diagonal may be.
use native.Mathlib.Omega.{arith}
use mathlib.Core.Path.{◌≡◌, ap, sym, ◌∙◌}
use mathlib.Core.Bool.{Bool, true, false}
use Prim.Native.Nat.{ℕ, ◌+◌, ◌≤◌}
use mir.Syntax.{w64}
use mir.Val.{to_z, of_z}
use mir.ValLaws.{to_z-of_z}
use Rattle.num_packed.specs.Triangle.{tri}
use Rattle.num_packed.specs.Sound.{entry, is_zero}
use Rattle.num_packed.proofs.Places.{tri_next, tri_within}
use Rattle.norm_sum.specs.Sums.{sums_at, past}
use Rattle.norm_sum.proofs.Entries.{entry_read, entry_past, entry_diagonal, entry_zero, entry_row, entry_column, form_broken, form_diagonal, form_beside}
use Rattle.norm_sum.proofs.is_broken.Lts
use Rattle.norm_sum.proofs.is_broken.Reads
use Rattle.norm_sum.proofs.is_broken.Tie
use Rattle.norm_sum.proofs.is_broken.Goals as goal

-- the facts known at one place of the code
abbrev At-After-sum_at-x : Type 0
At-After-sum_at-x = Lts.After-sum_at Tie.the-claims Reads.Pre Reads.Post Tie.handed_clauses

-- the facts known at one place of the code
abbrev At-Else-is_past : Type 0
At-Else-is_past = Lts.Else1 Tie.the-claims Reads.Pre Reads.Post Tie.handed_clauses

-- the facts known at one place of the code
abbrev At-Else-is_zero : Type 0
At-Else-is_zero = Lts.Else3 Tie.the-claims Reads.Pre Reads.Post Tie.handed_clauses

-- the facts known at one place of the code
abbrev At-After-is_zero-2 : Type 0
At-After-is_zero-2 = Lts.After-is_zero2 Tie.the-claims Reads.Pre Reads.Post Tie.handed_clauses

-- the entry that is tested, where it stands among n sums
here : (c : At-After-sum_at-x) → let a = c.args in (n : ℕ) → tri (a.j + 1) ≤ n
    → to_z w64 (of_z w64 c.sum_at-x.result) ≡ entry (sums_at a.s.now a.start n) a.i a.j
here c n h =
    let a = c.args in
    entry_read _ _ n _ _ (record { sfits = c.sum_at-x.type_inv }) c.sum_at-x.ensures _ _ c.place.ensures (omega (arith, tri_next a.j))

within : (c : At-Else-is_past) → past c.args.bound (to_z w64 (of_z w64 c.sum_at-x.result)) ≡ false
within c = sym c.is_past.ensures ∙ c.if-is_past.false

other : (c : At-Else-is_zero) → is_zero (to_z w64 (of_z w64 c.sum_at-x.result)) ≡ false
other c = sym c.is_zero.ensures ∙ c.if-is_zero.false

-- the diagonal of its row, and that of its column
row_test : (c : At-After-is_zero-2) → let a = c.args in (n : ℕ) → tri (a.j + 1) ≤ n
    → (t : Bool) → c.is_zero-2.result ≡ t → is_zero (entry (sums_at a.s.now a.start n) a.i a.i) ≡ t
row_test c n h t e =
    let a = c.args in
    let row = entry_read a.s.now a.start n _ _ (record { sfits = c.sum_at.type_inv }) c.sum_at.ensures a.i a.i c.place-2.ensures
    (omega (arith, tri_within a.i (a.j + 1) (omega arith))) in
    ap is_zero (sym row) ∙ sym c.is_zero-2.ensures ∙ e

pub sum_at-x-requires : goal.sum_at-x-requires
sum_at-x-requires c = omega (arith, tri_next c.args.j, c.place.ensures)

pub returns-then-is_past : goal.returns-then-is_past
returns-then-is_past c =
    λ small n low h. form_broken small _ _ _ _ (entry_past _ _ _ _ _ (here c.before.before.before n h) (sym c.is_past.ensures ∙ c.if-is_past.true))

pub returns-then-i-j : goal.returns-then-i-j
returns-then-i-j c =
    λ small n low h. let x = here c.before.before.before.before.before n h in
    c.is_low.ensures ∙ form_diagonal small _ _ _ _ _ _ (to_z-of_z w64 _ c.ranges.least ∙ low) x c.if-i-j.true (entry_diagonal _ _ _ _ _ x (within c.before.before.before) c.if-i-j.true)

pub returns-then-is_zero : goal.returns-then-is_zero
returns-then-is_zero c =
    λ small n low h. form_beside small _ _ _ _ c.if-i-j.false (entry_zero _ _ _ _ _ (here c.before.before.before.before.before.before n h) (within c.before.before.before.before) c.if-i-j.false (sym c.is_zero.ensures ∙ c.if-is_zero.true))

pub sum_at-requires : goal.sum_at-requires
sum_at-requires c =
    let a = c.args in
    omega (arith, tri_next a.j, c.place-2.ensures, tri_within a.i (a.j + 1) (omega arith))

pub returns-then-is_zero-2 : goal.returns-then-is_zero-2
returns-then-is_zero-2 c =
    λ small n low h. form_beside small _ _ _ _ c.if-i-j.false (entry_row _ _ _ _ _ (here c.before.before.before.before.before.before.before.before.before.before n h) (within c.before.before.before.before.before.before.before.before) c.if-i-j.false (other c.before.before.before.before.before) (row_test c.before.before n h true c.if-is_zero-2.true))

pub returns : goal.returns
returns c =
    λ small n low h. form_beside small _ _ _ _ c.if-i-j.false
    (c.requires.by_index n h
    ∙ entry_column _ _ _ _ _ (here c.before.before.before.before.before.before.before.before.before.before n h) (within c.before.before.before.before.before.before.before.before) c.if-i-j.false (other c.before.before.before.before.before) (row_test c.before.before n h false c.if-is_zero-2.false))
