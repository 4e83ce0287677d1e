-- `norm_gather::field_in` meets its contract: by the diagonal in the small form, 0 in the old one.
use mathlib.Core.Path.{◌≡◌, refl, sym, ap, ◌∙◌}
use borrow.Author.Tests.{eq-eqb, ne_eqb}
use Rattle.norm_add.specs.Add.{held_at, column_at}
use Rattle.num_packed.specs.Sound.{is_zero}
use Rattle.num_packed.proofs.Tests.{zero_bits}
use Rattle.num_whole.proofs.Cases.{yes, no}
use Rattle.norm_gather.specs.Gather.{field_by_seat}
use Rattle.norm_gather.proofs.field_in.Lts
use Rattle.norm_gather.proofs.field_in.Reads
use Rattle.norm_gather.proofs.field_in.Tie
use Rattle.norm_gather.proofs.field_in.Goals as goal

-- the facts known at one place of the code
abbrev At-After-held_at-diagonal : Type 0
At-After-held_at-diagonal = Lts.After-held_at Tie.the-claims Reads.Pre Reads.Post

-- the sum that was read is the diagonal
is_diagonal : (c : At-After-held_at-diagonal) → let s = c.args in c.held_at-diagonal.result ≡ held_at s.s.now (column_at s.start s.n s.k) s.k
is_diagonal c =
    let s = c.args in
    c.held_at-diagonal.ensures ∙ ap (λ d. held_at s.s.now d s.k) c.column_at-c.ensures.0

pub returns-then-diagonal-eq0 : goal.returns-then-diagonal-eq0
unfolding field_by_seat
returns-then-diagonal-eq0 c =
    let zero = ap is_zero (sym (is_diagonal c.before.before)) ∙ sym (zero_bits c.held_at-diagonal.result (record { sfits = c.held_at-diagonal.type_inv })) ∙ eq-eqb _ _ c.if-diagonal-eq0.true in
    yes _ _ _ c.if-is_small.true (yes _ _ _ zero refl)

pub returns-else-diagonal-eq0 : goal.returns-else-diagonal-eq0
unfolding field_by_seat
returns-else-diagonal-eq0 c =
    let more = ap is_zero (sym (is_diagonal c.before.before)) ∙ sym (zero_bits c.held_at-diagonal.result (record { sfits = c.held_at-diagonal.type_inv })) ∙ ne_eqb _ _ c.if-diagonal-eq0.false in
    yes _ _ _ c.if-is_small.true (no _ _ _ more refl)

pub returns-else-is_small : goal.returns-else-is_small
unfolding field_by_seat
returns-else-is_small c = no _ _ _ c.if-is_small.false refl
