use mathlib.Core.Path.{◌≡◌, refl, sym, ap, ◌∙◌}
use Prim.Native.Nat.{◌<◌, ◌+◌, ◌-◌, ◌*◌}
use native.Mathlib.Nat.{sub-zero}
use native.Mathlib.Omega.{arith}
use lib.ListN.{length}
use Rattle.byte_words.specs.Words.{lay}
use Rattle.byte_words.proofs.Words.{length_lay}
use Rattle.byte_section.specs.Section.{encoded}
use Rattle.num_packed.specs.Triangle.{tri}
use Rattle.num_packed.proofs.Places.{tri_next, tri_within}
use Rattle.norm_kinds.specs.Kinds.{sum_bytes}
use Rattle.norm_labels.specs.Table.{rows_of, columns_of}
use Rattle.norm_gather.specs.Gather.{gathered_at, side_gathered}
use Rattle.norm_gather.proofs.Writing.{columns_end, columns_turn}
use Rattle.norm_gather.proofs.put_columns.Goals as goal

pub loop-j-init : goal.loop-j-init
unfolding tri
loop-j-init c = (omega arith, omega arith, refl, rw sub-zero)

pub put_gathered-requires : goal.put_gathered-requires
put_gathered-requires c =
    let l = c.loop-j in
    let more : l.j < length c.args.u.now = omega arith in
    (c.column_at-c.ensures.1, omega arith, omega (arith, l.invariant.1, l.invariant.2, c.requires.u_len_bound.1, tri_within l.j (length c.args.u.now) more))

pub overflow_mul-k : goal.overflow_mul-k
overflow_mul-k c =
    let l = c.loop-j in
    omega (arith, l.invariant.1, l.invariant.2, c.requires.u_len_bound.1, tri_within l.j (length c.args.u.now) (omega arith))

pub overflow_add-k : goal.overflow_add-k
overflow_add-k c =
    let l = c.loop-j in
    omega (arith, l.invariant.1, l.invariant.2, c.requires.u_len_bound.1, tri_within l.j (length c.args.u.now) (omega arith))

pub loop-j-preserved : goal.loop-j-preserved
unfolding gathered_at side_gathered
loop-j-preserved c =
    let l = c.loop-j in
    let s = c.args in
    let more : l.j < length s.u.now = omega arith in
    let f = gathered_at s.s.now s.start s.n s.u.now in
    let e : c.put_gathered.new.out ≡ lay l.out l.k (encoded sum_bytes (rows_of (λ i. f i l.j) 0 (l.j + 1))) =
    c.put_gathered.ensures
    ∙ ap (λ d. lay l.out l.k (encoded sum_bytes (rows_of (side_gathered s.s.now d s.u.now) 0 (l.j + 1)))) c.column_at-c.ensures.0 in (
      omega arith,
      omega (arith, l.invariant.1, tri_next l.j),
      ap length e ∙ length_lay _ _ _ ∙ l.invariant.2,
      l.invariant.3 ∙ columns_turn l.out l.k f (length s.u.now) l.j more
          ∙ ap (λ o. lay o (l.k + 8 * (l.j + 1)) (encoded sum_bytes (columns_of f (l.j + 1) (length s.u.now - (l.j + 1))))) (sym e),
    )

pub returns : goal.returns
returns c =
    let l = c.loop-j in
    let s = c.args in
    sym (l.invariant.3 ∙ columns_end l.out l.k (gathered_at s.s.now s.start s.n s.u.now) (length s.u.now) l.j (omega arith))
