use mathlib.Core.Path.{◌≡◌, refl, sym, ap, ◌∙◌}
use Prim.Native.Nat.{ℕ, ◌≤◌, ◌+◌, ◌*◌, ◌-◌}
use native.Mathlib.Nat.{sub-zero, mul-le-mul}
use native.Mathlib.Omega.{arith}
use lib.ListN.{length}
use lib.Seq.{sets, length-sets}
use Rattle.num_packed.specs.Triangle.{tri}
use Rattle.num_packed.proofs.Places.{tri_next, tri_within, tri_twice}
use Rattle.norm_labels.specs.Table.{rows_of, columns_of}
use Rattle.norm_spread.specs.Spread.{spread_column_at}
use Rattle.norm_spread.proofs.Rows.{columns_done, columns_turn, before_start, column_is, one_more}
use Rattle.norm_spread.proofs.spread_matrix.Goals as goal

tri_few : (p : ℕ) → p ≤ 500 → tri p ≤ 125250
tri_few p h =
    let more : p + 1 ≤ 501 = omega arith in
    let most : p * (p + 1) ≤ 500 * 501 = mul-le-mul h more in
    omega (arith, tri_twice p)

tri_none : 0 ≡ tri 0
unfolding tri
tri_none = refl

pub loop-j-init : goal.loop-j-init
loop-j-init c =
    let a = c.args in
    (omega arith, sym (before_start a.s.now a.labels 0), omega arith, tri_none, refl, rw sub-zero)

pub spread_column-requires : goal.spread_column-requires
spread_column-requires c =
    let l = c.loop-j in
    let a = c.args in
    let here = tri_within l.j a.p (omega arith) in record {
      n_in_bounds = (omega arith, omega arith);
      start_in_bounds = (omega (arith, c.triangle.ensures.0, c.triangle.ensures.1), omega (arith, l.invariant.3, l.invariant.4, here));
    }

pub overflow_add-k-in-loop-j : goal.overflow_add-k-in-loop-j
overflow_add-k-in-loop-j c =
    let l = c.loop-j in
    let a = c.args in
    omega (arith, l.invariant.3, tri_within l.j a.p (omega arith), tri_few a.p (omega arith))

pub loop-j-preserved : goal.loop-j-preserved
loop-j-preserved c =
    let l = c.loop-j in
    let a = c.args in
    let s = a.s.now in
    let field = c.read_u32-field.ensures in
    let more = one_more s a.labels l.j c.counted-r.result _ (a.labels + 24 * l.j) field refl c.counted-r.ensures.0 in
    let first = ap (λ n. a.start + 8 * n) (c.triangle.ensures.0 ∙ ap tri l.invariant.1) in
    let put = c.spread_column.ensures ∙ column_is s a.labels a.start l.j _ _ l.out l.k field first in (
      omega arith,
      omega (arith, l.invariant.1, more),
      omega (arith, l.invariant.2, c.counted-r.ensures.1),
      omega (arith, l.invariant.3, tri_next l.j),
      ap length put ∙ length-sets l.out l.k (rows_of (λ i. spread_column_at s a.labels a.start i l.j) 0 (l.j + 1)) ∙ l.invariant.4,
      l.invariant.5 ∙ columns_turn (spread_column_at s a.labels a.start) l.out a.p l.j l.k (omega arith)
          ∙ ap (λ z. sets z (l.k + (l.j + 1)) (columns_of (spread_column_at s a.labels a.start) (l.j + 1) (a.p - (l.j + 1)))) (sym put),
    )

pub returns : goal.returns
returns c = sym (c.loop-j.invariant.5 ∙ columns_done _ _ _ _ _ (omega arith))
