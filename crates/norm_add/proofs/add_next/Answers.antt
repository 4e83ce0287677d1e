-- `norm_add::add_next` meets its contract.
use mathlib.Core.Path.{subst}
use Prim.Native.Nat.{◌<◌}
use native.Mathlib.Omega.{arith}
use lib.ListN.{length, get_or}
use Rattle.num_packed.proofs.Places.{tri_within}
use Rattle.norm_add.proofs.Held.{column_fits}
use Rattle.norm_add.proofs.Columns.{skipped, column_here, places_in, fits_here, passed_on, taken}
use Rattle.norm_add.proofs.add_next.Goals as goal

pub overflow_add-base : goal.overflow_add-base
overflow_add-base c = omega (arith, c.requires.t_len_bound.1, c.triangle.ensures.0, tri_within c.args.q (length c.args.t.now) c.if-q-t.true)

pub add_column-requires : goal.add_column-requires
add_column-requires c =
    let t = c.args.t.now in
    let h = c.if-q-t.true in
    let e = c.if-t-q.true in
    let up = c.requires.t_value.0 in
    let p = c.requires.t_value.1 in
    let d = column_here t up c.args.j c.args.q p h e c.args.start c.triangle.result c.triangle.ensures.0 in record {
      rows_in_bounds = (column_fits c.args.start (length t) _ _ (length c.args.s.now) d c.requires.t_len_bound.1, omega arith);
      t_value = (up, λ i g. subst (λ n. get_or t i 0 < n) c.requires.t_value.2 (places_in t up c.args.j c.args.q p h e i g));
      addable = fits_here t up c.args.j c.args.q p h e c.args.s.now c.args.start c.triangle.result c.args.part.now c.triangle.ensures.0 c.requires.addable;
    }

pub returns-then-t-q : goal.returns-then-t-q
returns-then-t-q c =
    let t = c.args.t.now in
    let h = c.if-q-t.true in
    let e = c.if-t-q.true in
    let up = c.requires.t_value.0 in
    let p = c.requires.t_value.1 in
    let tr = c.triangle in
    let d = column_here t up c.args.j c.args.q p h e c.args.start tr.result tr.ensures.0 in (
      taken t up c.args.j c.args.q p h e c.args.s.now c.args.start _ c.args.part.now c.add_column.new.part d c.requires.t_value.2 c.add_column.ensures,
      passed_on t up c.args.j c.args.q p h e,
    )

pub returns-else-t-q : goal.returns-else-t-q
returns-else-t-q c =
    skipped c.args.t.now c.requires.t_value.0 c.args.j c.args.q c.requires.t_value.1 c.args.s.now c.args.start c.args.part.now (λ h e. c.if-t-q.false e)

pub returns-else-q-t : goal.returns-else-q-t
returns-else-q-t c =
    skipped c.args.t.now c.requires.t_value.0 c.args.j c.args.q c.requires.t_value.1 c.args.s.now c.args.start c.args.part.now (λ h e. omega (arith, c.if-q-t.false))
