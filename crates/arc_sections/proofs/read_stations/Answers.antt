-- `arc_sections::read_stations` meets its contract: its count, then its records.
use native.Mathlib.Omega.{arith}
use mathlib.Core.Path.{sym, ◌∙◌}
use mathlib.Core.List.{[]}
use Rattle.std.proofs.lemmas.Result.{err_from_is_err_and}
use Rattle.arc_limits.specs.Limits.{no_station}
use Rattle.byte_section.proofs.Walk.{then_good, then_bad, counted}
use Rattle.arc_kinds.specs.Kinds.{station_kind}
use Rattle.arc_sections.specs.Sections.{stations_from, stations_part}
use Rattle.arc_sections.proofs.Filling.{first_few, slots_bad, slots_read, slots_count, slots_padded}
use Rattle.arc_sections.proofs.read_stations.Goals as goal

pub returns-in_err-count : goal.returns-in_err-count
unfolding stations_part
returns-in_err-count c =
    let p = err_from_is_err_and c.from_residual.result c.from_residual.ensures.1 in
    rw (p.1, p.2) (sym (then_bad _ _ (sym c.in_err-count.ensures)))

pub overflow_add-at : goal.overflow_add-at
overflow_add-at c = omega (arith, (counted _ _ _ _ _ (sym c.in_ok-count.ensures)).whole)

pub slice_bounds-listed-end : goal.slice_bounds-listed-end
slice_bounds-listed-end c =
    (first_few station_kind c.args.s.now _ _ c.args.at no_station _ [] c.no_stations-listed.ensures (counted _ _ _ _ _ (sym c.in_ok-count.ensures)).to).0

pub slice_bounds-fill-end : goal.slice_bounds-fill-end
slice_bounds-fill-end c =
    sym (first_few station_kind c.args.s.now _ _ c.args.at no_station _ [] c.no_stations-listed.ensures (counted _ _ _ _ _ (sym c.in_ok-count.ensures)).to).1

pub fill-requires : goal.fill-requires
fill-requires c = omega (arith, (counted _ _ _ _ _ (sym c.in_ok-count.ensures)).whole)

pub returns-in_err-next : goal.returns-in_err-next
unfolding stations_part stations_from
returns-in_err-next c =
    let n = sym c.in_ok-count.ensures in
    let p = err_from_is_err_and c.from_residual-in_err-next.result c.from_residual-in_err-next.ensures.1 in
    rw (p.1, p.2)
    (sym (then_good _ _ n ∙ then_bad _ _ (slots_bad station_kind _ _ _ _ no_station _ _ c.no_stations-listed.ensures (counted _ _ _ _ _ n).to _ _ c.in_err-next.ensures)))

pub returns : goal.returns
unfolding stations_part stations_from
returns c =
    let n = sym c.in_ok-count.ensures in
    let few = (counted _ _ _ _ _ n).to in
    let read = slots_read station_kind c.args.s.now _ 16 _ no_station _ _ c.no_stations-listed.ensures few _ c.in_ok-next.ensures in
    rw (
      slots_padded station_kind c.args.s.now _ 16 _ no_station _ _ c.no_stations-listed.ensures few _ c.in_ok-next.ensures,
      ← slots_count station_kind c.args.s.now _ 16 _ no_station _ _ c.no_stations-listed.ensures few _ c.in_ok-next.ensures,
    )
    (sym (then_good _ _ n ∙ then_good _ _ read))
