-- `arc_put::put_arc` meets its contract: each part is laid where the last one ends.
use native.Mathlib.Omega.{arith}
use Rattle.arc_heading.specs.Judge.{labels_of, stations_of}
use Rattle.arc_put.proofs.Laws.{arc_laid, labels_all, stations_all}
use Rattle.arc_put.proofs.put_arc.Goals as goal

pub put_all-requires : goal.put_all-requires
unfolding labels_of
put_all-requires c =
    let few = c.requires.few in
    let fits = c.well_formed.0.1.1.1.1.1.0.1.0.1 in
    omega (arith, few, labels_all c.args.h (omega (arith, few, fits)))

pub put_all-requires-2 : goal.put_all-requires-2
unfolding stations_of
put_all-requires-2 c =
    let few = c.requires.few in
    let seats = c.requires.seats in
    let fits = c.well_formed.0.1.1.1.1.1.1.0.1.0.1 in
    omega (arith, few, seats, stations_all c.args.h (omega (arith, seats, fits)))

pub returns : goal.returns
unfolding labels_of stations_of
returns c =
    let long = c.well_formed.0.1.1.1.1.1.0.1.0.1 in
    let listed = c.well_formed.0.1.1.1.1.1.1.0.1.0.1 in
    rw (
      c.put_run.ensures,
      c.write_u32-4.ensures,
      c.records_in.ensures,
      c.put_all-2.ensures,
      c.write_u32-3.ensures,
      c.put_all.ensures,
      c.write_u32-2.ensures,
      c.put.ensures,
      c.write_u32.ensures,
    )
    (arc_laid c.args.h (omega (arith, c.requires)) (omega (arith, c.requires)) c.args.run.now c.args.out.now)
