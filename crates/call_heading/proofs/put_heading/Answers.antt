-- `call_heading::put_heading` meets its contract: each part is laid where the last one ends.
use native.Mathlib.Omega.{arith}
use Rattle.arc_heading.specs.Judge.{labels_of, stations_of}
use Rattle.arc_put.proofs.Laws.{labels_all, stations_all}
use Rattle.call_heading.proofs.Bytes.{heading_laid}
use Rattle.call_heading.proofs.put_heading.Goals as goal

pub put_all-requires : goal.put_all-requires
unfolding labels_of
put_all-requires c =
    let few = c.requires.0 in
    let fits = c.well_formed.0.1.1.1.1.1.0.1.0.1 in
    omega (arith, few, labels_all c.args.h (omega (arith, few, fits)))

pub put_all-requires-2 : goal.put_all-requires-2
unfolding stations_of
put_all-requires-2 c =
    let few = c.requires.0 in
    let seats = c.requires.1 in
    let fits = c.well_formed.0.1.1.1.1.1.1.0.1.0.1 in
    omega (arith, few, seats, stations_all c.args.h (omega (arith, seats, fits)))

pub returns : goal.returns
unfolding labels_of stations_of
returns c =
    let long = c.well_formed.0.1.1.1.1.1.0.1.0.1 in
    let listed = c.well_formed.0.1.1.1.1.1.1.0.1.0.1 in
    rw (
      c.put_all-2.ensures,
      c.put_all.ensures,
      c.write_u16-2.ensures,
      c.write_u16.ensures,
      c.put.ensures,
    )
    (heading_laid c.args.h (omega (arith, c.requires)) (omega (arith, c.requires)) c.args.out.now)
