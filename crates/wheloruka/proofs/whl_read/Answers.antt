-- `wheloruka::whl_read` meets its contract: the file's refusal, too little room, or the heading and the two numbers in their rooms.
use mathlib.Core.Path.{◌∙◌, ap}
use lib.ListN.{length}
use Rattle.call_files.specs.Reading.{read_number, heading_left, places_left}
use Rattle.wheloruka.proofs.Files.{arc_fits}
use Rattle.wheloruka.proofs.whl_read.Goals as goal

pub give_arc-requires : goal.give_arc-requires
give_arc-requires c = arc_fits _ _ c.read.ensures

pub returns : goal.returns
returns c =
    let a = c.args in
    let is = c.read.ensures in
    record {
      value = c.give_arc.ensures.value ∙ ap (λ j. read_number j (length a.heading.now) (length a.out.now)) is;
      heading = c.give_arc.ensures.heading ∙ ap (λ j. heading_left j a.heading.now (length a.out.now)) is;
      places = c.give_arc.ensures.places ∙ ap (λ j. places_left j (length a.heading.now) a.out.now) is;
    }
