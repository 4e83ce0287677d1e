-- `part_place::keep` meets its contract: both laid into zeros, one after the other.
use mathlib.Core.Path.{ap, ◌∙◌}
use Rattle.byte_words.specs.Words.{lay}
use lib.ListN.{length}
use Rattle.part_place.proofs.Looks.{kept_so}
use Rattle.part_place.proofs.keep.Goals as goal

pub returns : goal.returns
returns c =
    let a = c.args in
    kept_so 1088 _ a.first.now a.others.now c.requires (c.put_run-2.ensures ∙ ap (λ z. lay z (length a.first.now) a.others.now) c.put_run.ensures)
