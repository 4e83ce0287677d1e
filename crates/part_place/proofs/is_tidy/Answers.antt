-- `part_place::is_tidy` meets its contract: the room past the bytes is all 0.
use Rattle.std.proofs.Common.{◌∙◌, arith, rules, tests}
use Rattle.std.proofs.lemmas.Iterator.{YieldsList-from_slice}
use Rattle.std.proofs.lemmas.Iterator.Search.{all_from_yields_List}
use Rattle.num_whole.specs.Tests.{same, up_to}
use Rattle.num_whole.specs.Lists.{rest}
use Rattle.std.proofs.lemmas.Slice.{between_is}
use Rattle.num_whole.proofs.Alls.{list_all_is}
use Rattle.num_whole.proofs.Cases.{holds, fails, is_up_to, not_up_to}
use Rattle.part_laws.specs.Entries.{tidy}
use Rattle.part_place.proofs.is_tidy.Goals as goal

pub returns-then-p-le-POSITION_MOST : goal.returns-then-p-le-POSITION_MOST
unfolding tidy same rest
returns-then-p-le-POSITION_MOST c =
    holds _ _ (is_up_to _ _ (omega arith))
    (all_from_yields_List {all = rest c.args.p.kept 1088 c.args.p.length} (λ b. same b 0) _ _ _ c.all.ensures.ran (YieldsList-from_slice _ (c.iter.ensures.rest ∙ between_is c.args.p.kept c.args.p.length 1088)) (λ x b q k. search (rules, tests))
    ∙ list_all_is (λ b. same b 0) _)

pub returns-else-p-le-POSITION_MOST : goal.returns-else-p-le-POSITION_MOST
unfolding tidy up_to
returns-else-p-le-POSITION_MOST c = not_up_to _ _ (omega arith) ∙ fails _ _ (not_up_to _ _ (omega arith))
