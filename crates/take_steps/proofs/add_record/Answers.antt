-- `take_steps::add_record` meets its contract.
use mathlib.Core.Path.{◌≡◌, ap, ap₂, ◌∙◌}
use native.Mathlib.Omega.{arith}
use lib.IntN.{pos}
use mir.Syntax.{w64}
use mir.ValLaws.{to_z-of_z}
use lib.ListN.{length}
use Rattle.num_whole.specs.Sums.{plus}
use Rattle.num_packed.specs.Triangle.{times, triangle_terms}
use Rattle.arc_record.specs.Record.{partials_in}
use Rattle.take_marks.specs.Marks.{marks_with}
use Rattle.take_laws.proofs.Accepted.{length_partials_in}
use Rattle.take_steps.proofs.add_record.Lts
use Rattle.take_steps.proofs.add_record.Reads
use Rattle.take_steps.proofs.add_record.Tie
use Rattle.take_steps.proofs.add_record.Goals as goal

-- the facts known at one place of the code
abbrev At-After-partials : Type 0
At-After-partials = Lts.After-partials Tie.the-claims Reads.Pre Reads.Post Tie.handed_clauses

-- the partials laid out
laid : (c : At-After-partials) → let a = c.args in c.partials.new.out ≡ partials_in (length a.rights.now) a.bytes.now
laid c = c.partials.ensures ∙ ap (λ n. partials_in n c.args.bytes.now) c.requires.rights_len_bound.2

pub add_matrix-requires : goal.add_matrix-requires
add_matrix-requires c =
    let n : length c.partials.new.out ≡ length c.args.rights.now = ap length (laid c.before.before.before.before) ∙ length_partials_in _ _ in record {
      a_in_bounds = rw n (rw c.requires.rights_len_bound.1 (omega arith));
      w_le_weight_top = (c.requires.weight_le_weight_top.0, rw n c.requires.rights_len_bound.0);
      a_in_bounds_2 = (rw n (rw c.requires.weight_le_weight_top.2 c.requires.rights_len_bound.0), c.requires.weight_le_weight_top.3);
      within = c.requires.within.0;
    }

pub returns : goal.returns
returns c =
    let l = laid c.before.before.before.before.before.before.before.before.before.before.before in record {
      matrix = c.add_matrix.ensures.sums_after ∙ ap (λ a. plus c.args.matrix.now (triangle_terms (pos c.args.weight) a)) l;
      rights = c.add_times.ensures ∙ ap₂ (λ f a. plus c.args.rights.now (times f a)) (to_z-of_z w64 c.args.side c.ranges.side) l;
      marks = c.add_matrix.ensures.marks ∙ ap (λ a. marks_with c.args.row a c.args.marks.now) l;
    }
