-- `merge_sums::join_column` meets its contract: cleared, then one file's sums, then the other's.
use mathlib.Core.Path.{◌≡◌, sym, ap, ◌∙◌}
use lib.IntN.{pos}
use lib.ListN.{length, replicate, length-replicate}
use Rattle.num_whole.proofs.Adding.{length_plus}
use Rattle.num_packed.specs.Triangle.{tri}
use Rattle.merge_sums.proofs.Both.{first_addable, column_both, column_second}
use Rattle.merge_sums.proofs.join_column.Lts
use Rattle.merge_sums.proofs.join_column.Reads
use Rattle.merge_sums.proofs.join_column.Tie
use Rattle.merge_sums.proofs.join_column.Goals as goal

-- the facts known at one place of the code
abbrev At-After-fill : Type 0
At-After-fill = Lts.After-fill Tie.the-claims Reads.Pre Reads.Post Tie.handed_clauses

-- the room after the clearing
zeros : (c : At-After-fill) → c.fill.new.self ≡ replicate (length c.args.col.now) (pos 0)
zeros c = c.fill.ensures.after (λ y e. e)

none_long : (c : At-After-fill) → length c.fill.new.self ≡ length c.args.col.now
none_long c = ap length (zeros c) ∙ length-replicate _ (pos 0)

pub add_next-p-requires : goal.add_next-p-requires
add_next-p-requires c =
    let x = c.requires.ta_value in record {
      t_value = (x.0, c.requires.j_value.1, c.requires.j_value.0 ∙ sym (none_long c.before.before.before));
      t_len_bound = (x.1, x.2);
      addable = first_addable c.args.a.now c.args.start (tri (length c.args.ta.now)) c.args.b.now c.args.begin (tri (length c.args.tb.now)) c.requires.addable_both _ (length c.args.col.now) (zeros c.before.before.before);
    }

pub add_next-q-requires : goal.add_next-q-requires
add_next-q-requires c =
    let long : length c.add_next-p.new.part ≡ length c.args.col.now = ap length c.add_next-p.ensures.0 ∙ length_plus c.fill.new.self _ ∙ none_long c.before.before.before.before.before.before in
    let y = c.requires.tb_value in record {
      t_value = (y.0, c.requires.j_value.2, c.requires.j_value.0 ∙ sym long);
      t_len_bound = (y.1, y.2);
      addable = column_second c.args.a.now c.args.start c.args.ta.now c.args.b.now c.args.begin c.args.tb.now c.args.j _ _ _ c.requires.j_value.0 (zeros c.before.before.before.before.before.before) c.add_next-p.ensures.0 c.requires.addable_both;
    }

pub returns : goal.returns
returns c =
    let two = c.add_next-q in (
      column_both c.args.a.now c.args.start c.args.ta.now c.args.b.now c.args.begin c.args.tb.now c.args.j _ _ _ c.requires.j_value.0 (zeros c.before.before.before.before.before.before.before.before) c.add_next-p.ensures.0 _ two.ensures.0,
      c.add_next-p.ensures.1,
      two.ensures.1,
    )
