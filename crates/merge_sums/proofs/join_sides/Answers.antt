-- `merge_sums::join_sides` meets its contract: cleared, then one file's right sides, then the other's.
use mathlib.Core.Path.{◌≡◌, sym, ap, ◌∙◌, subst}
use Prim.Native.Nat.{◌<◌}
use lib.IntN.{pos}
use lib.ListN.{length, get_or, replicate, length-replicate}
use Rattle.num_whole.specs.Sums.{plus}
use Rattle.num_whole.proofs.Adding.{length_plus}
use Rattle.norm_labels.specs.Table.{rows_of}
use Rattle.norm_add.specs.Add.{on_place}
use Rattle.merge_sums.proofs.Both.{first_addable, sides_both, sides_second}
use Rattle.merge_sums.proofs.join_sides.Lts
use Rattle.merge_sums.proofs.join_sides.Reads
use Rattle.merge_sums.proofs.join_sides.Tie
use Rattle.merge_sums.proofs.join_sides.Goals as goal

-- the facts known at one place of the code
abbrev At-After-fill : Type 0
At-After-fill = Lts.After-fill Tie.the-claims Reads.Pre Reads.Post Tie.handed_clauses

-- the facts known at one place of the code
abbrev At-After-add_column : Type 0
At-After-add_column = Lts.After-add_column Tie.the-claims Reads.Pre Reads.Post Tie.handed_clauses

-- the room after the clearing
zeros : (c : At-After-fill) → c.fill.new.self ≡ replicate (length c.args.col.now) (pos 0)
zeros c = c.fill.ensures.after (λ y e. e)

none_long : (c : At-After-fill) → length c.fill.new.self ≡ length c.args.col.now
none_long c = ap length (zeros c) ∙ length-replicate _ (pos 0)

-- and with the first file's
one_is : (c : At-After-add_column) → c.add_column.new.part ≡ plus c.fill.new.self (rows_of (on_place c.args.a.now c.args.c c.args.ta.now) 0 (length c.args.col.now))
one_is c =
    c.add_column.ensures ∙ ap (λ n. plus c.fill.new.self (rows_of (on_place c.args.a.now c.args.c c.args.ta.now) 0 n)) (none_long c.before.before.before)

one_long : (c : At-After-add_column) → length c.add_column.new.part ≡ length c.args.col.now
one_long c = ap length (one_is c) ∙ length_plus c.fill.new.self _ ∙ none_long c.before.before.before

pub add_column-requires : goal.add_column-requires
add_column-requires c =
    let x = c.requires.rows_in_bounds in record {
      rows_in_bounds = (x.0, x.1);
      t_value = (x.2, λ i h. subst (λ n. get_or c.args.ta.now i 0 < n) (sym (none_long c.before.before.before)) (x.3 i h));
      addable = first_addable c.args.a.now c.args.c.base c.args.c.rows c.args.b.now c.args.d.base c.args.d.rows c.requires.addable_both _ (length c.args.col.now) (zeros c.before.before.before);
    }

pub add_column-requires-2 : goal.add_column-requires-2
add_column-requires-2 c =
    let y = c.requires.rows_in_bounds_2 in record {
      rows_in_bounds = (y.0, y.1);
      t_value = (y.2, λ i h. subst (λ n. get_or c.args.tb.now i 0 < n) (sym (one_long c.before.before.before)) (y.3 i h));
      addable = sides_second c.args.a.now c.args.c c.args.ta.now c.args.b.now c.args.d c.args.tb.now _ _ _ (zeros c.before.before.before.before.before.before) (one_is c.before.before.before) c.requires.addable_both;
    }

pub returns : goal.returns
returns c =
    let two = c.add_column-2 in
    sides_both c.args.a.now c.args.c c.args.ta.now c.args.b.now c.args.d c.args.tb.now _ _ _ (zeros c.before.before.before.before.before.before.before.before) (one_is c.before.before.before.before.before) _
    (two.ensures ∙ ap (λ n. plus c.add_column.new.part (rows_of (on_place c.args.b.now c.args.d c.args.tb.now) 0 n)) (one_long c.before.before.before.before.before))
