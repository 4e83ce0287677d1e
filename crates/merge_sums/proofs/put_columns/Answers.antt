use mathlib.Core.Path.{◌≡◌, refl, sym, ap, ◌∙◌}
use Prim.Native.Nat.{◌≤◌, ◌<◌, ◌+◌, ◌-◌, ◌*◌}
use native.Mathlib.Nat.{sub-zero}
use native.Mathlib.Omega.{arith}
use lib.ListN.{length}
use lib.Seq.{length-take-le}
use Rattle.byte_words.specs.Words.{lay}
use Rattle.byte_words.proofs.Words.{length_lay}
use Rattle.num_packed.specs.Triangle.{tri}
use Rattle.num_packed.proofs.Places.{tri_next, tri_within}
use Rattle.norm_labels.specs.Table.{rows_of, columns_of}
use Rattle.norm_labels.proofs.Tables.{length_rows}
use Rattle.merge_sums.proofs.Writing.{bytes_in, columns_end, columns_turn}
use Rattle.norm_add.proofs.Columns.{passed_starts}
use Rattle.merge_sums.specs.Both.{both_places}
use Rattle.merge_sums.proofs.Both.{front_long, front_take}
use Rattle.merge_sums.proofs.put_columns.Goals as goal

pub loop-j-init : goal.loop-j-init
unfolding tri
loop-j-init c = (omega arith, omega arith, refl, refl, passed_starts _, passed_starts _, rw sub-zero)

pub slice_bounds-join_column-end : goal.slice_bounds-join_column-end
slice_bounds-join_column-end c = (omega (arith, c.loop-j.invariant.3, c.requires.count_le_labels_most.1))

pub slice_bounds-join_column-end-in-loop-j : goal.slice_bounds-join_column-end-in-loop-j
slice_bounds-join_column-end-in-loop-j c = sym (length-take-le _ _ (omega (arith, c.loop-j.invariant.3, c.requires.count_le_labels_most.1)))

pub join_column-d-requires : goal.join_column-d-requires
join_column-d-requires c =
    let l = c.loop-j in record {
      j_value = (sym (length-take-le _ _ (omega (arith, c.loop-j.invariant.3, c.requires.count_le_labels_most.1))), l.invariant.4, l.invariant.5);
      ta_value = c.requires.ta_value;
      tb_value = c.requires.tb_value;
      addable_both = c.requires.addable_both;
    }

pub slice_bounds-put_column-end : goal.slice_bounds-put_column-end
slice_bounds-put_column-end c =
    let j = c.join_column-d in
    let l = c.loop-j in
    let f : l.j + 1 ≤ length l.room = omega (arith, l.invariant.3, c.requires.count_le_labels_most.1) in
    omega (arith, front_long j.new.col l.room (l.j + 1) (ap length j.ensures.0 ∙ length_rows _ _ _) f)

pub slice_bounds-put_column-end-in-loop-j : goal.slice_bounds-put_column-end-in-loop-j
slice_bounds-put_column-end-in-loop-j c =
    let j = c.join_column-d in
    let l = c.loop-j in
    let long = ap length j.ensures.0 ∙ length_rows _ _ _ in
    sym (ap length (front_take j.new.col l.room (l.j + 1) long) ∙ long)

pub put_column-requires : goal.put_column-requires
put_column-requires c =
    let j = c.join_column-d in
    let l = c.loop-j in
    let long = ap length j.ensures.0 ∙ length_rows _ _ _ in
    omega (arith, c.loop-j.invariant.1, c.loop-j.invariant.2, c.requires.count_le_labels_most.2, tri_within c.loop-j.j c.args.count (omega arith), ap length (front_take j.new.col l.room (l.j + 1) long) ∙ long)

pub overflow_mul-k : goal.overflow_mul-k
overflow_mul-k c = omega (arith, c.loop-j.invariant.1, c.loop-j.invariant.2, c.requires.count_le_labels_most.2, tri_within c.loop-j.j c.args.count (omega arith))

pub overflow_add-k : goal.overflow_add-k
overflow_add-k c = omega (arith, c.loop-j.invariant.1, c.loop-j.invariant.2, c.requires.count_le_labels_most.2, tri_within c.loop-j.j c.args.count (omega arith))

pub loop-j-preserved : goal.loop-j-preserved
loop-j-preserved c =
    let l = c.loop-j in
    let j = c.join_column-d in
    let w = c.put_column in
    let more : l.j < c.args.count = omega arith in
    let f = both_places c.args.a.now c.args.start c.args.ta.now c.args.b.now c.args.begin c.args.tb.now in
    let long = ap length j.ensures.0 ∙ length_rows _ _ _ in
    let e : w.new.out ≡ lay l.out l.k (bytes_in (rows_of (λ i. f i l.j) 0 (l.j + 1))) =
    w.ensures ∙ ap (λ r. lay l.out l.k (bytes_in r)) (front_take j.new.col l.room (l.j + 1) long ∙ j.ensures.0) in (
      omega (arith, more),
      omega (arith, l.invariant.1, tri_next l.j),
      ap length e ∙ length_lay _ _ _ ∙ l.invariant.2,
      front_long j.new.col l.room (l.j + 1) long (omega (arith, c.loop-j.invariant.3, c.requires.count_le_labels_most.1)) ∙ l.invariant.3,
      j.ensures.1,
      j.ensures.2,
      l.invariant.6 ∙ columns_turn l.out l.k f c.args.count l.j more ∙ ap (λ o. lay o (l.k + 8 * (l.j + 1)) (bytes_in (columns_of f (l.j + 1) (c.args.count - (l.j + 1))))) (sym e),
    )

pub shape_of-out : goal.shape_of-out
shape_of-out c = c.loop-j.invariant.2

pub shape_of-room : goal.shape_of-room
shape_of-room c = c.loop-j.invariant.3

pub returns : goal.returns
returns c =
    let l = c.loop-j in
    sym (l.invariant.6 ∙ columns_end l.out l.k (both_places c.args.a.now c.args.start c.args.ta.now c.args.b.now c.args.begin c.args.tb.now) c.args.count l.j (omega arith))
