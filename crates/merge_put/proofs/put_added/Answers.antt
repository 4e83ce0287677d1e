-- `merge_put::put_added` meets its contract: two sections, one after the other.
use mathlib.Core.Path.{◌≡◌, refl, sym, ap, ◌∙◌, subst}
use Prim.Native.Nat.{◌+◌, ◌*◌, ◌≤◌, ◌<◌}
use native.Mathlib.Omega.{arith}
use lib.ListN.{length, get_or, take}
use lib.Seq.{length-take-le}
use mir.Syntax.{w64}
use Rattle.byte_words.specs.Words.{lay, signed_bytes}
use Rattle.byte_section.specs.Section.{encoded}
use Rattle.num_packed.specs.Triangle.{tri}
use Rattle.norm_labels.specs.Table.{rows_of}
use Rattle.norm_add.specs.declared.Column.{Column}
use Rattle.merge_sums.specs.Both.{both_sides}
use Rattle.merge_laws.proofs.Numbers.{mergeable}
use Rattle.merge_put.proofs.Known.{Known, known}
use Rattle.merge_put.proofs.Placed.{Places}
use Rattle.merge_put.proofs.Sums.{left_places, right_places, matrix_adds, rights_add}
use Rattle.merge_put.proofs.Steps.{middle_put}
use Rattle.merge_put.proofs.put_added.Lts
use Rattle.merge_put.proofs.put_added.Reads
use Rattle.merge_put.proofs.put_added.Tie
use Rattle.merge_put.proofs.put_added.Goals as goal

-- the facts known at one place of the code
abbrev At-Start : Type 0
At-Start = Lts.Start Tie.the-claims Reads.Pre Reads.Post Tie.handed_clauses

-- the facts known at one place of the code
abbrev At-After-put_columns : Type 0
At-After-put_columns = Lts.After-put_columns Tie.the-claims Reads.Pre Reads.Post Tie.handed_clauses

kx : (c : At-Start) → Known c.args.a.now c.args.x
kx c = known _ _ c.requires.as_read.0

ky : (c : At-Start) → Known c.args.b.now c.args.y
ky c = known _ _ c.requires.as_read.1

few : (c : At-Start) → c.args.n ≤ 500
few c = omega (arith, c.requires.b_value.1.count, (mergeable _ _ c.requires.b_value.0).labels_fit)

-- the places of the labels whose sums each file stores
px : (c : At-Start) → Places c.args.n c.args.x.stored c.args.ta.now
px c = left_places _ _ (kx c) _ _ (ky c) _ _ _ c.requires.b_value.1

py : (c : At-Start) → Places c.args.n c.args.y.stored c.args.tb.now
py c = right_places _ _ (kx c) _ _ (ky c) _ _ _ c.requires.b_value.1

-- the room is as long as it was
room_long : (c : At-After-put_columns) → c.args.n ≤ length c.put_columns.new.room
room_long c =
    let long : length c.put_columns.new.room ≡ 500 = c.put_columns.auto.room in
    omega (arith, few c.before.before.before.before.before.before.before.before.before.before.before.before.before)

front_long : (c : At-After-put_columns) → let n = c.args.n in length (take n c.put_columns.new.room) ≡ n
front_long c = length-take-le _ _ (room_long c)

pub triangle-sums-requires : goal.triangle-sums-requires
triangle-sums-requires c = few c.before.before.before.before.before.before

pub put_columns-requires : goal.put_columns-requires
put_columns-requires c =
    let k = kx c.before.before.before.before.before.before.before.before.before.before.before.before.before in
    let l = ky c.before.before.before.before.before.before.before.before.before.before.before.before.before in
    let p = px c.before.before.before.before.before.before.before.before.before.before.before.before.before in
    let q = py c.before.before.before.before.before.before.before.before.before.before.before.before.before in record {
      count_le_labels_most = (few c.before.before.before.before.before.before.before.before.before.before.before.before.before, few c.before.before.before.before.before.before.before.before.before.before.before.before.before, omega arith);
      ta_value = (p.ascend, omega (arith, p.long, k.few_stored), subst (λ m. c.args.x.matrix + 8 * tri m ≤ length c.args.a.now) (sym p.long) k.matrix_end);
      tb_value = (q.ascend, omega (arith, q.long, l.few_stored), subst (λ m. c.args.y.matrix + 8 * tri m ≤ length c.args.b.now) (sym q.long) l.matrix_end);
      addable_both = matrix_adds _ _ k _ _ l _ _ _ c.requires.b_value.1 c.requires.b_value.0;
    }

pub overflow_cast-n : goal.overflow_cast-n
overflow_cast-n c =
    omega (arith, few c.before.before.before.before.before.before.before.before.before.before.before.before.before.before.before.before.before.before)

pub slice_bounds-room-end : goal.slice_bounds-room-end
slice_bounds-room-end c = room_long c.before.before.before.before.before.before.before.before.before

pub slice_bounds-put_sides-end : goal.slice_bounds-put_sides-end
slice_bounds-put_sides-end c = sym (front_long c.before.before.before.before.before.before.before.before.before.before)

pub put_sides-requires : goal.put_sides-requires
put_sides-requires c =
    let k = kx c.before.before.before.before.before.before.before.before.before.before.before.before.before.before.before.before.before.before.before.before.before.before.before in
    let l = ky c.before.before.before.before.before.before.before.before.before.before.before.before.before.before.before.before.before.before.before.before.before.before.before in
    let p = px c.before.before.before.before.before.before.before.before.before.before.before.before.before.before.before.before.before.before.before.before.before.before.before in
    let q = py c.before.before.before.before.before.before.before.before.before.before.before.before.before.before.before.before.before.before.before.before.before.before.before in
    let long = front_long c.before.before.before.before.before.before.before.before.before.before in record {
      room_in_bounds = omega (arith, c.triangle-sums.ensures.0, long);
      rows_in_bounds = (k.rights_end, omega (arith, p.long), p.ascend, λ i h. subst (λ m. get_or c.args.ta.now i 0 < m) (sym long) (p.inside i h));
      rows_in_bounds_2 = (l.rights_end, omega (arith, q.long), q.ascend, λ i h. subst (λ m. get_or c.args.tb.now i 0 < m) (sym long) (q.inside i h));
      addable_both = rights_add _ _ k _ _ l _ _ _ c.requires.b_value.1 c.requires.b_value.0;
    }

pub returns : goal.returns
returns c =
    let e : Column = record { base = c.args.x.rights; rows = c.args.x.stored } in
    let d : Column = record { base = c.args.y.rights; rows = c.args.y.stored } in
    middle_put _ _ (kx c.before.before.before.before.before.before.before.before.before.before.before.before.before.before.before.before.before.before.before.before.before.before.before.before.before.before.before) _ _ (ky c.before.before.before.before.before.before.before.before.before.before.before.before.before.before.before.before.before.before.before.before.before.before.before.before.before.before.before) _ _ _ c.requires.b_value.1 _ _ _ _ _ _ _ _ c.triangle-sums.ensures.0 refl
    c.write_u32.ensures c.put_columns.ensures c.write_u32-2.ensures
    (c.put_sides.ensures
    ∙ ap (λ m. lay c.write_u32-2.new.s (c.args.at + 4 + 8 * c.triangle-sums.result + 4) (encoded (signed_bytes w64) (rows_of (both_sides c.args.a.now e c.args.ta.now c.args.b.now d c.args.tb.now) 0 m))) (front_long c.before.before.before.before.before.before.before.before.before.before.before.before.before.before))
