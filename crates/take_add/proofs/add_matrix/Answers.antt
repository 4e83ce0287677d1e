use mathlib.Core.Path.{◌≡◌, refl, sym, ap, ◌∙◌}
use mathlib.Core.List.{List}
use native.Mathlib.Numerals.{add-one}
use Rattle.num_whole.specs.Tests.{pick}
use Rattle.num_packed.specs.Sound.{is_zero}
use Prim.Native.Nat.{ℕ, ◌≤◌, ◌<◌, ◌+◌, ◌-◌, ◌^◌}
use native.Mathlib.Omega.{arith}
use borrow.Author.Rules.{rules}
use lib.IntN.{ℤ, pos, ◌*ℤ◌}
use lib.ListN.{length, get_or, take, set}
use lib.Seq.{take_all}
use Rattle.take_marks.specs.Marks.{with_mark, marks_with}
use Rattle.take_marks.proofs.Lists.{marks_length}
use Rattle.take_marks.proofs.Partials.{marks_none, marks_more}
use borrow.Rule.Slice.PartMut.{mid_len}
use mir.Syntax.{w16, w64}
use mir.Val.{to_z, of_z}
use mir.ValLaws.{to_z-of_z}
use Rattle.num_whole.specs.Sums.{plus}
use Rattle.num_packed.specs.Triangle.{triangle_terms, columns, tri}
use Rattle.take_add.proofs.Lists.{columns_start, columns_turn, columns_end, part_within}
use Rattle.num_packed.proofs.Places.{tri_next, tri_within}
use Rattle.take_add.proofs.add_matrix.Lts
use Rattle.take_add.proofs.add_matrix.Reads
use Rattle.take_add.proofs.add_matrix.Tie
use Rattle.take_add.proofs.add_matrix.Goals as goal

-- the facts known at one place of the code
abbrev At-In-loop-j : Type 0
At-In-loop-j = Lts.In-loop Tie.the-claims Reads.Pre Reads.Post goal.the-invariant-loop-j goal.the-decreases-loop-j Tie.handed_clauses

-- the facts known at one place of the code
abbrev At-After-scale-f : Type 0
At-After-scale-f = Lts.After-scale Tie.the-claims Reads.Pre Reads.Post goal.the-invariant-loop-j goal.the-decreases-loop-j Tie.handed_clauses

-- one partial more: its mark
marked : (row : ℕ) (a : List ℤ) (marks m : List ℕ) (j : ℕ) → m ≡ marks_with row (take j a) marks → j < length a → j < length marks → (r : ℕ)
    → r ≡ pick (is_zero (get_or a j (pos 0))) (get_or m j 0) (with_mark (get_or m j 0) row) → set m j r ≡ marks_with row (take (j + 1) a) marks
marked row a marks m j e h g r v =
    ap (set m j) v
    ∙ ap (λ n. set n j (pick (is_zero (get_or a j (pos 0))) (get_or n j 0) (with_mark (get_or n j 0) row))) e
    ∙ marks_more row a marks j h g ∙ ap (λ n. marks_with row (take n a) marks) (sym (add-one j))

-- the place of a partial is one of the marks'
marks_long : (c : At-In-loop-j) → length c.loop-j.marks ≡ length c.args.marks.now
marks_long c = ap length c.loop-j.invariant.2 ∙ marks_length _ _ _

few : (c : At-In-loop-j) → c.loop-j.j < length c.loop-j.marks
few c = omega (arith, marks_long c, c.requires.a_in_bounds_2.0)

fifty : (c : At-In-loop-j) → c.loop-j.j < 50
fifty c = omega (arith, c.requires.w_le_weight_top.1)

-- the factor of column j
factor : (c : At-After-scale-f) → to_z w64 (of_z w64 c.scale-f.result) ≡ pos c.args.w *ℤ get_or c.args.a.now c.loop-j.j (pos 0)
factor c =
    to_z-of_z w64 c.scale-f.result (search rules) ∙ c.scale-f.ensures.0
    ∙ ap (λ x. pos c.args.w *ℤ x) (to_z-of_z w16 (get_or c.args.a.now c.loop-j.j (pos 0)) (search rules))

-- column j ends within the sums
room : (c : At-In-loop-j) → c.loop-j.k + c.loop-j.j + 1 ≤ length c.loop-j.sums
room c =
    omega (arith, c.requires.a_in_bounds, tri_within c.loop-j.j (length c.args.a.now) (omega arith))

pub loop-j-init : goal.loop-j-init
unfolding tri
loop-j-init c =
    let a = c.args in (omega arith, (refl, columns_start (pos a.w) a.a.now a.sums.now), sym (marks_none a.row a.a.now a.marks.now))

pub offset_bounds-marks-j : goal.offset_bounds-marks-j
offset_bounds-marks-j c = omega (arith, fifty c.before.before)

pub bounds-marks-j : goal.bounds-marks-j
bounds-marks-j c = few c.before.before.before.before

pub with_partial-requires : goal.with_partial-requires
with_partial-requires c = c.requires.a_in_bounds_2.1

pub offset_bounds-marks-j-in-loop-j : goal.offset_bounds-marks-j-in-loop-j
offset_bounds-marks-j-in-loop-j c = omega (arith, fifty c.before.before.before.before)

pub bounds-marks-j-in-loop-j : goal.bounds-marks-j-in-loop-j
bounds-marks-j-in-loop-j c = few c.before.before.before.before

pub scale-f-requires : goal.scale-f-requires
scale-f-requires c = c.requires.w_le_weight_top.0

pub overflow_add-e : goal.overflow_add-e
overflow_add-e c = omega (arith, room c.before.before.before.before)

pub overflow_add-e-in-loop-j : goal.overflow_add-e-in-loop-j
overflow_add-e-in-loop-j c = omega (arith, room c.before.before.before.before)

pub offset_bounds-sums-k : goal.offset_bounds-sums-k
offset_bounds-sums-k c = omega (arith, room c.before.before.before.before)

pub slice_bounds-add_times-start : goal.slice_bounds-add_times-start
slice_bounds-add_times-start c = omega (arith, room c.before.before.before.before)

pub slice_bounds-add_times-end : goal.slice_bounds-add_times-end
slice_bounds-add_times-end c = omega (arith, room c.before.before.before.before)

pub add_times-requires : goal.add_times-requires
add_times-requires c =
    let l = c.loop-j in record {
      part_in_bounds = rw (mid_len l.k (l.k + l.j + 1) l.sums (room c.before.before.before.before.before)) (omega arith);
      f_bound = rw (to_z-of_z w64 c.scale-f.result (search rules)) c.scale-f.ensures.1;
      within = part_within (plus c.args.sums.now (triangle_terms (pos c.args.w) c.args.a.now)) c.args.sums.now l.sums l.k (l.k + l.j + 1 - l.k) (2 ^ 62) (columns (pos c.args.w) c.args.a.now l.j (length c.args.a.now - l.j)) l.invariant.1.1 c.requires.within;
    }

pub loop-j-preserved : goal.loop-j-preserved
loop-j-preserved c =
    let l = c.loop-j in (
      omega arith,
      (
        omega (arith, tri_next l.j),
        columns_turn (pos c.args.w) c.args.a.now _ c.args.sums.now l.sums l.j l.k (to_z w64 (of_z w64 c.scale-f.result)) c.add_times.new.part
            (omega arith) (room c.before.before.before.before.before.before.before) (factor c.before.before.before.before.before) c.add_times.ensures l.invariant.1.1,
      ),
      marked c.args.row c.args.a.now c.args.marks.now l.marks l.j l.invariant.2 (omega arith) (omega (arith, c.requires.a_in_bounds_2.0)) _
          (c.with_partial.ensures ∙ ap (λ x. pick (is_zero x) (get_or l.marks l.j 0) (with_mark (get_or l.marks l.j 0) c.args.row)) (to_z-of_z w16 (get_or c.args.a.now l.j (pos 0)) (search rules))),
    )

pub shape_of-sums : goal.shape_of-sums
shape_of-sums c = c.loop-j.invariant.1.1.0

pub shape_of-marks : goal.shape_of-marks
shape_of-marks c = ap length c.loop-j.invariant.2 ∙ marks_length _ _ _

pub returns : goal.returns
returns c =
    let l = c.loop-j in record {
      sums_after = columns_end (pos c.args.w) c.args.a.now _ c.args.sums.now l.sums l.j l.k (omega arith) l.invariant.1.1;
      marks = l.invariant.2 ∙ ap (λ x. marks_with c.args.row x c.args.marks.now) (take_all l.j c.args.a.now (omega arith));
    }
