-- `merge_put::put_middle` meets its contract: the fronts of two rooms are the places of the labels whose sums are stored.
use mathlib.Core.Path.{◌≡◌}
use Prim.Native.Nat.{◌≤◌}
use native.Mathlib.Omega.{arith}
use lib.ListN.{length, take}
use Rattle.norm_labels.specs.Labels.{keys_of}
use Rattle.norm_labels.specs.Seats.{seats}
use Rattle.merge_join.specs.Join.{union}
use Rattle.merge_laws.proofs.Numbers.{mergeable}
use Rattle.merge_put.specs.Parts.{system_in_file, stored_in_file}
use Rattle.merge_put.proofs.Known.{Known, known}
use Rattle.merge_put.proofs.Loaded.{part_long}
use Rattle.merge_put.proofs.Sums.{left_found, right_found}
use Rattle.merge_put.proofs.put_middle.Lts
use Rattle.merge_put.proofs.put_middle.Reads
use Rattle.merge_put.proofs.put_middle.Tie
use Rattle.merge_put.proofs.put_middle.Goals as goal

-- the facts known at one place of the code
abbrev At-Start : Type 0
At-Start = Lts.Start Tie.the-claims Reads.Pre Reads.Post Tie.handed_clauses

-- the facts known at one place of the code
abbrev At-After-locate-p : Type 0
At-After-locate-p = Lts.After-locate Tie.the-claims Reads.Pre Reads.Post Tie.handed_clauses

-- the facts known at one place of the code
abbrev At-After-locate-q : Type 0
At-After-locate-q = Lts.After-locate2 Tie.the-claims Reads.Pre Reads.Post Tie.handed_clauses

kx : (c : At-Start) → Known c.args.a.now c.args.x
kx c = known _ _ c.requires.as_read.0

ky : (c : At-Start) → Known c.args.b.now c.args.y
ky c = known _ _ c.requires.as_read.1

few : (c : At-Start) → c.args.n ≤ 500
few c = omega (arith, c.requires.b_value.1.count, (mergeable _ _ c.requires.b_value.0).labels_fit)

-- the front of each room is the places of the labels whose sums the file stores
left_part : (c : At-After-locate-p) → let room = c.locate-p.new.t in let m = c.locate-p.result in (m ≤ length room) × (take m room ≡ seats (union (keys_of (system_in_file c.args.a.now)) (keys_of (system_in_file c.args.b.now))) (keys_of (stored_in_file c.args.a.now)))
left_part c =
    left_found _ _ (kx c.before.before.before.before.before.before.before.before) _ _ (ky c.before.before.before.before.before.before.before.before) _ _ _ c.requires.b_value.1 _ _ (few c.before.before.before.before.before.before.before.before) _ c.locate-p.ensures.0 c.locate-p.ensures.1

right_part : (c : At-After-locate-q) → let room = c.locate-q.new.t in let m = c.locate-q.result in (m ≤ length room) × (take m room ≡ seats (union (keys_of (system_in_file c.args.a.now)) (keys_of (system_in_file c.args.b.now))) (keys_of (stored_in_file c.args.b.now)))
right_part c =
    right_found _ _ (kx c.before.before.before.before.before.before.before.before.before.before.before.before) _ _ (ky c.before.before.before.before.before.before.before.before.before.before.before.before) _ _ _ c.requires.b_value.1 _ _ (few c.before.before.before.before.before.before.before.before.before.before.before.before) _ c.locate-q.ensures.0 c.locate-q.ensures.1

pub overflow_mul-x : goal.overflow_mul-x
overflow_mul-x c = omega (arith, (kx c.before.before.before.before.before.before.before).few_arcs)

pub overflow_add-x : goal.overflow_add-x
overflow_add-x c = omega (arith, (kx c.before.before.before.before.before.before.before).few_arcs)

pub locate-p-requires : goal.locate-p-requires
locate-p-requires c =
    ((kx c.before.before.before.before.before.before.before.before).labels_end, c.requires.b_value.1.left_long, few c.before.before.before.before.before.before.before.before)

pub overflow_mul-y : goal.overflow_mul-y
overflow_mul-y c = omega (arith, (ky c.before.before.before.before.before.before.before.before.before.before.before).few_arcs)

pub overflow_add-y : goal.overflow_add-y
overflow_add-y c = omega (arith, (ky c.before.before.before.before.before.before.before.before.before.before.before).few_arcs)

pub locate-q-requires : goal.locate-q-requires
locate-q-requires c =
    ((ky c.before.before.before.before.before.before.before.before.before.before.before.before).labels_end, c.requires.b_value.1.right_long, few c.before.before.before.before.before.before.before.before.before.before.before.before)

pub slice_bounds-ta-end : goal.slice_bounds-ta-end
slice_bounds-ta-end c = (left_part c.before.before.before.before.before.before.before).0

pub slice_bounds-put_added-end : goal.slice_bounds-put_added-end
slice_bounds-put_added-end c = part_long _ _ (left_part c.before.before.before.before.before.before.before.before).0

pub slice_bounds-tb-end : goal.slice_bounds-tb-end
slice_bounds-tb-end c = (right_part c.before.before.before.before).0

pub slice_bounds-put_added-end-2 : goal.slice_bounds-put_added-end-2
slice_bounds-put_added-end-2 c = part_long _ _ (right_part c.before.before.before.before.before).0

pub put_added-requires : goal.put_added-requires
put_added-requires c =
    record {
      as_read = c.requires.as_read;
      b_value = (c.requires.b_value.0, record { count = c.requires.b_value.1.count; left_are = (left_part c.before.before.before.before.before.before.before.before.before).1; right_are = (right_part c.before.before.before.before.before).1 });
      n_in_bounds = c.requires.n_in_bounds;
    }
