-- `merge_put::join_labels` meets its contract: what is joined is the keys of both files.
use mathlib.Core.Path.{◌≡◌, refl}
use native.Mathlib.Nat.{le_trans}
use native.Mathlib.Omega.{arith}
use Prim.Native.Nat.{◌≤◌}
use lib.ListN.{length, take}
use Rattle.norm_labels.specs.Labels.{keys_of}
use Rattle.merge_put.specs.Parts.{system_in_file}
use Rattle.merge_put.proofs.Known.{Known, known}
use Rattle.merge_put.proofs.Loaded.{keys_part, part_long, keys_ascending, keys_room, labels_joined}
use Rattle.merge_put.proofs.join_labels.Lts
use Rattle.merge_put.proofs.join_labels.Reads
use Rattle.merge_put.proofs.join_labels.Tie
use Rattle.merge_put.proofs.join_labels.Goals as goal

-- the facts known at one place of the code
abbrev At-Start : Type 0
At-Start = Lts.Start Tie.the-claims Reads.Pre Reads.Post Tie.handed_clauses

-- the facts known at one place of the code
abbrev At-After-load_keys : Type 0
At-After-load_keys = Lts.After-load_keys Tie.the-claims Reads.Pre Reads.Post Tie.handed_clauses

-- the facts known at one place of the code
abbrev At-After-load_keys-2 : Type 0
At-After-load_keys-2 = Lts.After-load_keys2 Tie.the-claims Reads.Pre Reads.Post Tie.handed_clauses

kx : (c : At-Start) → Known c.args.a.now c.args.x
kx c = known _ _ c.requires.as_read.0

ky : (c : At-Start) → Known c.args.b.now c.args.y
ky c = known _ _ c.requires.as_read.1

-- the keys of each file, in the room that they were loaded into
ka_part : (c : At-After-load_keys) → let a = c.args in let room = c.load_keys.new.keys in (a.x.parameters ≤ length room) × (take a.x.parameters room ≡ keys_of (system_in_file a.a.now))
ka_part c = keys_part _ _ (kx c.before.before.before.before.before.before.before) _ _ refl c.load_keys.ensures

kb_part : (c : At-After-load_keys-2) → let a = c.args in let room = c.load_keys-2.new.keys in (a.y.parameters ≤ length room) × (take a.y.parameters room ≡ keys_of (system_in_file a.b.now))
kb_part c = keys_part _ _ (ky c.before.before.before.before.before.before.before.before.before.before.before) _ _ refl c.load_keys-2.ensures

pub overflow_mul-x : goal.overflow_mul-x
overflow_mul-x c = omega (arith, (kx c.before.before.before.before.before.before).few_arcs)

pub overflow_add-x : goal.overflow_add-x
overflow_add-x c = omega (arith, (kx c.before.before.before.before.before.before).few_arcs)

pub load_keys-requires : goal.load_keys-requires
load_keys-requires c =
    ((kx c.before.before.before.before.before.before.before).labels_end, (kx c.before.before.before.before.before.before.before).few_labels)

pub overflow_mul-y : goal.overflow_mul-y
overflow_mul-y c = omega (arith, (ky c.before.before.before.before.before.before.before.before.before.before).few_arcs)

pub overflow_add-y : goal.overflow_add-y
overflow_add-y c = omega (arith, (ky c.before.before.before.before.before.before.before.before.before.before).few_arcs)

pub load_keys-requires-2 : goal.load_keys-requires-2
load_keys-requires-2 c =
    ((ky c.before.before.before.before.before.before.before.before.before.before.before).labels_end, (ky c.before.before.before.before.before.before.before.before.before.before.before).few_labels)

pub slice_bounds-ka-end : goal.slice_bounds-ka-end
slice_bounds-ka-end c = (ka_part c.before.before.before.before.before.before).0

pub slice_bounds-join-end : goal.slice_bounds-join-end
slice_bounds-join-end c = part_long _ _ (ka_part c.before.before.before.before.before.before.before).0

pub slice_bounds-kb-end : goal.slice_bounds-kb-end
slice_bounds-kb-end c = (kb_part c.before.before.before).0

pub slice_bounds-join-end-2 : goal.slice_bounds-join-end-2
slice_bounds-join-end-2 c = part_long _ _ (kb_part c.before.before.before.before).0

pub join-requires : goal.join-requires
join-requires c =
    let p = ka_part c.before.before.before.before.before.before.before.before.before.before in let q = kb_part c.before.before.before.before.before.before in let k = kx c.before.before.before.before.before.before.before.before.before.before.before.before.before.before.before.before.before in let l = ky c.before.before.before.before.before.before.before.before.before.before.before.before.before.before.before.before.before in
    let room = keys_room _ _ k _ _ l _ _ p.1 q.1 in record {
      xs_value = keys_ascending _ _ k _ _ l _ _ p.1 q.1;
      ys_in_bounds = le_trans room c.requires.in_bounds.0;
      ys_in_bounds_2 = le_trans room c.requires.in_bounds.1;
    }

pub returns : goal.returns
returns c =
    let p = ka_part c.before.before.before.before.before.before.before.before.before.before.before.before.before.before.before in let q = kb_part c.before.before.before.before.before.before.before.before.before.before.before in let k = kx c.before.before.before.before.before.before.before.before.before.before.before.before.before.before.before.before.before.before.before.before.before.before in let l = ky c.before.before.before.before.before.before.before.before.before.before.before.before.before.before.before.before.before.before.before.before.before.before in
    let room = keys_room _ _ k _ _ l _ _ p.1 q.1 in
    labels_joined _ _ _ _ _ _ _ _ _ p.1 q.1 (le_trans room c.requires.in_bounds.0) (le_trans room c.requires.in_bounds.1) c.join.ensures
