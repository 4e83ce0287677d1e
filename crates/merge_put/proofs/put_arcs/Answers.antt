-- `merge_put::put_arcs` meets its contract: the arcs of both files are joined, and written at the places of their union.
use mathlib.Core.Path.{◌≡◌, refl, ap₂, ◌∙◌}
use native.Mathlib.Omega.{arith}
use Prim.Native.Nat.{◌≤◌}
use lib.ListN.{length, take}
use Rattle.merge_join.specs.Join.{union}
use Rattle.merge_put.specs.Parts.{system_in_file}
use Rattle.merge_put.proofs.Known.{Known, known}
use Rattle.merge_put.proofs.Loaded.{arcs_part, part_long, arcs_ascend, arcs_room, arcs_short, arcs_within, arcs_somewhere, arcs_put}
use Rattle.merge_put.proofs.put_arcs.Lts
use Rattle.merge_put.proofs.put_arcs.Reads
use Rattle.merge_put.proofs.put_arcs.Tie
use Rattle.merge_put.proofs.put_arcs.Goals as goal

-- the facts known at one place of the code
abbrev At-Start : Type 0
At-Start = Lts.Start Tie.the-claims Reads.Pre Reads.Post Tie.handed_clauses

-- the facts known at one place of the code
abbrev At-After-load_arcs : Type 0
At-After-load_arcs = Lts.After-load_arcs Tie.the-claims Reads.Pre Reads.Post Tie.handed_clauses

-- the facts known at one place of the code
abbrev At-After-load_arcs-2 : Type 0
At-After-load_arcs-2 = Lts.After-load_arcs2 Tie.the-claims Reads.Pre Reads.Post Tie.handed_clauses

kx : (c : At-Start) → Known c.args.a.now c.args.x
kx c = known _ _ c.requires.as_read.0

ky : (c : At-Start) → Known c.args.b.now c.args.y
ky c = known _ _ c.requires.as_read.1

-- the arcs of each file, in the room that they were loaded into
us_part : (c : At-After-load_arcs) → let a = c.args in let room = c.load_arcs.new.arcs in (a.x.arcs ≤ length room) × (take a.x.arcs room ≡ (system_in_file a.a.now).arcs)
us_part c = arcs_part _ _ (kx c.before.before.before.before.before) _ _ refl c.load_arcs.ensures

vs_part : (c : At-After-load_arcs-2) → let a = c.args in let room = c.load_arcs-2.new.arcs in (a.y.arcs ≤ length room) × (take a.y.arcs room ≡ (system_in_file a.b.now).arcs)
vs_part c = arcs_part _ _ (ky c.before.before.before.before.before.before.before.before) _ _ refl c.load_arcs-2.ensures

pub load_arcs-requires : goal.load_arcs-requires
load_arcs-requires c =
    (omega (arith, (kx c.before.before.before.before.before).labels_end), (kx c.before.before.before.before.before).few_arcs)

pub load_arcs-requires-2 : goal.load_arcs-requires-2
load_arcs-requires-2 c =
    (omega (arith, (ky c.before.before.before.before.before.before.before.before).labels_end), (ky c.before.before.before.before.before.before.before.before).few_arcs)

pub slice_bounds-us-end : goal.slice_bounds-us-end
slice_bounds-us-end c = (us_part c.before.before.before.before.before).0

pub slice_bounds-join-end : goal.slice_bounds-join-end
slice_bounds-join-end c = part_long _ _ (us_part c.before.before.before.before.before.before).0

pub slice_bounds-vs-end : goal.slice_bounds-vs-end
slice_bounds-vs-end c = (vs_part c.before.before.before).0

pub slice_bounds-join-end-2 : goal.slice_bounds-join-end-2
slice_bounds-join-end-2 c = part_long _ _ (vs_part c.before.before.before.before).0

pub join-count-requires : goal.join-count-requires
join-count-requires c =
    let p = us_part c.before.before.before.before.before.before.before.before.before in let q = vs_part c.before.before.before.before.before.before in let k = kx c.before.before.before.before.before.before.before.before.before.before.before.before.before.before in let l = ky c.before.before.before.before.before.before.before.before.before.before.before.before.before.before in record {
      xs_value = arcs_ascend _ _ k _ _ l _ _ p.1 q.1;
      ys_in_bounds = arcs_room _ _ k _ _ l _ _ p.1 q.1;
      ys_in_bounds_2 = arcs_room _ _ k _ _ l _ _ p.1 q.1;
    }

pub slice_bounds-us-end-2 : goal.slice_bounds-us-end-2
slice_bounds-us-end-2 c = (us_part c.before.before.before.before.before.before.before.before.before.before.before.before.before).0

pub slice_bounds-put_arcs-end : goal.slice_bounds-put_arcs-end
slice_bounds-put_arcs-end c =
    part_long _ _ (us_part c.before.before.before.before.before.before.before.before.before.before.before.before.before.before).0

pub slice_bounds-vs-end-2 : goal.slice_bounds-vs-end-2
slice_bounds-vs-end-2 c = (vs_part c.before.before.before.before.before.before.before.before.before.before.before.before).0

pub slice_bounds-put_arcs-end-3 : goal.slice_bounds-put_arcs-end-3
slice_bounds-put_arcs-end-3 c = part_long _ _ (vs_part c.before.before.before.before.before.before.before.before.before.before.before.before.before).0

pub put_arcs-requires : goal.put_arcs-requires
put_arcs-requires c =
    let p = us_part c.before.before.before.before.before.before.before.before.before.before.before.before.before.before.before.before.before in let q = vs_part c.before.before.before.before.before.before.before.before.before.before.before.before.before.before in let k = kx c.before.before.before.before.before.before.before.before.before.before.before.before.before.before.before.before.before.before.before.before.before.before in let l = ky c.before.before.before.before.before.before.before.before.before.before.before.before.before.before.before.before.before.before.before.before.before.before in
    let room = arcs_room _ _ k _ _ l _ _ p.1 q.1 in
    let j = c.join-count.ensures in
    let within = arcs_within _ _ _ _ _ _ _ room room j in
    let count = j.count ∙ ap₂ (λ u v. length (union u v)) p.1 q.1 in record {
      short = arcs_short _ _ k _ _ l _ _ p.1 q.1;
      count_in_bounds = (within.0, within.1, omega (arith, count, c.requires.b_in_bounds));
      somewhere = arcs_somewhere _ _ _ _ _ _ _ room room j;
    }

pub returns : goal.returns
returns c =
    let p = us_part c.before.before.before.before.before.before.before.before.before.before.before.before.before.before.before.before.before.before.before.before in let q = vs_part c.before.before.before.before.before.before.before.before.before.before.before.before.before.before.before.before.before in let k = kx c.before.before.before.before.before.before.before.before.before.before.before.before.before.before.before.before.before.before.before.before.before.before.before.before.before in let l = ky c.before.before.before.before.before.before.before.before.before.before.before.before.before.before.before.before.before.before.before.before.before.before.before.before.before in
    let room = arcs_room _ _ k _ _ l _ _ p.1 q.1 in
    let j = c.join-count.ensures in
    arcs_put _ _ _ _ _ _ _ room room j _ _ p.1 q.1 _ _ _ c.put_arcs.ensures
