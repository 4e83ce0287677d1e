-- `merge_put::put_heads` meets its contract: two sections, one after the other.
use native.Mathlib.Omega.{arith}
use Rattle.merge_put.proofs.Known.{Known, known}
use Rattle.merge_put.proofs.Sums.{labels_somewhere}
use Rattle.merge_put.proofs.Steps.{heads_put}
use Rattle.merge_put.proofs.put_heads.Lts
use Rattle.merge_put.proofs.put_heads.Reads
use Rattle.merge_put.proofs.put_heads.Tie
use Rattle.merge_put.proofs.put_heads.Goals as goal

-- the facts known at one place of the code
abbrev At-Start : Type 0
At-Start = Lts.Start Tie.the-claims Reads.Pre Reads.Post Tie.handed_clauses

kx : (c : At-Start) → Known c.args.a.now c.args.x
kx c = known _ _ c.requires.as_read.0

ky : (c : At-Start) → Known c.args.b.now c.args.y
ky c = known _ _ c.requires.as_read.1

pub overflow_mul-x : goal.overflow_mul-x
overflow_mul-x c =
    omega (arith, (kx c.before.before.before.before.before.before.before.before.before.before.before.before.before.before.before.before.before.before.before.before).few_arcs)

pub overflow_add-x : goal.overflow_add-x
overflow_add-x c =
    omega (arith, (kx c.before.before.before.before.before.before.before.before.before.before.before.before.before.before.before.before.before.before.before.before).few_arcs)

pub overflow_mul-y : goal.overflow_mul-y
overflow_mul-y c =
    omega (arith, (ky c.before.before.before.before.before.before.before.before.before.before.before.before.before.before.before.before.before.before.before.before.before).few_arcs)

pub overflow_add-y : goal.overflow_add-y
overflow_add-y c =
    omega (arith, (ky c.before.before.before.before.before.before.before.before.before.before.before.before.before.before.before.before.before.before.before.before.before).few_arcs)

pub put_labels-requires : goal.put_labels-requires
put_labels-requires c =
    let k = kx c.before.before.before.before.before.before.before.before.before.before.before.before.before.before.before.before.before.before.before.before.before in
    let l = ky c.before.before.before.before.before.before.before.before.before.before.before.before.before.before.before.before.before.before.before.before.before in
    let j = c.requires.arcs_fit.1 in record {
      n_in_bounds = (k.labels_end, l.labels_end);
      count_in_bounds = (j.left_long, j.right_long, omega (arith, c.requires.n_le_labels_most.1));
      somewhere = labels_somewhere _ _ k _ _ l _ _ _ j;
    }

pub returns : goal.returns
returns c =
    heads_put _ _ (kx c.before.before.before.before.before.before.before.before.before.before.before.before.before.before.before.before.before.before.before.before.before.before.before.before) _ _ (ky c.before.before.before.before.before.before.before.before.before.before.before.before.before.before.before.before.before.before.before.before.before.before.before.before) _ _ _ c.requires.arcs_fit.1 _ c.requires.arcs_fit.0 _ _ _ _ _
    c.write_u32.ensures c.put_arcs.ensures c.write_u32-2.ensures c.put_labels.ensures
