-- `merge_put::put_file` meets its contract: the three parts, one after the other.
use mathlib.Core.Path.{refl}
use native.Mathlib.Omega.{arith}
use Rattle.merge_put.proofs.Known.{Known, known}
use Rattle.merge_put.proofs.Steps.{file_put}
use Rattle.merge_put.proofs.put_file.Lts
use Rattle.merge_put.proofs.put_file.Reads
use Rattle.merge_put.proofs.put_file.Tie
use Rattle.merge_put.proofs.put_file.Goals as goal

-- the facts known at one place of the code
abbrev At-Start : Type 0
At-Start = Lts.Start Tie.the-claims Reads.Pre Reads.Post Tie.handed_clauses

kx : (c : At-Start) → Known c.args.a.now c.args.x
kx c = known _ _ c.requires.as_read.0

ky : (c : At-Start) → Known c.args.b.now c.args.y
ky c = known _ _ c.requires.as_read.1

pub put_heads-requires : goal.put_heads-requires
put_heads-requires c =
    record {
      as_read = c.requires.as_read;
      arcs_fit = c.requires.arcs_fit;
      n_le_labels_most = (c.requires.b_value.1, omega arith);
    }

pub put_middle-requires : goal.put_middle-requires
put_middle-requires c =
    record {
      as_read = c.requires.as_read;
      b_value = (c.requires.b_value.0, c.requires.arcs_fit.1);
      n_in_bounds = omega arith;
    }

pub returns : goal.returns
returns c =
    file_put _ _ (kx c.before.before.before.before.before.before.before.before.before.before.before.before.before.before.before.before.before.before.before) _ _ (ky c.before.before.before.before.before.before.before.before.before.before.before.before.before.before.before.before.before.before.before) _ _ _ c.requires.arcs_fit.1 _ c.requires.arcs_fit.0 _ _ _ _ _ _ refl (omega (arith, c.triangle.ensures.0))
    c.put_heads.ensures c.put_middle.ensures c.put_last.ensures
