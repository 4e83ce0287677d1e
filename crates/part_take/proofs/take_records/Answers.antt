-- `part_take::take_records` meets its contract: the first record in a room of one, the others in the rest.
use native.Mathlib.Omega.{arith}
use Prim.Native.Nat.{◌≤◌}
use mathlib.Core.Path.{sym}
use lib.ListN.{length, take}
use lib.Seq.{length-take-le}
use Rattle.take_state.specs.State.{state_of}
use Rattle.take_laws.proofs.Guarded.{Held}
use Rattle.part_take.proofs.Taken.{one_none, others_none, two_states, two_answers, two_room}
use Rattle.part_take.proofs.take_records.Lts
use Rattle.part_take.proofs.take_records.Reads
use Rattle.part_take.proofs.take_records.Tie
use Rattle.part_take.proofs.take_records.Goals as goal

-- the facts known at one place of the code
abbrev At-Start : Type 0
At-Start = Lts.Start Tie.the-claims Reads.Pre Reads.Post Tie.handed_clauses

-- a sound state, in arrays that are whole
held : (c : At-Start) → Held c.args.h (state_of c.args.matrix.now c.args.rights.now c.args.t)
held c =
    record {
      number = c.requires.t_value;
      counts = c.well_formed.1.0.1.1.1.0.1.0.1;
      rows = c.well_formed.1.0.1.1.1.1.0.1.0.1;
      marks = c.well_formed.1.0.1.1.1.1.1.0.1.0.1;
    }

single : (c : At-Start) → 1 ≤ length (take 1 c.args.answers.now)
single c = rw (length-take-le 1 c.args.answers.now (omega (arith, c.requires.one_len.2))) (omega arith)

pub slice_bounds-run_sound-end-2 : goal.slice_bounds-run_sound-end-2
slice_bounds-run_sound-end-2 c = sym (length-take-le 1 c.args.answers.now (omega (arith, c.requires.one_len.2)))

pub run_sound-u-requires : goal.run_sound-u-requires
run_sound-u-requires c =
    let a = c.args in one_none a.h a.one.now a.run.now a.n _ (held c.before.before.before.before.before.before.before) c.requires.one_len.0 c.requires.one_len.1 _ (single c.before.before.before.before.before.before.before)

pub run_sound-requires : goal.run_sound-requires
run_sound-requires c =
    let a = c.args in let o = c.run_sound-u in
    others_none a.h a.one.now a.run.now a.n _ (held c.before.before.before.before.before.before.before.before.before.before.before.before.before.before.before) c.requires.one_len.0 c.requires.one_len.1 _ _ _ (single c.before.before.before.before.before.before.before.before.before.before.before.before.before.before.before) (two_room a.h a.one.now a.run.now a.n _ (held c.before.before.before.before.before.before.before.before.before.before.before.before.before.before.before) c.requires.one_len.0 c.requires.one_len.1 a.answers.now _ c.requires.one_len.2 o.ensures.told) o.ensures.state

pub returns : goal.returns
returns c =
    let a = c.args in
    let v = held c.before.before.before.before.before.before.before.before.before.before.before.before.before.before.before.before.before.before.before.before in
    let one = c.run_sound-u in
    let two = c.run_sound in record {
      state = two_states a.h a.one.now a.run.now a.n _ v c.requires.one_len.0 c.requires.one_len.1 _ _ _ _ (single c.before.before.before.before.before.before.before.before.before.before.before.before.before.before.before.before.before.before.before.before) (two_room a.h a.one.now a.run.now a.n _ v c.requires.one_len.0 c.requires.one_len.1 a.answers.now _ c.requires.one_len.2 one.ensures.told) one.ensures.state two.ensures.state;
      told = two_answers a.h a.one.now a.run.now a.n _ v c.requires.one_len.0 c.requires.one_len.1 a.answers.now _ _ _ _ c.requires.one_len.2 (single c.before.before.before.before.before.before.before.before.before.before.before.before.before.before.before.before.before.before.before.before) one.ensures.state one.ensures.told two.ensures.told;
    }
