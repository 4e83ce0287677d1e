use mathlib.Core.Path.{◌≡◌, ap, ◌∙◌, subst}
use Prim.Native.Nat.{◌+◌, ◌-◌, ◌^◌}
use native.Mathlib.Omega.{arith}
use lib.ListN.{drop}
use mir.Syntax.{w64}
use mir.Val.{to_z, of_z}
use mir.ValLaws.{to_z-of_z}
use Rattle.num_whole.specs.Sums.{plus}
use Rattle.num_packed.specs.Triangle.{times}
use Rattle.take_add.proofs.Lists.{Adding, adding_starts, adding_small, adding_full, times_turn}
use Rattle.take_add.proofs.add_times.Lts
use Rattle.take_add.proofs.add_times.Reads
use Rattle.take_add.proofs.add_times.Tie
use Rattle.take_add.proofs.add_times.Goals as goal

-- the facts known at one place of the code
abbrev At-After-add_at-arg-in-loop-i-1 : Type 0
At-After-add_at-arg-in-loop-i-1 = Lts.After-add_at-arg2 Tie.the-claims Reads.Pre Reads.Post goal.the-invariant-loop-i goal.the-decreases-loop-i Tie.handed_clauses

-- the facts known at one place of the code
abbrev At-After-part-then-i-n-1 : Type 0
At-After-part-then-i-n-1 = Lts.After-part3 Tie.the-claims Reads.Pre Reads.Post goal.the-invariant-loop-i goal.the-decreases-loop-i Tie.handed_clauses

-- after the first place of a turn
first : (c : At-After-add_at-arg-in-loop-i-1) → let l = c.loop-i in let f = to_z w64 (of_z w64 c.args.f) in
    Adding (plus c.args.part.now (times f c.args.a.now)) c.args.part.now c.add_at.new.part (l.i + 1) (times f (drop (l.i + 1) c.args.a.now))
first c =
    let l = c.loop-i in
    times_turn (to_z w64 (of_z w64 c.args.f)) c.args.a.now _ c.args.part.now l.part c.add_at.new.part l.i (omega arith) (omega arith) c.add_at.ensures l.invariant.1

-- after the last place, where one is left
last : (c : At-After-part-then-i-n-1) → let l = c.loop-i in let f = to_z w64 (of_z w64 c.args.f) in
    Adding (plus c.args.part.now (times f c.args.a.now)) c.args.part.now c.add_at-then-i-n.new.part (l.i + 1) (times f (drop (l.i + 1) c.args.a.now))
last c =
    let l = c.loop-i in
    times_turn (to_z w64 (of_z w64 c.args.f)) c.args.a.now _ c.args.part.now l.part c.add_at-then-i-n.new.part l.i (omega arith) (omega arith) c.add_at-then-i-n.ensures l.invariant.1

pub loop-i-init : goal.loop-i-init
loop-i-init c = (omega arith, adding_starts c.args.part.now (times (to_z w64 (of_z w64 c.args.f)) c.args.a.now))

pub add_at-requires : goal.add_at-requires
add_at-requires c =
    let l = c.loop-i in record {
      i_in_bounds = (omega arith, omega arith);
      f_bound = (rw (to_z-of_z w64 c.args.f c.ranges.f) c.requires.f_bound, adding_small (2 ^ 62) _ c.args.part.now l.part l.i _ l.invariant.1 c.requires.within);
    }

pub add_at-requires-in-loop-i : goal.add_at-requires-in-loop-i
add_at-requires-in-loop-i c =
    let l = c.loop-i in record {
      i_in_bounds = (omega (arith, (first c).0), omega arith);
      f_bound = (rw (to_z-of_z w64 c.args.f c.ranges.f) c.requires.f_bound, adding_small (2 ^ 62) _ c.args.part.now c.add_at.new.part (l.i + 1) _ (first c) c.requires.within);
    }

pub loop-i-preserved : goal.loop-i-preserved
loop-i-preserved c =
    let l = c.loop-i in
    let f = to_z w64 (of_z w64 c.args.f) in
    let one = first c.before.before in
    let both = times_turn f c.args.a.now _ c.args.part.now c.add_at.new.part c.add_at-in-loop-i.new.part (l.i + 1) (omega arith) (omega (arith, one.0)) c.add_at-in-loop-i.ensures one in
    let next : l.i + 1 + 1 ≡ l.i + 2 = omega arith in
    (omega arith, subst (λ k. Adding (plus c.args.part.now (times f c.args.a.now)) c.args.part.now c.add_at-in-loop-i.new.part k (times f (drop k c.args.a.now))) next both)

pub add_at-requires-then-i-n : goal.add_at-requires-then-i-n
add_at-requires-then-i-n c =
    let l = c.loop-i in record {
      i_in_bounds = (omega arith, omega arith);
      f_bound = (rw (to_z-of_z w64 c.args.f c.ranges.f) c.requires.f_bound, adding_small (2 ^ 62) _ c.args.part.now l.part l.i _ l.invariant.1 c.requires.within);
    }

pub shape_of-part-then-i-n : goal.shape_of-part-then-i-n
shape_of-part-then-i-n c = (last c).0

pub returns-then-i-n : goal.returns-then-i-n
returns-then-i-n c =
    let l = c.loop-i in
    adding_full _ c.args.part.now c.add_at-then-i-n.new.part (l.i + 1) _ (omega (arith, (last c).0)) (last c)
    ∙ ap (λ f. plus c.args.part.now (times f c.args.a.now)) (to_z-of_z w64 c.args.f c.ranges.f)

pub shape_of-part-else-i-n : goal.shape_of-part-else-i-n
shape_of-part-else-i-n c = c.loop-i.invariant.1.0

pub returns-else-i-n : goal.returns-else-i-n
returns-else-i-n c =
    let l = c.loop-i in
    adding_full _ c.args.part.now l.part l.i _ (omega arith) l.invariant.1
    ∙ ap (λ f. plus c.args.part.now (times f c.args.a.now)) (to_z-of_z w64 c.args.f c.ranges.f)
