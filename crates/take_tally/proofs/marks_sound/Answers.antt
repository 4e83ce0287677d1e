use mathlib.Core.Path.{◌≡◌, sym, ap, ◌∙◌, subst}
use mathlib.Core.Bool.{true, false, not}
use mathlib.Core.List.{List}
use Prim.Native.Nat.{ℕ, ◌<◌, ◌-◌, ◌^◌}
use native.Mathlib.Omega.{arith}
use native.Mathlib.Nat.{le_antisymm}
use lib.IntN.{ℤ}
use Rattle.num_whole.specs.Tests.{below, same, pick, both, less}
use Rattle.num_whole.proofs.Tables.{below_fails}
use Rattle.num_packed.specs.Sound.{entry, is_zero}
use Rattle.num_packed.proofs.Plain.{none_yet, one_more}
use Rattle.take_marks.specs.Parts.{heard_word, among_marks}
use Rattle.take_marks.proofs.Stations.{heard_so}
use Rattle.take_tally.specs.Tally.{mark_of, mark_sound, marks_sound}
use Rattle.take_tally.specs.Parts.{mark_good}
use Rattle.take_tally.specs.declared.Tally.{Tally}
use Rattle.take_tally.proofs.marks_sound.Lts
use Rattle.take_tally.proofs.marks_sound.Reads
use Rattle.take_tally.proofs.marks_sound.Tie
use Rattle.take_tally.proofs.marks_sound.Goals as goal

-- the facts known at one place of the code
abbrev At-After-mark_sound : Type 0
At-After-mark_sound = Lts.After-mark_sound Tie.the-claims Reads.Pre Reads.Post goal.the-invariant-loop-i goal.the-decreases-loop-i

-- judged at once or one by one, a parameter's marks are the same
same_test : (p : ℕ) (m : List ℤ) (t : Tally) (i : ℕ) → mark_of t i < 2 ^ 16 → (heard : ℕ) → heard ≡ heard_word t.counts 16 → mark_good p m i (mark_of t i) heard ≡ mark_sound p m t i
unfolding mark_good mark_sound
same_test p m t i small heard e =
    ap (λ b. pick (less i p) (pick (is_zero (entry m i i)) (same (mark_of t i) 0) (both (not (same (mark_of t i) 0)) b)) (same (mark_of t i) 0))
    (ap (among_marks (mark_of t i)) e ∙ heard_so t.counts (mark_of t i) small)

-- the test of parameter i, as the definition has it
tested : (c : At-After-mark_sound) → let a = c.args in
    mark_sound a.p a.matrix.now a.t c.loop-i.i ≡ c.mark_sound.result
tested c =
    let a = c.args in
    let h = c.heard-heard in
    sym (c.mark_sound.ensures.0 ∙ same_test a.p a.matrix.now a.t c.loop-i.i c.mark_sound.ensures.1 h.result h.ensures)

pub loop-i-init : goal.loop-i-init
loop-i-init c = (omega arith, none_yet _)

pub loop-i-preserved : goal.loop-i-preserved
loop-i-preserved c =
    let l = c.loop-i in
    (omega arith, one_more _ l.i l.invariant.1 (tested c.before ∙ c.if-not-mark_sound.false))

pub returns-then-not-mark_sound : goal.returns-then-not-mark_sound
unfolding marks_sound
returns-then-not-mark_sound c =
    let l = c.loop-i in
    sym (below_fails _ 50 l.i (omega arith) (tested c.before ∙ c.if-not-mark_sound.true))

pub returns : goal.returns
unfolding marks_sound
returns c =
    let l = c.loop-i in
    let a = c.args in
    sym (subst (λ n. below (mark_sound a.p a.matrix.now a.t) n ≡ true) (le_antisymm l.invariant.0 (omega arith)) l.invariant.1)
