use Prim.Native.Nat.{ℕ, ◌+◌, ◌-◌, ◌≤◌, ◌<◌}
use Rattle.refusal.specs.Told.{told_placed}
use mathlib.Core.Path.{◌≡◌, refl, sym, ap, ◌∙◌, subst}
use mathlib.Core.List.{List, ◌++◌}
use lib.IntN.{ℤ}
use Rattle.refusal.specs.Number.{number_of}
use native.Mathlib.Omega.{arith}
use lib.ListN.{length, take, drop, length-take, take-append-drop}
use lib.Seq.{take_all}
use borrow.Author.Rules.{rules}
use Rattle.std.specs.Prelude.{Result}
use Rattle.refusal.specs.declared.Fault.{Fault}
use Rattle.decimal.specs.Laid.{laid}
use Rattle.list_lines.specs.Lines.{refused_line}
use Rattle.list_run.specs.Runs.{listing}
use Rattle.list_run.specs.Course.{AfterBy}
use Rattle.list_run.specs.declared.Course.{Course}
use Rattle.list_run.proofs.Courses.{refused_so}
use Rattle.list.proofs.Listings.{part_next}
use Rattle.list.proofs.put_parts.Goals as goal

-- what a part was answered, of the bytes up to its end
told_at : (file : List ℕ) (at k : ℕ) {q : Result (Unit {0}) Fault} (r : Result (Unit {0}) Fault) (c : Course) (m s : List ℤ) (table : List ℕ) → q ≡ r
    → AfterBy (told_placed q) (take at file ++ take (at + k - at) (drop at file)) c m s table → AfterBy (told_placed r) (take (at + k) file) c m s table
told_at file at k r c m s table e v =
    subst (λ z. AfterBy (told_placed r) z c m s table) (part_next file at k)
    (subst (λ z. AfterBy (told_placed z) (take at file ++ take (at + k - at) (drop at file)) c m s table) e v)

pub loop-at-init : goal.loop-at-init
loop-at-init c = (omega arith, refl, c.begin-c.auto.matrix ∙ c.requires.0, c.begin-c.auto.rights ∙ c.requires.1, refl, c.begin-c.ensures)

pub overflow_add-e : goal.overflow_add-e
overflow_add-e c =
    let h : c.loop-at.at + c.least.result ≤ length c.args.file.now = omega (arith, c.least.ensures) in
    search rules

pub slice_bounds-hear-end : goal.slice_bounds-hear-end
slice_bounds-hear-end c = omega (arith, c.least.ensures)

pub hear-x-requires : goal.hear-x-requires
hear-x-requires c =
    let l = c.loop-at in
    ((_, l.invariant.5), simp length-take (omega (arith, c.least.ensures)))

pub loop-at-smaller : goal.loop-at-smaller
loop-at-smaller c = omega (arith, c.least.ensures, c.loop-at-test.true)

pub loop-at-preserved : goal.loop-at-preserved
loop-at-preserved c =
    let l = c.loop-at in (
      omega (arith, c.least.ensures),
      l.invariant.1,
      c.hear-x.auto.matrix ∙ l.invariant.2,
      c.hear-x.auto.rights ∙ l.invariant.3,
      c.hear-x.auto.table ∙ l.invariant.4,
      told_at c.args.file.now c.loop-at.at c.least.result _ c.hear-x.result.course c.hear-x.new.matrix c.hear-x.new.rights c.hear-x.new.table c.in-Ok.is (c.hear-x.ensures _ c.loop-at.invariant.5),
    )

pub shape_of-room-in-Err : goal.shape_of-room-in-Err
shape_of-room-in-Err c = c.put_fault.auto.room ∙ ap length c.loop-at.invariant.1

pub shape_of-matrix-in-Err : goal.shape_of-matrix-in-Err
shape_of-matrix-in-Err c = c.hear-x.auto.matrix ∙ c.loop-at.invariant.2 ∙ sym c.requires.0

pub shape_of-rights-in-Err : goal.shape_of-rights-in-Err
shape_of-rights-in-Err c = c.hear-x.auto.rights ∙ c.loop-at.invariant.3 ∙ sym c.requires.1

pub shape_of-table-in-Err : goal.shape_of-table-in-Err
shape_of-table-in-Err c = c.hear-x.auto.table ∙ c.loop-at.invariant.4

pub returns-in-Err : goal.returns-in-Err
returns-in-Err c =
    let l = c.loop-at in
    let a = c.args in let e = l.at + c.least.result in
    c.put_fault.ensures
    ∙ ap (λ r. laid r 0 (refused_line (number_of c.in-Err.fault.why) c.in-Err.fault.place)) l.invariant.1
    ∙ ap (laid a.room.now 0)
    (refused_so (take e a.file.now) (drop e a.file.now) _ _ (told_at c.args.file.now c.loop-at.at c.least.result _ c.hear-x.result.course c.hear-x.new.matrix c.hear-x.new.rights c.hear-x.new.table c.in-Err.is (c.hear-x.ensures _ c.loop-at.invariant.5)) ∙ ap listing (take-append-drop e a.file.now))

pub put_text-requires : goal.put_text-requires
put_text-requires c = let l = c.loop-at in ((_, l.invariant.5), l.invariant.2, l.invariant.3)

pub shape_of-room : goal.shape_of-room
shape_of-room c = c.put_text.auto.room ∙ ap length c.loop-at.invariant.1

pub shape_of-matrix : goal.shape_of-matrix
shape_of-matrix c = c.loop-at.invariant.2 ∙ sym c.requires.0

pub shape_of-rights : goal.shape_of-rights
shape_of-rights c = c.loop-at.invariant.3 ∙ sym c.requires.1

pub shape_of-table : goal.shape_of-table
shape_of-table c = c.loop-at.invariant.4

pub returns : goal.returns
returns c =
    let l = c.loop-at in let a = c.args in
    c.put_text.ensures _ l.invariant.5
    ∙ ap (λ r. laid r 0 (listing (take l.at a.file.now))) l.invariant.1 ∙ ap (λ s. laid a.room.now 0 (listing s)) (take_all l.at a.file.now (omega (arith, c.loop-at-test.false)))
