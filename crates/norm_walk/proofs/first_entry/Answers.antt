use native.Mathlib.Omega.{arith}
use mathlib.Core.Path.{refl, ap, sym, ◌∙◌}
use Prim.Native.Nat.{◌+◌, ◌-◌}
use native.Mathlib.Nat.{sub-zero}
use mir.Syntax.{w64}
use mir.ValLaws.{to_z-of_z}
use Rattle.num_packed.proofs.Places.{tri_next, tri_within}
use Rattle.num_packed.specs.Found.{at, told_walked}
use Rattle.num_packed.proofs.Found.{first_end, first_here, first_on, columns_end, columns_here, columns_on}
use Rattle.norm_walk.proofs.first_entry.Invariants.{entries}
use Rattle.norm_walk.proofs.first_entry.Goals as goal

pub all-init : goal.all-init
all-init c = (omega arith, refl, rw sub-zero refl)

pub is_silent_at-is_silent-requires : goal.is_silent_at-is_silent-requires
is_silent_at-is_silent-requires c =
    let a = c.args in
    let j = c.all.j in record {
      j_lt_labels_most = omega arith;
      j_in_bounds = omega (arith, tri_next j, tri_within j a.p (omega arith));
    }

pub loop-i-init : goal.loop-i-init
loop-i-init c = (omega arith, refl, rw sub-zero refl)

pub is_broken-requires : goal.is_broken-requires
is_broken-requires c =
    let a = c.args in
    let j = c.all.j in record {
      i_le_j = omega arith;
      j_in_bounds = omega (arith, tri_next j, tri_within j a.p (omega arith));
      bound_bound = omega arith;
      by_index = c.is_silent_at-is_silent.ensures;
    }

pub loop-i-preserved : goal.loop-i-preserved
loop-i-preserved c =
    let l = c.loop-i in
    let j = c.all.j in
    let a = c.args in
    let o = c.least_of-least in
    let low = to_z-of_z w64 o.result (record { sfits = o.type_inv }) ∙ o.ensures in
    let test = sym (c.is_broken.ensures a.is_small _ low (omega (arith, tri_next j, tri_within j a.p (omega arith)))) ∙ c.if-is_broken.false in
    (omega arith, l.invariant.1, l.invariant.2 ∙ first_on (λ v. entries a.is_small a.s.now a.start a.p a.bound v j) (j + 1) l.i (omega arith) test)

pub all-preserved : goal.all-preserved
all-preserved c =
    let l = c.loop-i in
    let w = c.all in
    let a = c.args in
    let f = entries a.is_small a.s.now a.start a.p a.bound in
    (omega arith, l.invariant.1 ∙ w.invariant.1, w.invariant.2 ∙ columns_on f _ w.j (omega arith) (l.invariant.2 ∙ first_end (λ v. f v w.j) (w.j + 1) l.i (omega arith)))

pub returns-after-all : goal.returns-after-all
returns-after-all c =
    let w = c.all in
    ap told_walked w.invariant.1 ∙ sym (w.invariant.2 ∙ columns_end _ _ w.j (omega arith))

pub returns-then-is_broken : goal.returns-then-is_broken
returns-then-is_broken c =
    let l = c.loop-i in
    let w = c.all in
    let a = c.args in
    let o = c.least_of-least in
    let low = to_z-of_z w64 o.result (record { sfits = o.type_inv }) ∙ o.ensures in
    let test = sym (c.is_broken.ensures a.is_small _ low (omega (arith, tri_next w.j, tri_within w.j a.p (omega arith)))) ∙ c.if-is_broken.true in
    let f = entries a.is_small a.s.now a.start a.p a.bound in
    let found = l.invariant.2 ∙ first_here (λ v. f v w.j) (w.j + 1) l.i (omega arith) test in
    ap at c.place.ensures ∙ sym (w.invariant.2 ∙ columns_here f _ w.j (omega arith) l.i found)
