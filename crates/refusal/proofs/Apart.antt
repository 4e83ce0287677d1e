-- No two refusals share a number, so that a promise about the number fixes the case; and none has the number 0, which stands for 'nothing wrong'.
-- Assumes nothing.
use mathlib.Core.Path.{◌≡◌, refl, sym, ap, ◌∙◌}
use Prim.Native.Nat.{ℕ, ◌≤◌}
use native.Mathlib.Omega.{arith}
use lib.Dec.{eqb}
use Rattle.num_whole.specs.Tests.{pick}
use Rattle.refusal.specs.Number.{number_of}
use Rattle.refusal.specs.declared.Refusal.{Refusal}
use Rattle.refusal.specs.declared.Refusal.TheVariants.{Short, Count, Surplus, Limits, Order, Unsound, NoStation, NoType, Sigma, Clock, Window, NotFinite, UnitLimits, NotLater, Edit, Full, Room, SharedArc, ManyArcs, ManyParameters, Unlike, Lacking, Early, NothingLeft, Closed, Falling}

-- the case of a number
case_of : ℕ → Refusal
case_of n =
    pick (eqb n 1) Short
    (pick (eqb n 2) Count
    (pick (eqb n 3) Surplus
    (pick (eqb n 4) Limits
    (pick (eqb n 5) Order
    (pick (eqb n 6) Unsound
    (pick (eqb n 10) NoStation
    (pick (eqb n 11) NoType
    (pick (eqb n 12) Sigma
    (pick (eqb n 13) Clock
    (pick (eqb n 14) Window
    (pick (eqb n 15) NotFinite
    (pick (eqb n 16) UnitLimits
    (pick (eqb n 17) NotLater
    (pick (eqb n 18) Edit
    (pick (eqb n 19) Full
    (pick (eqb n 20) Room
    (pick (eqb n 21) SharedArc
    (pick (eqb n 22) ManyArcs
    (pick (eqb n 23) ManyParameters
    (pick (eqb n 24) Unlike
    (pick (eqb n 25) Lacking
    (pick (eqb n 26) Early
    (pick (eqb n 27) NothingLeft
    (pick (eqb n 28) Closed
    Falling))))))))))))))))))))))))

back : (r : Refusal) → case_of (number_of r) ≡ r
unfolding case_of pick
back Short = refl
back Count = refl
back Surplus = refl
back Limits = refl
back Order = refl
back Unsound = refl
back NoStation = refl
back NoType = refl
back Sigma = refl
back Clock = refl
back Window = refl
back NotFinite = refl
back UnitLimits = refl
back NotLater = refl
back Edit = refl
back Full = refl
back Room = refl
back SharedArc = refl
back ManyArcs = refl
back ManyParameters = refl
back Unlike = refl
back Lacking = refl
back Early = refl
back NothingLeft = refl
back Closed = refl
back Falling = refl

pub apart : (r s : Refusal) → number_of r ≡ number_of s → r ≡ s
apart r s e = sym (back r) ∙ ap case_of e ∙ back s

-- a number is from 1 to 29
pub spanned : (r : Refusal) → (1 ≤ number_of r) × (number_of r ≤ 29)
spanned Short = (omega arith, omega arith)
spanned Count = (omega arith, omega arith)
spanned Surplus = (omega arith, omega arith)
spanned Limits = (omega arith, omega arith)
spanned Order = (omega arith, omega arith)
spanned Unsound = (omega arith, omega arith)
spanned NoStation = (omega arith, omega arith)
spanned NoType = (omega arith, omega arith)
spanned Sigma = (omega arith, omega arith)
spanned Clock = (omega arith, omega arith)
spanned Window = (omega arith, omega arith)
spanned NotFinite = (omega arith, omega arith)
spanned UnitLimits = (omega arith, omega arith)
spanned NotLater = (omega arith, omega arith)
spanned Edit = (omega arith, omega arith)
spanned Full = (omega arith, omega arith)
spanned Room = (omega arith, omega arith)
spanned SharedArc = (omega arith, omega arith)
spanned ManyArcs = (omega arith, omega arith)
spanned ManyParameters = (omega arith, omega arith)
spanned Unlike = (omega arith, omega arith)
spanned Lacking = (omega arith, omega arith)
spanned Early = (omega arith, omega arith)
spanned NothingLeft = (omega arith, omega arith)
spanned Closed = (omega arith, omega arith)
spanned Falling = (omega arith, omega arith)

pub some : (r : Refusal) → 1 ≤ number_of r
some r = (spanned r).0

pub few : (r : Refusal) → number_of r ≤ 29
few r = (spanned r).1

pub not_none : (r : Refusal) → number_of r ≡ 0 → ⊥
not_none r e = omega (arith, some r)
