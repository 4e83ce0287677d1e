-- `refusal::number` meets its contract: in each arm the case is known, and its number by computation.
use mathlib.Core.Path.{sym, ap}
use Rattle.refusal.specs.Number.{number_of}
use Rattle.refusal.proofs.number.Goals as goal

pub returns-in-Short : goal.returns-in-Short
returns-in-Short c = ap number_of (sym c.in-Short.is)

pub returns-in-Count : goal.returns-in-Count
returns-in-Count c = ap number_of (sym c.in-Count.is)

pub returns-in-Surplus : goal.returns-in-Surplus
returns-in-Surplus c = ap number_of (sym c.in-Surplus.is)

pub returns-in-Limits : goal.returns-in-Limits
returns-in-Limits c = ap number_of (sym c.in-Limits.is)

pub returns-in-Order : goal.returns-in-Order
returns-in-Order c = ap number_of (sym c.in-Order.is)

pub returns-in-Unsound : goal.returns-in-Unsound
returns-in-Unsound c = ap number_of (sym c.in-Unsound.is)

pub returns-in-NoStation : goal.returns-in-NoStation
returns-in-NoStation c = ap number_of (sym c.in-NoStation.is)

pub returns-in-NoType : goal.returns-in-NoType
returns-in-NoType c = ap number_of (sym c.in-NoType.is)

pub returns-in-Sigma : goal.returns-in-Sigma
returns-in-Sigma c = ap number_of (sym c.in-Sigma.is)

pub returns-in-Clock : goal.returns-in-Clock
returns-in-Clock c = ap number_of (sym c.in-Clock.is)

pub returns-in-Window : goal.returns-in-Window
returns-in-Window c = ap number_of (sym c.in-Window.is)

pub returns-in-NotFinite : goal.returns-in-NotFinite
returns-in-NotFinite c = ap number_of (sym c.in-NotFinite.is)

pub returns-in-UnitLimits : goal.returns-in-UnitLimits
returns-in-UnitLimits c = ap number_of (sym c.in-UnitLimits.is)

pub returns-in-NotLater : goal.returns-in-NotLater
returns-in-NotLater c = ap number_of (sym c.in-NotLater.is)

pub returns-in-Edit : goal.returns-in-Edit
returns-in-Edit c = ap number_of (sym c.in-Edit.is)

pub returns-in-Full : goal.returns-in-Full
returns-in-Full c = ap number_of (sym c.in-Full.is)

pub returns-in-Room : goal.returns-in-Room
returns-in-Room c = ap number_of (sym c.in-Room.is)

pub returns-in-SharedArc : goal.returns-in-SharedArc
returns-in-SharedArc c = ap number_of (sym c.in-SharedArc.is)

pub returns-in-ManyArcs : goal.returns-in-ManyArcs
returns-in-ManyArcs c = ap number_of (sym c.in-ManyArcs.is)

pub returns-in-ManyParameters : goal.returns-in-ManyParameters
returns-in-ManyParameters c = ap number_of (sym c.in-ManyParameters.is)

pub returns-in-Unlike : goal.returns-in-Unlike
returns-in-Unlike c = ap number_of (sym c.in-Unlike.is)

pub returns-in-Lacking : goal.returns-in-Lacking
returns-in-Lacking c = ap number_of (sym c.in-Lacking.is)

pub returns-in-Early : goal.returns-in-Early
returns-in-Early c = ap number_of (sym c.in-Early.is)

pub returns-in-NothingLeft : goal.returns-in-NothingLeft
returns-in-NothingLeft c = ap number_of (sym c.in-NothingLeft.is)

pub returns-in-Closed : goal.returns-in-Closed
returns-in-Closed c = ap number_of (sym c.in-Closed.is)

pub returns-in-Falling : goal.returns-in-Falling
returns-in-Falling c = ap number_of (sym c.in-Falling.is)
