-- Document 01, 'Refusal numbers', and the refusals of document 02's requests: the number of each case.
use Rattle.std.specs.Prelude.{ℕ}
use Rattle.refusal.specs.declared.Refusal.{Refusal}
use Rattle.refusal.specs.declared.Refusal.TheVariants.{Short, Count, Surplus, Limits, Order, Unsound, NoStation, NoType, Sigma, Clock, Window, NotFinite, UnitLimits, NotLater, Edit, Full, Room, SharedArc, ManyArcs, ManyParameters, Unlike, Lacking, Early, NothingLeft, Closed, Falling}

abbrev pub number_of : Refusal → ℕ
number_of Short = 1
number_of Count = 2
number_of Surplus = 3
number_of Limits = 4
number_of Order = 5
number_of Unsound = 6
number_of NoStation = 10
number_of NoType = 11
number_of Sigma = 12
number_of Clock = 13
number_of Window = 14
number_of NotFinite = 15
number_of UnitLimits = 16
number_of NotLater = 17
number_of Edit = 18
number_of Full = 19
number_of Room = 20
number_of SharedArc = 21
number_of ManyArcs = 22
number_of ManyParameters = 23
number_of Unlike = 24
number_of Lacking = 25
number_of Early = 26
number_of NothingLeft = 27
number_of Closed = 28
number_of Falling = 29
