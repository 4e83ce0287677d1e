-- Document 01, 'Units' and the residual of 'Taking a record': where units count around one turn, T stands for 0, and a difference is
-- brought within half a turn.
use Rattle.std.specs.Prelude.{ℕ, ◌-◌, Bool, false, ℤ, pos, negsuc, neg_ℤ, ◌+ℤ◌, ◌-ℤ◌}
use Rattle.std.specs.Int.Signed.{lt_z}
use Rattle.num_whole.specs.Tests.{pick, same}
use Rattle.unit_types.specs.Types.{turn}
use Rattle.unit_types.specs.declared.TypeRow.{TypeRow}

-- ---- T and 0
-- "T stands for 0", for the types that count around a turn. "The limits and the half unit apply to q before T becomes 0."
unfoldable pub is_turn : ℤ → Bool
is_turn (pos n) = same n turn
is_turn (negsuc n) = false

unfoldable pub on_circle : TypeRow → ℤ → ℤ
on_circle r q = pick r.turns (pick (is_turn q) (pos 0) q) q

-- the greatest unit that becomes a double: "below T for types 7 and 9"
unfoldable pub top_of : TypeRow → ℤ
top_of r = pick r.turns (pos (turn - 1)) r.high

-- ---- observed minus computed
-- "for types 7 and 9 a turn is added or taken so that |r| ≤ 843,314,856"
abbrev pub half_turn : ℕ
half_turn = 843314856

unfoldable pub brought : ℤ → ℤ
brought r =
    pick (lt_z (pos half_turn) r) (r -ℤ pos turn)
    (pick (lt_z r (neg_ℤ (pos half_turn))) (r +ℤ pos turn) r)

unfoldable pub apart_by : TypeRow → ℤ → ℤ → ℤ
apart_by r o c = pick r.turns (brought (on_circle r o -ℤ on_circle r c)) (o -ℤ c)
