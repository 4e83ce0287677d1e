-- `merge_read::load_keys` meets its contract. The loop's invariant: what is left to put makes the whole.
use mathlib.Core.Path.{◌≡◌}
use Prim.Native.Nat.{◌+◌, ◌*◌, ◌-◌}
use lib.ListN.{length}
use Rattle.byte_words.specs.Words.{lay}
use Rattle.byte_words.specs.Stands.{stands}
use Rattle.merge_read.specs.Read.{key_at, keys_at}
use Rattle.merge_read.proofs.load_keys.Given as goal

abbrev pub invariant-loop-i : goal.invariant-loop-i
invariant-loop-i l =
    (length l.keys ≡ length l.initial.keys)
    × (lay l.initial.keys 0 (keys_at l.s l.start l.n) ≡ lay l.keys l.i (stands (key_at l.s) 24 (l.n - l.i) (l.start + 24 * l.i)))
