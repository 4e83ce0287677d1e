-- A text as its bytes. The texts of the listing are ASCII, so a character's code is its byte.
use Rattle.std.specs.Prelude.{ℕ, List, [], ◌∷◌}
use Prim.Native.Char.{code}
use Prim.Native.String.{String, [] as done, ◌∷◌ as ◌then◌}

abbrev pub ascii : String → List ℕ
ascii done = []
ascii (c then s) = code c ∷ ascii s
