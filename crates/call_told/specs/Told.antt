-- What an entry for an arc file in parts told, in numbers.
use Rattle.std.specs.Prelude.{ℕ, List, [], ◌∷◌, Bool, true, false}
use Rattle.num_whole.specs.Tests.{up_to}
use Rattle.num_whole.specs.Lists.{over}
use Rattle.arc_heading.specs.declared.Heading.{Heading}
use Rattle.call_heading.specs.Lent.{heading_long}
use Rattle.part_laws.specs.Entries.{Told, took, stopped, broken}

-- ---- an answer in numbers: 0 or the refusal; in the room for two numbers the records, and the place of a refusal in the file's form, else 0
unfoldable pub told_number : Told → ℕ
told_number (took n) = 0
told_number (stopped k) = k
told_number (broken k place n) = k

unfoldable pub told_out : Told → List ℕ → List ℕ
told_out (took n) out = over (n ∷ 0 ∷ []) out
told_out (stopped k) out = out
told_out (broken k place n) out = over (n ∷ place ∷ []) out

-- 28, 20 and 6 change nothing
unfoldable pub changes : Told → Bool
changes (took n) = true
changes (stopped k) = false
changes (broken k place n) = true

-- whether 0 is answered
unfoldable pub tells : Told → Bool
tells (took n) = true
tells (stopped k) = false
tells (broken k place n) = false

-- the number of all records taken, told with 0 too
abbrev pub with_all : ℕ → Told → Told
with_all n (took k) = took n
with_all n (stopped k) = stopped k
with_all n (broken k place m) = broken k place m

-- ---- a heading has room
unfoldable pub head_roomy : Heading → ℕ → Bool
head_roomy h room = up_to (heading_long h.parameters h.stations) room
