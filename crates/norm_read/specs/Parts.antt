-- For the proofs of the code alone: no public promise and no law cites this, and an auditor may skip it.
-- What the reader of a normal file tells in the end, in the parts that the code has, all in numbers.
use Rattle.std.specs.Prelude.{ℕ, ◌+◌, ◌*◌, List}
use Rattle.num_whole.specs.Answer.{Judged, good, bad}
use Rattle.norm_system.specs.System.{Where, nowhere, in_matrix, in_rights, in_accepted, in_square}
use Rattle.norm_walk.specs.Walk.{unsound_at}
use Rattle.norm_heads.specs.declared.HeadsRead.{HeadsRead}
use Rattle.norm_sections.specs.declared.Places.{Places}
use Rattle.norm_read.specs.declared.NormalRead.{NormalRead}

abbrev pub places_in : NormalRead → Places
places_in r = record { matrix = r.matrix; rights = r.rights; totals = r.totals }

abbrev pub numbers_from : HeadsRead → Places → NormalRead
numbers_from h x =
    record {
      arcs = h.arcs;
      parameters = h.parameters;
      stored = h.stored;
      is_small = h.is_small;
      matrix = x.matrix;
      rights = x.rights;
      totals = x.totals;
    }

-- 6 at the first unsound sum
unfoldable pub judged_where : NormalRead → Where → Judged NormalRead
judged_where r nowhere = good r
judged_where r (in_matrix k) = bad 6 (r.matrix + 8 * k)
judged_where r (in_rights k) = bad 6 (r.rights + 8 * k)
judged_where r in_accepted = bad 6 r.totals
judged_where r in_square = bad 6 (r.totals + 8)

unfoldable pub judged_sums : List ℕ → NormalRead → Judged NormalRead
judged_sums s r = judged_where r (unsound_at r.is_small s r.arcs r.stored r.matrix r.rights r.totals)
