-- How long a tally's bytes are, and that its parts, each laid where the last one ends, are the whole.
-- Assumes nothing.
use Prim.Native.Nat.{ℕ, ◌*◌}
use mathlib.Core.Path.{◌≡◌, ap, ◌∙◌}
use mathlib.Core.List.{List}
use lib.ListN.{length}
use Rattle.byte_words.specs.Words.{bytes_of, lay}
use Rattle.byte_words.proofs.Words.{lay_append, length_bytes_of}
use Rattle.byte_section.specs.Section.{encoded}
use Rattle.byte_section.proofs.Trips.{length_encoded}
use Rattle.take_tally.specs.declared.Row.{Row}
use Rattle.take_tally.specs.declared.Tally.{Tally}
use Rattle.call_tally.specs.Tally.{row_bytes, tally_bytes}

pub row_long : (w : Row) → length w.times ≡ 10 → length (row_bytes w) ≡ 80
unfolding row_bytes
row_long w e = length_encoded (bytes_of 8) 8 (length_bytes_of 8) w.times ∙ ap (λ n. n * 8) e

pub tally_laid : (t : Tally) (out : List ℕ) → length t.counts ≡ 16 → length (encoded row_bytes t.rows) ≡ 1280
    → lay (lay (lay (lay out 0 (bytes_of 8 t.square)) 8 (encoded (bytes_of 4) t.counts)) 72 (encoded row_bytes t.rows)) 1352 (encoded (bytes_of 2) t.marks)
    ≡ lay out 0 (tally_bytes t)
unfolding tally_bytes
tally_laid t out e rows =
    let long : length (encoded (bytes_of 4) t.counts) ≡ 64 = length_encoded (bytes_of 4) 4 (length_bytes_of 4) t.counts ∙ ap (λ n. n * 4) e in
    lay_append _ _ _ _ _ (simp rows) ∙ lay_append _ _ _ _ _ (simp long) ∙ lay_append _ _ _ _ _ (simp length_bytes_of)
