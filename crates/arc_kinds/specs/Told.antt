-- For the proofs of the code alone: no public promise and no law cites this, and an auditor may skip it.
-- The settings section, the first of an arc file, and what the answers of reading one record say.
use Rattle.std.specs.Prelude.{ℕ, List}
use Rattle.num_whole.specs.Answer.{Judged, good, bad}
use Rattle.byte_section.specs.Section.{and_then, count_at, judged_at}
use Rattle.arc_limits.specs.declared.Settings.{Settings}
use Rattle.arc_limits.specs.declared.Label.{Label}
use Rattle.arc_limits.specs.declared.Station.{Station}
use Rattle.arc_kinds.specs.Kinds.{settings_kind}

-- the one record of the settings, after its count of four bytes
unfoldable pub settings_part : List ℕ → Judged Settings
settings_part s = and_then (count_at s 0 1 1) (λ n. judged_at settings_kind s 4 0)
