-- Document 01, 'Arc file': the blank heading, which goes with a refusal.
use Rattle.std.specs.Prelude.{replicate}
use Rattle.num_limits.specs.Capacities.{parameters_most, stations_most}
use Rattle.arc_limits.specs.Limits.{no_settings, no_label, no_station}
use Rattle.arc_heading.specs.declared.Heading.{Heading}

-- every field 0
abbrev pub blank_heading : Heading
blank_heading = record { settings = no_settings; parameters = 0; stations = 0; labels = replicate parameters_most no_label; listed = replicate stations_most no_station }
