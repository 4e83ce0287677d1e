-- Document 02, #106: "A new form sets the zero field of a parameter to 1 if seen and 2 if not, and stores matrix sums and right sides only for
-- seen ones, in the old order; the counts follow. The old form has 0 there throughout." A system in either form: its labels with their fields,
-- what is stored of it, and its bytes. "We want a move to the new form, a move back": the file of what a file holds, in a form.
use Rattle.std.specs.Prelude.{List, map, Bool, ℕ}
use Rattle.num_whole.specs.Tests.{pick}
use Rattle.num_packed.specs.Sound.{is_zero}
use Rattle.norm_system.specs.System.{System, key_of}
use Rattle.norm_system.specs.declared.NormalLabel.{NormalLabel}
use Rattle.norm_labels.specs.Labels.{value, on_labels}
use Rattle.norm_kinds.specs.Kinds.{Fielded, stored_of}
use Rattle.norm_kinds.specs.Bytes.{file_bytes}

-- "1 if seen and 2 if not": unseen is a diagonal of 0
unfoldable pub form_field : Bool → System → NormalLabel → ℕ
form_field small x l = pick small (pick (is_zero (value x (key_of l) (key_of l))) 2 1) 0

unfoldable pub form_fields : Bool → System → List Fielded
form_fields small x = map (λ l. record { label = l; field = form_field small x l }) x.labels

-- "stores matrix sums and right sides only for seen ones"
unfoldable pub form_stored : Bool → System → System
form_stored small x = on_labels (stored_of (form_fields small x)) x

unfoldable pub form_bytes : Bool → System → List ℕ
form_bytes small x = file_bytes (form_fields small x) (form_stored small x)
