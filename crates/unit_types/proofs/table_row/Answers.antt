-- `unit_types::table_row` meets its contract: each arm has the row at its place in the list, and what no arm names is 1 or no type.
use mathlib.Core.Path.{sym, ap, ◌∙◌}
use Rattle.unit_types.specs.Types.{row_of_type}
use Rattle.unit_types.proofs.Rows.{past, other}
use Rattle.unit_types.proofs.table_row.Goals as goal

pub returns-in-2 : goal.returns-in-2
unfolding row_of_type
returns-in-2 c = c.metre_row.ensures ∙ sym (ap row_of_type c.in-2.is)

pub returns-in-3 : goal.returns-in-3
unfolding row_of_type
returns-in-3 c = c.angle_row.ensures ∙ sym (ap row_of_type c.in-3.is)

pub returns-in-4 : goal.returns-in-4
unfolding row_of_type
returns-in-4 c = c.angle_row-in-4.ensures ∙ sym (ap row_of_type c.in-4.is)

pub returns-in-5 : goal.returns-in-5
unfolding row_of_type
returns-in-5 c = c.angle_row-in-5.ensures ∙ sym (ap row_of_type c.in-5.is)

pub returns-in-6 : goal.returns-in-6
unfolding row_of_type
returns-in-6 c = c.angle_row-in-6.ensures ∙ sym (ap row_of_type c.in-6.is)

pub returns-in-7 : goal.returns-in-7
unfolding row_of_type
returns-in-7 c = c.angle_row-in-7.ensures ∙ sym (ap row_of_type c.in-7.is)

pub returns-in-8 : goal.returns-in-8
unfolding row_of_type
returns-in-8 c = c.angle_row-in-8.ensures ∙ sym (ap row_of_type c.in-8.is)

pub returns-in-9 : goal.returns-in-9
unfolding row_of_type
returns-in-9 c = c.angle_row-in-9.ensures ∙ sym (ap row_of_type c.in-9.is)

pub returns-in-10 : goal.returns-in-10
unfolding row_of_type
returns-in-10 c = c.angle_row-in-10.ensures ∙ sym (ap row_of_type c.in-10.is)

pub returns-in_default : goal.returns-in_default
returns-in_default c = c.metre_row-in_default.ensures ∙ other _ (past 2 c.args.kind 9 c.in_default.in_default-own.rest)
