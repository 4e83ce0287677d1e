-- For the proofs of the code alone: no public promise and no law cites this, and an auditor may skip it.
-- What functions on rows ask of one: that it is as narrow as the table's are.
use Rattle.std.specs.Prelude.{◌^◌, ◌≤◌, nat_abs}
use Rattle.unit_types.specs.declared.TypeRow.{TypeRow}

pub record Narrow (r : TypeRow) : Type 0 where
  pub scale : r.k ≤ 52
  pub low : nat_abs r.low ≤ 2 ^ 40
  pub high : nat_abs r.high ≤ 2 ^ 40
