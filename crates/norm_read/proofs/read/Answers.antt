-- `norm_read::read` meets its contract: the arcs and labels, the places of the sums, and their judgement.
use Rattle.std.specs.Prelude.{Err}
use borrow.Author.Rules.{rules}
use mathlib.Core.Path.{◌≡◌, sym, ap, ◌∙◌}
use Rattle.refusal.specs.Told.{told_placed}
use Rattle.norm_heads.proofs.Heads.{few_counts}
use Rattle.norm_sections.proofs.Plain.{sums_room}
use Rattle.norm_read.proofs.Parts.{heads_refused, sums_refused, sums_judged}
use Rattle.norm_read.proofs.read.Goals as goal

pub read_sums-requires : goal.read_sums-requires
read_sums-requires c = (few_counts _ _ (sym c.in_ok-arcs.ensures)).1

pub judge_sums-requires : goal.judge_sums-requires
judge_sums-requires c =
    record {
      arcs_le_arcs_most = few_counts _ _ (sym c.in_ok-arcs.ensures);
      room = sums_room _ _ _ _ (sym c.in_ok-matrix.ensures);
    }

pub returns : goal.returns
returns c = c.judge_sums.ensures ∙ sums_judged _ _ _ (sym c.in_ok-arcs.ensures) (sym c.in_ok-matrix.ensures)

pub returns-in_err-matrix : goal.returns-in_err-matrix
returns-in_err-matrix c =
    let e : c.from_residual-in_err-matrix.result ≡ Err c.in_err-matrix.field-0.0 = search rules in
    ap told_placed e ∙ sums_refused _ _ (sym c.in_ok-arcs.ensures) (sym c.in_err-matrix.ensures)

pub returns-in_err-arcs : goal.returns-in_err-arcs
returns-in_err-arcs c =
    let e : c.from_residual.result ≡ Err c.in_err-arcs.field-0.0 = search rules in
    ap told_placed e ∙ heads_refused _ (sym c.in_err-arcs.ensures)
