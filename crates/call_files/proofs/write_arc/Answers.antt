-- `call_files::write_arc` meets its contract: 20, 2, 20, or what is written for a heading by value.
use mathlib.Core.Path.{sym, ap, ◌∙◌}
use native.Mathlib.Omega.{arith}
use lib.ListN.{length}
use Rattle.arc_put.specs.Bytes.{allowed}
use Rattle.arc_write.specs.Write.{write_arc, arc_left_in}
use Rattle.call_files.proofs.Arcs.{arc_short, arc_many, arc_cut, arc_whole}
use Rattle.call_files.proofs.write_arc.Goals as goal

pub returns-then-b-lt16 : goal.returns-then-b-lt16
returns-then-b-lt16 c =
    let got = arc_short _ _ _ (omega arith) in record {
      result_value = got.0;
      left = got.1;
    }

pub returns : goal.returns
returns c =
    let a = c.args in
    let h = c.heading_in-h.ensures in
    let counted = ap (λ k. allowed k a.run.now) (sym h) ∙ sym c.is_allowed.ensures ∙ c.if-not-is_allowed.false in
    let there = sym c.has_heading.ensures ∙ c.if-not-has_heading.false in
    let put = arc_whole _ _ a.out.now (omega arith) counted there in record {
      result_value = c.write.ensures.answer ∙ ap (λ k. write_arc k a.run.now (length a.out.now)) h ∙ put.0;
      left = c.write.ensures.left ∙ ap (λ k. arc_left_in k a.run.now a.out.now) h ∙ put.1;
    }

pub returns-then-not-has_heading : goal.returns-then-not-has_heading
returns-then-not-has_heading c =
    let a = c.args in
    let h = c.heading_in-h.ensures in
    let counted = ap (λ k. allowed k a.run.now) (sym h) ∙ sym c.is_allowed.ensures ∙ c.if-not-is_allowed.false in let got = arc_cut _ _ _ (omega arith) counted (sym c.has_heading.ensures ∙ c.if-not-has_heading.true) in record {
      result_value = got.0;
      left = got.1;
    }

pub returns-then-not-is_allowed : goal.returns-then-not-is_allowed
returns-then-not-is_allowed c =
    let a = c.args in
    let h = c.heading_in-h.ensures in let got = arc_many _ _ _ (omega arith) (ap (λ k. allowed k a.run.now) (sym h) ∙ sym c.is_allowed.ensures ∙ c.if-not-is_allowed.true) in record {
      result_value = got.0;
      left = got.1;
    }
