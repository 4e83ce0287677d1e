-- `take_judge::judge` meets its contract: one step for each test.
use Rattle.std.proofs.Common.{rules, arith, sym, ap, ◌∙◌}
use mir.Syntax.{w64}
use mir.ValLaws.{to_z-of_z}
use Rattle.num_whole.specs.Answer.{given}
use Rattle.take_rules.specs.Rules.{passes_edit}
use Rattle.take_judge.specs.Judged.{terms_by}
use Rattle.take_rules.proofs.Bounds.{scaled_bound}
use Rattle.take_judge.proofs.Late.{not_later, no_edit, full, taken}
use Rattle.take_judge.proofs.judge.Goals as goal

pub terms_of-requires : goal.terms_of-requires
terms_of-requires c =
    let x = c.args.x in
    let z = to_z-of_z w64 x.residual (search rules) in
    let edit = ap (passes_edit _ _ _) (sym z) ∙ sym c.passes_edit.ensures ∙ c.if-not-passes_edit.false in
    record {
      le_sigma = (c.requires.level_bound.1, c.requires.level_bound.2, c.requires.step_bound.1, rw z c.requires.level_bound.4);
      factor_bound = rw z (scaled_bound c.args.level x.sigma x.step x.factor x.residual c.requires.level_bound.0 c.requires.level_bound.3 edit);
    }

pub returns-then-x-last : goal.returns-then-x-last
returns-then-x-last c = not_later _ _ _ _ (omega arith)

pub returns-then-not-passes_edit : goal.returns-then-not-passes_edit
returns-then-not-passes_edit c =
    no_edit _ _ _ _ (omega arith) (ap (passes_edit _ _ _) (sym (to_z-of_z w64 _ (search rules))) ∙ sym c.passes_edit.ensures ∙ c.if-not-passes_edit.true)

pub returns-then-count-ge256 : goal.returns-then-count-ge256
returns-then-count-ge256 c =
    full _ _ _ _ (omega arith) (ap (passes_edit _ _ _) (sym (to_z-of_z w64 _ (search rules))) ∙ sym c.passes_edit.ensures ∙ c.if-not-passes_edit.false) (omega arith)

pub returns : goal.returns
returns c =
    let x = c.args.x in
    ap given (c.terms_of.ensures ∙ ap (λ z. terms_by x.sigma z x.factor) (to_z-of_z w64 x.residual (search rules)))
    ∙ taken _ _ _ _ (omega arith) (ap (passes_edit _ _ _) (sym (to_z-of_z w64 _ (search rules))) ∙ sym c.passes_edit.ensures ∙ c.if-not-passes_edit.false) (omega arith)
