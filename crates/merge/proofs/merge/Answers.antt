-- `merge::merge` meets its contract: a file that is refused is named, and two that were read are merged.
use Rattle.std.specs.Prelude.{Err}
use borrow.Author.Rules.{rules}
use mathlib.Core.Path.{◌≡◌, sym, ap, ◌∙◌}
use Rattle.refusal.specs.Told.{told_placed}
use Rattle.norm_read.proofs.Told.{told_bad}
use Rattle.merge_put.proofs.Known.{taken}
use Rattle.merge.specs.Files.{told_merge}
use Rattle.merge.specs.declared.MergeRefusal.TheVariants.{First, Second}
use Rattle.merge.proofs.Outcomes.{kept_ok, kept_err, first_bad, second_bad, both_taken}
use Rattle.merge.proofs.merge.Goals as goal

pub returns-in_err-x : goal.returns-in_err-x
returns-in_err-x c =
    let p : c.from_residual.result ≡ Err c.in_err-x.field-0.0 = search rules in
    let k = kept_err _ _ _ c.in_err-x.ensures.cases in
    let is : c.in_err-x.field-0.0 ≡ First k.0 = search rules in
    let e = first_bad _ _ _ _ c.args.out.now (told_bad _ (sym c.read.ensures ∙ ap told_placed k.1)) in
    (ap told_merge (p ∙ ap Err is) ∙ e.0, e.1)

pub returns-in_err-y : goal.returns-in_err-y
returns-in_err-y c =
    let p : c.from_residual-in_err-y.result ≡ Err c.in_err-y.field-0.0 = search rules in
    let k = kept_err _ _ _ c.in_err-y.ensures.cases in
    let is : c.in_err-y.field-0.0 ≡ Second k.0 = search rules in
    let x = taken _ _ (sym c.read.ensures ∙ ap told_placed (kept_ok _ _ _ c.in_ok-x.ensures.cases)) in
    let e = second_bad _ _ _ _ _ c.args.out.now x.is (told_bad _ (sym c.read-2.ensures ∙ ap told_placed k.1)) in
    (ap told_merge (p ∙ ap Err is) ∙ e.0, e.1)

pub merge_read-requires : goal.merge_read-requires
merge_read-requires c = (
  taken _ _ (sym c.read.ensures ∙ ap told_placed (kept_ok _ _ _ c.in_ok-x.ensures.cases)),
  taken _ _ (sym c.read-2.ensures ∙ ap told_placed (kept_ok _ _ _ c.in_ok-y.ensures.cases)),
)

pub returns : goal.returns
returns c =
    let x = taken _ _ (sym c.read.ensures ∙ ap told_placed (kept_ok _ _ _ c.in_ok-x.ensures.cases)) in
    let y = taken _ _ (sym c.read-2.ensures ∙ ap told_placed (kept_ok _ _ _ c.in_ok-y.ensures.cases)) in
    both_taken _ _ _ _ _ _ _ x y c.merge_read.ensures
