-- `num_packed::first_unsound` meets its contract: where the bounds alone judge, the walk would find nothing.
use mathlib.Core.Path.{◌≡◌, sym, ap, ◌∙◌, subst}
use mathlib.Core.Bool.{true}
use mir.Syntax.{w64}
use mir.ValLaws.{to_z-of_z}
use Rattle.num_whole.specs.Tests.{below}
use Rattle.num_packed.specs.Sound.{breaks}
use Rattle.num_packed.specs.Found.{columns_from}
use Rattle.num_packed.specs.Plain.{within_at}
use Rattle.num_packed.proofs.Plain.{plain_sound}
use Rattle.num_packed.proofs.first_unsound.Goals as goal

pub returns-then-all_within : goal.returns-then-all_within
returns-then-all_within c =
    let n = c.triangle-n.ensures.0 in
    let b = to_z-of_z w64 c.args.bound c.ranges.bound in
    let small = sym c.all_within.ensures ∙ c.if-all_within.true in
    sym (plain_sound c.args.bound c.args.s.now c.args.p (sym c.all_seen.ensures ∙ c.if-all_seen.true)
    (subst (λ m. below (within_at c.args.bound c.args.s.now) m ≡ true) n (subst (λ z. below (within_at z c.args.s.now) c.triangle-n.result ≡ true) b small)))

pub returns : goal.returns
returns c =
    let s = c.args in
    c.walk.ensures ∙ ap (λ z. columns_from (breaks z s.s.now) 0 s.p) (to_z-of_z w64 s.bound c.ranges.bound)
