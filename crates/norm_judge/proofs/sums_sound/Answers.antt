-- `norm_judge::sums_sound` meets its contract, by what the walk finds.
use Rattle.std.specs.Prelude.{ℕ, Option, None, Some}
use borrow.Author.Rules.{rules}
use mathlib.Core.Path.{◌≡◌, sym, ap, ◌∙◌}
use Prim.Native.Nat.{◌^◌}
use lib.IntN.{pos}
use mir.Syntax.{w64}
use mir.Val.{to_z, of_z}
use mir.ValLaws.{to_z-of_z}
use Rattle.num_whole.specs.Tests.{both, either}
use Rattle.num_packed.specs.Sound.{breaks}
use Rattle.num_packed.specs.Found.{columns_from, told_walked}
use Rattle.norm_system.specs.System.{bound_of, sides_where, breaks_in, sums_where}
use Rattle.num_packed.proofs.Tests.{not_below}
use Rattle.norm_judge.proofs.Sums.{matrix_sound_lem, matrix_unsound}
use Rattle.norm_judge.proofs.sums_sound.Lts
use Rattle.norm_judge.proofs.sums_sound.Reads
use Rattle.norm_judge.proofs.sums_sound.Tie
use Rattle.norm_judge.proofs.sums_sound.Goals as goal

-- the facts known at one place of the code
abbrev At-After-bound_of-bound : Type 0
At-After-bound_of-bound = Lts.After-bound_of Tie.the-claims Reads.Pre Reads.Post Tie.handed_clauses

-- the facts known at one place of the code
abbrev At-After-first_unsound : Type 0
At-After-first_unsound = Lts.After-first_unsound Tie.the-claims Reads.Pre Reads.Post Tie.handed_clauses

value : (c : At-After-bound_of-bound) → to_z w64 (of_z w64 c.bound_of-bound.result) ≡ pos (bound_of c.args.arcs c.args.accepted (2 ^ 58))
value c = to_z-of_z w64 c.bound_of-bound.result (search rules) ∙ c.bound_of-bound.ensures

-- what the walk found, at the bound
found : (c : At-After-first_unsound) → let s = c.args in (w : Option ℕ) → c.first_unsound.result ≡ w
    → columns_from (breaks (pos (bound_of s.arcs s.accepted (2 ^ 58))) s.matrix.now) 0 s.p ≡ told_walked w
found c w e =
    let s = c.args in
    ap (λ b. columns_from (breaks b s.matrix.now) 0 s.p) (sym (value c.before)) ∙ sym c.first_unsound.ensures ∙ ap told_walked e

pub first_unsound-requires : goal.first_unsound-requires
first_unsound-requires c =
    record {
      p_le_labels_most = search rules;
      pos_bound = rw (value c) (not_below _);
    }

pub returns-in-None : goal.returns-in-None
unfolding sums_where sides_where breaks_in both either
returns-in-None c = c.sides_sound.ensures ∙ matrix_sound_lem _ _ _ _ (found c.before.before None c.in-None.is)

pub returns-in-Some : goal.returns-in-Some
unfolding sums_where sides_where breaks_in both either
returns-in-Some c = matrix_unsound _ _ _ _ _ (found c.before (Some _) c.in-Some.is)
