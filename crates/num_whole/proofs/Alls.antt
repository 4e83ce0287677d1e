-- `all` and std's `list_all` are the same test of a list.
-- Assumes nothing.
use Rattle.std.proofs.Common.{◌≡◌, List, [], ◌∷◌, Bool, true, false, ◌&&◌, refl}
use Rattle.std.specs.List.{list_all}
use Rattle.num_whole.specs.Tests.{both}
use Rattle.num_whole.specs.Lists.{all}

pub both_is_and : (a : Bool) {b c : Bool} → b ≡ c → (a && b) ≡ both a c
unfolding both
both_is_and true e = e
both_is_and false e = refl

pub list_all_is : {A : Type 0} (f : A → Bool) (l : List A) → list_all f l ≡ all f l
unfolding all
list_all_is f [] = refl
list_all_is f (x ∷ l) = both_is_and (f x) (list_all_is f l)
