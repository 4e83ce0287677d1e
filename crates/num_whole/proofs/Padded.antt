-- A list with a filling after it: its length, and that an array of one filling becomes it when elements are put from its front on.
-- Assumes nothing.
use Prim.Native.Nat.{ℕ, zero, suc, ◌-◌, ◌≤◌}
use mathlib.Core.Path.{◌≡◌, sym, ap, ◌∙◌}
use mathlib.Core.List.{List, ◌++◌}
use native.Mathlib.Omega.{arith}
use native.Mathlib.Nat.{sub-zero, zero-sub, zero-add, suc-sub-suc}
use lib.ListN.{length, drop, replicate, length-replicate, length-append}
use lib.Seq.{sets, sets-eq}
use Rattle.num_whole.specs.Lists.{padded}

pub length_padded : {A : Type 0} (n : ℕ) (d : A) (l : List A) → length l ≤ n → length (padded n d l) ≡ n
length_padded n d l h = length-append l _ ∙ simp length-replicate (omega arith)

drop_replicate : {A : Type 0} (k n : ℕ) (d : A) → drop k (replicate n d) ≡ replicate (n - k) d
drop_replicate zero n d = ap (λ m. replicate m d) (sym (sub-zero n))
drop_replicate (suc k) zero d = ap (λ m. replicate m d) (sym (zero-sub (suc k)))
drop_replicate (suc k) (suc n) d = drop_replicate k n d ∙ ap (λ m. replicate m d) (sym (suc-sub-suc n k))

-- elements put from its front on are a padded list
pub put_padded : {A : Type 0} (n : ℕ) (d : A) (l : List A) → length l ≤ n → sets (replicate n d) 0 l ≡ padded n d l
put_padded n d l h =
    let long : length (replicate n d) ≡ n = length-replicate n d in
    sets-eq l (replicate n d) 0 (omega arith)
    ∙ ap (λ r. l ++ r) (ap (λ k. drop k (replicate n d)) (zero-add (length l)) ∙ drop_replicate (length l) n d)
