-- What each label of two systems is, each label of the merged system is. Two that may be merged have at most sixteen arcs together.
-- Assumes nothing.
use mathlib.Core.Path.{sym, subst}
use mathlib.Core.List.{List, [], ◌∷◌, map}
use mathlib.Core.Bool.{Bool, true, false}
use Prim.Native.Nat.{ℕ, zero, suc, ◌+◌, ◌≤◌}
use native.Mathlib.Omega.{arith}
use lib.ListN.{length, get_or}
use Rattle.num_whole.specs.Tests.{pick}
use Rattle.num_whole.specs.Lists.{Each}
use Rattle.norm_system.specs.System.{System, has}
use Rattle.norm_system.specs.declared.NormalLabel.{NormalLabel}
use Rattle.norm_system.proofs.Sound.{SoundSystem}
use Rattle.merge_join.specs.Join.{union}
use Rattle.merge_join.proofs.Shared.{union_full}
use Rattle.norm_labels.specs.Labels.{keys_of, no_normal_label, label_by_key}
use Rattle.merge_laws.specs.Merge.{carried, merged_of}
use Rattle.merge_laws.proofs.Merged.{merged_labels}
use Rattle.merge_laws.proofs.Numbers.{Mergeable}
use Rattle.norm_labels.proofs.Values.{arcs_in_order}

-- ---- what each label of both systems is, and what stands past them, each label of the merged system is
each_get : {A : Type 0} (P : A → Type 0) (d : A) → P d → (l : List A) → Each P l → (i : ℕ) → P (get_or l i d)
each_get P d h [] p i = h
each_get P d h (a ∷ l) p zero = p.0
each_get P d h (a ∷ l) p (suc i) = each_get P d h l p.1 i

each_map : {A : Type 0} (P : A → Type 0) (f : ℕ → A) → ((k : ℕ) → P (f k)) → (l : List ℕ) → Each P (map f l)
each_map P f h [] = tt
each_map P f h (k ∷ l) = (h k, each_map P f h l)

either_way : {A : Type 0} (P : A → Type 0) (b : Bool) {x y : A} → P x → P y → P (pick b x y)
unfolding pick
either_way P true p q = p
either_way P false p q = q

pub merged_each : (P : NormalLabel → Type 0) → P no_normal_label → (x y : System) → Each P x.labels → Each P y.labels → Each P (merged_of x y).labels
unfolding carried label_by_key
merged_each P h x y p q =
    subst (Each P) (sym (merged_labels x y))
    (each_map P (carried x y) (λ k. either_way P (has k (keys_of x)) (each_get P no_normal_label h x.labels p _) (each_get P no_normal_label h y.labels q _)) (union (keys_of x) (keys_of y)))

module _ (x y : System) (p : SoundSystem x) (q : SoundSystem y) (m : Mergeable x y) where
  pub arcs_together : length x.arcs + length y.arcs ≤ 16
  arcs_together =
      let full = union_full x.arcs y.arcs (arcs_in_order p) (arcs_in_order q) m.none_shared in
      omega (arith, m.arcs_fit)
