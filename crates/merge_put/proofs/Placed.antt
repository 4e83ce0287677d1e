-- The places in a union of the labels whose sums a file stores: what the code finds, and that a column's sums may be added there.
-- Assumes nothing.
use mathlib.Core.Path.{◌≡◌, sym, ap, ◌∙◌, subst}
use mathlib.Core.List.{List}
use mathlib.Core.Bool.{true}
use Prim.Native.Nat.{ℕ, ◌+◌, ◌*◌, ◌≤◌, ◌<◌}
use native.Mathlib.Omega.{arith}
use lib.ListN.{length, get_or, take}
use Rattle.byte_words.specs.Words.{lay}
use Rattle.byte_words.proofs.Words.{length_lay}
use Rattle.norm_system.specs.System.{has}
use Rattle.norm_labels.specs.Seats.{ascending, seats}
use Rattle.norm_labels.specs.Labels.{keys_of}
use Rattle.norm_read.specs.declared.NormalRead.{NormalRead}
use Rattle.merge_join.specs.Join.{SeatedAt}
use Rattle.merge_locate.specs.Locate.{stored_for, numbers_where}
use Rattle.merge_locate.proofs.Numbers.{numbers_few}
use Rattle.merge_laws.proofs.Added.{t_long, t_ascends, t_inside, located}
use Rattle.merge_put.specs.Parts.{system_in_file, stored_in_file}
use Rattle.merge_put.proofs.Known.{Known}
use Rattle.merge_put.proofs.Loaded.{front}

-- p places among n, in order
pub record Places (n p : ℕ) (t : List ℕ) : Type 0 where
  pub long : length t ≡ p
  pub ascend : ascending t ≡ true
  pub inside : (i : ℕ) → i < p → get_or t i 0 < n

module _ (s : List ℕ) (r : NormalRead) (k : Known s r) (u : List ℕ) (up : ascending u ≡ true) (sub : (x : ℕ) → has x (keys_of (stored_in_file s)) ≡ true → has x u ≡ true) (n : ℕ)
    (count : n ≡ length u) where
  pub placed : (t : List ℕ) → t ≡ seats u (keys_of (stored_in_file s)) → Places n r.stored t
  placed t e =
      subst (λ m. Places m r.stored t) (sym count)
      (subst (λ p. Places (length u) p t) (sym k.stored_many)
      (subst (Places (length u) (length (stored_in_file s).labels)) (sym e)
      (record {
        long = t_long s _ _ _ (system_in_file s) (stored_in_file s) k.stores u up sub;
        ascend = t_ascends s _ _ _ (system_in_file s) (stored_in_file s) k.stores u up sub;
        inside = t_inside s _ _ _ (system_in_file s) (stored_in_file s) k.stores u up sub;
      })))

  -- the front of the room that they are put into
  pub found : (left : List ℕ) → SeatedAt (keys_of (system_in_file s)) u left → (m : ℕ) (room₀ room : List ℕ) → n ≤ length room₀
      → m ≡ length (numbers_where (stored_for s (8 + 4 * r.arcs) r.parameters left) 0 n) → room ≡ lay room₀ 0 (numbers_where (stored_for s (8 + 4 * r.arcs) r.parameters left) 0 n)
      → (m ≤ length room) × (take m room ≡ seats u (keys_of (stored_in_file s)))
  found left seated m room₀ room h c e =
      let l = numbers_where (stored_for s (8 + 4 * r.arcs) r.parameters left) 0 n in
      let few : length l ≤ n = numbers_few (stored_for s (8 + 4 * r.arcs) r.parameters left) 0 n in
      let long : length room ≡ length room₀ = ap length e ∙ length_lay room₀ 0 l in (
        omega arith,
        ap (take m) e ∙ front room₀ l m (sym c) (omega arith)
            ∙ (λ i. numbers_where (stored_for s (8 + 4 * r.arcs) (k.labels_many i) left) 0 (count i))
            ∙ located s _ _ _ (system_in_file s) (stored_in_file s) k.stores u up sub left seated,
      )
