-- What the code writes and compares at the places of united labels, for two files that were read: the merged system's labels and sums, and
-- the labels of 24. And how long the merged system's lists are.
-- Assumes nothing.
use mathlib.Core.Path.{◌≡◌, sym, ap, ap₂, ◌∙◌, subst}
use mathlib.Core.List.{List}
use mathlib.Core.Bool.{true}
use Prim.Native.Nat.{ℕ, ◌+◌, ◌*◌, ◌≤◌}
use lib.ListN.{length, take, length-map}
use Rattle.num_whole.specs.Tests.{below}
use Rattle.num_whole.specs.Lists.{all}
use Rattle.num_packed.specs.Triangle.{tri}
use Rattle.byte_words.specs.Words.{lay}
use Rattle.norm_system.specs.System.{has}
use Rattle.norm_read.specs.declared.NormalRead.{NormalRead}
use Rattle.merge_join.specs.Join.{union}
use Rattle.norm_labels.specs.Table.{rows_of, columns_of}
use Rattle.merge_sums.specs.Both.{both_places, both_sides, AddableBoth}
use Rattle.merge_locate.specs.Locate.{stored_for, numbers_where}
use Rattle.merge_heads.specs.Heads.{label_of_union, Somewhere}
use Rattle.merge_read.specs.Read.{agree_at}
use Rattle.merge_heads.proofs.United.{somewhere}
use Rattle.norm_labels.specs.Labels.{keys_of}
use Rattle.norm_labels.specs.Seats.{ascending, seats}
use Rattle.merge_laws.specs.Merge.{carried, merged_of, agree, merge_number}
use Rattle.norm_labels.proofs.Values.{formed, keys_long}
use Rattle.merge_laws.proofs.Merged.{merged_formed, merged_labels}
use Rattle.merge_laws.proofs.Numbers.{mergeable}
use Rattle.merge_laws.proofs.Files.{arcs_together}
use Rattle.merge_laws.proofs.Written.{written_labels, agreed_all}
use Rattle.merge_laws.proofs.Added.{u_ascends, first_in, second_in, written_matrix, written_rights, matrix_addable, rights_addable}
use Rattle.merge_put.specs.Parts.{system_in_file, stored_in_file, Joined, Located}
use Rattle.merge_put.proofs.Known.{Known}
use Rattle.merge_put.proofs.Placed.{Places, placed, found}

module _ (a : List ℕ) (x : NormalRead) (ka : Known a x) (b : List ℕ) (y : NormalRead) (kb : Known b y) where
  module _ (left right : List ℕ) (n : ℕ) (j : Joined a b n left right) where
    -- ---- what is written
    pub labels_written : rows_of (label_of_union a (8 + 4 * x.arcs) x.parameters left b (8 + 4 * y.arcs) right) 0 n ≡ (merged_of (system_in_file a) (system_in_file b)).labels
    labels_written =
        ap₂ (λ p m. rows_of (label_of_union a (8 + 4 * x.arcs) p left b (8 + 4 * y.arcs) right) 0 m) ka.labels_many j.count
        ∙ written_labels a _ (system_in_file a) ka.stands b _ (system_in_file b) kb.stands left right j.left_placed j.right_placed

    -- ---- what is compared
    pub labels_agree : below (agree_at a (8 + 4 * x.arcs) x.parameters left b (8 + 4 * y.arcs) y.parameters right) n
        ≡ all (agree (system_in_file a) (system_in_file b)) (union (keys_of (system_in_file a)) (keys_of (system_in_file b)))
    labels_agree =
        (λ i. below (agree_at a (8 + 4 * x.arcs) (ka.labels_many i) left b (8 + 4 * y.arcs) (kb.labels_many i) right) (j.count i))
        ∙ agreed_all a _ (system_in_file a) ka.stands b _ (system_in_file b) kb.stands left right j.left_placed j.right_placed

    pub labels_somewhere : Somewhere x.parameters left y.parameters right n
    labels_somewhere =
        subst (λ p. Somewhere p left y.parameters right n) (keys_long (system_in_file a) ∙ sym ka.labels_many)
        (subst (λ q. Somewhere (length (keys_of (system_in_file a))) left q right n) (keys_long (system_in_file b) ∙ sym kb.labels_many)
        (subst (Somewhere (length (keys_of (system_in_file a))) left (length (keys_of (system_in_file b))) right) (sym j.count)
        (somewhere (keys_of (system_in_file a)) (keys_of (system_in_file b)) left right j.left_placed j.right_placed)))

  -- ---- how many
  module _ (n : ℕ) (count : n ≡ length (union (keys_of (system_in_file a)) (keys_of (system_in_file b)))) where
    pub labels_count : length (merged_of (system_in_file a) (system_in_file b)).labels ≡ n
    labels_count =
        ap length (merged_labels (system_in_file a) (system_in_file b))
        ∙ length-map (union (keys_of (system_in_file a)) (keys_of (system_in_file b))) (carried (system_in_file a) (system_in_file b)) ∙ sym count

    pub matrix_count : length (merged_of (system_in_file a) (system_in_file b)).matrix ≡ tri n
    matrix_count =
        (merged_formed (system_in_file a) (system_in_file b) (formed (system_in_file a) ka.whole) (formed (system_in_file b) kb.whole)).matrix_long ∙ ap tri labels_count

    pub rights_count : length (merged_of (system_in_file a) (system_in_file b)).rights ≡ n
    rights_count =
        (merged_formed (system_in_file a) (system_in_file b) (formed (system_in_file a) ka.whole) (formed (system_in_file b) kb.whole)).rights_long ∙ labels_count

  -- ---- the union
  abbrev u : List ℕ
  u = union (keys_of (system_in_file a)) (keys_of (system_in_file b))

  up : ascending u ≡ true
  up = u_ascends a _ _ _ (system_in_file a) (stored_in_file a) ka.whole ka.stores b _ _ _ (system_in_file b) (stored_in_file b) kb.whole kb.stores

  in_left : (k : ℕ) → has k (keys_of (stored_in_file a)) ≡ true → has k u ≡ true
  in_left = first_in a _ _ _ (system_in_file a) (stored_in_file a) ka.whole ka.stores b _ _ _ (system_in_file b) (stored_in_file b) kb.whole kb.stores

  in_right : (k : ℕ) → has k (keys_of (stored_in_file b)) ≡ true → has k u ≡ true
  in_right = second_in a _ _ _ (system_in_file a) (stored_in_file a) ka.whole ka.stores b _ _ _ (system_in_file b) (stored_in_file b) kb.whole kb.stores

  -- ---- sums at the places of the labels stored
  module _ (n : ℕ) (ta tb : List ℕ) (l : Located a b n ta tb) where
    pub left_places : Places n x.stored ta
    left_places = placed a x ka u up in_left n l.count ta l.left_are

    pub right_places : Places n y.stored tb
    right_places = placed b y kb u up in_right n l.count tb l.right_are

    pub matrix_written : columns_of (both_places a x.matrix ta b y.matrix tb) 0 n ≡ (merged_of (system_in_file a) (system_in_file b)).matrix
    matrix_written =
        (λ i. columns_of (both_places a x.matrix (l.left_are i) b y.matrix (l.right_are i)) 0 (l.count i))
        ∙ written_matrix a _ _ _ (system_in_file a) (stored_in_file a) ka.whole ka.stores b _ _ _ (system_in_file b) (stored_in_file b) kb.whole kb.stores

    pub rights_written : rows_of (both_sides a (record { base = x.rights; rows = x.stored }) ta b (record { base = y.rights; rows = y.stored }) tb) 0 n
        ≡ (merged_of (system_in_file a) (system_in_file b)).rights
    rights_written =
        (λ i. rows_of (both_sides a (record { base = x.rights; rows = ka.stored_many i }) (l.left_are i) b (record { base = y.rights; rows = kb.stored_many i }) (l.right_are i)) 0 (l.count i))
        ∙ written_rights a _ _ _ (system_in_file a) (stored_in_file a) ka.whole ka.stores b _ _ _ (system_in_file b) (stored_in_file b) kb.whole kb.stores

    -- ---- that may be added
    module _ (accepted : merge_number (system_in_file a) (system_in_file b) ≡ 0) where
      few : length (system_in_file a).arcs + length (system_in_file b).arcs ≤ 16
      few = arcs_together (system_in_file a) (system_in_file b) ka.whole kb.whole (mergeable (system_in_file a) (system_in_file b) accepted)

      pub matrix_adds : AddableBoth a x.matrix (tri (length ta)) b y.matrix (tri (length tb))
      matrix_adds =
          subst (λ r. AddableBoth a x.matrix (tri (length r)) b y.matrix (tri (length tb))) (sym l.left_are)
          (subst (λ r. AddableBoth a x.matrix (tri (length (seats u (keys_of (stored_in_file a))))) b y.matrix (tri (length r))) (sym l.right_are)
          (matrix_addable a _ _ _ (system_in_file a) (stored_in_file a) ka.whole ka.stores b _ _ _ (system_in_file b) (stored_in_file b) kb.whole kb.stores few))

      pub rights_add : AddableBoth a x.rights x.stored b y.rights y.stored
      rights_add =
          subst (λ m. AddableBoth a x.rights m b y.rights y.stored) (sym ka.stored_many)
          (subst (λ m. AddableBoth a x.rights (length (stored_in_file a).labels) b y.rights m) (sym kb.stored_many)
          (rights_addable a _ _ _ (system_in_file a) (stored_in_file a) ka.whole ka.stores b _ _ _ (system_in_file b) (stored_in_file b) kb.whole kb.stores few))

  -- ---- the places that are found: the front of each room
  module _ (left right : List ℕ) (n : ℕ) (j : Joined a b n left right) (room₀ room : List ℕ) (h : n ≤ length room₀) (m : ℕ) where
    pub left_found : m ≡ length (numbers_where (stored_for a (8 + 4 * x.arcs) x.parameters left) 0 n) → room ≡ lay room₀ 0 (numbers_where (stored_for a (8 + 4 * x.arcs) x.parameters left) 0 n)
        → (m ≤ length room) × (take m room ≡ seats u (keys_of (stored_in_file a)))
    left_found = found a x ka u up in_left n j.count left j.left_placed m room₀ room h

    pub right_found : m ≡ length (numbers_where (stored_for b (8 + 4 * y.arcs) y.parameters right) 0 n) → room ≡ lay room₀ 0 (numbers_where (stored_for b (8 + 4 * y.arcs) y.parameters right) 0 n)
        → (m ≤ length room) × (take m room ≡ seats u (keys_of (stored_in_file b)))
    right_found = found b y kb u up in_right n j.count right j.right_placed m room₀ room h
