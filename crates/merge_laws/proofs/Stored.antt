-- What an accepted file of either form stores of the system that it holds, and where: the same sums at any two labels, for the labels whose
-- field is not 2.
-- Assumes nothing.
use Prim.Native.Nat.{ℕ, zero, suc, ◌+◌, ◌*◌, ◌<◌}
use mathlib.Core.Path.{◌≡◌, refl, sym, ap, ◌∙◌, subst}
use mathlib.Core.List.{List, [], ◌∷◌}
use mathlib.Core.Bool.{true, not}
use native.Mathlib.Nat.{not-suc-le-zero, le_of_suc-le-suc}
use lib.ListN.{length, get_or, length-map}
use Rattle.num_whole.specs.Answer.{good}
use Rattle.num_whole.specs.Tests.{less, same}
use Rattle.num_whole.specs.Lists.{Each}
use Rattle.num_whole.proofs.Cases.{holds, fails, is_less, by_cases, both_first}
use Rattle.byte_words.proofs.Stands.{stands_at}
use Rattle.num_packed.specs.Triangle.{tri}
use Rattle.norm_system.specs.System.{System, has, key_of, nowhere, unsound_in}
use Rattle.norm_system.proofs.Sound.{stored_sound}
use Rattle.norm_labels.specs.Seats.{seat}
use Rattle.norm_labels.specs.Labels.{keys_of, no_normal_label, value, side, on_labels}
use Rattle.norm_labels.proofs.Seats.{seated, seat_within}
use Rattle.norm_labels.proofs.Values.{Formed, keys_long}
use Rattle.norm_sum.specs.Sums.{sums_at}
use Rattle.norm_kinds.specs.Kinds.{Fielded, labels_in, fielded_key, fielded_at}
use Rattle.norm_read.specs.Normal.{Normal, read_normal}
use Rattle.norm_read.proofs.Stored.{all_keys, stored_keys, stored_sub, asc_fielded}
use Rattle.norm_read.proofs.Sections.{SoundNormal, accepted_normal}
use Rattle.norm_read.proofs.Held.{stored_keys_lem, stored_formed, holds_value, holds_side}
use Rattle.norm_read.proofs.Accepted.{Standing, accepted_standing}
use Rattle.norm_forms.proofs.Fields.{StoredIn, stored_each}
use Rattle.merge_locate.specs.Locate.{stored_at}

-- a file that holds x and stores z
pub record StoresIn (s : List ℕ) (labels matrix rights : ℕ) (x z : System) : Type 0 where
  pub matrix_are : z.matrix ≡ sums_at s matrix (tri (length z.labels))
  pub rights_are : z.rights ≡ sums_at s rights (length z.labels)
  pub arcs_are : z.arcs ≡ x.arcs
  pub formed : Formed z
  pub sums : unsound_in z ≡ nowhere
  pub values : (k l : ℕ) → value x k l ≡ value z k l
  pub sides : (k : ℕ) → side x k ≡ side z k
  pub stored_are : (k : ℕ) → stored_at s labels (length x.labels) (seat (keys_of x) k) ≡ has k (keys_of z)

-- a stored label is one of all
pub stored_held : {s : List ℕ} {labels matrix rights : ℕ} {x z : System} → StoresIn s labels matrix rights x z → (k : ℕ) → has k (keys_of z) ≡ true → has k (keys_of x) ≡ true
unfolding stored_at
stored_held {x = x} st k h =
    sym (seat_within (keys_of x) k) ∙ ap (less (seat (keys_of x) k)) (keys_long x) ∙ both_first _ _ (st.stored_are k ∙ h)

-- ---- labels with their fields, one by one
abbrev no_fielded : Fielded
no_fielded = record { label = no_normal_label; field = 0 }

each_at : (P : Fielded → Type 0) (l : List Fielded) (i : ℕ) → i < length l → Each P l → P (get_or l i no_fielded)
each_at P [] i h e = absurd (not-suc-le-zero h)
each_at P (m ∷ l) zero h e = e.0
each_at P (m ∷ l) (suc i) h e = each_at P l i (le_of_suc-le-suc h) e.1

key_at_lem : (l : List Fielded) (i : ℕ) → i < length l → fielded_key (get_or l i no_fielded) ≡ get_or (all_keys l) i 0
key_at_lem [] i h = absurd (not-suc-le-zero h)
key_at_lem (m ∷ l) zero h = refl
key_at_lem (m ∷ l) (suc i) h = key_at_lem l i (le_of_suc-le-suc h)

module _ (s : List ℕ) (f : Normal) (e : read_normal s ≡ good f) where
  kept : SoundNormal f
  kept = accepted_normal s f e

  abbrev labels : ℕ
  labels = 8 + 4 * length f.holds.arcs

  abbrev p : ℕ
  p = length f.holds.labels

  st : Standing s f (length f.holds.arcs) p (length f.stored.labels)
  st = accepted_standing s f e

  keys_held : keys_of f.holds ≡ all_keys f.fielded
  unfolding keys_of on_labels
  keys_held = ap keys_of (sym kept.held)

  keys_p : length (all_keys f.fielded) ≡ p
  keys_p = ap length (sym keys_held) ∙ keys_long f.holds

  fields_p : length f.fielded ≡ p
  fields_p = sym (length-map (labels_in f.fielded) key_of ∙ length-map f.fielded (λ m. m.label)) ∙ keys_p

  -- a label's sums are stored where its field is not 2
  field_stored : (n : ℕ) → stored_at s labels p (seat (all_keys f.fielded) n) ≡ has n (stored_keys f.fielded)
  unfolding stored_at fielded_at
  field_stored n =
      by_cases (has n (all_keys f.fielded))
      (λ a. let d = seated (all_keys f.fielded) n a in
      let q = seat (all_keys f.fielded) n in
      let h : q < p = subst (λ m. q < m) keys_p d.inside in
      let g : q < length f.fielded = subst (λ m. q < m) (sym fields_p) h in
      let m : get_or f.fielded q no_fielded ≡ fielded_at s (labels + 24 * q) =
      ap (λ l. get_or l q no_fielded) st.fielded ∙ stands_at (fielded_at s) 24 p labels q no_fielded h in
      let k : fielded_key (get_or f.fielded q no_fielded) ≡ n = key_at_lem f.fielded q g ∙ d.is in
      let in-stored : has (fielded_key (get_or f.fielded q no_fielded)) (stored_keys f.fielded) ≡ not (same (get_or f.fielded q no_fielded).field 2) =
      each_at (StoredIn (stored_keys f.fielded)) f.fielded q g (stored_each 0 f.fielded (asc_fielded 0 f.fielded kept.labels_up)) in
      sym (holds _ _ (is_less q p h) refl)
      ∙ ap (λ v. not (same v.field 2)) (sym m) ∙ sym in-stored ∙ ap (λ j. has j (stored_keys f.fielded)) k)
      (λ a. let w = ap (less (seat (all_keys f.fielded) n)) (sym keys_p) ∙ seat_within (all_keys f.fielded) n ∙ a in
      sym (fails _ _ w) ∙ sym (stored_sub n f.fielded a))

  pub stores_in : StoresIn s labels f.matrix f.rights f.holds f.stored
  stores_in =
      record {
        matrix_are = st.matrix;
        rights_are = st.rights;
        arcs_are = st.stored_arcs;
        formed = stored_formed f kept;
        sums = (stored_sound f.small f.stored kept.sums).0;
        values = λ k l. ap (λ y. value y k l) (sym kept.held) ∙ holds_value f kept k l;
        sides = λ k. ap (λ y. side y k) (sym kept.held) ∙ holds_side f kept k;
        stored_are = λ k. ap (λ u. stored_at s labels p (seat u k)) keys_held ∙ field_stored k ∙ ap (has k) (sym (stored_keys_lem f kept));
      }
