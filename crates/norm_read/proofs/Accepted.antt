-- What a normal file that was read is: it holds a sound system, with estimates of 64 bits; and what stands where.
-- Assumes nothing.
use Prim.Native.Nat.{ℕ, zero, suc, ◌+◌, ◌*◌, ◌≤◌}
use mathlib.Core.Path.{◌≡◌, refl, sym, ap, ◌∙◌, subst}
use mathlib.Core.List.{List, [], ◌∷◌}
use native.Mathlib.Omega.{arith}
use lib.ListN.{length, get_or, length-map}
use mir.Syntax.{w64}
use mir.Val.{SFits}
use Rattle.num_whole.specs.Answer.{good}
use Rattle.num_whole.specs.Lists.{Each}
use Rattle.byte_words.specs.Words.{word}
use Rattle.byte_words.specs.Stands.{stands}
use Rattle.byte_words.proofs.Words.{Bytes}
use Rattle.byte_section.proofs.Read.{section_read}
use Rattle.num_packed.specs.Triangle.{tri}
use Rattle.norm_system.specs.declared.NormalLabel.{NormalLabel}
use Rattle.norm_system.proofs.Sound.{SoundSystem}
use Rattle.norm_labels.specs.Labels.{on_labels}
use Rattle.norm_sum.specs.Sums.{sums_at}
use Rattle.norm_kinds.specs.Kinds.{arc_kind, normal_label_at, Fielded, labels_in, fielded_at, fielded_kind, is_small_form, stored_of, sum_kind, no_totals, totals_at, totals_kind}
use Rattle.norm_kinds.proofs.Stored.{stored_few}
use Rattle.norm_heads.specs.Heads.{arcs_at}
use Rattle.norm_heads.proofs.Heads.{section_items}
use Rattle.norm_read.specs.Normal.{Normal, read_normal}
use Rattle.norm_read.proofs.Parts.{exactly_items}
use Rattle.norm_read.proofs.Sections.{read_sections, accepted_normal, fielded_estimates}
use Rattle.norm_read.proofs.Held.{holds_sound}

each_labels : (P : NormalLabel → Type 0) (l : List Fielded) → Each (λ m. P m.label) l → Each P (labels_in l)
each_labels P [] e = tt
each_labels P (m ∷ l) e = (e.0, each_labels P l e.1)

module _ (s : List ℕ) (x : Normal) (e : read_normal s ≡ good x) where
  -- a file that is accepted holds a sound system
  pub accepted_sound : SoundSystem x.holds
  accepted_sound = let k = accepted_normal s x e in subst SoundSystem k.held (holds_sound x k)

  -- of bytes its estimates are numbers of 64 bits
  pub accepted_estimates : Bytes s → Each (λ l. SFits w64 l.estimate) x.holds.labels
  unfolding on_labels
  accepted_estimates bounded =
      subst (λ y. Each (λ l. SFits w64 l.estimate) y.labels) (accepted_normal s x e).held
      (each_labels (λ l. SFits w64 l.estimate) x.fielded (fielded_estimates s x e bounded))

-- the labels without their fields
pub labels_stand : (s : List ℕ) (n at : ℕ) → labels_in (stands (fielded_at s) 24 n at) ≡ stands (normal_label_at s) 24 n at
unfolding stands fielded_at
labels_stand s zero at = refl
labels_stand s (suc n) at = ap (λ l. normal_label_at s at ∷ l) (labels_stand s n (at + 24))

-- the places of its sections, by the numbers of its arcs, of its parameters and of those whose sums are stored
pub record Standing (s : List ℕ) (x : Normal) (a p n : ℕ) : Type 0 where
  pub arcs_many : length x.holds.arcs ≡ a
  pub labels_many : length x.holds.labels ≡ p
  pub stored_many : length x.stored.labels ≡ n
  pub few_stored : n ≤ p
  pub matrix_at : x.matrix ≡ 12 + 4 * a + 24 * p
  pub rights_at : x.rights ≡ x.matrix + 8 * tri n + 4
  pub totals_at_lem : x.totals ≡ x.rights + 8 * n + 4
  pub long : length s ≡ x.totals + 16
  pub small : x.small ≡ is_small_form s (4 + 4 * a)
  pub arcs : x.holds.arcs ≡ arcs_at s a
  pub labels : x.holds.labels ≡ stands (normal_label_at s) 24 p (8 + 4 * a)
  pub fielded : x.fielded ≡ stands (fielded_at s) 24 p (8 + 4 * a)
  pub stored_labels : x.stored.labels ≡ stored_of x.fielded
  pub stored_arcs : x.stored.arcs ≡ x.holds.arcs
  pub matrix : x.stored.matrix ≡ sums_at s x.matrix (tri n)
  pub rights : x.stored.rights ≡ sums_at s x.rights n
  pub accepted : x.holds.accepted ≡ word 8 s x.totals
  pub square : x.holds.square ≡ word 8 s (x.totals + 8)

module _ (s : List ℕ) (x : Normal) (e : read_normal s ≡ good x) where
  pub accepted_standing : Standing s x (length x.holds.arcs) (length x.holds.labels) (length x.stored.labels)
  unfolding stands totals_at on_labels
  accepted_standing =
      let q = read_sections s x e in
      let K = fielded_kind (is_small_form s q.arcs.next) q.arcs.items in
      let one = section_read arc_kind s 1 16 0 q.arcs q.first in
      let two = section_read K s 1 500 q.arcs.next q.labels q.second in
      let p = length q.labels.items in
      let n = length (stored_of q.labels.items) in
      let three = section_read sum_kind s (tri n) (tri n) q.labels.next q.matrix q.third in
      let four = section_read sum_kind s n n q.matrix.next q.rights q.fourth in
      let five = section_read totals_kind s 1 1 q.rights.next q.totals q.fifth in
      let many : length (labels_in q.labels.items) ≡ p = length-map q.labels.items (λ m. m.label) in
      let front : q.arcs.next ≡ 4 + 4 * length q.arcs.items = omega (arith, one.next) in
      let start : q.arcs.next + 4 ≡ 8 + 4 * length q.arcs.items = omega (arith, one.next) in
      let fields : q.labels.items ≡ stands (fielded_at s) 24 p (8 + 4 * length q.arcs.items) =
      section_items K s 1 500 q.arcs.next q.labels q.second ∙ ap (λ at. stands (fielded_at s) 24 p at) start in
      let t : get_or q.totals.items 0 no_totals ≡ totals_at s (q.rights.next + 4) =
      ap (λ l. get_or l 0 no_totals) (exactly_items totals_kind s 1 q.rights.next q.totals q.fifth) in
      subst (λ y. Standing s y (length y.holds.arcs) (length y.holds.labels) (length y.stored.labels)) q.is
      (record {
        arcs_many = refl;
        labels_many = refl;
        stored_many = refl;
        few_stored = omega (arith, stored_few q.labels.items, many);
        matrix_at = omega (arith, one.next, two.next, many);
        rights_at = omega (arith, three.next, three.count.from, three.count.to);
        totals_at_lem = omega (arith, four.next, four.count.from, four.count.to);
        long = omega (arith, five.next, five.count.from, five.count.to, five.within, q.last);
        small = ap (is_small_form s) front;
        arcs = section_items arc_kind s 1 16 0 q.arcs q.first;
        labels = ap labels_in fields ∙ labels_stand s p (8 + 4 * length q.arcs.items)
            ∙ ap (λ k. stands (normal_label_at s) 24 k (8 + 4 * length q.arcs.items)) (sym many);
        fielded = fields ∙ ap (λ k. stands (fielded_at s) 24 k (8 + 4 * length q.arcs.items)) (sym many);
        stored_labels = refl;
        stored_arcs = refl;
        matrix = exactly_items sum_kind s (tri n) q.labels.next q.matrix q.third;
        rights = exactly_items sum_kind s n q.matrix.next q.rights q.fourth;
        accepted = ap (λ z. z.accepted) t;
        square = ap (λ z. z.square) t;
      })
