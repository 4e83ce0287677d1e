-- What the rooms hold after loading: the front of each is the file's arcs, or the keys of its labels. And what a join of two fronts says.
-- Assumes nothing.
use mathlib.Core.Path.{◌≡◌, sym, ap, ap₂, ◌∙◌, subst}
use mathlib.Core.List.{List, [], ◌∷◌}
use mathlib.Core.Bool.{true}
use Prim.Native.Nat.{ℕ, zero, suc, ◌+◌, ◌*◌, ◌≤◌}
use native.Mathlib.Omega.{arith}
use lib.ListN.{length, take, drop}
use lib.Seq.{take_at, length-take-le}
use Rattle.num_whole.specs.Lists.{all}
use Rattle.num_whole.proofs.Cases.{both_first, both_second}
use Rattle.byte_words.specs.Words.{lay}
use Rattle.byte_words.proofs.Words.{length_lay, lay_front}
use Rattle.byte_section.specs.Section.{encoded}
use Rattle.norm_system.specs.System.{arc_ok}
use Rattle.norm_system.proofs.Labels.{arc_small}
use Rattle.byte_words.proofs.Stands.{length_stands}
use Rattle.norm_kinds.specs.Kinds.{arc_number_bytes}
use Rattle.norm_heads.specs.Heads.{arcs_at}
use Rattle.norm_read.specs.declared.NormalRead.{NormalRead}
use Rattle.merge_read.specs.Read.{keys_at}
use Rattle.merge_heads.specs.Heads.{number_at, Somewhere, Short}
use Rattle.merge_heads.proofs.United.{united, somewhere}
use Rattle.norm_labels.specs.Table.{rows_of}
use Rattle.norm_labels.specs.Seats.{ascending}
use Rattle.merge_join.specs.Join.{union, SeatedAt, Joins}
use Rattle.merge_join.proofs.Places.{left_placed, right_placed}
use Rattle.merge_join.proofs.Shared.{union_long}
use Rattle.norm_labels.specs.Labels.{keys_of}
use Rattle.norm_labels.proofs.Values.{keys_ascend, keys_long, arcs_in_order}
use Rattle.merge_put.specs.Parts.{system_in_file, Joined}
use Rattle.merge_put.proofs.Known.{Known}

-- what is laid from the room's first place on
pub front : (room bs : List ℕ) (n : ℕ) → length bs ≡ n → n ≤ length room → take n (lay room 0 bs) ≡ bs
front room bs n e h = ap (take n) (lay_front room bs (omega arith)) ∙ take_at bs (drop (length bs) room) n e

module _ (s : List ℕ) (r : NormalRead) (k : Known s r) (room₀ room : List ℕ) where
  -- sixteen arcs have room, and five hundred keys
  pub arcs_part : length room₀ ≡ 16 → room ≡ lay room₀ 0 (arcs_at s r.arcs) → (r.arcs ≤ length room) × (take r.arcs room ≡ (system_in_file s).arcs)
  arcs_part h e =
      let long : length room ≡ length room₀ = ap length e ∙ length_lay room₀ 0 (arcs_at s r.arcs) in
      let few : r.arcs ≤ 16 = k.few_arcs in (
        omega arith,
        ap (take r.arcs) e ∙ front room₀ (arcs_at s r.arcs) r.arcs (length_stands _ 4 r.arcs 4) (omega arith) ∙ k.arcs_are,
      )

  pub keys_part : length room₀ ≡ 500 → room ≡ lay room₀ 0 (keys_at s (8 + 4 * r.arcs) r.parameters)
      → (r.parameters ≤ length room) × (take r.parameters room ≡ keys_of (system_in_file s))
  unfolding keys_at
  keys_part h e =
      let long : length room ≡ length room₀ = ap length e ∙ length_lay room₀ 0 (keys_at s (8 + 4 * r.arcs) r.parameters) in
      let few : r.parameters ≤ 500 = k.few_labels in (
        omega arith,
        ap (take r.parameters) e
            ∙ front room₀ (keys_at s (8 + 4 * r.arcs) r.parameters) r.parameters (length_stands _ 24 r.parameters _) (omega arith)
            ∙ k.keys_are,
      )

-- the front of a room as a part that is lent
pub part_long : (n : ℕ) (room : List ℕ) → n ≤ length room → n ≡ length (take n room)
part_long n room h = sym (length-take-le n room h)

all_short : (l : List ℕ) → all arc_ok l ≡ true → Short l
unfolding all
all_short [] e i = omega arith
all_short (a ∷ l) e zero = arc_small a (both_first _ _ e)
all_short (a ∷ l) e (suc i) = all_short l (both_second _ _ e) i

-- ---- the joins: both lists ascend, and the rooms are long enough
module _ (a : List ℕ) (x : NormalRead) (ka : Known a x) (b : List ℕ) (y : NormalRead) (kb : Known b y) (us vs : List ℕ) where
  module _ (e : us ≡ (system_in_file a).arcs) (f : vs ≡ (system_in_file b).arcs) where
    pub arcs_ascend : (ascending us ≡ true) × (ascending vs ≡ true)
    arcs_ascend = (
      subst (λ l. ascending l ≡ true) (sym e) (arcs_in_order ka.whole),
      subst (λ l. ascending l ≡ true) (sym f) (arcs_in_order kb.whole),
    )

    pub arcs_room : length us + length vs ≤ 32
    arcs_room =
        let m : length us ≡ length (system_in_file a).arcs = ap length e in
        let n : length vs ≡ length (system_in_file b).arcs = ap length f in
        omega (arith, ka.whole.few_arcs, kb.whole.few_arcs)

    -- arcs are short numbers
    pub arcs_short : Short us × Short vs
    arcs_short = (
      subst Short (sym e) (all_short (system_in_file a).arcs ka.whole.arcs),
      subst Short (sym f) (all_short (system_in_file b).arcs kb.whole.arcs),
    )

  module _ (e : us ≡ keys_of (system_in_file a)) (f : vs ≡ keys_of (system_in_file b)) where
    pub keys_ascending : (ascending us ≡ true) × (ascending vs ≡ true)
    keys_ascending = (
      subst (λ l. ascending l ≡ true) (sym e) (keys_ascend (system_in_file a) ka.whole.labels_up),
      subst (λ l. ascending l ≡ true) (sym f) (keys_ascend (system_in_file b) kb.whole.labels_up),
    )

    pub keys_room : length us + length vs ≤ 1000
    keys_room =
        let m : length us ≡ length (system_in_file a).labels = ap length e ∙ keys_long (system_in_file a) in
        let n : length vs ≡ length (system_in_file b).labels = ap length f ∙ keys_long (system_in_file b) in
        omega (arith, ka.whole.few_labels, kb.whole.few_labels)

pub labels_joined : (a b ka kb left₀ right₀ left right : List ℕ) (n : ℕ) → ka ≡ keys_of (system_in_file a) → kb ≡ keys_of (system_in_file b)
    → length ka + length kb ≤ length left₀ → length ka + length kb ≤ length right₀ → Joins ka kb left₀ right₀ n left right → Joined a b n left right
labels_joined a b ka kb left₀ right₀ left right n e f h g j =
    let u : length (union ka kb) ≤ length ka + length kb = union_long ka kb in
    let count : n ≡ length (union ka kb) = j.count in
    let l : length left ≡ length left₀ = ap length j.left_is ∙ length_lay left₀ 0 _ in
    let r : length right ≡ length right₀ = ap length j.right_is ∙ length_lay right₀ 0 _ in
    record {
      count = count ∙ ap₂ (λ x y. length (union x y)) e f;
      left_placed = subst (λ x. SeatedAt x (union x (keys_of (system_in_file b))) left) e
          (subst (λ y. SeatedAt ka (union ka y) left) f (left_placed ka kb left₀ right₀ left right n j h));
      right_placed = subst (λ x. SeatedAt (keys_of (system_in_file b)) (union x (keys_of (system_in_file b))) right) e
          (subst (λ y. SeatedAt y (union ka y) right) f (right_placed ka kb left₀ right₀ left right n j g));
      left_long = omega arith;
      right_long = omega arith;
    }

-- ---- arcs at the places of their union
module _ (us vs left₀ right₀ left right : List ℕ) (n : ℕ) (h : length us + length vs ≤ length left₀) (g : length us + length vs ≤ length right₀)
    (j : Joins us vs left₀ right₀ n left right) where
  pub arcs_within : (n ≤ length left) × (n ≤ length right)
  arcs_within =
      let u : length (union us vs) ≤ length us + length vs = union_long us vs in
      let count : n ≡ length (union us vs) = j.count in
      let l : length left ≡ length left₀ = ap length j.left_is ∙ length_lay left₀ 0 _ in
      let r : length right ≡ length right₀ = ap length j.right_is ∙ length_lay right₀ 0 _ in
      (omega arith, omega arith)

  pub arcs_somewhere : Somewhere (length us) left (length vs) right n
  arcs_somewhere =
      subst (Somewhere (length us) left (length vs) right) (sym j.count)
      (somewhere us vs left right (left_placed us vs left₀ right₀ left right n j h) (right_placed us vs left₀ right₀ left right n j g))

  arcs_united : rows_of (number_at us left vs right) 0 n ≡ union us vs
  arcs_united =
      ap (rows_of (number_at us left vs right) 0) j.count
      ∙ united us vs left right (left_placed us vs left₀ right₀ left right n j h) (right_placed us vs left₀ right₀ left right n j g)

  -- what is written there, where the lists are those of two files
  pub arcs_put : (xs ys : List ℕ) → us ≡ xs → vs ≡ ys → (out done : List ℕ) (at : ℕ) → done ≡ lay out at (encoded arc_number_bytes (rows_of (number_at us left vs right) 0 n))
      → done ≡ lay out at (encoded arc_number_bytes (union xs ys))
  arcs_put xs ys e f out done at d = d ∙ ap (λ l. lay out at (encoded arc_number_bytes l)) (arcs_united ∙ ap₂ union e f)
