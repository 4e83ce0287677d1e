-- What the code gathers of a file that was read, in a form, is that form of what the file holds: its labels with their fields, its sums, its bytes.
-- Assumes nothing.
use Prim.Native.Nat.{ℕ, suc, ◌+◌, ◌*◌, ◌<◌, zero-le, suc-le-suc}
use mathlib.Core.Path.{◌≡◌, refl, sym, ap, ap₂, ◌∙◌, subst}
use mathlib.Core.List.{List, [], ◌∷◌, ◌++◌, map, append_assoc}
use mathlib.Core.Bool.{Bool, true}
use native.Mathlib.Nat.{add-zero}
use native.Mathlib.Omega.{arith}
use lib.IntN.{pos}
use lib.ListN.{length, get_or, length-map, get_or-map}
use Rattle.num_whole.specs.Answer.{good}
use Rattle.num_whole.specs.Tests.{same, pick}
use Rattle.num_whole.proofs.Cases.{apart, yes, no, by_cases}
use Rattle.byte_words.specs.Stands.{stands}
use Rattle.byte_words.proofs.Stands.{length_stands, stands_at}
use Rattle.num_packed.specs.Sound.{is_zero}
use Rattle.norm_system.specs.System.{System, has, key_of}
use Rattle.norm_system.specs.declared.NormalLabel.{NormalLabel}
use Rattle.norm_labels.specs.Seats.{seat}
use Rattle.norm_labels.specs.Table.{rows_of, columns_of, sum_at}
use Rattle.norm_labels.specs.Labels.{keys_of, no_normal_label, value, side, table, on_labels}
use Rattle.norm_labels.proofs.Ascending.{Asc, has_below}
use Rattle.norm_labels.proofs.Seats.{seat_first, seat_later, seat_below}
use Rattle.norm_labels.proofs.Tables.{columns_alike}
use Rattle.norm_labels.proofs.Values.{map_at, map_alike}
use Rattle.norm_sum.specs.Sums.{sums_at}
use Rattle.norm_kinds.specs.Kinds.{Fielded, fielded_key, fielded_at, normal_label_at, stored_of, arc_number_bytes, fielded_bytes, sum_bytes, totals_at, totals_bytes}
use Rattle.norm_kinds.specs.Bytes.{sectioned, file_bytes}
use Rattle.norm_kinds.proofs.Stored.{stored_off, stored_on}
use Rattle.norm_heads.specs.Heads.{arcs_at}
use Rattle.norm_add.specs.Add.{held_at, column_at}
use Rattle.norm_add.specs.declared.Column.{Column}
use Rattle.norm_add.proofs.Held.{held_sum, column_sum}
use Rattle.norm_read.specs.Normal.{Normal, read_normal, numbers_in}
use Rattle.norm_read.specs.declared.NormalRead.{NormalRead}
use Rattle.norm_read.proofs.Stored.{all_keys, stored_keys, stored_asc}
use Rattle.norm_read.proofs.Sections.{SoundNormal, accepted_normal}
use Rattle.norm_read.proofs.Held.{held_of, held_labels, up, stored_keys_lem, holds_value, holds_side}
use Rattle.norm_read.proofs.Accepted.{Standing, accepted_standing}
use Rattle.norm_forms.specs.Forms.{form_field, form_fields, form_stored, form_bytes}
use Rattle.norm_gather.specs.Gather.{seats_from, kept_seats, field_by_seat, fielded_by_seat, gathered_at, side_gathered, heads_gathered, sums_gathered, totals_copied}

-- ---- what a function gives at the places of a list
rows_list : {A B : Type 0} (f : A → B) (d : A) (l : List A) (i : ℕ) (h : ℕ → B) → ((k : ℕ) → k < length l → h (i + k) ≡ f (get_or l k d)) → rows_of h i (length l) ≡ map f l
unfolding rows_of
rows_list f d [] i h e = refl
rows_list f d (a ∷ l) i h e =
    ap₂ (λ x t. x ∷ t) (ap h (sym (add-zero i)) ∙ e 0 (suc-le-suc zero-le))
    (rows_list f d l (suc i) h (λ k g. ap h (later k) ∙ e (suc k) (suc-le-suc g)))
  where
    later : (k : ℕ) → suc i + k ≡ i + suc k
    later k = omega arith

-- ---- the places of labels among those that are stored
seats_shift : (n q : ℕ) (l : List Fielded) → seats_from (suc n) (suc q) l ≡ map suc (seats_from n q l)
unfolding seats_from
seats_shift n q [] = refl
seats_shift n q (m ∷ l) =
    by_cases (same m.field 2)
    (λ e. sym (yes _ _ _ e refl) ∙ ap (λ t. suc n ∷ t) (seats_shift n q l) ∙ ap (map suc) (yes _ _ _ e refl))
    (λ e. sym (no _ _ _ e refl) ∙ ap (λ t. suc q ∷ t) (seats_shift n (suc q) l) ∙ ap (map suc) (no _ _ _ e refl))

map_two : (f : ℕ → ℕ) (g : ℕ → ℕ) (l : List ℕ) → map f (map g l) ≡ map (λ k. f (g k)) l
map_two f g [] = refl
map_two f g (k ∷ l) = ap (λ t. f (g k) ∷ t) (map_two f g l)

seats_found : (floor : ℕ) (l : List Fielded) → Asc floor (all_keys l) → seats_from (length (stored_of l)) 0 l ≡ map (seat (stored_keys l)) (all_keys l)
unfolding seats_from stored_of
seats_found floor [] p = refl
seats_found floor (m ∷ l) p =
    let rest : seats_from (length (stored_of l)) 0 l ≡ map (seat (stored_keys l)) (all_keys l) = seats_found (suc (fielded_key m)) l p.1 in
    let long : length (stored_keys l) ≡ length (stored_of l) = length-map (stored_of l) key_of in
    by_cases (same m.field 2)
    (λ e. sym (yes _ _ _ e refl)
    ∙ ap (λ z. length z ∷ seats_from (length z) 0 l) (stored_off m l e)
    ∙ ap₂ (λ k t. k ∷ t) (sym long ∙ sym (seat_below (fielded_key m) (stored_keys l) (stored_asc (suc (fielded_key m)) l p.1))) rest
    ∙ ap (λ z. map (seat (map key_of z)) (fielded_key m ∷ all_keys l)) (sym (stored_off m l e)))
    (λ e. sym (no _ _ _ e refl)
    ∙ ap (λ z. 0 ∷ seats_from (length z) 1 l) (stored_on m l e)
    ∙ ap (λ t. 0 ∷ t) (seats_shift (length (stored_of l)) 0 l ∙ ap (map suc) rest ∙ map_two suc (seat (stored_keys l)) (all_keys l) ∙ later)
    ∙ ap (λ k. k ∷ map (seat (fielded_key m ∷ stored_keys l)) (all_keys l)) (sym (seat_first (fielded_key m) (fielded_key m) (stored_keys l) refl))
    ∙ ap (λ z. map (seat (map key_of z)) (fielded_key m ∷ all_keys l)) (sym (stored_on m l e)))
  where
    above : (k : ℕ) → has k (all_keys l) ≡ true → fielded_key m ≡ k → ⊥
    above k h d = apart (sym (subst (λ n. has n (all_keys l) ≡ true) (sym d) h) ∙ has_below (fielded_key m) (all_keys l) p.1)

    later : map (λ k. suc (seat (stored_keys l) k)) (all_keys l) ≡ map (seat (fielded_key m ∷ stored_keys l)) (all_keys l)
    later = map_alike (λ k. suc (seat (stored_keys l) k)) (seat (fielded_key m ∷ stored_keys l)) (all_keys l) (λ k h. sym (seat_later (fielded_key m) k (stored_keys l) (above k h)))

-- ---- those of the labels that a form stores
kept_found : (ks : List ℕ) (g : ℕ → ℕ) (f : NormalLabel → ℕ) → ((l : NormalLabel) → g (seat ks (key_of l)) ≡ f l) → (l : List NormalLabel)
    → kept_seats g (map (seat ks) (map key_of l)) ≡ map (seat ks) (map key_of (stored_of (map (λ a. record { label = a; field = f a }) l)))
unfolding kept_seats stored_of
kept_found ks g f h [] = refl
kept_found ks g f h (a ∷ l) =
    let rest = kept_found ks g f h l in
    by_cases (same (f a) 2)
    (λ e. sym (yes _ _ _ (ap (λ n. same n 2) (h a) ∙ e) refl) ∙ rest ∙ ap (λ z. map (seat ks) (map key_of z)) (yes _ _ _ e refl))
    (λ e. sym (no _ _ _ (ap (λ n. same n 2) (h a) ∙ e) refl) ∙ ap (λ t. seat ks (key_of a) ∷ t) rest ∙ ap (λ z. map (seat ks) (map key_of z)) (no _ _ _ e refl))

-- ---- a file in its parts
three_parts : (l : List Fielded) (y : System)
    → sectioned arc_number_bytes y.arcs (sectioned fielded_bytes l [])
    ++ (sectioned sum_bytes y.matrix (sectioned sum_bytes y.rights [])
    ++ sectioned totals_bytes (record { accepted = y.accepted; square = y.square } ∷ []) [])
    ≡ file_bytes l y
unfolding file_bytes
three_parts l y = simp append_assoc

-- ---- sums by places
by_value : (y : System) (a b : ℕ) → sum_at y.matrix (length y.labels) (seat (keys_of y) a) (seat (keys_of y) b) ≡ value y a b
unfolding value
by_value y a b = refl

by_side : (y : System) (a : ℕ) → get_or y.rights (seat (keys_of y) a) (pos 0) ≡ side y a
unfolding side
by_side y a = refl

-- ---- a file that was read
module _ (s : List ℕ) (f : Normal) (e : read_normal s ≡ good f) (r : NormalRead) (t : r ≡ numbers_in f) where
  k : SoundNormal f
  k = accepted_normal s f e

  st : Standing s f (length f.holds.arcs) (length f.holds.labels) (length f.stored.labels)
  st = accepted_standing s f e

  abbrev x : System
  x = held_of f

  abbrev ks : List ℕ
  ks = keys_of f.stored

  is : x ≡ f.holds
  is = k.held

  few : r.stored ≡ length f.stored.labels
  few = ap (λ d. d.stored) t

  arcs_are : r.arcs ≡ length f.holds.arcs
  arcs_are = ap (λ d. d.arcs) t

  labels_are : r.parameters ≡ length f.holds.labels
  labels_are = ap (λ d. d.parameters) t

  matrix_is : r.matrix ≡ f.matrix
  matrix_is = ap (λ d. d.matrix) t

  rights_is : r.rights ≡ f.rights
  rights_is = ap (λ d. d.rights) t

  totals_is : r.totals ≡ f.totals
  totals_is = ap (λ d. d.totals) t

  -- ---- its sums, by labels
  sum_held : (a b : ℕ) → held_at s (column_at r.matrix r.stored (seat ks b)) (seat ks a) ≡ value x a b
  sum_held a b =
      ap₂ (λ start n. held_at s (column_at start n (seat ks b)) (seat ks a)) matrix_is few
      ∙ column_sum f.matrix (length f.stored.labels) (seat ks b) s (seat ks a)
      ∙ ap (λ m. sum_at m (length f.stored.labels) (seat ks a) (seat ks b)) (sym st.matrix)
      ∙ by_value f.stored a b
      ∙ sym (holds_value f k a b)

  side_held : (a : ℕ) → held_at s (record { base = r.rights; rows = r.stored }) (seat ks a) ≡ side x a
  side_held a =
      held_sum s r.rights r.stored (seat ks a)
      ∙ ap₂ (λ start n. get_or (sums_at s start n) (seat ks a) (pos 0)) rights_is few
      ∙ ap (λ l. get_or l (seat ks a) (pos 0)) (sym st.rights)
      ∙ by_side f.stored a
      ∙ sym (holds_side f k a)

  -- ---- its labels
  abbrev from : ℕ
  from = 8 + 4 * r.arcs

  labels_stand : x.labels ≡ stands (normal_label_at s) 24 r.parameters from
  labels_stand = ap (λ z. z.labels) is ∙ st.labels ∙ ap₂ (λ p a. stands (normal_label_at s) 24 p (8 + 4 * a)) (sym labels_are) (sym arcs_are)

  fielded_stand : stands (fielded_at s) 24 r.parameters (8 + 4 * r.arcs) ≡ f.fielded
  fielded_stand = ap₂ (λ p a. stands (fielded_at s) 24 p (8 + 4 * a)) labels_are arcs_are ∙ sym st.fielded

  abbrev pub w : List ℕ
  w = seats_from r.stored 0 (stands (fielded_at s) 24 r.parameters (8 + 4 * r.arcs))

  w_is : w ≡ map (seat ks) (map key_of x.labels)
  w_is =
      ap₂ (λ n l. seats_from n 0 l) (few ∙ ap length k.stored_labels) fielded_stand
      ∙ seats_found 0 f.fielded (up f k)
      ∙ ap₂ (λ u l. map (seat u) (map key_of l)) (sym (stored_keys_lem f k)) (held_labels f)

  pub w_long : length w ≡ r.parameters
  w_long =
      ap length w_is ∙ length-map (map key_of x.labels) (seat ks) ∙ length-map x.labels key_of ∙ ap length labels_stand
      ∙ length_stands (normal_label_at s) 24 r.parameters from

  -- ---- in a form
  module _ (small : Bool) where
    abbrev g : ℕ → ℕ
    g = field_by_seat small s r.matrix r.stored

    fields_are : (l : NormalLabel) → g (seat ks (key_of l)) ≡ form_field small x l
    unfolding field_by_seat form_field
    fields_are l = ap (λ z. pick small (pick (is_zero z) 2 1) 0) (sum_held (key_of l) (key_of l))

    label_at : (i : ℕ) → i < length x.labels → normal_label_at s (from + 24 * i) ≡ get_or x.labels i no_normal_label
    label_at i h =
        let long : length x.labels ≡ r.parameters = ap length labels_stand ∙ length_stands (normal_label_at s) 24 r.parameters from in
        sym (ap (λ l. get_or l i no_normal_label) labels_stand ∙ stands_at (normal_label_at s) 24 r.parameters from i no_normal_label (omega arith))

    seat_is : (i : ℕ) → i < length x.labels → get_or w i 0 ≡ seat ks (key_of (get_or x.labels i no_normal_label))
    unfolding key_of
    seat_is i h =
        let long : length (map key_of x.labels) ≡ length x.labels = length-map x.labels key_of in
        ap (λ l. get_or l i 0) w_is ∙ map_at (seat ks) 0 (map key_of x.labels) i (omega arith) ∙ ap (seat ks) (get_or-map key_of x.labels i no_normal_label)

    labels_gathered : rows_of (fielded_by_seat small s from r.matrix r.stored w) 0 (length w) ≡ form_fields small x
    unfolding fielded_by_seat form_fields
    labels_gathered =
        ap (rows_of (fielded_by_seat small s from r.matrix r.stored w) 0) (w_long ∙ sym (ap length labels_stand ∙ length_stands (normal_label_at s) 24 r.parameters from))
        ∙ rows_list (λ l. record { label = l; field = form_field small x l }) no_normal_label x.labels 0 (fielded_by_seat small s from r.matrix r.stored w)
        (λ i h. λ j. record { label = at i h j; field = field i h j })
      where
        at : (i : ℕ) → i < length x.labels → normal_label_at s (from + 24 * (0 + i)) ≡ get_or x.labels i no_normal_label
        at i h = let z : 0 + i ≡ i = omega arith in ap (λ n. normal_label_at s (from + 24 * n)) z ∙ label_at i h

        field : (i : ℕ) → i < length x.labels → g (get_or w (0 + i) 0) ≡ form_field small x (get_or x.labels i no_normal_label)
        field i h = let z : 0 + i ≡ i = omega arith in ap (λ n. g (get_or w n 0)) z ∙ ap g (seat_is i h) ∙ fields_are (get_or x.labels i no_normal_label)

    -- those that are stored
    abbrev stored_now : List NormalLabel
    stored_now = stored_of (form_fields small x)

    abbrev pub u : List ℕ
    u = kept_seats g w

    u_is : u ≡ map (seat ks) (map key_of stored_now)
    unfolding form_fields
    u_is = ap (kept_seats g) w_is ∙ kept_found ks g (form_field small x) fields_are x.labels

    u_long : length u ≡ length stored_now
    u_long = ap length u_is ∙ length-map (map key_of stored_now) (seat ks) ∙ length-map stored_now key_of

    pub u_many : length u ≡ length (stored_of (form_fields small f.holds))
    u_many = u_long ∙ ap (λ z. length (stored_of (form_fields small z))) is

    u_keys : length u ≡ length (map key_of stored_now)
    u_keys = ap length u_is ∙ length-map (map key_of stored_now) (seat ks)

    u_at : (i : ℕ) → i < length (map key_of stored_now) → get_or u i 0 ≡ seat ks (get_or (map key_of stored_now) i 0)
    u_at i h = ap (λ l. get_or l i 0) u_is ∙ map_at (seat ks) 0 (map key_of stored_now) i h

    matrix_gathered : columns_of (gathered_at s r.matrix r.stored u) 0 (length u) ≡ (form_stored small x).matrix
    unfolding gathered_at form_stored on_labels table
    matrix_gathered =
        let v = map key_of stored_now in
        ap (columns_of (gathered_at s r.matrix r.stored u) 0) u_keys
        ∙ columns_alike (gathered_at s r.matrix r.stored u) (λ i j. value x (get_or v i 0) (get_or v j 0)) (length v) 0
        (λ i j h l. ap₂ (λ a b. held_at s (column_at r.matrix r.stored b) a) (u_at i (omega arith)) (u_at j (omega arith)) ∙ sum_held (get_or v i 0) (get_or v j 0))

    rights_gathered : rows_of (side_gathered s (record { base = r.rights; rows = r.stored }) u) 0 (length u) ≡ (form_stored small x).rights
    unfolding side_gathered form_stored on_labels
    rights_gathered =
        let v = map key_of stored_now in
        let c : Column = record { base = r.rights; rows = r.stored } in
        ap (rows_of (side_gathered s c u) 0) u_keys
        ∙ rows_list (side x) 0 v 0 (side_gathered s c u)
        (λ i h. let z : 0 + i ≡ i = omega arith in ap (λ n. held_at s c (get_or u n 0)) z ∙ ap (held_at s c) (u_at i h) ∙ side_held (get_or v i 0))

    arcs_same : arcs_at s r.arcs ≡ (form_stored small x).arcs
    unfolding form_stored on_labels
    arcs_same = ap (arcs_at s) arcs_are ∙ sym st.arcs ∙ sym (ap (λ z. z.arcs) is)

    totals_same : totals_at s r.totals ≡ record { accepted = (form_stored small x).accepted; square = (form_stored small x).square }
    unfolding totals_at form_stored on_labels
    totals_same =
        ap (totals_at s) totals_is
        ∙ (λ i. record { accepted = (sym st.accepted ∙ sym (ap (λ z. z.accepted) is)) i; square = (sym st.square ∙ sym (ap (λ z. z.square) is)) i })

    -- together
    pub gathered : heads_gathered small s r w ++ (sums_gathered s r u ++ totals_copied s r) ≡ form_bytes small f.holds
    unfolding heads_gathered sums_gathered totals_copied form_bytes
    gathered =
        (λ i. sectioned arc_number_bytes (arcs_same i) (sectioned fielded_bytes (labels_gathered i) [])
        ++ (sectioned sum_bytes (matrix_gathered i) (sectioned sum_bytes (rights_gathered i) []) ++ sectioned totals_bytes (totals_same i ∷ []) []))
        ∙ three_parts (form_fields small x) (form_stored small x)
        ∙ ap (form_bytes small) is
