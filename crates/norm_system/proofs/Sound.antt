-- What it says that no sum is unsound: each matrix sum and each right side keeps its bound and its zeros, and so do the totals; and that
-- sound sums are numbers of 64 bits.
-- Assumes nothing.
use Prim.Native.Nat.{ℕ, zero, suc, ◌+◌, ◌-◌, ◌*◌, ◌^◌, ◌≤◌, ◌<◌}
use mathlib.Core.Path.{◌≡◌, refl, sym, ap, ap₂, ◌∙◌, subst}
use mathlib.Core.List.{List}
use mathlib.Core.Bool.{Bool, true, false, cond}
use native.Mathlib.Omega.{arith}
use native.Mathlib.Nat.{not-suc-le-zero, le_refl, le_trans, mul-le-mul}
use lib.IntN.{ℤ, pos, nat_abs}
use lib.ListN.{length, get_or}
use mir.Syntax.{w64}
use mir.Val.{SFits}
use Rattle.num_whole.specs.Tests.{less, same, pick, both, either}
use Rattle.num_whole.specs.Lists.{all, ascend}
use Rattle.num_whole.proofs.Cases.{apart, yes, no, fails, holds, last_fails, by_cases, is_same, same_true, less_true, less_false, not_less}
use Rattle.num_whole.proofs.Ints.{within_fits}
use Rattle.num_packed.proofs.Tests.{between_bounds, not_above, not_under}
use Rattle.num_packed.specs.Triangle.{tri}
use Rattle.num_packed.specs.Sound.{entry, is_zero, breaks, breaks_side}
use Rattle.num_packed.specs.Found.{Found, none, at}
use Rattle.num_packed.proofs.Found.{first_none, first_sound, first_number, columns_none, columns_sound, columns_inside}
use Rattle.norm_system.specs.System.{System, arc_ok, normal_label_ok, key_of, file_square_unit, bound_of, Where, nowhere, in_matrix, in_rights, in_accepted, in_square, after_matrix, after_rights, totals_where, sides_where, breaks_in, sums_where, unsound_stored, unsound_in}

-- ---- one part after another
matrix_nowhere : (x : Found) (w : Where) → after_matrix x w ≡ nowhere → (x ≡ none) × (w ≡ nowhere)
unfolding after_matrix
matrix_nowhere none w e = (refl, e)
matrix_nowhere (at k) w e = let z : ◌≡◌ {A = ℕ} 0 1 = cc in absurd (omega arith)

rights_nowhere : (x : Found) (w : Where) → after_rights x w ≡ nowhere → (x ≡ none) × (w ≡ nowhere)
unfolding after_rights
rights_nowhere none w e = (refl, e)
rights_nowhere (at k) w e = let z : ◌≡◌ {A = ℕ} 0 1 = cc in absurd (omega arith)

pick_nowhere : (b : Bool) (v w : Where) → (v ≡ nowhere → ⊥) → pick b v w ≡ nowhere → (b ≡ false) × (w ≡ nowhere)
unfolding pick
pick_nowhere true v w h e = absurd (h e)
pick_nowhere false v w h e = (refl, e)

-- ---- the sums of a system
pub record SoundSums (arcs p : ℕ) (m r : List ℤ) (n q : ℕ) : Type 0 where
  pub matrix : (i j : ℕ) → i ≤ j → j < p → breaks (pos (bound_of arcs n (2 ^ 58))) m i j ≡ false
  pub rights : (i : ℕ) → i < p → breaks_side (pos (bound_of arcs n (2 ^ 55))) m r i ≡ false
  pub accepted : n ≤ arcs * 4096
  pub square : q ≤ bound_of arcs n file_square_unit

module _ (arcs p : ℕ) (m r : List ℤ) (n q : ℕ) where
  pub where_sound : sums_where false arcs p m r n q ≡ nowhere → SoundSums arcs p m r n q
  unfolding sums_where sides_where totals_where breaks_in both either
  where_sound e =
      let a = matrix_nowhere _ _ e in
      let b = rights_nowhere _ _ a.1 in
      let c = pick_nowhere _ _ _ (λ z. let y : ◌≡◌ {A = ℕ} 0 1 = cc in omega arith) b.1 in
      let d = pick_nowhere _ _ _ (λ z. let y : ◌≡◌ {A = ℕ} 0 1 = cc in omega arith) c.1 in
      record {
        matrix = columns_none _ p a.0;
        rights = first_none _ p b.0;
        accepted = less_false _ _ c.0;
        square = less_false _ _ d.0;
      }

  pub sound_where : SoundSums arcs p m r n q → sums_where false arcs p m r n q ≡ nowhere
  unfolding sums_where sides_where totals_where after_matrix after_rights breaks_in both either
  sound_where s =
      let a = columns_sound (breaks (pos (bound_of arcs n (2 ^ 58))) m) p s.matrix in
      let b = first_sound (breaks_side (pos (bound_of arcs n (2 ^ 55))) m r) p s.rights in
      rw (a, b) (sym (no _ _ _ (not_less _ _ s.accepted) (no _ _ _ (not_less _ _ s.square) refl)))

-- ---- bounds
pub bound_most : (arcs n unit : ℕ) → bound_of arcs n unit ≤ arcs * unit
unfolding bound_of
bound_most arcs n unit =
    by_cases (same n 0)
    (λ t. subst (λ b. b ≤ arcs * unit) (yes _ _ _ t refl) (omega arith))
    (λ t. subst (λ b. b ≤ arcs * unit) (no _ _ _ t refl) (omega arith))

pub cond_false : (a b : Bool) → cond a true b ≡ false → (a ≡ false) × (b ≡ false)
cond_false true b e = absurd (apart e)
cond_false false b e = (refl, e)

pub entry_within : (b : ℕ) (m : List ℤ) (i j : ℕ) → breaks (pos b) m i j ≡ false → nat_abs (entry m i j) ≤ b
unfolding breaks
entry_within b m i j e =
    let x = cond_false _ _ e in
    let y = cond_false _ _ x.1 in
    between_bounds b (entry m i j) x.0 y.0

pub side_within : (b : ℕ) (m r : List ℤ) (i : ℕ) → breaks_side (pos b) m r i ≡ false → nat_abs (get_or r i (pos 0)) ≤ b
unfolding breaks_side
side_within b m r i e =
    let x = cond_false _ _ e in
    let y = cond_false _ _ x.1 in
    between_bounds b (get_or r i (pos 0)) x.0 y.0

-- what a bound lets pass, a wider one does
pub entry_wider : (b c : ℕ) (m : List ℤ) (i j : ℕ) → b ≤ c → breaks (pos b) m i j ≡ false → breaks (pos c) m i j ≡ false
unfolding breaks
entry_wider b c m i j h e =
    let x = cond_false _ _ e in
    let y = cond_false _ _ x.1 in
    let within = le_trans (between_bounds b (entry m i j) x.0 y.0) h in
    rw (not_above c (entry m i j) within, not_under c (entry m i j) within) y.1

pub side_wider : (b c : ℕ) (m r : List ℤ) (i : ℕ) → b ≤ c → breaks_side (pos b) m r i ≡ false → breaks_side (pos c) m r i ≡ false
unfolding breaks_side
side_wider b c m r i h e =
    let x = cond_false _ _ e in
    let y = cond_false _ _ x.1 in
    let within = le_trans (between_bounds b (get_or r i (pos 0)) x.0 y.0) h in
    rw (not_above c (get_or r i (pos 0)) within, not_under c (get_or r i (pos 0)) within) y.1

-- ---- each number below that of a triangle is the place of one entry
pub record Entry (p k : ℕ) : Type 0 where
  pub row : ℕ
  pub column : ℕ
  pub upper : row ≤ column
  pub inside : column < p
  pub place : k ≡ tri column + row

pub entry_of : (p k : ℕ) → k < tri p → Entry p k
unfolding tri
entry_of zero k h = absurd (not-suc-le-zero h)
entry_of (suc p) k h =
    by_cases (less k (tri p))
    (λ t. let e = entry_of p k (less_true _ _ t) in
    record { row = e.row; column = e.column; upper = e.upper; inside = omega (arith, e.inside); place = e.place })
    (λ t. let l : tri p ≤ k = less_false _ _ t in
    record { row = k - tri p; column = p; upper = omega arith; inside = omega arith; place = omega arith })

-- ---- an unsound sum is one of its section
matrix_at : (x : Found) (w : Where) (k : ℕ) → (w ≡ in_matrix k → ⊥) → after_matrix x w ≡ in_matrix k → x ≡ at k
unfolding after_matrix
matrix_at none w k h e = absurd (h e)
matrix_at (at j) w k h e = cc

matrix_to : (x : Found) (w : Where) (k : ℕ) → after_matrix x w ≡ in_rights k → w ≡ in_rights k
unfolding after_matrix
matrix_to none w k e = e
matrix_to (at j) w k e = let z : ◌≡◌ {A = ℕ} 0 1 = cc in absurd (omega arith)

rights_at : (x : Found) (w : Where) (k : ℕ) → (w ≡ in_rights k → ⊥) → after_rights x w ≡ in_rights k → x ≡ at k
unfolding after_rights
rights_at none w k h e = absurd (h e)
rights_at (at j) w k h e = cc

rights_not : (x : Found) (w : Where) (k : ℕ) → (w ≡ in_matrix k → ⊥) → after_rights x w ≡ in_matrix k → ⊥
unfolding after_rights
rights_not none w k h e = h e
rights_not (at j) w k h e = let z : ◌≡◌ {A = ℕ} 0 1 = cc in omega arith

module _ (arcs n q k : ℕ) where
  by_totals : (P : Where → Type 0) → P in_accepted → P in_square → P nowhere → P (totals_where arcs n q)
  unfolding totals_where
  by_totals P a b c =
      by_cases (less (arcs * 4096) n)
      (λ t. subst P (yes _ _ _ t refl) a)
      (λ t. subst P (no _ _ _ t refl)
      (by_cases (less (bound_of arcs n file_square_unit) q) (λ u. subst P (yes _ _ _ u refl) b) (λ u. subst P (no _ _ _ u refl) c)))

  totals_not_matrix : totals_where arcs n q ≡ in_matrix k → ⊥
  totals_not_matrix =
      by_totals (λ w. w ≡ in_matrix k → ⊥)
      (λ e. let z : ◌≡◌ {A = ℕ} 0 1 = cc in omega arith)
      (λ e. let z : ◌≡◌ {A = ℕ} 0 1 = cc in omega arith)
      (λ e. let z : ◌≡◌ {A = ℕ} 0 1 = cc in omega arith)

  totals_not_right : totals_where arcs n q ≡ in_rights k → ⊥
  totals_not_right =
      by_totals (λ w. w ≡ in_rights k → ⊥)
      (λ e. let z : ◌≡◌ {A = ℕ} 0 1 = cc in omega arith)
      (λ e. let z : ◌≡◌ {A = ℕ} 0 1 = cc in omega arith)
      (λ e. let z : ◌≡◌ {A = ℕ} 0 1 = cc in omega arith)

module _ (small : Bool) (arcs p : ℕ) (m r : List ℤ) (n q k : ℕ) where
  pub matrix_inside : sums_where small arcs p m r n q ≡ in_matrix k → k < tri p
  unfolding sums_where sides_where
  matrix_inside e = columns_inside _ p k (matrix_at _ _ k (rights_not _ _ k (totals_not_matrix arcs n q k)) e)

  pub rights_inside : sums_where small arcs p m r n q ≡ in_rights k → k < p
  unfolding sums_where sides_where
  rights_inside e = (first_number _ p k (rights_at _ _ k (totals_not_right arcs n q k) (matrix_to _ _ k e))).inside

-- ---- a system that a normal file may hold
pub record SoundSystem (x : System) : Type 0 where
  pub some_arcs : 1 ≤ length x.arcs
  pub few_arcs : length x.arcs ≤ 16
  pub arcs : all arc_ok x.arcs ≡ true
  pub arcs_up : ascend (λ a. a) 0 x.arcs ≡ true
  pub some_labels : 1 ≤ length x.labels
  pub few_labels : length x.labels ≤ 500
  pub labels : all (normal_label_ok x.arcs) x.labels ≡ true
  pub labels_up : ascend key_of 0 x.labels ≡ true
  pub matrix : length x.matrix ≡ tri (length x.labels)
  pub rights : length x.rights ≡ length x.labels
  pub sums : unsound_in x ≡ nowhere

-- ---- the sums that a file of either form stores: sound as a system's are, and in the small form no diagonal is 0
abbrev pub AllSeen : Bool → System → Type 0
AllSeen small x = small ≡ true → (i : ℕ) → i < length x.labels → is_zero (entry x.matrix i i) ≡ false

pub either_false : (a b : Bool) → either a b ≡ false → (a ≡ false) × (b ≡ false)
unfolding either
either_false true b e = absurd (apart e)
either_false false b e = (refl, e)

pub either_none : {a b : Bool} → a ≡ false → b ≡ false → either a b ≡ false
unfolding either
either_none p q = ap₂ either p q

after_none : {x : Found} {w : Where} → x ≡ none → w ≡ nowhere → after_matrix x w ≡ nowhere
unfolding after_matrix
after_none p q = ap₂ after_matrix p q

module _ (small : Bool) (x : System) where
  abbrev bound : ℤ
  bound = pos (bound_of (length x.arcs) x.accepted (2 ^ 58))

  pub stored_sound : unsound_stored small x ≡ nowhere → (unsound_in x ≡ nowhere) × AllSeen small x
  unfolding unsound_stored unsound_in sums_where breaks_in
  stored_sound e =
      let a = matrix_nowhere _ _ e in
      let c = columns_none (breaks_in small bound x.matrix) (length x.labels) a.0 in
      let each : (i j : ℕ) → i ≤ j → j < length x.labels → (both small (both (same i j) (is_zero (entry x.matrix i j))) ≡ false) × (breaks bound x.matrix i j ≡ false) =
      λ i j h g. either_false _ _ (c i j h g) in (
        after_none (columns_sound (breaks_in false bound x.matrix) (length x.labels) (λ i j h g. either_none (sym (fails _ _ refl)) (each i j h g).1)) a.1,
        λ s i g. holds _ _ s (holds _ _ (is_same i i refl) refl) ∙ (each i i (le_refl i) g).0,
      )

  pub sound_stored : unsound_in x ≡ nowhere → AllSeen small x → unsound_stored small x ≡ nowhere
  unfolding unsound_stored unsound_in sums_where breaks_in
  sound_stored e seen =
      let a = matrix_nowhere _ _ e in
      let c = columns_none (breaks_in false bound x.matrix) (length x.labels) a.0 in
      after_none
      (columns_sound (breaks_in small bound x.matrix) (length x.labels) (λ i j h g. either_none (none_here i j g) (either_false _ _ (c i j h g)).1))
      a.1
    where
      none_here : (i j : ℕ) → j < length x.labels → both small (both (same i j) (is_zero (entry x.matrix i j))) ≡ false
      none_here i j g =
          by_cases small
          (λ s. by_cases (same i j)
          (λ t. let d : i ≡ j = same_true i j t in
          last_fails small (last_fails (same i j) (ap (λ n. is_zero (entry x.matrix n j)) d ∙ seen s j g)))
          (λ t. last_fails small (sym (fails _ _ t))))
          (λ s. sym (fails _ _ s))

-- ---- sound sums for at most sixteen arcs are numbers of 64 bits, whatever the number of labels
module _ (x : System) (few_arcs : length x.arcs ≤ 16) (matrix : length x.matrix ≡ tri (length x.labels))
    (rights : length x.rights ≡ length x.labels) (sums : unsound_in x ≡ nowhere)
  where
    all_sums : SoundSums (length x.arcs) (length x.labels) x.matrix x.rights x.accepted x.square
    unfolding unsound_in unsound_stored
    all_sums = where_sound _ _ _ _ _ _ sums

    bound_fits : (n unit : ℕ) → unit ≤ 2 ^ 58 → bound_of (length x.arcs) n unit ≤ 2 ^ 62
    bound_fits n unit h = le_trans (bound_most (length x.arcs) n unit) (mul-le-mul few_arcs h)

    pub matrix_fits : (k : ℕ) → k < length x.matrix → SFits w64 (get_or x.matrix k (pos 0))
    matrix_fits k h =
        let e = entry_of (length x.labels) k (omega (arith, matrix)) in
        let within = entry_within _ x.matrix e.row e.column (all_sums.matrix e.row e.column e.upper e.inside) in
        let small : nat_abs (get_or x.matrix k (pos 0)) ≤ 2 ^ 62 =
        subst (λ n. nat_abs (get_or x.matrix n (pos 0)) ≤ 2 ^ 62) (sym e.place) (le_trans within (bound_fits x.accepted (2 ^ 58) (omega arith))) in
        within_fits w64 _ small tt

    pub rights_fit : (k : ℕ) → k < length x.rights → SFits w64 (get_or x.rights k (pos 0))
    rights_fit k h =
        let within = side_within _ x.matrix x.rights k (all_sums.rights k (omega (arith, rights))) in
        within_fits w64 _ (le_trans within (bound_fits x.accepted (2 ^ 55) (omega arith))) tt

    pub accepted_fits : x.accepted < 256 ^ 8
    accepted_fits = omega (arith, all_sums.accepted, few_arcs)

    pub square_fits : x.square < 256 ^ 8
    square_fits = omega (arith, all_sums.square, bound_fits x.accepted file_square_unit (omega arith))
