-- Sums that are sound place by place, as a file's judge finds them, are sound label by label, and back.
-- Assumes nothing.
use mathlib.Core.Path.{◌≡◌, refl, sym, ap, ap₂, ◌∙◌, subst}
use mathlib.Core.Bool.{true}
use Prim.Native.Nat.{ℕ, ◌*◌, ◌^◌, ◌≤◌, ◌<◌, zero-le}
use native.Mathlib.Nat.{le_refl}
use native.Mathlib.Omega.{arith}
use lib.IntN.{pos, nat_abs}
use lib.ListN.{length, get_or}
use Rattle.num_whole.specs.Tests.{less, same}
use Rattle.num_whole.proofs.Cases.{less_true, less_false, by_cases}
use Rattle.num_packed.specs.Sound.{entry}
use Rattle.norm_system.specs.System.{System, has, file_square_unit, bound_of, unsound_stored, unsound_in, nowhere}
use Rattle.norm_system.proofs.Sound.{where_sound, sound_where}
use Rattle.norm_labels.specs.Seats.{seat}
use Rattle.norm_labels.proofs.Seats.{seat_at, rise, seats_order, has_at}
use Rattle.norm_labels.specs.Labels.{keys_of, value, side}
use Rattle.norm_labels.proofs.Values.{Formed, keys_long, within, value_there, by_labels, side_none}
use Rattle.norm_labels.proofs.Breaks.{Kept, kept, unbroken, KeptSide, kept_side, unbroken_side}

-- by places, with a bound for the matrix and one for the right sides
pub record SoundAt (b c : ℕ) (x : System) : Type 0 where
  pub matrix : (i j : ℕ) → i ≤ j → j < length x.labels → Kept b x.matrix i j
  pub rights : (i : ℕ) → i < length x.labels → KeptSide c x.matrix x.rights i

-- by labels
pub record SoundBy (b c : ℕ) (x : System) : Type 0 where
  pub small : (k l : ℕ) → nat_abs (value x k l) ≤ b
  pub small_side : (k : ℕ) → nat_abs (side x k) ≤ c
  pub plain : (k : ℕ) → value x k k ≡ pos (nat_abs (value x k k))
  pub row : (k l : ℕ) → value x k k ≡ pos 0 → value x k l ≡ pos 0
  pub column : (k l : ℕ) → value x l l ≡ pos 0 → value x k l ≡ pos 0
  pub silent : (k : ℕ) → value x k k ≡ pos 0 → side x k ≡ pos 0

module _ (x : System) (f : Formed x) where
  -- ---- from places to labels
  pub to_labels : (b c : ℕ) → SoundAt b c x → SoundBy b c x
  unfolding side
  to_labels b c s =
      record {
        small = λ k l. by_labels x f (λ v. nat_abs v ≤ b) k l zero-le (λ p q h. subst (λ v. nat_abs v ≤ b) (sym (value_there x k l f p q h)) (at k l p q h).small);
        small_side = λ k. by_cases (has k (keys_of x))
            (λ p. (s.rights (seat (keys_of x) k) (within x k p)).small)
            (λ p. subst (λ v. nat_abs v ≤ c) (sym (side_none x f k p)) zero-le);
        plain = λ k. by_labels x f (λ v. v ≡ pos (nat_abs v)) k k refl
            (λ p q h. subst (λ v. v ≡ pos (nat_abs v)) (sym (value_there x k k f p q h)) ((at k k p q h).plain refl));
        row = λ k l d. by_labels x f (λ v. v ≡ pos 0) k l refl
            (λ p q h. value_there x k l f p q h ∙ (at k l p q h).row (sym (value_there x k k f p p (le_refl k)) ∙ d));
        column = λ k l d. by_labels x f (λ v. v ≡ pos 0) k l refl
            (λ p q h. value_there x k l f p q h ∙ (at k l p q h).column (sym (value_there x l l f q q (le_refl l)) ∙ d));
        silent = λ k d. by_cases (has k (keys_of x))
            (λ p. (s.rights (seat (keys_of x) k) (within x k p)).silent (sym (value_there x k k f p p (le_refl k)) ∙ d))
            (λ p. side_none x f k p);
      }
    where
      at : (k l : ℕ) → has k (keys_of x) ≡ true → has l (keys_of x) ≡ true → k ≤ l → Kept b x.matrix (seat (keys_of x) k) (seat (keys_of x) l)
      at k l p q h = s.matrix (seat (keys_of x) k) (seat (keys_of x) l) (seats_order (keys_of x) f.ascend k l p q h) (within x l q)

  -- ---- and back
  module _ (i : ℕ) (g : i < length x.labels) where
    pub inside : i < length (keys_of x)
    inside = subst (λ n. i < n) (sym (keys_long x)) g

    has_key : has (get_or (keys_of x) i 0) (keys_of x) ≡ true
    has_key = has_at (keys_of x) i inside

    seat_key : seat (keys_of x) (get_or (keys_of x) i 0) ≡ i
    seat_key = seat_at (keys_of x) f.ascend i inside

  keys_rise : (i j : ℕ) → i ≤ j → j < length x.labels → get_or (keys_of x) i 0 ≤ get_or (keys_of x) j 0
  keys_rise i j h g =
      by_cases (less i j)
      (λ e. let r : get_or (keys_of x) i 0 < get_or (keys_of x) j 0 = rise (keys_of x) f.ascend i j (less_true i j e) (inside j g) in omega arith)
      (λ e. let same : i ≡ j = omega (arith, less_false i j e) in subst (λ n. get_or (keys_of x) i 0 ≤ get_or (keys_of x) n 0) same (le_refl _))

  pub value_at : (i j : ℕ) → i ≤ j → j < length x.labels → value x (get_or (keys_of x) i 0) (get_or (keys_of x) j 0) ≡ entry x.matrix i j
  value_at i j h g =
      let gi : i < length x.labels = omega arith in
      value_there x (get_or (keys_of x) i 0) (get_or (keys_of x) j 0) f (has_key i gi) (has_key j g) (keys_rise i j h g)
      ∙ ap₂ (entry x.matrix) (seat_key i gi) (seat_key j g)

  pub side_at : (i : ℕ) → i < length x.labels → side x (get_or (keys_of x) i 0) ≡ get_or x.rights i (pos 0)
  unfolding side
  side_at i g = ap (λ n. get_or x.rights n (pos 0)) (seat_key i g)

  pub to_places : (b c : ℕ) → SoundBy b c x → SoundAt b c x
  to_places b c s =
      record {
        matrix = λ i j h g.
            let k = get_or (keys_of x) i 0 in
            let l = get_or (keys_of x) j 0 in
            let gi : i < length x.labels = omega arith in
            record {
              small = subst (λ v. nat_abs v ≤ b) (value_at i j h g) (s.small k l);
              plain = λ e. subst (λ n. entry x.matrix i n ≡ pos (nat_abs (entry x.matrix i n))) e (subst (λ v. v ≡ pos (nat_abs v)) (value_at i i (le_refl i) gi) (s.plain k));
              row = λ d. sym (value_at i j h g) ∙ s.row k l (value_at i i (le_refl i) gi ∙ d);
              column = λ d. sym (value_at i j h g) ∙ s.column k l (value_at j j (le_refl j) g ∙ d);
            };
        rights = λ i g.
            record {
              small = subst (λ v. nat_abs v ≤ c) (side_at i g) (s.small_side (get_or (keys_of x) i 0));
              silent = λ d. sym (side_at i g) ∙ s.silent (get_or (keys_of x) i 0) (value_at i i (le_refl i) g ∙ d);
            };
      }

-- ---- a system as its file is judged
pub record Judged (x : System) : Type 0 where
  pub sums : SoundAt (bound_of (length x.arcs) x.accepted (2 ^ 58)) (bound_of (length x.arcs) x.accepted (2 ^ 55)) x
  pub accepted : x.accepted ≤ length x.arcs * 4096
  pub square : x.square ≤ bound_of (length x.arcs) x.accepted file_square_unit

pub judged : (x : System) → unsound_in x ≡ nowhere → Judged x
unfolding unsound_in unsound_stored
judged x e =
    let s = where_sound (length x.arcs) (length x.labels) x.matrix x.rights x.accepted x.square e in
    record {
      sums = record {
        matrix = λ i j h g. kept _ x.matrix i j (s.matrix i j h g);
        rights = λ i g. kept_side _ x.matrix x.rights i (s.rights i g);
      };
      accepted = s.accepted;
      square = s.square;
    }

pub judged_sound : (x : System) → Judged x → unsound_in x ≡ nowhere
unfolding unsound_in unsound_stored
judged_sound x s =
    sound_where (length x.arcs) (length x.labels) x.matrix x.rights x.accepted x.square
    (record {
      matrix = λ i j h g. unbroken _ x.matrix i j (s.sums.matrix i j h g);
      rights = λ i g. unbroken_side _ x.matrix x.rights i (s.sums.rights i g);
      accepted = s.accepted;
      square = s.square;
    })
