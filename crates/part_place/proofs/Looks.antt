-- What is read off a position by value: the bytes that count, and the front of them with a part.
-- Assumes nothing.
use Rattle.std.specs.Prelude.{Result, Ok, Err, IfOk}
use Prim.Native.Nat.{ℕ, ◌+◌, ◌-◌, ◌≤◌, min}
use mathlib.Core.Path.{◌≡◌, refl, sym, ap, ap₂, ◌∙◌}
use mathlib.Core.List.{List, ◌++◌, append_assoc}
use mathlib.Core.Bool.{Bool, true, false}
use native.Mathlib.Omega.{arith}
use lib.ListN.{length, take, drop, replicate, length-append, take-append-drop}
use lib.Seq.{take_at, take_all, length-take-le}
use Rattle.num_whole.specs.Tests.{less}
use Rattle.num_whole.specs.Lists.{padded}
use Rattle.num_whole.proofs.Cases.{by_cases, yes, no, holds, fails, less_true, less_false}
use Rattle.num_whole.proofs.Padded.{put_padded}
use Rattle.num_limits.specs.Capacities.{parameters_most, records_most}
use Rattle.byte_words.specs.Words.{lay}
use Rattle.byte_words.proofs.Words.{lay_append}
use Rattle.part_laws.specs.Entries.{position_most, placed_by, ends_by, placed, ends, led, tidy, fair}
use Rattle.part_laws.specs.declared.Position as ByValue
use Rattle.part_laws.proofs.ByValue.{tidy_long}
use Rattle.refusal.specs.Told.{told_placed}
use Rattle.refusal.specs.declared.Fault.{Fault}
use Rattle.arc_read.specs.declared.ArcRead.{ArcRead}
use Rattle.part_place.specs.Looks.{OpensAt}

-- a length past a room is as all of it
pub least_take : (n m : ℕ) (l : List ℕ) → length l ≡ m → take (min n m) l ≡ take n l
least_take n m l e =
    by_cases (less n m)
    (λ f. let h : min n m ≡ n = omega (arith, less_true _ _ f) in rw h)
    (λ f. let h : min n m ≡ m = omega (arith, less_false _ _ f) in
    rw h (take_all m l (omega arith) ∙ sym (take_all n l (omega (arith, less_false _ _ f)))))

-- what is opened of few bytes
pub opens_within : (o : Result ArcRead Fault) (n : ℕ) → n ≤ position_most
    → IfOk o (λ a. (a.heading.parameters ≤ parameters_most) × (a.start ≤ n) × (a.count ≤ records_most))
    → IfOk o (λ a. (a.heading.parameters ≤ parameters_most) × (a.start ≤ position_most) × (a.count ≤ records_most))
opens_within (Ok a) n h f = (f.0, omega arith, f.2)
opens_within (Err x) n h f = tt

-- ---- bytes put one after another into zeros
pub kept_so : (n : ℕ) (a xs ys : List ℕ) → length xs + length ys ≤ n → a ≡ lay (lay (replicate n 0) 0 xs) (length xs) ys → a ≡ padded n 0 (xs ++ ys)
unfolding lay
kept_so n a xs ys h e =
    e ∙ lay_append (replicate n 0) 0 (length xs) xs ys (omega arith) ∙ put_padded n 0 (xs ++ ys) (omega (arith, length-append xs ys))

-- ---- the front of bytes and of others after them
pub front_cut : (x bytes : List ℕ) (m n : ℕ) → length x ≤ m → n ≡ min (m - length x) (length bytes) → x ++ take n bytes ≡ take m (x ++ bytes)
front_cut x bytes m n fits is =
    let n-long : length (take n bytes) ≡ n = length-take-le n bytes (omega arith) in
    let both_long : length (x ++ take n bytes) ≡ length x + n = length-append x (take n bytes) ∙ ap (λ b. length x + b) n-long in
    let apart : x ++ bytes ≡ (x ++ take n bytes) ++ drop n bytes =
    ap (λ z. x ++ z) (sym (take-append-drop n bytes)) ∙ sym (append_assoc x (take n bytes) (drop n bytes)) in
    sym (by_cases (less (length x + length bytes) m)
    (λ e. let all : n ≡ length bytes = omega (arith, less_true _ _ e) in
    let fit : take n bytes ≡ bytes = take_all n bytes (omega arith) in
    take_all m (x ++ bytes) (omega (arith, length-append x bytes, less_true _ _ e)) ∙ ap (λ z. x ++ z) (sym fit))
    (λ e. let full : length x + n ≡ m = omega (arith, less_false _ _ e) in
    ap (take m) apart ∙ take_at (x ++ take n bytes) (drop n bytes) m (both_long ∙ full)))

-- ---- whether the entries give it
module _ (p : ByValue.Position) (o : Result ArcRead Fault) (room : length p.kept ≡ position_most) (v : OpensAt p o) {x : Bool} where
  pub fair_over : tidy p ≡ true → p.over ≡ true → x ≡ ends_by p.length p.taken (told_placed o) → x ≡ fair p
  unfolding fair led ends
  fair_over t f e =
      e ∙ ap₂ (λ n j. ends_by n p.taken j) (sym (tidy_long p room t)) v.told ∙ holds _ _ t (yes _ _ _ f refl)

  pub fair_on : tidy p ≡ true → p.over ≡ false → x ≡ placed_by p.length p.taken (told_placed o) → x ≡ fair p
  unfolding fair led placed
  fair_on t f e =
      e ∙ ap₂ (λ n j. placed_by n p.taken j) (sym (tidy_long p room t)) v.told ∙ holds _ _ t (no _ _ _ f refl)

pub fair_not : (p : ByValue.Position) → tidy p ≡ false → false ≡ fair p
unfolding fair
fair_not p t = fails _ _ t
