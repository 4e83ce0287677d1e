-- An answer in numbers: what is put into the room for two of them.
-- Assumes nothing.
use Rattle.std.specs.Prelude.{Err}
use Prim.Native.Nat.{ℕ, ◌≤◌}
use mathlib.Core.Path.{◌≡◌, refl, sym, ◌∙◌}
use mathlib.Core.List.{List, [], ◌∷◌}
use mathlib.Core.Bool.{true, false}
use lib.ListN.{length}
use Rattle.num_whole.specs.Tests.{pick}
use Rattle.num_whole.specs.Answer.{given}
use Rattle.num_whole.proofs.Cases.{yes, no}
use Rattle.call_rooms.specs.Result.{result_number, result_left}
use Rattle.call_rooms.proofs.Rooms.{roomy}
use Rattle.byte_words.specs.Words.{lay}
use Rattle.arc_heading.specs.declared.Heading.{Heading}
use Rattle.call_heading.specs.Lent.{heading_bytes}
use Rattle.part_laws.specs.Entries.{Told, took, stopped, broken, told_part}
use Rattle.part_laws.specs.declared.PartRefusal.{PartRefusal}
use Rattle.part_laws.specs.declared.PartRefusal.TheVariants.{Stopped, Broken}
use Rattle.call_told.specs.Told.{told_number, told_out, with_all, head_roomy}

-- a refusal is told with the number of all records already
pub stays : (n : ℕ) (r : PartRefusal) → told_part (Err r) ≡ with_all n (told_part (Err r))
stays n (Stopped w) = refl
stays n (Broken f m) = refl

module _ (out : List ℕ) (t : Told) where
  abbrev Tells : ℕ → List ℕ → Type 0
  Tells k left = (k ≡ told_number t) × (left ≡ told_out t out)

  pub told_stopped : (k : ℕ) {n : ℕ} → t ≡ stopped k → n ≡ k → Tells n out
  unfolding told_number told_out
  told_stopped k e i = rw e (i, refl)

  module _ (fits : 2 ≤ length out) where
    pub told_took : (n : ℕ) {k : ℕ} {left : List ℕ} → t ≡ took n
        → (k ≡ result_number (given (n ∷ 0 ∷ [])) (length out)) × (left ≡ result_left (given (n ∷ 0 ∷ [])) out) → Tells k left
    unfolding told_number told_out
    told_took n e put = let f = roomy (n ∷ 0 ∷ []) out fits in rw e (put.0 ∙ sym f.0, put.1 ∙ sym f.1)

    pub told_broken : (k place n : ℕ) {m : ℕ} {left : List ℕ} → t ≡ broken k place n → left ≡ result_left (given (n ∷ place ∷ [])) out → m ≡ k → Tells m left
    unfolding told_number told_out
    told_broken k place n e put i = let f = roomy (n ∷ place ∷ []) out fits in rw e (i, put ∙ sym f.1)

-- ---- a heading in its room, with a number
module _ (h : Heading) (n : ℕ) (room out : List ℕ) where
  abbrev says : Told
  says = pick (head_roomy h (length room)) (took n) (stopped 20)

  abbrev pub Puts : ℕ → List ℕ → List ℕ → Type 0
  Puts k left told =
      (k ≡ told_number says)
      × ((left ≡ pick (head_roomy h (length room)) (lay room 0 (heading_bytes h)) room) × (told ≡ told_out says out))

  pub head_short : head_roomy h (length room) ≡ false → Puts 20 room out
  head_short e =
      let t = told_stopped out says 20 (sym (no _ _ _ e refl)) refl in
      (t.0, (no _ _ _ e refl, t.1))

  pub head_put : head_roomy h (length room) ≡ true → 2 ≤ length out → {k : ℕ} {left told : List ℕ} → left ≡ lay room 0 (heading_bytes h)
      → (k ≡ result_number (given (n ∷ 0 ∷ [])) (length out)) × (told ≡ result_left (given (n ∷ 0 ∷ [])) out) → Puts k left told
  head_put e fits put two =
      let t = told_took out says fits n (sym (yes _ _ _ e refl)) two in
      (t.0, (yes _ _ _ e put, t.1))
