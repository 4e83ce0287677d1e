-- A run taken record by record: what is left to take decides the end and the answers.
-- Assumes nothing.
use Prim.Native.Nat.{ℕ, suc, ◌+◌, ◌-◌, ◌*◌, ◌/◌, ◌≤◌, ◌<◌}
use mathlib.Core.Path.{◌≡◌, refl, sym, ap, ap₂, ◌∙◌, subst}
use mathlib.Core.List.{List, ◌∷◌}
use native.Mathlib.Nat.{sub-zero, div-mul-le_self, mul-le-mul_right, suc-mul}
use native.Mathlib.Omega.{arith}
use lib.IntN.{ℤ}
use lib.ListN.{length, take, drop, set, length-set}
use lib.Seq.{drop-drop}
use Rattle.byte_words.specs.Words.{lay}
use Rattle.arc_limits.specs.declared.Settings.{Settings}
use Rattle.num_packed.specs.Triangle.{tri}
use Rattle.take_state.specs.State.{State}
use Rattle.take_laws.specs.Machine.{run, answers}
use Rattle.take_laws.specs.Taking.{Frame, frame, record_answer, record_step, cut}
use Rattle.take_steps.specs.Runs.{Prepared}
use Rattle.take_steps.proofs.Steps.{same_rights, prepared_step}

-- i records are taken, and the next begins at `at`: the whole is what the rest makes of the state and of the answers so far
pub record Going (f : Frame) (size n : ℕ) (l : List ℕ) (s₀ : State) (out₀ : List ℕ) (i at : ℕ) (s : State) (out : List ℕ) : Type 0 where
  pub ends : run (record_step f) s₀ (cut size n l) ≡ run (record_step f) s (cut size (n - i) (drop at l))
  pub told : lay out₀ 0 (answers (record_step f) (record_answer f) s₀ (cut size n l)) ≡ lay out i (answers (record_step f) (record_answer f) s (cut size (n - i) (drop at l)))

module _ (f : Frame) (size n : ℕ) (l : List ℕ) (s₀ : State) (out₀ : List ℕ) where
  pub going_start : Going f size n l s₀ out₀ 0 0 s₀ out₀
  going_start =
      let e : cut size n l ≡ cut size (n - 0) (drop 0 l) = ap (λ k. cut size k l) (sym (sub-zero n)) in
      record { ends = ap (run (record_step f) s₀) e; told = ap (λ bs. lay out₀ 0 (answers (record_step f) (record_answer f) s₀ bs)) e }

  module _ (i at : ℕ) (s : State) (out : List ℕ) (so_far : Going f size n l s₀ out₀ i at s out) where
    pub going_end : n ≤ i → (s ≡ run (record_step f) s₀ (cut size n l)) × (out ≡ lay out₀ 0 (answers (record_step f) (record_answer f) s₀ (cut size n l)))
    unfolding cut run answers lay
    going_end done =
        let none : n - i ≡ 0 = omega arith in (
          sym (so_far.ends ∙ ap (λ k. run (record_step f) s (cut size k (drop at l))) none),
          sym (so_far.told ∙ ap (λ k. lay out i (answers (record_step f) (record_answer f) s (cut size k (drop at l)))) none),
        )

    module _ (more : i < n) where
      abbrev b : List ℕ
      b = take size (drop at l)

      next : cut size (n - i) (drop at l) ≡ b ∷ cut size (n - (i + 1)) (drop (at + size) l)
      unfolding cut
      next =
          let one : n - i ≡ suc (n - (i + 1)) = omega arith in
          let on : size + at ≡ at + size = omega arith in
          ap (λ k. cut size k (drop at l)) one ∙ ap (λ r. b ∷ cut size (n - (i + 1)) r) (drop-drop size at l)

      pub going_next : (s' : State) (v : ℕ) → s' ≡ record_step f b s → v ≡ record_answer f b s
          → Going f size n l s₀ out₀ (i + 1) (at + size) s' (set out i v)
      unfolding run answers lay
      going_next s' v e a =
          let k : suc i ≡ i + 1 = omega arith in
          record {
            ends = so_far.ends ∙ ap (run (record_step f) s) next ∙ ap (λ u. run (record_step f) u (cut size (n - (i + 1)) (drop (at + size) l))) (sym e);
            told = so_far.told ∙ ap (λ bs. lay out i (answers (record_step f) (record_answer f) s bs)) next
                ∙ ap₂ (λ u w. lay (set out i w) (suc i) (answers (record_step f) (record_answer f) u (cut size (n - (i + 1)) (drop (at + size) l)))) (sym e) (sym a)
                ∙ ap (λ j. lay (set out i v) j (answers (record_step f) (record_answer f) s' (cut size (n - (i + 1)) (drop (at + size) l)))) k;
          }

-- the next record is whole
pub part_inside : (length size i at : ℕ) → i < length / size → at ≡ i * size → at + size ≤ length
part_inside length size i at more here =
    let h : (i + 1) * size ≤ length / size * size = mul-le-mul_right size (omega arith) in
    let one : suc i * size ≡ i * size + size = suc-mul i size in
    let same : (i + 1) * size ≡ suc i * size = ap (λ k. k * size) (omega arith) in
    omega (arith, div-mul-le_self length size)

-- and has its length
pub part_size : (at size : ℕ) → size ≡ at + size - at
part_size at size = omega arith

-- the next record's first byte
pub next_at : (size i at : ℕ) → at ≡ i * size → at + size ≡ (i + 1) * size
next_at size i at here =
    let one : suc i * size ≡ i * size + size = suc-mul i size in
    let same : (i + 1) * size ≡ suc i * size = ap (λ k. k * size) (omega arith) in
    omega arith

-- ---- what stays
module _ (a : Settings) (ns : List ℕ) (cs : List ℤ) (p : ℕ) (s : State) (long : length s.rights ≡ p) (h : Prepared a ns cs s) (b : List ℕ) (s' : State) (e : s' ≡ record_step (frame a p ns cs) b s) where
  here : s' ≡ record_step (frame a (length s.rights) ns cs) b s
  here = rw long e

  pub stays : Prepared a ns cs s'
  stays = subst (Prepared a ns cs) (sym here) (prepared_step a ns cs s h b)

  pub stays_long : length s'.rights ≡ p
  stays_long = ap (λ u. length u.rights) here ∙ same_rights a ns cs s h b ∙ long

-- ---- all that a turn of the loop keeps
pub record Turn (a : Settings) (ns : List ℕ) (cs : List ℤ) (p size n : ℕ) (l : List ℕ) (s₀ : State) (out₀ : List ℕ) (i at : ℕ) (s : State) (room : List ℤ) (out : List ℕ) : Type 0 where
  pub few : i ≤ n
  pub here : at ≡ i * size
  pub rights_long : length s.rights ≡ p
  pub matrix_long : length s.matrix ≡ tri p
  pub room_long : length room ≡ p
  pub out_long : length out ≡ length out₀
  pub prepared : Prepared a ns cs s
  pub going : Going (frame a p ns cs) size n l s₀ out₀ i at s out

module _ (a : Settings) (ns : List ℕ) (cs : List ℤ) (size n : ℕ) (l : List ℕ) (s₀ : State) (out₀ : List ℕ) where
  pub turn_start : (room : List ℤ) → Prepared a ns cs s₀ → length room ≡ length s₀.rights → Turn a ns cs (length s₀.rights) size n l s₀ out₀ 0 0 s₀ room out₀
  turn_start room h k =
      record {
        few = omega arith;
        here = omega arith;
        rights_long = refl;
        matrix_long = h.matrix;
        room_long = k;
        out_long = refl;
        prepared = h;
        going = going_start (frame a (length s₀.rights) ns cs) size n l s₀ out₀;
      }

  module _ (p i at : ℕ) (s : State) (room : List ℤ) (out : List ℕ) (t : Turn a ns cs p size n l s₀ out₀ i at s room out) where
    pub turn_next : i < n → (s' : State) (v : ℕ) (room' : List ℤ) → length room' ≡ p → s' ≡ record_step (frame a p ns cs) (take size (drop at l)) s
        → v ≡ record_answer (frame a p ns cs) (take size (drop at l)) s → Turn a ns cs p size n l s₀ out₀ (i + 1) (at + size) s' room' (set out i v)
    turn_next more s' v room' k e w =
        let b = take size (drop at l) in
        let kept = stays a ns cs p s t.rights_long t.prepared b s' e in
        let wide = stays_long a ns cs p s t.rights_long t.prepared b s' e in
        record {
          few = omega arith;
          here = next_at size i at t.here;
          rights_long = wide;
          matrix_long = kept.matrix ∙ ap tri wide;
          room_long = k;
          out_long = length-set out i v ∙ t.out_long;
          prepared = kept;
          going = going_next (frame a p ns cs) size n l s₀ out₀ i at s out t.going more s' v e w;
        }
