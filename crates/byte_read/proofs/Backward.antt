-- Bytes read from the last to the first: what has been read is the number of the tail, and the rest is still to come.
use Rattle.std.proofs.Common.{◌≡◌, ℕ, ◌+◌, ◌*◌, ◌^◌, ◌<◌, ◌≤◌, List, [], ◌∷◌, ◌++◌, length, length-append, append_assoc, append-nil, refl, sym, ◌∙◌, ap, arith}
use Rattle.std.specs.List.{push}
use native.Mathlib.Nat.{pow-suc}
use lib.Dec.{lit<}
use Rattle.byte_words.specs.Words.{word}
use Rattle.byte_words.proofs.Words.{word_after, pow_256}

pub record Reads (all rest : List ℕ) (v : ℕ) : Type 0 where
  pub tail : List ℕ
  pub is : all ≡ rest ++ tail
  pub value : v ≡ word (length tail) tail 0
  pub small : v < 256 ^ length tail

pub reads_none : (all : List ℕ) → Reads all all 0
unfolding word
reads_none all = record { tail = []; is = sym (append-nil all); value = refl; small = lit< tt }

pub reads_room : {all rest : List ℕ} {v : ℕ} (p : List ℕ) (x : ℕ) → Reads all rest v → rest ≡ push p x → length all ≤ 8 → v < 256 ^ 7
reads_room {all} {rest} {v} p x r e h =
    let n : length r.tail ≤ 7 = omega (arith, ap length r.is, length-append rest r.tail, ap length e, length-append p (x ∷ [])) in
    omega (arith, pow_256 (length r.tail) 7 n, r.small)

pub reads_turn : {all rest : List ℕ} {v : ℕ} (p : List ℕ) (x : ℕ) → Reads all rest v → rest ≡ push p x → x < 256 → Reads all p (v * 256 + x)
unfolding word
reads_turn {all} {rest} {v} p x r e h =
    let more : word (length r.tail) (x ∷ r.tail) 1 ≡ word (length r.tail) r.tail 0 = word_after (length r.tail) (x ∷ []) r.tail 0 in
    record {
      tail = x ∷ r.tail;
      is = r.is ∙ ap (λ (l : List ℕ). l ++ r.tail) e ∙ append_assoc p (x ∷ []) r.tail;
      value = omega (arith, more, r.value);
      small = omega (arith, pow-suc 256 (length r.tail), r.small);
    }

pub reads_all : (all rest : List ℕ) (v : ℕ) → Reads all rest v → length rest ≡ 0 → (v ≡ word (length all) all 0) × (v < 256 ^ length all)
reads_all all [] v r e = rw r.is (r.value, r.small)
reads_all all (x ∷ rest) v r e = absurd (omega arith)
