-- A word at a place is one of the bytes from there on; past their end each byte counts as 0.
use Rattle.std.proofs.Common.{◌≡◌, ℕ, zero, suc, ◌+◌, ◌-◌, ◌*◌, ◌^◌, ◌≤◌, List, length, length-drop, get_or, take, drop, refl, sym, ◌∙◌, ap, ap₂, arith}
use lib.ListN.{get_or-eq_default}
use lib.Seq.{get_or-drop, length-take-le}
use Rattle.byte_words.specs.Words.{word}
use Rattle.byte_words.proofs.Words.{word_join}
use Rattle.byte_words.proofs.Parts.{word_part}

word_drop : (k : ℕ) (s : List ℕ) (at j m : ℕ) → m ≡ at + j → word k (drop at s) j ≡ word k s m
unfolding word
word_drop zero s at j m e = refl
word_drop (suc k) s at j m e =
    ap₂ (λ a b. a + 256 * b) (get_or-drop at s j 0 ∙ ap (λ i. get_or s i 0) (sym e)) (word_drop k s at (suc j) (suc m) (omega arith))

word_none : (k : ℕ) (s : List ℕ) (at : ℕ) → length s ≤ at → word k s at ≡ 0
unfolding word
word_none zero s at h = refl
word_none (suc k) s at h = omega (arith, get_or-eq_default s 0 h, word_none k s (suc at) (omega arith))

-- all of its bytes are there
pub word_whole : (k n : ℕ) (s b : List ℕ) (at : ℕ) → n ≡ k → b ≡ take n (drop at s) → at + k ≤ length s → word (length b) b 0 ≡ word k s at
word_whole k n s b at e cut h =
    let size : length (take k (drop at s)) ≡ k = length-take-le k (drop at s) (omega (arith, length-drop at s)) in
    rw (cut, e) (rw size (word_part k s at k 0 at (omega arith) (omega arith)))

-- fewer are
pub word_short : (k : ℕ) (s b : List ℕ) (at : ℕ) → b ≡ drop at s → length b ≤ k → word (length b) b 0 ≡ word k s at
word_short k s b at e h =
    let n : k ≡ length b + (k - length b) = omega arith in
    let none : word (k - length b) b (0 + length b) ≡ 0 = word_none _ b _ (omega arith) in
    let all : word (length b + (k - length b)) b 0 ≡ word (length b) b 0 + 256 ^ length b * word (k - length b) b (0 + length b) = word_join _ _ b 0 in
    let same : word k b 0 ≡ word (length b) b 0 = ap (λ m. word m b 0) n ∙ (let front = rw none at all in omega arith) in
    sym same ∙ ap (λ l. word k l 0) e ∙ word_drop k s at 0 at (omega arith)
