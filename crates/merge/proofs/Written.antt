-- What it says that a merged file was written: both files are accepted, nothing refuses, and where the bytes stand.
-- Assumes nothing.
use mathlib.Core.Path.{◌≡◌, refl, sym, ap, ◌∙◌, subst}
use mathlib.Core.List.{List}
use Prim.Native.Nat.{ℕ, ◌≤◌}
use native.Mathlib.Omega.{arith}
use lib.ListN.{length, take, drop}
use lib.Seq.{drop_at}
use Rattle.num_whole.specs.Tests.{same}
use Rattle.num_whole.specs.Answer.{good}
use Rattle.num_whole.proofs.Cases.{by_cases, yes, no, same_true, less_false}
use Rattle.byte_words.specs.Words.{lay}
use Rattle.byte_words.proofs.Words.{lay_front}
use Rattle.refusal.proofs.Firsts.{first_none, when_none}
use Rattle.norm_system.specs.System.{System}
use Rattle.norm_system.proofs.Sound.{SoundSystem}
use Rattle.norm_kinds.specs.Bytes.{normal_bytes}
use Rattle.norm_read.specs.Normal.{Normal, read_normal}
use Rattle.norm_read.proofs.Accepted.{accepted_sound}
use Rattle.merge_laws.specs.Merge.{merged_of, merge_number}
use Rattle.merge_put.specs.Parts.{normal_or, normal_in, system_in_file}
use Rattle.byte_section.proofs.Walk.{by_judged}
use Rattle.byte_section.proofs.Writing.{left_new}
use Rattle.merge_put.proofs.Loaded.{front}
use Rattle.merge.specs.Files.{wrote, in_file, refusing, merged_bytes, pair_number, pair_answer, pair_left, merge_answer, merge_left}
use Rattle.merge.proofs.Outcomes.{pair_written, first_bad, second_bad, both_good}

-- ---- files that are accepted
pub accepted : (s : List ℕ) (x : Normal) → read_normal s ≡ good x → read_normal s ≡ good (normal_in s)
unfolding normal_in normal_or
accepted s x e = e ∙ ap good (sym (ap normal_or e))

pub holds_sound : (s : List ℕ) → read_normal s ≡ good (normal_in s) → SoundSystem (system_in_file s)
unfolding system_in_file
holds_sound s e = accepted_sound s (normal_in s) e

-- ---- what it says that a file was written
never : {n m : ℕ} → wrote n ≡ refusing m → ⊥
never e = let z : ◌≡◌ {A = ℕ} 0 1 = cc in omega arith

never_in : {n k number place : ℕ} → wrote n ≡ in_file k number place → ⊥
never_in e = let z : ◌≡◌ {A = ℕ} 0 1 = cc in omega arith

-- of two systems
record Laid (x y : System) (out : List ℕ) (n : ℕ) : Type 0 where
  none_refuses : merge_number x y ≡ 0
  fits : length (normal_bytes (merged_of x y)) ≤ length out
  long : n ≡ length (normal_bytes (merged_of x y))
  whole : pair_left x y out ≡ lay out 0 (normal_bytes (merged_of x y))

pair_laid : (x y : System) (out : List ℕ) (n : ℕ) → pair_answer x y (length out) ≡ wrote n → Laid x y out n
unfolding pair_answer pair_left pair_number merged_bytes
pair_laid x y out n e =
    by_cases (same (pair_number x y (length out)) 0)
    (λ t. let z = first_none _ _ (same_true (pair_number x y (length out)) 0 t) in
    let w = first_none _ _ z.1 in
    record {
      none_refuses = z.0;
      fits = less_false _ _ (when_none 20 _ (λ y. omega arith) w.0);
      long = one (sym e ∙ sym (yes _ _ _ t refl));
      whole = sym (left_new (merge_number x y) (merged_bytes x y) out (same_true _ _ t));
    })
    (λ t. absurd (never (sym e ∙ sym (no _ _ _ t refl))))
  where
    one : {n m : ℕ} → wrote n ≡ wrote m → n ≡ m
    one e = cc

-- of two files: both are accepted, nothing refuses, the room's front is the merged file, and "A longer buffer keeps its rest."
pub record Written (a b out : List ℕ) (n : ℕ) : Type 0 where
  pub first_read : read_normal a ≡ good (normal_in a)
  pub second_read : read_normal b ≡ good (normal_in b)
  pub first_sound : SoundSystem (system_in_file a)
  pub second_sound : SoundSystem (system_in_file b)
  pub none_refuses : merge_number (system_in_file a) (system_in_file b) ≡ 0
  pub long : n ≡ length (normal_bytes (merged_of (system_in_file a) (system_in_file b)))
  pub fits : n ≤ length out
  pub front : take n (merge_left a b out) ≡ normal_bytes (merged_of (system_in_file a) (system_in_file b))
  pub rest : drop n (merge_left a b out) ≡ drop n out
  pub whole : merge_left a b out ≡ lay out 0 (normal_bytes (merged_of (system_in_file a) (system_in_file b)))

written_both : (a b out : List ℕ) (n : ℕ) → read_normal a ≡ good (normal_in a) → read_normal b ≡ good (normal_in b)
    → merge_answer a b (length out) ≡ wrote n → Written a b out n
written_both a b out n e f w =
    let both = both_good a b out e f in
    let p = pair_laid (system_in_file a) (system_in_file b) out n (both.0 ∙ w) in
    let bytes = normal_bytes (merged_of (system_in_file a) (system_in_file b)) in
    let left : merge_left a b out ≡ lay out 0 bytes = sym both.1 ∙ p.whole in
    let fits : n ≤ length out = subst (λ k. k ≤ length out) (sym p.long) p.fits in
    record {
      first_read = e;
      second_read = f;
      first_sound = holds_sound a e;
      second_sound = holds_sound b f;
      none_refuses = p.none_refuses;
      long = p.long;
      fits = fits;
      front = ap (take n) left ∙ front out bytes n (sym p.long) fits;
      rest = ap (drop n) (left ∙ lay_front out bytes p.fits) ∙ drop_at bytes (drop (length bytes) out) n (sym p.long) ∙ ap (λ k. drop k out) (sym p.long);
      whole = left;
    }

pub written_file : (a b out : List ℕ) (n : ℕ) → merge_answer a b (length out) ≡ wrote n → Written a b out n
written_file a b out n w =
    by_judged (read_normal a)
    (λ x e. by_judged (read_normal b)
    (λ y f. written_both a b out n (accepted a x e) (accepted b y f) w)
    (λ number place f. absurd (never_in (sym w ∙ sym (second_bad a b x number place out e f).0))))
    (λ number place e. absurd (never_in (sym w ∙ sym (first_bad a b number place out e).0)))

-- and the other way: a file is written where both are accepted, nothing refuses, and there is room
pub written_where : (a b out : List ℕ) → read_normal a ≡ good (normal_in a) → read_normal b ≡ good (normal_in b) → merge_number (system_in_file a) (system_in_file b) ≡ 0
    → length (normal_bytes (merged_of (system_in_file a) (system_in_file b))) ≤ length out
    → merge_answer a b (length out) ≡ wrote (length (normal_bytes (merged_of (system_in_file a) (system_in_file b))))
unfolding merged_bytes
written_where a b out e f z h =
    sym (both_good a b out e f).0 ∙ sym (pair_written (system_in_file a) (system_in_file b) z out _ _ h refl refl).0
