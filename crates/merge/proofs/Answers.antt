-- The tests of the code on two files that were read, each with what it answers: 21 to 24, 20, and the file that is written.
-- Assumes nothing.
use mathlib.Core.Path.{◌≡◌, sym, ◌∙◌, subst}
use mathlib.Core.List.{List}
use mathlib.Core.Bool.{Bool, true, false}
use Prim.Native.Nat.{ℕ, ◌+◌, ◌*◌, ◌≤◌, ◌<◌}
use native.Mathlib.Omega.{arith}
use lib.ListN.{length}
use Rattle.num_whole.specs.Tests.{less, below}
use Rattle.num_whole.specs.Lists.{all}
use Rattle.num_whole.proofs.Cases.{is_less, not_less}
use Rattle.byte_words.specs.Words.{lay}
use Rattle.num_packed.specs.Triangle.{tri}
use Rattle.norm_kinds.specs.Bytes.{normal_bytes}
use Rattle.norm_read.specs.declared.NormalRead.{NormalRead}
use Rattle.merge_join.specs.Join.{union, share}
use Rattle.merge_join.proofs.Shared.{share_counted}
use Rattle.merge_read.specs.Read.{agree_at}
use Rattle.norm_labels.specs.Labels.{keys_of}
use Rattle.merge_laws.specs.Merge.{merged_of, agree, merge_number}
use Rattle.merge_laws.proofs.Numbers.{gives_21, gives_22, gives_23, gives_24, gives_none}
use Rattle.merge_put.specs.Parts.{system_in_file, Joined, ArcsFit}
use Rattle.merge_put.proofs.Known.{Known}
use Rattle.merge_put.proofs.Sums.{labels_agree}
use Rattle.merge_put.proofs.Steps.{bytes_long}
use Rattle.merge.specs.Files.{Merging, wrote, refusing, merged_bytes, pair_answer, pair_left}
use Rattle.merge.proofs.Outcomes.{pair_refused, pair_short, pair_written}
use Rattle.norm_labels.proofs.Values.{arcs_in_order}

module _ (a : List ℕ) (x : NormalRead) (ka : Known a x) (b : List ℕ) (y : NormalRead) (kb : Known b y) where
  -- what is answered, and the room as it is left
  abbrev Answered : Merging → List ℕ → List ℕ → Type 0
  Answered r out left = (r ≡ pair_answer (system_in_file a) (system_in_file b) (length out)) × (left ≡ pair_left (system_in_file a) (system_in_file b) out)

  -- ---- 21 and 22, by the number of united arcs
  module _ (m : ℕ) (count : m ≡ length (union (system_in_file a).arcs (system_in_file b).arcs)) where
    counted : less m (x.arcs + y.arcs) ≡ share (system_in_file a).arcs (system_in_file b).arcs
    counted =
        (λ i. less (count i) (ka.arcs_many i + kb.arcs_many i))
        ∙ share_counted (system_in_file a).arcs (system_in_file b).arcs (arcs_in_order ka.whole) (arcs_in_order kb.whole)

    pub answers_21 : (out : List ℕ) → m < x.arcs + y.arcs → Answered (refusing 21) out out
    answers_21 out h =
        pair_refused (system_in_file a) (system_in_file b) out 21
        (gives_21 (system_in_file a) (system_in_file b) (sym counted ∙ is_less m (x.arcs + y.arcs) h)) (λ z. omega arith)

    module _ (apart : x.arcs + y.arcs ≤ m) where
      none_shared : share (system_in_file a).arcs (system_in_file b).arcs ≡ false
      none_shared = sym counted ∙ not_less m (x.arcs + y.arcs) apart

      pub answers_22 : (out : List ℕ) → 16 < m → Answered (refusing 22) out out
      answers_22 out h =
          pair_refused (system_in_file a) (system_in_file b) out 22
          (gives_22 (system_in_file a) (system_in_file b) none_shared (is_less 16 _ (subst (λ n. 16 < n) count h))) (λ z. omega arith)

      pub arcs_fit : m ≤ 16 → ArcsFit a b m
      arcs_fit h = record { none_shared = none_shared; count = count; few = h }

  -- ---- 23, by the number of united labels, and 24, by the labels that both have
  module _ (m : ℕ) (fit : ArcsFit a b m) (left right : List ℕ) (n : ℕ) (j : Joined a b n left right) where
    few_arcs : less 16 (length (union (system_in_file a).arcs (system_in_file b).arcs)) ≡ false
    few_arcs = not_less 16 _ (subst (λ n. n ≤ 16) fit.count fit.few)

    pub answers_23 : (out : List ℕ) → 500 < n → Answered (refusing 23) out out
    answers_23 out h =
        pair_refused (system_in_file a) (system_in_file b) out 23
        (gives_23 (system_in_file a) (system_in_file b) fit.none_shared few_arcs (is_less 500 _ (subst (λ n. 500 < n) j.count h))) (λ z. omega arith)

    module _ (few : n ≤ 500) where
      few_labels : less 500 (length (union (keys_of (system_in_file a)) (keys_of (system_in_file b)))) ≡ false
      few_labels = not_less 500 _ (subst (λ n. n ≤ 500) j.count few)

      module _ (alike : Bool) (told : alike ≡ below (agree_at a (8 + 4 * x.arcs) x.parameters left b (8 + 4 * y.arcs) y.parameters right) n) where
        all_agree : all (agree (system_in_file a) (system_in_file b)) (union (keys_of (system_in_file a)) (keys_of (system_in_file b))) ≡ alike
        all_agree = sym (told ∙ labels_agree a x ka b y kb left right n j)

        pub answers_24 : (out : List ℕ) → alike ≡ false → Answered (refusing 24) out out
        answers_24 out e =
            pair_refused (system_in_file a) (system_in_file b) out 24
            (gives_24 (system_in_file a) (system_in_file b) fit.none_shared few_arcs few_labels (all_agree ∙ e)) (λ z. omega arith)

        pub none_refuses : alike ≡ true → merge_number (system_in_file a) (system_in_file b) ≡ 0
        none_refuses e = gives_none (system_in_file a) (system_in_file b) fit.none_shared few_arcs few_labels (all_agree ∙ e)

    -- ---- 20, and the file
    module _ (accepted : merge_number (system_in_file a) (system_in_file b) ≡ 0) (needed : ℕ) (is : needed ≡ 36 + 4 * m + 32 * n + 8 * tri n) where
      as_needed : needed ≡ length (merged_bytes (system_in_file a) (system_in_file b))
      unfolding merged_bytes
      as_needed = is ∙ sym (bytes_long a x ka b y kb left right n j m fit)

      pub answers_20 : (out : List ℕ) → length out < needed → Answered (refusing 20) out out
      answers_20 out h = pair_short (system_in_file a) (system_in_file b) accepted out (subst (λ k. length out < k) as_needed h)

      pub answers_written : (out kept : List ℕ) → needed ≤ length out → kept ≡ lay out 0 (normal_bytes (merged_of (system_in_file a) (system_in_file b)))
          → Answered (wrote needed) out kept
      unfolding merged_bytes
      answers_written out kept h e =
          pair_written (system_in_file a) (system_in_file b) accepted out needed kept (subst (λ k. k ≤ length out) as_needed h) as_needed e
