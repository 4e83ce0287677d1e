-- The arcs and the labels of a normal file: the parts of their reading put together, in the numbers that the code has.
-- Assumes nothing.
use Prim.Native.Nat.{ℕ, ◌+◌, ◌*◌, ◌≤◌}
use mathlib.Core.Path.{◌≡◌, refl, sym, ap, ap₂, ◌∙◌}
use mathlib.Core.List.{List}
use mathlib.Core.Bool.{Bool, false}
use native.Mathlib.Omega.{arith}
use lib.ListN.{length}
use Rattle.num_whole.specs.Tests.{pick}
use Rattle.num_whole.specs.Lists.{all}
use Rattle.num_whole.specs.Answer.{good}
use Rattle.num_whole.proofs.Cases.{yes, no, both_first, by_cases}
use Rattle.byte_section.specs.Section.{Kind, Run, and_then, count_at, records, section_at}
use Rattle.byte_section.proofs.Walk.{good_same, then_good, then_read}
use Rattle.byte_section.proofs.Read.{section_read, records_all}
use Rattle.byte_section.proofs.Chains.{then_then, then_made, then_same}
use Rattle.byte_words.specs.Stands.{stands}
use Rattle.norm_kinds.specs.Kinds.{arc_kind, fielded_at, field_ok, fielded_at_ok, fielded_kind, is_small_form, stored_of}
use Rattle.norm_kinds.proofs.Stored.{stored_few, old_all}
use Rattle.byte_section.specs.Told.{span_of}
use Rattle.byte_section.specs.declared.Span.{Span}
use Rattle.norm_heads.specs.Heads.{heads_part, counts_of, counts_part, arcs_at}
use Rattle.norm_heads.specs.declared.HeadsRead.{HeadsRead}
use Rattle.norm_heads.proofs.Loops.{records_items}

-- ---- a section's span
pub span_section : {A : Type 0} (K : Kind A) (s : List ℕ) (low high at : ℕ)
    → span_of (section_at K s low high at) ≡ and_then (count_at s at low high) (λ n. span_of (records K s n (at + 4) 0))
unfolding span_of section_at
span_section K s low high at = then_then _ _ _

-- the labels' span, their count read and their form told
pub span_labels : (s arcs : List ℕ) (at n : ℕ) (small : Bool) → small ≡ is_small_form s at → count_at s at 1 500 ≡ good n
    → span_of (records (fielded_kind small arcs) s n (at + 4) 0) ≡ span_of (section_at (fielded_kind (is_small_form s at) arcs) s 1 500 at)
span_labels s arcs at n small form e =
    ap (λ b. span_of (records (fielded_kind b arcs) s n (at + 4) 0)) form
    ∙ sym (span_section (fielded_kind (is_small_form s at) arcs) s 1 500 at ∙ then_good _ _ e)

-- what was read is what stands there
pub section_items : {A : Type 0} (K : Kind A) (s : List ℕ) (low high at : ℕ) (r : Run A) → section_at K s low high at ≡ good r
    → r.items ≡ stands (K.decode s) K.size (length r.items) (at + 4)
section_items K s low high at r e = records_items K s (length r.items) (at + 4) 0 r (section_read K s low high at r e).run

-- ---- the arcs and the labels, in numbers
pub heads_counts : (s : List ℕ)
    → counts_part s
    ≡ and_then (span_of (section_at arc_kind s 1 16 0)) λ d.
    and_then (span_of (section_at (fielded_kind (is_small_form s d.next) (arcs_at s d.count)) s 1 500 d.next)) λ e.
    good
    (record {
      arcs = d.count;
      parameters = e.count;
      stored = length (stored_of (stands (fielded_at s) 24 e.count (d.next + 4)));
      is_small = is_small_form s d.next;
      next = e.next;
    })
unfolding counts_part heads_part span_of
heads_counts s =
    then_then _ _ _
    ∙ then_same _ _ _ (λ a e.
    let arcs : a.items ≡ arcs_at s (length a.items) = section_items arc_kind s 1 16 0 a e in
    let small = is_small_form s a.next in
    let told : ℕ → ℕ → ℕ → HeadsRead = λ p n next. record { arcs = length a.items; parameters = p; stored = n; is_small = small; next = next } in
    then_made _ _ _
    ∙ then_same _ _ _ (λ b f. ap (λ l. good (told (length b.items) (length (stored_of l)) b.next)) (section_items (fielded_kind small a.items) s 1 500 a.next b f))
    ∙ ap (λ l. and_then (section_at (fielded_kind small l) s 1 500 a.next)
    (λ b. good (told (length b.items) (length (stored_of (stands (fielded_at s) 24 (length b.items) (a.next + 4)))) b.next))) arcs
    ∙ sym (then_made _ _ _))
    ∙ sym (then_made _ _ _)

-- in the old form all labels have their sums stored
old_count : (s arcs : List ℕ) (small : Bool) (at : ℕ) (d : Span) → small ≡ false → span_of (section_at (fielded_kind small arcs) s 1 500 at) ≡ good d
    → d.count ≡ length (stored_of (stands (fielded_at s) 24 d.count (at + 4)))
unfolding span_of fielded_at_ok fielded_at
old_count s arcs small at d old e =
    let a = then_read _ _ _ e in
    let K = fielded_kind small arcs in
    let x = section_read K s 1 500 at a.0 a.1 in
    let zeros = records_all K s (λ m. field_ok small m.field) (λ at h. both_first _ _ h) _ _ _ a.0 x.run in
    let many : length a.0.items ≡ d.count = ap (λ z. z.count) (good_same a.2) in
    sym many
    ∙ sym (old_all a.0.items (ap (λ b. all (λ m. field_ok b m.field) a.0.items) (sym old) ∙ zeros))
    ∙ ap (λ l. length (stored_of l)) (section_items K s 1 500 at a.0 a.1)
    ∙ ap (λ n. length (stored_of (stands (fielded_at s) 24 n (at + 4)))) many

-- both were read, and the rest of what is told was looked up
pub heads_good : (s : List ℕ) (d e : Span) (n : ℕ) (small : Bool) → span_of (section_at arc_kind s 1 16 0) ≡ good d
    → span_of (section_at (fielded_kind (is_small_form s d.next) (arcs_at s d.count)) s 1 500 d.next) ≡ good e
    → n ≡ pick small (length (stored_of (stands (fielded_at s) 24 e.count (d.next + 4)))) e.count → small ≡ is_small_form s d.next
    → good (record { arcs = d.count; parameters = e.count; stored = n; is_small = small; next = e.next }) ≡ counts_part s
heads_good s d e n small a b told form =
    let many = length (stored_of (stands (fielded_at s) 24 e.count (d.next + 4))) in
    let stored : n ≡ many = told ∙ by_cases small (λ c. sym (yes _ _ _ c refl)) (λ c. sym (no _ _ _ c refl) ∙ old_count s (arcs_at s d.count) (is_small_form s d.next) d.next e (sym form ∙ c) b) in
    ap₂ (λ n f. good (record { arcs = d.count; parameters = e.count; stored = n; is_small = f; next = e.next })) stored form
    ∙ sym (heads_counts s ∙ then_good _ _ a ∙ then_good _ _ b)

pub few_arcs : (s : List ℕ) (d : Span) → span_of (section_at arc_kind s 1 16 0) ≡ good d → d.count ≤ 16
unfolding span_of
few_arcs s d e =
    let a = then_read _ _ _ e in
    let x = section_read arc_kind s 1 16 0 a.0 a.1 in
    omega (arith, x.count.to, ap (λ z. z.count) (good_same a.2))

-- the labels stand within the file
pub labels_whole : (s arcs : List ℕ) (small : Bool) (at : ℕ) (d : Span) → span_of (section_at (fielded_kind small arcs) s 1 500 at) ≡ good d → at + 4 + 24 * d.count ≤ length s
unfolding span_of
labels_whole s arcs small at d e =
    let a = then_read _ _ _ e in
    let x = section_read (fielded_kind small arcs) s 1 500 at a.0 a.1 in
    omega (arith, x.next, x.within, ap (λ z. z.count) (good_same a.2))

pub few_counts : (s : List ℕ) (c : HeadsRead) → counts_part s ≡ good c → (c.arcs ≤ 16) × (c.stored ≤ 500)
unfolding counts_part heads_part
few_counts s c e =
    let h = then_read _ _ _ e in
    let a = then_read _ _ _ h.1 in
    let b = then_read _ _ _ a.2 in
    let x = section_read arc_kind s 1 16 0 a.0 a.1 in
    let y = section_read (fielded_kind (is_small_form s a.0.next) a.0.items) s 1 500 a.0.next b.0 b.1 in
    let same = ap counts_of (good_same b.2) ∙ good_same h.2 in
    (omega (arith, x.count.to, ap (λ z. z.arcs) same), omega (arith, y.count.to, stored_few b.0.items, ap (λ z. z.stored) same))
