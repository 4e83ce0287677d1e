use mathlib.Core.Path.{◌≡◌, refl, sym, ap, ap₂, ◌∙◌}
use mathlib.Core.List.{List}
use Prim.Native.Nat.{ℕ, ◌+◌, ◌-◌, ◌*◌}
use native.Mathlib.Omega.{arith}
use lib.ListN.{length}
use Rattle.byte_words.specs.Words.{lay}
use Rattle.byte_words.proofs.Words.{length_lay}
use Rattle.byte_section.specs.Section.{encoded}
use Rattle.norm_kinds.specs.Kinds.{Fielded, fielded_bytes}
use Rattle.norm_kinds.proofs.Records.{length_fielded}
use Rattle.norm_labels.specs.Table.{rows_of}
use Rattle.norm_gather.specs.Gather.{fielded_by_seat}
use Rattle.norm_gather.proofs.Writing.{rows_end, rows_turn}
use Rattle.norm_gather.proofs.put_labels.Goals as goal

starts : (out : List ℕ) (at : ℕ) (f : ℕ → Fielded) (n : ℕ) → lay out at (encoded fielded_bytes (rows_of f 0 n)) ≡ lay out (at + 24 * 0) (encoded fielded_bytes (rows_of f 0 (n - 0)))
starts out at f n =
    let here : at ≡ at + 24 * 0 = omega arith in
    let all : n ≡ n - 0 = omega arith in
    ap₂ (λ k m. lay out k (encoded fielded_bytes (rows_of f 0 m))) here all

pub loop-i-init : goal.loop-i-init
loop-i-init c =
    let s = c.args in
    (refl, starts s.out.now s.at (fielded_by_seat s.is_small s.s.now s.labels s.start s.n s.w.now) (length s.w.now))

pub loop-i-preserved : goal.loop-i-preserved
unfolding fielded_by_seat
loop-i-preserved c =
    let l = c.loop-i in
    let s = c.args in
    let f = fielded_by_seat s.is_small s.s.now s.labels s.start s.n s.w.now in
    let e : c.put_label.new.out ≡ lay l.out (s.at + 24 * l.i) (fielded_bytes (f l.i)) =
    c.put_label.ensures
    ∙ (λ i. lay l.out (s.at + 24 * l.i) (fielded_bytes (record { label = c.load_label-l.ensures i; field = c.field_in-field.ensures i }))) in
    let next : s.at + 24 * l.i + 24 ≡ s.at + 24 * (l.i + 1) = omega arith in (
      ap length e ∙ length_lay _ _ _ ∙ l.invariant.0,
      l.invariant.1 ∙ rows_turn fielded_bytes 24 length_fielded l.out (s.at + 24 * l.i) f (length s.w.now) l.i (omega arith)
          ∙ ap₂ (λ o m. lay o m (encoded fielded_bytes (rows_of f (l.i + 1) (length s.w.now - (l.i + 1))))) (sym e) next,
    )

pub returns : goal.returns
returns c = sym (c.loop-i.invariant.1 ∙ rows_end fielded_bytes 24 length_fielded _ _ _ _ _ (omega arith))
