-- What is known of a file that was read: its system is sound, it has at most 16 arcs and 500 labels, and its labels and the sums that it stores stand where reading
-- says.
-- Assumes nothing.
use mathlib.Core.Path.{◌≡◌, sym, ap, ap₂, ◌∙◌, subst}
use mathlib.Core.List.{List}
use Prim.Native.Nat.{ℕ, ◌+◌, ◌*◌, ◌≤◌}
use native.Mathlib.Omega.{arith}
use lib.ListN.{length}
use Rattle.num_whole.specs.Answer.{good}
use Rattle.byte_words.specs.Words.{word}
use Rattle.num_packed.specs.Triangle.{tri}
use Rattle.norm_read.specs.Normal.{Normal, read_normal, numbers_in, numbers_of}
use Rattle.norm_heads.specs.Heads.{arcs_at}
use Rattle.norm_read.specs.declared.NormalRead.{NormalRead}
use Rattle.norm_read.proofs.Accepted.{accepted_sound, accepted_standing}
use Rattle.norm_read.proofs.Told.{told_good}
use Rattle.merge_read.specs.Read.{keys_at}
use Rattle.norm_labels.specs.Labels.{keys_of}
use Rattle.merge_laws.proofs.Written.{LabelsStand, keys_stand}
use Rattle.merge_laws.proofs.Stored.{StoresIn, stores_in}
use Rattle.merge_put.specs.Parts.{normal_or, normal_in, system_in_file, stored_in_file, AsRead}
use Rattle.norm_system.proofs.Sound.{SoundSystem}

-- ---- from the reader's answer
taken_of : (s : List ℕ) (r : NormalRead) (x : Normal) → read_normal s ≡ good x → r ≡ numbers_in x → AsRead s r
unfolding system_in_file stored_in_file normal_in normal_or
taken_of s r x e t =
    let is : normal_in s ≡ x = ap normal_or e in
    record {
      is = e ∙ ap good (sym is);
      arcs = ap (λ d. d.arcs) t ∙ ap (λ z. length z.holds.arcs) (sym is);
      parameters = ap (λ d. d.parameters) t ∙ ap (λ z. length z.holds.labels) (sym is);
      stored = ap (λ d. d.stored) t ∙ ap (λ z. length z.stored.labels) (sym is);
      matrix = ap (λ d. d.matrix) t ∙ ap (λ z. z.matrix) (sym is);
      rights = ap (λ d. d.rights) t ∙ ap (λ z. z.rights) (sym is);
      totals = ap (λ d. d.totals) t ∙ ap (λ z. z.totals) (sym is);
    }

pub taken : (s : List ℕ) (r : NormalRead) → numbers_of (read_normal s) ≡ good r → AsRead s r
taken s r t = let x = told_good _ r t in taken_of s r x.0 x.1 x.2

-- ---- what follows
pub record Known (s : List ℕ) (r : NormalRead) : Type 0 where
  pub whole : SoundSystem (system_in_file s)
  pub stands : LabelsStand s (8 + 4 * r.arcs) (system_in_file s)
  pub stores : StoresIn s (8 + 4 * r.arcs) r.matrix r.rights (system_in_file s) (stored_in_file s)
  pub arcs_many : r.arcs ≡ length (system_in_file s).arcs
  pub labels_many : r.parameters ≡ length (system_in_file s).labels
  pub stored_many : r.stored ≡ length (stored_in_file s).labels
  pub few_arcs : r.arcs ≤ 16
  pub few_labels : r.parameters ≤ 500
  pub few_stored : r.stored ≤ 500
  pub arcs_are : arcs_at s r.arcs ≡ (system_in_file s).arcs
  pub keys_are : keys_at s (8 + 4 * r.arcs) r.parameters ≡ keys_of (system_in_file s)
  pub accepted_is : word 8 s r.totals ≡ (system_in_file s).accepted
  pub square_is : word 8 s (r.totals + 8) ≡ (system_in_file s).square
  pub labels_end : 8 + 4 * r.arcs + 24 * r.parameters ≤ length s
  pub matrix_end : r.matrix + 8 * tri r.stored ≤ length s
  pub rights_end : r.rights + 8 * r.stored ≤ length s
  pub totals_end : r.totals + 16 ≤ length s

pub known : (s : List ℕ) (r : NormalRead) → AsRead s r → Known s r
unfolding system_in_file stored_in_file
known s r t =
    let x = normal_in s in
    let o = accepted_sound s x t.is in
    let d = accepted_standing s x t.is in
    let st : LabelsStand s (8 + 4 * length x.holds.arcs) x.holds = d.labels in
    let so : StoresIn s (8 + 4 * length x.holds.arcs) x.matrix x.rights x.holds x.stored = stores_in s x t.is in
    let arcs : r.arcs ≡ length x.holds.arcs = t.arcs in
    let labels : r.parameters ≡ length x.holds.labels = t.parameters in
    let stored : r.stored ≡ length x.stored.labels = t.stored in
    let sums : tri r.stored ≡ tri (length x.stored.labels) = ap tri stored in
    let m : r.matrix ≡ x.matrix = t.matrix in
    let n : r.rights ≡ x.rights = t.rights in
    let k : r.totals ≡ x.totals = t.totals in
    let a : x.matrix ≡ 12 + 4 * length x.holds.arcs + 24 * length x.holds.labels = d.matrix_at in
    let b : x.rights ≡ x.matrix + 8 * tri (length x.stored.labels) + 4 = d.rights_at in
    let c : x.totals ≡ x.rights + 8 * length x.stored.labels + 4 = d.totals_at_lem in
    let e : length s ≡ x.totals + 16 = d.long in
    record {
      whole = o;
      stands = subst (λ n. LabelsStand s (8 + 4 * n) x.holds) (sym t.arcs) st;
      stores = subst (λ n. StoresIn s (8 + 4 * n) r.matrix r.rights x.holds x.stored) (sym t.arcs)
          (subst (λ n. StoresIn s (8 + 4 * length x.holds.arcs) n r.rights x.holds x.stored) (sym t.matrix)
          (subst (λ n. StoresIn s (8 + 4 * length x.holds.arcs) x.matrix n x.holds x.stored) (sym t.rights) so));
      arcs_many = t.arcs;
      labels_many = t.parameters;
      stored_many = t.stored;
      few_arcs = omega (arith, t.arcs, o.few_arcs);
      few_labels = omega (arith, t.parameters, o.few_labels);
      few_stored = omega (arith, t.stored, o.few_labels, d.few_stored);
      arcs_are = ap (arcs_at s) t.arcs ∙ sym d.arcs;
      keys_are = ap₂ (λ n p. keys_at s (8 + 4 * n) p) t.arcs t.parameters ∙ sym (keys_stand s _ x.holds st);
      accepted_is = ap (word 8 s) t.totals ∙ sym d.accepted;
      square_is = ap (λ n. word 8 s (n + 8)) t.totals ∙ sym d.square;
      labels_end = omega arith;
      matrix_end = omega arith;
      rights_end = omega arith;
      totals_end = omega arith;
    }
