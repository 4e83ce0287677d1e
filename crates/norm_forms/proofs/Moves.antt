-- Document 02, #106: "We want a move to the new form, a move back, and the original bytes after both, from either end." "A move to the form a
-- file already has gives its bytes." A file and its move hold one system; the old form's bytes are those of 01; the small form is never longer.
-- Assumes nothing.
use Prim.Native.Nat.{ℕ, ◌+◌, ◌*◌, ◌≤◌}
use mathlib.Core.Path.{◌≡◌, refl, ap, ◌∙◌, subst}
use mathlib.Core.List.{List, [], ◌∷◌, map}
use mathlib.Core.Bool.{Bool, true, false}
use native.Mathlib.Omega.{arith}
use native.Mathlib.Nat.{mul-le-mul}
use lib.ListN.{length, length-map}
use mir.Syntax.{w64}
use mir.Val.{SFits}
use Rattle.num_whole.specs.Answer.{good}
use Rattle.num_whole.specs.Tests.{pick}
use Rattle.num_whole.specs.Lists.{Each}
use Rattle.byte_words.proofs.Words.{Bytes}
use Rattle.num_packed.specs.Triangle.{tri}
use Rattle.num_packed.proofs.Places.{tri_twice}
use Rattle.norm_system.specs.System.{System}
use Rattle.norm_system.specs.declared.NormalLabel.{NormalLabel}
use Rattle.norm_system.proofs.Sound.{SoundSystem}
use Rattle.norm_labels.specs.Labels.{on_labels}
use Rattle.norm_labels.proofs.Values.{formed}
use Rattle.norm_labels.proofs.On.{on_own}
use Rattle.norm_kinds.specs.Kinds.{Fielded, stored_of}
use Rattle.norm_kinds.specs.Bytes.{normal_bytes, file_bytes}
use Rattle.norm_kinds.proofs.Stored.{stored_few}
use Rattle.norm_read.specs.Normal.{Normal, read_normal}
use Rattle.norm_read.proofs.Sections.{accepted_normal}
use Rattle.norm_read.proofs.Forth.{read_written}
use Rattle.norm_read.proofs.Accepted.{accepted_sound, accepted_estimates}
use Rattle.norm_read.proofs.Whole.{length_file, placed_as, file_read}
use Rattle.norm_read.proofs.Back.{old_fields, old_stored, old_bytes, placed, written_read, old_written}
use Rattle.norm_forms.specs.Forms.{form_field, form_fields, form_stored, form_bytes}
use Rattle.norm_forms.proofs.Held.{own_form}
use Rattle.norm_forms.proofs.Made.{made, made_sound, made_holds}

abbrev Estimate : NormalLabel → Type 0
Estimate l = SFits w64 l.estimate

each_fields : (P : NormalLabel → Type 0) (n : NormalLabel → ℕ) (l : List NormalLabel) → Each P l → Each {A = Fielded} (λ m. P m.label) (map (λ a. record { label = a; field = n a }) l)
each_fields P n [] e = tt
each_fields P n (a ∷ l) e = (e.0, each_fields P n l e.1)

-- ---- a system written in either form reads back
pub record Reads (s : List ℕ) (small : Bool) (x : System) : Type 0 where
  pub file : Normal
  pub is : read_normal s ≡ good file
  pub form : file.small ≡ small
  pub held : file.holds ≡ x

module _ (small : Bool) (x : System) (o : SoundSystem x) (e : Each Estimate x.labels) where
  estimates : Each (λ m. Estimate m.label) (form_fields small x)
  unfolding form_fields
  estimates = each_fields Estimate (form_field small x) x.labels e

  pub form_reads : Reads (form_bytes small x) small x
  unfolding form_bytes
  form_reads =
      record {
        file = placed_as (made small x o) (made_sound small x o) estimates;
        is = file_read (made small x o) (made_sound small x o) estimates;
        form = refl;
        held = made_holds small x o;
      }

-- ---- a file that is accepted
module _ (s : List ℕ) (f : Normal) (bounded : Bytes s) (e : read_normal s ≡ good f) where
  -- "A move to the form a file already has gives its bytes"
  pub move_stays : form_bytes f.small f.holds ≡ s
  move_stays = own_form f (accepted_normal s f e) ∙ read_written s f bounded e

  -- a file and its move hold the same system
  pub move_holds : (small : Bool) → Reads (form_bytes small f.holds) small f.holds
  move_holds small = form_reads small f.holds (accepted_sound s f e) (accepted_estimates s f e bounded)

  -- "the original bytes after both, from either end"
  pub move_back : (small : Bool) → form_bytes f.small (move_holds small).file.holds ≡ s
  move_back small = ap (form_bytes f.small) (move_holds small).held ∙ move_stays

-- ---- the old form is 01's
old_fields_lem : (x : System) → form_fields false x ≡ old_fields x.labels
unfolding form_fields form_field pick
old_fields_lem x = refl

pub old_form : (x : System) → SoundSystem x → form_bytes false x ≡ normal_bytes x
unfolding form_bytes form_stored
old_form x o =
    let own : on_labels (stored_of (old_fields x.labels)) x ≡ x = ap (λ l. on_labels l x) (old_stored x.labels) ∙ on_own x (formed x o) in
    ap (λ l. file_bytes l (on_labels (stored_of l) x)) (old_fields_lem x) ∙ ap (file_bytes (old_fields x.labels)) own ∙ old_bytes x

-- so 01's files are those of the old form, and hold the system that they were written of
pub old_accepted : (x : System) → SoundSystem x → Each Estimate x.labels → Reads (normal_bytes x) false x
old_accepted x o e = record { file = placed x; is = written_read x o e; form = refl; held = refl }

-- and no other files are of the old form
pub old_only : (s : List ℕ) (f : Normal) → Bytes s → read_normal s ≡ good f → f.small ≡ false → (SoundSystem f.holds) × (normal_bytes f.holds ≡ s)
old_only s f bounded e old = (accepted_sound s f e, old_written s f e old bounded)

-- ---- its parts
module _ (small : Bool) (x : System) where
  fields_long : length (form_fields small x) ≡ length x.labels
  unfolding form_fields
  fields_long = length-map x.labels (λ a. record { label = a; field = form_field small x a })

  stored_arcs : length (form_stored small x).arcs ≡ length x.arcs
  unfolding form_stored on_labels
  stored_arcs = refl

  stored_matrix : SoundSystem x → length (form_stored small x).matrix ≡ tri (length (stored_of (form_fields small x)))
  unfolding form_stored on_labels
  stored_matrix p = (made_sound small x p).matrix

  stored_rights : SoundSystem x → length (form_stored small x).rights ≡ length (stored_of (form_fields small x))
  unfolding form_stored on_labels
  stored_rights p = (made_sound small x p).rights

all_stored : (x : System) → length (stored_of (form_fields false x)) ≡ length x.labels
all_stored x = ap (λ l. length (stored_of l)) (old_fields_lem x) ∙ ap length (old_stored x.labels)

-- ---- how long: "36 + 4A + 24P + 8·(S(S+1)/2 + S)", S the number of labels whose sums are stored
pub length_form : (small : Bool) (x : System) → SoundSystem x
    → length (form_bytes small x)
    ≡ 36 + 4 * length x.arcs + 24 * length x.labels + 8 * (tri (length (stored_of (form_fields small x))) + length (stored_of (form_fields small x)))
unfolding form_bytes
length_form small x p =
    let k = made_sound small x p in
    let long : length (form_fields small x) ≡ length x.labels = fields_long small x in
    let m : length (form_stored small x).matrix ≡ tri (length (stored_of (form_fields small x))) = stored_matrix small x p in
    let r : length (form_stored small x).rights ≡ length (stored_of (form_fields small x)) = stored_rights small x p in
    let a : length (form_stored small x).arcs ≡ length x.arcs = stored_arcs small x in
    omega (arith, length_file (form_fields small x) (form_stored small x))

tri_more : (m n : ℕ) → m ≤ n → tri m ≤ tri n
tri_more m n h =
    let a : m * (m + 1) ≤ n * (n + 1) = mul-le-mul h (omega arith) in
    omega (arith, tri_twice m, tri_twice n)

-- the small form is never longer
pub never_longer : (x : System) → SoundSystem x → length (form_bytes true x) ≤ length (form_bytes false x)
never_longer x p =
    let s = length (stored_of (form_fields true x)) in
    let few : s ≤ length x.labels = subst (λ n. s ≤ n) (fields_long true x) (stored_few (form_fields true x)) in
    let whole : length (stored_of (form_fields false x)) ≡ length x.labels = all_stored x in
    let t : tri s ≤ tri (length x.labels) = tri_more s (length x.labels) few in
    omega (arith, length_form true x p, length_form false x p, ap tri whole)
