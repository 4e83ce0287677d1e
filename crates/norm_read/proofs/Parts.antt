-- The parts of the reading put together are the reading: in runs of records, and in the numbers that the code has.
-- Assumes nothing.
use Prim.Native.Nat.{ℕ, ◌+◌, ◌-◌}
use mathlib.Core.Path.{◌≡◌, refl, sym, ap, ap₂, ◌∙◌}
use mathlib.Core.List.{List}
use native.Mathlib.Omega.{arith}
use lib.IntN.{ℤ}
use lib.ListN.{length, get_or, length-map}
use Rattle.num_whole.specs.Tests.{less}
use Rattle.num_whole.specs.Answer.{Judged, good, bad}
use Rattle.num_whole.proofs.Cases.{yes, no, by_cases}
use Rattle.byte_section.specs.Section.{Kind, Run, and_then, closed}
use Rattle.byte_section.proofs.Walk.{good_same, pick_read, then_good, then_bad, then_read}
use Rattle.byte_section.proofs.Read.{section_read}
use Rattle.byte_section.proofs.Chains.{then_then, then_made, then_same}
use Rattle.num_packed.specs.Triangle.{tri}
use Rattle.norm_system.specs.System.{Where, nowhere, in_matrix, in_rights, in_accepted, in_square, unsound_stored}
use Rattle.norm_labels.specs.Labels.{on_labels}
use Rattle.byte_words.specs.Stands.{stands}
use Rattle.norm_walk.specs.Walk.{unsound_at}
use Rattle.norm_kinds.specs.Kinds.{stored_of, sum_kind, Totals, no_totals, totals_at, totals_kind}
use Rattle.norm_read.specs.Normal.{Normal, system_from, normal_from, exactly, at_where, soundly, read_normal, numbers_in, numbers_of}
use Rattle.norm_heads.specs.Heads.{Heads, heads_part, counts_of, counts_part}
use Rattle.norm_heads.specs.declared.HeadsRead.{HeadsRead}
use Rattle.norm_heads.proofs.Heads.{section_items}
use Rattle.norm_sections.specs.Sums.{plain_part, totals_part, sums_part}
use Rattle.norm_sections.specs.declared.Places.{Places}
use Rattle.norm_read.specs.declared.NormalRead.{NormalRead}
use Rattle.norm_read.specs.Parts.{numbers_from, judged_where, judged_sums}
use Rattle.norm_heads.proofs.Loops.{then_told}
use Rattle.norm_read.proofs.Plain.{plain_section}

-- ---- the sums, in runs
record Runs : Type 0 where
  matrix : Run ℤ
  rights : Run ℤ
  totals : Run Totals

unfoldable runs_part : List ℕ → ℕ → ℕ → Judged Runs
runs_part s p at =
    and_then (exactly sum_kind s (tri p) at) λ m.
    and_then (exactly sum_kind s p m.next) λ r.
    and_then (exactly totals_kind s 1 r.next) λ t.
    closed s t.next (record { matrix = m; rights = r; totals = t })

abbrev places_of : ℕ → Runs → Places
places_of at x = record { matrix = at + 4; rights = x.matrix.next + 4; totals = x.rights.next + 4 }

abbrev normal_of : Heads → Runs → Normal
normal_of h x =
    normal_from h.small h.labels.items
    (system_from h.arcs.items (stored_of h.labels.items) x.matrix.items x.rights.items (get_or x.totals.items 0 no_totals))
    (h.labels.next + 4) (x.matrix.next + 4) (x.rights.next + 4)

-- after the last section, whatever was read
closed_then : {A B C : Type 0} (s : List ℕ) (at : ℕ) (a : A) (b : B) (f : A → Judged C) (g : B → Judged C) → f a ≡ g b → and_then (closed s at a) f ≡ and_then (closed s at b) g
unfolding closed
closed_then s at a b f g e =
    by_cases (less at (length s))
    (λ t. then_bad _ _ (sym (yes _ _ _ t refl)) ∙ sym (then_bad _ _ (sym (yes _ _ _ t refl))))
    (λ t. then_good _ _ (sym (no _ _ _ t refl)) ∙ e ∙ sym (then_good _ _ (sym (no _ _ _ t refl))))

then_back : {A : Type 0} (j : Judged A) → and_then j good ≡ j
unfolding and_then
then_back (good a) = refl
then_back (bad number place) = refl

sums_places : (s : List ℕ) (p at : ℕ) → and_then (runs_part s p at) (λ x. good (places_of at x)) ≡ sums_part s p at
unfolding runs_part sums_part totals_part
sums_places s p at =
    then_then _ _ _
    ∙ then_same _ _ _ (λ m e. then_then _ _ _
    ∙ then_same _ _ _ (λ r e. then_then _ _ _
    ∙ then_same _ _ _ (λ t e. closed_then s t.next _ (record { matrix = at + 4; rights = m.next + 4; totals = r.next + 4 }) _ good refl ∙ then_back _)
    ∙ plain_section totals_kind s (λ at. refl) (λ a. refl) (λ end. closed s end (record { matrix = at + 4; rights = m.next + 4; totals = r.next + 4 })) 1 r.next)
    ∙ plain_section sum_kind s (λ at. refl) (λ a. refl)
    (λ last. and_then (plain_part s last 1 16) (λ end. closed s end (record { matrix = at + 4; rights = m.next + 4; totals = last + 4 }))) p m.next)
    ∙ plain_section sum_kind s (λ at. refl) (λ a. refl)
    (λ sides. and_then (plain_part s sides p 8) (λ last. and_then (plain_part s last 1 16) (λ end. closed s end (record { matrix = at + 4; rights = sides + 4; totals = last + 4 })))) (tri p) at

-- ---- the reading, in runs
read_runs : (s : List ℕ) → read_normal s ≡ and_then (heads_part s) (λ h. and_then (runs_part s (length (stored_of h.labels.items)) h.labels.next) (λ x. soundly (normal_of h x)))
unfolding read_normal heads_part runs_part
read_runs s =
    sym
    (then_then _ _ _
    ∙ then_same _ _ _ (λ a e. then_made _ _ _
    ∙ then_same _ _ _ (λ b e. then_then _ _ _
    ∙ then_same _ _ _ (λ m e. then_then _ _ _
    ∙ then_same _ _ _ (λ r e. then_then _ _ _
    ∙ then_same _ _ _ (λ t e. closed_then s t.next _ _ _ soundly refl))))))

-- what was read in the last three sections
record RunsRead (s : List ℕ) (p at : ℕ) (x : Runs) : Type 0 where
  first : exactly sum_kind s (tri p) at ≡ good x.matrix
  second : exactly sum_kind s p x.matrix.next ≡ good x.rights
  third : exactly totals_kind s 1 x.rights.next ≡ good x.totals

runs_read : (s : List ℕ) (p at : ℕ) (x : Runs) → runs_part s p at ≡ good x → RunsRead s p at x
unfolding runs_part closed
runs_read s p at x e =
    let a = then_read _ _ _ e in
    let b = then_read _ _ _ a.2 in
    let c = then_read _ _ _ b.2 in
    let d = pick_read _ _ _ _ _ c.2 in
    let same : record { matrix = a.0; rights = b.0; totals = c.0 } ≡ x = good_same d.1 in
    rw (← same) (record { first = a.1; second = b.1; third = c.1 })

-- a section of n records has n
pub exactly_items : {A : Type 0} (K : Kind A) (s : List ℕ) (n at : ℕ) (r : Run A) → exactly K s n at ≡ good r → r.items ≡ stands (K.decode s) K.size n (at + 4)
exactly_items K s n at r e =
    let c = (section_read K s n n at r e).count in
    let many : length r.items ≡ n = omega (arith, c.from, c.to) in
    section_items K s n n at r e ∙ ap (λ k. stands (K.decode s) K.size k (at + 4)) many

-- ---- the reading, in numbers
judged_lem : (x : Normal) (w : Where) → numbers_of (at_where x w) ≡ judged_where (numbers_in x) w
unfolding at_where judged_where
judged_lem x nowhere = refl
judged_lem x (in_matrix k) = refl
judged_lem x (in_rights k) = refl
judged_lem x in_accepted = refl
judged_lem x in_square = refl

module _ (s : List ℕ) (h : Heads) where
  -- how many labels there are, and how many have their sums stored
  abbrev p : ℕ
  p = length h.labels.items

  abbrev n : ℕ
  n = length (stored_of h.labels.items)

  abbrev at : ℕ
  at = h.labels.next

  unsound_same : (x : Runs) → runs_part s n at ≡ good x
      → unsound_stored h.small (normal_of h x).stored ≡ unsound_at h.small s (length h.arcs.items) n (at + 4) (x.matrix.next + 4) (x.rights.next + 4)
  unfolding unsound_stored unsound_at stands totals_at
  unsound_same x e =
      let z = runs_read s n at x e in
      let m = exactly_items sum_kind s (tri n) at x.matrix z.first in
      let r = exactly_items sum_kind s n x.matrix.next x.rights z.second in
      let t : get_or x.totals.items 0 no_totals ≡ totals_at s (x.rights.next + 4) =
      ap (λ l. get_or l 0 no_totals) (exactly_items totals_kind s 1 x.rights.next x.totals z.third) in
      rw (m, r, t)

  rest_judged : (x : Runs) → runs_part s n at ≡ good x → numbers_of (soundly (normal_of h x)) ≡ judged_sums s (numbers_from (counts_of h) (places_of at x))
  unfolding judged_sums soundly on_labels
  rest_judged x e =
      judged_lem (normal_of h x) (unsound_stored h.small (normal_of h x).stored)
      ∙ ap₂ (λ k w. judged_where (numbers_from (record (counts_of h) { parameters = k }) (places_of at x)) w) (length-map h.labels.items (λ m. m.label)) (unsound_same x e)

-- the heads that were read
heads_read : (s : List ℕ) (c : HeadsRead) → counts_part s ≡ good c → (h : Heads) × (heads_part s ≡ good h) × (counts_of h ≡ c)
unfolding counts_part
heads_read s c e =
    let h = then_read _ _ _ e in
    (h.0, h.1, good_same h.2)

pub heads_refused : (s : List ℕ) {number place : ℕ} → counts_part s ≡ bad number place → bad number place ≡ numbers_of (read_normal s)
unfolding counts_part
heads_refused s e = sym (ap numbers_of (read_runs s ∙ then_bad _ _ (then_told _ _ _ _ e)))

pub sums_refused : (s : List ℕ) (c : HeadsRead) {number place : ℕ} → counts_part s ≡ good c → sums_part s c.stored c.next ≡ bad number place
    → bad number place ≡ numbers_of (read_normal s)
sums_refused s c {number} {place} e f =
    let h = heads_read s c e in
    let g : sums_part s (length (stored_of h.0.labels.items)) h.0.labels.next ≡ bad number place = ap (λ (c : HeadsRead). sums_part s c.stored c.next) h.2 ∙ f in
    sym (ap numbers_of (read_runs s ∙ then_good _ _ h.1 ∙ then_bad _ _ (then_told _ _ _ _ (sums_places s _ _ ∙ g))))

pub sums_judged : (s : List ℕ) (c : HeadsRead) (x : Places) → counts_part s ≡ good c → sums_part s c.stored c.next ≡ good x
    → judged_sums s (numbers_from c x) ≡ numbers_of (read_normal s)
sums_judged s c x e f =
    let h = heads_read s c e in
    let g : sums_part s (length (stored_of h.0.labels.items)) h.0.labels.next ≡ good x = ap (λ (c : HeadsRead). sums_part s c.stored c.next) h.2 ∙ f in
    let r = then_read _ _ _ (sums_places s _ _ ∙ g) in
    ap₂ (λ c x. judged_sums s (numbers_from c x)) (sym h.2) (sym (good_same r.2))
    ∙ sym (ap numbers_of (read_runs s ∙ then_good _ _ h.1 ∙ then_good _ _ r.1) ∙ rest_judged s h.0 r.0 r.1)
