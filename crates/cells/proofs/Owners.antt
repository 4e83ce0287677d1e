-- Document 01: "no cell has two owners and none is without one." The laws of the two index rules, and that the two directions
-- between a cell and its index undo each other.
-- Assumes nothing.
use Prim.Native.Nat.{ℕ, ◌+◌, ◌-◌, ◌/◌, ◌%◌, ◌≤◌, ◌<◌}
use mathlib.Core.Path.{◌≡◌, refl, sym, ap, ◌∙◌}
use mathlib.Core.Bool.{true, not}
use mathlib.Core.Logic.{◌↔◌}
use native.Mathlib.Omega.{arith}
use Rattle.num_whole.specs.Tests.{up_to}
use Rattle.num_whole.specs.Answer.{given}
use Rattle.num_whole.proofs.Cases.{apart, yes, no, holds, is_less, is_up_to, not_up_to, is_same, not_same, is_between, between_true, up_to_true, up_to_false, both_first, both_second, by_cases}
use Rattle.cells.specs.declared.Letter.{Letter}
use Rattle.cells.specs.declared.Letter.TheVariants.{C, S}
use Rattle.cells.specs.declared.Cell.{Cell}
use Rattle.cells.specs.Cells.{cell, is_cell, cell_index, index_of, owner_of, cell_of, cell_at, is_parameter}

-- n from 1 to 30, m from 0 to n
pub record Limits (c : Cell) : Type 0 where
  pub low : 1 ≤ c.degree
  pub high : c.degree ≤ 30
  pub most : c.order ≤ c.degree

pub limits : (c : Cell) → is_cell c ≡ true → Limits c
unfolding is_cell
limits c e =
    let b : (1 ≤ c.degree) × (c.degree ≤ 30) = between_true _ _ _ (both_first _ _ e) in
    record { low = b.0; high = b.1; most = up_to_true _ _ (both_second _ _ e) }

pub within : (c : Cell) → Limits c → is_cell c ≡ true
unfolding is_cell
within c l = sym (holds _ _ (is_between _ _ _ l.low l.high) (sym (is_up_to _ _ l.most)))

-- an index of a cell is one of the array's
pub index_small : (c : Cell) → is_cell c ≡ true → cell_index c < 990
unfolding cell_index
index_small c e = go c.letter
  where
    l : Limits c
    l = limits c e

    go : (x : Letter) → cell_index (cell x c.degree c.order) < 990
    go C = omega (arith, l)
    go S = omega (arith, l)

like : (x : Letter) {n m k j : ℕ} → n ≡ k → m ≡ j → cell x n m ≡ cell x k j
like x p q = cc

-- who owns a place, by its row and column
of_C : (i n m : ℕ) → i / 33 + 1 ≡ n → i % 33 ≡ m → m ≤ n → cell_of i ≡ cell C n m
unfolding cell_of owner_of
of_C i n m p q h = sym (yes _ _ _ (is_up_to _ _ (omega arith)) (like C (omega arith) (omega arith)))

of_S : (i n m : ℕ) → i / 33 + n ≡ 30 → i % 33 + m ≡ 32 → m ≤ n → cell_of i ≡ cell S n m
unfolding cell_of owner_of
of_S i n m p q h = sym (no _ _ _ (not_up_to _ _ (omega arith)) (like S (omega arith) (omega arith)))

-- "none is without one": each index is that of the cell that owns its place
pub owned : (i : ℕ) → i < 990 → (is_cell (cell_of i) ≡ true) × (cell_index (cell_of i) ≡ i)
unfolding cell_index
owned i h =
    by_cases (up_to (i % 33) (i / 33 + 1))
    (λ e. let m : i % 33 ≤ i / 33 + 1 = up_to_true _ _ e in
    rw (of_C i _ _ refl refl m) (within _ (record { low = omega arith; high = omega arith; most = m }), omega arith))
    (λ e. let m : i / 33 + 1 < i % 33 = up_to_false _ _ e in
    rw (of_S i (30 - i / 33) (32 - i % 33) (omega arith) (omega arith) (omega arith))
    (within _ (record { low = omega arith; high = omega arith; most = omega arith }), omega arith))

-- an owner is found again from its index
pub found : (c : Cell) → is_cell c ≡ true → cell_of (cell_index c) ≡ c
unfolding cell_index
found c e = go c.letter
  where
    l : Limits c
    l = limits c e

    go : (x : Letter) → cell_of (cell_index (cell x c.degree c.order)) ≡ cell x c.degree c.order
    go C = of_C _ _ _ (omega (arith, l)) (omega (arith, l)) l.most
    go S = of_S _ _ _ (omega (arith, l)) (omega (arith, l)) l.most

-- "no cell has two owners"
pub alone : (c d : Cell) → is_cell c ≡ true → is_cell d ≡ true → cell_index c ≡ cell_index d → c ≡ d
alone c d hc hd e = sym (found c hc) ∙ ap cell_of e ∙ found d hd

-- from an index to its cell and back
pub there : (i : ℕ) → i < 990 → (c : Cell) × (cell_at i ≡ given c) × (index_of c ≡ given i)
unfolding cell_at index_of
there i h =
    let o : (is_cell (cell_of i) ≡ true) × (cell_index (cell_of i) ≡ i) = owned i h in
    (cell_of i, sym (yes _ _ _ (is_less _ _ h) refl), sym (yes _ _ _ o.0 (ap given (sym o.1))))

-- from a cell to its index and back
pub back : (c : Cell) → is_cell c ≡ true → (index_of c ≡ given (cell_index c)) × (cell_at (cell_index c) ≡ given c)
unfolding cell_at index_of
back c e =
    (sym (yes _ _ _ e refl), sym (yes _ _ _ (is_less _ _ (index_small c e)) (ap given (sym (found c e)))))

-- "Column 33 holds S(n,0)"
pub column_33 : (c : Cell) → is_cell c ≡ true → (cell_index c % 33 + 1 ≡ 33) ↔ ((c.letter ≡ S) × (c.order ≡ 0))
unfolding cell_index
column_33 c e = go c.letter
  where
    l : Limits c
    l = limits c e

    go : (x : Letter) → (cell_index (cell x c.degree c.order) % 33 + 1 ≡ 33) ↔ ((x ≡ S) × (c.order ≡ 0))
    go C = (λ p. absurd (omega (arith, l)), λ q. let p : C ≡ S = q.0 in let z : ◌≡◌ {A = ℕ} 0 1 = cc in omega arith)
    go S = (λ p. (refl, omega (arith, l)), λ q. omega (arith, l))

-- "never a parameter": and every other cell may be one
pub parameters : (c : Cell) → is_cell c ≡ true → (is_parameter (cell_index c) ≡ true) ↔ ((c.letter ≡ S) × (c.order ≡ 0) → ⊥)
unfolding is_parameter
parameters c e = (
  λ p q. apart (sym (both_second _ _ p) ∙ ap not (is_same _ _ ((column_33 c e).1 q))),
  λ h. sym (holds _ _ (is_less _ _ (index_small c e)) (sym (ap not (not_same _ _ (λ p. h ((column_33 c e).0 p)))))),
)
