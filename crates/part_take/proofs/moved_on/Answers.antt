-- `part_take::moved_on` meets its contract: 3, nothing completed, or what is left after the records.
use native.Mathlib.Omega.{arith}
use Prim.Native.Nat.{ℕ, ◌+◌, ◌-◌, ◌*◌}
use mathlib.Core.Path.{◌≡◌, sym, ap, ap₂, ◌∙◌}
use mathlib.Core.Bool.{false}
use mathlib.Core.List.{List, ◌++◌}
use lib.ListN.{length, take, drop, length-drop}
use lib.Seq.{take_all, length-take-le}
use Rattle.num_whole.specs.Lists.{padded}
use Rattle.arc_kinds.specs.Kinds.{record_size}
use Rattle.part_laws.specs.Entries.{position_most}
use Rattle.part_place.proofs.Ends.{small}
use Rattle.part_take.proofs.Moves.{goes_surplus, goes_none, more, rest_fits, goes_some}
use Rattle.part_take.proofs.moved_on.Goals as goal

rest_all : (l : List ℕ) (k : ℕ) → take (length l - k) (drop k l) ≡ drop k l
rest_all l k = take_all (length l - k) (drop k l) (omega (arith, length-drop k l))

pub overflow_mul-end : goal.overflow_mul-end
overflow_mul-end c =
    let a = c.args in let q = c.requires.fits in omega (arith, small a.a.count a.a.heading.parameters (omega (arith, q.1, q.2)) q.0, q.3, c.requires.ready.within)

pub overflow_add-end : goal.overflow_add-end
overflow_add-end c =
    let a = c.args in let q = c.requires.fits in omega (arith, small a.a.count a.a.heading.parameters (omega (arith, q.1, q.2)) q.0, q.3, c.requires.ready.within)

pub overflow_mul-taken : goal.overflow_mul-taken
overflow_mul-taken c =
    let a = c.args in let q = c.requires.fits in omega (arith, small a.taken a.a.heading.parameters (omega (arith, q.1, q.2)) q.0, q.3, c.requires.ready.within)

pub overflow_add-total-2 : goal.overflow_add-total-2
overflow_add-total-2 c =
    let a = c.args in let q = c.requires.fits in omega (arith, small a.taken a.a.heading.parameters (omega (arith, q.1, q.2)) q.0, q.3, c.requires.ready.within)

pub returns-then-end-total : goal.returns-then-end-total
returns-then-end-total c =
    let a = c.args in let q = c.requires.fits in let v = goes_surplus a.a a.f a.taken a.n a.bytes.now c.requires.ready c.well_formed.1.0.1.1.0.1.0.1 q.0 q.2 (omega arith) in record {
      answer_value = v.0;
      position = c.ended.ensures ∙ v.1;
    }

pub returns-then-n-eq0 : goal.returns-then-n-eq0
returns-then-n-eq0 c =
    let a = c.args in let q = c.requires.fits in let got = goes_none a.a a.f a.taken a.n a.bytes.now c.requires.ready c.well_formed.1.0.1.1.0.1.0.1 q.0 q.2 (omega arith) (omega arith) in record {
      answer_value = got.0;
      position = got.1;
    }

pub overflow_sub-upto : goal.overflow_sub-upto
overflow_sub-upto c =
    let a = c.args in let q = c.requires.fits in omega (arith, more a.a a.f a.taken a.n a.bytes.now c.requires.ready c.well_formed.1.0.1.1.0.1.0.1 q.0 q.2 (omega arith) (omega arith), c.requires.ready.near)

pub slice_bounds-keep-end : goal.slice_bounds-keep-end
slice_bounds-keep-end c =
    let a = c.args in let q = c.requires.fits in sym (length-take-le a.a.start a.f.room (omega (arith, c.well_formed.1.0.1.1.0.1.0.1, q.3)))

pub keep-requires : goal.keep-requires
keep-requires c =
    let a = c.args in let q = c.requires.fits in let upto = a.a.start + a.n * record_size a.a.heading.parameters - a.f.held in omega (arith, rest_fits a.a a.f a.taken a.n a.bytes.now c.requires.ready c.well_formed.1.0.1.1.0.1.0.1 q.0 q.2 (omega arith) (omega arith), ap length (rest_all a.bytes.now upto), length-take-le a.a.start a.f.room (omega (arith, c.well_formed.1.0.1.1.0.1.0.1, q.3)))

pub returns : goal.returns
returns c =
    let a = c.args in
    let q = c.requires.fits in
    let upto = a.a.start + a.n * record_size a.a.heading.parameters - a.f.held in
    let v = goes_some a.a a.f a.taken a.n a.bytes.now c.requires.ready c.well_formed.1.0.1.1.0.1.0.1 q.0 q.2 (omega arith) (omega arith) in record {
      answer_value = v.0;
      position = ap₂ (λ k z. record { kept = z; length = a.a.start + k; taken = a.taken + a.n; over = false })
          (ap length (rest_all a.bytes.now upto)) (c.keep.ensures ∙ ap (λ z. padded position_most 0 (take a.a.start a.f.room ++ z)) (rest_all a.bytes.now upto))
          ∙ v.1;
    }
