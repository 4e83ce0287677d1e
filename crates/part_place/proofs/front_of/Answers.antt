-- `part_place::front_of` meets its contract.
use native.Mathlib.Omega.{arith}
use Prim.Native.Nat.{◌+◌, ◌-◌, ◌≤◌, min}
use mathlib.Core.Path.{◌≡◌, sym, ap, ◌∙◌}
use mathlib.Core.List.{◌++◌}
use lib.ListN.{length, take}
use lib.Seq.{length-take-le}
use Rattle.num_whole.specs.Lists.{padded}
use Rattle.part_laws.specs.Entries.{position_of}
use Rattle.part_place.proofs.Looks.{least_take, front_cut}
use Rattle.part_place.proofs.front_of.Lts
use Rattle.part_place.proofs.front_of.Reads
use Rattle.part_place.proofs.front_of.Tie
use Rattle.part_place.proofs.front_of.Goals as goal

-- the facts known at one place of the code
abbrev At-After-least-held : Type 0
At-After-least-held = Lts.After-least Tie.the-claims Reads.Pre Reads.Post

long : (c : At-After-least-held) → length c.args.p.kept ≡ 1088
long c = c.well_formed.0.1.1.0.1.0.1

-- the facts known at one place of the code
abbrev At-After-least-n : Type 0
At-After-least-n = Lts.After-least2 Tie.the-claims Reads.Pre Reads.Post

fits : (c : At-After-least-n) → c.least-held.result ≤ length c.args.p.kept
fits c = omega (arith, c.least-held.ensures, long c.before)

-- the part that is kept is as long as it counts
kept_long : (c : At-After-least-n) → c.least-held.result ≡ length (take c.least-held.result c.args.p.kept)
kept_long c = sym (length-take-le _ _ (fits c))

pub overflow_sub-held : goal.overflow_sub-held
overflow_sub-held c = omega (arith, c.least-held.ensures)

pub slice_bounds-kept-end : goal.slice_bounds-kept-end
slice_bounds-kept-end c = fits c.before

pub slice_bounds-keep-end : goal.slice_bounds-keep-end
slice_bounds-keep-end c = kept_long c.before.before

pub slice_bounds-keep-end-2 : goal.slice_bounds-keep-end-2
slice_bounds-keep-end-2 c = sym (length-take-le _ _ (omega (arith, c.least-n.ensures)))

pub keep-room-requires : goal.keep-room-requires
keep-room-requires c =
    omega (arith, kept_long c.before.before, slice_bounds-keep-end-2 c, c.least-n.ensures, c.least-held.ensures)

pub returns : goal.returns
returns c =
    let a = c.args in
    let k = c.least-held in
    let n = c.least-n in
    let same_bytes : take k.result a.p.kept ≡ (position_of a.p).kept = ap (λ m. take m a.p.kept) k.ensures ∙ least_take a.p.length 1088 a.p.kept (long c.before.before.before.before) in
    let held-long : k.result ≡ length (take k.result a.p.kept) = kept_long c.before.before.before in
    let many : n.result ≡ min (1088 - length (take k.result a.p.kept)) (length a.bytes.now) = n.ensures ∙ ap (λ m. min (1088 - m) (length a.bytes.now)) held-long in
    record {
      room = c.keep-room.ensures ∙ ap (padded 1088 0) (front_cut (take k.result a.p.kept) a.bytes.now 1088 n.result (omega (arith, held-long, k.ensures)) many ∙ ap (λ x. take 1088 (x ++ a.bytes.now)) same_bytes);
      many = omega (arith, n.ensures, k.ensures);
      held = k.ensures;
      long = held-long ∙ ap length same_bytes;
    }
