-- `norm_move::move_read` meets its contract: 20 where the room is too short, else what the form asks for, gathered.
use mathlib.Core.Path.{◌≡◌, sym, ap, ap₂, ◌∙◌, subst}
use mathlib.Core.List.{List, ◌++◌}
use Prim.Native.Nat.{ℕ, ◌+◌, ◌*◌, ◌≤◌, ◌<◌}
use native.Mathlib.Omega.{arith}
use lib.ListN.{length, take}
use lib.Seq.{length-take-le}
use Rattle.num_whole.specs.Answer.{good}
use Rattle.byte_words.specs.Words.{lay}
use Rattle.norm_forms.specs.Forms.{form_bytes}
use Rattle.num_packed.specs.Triangle.{tri}
use Rattle.norm_gather.specs.Gather.{kept_seats, field_by_seat, heads_gathered, sums_gathered, totals_copied}
use Rattle.norm_gather.proofs.Seated.{kept_few}
use Rattle.norm_move.proofs.Gathered.{w, w_long, u, u_many, gathered}
use Rattle.norm_move.proofs.Known.{Known, known, answer_short, left_short, answer_moved, left_moved, form_long, front_of}
use Rattle.norm_move.proofs.move_read.Lts
use Rattle.norm_move.proofs.move_read.Reads
use Rattle.norm_move.proofs.move_read.Tie
use Rattle.norm_move.proofs.move_read.Goals as goal

-- the facts known at one place of the code
abbrev At-Start : Type 0
At-Start = Lts.Start Tie.the-claims Reads.Pre Reads.Post Tie.handed_clauses

-- the facts known at one place of the code
abbrev At-After-seat_labels : Type 0
At-After-seat_labels = Lts.After-seat_labels Tie.the-claims Reads.Pre Reads.Post Tie.handed_clauses

-- the facts known at one place of the code
abbrev At-After-keep_seats-m : Type 0
At-After-keep_seats-m = Lts.After-keep_seats Tie.the-claims Reads.Pre Reads.Post Tie.handed_clauses

-- the facts known at one place of the code
abbrev At-After-triangle : Type 0
At-After-triangle = Lts.After-triangle Tie.the-claims Reads.Pre Reads.Post Tie.handed_clauses

kn : (c : At-Start) → Known c.args.file.now c.args.r
kn c = known c.args.file.now c.args.r c.requires

-- ---- the places of all labels
abbrev w-found : At-After-seat_labels → List ℕ
w-found c = let k = kn c.before.before.before.before.before in w c.args.file.now k.file k.is c.args.r k.told

room_w : (c : At-After-seat_labels) → c.args.r.parameters ≤ length c.seat_labels.new.w
room_w c =
    let long : length c.seat_labels.new.w ≡ 500 = c.seat_labels.auto.w in
    omega (arith, (kn c.before.before.before.before.before).few_labels)

w_part : (c : At-After-seat_labels) → let p = c.args.r.parameters in length (take p c.seat_labels.new.w) ≡ p
w_part c = length-take-le _ _ (room_w c)

front_w : (c : At-After-seat_labels) → take c.args.r.parameters c.seat_labels.new.w ≡ w-found c
front_w c =
    let k = kn c.before.before.before.before.before in
    ap (take c.args.r.parameters) c.seat_labels.ensures
    ∙ front_of (w-found c) _ c.args.r.parameters (w_long c.args.file.now k.file k.is c.args.r k.told) k.few_labels

-- ---- those that the form stores
abbrev u-found : At-After-keep_seats-m → List ℕ
u-found c = let k = kn c.before.before.before.before.before.before.before.before.before in u c.args.file.now k.file k.is c.args.r k.told c.args.is_small

abbrev fields : At-After-keep_seats-m → ℕ → ℕ
fields c = field_by_seat c.args.is_small c.args.file.now c.args.r.matrix c.args.r.stored

kept_many : (c : At-After-keep_seats-m) → c.keep_seats-m.result ≡ length (u-found c)
kept_many c = c.keep_seats-m.ensures.0 ∙ ap (λ l. length (kept_seats (fields c) l)) (front_w c.before.before.before.before)

few_kept : (c : At-After-keep_seats-m) → c.keep_seats-m.result ≤ 500
few_kept c =
    let k = kn c.before.before.before.before.before.before.before.before.before in
    omega (arith, kept_many c, kept_few (fields c) (w-found c.before.before.before.before), w_long c.args.file.now k.file k.is c.args.r k.told, k.few_labels)

room_u : (c : At-After-keep_seats-m) → c.keep_seats-m.result ≤ length c.keep_seats-m.new.u
room_u c =
    let long : length c.keep_seats-m.new.u ≡ 500 = c.keep_seats-m.auto.u in
    omega (arith, few_kept c)

u_part : (c : At-After-keep_seats-m) → let m = c.keep_seats-m.result in length (take m c.keep_seats-m.new.u) ≡ m
u_part c = length-take-le _ _ (room_u c)

front_u : (c : At-After-keep_seats-m) → take c.keep_seats-m.result c.keep_seats-m.new.u ≡ u-found c
front_u c =
    ap (take c.keep_seats-m.result) c.keep_seats-m.ensures.1
    ∙ front_of _ _ c.keep_seats-m.result (sym c.keep_seats-m.ensures.0) (few_kept c)
    ∙ ap (kept_seats (fields c)) (front_w c.before.before.before.before)

-- ---- the length that is asked for
long_is : (c : At-After-triangle) → 36 + 4 * c.args.r.arcs + 24 * c.args.r.parameters + 8 * c.triangle.result + 8 * c.keep_seats-m.result ≡ length (form_bytes c.args.is_small (kn c.before.before.before.before.before.before.before.before.before.before.before.before).file.holds)
long_is c =
    let k = kn c.before.before.before.before.before.before.before.before.before.before.before.before in
    ap (λ n. 36 + 4 * c.args.r.arcs + 24 * c.args.r.parameters + 8 * n + 8 * c.keep_seats-m.result) c.triangle.ensures.0
    ∙ form_long c.args.is_small c.args.file.now k.file k.is c.args.r.arcs c.args.r.parameters c.keep_seats-m.result
    (ap (λ d. d.arcs) k.told) (ap (λ d. d.parameters) k.told)
    (kept_many c.before.before.before ∙ u_many c.args.file.now k.file k.is c.args.r k.told c.args.is_small)

pub overflow_mul-r : goal.overflow_mul-r
overflow_mul-r c = omega (arith, (kn c.before.before.before.before).few_arcs)

pub overflow_add-r : goal.overflow_add-r
overflow_add-r c = omega (arith, (kn c.before.before.before.before).few_arcs)

pub seat_labels-requires : goal.seat_labels-requires
seat_labels-requires c =
    let k = kn c.before.before.before.before.before in
    (k.labels_end, k.few_labels)

pub slice_bounds-w-end : goal.slice_bounds-w-end
slice_bounds-w-end c = room_w c.before.before

pub slice_bounds-keep_seats-end : goal.slice_bounds-keep_seats-end
slice_bounds-keep_seats-end c = sym (w_part c.before.before.before)

pub keep_seats-m-requires : goal.keep_seats-m-requires
keep_seats-m-requires c =
    let k = kn c.before.before.before.before.before.before.before.before.before in
    (k.few_stored, k.matrix_end, omega (arith, k.few_labels, w_part c.before.before.before.before))

pub overflow_mul-long : goal.overflow_mul-long
overflow_mul-long c = omega (arith, (kn c.before.before.before.before.before.before.before.before.before.before.before.before).few_arcs)

pub overflow_add-long : goal.overflow_add-long
overflow_add-long c = omega (arith, (kn c.before.before.before.before.before.before.before.before.before.before.before.before).few_arcs)

pub overflow_mul-long-2 : goal.overflow_mul-long-2
overflow_mul-long-2 c = omega (arith, (kn c.before.before.before.before.before.before.before.before.before.before.before.before).few_labels)

pub overflow_add-long-2 : goal.overflow_add-long-2
overflow_add-long-2 c =
    omega (arith, (kn c.before.before.before.before.before.before.before.before.before.before.before.before).few_arcs, (kn c.before.before.before.before.before.before.before.before.before.before.before.before).few_labels)

pub triangle-requires : goal.triangle-requires
triangle-requires c = few_kept c.before.before.before

pub overflow_mul-long-3 : goal.overflow_mul-long-3
overflow_mul-long-3 c = omega (arith, c.triangle.ensures.1)

pub overflow_add-long-3 : goal.overflow_add-long-3
overflow_add-long-3 c =
    let k = kn c.before.before.before.before.before.before.before.before.before.before.before.before.before in
    omega (arith, k.few_arcs, k.few_labels, c.triangle.ensures.1)

pub overflow_mul-long-4 : goal.overflow_mul-long-4
overflow_mul-long-4 c = omega (arith, few_kept c.before.before.before.before)

pub overflow_add-long-4 : goal.overflow_add-long-4
overflow_add-long-4 c =
    let k = kn c.before.before.before.before.before.before.before.before.before.before.before.before.before in
    omega (arith, k.few_arcs, k.few_labels, c.triangle.ensures.1, few_kept c.before.before.before.before)

pub returns-then-out-long : goal.returns-then-out-long
returns-then-out-long c =
    let k = kn c.before.before.before.before.before.before.before.before.before.before.before.before.before.before in
    let short = subst (λ n. length c.args.out.now < n) (long_is c.before.before) c.if-out-long.true in
    (answer_short c.args.is_small c.args.file.now k.file k.is _ short, left_short c.args.is_small c.args.file.now k.file k.is c.args.out.now short)

pub slice_bounds-w-end-2 : goal.slice_bounds-w-end-2
slice_bounds-w-end-2 c = room_w c.before.before.before.before.before.before.before.before.before.before

pub slice_bounds-put_file-end : goal.slice_bounds-put_file-end
slice_bounds-put_file-end c = sym (w_part c.before.before.before.before.before.before.before.before.before.before.before)

pub slice_bounds-u-end : goal.slice_bounds-u-end
slice_bounds-u-end c = room_u c.before.before.before.before.before.before.before

pub slice_bounds-put_file-end-2 : goal.slice_bounds-put_file-end-2
slice_bounds-put_file-end-2 c = sym (u_part c.before.before.before.before.before.before.before.before)

pub put_file-requires : goal.put_file-requires
put_file-requires c =
    let k = kn c.before.before.before.before.before.before.before.before.before.before.before.before.before.before.before.before.before in
    let p = w_part c.before.before.before.before.before.before.before.before.before.before.before.before in
    let m = u_part c.before.before.before.before.before.before.before.before in
    let sums = ap tri m in record {
      arcs_le_arcs_most = (k.few_arcs, k.few_stored, omega (arith, k.few_labels, p), omega (arith, few_kept c.before.before.before.before.before.before.before.before, m));
      stored_in_bounds = (k.matrix_end, omega (arith, k.labels_end, p));
      stored_in_bounds_2 = (k.rights_end, k.totals_end);
      u_in_bounds = omega (arith, p, m, sums, c.triangle.ensures.0, c.if-out-long.false);
    }

pub returns : goal.returns
returns c =
    let k = kn c.before.before.before.before.before.before.before.before.before.before.before.before.before.before.before.before.before.before.before.before in
    let small = c.args.is_small in
    let file = c.args.file.now in
    let r = c.args.r in
    let fits = subst (λ n. n ≤ length c.args.out.now) (long_is c.before.before.before.before.before.before.before.before) (omega (arith, c.if-out-long.false)) in (
      ap (λ n. good n) (long_is c.before.before.before.before.before.before.before.before) ∙ answer_moved small file k.file k.is _ fits,
      c.put_file.ensures
          ∙ ap₂ (λ a b. lay c.args.out.now 0 (heads_gathered small file r a ++ (sums_gathered file r b ++ totals_copied file r))) (front_w c.before.before.before.before.before.before.before.before.before.before.before.before.before.before.before) (front_u c.before.before.before.before.before.before.before.before.before.before.before)
          ∙ ap (lay c.args.out.now 0) (gathered file k.file k.is r k.told small)
          ∙ left_moved small file k.file k.is c.args.out.now fits,
    )
