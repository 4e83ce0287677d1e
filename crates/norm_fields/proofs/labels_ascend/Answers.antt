use mathlib.Core.Path.{◌≡◌, sym, ap, ◌∙◌}
use Prim.Native.Nat.{◌+◌, ◌*◌}
use native.Mathlib.Omega.{arith}
use native.Mathlib.Nat.{sub-zero, add-zero}
use Rattle.byte_words.proofs.Stands.{stands_done, stands_next}
use Rattle.norm_room.specs.Room.{label_in_heads}
use Rattle.num_whole.proofs.Walks.{ascend_done, ascend_on, ascend_off}
use Rattle.norm_system.specs.System.{key_of}
use Rattle.norm_fields.specs.Fields.{bare_label}
use Rattle.norm_fields.proofs.Fields.{bare_key, label_small_at, label_kind_at}
use Rattle.norm_fields.proofs.labels_ascend.Goals as goal

pub loop-i-init : goal.loop-i-init
loop-i-init c = (omega arith, rw (sub-zero, add-zero))

pub label_at-requires : goal.label_at-requires
label_at-requires c =
    let l = c.loop-i in
    (omega arith, label_small_at _ _ _ c.requires.3 l.i (c.args.arcs + 5 * l.i) (omega arith) (omega arith))

pub overflow_add-floor : goal.overflow_add-floor
unfolding bare_label
overflow_add-floor c =
    let l = c.loop-i in
    omega (arith, c.label_key-key.ensures.1, ap (λ b. b.kind) c.label_at.ensures, label_kind_at c.args.arcs c.args.n c.args.heads.now c.requires.3 l.i (c.args.arcs + 5 * l.i) (omega arith) (omega arith))

pub loop-i-preserved : goal.loop-i-preserved
loop-i-preserved c =
    let next : c.args.arcs + 5 * (c.loop-i.i + 1) ≡ c.args.arcs + 5 * c.loop-i.i + 5 = omega arith in
    let key : c.label_key-key.result ≡ key_of (label_in_heads c.args.heads.now (c.args.arcs + 5 * c.loop-i.i)) =
    c.label_key-key.ensures.0 ∙ ap key_of c.label_at.ensures ∙ bare_key _ _ in
    (omega arith, rw (next, key) (c.loop-i.invariant.1 ∙ ascend_on key_of _ (stands_next _ _ _ _ _ (omega arith)) (omega (arith, key))))

pub returns-then-key-floor : goal.returns-then-key-floor
returns-then-key-floor c =
    let key : c.label_key-key.result ≡ key_of (label_in_heads c.args.heads.now (c.args.arcs + 5 * c.loop-i.i)) =
    c.label_key-key.ensures.0 ∙ ap key_of c.label_at.ensures ∙ bare_key _ _ in
    sym (c.loop-i.invariant.1 ∙ ascend_off key_of _ (stands_next _ _ _ _ _ (omega arith)) (omega (arith, key)))

pub returns : goal.returns
returns c = sym (c.loop-i.invariant.1 ∙ ascend_done key_of _ (stands_done _ _ _ _ _ (omega arith)))
