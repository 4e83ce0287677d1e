-- `call_files::give_merged` meets its contract: the length in its room, a file's refusal, or another.
use Prim.Native.Nat.{◌+◌}
use Rattle.std.specs.Prelude.{ℕ, Result, Err}
use mathlib.Core.Path.{◌≡◌, ap, ◌∙◌}
use native.Mathlib.Omega.{arith}
use Rattle.refusal.proofs.Apart.{few}
use Rattle.call_rooms.specs.Result.{one}
use Rattle.call_rooms.proofs.Rooms.{on_given, on_refused}
use Rattle.merge.specs.declared.MergeRefusal.{MergeRefusal}
use Rattle.merge.specs.Files.{told_merge}
use Rattle.call_files.specs.Writing.{merge_call_number}
use Rattle.call_files.proofs.give_merged.Goals as goal

-- an answer that is a refusal is told by the refusal
why_told : (r : Result ℕ MergeRefusal) (k w : MergeRefusal) → r ≡ Err k → k ≡ w → merge_call_number (told_merge r) ≡ merge_call_number (told_merge (Err w))
why_told r k w e f = ap (λ a. merge_call_number (told_merge a)) (e ∙ ap Err f)

pub overflow_add-result : goal.overflow_add-result
overflow_add-result c = omega (arith, few c.in-Err-First.fault.why, c.number.ensures)

pub overflow_add-result-in-Err-Second : goal.overflow_add-result-in-Err-Second
overflow_add-result-in-Err-Second c = omega (arith, few c.in-Err-Second.fault.why, c.number-in-Err-Second.ensures)

pub returns-in-Ok : goal.returns-in-Ok
unfolding one merge_call_number
returns-in-Ok c =
    let got = on_given one _ _ _ (ap (λ a. merge_call_number (told_merge a)) c.in-Ok.is) (c.give.ensures.value, c.give.ensures.left) in record {
      value = got.0;
      left = got.1;
    }

pub returns-in-Err-First : goal.returns-in-Err-First
unfolding merge_call_number
returns-in-Err-First c =
    let got = on_refused one _ _ _ (why_told _ _ _ c.in-Err-First.is (rw c.in-Err-First.is at c.in-Err-First.field-0-is)) (ap (λ k. 100 + k) c.number.ensures) in record {
      value = got.0;
      left = got.1;
    }

pub returns-in-Err-Second : goal.returns-in-Err-Second
unfolding merge_call_number
returns-in-Err-Second c =
    let got = on_refused one _ _ _ (why_told _ _ _ c.in-Err-Second.is (rw c.in-Err-Second.is at c.in-Err-Second.field-0-is)) (ap (λ k. 200 + k) c.number-in-Err-Second.ensures) in record {
      value = got.0;
      left = got.1;
    }

pub returns-in-Err-Together : goal.returns-in-Err-Together
unfolding merge_call_number
returns-in-Err-Together c =
    let got = on_refused one _ _ _ (why_told _ _ _ c.in-Err-Together.is (rw c.in-Err-Together.is at c.in-Err-Together.field-0-is)) c.number-in-Err-Together.ensures in record {
      value = got.0;
      left = got.1;
    }
