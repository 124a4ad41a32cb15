use Rattle.std.proofs.Common.{◌≡◌, ◌-◌, length, take, Some, List, ℕ, arith, sym, ap, ◌∙◌}
use Rattle.std.proofs.lemmas.Result.{err_from_is_err_and}
use Rattle.resin_frozen.specs.Reading.{Policy, policy, front}
use Rattle.resin_frozen.proofs.One_text.{front_fails, front_found, front_read, behind_short}
use Rattle.resin_frozen.proofs.frozen.Frozen.read.Goals as goal

pub returns-in_err-read_policy : goal.returns-in_err-read_policy
returns-in_err-read_policy c =
    let p = err_from_is_err_and c.from_residual.result c.from_residual.ensures.1 in
    rw (p.1, p.2) (front_fails c.args.rest.now c.read_policy.new.rest c.read_policy.new.rest c.in_err-read_policy.field-0.0 c.in_err-read_policy.ensures.policy)

pub overflow_sub-len : goal.overflow_sub-len
overflow_sub-len c =
    let h = behind_short c.args.rest.now c.read_policy.new.rest (c.in_ok-read_policy.field-0.0.now, c.in_ok-read_policy.field-0.1.entries) c.in_ok-read_policy.ensures.policy in
    omega (arith, h, ap length c.bytes-bytes.ensures, ap length c.bytes.ensures)

-- the bytes that were passed
passed : (old new all left text : List ℕ) (p : Policy) → policy old ≡ Some (p, new) → all ≡ old → left ≡ new → text ≡ take (length all - length left) all → front old ≡ Some (text, new)
passed old new all left text p h a l t = front_found old new p h ∙ ap (λ w. Some (w, new)) (sym (t ∙ ap (λ ys. take (length ys - length left) ys) a ∙ ap (λ ys. take (length old - length ys) old) l))

pub kept-requires : goal.kept-requires
kept-requires c =
    let p : Policy = (c.in_ok-read_policy.field-0.0.now, c.in_ok-read_policy.field-0.1.entries) in
    let h = passed c.args.rest.now c.read_policy.new.rest c.bytes-bytes.result.now c.bytes.result.now c.in_ok-text.text p c.in_ok-read_policy.ensures.policy c.bytes-bytes.ensures c.bytes.ensures c.in_ok-text.ensures in
    (front_read c.args.rest.now c.in_ok-text.text c.read_policy.new.rest h).1

pub returns : goal.returns
returns c =
    let p : Policy = (c.in_ok-read_policy.field-0.0.now, c.in_ok-read_policy.field-0.1.entries) in
    passed c.args.rest.now c.read_policy.new.rest c.bytes-bytes.result.now c.bytes.result.now c.kept.result p c.in_ok-read_policy.ensures.policy c.bytes-bytes.ensures c.bytes.ensures (c.kept.ensures ∙ c.in_ok-text.ensures)
