use Rattle.std.proofs.Common.{◌≡◌, ◌+◌, ◌-◌, true, false, codes, rules, arith, sym, subst, ◌∙◌}
use Rattle.std.proofs.lemmas.Result.{err_from_is_err_and}
use Rattle.resin_frozen.specs.Reading.{is_text, value}
use Rattle.resin_frozen.specs.Reads.{ReadsValue}
use Rattle.resin_frozen.proofs.Turns.{turn, fails, ends, scalar, array_got, array_fails}
use Rattle.resin_frozen.proofs.values.+reading.Goals as goal

pub read_pairs-loop-i-preserved : goal.read_pairs-loop-i-preserved
read_pairs-loop-i-preserved t c = (
  sym (turn (value c.args.room) c.args.keys (c.args.count - c.loop-i._i) (c.args.count - (c.loop-i._i + 1)) c.loop-i.array c.in_ok-array.array c.loop-i.rest c.read_pair.new.rest (omega (arith, c.loop-i-test.true)) c.in_ok-array.ensures.reads)
      ∙ c.loop-i.invariant.0,
  c.in_ok-array.ensures.low,
)

pub read_pairs-returns-in_err-array-clause-reads : goal.read_pairs-returns-in_err-array-clause-reads
read_pairs-returns-in_err-array-clause-reads t c =
    let p = err_from_is_err_and c.from_residual.result c.from_residual.ensures.1 in
    rw (p.1, p.2) (fails (value c.args.room) c.args.keys (c.args.count - c.loop-i._i) (c.args.count - (c.loop-i._i + 1)) c.loop-i.array c.loop-i.rest c.read_pair.new.rest c.read_pair.new.rest c.in_err-array.field-0.0 _ (omega (arith, c.loop-i-test.true)) c.loop-i.invariant.0 c.in_err-array.ensures.reads)

pub read_pairs-returns-clause-reads : goal.read_pairs-returns-clause-reads
read_pairs-returns-clause-reads t c = sym c.loop-i.invariant.0 ∙ ends (value c.args.room) c.args.keys (c.args.count - c.loop-i._i) c.loop-i.array c.loop-i.rest (omega (arith, c.loop-i-test.false))

pub read_value-returns-then-ne-clause-reads : goal.read_value-returns-then-ne-clause-reads
read_value-returns-then-ne-clause-reads t c =
    let f : is_text c.in_ok-kind.kind.now (codes "a:") ≡ false = search rules in
    subst (λ o. ReadsValue o c.read_scalar.result c.read_scalar.new.rest) (sym (scalar c.args.room c.args.rest.now c.in_ok-kind.kind.now c.take.new.self c.in_ok-kind.ensures f)) c.read_scalar.ensures.reads

pub read_value-returns-in_err-array-clause-reads : goal.read_value-returns-in_err-array-clause-reads
read_value-returns-in_err-array-clause-reads t c =
    let p = err_from_is_err_and c.from_residual-in_err-array.result c.from_residual-in_err-array.ensures.1 in
    let f : is_text c.in_ok-kind.kind.now (codes "a:") ≡ true = search rules in
    rw (p.1, p.2) (array_fails c.args.room (c.args.room - 1) c.args.rest.now c.in_ok-kind.kind.now c.take.new.self c.read_braced.new.rest c.read_braced.new.rest c.in_err-array.field-0.0 c.in_ok-kind.ensures f (omega arith) c.in_err-array.ensures.reads)

pub read_value-returns-clause-reads : goal.read_value-returns-clause-reads
read_value-returns-clause-reads t c =
    let f : is_text c.in_ok-kind.kind.now (codes "a:") ≡ true = search rules in
    array_got c.args.room (c.args.room - 1) c.args.rest.now c.in_ok-kind.kind.now c.take.new.self c.read_braced.new.rest c.in_ok-array.array c.in_ok-kind.ensures f (omega arith) c.in_ok-array.ensures.reads
