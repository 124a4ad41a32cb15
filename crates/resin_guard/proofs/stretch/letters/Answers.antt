use Rattle.std.proofs.Common.{rules, ◌≡◌, true, Some, None, slice_index_or, refl, arith}
use Rattle.std.specs.Prelude.{◌==◌}
use Rattle.resin_scan.specs.Bytes.{lower}
use Rattle.resin_sql_words.proofs.Spelling.{goes_on, stops, ends}
use Rattle.resin_guard.proofs.stretch.letters.Goals as goal

pub turns-init : goal.turns-init
turns-init c = refl

pub returns-in_default : goal.returns-in_default
returns-in_default c = stops _ c.turns.letter-index c.args.word.now c.turns.bytes c.turns.invariant (Some c.in-Some.next) c.turns-test.true (search rules) (λ t e. let same : t ≡ c.in-Some.next = cc in rw same (search rules))

pub returns-in_default-2 : goal.returns-in_default-2
returns-in_default-2 c = stops _ c.turns.letter-index c.args.word.now c.turns.bytes c.turns.invariant None c.turns-test.true (search rules) (λ t e. cc)

pub turns-preserved : goal.turns-preserved
turns-preserved c =
    let h : (lower c.in-Some.next.byte == slice_index_or c.args.word.now c.turns.letter-index 0) ≡ true = search rules in
    goes_on _ c.turns.letter-index c.args.word.now c.turns.bytes c.turns.invariant c.in-Some.next c.skip.new.self c.turns-test.true c.skip.ensures h

pub returns : goal.returns
returns c = ends _ c.turns.letter-index c.args.word.now c.turns.bytes c.turns.invariant (omega (arith, c.turns-test.false))
