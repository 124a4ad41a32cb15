use Rattle.std.proofs.Common.{◌+◌, ◌++◌, ◌∷◌, [], take, ◌∙◌, ap, sym, subst, arith, rules}
use Rattle.resin_scan.proofs.Scans.{tail}
use Rattle.resin_lex.specs.First.{Spells}
use Rattle.resin_lex.specs.Reads.{token_of}
use Rattle.resin_lex.specs.declared.token.Token.{Token}
use Rattle.resin_lex.proofs.Turns.{skips, takes, faults, stays_open, slice_of}
use Rattle.resin_lex.proofs.lexer.read_all.Goals as goal

pub returns-in-Fault : goal.returns-in-Fault
returns-in-Fault c = faults c.args.src.now c.loop-at.opened.items c.loop-at.at c.loop-at.tokens c.loop-at.invariant.1 (omega arith) c.blamed.result (search (rules, c.in-Fault.ensures.is, tail c.args.src.now c.loop-at.at)) (search rules)

pub loop-at-preserved-in-Skip : goal.loop-at-preserved-in-Skip
loop-at-preserved-in-Skip c = (omega (arith, c.in-Skip.ensures.moves), skips c.args.src.now c.loop-at.opened.items c.loop-at.at c.loop-at.tokens c.loop-at.invariant.1 (omega arith) c.in-Skip.n c.in-Skip.act c.perform.new.opened.items (search (rules, c.in-Skip.ensures.is, tail c.args.src.now c.loop-at.at)) (search (rules, c.in_ok-perform-in-Skip.ensures)))

pub loop-at-preserved : goal.loop-at-preserved
loop-at-preserved c =
    let src = c.args.src.now in
    let at = c.loop-at.at in
    let n = c.in-Token.n in
    let shape = c.in-Token.shape in (
      omega (arith, c.in-Token.ensures.moves),
      takes src c.loop-at.opened.items at c.loop-at.tokens c.loop-at.invariant.1 (omega arith) shape n c.in-Token.act c.perform-in-Token.new.opened.items c.push-in-Token.new.self (search (rules, c.in-Token.ensures.is, tail src at)) (search (rules, c.in_ok-perform-in-Token.ensures)) (c.in_ok-push-in-Token.ensures.ok ∙ ap (λ (t : Token). c.loop-at.tokens ++ t ∷ []) (c.in_ok-make_token-in-Token.ensures ∙ ap (token_of shape at (at + n)) (slice_of src at n))),
    )

pub make_token-requires-clause-word : goal.make_token-requires-clause-word
make_token-requires-clause-word c =
    let src = c.args.src.now in
    let at = c.loop-at.at in
    let n = c.in-Token.n in
    subst (λ xs. Spells c.in-Token.shape xs) (sym (slice_of src at n)) (subst (λ xs. Spells c.in-Token.shape (take n xs)) (tail src at) c.in-Token.ensures.moves.1.1)

pub returns : goal.returns
returns c = stays_open c.args.src.now c.loop-at.opened.items c.loop-at.at c.loop-at.tokens c.loop-at.invariant.1 (omega arith) c.innermost_quote.result (search (rules, c.innermost_quote.ensures))
