use Rattle.std.proofs.Common.{◌≡◌, ◌≤◌, arith, suc, ◌-◌, length, drop, Err, subst, rules}
use Rattle.resin_form.specs.declared.fault.Fault.TheVariants.{Syntax}
use Rattle.resin_grammar.specs.Reading.{Gives}
use Rattle.resin_parse_expr.specs.Answers.{place_of}
use Rattle.resin_parse_expr.proofs.Tails.{tree_at, refused_at}
use Rattle.resin_parse_expr.proofs.top.expression.Goals as goal

pub returns-in-Ok : goal.returns-in-Ok
returns-in-Ok c =
    let from : c.from_index-tokens.result ≡ drop c.args.at c.args.t.now.tokens = search rules in
    let count : c.saturating_sub-next.result ≡ length c.args.t.now.tokens - length c.read_expression-found.new.tokens = search rules in
    let same : c.into_inner.result ≡ c.in-Ok.tree = search rules in
    let within : c.saturating_sub-next.result ≤ length c.args.t.now.tokens = omega (count, arith) in (
      within,
      tree_at c.args.t.now.tokens c.from_index-tokens.result c.read_expression-found.new.tokens c.args.at c.saturating_sub-next.result (suc (200 - c.args.around)) from count
          c.in-Ok.tree c.into_inner.result same c.in-Ok.ensures.gives,
    )

pub returns-in-Err-Syntax : goal.returns-in-Err-Syntax
returns-in-Err-Syntax c =
    let from : c.from_index-tokens.result ≡ drop c.args.at c.args.t.now.tokens = search rules in
    let count : c.saturating_sub-next.result ≡ length c.args.t.now.tokens - length c.read_expression-found.new.tokens = search rules in
    let place : c.place_at.result ≡ place_of c.args.t.now.end (drop c.saturating_sub-next.result c.args.t.now.tokens) = search rules in
    let fault : c.read_expression-found.result ≡ Err Syntax = search rules in
    refused_at c.args.t.now.tokens c.from_index-tokens.result c.read_expression-found.new.tokens c.args.at c.saturating_sub-next.result (suc (200 - c.args.around)) from count
    c.args.t.now.end c.place_at.result place
    (subst (λ r. Gives (200 - c.args.around) c.from_index-tokens.result r c.read_expression-found.new.tokens) fault c.read_expression-found.ensures.gives)
