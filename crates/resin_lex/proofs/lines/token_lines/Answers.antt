use Rattle.std.proofs.Common.{◌≡◌, ◌<◌, ◌+◌, ◌∷◌, ◌++◌, [], length, map, take, drop, sym, ◌∙◌, ap, arith}
use Rattle.resin_lex.specs.Lines.{line_ends, line_of_token}
use Rattle.resin_lex.proofs.LineTurns.{row_step, front, mapped}
use Rattle.resin_lex.proofs.lines.token_lines.Goals as goal

pub ends_within-line-requires-clause-within : goal.ends_within-line-requires-clause-within
ends_within-line-requires-clause-within c =
    let ts = c.as_slice-tokens.result.now in
    let i = c.loop-token.token-index in
    let x = c.token-item.result in
    (row_step c.loop-token.at (length c.args.src.now) (drop i ts) x (drop (i + 1) ts) c.loop-token.invariant.row (front i ts x (omega arith) c.token-item.is)).within

pub overflow_add-line : goal.overflow_add-line
overflow_add-line c =
    let ts = c.as_slice-tokens.result.now in
    let i = c.loop-token.token-index in
    let x = c.token-item.result in
    let w = (row_step c.loop-token.at (length c.args.src.now) (drop i ts) x (drop (i + 1) ts) c.loop-token.invariant.row (front i ts x (omega arith) c.token-item.is)).within in
    omega (arith, w, c.ends_within-line.ensures.few, c.loop-token.invariant.few)

pub loop-token-preserved : goal.loop-token-preserved
loop-token-preserved c =
    let ts = c.as_slice-tokens.result.now in
    let src = c.args.src.now in
    let i = c.loop-token.token-index in
    let x = c.token-item.result in
    let h : i < length ts = omega arith in
    let r = row_step c.loop-token.at (length src) (drop i ts) x (drop (i + 1) ts) c.loop-token.invariant.row (front i ts x h c.token-item.is) in
    let e : c.loop-token.line + c.ends_within-line.result ≡ 1 + line_ends x.from src = omega (arith, c.ends_within-line.ensures.is, c.loop-token.invariant.line_is) in
    record {
      row = r.row;
      line_is = e;
      few = omega (arith, c.ends_within-line.ensures.few, c.loop-token.invariant.few);
      so_far =
          c.in_ok-push.ensures.ok
          ∙ ap (λ v. v ++ (c.loop-token.line + c.ends_within-line.result) ∷ []) c.loop-token.invariant.so_far
          ∙ ap (λ n. map (line_of_token src) (take i ts) ++ n ∷ []) e
          ∙ sym (mapped src i ts x h c.token-item.is);
    }
