use Rattle.std.proofs.Common.{length, ap, arith}
use Rattle.std.proofs.lemmas.List.{length-map}
use Rattle.resin_text_fn.proofs.parts.explode.Goals as goal

pub matched_parts-requires-clause-short : goal.matched_parts-requires-clause-short
matched_parts-requires-clause-short c = omega (arith, ap length c.bytes.ensures, length-map c.args.s.now (λ p. p.0), c.len-2.ensures.value, c.len-2.ensures.short)
