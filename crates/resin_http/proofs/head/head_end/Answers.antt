use Rattle.std.proofs.Common.{◌+◌, drop, sym, ap, ◌∙◌, arith}
use Rattle.std.specs.Prelude.{option_map}
use Rattle.resin_http.specs.Stream.{head_end}
use Rattle.resin_http.proofs.MarkLemmas.{head_end_step}
use Rattle.resin_http.proofs.WaitLemmas.{resumed}
use Rattle.resin_http.proofs.head.head_end.Goals as goal

pub loop-i-init : goal.loop-i-init
loop-i-init c =
    ap (λ i. option_map (λ n. n + i) (head_end (drop i c.args.bytes.now))) c.saturating_sub-start.ensures ∙ resumed c.args.bytes.now c.args.searched c.requires

pub loop-i-preserved : goal.loop-i-preserved
loop-i-preserved c = sym (head_end_step c.args.bytes.now c.loop-i.i (omega arith) (sym c.if-starts_with.ensures.value)) ∙ c.loop-i.invariant
