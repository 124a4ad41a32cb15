use mir.Val.{SFits}
use Rattle.std.proofs.Common.{ap, arith, pos, rules, w64, ℤ, ◌∙◌, ◌<◌, ◌^◌}
use Rattle.std.proofs.lemmas.Int.{to_z_pos}
use Rattle.resin_eval_writes.specs.Under.label.Sets.{empty as no_labels}
use Rattle.resin_eval_writes.specs.Under.value.Seen.{tree_of}
use Rattle.resin_eval_writes.specs.Under.value.Trees.{integer}
use Rattle.resin_eval_queries.proofs.queries.count_of.Goals as goal

pub returns : goal.returns
returns c =
    let few : c.args.n < 2 ^ 63 = omega (arith, c.if-n-gt-MOST.false) in
    ap tree_of c.number.ensures ∙ ap (λ (n : ℤ). integer n no_labels) (to_z_pos w64 c.args.n few)
