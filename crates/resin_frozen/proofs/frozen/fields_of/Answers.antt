use Rattle.std.proofs.Common.{◌++◌, ◌∷◌, [], sym, ap, ◌∙◌}
use Rattle.resin_value.specs.declared.key.Key.{Key}
use Rattle.resin_value.specs.Trees.{Tree}
use Rattle.resin_value.specs.Seen.{tree_of}
use Rattle.resin_frozen.specs.Policies.{is_field_key, pairs_of}
use Rattle.resin_frozen.proofs.Loops.{all_at, more, pairs_push}
use Rattle.resin_frozen.proofs.frozen.fields_of.Goals as goal

pub name_of-requires : goal.name_of-requires
name_of-requires c = all_at (λ e. is_field_key e.0) c.args.pairs.now.entries c.loop-i.i (c.entry.result.0.now, tree_of c.entry.result.1.now) c.entry.ensures c.requires

pub loop-i-preserved : goal.loop-i-preserved
loop-i-preserved c =
    let entry : Key × Tree = (c.entry.result.0.now, tree_of c.entry.result.1.now) in
    ap pairs_of c.in_ok-push.ensures.ok ∙ pairs_push c.loop-i.fields c.in_ok-name.name c.in_ok-clone.field-0
    ∙ (λ j. c.loop-i.invariant j ++ (c.in_ok-name.ensures j, tree_of (c.in_ok-clone.ensures.cases j)) ∷ [])
    ∙ sym (more c.args.pairs.now.entries c.loop-i.i entry c.entry.ensures)
