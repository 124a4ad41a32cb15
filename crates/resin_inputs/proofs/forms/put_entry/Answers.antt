use Rattle.resin_value.specs.Seen.{tree_of}
use Rattle.resin_inputs.proofs.PutLemmas.{entry_put, on_ok}
use Rattle.resin_inputs.proofs.forms.put_entry.Goals as goal

pub returns : goal.returns
returns c =
    on_ok c.put-2.result _ _
    (λ h. entry_put c.args.key.now c.args.k.now (tree_of c.args.value) c.args.array.now c.in_ok-inner.inner c.add_entry.new.array c.put.new.array c.put-2.new.array
    c.in_ok-inner.ensures c.in_ok-add_entry.ensures c.in_ok-put.ensures h) c.put-2.ensures
