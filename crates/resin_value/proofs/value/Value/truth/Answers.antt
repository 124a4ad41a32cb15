use Rattle.std.proofs.Common.{ap, sym, ◌∙◌, not, eqb, length}
use Rattle.resin_value.specs.Seen.{tree_of}
use Rattle.resin_value.specs.Compare.{is_true}
use Rattle.resin_value.specs.Arrays.{entries_of-row_of}
use Rattle.resin_value.proofs.value.Value.truth.Goals as goal

pub returns-in-Arr : goal.returns-in-Arr
returns-in-Arr c =
    ap (λ n. not (eqb n 0)) (c.len.ensures.value ∙ ap length (sym (entries_of-row_of c.in-Arr.array.entries))) ∙ ap (λ v. is_true (tree_of v)) (sym c.in-Arr.is)
