use Rattle.std.proofs.Common.{ℕ, ◌+◌, List, length, sym, ◌∙◌}
use Rattle.std.proofs.lemmas.List.{length-map}
use Rattle.std.proofs.lemmas.Iterator.Consumers.{count_from_yields_List, YieldsList-from_first}
use Rattle.memchr.specs.Find.{matches}
use Rattle.resin_text_fn.proofs.search.count_of.Goals as goal

pub returns-clause-value : goal.returns-clause-value
returns-clause-value c =
    let found = matches c.args.haystack.now c.args.needle.now 0 in
    count_from_yields_List c.find_iter.result c.count.result c.count.ensures.ran
    (YieldsList-from_first (λ (x : ℕ). x) (λ (rest : List ℕ). rest) found c.find_iter.ensures.value)
    ∙ sym (length-map found (λ start. (start, start + length c.args.needle.now)))
