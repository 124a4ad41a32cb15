use Rattle.memchr.proofs.lemmas.ValueLemmas.{FindsNeedle-value}
use Rattle.resin_text_fn.proofs.search.first_place.Goals as goal

pub returns-clause-value : goal.returns-clause-value
returns-clause-value c = FindsNeedle-value c.args.haystack.now c.args.needle.now c.find.result c.find.ensures
