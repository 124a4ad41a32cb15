use Rattle.memchr.proofs.lemmas.ValueLemmas.{FindsLastNeedle-value}
use Rattle.resin_text_fn.proofs.search.last_place.Goals as goal

pub returns-clause-value : goal.returns-clause-value
returns-clause-value c = FindsLastNeedle-value c.args.haystack.now c.args.needle.now c.rfind.result c.rfind.ensures
