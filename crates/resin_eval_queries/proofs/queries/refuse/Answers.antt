use Rattle.resin_eval_queries.proofs.queries.refuse.Goals as goal

pub returns : goal.returns
returns c = rw (c.as_bytes.ensures.value, c.message.ensures) at c.throw.ensures
