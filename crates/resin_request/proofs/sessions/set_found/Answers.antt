use Rattle.resin_request.proofs.sessions.set_found.Goals as goal

pub returns-in-Some : goal.returns-in-Some
returns-in-Some c = λ f t k. rw c.in-Some.is (c.set_entry.ensures f t k)

pub returns-in-None : goal.returns-in-None
returns-in-None c = λ f t k. rw c.in-None.is (c.set_empty.ensures f t k)
