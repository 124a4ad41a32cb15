use Rattle.resin_request.proofs.Kept_scripts.{meant_put}
use Rattle.resin_request.proofs.scripts.Scripts.keep.Goals as goal

pub invariant_of-self-in_err-put : goal.invariant_of-self-in_err-put
invariant_of-self-in_err-put c = rw c.in_err-put.ensures.err c.self.invariant

pub invariant_of-self-2 : goal.invariant_of-self-2
invariant_of-self-2 c =
    rw c.in_ok-put.ensures.entries
    (meant_put c.self.inside.kept c.in_ok-text.text c.in_ok-clone.field-0 (rw (c.in_ok-text.ensures, c.in_ok-clone.ensures.cases) c.requires) c.self.invariant)
