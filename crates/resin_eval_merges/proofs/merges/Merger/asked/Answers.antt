use Rattle.resin_eval_nested.proofs.meaning_lemmas.Composition.{does_exit, does_next}
use Rattle.resin_eval_merges.proofs.merges.Merger.asked.Goals as goal

pub returns-in_err-first : goal.returns-in_err-first
returns-in_err-first g c =
    does_exit _ _ _ c.from_residual.ensures.1 (rw (c.as_slice-left.ensures.members, c.as_slice-right.ensures.members, c.empty.ensures) at c.in_err-first.ensures)

pub returns : goal.returns
returns g c =
    does_next _ _ (rw (c.as_slice-left.ensures.members, c.as_slice-right.ensures.members, c.empty.ensures) at c.in_ok-first.ensures) (rw (c.as_slice-left.ensures.members, c.as_slice-right.ensures.members) at c.ask_merges-2.ensures)
