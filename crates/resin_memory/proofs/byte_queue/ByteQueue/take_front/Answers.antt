use Rattle.std.proofs.Common.{sym, ◌∙◌}
use Rattle.resin_memory.proofs.Taking.{moved_front}
use Rattle.resin_memory.proofs.byte_queue.ByteQueue.take_front.Goals as goal

pub returns-clause-left : goal.returns-clause-left
returns-clause-left c =
    sym c.self.view_is ∙ moved_front _ _ c.self.inside.place c.copy_front-count.result _ c.as_slice.ensures c.copy_front-count.ensures.front
