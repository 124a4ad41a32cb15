use Rattle.resin_serve.proofs.Marking.{added_marks}
use Rattle.resin_serve.proofs.waiting.WaitingStreams.add.Goals as goal

pub invariant_of-self-2 : goal.invariant_of-self-2
invariant_of-self-2 c =
    added_marks c.add.result _ _ _ _ c.args.conn c.as_slice.result.now c.self.invariant c.make_room.ensures c.add.ensures.others c.add.ensures.ok c.add.ensures.err
