use Rattle.std.proofs.Common.{◌≡◌, ap, subst, sym, ◌∙◌, ◌<◌, length, List}
use Rattle.resin_scope.specs.Under.lstr.Texts.{Text}
use Rattle.resin_stage.proofs.Innermost.{joins_last}
use Rattle.resin_stage.proofs.buffers.Buffers.append.Goals as goal

pub returns : goal.returns
returns c =
    rw (← c.self.view_is) (joins_last c.args.t.now _ (length c.as_slice.result.now) _ c.index_mut-slot.result.now _ (ap length c.as_slice.ensures.value)
    (subst (λ (xs : List Text). 0 < length xs) (sym c.self.view_is) c.requires) c.index_mut-slot.ensures.value c.append_to.ensures)
