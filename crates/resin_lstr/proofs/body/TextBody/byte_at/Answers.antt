use Rattle.std.proofs.Common.{ap, ◌∙◌, sym, arith, get_or, length}
use Rattle.resin_lstr.specs.Texts.{bytes_of}
use Rattle.resin_lstr.proofs.Zips.{long, bytes_text}
use Rattle.resin_lstr.proofs.body.TextBody.byte_at.Goals as goal

pub bounds-as_slice-i : goal.bounds-as_slice-i
bounds-as_slice-i c = omega (arith, ap length c.as_slice.ensures, long _ _ c.self.invariant c.self.view_is)

pub returns : goal.returns
returns c = ap (λ bs. get_or bs c.args.i 0) (c.as_slice.ensures ∙ sym (bytes_text _ _ c.self.invariant) ∙ ap bytes_of c.self.view_is)
