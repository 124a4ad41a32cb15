use Rattle.std.proofs.Common.{sym, ap, ◌∙◌}
use Rattle.resin_lstr.specs.Texts.{bytes_of}
use Rattle.resin_lstr.proofs.Zips.{bytes_text}
use Rattle.resin_lstr.proofs.body.TextBody.bytes.Goals as goal

pub returns : goal.returns
returns c = c.as_slice.ensures ∙ sym (bytes_text _ _ c.self.invariant) ∙ ap bytes_of c.self.view_is
