use Rattle.std.proofs.Common.{refl}
use Rattle.resin_interp.proofs.meaning_lemmas.Composition.{does_exit, does_next}
use Rattle.resin_request.proofs.request.send_file.Goals as goal

pub filter_read-requires : goal.filter_read-requires
filter_read-requires g c = refl

pub returns-in_err-text : goal.returns-in_err-text
returns-in_err-text g c = does_exit _ _ _ c.from_residual.ensures.1 (c.in_err-text.ensures _ _ _)

pub returns-in_err-read : goal.returns-in_err-read
returns-in_err-read g c =
    does_next _ _ (c.in_ok-text.ensures _ _ _) (does_exit _ _ _ c.from_residual-in_err-read.ensures.1 c.in_err-read.ensures)

pub returns : goal.returns
returns g c = does_next _ _ (c.in_ok-text.ensures _ _ _) (does_next _ _ c.in_ok-read.ensures c.write_page.ensures)
