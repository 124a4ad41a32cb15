use Rattle.resin_site.proofs.Keepers.{tells_what_is_held}
use Rattle.resin_site.proofs.keeping.keeping_laws.Goals as goal

pub returns : goal.returns
returns c = tells_what_is_held
