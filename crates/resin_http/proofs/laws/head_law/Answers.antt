use Rattle.resin_http.proofs.HeadLemmas.{head_sound, head_complete}
use Rattle.resin_http.proofs.laws.head_law.Goals as goal

pub returns : goal.returns
returns c = λ bytes head. (head_sound bytes head, head_complete bytes head)
