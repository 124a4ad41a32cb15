use Rattle.resin_sql_words.proofs.Placing.{left_of}
use Rattle.resin_sql_words.proofs.cursor.ByteCursor.left.Goals as goal

pub returns : goal.returns
returns c = let h = left_of c.self.inside.at c.self.inside.at c.self.inside.all.now in cc
