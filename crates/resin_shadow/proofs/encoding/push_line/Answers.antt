use Rattle.std.proofs.Common.{decimal}
use Rattle.resin_shadow.proofs.Ending.{line_pushed}
use Rattle.resin_shadow.proofs.encoding.push_line.Goals as goal

pub returns : goal.returns
returns c = line_pushed c.args.text.now (decimal c.args.first) c.args.more.now c.push_number.new.text c.push_words.new.text c.push.new.self c.in_ok-push_number.ensures c.in_ok-push_words.ensures c.in_ok-push.ensures.ok
