use Rattle.std.proofs.Common.{◌≡◌, ◌∙◌, ap, false}
use Rattle.std.specs.Prelude.{codes, option_map}
use Rattle.resin_journal_file.specs.Reading.{is_text}
use Rattle.resin_audit.proofs.Taking.{line_told}
use Rattle.resin_audit.proofs.items.read_line.Goals as goal

pub returns-in-Some-read_told : goal.returns-in-Some-read_told
returns-in-Some-read_told c =
    let other : is_text c.in-Some.verb.now (codes "sent") ≡ false = cc in
    line_told c.args.fields c.next.new.self c.in-Some.verb.now c.args.rest.now c.read_told.result c.in-Some.ensures other c.read_told.ensures
    ∙ ap (option_map (λ i. (i, c.args.rest.now))) c.in-Some-read_told.is

pub returns-in-None : goal.returns-in-None
returns-in-None c =
    let other : is_text c.in-Some.verb.now (codes "sent") ≡ false = cc in
    line_told c.args.fields c.next.new.self c.in-Some.verb.now c.args.rest.now c.read_told.result c.in-Some.ensures other c.read_told.ensures
    ∙ ap (option_map (λ i. (i, c.args.rest.now))) c.in-None.is
