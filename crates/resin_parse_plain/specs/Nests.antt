-- A function value that reads constant expressions, where fewer constructs than a bound may still open.
use Rattle.std.specs.Prelude.{ℕ, ◌<◌, List, Result}
use denote.Ref.{MutBor}
use Rattle.resin_form.specs.Reads.{Reads}
use Rattle.resin_form.specs.declared.fault.Fault.{Fault}
use Rattle.resin_lex.specs.declared.token.Token.{Token}
use Rattle.resin_tree.specs.declared.declaration.Constant.{Constant}
use Rattle.resin_program_grammar.specs.Constants.{constant}
use Rattle.resin_program_grammar.specs.Reading.{under}
use Rattle.resin_parse_plain.specs.Lines.{line_in}
use Rattle.resin_parse_plain.specs.declared.reader.Reader.{Reader}

pub record NestsConstants (bound : ℕ) (pre : Reader → MutBor (List Token) → Type 0)
    (post : Reader → MutBor (List Token) → Result Constant Fault → MutBor (List Token) → Type 0) : Type 0 where
  pub callable : (r : Reader) (old : MutBor (List Token)) → r.depth < bound → pre r old
  pub reads : (r : Reader) (old new : MutBor (List Token)) (found : Result Constant Fault) → r.depth < bound → post r old found new
      → Reads (under (line_in r.lines.now) r.depth constant old.now) found new.now
