use Rattle.std.proofs.Common.{◌≡◌, Ok, Err, ◌∙◌, ap, rules}
use Rattle.std.proofs.lemmas.Result.{err_from_is_err_and}
use Rattle.resin_form.specs.Reading.{Got}
use Rattle.resin_parse_plain.specs.Lines.{line_in}
use Rattle.resin_parse_plain.proofs.Lifted.{expression_reads}
use Rattle.resin_parse_plain.proofs.reader.Reader.expression.Goals as goal

pub returns-in_err-tree : goal.returns-in_err-tree
returns-in_err-tree c =
    let p = err_from_is_err_and c.from_residual.result c.from_residual.ensures.1 in
    rw (p.1, p.2) (expression_reads (line_in c.args.self.now.lines.now) c.args.self.now.depth c.args.tokens.now c.read_expression.new.tokens (Err c.in_err-tree.field-0.0) c.in_err-tree.ensures.reads)

pub returns : goal.returns
returns c =
    let same : c.in_ok-tree.tree ≡ c.into_inner.result = search rules in
    expression_reads (line_in c.args.self.now.lines.now) c.args.self.now.depth c.args.tokens.now c.read_expression.new.tokens (Ok c.into_inner.result)
    (c.in_ok-tree.ensures.reads ∙ ap (λ x. Got x c.read_expression.new.tokens) same)
