use Rattle.std.proofs.Common.{◌≡◌, true, Some, None}
use Rattle.std.proofs.Common.{rules as std_rules}
use Rattle.std.proofs.lemmas.Result.{err_from_is_err_and}
use Rattle.resin_form.specs.Reads.{first}
use Rattle.resin_program_grammar.specs.Declarations.{begins_item}
use Rattle.resin_parse_plain.specs.Lines.{line_in}
use Rattle.resin_parse_statement.proofs.Repeats.{items_shorten, items_go_on, items_fail, items_end}
use Rattle.resin_parse.proofs.class.Declarations.more_items.Goals as goal
use Rattle.resin_parse.proofs.class.Declarations.more_items.Goals.{in-Some+then-not-begins_item, in_default}

pub returns-in_err-items : goal.returns-in_err-items
returns-in_err-items c =
    let p = err_from_is_err_and c.from_residual.result c.from_residual.ensures.1 in
    let h : begins_item c.in-Some.next.now ≡ true = search std_rules in
    let f : first c.turns.tokens ≡ Some c.in-Some.next.now = search std_rules in
    rw (p.1, p.2) (items_fail (line_in c.args.self.now.reader.lines.now) c.args.self.now.reader.depth c.turns.items c.in-Some.next.now c.turns.tokens f h _ c.turns.invariant c.one_more_item.new.tokens c.in_err-items.field-0.0 c.in_err-items.ensures)

pub turns-smaller : goal.turns-smaller
turns-smaller c =
    let h : begins_item c.in-Some.next.now ≡ true = search std_rules in
    let f : first c.turns.tokens ≡ Some c.in-Some.next.now = search std_rules in
    items_shorten (line_in c.args.self.now.reader.lines.now) c.args.self.now.reader.depth c.turns.items c.in-Some.next.now c.turns.tokens f h c.one_more_item.new.tokens c.in_ok-items.items c.in_ok-items.ensures

pub turns-preserved : goal.turns-preserved
turns-preserved c =
    let h : begins_item c.in-Some.next.now ≡ true = search std_rules in
    let f : first c.turns.tokens ≡ Some c.in-Some.next.now = search std_rules in
    items_go_on (line_in c.args.self.now.reader.lines.now) c.args.self.now.reader.depth c.turns.items c.in-Some.next.now c.turns.tokens f h _ c.turns.invariant c.one_more_item.new.tokens c.in_ok-items.items c.in_ok-items.ensures

pub returns : goal.returns
returns c = elim c.match-peek.branch [
  | in-Some+then-not-begins_item arm ↦ items_end (line_in c.args.self.now.reader.lines.now) c.args.self.now.reader.depth _ c.turns.items c.turns.tokens c.turns.invariant
      (Some arm.in-Some.next.now) (search std_rules) (λ t e. let same : t ≡ arm.in-Some.next.now = cc in rw same (search std_rules))
  | in_default arm ↦ items_end (line_in c.args.self.now.reader.lines.now) c.args.self.now.reader.depth _ c.turns.items c.turns.tokens c.turns.invariant
      None (search std_rules) (λ t e. cc)
]
