use Rattle.std.proofs.Common.{◌≡◌, suc, true, Some, None, Err, subst}
use Rattle.std.proofs.Common.{rules as std_rules}
use Rattle.std.proofs.lemmas.Result.{err_from_is_err_and}
use Rattle.resin_form.specs.Form.{taken}
use Rattle.resin_form.specs.Reading.{Got}
use Rattle.resin_form.specs.Reads.{Reads}
use Rattle.resin_form.proofs.Turns.{smaller, goes_on, fails, ends}
use Rattle.resin_program_grammar.specs.Declarations as spec
use Rattle.resin_grammar.specs.Reading.{is_low}
use Rattle.resin_program_grammar.specs.Declarations.{rules}
use Rattle.resin_program_grammar.specs.Reading.{under}
use Rattle.resin_parse_plain.specs.Lines.{line_in}
use Rattle.resin_parse.proofs.class.Declarations.more_members.Goals as goal
use Rattle.resin_parse.proofs.class.Declarations.more_members.Goals.{in-Some+then-not-begins_member, in_default}

pub returns-in_err-members : goal.returns-in_err-members
unfolding spec.more_members
returns-in_err-members c =
    let p = err_from_is_err_and c.from_residual.result c.from_residual.ensures.1 in
    let h : (spec.begins_member c.in-Some.next.now.kind) ≡ true = search std_rules in
    rw (p.1, p.2) (fails (rules (line_in c.args.self.now.reader.lines.now)) is_low (suc c.args.self.now.reader.depth) (λ d t. spec.begins_member t.kind) (λ ms t. taken (spec.member ms ((line_in c.args.self.now.reader.lines.now) t) t.kind)) _ c.turns.members c.turns.tokens c.turns.invariant
    c.in-Some.next.now c.skip.new.self c.member.new.tokens c.in_err-members.field-0.0 c.skip.ensures h
    (subst (λ n. Reads (under (line_in c.args.self.now.reader.lines.now) c.args.self.now.reader.depth (spec.member c.turns.members n c.in-Some.next.now.kind) c.skip.new.self) (Err c.in_err-members.field-0.0) c.member.new.tokens) c.line_of-line.ensures c.in_err-members.ensures))

pub turns-smaller : goal.turns-smaller
turns-smaller c = smaller (rules (line_in c.args.self.now.reader.lines.now)) is_low (suc c.args.self.now.reader.depth) (taken (spec.member c.turns.members ((line_in c.args.self.now.reader.lines.now) c.in-Some.next.now) c.in-Some.next.now.kind)) c.turns.tokens c.in-Some.next.now c.skip.new.self c.in_ok-members.members c.member.new.tokens c.skip.ensures
    (subst (λ n. under (line_in c.args.self.now.reader.lines.now) c.args.self.now.reader.depth (spec.member c.turns.members n c.in-Some.next.now.kind) c.skip.new.self ≡ Got c.in_ok-members.members c.member.new.tokens) c.line_of-line.ensures c.in_ok-members.ensures)

pub turns-preserved : goal.turns-preserved
unfolding spec.more_members
turns-preserved c =
    let h : (spec.begins_member c.in-Some.next.now.kind) ≡ true = search std_rules in
    goes_on (rules (line_in c.args.self.now.reader.lines.now)) is_low (suc c.args.self.now.reader.depth) (λ d t. spec.begins_member t.kind) (λ ms t. taken (spec.member ms ((line_in c.args.self.now.reader.lines.now) t) t.kind)) _ c.turns.members c.turns.tokens c.turns.invariant
    c.in-Some.next.now c.skip.new.self c.member.new.tokens c.in_ok-members.members c.skip.ensures h
    (subst (λ n. under (line_in c.args.self.now.reader.lines.now) c.args.self.now.reader.depth (spec.member c.turns.members n c.in-Some.next.now.kind) c.skip.new.self ≡ Got c.in_ok-members.members c.member.new.tokens) c.line_of-line.ensures c.in_ok-members.ensures)

pub returns : goal.returns
unfolding spec.more_members
returns c = elim c.match-peek.branch [
  | in-Some+then-not-begins_member arm ↦ ends (rules (line_in c.args.self.now.reader.lines.now)) is_low (suc c.args.self.now.reader.depth) (λ d t. spec.begins_member t.kind) (λ ms t. taken (spec.member ms ((line_in c.args.self.now.reader.lines.now) t) t.kind)) _ c.turns.members c.turns.tokens c.turns.invariant
      (Some arm.in-Some.next.now) (search std_rules) (λ t e. let same : t ≡ arm.in-Some.next.now = cc in rw same (search std_rules))
  | in_default arm ↦ ends (rules (line_in c.args.self.now.reader.lines.now)) is_low (suc c.args.self.now.reader.depth) (λ d t. spec.begins_member t.kind) (λ ms t. taken (spec.member ms ((line_in c.args.self.now.reader.lines.now) t) t.kind)) _ c.turns.members c.turns.tokens c.turns.invariant
      None (search std_rules) (λ t e. cc)
]
