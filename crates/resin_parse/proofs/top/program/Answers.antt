use Rattle.std.proofs.Common.{◌≡◌, ◌-◌, length, drop, false, None, Err, ◌∙◌, sym, subst}
use Rattle.std.proofs.Common.{rules as std_rules}
use Rattle.std.specs.Prelude.{IsTrue, unwrap_or}
use Rattle.resin_form.specs.Reading.{Got, Stop, Deep}
use Rattle.resin_form.specs.Reads.{Reads}
use Rattle.resin_form.specs.declared.fault.Fault.TheVariants.{Syntax, TooDeep}
use Rattle.resin_program_grammar.specs.Declarations.{program}
use Rattle.resin_program_grammar.specs.Programs.{place_of}
use Rattle.resin_program_grammar.specs.Reading.{under}
use Rattle.resin_parse_plain.specs.Lines.{line_in}
use Rattle.resin_parse.proofs.Whole.{is_program, ends_at, stops_at, deep_at}
use Rattle.resin_parse.proofs.AsParsed.{exact_program, exact_end, exact_stop, exact_deep}
use Rattle.resin_parse.proofs.top.program.Goals as goal

pub returns-in-Ok-clause-parsed : goal.returns-in-Ok-clause-parsed
returns-in-Ok-clause-parsed c =
    let from : c.new-tokens.result ≡ c.in_ok-lexing.lexing.list.tokens = search std_rules in
    let e : under (line_in c.in_ok-lines.lines) 200 (program (line_in c.in_ok-lines.lines)) c.in_ok-lexing.lexing.list.tokens ≡ Got c.in-Ok.found c.read_program-found.new.tokens =
    subst (λ ts. under (line_in c.in_ok-lines.lines) 200 (program (line_in c.in_ok-lines.lines)) ts ≡ Got c.in-Ok.found c.read_program-found.new.tokens) from c.in-Ok.ensures in
    let w : (c.left-left.result ≡ 0) × (c.in_ok-lexing.lexing.fault ≡ None) = c.is_whole.ensures.yes (search std_rules) in
    is_program c.args.src.now c.in_ok-lexing.lexing.list.tokens c.in_ok-lexing.lexing.fault c.in_ok-lexing.ensures.front (line_in c.in_ok-lines.lines) c.in_ok-lines.ensures c.read_program-found.new.tokens c.in-Ok.found e (sym c.left-left.ensures ∙ w.0) w.1

pub returns-in-Ok-clause-exact : goal.returns-in-Ok-clause-exact
returns-in-Ok-clause-exact c =
    let from : c.new-tokens.result ≡ c.in_ok-lexing.lexing.list.tokens = search std_rules in
    let e : under (line_in c.in_ok-lines.lines) 200 (program (line_in c.in_ok-lines.lines)) c.in_ok-lexing.lexing.list.tokens ≡ Got c.in-Ok.found c.read_program-found.new.tokens =
    subst (λ ts. under (line_in c.in_ok-lines.lines) 200 (program (line_in c.in_ok-lines.lines)) ts ≡ Got c.in-Ok.found c.read_program-found.new.tokens) from c.in-Ok.ensures in
    let w : (c.left-left.result ≡ 0) × (c.in_ok-lexing.lexing.fault ≡ None) = c.is_whole.ensures.yes (search std_rules) in
    exact_program c.args.src.now c.in_ok-lexing.lexing.list.tokens c.in_ok-lexing.lexing.fault c.in_ok-lexing.ensures.front (line_in c.in_ok-lines.lines) c.in_ok-lines.ensures c.read_program-found.new.tokens c.in-Ok.found e (sym c.left-left.ensures ∙ w.0) w.1

pub returns-in-Ok-2-clause-parsed : goal.returns-in-Ok-2-clause-parsed
returns-in-Ok-2-clause-parsed c =
    let from : c.new-tokens.result ≡ c.in_ok-lexing.lexing.list.tokens = search std_rules in
    let e : under (line_in c.in_ok-lines.lines) 200 (program (line_in c.in_ok-lines.lines)) c.in_ok-lexing.lexing.list.tokens ≡ Got c.in-Ok-2.field-0 c.read_program-found.new.tokens =
    subst (λ ts. under (line_in c.in_ok-lines.lines) 200 (program (line_in c.in_ok-lines.lines)) ts ≡ Got c.in-Ok-2.field-0 c.read_program-found.new.tokens) from c.in-Ok-2.ensures in
    let count : c.saturating_sub-next.result ≡ length c.in_ok-lexing.lexing.list.tokens - length c.read_program-found.new.tokens = search std_rules in
    let until : c.unwrap_or-end.result ≡ unwrap_or c.in_ok-lexing.lexing.fault (length c.args.src.now) = search std_rules in
    let is : c.place_at.result ≡ place_of c.unwrap_or-end.result (drop c.saturating_sub-next.result c.in_ok-lexing.lexing.list.tokens) = search std_rules in
    ends_at c.args.src.now c.in_ok-lexing.lexing.list.tokens c.in_ok-lexing.lexing.fault c.in_ok-lexing.ensures.front (line_in c.in_ok-lines.lines) c.in_ok-lines.ensures c.read_program-found.new.tokens c.saturating_sub-next.result c.place_at.result c.unwrap_or-end.result count until c.in-Ok-2.field-0 e
    (λ r n. let t : IsTrue c.is_whole.result = c.is_whole.ensures.no (c.left-left.ensures ∙ r) n in let f : c.is_whole.result ≡ false = search std_rules in cc) is

pub returns-in-Ok-2-clause-exact : goal.returns-in-Ok-2-clause-exact
returns-in-Ok-2-clause-exact c =
    let from : c.new-tokens.result ≡ c.in_ok-lexing.lexing.list.tokens = search std_rules in
    let e : under (line_in c.in_ok-lines.lines) 200 (program (line_in c.in_ok-lines.lines)) c.in_ok-lexing.lexing.list.tokens ≡ Got c.in-Ok-2.field-0 c.read_program-found.new.tokens =
    subst (λ ts. under (line_in c.in_ok-lines.lines) 200 (program (line_in c.in_ok-lines.lines)) ts ≡ Got c.in-Ok-2.field-0 c.read_program-found.new.tokens) from c.in-Ok-2.ensures in
    let count : c.saturating_sub-next.result ≡ length c.in_ok-lexing.lexing.list.tokens - length c.read_program-found.new.tokens = search std_rules in
    let until : c.unwrap_or-end.result ≡ unwrap_or c.in_ok-lexing.lexing.fault (length c.args.src.now) = search std_rules in
    let is : c.place_at.result ≡ place_of c.unwrap_or-end.result (drop c.saturating_sub-next.result c.in_ok-lexing.lexing.list.tokens) = search std_rules in
    exact_end c.args.src.now c.in_ok-lexing.lexing.list.tokens c.in_ok-lexing.lexing.fault c.in_ok-lexing.ensures.front (line_in c.in_ok-lines.lines) c.in_ok-lines.ensures c.read_program-found.new.tokens c.saturating_sub-next.result c.place_at.result c.unwrap_or-end.result count until c.in-Ok-2.field-0 e
    (λ r n. let t : IsTrue c.is_whole.result = c.is_whole.ensures.no (c.left-left.ensures ∙ r) n in let f : c.is_whole.result ≡ false = search std_rules in cc) is

pub returns-in-Err-Syntax-clause-parsed : goal.returns-in-Err-Syntax-clause-parsed
returns-in-Err-Syntax-clause-parsed c =
    let fault : c.read_program-found.result ≡ Err Syntax = search std_rules in
    let from : c.new-tokens.result ≡ c.in_ok-lexing.lexing.list.tokens = search std_rules in
    let e : under (line_in c.in_ok-lines.lines) 200 (program (line_in c.in_ok-lines.lines)) c.in_ok-lexing.lexing.list.tokens ≡ Stop c.read_program-found.new.tokens =
    subst (λ ts. under (line_in c.in_ok-lines.lines) 200 (program (line_in c.in_ok-lines.lines)) ts ≡ Stop c.read_program-found.new.tokens) from (subst (λ r. Reads (under (line_in c.in_ok-lines.lines) 200 (program (line_in c.in_ok-lines.lines)) c.new-tokens.result) r c.read_program-found.new.tokens) fault c.read_program-found.ensures) in
    let count : c.saturating_sub-next.result ≡ length c.in_ok-lexing.lexing.list.tokens - length c.read_program-found.new.tokens = search std_rules in
    let until : c.unwrap_or-end.result ≡ unwrap_or c.in_ok-lexing.lexing.fault (length c.args.src.now) = search std_rules in
    let is : c.place_at-in-Err-Syntax.result ≡ place_of c.unwrap_or-end.result (drop c.saturating_sub-next.result c.in_ok-lexing.lexing.list.tokens) = search std_rules in
    stops_at c.args.src.now c.in_ok-lexing.lexing.list.tokens c.in_ok-lexing.lexing.fault c.in_ok-lexing.ensures.front (line_in c.in_ok-lines.lines) c.in_ok-lines.ensures c.read_program-found.new.tokens c.saturating_sub-next.result c.place_at-in-Err-Syntax.result c.unwrap_or-end.result count until e is

pub returns-in-Err-Syntax-clause-exact : goal.returns-in-Err-Syntax-clause-exact
returns-in-Err-Syntax-clause-exact c =
    let fault : c.read_program-found.result ≡ Err Syntax = search std_rules in
    let from : c.new-tokens.result ≡ c.in_ok-lexing.lexing.list.tokens = search std_rules in
    let e : under (line_in c.in_ok-lines.lines) 200 (program (line_in c.in_ok-lines.lines)) c.in_ok-lexing.lexing.list.tokens ≡ Stop c.read_program-found.new.tokens =
    subst (λ ts. under (line_in c.in_ok-lines.lines) 200 (program (line_in c.in_ok-lines.lines)) ts ≡ Stop c.read_program-found.new.tokens) from (subst (λ r. Reads (under (line_in c.in_ok-lines.lines) 200 (program (line_in c.in_ok-lines.lines)) c.new-tokens.result) r c.read_program-found.new.tokens) fault c.read_program-found.ensures) in
    let count : c.saturating_sub-next.result ≡ length c.in_ok-lexing.lexing.list.tokens - length c.read_program-found.new.tokens = search std_rules in
    let until : c.unwrap_or-end.result ≡ unwrap_or c.in_ok-lexing.lexing.fault (length c.args.src.now) = search std_rules in
    let is : c.place_at-in-Err-Syntax.result ≡ place_of c.unwrap_or-end.result (drop c.saturating_sub-next.result c.in_ok-lexing.lexing.list.tokens) = search std_rules in
    exact_stop c.args.src.now c.in_ok-lexing.lexing.list.tokens c.in_ok-lexing.lexing.fault c.in_ok-lexing.ensures.front (line_in c.in_ok-lines.lines) c.in_ok-lines.ensures c.read_program-found.new.tokens c.saturating_sub-next.result c.place_at-in-Err-Syntax.result c.unwrap_or-end.result count until e is

pub returns-in-Err-TooDeep-clause-parsed : goal.returns-in-Err-TooDeep-clause-parsed
returns-in-Err-TooDeep-clause-parsed c =
    let fault : c.read_program-found.result ≡ Err TooDeep = search std_rules in
    let from : c.new-tokens.result ≡ c.in_ok-lexing.lexing.list.tokens = search std_rules in
    let e : under (line_in c.in_ok-lines.lines) 200 (program (line_in c.in_ok-lines.lines)) c.in_ok-lexing.lexing.list.tokens ≡ Deep c.read_program-found.new.tokens =
    subst (λ ts. under (line_in c.in_ok-lines.lines) 200 (program (line_in c.in_ok-lines.lines)) ts ≡ Deep c.read_program-found.new.tokens) from (subst (λ r. Reads (under (line_in c.in_ok-lines.lines) 200 (program (line_in c.in_ok-lines.lines)) c.new-tokens.result) r c.read_program-found.new.tokens) fault c.read_program-found.ensures) in
    let count : c.saturating_sub-next.result ≡ length c.in_ok-lexing.lexing.list.tokens - length c.read_program-found.new.tokens = search std_rules in
    let until : c.unwrap_or-end.result ≡ unwrap_or c.in_ok-lexing.lexing.fault (length c.args.src.now) = search std_rules in
    let is : c.place_at-in-Err-TooDeep.result ≡ place_of c.unwrap_or-end.result (drop (c.saturating_sub-next.result - 1) c.in_ok-lexing.lexing.list.tokens) = search std_rules in
    deep_at c.args.src.now c.in_ok-lexing.lexing.list.tokens c.in_ok-lexing.lexing.fault c.in_ok-lexing.ensures.front (line_in c.in_ok-lines.lines) c.in_ok-lines.ensures c.read_program-found.new.tokens c.saturating_sub-next.result c.place_at-in-Err-TooDeep.result c.unwrap_or-end.result count until e is

pub returns-in-Err-TooDeep-clause-exact : goal.returns-in-Err-TooDeep-clause-exact
returns-in-Err-TooDeep-clause-exact c =
    let fault : c.read_program-found.result ≡ Err TooDeep = search std_rules in
    let from : c.new-tokens.result ≡ c.in_ok-lexing.lexing.list.tokens = search std_rules in
    let e : under (line_in c.in_ok-lines.lines) 200 (program (line_in c.in_ok-lines.lines)) c.in_ok-lexing.lexing.list.tokens ≡ Deep c.read_program-found.new.tokens =
    subst (λ ts. under (line_in c.in_ok-lines.lines) 200 (program (line_in c.in_ok-lines.lines)) ts ≡ Deep c.read_program-found.new.tokens) from (subst (λ r. Reads (under (line_in c.in_ok-lines.lines) 200 (program (line_in c.in_ok-lines.lines)) c.new-tokens.result) r c.read_program-found.new.tokens) fault c.read_program-found.ensures) in
    let count : c.saturating_sub-next.result ≡ length c.in_ok-lexing.lexing.list.tokens - length c.read_program-found.new.tokens = search std_rules in
    let until : c.unwrap_or-end.result ≡ unwrap_or c.in_ok-lexing.lexing.fault (length c.args.src.now) = search std_rules in
    let is : c.place_at-in-Err-TooDeep.result ≡ place_of c.unwrap_or-end.result (drop (c.saturating_sub-next.result - 1) c.in_ok-lexing.lexing.list.tokens) = search std_rules in
    exact_deep c.args.src.now c.in_ok-lexing.lexing.list.tokens c.in_ok-lexing.lexing.fault c.in_ok-lexing.ensures.front (line_in c.in_ok-lines.lines) c.in_ok-lines.ensures c.read_program-found.new.tokens c.saturating_sub-next.result c.place_at-in-Err-TooDeep.result c.unwrap_or-end.result count until e is
