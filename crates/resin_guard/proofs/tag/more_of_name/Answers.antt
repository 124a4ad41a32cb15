use Rattle.std.proofs.Common.{◌≡◌, true, Some, None, rules}
use Rattle.std.proofs.lemmas.Result.{err_from_is_err_and}
use Rattle.resin_form.specs.Form.{taken}
use Rattle.resin_form.proofs.Turns.{goes_on, ends}
use Rattle.resin_sql_words.specs.Forms.{rules as no_rules, in_limits}
use Rattle.resin_guard.specs.Pages as spec
use Rattle.resin_guard.specs.Pages.{is_name_byte}
use Rattle.resin_guard.proofs.Exits.{fails}
use Rattle.resin_guard.proofs.tag.more_of_name.Goals as goal
use Rattle.resin_guard.proofs.tag.more_of_name.Goals.{in-Some+then-not-is_name_byte, in_default}

pub returns-in_err-word : goal.returns-in_err-word
unfolding spec.more_of_name
returns-in_err-word c =
    let p = err_from_is_err_and c.from_residual.result c.from_residual.ensures.1 in
    let h : is_name_byte c.args.of_attribute c.in-Some.next.byte ≡ true = search rules in
    rw (p.1, p.2) (fails (λ _ t. is_name_byte c.args.of_attribute t.byte) (λ w t. taken (spec.longer w t.byte)) _ c.turns.word c.turns.bytes c.turns.invariant
    c.in-Some.next c.skip.new.self c.skip.new.self c.in_err-word.field-0.0 c.skip.ensures h c.in_err-word.ensures)

pub turns-preserved : goal.turns-preserved
unfolding spec.more_of_name
turns-preserved c =
    let h : is_name_byte c.args.of_attribute c.in-Some.next.byte ≡ true = search rules in
    goes_on no_rules in_limits 1 (λ _ t. is_name_byte c.args.of_attribute t.byte) (λ w t. taken (spec.longer w t.byte)) _ c.turns.word c.turns.bytes c.turns.invariant
    c.in-Some.next c.skip.new.self c.skip.new.self c.in_ok-word.word c.skip.ensures h c.in_ok-word.ensures

pub returns : goal.returns
unfolding spec.more_of_name
returns c = elim c.match-peek.branch [
  | in-Some+then-not-is_name_byte w ↦ ends no_rules in_limits 1 (λ _ t. is_name_byte c.args.of_attribute t.byte) (λ w t. taken (spec.longer w t.byte)) _ c.turns.word c.turns.bytes c.turns.invariant
      (Some w.in-Some.next) (search rules) (λ t e. let same : t ≡ w.in-Some.next = cc in rw same (search rules))
  | in_default w ↦ ends no_rules in_limits 1 (λ _ t. is_name_byte c.args.of_attribute t.byte) (λ w t. taken (spec.longer w t.byte)) _ c.turns.word c.turns.bytes c.turns.invariant
      None (search rules) (λ t e. cc)
]
