use Rattle.std.proofs.Common.{◌≡◌, true, Some, None, rules}
use Rattle.std.proofs.lemmas.Result.{err_from_is_err_and}
use Rattle.resin_form.specs.Form.{taken}
use Rattle.resin_form.proofs.Turns.{smaller, goes_on, ends}
use Rattle.resin_sql_words.specs.Forms.{rules as no_rules, in_limits}
use Rattle.resin_guard.specs.Pages as spec
use Rattle.resin_guard.specs.Pages.{is_next, Attributes}
use Rattle.resin_guard.proofs.Exits.{fails}
use Rattle.resin_guard.proofs.tag.attributes.Goals as goal
use Rattle.resin_guard.proofs.tag.attributes.Goals.{in-Some+then-not-is_next, in_default}

pub returns-in_err-more : goal.returns-in_err-more
unfolding spec.attributes
returns-in_err-more c =
    let p = err_from_is_err_and c.from_residual.result c.from_residual.ensures.1 in
    let h : is_next c.turns.gap c.in-Some.next.byte ≡ true = search rules in
    rw (p.1, p.2) (fails (λ (s : Attributes) t. is_next s.1 t.byte) (λ s t. taken (spec.blank_or_attribute c.args.safe s.0 t.byte)) _ (c.turns.places, c.turns.gap) c.turns.bytes c.turns.invariant
    c.in-Some.next c.skip.new.self c.blank_or_attribute.new.bytes c.in_err-more.field-0.0 c.skip.ensures h c.in_err-more.ensures)

pub turns-smaller : goal.turns-smaller
turns-smaller c = smaller no_rules in_limits 1 (taken (spec.blank_or_attribute c.args.safe c.turns.places c.in-Some.next.byte)) c.turns.bytes c.in-Some.next c.skip.new.self (c.in_ok-more.more, c.in_ok-more.blank) c.blank_or_attribute.new.bytes c.skip.ensures c.in_ok-more.ensures

pub turns-preserved : goal.turns-preserved
unfolding spec.attributes
turns-preserved c =
    let h : is_next c.turns.gap c.in-Some.next.byte ≡ true = search rules in
    goes_on no_rules in_limits 1 (λ (s : Attributes) t. is_next s.1 t.byte) (λ s t. taken (spec.blank_or_attribute c.args.safe s.0 t.byte)) _ (c.turns.places, c.turns.gap) c.turns.bytes c.turns.invariant
    c.in-Some.next c.skip.new.self c.blank_or_attribute.new.bytes (c.in_ok-more.more, c.in_ok-more.blank) c.skip.ensures h c.in_ok-more.ensures

pub returns : goal.returns
unfolding spec.attributes
returns c = elim c.match-peek.branch [
  | in-Some+then-not-is_next w ↦ ends no_rules in_limits 1 (λ (s : Attributes) t. is_next s.1 t.byte) (λ s t. taken (spec.blank_or_attribute c.args.safe s.0 t.byte)) _ (c.turns.places, c.turns.gap) c.turns.bytes c.turns.invariant
      (Some w.in-Some.next) (search rules) (λ t e. let same : t ≡ w.in-Some.next = cc in rw same (search rules))
  | in_default w ↦ ends no_rules in_limits 1 (λ (s : Attributes) t. is_next s.1 t.byte) (λ s t. taken (spec.blank_or_attribute c.args.safe s.0 t.byte)) _ (c.turns.places, c.turns.gap) c.turns.bytes c.turns.invariant
      None (search rules) (λ t e. cc)
]
