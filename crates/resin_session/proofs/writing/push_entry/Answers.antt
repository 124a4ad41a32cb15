use Rattle.std.proofs.Common.{[], ◌∷◌, ◌++◌, length, subst, ◌∙◌}
use Rattle.std.proofs.lemmas.Result.{err_from_is_err_and}
use Rattle.resin_value.specs.Under.label.Sets.{empty}
use Rattle.resin_value.specs.Under.lstr.Texts.{carrying}
use Rattle.resin_value.specs.Under.lstr.Faults.{GivesText}
use Rattle.resin_value.specs.Seen.{tree_of}
use Rattle.resin_session.specs.Texts.{letter, key_text, value_text, head_text}
use Rattle.resin_session.proofs.Written.{fault_within, head_is, value_within}
use Rattle.resin_session.proofs.writing.push_entry.Goals as goal

pub returns-in_err-text-clause-text : goal.returns-in_err-text-clause-text
returns-in_err-text-clause-text c =
    let v = tree_of c.args.value.now in
    let h = carrying empty (head_text (letter v) (key_text c.args.key.now) (length (value_text v))) in
    let p = err_from_is_err_and c.from_residual.result c.from_residual.ensures.1 in
    rw (p.1, p.2) (fault_within _ (value_text v) _ (value_within c.args.out h (value_text v)) c.in_err-text.ensures.text)

pub returns-clause-text : goal.returns-clause-text
returns-clause-text c =
    let v = tree_of c.args.value.now in
    let text = c.in_ok-text.ensures.text.0 in
    let head = head_is c.in_ok-head.head c.letter-kind.result (letter v) c.as_slice-name.result.now (key_text c.args.key.now) c.len-len.result c.in_ok-text.text (value_text v)
    c.in_ok-head.ensures c.letter-kind.ensures (c.as_slice-name.ensures ∙ c.in_ok-bytes.ensures.text) c.len-len.ensures.value text in
    subst (GivesText c.push_parts.result) (λ i. c.args.out ++ (head i ++ (text i ++ carrying empty (10 ∷ [])))) (subst (λ bs. GivesText c.push_parts.result (c.args.out ++ (carrying empty bs ++ (c.in_ok-text.text ++ carrying empty (10 ∷ []))))) c.as_slice.ensures c.push_parts.ensures)
