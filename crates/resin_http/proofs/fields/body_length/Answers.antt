use Rattle.std.proofs.Common.{arith, ◌+◌, sym, ap, ◌∙◌, true, false, map, drop}
use Rattle.httparse.specs.Spans.{header_bytes}
use Rattle.resin_http.specs.Fields.{values_of, content_length}
use Rattle.resin_http.proofs.FieldLemmas.{rest_length, rest_next, rest_none, values-field}
use Rattle.resin_http.proofs.fields.body_length.Goals as goal
use Rattle.resin_http.proofs.fields.body_length.Goals.{then-is_named+in-Some, else-is_named}

pub returns-in-None : goal.returns-in-None
returns-in-None c =
    let named = ap (λ n. Rattle.resin_inputs.specs.Names.is_named content_length n) (sym c.of.ensures) ∙ sym c.is_named.ensures ∙ c.if-is_named.true in
    sym (sym c.loop-field.invariant
    ∙ ap (rest_length c.loop-field.found) (values-field content_length c.args.head.now c.args.fields.now c.loop-field.field-index _ true (omega arith) named)
    ∙ rest_none c.loop-field.found _ _ (ap (λ v. Rattle.resin_http.specs.Fields.next_length c.loop-field.found v) (sym c.of-then-is_named.ensures) ∙ sym c.next_length.ensures ∙ c.in-None.is))

pub loop-field-preserved : goal.loop-field-preserved
loop-field-preserved c =
    elim c.if-is_named.branch [
      | then-is_named+in-Some w ↦
          let named = ap (λ n. Rattle.resin_inputs.specs.Names.is_named content_length n) (sym c.of.ensures) ∙ sym c.is_named.ensures ∙ w.if-is_named.true in
          ap (λ f. rest_length f (values_of content_length (map (header_bytes c.args.head.now) (drop (c.loop-field.field-index + 1) c.args.fields.now)))) w.found-is
          ∙ rest_next c.loop-field.found _ _ _ (ap (λ v. Rattle.resin_http.specs.Fields.next_length c.loop-field.found v) (sym w.of-then-is_named.ensures) ∙ sym w.next_length.ensures ∙ w.in-Some.is)
          ∙ sym (ap (rest_length c.loop-field.found) (values-field content_length c.args.head.now c.args.fields.now c.loop-field.field-index _ true (omega arith) named))
          ∙ c.loop-field.invariant
      | else-is_named w ↦
          let named = ap (λ n. Rattle.resin_inputs.specs.Names.is_named content_length n) (sym c.of.ensures) ∙ sym c.is_named.ensures ∙ w.if-is_named.false in
          ap (λ f. rest_length f (values_of content_length (map (header_bytes c.args.head.now) (drop (c.loop-field.field-index + 1) c.args.fields.now)))) w.found-is
          ∙ sym (ap (rest_length c.loop-field.found) (values-field content_length c.args.head.now c.args.fields.now c.loop-field.field-index _ false (omega arith) named))
          ∙ c.loop-field.invariant
    ]
