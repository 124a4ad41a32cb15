use Rattle.std.proofs.Common.{◌++◌, length, Some, None, cond, arith, sym, ap, ◌∙◌}
use Rattle.resin_frozen.specs.Texts.{policy_head, policy_text}
use Rattle.resin_frozen.specs.Policies.{pairs_of}
use Rattle.resin_frozen.proofs.Loops.{fields_policy, length_pairs, policy_from}
use Rattle.resin_frozen.proofs.freezing.freeze_fields.Goals as goal

pub finished-requires : goal.finished-requires
finished-requires c =
    let es = (pairs_of c.args.fields.now) in
    record {
      class = c.args.class.now;
      fields = es;
      is_policy = fields_policy c.args.class.now c.args.fields.now c.requires.name c.requires.short c.requires.names (omega arith) c.in_ok-push_fields.ensures.2;
      text_is = policy_from c.push_head.new.text c.push_fields.new.text c.push.new.self c.args.class.now (length c.args.fields.now) es (c.in_ok-push_head.ensures ∙ ap (λ u. u ++ policy_head c.args.class.now (length c.args.fields.now)) c.new-text.ensures) c.in_ok-push_fields.ensures.0 c.in_ok-push.ensures.ok (sym (length_pairs c.args.fields.now));
    }

pub returns : goal.returns
returns c =
    let es = (pairs_of c.args.fields.now) in
    let text = policy_from c.push_head.new.text c.push_fields.new.text c.push.new.self c.args.class.now (length c.args.fields.now) es (c.in_ok-push_head.ensures ∙ ap (λ u. u ++ policy_head c.args.class.now (length c.args.fields.now)) c.new-text.ensures) c.in_ok-push_fields.ensures.0 c.in_ok-push.ensures.ok (sym (length_pairs c.args.fields.now)) in
    ap (λ b. cond b (Some (policy_text c.args.class.now es)) None) c.in_ok-push_fields.ensures.1 ∙ ap Some (sym (c.in_ok-finished.ensures ∙ text))
