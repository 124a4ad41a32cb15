use Rattle.std.proofs.Common.{◌-◌, ◌++◌, length, length-append, ap, ◌∙◌, arith}
use Rattle.std.specs.Prelude.{replicate}
use Rattle.std.specs.List.{zip}
use Rattle.resin_lstr.specs.Texts.{carrying}
use Rattle.resin_lstr.specs.Runs.{spell, last_end}
use Rattle.resin_lstr.proofs.Zips.{long, same_set_text}
use Rattle.resin_lstr.proofs.builder.Builder.add_bytes.Goals as goal

pub invariant_of-result : goal.invariant_of-result
invariant_of-result c = record {
  coalesced = c.in_ok-push_run.ensures.coalesced;
  last = omega (arith, c.in_ok-push_run.ensures.ends);
  short = omega (arith, ap length c.in_ok-extend_from_slice.ensures.items, length-append c.self.inside.bytes.items c.args.b.now, long _ _ c.self.invariant c.self.view_is);
}

pub returns : goal.returns
returns c =
    ap (λ bs. zip bs (spell 0 c.push_run.new.runs.items)) c.in_ok-extend_from_slice.ensures.items
    ∙ same_set_text c.self.inside.bytes.items c.self.inside.runs.items c.push_run.new.runs.items c.self.invariant c.args.b.now c.args.set.now (c.len.result - last_end 0 c.self.inside.runs.items)
    (omega (arith, c.self.invariant.last, ap length c.in_ok-extend_from_slice.ensures.items, length-append c.self.inside.bytes.items c.args.b.now))
    (c.in_ok-push_run.ensures.spelled ∙ ap (λ s. spell 0 c.self.inside.runs.items ++ replicate (c.len.result - last_end 0 c.self.inside.runs.items) s) c.in_ok-clone.ensures.cases)
    ∙ ap (λ t. t ++ carrying c.args.set.now c.args.b.now) c.self.view_is
