use Rattle.std.proofs.Common.{◌-◌, ◌++◌, length, take, drop, ap, ◌∙◌, arith}
use Rattle.std.specs.List.{zip}
use Rattle.resin_lstr.specs.Runs.{spell, last_end}
use Rattle.resin_lstr.proofs.Zips.{long, last_is, part_text, part_length}
use Rattle.resin_lstr.proofs.builder.Builder.add_part.Goals as goal

pub append_runs-requires-clause-within : goal.append_runs-requires-clause-within
append_runs-requires-clause-within c = omega (arith, ap (last_end 0) c.as_slice.ensures, last_is _ _ c.t.invariant c.t.view_is)

pub append_runs-requires-clause-short : goal.append_runs-requires-clause-short
append_runs-requires-clause-short c = omega (arith, last_is _ _ c.self.invariant c.self.view_is)

pub slice_bounds-extend_from_slice-end : goal.slice_bounds-extend_from_slice-end
slice_bounds-extend_from_slice-end c = omega (arith, ap length c.as_slice-2.ensures, long _ _ c.t.invariant c.t.view_is)

pub invariant_of-result : goal.invariant_of-result
invariant_of-result c = record {
  coalesced = c.in_ok-append_runs.ensures.coalesced;
  last = omega (
    arith,
    c.in_ok-append_runs.ensures.ends,
    c.self.invariant.last,
    ap length c.in_ok-extend_from_slice.ensures.items,
    part_length c.self.inside.bytes.items c.as_slice-2.result.now c.args.from (c.args.to - c.args.from) (omega (arith, ap length c.as_slice-2.ensures, long _ _ c.t.invariant c.t.view_is)),
  );
  short = omega (
    arith,
    ap length c.in_ok-extend_from_slice.ensures.items,
    long _ _ c.self.invariant c.self.view_is,
    part_length c.self.inside.bytes.items c.as_slice-2.result.now c.args.from (c.args.to - c.args.from) (omega (arith, ap length c.as_slice-2.ensures, long _ _ c.t.invariant c.t.view_is)),
  );
}

pub returns : goal.returns
returns c =
    ap (λ bs. zip bs (spell 0 c.append_runs.new.out.items)) (c.in_ok-extend_from_slice.ensures.items ∙ ap (λ ds. c.self.inside.bytes.items ++ take (c.args.to - c.args.from) (drop c.args.from ds)) c.as_slice-2.ensures)
    ∙ part_text c.self.inside.bytes.items c.self.inside.runs.items c.append_runs.new.out.items c.self.invariant c.t.inside.bytes c.t.inside.runs c.args.from (c.args.to - c.args.from)
    (c.in_ok-append_runs.ensures.spelled ∙ ap (λ qs. spell 0 c.self.inside.runs.items ++ take (c.args.to - c.args.from) (drop c.args.from (spell 0 qs))) c.as_slice.ensures)
    ∙ ap (λ t. t ++ take (c.args.to - c.args.from) (drop c.args.from (zip c.t.inside.bytes (spell 0 c.t.inside.runs)))) c.self.view_is
    ∙ ap (λ t. c.args.self ++ take (c.args.to - c.args.from) (drop c.args.from t)) c.t.view_is
