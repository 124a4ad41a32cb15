use Rattle.std.proofs.Common.{◌-◌, ◌++◌, length, length-append, ap, ◌∙◌, arith}
use Rattle.std.specs.Prelude.{replicate}
use Rattle.std.specs.List.{zip, flat_map}
use Rattle.resin_lstr.specs.Texts.{carrying}
use Rattle.resin_lstr.specs.Runs.{spell, last_end}
use Rattle.resin_lstr.specs.Tables.{replacement}
use Rattle.std.proofs.lemmas.Result.{err_from_is_err_and}
use Rattle.resin_lstr.proofs.Zips.{long, same_set_text}
use Rattle.resin_lstr.proofs.Pieces.{length-carrying, fault_exit}
use Rattle.resin_lstr.proofs.builder.Builder.append_replaced.Goals as goal

pub returns-in_err-push_rows : goal.returns-in_err-push_rows
returns-in_err-push_rows c =
    let row = flat_map (replacement c.args.table.now) c.args.b.now in
    let p = err_from_is_err_and c.from_residual.result c.from_residual.ensures.1 in
    rw (p.1, p.2)
    (fault_exit c.push_rows.result _ (c.args.self ++ carrying c.args.set.now row) c.in_err-push_rows.was (λ e.
    omega (
      arith,
      c.push_rows.ensures.too_long e,
      length-append c.self.inside.bytes.items row,
      length-append c.args.self (carrying c.args.set.now row),
      length-carrying c.args.set.now row,
      long _ _ c.self.invariant c.self.view_is,
    )))

pub returns : goal.returns
returns c =
    let f = replacement c.args.table.now in
    let row = flat_map f c.args.b.now in
    let count = c.len.result - last_end 0 c.self.inside.runs.items in (
      ap (λ bs. zip bs (spell 0 c.push_run.new.runs.items)) c.in_ok-push_rows.ensures.ok
          ∙ same_set_text c.self.inside.bytes.items c.self.inside.runs.items c.push_run.new.runs.items c.self.invariant row c.args.set.now count
          (omega (arith, c.self.invariant.last, ap length c.in_ok-push_rows.ensures.ok, length-append c.self.inside.bytes.items row))
          (c.in_ok-push_run.ensures.spelled ∙ ap (λ s. spell 0 c.self.inside.runs.items ++ replicate count s) c.in_ok-clone.ensures.cases)
          ∙ ap (λ t. t ++ carrying c.args.set.now row) c.self.view_is,
      omega (
        arith,
        length-append c.args.self (carrying c.args.set.now row),
        length-carrying c.args.set.now row,
        long _ _ c.self.invariant c.self.view_is,
        ap length c.in_ok-push_rows.ensures.ok,
        length-append c.self.inside.bytes.items row,
        c.in_ok-push_rows.ensures.short,
      ),
    )
