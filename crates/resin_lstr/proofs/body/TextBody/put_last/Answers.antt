use Rattle.std.proofs.Common.{◌++◌, length, sym, ap, subst, ◌∙◌, arith}
use Rattle.std.specs.Prelude.{ℕ, List}
use Rattle.resin_lstr.specs.declared.text.Run.{Run}
use Rattle.resin_lstr.specs.Runs.{last_end, text_of, AreRunsOf, AreJoined}
use Rattle.resin_lstr.proofs.Zips.{long, last_is}
use Rattle.resin_lstr.proofs.Joins.{joined_runs, joined_text}
use Rattle.resin_lstr.proofs.body.TextBody.put_last.Goals as goal

pub append-requires-clause-short : goal.append-requires-clause-short
append-requires-clause-short c =
    omega (arith, ap (last_end 0) c.as_slice-2.ensures, last_is _ _ c.self.invariant c.self.view_is, last_is _ _ c.o.invariant c.o.view_is, c.requires)

pub append-requires-clause-bytes_short : goal.append-requires-clause-bytes_short
append-requires-clause-bytes_short c =
    omega (arith, ap length c.as_slice.ensures, long _ _ c.self.invariant c.self.view_is, long _ _ c.o.invariant c.o.view_is, c.requires)

pub invariant_of-self-2 : goal.invariant_of-self-2
invariant_of-self-2 c =
    let joined = subst (λ (qs : List Run). AreJoined c.self.inside.runs qs c.append.new.runs) c.as_slice-2.ensures c.in_ok-append.ensures.joined in
    let is = c.in_ok-append.ensures.ok ∙ ap (λ cs. c.self.inside.bytes ++ cs) c.as_slice.ensures in
    subst (λ (bs : List ℕ). AreRunsOf (length bs) c.append.new.runs) (sym is)
    (joined_runs c.self.inside.bytes c.o.inside.bytes c.self.inside.runs c.o.inside.runs c.append.new.runs c.self.invariant c.o.invariant joined
    (omega (arith, long _ _ c.self.invariant c.self.view_is, long _ _ c.o.invariant c.o.view_is, c.requires)))

pub returns-clause-ok : goal.returns-clause-ok
returns-clause-ok c =
    let joined = subst (λ (qs : List Run). AreJoined c.self.inside.runs qs c.append.new.runs) c.as_slice-2.ensures c.in_ok-append.ensures.joined in
    let is = c.in_ok-append.ensures.ok ∙ ap (λ cs. c.self.inside.bytes ++ cs) c.as_slice.ensures in
    ap (λ bs. text_of bs c.append.new.runs) is
    ∙ joined_text c.self.inside.bytes c.o.inside.bytes c.self.inside.runs c.o.inside.runs c.append.new.runs c.self.invariant c.o.invariant joined
    ∙ ap (λ t. t ++ text_of c.o.inside.bytes c.o.inside.runs) c.self.view_is ∙ ap (λ t. c.args.self.now ++ t) c.o.view_is
