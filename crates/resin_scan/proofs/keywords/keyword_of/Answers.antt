use Rattle.std.proofs.Common.{◌++◌, sym, ◌∙◌}
use Rattle.resin_scan.specs.Keywords.{do_to_endwhile, exit_to_if, include_to_public, require_to_while}
use Rattle.resin_scan.proofs.Tables.{found, passed, in_first, in_second}
use Rattle.resin_scan.proofs.keywords.keyword_of.Goals as goal

pub returns-in-Some : goal.returns-in-Some
returns-in-Some c = sym (in_first c.args.s.now c.in-Some.keyword (sym c.array_to_die.ensures ∙ c.in-Some.is))

pub returns-in-Some-do_to_endwhile : goal.returns-in-Some-do_to_endwhile
returns-in-Some-do_to_endwhile c =
    sym (in_second c.args.s.now (sym c.array_to_die.ensures ∙ c.in_default.is) _
    (found do_to_endwhile (exit_to_if ++ (include_to_public ++ require_to_while)) c.args.s.now _ (sym c.do_to_endwhile.ensures ∙ c.in-Some-do_to_endwhile.is)))

pub returns-in-Some-exit_to_if : goal.returns-in-Some-exit_to_if
returns-in-Some-exit_to_if c =
    sym (in_second c.args.s.now (sym c.array_to_die.ensures ∙ c.in_default.is) _
    (passed do_to_endwhile (exit_to_if ++ (include_to_public ++ require_to_while)) c.args.s.now (sym c.do_to_endwhile.ensures ∙ c.in_default-do_to_endwhile.is)
    ∙ found exit_to_if (include_to_public ++ require_to_while) c.args.s.now _ (sym c.exit_to_if.ensures ∙ c.in-Some-exit_to_if.is)))

pub returns-in-Some-include_to_public : goal.returns-in-Some-include_to_public
returns-in-Some-include_to_public c =
    sym (in_second c.args.s.now (sym c.array_to_die.ensures ∙ c.in_default.is) _
    (passed do_to_endwhile (exit_to_if ++ (include_to_public ++ require_to_while)) c.args.s.now (sym c.do_to_endwhile.ensures ∙ c.in_default-do_to_endwhile.is)
    ∙ passed exit_to_if (include_to_public ++ require_to_while) c.args.s.now (sym c.exit_to_if.ensures ∙ c.in_default-exit_to_if.is)
    ∙ found include_to_public require_to_while c.args.s.now _ (sym c.include_to_public.ensures ∙ c.in-Some-include_to_public.is)))

pub returns : goal.returns
returns c =
    sym (in_second c.args.s.now (sym c.array_to_die.ensures ∙ c.in_default.is) _
    (passed do_to_endwhile (exit_to_if ++ (include_to_public ++ require_to_while)) c.args.s.now (sym c.do_to_endwhile.ensures ∙ c.in_default-do_to_endwhile.is)
    ∙ passed exit_to_if (include_to_public ++ require_to_while) c.args.s.now (sym c.exit_to_if.ensures ∙ c.in_default-exit_to_if.is)
    ∙ passed include_to_public require_to_while c.args.s.now (sym c.include_to_public.ensures ∙ c.in_default-include_to_public.is)
    ∙ sym c.require_to_while.ensures))
