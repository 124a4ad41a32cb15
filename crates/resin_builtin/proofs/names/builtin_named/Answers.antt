use Rattle.std.proofs.Common.{sym, ◌∙◌}
use Rattle.resin_builtin.proofs.Tables.{in_first, in_second, in_third, in_fourth, in_fifth, in_sixth, in_last}
use Rattle.resin_builtin.proofs.names.builtin_named.Goals as goal

pub returns-in-Some : goal.returns-in-Some
returns-in-Some c = sym (in_first c.args.name.now c.in-Some.search (sym c.search_named.ensures ∙ c.in-Some.is))

pub returns-in-Some-part_named : goal.returns-in-Some-part_named
returns-in-Some-part_named c =
    sym (in_second c.args.name.now (sym c.search_named.ensures ∙ c.in_default.is)
    c.in-Some-part_named.part (sym c.part_named.ensures ∙ c.in-Some-part_named.is))

pub returns-in-Some-join_named : goal.returns-in-Some-join_named
returns-in-Some-join_named c =
    sym (in_third c.args.name.now (sym c.search_named.ensures ∙ c.in_default.is) (sym c.part_named.ensures ∙ c.in_default-part_named.is)
    c.in-Some-join_named.join (sym c.join_named.ensures ∙ c.in-Some-join_named.is))

pub returns-in-Some-escape_named : goal.returns-in-Some-escape_named
returns-in-Some-escape_named c =
    sym (in_fourth c.args.name.now (sym c.search_named.ensures ∙ c.in_default.is) (sym c.part_named.ensures ∙ c.in_default-part_named.is)
    (sym c.join_named.ensures ∙ c.in_default-join_named.is)
    c.in-Some-escape_named.escape (sym c.escape_named.ensures ∙ c.in-Some-escape_named.is))

pub returns-in-Some-number_named : goal.returns-in-Some-number_named
returns-in-Some-number_named c =
    sym (in_fifth c.args.name.now (sym c.search_named.ensures ∙ c.in_default.is) (sym c.part_named.ensures ∙ c.in_default-part_named.is)
    (sym c.join_named.ensures ∙ c.in_default-join_named.is) (sym c.escape_named.ensures ∙ c.in_default-escape_named.is)
    c.in-Some-number_named.number (sym c.number_named.ensures ∙ c.in-Some-number_named.is))

pub returns-in-Some-test_named : goal.returns-in-Some-test_named
returns-in-Some-test_named c =
    sym (in_sixth c.args.name.now (sym c.search_named.ensures ∙ c.in_default.is) (sym c.part_named.ensures ∙ c.in_default-part_named.is)
    (sym c.join_named.ensures ∙ c.in_default-join_named.is) (sym c.escape_named.ensures ∙ c.in_default-escape_named.is)
    (sym c.number_named.ensures ∙ c.in_default-number_named.is)
    c.in-Some-test_named.test (sym c.test_named.ensures ∙ c.in-Some-test_named.is))

pub returns : goal.returns
returns c =
    c.array_named.ensures
    ∙ sym (in_last c.args.name.now (sym c.search_named.ensures ∙ c.in_default.is) (sym c.part_named.ensures ∙ c.in_default-part_named.is)
    (sym c.join_named.ensures ∙ c.in_default-join_named.is) (sym c.escape_named.ensures ∙ c.in_default-escape_named.is)
    (sym c.number_named.ensures ∙ c.in_default-number_named.is) (sym c.test_named.ensures ∙ c.in_default-test_named.is))
