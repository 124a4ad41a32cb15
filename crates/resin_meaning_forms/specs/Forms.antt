-- The forms under one name.
pub use Rattle.resin_meaning_forms.specs.Invoke.{block, bound_body, bound_method, call_object, call_script, run_method}
pub use Rattle.resin_meaning_forms.specs.Merges.{ask_merge, ask_merges, folded, merge}
pub use Rattle.resin_meaning_forms.specs.Operators.{calculated, combined, set_of_number, signed, unary}
pub use Rattle.resin_meaning_forms.specs.Targets.{step, steps}
pub use Rattle.resin_meaning_forms.specs.Writes.{check, echo, filter_write, inline, leave, prepared, sent, write_page}
pub use Rattle.resin_meaning_forms.specs.Functions.{answer_set, arguments, arguments_of, builtin, cast_argument}
pub use Rattle.resin_meaning_forms.specs.Functions.{sprintf_arguments, state_function, with_folded}
pub use Rattle.resin_meaning_forms.specs.Channels.{channel_function, channel_work, set_status, status_of}
pub use Rattle.resin_meaning_forms.specs.Reading.{filter_by, keep_through, path_context, read_through}
pub use Rattle.resin_meaning_forms.specs.Sources.{source}
pub use Rattle.resin_meaning_forms.specs.Calls.{ask_function_filters, call_form, call_found, filter_function, filtered, new_object, values}
pub use Rattle.resin_meaning_forms.specs.Assignments.{assign, assignment_form, changed, coalesce_assign, compound, decremented, incremented}
pub use Rattle.resin_meaning_forms.specs.Expressions.{access_form, all_set, array_form, expr_form}
pub use Rattle.resin_meaning_forms.specs.Expressions.{interpolated, operation_form, soft_access_form, test_form}
pub use Rattle.resin_meaning_forms.specs.Statements.{branches, catching, chosen, each_entry, echo_all, for_turns, from_default, last_holds, loop_form}
pub use Rattle.resin_meaning_forms.specs.Statements.{run_all, simple_form, stmt_form, switch, try_form, unset_all, while_turns, with_catches}
pub use Rattle.resin_meaning_forms.specs.Programs.{ticked_form}
