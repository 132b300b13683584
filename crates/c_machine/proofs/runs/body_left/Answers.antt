use Rattle.std.proofs.Common.{sym, ap, ◌∙◌}
use Rattle.std.specs.Option.{option_copied}
use Rattle.c_machine.specs.declared.rests.Rest.TheVariants as rest
use Rattle.c_machine.specs.Rests.{left_code, list_before}
use Rattle.c_language.specs.Code.{End}
use Rattle.c_machine.proofs.RestLemmas.{left-push}
use Rattle.c_machine.proofs.CallLemmas.{code_found, code_missing, code_list}
use Rattle.c_machine.proofs.runs.body_left.Goals as goal

pub returns-in_ok-push-in-Some : goal.returns-in_ok-push-in-Some
returns-in_ok-push-in-Some c =
    ap left_code c.in_ok-push-in-Some.ensures.items
    ∙ left-push c.new-left.result.items (rest.List c.as_slice.result)
    ∙ ap (λ l. list_before c.as_slice.result.now (left_code l)) c.new-left.ensures.items
    ∙ ap (λ ss. list_before ss End) c.as_slice.ensures
    ∙ code_list c.in-Some.found.now.body
    ∙ sym (code_found c.args.program.now c.args.function c.in-Some.found.now (sym (ap option_copied c.in-Some.is) ∙ c.get.ensures.value))

pub returns-in-None : goal.returns-in-None
returns-in-None c =
    ap left_code c.new-left.ensures.items
    ∙ sym (code_missing c.args.program.now c.args.function (sym (ap option_copied c.in-None.is) ∙ c.get.ensures.value))
