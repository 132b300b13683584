use Rattle.std.proofs.Common.{◌≡◌, ◌++◌, OnOk, ap, sym, ◌∙◌, subst}
use Rattle.c_language.specs.Words.{Bytes, expr_words}
use Rattle.c_language.specs.Layout.{init_part, step_part, laid, statement_words}
use Rattle.std.specs.Option.{option_map}
use Rattle.c_print.proofs.StatementWords.{words-Do, words-For, for_joined}
use Rattle.c_print.proofs.words.+words.Goals as goal

pub words-returns-in-Do : goal.words-returns-in-Do
words-returns-in-Do t c = rw (c.in-Do.is, words-Do) c.enclosed-in-Do.ensures

pub words-returns-in_ok-step_part-in-For : goal.words-returns-in_ok-step_part-in-For
words-returns-in_ok-step_part-in-For t c =
    let for = c.in-For in
    let p = c.args.program.now in
    subst (λ (y : Bytes). OnOk c.append-in-For-2.result (c.append-in-For-2.new.self ≡ y))
    (for_joined c.args.out.now (init_part (option_map (laid p) for.first)) (expr_words p for.test) (step_part (option_map (laid p) for.step))
    c.in_ok-append-in-For.ensures.ok c.in_ok-first_part-in-For.ensures c.in_ok-enclosed-in-For.ensures c.in_ok-step_part-in-For.ensures
    ∙ sym (ap (λ (y : Bytes). c.args.out.now ++ y) (ap (statement_words p) for.is ∙ words-For p for.id for.line for.first for.test for.step for.body)))
    c.append-in-For-2.ensures.ok
