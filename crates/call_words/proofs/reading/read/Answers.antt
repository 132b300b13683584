use Rattle.std.proofs.Common.{◌≡◌, ◌∙◌, ap}
use Rattle.std.proofs.lemmas.Result.{IfErr-weaker, IfOk-weaker}
use Rattle.clap.specs.Words.{App, app_of, is_simple, takes}
use Rattle.clap.specs.Simple.{matches_of}
use Rattle.call_words.specs.Clap.{app_for, option_names}
use Rattle.call_words.specs.Forms.{texts, view}
use Rattle.call_words.proofs.ClapLaws.{is_simple_for}
use Rattle.call_words.proofs.FormLaws.{all_taken, all_found}
use Rattle.call_words.proofs.reading.read.Goals as goal

pub returns-clause-found : goal.returns-clause-found
returns-clause-found c =
    let row = view c.args.form.now in
    let words = texts c.args.words.now in
    let made : app_of c.in_ok-command.command ≡ app_for row.name (option_names row) = c.in_ok-command.ensures in
    let simple = ap is_simple made ∙ is_simple_for row.name (option_names row) in
    IfOk-weaker c.try_get_matches_from.result _ _
    (λ m has. all_found row c.requires.apart words c.requires.form.sorted m ((has simple).0 ∙ ap (λ (a : App). matches_of a words) made)) c.try_get_matches_from.ensures.matches

pub returns-clause-no_memory : goal.returns-clause-no_memory
returns-clause-no_memory c =
    let row = view c.args.form.now in
    let words = texts c.args.words.now in
    let made : app_of c.in_ok-command.command ≡ app_for row.name (option_names row) = c.in_ok-command.ensures in
    IfErr-weaker c.try_get_matches_from.result _ _
    (λ e only. only (ap (λ (a : App). takes a words) made ∙ all_taken row c.requires.apart words c.requires.form.sorted)) c.try_get_matches_from.ensures.passes
