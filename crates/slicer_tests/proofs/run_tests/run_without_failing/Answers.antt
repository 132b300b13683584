use Rattle.std.proofs.Common.{◌++◌, [], ◌∷◌, length, refl, ap, ◌∙◌, arith}
use Rattle.edge_io.specs.MemoryShelf.{contents_of}
use Rattle.call_words.specs.Requests.{asked_of, file_of, input_of}
use Rattle.slicer_top.specs.Files.{text_made}
use Rattle.slicer_tests.proofs.OneFile.{named_text, no_input, under_name}
use Rattle.slicer_tests.proofs.run_tests.run_without_failing.Goals as goal

pub returns : goal.returns
returns g c = λ form named unasked short starts fits.
    let told = contents_of c.new-shelf.result in
    let asked = asked_of c.args.words.now in
    let files = c.new-shelf.ensures.files ∙ c.in_ok-push.ensures.items ∙ ap (λ fs. fs ++ ((c.args.name, c.args.text) ∷ [])) c.new-files.ensures.items in
    (c.run_slicer-status.ensures.outcome.faultless c.args.text [] (record { in_grammar = form; holds = named_text told (text_made asked) (file_of c.args.words.now) c.args.name c.args.text named (under_name c.new-shelf.result.files.items c.args.name c.args.text c.args.name files refl) short; holds_input = no_input told (input_of asked) unasked }) starts (c.new-shelf.ensures.failing ∙ c.new.ensures.items) (λ written is.
    let bytes = ap length c.in_ok-out.ensures.bytes in
    record { none_failing = c.in_ok-out.ensures.failing ∙ c.new-2.ensures.items; room = omega (arith, bytes, fits written is, c.in_ok-out.ensures.room) })
    (let bytes = ap length c.in_ok-err.ensures.bytes in record { none_failing = c.in_ok-err.ensures.failing ∙ c.new-4.ensures.items; room = omega (arith, bytes, c.in_ok-err.ensures.room) })).ends
