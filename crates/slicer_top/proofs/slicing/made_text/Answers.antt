use Rattle.std.proofs.Common.{◌∙◌, ◌≤◌, ap, length, subst, sym}
use Rattle.std.proofs.lemmas.Result.{IfOk-weaker}
use Rattle.call_words.specs.Requests.{asked_by}
use Rattle.slicer_top.specs.Files.{text_made}
use Rattle.slicer_top.proofs.Big.{made_short}
use Rattle.slicer_top.proofs.slicing.made_text.Goals as goal

pub returns-in-Big-clause-short : goal.returns-in-Big-clause-short
returns-in-Big-clause-short c =
    IfOk-weaker c.bytes_of.result _ _
    (λ bytes is. subst (λ n. n ≤ 1048576) (ap length (ap (λ r. text_made (asked_by r)) c.in-Big.is ∙ sym is)) (made_short (asked_by c.args.request.now) c.requires)) c.bytes_of.ensures.ok
