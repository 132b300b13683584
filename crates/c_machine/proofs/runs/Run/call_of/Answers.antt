use Rattle.std.proofs.Common.{List, Some, sym, ap, ◌∙◌, option_map}
use Rattle.c_meaning.specs.Activations.{executable, fresh}
use Rattle.c_meaning.specs.Steps.{Point}
use Rattle.c_memory.specs.Lists.{items_of}
use Rattle.c_machine.specs.Rests.{left_code}
use Rattle.c_machine.specs.States.{all_passed}
use Rattle.c_machine.proofs.CallLemmas.{go}
use Rattle.c_machine.proofs.PointLemmas.{entered_done, entered_not}
use Rattle.c_machine.proofs.RunLemmas.{heard_at, called_here}
use Rattle.c_machine.proofs.runs.Run.call_of.Goals as goal

pub returns-in_ok-announce-in-Some : goal.returns-in_ok-announce-in-Some
returns-in_ok-announce-in-Some c =
    λ p before x h e.
    let k = left_code c.args.self.now.left.items in
    let y : Point = record x { rest = k } in
    let s = called_here p before c.args.self.now y c.args.function c.args.args.now c.args.callee.now _ h c.requires c.in_ok-values.ensures in
    let start = c.in_ok-enter-in-Some.ensures p before y h in
    let passed = c.in_ok-pass-in-Some.ensures p before _ start in
    let told_ = c.in_ok-announce-in-Some.ensures p before _ passed in
    entered_done p before x c.args.id c.args.target.now c.args.function c.args.args.now k (all_passed p c.as_slice.result.now c.in-Some.values.items (fresh (executable p) x.state)) c.announce.new.self e
    (s ∙ ap (λ o. go p c.args.callee.now.params (fresh (executable p) x.state) (option_map items_of o)) c.in-Some.is ∙ ap (λ (ps : List _). Some (all_passed p ps c.in-Some.values.items (fresh (executable p) x.state))) (sym c.as_slice.ensures)) told_

pub returns-in-None : goal.returns-in-None
returns-in-None c =
    λ p before x h e.
    let k = left_code c.args.self.now.left.items in
    let y : Point = record x { rest = k } in
    let s = called_here p before c.args.self.now y c.args.function c.args.args.now c.args.callee.now _ h c.requires c.in_ok-values.ensures in
    entered_not p before x c.args.id c.args.target.now c.args.function c.args.args.now k c.args.self.now e
    (s ∙ ap (λ o. go p c.args.callee.now.params (fresh (executable p) x.state) (option_map items_of o)) c.in-None.is) (heard_at p before c.args.self.now y h)
