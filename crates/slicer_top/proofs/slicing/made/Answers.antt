use Rattle.std.proofs.Common.{ap, subst, sym}
use Rattle.std.specs.String.{string_bytes}
use Rattle.call_words.specs.Requests.{Asked, IsBounded, asked_by}
use Rattle.slicer_top.specs.Slices.{HasLast}
use Rattle.slicer_top.proofs.Making.{IsMade, run_made}
use Rattle.slicer_top.proofs.slicing.made.Goals as goal

pub slice_texts-requires-clause-workers : goal.slice_texts-requires-clause-workers
slice_texts-requires-clause-workers g c κs within = subst (λ r. IsBounded (asked_by r)) c.in-Slice.is c.requires.bounded

pub graph_texts-requires-clause-workers : goal.graph_texts-requires-clause-workers
graph_texts-requires-clause-workers g c κs within = subst (λ r. IsBounded (asked_by r)) c.in-Graph.is c.requires.bounded

pub members_texts-requires-clause-workers : goal.members_texts-requires-clause-workers
members_texts-requires-clause-workers g c κs within = subst (λ r. IsBounded (asked_by r)) c.in-Members.is c.requires.bounded

pub numbers_texts-requires-clause-workers : goal.numbers_texts-requires-clause-workers
numbers_texts-requires-clause-workers g c κs within = (subst (λ r. IsBounded (asked_by r)) c.in-Big.is c.requires.bounded).3

pub forward_texts-requires-clause-workers : goal.forward_texts-requires-clause-workers
forward_texts-requires-clause-workers g c κs within = subst (λ r. IsBounded (asked_by r)) c.in-Forward.is c.requires.bounded

pub chop_texts-requires-clause-workers : goal.chop_texts-requires-clause-workers
chop_texts-requires-clause-workers g c κs within = subst (λ r. IsBounded (asked_by r)) c.in-Chop.is c.requires.bounded

pub returns-in-Slice : goal.returns-in-Slice
returns-in-Slice g c =
    subst (λ a. IsMade c.args.program c.args.input.now (λ t. t.items) a c.slice_texts.result) (ap asked_by (sym c.in-Slice.is))
    (subst (λ lines. IsMade c.args.program c.args.input.now (λ t. t.items) (Asked.slice (string_bytes c.in-Slice.file) lines c.in-Slice.workers) c.slice_texts.result) c.as_slice.ensures.value
    (c.slice_texts.ensures (string_bytes c.in-Slice.file) c.args.input.now))

pub returns-in-Trace : goal.returns-in-Trace
returns-in-Trace g c =
    subst (λ a. IsMade c.args.program c.args.input.now (λ t. t.items) a c.trace_texts.result) (ap asked_by (sym c.in-Trace.is))
    (subst (λ lines. IsMade c.args.program c.args.input.now (λ t. t.items) (Asked.trace (string_bytes c.in-Trace.file) lines (string_bytes c.in-Trace.input) c.in-Trace.steps) c.trace_texts.result)
    c.as_slice-in-Trace.ensures.value (c.trace_texts.ensures (string_bytes c.in-Trace.file) (string_bytes c.in-Trace.input)))

pub returns-in-Run : goal.returns-in-Run
returns-in-Run g c =
    run_made c.args.program c.args.input.now (λ t. t.items) (asked_by c.args.request.now) (string_bytes c.in-Run.file) (string_bytes c.in-Run.input) c.in-Run.steps c.ran.result
    (ap asked_by c.in-Run.is) c.ran.ensures

pub returns-in-Graph : goal.returns-in-Graph
returns-in-Graph g c =
    subst (λ a. IsMade c.args.program c.args.input.now (λ t. t.items) a c.graph_texts.result) (ap asked_by (sym c.in-Graph.is))
    (c.graph_texts.ensures (string_bytes c.in-Graph.file) c.args.input.now)

pub returns-in-Members : goal.returns-in-Members
returns-in-Members g c =
    subst (λ a. IsMade c.args.program c.args.input.now (λ t. t.items) a c.members_texts.result) (ap asked_by (sym c.in-Members.is))
    (c.members_texts.ensures (string_bytes c.in-Members.file) c.args.input.now)

pub returns-in-Forward : goal.returns-in-Forward
returns-in-Forward g c =
    subst (λ a. IsMade c.args.program c.args.input.now (λ t. t.items) a c.forward_texts.result) (ap asked_by (sym c.in-Forward.is))
    (c.forward_texts.ensures (string_bytes c.in-Forward.file) c.args.input.now)

pub returns-in-Chop : goal.returns-in-Chop
returns-in-Chop g c =
    subst (λ a. IsMade c.args.program c.args.input.now (λ t. t.items) a c.chop_texts.result) (ap asked_by (sym c.in-Chop.is))
    (c.chop_texts.ensures (string_bytes c.in-Chop.file) c.args.input.now)

pub numbers_texts-requires-clause-some : goal.numbers_texts-requires-clause-some
numbers_texts-requires-clause-some g c κs within = subst (λ r. HasLast (asked_by r) c.args.program) c.in-Big.is c.requires.last

pub returns-in-Big : goal.returns-in-Big
returns-in-Big g c =
    subst (λ a. IsMade c.args.program c.args.input.now (λ t. t.items) a c.numbers_texts.result) (ap asked_by (sym c.in-Big.is))
    (c.numbers_texts.ensures c.in-Big.seed c.in-Big.size c.args.input.now)
