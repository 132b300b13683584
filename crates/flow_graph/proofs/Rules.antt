-- The equations that the walk's functions are proved by.
use Rattle.std.proofs.Common.{append_assoc, append-nil}
use Rattle.flow_graph.proofs.FlowLemmas.{flow-Declare, flow-Assign, flow-Bump, flow-Invoke, flow-Fetch, flow-Write, flow-Print, flow-Heap, flow-Release, flow-Return, flow-If, flow-While, flow-Do, switch-pairs, switch-start, flow-Block, flow-For}

pub ruleset flows_of = (flow-Declare, flow-Assign, flow-Bump, flow-Invoke, flow-Fetch, flow-Write, flow-Print, flow-Heap, flow-Release, flow-Return, flow-If, flow-While, flow-Do, switch-pairs, switch-start, flow-Block, flow-For, append_assoc, append-nil)
