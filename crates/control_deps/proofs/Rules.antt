-- The equations that the walk's functions are proved by.
use Rattle.std.proofs.Common.{append_assoc, append-nil}
use Rattle.control_deps.proofs.WalkLemmas.{walk-Declare, walk-Assign, walk-Bump, walk-Invoke, walk-Fetch, walk-Write, walk-Print, walk-Heap, walk-Release, walk-Return, walk-If, walk-While, walk-Do, walk-Switch, walk-Block, walk-For}

pub ruleset walks_of = (walk-Declare, walk-Assign, walk-Bump, walk-Invoke, walk-Fetch, walk-Write, walk-Print, walk-Heap, walk-Release, walk-Return, walk-If, walk-While, walk-Do, walk-Switch, walk-Block, walk-For, append_assoc, append-nil)
