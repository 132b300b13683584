-- The equations by which the code is proved.
use Rattle.tree_types.proofs.TypeForms.{shape-Integer}
use Rattle.c_tree.proofs.LayerLemmas.{out-Declare, out-Assign, out-Bump, out-Invoke, out-Fetch, out-Write, out-Print, out-Heap, out-Release, out-If, out-While, out-Do, out-For, out-Switch, out-Block, out-Return}
use Rattle.c_machine.proofs.RestLemmas.{left-push, code-Declare, code-Assign, code-Bump, code-Invoke, code-Fetch, code-Write, code-Print, code-Heap, code-Release, code-If, code-While, code-Do, code-For, code-Switch, code-Block, code-Return, declares-Declare, declares-Assign, declares-Bump, declares-Invoke, declares-Fetch, declares-Write, declares-Print, declares-Heap, declares-Release, declares-If, declares-While, declares-Do, declares-For, declares-Switch, declares-Block, declares-Return}
use Rattle.c_machine.proofs.SizeLemmas.{left_size-push, size-Declare, size-Assign, size-Bump, size-Invoke, size-Fetch, size-Write, size-Print, size-Heap, size-Release, size-If, size-While, size-Do, size-For, size-Switch, size-Block, size-Return}

pub ruleset rests = (left-push, left_size-push, size-Declare, size-Assign, size-Bump, size-Invoke, size-Fetch, size-Write, size-Print, size-Heap, size-Release, size-If, size-While, size-Do, size-For, size-Switch, size-Block, size-Return, out-Declare, out-Assign, out-Bump, out-Invoke, out-Fetch, out-Write, out-Print, out-Heap, out-Release, out-If, out-While, out-Do, out-For, out-Switch, out-Block, out-Return, code-Declare, code-Assign, code-Bump, code-Invoke, code-Fetch, code-Write, code-Print, code-Heap, code-Release, code-If, code-While, code-Do, code-For, code-Switch, code-Block, code-Return, declares-Declare, declares-Assign, declares-Bump, declares-Invoke, declares-Fetch, declares-Write, declares-Print, declares-Heap, declares-Release, declares-If, declares-While, declares-Do, declares-For, declares-Switch, declares-Block, declares-Return)

pub ruleset shapes = (shape-Integer)
