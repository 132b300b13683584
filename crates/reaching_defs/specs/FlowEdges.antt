-- Flow edges, and those to targets.
use Rattle.std.specs.Prelude.{◌≡◌, ◌+◌, ℕ, List}
use Rattle.dep_model.specs.declared.edge.Edge.{Edge}
use Rattle.dep_model.specs.declared.edge.Label.TheVariants.{Flow}
use Rattle.reaching_defs.specs.Listings.{IsAmongFirst}

abbrev pub flow_edge : ℕ → ℕ → Edge
flow_edge v w = record { from = v; to = w; label = Flow }

-- a flow edge from v to one of the first `count` targets, which are counted from `base` on
pub record IsTargeted (v base count : ℕ) (targets : List ℕ) (e : Edge) : Type 0 where
  pub target : ℕ
  pub early : IsAmongFirst targets count target
  pub is : e ≡ flow_edge v (base + target)
