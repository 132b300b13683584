-- What a value of `Closer` is seen as: the closures of a program's graph as rules.
use Rattle.std.specs.Prelude.{◌≡◌, ℕ, ◌<◌, List, ◌++◌, length, map, Option, Some, None}
use Rattle.std.specs.List.{position}
use Rattle.rule_closure.specs.declared.closure.Rule.{Rule}
use Rattle.c_tree.specs.declared.program.Program.{Program}
use Rattle.dep_model.specs.declared.edge.Edge.{Edge}
use Rattle.dep_model.specs.declared.edge.Label.{Label}
use Rattle.dep_model.specs.declared.edge.Label.TheVariants.{Control, Flow, Call, In, Out}
use Rattle.dep_model.specs.declared.graph.Graph.{Graph}
use Rattle.c_language.specs.Mains.{main_of}
use Rattle.dep_model.specs.declared.vertex.Vertex.{Vertex}
use Rattle.dep_model.specs.ClosedSets.{IsMainEntry}
use Rattle.dep_model.specs.FunctionVertices.{is_entry, passes}
use Rattle.completion.specs.NameRules.{one_premise, AreNameRules}

-- the rule of an edge from u to v: back along the edge, but for a call forward to the entry of the function called; an argument or a
-- location is kept where the call and the formal-in both are
abbrev pub rule_at : ℕ → ℕ → Label → Rule
rule_at u v Control = one_premise v u
rule_at u v Flow = one_premise v u
rule_at u v (Call c) = one_premise u v
rule_at u v (In c) = record { first = c; second = v; gives = u }
rule_at u v (Out c) = one_premise v u

abbrev pub rule_of : Edge → Rule
rule_of e = rule_at e.from e.to e.label

-- for sets of this size, the entry of main, and the closures as rules
pub record Closing : Type 0 where
  pub size : ℕ
  pub main : Option ℕ
  pub rules : List Rule

-- they are those of a program and its graph
pub record Closes (p : Program) (g : Graph) (c : Closing) : Type 0 where
  pub names : List Rule
  pub size : c.size ≡ length g.vertices
  pub entry : (m : ℕ) → IsMainEntry p g.vertices m → c.main ≡ Some m
  pub names_are : AreNameRules p g.vertices names
  pub rules_are : c.rules ≡ map rule_of g.edges ++ names

-- the entry of main is in sets of this size
abbrev pub IsInside : Option ℕ → ℕ → Type 0
IsInside main size = (m : ℕ) → main ≡ Some m → m < size

-- the entry of function f
abbrev pub entry_of : List Vertex → Option ℕ → Option ℕ
entry_of vs None = None
entry_of vs (Some f) = position (passes is_entry f) vs

-- the first entry of main
abbrev pub main_entry : Program → List Vertex → Option ℕ
main_entry p vs = entry_of vs (main_of p)
