-- The rules that say which vertex names which parameter.
use Rattle.std.specs.Prelude.{ℕ, suc, ◌==◌, if◌then◌else◌, Bool, false, List, [], ◌∷◌, ◌++◌, flat_map, Contains, slice_get}
use Rattle.std.specs.Option.{option_map_or}
use Rattle.rule_closure.specs.declared.closure.Rule.{Rule}
use Rattle.c_tree.specs.declared.program.Program.{Program}
use Rattle.dep_model.specs.declared.vertex.Slot.TheVariants.{Argument}
use Rattle.dep_model.specs.declared.vertex.Vertex.{Vertex}
use Rattle.dep_model.specs.declared.vertex.VertexKind.{VertexKind}
use Rattle.dep_model.specs.declared.vertex.VertexKind.TheVariants.{FormalIn}
use Rattle.dep_model.specs.MayPoint.{parameters}
use Rattle.dep_model.specs.NamedParameters.{NamesParameter, kind_names}
use Rattle.completion.specs.declared.formals.Formal.{Formal}

-- where the first is in a set, the second belongs there
abbrev pub one_premise : ℕ → ℕ → Rule
one_premise v u = record { first = v; second = v; gives = u }

-- rules that say exactly which vertex names which parameter
pub record AreNameRules (p : Program) (vs : List Vertex) (rules : List Rule) : Type 0 where
  pub all : (v u : ℕ) → NamesParameter p vs v u → Contains rules (one_premise v u)
  pub only : (r : Rule) → Contains rules r → NamesParameter p vs r.first r.gives

-- ---- the rules, vertex by vertex
abbrev pub formal_at : ℕ → VertexKind → List Formal
formal_at n (FormalIn (Argument k)) = record { place = k; vertex = n } ∷ []
formal_at n _ = []

-- vertex n, where it is the formal-in of an argument of function f
abbrev pub formal_of : ℕ → ℕ → Vertex → List Formal
formal_of f n x = if x.function == f then formal_at n x.kind else []

-- the formal-ins of the arguments of function f, where the first vertex has the number n
abbrev pub formals_from : ℕ → ℕ → List Vertex → List Formal
formals_from f n [] = []
formals_from f n (x ∷ xs) = formal_of f n x ++ formals_from f (suc n) xs

-- the rule from vertex n to the formal-in of a parameter that is named
abbrev pub named_rule : List ℕ → (ℕ → Bool) → ℕ → Formal → List Rule
named_rule params named n u = if option_map_or named (slice_get params u.place) false then one_premise n u.vertex ∷ [] else []

-- the rules of vertex n
abbrev pub vertex_rules : Program → List Vertex → ℕ → Vertex → List Rule
vertex_rules p vs n x = flat_map (named_rule (parameters p x.function) (kind_names p x.function x.kind) n) (formals_from x.function 0 vs)

-- those of a part of the vertices, of which the first has the number n
abbrev pub rules_from : Program → List Vertex → ℕ → List Vertex → List Rule
rules_from p vs n [] = []
rules_from p vs n (x ∷ xs) = vertex_rules p vs n x ++ rules_from p vs (suc n) xs

abbrev pub name_rules : Program → List Vertex → List Rule
name_rules p vs = rules_from p vs 0 vs
