-- What a set of a graph's vertices keeps of a program, and the projection of the program to the set.
use Rattle.std.specs.Prelude.{ℕ, suc, ◌==◌, List, [], ◌∷◌, Bool, false, ◌&&◌, ◌||◌, not, slice_get}
use Rattle.std.specs.List.{list_any}
use Rattle.std.specs.Option.{option_map_or}
use Rattle.bit_rows.specs.Sets.{has}
use Rattle.c_tree.specs.declared.program.Function.{Function}
use Rattle.c_tree.specs.declared.program.Program.{Program}
use Rattle.c_tree.specs.declared.statement.Statement.{Statement, fold-Statement}
use Rattle.c_tree.specs.declared.statement.Statement.TheOpen.{Statement-F, Arm-F}
use Rattle.c_language.specs.NameRules.{is_main}
use Rattle.dep_model.specs.declared.vertex.Slot.TheVariants.{Argument, Result}
use Rattle.dep_model.specs.declared.vertex.Vertex.{Vertex}
use Rattle.dep_model.specs.declared.vertex.VertexKind.{VertexKind}
use Rattle.dep_model.specs.declared.vertex.VertexKind.TheVariants.{FormalIn, ActualIn, ActualOut}
use Rattle.dep_model.specs.FunctionVertices.{is_own, is_entry, passes}
use Rattle.projection.specs.Kept.{KeptWords, Kept, chosen}
use Rattle.projection.specs.Names.{stays}
use Rattle.projection.specs.Projection.{projected_program}

-- ---- the vertices of calls and heads that keep a part of them

-- the actual-out of the result of a statement's call
abbrev pub is_result : ℕ → VertexKind → Bool
is_result i (ActualOut j Result) = j == i
is_result i _ = false

-- the actual-in of an argument of a statement's call
abbrev pub is_argument : ℕ → ℕ → VertexKind → Bool
is_argument i n (ActualIn j (Argument m)) = (j == i) && (m == n)
is_argument i n _ = false

-- the formal-in of a parameter
abbrev pub is_parameter : ℕ → VertexKind → Bool
is_parameter n (FormalIn (Argument m)) = m == n
is_parameter n _ = false

-- ---- what stands in a tree

-- a return that is kept
abbrev pub returns_step : (ℕ → Bool) → Statement-F Bool Bool → Bool
returns_step keeps (Statement-F.Return id l e) = keeps id
returns_step keeps _ = false

abbrev pub no_return : Arm-F Bool Bool → Bool
no_return a = false

abbrev pub returns : (ℕ → Bool) → Statement → Bool
returns keeps = fold-Statement Bool Bool (returns_step keeps) no_return

-- whether a function gives a result still, if it gave one: its return is kept, which stands directly in its body, or it is main
abbrev pub still_gives : (ℕ → Bool) → Function → Bool
still_gives keeps c = is_main c.name || list_any (λ (s : Statement). returns keeps s) c.body

-- whether a number is one of these
abbrev pub is_among : List ℕ → ℕ → Bool
is_among [] x = false
is_among (y ∷ ys) x = (y == x) || is_among ys x

-- whether a variable is a parameter of one of these functions
abbrev pub is_taken : List Function → ℕ → Bool
is_taken cs x = list_any (λ (c : Function). is_among c.params x) cs

-- and whether it is one that a function keeps which stays, where the first function has the number n
abbrev pub is_taken_still : (ℕ → Bool) → (ℕ → ℕ → Bool) → ℕ → List Function → ℕ → Bool
is_taken_still function parameter n [] x = false
is_taken_still function parameter n (c ∷ cs) x =
    (function n && is_among (chosen (parameter n) 0 c.params) x) || is_taken_still function parameter (suc n) cs x

-- ---- what a set of vertices keeps

module _ (set : List Bool) where
  -- one of the vertices is in the set and passes the test, where the first vertex has the number n
  abbrev pub holds : (Vertex → Bool) → ℕ → List Vertex → Bool
  holds test n [] = false
  holds test n (v ∷ vs) = (has set n && test v) || holds test (suc n) vs

  module _ (vs : List Vertex) where
    -- the words whose vertices are in the set: those of a statement and of a call, an argument's actual-in, and the actual-out of a result
    abbrev pub kept_words : KeptWords
    kept_words = record {
      statement = λ i. holds (λ (v : Vertex). is_own i v.kind) 0 vs;
      result = λ i. holds (λ (v : Vertex). is_result i v.kind) 0 vs;
      argument = λ i n. holds (λ (v : Vertex). is_argument i n v.kind) 0 vs;
    }

    -- a function whose entry is in the set
    abbrev pub keeps_function : ℕ → Bool
    keeps_function f = holds (passes is_entry f) 0 vs

    -- a parameter whose formal-in is in the set
    abbrev pub keeps_parameter : ℕ → ℕ → Bool
    keeps_parameter f n = holds (passes (is_parameter n) f) 0 vs

    -- a parameter's variable stays where the parameter does, and another where kept text refers to it
    abbrev pub keeps_variable : Program → ℕ → Bool
    keeps_variable p x = is_taken_still keeps_function keeps_parameter 0 p.functions x || (not (is_taken p.functions x) && stays kept_words p x)

    abbrev pub keeps_result : Program → ℕ → Bool
    keeps_result p f = option_map_or (λ (c : Function). still_gives kept_words.statement c) (slice_get p.functions f) false

    -- what the set keeps of the program
    abbrev pub kept_of : Program → Kept ℕ
    kept_of p = record {
      variable = keeps_variable p;
      statement = kept_words.statement;
      result = kept_words.result;
      argument = kept_words.argument;
      function = keeps_function;
      parameter = keeps_parameter;
      gives = keeps_result p;
    }

-- the projection of a program to a set of its graph's vertices
abbrev pub projection : Program → List Vertex → List Bool → Program
projection p vs set = projected_program (kept_of set vs p) p
