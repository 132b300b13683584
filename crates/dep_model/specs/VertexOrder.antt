-- The vertices of a program in their order, and what each may define, may use and kills (Horwitz, Reps and Binkley 1990).
use Rattle.std.specs.Prelude.{ℕ, suc, ◌==◌, List, [], ◌∷◌, ◌++◌, map, Bool, false, ◌&&◌, ◌||◌, not, if◌then◌else◌, Option, Some, None, slice_get, is_some}
use Rattle.std.specs.List.{find}
use Rattle.std.specs.Option.{option_map_or}
use Rattle.c_tree.specs.declared.program.Function.{Function}
use Rattle.c_tree.specs.declared.program.Program.{Program}
use Rattle.c_tree.specs.declared.statement.Target.{Target}
use Rattle.c_tree.specs.declared.statement.Target.TheVariants as target
use Rattle.c_language.specs.Mains.{is_main_of}
use Rattle.dep_model.specs.declared.location.Location.{Location}
use Rattle.dep_model.specs.declared.vertex.Slot.{Slot}
use Rattle.dep_model.specs.declared.vertex.Slot.TheVariants.{Argument, Result, At}
use Rattle.dep_model.specs.declared.vertex.Vertex.{Vertex}
use Rattle.dep_model.specs.declared.vertex.VertexKind.{VertexKind}
use Rattle.dep_model.specs.declared.vertex.VertexKind.TheVariants.{Entry, FormalIn, FormalOut, Statement, Call, ActualIn, ActualOut}
use Rattle.dep_model.specs.Follows.{EffectsOf}
use Rattle.dep_model.specs.Locations.{TypedLocation, locations, same_location}
use Rattle.dep_model.specs.Denoted.{Places, TargetsOf, whole, no_places}
use Rattle.dep_model.specs.Doings.{doing_number, Doing, Does, Calls, doings_of}
use Rattle.dep_model.specs.DoingEffects.{result_of, maybe_reads, target_reads, target_places, target_kills, act_uses, act_defines, act_kills}
use Rattle.dep_model.specs.MayPoint.{parameters}
use Rattle.dep_model.specs.ModRef.{FunctionEffects}

-- the places in the list of locations, from the k-th on, of those that pass
abbrev pub slots_from : Places → ℕ → List TypedLocation → List Slot
slots_from test k [] = []
slots_from test k (o ∷ os) = if test o.location then At k ∷ slots_from test (suc k) os else slots_from test (suc k) os

abbrev pub arguments_from : {A : Type 0} → ℕ → List A → List Slot
arguments_from k [] = []
arguments_from k (a ∷ as_) = Argument k ∷ arguments_from (suc k) as_

abbrev pub in_function : ℕ → VertexKind → Vertex
in_function f k = record { function = f; kind = k }

-- whether a function isn't void
abbrev pub has_result : Program → ℕ → Bool
has_result p f = option_map_or (λ (g : Function). is_some g.result) (slice_get p.functions f) false

module _ (p : Program) (effects : FunctionEffects) where
  abbrev pub touched : ℕ → Places
  touched f l = effects.modified f l || effects.used f l

  abbrev pub slots_of : Places → List Slot
  slots_of test = slots_from test 0 (locations p)

  -- void functions and main have no result that goes out
  abbrev pub result_slots : ℕ → List Slot
  result_slots f = if has_result p f && not (is_main_of p f) then Result ∷ [] else []

  -- the parameters, and each location that the function modifies or uses
  abbrev pub formal_ins : ℕ → List VertexKind
  formal_ins f = map FormalIn (arguments_from 0 (parameters p f) ++ slots_of (touched f))

  -- each location that the function modifies, and the result
  abbrev pub formal_outs : ℕ → List VertexKind
  formal_outs f = map FormalOut (slots_of (effects.modified f) ++ result_slots f)

  abbrev pub target_slots : Target → List Slot
  target_slots target.None = []
  target_slots (target.Place e) = Result ∷ []
  target_slots (target.Declared x) = Result ∷ []

  -- a statement's vertex; for a call its vertex, what goes in and what comes out
  abbrev pub doing_vertices : Doing → List VertexKind
  doing_vertices (Does i a) = Statement i ∷ []
  doing_vertices (Calls i to g args) =
      Call i ∷ (map (ActualIn i) (arguments_from 0 args ++ slots_of (touched g)) ++ map (ActualOut i) (slots_of (effects.modified g) ++ target_slots to))

  abbrev pub all_vertices : List Doing → List VertexKind
  all_vertices [] = []
  all_vertices (d ∷ ds) = doing_vertices d ++ all_vertices ds

  abbrev pub function_kinds : ℕ → List VertexKind
  function_kinds f = Entry ∷ (formal_ins f ++ (all_vertices (doings_of p f) ++ formal_outs f))

  abbrev pub vertices_from : ℕ → List Function → List Vertex
  vertices_from f [] = []
  vertices_from f (g ∷ gs) = map (in_function f) (function_kinds f) ++ vertices_from (suc f) gs

  -- the vertices of a program, function by function
  abbrev pub program_vertices : List Vertex
  program_vertices = vertices_from 0 p.functions

-- ---- what each vertex may define, may use and kills

abbrev pub has_number : ℕ → Doing → Bool
has_number i d = doing_number d == i

-- statement i of a function
abbrev pub doing_at : Program → ℕ → ℕ → Option Doing
doing_at p f i = find (has_number i) (doings_of p f)

module _ (p : Program) (points : TargetsOf) where
  abbrev pub of_location : Option TypedLocation → Places
  of_location None l = false
  of_location (Some o) l = same_location o.location l

  abbrev pub of_parameter : Option ℕ → Places
  of_parameter None l = false
  of_parameter (Some x) l = whole x l

  -- the locations of a slot, in a function
  abbrev pub slot_places : ℕ → Slot → Places
  slot_places f (Argument k) = of_parameter (slice_get (parameters p f) k)
  slot_places f Result = same_location (result_of f)
  slot_places f (At k) = of_location (slice_get (locations p) k)

  -- an argument reads what it names, a location's actual is that location
  abbrev pub actual_uses : ℕ → Option Doing → Slot → Places
  actual_uses f (Some (Calls i to g args)) (Argument k) = maybe_reads p points (slice_get args k)
  actual_uses f d (At k) = slot_places f (At k)
  actual_uses f _ slot = no_places

  abbrev pub out_uses : Option Doing → Slot → Places
  out_uses (Some (Calls i to g args)) Result = target_reads p points to
  out_uses _ slot = no_places

  abbrev pub out_defines : ℕ → Option Doing → Slot → Places
  out_defines f (Some (Calls i to g args)) Result = target_places p points to
  out_defines f d (At k) = slot_places f (At k)
  out_defines f _ slot = no_places

  abbrev pub out_kills : ℕ → Option Doing → Slot → Places
  out_kills f (Some (Calls i to g args)) Result = target_kills p points to
  out_kills f d (At k) = slot_places f (At k)
  out_kills f _ slot = no_places

  abbrev pub statement_uses : Option Doing → Places
  statement_uses (Some (Does i a)) = act_uses p points a
  statement_uses _ = no_places

  abbrev pub statement_defines : ℕ → Option Doing → Places
  statement_defines f (Some (Does i a)) = act_defines p points f a
  statement_defines f _ = no_places

  abbrev pub statement_kills : ℕ → Option Doing → Places
  statement_kills f (Some (Does i a)) = act_kills p points f a
  statement_kills f _ = no_places

  abbrev pub kind_uses : ℕ → VertexKind → Places
  kind_uses f Entry = no_places
  kind_uses f (FormalIn slot) = no_places
  kind_uses f (FormalOut slot) = slot_places f slot
  kind_uses f (Statement i) = statement_uses (doing_at p f i)
  kind_uses f (Call i) = no_places
  kind_uses f (ActualIn i slot) = actual_uses f (doing_at p f i) slot
  kind_uses f (ActualOut i slot) = out_uses (doing_at p f i) slot

  abbrev pub kind_defines : ℕ → VertexKind → Places
  kind_defines f Entry = no_places
  kind_defines f (FormalIn slot) = slot_places f slot
  kind_defines f (FormalOut slot) = no_places
  kind_defines f (Statement i) = statement_defines f (doing_at p f i)
  kind_defines f (Call i) = no_places
  kind_defines f (ActualIn i slot) = no_places
  kind_defines f (ActualOut i slot) = out_defines f (doing_at p f i) slot

  abbrev pub kind_kills : ℕ → VertexKind → Places
  kind_kills f Entry = no_places
  kind_kills f (FormalIn slot) = no_places
  kind_kills f (FormalOut slot) = no_places
  kind_kills f (Statement i) = statement_kills f (doing_at p f i)
  kind_kills f (Call i) = no_places
  kind_kills f (ActualIn i slot) = no_places
  kind_kills f (ActualOut i slot) = out_kills f (doing_at p f i) slot

  abbrev pub vertex_effects : EffectsOf Vertex Location
  vertex_effects = record {
    defines = λ v. kind_defines v.function v.kind;
    uses = λ v. kind_uses v.function v.kind;
    kills = λ v. kind_kills v.function v.kind;
  }
