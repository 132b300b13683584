-- Laws on what is wanted at the vertices of a program, and on what a closed set keeps of it.
use Rattle.std.specs.Prelude.{◌≡◌, ℕ, List, Bool, true, false, Option, Contains, IsTrue}
use Rattle.bit_rows.specs.Sets.{has}
use Rattle.c_tree.specs.declared.expr.Expr.{Expr}
use Rattle.c_tree.specs.declared.program.Program.{Program}
use Rattle.c_tree.specs.declared.statement.Target.{Target}
use Rattle.c_language.specs.Code.{Code}
use Rattle.dep_model.specs.declared.edge.Edge.{Edge}
use Rattle.dep_model.specs.declared.location.Location.{Location}
use Rattle.dep_model.specs.ClosedSets.{IsClosedIn}
use Rattle.dep_model.specs.Doings.{Calls, doings_of}
use Rattle.dep_model.specs.DoingEffects.{result_of}
use Rattle.dep_model.specs.FunctionVertices.{code_in}
use Rattle.dep_model.specs.ModRef.{is_outside}
use Rattle.dep_model.specs.SystemGraph.{Analysis, IsAnalysis, vertices_of, AreSystemEdges}
use Rattle.run_facts.specs.NextSteps.{stores}
use Rattle.simulation.specs.Places.{Behind}
use Rattle.simulation.specs.Premises.{Wanting, Closing}
use Rattle.simulation.specs.Settings.{FormalIn, FormalOut, Calling, ActualIn, ActualOut, ResultOut}
use Rattle.simulation_locations.specs.Wanted.{defines_at, Next, WantedAt, IsFlowClosed, entered_at, IsWanted}
use Rattle.simulation_locations.specs.KeptVertices.{keeps_vertex, takes}
use Rattle.simulation_locations.specs.Chained.{Counterpart, chained, HasSoundCalls}

-- a vertex that may define what is wanted directly after it is kept by a set that is closed under flow
abbrev pub DefinersAreKept : Type 0
DefinersAreKept =
    (p : Program) (a : Analysis) (kept : List Bool) (f v : ℕ) (w : Option ℕ) (l : Location) → IsFlowClosed p a kept → Next p a f v w
    → defines_at p a v l ≡ true → WantedAt p a kept f l w → IsTrue (has kept v)

-- so is the formal-in of what is wanted where a function begins
abbrev pub FormalInsAreKept : Type 0
FormalInsAreKept =
    (p : Program) (a : Analysis) (kept : List Bool) (f : ℕ) (l : Location) → IsFlowClosed p a kept
    → WantedAt p a kept f l (entered_at p a f (code_in p f)) → takes p a f l ≡ true → keeps_vertex p a kept (FormalIn f l) ≡ true

-- a caller that waits wants nothing that the function called modifies: the actual-outs of all of that come first, and kill it
abbrev pub CallersWantUnmodified : Type 0
CallersWantUnmodified =
    (p : Program) (a : Analysis) (kept : List Bool) (f i g : ℕ) (to : Target) (args : List Expr) (r : Code) (l : Location)
    → HasSoundCalls p a → Contains (doings_of p f) (Calls i to g args) → IsWanted p a kept l (Behind f i g to r)
    → a.effects.modified g l ≡ false

-- what is kept between a call of g by statement i of f and g
pub record KeepsCall (p : Program) (a : Analysis) (kept : List Bool) (f i g : ℕ) (to : Target) : Type 0 where
  -- at a kept call the actual-in of a kept formal-in
  pub actual_in :
      (l : Location) → is_outside p l ≡ true → keeps_vertex p a kept (Calling f i g) ≡ true → keeps_vertex p a kept (FormalIn g l) ≡ true
      → keeps_vertex p a kept (ActualIn f i g l) ≡ true
  -- the formal-out of a kept actual-out, and of that of a result
  pub formal_out : (l : Location) → keeps_vertex p a kept (ActualOut f i g l) ≡ true → keeps_vertex p a kept (FormalOut g l) ≡ true
  pub formal_result :
      stores to ≡ true → keeps_vertex p a kept (ResultOut f i g) ≡ true → keeps_vertex p a kept (FormalOut g (result_of g)) ≡ true
  -- the call of a kept actual-out
  pub call_of_out : (l : Location) → keeps_vertex p a kept (ActualOut f i g l) ≡ true → keeps_vertex p a kept (Calling f i g) ≡ true
  pub call_of_result : keeps_vertex p a kept (ResultOut f i g) ≡ true → keeps_vertex p a kept (Calling f i g) ≡ true

-- a set that is closed under all closures of the system graph keeps all that of each call
abbrev pub ClosedSetsKeepCalls : Type 0
ClosedSetsKeepCalls =
    (p : Program) (a : Analysis) (edges : List Edge) (kept : List Bool) (f i g : ℕ) (to : Target) (args : List Expr) → HasSoundCalls p a
    → AreSystemEdges p a edges → IsClosedIn p (vertices_of p a) edges kept → Contains (doings_of p f) (Calls i to g args)
    → KeepsCall p a kept f i g to

-- wherever a run stands, what is wanted by chains is so by the rules of the law on slices
abbrev pub ChainsKeepRules : Type 0
ChainsKeepRules =
    (p : Program) (a : Analysis) (kept : List Bool) (c : Counterpart) (holds : ℕ → Bool) → HasSoundCalls p a
    → Wanting (chained p a kept c (λ f. holds f ≡ true))

-- and a set that is closed under all closures of the system graph keeps what may define what is wanted so, across calls too
abbrev pub ClosedSetsKeepDefiners : Type 0
ClosedSetsKeepDefiners =
    (p : Program) (a : Analysis) (edges : List Edge) (kept : List Bool) (c : Counterpart) (holds : ℕ → Bool) → HasSoundCalls p a → IsAnalysis p a
    → AreSystemEdges p a edges → IsClosedIn p (vertices_of p a) edges kept → Closing (chained p a kept c (λ f. holds f ≡ true))
