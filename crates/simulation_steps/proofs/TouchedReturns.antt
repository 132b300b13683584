-- What the laws on runs say of the store after a call: the cells that it touches, and what it overwrites.
use Rattle.std.proofs.Common.{◌≡◌, List, ◌∷◌, map, Option, Some, true, refl, sym, ap, ◌∙◌, subst}
use Rattle.std.specs.Prelude.{All, option_map}
use Rattle.c_language.proofs.Options.{some_same}
use Rattle.c_tree.specs.declared.expr.Expr.{Expr}
use Rattle.c_tree.specs.declared.statement.Target.{Target}
use Rattle.c_tree.specs.declared.statement.Target.TheVariants as target
use Rattle.c_language.specs.Code.{Code, End, Opens, Plain, Fork, Loop, Leaves, Call}
use Rattle.c_meaning.specs.declared.value.Value.{Value}
use Rattle.c_meaning.specs.Values.{Types, State}
use Rattle.c_meaning.specs.Acts.{Made, after}
use Rattle.c_meaning.specs.Activations.{Executable, executable, types_in, received}
use Rattle.c_meaning.specs.Meaning.{told}
use Rattle.c_meaning.specs.Steps.{Moves, Reaches, Waiting, Point, point, step, stored_back, machine, beginning}
use Rattle.dep_model.specs.declared.location.Location.{Location}
use Rattle.dep_model.specs.declared.vertex.Slot.TheVariants.{Result}
use Rattle.dep_model.specs.declared.vertex.VertexKind.TheVariants.{ActualOut}
use Rattle.dep_model.specs.Doings as doing
use Rattle.run_facts.specs.Effects.{Effect, holding, storing, store_effect, store_received, back_in}
use Rattle.run_facts.specs.NextSteps.{Ends, next_of, stores}
use Rattle.run_facts.specs.ReadCells.{target_read}
use Rattle.run_facts.specs.Touching.{IsTouched, IsUsedBy, IsDefinedBy, Overwrites, ReceiptTouches}
use Rattle.run_facts.proofs.NextSteps.{step_stored}
use Rattle.run_facts.proofs.Touched.{steps_touch}
use Rattle.simulation_steps.specs.SlicePairs.{SlicePair}

ends_end : (c : Code) → next_of c ≡ Ends → c ≡ End
ends_end End e = refl
ends_end (Opens x c) e = cc
ends_end (Plain j b c) e = cc
ends_end (Fork j b c d) e = cc
ends_end (Loop j b c d) e = cc
ends_end (Leaves xs c) e = cc
ends_end (Call j t h bs c) e = cc

effect_of : (p : Executable) (types : Types) (to : Target) (o : Option Value) (s : State) (v : Made) → stores to ≡ true → received types to o s ≡ Some v → store_received p types to o s ≡ Some (store_effect s.memory (target_read types to s) v)
effect_of p types target.None o s v st is = cc
effect_of p types (target.Place e) o s v st is = ap (option_map (store_effect s.memory (target_read types (target.Place e) s))) is
effect_of p types (target.Declared x) o s v st is = ap (option_map (store_effect s.memory (target_read types (target.Declared x) s))) is

module _ (pair : SlicePair) (x : Point) (b : Waiting) (ws : List Waiting) where
  abbrev here : Executable
  here = executable pair.original

  abbrev m : State
  m = back_in here x.function b x.state

  abbrev types : Types
  types = types_in here b.function

  -- where the store after the call has made this
  abbrev pub stored_point : Made → Point
  stored_point v = point b.function b.rest (after b.call v m) ws (told b.call v x.trace)

  pub moves_on : (v : Made) → next_of x.rest ≡ Ends → x.callers ≡ b ∷ ws → stores b.target ≡ true → received types b.target x.state.returned m ≡ Some v → step here x ≡ Moves (stored_point v)
  moves_on v ends callers st is =
      step_stored here x b ws ends callers st ∙ ap (λ (o : Option Made). stored_back b m ws x.trace o) is

  abbrev UsedHere : List Expr → Location → Type 0
  UsedHere args = IsUsedBy pair.original pair.analysis b.function (doing.Calls b.call b.target x.function args) (ActualOut b.call Result)

  abbrev DefinedHere : List Expr → Location → Type 0
  DefinedHere args = IsDefinedBy pair.original pair.analysis b.function (doing.Calls b.call b.target x.function args) (ActualOut b.call Result)

  pub record IsTouching (v : Made) : Type 0 where
    pub args : List Expr
    pub reads_are : All (IsTouched pair.original pair.analysis m x.state.origins (UsedHere args)) (map (holding m.memory) (target_read types b.target m))
    pub stores_are : All (IsTouched pair.original pair.analysis m x.state.origins (DefinedHere args)) (map storing v.stores)
    pub overwrites : Overwrites pair.original pair.analysis b.function (ActualOut b.call Result) m (store_effect m.memory (target_read types b.target m) v)

  pub store_touching : (v : Made) → Reaches (machine here) (beginning here pair.input) x → next_of x.rest ≡ Ends → x.callers ≡ b ∷ ws → stores b.target ≡ true → received types b.target x.state.returned m ≡ Some v → IsTouching v
  store_touching v reached ends callers st is =
      let laws = steps_touch pair.original pair.analysis pair.well pair.numbered pair.analysed pair.input x reached in
      let t : ReceiptTouches pair.original pair.analysis x b = laws.1 (stored_point v) b ws (ends_end x.rest ends) callers (moves_on v ends callers st is) in
      let same : t.effect ≡ store_effect m.memory (target_read types b.target m) v = some_same (sym t.effect_is ∙ effect_of here types b.target x.state.returned m v st is) in
      record {
        args = t.args;
        reads_are = subst (λ (e : Effect). All (IsTouched pair.original pair.analysis m x.state.origins (UsedHere t.args)) e.reads) same t.touches.reads_are;
        stores_are = subst (λ (e : Effect). All (IsTouched pair.original pair.analysis m x.state.origins (DefinedHere t.args)) e.stores) same t.touches.stores_are;
        overwrites = subst (λ (e : Effect). Overwrites pair.original pair.analysis b.function (ActualOut b.call Result) m e) same t.overwrites;
      }
