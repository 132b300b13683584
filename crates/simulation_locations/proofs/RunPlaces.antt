-- Wherever a run stands, the pairs of what is left to do are pairs of its function, and so it is of each caller that waits.
use Rattle.std.proofs.Common.{◌≡◌, ℕ, List, [], ◌∷◌, ◌++◌, Option, Some, None, inl, inr, refl, ap, ◌∙◌, subst}
use Rattle.std.specs.Prelude.{option_map, slice_get}
use Rattle.std.specs.Option.{option_map_or}
use Rattle.std.proofs.lemmas.Option.{slice_get-map}
use Rattle.c_tree.specs.declared.program.Function.{Function}
use Rattle.c_tree.specs.declared.program.Program.{Program}
use Rattle.c_language.specs.Code.{Code, End, code}
use Rattle.c_meaning.specs.Activations.{Routine, executable, routine_of, code_at}
use Rattle.c_meaning.specs.Steps.{Reaches, Waiting, Point, machine, beginning}
use Rattle.dep_model.specs.Follows.{InTurn, Follows}
use Rattle.dep_model.specs.FunctionVertices.{vertices_at, code_in}
use Rattle.dep_model.specs.SystemGraph.{Analysis, vertices_of}
use Rattle.run_facts.specs.NextSteps.{Next, next_of}
use Rattle.run_facts.specs.StepKinds.{BeginsCall, called_to}
use Rattle.run_facts.proofs.StepKinds.{IsKept, kept_run}
use Rattle.simulation_locations.specs.Wanted as wanted
use Rattle.simulation_locations.specs.Wanted.{IsPlaceOf, last_of, entered_at}
use Rattle.simulation_locations.proofs.NextPlaces.{IsThere, next_there}

module _ (p : Program) (a : Analysis) where
  -- a caller waits where the pairs of its call, and of what it does after it, are pairs of its function
  pub record WaitsThere (w : Waiting) : Type 0 where
    pub turns :
        (v : ℕ) (u : Option ℕ) → InTurn (vertices_at (vertices_of p a) w.function w.call None) (entered_at p a w.function w.rest) v u
        → wanted.Next p a w.function v u
    pub pairs : IsPlaceOf p a w.function w.rest

  abbrev pub AllWait : List Waiting → Type 0
  AllWait [] = Unit {0}
  AllWait (w ∷ ws) = WaitsThere w × AllWait ws

  pub record Stands (x : Point) : Type 0 where
    pub place : IsPlaceOf p a x.function x.rest
    pub callers : AllWait x.callers

  -- ---- functions begin

  abbrev code_of : Option Routine → Code
  code_of o = option_map_or (λ (r : Routine). r.code) o End

  routine_code : (o : Option Function) → code_of (option_map routine_of o) ≡ option_map_or (λ (g : Function). code g.body) o End
  routine_code None = refl
  routine_code (Some g) = refl

  pub code_is : (g : ℕ) → code_at (executable p) g ≡ code_in p g
  code_is g = ap code_of (slice_get-map routine_of p.functions g) ∙ routine_code (slice_get p.functions g)

  pub body_place : (g : ℕ) → IsPlaceOf p a g (code_at (executable p) g)
  body_place g v w h = inr (inl (subst (λ (c : Code). Follows (vertices_at (vertices_of p a) g) c (last_of p a g) v w) (code_is g) h))

  -- ---- steps

  abbrev NothingMore : Point → Type 0
  NothingMore x = Unit {0}

  there : (x : Point) (n : Next) → next_of x.rest ≡ n → IsThere (vertices_at (vertices_of p a) x.function) (last_of p a x.function) x.rest n
  there x n e = next_there (vertices_at (vertices_of p a) x.function) (last_of p a x.function) x.rest n e

  back : (x : Point) (w : Waiting) (ws : List Waiting) → x.callers ≡ w ∷ ws → Stands x → WaitsThere w × AllWait ws
  back x w ws are h = subst AllWait are h.callers

  call_stands : (x : Point) (k : BeginsCall (executable p) x) → NothingMore x → Stands x → Stands (called_to (executable p) x k)
  call_stands x k more h =
      let next = there x _ k.next_is in
      record {
        place = body_place k.function;
        callers = (record { turns = λ v w q. h.place v w (next.turns v w q); pairs = λ v w q. h.place v w (next.pairs v w q) }, h.callers);
      }

  stands_kept : IsKept (executable p) NothingMore Stands
  stands_kept = record {
    moves = λ x k more h. record { place = λ v w q. h.place v w ((there x _ k.next_is).pairs v w q); callers = h.callers };
    acts = λ x k more h. record { place = λ v w q. h.place v w ((there x _ k.next_is).pairs k.value v w q); callers = h.callers };
    begins = call_stands;
    returns = λ x k more h. let b = back x k.caller k.others k.callers_are h in record { place = b.0.pairs; callers = b.1 };
    stores_result = λ x k more h. let b = back x k.caller k.others k.callers_are h in record { place = b.0.pairs; callers = b.1 };
  }

  -- so it is at each point of a run
  pub stands_run : (input : List ℕ) (x : Point) → Reaches (machine (executable p)) (beginning (executable p) input) x → Stands x
  stands_run input x r =
      kept_run (executable p) NothingMore Stands stands_kept (beginning (executable p) input) (λ y before. tt) x r (record { place = body_place (executable p).main; callers = tt })

  -- ---- of the callers that wait

  pub waits_there : (above : List Waiting) (w : Waiting) (below : List Waiting) (cs : List Waiting) → cs ≡ above ++ (w ∷ below) → AllWait cs → WaitsThere w
  waits_there above w below cs e h = in_list above w below (subst AllWait e h)
    where
      in_list : (above : List Waiting) (w : Waiting) (below : List Waiting) → AllWait (above ++ (w ∷ below)) → WaitsThere w
      in_list [] w below h = h.0
      in_list (c ∷ above) w below h = in_list above w below h.1
