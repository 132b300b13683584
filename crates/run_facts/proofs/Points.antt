-- Wherever a run stands, what is done next and what waits is of its functions, and names blocks of its variables.
use Rattle.std.proofs.Common.{◌≡◌, ℕ, List, [], ◌∷◌, Option, Some, None, refl, sym, subst}
use Rattle.std.specs.Prelude.{option_and_then, slice_get}
use Rattle.std.specs.Option.{option_map_or}
use Rattle.c_language.proofs.Options.{none_there}
use Rattle.c_tree.specs.declared.expr.Expr.{Expr}
use Rattle.c_language.specs.Code.{Code}
use Rattle.c_meaning.specs.declared.value.Value.{Value}
use Rattle.c_meaning.specs.Values.{Types, Origin, OfVariable, State, eval_all}
use Rattle.c_meaning.specs.Acts.{Made, after}
use Rattle.c_meaning.specs.Activations.{Routine, Executable, code_at, variables_at, types_in, opening, passed, fresh, passed_to, called}
use Rattle.c_meaning.specs.Meaning.{Trace}
use Rattle.c_meaning.specs.Steps.{Reaches, Waiting, Point, point, machine, beginning}
use Rattle.c_meaning.proofs.Origins.{tracked_after}
use Rattle.dep_model.specs.Doings.{Doing, Calls}
use Rattle.run_facts.specs.Effects.{parameters_at, back_in}
use Rattle.run_facts.specs.KeptCells.{Leads}
use Rattle.run_facts.specs.StepKinds.{Change, Opened, Closed, changed, MovesOn, DoesAct, BeginsCall, ReturnsStoring, moved_to, acted_to, called_to, returned_storing}
use Rattle.run_facts.proofs.Blocks.{Grows, grows_by, grows_after, AreNamed, named_grown, IsPlaced, placed_opened, grows_closed, placed_closed, placed_opening, ArePassed, passed_placed}
use Rattle.run_facts.proofs.CodeDoings.{Each, each_next}
use Rattle.run_facts.proofs.StepKinds.{IsKept, kept_step, kept_run}

-- ---- states

pub placed_changed : (c : Change) (types : Types) (s : State) → IsPlaced s → IsPlaced (changed c types s)
placed_changed (Opened x) types s h = placed_opened types x s h
placed_changed (Closed xs) types s h = placed_closed xs s h

pub grows_changed : (c : Change) (types : Types) (s : State) → Grows s.origins (changed c types s).origins
grows_changed (Opened x) types s = grows_by s.origins (OfVariable x ∷ [])
grows_changed (Closed xs) types s = grows_closed xs s

placed_after : (i : ℕ) (m : Made) (s : State) → IsPlaced s → IsPlaced (after i m s)
placed_after i m s h = record { tracked = tracked_after i m s h.tracked; named = named_grown s.frame s.origins (after i m s).origins (grows_after i m.begun s.origins) h.named }

-- a caller's state once its call is done
pub placed_resumed : (p : Executable) (g : ℕ) (w : Waiting) (s : State) → IsPlaced s → AreNamed w.frame s.origins → IsPlaced (back_in p g w s)
placed_resumed p g w s placed named =
    let closed = placed_closed (variables_at p g) s placed in
    record { tracked = closed.tracked; named = named_grown w.frame s.origins (back_in p g w s).origins (grows_closed (variables_at p g) s) named }

module _ (p : Executable) (f : ℕ) (s : State) (placed : IsPlaced s) (globals : AreNamed (opening p []).frame s.origins) where
  fresh_placed : IsPlaced (fresh p s)
  fresh_placed = record { tracked = placed.tracked; named = globals }

  -- where a call of g begins, its parameters have their blocks
  pub called_passed : (g : ℕ) (args : List Expr) (c : State) → called p f g args s ≡ Some c → ArePassed p (parameters_at p g) (fresh p s) c
  called_passed g args c q = by_routine (slice_get p.functions g) refl q
    where
      by_values : (r : Routine) (o : Option (List Value)) → option_and_then (λ (vs : List Value). passed p r.params vs (fresh p s)) o ≡ Some c → ArePassed p r.params (fresh p s) c
      by_values r None q = none_there q
      by_values r (Some vs) q = passed_placed p r.params vs (fresh p s) c fresh_placed q

      by_routine : (o : Option Routine) → slice_get p.functions g ≡ o → option_and_then (passed_to p f args s) o ≡ Some c → ArePassed p (parameters_at p g) (fresh p s) c
      by_routine None is q = none_there q
      by_routine (Some r) is q =
          subst (λ u. ArePassed p (option_map_or (λ (k : Routine). k.params) u []) (fresh p s) c) (sym is) (by_values r (eval_all (types_in p f) args s) q)

-- ---- points

-- P holds of the acts and calls of each function
module _ (p : Executable) (P : ℕ → Doing → Type 0) where
  -- a caller that waits for function g
  pub record Waits (os : List Origin) (g : ℕ) (w : Waiting) : Type 0 where
    pub inside : Each (P w.function) w.rest
    pub named : AreNamed w.frame os
    pub args : List Expr
    pub calls : P w.function (Calls w.call w.target g args)

  abbrev pub AreWaiting : List Origin → ℕ → List Waiting → Type 0
  AreWaiting os g [] = Unit {0}
  AreWaiting os g (w ∷ ws) = Waits os g w × AreWaiting os w.function ws

  pub record IsSound (x : Point) : Type 0 where
    pub inside : Each (P x.function) x.rest
    pub placed : IsPlaced x.state
    pub globals : AreNamed (opening p []).frame x.state.origins
    pub callers : AreWaiting x.state.origins x.function x.callers

  waiting_grown : (os ps : List Origin) (g : ℕ) (ws : List Waiting) → Grows os ps → AreWaiting os g ws → AreWaiting ps g ws
  waiting_grown os ps g [] more h = tt
  waiting_grown os ps g (w ∷ ws) more h =
      (record { inside = h.0.inside; named = named_grown w.frame os ps more h.0.named; args = h.0.args; calls = h.0.calls }, waiting_grown os ps w.function ws more h.1)

  -- a point is sound once more in a state whose origins have grown
  sound_grown : (f : ℕ) (c : Code) (s t : State) (ws : List Waiting) (a : Trace) → Each (P f) c → IsPlaced t → Grows s.origins t.origins → AreNamed (opening p []).frame s.origins → AreWaiting s.origins f ws → IsSound (point f c t ws a)
  sound_grown f c s t ws a inside placed more globals callers =
      record { inside = inside; placed = placed; globals = named_grown (opening p []).frame s.origins t.origins more globals; callers = waiting_grown s.origins t.origins f ws more callers }

  -- ---- steps

  module _ (bodies : (g : ℕ) → Each (P g) (code_at p g)) where
    abbrev NothingMore : Point → Type 0
    NothingMore x = Unit {0}

    move_sound : (x : Point) (k : MovesOn p x) → NothingMore x → IsSound x → IsSound (moved_to p x k)
    move_sound x k more h =
        sound_grown x.function k.rest x.state _ x.callers x.trace (each_next (P x.function) x.rest _ k.next_is h.inside) (placed_changed k.change (types_in p x.function) x.state h.placed) (grows_changed k.change (types_in p x.function) x.state) h.globals h.callers

    act_sound : (x : Point) (k : DoesAct p x) → NothingMore x → IsSound x → IsSound (acted_to p x k)
    act_sound x k more h =
        let next = each_next (P x.function) x.rest _ k.next_is h.inside in
        sound_grown x.function (k.go k.value) x.state (after k.statement k.value x.state) x.callers _ (next.1 k.value) (placed_after k.statement k.value x.state h.placed) (grows_after k.statement k.value.begun x.state.origins) h.globals h.callers

    call_sound : (x : Point) (k : BeginsCall p x) → NothingMore x → IsSound x → IsSound (called_to p x k)
    call_sound x k more h =
        let next = each_next (P x.function) x.rest _ k.next_is h.inside in
        let c = called_passed p x.function x.state h.placed h.globals k.function k.args k.begun k.called_is in
        record {
          inside = bodies k.function;
          placed = c.placed;
          globals = named_grown (opening p []).frame x.state.origins k.begun.origins c.grows h.globals;
          callers = (record { inside = next.1; named = named_grown x.state.frame x.state.origins k.begun.origins c.grows h.placed.named; args = k.args; calls = next.0 }, waiting_grown x.state.origins k.begun.origins x.function x.callers c.grows h.callers);
        }

    -- a caller goes on in its state
    back_sound : (x : Point) (w : Waiting) (ws : List Waiting) → x.callers ≡ w ∷ ws → IsSound x → IsSound (point w.function w.rest (back_in p x.function w x.state) ws x.trace)
    back_sound x w ws are h =
        let back = back_in p x.function w x.state in
        let more = grows_closed (variables_at p x.function) x.state in
        let waits = subst (AreWaiting x.state.origins x.function) are h.callers in
        record {
          inside = waits.0.inside;
          placed = placed_resumed p x.function w x.state h.placed waits.0.named;
          globals = named_grown (opening p []).frame x.state.origins back.origins more h.globals;
          callers = waiting_grown x.state.origins back.origins w.function ws more waits.1;
        }

    store_sound : (x : Point) (k : ReturnsStoring p x) → NothingMore x → IsSound x → IsSound (returned_storing p x k)
    store_sound x k more h =
        let back = back_in p x.function k.caller x.state in
        let went = back_sound x k.caller k.others k.callers_are h in
        sound_grown k.caller.function k.caller.rest back (after k.caller.call k.value back) k.others _ went.inside (placed_after k.caller.call k.value back went.placed) (grows_after k.caller.call k.value.begun back.origins) went.globals went.callers

    sound_kept : IsKept p NothingMore IsSound
    sound_kept = record {
      moves = move_sound;
      acts = act_sound;
      begins = call_sound;
      returns = λ x k more h. back_sound x k.caller k.others k.callers_are h;
      stores_result = store_sound;
    }

    pub sound_step : (x y : Point) → Leads p x y → IsSound x → IsSound y
    sound_step x y leads h = kept_step p NothingMore IsSound sound_kept x y leads tt h

    pub sound_run : (input : List ℕ) (x : Point) → Reaches (machine p) (beginning p input) x → IsSound x
    sound_run input x r =
        kept_run p NothingMore IsSound sound_kept (beginning p input) (λ y before. tt) x r (record { inside = bodies p.main; placed = placed_opening p input; globals = (placed_opening p []).named; callers = tt })
