-- What is wanted by chains is wanted by the rules of the law on slices, wherever a run stands.
use Rattle.std.proofs.Common.{◌≡◌, ℕ, List, [], ◌∷◌, ◌++◌, Bool, Option, Some, None, refl, ap, ◌∙◌, subst}
use Rattle.c_tree.specs.declared.expr.Expr.{Expr}
use Rattle.c_tree.specs.declared.program.Program.{Program}
use Rattle.c_tree.specs.declared.statement.Target.{Target}
use Rattle.c_language.specs.Code.{Act, Code, End, Opens, Plain, Fork, Loop, Leaves, Call}
use Rattle.c_meaning.specs.Acts.{Made}
use Rattle.c_meaning.specs.Activations.{executable}
use Rattle.c_meaning.specs.Steps.{Waiting, Point}
use Rattle.dep_model.specs.Doings as doing
use Rattle.dep_model.specs.Doings.{Doing, doings_of}
use Rattle.dep_model.specs.Follows.{InTurn}
use Rattle.dep_model.specs.FunctionVertices.{vertices_at}
use Rattle.dep_model.specs.SystemGraph.{Analysis, vertices_of}
use Rattle.dep_model.proofs.Membership.{IsIn}
use Rattle.run_facts.specs.CallTouching.{called_below}
use Rattle.run_facts.specs.Effects.{next_doing}
use Rattle.run_facts.specs.NextSteps.{Next, Ends, Passes, Does, Calls, next_of}
use Rattle.run_facts.proofs.Points.{Waits, AreWaiting, IsSound, sound_run}
use Rattle.run_facts.proofs.Statements.{bodies, next_member}
use Rattle.simulation.specs.Premises.{Wanting}
use Rattle.simulation.specs.Settings.{Setting, Reached}
use Rattle.simulation_locations.specs.Chained.{Counterpart, chained, HasSoundCalls}
use Rattle.simulation_locations.specs.Wanted as wanted
use Rattle.simulation_locations.specs.Wanted.{IsPlaceOf, last_of, entered_at}
use Rattle.simulation_locations.proofs.ActRules.{wanted_before_move, wanted_used, wanted_before_act}
use Rattle.simulation_locations.proofs.CallRules.{wanted_by_argument, wanted_passed_in, wanted_before_call, wanted_before_outs, wanted_without_store, wanted_result_used, wanted_before_store}
use Rattle.simulation_locations.proofs.Formals.{wanted_passed_out}
use Rattle.simulation_locations.proofs.NextPlaces.{CallsThere, next_there}
use Rattle.simulation_locations.proofs.RunPlaces.{WaitsThere, Stands, stands_run, waits_there}
use Rattle.simulation_locations.proofs.Unmodified.{unmodified}

-- ---- what comes next, as a statement of the function

abbrev doing_in : Next → Option Doing
doing_in Ends = None
doing_in (Passes change r) = None
doing_in (Does i a go) = Some (doing.Does i a)
doing_in (Calls i to g args r) = Some (doing.Calls i to g args)

next_is_doing : (c : Code) → next_doing c ≡ doing_in (next_of c)
next_is_doing End = refl
next_is_doing (Opens x r) = refl
next_is_doing (Plain i a r) = refl
next_is_doing (Fork i e b r) = refl
next_is_doing (Loop i e b r) = refl
next_is_doing (Leaves xs r) = refl
next_is_doing (Call i to g args r) = refl

module _ (p : Program) (a : Analysis) (kept : List Bool) (c : Counterpart) (holds : ℕ → Type 0) where
  abbrev s : Setting
  s = chained p a kept c holds

  abbrev Mine : ℕ → Doing → Type 0
  Mine f d = IsIn (doings_of p f) d

  sound : (x : Point) → Reached s x → IsSound (executable p) Mine x
  sound x r = sound_run (executable p) Mine (bodies p) c.input x r

  stands : (x : Point) → Reached s x → Stands p a x
  stands x r = stands_run p a c.input x r

  pub place_there : (x : Point) → Reached s x → IsPlaceOf p a x.function x.rest
  place_there x r = (stands x r).place

  pub does_member : (x : Point) (i : ℕ) (act : Act) (go : Made → Code) → Reached s x → next_of x.rest ≡ Does i act go → IsIn (doings_of p x.function) (doing.Does i act)
  does_member x i act go r e =
      next_member (Mine x.function) x.rest (doing.Does i act) (sound x r).inside (next_is_doing x.rest ∙ ap doing_in e)

  pub calls_member : (x : Point) (i : ℕ) (to : Target) (g : ℕ) (args : List Expr) (q : Code) → Reached s x → next_of x.rest ≡ Calls i to g args q → IsIn (doings_of p x.function) (doing.Calls i to g args)
  calls_member x i to g args q r e =
      next_member (Mine x.function) x.rest (doing.Calls i to g args) (sound x r).inside (next_is_doing x.rest ∙ ap doing_in e)

  -- a caller that waits has a call of the function called
  pub waiting_calls : (x : Point) (above : List Waiting) (w : Waiting) (below : List Waiting) → Reached s x → x.callers ≡ above ++ (w ∷ below) → Waits (executable p) Mine x.state.origins (called_below above x.function) w
  waiting_calls x above w below r e =
      in_list above x.function (subst (λ (cs : List Waiting). AreWaiting (executable p) Mine x.state.origins x.function cs) e (sound x r).callers)
    where
      in_list : (above : List Waiting) (f : ℕ) → AreWaiting (executable p) Mine x.state.origins f (above ++ (w ∷ below)) → Waits (executable p) Mine x.state.origins (called_below above f) w
      in_list [] f h = h.0
      in_list (d ∷ above) f h = in_list above d.function h.1

  pub turns_of : (x : Point) (above : List Waiting) (w : Waiting) (below : List Waiting) → Reached s x → x.callers ≡ above ++ (w ∷ below) → WaitsThere p a w
  turns_of x above w below r e = waits_there p a above w below x.callers e (stands x r).callers

  -- ---- where a call comes next

  call_there : (x : Point) (i : ℕ) (to : Target) (g : ℕ) (args : List Expr) (q : Code) → Reached s x → next_of x.rest ≡ Calls i to g args q → CallsThere (vertices_at (vertices_of p a) x.function) (last_of p a x.function) x.rest (vertices_at (vertices_of p a) x.function i None) q
  call_there x i to g args q r e = next_there (vertices_at (vertices_of p a) x.function) (last_of p a x.function) x.rest (Calls i to g args q) e

  turns_next : (x : Point) (i : ℕ) (to : Target) (g : ℕ) (args : List Expr) (q : Code) → Reached s x → next_of x.rest ≡ Calls i to g args q → (v : ℕ) (w : Option ℕ) → InTurn (vertices_at (vertices_of p a) x.function i None) (entered_at p a x.function q) v w → wanted.Next p a x.function v w
  turns_next x i to g args q r e v w t = (stands x r).place v w ((call_there x i to g args q r e).turns v w t)

  -- ---- the rules

  pub wanting : HasSoundCalls p a → Wanting s
  wanting h = record {
    used = λ x i act go l r e k u. wanted_used p a h.numbered kept x.function x.rest l (stands x r).place i act go e (does_member x i act go r e) k u;
    before_act = λ x i act go v l r e is kills want. wanted_before_act p a h.numbered kept x.function x.rest l (stands x r).place i act go e (does_member x i act go r e) v kills want;
    before_move = λ x change q l r e want. wanted_before_move p a h.numbered kept x.function x.rest l (stands x r).place change q e want;
    argument_used = λ x i to g args q l r e k u.
        let there = call_there x i to g args q r e in
        wanted_by_argument p a h.numbered kept x.function i g to args q (calls_member x i to g args q r e) l x.rest (turns_next x i to g args q r e) there.starts u;
    passed_in = λ x i to g args q l r e k.
        let there = call_there x i to g args q r e in
        wanted_passed_in p a h.numbered kept x.function i g to args q (calls_member x i to g args q r e) l x.rest (turns_next x i to g args q r e) there.starts k;
    before_call = λ x i to g args q l r e want.
        let there = call_there x i to g args q r e in
        wanted_before_call p a h.numbered kept x.function i g to args q (calls_member x i to g args q r e) l x.rest (turns_next x i to g args q r e) there.starts want;
    before_outs = λ x w ws l r e cs none want.
        let k = waiting_calls x [] w ws r cs in
        wanted_before_outs p a h.numbered kept w.function w.call x.function w.target k.args w.rest k.calls l (turns_of x [] w ws r cs).turns none want;
    result_used = λ x w ws l r e cs st kept_result u.
        let k = waiting_calls x [] w ws r cs in
        wanted_result_used p a h.numbered kept w.function w.call x.function w.target k.args w.rest k.calls l (turns_of x [] w ws r cs).turns st kept_result u;
    before_store = λ x w ws l r e cs st kills want.
        let k = waiting_calls x [] w ws r cs in
        wanted_before_store p a h.numbered kept w.function w.call x.function w.target k.args w.rest k.calls l (turns_of x [] w ws r cs).turns st kills want;
    without_store = λ x w ws l r e cs st want.
        let k = waiting_calls x [] w ws r cs in
        wanted_without_store p a h.numbered kept w.function w.call x.function w.target k.args w.rest k.calls l (turns_of x [] w ws r cs).turns st want;
    passed_out = λ x l r e k. wanted_passed_out p a kept x.function l x.rest e k;
    unmodified = λ x above w below l r cs want.
        let k = waiting_calls x above w below r cs in
        unmodified p a h.numbered kept w.function w.call (called_below above x.function) w.target k.args w.rest k.calls l (λ m. h.modified_listed (called_below above x.function) l m) want;
  }
