-- Where a slice stands: at the projection of its original's place, wherever a run stands.
use Rattle.std.proofs.Common.{◌≡◌, ℕ, List, map, Bool, true, refl, ap, ◌∙◌}
use Rattle.std.specs.Prelude.{Contains}
use Rattle.c_tree.specs.declared.expr.Expr.{Expr}
use Rattle.c_tree.specs.declared.program.Program.{Program}
use Rattle.c_tree.specs.declared.statement.Target.{Target}
use Rattle.c_tree.specs.declared.statement.Target.TheVariants as target
use Rattle.c_language.specs.Code.{Act, Code}
use Rattle.c_meaning.specs.Acts.{Made}
use Rattle.c_meaning.specs.Activations.{executable, code_at}
use Rattle.c_meaning.specs.Steps.{Point}
use Rattle.dep_model.specs.Doings as doing
use Rattle.dep_model.specs.Doings.{doings_of}
use Rattle.dep_model.specs.SystemGraph.{Analysis}
use Rattle.dep_model.proofs.Membership.{contains_of_in}
use Rattle.projection.specs.Kept.{Kept, chosen}
use Rattle.projection.specs.Renumbering.{renamed, renamed_target}
use Rattle.run_facts.specs.NextSteps.{Next, Ends, Passes, Does, Calls, next_of, stores}
use Rattle.simulation.specs.Places.{kept_target}
use Rattle.simulation.specs.Premises.{Projected}
use Rattle.simulation.specs.Settings.{Statement, Calling, ResultOut, Setting, Reached}
use Rattle.simulation_locations.specs.Chained.{Counterpart, chained}
use Rattle.simulation_locations.specs.KeptVertices.{keeps_vertex}
use Rattle.simulation_locations.proofs.ChainedRules.{does_member, calls_member}
use Rattle.simulation_places.specs.Counterparts.{counterpart_of, AreProjected}
use Rattle.simulation_places.specs.Laws.{PlacesAreProjected}
use Rattle.simulation_places.specs.ProjectedCode.{Numbering, renamed_act, project_code, IsNested}
use Rattle.simulation_places.proofs.Projecting.{projects_as}
use Rattle.simulation_places.proofs.RunRests.{HoldsAfter, holds_run}

target_stores : (f : ℕ → ℕ) (to : Target) → stores (renamed_target f to) ≡ stores to
target_stores f target.None = refl
target_stores f (target.Place e) = refl
target_stores f (target.Declared x) = refl

module _ (p q : Program) (a : Analysis) (k : Kept ℕ) (new : Numbering) (kept : List Bool) (input : List ℕ) (criterion ranks : ℕ → Bool) (holds : ℕ → Type 0) (h : AreProjected p q a k new kept) where
  abbrev c : Counterpart
  c = counterpart_of q k new input criterion ranks

  abbrev s : Setting
  s = chained p a kept c holds

  -- ---- what is left to do is nested

  abbrev Nested : ℕ → Code → Type 0
  Nested f d = IsNested k new d

  nested_after : (f : ℕ) (d : Code) (n : Next) → next_of d ≡ n → Nested f d → HoldsAfter Nested f n
  nested_after f d Ends e nested = tt
  nested_after f d (Passes change r) e nested = (projects_as k new d (Passes change r) e).nested nested
  nested_after f d (Does i act go) e nested = (projects_as k new d (Does i act go) e).nested nested
  nested_after f d (Calls i to g args r) e nested = (projects_as k new d (Calls i to g args r) e).nested nested

  nested_at : (x : Point) → Reached s x → IsNested k new x.rest
  nested_at x r = (holds_run (executable p) Nested h.nested nested_after input x r).rest

  -- ---- what is kept there

  kept_act : (x : Point) (i : ℕ) (act : Act) (go : Made → Code) → Reached s x → next_of x.rest ≡ Does i act go → k.statement i ≡ keeps_vertex p a kept (Statement x.function i)
  kept_act x i act go r e =
      h.acts x.function i act (contains_of_in (doings_of p x.function) (doing.Does i act) (does_member p a kept c holds x i act go r e))

  module _ (x : Point) (i : ℕ) (to : Target) (g : ℕ) (args : List Expr) (r : Code) (reached : Reached s x) (e : next_of x.rest ≡ Calls i to g args r) where
    abbrev Member : Type 0
    Member = Contains (doings_of p x.function) (doing.Calls i to g args)

    member : Member
    member = contains_of_in (doings_of p x.function) (doing.Calls i to g args) (calls_member p a kept c holds x i to g args r reached e)

    kept_call : k.statement i ≡ keeps_vertex p a kept (Calling x.function i g)
    kept_call = h.calls x.function i g to args member

    kept_result : k.result i ≡ keeps_vertex p a kept (ResultOut x.function i g)
    kept_result = h.results x.function i g to args member

  pub projected : Projected s
  projected = record {
    main_is = h.main_is;
    main_code = ap (code_at (executable q)) h.main_is ∙ h.bodies (executable p).main h.main_kept;
    targets = λ to. target_stores new.variable to;
    ends = λ x r e. projects_as k new x.rest Ends e;
    moves = λ x change q r e m. let t = (projects_as k new x.rest (Passes change q) e).kept m in record { change = t.0; next_is = t.1 };
    skips_move = λ x change q r e m. (projects_as k new x.rest (Passes change q) e).skipped m;
    acts = λ x i act go r e m.
        let t = (projects_as k new x.rest (Does i act go) e).kept (kept_act x i act go r e ∙ m) in
        record { act = renamed_act new.variable act; onward = t.onward; next_is = t.next_is; goes_on = t.goes_on };
    skips_act = λ x i act go v r e m is. (projects_as k new x.rest (Does i act go) e).skipped (kept_act x i act go r e ∙ m) (nested_at x r) v;
    calls = λ x i to g args d r e m.
        let keeps = kept_call x i to g args d r e ∙ m in
        record {
          args = map (renamed new.variable) (chosen (k.argument i) 0 args);
          next_is = (projects_as k new x.rest (Calls i to g args d) e).kept keeps ∙ ap (λ b. Calls (new.statement i) (kept_target b (renamed_target new.variable to)) (new.function g) (map (renamed new.variable) (chosen (k.argument i) 0 args)) (project_code k new d)) (kept_result x i to g args d r e);
          body_is = h.bodies g (h.callees x.function i g to args (member x i to g args d r e) keeps);
        };
    skips_call = λ x i to g args d r e m. (projects_as k new x.rest (Calls i to g args d) e).skipped (kept_call x i to g args d r e ∙ m);
  }

pub places_are_projected : PlacesAreProjected
places_are_projected p q a k new kept input criterion ranks holds h = projected p q a k new kept input criterion ranks (λ f. holds f ≡ true) h
