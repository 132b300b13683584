-- What a function returns is wanted in that function alone.
use Rattle.std.proofs.Common.{◌≡◌, ℕ, suc, ◌+◌, List, [], ◌∷◌, ◌++◌, map, Option, Some, None, Bool, true, false, inl, inr, refl, sym, ap, ◌∙◌, subst, arith}
use Rattle.std.specs.Prelude.{slice_get, if◌then◌else◌}
use Rattle.std.specs.List.{range_with_len}
use Rattle.std.proofs.lemmas.Bool.{false≢true, or_cases}
use Rattle.c_tree.specs.declared.expr.Expr.{Expr}
use Rattle.c_tree.specs.declared.program.Program.{Program}
use Rattle.c_tree.specs.declared.statement.Target.{Target}
use Rattle.c_language.specs.Code.{Act, Code}
use Rattle.c_language.specs.Programs.{IsWellFormed}
use Rattle.dep_model.specs.declared.location.Location.{Location}
use Rattle.dep_model.specs.declared.location.Root.{Root}
use Rattle.dep_model.specs.declared.location.Root.TheVariants.{Input, Variable, Site, Result}
use Rattle.dep_model.specs.declared.vertex.Slot.{Slot}
use Rattle.dep_model.specs.declared.vertex.Slot.TheVariants as slot
use Rattle.dep_model.specs.declared.vertex.VertexKind.{VertexKind}
use Rattle.dep_model.specs.declared.vertex.VertexKind.TheVariants as kind
use Rattle.dep_model.specs.Doings as doing
use Rattle.dep_model.specs.Doings.{Doing, doing_number, program_doings, doings_of}
use Rattle.dep_model.specs.DoingEffects.{the_input, result_of, maybe_reads, target_reads, act_uses}
use Rattle.dep_model.specs.Locations.{TypedLocation, locations, same_location}
use Rattle.dep_model.specs.MayPoint.{parameters}
use Rattle.dep_model.specs.SystemGraph.{Analysis, IsAnalysis}
use Rattle.dep_model.specs.VertexOrder.{arguments_from, slots_of, touched, target_slots, result_slots, doing_vertices, doing_at, of_location, of_parameter, slot_places, statement_uses, actual_uses, out_uses, kind_uses}
use Rattle.dep_model.proofs.Membership.{IsIn, in_either, of_map}
use Rattle.points_laws.specs.Laws.{is_pointed_root}
use Rattle.points_laws.proofs.KnownSides.{sides_known}
use Rattle.points_laws.proofs.TakenTargets.{targets_taken}
use Rattle.run_facts.proofs.Numbers.{at_number}
use Rattle.simulation.specs.Places.{At}
use Rattle.simulation_locations.specs.Wanted.{entered_at, IsWanted}
use Rattle.simulation_locations.proofs.CallVertices.{slot_at, uses_is}
use Rattle.simulation_locations.proofs.FunctionKinds.{StandsAs, as_entry, as_formal_in, as_statement, as_formal_out, stands_as, kind_of}
use Rattle.simulation_locations.proofs.InFunction.{entered_is, wanted_is_used}
use Rattle.simulation_locations.proofs.SameLocations.{location_is}
use Rattle.simulation_steps.proofs.ObjectPlaces.{is_object, whole_objects, maybe_objects, found_objects, act_objects}

module _ (p : Program) (a : Analysis) (numbered : map doing_number (program_doings p) ≡ range_with_len 0 p.statements) (analysed : IsAnalysis p a) (well : IsWellFormed p) (f g : ℕ) where
  abbrev l : Location
  l = result_of g

  -- what is pointed to lies in a site, or in a variable
  object_of : (r : Root) → is_pointed_root p r ≡ true → is_object r ≡ true
  object_of Input h = absurd (false≢true h)
  object_of (Variable x) h = refl
  object_of (Site i) h = refl
  object_of (Result k) h = absurd (false≢true h)

  pairs : (k m : Location) → a.points k m ≡ true → is_object m.root ≡ true
  pairs k m h = object_of m.root (targets_taken p (sides_known p well).globals k m ((analysed.points_are k m).0 h))

  -- ---- expressions and acts

  argument_none : (args : List Expr) (n : ℕ) → maybe_reads p a.points (slice_get args n) l ≡ true → ⊥
  argument_none args n e = false≢true (maybe_objects p a.points pairs (slice_get args n) l e)

  target_none : (to : Target) → target_reads p a.points to l ≡ true → ⊥
  target_none to e = false≢true (found_objects p a.points pairs to l e)

  no_input : same_location the_input l ≡ true → ⊥
  no_input e =
      let roots : ◌≡◌ {A = Root} Input (Result g) = ap (λ (o : Location). o.root) (location_is the_input l e) in
      absurd cc

  act_none : (act : Act) → act_uses p a.points act l ≡ true → ⊥
  act_none act e = elim (act_objects p a.points pairs act l e) [ inl h ↦ no_input h | inr h ↦ false≢true h ]

  -- ---- locations that functions touch

  modified_none : (h : ℕ) → a.effects.modified h l ≡ true → ⊥
  modified_none h e = false≢true ((analysed.effects_are.modified_are h l).0 e).outside

  touched_none : (h : ℕ) → touched p a.effects h l ≡ true → ⊥
  touched_none h e = elim (or_cases (a.effects.modified h l) (a.effects.used h l) e) [
    | inl m ↦ modified_none h m
    | inr u ↦ false≢true ((analysed.effects_are.used_are h l).0 u).outside
  ]

  slot_passes : (test : Location → Bool) (n : ℕ) → IsIn (slots_of p a.effects test) (slot.At n) → slot_places p a.points f (slot.At n) l ≡ true → test l ≡ true
  slot_passes test n m e =
      let w = slot_at test 0 (locations p) (slot.At n) m in
      let from_none : 0 + w.place ≡ w.place = omega arith in
      let place : w.place ≡ n = sym from_none ∙ number_of (0 + w.place) n w.slot_is in
      let at : of_location p a.points (Some w.location) l ≡ true = sym (ap (λ (o : Option TypedLocation). of_location p a.points o l) w.at) ∙ (ap (λ (k : ℕ). of_location p a.points (slice_get (locations p) k) l) place ∙ e) in
      subst (λ (x : Location). test x ≡ true) (location_is w.location.location l at) w.passing
    where
      number_of : (x y : ℕ) → slot.At x ≡ slot.At y → x ≡ y
      number_of x y e = cc

  -- ---- by the kind of vertex that uses it

  no_place : (n x : ℕ) (xs : List Expr) → IsIn (arguments_from x xs) (slot.At n) → ⊥
  no_place n x [] h = h
  no_place n x (y ∷ xs) (inl e) = let q : slot.Argument x ≡ slot.At n = e in absurd cc
  no_place n x (y ∷ xs) (inr h) = no_place n (suc x) xs h

  module _ (i h : ℕ) (to : Target) (args : List Expr) where
    by_in : (s : Slot) → IsIn (arguments_from 0 args ++ slots_of p a.effects (touched p a.effects h)) s → actual_uses p a.points f (Some (doing.Calls i to h args)) s l ≡ true → ⊥
    by_in (slot.Argument n) m e = argument_none args n e
    by_in slot.Result m e = false≢true e
    by_in (slot.At n) m e = elim (in_either (arguments_from 0 args) (slots_of p a.effects (touched p a.effects h)) (slot.At n) m) [
      | inl x ↦ no_place n 0 args x
      | inr y ↦ touched_none h (slot_passes (touched p a.effects h) n y e)
    ]

    by_out : (s : Slot) → out_uses p a.points (Some (doing.Calls i to h args)) s l ≡ true → ⊥
    by_out (slot.Argument n) e = false≢true e
    by_out slot.Result e = target_none to e
    by_out (slot.At n) e = false≢true e

  statement_none : (d : Doing) (k : VertexKind) → IsIn (doings_of p f) d → IsIn (doing_vertices p a.effects d) k → kind_uses p a.points f k l ≡ true → ⊥
  statement_none (doing.Does i x) k m (inl e) u =
      let here : doing_at p f i ≡ Some (doing.Does i x) = at_number p numbered f (doing.Does i x) m in
      let uses : kind_uses p a.points f (kind.Statement i) l ≡ true = subst (λ (q : VertexKind). kind_uses p a.points f q l ≡ true) (sym e) u in
      act_none x (sym (ap (λ (o : Option Doing). statement_uses p a.points o l) here) ∙ uses)
  statement_none (doing.Does i x) k m (inr h) u = h
  statement_none (doing.Calls i to h args) k m (inl e) u = false≢true (subst (λ (q : VertexKind). kind_uses p a.points f q l ≡ true) (sym e) u)
  statement_none (doing.Calls i to h args) k m (inr j) u =
      let here : doing_at p f i ≡ Some (doing.Calls i to h args) = at_number p numbered f (doing.Calls i to h args) m in
      let ins = arguments_from 0 args ++ slots_of p a.effects (touched p a.effects h) in
      let outs = slots_of p a.effects (a.effects.modified h) ++ target_slots p a.effects to in
      elim (in_either (map (kind.ActualIn i) ins) (map (kind.ActualOut i) outs) k j) [
        | inl x ↦ (
            let w = of_map (kind.ActualIn i) ins k x in
            by_in i h to args w.0 w.1 (sym (ap (λ (o : Option Doing). actual_uses p a.points f o w.0 l) here) ∙ subst (λ (q : VertexKind). kind_uses p a.points f q l ≡ true) (sym w.2) u)
            )
        | inr y ↦ (
            let w = of_map (kind.ActualOut i) outs k y in
            by_out i h to args w.0 (sym (ap (λ (o : Option Doing). out_uses p a.points o w.0 l) here) ∙ subst (λ (q : VertexKind). kind_uses p a.points f q l ≡ true) (sym w.2) u)
            )
      ]

  parameter_none : (o : Option ℕ) → of_parameter p a.points o l ≡ true → ⊥
  parameter_none None e = false≢true e
  parameter_none (Some x) e = false≢true (whole_objects x l e)

  same_number : (x y : ℕ) → result_of x ≡ result_of y → x ≡ y
  same_number x y e = let roots : ◌≡◌ {A = Root} (Result x) (Result y) = ap (λ (o : Location). o.root) e in cc

  out_its : (s : Slot) → IsIn (slots_of p a.effects (a.effects.modified f) ++ result_slots p a.effects f) s → slot_places p a.points f s l ≡ true → g ≡ f
  out_its (slot.Argument n) m e = absurd (parameter_none (slice_get (parameters p f) n) e)
  out_its slot.Result m e = sym (same_number f g (location_is (result_of f) l e))
  out_its (slot.At n) m e = elim (in_either (slots_of p a.effects (a.effects.modified f)) (result_slots p a.effects f) (slot.At n) m) [
    | inl x ↦ absurd (modified_none f (slot_passes (a.effects.modified f) n x e))
    | inr y ↦ absurd (no_result_slot y)
  ]
    where
      no_result_slot : IsIn (result_slots p a.effects f) (slot.At n) → ⊥
      no_result_slot y = in_one _ y
        where
          in_one : (b : Bool) → IsIn (if b then slot.Result ∷ [] else []) (slot.At n) → ⊥
          in_one true (inl e) = let q : slot.Result ≡ slot.At n = e in absurd cc
          in_one true (inr h) = h
          in_one false h = h

  kind_its : (k : VertexKind) → StandsAs p a.effects f k → kind_uses p a.points f k l ≡ true → g ≡ f
  kind_its k (as_entry e) u = absurd (false≢true (subst (λ (q : VertexKind). kind_uses p a.points f q l ≡ true) (sym e) u))
  kind_its k (as_formal_in s m e) u = absurd (false≢true (subst (λ (q : VertexKind). kind_uses p a.points f q l ≡ true) (sym e) u))
  kind_its k (as_statement d) u = absurd (statement_none d.doing k d.member d.has u)
  kind_its k (as_formal_out s m e) u = out_its s m (subst (λ (q : VertexKind). kind_uses p a.points f q l ≡ true) (sym e) u)

  pub result_wanted : (kept : List Bool) (c : Code) → IsWanted p a kept l (At f c) → g ≡ f
  result_wanted kept c h =
      let w = wanted_is_used p a f kept l (entered_at p a f c) h (entered_is p a f c) in
      kind_its w.is_of.kind (stands_as p a.effects f w.is_of.kind (kind_of p a f w.is_of.kind w.vertex w.is_of.is)) (sym (uses_is p a f w.vertex w.is_of.kind l w.is_of.is) ∙ w.used_there)
