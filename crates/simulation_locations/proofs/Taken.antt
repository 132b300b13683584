-- What a function wants from outside has a formal-in.
use Rattle.std.proofs.Common.{◌≡◌, ℕ, zero, suc, ◌+◌, ◌<◌, List, [], ◌∷◌, ◌++◌, length, map, Bool, true, false, ◌&&◌, ◌||◌, Option, Some, inl, inr, refl, sym, ap, ◌∙◌, subst, arith}
use Rattle.std.specs.Prelude.{Contains, slice_get, not, if◌then◌else◌}
use Rattle.std.proofs.lemmas.Bool.{false≢true, and_from}
use Rattle.c_language.proofs.Tests.{by_answer, false_true, by_or}
use Rattle.c_tree.specs.declared.expr.Expr.{Expr}
use Rattle.c_tree.specs.declared.program.Program.{Program}
use Rattle.c_tree.specs.declared.statement.Target.{Target}
use Rattle.dep_model.specs.declared.location.Location.{Location}
use Rattle.dep_model.specs.declared.vertex.Slot.{Slot}
use Rattle.dep_model.specs.declared.vertex.Slot.TheVariants.{Argument, Result, At}
use Rattle.dep_model.specs.declared.vertex.VertexKind.{VertexKind}
use Rattle.dep_model.specs.declared.vertex.VertexKind.TheVariants as kind
use Rattle.dep_model.specs.Denoted.{expr_reads}
use Rattle.dep_model.specs.Doings as doing
use Rattle.dep_model.specs.Doings.{Doing, doing_number, program_doings, doings_of}
use Rattle.dep_model.specs.DoingEffects.{result_of, any_reads, maybe_reads, target_reads, doing_uses}
use Rattle.dep_model.specs.FunctionVertices.{numbers, code_in}
use Rattle.dep_model.specs.ListedLocations.{IsListed}
use Rattle.dep_model.specs.Locations.{TypedLocation, locations, same_location}
use Rattle.c_language.specs.Mains.{is_main_of}
use Rattle.dep_model.specs.MayPoint.{parameters}
use Rattle.dep_model.specs.ModRef.{IsCalledFrom, itself, call, is_outside}
use Rattle.dep_model.specs.SystemGraph.{Analysis, IsAnalysis, vertices_of}
use Rattle.dep_model.specs.VertexOrder.{arguments_from, slots_of, touched, target_slots, result_slots, doing_vertices, doing_at, of_location, slot_places, has_result, statement_uses, actual_uses, out_uses, kind_uses, kind_defines}
use Rattle.dep_model.proofs.Membership.{IsIn, contains_of_in, in_of_contains, in_second, in_either, of_map}
use Rattle.run_facts.proofs.Numbers.{at_number}
use Rattle.simulation_locations.specs.Chained.{HasSoundCalls}
use Rattle.simulation_locations.specs.KeptVertices.{takes_in, takes}
use Rattle.simulation_locations.specs.Wanted.{WantedAt, entered_at}
use Rattle.simulation_locations.proofs.CallVertices.{slot_at, at_slot, number_there, uses_is}
use Rattle.simulation_locations.proofs.FunctionKinds.{StandsAs, as_entry, as_formal_in, as_statement, as_formal_out, stands_as, formal_in_there, kind_of, vertex_of}
use Rattle.simulation_locations.proofs.InFunction.{entered_is, wanted_is_used}
use Rattle.simulation_locations.proofs.KeptNumbers.{passes_any}
use Rattle.simulation_locations.proofs.SameLocations.{location_is, location_itself}

-- a function that is called from one that g calls is called from g
called_on : (p : Program) (g h f i : ℕ) (to : Target) (args : List Expr) → Contains (doings_of p g) (doing.Calls i to h args) → IsCalledFrom p h f → IsCalledFrom p g f
called_on p g h f i to args m itself = call itself m
called_on p g h f i to args m (call c n) = call (called_on p g h _ i to args m c) n

module _ (p : Program) (a : Analysis) (sound : HasSoundCalls p a) (is_analysis : IsAnalysis p a) (g : ℕ) (l : Location) (out : is_outside p l ≡ true) where
  abbrev Touches : ℕ → Type 0
  Touches f = touched p a.effects f l ≡ true

  used_too : a.effects.used g l ≡ true → Touches g
  used_too u = by_answer (a.effects.modified g l) (λ m. ap (λ b. b || a.effects.used g l) m) (λ m. ap (λ b. b || a.effects.used g l) m ∙ u)

  modified_too : a.effects.modified g l ≡ true → Touches g
  modified_too m = ap (λ b. b || a.effects.used g l) m

  -- a statement of the function that may use it
  by_use : (d : Doing) → IsIn (doings_of p g) d → doing_uses p a.points d l ≡ true → Touches g
  by_use d m u =
      used_too ((is_analysis.effects_are.used_are g l).1 (record { function = g; doing = d; called = itself; member = contains_of_in (doings_of p g) d m; used = u; outside = out }))

  -- a function that it calls touches it
  by_callee : (i h : ℕ) (to : Target) (args : List Expr) → IsIn (doings_of p g) (doing.Calls i to h args) → Touches h → Touches g
  by_callee i h to args m t =
      let c = contains_of_in (doings_of p g) (doing.Calls i to h args) m in
      by_or (a.effects.modified h l) (a.effects.used h l) t
      (λ x. let w = (is_analysis.effects_are.modified_are h l).0 x in modified_too ((is_analysis.effects_are.modified_are g l).1 (record { function = w.function; doing = w.doing; called = called_on p g h w.function i to args c w.called; member = w.member; defined = w.defined; outside = w.outside })))
      (λ x. let w = (is_analysis.effects_are.used_are h l).0 x in used_too ((is_analysis.effects_are.used_are g l).1 (record { function = w.function; doing = w.doing; called = called_on p g h w.function i to args c w.called; member = w.member; used = w.used; outside = w.outside })))

  -- a slot of a listed location that passes a test, which is this location
  slot_passes : (test : Location → Bool) (n : ℕ) → IsIn (slots_of p a.effects test) (At n) → slot_places p a.points g (At n) l ≡ true → test l ≡ true
  slot_passes test n m e =
      let w = slot_at test 0 (locations p) (At n) m in
      let from_none : 0 + w.place ≡ w.place = omega arith in
      let same_slot : At (0 + w.place) ≡ At n = w.slot_is in
      let place : w.place ≡ n = sym from_none ∙ number_of (0 + w.place) n same_slot in
      let at : of_location p a.points (Some w.location) l ≡ true = sym (ap (λ (o : Option TypedLocation). of_location p a.points o l) w.at) ∙ (ap (λ (k : ℕ). of_location p a.points (slice_get (locations p) k) l) place ∙ e) in
      subst (λ (x : Location). test x ≡ true) (location_is w.location.location l at) w.passing
    where
      number_of : (x y : ℕ) → At x ≡ At y → x ≡ y
      number_of x y e = cc

  any_of : (args : List Expr) (n : ℕ) → maybe_reads p a.points (slice_get args n) l ≡ true → any_reads p a.points args l ≡ true
  any_of [] n e = absurd (false≢true e)
  any_of (x ∷ args) zero e = ap (λ b. b || any_reads p a.points args l) e
  any_of (x ∷ args) (suc n) e = by_answer (expr_reads p a.points x l) (λ h. ap (λ b. b || any_reads p a.points args l) h) (λ h. ap (λ b. b || any_reads p a.points args l) h ∙ any_of args n e)

  left_too : (b c : Bool) → b ≡ true → (b || c) ≡ true
  left_too true c e = refl
  left_too false c e = absurd (false≢true e)

  right_too : (b c : Bool) → c ≡ true → (b || c) ≡ true
  right_too true c e = refl
  right_too false c e = e

  -- ---- by the kind of vertex that uses it

  statement_touches : (d : Doing) (k : VertexKind) → IsIn (doings_of p g) d → IsIn (doing_vertices p a.effects d) k → kind_uses p a.points g k l ≡ true → Touches g
  statement_touches (doing.Does i x) k m (inl e) u =
      let here : doing_at p g i ≡ Some (doing.Does i x) = at_number p sound.numbered g (doing.Does i x) m in
      let uses : kind_uses p a.points g (kind.Statement i) l ≡ true = subst (λ (q : VertexKind). kind_uses p a.points g q l ≡ true) (sym e) u in
      by_use (doing.Does i x) m (sym (ap (λ (o : Option Doing). statement_uses p a.points o l) here) ∙ uses)
  statement_touches (doing.Does i x) k m (inr h) u = absurd h
  statement_touches (doing.Calls i to h args) k m (inl e) u = absurd (false≢true (subst (λ (q : VertexKind). kind_uses p a.points g q l ≡ true) (sym e) u))
  statement_touches (doing.Calls i to h args) k m (inr j) u =
      let here : doing_at p g i ≡ Some (doing.Calls i to h args) = at_number p sound.numbered g (doing.Calls i to h args) m in
      let ins = arguments_from 0 args ++ slots_of p a.effects (touched p a.effects h) in
      let outs = slots_of p a.effects (a.effects.modified h) ++ target_slots p a.effects to in
      elim (in_either (map (kind.ActualIn i) ins) (map (kind.ActualOut i) outs) k j) [
        | inl x ↦ (
            let w = of_map (kind.ActualIn i) ins k x in
            by_in w.0 w.1 (sym (ap (λ (o : Option Doing). actual_uses p a.points g o w.0 l) here) ∙ subst (λ (q : VertexKind). kind_uses p a.points g q l ≡ true) (sym w.2) u)
            )
        | inr y ↦ (
            let w = of_map (kind.ActualOut i) outs k y in
            by_out w.0 (sym (ap (λ (o : Option Doing). out_uses p a.points o w.0 l) here) ∙ subst (λ (q : VertexKind). kind_uses p a.points g q l ≡ true) (sym w.2) u)
            )
      ]
    where
      no_place : (n x : ℕ) (xs : List Expr) → IsIn (arguments_from x xs) (At n) → ⊥
      no_place n x [] h = h
      no_place n x (y ∷ xs) (inl e) = let q : Argument x ≡ At n = e in absurd cc
      no_place n x (y ∷ xs) (inr h) = no_place n (suc x) xs h

      by_in : (s : Slot) → IsIn (arguments_from 0 args ++ slots_of p a.effects (touched p a.effects h)) s → actual_uses p a.points g (Some (doing.Calls i to h args)) s l ≡ true → Touches g
      by_in (Argument n) q e = by_use (doing.Calls i to h args) m (left_too (any_reads p a.points args l) (target_reads p a.points to l) (any_of args n e))
      by_in Result q e = absurd (false≢true e)
      by_in (At n) q e = elim (in_either (arguments_from 0 args) (slots_of p a.effects (touched p a.effects h)) (At n) q) [
        | inl x ↦ absurd (no_place n 0 args x)
        | inr y ↦ by_callee i h to args m (slot_passes (touched p a.effects h) n y e)
      ]

      by_out : (s : Slot) → out_uses p a.points (Some (doing.Calls i to h args)) s l ≡ true → Touches g
      by_out (Argument n) e = absurd (false≢true e)
      by_out Result e = by_use (doing.Calls i to h args) m (right_too (any_reads p a.points args l) (target_reads p a.points to l) e)
      by_out (At n) e = absurd (false≢true e)

  out_touches : (s : Slot) → IsIn (slots_of p a.effects (a.effects.modified g) ++ result_slots p a.effects g) s → slot_places p a.points g s l ≡ true → Touches g
  out_touches s m e = elim (in_either (slots_of p a.effects (a.effects.modified g)) (result_slots p a.effects g) s m) [
    | inl x ↦ by_slot s x e
    | inr y ↦ of_result s (result_is s y) e
  ]
    where
      by_slot : (s : Slot) → IsIn (slots_of p a.effects (a.effects.modified g)) s → slot_places p a.points g s l ≡ true → Touches g
      by_slot (Argument n) x e = let w = slot_at (a.effects.modified g) 0 (locations p) (Argument n) x in let q : At (0 + w.place) ≡ Argument n = w.slot_is in absurd cc
      by_slot Result x e = let w = slot_at (a.effects.modified g) 0 (locations p) Result x in let q : At (0 + w.place) ≡ Result = w.slot_is in absurd cc
      by_slot (At n) x e = modified_too (slot_passes (a.effects.modified g) n x e)

      result_is : (s : Slot) → IsIn (result_slots p a.effects g) s → Result ≡ s
      result_is s y = in_one (has_result p g && not (is_main_of p g)) y
        where
          in_one : (b : Bool) → IsIn (if b then Result ∷ [] else []) s → Result ≡ s
          in_one true (inl e) = e
          in_one true (inr h) = absurd h
          in_one false h = absurd h

      of_result : (s : Slot) → Result ≡ s → slot_places p a.points g s l ≡ true → Touches g
      of_result s q e =
          let same : result_of g ≡ l = location_is (result_of g) l (ap (λ (t : Slot). slot_places p a.points g t l) q ∙ e) in
          false_true (ap (is_outside p) same ∙ out)

  kind_touches : (k : VertexKind) → StandsAs p a.effects g k → kind_uses p a.points g k l ≡ true → Touches g
  kind_touches k (as_entry e) u = absurd (false≢true (subst (λ (q : VertexKind). kind_uses p a.points g q l ≡ true) (sym e) u))
  kind_touches k (as_formal_in s m e) u = absurd (false≢true (subst (λ (q : VertexKind). kind_uses p a.points g q l ≡ true) (sym e) u))
  kind_touches k (as_statement d) u = statement_touches d.doing k d.member d.has u
  kind_touches k (as_formal_out s m e) u = out_touches s m (subst (λ (q : VertexKind). kind_uses p a.points g q l ≡ true) (sym e) u)

  -- ---- so it has a formal-in

  pub taken : (kept : List Bool) → WantedAt p a kept g l (entered_at p a g (code_in p g)) → g < length p.functions → takes p a g l ≡ true
  taken kept h low =
      let w = wanted_is_used p a g kept l (entered_at p a g (code_in p g)) h (entered_is p a g (code_in p g)) in
      let touches : Touches g = kind_touches w.is_of.kind (stands_as p a.effects g w.is_of.kind (kind_of p a g w.is_of.kind w.vertex w.is_of.is)) (sym (uses_is p a g w.vertex w.is_of.kind l w.is_of.is) ∙ w.used_there) in
      let listed : IsListed p l = by_or (a.effects.modified g l) (a.effects.used g l) touches (λ m. sound.modified_listed g l m) (λ u. sound.used_listed g l u) in
      let o = place_of (locations p) (in_of_contains (map (λ (t : TypedLocation). t.location) (locations p)) l listed) in
      let from_none : 0 + o.0 ≡ o.0 = omega arith in
      let slot : IsIn (slots_of p a.effects (touched p a.effects g)) (At o.0) = subst (λ (m : ℕ). IsIn (slots_of p a.effects (touched p a.effects g)) (At m)) from_none (at_slot (touched p a.effects g) 0 (locations p) o.0 o.1 o.2 (subst (λ (x : Location). touched p a.effects g x ≡ true) (sym o.3) touches)) in
      let inside = formal_in_there p a.effects g (At o.0) (in_second (arguments_from 0 (parameters p g)) (slots_of p a.effects (touched p a.effects g)) (At o.0) slot) in
      let v = vertex_of p a g (kind.FormalIn (At o.0)) low inside in
      let defined : kind_defines p a.points g (kind.FormalIn (At o.0)) l ≡ true = ap (λ (q : Option TypedLocation). of_location p a.points q l) o.2 ∙ (ap (λ (x : Location). same_location x l) o.3 ∙ location_itself l) in
      let test : VertexKind → Bool = (λ k. takes_in (is_outside p l) k && kind_defines p a.points g k l) in
      let passes : takes_in (is_outside p l) (kind.FormalIn (At o.0)) ≡ true = ap (λ (b : Bool). takes_in b (kind.FormalIn (At o.0))) out in
      passes_any (λ (n : ℕ). true) (numbers test g (vertices_of p a)) v.0 (number_there p a test g v.0 (kind.FormalIn (At o.0)) v.1 (and_from (takes_in (is_outside p l) (kind.FormalIn (At o.0))) (kind_defines p a.points g (kind.FormalIn (At o.0)) l) passes defined)) refl
    where
      place_of : (os : List TypedLocation) → IsIn (map (λ (o : TypedLocation). o.location) os) l → (k : ℕ) × (o : TypedLocation) × (slice_get os k ≡ Some o) × (o.location ≡ l)
      place_of [] m = absurd m
      place_of (o ∷ os) (inl e) = (zero, o, refl, e)
      place_of (o ∷ os) (inr m) = let w = place_of os m in (suc w.0, w.1, w.2, w.3)
