-- The list of a program's locations is that of the parts of its objects, behind the input.
use Rattle.std.proofs.Common.{◌≡◌, ℕ, suc, ◌+◌, ◌<◌, ◌≤◌, List, [], ◌∷◌, ◌++◌, length, map, drop, get_or, Option, Some, None, refl, sym, ap, ap₂, ◌∙◌, arith, length-append, append_assoc}
use Rattle.std.proofs.Math.Seq.{drop-cons}
use Rattle.std.proofs.lemmas.List.{length-map, map-append}
use Rattle.c_tree.specs.declared.program.Function.{Function}
use Rattle.c_tree.specs.declared.program.Program.{Program}
use Rattle.c_tree.specs.declared.program.Var.{Var}
use Rattle.c_tree.specs.declared.types.CType.{CType}
use Rattle.c_language.specs.TreeTypes.{shape_of}
use Rattle.c_language.specs.declared.expr_type.ExprType.{ExprType}
use Rattle.dep_model.specs.DoingEffects.{the_input}
use Rattle.dep_model.specs.Locations.{Located, Heap, TypedLocation, placed, parts, rooted, variable_locations, site_locations, result_parts, result_locations, function_heaps}
use Rattle.dep_model.specs.LocationLists.{location_list}
use Rattle.dep_model.specs.LocationObjects.{placed_under, variable_objects, site_objects, result_object, result_objects, objects, object_locations, locations_of}
use Rattle.dep_model.specs.declared.location.Location.{Location}
use Rattle.dep_model.specs.declared.location.Root.{Root}
use Rattle.dep_model.specs.declared.location.Root.TheVariants.{Variable, Site, Result}
use Rattle.dep_model.specs.declared.locations.objects.Object.{Object}
use Rattle.dep_model.proofs.LocationParts.{at_least_one}

abbrev alone : TypedLocation → Location
alone o = o.location

module _ (p : Program) where
  pub locations_of-append : (os more : List Object) → locations_of p (os ++ more) ≡ locations_of p os ++ locations_of p more
  locations_of-append [] more = refl
  locations_of-append (o ∷ os) more =
      ap (λ (ls : List Location). object_locations p o ++ ls) (locations_of-append os more) ∙ sym (append_assoc (object_locations p o) (locations_of p os) (locations_of p more))

  placed_alone : (r : Root) (os : List Located) → map alone (map (placed r) os) ≡ map (placed_under r []) os
  placed_alone r [] = refl
  placed_alone r (o ∷ os) = ap (λ (ls : List Location). placed_under r [] o ∷ ls) (placed_alone r os)

  first_alone : (r : Root) (t : ExprType) (more : List TypedLocation) (ls : List Location) → map alone more ≡ ls
      → map alone (rooted p r t ++ more) ≡ map (placed_under r []) (parts p t) ++ ls
  first_alone r t more ls e = map-append alone (rooted p r t) more ∙ ap₂ (λ (a b : List Location). a ++ b) (placed_alone r (parts p t)) e

  variables_alone : (x : ℕ) (vs : List Var) → map alone (variable_locations p x vs) ≡ locations_of p (variable_objects x vs)
  variables_alone x [] = refl
  variables_alone x (v ∷ vs) = first_alone (Variable x) (shape_of v.shape) (variable_locations p (suc x) vs) (locations_of p (variable_objects (suc x) vs)) (variables_alone (suc x) vs)

  sites_alone : (hs : List Heap) → map alone (site_locations p hs) ≡ locations_of p (site_objects hs)
  sites_alone [] = refl
  sites_alone (h ∷ hs) = first_alone (Site h.id) h.elements (site_locations p hs) (locations_of p (site_objects hs)) (sites_alone hs)

  result_alone : (k : ℕ) (t : Option CType) (more : List TypedLocation) (os : List Object) → map alone more ≡ locations_of p os
      → map alone (result_parts p k t ++ more) ≡ locations_of p (result_object k t ++ os)
  result_alone k None more os e = e
  result_alone k (Some t) more os e = first_alone (Result k) (shape_of t) more (locations_of p os) e

  results_alone : (k : ℕ) (fs : List Function) → map alone (result_locations p k fs) ≡ locations_of p (result_objects k fs)
  results_alone k [] = refl
  results_alone k (f ∷ fs) = result_alone k f.result (result_locations p (suc k) fs) (result_objects (suc k) fs) (results_alone (suc k) fs)

  pub listed_objects : location_list p ≡ the_input ∷ locations_of p (objects p)
  listed_objects =
      let vs = variable_objects 0 p.vars in
      let hs = site_objects (function_heaps p p.functions) in
      let rs = result_objects 0 p.functions in
      let sited = site_locations p (function_heaps p p.functions) in
      let given = result_locations p 0 p.functions in
      ap (λ (ls : List Location). the_input ∷ ls)
      (map-append alone (variable_locations p 0 p.vars) (sited ++ given)
      ∙ ap₂ (λ (a b : List Location). a ++ b) (variables_alone 0 p.vars)
      (map-append alone sited given ∙ ap₂ (λ (a b : List Location). a ++ b) (sites_alone (function_heaps p p.functions)) (results_alone 0 p.functions)
      ∙ sym (locations_of-append hs rs))
      ∙ sym (locations_of-append vs (hs ++ rs)))

  variables_fewer : (x : ℕ) (vs : List Var) → length vs ≤ length (locations_of p (variable_objects x vs))
  variables_fewer x [] = omega arith
  variables_fewer x (v ∷ vs) =
      let o : Object = record { root = Variable x; shape = shape_of v.shape } in
      let l = length-append (object_locations p o) (locations_of p (variable_objects (suc x) vs)) in
      let some : 1 ≤ length (parts p o.shape) = at_least_one _ _ _ in
      let n = length-map (parts p o.shape) (placed_under (Variable x) []) in
      omega (arith, variables_fewer (suc x) vs, l, some, n)

  -- each variable has a location, beside the input
  pub more_than_variables : length p.vars < length (location_list p)
  more_than_variables =
      let whole = ap (λ (ls : List Location). length ls) listed_objects in
      let rest = site_objects (function_heaps p p.functions) ++ result_objects 0 p.functions in
      let split = ap (λ (ls : List Location). length ls) (locations_of-append (variable_objects 0 p.vars) rest) in
      let l = length-append (locations_of p (variable_objects 0 p.vars)) (locations_of p rest) in
      omega (arith, whole, split, l, variables_fewer 0 p.vars)

  -- one object has no more locations than all
  pub object_within : (os : List Object) (i : ℕ) (o : Object) → i < length os → o ≡ get_or os i o
      → length (object_locations p o) + length (locations_of p (drop (i + 1) os)) ≡ length (locations_of p (drop i os))
  object_within os i o h is =
      let here : drop i os ≡ o ∷ drop (suc i) os = drop-cons os i o h ∙ ap (λ (x : Object). x ∷ drop (suc i) os) (sym is) in
      let l = length-append (object_locations p o) (locations_of p (drop (suc i) os)) in
      let next : i + 1 ≡ suc i = omega arith in
      ap (λ (k : ℕ). length (object_locations p o) + length (locations_of p (drop k os))) next ∙ sym l ∙ sym (ap (λ (xs : List Object). length (locations_of p xs)) here)
