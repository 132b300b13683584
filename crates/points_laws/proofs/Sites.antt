-- The site of each statement that allocates is listed.
use Rattle.std.proofs.Common.{◌≡◌, ℕ, zero, suc, List, [], ◌∷◌, ◌++◌, map, ◌⊎◌, inl, inr, refl, sym, subst}
use Rattle.std.specs.Prelude.{Contains, slice_get}
use Rattle.std.specs.Option.{option_map_or}
use Rattle.rule_closure.proofs.ListLemmas.{contains_none, contains_cases}
use Rattle.c_tree.specs.declared.program.Function.{Function}
use Rattle.c_tree.specs.declared.program.Program.{Program}
use Rattle.c_tree.specs.declared.statement.Amount.{Amount}
use Rattle.c_tree.specs.declared.statement.Target.{Target}
use Rattle.c_language.specs.Code.{Allocates}
use Rattle.dep_model.specs.declared.location.Root.TheVariants.{Site}
use Rattle.dep_model.specs.Doings.{Doing, Does, body_doings, doings_of}
use Rattle.dep_model.specs.ListedLocations.{IsListed}
use Rattle.dep_model.specs.Locations.{TypedLocation, Heap, locations, rooted, variable_locations, site_locations, result_locations, doing_heaps, heaps, function_heaps}
use Rattle.dep_model.specs.MayPoint.{site}
use Rattle.dep_model.specs.declared.location.Location.{Location}
use Rattle.dep_model.proofs.Membership.{IsIn, contains_of_in}
use Rattle.numbered_texts.proofs.Listed.{has_first, has_second, rooted_has}

-- one of some calls of malloc is of this statement
abbrev IsHeapOf : ℕ → List Heap → Type 0
IsHeapOf i [] = ⊥
IsHeapOf i (h ∷ hs) = (h.id ≡ i) ⊎ IsHeapOf i hs

heap_first : (i : ℕ) (hs gs : List Heap) → IsHeapOf i hs → IsHeapOf i (hs ++ gs)
heap_first i [] gs h = absurd h
heap_first i (x ∷ hs) gs (inl e) = inl e
heap_first i (x ∷ hs) gs (inr h) = inr (heap_first i hs gs h)

heap_second : (i : ℕ) (hs gs : List Heap) → IsHeapOf i gs → IsHeapOf i (hs ++ gs)
heap_second i [] gs h = h
heap_second i (x ∷ hs) gs h = inr (heap_second i hs gs h)

abbrev Has : List TypedLocation → Location → Type 0
Has os l = IsIn (map (λ (o : TypedLocation). o.location) os) l

module _ (p : Program) where
  heaps_have : (i : ℕ) (ds : List Doing) (d : Doing) → Contains ds d → IsHeapOf i (doing_heaps p d) → IsHeapOf i (heaps p ds)
  heaps_have i [] d c h = absurd (contains_none d c)
  heaps_have i (x ∷ ds) d c h = elim (contains_cases x ds d c) [
    | inl same ↦ heap_first i (doing_heaps p x) (heaps p ds) (subst (λ y. IsHeapOf i (doing_heaps p y)) (sym same) h)
    | inr later ↦ heap_second i (doing_heaps p x) (heaps p ds) (heaps_have i ds d later h)
  ]

  functions_have : (i : ℕ) (fs : List Function) (f : ℕ) (d : Doing) → Contains (option_map_or (λ (g : Function). body_doings g.body) (slice_get fs f) []) d → IsHeapOf i (doing_heaps p d) → IsHeapOf i (function_heaps p fs)
  functions_have i [] f d c h = absurd (contains_none d c)
  functions_have i (g ∷ fs) zero d c h = heap_first i (heaps p (body_doings g.body)) (function_heaps p fs) (heaps_have i (body_doings g.body) d c h)
  functions_have i (g ∷ fs) (suc f) d c h = heap_second i (heaps p (body_doings g.body)) (function_heaps p fs) (functions_have i fs f d c h)

  sites_have : (i : ℕ) (hs : List Heap) → IsHeapOf i hs → Has (site_locations p hs) (site i)
  sites_have i [] h = absurd h
  sites_have i (x ∷ hs) (inl e) =
      has_first p (rooted p (Site x.id) x.elements) (site_locations p hs) (site i) (subst (λ k. Has (rooted p (Site x.id) x.elements) (site k)) e (rooted_has p (Site x.id) x.elements))
  sites_have i (x ∷ hs) (inr h) = has_second p (rooted p (Site x.id) x.elements) (site_locations p hs) (site i) (sites_have i hs h)

  pub site_listed : (f i : ℕ) (to : Target) (k : Amount) → Contains (doings_of p f) (Does i (Allocates to k)) → IsListed p (site i)
  site_listed f i to k c =
      let heap = functions_have i p.functions f (Does i (Allocates to k)) c (inl refl) in
      let here = sites_have i (function_heaps p p.functions) heap in
      let behind = has_first p (site_locations p (function_heaps p p.functions)) (result_locations p 0 p.functions) (site i) here in
      contains_of_in (map (λ (o : TypedLocation). o.location) (locations p)) (site i)
      (inr (has_second p (variable_locations p 0 p.vars) (site_locations p (function_heaps p p.functions) ++ result_locations p 0 p.functions) (site i) behind))
