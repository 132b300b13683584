-- Which kinds of vertices a function has, and that each of these has a vertex.
use Rattle.std.proofs.Common.{◌≡◌, ℕ, zero, suc, ◌+◌, ◌<◌, List, [], ◌∷◌, ◌++◌, length, map, slice_get, Some, inl, inr, refl, sym, ap, ◌∙◌, subst, arith}
use Rattle.c_language.proofs.Options.{none_there}
use Rattle.c_tree.specs.declared.program.Function.{Function}
use Rattle.c_tree.specs.declared.program.Program.{Program}
use Rattle.dep_model.specs.declared.vertex.Slot.{Slot}
use Rattle.dep_model.specs.declared.vertex.Vertex.{Vertex}
use Rattle.dep_model.specs.declared.vertex.VertexKind.{VertexKind}
use Rattle.dep_model.specs.declared.vertex.VertexKind.TheVariants.{Entry, FormalIn, FormalOut, Statement, Call, ActualIn, ActualOut}
use Rattle.dep_model.specs.Doings.{Doing, doings_of}
use Rattle.dep_model.specs.MayPoint.{parameters}
use Rattle.dep_model.specs.ModRef.{FunctionEffects}
use Rattle.dep_model.specs.SystemGraph.{Analysis, vertices_of, IsVertex}
use Rattle.dep_model.specs.VertexOrder.{arguments_from, in_function, touched, slots_of, result_slots, formal_ins, formal_outs, doing_vertices, all_vertices, function_kinds, vertices_from}
use Rattle.dep_model.proofs.Membership.{IsIn, in_of_get, in_first, in_second, in_either, in_map, of_map}
use Rattle.simulation_locations.proofs.StatementVertices.{of_kind, doing_kind}

get_in : {A : Type 0} (xs : List A) (x : A) → IsIn xs x → (n : ℕ) × (slice_get xs n ≡ Some x)
get_in [] x h = absurd h
get_in (y ∷ xs) x (inl e) = (zero, ap Some e)
get_in (y ∷ xs) x (inr h) = let w = get_in xs x h in (suc w.0, w.1)

abbrev pub slot_in : VertexKind → Slot → Slot
slot_in Entry s = s
slot_in (FormalIn t) s = t
slot_in (FormalOut t) s = t
slot_in (Statement i) s = s
slot_in (Call i) s = s
slot_in (ActualIn i t) s = t
slot_in (ActualOut i t) s = t

module _ (p : Program) (effects : FunctionEffects) where
  abbrev own : ℕ → List Vertex
  own n = map (in_function n) (function_kinds p effects n)

  kind_in : (n : ℕ) (gs : List Function) (f : ℕ) (k : VertexKind) → IsIn (vertices_from p effects n gs) (in_function f k) → IsIn (function_kinds p effects f) k
  kind_in n [] f k h = absurd h
  kind_in n (g ∷ gs) f k h = elim (in_either (own n) (vertices_from p effects (suc n) gs) (in_function f k) h) [
    | inl x ↦ (
        let w = of_map (in_function n) (function_kinds p effects n) (in_function f k) x in
        let here : n ≡ f = ap (λ (v : Vertex). v.function) w.2 in
        let same : w.0 ≡ k = ap (λ (v : Vertex). v.kind) w.2 in
        subst (λ (m : ℕ). IsIn (function_kinds p effects m) k) here (subst (IsIn (function_kinds p effects n)) same w.1)
        )
    | inr y ↦ kind_in (suc n) gs f k y
  ]

  vertex_from : (n : ℕ) (gs : List Function) (f j : ℕ) (k : VertexKind) → f ≡ n + j → j < length gs → IsIn (function_kinds p effects f) k → IsIn (vertices_from p effects n gs) (in_function f k)
  vertex_from n [] f j k e lt h = absurd (omega (arith, lt))
  vertex_from n (g ∷ gs) f zero k e lt h =
      let here : f ≡ n = omega (arith, e) in
      in_first (own n) (vertices_from p effects (suc n) gs) (in_function f k) (subst (λ (m : ℕ). IsIn (own m) (in_function f k)) here (in_map (in_function f) (function_kinds p effects f) k h))
  vertex_from n (g ∷ gs) f (suc j) k e lt h =
      in_second (own n) (vertices_from p effects (suc n) gs) (in_function f k) (vertex_from (suc n) gs f j k (omega (arith, e)) (omega (arith, lt)) h)

  -- ---- the statement of a kind

  pub record OfDoing (f : ℕ) (k : VertexKind) : Type 0 where
    pub doing : Doing
    pub member : IsIn (doings_of p f) doing
    pub has : IsIn (doing_vertices p effects doing) k

  of_all : (ds : List Doing) (k : VertexKind) → IsIn (all_vertices p effects ds) k → (d : Doing) × IsIn ds d × IsIn (doing_vertices p effects d) k
  of_all [] k h = absurd h
  of_all (d ∷ ds) k h = elim (in_either (doing_vertices p effects d) (all_vertices p effects ds) k h) [
    | inl x ↦ (d, inl refl, x)
    | inr y ↦ let w = of_all ds k y in (w.0, inr w.1, w.2)
  ]

  in_all : (ds : List Doing) (d : Doing) (k : VertexKind) → IsIn ds d → IsIn (doing_vertices p effects d) k → IsIn (all_vertices p effects ds) k
  in_all [] d k h j = absurd h
  in_all (e ∷ ds) d k (inl is) j = in_first (doing_vertices p effects e) (all_vertices p effects ds) k (subst (λ (x : Doing). IsIn (doing_vertices p effects x) k) (sym is) j)
  in_all (e ∷ ds) d k (inr h) j = in_second (doing_vertices p effects e) (all_vertices p effects ds) k (in_all ds d k h j)

  abbrev in_slots : ℕ → List Slot
  in_slots f = arguments_from 0 (parameters p f) ++ slots_of p effects (touched p effects f)

  abbrev out_slots : ℕ → List Slot
  out_slots f = slots_of p effects (effects.modified f) ++ result_slots p effects f

  -- what a kind of a function is of
  pub data StandsAs (f : ℕ) (k : VertexKind) : Type 0 where
    as_entry : Entry ≡ k → StandsAs f k
    as_formal_in : (s : Slot) → IsIn (in_slots f) s → FormalIn s ≡ k → StandsAs f k
    as_statement : OfDoing f k → StandsAs f k
    as_formal_out : (s : Slot) → IsIn (out_slots f) s → FormalOut s ≡ k → StandsAs f k

  pub stands_as : (f : ℕ) (k : VertexKind) → IsIn (function_kinds p effects f) k → StandsAs f k
  stands_as f k (inl e) = as_entry e
  stands_as f k (inr h) = elim (in_either (formal_ins p effects f) (all_vertices p effects (doings_of p f) ++ formal_outs p effects f) k h) [
    | inl x ↦ (let w = of_map FormalIn (in_slots f) k x in as_formal_in w.0 w.1 w.2)
    | inr y ↦ elim (in_either (all_vertices p effects (doings_of p f)) (formal_outs p effects f) k y) [
      | inl z ↦ (let w = of_all (doings_of p f) k z in as_statement (record { doing = w.0; member = w.1; has = w.2 }))
      | inr z ↦ (let w = of_map FormalOut (out_slots f) k z in as_formal_out w.0 w.1 w.2)
    ]
  ]

  -- a formal-in has one of the function's slots
  pub formal_in_slot : (f : ℕ) (s : Slot) → IsIn (function_kinds p effects f) (FormalIn s) → IsIn (in_slots f) s
  formal_in_slot f s h = elim (stands_as f (FormalIn s) h) [
    | as_entry e ↦ absurd cc
    | as_formal_in t m e ↦ subst (IsIn (in_slots f)) (ap (λ (k : VertexKind). slot_in k s) e) m
    | as_statement w ↦ none_there (doing_kind p effects w.doing (FormalIn s) w.has)
    | as_formal_out t m e ↦ absurd cc
  ]

  pub statement_kind : (f : ℕ) (k : VertexKind) (i : ℕ) → of_kind k ≡ Some i → IsIn (function_kinds p effects f) k → OfDoing f k
  statement_kind f k i of h = elim (stands_as f k h) [
    | as_entry e ↦ none_there (ap of_kind e ∙ of)
    | as_formal_in t m e ↦ none_there (ap of_kind e ∙ of)
    | as_statement w ↦ w
    | as_formal_out t m e ↦ none_there (ap of_kind e ∙ of)
  ]

  pub formal_out_there : (f : ℕ) (s : Slot) → IsIn (out_slots f) s → IsIn (function_kinds p effects f) (FormalOut s)
  formal_out_there f s h =
      inr (in_second (formal_ins p effects f) (all_vertices p effects (doings_of p f) ++ formal_outs p effects f) (FormalOut s) (in_second (all_vertices p effects (doings_of p f)) (formal_outs p effects f) (FormalOut s) (in_map FormalOut (out_slots f) s h)))

  pub formal_in_there : (f : ℕ) (s : Slot) → IsIn (in_slots f) s → IsIn (function_kinds p effects f) (FormalIn s)
  formal_in_there f s h = inr (in_first (formal_ins p effects f) (all_vertices p effects (doings_of p f) ++ formal_outs p effects f) (FormalIn s) (in_map FormalIn (in_slots f) s h))

  pub statement_there : (f : ℕ) (d : Doing) (k : VertexKind) → IsIn (doings_of p f) d → IsIn (doing_vertices p effects d) k → IsIn (function_kinds p effects f) k
  statement_there f d k m h =
      inr (in_second (formal_ins p effects f) (all_vertices p effects (doings_of p f) ++ formal_outs p effects f) k (in_first (all_vertices p effects (doings_of p f)) (formal_outs p effects f) k (in_all (doings_of p f) d k m h)))

module _ (p : Program) (a : Analysis) where
  pub kind_of : (f : ℕ) (k : VertexKind) (v : ℕ) → IsVertex (vertices_of p a) f k v → IsIn (function_kinds p a.effects f) k
  kind_of f k v h = kind_in p a.effects 0 p.functions f k (in_of_get (vertices_of p a) v (in_function f k) h)

  pub vertex_of : (f : ℕ) (k : VertexKind) → f < length p.functions → IsIn (function_kinds p a.effects f) k → (v : ℕ) × IsVertex (vertices_of p a) f k v
  vertex_of f k lt h = get_in (vertices_of p a) (in_function f k) (vertex_from p a.effects 0 p.functions f f k (omega arith) lt h)
