-- The vertices of an act and of a call, in their order, and what they define, use and kill.
use Rattle.std.proofs.Common.{◌≡◌, ℕ, zero, suc, ◌+◌, ◌==◌, List, [], ◌∷◌, ◌++◌, length, map, slice_get, Bool, true, false, ◌||◌, if◌then◌else◌, Option, Some, inl, inr, refl, sym, ap, ◌∙◌, subst, arith, eq-eqb, eqb-true}
use Rattle.std.specs.Option.{option_map_or}
use Rattle.std.specs.List.{range_with_len}
use Rattle.std.proofs.lemmas.Bool.{false≢true, and_parts, and_from}
use Rattle.std.proofs.lemmas.List.{map-append, length-map, length-append}
use Rattle.c_language.proofs.Options.{none_there, some_same}
use Rattle.c_language.proofs.Tests.{or_none}
use Rattle.c_tree.specs.declared.expr.Expr.{Expr}
use Rattle.c_tree.specs.declared.program.Program.{Program}
use Rattle.c_tree.specs.declared.statement.Target.{Target}
use Rattle.c_tree.specs.declared.statement.Target.TheVariants as target
use Rattle.c_language.specs.Code.{Act}
use Rattle.dep_model.specs.declared.location.Location.{Location}
use Rattle.dep_model.specs.declared.vertex.Slot.{Slot}
use Rattle.dep_model.specs.declared.vertex.Slot.TheVariants.{Argument, Result, At}
use Rattle.dep_model.specs.declared.vertex.Vertex.{Vertex}
use Rattle.dep_model.specs.declared.vertex.VertexKind.{VertexKind}
use Rattle.dep_model.specs.declared.vertex.VertexKind.TheVariants.{Entry, FormalIn, FormalOut, Statement, Call, ActualIn, ActualOut}
use Rattle.dep_model.specs.Doings.{Does, Calls, doing_number, program_doings, doings_of}
use Rattle.dep_model.specs.FunctionVertices.{is_own, is_actual, passes, numbers_from, numbers, vertices_at}
use Rattle.dep_model.specs.Locations.{TypedLocation, locations}
use Rattle.dep_model.specs.Denoted.{Places}
use Rattle.dep_model.specs.SystemGraph.{Analysis, vertices_of, IsVertex}
use Rattle.dep_model.specs.VertexOrder.{slots_from, arguments_from, in_function, slots_of, touched, target_slots, doing_vertices, kind_uses, kind_defines, kind_kills, vertex_effects}
use Rattle.dep_model.proofs.Membership.{IsIn, in_of_contains, contains_of_in, in_either, of_map}
use Rattle.dep_model.proofs.VertexNumbers.{numbers_pass, passes_numbers}
use Rattle.simulation_locations.specs.KeptVertices.{is_call}
use Rattle.simulation_locations.specs.Wanted.{goes_in, comes_out, gives_result, outs_of, results_of, defines_at, uses_at, kills_at}
use Rattle.simulation_locations.proofs.Runs.{run, run-append, numbers-append, kinds_all, kinds_none}
use Rattle.simulation_locations.proofs.StatementVertices.{IsTestOf, get_first, get_past, has_vertices}

-- ---- tests of a statement's kinds

-- a statement's call, or what goes in
abbrev pub begins_call : ℕ → VertexKind → Bool
begins_call i k = is_call i k || goes_in i k

abbrev all_kinds : ℕ → VertexKind → Bool
all_kinds i k = is_own i k || is_actual i k

own_number : (i j : ℕ) → ((j == i) || false) ≡ true → Some j ≡ Some i
own_number i j e = ap Some (eqb-true j i (sym (or_none (j == i)) ∙ e))

tests_all : (i : ℕ) → IsTestOf (all_kinds i) i
tests_all i Entry e = absurd (false≢true e)
tests_all i (FormalIn s) e = absurd (false≢true e)
tests_all i (FormalOut s) e = absurd (false≢true e)
tests_all i (Statement j) e = own_number i j e
tests_all i (Call j) e = own_number i j e
tests_all i (ActualIn j s) e = ap Some (eqb-true j i e)
tests_all i (ActualOut j s) e = ap Some (eqb-true j i e)

tests_begins : (i : ℕ) → IsTestOf (begins_call i) i
tests_begins i Entry e = absurd (false≢true e)
tests_begins i (FormalIn s) e = absurd (false≢true e)
tests_begins i (FormalOut s) e = absurd (false≢true e)
tests_begins i (Statement j) e = absurd (false≢true e)
tests_begins i (Call j) e = own_number i j e
tests_begins i (ActualIn j s) e = ap Some (eqb-true j i e)
tests_begins i (ActualOut j s) e = absurd (false≢true e)

tests_out : (i : ℕ) → IsTestOf (comes_out i) i
tests_out i Entry e = absurd (false≢true e)
tests_out i (FormalIn s) e = absurd (false≢true e)
tests_out i (FormalOut s) e = absurd (false≢true e)
tests_out i (Statement j) e = absurd (false≢true e)
tests_out i (Call j) e = absurd (false≢true e)
tests_out i (ActualIn j s) e = absurd (false≢true e)
tests_out i (ActualOut j (Argument k)) e = absurd (false≢true e)
tests_out i (ActualOut j Result) e = absurd (false≢true e)
tests_out i (ActualOut j (At k)) e = ap Some (eqb-true j i e)

tests_result : (i : ℕ) → IsTestOf (gives_result i) i
tests_result i Entry e = absurd (false≢true e)
tests_result i (FormalIn s) e = absurd (false≢true e)
tests_result i (FormalOut s) e = absurd (false≢true e)
tests_result i (Statement j) e = absurd (false≢true e)
tests_result i (Call j) e = absurd (false≢true e)
tests_result i (ActualIn j s) e = absurd (false≢true e)
tests_result i (ActualOut j (Argument k)) e = absurd (false≢true e)
tests_result i (ActualOut j Result) e = ap Some (eqb-true j i e)
tests_result i (ActualOut j (At k)) e = absurd (false≢true e)

-- ---- numbers of vertices with kinds that pass, between others

module _ (test : VertexKind → Bool) (f : ℕ) where
  abbrev numbered : ℕ → List VertexKind → List ℕ
  numbered n ks = numbers_from (passes test f) n (map (in_function f) ks)

  numbered-append : (n : ℕ) (xs ys : List VertexKind) → numbered n (xs ++ ys) ≡ numbered n xs ++ numbered (n + length xs) ys
  numbered-append n xs ys =
      ap (numbers_from (passes test f) n) (map-append (in_function f) xs ys) ∙ (numbers-append (passes test f) n (map (in_function f) xs) (map (in_function f) ys) ∙ ap (λ m. numbered n xs ++ numbered (n + m) ys) (length-map xs (in_function f)))

  with_none : (ns : List ℕ) → ns ++ [] ≡ ns
  with_none [] = refl
  with_none (n ∷ ns) = ap (λ ms. n ∷ ms) (with_none ns)

  numbered_between : (n : ℕ) (us vs ws : List VertexKind) → ((k : VertexKind) → IsIn us k → test k ≡ false) → ((k : VertexKind) → IsIn vs k → test k ≡ true) → ((k : VertexKind) → IsIn ws k → test k ≡ false) → numbered n (us ++ (vs ++ ws)) ≡ run (n + length us) vs
  numbered_between n us vs ws before inside past =
      numbered-append n us (vs ++ ws) ∙ (ap (λ ns. ns ++ numbered (n + length us) (vs ++ ws)) (kinds_none test f n us before) ∙ (numbered-append (n + length us) vs ws ∙ (ap (λ ns. numbered (n + length us) vs ++ ns) (kinds_none test f (n + length us + length vs) ws past) ∙ (with_none (numbered (n + length us) vs) ∙ kinds_all test f (n + length us) vs inside))))

-- ---- the slots of listed locations

-- a slot of a location that passes, at its place in the list
pub record IsSlotAt (test : Places) (n : ℕ) (os : List TypedLocation) (s : Slot) : Type 0 where
  pub place : ℕ
  pub location : TypedLocation
  pub at : slice_get os place ≡ Some location
  pub passing : test location.location ≡ true
  pub slot_is : At (n + place) ≡ s

pub slot_at : (test : Places) (n : ℕ) (os : List TypedLocation) (s : Slot) → IsIn (slots_from test n os) s → IsSlotAt test n os s
slot_at test n [] s h = absurd h
slot_at test n (o ∷ os) s h = by_slot (λ m. slot_at test (suc n) os s m) (test o.location) refl h
  where
    later : IsSlotAt test (suc n) os s → IsSlotAt test n (o ∷ os) s
    later w = record { place = suc w.place; location = w.location; at = w.at; passing = w.passing; slot_is = ap At (omega arith) ∙ w.slot_is }

    by_slot : (IsIn (slots_from test (suc n) os) s → IsSlotAt test (suc n) os s) → (b : Bool) → test o.location ≡ b → IsIn (if b then At n ∷ slots_from test (suc n) os else slots_from test (suc n) os) s → IsSlotAt test n (o ∷ os) s
    by_slot more true e (inl is) = record { place = zero; location = o; at = refl; passing = e; slot_is = ap At (omega arith) ∙ is }
    by_slot more true e (inr m) = later (more m)
    by_slot more false e m = later (more m)

pub at_slot : (test : Places) (n : ℕ) (os : List TypedLocation) (place : ℕ) (o : TypedLocation) → slice_get os place ≡ Some o → test o.location ≡ true → IsIn (slots_from test n os) (At (n + place))
at_slot test n [] place o e t = none_there e
at_slot test n (x ∷ os) zero o e t =
    let here : test x.location ≡ true = subst (λ (y : TypedLocation). test y.location ≡ true) (sym (some_same e)) t in
    subst (λ b. IsIn (if b then At n ∷ slots_from test (suc n) os else slots_from test (suc n) os) (At (n + 0))) (sym here) (inl (ap At (omega arith)))
at_slot test n (x ∷ os) (suc place) o e t = by_slot (test x.location) (subst (λ m. IsIn (slots_from test (suc n) os) (At m)) (omega arith) (at_slot test (suc n) os place o e t))
  where
    by_slot : (b : Bool) → IsIn (slots_from test (suc n) os) (At (n + suc place)) → IsIn (if b then At n ∷ slots_from test (suc n) os else slots_from test (suc n) os) (At (n + suc place))
    by_slot true m = inr m
    by_slot false m = m

-- ---- the kinds of a call's vertices

module _ (i : ℕ) where
  passes_call : begins_call i (Call i) ≡ true
  passes_call = or_none (i == i) ∙ eq-eqb i i refl

  ins_pass : (ss : List Slot) (k : VertexKind) → IsIn (map (ActualIn i) ss) k → (begins_call i k ≡ true) × (all_kinds i k ≡ true) × (comes_out i k ≡ false) × (gives_result i k ≡ false)
  ins_pass ss k h =
      let w = of_map (ActualIn i) ss k h in
      subst (λ (q : VertexKind). (begins_call i q ≡ true) × (all_kinds i q ≡ true) × (comes_out i q ≡ false) × (gives_result i q ≡ false)) w.2 (eq-eqb i i refl, eq-eqb i i refl, refl, refl)

  outs_pass : (test : Places) (os : List TypedLocation) (k : VertexKind) → IsIn (map (ActualOut i) (slots_from test 0 os)) k → (begins_call i k ≡ false) × (all_kinds i k ≡ true) × (comes_out i k ≡ true) × (gives_result i k ≡ false)
  outs_pass test os k h =
      let w = of_map (ActualOut i) (slots_from test 0 os) k h in
      let m = slot_at test 0 os w.0 w.1 in
      subst (λ (q : VertexKind). (begins_call i q ≡ false) × (all_kinds i q ≡ true) × (comes_out i q ≡ true) × (gives_result i q ≡ false)) (ap (ActualOut i) m.slot_is ∙ w.2) (refl, eq-eqb i i refl, eq-eqb i i refl, refl)

results_pass : (p : Program) (effects : _) (i : ℕ) (to : Target) (k : VertexKind) → IsIn (map (ActualOut i) (target_slots p effects to)) k → (begins_call i k ≡ false) × (all_kinds i k ≡ true) × (comes_out i k ≡ false) × (gives_result i k ≡ true)
results_pass p effects i target.None k h = absurd h
results_pass p effects i (target.Place e) k (inl is) =
    subst (λ (q : VertexKind). (begins_call i q ≡ false) × (all_kinds i q ≡ true) × (comes_out i q ≡ false) × (gives_result i q ≡ true)) is (refl, eq-eqb i i refl, refl, eq-eqb i i refl)
results_pass p effects i (target.Place e) k (inr h) = absurd h
results_pass p effects i (target.Declared x) k (inl is) =
    subst (λ (q : VertexKind). (begins_call i q ≡ false) × (all_kinds i q ≡ true) × (comes_out i q ≡ false) × (gives_result i q ≡ true)) is (refl, eq-eqb i i refl, refl, eq-eqb i i refl)
results_pass p effects i (target.Declared x) k (inr h) = absurd h

-- ---- of a program

module _ (p : Program) (a : Analysis) where
  -- the kinds of a call and of what goes in, of its actual-outs of locations, and of that of its result
  abbrev pub head_kinds : (i g : ℕ) → List Expr → List VertexKind
  head_kinds i g args = Call i ∷ map (ActualIn i) (arguments_from 0 args ++ slots_of p a.effects (touched p a.effects g))

  abbrev pub out_kinds : (i g : ℕ) → List VertexKind
  out_kinds i g = map (ActualOut i) (slots_of p a.effects (a.effects.modified g))

  abbrev pub result_kinds : ℕ → Target → List VertexKind
  result_kinds i to = map (ActualOut i) (target_slots p a.effects to)

  -- the call of a statement, and what goes in
  abbrev pub heads_of : ℕ → ℕ → List ℕ
  heads_of f i = numbers (begins_call i) f (vertices_of p a)

  -- a number of those that pass is that of a vertex of the function whose kind passes
  pub record HasKind (test : VertexKind → Bool) (f n : ℕ) : Type 0 where
    pub kind : VertexKind
    pub is : IsVertex (vertices_of p a) f kind n
    pub passing : test kind ≡ true

  pub kind_there : (test : VertexKind → Bool) (f n : ℕ) → IsIn (numbers test f (vertices_of p a)) n → HasKind test f n
  kind_there test f n i =
      let w = numbers_pass test f (vertices_of p a) n (contains_of_in (numbers test f (vertices_of p a)) n i) in
      let t = and_parts (w.one.function == f) (test w.one.kind) w.passing in
      record { kind = w.one.kind; is = w.at ∙ ap (λ g. Some (in_function g w.one.kind)) (eqb-true w.one.function f t.0); passing = t.1 }

  pub number_there : (test : VertexKind → Bool) (f n : ℕ) (k : VertexKind) → IsVertex (vertices_of p a) f k n → test k ≡ true → IsIn (numbers test f (vertices_of p a)) n
  number_there test f n k is t =
      in_of_contains (numbers test f (vertices_of p a)) n (passes_numbers test f (vertices_of p a) n (record { one = in_function f k; at = is; passing = and_from (f == f) (test k) (eq-eqb f f refl) t }))

  -- what it may define, may use and kills
  pub defines_is : (f n : ℕ) (k : VertexKind) (l : Location) → IsVertex (vertices_of p a) f k n → defines_at p a n l ≡ kind_defines p a.points f k l
  defines_is f n k l is = ap (λ (o : Option Vertex). option_map_or (λ (x : Vertex). (vertex_effects p a.points).defines x l) o false) is

  pub uses_is : (f n : ℕ) (k : VertexKind) (l : Location) → IsVertex (vertices_of p a) f k n → uses_at p a n l ≡ kind_uses p a.points f k l
  uses_is f n k l is = ap (λ (o : Option Vertex). option_map_or (λ (x : Vertex). (vertex_effects p a.points).uses x l) o false) is

  pub kills_is : (f n : ℕ) (k : VertexKind) (l : Location) → IsVertex (vertices_of p a) f k n → kills_at p a n l ≡ kind_kills p a.points f k l
  kills_is f n k l is = ap (λ (o : Option Vertex). option_map_or (λ (x : Vertex). (vertex_effects p a.points).kills x l) o false) is

  module _ (statements_are : map doing_number (program_doings p) ≡ range_with_len 0 p.statements) where
    -- ---- an act has one vertex

    pub record ActVertex (f i : ℕ) : Type 0 where
      pub vertex : ℕ
      pub is : IsVertex (vertices_of p a) f (Statement i) vertex
      pub all_are : (x : Option Act) → vertices_at (vertices_of p a) f i x ≡ vertex ∷ []

    pub act_vertex : (f i : ℕ) (act : Act) → IsIn (doings_of p f) (Does i act) → ActVertex f i
    act_vertex f i act member =
        let h = has_vertices p a statements_are f (Does i act) member in
        let one : IsVertex (vertices_of p a) f (Statement i) (h.first + 0) = h.kinds_are 0 (Statement i) refl in
        let here : h.first + 0 ≡ h.first = omega arith in
        record {
          vertex = h.first;
          is = subst (λ n. IsVertex (vertices_of p a) f (Statement i) n) here one;
          all_are = λ x. h.numbers_are (all_kinds i) (tests_all i) ∙ kinds_all (all_kinds i) f h.first (Statement i ∷ []) (λ k m. one_passes k m);
        }
      where
        one_passes : (k : VertexKind) → IsIn (Statement i ∷ []) k → all_kinds i k ≡ true
        one_passes k (inl e) = subst (λ (q : VertexKind). all_kinds i q ≡ true) e (or_none (i == i) ∙ eq-eqb i i refl)
        one_passes k (inr m) = absurd m

    -- ---- a call has its vertex, its actual-ins, its actual-outs of locations, and that of its result

    pub record CallVertices (f i g : ℕ) (to : Target) (args : List Expr) : Type 0 where
      pub first : ℕ
      pub second : ℕ
      pub third : ℕ
      pub heads_are : heads_of f i ≡ run first (head_kinds i g args)
      pub second_is : second ≡ first + length (head_kinds i g args)
      pub outs_are : outs_of p a f i ≡ run second (out_kinds i g)
      pub third_is : third ≡ second + length (out_kinds i g)
      pub results_are : results_of p a f i ≡ run third (result_kinds i to)
      pub all_are : (x : Option Act) → vertices_at (vertices_of p a) f i x ≡ heads_of f i ++ (outs_of p a f i ++ results_of p a f i)
      pub all_run : (x : Option Act) → vertices_at (vertices_of p a) f i x ≡ run first (doing_vertices p a.effects (Calls i to g args))
      pub long : third + length (result_kinds i to) ≡ first + length (doing_vertices p a.effects (Calls i to g args))
      pub out_is : (n : ℕ) → IsIn (outs_of p a f i) n → (k : VertexKind) × IsIn (out_kinds i g) k × IsVertex (vertices_of p a) f k n
      pub result_is : (n : ℕ) → IsIn (results_of p a f i) n → (k : VertexKind) × IsIn (result_kinds i to) k × IsVertex (vertices_of p a) f k n
      pub out_there : (k : VertexKind) → IsIn (out_kinds i g) k → (n : ℕ) × IsIn (outs_of p a f i) n × IsVertex (vertices_of p a) f k n

    pub call_vertices : (f i g : ℕ) (to : Target) (args : List Expr) → IsIn (doings_of p f) (Calls i to g args) → CallVertices f i g to args
    call_vertices f i g to args member =
        let h = has_vertices p a statements_are f (Calls i to g args) member in
        let slots = slots_of p a.effects (a.effects.modified g) in
        let heads : List VertexKind = head_kinds i g args in
        let outs : List VertexKind = out_kinds i g in
        let results : List VertexKind = result_kinds i to in
        let second = h.first + length heads in
        let third = second + length outs in
        let all : doing_vertices p a.effects (Calls i to g args) ≡ heads ++ (outs ++ results) = ap (λ (ks : List VertexKind). heads ++ ks) (map-append (ActualOut i) slots (target_slots p a.effects to)) in
        let of_test : (test : VertexKind → Bool) → IsTestOf test i → numbers test f (vertices_of p a) ≡ numbered test f h.first (heads ++ (outs ++ results)) = (λ test of. h.numbers_are test of ∙ ap (numbered test f h.first) all) in
        let at_first : h.first + 0 ≡ h.first = omega arith in
        let heads_numbered : heads_of f i ≡ run h.first heads = of_test (begins_call i) (tests_begins i) ∙ (numbered_between (begins_call i) f h.first [] heads (outs ++ results) (λ k m. absurd m) (λ k m. heads_pass k m) (λ k m. rest_begins k m) ∙ ap (λ n. run n heads) at_first) in
        let outs_numbered : outs_of p a f i ≡ run second outs = of_test (comes_out i) (tests_out i) ∙ numbered_between (comes_out i) f h.first heads outs results (λ k m. heads_out k m) (λ k m. (outs_pass i (a.effects.modified g) (locations p) k m).2) (λ k m. (results_pass p a.effects i to k m).2) in
        let results_numbered : results_of p a f i ≡ run third results = of_test (gives_result i) (tests_result i) ∙ (numbered-append (gives_result i) f h.first heads (outs ++ results) ∙ (ap (λ ns. ns ++ numbered (gives_result i) f second (outs ++ results)) (kinds_none (gives_result i) f h.first heads (λ k m. heads_result k m)) ∙ (numbered-append (gives_result i) f second outs results ∙ (ap (λ ns. ns ++ numbered (gives_result i) f third results) (kinds_none (gives_result i) f second outs (λ k m. (outs_pass i (a.effects.modified g) (locations p) k m).3)) ∙ kinds_all (gives_result i) f third results (λ k m. (results_pass p a.effects i to k m).3))))) in
        record {
          first = h.first;
          second = second;
          third = third;
          heads_are = heads_numbered;
          second_is = refl;
          outs_are = outs_numbered;
          third_is = refl;
          results_are = results_numbered;
          all_are = λ x. of_test (all_kinds i) (tests_all i) ∙ (kinds_all (all_kinds i) f h.first (heads ++ (outs ++ results)) (λ k m. every k m) ∙ (run-append h.first heads (outs ++ results) ∙ (ap (λ ns. run h.first heads ++ ns) (run-append second outs results) ∙ (ap (λ ns. ns ++ (run second outs ++ run third results)) (sym heads_numbered) ∙ (ap (λ ns. heads_of f i ++ (ns ++ run third results)) (sym outs_numbered) ∙ ap (λ ns. heads_of f i ++ (outs_of p a f i ++ ns)) (sym results_numbered))))));
          all_run = λ x. h.numbers_are (all_kinds i) (tests_all i) ∙ (ap (numbered (all_kinds i) f h.first) all ∙ (kinds_all (all_kinds i) f h.first (heads ++ (outs ++ results)) (λ k m. every k m) ∙ ap (run h.first) (sym all)));
          long = lengths h.first heads outs results (doing_vertices p a.effects (Calls i to g args)) all;
          out_is = λ n m. of_run n second outs (λ j k e. shifted h.first (length heads) j k (h.kinds_are (length heads + j) k (subst (λ (ks : List VertexKind). slice_get ks (length heads + j) ≡ Some k) (sym all) (get_between heads outs results j k e)))) (subst (λ (ns : List ℕ). IsIn ns n) outs_numbered m);
          result_is = λ n m. of_run n third results (λ j k e. shifted (h.first + length heads) (length outs) j k (shifted h.first (length heads) (length outs + j) k (h.kinds_are (length heads + (length outs + j)) k (subst (λ (ks : List VertexKind). slice_get ks (length heads + (length outs + j)) ≡ Some k) (sym all) (get_past heads (outs ++ results) (length outs + j) k (get_past outs results j k e)))))) (subst (λ (ns : List ℕ). IsIn ns n) results_numbered m);
          out_there = λ k m.
              let w = in_run second outs (λ j k e. shifted h.first (length heads) j k (h.kinds_are (length heads + j) k (subst (λ (ks : List VertexKind). slice_get ks (length heads + j) ≡ Some k) (sym all) (get_between heads outs results j k e)))) k m in
              (w.0, subst (λ (ns : List ℕ). IsIn ns w.0) (sym outs_numbered) w.1, w.2);
        }
      where
        lengths : (n : ℕ) (us vs ws ks : List VertexKind) → ks ≡ us ++ (vs ++ ws) → (n + length us + length vs) + length ws ≡ n + length ks
        lengths n us vs ws ks e =
            let all = ap (λ (xs : List VertexKind). length xs) e in
            let one = length-append us (vs ++ ws) in
            let two = length-append vs ws in
            omega (arith, all, one, two)

        shifted : (n m j : ℕ) (k : VertexKind) → IsVertex (vertices_of p a) f k (n + (m + j)) → IsVertex (vertices_of p a) f k ((n + m) + j)
        shifted n m j k is = subst (λ (x : ℕ). IsVertex (vertices_of p a) f k x) (omega arith) is

        get_between : (us vs ws : List VertexKind) (j : ℕ) (k : VertexKind) → slice_get vs j ≡ Some k → slice_get (us ++ (vs ++ ws)) (length us + j) ≡ Some k
        get_between us vs ws j k e = get_past us (vs ++ ws) j k (get_first vs ws j k e)

        -- a number of a run, with the kind at its place
        of_run : (n m : ℕ) (ks : List VertexKind) → ((j : ℕ) (k : VertexKind) → slice_get ks j ≡ Some k → IsVertex (vertices_of p a) f k (m + j)) → IsIn (run m ks) n → (k : VertexKind) × IsIn ks k × IsVertex (vertices_of p a) f k n
        of_run n m [] h i = absurd i
        of_run n m (k ∷ ks) h (inl e) = (k, inl refl, subst (λ (x : ℕ). IsVertex (vertices_of p a) f k x) (let z : m + 0 ≡ m = omega arith in z ∙ e) (h zero k refl))
        of_run n m (k ∷ ks) h (inr i) =
            let w = of_run n (suc m) ks (λ j q e. subst (λ (x : ℕ). IsVertex (vertices_of p a) f q x) (omega arith) (h (suc j) q e)) i in
            (w.0, inr w.1, w.2)

        in_run : (m : ℕ) (ks : List VertexKind) → ((j : ℕ) (k : VertexKind) → slice_get ks j ≡ Some k → IsVertex (vertices_of p a) f k (m + j)) → (k : VertexKind) → IsIn ks k → (n : ℕ) × IsIn (run m ks) n × IsVertex (vertices_of p a) f k n
        in_run m [] h k i = absurd i
        in_run m (q ∷ ks) h k (inl e) = (m, inl refl, subst (λ (x : VertexKind). IsVertex (vertices_of p a) f x m) e (subst (λ (x : ℕ). IsVertex (vertices_of p a) f q x) (omega arith) (h zero q refl)))
        in_run m (q ∷ ks) h k (inr i) =
            let w = in_run (suc m) ks (λ j r e. subst (λ (x : ℕ). IsVertex (vertices_of p a) f r x) (omega arith) (h (suc j) r e)) k i in
            (w.0, inr w.1, w.2)

        heads_pass : (k : VertexKind) → IsIn (head_kinds i g args) k → begins_call i k ≡ true
        heads_pass k (inl e) = subst (λ (q : VertexKind). begins_call i q ≡ true) e (passes_call i)
        heads_pass k (inr m) = (ins_pass i (arguments_from 0 args ++ slots_of p a.effects (touched p a.effects g)) k m).0

        heads_out : (k : VertexKind) → IsIn (head_kinds i g args) k → comes_out i k ≡ false
        heads_out k (inl e) = subst (λ (q : VertexKind). comes_out i q ≡ false) e refl
        heads_out k (inr m) = (ins_pass i (arguments_from 0 args ++ slots_of p a.effects (touched p a.effects g)) k m).2

        heads_result : (k : VertexKind) → IsIn (head_kinds i g args) k → gives_result i k ≡ false
        heads_result k (inl e) = subst (λ (q : VertexKind). gives_result i q ≡ false) e refl
        heads_result k (inr m) = (ins_pass i (arguments_from 0 args ++ slots_of p a.effects (touched p a.effects g)) k m).3

        heads_all : (k : VertexKind) → IsIn (head_kinds i g args) k → all_kinds i k ≡ true
        heads_all k (inl e) = subst (λ (q : VertexKind). all_kinds i q ≡ true) e (passes_call i)
        heads_all k (inr m) = (ins_pass i (arguments_from 0 args ++ slots_of p a.effects (touched p a.effects g)) k m).1

        rest_begins : (k : VertexKind) → IsIn ((out_kinds i g) ++ (result_kinds i to)) k → begins_call i k ≡ false
        rest_begins k m = elim (in_either (out_kinds i g) (result_kinds i to) k m) [
          | inl x ↦ (outs_pass i (a.effects.modified g) (locations p) k x).0
          | inr y ↦ (results_pass p a.effects i to k y).0
        ]

        every : (k : VertexKind) → IsIn ((head_kinds i g args) ++ ((out_kinds i g) ++ (result_kinds i to))) k → all_kinds i k ≡ true
        every k m = elim (in_either (head_kinds i g args) ((out_kinds i g) ++ (result_kinds i to)) k m) [
          | inl x ↦ heads_all k x
          | inr y ↦ elim (in_either (out_kinds i g) (result_kinds i to) k y) [
            | inl z ↦ (outs_pass i (a.effects.modified g) (locations p) k z).1
            | inr z ↦ (results_pass p a.effects i to k z).1
          ]
        ]
