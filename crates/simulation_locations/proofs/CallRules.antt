-- What is wanted at calls and behind them, and what keeps what comes out of them.
use Rattle.std.proofs.Common.{◌≡◌, ℕ, zero, suc, ◌+◌, List, [], ◌∷◌, ◌++◌, map, slice_get, Bool, true, false, ◌&&◌, Option, Some, None, inl, inr, refl, sym, ap, ◌∙◌, subst, arith}
use Rattle.std.specs.Prelude.{IsTrue}
use Rattle.std.specs.List.{range_with_len}
use Rattle.std.proofs.lemmas.Bool.{false≢true, and_parts, and_from}
use Rattle.bit_rows.specs.Sets.{has}
use Rattle.c_language.proofs.Tests.{false_true}
use Rattle.c_tree.specs.declared.expr.Expr.{Expr}
use Rattle.c_tree.specs.declared.program.Program.{Program}
use Rattle.c_tree.specs.declared.statement.Target.{Target}
use Rattle.c_tree.specs.declared.statement.Target.TheVariants as target
use Rattle.c_language.specs.Code.{Code}
use Rattle.dep_model.specs.declared.location.Location.{Location}
use Rattle.dep_model.specs.declared.vertex.Slot.TheVariants.{Argument, Result, At}
use Rattle.dep_model.specs.declared.vertex.VertexKind.{VertexKind}
use Rattle.dep_model.specs.declared.vertex.VertexKind.TheVariants as kind
use Rattle.dep_model.specs.Doings as doing
use Rattle.dep_model.specs.Doings.{Doing, doing_number, program_doings, doings_of}
use Rattle.dep_model.specs.Follows.{enters, InTurn}
use Rattle.dep_model.specs.FunctionVertices.{numbers, vertices_at}
use Rattle.dep_model.specs.ListedLocations.{IsListed}
use Rattle.dep_model.specs.Locations.{TypedLocation, locations, same_location}
use Rattle.dep_model.specs.SystemGraph.{Analysis, vertices_of, IsVertex}
use Rattle.dep_model.specs.VertexOrder.{slots_of, target_slots, doing_at, of_location, slot_places, out_defines, out_kills, kind_uses, kind_defines, kind_kills}
use Rattle.dep_model.proofs.Membership.{IsIn, in_of_contains, in_map, of_map}
use Rattle.run_facts.specs.NextSteps.{stores}
use Rattle.simulation.specs.Places.{Behind, Storing}
use Rattle.simulation.specs.Settings.{ActualIn, ActualOut, ResultOut}
use Rattle.simulation_locations.specs.Wanted.{Next, WantedAt, used, before, IsFlowClosed, IsWanted, entered_at, outs_of, results_of, comes_out, defines_at, uses_at, kills_at}
use Rattle.simulation_locations.specs.KeptVertices.{passes_in, gives_in, keeps_vertex, arguments_use, vertex_uses, vertex_defines, vertex_kills}
use Rattle.simulation_locations.proofs.CallVertices.{slot_at, at_slot, begins_call, heads_of, kind_there, number_there, uses_is, defines_is, kills_is, CallVertices, call_vertices}
use Rattle.simulation_locations.proofs.Chains.{Turns, Free, through, used_in, IsDefiner, last_definer, definer_kept}
use Rattle.simulation_locations.proofs.KeptNumbers.{passing, passes_any}
use Rattle.simulation.proofs.SharedSteps.{not_so}
use Rattle.simulation_locations.proofs.SameLocations.{location_is, location_itself}
use Rattle.simulation_locations.proofs.Runs.{run, enters-append, turn_first, turn_second}

module _ (p : Program) (a : Analysis) (statements_are : map doing_number (program_doings p) ≡ range_with_len 0 p.statements) (kept : List Bool) where
  -- a call of g by statement i of f, with what comes after it, whose pairs are pairs of f
  module _ (f i g : ℕ) (to : Target) (args : List Expr) (r : Code) (member : IsIn (doings_of p f) (doing.Calls i to g args)) (l : Location) where
    pub own : CallVertices p a statements_are f i g to args
    own = call_vertices p a statements_are f i g to args member

    abbrev heads : List ℕ
    heads = heads_of p a f i

    abbrev outs : List ℕ
    outs = outs_of p a f i

    abbrev results : List ℕ
    results = results_of p a f i

    abbrev past : Option ℕ
    past = entered_at p a f r

    abbrev CallTurns : Type 0
    CallTurns = (v : ℕ) (w : Option ℕ) → InTurn (vertices_at (vertices_of p a) f i None) past v w → Next p a f v w

    all_turns : CallTurns → (v : ℕ) (w : Option ℕ) → InTurn (heads ++ (outs ++ results)) past v w → Next p a f v w
    all_turns turns v w t = turns v w (subst (λ (ns : List ℕ). InTurn ns past v w) (sym (own.all_are None)) t)

    result_turns : CallTurns → Turns p a kept f l results past
    result_turns turns v w t = all_turns turns v w (turn_second heads (outs ++ results) past v w (turn_second outs results past v w t))

    out_turns : CallTurns → Turns p a kept f l outs (enters results past)
    out_turns turns v w t = all_turns turns v w (turn_second heads (outs ++ results) past v w (turn_first outs results past v w t))

    head_turns : CallTurns → Turns p a kept f l heads (enters outs (enters results past))
    head_turns turns v w t =
        all_turns turns v w (turn_first heads (outs ++ results) past v w (subst (λ (o : Option ℕ). InTurn heads o v w) (sym (enters-append outs results past)) t))

    -- ---- what the vertices kill

    heads_free : Free p a kept f l heads
    heads_free n m =
        let k = kind_there p a (begins_call i) f n m in
        kills_is p a f n k.kind l k.is ∙ no_kill k.kind k.passing
      where
        no_kill : (k : VertexKind) → begins_call i k ≡ true → kind_kills p a.points f k l ≡ false
        no_kill kind.Entry e = refl
        no_kill (kind.FormalIn s) e = refl
        no_kill (kind.FormalOut s) e = refl
        no_kill (kind.Statement j) e = absurd (false≢true e)
        no_kill (kind.Call j) e = refl
        no_kill (kind.ActualIn j s) e = refl
        no_kill (kind.ActualOut j s) e = absurd (false≢true e)

    out_same : (o : Option Doing) (k : ℕ) → out_kills p a.points f o (At k) l ≡ out_defines p a.points f o (At k) l
    out_same None k = refl
    out_same (Some (doing.Does j x)) k = refl
    out_same (Some (doing.Calls j t h es)) k = refl

    out_place : (o : Option Doing) (k : ℕ) → out_defines p a.points f o (At k) l ≡ slot_places p a.points f (At k) l
    out_place None k = refl
    out_place (Some (doing.Does j x)) k = refl
    out_place (Some (doing.Calls j t h es)) k = refl

    -- an actual-out of a location kills what it defines
    pub outs_same : (n : ℕ) → IsIn outs n → kills_at p a n l ≡ defines_at p a n l
    outs_same n m =
        let k = kind_there p a (comes_out i) f n m in
        kills_is p a f n k.kind l k.is ∙ (same k.kind k.passing ∙ sym (defines_is p a f n k.kind l k.is))
      where
        same : (k : VertexKind) → comes_out i k ≡ true → kind_kills p a.points f k l ≡ kind_defines p a.points f k l
        same kind.Entry e = absurd (false≢true e)
        same (kind.FormalIn s) e = absurd (false≢true e)
        same (kind.FormalOut s) e = absurd (false≢true e)
        same (kind.Statement j) e = absurd (false≢true e)
        same (kind.Call j) e = absurd (false≢true e)
        same (kind.ActualIn j s) e = absurd (false≢true e)
        same (kind.ActualOut j (Argument x)) e = absurd (false≢true e)
        same (kind.ActualOut j Result) e = absurd (false≢true e)
        same (kind.ActualOut j (At k)) e = out_same (doing_at p f j) k

    -- ---- the rules where a call comes next

    module _ (c : Code) (turns : CallTurns) (starts : entered_at p a f c ≡ enters (vertices_at (vertices_of p a) f i None) past) where
      entered_is : entered_at p a f c ≡ enters heads (enters outs (enters results past))
      entered_is =
          starts ∙ (ap (λ (ns : List ℕ). enters ns past) (own.all_are None) ∙ (enters-append heads (outs ++ results) past ∙ ap (enters heads) (enters-append outs results past)))

      to_entered : WantedAt p a kept f l (enters heads (enters outs (enters results past))) → WantedAt p a kept f l (entered_at p a f c)
      to_entered h = subst (λ (o : Option ℕ). WantedAt p a kept f l o) (sym entered_is) h

      head_used : (n : ℕ) → IsIn heads n → IsTrue (has kept n) → uses_at p a n l ≡ true → WantedAt p a kept f l (entered_at p a f c)
      head_used n m k u =
          to_entered (used_in p a kept f l heads (enters outs (enters results past)) (head_turns turns) heads_free n m k u)

      -- an actual-in of a kept argument, or of a location, uses it
      of_argument : (k : VertexKind) → gives_in i k ≡ true → begins_call i k ≡ true
      of_argument kind.Entry e = absurd (false≢true e)
      of_argument (kind.FormalIn s) e = absurd (false≢true e)
      of_argument (kind.FormalOut s) e = absurd (false≢true e)
      of_argument (kind.Statement j) e = absurd (false≢true e)
      of_argument (kind.Call j) e = absurd (false≢true e)
      of_argument (kind.ActualIn j (Argument x)) e = e
      of_argument (kind.ActualIn j Result) e = absurd (false≢true e)
      of_argument (kind.ActualIn j (At x)) e = absurd (false≢true e)
      of_argument (kind.ActualOut j s) e = absurd (false≢true e)

      of_passed : (k : VertexKind) → passes_in i k ≡ true → begins_call i k ≡ true
      of_passed kind.Entry e = absurd (false≢true e)
      of_passed (kind.FormalIn s) e = absurd (false≢true e)
      of_passed (kind.FormalOut s) e = absurd (false≢true e)
      of_passed (kind.Statement j) e = absurd (false≢true e)
      of_passed (kind.Call j) e = absurd (false≢true e)
      of_passed (kind.ActualIn j (Argument x)) e = absurd (false≢true e)
      of_passed (kind.ActualIn j Result) e = absurd (false≢true e)
      of_passed (kind.ActualIn j (At x)) e = e
      of_passed (kind.ActualOut j s) e = absurd (false≢true e)

      pub wanted_by_argument : arguments_use p a kept f i g l ≡ true → WantedAt p a kept f l (entered_at p a f c)
      wanted_by_argument e =
          let test : VertexKind → Bool = (λ k. gives_in i k && kind_uses p a.points f k l) in
          let w = passing (λ (n : ℕ). has kept n) (numbers test f (vertices_of p a)) e in
          let k = kind_there p a test f w.number w.member in
          let both = and_parts (gives_in i k.kind) (kind_uses p a.points f k.kind l) k.passing in
          head_used w.number (number_there p a (begins_call i) f w.number k.kind k.is (of_argument k.kind both.0)) w.passes (uses_is p a f w.number k.kind l k.is ∙ both.1)

      pub wanted_passed_in : keeps_vertex p a kept (ActualIn f i g l) ≡ true → WantedAt p a kept f l (entered_at p a f c)
      wanted_passed_in e =
          let test : VertexKind → Bool = (λ k. passes_in i k && kind_uses p a.points f k l) in
          let w = passing (λ (n : ℕ). has kept n) (numbers test f (vertices_of p a)) e in
          let k = kind_there p a test f w.number w.member in
          let both = and_parts (passes_in i k.kind) (kind_uses p a.points f k.kind l) k.passing in
          head_used w.number (number_there p a (begins_call i) f w.number k.kind k.is (of_passed k.kind both.0)) w.passes (uses_is p a f w.number k.kind l k.is ∙ both.1)

      -- what is wanted behind the actual-ins is wanted before the call
      pub wanted_before_call : IsWanted p a kept l (Behind f i g to r) → WantedAt p a kept f l (entered_at p a f c)
      wanted_before_call h =
          to_entered (through p a kept f l heads (enters outs (enters results past)) (head_turns turns) heads_free h)

    -- ---- the rules where a call is done

    -- an actual-out of a location that may define this one stands for a callee that modifies it
    pub outs_modify : (n : ℕ) → IsIn outs n → defines_at p a n l ≡ true → a.effects.modified g l ≡ true
    outs_modify n m d =
        let k = own.out_is n m in
        let s = of_map (kind.ActualOut i) (slots_of p a.effects (a.effects.modified g)) k.0 k.1 in
        let w = slot_at (a.effects.modified g) 0 (locations p) s.0 s.1 in
        let from_none : w.place ≡ 0 + w.place = omega arith in
        let kind_is : kind.ActualOut i (At w.place) ≡ k.0 = ap (λ (m : ℕ). kind.ActualOut i (At m)) from_none ∙ (ap (kind.ActualOut i) w.slot_is ∙ s.2) in
        let there : IsVertex (vertices_of p a) f (kind.ActualOut i (At w.place)) n = subst (λ (q : VertexKind). IsVertex (vertices_of p a) f q n) (sym kind_is) k.2 in
        let placed : slot_places p a.points f (At w.place) l ≡ true = sym (out_place (doing_at p f i) w.place) ∙ (sym (defines_is p a f n (kind.ActualOut i (At w.place)) l there) ∙ d) in
        let same : same_location w.location.location l ≡ true = sym (ap (λ (o : Option TypedLocation). of_location p a.points o l) w.at) ∙ placed in
        subst (λ (m : Location). a.effects.modified g m ≡ true) (location_is w.location.location l same) w.passing

    outs_free : a.effects.modified g l ≡ false → Free p a kept f l outs
    outs_free none n m =
        outs_same n m ∙ not_so (defines_at p a n l) (λ d. false_true (sym none ∙ outs_modify n m d))

    -- and each listed location that the callee modifies has one
    pub out_of : a.effects.modified g l ≡ true → IsListed p l → IsDefiner p a kept f l outs
    out_of modified listed =
        let w = place_of listed in
        let k = kind.ActualOut i (At w.0) in
        let from_none : 0 + w.0 ≡ w.0 = omega arith in
        let inside : IsIn (slots_of p a.effects (a.effects.modified g)) (At w.0) = subst (λ (m : ℕ). IsIn (slots_of p a.effects (a.effects.modified g)) (At m)) from_none (at_slot (a.effects.modified g) 0 (locations p) w.0 w.1 w.2 (subst (λ (m : Location). a.effects.modified g m ≡ true) (sym w.3) modified)) in
        let n = own.out_there k (in_map (kind.ActualOut i) (slots_of p a.effects (a.effects.modified g)) (At w.0) inside) in
        let same : slot_places p a.points f (At w.0) l ≡ true = ap (λ (o : Option TypedLocation). of_location p a.points o l) w.2 ∙ (ap (λ (m : Location). same_location m l) w.3 ∙ location_itself l) in
        record { vertex = n.0; member = n.1; defined = defines_is p a f n.0 k l n.2 ∙ (out_place (doing_at p f i) w.0 ∙ same) }
      where
        place_of : IsListed p l → (k : ℕ) × (o : TypedLocation) × (slice_get (locations p) k ≡ Some o) × (o.location ≡ l)
        place_of c = found (locations p) (in_of_contains (map (λ (o : TypedLocation). o.location) (locations p)) l c)
          where
            found : (os : List TypedLocation) → IsIn (map (λ (o : TypedLocation). o.location) os) l → (k : ℕ) × (o : TypedLocation) × (slice_get os k ≡ Some o) × (o.location ≡ l)
            found [] m = absurd m
            found (o ∷ os) (inl e) = (zero, o, refl, e)
            found (o ∷ os) (inr m) = let w = found os m in (suc w.0, w.1, w.2, w.3)

    module _ (turns : CallTurns) where
      -- what the callee doesn't modify is wanted behind the actual-ins where it is wanted behind the actual-outs
      pub wanted_before_outs : a.effects.modified g l ≡ false → IsWanted p a kept l (Storing f i g to r) → IsWanted p a kept l (Behind f i g to r)
      wanted_before_outs none h = through p a kept f l outs (enters results past) (out_turns turns) (outs_free none) h

      -- the actual-out of what the callee modifies is kept where that is wanted behind it
      pub out_kept : IsFlowClosed p a kept → a.effects.modified g l ≡ true → IsListed p l → IsWanted p a kept l (Storing f i g to r) → keeps_vertex p a kept (ActualOut f i g l) ≡ true
      out_kept closed modified listed h =
          let last = last_definer p a kept f l outs (enters results past) (out_turns turns) outs_same h (out_of modified listed) in
          let n = last.definer.vertex in
          let is_kept = definer_kept p a kept f l closed n last.first.next last.first.pair last.definer.defined last.first.wanted in
          let k = kind_there p a (comes_out i) f n last.definer.member in
          let test : VertexKind → Bool = (λ k. comes_out i k && kind_defines p a.points f k l) in
          passes_any (λ (n : ℕ). has kept n) (numbers test f (vertices_of p a)) n (number_there p a test f n k.kind k.is (and_from (comes_out i k.kind) (kind_defines p a.points f k.kind l) k.passing (sym (defines_is p a f n k.kind l k.is) ∙ last.definer.defined))) is_kept

      -- ---- the result

      -- without a store there is no actual-out of the result
      pub wanted_without_store : stores to ≡ false → WantedAt p a kept f l past → IsWanted p a kept l (Storing f i g to r)
      wanted_without_store st h =
          subst (λ (ns : List ℕ). WantedAt p a kept f l (enters ns past)) (sym (own.results_are ∙ none_stored to own.third st)) h
        where
          none_stored : (t : Target) (n : ℕ) → stores t ≡ false → run n (map (kind.ActualOut i) (target_slots p a.effects t)) ≡ []
          none_stored target.None n st = refl
          none_stored (target.Place x) n st = absurd (false≢true (sym st))
          none_stored (target.Declared x) n st = absurd (false≢true (sym st))

      module _ (st : stores to ≡ true) where
        one_result : results ≡ own.third ∷ []
        one_result = own.results_are ∙ one_stored to own.third st
          where
            one_stored : (t : Target) (n : ℕ) → stores t ≡ true → run n (map (kind.ActualOut i) (target_slots p a.effects t)) ≡ n ∷ []
            one_stored target.None n st = absurd (false≢true st)
            one_stored (target.Place x) n st = refl
            one_stored (target.Declared x) n st = refl

        result_is : IsVertex (vertices_of p a) f (kind.ActualOut i Result) own.third
        result_is =
            let w = own.result_is own.third (subst (λ (ns : List ℕ). IsIn ns own.third) (sym one_result) (inl refl)) in
            subst (λ (k : VertexKind). IsVertex (vertices_of p a) f k own.third) (sym (of_target to w.0 w.1)) w.2
          where
            of_target : (t : Target) (k : VertexKind) → IsIn (map (kind.ActualOut i) (target_slots p a.effects t)) k → kind.ActualOut i Result ≡ k
            of_target target.None k m = absurd m
            of_target (target.Place x) k (inl e) = e
            of_target (target.Place x) k (inr m) = absurd m
            of_target (target.Declared x) k (inl e) = e
            of_target (target.Declared x) k (inr m) = absurd m

        next_result : Next p a f own.third past
        next_result = result_turns turns own.third past (subst (λ (ns : List ℕ). InTurn ns past own.third past) (sym one_result) (inl (refl, refl)))

        pub wanted_result_used : keeps_vertex p a kept (ResultOut f i g) ≡ true → vertex_uses p a (ResultOut f i g) l ≡ true → IsWanted p a kept l (Storing f i g to r)
        wanted_result_used k u =
            let w = passing (λ (n : ℕ). has kept n) results k in
            let here : own.third ≡ w.number = only own.third w.number (subst (λ (ns : List ℕ). IsIn ns w.number) one_result w.member) in
            subst (λ (ns : List ℕ). WantedAt p a kept f l (enters ns past)) (sym one_result) (used (subst (λ (n : ℕ). IsTrue (has kept n)) (sym here) w.passes) (uses_is p a f own.third (kind.ActualOut i Result) l result_is ∙ u))
          where
            only : (n m : ℕ) → IsIn (n ∷ []) m → n ≡ m
            only n m (inl q) = q
            only n m (inr q) = absurd q

        pub wanted_before_store : vertex_kills p a (ResultOut f i g) l ≡ false → WantedAt p a kept f l past → IsWanted p a kept l (Storing f i g to r)
        wanted_before_store k h =
            subst (λ (ns : List ℕ). WantedAt p a kept f l (enters ns past)) (sym one_result) (before next_result (kills_is p a f own.third (kind.ActualOut i Result) l result_is ∙ k) h)

        pub result_kept : IsFlowClosed p a kept → vertex_defines p a (ResultOut f i g) l ≡ true → WantedAt p a kept f l past → keeps_vertex p a kept (ResultOut f i g) ≡ true
        result_kept closed d h =
            let is_kept = definer_kept p a kept f l closed own.third past next_result (defines_is p a f own.third (kind.ActualOut i Result) l result_is ∙ d) h in
            passes_any (λ (n : ℕ). has kept n) results own.third (subst (λ (ns : List ℕ). IsIn ns own.third) (sym one_result) (inl refl)) is_kept
