-- A caller that waits wants nothing that its callee modifies: the actual-outs of all of that come first, and kill it.
use Rattle.std.proofs.Common.{◌≡◌, ◌≢◌, ℕ, suc, ◌+◌, ◌<◌, ◌≤◌, List, [], ◌∷◌, length, map, Bool, true, false, ◌||◌, Option, Some, None, ◌⊎◌, inl, inr, refl, sym, ap, ◌∙◌, subst, arith, eqb-true}
use Rattle.std.specs.List.{range_with_len}
use Rattle.std.proofs.lemmas.Bool.{false≢true, cases_lt}
use Rattle.c_language.proofs.Options.{some_same}
use Rattle.c_language.proofs.Tests.{false_true}
use Rattle.c_tree.specs.declared.expr.Expr.{Expr}
use Rattle.c_tree.specs.declared.program.Program.{Program}
use Rattle.c_tree.specs.declared.statement.Target.{Target}
use Rattle.c_language.specs.Code.{Act, Tests, Code, End, Opens, Plain, Fork, Loop, Leaves, Call}
use Rattle.dep_model.specs.declared.location.Location.{Location}
use Rattle.dep_model.specs.declared.vertex.Slot.TheVariants.{Argument, Result, At}
use Rattle.dep_model.specs.declared.vertex.Vertex.{Vertex}
use Rattle.dep_model.specs.declared.vertex.VertexKind.{VertexKind}
use Rattle.dep_model.specs.declared.vertex.VertexKind.TheVariants as kind
use Rattle.dep_model.specs.Doings as doing
use Rattle.dep_model.specs.Doings.{Doing, doing_number, program_doings, doings_of}
use Rattle.dep_model.specs.Follows.{enters, InTurn, VerticesAt, start, Follows}
use Rattle.dep_model.specs.FunctionVertices.{is_own, is_actual, is_entry, is_formal_in, is_formal_out, numbers, vertices_at, heads, tails, code_in}
use Rattle.dep_model.specs.ListedLocations.{IsListed}
use Rattle.dep_model.specs.SystemGraph.{Analysis, vertices_of, IsVertex}
use Rattle.dep_model.specs.VertexOrder.{doing_vertices, doing_at, out_uses, kind_uses}
use Rattle.dep_model.proofs.Membership.{IsIn, in_either}
use Rattle.simulation.specs.Places.{Behind}
use Rattle.simulation.proofs.SharedSteps.{not_so}
use Rattle.simulation_locations.specs.Wanted.{Next, WantedAt, used, before, IsWanted, entered_at, outs_of, results_of, comes_out, defines_at, uses_at, kills_at}
use Rattle.simulation_locations.proofs.CallRules.{own, outs_same, out_of}
use Rattle.simulation_locations.proofs.CallVertices.{out_kinds, kind_there, uses_is, CallVertices}
use Rattle.simulation_locations.proofs.Chains.{IsDefiner}
use Rattle.simulation_locations.proofs.Runs.{run, next_in_run}

-- ---- pairs of a list are pairs of its statements' vertices

module _ (at : VerticesAt ℕ) where
  record IsTurn (v : ℕ) (w : Option ℕ) : Type 0 where
    pub statement : ℕ
    pub act : Option Act
    pub past : Option ℕ
    pub turn : InTurn (at statement act) past v w

  turn_of : (c : Code) (k : Option ℕ) (v : ℕ) (w : Option ℕ) → Follows at c k v w → IsTurn v w
  turn_of End k v w h = absurd h
  turn_of (Opens x r) k v w h = turn_of r k v w h
  turn_of (Plain i a r) k v w (inl h) = record { statement = i; act = Some a; past = start at r k; turn = h }
  turn_of (Plain i a r) k v w (inr h) = turn_of r k v w h
  turn_of (Fork i e c r) k v w (inl h) = record { statement = i; act = Some (Tests e); past = start at (c h.0) (start at r k); turn = h.1 }
  turn_of (Fork i e c r) k v w (inr (inl h)) = turn_of (c h.0) (start at r k) v w h.1
  turn_of (Fork i e c r) k v w (inr (inr h)) = turn_of r k v w h
  turn_of (Loop i e b r) k v w (inl h) = record { statement = i; act = Some (Tests e); past = start at b (enters (at i (Some (Tests e))) (start at r k)); turn = h }
  turn_of (Loop i e b r) k v w (inr (inl h)) = record { statement = i; act = Some (Tests e); past = start at r k; turn = h }
  turn_of (Loop i e b r) k v w (inr (inr (inl h))) = turn_of b (enters (at i (Some (Tests e))) (start at r k)) v w h
  turn_of (Loop i e b r) k v w (inr (inr (inr h))) = turn_of r k v w h
  turn_of (Leaves xs r) k v w h = turn_of r k v w h
  turn_of (Call i to g args r) k v w (inl h) = record { statement = i; act = None; past = start at r k; turn = h }
  turn_of (Call i to g args r) k v w (inr h) = turn_of r k v w h

in_turn : (ns : List ℕ) (k : Option ℕ) (v : ℕ) (w : Option ℕ) → InTurn ns k v w → IsIn ns v
in_turn [] k v w h = absurd h
in_turn (n ∷ ns) k v w (inl h) = inl (sym h.0)
in_turn (n ∷ ns) k v w (inr h) = inr (in_turn ns k v w h)

-- ---- members of a run

in_bounds : {A : Type 0} (m : ℕ) (xs : List A) (n : ℕ) → m ≤ n → n < m + length xs → IsIn (run m xs) n
in_bounds m [] n low high = absurd (omega (arith, low, high))
in_bounds m (x ∷ xs) n low high = elim (cases_lt m n) [
  | inl lt ↦ inr (in_bounds (suc m) xs n lt (omega (arith, high)))
  | inr le ↦ inl (omega (arith, low, le))
]

of_bounds : {A : Type 0} (m : ℕ) (xs : List A) (n : ℕ) → IsIn (run m xs) n → (m ≤ n) × (n < m + length xs)
of_bounds m [] n h = absurd h
of_bounds m (x ∷ xs) n (inl e) = (omega (arith, e), omega (arith, e))
of_bounds m (x ∷ xs) n (inr h) =
    let b = of_bounds (suc m) xs n h in
    let low = b.0 in
    let high = b.1 in
    (omega (arith, low), omega (arith, high))

enters_run : {A : Type 0} (m : ℕ) (xs : List A) (k : Option ℕ) → 0 < length xs → enters (run m xs) k ≡ Some m
enters_run m [] k lt = absurd (omega (arith, lt))
enters_run m (x ∷ xs) k lt = refl

module _ (p : Program) (a : Analysis) (statements_are : map doing_number (program_doings p) ≡ range_with_len 0 p.statements) (kept : List Bool) where
  one_kind : (f n : ℕ) (k q : VertexKind) → IsVertex (vertices_of p a) f k n → IsVertex (vertices_of p a) f q n → k ≡ q
  one_kind f n k q h j = ap (λ (v : Vertex). v.kind) (some_same (sym h ∙ j))

  -- the statement of an actual-out of a location
  out_statement : (i j : ℕ) (k : VertexKind) → comes_out i k ≡ true → (is_own j k || is_actual j k) ≡ true → i ≡ j
  out_statement i j kind.Entry e t = absurd (false≢true e)
  out_statement i j (kind.FormalIn s) e t = absurd (false≢true e)
  out_statement i j (kind.FormalOut s) e t = absurd (false≢true e)
  out_statement i j (kind.Statement m) e t = absurd (false≢true e)
  out_statement i j (kind.Call m) e t = absurd (false≢true e)
  out_statement i j (kind.ActualIn m s) e t = absurd (false≢true e)
  out_statement i j (kind.ActualOut m (Argument x)) e t = absurd (false≢true e)
  out_statement i j (kind.ActualOut m Result) e t = absurd (false≢true e)
  out_statement i j (kind.ActualOut m (At x)) e t = sym (eqb-true m i e) ∙ eqb-true m j t

  no_formal : (i : ℕ) (k : VertexKind) → comes_out i k ≡ true → (is_entry k ≡ false) × (is_formal_in k ≡ false) × (is_formal_out k ≡ false)
  no_formal i kind.Entry e = absurd (false≢true e)
  no_formal i (kind.FormalIn s) e = absurd (false≢true e)
  no_formal i (kind.FormalOut s) e = absurd (false≢true e)
  no_formal i (kind.Statement m) e = (refl, refl, refl)
  no_formal i (kind.Call m) e = (refl, refl, refl)
  no_formal i (kind.ActualIn m s) e = (refl, refl, refl)
  no_formal i (kind.ActualOut m s) e = (refl, refl, refl)

  -- no actual-out uses a location
  outs_use_none : (f i n : ℕ) (l : Location) → IsIn (outs_of p a f i) n → uses_at p a n l ≡ false
  outs_use_none f i n l m =
      let k = kind_there p a (comes_out i) f n m in
      uses_is p a f n k.kind l k.is ∙ none k.kind k.passing
    where
      none_at : (o : Option Doing) (x : ℕ) → out_uses p a.points o (At x) l ≡ false
      none_at None x = refl
      none_at (Some (doing.Does j y)) x = refl
      none_at (Some (doing.Calls j t h es)) x = refl

      none : (k : VertexKind) → comes_out i k ≡ true → kind_uses p a.points f k l ≡ false
      none kind.Entry e = absurd (false≢true e)
      none (kind.FormalIn s) e = absurd (false≢true e)
      none (kind.FormalOut s) e = absurd (false≢true e)
      none (kind.Statement j) e = absurd (false≢true e)
      none (kind.Call j) e = absurd (false≢true e)
      none (kind.ActualIn j s) e = absurd (false≢true e)
      none (kind.ActualOut j (Argument x)) e = absurd (false≢true e)
      none (kind.ActualOut j Result) e = absurd (false≢true e)
      none (kind.ActualOut j (At x)) e = none_at (doing_at p f j) x

  -- what comes after an actual-out of a call's location is of the call
  next_out : (f i n : ℕ) (w : Option ℕ) → IsIn (outs_of p a f i) n → Next p a f n w → (past : Option ℕ) × InTurn (vertices_at (vertices_of p a) f i None) past n w
  next_out f i n w m pair = elim pair [
    | inl h ↦ absurd (not_head (in_either (numbers is_entry f (vertices_of p a)) (numbers is_formal_in f (vertices_of p a)) n (in_turn (heads (vertices_of p a) f) _ n w h)))
    | inr (inl h) ↦ inside (turn_of (vertices_at (vertices_of p a) f) (code_in p f) (enters (tails (vertices_of p a) f) None) n w h)
    | inr (inr h) ↦ absurd (not_tail (in_turn (tails (vertices_of p a) f) None n w h))
  ]
    where
      not_tail : IsIn (tails (vertices_of p a) f) n → ⊥
      not_tail t =
          let k = kind_there p a (comes_out i) f n m in
          let q = kind_there p a is_formal_out f n t in
          let same : k.kind ≡ q.kind = one_kind f n k.kind q.kind k.is q.is in
          false_true (sym (no_formal i k.kind k.passing).2 ∙ (ap is_formal_out same ∙ q.passing))

      not_head : IsIn (numbers is_entry f (vertices_of p a)) n ⊎ IsIn (numbers is_formal_in f (vertices_of p a)) n → ⊥
      not_head (inl t) =
          let k = kind_there p a (comes_out i) f n m in
          let q = kind_there p a is_entry f n t in
          let same : k.kind ≡ q.kind = one_kind f n k.kind q.kind k.is q.is in
          false_true (sym (no_formal i k.kind k.passing).0 ∙ (ap is_entry same ∙ q.passing))
      not_head (inr t) =
          let k = kind_there p a (comes_out i) f n m in
          let q = kind_there p a is_formal_in f n t in
          let same : k.kind ≡ q.kind = one_kind f n k.kind q.kind k.is q.is in
          false_true (sym (no_formal i k.kind k.passing).1 ∙ (ap is_formal_in same ∙ q.passing))

      inside : IsTurn (vertices_at (vertices_of p a) f) n w → (past : Option ℕ) × InTurn (vertices_at (vertices_of p a) f i None) past n w
      inside t =
          let k = kind_there p a (comes_out i) f n m in
          let q = kind_there p a (λ (x : VertexKind). is_own t.statement x || is_actual t.statement x) f n (in_turn (vertices_at (vertices_of p a) f t.statement t.act) t.past n w t.turn) in
          let same : k.kind ≡ q.kind = one_kind f n k.kind q.kind k.is q.is in
          let here : i ≡ t.statement = out_statement i t.statement k.kind k.passing (ap (λ (x : VertexKind). is_own t.statement x || is_actual t.statement x) same ∙ q.passing) in
          (t.past, subst (λ (j : ℕ). InTurn (vertices_at (vertices_of p a) f j None) t.past n w) (sym here) t.turn)

  module _ (f i g : ℕ) (to : Target) (args : List Expr) (r : Code) (member : IsIn (doings_of p f) (doing.Calls i to g args)) (l : Location) where
    abbrev mine : CallVertices p a statements_are f i g to args
    mine = own p a statements_are kept f i g to args r member l

    abbrev outs : List ℕ
    outs = outs_of p a f i

    -- it isn't wanted at an actual-out of a location before one that kills it
    none_wanted : (o : Option ℕ) → WantedAt p a kept f l o → (n : ℕ) → o ≡ Some n → IsIn outs n → (d : ℕ) → IsIn outs d → defines_at p a d l ≡ true → n ≤ d → ⊥
    none_wanted o (used {v = v} is u) n e m d j t le =
        let same : v ≡ n = some_same e in
        false_true (sym (outs_use_none f i n l m) ∙ subst (λ (x : ℕ). uses_at p a x l ≡ true) same u)
    none_wanted o (before {v = v} {w = w} pair k h) n e m d j t le =
        let same : v ≡ n = some_same e in
        let kills : kills_at p a n l ≡ false = subst (λ (x : ℕ). kills_at p a x l ≡ false) same k in
        let not_here : n ≢ d = (λ q. false_true (sym kills ∙ (outs_same p a statements_are kept f i g to args r member l n m ∙ (ap (λ (x : ℕ). defines_at p a x l) q ∙ t)))) in
        let t1 = next_out f i n w m (subst (λ (x : ℕ). Next p a f x w) same pair) in
        let low = of_bounds mine.second (out_kinds p a i g) n (subst (λ (ns : List ℕ). IsIn ns n) mine.outs_are m) in
        let high = of_bounds mine.second (out_kinds p a i g) d (subst (λ (ns : List ℕ). IsIn ns d) mine.outs_are j) in
        let low0 = low.0 in
        let high1 = high.1 in
        let long = mine.long in
        let third = mine.third_is in
        let second = mine.second_is in
        let lt : n < d = omega (arith, le, not_here) in
        let next : w ≡ Some (suc n) = next_in_run mine.first (doing_vertices p a.effects (doing.Calls i to g args)) t1.0 n w (subst (λ (ns : List ℕ). InTurn ns t1.0 n w) (mine.all_run None) t1.1) (omega (arith, lt, high1, long, third)) in
        let member_next : IsIn outs (suc n) = subst (λ (ns : List ℕ). IsIn ns (suc n)) (sym mine.outs_are) (in_bounds mine.second (out_kinds p a i g) (suc n) (omega (arith, low0)) (omega (arith, lt, high1))) in
        none_wanted w h (suc n) next member_next d j t lt

    -- what is wanted behind the actual-ins of a call isn't modified by the function called
    pub unmodified : (a.effects.modified g l ≡ true → IsListed p l) → IsWanted p a kept l (Behind f i g to r) → a.effects.modified g l ≡ false
    unmodified listed h =
        not_so (a.effects.modified g l) (λ modified. from_first (out_of p a statements_are kept f i g to args r member l modified (listed modified)))
      where
        from_first : IsDefiner p a kept f l outs → ⊥
        from_first d =
            let b = of_bounds mine.second (out_kinds p a i g) d.vertex (subst (λ (ns : List ℕ). IsIn ns d.vertex) mine.outs_are d.member) in
            let low = b.0 in
            let high = b.1 in
            let first : IsIn outs mine.second = subst (λ (ns : List ℕ). IsIn ns mine.second) (sym mine.outs_are) (in_bounds mine.second (out_kinds p a i g) mine.second (omega arith) (omega (arith, low, high))) in
            let k = enters (results_of p a f i) (entered_at p a f r) in
            let starts : enters outs k ≡ Some mine.second = ap (λ (ns : List ℕ). enters ns k) mine.outs_are ∙ enters_run mine.second (out_kinds p a i g) k (omega (arith, low, high)) in
            none_wanted (enters outs k) h mine.second starts first d.vertex d.member d.defined low
