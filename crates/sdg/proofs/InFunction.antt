-- Control and flow edges of a function join vertices of that function.
use Rattle.std.proofs.Common.{◌≡◌, ℕ, suc, ◌+◌, ◌<◌, ◌≤◌, ◌==◌, inl, inr, List, [], ◌∷◌, ◌++◌, length, map, slice_get, Contains, Option, Some, None, Bool, true, ◌||◌, sym, ap, ◌∙◌, subst, arith}
use Rattle.std.proofs.lemmas.Bool.{and_parts}
use Rattle.std.proofs.lemmas.Bool.Decides.{Decides-eqb}
use Rattle.std.proofs.lemmas.Option.{same_Some}
use Rattle.std.proofs.lemmas.List.{length-append}
use Rattle.std.proofs.lemmas.List.Elements.{Contains-append_cases}
use Rattle.rule_closure.proofs.ListLemmas.{contains_head, contains_cons}
use Rattle.c_tree.specs.declared.program.Function.{Function}
use Rattle.c_tree.specs.declared.program.Program.{Program}
use Rattle.c_language.specs.Code.{Act, Tests, Code, End, Opens, Plain, Fork, Loop, Leaves, Call}
use Rattle.dep_model.specs.Controls.{Controller}
use Rattle.dep_model.specs.declared.edge.Edge.{Edge}
use Rattle.dep_model.specs.declared.vertex.Vertex.{Vertex}
use Rattle.dep_model.specs.declared.vertex.VertexKind.{VertexKind}
use Rattle.dep_model.specs.declared.vertex.VertexKind.TheVariants.{Entry}
use Rattle.dep_model.specs.Denoted.{TargetsOf}
use Rattle.dep_model.specs.Follows.{enters, InTurn, VerticesAt, start, Follows, Chain, last, more}
use Rattle.dep_model.specs.FunctionVertices.{is_own, is_actual, is_entry, is_formal_in, is_formal_out, numbers, vertices_at, heads, tails, code_in, FollowsIn, controller_vertices, IsControlIn, nested, formal, actual}
use Rattle.dep_model.specs.ModRef.{FunctionEffects}
use Rattle.dep_model.specs.SystemGraph.{Analysis, vertices_of, IsVertex, IsFlowIn, numbered_effects}
use Rattle.dep_model.specs.Doings.{doings_of}
use Rattle.dep_model.specs.VertexOrder.{in_function, formal_ins, formal_outs, all_vertices, function_kinds, vertices_from}
use Rattle.dep_model.proofs.FunctionOrder.{from_functions}
use Rattle.dep_model.proofs.VertexNumbers.{numbers_pass}

-- vertex number v belongs to function f
pub record IsIn (vs : List Vertex) (f v : ℕ) : Type 0 where
  pub kind : VertexKind
  pub at : IsVertex vs f kind v

-- it does, and its kind passes a test
pub record IsInAs (test : VertexKind → Bool) (vs : List Vertex) (f v : ℕ) : Type 0 where
  pub kind : VertexKind
  pub at : IsVertex vs f kind v
  pub passing : test kind ≡ true

pub numbered_as : (test : VertexKind → Bool) (vs : List Vertex) (f v : ℕ) → Contains (numbers test f vs) v → IsInAs test vs f v
numbered_as test vs f v m =
    let w = numbers_pass test f vs v m in
    let parts = and_parts (w.one.function == f) (test w.one.kind) w.passing in
    let same : w.one.function ≡ f = (Decides-eqb w.one.function f).0 parts.0 in
    record { kind = w.one.kind; at = w.at ∙ ap (λ g. Some (in_function g w.one.kind)) same; passing = parts.1 }

pub numbered_in : (test : VertexKind → Bool) (vs : List Vertex) (f v : ℕ) → Contains (numbers test f vs) v → IsIn vs f v
numbered_in test vs f v m = let w = numbered_as test vs f v m in record { kind = w.kind; at = w.at }

-- ---- as many vertices as functions, at least

module _ (p : Program) (effects : FunctionEffects) where
  some : (n : ℕ) (ks : List VertexKind) → 1 ≤ length (map (in_function n) (Entry ∷ ks))
  some n ks = omega arith

  -- each function has a vertex, its entry
  as_many : (n : ℕ) (gs : List Function) → length gs ≤ length (vertices_from p effects n gs)
  as_many n [] = omega arith
  as_many n (g ∷ gs) =
      let own = map (in_function n) (function_kinds p effects n) in
      let others = vertices_from p effects (suc n) gs in
      let rest = as_many (suc n) gs in
      let joined : length (own ++ others) ≡ length own + length others = length-append own others in
      let first : 1 ≤ length own = some n (formal_ins p effects n ++ (all_vertices p effects (doings_of p n) ++ formal_outs p effects n)) in
      omega (arith, rest, joined, first)

pub functions_few : (p : Program) (a : Analysis) → length p.functions ≤ length (vertices_of p a)
functions_few p a = as_many p a.effects 0 p.functions

pub in_a_function : (p : Program) (a : Analysis) (f v : ℕ) → IsIn (vertices_of p a) f v → f < length p.functions
in_a_function p a f v w =
    let low = (from_functions p a.effects 0 p.functions v (in_function f w.kind) w.at).1 in omega (arith, low)

-- ---- pairs of an order stay among the vertices that it is of

module _ (P : ℕ → Type 0) where
  abbrev AllAre : List ℕ → Type 0
  AllAre xs = (v : ℕ) → Contains xs v → P v

  abbrev NextIs : Option ℕ → Type 0
  NextIs k = (w : ℕ) → k ≡ Some w → P w

  enters_are : (xs : List ℕ) (k : Option ℕ) → AllAre xs → NextIs k → NextIs (enters xs k)
  enters_are [] k all next w e = next w e
  enters_are (x ∷ xs) k all next w e = subst P (same_Some _ _ e) (all x (contains_head x xs))

  turns_are : (xs : List ℕ) (k : Option ℕ) (v w : ℕ) → AllAre xs → NextIs k → InTurn xs k v (Some w) → P v × P w
  turns_are [] k v w all next h = absurd h
  turns_are (x ∷ xs) k v w all next (inl h) =
      (subst P (sym h.0) (all x (contains_head x xs)), enters_are xs k (λ u m. all u (contains_cons x xs u m)) next w (sym h.1))
  turns_are (x ∷ xs) k v w all next (inr h) = turns_are xs k v w (λ u m. all u (contains_cons x xs u m)) next h

  module _ (at : VerticesAt ℕ) (each : (i : ℕ) (a : Option Act) → AllAre (at i a)) where
    start_is : (c : Code) (k : Option ℕ) → NextIs k → NextIs (start at c k)
    start_is End k next = next
    start_is (Opens x r) k next = start_is r k next
    start_is (Plain i a r) k next = enters_are (at i (Some a)) (start at r k) (each i (Some a)) (start_is r k next)
    start_is (Fork i e c r) k next = enters_are (at i (Some (Tests e))) (start at r k) (each i (Some (Tests e))) (start_is r k next)
    start_is (Loop i e b r) k next = enters_are (at i (Some (Tests e))) (start at r k) (each i (Some (Tests e))) (start_is r k next)
    start_is (Leaves xs r) k next = start_is r k next
    start_is (Call i to f args r) k next = enters_are (at i None) (start at r k) (each i None) (start_is r k next)

    follows_are : (c : Code) (k : Option ℕ) (v w : ℕ) → NextIs k → Follows at c k v (Some w) → P v × P w
    follows_are End k v w next h = absurd h
    follows_are (Opens x r) k v w next h = follows_are r k v w next h
    follows_are (Plain i a r) k v w next (inl h) = turns_are (at i (Some a)) (start at r k) v w (each i (Some a)) (start_is r k next) h
    follows_are (Plain i a r) k v w next (inr h) = follows_are r k v w next h
    follows_are (Fork i e c r) k v w next (inl h) =
        turns_are (at i (Some (Tests e))) (start at (c h.0) (start at r k)) v w (each i (Some (Tests e))) (start_is (c h.0) (start at r k) (start_is r k next)) h.1
    follows_are (Fork i e c r) k v w next (inr (inl h)) = follows_are (c h.0) (start at r k) v w (start_is r k next) h.1
    follows_are (Fork i e c r) k v w next (inr (inr h)) = follows_are r k v w next h
    follows_are (Loop i e b r) k v w next (inl h) =
        let test = at i (Some (Tests e)) in
        turns_are test (start at b (enters test (start at r k))) v w (each i (Some (Tests e))) (start_is b (enters test (start at r k)) (enters_are test (start at r k) (each i (Some (Tests e))) (start_is r k next))) h
    follows_are (Loop i e b r) k v w next (inr (inl h)) = turns_are (at i (Some (Tests e))) (start at r k) v w (each i (Some (Tests e))) (start_is r k next) h
    follows_are (Loop i e b r) k v w next (inr (inr (inl h))) =
        let test = at i (Some (Tests e)) in
        follows_are b (enters test (start at r k)) v w (enters_are test (start at r k) (each i (Some (Tests e))) (start_is r k next)) h
    follows_are (Loop i e b r) k v w next (inr (inr (inr h))) = follows_are r k v w next h
    follows_are (Leaves xs r) k v w next h = follows_are r k v w next h
    follows_are (Call i to f args r) k v w next (inl h) = turns_are (at i None) (start at r k) v w (each i None) (start_is r k next) h
    follows_are (Call i to f args r) k v w next (inr h) = follows_are r k v w next h

-- ---- the edges of a function

module _ (p : Program) (vs : List Vertex) (f : ℕ) where
  pub order_in : (v w : ℕ) → FollowsIn p vs f v (Some w) → IsIn vs f v × IsIn vs f w
  order_in v w h =
      let P = IsIn vs f in
      let all_tails : (u : ℕ) → Contains (tails vs f) u → P u = numbered_in is_formal_out vs f in
      let all_heads : (u : ℕ) → Contains (heads vs f) u → P u = λ u m. elim (Contains-append_cases (numbers is_entry f vs) (numbers is_formal_in f vs) u m) [
        | inl b ↦ numbered_in is_entry vs f u b
        | inr b ↦ numbered_in is_formal_in vs f u b
      ] in
      let each : (i : ℕ) (a : Option Act) (u : ℕ) → Contains (vertices_at vs f i a) u → P u = λ i a u m. numbered_in (λ k. is_own i k || is_actual i k) vs f u m in
      let nothing : (u : ℕ) → None ≡ Some u → P u = λ u e. none_next u e in
      let ends = enters_are P (tails vs f) None all_tails nothing in
      elim h [
        | inl a ↦ turns_are P (heads vs f) (start (vertices_at vs f) (code_in p f) (enters (tails vs f) None)) v w all_heads (start_is P (vertices_at vs f) each (code_in p f) (enters (tails vs f) None) ends) a
        | inr b ↦ elim b [
          | inl c ↦ follows_are P (vertices_at vs f) each (code_in p f) (enters (tails vs f) None) v w ends c
          | inr d ↦ turns_are P (tails vs f) None v w all_tails nothing d
        ]
      ]
    where
      none_next : (u : ℕ) → None ≡ Some u → IsIn vs f u
      none_next u e = cc

  chain_in : {L : Type 0} (kills : ℕ → L → Bool) (l : L) (v w : ℕ) → Chain (λ (x y : ℕ). FollowsIn p vs f x (Some y)) kills l v w → IsIn vs f v × IsIn vs f w
  chain_in kills l v w (last o) = order_in v w o
  chain_in kills l v w (more {u = u} o k rest) = ((order_in v u o).0, (chain_in kills l u w rest).1)

  pub flow_in : (points : TargetsOf) (e : Edge) → IsFlowIn p points vs f e → IsIn vs f e.from × IsIn vs f e.to
  flow_in points e h = chain_in (numbered_effects p points vs).kills h.flows.location e.from e.to h.flows.chain

  controller_in : (c : Controller) (v : ℕ) → Contains (controller_vertices vs f c) v → IsIn vs f v
  controller_in None v m = numbered_in is_entry vs f v m
  controller_in (Some i) v m = numbered_in (is_own i) vs f v m

  pub control_in : (e : Edge) → IsControlIn p vs f e → IsIn vs f e.from × IsIn vs f e.to
  control_in e (nested c i labelled controls from to) = (controller_in c e.from from, numbered_in (is_own i) vs f e.to to)
  control_in e (formal labelled from to) = (numbered_in is_entry vs f e.from from, numbered_in (λ k. is_formal_in k || is_formal_out k) vs f e.to to)
  control_in e (actual i labelled from to) = (numbered_in (is_own i) vs f e.from from, numbered_in (is_actual i) vs f e.to to)
