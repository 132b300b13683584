-- The return that a function ends with flows to the formal-out of its result.
use Rattle.std.proofs.Common.{◌≡◌, ℕ, zero, suc, ◌==◌, ◌<◌, inl, inr, List, [], ◌∷◌, length, map, slice_get, Contains, Bool, true, false, ◌&&◌, ◌||◌, Option, Some, None, refl, sym, ap, ◌∙◌, subst, arith}
use Rattle.std.specs.Option.{option_map_or}
use Rattle.std.proofs.lemmas.Bool.{and_from, or_left}
use Rattle.c_language.proofs.Tests.{false_true}
use Rattle.c_tree.specs.declared.expr.Expr.{Expr}
use Rattle.c_tree.specs.declared.program.Function.{Function}
use Rattle.c_tree.specs.declared.program.Program.{Program}
use Rattle.c_tree.specs.declared.statement.Arm.{Arm, fold-Arm}
use Rattle.c_tree.specs.declared.statement.Statement.{Statement, out-Statement, map-Statement, fold-roll-Statement}
use Rattle.c_tree.specs.declared.statement.Statement.TheOpen.{Statement-F}
use Rattle.c_tree.specs.declared.statement.Statement.TheViews.{roll-out-Statement}
use Rattle.c_tree.specs.declared.statement.Statement.TheVariants as s
use Rattle.c_tree.specs.declared.statement.Target.{Target}
use Rattle.c_tree.specs.declared.statement.Target.TheVariants as target
use Rattle.c_language.specs.Code.{Act, Returns, Code, End, Plain, Loop, leave, block, declared_in, StatementPart, given_to, ArmPart, part_step, arm_step, part, code_of, code}
use Rattle.dep_model.specs.declared.edge.Edge.{Edge}
use Rattle.dep_model.specs.declared.edge.Label.TheVariants as label
use Rattle.dep_model.specs.declared.location.Location.{Location}
use Rattle.dep_model.specs.declared.vertex.Slot.{Slot}
use Rattle.dep_model.specs.declared.vertex.Slot.TheVariants.{Result}
use Rattle.dep_model.specs.declared.vertex.Vertex.{Vertex}
use Rattle.dep_model.specs.declared.vertex.VertexKind.{VertexKind}
use Rattle.dep_model.specs.declared.vertex.VertexKind.TheVariants as kind
use Rattle.dep_model.specs.Denoted.{TargetsOf}
use Rattle.dep_model.specs.DoingEffects.{result_of}
use Rattle.dep_model.specs.Doings.{Doing, Does, Calls, doing_number, doings_of, program_doings}
use Rattle.dep_model.specs.Follows.{enters, InTurn, VerticesAt, Follows, Chain, last, more}
use Rattle.dep_model.specs.FunctionVertices.{is_own, is_actual, is_formal_out, numbers, passes, code_in, vertices_at, tails, FollowsIn}
use Rattle.dep_model.specs.Graphs.{edge}
use Rattle.dep_model.specs.Locations.{same_location}
use Rattle.dep_model.specs.SystemGraph.{Analysis, vertices_of, IsVertex, IsFlowIn, numbered_effects}
use Rattle.dep_model.specs.VertexOrder.{in_function, doing_vertices, function_kinds, vertex_effects, statement_defines, kind_kills}
use Rattle.dep_model.proofs.FollowsLemmas.{seq-second}
use Rattle.dep_model.proofs.Membership.{IsIn, in_of_contains, contains_of_in, in_either, of_map}
use Rattle.dep_model.proofs.VertexNumbers.{Passes, passes_numbers}
use Rattle.sdg.proofs.InFunction.{IsInAs, numbered_as}
use Rattle.shaped_graphs.proofs.KindLaws.{AreApart, OfDoing, in_slots, out_slots, statement_of, IsCallOf, statement_there, call_doing, out_doing, number_in}
use Rattle.shaped_graphs.proofs.VertexLaws.{kind_of, vertex_of}
use Rattle.hanging_sets.specs.Hanging.{EndsWith}
use Rattle.hanging_sets.proofs.HeldVertices.{own_number, same_number}
use Rattle.hanging_sets.proofs.Owners.{same_doing, doing_found}

-- ---- what follows in the rest of a list follows in the list

abbrev layer_part : Statement-F Statement Arm → StatementPart
layer_part z = part_step (map-Statement Statement Arm StatementPart ArmPart part (fold-Arm StatementPart ArmPart part_step arm_step) z)

part_layer : (x : Statement) → part x ≡ layer_part (out-Statement x)
part_layer x = ap part (sym (roll-out-Statement x)) ∙ fold-roll-Statement StatementPart ArmPart part_step arm_step (out-Statement x)

return-code : (i l : ℕ) (e : Option Expr) (r : Code) → code_of (s.Return i l e) r ≡ Plain i (Returns e) r
return-code i l e r =
    ap (λ (x : Statement). code_of x r) (sym (s.rolls-Return i l e)) ∙ ap (λ (x : StatementPart). x.before r) (fold-roll-Statement StatementPart ArmPart part_step arm_step (Statement-F.Return i l e))

module _ {V : Type 0} (at : VerticesAt V) (k : Option V) where
  abbrev IsBehind : StatementPart → Type 0
  IsBehind q = (r : Code) (v : V) (w : Option V) → Follows at r k v w → Follows at (q.before r) k v w

  behind_given : (to : Target) (f : Code → Code) → ((r : Code) (v : V) (w : Option V) → Follows at r k v w → Follows at (f r) k v w) → IsBehind (given_to to f)
  behind_given target.None f h r v w c = h r v w c
  behind_given (target.Place e) f h r v w c = h r v w c
  behind_given (target.Declared x) f h r v w c = h r v w c

  behind_leave : (xs : List ℕ) (r : Code) (v : V) (w : Option V) → Follows at r k v w → Follows at (leave xs r) k v w
  behind_leave [] r v w c = c
  behind_leave (x ∷ xs) r v w c = c

  behind_layer : (z : Statement-F Statement Arm) → IsBehind (layer_part z)
  behind_layer (Statement-F.Declare None l x i) r v w c = c
  behind_layer (Statement-F.Declare (Some id) l x i) r v w c = inr c
  behind_layer (Statement-F.Assign id l left op right) r v w c = inr c
  behind_layer (Statement-F.Bump id l e up before) r v w c = inr c
  behind_layer (Statement-F.Invoke id l to f args) r v w c = behind_given to _ (λ q x y d. inr d) r v w c
  behind_layer (Statement-F.Fetch id l to) r v w c = behind_given to _ (λ q x y d. inr d) r v w c
  behind_layer (Statement-F.Write id l e) r v w c = inr c
  behind_layer (Statement-F.Print id l format args) r v w c = inr c
  behind_layer (Statement-F.Heap id l to cast n) r v w c = behind_given to _ (λ q x y d. inr d) r v w c
  behind_layer (Statement-F.Release id l e) r v w c = inr c
  behind_layer (Statement-F.If id l e b d) r v w c = inr (inr c)
  behind_layer (Statement-F.While id l e b) r v w c = inr (inr (inr c))
  behind_layer (Statement-F.Do id l e b) r v w c = seq-second at (block (map part b)) (Loop id e (block (map part b)) r) k v w (inr (inr (inr c)))
  behind_layer (Statement-F.For id l None e None b) r v w c = inr (inr (inr c))
  behind_layer (Statement-F.For id l None e (Some y) b) r v w c = inr (inr (inr c))
  behind_layer (Statement-F.For id l (Some x) e None b) r v w c = seq-second at ((part x).before End) _ k v w (inr (inr (inr (behind_leave (declared_in (part x ∷ [])) r v w c))))
  behind_layer (Statement-F.For id l (Some x) e (Some y) b) r v w c = seq-second at ((part x).before End) _ k v w (inr (inr (inr (behind_leave (declared_in (part x ∷ [])) r v w c))))
  behind_layer (Statement-F.Switch id l e arms) r v w c = inr (inr c)
  behind_layer (Statement-F.Block l b) r v w c = seq-second at (block (map part b)) r k v w c
  behind_layer (Statement-F.Return id l e) r v w c = inr c

  behind : (x : Statement) → IsBehind (part x)
  behind x = subst IsBehind (sym (part_layer x)) (behind_layer (out-Statement x))

  -- the last vertex of a return at the end of a list is followed by what follows the list
  ends_last : (i : ℕ) (e : Option Expr) (xs : List Statement) → EndsWith i e xs → (v : V) → InTurn (at i (Some (Returns e))) k v k → Follows at (code xs) k v k
  ends_last i e [] h v c = absurd h
  ends_last i e (x ∷ []) (l, is) v c = subst (λ (y : Statement). Follows at (code_of y End) k v k) (sym is) (subst (λ (r : Code). Follows at r k v k) (sym (return-code i l e End)) (inl c))
  ends_last i e (x ∷ (y ∷ rest)) h v c = behind x (code (y ∷ rest)) v k (ends_last i e (y ∷ rest) h v c)

-- ---- numbers in turn

-- the last of some numbers
record IsLast (xs : List ℕ) (k : Option ℕ) : Type 0 where
  number : ℕ
  member : Contains xs number
  turn : InTurn xs k number k

last_of : (xs : List ℕ) (k : Option ℕ) (v : ℕ) → IsIn xs v → IsLast xs k
last_of [] k v m = absurd m
last_of (x ∷ []) k v m = record { number = x; member = contains_of_in (x ∷ []) x (inl refl); turn = inl (refl, refl) }
last_of (x ∷ (y ∷ rest)) k v m =
    let w = last_of (y ∷ rest) k y (inl refl) in
    record { number = w.number; member = contains_of_in (x ∷ (y ∷ rest)) w.number (inr (in_of_contains (y ∷ rest) w.number w.member)); turn = inr w.turn }

-- from what is followed by the first of some numbers a chain leads to each of them
module _ (order : ℕ → ℕ → Type 0) (kills : ℕ → Location → Bool) (l : Location) where
  along : (xs : List ℕ) → ((v w : ℕ) → InTurn xs None v (Some w) → order v w) → ((t : ℕ) → IsIn xs t → kills t l ≡ false) → (v : ℕ) → ((w : ℕ) → enters xs None ≡ Some w → order v w) → (u : ℕ) → IsIn xs u → Chain order kills l v u
  along [] turns quiet v first u m = absurd m
  along (t ∷ ts) turns quiet v first u (inl same) = last (subst (order v) same (first t refl))
  along (t ∷ ts) turns quiet v first u (inr m) =
      more {u = t} (first t refl) (quiet t (inl refl)) (along ts (λ x y h. turns x y (inr h)) (λ x h. quiet x (inr h)) t (λ w e. turns t w (inl (refl, sym e))) u m)

module _ (p : Program) (a : Analysis) (apart : AreApart (program_doings p)) (g j : ℕ) (e : Expr) (c : Function) (there : slice_get p.functions g ≡ Some c) (ends : EndsWith j (Some e) c.body) (m : IsIn (doings_of p g) (Does j (Returns (Some e)))) (low : g < length p.functions) where
  abbrev vs : List Vertex
  vs = vertices_of p a

  abbrev return : Doing
  return = Does j (Returns (Some e))

  -- each vertex of its number is its vertex
  actual_doing : (d : Doing) (i : ℕ) (t : Slot) → IsIn (doing_vertices p a.effects d) (kind.ActualIn i t) → IsCallOf p a.effects d i
  actual_doing (Does n b) i t (inl q) = absurd cc
  actual_doing (Does n b) i t (inr h) = absurd h
  actual_doing (Calls n to h args) i t (inl q) = absurd cc
  actual_doing (Calls n to h args) i t (inr q) = elim (in_either (map (kind.ActualIn n) (in_slots p a.effects h args)) (map (kind.ActualOut n) (out_slots p a.effects h to)) (kind.ActualIn i t) q) [
    | inl b ↦ record { target = to; callee = h; args = args; is = ap (λ (k : VertexKind). Calls (number_in k 0) to h args) (of_map (kind.ActualIn n) (in_slots p a.effects h args) (kind.ActualIn i t) b).2 }
    | inr b ↦
        let z : kind.ActualOut n (of_map (kind.ActualOut n) (out_slots p a.effects h to) (kind.ActualIn i t) b).0 ≡ kind.ActualIn i t = (of_map (kind.ActualOut n) (out_slots p a.effects h to) (kind.ActualIn i t) b).2 in
        absurd cc
  ]

  no_call : {B : Type 0} (d : Doing) → IsIn (doings_of p g) d → IsCallOf p a.effects d j → B
  no_call d n w =
      let same : Calls j w.target w.callee w.args ≡ return = sym w.is ∙ (same_doing p apart g g d return n m (ap doing_number w.is)).1 in
      absurd cc

  only_statement : (k : VertexKind) (v : ℕ) → IsVertex vs g k v → (is_own j k || is_actual j k) ≡ true → k ≡ kind.Statement j
  only_statement kind.Entry v at h = false_true h
  only_statement (kind.FormalIn t) v at h = false_true h
  only_statement (kind.FormalOut t) v at h = false_true h
  only_statement (kind.Statement i) v at h = by_own (i == j) refl h
    where
      by_own : (b : Bool) → (i == j) ≡ b → (b || false) ≡ true → kind.Statement i ≡ kind.Statement j
      by_own true q h = ap kind.Statement (same_number i j q)
      by_own false q h = false_true h
  only_statement (kind.Call i) v at h = by_own (i == j) refl h
    where
      by_own : (b : Bool) → (i == j) ≡ b → (b || false) ≡ true → kind.Call i ≡ kind.Statement j
      by_own true q h =
          let of = statement_of p a.effects g (kind.Call i) refl (kind_of p a g (kind.Call i) v at) in
          no_call of.doing of.member (subst (IsCallOf p a.effects of.doing) (same_number i j q) (call_doing p a.effects of.doing i of.has))
      by_own false q h = false_true h
  only_statement (kind.ActualIn i t) v at h =
      let of = statement_of p a.effects g (kind.ActualIn i t) refl (kind_of p a g (kind.ActualIn i t) v at) in
      no_call of.doing of.member (subst (IsCallOf p a.effects of.doing) (same_number i j h) (actual_doing of.doing i t of.has))
  only_statement (kind.ActualOut i t) v at h =
      let of = statement_of p a.effects g (kind.ActualOut i t) refl (kind_of p a g (kind.ActualOut i t) v at) in
      no_call of.doing of.member (subst (IsCallOf p a.effects of.doing) (same_number i j h) (out_doing p a.effects of.doing i t of.has).0)

  abbrev own_numbers : List ℕ
  own_numbers = vertices_at vs g j (Some (Returns (Some e)))

  abbrev behind_all : Option ℕ
  behind_all = enters (tails vs g) None

  -- the last vertex of its number
  return_last : IsLast own_numbers behind_all
  return_last =
      let v = vertex_of p a g (kind.Statement j) low (statement_there_is m) in
      last_of own_numbers behind_all v.0 (in_of_contains own_numbers v.0
      (passes_numbers (λ (k : VertexKind). is_own j k || is_actual j k) g vs v.0 (record { one = in_function g (kind.Statement j); at = v.1; passing = and_from (g == g) ((j == j) || false) (own_number g) (or_left (j == j) false (own_number j)) })))
    where
      statement_there_is : IsIn (doings_of p g) return → IsIn (function_kinds p a.effects g) (kind.Statement j)
      statement_there_is n = statement_there p a.effects g return (kind.Statement j) n (inl refl)

  return_vertex : IsVertex vs g (kind.Statement j) return_last.number
  return_vertex =
      let w = numbered_as (λ (k : VertexKind). is_own j k || is_actual j k) vs g return_last.number return_last.member in
      subst (λ (k : VertexKind). IsVertex vs g k return_last.number) (only_statement w.kind return_last.number w.at w.passing) w.at

  -- a vertex of the return, with a flow edge to u
  pub record ReturnsTo (points : TargetsOf) (u : ℕ) : Type 0 where
    pub number : ℕ
    pub at : IsVertex vs g (kind.Statement j) number
    pub flows : IsFlowIn p points vs g (edge number u label.Flow)

  abbrev order : ℕ → ℕ → Type 0
  order v w = FollowsIn p vs g v (Some w)

  first : (w : ℕ) → behind_all ≡ Some w → order return_last.number w
  first w is =
      let inside : Follows (vertices_at vs g) (code c.body) behind_all return_last.number behind_all = ends_last (vertices_at vs g) behind_all j (Some e) c.body ends return_last.number return_last.turn in
      let here : Follows (vertices_at vs g) (code_in p g) behind_all return_last.number behind_all =
      subst (λ (o : Option Function). Follows (vertices_at vs g) (option_map_or (λ (h : Function). code h.body) o End) behind_all return_last.number behind_all) (sym there) inside
      in
      inr (inl (subst (λ (o : Option ℕ). Follows (vertices_at vs g) (code_in p g) behind_all return_last.number o) is here))

  module _ (points : TargetsOf) where
    abbrev l : Location
    l = result_of g

    no_kill : (k : VertexKind) → is_formal_out k ≡ true → kind_kills p points g k l ≡ false
    no_kill kind.Entry h = false_true h
    no_kill (kind.FormalIn t) h = false_true h
    no_kill (kind.FormalOut t) h = refl
    no_kill (kind.Statement i) h = false_true h
    no_kill (kind.Call i) h = false_true h
    no_kill (kind.ActualIn i t) h = false_true h
    no_kill (kind.ActualOut i t) h = false_true h

    quiet : (t : ℕ) → IsIn (tails vs g) t → (numbered_effects p points vs).kills t l ≡ false
    quiet t n =
        let w = numbered_as is_formal_out vs g t (contains_of_in (tails vs g) t n) in
        ap (λ (o : Option Vertex). option_map_or (λ (x : Vertex). (vertex_effects p points).kills x l) o false) w.at ∙ no_kill w.kind w.passing

    itself : same_location l l ≡ true
    itself = and_from _ _ (own_number g) refl

    defined : (numbered_effects p points vs).defines return_last.number l ≡ true
    defined =
        ap (λ (o : Option Vertex). option_map_or (λ (x : Vertex). (vertex_effects p points).defines x l) o false) return_vertex
        ∙ ap (λ (o : Option Doing). statement_defines p points g o l) (doing_found p apart g return m) ∙ itself

    -- the flow edge from the return to the formal-out of the result
    return_edge : (u : ℕ) → IsVertex vs g (kind.FormalOut Result) u → IsFlowIn p points vs g (edge return_last.number u label.Flow)
    return_edge u at = record {
      labelled = refl;
      flows = record {
        location = l;
        defined = defined;
        used = ap (λ (o : Option Vertex). option_map_or (λ (x : Vertex). (vertex_effects p points).uses x l) o false) at ∙ itself;
        chain = along order (numbered_effects p points vs).kills l (tails vs g) (λ v w h. inr (inr h)) quiet return_last.number first u
            (in_of_contains (tails vs g) u (passes_numbers is_formal_out g vs u (record { one = in_function g (kind.FormalOut Result); at = at; passing = and_from (g == g) true (own_number g) refl })));
      };
    }

    pub return_flows : (u : ℕ) → IsVertex vs g (kind.FormalOut Result) u → ReturnsTo points u
    return_flows u at = record { number = return_last.number; at = return_vertex; flows = return_edge u at }
