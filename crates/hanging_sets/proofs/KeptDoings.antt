-- What is kept of a statement, by its vertices.
use Rattle.std.proofs.Common.{◌≡◌, ℕ, zero, suc, ◌+◌, ◌<◌, ◌≤◌, inl, inr, List, [], ◌∷◌, ◌++◌, length, map, Bool, true, false, Some, refl, sym, ap, ◌∙◌, subst, arith}
use Rattle.std.specs.Prelude.{if◌then◌else◌}
use Rattle.c_tree.specs.declared.expr.Expr.{Expr}
use Rattle.c_tree.specs.declared.program.Program.{Program}
use Rattle.c_tree.specs.declared.statement.Target.{Target}
use Rattle.c_language.specs.Code.{Act}
use Rattle.dep_model.specs.declared.vertex.Slot.{Slot}
use Rattle.dep_model.specs.declared.vertex.Slot.TheVariants.{Argument, Result, At}
use Rattle.dep_model.specs.declared.vertex.Vertex.{Vertex}
use Rattle.dep_model.specs.declared.vertex.VertexKind.{VertexKind}
use Rattle.dep_model.specs.declared.vertex.VertexKind.TheVariants.{Entry, FormalIn, FormalOut, Statement, Call, ActualIn, ActualOut}
use Rattle.dep_model.specs.Denoted.{Places}
use Rattle.dep_model.specs.Doings.{Doing, Does, Calls, doing_number, doings_of, program_doings}
use Rattle.dep_model.specs.Locations.{TypedLocation, locations}
use Rattle.dep_model.specs.ModRef.{FunctionEffects}
use Rattle.dep_model.specs.SystemGraph.{Analysis, vertices_of, IsVertex}
use Rattle.dep_model.specs.VertexOrder.{arguments_from, slots_from, slots_of, touched, doing_vertices, function_kinds}
use Rattle.dep_model.proofs.Membership.{IsIn, in_either, of_map}
use Rattle.projection.specs.KeptVertices.{kept_words}
use Rattle.shaped_graphs.proofs.KindLaws.{AreApart, OfDoing, in_slots, out_slots, statement_of, IsCallOf, call_doing, out_doing, number_in}
use Rattle.shaped_graphs.proofs.VertexLaws.{kind_of}
use Rattle.hanging_sets.proofs.HeldVertices.{IsKept, IsKeptIn, IsOwnKept, as_statement, as_call, of_statement, of_result, of_argument}
use Rattle.hanging_sets.proofs.Owners.{same_doing}

-- the vertex of a statement: a call statement's is its call
abbrev pub own_kind : Doing → VertexKind
own_kind (Does i a) = Statement i
own_kind (Calls i to g args) = Call i

-- ---- what a kind of vertex tells of its statement

-- a slot among those of arguments, the first of which has this place
argument_in : {A : Type 0} (k : ℕ) (as_ : List A) (n : ℕ) → IsIn (arguments_from k as_) (Argument n) → n < k + length as_
argument_in k [] n h = absurd h
argument_in k (a ∷ as_) n (inl e) = let same : k ≡ n = ap slot_number e in omega (arith, same)
  where
    slot_number : Slot → ℕ
    slot_number (Argument m) = m
    slot_number Result = 0
    slot_number (At m) = 0
argument_in k (a ∷ as_) n (inr h) = let low = argument_in (suc k) as_ n h in omega (arith, low)

no_argument : (test : Places) (k : ℕ) (os : List TypedLocation) (n : ℕ) → IsIn (slots_from test k os) (Argument n) → ⊥
no_argument test k [] n h = h
no_argument test k (o ∷ os) n h = by_test (test o.location) (λ m. no_argument test (suc k) os n m) h
  where
    by_test : (b : Bool) → (IsIn (slots_from test (suc k) os) (Argument n) → ⊥) → IsIn (if b then At k ∷ slots_from test (suc k) os else slots_from test (suc k) os) (Argument n) → ⊥
    by_test true later (inl e) = clash e
      where
        clash : At k ≡ Argument n → ⊥
        clash e = absurd cc
    by_test true later (inr m) = later m
    by_test false later m = later m

module _ (p : Program) (effects : FunctionEffects) where
  -- an act with this number
  pub record IsActOf (d : Doing) (i : ℕ) : Type 0 where
    pub act : Act
    pub is : d ≡ Does i act

  statement_doing : (d : Doing) (i : ℕ) → IsIn (doing_vertices p effects d) (Statement i) → IsActOf d i
  statement_doing (Does j a) i (inl e) = record { act = a; is = ap (λ (k : VertexKind). Does (number_in k 0) a) e }
  statement_doing (Does j a) i (inr h) = absurd h
  statement_doing (Calls j to g args) i (inl e) = absurd cc
  statement_doing (Calls j to g args) i (inr h) = elim (in_either (map (ActualIn j) (in_slots p effects g args)) (map (ActualOut j) (out_slots p effects g to)) (Statement i) h) [
    | inl a ↦ let e : ActualIn j (of_map (ActualIn j) (in_slots p effects g args) (Statement i) a).0 ≡ Statement i = (of_map (ActualIn j) (in_slots p effects g args) (Statement i) a).2 in absurd cc
    | inr b ↦ let e : ActualOut j (of_map (ActualOut j) (out_slots p effects g to) (Statement i) b).0 ≡ Statement i = (of_map (ActualOut j) (out_slots p effects g to) (Statement i) b).2 in absurd cc
  ]

  abbrev slot_in : VertexKind → Slot
  slot_in Entry = Result
  slot_in (FormalIn s) = s
  slot_in (FormalOut s) = s
  slot_in (Statement i) = Result
  slot_in (Call i) = Result
  slot_in (ActualIn i s) = s
  slot_in (ActualOut i s) = s

  -- the actual-in of an argument is of a call with so many
  pub record IsArgumentOf (d : Doing) (i n : ℕ) : Type 0 where
    pub target : Target
    pub callee : ℕ
    pub args : List Expr
    pub is : d ≡ Calls i target callee args
    pub within : n < length args

  argument_doing : (d : Doing) (i n : ℕ) → IsIn (doing_vertices p effects d) (ActualIn i (Argument n)) → IsArgumentOf d i n
  argument_doing (Does j a) i n (inl e) = absurd cc
  argument_doing (Does j a) i n (inr h) = absurd h
  argument_doing (Calls j to g args) i n (inl e) = absurd cc
  argument_doing (Calls j to g args) i n (inr h) = elim (in_either (map (ActualIn j) (in_slots p effects g args)) (map (ActualOut j) (out_slots p effects g to)) (ActualIn i (Argument n)) h) [
    | inl a ↦
        let w = of_map (ActualIn j) (in_slots p effects g args) (ActualIn i (Argument n)) a in
        let slot : IsIn (in_slots p effects g args) (Argument n) = subst (IsIn (in_slots p effects g args)) (ap slot_in w.2) w.1 in
        record { target = to; callee = g; args = args; is = ap (λ (k : VertexKind). Calls (number_in k 0) to g args) w.2; within = among g args slot }
    | inr b ↦ let e : ActualOut j (of_map (ActualOut j) (out_slots p effects g to) (ActualIn i (Argument n)) b).0 ≡ ActualIn i (Argument n) = (of_map (ActualOut j) (out_slots p effects g to) (ActualIn i (Argument n)) b).2 in absurd cc
  ]
    where
      among : (g : ℕ) (args : List Expr) → IsIn (in_slots p effects g args) (Argument n) → n < length args
      among g args m = elim (in_either (arguments_from 0 args) (slots_of p effects (touched p effects g)) (Argument n) m) [
        | inl a ↦ let low = argument_in 0 args n a in omega (arith, low)
        | inr b ↦ absurd (no_argument (touched p effects g) 0 (locations p) n b)
      ]

-- ---- statements that are kept

module _ (p : Program) (a : Analysis) (set : List Bool) (apart : AreApart (program_doings p)) where
  abbrev vs : List Vertex
  vs = vertices_of p a

  -- the vertex of a kept statement is in the set
  pub owned : (f : ℕ) (d : Doing) → IsIn (doings_of p f) d → (kept_words set vs).statement (doing_number d) ≡ true → IsKept set vs f (own_kind d)
  owned f d m h = by_vertex (of_statement set vs (doing_number d) h)
    where
      moved : (g : ℕ) (e : Doing) (kind : VertexKind) → IsKept set vs g kind → (g ≡ f) × (e ≡ d) → kind ≡ own_kind e → IsKept set vs f (own_kind d)
      moved g e kind w same is = subst (λ (n : ℕ). IsKept set vs n (own_kind d)) same.0 (subst (λ (k : VertexKind). IsKept set vs g k) (is ∙ ap own_kind same.1) w)

      by_vertex : IsOwnKept set vs (doing_number d) → IsKept set vs f (own_kind d)
      by_vertex (as_statement w) =
          let of = statement_of p a.effects w.function (Statement (doing_number d)) refl (kind_of p a w.function (Statement (doing_number d)) w.kept.number w.kept.at) in
          let act = statement_doing p a.effects of.doing (doing_number d) of.has in
          moved w.function of.doing (Statement (doing_number d)) w.kept (same_doing p apart w.function f of.doing d of.member m (ap doing_number act.is)) (ap own_kind (sym act.is))
      by_vertex (as_call w) =
          let of = statement_of p a.effects w.function (Call (doing_number d)) refl (kind_of p a w.function (Call (doing_number d)) w.kept.number w.kept.at) in
          let call = call_doing p a.effects of.doing (doing_number d) of.has in
          moved w.function of.doing (Call (doing_number d)) w.kept (same_doing p apart w.function f of.doing d of.member m (ap doing_number call.is)) (ap own_kind (sym call.is))

  -- the actual-in of a kept argument is in the set
  pub argument_owned : (f i g n : ℕ) (to : Target) (args : List Expr) → IsIn (doings_of p f) (Calls i to g args) → (kept_words set vs).argument i n ≡ true → IsKept set vs f (ActualIn i (Argument n))
  argument_owned f i g n to args m h =
      let w = of_argument set vs i n h in
      let of = statement_of p a.effects w.function (ActualIn i (Argument n)) refl (kind_of p a w.function (ActualIn i (Argument n)) w.kept.number w.kept.at) in
      let call = argument_doing p a.effects of.doing i n of.has in
      let same = same_doing p apart w.function f of.doing (Calls i to g args) of.member m (ap doing_number call.is) in
      subst (λ (x : ℕ). IsKept set vs x (ActualIn i (Argument n))) same.0 w.kept

  -- the actual-out of a kept result is in the set
  pub result_owned : (f i g : ℕ) (to : Target) (args : List Expr) → IsIn (doings_of p f) (Calls i to g args) → (kept_words set vs).result i ≡ true → IsKept set vs f (ActualOut i Result)
  result_owned f i g to args m h =
      let w = of_result set vs i h in
      let of = statement_of p a.effects w.function (ActualOut i Result) refl (kind_of p a w.function (ActualOut i Result) w.kept.number w.kept.at) in
      let call = out_doing p a.effects of.doing i Result of.has in
      let same = same_doing p apart w.function f of.doing (Calls i to g args) of.member m (ap doing_number call.0.is) in
      subst (λ (x : ℕ). IsKept set vs x (ActualOut i Result)) same.0 w.kept
