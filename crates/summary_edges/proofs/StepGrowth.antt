-- A step grows with what is known, and depends on the rows of the functions called alone.
use Rattle.std.proofs.Common.{◌≡◌, ℕ, ◌/◌, ◌%◌, ◌⊎◌, inl, inr, eqb, List, [], ◌∷◌, get_or, Contains, sym, ap, ◌∙◌, subst, arith}
use Rattle.std.specs.Int.{bit_at}
use Rattle.std.proofs.lemmas.Bool.{cases_eq}
use Rattle.std.proofs.lemmas.Option.{same_Some}
use Rattle.rule_closure.proofs.ListLemmas.{contains_none, contains_head, contains_cons, contains_cases}
use Rattle.dep_model.specs.declared.edge.Label.TheVariants.{In}
use Rattle.dep_model.specs.declared.graph.Graph.{Graph}
use Rattle.dep_model.specs.declared.vertex.Slot.{Slot}
use Rattle.dep_model.specs.declared.vertex.Vertex.{Vertex}
use Rattle.dep_model.specs.declared.vertex.VertexKind.TheVariants as kind
use Rattle.dep_model.specs.Facts.{FactSet, IsIn, HoldsFact, AreFactWords, AreTrueFacts, IsInnerEdge, IsInnerChain, ends, goes_on, IsStep}
use Rattle.dep_model.specs.Graphs.{edge, row_width, HasRows}
use Rattle.dep_model.specs.Shapes.{IsShaped, IsFitting, IsCallOf}
use Rattle.dep_model.specs.Shapes as shapes
use Rattle.dep_model.specs.SystemGraph.{IsVertex}
use Rattle.matched_paths.specs.Laws.{AreTrue, IsSettled}
use Rattle.matched_paths.proofs.CallShapes.{formals_of_call, in_other, is_in}
use Rattle.matched_paths.proofs.FactLaws.{settled_has_all_true}
use Rattle.matched_paths.proofs.RowPlaces.{placed}
use Rattle.summary_edges.specs.Agendas.{HoldsCall, HasRowChanged, IsDue}
use Rattle.summary_edges.specs.Laws.{IsRound}

-- ---- what a function's step depends on
-- the facts of one function are among those of another set
abbrev pub AreOf : Graph → FactSet → FactSet → ℕ → Type 0
AreOf g K L h = (a b : ℕ) → IsIn g.vertices h b → K a b → L a b

record IsEntered (g : Graph) (c a b : ℕ) : Type 0 where
  function : ℕ
  callee : ℕ
  slot_in : Slot
  slot : Slot
  statement : ℕ
  call : IsCallOf g function statement callee c
  from : IsVertex g.vertices function (kind.ActualIn statement slot_in) a
  to : IsVertex g.vertices callee (kind.FormalIn slot) b

entered : (g : Graph) (n a b : ℕ) → IsFitting g (edge a b (In n)) → IsEntered g n a b
entered g n a b (shapes.inside f j k s p q) = elim s [ inl e ↦ cc | inr e ↦ cc ]
entered g n a b (shapes.call f i to s p q) = cc
entered g n a b (shapes.in_ f i to c slot o s p q) =
    let e : c ≡ n = cc in
    record { function = f; callee = to; slot_in = slot; slot = slot; statement = i; call = subst (IsCallOf g f i to) e o; from = p; to = q }
entered g n a b (shapes.out f i to c slot o s p q) = cc

module _ (g : Graph) (shaped : IsShaped g) (K L : FactSet) (f : ℕ) (callees : (h : ℕ) → HoldsCall g f h → AreOf g K L h) where
  inner_grows : (u v : ℕ) → IsIn g.vertices f u → IsInnerEdge g.edges K u v → IsInnerEdge g.edges L u v
  inner_grows u v i (inl m) = inl m
  inner_grows u v i (inr (inl m)) = inr (inl m)
  inner_grows u v i (inr (inr q)) =
      let n = entered g q.call u q.formal_in (shaped.fitting (edge u q.formal_in (In q.call)) q.enters) in
      let same : f ≡ n.function = in_other g.vertices f n.function u (kind.ActualIn n.statement n.slot_in) i n.from in
      let formals = formals_of_call g shaped q.call u q.formal_in q.formal_out v q.enters q.leaves in
      let callee : formals.0 ≡ n.callee = in_other g.vertices formals.0 n.callee q.formal_in (kind.FormalIn n.slot) (is_in g.vertices formals.0 q.formal_in (kind.FormalIn formals.1.slot_in) formals.1.goes_in) n.to in
      let calls : HoldsCall g f n.callee = record { statement = n.statement; call = q.call; calls = subst (λ k. IsCallOf g k n.statement n.callee q.call) (sym same) n.call } in
      let out : IsIn g.vertices n.callee q.formal_out = subst (λ k. IsIn g.vertices k q.formal_out) callee (is_in g.vertices formals.0 q.formal_out (kind.FormalOut formals.1.slot_out) formals.1.comes_out) in
      inr (inr (record { call = q.call; formal_in = q.formal_in; formal_out = q.formal_out; enters = q.enters; leaves = q.leaves; fact = callees n.callee calls q.formal_in q.formal_out out q.fact }))

  chain_grows : {a b : ℕ} → IsInnerChain g K f a b → IsInnerChain g L f a b
  chain_grows (ends i) = ends i
  chain_grows (goes_on {a = a} {b = m} i along rest) = goes_on i (inner_grows a m i along) (chain_grows rest)

  -- where the facts of the functions called are among others, so is what the step gives
  pub step_depends : (a b : ℕ) → IsStep g f K a b → IsStep g f L a b
  step_depends a b s = record { formals = s.formals; chain = chain_grows s.chain }

-- a step grows with what is known
pub step_grows : (g : Graph) → IsShaped g → (K L : FactSet) → ((a b : ℕ) → K a b → L a b) → (f a b : ℕ) → IsStep g f K a b → IsStep g f L a b
step_grows g shaped K L more f a b s = step_depends g shaped K L f (λ h calls c d i k. more c d k) a b s

-- ---- rows that are the same
-- a fact of a function none of whose rows differs was held before
pub unchanged_held : (g : Graph) (rows : HasRows g) (before after : List ℕ) (h : ℕ) → (HasRowChanged g before after h → ⊥) → (a b : ℕ) → IsIn g.vertices h b → HoldsFact g after a b → HoldsFact g before a b
unchanged_held g rows before after h none a b i held =
    let q = placed g rows a b held.bit held.is_bit in
    let same : q.vertex.function ≡ h = ap (λ (x : Vertex). x.function) (same_Some _ _ (sym q.at ∙ i.at)) ∙ i.in_function in
    let width : row_width g.vertices q.vertex.function ≡ row_width g.vertices h = ap (row_width g.vertices) same in
    let e = q.bit_is in let few = q.inside in
    let row : Contains g.outs (record { vertex = b; word = q.word }) = subst (λ os. Contains os (record { vertex = b; word = q.word })) (sym rows.outs_are) q.row in
    let word : get_or before (held.bit / 64) 0 ≡ get_or after (held.bit / 64) 0 = elim (cases_eq (get_or before (held.bit / 64) 0) (get_or after (held.bit / 64) 0)) [
      | inl one ↦ one
      | inr differs ↦ absurd (none (record {
        row = record { vertex = b; word = q.word };
        is_row = row;
        own = i;
        word = held.bit / 64;
        from = omega (arith, e, few);
        to = omega (arith, e, few, width);
        differs = differs;
      }))
    ] in
    record { bit = held.bit; is_bit = held.is_bit; set = ap (λ w. eqb (bit_at w (held.bit % 64)) 1) word ∙ held.set }

-- ---- rounds
-- a number is in a list or not
pub in_or_not : (xs : List ℕ) (n : ℕ) → Contains xs n ⊎ (Contains xs n → ⊥)
in_or_not [] n = inr (λ c. contains_none n c)
in_or_not (x ∷ xs) n = elim (cases_eq x n) [
  | inl same ↦ inl (subst (Contains (x ∷ xs)) same (contains_head x xs))
  | inr other ↦ elim (in_or_not xs n) [
    | inl c ↦ inl (contains_cons x xs n c)
    | inr none ↦ inr (λ c. elim (contains_cases x xs n c) [ inl same ↦ other same | inr rest ↦ none rest ])
  ]
]

-- a function whose step from the first facts is among the second, and of whose callees nothing is new, is settled
pub settles : (g : Graph) → IsShaped g → (before after : List ℕ) (f : ℕ) → ((h : ℕ) → HoldsCall g f h → AreOf g (HoldsFact g after) (HoldsFact g before) h)
    → ((a b : ℕ) → IsStep g f (HoldsFact g before) a b → HoldsFact g after a b) → IsSettled g (HoldsFact g after) f
settles g shaped before after f callees taken a b s = taken a b (step_depends g shaped (HoldsFact g after) (HoldsFact g before) f callees a b s)

pub others_settled : (g : Graph) (agenda before after : List ℕ) → IsShaped g → IsRound g agenda before after → (f : ℕ) → (IsDue g before after f → ⊥) → IsSettled g (HoldsFact g after) f
others_settled g agenda before after shaped r f none =
    settles g shaped before after f
    (λ h calls. unchanged_held g shaped.rows_are before after h (λ changed. none (record { callee = h; calls = calls; changed = changed })))
    (λ a b s. elim (in_or_not agenda f) [
      | inl c ↦ r.taken f c a b s
      | inr out ↦ r.kept a b (r.others f out a b s)
    ])

pub exact_where_settled : (g : Graph) (after : List ℕ) → IsShaped g → (words : AreFactWords g after) → AreTrue g (HoldsFact g after) → ((f : ℕ) → IsSettled g (HoldsFact g after) f) → AreTrueFacts g after
exact_where_settled g after shaped words true_ settled = record {
  words = words;
  exact = λ a b. (true_ a b, λ t. settled_has_all_true g (HoldsFact g after) shaped settled a b t);
}

pub only_true : (g : Graph) (agenda before after : List ℕ) → IsShaped g → IsRound g agenda before after → AreFactWords g after → AreTrue g (HoldsFact g after) → ((f : ℕ) → IsDue g before after f → ⊥) → AreTrueFacts g after
only_true g agenda before after shaped r words true_ none =
    exact_where_settled g after shaped words true_ (λ f. others_settled g agenda before after shaped r f (none f))
