-- The vertices of statements: each statement of a function has one, and none in another function.
use Rattle.std.proofs.Common.{◌≡◌, ℕ, zero, suc, ◌+◌, ◌==◌, List, [], ◌∷◌, length, map, slice_get, Bool, true, Option, Some, None, inl, refl, sym, ap, ◌∙◌, subst, arith, eq-eqb, eqb-true}
use Rattle.std.specs.Prelude.{Contains}
use Rattle.std.specs.List.{range_with_len}
use Rattle.std.proofs.lemmas.Bool.{false≢true, and_parts, and_from}
use Rattle.std.proofs.lemmas.Option.{same_Some, slice_get_within}
use Rattle.c_tree.specs.declared.program.Function.{Function}
use Rattle.c_tree.specs.declared.program.Program.{Program}
use Rattle.dep_model.specs.declared.vertex.Vertex.{Vertex}
use Rattle.dep_model.specs.declared.vertex.VertexKind.{VertexKind}
use Rattle.dep_model.specs.declared.vertex.VertexKind.TheVariants.{Entry, FormalIn, FormalOut, Statement, Call, ActualIn, ActualOut}
use Rattle.dep_model.specs.Doings.{Doing, Does, Calls, doing_number, body_doings, functions_doings, program_doings, doings_of}
use Rattle.dep_model.specs.FunctionVertices.{is_own, numbers}
use Rattle.dep_model.specs.SystemGraph.{Analysis, vertices_of, IsVertex}
use Rattle.dep_model.specs.VertexOrder.{in_function, doing_vertices}
use Rattle.dep_model.proofs.Membership.{IsIn}
use Rattle.dep_model.proofs.VertexNumbers.{numbers_pass, passes_numbers}
use Rattle.shaped_graphs.proofs.KindLaws.{AreApart, number_in, doing_kind, statement_of, statement_there}
use Rattle.shaped_graphs.proofs.NumberLaws.{numbered_apart, second_apart, function_among, of_some, of_none}
use Rattle.shaped_graphs.proofs.VertexLaws.{nowhere, at_of_in, at_first, at_second, kind_of, vertex_of}
use Rattle.control_nesting.specs.ControlledVertices.{IsOwn, HasVertex}
use Rattle.control_nesting.proofs.StandsInWalk.{IsDone}

-- ---- a number is that of a statement of one function

first_alone : (x : Function) (fs : List Function) (g : ℕ) (h k : Function) (d e : Doing) → AreApart (functions_doings (x ∷ fs)) → Some x ≡ Some h → slice_get fs g ≡ Some k
    → IsIn (body_doings h.body) d → IsIn (body_doings k.body) e → doing_number d ≡ doing_number e → ⊥
first_alone x fs g h k d e apart is at m m' same =
    let own = body_doings x.body in
    let v = at_of_in own d (subst (λ (y : Function). IsIn (body_doings y.body) d) (sym (same_Some _ _ is)) m) in
    let w = at_of_in (functions_doings fs) e (function_among fs g k e at m') in
    let place = apart v.0 (length own + w.0) d e (at_first own (functions_doings fs) v.0 d v.1) (at_second own (functions_doings fs) w.0 e w.1) same in
    let low = slice_get_within own v.0 d v.1 in
    omega (arith, place, low)

one_function : (fs : List Function) (f g : ℕ) (h k : Function) (d e : Doing) → AreApart (functions_doings fs) → slice_get fs f ≡ Some h → slice_get fs g ≡ Some k
    → IsIn (body_doings h.body) d → IsIn (body_doings k.body) e → doing_number d ≡ doing_number e → f ≡ g
one_function [] f g h k d e apart at at' m m' same = nowhere f h at
one_function (x ∷ fs) zero zero h k d e apart at at' m m' same = refl
one_function (x ∷ fs) zero (suc g) h k d e apart at at' m m' same = absurd (first_alone x fs g h k d e apart at at' m m' same)
one_function (x ∷ fs) (suc f) zero h k d e apart at at' m m' same = absurd (first_alone x fs f k h e d apart at' at m' m (sym same))
one_function (x ∷ fs) (suc f) (suc g) h k d e apart at at' m m' same =
    ap suc (one_function fs f g h k d e (second_apart (body_doings x.body) (functions_doings fs) apart) at at' m m' same)

-- the function of a statement
pub record InBody (p : Program) (f : ℕ) (d : Doing) : Type 0 where
  pub function : Function
  pub at : slice_get p.functions f ≡ Some function
  pub member : IsIn (body_doings function.body) d

pub in_body : (p : Program) (f : ℕ) (d : Doing) → IsIn (doings_of p f) d → InBody p f d
in_body p f d m = by_function (slice_get p.functions f) refl
  where
    by_function : (o : Option Function) → slice_get p.functions f ≡ o → InBody p f d
    by_function None h = absurd (subst (λ ds. IsIn ds d) (of_none p f h) m)
    by_function (Some g) h = record { function = g; at = h; member = subst (λ ds. IsIn ds d) (of_some p f g h) m }

-- ---- kinds of vertices

abbrev own_kind : Doing → VertexKind
own_kind (Does i x) = Statement i
own_kind (Calls i to g args) = Call i

own_passes : (d : Doing) → is_own (doing_number d) (own_kind d) ≡ true
own_passes (Does i x) = eq-eqb i i refl
own_passes (Calls i to g args) = eq-eqb i i refl

-- a kind of a statement's vertices, with the number of that
abbrev pub HasNumber : ℕ → VertexKind → Type 0
HasNumber i k = (n : ℕ) → number_in k n ≡ i

own_number : (i : ℕ) (k : VertexKind) → is_own i k ≡ true → HasNumber i k
own_number i Entry e n = absurd (false≢true e)
own_number i (FormalIn slot) e n = absurd (false≢true e)
own_number i (FormalOut slot) e n = absurd (false≢true e)
own_number i (Statement j) e n = eqb-true j i e
own_number i (Call j) e n = eqb-true j i e
own_number i (ActualIn j slot) e n = absurd (false≢true e)
own_number i (ActualOut j slot) e n = absurd (false≢true e)

module _ (p : Program) (a : Analysis) where
  abbrev vs : List Vertex
  vs = vertices_of p a

  pub in_numbers : (test : VertexKind → Bool) (f v : ℕ) (k : VertexKind) → IsVertex vs f k v → test k ≡ true → Contains (numbers test f vs) v
  in_numbers test f v k at t =
      passes_numbers test f vs v (record { one = in_function f k; at = at; passing = and_from (f == f) (test k) (eq-eqb f f refl) t })

  pub kind_there : (test : VertexKind → Bool) (f v : ℕ) → Contains (numbers test f vs) v → (k : VertexKind) × IsVertex vs f k v × (test k ≡ true)
  kind_there test f v c =
      let w = numbers_pass test f vs v c in
      let t = and_parts (w.one.function == f) (test w.one.kind) w.passing in
      (w.one.kind, w.at ∙ ap (λ g. Some (in_function g w.one.kind)) (eqb-true w.one.function f t.0), t.1)

  own_there : (d : Doing) → IsIn (doing_vertices p a.effects d) (own_kind d)
  own_there (Does i x) = inl refl
  own_there (Calls i to g args) = inl refl

  -- a statement of a function has a vertex
  pub statement_vertex : (f i : ℕ) → IsDone (doings_of p f) i → (v : ℕ) × IsOwn vs f i v
  statement_vertex f i done =
      let b = in_body p f done.0 done.1 in
      let there = statement_there p a.effects f done.0 (own_kind done.0) done.1 (own_there done.0) in
      let v = vertex_of p a f (own_kind done.0) (slice_get_within p.functions f b.function b.at) there in
      (v.0, subst (λ m. IsOwn vs f m v.0) done.2 (in_numbers (is_own (doing_number done.0)) f v.0 (own_kind done.0) v.1 (own_passes done.0)))

  -- a vertex with the number of a statement is that of a statement of its function
  pub of_statement : (f i v : ℕ) (k : VertexKind) → IsVertex vs f k v → HasNumber i k → IsDone (doings_of p f) i
  of_statement f i v k at number =
      let w = statement_of p a.effects f k (number 0 ∙ sym (number 1)) (kind_of p a f k v at) in
      (w.doing, w.member, sym (doing_kind p a.effects w.doing k 0 w.has) ∙ number 0)

  own_statement : (f i v : ℕ) → IsOwn vs f i v → IsDone (doings_of p f) i
  own_statement f i v c =
      let w = kind_there (is_own i) f v c in of_statement f i v w.0 w.1 (own_number i w.0 w.2)

  -- and it has none in another, where statements have the numbers from 0 on
  pub has_vertex : map doing_number (program_doings p) ≡ range_with_len 0 p.statements → (f i : ℕ) → IsDone (doings_of p f) i → HasVertex vs f i
  has_vertex numbered f i done =
      let v = statement_vertex f i done in
      record { vertex = v.0; owned = v.1; alone = λ g w c. one_of g (own_statement g i w c) }
    where
      one_of : (g : ℕ) → IsDone (doings_of p g) i → g ≡ f
      one_of g other =
          let b = in_body p g other.0 other.1 in
          let c = in_body p f done.0 done.1 in
          one_function p.functions g f b.function c.function other.0 done.0 (numbered_apart (program_doings p) p.statements numbered) b.at c.at b.member c.member (other.2 ∙ sym done.2)
