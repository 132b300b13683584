-- The arguments that a kept call keeps, what they read, and the vertices that may use it.
use Rattle.std.proofs.Common.{◌≡◌, ℕ, suc, ◌+◌, ◌<◌, ◌==◌, List, [], ◌∷◌, ◌++◌, length, Option, Some, None, Bool, true, false, ◌&&◌, ◌||◌, if◌then◌else◌, inl, inr, refl, sym, ap, ◌∙◌, subst, arith, eqb-true}
use Rattle.std.specs.List.{list_any}
use Rattle.std.proofs.lemmas.Bool.{false≢true, and_parts, or_left, or_right}
use Rattle.c_language.proofs.Options.{none_there, some_same}
use Rattle.c_language.proofs.Tests.{by_answer, false_true}
use Rattle.c_language.specs.Names.{names, any_names}
use Rattle.c_tree.specs.declared.expr.Expr.{Expr}
use Rattle.c_tree.specs.declared.program.Program.{Program}
use Rattle.bit_rows.specs.Sets.{has}
use Rattle.c_meaning.specs.declared.value.Place.{Place}
use Rattle.c_meaning.specs.declared.value.Value.{Value}
use Rattle.c_meaning.specs.Values.{Types, State, eval, eval_all, beside}
use Rattle.dep_model.specs.declared.location.Location.{Location}
use Rattle.dep_model.specs.declared.vertex.Slot.TheVariants as slot
use Rattle.dep_model.specs.declared.vertex.Vertex.{Vertex}
use Rattle.dep_model.specs.declared.vertex.VertexKind.{VertexKind}
use Rattle.dep_model.specs.declared.vertex.VertexKind.TheVariants as kind
use Rattle.dep_model.specs.FunctionVertices.{passes, numbers_from, numbers}
use Rattle.dep_model.specs.SystemGraph.{Analysis, vertices_of}
use Rattle.dep_model.specs.VertexOrder.{kind_uses}
use Rattle.dep_model.proofs.Membership.{IsIn}
use Rattle.projection.specs.Kept.{chosen}
use Rattle.projection.specs.KeptVertices.{is_argument}
use Rattle.run_facts.specs.ReadCells.{all_read, value_read}
use Rattle.simulation_locations.specs.KeptVertices.{gives_in, any_kept, arguments_use}

-- ---- lists of which members are chosen

pub chosen_same : {A : Type 0} (t u : ℕ → Bool) (i : ℕ) (xs : List A) → ((j : ℕ) → j < length xs → t (i + j) ≡ u (i + j)) → chosen t i xs ≡ chosen u i xs
chosen_same t u i [] h = refl
chosen_same t u i (x ∷ xs) h =
    let here : i + 0 ≡ i = omega arith in
    let first : t i ≡ u i = ap t (sym here) ∙ (h 0 (omega arith) ∙ ap u here) in
    let rest = chosen_same t u (suc i) xs (λ j lt. let same : i + suc j ≡ suc i + j = omega arith in ap t (sym same) ∙ (h (suc j) (omega (arith, lt)) ∙ ap u same)) in
    ap (λ b. if b then x ∷ chosen t (suc i) xs else chosen t (suc i) xs) first ∙ ap (λ ys. if u i then x ∷ ys else ys) rest

-- ---- values of the arguments that are chosen

beside_parts : (o : Option Value) (u : Option (List Value)) (ws : List Value) → beside o u ≡ Some ws → (v : Value) × (vs : List Value) × (o ≡ Some v) × (u ≡ Some vs) × (v ∷ vs ≡ ws)
beside_parts None u ws e = none_there e
beside_parts (Some v) None ws e = none_there e
beside_parts (Some v) (Some vs) ws e = (v, vs, refl, refl, some_same e)

module _ (types : Types) (s : State) where
  pub chosen_values : (t : ℕ → Bool) (i : ℕ) (es : List Expr) (vs : List Value) → eval_all types es s ≡ Some vs → eval_all types (chosen t i es) s ≡ Some (chosen t i vs)
  chosen_values t i [] vs e = ap (λ ws. Some (chosen t i ws)) (some_same e)
  chosen_values t i (x ∷ es) vs e =
      let k = beside_parts (eval types x s) (eval_all types es s) vs e in
      let rest = chosen_values t (suc i) es k.1 k.3 in
      by_test (t i) k.0 k.1 k.2 rest ∙ ap (λ ws. Some (chosen t i ws)) k.4
    where
      by_test : (b : Bool) (v : Value) (ws : List Value) → eval types x s ≡ Some v → eval_all types (chosen t (suc i) es) s ≡ Some (chosen t (suc i) ws) → eval_all types (if b then x ∷ chosen t (suc i) es else chosen t (suc i) es) s ≡ Some (if b then v ∷ chosen t (suc i) ws else chosen t (suc i) ws)
      by_test true v ws p q = ap (λ o. beside o (eval_all types (chosen t (suc i) es) s)) p ∙ ap (λ o. beside (Some v) o) q
      by_test false v ws p q = q

-- ---- what all of some expressions read

all_append : {A : Type 0} (P : A → Type 0) (xs ys : List A) → ((x : A) → IsIn xs x → P x) → ((y : A) → IsIn ys y → P y) → (z : A) → IsIn (xs ++ ys) z → P z
all_append P [] ys h k z i = k z i
all_append P (x ∷ xs) ys h k z (inl e) = h z (inl e)
all_append P (x ∷ xs) ys h k z (inr i) = all_append P xs ys (λ y j. h y (inr j)) k z i

-- an expression of a list reads this cell
pub record ReadBy (types : Types) (s : State) (es : List Expr) (q : Place) : Type 0 where
  pub one : Expr
  pub member : IsIn es one
  pub reads : IsIn (value_read types one s) q

module _ (types : Types) (s : State) where
  pub read_by : (es : List Expr) (q : Place) → IsIn (all_read types es s) q → ReadBy types s es q
  read_by [] q i = absurd i
  read_by (e ∷ es) q i =
      all_append (ReadBy types s (e ∷ es)) (value_read types e s) (all_read types es s) (λ r j. record { one = e; member = inl refl; reads = j }) (λ r j. let h = read_by es r j in record { one = h.one; member = inr h.member; reads = h.reads }) q i

pub named_in : (es : List Expr) (e : Expr) (x : ℕ) → IsIn es e → names e x ≡ true → any_names es x ≡ true
named_in [] e x i h = absurd i
named_in (y ∷ es) e x (inl is) h = or_left (names y x) (any_names es x) (subst (λ z. names z x ≡ true) (sym is) h)
named_in (y ∷ es) e x (inr i) h = or_right (names y x) (any_names es x) (named_in es e x i h)

-- ---- the vertices of kept arguments

or_rest : (b c : Bool) → b ≡ false → (b || c) ≡ true → c ≡ true
or_rest true c is e = false_true (sym is)
or_rest false c is e = e

both_pass : (b c : Bool) → b ≡ true → c ≡ true → (b && c) ≡ true
both_pass true c p q = q
both_pass false c p q = p

weaker_from : (test : ℕ → Bool) (t u : Vertex → Bool) (n : ℕ) (vs : List Vertex) → ((v : Vertex) → t v ≡ true → u v ≡ true) → list_any test (numbers_from t n vs) ≡ true → list_any test (numbers_from u n vs) ≡ true
weaker_from test t u n [] h e = e
weaker_from test t u n (v ∷ vs) h e =
    by_tests (t v) (u v) (h v) e (λ j. weaker_from test t u (suc n) vs h j)
  where
    by_tests : (b c : Bool) → (b ≡ true → c ≡ true) → list_any test (if b then n ∷ numbers_from t (suc n) vs else numbers_from t (suc n) vs) ≡ true → (list_any test (numbers_from t (suc n) vs) ≡ true → list_any test (numbers_from u (suc n) vs) ≡ true) → list_any test (if c then n ∷ numbers_from u (suc n) vs else numbers_from u (suc n) vs) ≡ true
    by_tests true true k e later = by_answer (test n) (λ is. or_left (test n) (list_any test (numbers_from u (suc n) vs)) is) (λ is. or_right (test n) (list_any test (numbers_from u (suc n) vs)) (later (or_rest (test n) (list_any test (numbers_from t (suc n) vs)) is e)))
    by_tests true false k e later = false_true (k refl)
    by_tests false true k e later = or_right (test n) (list_any test (numbers_from u (suc n) vs)) (later e)
    by_tests false false k e later = later e

pub weaker_numbers : (test : ℕ → Bool) (t u : VertexKind → Bool) (f : ℕ) (vs : List Vertex) → ((k : VertexKind) → t k ≡ true → u k ≡ true) → list_any test (numbers t f vs) ≡ true → list_any test (numbers u f vs) ≡ true
weaker_numbers test t u f vs h e =
    weaker_from test (passes t f) (passes u f) 0 vs (λ v p. let k = and_parts (v.function == f) (t v.kind) p in both_pass (v.function == f) (u v.kind) k.0 (h v.kind k.1)) e

module _ (p : Program) (a : Analysis) (kept : List Bool) (f i g : ℕ) where
  -- the vertex of an argument is that of its slot, which gives it in and may use what it reads
  its_vertex : (n : ℕ) (l : Location) → kind_uses p a.points f (kind.ActualIn i (slot.Argument n)) l ≡ true → (k : VertexKind) → is_argument i n k ≡ true → (gives_in i k && kind_uses p a.points f k l) ≡ true
  its_vertex n l u (kind.ActualIn j (slot.Argument m)) h =
      let e = and_parts (j == i) (m == n) h in
      let first : j ≡ i = eqb-true j i e.0 in
      let second : m ≡ n = eqb-true m n e.1 in
      both_pass (j == i) (kind_uses p a.points f (kind.ActualIn j (slot.Argument m)) l) e.0 (subst (λ d. kind_uses p a.points f (kind.ActualIn d (slot.Argument m)) l ≡ true) (sym first) (subst (λ d. kind_uses p a.points f (kind.ActualIn i (slot.Argument d)) l ≡ true) (sym second) u))
  its_vertex n l u (kind.ActualIn j slot.Result) h = absurd (false≢true h)
  its_vertex n l u (kind.ActualIn j (slot.At m)) h = absurd (false≢true h)
  its_vertex n l u kind.Entry h = absurd (false≢true h)
  its_vertex n l u (kind.FormalIn s) h = absurd (false≢true h)
  its_vertex n l u (kind.FormalOut s) h = absurd (false≢true h)
  its_vertex n l u (kind.Statement j) h = absurd (false≢true h)
  its_vertex n l u (kind.Call j) h = absurd (false≢true h)
  its_vertex n l u (kind.ActualOut j s) h = absurd (false≢true h)

  -- what the actual-in of a kept argument may use, the actual-ins of the call's kept arguments may use
  pub kept_uses : (n : ℕ) (l : Location) → kind_uses p a.points f (kind.ActualIn i (slot.Argument n)) l ≡ true → any_kept p a kept (numbers (is_argument i n) f (vertices_of p a)) ≡ true → arguments_use p a kept f i g l ≡ true
  kept_uses n l used keeps =
      weaker_numbers (λ (m : ℕ). has kept m) (is_argument i n) (λ k. gives_in i k && kind_uses p a.points f k l) f (vertices_of p a) (its_vertex n l used) keeps
