-- Which vertices of a set keep a statement, a result, an argument, a parameter and a function.
use Rattle.std.proofs.Common.{◌≡◌, ℕ, zero, suc, ◌+◌, ◌==◌, List, [], ◌∷◌, slice_get, Bool, true, false, ◌&&◌, ◌||◌, ◌⊎◌, inl, inr, Some, refl, sym, ap, ap₂, ◌∙◌, subst, arith}
use Rattle.std.proofs.lemmas.Bool.{and_parts, and_from, or_cases, or_left, or_right}
use Rattle.std.proofs.lemmas.Bool.Decides.{Decides-eqb}
use Rattle.std.proofs.lemmas.Option.{same_Some}
use Rattle.bit_rows.specs.Sets.{has}
use Rattle.c_language.proofs.Tests.{false_true}
use Rattle.dep_model.specs.declared.vertex.Slot.{Slot}
use Rattle.dep_model.specs.declared.vertex.Slot.TheVariants.{Argument, Result, At}
use Rattle.dep_model.specs.declared.vertex.Vertex.{Vertex}
use Rattle.dep_model.specs.declared.vertex.VertexKind.{VertexKind}
use Rattle.dep_model.specs.declared.vertex.VertexKind.TheVariants.{Entry, FormalIn, FormalOut, Statement, Call, ActualIn, ActualOut}
use Rattle.dep_model.specs.FunctionVertices.{is_own, is_entry, passes}
use Rattle.dep_model.specs.SystemGraph.{IsVertex}
use Rattle.dep_model.specs.VertexOrder.{in_function}
use Rattle.projection.specs.KeptVertices.{is_result, is_argument, is_parameter, holds, kept_words, keeps_function, keeps_parameter}

-- ---- tests and kinds

pub own_number : (n : ℕ) → (n == n) ≡ true
own_number n = (Decides-eqb n n).1 refl

pub same_number : (n m : ℕ) → (n == m) ≡ true → n ≡ m
same_number n m h = (Decides-eqb n m).0 h

own_kinds : (i : ℕ) (k : VertexKind) → is_own i k ≡ true → (k ≡ Statement i) ⊎ (k ≡ Call i)
own_kinds i Entry h = false_true h
own_kinds i (FormalIn s) h = false_true h
own_kinds i (FormalOut s) h = false_true h
own_kinds i (Statement j) h = inl (ap Statement (same_number j i h))
own_kinds i (Call j) h = inr (ap Call (same_number j i h))
own_kinds i (ActualIn j s) h = false_true h
own_kinds i (ActualOut j s) h = false_true h

result_kind : (i : ℕ) (k : VertexKind) → is_result i k ≡ true → k ≡ ActualOut i Result
result_kind i Entry h = false_true h
result_kind i (FormalIn s) h = false_true h
result_kind i (FormalOut s) h = false_true h
result_kind i (Statement j) h = false_true h
result_kind i (Call j) h = false_true h
result_kind i (ActualIn j s) h = false_true h
result_kind i (ActualOut j (Argument m)) h = false_true h
result_kind i (ActualOut j Result) h = ap (λ (n : ℕ). ActualOut n Result) (same_number j i h)
result_kind i (ActualOut j (At m)) h = false_true h

argument_kind : (i n : ℕ) (k : VertexKind) → is_argument i n k ≡ true → k ≡ ActualIn i (Argument n)
argument_kind i n Entry h = false_true h
argument_kind i n (FormalIn s) h = false_true h
argument_kind i n (FormalOut s) h = false_true h
argument_kind i n (Statement j) h = false_true h
argument_kind i n (Call j) h = false_true h
argument_kind i n (ActualIn j (Argument m)) h =
    let b = and_parts (j == i) (m == n) h in ap₂ (λ (x y : ℕ). ActualIn x (Argument y)) (same_number j i b.0) (same_number m n b.1)
argument_kind i n (ActualIn j Result) h = false_true h
argument_kind i n (ActualIn j (At m)) h = false_true h
argument_kind i n (ActualOut j s) h = false_true h

parameter_kind : (n : ℕ) (k : VertexKind) → is_parameter n k ≡ true → k ≡ FormalIn (Argument n)
parameter_kind n Entry h = false_true h
parameter_kind n (FormalIn (Argument m)) h = ap (λ (x : ℕ). FormalIn (Argument x)) (same_number m n h)
parameter_kind n (FormalIn Result) h = false_true h
parameter_kind n (FormalIn (At m)) h = false_true h
parameter_kind n (FormalOut s) h = false_true h
parameter_kind n (Statement j) h = false_true h
parameter_kind n (Call j) h = false_true h
parameter_kind n (ActualIn j s) h = false_true h
parameter_kind n (ActualOut j s) h = false_true h

entry_kind : (k : VertexKind) → is_entry k ≡ true → k ≡ Entry
entry_kind Entry h = refl
entry_kind (FormalIn s) h = false_true h
entry_kind (FormalOut s) h = false_true h
entry_kind (Statement j) h = false_true h
entry_kind (Call j) h = false_true h
entry_kind (ActualIn j s) h = false_true h
entry_kind (ActualOut j s) h = false_true h

-- ---- vertices of a set

-- one of the vertices is in the set and passes a test, where the first vertex has the number n
pub record IsHeldFrom (set : List Bool) (test : Vertex → Bool) (n : ℕ) (vs : List Vertex) : Type 0 where
  pub place : ℕ
  pub vertex : Vertex
  pub at : slice_get vs place ≡ Some vertex
  pub member : has set (n + place) ≡ true
  pub passing : test vertex ≡ true

held_from : (set : List Bool) (test : Vertex → Bool) (n : ℕ) (vs : List Vertex) → holds set test n vs ≡ true → IsHeldFrom set test n vs
held_from set test n [] h = false_true h
held_from set test n (y ∷ vs) h = elim (or_cases (has set n && test y) (holds set test (suc n) vs) h) [
  | inl a ↦
      let b = and_parts (has set n) (test y) a in
      let e : n ≡ n + 0 = omega arith in
      record { place = 0; vertex = y; at = refl; member = subst (λ (m : ℕ). has set m ≡ true) e b.0; passing = b.1 }
  | inr c ↦
      let w = held_from set test (suc n) vs c in
      let e : suc n + w.place ≡ n + suc w.place = omega arith in
      record { place = suc w.place; vertex = w.vertex; at = w.at; member = subst (λ (m : ℕ). has set m ≡ true) e w.member; passing = w.passing }
]

pub held_there : (set : List Bool) (test : Vertex → Bool) (n v : ℕ) (vs : List Vertex) (x : Vertex) → has set (n + v) ≡ true → slice_get vs v ≡ Some x → test x ≡ true → holds set test n vs ≡ true
held_there set test n v [] x member at passing = cc
held_there set test n zero (y ∷ vs) x member at passing =
    let e : n + 0 ≡ n = omega arith in
    or_left _ (holds set test (suc n) vs) (and_from (has set n) (test y) (subst (λ (m : ℕ). has set m ≡ true) e member) (ap test (same_Some _ _ at) ∙ passing))
held_there set test n (suc v) (y ∷ vs) x member at passing =
    let e : n + suc v ≡ suc n + v = omega arith in
    or_right (has set n && test y) _ (held_there set test (suc n) v vs x (subst (λ (m : ℕ). has set m ≡ true) e member) at passing)

module _ (set : List Bool) (vs : List Vertex) where
  -- a vertex of the function with this kind is in the set
  pub record IsKept (f : ℕ) (kind : VertexKind) : Type 0 where
    pub number : ℕ
    pub at : IsVertex vs f kind number
    pub member : has set number ≡ true

  -- of one of the functions
  pub record IsKeptIn (kind : VertexKind) : Type 0 where
    pub function : ℕ
    pub kept : IsKept function kind

  from_zero : (v : ℕ) → has set (0 + v) ≡ true → has set v ≡ true
  from_zero v h = let e : 0 + v ≡ v = omega arith in subst (λ (m : ℕ). has set m ≡ true) e h

  to_zero : (v : ℕ) → has set v ≡ true → has set (0 + v) ≡ true
  to_zero v h = let e : v ≡ 0 + v = omega arith in subst (λ (m : ℕ). has set m ≡ true) e h

  of_kind : (test : VertexKind → Bool) (kind : VertexKind) → ((k : VertexKind) → test k ≡ true → k ≡ kind) → holds set (λ (v : Vertex). test v.kind) 0 vs ≡ true → IsKeptIn kind
  of_kind test kind only h =
      let w = held_from set (λ (v : Vertex). test v.kind) 0 vs h in
      record {
        function = w.vertex.function;
        kept = record { number = w.place; at = w.at ∙ ap (λ (k : VertexKind). Some (in_function w.vertex.function k)) (only w.vertex.kind w.passing); member = from_zero w.place w.member };
      }

  of_function : (test : VertexKind → Bool) (f : ℕ) (kind : VertexKind) → ((k : VertexKind) → test k ≡ true → k ≡ kind) → holds set (passes test f) 0 vs ≡ true → IsKept f kind
  of_function test f kind only h =
      let w = held_from set (passes test f) 0 vs h in
      let b = and_parts (w.vertex.function == f) (test w.vertex.kind) w.passing in
      let same = same_number w.vertex.function f b.0 in
      record {
        number = w.place;
        at = w.at ∙ ap (λ (k : VertexKind). Some (in_function w.vertex.function k)) (only w.vertex.kind b.1) ∙ ap (λ (g : ℕ). Some (in_function g kind)) same;
        member = from_zero w.place w.member;
      }

  there : (test : Vertex → Bool) (f : ℕ) (kind : VertexKind) → IsKept f kind → test (in_function f kind) ≡ true → holds set test 0 vs ≡ true
  there test f kind w passing = held_there set test 0 w.number vs (in_function f kind) (to_zero w.number w.member) w.at passing

  -- ---- what keeps what

  pub data IsOwnKept (i : ℕ) : Type 0 where
    as_statement : IsKeptIn (Statement i) → IsOwnKept i
    as_call : IsKeptIn (Call i) → IsOwnKept i

  pub of_statement : (i : ℕ) → (kept_words set vs).statement i ≡ true → IsOwnKept i
  of_statement i h =
      let w = held_from set (λ (v : Vertex). is_own i v.kind) 0 vs h in
      by_kind w.vertex.function w.place (from_zero w.place w.member) w.vertex.kind w.at (own_kinds i w.vertex.kind w.passing)
    where
      by_kind : (f v : ℕ) → has set v ≡ true → (k : VertexKind) → IsVertex vs f k v → (k ≡ Statement i) ⊎ (k ≡ Call i) → IsOwnKept i
      by_kind f v member k at (inl e) = as_statement (record { function = f; kept = record { number = v; at = subst (λ (q : VertexKind). IsVertex vs f q v) e at; member = member } })
      by_kind f v member k at (inr e) = as_call (record { function = f; kept = record { number = v; at = subst (λ (q : VertexKind). IsVertex vs f q v) e at; member = member } })

  pub statement_kept : (f i : ℕ) → IsKept f (Statement i) → (kept_words set vs).statement i ≡ true
  statement_kept f i w = there (λ (v : Vertex). is_own i v.kind) f (Statement i) w (own_number i)

  pub call_kept : (f i : ℕ) → IsKept f (Call i) → (kept_words set vs).statement i ≡ true
  call_kept f i w = there (λ (v : Vertex). is_own i v.kind) f (Call i) w (own_number i)

  pub of_result : (i : ℕ) → (kept_words set vs).result i ≡ true → IsKeptIn (ActualOut i Result)
  of_result i h = of_kind (is_result i) (ActualOut i Result) (result_kind i) h

  pub of_argument : (i n : ℕ) → (kept_words set vs).argument i n ≡ true → IsKeptIn (ActualIn i (Argument n))
  of_argument i n h = of_kind (is_argument i n) (ActualIn i (Argument n)) (argument_kind i n) h

  pub argument_kept : (f i n : ℕ) → IsKept f (ActualIn i (Argument n)) → (kept_words set vs).argument i n ≡ true
  argument_kept f i n w = there (λ (v : Vertex). is_argument i n v.kind) f (ActualIn i (Argument n)) w (and_from (i == i) (n == n) (own_number i) (own_number n))

  pub of_entry : (f : ℕ) → keeps_function set vs f ≡ true → IsKept f Entry
  of_entry f h = of_function is_entry f Entry entry_kind h

  pub entry_kept : (f : ℕ) → IsKept f Entry → keeps_function set vs f ≡ true
  entry_kept f w = there (passes is_entry f) f Entry w (and_from (f == f) true (own_number f) refl)

  pub of_parameter : (f n : ℕ) → keeps_parameter set vs f n ≡ true → IsKept f (FormalIn (Argument n))
  of_parameter f n h = of_function (is_parameter n) f (FormalIn (Argument n)) (parameter_kind n) h

  pub parameter_kept : (f n : ℕ) → IsKept f (FormalIn (Argument n)) → keeps_parameter set vs f n ≡ true
  parameter_kept f n w = there (passes (is_parameter n) f) f (FormalIn (Argument n)) w (and_from (f == f) (n == n) (own_number f) (own_number n))
