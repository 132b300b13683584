-- The edges of formals and actuals are those from the entry and from the calls.
use Rattle.std.proofs.Common.{◌≡◌, ℕ, suc, arith, List, [], ◌∷◌, ◌⊎◌, inl, inr, Bool, true, false, refl, sym, subst}
use Rattle.std.specs.Prelude.{◌==◌, ◌||◌, if◌then◌else◌}
use Rattle.dep_model.specs.declared.skeleton.Pair.{Pair}
use Rattle.dep_model.specs.declared.vertex.Vertex.{Vertex}
use Rattle.dep_model.specs.declared.vertex.VertexKind.{VertexKind}
use Rattle.dep_model.specs.declared.vertex.VertexKind.TheVariants.{Entry, FormalIn, FormalOut, Statement, Call, ActualIn, ActualOut}
use Rattle.dep_model.specs.FunctionVertices.{is_actual, is_formal_in, is_formal_out, passes, numbers_from}
use Rattle.std.proofs.lemmas.Bool.Decides.{nat_tests}
use Rattle.std.proofs.lemmas.Bool.{and_parts, and_from, eq-eqb}
use Rattle.control_deps.specs.Walk.{from_all}
use Rattle.control_deps.specs.Attached.{controllers_of, controllers, attached_from}
use Rattle.dep_model.proofs.Membership.{IsIn, in_first, in_second, in_either, if_in, in_if}
use Rattle.control_deps.proofs.CodeLaws.{Joins, in_from_all, one_joins}

abbrev pub is_formal : VertexKind → Bool
is_formal = λ k. is_formal_in k || is_formal_out k

number_cases : (test : Vertex → Bool) (n m : ℕ) (v : Vertex) (vs : List Vertex) (b : Bool) → test v ≡ b → IsIn (numbers_from test n (v ∷ vs)) m → ((test v ≡ true) × (n ≡ m)) ⊎ IsIn (numbers_from test (suc n) vs) m
number_cases test n m v vs true e h =
    let g : IsIn (n ∷ numbers_from test (suc n) vs) m = subst (λ t. IsIn (if t then n ∷ numbers_from test (suc n) vs else numbers_from test (suc n) vs) m) e h in
    elim g [ inl t ↦ inl (e, t) | inr t ↦ inr t ]
number_cases test n m v vs false e h =
    inr (subst (λ t. IsIn (if t then n ∷ numbers_from test (suc n) vs else numbers_from test (suc n) vs) m) e h)

number_here : (test : Vertex → Bool) (n m : ℕ) (v : Vertex) (vs : List Vertex) → test v ≡ true → n ≡ m → IsIn (numbers_from test n (v ∷ vs)) m
number_here test n m v vs e p =
    subst (λ t. IsIn (if t then n ∷ numbers_from test (suc n) vs else numbers_from test (suc n) vs) m) (sym e) (inl p)

later_at : (n m : ℕ) (rest : List ℕ) (b : Bool) → IsIn rest m → IsIn (if b then n ∷ rest else rest) m
later_at n m rest true h = inr h
later_at n m rest false h = h

number_later : (test : Vertex → Bool) (n m : ℕ) (v : Vertex) (vs : List Vertex) → IsIn (numbers_from test (suc n) vs) m → IsIn (numbers_from test n (v ∷ vs)) m
number_later test n m v vs h = later_at n m (numbers_from test (suc n) vs) (test v) h

same : (i j : ℕ) → (i == j) ≡ true → i ≡ j
same i j h = grind (arith, nat_tests)

module _ (entry : List ℕ) (own : ℕ → List ℕ) where
  controller_cases : (kind : VertexKind) (k : ℕ) → IsIn (controllers_of entry own kind) k → ((is_formal kind ≡ true) × IsIn entry k) ⊎ ((i : ℕ) × (is_actual i kind ≡ true) × IsIn (own i) k)
  controller_cases Entry k h = absurd h
  controller_cases (FormalIn slot) k h = inl (refl, h)
  controller_cases (FormalOut slot) k h = inl (refl, h)
  controller_cases (Statement i) k h = absurd h
  controller_cases (Call i) k h = absurd h
  controller_cases (ActualIn i slot) k h = inr (i, eq-eqb i i refl, h)
  controller_cases (ActualOut i slot) k h = inr (i, eq-eqb i i refl, h)

  formal_controller : (kind : VertexKind) (k : ℕ) → is_formal kind ≡ true → IsIn entry k → IsIn (controllers_of entry own kind) k
  formal_controller Entry k e h = let f : false ≡ true = e in absurd cc
  formal_controller (FormalIn slot) k e h = h
  formal_controller (FormalOut slot) k e h = h
  formal_controller (Statement i) k e h = let f : false ≡ true = e in absurd cc
  formal_controller (Call i) k e h = let f : false ≡ true = e in absurd cc
  formal_controller (ActualIn i slot) k e h = let f : false ≡ true = e in absurd cc
  formal_controller (ActualOut i slot) k e h = let f : false ≡ true = e in absurd cc

  actual_controller : (kind : VertexKind) (k i : ℕ) → is_actual i kind ≡ true → IsIn (own i) k → IsIn (controllers_of entry own kind) k
  actual_controller Entry k i e h = let f : false ≡ true = e in absurd cc
  actual_controller (FormalIn slot) k i e h = let f : false ≡ true = e in absurd cc
  actual_controller (FormalOut slot) k i e h = let f : false ≡ true = e in absurd cc
  actual_controller (Statement j) k i e h = let f : false ≡ true = e in absurd cc
  actual_controller (Call j) k i e h = let f : false ≡ true = e in absurd cc
  actual_controller (ActualIn j slot) k i e h = subst (λ y. IsIn (own y) k) (sym (same j i e)) h
  actual_controller (ActualOut j slot) k i e h = subst (λ y. IsIn (own y) k) (sym (same j i e)) h

  module _ (f : ℕ) where
    abbrev pub formals_from : ℕ → List Vertex → List ℕ
    formals_from n vs = numbers_from (passes is_formal f) n vs

    abbrev pub actuals_from : ℕ → ℕ → List Vertex → List ℕ
    actuals_from i n vs = numbers_from (passes (is_actual i) f) n vs

    abbrev pub IsAttached : ℕ → List Vertex → Pair → Type 0
    IsAttached n vs x = Joins entry (formals_from n vs) x ⊎ ((i : ℕ) × Joins (own i) (actuals_from i n vs) x)

    attached_later : (n : ℕ) (v : Vertex) (vs : List Vertex) (x : Pair) → IsAttached (suc n) vs x → IsAttached n (v ∷ vs) x
    attached_later n v vs x (inl h) = inl (h.0, number_later (passes is_formal f) n x.to v vs h.1)
    attached_later n v vs x (inr h) = inr (h.0, (h.1.0, number_later (passes (is_actual h.0) f) n x.to v vs h.1.1))

    attached_here : (n : ℕ) (v : Vertex) (vs : List Vertex) (x : Pair) → IsIn (controllers entry own f v) x.from → n ≡ x.to → IsAttached n (v ∷ vs) x
    attached_here n v vs x h e =
        let t = if_in (v.function == f) (controllers_of entry own v.kind) x.from h in
        elim (controller_cases v.kind x.from t.1) [
          | inl u ↦ inl (u.1, number_here (passes is_formal f) n x.to v vs (and_from (v.function == f) (is_formal v.kind) t.0 u.0) e)
          | inr u ↦ inr (u.0, (u.2, number_here (passes (is_actual u.0) f) n x.to v vs (and_from (v.function == f) (is_actual u.0 v.kind) t.0 u.1) e))
        ]

    pub attached_of : (n : ℕ) (vs : List Vertex) (x : Pair) → IsIn (attached_from (controllers entry own f) n vs) x → IsAttached n vs x
    attached_of n [] x h = absurd h
    attached_of n (v ∷ vs) x h = elim (in_either (from_all (controllers entry own f v) n) (attached_from (controllers entry own f) (suc n) vs) x h) [
      | inl t ↦ let u = one_joins (controllers entry own f v) n x t in attached_here n v vs x u.0 u.1
      | inr t ↦ attached_later n v vs x (attached_of (suc n) vs x t)
    ]

    keeps : (v : Vertex) (test : VertexKind → Bool) (ks : List ℕ) (k : ℕ) → ((kind : VertexKind) → test kind ≡ true → IsIn (controllers_of entry own kind) k) → passes test f v ≡ true → IsIn (controllers entry own f v) k
    keeps v test ks k gives e =
        let t = and_parts (v.function == f) (test v.kind) e in
        in_if (v.function == f) (controllers_of entry own v.kind) k t.0 (gives v.kind t.1)

    pub formal_attached : (n : ℕ) (vs : List Vertex) (x : Pair) → Joins entry (formals_from n vs) x → IsIn (attached_from (controllers entry own f) n vs) x
    formal_attached n [] x h = absurd h.1
    formal_attached n (v ∷ vs) x h = elim (number_cases (passes is_formal f) n x.to v vs (passes is_formal f v) refl h.1) [
      | inl t ↦ in_first (from_all (controllers entry own f v) n) (attached_from (controllers entry own f) (suc n) vs) x (in_from_all (controllers entry own f v) n x (keeps v is_formal entry x.from (λ kind e. formal_controller kind x.from e h.0) t.0) t.1)
      | inr t ↦ in_second (from_all (controllers entry own f v) n) (attached_from (controllers entry own f) (suc n) vs) x (formal_attached (suc n) vs x (h.0, t))
    ]

    pub actual_attached : (i n : ℕ) (vs : List Vertex) (x : Pair) → Joins (own i) (actuals_from i n vs) x → IsIn (attached_from (controllers entry own f) n vs) x
    actual_attached i n [] x h = absurd h.1
    actual_attached i n (v ∷ vs) x h = elim (number_cases (passes (is_actual i) f) n x.to v vs (passes (is_actual i) f v) refl h.1) [
      | inl t ↦ in_first (from_all (controllers entry own f v) n) (attached_from (controllers entry own f) (suc n) vs) x (in_from_all (controllers entry own f v) n x (keeps v (is_actual i) (own i) x.from (λ kind e. actual_controller kind x.from i e h.0) t.0) t.1)
      | inr t ↦ in_second (from_all (controllers entry own f v) n) (attached_from (controllers entry own f) (suc n) vs) x (actual_attached i (suc n) vs x (h.0, t))
    ]
