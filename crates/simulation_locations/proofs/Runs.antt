-- Numbers one after another, and which vertices of a list they number.
use Rattle.std.proofs.Common.{◌≡◌, ◌≢◌, ℕ, suc, ◌+◌, ◌<◌, ◌≤◌, List, [], ◌∷◌, ◌++◌, length, map, Bool, true, false, ◌&&◌, if◌then◌else◌, Option, Some, inl, inr, refl, sym, ap, ◌∙◌, arith, eq-eqb}
use Rattle.std.proofs.lemmas.Bool.{ne_eqb}
use Rattle.dep_model.specs.declared.vertex.Vertex.{Vertex}
use Rattle.dep_model.specs.declared.vertex.VertexKind.{VertexKind}
use Rattle.dep_model.specs.Follows.{enters, InTurn}
use Rattle.dep_model.specs.FunctionVertices.{passes, numbers_from}
use Rattle.dep_model.specs.VertexOrder.{in_function}
use Rattle.dep_model.proofs.Membership.{IsIn}

-- as many numbers as these, from m on
abbrev pub run : {A : Type 0} → ℕ → List A → List ℕ
run m [] = []
run m (x ∷ xs) = m ∷ run (suc m) xs

pub run-append : {A : Type 0} (m : ℕ) (xs ys : List A) → run m (xs ++ ys) ≡ run m xs ++ run (m + length xs) ys
run-append m [] ys = ap (λ n. run n ys) (omega arith)
run-append m (x ∷ xs) ys = ap (λ ns. m ∷ ns) (run-append (suc m) xs ys ∙ ap (λ n. run (suc m) xs ++ run n ys) (omega arith))

-- what follows a number that isn't the last of them is the next
pub next_in_run : {A : Type 0} (m : ℕ) (xs : List A) (k : Option ℕ) (v : ℕ) (w : Option ℕ) → InTurn (run m xs) k v w → suc v < m + length xs → w ≡ Some (suc v)
next_in_run m [] k v w h lt = absurd h
next_in_run m (x ∷ []) k v w (inl h) lt = let e = h.0 in absurd (omega (arith, lt, e))
next_in_run m (x ∷ (y ∷ ys)) k v w (inl h) lt = h.1 ∙ ap (λ n. Some (suc n)) (sym h.0)
next_in_run m (x ∷ xs) k v w (inr h) lt = next_in_run (suc m) xs k v w h (omega (arith, lt))

pub bounds_in_run : {A : Type 0} (m : ℕ) (xs : List A) (k : Option ℕ) (v : ℕ) (w : Option ℕ) → InTurn (run m xs) k v w → (m ≤ v) × (v < m + length xs)
bounds_in_run m [] k v w h = absurd h
bounds_in_run m (x ∷ xs) k v w (inl h) = let e = h.0 in (omega (arith, e), omega (arith, e))
bounds_in_run m (x ∷ xs) k v w (inr h) =
    let b = bounds_in_run (suc m) xs k v w h in
    let low = b.0 in
    let high = b.1 in
    (omega (arith, low), omega (arith, high))

-- ---- pairs of lists one after another

pub enters-append : {V : Type 0} (xs ys : List V) (k : Option V) → enters (xs ++ ys) k ≡ enters xs (enters ys k)
enters-append [] ys k = refl
enters-append (x ∷ xs) ys k = refl

pub turn_first : {V : Type 0} (xs ys : List V) (k : Option V) (v : V) (w : Option V) → InTurn xs (enters ys k) v w → InTurn (xs ++ ys) k v w
turn_first [] ys k v w h = absurd h
turn_first (x ∷ xs) ys k v w (inl h) = inl (h.0, h.1 ∙ sym (enters-append xs ys k))
turn_first (x ∷ xs) ys k v w (inr h) = inr (turn_first xs ys k v w h)

pub turn_second : {V : Type 0} (xs ys : List V) (k : Option V) (v : V) (w : Option V) → InTurn ys k v w → InTurn (xs ++ ys) k v w
turn_second [] ys k v w h = h
turn_second (x ∷ xs) ys k v w h = inr (turn_second xs ys k v w h)

-- ---- numbers of vertices that pass a test

module _ (test : Vertex → Bool) where
  pub numbers-append : (n : ℕ) (us vs : List Vertex) → numbers_from test n (us ++ vs) ≡ numbers_from test n us ++ numbers_from test (n + length us) vs
  numbers-append n [] vs = ap (λ m. numbers_from test m vs) (omega arith)
  numbers-append n (u ∷ us) vs =
      let more : numbers_from test (suc n) (us ++ vs) ≡ numbers_from test (suc n) us ++ numbers_from test (n + suc (length us)) vs = numbers-append (suc n) us vs ∙ ap (λ m. numbers_from test (suc n) us ++ numbers_from test m vs) (omega arith) in
      by_test (test u) more
    where
      by_test : (b : Bool) → numbers_from test (suc n) (us ++ vs) ≡ numbers_from test (suc n) us ++ numbers_from test (n + suc (length us)) vs → (if b then n ∷ numbers_from test (suc n) (us ++ vs) else numbers_from test (suc n) (us ++ vs)) ≡ (if b then n ∷ numbers_from test (suc n) us else numbers_from test (suc n) us) ++ numbers_from test (n + suc (length us)) vs
      by_test true e = ap (λ ns. n ∷ ns) e
      by_test false e = e

  pub numbers_none : (n : ℕ) (vs : List Vertex) → ((v : Vertex) → IsIn vs v → test v ≡ false) → numbers_from test n vs ≡ []
  numbers_none n [] h = refl
  numbers_none n (v ∷ vs) h =
      ap (λ b. if b then n ∷ numbers_from test (suc n) vs else numbers_from test (suc n) vs) (h v (inl refl)) ∙ numbers_none (suc n) vs (λ w i. h w (inr i))

  -- where none of the vertices on either side passes
  pub numbers_between : (us vs ws : List Vertex) → ((v : Vertex) → IsIn us v → test v ≡ false) → ((v : Vertex) → IsIn ws v → test v ≡ false) → numbers_from test 0 (us ++ (vs ++ ws)) ≡ numbers_from test (length us) vs
  numbers_between us vs ws none_before none_after =
      let past : 0 + length us ≡ length us = omega arith in
      numbers-append 0 us (vs ++ ws) ∙ (ap (λ ns. ns ++ numbers_from test (0 + length us) (vs ++ ws)) (numbers_none 0 us none_before) ∙ (ap (λ n. numbers_from test n (vs ++ ws)) past ∙ (numbers-append (length us) vs ws ∙ (ap (λ ns. numbers_from test (length us) vs ++ ns) (numbers_none (length us + length vs) ws none_after) ∙ with_none (numbers_from test (length us) vs)))))
    where
      with_none : (ns : List ℕ) → ns ++ [] ≡ ns
      with_none [] = refl
      with_none (n ∷ ns) = ap (λ ms. n ∷ ms) (with_none ns)

-- ---- by kinds, in one function

module _ (test : VertexKind → Bool) (f : ℕ) where
  passes_own : (k : VertexKind) → passes test f (in_function f k) ≡ test k
  passes_own k = ap (λ b. b && test k) (eq-eqb f f refl)

  pub kinds_all : (n : ℕ) (ks : List VertexKind) → ((k : VertexKind) → IsIn ks k → test k ≡ true) → numbers_from (passes test f) n (map (in_function f) ks) ≡ run n ks
  kinds_all n [] h = refl
  kinds_all n (k ∷ ks) h =
      let rest = numbers_from (passes test f) (suc n) (map (in_function f) ks) in
      ap (λ b. if b then n ∷ rest else rest) (passes_own k ∙ h k (inl refl)) ∙ ap (λ ns. n ∷ ns) (kinds_all (suc n) ks (λ j i. h j (inr i)))

  pub kinds_none : (n : ℕ) (ks : List VertexKind) → ((k : VertexKind) → IsIn ks k → test k ≡ false) → numbers_from (passes test f) n (map (in_function f) ks) ≡ []
  kinds_none n [] h = refl
  kinds_none n (k ∷ ks) h =
      let rest = numbers_from (passes test f) (suc n) (map (in_function f) ks) in
      ap (λ b. if b then n ∷ rest else rest) (passes_own k ∙ h k (inl refl)) ∙ kinds_none (suc n) ks (λ j i. h j (inr i))

  pub other_function : (g : ℕ) (k : VertexKind) → g ≢ f → passes test f (in_function g k) ≡ false
  other_function g k other = ap (λ b. b && test k) (ne_eqb g f other)
