-- How many formal-ins of its function stand before a vertex, found by counting from the first vertex of the function on.
use Rattle.std.proofs.Common.{◌≡◌, ◌≢◌, ℕ, zero, suc, ◌+◌, ◌<◌, ◌≤◌, ◌⊎◌, inl, inr, Bool, true, false, ◌&&◌, List, [], ◌∷◌, ◌++◌, length, get_or, take, Some, slice_get, refl, sym, ap, ◌∙◌, subst, arith}
use Rattle.std.specs.Prelude.{if◌then◌else◌, ◌==◌}
use Rattle.std.proofs.Math.ListN.{get_or-append}
use Rattle.std.proofs.Math.Seq.{get_or-append_seam}
use Rattle.std.proofs.lemmas.List.{take_more}
use Rattle.std.proofs.lemmas.Option.{slice_get-get_or}
use Rattle.std.proofs.lemmas.Bool.{cases_eq, cases_Bool}
use Rattle.std.proofs.lemmas.Bool.Decides.{nat_tests}
use Rattle.dep_model.specs.declared.vertex.Vertex.{Vertex}
use Rattle.dep_model.specs.FunctionVertices.{is_formal_in, passes, numbers, numbers_from}
use Rattle.dep_model.specs.Shapes.{AreConsecutive}

-- ---- lists
taken_is : {X : Type 0} (xs : List X) (i k : ℕ) (x : X) → slice_get (take i xs) k ≡ Some x → (k < i) × (slice_get xs k ≡ Some x)
taken_is xs zero k x h = cc
taken_is [] (suc i) k x h = cc
taken_is (y ∷ ys) (suc i) zero x h = (omega arith, h)
taken_is (y ∷ ys) (suc i) (suc k) x h = let r = taken_is ys i k x h in (omega (arith, r.0), r.1)

-- ---- how many pass
abbrev pub one_if : Bool → ℕ
one_if b = if b then 1 else 0

one_more : (n : ℕ) (b : Bool) → length (if b then n ∷ [] else []) ≡ 0 + one_if b
one_more n true = refl
one_more n false = refl

under_test : (n c : ℕ) (b : Bool) (xs ys : List ℕ) → length xs ≡ length ys + c → length (if b then n ∷ xs else xs) ≡ length (if b then n ∷ ys else ys) + c
under_test n c true xs ys h = omega (arith, h)
under_test n c false xs ys h = h

length_more : (test : Vertex → Bool) (n : ℕ) (xs : List Vertex) (x : Vertex) → length (numbers_from test n (xs ++ x ∷ [])) ≡ length (numbers_from test n xs) + one_if (test x)
length_more test n [] x = one_more n (test x)
length_more test n (y ∷ ys) x = under_test n (one_if (test x)) (test y) (numbers_from test (suc n) (ys ++ x ∷ [])) (numbers_from test (suc n) ys) (length_more test (suc n) ys x)

none_under : (n : ℕ) (b : Bool) (xs : List ℕ) → b ≡ false → xs ≡ [] → (if b then n ∷ xs else xs) ≡ []
none_under n true xs h e = cc
none_under n false xs h e = e

none_pass : (test : Vertex → Bool) (n : ℕ) (xs : List Vertex) → ((k : ℕ) (x : Vertex) → slice_get xs k ≡ Some x → test x ≡ false) → numbers_from test n xs ≡ []
none_pass test n [] none = refl
none_pass test n (y ∷ ys) none = none_under n (test y) (numbers_from test (suc n) ys) (none 0 y refl) (none_pass test (suc n) ys (λ k x h. none (suc k) x h))

-- formal-ins of function f before place i
abbrev pub count_before : List Vertex → ℕ → ℕ → ℕ
count_before vs f i = length (numbers is_formal_in f (take i vs))

other_function : (x : Vertex) (f : ℕ) → x.function ≢ f → passes is_formal_in f x ≡ false
other_function x f h = let e : (x.function == f) ≡ false = grind (arith, nat_tests) in ap (λ b. b && is_formal_in x.kind) e

own_function : (x : Vertex) (f : ℕ) → x.function ≡ f → passes is_formal_in f x ≡ is_formal_in x.kind
own_function x f h = let e : (x.function == f) ≡ true = grind (arith, nat_tests) in ap (λ b. b && is_formal_in x.kind) e

count_more : (vs : List Vertex) (f i : ℕ) (x : Vertex) → i < length vs → get_or vs i x ≡ x → x.function ≡ f → count_before vs f (i + 1) ≡ count_before vs f i + one_if (is_formal_in x.kind)
count_more vs f i x low at same =
    ap (λ l. length (numbers is_formal_in f l)) (take_more vs i x low ∙ ap (λ y. take i vs ++ y ∷ []) at)
    ∙ length_more (passes is_formal_in f) 0 (take i vs) x
    ∙ ap (λ b. count_before vs f i + one_if b) (own_function x f same)

-- ---- where the counting has come to vertex i
pub record IsNumbering (vs : List Vertex) (i function number : ℕ) (ns : List ℕ) : Type 0 where
  pub long : length ns ≡ i
  pub known : (v : ℕ) (x : Vertex) → v < i → slice_get vs v ≡ Some x → get_or ns v 0 ≡ count_before vs x.function v
  pub small : number ≤ i
  pub counted : number ≡ count_before vs function i
  pub last : (v : ℕ) (x : Vertex) → suc v ≡ i → slice_get vs v ≡ Some x → x.function ≡ function

-- a function begins: none of its vertices stands before
pub begins : (vs : List Vertex) (i function : ℕ) (x : Vertex) → AreConsecutive vs → ((v : ℕ) (y : Vertex) → suc v ≡ i → slice_get vs v ≡ Some y → y.function ≡ function) → i < length vs → slice_get vs i ≡ Some x → x.function ≢ function → count_before vs x.function i ≡ 0
begins vs zero function x together last low at differs = refl
begins vs (suc m) function x together last low at differs =
    let before : Vertex = get_or vs m x in
    let before_at = slice_get-get_or vs m x (omega (arith, low)) in
    let of_before = last m before refl before_at in
    ap length (none_pass (passes is_formal_in x.function) 0 (take (suc m) vs) (λ k y h.
    let t = taken_is vs (suc m) k y h in
    other_function y x.function (λ same.
    let low_k : k ≤ m = let l = t.0 in omega (arith, l) in
    let up : m ≤ suc m = omega arith in
    let e = together k m (suc m) y before x low_k up t.1 before_at at same in
    differs (sym same ∙ sym e ∙ of_before))))

length_end : (ns : List ℕ) (m : ℕ) → length (ns ++ m ∷ []) ≡ length ns + 1
length_end [] m = refl
length_end (n ∷ ns) m = let r = length_end ns m in omega (arith, r)

more_small : (b : Bool) (m i : ℕ) → m ≤ i → m + one_if b ≤ i + 1
more_small true m i h = omega (arith, h)
more_small false m i h = omega (arith, h)

-- one more vertex
pub numbering_goes : (vs : List Vertex) (i function number m : ℕ) (ns : List ℕ) (x : Vertex) → IsNumbering vs i function number ns → i < length vs → slice_get vs i ≡ Some x → get_or vs i x ≡ x → m ≡ count_before vs x.function i → m ≤ i → IsNumbering vs (i + 1) x.function (m + one_if (is_formal_in x.kind)) (ns ++ m ∷ [])
numbering_goes vs i function number m ns x n low at read is few = record {
  small = more_small (is_formal_in x.kind) m i few;
  long = let l = length_end ns m in let k = n.long in omega (arith, l, k);
  known = λ v y below get. elim (cases_eq v i) [
    | inl e ↦
        let same : Some y ≡ Some x = sym get ∙ ap (slice_get vs) e ∙ at in
        let one : y ≡ x = cc in
        ap (λ k. get_or (ns ++ m ∷ []) k 0) (e ∙ sym n.long) ∙ get_or-append_seam ns m [] 0 ∙ is ∙ ap (λ (z : Vertex). count_before vs z.function i) (sym one) ∙ ap (count_before vs y.function) (sym e)
    | inr e ↦ let low_v : v < i = omega (arith, below, e) in get_or-append ns (m ∷ []) 0 v (let l = n.long in omega (arith, l, low_v)) ∙ n.known v y low_v get
  ];
  counted = ap (λ k. k + one_if (is_formal_in x.kind)) is ∙ sym (count_more vs x.function i x low read refl);
  last = λ v y next get.
      let e : v ≡ i = omega (arith, next) in
      let same : Some y ≡ Some x = sym get ∙ ap (slice_get vs) e ∙ at in
      let one : y ≡ x = cc in
      ap (λ (z : Vertex). z.function) one;
}

-- ---- which number a vertex has
first_or_more : (ns : List ℕ) (n k y : ℕ) → slice_get (n ∷ ns) k ≡ Some y → ((k ≡ 0) × (y ≡ n)) ⊎ ((j : ℕ) × (k ≡ suc j) × (slice_get ns j ≡ Some y))
first_or_more ns n zero y h = inl (refl, cc)
first_or_more ns n (suc k) y h = inr (k, refl, h)

-- what has number k among those that pass has k of them before it
pub number_of : (test : Vertex → Bool) (n : ℕ) (vs : List Vertex) (k y : ℕ) → slice_get (numbers_from test n vs) k ≡ Some y → (a : ℕ) × (y ≡ n + a) × (k ≡ length (numbers_from test n (take a vs)))
number_of test n [] k y h = cc
number_of test n (x ∷ xs) k y h = elim (cases_Bool (test x)) [
  | inl t ↦
      elim (first_or_more (numbers_from test (suc n) xs) n k y (subst (λ b. slice_get (if b then n ∷ numbers_from test (suc n) xs else numbers_from test (suc n) xs) k ≡ Some y) t h)) [
        | inl e ↦ (0, omega (arith, e.1), e.0)
        | inr m ↦
            let r = number_of test (suc n) xs m.0 y m.2 in
            let q = numbers_from test (suc n) (take r.0 xs) in
            (suc r.0, omega (arith, r.1), m.1 ∙ ap suc r.2 ∙ sym (ap (λ b. length (if b then n ∷ q else q)) t))
      ]
  | inr f ↦
      let r = number_of test (suc n) xs k y (subst (λ b. slice_get (if b then n ∷ numbers_from test (suc n) xs else numbers_from test (suc n) xs) k ≡ Some y) f h) in
      let q = numbers_from test (suc n) (take r.0 xs) in
      (suc r.0, omega (arith, r.1), r.2 ∙ sym (ap (λ b. length (if b then n ∷ q else q)) f))
]

shifted : (b : Bool) (n : ℕ) (xs ys : List ℕ) (y : ℕ) → slice_get xs (length ys) ≡ Some y → slice_get (if b then n ∷ xs else xs) (length (if b then n ∷ ys else ys)) ≡ Some y
shifted true n xs ys y h = h
shifted false n xs ys y h = h

-- and what passes has the number of those before it
pub place_of : (test : Vertex → Bool) (n : ℕ) (vs : List Vertex) (a : ℕ) (x : Vertex) → slice_get vs a ≡ Some x → test x ≡ true → slice_get (numbers_from test n vs) (length (numbers_from test n (take a vs))) ≡ Some (n + a)
place_of test n [] a x h t = cc
place_of test n (y ∷ ys) zero x h t =
    let same : y ≡ x = cc in
    let passing : test y ≡ true = ap test same ∙ t in
    let at : n ≡ n + 0 = omega arith in
    ap (λ b. slice_get (if b then n ∷ numbers_from test (suc n) ys else numbers_from test (suc n) ys) 0) passing ∙ ap Some at
place_of test n (y ∷ ys) (suc a) x h t =
    let at : suc n + a ≡ n + suc a = omega arith in
    shifted (test y) n (numbers_from test (suc n) ys) (numbers_from test (suc n) (take a ys)) (n + suc a) (place_of test (suc n) ys a x h t ∙ ap Some at)
