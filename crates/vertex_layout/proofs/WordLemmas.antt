-- The words of facts, one vertex after another.
use Rattle.std.proofs.Common.{◌≡◌, ℕ, suc, ◌+◌, ◌*◌, ◌/◌, ◌<◌, ◌≤◌, List, [], ◌∷◌, length, drop, get_or, Bool, true, false, inl, inr, sym, ap, ◌∙◌, arith}
use Rattle.std.specs.Prelude.{if◌then◌else◌}
use Rattle.std.proofs.lemmas.Bool.{cases_Bool}
use Rattle.c_language.proofs.Turns.{drop_turn}
use Rattle.dep_model.specs.declared.vertex.Vertex.{Vertex}
use Rattle.dep_model.specs.FunctionVertices.{is_formal_in, is_formal_out, passes, numbers_from, numbers}
use Rattle.dep_model.specs.Graphs.{row_width, words_in, fact_words}
use Rattle.vertex_layout.specs.FactWords.{AreCounts, count_at, one_if, vertex_words}

-- ---- counts

one_longer : (b : Bool) (n : ℕ) (xs : List ℕ) → length (if b then n ∷ xs else xs) ≡ one_if b + length xs
one_longer true n xs = let e : suc (length xs) ≡ 1 + length xs = omega arith in e
one_longer false n xs = let e : length xs ≡ 0 + length xs = omega arith in e

one_number : (test : Vertex → Bool) (n : ℕ) (v : Vertex) (vs : List Vertex) → length (numbers_from test n (v ∷ vs)) ≡ one_if (test v) + length (numbers_from test (suc n) vs)
one_number test n v vs = one_longer (test v) n (numbers_from test (suc n) vs)

-- there are no more numbers than vertices
numbers_few : (test : Vertex → Bool) (n : ℕ) (vs : List Vertex) → length (numbers_from test n vs) ≤ length vs
numbers_few test n [] = omega arith
numbers_few test n (v ∷ vs) =
    let one = one_number test n v vs in
    let few = numbers_few test (suc n) vs in
    elim (cases_Bool (test v)) [
      | inl is ↦ let b : one_if (test v) ≡ 1 = ap one_if is in omega (arith, one, few, b)
      | inr is ↦ let b : one_if (test v) ≡ 0 = ap one_if is in omega (arith, one, few, b)
    ]

pub formal_ins_few : (vs : List Vertex) (f : ℕ) → length (numbers is_formal_in f vs) ≤ length vs
formal_ins_few vs f = numbers_few (passes is_formal_in f) 0 vs

-- what is counted so far, and what is still to come
pub record AreCounted (vs : List Vertex) (i : ℕ) (counts : List ℕ) : Type 0 where
  pub each : (f : ℕ) → count_at counts f + length (numbers_from (passes is_formal_in f) i (drop i vs)) ≡ length (numbers is_formal_in f vs)

pub counted_few : (vs : List Vertex) (i : ℕ) (counts : List ℕ) (f : ℕ) → length vs ≤ 65536 → AreCounted vs i counts → count_at counts f ≤ 65536
counted_few vs i counts f few h = let all = h.each f in let most = formal_ins_few vs f in omega (arith, all, most, few)

pub counted_turn : (vs : List Vertex) (i : ℕ) (x : Vertex) (old new : List ℕ) → i < length vs → x ≡ get_or vs i x
    → ((f : ℕ) → count_at new f ≡ count_at old f + one_if (passes is_formal_in f x)) → AreCounted vs i old → AreCounted vs (i + 1) new
counted_turn vs i x old new low is raised h = record {
  each = λ f.
      let test = passes is_formal_in f in
      let next : i + 1 ≡ suc i = omega arith in
      let here : length (numbers_from test i (drop i vs)) ≡ one_if (test x) + length (numbers_from test (suc i) (drop (i + 1) vs)) =
      ap (λ (ys : List Vertex). length (numbers_from test i ys)) (drop_turn vs i x low is) ∙ one_number test i x (drop (i + 1) vs) in
      let there : length (numbers_from test (i + 1) (drop (i + 1) vs)) ≡ length (numbers_from test (suc i) (drop (i + 1) vs)) = ap (λ k. length (numbers_from test k (drop (i + 1) vs))) next in
      let before = h.each f in
      let now = raised f in
      omega (arith, here, there, before, now);
}

-- ---- words

one_wider : (b : Bool) (m n k : ℕ) → n ≡ m → (if b then m + k else k) ≡ (if b then n else 0) + k
one_wider true m n k e = ap (λ j. j + k) (sym e)
one_wider false m n k e = let z : k ≡ 0 + k = omega arith in z

-- the words of a vertex are those of its row
words_at : (vs : List Vertex) (counts : List ℕ) (x : Vertex) (xs : List Vertex) → AreCounts vs counts → words_in vs (x ∷ xs) ≡ vertex_words counts x + words_in vs xs
words_at vs counts x xs are = one_wider (is_formal_out x.kind) (row_width vs x.function) ((count_at counts x.function + 63) / 64) (words_in vs xs) (ap (λ n. (n + 63) / 64) (are.each x.function))

-- what is added up so far, and what is still to come
pub record AreAdded (vs : List Vertex) (i words : ℕ) : Type 0 where
  pub all : words + words_in vs (drop i vs) ≡ fact_words vs

pub added_turn : (vs : List Vertex) (counts : List ℕ) (i words more : ℕ) (x : Vertex) → AreCounts vs counts → i < length vs → x ≡ get_or vs i x → more ≡ vertex_words counts x → AreAdded vs i words → AreAdded vs (i + 1) (words + more)
added_turn vs counts i words more x are low is told h = record {
  all =
      let here : words_in vs (drop i vs) ≡ vertex_words counts x + words_in vs (drop (i + 1) vs) = ap (words_in vs) (drop_turn vs i x low is) ∙ words_at vs counts x (drop (i + 1) vs) are in
      let before = h.all in
      omega (arith, here, told, before);
}

width_few : (vs : List Vertex) (f : ℕ) → length vs ≤ 65536 → row_width vs f ≤ 1024
width_few vs f few = let most = formal_ins_few vs f in omega (arith, most, few)

words_few : (vs : List Vertex) → length vs ≤ 65536 → (xs : List Vertex) → words_in vs xs ≤ 1024 * length xs
words_few vs few [] = omega arith
words_few vs few (x ∷ xs) =
    let rest = words_few vs few xs in
    let wide = width_few vs x.function few in
    elim (cases_Bool (is_formal_out x.kind)) [
      | inl is ↦ let here : words_in vs (x ∷ xs) ≡ row_width vs x.function + words_in vs xs = ap (λ b. if b then row_width vs x.function + words_in vs xs else words_in vs xs) is in omega (arith, here, rest, wide)
      | inr is ↦ let here : words_in vs (x ∷ xs) ≡ words_in vs xs = ap (λ b. if b then row_width vs x.function + words_in vs xs else words_in vs xs) is in omega (arith, here, rest)
    ]

-- all words are fewer than a number of 32 bits counts
pub fact_words_few : (vs : List Vertex) → length vs ≤ 65536 → fact_words vs ≤ 67108864
fact_words_few vs few = let all = words_few vs few vs in omega (arith, all, few)

-- so are those so far, with those of one more vertex
pub added_few : (vs : List Vertex) (counts : List ℕ) (i words more : ℕ) (x : Vertex) → length vs ≤ 65536 → AreCounts vs counts → i < length vs → x ≡ get_or vs i x → more ≡ vertex_words counts x → AreAdded vs i words → words + more ≤ 67108864
added_few vs counts i words more x few are low is told h =
    let next = added_turn vs counts i words more x are low is told h in
    let all : words + more + words_in vs (drop (i + 1) vs) ≡ fact_words vs = next.all in
    let most = fact_words_few vs few in
    omega (arith, all, most)
