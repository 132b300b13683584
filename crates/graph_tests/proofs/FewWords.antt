-- A short list of vertices has few fact words.
use Rattle.std.proofs.Common.{ℕ, suc, ◌+◌, ◌*◌, ◌≤◌, List, [], ◌∷◌, length, Bool, true, false, arith}
use Rattle.std.specs.Prelude.{if◌then◌else◌}
use Rattle.dep_model.specs.declared.vertex.Vertex.{Vertex}
use Rattle.dep_model.specs.FunctionVertices.{is_formal_in, is_formal_out, passes, numbers_from, numbers}
use Rattle.dep_model.specs.Graphs.{row_width, words_in, fact_words}

numbers_few : (test : Vertex → Bool) (n : ℕ) (vs : List Vertex) → length (numbers_from test n vs) ≤ length vs
numbers_few test n [] = omega arith
numbers_few test n (v ∷ vs) = by_test (test v) (numbers_few test (suc n) vs)
  where
    by_test : (b : Bool) → length (numbers_from test (suc n) vs) ≤ length vs → length (if b then n ∷ numbers_from test (suc n) vs else numbers_from test (suc n) vs) ≤ suc (length vs)
    by_test true h = omega (arith, h)
    by_test false h = omega (arith, h)

narrow : (vs : List Vertex) (f : ℕ) → length vs ≤ 500 → row_width vs f ≤ 8
narrow vs f short = let few : length (numbers is_formal_in f vs) ≤ length vs = numbers_few (passes is_formal_in f) 0 vs in omega (arith, few, short)

few_in : (vs xs : List Vertex) → length vs ≤ 500 → words_in vs xs ≤ 8 * length xs
few_in vs [] short = omega arith
few_in vs (x ∷ xs) short =
    let here = narrow vs x.function short in
    let rest = few_in vs xs short in
    by_test (is_formal_out x.kind) here rest
  where
    by_test : (b : Bool) → row_width vs x.function ≤ 8 → words_in vs xs ≤ 8 * length xs → (if b then row_width vs x.function + words_in vs xs else words_in vs xs) ≤ 8 * suc (length xs)
    by_test true h r = omega (arith, h, r)
    by_test false h r = omega (arith, h, r)

pub few_fact_words : (vs : List Vertex) → length vs ≤ 500 → fact_words vs ≤ 262144
few_fact_words vs short = let h = few_in vs vs short in omega (arith, h, short)
