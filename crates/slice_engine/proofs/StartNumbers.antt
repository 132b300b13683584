-- The numbered statements of a well-formed program have the numbers below their count.
use Rattle.std.proofs.Common.{◌≡◌, ℕ, zero, suc, ◌+◌, ◌<◌, ◌==◌, ◌&&◌, List, [], ◌∷◌, ◌++◌, map, Bool, true, inl, inr, refl, sym, ap, ap₂, ◌∙◌, arith}
use Rattle.std.specs.List.{range_with_len}
use Rattle.std.proofs.lemmas.Bool.{eqb-true, or_cases, and_parts}
use Rattle.std.proofs.lemmas.List.{map-append}
use Rattle.c_tree.specs.declared.numbered.Start.{Start}
use Rattle.c_tree.specs.declared.program.Function.{Function}
use Rattle.c_tree.specs.declared.program.Program.{Program}
use Rattle.c_tree.specs.Numbered.{Starts, body_starts, function_starts, program_starts}
use Rattle.c_language.specs.Programs.{IsWellFormed}
use Rattle.dep_model.specs.Doings.{body_doings, functions_doings, doing_number}
use Rattle.dep_model.proofs.StartDoings.{ids, body_agree}
use Rattle.numbered_texts.proofs.NumbersButLines.{statements_numbered}
use Rattle.slice_engine.specs.Criterion.{starts_among}
use Rattle.slice_engine.specs.Slice.{starts_on}

-- one that starts on a line is among numbers from s on
among_range : (line s n : ℕ) (ss : Starts) (i : ℕ) → ids ss ≡ range_with_len s n → starts_among line ss i ≡ true → i < s + n
among_range line s n [] i h on = cc
among_range line s zero (x ∷ ss) i h on = cc
among_range line s (suc n) (x ∷ ss) i h on = elim (or_cases ((x.id == i) && (x.line == line)) (starts_among line ss i) on) [
  | inl here ↦
      let same : x.id ≡ i = eqb-true x.id i (and_parts (x.id == i) (x.line == line) here).0 in
      let first : x.id ≡ s = head_same h in
      omega (arith, same, first)
  | inr later ↦ let lt = among_range line (s + 1) n ss i (tail_same h) later in omega (arith, lt)
]
  where
    head_same : {j k : ℕ} {js ks : List ℕ} → j ∷ js ≡ k ∷ ks → j ≡ k
    head_same e = cc

    tail_same : {j k : ℕ} {js ks : List ℕ} → j ∷ js ≡ k ∷ ks → js ≡ ks
    tail_same e = cc

pub functions_agree : (fs : List Function) → ids (function_starts fs) ≡ map doing_number (functions_doings fs)
functions_agree [] = refl
functions_agree (f ∷ fs) =
    map-append (λ (s : Start). s.id) (body_starts f.body) (function_starts fs) ∙ ap₂ (λ (a b : List ℕ). a ++ b) (body_agree f.body) (functions_agree fs) ∙ sym (map-append doing_number (body_doings f.body) (functions_doings fs))

-- a statement that starts on a line is one of the program's
pub start_low : (p : Program) → IsWellFormed p → (line i : ℕ) → starts_on p line i ≡ true → i < p.statements
start_low p well line i on =
    let lt = among_range line 0 p.statements (program_starts p) i (functions_agree p.functions ∙ statements_numbered p well) on in omega (arith, lt)
