-- What the calls of an engine ask of each other.
use Rattle.std.proofs.Common.{◌≡◌, ◌↔◌, ◌⊎◌, false, ℕ, ◌<◌, ◌==◌, List, [], ◌∷◌, ◌≤◌, Bool, true, IsTrue, inl, inr, sym, ap, ◌∙◌, subst, arith}
use Rattle.std.specs.Prelude.{All}
use Rattle.std.specs.List.{list_any}
use Rattle.std.proofs.lemmas.Bool.{eqb-true, or_cases}
use Rattle.std.proofs.lemmas.Bool.Decides.{leb_tells}
use Rattle.std.proofs.lemmas.List.Elements.{All-head, All-tail}
use Rattle.c_tree.specs.declared.program.Program.{Program}
use Rattle.c_tree.specs.declared.numbered.Start.{Start}
use Rattle.c_tree.specs.Numbered.{Starts, program_starts}
use Rattle.dep_model.specs.declared.facts.Facts.{Facts}
use Rattle.dep_model.specs.declared.graph.Graph.{Graph}
use Rattle.dep_model.proofs.SwitchLaws.{true_not_false}
use Rattle.slice_engine.specs.Engine.{IsPrepared}
use Rattle.slice_engine.specs.Slice.{HasStart}
use Rattle.slice_engine.proofs.CriterionLaws.{some_start, start_some}
use Rattle.slice_engine.proofs.StartLemmas.{IsSomeLine}

-- whether some statement starts on a line
pub start_decides : (p : Program) (g : Graph) (facts : Facts) (starts : Starts) → IsPrepared p g facts starts → (line : ℕ) (b : Bool) → b ≡ list_any (λ (s : Start). s.line == line) starts → IsTrue b ↔ HasStart p line
start_decides p g facts starts ready line b e =
    let here : b ≡ list_any (λ (s : Start). s.line == line) (program_starts p) = e ∙ ap (list_any (λ (s : Start). s.line == line)) ready.starts_are in
    (λ t. some_start line (program_starts p) (sym here ∙ t), λ h. here ∙ start_some line (program_starts p) h.0 h.1)

-- ---- what isn't too large

-- a number that a test doesn't find above a bound
not_above : (bound n : ℕ) (b : Bool) → (bound < n → IsTrue b) → b ≡ false → n ≤ bound
not_above bound n b tells small = elim (leb_tells n bound) [
  | inl most ↦ most.1
  | inr above ↦ true_not_false (tells above.1) small
]

pub short_enough : (size : ℕ) (b : Bool) → IsTrue b ↔ (4294967296 < size) → b ≡ false → size ≤ 4294967296
short_enough size b tells small = not_above 4294967296 size b tells.1 small

-- ---- the last line

-- none of the starts is behind the last line
pub ends_by : (p : Program) (g : Graph) (facts : Facts) (starts : Starts) → IsPrepared p g facts starts → (last : ℕ) → All (λ (s : Start). s.line ≤ last) starts → (line : ℕ) → HasStart p line → line ≤ last
ends_by p g facts starts ready last all line h =
    start_low line last starts all (subst (λ (ss : List Start). list_any (λ (s : Start). s.line == line) ss ≡ true) (sym ready.starts_are) (start_some line (program_starts p) h.0 h.1))
  where
    start_low : (line last : ℕ) (starts : Starts) → All (λ (s : Start). s.line ≤ last) starts → list_any (λ (s : Start). s.line == line) starts ≡ true → line ≤ last
    start_low line last [] all h = cc
    start_low line last (s ∷ ss) all h = elim (or_cases (s.line == line) (list_any (λ (x : Start). x.line == line) ss) h) [
      | inl here ↦ let le = All-head (λ (x : Start). x.line ≤ last) s ss all in let is = eqb-true s.line line here in omega (arith, le, is)
      | inr later ↦ start_low line last ss (All-tail (λ (x : Start). x.line ≤ last) s ss all) later
    ]

-- a number that is the line of one of the starts, or 0, is a line on which a statement starts, or 0
pub ends_on : (p : Program) (g : Graph) (facts : Facts) (starts : Starts) → IsPrepared p g facts starts → (last : ℕ) → (last ≡ 0) ⊎ IsSomeLine starts last → (last ≡ 0) ⊎ HasStart p last
ends_on p g facts starts ready last (inl none) = inl none
ends_on p g facts starts ready last (inr some) =
    inr (some_start last (program_starts p) (ap (list_any (λ (s : Start). s.line == last)) (sym ready.starts_are) ∙ some))
