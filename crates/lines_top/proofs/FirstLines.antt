-- The criteria of lines, one after another.
use Rattle.std.proofs.Common.{◌≡◌, ℕ, ◌+◌, ◌<◌, ◌≤◌, List, [], ◌∷◌, ◌++◌, length, ap, ◌∙◌, arith}
use Rattle.std.proofs.lemmas.List.{map-append, take_all}
use Rattle.c_tree.specs.declared.program.Program.{Program}
use Rattle.kept_lines.specs.Lines.{lines_of}
use Rattle.slice_engine.specs.Slice.{HasStart}
use Rattle.slice_engine.specs.declared.engine.Criterion.{Criterion}
use Rattle.slicer_top.specs.Slices.{line_at}
use Rattle.slicer_top.proofs.CriteriaLaws.{ArePassed, none_passed, one_more_passed}
use Rattle.lines_top.specs.Texts.{CanBeAsked, IsFirstWithout}

module _ (p : Program) (lines : List ℕ) where
  -- the criteria of the first lines
  abbrev pub AreFirst : ℕ → List Criterion → Type 0
  AreFirst many found = ArePassed p lines many (lines_of found)

  pub none_first : AreFirst 0 []
  none_first = none_passed p lines

  pub one_more_first : (many : ℕ) (found after : List Criterion) (x : Criterion) → AreFirst many found → many < length lines → after ≡ found ++ x ∷ [] → x.line ≡ line_at lines many → HasStart p (line_at lines many)
      → AreFirst (many + 1) after
  one_more_first many found after x first lt is line here =
      one_more_passed p lines many (lines_of found) (lines_of after) x.line first lt (ap lines_of is ∙ map-append (λ (c : Criterion). c.line) found (x ∷ [])) line here

  pub all_first : (many : ℕ) (found : List Criterion) → AreFirst many found → length lines ≤ 4096 → length lines ≤ many → CanBeAsked p lines × (lines_of found ≡ lines)
  all_first many found first few end =
      (record { few = few; starts = λ i lt. first.starts i (omega (arith, lt, end)) }, first.same ∙ take_all many lines end)

  pub first_without : (many : ℕ) (found : List Criterion) (line : ℕ) → AreFirst many found → length lines ≤ 4096 → many < length lines → line ≡ line_at lines many → (HasStart p line → ⊥) → IsFirstWithout p lines line
  first_without many found line first few lt is none = record { few = few; place = many; within = lt; is_line = is; before = first.starts; none = none }
