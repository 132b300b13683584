use Rattle.std.proofs.Common.{◌≡◌, ◌⊎◌, ℕ, ◌≤◌, All, subst}
use Rattle.c_tree.specs.declared.numbered.Start.{Start}
use Rattle.c_tree.specs.Numbered.{Starts}
use Rattle.slice_engine.specs.Slice.{HasStart}
use Rattle.slice_engine.proofs.EngineLaws.{ends_by, ends_on}
use Rattle.slice_engine.proofs.StartLemmas.{IsSomeLine}
use Rattle.slice_engine.proofs.engine.Engine.last_line.Goals as goal

pub returns-clause-latest : goal.returns-clause-latest
returns-clause-latest c =
    let last = c.last_line.result in
    let all = subst (λ (xs : Starts). All (λ (s : Start). s.line ≤ last) xs) c.deref.ensures.value c.last_line.ensures.latest in
    subst (λ p. (line : ℕ) → HasStart p line → line ≤ last) c.self.view_is (ends_by c.self.inside.program c.self.inside.graph c.self.inside.facts c.self.inside.starts.items c.self.invariant.prepared last all)

pub returns-clause-is_one : goal.returns-clause-is_one
returns-clause-is_one c =
    let last = c.last_line.result in
    let one = subst (λ (xs : Starts). (last ≡ 0) ⊎ IsSomeLine xs last) c.deref.ensures.value c.last_line.ensures.is_one in
    subst (λ p. (last ≡ 0) ⊎ HasStart p last) c.self.view_is (ends_on c.self.inside.program c.self.inside.graph c.self.inside.facts c.self.inside.starts.items c.self.invariant.prepared last one)
