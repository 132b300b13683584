use Rattle.std.proofs.Common.{◌≡◌, ◌↔◌, ◌∙◌, ℕ, ap, length, sym, subst}
use Rattle.std.specs.Prelude.{Contains}
use Rattle.bit_rows.specs.Sets.{has}
use Rattle.projection.specs.KeptVertices.{kept_words}
use Rattle.kept_lines.specs.Found.{lines_where}
use Rattle.kept_lines.proofs.FoundLines.{kept_lines_are}
use Rattle.kept_lines.proofs.lines.lines_at.Goals as goal

pub kept_statements-requires : goal.kept_statements-requires
kept_statements-requires c = c.in_ok-kept.ensures.size c.graph.result.now c.graph.ensures.graph ∙ sym (ap length c.as_slice.ensures)

pub returns-clause-lines : goal.returns-clause-lines
returns-clause-lines c =
    let tests = c.in_ok-tests.tests.items in
    let lines = c.in_ok-lines.lines.items in
    let each = subst (λ vs. (i : ℕ) → has tests i ≡ (kept_words c.in_ok-kept.kept vs).statement i) c.as_slice.ensures c.in_ok-tests.ensures in
    let exact = subst (λ ts. (k : ℕ) → Contains lines k ↔ Contains (lines_where (has ts) c.args.starts.now) k) c.as_slice-2.ensures.value c.in_ok-lines.ensures.exact in
    kept_lines_are c.args.e.now c.graph.result.now c.args.c.line c.in_ok-kept.kept tests c.args.starts.now lines
    c.graph.ensures.graph c.in_ok-kept.ensures.kept each c.requires.starts c.in_ok-lines.ensures.ascending exact
