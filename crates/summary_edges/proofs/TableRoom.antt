-- Tables that have room for each of some functions.
use Rattle.std.proofs.Common.{◌≡◌, ℕ, ◌+◌, ◌-◌, ◌<◌, ◌≤◌, max, inl, inr, List, length, Some, slice_get, sym, ap, ◌∙◌, subst, arith}
use Rattle.std.proofs.Math.Nat.{le-max_left, le-max_right}
use Rattle.std.proofs.lemmas.Bool.{cases_eq}
use Rattle.std.proofs.lemmas.Option.{same_Some}
use Rattle.bit_rows.specs.Tables.{IsSized}
use Rattle.summary_edges.specs.declared.exit_rows.ExitRows.{ExitRows}
use Rattle.summary_edges.specs.declared.function_parts.FunctionPart.{FunctionPart}
use Rattle.summary_edges.specs.ExitRows.{HasRoom}

-- the first n functions have no more vertices and formal-outs
abbrev pub AreNoLarger : List FunctionPart → ℕ → ℕ → ℕ → Type 0
AreNoLarger parts n vertices exits = (i : ℕ) (p : FunctionPart) → i < n → slice_get parts i ≡ Some p → (p.range.last - p.range.first ≤ vertices) × (p.last_row - p.first_row ≤ exits)

pub none_larger : (parts : List FunctionPart) (vertices exits : ℕ) → AreNoLarger parts 0 vertices exits
none_larger parts vertices exits i p low at = absurd (omega (arith, low))

pub larger_taken : (parts : List FunctionPart) (n vertices exits more_vertices more_exits : ℕ) (q : FunctionPart) → slice_get parts n ≡ Some q
    → more_vertices ≡ max vertices (q.range.last - q.range.first) → more_exits ≡ max exits (q.last_row - q.first_row)
    → AreNoLarger parts n vertices exits → AreNoLarger parts (n + 1) more_vertices more_exits
larger_taken parts n vertices exits more_vertices more_exits q here v e before i p low at =
    let vertices_in = le-max_left vertices (q.range.last - q.range.first) in
    let more_in = le-max_right vertices (q.range.last - q.range.first) in
    let exits_in = le-max_left exits (q.last_row - q.first_row) in
    let more_out = le-max_right exits (q.last_row - q.first_row) in
    elim (cases_eq i n) [
      | inl same ↦
          let is : q ≡ p = same_Some _ _ (sym here ∙ ap (slice_get parts) (sym same) ∙ at) in
          (subst (λ (r : FunctionPart). r.range.last - r.range.first ≤ more_vertices) is (omega (arith, more_in, v)), subst (λ (r : FunctionPart). r.last_row - r.first_row ≤ more_exits) is (omega (arith, more_out, e)))
      | inr other ↦
          let h = before i p (omega (arith, low, other)) at in
          let few = h.0 in let few_out = h.1 in
          (omega (arith, few, vertices_in, v), omega (arith, few_out, exits_in, e))
    ]

-- a table has room for each function that is no larger
pub has_room : (p : FunctionPart) (x : ExitRows) (vertices exits : ℕ) → IsSized vertices exits x.rows → length x.fresh.items ≡ vertices → p.range.last - p.range.first ≤ vertices → p.last_row - p.first_row ≤ exits → HasRoom p x
has_room p x vertices exits sized flags v e = record {
  table = record {
    sized = subst (λ n. IsSized n x.rows.bits x.rows) (sym sized.rows_are) (subst (λ b. IsSized vertices b x.rows) (sym sized.bits_are) sized);
    flags = flags ∙ sym sized.rows_are;
  };
  vertices = (let r = sized.rows_are in omega (arith, r, v));
  exits = (let b = sized.bits_are in omega (arith, b, e));
}
