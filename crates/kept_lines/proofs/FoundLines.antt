-- The lines that were found are those on which a kept statement starts.
use Rattle.std.proofs.Common.{◌≡◌, ◌↔◌, ℕ, ◌<◌, ◌==◌, List, [], ◌∷◌, Bool, true, false, ◌&&◌, inl, inr, refl, sym, ap, ◌∙◌, subst, eq-eqb}
use Rattle.std.specs.Prelude.{Contains, AllPairs}
use Rattle.std.proofs.lemmas.Bool.{eqb-true, or_left, or_right, and_from, and_parts, or_cases}
use Rattle.bit_rows.specs.Sets.{has}
use Rattle.c_language.proofs.Tests.{by_answer}
use Rattle.c_tree.specs.declared.program.Program.{Program}
use Rattle.c_tree.specs.declared.numbered.Start.{Start}
use Rattle.c_tree.specs.Numbered.{Starts, program_starts}
use Rattle.dep_model.specs.declared.graph.Graph.{Graph}
use Rattle.dep_model.specs.declared.vertex.Vertex.{Vertex}
use Rattle.dep_model.specs.Graphs.{IsGraphOf}
use Rattle.dep_model.specs.SystemGraph.{vertices_of}
use Rattle.dep_model.proofs.OneAnalysis.{one_analysis}
use Rattle.projection.specs.KeptVertices.{kept_words}
use Rattle.rule_closure.proofs.ListLemmas.{contains_none, contains_head, contains_cons, contains_cases}
use Rattle.slice_engine.specs.Criterion.{put_if, starts_among}
use Rattle.slice_engine.specs.Engine.{IsKept}
use Rattle.kept_lines.specs.Found.{lines_where}
use Rattle.kept_lines.specs.Lines.{AreKeptLines, IsKeptOn}

-- one of some statements passes the test, and starts on the line
pub record IsFound (test : ℕ → Bool) (ss : Starts) (k : ℕ) : Type 0 where
  pub statement : ℕ
  pub passes : test statement ≡ true
  pub starts : starts_among k ss statement ≡ true

found_here : (test : ℕ → Bool) (s : Start) (ss : Starts) (k : ℕ) → test s.id ≡ true → s.line ≡ k → IsFound test (s ∷ ss) k
found_here test s ss k passes on = record {
  statement = s.id;
  passes = passes;
  starts = or_left _ _ (and_from (s.id == s.id) (s.line == k) (eq-eqb s.id s.id refl) (eq-eqb s.line k on));
}

found_later : (test : ℕ → Bool) (s : Start) (ss : Starts) (k : ℕ) → IsFound test ss k → IsFound test (s ∷ ss) k
found_later test s ss k w = record { statement = w.statement; passes = w.passes; starts = or_right _ _ w.starts }

pub found_at : (test : ℕ → Bool) (ss : Starts) (k : ℕ) → Contains (lines_where test ss) k → IsFound test ss k
found_at test [] k h = absurd (contains_none k h)
found_at test (s ∷ ss) k h =
    by_answer (test s.id)
    (λ passes. elim (contains_cases s.line (lines_where test ss) k (subst (λ b. Contains (put_if b s.line (lines_where test ss)) k) passes h)) [
      | inl on ↦ found_here test s ss k passes on
      | inr later ↦ found_later test s ss k (found_at test ss k later)
    ])
    (λ fails. found_later test s ss k (found_at test ss k (subst (λ b. Contains (put_if b s.line (lines_where test ss)) k) fails h)))

put_behind : (b : Bool) (l : ℕ) (ls : List ℕ) (k : ℕ) → Contains ls k → Contains (put_if b l ls) k
put_behind true l ls k h = contains_cons l ls k h
put_behind false l ls k h = h

put_here : (b : Bool) (l : ℕ) (ls : List ℕ) (k : ℕ) → b ≡ true → l ≡ k → Contains (put_if b l ls) k
put_here b l ls k passes on = subst (λ t. Contains (put_if t l ls) k) (sym passes) (subst (λ n. Contains (l ∷ ls) n) on (contains_head l ls))

pub at_found : (test : ℕ → Bool) (ss : Starts) (k i : ℕ) → test i ≡ true → starts_among k ss i ≡ true → Contains (lines_where test ss) k
at_found test [] k i passes on = cc
at_found test (s ∷ ss) k i passes on = elim (or_cases ((s.id == i) && (s.line == k)) (starts_among k ss i) on) [
  | inl here ↦
      let both = and_parts (s.id == i) (s.line == k) here in
      put_here (test s.id) s.line (lines_where test ss) k (ap test (eqb-true s.id i both.0) ∙ passes) (eqb-true s.line k both.1)
  | inr later ↦ put_behind (test s.id) s.line (lines_where test ss) k (at_found test ss k i passes later)
]

-- of the tests that say what a set of vertices of the program's graph keeps
pub kept_lines_are : (p : Program) (g : Graph) (line : ℕ) (kept tests : List Bool) (starts : Starts) (lines : List ℕ) → IsGraphOf p g → IsKept p line kept
    → ((i : ℕ) → has tests i ≡ (kept_words kept g.vertices).statement i) → starts ≡ program_starts p → AllPairs (λ a b. a < b) lines
    → ((k : ℕ) → Contains lines k ↔ Contains (lines_where (has tests) starts) k) → AreKeptLines p line lines
kept_lines_are p g line kept tests starts lines of_program is each same ascending exact = record {
  analysis = is.analysis;
  kept = kept;
  is_kept = is.is_kept;
  ascending = ascending;
  members = λ k. (
    (λ h.
        let w = found_at (has tests) starts k ((exact k).0 h) in
        record { statement = w.statement; is_kept = sym (says w.statement) ∙ w.passes; starts = subst (λ ss. starts_among k ss w.statement ≡ true) same w.starts }),
    (λ on. (exact k).1 (at_found (has tests) starts k on.statement (says on.statement ∙ on.is_kept) (subst (λ ss. starts_among k ss on.statement ≡ true) (sym same) on.starts))),
  );
}
  where
    vertices_are : g.vertices ≡ vertices_of p is.analysis
    vertices_are = of_program.is_graph.vertices_are ∙ ap (vertices_of p) (one_analysis p of_program.analysis is.analysis of_program.is_analysis is.is_kept.is_analysis)

    says : (i : ℕ) → has tests i ≡ (kept_words kept (vertices_of p is.analysis)).statement i
    says i = each i ∙ ap (λ (vs : List Vertex). (kept_words kept vs).statement i) vertices_are
