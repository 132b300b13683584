-- From what is kept to the slice: its text is the defined one, and is read again with the same values.
use Rattle.std.proofs.Common.{◌≡◌, ◌↔◌, ℕ, suc, ◌+◌, ◌^◌, ◌<◌, ◌≤◌, List, [], ◌∷◌, ◌++◌, length, get_or, slice_get, length-append, Bool, true, false, inl, inr, Some, refl, sym, ap, ◌∙◌, subst, arith}
use Rattle.std.specs.Prelude.{Contains, AllPairs}
use Rattle.std.proofs.lemmas.Bool.{cases_lt}
use Rattle.std.proofs.lemmas.List.{get_or_past}
use Rattle.bit_rows.specs.Sets.{has}
use Rattle.c_tree.specs.declared.program.Program.{Program}
use Rattle.c_tree.specs.Numbered.{Starts}
use Rattle.c_language.specs.Words.{Bytes}
use Rattle.std.proofs.lemmas.List.Sums.{count_by-le-length}
use Rattle.c_language.specs.Tokens.{is_feed}
use Rattle.c_language.specs.Layout.{layout}
use Rattle.c_language.specs.Programs.{IsAccepted, IsWellFormed}
use Rattle.c_tree.specs.Unlined.{unlined_program}
use Rattle.c_print.specs.Lines.{line_of}
use Rattle.c_print.specs.StartsOn.{StartsOn}
use Rattle.c_print_laws.specs.ReadAgain.{IsReadAgain}
use Rattle.c_print_laws.proofs.ReadAgain.{commented_is_read_again}
use Rattle.c_print_laws.proofs.StatementStarts.{statements_start}
use Rattle.rule_closure.proofs.ListLemmas.{contains_head, contains_cons}
use Rattle.dep_model.specs.declared.facts.Facts.{Facts}
use Rattle.dep_model.specs.declared.graph.Graph.{Graph}
use Rattle.kept_numbers.specs.Ranks.{rank}
use Rattle.projection.specs.KeptVertices.{kept_words, projection}
use Rattle.slice_engine.specs.Slice.{starts_on, keeps, sliced, IsStartLine, header, IsSlice, is_criterion, IsAcceptedSlice, IsFaithful}
use Rattle.slice_engine.specs.Criterion.{by_rank}
use Rattle.slice_engine.specs.Header.{shown_lines}
use Rattle.slice_engine.specs.Laws.{CanBeProjected}
use Rattle.slice_engine.specs.Engine.{IsPrepared, KeepsFrom, IsSlicedAt}
use Rattle.slice_engine.proofs.KeptSets.{kept_set}
use Rattle.slice_engine.proofs.Kept.{criterion_kept, kept_able, kept_projectable, reaching_kept}
use Rattle.slice_engine.proofs.CriterionRanks.{criterion_rank}
use Rattle.slice_engine.proofs.RankTests.{at_rank, of_rank, length-by_rank}
use Rattle.slice_engine.proofs.Projections.{projected_well_formed, projected_words, projected_values}
use Rattle.slice_engine.proofs.StartNumbers.{start_low}
use Rattle.slice_engine.proofs.HeaderLines.{shown_at, at_shown}
use Rattle.slice_engine.proofs.HeaderLemmas.{AreShort, inside, inside_feedless, inside_starless, header_is_comment}

-- ---- the program of the slice

-- what is kept at a line, its projection, and the tests of its statements by rank
pub is_sliced : (p : Program) (g : Graph) (facts : Facts) (starts : Starts) (line : ℕ) (kept : List Bool) (q : Program) (ranks : List Bool) → IsPrepared p g facts starts → KeepsFrom p g line kept → q ≡ projection p g.vertices kept
    → ranks ≡ by_rank (kept_words kept g.vertices).statement (starts_on p line) p.statements → IsSlicedAt p line q ranks
is_sliced p g facts starts line kept q ranks ready keeps_from is ranks_are =
    let a = ready.is_graph.analysis in
    let same = ready.is_graph.is_graph.vertices_are in
    let test = keeps p a kept in
    let there : ranks ≡ by_rank (keeps p a kept) (starts_on p line) p.statements = ranks_are ∙ ap (λ vs. by_rank (kept_words kept vs).statement (starts_on p line) p.statements) same in
    let program : q ≡ sliced p a kept = is ∙ ap (λ vs. projection p vs kept) same in
    record {
      analysis = a;
      kept = kept;
      is_kept = kept_set p a ready.well_formed ready.is_graph.is_analysis line g kept ready.is_graph.is_graph keeps_from;
      program_is = program;
      in_criterion_long = ap length there ∙ length-by_rank test (starts_on p line) p.statements ∙ sym (ap (λ (x : Program). x.statements) program);
      in_criterion_are = λ i low k. ap (λ xs. has xs (rank test i)) there ∙ at_rank test (starts_on p line) i p.statements low k;
      in_criterion_only = λ r h.
          let w = of_rank test (starts_on p line) p.statements r (ap (λ xs. has xs r) (sym there) ∙ h) in
          (w.number, w.below, w.kept, w.at);
    }

-- ---- its text

-- a line of a layout is at most one more than the number of its bytes
line_fits : (q : Program) (id n : ℕ) → StartsOn q id n → n ≤ 1 + length (layout q)
line_fits q id n h =
    let feeds = count_by-le-length is_feed h.front in
    let line = h.line in
    let size = ap length h.text ∙ length-append h.front (h.words ++ h.rest) in
    omega (arith, feeds, line, size)

short_each : (ks : List ℕ) → ((k : ℕ) → Contains ks k → k < 2 ^ 64) → AreShort ks
short_each [] h = tt
short_each (k ∷ ks) h = (h k (contains_head k ks), short_each ks (λ x c. h x (contains_cons k ks x c)))

module _ (p : Program) (line : ℕ) (q : Program) (in_criterion : List Bool) (well : IsWellFormed p) (s : IsSlicedAt p line q in_criterion) where
  abbrev at : ℕ → ℕ
  at i = rank (keeps p s.analysis s.kept) i

  well_there : IsWellFormed (sliced p s.analysis s.kept)
  well_there = projected_well_formed p s.analysis s.kept well (kept_projectable p s.analysis line s.kept well s.is_kept)

  well_q : IsWellFormed q
  well_q = subst IsWellFormed (sym s.program_is) well_there

  -- the ranks of the criterion and the lines of their statements
  abbrev Shown : List ℕ → List ℕ → Type 0
  Shown lines shown = (k : ℕ) → Contains shown k ↔ Contains (shown_lines in_criterion lines) k

  abbrev AreAll : List ℕ → Type 0
  AreAll lines = (id : ℕ) → id < q.statements → slice_get lines id ≡ Some (line_of q id)

  rank_low : (r : ℕ) → get_or in_criterion r false ≡ true → r < q.statements
  rank_low r h = elim (cases_lt r q.statements) [
    | inl lt ↦ lt
    | inr ge ↦ let none : get_or in_criterion r false ≡ false = get_or_past in_criterion r false (omega (arith, s.in_criterion_long, ge)) in cc
  ]

  some_line : (lines : List ℕ) → AreAll lines → (r n : ℕ) → r < q.statements → slice_get lines r ≡ Some n → n ≡ line_of q r
  some_line lines all r n lt e = some_same (sym e ∙ all r lt)
    where
      some_same : {a b : ℕ} → Some a ≡ Some b → a ≡ b
      some_same h = cc

  line_there : (i r : ℕ) → at i ≡ r → line_of q r ≡ line_of (sliced p s.analysis s.kept) (at i)
  line_there i r e = ap (line_of q) (sym e) ∙ ap (λ x. line_of x (at i)) s.program_is

  line_is : (i k : ℕ) → at i < q.statements → k ≡ suc (line_of (sliced p s.analysis s.kept) (at i)) → IsStartLine p s.analysis s.kept i k
  line_is i k lt e = record {
    starts = statements_start (sliced p s.analysis s.kept) well_there (at i) (subst (λ (x : Program). at i < x.statements) s.program_is lt);
    behind_header = e;
  }

  lines_found : (lines shown : List ℕ) → AreAll lines → Shown lines shown → (k : ℕ) → Contains shown k → (i : ℕ) × (starts_on p line i ≡ true) × IsStartLine p s.analysis s.kept i k
  lines_found lines shown all exact k h =
      let f = shown_at in_criterion lines k ((exact k).0 h) in
      let w = s.in_criterion_only f.rank f.is_shown in
      let lt = rank_low f.rank f.is_shown in
      let on : starts_on p line w.0 ≡ true = sym (s.in_criterion_are w.0 w.1 w.2) ∙ ap (λ r. get_or in_criterion r false) w.3 ∙ f.is_shown in
      let is : k ≡ suc (line_of (sliced p s.analysis s.kept) (at w.0)) = f.behind ∙ ap suc (some_line lines all f.rank f.line lt f.line_is ∙ line_there w.0 f.rank w.3) in
      (w.0, on, line_is w.0 k (subst (λ r. r < q.statements) (sym w.3) lt) is)

  found_lines : (lines shown : List ℕ) → AreAll lines → Shown lines shown → (k i : ℕ) → starts_on p line i ≡ true → IsStartLine p s.analysis s.kept i k → Contains shown k
  found_lines lines shown all exact k i on l =
      let want : get_or in_criterion (at i) false ≡ true = s.in_criterion_are i (start_low p well line i on) (criterion_kept p s.analysis line s.kept well s.is_kept i on) ∙ on in
      let lt = rank_low (at i) want in
      (exact k).1 (subst (Contains (shown_lines in_criterion lines)) (sym (l.behind_header ∙ ap suc (sym (line_there i (at i) refl)))) (at_shown in_criterion lines (at i) (line_of q (at i)) want (all (at i) lt)))

  pub is_slice : (lines shown : List ℕ) (text : Bytes) → AreAll lines → AllPairs (λ a b. a < b) shown → Shown lines shown → text ≡ header line shown ++ layout q → IsSlice p line text
  is_slice lines shown text all ascending exact is = record {
    analysis = s.analysis;
    kept = s.kept;
    is_kept = s.is_kept;
    lines = shown;
    are_lines = record {
      ascending = ascending;
      members = λ k. (λ h. lines_found lines shown all exact k h, λ h. found_lines lines shown all exact k h.0 h.1 h.2);
    };
    text_is = is ∙ ap (λ x. header line shown ++ layout x) s.program_is;
  }

  shown_short : (lines shown : List ℕ) → AreAll lines → Shown lines shown → length (layout q) ≤ 2 ^ 32 → AreShort shown
  shown_short lines shown all exact fits = short_each shown (λ k h.
      let f = shown_at in_criterion lines k ((exact k).0 h) in
      let lt = rank_low f.rank f.is_shown in
      let is = f.behind in
      let low = line_fits q f.rank (line_of q f.rank) (statements_start q well_q f.rank lt) in
      let same = some_line lines all f.rank f.line lt f.line_is in
      omega (arith, is, low, same, fits))

  pub is_read : (lines shown : List ℕ) (text : Bytes) → AreAll lines → Shown lines shown → line < 2 ^ 64 → length (layout q) ≤ 2 ^ 32 → text ≡ header line shown ++ layout q → IsAcceptedSlice p line text
  is_read lines shown text all exact low fits is =
      let short = shown_short lines shown all exact fits in
      let again : IsReadAgain (header line shown ++ layout q) q = subst (λ front. IsReadAgain (front ++ layout q) q) (header_is_comment line shown) (commented_is_read_again (inside line shown) q (inside_feedless line shown low short) (inside_starless line shown low short) well_q) in
      record {
        analysis = s.analysis;
        kept = s.kept;
        is_kept = s.is_kept;
        program = again.again;
        reads = record { raw = again.found; accepted = subst (λ t. IsAccepted t again.found again.again) (sym is) again.accepted; within = again.within };
        same_program = sym again.same ∙ ap unlined_program s.program_is;
        own_words = projected_words p s.analysis s.kept well (kept_projectable p s.analysis line s.kept well s.is_kept);
      }

-- ---- the same values

-- what is read of a slice is accepted so, and gives the same values at the criterion
pub is_faithful : (p : Program) (line : ℕ) (text : Bytes) → IsWellFormed p → IsAcceptedSlice p line text → IsFaithful p line text
is_faithful p line text well r = record {
  accepted = r;
  same_values =
      let able : CanBeProjected p r.analysis r.kept = record {
        is_analysis = r.is_kept.is_analysis;
        edges = r.is_kept.edges;
        are_edges = r.is_kept.are_edges;
        long = (kept_projectable p r.analysis line r.kept well r.is_kept).long;
        projectable = kept_able p r.analysis line r.kept well r.is_kept;
      } in
      projected_values p r.program r.analysis r.kept (starts_on p line) (is_criterion p r.analysis line r.kept) well able (reaching_kept p r.analysis line r.kept r.is_kept) (criterion_rank p r.analysis line r.kept well r.is_kept) r.same_program;
}
