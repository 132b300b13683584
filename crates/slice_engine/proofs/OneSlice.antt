-- A program has one slice at a line: the definitions leave no byte of it open.
use Rattle.std.proofs.Common.{◌≡◌, ◌↔◌, ℕ, zero, suc, ◌<◌, List, [], ◌∷◌, ◌++◌, Bool, inl, inr, refl, sym, ap, ◌∙◌, subst, arith}
use Rattle.std.specs.Prelude.{Contains, AllPairs}
use Rattle.std.proofs.lemmas.List.Elements.{All-contains}
use Rattle.c_tree.specs.declared.program.Program.{Program}
use Rattle.c_language.specs.Words.{Bytes}
use Rattle.c_language.specs.Layout.{layout}
use Rattle.dep_model.specs.declared.edge.Edge.{Edge}
use Rattle.dep_model.proofs.OneAnalysis.{one_analysis, same_edges}
use Rattle.dep_model.proofs.EntryLaws.{main_entry_one}
use Rattle.dep_model.specs.NamedParameters.{NamesParameter}
use Rattle.dep_model.specs.SystemGraph.{Analysis, vertices_of}
use Rattle.dep_model.specs.Words.{IsPath, ReachesAny}
use Rattle.dep_model.specs.Completion.{IsClosed, IsCompletion}
use Rattle.rule_closure.proofs.ListLemmas.{contains_none, contains_head, contains_cons, contains_cases}
use Rattle.rule_closure.proofs.SetLemmas.{same_members}
use Rattle.dep_model.proofs.CompletionLemmas.{completion_unique}
use Rattle.slice_engine.specs.Slice.{criterion, IsKeptSet, sliced, AreLines, header, IsSlice}

-- ---- ascending lists

abbrev Ascends : List ℕ → Type 0
Ascends xs = AllPairs (λ a b. a < b) xs

ascends_behind : (x : ℕ) (xs : List ℕ) → Ascends (x ∷ xs) → Ascends xs
ascends_behind x xs h = λ i j d lt within. h (suc i) (suc j) d (omega (arith, lt)) (omega (arith, within))

-- all that stands behind the first number is above it
above_first : (x : ℕ) (xs : List ℕ) → Ascends (x ∷ xs) → (k : ℕ) → Contains xs k → x < k
above_first x xs h k c =
    All-contains (λ y. x < y) xs k (λ i d lt. h zero (suc i) d (omega arith) (omega (arith, lt))) c

same_first : (x y : ℕ) (xs ys : List ℕ) → Ascends (x ∷ xs) → Ascends (y ∷ ys) → ((k : ℕ) → Contains (x ∷ xs) k ↔ Contains (y ∷ ys) k) → x ≡ y
same_first x y xs ys a b same = elim (contains_cases y ys x ((same x).0 (contains_head x xs))) [
  | inl e ↦ sym e
  | inr later ↦ elim (contains_cases x xs y ((same y).1 (contains_head y ys))) [
    | inl e ↦ e
    | inr behind ↦ absurd (omega (arith, above_first y ys b x later, above_first x xs a y behind))
  ]
]

-- a member of both lists that is above the first of one stands behind the first of the other
behind_first : (x y k : ℕ) (ys : List ℕ) → x ≡ y → x < k → Contains (y ∷ ys) k → Contains ys k
behind_first x y k ys e lt c = elim (contains_cases y ys k c) [
  | inl here ↦ absurd (omega (arith, e, lt, here))
  | inr behind ↦ behind
]

-- two ascending lists with the same members are equal
pub ascending_one : (xs ys : List ℕ) → Ascends xs → Ascends ys → ((k : ℕ) → Contains xs k ↔ Contains ys k) → xs ≡ ys
ascending_one [] [] a b same = refl
ascending_one [] (y ∷ ys) a b same = absurd (contains_none y ((same y).1 (contains_head y ys)))
ascending_one (x ∷ xs) [] a b same = absurd (contains_none x ((same x).0 (contains_head x xs)))
ascending_one (x ∷ xs) (y ∷ ys) a b same =
    let first : x ≡ y = same_first x y xs ys a b same in
    let rest : xs ≡ ys = ascending_one xs ys (ascends_behind x xs a) (ascends_behind y ys b) (λ k. (
      λ c. behind_first x y k ys first (above_first x xs a k c) ((same k).0 (contains_cons x xs k c)),
      λ c. behind_first y x k xs (sym first) (above_first y ys b k c) ((same k).1 (contains_cons y ys k c)),
    )) in
    ap (λ n. n ∷ xs) first ∙ ap (λ ns. y ∷ ns) rest

-- ---- lists with the same edges

module _ (es fs : List Edge) (each : (e : Edge) → Contains es e → Contains fs e) where
  pub path_among : (path : List Edge) (a b : ℕ) → IsPath es a path b → IsPath fs a path b
  path_among [] a b joins = joins
  path_among (e ∷ path) a b joins = (each e joins.0, joins.1, path_among path e.to b joins.2)

  reaches_among : (s : List Bool) (v : ℕ) → ReachesAny es s v → ReachesAny fs s v
  reaches_among s v r =
      let by = r.reaches in
      record {
        goal = r.goal;
        wanted = r.wanted;
        reaches = record {
          path = by.path;
          joins = path_among by.path v r.goal by.joins;
          up = by.up;
          down = by.down;
          rises = by.rises;
          falls = by.falls;
          spells = by.spells;
        };
      }

  closed_among : (Names : ℕ → ℕ → Type 0) (main : ℕ) (s : List Bool) → IsClosed fs Names main s → IsClosed es Names main s
  closed_among Names main s c = record {
    controls = λ e m. c.controls e (each e m);
    flows = λ e m. c.flows e (each e m);
    formal_outs = λ e n m. c.formal_outs e n (each e m);
    callees = λ e n m. c.callees e n (each e m);
    actual_ins = λ e n m. c.actual_ins e n (each e m);
    parameters = c.parameters;
    entry = c.entry;
  }

completion_among : (es fs : List Edge) → ((e : Edge) → Contains es e → Contains fs e) → ((e : Edge) → Contains fs e → Contains es e) → (Names : ℕ → ℕ → Type 0) (main : ℕ) (x k : List Bool) → IsCompletion es Names main x k → IsCompletion fs Names main x k
completion_among es fs each back Names main x k c = record {
  size = c.size;
  holds = c.holds;
  closed = closed_among fs es back Names main k c.closed;
  least = λ t size holds closed. c.least t size holds (closed_among es fs each Names main t closed);
}

-- ---- one slice

module _ (p : Program) (line : ℕ) where
  -- by one analysis the vertices that a slice keeps are one set
  kept_by_one : (a : Analysis) (k m : List Bool) → IsKeptSet p a line k → IsKeptSet p a line m → k ≡ m
  kept_by_one a k m h j =
      let each : (e : Edge) → Contains h.edges e → Contains j.edges e = same_edges p a a h.edges j.edges h.is_analysis j.is_analysis h.are_edges j.are_edges in
      let back : (e : Edge) → Contains j.edges e → Contains h.edges e = same_edges p a a j.edges h.edges j.is_analysis h.is_analysis j.are_edges h.are_edges in
      let from = criterion p a line in
      let reached : h.reached ≡ j.reached = same_members h.reached j.reached (h.is_reached.size ∙ sym j.is_reached.size) (λ v. (
        λ t. (j.is_reached.members v).1 (reaches_among h.edges j.edges each from v ((h.is_reached.members v).0 t)),
        λ t. (h.is_reached.members v).1 (reaches_among j.edges h.edges back from v ((j.is_reached.members v).0 t)),
      )) in
      let Names = NamesParameter p (vertices_of p a) in
      let main : h.completes.main ≡ j.completes.main = main_entry_one p a h.completes.main j.completes.main h.completes.is_entry j.completes.is_entry in
      let there : IsCompletion h.edges Names j.completes.main j.reached k = subst (λ s. IsCompletion h.edges Names j.completes.main s k) reached (subst (λ v. IsCompletion h.edges Names v h.reached k) main h.completes.completes) in
      completion_unique j.edges Names j.completes.main j.reached k m (completion_among h.edges j.edges each back Names j.completes.main j.reached k there) j.completes.completes

  -- and they are one set by all analyses, since there is one analysis
  pub kept_one : (a b : Analysis) (k m : List Bool) → IsKeptSet p a line k → IsKeptSet p b line m → k ≡ m
  kept_one a b k m h j =
      kept_by_one b k m (subst (λ c. IsKeptSet p c line k) (one_analysis p a b h.is_analysis j.is_analysis) h) j

  lines_one : (a : Analysis) (kept : List Bool) (xs ys : List ℕ) → AreLines p a line kept xs → AreLines p a line kept ys → xs ≡ ys
  lines_one a kept xs ys b c =
      ascending_one xs ys b.ascending c.ascending (λ k. (λ h. (c.members k).1 ((b.members k).0 h), λ h. (b.members k).1 ((c.members k).0 h)))

  -- two texts that are the slice are equal
  pub slice_one : (t u : Bytes) → IsSlice p line t → IsSlice p line u → t ≡ u
  slice_one t u h j =
      let by : h.analysis ≡ j.analysis = one_analysis p h.analysis j.analysis h.is_kept.is_analysis j.is_kept.is_analysis in
      let same : h.kept ≡ j.kept = kept_one h.analysis j.analysis h.kept j.kept h.is_kept j.is_kept in
      let lines : h.lines ≡ j.lines = lines_one j.analysis j.kept h.lines j.lines (subst (λ k. AreLines p j.analysis line k h.lines) same (subst (λ a. AreLines p a line h.kept h.lines) by h.are_lines)) j.are_lines in
      h.text_is ∙ ap (λ ls. header line ls ++ layout (sliced p h.analysis h.kept)) lines ∙ ap (λ a. header line j.lines ++ layout (sliced p a h.kept)) by ∙ ap (λ k. header line j.lines ++ layout (sliced p j.analysis k)) same ∙ sym j.text_is
