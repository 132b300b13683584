-- The criterion's statements by their ranks: each is kept, and its rank stands for it alone.
use Rattle.std.proofs.Common.{◌≡◌, ℕ, List, [], ◌∷◌, Bool, true, ◌==◌, ◌&&◌, inl, inr, refl, ap, subst, eq-eqb}
use Rattle.std.specs.List.{list_any}
use Rattle.std.proofs.lemmas.Bool.{eqb-true, or_left, or_right, or_cases, and_from, and_parts}
use Rattle.rule_closure.proofs.SetLemmas.{same_test}
use Rattle.c_tree.specs.declared.program.Program.{Program}
use Rattle.c_tree.specs.declared.numbered.Start.{Start}
use Rattle.c_tree.specs.Numbered.{program_starts}
use Rattle.c_language.specs.Programs.{IsWellFormed}
use Rattle.dep_model.specs.SystemGraph.{Analysis}
use Rattle.kept_numbers.specs.Ranks.{rank}
use Rattle.slice_engine.proofs.Ranks.{rank_injective}
use Rattle.slice_engine.specs.Slice.{starts_on, IsKeptSet, keeps, is_criterion}
use Rattle.slice_engine.proofs.Kept.{criterion_kept}

-- a test that passes in a list passes at some item, and so does each other test that passes there
pub record Passes {A : Type 0} (test : A → Bool) (xs : List A) : Type 0 where
  pub item : A
  pub here : test item ≡ true
  pub others : (other : A → Bool) → other item ≡ true → list_any other xs ≡ true

passes : {A : Type 0} (test : A → Bool) (xs : List A) → list_any test xs ≡ true → Passes test xs
passes test [] h = cc
passes test (x ∷ xs) h =
    elim (or_cases (test x) (list_any test xs) h) [
      | inl a ↦ record { item = x; here = a; others = λ other b. or_left (other x) (list_any other xs) b }
      | inr b ↦ let r = passes test xs b in record { item = r.item; here = r.here; others = λ other b. or_right (other x) (list_any other xs) (r.others other b) }
    ]

module _ (p : Program) (a : Analysis) (line : ℕ) (kept : List Bool) (well : IsWellFormed p) (k : IsKeptSet p a line kept) where
  to_rank : (i : ℕ) → starts_on p line i ≡ true → is_criterion p a line kept (rank (keeps p a kept) i) ≡ true
  to_rank i h =
      let r = passes (λ (s : Start). (s.id == i) && (s.line == line)) (program_starts p) h in
      let both = and_parts (r.item.id == i) (r.item.line == line) r.here in
      let same : rank (keeps p a kept) r.item.id ≡ rank (keeps p a kept) i = ap (rank (keeps p a kept)) (eqb-true r.item.id i both.0) in
      r.others (λ (s : Start). (s.line == line) && (rank (keeps p a kept) s.id == rank (keeps p a kept) i)) (and_from (r.item.line == line) (rank (keeps p a kept) r.item.id == rank (keeps p a kept) i) both.1 (eq-eqb _ _ same))

  from_rank : (i : ℕ) → keeps p a kept i ≡ true → is_criterion p a line kept (rank (keeps p a kept) i) ≡ true → starts_on p line i ≡ true
  from_rank i ki h =
      let r = passes (λ (s : Start). (s.line == line) && (rank (keeps p a kept) s.id == rank (keeps p a kept) i)) (program_starts p) h in
      let both = and_parts (r.item.line == line) (rank (keeps p a kept) r.item.id == rank (keeps p a kept) i) r.here in
      let on : starts_on p line r.item.id ≡ true = r.others (λ (s : Start). (s.id == r.item.id) && (s.line == line)) (and_from (r.item.id == r.item.id) (r.item.line == line) (eq-eqb r.item.id r.item.id refl) both.0) in
      let same : r.item.id ≡ i = rank_injective (keeps p a kept) r.item.id i (criterion_kept p a line kept well k r.item.id on) ki (eqb-true _ _ both.1) in
      subst (λ j. starts_on p line j ≡ true) same on

  -- a kept statement is one of the criterion where its rank is one of the slice's
  pub criterion_rank : (i : ℕ) → keeps p a kept i ≡ true → is_criterion p a line kept (rank (keeps p a kept) i) ≡ starts_on p line i
  criterion_rank i ki =
      same_test (is_criterion p a line kept (rank (keeps p a kept) i)) (starts_on p line i) (from_rank i ki, to_rank i)
