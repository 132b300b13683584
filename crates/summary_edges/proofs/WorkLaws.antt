-- What a worker has done, number after number.
use Rattle.std.proofs.Common.{◌≡◌, ℕ, ◌+◌, ◌-◌, ◌<◌, ◌⊎◌, inl, inr, eqb, true, suc, ◌==◌, List, [], ◌∷◌, ◌++◌, length, get_or, replicate, Some, None, Option, slice_get, refl, sym, ap, ◌∙◌, subst, arith}
use Rattle.std.specs.Prelude.{slice_index}
use Rattle.std.proofs.lemmas.Bool.{cases_eq, cases_lt, ne_eqb, false≢true, or_cases}
use Rattle.std.proofs.lemmas.Bool.Decides.{nat_tests}
use Rattle.std.proofs.lemmas.List.{length-replicate, get_or_past}
use Rattle.std.proofs.lemmas.Option.{same_Some, slice_get_within}
use Rattle.crew.specs.declared.view.View.{View}
use Rattle.crew.specs.Counts.{Has, one_if}
use Rattle.crew.specs.SharedWords.{Holds}
use Rattle.crew.specs.Views.{drawn_view, done_view}
use Rattle.crew.proofs.CountLemmas.{times_append, times_last}
use Rattle.dep_model.specs.declared.graph.Graph.{Graph}
use Rattle.dep_model.specs.declared.vertex.Vertex.{Vertex}
use Rattle.dep_model.specs.Facts.{IsIn}
use Rattle.summary_edges.specs.declared.fact_truth.FactTruth.{FactTruth}
use Rattle.summary_edges.specs.declared.function_parts.FunctionPart.{FunctionPart}
use Rattle.summary_edges.specs.declared.function_parts.FunctionParts.{FunctionParts}
use Rattle.summary_edges.specs.FactMachine.{IsFunction, IsStepBit, has_function}
use Rattle.summary_edges.specs.FunctionParts.{AreParts}
use Rattle.summary_edges.specs.Workers.{HasKept, HasLearned, KnowsStep, HasDone, IsCopy, IsPartOf}
use Rattle.summary_edges.proofs.Bits.{no_bits}
use Rattle.summary_edges.proofs.PartLaws.{first_inside}
use Rattle.summary_edges.proofs.WorkerLaws.{kept_both}

-- ---- functions by their numbers
-- the vertex of a function that has one
pub vertex_of : (vs : List Vertex) (f : ℕ) → has_function vs f ≡ true → (v : ℕ) × (x : Vertex) × (slice_get vs v ≡ Some x) × (x.function ≡ f)
vertex_of [] f h = absurd (false≢true h)
vertex_of (x ∷ xs) f h = elim (or_cases (x.function == f) (has_function xs f) h) [
  | inl here ↦ (0, x, refl, grind (arith, nat_tests, here))
  | inr later ↦ (let q = vertex_of xs f later in (suc q.0, q.1, q.2, q.3))
]

pub record IsNumbered (g : Graph) (parts : FunctionParts) (f : ℕ) : Type 0 where
  pub place : ℕ
  pub number_is : get_or parts.of_number.items f None ≡ Some place
  pub part : FunctionPart
  pub at : slice_get parts.list.items place ≡ Some part
  pub is : IsPartOf g f part

pub numbered : (g : Graph) (parts : FunctionParts) → AreParts g parts → (f : ℕ) → IsFunction g f → IsNumbered g parts f
numbered g parts are f has =
    let h = vertex_of g.vertices f has in
    let i : IsIn g.vertices f h.0 = record { vertex = h.1; at = h.2; in_function = h.3 } in
    let found = are.found h.0 (slice_get_within g.vertices h.0 i.vertex i.at) in
    let place = get_or parts.of_vertex.items h.0 0 in
    let is = are.each place found.part found.at in
    let own = (is.whole.all h.0).1 (found.from, found.to) in
    let same : is.whole.function ≡ f = sym own.in_function ∙ ap (λ (x : Vertex). x.function) (same_Some _ _ (sym own.at ∙ i.at)) ∙ i.in_function in
    let first : IsIn g.vertices f found.part.range.first = subst (λ k. IsIn g.vertices k found.part.range.first) same ((is.whole.all found.part.range.first).1 (first_inside g found.part is)) in
    record {
      place = place;
      number_is = (are.numbered f place).1 (record { part = found.part; at = found.at; first = first });
      part = found.part;
      at = found.at;
      is = record { part = is; function_is = same };
    }

-- a place that is noted stands among the numbers
pub number_below : (xs : List (Option ℕ)) (k p : ℕ) → get_or xs k None ≡ Some p → k < length xs
number_below xs k p e = elim (cases_lt k (length xs)) [
  | inl low ↦ low
  | inr past ↦ (let f : None ≡ Some p = sym (get_or_past xs k None past) ∙ e in absurd cc)
]

-- ---- words without a bit
pub no_copy : (g : Graph) (ws : List ℕ) (n : ℕ) (v : View FactTruth) → ws ≡ replicate n 0 → n ≡ g.fact_words → IsCopy g ws v
no_copy g ws n v is words = record {
  long = ap length is ∙ length-replicate {A = ℕ} n 0 ∙ words;
  only_true = λ i h. absurd (none i h);
  seen = λ i h. absurd (none i h);
}
  where
    none : (i : ℕ) → Holds ws i → ⊥
    none i h = false≢true (sym (no_bits n i) ∙ subst (λ us. Holds us i) is h)

-- ---- what is drawn
pub has_more : (xs : List ℕ) (n k : ℕ) → Has (xs ++ n ∷ []) k → (k ≡ n) ⊎ Has xs k
has_more xs n k h =
    let a = times_append k xs (n ∷ []) in
    elim (cases_eq k n) [
      | inl same ↦ inl same
      | inr other ↦ (let z : one_if (eqb k n) ≡ 0 = ap one_if (ne_eqb k n other) in inr (omega (arith, a, z, h)))
    ]

pub has_kept : (xs : List ℕ) (n k : ℕ) → Has xs k → Has (xs ++ n ∷ []) k
has_kept xs n k h = let a = times_append k xs (n ∷ []) in omega (arith, a, h)

module _ (old new : View FactTruth) (n : ℕ) (new_is : new ≡ drawn_view old n) where
  pub drew_kept : HasKept old new
  drew_kept = record {
    truth_is = ap (λ (v : View FactTruth). v.truth) new_is;
    opening_is = ap (λ (v : View FactTruth). v.opening) new_is;
    end_is = ap (λ (v : View FactTruth). v.end) new_is;
    spare_is = ap (λ (v : View FactTruth). v.spare) new_is;
    seen = λ i h. subst (λ (v : View FactTruth). Holds v.seen i) (sym new_is) h;
    set = λ i h. subst (λ (v : View FactTruth). Holds v.set i) (sym new_is) h;
    drawn = λ k h. subst (λ (v : View FactTruth). Has v.drawn k) (sym new_is) (has_kept old.drawn n k h);
  }

  pub drew_it : Has new.drawn n
  drew_it = subst (λ (v : View FactTruth). Has v.drawn n) (sym new_is) (let m : n + 1 - 1 ≡ n = omega arith in subst (Has (old.drawn ++ n ∷ [])) m (times_last n old.drawn))

  pub drew_cases : (k : ℕ) → Has new.drawn k → (k ≡ n) ⊎ Has old.drawn k
  drew_cases k h = has_more old.drawn n k (subst (λ (v : View FactTruth). Has v.drawn k) new_is h)

module _ (old new : View FactTruth) (new_is : new ≡ done_view old) where
  pub done_kept : HasKept old new
  done_kept = record {
    truth_is = ap (λ (v : View FactTruth). v.truth) new_is;
    opening_is = ap (λ (v : View FactTruth). v.opening) new_is;
    end_is = ap (λ (v : View FactTruth). v.end) new_is;
    spare_is = ap (λ (v : View FactTruth). v.spare) new_is;
    seen = λ i h. subst (λ (v : View FactTruth). Holds v.seen i) (sym new_is) h;
    set = λ i h. subst (λ (v : View FactTruth). Holds v.set i) (sym new_is) h;
    drawn = λ k h. subst (λ (v : View FactTruth). Has v.drawn k) (sym new_is) h;
  }

-- ---- what is done
pub knows_still : (g : Graph) (f : ℕ) (old new : View FactTruth) → HasKept old new → KnowsStep g f old → KnowsStep g f new
knows_still g f old new h knows n s = h.seen n (knows n (subst (λ ws. IsStepBit g f ws n) h.opening_is s))

pub copy_still : (g : Graph) (ws : List ℕ) (old new : View FactTruth) → HasKept old new → IsCopy g ws old → IsCopy g ws new
copy_still g ws old new h copy = record { long = copy.long; only_true = copy.only_true; seen = λ n x. h.seen n (copy.seen n x) }

module _ (t : FactTruth) (first old drew new : View FactTruth) (number : ℕ) (drew_is : drew ≡ drawn_view old number) (learned : HasLearned drew new) where
  kept : HasKept old new
  kept = kept_both old drew new (drew_kept old drew number drew_is) learned.kept

  -- one more number is done
  pub done_more : HasDone t first old → KnowsStep t.graph.now (slice_index t.agenda.now number) new → HasDone t first new
  done_more done knows k has not_first =
      elim (drew_cases old drew number drew_is k (subst (λ ds. Has ds k) learned.drawn_is has)) [
        | inl same ↦ subst (λ j. KnowsStep t.graph.now (slice_index t.agenda.now j) new) (sym same) knows
        | inr was ↦ knows_still t.graph.now (slice_index t.agenda.now k) old new kept (done k was not_first)
      ]

  pub last_drawn : Has new.drawn number
  last_drawn = learned.kept.drawn number (drew_it old drew number drew_is)

-- no number is left
pub done_ends : (t : FactTruth) (first old new : View FactTruth) → new ≡ done_view old → HasDone t first old → HasDone t first new
done_ends t first old new new_is done k has not_first =
    knows_still t.graph.now (slice_index t.agenda.now k) old new (done_kept old new new_is) (done k (subst (λ (v : View FactTruth). Has v.drawn k) new_is has) not_first)

pub done_none : (t : FactTruth) (v : View FactTruth) → HasDone t v v
done_none t v k has not_first = absurd (not_first has)
