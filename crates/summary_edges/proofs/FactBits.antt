-- The bits of facts: each fact has one, those of a step from true facts are of true facts, and words in which each function is
-- settled hold all of these.
use Rattle.std.proofs.Common.{◌≡◌, ℕ, zero, suc, ◌+◌, ◌*◌, ◌<◌, inl, inr, Bool, true, false, eqb, List, [], ◌∷◌, length, get_or, Contains, Some, slice_get, refl, sym, ap, ◌∙◌, subst, arith}
use Rattle.std.specs.Prelude.{◌==◌, ◌&&◌, if◌then◌else◌}
use Rattle.std.proofs.lemmas.Bool.{cases_eq, cases_lt, eq-eqb, false≢true}
use Rattle.std.proofs.lemmas.Bool.Decides.{nat_tests}
use Rattle.std.proofs.lemmas.Option.{same_Some, slice_get_within, get_or_from_slice_get}
use Rattle.bit_rows.specs.Words.{word_bit}
use Rattle.crew.specs.Counts.{Has, one_if}
use Rattle.crew.specs.SharedWords.{Holds}
use Rattle.crew.specs.Rounds.{IsCompleteStep}
use Rattle.dep_model.specs.declared.graph.Graph.{Graph}
use Rattle.dep_model.specs.declared.graph.OutRow.{OutRow}
use Rattle.dep_model.specs.declared.vertex.Vertex.{Vertex}
use Rattle.dep_model.specs.declared.vertex.VertexKind.TheVariants as kind
use Rattle.dep_model.specs.Facts.{AreFormals, IsFactBit, HoldsFact, AreTrueFacts, IsStep}
use Rattle.dep_model.specs.FunctionVertices.{is_formal_in, passes}
use Rattle.dep_model.specs.Graphs.{HasRows, out_rows}
use Rattle.dep_model.specs.Shapes.{IsShaped}
use Rattle.dep_model.specs.VertexOrder.{in_function}
use Rattle.matched_paths.specs.Places.{bits_below}
use Rattle.matched_paths.proofs.CallShapes.{is_in}
use Rattle.matched_paths.proofs.FactLaws.{settled_has_all_true}
use Rattle.matched_paths.proofs.Numbering.{count_before, number_of, place_of}
use Rattle.matched_paths.proofs.RowLaws.{row_of_formal, rows_apart}
use Rattle.matched_paths.proofs.RowPlaces.{bit_below}
use Rattle.summary_edges.specs.FactMachine.{IsTrueBit, IsStepBit}
use Rattle.summary_edges.proofs.PartLaws.{contains_at}

passing : (f : ℕ) (x : Vertex) → x.function ≡ f → is_formal_in x.kind ≡ true → passes is_formal_in f x ≡ true
passing f x h k = let e : (x.function == f) ≡ true = grind (arith, nat_tests) in ap (λ b. b && is_formal_in x.kind) e ∙ k

module _ (g : Graph) (rows : HasRows g) where
  -- ---- the bit of a fact
  pub fact_bit : (f a b : ℕ) → AreFormals g.vertices f a b → (bit : ℕ) × IsFactBit g a b bit
  fact_bit f a b r =
      let row = row_of_formal g.vertices b (in_function f (kind.FormalOut r.slot_out)) r.comes_out refl in
      let place = place_of (passes is_formal_in f) 0 g.vertices a (in_function f (kind.FormalIn r.slot_in)) r.goes_in (passing f (in_function f (kind.FormalIn r.slot_in)) refl refl) in (
        64 * row.0 + count_before g.vertices f a,
        record {
          function = f;
          number = count_before g.vertices f a;
          first_word = row.0;
          goes_in = let e : 0 + a ≡ a = omega arith in place ∙ ap Some e;
          row = subst (λ os. Contains os (record { vertex = b; word = row.0 })) (sym rows.outs_are) row.1;
          comes_out = is_in g.vertices f b (kind.FormalOut r.slot_out) r.comes_out;
          bit_is = refl;
        },
      )

  -- a row before another is of a vertex before
  row_before : (k j : ℕ) (r s : OutRow) → slice_get g.outs k ≡ Some r → slice_get g.outs j ≡ Some s → k < j → r.vertex < s.vertex
  row_before k j r s at other lt =
      let apart = rows_apart g.vertices k j r lt (ap_length j s (here j s other)) in
      let one : get_or (out_rows g.vertices) k r ≡ r = get_or_from_slice_get (out_rows g.vertices) k r r (here k r at) in
      let two : get_or (out_rows g.vertices) j r ≡ s = get_or_from_slice_get (out_rows g.vertices) j s r (here j s other) in
      let low : (get_or (out_rows g.vertices) k r).vertex ≡ r.vertex = ap (λ (q : OutRow). q.vertex) one in
      let high : (get_or (out_rows g.vertices) j r).vertex ≡ s.vertex = ap (λ (q : OutRow). q.vertex) two in
      omega (arith, apart, low, high)
    where
      here : (k : ℕ) (r : OutRow) → slice_get g.outs k ≡ Some r → slice_get (out_rows g.vertices) k ≡ Some r
      here k r at = subst (λ os. slice_get os k ≡ Some r) rows.outs_are at

      ap_length : (k : ℕ) (r : OutRow) → slice_get (out_rows g.vertices) k ≡ Some r → k < length (out_rows g.vertices)
      ap_length k r at = slice_get_within (out_rows g.vertices) k r at

  -- a formal-out has one row
  one_row : (b v w : ℕ) → Contains g.outs (record { vertex = b; word = v }) → Contains g.outs (record { vertex = b; word = w }) → v ≡ w
  one_row b v w c d =
      let p = contains_at g.outs (record { vertex = b; word = v }) c in
      let q = contains_at g.outs (record { vertex = b; word = w }) d in
      elim (cases_lt p.0 q.0) [
        | inl lt ↦ (let h = row_before p.0 q.0 (record { vertex = b; word = v }) (record { vertex = b; word = w }) p.1 q.1 lt in absurd (omega (arith, h)))
        | inr ge ↦ elim (cases_lt q.0 p.0) [
          | inl lt ↦ (let h = row_before q.0 p.0 (record { vertex = b; word = w }) (record { vertex = b; word = v }) q.1 p.1 lt in absurd (omega (arith, h)))
          | inr le ↦
              let same : p.0 ≡ q.0 = omega (arith, ge, le) in
              ap (λ (r : OutRow). r.word) (same_Some _ _ (sym p.1 ∙ ap (slice_get g.outs) same ∙ q.1))
        ]
      ]

  -- a fact has one bit
  pub one_bit : (a b i j : ℕ) → IsFactBit g a b i → IsFactBit g a b j → i ≡ j
  one_bit a b i j h k =
      let function : h.function ≡ k.function = sym h.comes_out.in_function ∙ ap (λ (x : Vertex). x.function) (same_Some _ _ (sym h.comes_out.at ∙ k.comes_out.at)) ∙ k.comes_out.in_function in
      let x = number_of (passes is_formal_in h.function) 0 g.vertices h.number a h.goes_in in
      let y = number_of (passes is_formal_in k.function) 0 g.vertices k.number a k.goes_in in
      let places : x.0 ≡ y.0 = omega (arith, x.1, y.1) in
      let number : h.number ≡ k.number = x.2 ∙ ap (λ f. count_before g.vertices f x.0) function ∙ ap (count_before g.vertices k.function) places ∙ sym y.2 in
      let word : h.first_word ≡ k.first_word = one_row b h.first_word k.first_word h.row k.row in
      let one = h.bit_is in let two = k.bit_is in
      omega (arith, one, two, number, word)

  -- words that hold a fact have its bit, whichever it is
  pub held_bit : (ws : List ℕ) (a b n : ℕ) → IsFactBit g a b n → HoldsFact g ws a b → Holds ws n
  held_bit ws a b n is h = subst (Holds ws) (one_bit a b h.bit n h.is_bit is) h.set

-- words which each step leaves as they are hold all true facts
pub complete_step : (g : Graph) → IsShaped g → (count : ℕ) → IsCompleteStep (IsStepBit g) (IsTrueBit g) count
complete_step g shaped count ws long settled n t =
    held_bit g shaped.rows_are ws t.from t.to n t.is_bit (settled_has_all_true g (HoldsFact g ws) shaped each t.from t.to t.fact)
  where
    each : (f a b : ℕ) → IsStep g f (HoldsFact g ws) a b → HoldsFact g ws a b
    each f a b s =
        let q = fact_bit g shaped.rows_are f a b s.formals in
        record { bit = q.0; is_bit = q.1; set = settled f q.0 (record { from = a; to = b; is_bit = q.1; given = s }) }

-- ---- the bits that are set, as a list
abbrev pub listed : ℕ → List ℕ → List ℕ
listed zero ws = []
listed (suc n) ws = if word_bit ws n then n ∷ listed n ws else listed n ws

pub listed_long : (n : ℕ) (ws : List ℕ) → length (listed n ws) ≡ bits_below n ws
listed_long zero ws = refl
listed_long (suc n) ws = by_test (word_bit ws n) (listed_long n ws)
  where
    by_test : (b : Bool) → length (listed n ws) ≡ bits_below n ws → length (if b then n ∷ listed n ws else listed n ws) ≡ bits_below n ws + (if b then 1 else 0)
    by_test true e = omega (arith, e)
    by_test false e = omega (arith, e)

pub listed_has : (n : ℕ) (ws : List ℕ) (i : ℕ) → i < n → Holds ws i → Has (listed n ws) i
listed_has zero ws i low set = absurd (omega (arith, low))
listed_has (suc n) ws i low set = elim (cases_eq i n) [
  | inl same ↦ last (word_bit ws n) (ap (word_bit ws) (sym same) ∙ set) same
  | inr other ↦ earlier (word_bit ws n) (listed_has n ws i (omega (arith, low, other)) set)
]
  where
    last : (b : Bool) → b ≡ true → i ≡ n → Has (if b then n ∷ listed n ws else listed n ws) i
    last true e same = let one : one_if (eqb i n) ≡ 1 = ap one_if (eq-eqb i n same) in omega (arith, one)
    last false e same = absurd (false≢true e)

    earlier : (b : Bool) → Has (listed n ws) i → Has (if b then n ∷ listed n ws else listed n ws) i
    earlier true h = omega (arith, h)
    earlier false h = h

-- each true fact's bit is among those of words that hold exactly the true facts
pub truth_listed : (g : Graph) → IsShaped g → (truth : List ℕ) → AreTrueFacts g truth → (n : ℕ) → IsTrueBit g n → Has (listed (64 * length truth) truth) n
truth_listed g shaped truth exact n t =
    let low = bit_below g shaped.rows_are t.from t.to n t.is_bit in
    let words = exact.words.long in
    listed_has (64 * length truth) truth n (omega (arith, low, words)) (held_bit g shaped.rows_are truth t.from t.to n t.is_bit ((exact.exact t.from t.to).1 t.fact))
