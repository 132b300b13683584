-- What a worker looks at, steps and publishes.
use Rattle.std.proofs.Common.{◌≡◌, ◌≢◌, ℕ, ◌+◌, ◌-◌, ◌*◌, ◌/◌, ◌%◌, ◌^◌, ◌<◌, ◌≤◌, ◌⊎◌, ◌↔◌, inl, inr, suc, Bool, true, false, List, [], ◌∷◌, ◌++◌, length, get_or, set, flat_map, Contains, Some, slice_get, refl, sym, ap, ◌∙◌, subst, arith}
use Rattle.std.specs.Prelude.{slice_index, bit_and, bit_or}
use Rattle.std.specs.Int.{bit_at, bit_not}
use mir.Syntax.{w64}
use Rattle.std.proofs.lemmas.Bool.{cases_eq, cases_lt, false≢true}
use Rattle.std.proofs.lemmas.List.{length-set}
use Rattle.std.proofs.lemmas.Nat.Bits.{bit_at_and, bit_at_not, bit_at-lt}
use Rattle.std.proofs.lemmas.Option.{same_Some, slice_get-get_or}
use Rattle.bit_rows.specs.Words.{word_bit}
use Rattle.crew.specs.declared.view.View.{View}
use Rattle.crew.specs.Counts.{Has}
use Rattle.crew.specs.SharedWords.{Holds, AreWithin, IsWithin, bit, new_bits}
use Rattle.crew.specs.Views.{looked_view, put_view}
use Rattle.crew.specs.Rounds.{MayPut}
use Rattle.crew.proofs.BitLemmas.{bit_here, bit_else, within_set, within_or, bit_is_fact, holds_bit, bit_holds, number_of, place_of, word_of}
use Rattle.dep_model.specs.declared.edge.Edge.{Edge}
use Rattle.dep_model.specs.declared.edge.Label.TheVariants.{Out}
use Rattle.dep_model.specs.declared.graph.Graph.{Graph}
use Rattle.dep_model.specs.declared.graph.OutRow.{OutRow}
use Rattle.dep_model.specs.declared.vertex.Vertex.{Vertex}
use Rattle.dep_model.specs.Facts.{FactSet, IsIn, IsFactBit, HoldsFact, AreFactWords, IsInnerEdge, IsInnerChain, ends, goes_on, IsStep}
use Rattle.dep_model.specs.FunctionVertices.{is_formal_in, numbers}
use Rattle.dep_model.specs.Graphs.{edge, row_width, HasRows}
use Rattle.dep_model.specs.Shapes.{IsShaped}
use Rattle.matched_paths.specs.EdgeGroups.{group_at, ending}
use Rattle.matched_paths.proofs.GroupLaws.{ending_has}
use Rattle.matched_paths.proofs.RowPlaces.{one_fact, placed, never_past}
use Rattle.summary_edges.specs.declared.fact_index.FactIndex.{FactIndex}
use Rattle.summary_edges.specs.declared.fact_truth.FactTruth.{FactTruth}
use Rattle.summary_edges.specs.declared.function_parts.FunctionPart.{FunctionPart}
use Rattle.summary_edges.specs.FactIndexes.{IsIndex}
use Rattle.summary_edges.specs.FactMachine.{IsTrueBit, IsStepBit, HoldTrueBits}
use Rattle.summary_edges.specs.FunctionParts.{row_start}
use Rattle.summary_edges.specs.Steps.{IsStepTaken}
use Rattle.summary_edges.specs.Workers.{IsOpened, HasKept, HasLearned, KnowsStep, IsCopy, HasWord, HasLooked, IsRowWord, IsReadAlong, IsReadAmong, IsReadBefore, IsPartOf}
use Rattle.summary_edges.specs.StepTruth.{sound_bits}
use Rattle.summary_edges.proofs.FactBits.{held_bit}
use Rattle.summary_edges.proofs.FillLaws.{one_more}
use Rattle.summary_edges.proofs.PartLaws.{contains_at, at_contains, covered, one_function, first_inside, row_at, row_next, row_past, starts_in_turn}
use Rattle.summary_edges.proofs.StepGrowth.{step_grows}

-- ---- what a seat keeps
pub kept_all : (v : View FactTruth) → HasKept v v
kept_all v = record { truth_is = refl; opening_is = refl; end_is = refl; spare_is = refl; seen = λ n h. h; set = λ n h. h; drawn = λ k h. h }

pub kept_both : (a b c : View FactTruth) → HasKept a b → HasKept b c → HasKept a c
kept_both a b c h k = record {
  truth_is = k.truth_is ∙ h.truth_is;
  opening_is = k.opening_is ∙ h.opening_is;
  end_is = k.end_is ∙ h.end_is;
  spare_is = k.spare_is ∙ h.spare_is;
  seen = λ n x. k.seen n (h.seen n x);
  set = λ n x. k.set n (h.set n x);
  drawn = λ n x. k.drawn n (h.drawn n x);
}

pub learned_none : (v : View FactTruth) → HasLearned v v
learned_none v = record { kept = kept_all v; drawn_is = refl; done_is = refl }

pub learned_both : (a b c : View FactTruth) → HasLearned a b → HasLearned b c → HasLearned a c
learned_both a b c h k = record { kept = kept_both a b c h.kept k.kept; drawn_is = k.drawn_is ∙ h.drawn_is; done_is = k.done_is ∙ h.done_is }

pub opened_still : (t : FactTruth) (old new : View FactTruth) → HasKept old new → IsOpened t old → IsOpened t new
opened_still t old new h o = record {
  truth = o.truth;
  truth_is = h.truth_is ∙ o.truth_is;
  graph_is = o.graph_is;
  agenda_is = o.agenda_is;
  long = ap length h.opening_is ∙ o.long;
  end_is = h.end_is ∙ o.end_is;
}

-- ---- words that were looked at
pub looked_none : (g : Graph) (P : ℕ → Type 0) (ws : List ℕ) (v : View FactTruth) → ((w : ℕ) → P w → ⊥) → HasLooked g P ws ws v v
looked_none g P ws v none = record { learned = learned_none v; copy = λ h. h; kept = λ w h. h; has = λ w p. absurd (none w p) }

pub looked_as : (g : Graph) (P Q : ℕ → Type 0) (before after : List ℕ) (old new : View FactTruth) → ((w : ℕ) → Q w → P w) → HasLooked g P before after old new → HasLooked g Q before after old new
looked_as g P Q before after old new also h = record { learned = h.learned; copy = h.copy; kept = h.kept; has = λ w q. h.has w (also w q) }

pub looked_both : (g : Graph) (P Q : ℕ → Type 0) (before mid after : List ℕ) (old now new : View FactTruth) → HasLooked g P before mid old now → HasLooked g Q mid after now new
    → HasLooked g (λ w. P w ⊎ Q w) before after old new
looked_both g P Q before mid after old now new h k =
    let same = h.learned.kept.opening_is in
    let later : (w : ℕ) → HasWord old.opening mid w → HasWord old.opening after w = λ w x.
    subst (λ (s : List ℕ). HasWord s after w) same (k.kept w (subst (λ (s : List ℕ). HasWord s mid w) (sym same) x)) in
    record {
      learned = learned_both old now new h.learned k.learned;
      copy = λ x. k.copy (h.copy x);
      kept = λ w x. later w (h.kept w x);
      has = λ w p. elim p [
        | inl q ↦ later w (h.has w q)
        | inr q ↦ subst (λ (s : List ℕ). HasWord s after w) same (k.has w q)
      ];
    }

-- one word
module _ (g : Graph) (before : List ℕ) (old new : View FactTruth) (word found : ℕ) (new_is : new ≡ looked_view old word found) (inside : word < length before) (room : word < length old.seen)
    (seen : AreWithin old.seen new.seen) (only_true : (i : ℕ) → bit_at found i ≡ 1 → IsTrueBit g (64 * word + i)) (has_opening : IsWithin (slice_index old.opening word) found)
    (has_seen : IsWithin (slice_index old.seen word) found) where
  abbrev pub after : List ℕ
  after = set before word found

  -- a bit that is held then stands in the word, as it was found, or was held before
  word_cases : (ws : List ℕ) → word < length ws → (n : ℕ) → Holds (set ws word found) n → ((n / 64 ≡ word) × (bit_at found (n % 64) ≡ 1)) ⊎ Holds ws n
  word_cases ws low n h =
      let b = holds_bit (set ws word found) n h in
      elim (cases_eq (n / 64) word) [
        | inl same ↦ inl (same, sym (bit_here ws word found (n % 64) low) ∙ subst (λ j. bit (set ws word found) j (n % 64) ≡ 1) same b)
        | inr other ↦ inr (bit_holds ws n (sym (bit_else ws word found (n / 64) (n % 64) other) ∙ b))
      ]

  found_held : (ws : List ℕ) → word < length ws → (n : ℕ) → n / 64 ≡ word → bit_at found (n % 64) ≡ 1 → Holds (set ws word found) n
  found_held ws low n same b = bit_holds (set ws word found) n (ap (λ j. bit (set ws word found) j (n % 64)) same ∙ bit_here ws word found (n % 64) low ∙ b)

  copied : IsCopy g before old → IsCopy g after new
  copied h = record {
    long = length-set before word found ∙ h.long;
    only_true = λ n x. elim (word_cases before inside n x) [
      | inl q ↦ (let at : 64 * word + n % 64 ≡ n = ap (λ j. 64 * j + n % 64) (sym q.0) ∙ number_of n in subst (IsTrueBit g) at (only_true (n % 64) q.1))
      | inr was ↦ h.only_true n was
    ];
    seen = λ n x. elim (word_cases before inside n x) [
      | inl q ↦ subst (λ (v : View FactTruth). Holds v.seen n) (sym new_is) (found_held old.seen room n q.0 q.1)
      | inr was ↦ seen n (h.seen n was)
    ];
  }

  -- the word has what it had at the opening, and others are as they were
  has_found : (w : ℕ) → w ≡ word → HasWord old.opening after w
  has_found w same i h = ap (λ j. bit after j i) same ∙ bit_here before word found i inside ∙ has_opening i (ap (λ j. bit old.opening j i) (sym same) ∙ h)

  has_still : (w : ℕ) → HasWord old.opening before w → HasWord old.opening after w
  has_still w had = elim (cases_eq w word) [
    | inl same ↦ has_found w same
    | inr other ↦ λ i h. bit_else before word found w i other ∙ had i h
  ]

  pub looked_one : HasLooked g (λ w. w ≡ word) before after old new
  looked_one = record {
    learned = record {
      kept = record {
        truth_is = ap (λ (v : View FactTruth). v.truth) new_is;
        opening_is = ap (λ (v : View FactTruth). v.opening) new_is;
        end_is = ap (λ (v : View FactTruth). v.end) new_is;
        spare_is = ap (λ (v : View FactTruth). v.spare) new_is;
        seen = seen;
        set = λ n x. subst (λ (v : View FactTruth). Holds v.set n) (sym new_is) x;
        drawn = λ k x. subst (λ (v : View FactTruth). Has v.drawn k) (sym new_is) x;
      };
      drawn_is = ap (λ (v : View FactTruth). v.drawn) new_is;
      done_is = ap (λ (v : View FactTruth). v.done) new_is;
    };
    copy = copied;
    kept = has_still;
    has = has_found;
  }

-- ---- the rows that a step reads
-- the words of the row of a formal-out stand between the rows before it and those before the next vertex
pub row_words : (g : Graph) (rows : HasRows g) (b w low high : ℕ) → ((k : ℕ) (r : OutRow) → slice_get g.outs k ≡ Some r → (k < low → r.vertex < b) × (r.vertex < b + 1 → k < high)) → IsRowWord g b w
    → (row_start g low ≤ w) × (w < row_start g high)
row_words g rows b w low high before h =
    let q = contains_at g.outs h.row h.is_row in
    let k = q.0 in
    let here = row_at g rows k h.row q.1 in
    let next = row_next g rows k h.row h.own.vertex q.1 (ap (slice_get g.vertices) h.of ∙ h.own.at) in
    let width : row_width g.vertices h.own.vertex.function ≡ row_width g.vertices h.function = ap (row_width g.vertices) h.own.in_function in
    let of = h.of in let from = h.from in let to = h.to in
    let not_before : low ≤ k = elim (cases_lt k low) [
      | inl lt ↦ (let lower = (before k h.row q.1).0 lt in absurd (omega (arith, lower, of)))
      | inr ge ↦ ge
    ] in
    let behind : k < high = (before k h.row q.1).1 (omega (arith, of)) in
    let a = starts_in_turn g rows low k not_before in
    let z = starts_in_turn g rows (k + 1) high (omega (arith, behind)) in
    let step : row_start g (k + 1) ≡ row_start g (suc k) = ap (row_start g) (omega arith) in
    (omega (arith, a, here, from), omega (arith, z, step, next, width, to))

-- a row begins among the words
pub row_inside : (g : Graph) (rows : HasRows g) (k : ℕ) → row_start g k ≤ g.fact_words
row_inside g rows k = elim (cases_lt k (length g.outs)) [
  | inl lt ↦ (let a = starts_in_turn g rows k (length g.outs) (omega (arith, lt)) in let z = row_past g rows (length g.outs) (omega arith) in omega (arith, a, z))
  | inr ge ↦ (let z = row_past g rows k ge in omega (arith, z))
]

-- the word of a fact stands in the row of its formal-out
pub fact_word_read : (g : Graph) (rows : HasRows g) (a b n : ℕ) → IsFactBit g a b n → IsRowWord g b (n / 64)
fact_word_read g rows a b n h =
    let q = placed g rows a b n h in
    let e = q.bit_is in let few = q.inside in
    record {
      row = record { vertex = b; word = q.word };
      is_row = subst (λ os. Contains os (record { vertex = b; word = q.word })) (sym rows.outs_are) q.row;
      of = refl;
      function = q.vertex.function;
      own = record { vertex = q.vertex; at = q.at; in_function = refl };
      from = omega (arith, e, few);
      to = omega (arith, e, few);
    }

-- ---- a step reads the rows from which edges lead back into the function alone
module _ (g : Graph) (K L : FactSet) (f : ℕ) (reads : (x y v c : ℕ) → IsIn g.vertices f v → Contains g.edges (edge y v (Out c)) → K x y → L x y) where
  first_in : {a b : ℕ} → IsInnerChain g K f a b → IsIn g.vertices f a
  first_in (ends i) = i
  first_in (goes_on i along rest) = i

  inner_reads : (u v : ℕ) → IsIn g.vertices f v → IsInnerEdge g.edges K u v → IsInnerEdge g.edges L u v
  inner_reads u v i (inl m) = inl m
  inner_reads u v i (inr (inl m)) = inr (inl m)
  inner_reads u v i (inr (inr q)) =
      inr (inr (record { call = q.call; formal_in = q.formal_in; formal_out = q.formal_out; enters = q.enters; leaves = q.leaves; fact = reads q.formal_in q.formal_out v q.call i q.leaves q.fact }))

  chain_reads : {a b : ℕ} → IsInnerChain g K f a b → IsInnerChain g L f a b
  chain_reads (ends i) = ends i
  chain_reads (goes_on {a = a} {b = m} i along rest) = goes_on i (inner_reads a m (first_in rest) along) (chain_reads rest)

  pub step_reads : (a b : ℕ) → IsStep g f K a b → IsStep g f L a b
  step_reads a b s = record { formals = s.formals; chain = chain_reads s.chain }

-- words have each fact of the opening words, whose word has at least what it had
pub held_of_word : (start ws : List ℕ) (n : ℕ) → HasWord start ws (n / 64) → Holds start n → Holds ws n
held_of_word start ws n has h = bit_holds ws n (has (n % 64) (holds_bit start n h))

-- ---- words of facts
-- a bit that is set in a row of clean words is that of a fact
pub clean_fact : (g : Graph) → HasRows g → (ws : List ℕ) → AreFactWords g ws → (k : ℕ) (r : OutRow) (x : Vertex) (n : ℕ) → slice_get g.outs k ≡ Some r → slice_get g.vertices r.vertex ≡ Some x
    → r.word ≤ n / 64 → n / 64 < r.word + row_width g.vertices x.function → Holds ws n → (a : ℕ) × IsFactBit g a r.vertex n
clean_fact g rows ws clean k r x n at has low high set_ =
    let i = n - 64 * r.word in
    let is : 64 * r.word + i ≡ n = omega (arith, low) in
    let inside : i < 64 * row_width g.vertices x.function = omega (arith, low, high) in
    let ins = numbers is_formal_in x.function g.vertices in
    elim (cases_lt i (length ins)) [
      | inl few ↦ (
        get_or ins i 0,
        record {
          function = x.function;
          number = i;
          first_word = r.word;
          goes_in = slice_get-get_or ins i 0 few;
          row = at_contains g.outs k r at;
          comes_out = record { vertex = x; at = has; in_function = refl };
          bit_is = sym is;
        },
      )
      | inr past ↦ absurd (false≢true (sym (clean.clean r x i (at_contains g.outs k r at) has past inside) ∙ ap (word_bit ws) is ∙ set_))
    ]

-- words whose bits are those of true facts are clean
pub clean_words : (g : Graph) → HasRows g → (ws : List ℕ) → length ws ≡ g.fact_words → HoldTrueBits g ws → AreFactWords g ws
clean_words g rows ws long all = record {
  long = long;
  clean = λ r x i c at past inside. by_test r x i c at past inside (word_bit ws (64 * r.word + i)) refl;
}
  where
    by_test : (r : OutRow) (x : Vertex) (i : ℕ) → Contains g.outs r → slice_get g.vertices r.vertex ≡ Some x → length (numbers is_formal_in x.function g.vertices) ≤ i → i < 64 * row_width g.vertices x.function
        → (b : Bool) → word_bit ws (64 * r.word + i) ≡ b → word_bit ws (64 * r.word + i) ≡ false
    by_test r x i c at past inside false e = e
    by_test r x i c at past inside true e = let t = all (64 * r.word + i) e in absurd (never_past g rows t.from t.to (64 * r.word + i) r x i t.is_bit c at past inside refl)

-- ---- what a step adds
module _ (g : Graph) (shaped : IsShaped g) (p : FunctionPart) (old new : List ℕ) (grows : Bool) (taken : IsStepTaken g p old old new grows) (words : AreFactWords g old) where
  abbrev f : ℕ
  f = taken.part.whole.function

  -- a bit that is set then was set before, or stands among the function's words and is that of a fact that the step gives
  abbrev pub IsGain : ℕ → Type 0
  IsGain n = (p.first_word ≤ n / 64) × (n / 64 < p.last_word) × IsStepBit g f old n

  same_held : (n : ℕ) → Holds new n → get_or new (n / 64) 0 ≡ get_or old (n / 64) 0 → Holds old n
  same_held n h e = bit_holds old n (ap (λ x. bit_at x (n % 64)) (sym e) ∙ holds_bit new n h)

  own_bit : (n : ℕ) → Holds new n → p.first_word ≤ n / 64 → n / 64 < p.last_word → Holds old n ⊎ IsGain n
  own_bit n h from to =
      let c = covered g shaped.rows_are p taken.part (n / 64) from to in
      let q = clean_fact g shaped.rows_are new (taken.added.words words) c.place c.there.row c.there.vertex n c.there.at c.there.has c.from c.to h in
      elim ((taken.added.exact q.0 c.there.row.vertex).0 (record { bit = n; is_bit = q.1; set = h })) [
        | inl was ↦ inl (held_bit g shaped.rows_are old q.0 c.there.row.vertex n q.1 was)
        | inr given ↦ inr (from, to, record { from = q.0; to = c.there.row.vertex; is_bit = q.1; given = given })
      ]

  pub step_bits : (n : ℕ) → Holds new n → Holds old n ⊎ IsGain n
  step_bits n h = elim (cases_lt (n / 64) p.first_word) [
    | inl before ↦ inl (same_held n h (taken.added.others (n / 64) (inl before)))
    | inr from ↦ elim (cases_lt (n / 64) p.last_word) [
      | inr behind ↦ inl (same_held n h (taken.added.others (n / 64) (inr behind)))
      | inl to ↦ own_bit n h from to
    ]
  ]

-- ---- one function
-- what a step gives grows with the words
pub step_bit_grows : (g : Graph) → IsShaped g → (f : ℕ) (ws us : List ℕ) → AreWithin ws us → (n : ℕ) → IsStepBit g f ws n → IsStepBit g f us n
step_bit_grows g shaped f ws us within n s = record {
  from = s.from;
  to = s.to;
  is_bit = s.is_bit;
  given = step_grows g shaped (HoldsFact g ws) (HoldsFact g us) (λ a b h. record { bit = h.bit; is_bit = h.is_bit; set = within h.bit h.set }) f s.from s.to s.given;
}

-- who may put a fact may still put it when he knows more
pub may_still : (g : Graph) → IsShaped g → (agenda : List ℕ) (old new : View FactTruth) (n : ℕ) → HasLearned old new → MayPut (IsStepBit g) agenda old.drawn old.seen n → MayPut (IsStepBit g) agenda new.drawn new.seen n
may_still g shaped agenda old new n h may = (may.0, may.1, h.kept.drawn may.0 may.2, step_bit_grows g shaped (slice_index agenda may.0) old.seen new.seen h.kept.seen n may.3)

-- bits of one word that another lacks
pub gain_bits : (x y i : ℕ) → y < 2 ^ 64 → i < 64 → bit_at (bit_and x (bit_not w64 y)) i ≡ 1 ↔ ((bit_at x i ≡ 1) × (bit_at y i ≢ 1))
gain_bits x y i small low =
    let a = bit_at_and x (bit_not w64 y) i in
    let n = bit_at_not w64 y i small low in
    let l = bit_at-lt x i in
    let m = bit_at-lt y i in (
      λ h. ((omega (arith, a, n, l, m, h)), λ e. absurd (omega (arith, a, n, l, m, h, e))),
      λ q. elim (cases_eq (bit_at y i) 1) [ inl one ↦ absurd (q.1 one) | inr zero_ ↦ (let x_is = q.0 in omega (arith, a, n, l, m, x_is, zero_)) ],
    )

module _ (g : Graph) (shaped : IsShaped g) (p : FunctionPart) (old new before : List ℕ) (grows : Bool) (taken : IsStepTaken g p old old new grows) (now : View FactTruth) (copy : IsCopy g old now)
    (before_is : (k : ℕ) → p.first_word + k < p.last_word → get_or before k 0 ≡ get_or old (p.first_word + k) 0) where
  clean : AreFactWords g old
  clean = clean_words g shaped.rows_are old copy.long copy.only_true

  old_word : (w : ℕ) → p.first_word ≤ w → w < p.last_word → get_or before (w - p.first_word) 0 ≡ get_or old w 0
  old_word w from to =
      let at : p.first_word + (w - p.first_word) ≡ w = omega (arith, from) in
      before_is (w - p.first_word) (omega (arith, from, to)) ∙ ap (λ k. get_or old k 0) at

  -- what is gained may be put
  pub may_gain : (agenda : List ℕ) (k : ℕ) → k < length agenda → Has now.drawn k → IsPartOf g (slice_index agenda k) p → (w i : ℕ) → p.first_word ≤ w → w < p.last_word → i < 64 → bit new w i ≡ 1 → bit before (w - p.first_word) i ≢ 1
      → MayPut (IsStepBit g) agenda now.drawn now.seen (64 * w + i)
  may_gain agenda k low drawn is w i from to few set_ lacks =
      elim (step_bits g shaped p old new grows taken clean (64 * w + i) (bit_is_fact new w i few set_)) [
        | inl was ↦
            let b = holds_bit old (64 * w + i) was in
            absurd (lacks (ap (λ x. bit_at x i) (old_word w from to) ∙ sym (ap (λ j. bit old w j) (place_of w i few)) ∙ sym (ap (λ j. bit old j ((64 * w + i) % 64)) (word_of w i few)) ∙ b))
        | inr gain ↦
            let one : taken.part.whole.function ≡ slice_index agenda k = one_function g p p taken.part is.part p.range.first (first_inside g p taken.part) (first_inside g p is.part) ∙ is.function_is in
            (k, low, drawn, step_bit_grows g shaped (slice_index agenda k) old now.seen copy.seen (64 * w + i) (subst (λ f. IsStepBit g f old (64 * w + i)) one gain.2))
      ]

  -- when it is put, the words are a copy again
  pub copy_again : (next : View FactTruth) → HasLearned now next
      → ((w i : ℕ) → p.first_word ≤ w → w < p.last_word → i < 64 → bit new w i ≡ 1 → bit before (w - p.first_word) i ≢ 1 → Holds next.seen (64 * w + i)) → length new ≡ g.fact_words → IsCopy g new next
  copy_again next learned put long = record {
    long = long;
    only_true = λ n h. elim (step_bits g shaped p old new grows taken clean n h) [
      | inl was ↦ copy.only_true n was
      | inr gain ↦ sound_bits g (one_fact g shaped.rows_are) old copy.only_true taken.part.whole.function n gain.2
    ];
    seen = λ n h. elim (step_bits g shaped p old new grows taken clean n h) [
      | inl was ↦ learned.kept.seen n (copy.seen n was)
      | inr gain ↦ elim (cases_eq (bit before (n / 64 - p.first_word) (n % 64)) 1) [
        | inl had ↦ learned.kept.seen n (copy.seen n (bit_holds old n (ap (λ x. bit_at x (n % 64)) (sym (old_word (n / 64) gain.0 gain.1)) ∙ had)))
        | inr lacks ↦ subst (Holds next.seen) (number_of n) (put (n / 64) (n % 64) gain.0 gain.1 (omega arith) (holds_bit new n h) lacks)
      ]
    ];
  }

-- after what its step reads was looked at and the step was taken, the seat knows what it gives from the opening facts
pub knows_step : (g : Graph) → IsShaped g → (p : FunctionPart) (f : ℕ) → IsPartOf g f p → (first known new : List ℕ) (grows : Bool) (old mid next : View FactTruth) → HasLooked g (IsReadBefore g p.range.first p.range.last) first known old mid
    → IsStepTaken g p known known new grows → AreWithin new next.seen → next.opening ≡ old.opening → KnowsStep g f next
knows_step g shaped p f is first known new grows old mid next looked taken seen opening n s =
    seen n (held_bit g shaped.rows_are new s.from s.to n s.is_bit ((taken.added.exact s.from s.to).1 (inr (subst (λ h. IsStep g h (HoldsFact g known) s.from s.to) (sym one) given))))
  where
    one : taken.part.whole.function ≡ f
    one = one_function g p p taken.part is.part p.range.first (first_inside g p taken.part) (first_inside g p is.part) ∙ is.function_is

    reads : (x y v c : ℕ) → IsIn g.vertices f v → Contains g.edges (edge y v (Out c)) → HoldsFact g next.opening x y → HoldsFact g known x y
    reads x y v c i leaves h =
        let inside = (is.part.whole.all v).0 (subst (λ k. IsIn g.vertices k v) (sym is.function_is) i) in
        let has = looked.has (h.bit / 64) (record { edge = edge y v (Out c); among = leaves; from = inside.0; to = inside.1; read = record { call = c; leaves = refl; word = fact_word_read g shaped.rows_are x y h.bit h.is_bit } }) in
        record { bit = h.bit; is_bit = h.is_bit; set = held_of_word old.opening known h.bit has (subst (λ ws. Holds ws h.bit) opening h.set) }

    given : IsStep g f (HoldsFact g known) s.from s.to
    given = step_reads g (HoldsFact g next.opening) (HoldsFact g known) f reads s.from s.to s.given

-- ---- edge after edge, and vertex after vertex
pub among_none : (g : Graph) (w : ℕ) → IsReadAmong g [] w → ⊥
among_none g w h = let low = h.among.1 in omega (arith, low)

pub among_more : (g : Graph) (es : List Edge) (e : Edge) (w : ℕ) → IsReadAmong g (es ++ e ∷ []) w → IsReadAmong g es w ⊎ IsReadAlong g e w
among_more g es e w h = elim (one_more es e h.edge h.among) [
  | inl before ↦ inl (record { edge = h.edge; among = before; read = h.read })
  | inr same ↦ inr (subst (λ (x : Edge). IsReadAlong g x w) (sym same) h.read)
]

pub before_none : (g : Graph) (first w : ℕ) → IsReadBefore g first first w → ⊥
before_none g first w h = let low = h.from in let high = h.to in omega (arith, low, high)

pub before_more : (g : Graph) (index : FactIndex) → IsIndex g index → (first v w : ℕ) → IsReadBefore g first (v + 1) w → IsReadBefore g first v w ⊎ IsReadAmong g (group_at index.ends v) w
before_more g index is first v w h = elim (cases_eq h.edge.to v) [
  | inl same ↦ inr (record {
    edge = h.edge;
    among = subst (λ (es : List Edge). Contains es h.edge) (sym (is.ends v)) (subst (λ u. Contains (flat_map (ending u) g.edges) h.edge) same (ending_has g.edges h.edge h.among));
    read = h.read;
  })
  | inr other ↦ inl (record { edge = h.edge; among = h.among; from = h.from; to = (let high = h.to in omega (arith, high, other)); read = h.read })
]

-- ---- a put
pub put_learned : (old new : View FactTruth) (w bits found : ℕ) → new ≡ put_view old w bits found → AreWithin old.seen new.seen → HasLearned old new
put_learned old new w bits found new_is seen = record {
  kept = record {
    truth_is = ap (λ (v : View FactTruth). v.truth) new_is;
    opening_is = ap (λ (v : View FactTruth). v.opening) new_is;
    end_is = ap (λ (v : View FactTruth). v.end) new_is;
    spare_is = ap (λ (v : View FactTruth). v.spare) new_is;
    seen = seen;
    set = λ n h. subst (λ (v : View FactTruth). Holds v.set n) (sym new_is) (within_set old.set w (bit_or (slice_index old.set w) (new_bits bits found)) (within_or (slice_index old.set w) (new_bits bits found)) n h);
    drawn = λ k h. subst (λ (v : View FactTruth). Has v.drawn k) (sym new_is) h;
  };
  drawn_is = ap (λ (v : View FactTruth). v.drawn) new_is;
  done_is = ap (λ (v : View FactTruth). v.done) new_is;
}

-- the board's truth is of the same graph and agenda
pub may_of_truth : (t u : FactTruth) (v : View FactTruth) (n : ℕ) → IsOpened t v → v.truth ≡ Some u → MayPut (IsStepBit t.graph.now) t.agenda.now v.drawn v.seen n → MayPut (IsStepBit u.graph.now) u.agenda.now v.drawn v.seen n
may_of_truth t u v n opened is may =
    let same : opened.truth ≡ u = same_Some _ _ (sym opened.truth_is ∙ is) in
    subst (λ (x : FactTruth). MayPut (IsStepBit x.graph.now) x.agenda.now v.drawn v.seen n) same
    (subst (λ (g : Graph). MayPut (IsStepBit g) opened.truth.agenda.now v.drawn v.seen n) (sym opened.graph_is)
    (subst (λ (agenda : List ℕ). MayPut (IsStepBit t.graph.now) agenda v.drawn v.seen n) (sym opened.agenda_is) may))
