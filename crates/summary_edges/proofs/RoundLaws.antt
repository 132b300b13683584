-- A round of a team, and rounds one after another.
use Rattle.std.proofs.Common.{◌≡◌, ℕ, zero, suc, ◌+◌, ◌-◌, ◌*◌, ◌/◌, ◌<◌, ◌≤◌, inl, inr, eqb, List, [], ◌∷◌, length, replicate, All, Contains, Some, refl, sym, ap, ◌∙◌, subst, arith}
use Rattle.std.specs.Prelude.{slice_index}
use Rattle.std.specs.List.{AllPairs}
use Rattle.std.proofs.lemmas.Bool.{cases_eq, cases_lt, eq-eqb, ne_eqb, false≢true}
use Rattle.std.proofs.lemmas.List.{length-replicate}
use Rattle.std.proofs.lemmas.List.Elements.{All-contains_itself, All-weaker}
use Rattle.std.proofs.lemmas.Option.{slice_get_within, get_or_from_slice_get}
use Rattle.rule_closure.proofs.ListLemmas.{contains_head, contains_none}
use Rattle.bit_rows.proofs.WordLemmas.{word_bit_past}
use Rattle.crew.specs.Counts.{AreAllBelow, Has, once_below, one_if}
use Rattle.crew.specs.Seats.{view}
use Rattle.crew.specs.SharedWords.{AreWithin, Holds, union}
use Rattle.crew.proofs.BitLemmas.{length_union, within_union}
use Rattle.crew.proofs.CountLemmas.{once_past}
use Rattle.dep_model.specs.declared.graph.Graph.{Graph}
use Rattle.dep_model.specs.declared.vertex.VertexKind.TheVariants as kind
use Rattle.dep_model.specs.Facts.{AreFactWords, AreTrueFacts, HoldsFact, IsStep}
use Rattle.dep_model.specs.Shapes.{IsShaped}
use Rattle.matched_paths.specs.Laws.{AreTrue, IsSettled}
use Rattle.matched_paths.specs.Places.{bits_below}
use Rattle.matched_paths.proofs.BitLemmas.{few_bits}
use Rattle.matched_paths.proofs.CallShapes.{is_in}
use Rattle.matched_paths.proofs.RowPlaces.{one_fact}
use Rattle.summary_edges.specs.declared.exit_rows.ExitRows.{ExitRows}
use Rattle.summary_edges.specs.declared.fact_truth.FactTruth.{FactTruth}
use Rattle.summary_edges.specs.declared.function_parts.FunctionPart.{FunctionPart}
use Rattle.summary_edges.specs.Agendas.{HasGainedBit}
use Rattle.summary_edges.specs.ExitRows.{HasRoom, HaveOneShape}
use Rattle.summary_edges.specs.FactMachine.{IsFirstAgenda, IsFunction, IsLaterAgenda, IsStepBit, IsTrueBit}
use Rattle.summary_edges.specs.Laws.{IsRound}
use Rattle.summary_edges.specs.Rounds.{AreSound, IsRoundTaken, one_if_any}
use Rattle.summary_edges.specs.StepTruth.{bits_true}
use Rattle.summary_edges.specs.Teams.{HasFinished, Seat}
use Rattle.summary_edges.proofs.Bits.{no_bits}
use Rattle.summary_edges.proofs.FactBits.{fact_bit}
use Rattle.summary_edges.proofs.FunctionLaws.{due_function, function_in}
use Rattle.summary_edges.proofs.GainLaws.{bits_more}
use Rattle.summary_edges.proofs.PartLaws.{contains_at}
use Rattle.summary_edges.proofs.SeriesLaws.{bits_among}
use Rattle.summary_edges.proofs.StepGrowth.{exact_where_settled, others_settled}
use Rattle.summary_edges.proofs.WorkerLaws.{clean_words}

-- ---- tables
pub room_stays : (p : FunctionPart) (old new : ExitRows) → HaveOneShape old new → HasRoom p old → HasRoom p new
room_stays p old new same h = record {
  table = same.table;
  vertices = (let few = h.vertices in let is = same.rows_are in omega (arith, few, is));
  exits = (let few = h.exits in let is = same.bits_are in omega (arith, few, is));
}

-- ---- words of true facts
module _ (g : Graph) (shaped : IsShaped g) (ws : List ℕ) (h : AreSound g ws) where
  pub sound_words : AreFactWords g ws
  sound_words = clean_words g shaped.rows_are ws h.long h.only_true

  pub sound_true : AreTrue g (HoldsFact g ws)
  sound_true = bits_true g (one_fact g shaped.rows_are) ws h.only_true

-- no bit is set at the start
pub none_held : (g : Graph) (n : ℕ) → n ≡ g.fact_words → AreSound g (replicate n 0)
none_held g n is = record {
  long = length-replicate {A = ℕ} n 0 ∙ is;
  only_true = λ i h. absurd (false≢true (sym (no_bits n i) ∙ h));
}

-- ---- one round
once_inside : (x n : ℕ) → x < n → once_below x n ≡ 1
once_inside x zero low = absurd (omega (arith, low))
once_inside x (suc n) low = elim (cases_eq x n) [
  | inl same ↦ (let none = once_past x n (omega (arith, same)) in let one : one_if (eqb x n) ≡ 1 = ap one_if (eq-eqb x n same) in omega (arith, none, one))
  | inr other ↦ (let once = once_inside x n (omega (arith, low, other)) in let none : one_if (eqb x n) ≡ 0 = ap one_if (ne_eqb x n other) in omega (arith, once, none))
]

-- what a team leaves: the words at the close of its board, where one seat has all that its seats had
module _ (g : Graph) (shaped : IsShaped g) (t : FactTruth) (graph_is : t.graph.now ≡ g) (first s : Seat) (start ws : List ℕ) (truth_is : (view first).truth ≡ Some t) (opening_is : (view first).opening ≡ start)
    (end_is : (view first).end ≡ length t.agenda.now) (long : length start ≡ g.fact_words) (f : HasFinished t first s) (words_are : ws ≡ union (view s).opening (view s).set)
    (only_true : (u : FactTruth) (n : ℕ) → (view s).truth ≡ Some u → Holds ws n → IsTrueBit u.graph.now n) (has_seen : AreWithin (view s).seen ws) (drawn : AreAllBelow (view s).end (view s).drawn) where
  opened : (view s).opening ≡ start
  opened = f.like.opening_is ∙ opening_is

  same_long : length (view s).opening ≡ length (view s).set
  same_long = let a = s.opening_long in let b = s.set_long in omega (arith, a, b)

  has_drawn : (k : ℕ) → k < length t.agenda.now → Has (view s).drawn k
  has_drawn k low =
      let all = drawn k in
      let here : once_below k (view s).end ≡ once_below k (length t.agenda.now) = ap (once_below k) (f.like.end_is ∙ end_is) in
      let once = once_inside k (length t.agenda.now) low in
      omega (arith, all, here, once)

  taken : (h : ℕ) → Contains t.agenda.now h → (a b : ℕ) → IsStep g h (HoldsFact g start) a b → HoldsFact g ws a b
  taken h c a b st =
      let q = contains_at t.agenda.now h c in
      let k = q.0 in
      let number : slice_index t.agenda.now k ≡ h = get_or_from_slice_get t.agenda.now k h 0 q.1 in
      let bit = fact_bit g shaped.rows_are h a b st.formals in
      let given : IsStepBit t.graph.now (slice_index t.agenda.now k) (view s).opening bit.0 = subst (λ (x : Graph). IsStepBit x (slice_index t.agenda.now k) (view s).opening bit.0) (sym graph_is)
      (subst (λ j. IsStepBit g j (view s).opening bit.0) (sym number) (subst (λ us. IsStepBit g h us bit.0) (sym opened) (record { from = a; to = b; is_bit = bit.1; given = st }))) in
      record { bit = bit.0; is_bit = bit.1; set = has_seen bit.0 (f.knows k (has_drawn k (slice_get_within t.agenda.now k h q.1)) bit.0 given) }

  pub round_taken : IsRoundTaken g t.agenda.now start ws
  round_taken = record {
    sound = record {
      long = ap length words_are ∙ length_union (view s).opening (view s).set ∙ ap length opened ∙ long;
      only_true = λ n h. subst (λ (x : Graph). IsTrueBit x n) graph_is (only_true t n (f.like.truth_is ∙ truth_is) h);
    };
    kept = λ n h. subst (λ us. Holds us n) (sym words_are) ((within_union (view s).opening (view s).set same_long).0 n (subst (λ us. Holds us n) (sym opened) h));
    taken = taken;
  }

-- ---- how rounds come to an end
some_in : (agenda : List ℕ) → 1 ≤ one_if_any agenda → (f : ℕ) × Contains agenda f
some_in [] h = absurd (omega (arith, h))
some_in (f ∷ fs) h = (f, contains_head f fs)

one_at_most : (agenda : List ℕ) → one_if_any agenda ≤ 1
one_at_most [] = omega arith
one_at_most (f ∷ fs) = omega arith

pub one_at_least : (agenda : List ℕ) → 1 ≤ length agenda → 1 ≤ one_if_any agenda
one_at_least [] h = absurd (omega (arith, h))
one_at_least (f ∷ fs) h = omega arith

pub none_left : (agenda : List ℕ) → length agenda ≡ 0 → agenda ≡ []
none_left [] h = refl
none_left (f ∷ fs) h = absurd (omega (arith, h))

-- bits that are clear, and whether functions are due
abbrev pub left_to_do : List ℕ → List ℕ → ℕ
left_to_do words agenda = 2 * (64 * length words - bits_below (64 * length words) words) + one_if_any agenda

-- before each round: a function outside the agenda is settled
pub record IsSettling (g : Graph) (agenda words : List ℕ) : Type 0 where
  pub functions : All (IsFunction g) agenda
  pub ascending : AllPairs (λ f h. f < h) agenda
  pub sound : AreSound g words
  pub others : (f : ℕ) → (Contains agenda f → ⊥) → IsSettled g (HoldsFact g words) f

pub once_each : (agenda : List ℕ) → AllPairs (λ f h. f < h) agenda → AllPairs (λ f h. f ≡ h → ⊥) agenda
once_each agenda ascending = λ i j d lt within same. let less = ascending i j d lt within in absurd (omega (arith, less, same))

-- all functions are the first agenda
pub settling_begins : (g : Graph) (agenda words : List ℕ) → IsFirstAgenda g agenda → AreSound g words → IsSettling g agenda words
settling_begins g agenda words first sound = record {
  functions = All-weaker (Contains agenda) (IsFunction g) (λ f c. (first.all f).0 c) agenda (All-contains_itself agenda);
  ascending = first.ascending;
  sound = sound;
  others = λ f none a b st. absurd (none ((first.all f).1 (function_in g f b (is_in g.vertices f b (kind.FormalOut st.formals.slot_out) st.formals.comes_out))));
}

module _ (g : Graph) (shaped : IsShaped g) (agenda before after next : List ℕ) (h : IsSettling g agenda before) (r : IsRoundTaken g agenda before after) (later : IsLaterAgenda g before after next) where
  round_is : IsRound g agenda before after
  round_is = record {
    kept = λ a b held. record { bit = held.bit; is_bit = held.is_bit; set = r.kept held.bit held.set };
    taken = r.taken;
    others = h.others;
  }

  pub settling_goes : IsSettling g next after
  settling_goes = record {
    functions = All-weaker (Contains next) (IsFunction g) (λ f c. due_function g before after f ((later.exact f).0 c)) next (All-contains_itself next);
    ascending = later.ascending;
    sound = r.sound;
    others = λ f none. others_settled g agenda before after shaped round_is f (λ due. none ((later.exact f).1 due));
  }

  -- there is less to do: more bits are set, or nothing is left
  pub settling_smaller : 1 ≤ one_if_any agenda → ((f : ℕ) → Contains next f → AreWithin before after → HasGainedBit before after) → left_to_do after next < left_to_do before agenda
  settling_smaller some_ gained =
      let size = 64 * length before in
      let long : length after ≡ length before = r.sound.long ∙ sym h.sound.long in
      let now : bits_below (64 * length after) after ≡ bits_below size after = ap (λ n. bits_below (64 * n) after) long in
      let few = few_bits size after in
      elim (cases_lt (one_if_any next) 1) [
        | inl nothing ↦ (let grown = bits_among size before after r.kept in omega (arith, long, now, few, grown, nothing, some_))
        | inr any ↦
            let p = some_in next any in
            let q = gained p.0 p.1 r.kept in
            let inside : q.bit < size = elim (cases_lt (q.bit / 64) (length after)) [
              | inl low ↦ omega (arith, low, long)
              | inr past ↦ absurd (false≢true (sym (word_bit_past after q.bit past) ∙ q.now))
            ] in
            let more = bits_more size before after r.kept q.bit inside q.now q.not_before in
            let one = one_at_most next in
            omega (arith, long, now, few, more, one, some_)
      ]

-- where nothing is left to do, the facts are exactly the true ones
pub settling_ends : (g : Graph) → IsShaped g → (agenda words : List ℕ) → agenda ≡ [] → IsSettling g agenda words → AreTrueFacts g words
settling_ends g shaped agenda words empty h =
    exact_where_settled g words shaped (sound_words g shaped words h.sound) (sound_true g shaped words h.sound)
    (λ f. h.others f (λ c. contains_none f (subst (λ fs. Contains fs f) empty c)))
