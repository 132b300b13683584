-- Functions that call themselves, and how a worker goes on with one.
use Rattle.std.proofs.Common.{◌≡◌, ◌≢◌, ◌↔◌, ℕ, ◌+◌, ◌-◌, ◌*◌, ◌/◌, ◌%◌, ◌^◌, ◌<◌, ◌≤◌, ◌⊎◌, ◌||◌, ◌++◌, inl, inr, Bool, true, false, List, [], ◌∷◌, length, get_or, set, flat_map, Contains, refl, sym, ap, ◌∙◌, subst, arith}
use Rattle.std.specs.Prelude.{slice_index, bit_and}
use Rattle.std.specs.Int.{bit_at, bit_not}
use mir.Syntax.{w64}
use Rattle.std.proofs.lemmas.Bool.{cases_eq, cases_lt, false≢true, or_cases, or_left, or_right}
use Rattle.std.proofs.lemmas.List.{get_or-set_other, length-set}
use Rattle.std.proofs.lemmas.List.Elements.{Contains-append_left, Contains-append_right}
use Rattle.rule_closure.proofs.ListLemmas.{contains_none, contains_head}
use Rattle.bit_rows.proofs.WordLemmas.{no_bit, word_bit_past}
use Rattle.crew.specs.SharedWords.{Holds, bit}
use Rattle.crew.proofs.BitLemmas.{bit_here, bit_else, bit_holds, holds_bit}
use Rattle.dep_model.specs.declared.edge.Edge.{Edge}
use Rattle.dep_model.specs.declared.edge.Label.TheVariants.{Call}
use Rattle.dep_model.specs.declared.graph.Graph.{Graph}
use Rattle.dep_model.specs.declared.vertex.VertexKind.TheVariants as kind
use Rattle.dep_model.specs.Facts.{HoldsFact, IsIn}
use Rattle.dep_model.specs.Graphs.{edge}
use Rattle.dep_model.specs.Shapes.{IsShaped, IsCallOf}
use Rattle.matched_paths.specs.EdgeGroups.{calling}
use Rattle.matched_paths.specs.Places.{bits_below}
use Rattle.matched_paths.specs.VertexRanges.{IsInRange, within}
use Rattle.matched_paths.specs.declared.vertex_range.VertexRange.{VertexRange}
use Rattle.matched_paths.proofs.BitLemmas.{few_bits}
use Rattle.matched_paths.proofs.CallShapes.{in_other, is_in}
use Rattle.matched_paths.proofs.GroupLaws.{calling_is, calling_has}
use Rattle.matched_paths.proofs.StepRuleLaws.{within_is, is_within}
use Rattle.summary_edges.specs.declared.exit_rows.ExitRows.{ExitRows}
use Rattle.summary_edges.specs.declared.function_parts.FunctionPart.{FunctionPart}
use Rattle.summary_edges.specs.Agendas.{HoldsCall}
use Rattle.summary_edges.specs.ExitRows.{IsFilled, LacksNews}
use Rattle.summary_edges.specs.FunctionParts.{IsPart}
use Rattle.summary_edges.specs.Steps.{HaveGrown, IsStepTaken}
use Rattle.summary_edges.specs.Workers.{HasNoted, IsBehind}
use Rattle.summary_edges.proofs.AgendaLaws.{call_at}
use Rattle.summary_edges.proofs.FillLaws.{one_more}
use Rattle.summary_edges.proofs.WorkerLaws.{gain_bits}

-- ---- a function that calls itself
-- one of the edges leads from a vertex of the range, or none does
pub record IsAnyOwn (s : VertexRange) (es : List Edge) (found : Bool) : Type 0 where
  pub exact : (found ≡ true) ↔ ((e : Edge) × Contains es e × IsInRange s e.from)

pub own_none : (s : VertexRange) → IsAnyOwn s [] false
own_none s = record { exact = (λ up. absurd (false≢true up), λ q. absurd (contains_none q.0 q.1)) }

pub own_more : (s : VertexRange) (es : List Edge) (e : Edge) (found more : Bool) → more ≡ within s e.from → IsAnyOwn s es found → IsAnyOwn s (es ++ e ∷ []) (found || more)
own_more s es e found more is h = record {
  exact = (
    λ up. elim (or_cases found more up) [
      | inl before ↦ (let q = h.exact.0 before in (q.0, Contains-append_left es (e ∷ []) q.0 q.1, q.2))
      | inr here ↦ (e, Contains-append_right es (e ∷ []) e (contains_head e []), within_is s e.from (sym is ∙ here))
    ],
    λ q. elim (one_more es e q.0 q.1) [
      | inl before ↦ or_left found more (h.exact.1 (q.0, before, q.2))
      | inr same ↦ or_right found more (is ∙ subst (λ (x : Edge). within s x.from ≡ true) (sym same) (is_within s q.0.from q.2.0 q.2.1))
    ],
  );
}

module _ (g : Graph) (shaped : IsShaped g) (p : FunctionPart) (is : IsPart g p) (calls : List Edge) (calls_are : calls ≡ flat_map (calling g.vertices is.whole.function) g.edges) where
  abbrev f : ℕ
  f = is.whole.function

  pub own_call : (e : Edge) → Contains calls e → IsInRange p.range e.from → HoldsCall g f f
  own_call e m inside =
      let at = calling_is g.vertices g.edges f e (subst (λ es. Contains es e) calls_are m) in
      let there : Contains g.edges (edge e.from e.to (Call at.1.0)) = subst (λ l. Contains g.edges (edge e.from e.to l)) at.1.1 at.0 in
      let c = call_at g e.from e.to at.1.0 (shaped.fitting (edge e.from e.to (Call at.1.0)) there) in
      let callee : f ≡ c.2 = in_other g.vertices f c.2 e.to kind.Entry at.1.2 c.4 in
      let own : f ≡ c.0 = in_other g.vertices f c.0 e.from (kind.Call c.1) ((is.whole.all e.from).1 inside) c.3 in
      let call : IsCallOf g c.0 c.1 c.2 e.from = record { entry = e.to; at = c.3; is_entry = c.4; calls = subst (λ k. Contains g.edges (edge e.from e.to (Call k))) c.5 there } in
      record { statement = c.1; call = e.from; calls = subst (λ h. IsCallOf g f c.1 h e.from) (sym callee) (subst (λ k. IsCallOf g k c.1 c.2 e.from) (sym own) call) }

  pub call_own : HoldsCall g f f → (e : Edge) × Contains calls e × IsInRange p.range e.from
  call_own h =
      let c = h.calls in
      let entry : IsIn g.vertices f c.entry = is_in g.vertices f c.entry kind.Entry c.is_entry in (
        edge h.call c.entry (Call h.call),
        subst (λ es. Contains es (edge h.call c.entry (Call h.call))) (sym calls_are) (calling_has g.vertices g.edges f h.call c.entry h.call c.calls entry),
        (is.whole.all h.call).0 (is_in g.vertices f h.call (kind.Call h.statement) c.at),
      )

-- ---- news
-- the words before one are noted
pub record IsNoting (p : FunctionPart) (own known old : List ℕ) (word : ℕ) (new : List ℕ) : Type 0 where
  pub long : length new ≡ length old
  pub gained : (w i : ℕ) → p.first_word ≤ w → w < word → i < 64 → (bit new w i ≡ 1) ↔ ((bit known w i ≡ 1) × (bit own (w - p.first_word) i ≢ 1))
  pub others : (w : ℕ) → w < p.first_word → get_or new w 0 ≡ get_or old w 0

abbrev pub gain_at : FunctionPart → List ℕ → List ℕ → ℕ → ℕ
gain_at p own known w = bit_and (slice_index known w) (bit_not w64 (slice_index own (w - p.first_word)))

pub noting_none : (p : FunctionPart) (own known old : List ℕ) → IsNoting p own known old p.first_word old
noting_none p own known old = record { long = refl; gained = λ w i from to few. absurd (omega (arith, from, to)); others = λ w low. refl }

pub noting_goes : (p : FunctionPart) (own known old now : List ℕ) (word : ℕ) → p.first_word ≤ word → word < length now → slice_index own (word - p.first_word) < 2 ^ 64
    → IsNoting p own known old word now → IsNoting p own known old (word + 1) (set now word (gain_at p own known word))
noting_goes p own known old now word from low small h = record {
  long = length-set now word (gain_at p own known word) ∙ h.long;
  gained = λ w i w_from w_to few. elim (cases_eq w word) [
    | inl same ↦
        let here = bit_here now word (gain_at p own known word) i low in
        let q = gain_bits (slice_index known word) (slice_index own (word - p.first_word)) i small few in
        subst (λ j. (bit (set now word (gain_at p own known word)) j i ≡ 1) ↔ ((bit known j i ≡ 1) × (bit own (j - p.first_word) i ≢ 1))) (sym same) (λ b. q.0 (sym here ∙ b), λ b. here ∙ q.1 b)
    | inr other ↦
        let there = bit_else now word (gain_at p own known word) w i other in
        let q = h.gained w i w_from (omega (arith, w_to, other)) few in
        (λ b. q.0 (sym there ∙ b), λ b. there ∙ q.1 b)
  ];
  others = λ w before. get_or-set_other now word w (gain_at p own known word) 0 (λ same. absurd (omega (arith, same, before, from))) ∙ h.others w before;
}

-- where rows are behind, they lack what is noted
module _ (g : Graph) (p : FunctionPart) (x : ExitRows) (own known old news : List ℕ) (h : IsBehind g p x own known) (noted : HasNoted p own known old news)
    (news_long : length news ≡ p.last_word) (no_others : (w : ℕ) → w < p.first_word → get_or old w 0 ≡ 0) where
  abbrev K : List ℕ
  K = h.before

  own_word : (w : ℕ) → p.first_word ≤ w → w < p.last_word → get_or own (w - p.first_word) 0 ≡ get_or K w 0
  own_word w from to =
      let at : p.first_word + (w - p.first_word) ≡ w = omega (arith, from) in
      h.copied (w - p.first_word) (omega (arith, from, to)) ∙ ap (λ k. get_or K k 0) at

  same_held : (n : ℕ) → Holds known n → get_or known (n / 64) 0 ≡ get_or K (n / 64) 0 → Holds K n
  same_held n set_ e = bit_holds K n (ap (λ y. bit_at y (n % 64)) (sym e) ∙ holds_bit known n set_)

  -- a bit that is set was set before, or is noted
  own_bit : (n : ℕ) → Holds known n → p.first_word ≤ n / 64 → n / 64 < p.last_word → Holds K n ⊎ Holds news n
  own_bit n set_ from to = elim (cases_eq (bit own (n / 64 - p.first_word) (n % 64)) 1) [
    | inl had ↦ inl (bit_holds K n (ap (λ y. bit_at y (n % 64)) (sym (own_word (n / 64) from to)) ∙ had))
    | inr lacks ↦ inr (bit_holds news n ((noted.gained (n / 64) (n % 64) from to (omega arith)).1 (holds_bit known n set_, lacks)))
  ]

  bit_cases : (n : ℕ) → Holds known n → Holds K n ⊎ Holds news n
  bit_cases n set_ = elim (cases_lt (n / 64) p.first_word) [
    | inl before ↦ inl (same_held n set_ (h.others (n / 64) (inl before)))
    | inr from ↦ elim (cases_lt (n / 64) p.last_word) [
      | inl to ↦ own_bit n set_ from to
      | inr behind ↦ inl (same_held n set_ (h.others (n / 64) (inr behind)))
    ]
  ]

  -- what is noted is set
  noted_held : (n : ℕ) → Holds news n → Holds known n
  noted_held n set_ = elim (cases_lt (n / 64) p.first_word) [
    | inl before ↦ absurd (false≢true (sym (no_bit (get_or news (n / 64) 0) (n % 64) (noted.others (n / 64) before ∙ no_others (n / 64) before)) ∙ set_))
    | inr from ↦ elim (cases_lt (n / 64) p.last_word) [
      | inl to ↦ bit_holds known n ((noted.gained (n / 64) (n % 64) from to (omega arith)).0 (holds_bit news n set_)).0
      | inr behind ↦ absurd (false≢true (sym (word_bit_past news n (omega (arith, behind, news_long))) ∙ set_))
    ]
  ]

  pub lacks_noted : LacksNews g p news known x
  lacks_noted = record {
    before = K;
    filled = h.filled;
    news_are = λ a b. (
      λ k. elim (bit_cases k.bit k.set) [
        | inl was ↦ inl (record { bit = k.bit; is_bit = k.is_bit; set = was })
        | inr new ↦ inr (record { bit = k.bit; is_bit = k.is_bit; set = new })
      ],
      λ k. elim k [
        | inl was ↦ h.kept a b was
        | inr new ↦ record { bit = new.bit; is_bit = new.is_bit; set = noted_held new.bit new.set }
      ],
    );
  }

-- after a step the rows lack what it gave
pub behind_again : (g : Graph) (p : FunctionPart) (x : ExitRows) (old new own : List ℕ) (grows : Bool) → IsStepTaken g p old old new grows → IsFilled g (HoldsFact g old) p x
    → ((k : ℕ) → p.first_word + k < p.last_word → get_or own k 0 ≡ get_or old (p.first_word + k) 0) → IsBehind g p x own new
behind_again g p x old new own grows taken filled copied = record {
  before = old;
  filled = filled;
  copied = copied;
  others = taken.added.others;
  kept = λ a b h. (taken.added.exact a b).1 (inl h);
}

-- ---- how long a worker goes on
-- as many bits as words may still gain
abbrev pub left_over : List ℕ → List ℕ → ℕ
left_over first ws = 64 * length first - bits_below (64 * length first) ws

pub goes_down : (first old new : List ℕ) → length old ≡ length first → HaveGrown old new true → left_over first new < left_over first old
goes_down first old new long grown =
    let size = 64 * length first in
    let more = grown.more refl in
    let before : bits_below (64 * length old) old ≡ bits_below size old = ap (λ n. bits_below (64 * n) old) long in
    let after : bits_below (64 * length old) new ≡ bits_below size new = ap (λ n. bits_below (64 * n) new) long in
    let few = few_bits size new in
    omega (arith, more, before, after, few)
