-- Facts that are added to words, and those that one step of a function gives.
use Rattle.std.proofs.Common.{◌≡◌, ◌≢◌, ◌↔◌, ℕ, ◌+◌, ◌-◌, ◌*◌, ◌/◌, ◌%◌, ◌<◌, ◌≤◌, ◌⊎◌, ◌||◌, inl, inr, min, Bool, true, false, eqb, List, length, get_or, Contains, Some, slice_get, refl, sym, ap, ◌∙◌, subst, arith}
use Rattle.std.specs.Int.{bit_at}
use Rattle.std.specs.Option.{option_map_or}
use Rattle.std.proofs.lemmas.Bool.{cases_eq, false≢true}
use Rattle.std.proofs.lemmas.Option.{same_Some}
use Rattle.bit_rows.specs.Sets.{has}
use Rattle.bit_rows.specs.Tables.{Holds, the_set}
use Rattle.bit_rows.specs.Words.{set_of}
use Rattle.bit_rows.proofs.WordLemmas.{has-set_of, no_bit}
use Rattle.dep_model.specs.declared.graph.Graph.{Graph}
use Rattle.dep_model.specs.declared.graph.OutRow.{OutRow}
use Rattle.dep_model.specs.declared.vertex.Slot.{Slot}
use Rattle.dep_model.specs.declared.vertex.Vertex.{Vertex}
use Rattle.dep_model.specs.declared.vertex.VertexKind.{VertexKind}
use Rattle.dep_model.specs.declared.vertex.VertexKind.TheVariants.{Entry, FormalIn, FormalOut, Statement, Call, ActualIn, ActualOut}
use Rattle.dep_model.specs.Facts.{FactSet, AreFormals, HoldsFact, IsInnerChain, IsStep}
use Rattle.dep_model.specs.FunctionVertices.{is_formal_in, is_formal_out}
use Rattle.dep_model.specs.Graphs.{HasRows}
use Rattle.dep_model.specs.SystemGraph.{IsVertex}
use Rattle.dep_model.specs.VertexOrder.{in_function}
use Rattle.matched_paths.specs.Places.{Places, ArePlaces, HasOneMore, bits_below, bit_of, holds_fact}
use Rattle.matched_paths.specs.VertexRanges.{IsInRange}
use Rattle.matched_paths.proofs.BitLemmas.{one_counted}
use Rattle.matched_paths.proofs.CallShapes.{in_other, is_in}
use Rattle.matched_paths.proofs.RowLaws.{row_of_formal}
use Rattle.matched_paths.proofs.RowPlaces.{placed, bit_below}
use Rattle.matched_paths.proofs.SetLaws.{fact_kept, fact_set, fact_only, words_kept}
use Rattle.summary_edges.specs.declared.exit_rows.ExitRows.{ExitRows}
use Rattle.summary_edges.specs.declared.function_parts.FunctionPart.{FunctionPart}
use Rattle.summary_edges.specs.ExitRows.{HasRoom, AreExits, exit_at}
use Rattle.summary_edges.specs.FunctionParts.{IsPart}
use Rattle.summary_edges.specs.Steps.{HaveGrown, HasAdded, IsFormalInAt, IsReadAt, IsReadIn, IsReadOff, IsStepTaken}
use Rattle.summary_edges.proofs.PartLaws.{contains_at, own_row, row_own, row_there, row_formal, words_inside}

-- ---- growth
pub grown_none : (ws : List ℕ) → HaveGrown ws ws false
grown_none ws = record { long = refl; more = λ t. absurd (false≢true t); same = λ _. refl }

pub grown_both : (a b c : List ℕ) (g r : Bool) → HaveGrown a b g → HaveGrown b c r → HaveGrown a c (g || r)
grown_both a b c true true h k = record {
  long = k.long ∙ h.long;
  more = λ _.
      let one = h.more refl in
      let two = k.more refl in
      let same : bits_below (64 * length b) b ≡ bits_below (64 * length a) b = ap (λ n. bits_below (64 * n) b) h.long in
      let last : bits_below (64 * length b) c ≡ bits_below (64 * length a) c = ap (λ n. bits_below (64 * n) c) h.long in
      omega (arith, one, two, same, last);
  same = λ f. absurd (false≢true (sym f));
}
grown_both a b c true false h k = record {
  long = k.long ∙ h.long;
  more = λ _. let one = h.more refl in let same : bits_below (64 * length a) c ≡ bits_below (64 * length a) b = ap (bits_below (64 * length a)) (k.same refl) in omega (arith, one, same);
  same = λ f. absurd (false≢true (sym f));
}
grown_both a b c false true h k = record {
  long = k.long ∙ h.long;
  more = λ _. let is : b ≡ a = h.same refl in subst (λ x. bits_below (64 * length x) x < bits_below (64 * length x) c) is (k.more refl);
  same = λ f. absurd (false≢true (sym f));
}
grown_both a b c false false h k = record {
  long = k.long ∙ h.long;
  more = λ t. absurd (false≢true t);
  same = λ _. k.same refl ∙ h.same refl;
}

-- ---- facts added
pub added_none : (g : Graph) (p : FunctionPart) (P : FactSet) (ws : List ℕ) → ((a b : ℕ) → P a b → ⊥) → HasAdded g p P ws ws false
added_none g p P ws none = record {
  grown = grown_none ws;
  words = λ w. w;
  exact = λ a b. (λ h. inl h, λ h. elim h [ inl k ↦ k | inr k ↦ absurd (none a b k) ]);
  others = λ w out. refl;
}

pub added_as : (g : Graph) (p : FunctionPart) (P Q : FactSet) (old new : List ℕ) (grows : Bool) → ((a b : ℕ) → P a b ↔ Q a b) → HasAdded g p P old new grows → HasAdded g p Q old new grows
added_as g p P Q old new grows same h = record {
  grown = h.grown;
  words = h.words;
  exact = λ a b. (
    λ k. elim ((h.exact a b).0 k) [ inl x ↦ inl x | inr y ↦ inr ((same a b).0 y) ],
    λ k. (h.exact a b).1 (elim k [ inl x ↦ inl x | inr y ↦ inr ((same a b).1 y) ]),
  );
  others = h.others;
}

pub added_both : (g : Graph) (p : FunctionPart) (P Q : FactSet) (old mid new : List ℕ) (grows more : Bool) → HasAdded g p P old mid grows → HasAdded g p Q mid new more → HasAdded g p (λ a b. P a b ⊎ Q a b) old new (grows || more)
added_both g p P Q old mid new grows more h k = record {
  grown = grown_both old mid new grows more h.grown k.grown;
  words = λ w. k.words (h.words w);
  exact = λ a b. (
    λ n. elim ((k.exact a b).0 n) [
      | inl m ↦ elim ((h.exact a b).0 m) [ inl o ↦ inl o | inr x ↦ inr (inl x) ]
      | inr y ↦ inr (inr y)
    ],
    λ n. elim n [
      | inl o ↦ (k.exact a b).1 (inl ((h.exact a b).1 (inl o)))
      | inr q ↦ elim q [
        | inl x ↦ (k.exact a b).1 (inl ((h.exact a b).1 (inr x)))
        | inr y ↦ (k.exact a b).1 (inr y)
      ]
    ],
  );
  others = λ w out. k.others w out ∙ h.others w out;
}

-- ---- one fact
module _ (g : Graph) (t : Places) (rows : HasRows g) (places : ArePlaces g t) (p : FunctionPart) (is : IsPart g p) (f a b : ℕ) (formals : AreFormals g.vertices f a b) (inside : IsInRange p.range b) where
  abbrev bit : ℕ
  bit = bit_of t a b

  -- the bit of a fact of the function stands among the words of the function's rows
  bit_place : (p.first_word ≤ bit / 64) × (bit / 64 < p.last_word)
  bit_place =
      let q = placed g rows a b bit (places.bits f a b formals) in
      let c = contains_at g.outs (record { vertex = b; word = q.word }) (subst (λ os. Contains os (record { vertex = b; word = q.word })) (sym rows.outs_are) q.row) in
      let own = row_own g rows p is c.0 (record { vertex = b; word = q.word }) c.1 inside in
      let words = words_inside g rows p is c.0 (record { vertex = b; word = q.word }) q.vertex c.1 q.at own.0 own.1 in
      let low = words.0 in let high = words.1 in let few = q.inside in let e = q.bit_is in
      (omega (arith, low, high, few, e), omega (arith, low, high, few, e))

  pub fact_room : (ws : List ℕ) → length ws ≡ g.fact_words → bit < 64 * length ws
  fact_room ws long = let low = bit_below g rows a b bit (places.bits f a b formals) in omega (arith, low, long)

  pub fact_adds : (old new : List ℕ) → length old ≡ g.fact_words → length new ≡ length old → HasOneMore bit old new → holds_fact t old a b ≡ false
      → ((w : ℕ) → w ≢ bit / 64 → get_or new w 0 ≡ get_or old w 0) → HasAdded g p (λ c d. (c ≡ a) × (d ≡ b)) old new true
  fact_adds old new words long more none others = record {
    grown = record {
      long = long;
      more = λ _. let one = one_counted (64 * length old) bit old new more none (fact_room old words) in omega (arith, one);
      same = λ e. absurd (false≢true (sym e));
    };
    words = words_kept g rows a b bit (places.bits f a b formals) old new more long;
    exact = λ c d. (
      fact_only g rows a b bit (places.bits f a b formals) old new more c d,
      λ h. elim h [
        | inl k ↦ fact_kept g rows a b bit (places.bits f a b formals) old new more c d k
        | inr e ↦ subst (λ y. HoldsFact g new c y) (sym e.1) (subst (λ x. HoldsFact g new x b) (sym e.0) (fact_set g rows a b bit (places.bits f a b formals) old new more))
      ],
    );
    others = λ w out. others w (λ same. elim out [
      | inl before ↦ let q = bit_place.0 in omega (arith, q, same, before)
      | inr behind ↦ let q = bit_place.1 in omega (arith, q, same, behind)
    ]);
  }

  pub fact_there : (ws : List ℕ) → holds_fact t ws a b ≡ true → HasAdded g p (λ c d. (c ≡ a) × (d ≡ b)) ws ws false
  fact_there ws held = record {
    grown = grown_none ws;
    words = λ w. w;
    exact = λ c d. (
      λ h. inl h,
      λ h. elim h [
        | inl k ↦ k
        | inr e ↦ subst (λ y. HoldsFact g ws c y) (sym e.1) (subst (λ x. HoldsFact g ws x b) (sym e.0) ((places.exact f a b ws formals).1 held))
      ],
    );
    others = λ w out. refl;
  }

-- ---- kinds of vertices
formal_in_slot : (k : VertexKind) → is_formal_in k ≡ true → (slot : Slot) × (k ≡ FormalIn slot)
formal_in_slot (FormalIn slot) h = (slot, refl)
formal_in_slot Entry h = absurd (false≢true h)
formal_in_slot (FormalOut slot) h = absurd (false≢true h)
formal_in_slot (Statement i) h = absurd (false≢true h)
formal_in_slot (Call i) h = absurd (false≢true h)
formal_in_slot (ActualIn i slot) h = absurd (false≢true h)
formal_in_slot (ActualOut i slot) h = absurd (false≢true h)

formal_out_slot : (k : VertexKind) → is_formal_out k ≡ true → (slot : Slot) × (k ≡ FormalOut slot)
formal_out_slot (FormalOut slot) h = (slot, refl)
formal_out_slot Entry h = absurd (false≢true h)
formal_out_slot (FormalIn slot) h = absurd (false≢true h)
formal_out_slot (Statement i) h = absurd (false≢true h)
formal_out_slot (Call i) h = absurd (false≢true h)
formal_out_slot (ActualIn i slot) h = absurd (false≢true h)
formal_out_slot (ActualOut i slot) h = absurd (false≢true h)

-- a vertex that is read as a formal-in is one
pub is_formal : (vs : List Vertex) (a : ℕ) (x : Vertex) → slice_get vs a ≡ Some x → is_formal_in x.kind ≡ true → IsFormalInAt vs a
is_formal vs a x at h =
    let s = formal_in_slot x.kind h in
    record { function = x.function; slot = s.0; at = at ∙ ap (λ (k : VertexKind). let y : Vertex = record { function = x.function; kind = k } in Some y) s.1 }

pub no_formal : (vs : List Vertex) (a : ℕ) (x : Vertex) → slice_get vs a ≡ Some x → is_formal_in x.kind ≡ false → IsFormalInAt vs a → ⊥
no_formal vs a x at none h =
    false≢true (sym none ∙ ap (λ (y : Vertex). is_formal_in y.kind) (same_Some _ _ (sym at ∙ h.at)))

-- what is read of one formal-in, from a formal-out on up to another
abbrev pub ReadFrom : Graph → FunctionPart → ExitRows → ℕ → ℕ → ℕ → FactSet
ReadFrom g p x v first n a b = (e : ℕ) × (first ≤ e) × (e < n) × IsReadAt g p x v e a b

-- what is read of one formal-in, up to a word of its row
abbrev pub ReadWords : Graph → FunctionPart → ExitRows → ℕ → ℕ → FactSet
ReadWords g p x v n a b = (w : ℕ) × (w < n) × IsReadIn g p x v w a b

-- what is read of the formal-ins before a vertex
abbrev pub ReadBefore : Graph → FunctionPart → ExitRows → ℕ → FactSet
ReadBefore g p x n a b = (a < n) × IsReadOff g p x a b

module _ (g : Graph) (rows : HasRows g) (p : FunctionPart) (is : IsPart g p) where
  abbrev f : ℕ
  f = is.whole.function

  -- a formal-in of the function, and the formal-out of one of its rows
  pub formals_of : (a k : ℕ) (r : OutRow) → IsInRange p.range a → IsFormalInAt g.vertices a → slice_get g.outs k ≡ Some r → p.first_row ≤ k → k < p.last_row → AreFormals g.vertices f a r.vertex
  formals_of a k r i formal at from to =
      let j = (is.whole.all r.vertex).1 (own_row g rows p is k r at from to) in
      let in_ = (is.whole.all a).1 i in
      let same : f ≡ formal.function = in_other g.vertices f formal.function a (FormalIn formal.slot) in_ formal.at in
      let out = formal_out_slot j.vertex.kind (row_formal g rows k r j.vertex at j.at) in
      record {
        slot_in = formal.slot;
        slot_out = out.0;
        goes_in = subst (λ n. IsVertex g.vertices n (FormalIn formal.slot) a) (sym same) formal.at;
        comes_out = j.at ∙ ap (λ (n : ℕ). let y : Vertex = record { function = n; kind = j.vertex.kind } in Some y) j.in_function ∙ ap (λ (m : VertexKind). let y : Vertex = record { function = f; kind = m } in Some y) out.1;
      }

  pub exit_is : (k : ℕ) (r : OutRow) → slice_get g.outs (p.first_row + k) ≡ Some r → exit_at g p k ≡ r.vertex
  exit_is k r at = ap (λ o. option_map_or (λ (q : OutRow). q.vertex) o 0) at

  module _ (x : ExitRows) where
    -- ---- the formal-outs of one word of a formal-in's row, one after another
    pub from_none : (v first a b : ℕ) → ReadFrom g p x v first first a b → ⊥
    from_none v first a b h = let low = h.1 in let high = h.2 in omega (arith, low, high)

    pub from_more : (v first n a b : ℕ) → first ≤ n → (ReadFrom g p x v first n a b ⊎ IsReadAt g p x v n a b) ↔ ReadFrom g p x v first (n + 1) a b
    from_more v first n a b le = (
      λ h. elim h [
        | inl k ↦ (k.0, k.1, (let high = k.2 in omega (arith, high)), k.3)
        | inr k ↦ (n, le, omega arith, k)
      ],
      λ k. elim (cases_eq k.0 n) [
        | inl same ↦ inr (subst (λ m. IsReadAt g p x v m a b) same k.3)
        | inr other ↦ inl (k.0, k.1, (let high = k.2 in omega (arith, high, other)), k.3)
      ],
    )

    pub from_all : (v w n count : ℕ) → count ≡ min (p.last_row - p.first_row - 64 * w) 64 → 64 * w < p.last_row - p.first_row → n ≡ 64 * w + count → (a b : ℕ) → ReadFrom g p x v (64 * w) n a b ↔ IsReadIn g p x v w a b
    from_all v w n count least inside whole a b = (
      λ h. let high = h.2 in record { exit = h.0; from = h.1; to = omega (arith, high, least, whole); few = omega (arith, high, least, inside, whole); read = h.3 },
      λ r. let to = r.to in let few = r.few in (r.exit, r.from, omega (arith, to, few, least, whole), r.read),
    )

    -- a word without a bit says nothing
    pub word_none : (v w : ℕ) (row : List ℕ) → HasRoom p x → set_of x.rows.bits row ≡ the_set x.rows (v - p.range.first) → get_or row w 0 ≡ 0 → (a b : ℕ) → IsReadIn g p x v w a b → ⊥
    word_none v w row room held zero_ a b r =
        let e = r.exit in
        let from = r.from in let to = r.to in let few = r.few in let exits = room.exits in
        let place : e / 64 ≡ w = omega (arith, from, to) in
        let none : has (the_set x.rows (v - p.range.first)) e ≡ false =
        ap (λ s. has s e) (sym held) ∙ has-set_of x.rows.bits row e (omega (arith, few, exits)) ∙ ap (λ k. eqb (bit_at (get_or row k 0) (e % 64)) 1) place ∙ no_bit (get_or row w 0) (e % 64) zero_ in
        false≢true (sym none ∙ r.read.reached)

    -- ---- the words of a formal-in's row, one after another
    pub words_none : (v a b : ℕ) → ReadWords g p x v 0 a b → ⊥
    words_none v a b h = let low = h.1 in omega (arith, low)

    pub words_more : (v n a b : ℕ) → (ReadWords g p x v n a b ⊎ IsReadIn g p x v n a b) ↔ ReadWords g p x v (n + 1) a b
    words_more v n a b = (
      λ h. elim h [
        | inl k ↦ (k.0, (let low = k.1 in omega (arith, low)), k.2)
        | inr k ↦ (n, omega arith, k)
      ],
      λ k. elim (cases_eq k.0 n) [
        | inl same ↦ inr (subst (λ m. IsReadIn g p x v m a b) same k.2)
        | inr other ↦ inl (k.0, (let low = k.1 in omega (arith, low, other)), k.2)
      ],
    )

    pub words_all : (v n : ℕ) → IsInRange p.range v → IsFormalInAt g.vertices v → p.last_row - p.first_row ≤ 64 * n → (a b : ℕ) → ReadWords g p x v n a b ↔ ((a ≡ v) × IsReadOff g p x a b)
    words_all v n i formal whole a b = (
      λ h.
          let r = h.2 in
          let from = r.read.from in (
            from,
            record {
              inside = subst (IsInRange p.range) (sym from) i;
              formal = subst (IsFormalInAt g.vertices) (sym from) formal;
              exit = r.exit;
              few = r.few;
              read = record { from = refl; to = r.read.to; reached = subst (λ u. Holds x.rows (u - p.range.first) r.exit) (sym from) r.read.reached };
            },
          ),
      λ h.
          let q = h.1 in
          let few = q.few in (
            q.exit / 64,
            omega (arith, few, whole),
            record {
              exit = q.exit;
              from = omega arith;
              to = omega arith;
              few = few;
              read = record { from = h.0; to = q.read.to; reached = subst (λ u. Holds x.rows (u - p.range.first) q.exit) h.0 q.read.reached };
            },
          ),
    )

    -- ---- the vertices, one after another
    pub before_none : (a b : ℕ) → ReadBefore g p x p.range.first a b → ⊥
    before_none a b h = let low = h.1.inside.0 in let q = h.0 in omega (arith, low, q)

    pub before_more : (n a b : ℕ) → (ReadBefore g p x n a b ⊎ ((a ≡ n) × IsReadOff g p x a b)) ↔ ReadBefore g p x (n + 1) a b
    before_more n a b = (
      λ h. elim h [
        | inl k ↦ ((let low = k.0 in omega (arith, low)), k.1)
        | inr k ↦ ((let e = k.0 in omega (arith, e)), k.1)
      ],
      λ k. elim (cases_eq a n) [
        | inl same ↦ inr (same, k.1)
        | inr other ↦ inl ((let low = k.0 in omega (arith, low, other)), k.1)
      ],
    )

    pub before_all : (n : ℕ) → p.range.last ≤ n → (a b : ℕ) → ReadBefore g p x n a b ↔ IsReadOff g p x a b
    before_all n all a b = (λ h. h.1, λ h. ((let high = h.inside.1 in omega (arith, high, all)), h))

-- what the filled rows say is exactly what one step gives
pub read_is_step : (g : Graph) (K : FactSet) (p : FunctionPart) (x : ExitRows) (rows : HasRows g) (h : AreExits g K p x) (a b : ℕ) → IsReadOff g p x a b ↔ IsStep g h.part.whole.function K a b
read_is_step g K p x rows h a b = (
  λ r.
      let turn = r.few in
      let within = h.part.rows_inside in
      let t = row_there g rows (p.first_row + r.exit) (omega (arith, turn, within)) in
      let at : exit_at g p r.exit ≡ t.row.vertex = exit_is g rows p h.part r.exit t.row t.at in
      let same : t.row.vertex ≡ b = sym at ∙ sym r.read.to in
      record {
        formals = subst (AreFormals g.vertices h.part.whole.function a) same (formals_of g rows p h.part a (p.first_row + r.exit) t.row r.inside r.formal t.at (omega arith) (omega (arith, turn)));
        chain = subst (λ d. IsInnerChain g K h.part.whole.function a d) (sym r.read.to) ((h.exact a r.exit r.inside).0 r.read.reached).1;
      },
  λ s.
      let f = h.part.whole.function in
      let i = (h.part.whole.all a).0 (is_in g.vertices f a (FormalIn s.formals.slot_in) s.formals.goes_in) in
      let j = (h.part.whole.all b).0 (is_in g.vertices f b (FormalOut s.formals.slot_out) s.formals.comes_out) in
      let row = row_of_formal g.vertices b (in_function f (FormalOut s.formals.slot_out)) s.formals.comes_out refl in
      let r : OutRow = record { vertex = b; word = row.0 } in
      let c = contains_at g.outs r (subst (λ os. Contains os r) (sym rows.outs_are) row.1) in
      let own = row_own g rows p h.part c.0 r c.1 j in
      let from = own.0 in let to = own.1 in
      let place : p.first_row + (c.0 - p.first_row) ≡ c.0 = omega (arith, from) in
      let at : exit_at g p (c.0 - p.first_row) ≡ b = exit_is g rows p h.part (c.0 - p.first_row) r (ap (slice_get g.outs) place ∙ c.1) in
      let few : c.0 - p.first_row < p.last_row - p.first_row = omega (arith, from, to) in
      record {
        inside = i;
        formal = record { function = f; slot = s.formals.slot_in; at = s.formals.goes_in };
        exit = c.0 - p.first_row;
        few = few;
        read = record { from = refl; to = sym at; reached = (h.exact a (c.0 - p.first_row) i).1 (few, subst (λ d. IsInnerChain g K h.part.whole.function a d) (sym at) s.chain) };
      },
)

pub step_taken : (g : Graph) (known : List ℕ) (p : FunctionPart) (x : ExitRows) (old new : List ℕ) (grows : Bool) → HasRows g → AreExits g (HoldsFact g known) p x → HasAdded g p (IsReadOff g p x) old new grows → IsStepTaken g p known old new grows
step_taken g known p x old new grows rows h added = record {
  part = h.part;
  added = added_as g p (IsReadOff g p x) (IsStep g h.part.whole.function (HoldsFact g known)) old new grows (read_is_step g (HoldsFact g known) p x rows h) added;
}
