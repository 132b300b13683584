-- The targets of a search by rows: the reached vertices that may use what has come to them.
use Rattle.std.proofs.Common.{◌≡◌, ℕ, ◌+◌, ◌*◌, ◌/◌, ◌%◌, ◌<◌, ◌⊎◌, ◌↔◌, inl, inr, true, eqb, List, length, get_or, Contains, All, sym, ap, ◌∙◌, subst, arith}
use Rattle.std.specs.Int.{bit_at}
use Rattle.std.proofs.lemmas.Bool.{false≢true}
use Rattle.std.proofs.lemmas.List.{get_or_default}
use Rattle.bit_rows.specs.Tables.{Table, the_set}
use Rattle.bit_rows.specs.Words.{word_bit}
use Rattle.bit_rows.proofs.WordLemmas.{no_bit}
use Rattle.dep_model.specs.declared.skeleton.Skeleton.{Skeleton}
use Rattle.dep_model.specs.Follows.{Chain}
use Rattle.reaching_defs.specs.declared.arrivals.Arrivals.{Arrivals}
use Rattle.reaching_defs.specs.declared.definition.Definition.{Definition}
use Rattle.reaching_defs.specs.declared.successors.Successors.{Successors}
use Rattle.reaching_defs.specs.Arrivals.{IsMet, IsOfRow, IsSearching}
use Rattle.reaching_defs.specs.HeldWords.{location_at, AreHeld}
use Rattle.reaching_defs.specs.Listings.{IsAmongFirst}
use Rattle.reaching_defs.specs.RowFlow.{row_has, Leads}
use Rattle.reaching_defs.specs.Stretches.{IsPairAmong, FlowsAmong}
use Rattle.reaching_defs.proofs.HeldLemmas.{bit_early, bit_there}
use Rattle.reaching_defs.proofs.ListingLemmas.{first_more, first_kept}
use Rattle.reaching_defs.proofs.RowSearchLemmas.{arrived}
use Rattle.reaching_defs.proofs.TargetLemmas.{AreWordsOf, member_is, member_below}

-- ---- a definition as it is taken from its row
module _ (t : Table) (d : Definition) (row : List ℕ) (words : AreWordsOf t.bits row (the_set t d.vertex)) (held : AreHeld row d.held.items d.words.items) where
  bit_is_ : (k : ℕ) → row_has t d.vertex k ≡ word_bit row k
  bit_is_ k = member_is t.bits row (the_set t d.vertex) words k

  sound_ : (b : ℕ) → word_bit d.words.items b ≡ true → row_has t d.vertex (location_at d.held.items b) ≡ true
  sound_ b h =
      let low : b / 64 < length d.held.items = (let e = bit_early d.words.items b h in omega (arith, e, held.long)) in
      bit_is_ (location_at d.held.items b) ∙ bit_there d.held.items row b ∙ ap (λ x. eqb (bit_at x (b % 64)) 1) (sym (held.same (b / 64) low)) ∙ h

  whole_ : (k : ℕ) → row_has t d.vertex k ≡ true → (b : ℕ) × (word_bit d.words.items b ≡ true) × (location_at d.held.items b ≡ k)
  whole_ k h =
      let set_ : word_bit row k ≡ true = sym (bit_is_ k) ∙ h in
      let low : k / 64 < length row = (let e = bit_early row k set_ in omega (arith, e)) in
      elim (held.whole (k / 64) low) [
        | inl z ↦ absurd (false≢true (sym (no_bit (get_or row (k / 64) 0) (k % 64) z) ∙ set_))
        | inr m ↦
            let j : ℕ = m.0 in
            let read : get_or d.held.items j 0 ≡ k / 64 = get_or_default d.held.items j 0 (k / 64) m.1 ∙ m.2 in
            let place : (64 * j + k % 64) / 64 ≡ j = omega arith in
            let part : (64 * j + k % 64) % 64 ≡ k % 64 = omega arith in
            let word : get_or d.words.items j 0 ≡ get_or row (k / 64) 0 = held.same j m.1 ∙ ap (λ i. get_or row i 0) read in
            let here : word_bit d.words.items (64 * j + k % 64) ≡ true =
            ap (λ i. eqb (bit_at (get_or d.words.items i 0) ((64 * j + k % 64) % 64)) 1) place ∙ ap (λ i. eqb (bit_at (get_or d.words.items j 0) i) 1) part ∙ ap (λ x. eqb (bit_at x (k % 64)) 1) word ∙ set_ in
            let at_ : location_at d.held.items (64 * j + k % 64) ≡ k =
            ap (λ i. 64 * get_or d.held.items i 0 + (64 * j + k % 64) % 64) place ∙ ap (λ i. 64 * get_or d.held.items j 0 + i) part ∙ ap (λ i. 64 * i + k % 64) read ∙ omega arith in
            (64 * j + k % 64, here, at_)
      ]

  pub of_row : IsOfRow t d
  of_row = record {
    long = held.long;
    inside = λ j low. omega (arith, held.inside j low, words.long);
    sound = sound_;
    whole = whole_;
    few = λ k h. member_below t.bits row (the_set t d.vertex) words k h;
  }

-- ---- vertex by vertex
module _ (reached : List ℕ) (at u : ℕ) (here : at < length reached) (is : get_or reached at u ≡ u) (old t : List ℕ) (Met : ℕ → Type 0) (before : (w : ℕ) → Contains t w ↔ (Contains old w ⊎ (IsAmongFirst reached at w × Met w))) where
  pub met_adds : Met u → (t' : List ℕ) → ((w : ℕ) → Contains t' w ↔ (Contains t w ⊎ (w ≡ u))) → (w : ℕ) → Contains t' w ↔ (Contains old w ⊎ (IsAmongFirst reached (at + 1) w × Met w))
  met_adds met t' added w = (
    λ h. elim ((added w).0 h) [
      | inl a ↦ elim ((before w).0 a) [ inl b ↦ inl b | inr b ↦ inr (first_kept reached at w b.0, b.1) ]
      | inr q ↦ inr (subst (IsAmongFirst reached (at + 1)) (sym q) (at, omega arith, is), subst Met (sym q) met)
    ],
    λ g. (added w).1 (elim g [
      | inl b ↦ inl ((before w).1 (inl b))
      | inr b ↦ elim (first_more reached at u w here is b.0) [
        | inl f ↦ inl ((before w).1 (inr (f, b.1)))
        | inr q ↦ inr (sym q)
      ]
    ]),
  )

  pub met_skips : (Met u → ⊥) → (w : ℕ) → Contains t w ↔ (Contains old w ⊎ (IsAmongFirst reached (at + 1) w × Met w))
  met_skips none w = (
    λ h. elim ((before w).0 h) [ inl b ↦ inl b | inr b ↦ inr (first_kept reached at w b.0, b.1) ],
    λ g. (before w).1 (elim g [
      | inl b ↦ inl b
      | inr b ↦ elim (first_more reached at u w here is b.0) [
        | inl f ↦ inr (f, b.1)
        | inr q ↦ absurd (none (subst Met (sym q) b.1))
      ]
    ]),
  )

pub met_begins : (reached old : List ℕ) (Met : ℕ → Type 0) (w : ℕ) → Contains old w ↔ (Contains old w ⊎ (IsAmongFirst reached 0 w × Met w))
met_begins reached old Met w = (λ h. inl h, λ g. elim g [ inl h ↦ h | inr b ↦ absurd (let low = b.0.1 in omega (arith, low)) ])

pub met_ends : (reached old t : List ℕ) (Met : ℕ → Type 0) (at : ℕ) → at ≡ length reached → ((w : ℕ) → Contains t w ↔ (Contains old w ⊎ (IsAmongFirst reached at w × Met w))) → (w : ℕ) → Contains t w ↔ (Contains old w ⊎ (Contains reached w × Met w))
met_ends reached old t Met at end all w = subst (λ k. Contains t w ↔ (Contains old w ⊎ (IsAmongFirst reached k w × Met w))) end (all w)

-- ---- what is met is where a location flows
module _ (next : Successors) (s : Skeleton) (d : Definition) (of : IsOfRow s.defined d) (among : All (IsPairAmong next.stretch.first next.stretch.size) next.pairs.items) (a : Arrivals) (search_ : IsSearching next s.killed d a) (still : (w : ℕ) → Contains a.grown.members w → ⊥) where
  met_flows : (w : ℕ) → IsMet next.stretch.first d a.rows s.used w → FlowsAmong 0 s.defined.bits s next.pairs.items d.vertex (next.stretch.first + w)
  met_flows w m =
      let r = search_.sound w m.bit m.here in
      let there = of.sound m.bit r.started in
      record {
        location = location_at d.held.items m.bit;
        above = omega arith;
        below = of.few (location_at d.held.items m.bit) there;
        flows = record { defined = there; used = m.there; chain = r.chain };
      }

  flows_met : (w : ℕ) → FlowsAmong 0 s.defined.bits s next.pairs.items d.vertex (next.stretch.first + w) → IsMet next.stretch.first d a.rows s.used w
  flows_met w f =
      let b = of.whole f.location f.flows.defined in
      let chain : Chain (Leads next.pairs.items) (row_has s.killed) (location_at d.held.items b.0) d.vertex (next.stretch.first + w) = subst (λ l. Chain (Leads next.pairs.items) (row_has s.killed) l d.vertex (next.stretch.first + w)) (sym b.2) f.flows.chain in
      record {
        bit = b.0;
        early = let e = bit_early d.words.items b.0 b.1 in omega (arith, e, of.long);
        here = arrived next s.killed d among a search_ still b.0 w (record { started = b.1; chain = chain });
        there = ap (λ l. row_has s.used (next.stretch.first + w) l) b.2 ∙ f.flows.used;
      }

  pub met_are : (old new : List ℕ) → ((w : ℕ) → Contains old w → ⊥) → ((w : ℕ) → Contains new w ↔ (Contains old w ⊎ (Contains a.reached.members w × IsMet next.stretch.first d a.rows s.used w))) → (w : ℕ) → Contains new w ↔ FlowsAmong 0 s.defined.bits s next.pairs.items d.vertex (next.stretch.first + w)
  met_are old new none exact w = (
    λ m. elim ((exact w).0 m) [
      | inl o ↦ absurd (none w o)
      | inr p ↦ met_flows w p.1
    ],
    λ f. let m = flows_met w f in (exact w).1 (inr (search_.listed w m.bit m.here, m)),
  )
