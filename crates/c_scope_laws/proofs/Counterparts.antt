-- The phrases of a thinner text, and what each stands for in the text.
use Rattle.std.proofs.Common.{ℕ, zero, suc, [], ◌∷◌, ◌++◌, subst, arith, inl, inr}
use Rattle.std.specs.Prelude.{Contains}
use Rattle.std.proofs.lemmas.List.Elements.{Contains-append_cases, Contains-append_left, Contains-append_right}
use Rattle.c_tree.specs.declared.raw.program.RawProgram.{RawProgram}
use Rattle.c_language.specs.Words.{Bytes}
use Rattle.c_language.specs.Scopes.{Scope}
use Rattle.c_language.specs.Phrases.{Part, Phrase, Phrases, phrase}
use Rattle.c_language.specs.Rules.{Breaks}
use Rattle.c_language.proofs.Lists.{contains_first}
use Rattle.c_scope_laws.specs.Agreement.{Names, NamesFunction, DeclaresName, DeclaresHead, PlacesAgree, PartsAgree}
use Rattle.kept_numbers.specs.Ranks.{rank}
use Rattle.projection.specs.Kept.{Kept}
use Rattle.c_scope_laws.specs.Thinning.{heads_of}
use Rattle.c_scope_laws.proofs.RulesAgreement.{breaks_moves}

module _ (k : Kept Bytes) (raw other : RawProgram) where
  -- the phrase of the text for which one of the thinner text stands, among these
  pub record Counterpart (q : Phrase) (ps : Phrases) : Type 0 where
    pub phrase : Phrase
    pub stands : Contains ps phrase
    pub parts : PartsAgree (heads_of k) raw other phrase.scope phrase.part q.part
    pub places : PlacesAgree (heads_of k) (rank k.variable) (Names q.part) (NamesFunction q.part) (DeclaresName q.part) (DeclaresHead q.part) raw other phrase.scope q.scope

  -- each phrase stands for one of these
  abbrev pub AreCounterparts : Phrases → Phrases → Type 0
  AreCounterparts qs ps = (q : Phrase) → Contains qs q → Counterpart q ps

  move : {q : Phrase} {ps ts : Phrases} → ((p : Phrase) → Contains ps p → Contains ts p) → Counterpart q ps → Counterpart q ts
  move h c = record { phrase = c.phrase; stands = h c.phrase c.stands; parts = c.parts; places = c.places }

  pub none_stand : (ps : Phrases) → AreCounterparts [] ps
  none_stand ps q (i, within, is) = absurd (omega (arith, within))

  pub one_stands : (l m : ℕ) (scope next : Scope) (part changed : Part) → PartsAgree (heads_of k) raw other scope part changed
      → PlacesAgree (heads_of k) (rank k.variable) (Names changed) (NamesFunction changed) (DeclaresName changed) (DeclaresHead changed) raw other scope next
      → AreCounterparts (phrase m next changed ∷ []) (phrase l scope part ∷ [])
  one_stands l m scope next part changed a fit q (zero, within, is) =
      subst (λ (q : Phrase). Counterpart q (phrase l scope part ∷ [])) is (record { phrase = phrase l scope part; stands = contains_first (phrase l scope part) []; parts = a; places = fit })
  one_stands l m scope next part changed a fit q (suc i, within, is) = absurd (omega (arith, within))

  pub both_stand : (qs rs ps ts : Phrases) → AreCounterparts qs ps → AreCounterparts rs ts → AreCounterparts (qs ++ rs) (ps ++ ts)
  both_stand qs rs ps ts h j q c = elim (Contains-append_cases qs rs q c) [
    | inl c ↦ move (Contains-append_left ps ts) (h q c)
    | inr c ↦ move (Contains-append_right ps ts) (j q c)
  ]

  -- nothing stays of the front, or of the rest
  pub front_gone : (rs ps ts : Phrases) → AreCounterparts rs ts → AreCounterparts rs (ps ++ ts)
  front_gone rs ps ts h q c = move (Contains-append_right ps ts) (h q c)

  pub rest_gone : (qs ps ts : Phrases) → AreCounterparts qs ps → AreCounterparts qs (ps ++ ts)
  rest_gone qs ps ts h q c = move (Contains-append_left ps ts) (h q c)

  pub no_more : (qs ps : Phrases) → AreCounterparts qs ps → AreCounterparts (qs ++ []) ps
  no_more qs ps h q c = elim (Contains-append_cases qs [] q c) [
    | inl c ↦ h q c
    | inr c ↦ none_stand ps q c
  ]

  -- a rule that is broken by one of the thinner text's is broken by one of the text's
  pub counterpart_breaks : {q : Phrase} {ps : Phrases} {n : ℕ} (c : Counterpart q ps) → Breaks other q.scope q.part n → Breaks raw c.phrase.scope c.phrase.part n
  counterpart_breaks {q} c h =
      breaks_moves (heads_of k) (rank k.variable) (Names q.part) (NamesFunction q.part) (DeclaresName q.part) (DeclaresHead q.part) raw other c.phrase.scope q.scope c.places c.parts (record { names = λ x k. k; heads = λ x k. k; declares = λ x k. k; declares_head = λ x k. k }) h
