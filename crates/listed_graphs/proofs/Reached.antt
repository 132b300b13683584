-- What reaches a set of vertices by matched words is a set that can be found.
use Rattle.std.proofs.Common.{◌≡◌, ◌↔◌, ℕ, ◌<◌, ◌⊎◌, inl, inr, List, [], ◌∷◌, map, length, Bool, true, false, ◌&&◌, ◌==◌, refl, sym, ap, ◌∙◌, subst, arith, eq-eqb}
use Rattle.std.specs.Prelude.{IsTrue}
use Rattle.std.specs.List.{range_with_len}
use Rattle.std.proofs.lemmas.Bool.{cases_Bool, cases_eq, and_from, and_parts, eqb-true, false≢true}
use Rattle.std.proofs.lemmas.List.FromFn.{length-map-range_with_len, get_or-map-range_with_len}
use Rattle.bit_rows.specs.Sets.{has}
use Rattle.rule_closure.proofs.SetLemmas.{has_in_range}
use Rattle.dep_model.specs.declared.edge.Edge.{Edge}
use Rattle.dep_model.specs.declared.edge.Label.{Label}
use Rattle.dep_model.specs.declared.edge.Label.TheVariants.{Control, Flow, Call, In, Out}
use Rattle.dep_model.specs.Graphs.{edge}
use Rattle.dep_model.specs.Words.{Letter, Open, Close, letters, word, IsPath, Falls, Rises, ReachesAny}
use Rattle.dep_model.specs.Words as words
use Rattle.dep_model.proofs.Membership.{IsIn, in_of_contains, contains_of_in}
use Rattle.matched_paths.proofs.Levels.{Spelled, Level, stay, plain, call, split, first_letter, silent, level_of, path_of}
use Rattle.matched_paths.proofs.ReachLaws.{FallsToAny, falls_itself, falls_level, falls_open, reaches_falling, reaches_level, reaches_close}
use Rattle.listed_graphs.proofs.Growth.{search, IsNew, Grown, grow}
use Rattle.listed_graphs.proofs.Listings.{Two, two, all_pairs, pair_in, numbers_below, is_below, below_is}
use Rattle.listed_graphs.proofs.Chains.{same, alike, itself}

-- ---- letters of labels

-- an edge opens a call, or closes one
abbrev Opens : ℕ → Edge → Type 0
Opens c e = letters e.label ≡ Open c ∷ []

abbrev Closes : ℕ → Edge → Type 0
Closes c e = letters e.label ≡ Close c ∷ []

opens : (l : Label) → ((c : ℕ) × (letters l ≡ Open c ∷ [])) ⊎ ((c : ℕ) → letters l ≡ Open c ∷ [] → ⊥)
opens Control = inr (λ c h. cc)
opens Flow = inr (λ c h. cc)
opens (Call d) = inl (d, refl)
opens (In d) = inl (d, refl)
opens (Out d) = inr (λ c h. cc)

closes : (l : Label) → ((c : ℕ) × (letters l ≡ Close c ∷ [])) ⊎ ((c : ℕ) → letters l ≡ Close c ∷ [] → ⊥)
closes Control = inr (λ c h. cc)
closes Flow = inr (λ c h. cc)
closes (Call d) = inr (λ c h. cc)
closes (In d) = inr (λ c h. cc)
closes (Out d) = inl (d, refl)

is_silent : (l : Label) → (letters l ≡ []) ⊎ (letters l ≡ [] → ⊥)
is_silent Control = inl refl
is_silent Flow = inl refl
is_silent (Call c) = inr (λ h. cc)
is_silent (In c) = inr (λ h. cc)
is_silent (Out c) = inr (λ h. cc)

open_same : (c d : ℕ) (w : List Letter) → w ≡ Open c ∷ [] → w ≡ Open d ∷ [] → c ≡ d
open_same c d w h k = number_is (sym h ∙ k)
  where
    number_is : Open c ∷ [] ≡ Open d ∷ [] → c ≡ d
    number_is e = cc

close_same : (c d : ℕ) (w : List Letter) → w ≡ Close c ∷ [] → w ≡ Close d ∷ [] → c ≡ d
close_same c d w h k = number_is (sym h ∙ k)
  where
    number_is : Close c ∷ [] ≡ Close d ∷ [] → c ≡ d
    number_is e = cc

-- two edges enter a call and leave it
abbrev Crosses : Edge → Edge → Type 0
Crosses e h = (c : ℕ) × Opens c e × Closes c h

crosses : (e h : Edge) → Crosses e h ⊎ ((c : ℕ) → Opens c e → Closes c h → ⊥)
crosses e h = elim (opens e.label) [
  | inr none ↦ inr (λ c o k. none c o)
  | inl w ↦ elim (closes h.label) [
    | inr none ↦ inr (λ c o k. none c k)
    | inl v ↦ elim (cases_eq w.0 v.0) [
      | inl same_ ↦ inl (w.0, w.1, v.1 ∙ ap (λ n. Close n ∷ []) (sym same_))
      | inr other ↦ inr (λ c o k. other (open_same w.0 c (letters e.label) w.1 o ∙ close_same c v.0 (letters h.label) k v.1))
    ]
  ]
]

-- ---- pairs of numbers

abbrev Ends : Type 0
Ends = Two ℕ ℕ

abbrev same_ends : Ends → Ends → Bool
same_ends a b = (a.first == b.first) && (a.second == b.second)

alike_ends : (a b : Ends) → same_ends a b ≡ true → a ≡ b
alike_ends a b h =
    let both = and_parts (a.first == b.first) (a.second == b.second) h in
    ap (λ l. two l a.second) (eqb-true a.first b.first both.0) ∙ ap (two b.first) (eqb-true a.second b.second both.1)

ends_itself : (a : Ends) → same_ends a a ≡ true
ends_itself a = and_from (a.first == a.first) (a.second == a.second) (eq-eqb a.first a.first refl) (eq-eqb a.second a.second refl)

module _ (edges : List Edge) (n : ℕ) (bound : (e : Edge) → IsIn edges e → (e.from < n) × (e.to < n)) where
  -- ---- walks on one level

  spelled_in : {w : List Letter} {a b : ℕ} (s : Spelled edges w a b) → IsIn edges (edge a b s.label)
  spelled_in {w} {a} {b} s = in_of_contains edges (edge a b s.label) s.member

  level_end : {a b : ℕ} → Level edges a b → a < n → b < n
  level_end stay lt = lt
  level_end (plain s q) lt = level_end q (bound _ (spelled_in s)).1
  level_end (call c o i h q) lt = level_end q (bound _ (spelled_in h)).1

  abbrev Joined : Ends → Type 0
  Joined x = Level edges x.first x.second

  spelled_by : (e : Edge) (w : List Letter) → IsIn edges e → letters e.label ≡ w → Spelled edges w e.from e.to
  spelled_by e w at h = record { label = e.label; member = contains_of_in edges e at; spells = h }

  record AreLevels (test : Ends → Bool) : Type 0 where
    stays : (a : ℕ) → IsIn (numbers_below n) a → test (two a a) ≡ true
    goes_on : (e : Edge) → IsIn edges e → letters e.label ≡ [] → (c : ℕ) → IsIn (numbers_below n) c → test (two e.to c) ≡ true → test (two e.from c) ≡ true
    crosses_on : (e : Edge) → IsIn edges e → (h : Edge) → IsIn edges h → Crosses e h → (c : ℕ) → IsIn (numbers_below n) c → test (two e.to h.from) ≡ true → test (two h.to c) ≡ true → test (two e.from c) ≡ true

  abbrev all_ends : List Ends
  all_ends = all_pairs (numbers_below n) (numbers_below n)

  module _ (test : Ends → Bool) (sound : (x : Ends) → test x ≡ true → Joined x) where
    abbrev NewLevel : Type 0
    NewLevel = IsNew same_ends alike_ends ends_itself Joined all_ends test

    -- a walk is new, or known
    new_or_known : (a b : ℕ) → a < n → b < n → Level edges a b → NewLevel ⊎ (test (two a b) ≡ true)
    new_or_known a b low high walk = elim (cases_Bool (test (two a b))) [
      | inl there ↦ inr there
      | inr none ↦ inl (record {
        item = two a b;
        member = pair_in (numbers_below n) (numbers_below n) a b (below_is n a low) (below_is n b high);
        none = none;
        has = walk;
      })
    ]

    of_stays : NewLevel ⊎ ((a : ℕ) → IsIn (numbers_below n) a → test (two a a) ≡ true)
    of_stays = elim (search (λ a. test (two a a) ≡ true) (λ a. NewLevel) (numbers_below n) (λ a at.
        let low = is_below n a at in new_or_known a a low low stay)) [
          | inl w ↦ inl w.1
          | inr each ↦ inr each
        ]

    one_goes : (e : Edge) → IsIn edges e → letters e.label ≡ [] → NewLevel ⊎ ((c : ℕ) → IsIn (numbers_below n) c → test (two e.to c) ≡ true → test (two e.from c) ≡ true)
    one_goes e at silent_ = elim (search (λ c. test (two e.to c) ≡ true → test (two e.from c) ≡ true) (λ c. NewLevel) (numbers_below n) (λ c in_.
        elim (cases_Bool (test (two e.to c))) [
          | inr none ↦ inr (λ h. absurd (false≢true (sym none ∙ h)))
          | inl there ↦ elim (new_or_known e.from c (bound e at).0 (is_below n c in_) (plain (spelled_by e [] at silent_) (sound (two e.to c) there))) [
            | inl new ↦ inl new
            | inr known ↦ inr (λ h. known)
          ]
        ])) [
          | inl w ↦ inl w.1
          | inr each ↦ inr each
        ]

    of_goes : NewLevel ⊎ ((e : Edge) → IsIn edges e → letters e.label ≡ [] → (c : ℕ) → IsIn (numbers_below n) c → test (two e.to c) ≡ true → test (two e.from c) ≡ true)
    of_goes = elim (search (λ e. letters e.label ≡ [] → (c : ℕ) → IsIn (numbers_below n) c → test (two e.to c) ≡ true → test (two e.from c) ≡ true) (λ e. NewLevel) edges (λ e at.
        elim (is_silent e.label) [
          | inr not_ ↦ inr (λ s. absurd (not_ s))
          | inl s ↦ elim (one_goes e at s) [ inl new ↦ inl new | inr each ↦ inr (λ t. each) ]
        ])) [
          | inl w ↦ inl w.1
          | inr each ↦ inr each
        ]

    one_crosses : (e h : Edge) → IsIn edges e → IsIn edges h → Crosses e h → NewLevel ⊎ ((c : ℕ) → IsIn (numbers_below n) c → test (two e.to h.from) ≡ true → test (two h.to c) ≡ true → test (two e.from c) ≡ true)
    one_crosses e h at also k = elim (search (λ c. test (two e.to h.from) ≡ true → test (two h.to c) ≡ true → test (two e.from c) ≡ true) (λ c. NewLevel) (numbers_below n) (λ c in_.
        elim (cases_Bool (test (two e.to h.from))) [
          | inr none ↦ inr (λ x y. absurd (false≢true (sym none ∙ x)))
          | inl inside ↦ elim (cases_Bool (test (two h.to c))) [
            | inr none ↦ inr (λ x y. absurd (false≢true (sym none ∙ y)))
            | inl behind ↦ elim (new_or_known e.from c (bound e at).0 (is_below n c in_)
                (call k.0 (spelled_by e (Open k.0 ∷ []) at k.1) (sound (two e.to h.from) inside) (spelled_by h (Close k.0 ∷ []) also k.2) (sound (two h.to c) behind))) [
                  | inl new ↦ inl new
                  | inr known ↦ inr (λ x y. known)
                ]
          ]
        ])) [
          | inl w ↦ inl w.1
          | inr each ↦ inr each
        ]

    abbrev AllCross : Edge → Edge → Type 0
    AllCross e h = Crosses e h → (c : ℕ) → IsIn (numbers_below n) c → test (two e.to h.from) ≡ true → test (two h.to c) ≡ true → test (two e.from c) ≡ true

    of_crosses : NewLevel ⊎ ((e : Edge) → IsIn edges e → (h : Edge) → IsIn edges h → AllCross e h)
    of_crosses = elim (search (λ e. (h : Edge) → IsIn edges h → AllCross e h) (λ e. NewLevel) edges (λ e at.
        elim (search (AllCross e) (λ h. NewLevel) edges (λ h also.
        elim (crosses e h) [
          | inr none ↦ inr (λ k. absurd (none k.0 k.1 k.2))
          | inl k ↦ elim (one_crosses e h at also k) [ inl new ↦ inl new | inr each ↦ inr (λ t. each) ]
        ])) [
          | inl w ↦ inl w.1
          | inr each ↦ inr each
        ])) [
          | inl w ↦ inl w.1
          | inr each ↦ inr each
        ]

    level_step : NewLevel ⊎ AreLevels test
    level_step = elim of_stays [
      | inl new ↦ inl new
      | inr stays ↦ elim of_goes [
        | inl new ↦ inl new
        | inr goes ↦ elim of_crosses [
          | inl new ↦ inl new
          | inr cross ↦ inr (record { stays = stays; goes_on = goes; crosses_on = cross })
        ]
      ]
    ]

  levels : Grown same_ends alike_ends ends_itself Joined AreLevels
  levels = grow same_ends alike_ends ends_itself Joined all_ends AreLevels level_step

  -- each walk from a number below n is known
  known : (test : Ends → Bool) → AreLevels test → {a b : ℕ} → Level edges a b → a < n → test (two a b) ≡ true
  known test are (stay {a = a}) lt = are.stays a (below_is n a lt)
  known test are (plain {a = a} {b = b} {c = c} s q) lt =
      let low = (bound _ (spelled_in s)).1 in
      are.goes_on (edge a b s.label) (spelled_in s) s.spells c (below_is n c (level_end q low)) (known test are q low)
  known test are (call {a = a} {b = b} {c = c} {d = d} {e = e} k o i h q) lt =
      let low = (bound _ (spelled_in o)).1 in
      let out = (bound _ (spelled_in h)).1 in
      are.crosses_on (edge a b o.label) (spelled_in o) (edge c d h.label) (spelled_in h) (k, o.spells, h.spells) e (below_is n e (level_end q out)) (known test are i low) (known test are q out)

  -- ---- walks that go back along levels and along some edges

  module _ (Along : Edge → Type 0) (along : (e : Edge) → Along e ⊎ (Along e → ⊥)) (begins : ℕ → Bool) (P : ℕ → Type 0)
      (at_begin : (v : ℕ) → begins v ≡ true → P v) (by_level : (a b : ℕ) → Level edges a b → P b → P a) (by_edge : (e : Edge) → IsIn edges e → Along e → P e.to → P e.from) where
    record IsBack (test : ℕ → Bool) : Type 0 where
      first : (v : ℕ) → IsIn (numbers_below n) v → begins v ≡ true → test v ≡ true
      on_level : (a : ℕ) → IsIn (numbers_below n) a → (b : ℕ) → IsIn (numbers_below n) b → levels.test (two a b) ≡ true → test b ≡ true → test a ≡ true
      on_edge : (e : Edge) → IsIn edges e → Along e → test e.to ≡ true → test e.from ≡ true

    module _ (test : ℕ → Bool) (sound : (v : ℕ) → test v ≡ true → P v) where
      abbrev New : Type 0
      New = IsNew same alike itself P (numbers_below n) test

      new_or_there : (v : ℕ) → v < n → P v → New ⊎ (test v ≡ true)
      new_or_there v low h = elim (cases_Bool (test v)) [
        | inl there ↦ inr there
        | inr none ↦ inl (record { item = v; member = below_is n v low; none = none; has = h })
      ]

      of_first : New ⊎ ((v : ℕ) → IsIn (numbers_below n) v → begins v ≡ true → test v ≡ true)
      of_first = elim (search (λ v. begins v ≡ true → test v ≡ true) (λ v. New) (numbers_below n) (λ v at.
          elim (cases_Bool (begins v)) [
            | inr none ↦ inr (λ h. absurd (false≢true (sym none ∙ h)))
            | inl begun ↦ elim (new_or_there v (is_below n v at) (at_begin v begun)) [ inl new ↦ inl new | inr there ↦ inr (λ h. there) ]
          ])) [
            | inl w ↦ inl w.1
            | inr each ↦ inr each
          ]

      abbrev OnLevel : ℕ → ℕ → Type 0
      OnLevel a b = levels.test (two a b) ≡ true → test b ≡ true → test a ≡ true

      one_level : (a b : ℕ) → a < n → New ⊎ OnLevel a b
      one_level a b low = elim (cases_Bool (levels.test (two a b))) [
        | inr none ↦ inr (λ x y. absurd (false≢true (sym none ∙ x)))
        | inl walk ↦ elim (cases_Bool (test b)) [
          | inr none ↦ inr (λ x y. absurd (false≢true (sym none ∙ y)))
          | inl there ↦ elim (new_or_there a low (by_level a b (levels.sound (two a b) walk) (sound b there))) [ inl new ↦ inl new | inr known_ ↦ inr (λ x y. known_) ]
        ]
      ]

      of_level : New ⊎ ((a : ℕ) → IsIn (numbers_below n) a → (b : ℕ) → IsIn (numbers_below n) b → OnLevel a b)
      of_level = elim (search (λ a. (b : ℕ) → IsIn (numbers_below n) b → OnLevel a b) (λ a. New) (numbers_below n) (λ a at.
          elim (search (OnLevel a) (λ b. New) (numbers_below n) (λ b also. one_level a b (is_below n a at))) [
            | inl w ↦ inl w.1
            | inr each ↦ inr each
          ])) [
            | inl w ↦ inl w.1
            | inr each ↦ inr each
          ]

      of_edge : New ⊎ ((e : Edge) → IsIn edges e → Along e → test e.to ≡ true → test e.from ≡ true)
      of_edge = elim (search (λ e. Along e → test e.to ≡ true → test e.from ≡ true) (λ e. New) edges (λ e at.
          elim (along e) [
            | inr not_ ↦ inr (λ x y. absurd (not_ x))
            | inl so ↦ elim (cases_Bool (test e.to)) [
              | inr none ↦ inr (λ x y. absurd (false≢true (sym none ∙ y)))
              | inl there ↦ elim (new_or_there e.from (bound e at).0 (by_edge e at so (sound e.to there))) [ inl new ↦ inl new | inr known_ ↦ inr (λ x y. known_) ]
            ]
          ])) [
            | inl w ↦ inl w.1
            | inr each ↦ inr each
          ]

      back_step : New ⊎ IsBack test
      back_step = elim of_first [
        | inl new ↦ inl new
        | inr first ↦ elim of_level [
          | inl new ↦ inl new
          | inr level ↦ elim of_edge [
            | inl new ↦ inl new
            | inr edge_ ↦ inr (record { first = first; on_level = level; on_edge = edge_ })
          ]
        ]
      ]

    back : Grown same alike itself P IsBack
    back = grow same alike itself P (numbers_below n) IsBack back_step

    -- what is found goes back along each walk on a level
    back_level : {a b : ℕ} → Level edges a b → a < n → back.test b ≡ true → back.test a ≡ true
    back_level {a} {b} walk low h =
        back.closed.on_level a (below_is n a low) b (below_is n b (level_end walk low)) (known levels.test levels.closed walk low) h

  -- ---- the two passes

  module _ (s : List Bool) (size : length s ≡ n) where
    abbrev AlongOpen : Edge → Type 0
    AlongOpen e = (c : ℕ) × Opens c e

    abbrev AlongClose : Edge → Type 0
    AlongClose e = (c : ℕ) × Closes c e

    along_open : (e : Edge) → AlongOpen e ⊎ (AlongOpen e → ⊥)
    along_open e = elim (opens e.label) [ inl w ↦ inl w | inr none ↦ inr (λ w. none w.0 w.1) ]

    along_close : (e : Edge) → AlongClose e ⊎ (AlongClose e → ⊥)
    along_close e = elim (closes e.label) [ inl w ↦ inl w | inr none ↦ inr (λ w. none w.0 w.1) ]

    falls_back : (a b : ℕ) → Level edges a b → FallsToAny edges s b → FallsToAny edges s a
    falls_back a b walk h = falls_level edges s a b (path_of walk) h

    falls_by : (e : Edge) → IsIn edges e → AlongOpen e → FallsToAny edges s e.to → FallsToAny edges s e.from
    falls_by e at w h = falls_open edges s w.0 e.from e.to (spelled_by e (Open w.0 ∷ []) at w.1) h

    -- what falls to the set
    abbrev falling : Grown same alike itself (FallsToAny edges s) (IsBack AlongOpen along_open (has s) (FallsToAny edges s) (falls_itself edges s) falls_back falls_by)
    falling = back AlongOpen along_open (has s) (FallsToAny edges s) (falls_itself edges s) falls_back falls_by

    rises_begin : (v : ℕ) → falling.test v ≡ true → ReachesAny edges s v
    rises_begin v h = reaches_falling edges s v (falling.sound v h)

    rises_back : (a b : ℕ) → Level edges a b → ReachesAny edges s b → ReachesAny edges s a
    rises_back a b walk h = reaches_level edges s a b (path_of walk) h

    rises_by : (e : Edge) → IsIn edges e → AlongClose e → ReachesAny edges s e.to → ReachesAny edges s e.from
    rises_by e at w h = reaches_close edges s w.0 e.from e.to (spelled_by e (Close w.0 ∷ []) at w.1) h

    -- what rises to that
    abbrev rising : Grown same alike itself (ReachesAny edges s) (IsBack AlongClose along_close falling.test (ReachesAny edges s) rises_begin rises_back rises_by)
    rising = back AlongClose along_close falling.test (ReachesAny edges s) rises_begin rises_back rises_by

    falling_level : {a b : ℕ} → Level edges a b → a < n → falling.test b ≡ true → falling.test a ≡ true
    falling_level walk low h = back_level AlongOpen along_open (has s) (FallsToAny edges s) (falls_itself edges s) falls_back falls_by walk low h

    rising_level : {a b : ℕ} → Level edges a b → a < n → rising.test b ≡ true → rising.test a ≡ true
    rising_level walk low h = back_level AlongClose along_close falling.test (ReachesAny edges s) rises_begin rises_back rises_by walk low h

    all_falling : {w : List Letter} → Falls w → (es : List Edge) (a b : ℕ) → IsPath edges a es b → word es ≡ w → a < n → falling.test b ≡ true → falling.test a ≡ true
    all_falling words.flat es a b p e low h = falling_level (silent edges es a b p e) low h
    all_falling (words.level {w = w} {x = x} m f) es a b p e low h =
        let c = split edges es a b w x p e in
        let walk = level_of m edges c.front a c.middle c.front_joins c.front_spells in
        falling_level walk low (all_falling f c.back c.middle b c.back_joins c.back_spells (level_end walk low) h)
    all_falling (words.open_ c {x = x} f) es a b p e low h =
        let l = first_letter edges es a b (Open c) x p e in
        let at = spelled_in l.letter in
        falling_level l.before low (falling.closed.on_edge (edge l.at l.next l.letter.label) at (c, l.letter.spells) (all_falling f l.rest l.next b l.joins l.spells (bound _ at).1 h))

    all_rising : {w : List Letter} → Rises w → (es : List Edge) (a b : ℕ) → IsPath edges a es b → word es ≡ w → a < n → rising.test b ≡ true → rising.test a ≡ true
    all_rising words.flat es a b p e low h = rising_level (silent edges es a b p e) low h
    all_rising (words.level {w = w} {x = x} m f) es a b p e low h =
        let c = split edges es a b w x p e in
        let walk = level_of m edges c.front a c.middle c.front_joins c.front_spells in
        rising_level walk low (all_rising f c.back c.middle b c.back_joins c.back_spells (level_end walk low) h)
    all_rising (words.close c {x = x} f) es a b p e low h =
        let l = first_letter edges es a b (Close c) x p e in
        let at = spelled_in l.letter in
        rising_level l.before low (rising.closed.on_edge (edge l.at l.next l.letter.label) at (c, l.letter.spells) (all_rising f l.rest l.next b l.joins l.spells (bound _ at).1 h))

    -- ---- the set

    path_start : (es : List Edge) (a b : ℕ) → IsPath edges a es b → b < n → a < n
    path_start [] a b j h = subst (λ x. x < n) (sym j) h
    path_start (e ∷ es) a b j h = subst (λ x. x < n) j.1 (bound e (in_of_contains edges e j.0)).0

    path_end : (es : List Edge) (a b : ℕ) → IsPath edges a es b → a < n → b < n
    path_end [] a b j h = subst (λ x. x < n) j h
    path_end (e ∷ es) a b j h = path_end es e.to b j.2 (bound e (in_of_contains edges e j.0)).1

    all_reaching : (a : ℕ) → ReachesAny edges s a → (a < n) × (rising.test a ≡ true)
    all_reaching a r =
        let q = r.reaches in
        let goal : r.goal < n = (let low = has_in_range s r.goal r.wanted in omega (arith, low, size)) in
        let low = path_start q.path a r.goal q.joins goal in
        let c = split edges q.path a r.goal q.up q.down q.joins q.spells in
        let middle = path_end c.front a c.middle c.front_joins low in
        let end = falling.closed.first r.goal (below_is n r.goal goal) r.wanted in
        let turn = all_falling q.falls c.back c.middle r.goal c.back_joins c.back_spells middle end in
        (low, all_rising q.rises c.front a c.middle c.front_joins c.front_spells low (rising.closed.first c.middle (below_is n c.middle middle) turn))

    pub reached : List Bool
    reached = map rising.test (range_with_len 0 n)

    pub reached_size : length reached ≡ length s
    unfolding reached
    reached_size = length-map-range_with_len rising.test 0 n ∙ sym size

    has_reached : (v : ℕ) → v < n → has reached v ≡ rising.test v
    unfolding reached
    has_reached v low = get_or-map-range_with_len rising.test 0 n v v false low (omega arith)

    pub reached_exact : (v : ℕ) → IsTrue (has reached v) ↔ ReachesAny edges s v
    reached_exact v = (
      λ h. let low = has_in_range reached v h in
          let below_n : v < n = (let long = reached_size in omega (arith, low, long, size)) in
          rising.sound v (sym (has_reached v below_n) ∙ h),
      λ r. let w = all_reaching v r in has_reached v w.0 ∙ w.1,
    )
