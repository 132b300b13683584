-- What a search by rows keeps from visit to visit, and that at its end it has what chains bring.
use Rattle.std.proofs.Common.{◌≡◌, ℕ, ◌+◌, ◌-◌, ◌*◌, ◌<◌, ◌≤◌, ◌⊎◌, inl, inr, true, false, List, length, get_or, Contains, All, refl, sym, ap, ◌∙◌, subst, arith}
use Rattle.std.proofs.lemmas.Bool.{cases_eq, cases_lt}
use Rattle.std.proofs.lemmas.List.{get_or_default}
use Rattle.bit_rows.specs.Tables.{Table, Holds, count_all}
use Rattle.bit_rows.specs.Words.{word_bit}
use Rattle.dep_model.specs.declared.skeleton.Pair.{Pair}
use Rattle.dep_model.specs.Follows.{Chain, last, more}
use Rattle.reaching_defs.specs.declared.arrivals.Arrivals.{Arrivals}
use Rattle.reaching_defs.specs.declared.definition.Definition.{Definition}
use Rattle.reaching_defs.specs.declared.successors.Successors.{Successors}
use Rattle.reaching_defs.specs.Arrivals.{IsRoomy, IsBare, HasGained, IsSearching, Arrives, Passes}
use Rattle.reaching_defs.specs.HeldWords.{location_at}
use Rattle.reaching_defs.specs.RowFlow.{row_has, Leads}
use Rattle.reaching_defs.specs.Stretches.{IsPairAmong, IsLastFrom}
use Rattle.reaching_defs.proofs.ArrivalLemmas.{gained_none, gained_weaker, gained_twice}
use Rattle.reaching_defs.proofs.HeldLemmas.{bit_early}
use Rattle.reaching_defs.proofs.ListingLemmas.{at_place}
use Rattle.reaching_defs.proofs.SearchLemmas.{leads_among}

-- ---- the vertices that follow one, visited pair by pair
pub record IsJoining (base : ℕ) (pairs : List Pair) (v : ℕ) (words : List ℕ) (old : Arrivals) (cursor : ℕ) (new : Arrivals) : Type 0 where
  pub within : cursor ≤ length pairs
  pub here : 0 < cursor → (x : Pair) → get_or pairs (cursor - 1) x ≡ x → x.from ≡ v
  pub past : (e : ℕ) (x : Pair) → cursor ≤ e → e < length pairs → get_or pairs e x ≡ x → x.from ≡ v → (t : ℕ) → word_bit words t ≡ true → Holds new.rows (x.to - base) t
  pub gained : HasGained (λ w t. Leads pairs v (base + w) × (word_bit words t ≡ true)) old new

module _ (base : ℕ) (pairs : List Pair) (v : ℕ) (words : List ℕ) (old : Arrivals) where
  pub joining_begins : (cursor : ℕ) → IsRoomy old → IsLastFrom pairs v (length pairs) cursor → IsJoining base pairs v words old cursor old
  joining_begins cursor r l = record {
    within = l.below;
    here = l.here;
    past = λ e x low high at from. absurd (l.above e x low high at from);
    gained = gained_none (λ w t. Leads pairs v (base + w) × (word_bit words t ≡ true)) old r;
  }

  pub joining_moves : (cursor next : ℕ) (x : Pair) (a b : Arrivals) → IsJoining base pairs v words old cursor a → 0 < cursor → get_or pairs (cursor - 1) x ≡ x → IsLastFrom pairs x.from (cursor - 1) next → base ≤ x.to → HasGained (λ u t. (u ≡ x.to - base) × (word_bit words t ≡ true)) a b → ((t : ℕ) → word_bit words t ≡ true → Holds b.rows (x.to - base) t) → IsJoining base pairs v words old next b
  joining_moves cursor next x a b i pos at l low more_ all =
      let from_v : x.from ≡ v = i.here pos x at in
      record {
        within = omega (arith, l.below, i.within);
        here = λ p y q. l.here p y q ∙ from_v;
        past = λ e y early high q f t h.
            elim (cases_lt e (cursor - 1)) [
              | inl before ↦ absurd (l.above e y early before q (f ∙ sym from_v))
              | inr after ↦ elim (cases_eq e (cursor - 1)) [
                | inl same ↦
                    let one : y ≡ x = sym q ∙ get_or_default pairs e y x high ∙ ap (λ j. get_or pairs j x) same ∙ at in
                    subst (λ (m : Pair). Holds b.rows (m.to - base) t) (sym one) (all t h)
                | inr other ↦ more_.kept (y.to - base) t (i.past e y (omega arith) high q f t h)
              ]
            ];
        gained = gained_twice (λ w t. Leads pairs v (base + w) × (word_bit words t ≡ true)) old a b i.gained
            (gained_weaker (λ u t. (u ≡ x.to - base) × (word_bit words t ≡ true)) (λ w t. Leads pairs v (base + w) × (word_bit words t ≡ true)) a b (λ w t p. (leads w p.0, p.1)) more_);
      }
    where
      leads : (w : ℕ) → w ≡ x.to - base → Leads pairs v (base + w)
      leads w q =
          let from_v : x.from ≡ v = i.here pos x at in
          let e : x.to ≡ base + w = omega (arith, q, low) in
          let is : x ≡ record { from = v; to = base + w } = ap (λ (f : ℕ). let r : Pair = record { from = f; to = x.to } in r) from_v ∙ ap (λ (t : ℕ). let r : Pair = record { from = v; to = t } in r) e in
          let member : Contains pairs x = (cursor - 1, omega (arith, i.within, pos), at) in
          subst (Contains pairs) is member

  pub joining_ends : (a : Arrivals) → IsJoining base pairs v words old 0 a → (w t : ℕ) → Leads pairs v (base + w) → word_bit words t ≡ true → Holds a.rows w t
  joining_ends a i w t m h =
      let x : Pair = record { from = v; to = base + w } in
      let back : (base + w) - base ≡ w = omega arith in
      subst (λ y. Holds a.rows y t) back (i.past m.0 x (omega arith) m.1 m.2 refl t h)

-- where a row is listed that wasn't, more is held than before
pub grew : (because : ℕ → ℕ → Type 0) (old a : Arrivals) → HasGained because old a → ((w : ℕ) → Contains old.grown.members w → ⊥) → 0 < length a.grown.members → count_all old.rows < count_all a.rows
grew because old a g none some =
    let m = at_place a.grown.members 0 some in
    elim (g.more (get_or a.grown.members 0 0) m) [
      | inl o ↦ absurd (none (get_or a.grown.members 0 0) o)
      | inr up ↦ up
    ]

-- ---- a turn: each vertex that has grown is gone on from
module _ (next : Successors) (killed : Table) (d : Definition) where
  -- a chain goes on by a pair
  on_by : {l a u w : ℕ} → Chain (Leads next.pairs.items) (row_has killed) l a u → row_has killed u l ≡ false → Leads next.pairs.items u w → Chain (Leads next.pairs.items) (row_has killed) l a w
  on_by (last h) k m = more h k (last m)
  on_by (more h j c) k m = more h j (on_by c k m)

  pub arrives_on : (u w t : ℕ) → Arrives next.pairs.items killed d (next.stretch.first + u) t → row_has killed (next.stretch.first + u) (location_at d.held.items t) ≡ false → Leads next.pairs.items (next.stretch.first + u) (next.stretch.first + w) → Arrives next.pairs.items killed d (next.stretch.first + w) t
  arrives_on u w t a k m = record { started = a.started; chain = on_by a.chain k m }

  -- why a row gains where a turn goes on from u
  abbrev pub Follows : Arrivals → ℕ → ℕ → ℕ → Type 0
  Follows a u w t = Leads next.pairs.items (next.stretch.first + u) (next.stretch.first + w) × Passes next.stretch.first killed a.rows d.held.items u t

  -- the first `count` of the vertices that had grown have been gone on from
  pub record IsTurning (turn : List ℕ) (old : Arrivals) (count : ℕ) (a : Arrivals) : Type 0 where
    pub gained : HasGained (λ w t. Arrives next.pairs.items killed d (next.stretch.first + w) t) old a
    pub done : (i w t : ℕ) → i < count → Passes next.stretch.first killed a.rows d.held.items (get_or turn i 0) t → Leads next.pairs.items (next.stretch.first + get_or turn i 0) (next.stretch.first + w) → Contains a.grown.members (get_or turn i 0) ⊎ Holds a.rows w t

  module _ (turn : List ℕ) (old : Arrivals) (sound : (w t : ℕ) → Holds old.rows w t → Arrives next.pairs.items killed d (next.stretch.first + w) t) where
    pub turning_begins : IsRoomy old → IsTurning turn old 0 old
    turning_begins r = record {
      gained = gained_none (λ w t. Arrives next.pairs.items killed d (next.stretch.first + w) t) old r;
      done = λ i w t low. absurd (omega (arith, low));
    }

    sound_now : (count : ℕ) (a : Arrivals) → IsTurning turn old count a → (w t : ℕ) → Holds a.rows w t → Arrives next.pairs.items killed d (next.stretch.first + w) t
    sound_now count a i w t h = elim (i.gained.sound w t h) [ inl o ↦ sound w t o | inr r ↦ r ]

    pub turning_moves : (count : ℕ) (a b : Arrivals) → length d.words.items ≡ length d.held.items → IsTurning turn old count a → HasGained (Follows a (get_or turn count 0)) a b → ((w t : ℕ) → t < 64 * length d.held.items → Follows a (get_or turn count 0) w t → Holds b.rows w t) → IsTurning turn old (count + 1) b
    turning_moves count a b long i g all =
        let u = get_or turn count 0 in
        record {
          gained = gained_twice (λ w t. Arrives next.pairs.items killed d (next.stretch.first + w) t) old a b i.gained
              (gained_weaker (Follows a u) (λ w t. Arrives next.pairs.items killed d (next.stretch.first + w) t) a b (λ w t f. arrives_on u w t (sound_now count a i u t f.1.come) f.1.open_ f.0) g);
          done = λ j w t low p m. elim (g.noted (get_or turn j 0) t p.come) [
            | inl before ↦ elim (cases_eq j count) [
              | inl q ↦
                  let same : get_or turn j 0 ≡ u = ap (λ k. get_or turn k 0) q in
                  let m' : Leads next.pairs.items (next.stretch.first + u) (next.stretch.first + w) = subst (λ x. Leads next.pairs.items (next.stretch.first + x) (next.stretch.first + w)) same m in
                  let come : Holds a.rows u t = subst (λ x. Holds a.rows x t) same before in
                  let open' : row_has killed (next.stretch.first + u) (location_at d.held.items t) ≡ false = subst (λ x. row_has killed (next.stretch.first + x) (location_at d.held.items t) ≡ false) same p.open_ in
                  let early = bit_early d.words.items t (sound_now count a i u t come).started in
                  inr (all w t (omega (arith, early, long)) (m', record { come = come; open_ = open' }))
              | inr q ↦ elim (i.done j w t (omega (arith, low, q)) (record { come = before; open_ = p.open_ }) m) [
                | inl waits ↦ inl (g.grown_stay (get_or turn j 0) waits)
                | inr there ↦ inr (g.kept w t there)
              ]
            ]
            | inr listed ↦ inl listed.0
          ];
        }

  -- at the end of a turn the search stands as before it, with the vertices that have grown in it
  module _ (turn : List ℕ) (before old a : Arrivals) (s : IsSearching next killed d before) (rows_are : old.rows ≡ before.rows) (reached_are : old.reached ≡ before.reached) (turn_is : (w : ℕ) → Contains before.grown.members w → Contains turn w) where
    was : (w t : ℕ) → Holds old.rows w t → Holds before.rows w t
    was w t h = subst (λ x. Holds x w t) rows_are h

    is_ : (w t : ℕ) → Holds before.rows w t → Holds old.rows w t
    is_ w t h = subst (λ x. Holds x w t) (sym rows_are) h

    pub old_sound : (w t : ℕ) → Holds old.rows w t → Arrives next.pairs.items killed d (next.stretch.first + w) t
    old_sound w t h = s.sound w t (was w t h)

    pub turning_ends : (count : ℕ) → IsTurning turn old count a → length turn ≤ count → IsSearching next killed d a
    turning_ends count i end = record {
      roomy = i.gained.roomy;
      wide = i.gained.bound_stays ∙ ap (λ r. r.bound) reached_are ∙ s.wide;
      fits = let same = i.gained.bits_stay ∙ ap (λ (x : Table). x.bits) rows_are in omega (arith, same, s.fits);
      sound = λ w t h. elim (i.gained.sound w t h) [ inl o ↦ old_sound w t o | inr r ↦ r ];
      seeds = λ w t h m. i.gained.kept w t (is_ w t (s.seeds w t h m));
      listed = λ w t h. elim (i.gained.noted w t h) [
        | inl o ↦ i.gained.reached_stay w (subst (λ r. Contains r.members w) (sym reached_are) (s.listed w t (was w t o)))
        | inr m ↦ m.1
      ];
      settled = λ u w t p m. elim (i.gained.noted u t p.come) [
        | inl o ↦ elim (s.settled u w t (record { come = was u t o; open_ = p.open_ }) m) [
          | inl waited ↦
              let there = turn_is u waited in
              let same : get_or turn there.0 0 ≡ u = get_or_default turn there.0 0 u there.1 ∙ there.2 in
              let come : Holds a.rows (get_or turn there.0 0) t = subst (λ x. Holds a.rows x t) (sym same) p.come in
              let open' : row_has killed (next.stretch.first + get_or turn there.0 0) (location_at d.held.items t) ≡ false = subst (λ x. row_has killed (next.stretch.first + x) (location_at d.held.items t) ≡ false) (sym same) p.open_ in
              let m' : Leads next.pairs.items (next.stretch.first + get_or turn there.0 0) (next.stretch.first + w) = subst (λ x. Leads next.pairs.items (next.stretch.first + x) (next.stretch.first + w)) (sym same) m in
              elim (i.done there.0 w t (omega (arith, there.1, end)) (record { come = come; open_ = open' }) m') [
                | inl waits ↦ inl (subst (Contains a.grown.members) same waits)
                | inr h ↦ inr h
              ]
          | inr h ↦ inr (i.gained.kept w t (is_ w t h))
        ]
        | inr listed ↦ inl listed.0
      ];
    }

  -- ---- the begin: what follows the definition has all of it
  pub search_begins : (u : ℕ) (old a : Arrivals) → next.stretch.first + u ≡ d.vertex → old.reached.bound ≡ next.stretch.size → 64 * length d.held.items ≤ old.rows.bits → IsBare old → HasGained (λ w t. Leads next.pairs.items (next.stretch.first + u) (next.stretch.first + w) × (word_bit d.words.items t ≡ true)) old a → ((w t : ℕ) → Leads next.pairs.items (next.stretch.first + u) (next.stretch.first + w) → word_bit d.words.items t ≡ true → Holds a.rows w t) → IsSearching next killed d a
  search_begins u old a here wide fits bare g all = record {
    roomy = g.roomy;
    wide = g.bound_stays ∙ wide;
    fits = omega (arith, g.bits_stay, fits);
    sound = λ w t h. elim (g.sound w t h) [
      | inl o ↦ absurd (bare.none w t o)
      | inr p ↦ record { started = p.1; chain = last (subst (λ v. Leads next.pairs.items v (next.stretch.first + w)) here p.0) }
    ];
    seeds = λ w t h m. all w t (subst (λ v. Leads next.pairs.items v (next.stretch.first + w)) (sym here) m) h;
    listed = λ w t h. elim (g.noted w t h) [ inl o ↦ absurd (bare.none w t o) | inr m ↦ m.1 ];
    settled = λ x w t p m. elim (g.noted x t p.come) [ inl o ↦ absurd (bare.none x t o) | inr l ↦ inl l.0 ];
  }

  -- ---- the end: what arrives has come
  module _ (among : All (IsPairAmong next.stretch.first next.stretch.size) next.pairs.items) (a : Arrivals) (s : IsSearching next killed d a) (still : (w : ℕ) → Contains a.grown.members w → ⊥) (t : ℕ) where
    come_on : (u w : ℕ) → Holds a.rows (u - next.stretch.first) t → row_has killed u (location_at d.held.items t) ≡ false → Leads next.pairs.items u w → Holds a.rows (w - next.stretch.first) t
    come_on u w h k m =
        let base = next.stretch.first in
        let e = leads_among base next.stretch.size next.pairs.items among u w m in
        let from_is : u ≡ base + (u - base) = omega (arith, e.from_low) in
        let to_is : w ≡ base + (w - base) = omega (arith, e.to_low) in
        let open' : row_has killed (base + (u - base)) (location_at d.held.items t) ≡ false = subst (λ x. row_has killed x (location_at d.held.items t) ≡ false) from_is k in
        let m' : Leads next.pairs.items (base + (u - base)) (base + (w - base)) = subst (λ y. Leads next.pairs.items (base + (u - base)) y) to_is (subst (λ y. Leads next.pairs.items y w) from_is m) in
        elim (s.settled (u - base) (w - base) t (record { come = h; open_ = open' }) m') [
          | inl waits ↦ absurd (still (u - base) waits)
          | inr there ↦ there
        ]

    along : {u w : ℕ} → Chain (Leads next.pairs.items) (row_has killed) (location_at d.held.items t) u w → Holds a.rows (u - next.stretch.first) t → row_has killed u (location_at d.held.items t) ≡ false → Holds a.rows (w - next.stretch.first) t
    along {u = u} {w = w} (last m) h k = come_on u w h k m
    along {u = u} (more {u = y} m j c) h k = along c (come_on u y h k m) j

    seed_at : (w : ℕ) → word_bit d.words.items t ≡ true → Leads next.pairs.items d.vertex w → Holds a.rows (w - next.stretch.first) t
    seed_at w h m =
        let base = next.stretch.first in
        let e = leads_among base next.stretch.size next.pairs.items among d.vertex w m in
        let to_is : w ≡ base + (w - base) = omega (arith, e.to_low) in
        s.seeds (w - base) t h (subst (λ y. Leads next.pairs.items d.vertex y) to_is m)

    from_chain : {w : ℕ} → word_bit d.words.items t ≡ true → Chain (Leads next.pairs.items) (row_has killed) (location_at d.held.items t) d.vertex w → Holds a.rows (w - next.stretch.first) t
    from_chain {w = w} h (last m) = seed_at w h m
    from_chain h (more {u = y} m j c) = along c (seed_at y h m) j

    pub arrived : (w : ℕ) → Arrives next.pairs.items killed d (next.stretch.first + w) t → Holds a.rows w t
    arrived w r =
        let back : (next.stretch.first + w) - next.stretch.first ≡ w = omega arith in
        subst (λ x. Holds a.rows x t) back (from_chain r.started r.chain)
