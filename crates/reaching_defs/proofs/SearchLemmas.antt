-- What a search from a vertex keeps from step to step, and that at its end it has where chains lead.
use Rattle.std.proofs.Common.{◌≡◌, ℕ, ◌+◌, ◌-◌, ◌<◌, ◌≤◌, ◌⊎◌, ◌↔◌, inl, inr, Bool, true, false, List, [], length, get_or, Contains, All, refl, sym, ap, ◌∙◌, subst, arith}
use Rattle.std.proofs.lemmas.List.{get_or_default}
use Rattle.std.proofs.lemmas.List.Elements.{All-contains}
use Rattle.std.proofs.lemmas.Bool.{cases_eq, cases_lt, false≢true}
use Rattle.dep_model.specs.declared.skeleton.Pair.{Pair}
use Rattle.dep_model.specs.Follows.{Chain, last, more}
use Rattle.rule_closure.proofs.ListLemmas.{contains_none}
use Rattle.reaching_defs.specs.Listings.{GoesOn}
use Rattle.reaching_defs.specs.RowFlow.{Leads}
use Rattle.reaching_defs.specs.Stretches.{IsPairAmong, IsLastFrom}
use Rattle.reaching_defs.proofs.ListingLemmas.{goes_on_same, goes_on_twice, still_there, at_place}

-- one of some pairs is among the numbers of their stretch
pub pair_among : (base n : ℕ) (pairs : List Pair) → All (IsPairAmong base n) pairs → (x : Pair) → Contains pairs x → IsPairAmong base n x
pair_among base n pairs all x m = All-contains (IsPairAmong base n) pairs x all m

pub leads_among : (base n : ℕ) (pairs : List Pair) → All (IsPairAmong base n) pairs → (u w : ℕ) → Leads pairs u w → IsPairAmong base n (record { from = u; to = w })
leads_among base n pairs all u w m = pair_among base n pairs all (record { from = u; to = w }) m

-- ---- one vertex visited: from v, whose place is told from `base` on
pub record IsVisiting (base : ℕ) (pairs : List Pair) (v : ℕ) (old : List ℕ) (cursor : ℕ) (new : List ℕ) : Type 0 where
  pub within : cursor ≤ length pairs
  pub here : 0 < cursor → (x : Pair) → get_or pairs (cursor - 1) x ≡ x → x.from ≡ v
  pub past : (e : ℕ) (x : Pair) → cursor ≤ e → e < length pairs → get_or pairs e x ≡ x → x.from ≡ v → Contains new (x.to - base)
  pub front : GoesOn old new
  pub only : (u : ℕ) → Contains new u → Contains old u ⊎ Leads pairs v (base + u)

module _ (base : ℕ) (pairs : List Pair) (v : ℕ) (old : List ℕ) where
  -- from the last of the vertex's pairs
  pub visit_begins : (cursor : ℕ) → IsLastFrom pairs v (length pairs) cursor → IsVisiting base pairs v old cursor old
  visit_begins cursor l = record {
    within = l.below;
    here = l.here;
    past = λ e x low high at from. absurd (l.above e x low high at from);
    front = goes_on_same old;
    only = λ u m. inl m;
  }

  -- on to the pair before, where what the pair leads to is added
  pub visit_moves : (cursor next : ℕ) (x : Pair) (s s' : List ℕ) → IsVisiting base pairs v old cursor s → 0 < cursor → get_or pairs (cursor - 1) x ≡ x → IsLastFrom pairs x.from (cursor - 1) next → base ≤ x.to → ((u : ℕ) → Contains s' u ↔ (Contains s u ⊎ (u ≡ x.to - base))) → GoesOn s s' → IsVisiting base pairs v old next s'
  visit_moves cursor next x s s' i pos at l low added on =
      let from_v : x.from ≡ v = i.here pos x at in
      record {
        within = omega (arith, l.below, i.within);
        here = λ p y q. l.here p y q ∙ from_v;
        past = λ e y early high q f.
            elim (cases_lt e (cursor - 1)) [
              | inl before ↦ absurd (l.above e y early before q (f ∙ sym from_v))
              | inr after ↦ elim (cases_eq e (cursor - 1)) [
                | inl same ↦
                    let one : y ≡ x = sym q ∙ get_or_default pairs e y x high ∙ ap (λ j. get_or pairs j x) same ∙ at in
                    (added (y.to - base)).1 (inr (ap (λ (m : Pair). m.to - base) one))
                | inr other ↦ (added (y.to - base)).1 (inl (i.past e y (omega arith) high q f))
              ]
            ];
        front = goes_on_twice old s s' i.front on;
        only = λ u h. elim ((added u).0 h) [
          | inl m ↦ i.only u m
          | inr q ↦
              let e : x.to ≡ base + u = omega (arith, q, low) in
              let is : x ≡ record { from = v; to = base + u } = ap (λ (f : ℕ). let r : Pair = record { from = f; to = x.to } in r) from_v ∙ ap (λ (t : ℕ). let r : Pair = record { from = v; to = t } in r) e in
              let member : Contains pairs x = (cursor - 1, omega (arith, i.within, pos), at) in
              inr (subst (Contains pairs) is member)
        ];
      }

  -- to the last, behind which no pair of the vertex is left
  pub visit_ends : (s : List ℕ) → IsVisiting base pairs v old 0 s → (w : ℕ) → Leads pairs v (base + w) → Contains s w
  visit_ends s i w m =
      let x : Pair = record { from = v; to = base + w } in
      let back : (base + w) - base ≡ w = omega arith in
      subst (Contains s) back (i.past m.0 x (omega arith) m.1 m.2 refl)

-- ---- the whole search
pub record IsSpreading (base : ℕ) (pairs : List Pair) (kills : ℕ → ℕ → Bool) (l v done : ℕ) (s : List ℕ) : Type 0 where
  pub within : done ≤ length s
  pub sound : (w : ℕ) → Contains s w → Chain (Leads pairs) kills l v (base + w)
  pub seeds : (w : ℕ) → Leads pairs v (base + w) → Contains s w
  pub closed : (i w : ℕ) → i < done → kills (base + get_or s i 0) l ≡ false → Leads pairs (base + get_or s i 0) (base + w) → Contains s w

module _ (base n : ℕ) (pairs : List Pair) (among : All (IsPairAmong base n) pairs) (kills : ℕ → ℕ → Bool) (l v : ℕ) where
  -- a chain goes on by a pair
  chain_more : {a u w : ℕ} → Chain (Leads pairs) kills l a u → kills u l ≡ false → Leads pairs u w → Chain (Leads pairs) kills l a w
  chain_more (last h) k m = more h k (last m)
  chain_more (more h j c) k m = more h j (chain_more c k m)

  pub spread_begins : (s : List ℕ) → ((w : ℕ) → Contains s w → Contains {X = ℕ} [] w ⊎ Leads pairs v (base + w)) → ((w : ℕ) → Leads pairs v (base + w) → Contains s w) → IsSpreading base pairs kills l v 0 s
  spread_begins s only all = record {
    within = omega arith;
    sound = λ w h. elim (only w h) [
      | inl e ↦ absurd (contains_none w e)
      | inr m ↦ last m
    ];
    seeds = all;
    closed = λ i w h. absurd (omega (arith, h));
  }

  -- a vertex that kills is passed over
  pub spread_stops : (done : ℕ) (s : List ℕ) → IsSpreading base pairs kills l v done s → done < length s → kills (base + get_or s done 0) l ≡ true → IsSpreading base pairs kills l v (done + 1) s
  spread_stops done s i left kill = record {
    within = omega (arith, left);
    sound = i.sound;
    seeds = i.seeds;
    closed = λ j w h open_ m. elim (cases_eq j done) [
      | inl q ↦ absurd (false≢true (sym open_ ∙ ap (λ k. kills (base + get_or s k 0) l) q ∙ kill))
      | inr q ↦ i.closed j w (omega (arith, h, q)) open_ m
    ];
  }

  -- and behind one that doesn't the search goes on
  pub spread_goes : (done : ℕ) (s s' : List ℕ) → IsSpreading base pairs kills l v done s → done < length s → kills (base + get_or s done 0) l ≡ false → GoesOn s s' → ((w : ℕ) → Contains s' w → Contains s w ⊎ Leads pairs (base + get_or s done 0) (base + w)) → ((w : ℕ) → Leads pairs (base + get_or s done 0) (base + w) → Contains s' w) → IsSpreading base pairs kills l v (done + 1) s'
  spread_goes done s s' i left open_ on only all =
      let u = get_or s done 0 in
      let here = i.sound u (at_place s done left) in
      record {
        within = omega (arith, left, on.more);
        sound = λ w h. elim (only w h) [
          | inl old ↦ i.sound w old
          | inr m ↦ chain_more here open_ m
        ];
        seeds = λ w m. still_there s s' on w (i.seeds w m);
        closed = λ j w h k m. elim (cases_eq j done) [
          | inl q ↦
              let same : get_or s' j 0 ≡ u = ap (λ x. get_or s' x 0) q ∙ on.front done left in
              all w (subst (λ x. Leads pairs (base + x) (base + w)) same m)
          | inr q ↦
              let old : j < done = omega (arith, h, q) in
              let same = on.front j (omega (arith, old, left)) in
              still_there s s' on w (i.closed j w old (sym (ap (λ x. kills (base + x) l) same) ∙ k) (subst (λ x. Leads pairs (base + x) (base + w)) same m))
        ];
      }

  -- what is reached and doesn't kill is gone on from
  reached_on : (done : ℕ) (s : List ℕ) → IsSpreading base pairs kills l v done s → length s ≤ done → (u w : ℕ) → Contains s (u - base) → kills u l ≡ false → Leads pairs u w → Contains s (w - base)
  reached_on done s i end u w h k m =
      let e = leads_among base n pairs among u w m in
      let from_is : base + (u - base) ≡ u = omega (arith, e.from_low) in
      let to_is : w ≡ base + (w - base) = omega (arith, e.to_low) in
      let read : get_or s h.0 0 ≡ u - base = get_or_default s h.0 0 (u - base) h.1 ∙ h.2 in
      let at_is : base + get_or s h.0 0 ≡ u = ap (λ x. base + x) read ∙ from_is in
      i.closed h.0 (w - base) (omega (arith, h.1, end)) (ap (λ x. kills x l) at_is ∙ k)
      (subst (λ y. Leads pairs (base + get_or s h.0 0) y) to_is (subst (λ y. Leads pairs y w) (sym at_is) m))

  along : (done : ℕ) (s : List ℕ) → IsSpreading base pairs kills l v done s → length s ≤ done → {u w : ℕ} → Chain (Leads pairs) kills l u w → Contains s (u - base) → kills u l ≡ false → Contains s (w - base)
  along done s i end {u = u} {w = w} (last m) h k = reached_on done s i end u w h k m
  along done s i end {u = u} (more {u = y} m j c) h k = along done s i end c (reached_on done s i end u y h k m) j

  seed_at : (done : ℕ) (s : List ℕ) → IsSpreading base pairs kills l v done s → (w : ℕ) → Leads pairs v w → Contains s (w - base)
  seed_at done s i w m =
      let e = leads_among base n pairs among v w m in
      let back : w ≡ base + (w - base) = omega (arith, e.to_low) in
      i.seeds (w - base) (subst (λ y. Leads pairs v y) back m)

  from_chain : (done : ℕ) (s : List ℕ) → IsSpreading base pairs kills l v done s → length s ≤ done → {w : ℕ} → Chain (Leads pairs) kills l v w → Contains s (w - base)
  from_chain done s i end {w = w} (last m) = seed_at done s i w m
  from_chain done s i end (more {u = y} m j c) = along done s i end c (seed_at done s i y m) j

  pub spread_ends : (done : ℕ) (s : List ℕ) → IsSpreading base pairs kills l v done s → length s ≤ done → (w : ℕ) → Contains s w ↔ Chain (Leads pairs) kills l v (base + w)
  spread_ends done s i end w = (
    i.sound w,
    λ c. let e : (base + w) - base ≡ w = omega arith in subst (Contains s) e (from_chain done s i end c),
  )
