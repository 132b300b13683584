-- What closing a set by links keeps from step to step.
use Rattle.std.proofs.Common.{◌≡◌, ℕ, ◌+◌, ◌-◌, ◌<◌, ◌≤◌, ◌⊎◌, ◌↔◌, inl, inr, Bool, true, false, List, map, length, get_or, set, take, Contains, All, refl, sym, ap, ◌∙◌, subst, arith}
use Rattle.std.proofs.lemmas.List.{get_or-set_same, get_or-set_other, length-set, get_or_default}
use Rattle.std.proofs.lemmas.List.Sums.{count_by_more_yes, count_by_more_no}
use Rattle.std.proofs.lemmas.List.Elements.{Contains-append_left, Contains-append_right, Contains-append_cases, All-contains}
use Rattle.std.proofs.lemmas.Bool.{cases_eq, cases_lt, false≢true}
use Rattle.std.specs.Prelude.{IsTrue}
use Rattle.bit_rows.specs.Sets.{has, count_of}
use Rattle.rule_closure.specs.declared.closure.Rule.{Rule}
use Rattle.rule_closure.specs.declared.engine.Link.{Link}
use Rattle.rule_closure.specs.Rules.{Derived, IsRuleWithin}
use Rattle.rule_closure.specs.Rules as rules_
use Rattle.rule_closure.specs.Links.{LinkDerived, Linked, IsLast, IsListed, IsLinkWithin, from_first, from_second, links_of}
use Rattle.rule_closure.specs.Links as links_
use Rattle.rule_closure.proofs.ListLemmas.{contains_map, map_contains}
use Rattle.rule_closure.proofs.SetLemmas.{has_set, has_set_cases, count-set}

-- the order lists one member more
pub listed_more : (order : List ℕ) (filled : ℕ) (s : List Bool) (u : ℕ) → IsListed order filled s → u < length s → has s u ≡ false → filled < length order → IsListed (set order filled u) (filled + 1) (set s u true)
listed_more order filled s u l h none room = record {
  inside = λ i k. elim (cases_eq i filled) [
    | inl q ↦ ap (λ j. has (set s u true) (get_or (set order filled u) j 0)) q ∙ ap (has (set s u true)) (get_or-set_same order filled u 0 room) ∙ get_or-set_same s u true false h
    | inr q ↦ ap (has (set s u true)) (get_or-set_other order filled i u 0 q) ∙ has_set s u (get_or order i 0) (l.inside i (omega arith))
  ];
  covers = λ v k. elim (has_set_cases s u v k) [
    | inl old ↦ let w = l.covers v old in (w.0, omega arith, get_or-set_other order filled w.0 u 0 (λ e. absurd (omega arith)) ∙ w.2)
    | inr q ↦ (filled, omega arith, get_or-set_same order filled u 0 room ∙ sym q)
  ];
  count = count-set s u h none ∙ ap (λ n. n + 1) l.count;
}

-- ---- the members, listed
pub record IsListing (s : List Bool) (at : ℕ) (order : List ℕ) (filled : ℕ) : Type 0 where
  pub within : filled ≤ at
  pub inside : (i : ℕ) → i < filled → IsTrue (has s (get_or order i 0))
  pub covers : (u : ℕ) → u < at → IsTrue (has s u) → (i : ℕ) × (i < filled) × (get_or order i 0 ≡ u)
  pub count : count_of (take at s) ≡ filled

pub listing_adds : (s : List Bool) (at : ℕ) (order : List ℕ) (filled : ℕ) → IsListing s at order filled → at < length s → IsTrue (has s at) → filled < length order → IsListing s (at + 1) (set order filled at) (filled + 1)
listing_adds s at order filled l h here room = record {
  within = omega (arith, l.within);
  inside = λ i k. elim (cases_eq i filled) [
    | inl q ↦ ap (λ j. has s (get_or (set order filled at) j 0)) q ∙ ap (has s) (get_or-set_same order filled at 0 room) ∙ here
    | inr q ↦ ap (has s) (get_or-set_other order filled i at 0 q) ∙ l.inside i (omega arith)
  ];
  covers = λ u k g. elim (cases_eq u at) [
    | inl q ↦ (filled, omega arith, get_or-set_same order filled at 0 room ∙ sym q)
    | inr q ↦ let w = l.covers u (omega arith) g in (w.0, omega arith, get_or-set_other order filled w.0 at 0 (λ e. absurd (omega arith)) ∙ w.2)
  ];
  count = count_by_more_yes (λ (b : Bool). b) s at false h here ∙ ap (λ n. n + 1) l.count;
}

pub listing_skips : (s : List Bool) (at : ℕ) (order : List ℕ) (filled : ℕ) → IsListing s at order filled → at < length s → has s at ≡ false → IsListing s (at + 1) order filled
listing_skips s at order filled l h none = record {
  within = omega (arith, l.within);
  inside = l.inside;
  covers = λ u k g. elim (cases_eq u at) [
    | inl q ↦ absurd (false≢true (sym none ∙ ap (has s) (sym q) ∙ g))
    | inr q ↦ l.covers u (omega arith) g
  ];
  count = count_by_more_no (λ (b : Bool). b) s at false h none ∙ l.count;
}

-- ---- one number visited
pub record IsVisiting (links : List Link) (v : ℕ) (order₀ : List ℕ) (filled₀ : ℕ) (s₀ : List Bool) (cursor : ℕ) (order : List ℕ) (filled : ℕ) (s : List Bool) : Type 0 where
  pub within : cursor ≤ length links
  pub here : 0 < cursor → (k : Link) → get_or links (cursor - 1) k ≡ k → k.to ≡ v
  pub past : (e : ℕ) (k : Link) → cursor ≤ e → e < length links → get_or links e k ≡ k → k.to ≡ v → IsTrue (has s₀ k.beside) → IsTrue (has s k.gives)
  pub listed : IsListed order filled s
  pub size : length s ≡ length s₀
  pub more : filled₀ ≤ filled
  pub front : (i : ℕ) → i < filled₀ → get_or order i 0 ≡ get_or order₀ i 0
  pub kept : (u : ℕ) → IsTrue (has s₀ u) → IsTrue (has s u)
  pub only : (t : List Bool) → ((u : ℕ) → IsTrue (has s₀ u) → LinkDerived links t u) → LinkDerived links t v → (u : ℕ) → IsTrue (has s u) → LinkDerived links t u

module _ (links : List Link) (v : ℕ) (order₀ : List ℕ) (filled₀ : ℕ) (s₀ : List Bool) where
  pub moved : (cursor next : ℕ) (link : Link) (order : List ℕ) (filled : ℕ) (s : List Bool) → IsVisiting links v order₀ filled₀ s₀ cursor order filled s → 0 < cursor → get_or links (cursor - 1) link ≡ link → IsLast links link.to (cursor - 1) next → (IsTrue (has s link.beside) → IsTrue (has s link.gives)) → IsVisiting links v order₀ filled₀ s₀ next order filled s
  moved cursor next link order filled s i pos at last seen =
      let to_v : link.to ≡ v = i.here pos link at in
      record {
        within = omega (arith, last.below, i.within);
        here = λ p k q. last.here p k q ∙ to_v;
        past = λ e k low high q t f.
            elim (cases_lt e (cursor - 1)) [
              | inl before ↦ absurd (last.above e k low before q (t ∙ sym to_v))
              | inr after ↦ elim (cases_eq e (cursor - 1)) [
                | inl same ↦
                    let one : k ≡ link = sym q ∙ get_or_default links e k link high ∙ ap (λ j. get_or links j link) same ∙ at in
                    subst (λ m. IsTrue (has s m.gives)) (sym one) (seen (ap (λ (m : Link). has s m.beside) (sym one) ∙ i.kept k.beside f))
                | inr other ↦ i.past e k (omega arith) high q t f
              ]
            ];
        listed = i.listed;
        size = i.size;
        more = i.more;
        front = i.front;
        kept = i.kept;
        only = i.only;
      }

  pub added : (cursor : ℕ) (link : Link) (order : List ℕ) (filled : ℕ) (s : List Bool) → IsVisiting links v order₀ filled₀ s₀ cursor order filled s → 0 < cursor → get_or links (cursor - 1) link ≡ link → IsTrue (has s link.beside) → link.gives < length s → has s link.gives ≡ false → filled < length order → IsVisiting links v order₀ filled₀ s₀ cursor (set order filled link.gives) (filled + 1) (set s link.gives true)
  added cursor link order filled s i pos at f in_range none room =
      record {
        within = i.within;
        here = i.here;
        past = λ e k low high q t g. has_set s link.gives k.gives (i.past e k low high q t g);
        listed = listed_more order filled s link.gives i.listed in_range none room;
        size = length-set s link.gives true ∙ i.size;
        more = omega (arith, i.more);
        front = λ j h. get_or-set_other order filled j link.gives 0 (λ e. absurd (omega (arith, i.more))) ∙ i.front j h;
        kept = λ u h. has_set s link.gives u (i.kept u h);
        only = λ t h d u g. elim (has_set_cases s link.gives u g) [
          | inl old ↦ i.only t h d u old
          | inr q ↦
              let l : Linked links v link.beside link.gives = record { link = link; member = (cursor - 1, omega (arith, i.within), at); to_is = i.here pos link at; beside_is = refl; gives_is = refl } in
              subst (λ x. LinkDerived links t x) (sym q) (links_.by l d (i.only t h d link.beside f))
        ];
      }

-- ---- the whole closing, where each link has its twin
pub record IsMarking (links : List Link) (s₀ : List Bool) (done : ℕ) (order : List ℕ) (filled : ℕ) (s : List Bool) : Type 0 where
  pub within : done ≤ filled
  pub listed : IsListed order filled s
  pub size : length s ≡ length s₀
  pub seeds : (v : ℕ) → IsTrue (has s₀ v) → IsTrue (has s v)
  pub sound : (v : ℕ) → IsTrue (has s v) → LinkDerived links s₀ v
  pub closed : (i j u : ℕ) → i < done → j < done → Linked links (get_or order i 0) (get_or order j 0) u → IsTrue (has s u)

module _ (links : List Link) (s₀ : List Bool) (twin : (v w u : ℕ) → Linked links v w u → Linked links w v u) where
  pub marking_begins : (order : List ℕ) (filled : ℕ) → IsListed order filled s₀ → IsMarking links s₀ 0 order filled s₀
  marking_begins order filled l = record { within = omega arith; listed = l; size = refl; seeds = λ v h. h; sound = λ v h. links_.seed h; closed = λ i j u h. absurd (omega arith) }

  pub marking_goes : (done : ℕ) (order order' : List ℕ) (filled filled' : ℕ) (s s' : List Bool) (v : ℕ) → IsMarking links s₀ done order filled s → done < filled → v ≡ get_or order done 0 → IsListed order' filled' s' → length s' ≡ length s → filled ≤ filled' → ((i : ℕ) → i < filled → get_or order' i 0 ≡ get_or order i 0) → ((u : ℕ) → IsTrue (has s u) → IsTrue (has s' u)) → ((t : List Bool) → ((u : ℕ) → IsTrue (has s u) → LinkDerived links t u) → LinkDerived links t v → (u : ℕ) → IsTrue (has s' u) → LinkDerived links t u) → ((w u : ℕ) → IsTrue (has s w) → Linked links v w u → IsTrue (has s' u)) → IsMarking links s₀ (done + 1) order' filled' s'
  marking_goes done order order' filled filled' s s' v i more_left is l size more front kept only all =
      let here : IsTrue (has s v) = ap (has s) is ∙ i.listed.inside done more_left in
      let at_done : get_or order' done 0 ≡ v = front done more_left ∙ sym is in
      let old_at : (k : ℕ) → k < done + 1 → IsTrue (has s (get_or order' k 0)) = λ k h. ap (has s) (front k (omega arith)) ∙ i.listed.inside k (omega arith) in
      record {
        within = omega arith;
        listed = l;
        size = size ∙ i.size;
        seeds = λ u h. kept u (i.seeds u h);
        sound = λ u h. only s₀ i.sound (i.sound v here) u h;
        closed = λ k j u hk hj link. elim (cases_eq k done) [
          | inl q ↦ all (get_or order' j 0) u (old_at j hj) (subst (λ x. Linked links x (get_or order' j 0) u) (ap (λ m. get_or order' m 0) q ∙ at_done) link)
          | inr q ↦ elim (cases_eq j done) [
            | inl r ↦ all (get_or order' k 0) u (old_at k hk) (twin (get_or order' k 0) v u (subst (λ x. Linked links (get_or order' k 0) x u) (ap (λ m. get_or order' m 0) r ∙ at_done) link))
            | inr r ↦ kept u (i.closed k j u (omega arith) (omega arith) (subst (λ x. Linked links x (get_or order j 0) u) (front k (omega (arith, i.within))) (subst (λ x. Linked links (get_or order' k 0) x u) (front j (omega (arith, i.within))) link)))
          ]
        ];
      }

  marked_in : (done : ℕ) (order : List ℕ) (filled : ℕ) (s : List Bool) → IsMarking links s₀ done order filled s → filled ≤ done → {v : ℕ} → LinkDerived links s₀ v → IsTrue (has s v)
  marked_in done order filled s i end (links_.seed {v = v} h) = i.seeds v h
  marked_in done order filled s i end (links_.by {v = v} {w = w} {u = u} link a b) =
      let x = i.listed.covers v (marked_in done order filled s i end a) in
      let y = i.listed.covers w (marked_in done order filled s i end b) in
      i.closed x.0 y.0 u (omega arith) (omega arith) (subst (λ k. Linked links k (get_or order y.0 0) u) (sym x.2) (subst (λ k. Linked links v k u) (sym y.2) link))

  pub marking_ends : (done : ℕ) (order : List ℕ) (filled : ℕ) (s : List Bool) → IsMarking links s₀ done order filled s → filled ≤ done → (v : ℕ) → (IsTrue (has s v)) ↔ LinkDerived links s₀ v
  marking_ends done order filled s i end v = (i.sound v, marked_in done order filled s i end)

-- ---- rules and their links
pub link_rule : (rules : List Rule) (v w u : ℕ) → Linked (links_of rules) v w u → (r : Rule) × Contains rules r × (((r.first ≡ v) × (r.second ≡ w)) ⊎ ((r.first ≡ w) × (r.second ≡ v))) × (r.gives ≡ u)
link_rule rules v w u l = elim (Contains-append_cases (map from_first rules) (map from_second rules) l.link l.member) [
  | inl m ↦
      let x = contains_map from_first rules l.link m in
      (x.0, x.1, inl (ap (λ (k : Link). k.to) x.2 ∙ l.to_is, ap (λ (k : Link). k.beside) x.2 ∙ l.beside_is), ap (λ (k : Link). k.gives) x.2 ∙ l.gives_is)
  | inr m ↦
      let x = contains_map from_second rules l.link m in
      (x.0, x.1, inr (ap (λ (k : Link). k.beside) x.2 ∙ l.beside_is, ap (λ (k : Link). k.to) x.2 ∙ l.to_is), ap (λ (k : Link). k.gives) x.2 ∙ l.gives_is)
]

pub rule_link : (rules : List Rule) (r : Rule) → Contains rules r → Linked (links_of rules) r.first r.second r.gives
rule_link rules r m = record { link = from_first r; member = Contains-append_left (map from_first rules) (map from_second rules) (from_first r) (map_contains from_first rules r m); to_is = refl; beside_is = refl; gives_is = refl }

pub link_rule_twin : (rules : List Rule) (r : Rule) → Contains rules r → Linked (links_of rules) r.second r.first r.gives
link_rule_twin rules r m = record { link = from_second r; member = Contains-append_right (map from_first rules) (map from_second rules) (from_second r) (map_contains from_second rules r m); to_is = refl; beside_is = refl; gives_is = refl }

pub twins : (rules : List Rule) (v w u : ℕ) → Linked (links_of rules) v w u → Linked (links_of rules) w v u
twins rules v w u l =
    let x = link_rule rules v w u l in
    subst (λ y. Linked (links_of rules) w v y) x.3 (elim x.2 [
      | inl p ↦ subst (λ a. Linked (links_of rules) a v x.0.gives) p.1 (subst (λ b. Linked (links_of rules) x.0.second b x.0.gives) p.0 (link_rule_twin rules x.0 x.1))
      | inr p ↦ subst (λ a. Linked (links_of rules) a v x.0.gives) p.0 (subst (λ b. Linked (links_of rules) x.0.first b x.0.gives) p.1 (rule_link rules x.0 x.1))
    ])

derived_from_link : (rules : List Rule) (s : List Bool) {v : ℕ} → LinkDerived (links_of rules) s v → Derived rules s v
derived_from_link rules s (links_.seed h) = rules_.seed h
derived_from_link rules s (links_.by {v = v} {w = w} {u = u} l a b) =
    let x = link_rule rules v w u l in
    let da = derived_from_link rules s a in
    let db = derived_from_link rules s b in
    subst (λ y. Derived rules s y) x.3 (elim x.2 [
      | inl p ↦ rules_.by x.1 (subst (λ y. Derived rules s y) (sym p.0) da) (subst (λ y. Derived rules s y) (sym p.1) db)
      | inr p ↦ rules_.by x.1 (subst (λ y. Derived rules s y) (sym p.0) db) (subst (λ y. Derived rules s y) (sym p.1) da)
    ])

link_from_derived : (rules : List Rule) (s : List Bool) {v : ℕ} → Derived rules s v → LinkDerived (links_of rules) s v
link_from_derived rules s (rules_.seed h) = links_.seed h
link_from_derived rules s (rules_.by {r = r} m a b) = links_.by (rule_link rules r m) (link_from_derived rules s a) (link_from_derived rules s b)

pub close_is : (rules own : List Rule) (links : List Link) (s t : List Bool) → own ≡ rules → links ≡ links_of own → ((v : ℕ) → (IsTrue (has t v)) ↔ LinkDerived links s v) → (v : ℕ) → (IsTrue (has t v)) ↔ Derived rules s v
close_is rules own links s t is are exact v =
    let e = are ∙ ap links_of is in
    let k = subst (λ l. (IsTrue (has t v)) ↔ LinkDerived l s v) e (exact v) in
    (λ h. derived_from_link rules s (k.0 h), λ d. k.1 (link_from_derived rules s d))

-- the numbers of the links are those of the rules
pub links_in : (rules : List Rule) (n : ℕ) (links : List Link) → All (IsRuleWithin n) rules → links ≡ links_of rules → (e : ℕ) (l : Link) → e < length links → get_or links e l ≡ l → IsLinkWithin n l
links_in rules n links ends are e l h at =
    let m : Contains (links_of rules) l = subst (λ x. Contains x l) are (e, h, at) in
    let x = link_rule rules l.to l.beside l.gives (record { link = l; member = m; to_is = refl; beside_is = refl; gives_is = refl }) in
    let w = All-contains (IsRuleWithin n) rules x.0 ends x.1 in
    elim x.2 [
      | inl p ↦ record { to_in = subst (λ y. y < n) p.0 w.first_in; beside_in = subst (λ y. y < n) p.1 w.second_in; gives_in = subst (λ y. y < n) x.3 w.gives_in }
      | inr p ↦ record { to_in = subst (λ y. y < n) p.1 w.second_in; beside_in = subst (λ y. y < n) p.0 w.first_in; gives_in = subst (λ y. y < n) x.3 w.gives_in }
    ]
