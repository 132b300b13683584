-- The bits of pairs are apart, and what one more of them says.
use Rattle.std.proofs.Common.{◌≡◌, ℕ, ◌+◌, ◌-◌, ◌<◌, ◌≤◌, ◌⊎◌, ◌↔◌, ◌&&◌, ◌||◌, inl, inr, Bool, true, false, List, [], ◌∷◌, ◌++◌, ◌^◌, length, get_or, set, refl, sym, ap, ◌∙◌, subst, arith}
use Rattle.std.specs.Prelude.{nat_lt, IsTrue}
use Rattle.std.specs.declared.alloc.Global.{Global}
use Rattle.std.specs.declared.vec.Vec.{Vec}
use Rattle.std.proofs.lemmas.Bool.{and_parts, and_from, cases_lt}
use Rattle.std.proofs.lemmas.Bool.Decides.{nat_tests}
use Rattle.std.proofs.lemmas.List.{length-set, length-append, get_or_append_left, get_or_push}
use Rattle.bit_rows.specs.Sets.{has, count_of}
use Rattle.rule_closure.proofs.SetLemmas.{has_set, has_set_same, has_set_cases, count-set}
use Rattle.matched_paths.specs.declared.vertex_range.VertexRange.{VertexRange}
use Rattle.matched_paths.specs.VertexRanges.{within}
use Rattle.matched_paths.proofs.StepRuleLaws.{within_is}
use Rattle.forward_chop.specs.declared.wanted.Wanted.{Wanted}
use Rattle.forward_chop.specs.Pairs.{outs_of, covers, place_of, asks, IsLaid, HasAsked, IsPairSet, AreSpaces, no_range}

-- what it says that there is a bit
pub record IsCovered (w : Wanted) (x o : ℕ) : Type 0 where
  pub known : x < length w.outs.items
  pub from : (outs_of w x).first ≤ o
  pub below : o < (outs_of w x).last

pub covered : (w : Wanted) (x o : ℕ) → covers w x o ≡ true → IsCovered w x o
covered w x o h =
    let p = and_parts (nat_lt x (length w.outs.items)) (within (outs_of w x) o) h in
    let a = p.0 in
    let r = within_is (outs_of w x) o p.1 in
    record { known = grind (arith, nat_tests, a); from = r.0; below = r.1 }

module _ (w : Wanted) (laid : IsLaid w) where
  pub place_inside : (x o : ℕ) → covers w x o ≡ true → place_of w x o < length w.pairs
  place_inside x o h =
      let c = covered w x o h in
      let r = laid.room x c.known in
      let f = c.from in
      let b = c.below in
      omega (arith, r, f, b)

  apart : (x o y p : ℕ) → covers w x o ≡ true → covers w y p ≡ true → x < y → place_of w x o < place_of w y p
  apart x o y p h k low =
      let c = covered w x o h in
      let d = covered w y p k in
      let r = laid.apart x y low d.known in
      let f = c.from in
      let b = c.below in
      omega (arith, r, f, b)

  pub one_pair : (x o y p : ℕ) → covers w x o ≡ true → covers w y p ≡ true → place_of w x o ≡ place_of w y p → (x ≡ y) × (o ≡ p)
  one_pair x o y p h k same = elim (cases_lt x y) [
    | inl low ↦ absurd (let a = apart x o y p h k low in omega (arith, a, same))
    | inr high ↦ elim (cases_lt y x) [
      | inl low ↦ absurd (let a = apart y p x o k h low in omega (arith, a, same))
      | inr up ↦
          let e : x ≡ y = omega (arith, high, up) in
          let c = covered w x o h in
          let d = covered w y p k in
          let f = c.from in
          let g = d.from in
          let at = ap (λ z. get_or w.places.items z 0) e in
          let first = ap (λ z. (outs_of w z).first) e in
          (e, omega (arith, same, f, g, at, first))
    ]
  ]

-- ---- a bit is set
module _ (old new : Wanted) (laid : IsLaid old) (x o : ℕ) (here : covers old x o ≡ true) (h : IsPairSet x (place_of old x o) old new) where
  outs_are : new.outs.items ≡ old.outs.items
  outs_are = ap (λ (v : Vec VertexRange Global). v.items) h.outs_same

  places_are : new.places.items ≡ old.places.items
  places_are = ap (λ (v : Vec ℕ Global). v.items) h.places_same

  covers_same : (y p : ℕ) → covers new y p ≡ covers old y p
  covers_same y p = ap (λ (rs : List VertexRange). nat_lt y (length rs) && within (get_or rs y no_range) p) outs_are

  place_same : (y p : ℕ) → place_of new y p ≡ place_of old y p
  place_same y p =
      let a = ap (λ (ns : List ℕ). get_or ns y 0) places_are in
      let b = ap (λ (rs : List VertexRange). (get_or rs y no_range).first) outs_are in
      omega (arith, a, b)

  pairs_long : length new.pairs ≡ length old.pairs
  pairs_long = ap length h.pairs_are ∙ length-set old.pairs (place_of old x o) true

  asks_new : (y p : ℕ) → asks new y p ≡ (covers old y p && has (set old.pairs (place_of old x o) true) (place_of old y p))
  asks_new y p = ap (λ b. b && has new.pairs (place_of new y p)) (covers_same y p) ∙ ap (λ k. covers old y p && has new.pairs k) (place_same y p) ∙ ap (λ s. covers old y p && has s (place_of old y p)) h.pairs_are

  set_laid : IsLaid new
  set_laid =
      let same = outs_are in
      let places = places_are in
      let long = pairs_long in
      record {
        places_long = ap length places_are ∙ laid.places_long ∙ sym (ap length outs_are);
        due_long = ap length h.due_is ∙ length-set old.due.items x true ∙ laid.due_long ∙ sym (ap length outs_are);
        few = (let few = laid.few in omega (arith, few, long));
        room = λ y low.
            let r = laid.room y (subst (λ rs. y < length rs) same low) in
            let a = ap (λ (ns : List ℕ). get_or ns y 0) places in
            let b = ap (λ (rs : List VertexRange). (get_or rs y no_range).first) same in
            let c = ap (λ (rs : List VertexRange). (get_or rs y no_range).last) same in
            omega (arith, r, a, b, c, long);
        apart = λ y z less low.
            let r = laid.apart y z less (subst (λ rs. z < length rs) same low) in
            let a = ap (λ (ns : List ℕ). get_or ns y 0) places in
            let d = ap (λ (ns : List ℕ). get_or ns z 0) places in
            let b = ap (λ (rs : List VertexRange). (get_or rs y no_range).first) same in
            let c = ap (λ (rs : List VertexRange). (get_or rs y no_range).last) same in
            omega (arith, r, a, b, c, d);
      }

  set_kept : (y p : ℕ) → IsTrue (asks old y p) → IsTrue (asks new y p)
  set_kept y p a =
      let q = and_parts (covers old y p) (has old.pairs (place_of old y p)) a in
      asks_new y p ∙ and_from _ _ q.0 (has_set old.pairs (place_of old x o) (place_of old y p) q.1)

  set_here : IsTrue (asks new x o)
  set_here = asks_new x o ∙ and_from _ _ here (has_set_same old.pairs (place_of old x o) (place_inside old laid x o here))

  set_sound : (y p : ℕ) → IsTrue (asks new y p) → IsTrue (asks old y p) ⊎ ((y ≡ x) × (p ≡ o))
  set_sound y p a =
      let q = and_parts (covers old y p) (has (set old.pairs (place_of old x o) true) (place_of old y p)) (sym (asks_new y p) ∙ a) in
      elim (has_set_cases old.pairs (place_of old x o) (place_of old y p) q.1) [
        | inl was ↦ inl (and_from _ _ q.0 was)
        | inr same ↦ inr (one_pair old laid y p x o q.0 here same)
      ]

  due_here : x < length old.due.items
  due_here = let c = covered old x o here in let k = c.known in let long = laid.due_long in omega (arith, k, long)

  due_stays : (y : ℕ) → IsTrue (has old.due.items y) → IsTrue (has new.due.items y)
  due_stays y d = ap (λ s. has s y) h.due_is ∙ has_set old.due.items x y d

  due_set : IsTrue (has new.due.items x)
  due_set = ap (λ s. has s x) h.due_is ∙ has_set_same old.due.items x due_here

  pub asked_one : has old.pairs (place_of old x o) ≡ false → HasAsked (λ y p. (y ≡ x) × (p ≡ o)) old new true
  asked_one none = record {
    laid = set_laid;
    long = pairs_long;
    outs_same = outs_are;
    kept = set_kept;
    sound = set_sound;
    held = λ y p same c. subst (λ z. IsTrue (asks new z p)) (sym same.0) (subst (λ z. IsTrue (asks new x z)) (sym same.1) set_here);
    due_kept = due_stays;
    due_new = λ y p a. elim (set_sound y p a) [
      | inl was ↦ inl was
      | inr same ↦ inr (subst (λ z. IsTrue (has new.due.items z)) (sym same.0) due_set)
    ];
    none = λ e. cc;
    more = λ e.
        let one = count-set old.pairs (place_of old x o) (place_inside old laid x o here) none in
        let is = ap count_of h.pairs_are in
        omega (arith, one, is);
  }

-- ---- nothing is asked for besides
pub asked_none : (P : ℕ → ℕ → Type 0) (w : Wanted) → IsLaid w → ((x o : ℕ) → P x o → IsTrue (covers w x o) → IsTrue (asks w x o)) → HasAsked P w w false
asked_none P w laid there = record {
  laid = laid;
  long = refl;
  outs_same = refl;
  kept = λ x o a. a;
  sound = λ x o a. inl a;
  held = there;
  due_kept = λ x d. d;
  due_new = λ x o a. inl a;
  none = λ e. (refl, refl);
  more = λ e. cc;
}

pub asked_as : (P Q : ℕ → ℕ → Type 0) (old new : Wanted) (grows : Bool) → ((x o : ℕ) → P x o ↔ Q x o) → HasAsked P old new grows → HasAsked Q old new grows
asked_as P Q old new grows same h = record {
  laid = h.laid;
  long = h.long;
  outs_same = h.outs_same;
  kept = h.kept;
  sound = λ x o a. elim (h.sound x o a) [ inl was ↦ inl was | inr p ↦ inr ((same x o).0 p) ];
  held = λ x o q c. h.held x o ((same x o).1 q) c;
  due_kept = h.due_kept;
  due_new = h.due_new;
  none = h.none;
  more = h.more;
}

-- more in the first or in the second
pub more_of_both : (a b c : ℕ) (g h : Bool) → (g ≡ true → a < b) → (g ≡ false → a ≡ b) → (h ≡ true → b < c) → (h ≡ false → b ≡ c) → (g || h) ≡ true → a < c
more_of_both a b c true true p q r s e = let x = p refl in let y = r refl in omega (arith, x, y)
more_of_both a b c true false p q r s e = let x = p refl in let y = s refl in omega (arith, x, y)
more_of_both a b c false true p q r s e = let x = q refl in let y = r refl in omega (arith, x, y)
more_of_both a b c false false p q r s e = cc

pub neither : (g h : Bool) → (g || h) ≡ false → (g ≡ false) × (h ≡ false)
neither false h e = (refl, e)
neither true h e = cc

pub covers_by_outs : (old new : Wanted) → new.outs.items ≡ old.outs.items → (x o : ℕ) → covers new x o ≡ covers old x o
covers_by_outs old new same x o = ap (λ (rs : List VertexRange). nat_lt x (length rs) && within (get_or rs x no_range) o) same

pub asked_both : (P Q : ℕ → ℕ → Type 0) (old mid new : Wanted) (grows more : Bool) → HasAsked P old mid grows → HasAsked Q mid new more → HasAsked (λ x o. P x o ⊎ Q x o) old new (grows || more)
asked_both P Q old mid new grows more h k = record {
  laid = k.laid;
  long = k.long ∙ h.long;
  outs_same = k.outs_same ∙ h.outs_same;
  kept = λ x o a. k.kept x o (h.kept x o a);
  sound = λ x o a. elim (k.sound x o a) [
    | inl was ↦ elim (h.sound x o was) [ inl first ↦ inl first | inr p ↦ inr (inl p) ]
    | inr q ↦ inr (inr q)
  ];
  held = λ x o r c. elim r [
    | inl p ↦ k.kept x o (h.held x o p c)
    | inr q ↦ k.held x o q (covers_by_outs old mid h.outs_same x o ∙ c)
  ];
  due_kept = λ x d. k.due_kept x (h.due_kept x d);
  due_new = λ x o a. elim (k.due_new x o a) [
    | inl was ↦ elim (h.due_new x o was) [ inl first ↦ inl first | inr d ↦ inr (k.due_kept x d) ]
    | inr d ↦ inr d
  ];
  none = λ e.
      let n = neither grows more e in
      let a = h.none n.0 in
      let b = k.none n.1 in
      (b.0 ∙ a.0, b.1 ∙ a.1);
  more = λ e.
      more_of_both (count_of old.pairs) (count_of mid.pairs) (count_of new.pairs) grows more h.more (λ z. sym (ap count_of (h.none z).0)) k.more (λ z. sym (ap count_of (k.none z).0)) e;
}

-- ---- bits one behind the other
abbrev width : VertexRange → ℕ
width r = r.last - r.first

pub spaces_none : AreSpaces [] [] 0
spaces_none = record { long = refl; few = omega arith; room = λ x low. absurd (omega (arith, low)); apart = λ x y less low. absurd (omega (arith, low)) }

module _ (outs : List VertexRange) (places : List ℕ) (end : ℕ) (r : VertexRange) (h : AreSpaces outs places end) where
  one_long : length (outs ++ r ∷ []) ≡ length outs + 1
  one_long = length-append outs (r ∷ [])

  place_early : (x : ℕ) → x < length outs → get_or (places ++ end ∷ []) x 0 ≡ get_or places x 0
  place_early x low = get_or_append_left places (end ∷ []) 0 x (let long = h.long in omega (arith, low, long))

  place_last : (x : ℕ) → x ≡ length outs → get_or (places ++ end ∷ []) x 0 ≡ end
  place_last x same = get_or_push places end 0 x (h.long ∙ sym same)

  out_early : (x : ℕ) → x < length outs → get_or (outs ++ r ∷ []) x no_range ≡ get_or outs x no_range
  out_early x low = get_or_append_left outs (r ∷ []) no_range x low

  out_last : (x : ℕ) → x ≡ length outs → get_or (outs ++ r ∷ []) x no_range ≡ r
  out_last x same = get_or_push outs r no_range x (sym same)

  early_room : (x : ℕ) → x < length outs → get_or (places ++ end ∷ []) x 0 + width (get_or (outs ++ r ∷ []) x no_range) ≤ end
  early_room x low =
      let a = place_early x low in
      let b = ap width (out_early x low) in
      let old = h.room x low in
      omega (arith, a, b, old)

  pub spaces_more : end + width r < 2 ^ 32 → AreSpaces (outs ++ r ∷ []) (places ++ end ∷ []) (end + width r)
  spaces_more fits = record {
    few = fits;
    long = (let a = length-append places (end ∷ []) in let b = one_long in let c = h.long in omega (arith, a, b, c));
    room = λ x low. elim (cases_lt x (length outs)) [
      | inl early ↦ (let a = early_room x early in omega (arith, a))
      | inr late ↦
          let n = one_long in
          let same : x ≡ length outs = omega (arith, low, n, late) in
          let a = place_last x same in
          let b = ap width (out_last x same) in
          omega (arith, a, b)
    ];
    apart = λ x y less low.
        let n = one_long in
        let early : x < length outs = omega (arith, less, low, n) in
        elim (cases_lt y (length outs)) [
          | inl before ↦
              let a = place_early x early in
              let b = ap width (out_early x early) in
              let c = place_early y before in
              let old = h.apart x y less before in
              omega (arith, a, b, c, old)
          | inr late ↦
              let same : y ≡ length outs = omega (arith, low, n, late) in
              let a = early_room x early in
              let c = place_last y same in
              omega (arith, a, c)
        ];
  }

pub laid_by : (w : Wanted) (end : ℕ) → AreSpaces w.outs.items w.places.items end → length w.pairs ≡ end → length w.due.items ≡ length w.outs.items → IsLaid w
laid_by w end h long due = record {
  places_long = h.long;
  due_long = due;
  few = (let few = h.few in omega (arith, long, few));
  room = λ x low. let a = h.room x low in omega (arith, a, long);
  apart = h.apart;
}
