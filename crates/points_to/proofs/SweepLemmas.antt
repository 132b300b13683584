-- One pointing is used, and then others.
use Rattle.std.proofs.Common.{◌≡◌, ◌⊎◌, ◌&&◌, ◌||◌, ℕ, List, [], ◌∷◌, ◌++◌, Bool, true, false, inl, inr, refl, sym, ap, ◌∙◌, subst}
use Rattle.std.specs.Prelude.{Contains}
use Rattle.std.proofs.lemmas.Bool.{and_parts, and_from, or_cases, or_right}
use Rattle.bit_rows.specs.Sets.{has}
use Rattle.bit_rows.specs.Tables.{the_set, Holds, IsGrown}
use Rattle.rule_closure.proofs.ListLemmas.{contains_none, contains_head, contains_cases}
use Rattle.c_tree.specs.declared.program.Program.{Program}
use Rattle.dep_model.specs.declared.location.Location.{Location}
use Rattle.dep_model.specs.declared.points_to.PointsTo.{PointsTo}
use Rattle.dep_model.specs.Denoted.{Places, TargetsOf, is_location}
use Rattle.dep_model.specs.LocationLists.{AreListedOnce}
use Rattle.dep_model.specs.LocationRows.{points_of}
use Rattle.dep_model.specs.MayPoint.{Pointing, IsPointing, by}
use Rattle.dep_model.proofs.Membership.{in_of_contains, contains_of_in, in_first, in_second, in_either}
use Rattle.effect_rows.specs.Gains.{row_of}
use Rattle.effect_rows.proofs.StepRows.{has_row_of}
use Rattle.points_laws.specs.Relations.{LiesIn, IsDerived, HasPairs}
use Rattle.points_laws.proofs.Wider.{IsGivenBy, AreGivenBy}
use Rattle.points_to.specs.declared.solver.Solver.{Solver}
use Rattle.points_to.specs.Sweeps.{Standing, standing, IsReady, IsJoined, IsUsed, IsSwept}
use Rattle.points_to.proofs.GrownLemmas.{grown_none, grown_both}
use Rattle.points_to.proofs.PointPlaces.{listed_at, are_held, held_points, more_points}
use Rattle.points_to.proofs.TellLemmas.{told_none, told_both}

-- ---- what lists contain

pub contains_first : {A : Type 0} (xs ys : List A) (x : A) → Contains xs x → Contains (xs ++ ys) x
contains_first xs ys x c = contains_of_in (xs ++ ys) x (in_first xs ys x (in_of_contains xs x c))

pub contains_second : {A : Type 0} (xs ys : List A) (x : A) → Contains ys x → Contains (xs ++ ys) x
contains_second xs ys x c = contains_of_in (xs ++ ys) x (in_second xs ys x (in_of_contains ys x c))

pub contains_either : {A : Type 0} (xs ys : List A) (x : A) → Contains (xs ++ ys) x → Contains xs x ⊎ Contains ys x
contains_either xs ys x c = elim (in_either xs ys x (in_of_contains (xs ++ ys) x c)) [ inl h ↦ inl (contains_of_in xs x h) | inr h ↦ inr (contains_of_in ys x h) ]

-- ---- a pointing whose sides are rows

-- rows that have gained those of the right side in those of the left have gained what the pointing gives
pub joined_used : (a : Pointing) (old new : Solver) (changed : Bool) → IsReady old → the_set old.sides 0 ≡ row_of old.effects a.into → the_set old.sides 1 ≡ row_of old.effects a.from → IsJoined old new changed → IsUsed old.effects a (standing old) new changed
joined_used a old new changed ready left right joined = record {
  ready = joined.ready;
  program_stays = joined.program_stays;
  grown = joined.grown;
  told = joined.told;
  from_old = from_old;
  gained = gained;
}
  where
    from_old : (l m : Location) → points_of old.effects new.points l m ≡ true → (points_of old.effects old.points l m ≡ true) ⊎ ((a.into l ≡ true) × (a.from m ≡ true))
    from_old l m h =
        let w = are_held old.effects new.points l m h in
        let j = w.first.place in
        let k = w.second.place in
        elim (or_cases (has (the_set old.points.rows j) k) (has (the_set old.sides 0) j && has (the_set old.sides 1) k) (sym (joined.gained j k) ∙ w.holds)) [
          | inl before ↦ inl (held_points old.effects ready.once old.points l m w.first w.second before)
          | inr both ↦
              let sides = and_parts (has (the_set old.sides 0) j) (has (the_set old.sides 1) k) both in
              inr (
                subst (λ n. a.into n ≡ true) w.first.is (sym (has_row_of old.effects a.into j w.first.typed w.first.at) ∙ ap (λ s. has s j) (sym left) ∙ sides.0),
                subst (λ n. a.from n ≡ true) w.second.is (sym (has_row_of old.effects a.from k w.second.typed w.second.at) ∙ ap (λ s. has s k) (sym right) ∙ sides.1),
              )
        ]

    gained : HasPairs (is_location old.effects) (points_of old.effects new.points) a
    gained l m known_l known_m into from =
        let first = listed_at old.effects l known_l in
        let second = listed_at old.effects m known_m in
        let j = first.place in
        let k = second.place in
        let here : has (the_set old.sides 0) j ≡ true = ap (λ s. has s j) left ∙ has_row_of old.effects a.into j first.typed first.at ∙ ap a.into first.is ∙ into in
        let there : has (the_set old.sides 1) k ≡ true = ap (λ s. has s k) right ∙ has_row_of old.effects a.from k second.typed second.at ∙ ap a.from second.is ∙ from in
        held_points old.effects ready.once new.points l m first second
        (joined.gained j k ∙ or_right (has (the_set old.points.rows j) k) (has (the_set old.sides 0) j && has (the_set old.sides 1) k) (and_from (has (the_set old.sides 0) j) (has (the_set old.sides 1) k) here there))

-- the same where the rows, and the program, are told of by others that are equal to them
pub used_moved : (p : Program) (t : Standing) (a : Program → PointsTo → Pointing) (mid new : Solver) (changed : Bool) → mid.effects ≡ p → standing mid ≡ t → IsUsed mid.effects (a mid.effects mid.points) (standing mid) new changed → IsUsed p (a p t.points) t new changed
used_moved p t a mid new changed program points used =
    subst (λ (u : Standing). IsUsed p (a p u.points) u new changed) points (subst (λ q. IsUsed q (a q mid.points) (standing mid) new changed) program used)

pub swept_moved : (p : Program) (t : Standing) (give : Program → TargetsOf → List Pointing) (mid new : Solver) (changed : Bool) → mid.effects ≡ p → standing mid ≡ t → IsSwept mid.effects (give mid.effects) (standing mid) new changed → IsSwept p (give p) t new changed
swept_moved p t give mid new changed program points swept =
    subst (λ (u : Standing). IsSwept p (give p) u new changed) points (subst (λ q. IsSwept q (give q) (standing mid) new changed) program swept)

-- ---- pairs that are held

-- they are held still where rows grow
pub pairs_stay : (p : Program) → AreListedOnce p → (t u : PointsTo) (a : Pointing) → ((r i : ℕ) → Holds t.rows r i → Holds u.rows r i) → HasPairs (is_location p) (points_of p t) a → HasPairs (is_location p) (points_of p u) a
pairs_stay p once t u a kept held l m known_l known_m into from = more_points p once t u kept l m (held l m known_l known_m into from)

-- and so are those of a pointing that is given by others
pub pairs_given : (known : Places) (points : TargetsOf) (bs : List Pointing) (a : Pointing) → IsGivenBy bs a → ((b : Pointing) → Contains bs b → HasPairs known points b) → HasPairs known points a
pairs_given known points bs a w each l m known_l known_m into from = each w.wider w.member l m known_l known_m (w.into l into) (w.from m from)

-- ---- sweeps

-- by more pairs each of some pointings gives no less
abbrev pub AreWidening : (TargetsOf → List Pointing) → Type 0
AreWidening give = (first second : TargetsOf) → LiesIn first second → AreGivenBy (give first) (give second)

module _ (p : Program) where
  -- no pointing
  pub swept_none : (give : TargetsOf → List Pointing) (t : Standing) (new : Solver) → IsReady new → new.effects ≡ p → standing new ≡ t → ((points : TargetsOf) → give points ≡ []) → IsSwept p give t new false
  swept_none give t new ready program same none = record {
    ready = ready;
    program_stays = program;
    grown = subst (λ (u : Standing). IsGrown u.points.rows new.points.rows false) same (grown_none new.points.rows);
    told = told_none t new same;
    sound = λ are derived. subst (λ (u : Standing). IsDerived p (points_of p u.points)) (sym same) derived;
    gained = λ a c. absurd (contains_none a (subst (λ as_. Contains as_ a) (none (points_of p t.points)) c));
  }

  -- one pointing
  pub swept_one : (give : TargetsOf → List Pointing) (a : Pointing) (t : Standing) (new : Solver) (changed : Bool) → give (points_of p t.points) ≡ a ∷ [] → IsUsed p a t new changed → IsSwept p give t new changed
  swept_one give a t new changed is used = record {
    ready = used.ready;
    program_stays = used.program_stays;
    grown = used.grown;
    told = used.told;
    sound = sound;
    gained = gained;
  }
    where
      sound : ((points : TargetsOf) (b : Pointing) → Contains (give points) b → IsPointing p points b) → IsDerived p (points_of p t.points) → IsDerived p (points_of p new.points)
      sound are derived l m h = elim (used.from_old l m h) [
        | inl before ↦ derived l m before
        | inr both ↦
            by (points_of p t.points) a derived (are (points_of p t.points) a (subst (λ as_. Contains as_ a) (sym is) (contains_head a []))) both.0 both.1
      ]

      gained : (b : Pointing) → Contains (give (points_of p t.points)) b → HasPairs (is_location p) (points_of p new.points) b
      gained b c = elim (contains_cases a [] b (subst (λ as_. Contains as_ b) is c)) [
        | inl one ↦ subst (HasPairs (is_location p) (points_of p new.points)) one used.gained
        | inr none_left ↦ absurd (contains_none b none_left)
      ]

  -- some pointings, and then others
  pub swept_then : (first second all : TargetsOf → List Pointing) (t : Standing) (mid new : Solver) (b c : Bool) → ((points : TargetsOf) → all points ≡ first points ++ second points) → AreWidening second → IsSwept p first t mid b → IsSwept p second (standing mid) new c → IsSwept p all t new (b || c)
  swept_then first second all t mid new b c is wide one two = record {
    ready = two.ready;
    program_stays = two.program_stays;
    grown = grown_both t.points.rows mid.points.rows new.points.rows b c one.grown two.grown;
    told = told_both t mid new one.told two.told;
    sound = λ are derived. two.sound (λ points a k. are points a (subst (λ as_. Contains as_ a) (sym (is points)) (contains_second (first points) (second points) a k)))
        (one.sound (λ points a k. are points a (subst (λ as_. Contains as_ a) (sym (is points)) (contains_first (first points) (second points) a k))) derived);
    gained = λ a k. elim (contains_either (first (points_of p t.points)) (second (points_of p t.points)) a (subst (λ as_. Contains as_ a) (is (points_of p t.points)) k)) [
      | inl early ↦ pairs_stay p once mid.points new.points a two.grown.kept (one.gained a early)
      | inr late ↦ pairs_given (is_location p) (points_of p new.points) (second (points_of p mid.points)) a (wide (points_of p t.points) (points_of p mid.points) (more_points p once t.points mid.points one.grown.kept) a late) two.gained
    ];
  }
    where
      once : AreListedOnce p
      once = subst AreListedOnce two.program_stays two.ready.once

  -- the same for calls, of which the second tells of the program that it finds
  pub swept_both : (first all : TargetsOf → List Pointing) (second : Program → TargetsOf → List Pointing) (t : Standing) (mid new : Solver) (b c : Bool) → ((points : TargetsOf) → all points ≡ first points ++ second p points) → AreWidening (second p) → IsSwept p first t mid b → IsSwept mid.effects (second mid.effects) (standing mid) new c → IsSwept p all t new (b || c)
  swept_both first all second t mid new b c is wide one two =
      swept_then first (second p) all t mid new b c is wide one (swept_moved p (standing mid) second mid new c one.program_stays refl two)

  -- told by equal lists of pointings
  pub swept_same : (give other : TargetsOf → List Pointing) (t : Standing) (new : Solver) (changed : Bool) → ((points : TargetsOf) → other points ≡ give points) → IsSwept p give t new changed → IsSwept p other t new changed
  swept_same give other t new changed is swept = record {
    ready = swept.ready;
    program_stays = swept.program_stays;
    grown = swept.grown;
    told = swept.told;
    sound = λ are derived. swept.sound (λ points a k. are points a (subst (λ as_. Contains as_ a) (sym (is points)) k)) derived;
    gained = λ a k. swept.gained a (subst (λ as_. Contains as_ a) (is (points_of p t.points)) k);
  }
