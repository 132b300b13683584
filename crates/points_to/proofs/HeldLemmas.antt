-- What a statement gives is held until a row grows that it has read.
use Rattle.std.proofs.Common.{◌≡◌, ℕ, ◌+◌, ◌<◌, ◌≤◌, ◌⊎◌, ◌||◌, List, Bool, true, false, inl, inr, Option, Some, None, refl, sym, ap, ◌∙◌, subst, arith}
use Rattle.std.specs.Prelude.{Contains, slice_get}
use Rattle.std.proofs.lemmas.Bool.{cases_lt, or_left, false≢true}
use Rattle.std.proofs.lemmas.Option.{same_Some}
use Rattle.bit_rows.specs.Sets.{has}
use Rattle.bit_rows.specs.Tables.{Table, Holds, the_set, IsGrown}
use Rattle.c_tree.specs.declared.program.Program.{Program}
use Rattle.dep_model.specs.declared.points_to.PointsTo.{PointsTo}
use Rattle.dep_model.specs.Denoted.{TargetsOf, either_of, is_location}
use Rattle.dep_model.specs.Doings.{Doing, Does, Calls}
use Rattle.dep_model.specs.LocationLists.{AreListedOnce}
use Rattle.dep_model.specs.LocationRows.{points_of}
use Rattle.dep_model.specs.Locations.{TypedLocation, locations}
use Rattle.dep_model.specs.MayPoint.{Pointing}
use Rattle.effect_rows.specs.Own.{own_doing, uses_of}
use Rattle.mod_ref.specs.Own.{one_of}
use Rattle.points_laws.specs.Relations.{LiesInAt, IsDerived, HasPairs, pointing_reads}
use Rattle.points_laws.proofs.ReadLemmas.{doing_decided}
use Rattle.points_laws.proofs.Wider.{AreGivenBy}
use Rattle.rule_closure.proofs.ListLemmas.{contains_none}
use Rattle.points_to.specs.declared.moves.Move.{Move}
use Rattle.points_to.specs.declared.solver.Solver.{Solver}
use Rattle.points_to.specs.Agendas.{is_settled}
use Rattle.points_to.specs.Rounds.{source_of, own_pointing_reads, gives, IsHeld, AreHeld, IsRound}
use Rattle.points_to.specs.Sweeps.{standing, IsReady, IsSwept, given_by}
use Rattle.points_to.proofs.GrownLemmas.{grown_none, grown_both}
use Rattle.points_to.proofs.PointPlaces.{are_held, held_points, same_points}
use Rattle.points_to.proofs.SweepLemmas.{pairs_stay, pairs_given}
use Rattle.points_to.proofs.ValueLemmas.{alone_gives}

-- ---- what a statement reads decides what it gives

doing_reads : (p : Program) (first second : TargetsOf) (d : Doing) → LiesInAt (either_of (uses_of p second (Some d)) (source_of (Some d))) first second → LiesInAt (pointing_reads p second d) first second
doing_reads p first second (Does i a) lies k n at = lies k n (or_left (uses_of p second (Some (Does i a)) k) false at)
doing_reads p first second (Calls i to g args) lies k n at = lies k n at

given_decided : (p : Program) (f : ℕ) (o : Option Doing) (first second : TargetsOf) → LiesInAt (either_of (uses_of p second o) (source_of o)) first second → AreGivenBy (given_by p f (one_of o) first) (given_by p f (one_of o) second)
given_decided p f None first second lies a c = absurd (contains_none a c)
given_decided p f (Some d) first second lies a c =
    let w = doing_decided p first second f d (doing_reads p first second d lies) a (subst (λ as_. Contains as_ a) (alone_gives p f d first) c) in
    record { wider = w.wider; member = subst (λ as_. Contains as_ w.wider) (sym (alone_gives p f d second)) w.member; into = w.into; from = w.from }

own_decided : (p : Program) (m : Move) (first second : TargetsOf) → LiesInAt (own_pointing_reads p second m.statement.now) first second → AreGivenBy (gives p m first) (gives p m second)
own_decided p m first second lies = given_decided p m.function (own_doing m.statement.now) first second lies

module _ (p : Program) (once : AreListedOnce p) where
  -- what a statement gave when it was used is held as long as no row that it read has changed
  pub held_at_use : (k : ℕ) (m : Move) (readers : Table) (t new : PointsTo)
      → ((j : ℕ) (o : TypedLocation) → slice_get (locations p) j ≡ Some o → own_pointing_reads p (points_of p t) m.statement.now o.location ≡ true → Holds readers j k)
      → ((j : ℕ) → Holds readers j k → the_set new.rows j ≡ the_set t.rows j)
      → ((a : Pointing) → Contains (gives p m (points_of p t)) a → HasPairs (is_location p) (points_of p new) a) → IsHeld p (gives p m) readers k new
  held_at_use k m readers t new noted same gained u within a c =
      pairs_given (is_location p) (points_of p new) (gives p m (points_of p t)) a (own_decided p m (points_of p u) (points_of p t) lies a c) gained
    where
      lies : LiesInAt (own_pointing_reads p (points_of p t) m.statement.now) (points_of p u) (points_of p t)
      lies l n read h =
          let w = are_held p u l n h in
          let j = w.first.place in
          let i = w.second.place in
          let mine : Holds readers j k = noted j w.first.typed w.first.at (subst (λ x. own_pointing_reads p (points_of p t) m.statement.now x ≡ true) (sym w.first.is) read) in
          held_points p once t l n w.first w.second (subst (λ (s : List Bool). has s i ≡ true) (same j mine) (within j i mine w.holds))

  -- and it is held still where other rows grow, and others read more
  pub held_still : (m : Move) (k : ℕ) (readers more : Table) (t new : PointsTo) → ((j : ℕ) → Holds readers j k → Holds more j k) → ((j : ℕ) → Holds more j k → the_set new.rows j ≡ the_set t.rows j) → ((r i : ℕ) → Holds t.rows r i → Holds new.rows r i)
      → IsHeld p (gives p m) readers k t → IsHeld p (gives p m) more k new
  held_still m k readers more t new wider same kept held u within a c =
      pairs_stay p once t new a kept (held u (λ j i r h. subst (λ (s : List Bool). has s i ≡ true) (same j (wider j r)) (within j i (wider j r) h)) a c)

-- one statement stands at a place of a list
same_move : (moves : List Move) (j k : ℕ) (n m : Move) → j ≡ k → slice_get moves j ≡ Some n → slice_get moves k ≡ Some m → n ≡ m
same_move moves j k n m same first second = same_Some n m (sym first ∙ ap (slice_get moves) same ∙ second)

-- ---- one statement is used

module _ (p : Program) (moves : List Move) (k : ℕ) (m : Move) (at : slice_get moves k ≡ Some m) where
  pub round_taken : (old mid new : Solver) (changed : Bool) → AreListedOnce p → mid.points ≡ old.points → mid.agenda.readers.bits ≡ old.agenda.readers.bits → ((l j : ℕ) → Holds old.agenda.readers l j → Holds mid.agenda.readers l j)
      → ((j : ℕ) (o : TypedLocation) → slice_get (locations p) j ≡ Some o → own_pointing_reads p (points_of p mid.points) m.statement.now o.location ≡ true → Holds mid.agenda.readers j k)
      → ((j : ℕ) → is_settled mid.agenda j ≡ true → (j ≡ k) ⊎ (is_settled old.agenda j ≡ true)) → IsSwept p (gives p m) (standing mid) new changed → IsRound p moves k (k + 1) old new changed
  round_taken old mid new changed once points bits more noted settled swept = record {
    ready = swept.ready;
    program_stays = swept.program_stays;
    statements_stay = ap (λ (t : Table). t.bits) swept.told.readers_stay ∙ bits;
    grown = subst (λ (t : PointsTo). IsGrown t.rows new.points.rows changed) points swept.grown;
    sound = λ are derived. swept.sound (λ q a c. are k m at q a c) (subst (λ (t : PointsTo). IsDerived p (points_of p t)) (sym points) derived);
    held = held;
    closed = closed;
  }
    where
      readers : new.agenda.readers ≡ mid.agenda.readers
      readers = swept.told.readers_stay

      held : AreHeld p moves old → AreHeld p moves new
      held all j n at_j h =
          let w = swept.told.told j h in
          subst (λ (t : Table). IsHeld p (gives p n) t j new.points) (sym readers) (elim (settled j w.0) [
            | inl same ↦
                subst (λ (x : Move). IsHeld p (gives p x) mid.agenda.readers j new.points) (sym (same_move moves j k n m same at_j at))
                (subst (λ i. IsHeld p (gives p m) mid.agenda.readers i new.points) (sym same)
                (held_at_use p once k m mid.agenda.readers mid.points new.points noted (λ i r. w.1 i (subst (Holds mid.agenda.readers i) (sym same) r)) swept.gained))
            | inr before ↦
                held_still p once n j old.agenda.readers mid.agenda.readers mid.points new.points (λ l r. more l j r) w.1 swept.grown.kept
                (subst (IsHeld p (gives p n) old.agenda.readers j) (sym points) (all j n at_j before))
          ])

      closed : AreHeld p moves old → changed ≡ false → (j : ℕ) (n : Move) → k ≤ j → j < k + 1 → slice_get moves j ≡ Some n → (a : Pointing) → Contains (gives p n (points_of p new.points)) a → HasPairs (is_location p) (points_of p new.points) a
      closed all none j n from to at_j a c =
          let same : j ≡ k = omega (arith, from, to) in
          let one : n ≡ m = same_move moves j k n m same at_j at in
          let still : points_of p new.points ≡ points_of p mid.points = same_points p mid.points new.points (swept.grown.same none) in
          swept.gained a (subst (λ q. Contains (gives p m q) a) still (subst (λ (x : Move). Contains (gives p x (points_of p new.points)) a) one c))

-- ---- statement after statement

module _ (p : Program) (moves : List Move) where
  -- a settled statement needs no use
  pub round_skipped : (k : ℕ) (w : Solver) → IsReady w → w.effects ≡ p → is_settled w.agenda k ≡ true → IsRound p moves k (k + 1) w w false
  round_skipped k w ready program settled = record {
    ready = ready;
    program_stays = program;
    statements_stay = refl;
    grown = grown_none w.points.rows;
    sound = λ are derived. derived;
    held = λ all. all;
    closed = λ all none j n from to at_j a c.
        let same : j ≡ k = omega (arith, from, to) in
        all j n at_j (subst (λ i. is_settled w.agenda i ≡ true) (sym same) settled) w.points (λ l i r h. h) a c;
  }

  -- none
  pub round_none : (from to : ℕ) (w : Solver) → to ≤ from → IsReady w → w.effects ≡ p → IsRound p moves from to w w false
  round_none from to w none ready program = record {
    ready = ready;
    program_stays = program;
    statements_stay = refl;
    grown = grown_none w.points.rows;
    sound = λ are derived. derived;
    held = λ all. all;
    closed = λ all same j n low high. absurd (omega (arith, low, high, none));
  }

  closed_both : (low high first last : ℕ) (mid new : Solver) (b c : Bool) (old : Solver) → IsRound p moves low high old mid b → IsRound p moves first last mid new c → AreHeld p moves old → (b || c) ≡ false
      → (j : ℕ) (n : Move) → ((low ≤ j) × (j < high)) ⊎ ((first ≤ j) × (j < last)) → slice_get moves j ≡ Some n → (a : Pointing) → Contains (gives p n (points_of p new.points)) a → HasPairs (is_location p) (points_of p new.points) a
  closed_both low high first last mid new true c old one two all none j n inside at a k = absurd (false≢true (sym none))
  closed_both low high first last mid new false true old one two all none j n inside at a k = absurd (false≢true (sym none))
  closed_both low high first last mid new false false old one two all none j n inside at a k =
      let same : points_of p new.points ≡ points_of p mid.points = same_points p mid.points new.points (two.grown.same refl) in
      elim inside [
        | inl early ↦ subst (λ q. HasPairs (is_location p) q a) (sym same) (one.closed all refl j n early.0 early.1 at a (subst (λ q. Contains (gives p n q) a) same k))
        | inr late ↦ two.closed (one.held all) refl j n late.0 late.1 at a k
      ]

  -- some statements, and then the next ones
  pub round_then : (from middle to : ℕ) (old mid new : Solver) (b c : Bool) → IsRound p moves from middle old mid b → IsRound mid.effects moves middle to mid new c → IsRound p moves from to old new (b || c)
  round_then from middle to old mid new b c one found =
      let two : IsRound p moves middle to mid new c = subst (λ q. IsRound q moves middle to mid new c) one.program_stays found in
      record {
        ready = two.ready;
        program_stays = two.program_stays;
        statements_stay = two.statements_stay ∙ one.statements_stay;
        grown = grown_both old.points.rows mid.points.rows new.points.rows b c one.grown two.grown;
        sound = λ are derived. two.sound are (one.sound are derived);
        held = λ all. two.held (one.held all);
        closed = λ all none j n low high. closed_both from middle middle to mid new b c old one two all none j n (elim (cases_lt j middle) [
          | inl less ↦ inl (low, less)
          | inr over ↦ inr (over, high)
        ]);
      }

  -- some statements, and then those in front of them
  pub round_back : (from middle to : ℕ) (old mid new : Solver) (b c : Bool) → IsRound p moves middle to old mid b → IsRound mid.effects moves from middle mid new c → IsRound p moves from to old new (b || c)
  round_back from middle to old mid new b c one found =
      let two : IsRound p moves from middle mid new c = subst (λ q. IsRound q moves from middle mid new c) one.program_stays found in
      record {
        ready = two.ready;
        program_stays = two.program_stays;
        statements_stay = two.statements_stay ∙ one.statements_stay;
        grown = grown_both old.points.rows mid.points.rows new.points.rows b c one.grown two.grown;
        sound = λ are derived. two.sound are (one.sound are derived);
        held = λ all. two.held (one.held all);
        closed = λ all none j n low high. closed_both middle to from middle mid new b c old one two all none j n (elim (cases_lt j middle) [
          | inl less ↦ inr (low, less)
          | inr over ↦ inl (over, high)
        ]);
      }
