-- Rounds over a program: each gives derived pairs, and one that changes nothing has found all of them.
use Rattle.std.proofs.Common.{◌≡◌, ℕ, zero, suc, ◌+◌, ◌*◌, ◌<◌, ◌≤◌, List, [], ◌∷◌, ◌++◌, length, map, get_or, replicate, Bool, true, false, inl, inr, Some, refl, sym, ap, ◌∙◌, subst, arith}
use Rattle.std.specs.Prelude.{Contains, slice_get}
use Rattle.std.specs.List.{list_any}
use Rattle.std.specs.Option.{option_map_or}
use Rattle.std.proofs.lemmas.Bool.{false≢true, cases_lt, or_left, or_right}
use Rattle.std.proofs.lemmas.List.{get_or_default, get_or_past, get_or-replicate, length-replicate}
use Rattle.std.proofs.lemmas.List.Sums.{sum_by-le, count_by-le-length}
use Rattle.bit_rows.specs.Sets.{has, count_of}
use Rattle.bit_rows.specs.Tables.{Table, the_set, empty_table, Holds, IsSized, count_all}
use Rattle.bit_rows.proofs.SetLemmas.{has-empty}
use Rattle.rule_closure.proofs.ListLemmas.{contains_none}
use Rattle.c_tree.specs.declared.program.Function.{Function}
use Rattle.c_tree.specs.declared.program.Program.{Program}
use Rattle.dep_model.specs.declared.location.Location.{Location}
use Rattle.dep_model.specs.declared.points_to.PointsTo.{PointsTo}
use Rattle.dep_model.specs.Denoted.{TargetsOf, is_location}
use Rattle.dep_model.specs.Doings.{Doing, body_doings, doings_of}
use Rattle.dep_model.specs.ListedLocations.{IsListed}
use Rattle.dep_model.specs.LocationRows.{points_of, HasPointsRows, ArePointsRows}
use Rattle.dep_model.specs.Locations.{TypedLocation, locations, same_location}
use Rattle.dep_model.specs.MayPoint.{Pointing, of_statement, of_global, MayPoint}
use Rattle.dep_model.proofs.Membership.{IsIn, in_of_contains}
use Rattle.effect_rows.proofs.PlaceRows.{location_itself}
use Rattle.points_laws.specs.Relations.{IsDerived, HasPairs, IsClosedOn}
use Rattle.points_laws.specs.Known.{AreGlobalsNowhere}
use Rattle.points_laws.proofs.Leastness.{all_derived}
use Rattle.points_to.specs.declared.solver.Solver.{Solver}
use Rattle.points_to.specs.declared.moves.Move.{Move}
use Rattle.points_to.specs.Agendas.{is_settled}
use Rattle.points_to.specs.Moves.{Told, told, storing, storing_below, AreMoves}
use Rattle.points_to.specs.Rounds.{gives, AreHeld, IsRound}
use Rattle.points_to.proofs.PointPlaces.{are_held}
use Rattle.points_to.proofs.MoveLemmas.{of_program, move_gives}

-- ---- function after function

pub place : {A : Type 0} (fs : List A) (i : ℕ) (g : A) → i < length fs → g ≡ get_or fs i g → slice_get fs i ≡ Some g
place [] i g low at = absurd (omega (arith, low))
place (x ∷ fs) zero g low at = ap Some (sym at)
place (x ∷ fs) (suc i) g low at = place fs i g (omega (arith, low)) at

module _ (p : Program) where
  -- one function more
  pub function_turn : (i : ℕ) (g : Function) (moves : List Move) (old : List Told) → i < length p.functions → g ≡ get_or p.functions i g → old ≡ storing_below p i → map told moves ≡ old ++ storing p i (body_doings g.body) → map told moves ≡ storing_below p (i + 1)
  function_turn i g moves old low at before one =
      let next : suc i ≡ i + 1 = omega arith in
      let is : doings_of p i ≡ body_doings g.body = ap (λ o. option_map_or (λ (f : Function). body_doings f.body) o []) (place p.functions i g low at) in
      subst (λ k. map told moves ≡ storing_below p k) next (one ∙ ap (λ xs. xs ++ storing p i (body_doings g.body)) before ∙ ap (λ ds. storing_below p i ++ storing p i ds) (sym is))

  -- a function that has a statement is one of the program
  pub stated : (fs : List Function) (f : ℕ) (d : Doing) → Contains (option_map_or (λ (g : Function). body_doings g.body) (slice_get fs f) []) d → f < length fs
  stated [] f d c = absurd (contains_none d c)
  stated (g ∷ fs) zero d c = omega arith
  stated (g ∷ fs) (suc f) d c = let low = stated fs f d c in omega (arith, low)

  -- ---- the end

  known_in : (os : List TypedLocation) (l : Location) → IsIn (map (λ (o : TypedLocation). o.location) os) l → list_any (λ (o : TypedLocation). same_location o.location l) os ≡ true
  known_in [] l h = absurd h
  known_in (o ∷ os) l (inl e) = or_left (same_location o.location l) _ (subst (λ m. same_location o.location m ≡ true) e (location_itself o.location))
  known_in (o ∷ os) l (inr h) = or_right (same_location o.location l) _ (known_in os l h)

  known_listed : (l : Location) → IsListed p l → is_location p l ≡ true
  known_listed l h = known_in (locations p) l (in_of_contains (map (λ (o : TypedLocation). o.location) (locations p)) l h)

  inside : (moves : List Move) (k : ℕ) (m : Move) → slice_get moves k ≡ Some m → k < length moves
  inside [] k m at = cc
  inside (x ∷ moves) zero m at = omega arith
  inside (x ∷ moves) (suc k) m at = let low = inside moves k m at in omega (arith, low)

  closed_all : (moves : List Move) (points : TargetsOf) → AreMoves p moves → AreGlobalsNowhere p → ((k : ℕ) (m : Move) → k < length moves → slice_get moves k ≡ Some m → (a : Pointing) → Contains (gives p m points) a → HasPairs (is_location p) points a) → IsClosedOn p (is_location p) points
  closed_all moves points are globals closed a (of_statement f k) = elim (are.whole f k.doing k.member) [
    | inl move ↦ closed move.place move.move (inside moves move.place move.move move.at) move.at a (move_gives p moves f k.doing points a move k.given)
    | inr nowhere ↦ λ l m known_l known_m into from. absurd (nowhere points a k.given m from)
  ]
  closed_all moves points are globals closed a (of_global i k given) = λ l m known_l known_m into from. absurd (false≢true (sym (globals points i a m k given) ∙ from))

  -- a round that changes nothing has found all
  pub settled : (moves : List Move) (old new : Solver) → AreMoves p moves → ((l m : Location) → MayPoint p l m → IsListed p l × IsListed p m) → AreGlobalsNowhere p → IsDerived p (points_of p old.points) → AreHeld p moves old → IsRound p moves 0 (length moves) old new false → ArePointsRows p new.points
  settled moves old new are pairs globals derived held round =
      let points = points_of p new.points in
      record {
        sized = subst (λ (q : Program). HasPointsRows q new.points) round.program_stays round.ready.points_are;
        exact = all_derived p (is_location p) points (λ l m h. let both = pairs l m h in (known_listed l both.0, known_listed m both.1))
            (round.sound (of_program p moves are) derived) (closed_all moves points are globals (λ k m low at a c. round.closed held refl k m (omega arith) low at a c));
      }

  -- no statement is settled at first
  pub held_begins : (moves : List Move) (w : Solver) → ((k : ℕ) → is_settled w.agenda k ≡ false) → AreHeld p moves w
  held_begins moves w none k m at h = absurd (false≢true (sym (none k) ∙ h))

  -- no location points anywhere at first
  pub nowhere_derived : (t : PointsTo) (n m : ℕ) → t.rows ≡ empty_table n m → IsDerived p (points_of p t)
  nowhere_derived t n m is l k h =
      let w = are_held p t l k h in
      let here : Holds (empty_table n m) w.first.place w.second.place = subst (λ (u : Table). Holds u w.first.place w.second.place) is w.holds in
      absurd (false≢true (sym (empty_row w.first.place w.second.place) ∙ here))
    where
      empty_row : (j i : ℕ) → has (the_set (empty_table n m) j) i ≡ false
      empty_row j i = elim (cases_lt j n) [
        | inl low ↦ ap (λ s. has s i) (get_or-replicate n j (replicate m false) [] low) ∙ has-empty m i
        | inr high ↦
            let long : length (replicate n (replicate m false)) ≡ n = length-replicate n (replicate m false) in
            ap (λ s. has s i) (get_or_past (replicate n (replicate m false)) j [] (omega (arith, high, long)))
      ]

-- ---- how often rows may grow

pub count_bounded : (n : ℕ) (t : Table) → IsSized n n t → count_all t ≤ n * n
count_bounded n t s =
    let each = sum_by-le count_of n t.sets (λ k d h.
    let row : List Bool = get_or t.sets k d in
    let rows = s.rows_are in
    let long : length row ≡ n = ap length (get_or_default t.sets k d [] h) ∙ s.full k (omega (arith, rows, h)) in
    let most = count_by-le-length (λ (b : Bool). b) row in
    omega (arith, long, most)) in
    subst (λ m. count_all t ≤ m) (ap (λ k. k * n) s.rows_are) each
