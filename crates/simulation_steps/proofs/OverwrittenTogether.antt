-- What is overwritten in both programs is alike after.
use Rattle.std.proofs.Common.{◌≡◌, ℕ, List, [], ◌∷◌, map, Option, Some, None, Bool, true, inl, inr, refl, sym, ap, subst}
use Rattle.std.specs.Prelude.{option_map, is_some, slice_get}
use Rattle.std.specs.Option.{option_or}
use Rattle.std.proofs.lemmas.Bool.{false≢true}
use Rattle.c_language.proofs.Options.{none_there, some_same}
use Rattle.c_meaning.specs.declared.value.Hop.{Hop}
use Rattle.c_meaning.specs.declared.value.Place.{Place}
use Rattle.c_meaning.specs.declared.value.Value.{Value}
use Rattle.c_meaning.specs.Memory.{is_cell, read}
use Rattle.c_meaning.specs.Values.{Origin, OfVariable, OfStatement, State}
use Rattle.c_meaning.specs.Acts.{Store, Made, stored}
use Rattle.dep_model.specs.declared.location.Location.{Location}
use Rattle.dep_model.specs.DoingEffects.{the_input, result_of}
use Rattle.dep_model.proofs.Membership.{IsIn}
use Rattle.run_facts.specs.CellLocations.{location_in, location_of}
use Rattle.run_facts.specs.KeptCells.{IsSameCell}
use Rattle.run_facts.proofs.WrittenCells.{write_there}
use Rattle.simulation.specs.Renaming.{World, Stands, AlikeCell, empty, held, cell_at, Names, BlocksStand, AlikeAt}
use Rattle.simulation_steps.proofs.Outcomes.{AlikeList, nil, cons, AlikeStore, AlikeMade, CellsStand}
use Rattle.simulation_steps.proofs.StoredTogether.{storing_in, blocks_stored_in, over_alike, stores_alike, quiet_after, unread_after}

-- no cell lies in the input, or in a result
in_no_input : (os : List Origin) (q : Place) {A : Type 0} → location_of os q ≡ Some the_input → A
in_no_input os q {A} e = by_origin (slice_get os q.block) e
  where
    by_site : (i : ℕ) (hops : List Hop) → location_in (OfStatement i) hops ≡ the_input → A
    by_site i [] same = let root = ap (λ (l : Location). l.root) same in cc
    by_site i (h ∷ hops) same = let root = ap (λ (l : Location). l.root) same in cc

    by_origin : (o : Option Origin) → option_map (λ (z : Origin). location_in z q.path) o ≡ Some the_input → A
    by_origin None k = none_there k
    by_origin (Some (OfVariable y)) k = let root = ap (λ (l : Location). l.root) (some_same k) in cc
    by_origin (Some (OfStatement i)) k = by_site i q.path (some_same k)

in_no_result : (os : List Origin) (q : Place) (f : ℕ) {A : Type 0} → location_of os q ≡ Some (result_of f) → A
in_no_result os q f {A} e = by_origin (slice_get os q.block) e
  where
    by_site : (i : ℕ) (hops : List Hop) → location_in (OfStatement i) hops ≡ result_of f → A
    by_site i [] same = let root = ap (λ (l : Location). l.root) same in cc
    by_site i (h ∷ hops) same = let root = ap (λ (l : Location). l.root) same in cc

    by_origin : (o : Option Origin) → option_map (λ (z : Origin). location_in z q.path) o ≡ Some (result_of f) → A
    by_origin None k = none_there k
    by_origin (Some (OfVariable y)) k = let root = ap (λ (l : Location). l.root) (some_same k) in cc
    by_origin (Some (OfStatement i)) k = by_site i q.path (some_same k)

input_is_no_result : (f : ℕ) {A : Type 0} → the_input ≡ result_of f → A
input_is_no_result f e = let root = ap (λ (l : Location). l.root) e in cc

module _ (names : Names) (outside : Location → Bool) (w : World) (s t : State) (blocks : BlocksStand names w s t) (cells : CellsStand w s t) (v u : Made) (made_ : AlikeMade w v u) where
  -- a cell into which something is stored
  pub over_one : (ws xs : List Store) (m n : State) (b c : ℕ) (path : List Hop) → AlikeList (AlikeStore w) ws xs → BlocksStand names w m n → Stands w b c → is_cell m.memory (cell_at b path) ≡ true → is_cell n.memory (cell_at c path) ≡ true → IsIn (map (λ (x : Store). x.place) ws) (cell_at b path) → AlikeCell w (read (stored ws m.memory) (cell_at b path)) (read (stored xs n.memory) (cell_at c path))
  over_one ws xs m n b c path nil stand e live live_there i = absurd i
  over_one ws xs m n b c path (cons {a = x} {b = y} {as_ = us} {bs = vs} k more) stand e live live_there i =
      let stand1 = blocks_stored_in names w (x ∷ []) (y ∷ []) m n stand in
      let live1 = write_there m.memory x.place (cell_at b path) x.value live in
      let live2 = write_there n.memory y.place (cell_at c path) y.value live_there in
      by_place i stand1 live1 live2 (λ q. over_one us vs (storing_in names w (x ∷ []) m) (storing_in names w (y ∷ []) n) b c path more stand1 e live1 live2 q)
    where
      Result : Type 0
      Result = AlikeCell w (read (stored (x ∷ us) m.memory) (cell_at b path)) (read (stored (y ∷ vs) n.memory) (cell_at c path))

      by_place : IsIn (map (λ (z : Store). z.place) (x ∷ us)) (cell_at b path) → BlocksStand names w (storing_in names w (x ∷ []) m) (storing_in names w (y ∷ []) n) → is_cell (storing_in names w (x ∷ []) m).memory (cell_at b path) ≡ true → is_cell (storing_in names w (y ∷ []) n).memory (cell_at c path) ≡ true → (IsIn (map (λ (z : Store). z.place) us) (cell_at b path) → Result) → Result
      by_place (inl is) stand1 live1 live2 later =
          let same : IsSameCell m.memory x.place (cell_at b path) = subst (λ q. IsSameCell m.memory x.place q) is (record { block_is = refl; numbers_are = λ d at. refl }) in
          stores_alike names w us vs (storing_in names w (x ∷ []) m) (storing_in names w (y ∷ []) n) b c path more stand1 e live1 live2 (over_alike names w m n stand x.place y.place x.value y.value b c path k.place k.value e same live live_there)
      by_place (inr j) stand1 live1 live2 later = later j

  pub input_over : s.unread ≡ t.unread → AlikeAt outside w the_input (quiet_after v s) (quiet_after u t)
  input_over same = record {
    cells = λ b c path e counts live is. in_no_input s.origins (cell_at b path) is;
    input = λ e. unread_after names outside w s t blocks cells v u made_ same;
    result = λ f e. input_is_no_result f e;
  }

  returned_over : (a b c d : Option Value) → AlikeCell w a c → is_some a ≡ true → AlikeCell w (option_or a b) (option_or c d)
  returned_over a b c d empty h = absurd (false≢true h)
  returned_over a b c d (held e) h = held e

  pub result_over : (f : ℕ) → is_some v.returned ≡ true → AlikeAt outside w (result_of f) (quiet_after v s) (quiet_after u t)
  result_over f is = record {
    cells = λ b c path e counts live at. in_no_result s.origins (cell_at b path) f at;
    input = λ e. input_is_no_result f (sym e);
    result = λ g e. returned_over v.returned s.returned u.returned t.returned made_.returned is;
  }
