-- What functions do themselves, function by function.
use Rattle.std.proofs.Common.{◌≡◌, ◌<◌, ◌||◌, ◌+◌, ℕ, zero, suc, false, List, [], ◌∷◌, length, get_or, inl, inr, Some, slice_get, Contains, sym, ap, ◌∙◌, subst, arith}
use Rattle.std.specs.Borrow.{Bor}
use Rattle.std.specs.Option.{option_map_or}
use Rattle.std.proofs.lemmas.Bool.{false≢true, cases_Bool, cases_eq}
use Rattle.std.proofs.lemmas.List.{length-map}
use Rattle.bit_rows.specs.Sets.{has}
use Rattle.bit_rows.proofs.TableLemmas.{sized_empty}
use Rattle.bit_rows.specs.Tables.{Table, the_set, empty_table, Holds, IsSized}
use Rattle.c_tree.specs.declared.program.Function.{Function}
use Rattle.c_tree.specs.declared.program.Program.{Program}
use Rattle.dep_model.specs.declared.points_to.PointsTo.{PointsTo}
use Rattle.dep_model.specs.Denoted.{Places}
use Rattle.dep_model.specs.Doings.{body_doings, doings_of}
use Rattle.dep_model.specs.LocationLists.{location_list}
use Rattle.dep_model.specs.LocationRows.{points_of, HasPointsRows}
use Rattle.dep_model.specs.Locations.{TypedLocation, locations}
use Rattle.effect_rows.specs.Laws.{GainsByPlace}
use Rattle.rule_closure.proofs.ListLemmas.{contains_none}
use Rattle.mod_ref.specs.declared.own.Own.{Own}
use Rattle.mod_ref.specs.Own.{IsCallIn, AreCallsAdded, any_defines, any_uses, HasOwnRows, IsAdded, IsOwn}
use Rattle.mod_ref.proofs.ColumnLemmas.{empty_holds}

-- ---- no function yet

pub own_none : (p : Program) (t : PointsTo) (n m : ℕ) (w : Own) → HasOwnRows w → w.effects ≡ p → w.points.now ≡ t → w.modified ≡ empty_table n m → w.used ≡ empty_table n m → w.calls.items ≡ [] → IsOwn p t 0 w
own_none p t n m w rows program points modified used calls = record {
  rows = rows;
  program_is = program;
  points_is = points;
  modified_are = λ f k o low at. absurd (omega (arith, low));
  used_are = λ f k o low at. absurd (omega (arith, low));
  modified_below = λ f k h. absurd (false≢true (sym (empty_holds n m f k) ∙ sym (ap (λ u. has (the_set u f) k) modified) ∙ h));
  used_below = λ f k h. absurd (false≢true (sym (empty_holds n m f k) ∙ sym (ap (λ u. has (the_set u f) k) used) ∙ h));
  calls_are = λ r. (λ c. absurd (contains_none r (subst (λ rs. Contains rs r) calls c)), λ c. let lt = c.caller_in in absurd (omega (arith, lt)));
}

pub own_begins : (p : Program) (t : PointsTo) (n m : ℕ) (w : Own) → n ≡ length p.functions → m ≡ length (location_list p) → HasPointsRows p t → w.effects ≡ p → w.points.now ≡ t → w.functions ≡ n
    → w.modified ≡ empty_table n m → w.used ≡ empty_table n m → w.calls.items ≡ [] → IsOwn p t 0 w
own_begins p t n m w count long rows program points functions modified used calls =
    own_none p t n m w (record {
      functions_are = functions ∙ count ∙ sym (ap (λ (q : Program). length q.functions) program);
      points_are = subst (λ (q : Program). HasPointsRows q w.points.now) (sym program) (subst (HasPointsRows p) (sym points) rows);
      modified_sized = sized w.modified modified;
      used_sized = sized w.used used;
    }) program points modified used calls
  where
    sized : (u : Table) → u ≡ empty_table n m → IsSized (length w.effects.functions) (length (locations w.effects)) u
    sized u is =
        let wide : m ≡ length (locations p) = long ∙ length-map (locations p) (λ (o : TypedLocation). o.location) in
        subst (λ (q : Program). IsSized (length q.functions) (length (locations q)) u) (sym program)
        (subst (λ k. IsSized k (length (locations p)) u) count (subst (λ k. IsSized n k u) wide (subst (IsSized n m) (sym is) (sized_empty n m))))

-- ---- one function more

place : (fs : List Function) (i : ℕ) (g : Function) → i < length fs → g ≡ get_or fs i g → slice_get fs i ≡ Some g
place [] i g low at = absurd (omega (arith, low))
place (x ∷ fs) zero g low at = ap Some (sym at)
place (x ∷ fs) (suc i) g low at = place fs i g (omega (arith, low)) at

doings_at : (p : Program) (i : ℕ) (g : Function) → i < length p.functions → g ≡ get_or p.functions i g → doings_of p i ≡ body_doings g.body
doings_at p i g low at = ap (λ o. option_map_or (λ (f : Function). body_doings f.body) o []) (place p.functions i g low at)

module _ (p : Program) (i : ℕ) (does : ℕ → Places) where
  -- rows that say what each of the first functions does, and no more
  record AreBelow (n : ℕ) (t : Table) : Type 0 where
    are : (f k : ℕ) (o : TypedLocation) → f < n → slice_get (locations p) k ≡ Some o → has (the_set t f) k ≡ does f o.location
    below : (f k : ℕ) → Holds t f k → f < n

  rows_turn : (old new : Table) → AreBelow i old → GainsByPlace p i (does i) old new → AreBelow (i + 1) new
  rows_turn old new b g = record {
    are = λ f k o low at. elim (cases_eq f i) [
      | inl same ↦ ap (λ h. has (the_set new h) k) same ∙ g.gained k o at ∙ ap (λ x. x || does i o.location) (unheld k) ∙ ap (λ h. does h o.location) (sym same)
      | inr apart ↦ ap (λ s. has s k) (g.others f apart) ∙ b.are f k o (omega (arith, low, apart)) at
    ];
    below = λ f k h. elim (cases_eq f i) [
      | inl same ↦ omega (arith, same)
      | inr apart ↦ let lt = b.below f k (sym (ap (λ s. has s k) (g.others f apart)) ∙ h) in omega (arith, lt)
    ];
  }
    where
      unheld : (k : ℕ) → has (the_set old i) k ≡ false
      unheld k = elim (cases_Bool (has (the_set old i) k)) [
        | inl held ↦ let lt = b.below i k held in absurd (omega (arith, lt))
        | inr none ↦ none
      ]

pub own_turn : (p : Program) (t : PointsTo) (i : ℕ) (g : Function) (old new : Own) → i < length p.functions → g ≡ get_or p.functions i g → IsOwn p t i old → IsAdded i (body_doings g.body) old new → IsOwn p t (i + 1) new
own_turn p t i g old new low at own added =
    let is = sym (doings_at p i g low at) in
    let points : points_of old.effects old.points.now ≡ points_of p t = ap (λ q. points_of q old.points.now) own.program_is ∙ ap (points_of p) own.points_is in
    let modified : GainsByPlace p i (any_defines p (points_of p t) i (doings_of p i)) old.modified new.modified =
    subst (λ ds. GainsByPlace p i (any_defines p (points_of p t) i ds) old.modified new.modified) is
    (subst (λ u. GainsByPlace p i (any_defines p (points_of p u) i (body_doings g.body)) old.modified new.modified) own.points_is
    (subst (λ q. GainsByPlace q i (any_defines q (points_of q old.points.now) i (body_doings g.body)) old.modified new.modified) own.program_is added.modified)) in
    let used : GainsByPlace p i (any_uses p (points_of p t) (doings_of p i)) old.used new.used =
    subst (λ ds. GainsByPlace p i (any_uses p (points_of p t) ds) old.used new.used) is
    (subst (λ u. GainsByPlace p i (any_uses p (points_of p u) (body_doings g.body)) old.used new.used) own.points_is
    (subst (λ q. GainsByPlace q i (any_uses q (points_of q old.points.now) (body_doings g.body)) old.used new.used) own.program_is added.used)) in
    let count : old.functions ≡ length p.functions = own.rows.functions_are ∙ ap (λ (q : Program). length q.functions) own.program_is in
    let calls : AreCallsAdded (length p.functions) i (doings_of p i) old.calls.items new.calls.items =
    subst (λ n. AreCallsAdded n i (doings_of p i) old.calls.items new.calls.items) count
    (subst (λ ds. AreCallsAdded old.functions i ds old.calls.items new.calls.items) is added.calls) in
    let defined = rows_turn p i (λ f. any_defines p (points_of p t) f (doings_of p f)) old.modified new.modified (record { are = own.modified_are; below = own.modified_below }) modified in
    let read = rows_turn p i (λ f. any_uses p (points_of p t) (doings_of p f)) old.used new.used (record { are = own.used_are; below = own.used_below }) used in
    record {
      rows = added.on.rows;
      program_is = added.on.program_is ∙ own.program_is;
      points_is = ap (λ (b : Bor PointsTo). b.now) added.on.points_is ∙ own.points_is;
      modified_are = defined.are;
      used_are = read.are;
      modified_below = defined.below;
      used_below = read.below;
      calls_are = λ r. (
        λ c. elim ((calls r).0 c) [
          | inl before ↦ let b = (own.calls_are r).0 before in let lt = b.caller_in in record { caller = b.caller; caller_in = omega (arith, lt); call = b.call }
          | inr here ↦ record { caller = i; caller_in = omega arith; call = here }
        ],
        λ b. elim (cases_eq b.caller i) [
          | inl same ↦ (calls r).1 (inr (subst (λ f. IsCallIn (length p.functions) f (doings_of p f) r) same b.call))
          | inr apart ↦ let lt = b.caller_in in (calls r).1 (inl ((own.calls_are r).1 (record { caller = b.caller; caller_in = omega (arith, lt, apart); call = b.call })))
        ],
      );
    }
