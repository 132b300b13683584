-- The right side is joined into row after row.
use Rattle.std.proofs.Common.{◌≡◌, ◌≢◌, ◌&&◌, ◌||◌, ℕ, ◌+◌, ◌<◌, ◌≤◌, List, length, Bool, true, false, inl, inr, refl, sym, ap, ◌∙◌, subst, arith}
use Rattle.std.proofs.lemmas.Bool.{cases_eq, cases_lt}
use Rattle.std.proofs.lemmas.List.{length-map}
use Rattle.bit_rows.specs.Sets.{has, union}
use Rattle.bit_rows.specs.Tables.{Table, the_set, with_set, Holds, IsSized, IsGrown}
use Rattle.bit_rows.proofs.SetLemmas.{has-union, has_past}
use Rattle.bit_rows.proofs.TableLemmas.{the_set-with_set, other-with_set, join_sized}
use Rattle.dep_model.specs.LocationLists.{location_list}
use Rattle.dep_model.specs.Locations.{TypedLocation, locations}
use Rattle.points_to.specs.declared.agenda.Agenda.{Agenda}
use Rattle.points_to.specs.declared.solver.Solver.{Solver}
use Rattle.points_to.specs.Agendas.{IsAgenda, is_settled}
use Rattle.points_to.specs.Sweeps.{standing, IsReady, IsTold, IsGrownAt, IsJoinedAt, IsJoined}
use Rattle.points_to.proofs.ReadyLemmas.{ready_again}
use Rattle.points_to.proofs.GrownLemmas.{grown_none, grown_both}
use Rattle.points_to.proofs.TellLemmas.{told_none, told_both}

or_none : (b : Bool) → (b || false) ≡ b
or_none true = refl
or_none false = refl

-- ---- one row

module _ (n : ℕ) (old new : Table) (r : ℕ) (s : List Bool) (size : IsSized n n old) (r_in : r < n) (long : length s ≡ n) (is : new ≡ with_set old r (union (the_set old r) s)) where
  pub row_joined : (k : ℕ) → has (the_set new r) k ≡ (has (the_set old r) k || has s k)
  row_joined k =
      let place : r < length old.sets = let rows = size.rows_are in omega (arith, rows, r_in) in
      ap (λ (t : Table). has (the_set t r) k) is ∙ ap (λ (v : List Bool). has v k) (the_set-with_set old r (union (the_set old r) s) place) ∙ has-union (the_set old r) s k (size.full r r_in ∙ sym long)

  pub others_stay : (j : ℕ) → j ≢ r → the_set new j ≡ the_set old j
  others_stay j apart = ap (λ (t : Table). the_set t j) is ∙ other-with_set old r j (union (the_set old r) s) apart

  pub rows_sized : IsSized n n new
  rows_sized = join_sized n n old new r s size r_in long is

list_long : (w : Solver) → length (location_list w.effects) ≡ length (locations w.effects)
list_long w = length-map (locations w.effects) (λ (o : TypedLocation). o.location)

-- a row that has gained the right side, and of which it is told where it has grown
pub grown_at : (place : ℕ) (old new : Solver) (changed : Bool) → IsReady old → place < length (location_list old.effects) → new.effects ≡ old.effects → new.program ≡ old.program → new.list ≡ old.list → new.sides ≡ old.sides
    → new.points.rows ≡ with_set old.points.rows place (union (the_set old.points.rows place) (the_set old.sides 1)) → IsGrown old.points.rows new.points.rows changed
    → IsAgenda (length (locations old.effects)) new.agenda → IsTold (standing old) new → IsGrownAt place old new changed
grown_at place old new changed ready low effects program list sides is grown agenda told =
    let long = list_long old in
    let n = length (locations old.effects) in
    let inside : place < n = omega (arith, long, low) in
    let wide : length (the_set old.sides 1) ≡ n = ready.sides_are.full 1 (omega arith) in
    let size : IsSized n n old.points.rows = ready.points_are.sized in
    record {
      ready = ready_again old new ready effects program list (record { sized = rows_sized n old.points.rows new.points.rows place (the_set old.sides 1) size inside wide is }) (subst (IsSized 3 n) (sym sides) ready.sides_are) agenda;
      sides_stay = sides;
      program_stays = effects;
      rows = is;
      grown = grown;
      told = told;
    }

-- where the row has grown, what has read it isn't settled
pub told_grown : (place : ℕ) (old new : Solver) → new.points.rows ≡ with_set old.points.rows place (union (the_set old.points.rows place) (the_set old.sides 1)) → new.agenda.readers ≡ old.agenda.readers
    → ((k : ℕ) → is_settled new.agenda k ≡ true → (is_settled old.agenda k ≡ true) × (Holds old.agenda.readers place k → ⊥)) → IsTold (standing old) new
told_grown place old new is readers told = record {
  readers_stay = readers;
  told = λ k h.
      let w = told k h in (
        w.0,
        λ j r.
            let apart : j ≢ place = λ same. w.1 (subst (λ i. Holds old.agenda.readers i k) same r) in
            ap (λ (t : Table). the_set t j) is ∙ other-with_set old.points.rows place j (union (the_set old.points.rows place) (the_set old.sides 1)) apart,
      );
}

-- where it hasn't grown there is nothing to tell
pub told_same : (old new : Solver) → new.points.rows ≡ old.points.rows → new.agenda ≡ old.agenda → IsTold (standing old) new
told_same old new same agenda = record {
  readers_stay = ap (λ (a : Agenda). a.readers) agenda;
  told = λ k h. (subst (λ (a : Agenda). is_settled a k ≡ true) agenda h, λ j r. ap (λ (t : Table). the_set t j) same);
}

-- the row at a place of the left side
pub joined_in : (place : ℕ) (old new : Solver) (changed : Bool) → IsReady old → place < length (location_list old.effects) → has (the_set old.sides 0) place ≡ true → IsGrownAt place old new changed → IsJoinedAt place old new changed
joined_in place old new changed ready low left g =
    let long = list_long old in
    let n = length (locations old.effects) in
    let inside : place < n = omega (arith, long, low) in
    let wide : length (the_set old.sides 1) ≡ n = ready.sides_are.full 1 (omega arith) in
    let size : IsSized n n old.points.rows = ready.points_are.sized in
    record {
      ready = g.ready;
      sides_stay = g.sides_stay;
      program_stays = g.program_stays;
      grown = g.grown;
      told = g.told;
      here = λ k. row_joined n old.points.rows new.points.rows place (the_set old.sides 1) size inside wide g.rows k ∙ ap (λ b. has (the_set old.points.rows place) k || (b && has (the_set old.sides 1) k)) (sym left);
      others = others_stay n old.points.rows new.points.rows place (the_set old.sides 1) size inside wide g.rows;
    }

-- the row at a place that isn't on the left
pub joined_out : (place : ℕ) (old : Solver) → IsReady old → has (the_set old.sides 0) place ≡ false → IsJoinedAt place old old false
joined_out place old ready left = record {
  ready = ready;
  sides_stay = refl;
  program_stays = refl;
  grown = grown_none old.points.rows;
  told = told_none (standing old) old refl;
  here = λ k. sym (ap (λ b. has (the_set old.points.rows place) k || (b && has (the_set old.sides 1) k)) left ∙ or_none (has (the_set old.points.rows place) k));
  others = λ j apart. refl;
}

-- ---- the rows of the first places

pub record IsJoinedBelow (n : ℕ) (old new : Solver) (changed : Bool) : Type 0 where
  pub ready : IsReady new
  pub sides_stay : new.sides ≡ old.sides
  pub program_stays : new.effects ≡ old.effects
  pub grown : IsGrown old.points.rows new.points.rows changed
  pub told : IsTold (standing old) new
  pub done : (j k : ℕ) → j < n → has (the_set new.points.rows j) k ≡ (has (the_set old.points.rows j) k || (has (the_set old.sides 0) j && has (the_set old.sides 1) k))
  pub to_come : (j : ℕ) → n ≤ j → the_set new.points.rows j ≡ the_set old.points.rows j

pub joined_none : (old : Solver) → IsReady old → IsJoinedBelow 0 old old false
joined_none old ready = record {
  ready = ready;
  sides_stay = refl;
  program_stays = refl;
  grown = grown_none old.points.rows;
  told = told_none (standing old) old refl;
  done = λ j k low. absurd (omega (arith, low));
  to_come = λ j high. refl;
}

pub joined_more : (n : ℕ) (old mid new : Solver) (b c : Bool) → IsJoinedBelow n old mid b → IsJoinedAt n mid new c → IsJoinedBelow (n + 1) old new (b || c)
joined_more n old mid new b c before one = record {
  ready = one.ready;
  sides_stay = one.sides_stay ∙ before.sides_stay;
  program_stays = one.program_stays ∙ before.program_stays;
  grown = grown_both old.points.rows mid.points.rows new.points.rows b c before.grown one.grown;
  told = told_both (standing old) mid new before.told one.told;
  done = λ j k low. elim (cases_eq j n) [
    | inl same ↦
        ap (λ i. has (the_set new.points.rows i) k) same
        ∙ one.here k
        ∙ ap (λ (s : List Bool). has s k || (has (the_set mid.sides 0) n && has (the_set mid.sides 1) k)) (before.to_come n (omega arith))
        ∙ ap (λ (t : Table). has (the_set old.points.rows n) k || (has (the_set t 0) n && has (the_set t 1) k)) before.sides_stay
        ∙ ap (λ i. has (the_set old.points.rows i) k || (has (the_set old.sides 0) i && has (the_set old.sides 1) k)) (sym same)
    | inr apart ↦ ap (λ (s : List Bool). has s k) (one.others j apart) ∙ before.done j k (omega (arith, low, apart))
  ];
  to_come = λ j high. one.others j (λ same. let e : j ≡ n = same in omega (arith, high, e)) ∙ before.to_come j (omega (arith, high));
}

-- places that aren't on the left are passed over
pub joined_skip : (n m : ℕ) (old new : Solver) (changed : Bool) → n ≤ m → ((j : ℕ) → n ≤ j → j < m → has (the_set new.sides 0) j ≡ false) → IsJoinedBelow n old new changed → IsJoinedBelow m old new changed
joined_skip n m old new changed later blank before = record {
  ready = before.ready;
  sides_stay = before.sides_stay;
  program_stays = before.program_stays;
  grown = before.grown;
  told = before.told;
  done = λ j k low. elim (cases_lt j n) [
    | inl less ↦ before.done j k less
    | inr over ↦
        let none : has (the_set old.sides 0) j ≡ false = subst (λ (t : Table). has (the_set t 0) j ≡ false) before.sides_stay (blank j over low) in
        ap (λ (s : List Bool). has s k) (before.to_come j over) ∙ sym (ap (λ b. has (the_set old.points.rows j) k || (b && has (the_set old.sides 1) k)) none ∙ or_none (has (the_set old.points.rows j) k))
  ];
  to_come = λ j high. before.to_come j (omega (arith, high, later));
}

-- places past the end of the list are on no side
pub joined_all : (n : ℕ) (old new : Solver) (changed : Bool) → IsReady old → n ≡ length (location_list old.effects) → IsJoinedBelow n old new changed → IsJoined old new changed
joined_all n old new changed ready end below = record {
  ready = below.ready;
  sides_stay = below.sides_stay;
  program_stays = below.program_stays;
  grown = below.grown;
  told = below.told;
  gained = λ j k. elim (cases_lt j n) [
    | inl low ↦ below.done j k low
    | inr high ↦
        ap (λ (s : List Bool). has s k) (below.to_come j high)
        ∙ sym (ap (λ b. has (the_set old.points.rows j) k || (b && has (the_set old.sides 1) k)) (past j high) ∙ or_none (has (the_set old.points.rows j) k))
  ];
}
  where
    past : (j : ℕ) → n ≤ j → has (the_set old.sides 0) j ≡ false
    past j high =
        let long = list_long old in
        let wide : length (the_set old.sides 0) ≡ length (locations old.effects) = ready.sides_are.full 0 (omega arith) in
        has_past (the_set old.sides 0) j (omega (arith, high, end, long, wide))
