-- Rows that keep their sizes are those of the program still.
use Rattle.std.proofs.Common.{◌≡◌, ℕ, ◌+◌, ◌/◌, List, length, sym, ap, ap₂, ◌∙◌, subst}
use Rattle.std.specs.Borrow.{Bor}
use Rattle.std.specs.Global.{Vec}
use Rattle.std.proofs.lemmas.List.{length-map}
use Rattle.bit_rows.specs.Tables.{Table, empty_table, IsSized}
use Rattle.bit_rows.proofs.TableLemmas.{sized_empty}
use Rattle.c_tree.specs.declared.program.Program.{Program}
use Rattle.dep_model.specs.declared.location.Location.{Location}
use Rattle.dep_model.specs.LocationLists.{location_list, AreListedOnce}
use Rattle.dep_model.specs.LocationRows.{HasPointsRows}
use Rattle.dep_model.specs.Locations.{TypedLocation, locations}
use Rattle.points_to.specs.declared.agenda.Agenda.{Agenda}
use Rattle.points_to.specs.declared.solver.Solver.{Solver}
use Rattle.points_to.specs.Agendas.{IsAgenda}
use Rattle.points_to.specs.Sweeps.{IsReady}

pub ready_again : (old new : Solver) → IsReady old → new.effects ≡ old.effects → new.program ≡ old.program → new.list ≡ old.list → HasPointsRows old.effects new.points → IsSized 3 (length (locations old.effects)) new.sides → IsAgenda (length (locations old.effects)) new.agenda → IsReady new
ready_again old new ready effects program list points sides agenda = record {
  once = subst AreListedOnce (sym effects) ready.once;
  program_is = ap (λ (b : Bor Program). b.now) program ∙ ready.program_is ∙ sym effects;
  list_is = ap (λ (b : Bor (List Location)). b.now) list ∙ ready.list_is ∙ ap location_list (sym effects);
  points_are = subst (λ (q : Program). HasPointsRows q new.points) (sym effects) points;
  sides_are = subst (λ (q : Program). IsSized 3 (length (locations q)) new.sides) (sym effects) sides;
  agenda_is = subst (λ (q : Program). IsAgenda (length (locations q)) new.agenda) (sym effects) agenda;
}

-- a table that keeps its size is of three rows still
pub three_rows : (n : ℕ) (s t : Table) → IsSized 3 n s → IsSized (length s.sets) s.bits t → IsSized 3 n t
three_rows n s t size again = subst (λ k. IsSized k n t) size.rows_are (subst (λ k. IsSized (length s.sets) k t) size.bits_are again)

-- and so it is once more
pub three_still : (n : ℕ) (s t u : Table) → IsSized 3 n s → IsSized (length s.sets) s.bits t → IsSized (length t.sets) n u → IsSized 3 n u
three_still n s t u size again more = subst (λ k. IsSized k n u) (again.rows_are ∙ size.rows_are) more

-- ---- no location points anywhere yet

list_long : (p : Program) → length (location_list p) ≡ length (locations p)
list_long p = length-map (locations p) (λ (o : TypedLocation). o.location)

pub ready_begins : (p : Program) (w : Solver) (n m k : ℕ) → AreListedOnce p → w.effects ≡ p → w.program.now ≡ p → w.list.now ≡ location_list p → n ≡ length (location_list p) → m ≡ length (location_list p) → k ≡ length (location_list p)
    → w.points.rows ≡ empty_table n m → w.sides ≡ empty_table 3 k → IsAgenda n w.agenda → IsReady w
ready_begins p w n m k once effects program list first second third rows sides agenda = record {
  once = subst AreListedOnce (sym effects) once;
  program_is = program ∙ sym effects;
  list_is = list ∙ ap location_list (sym effects);
  points_are = subst (λ (q : Program). HasPointsRows q w.points) (sym effects) (record { sized = square });
  sides_are = subst (λ (q : Program). IsSized 3 (length (locations q)) w.sides) (sym effects) (subst (λ i. IsSized 3 i w.sides) (third ∙ list_long p) (subst (IsSized 3 k) (sym sides) (sized_empty 3 k)));
  agenda_is = subst (λ (q : Program). IsAgenda (length (locations q)) w.agenda) (sym effects) (subst (λ i. IsAgenda i w.agenda) (first ∙ list_long p) agenda);
}
  where
    square : IsSized (length (locations p)) (length (locations p)) w.points.rows
    square = subst (λ i. IsSized i (length (locations p)) w.points.rows) (first ∙ list_long p) (subst (λ j. IsSized n j w.points.rows) (second ∙ list_long p) (subst (IsSized n m) (sym rows) (sized_empty n m)))

pub nowhere_begins : (p : Program) (t : Table) (n m : ℕ) → n ≡ length (location_list p) → m ≡ length (location_list p) → t ≡ empty_table n m → t ≡ empty_table (length (location_list p)) (length (location_list p))
nowhere_begins p t n m first second is = is ∙ ap₂ (λ (i j : ℕ). empty_table i j) first second

-- an agenda whose readers stay
pub agenda_again : (n : ℕ) (a b : Agenda) → IsAgenda n a → b.readers ≡ a.readers → length b.settled.items ≡ length a.settled.items → IsAgenda n b
agenda_again n a b is readers long = record {
  sized = subst (λ (t : Table). IsSized n t.bits t) (sym readers) is.sized;
  long = long ∙ is.long ∙ ap (λ (t : Table). (t.bits + 63) / 64) (sym readers);
}

-- and one of which a statement has read more rows
pub agenda_noted : (n m : ℕ) (a b c : Agenda) → IsAgenda n a → b.readers ≡ a.readers → length b.settled.items ≡ length a.settled.items → m ≡ n → IsSized m b.readers.bits c.readers → c.settled ≡ b.settled → IsAgenda n c
agenda_noted n m a b c is readers long same sized settled = record {
  sized = subst (λ i. IsSized n i c.readers) (sym sized.bits_are) (subst (λ i. IsSized i b.readers.bits c.readers) same sized);
  long = ap (λ (v : Vec ℕ). length v.items) settled ∙ long ∙ is.long ∙ ap (λ i. (i + 63) / 64) (sym (sized.bits_are ∙ ap (λ (t : Table). t.bits) readers));
}
