-- The row gains the result, where that is listed.
use Rattle.std.proofs.Common.{None, slice_index_or, sym, ap, ◌∙◌, subst, arith}
use Rattle.c_tree.specs.declared.program.Program.{Program}
use Rattle.dep_model.specs.DoingEffects.{result_of}
use Rattle.dep_model.specs.LocationLists.{location_list}
use Rattle.effect_rows.specs.Pointed.{AreTables}
use Rattle.effect_rows.specs.Tables.{IsPlaceOf}
use Rattle.effect_rows.proofs.DoingLemmas.{gains_place, gains_no_place}
use Rattle.effect_rows.proofs.PlaceRows.{place_within}
use Rattle.effect_rows.proofs.pointed.Pointed.add_result.Goals as goal

pub set-requires-clause-bit_in : goal.set-requires-clause-bit_in
set-requires-clause-bit_in c =
    let p = c.args.self.now.program in
    let tables : AreTables p c.self.inside.tables.now = subst (λ (q : Program). AreTables q c.self.inside.tables.now) (ap (λ g. g.program) c.self.view_is) c.self.invariant.tables_are in
    let place : IsPlaceOf (location_list p) (result_of c.args.f) c.place_at.result =
    subst (IsPlaceOf (location_list p) (result_of c.args.f)) (ap (λ xs. slice_index_or xs c.args.f None) (sym c.as_slice.ensures.value) ∙ sym c.place_at.ensures) (tables.results_are c.args.f) in
    let lt = place_within p (result_of c.args.f) c.in-Some.k (place.found c.in-Some.k c.in-Some.is) in
    let wide = c.requires.sized.bits_are in
    omega (arith, lt, wide)

pub returns-in-Some-clause-gained : goal.returns-in-Some-clause-gained
returns-in-Some-clause-gained c =
    let p = c.args.self.now.program in
    let tables : AreTables p c.self.inside.tables.now = subst (λ (q : Program). AreTables q c.self.inside.tables.now) (ap (λ g. g.program) c.self.view_is) c.self.invariant.tables_are in
    let place : IsPlaceOf (location_list p) (result_of c.args.f) c.place_at.result =
    subst (IsPlaceOf (location_list p) (result_of c.args.f)) (ap (λ xs. slice_index_or xs c.args.f None) (sym c.as_slice.ensures.value) ∙ sym c.place_at.ensures) (tables.results_are c.args.f) in
    gains_place p c.args.row c.args.rows.now c.set.new.self (result_of c.args.f) c.place_at.result c.in-Some.k (record { sized = c.requires.sized; row_in = c.requires.row_in }) tables.once place c.in-Some.is c.set.ensures.added

pub returns-in-None-clause-gained : goal.returns-in-None-clause-gained
returns-in-None-clause-gained c =
    let p = c.args.self.now.program in
    let tables : AreTables p c.self.inside.tables.now = subst (λ (q : Program). AreTables q c.self.inside.tables.now) (ap (λ g. g.program) c.self.view_is) c.self.invariant.tables_are in
    let place : IsPlaceOf (location_list p) (result_of c.args.f) c.place_at.result =
    subst (IsPlaceOf (location_list p) (result_of c.args.f)) (ap (λ xs. slice_index_or xs c.args.f None) (sym c.as_slice.ensures.value) ∙ sym c.place_at.ensures) (tables.results_are c.args.f) in
    gains_no_place p c.args.row c.args.rows.now (result_of c.args.f) c.place_at.result (record { sized = c.requires.sized; row_in = c.requires.row_in }) place c.in-None.is
