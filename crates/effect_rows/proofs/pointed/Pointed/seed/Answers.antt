-- The scratch row has the location of the variable, where that is listed.
use Rattle.std.proofs.Common.{None, slice_index_or, sym, ap, ◌∙◌, subst, arith}
use Rattle.c_tree.specs.declared.program.Program.{Program}
use Rattle.dep_model.specs.Denoted.{whole, variable}
use Rattle.dep_model.specs.LocationLists.{location_list}
use Rattle.effect_rows.specs.Pointed.{AreTables}
use Rattle.effect_rows.specs.Tables.{IsPlaceOf}
use Rattle.effect_rows.proofs.PlaceRows.{place_within, row_by_place, row_without_place, seeded, unseeded}
use Rattle.effect_rows.proofs.pointed.Pointed.seed.Goals as goal

pub set-requires-clause-bit_in : goal.set-requires-clause-bit_in
set-requires-clause-bit_in c =
    let p = c.args.self.now.program in
    let tables : AreTables p c.self.inside.tables.now = subst (λ (q : Program). AreTables q c.self.inside.tables.now) (ap (λ g. g.program) c.self.view_is) c.self.invariant.tables_are in
    let place : IsPlaceOf (location_list p) (variable c.args.x) c.place_at.result =
    subst (IsPlaceOf (location_list p) (variable c.args.x)) (ap (λ xs. slice_index_or xs c.args.x None) (sym c.as_slice.ensures.value) ∙ sym c.place_at.ensures) (tables.variables_are c.args.x) in
    let lt = place_within p (variable c.args.x) c.in-Some.k (place.found c.in-Some.k c.in-Some.is) in
    let wide = c.requires.bits_are in
    let same = c.clear.ensures.size.bits_are in
    omega (arith, lt, wide, same)

pub returns-in-Some-clause-has : goal.returns-in-Some-clause-has
returns-in-Some-clause-has c =
    let p = c.args.self.now.program in
    let tables : AreTables p c.self.inside.tables.now = subst (λ (q : Program). AreTables q c.self.inside.tables.now) (ap (λ g. g.program) c.self.view_is) c.self.invariant.tables_are in
    let place : IsPlaceOf (location_list p) (variable c.args.x) c.place_at.result =
    subst (IsPlaceOf (location_list p) (variable c.args.x)) (ap (λ xs. slice_index_or xs c.args.x None) (sym c.as_slice.ensures.value) ∙ sym c.place_at.ensures) (tables.variables_are c.args.x) in
    seeded p c.args.scratch.now c.clear.new.self c.set.new.self (whole c.args.x) c.in-Some.k c.requires c.clear.ensures.cleared c.clear.ensures.size c.set.ensures.added (row_by_place p tables.once (variable c.args.x) c.place_at.result place c.in-Some.k c.in-Some.is)

pub returns-in-None-clause-has : goal.returns-in-None-clause-has
returns-in-None-clause-has c =
    let p = c.args.self.now.program in
    let tables : AreTables p c.self.inside.tables.now = subst (λ (q : Program). AreTables q c.self.inside.tables.now) (ap (λ g. g.program) c.self.view_is) c.self.invariant.tables_are in
    let place : IsPlaceOf (location_list p) (variable c.args.x) c.place_at.result =
    subst (IsPlaceOf (location_list p) (variable c.args.x)) (ap (λ xs. slice_index_or xs c.args.x None) (sym c.as_slice.ensures.value) ∙ sym c.place_at.ensures) (tables.variables_are c.args.x) in
    unseeded p c.args.scratch.now c.clear.new.self (whole c.args.x) c.requires c.clear.ensures.cleared (row_without_place p (variable c.args.x) c.place_at.result place c.in-None.is)
