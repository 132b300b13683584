-- The row has the parts of the locations, one after another.
use Rattle.std.proofs.Common.{◌≡◌, ℕ, ◌<◌, length, replicate, slice_set, true, false, sym, ap, ◌∙◌, subst, arith}
use Rattle.bit_rows.specs.Tables.{IsSized, the_set, with_set}
use Rattle.c_tree.specs.declared.program.Program.{Program}
use Rattle.dep_model.specs.Denoted.{Places, inside}
use Rattle.dep_model.specs.Locations.{locations, same_location}
use Rattle.effect_rows.specs.Gains.{row_of}
use Rattle.effect_rows.specs.Pointed.{AreTables}
use Rattle.effect_rows.specs.Tables.{IsPlaceOf}
use Rattle.effect_rows.proofs.LedRows.{first_led, led_ends}
use Rattle.bit_rows.specs.Sets.{has, union}
use Rattle.dep_model.specs.LocationLists.{location_list}
use Rattle.effect_rows.proofs.StepRows.{begun, kept_at, made_at, resized, listed_at, alone_at, has_row_of, led_in, led_out, union_empty, union_one}
use Rattle.effect_rows.proofs.PlaceRows.{place_within, row_by_place, row_without_place}
use Rattle.effect_rows.proofs.pointed.Pointed.parts_into.Goals.{then-has+in-Some, then-has+in-None, else-has}
use Rattle.effect_rows.proofs.pointed.Pointed.parts_into.Goals as goal

pub loop-k-init : goal.loop-k-init
loop-k-init c =
    let p = c.args.self.now.program in
    let tables : AreTables p c.self.inside.tables.now = subst (λ (q : Program). AreTables q c.self.inside.tables.now) (ap (λ g. g.program) c.self.view_is) c.self.invariant.tables_are in
    record {
      end = tables.count_is;
      sized = subst (λ n. IsSized n (length (locations p)) c.clear.new.self) c.requires.scratch_sized.rows_are (subst (λ n. IsSized (length c.args.scratch.now.sets) n c.clear.new.self) c.requires.scratch_sized.bits_are c.clear.ensures.size);
      kept = kept_at p c.args.scratch.now c.clear.new.self c.args.from c.args.to _ c.requires.apart c.clear.ensures.cleared;
      led = λ a held. begun p (λ m. same_location (inside m c.args.part)) a c.args.scratch.now c.clear.new.self c.args.to c.requires.scratch_sized c.requires.to_in c.clear.ensures.cleared;
    }

pub returns-clause-led : goal.returns-clause-led
returns-clause-led c a held =
    let p = c.args.self.now.program in
    let end : c.loop-k.k ≡ length (locations p) = let done = c.loop-k-test.false in let most = c.loop-k.auto.k-end in let is = c.loop-k.invariant.end in omega (arith, done, most, is) in
    c.loop-k.invariant.led a held ∙ ap (λ n. row_of p (first_led p (λ m. same_location (inside m c.args.part)) a n)) end ∙ led_ends p (λ m. same_location (inside m c.args.part)) a

pub set-requires-clause-bit_in : goal.set-requires-clause-bit_in
set-requires-clause-bit_in c =
    let p = c.args.self.now.program in
    let n = length (locations p) in
    let s = c.loop-k.scratch in
    let k = c.loop-k.k in
    let tables : AreTables p c.self.inside.tables.now = subst (λ (q : Program). AreTables q c.self.inside.tables.now) (ap (λ g. g.program) c.self.view_is) c.self.invariant.tables_are in
    let lt : k < n = let test = c.loop-k-test.true in let end = c.loop-k.invariant.end in omega (arith, test, end) in
    let found = listed_at (locations p) k lt in
    let part = inside found.0.location c.args.part in
    let place : IsPlaceOf (location_list p) part c.part_at.result = c.part_at.ensures found.0.location (alone_at (locations p) k found.0 found.1) in
    let below = place_within p part c.in-Some.j (place.found c.in-Some.j c.in-Some.is) in
    let wide = c.loop-k.invariant.sized.bits_are in
    omega (arith, below, wide)

pub loop-k-preserved : goal.loop-k-preserved
loop-k-preserved c =
    let p = c.args.self.now.program in
    let n = length (locations p) in
    let s = c.loop-k.scratch in
    let k = c.loop-k.k in
    let tables : AreTables p c.self.inside.tables.now = subst (λ (q : Program). AreTables q c.self.inside.tables.now) (ap (λ g. g.program) c.self.view_is) c.self.invariant.tables_are in
    let lt : k < n = let test = c.loop-k-test.true in let end = c.loop-k.invariant.end in omega (arith, test, end) in
    let found = listed_at (locations p) k lt in
    let part = inside found.0.location c.args.part in
    let long : length (the_set s c.args.to) ≡ n = c.loop-k.invariant.sized.full c.args.to c.requires.to_in in
    let at_place : (a : Places) → the_set c.args.scratch.now c.args.from ≡ row_of p a → has (the_set s c.args.from) k ≡ a found.0.location = λ a held. ap (λ r. has r k) (c.loop-k.invariant.kept ∙ held) ∙ has_row_of p a k found.0 found.1 in
    elim c.if-has.branch [
      | then-has+in-Some w ↦
          let place : IsPlaceOf (location_list p) part w.part_at.result = w.part_at.ensures found.0.location (alone_at (locations p) k found.0 found.1) in
          let added : c.if-has.scratch ≡ with_set s c.args.to (slice_set (the_set s c.args.to) w.in-Some.j true) = w.scratch-is ∙ w.set.ensures.added in
          let more : slice_set (the_set s c.args.to) w.in-Some.j true ≡ union (the_set s c.args.to) (row_of p (same_location part)) =
          sym (union_one (the_set s c.args.to) w.in-Some.j)
          ∙ ap (λ (m : ℕ). union (the_set s c.args.to) (slice_set (replicate m false) w.in-Some.j true)) long
          ∙ ap (union (the_set s c.args.to)) (sym (row_by_place p tables.once part w.part_at.result place w.in-Some.j w.in-Some.is)) in
          record {
            end = c.loop-k.invariant.end;
            sized = resized p s w.set.new.self c.if-has.scratch c.loop-k.invariant.sized w.set.ensures.size w.scratch-is;
            kept = kept_at p s c.if-has.scratch c.args.from c.args.to _ c.requires.apart added ∙ c.loop-k.invariant.kept;
            led = λ a held. led_in p (λ m. same_location (inside m c.args.part)) a (the_set s c.args.to) (the_set c.if-has.scratch c.args.to) k found.0 found.1 (c.loop-k.invariant.led a held) (sym (at_place a held) ∙ sym c.has.ensures ∙ w.if-has.true)
                (made_at p s c.if-has.scratch c.args.to _ c.loop-k.invariant.sized c.requires.to_in added ∙ more);
          }
      | then-has+in-None w ↦
          let place : IsPlaceOf (location_list p) part w.part_at.result = w.part_at.ensures found.0.location (alone_at (locations p) k found.0 found.1) in
          let more : the_set s c.args.to ≡ union (the_set s c.args.to) (row_of p (same_location part)) =
          sym (union_empty (the_set s c.args.to) n) ∙ ap (union (the_set s c.args.to)) (sym (row_without_place p part w.part_at.result place w.in-None.is)) in
          record {
            end = c.loop-k.invariant.end;
            sized = subst (IsSized 2 n) (sym w.scratch-is) c.loop-k.invariant.sized;
            kept = ap (λ u. the_set u c.args.from) w.scratch-is ∙ c.loop-k.invariant.kept;
            led = λ a held. led_in p (λ m. same_location (inside m c.args.part)) a (the_set s c.args.to) (the_set c.if-has.scratch c.args.to) k found.0 found.1 (c.loop-k.invariant.led a held) (sym (at_place a held) ∙ sym c.has.ensures ∙ w.if-has.true)
                (ap (λ u. the_set u c.args.to) w.scratch-is ∙ more);
          }
      | else-has w ↦ record {
        end = c.loop-k.invariant.end;
        sized = subst (IsSized 2 n) (sym w.scratch-is) c.loop-k.invariant.sized;
        kept = ap (λ u. the_set u c.args.from) w.scratch-is ∙ c.loop-k.invariant.kept;
        led = λ a held. ap (λ u. the_set u c.args.to) w.scratch-is ∙ led_out p (λ m. same_location (inside m c.args.part)) a (the_set s c.args.to) k found.0 found.1 (c.loop-k.invariant.led a held) (sym (at_place a held) ∙ sym c.has.ensures ∙ w.if-has.false);
      }
    ]
