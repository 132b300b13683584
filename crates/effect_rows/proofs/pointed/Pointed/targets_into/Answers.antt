-- The row has where the locations lead, one after another.
use Rattle.std.proofs.Common.{◌≡◌, ◌<◌, length, sym, ap, ◌∙◌, subst, arith}
use Rattle.bit_rows.specs.Tables.{IsSized, the_set, with_set}
use Rattle.c_tree.specs.declared.program.Program.{Program}
use Rattle.dep_model.specs.Denoted.{Places}
use Rattle.dep_model.specs.Locations.{locations}
use Rattle.effect_rows.specs.Gains.{row_of}
use Rattle.effect_rows.specs.Pointed.{points_in, AreTables}
use Rattle.effect_rows.proofs.LedRows.{first_led, led_ends}
use Rattle.bit_rows.specs.Sets.{has, union}
use Rattle.bit_rows.specs.Words.{set_of}
use Rattle.dep_model.specs.declared.points_to.PointsTo.{PointsTo}
use Rattle.dep_model.specs.LocationRows.{HasPointsRows, points_of}
use Rattle.effect_rows.specs.Pointed.{PointedProgram}
use Rattle.effect_rows.proofs.StepRows.{begun, kept_at, made_at, resized, listed_at, has_row_of, points_row, led_in, led_out}
use Rattle.effect_rows.proofs.pointed.Pointed.targets_into.Goals.{then-has, else-has}
use Rattle.effect_rows.proofs.pointed.Pointed.targets_into.Goals as goal

pub loop-k-init : goal.loop-k-init
loop-k-init c =
    let p = c.args.self.now.program in
    let tables : AreTables p c.self.inside.tables.now = subst (λ (q : Program). AreTables q c.self.inside.tables.now) (ap (λ g. g.program) c.self.view_is) c.self.invariant.tables_are in
    record {
      end = tables.count_is;
      sized = subst (λ n. IsSized n (length (locations p)) c.clear.new.self) c.requires.scratch_sized.rows_are (subst (λ n. IsSized (length c.args.scratch.now.sets) n c.clear.new.self) c.requires.scratch_sized.bits_are c.clear.ensures.size);
      kept = kept_at p c.args.scratch.now c.clear.new.self c.args.from c.args.to _ c.requires.apart c.clear.ensures.cleared;
      led = λ a held. begun p (points_in c.args.self.now) a c.args.scratch.now c.clear.new.self c.args.to c.requires.scratch_sized c.requires.to_in c.clear.ensures.cleared;
    }

pub returns-clause-led : goal.returns-clause-led
returns-clause-led c a held =
    let p = c.args.self.now.program in
    let end : c.loop-k.k ≡ length (locations p) = let done = c.loop-k-test.false in let most = c.loop-k.auto.k-end in let is = c.loop-k.invariant.end in omega (arith, done, most, is) in
    c.loop-k.invariant.led a held ∙ ap (λ n. row_of p (first_led p (points_in c.args.self.now) a n)) end ∙ led_ends p (points_in c.args.self.now) a

pub loop-k-preserved : goal.loop-k-preserved
loop-k-preserved c =
    let p = c.args.self.now.program in
    let t = c.args.self.now.rows in
    let n = length (locations p) in
    let s = c.loop-k.scratch in
    let k = c.loop-k.k in
    let tables : AreTables p c.self.inside.tables.now = subst (λ (q : Program). AreTables q c.self.inside.tables.now) (ap (λ g. g.program) c.self.view_is) c.self.invariant.tables_are in
    let rows : HasPointsRows p t = subst (λ (g : PointedProgram). HasPointsRows g.program g.rows) c.self.view_is c.self.invariant.points_are in
    let lt : k < n = let test = c.loop-k-test.true in let end = c.loop-k.invariant.end in omega (arith, test, end) in
    let found = listed_at (locations p) k lt in
    let at_place : (a : Places) → the_set c.args.scratch.now c.args.from ≡ row_of p a → has (the_set s c.args.from) k ≡ a found.0.location = λ a held. ap (λ r. has r k) (c.loop-k.invariant.kept ∙ held) ∙ has_row_of p a k found.0 found.1 in
    elim c.if-has.branch [
      | then-has w ↦
          let words_are : set_of s.bits w.words.result.now ≡ row_of p (points_of p t found.0.location) =
          ap (λ b. set_of b w.words.result.now) (c.loop-k.invariant.sized.bits_are ∙ sym rows.sized.bits_are)
          ∙ subst (λ (u : PointsTo). set_of u.rows.bits w.words.result.now ≡ the_set u.rows k) (ap (λ g. g.rows) c.self.view_is) w.words.ensures.holds
          ∙ points_row p tables.once t rows k found.0 found.1 lt in
          let joined : c.if-has.scratch ≡ with_set s c.args.to (union (the_set s c.args.to) (set_of s.bits w.words.result.now)) = w.scratch-is ∙ w.join_words.ensures.joined in
          record {
            end = c.loop-k.invariant.end;
            sized = resized p s w.join_words.new.self c.if-has.scratch c.loop-k.invariant.sized w.join_words.ensures.size w.scratch-is;
            kept = kept_at p s c.if-has.scratch c.args.from c.args.to _ c.requires.apart joined ∙ c.loop-k.invariant.kept;
            led = λ a held. led_in p (points_of p t) a (the_set s c.args.to) (the_set c.if-has.scratch c.args.to) k found.0 found.1 (c.loop-k.invariant.led a held) (sym (at_place a held) ∙ sym c.has.ensures ∙ w.if-has.true)
                (made_at p s c.if-has.scratch c.args.to _ c.loop-k.invariant.sized c.requires.to_in joined ∙ ap (union (the_set s c.args.to)) words_are);
          }
      | else-has w ↦ record {
        end = c.loop-k.invariant.end;
        sized = subst (IsSized 2 n) (sym w.scratch-is) c.loop-k.invariant.sized;
        kept = ap (λ u. the_set u c.args.from) w.scratch-is ∙ c.loop-k.invariant.kept;
        led = λ a held. ap (λ u. the_set u c.args.to) w.scratch-is ∙ led_out p (points_of p t) a (the_set s c.args.to) k found.0 found.1 (c.loop-k.invariant.led a held) (sym (at_place a held) ∙ sym c.has.ensures ∙ w.if-has.false);
      }
    ]
