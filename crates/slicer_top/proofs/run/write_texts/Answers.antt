use Rattle.std.proofs.Common.{inl, inr, refl, ap, subst, ◌∙◌, arith}
use Rattle.std.proofs.lemmas.Bool.{false≢true}
use Rattle.slicer_top.specs.Lines.{PutOrCutOff, cannot_write}
use Rattle.slicer_top.proofs.Puts.{fault_told, gains_all, gains_front, gains_next, rose_later, takes_next}
use Rattle.slicer_top.proofs.run.write_texts.Goals as goal

pub loop-text-preserved : goal.loop-text-preserved
loop-text-preserved g c =
    let texts = c.args.texts.now in
    let i = c.loop-text.text-index in
    let is = c.bytes.ensures ∙ c.text-item.is in
    record {
      gained = gains_next _ _ _ texts i c.bytes.result.now _ c.loop-text-test.true is c.loop-text.invariant.gained c.in-Ok.ensures.ok;
      faults = omega (arith, c.loop-text.invariant.faults, c.put.ensures.faults);
      taken = λ takes.
          let before = c.loop-text.invariant.taken takes in
          let here = takes_next (g.O.Sink.takes c.loop-text.out) texts i c.bytes.result.now _ c.loop-text-test.true is before.0 in
          (c.put.ensures.takes _ here, c.put.ensures.no_fault _ here ∙ before.1);
      err = c.loop-text.invariant.err;
    }

pub returns-in-Err : goal.returns-in-Err
returns-in-Err g c =
    let texts = c.args.texts.now in
    let i = c.loop-text.text-index in
    let is = c.bytes.ensures ∙ c.text-item.is in
    let told = fault_told _ _ _ _ c.tell.result c.tell.ensures.told in
    record {
      ends = inr (record {
        is = told.0;
        rose = rose_later _ _ _ c.loop-text.invariant.faults c.in-Err.ensures.failed;
        front = gains_front _ _ _ texts i c.bytes.result.now _ c.loop-text-test.true is c.loop-text.invariant.gained c.in-Err.ensures.front;
        told = subst (λ e. PutOrCutOff (g.E.Sink.faults e) (g.E.Sink.faults c.tell.new.err) (g.E.Sink.written e) (g.E.Sink.written c.tell.new.err) cannot_write) c.loop-text.invariant.err told.1;
      });
      taken = λ takes.
          let here = takes_next (g.O.Sink.takes c.loop-text.out) texts i c.bytes.result.now _ c.loop-text-test.true is (c.loop-text.invariant.taken takes).0 in
          absurd (false≢true (c.in-Err.ensures.taken _ here));
    }

pub returns : goal.returns
returns g c = record {
  ends = inl (record {
    is = refl;
    gained = gains_all _ _ c.args.texts.now c.loop-text.text-index c.loop-text-test.false c.loop-text.invariant.gained;
    silent = c.loop-text.invariant.err;
  });
  taken = λ takes. record { is = refl; out_stays = (c.loop-text.invariant.taken takes).1; err_stays = ap g.E.Sink.faults c.loop-text.invariant.err };
}
