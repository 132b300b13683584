use Rattle.std.proofs.Common.{◌≡◌, ◌∷◌, [], List, All, length, set, sym, ap, ◌∙◌, append_assoc, append-nil, subst, arith}
use Rattle.std.proofs.lemmas.List.{map-append, nil_from_length}
use Rattle.std.proofs.lemmas.List.Elements.{All-head, All-tail}
use Rattle.std.proofs.Math.ListN.{length-set}
use Rattle.std.specs.Vec.Iter.{into_iter_items}
use Rattle.slice_batch.specs.declared.worker.Made.{Made}
use Rattle.slice_batch.specs.Team.{ArePlaced, IsMade, numbers}
use Rattle.slice_batch.proofs.Places.{placed_more, still_there}
use Rattle.slice_batch.proofs.placing.place.Goals as goal

pub loop-one-preserved : goal.loop-one-preserved
loop-one-preserved c =
    let at = c.loop-one in
    let inv = at.invariant in
    let x = c.in-Some.one in
    let p = c.args.e.now in
    let list = c.args.list.now in
    let steps : into_iter_items at.one-iterator ≡ x ∷ into_iter_items c.next.new.self = c.in-Some.ensures.steps.0 in
    let each = subst (All (IsMade p list)) steps inv.each in
    let made = All-head (IsMade p list) x (into_iter_items c.next.new.self) each in
    record {
      all = append_assoc at.yielded (x ∷ []) _ ∙ rw (← steps) inv.all;
      long = let was = inv.long in let gone = c.in-Some.ensures.steps.1 in let short = ap length steps in omega arith;
      each = All-tail (IsMade p list) x (into_iter_items c.next.new.self) each;
      places = length-set at.texts.items x.number x.text ∙ inv.places;
      placed = subst (λ ks. ArePlaced p list ks (set at.texts.items x.number x.text)) (sym (map-append (λ (m : Made). m.number) at.yielded (x ∷ [])))
          (placed_more p list (numbers at.yielded) x at.texts.items made inv.places inv.placed);
      kept = λ k there. still_there p list x at.texts.items k made inv.places (inv.kept k there);
    }

pub returns-clause-placed : goal.returns-clause-placed
returns-clause-placed c =
    let at = c.loop-one in
    let inv = at.invariant in
    let empty : into_iter_items at.one-iterator ≡ [] = nil_from_length _ (sym inv.long ∙ c.in-None.ensures.steps.0) in
    let all = sym (append-nil at.yielded) ∙ rw empty at inv.all ∙ c.into_iter-one-iterator.ensures.into_iter_gives.0 in
    subst (λ (made : List Made). ArePlaced c.args.e.now c.args.list.now (numbers made) at.texts.items) all inv.placed
