use Rattle.std.proofs.Common.{◌<◌, ◌^◌, ◌++◌, [], ◌∷◌, ℕ, List, get_or, take, sym, subst}
use Rattle.std.proofs.lemmas.List.{take_more}
use Rattle.matched_paths.specs.declared.vertex_range.VertexRange.{VertexRange}
use Rattle.forward_chop.specs.Pairs.{AreSpaces, no_range}
use Rattle.forward_chop.proofs.PairLaws.{spaces_none, spaces_more}
use Rattle.forward_chop.proofs.wanted.spaces_of.Goals as goal

pub loop-range-init : goal.loop-range-init
loop-range-init c = subst (λ (ps : List ℕ). AreSpaces [] ps 0) (sym c.new-places.ensures.items) spaces_none

pub loop-range-preserved : goal.loop-range-preserved
loop-range-preserved c =
    let outs = c.args.outs.now in
    let l = c.loop-range in
    let n = l.range-index in
    let r = get_or outs n no_range in
    let is = c.in_ok-end.ensures.is in
    let more = spaces_more (take n outs) l.places.items l.end r l.invariant (subst (λ (k : ℕ). k < 2 ^ 32) is c.in_ok-end.ensures.few) in
    subst (λ (os : List VertexRange). AreSpaces os c.push.new.self.items c.in_ok-end.end) (sym (take_more outs n no_range c.loop-range-test.true))
    (subst (λ (ps : List ℕ). AreSpaces (take n outs ++ r ∷ []) ps c.in_ok-end.end) (sym c.in_ok-push.ensures.items)
    (subst (λ (k : ℕ). AreSpaces (take n outs ++ r ∷ []) (l.places.items ++ l.end ∷ []) k) (sym is) more))
