use Rattle.std.proofs.Common.{◌≡◌, ◌≢◌, ◌≤◌, ◌+◌, ℕ, List, Some, slice_get, get_or, sym, ap, ◌∙◌, subst, arith}
use Rattle.std.proofs.lemmas.List.{get_or_default}
use Rattle.std.proofs.lemmas.Option.{slice_get_within, slice_get-get_or}
use Rattle.std.proofs.lemmas.Bool.Decides.{nat_tests}
use Rattle.dep_model.specs.declared.vertex.Vertex.{Vertex}
use Rattle.dep_model.specs.declared.vertex.VertexKind.TheVariants.{Entry}
use Rattle.dep_model.specs.FunctionVertices.{is_formal_in}
use Rattle.matched_paths.proofs.Numbering.{IsNumbering, begins, count_before, one_if, numbering_goes}
use Rattle.matched_paths.proofs.fact_places.formal_numbers.Goals as goal
use Rattle.matched_paths.proofs.fact_places.formal_numbers.Goals.{then-vertex-function, else-vertex-function, then-is_formal_in, else-is_formal_in}

pub loop-vertex-preserved : goal.loop-vertex-preserved
loop-vertex-preserved c =
    let d : Vertex = record { function = 0; kind = Entry } in
    let vs = c.args.vertices.now in
    let i = c.loop-vertex.vertex-index in
    let x = get_or vs i d in
    let low = c.loop-vertex-test.true in
    let read : get_or vs i x ≡ x = get_or_default vs i x d low in
    let at : slice_get vs i ≡ Some x = slice_get-get_or vs i d low in
    let n = c.loop-vertex.invariant in
    let m = c.if-vertex-function.number in
    let begun : (c.if-vertex-function.function ≡ x.function) × (m ≡ count_before vs x.function i) × (m ≤ i) = elim c.if-vertex-function.branch [
      | then-vertex-function w ↦
          let test = w.if-vertex-function.true in
          let differs : x.function ≢ c.loop-vertex.function = grind (arith, nat_tests, test) in
          let zero_is = w.number-is in
          (w.function-is, w.number-is ∙ sym (begins vs i c.loop-vertex.function x c.requires.consecutive n.last low at differs), omega (arith, zero_is))
      | else-vertex-function w ↦
          let test = w.if-vertex-function.false in
          let same : x.function ≡ c.loop-vertex.function = grind (arith, nat_tests, test) in
          let number_is = w.number-is in
          let few = n.small in
          (w.function-is ∙ sym same, w.number-is ∙ n.counted ∙ ap (λ f. count_before vs f i) (sym same), omega (arith, number_is, few))
    ] in
    let counted : c.if-is_formal_in.number ≡ m + one_if (is_formal_in x.kind) = elim c.if-is_formal_in.branch [
      | then-is_formal_in w ↦ w.number-is ∙ ap (λ b. m + one_if b) (sym (sym c.is_formal_in.ensures ∙ w.if-is_formal_in.true))
      | else-is_formal_in w ↦ let plain : m ≡ m + 0 = omega arith in w.number-is ∙ plain ∙ ap (λ b. m + one_if b) (sym (sym c.is_formal_in.ensures ∙ w.if-is_formal_in.false))
    ] in
    let goes = numbering_goes vs i c.loop-vertex.function c.loop-vertex.number m c.loop-vertex.numbers.items x n low at read begun.1 begun.2 in
    subst (λ f. IsNumbering vs (i + 1) f c.if-is_formal_in.number c.push.new.self.items) (sym begun.0)
    (subst (λ k. IsNumbering vs (i + 1) x.function k c.push.new.self.items) (sym counted)
    (subst (λ (items : List ℕ). IsNumbering vs (i + 1) x.function (m + one_if (is_formal_in x.kind)) items) (sym c.in_ok-push.ensures.items) goes))

pub returns-clause-exact : goal.returns-clause-exact
returns-clause-exact c = λ v x at.
    let n = c.loop-vertex.invariant in
    let low = slice_get_within c.args.vertices.now v x at in
    n.known v x (let f = c.loop-vertex-test.false in omega (arith, f, low)) at
