-- The place of a fact: where the numbers of vertices and the first words of rows are a graph's, the bit is that of the fact.
use Rattle.std.proofs.Common.{◌≡◌, ℕ, ◌+◌, ◌*◌, true, List, length, get_or, Some, Contains, refl, sym, ap, ◌∙◌, subst, arith}
use Rattle.std.specs.Prelude.{IsTrue, ◌==◌, ◌&&◌}
use Rattle.std.proofs.lemmas.Bool.Decides.{nat_tests}
use Rattle.bit_rows.specs.Words.{word_bit}
use Rattle.dep_model.specs.declared.graph.Graph.{Graph}
use Rattle.dep_model.specs.declared.vertex.Vertex.{Vertex}
use Rattle.dep_model.specs.declared.vertex.VertexKind.TheVariants as kind
use Rattle.dep_model.specs.Facts.{AreFormals, IsFactBit, HoldsFact}
use Rattle.dep_model.specs.FunctionVertices.{is_formal_in, passes}
use Rattle.dep_model.specs.Graphs.{out_rows}
use Rattle.dep_model.specs.VertexOrder.{in_function}
use Rattle.matched_paths.specs.Places.{Places, bit_of, holds_fact, ArePlaces, AreFormalNumbers, AreRowWords}
use Rattle.matched_paths.proofs.CallShapes.{in_other, is_in}
use Rattle.matched_paths.proofs.Numbering.{count_before, number_of, place_of}
use Rattle.matched_paths.proofs.RowLaws.{row_of_formal}

passing : (f : ℕ) (x : Vertex) → x.function ≡ f → is_formal_in x.kind ≡ true → passes is_formal_in f x ≡ true
passing f x h k = let e : (x.function == f) ≡ true = grind (arith, nat_tests) in ap (λ b. b && is_formal_in x.kind) e ∙ k

module _ (g : Graph) (t : Places) (outs_are : g.outs ≡ out_rows g.vertices) (numbers_are : AreFormalNumbers g.vertices t.numbers) (rows_are : AreRowWords g.outs t.rows) where
  number_is : (f a b : ℕ) (r : AreFormals g.vertices f a b) → get_or t.numbers a 0 ≡ count_before g.vertices f a
  number_is f a b r = numbers_are a (in_function f (kind.FormalIn r.slot_in)) r.goes_in

  bit_is : (f a b : ℕ) (ws : List ℕ) → AreFormals g.vertices f a b → HoldsFact g ws a b → IsTrue (holds_fact t ws a b)
  bit_is f a b ws r h =
      let i = h.is_bit in
      let same : i.function ≡ f = in_other g.vertices i.function f b (kind.FormalOut r.slot_out) i.comes_out r.comes_out in
      let found = number_of (passes is_formal_in i.function) 0 g.vertices i.number a i.goes_in in
      let at : found.0 ≡ a = omega (arith, found.1) in
      let number : i.number ≡ get_or t.numbers a 0 =
      found.2 ∙ ap (count_before g.vertices i.function) at ∙ ap (λ k. count_before g.vertices k a) same ∙ sym (number_is f a b r) in
      let row : get_or t.rows b 0 ≡ i.first_word = rows_are (record { vertex = b; word = i.first_word }) i.row in
      let bit : h.bit ≡ bit_of t a b = i.bit_is ∙ ap (λ w. 64 * w + i.number) (sym row) ∙ ap (λ k. 64 * get_or t.rows b 0 + k) number in
      subst (λ k. word_bit ws k ≡ true) bit h.set

  fact_bit : (f a b : ℕ) → AreFormals g.vertices f a b → IsFactBit g a b (bit_of t a b)
  fact_bit f a b r =
      let row = row_of_formal g.vertices b (in_function f (kind.FormalOut r.slot_out)) r.comes_out refl in
      let contained : Contains g.outs (record { vertex = b; word = row.0 }) = subst (λ rows. Contains rows (record { vertex = b; word = row.0 })) (sym outs_are) row.1 in
      let word : get_or t.rows b 0 ≡ row.0 = rows_are (record { vertex = b; word = row.0 }) contained in
      let place = place_of (passes is_formal_in f) 0 g.vertices a (in_function f (kind.FormalIn r.slot_in)) r.goes_in (passing f (in_function f (kind.FormalIn r.slot_in)) refl refl) in
      record {
        function = f;
        number = count_before g.vertices f a;
        first_word = row.0;
        goes_in = let e : 0 + a ≡ a = omega arith in place ∙ ap Some e;
        row = contained;
        comes_out = is_in g.vertices f b (kind.FormalOut r.slot_out) r.comes_out;
        bit_is = ap (λ w. 64 * w + get_or t.numbers a 0) word ∙ ap (λ k. 64 * row.0 + k) (number_is f a b r);
      }

  held : (f a b : ℕ) (ws : List ℕ) → AreFormals g.vertices f a b → IsTrue (holds_fact t ws a b) → HoldsFact g ws a b
  held f a b ws r h = record { bit = bit_of t a b; is_bit = fact_bit f a b r; set = h }

  pub places_are : length t.numbers ≡ length g.vertices → length t.rows ≡ length g.vertices → ArePlaces g t
  places_are numbers_long rows_long = record {
    numbers_long = numbers_long;
    rows_long = rows_long;
    bits = fact_bit;
    exact = λ f a b ws r. (bit_is f a b ws r, held f a b ws r);
  }
