-- Vertices that are appended part by part: what is there and what is left is the whole.
use Rattle.std.proofs.Common.{◌≡◌, ℕ, ◌+◌, ◌<◌, ◌≤◌, List, [], ◌++◌, length, append_assoc, append-nil, Result, Ok, Err, refl, sym, ap, subst, ◌∙◌, arith}
use Rattle.std.specs.Result.{IsErrAnd, IfErr}
use Rattle.std.proofs.lemmas.List.{length-append, map-append}
use Rattle.dep_model.specs.declared.graph_fault.GraphFault.{GraphFault}
use Rattle.dep_model.specs.declared.vertex.Vertex.{Vertex}
use Rattle.dep_model.specs.declared.vertex.VertexKind.{VertexKind}
use Rattle.dep_model.specs.VertexOrder.{in_function}
use Rattle.vertex_layout.specs.Listing.{IsAbove, vertices_in}

abbrev pub Outcome : Type 0
Outcome = Result (Unit {0}) GraphFault

pub more_above : (m n : ℕ) (e : GraphFault) → m ≤ n → IsAbove m e → IsAbove n e
more_above m n e low above name is = let told = above name is in let many : 65536 < m = told.1 in (told.0, omega (arith, low, many))

-- what holds of a fault holds of the answer that passes it on
pub told_on : (n : ℕ) (e : GraphFault) (r : Outcome) → IsErrAnd r (λ y. y ≡ e) → IsAbove n e → IfErr r (IsAbove n)
told_on n e (Ok x) h above = absurd h
told_on n e (Err y) h above = subst (IsAbove n) (sym h) above

module _ (old all : List Vertex) where
  -- what is there, and what is still to come
  pub record Left (rest now : List Vertex) : Type 0 where
    pub joined : now ++ rest ≡ old ++ all

  pub left_begins : Left all old
  left_begins = record { joined = refl }

  pub left_turn : (xs more rest now new : List Vertex) → rest ≡ xs ++ more → new ≡ now ++ xs → Left rest now → Left more new
  left_turn xs more rest now new split grown h = record {
    joined = ap (λ ys. ys ++ more) grown ∙ append_assoc now xs more ∙ ap (λ ys. now ++ ys) (sym split) ∙ h.joined;
  }

  pub left_skip : (more rest now new : List Vertex) → rest ≡ more → new ≡ now → Left rest now → Left more new
  left_skip more rest now new same stayed h = record { joined = ap (λ ys. ys ++ more) stayed ∙ ap (λ ys. now ++ ys) (sym same) ∙ h.joined }

  pub left_done : (rest now : List Vertex) → rest ≡ [] → Left rest now → now ≡ old ++ all
  left_done rest now none h = sym (append-nil now) ∙ ap (λ ys. now ++ ys) (sym none) ∙ h.joined

  -- more than there may be with a part is more than there may be with the whole
  pub left_above : (xs more rest now : List Vertex) (e : GraphFault) → rest ≡ xs ++ more → Left rest now → IsAbove (length now + length xs) e → IsAbove (length old + length all) e
  left_above xs more rest now e split h above =
      let counts : length now + length rest ≡ length old + length all = sym (length-append now rest) ∙ ap (λ (ys : List Vertex). length ys) h.joined ∙ length-append old all in
      let parts : length rest ≡ length xs + length more = ap (λ (ys : List Vertex). length ys) split ∙ length-append xs more in
      more_above (length now + length xs) (length old + length all) e (omega (arith, counts, parts)) above

-- vertices of two lists of kinds, one behind the other
pub in_append : (f : ℕ) (a b : List VertexKind) → vertices_in f (a ++ b) ≡ vertices_in f a ++ vertices_in f b
in_append f a b = map-append (in_function f) a b
