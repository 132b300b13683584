-- Where the facts of a graph stand among its words.
use Rattle.std.specs.Prelude.{◌≡◌, ◌↔◌, ℕ, zero, suc, ◌+◌, ◌*◌, ◌||◌, ◌==◌, if◌then◌else◌, Bool, List, length, get_or, take, Some, Contains, IsTrue, slice_get}
use Rattle.bit_rows.specs.Words.{word_bit}
use Rattle.dep_model.specs.declared.graph.Graph.{Graph}
use Rattle.dep_model.specs.declared.graph.OutRow.{OutRow}
use Rattle.dep_model.specs.declared.vertex.Vertex.{Vertex}
use Rattle.dep_model.specs.Facts.{AreFormals, IsFactBit, HoldsFact}
use Rattle.dep_model.specs.FunctionVertices.{is_formal_in, numbers}

-- for each vertex, how many formal-ins of its function stand before it, and for a formal-out the first word of its row
pub record Places : Type 0 where
  pub numbers : List ℕ
  pub rows : List ℕ

-- the bit of the fact of a formal-in and a formal-out
abbrev pub bit_of : Places → ℕ → ℕ → ℕ
bit_of t a b = 64 * get_or t.rows b 0 + get_or t.numbers a 0

-- whether its bit is set in the words
abbrev pub holds_fact : Places → List ℕ → ℕ → ℕ → Bool
holds_fact t ws a b = word_bit ws (bit_of t a b)

-- bit b is set beside those that were, and no other
abbrev pub HasOneMore : ℕ → List ℕ → List ℕ → Type 0
HasOneMore b old new = (i : ℕ) → word_bit new i ≡ (word_bit old i || (i == b))

-- how many of the first n bits are set
abbrev pub bits_below : ℕ → List ℕ → ℕ
bits_below zero ws = 0
bits_below (suc n) ws = bits_below n ws + (if word_bit ws n then 1 else 0)

-- the places are those of a graph: for formals of one function, the bit is that of their fact
pub record ArePlaces (g : Graph) (t : Places) : Type 0 where
  pub numbers_long : length t.numbers ≡ length g.vertices
  pub rows_long : length t.rows ≡ length g.vertices
  pub bits : (f a b : ℕ) → AreFormals g.vertices f a b → IsFactBit g a b (bit_of t a b)
  pub exact : (f a b : ℕ) (ws : List ℕ) → AreFormals g.vertices f a b → HoldsFact g ws a b ↔ IsTrue (holds_fact t ws a b)

-- the numbers of a list of vertices: how many formal-ins of its function stand before each
abbrev pub AreFormalNumbers : List Vertex → List ℕ → Type 0
AreFormalNumbers vs ns = (v : ℕ) (x : Vertex) → slice_get vs v ≡ Some x → get_or ns v 0 ≡ length (numbers is_formal_in x.function (take v vs))

-- the first word of the row of each formal-out that has one
abbrev pub AreRowWords : List OutRow → List ℕ → Type 0
AreRowWords outs ws = (r : OutRow) → Contains outs r → get_or ws r.vertex 0 ≡ r.word
