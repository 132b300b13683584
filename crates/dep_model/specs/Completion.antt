-- The completion of a set of vertices: the least closed set that holds it (after Binkley 1993).
use Rattle.std.specs.Prelude.{ℕ, ◌≡◌, Bool, List, length, Contains, IsTrue}
use Rattle.bit_rows.specs.Sets.{has, IsSubset}
use Rattle.dep_model.specs.declared.edge.Edge.{Edge}
use Rattle.dep_model.specs.declared.edge.Label.TheVariants.{Control, Flow, Call, In, Out}

-- a set is closed, where `Names v u` says that v names the parameter whose formal-in is u,
-- and `main` is the entry of main
pub record IsClosed (edges : List Edge) (Names : ℕ → ℕ → Type 0) (main : ℕ) (s : List Bool) : Type 0 where
  -- it has the control predecessors of its members
  pub controls : (e : Edge) → Contains edges e → e.label ≡ Control → IsTrue (has s e.to) → IsTrue (has s e.from)
  -- it has the flow predecessors of its members
  pub flows : (e : Edge) → Contains edges e → e.label ≡ Flow → IsTrue (has s e.to) → IsTrue (has s e.from)
  -- it has the formal-out of each actual-out in it
  pub formal_outs : (e : Edge) (c : ℕ) → Contains edges e → e.label ≡ Out c → IsTrue (has s e.to) → IsTrue (has s e.from)
  -- it has the entry of the function called at each call in it
  pub callees : (e : Edge) (c : ℕ) → Contains edges e → e.label ≡ Call c → IsTrue (has s e.from) → IsTrue (has s e.to)
  -- at each call in it, it has the actual-in of each formal-in in it
  pub actual_ins : (e : Edge) (c : ℕ) → Contains edges e → e.label ≡ In c → IsTrue (has s c) → IsTrue (has s e.to) → IsTrue (has s e.from)
  -- it has the formal-in of each parameter that a member names
  pub parameters : (v u : ℕ) → Names v u → IsTrue (has s v) → IsTrue (has s u)
  -- it has the entry of main
  pub entry : IsTrue (has s main)

-- k is the least closed set of its length that holds x
pub record IsCompletion (edges : List Edge) (Names : ℕ → ℕ → Type 0) (main : ℕ) (x k : List Bool) : Type 0 where
  pub size : length k ≡ length x
  pub holds : IsSubset x k
  pub closed : IsClosed edges Names main k
  pub least : (t : List Bool) → length t ≡ length x → IsSubset x t → IsClosed edges Names main t → IsSubset k t

-- a vertex is in x, or the closures give it from x in finitely many steps: one case for each
pub data Completed (edges : List Edge) (Names : ℕ → ℕ → Type 0) (main : ℕ) (x : List Bool) : ℕ → Type 0 where
  seed : {v : ℕ} → IsTrue (has x v) → Completed edges Names main x v
  control : (e : Edge) → Contains edges e → e.label ≡ Control → Completed edges Names main x e.to → Completed edges Names main x e.from
  flow : (e : Edge) → Contains edges e → e.label ≡ Flow → Completed edges Names main x e.to → Completed edges Names main x e.from
  formal_out : (e : Edge) (c : ℕ) → Contains edges e → e.label ≡ Out c → Completed edges Names main x e.to → Completed edges Names main x e.from
  callee : (e : Edge) (c : ℕ) → Contains edges e → e.label ≡ Call c → Completed edges Names main x e.from → Completed edges Names main x e.to
  actual_in : (e : Edge) (c : ℕ) → Contains edges e → e.label ≡ In c → Completed edges Names main x c → Completed edges Names main x e.to → Completed edges Names main x e.from
  parameter : {v u : ℕ} → Names v u → Completed edges Names main x v → Completed edges Names main x u
  entry : Completed edges Names main x main
