-- With which results of its calls each way into a function may be paired.
use Rattle.std.specs.Prelude.{◌≡◌, ℕ, ◌≤◌, List, length, get_or, Some, Contains, IsTrue}
use Rattle.dep_model.specs.declared.edge.Edge.{Edge}
use Rattle.matched_paths.specs.EdgeGroups.{group_at}
use Rattle.matched_paths.specs.declared.vertex_range.VertexRange.{VertexRange}
use Rattle.matched_paths.specs.VertexRanges.{within}
use Rattle.forward_chop.specs.Fields.{opened}
use Rattle.forward_chop.specs.Pairs.{no_range}

abbrev pub AreOrdered : List VertexRange → Type 0
AreOrdered outs = (x : ℕ) → (get_or outs x no_range).first ≤ (get_or outs x no_range).last

-- a way in, and a result from which one of some edges leads
pub record PairsBy (enter : ℕ) (leaves : List Edge) (x o : ℕ) : Type 0 where
  pub leave : Edge
  pub listed : Contains leaves leave
  pub x_is : x ≡ enter
  pub o_is : o ≡ leave.from

-- the same for the calls that some edges open
pub record PairsFrom (edges : List Edge) (exits : List (List Edge)) (x o : ℕ) : Type 0 where
  pub edge : Edge
  pub listed : Contains edges edge
  pub call : ℕ
  pub opens : opened edge.label ≡ Some call
  pub pairs : PairsBy edge.to (group_at exits call) x o

-- ranges have more, with these pairs
pub record HaveWidened (P : ℕ → ℕ → Type 0) (old new : List VertexRange) : Type 0 where
  pub long : length new ≡ length old
  pub order : AreOrdered new
  pub kept : (x v : ℕ) → IsTrue (within (get_or old x no_range) v) → IsTrue (within (get_or new x no_range) v)
  pub held : (x o : ℕ) → P x o → IsTrue (within (get_or new x no_range) o)
