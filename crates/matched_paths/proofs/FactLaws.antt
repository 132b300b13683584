-- One step from true facts gives only true facts, and facts in which each function is settled are all that are true.
use Rattle.std.proofs.Common.{ℕ, refl, inl, inr}
use Rattle.dep_model.specs.declared.edge.Label.TheVariants.{Control, Flow, In, Out}
use Rattle.dep_model.specs.declared.graph.Graph.{Graph}
use Rattle.dep_model.specs.declared.vertex.VertexKind.TheVariants as kind
use Rattle.dep_model.specs.Facts.{FactSet, AreFormals, IsIn, IsInnerEdge, IsInnerChain, ends, goes_on, IsStep, IsTrueFact}
use Rattle.dep_model.specs.Shapes.{IsShaped}
use Rattle.matched_paths.specs.Laws.{AreTrue, HasEachTrueFact, IsSettled}
use Rattle.matched_paths.proofs.Levels.{Level, stay, plain, call, level_append, level_of_path, path_of}
use Rattle.matched_paths.proofs.CallShapes.{inner_of_plain, plain_stays, is_in, crossed, crossed_edge, crossed_stays}

-- ---- facts that are true
pub level_of_inner : (g : Graph) (K : FactSet) → AreTrue g K → (a b : ℕ) → IsInnerEdge g.edges K a b → Level g.edges a b
level_of_inner g K true a b (inl m) = plain (record { label = Control; member = m; spells = refl }) stay
level_of_inner g K true a b (inr (inl m)) = plain (record { label = Flow; member = m; spells = refl }) stay
level_of_inner g K true a b (inr (inr s)) =
    call s.call (record { label = In s.call; member = s.enters; spells = refl }) (level_of_path (true s.formal_in s.formal_out s.fact).joined)
    (record { label = Out s.call; member = s.leaves; spells = refl }) stay

level_of_chain : (g : Graph) (K : FactSet) → AreTrue g K → {f a b : ℕ} → IsInnerChain g K f a b → Level g.edges a b
level_of_chain g K true (ends i) = stay
level_of_chain g K true (goes_on {a = a} {b = b} i e c) = level_append (level_of_inner g K true a b e) (level_of_chain g K true c)

pub step_keeps_truth : (g : Graph) (f : ℕ) (K : FactSet) → AreTrue g K → (a b : ℕ) → IsStep g f K a b → IsTrueFact g a b
step_keeps_truth g f K true a b s = record { function = f; formals = s.formals; joined = path_of (level_of_chain g K true s.chain) }

-- ---- facts in which each function is settled
module _ (g : Graph) (K : FactSet) (shaped : IsShaped g) (settled : (f : ℕ) → IsSettled g K f) where
  chain_of_level : {a b : ℕ} → Level g.edges a b → (f : ℕ) → IsIn g.vertices f a → IsInnerChain g K f a b
  chain_of_level stay f i = ends i
  chain_of_level (plain {a = a} {b = b} h l) f i = goes_on i (inner_of_plain h) (chain_of_level l f (plain_stays g shaped f a b i h))
  chain_of_level (call {a = a} {b = b} {c = c} {d = d} n o l h r) f i =
      let x = crossed g shaped n a b c d o h in
      let fact : (k : ℕ) → AreFormals g.vertices k b c → K b c = λ k formals. settled k b c (record {
        formals = formals;
        chain = chain_of_level l k (is_in g.vertices k b (kind.FormalIn formals.slot_in) formals.goes_in);
      }) in
      goes_on i (crossed_edge g K n a b c d fact x) (chain_of_level r f (crossed_stays g f n a b c d i x))

  pub settled_has_all_true : HasEachTrueFact g K
  settled_has_all_true a b t =
      let formals = t.formals in
      settled t.function a b (record {
        formals = formals;
        chain = chain_of_level (level_of_path t.joined) t.function (is_in g.vertices t.function a (kind.FormalIn formals.slot_in) formals.goes_in);
      })

-- ---- with each true fact, what goes back along edges inside functions goes back along a walk
pub back_along : (g : Graph) (K : FactSet) (P : ℕ → Type 0) → IsShaped g → HasEachTrueFact g K → ((a b : ℕ) → IsInnerEdge g.edges K a b → P b → P a) → {a b : ℕ} → Level g.edges a b → P b → P a
back_along g K P shaped all back stay p = p
back_along g K P shaped all back (plain {a = a} {b = b} h l) p = back a b (inner_of_plain h) (back_along g K P shaped all back l p)
back_along g K P shaped all back (call {a = a} {b = b} {c = c} {d = d} n o l h r) p =
    let fact : (k : ℕ) → AreFormals g.vertices k b c → K b c = λ k formals. all b c (record { function = k; formals = formals; joined = path_of l }) in
    back a d (crossed_edge g K n a b c d fact (crossed g shaped n a b c d o h)) (back_along g K P shaped all back r p)
