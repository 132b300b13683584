-- In a shaped graph a call that is entered and left again is a summary edge, or the control edge from its call vertex.
use Rattle.std.proofs.Common.{ℕ, ◌≡◌, List, [], ◌∷◌, refl, sym, ap, ◌∙◌, subst, inl, inr, Contains, Some}
use Rattle.dep_model.specs.declared.edge.Edge.{Edge}
use Rattle.dep_model.specs.declared.edge.Label.{Label}
use Rattle.dep_model.specs.declared.edge.Label.TheVariants.{Control, Flow, Call, In, Out}
use Rattle.dep_model.specs.declared.graph.Graph.{Graph}
use Rattle.dep_model.specs.declared.vertex.Slot.{Slot}
use Rattle.dep_model.specs.declared.vertex.Vertex.{Vertex}
use Rattle.dep_model.specs.declared.vertex.VertexKind.{VertexKind}
use Rattle.dep_model.specs.declared.vertex.VertexKind.TheVariants as kind
use Rattle.dep_model.specs.Facts.{FactSet, AreFormals, IsIn, IsInnerEdge}
use Rattle.dep_model.specs.Graphs.{edge}
use Rattle.dep_model.specs.Shapes.{IsShaped, IsFitting, IsCallOf, IsActual}
use Rattle.dep_model.specs.Shapes as shapes
use Rattle.dep_model.specs.SystemGraph.{IsVertex}
use Rattle.dep_model.specs.VertexOrder.{in_function}
use Rattle.dep_model.specs.Words.{Open, Close, letters}
use Rattle.matched_paths.proofs.Levels.{Spelled}

-- ---- vertices
one_vertex : (vs : List Vertex) (f i v : ℕ) (k m : VertexKind) → IsVertex vs f k v → IsVertex vs i m v → in_function f k ≡ in_function i m
one_vertex vs f i v k m p q = let s : Some (in_function f k) ≡ Some (in_function i m) = sym p ∙ q in cc

pub same_function : (vs : List Vertex) (f i v : ℕ) (k m : VertexKind) → IsVertex vs f k v → IsVertex vs i m v → f ≡ i
same_function vs f i v k m p q = ap (λ (x : Vertex). x.function) (one_vertex vs f i v k m p q)

pub same_kind : (vs : List Vertex) (f i v : ℕ) (k m : VertexKind) → IsVertex vs f k v → IsVertex vs i m v → k ≡ m
same_kind vs f i v k m p q = ap (λ (x : Vertex). x.kind) (one_vertex vs f i v k m p q)

pub is_in : (vs : List Vertex) (f v : ℕ) (k : VertexKind) → IsVertex vs f k v → IsIn vs f v
is_in vs f v k p = record { vertex = in_function f k; at = p; in_function = refl }

-- a vertex of a function, by another place of it in the list
pub in_other : (vs : List Vertex) (f i v : ℕ) (k : VertexKind) → IsIn vs f v → IsVertex vs i k v → f ≡ i
in_other vs f i v k p q =
    let s : Some p.vertex ≡ Some (in_function i k) = sym p.at ∙ q in
    let e : p.vertex ≡ in_function i k = cc in
    sym p.in_function ∙ ap (λ (x : Vertex). x.function) e

-- ---- edges without letters
pub inner_of_plain : {edges : List Edge} {K : FactSet} {a b : ℕ} → Spelled edges [] a b → IsInnerEdge edges K a b
inner_of_plain {edges} {K} {a} {b} h = inner_by h.label h.member h.spells where
  inner_by : (l : Label) → Contains edges (edge a b l) → letters l ≡ [] → IsInnerEdge edges K a b
  inner_by Control m s = inl m
  inner_by Flow m s = inr (inl m)
  inner_by (Call c) m s = cc
  inner_by (In c) m s = cc
  inner_by (Out c) m s = cc

-- such an edge stays in its function
plain_fits : (g : Graph) (l : Label) (a b : ℕ) → letters l ≡ [] → IsFitting g (edge a b l) → (f : ℕ) × IsIn g.vertices f a × IsIn g.vertices f b
plain_fits g l a b h (shapes.inside f j k s p q) = (f, is_in g.vertices f a j p, is_in g.vertices f b k q)
plain_fits g l a b h (shapes.call f i to s p q) = let w : letters (Call a) ≡ [] = sym (ap letters s) ∙ h in cc
plain_fits g l a b h (shapes.in_ f i to c slot o s p q) = let w : letters (In c) ≡ [] = sym (ap letters s) ∙ h in cc
plain_fits g l a b h (shapes.out f i to c slot o s p q) = let w : letters (Out c) ≡ [] = sym (ap letters s) ∙ h in cc

in_same : (vs : List Vertex) (f i v : ℕ) → IsIn vs f v → IsIn vs i v → f ≡ i
in_same vs f i v p q =
    let s : Some p.vertex ≡ Some q.vertex = sym p.at ∙ q.at in
    let e : p.vertex ≡ q.vertex = cc in
    sym p.in_function ∙ ap (λ (x : Vertex). x.function) e ∙ q.in_function

pub plain_stays : (g : Graph) → IsShaped g → (f a b : ℕ) → IsIn g.vertices f a → Spelled g.edges [] a b → IsIn g.vertices f b
plain_stays g shaped f a b i h =
    let r = plain_fits g h.label a b h.spells (shaped.fitting (edge a b h.label) h.member) in
    subst (λ k. IsIn g.vertices k b) (in_same g.vertices r.0 f a r.1 i) r.2

-- ---- edges that enter and leave calls
data IsEntered (g : Graph) (n a b : ℕ) : Type 0 where
  by_call : n ≡ a → IsEntered g n a b
  by_in : (f i to : ℕ) (slot : Slot) → IsCallOf g f i to n → Contains g.edges (edge a b (In n))
      → IsVertex g.vertices f (kind.ActualIn i slot) a → IsVertex g.vertices to (kind.FormalIn slot) b → IsEntered g n a b

record IsLeft (g : Graph) (n c d : ℕ) : Type 0 where
  function : ℕ
  statement : ℕ
  callee : ℕ
  slot : Slot
  call : IsCallOf g function statement callee n
  leaves : Contains g.edges (edge c d (Out n))
  formal : IsVertex g.vertices callee (kind.FormalOut slot) c
  actual : IsVertex g.vertices function (kind.ActualOut statement slot) d

entered : (g : Graph) (l : Label) (n a b : ℕ) → Contains g.edges (edge a b l) → letters l ≡ Open n ∷ [] → IsFitting g (edge a b l) → IsEntered g n a b
entered g l n a b m h (shapes.inside f j k s p q) = elim s [
  | inl e ↦ let w : letters Control ≡ Open n ∷ [] = sym (ap letters e) ∙ h in cc
  | inr e ↦ let w : letters Flow ≡ Open n ∷ [] = sym (ap letters e) ∙ h in cc
]
entered g l n a b m h (shapes.call f i to s p q) =
    let w : letters (Call a) ≡ Open n ∷ [] = sym (ap letters s) ∙ h in
    by_call cc
entered g l n a b m h (shapes.in_ f i to c slot o s p q) =
    let w : letters (In c) ≡ Open n ∷ [] = sym (ap letters s) ∙ h in
    let e : c ≡ n = cc in
    by_in f i to slot (subst (IsCallOf g f i to) e o) (subst (λ k. Contains g.edges (edge a b k)) (s ∙ ap In e) m) p q
entered g l n a b m h (shapes.out f i to c slot o s p q) = let w : letters (Out c) ≡ Open n ∷ [] = sym (ap letters s) ∙ h in cc

left : (g : Graph) (l : Label) (n c d : ℕ) → Contains g.edges (edge c d l) → letters l ≡ Close n ∷ [] → IsFitting g (edge c d l) → IsLeft g n c d
left g l n c d m h (shapes.inside f j k s p q) = elim s [
  | inl e ↦ let w : letters Control ≡ Close n ∷ [] = sym (ap letters e) ∙ h in cc
  | inr e ↦ let w : letters Flow ≡ Close n ∷ [] = sym (ap letters e) ∙ h in cc
]
left g l n c d m h (shapes.call f i to s p q) = let w : letters (Call c) ≡ Close n ∷ [] = sym (ap letters s) ∙ h in cc
left g l n c d m h (shapes.in_ f i to k slot o s p q) = let w : letters (In k) ≡ Close n ∷ [] = sym (ap letters s) ∙ h in cc
left g l n c d m h (shapes.out f i to k slot o s p q) =
    let w : letters (Out k) ≡ Close n ∷ [] = sym (ap letters s) ∙ h in
    let e : k ≡ n = cc in
    record {
      function = f;
      statement = i;
      callee = to;
      slot = slot;
      call = subst (IsCallOf g f i to) e o;
      leaves = subst (λ x. Contains g.edges (edge c d x)) (s ∙ ap Out e) m;
      formal = p;
      actual = q;
    }

-- ---- a call that is entered and left
-- call n, entered from a to b and left from c to d: a and d are of one function, joined by a control edge, or by the call of another
-- one of which b and c are a formal-in and a formal-out
pub data IsCrossed (g : Graph) (n a b c d : ℕ) : Type 0 where
  by_control : (f : ℕ) → IsIn g.vertices f a → IsIn g.vertices f d → Contains g.edges (edge a d Control) → IsCrossed g n a b c d
  by_formals : (f to : ℕ) → IsIn g.vertices f a → IsIn g.vertices f d → AreFormals g.vertices to b c
      → Contains g.edges (edge a b (In n)) → Contains g.edges (edge c d (Out n)) → IsCrossed g n a b c d

-- a call has one callee
one_callee : (g : Graph) → IsShaped g → (f i to k j on n : ℕ) → IsCallOf g f i to n → IsCallOf g k j on n → to ≡ on
one_callee g shaped f i to k j on n p q =
    let e = shaped.one_callee n p.entry q.entry p.calls q.calls in
    same_function g.vertices to on q.entry kind.Entry kind.Entry (subst (IsVertex g.vertices to kind.Entry) e p.is_entry) q.is_entry

cross : (g : Graph) → IsShaped g → (n a b c d : ℕ) → IsEntered g n a b → IsLeft g n c d → IsCrossed g n a b c d
cross g shaped n a b c d (by_call e) l =
    by_control l.function (subst (IsIn g.vertices l.function) e (is_in g.vertices l.function n (kind.Call l.statement) l.call.at))
    (is_in g.vertices l.function d (kind.ActualOut l.statement l.slot) l.actual)
    (subst (λ v. Contains g.edges (edge v d Control)) e (shaped.actuals l.function l.statement n d l.call.at (shapes.comes_out l.slot l.actual)))
cross g shaped n a b c d (by_in f i to slot o m p q) l =
    let same = same_function g.vertices l.function f n (kind.Call l.statement) (kind.Call i) l.call.at o.at in
    let callee = one_callee g shaped l.function l.statement l.callee f i to n l.call o in
    by_formals f to (is_in g.vertices f a (kind.ActualIn i slot) p)
    (subst (λ k. IsIn g.vertices k d) same (is_in g.vertices l.function d (kind.ActualOut l.statement l.slot) l.actual))
    (record { slot_in = slot; slot_out = l.slot; goes_in = q; comes_out = subst (λ k. IsVertex g.vertices k (kind.FormalOut l.slot) c) callee l.formal })
    m l.leaves

pub crossed : (g : Graph) → IsShaped g → (n a b c d : ℕ) → Spelled g.edges (Open n ∷ []) a b → Spelled g.edges (Close n ∷ []) c d → IsCrossed g n a b c d
crossed g shaped n a b c d o h =
    cross g shaped n a b c d (entered g o.label n a b o.member o.spells (shaped.fitting (edge a b o.label) o.member))
    (left g h.label n c d h.member h.spells (shaped.fitting (edge c d h.label) h.member))

pub crossed_edge : (g : Graph) (K : FactSet) (n a b c d : ℕ) → ((f : ℕ) → AreFormals g.vertices f b c → K b c) → IsCrossed g n a b c d → IsInnerEdge g.edges K a d
crossed_edge g K n a b c d fact (by_control f i j m) = inl m
crossed_edge g K n a b c d fact (by_formals f to i j formals o h) =
    inr (inr (record { call = n; formal_in = b; formal_out = c; enters = o; leaves = h; fact = fact to formals }))

pub crossed_stays : (g : Graph) (f n a b c d : ℕ) → IsIn g.vertices f a → IsCrossed g n a b c d → IsIn g.vertices f d
crossed_stays g f n a b c d i (by_control k p q m) = subst (λ x. IsIn g.vertices x d) (in_same g.vertices k f a p i) q
crossed_stays g f n a b c d i (by_formals k to p q formals o h) = subst (λ x. IsIn g.vertices x d) (in_same g.vertices k f a p i) q

-- ---- where arguments and results of one call lead
record IsEnteredIn (g : Graph) (n b : ℕ) : Type 0 where
  function : ℕ
  statement : ℕ
  callee : ℕ
  slot : Slot
  call : IsCallOf g function statement callee n
  formal : IsVertex g.vertices callee (kind.FormalIn slot) b

entered_in : (g : Graph) (n a b : ℕ) → IsFitting g (edge a b (In n)) → IsEnteredIn g n b
entered_in g n a b (shapes.inside f j k s p q) = elim s [ inl e ↦ cc | inr e ↦ cc ]
entered_in g n a b (shapes.call f i to s p q) = cc
entered_in g n a b (shapes.in_ f i to c slot o s p q) =
    let e : c ≡ n = cc in
    record { function = f; statement = i; callee = to; slot = slot; call = subst (IsCallOf g f i to) e o; formal = q }
entered_in g n a b (shapes.out f i to c slot o s p q) = cc

-- where an In edge ends and an Out edge of the same call begins, there are a formal-in and a formal-out of one function
pub formals_of_call : (g : Graph) → IsShaped g → (n a b c d : ℕ) → Contains g.edges (edge a b (In n)) → Contains g.edges (edge c d (Out n)) → (to : ℕ) × AreFormals g.vertices to b c
formals_of_call g shaped n a b c d m h =
    let o = entered_in g n a b (shaped.fitting (edge a b (In n)) m) in
    let l = left g (Out n) n c d h refl (shaped.fitting (edge c d (Out n)) h) in
    let callee = one_callee g shaped l.function l.statement l.callee o.function o.statement o.callee n l.call o.call in
    (o.callee, record { slot_in = o.slot; slot_out = l.slot; goes_in = o.formal; comes_out = subst (λ k. IsVertex g.vertices k (kind.FormalOut l.slot) c) callee l.formal })
