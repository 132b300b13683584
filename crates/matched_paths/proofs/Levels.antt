-- Walks on one level, in which each call that is entered returns: they are the paths whose word is matched.
use Rattle.std.proofs.Common.{ℕ, ◌≡◌, List, [], ◌∷◌, ◌++◌, refl, sym, ap, ◌∙◌, subst, ◌⊎◌, inl, inr, append_assoc, Contains}
use Rattle.dep_model.specs.declared.edge.Edge.{Edge}
use Rattle.dep_model.specs.declared.edge.Label.{Label}
use Rattle.dep_model.specs.declared.edge.Label.TheVariants.{Control, Flow, Call, In, Out}
use Rattle.dep_model.specs.Graphs.{edge}
use Rattle.dep_model.specs.Facts.{IsMatchedPath}
use Rattle.dep_model.specs.Words.{Letter, Open, Close, letters, word, IsPath, Matched, empty, pair, both}

-- an edge from a to b with these letters
pub record Spelled (edges : List Edge) (w : List Letter) (a b : ℕ) : Type 0 where
  pub label : Label
  pub member : Contains edges (edge a b label)
  pub spells : letters label ≡ w

-- a walk by edges without letters, and by calls that are entered, walked through and left
pub data Level (edges : List Edge) : ℕ → ℕ → Type 0 where
  stay : {a : ℕ} → Level edges a a
  plain : {a b c : ℕ} → Spelled edges [] a b → Level edges b c → Level edges a c
  call : {a b c d e : ℕ} (n : ℕ) → Spelled edges (Open n ∷ []) a b → Level edges b c → Spelled edges (Close n ∷ []) c d → Level edges d e → Level edges a e

pub level_append : {edges : List Edge} {a b c : ℕ} → Level edges a b → Level edges b c → Level edges a c
level_append stay r = r
level_append (plain h q) r = plain h (level_append q r)
level_append (call n o i h q) r = call n o i h (level_append q r)

letter_cases : (l : Label) → (letters l ≡ []) ⊎ ((x : Letter) × (letters l ≡ x ∷ []))
letter_cases Control = inl refl
letter_cases Flow = inl refl
letter_cases (Call c) = inr (Open c, refl)
letter_cases (In c) = inr (Open c, refl)
letter_cases (Out c) = inr (Close c, refl)

-- the first edge of a path
pub spelled : (edges : List Edge) (e : Edge) (a : ℕ) (w : List Letter) → Contains edges e → e.from ≡ a → letters e.label ≡ w → Spelled edges w a e.to
spelled edges e a w m f s = subst (λ x. Spelled edges w x e.to) f (record { label = e.label; member = m; spells = s })

-- ---- a path cut where its word is cut
pub record Split (edges : List Edge) (a b : ℕ) (w x : List Letter) : Type 0 where
  pub front : List Edge
  pub middle : ℕ
  pub back : List Edge
  pub front_joins : IsPath edges a front middle
  pub front_spells : word front ≡ w
  pub back_joins : IsPath edges middle back b
  pub back_spells : word back ≡ x

tail_is : {x y : Letter} {v w : List Letter} → x ∷ v ≡ y ∷ w → v ≡ w
tail_is e = cc

head_is : {x y : Letter} {v w : List Letter} → x ∷ v ≡ y ∷ w → x ≡ y
head_is e = cc

pub split : (edges es : List Edge) (a b : ℕ) (w x : List Letter) → IsPath edges a es b → word es ≡ w ++ x → Split edges a b w x
split edges es a b [] x p e = record { front = []; middle = a; back = es; front_joins = refl; front_spells = refl; back_joins = p; back_spells = e }
split edges [] a b (l ∷ w) x p e = cc
split edges (f ∷ es) a b (l ∷ w) x p e =
    elim (letter_cases f.label) [
      | inl h ↦
          let s = split edges es f.to b (l ∷ w) x p.2 (sym (ap (λ v. v ++ word es) h) ∙ e) in
          record {
            front = f ∷ s.front;
            middle = s.middle;
            back = s.back;
            front_joins = (p.0, p.1, s.front_joins);
            front_spells = ap (λ v. v ++ word s.front) h ∙ s.front_spells;
            back_joins = s.back_joins;
            back_spells = s.back_spells;
          }
      | inr h ↦
          let same : h.0 ∷ word es ≡ l ∷ (w ++ x) = sym (ap (λ v. v ++ word es) h.1) ∙ e in
          let s = split edges es f.to b w x p.2 (tail_is same) in
          let spells : h.0 ∷ word s.front ≡ l ∷ w = ap (λ y. y ∷ word s.front) (head_is same) ∙ ap (λ v. l ∷ v) s.front_spells in
          record {
            front = f ∷ s.front;
            middle = s.middle;
            back = s.back;
            front_joins = (p.0, p.1, s.front_joins);
            front_spells = ap (λ v. v ++ word s.front) h.1 ∙ spells;
            back_joins = s.back_joins;
            back_spells = s.back_spells;
          }
    ]

-- a path up to its first letter, that letter's edge, and the rest
pub record FirstLetter (edges : List Edge) (a b : ℕ) (l : Letter) (w : List Letter) : Type 0 where
  pub at : ℕ
  pub next : ℕ
  pub before : Level edges a at
  pub letter : Spelled edges (l ∷ []) at next
  pub rest : List Edge
  pub joins : IsPath edges next rest b
  pub spells : word rest ≡ w

pub first_letter : (edges es : List Edge) (a b : ℕ) (l : Letter) (w : List Letter) → IsPath edges a es b → word es ≡ l ∷ w → FirstLetter edges a b l w
first_letter edges [] a b l w p e = cc
first_letter edges (f ∷ es) a b l w p e =
    elim (letter_cases f.label) [
      | inl h ↦
          let s = first_letter edges es f.to b l w p.2 (sym (ap (λ v. v ++ word es) h) ∙ e) in
          record {
            at = s.at;
            next = s.next;
            before = plain (spelled edges f a [] p.0 p.1 h) s.before;
            letter = s.letter;
            rest = s.rest;
            joins = s.joins;
            spells = s.spells;
          }
      | inr h ↦
          let same : h.0 ∷ word es ≡ l ∷ w = sym (ap (λ v. v ++ word es) h.1) ∙ e in
          record {
            at = a;
            next = f.to;
            before = stay;
            letter = spelled edges f a (l ∷ []) p.0 p.1 (h.1 ∙ ap (λ x. x ∷ []) (head_is same));
            rest = es;
            joins = p.2;
            spells = tail_is same;
          }
    ]

pub silent : (edges es : List Edge) (a b : ℕ) → IsPath edges a es b → word es ≡ [] → Level edges a b
silent edges [] a b p e = subst (λ x. Level edges a x) p stay
silent edges (f ∷ es) a b p e =
    elim (letter_cases f.label) [
      | inl h ↦ plain (spelled edges f a [] p.0 p.1 h) (silent edges es f.to b p.2 (sym (ap (λ v. v ++ word es) h) ∙ e))
      | inr h ↦
          let same : h.0 ∷ word es ≡ [] = sym (ap (λ v. v ++ word es) h.1) ∙ e in
          cc
    ]

-- ---- a path with a matched word is a walk on one level
pub level_of : {w : List Letter} → Matched w → (edges es : List Edge) (a b : ℕ) → IsPath edges a es b → word es ≡ w → Level edges a b
level_of empty edges es a b p e = silent edges es a b p e
level_of (pair c {w = w} m) edges es a b p e =
    let f = first_letter edges es a b (Open c) (w ++ Close c ∷ []) p e in
    let s = split edges f.rest f.next b w (Close c ∷ []) f.joins f.spells in
    let g = first_letter edges s.back s.middle b (Close c) [] s.back_joins s.back_spells in
    let inside = level_append (level_of m edges s.front f.next s.middle s.front_joins s.front_spells) g.before in
    level_append {c = b} f.before (call {d = g.next} c f.letter inside g.letter (silent edges g.rest g.next b g.joins g.spells))
level_of (both {w = w} {x = x} m n) edges es a b p e =
    let s = split edges es a b w x p e in
    level_append (level_of m edges s.front a s.middle s.front_joins s.front_spells) (level_of n edges s.back s.middle b s.back_joins s.back_spells)

pub level_of_path : {edges : List Edge} {a b : ℕ} → IsMatchedPath edges a b → Level edges a b
level_of_path {edges} {a} {b} r = level_of r.matched edges r.path a b r.joins refl

-- ---- and such a walk is a path with a matched word
pub join_paths : (edges p q : List Edge) (a m b : ℕ) → IsPath edges a p m → IsPath edges m q b → IsPath edges a (p ++ q) b
join_paths edges [] q a m b h k = subst (λ x. IsPath edges x q b) (sym h) k
join_paths edges (e ∷ p) q a m b h k = (h.0, h.1, join_paths edges p q e.to m b h.2 k)

pub word-append : (p q : List Edge) → word (p ++ q) ≡ word p ++ word q
word-append [] q = refl
word-append (e ∷ p) q = ap (λ v. letters e.label ++ v) (word-append p q) ∙ sym (append_assoc (letters e.label) (word p) (word q))

pub word_with : {edges : List Edge} {w : List Letter} {a b : ℕ} (h : Spelled edges w a b) (p : List Edge) → word (edge a b h.label ∷ p) ≡ w ++ word p
word_with h p = ap (λ v. v ++ word p) h.spells

pub path_of : {edges : List Edge} {a b : ℕ} → Level edges a b → IsMatchedPath edges a b
path_of stay = record { path = []; joins = refl; matched = empty }
path_of {edges} (plain {a = a} {b = b} h q) =
    let r = path_of q in
    record { path = edge a b h.label ∷ r.path; joins = (h.member, refl, r.joins); matched = subst Matched (sym (word_with h r.path)) r.matched }
path_of {edges} (call {a = a} {b = b} {c = c} {d = d} {e = e} n o i h q) =
    let s = path_of i in
    let r = path_of q in
    let leaving = edge c d h.label ∷ r.path in
    let inner = s.path ++ leaving in
    let inner_joins : IsPath edges b inner e = join_paths edges s.path leaving b c e s.joins (h.member, refl, r.joins) in
    let inner_word : word inner ≡ word s.path ++ (Close n ∷ word r.path) = word-append s.path leaving ∙ ap (λ v. word s.path ++ v) (word_with h r.path) in
    let all_word : word (edge a b o.label ∷ inner) ≡ Open n ∷ (word s.path ++ (Close n ∷ word r.path)) = word_with o inner ∙ ap (λ v. Open n ∷ v) inner_word in
    let cut : Open n ∷ (word s.path ++ (Close n ∷ word r.path)) ≡ (Open n ∷ (word s.path ++ Close n ∷ [])) ++ word r.path =
    ap (λ v. Open n ∷ v) (sym (append_assoc (word s.path) (Close n ∷ []) (word r.path))) in
    record {
      path = edge a b o.label ∷ inner;
      joins = (o.member, refl, inner_joins);
      matched = subst Matched (sym (all_word ∙ cut)) (both (pair n s.matched) r.matched);
    }
