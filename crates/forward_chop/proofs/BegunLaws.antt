-- What a chop begins with are the vertices and the pairs on the parts of paths that rise or fall as a whole.
use Rattle.std.proofs.Common.{◌≡◌, ◌↔◌, ◌⊎◌, ◌&&◌, ℕ, ◌+◌, ◌-◌, ◌<◌, inl, inr, Bool, true, false, List, All, length, Contains, refl, sym, ap, ◌∙◌, subst, arith}
use Rattle.std.specs.Prelude.{IsTrue}
use Rattle.std.proofs.lemmas.Bool.{and_parts, and_from, false≢true}
use Rattle.std.proofs.lemmas.List.Elements.{All-contains}
use Rattle.bit_rows.specs.Sets.{has}
use Rattle.rule_closure.specs.Rules.{Derived, RuleSystem}
use Rattle.dep_model.specs.Shapes.{IsShaped}
use Rattle.dep_model.specs.declared.edge.Edge.{Edge}
use Rattle.dep_model.specs.declared.edge.Label.TheVariants.{Out}
use Rattle.dep_model.specs.declared.graph.Graph.{Graph}
use Rattle.dep_model.specs.Graphs.{edge}
use Rattle.dep_model.specs.Words.{Open, Close, letters}
use Rattle.matched_paths.specs.declared.vertex_range.VertexRange.{VertexRange}
use Rattle.matched_paths.specs.VertexRanges.{within}
use Rattle.matched_paths.proofs.GroupLaws.{leaving_is, leaving_has}
use Rattle.matched_paths.proofs.ReachLaws.{path_below}
use Rattle.matched_paths.proofs.StepRuleLaws.{within_is, is_within}
use Rattle.forward_chop.specs.declared.field.Field.{Field}
use Rattle.forward_chop.specs.declared.wanted.Wanted.{Wanted}
use Rattle.forward_chop.specs.Begun.{IsBegun, IsMarkedAhead, IsMarkedBehind}
use Rattle.forward_chop.specs.Chops.{IsForward, ReachesOne, IsInChop}
use Rattle.forward_chop.specs.Contexts.{FallsToOne, HasLetter, IsAround, IsCall, IsFirstPair, IsRisenTo, falling, rising}
use Rattle.forward_chop.specs.Fields.{AsksFrom, HaveMarksChanged, IsAhead, IsBehind}
use Rattle.forward_chop.specs.Pairs.{HasAsked, IsCleared, asks, covers}
use Rattle.forward_chop.specs.Rounds.{CoversCalls, HasGone, IsIndex, IsOpen}
use Rattle.forward_chop.specs.Whole.{FindsAhead, FindsBehind, IsWhole}
use Rattle.forward_chop.proofs.ContextLaws.{by_contexts}
use Rattle.forward_chop.proofs.PairLaws.{covers_by_outs}
use Rattle.forward_chop.proofs.RoundLaws.{chop_found, letter_closed, letter_opened, opened_letter}
use Rattle.forward_chop.proofs.TurnedLaws.{end_below}

-- only the marks have changed
pub whole_stays : (g : Graph) (old new : Field) → HaveMarksChanged old new → IsWhole g old → IsWhole g new
whole_stays g old new same w = record {
  first_is = ap (λ (r : VertexRange). r.first) same.range_same ∙ w.first_is;
  last_is = ap (λ (r : VertexRange). r.last) same.range_same ∙ w.last_is;
  few = w.few;
  ahead_size = ap (λ (c : RuleSystem). c.size) same.ahead_same ∙ w.ahead_size;
  behind_size = ap (λ (c : RuleSystem). c.size) same.behind_same ∙ w.behind_size;
  reached_long = same.reached_long ∙ w.reached_long;
  reaching_long = same.reaching_long ∙ w.reaching_long;
  ahead = subst (FindsAhead (length g.vertices) g.edges) (sym same.ahead_same) w.ahead;
  behind = subst (FindsBehind (length g.vertices) g.edges) (sym same.behind_same) w.behind;
}

pub ahead_stays : (base : ℕ) (from : List ℕ) (old new : Field) → new.reached ≡ old.reached → new.ahead ≡ old.ahead → IsMarkedAhead base from old → IsMarkedAhead base from new
ahead_stays base from old new reached ahead h = record {
  seeds = h.seeds;
  seeds_are = h.seeds_are;
  marks_are = λ k.
      subst (λ (s : List Bool). IsTrue (has s k) ↔ Derived new.ahead.rules h.seeds k) (sym reached)
      (subst (λ (c : RuleSystem). IsTrue (has old.reached k) ↔ Derived c.rules h.seeds k) (sym ahead) (h.marks_are k));
}

-- what the marks say of a forward slice
pub forward_read : (g : Graph) → IsShaped g → (f : Field) → IsWhole g f → (from : List ℕ) → All (λ v. v < length g.vertices) from → IsMarkedAhead (length g.vertices) from f → (v : ℕ) → ((v < length g.vertices) × IsTrue (has f.reached v)) ↔ IsForward g.edges from v
forward_read g shaped f whole from inside ahead v = (
  λ h. (whole.ahead from ahead.seeds inside ahead.seeds_are v h.0).1.0 ((ahead.marks_are v).0 h.1),
  λ r.
      let low : v < length g.vertices = end_below g shaped r.reaches.path r.start v r.reaches.joins (All-contains (λ k. k < length g.vertices) from r.start inside r.listed) in
      (low, (ahead.marks_are v).1 ((whole.ahead from ahead.seeds inside ahead.seeds_are v low).1.1 r)),
)

-- ---- calls whose edges are marked
-- a call of a pair, from what is ahead to what is behind
record IsMarkedCall (g : Graph) (f : Field) (base x o : ℕ) : Type 0 where
  before : ℕ
  behind : ℕ
  call : IsCall g.edges before x o behind
  from : IsAhead f base before
  to : IsBehind f base behind

module _ (g : Graph) (starts exits : List (List Edge)) (index : IsIndex g starts exits) (f : Field) (base : ℕ) where
  call_of_asks : (x o : ℕ) → AsksFrom f base g.edges exits x o → IsMarkedCall g f base x o
  call_of_asks x o h =
      let e = h.edge in
      let q = h.asks in
      let l = q.leaves in
      let out = leaving_is g.edges q.call l.leave (subst (λ es. Contains es l.leave) (index.exits_are q.call) l.listed) in
      let enters : HasLetter g.edges (Open q.call) e.from x = record { label = e.label; member = subst (λ k. Contains g.edges (edge e.from k e.label)) (sym l.x_is) h.listed; spells = opened_letter e.label q.call q.opens } in
      let leaves : HasLetter g.edges (Close q.call) o l.leave.to = record { label = l.leave.label; member = subst (λ k. Contains g.edges (edge k l.leave.to l.leave.label)) (sym l.o_is) out.0; spells = ap letters out.1 } in
      record { before = e.from; behind = l.leave.to; call = record { call = q.call; enters = enters; leaves = leaves }; from = q.ahead; to = l.behind }

  asks_of_call : (a x o b : ℕ) → IsCall g.edges a x o b → IsAhead f base a → IsBehind f base b → AsksFrom f base g.edges exits x o
  asks_of_call a x o b c ahead behind =
      let leave = edge o b (Out c.call) in
      let leaves : Contains g.edges leave = subst (λ l. Contains g.edges (edge o b l)) (letter_closed c.leaves.label c.call c.leaves.spells) c.leaves.member in
      record {
        edge = edge a x c.enters.label;
        listed = c.enters.member;
        asks = record {
          call = c.call;
          opens = letter_opened c.enters.label c.call c.enters.spells;
          ahead = ahead;
          leaves = record {
            leave = leave;
            listed = subst (λ es. Contains es leave) (sym (index.exits_are c.call)) (leaving_has g.edges c.call o b leaves);
            behind = behind;
            x_is = refl;
            o_is = refl;
          };
        };
      }

  pub covers_asked : (w : Wanted) → CoversCalls g.edges w → (x o : ℕ) → AsksFrom f base g.edges exits x o → IsTrue (covers w x o)
  covers_asked w covered x o h = let c = call_of_asks x o h in covered c.before x o c.behind c.call

-- ---- how a chop begins
module _ (g : Graph) (starts exits : List (List Edge)) (index : IsIndex g starts exits) (f : Field) (w0 w1 w2 w3 : Wanted) (s0 s1 s2 s3 : List Bool) (m1 m2 : Bool) (n : ℕ) (n_is : n ≡ length g.vertices) (all : length w0.outs.items ≡ length g.vertices) (covered : CoversCalls g.edges w0) (cleared : IsCleared w0 w1) (one : HasAsked (AsksFrom f 0 g.edges exits) w1 w2 m1) (two : HasAsked (AsksFrom f n g.edges exits) w2 w3 m2) (empty : (v : ℕ) → IsTrue (has s1 v) → ⊥) (first : (v : ℕ) → IsTrue (has s2 v) ↔ (IsTrue (has s1 v) ⊎ (IsAhead f 0 v × IsBehind f 0 v))) (second : (v : ℕ) → IsTrue (has s3 v) ↔ (IsTrue (has s2 v) ⊎ (IsAhead f n v × IsBehind f n v))) (long : length s3 ≡ length g.vertices) where
  outs_are : w3.outs.items ≡ w0.outs.items
  outs_are = two.outs_same ∙ one.outs_same ∙ cleared.outs_same

  due_where_asked : (x o : ℕ) → IsTrue (asks w3 x o) → IsTrue (has w3.due.items x)
  due_where_asked x o a = elim (two.due_new x o a) [
    | inr up ↦ up
    | inl was ↦ elim (one.due_new x o was) [
      | inr up ↦ two.due_kept x up
      | inl none ↦ absurd (cleared.none x o none)
    ]
  ]

  not_asked : (x o : ℕ) → has w3.due.items x ≡ false → IsTrue (asks w3 x o) → ⊥
  not_asked x o down a = false≢true (sym down ∙ due_where_asked x o a)

  open_is : IsOpen g w3 s3
  open_is = record {
    laid = two.laid;
    all = ap length outs_are ∙ all;
    covered = λ a x o b c. covers_by_outs w0 w3 outs_are x o ∙ covered a x o b c;
    done = λ x down. record {
      pairs = λ o y p a i. absurd (not_asked x o down a);
      middle = λ o v a i e. absurd (not_asked x o down a);
    };
    size = long;
  }

  asked : (x o : ℕ) → IsTrue (asks w3 x o) → AsksFrom f 0 g.edges exits x o ⊎ AsksFrom f n g.edges exits x o
  asked x o a = elim (two.sound x o a) [
    | inr q ↦ inr q
    | inl was ↦ elim (one.sound x o was) [ inr q ↦ inl q | inl none ↦ absurd (cleared.none x o none) ]
  ]

  asks_all : (x o : ℕ) → AsksFrom f 0 g.edges exits x o ⊎ AsksFrom f n g.edges exits x o → IsTrue (asks w3 x o)
  asks_all x o (inl q) = two.kept x o (one.held x o q (covers_by_outs w0 w1 cleared.outs_same x o ∙ covers_asked g starts exits index f 0 w0 covered x o q))
  asks_all x o (inr q) = two.held x o q (covers_by_outs w0 w2 (one.outs_same ∙ cleared.outs_same) x o ∙ covers_asked g starts exits index f n w0 covered x o q)

  in_set : (v : ℕ) → IsTrue (has s3 v) → (IsAhead f 0 v × IsBehind f 0 v) ⊎ (IsAhead f n v × IsBehind f n v)
  in_set v h = elim ((second v).0 h) [
    | inr q ↦ inr q
    | inl was ↦ elim ((first v).0 was) [ inr q ↦ inl q | inl none ↦ absurd (empty v none) ]
  ]

  set_has : (v : ℕ) → (IsAhead f 0 v × IsBehind f 0 v) ⊎ (IsAhead f n v × IsBehind f n v) → IsTrue (has s3 v)
  set_has v (inl q) = (second v).1 (inl ((first v).1 (inr q)))
  set_has v (inr q) = (second v).1 (inr q)

  pub begun_is : IsBegun g exits f w3 s3
  begun_is = record {
    open_ = open_is;
    pairs_are = λ x o. subst (λ k. IsTrue (asks w3 x o) ↔ (AsksFrom f 0 g.edges exits x o ⊎ AsksFrom f k g.edges exits x o)) n_is (asked x o, asks_all x o);
    into_is = λ v. subst (λ k. IsTrue (has s3 v) ↔ ((IsAhead f 0 v × IsBehind f 0 v) ⊎ (IsAhead f k v × IsBehind f k v))) n_is (in_set v, set_has v);
  }

-- ---- what the marks say
module _ (g : Graph) (starts exits : List (List Edge)) (index : IsIndex g starts exits) (f : Field) (whole : IsWhole g f) (from to : List ℕ) (from_in : All (λ v. v < length g.vertices) from) (to_in : All (λ v. v < length g.vertices) to) (ahead : IsMarkedAhead (length g.vertices) from f) (behind : IsMarkedBehind to f) where
  abbrev n : ℕ
  n = length g.vertices

  number : (base v : ℕ) → base + (v - f.range.first) ≡ base + v
  number base v = let e = whole.first_is in omega (arith, e)

  none_more : (k : ℕ) → 0 + k ≡ k
  none_more k = omega arith

  below : (v : ℕ) → within f.range v ≡ true → v < n
  below v h = let i = (within_is f.range v h).1 in let e = whole.last_is in omega (arith, i, e)

  is_below : (v : ℕ) → v < n → within f.range v ≡ true
  is_below v low = is_within f.range v (let e = whole.first_is in omega (arith, e)) (let e = whole.last_is in omega (arith, low, e))

  marked : (s : List Bool) (base v : ℕ) → IsTrue (within f.range v && has s (base + (v - f.range.first))) → (v < n) × IsTrue (has s (base + v))
  marked s base v h =
      let p = and_parts (within f.range v) (has s (base + (v - f.range.first))) h in
      (below v p.0, subst (λ k. IsTrue (has s k)) (number base v) p.1)

  is_marked : (s : List Bool) (base v : ℕ) → v < n → IsTrue (has s (base + v)) → IsTrue (within f.range v && has s (base + (v - f.range.first)))
  is_marked s base v low h = and_from _ _ (is_below v low) (subst (λ k. IsTrue (has s k)) (sym (number base v)) h)

  ahead_first : (v : ℕ) → IsAhead f 0 v → IsForward g.edges from v
  ahead_first v h =
      let m = marked f.reached 0 v h in
      (whole.ahead from ahead.seeds from_in ahead.seeds_are v m.0).1.0 ((ahead.marks_are v).0 (subst (λ k. IsTrue (has f.reached k)) (none_more v) m.1))

  forward_ahead : (v : ℕ) → IsForward g.edges from v → IsAhead f 0 v
  forward_ahead v r =
      let low : v < n = end_below g index.shaped r.reaches.path r.start v r.reaches.joins (All-contains (λ k. k < n) from r.start from_in r.listed) in
      is_marked f.reached 0 v low (subst (λ k. IsTrue (has f.reached k)) (sym (none_more v)) ((ahead.marks_are v).1 ((whole.ahead from ahead.seeds from_in ahead.seeds_are v low).1.1 r)))

  ahead_second : (v : ℕ) → IsAhead f n v → IsRisenTo g.edges from v
  ahead_second v h =
      let m = marked f.reached n v h in
      (whole.ahead from ahead.seeds from_in ahead.seeds_are v m.0).0.0 ((ahead.marks_are (n + v)).0 m.1)

  risen_ahead : (v : ℕ) → IsRisenTo g.edges from v → IsAhead f n v
  risen_ahead v r =
      let low : v < n = end_below g index.shaped r.path r.start v r.joins (All-contains (λ k. k < n) from r.start from_in r.listed) in
      is_marked f.reached n v low ((ahead.marks_are (n + v)).1 ((whole.ahead from ahead.seeds from_in ahead.seeds_are v low).0.1 r))

  behind_first : (v : ℕ) → IsBehind f 0 v → FallsToOne g.edges to v
  behind_first v h =
      let m = marked f.reaching 0 v h in
      (whole.behind to behind.seeds to_in behind.seeds_are v m.0).0.0 ((behind.marks_are v).0 (subst (λ k. IsTrue (has f.reaching k)) (none_more v) m.1))

  falls_behind : (v : ℕ) → FallsToOne g.edges to v → IsBehind f 0 v
  falls_behind v r =
      let low : v < n = path_below g index.shaped r.path v r.goal r.joins (All-contains (λ k. k < n) to r.goal to_in r.listed) in
      is_marked f.reaching 0 v low (subst (λ k. IsTrue (has f.reaching k)) (sym (none_more v)) ((behind.marks_are v).1 ((whole.behind to behind.seeds to_in behind.seeds_are v low).0.1 r)))

  behind_second : (v : ℕ) → IsBehind f n v → ReachesOne g.edges to v
  behind_second v h =
      let m = marked f.reaching n v h in
      (whole.behind to behind.seeds to_in behind.seeds_are v m.0).1.0 ((behind.marks_are (n + v)).0 m.1)

  reaches_behind : (v : ℕ) → ReachesOne g.edges to v → IsBehind f n v
  reaches_behind v r =
      let low : v < n = path_below g index.shaped r.reaches.path v r.goal r.reaches.joins (All-contains (λ k. k < n) to r.goal to_in r.listed) in
      is_marked f.reaching n v low ((behind.marks_are (n + v)).1 ((whole.behind to behind.seeds to_in behind.seeds_are v low).1.1 r))

  pair_of : (x o : ℕ) → AsksFrom f 0 g.edges exits x o ⊎ AsksFrom f n g.edges exits x o → IsFirstPair g.edges from to x o
  pair_of x o (inl h) =
      let c = call_of_asks g starts exits index f 0 x o h in
      record { before = c.before; behind = c.behind; call = c.call; here = falling (ahead_first c.before c.from) (behind_first c.behind c.to) }
  pair_of x o (inr h) =
      let c = call_of_asks g starts exits index f n x o h in
      record { before = c.before; behind = c.behind; call = c.call; here = rising (ahead_second c.before c.from) (behind_second c.behind c.to) }

  asks_by : (a x o b : ℕ) → IsCall g.edges a x o b → IsAround g.edges from to a b → AsksFrom f 0 g.edges exits x o ⊎ AsksFrom f n g.edges exits x o
  asks_by a x o b c (rising r q) = inr (asks_of_call g starts exits index f n a x o b c (risen_ahead a r) (reaches_behind b q))
  asks_by a x o b c (falling r q) = inl (asks_of_call g starts exits index f 0 a x o b c (forward_ahead a r) (falls_behind b q))

  around_of : (v : ℕ) → (IsAhead f 0 v × IsBehind f 0 v) ⊎ (IsAhead f n v × IsBehind f n v) → IsAround g.edges from to v v
  around_of v (inl q) = falling (ahead_first v q.0) (behind_first v q.1)
  around_of v (inr q) = rising (ahead_second v q.0) (behind_second v q.1)

  marked_by : (v a b : ℕ) → a ≡ v → b ≡ v → IsAround g.edges from to a b → (IsAhead f 0 v × IsBehind f 0 v) ⊎ (IsAhead f n v × IsBehind f n v)
  marked_by v a b p q (rising r s) = inr (subst (IsAhead f n) p (risen_ahead a r), subst (IsBehind f n) q (reaches_behind b s))
  marked_by v a b p q (falling r s) = inl (subst (IsAhead f 0) p (forward_ahead a r), subst (IsBehind f 0) q (falls_behind b s))

  pub chop_is : (w0 w : Wanted) (s0 s : List Bool) (grows : Bool) → IsBegun g exits f w0 s0 → HasGone g.edges w0 s0 w s grows → ((x : ℕ) → has w.due.items x ≡ false) → (v : ℕ) → IsTrue (has s v) ↔ IsInChop g.edges from to v
  chop_is w0 w s0 s grows begun gone none v =
      let found = chop_found g.edges from to w0 w s0 s grows gone none
      (λ x o. (λ a. pair_of x o ((begun.pairs_are x o).0 a), λ p. (begun.pairs_are x o).1 (asks_by p.before x o p.behind p.call p.here)))
      (λ u. (λ h. around_of u ((begun.into_is u).0 h), λ h. (begun.into_is u).1 (marked_by u u u refl refl h))) v in
      let is = by_contexts g.edges from to v in
      (λ h. is.1 (found.0 h), λ c. found.1 (is.0 c))
