-- A context that is taken is done, and others stay so; so rounds end with all that is wanted.
use Rattle.std.proofs.Common.{◌≡◌, ◌≢◌, ◌↔◌, ℕ, ◌+◌, ◌-◌, ◌<◌, ◌≤◌, ◌⊎◌, ◌||◌, inl, inr, Bool, true, false, cond, List, [], ◌∷◌, length, set, Some, slice_get, Contains, refl, sym, ap, ◌∙◌, subst, arith}
use Rattle.std.specs.Prelude.{IsTrue}
use Rattle.std.proofs.lemmas.Bool.{and_parts, and_from, cases_eq, cases_lt, false≢true}
use Rattle.std.proofs.lemmas.List.{length-set, get_or-set_same, get_or-set_other}
use Rattle.std.proofs.lemmas.List.Sums.{count_by-le-length}
use Rattle.std.proofs.lemmas.Option.{same_Some, slice_get_within, slice_get-get_or, get_or_from_slice_get}
use Rattle.bit_rows.proofs.SetLemmas.{has_past}
use Rattle.bit_rows.specs.Sets.{has, count_of}
use Rattle.dep_model.specs.declared.edge.Edge.{Edge}
use Rattle.dep_model.specs.declared.edge.Label.{Label}
use Rattle.dep_model.specs.declared.edge.Label.TheVariants.{Control, Flow, Call, In, Out}
use Rattle.dep_model.specs.declared.graph.Graph.{Graph}
use Rattle.dep_model.specs.Facts.{IsIn, IsMatchedPath}
use Rattle.dep_model.specs.Graphs.{edge}
use Rattle.dep_model.specs.Shapes.{IsShaped}
use Rattle.dep_model.specs.Words.{Open, Close, letters}
use Rattle.matched_paths.specs.EdgeGroups.{group_at}
use Rattle.matched_paths.specs.StepRules.{IsBack}
use Rattle.rule_closure.specs.Rules.{RuleSystem}
use Rattle.matched_paths.specs.declared.vertex_range.VertexRange.{VertexRange}
use Rattle.matched_paths.specs.VertexRanges.{IsInRange, IsWholeFunction, within}
use Rattle.matched_paths.proofs.CallShapes.{plain_stays, crossed, crossed_stays}
use Rattle.matched_paths.proofs.GroupLaws.{leaving_is, leaving_has, starting_is, starting_has}
use Rattle.matched_paths.proofs.Levels.{Level, stay, plain, call, Spelled, level_of_path}
use Rattle.matched_paths.proofs.StepRuleLaws.{within_is, is_within}
use Rattle.forward_chop.specs.declared.field.Field.{Field}
use Rattle.forward_chop.specs.declared.wanted.Wanted.{Wanted}
use Rattle.forward_chop.specs.Contexts.{HasLetter, IsCall, IsAround, IsFirstPair, IsInside, IsWanted, outermost, IsByContexts, around, between}
use Rattle.forward_chop.specs.Contexts as contexts
use Rattle.forward_chop.specs.Fields.{opened, IsAhead, IsBehind, AsksFrom, IsOutOf, IsBackFrom, IsFitted, HaveMarksChanged, IsSearched}
use Rattle.forward_chop.specs.Pairs.{IsLaid, HasAsked, IsTaken, asks, covers}
use Rattle.forward_chop.specs.Rounds.{AreParts, IsPart, IsOpen, IsIndex, NoneDue, CoversCalls, IsFromPairs, given, IsMiddle, IsDone, AreDone, HasGone}
use Rattle.forward_chop.specs.Rounds as rounds
use Rattle.forward_chop.proofs.PairLaws.{covers_by_outs, more_of_both, neither}

-- ---- letters
pub opened_letter : (l : Label) (c : ℕ) → opened l ≡ Some c → letters l ≡ Open c ∷ []
opened_letter Control c h = cc
opened_letter Flow c h = cc
opened_letter (Call d) c h = let e : d ≡ c = cc in ap (λ k. Open k ∷ []) e
opened_letter (In d) c h = let e : d ≡ c = cc in ap (λ k. Open k ∷ []) e
opened_letter (Out d) c h = cc

pub letter_opened : (l : Label) (c : ℕ) → letters l ≡ Open c ∷ [] → opened l ≡ Some c
letter_opened Control c h = cc
letter_opened Flow c h = cc
letter_opened (Call d) c h = let e : d ≡ c = cc in ap Some e
letter_opened (In d) c h = let e : d ≡ c = cc in ap Some e
letter_opened (Out d) c h = cc

pub letter_closed : (l : Label) (c : ℕ) → letters l ≡ Close c ∷ [] → l ≡ Out c
letter_closed Control c h = cc
letter_closed Flow c h = cc
letter_closed (Call d) c h = cc
letter_closed (In d) c h = cc
letter_closed (Out d) c h = let e : d ≡ c = cc in ap Out e

-- ---- a matched path stays in its function
pub level_stays : (g : Graph) → IsShaped g → (f : ℕ) → {a b : ℕ} → Level g.edges a b → IsIn g.vertices f a → IsIn g.vertices f b
level_stays g shaped f stay i = i
level_stays g shaped f (plain {a = a} {b = b} h l) i = level_stays g shaped f l (plain_stays g shaped f a b i h)
level_stays g shaped f (call {a = a} {b = b} {c = c} {d = d} n o l h r) i = level_stays g shaped f r (crossed_stays g f n a b c d i (crossed g shaped n a b c d o h))

module _ (g : Graph) (shaped : IsShaped g) (f : Field) (part : IsPart g f) where
  pub path_stays : (a b : ℕ) → IsInRange f.range a → IsMatchedPath g.edges a b → IsInRange f.range b
  path_stays a b i m =
      let function = part.whole.function in
      (part.whole.all b).0 (level_stays g shaped function (level_of_path m) ((part.whole.all a).1 i))

  pub call_stays : (a x o b : ℕ) → IsCall g.edges a x o b → IsInRange f.range a → IsInRange f.range b
  call_stays a x o b c i =
      let enters : Spelled g.edges (Open c.call ∷ []) a x = record { label = c.enters.label; member = c.enters.member; spells = c.enters.spells } in
      let leaves : Spelled g.edges (Close c.call ∷ []) o b = record { label = c.leaves.label; member = c.leaves.member; spells = c.leaves.spells } in
      (part.whole.all b).0 (crossed_stays g part.whole.function c.call a x o b ((part.whole.all a).1 i) (crossed g shaped c.call a x o b enters leaves))

-- ---- one context is taken
module _ (g : Graph) (starts exits : List (List Edge)) (index : IsIndex g starts exits) (f : Field) (part : IsPart g f) (x : ℕ) (here : IsInRange f.range x) (w : Wanted) (searched : IsSearched w x f) where
  abbrev first : ℕ
  first = f.range.first

  none_more : (k : ℕ) → 0 + k ≡ k
  none_more k = omega arith

  ahead_is : (v : ℕ) → IsAhead f 0 v → IsMatchedPath g.edges x v
  ahead_is v h =
      let p = and_parts (within f.range v) (has f.reached (0 + (v - first))) h in
      let i = within_is f.range v p.0 in
      (part.ahead_is x v here i).0 ((searched.reached_is (v - first)).0 (subst (λ k. IsTrue (has f.reached k)) (none_more (v - first)) p.1))

  is_ahead : (v : ℕ) → IsMatchedPath g.edges x v → IsAhead f 0 v
  is_ahead v m =
      let i = path_stays g index.shaped f part x v here m in
      and_from _ _ (is_within f.range v i.0 i.1) (subst (λ k. IsTrue (has f.reached k)) (sym (none_more (v - first))) ((searched.reached_is (v - first)).1 ((part.ahead_is x v here i).1 m)))

  -- v is behind a result that is asked for
  record IsBefore (v : ℕ) : Type 0 where
    out : ℕ
    asked : IsTrue (asks w x out)
    path : IsMatchedPath g.edges v out

  behind_is : (v : ℕ) → IsBehind f 0 v → IsBefore v
  behind_is v h =
      let p = and_parts (within f.range v) (has f.reaching (0 + (v - first))) h in
      let i = within_is f.range v p.0 in
      let b = (searched.reaching_is (v - first)).0 (subst (λ k. IsTrue (has f.reaching k)) (none_more (v - first)) p.1) in
      let o = b.here in
      record { out = o.out; asked = o.asked; path = (part.behind_is o.out v o.inside i).0 (subst (λ k. IsBack f.behind.rules k (v - first)) o.number b.goes) }

  is_behind : (v o : ℕ) → IsInRange f.range v → IsTrue (asks w x o) → IsMatchedPath g.edges v o → IsBehind f 0 v
  is_behind v o i a m =
      let j = path_stays g index.shaped f part v o i m in
      let b : IsBackFrom f.behind.rules (IsOutOf f.range w x) (v - first) = record {
        start = o - first;
        here = record { out = o; asked = a; inside = j; number = refl };
        goes = (part.behind_is o v j i).1 m;
      } in
      and_from _ _ (is_within f.range v i.0 i.1) (subst (λ k. IsTrue (has f.reaching k)) (sym (none_more (v - first))) ((searched.reaching_is (v - first)).1 b))

  abbrev edges : List Edge
  edges = group_at starts part.whole.function

  -- a pair inside of one that is asked for
  record IsInsideOne (y p : ℕ) : Type 0 where
    out : ℕ
    asked : IsTrue (asks w x out)
    inside : IsInside g.edges x out y p

  asks_inside : (y p : ℕ) → AsksFrom f 0 edges exits y p → IsInsideOne y p
  asks_inside y p h =
      let e = h.edge in
      let q = h.asks in
      let l = q.leaves in
      let before = behind_is l.leave.to l.behind in
      let member : Contains g.edges e = starting_is g.vertices g.edges part.whole.function e (subst (λ es. Contains es e) (index.starts_are part.whole.function) h.listed) in
      let out = leaving_is g.edges q.call l.leave (subst (λ es. Contains es l.leave) (index.exits_are q.call) l.listed) in
      let enters : HasLetter g.edges (Open q.call) e.from y = record { label = e.label; member = subst (λ k. Contains g.edges (edge e.from k e.label)) (sym l.x_is) member; spells = opened_letter e.label q.call q.opens } in
      let leaves : HasLetter g.edges (Close q.call) p l.leave.to = record { label = l.leave.label; member = subst (λ k. Contains g.edges (edge k l.leave.to l.leave.label)) (sym l.o_is) out.0; spells = ap letters out.1 } in
      record {
        out = before.out;
        asked = before.asked;
        inside = record {
          before = e.from;
          behind = l.leave.to;
          call = record { call = q.call; enters = enters; leaves = leaves };
          goes_in = ahead_is e.from q.ahead;
          comes_out = before.path;
        };
      }

  inside_asks : (o y p : ℕ) → IsTrue (asks w x o) → IsInside g.edges x o y p → AsksFrom f 0 edges exits y p
  inside_asks o y p a h =
      let c = h.call in
      let i = path_stays g index.shaped f part x h.before here h.goes_in in
      let j = call_stays g index.shaped f part h.before y p h.behind c i in
      let e = edge h.before y c.enters.label in
      let leave = edge p h.behind (Out c.call) in
      let closed = letter_closed c.leaves.label c.call c.leaves.spells in
      let leaves : Contains g.edges leave = subst (λ l. Contains g.edges (edge p h.behind l)) closed c.leaves.member in
      let listed : Contains (group_at starts part.whole.function) e = subst (λ es. Contains es e) (sym (index.starts_are part.whole.function)) (starting_has g.vertices g.edges part.whole.function e c.enters.member ((part.whole.all h.before).1 i)) in
      let exit : Contains (group_at exits c.call) leave = subst (λ es. Contains es leave) (sym (index.exits_are c.call)) (leaving_has g.edges c.call p h.behind leaves) in
      record {
        edge = e;
        listed = listed;
        asks = record {
          call = c.call;
          opens = letter_opened c.enters.label c.call c.enters.spells;
          ahead = is_ahead h.before h.goes_in;
          leaves = record { leave = leave; listed = exit; behind = is_behind h.behind o j a h.comes_out; x_is = refl; o_is = refl };
        };
      }

  module _ (w0 w2 : Wanted) (s0 s1 : List Bool) (grows : Bool) (taken : IsTaken x w0 w) (long : length s1 ≡ length s0) (collected : (v : ℕ) → IsTrue (has s1 v) ↔ (IsTrue (has s0 v) ⊎ (IsAhead f 0 v × IsBehind f 0 v))) (asked : HasAsked (AsksFrom f 0 edges exits) w w2 grows) (done : AreDone g.edges w0 s0) (covered : CoversCalls g.edges w0) where
    to_first : (y o : ℕ) → IsTrue (asks w y o) → IsTrue (asks w0 y o)
    to_first y o a = sym (taken.same y o) ∙ a

    from_first : (y o : ℕ) → IsTrue (asks w0 y o) → IsTrue (asks w y o)
    from_first y o a = taken.same y o ∙ a

    -- what isn't due has the pairs that it had
    had : (y o : ℕ) → has w2.due.items y ≡ false → IsTrue (asks w2 y o) → IsTrue (asks w y o)
    had y o down a = elim (asked.due_new y o a) [
      | inl was ↦ was
      | inr up ↦ absurd (false≢true (sym down ∙ up))
    ]

    was_down : (y : ℕ) → has w2.due.items y ≡ false → has w.due.items y ≡ false
    was_down y down = by_flag (has w.due.items y) refl
      where
        by_flag : (b : Bool) → has w.due.items y ≡ b → has w.due.items y ≡ false
        by_flag false e = e
        by_flag true e = absurd (false≢true (sym down ∙ asked.due_kept y e))

    done_here : has w2.due.items x ≡ false → IsDone g.edges w2 s1 x
    done_here down = record {
      pairs = λ o y p a i.
          let c : IsTrue (covers w0 y p) = covered i.before y p i.behind i.call in
          asked.held y p (inside_asks o y p (had x o down a) i) (covers_by_outs w0 w taken.outs_same y p ∙ c);
      middle = λ o v a i e. (collected v).1 (inr (is_ahead v i, is_behind v o (path_stays g index.shaped f part x v here i) (had x o down a) e));
    }

    done_there : (y : ℕ) → y ≢ x → has w2.due.items y ≡ false → IsDone g.edges w2 s1 y
    done_there y other down =
        let d = done y (sym (taken.others y other) ∙ was_down y down) in
        record {
          pairs = λ o z p a i. asked.kept z p (from_first z p (d.pairs o z p (to_first y o (had y o down a)) i));
          middle = λ o v a i e. (collected v).1 (inl (d.middle o v (to_first y o (had y o down a)) i e));
        }

    pub visit_gone : HasGone g.edges w0 s0 w2 s1 grows
    visit_gone = record {
      laid = asked.laid;
      long = asked.long ∙ ap length taken.pairs_same;
      outs_same = asked.outs_same ∙ taken.outs_same;
      size = long;
      pairs_kept = λ y o a. asked.kept y o (from_first y o a);
      pairs_true = λ y p a. elim (asked.sound y p a) [
        | inl was ↦ given (to_first y p was)
        | inr q ↦ let i = asks_inside y p q in rounds.inside (given (to_first x i.out i.asked)) i.inside
      ];
      into_kept = λ v h. (collected v).1 (inl h);
      into_true = λ v h. elim ((collected v).0 h) [
        | inl was ↦ inl was
        | inr q ↦ let b = behind_is v q.1 in inr (record { way_in = x; out = b.out; pair = given (to_first x b.out b.asked); goes_in = ahead_is v q.0; comes_out = b.path })
      ];
      done = λ y down. elim (cases_eq y x) [
        | inl same ↦ subst (IsDone g.edges w2 s1) (sym same) (done_here (ap (has w2.due.items) (sym same) ∙ down))
        | inr other ↦ done_there y other down
      ];
      none = λ e.
          let n = asked.none e in (
            n.0 ∙ taken.pairs_same,
            λ y up.
                let was : IsTrue (has w.due.items y) = sym (ap (λ s. has s y) n.1) ∙ up in
                elim (cases_eq y x) [
                  | inl same ↦ absurd (false≢true (sym taken.down ∙ ap (has w.due.items) (sym same) ∙ was))
                  | inr other ↦ sym (taken.others y other) ∙ was
                ],
          );
      more = λ e. subst (λ s. count_of s < count_of w2.pairs) taken.pairs_same (asked.more e);
    }

    pub visit_down : grows ≡ false → has w2.due.items x ≡ false
    visit_down e = ap (λ s. has s x) (asked.none e).1 ∙ taken.down

-- ---- one after another
pub gone_none : (edges : List Edge) (w : Wanted) (s : List Bool) → IsLaid w → AreDone edges w s → HasGone edges w s w s false
gone_none edges w s laid done = record {
  laid = laid;
  long = refl;
  outs_same = refl;
  size = refl;
  pairs_kept = λ x o a. a;
  pairs_true = λ x o a. given a;
  into_kept = λ v h. h;
  into_true = λ v h. inl h;
  done = done;
  none = λ e. (refl, λ x d. d);
  more = λ e. cc;
}

from_again : (es : List Edge) (w0 w : Wanted) → ((x o : ℕ) → IsTrue (asks w x o) → IsFromPairs es w0 x o) → {x o : ℕ} → IsFromPairs es w x o → IsFromPairs es w0 x o
from_again es w0 w each (given {x = x} {o = o} a) = each x o a
from_again es w0 w each (rounds.inside p i) = rounds.inside (from_again es w0 w each p) i

pub gone_both : (edges : List Edge) (w0 w1 w2 : Wanted) (s0 s1 s2 : List Bool) (grows more : Bool) → HasGone edges w0 s0 w1 s1 grows → HasGone edges w1 s1 w2 s2 more → HasGone edges w0 s0 w2 s2 (grows || more)
gone_both edges w0 w1 w2 s0 s1 s2 grows more h k = record {
  laid = k.laid;
  long = k.long ∙ h.long;
  outs_same = k.outs_same ∙ h.outs_same;
  size = k.size ∙ h.size;
  pairs_kept = λ x o a. k.pairs_kept x o (h.pairs_kept x o a);
  pairs_true = λ x o a. from_again edges w0 w1 h.pairs_true (k.pairs_true x o a);
  into_kept = λ v i. k.into_kept v (h.into_kept v i);
  into_true = λ v i. elim (k.into_true v i) [
    | inl was ↦ h.into_true v was
    | inr m ↦ inr (record { way_in = m.way_in; out = m.out; pair = from_again edges w0 w1 h.pairs_true m.pair; goes_in = m.goes_in; comes_out = m.comes_out })
  ];
  done = k.done;
  none = λ e.
      let n = neither grows more e in
      let a = h.none n.0 in
      let b = k.none n.1 in
      (b.0 ∙ a.0, λ x d. a.1 x (b.1 x d));
  more = λ e.
      more_of_both (count_of w0.pairs) (count_of w1.pairs) (count_of w2.pairs) grows more h.more (λ z. sym (ap count_of (h.none z).0)) k.more (λ z. sym (ap count_of (k.none z).0)) e;
}

-- ---- what stays
pub open_stays : (g : Graph) (w0 w : Wanted) (s0 s : List Bool) (grows : Bool) → IsOpen g w0 s0 → HasGone g.edges w0 s0 w s grows → IsOpen g w s
open_stays g w0 w s0 s grows o h = record {
  laid = h.laid;
  all = ap length h.outs_same ∙ o.all;
  covered = λ a x p b c. covers_by_outs w0 w h.outs_same x p ∙ o.covered a x p b c;
  done = h.done;
  size = h.size ∙ o.size;
}

pub part_stays : (g : Graph) (old new : Field) → HaveMarksChanged old new → IsFitted new → IsPart g old → IsPart g new
part_stays g old new same fitted part = record {
  fitted = fitted;
  whole = subst (IsWholeFunction g.vertices) (sym same.range_same) part.whole;
  inside = subst (λ (r : VertexRange). r.last ≤ length g.vertices) (sym same.range_same) part.inside;
  ahead_is =
      subst (λ (c : RuleSystem). (u v : ℕ) → IsInRange new.range u → IsInRange new.range v → IsBack c.rules (u - new.range.first) (v - new.range.first) ↔ IsMatchedPath g.edges u v) (sym same.ahead_same)
      (subst (λ (r : VertexRange). (u v : ℕ) → IsInRange r u → IsInRange r v → IsBack old.ahead.rules (u - r.first) (v - r.first) ↔ IsMatchedPath g.edges u v) (sym same.range_same) part.ahead_is);
  behind_is =
      subst (λ (c : RuleSystem). (u v : ℕ) → IsInRange new.range u → IsInRange new.range v → IsBack c.rules (u - new.range.first) (v - new.range.first) ↔ IsMatchedPath g.edges v u) (sym same.behind_same)
      (subst (λ (r : VertexRange). (u v : ℕ) → IsInRange r u → IsInRange r v → IsBack old.behind.rules (u - r.first) (v - r.first) ↔ IsMatchedPath g.edges v u) (sym same.range_same) part.behind_is);
}

-- where nothing grows, what wasn't due isn't
pub stays_down : (es : List Edge) (w0 w : Wanted) (s0 s : List Bool) (grows : Bool) → HasGone es w0 s0 w s grows → grows ≡ false → (x : ℕ) → has w0.due.items x ≡ false → has w.due.items x ≡ false
stays_down es w0 w s0 s grows h still x down = by_flag (has w.due.items x) refl
  where
    by_flag : (b : Bool) → has w.due.items x ≡ b → has w.due.items x ≡ false
    by_flag false e = e
    by_flag true e = absurd (false≢true (sym down ∙ (h.none still).1 x e))

-- a way in that wasn't due is taken
pub taken_gone : (es : List Edge) (w0 w : Wanted) (s : List Bool) (x : ℕ) → IsTaken x w0 w → has w0.due.items x ≡ false → AreDone es w0 s → HasGone es w0 s w s false
taken_gone es w0 w s x taken down done = record {
  laid = taken.laid;
  long = ap length taken.pairs_same;
  outs_same = taken.outs_same;
  size = refl;
  pairs_kept = λ y o a. taken.same y o ∙ a;
  pairs_true = λ y o a. given (sym (taken.same y o) ∙ a);
  into_kept = λ v h. h;
  into_true = λ v h. inl h;
  done = λ y low.
      let d = done y (was y low) in
      record {
        pairs = λ o z p a i. taken.same z p ∙ d.pairs o z p (sym (taken.same y o) ∙ a) i;
        middle = λ o v a i e. d.middle o v (sym (taken.same y o) ∙ a) i e;
      };
  none = λ e. (
    taken.pairs_same,
    λ y up. elim (cases_eq y x) [
      | inl same ↦ absurd (false≢true (sym taken.down ∙ ap (has w.due.items) (sym same) ∙ up))
      | inr other ↦ sym (taken.others y other) ∙ up
    ],
  );
  more = λ e. cc;
}
  where
    was : (y : ℕ) → has w.due.items y ≡ false → has w0.due.items y ≡ false
    was y low = elim (cases_eq y x) [
      | inl same ↦ ap (has w0.due.items) same ∙ down
      | inr other ↦ sym (taken.others y other) ∙ low
    ]

-- what wasn't due before a way in, and that itself, isn't due now
pub down_more : (es : List Edge) (w1 w2 : Wanted) (s1 s2 : List Bool) (grows more : Bool) (r : VertexRange) (y : ℕ) → HasGone es w1 s1 w2 s2 more → (grows ≡ false → (x : ℕ) → IsInRange r x → x < y → has w1.due.items x ≡ false) → (more ≡ false → has w2.due.items y ≡ false) → (grows || more) ≡ false → (x : ℕ) → IsInRange r x → x < y + 1 → has w2.due.items x ≡ false
down_more es w1 w2 s1 s2 grows more r y h before here still x i low =
    let n = neither grows more still in
    elim (cases_eq x y) [
      | inl same ↦ ap (has w2.due.items) same ∙ here n.1
      | inr other ↦ stays_down es w1 w2 s1 s2 more h n.1 x (before n.0 x i (omega (arith, low, other)))
    ]

-- ---- one of some functions has changed
module _ (xs : List Field) (k : ℕ) (y : Field) where
  set_same : (p : Field) → slice_get (set xs k y) k ≡ Some p → p ≡ y
  set_same p at =
      let long = length-set xs k y in
      let low = slice_get_within (set xs k y) k p at in
      sym (get_or_from_slice_get (set xs k y) k p p at) ∙ get_or-set_same xs k y p (omega (arith, long, low))

  set_here : k < length xs → slice_get (set xs k y) k ≡ Some y
  set_here low = slice_get-get_or (set xs k y) k y (let long = length-set xs k y in omega (arith, long, low)) ∙ ap Some (get_or-set_same xs k y y low)

  set_other : (j : ℕ) (p : Field) → j ≢ k → slice_get (set xs k y) j ≡ Some p → slice_get xs j ≡ Some p
  set_other j p other at =
      let long = length-set xs k y in
      let low = slice_get_within (set xs k y) j p at in
      slice_get-get_or xs j p (omega (arith, long, low)) ∙ ap Some (sym (get_or-set_other xs k j y p other) ∙ get_or_from_slice_get (set xs k y) j p p at)

  other_set : (j : ℕ) (p : Field) → j ≢ k → slice_get xs j ≡ Some p → slice_get (set xs k y) j ≡ Some p
  other_set j p other at =
      let long = length-set xs k y in
      let low = slice_get_within xs j p at in
      slice_get-get_or (set xs k y) j p (omega (arith, long, low)) ∙ ap Some (get_or-set_other xs k j y p other ∙ get_or_from_slice_get xs j p p at)

module _ (g : Graph) (parts : List Field) (k : ℕ) (old new : Field) (all : AreParts g parts) (at : slice_get parts k ≡ Some old) (part : IsPart g new) (range : new.range ≡ old.range) where
  pub parts_set : AreParts g (set parts k new)
  parts_set = record {
    each = λ j p is. elim (cases_eq j k) [
      | inl same ↦ subst (IsPart g) (sym (set_same parts k new p (subst (λ i. slice_get (set parts k new) i ≡ Some p) same is))) part
      | inr other ↦ all.each j p (set_other parts k new j p other is)
    ];
    all = λ x low.
        let a = all.all x low in
        elim (cases_eq a.0 k) [
          | inl same ↦
              let one : old ≡ a.1.0 = same_Some _ _ (sym at ∙ ap (slice_get parts) (sym same) ∙ a.1.1) in
              (k, (new, set_here parts k new (slice_get_within parts k old at), subst (λ (r : VertexRange). IsInRange r x) (sym range) (subst (λ (p : Field). IsInRange p.range x) (sym one) a.1.2)))
          | inr other ↦ (a.0, (a.1.0, other_set parts k new a.0 a.1.0 other a.1.1, a.1.2))
        ];
  }

  pub down_parts : (es : List Edge) (w1 w2 : Wanted) (s1 s2 : List Bool) (grows more : Bool) → HasGone es w1 s1 w2 s2 more → (grows ≡ false → (j : ℕ) (p : Field) → k + 1 ≤ j → slice_get parts j ≡ Some p → NoneDue p.range w1) → (more ≡ false → NoneDue old.range w2) → (grows || more) ≡ false → (j : ℕ) (p : Field) → k ≤ j → slice_get (set parts k new) j ≡ Some p → NoneDue p.range w2
  down_parts es w1 w2 s1 s2 grows more h before here still j p low is x i =
      let n = neither grows more still in
      elim (cases_eq j k) [
        | inl same ↦
            let one : p ≡ new = set_same parts k new p (subst (λ m. slice_get (set parts k new) m ≡ Some p) same is) in
            here n.1 x (subst (λ (r : VertexRange). IsInRange r x) range (subst (λ (q : Field). IsInRange q.range x) one i))
        | inr other ↦ stays_down es w1 w2 s1 s2 more h n.1 x (before n.0 j p (omega (arith, low, other)) (set_other parts k new j p other is) x i)
      ]

-- ---- there is less to do after a round
few_pairs : (w : Wanted) → count_of w.pairs ≤ length w.pairs
few_pairs w = count_by-le-length (λ (b : Bool). b) w.pairs

pub less_to_do : (es : List Edge) (w1 w2 : Wanted) (s1 s2 : List Bool) (grows more : Bool) → grows ≡ true → HasGone es w1 s1 w2 s2 more → (length w2.pairs - count_of w2.pairs) + cond more 1 0 < (length w1.pairs - count_of w1.pairs) + cond grows 1 0
less_to_do es w1 w2 s1 s2 false more e h = cc
less_to_do es w1 w2 s1 s2 true true e h = let long = h.long in let more = h.more refl in let few = few_pairs w2 in omega (arith, long, more, few)
less_to_do es w1 w2 s1 s2 true false e h = let long = h.long in let same = ap count_of (h.none refl).0 in omega (arith, long, same)

pub none_due : (g : Graph) (w : Wanted) (s : List Bool) → IsOpen g w s → ((x : ℕ) → x < length g.vertices → has w.due.items x ≡ false) → (x : ℕ) → has w.due.items x ≡ false
none_due g w s o below x = elim (cases_lt x (length g.vertices)) [
  | inl low ↦ below x low
  | inr high ↦ has_past w.due.items x (let a = o.all in let d = o.laid.due_long in omega (arith, a, d, high))
]

-- ---- after the rounds
module _ (edges : List Edge) (from to : List ℕ) (w0 w : Wanted) (s0 s : List Bool) (grows : Bool) (gone : HasGone edges w0 s0 w s grows) (none_due : (x : ℕ) → has w.due.items x ≡ false) (pairs_are : (x o : ℕ) → IsTrue (asks w0 x o) ↔ IsFirstPair edges from to x o) (into_is : (v : ℕ) → IsTrue (has s0 v) ↔ IsAround edges from to v v) where
  wanted_of : {x o : ℕ} → IsFromPairs edges w0 x o → IsWanted edges from to x o
  wanted_of (given {x = x} {o = o} a) = let p = (pairs_are x o).0 a in outermost {a = p.before} {b = p.behind} p.call p.here
  wanted_of (rounds.inside p i) = contexts.inside (wanted_of p) i

  asked_of : {x o : ℕ} → IsWanted edges from to x o → IsTrue (asks w x o)
  asked_of (outermost {a = a} {x = x} {o = o} {b = b} crossing here) = gone.pairs_kept x o ((pairs_are x o).1 (record { before = a; behind = b; call = crossing; here = here }))
  asked_of (contexts.inside {x = x} {o = o} {y = y} {p = p} h i) = (gone.done x (none_due x)).pairs o y p (asked_of h) i

  pub chop_found : (v : ℕ) → IsTrue (has s v) ↔ IsByContexts edges from to v
  chop_found v = (found, finds)
    where
      found : IsTrue (has s v) → IsByContexts edges from to v
      found h = elim (gone.into_true v h) [
        | inl was ↦ around ((into_is v).0 was)
        | inr m ↦ between (wanted_of m.pair) m.goes_in m.comes_out
      ]

      finds : IsByContexts edges from to v → IsTrue (has s v)
      finds (around h) = gone.into_kept v ((into_is v).1 h)
      finds (between {x = x} {o = o} h i e) = (gone.done x (none_due x)).middle o v (asked_of h) i e
