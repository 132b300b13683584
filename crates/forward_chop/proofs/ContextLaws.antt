-- A vertex is in a chop exactly where it stands in one of its contexts.
use Rattle.std.proofs.Common.{ℕ, ◌≡◌, ◌↔◌, List, [], ◌∷◌, ◌++◌, Contains, refl, sym, ap, ◌∙◌, subst, inl, inr, append_assoc}
use Rattle.dep_model.specs.declared.edge.Edge.{Edge}
use Rattle.dep_model.specs.Facts.{IsMatchedPath}
use Rattle.dep_model.specs.Graphs.{edge}
use Rattle.dep_model.specs.Words.{Letter, Open, Close, word, IsPath, Matched, Rises, Falls, Reaches}
use Rattle.dep_model.specs.Words as words
use Rattle.matched_paths.proofs.Levels.{Level, level_append, level_of, split, first_letter, join_paths, word-append, path_of, level_of_path}
use Rattle.forward_chop.specs.Chops.{IsForward, ReachesOne, IsInChop}
use Rattle.forward_chop.specs.Contexts.{IsRisenTo, FallsToOne, HasLetter, IsCall, IsAround, rising, falling, IsInside, IsWanted, outermost, inside, IsByContexts, around, between}
use Rattle.forward_chop.proofs.Cuts.{Cut, level, CutIn, append_cases, cut_rises, cut_falls, rises_append, falls_append, matched_rises, matched_falls}
use Rattle.forward_chop.proofs.Cuts as cuts

-- ---- paths that go on
module _ (edges : List Edge) (from : List ℕ) where
  pub risen_level : {a b : ℕ} → IsRisenTo edges from a → Level edges a b → IsRisenTo edges from b
  risen_level {a = a} {b = b} r l =
      let m = path_of l in
      record {
        start = r.start;
        listed = r.listed;
        path = r.path ++ m.path;
        joins = join_paths edges r.path m.path r.start a b r.joins m.joins;
        rises = subst Rises (sym (word-append r.path m.path)) (rises_append r.rises (matched_rises m.matched));
      }

  pub forward_level : {a b : ℕ} → IsForward edges from a → Level edges a b → IsForward edges from b
  forward_level {a = a} {b = b} r l =
      let m = path_of l in
      let q = r.reaches in
      record {
        start = r.start;
        listed = r.listed;
        reaches = record {
          path = q.path ++ m.path;
          joins = join_paths edges q.path m.path r.start a b q.joins m.joins;
          up = q.up;
          down = q.down ++ word m.path;
          rises = q.rises;
          falls = falls_append q.falls (matched_falls m.matched);
          spells = word-append q.path m.path ∙ ap (λ v. v ++ word m.path) q.spells ∙ append_assoc q.up q.down (word m.path);
        };
      }

  pub forward_of_risen : {a : ℕ} → IsRisenTo edges from a → IsForward edges from a
  forward_of_risen r = record {
    start = r.start;
    listed = r.listed;
    reaches = record { path = r.path; joins = r.joins; up = word r.path; down = []; rises = r.rises; falls = words.flat; spells = sym (nil (word r.path)) };
  }
    where
      nil : (w : List Letter) → w ++ [] ≡ w
      nil [] = refl
      nil (l ∷ w) = ap (λ v. l ∷ v) (nil w)

-- the word of an edge, and of a path behind it
letter_word : {edges : List Edge} {l : Letter} {a b : ℕ} (h : HasLetter edges l a b) (p : List Edge) → word (edge a b h.label ∷ p) ≡ l ∷ word p
letter_word h p = ap (λ v. v ++ word p) h.spells

letter_path : {edges : List Edge} {l : Letter} {a b : ℕ} (h : HasLetter edges l a b) (p : List Edge) (c : ℕ) → IsPath edges b p c → IsPath edges a (edge a b h.label ∷ p) c
letter_path h p c j = (h.member, refl, j)

-- ---- a vertex of a chop stands in a context
module _ (edges : List Edge) (from to : List ℕ) (v : ℕ) where
  inside_case : {p s : List Letter} → Cut p s → {x o k : ℕ} (front back : List Edge) → IsPath edges x front v → word front ≡ p → IsPath edges v back k → word back ≡ s → Level edges k o → IsWanted edges from to x o → IsByContexts edges from to v
  inside_case (level a b) {x = x} {o = o} {k = k} front back fj fs bj bs rest wanted =
      between wanted (record { path = front; joins = fj; matched = subst Matched (sym fs) a }) (path_of (level_append (level_of b edges back v k bj bs) rest))
  inside_case (cuts.nested c {before = before} {p = p} {s = s} {behind = behind} a q b) {x = x} {o = o} {k = k} front back fj fs bj bs rest wanted =
      let one = split edges front x v before (Open c ∷ p) fj fs in
      let open_ = first_letter edges one.back one.middle v (Open c) p one.back_joins one.back_spells in
      let two = split edges back v k s (Close c ∷ behind) bj bs in
      let close = first_letter edges two.back two.middle k (Close c) behind two.back_joins two.back_spells in
      let goes_in = level_append (level_of a edges one.front x one.middle one.front_joins one.front_spells) open_.before in
      let comes_out = level_append (level_of b edges close.rest close.next k close.joins close.spells) rest in
      let more : IsWanted edges from to open_.next close.at = inside wanted (record {
        before = open_.at;
        behind = close.next;
        call = record {
          call = c;
          enters = record { label = open_.letter.label; member = open_.letter.member; spells = open_.letter.spells };
          leaves = record { label = close.letter.label; member = close.letter.member; spells = close.letter.spells };
        };
        goes_in = path_of goes_in;
        comes_out = path_of comes_out;
      }) in
      inside_case q open_.rest two.front open_.joins open_.spells two.front_joins two.front_spells close.before more

  module _ (h : IsInChop edges from to v) where
    falling_case : {t s : List Letter} → CutIn Falls t s → word h.front ≡ h.up ++ t → word h.back ≡ s → IsByContexts edges from to v
    falling_case (cuts.top {p = p} a b) fs bs =
        around (falling (record { start = h.start; listed = h.begins; reaches = record { path = h.front; joins = h.front_joins; up = h.up; down = p; rises = h.rises; falls = a; spells = fs } })
        (record { goal = h.goal; listed = h.ends; path = h.back; joins = h.back_joins; falls = subst Falls (sym bs) b }))
    falling_case (cuts.nested c {before = before} {p = p} {s = s} {behind = behind} a q b) fs bs =
        let one = split edges h.front h.start v (h.up ++ before) (Open c ∷ p) h.front_joins (fs ∙ sym (append_assoc h.up before (Open c ∷ p))) in
        let open_ = first_letter edges one.back one.middle v (Open c) p one.back_joins one.back_spells in
        let two = split edges h.back v h.goal s (Close c ∷ behind) h.back_joins bs in
        let close = first_letter edges two.back two.middle h.goal (Close c) behind two.back_joins two.back_spells in
        let reached : IsForward edges from one.middle = record { start = h.start; listed = h.begins; reaches = record { path = one.front; joins = one.front_joins; up = h.up; down = before; rises = h.rises; falls = a; spells = one.front_spells } } in
        let wanted : IsWanted edges from to open_.next close.at = outermost
        (record {
          call = c;
          enters = record { label = open_.letter.label; member = open_.letter.member; spells = open_.letter.spells };
          leaves = record { label = close.letter.label; member = close.letter.member; spells = close.letter.spells };
        })
        (falling (forward_level edges from reached open_.before) (record { goal = h.goal; listed = h.ends; path = close.rest; joins = close.joins; falls = subst Falls (sym close.spells) b })) in
        inside_case q open_.rest two.front open_.joins open_.spells two.front_joins two.front_spells close.before wanted

    rising_case : {t s : List Letter} → CutIn Rises t s → word h.front ≡ t → word h.back ≡ s ++ h.down → IsByContexts edges from to v
    rising_case (cuts.top {s = s} a b) fs bs =
        around (rising (record { start = h.start; listed = h.begins; path = h.front; joins = h.front_joins; rises = subst Rises (sym fs) a })
        (record { goal = h.goal; listed = h.ends; reaches = record { path = h.back; joins = h.back_joins; up = s; down = h.down; rises = b; falls = h.falls; spells = bs } }))
    rising_case (cuts.nested c {before = before} {p = p} {s = s} {behind = behind} a q b) fs bs =
        let one = split edges h.front h.start v before (Open c ∷ p) h.front_joins fs in
        let open_ = first_letter edges one.back one.middle v (Open c) p one.back_joins one.back_spells in
        let two = split edges h.back v h.goal s (Close c ∷ (behind ++ h.down)) h.back_joins (bs ∙ append_assoc s (Close c ∷ behind) h.down) in
        let close = first_letter edges two.back two.middle h.goal (Close c) (behind ++ h.down) two.back_joins two.back_spells in
        let risen : IsRisenTo edges from one.middle = record { start = h.start; listed = h.begins; path = one.front; joins = one.front_joins; rises = subst Rises (sym one.front_spells) a } in
        let wanted : IsWanted edges from to open_.next close.at = outermost
        (record {
          call = c;
          enters = record { label = open_.letter.label; member = open_.letter.member; spells = open_.letter.spells };
          leaves = record { label = close.letter.label; member = close.letter.member; spells = close.letter.spells };
        })
        (rising (risen_level edges from risen open_.before)
        (record { goal = h.goal; listed = h.ends; reaches = record { path = close.rest; joins = close.joins; up = behind; down = h.down; rises = b; falls = h.falls; spells = close.spells } })) in
        inside_case q open_.rest two.front open_.joins open_.spells two.front_joins two.front_spells close.before wanted

    context_of_chop : IsByContexts edges from to v
    context_of_chop = elim (append_cases (word h.front) (word h.back) h.up h.down h.spells) [
      | inl r ↦ falling_case (cut_falls h.falls r.0 (word h.back) r.2) r.1 refl
      | inr r ↦ rising_case (cut_rises h.rises (word h.front) r.0 r.1) refl r.2
    ]

-- ---- what stands in a context is in the chop
-- a word rises and then falls
pub record Fits (w : List Letter) : Type 0 where
  pub up : List Letter
  pub down : List Letter
  pub rises : Rises up
  pub falls : Falls down
  pub spells : w ≡ up ++ down

-- paths on both sides of a pair, whose words rise and then fall with any matched word between them
pub record Surrounds (edges : List Edge) (from to : List ℕ) (x o : ℕ) : Type 0 where
  pub start : ℕ
  pub begins : Contains from start
  pub goal : ℕ
  pub ends : Contains to goal
  pub front : List Edge
  pub back : List Edge
  pub front_joins : IsPath edges start front x
  pub back_joins : IsPath edges o back goal
  pub fits : (m : List Letter) → Matched m → Fits (word front ++ (m ++ word back))

rising_words : (r u d m : List Letter) (o c : Letter) → (r ++ o ∷ []) ++ (m ++ c ∷ (u ++ d)) ≡ (r ++ ((o ∷ (m ++ c ∷ [])) ++ u)) ++ d
rising_words r u d m o c = simp append_assoc

falling_words : (u d w m : List Letter) (o c : Letter) → ((u ++ d) ++ o ∷ []) ++ (m ++ c ∷ w) ≡ u ++ (d ++ ((o ∷ (m ++ c ∷ [])) ++ w))
falling_words u d w m o c = simp append_assoc

inside_words : (f i e b m : List Letter) (o c : Letter) → (f ++ (i ++ o ∷ [])) ++ (m ++ ((c ∷ e) ++ b)) ≡ f ++ ((i ++ ((o ∷ (m ++ c ∷ [])) ++ e)) ++ b)
inside_words f i e b m o c = simp append_assoc

module _ (edges : List Edge) (from to : List ℕ) where
  outermost_surrounds : {a x o b : ℕ} → IsCall edges a x o b → IsAround edges from to a b → Surrounds edges from to x o
  outermost_surrounds {a = a} {x = x} {o = o} {b = b} call (rising r q) =
      let i = call.enters in
      let e = call.leaves in
      let t = q.reaches in
      let n = call.call in
      let last = edge a x i.label ∷ [] in
      let fw : word (r.path ++ last) ≡ word r.path ++ Open n ∷ [] = word-append r.path last ∙ ap (λ w. word r.path ++ w) (letter_word i []) in
      let bw : word (edge o b e.label ∷ t.path) ≡ Close n ∷ (t.up ++ t.down) = letter_word e t.path ∙ ap (λ w. Close n ∷ w) t.spells in
      record {
        start = r.start;
        begins = r.listed;
        goal = q.goal;
        ends = q.listed;
        front = r.path ++ last;
        back = edge o b e.label ∷ t.path;
        front_joins = join_paths edges r.path last r.start a x r.joins (letter_path i [] _ refl);
        back_joins = letter_path e t.path q.goal t.joins;
        fits = λ m matched. record {
          up = word r.path ++ ((Open n ∷ (m ++ Close n ∷ [])) ++ t.up);
          down = t.down;
          rises = rises_append r.rises (words.level (words.pair n matched) t.rises);
          falls = t.falls;
          spells = ap (λ w. w ++ (m ++ word (edge o b e.label ∷ t.path))) fw ∙ ap (λ w. (word r.path ++ Open n ∷ []) ++ (m ++ w)) bw ∙ rising_words (word r.path) t.up t.down m (Open n) (Close n);
        };
      }
  outermost_surrounds {a = a} {x = x} {o = o} {b = b} call (falling r q) =
      let i = call.enters in
      let e = call.leaves in
      let t = r.reaches in
      let n = call.call in
      let last = edge a x i.label ∷ [] in
      let fw : word (t.path ++ last) ≡ (t.up ++ t.down) ++ Open n ∷ [] = word-append t.path last ∙ ap (λ w. w ++ word last) t.spells ∙ ap (λ w. (t.up ++ t.down) ++ w) (letter_word i []) in
      let bw : word (edge o b e.label ∷ q.path) ≡ Close n ∷ word q.path = letter_word e q.path in
      record {
        start = r.start;
        begins = r.listed;
        goal = q.goal;
        ends = q.listed;
        front = t.path ++ last;
        back = edge o b e.label ∷ q.path;
        front_joins = join_paths edges t.path last r.start a x t.joins (letter_path i [] _ refl);
        back_joins = letter_path e q.path q.goal q.joins;
        fits = λ m matched. record {
          up = t.up;
          down = t.down ++ ((Open n ∷ (m ++ Close n ∷ [])) ++ word q.path);
          rises = t.rises;
          falls = falls_append t.falls (words.level (words.pair n matched) q.falls);
          spells = ap (λ w. w ++ (m ++ word (edge o b e.label ∷ q.path))) fw ∙ ap (λ w. ((t.up ++ t.down) ++ Open n ∷ []) ++ (m ++ w)) bw ∙ falling_words t.up t.down (word q.path) m (Open n) (Close n);
        };
      }

  inside_surrounds : {x o y p : ℕ} → Surrounds edges from to x o → IsInside edges x o y p → Surrounds edges from to y p
  inside_surrounds {x = x} {o = o} {y = y} {p = p} s h =
      let i = h.call.enters in
      let e = h.call.leaves in
      let n = h.call.call in
      let g = h.goes_in in
      let k = h.comes_out in
      let last = edge h.before y i.label ∷ [] in
      let leave = edge p h.behind e.label ∷ k.path in
      let enter = g.path ++ last in
      let ew : word enter ≡ word g.path ++ Open n ∷ [] = word-append g.path last ∙ ap (λ w. word g.path ++ w) (letter_word i []) in
      let fw : word (s.front ++ enter) ≡ word s.front ++ (word g.path ++ Open n ∷ []) = word-append s.front enter ∙ ap (λ w. word s.front ++ w) ew in
      let bw : word (leave ++ s.back) ≡ (Close n ∷ word k.path) ++ word s.back = word-append leave s.back ∙ ap (λ w. w ++ word s.back) (letter_word e k.path) in
      record {
        start = s.start;
        begins = s.begins;
        goal = s.goal;
        ends = s.ends;
        front = s.front ++ enter;
        back = leave ++ s.back;
        front_joins = join_paths edges s.front enter s.start x y s.front_joins (join_paths edges g.path last x h.before y g.joins (letter_path i [] _ refl));
        back_joins = join_paths edges leave s.back p o s.goal (letter_path e k.path o k.joins) s.back_joins;
        fits = λ m matched.
            let around_ = s.fits (word g.path ++ ((Open n ∷ (m ++ Close n ∷ [])) ++ word k.path)) (words.both g.matched (words.both (words.pair n matched) k.matched)) in
            record {
              up = around_.up;
              down = around_.down;
              rises = around_.rises;
              falls = around_.falls;
              spells = ap (λ w. w ++ (m ++ word (leave ++ s.back))) fw ∙ ap (λ w. (word s.front ++ (word g.path ++ Open n ∷ [])) ++ (m ++ w)) bw ∙ inside_words (word s.front) (word g.path) (word k.path) (word s.back) m (Open n) (Close n) ∙ around_.spells;
            };
      }

  surrounds : {x o : ℕ} → IsWanted edges from to x o → Surrounds edges from to x o
  surrounds (outermost call here) = outermost_surrounds call here
  surrounds (inside wanted more) = inside_surrounds (surrounds wanted) more

  chop_around : {v : ℕ} → IsAround edges from to v v → IsInChop edges from to v
  chop_around (rising r q) =
      let t = q.reaches in
      record {
        start = r.start;
        begins = r.listed;
        goal = q.goal;
        ends = q.listed;
        front = r.path;
        back = t.path;
        front_joins = r.joins;
        back_joins = t.joins;
        up = word r.path ++ t.up;
        down = t.down;
        rises = rises_append r.rises t.rises;
        falls = t.falls;
        spells = ap (λ w. word r.path ++ w) t.spells ∙ sym (append_assoc (word r.path) t.up t.down);
      }
  chop_around (falling r q) =
      let t = r.reaches in
      record {
        start = r.start;
        begins = r.listed;
        goal = q.goal;
        ends = q.listed;
        front = t.path;
        back = q.path;
        front_joins = t.joins;
        back_joins = q.joins;
        up = t.up;
        down = t.down ++ word q.path;
        rises = t.rises;
        falls = falls_append t.falls q.falls;
        spells = ap (λ w. w ++ word q.path) t.spells ∙ append_assoc t.up t.down (word q.path);
      }

  chop_between : {x o v : ℕ} → Surrounds edges from to x o → IsMatchedPath edges x v → IsMatchedPath edges v o → IsInChop edges from to v
  chop_between {x = x} {o = o} {v = v} s a b =
      let f = s.fits (word a.path ++ word b.path) (words.both a.matched b.matched) in
      let whole : word (s.front ++ a.path) ++ word (b.path ++ s.back) ≡ word s.front ++ ((word a.path ++ word b.path) ++ word s.back) =
      ap (λ w. w ++ word (b.path ++ s.back)) (word-append s.front a.path) ∙ ap (λ w. (word s.front ++ word a.path) ++ w) (word-append b.path s.back) ∙ four (word s.front) (word a.path) (word b.path) (word s.back) in
      record {
        start = s.start;
        begins = s.begins;
        goal = s.goal;
        ends = s.ends;
        front = s.front ++ a.path;
        back = b.path ++ s.back;
        front_joins = join_paths edges s.front a.path s.start x v s.front_joins a.joins;
        back_joins = join_paths edges b.path s.back v o s.goal b.joins s.back_joins;
        up = f.up;
        down = f.down;
        rises = f.rises;
        falls = f.falls;
        spells = whole ∙ f.spells;
      }
    where
      four : (f a b s : List Letter) → (f ++ a) ++ (b ++ s) ≡ f ++ ((a ++ b) ++ s)
      four f a b s = simp append_assoc

  chop_of_context : {v : ℕ} → IsByContexts edges from to v → IsInChop edges from to v
  chop_of_context (around h) = chop_around h
  chop_of_context (between wanted a b) = chop_between (surrounds wanted) a b

pub by_contexts : (edges : List Edge) (from to : List ℕ) (v : ℕ) → IsInChop edges from to v ↔ IsByContexts edges from to v
by_contexts edges from to v = (context_of_chop edges from to v, chop_of_context edges from to)

-- ---- both slices
module _ (edges : List Edge) (from to : List ℕ) where
  forward_open : {n a b : ℕ} → IsForward edges from a → HasLetter edges (Open n) a b → IsForward edges from b
  forward_open {n = n} {a = a} {b = b} r h =
      let q = r.reaches in
      let last = edge a b h.label ∷ [] in
      record {
        start = r.start;
        listed = r.listed;
        reaches = record {
          path = q.path ++ last;
          joins = join_paths edges q.path last r.start a b q.joins (letter_path h [] _ refl);
          up = q.up;
          down = q.down ++ Open n ∷ [];
          rises = q.rises;
          falls = falls_append q.falls (words.open_ n words.flat);
          spells = word-append q.path last ∙ ap (λ w. w ++ word last) q.spells ∙ ap (λ w. (q.up ++ q.down) ++ w) (letter_word h []) ∙ append_assoc q.up q.down (Open n ∷ []);
        };
      }

  reaches_level : {a b : ℕ} → IsMatchedPath edges a b → ReachesOne edges to b → ReachesOne edges to a
  reaches_level {a = a} {b = b} m r =
      let q = r.reaches in
      record {
        goal = r.goal;
        listed = r.listed;
        reaches = record {
          path = m.path ++ q.path;
          joins = join_paths edges m.path q.path a b r.goal m.joins q.joins;
          up = word m.path ++ q.up;
          down = q.down;
          rises = words.level m.matched q.rises;
          falls = q.falls;
          spells = word-append m.path q.path ∙ ap (λ w. word m.path ++ w) q.spells ∙ sym (append_assoc (word m.path) q.up q.down);
        };
      }

  reaches_close : {n a b : ℕ} → HasLetter edges (Close n) a b → ReachesOne edges to b → ReachesOne edges to a
  reaches_close {n = n} {a = a} {b = b} h r =
      let q = r.reaches in
      record {
        goal = r.goal;
        listed = r.listed;
        reaches = record {
          path = edge a b h.label ∷ q.path;
          joins = letter_path h q.path r.goal q.joins;
          up = Close n ∷ q.up;
          down = q.down;
          rises = words.close n q.rises;
          falls = q.falls;
          spells = letter_word h q.path ∙ ap (λ w. Close n ∷ w) q.spells;
        };
      }

  reaches_of_falling : {v : ℕ} → FallsToOne edges to v → ReachesOne edges to v
  reaches_of_falling r = record { goal = r.goal; listed = r.listed; reaches = record { path = r.path; joins = r.joins; up = []; down = word r.path; rises = words.flat; falls = r.falls; spells = refl } }

  both_around : {a b : ℕ} → IsAround edges from to a b → IsForward edges from a × ReachesOne edges to b
  both_around (rising r q) = (forward_of_risen edges from r, q)
  both_around (falling r q) = (r, reaches_of_falling q)

  both_of_wanted : {x o : ℕ} → IsWanted edges from to x o → IsForward edges from x × ReachesOne edges to o
  both_of_wanted (outermost call here) = let b = both_around here in (forward_open b.0 call.enters, reaches_close call.leaves b.1)
  both_of_wanted (inside wanted h) =
      let b = both_of_wanted wanted in (
        forward_open (forward_level edges from b.0 (level_of_path h.goes_in)) h.call.enters,
        reaches_close h.call.leaves (reaches_level h.comes_out b.1),
      )

  both_of_context : {v : ℕ} → IsByContexts edges from to v → IsForward edges from v × ReachesOne edges to v
  both_of_context (around h) = both_around h
  both_of_context (between wanted a b) = let w = both_of_wanted wanted in (forward_level edges from w.0 (level_of_path a), reaches_level b w.1)

pub lies_in_both : (edges : List Edge) (from to : List ℕ) (v : ℕ) → IsInChop edges from to v → IsForward edges from v × ReachesOne edges to v
lies_in_both edges from to v h = both_of_context edges from to (context_of_chop edges from to v h)
