-- What follows the first edge of a path whose word rises and then falls.
use Rattle.std.proofs.Common.{◌≡◌, ℕ, Bool, List, [], ◌∷◌, ◌++◌, ◌⊎◌, inl, inr, append_assoc, append-nil, Contains, refl, sym, ap, ◌∙◌, subst}
use Rattle.std.specs.Prelude.{IsTrue}
use Rattle.bit_rows.specs.Sets.{has}
use Rattle.dep_model.specs.declared.edge.Edge.{Edge}
use Rattle.dep_model.specs.declared.edge.Label.{Label}
use Rattle.dep_model.specs.declared.edge.Label.TheVariants.{Control, Flow, Call, In, Out}
use Rattle.dep_model.specs.Words.{Letter, Open, Close, letters, word, IsPath, Matched, empty, pair, both, Rises, Falls, ReachesAny}
use Rattle.dep_model.specs.Words as words

tail_is : {x y : Letter} {v w : List Letter} → x ∷ v ≡ y ∷ w → v ≡ w
tail_is e = cc

rises_append : {v w : List Letter} → Rises v → Rises w → Rises (v ++ w)
rises_append words.flat r = r
rises_append {w = z} (words.level {w = w} {x = x} m q) r = subst Rises (sym (append_assoc w x z)) (words.level m (rises_append q r))
rises_append (words.close c q) r = words.close c (rises_append q r)

-- what follows the first letter of such a word rises
abbrev TailRises : List Letter → Type 0
TailRises w = (x : Letter) (v : List Letter) → w ≡ x ∷ v → Rises v

both_tail : (w y : List Letter) → TailRises w → TailRises y → Matched y → TailRises (w ++ y)
both_tail [] y first second m x v e = second x v e
both_tail (z ∷ u) y first second m x v e = subst Rises (tail_is e) (rises_append (first z u refl) (subst Rises (append-nil y) (words.level m words.flat)))

matched_tail : {w : List Letter} → Matched w → TailRises w
matched_tail empty x v e = cc
matched_tail (pair c m) x v e = subst Rises (tail_is e) (words.level m (words.close c words.flat))
matched_tail (both {w = w} {x = y} m n) x v e = both_tail w y (matched_tail m) (matched_tail n) n x v e

-- a word rises and then falls
record RisesFalls (w : List Letter) : Type 0 where
  up : List Letter
  down : List Letter
  rises : Rises up
  falls : Falls down
  spells : w ≡ up ++ down

abbrev HasRest : List Letter → Type 0
HasRest w = (x : Letter) (v : List Letter) → w ≡ x ∷ v → RisesFalls v

level_falls : (w y : List Letter) → Matched w → Falls y → HasRest y → HasRest (w ++ y)
level_falls [] y m f rest x v e = rest x v e
level_falls (z ∷ u) y m f rest x v e = record { up = u; down = y; rises = matched_tail m z u refl; falls = f; spells = sym (tail_is e) }

falls_rest : {w : List Letter} → Falls w → HasRest w
falls_rest words.flat x v e = cc
falls_rest (words.level {w = w} {x = y} m f) x v e = level_falls w y m f (falls_rest f) x v e
falls_rest (words.open_ c {x = y} f) x v e = record { up = []; down = y; rises = words.flat; falls = f; spells = sym (tail_is e) }

level_rises : (w y d : List Letter) → Matched w → Rises y → Falls d → HasRest (y ++ d) → HasRest ((w ++ y) ++ d)
level_rises [] y d m r f rest x v e = rest x v e
level_rises (z ∷ u) y d m r f rest x v e = record { up = u ++ y; down = d; rises = rises_append (matched_tail m z u refl) r; falls = f; spells = sym (tail_is e) }

rises_rest : {u d : List Letter} → Rises u → Falls d → HasRest (u ++ d)
rises_rest words.flat f x v e = falls_rest f x v e
rises_rest {d = d} (words.level {w = w} {x = y} m r) f x v e = level_rises w y d m r f (rises_rest r f) x v e
rises_rest {d = d} (words.close c {x = y} r) f x v e = record { up = y; down = d; rises = r; falls = f; spells = sym (tail_is e) }

letter_cases : (l : Label) → (letters l ≡ []) ⊎ ((x : Letter) × (letters l ≡ x ∷ []))
letter_cases Control = inl refl
letter_cases Flow = inl refl
letter_cases (Call c) = inr (Open c, refl)
letter_cases (In c) = inr (Open c, refl)
letter_cases (Out c) = inr (Close c, refl)

-- an edge from a, to what reaches the set
pub record LeadsOn (edges : List Edge) (s : List Bool) (a : ℕ) : Type 0 where
  pub edge : Edge
  pub member : Contains edges edge
  pub from : edge.from ≡ a
  pub reaches : ReachesAny edges s edge.to

after_edge : (edges : List Edge) (s : List Bool) (e : Edge) (es : List Edge) (goal : ℕ) → IsTrue (has s goal) → IsPath edges e.to es goal → RisesFalls (word es) → ReachesAny edges s e.to
after_edge edges s e es goal wanted joins r = record {
  goal = goal;
  wanted = wanted;
  reaches = record { path = es; joins = joins; up = r.up; down = r.down; rises = r.rises; falls = r.falls; spells = r.spells };
}

rest_of_word : (l : Label) (w u d : List Letter) → Rises u → Falls d → letters l ++ w ≡ u ++ d → RisesFalls w
rest_of_word l w u d r f e = elim (letter_cases l) [
  | inl none ↦ record { up = u; down = d; rises = r; falls = f; spells = sym (ap (λ v. v ++ w) none) ∙ e }
  | inr one ↦ rises_rest r f one.0 w (sym e ∙ ap (λ v. v ++ w) one.1)
]

first_of_path : (edges : List Edge) (s : List Bool) (a : ℕ) (es : List Edge) (goal : ℕ) → IsTrue (has s goal) → IsPath edges a es goal → (u d : List Letter) → Rises u → Falls d → word es ≡ u ++ d → IsTrue (has s a) ⊎ LeadsOn edges s a
first_of_path edges s a [] goal wanted joins u d r f e = inl (subst (λ v. IsTrue (has s v)) (sym joins) wanted)
first_of_path edges s a (x ∷ es) goal wanted joins u d r f e =
    inr (record { edge = x; member = joins.0; from = joins.1; reaches = after_edge edges s x es goal wanted joins.2 (rest_of_word x.label (word es) u d r f e) })

-- what reaches a set is of it, or has an edge to what reaches it
pub first_edge : (edges : List Edge) (s : List Bool) (a : ℕ) → ReachesAny edges s a → IsTrue (has s a) ⊎ LeadsOn edges s a
first_edge edges s a r = let q = r.reaches in first_of_path edges s a q.path r.goal r.wanted q.joins q.up q.down q.rises q.falls q.spells
