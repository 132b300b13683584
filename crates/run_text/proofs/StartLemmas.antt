-- The starts of statements, list by list.
use Rattle.std.proofs.Common.{◌≡◌, ◌≢◌, ℕ, zero, suc, ◌<◌, ◌==◌, ◌&&◌, Option, List, [], ◌∷◌, ◌++◌, true, inl, inr, length, arith, append_assoc, slice_index_or, refl, sym, ap, ap₂, ◌∙◌}
use Rattle.std.proofs.lemmas.Bool.{false≢true, eq-eqb, eqb-true, and_parts, or_cases, or_left, or_right}
use Rattle.std.specs.Option.{option_to_list}
use Rattle.c_tree.specs.declared.expr.Expr.{Expr}
use Rattle.c_tree.specs.declared.program.Function.{Function}
use Rattle.c_tree.specs.declared.statement.Arm.{Arm, out-Arm}
use Rattle.c_tree.specs.declared.statement.Statement.{Statement}
use Rattle.c_tree.specs.declared.statement.Statement.TheVariants as s
use Rattle.c_tree.specs.declared.numbered.Start.{Start}
use Rattle.c_tree.specs.Numbered.{Starts, start, own_start, starts, body_starts, function_starts, inner, arms_inner}
use Rattle.c_tree.proofs.LayerLemmas.{inner-If, inner-For, body_starts-append, starts-inner}
use Rattle.c_language.proofs.Turns.{IsEach}
use Rattle.run_text.specs.Lines.{StartsOn, starts_among}

grown_two : (o p q a b w : Starts) → p ≡ o ++ a → q ≡ p ++ b → w ≡ a ++ b → q ≡ o ++ w
grown_two o p q a b w e f g = f ∙ (ap (λ x. x ++ b) e ∙ (append_assoc o a b ∙ ap (λ x. o ++ x) (sym g)))

grown_three : (o p q r a b c w : Starts) → p ≡ o ++ a → q ≡ p ++ b → r ≡ q ++ c → w ≡ a ++ (b ++ c) → r ≡ o ++ w
grown_three o p q r a b c w e f g h = grown_two o p r a (b ++ c) w e (grown_two p q r b c (b ++ c) f g refl) h

pub each_statement : IsEach starts body_starts
each_statement = record { at_nothing = refl; at_more = λ x xs. refl }

pub each_arm : IsEach (λ (a : Arm). body_starts (out-Arm a).body) (λ (as_ : List Arm). body_starts (arms_inner as_))
each_arm = record { at_nothing = refl; at_more = λ a as_. body_starts-append (out-Arm a).body (arms_inner as_) }

pub each_function : IsEach (λ (f : Function). body_starts f.body) function_starts
each_function = record { at_nothing = refl; at_more = λ f fs. refl }

-- a statement, and what stands inside it
pub within_grown : (one : Statement) (o p q : Starts) → p ≡ o ++ option_to_list (own_start one) → q ≡ p ++ body_starts (inner one) → q ≡ o ++ starts one
within_grown one o p q e f = grown_two o p q (option_to_list (own_start one)) (body_starts (inner one)) (starts one) e f (starts-inner one)

pub if_grown : (id l : ℕ) (e : Expr) (a b : List Statement) (one : Statement) (o p q : Starts) → one ≡ s.If id l e a b → p ≡ o ++ body_starts a → q ≡ p ++ body_starts b → q ≡ o ++ body_starts (inner one)
if_grown id l e a b one o p q is f g =
    grown_two o p q (body_starts a) (body_starts b) _ f g (ap (λ x. body_starts (inner x)) is ∙ ap body_starts (inner-If id l e a b) ∙ body_starts-append a b)

pub for_grown : (id l : ℕ) (i : Option Statement) (e : Expr) (step : Option Statement) (b : List Statement) (one : Statement) (o p q r : Starts) → one ≡ s.For id l i e step b → p ≡ o ++ body_starts (option_to_list i) → q ≡ p ++ body_starts (option_to_list step) → r ≡ q ++ body_starts b → r ≡ o ++ body_starts (inner one)
for_grown id l i e step b one o p q r is f g h =
    grown_three o p q r _ _ _ _ f g h (ap (λ x. body_starts (inner x)) is ∙ ap body_starts (inner-For id l i e step b) ∙ (body_starts-append (option_to_list i) (option_to_list step ++ b) ∙ ap (λ found. body_starts (option_to_list i) ++ found) (body_starts-append (option_to_list step) b)))

-- a statement of a list, and where it stands there
pub among_at : (line i : ℕ) (ss : Starts) (k : ℕ) (d : Start) → k < length ss → (slice_index_or ss k d).id ≡ i → (slice_index_or ss k d).line ≡ line → starts_among line ss i ≡ true
among_at line i [] k d lt same on = absurd (omega (arith, lt))
among_at line i (s ∷ ss) zero d lt same on = or_left ((s.id == i) && (s.line == line)) (starts_among line ss i) (ap₂ (λ a b. a && b) (eq-eqb s.id i same) (eq-eqb s.line line on))
among_at line i (s ∷ ss) (suc k) d lt same on = or_right ((s.id == i) && (s.line == line)) (starts_among line ss i) (among_at line i ss k d (omega (arith, lt)) same on)

pub record StandsAt (line i : ℕ) (ss : Starts) : Type 0 where
  pub place : ℕ
  pub within : place < length ss
  pub same : (d : Start) → (slice_index_or ss place d).id ≡ i
  pub on : (d : Start) → (slice_index_or ss place d).line ≡ line

pub at_place : (line i : ℕ) (ss : Starts) → starts_among line ss i ≡ true → StandsAt line i ss
at_place line i [] is = absurd (false≢true is)
at_place line i (s ∷ ss) is = elim (or_cases ((s.id == i) && (s.line == line)) (starts_among line ss i) is) [
  | inl here ↦
      let both = and_parts (s.id == i) (s.line == line) here in
      record { place = 0; within = omega arith; same = λ d. eqb-true s.id i both.0; on = λ d. eqb-true s.line line both.1 }
  | inr later ↦
      let rest = at_place line i ss later in
      let low = rest.within in
      record { place = suc rest.place; within = omega (arith, low); same = rest.same; on = rest.on }
]

-- where none of a list is so, no statement starts on the line, or has the number
pub none_on : (line : ℕ) (ss : Starts) → ((k : ℕ) (d : Start) → k < length ss → (slice_index_or ss k d).line ≢ line) → StartsOn line ss → ⊥
none_on line ss none (i, is) = let found = at_place line i ss is in none found.place (start 0 0) found.within (found.on (start 0 0))

pub none_with : (line i : ℕ) (ss : Starts) → ((k : ℕ) (d : Start) → k < length ss → (slice_index_or ss k d).id ≢ i) → starts_among line ss i ≡ true → ⊥
none_with line i ss none is = let found = at_place line i ss is in none found.place (start 0 0) found.within (found.same (start 0 0))
