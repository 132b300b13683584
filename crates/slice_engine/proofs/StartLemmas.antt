-- The starts of statements, list by list.
use Rattle.std.proofs.Common.{◌≡◌, ◌⊎◌, inl, inr, ℕ, ◌+◌, ◌≤◌, ◌<◌, ◌==◌, Less, Equal, Greater, suc, nat_lt, cond, Bool, true, false, Option, List, ◌++◌, length, take, get_or, All, refl, sym, ap, subst, ◌∙◌, arith}
use Rattle.std.specs.List.{list_any}
use Rattle.std.specs.Ordering.{nat_cmp, ord_max, is_lt}
use Rattle.std.proofs.lemmas.Bool.{eq-eqb}
use Rattle.std.proofs.lemmas.Bool.Decides.{leb_tells}
use Rattle.std.proofs.lemmas.List.Folds.{list_any_at}
use Rattle.std.proofs.lemmas.List.Elements.{All-more, All-weaker}
use Rattle.std.specs.Option.{option_to_list}
use Rattle.std.proofs.lemmas.List.{take_all}
use Rattle.c_tree.specs.declared.expr.Expr.{Expr}
use Rattle.c_tree.specs.declared.program.Function.{Function}
use Rattle.c_tree.specs.declared.statement.Arm.{Arm, out-Arm}
use Rattle.c_tree.specs.declared.statement.Statement.{Statement}
use Rattle.c_tree.specs.declared.statement.Statement.TheVariants as s
use Rattle.c_tree.specs.declared.numbered.Start.{Start}
use Rattle.c_tree.specs.Numbered.{Starts, own_start, starts, body_starts, function_starts, inner, arms_inner}
use Rattle.c_tree.proofs.LayerLemmas.{inner-If, inner-For, body_starts-append, starts-inner}
use Rattle.c_language.proofs.Turns.{IsEach}
use Rattle.dep_model.proofs.Grown.{grown_two, grown_three}

pub each_statement : IsEach starts body_starts
each_statement = record { at_nothing = refl; at_more = λ x xs. refl }

pub each_arm : IsEach (λ (a : Arm). body_starts (out-Arm a).body) (λ (as_ : List Arm). body_starts (arms_inner as_))
each_arm = record { at_nothing = refl; at_more = λ a as_. body_starts-append (out-Arm a).body (arms_inner as_) }

pub each_function : IsEach (λ (f : Function). body_starts f.body) function_starts
each_function = record { at_nothing = refl; at_more = λ f fs. refl }

-- a statement, and what stands inside it
pub within_grown : (one : Statement) (o p q : Starts) → p ≡ o ++ option_to_list (own_start one) → q ≡ p ++ body_starts (inner one) → q ≡ o ++ starts one
within_grown one o p q e f = grown_two o p q (option_to_list (own_start one)) (body_starts (inner one)) (starts one) e f (starts-inner one)

pub if_grown : (id l : ℕ) (e : Expr) (a b : List Statement) (one : Statement) (o p q : Starts) → one ≡ s.If id l e a b → p ≡ o ++ body_starts a → q ≡ p ++ body_starts b → q ≡ o ++ body_starts (inner one)
if_grown id l e a b one o p q is f g =
    grown_two o p q (body_starts a) (body_starts b) _ f g (ap (λ x. body_starts (inner x)) is ∙ ap body_starts (inner-If id l e a b) ∙ body_starts-append a b)

pub for_grown : (id l : ℕ) (i : Option Statement) (e : Expr) (step : Option Statement) (b : List Statement) (one : Statement) (o p q r : Starts) → one ≡ s.For id l i e step b → p ≡ o ++ body_starts (option_to_list i) → q ≡ p ++ body_starts (option_to_list step) → r ≡ q ++ body_starts b → r ≡ o ++ body_starts (inner one)
for_grown id l i e step b one o p q r is f g h =
    grown_three o p q r _ _ _ _ f g h (ap (λ x. body_starts (inner x)) is ∙ ap body_starts (inner-For id l i e step b) ∙ (body_starts-append (option_to_list i) (option_to_list step ++ b) ∙ ap (λ found. body_starts (option_to_list i) ++ found) (body_starts-append (option_to_list step) b)))

-- one more start, and a line that is as late as it and as those before
latest_more : (starts : Starts) (i last new : ℕ) (none : Start) → i < length starts → last ≤ new → (get_or starts i none).line ≤ new → All (λ (s : Start). s.line ≤ last) (take i starts) → All (λ (s : Start). s.line ≤ new) (take (i + 1) starts)
latest_more starts i last new none lt after here before =
    All-more (λ (s : Start). s.line ≤ new) starts i none lt (All-weaker (λ (s : Start). s.line ≤ last) (λ (s : Start). s.line ≤ new) (λ s le. omega (arith, after, le)) (take i starts) before) here

-- some start has this line
abbrev pub IsSomeLine : Starts → ℕ → Type 0
IsSomeLine starts line = list_any (λ (s : Start). s.line == line) starts ≡ true

-- the last line of the first `at` starts, 0 where there is none
pub record IsLatest (starts : Starts) (at last : ℕ) : Type 0 where
  pub after : All (λ (s : Start). s.line ≤ last) (take at starts)
  pub is_one : (last ≡ 0) ⊎ IsSomeLine starts last

-- the greater of two numbers is one of them
greater : (a b new : ℕ) → new ≡ ord_max nat_cmp a b → ((b < a) × (new ≡ a)) ⊎ ((a ≤ b) × (new ≡ b))
greater a b new is = elim (leb_tells (suc b) a) [
  | inl more ↦ inl (more.1, is ∙ picked (nat_lt b a) (b == a) ∙ ap (λ t. cond t a b) more.0)
  | inr less ↦ inr (omega (arith, less.1), is ∙ picked (nat_lt b a) (b == a) ∙ ap (λ t. cond t a b) less.0)
]
  where
    picked : (less same : Bool) → cond (is_lt (cond less Less (cond same Equal Greater))) a b ≡ cond less a b
    picked true same = refl
    picked false true = refl
    picked false false = refl

pub latest_next : (starts : Starts) (i last new : ℕ) (none : Start) → i < length starts → new ≡ ord_max nat_cmp last (get_or starts i none).line → IsLatest starts i last → IsLatest starts (i + 1) new
latest_next starts i last new none lt is g = elim (greater last (get_or starts i none).line new is) [
  | inl stays ↦ record {
    after = latest_more starts i last new none lt (omega (arith, stays.1)) (omega (arith, stays.0, stays.1)) g.after;
    is_one = subst (λ n. (n ≡ 0) ⊎ IsSomeLine starts n) (sym stays.1) g.is_one;
  }
  | inr here ↦ record {
    after = latest_more starts i last new none lt (omega (arith, here.0, here.1)) (omega (arith, here.1)) g.after;
    is_one = inr (list_any_at (λ (s : Start). s.line == new) starts i none lt (eq-eqb (get_or starts i none).line new (sym here.1)));
  }
]

pub latest_all : (starts : Starts) (i last : ℕ) → length starts ≤ i → IsLatest starts i last → All (λ (s : Start). s.line ≤ last) starts
latest_all starts i last end g = subst (All (λ (s : Start). s.line ≤ last)) (take_all i starts end) g.after
