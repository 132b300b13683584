-- Labels of a switch that differ: each is the first of its kind.
use Rattle.std.proofs.Common.{◌≡◌, ℤ, List, [], ◌∷◌, ◌++◌, map, Bool, true, false, ◌||◌, Some, refl, sym, subst, ◌∙◌}
use Rattle.std.specs.Prelude.{Contains, not}
use Rattle.std.specs.Ordering.{int_eq}
use Rattle.std.proofs.lemmas.Bool.Decides.{Decides-int_eq}
use Rattle.std.proofs.lemmas.Bool.{or_left}
use Rattle.c_arith.specs.declared.int_type.IntType.{IntType}
use Rattle.c_arith.specs.IntType.{convert}
use Rattle.c_tree.specs.declared.expr.Expr.{Expr}
use Rattle.c_tree.specs.declared.statement.Label.{Label}
use Rattle.c_tree.specs.declared.statement.Label.TheVariants as tree
use Rattle.c_tree.specs.declared.raw.expr.RawExpr.{RawExpr}
use Rattle.c_tree.specs.declared.raw.program.RawProgram.{RawProgram}
use Rattle.c_tree.specs.declared.raw.statement.RawLabel.{RawLabel}
use Rattle.c_tree.specs.declared.raw.statement.RawLabel.TheVariants as label
use Rattle.c_language.specs.Code.{has_case, has_default}
use Rattle.c_language.specs.ConstantEvaluation.{value_of_constant}
use Rattle.c_language.specs.ProgramOf.{collected, expr_of, label_tree}
use Rattle.c_language.specs.Scopes.{Scope}
use Rattle.c_language.specs.SwitchRules.{HasTwo, SameCase, BothDefault}
use Rattle.c_language.proofs.Options.{some_same, map_there, then_there, more_there}
use Rattle.c_language.proofs.Tests.{false_true}
use Rattle.c_language.proofs.Lists.{contains_first, contains_later}
use Rattle.dep_model.specs.SwitchArms.{is_first, has_first, with_labels}
use Rattle.control_nesting.proofs.TakenLabels.{has_label}

untrue : (b : Bool) → (b ≡ true → ⊥) → not b ≡ true
untrue true h = absurd (h refl)
untrue false h = refl

module _ (t : IntType) where
  -- labels of the text differ, and none of them is one of those before
  pub record Apart (before : List Label) (rest : List RawLabel) : Type 0 where
    pub cases : (z : ℤ) (a : RawExpr) (v : ℤ) → has_case z before ≡ true → Contains rest (label.Case a) → value_of_constant a ≡ Some v → convert v t ≡ z → ⊥
    pub default_ : has_default before ≡ true → Contains rest label.Default → ⊥
    pub values : HasTwo (SameCase t) rest → ⊥
    pub defaults : HasTwo BothDefault rest → ⊥

  case_apart : (before : List Label) (a : RawExpr) (x : Expr) (v : ℤ) (rest : List RawLabel) → value_of_constant a ≡ Some v → Apart before (label.Case a ∷ rest) → Apart (tree.Case x (convert v t) ∷ before) rest
  case_apart before a x v rest is h = record {
    cases = λ z b w q c e s. by_test z b w c e s (int_eq (convert v t) z) refl q;
    default_ = λ q c. h.default_ q (contains_later (label.Case a) label.Default rest c);
    values = λ two. h.values (HasTwo.later two);
    defaults = λ two. h.defaults (HasTwo.later two);
  }
    where
      by_test : (z : ℤ) (b : RawExpr) (w : ℤ) → Contains rest (label.Case b) → value_of_constant b ≡ Some w → convert w t ≡ z → (y : Bool) → int_eq (convert v t) z ≡ y → (y || has_case z before) ≡ true → ⊥
      by_test z b w c e s true same q = h.values (HasTwo.first c (SameCase.same is e ((Decides-int_eq (convert v t) z).0 same ∙ sym s)))
      by_test z b w c e s false other q = h.cases z b w q (contains_later (label.Case a) (label.Case b) rest c) e s

  default_apart : (before : List Label) (rest : List RawLabel) → Apart before (label.Default ∷ rest) → Apart (tree.Default ∷ before) rest
  default_apart before rest h = record {
    cases = λ z b w q c e s. h.cases z b w q (contains_later label.Default (label.Case b) rest c) e s;
    default_ = λ q c. h.defaults (HasTwo.first c BothDefault.both);
    values = λ two. h.values (HasTwo.later two);
    defaults = λ two. h.defaults (HasTwo.later two);
  }

  module _ (raw : RawProgram) (scope : Scope) where
    one_apart : (before : List Label) (l : RawLabel) (rest : List RawLabel) (y : Label) → label_tree raw scope t l ≡ Some y → Apart before (l ∷ rest) → (is_first before y ≡ true) × Apart (y ∷ before) rest
    one_apart before (label.Case a) rest y at h =
        let x = then_there _ (expr_of raw scope a) y at in
        let v = map_there (λ (z : ℤ). tree.Case x.value (convert z t)) (value_of_constant a) y x.same in
        subst (λ (w : Label). (is_first before w ≡ true) × Apart (w ∷ before) rest) v.same
        (untrue (has_case (convert v.value t) before) (λ q. h.cases (convert v.value t) a v.value q (contains_first (label.Case a) rest) v.there refl), case_apart before a x.value v.value rest v.there h)
    one_apart before label.Default rest y at h =
        subst (λ (w : Label). (is_first before w ≡ true) × Apart (w ∷ before) rest) (some_same at)
        (untrue (has_default before) (λ q. h.default_ q (contains_first label.Default rest)), default_apart before rest h)

    -- so are the labels behind those of an arm
    pub labels_apart : (before : List Label) (ls rest : List RawLabel) (ys : List Label) → collected (map (label_tree raw scope t) ls) ≡ Some ys → Apart before (ls ++ rest) → Apart (with_labels before ys) rest
    labels_apart before [] rest ys at h = subst (λ (w : List Label). Apart (with_labels before w) rest) (some_same at) h
    labels_apart before (l ∷ ls) rest ys at h =
        let m = more_there (label_tree raw scope t l) (map (label_tree raw scope t) ls) ys at in
        let o = one_apart before l (ls ++ rest) m.first m.first_there h in
        subst (λ (w : List Label). Apart (with_labels before w) rest) m.same (labels_apart (m.first ∷ before) ls rest m.rest m.rest_there o.1)

    -- an arm with a label has one that is the first of its kind
    pub first_there : (before : List Label) (ls rest : List RawLabel) (ys : List Label) → has_label ls ≡ true → collected (map (label_tree raw scope t) ls) ≡ Some ys → Apart before (ls ++ rest) → has_first before ys ≡ true
    first_there before [] rest ys some at h = false_true some
    first_there before (l ∷ ls) rest ys some at h =
        let m = more_there (label_tree raw scope t l) (map (label_tree raw scope t) ls) ys at in
        let o = one_apart before l (ls ++ rest) m.first m.first_there h in
        subst (λ (w : List Label). has_first before w ≡ true) m.same (or_left (is_first before m.first) (has_first (m.first ∷ before) m.rest) o.0)
