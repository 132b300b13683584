-- A constant expression names nothing: lengths of arrays, labels of switches, and what globals begin with.
use Rattle.std.proofs.Common.{◌≡◌, ℕ, zero, suc, Bool, true, false, List, [], ◌∷◌, map, Option, Some, None, decimal, refl, sym, ap, subst, ◌∙◌, arith}
use Rattle.std.specs.Prelude.{Contains, option_map, option_and_then}
use Rattle.std.proofs.lemmas.Bool.{and_parts}
use Rattle.c_arith.specs.declared.int_type.IntType.{IntType}
use Rattle.c_tree.specs.declared.raw.expr.RawExpr.{RawExpr, out-RawExpr, map-RawExpr, fold-roll-RawExpr}
use Rattle.c_tree.specs.declared.raw.expr.RawExpr.TheOpen.{RawExpr-F}
use Rattle.c_tree.specs.declared.raw.expr.RawExpr.TheViews.{roll-out-RawExpr}
use Rattle.c_tree.specs.declared.raw.expr.RawExpr.TheVariants as r
use Rattle.c_tree.specs.declared.raw.expr.RawLength.TheVariants.{Written, Listed}
use Rattle.c_tree.specs.declared.raw.expr.RawType.{RawType, map-RawType, fold-roll-RawType}
use Rattle.c_tree.specs.declared.raw.expr.RawType.TheOpen.{RawType-F}
use Rattle.c_tree.specs.declared.raw.expr.RawType.TheVariants as type
use Rattle.c_tree.specs.declared.raw.program.RawProgram.{RawProgram}
use Rattle.c_tree.specs.declared.raw.statement.RawLabel.{RawLabel}
use Rattle.c_tree.specs.declared.raw.statement.RawLabel.TheVariants.{Case, Default}
use Rattle.c_tree.specs.declared.statement.Label.{Label}
use Rattle.c_tree.proofs.RawTrees.{TypeParts, type_layer, of_every_type}
use Rattle.c_language.specs.Words.{Bytes}
use Rattle.c_language.specs.declared.constant.Constant.{Constant}
use Rattle.c_language.specs.ConstantEvaluation.{both, constant_step, constant, value_of_constant}
use Rattle.c_language.specs.Scopes.{Scope}
use Rattle.c_language.specs.Syntax.{Extent, takes_list, reaches_step, reaches}
use Rattle.c_language.specs.TypeGrammar.{written_step, is_written}
use Rattle.c_language.specs.Uses.{operands_of, whole, deeper, null_step, is_null_name, lengths_step, lengths_in, cases}
use Rattle.c_language.specs.ProgramOf.{collected, expr_of, label_tree}
use Rattle.c_language.proofs.Lists.{contains_later}
use Rattle.c_language.proofs.Options.{none_there, map_there, then_there, more_there}
use Rattle.c_language.proofs.Tests.{false_true}
use Rattle.c_scope_laws.specs.Agreement.{NamedIn, NamedAmong}
use Rattle.c_scope_laws.specs.ThinnedBodies.{counted_type_step, counted_type}
use Rattle.c_scope_laws.proofs.Trees.{in_none, in_one}
use Rattle.c_print_laws.proofs.Settling.{constant_value_of}

-- none of some expressions names anything
abbrev pub NoNames : List RawExpr → Type 0
NoNames all = (x : Bytes) → NamedAmong all x → ⊥

map_none : {A B : Type 0} (f : A → B) (o : Option A) → o ≡ None → option_map f o ≡ None
map_none f o h = ap (option_map f) h

left_none : {A B C : Type 0} (f : A → B → C) (o : Option A) (q : Option B) → o ≡ None → both f o q ≡ None
left_none f o q h = ap (λ (x : Option _). both f x q) h

right_none : {A B C : Type 0} (f : A → B → C) (o : Option A) (q : Option B) → q ≡ None → both f o q ≡ None
right_none f None q h = refl
right_none f (Some x) q h = ap (option_map (f x)) h

then_none : {A B : Type 0} (f : A → Option B) (o : Option A) → o ≡ None → option_and_then f o ≡ None
then_none f o h = ap (option_and_then f) h

each_none : {A B : Type 0} (f : A → Option B) (o : Option A) → ((x : A) → f x ≡ None) → option_and_then f o ≡ None
each_none f None h = refl
each_none f (Some x) h = h x

pick_two : {a b : RawExpr} (P : Type 0) → (m : RawExpr) → (a ≡ m → P) → (b ≡ m → P) → Contains (a ∷ (b ∷ [])) m → P
pick_two P m p q (zero, within, is) = p is
pick_two {a} {b} P m p q (suc i, within, is) = q (in_one b m (i, omega (arith, within), is))

pick_three : {a b c : RawExpr} (P : Type 0) → (m : RawExpr) → (a ≡ m → P) → (b ≡ m → P) → (c ≡ m → P) → Contains (a ∷ (b ∷ (c ∷ []))) m → P
pick_three P m p q r (zero, within, is) = p is
pick_three P m p q r (suc i, within, is) = pick_two P m q r (i, omega (arith, within), is)

-- where an operand is no constant, nor is the whole
operand_none : (l : RawExpr-F RawExpr) (m : RawExpr) → Contains (operands_of l) m → constant m ≡ None → constant_step (map-RawExpr RawExpr (Option Constant) constant l) ≡ None
operand_none (RawExpr-F.Constant text) m c h = in_none m c
operand_none RawExpr-F.Null m c h = in_none m c
operand_none RawExpr-F.Eof m c h = in_none m c
operand_none (RawExpr-F.Variable x) m c h = in_none m c
operand_none (RawExpr-F.Unary op a) m c h = map_none _ (constant a) (ap constant (in_one a m c) ∙ h)
operand_none (RawExpr-F.Deref a) m c h = refl
operand_none (RawExpr-F.AddressOf a) m c h = refl
operand_none (RawExpr-F.Binary op a b) m c h = pick_two _ m (λ is. left_none _ (constant a) (constant b) (ap constant is ∙ h)) (λ is. right_none _ (constant a) (constant b) (ap constant is ∙ h)) c
operand_none (RawExpr-F.AndAlso a b) m c h = pick_two _ m (λ is. left_none _ (constant a) (constant b) (ap constant is ∙ h)) (λ is. right_none _ (constant a) (constant b) (ap constant is ∙ h)) c
operand_none (RawExpr-F.OrElse a b) m c h = pick_two _ m (λ is. left_none _ (constant a) (constant b) (ap constant is ∙ h)) (λ is. right_none _ (constant a) (constant b) (ap constant is ∙ h)) c
operand_none (RawExpr-F.Choose d a b) m c h =
    pick_three _ m (λ is. then_none _ (constant d) (ap constant is ∙ h)) (λ is. each_none _ (constant d) (λ x. left_none _ (constant a) (constant b) (ap constant is ∙ h)))
    (λ is. each_none _ (constant d) (λ x. right_none _ (constant a) (constant b) (ap constant is ∙ h))) c
operand_none (RawExpr-F.Cast t a) m c h = map_none _ (constant a) (ap constant (in_one a m c) ∙ h)
operand_none (RawExpr-F.Index a i) m c h = refl
operand_none (RawExpr-F.Member a f) m c h = refl
operand_none (RawExpr-F.Arrow a f) m c h = refl
operand_none (RawExpr-F.Paren a) m c h = ap constant (in_one a m c) ∙ h

constant_of_layer : (a : RawExpr) → constant a ≡ constant_step (map-RawExpr RawExpr (Option Constant) constant (out-RawExpr a))
constant_of_layer a = ap constant (sym (roll-out-RawExpr a)) ∙ fold-roll-RawExpr (Option Constant) constant_step (out-RawExpr a)

named_none : {a : RawExpr} (x : Bytes) → NamedIn a x → constant a ≡ None
named_none x whole = ap constant (sym (r.rolls-Variable x)) ∙ fold-roll-RawExpr (Option Constant) constant_step (RawExpr-F.Variable x)
named_none {a} x (deeper {middle = m} c n) = constant_of_layer a ∙ operand_none (out-RawExpr a) m c (named_none x n)

pub value_names : {a : RawExpr} {v : _} (x : Bytes) → value_of_constant a ≡ Some v → NamedIn a x → ⊥
value_names x h n = none_there (sym (ap (option_and_then (λ (y : Constant). y.value)) (named_none x n)) ∙ h)

pub labels_name : (raw : RawProgram) (scope : Scope) (i : IntType) (labels : List RawLabel) (ls : List Label) → collected (map (label_tree raw scope i) labels) ≡ Some ls → NoNames (cases labels)
labels_name raw scope i [] ls h x (a, (k, within, is), n) = absurd (omega (arith, within))
labels_name raw scope i (Case a ∷ rest) ls h x (b, (zero, within, is), n) =
    let m = more_there (label_tree raw scope i (Case a)) (map (label_tree raw scope i) rest) ls h in
    let p = then_there _ (expr_of raw scope a) m.first m.first_there in
    let q = map_there _ (value_of_constant a) m.first p.same in
    value_names x q.there (subst (λ (z : RawExpr). NamedIn z x) (sym is) n)
labels_name raw scope i (Case a ∷ rest) ls h x (b, (suc k, within, is), n) =
    let m = more_there (label_tree raw scope i (Case a)) (map (label_tree raw scope i) rest) ls h in
    labels_name raw scope i rest m.rest m.rest_there x (b, (k, omega (arith, within), is), n)
labels_name raw scope i (Default ∷ rest) ls h x c =
    let m = more_there (label_tree raw scope i Default) (map (label_tree raw scope i) rest) ls h in
    labels_name raw scope i rest m.rest m.rest_there x c

-- ---- NULL

null_operand : (l : RawExpr-F RawExpr) (m : RawExpr) → Contains (operands_of l) m → is_null_name m ≡ false → null_step (map-RawExpr RawExpr Bool is_null_name l) ≡ false
null_operand (RawExpr-F.Constant text) m c h = refl
null_operand RawExpr-F.Null m c h = in_none m c
null_operand RawExpr-F.Eof m c h = refl
null_operand (RawExpr-F.Variable x) m c h = refl
null_operand (RawExpr-F.Unary op a) m c h = refl
null_operand (RawExpr-F.Deref a) m c h = refl
null_operand (RawExpr-F.AddressOf a) m c h = refl
null_operand (RawExpr-F.Binary op a b) m c h = refl
null_operand (RawExpr-F.AndAlso a b) m c h = refl
null_operand (RawExpr-F.OrElse a b) m c h = refl
null_operand (RawExpr-F.Choose d a b) m c h = refl
null_operand (RawExpr-F.Cast t a) m c h = refl
null_operand (RawExpr-F.Index a i) m c h = refl
null_operand (RawExpr-F.Member a f) m c h = refl
null_operand (RawExpr-F.Arrow a f) m c h = refl
null_operand (RawExpr-F.Paren a) m c h = ap is_null_name (in_one a m c) ∙ h

-- what names something isn't NULL
pub named_no_null : {a : RawExpr} (x : Bytes) → NamedIn a x → is_null_name a ≡ false
named_no_null x whole = ap is_null_name (sym (r.rolls-Variable x)) ∙ fold-roll-RawExpr Bool null_step (RawExpr-F.Variable x)
named_no_null {a} x (deeper {middle = m} c n) =
    ap is_null_name (sym (roll-out-RawExpr a)) ∙ fold-roll-RawExpr Bool null_step (out-RawExpr a) ∙ null_operand (out-RawExpr a) m c (named_no_null x n)

-- ---- lengths

-- each of them has a value
abbrev pub AllValued : List RawExpr → Type 0
AllValued all = (a : RawExpr) → Contains all a → (v : _) × (value_of_constant a ≡ Some v)

pub valued_names : (all : List RawExpr) → AllValued all → NoNames all
valued_names all h x (a, c, n) = value_names x (h a c).1 n

valued_later : (a : RawExpr) (all : List RawExpr) → AllValued (a ∷ all) → AllValued all
valued_later a all h b c = h b (contains_later a b all c)

module _ (items : ℕ) where
  abbrev Valued : RawType → Type 0
  Valued a = AllValued (lengths_in a) → AllValued (lengths_in (counted_type items a))

  counted_layer : (y : TypeParts Valued) → AllValued (lengths_step (map-RawType RawType (List RawExpr) lengths_in (type_layer Valued y)))
      → AllValued (lengths_in (counted_type_step items (map-RawType RawType RawType (counted_type items) (type_layer Valued y))))
  counted_layer (RawType-F.Integer t) h a c = h a (subst (λ (all : List RawExpr). Contains all a) (ap lengths_in (sym (type.rolls-Integer t)) ∙ fold-roll-RawType (List RawExpr) lengths_step (RawType-F.Integer t)) c)
  counted_layer (RawType-F.Struct tag) h a c = h a (subst (λ (all : List RawExpr). Contains all a) (ap lengths_in (sym (type.rolls-Struct tag)) ∙ fold-roll-RawType (List RawExpr) lengths_step (RawType-F.Struct tag)) c)
  counted_layer (RawType-F.PointerTo b) h a c =
      b.1 h a (subst (λ (all : List RawExpr). Contains all a) (ap lengths_in (sym (type.rolls-PointerTo (counted_type items b.0))) ∙ fold-roll-RawType (List RawExpr) lengths_step (RawType-F.PointerTo (counted_type items b.0))) c)
  counted_layer (RawType-F.Array b (Written e)) h a c =
      let there = ap lengths_in (sym (type.rolls-Array (counted_type items b.0) (Written e))) ∙ fold-roll-RawType (List RawExpr) lengths_step (RawType-F.Array (counted_type items b.0) (Written e)) in
      by_place (subst (λ (all : List RawExpr). Contains all a) there c)
    where
      by_place : Contains (e ∷ lengths_in (counted_type items b.0)) a → (v : _) × (value_of_constant a ≡ Some v)
      by_place (zero, within, is) = h a (0, omega arith, is)
      by_place (suc i, within, is) = b.1 (valued_later e (lengths_in b.0) h) a (i, omega (arith, within), is)
  counted_layer (RawType-F.Array b Listed) h a c =
      let n = r.Constant (decimal items) in
      let there = ap lengths_in (sym (type.rolls-Array (counted_type items b.0) (Written n))) ∙ fold-roll-RawType (List RawExpr) lengths_step (RawType-F.Array (counted_type items b.0) (Written n)) in
      by_place (subst (λ (all : List RawExpr). Contains all a) there c)
    where
      by_place : Contains (r.Constant (decimal items) ∷ lengths_in (counted_type items b.0)) a → (v : _) × (value_of_constant a ≡ Some v)
      by_place (zero, within, is) = (_, ap value_of_constant (sym is) ∙ constant_value_of (decimal items))
      by_place (suc i, within, is) = b.1 h a (i, omega (arith, within), is)

  -- the lengths of a type with the number of a list's items in them have values, too
  pub counted_valued : (a : RawType) → Valued a
  counted_valued = of_every_type Valued (λ y h.
      subst (λ (b : RawType). AllValued (lengths_in b)) (sym (fold-roll-RawType RawType (counted_type_step items) (type_layer Valued y)))
      (counted_layer y (subst AllValued (fold-roll-RawType (List RawExpr) lengths_step (type_layer Valued y)) h)))

-- ---- lengths that no list gives

abbrev Written_out : RawType → Type 0
Written_out a = (x : Extent) → takes_list x ≡ false → reaches a x ≡ true → is_written a ≡ true

layer_written : (y : TypeParts Written_out) (x : Extent) → takes_list x ≡ false → reaches_step (map-RawType RawType (Extent → Bool) reaches (type_layer Written_out y)) x ≡ true
    → written_step (map-RawType RawType Bool is_written (type_layer Written_out y)) ≡ true
layer_written (RawType-F.Integer t) x out h = refl
layer_written (RawType-F.Struct tag) x out h = refl
layer_written (RawType-F.PointerTo a) x out h = a.1 Extent.starred refl (and_parts _ _ h).1
layer_written (RawType-F.Array a (Written e)) x out h = a.1 Extent.sized refl (and_parts _ _ (and_parts _ _ h).1).0
layer_written (RawType-F.Array a Listed) x out h = false_true (sym out ∙ (and_parts (takes_list x) _ h).0)

-- a type whose first length isn't left to a list leaves none to it
pub written_out : (a : RawType) → Written_out a
written_out = of_every_type Written_out (λ y x out h.
    fold-roll-RawType Bool written_step (type_layer Written_out y) ∙ layer_written y x out (ap (λ (f : Extent → Bool). f x) (sym (fold-roll-RawType (Extent → Bool) reaches_step (type_layer Written_out y))) ∙ h))
