-- What an expression of a program gives in a state is what is said of it, where it is an operand of the rules.
use Rattle.std.proofs.Common.{◌≡◌, ℕ, ◌==◌, List, [], ◌∷◌, Option, Some, None, Bool, true, false, ◌&&◌, ◌||◌, ◌⊎◌, inl, inr, refl, sym, ap, ap₂, ◌∙◌, subst, eqb-true}
use Rattle.std.specs.Prelude.{not, option_map, option_and_then, is_some, slice_get, if◌then◌else◌}
use Rattle.std.specs.Option.{option_or}
use Rattle.std.proofs.lemmas.Bool.{false≢true, and_parts, or_cases}
use Rattle.c_arith.specs.declared.int_type.IntType.{IntType}
use Rattle.c_arith.specs.IntType.{common}
use Rattle.c_language.proofs.Options.{none_there, some_same, map_there, then_there, both_there}
use Rattle.c_language.proofs.Tests.{by_test}
use Rattle.c_tree.specs.declared.expr.Expr.{Expr, map-Expr, roll-Expr, fold-roll-Expr}
use Rattle.c_tree.specs.declared.expr.Expr.TheOpen.{Expr-F}
use Rattle.c_tree.specs.declared.expr.MemberId.{MemberId}
use Rattle.c_tree.specs.declared.program.Member.{Member}
use Rattle.c_tree.specs.declared.program.Program.{Program}
use Rattle.c_tree.proofs.Trees.{ExprParts, expr_layer, of_every_expr}
use Rattle.c_language.specs.DeclaredTypes.{integer, of_base}
use Rattle.c_language.specs.declared.expr_type.Base.{Base}
use Rattle.c_language.specs.declared.expr_type.Base.TheVariants as base
use Rattle.c_language.specs.declared.expr_type.Layer.{Layer}
use Rattle.c_language.specs.declared.expr_type.ExprType.{ExprType}
use Rattle.c_language.specs.declared.expr_type.Operand.{Operand}
use Rattle.c_language.specs.ExprTypes.{a_place, a_value, given, value_type, integer_of, is_integer, is_pointer, is_scalar, is_array, is_void, target_of, object_of, is_object_pointer, struct_in, struct_of, same_type, are_alike, common_result, chosen_result, choose_result, unary_result, binary_result, logical_result, cast_result, pointed, indexed, address_result}
use Rattle.c_language.specs.TreeTypes.{shape_of, members_of, typing_of, tree_type_step, tree_type}
use Rattle.c_meaning.specs.Values.{Types, State, owner_of}
use Rattle.dep_model.specs.Denoted.{TargetsOf, Denoted, denoted_step, denoted}
use Rattle.dep_model.specs.Designated.{Designated, is_array_place}
use Rattle.dep_model.specs.LocationLists.{AreStructsInOrder}
use Rattle.run_facts.specs.DenotedCells.{IsDenoted}
use Rattle.run_facts.specs.ReadCells.{Watched, watched_step, watched}
use Rattle.run_facts.specs.TypedStates.{IsTypedState}
use Rattle.run_facts.proofs.TypeTests.{type_is}
use Rattle.run_facts.proofs.ObjectForms.{name_denoted, target_denoted, arrow_denoted}
use Rattle.run_facts.proofs.IndexForms.{element_denoted}
use Rattle.run_facts.proofs.MemberForms.{member_denoted, parentheses_denoted}
use Rattle.run_facts.proofs.ValueForms.{constant_denoted, null_denoted, eof_denoted, address_denoted, unary_denoted, cast_denoted, and_denoted}
use Rattle.run_facts.proofs.BinaryForms.{binary_denoted}
use Rattle.run_facts.proofs.ChooseForms.{IsChosen, choose_denoted, or_denoted}
use Rattle.typed_programs.specs.TreeOperands.{Declarations, declarations, variable_shape, member_within, selected, tree_operand_step, operand_of, tree_operand}

-- ---- what is made of operands

pub record OfOne (g : Operand → Option ExprType) (f : ExprType → Operand) (o : Option Operand) (x : Operand) : Type 0 where
  pub first : Operand
  pub first_is : o ≡ Some first
  pub type : ExprType
  pub type_is : g first ≡ Some type
  pub same : f type ≡ x

pub of_one : (g : Operand → Option ExprType) (f : ExprType → Operand) (o : Option Operand) (x : Operand) → option_map f (option_and_then g o) ≡ Some x → OfOne g f o x
of_one g f o x e =
    let k = map_there f (option_and_then g o) x e in
    let m = then_there g o k.value k.there in
    record { first = m.value; first_is = m.there; type = k.value; type_is = m.same; same = k.same }

pub record OfTwo (g : Operand → Operand → Option ExprType) (f : ExprType → Operand) (o q : Option Operand) (x : Operand) : Type 0 where
  pub first : Operand
  pub first_is : o ≡ Some first
  pub second : Operand
  pub second_is : q ≡ Some second
  pub type : ExprType
  pub type_is : g first second ≡ Some type
  pub same : f type ≡ x

pub of_two : (g : Operand → Operand → Option ExprType) (f : ExprType → Operand) (o q : Option Operand) (x : Operand) → option_map f (option_and_then (λ (y : Operand). option_and_then (g y) q) o) ≡ Some x → OfTwo g f o q x
of_two g f o q x e =
    let k = of_one (λ (y : Operand). option_and_then (g y) q) f o x e in
    let m = then_there (g k.first) q k.type k.type_is in
    record { first = k.first; first_is = k.first_is; second = m.value; second_is = m.there; type = k.type; type_is = m.same; same = k.same }

-- ---- what the rules say of types

pub given_true : (b : Bool) (t u : ExprType) → given b t ≡ Some u → (b ≡ true) × (t ≡ u)
given_true true t u e = (refl, some_same e)
given_true false t u e = none_there e

not_false : (b : Bool) → not b ≡ true → b ≡ false
not_false true h = absurd (false≢true h)
not_false false h = refl

-- a pointer to an object is a pointer, to that object
pub object_target : (t u : ExprType) → object_of t ≡ Some u → target_of t ≡ Some u
object_target t u e =
    let k = then_there (λ (o : ExprType). if is_void o then None else Some o) (target_of t) u e in
    k.there ∙ by_test (is_void k.value) k.same (λ is none. none_there none) (λ is same. same)

pub pointer_of : (t u : ExprType) → target_of t ≡ Some u → is_pointer t ≡ true
pointer_of t u e = ap is_some e

pub object_pointer : (t : ExprType) (o : Option ExprType) → object_of t ≡ o → is_some o ≡ true → is_pointer t ≡ true
object_pointer t None e h = absurd (false≢true h)
object_pointer t (Some u) e h = pointer_of t u (object_target t u e)

no_pointer_in : (ls : List Layer) (b : Base) → is_integer (record { layers = ls; base = b }) ≡ true → is_pointer (value_type (record { layers = ls; base = b })) ≡ false
no_pointer_in [] b h = refl
no_pointer_in (l ∷ ls) b h = absurd (false≢true h)

pub no_pointer : (t : ExprType) → is_integer t ≡ true → is_pointer (value_type t) ≡ false
no_pointer t h = no_pointer_in t.layers t.base h

struct_base : (ls : List Layer) (b : Base) (s : ℕ) → struct_in ls b ≡ Some s → ◌≡◌ {A = ExprType} (record { layers = ls; base = b }) (of_base (base.Struct s))
struct_base [] (base.Struct n) s e = ap (λ (k : ℕ). of_base (base.Struct k)) (some_same e)
struct_base [] (base.Integer t) s e = none_there e
struct_base [] base.Void s e = none_there e
struct_base (l ∷ ls) b s e = none_there e

pub or_there : (a b : Option ExprType) (t : ExprType) → option_or a b ≡ Some t → (a ≡ Some t) ⊎ (b ≡ Some t)
or_there None b t e = inr e
or_there (Some u) b t e = inl e

-- a member that is selected from a struct
pub record IsSelected (p : Program) (m : MemberId) (t : ExprType) : Type 0 where
  pub struct_is : t ≡ owner_of m
  pub member : Member
  pub member_is : slice_get (members_of p m.owner) m.index ≡ Some member

pub selected_member : (p : Program) (m : MemberId) (t u : ExprType) → selected (declarations p) m t ≡ Some u → IsSelected p m t
selected_member p m t u e =
    let s = then_there (member_within (declarations p) m) (struct_of t) u e in
    by_test (s.value == m.owner) s.same
    (λ is there.
    let k = map_there (λ (x : Member). shape_of x.shape) (slice_get (members_of p m.owner) m.index) u there in
    record { struct_is = struct_base t.layers t.base s.value s.there ∙ ap (λ (n : ℕ). of_base (base.Struct n)) (eqb-true s.value m.owner is); member = k.value; member_is = k.there })
    (λ is none. none_there none)

-- what one of two operands is: the whole is an integer or a pointer; an operand stands for a null pointer, or has the type of the whole
-- where it is a pointer
pub record IsChoice (y z : Operand) (t : ExprType) : Type 0 where
  pub scalar : (is_integer t ≡ true) ⊎ (is_pointer t ≡ true)
  pub first : (y.is_null ≡ true) ⊎ (is_pointer (value_type y.shape) ≡ true → value_type y.shape ≡ t)
  pub second : (z.is_null ≡ true) ⊎ (is_pointer (value_type z.shape) ≡ true → value_type z.shape ≡ t)

true_false : {A : Type 0} → ◌≡◌ {A = Bool} true false → A
true_false e = absurd (false≢true (sym e))

module _ (y z : Operand) (t : ExprType) where
  abbrev vy : ExprType
  vy = value_type y.shape

  abbrev vz : ExprType
  vz = value_type z.shape

  of_integers : common_result y.shape z.shape ≡ Some t → IsChoice y z t
  of_integers e =
      let k = both_there (λ (i j : IntType). integer (common i j)) (integer_of y.shape) (integer_of z.shape) t e in
      record {
        scalar = inl (subst (λ (u : ExprType). is_integer u ≡ true) k.same refl);
        first = inr (λ is. true_false (sym is ∙ no_pointer y.shape (ap is_some k.left_there)));
        second = inr (λ is. true_false (sym is ∙ no_pointer z.shape (ap is_some k.right_there)));
      }

  of_first : given (are_alike vy vz || (is_object_pointer vy && z.is_null)) vy ≡ Some t → IsChoice y z t
  of_first e =
      let k = given_true (are_alike vy vz || (is_object_pointer vy && z.is_null)) vy t e in
      elim (or_cases (are_alike vy vz) (is_object_pointer vy && z.is_null) k.0) [
        | inl h ↦ let b = and_parts (is_object_pointer vy) (same_type vy vz) h in record { scalar = inr (subst (λ (u : ExprType). is_pointer u ≡ true) k.1 (object_pointer vy (object_of vy) refl b.0)); first = inr (λ is. k.1); second = inr (λ is. sym (type_is vy vz b.1) ∙ k.1) }
        | inr h ↦ let b = and_parts (is_object_pointer vy) z.is_null h in record { scalar = inr (subst (λ (u : ExprType). is_pointer u ≡ true) k.1 (object_pointer vy (object_of vy) refl b.0)); first = inr (λ is. k.1); second = inl b.1 }
      ]

  of_second : given (is_object_pointer vz && y.is_null) vz ≡ Some t → IsChoice y z t
  of_second e =
      let k = given_true (is_object_pointer vz && y.is_null) vz t e in
      let b = and_parts (is_object_pointer vz) y.is_null k.0 in
      record { scalar = inr (subst (λ (u : ExprType). is_pointer u ≡ true) k.1 (object_pointer vz (object_of vz) refl b.0)); first = inl b.1; second = inr (λ is. k.1) }

  pub choice : chosen_result y z ≡ Some t → IsChoice y z t
  choice e =
      elim (or_there (common_result y.shape z.shape) (option_or (given (are_alike vy vz || (is_object_pointer vy && z.is_null)) vy) (given (is_object_pointer vz && y.is_null) vz)) t e) [
        | inl h ↦ of_integers h
        | inr h ↦ elim (or_there (given (are_alike vy vz || (is_object_pointer vy && z.is_null)) vy) (given (is_object_pointer vz && y.is_null) vz) t h) [ inl k ↦ of_first k | inr k ↦ of_second k ]
      ]

-- ---- types of what is denoted

module _ (p : Program) (points : TargetsOf) where
  abbrev den : Expr → Denoted
  den = denoted p points

  abbrev HasType : Expr → Type 0
  HasType a = (den a).form.type ≡ tree_type p a

  form_either : (b : Bool) (d e : Designated) (t : ExprType) → d.type ≡ t → e.type ≡ t → (if b then d else e).type ≡ t
  form_either true d e t h k = h
  form_either false d e t h k = k

  type_either : (b : Bool) (d e : Denoted) (t : ExprType) → d.form.type ≡ t → e.form.type ≡ t → (if b then d else e).form.type ≡ t
  type_either true d e t h k = h
  type_either false d e t h k = k

  abbrev step : Expr-F ExprType → ExprType
  step = tree_type_step p

  layer_type : (y : ExprParts HasType) → (denoted_step p points (map-Expr Expr Denoted den (expr_layer HasType y))).form.type ≡ step (map-Expr Expr ExprType (tree_type p) (expr_layer HasType y))
  layer_type (Expr-F.Constant t k v) = refl
  layer_type Expr-F.Null = refl
  layer_type Expr-F.Eof = refl
  layer_type (Expr-F.Variable x) = refl
  layer_type (Expr-F.Unary op a) = ap (λ t. step (Expr-F.Unary op t)) a.1
  layer_type (Expr-F.Deref a) = ap (λ t. step (Expr-F.Deref t)) a.1
  layer_type (Expr-F.AddressOf a) = ap (λ t. step (Expr-F.AddressOf t)) a.1
  layer_type (Expr-F.Binary op a b) = ap₂ (λ s t. step (Expr-F.Binary op s t)) a.1 b.1
  layer_type (Expr-F.AndAlso a b) = refl
  layer_type (Expr-F.OrElse a b) = refl
  layer_type (Expr-F.Choose c a b) = ap₂ (λ s t. step (Expr-F.Choose (tree_type p c.0) s t)) a.1 b.1
  layer_type (Expr-F.Cast k a) = refl
  layer_type (Expr-F.Index a i) =
      let b = is_array_place (den a.0).form in
      type_either b _ _ (step (Expr-F.Index (den a.0).form.type (tree_type p i.0))) (form_either b _ _ _ refl refl) (form_either b _ _ _ refl refl) ∙ ap (λ t. step (Expr-F.Index t (tree_type p i.0))) a.1
  layer_type (Expr-F.Member a m) = refl
  layer_type (Expr-F.Arrow a m) = refl
  layer_type (Expr-F.Paren a) = a.1

  pub has_type : (a : Expr) → HasType a
  has_type = of_every_expr HasType (λ y. ap (λ (d : Denoted). d.form.type) (fold-roll-Expr Denoted (denoted_step p points) (expr_layer HasType y)) ∙ layer_type y ∙ sym (fold-roll-Expr ExprType step (expr_layer HasType y)))

-- ---- all forms

-- the type of an expression that is an operand is the operand's
abbrev pub AreShapes : Program → Type 0
AreShapes p = (e : Expr) (x : Operand) → tree_operand p e ≡ Some x → tree_type p e ≡ x.shape

module _ (p : Program) (order : AreStructsInOrder p) (points : TargetsOf) (s : State) (typed : IsTypedState p points s) (result : Option ExprType) (shapes : AreShapes p) where
  abbrev types : Types
  types = record { typing = typing_of p; result = result }

  abbrev of : Expr → Denoted
  of = denoted p points

  abbrev seen : Expr → Watched
  seen = watched types

  abbrev d : Declarations
  d = declarations p

  abbrev pub Denotes : Expr → Type 0
  Denotes e = (x : Operand) → tree_operand p e ≡ Some x → IsDenoted p s points x.is_null (of e) (seen e)

  -- the type of a part is its operand's
  shape : (e : Expr) (x : Operand) → tree_operand p e ≡ Some x → (of e).form.type ≡ x.shape
  shape e x h = has_type p points e ∙ shapes e x h

  abbrev layer : ExprParts Denotes → Expr-F Expr
  layer = expr_layer Denotes

  abbrev LayerDenotes : Bool → Expr-F Expr → Type 0
  LayerDenotes n z = IsDenoted p s points n (denoted_step p points (map-Expr Expr Denoted of z)) (watched_step types (map-Expr Expr Watched seen z))

  -- what stands for no null pointer
  other : (z : Expr-F Expr) (x : Operand) → false ≡ x.is_null → LayerDenotes false z → LayerDenotes x.is_null z
  other z x same h = subst (λ n. LayerDenotes n z) same h

  -- a pointer, by what the rules see of it
  is_address : (e : Expr) (x : Operand) (t : ExprType) → tree_operand p e ≡ Some x → pointed x ≡ Some t → target_of (value_type (of e).form.type) ≡ Some t
  is_address e x t h k = ap (λ u. target_of (value_type u)) (shape e x h) ∙ object_target (value_type x.shape) t k

  abbrev IsOperand : Expr-F Expr → Operand → Type 0
  IsOperand z x = tree_operand_step d (map-Expr Expr (Option Operand) (operand_of d) z) ≡ Some x

  chosen : (c a b : (e : Expr) × Denotes e) (x : Operand) → IsOperand (layer (Expr-F.Choose c a b)) x → (denoted_step p points (map-Expr Expr Denoted of (layer (Expr-F.Choose c a b)))).form.type ≡ x.shape → LayerDenotes x.is_null (layer (Expr-F.Choose c a b))
  chosen c a b x e whole =
      let k = of_one (λ (u : Operand). option_and_then (λ (y : Operand). option_and_then (choose_result u y) (operand_of d b.0)) (operand_of d a.0)) a_value (operand_of d c.0) x e in
      let ka = then_there (λ (y : Operand). option_and_then (choose_result k.first y) (operand_of d b.0)) (operand_of d a.0) k.type k.type_is in
      let kb = then_there (choose_result k.first ka.value) (operand_of d b.0) k.type ka.same in
      let y = ka.value in
      let z = kb.value in
      let r = then_there (λ (t : ExprType). given (is_scalar (value_type k.first.shape)) t) (chosen_result y z) k.type kb.same in
      let type : r.value ≡ x.shape = (given_true (is_scalar (value_type k.first.shape)) r.value k.type r.same).1 ∙ ap (λ (o : Operand). o.shape) k.same in
      let t = (denoted_step p points (map-Expr Expr Denoted of (layer (Expr-F.Choose c a b)))).form.type in
      let w = subst (IsChoice y z) (type ∙ sym whole) (choice y z r.value r.there) in
      let ga = c.1 k.first k.first_is in
      let ha = a.1 y ka.there in
      let hb = b.1 z kb.there in
      let sa = shape a.0 y ka.there in
      let sb = shape b.0 z kb.there in
      let is : IsChosen p points s (of c.0) (of a.0) (of b.0) (seen c.0) (seen a.0) (seen b.0) k.first.is_null y.is_null z.is_null ga ha hb = record {
        scalar = w.scalar;
        first = λ q v pointer. elim w.first [ inl null ↦ absurd (ha.null null q v) | inr same ↦ ap value_type sa ∙ same (sym (ap (λ u. is_pointer (value_type u)) sa) ∙ pointer) ];
        second = λ q v pointer. elim w.second [ inl null ↦ absurd (hb.null null q v) | inr same ↦ ap value_type sb ∙ same (sym (ap (λ u. is_pointer (value_type u)) sb) ∙ pointer) ];
      } in
      other (layer (Expr-F.Choose c a b)) x (ap (λ (o : Operand). o.is_null) k.same) (choose_denoted p points s (of c.0) (of a.0) (of b.0) (seen c.0) (seen a.0) (seen b.0) k.first.is_null y.is_null z.is_null ga ha hb types is)

  layer_denotes : (y : ExprParts Denotes) (x : Operand) → IsOperand (layer y) x → (denoted_step p points (map-Expr Expr Denoted of (layer y))).form.type ≡ x.shape → LayerDenotes x.is_null (layer y)
  layer_denotes (Expr-F.Constant text k v) x e whole = constant_denoted p points s types x.is_null text k v
  layer_denotes Expr-F.Null x e whole = null_denoted p points s types x.is_null
  layer_denotes Expr-F.Eof x e whole = other (layer Expr-F.Eof) x (ap (λ (o : Operand). o.is_null) (some_same e)) (eof_denoted p points s types)
  layer_denotes (Expr-F.Variable y) x e whole =
      let k = map_there a_place (variable_shape d y) x e in
      other (layer (Expr-F.Variable y)) x (ap (λ (o : Operand). o.is_null) k.same) (name_denoted p order points s typed result y)
  layer_denotes (Expr-F.Unary op a) x e whole =
      let k = of_one (λ (y : Operand). unary_result op (value_type y.shape)) a_value (operand_of d a.0) x e in
      other (layer (Expr-F.Unary op a)) x (ap (λ (o : Operand). o.is_null) k.same) (unary_denoted p points s (of a.0) (seen a.0) k.first.is_null (a.1 k.first k.first_is) types op)
  layer_denotes (Expr-F.Deref a) x e whole =
      let k = of_one pointed a_place (operand_of d a.0) x e in
      other (layer (Expr-F.Deref a)) x (ap (λ (o : Operand). o.is_null) k.same) (target_denoted p order points s typed (of a.0) (seen a.0) k.first.is_null (a.1 k.first k.first_is) types (pointer_of (value_type (of a.0).form.type) k.type (is_address a.0 k.first k.type k.first_is k.type_is)))
  layer_denotes (Expr-F.AddressOf a) x e whole =
      let k = of_one address_result a_value (operand_of d a.0) x e in
      let g = given_true (k.first.is_place && not (is_array k.first.shape)) _ k.type k.type_is in
      let array = ap is_array (shape a.0 k.first k.first_is) ∙ not_false (is_array k.first.shape) (and_parts k.first.is_place (not (is_array k.first.shape)) g.0).1 in
      other (layer (Expr-F.AddressOf a)) x (ap (λ (o : Operand). o.is_null) k.same) (address_denoted p points s (of a.0) (seen a.0) k.first.is_null (a.1 k.first k.first_is) types array)
  layer_denotes (Expr-F.Binary op a b) x e whole =
      let k = of_two (binary_result op) a_value (operand_of d a.0) (operand_of d b.0) x e in
      other (layer (Expr-F.Binary op a b)) x (ap (λ (o : Operand). o.is_null) k.same) (binary_denoted p points s (of a.0) (of b.0) (seen a.0) (seen b.0) k.first.is_null k.second.is_null (a.1 k.first k.first_is) (b.1 k.second k.second_is) types op)
  layer_denotes (Expr-F.AndAlso a b) x e whole =
      let k = of_two logical_result a_value (operand_of d a.0) (operand_of d b.0) x e in
      other (layer (Expr-F.AndAlso a b)) x (ap (λ (o : Operand). o.is_null) k.same) (and_denoted p points s (of a.0) (of b.0) (seen a.0) (seen b.0) k.first.is_null k.second.is_null (a.1 k.first k.first_is) (b.1 k.second k.second_is) types)
  layer_denotes (Expr-F.OrElse a b) x e whole =
      let k = of_two logical_result a_value (operand_of d a.0) (operand_of d b.0) x e in
      other (layer (Expr-F.OrElse a b)) x (ap (λ (o : Operand). o.is_null) k.same) (or_denoted p points s (of a.0) (of b.0) (seen a.0) (seen b.0) k.first.is_null k.second.is_null (a.1 k.first k.first_is) (b.1 k.second k.second_is) types)
  layer_denotes (Expr-F.Choose c a b) x e whole = chosen c a b x e whole
  layer_denotes (Expr-F.Cast t a) x e whole =
      let k = of_one (cast_result t) a_value (operand_of d a.0) x e in
      other (layer (Expr-F.Cast t a)) x (ap (λ (o : Operand). o.is_null) k.same) (cast_denoted p points s (of a.0) (seen a.0) k.first.is_null (a.1 k.first k.first_is) types t)
  layer_denotes (Expr-F.Index a i) x e whole =
      let k = of_two indexed a_place (operand_of d a.0) (operand_of d i.0) x e in
      let t = then_there (λ (u : ExprType). given (is_integer k.second.shape) u) (pointed k.first) k.type k.type_is in
      let number = (given_true (is_integer k.second.shape) t.value k.type t.same).0 in
      let left = pointer_of (value_type (of a.0).form.type) t.value (is_address a.0 k.first t.value k.first_is t.there) in
      let right = ap (λ u. is_pointer (value_type u)) (shape i.0 k.second k.second_is) ∙ no_pointer k.second.shape number in
      other (layer (Expr-F.Index a i)) x (ap (λ (o : Operand). o.is_null) k.same)
      (element_denoted p order points s typed (of a.0) (of i.0) (seen a.0) (seen i.0) k.first.is_null k.second.is_null (a.1 k.first k.first_is) (i.1 k.second k.second_is) types (record { left = left; right = right }))
  layer_denotes (Expr-F.Member a m) x e whole =
      let k = of_one (λ (y : Operand). selected d m y.shape) a_place (operand_of d a.0) x e in
      let g = selected_member p m k.first.shape k.type k.type_is in
      other (layer (Expr-F.Member a m)) x (ap (λ (o : Operand). o.is_null) k.same)
      (member_denoted p order points s typed (of a.0) (seen a.0) k.first.is_null (a.1 k.first k.first_is) m g.member g.member_is (shape a.0 k.first k.first_is ∙ g.struct_is) result)
  layer_denotes (Expr-F.Arrow a m) x e whole =
      let k = of_one (λ (y : Operand). option_and_then (selected d m) (pointed y)) a_place (operand_of d a.0) x e in
      let t = then_there (selected d m) (pointed k.first) k.type k.type_is in
      let g = selected_member p m t.value k.type t.same in
      other (layer (Expr-F.Arrow a m)) x (ap (λ (o : Operand). o.is_null) k.same)
      (arrow_denoted p order points s typed (of a.0) (seen a.0) k.first.is_null (a.1 k.first k.first_is) m g.member g.member_is result (is_address a.0 k.first t.value k.first_is t.there ∙ ap Some g.struct_is))
  layer_denotes (Expr-F.Paren a) x e whole = parentheses_denoted p order points s typed (of a.0) (seen a.0) x.is_null (a.1 x e) types

  rolled : (y : ExprParts Denotes) → Denotes (roll-Expr (layer y))
  rolled y x h =
      let z = layer y in
      let e : IsOperand z x = sym (fold-roll-Expr (Option Operand) (tree_operand_step d) z) ∙ h in
      let whole = sym (ap (λ (k : Denoted). k.form.type) (fold-roll-Expr Denoted (denoted_step p points) z)) ∙ shape (roll-Expr z) x h in
      subst (λ (k : Denoted). IsDenoted p s points x.is_null k (seen (roll-Expr z))) (sym (fold-roll-Expr Denoted (denoted_step p points) z))
      (subst (λ (k : Watched). IsDenoted p s points x.is_null (denoted_step p points (map-Expr Expr Denoted of z)) k) (sym (fold-roll-Expr Watched (watched_step types) z)) (layer_denotes y x e whole))

  -- in a typed state each expression that is an operand gives what is said of it
  pub expr_denoted : (e : Expr) → Denotes e
  expr_denoted = of_every_expr Denotes rolled
