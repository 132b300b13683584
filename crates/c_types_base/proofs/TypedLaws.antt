-- Where all that is in scope has a type, a judgement that tells no operand names a rule.
use Rattle.std.proofs.Common.{◌≡◌, ℕ, ◌<◌, Bool, true, false, Option, Some, None, Result, Ok, Err, refl, sym, subst, arith}
use Rattle.std.specs.Prelude.{◌&&◌, ◌||◌, not, nat_lt, is_some, is_none, if◌then◌else◌, option_map, option_and_then}
use Rattle.std.proofs.lemmas.Bool.{ltb-true}
use Rattle.c_tree.specs.declared.raw.expr.RawExpr.{RawExpr, map-RawExpr, ind-RawExpr, roll-RawExpr, fold-roll-RawExpr}
use Rattle.c_tree.specs.declared.raw.expr.RawExpr.TheOpen.{RawExpr-F}
use Rattle.c_tree.specs.declared.raw.program.RawMember.{RawMember}
use Rattle.c_tree.specs.declared.raw.program.RawProgram.{RawProgram}
use Rattle.c_tree.proofs.RawTrees.{expr_layer, ExprParts}
use Rattle.c_language.specs.Words.{Bytes}
use Rattle.c_language.specs.DeclaredTypes.{written_type}
use Rattle.c_language.specs.Scopes.{Scope, Meaning, meaning_in}
use Rattle.c_language.specs.ExprTypes.{a_place, a_value, given, variable_in, struct_of, member_of, pointed}
use Rattle.c_language.specs.ExprRules.{Seen, fails, is_function}
use Rattle.c_language.specs.declared.expr_type.ExprType.{ExprType}
use Rattle.c_language.specs.declared.expr_type.Operand.{Operand}
use Rattle.c_types_base.specs.Judging.{fault_or, judge_seen, then_judge, with_one, with_two, with_three, judge_step, judged, member_or, selected_of}
use Rattle.c_types_base.proofs.MemberLaws.{member_judged, arrow_judged, selected_from}

-- each variable in scope has a type, and so has each member of a complete struct type
pub record IsTyped (raw : RawProgram) (scope : Scope) : Type 0 where
  pub variables : (name : Bytes) (id : ℕ) → meaning_in scope name ≡ Some (Meaning.Variable id None) → ⊥
  pub members : (s : ℕ) (name : Bytes) (m : RawMember) → s < scope.structs → member_of raw s name ≡ Some m → written_type raw m.shape ≡ None → ⊥

-- a fault is the number of a rule
abbrev pub NamesRule : Result Operand ℕ → Type 0
NamesRule (Ok x) = Unit {0}
NamesRule (Err n) = 0 < n

plain : (r : Option ExprType) (f : ExprType → Operand) → NamesRule (fault_or (if fails (Some r) then Some 12 else None) (option_map f r))
plain None f = omega arith
plain (Some t) f = tt

sized : (r : Option ExprType) (b : Bool) (f : ExprType → Operand)
    → NamesRule (fault_or (if fails (Some r) then Some 12 else (if b then Some 7 else None)) (option_map f r))
sized None b f = omega arith
sized (Some t) true f = omega arith
sized (Some t) false f = tt

addressed : (is_place is_array : Bool) (t : ExprType)
    → NamesRule (fault_or (if not is_place || is_array then Some 15 else None) (option_map a_value (given (is_place && not is_array) t)))
addressed true true t = omega arith
addressed true false t = tt
addressed false a t = omega arith

headed : (b : Bool) (x : Operand) → NamesRule (fault_or (if b then Some 24 else None) (Some x))
headed true x = omega arith
headed false x = tt

module _ (raw : RawProgram) (scope : Scope) (typed : IsTyped raw scope) where
  named : (name : Bytes) (m : Option Meaning) → meaning_in scope name ≡ m
      → NamesRule (fault_or (if is_none m then Some 1 else (if is_function m then Some 12 else None)) (variable_in m))
  named name None is = omega arith
  named name (Some Meaning.Function) is = omega arith
  named name (Some (Meaning.Variable id None)) is = absurd (typed.variables name id is)
  named name (Some (Meaning.Variable id (Some t))) is = tt

  of_type : (s : ℕ) (name : Bytes) (m : RawMember) → s < scope.structs → member_of raw s name ≡ Some m
      → (t : Option ExprType) → written_type raw m.shape ≡ t → NamesRule (member_or true t)
  of_type s name m within is None isnt = absurd (typed.members s name m within is isnt)
  of_type s name m within is (Some t) gives = tt

  in_struct : (s : ℕ) (name : Bytes) (b : Bool) → nat_lt s scope.structs ≡ b → (m : Option RawMember) → member_of raw s name ≡ m
      → NamesRule (if b then member_or (is_some m) (if b then option_and_then (λ (x : RawMember). written_type raw x.shape) m else None) else Err 7)
  in_struct s name false isnt m is = omega arith
  in_struct s name true within None is = omega arith
  in_struct s name true within (Some m) is = of_type s name m (ltb-true s scope.structs within) is (written_type raw m.shape) refl

  of_struct : (name : Bytes) (s : Option ℕ) → NamesRule (selected_of raw scope name s)
  of_struct name None = omega arith
  of_struct name (Some s) = in_struct s name (nat_lt s scope.structs) refl (member_of raw s name) refl

  of_pointed : (name : Bytes) (t : Option ExprType) → NamesRule (selected_from raw scope name t)
  of_pointed name None = omega arith
  of_pointed name (Some t) = of_struct name (struct_of t)

  one : (form : Option Operand → Seen) (r : Result Operand ℕ) → NamesRule r → ((x : Operand) → NamesRule (judge_seen raw scope (form (Some x))))
      → NamesRule (then_judge (judge_seen raw scope) (with_one form r))
  one form (Ok x) h go = go x
  one form (Err n) h go = h

  two : (form : Option Operand → Option Operand → Seen) (r q : Result Operand ℕ) → NamesRule r → NamesRule q
      → ((x y : Operand) → NamesRule (judge_seen raw scope (form (Some x) (Some y)))) → NamesRule (then_judge (judge_seen raw scope) (with_two form r q))
  two form (Ok x) q h k go = one (form (Some x)) q k (go x)
  two form (Err n) q h k go = h

  three : (form : Option Operand → Option Operand → Option Operand → Seen) (p r q : Result Operand ℕ) → NamesRule p → NamesRule r → NamesRule q
      → ((x y z : Operand) → NamesRule (judge_seen raw scope (form (Some x) (Some y) (Some z))))
      → NamesRule (then_judge (judge_seen raw scope) (with_three form p r q))
  three form (Ok x) r q g h k go = two (form (Some x)) r q h k (go x)
  three form (Err n) r q g h k go = g

  abbrev IsNamed : RawExpr → Type 0
  IsNamed e = NamesRule (judged raw scope e)

  abbrev layer_of : ExprParts IsNamed → RawExpr-F RawExpr
  layer_of = expr_layer IsNamed

  layered : (y : ExprParts IsNamed) → NamesRule (judge_step raw scope (map-RawExpr RawExpr (Result Operand ℕ) (judged raw scope) (layer_of y)))
  layered (RawExpr-F.Constant text) = tt
  layered RawExpr-F.Null = headed _ _
  layered RawExpr-F.Eof = headed _ _
  layered (RawExpr-F.Variable name) = named name (meaning_in scope name) refl
  layered (RawExpr-F.Unary op a) = one (RawExpr-F.Unary op) (judged raw scope a.0) a.1 (λ x. plain _ a_value)
  layered (RawExpr-F.Deref a) = one RawExpr-F.Deref (judged raw scope a.0) a.1 (λ x. plain (pointed x) a_place)
  layered (RawExpr-F.AddressOf a) = one RawExpr-F.AddressOf (judged raw scope a.0) a.1 (λ x. addressed x.is_place _ _)
  layered (RawExpr-F.Binary op a b) = two (RawExpr-F.Binary op) (judged raw scope a.0) (judged raw scope b.0) a.1 b.1 (λ x y. sized _ _ a_value)
  layered (RawExpr-F.AndAlso a b) = two RawExpr-F.AndAlso (judged raw scope a.0) (judged raw scope b.0) a.1 b.1 (λ x y. plain _ a_value)
  layered (RawExpr-F.OrElse a b) = two RawExpr-F.OrElse (judged raw scope a.0) (judged raw scope b.0) a.1 b.1 (λ x y. plain _ a_value)
  layered (RawExpr-F.Choose c a b) =
      three RawExpr-F.Choose (judged raw scope c.0) (judged raw scope a.0) (judged raw scope b.0) c.1 a.1 b.1 (λ x y z. plain _ a_value)
  layered (RawExpr-F.Cast t a) = one (RawExpr-F.Cast t) (judged raw scope a.0) a.1 (λ x. plain _ a_value)
  layered (RawExpr-F.Index a i) = two RawExpr-F.Index (judged raw scope a.0) (judged raw scope i.0) a.1 i.1 (λ x y. sized _ _ a_place)
  layered (RawExpr-F.Member a m) =
      one (λ x. RawExpr-F.Member x m) (judged raw scope a.0) a.1 (λ x. subst NamesRule (sym (member_judged raw scope m x)) (of_struct m (struct_of x.shape)))
  layered (RawExpr-F.Arrow a m) =
      one (λ x. RawExpr-F.Arrow x m) (judged raw scope a.0) a.1 (λ x. subst NamesRule (sym (arrow_judged raw scope m x)) (of_pointed m (pointed x)))
  layered (RawExpr-F.Paren a) = one RawExpr-F.Paren (judged raw scope a.0) a.1 (λ x. tt)

  -- a judgement that tells no operand names a rule
  pub judged_names : (e : RawExpr) → NamesRule (judged raw scope e)
  judged_names =
      ind-RawExpr IsNamed (λ x y is. subst (λ z. IsNamed (roll-RawExpr z)) is
      (subst NamesRule (sym (fold-roll-RawExpr (Result Operand ℕ) (judge_step raw scope) (layer_of y)))
      (layered y)))
