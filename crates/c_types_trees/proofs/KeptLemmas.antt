-- Each expression of a phrase that breaks no rule is an operand, and so is each of its operands.
use Rattle.std.proofs.Common.{◌≡◌, ℕ, ◌+◌, ◌<◌, max, arith, Option, Some, None, Result, Ok, Err, refl, sym, ap, subst, ◌∙◌, inl, inr, true≢false}
use Rattle.std.specs.Prelude.{Contains, is_some, is_none, option_map, option_and_then, if◌then◌else◌}
use Rattle.c_arith.specs.declared.int_type.IntType.{IntType}
use Rattle.c_arith.specs.declared.operators.UnaryOp.{UnaryOp}
use Rattle.c_arith.specs.declared.operators.BinaryOp.{BinaryOp}
use Rattle.c_tree.specs.declared.expr.Expr.{Expr}
use Rattle.c_tree.specs.declared.expr.Expr.TheVariants as tree
use Rattle.c_tree.specs.declared.expr.MemberId.{MemberId}
use Rattle.c_tree.specs.declared.raw.expr.RawExpr.{RawExpr}
use Rattle.c_tree.specs.declared.raw.expr.RawExpr.TheOpen.{RawExpr-F}
use Rattle.c_tree.specs.declared.raw.expr.RawExpr.TheVariants as e
use Rattle.c_tree.specs.declared.raw.program.RawProgram.{RawProgram}
use Rattle.c_language.specs.Rules.{BreaksNone}
use Rattle.c_language.specs.Words.{Bytes}
use Rattle.c_language.specs.ConstantEvaluation.{constant, unary_constant, binary_constant, and_constant, or_constant, chosen_constant, cast_constant}
use Rattle.c_language.specs.ExprRules.{Seen, is_function}
use Rattle.c_language.specs.ExprTypes.{operand, struct_of, pointed, variable_in}
use Rattle.c_language.specs.Nesting.{nesting}
use Rattle.c_language.specs.Phrases.{Part}
use Rattle.c_language.specs.ProgramOf.{member_id, of_operand, of_pointed, variable_number, expr_of}
use Rattle.c_language.specs.Scopes.{Scope, Meaning, meaning_in}
use Rattle.c_language.specs.Uses.{expressions}
use Rattle.c_language.specs.declared.expr_type.ExprType.{ExprType}
use Rattle.c_language.specs.declared.expr_type.Operand.{Operand}
use Rattle.c_language.proofs.ConstantLemmas.{constant-Variable, constant-Unary, constant-Deref, constant-AddressOf, constant-Binary, constant-AndAlso, constant-OrElse, constant-Choose, constant-Cast, constant-Index, constant-Member, constant-Arrow, constant-Paren}
use Rattle.c_types_base.specs.declared.tables.Tables.{Tables}
use Rattle.c_types_base.specs.Judging.{fault_or, judge_seen, then_judge, with_one, with_two, with_three, judged}
use Rattle.c_types_base.specs.Tables.{scope_of, AreRight}
use Rattle.c_types_base.proofs.JudgedLemmas.{judged-Variable, judged-Unary, judged-Deref, judged-AddressOf, judged-Binary, judged-AndAlso, judged-OrElse, judged-Choose, judged-Cast, judged-Index, judged-Member, judged-Arrow, judged-Paren}
use Rattle.c_types_base.proofs.JudgingLaws.{Told, judged_truly}
use Rattle.c_types_base.proofs.MemberLaws.{arrow_judged, selected_from}
use Rattle.c_types_base.proofs.MemberTrees.{member_numbered, select_numbered}
use Rattle.c_types_base.proofs.PhraseLemmas.{broken_by}
use Rattle.c_types_base.proofs.TableLaws.{tables_typed}
use Rattle.c_types_base.proofs.TreeLemmas.{expr_of-Member, expr_of-Arrow}
use Rattle.c_types_base.proofs.TypedLaws.{NamesRule, judged_names}
use Rattle.c_types_trees.specs.KeptPhrases.{IsJudged, IsOperand, IsMeant}
use Rattle.c_language.specs.Options.{IsThere}
use Rattle.c_language.proofs.Options.{there_of_three, there_of_both, there_of_map}

pub judged_value : (r : Result Operand ℕ) → IsJudged r → (x : Operand) × (r ≡ Ok x)
judged_value (Ok x) h = (x, refl)
judged_value (Err n) h = absurd h

-- ---- phrases

-- an expression of a phrase that breaks no rule is an operand
pub kept_operand : (t : Tables) → AreRight t → (part : Part) → BreaksNone t.raw.now (scope_of t) part → (a : RawExpr) → Contains (expressions part) a
    → IsOperand t.raw.now (scope_of t) a
kept_operand t right part kept a c =
    from_told (judged t.raw.now (scope_of t) a) (judged_truly t.raw.now (scope_of t) a) (judged_names t.raw.now (scope_of t) (tables_typed t right) a)
  where
    from_told : (r : Result Operand ℕ) → Told t.raw.now (scope_of t) a r → NamesRule r → IsJudged r
    from_told (Ok x) told names = tt
    from_told (Err n) told names = kept n (broken_by t.raw.now (scope_of t) part a n c told names)

-- ---- operands

one_judged : (f : Seen → Result Operand ℕ) (form : Option Operand → Seen) (r : Result Operand ℕ) → IsJudged (then_judge f (with_one form r)) → IsJudged r
one_judged f form (Ok x) h = tt
one_judged f form (Err n) h = h

two_judged : (f : Seen → Result Operand ℕ) (form : Option Operand → Option Operand → Seen) (r q : Result Operand ℕ) → IsJudged (then_judge f (with_two form r q))
    → IsJudged r × IsJudged q
two_judged f form (Ok x) q h = (tt, one_judged f (form (Some x)) q h)
two_judged f form (Err n) q h = absurd h

three_judged : (f : Seen → Result Operand ℕ) (form : Option Operand → Option Operand → Option Operand → Seen) (p r q : Result Operand ℕ)
    → IsJudged (then_judge f (with_three form p r q)) → IsJudged p × IsJudged r × IsJudged q
three_judged f form (Ok x) r q h = let k = two_judged f (form (Some x)) r q h in (tt, k.0, k.1)
three_judged f form (Err n) r q h = absurd h

-- ---- operands nest less

low_by : (x y a : RawExpr) → nesting a < nesting x → y ≡ a → nesting y < nesting x
low_by x y a h is = subst (λ z. nesting z < nesting x) (sym is) h

pub low_only : (x y a : RawExpr) → nesting x ≡ 1 + nesting a → y ≡ a → nesting y < nesting x
low_only x y a e is = low_by x y a (omega (arith, e)) is

pub low_left : (x y a b : RawExpr) → nesting x ≡ 1 + max (nesting a) (nesting b) → y ≡ a → nesting y < nesting x
low_left x y a b e is = low_by x y a (omega (arith, e)) is

pub low_right : (x y a b : RawExpr) → nesting x ≡ 1 + max (nesting a) (nesting b) → y ≡ b → nesting y < nesting x
low_right x y a b e is = low_by x y b (omega (arith, e)) is

pub low_first : (x y c a b : RawExpr) → nesting x ≡ 1 + max (nesting c) (max (nesting a) (nesting b)) → y ≡ c → nesting y < nesting x
low_first x y c a b e is = low_by x y c (omega (arith, e)) is

pub low_second : (x y c a b : RawExpr) → nesting x ≡ 1 + max (nesting c) (max (nesting a) (nesting b)) → y ≡ a → nesting y < nesting x
low_second x y c a b e is = low_by x y a (omega (arith, e)) is

pub low_third : (x y c a b : RawExpr) → nesting x ≡ 1 + max (nesting c) (max (nesting a) (nesting b)) → y ≡ b → nesting y < nesting x
low_third x y c a b e is = low_by x y b (omega (arith, e)) is

-- ---- the operands of each form

module _ (raw : RawProgram) (scope : Scope) where
  abbrev judge : Seen → Result Operand ℕ
  judge = judge_seen raw scope

  pub of_unary : (op : UnaryOp) (a : RawExpr) → IsMeant raw scope (e.Unary op a) → IsMeant raw scope a
  of_unary op a (inl h) = inl (one_judged judge (RawExpr-F.Unary op) (judged raw scope a) (subst IsJudged (judged-Unary raw scope op a) h))
  of_unary op a (inr h) = inr (there_of_map (unary_constant op) (constant a) (subst IsThere (constant-Unary op a) h))

  pub of_deref : (a : RawExpr) → IsMeant raw scope (e.Deref a) → IsMeant raw scope a
  of_deref a (inl h) = inl (one_judged judge RawExpr-F.Deref (judged raw scope a) (subst IsJudged (judged-Deref raw scope a) h))
  of_deref a (inr h) = absurd (subst IsThere (constant-Deref a) h)

  pub of_address_of : (a : RawExpr) → IsMeant raw scope (e.AddressOf a) → IsMeant raw scope a
  of_address_of a (inl h) = inl (one_judged judge RawExpr-F.AddressOf (judged raw scope a) (subst IsJudged (judged-AddressOf raw scope a) h))
  of_address_of a (inr h) = absurd (subst IsThere (constant-AddressOf a) h)

  pub of_cast : (t : IntType) (a : RawExpr) → IsMeant raw scope (e.Cast t a) → IsMeant raw scope a
  of_cast t a (inl h) = inl (one_judged judge (RawExpr-F.Cast t) (judged raw scope a) (subst IsJudged (judged-Cast raw scope t a) h))
  of_cast t a (inr h) = inr (there_of_map (cast_constant t) (constant a) (subst IsThere (constant-Cast t a) h))

  pub of_paren : (a : RawExpr) → IsMeant raw scope (e.Paren a) → IsMeant raw scope a
  of_paren a (inl h) = inl (one_judged judge RawExpr-F.Paren (judged raw scope a) (subst IsJudged (judged-Paren raw scope a) h))
  of_paren a (inr h) = inr (subst IsThere (constant-Paren a) h)

  pub of_binary : (op : BinaryOp) (a b : RawExpr) → IsMeant raw scope (e.Binary op a b) → IsMeant raw scope a × IsMeant raw scope b
  of_binary op a b (inl h) =
      let k = two_judged judge (RawExpr-F.Binary op) (judged raw scope a) (judged raw scope b) (subst IsJudged (judged-Binary raw scope op a b) h) in (inl k.0, inl k.1)
  of_binary op a b (inr h) =
      let k = there_of_both (binary_constant op) (constant a) (constant b) (subst IsThere (constant-Binary op a b) h) in (inr k.0, inr k.1)

  pub of_and_also : (a b : RawExpr) → IsMeant raw scope (e.AndAlso a b) → IsMeant raw scope a × IsMeant raw scope b
  of_and_also a b (inl h) =
      let k = two_judged judge RawExpr-F.AndAlso (judged raw scope a) (judged raw scope b) (subst IsJudged (judged-AndAlso raw scope a b) h) in (inl k.0, inl k.1)
  of_and_also a b (inr h) =
      let k = there_of_both and_constant (constant a) (constant b) (subst IsThere (constant-AndAlso a b) h) in (inr k.0, inr k.1)

  pub of_or_else : (a b : RawExpr) → IsMeant raw scope (e.OrElse a b) → IsMeant raw scope a × IsMeant raw scope b
  of_or_else a b (inl h) =
      let k = two_judged judge RawExpr-F.OrElse (judged raw scope a) (judged raw scope b) (subst IsJudged (judged-OrElse raw scope a b) h) in (inl k.0, inl k.1)
  of_or_else a b (inr h) =
      let k = there_of_both or_constant (constant a) (constant b) (subst IsThere (constant-OrElse a b) h) in (inr k.0, inr k.1)

  pub of_index : (a b : RawExpr) → IsMeant raw scope (e.Index a b) → IsMeant raw scope a × IsMeant raw scope b
  of_index a b (inl h) =
      let k = two_judged judge RawExpr-F.Index (judged raw scope a) (judged raw scope b) (subst IsJudged (judged-Index raw scope a b) h) in (inl k.0, inl k.1)
  of_index a b (inr h) = absurd (subst IsThere (constant-Index a b) h)

  pub of_choose : (c a b : RawExpr) → IsMeant raw scope (e.Choose c a b) → IsMeant raw scope c × IsMeant raw scope a × IsMeant raw scope b
  of_choose c a b (inl h) =
      let k = three_judged judge RawExpr-F.Choose (judged raw scope c) (judged raw scope a) (judged raw scope b) (subst IsJudged (judged-Choose raw scope c a b) h) in
      (inl k.0, inl k.1, inl k.2)
  of_choose c a b (inr h) =
      let k = there_of_three chosen_constant (constant c) (constant a) (constant b) (subst IsThere (constant-Choose c a b) h) in (inr k.0, inr k.1, inr k.2)

  -- ---- selections

  -- what a member is selected from is an operand
  pub of_member : (a : RawExpr) (m : Bytes) → IsMeant raw scope (e.Member a m) → IsOperand raw scope a
  of_member a m (inl h) = one_judged judge (λ x. RawExpr-F.Member x m) (judged raw scope a) (subst IsJudged (judged-Member raw scope a m) h)
  of_member a m (inr h) = absurd (subst IsThere (constant-Member a m) h)

  pub of_arrow : (a : RawExpr) (m : Bytes) → IsMeant raw scope (e.Arrow a m) → IsOperand raw scope a
  of_arrow a m (inl h) = one_judged judge (λ x. RawExpr-F.Arrow x m) (judged raw scope a) (subst IsJudged (judged-Arrow raw scope a m) h)
  of_arrow a m (inr h) = absurd (subst IsThere (constant-Arrow a m) h)

  member_judged_at : (a : RawExpr) (m : Bytes) (x : Operand) → judged raw scope a ≡ Ok x → IsMeant raw scope (e.Member a m) → IsJudged (judge (RawExpr-F.Member (Some x) m))
  member_judged_at a m x is (inl h) =
      subst (λ (r : Result Operand ℕ). IsJudged (then_judge judge (with_one (λ x. RawExpr-F.Member x m) r))) is (subst IsJudged (judged-Member raw scope a m) h)
  member_judged_at a m x is (inr h) = absurd (subst IsThere (constant-Member a m) h)

  arrow_judged_at : (a : RawExpr) (m : Bytes) (x : Operand) → judged raw scope a ≡ Ok x → IsMeant raw scope (e.Arrow a m) → IsJudged (judge (RawExpr-F.Arrow (Some x) m))
  arrow_judged_at a m x is (inl h) =
      subst (λ (r : Result Operand ℕ). IsJudged (then_judge judge (with_one (λ x. RawExpr-F.Arrow x m) r))) is (subst IsJudged (judged-Arrow raw scope a m) h)
  arrow_judged_at a m x is (inr h) = absurd (subst IsThere (constant-Arrow a m) h)

  -- the member that is selected has a number
  pub member_there : (a : RawExpr) (m : Bytes) (x : Operand) → judged raw scope a ≡ Ok x → IsMeant raw scope (e.Member a m)
      → option_and_then (member_id raw m) (struct_of x.shape) ≡ None → ⊥
  member_there a m x is h none = let y = judged_value _ (member_judged_at a m x is h) in member_numbered raw scope m x y.0 y.1 none

  selected_there : (m : Bytes) (t : Option ExprType) → IsJudged (selected_from raw scope m t) → (u : ExprType) → t ≡ Some u
      → option_and_then (member_id raw m) (struct_of u) ≡ None → ⊥
  selected_there m None h u is none = h
  selected_there m (Some t) h u is none =
      let y = judged_value _ (subst (λ (o : Option ExprType). IsJudged (selected_from raw scope m o)) is h) in select_numbered raw scope m u y.0 y.1 none

  from_arrow : (a : RawExpr) (m : Bytes) (x : Operand) → judged raw scope a ≡ Ok x → IsMeant raw scope (e.Arrow a m) → IsJudged (selected_from raw scope m (pointed x))
  from_arrow a m x is h = subst IsJudged (arrow_judged raw scope m x) (arrow_judged_at a m x is h)

  pub arrow_there : (a : RawExpr) (m : Bytes) (x : Operand) (u : ExprType) → judged raw scope a ≡ Ok x → IsMeant raw scope (e.Arrow a m) → pointed x ≡ Some u
      → option_and_then (member_id raw m) (struct_of u) ≡ None → ⊥
  arrow_there a m x u is h points none = selected_there m (pointed x) (from_arrow a m x is h) u points none

  -- ---- variables

  number_from : (m : Option Meaning) → IsJudged (fault_or (if is_none m then Some 1 else (if is_function m then Some 12 else None)) (variable_in m)) → variable_number m ≡ None → ⊥
  number_from None h none = h
  number_from (Some Meaning.Function) h none = h
  number_from (Some (Meaning.Variable id t)) h none = true≢false (ap is_some none)

  -- a variable that is an operand has a number
  pub variable_there : (name : Bytes) → IsMeant raw scope (e.Variable name) → variable_number (meaning_in scope name) ≡ None → ⊥
  variable_there name (inl h) none = number_from (meaning_in scope name) (subst IsJudged (judged-Variable raw scope name) h) none
  variable_there name (inr h) none = absurd (subst IsThere (constant-Variable name) h)

  -- ---- the trees of selections

  pub member_tree_is : (a : RawExpr) (m : Bytes) (x : Expr) (id : MemberId) → expr_of raw scope a ≡ Some x → of_operand raw m (operand raw scope a) ≡ Some id
      → expr_of raw scope (e.Member a m) ≡ Some (tree.Member x id)
  member_tree_is a m x id is numbered =
      expr_of-Member raw scope a m
      ∙ (ap (λ o. option_and_then (λ (y : Expr). option_map (tree.Member y) (of_operand raw m (operand raw scope a))) o) is ∙ ap (option_map (tree.Member x)) numbered)

  pub arrow_tree_is : (a : RawExpr) (m : Bytes) (x : Expr) (id : MemberId) → expr_of raw scope a ≡ Some x → of_pointed raw m (operand raw scope a) ≡ Some id
      → expr_of raw scope (e.Arrow a m) ≡ Some (tree.Arrow x id)
  arrow_tree_is a m x id is numbered =
      expr_of-Arrow raw scope a m
      ∙ (ap (λ o. option_and_then (λ (y : Expr). option_map (tree.Arrow y) (of_pointed raw m (operand raw scope a))) o) is ∙ ap (option_map (tree.Arrow x)) numbered)
