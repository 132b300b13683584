-- A judgement tells the operand where no rule is broken in the expression, and else a rule that is.
use Rattle.std.proofs.Common.{◌≡◌, ℕ, List, [], ◌∷◌, Bool, true, false, Option, Some, None, Result, Ok, Err, refl, sym, ap, subst, ◌∙◌, ◌⊎◌, inl, inr}
use Rattle.std.specs.Prelude.{unwrap_or, Contains, if◌then◌else◌}
use Rattle.c_tree.specs.declared.raw.expr.RawExpr.{RawExpr, map-RawExpr, ind-RawExpr, roll-RawExpr, fold-roll-RawExpr}
use Rattle.c_tree.specs.declared.raw.expr.RawExpr.TheOpen.{RawExpr-F}
use Rattle.c_tree.specs.declared.raw.expr.RawExpr.TheViews.{out-roll-RawExpr}
use Rattle.c_tree.specs.declared.raw.program.RawProgram.{RawProgram}
use Rattle.c_tree.proofs.RawTrees.{expr_layer, ExprParts}
use Rattle.c_language.specs.Scopes.{Scope}
use Rattle.c_language.specs.ExprTypes.{operand, operand_step}
use Rattle.c_language.specs.ExprRules.{Seen, seen, is_undeclared, lacks_header, needs_struct, selects_missing, has_bad_operand, has_no_address}
use Rattle.c_language.specs.Uses.{operands_of, operands, IsWithin, whole, deeper}
use Rattle.c_language.specs.declared.expr_type.Operand.{Operand}
use Rattle.c_language.proofs.Lists.{contains_nil, contains_cons, contains_first, contains_later}
use Rattle.c_types_base.specs.Judging.{first_fault, fault_or, judge_seen, then_judge, with_one, with_two, with_three, judged_operands, judge_step, judged}

-- a rule that the outermost form breaks; 0 where the expression has no type though it breaks none
pub data FormBreaks (raw : RawProgram) (scope : Scope) (s : Seen) : ℕ → Type 0 where
  undeclared : is_undeclared scope s ≡ true → FormBreaks raw scope s 1
  no_header : lacks_header raw s ≡ true → FormBreaks raw scope s 24
  bad_operand : has_bad_operand scope s ≡ true → FormBreaks raw scope s 12
  no_address : has_no_address s ≡ true → FormBreaks raw scope s 15
  incomplete : needs_struct scope s ≡ true → FormBreaks raw scope s 7
  missing : selects_missing raw s ≡ true → FormBreaks raw scope s 8
  untyped : first_fault raw scope s ≡ None → operand_step raw scope s ≡ None → FormBreaks raw scope s 0

-- a rule is broken somewhere in an expression
pub record IsBrokenIn (raw : RawProgram) (scope : Scope) (e : RawExpr) (n : ℕ) : Type 0 where
  pub inner : RawExpr
  pub within : IsWithin inner e
  pub breaks : FormBreaks raw scope (seen raw scope inner) n

-- no rule is broken in an expression
abbrev pub Keeps : RawProgram → Scope → RawExpr → Type 0
Keeps raw scope e = (inner : RawExpr) → IsWithin inner e → first_fault raw scope (seen raw scope inner) ≡ None

abbrev pub Told : RawProgram → Scope → RawExpr → Result Operand ℕ → Type 0
Told raw scope e (Ok x) = (operand raw scope e ≡ Some x) × Keeps raw scope e
Told raw scope e (Err n) = IsBrokenIn raw scope e n

seen-roll : (raw : RawProgram) (scope : Scope) (layer : RawExpr-F RawExpr)
    → seen raw scope (roll-RawExpr layer) ≡ map-RawExpr RawExpr (Option Operand) (operand raw scope) layer
seen-roll raw scope layer = ap (map-RawExpr RawExpr (Option Operand) (operand raw scope)) (out-roll-RawExpr layer)

operand-roll : (raw : RawProgram) (scope : Scope) (layer : RawExpr-F RawExpr)
    → operand raw scope (roll-RawExpr layer) ≡ operand_step raw scope (map-RawExpr RawExpr (Option Operand) (operand raw scope) layer)
operand-roll raw scope layer = fold-roll-RawExpr (Option Operand) (operand_step raw scope) layer

judged-roll : (raw : RawProgram) (scope : Scope) (layer : RawExpr-F RawExpr)
    → judged raw scope (roll-RawExpr layer) ≡ judge_step raw scope (map-RawExpr RawExpr (Result Operand ℕ) (judged raw scope) layer)
judged-roll raw scope layer = fold-roll-RawExpr (Result Operand ℕ) (judge_step raw scope) layer

-- a test found, or the rest
one_of : (b : Bool) (m n : ℕ) (rest : Option ℕ) → (if b then Some m else rest) ≡ Some n → ((b ≡ true) × (m ≡ n)) ⊎ (rest ≡ Some n)
one_of true m n rest h = inl (refl, ap (λ (o : Option ℕ). unwrap_or o 0) h)
one_of false m n rest h = inr h

none_found : {n : ℕ} {A : Type 0} → ◌≡◌ {A = Option ℕ} None (Some n) → A
none_found h = absurd (option_cases h)
  where
    option_cases : {n : ℕ} → ◌≡◌ {A = Option ℕ} None (Some n) → ⊥
    option_cases h = subst (λ (o : Option ℕ). is_there o) h tt
      where
        is_there : Option ℕ → Type 0
        is_there None = Unit {0}
        is_there (Some n) = ⊥

module _ (raw : RawProgram) (scope : Scope) where
  -- where a rule is found to be broken, it is
  fault_breaks : (s : Seen) (n : ℕ) → first_fault raw scope s ≡ Some n → FormBreaks raw scope s n
  fault_breaks s n h = elim (one_of (is_undeclared scope s) 1 n _ h) [
    | inl (is, m) ↦ subst (FormBreaks raw scope s) m (undeclared is)
    | inr h ↦ elim (one_of (lacks_header raw s) 24 n _ h) [
      | inl (is, m) ↦ subst (FormBreaks raw scope s) m (no_header is)
      | inr h ↦ elim (one_of (has_bad_operand scope s) 12 n _ h) [
        | inl (is, m) ↦ subst (FormBreaks raw scope s) m (bad_operand is)
        | inr h ↦ elim (one_of (has_no_address s) 15 n _ h) [
          | inl (is, m) ↦ subst (FormBreaks raw scope s) m (no_address is)
          | inr h ↦ elim (one_of (needs_struct scope s) 7 n _ h) [
            | inl (is, m) ↦ subst (FormBreaks raw scope s) m (incomplete is)
            | inr h ↦ elim (one_of (selects_missing raw s) 8 n None h) [
              | inl (is, m) ↦ subst (FormBreaks raw scope s) m (missing is)
              | inr h ↦ none_found h
            ]
          ]
        ]
      ]
    ]
  ]

  keeps_from : (e : RawExpr) → first_fault raw scope (seen raw scope e) ≡ None
      → ((m : RawExpr) → Contains (operands e) m → Keeps raw scope m) → (i : RawExpr) → IsWithin i e → first_fault raw scope (seen raw scope i) ≡ None
  keeps_from e top inner i whole = top
  keeps_from e top inner i (deeper {part} {middle = m} c w) = inner m c i w

  settled : (e : RawExpr) (s : Seen) → seen raw scope e ≡ s → operand raw scope e ≡ operand_step raw scope s
      → ((m : RawExpr) → Contains (operands e) m → Keeps raw scope m)
      → (f : Option ℕ) (x : Option Operand) → first_fault raw scope s ≡ f → operand_step raw scope s ≡ x → Told raw scope e (fault_or f x)
  settled e s is as_step inner (Some n) x found gives =
      record { inner = e; within = whole; breaks = subst (λ z. FormBreaks raw scope z n) (sym is) (fault_breaks s n found) }
  settled e s is as_step inner None None found gives =
      record { inner = e; within = whole; breaks = subst (λ z. FormBreaks raw scope z 0) (sym is) (untyped found gives) }
  settled e s is as_step inner None (Some x) found gives =
      (as_step ∙ gives, keeps_from e (ap (first_fault raw scope) is ∙ found) inner)

  -- what judged operands tell: the form as it is seen, or a fault of one of them
  abbrev AreTold : (seen_as : Seen) (parts : List RawExpr) → Result Seen ℕ → Type 0
  AreTold seen_as parts (Ok s) = (seen_as ≡ s) × ((m : RawExpr) → Contains parts m → Keeps raw scope m)
  AreTold seen_as parts (Err n) = (m : RawExpr) × Contains parts m × IsBrokenIn raw scope m n

  abbrev IsJudged : RawExpr → Type 0
  IsJudged e = Told raw scope e (judged raw scope e)

  pub keeps_all : (a : RawExpr) (parts : List RawExpr) → Keeps raw scope a → ((m : RawExpr) → Contains parts m → Keeps raw scope m)
      → (m : RawExpr) → Contains (a ∷ parts) m → Keeps raw scope m
  keeps_all a parts first rest m c = elim (contains_cons a m parts c) [ inl is ↦ subst (Keeps raw scope) is first | inr c ↦ rest m c ]

  also : (other s : Seen) (a : RawExpr) (parts : List RawExpr) (r : Result Seen ℕ) → other ≡ s → Keeps raw scope a → AreTold s parts r → AreTold other (a ∷ parts) r
  also other s a parts (Ok z) e first (is, rest) = (e ∙ is, keeps_all a parts first rest)
  also other s a parts (Err n) e first (m, c, b) = (m, contains_later a m parts c, b)

  told_one : (form : Option Operand → Seen) (a : RawExpr) (r : Result Operand ℕ) → Told raw scope a r
      → AreTold (form (operand raw scope a)) (a ∷ []) (with_one form r)
  told_one form a (Ok x) (is, keeps) = (ap form is, keeps_all a [] keeps (λ m c. absurd (contains_nil m c)))
  told_one form a (Err n) h = (a, contains_first a [], h)

  told_two : (form : Option Operand → Option Operand → Seen) (a b : RawExpr) (r q : Result Operand ℕ) → Told raw scope a r → Told raw scope b q
      → AreTold (form (operand raw scope a) (operand raw scope b)) (a ∷ (b ∷ [])) (with_two form r q)
  told_two form a b (Ok x) q (is, keeps) second =
      also (form (operand raw scope a) (operand raw scope b)) (form (Some x) (operand raw scope b)) a (b ∷ []) (with_one (form (Some x)) q)
      (ap (λ y. form y (operand raw scope b)) is) keeps (told_one (form (Some x)) b q second)
  told_two form a b (Err n) q h second = (a, contains_first a (b ∷ []), h)

  told_three : (form : Option Operand → Option Operand → Option Operand → Seen) (c a b : RawExpr) (p r q : Result Operand ℕ)
      → Told raw scope c p → Told raw scope a r → Told raw scope b q
      → AreTold (form (operand raw scope c) (operand raw scope a) (operand raw scope b)) (c ∷ (a ∷ (b ∷ []))) (with_three form p r q)
  told_three form c a b (Ok x) r q (is, keeps) second third =
      also (form (operand raw scope c) (operand raw scope a) (operand raw scope b)) (form (Some x) (operand raw scope a) (operand raw scope b)) c (a ∷ (b ∷ []))
      (with_two (form (Some x)) r q) (ap (λ y. form y (operand raw scope a) (operand raw scope b)) is) keeps (told_two (form (Some x)) a b r q second third)
  told_three form c a b (Err n) r q h second third = (c, contains_first c (a ∷ (b ∷ [])), h)

  abbrev layer_of : ExprParts IsJudged → RawExpr-F RawExpr
  layer_of = expr_layer IsJudged

  abbrev IsToldLayer : RawExpr-F RawExpr → Type 0
  IsToldLayer layer =
      AreTold (map-RawExpr RawExpr (Option Operand) (operand raw scope) layer) (operands_of layer)
      (judged_operands (map-RawExpr RawExpr (Result Operand ℕ) (judged raw scope) layer))

  none_told : (m : RawExpr) → Contains [] m → Keeps raw scope m
  none_told m c = absurd (contains_nil m c)

  told_layer : (y : ExprParts IsJudged) → IsToldLayer (layer_of y)
  told_layer (RawExpr-F.Constant text) = (refl, none_told)
  told_layer RawExpr-F.Null = (refl, none_told)
  told_layer RawExpr-F.Eof = (refl, none_told)
  told_layer (RawExpr-F.Variable name) = (refl, none_told)
  told_layer (RawExpr-F.Unary op a) = told_one (RawExpr-F.Unary op) a.0 (judged raw scope a.0) a.1
  told_layer (RawExpr-F.Deref a) = told_one RawExpr-F.Deref a.0 (judged raw scope a.0) a.1
  told_layer (RawExpr-F.AddressOf a) = told_one RawExpr-F.AddressOf a.0 (judged raw scope a.0) a.1
  told_layer (RawExpr-F.Binary op a b) = told_two (RawExpr-F.Binary op) a.0 b.0 (judged raw scope a.0) (judged raw scope b.0) a.1 b.1
  told_layer (RawExpr-F.AndAlso a b) = told_two RawExpr-F.AndAlso a.0 b.0 (judged raw scope a.0) (judged raw scope b.0) a.1 b.1
  told_layer (RawExpr-F.OrElse a b) = told_two RawExpr-F.OrElse a.0 b.0 (judged raw scope a.0) (judged raw scope b.0) a.1 b.1
  told_layer (RawExpr-F.Choose c a b) =
      told_three RawExpr-F.Choose c.0 a.0 b.0 (judged raw scope c.0) (judged raw scope a.0) (judged raw scope b.0) c.1 a.1 b.1
  told_layer (RawExpr-F.Cast t a) = told_one (RawExpr-F.Cast t) a.0 (judged raw scope a.0) a.1
  told_layer (RawExpr-F.Index a i) = told_two RawExpr-F.Index a.0 i.0 (judged raw scope a.0) (judged raw scope i.0) a.1 i.1
  told_layer (RawExpr-F.Member a m) = told_one (λ x. RawExpr-F.Member x m) a.0 (judged raw scope a.0) a.1
  told_layer (RawExpr-F.Arrow a m) = told_one (λ x. RawExpr-F.Arrow x m) a.0 (judged raw scope a.0) a.1
  told_layer (RawExpr-F.Paren a) = told_one RawExpr-F.Paren a.0 (judged raw scope a.0) a.1

  joined : (layer : RawExpr-F RawExpr) (r : Result Seen ℕ)
      → AreTold (map-RawExpr RawExpr (Option Operand) (operand raw scope) layer) (operands_of layer) r
      → Told raw scope (roll-RawExpr layer) (then_judge (judge_seen raw scope) r)
  joined layer (Ok s) (is, keeps) =
      settled (roll-RawExpr layer) s (seen-roll raw scope layer ∙ is) (operand-roll raw scope layer ∙ ap (operand_step raw scope) is)
      (λ m c. keeps m (subst (λ z. Contains (operands_of z) m) (out-roll-RawExpr layer) c))
      (first_fault raw scope s) (operand_step raw scope s) refl refl
  joined layer (Err n) (m, c, b) = record {
    inner = b.inner;
    within = deeper (subst (λ z. Contains (operands_of z) m) (sym (out-roll-RawExpr layer)) c) b.within;
    breaks = b.breaks;
  }

  -- a judgement tells the truth
  pub judged_truly : (e : RawExpr) → Told raw scope e (judged raw scope e)
  judged_truly =
      ind-RawExpr IsJudged (λ x y is. subst (λ z. IsJudged (roll-RawExpr z)) is
      (subst (Told raw scope (roll-RawExpr (layer_of y))) (sym (judged-roll raw scope (layer_of y)))
      (joined (layer_of y) (judged_operands (map-RawExpr RawExpr (Result Operand ℕ) (judged raw scope) (layer_of y))) (told_layer y))))
