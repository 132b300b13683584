-- An expression of a text is, as an operand, what its tree is in the text's program.
use Rattle.std.proofs.Common.{◌≡◌, ℕ, Bool, true, false, Option, Some, None, option_map, refl, sym, ap, subst, ◌∙◌, arith}
use Rattle.std.proofs.lemmas.Bool.Decides.{nat_tests}
use Rattle.std.specs.Prelude.{◌==◌, nat_lt, option_and_then, if◌then◌else◌}
use Rattle.c_tree.specs.declared.expr.Expr.{Expr}
use Rattle.c_tree.specs.declared.expr.Expr.TheVariants as e
use Rattle.c_tree.specs.declared.expr.MemberId.{MemberId}
use Rattle.c_tree.specs.declared.raw.expr.RawExpr.{RawExpr, map-RawExpr, fold-roll-RawExpr}
use Rattle.c_tree.specs.declared.raw.expr.RawExpr.TheOpen.{RawExpr-F}
use Rattle.c_tree.specs.declared.raw.program.RawMember.{RawMember}
use Rattle.c_tree.specs.declared.raw.program.RawProgram.{RawProgram}
use Rattle.c_tree.proofs.RawTrees.{ExprParts, expr_layer, of_every_expr}
use Rattle.c_language.specs.Words.{Bytes}
use Rattle.c_language.specs.ConstantEvaluation.{both}
use Rattle.c_language.specs.DeclaredTypes.{written_type}
use Rattle.c_language.specs.ExprTypes.{operand, a_place, a_value, variable_in, unary_result, value_type, pointed, address_result, binary_result, logical_result, choose_result, cast_result, indexed, struct_of, member_of, member_type, selected_type}
use Rattle.c_language.specs.ProgramOf.{Told, told_step, told_of, expr_of, variable_number, index_of_member, member_id, of_operand, of_pointed}
use Rattle.c_language.specs.Scopes.{Scope, Meaning, meaning_in}
use Rattle.c_language.specs.declared.expr_type.ExprType.{ExprType}
use Rattle.c_language.specs.declared.expr_type.Operand.{Operand}
use Rattle.c_language.proofs.Options.{map_there}
use Rattle.c_types_base.proofs.TreeLemmas.{told-operand}
use Rattle.typed_programs.specs.TreeOperands.{Declarations, variable_shape, member_shape, member_within, selected, operand_of}
use Rattle.typed_programs.proofs.Options.{ComesToo, same_comes, map_comes, comes_there, one_comes, two_come, three_come}
use Rattle.typed_programs.proofs.OperandForms.{operand-Constant, operand-Null, operand-Eof, operand-Variable, operand-Unary, operand-Deref, operand-AddressOf, operand-Binary, operand-AndAlso, operand-OrElse, operand-Choose, operand-Cast, operand-Index, operand-Member, operand-Arrow, operand-Paren}

-- a name stands for a variable that the program has, with its type
abbrev pub HasShape : Declarations → Meaning → Type 0
HasShape d (Meaning.Variable id t) = variable_shape d id ≡ t
HasShape d Meaning.Function = Unit {0}

abbrev pub HasShapeIf : Declarations → Option Meaning → Type 0
HasShapeIf d None = Unit {0}
HasShapeIf d (Some m) = HasShape d m

-- what names stand for at a scope, the program has
abbrev pub ScopeStands : Declarations → Scope → Type 0
ScopeStands d scope = (name : Bytes) → HasShapeIf d (meaning_in scope name)

-- the members of the text's struct types are those of the program's
abbrev pub MembersStand : RawProgram → Declarations → Type 0
MembersStand raw d = (name : Bytes) (s : ℕ)
    → option_and_then (λ (m : RawMember). written_type raw m.shape) (member_of raw s name)
    ≡ option_and_then (λ (i : ℕ). member_shape d (record { owner = s; index = i })) (index_of_member raw name s)

same_number : (s : ℕ) (id : MemberId) (d : Declarations) → id.owner ≡ s → member_within d id s ≡ member_shape d id
same_number s id d is =
    let same : (s == id.owner) ≡ true = grind (arith, nat_tests, is) in
    ap (λ (b : Bool). if b then member_shape d id else None) same

module _ (raw : RawProgram) (d : Declarations) (scope : Scope) (variables : ScopeStands d scope) (members : MembersStand raw d) where
  -- the operand comes to that of the tree, where there is one
  abbrev ReadAs : Option Expr → Option Operand → Type 0
  ReadAs None o = Unit {0}
  ReadAs (Some x) o = ComesToo o (operand_of d x)

  by_equal : (x : Expr) (o q : Option Operand) → operand_of d x ≡ q → ComesToo o q → ComesToo o (operand_of d x)
  by_equal x o q is h = subst (ComesToo o) (sym is) h

  -- ---- operands of one part, of two and of three

  read_one : (f : Expr → Expr) (g : Option Operand → Option Operand) → ((o q : Option Operand) → ComesToo o q → ComesToo (g o) (g q))
      → ((x : Expr) → operand_of d (f x) ≡ g (operand_of d x)) → (t : Option Expr) (o : Option Operand) → ReadAs t o → ReadAs (option_map f t) (g o)
  read_one f g grows is None o h = tt
  read_one f g grows is (Some x) o h = by_equal (f x) (g o) (g (operand_of d x)) (is x) (grows o (operand_of d x) h)

  read_two : (f : Expr → Expr → Expr) (g : Option Operand → Option Operand → Option Operand)
      → ((a b c d : Option Operand) → ComesToo a c → ComesToo b d → ComesToo (g a b) (g c d))
      → ((x y : Expr) → operand_of d (f x y) ≡ g (operand_of d x) (operand_of d y))
      → (t u : Option Expr) (a b : Option Operand) → ReadAs t a → ReadAs u b → ReadAs (both f t u) (g a b)
  read_two f g grow is None u a b h k = tt
  read_two f g grow is (Some x) None a b h k = tt
  read_two f g grow is (Some x) (Some y) a b h k = by_equal (f x y) (g a b) _ (is x y) (grow a b (operand_of d x) (operand_of d y) h k)

  read_three : (g : Option Operand → Option Operand → Option Operand → Option Operand)
      → ((s a b t c d : Option Operand) → ComesToo s t → ComesToo a c → ComesToo b d → ComesToo (g s a b) (g t c d))
      → ((z x y : Expr) → operand_of d (e.Choose z x y) ≡ g (operand_of d z) (operand_of d x) (operand_of d y))
      → (r t u : Option Expr) (s a b : Option Operand) → ReadAs r s → ReadAs t a → ReadAs u b
      → ReadAs (option_and_then (λ (z : Expr). both (e.Choose z) t u) r) (g s a b)
  read_three g grow is None t u s a b j h k = tt
  read_three g grow is (Some z) None u s a b j h k = tt
  read_three g grow is (Some z) (Some x) None s a b j h k = tt
  read_three g grow is (Some z) (Some x) (Some y) s a b j h k =
      by_equal (e.Choose z x y) (g s a b) _ (is z x y) (grow s a b (operand_of d z) (operand_of d x) (operand_of d y) j h k)

  -- ---- members

  by_place : (name : Bytes) (s : ℕ) (b : Bool) (i : ℕ) → index_of_member raw name s ≡ Some i
      → ComesToo (if b then option_and_then (λ (m : RawMember). written_type raw m.shape) (member_of raw s name) else None) (member_shape d (record { owner = s; index = i }))
  by_place name s false i is = tt
  by_place name s true i is =
      let same = members name s ∙ ap (option_and_then (λ (j : ℕ). member_shape d (record { owner = s; index = j }))) is in
      subst (λ o. ComesToo o (member_shape d (record { owner = s; index = i }))) (sym same) (same_comes (member_shape d (record { owner = s; index = i })))

  selected_comes : (name : Bytes) (s : Option ℕ) (id : MemberId) → option_and_then (member_id raw name) s ≡ Some id
      → ComesToo (option_and_then (member_type raw scope name) s) (option_and_then (member_within d id) s)
  selected_comes name None id is = tt
  selected_comes name (Some s) id is =
      let m = map_there (λ (i : ℕ). let k : MemberId = record { owner = s; index = i } in k) (index_of_member raw name s) id is in
      let here = same_number s id d (ap (λ (k : MemberId). k.owner) (sym m.same)) ∙ ap (member_shape d) (sym m.same) in
      subst (ComesToo (member_type raw scope name s)) (sym here) (by_place name s (nat_lt s scope.structs) m.value m.there)

  -- a member of an object, whose tree has the number
  member_here : (x : Expr) (name : Bytes) (y : Operand) (o : Option MemberId) → operand_of d x ≡ Some y → option_and_then (member_id raw name) (struct_of y.shape) ≡ o
      → ReadAs (option_map (e.Member x) o) (option_map a_place (selected_type raw scope name y.shape))
  member_here x name y None h is = tt
  member_here x name y (Some id) h is =
      by_equal (e.Member x id) _ _ (operand-Member d x id ∙ ap (λ o. option_map a_place (option_and_then (λ (z : Operand). selected d id z.shape) o)) h)
      (map_comes a_place _ _ (selected_comes name (struct_of y.shape) id is))

  read_member : (t : Option Expr) (name : Bytes) (o : Option Operand) → ReadAs t o
      → ReadAs (option_and_then (λ (x : Expr). option_map (e.Member x) (of_operand raw name o)) t) (option_map a_place (option_and_then (λ (x : Operand). selected_type raw scope name x.shape) o))
  read_member None name o h = tt
  read_member (Some x) name None h = tt
  read_member (Some x) name (Some y) h = member_here x name y (option_and_then (member_id raw name) (struct_of y.shape)) h refl

  arrow_here : (x : Expr) (name : Bytes) (y : Operand) (u : ExprType) (o : Option MemberId) → operand_of d x ≡ Some y → pointed y ≡ Some u
      → option_and_then (member_id raw name) (struct_of u) ≡ o → ReadAs (option_map (e.Arrow x) o) (option_map a_place (selected_type raw scope name u))
  arrow_here x name y u None h points is = tt
  arrow_here x name y u (Some id) h points is =
      by_equal (e.Arrow x id) _ _
      (operand-Arrow d x id ∙ ap (λ o. option_map a_place (option_and_then (λ (z : Operand). option_and_then (selected d id) (pointed z)) o)) h
      ∙ ap (λ o. option_map a_place (option_and_then (selected d id) o)) points)
      (map_comes a_place _ _ (selected_comes name (struct_of u) id is))

  arrow_from : (x : Expr) (name : Bytes) (y : Operand) (u : Option ExprType) → operand_of d x ≡ Some y → pointed y ≡ u
      → ReadAs (option_map (e.Arrow x) (option_and_then (λ (t : ExprType). option_and_then (member_id raw name) (struct_of t)) u)) (option_map a_place (option_and_then (selected_type raw scope name) u))
  arrow_from x name y None h points = tt
  arrow_from x name y (Some u) h points = arrow_here x name y u (option_and_then (member_id raw name) (struct_of u)) h points refl

  read_arrow : (t : Option Expr) (name : Bytes) (o : Option Operand) → ReadAs t o
      → ReadAs (option_and_then (λ (x : Expr). option_map (e.Arrow x) (of_pointed raw name o)) t)
      (option_map a_place (option_and_then (λ (x : Operand). option_and_then (selected_type raw scope name) (pointed x)) o))
  read_arrow None name o h = tt
  read_arrow (Some x) name None h = tt
  read_arrow (Some x) name (Some y) h = arrow_from x name y (pointed y) h refl

  -- ---- variables

  read_name : (m : Option Meaning) → HasShapeIf d m → ReadAs (option_map e.Variable (variable_number m)) (variable_in m)
  read_name None h = tt
  read_name (Some Meaning.Function) h = tt
  read_name (Some (Meaning.Variable id t)) h =
      by_equal (e.Variable id) (option_map a_place t) (option_map a_place t) (operand-Variable d id ∙ ap (option_map a_place) h) (same_comes (option_map a_place t))

  -- ---- each form

  abbrev IsRead : Told → Type 0
  IsRead t = ReadAs t.tree t.operand

  abbrev IsReadText : RawExpr → Type 0
  IsReadText a = IsRead (told_of raw scope a)

  layer_read : (y : ExprParts IsReadText) → IsRead (told_step raw scope (map-RawExpr RawExpr Told (told_of raw scope) (expr_layer IsReadText y)))
  layer_read (RawExpr-F.Constant text) = operand-Constant d text _ _
  layer_read RawExpr-F.Null = operand-Null d
  layer_read RawExpr-F.Eof = operand-Eof d
  layer_read (RawExpr-F.Variable name) = read_name (meaning_in scope name) (variables name)
  layer_read (RawExpr-F.Unary op a) =
      read_one (e.Unary op) _ (one_comes a_value (λ (x : Operand). unary_result op (value_type x.shape))) (operand-Unary d op) _ _ a.1
  layer_read (RawExpr-F.Deref a) = read_one e.Deref _ (one_comes a_place pointed) (operand-Deref d) _ _ a.1
  layer_read (RawExpr-F.AddressOf a) = read_one e.AddressOf _ (one_comes a_value address_result) (operand-AddressOf d) _ _ a.1
  layer_read (RawExpr-F.Binary op a b) = read_two (e.Binary op) _ (two_come a_value (binary_result op)) (operand-Binary d op) _ _ _ _ a.1 b.1
  layer_read (RawExpr-F.AndAlso a b) = read_two e.AndAlso _ (two_come a_value logical_result) (operand-AndAlso d) _ _ _ _ a.1 b.1
  layer_read (RawExpr-F.OrElse a b) = read_two e.OrElse _ (two_come a_value logical_result) (operand-OrElse d) _ _ _ _ a.1 b.1
  layer_read (RawExpr-F.Choose c a b) = read_three _ (three_come a_value choose_result) (operand-Choose d) _ _ _ _ _ _ c.1 a.1 b.1
  layer_read (RawExpr-F.Cast t a) = read_one (e.Cast t) _ (one_comes a_value (cast_result t)) (operand-Cast d t) _ _ a.1
  layer_read (RawExpr-F.Index a i) = read_two e.Index _ (two_come a_place indexed) (operand-Index d) _ _ _ _ a.1 i.1
  layer_read (RawExpr-F.Member a m) = read_member _ m _ a.1
  layer_read (RawExpr-F.Arrow a m) = read_arrow _ m _ a.1
  layer_read (RawExpr-F.Paren a) = read_one e.Paren (λ o. o) (λ o q h. h) (operand-Paren d) _ _ a.1

  text_read : (a : RawExpr) → IsReadText a
  text_read = of_every_expr IsReadText (λ y. subst IsRead (sym (fold-roll-RawExpr Told (told_step raw scope) (expr_layer IsReadText y))) (layer_read y))

  -- an operand of the text is that of its tree
  pub operand_is : (a : RawExpr) (x : Expr) (o : Operand) → expr_of raw scope a ≡ Some x → operand raw scope a ≡ Some o → operand_of d x ≡ Some o
  operand_is a x o is there =
      let h : ComesToo (told_of raw scope a).operand (operand_of d x) = subst (λ t. ReadAs t (told_of raw scope a).operand) is (text_read a) in
      comes_there (told_of raw scope a).operand (operand_of d x) o h (told-operand raw scope a ∙ there)
