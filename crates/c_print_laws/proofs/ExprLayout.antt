-- The words of an expression of a program are those of the text's expression.
use Rattle.std.proofs.Common.{◌≡◌, ℕ, suc, List, [], ◌∷◌, ◌++◌, arith, Option, Some, None, codes, refl, sym, ap, ap₂, subst, ◌∙◌, map}
use Rattle.std.specs.Prelude.{Contains, option_map, option_and_then}
use Rattle.c_language.proofs.Operands.{AreClean}
use Rattle.c_tree.specs.declared.expr.Expr.{Expr}
use Rattle.c_tree.specs.declared.expr.Expr.TheVariants as e
use Rattle.c_tree.specs.declared.expr.MemberId.{MemberId}
use Rattle.c_tree.specs.declared.program.Program.{Program}
use Rattle.c_tree.specs.declared.raw.expr.RawExpr.{RawExpr, map-RawExpr, fold-roll-RawExpr}
use Rattle.c_tree.specs.declared.raw.expr.RawExpr.TheOpen.{RawExpr-F}
use Rattle.c_tree.specs.declared.raw.program.RawProgram.{RawProgram}
use Rattle.c_tree.proofs.RawTrees.{ExprParts, expr_layer, of_every_expr}
use Rattle.c_language.specs.Words.{Bytes, signed, binary_sign, int_words, expr_words, name_of_var}
use Rattle.c_language.specs.ConstantEvaluation.{both, constant, literal_type, literal_value}
use Rattle.c_language.specs.Scopes.{Meaning, Scope, meaning_in}
use Rattle.c_language.specs.ExprTypes.{pointed, struct_of}
use Rattle.c_language.specs.ProgramOf.{Told, told_step, told_of, expr_of, variable_number, of_operand, of_pointed, member_id, raw_words_step, raw_words}
use Rattle.c_language.specs.declared.expr_type.Operand.{Operand}
use Rattle.c_language.specs.declared.expr_type.ExprType.{ExprType}
use Rattle.c_language.proofs.WordLemmas.{expr_words-Constant, expr_words-Null, expr_words-Eof, expr_words-Variable, expr_words-Unary, expr_words-Deref, expr_words-AddressOf, expr_words-Binary, expr_words-AndAlso, expr_words-OrElse, expr_words-Choose, expr_words-Cast, expr_words-Index, expr_words-Member, expr_words-Arrow, expr_words-Paren}
use Rattle.c_text_layout.specs.SpacedWords.{spaced_words}
use Rattle.c_print_laws.proofs.SpacedWords.{constant_spaced, words_spaced}
use Rattle.c_print_laws.proofs.Named.{IsNamed, Fits, fits_found, fits_typed}
use Rattle.c_language.proofs.Options.{none_there, some_same, map_there, then_there, both_there}
use Rattle.c_language.proofs.Lists.{no_list, head_is, tail_is}
use Rattle.c_language.specs.Options.{IsThere}

module _ (raw : RawProgram) (p : Program) (named : IsNamed raw p) (scope : Scope) (fits : Fits p scope) where
  abbrev HasWords : RawExpr → Type 0
  HasWords a = (x : Expr) → expr_of raw scope a ≡ Some x → expr_words p x ≡ raw_words a

  pub variable_named : (name : Bytes) (m : Option Meaning) → meaning_in scope name ≡ m → (k : ℕ) → variable_number m ≡ Some k → name_of_var p k ≡ name
  variable_named name None is k h = none_there h
  variable_named name (Some Meaning.Function) is k h = none_there h
  variable_named name (Some (Meaning.Variable id t)) is k h =
      subst (λ (n : ℕ). name_of_var p n ≡ name) (some_same h) (fits_found p scope.names name (Meaning.Variable id t) fits is).0

  member_of_operand : (name : Bytes) (a : Option Operand) (m : MemberId) → of_operand raw name a ≡ Some m → (k : ℕ) × (member_id raw name k ≡ Some m)
  member_of_operand name a m h =
      let g = then_there (λ (x : Operand). option_and_then (member_id raw name) (struct_of x.shape)) a m h in
      let k = then_there (member_id raw name) (struct_of g.value.shape) m g.same in
      (k.value, k.same)

  member_of_pointed : (name : Bytes) (a : Option Operand) (m : MemberId) → of_pointed raw name a ≡ Some m → (k : ℕ) × (member_id raw name k ≡ Some m)
  member_of_pointed name a m h =
      let g = then_there (λ (x : Operand). option_and_then (λ t. option_and_then (member_id raw name) (struct_of t)) (pointed x)) a m h in
      let t = then_there (λ (t : ExprType). option_and_then (member_id raw name) (struct_of t)) (pointed g.value) m g.same in
      let k = then_there (member_id raw name) (struct_of t.value) m t.same in
      (k.value, k.same)

  abbrev layer_of : ExprParts HasWords → RawExpr-F RawExpr
  layer_of = expr_layer HasWords

  -- the words of a layer, from those of its parts
  abbrev Layered : RawExpr-F RawExpr → Type 0
  Layered y = (x : Expr) → (told_step raw scope (map-RawExpr RawExpr Told (told_of raw scope) y)).tree ≡ Some x → expr_words p x ≡ raw_words_step (map-RawExpr RawExpr Bytes raw_words y)

  one : (f : Expr → Expr) (w : Bytes → Bytes) (a : RawExpr) → HasWords a → ((x : Expr) → expr_words p (f x) ≡ w (expr_words p x))
      → (x : Expr) → option_map f (expr_of raw scope a) ≡ Some x → expr_words p x ≡ w (raw_words a)
  one f w a ha is x h =
      let g = map_there f (expr_of raw scope a) x h in
      ap (expr_words p) (sym g.same) ∙ is g.value ∙ ap w (ha g.value g.there)

  two : (f : Expr → Expr → Expr) (w : Bytes → Bytes → Bytes) (a b : RawExpr) → HasWords a → HasWords b → ((x y : Expr) → expr_words p (f x y) ≡ w (expr_words p x) (expr_words p y))
      → (x : Expr) → both f (expr_of raw scope a) (expr_of raw scope b) ≡ Some x → expr_words p x ≡ w (raw_words a) (raw_words b)
  two f w a b ha hb is x h =
      let g = both_there f (expr_of raw scope a) (expr_of raw scope b) x h in
      ap (expr_words p) (sym g.same) ∙ is g.left g.right ∙ ap₂ w (ha g.left g.left_there) (hb g.right g.right_there)

  selected : (f : Expr → MemberId → Expr) (w : Bytes → Bytes → Bytes) (a : RawExpr) (name : Bytes) (m : Option MemberId) → HasWords a
      → ((k : MemberId) → m ≡ Some k → (x : Expr) → expr_words p (f x k) ≡ w (expr_words p x) name)
      → (x : Expr) → option_and_then (λ (x : Expr). option_map (f x) m) (expr_of raw scope a) ≡ Some x → expr_words p x ≡ w (raw_words a) name
  selected f w a name m ha is x h =
      let g = then_there (λ (x : Expr). option_map (f x) m) (expr_of raw scope a) x h in
      let k = map_there (f g.value) m x g.same in
      ap (expr_words p) (sym k.same) ∙ is k.value k.there g.value ∙ ap (λ (b : Bytes). w b name) (ha g.value g.there)

  layered : (y : ExprParts HasWords) → Layered (layer_of y)
  layered (RawExpr-F.Constant text) x h = ap (expr_words p) (sym (some_same h)) ∙ expr_words-Constant p text (literal_type text) (literal_value text)
  layered RawExpr-F.Null x h = ap (expr_words p) (sym (some_same h)) ∙ expr_words-Null p
  layered RawExpr-F.Eof x h = ap (expr_words p) (sym (some_same h)) ∙ expr_words-Eof p
  layered (RawExpr-F.Variable name) x h =
      let g = map_there e.Variable (variable_number (meaning_in scope name)) x h in
      ap (expr_words p) (sym g.same) ∙ expr_words-Variable p g.value ∙ variable_named name (meaning_in scope name) refl g.value g.there
  layered (RawExpr-F.Unary op a) x h = one (e.Unary op) (signed op) a.0 a.1 (expr_words-Unary p op) x h
  layered (RawExpr-F.Deref a) x h = one e.Deref (λ (w : Bytes). codes "*" ++ w) a.0 a.1 (expr_words-Deref p) x h
  layered (RawExpr-F.AddressOf a) x h = one e.AddressOf (λ (w : Bytes). codes "&" ++ w) a.0 a.1 (expr_words-AddressOf p) x h
  layered (RawExpr-F.Binary op a b) x h = two (e.Binary op) (λ (v w : Bytes). v ++ (codes " " ++ (binary_sign op ++ (codes " " ++ w)))) a.0 b.0 a.1 b.1 (expr_words-Binary p op) x h
  layered (RawExpr-F.AndAlso a b) x h = two e.AndAlso (λ (v w : Bytes). v ++ (codes " && " ++ w)) a.0 b.0 a.1 b.1 (expr_words-AndAlso p) x h
  layered (RawExpr-F.OrElse a b) x h = two e.OrElse (λ (v w : Bytes). v ++ (codes " || " ++ w)) a.0 b.0 a.1 b.1 (expr_words-OrElse p) x h
  layered (RawExpr-F.Choose c a b) x h =
      let g = then_there (λ (y : Expr). both (e.Choose y) (expr_of raw scope a.0) (expr_of raw scope b.0)) (expr_of raw scope c.0) x h in
      two (e.Choose g.value) (λ (v w : Bytes). expr_words p g.value ++ (codes " ? " ++ (v ++ (codes " : " ++ w)))) a.0 b.0 a.1 b.1 (expr_words-Choose p g.value) x g.same
      ∙ ap (λ (v : Bytes). v ++ (codes " ? " ++ (raw_words a.0 ++ (codes " : " ++ raw_words b.0)))) (c.1 g.value g.there)
  layered (RawExpr-F.Cast t a) x h = one (e.Cast t) (λ (w : Bytes). codes "(" ++ (int_words t ++ (codes ")" ++ w))) a.0 a.1 (expr_words-Cast p t) x h
  layered (RawExpr-F.Index a i) x h = two e.Index (λ (v w : Bytes). v ++ (codes "[" ++ (w ++ codes "]"))) a.0 i.0 a.1 i.1 (expr_words-Index p) x h
  layered (RawExpr-F.Member a m) x h =
      selected e.Member (λ (v w : Bytes). v ++ (codes "." ++ w)) a.0 m (of_operand raw m (told_of raw scope a.0).operand) a.1
      (λ k is x. let s = member_of_operand m (told_of raw scope a.0).operand k is in expr_words-Member p x k ∙ ap (λ (w : Bytes). expr_words p x ++ (codes "." ++ w)) (named.members m s.0 k s.1)) x h
  layered (RawExpr-F.Arrow a m) x h =
      selected e.Arrow (λ (v w : Bytes). v ++ (codes "->" ++ w)) a.0 m (of_pointed raw m (told_of raw scope a.0).operand) a.1
      (λ k is x. let s = member_of_pointed m (told_of raw scope a.0).operand k is in expr_words-Arrow p x k ∙ ap (λ (w : Bytes). expr_words p x ++ (codes "->" ++ w)) (named.members m s.0 k s.1)) x h
  layered (RawExpr-F.Paren a) x h = one e.Paren (λ (w : Bytes). codes "(" ++ (w ++ codes ")")) a.0 a.1 (expr_words-Paren p) x h

  plain_layout : (a : RawExpr) (x : Expr) → expr_of raw scope a ≡ Some x → expr_words p x ≡ raw_words a
  plain_layout = of_every_expr HasWords (λ y x h.
      layered y x (ap (λ (t : Told). t.tree) (sym (fold-roll-RawExpr Told (told_step raw scope) (layer_of y))) ∙ h)
      ∙ sym (fold-roll-RawExpr Bytes raw_words_step (layer_of y)))

  -- an expression that breaks no rule has the words of the text's layout
  pub expr_layout : (a : RawExpr) → AreClean raw scope a → (x : Expr) → expr_of raw scope a ≡ Some x → expr_words p x ≡ spaced_words a
  expr_layout a keeps x h = plain_layout a x h ∙ sym (words_spaced raw scope named.complete (λ name. fits_typed p scope.names name fits) a keeps)

  -- so has a constant expression
  pub constant_layout : (a : RawExpr) → IsThere (constant a) → (x : Expr) → expr_of raw scope a ≡ Some x → expr_words p x ≡ spaced_words a
  constant_layout a there x h = plain_layout a x h ∙ sym (constant_spaced a there)

  -- a list of expressions
  pub exprs_layout : (all : List RawExpr) → ((a : RawExpr) → Contains all a → AreClean raw scope a) → (xs : List Expr) → map (expr_of raw scope) all ≡ map Some xs → map (expr_words p) xs ≡ map spaced_words all
  exprs_layout [] keeps [] h = refl
  exprs_layout [] keeps (x ∷ xs) h = no_list (sym h)
  exprs_layout (a ∷ all) keeps [] h = no_list h
  exprs_layout (a ∷ all) keeps (x ∷ xs) h =
      ap₂ (λ (w : Bytes) (ws : List Bytes). w ∷ ws) (expr_layout a (keeps a (0, omega arith, refl)) x (head_is h))
      (exprs_layout all (λ b c. keeps b (suc c.0, omega (arith, c.1), c.2)) xs (tail_is h))
