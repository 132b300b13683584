-- The expressions and types of a program hold no line feed, where those of its text don't.
use Rattle.std.proofs.Common.{◌≡◌, ℕ, zero, suc, ◌+◌, ◌==◌, ◌/◌, ◌%◌, List, [], ◌∷◌, ◌++◌, map, Bool, true, false, ◌&&◌, not, codes, decimal, Option, Some, None, refl, sym, ap, ◌∙◌, arith}
use Rattle.std.specs.Prelude.{if◌then◌else◌, nat_lt}
use Rattle.std.specs.Fmt.{digit_glyph, digits_onto, digits}
use Rattle.std.specs.List.{list_all}
use Rattle.std.specs.Option.{option_map_or}
use Rattle.std.proofs.lemmas.Bool.Decides.{nat_tests}
use Rattle.std.proofs.lemmas.Bool.{and_from, and_parts}
use Rattle.c_tree.specs.declared.types.CType.{CType, roll-CType, map-CType, fold-roll-CType}
use Rattle.c_tree.specs.declared.types.CType.TheOpen.{CType-F}
use Rattle.c_tree.specs.declared.types.CType.TheVariants as t
use Rattle.c_tree.specs.declared.expr.Expr.{Expr, roll-Expr, map-Expr, fold-roll-Expr}
use Rattle.c_tree.specs.declared.expr.Expr.TheOpen.{Expr-F}
use Rattle.c_tree.specs.declared.expr.Expr.TheVariants as e
use Rattle.c_tree.specs.declared.raw.expr.RawExpr.{RawExpr, map-RawExpr, fold-roll-RawExpr}
use Rattle.c_tree.specs.declared.raw.expr.RawExpr.TheOpen.{RawExpr-F}
use Rattle.c_tree.specs.declared.raw.expr.RawLength.{RawLength}
use Rattle.c_tree.specs.declared.raw.expr.RawLength.TheVariants.{Written, Listed}
use Rattle.c_tree.specs.declared.raw.expr.RawType.{RawType, map-RawType, fold-roll-RawType}
use Rattle.c_tree.specs.declared.raw.expr.RawType.TheOpen.{RawType-F}
use Rattle.c_tree.specs.declared.raw.expr.RawType.TheVariants as type
use Rattle.c_tree.specs.declared.raw.program.RawProgram.{RawProgram}
use Rattle.c_tree.proofs.RawTrees.{ExprParts, expr_layer, of_every_expr, TypeParts, type_layer, of_every_type}
use Rattle.c_language.specs.Words.{Bytes, int_words, binary_sign}
use Rattle.c_language.specs.Tokens.{is_feed}
use Rattle.c_language.specs.Scopes.{Scope, meaning_in}
use Rattle.c_language.specs.ConstantEvaluation.{literal_type, literal_value}
use Rattle.c_language.specs.DeclaredTypes.{struct_id, length_in}
use Rattle.c_language.specs.TypeGrammar.{pointed_n}
use Rattle.c_language.specs.ProgramOf.{optional, raw_words_step, raw_words, length_words, ctype_step, ctype_with, ctype, ctype_if, Told, told_step, told_of, variable_number, expr_of}
use Rattle.c_language.proofs.Options.{none_there, some_same, map_there, then_there, both_there}
use Rattle.c_print.specs.Feedless.{feedless, type_step, type_feedless, expr_step, expr_feedless}
use Rattle.c_print.proofs.FeedLemmas.{cat, int_feedless, sign_feedless, signed_feedless}
use Rattle.c_print_laws.proofs.RawFeedless.{raw_expr_step, raw_expr_feedless, raw_length_feedless, raw_type_step, raw_type_feedless, type_by}
use Rattle.c_language.proofs.Lists.{no_list, head_is, tail_is}

-- ---- lists and options

-- what holds of each part of the text, holds of each part of the program
pub all_given : {A B : Type 0} (f : A → Option B) (old : A → Bool) (new : B → Bool) → ((a : A) (b : B) → old a ≡ true → f a ≡ Some b → new b ≡ true)
    → (xs : List A) (ys : List B) → list_all old xs ≡ true → map f xs ≡ map Some ys → list_all new ys ≡ true
all_given f old new one [] [] h is = refl
all_given f old new one [] (y ∷ ys) h is = no_list (sym is)
all_given f old new one (x ∷ xs) [] h is = no_list is
all_given f old new one (x ∷ xs) (y ∷ ys) h is =
    let p = and_parts (old x) (list_all old xs) h in
    and_from _ _ (one x y p.0 (head_is is)) (all_given f old new one xs ys p.1 (tail_is is))

-- a part that isn't missing
pub given : {A : Type 0} (o t : Option A) (ask : Option (Option A)) → ask ≡ Some o → optional ask ≡ Some t → (x : A) × (o ≡ Some x) × (t ≡ Some x)
given None t None is h = none_there is
given None t (Some None) is h = none_there h
given None t (Some (Some a)) is h = none_there (sym (some_same is))
given (Some x) t None is h = none_there is
given (Some x) t (Some None) is h = none_there (some_same is)
given (Some x) t (Some (Some a)) is h = (x, refl, sym (some_same h) ∙ some_same is)

-- ---- decimal digits

glyph_feedless : (low : Bool) (d : ℕ) → not (is_feed (if low then 48 + d else (if false then 55 + d else 87 + d))) ≡ true
glyph_feedless true d = grind (arith, nat_tests)
glyph_feedless false d = grind (arith, nat_tests)

digits_feedless : (k n : ℕ) (acc : Bytes) → feedless acc ≡ true → feedless (digits_onto k 10 false n acc) ≡ true
digits_feedless zero n acc h = h
digits_feedless (suc k) n acc h = by (n / 10 == 0) (and_from _ _ (glyph_feedless (nat_lt (n % 10) 10) (n % 10)) h) (digits_feedless k (n / 10) (digit_glyph false (n % 10) ∷ acc))
  where
    by : (last : Bool) → feedless (digit_glyph false (n % 10) ∷ acc) ≡ true → (feedless (digit_glyph false (n % 10) ∷ acc) ≡ true → feedless (digits_onto k 10 false (n / 10) (digit_glyph false (n % 10) ∷ acc)) ≡ true)
        → feedless (if last then digit_glyph false (n % 10) ∷ acc else digits_onto k 10 false (n / 10) (digit_glyph false (n % 10) ∷ acc)) ≡ true
    by true more rest = more
    by false more rest = rest more

decimal_feedless : (n : ℕ) → feedless (decimal n) ≡ true
unfolding digits
decimal_feedless n = digits_feedless 64 n [] refl

-- ---- the words of an expression of the text

abbrev HasWords : RawExpr → Type 0
HasWords a = raw_expr_feedless a ≡ true → feedless (raw_words a) ≡ true

abbrev words_layer : ExprParts HasWords → RawExpr-F RawExpr
words_layer = expr_layer HasWords

words_case : (y : ExprParts HasWords) → raw_expr_step (map-RawExpr RawExpr Bool raw_expr_feedless (words_layer y)) ≡ true → feedless (raw_words_step (map-RawExpr RawExpr Bytes raw_words (words_layer y))) ≡ true
words_case (RawExpr-F.Constant text) h = h
words_case RawExpr-F.Null h = refl
words_case RawExpr-F.Eof h = refl
words_case (RawExpr-F.Variable name) h = h
words_case (RawExpr-F.Unary op a) h = signed_feedless op (raw_words a.0) (a.1 h)
words_case (RawExpr-F.Deref a) h = a.1 h
words_case (RawExpr-F.AddressOf a) h = a.1 h
words_case (RawExpr-F.Binary op a b) h =
    let p = and_parts (raw_expr_feedless a.0) (raw_expr_feedless b.0) h in
    cat (raw_words a.0) (codes " " ++ (binary_sign op ++ (codes " " ++ raw_words b.0))) (a.1 p.0) (cat (binary_sign op) (codes " " ++ raw_words b.0) (sign_feedless op) (b.1 p.1))
words_case (RawExpr-F.AndAlso a b) h = let p = and_parts (raw_expr_feedless a.0) (raw_expr_feedless b.0) h in cat (raw_words a.0) (codes " && " ++ raw_words b.0) (a.1 p.0) (b.1 p.1)
words_case (RawExpr-F.OrElse a b) h = let p = and_parts (raw_expr_feedless a.0) (raw_expr_feedless b.0) h in cat (raw_words a.0) (codes " || " ++ raw_words b.0) (a.1 p.0) (b.1 p.1)
words_case (RawExpr-F.Choose c a b) h =
    let p = and_parts (raw_expr_feedless c.0) (raw_expr_feedless a.0 && raw_expr_feedless b.0) h in
    let q = and_parts (raw_expr_feedless a.0) (raw_expr_feedless b.0) p.1 in
    cat (raw_words c.0) (codes " ? " ++ (raw_words a.0 ++ (codes " : " ++ raw_words b.0))) (c.1 p.0) (cat (raw_words a.0) (codes " : " ++ raw_words b.0) (a.1 q.0) (b.1 q.1))
words_case (RawExpr-F.Cast t a) h = cat (int_words t) (codes ")" ++ raw_words a.0) (int_feedless t) (a.1 h)
words_case (RawExpr-F.Index a i) h = let p = and_parts (raw_expr_feedless a.0) (raw_expr_feedless i.0) h in cat (raw_words a.0) (codes "[" ++ (raw_words i.0 ++ codes "]")) (a.1 p.0) (cat (raw_words i.0) (codes "]") (i.1 p.1) refl)
words_case (RawExpr-F.Member a m) h = let p = and_parts (raw_expr_feedless a.0) (feedless m) h in cat (raw_words a.0) (codes "." ++ m) (a.1 p.0) p.1
words_case (RawExpr-F.Arrow a m) h = let p = and_parts (raw_expr_feedless a.0) (feedless m) h in cat (raw_words a.0) (codes "->" ++ m) (a.1 p.0) p.1
words_case (RawExpr-F.Paren a) h = cat (raw_words a.0) (codes ")") (a.1 h) refl

raw_words_feedless : (a : RawExpr) → HasWords a
raw_words_feedless = of_every_expr HasWords (λ y h.
    ap feedless (fold-roll-RawExpr Bytes raw_words_step (words_layer y)) ∙ words_case y (sym (fold-roll-RawExpr Bool raw_expr_step (words_layer y)) ∙ h))

length_feedless : (items : ℕ) (n : RawLength) → raw_length_feedless n ≡ true → feedless (length_words items n) ≡ true
length_feedless items (Written a) h = raw_words_feedless a h
length_feedless items Listed h = decimal_feedless items

-- ---- types

-- a type of the program by its outermost form
ctype_by : {a c : CType} (y : CType-F CType) → roll-CType y ≡ a → a ≡ c → type_step (map-CType CType Bool type_feedless y) ≡ true → type_feedless c ≡ true
ctype_by y is same h = ap type_feedless (sym (is ∙ same)) ∙ fold-roll-CType Bool type_step y ∙ h

module _ (raw : RawProgram) (items : ℕ) where
  abbrev GivesType : RawType → Type 0
  GivesType a = raw_type_feedless a ≡ true → (c : CType) → ctype_with raw items a ≡ Some c → type_feedless c ≡ true

  type_case : (y : TypeParts GivesType) → raw_type_step (map-RawType RawType Bool raw_type_feedless (type_layer GivesType y)) ≡ true
      → (c : CType) → ctype_step raw items (map-RawType RawType (Option CType) (ctype_with raw items) (type_layer GivesType y)) ≡ Some c → type_feedless c ≡ true
  type_case (RawType-F.Integer i) h c is = ctype_by (CType-F.Integer i) (t.rolls-Integer i) (some_same is) refl
  type_case (RawType-F.PointerTo a) h c is =
      let g = map_there t.PointerTo (ctype_with raw items a.0) c is in ctype_by (CType-F.PointerTo g.value) (t.rolls-PointerTo g.value) g.same (a.1 h g.value g.there)
  type_case (RawType-F.Array a n) h c is =
      let words = length_words items n in
      let p = and_parts (raw_type_feedless a.0) (raw_length_feedless n) h in
      let g = both_there (λ (b : CType) (k : ℕ). t.Array b k words) (ctype_with raw items a.0) (length_in items n) c is in
      ctype_by (CType-F.Array g.left g.right words) (t.rolls-Array g.left g.right words) g.same (and_from _ _ (length_feedless items n p.1) (a.1 p.0 g.left g.left_there))
  type_case (RawType-F.Struct tag) h c is = let g = map_there t.Struct (struct_id raw tag) c is in ctype_by (CType-F.Struct g.value) (t.rolls-Struct g.value) g.same refl

  pub type_given : (a : RawType) → GivesType a
  type_given = of_every_type GivesType (λ y h c is.
      let l = type_layer GivesType y in
      type_case y (sym (fold-roll-RawType Bool raw_type_step l) ∙ h) c (sym (fold-roll-RawType (Option CType) (ctype_step raw items) l) ∙ is))

pub pointed_feedless : (n : ℕ) (a : RawType) → raw_type_feedless a ≡ true → raw_type_feedless (pointed_n n a) ≡ true
pointed_feedless zero a h = h
pointed_feedless (suc n) a h = pointed_feedless n (type.PointerTo a) (type_by (RawType-F.PointerTo a) (type.rolls-PointerTo a) h)

pub optional_type_given : (raw : RawProgram) (a : Option RawType) (c : Option CType) → option_map_or raw_type_feedless a true ≡ true → ctype_if raw a ≡ Some c → option_map_or type_feedless c true ≡ true
optional_type_given raw None c h is = ap (λ (o : Option CType). option_map_or type_feedless o true) (sym (some_same is))
optional_type_given raw (Some a) c h is =
    let g = given (ctype raw a) c (Some (ctype raw a)) refl is in
    ap (λ (o : Option CType). option_map_or type_feedless o true) g.2 ∙ type_given raw 0 a h g.0 g.1

-- ---- expressions

-- an expression of the program by its outermost form
tree_by : {a x : Expr} (y : Expr-F Expr) → roll-Expr y ≡ a → a ≡ x → expr_step (map-Expr Expr Bool expr_feedless y) ≡ true → expr_feedless x ≡ true
tree_by y is same h = ap expr_feedless (sym (is ∙ same)) ∙ fold-roll-Expr Bool expr_step y ∙ h

module _ (raw : RawProgram) (scope : Scope) where
  abbrev GivesExpr : RawExpr → Type 0
  GivesExpr a = raw_expr_feedless a ≡ true → (x : Expr) → expr_of raw scope a ≡ Some x → expr_feedless x ≡ true

  expr_case : (y : ExprParts GivesExpr) → raw_expr_step (map-RawExpr RawExpr Bool raw_expr_feedless (expr_layer GivesExpr y)) ≡ true
      → (x : Expr) → (told_step raw scope (map-RawExpr RawExpr Told (told_of raw scope) (expr_layer GivesExpr y))).tree ≡ Some x → expr_feedless x ≡ true
  expr_case (RawExpr-F.Constant text) h x is = tree_by (Expr-F.Constant text (literal_type text) (literal_value text)) (e.rolls-Constant text (literal_type text) (literal_value text)) (some_same is) h
  expr_case RawExpr-F.Null h x is = tree_by Expr-F.Null e.rolls-Null (some_same is) refl
  expr_case RawExpr-F.Eof h x is = tree_by Expr-F.Eof e.rolls-Eof (some_same is) refl
  expr_case (RawExpr-F.Variable name) h x is = let g = map_there e.Variable (variable_number (meaning_in scope name)) x is in tree_by (Expr-F.Variable g.value) (e.rolls-Variable g.value) g.same refl
  expr_case (RawExpr-F.Unary op a) h x is = let g = map_there (e.Unary op) (told_of raw scope a.0).tree x is in tree_by (Expr-F.Unary op g.value) (e.rolls-Unary op g.value) g.same (a.1 h g.value g.there)
  expr_case (RawExpr-F.Deref a) h x is = let g = map_there e.Deref (told_of raw scope a.0).tree x is in tree_by (Expr-F.Deref g.value) (e.rolls-Deref g.value) g.same (a.1 h g.value g.there)
  expr_case (RawExpr-F.AddressOf a) h x is = let g = map_there e.AddressOf (told_of raw scope a.0).tree x is in tree_by (Expr-F.AddressOf g.value) (e.rolls-AddressOf g.value) g.same (a.1 h g.value g.there)
  expr_case (RawExpr-F.Binary op a b) h x is =
      let p = and_parts (raw_expr_feedless a.0) (raw_expr_feedless b.0) h in
      let g = both_there (e.Binary op) (told_of raw scope a.0).tree (told_of raw scope b.0).tree x is in
      tree_by (Expr-F.Binary op g.left g.right) (e.rolls-Binary op g.left g.right) g.same (and_from _ _ (a.1 p.0 g.left g.left_there) (b.1 p.1 g.right g.right_there))
  expr_case (RawExpr-F.AndAlso a b) h x is =
      let p = and_parts (raw_expr_feedless a.0) (raw_expr_feedless b.0) h in
      let g = both_there e.AndAlso (told_of raw scope a.0).tree (told_of raw scope b.0).tree x is in
      tree_by (Expr-F.AndAlso g.left g.right) (e.rolls-AndAlso g.left g.right) g.same (and_from _ _ (a.1 p.0 g.left g.left_there) (b.1 p.1 g.right g.right_there))
  expr_case (RawExpr-F.OrElse a b) h x is =
      let p = and_parts (raw_expr_feedless a.0) (raw_expr_feedless b.0) h in
      let g = both_there e.OrElse (told_of raw scope a.0).tree (told_of raw scope b.0).tree x is in
      tree_by (Expr-F.OrElse g.left g.right) (e.rolls-OrElse g.left g.right) g.same (and_from _ _ (a.1 p.0 g.left g.left_there) (b.1 p.1 g.right g.right_there))
  expr_case (RawExpr-F.Choose c a b) h x is =
      let p = and_parts (raw_expr_feedless c.0) (raw_expr_feedless a.0 && raw_expr_feedless b.0) h in
      let q = and_parts (raw_expr_feedless a.0) (raw_expr_feedless b.0) p.1 in
      let f = then_there _ (told_of raw scope c.0).tree x is in
      let g = both_there (e.Choose f.value) (told_of raw scope a.0).tree (told_of raw scope b.0).tree x f.same in
      tree_by (Expr-F.Choose f.value g.left g.right) (e.rolls-Choose f.value g.left g.right) g.same
      (and_from _ _ (c.1 p.0 f.value f.there) (and_from _ _ (a.1 q.0 g.left g.left_there) (b.1 q.1 g.right g.right_there)))
  expr_case (RawExpr-F.Cast i a) h x is = let g = map_there (e.Cast i) (told_of raw scope a.0).tree x is in tree_by (Expr-F.Cast i g.value) (e.rolls-Cast i g.value) g.same (a.1 h g.value g.there)
  expr_case (RawExpr-F.Index a b) h x is =
      let p = and_parts (raw_expr_feedless a.0) (raw_expr_feedless b.0) h in
      let g = both_there e.Index (told_of raw scope a.0).tree (told_of raw scope b.0).tree x is in
      tree_by (Expr-F.Index g.left g.right) (e.rolls-Index g.left g.right) g.same (and_from _ _ (a.1 p.0 g.left g.left_there) (b.1 p.1 g.right g.right_there))
  expr_case (RawExpr-F.Member a m) h x is =
      let p = and_parts (raw_expr_feedless a.0) (feedless m) h in
      let f = then_there _ (told_of raw scope a.0).tree x is in
      let g = map_there (e.Member f.value) _ x f.same in
      tree_by (Expr-F.Member f.value g.value) (e.rolls-Member f.value g.value) g.same (a.1 p.0 f.value f.there)
  expr_case (RawExpr-F.Arrow a m) h x is =
      let p = and_parts (raw_expr_feedless a.0) (feedless m) h in
      let f = then_there _ (told_of raw scope a.0).tree x is in
      let g = map_there (e.Arrow f.value) _ x f.same in
      tree_by (Expr-F.Arrow f.value g.value) (e.rolls-Arrow f.value g.value) g.same (a.1 p.0 f.value f.there)
  expr_case (RawExpr-F.Paren a) h x is = let g = map_there e.Paren (told_of raw scope a.0).tree x is in tree_by (Expr-F.Paren g.value) (e.rolls-Paren g.value) g.same (a.1 h g.value g.there)

  pub expr_given : (a : RawExpr) → GivesExpr a
  expr_given = of_every_expr GivesExpr (λ y h x is.
      let l = expr_layer GivesExpr y in
      expr_case y (sym (fold-roll-RawExpr Bool raw_expr_step l) ∙ h) x (ap (λ (o : Told). o.tree) (sym (fold-roll-RawExpr Told (told_step raw scope) l)) ∙ is))
