-- The words of a program whose texts hold no line feed hold none.
use Rattle.std.proofs.Common.{◌≡◌, ℕ, zero, suc, List, [], ◌∷◌, ◌++◌, map, slice_get, Bool, true, false, ◌&&◌, not, Option, Some, None, codes, refl, sym, ap, subst, ◌∙◌, arith}
use Rattle.std.specs.List.{list_all}
use Rattle.std.specs.Option.{option_map_or}
use Rattle.std.proofs.lemmas.Bool.{and_parts}
use Rattle.std.proofs.lemmas.List.Folds.{list_all-append}
use Rattle.std.proofs.lemmas.List.Sums.{sum_by-cons}
use Rattle.std.specs.Prelude.{cond, if◌then◌else◌, length}
use Rattle.c_arith.specs.declared.int_type.IntType.{IntType}
use Rattle.c_arith.specs.declared.int_type.IntType.TheVariants.{Char, UChar, Short, UShort, Int, UInt, Long, ULong}
use Rattle.c_arith.specs.declared.operators.UnaryOp.{UnaryOp}
use Rattle.c_arith.specs.declared.operators.UnaryOp.TheVariants.{Plus, Minus, Flip, Not}
use Rattle.c_arith.specs.declared.operators.BinaryOp.{BinaryOp}
use Rattle.c_arith.specs.declared.operators.BinaryOp.TheVariants.{Mul, Div, Rem, Add, Sub, Shl, Shr, Less, Greater, AtMost, AtLeast, Equal, Unequal, And, Xor, Or}
use Rattle.c_tree.specs.declared.types.CType.{CType, ind-CType, roll-CType, map-CType, fold-roll-CType}
use Rattle.c_tree.specs.declared.types.CType.TheOpen.{CType-F}
use Rattle.c_tree.specs.declared.expr.Expr.{Expr, ind-Expr, roll-Expr, map-Expr, fold-roll-Expr}
use Rattle.c_tree.specs.declared.expr.Expr.TheOpen.{Expr-F}
use Rattle.c_tree.specs.declared.expr.MemberId.{MemberId}
use Rattle.c_tree.specs.declared.program.Program.{Program}
use Rattle.c_tree.specs.declared.program.Var.{Var}
use Rattle.c_tree.specs.declared.program.Member.{Member}
use Rattle.c_tree.specs.declared.program.StructDef.{StructDef}
use Rattle.c_tree.specs.declared.program.Init.{Init}
use Rattle.c_tree.specs.declared.program.Init.TheVariants as init
use Rattle.c_tree.specs.declared.statement.Target.{Target}
use Rattle.c_tree.specs.declared.statement.Target.TheVariants as target
use Rattle.c_tree.specs.declared.statement.Size.{Size}
use Rattle.c_tree.specs.declared.statement.Size.TheVariants as size
use Rattle.c_tree.specs.declared.statement.Amount.{Amount}
use Rattle.c_tree.specs.declared.statement.Amount.TheVariants as amount
use Rattle.c_tree.specs.declared.statement.Label.{Label}
use Rattle.c_tree.specs.declared.statement.Label.TheVariants as label
use Rattle.c_tree.specs.declared.statement.Arm.{Arm, fold-Arm}
use Rattle.c_language.specs.Words.{Bytes, joined, assign_sign, int_words, binary_sign, signed, begins_with, name_of_var, name_of_function, name_of_struct, name_of_member, declared, base_step, base_words, stars_step, stars, lengths_step, lengths, spaced_stars, type_words, expr_step, expr_words}
use Rattle.c_language.specs.Tokens.{is_feed, line_feeds}
use Rattle.c_language.specs.Layout.{indent, line, init_words, var_words, target_words, size_words, amount_words, cast_words, call_words, bump_words, return_words, label_words, label_lines}
use Rattle.c_print.specs.Feedless.{feedless, statement_step, arm_step, type_step, type_feedless, expr_feedless, init_feedless, target_feedless, size_feedless, amount_feedless, label_feedless, var_feedless, member_feedless, struct_feedless, function_feedless, IsFeedless}
use Rattle.c_print.specs.Feedless as spec
use Rattle.c_language.proofs.Lists.{feeds-append}

-- no text of the arm holds a line feed
abbrev pub arm_feedless : Arm → Bool
arm_feedless = fold-Arm Bool Bool statement_step arm_step

-- ---- bytes

pub cat : (a b : Bytes) → feedless a ≡ true → feedless b ≡ true → feedless (a ++ b) ≡ true
cat a b f g = list_all-append (λ x. not (is_feed x)) a b ∙ rw (f, g) refl

feeds_cons : (b : ℕ) (bs : Bytes) (is : Bool) → is_feed b ≡ is → not is ≡ true → line_feeds bs ≡ 0 → line_feeds (b ∷ bs) ≡ 0
feeds_cons b bs true e h r = absurd cc
feeds_cons b bs false e h r = sum_by-cons (λ x. cond (is_feed x) 1 0) b bs ∙ rw (e, r) refl

pub no_feeds : (bs : Bytes) → feedless bs ≡ true → line_feeds bs ≡ 0
no_feeds [] h = refl
no_feeds (b ∷ bs) h = let both = and_parts (not (is_feed b)) (feedless bs) h in feeds_cons b bs (is_feed b) refl both.0 (no_feeds bs both.1)

pub indent_feedless : (n : ℕ) → feedless (indent n) ≡ true
indent_feedless zero = refl
indent_feedless (suc n) = indent_feedless n

pub indent_feeds : (n : ℕ) → line_feeds (indent n) ≡ 0
indent_feeds n = no_feeds (indent n) (indent_feedless n)

-- a line has one line feed
pub line_feeds-line : (n : ℕ) (w : Bytes) → feedless w ≡ true → line_feeds (line n w) ≡ 1
line_feeds-line n w h =
    let last : line_feeds (10 ∷ []) ≡ 1 = refl in
    omega (arith, feeds-append (indent n) (w ++ 10 ∷ []), feeds-append w (10 ∷ []), indent_feeds n, no_feeds w h, last)

-- ---- signs

pub int_feedless : (t : IntType) → feedless (int_words t) ≡ true
int_feedless Char = refl
int_feedless UChar = refl
int_feedless Short = refl
int_feedless UShort = refl
int_feedless Int = refl
int_feedless UInt = refl
int_feedless Long = refl
int_feedless ULong = refl

pub sign_feedless : (op : BinaryOp) → feedless (binary_sign op) ≡ true
sign_feedless Mul = refl
sign_feedless Div = refl
sign_feedless Rem = refl
sign_feedless Add = refl
sign_feedless Sub = refl
sign_feedless Shl = refl
sign_feedless Shr = refl
sign_feedless Less = refl
sign_feedless Greater = refl
sign_feedless AtMost = refl
sign_feedless AtLeast = refl
sign_feedless Equal = refl
sign_feedless Unequal = refl
sign_feedless And = refl
sign_feedless Xor = refl
sign_feedless Or = refl

pub assign_feedless : (op : Option BinaryOp) → feedless (assign_sign op) ≡ true
assign_feedless None = refl
assign_feedless (Some op) = cat (binary_sign op) (codes "=") (sign_feedless op) refl

plus_feedless : (joins : Bool) (a : Bytes) → feedless a ≡ true → feedless (if joins then codes "+ " ++ a else codes "+" ++ a) ≡ true
plus_feedless true a h = h
plus_feedless false a h = h

minus_feedless : (joins : Bool) (a : Bytes) → feedless a ≡ true → feedless (if joins then codes "- " ++ a else codes "-" ++ a) ≡ true
minus_feedless true a h = h
minus_feedless false a h = h

pub signed_feedless : (op : UnaryOp) (a : Bytes) → feedless a ≡ true → feedless (signed op a) ≡ true
signed_feedless Plus a h = plus_feedless (begins_with 43 a) a h
signed_feedless Minus a h = minus_feedless (begins_with 45 a) a h
signed_feedless Flip a h = h
signed_feedless Not a h = h

-- ---- lists

-- the words of what is found, if there is one
pub found_feedless : {X : Type 0} (test : X → Bool) (words : X → Bytes) → ((x : X) → test x ≡ true → feedless (words x) ≡ true) → (xs : List X) → list_all test xs ≡ true → (n : ℕ)
    → feedless (option_map_or words (slice_get xs n) []) ≡ true
found_feedless test words h [] all n = refl
found_feedless test words h (x ∷ xs) all zero = h x (and_parts (test x) (list_all test xs) all).0
found_feedless test words h (x ∷ xs) all (suc n) = found_feedless test words h xs (and_parts (test x) (list_all test xs) all).1 n

pub joined_feedless : (between : Bytes) (all : List Bytes) → feedless between ≡ true → list_all feedless all ≡ true → feedless (joined between all) ≡ true
joined_feedless between [] b h = refl
joined_feedless between (x ∷ []) b h = (and_parts (feedless x) true h).0
joined_feedless between (x ∷ (y ∷ all)) b h =
    let both = and_parts (feedless x) (list_all feedless (y ∷ all)) h in
    cat x (between ++ joined between (y ∷ all)) both.0 (cat between (joined between (y ∷ all)) b (joined_feedless between (y ∷ all) b both.1))

pub map_feedless : {X : Type 0} (test : X → Bool) (words : X → Bytes) → ((x : X) → test x ≡ true → feedless (words x) ≡ true) → (xs : List X) → list_all test xs ≡ true → list_all feedless (map words xs) ≡ true
map_feedless test words h [] all = refl
map_feedless test words h (x ∷ xs) all =
    let both = and_parts (test x) (list_all test xs) all in rw (h x both.0, map_feedless test words h xs both.1) refl

pub call_feedless : (name : Bytes) (args : List Bytes) → feedless name ≡ true → list_all feedless args ≡ true → feedless (call_words name args) ≡ true
call_feedless name args h k =
    let inside = joined (codes ", ") args in
    cat name (codes "(" ++ (inside ++ codes ")")) h (cat inside (codes ")") (joined_feedless (codes ", ") args refl k) refl)

module _ (p : Program) (ok : IsFeedless p) where
  -- ---- names

  name_of_var_feedless : (x : ℕ) → feedless (name_of_var p x) ≡ true
  name_of_var_feedless = found_feedless var_feedless (λ v. v.name) (λ v h. (and_parts (feedless v.name) (type_feedless v.shape) h).0) p.vars ok.vars

  name_of_function_feedless : (f : ℕ) → feedless (name_of_function p f) ≡ true
  name_of_function_feedless = found_feedless function_feedless (λ g. g.name) (λ g h. (and_parts _ _ h).0) p.functions ok.functions

  pub name_of_struct_feedless : (s : ℕ) → feedless (name_of_struct p s) ≡ true
  name_of_struct_feedless = found_feedless struct_feedless (λ d. d.name) (λ d h. (and_parts _ _ h).0) p.structs ok.structs

  name_of_member_feedless : (m : MemberId) → feedless (name_of_member p m) ≡ true
  name_of_member_feedless m =
      found_feedless struct_feedless (λ (d : StructDef). option_map_or (λ (x : Member). x.name) (slice_get d.members m.index) [])
      (λ d h. found_feedless member_feedless (λ (x : Member). x.name) (λ x k. (and_parts _ _ k).0) d.members (and_parts _ _ h).1 m.index) p.structs ok.structs m.owner

  -- ---- types

  abbrev HasBase : CType → Type 0
  HasBase t = feedless (base_words p t) ≡ true

  base_case : (y : CType-F ((a : CType) × HasBase a)) → HasBase (roll-CType (map-CType ((a : CType) × HasBase a) CType (λ a. a.0) y))
  base_case (CType-F.Integer t) = ap feedless (fold-roll-CType Bytes (base_step p) (CType-F.Integer t)) ∙ int_feedless t
  base_case (CType-F.PointerTo a) = ap feedless (fold-roll-CType Bytes (base_step p) (CType-F.PointerTo a.0)) ∙ a.1
  base_case (CType-F.Array a n w) = ap feedless (fold-roll-CType Bytes (base_step p) (CType-F.Array a.0 n w)) ∙ a.1
  base_case (CType-F.Struct s) = ap feedless (fold-roll-CType Bytes (base_step p) (CType-F.Struct s)) ∙ name_of_struct_feedless s

  base_feedless : (t : CType) → HasBase t
  base_feedless = ind-CType HasBase (λ x y is. subst (λ z. HasBase (roll-CType z)) is (base_case y))

  abbrev HasStars : CType → Type 0
  HasStars t = feedless (stars t) ≡ true

  stars_case : (y : CType-F ((a : CType) × HasStars a)) → HasStars (roll-CType (map-CType ((a : CType) × HasStars a) CType (λ a. a.0) y))
  stars_case (CType-F.Integer t) = ap feedless (fold-roll-CType Bytes stars_step (CType-F.Integer t))
  stars_case (CType-F.PointerTo a) = ap feedless (fold-roll-CType Bytes stars_step (CType-F.PointerTo a.0)) ∙ a.1
  stars_case (CType-F.Array a n w) = ap feedless (fold-roll-CType Bytes stars_step (CType-F.Array a.0 n w)) ∙ a.1
  stars_case (CType-F.Struct s) = ap feedless (fold-roll-CType Bytes stars_step (CType-F.Struct s))

  stars_feedless : (t : CType) → HasStars t
  stars_feedless = ind-CType HasStars (λ x y is. subst (λ z. HasStars (roll-CType z)) is (stars_case y))

  abbrev HasLengths : CType → Type 0
  HasLengths t = type_feedless t ≡ true → feedless (lengths t) ≡ true

  lengths_case : (y : CType-F ((a : CType) × HasLengths a)) → HasLengths (roll-CType (map-CType ((a : CType) × HasLengths a) CType (λ a. a.0) y))
  lengths_case (CType-F.Integer t) h = ap feedless (fold-roll-CType Bytes lengths_step (CType-F.Integer t))
  lengths_case (CType-F.PointerTo a) h = ap feedless (fold-roll-CType Bytes lengths_step (CType-F.PointerTo a.0))
  lengths_case (CType-F.Array a n w) h =
      let both = and_parts (feedless w) (type_feedless a.0) (sym (fold-roll-CType Bool type_step (CType-F.Array a.0 n w)) ∙ h) in
      ap feedless (fold-roll-CType Bytes lengths_step (CType-F.Array a.0 n w)) ∙ cat w (codes "]" ++ lengths a.0) both.0 (a.1 both.1)
  lengths_case (CType-F.Struct s) h = ap feedless (fold-roll-CType Bytes lengths_step (CType-F.Struct s))

  lengths_feedless : (t : CType) → HasLengths t
  lengths_feedless = ind-CType HasLengths (λ x y is. subst (λ z. HasLengths (roll-CType z)) is (lengths_case y))

  pub declared_feedless : (t : CType) (name : Bytes) → feedless name ≡ true → type_feedless t ≡ true → feedless (declared p t name) ≡ true
  declared_feedless t name n h =
      cat (base_words p t) (codes " " ++ (stars t ++ (name ++ lengths t))) (base_feedless t) (cat (stars t) (name ++ lengths t) (stars_feedless t) (cat name (lengths t) n (lengths_feedless t h)))

  spaced_feedless : (w : Bytes) → feedless w ≡ true → feedless (spaced_stars w) ≡ true
  spaced_feedless [] h = refl
  spaced_feedless (b ∷ bs) h = h

  pub result_feedless : (t : CType) → feedless (base_words p t ++ (codes " " ++ stars t)) ≡ true
  result_feedless t = cat (base_words p t) (codes " " ++ stars t) (base_feedless t) (stars_feedless t)

  pub type_words_feedless : (t : CType) → feedless (type_words p t) ≡ true
  type_words_feedless t = cat (base_words p t) (spaced_stars (stars t)) (base_feedless t) (spaced_feedless (stars t) (stars_feedless t))

  pub var_words_feedless : (x : ℕ) → feedless (var_words p x) ≡ true
  var_words_feedless = found_feedless var_feedless (λ (v : Var). declared p v.shape v.name) (λ v h. declared_feedless v.shape v.name (and_parts _ _ h).0 (and_parts _ _ h).1) p.vars ok.vars

  -- ---- expressions

  abbrev HasWords : Expr → Type 0
  HasWords a = expr_feedless a ≡ true → feedless (expr_words p a) ≡ true

  abbrev Layer : Type 0
  Layer = Expr-F ((a : Expr) × HasWords a)

  abbrev bare : Layer → Expr-F Expr
  bare = map-Expr ((a : Expr) × HasWords a) Expr (λ a. a.0)

  expr_case : (y : Layer) → spec.expr_step (map-Expr Expr Bool expr_feedless (bare y)) ≡ true → feedless (expr_step p (map-Expr Expr Bytes (expr_words p) (bare y))) ≡ true
  expr_case (Expr-F.Constant text t v) h = h
  expr_case Expr-F.Null h = refl
  expr_case Expr-F.Eof h = refl
  expr_case (Expr-F.Variable x) h = name_of_var_feedless x
  expr_case (Expr-F.Unary op a) h = signed_feedless op (expr_words p a.0) (a.1 h)
  expr_case (Expr-F.Deref a) h = a.1 h
  expr_case (Expr-F.AddressOf a) h = a.1 h
  expr_case (Expr-F.Binary op a b) h = let both = and_parts (expr_feedless a.0) (expr_feedless b.0) h in cat (expr_words p a.0) (codes " " ++ (binary_sign op ++ (codes " " ++ expr_words p b.0))) (a.1 both.0) (cat (binary_sign op) (codes " " ++ expr_words p b.0) (sign_feedless op) (b.1 both.1))
  expr_case (Expr-F.AndAlso a b) h = let both = and_parts (expr_feedless a.0) (expr_feedless b.0) h in cat (expr_words p a.0) (codes " && " ++ expr_words p b.0) (a.1 both.0) (b.1 both.1)
  expr_case (Expr-F.OrElse a b) h = let both = and_parts (expr_feedless a.0) (expr_feedless b.0) h in cat (expr_words p a.0) (codes " || " ++ expr_words p b.0) (a.1 both.0) (b.1 both.1)
  expr_case (Expr-F.Choose c a b) h =
      let both = and_parts (expr_feedless c.0) (expr_feedless a.0 && expr_feedless b.0) h in
      let others = and_parts (expr_feedless a.0) (expr_feedless b.0) both.1 in
      cat (expr_words p c.0) (codes " ? " ++ (expr_words p a.0 ++ (codes " : " ++ expr_words p b.0))) (c.1 both.0) (cat (expr_words p a.0) (codes " : " ++ expr_words p b.0) (a.1 others.0) (b.1 others.1))
  expr_case (Expr-F.Cast t a) h = cat (int_words t) (codes ")" ++ expr_words p a.0) (int_feedless t) (a.1 h)
  expr_case (Expr-F.Index a i) h = let both = and_parts (expr_feedless a.0) (expr_feedless i.0) h in cat (expr_words p a.0) (codes "[" ++ (expr_words p i.0 ++ codes "]")) (a.1 both.0) (cat (expr_words p i.0) (codes "]") (i.1 both.1) refl)
  expr_case (Expr-F.Member a m) h = cat (expr_words p a.0) (codes "." ++ name_of_member p m) (a.1 h) (name_of_member_feedless m)
  expr_case (Expr-F.Arrow a m) h = cat (expr_words p a.0) (codes "->" ++ name_of_member p m) (a.1 h) (name_of_member_feedless m)
  expr_case (Expr-F.Paren a) h = cat (expr_words p a.0) (codes ")") (a.1 h) refl

  expr_layer : (y : Layer) → HasWords (roll-Expr (bare y))
  expr_layer y h = ap feedless (fold-roll-Expr Bytes (expr_step p) (bare y)) ∙ expr_case y (sym (fold-roll-Expr Bool spec.expr_step (bare y)) ∙ h)

  pub expr_words_feedless : (a : Expr) → HasWords a
  expr_words_feedless = ind-Expr HasWords (λ x y is. subst (λ z. HasWords (roll-Expr z)) is (expr_layer y))

  pub args_feedless : (es : List Expr) → list_all expr_feedless es ≡ true → list_all feedless (map (expr_words p) es) ≡ true
  args_feedless = map_feedless expr_feedless (expr_words p) expr_words_feedless

  -- ---- parts of statements

  pub init_words_feedless : (i : Init) → init_feedless i ≡ true → feedless (init_words p i) ≡ true
  init_words_feedless init.None h = refl
  init_words_feedless (init.One e) h = expr_words_feedless e h
  init_words_feedless (init.Items es) h = cat (joined (codes ", ") (map (expr_words p) es)) (codes "}") (joined_feedless (codes ", ") (map (expr_words p) es) refl (args_feedless es h)) refl

  pub target_words_feedless : (t : Target) → target_feedless t ≡ true → feedless (target_words p t) ≡ true
  target_words_feedless target.None h = refl
  target_words_feedless (target.Place e) h = cat (expr_words p e) (codes " = ") (expr_words_feedless e h) refl
  target_words_feedless (target.Declared x) h = cat (var_words p x) (codes " = ") (var_words_feedless x) refl

  size_words_feedless : (x : Size) → size_feedless x ≡ true → feedless (size_words p x) ≡ true
  size_words_feedless (size.Type t) h = cat (type_words p t) (codes ")") (type_words_feedless t) refl
  size_words_feedless (size.Pointee x true) h = cat (name_of_var p x) (codes ")") (name_of_var_feedless x) refl
  size_words_feedless (size.Pointee x false) h = name_of_var_feedless x

  pub amount_words_feedless : (a : Amount) → amount_feedless a ≡ true → feedless (amount_words p a) ≡ true
  amount_words_feedless (amount.Size x) h = size_words_feedless x h
  amount_words_feedless (amount.CountSize e x) h = cat (expr_words p e) (codes " * " ++ size_words p x) (expr_words_feedless e (and_parts _ _ h).0) (size_words_feedless x (and_parts _ _ h).1)
  amount_words_feedless (amount.SizeCount x e) h = cat (size_words p x) (codes " * " ++ expr_words p e) (size_words_feedless x (and_parts _ _ h).0) (expr_words_feedless e (and_parts _ _ h).1)
  amount_words_feedless (amount.Count e) h = expr_words_feedless e h

  pub cast_words_feedless : (t : Option CType) → feedless (cast_words p t) ≡ true
  cast_words_feedless None = refl
  cast_words_feedless (Some t) = cat (type_words p t) (codes ")") (type_words_feedless t) refl

  pub bump_words_feedless : (w : Bytes) (up before : Bool) → feedless w ≡ true → feedless (bump_words w up before) ≡ true
  bump_words_feedless w true true h = h
  bump_words_feedless w true false h = cat w (codes "++") h refl
  bump_words_feedless w false true h = h
  bump_words_feedless w false false h = cat w (codes "--") h refl

  pub return_words_feedless : (e : Option Expr) → option_map_or expr_feedless e true ≡ true → feedless (return_words p e) ≡ true
  return_words_feedless None h = refl
  return_words_feedless (Some e) h = expr_words_feedless e h

  pub call_of_feedless : (f : ℕ) (es : List Expr) → list_all expr_feedless es ≡ true → feedless (call_words (name_of_function p f) (map (expr_words p) es)) ≡ true
  call_of_feedless f es h = call_feedless (name_of_function p f) (map (expr_words p) es) (name_of_function_feedless f) (args_feedless es h)

  label_words_feedless : (l : Label) → label_feedless l ≡ true → feedless (label_words p l) ≡ true
  label_words_feedless (label.Case e v) h = cat (expr_words p e) (codes ":") (expr_words_feedless e h) refl
  label_words_feedless label.Default h = refl

  -- a line for each label
  pub label_feeds : (ls : List Label) (n : ℕ) → list_all label_feedless ls ≡ true → line_feeds (label_lines p ls n) ≡ length ls
  label_feeds [] n h = refl
  label_feeds (l ∷ ls) n h =
      let both = and_parts (label_feedless l) (list_all label_feedless ls) h in
      omega (arith, feeds-append (line n (label_words p l)) (label_lines p ls n), line_feeds-line n (label_words p l) (label_words_feedless l both.0), label_feeds ls n both.1)
