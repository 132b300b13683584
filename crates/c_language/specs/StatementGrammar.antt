-- Which tokens a statement has (ISO C99 6.7, 6.8). The relations hold between the tokens from a place on, a tree, and the tokens behind that tree.
use Rattle.std.specs.Prelude.{◌≡◌, ℕ, Bool, true, false, ◌&&◌, not, List, [], ◌∷◌, ◌++◌, codes, Option, Some, None}
use Rattle.std.specs.Str.{bytes_eq}
use Rattle.c_arith.specs.declared.operators.BinaryOp.{BinaryOp}
use Rattle.c_arith.specs.declared.operators.BinaryOp.TheVariants.{Mul, Div, Rem, Add, Sub, Shl, Shr, Less, Greater, AtMost, AtLeast, Equal, Unequal, And, Xor, Or}
use Rattle.c_tree.specs.declared.raw.expr.RawExpr.{RawExpr}
use Rattle.c_tree.specs.declared.raw.expr.RawType.{RawType}
use Rattle.c_tree.specs.declared.raw.expr.RawVar.{RawVar}
use Rattle.c_tree.specs.declared.raw.program.RawInit.TheVariants as init
use Rattle.c_tree.specs.declared.raw.statement.RawTarget.TheVariants as target
use Rattle.c_tree.specs.declared.raw.statement.RawArg.{RawArg}
use Rattle.c_tree.specs.declared.raw.statement.RawArg.TheVariants.{Value, Literal}
use Rattle.c_tree.specs.declared.raw.statement.RawTypeName.{RawTypeName}
use Rattle.c_tree.specs.declared.raw.statement.RawSize.{RawSize}
use Rattle.c_tree.specs.declared.raw.statement.RawSize.TheVariants as size
use Rattle.c_tree.specs.declared.raw.statement.RawAmount.{RawAmount}
use Rattle.c_tree.specs.declared.raw.statement.RawAmount.TheVariants as amount
use Rattle.c_tree.specs.declared.raw.statement.RawLabel.{RawLabel}
use Rattle.c_tree.specs.declared.raw.statement.RawLabel.TheVariants.{Case, Default}
use Rattle.c_tree.specs.declared.raw.statement.RawArm.{RawArm, roll-RawArm}
use Rattle.c_tree.specs.declared.raw.statement.RawStatement.{RawStatement}
use Rattle.c_tree.specs.declared.raw.statement.RawStatement.TheVariants as s
use Rattle.c_language.specs.Words.{Bytes, assign_sign, bump_sign}
use Rattle.c_language.specs.TokenForms.{Tokens, name, mark, string, line_of}
use Rattle.c_language.specs.Sees.{sees, is_keyword}
use Rattle.c_language.specs.ExprGrammar.{IsExpr, is_place, conditional_level, multiplicative_level, cast_level, postfix_level}
use Rattle.c_language.specs.TypeGrammar.{IsBase, NamesType, has_star, IsDeclarator, is_listed}
use Rattle.c_language.specs.declared.token.TokenKind.TheVariants.{Name, Mark}

-- one or more, with a comma between each two, and a mark behind the last
pub data IsSeparated {A : Type 0} (Is : Tokens → A → Tokens → Type 0) (close : Bytes) : Tokens → List A → Tokens → Type 0 where
  -- one, and the mark
  last : {l : ℕ} {ts rest : Tokens} {a : A} → Is ts a (mark close l ∷ rest) → IsSeparated Is close ts (a ∷ []) rest
  -- one, a comma, and those behind it
  more : {l : ℕ} {ts mid rest : Tokens} {a : A} {all : List A}
      → Is ts a (mark (codes ",") l ∷ mid) → IsSeparated Is close mid all rest → IsSeparated Is close ts (a ∷ all) rest

-- ---- calls (6.5.2.2) and allocations (7.20.3.3)

-- an argument: a value, or a string
pub data IsArg : Tokens → RawArg → Tokens → Type 0 where
  -- an expression (6.5.2.2)
  value : {ts rest : Tokens} {a : RawExpr} → IsExpr conditional_level ts a rest → IsArg ts (Value a) rest
  -- a string literal (6.4.5)
  literal : {l : ℕ} {text : Bytes} {rest : Tokens} → IsArg (string text l ∷ rest) (Literal text) rest

-- arguments with a comma between each two, and the closing parenthesis
abbrev pub IsArgs : Tokens → List RawArg → Tokens → Type 0
IsArgs = IsSeparated IsArg (codes ")")

-- the name of a function that a call may name: no keyword, and not malloc
unfoldable pub is_callee : Bytes → Bool
is_callee w = not (is_keyword w) && not (bytes_eq w (codes "malloc"))

-- a call with the name of its function and its arguments
pub data IsCall : Tokens → Bytes → List RawArg → Tokens → Type 0 where
  -- `f()`
  bare : {l m k : ℕ} {w : Bytes} {rest : Tokens} → is_callee w ≡ true → IsCall (name w l ∷ mark (codes "(") m ∷ mark (codes ")") k ∷ rest) w [] rest
  -- `f(a, b)`
  with_args : {l m : ℕ} {w : Bytes} {ts rest : Tokens} {all : List RawArg} → is_callee w ≡ true → IsArgs ts all rest → IsCall (name w l ∷ mark (codes "(") m ∷ ts) w all rest

-- a size: that of a type, or of what a variable points to, in parentheses or without
pub data IsSize : Tokens → RawSize → Tokens → Type 0 where
  -- `sizeof(T)`
  of_type : {l m k : ℕ} {ts rest : Tokens} {t : RawTypeName}
      → NamesType ts t (mark (codes ")") k ∷ rest) → IsSize (name (codes "sizeof") l ∷ mark (codes "(") m ∷ ts) (size.Type t) rest
  -- `sizeof(*p)`
  of_pointee : {l m k j i : ℕ} {w : Bytes} {rest : Tokens} → is_keyword w ≡ false
      → IsSize (name (codes "sizeof") l ∷ mark (codes "(") m ∷ mark (codes "*") k ∷ name w j ∷ mark (codes ")") i ∷ rest) (size.Pointee w true) rest
  -- `sizeof *p`
  of_bare_pointee : {l m k : ℕ} {w : Bytes} {rest : Tokens} → is_keyword w ≡ false
      → IsSize (name (codes "sizeof") l ∷ mark (codes "*") m ∷ name w k ∷ rest) (size.Pointee w false) rest

-- how much is allocated: a size, a count of sizes, written before or behind, or a count of bytes
pub data IsAmount : Tokens → RawAmount → Tokens → Type 0 where
  -- a size
  one : {ts rest : Tokens} {z : RawSize} → IsSize ts z rest → IsAmount ts (amount.Size z) rest
  -- `n * sizeof(T)`, where n is a multiplicative expression
  counted : {l : ℕ} {ts mid rest : Tokens} {a : RawExpr} {z : RawSize}
      → IsExpr multiplicative_level ts a (mark (codes "*") l ∷ mid) → IsSize mid z rest → IsAmount ts (amount.CountSize a z) rest
  -- `sizeof(T) * n`, where n is a cast expression
  multiplied : {l : ℕ} {ts mid rest : Tokens} {a : RawExpr} {z : RawSize}
      → IsSize ts z (mark (codes "*") l ∷ mid) → IsExpr cast_level mid a rest → IsAmount ts (amount.SizeCount z a) rest
  -- any expression
  bytes : {ts rest : Tokens} {a : RawExpr} → IsExpr conditional_level ts a rest → IsAmount ts (amount.Count a) rest

-- a call of malloc
pub data IsMalloc : Tokens → RawAmount → Tokens → Type 0 where
  -- `malloc(n)`
  malloc : {l m k : ℕ} {ts rest : Tokens} {n : RawAmount}
      → IsAmount ts n (mark (codes ")") k ∷ rest) → IsMalloc (name (codes "malloc") l ∷ mark (codes "(") m ∷ ts) n rest

-- a call of malloc with the pointer type that it is cast to, or without one
pub data IsHeap : Tokens → Option RawTypeName → RawAmount → Tokens → Type 0 where
  -- `malloc(n)` alone
  uncast : {ts rest : Tokens} {n : RawAmount} → IsMalloc ts n rest → IsHeap ts None n rest
  -- `(T *)malloc(n)`
  cast : {l m : ℕ} {ts mid rest : Tokens} {t : RawTypeName} {n : RawAmount}
      → NamesType ts t (mark (codes ")") m ∷ mid) → has_star t ≡ true → IsMalloc mid n rest → IsHeap (mark (codes "(") l ∷ ts) (Some t) n rest

-- ---- simple statements (6.5.16, 6.5.3.1, 6.5.2.4)

-- the operators that have a compound assignment
abbrev pub is_compound : BinaryOp → Bool
is_compound Mul = true
is_compound Div = true
is_compound Rem = true
is_compound Add = true
is_compound Sub = true
is_compound Shl = true
is_compound Shr = true
is_compound Less = false
is_compound Greater = false
is_compound AtMost = false
is_compound AtLeast = false
is_compound Equal = false
is_compound Unequal = false
is_compound And = true
is_compound Xor = true
is_compound Or = true

-- `=`, or a compound assignment
abbrev pub assigns_by : Option BinaryOp → Bool
assigns_by None = true
assigns_by (Some op) = is_compound op

-- a simple statement without its semicolon
pub data IsSimple : Tokens → RawStatement → Tokens → Type 0 where
  -- `p = e`, or a compound assignment (6.5.16)
  assign : {l : ℕ} {ts mid rest : Tokens} {a b : RawExpr} (op : Option BinaryOp) → assigns_by op ≡ true
      → IsExpr conditional_level ts a (mark (assign_sign op) l ∷ mid) → is_place a ≡ true → IsExpr conditional_level mid b rest
      → IsSimple ts (s.Assign (line_of ts) a op b) rest
  -- `p = f(a)`
  store_call : {l : ℕ} {ts mid rest : Tokens} {a : RawExpr} {w : Bytes} {all : List RawArg}
      → IsExpr conditional_level ts a (mark (codes "=") l ∷ mid) → is_place a ≡ true → IsCall mid w all rest
      → IsSimple ts (s.Call (line_of ts) (target.Place a) w all) rest
  -- `p = malloc(n)`
  store_heap : {l : ℕ} {ts mid rest : Tokens} {a : RawExpr} {t : Option RawTypeName} {n : RawAmount}
      → IsExpr conditional_level ts a (mark (codes "=") l ∷ mid) → is_place a ≡ true → IsHeap mid t n rest
      → IsSimple ts (s.Heap (line_of ts) (target.Place a) t n) rest
  -- what is written before `++` binds as tightly as a postfix expression: `*p++` would move p
  bump_after : {l : ℕ} {ts rest : Tokens} {a : RawExpr} (up : Bool)
      → IsExpr postfix_level ts a (mark (bump_sign up) l ∷ rest) → is_place a ≡ true
      → IsSimple ts (s.Bump (line_of ts) a up false) rest
  -- `++p` or `--p` (6.5.3.1)
  bump_before : {l : ℕ} {ts rest : Tokens} {a : RawExpr} (up : Bool)
      → IsExpr conditional_level ts a rest → is_place a ≡ true
      → IsSimple (mark (bump_sign up) l ∷ ts) (s.Bump l a up true) rest
  -- `f(a)`, whose result is dropped
  call : {ts rest : Tokens} {w : Bytes} {all : List RawArg}
      → IsCall ts w all rest → IsSimple ts (s.Call (line_of ts) target.None w all) rest

-- ---- declarations (6.7), of which each declarator is a statement with the line of the whole

-- what stands behind the brace of a list of initialisers, with the closing one; a comma may stand behind the last
pub data IsList : Tokens → List RawExpr → Tokens → Type 0 where
  -- the last one, and the brace
  last : {l : ℕ} {ts rest : Tokens} {a : RawExpr} → IsExpr conditional_level ts a (mark (codes "}") l ∷ rest) → IsList ts (a ∷ []) rest
  -- the last one, a comma, and the brace
  trailing : {l m : ℕ} {ts rest : Tokens} {a : RawExpr} → IsExpr conditional_level ts a (mark (codes ",") l ∷ mark (codes "}") m ∷ rest) → IsList ts (a ∷ []) rest
  -- one, a comma, and those behind it
  more : {l : ℕ} {ts mid rest : Tokens} {a : RawExpr} {all : List RawExpr}
      → IsExpr conditional_level ts a (mark (codes ",") l ∷ mid) → IsList mid all rest → IsList ts (a ∷ all) rest

-- a declarator with its initialiser, in a declaration on a line; only before a list its first length may be empty
pub data IsDeclared (line : ℕ) (base : RawType) : Tokens → RawStatement → Tokens → Type 0 where
  -- `T x`
  plain : {ts rest : Tokens} {v : RawVar}
      → IsDeclarator ts base v rest → is_listed v.shape ≡ false → IsDeclared line base ts (s.Declare line v init.None) rest
  -- `T x = e`
  value : {l : ℕ} {ts mid rest : Tokens} {v : RawVar} {a : RawExpr}
      → IsDeclarator ts base v (mark (codes "=") l ∷ mid) → is_listed v.shape ≡ false → IsExpr conditional_level mid a rest
      → IsDeclared line base ts (s.Declare line v (init.One a)) rest
  -- `T a[] = {e, e}`
  list : {l m : ℕ} {ts mid rest : Tokens} {v : RawVar} {all : List RawExpr}
      → IsDeclarator ts base v (mark (codes "=") l ∷ mark (codes "{") m ∷ mid) → IsList mid all rest
      → IsDeclared line base ts (s.Declare line v (init.Items all)) rest
  -- `T x = f(a)`
  call : {l : ℕ} {ts mid rest : Tokens} {v : RawVar} {w : Bytes} {all : List RawArg}
      → IsDeclarator ts base v (mark (codes "=") l ∷ mid) → is_listed v.shape ≡ false → IsCall mid w all rest
      → IsDeclared line base ts (s.Call line (target.Declared v) w all) rest
  -- `T *p = malloc(n)`
  heap : {l : ℕ} {ts mid rest : Tokens} {v : RawVar} {t : Option RawTypeName} {n : RawAmount}
      → IsDeclarator ts base v (mark (codes "=") l ∷ mid) → is_listed v.shape ≡ false → IsHeap mid t n rest
      → IsDeclared line base ts (s.Heap line (target.Declared v) t n) rest

-- declarators with a comma between each two, and the semicolon
abbrev pub AreDeclared : ℕ → RawType → Tokens → List RawStatement → Tokens → Type 0
AreDeclared line base = IsSeparated (IsDeclared line base) (codes ";")

-- one declaration: a statement for each variable that it declares
pub data IsDeclaration : Tokens → List RawStatement → Tokens → Type 0 where
  -- a base, declarators with their initialisers, and the semicolon
  declaration : {ts mid rest : Tokens} {base : RawType} {all : List RawStatement}
      → IsBase ts base mid → AreDeclared (line_of ts) base mid all rest → IsDeclaration ts all rest

-- ---- statements (6.8)

-- what a for begins with, and its first semicolon: nothing, a simple statement, or a declaration of one declarator
pub data IsInit : Tokens → Option RawStatement → Tokens → Type 0 where
  -- the semicolon alone
  nothing : {l : ℕ} {rest : Tokens} → IsInit (mark (codes ";") l ∷ rest) None rest
  -- a simple statement
  simple : {l : ℕ} {ts rest : Tokens} {a : RawStatement} → IsSimple ts a (mark (codes ";") l ∷ rest) → IsInit ts (Some a) rest
  -- a base, and one declarator with its initialiser
  declared : {l : ℕ} {ts mid rest : Tokens} {base : RawType} {a : RawStatement}
      → IsBase ts base mid → IsDeclared (line_of ts) base mid a (mark (codes ";") l ∷ rest) → IsInit ts (Some a) rest

-- what a for does after each turn, and its closing parenthesis
pub data IsStep : Tokens → Option RawStatement → Tokens → Type 0 where
  -- the parenthesis alone
  nothing : {l : ℕ} {rest : Tokens} → IsStep (mark (codes ")") l ∷ rest) None rest
  -- a simple statement
  simple : {l : ℕ} {ts rest : Tokens} {a : RawStatement} → IsSimple ts a (mark (codes ")") l ∷ rest) → IsStep ts (Some a) rest

-- a label of a switch
pub data IsLabel : Tokens → RawLabel → Tokens → Type 0 where
  -- `case e:`
  case : {l m : ℕ} {ts rest : Tokens} {a : RawExpr} → IsExpr conditional_level ts a (mark (codes ":") m ∷ rest) → IsLabel (name (codes "case") l ∷ ts) (Case a) rest
  -- `default:`
  default : {l m : ℕ} {rest : Tokens} → IsLabel (name (codes "default") l ∷ mark (codes ":") m ∷ rest) Default rest

-- labels one after another
pub data AreLabels : Tokens → List RawLabel → Tokens → Type 0 where
  -- one label
  last : {ts rest : Tokens} {a : RawLabel} → IsLabel ts a rest → AreLabels ts (a ∷ []) rest
  -- a label, and those behind it
  more : {ts mid rest : Tokens} {a : RawLabel} {all : List RawLabel} → IsLabel ts a mid → AreLabels mid all rest → AreLabels ts (a ∷ all) rest

-- a test in its parentheses
pub data IsTest : Tokens → RawExpr → Tokens → Type 0 where
  -- `(e)`
  test : {l m : ℕ} {ts rest : Tokens} {a : RawExpr} → IsExpr conditional_level ts a (mark (codes ")") m ∷ rest) → IsTest (mark (codes "(") l ∷ ts) a rest

abbrev pub arm : List RawLabel → List RawStatement → RawArm
arm labels body = roll-RawArm (record { labels = labels; body = body })

mutual
  -- a statement other than a declaration and `;`
  pub data IsStatement : Tokens → RawStatement → Tokens → Type 0 where
    -- a simple statement (6.8.3)
    simple : {l : ℕ} {ts rest : Tokens} {a : RawStatement} → IsSimple ts a (mark (codes ";") l ∷ rest) → IsStatement ts a rest
    -- `return;` (6.8.6.4)
    returns : {l m : ℕ} {rest : Tokens} → IsStatement (name (codes "return") l ∷ mark (codes ";") m ∷ rest) (s.Return l None) rest
    -- `return e;`
    returns_value : {l m : ℕ} {ts rest : Tokens} {a : RawExpr}
        → IsExpr conditional_level ts a (mark (codes ";") m ∷ rest) → IsStatement (name (codes "return") l ∷ ts) (s.Return l (Some a)) rest
    -- a block that is no body (6.8.2)
    block : {l m : ℕ} {ts rest : Tokens} {all : List RawStatement}
        → AreStatements ts all (mark (codes "}") m ∷ rest) → IsStatement (mark (codes "{") l ∷ ts) (s.Block l all) rest
    -- an if, with its else or without one (6.8.4.1)
    conditional : {l : ℕ} {ts mid after rest : Tokens} {a : RawExpr} {yes other : List RawStatement}
        → IsTest ts a mid → IsBody mid yes after → IsElse after other rest → IsStatement (name (codes "if") l ∷ ts) (s.If l a yes other) rest
    -- a while (6.8.5.1)
    while_loop : {l : ℕ} {ts mid rest : Tokens} {a : RawExpr} {all : List RawStatement}
        → IsTest ts a mid → IsBody mid all rest → IsStatement (name (codes "while") l ∷ ts) (s.While l a all) rest
    -- a do (6.8.5.2)
    do_loop : {l m k : ℕ} {ts mid rest : Tokens} {a : RawExpr} {all : List RawStatement}
        → IsBody ts all (name (codes "while") m ∷ mid) → IsTest mid a (mark (codes ";") k ∷ rest) → IsStatement (name (codes "do") l ∷ ts) (s.Do l a all) rest
    -- a for, which has a test (6.8.5.3)
    for_loop : {l m k : ℕ} {ts mid next after rest : Tokens} {first step : Option RawStatement} {a : RawExpr} {all : List RawStatement}
        → IsInit ts first mid → IsExpr conditional_level mid a (mark (codes ";") k ∷ next) → IsStep next step after → IsBody after all rest
        → IsStatement (name (codes "for") l ∷ mark (codes "(") m ∷ ts) (s.For l first a step all) rest
    -- a switch, whose body is its arms (6.8.4.2)
    switch : {l m : ℕ} {ts mid rest : Tokens} {a : RawExpr} {arms : List RawArm}
        → IsTest ts a (mark (codes "{") m ∷ mid) → AreArms mid arms rest → IsStatement (name (codes "switch") l ∷ ts) (s.Switch l a arms) rest

  -- statements one after another; a `;` alone is dropped, and a declaration is split
  pub data AreStatements : Tokens → List RawStatement → Tokens → Type 0 where
    -- no more
    done : {ts : Tokens} → AreStatements ts [] ts
    -- a `;` alone
    empty : {l : ℕ} {ts rest : Tokens} {all : List RawStatement} → AreStatements ts all rest → AreStatements (mark (codes ";") l ∷ ts) all rest
    -- a declaration
    declared : {ts mid rest : Tokens} {some all : List RawStatement}
        → IsDeclaration ts some mid → AreStatements mid all rest → AreStatements ts (some ++ all) rest
    -- a statement
    more : {ts mid rest : Tokens} {first : RawStatement} {all : List RawStatement}
        → IsStatement ts first mid → AreStatements mid all rest → AreStatements ts (first ∷ all) rest

  -- a body is what stands in its braces, nothing for `;`, or one statement
  pub data IsBody : Tokens → List RawStatement → Tokens → Type 0 where
    -- statements in braces
    braces : {l m : ℕ} {ts rest : Tokens} {all : List RawStatement}
        → AreStatements ts all (mark (codes "}") m ∷ rest) → IsBody (mark (codes "{") l ∷ ts) all rest
    -- `;`
    nothing : {l : ℕ} {rest : Tokens} → IsBody (mark (codes ";") l ∷ rest) [] rest
    -- one statement that is no block
    single : {ts rest : Tokens} {only : RawStatement}
        → sees Mark (codes "{") ts ≡ false → IsStatement ts only rest → IsBody ts (only ∷ []) rest

  -- An else belongs to the nearest if: no else follows an if without one.
  pub data IsElse : Tokens → List RawStatement → Tokens → Type 0 where
    -- an else, and its body
    otherwise : {l : ℕ} {ts rest : Tokens} {all : List RawStatement} → IsBody ts all rest → IsElse (name (codes "else") l ∷ ts) all rest
    -- no else follows
    without : {ts : Tokens} → sees Name (codes "else") ts ≡ false → IsElse ts [] ts

  -- The arms of a switch, and its closing brace. Each has its break but the last, which has at least a statement without one.
  pub data AreArms : Tokens → List RawArm → Tokens → Type 0 where
    -- no more
    none : {l : ℕ} {rest : Tokens} → AreArms (mark (codes "}") l ∷ rest) [] rest
    -- labels, statements or none, and a break
    broken : {l m : ℕ} {ts mid after rest : Tokens} {labels : List RawLabel} {body : List RawStatement} {arms : List RawArm}
        → AreLabels ts labels mid → AreStatements mid body (name (codes "break") l ∷ mark (codes ";") m ∷ after) → AreArms after arms rest
        → AreArms ts (arm labels body ∷ arms) rest
    -- labels and at least one statement, up to the brace
    unbroken : {l : ℕ} {ts mid rest : Tokens} {labels : List RawLabel} {body : List RawStatement}
        → AreLabels ts labels mid → sees Mark (codes "}") mid ≡ false → AreStatements mid body (mark (codes "}") l ∷ rest)
        → AreArms ts (arm labels body ∷ []) rest
