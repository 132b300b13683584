-- Which tokens an item and a whole text have (ISO C99 6.7.2.1, 6.9). The relations hold between the tokens from a place on, trees, and the tokens behind them.
use Rattle.std.specs.Prelude.{◌≡◌, ℕ, Bool, true, false, List, [], ◌∷◌, ◌++◌, codes, Option, Some, None}
use Rattle.std.specs.List.{list_all}
use Rattle.c_tree.specs.declared.raw.expr.RawExpr.{RawExpr}
use Rattle.c_tree.specs.declared.raw.expr.RawType.{RawType}
use Rattle.c_tree.specs.declared.raw.expr.RawVar.{RawVar}
use Rattle.c_tree.specs.declared.raw.program.RawInit.TheVariants as init
use Rattle.c_tree.specs.declared.raw.program.RawMember.{RawMember}
use Rattle.c_tree.specs.declared.raw.program.RawParam.{RawParam}
use Rattle.c_tree.specs.declared.raw.program.RawHead.{RawHead}
use Rattle.c_tree.specs.declared.raw.program.RawItem.{RawItem}
use Rattle.c_tree.specs.declared.raw.program.RawItem.TheVariants as item
use Rattle.c_tree.specs.declared.raw.program.RawProgram.{RawProgram}
use Rattle.c_tree.specs.declared.raw.statement.RawStatement.{RawStatement}
use Rattle.c_language.specs.Words.{Bytes}
use Rattle.c_language.specs.TokenForms.{Tokens, of_kind, name, mark, line_of}
use Rattle.c_language.specs.Sees.{is_keyword}
use Rattle.c_language.specs.ExprGrammar.{IsExpr, conditional_level}
use Rattle.c_language.specs.TypeGrammar.{IsBase, IsTypeName, IsDeclarator, IsParams, is_listed}
use Rattle.c_language.specs.StatementGrammar.{IsSeparated, IsList, AreStatements}
use Rattle.c_language.specs.declared.token.TokenKind.TheVariants.{Include}

-- ---- struct definitions (6.7.2.1)

-- a declarator of a declaration of members, which is a member with the line of the whole
pub data IsMemberDeclarator (line : ℕ) (base : RawType) : Tokens → RawMember → Tokens → Type 0 where
  -- its lengths are all written
  named : {ts rest : Tokens} {v : RawVar}
      → IsDeclarator ts base v rest → is_listed v.shape ≡ false → IsMemberDeclarator line base ts (record { line = line; name = v.name; shape = v.shape }) rest

-- one declaration in a struct: the members that it declares
pub data IsMember : Tokens → List RawMember → Tokens → Type 0 where
  -- a base, declarators, and the semicolon
  member : {ts mid rest : Tokens} {base : RawType} {all : List RawMember}
      → IsBase ts base mid → IsSeparated (IsMemberDeclarator (line_of ts) base) (codes ";") mid all rest → IsMember ts all rest

-- one declaration of members or more, and the closing brace
pub data AreMembers : Tokens → List RawMember → Tokens → Type 0 where
  -- the last one, and the brace
  last : {l : ℕ} {ts rest : Tokens} {some : List RawMember} → IsMember ts some (mark (codes "}") l ∷ rest) → AreMembers ts some rest
  -- one, and those behind it
  more : {ts mid rest : Tokens} {some all : List RawMember} → IsMember ts some mid → AreMembers mid all rest → AreMembers ts (some ++ all) rest

-- ---- globals (6.9.2)

-- a declarator with its initialiser, in an item on a line; only before a list its first length may be empty
pub data IsGlobal (line : ℕ) (is_static : Bool) (base : RawType) : Tokens → RawItem → Tokens → Type 0 where
  -- `T x`
  plain : {ts rest : Tokens} {v : RawVar}
      → IsDeclarator ts base v rest → is_listed v.shape ≡ false → IsGlobal line is_static base ts (item.Global line v init.None is_static) rest
  -- `T x = e`
  value : {l : ℕ} {ts mid rest : Tokens} {v : RawVar} {a : RawExpr}
      → IsDeclarator ts base v (mark (codes "=") l ∷ mid) → is_listed v.shape ≡ false → IsExpr conditional_level mid a rest
      → IsGlobal line is_static base ts (item.Global line v (init.One a) is_static) rest
  -- `T a[] = {e, e}`
  list : {l m : ℕ} {ts mid rest : Tokens} {v : RawVar} {all : List RawExpr}
      → IsDeclarator ts base v (mark (codes "=") l ∷ mark (codes "{") m ∷ mid) → IsList mid all rest
      → IsGlobal line is_static base ts (item.Global line v (init.Items all) is_static) rest

-- globals with a comma between each two, and the semicolon
abbrev pub AreGlobals : ℕ → Bool → RawType → Tokens → List RawItem → Tokens → Type 0
AreGlobals line is_static base = IsSeparated (IsGlobal line is_static base) (codes ";")

-- ---- functions (6.9.1)

-- `static`, or nothing
pub data IsStatic : Tokens → Bool → Tokens → Type 0 where
  -- `static`
  static : {l : ℕ} {rest : Tokens} → IsStatic (name (codes "static") l ∷ rest) true rest
  -- nothing
  external : {rest : Tokens} → IsStatic rest false rest

-- the type of a function's result
pub data IsResult : Tokens → Option RawType → Tokens → Type 0 where
  -- `void`
  nothing : {l : ℕ} {rest : Tokens} → IsResult (name (codes "void") l ∷ rest) None rest
  -- a type without a name
  some : {ts rest : Tokens} {t : RawType} → IsTypeName ts t rest → IsResult ts (Some t) rest

-- the head of a function, up to its closing parenthesis
pub data IsHead : Tokens → RawHead → Tokens → Type 0 where
  -- `static` or nothing, a result, a name, and parameters
  head : {l m : ℕ} {ts mid next rest : Tokens} {is_static : Bool} {t : Option RawType} {w : Bytes} {ps : List RawParam}
      → IsStatic ts is_static mid → IsResult mid t (name w l ∷ mark (codes "(") m ∷ next) → is_keyword w ≡ false → IsParams next ps rest
      → IsHead ts (record { name = w; result = t; params = ps; is_static = is_static }) rest

abbrev pub is_some : Option Bytes → Bool
is_some None = false
is_some (Some w) = true

-- each parameter has a name
abbrev pub are_named : List RawParam → Bool
are_named ps = list_all (λ (p : RawParam). is_some p.name) ps

-- ---- items (6.9)

-- the header that an include names: that of stdlib, or else that of stdio
abbrev pub header : Bool → Bytes
header true = codes "<stdlib.h>"
header false = codes "<stdio.h>"

-- an item of the text; one that declares several globals is split
pub data IsItem : Tokens → List RawItem → Tokens → Type 0 where
  -- an include of a library header
  include : {l : ℕ} {rest : Tokens} (is_stdlib : Bool) → IsItem (of_kind Include (header is_stdlib) l ∷ rest) (item.Include is_stdlib ∷ []) rest
  -- `struct s;`
  tag : {l m k : ℕ} {w : Bytes} {rest : Tokens} → is_keyword w ≡ false
      → IsItem (name (codes "struct") l ∷ name w m ∷ mark (codes ";") k ∷ rest) (item.Tag l w ∷ []) rest
  -- `struct s { T m; };` (6.7.2.1)
  structure : {l m k j : ℕ} {w : Bytes} {ts rest : Tokens} {all : List RawMember} → is_keyword w ≡ false
      → AreMembers ts all (mark (codes ";") j ∷ rest)
      → IsItem (name (codes "struct") l ∷ name w m ∷ mark (codes "{") k ∷ ts) (item.Struct l w all ∷ []) rest
  -- globals of one base (6.9.2)
  globals : {ts mid next rest : Tokens} {is_static : Bool} {base : RawType} {all : List RawItem}
      → IsStatic ts is_static mid → IsBase mid base next → AreGlobals (line_of ts) is_static base next all rest → IsItem ts all rest
  -- a head, and a semicolon (6.7.5.3)
  prototype : {l : ℕ} {ts rest : Tokens} {h : RawHead} → IsHead ts h (mark (codes ";") l ∷ rest) → IsItem ts (item.Prototype (line_of ts) h ∷ []) rest
  -- a head with named parameters, and a body in braces (6.9.1)
  definition : {l m : ℕ} {ts mid rest : Tokens} {h : RawHead} {body : List RawStatement}
      → IsHead ts h (mark (codes "{") l ∷ mid) → are_named h.params ≡ true → AreStatements mid body (mark (codes "}") m ∷ rest)
      → IsItem ts (item.Define (line_of ts) h body ∷ []) rest

-- items one after another
pub data AreItems : Tokens → List RawItem → Tokens → Type 0 where
  -- no more
  done : {ts : Tokens} → AreItems ts [] ts
  -- an item, and those behind it
  more : {ts mid rest : Tokens} {some all : List RawItem} → IsItem ts some mid → AreItems mid all rest → AreItems ts (some ++ all) rest

-- The tokens are those of a whole text with this tree.
abbrev pub IsProgram : Tokens → RawProgram → Type 0
IsProgram ts all = AreItems ts all.items []
