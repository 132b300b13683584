-- The words of kept statements: a projection says of each what the program says, but for what a call loses.
use Rattle.std.specs.Prelude.{◌≡◌, ℕ, Bool, true, false, ◌&&◌, not, List, [], ◌∷◌, ◌++◌, codes, Option, Some, slice_get, Contains}
use Rattle.std.specs.Option.{option_map, option_to_list}
use Rattle.c_tree.specs.declared.expr.Expr.{Expr}
use Rattle.c_tree.specs.declared.program.Function.{Function}
use Rattle.c_tree.specs.declared.program.Program.{Program}
use Rattle.c_tree.specs.declared.statement.Arm.{Arm}
use Rattle.c_tree.specs.declared.statement.Statement.{Statement, out-Statement}
use Rattle.c_tree.specs.declared.statement.Statement.TheOpen.{Statement-F}
use Rattle.c_tree.specs.declared.statement.Statement.TheVariants as s
use Rattle.c_tree.specs.declared.statement.Target.{Target}
use Rattle.c_tree.specs.declared.statement.Target.TheVariants as target
use Rattle.c_tree.specs.declared.numbered.Start.{Start}
use Rattle.c_tree.specs.Numbered.{own_start, own_id, StandsIn, StandsInProgram, IsNumbered}
use Rattle.c_language.specs.Words.{Bytes, expr_words}
use Rattle.c_language.specs.Layout.{statement_words, var_words}
use Rattle.kept_numbers.specs.Ranks.{rank}
use Rattle.projection.specs.Kept.{KeptWords, Kept, chosen}
use Rattle.projection.specs.Names.{stays}
use Rattle.projection.specs.Projection.{projected, projected_program}
use Rattle.projection_laws.specs.Nested.{IsNested}

-- ---- the words of a statement

-- the words of a for lack those of its first part and of its step, which are statements of their own
abbrev pub layer_words : Program → Statement → Statement-F Statement Arm → Bytes
layer_words p x (Statement-F.For id l i e step b) = codes "for (; " ++ (expr_words p e ++ codes ";)")
layer_words p x _ = statement_words p x

-- the words of a statement without those of the statements that it holds
abbrev pub own_words : Program → Statement → Bytes
own_words p x = layer_words p x (out-Statement x)

abbrev pub own_line : Statement → Option ℕ
own_line x = option_map (λ (s : Start). s.line) (own_start x)

-- ---- what it loses

-- where a call stores what it gives, where its result stays or not
abbrev pub left_side : Bool → Target → Target
left_side true to = to
left_side false to = target.None

abbrev pub layer_kept : Kept ℕ → Statement → Statement-F Statement Arm → Statement
layer_kept k x (Statement-F.Invoke id l to f args) = s.Invoke id l (left_side (k.result id) to) f (chosen (k.argument id) 0 args)
layer_kept k x _ = x

-- what is kept of a kept statement, in the numbers of the program: of a call of a function, the arguments that stay, and the left side where
-- the result stays. A declaration of which the call alone is kept is that call. All else is kept as it is.
abbrev pub kept_part : Kept ℕ → Statement → Statement
kept_part k x = layer_kept k x (out-Statement x)

-- ---- each kept statement has its own words

-- the projection has a statement with the rank of the number, on the same line, with the words that are kept
pub record HasOwnWords (p : Program) (k : Kept ℕ) (i : ℕ) (x : Statement) : Type 0 where
  pub statement : Statement
  pub numbered : IsNumbered (projected_program k p) (rank k.statement i) statement
  pub line : own_line statement ≡ own_line x
  pub words : own_words (projected_program k p) statement ≡ own_words p (kept_part k x)

-- each kept statement has its own words in the projection to what is kept
abbrev pub KeepsWords : Program → Kept ℕ → Type 0
KeepsWords p k = (i : ℕ) (x : Statement) → IsNumbered p i x → k.statement i ≡ true → HasOwnWords p k i x

-- ---- where this holds

-- the words of statements that are kept
abbrev pub words_kept : Kept ℕ → KeptWords
words_kept k = record { statement = k.statement; result = k.result; argument = k.argument }

abbrev pub target_stays : Kept ℕ → Target → Bool
target_stays k (target.Declared x) = k.variable x
target_stays k _ = false

abbrev pub layer_splits : Kept ℕ → Statement-F Statement Arm → Bool
layer_splits k (Statement-F.Invoke id l to f args) = k.statement id && (not (k.result id) && target_stays k to)
layer_splits k _ = false

-- whether a statement becomes two: a declaration, and the call that gave its variable a value
abbrev pub splits : Kept ℕ → Statement → Bool
splits k x = layer_splits k (out-Statement x)

abbrev pub layer_parts : Statement-F Statement Arm → List Statement
layer_parts (Statement-F.For id l i e step b) = option_to_list i ++ option_to_list step
layer_parts _ = []

-- what a for begins with, and its step
abbrev pub for_parts : Statement → List Statement
for_parts x = layer_parts (out-Statement x)

-- what is kept hangs together
pub record HangsTogether (p : Program) (k : Kept ℕ) : Type 0 where
  -- each if, loop and switch stays in which something is kept
  pub nested : IsNested k.statement p
  -- each function stays in which something is kept
  pub functions : (n i : ℕ) (f : Function) (x : Statement) → slice_get p.functions n ≡ Some f → StandsIn f.body x → own_id x ≡ Some i → k.statement i ≡ true → k.function n ≡ true
  -- each function stays that a kept call calls
  pub called : (i l f : ℕ) (to : Target) (args : List Expr) (x : Statement)
      → StandsInProgram p x → out-Statement x ≡ Statement-F.Invoke i l to f args → k.statement i ≡ true → k.function f ≡ true
  -- each variable stays to which kept text refers
  pub variables : (v : ℕ) → stays (words_kept k) p v ≡ true → k.variable v ≡ true
  -- what a for begins with, and its step, become one statement or none
  pub parts : (x part : Statement) → StandsInProgram p x → Contains (for_parts x) part → splits k part ≡ false

-- where what is kept hangs together, each kept statement has its own words in the projection
abbrev pub OwnWordsStay : Type 0
OwnWordsStay = (p : Program) (k : Kept ℕ) → HangsTogether p k → KeepsWords p k

-- a statement whose call loses no argument, and not its result, keeps all its words
abbrev pub WholeWordsStay : Type 0
WholeWordsStay = (k : Kept ℕ) (x : Statement) → ((i n : ℕ) → own_id x ≡ Some i → (k.result i ≡ true) × (k.argument i n ≡ true)) → kept_part k x ≡ x

-- ---- declarations by a call of which the call alone is kept

-- a statement becomes the declaration of a variable, in its words, and behind it the statement with the rank of the number
pub record IsSplit (p : Program) (k : Kept ℕ) (i v : ℕ) (x : Statement) : Type 0 where
  pub declaration : Statement
  pub call : Statement
  pub left : projected k (rank k.function) x ≡ declaration ∷ (call ∷ [])
  pub words : own_words (projected_program k p) declaration ≡ var_words p v
  pub number : own_id call ≡ Some (rank k.statement i)

-- where the call alone is kept, and the variable stays, the call follows its declaration
abbrev pub CallsFollow : Type 0
CallsFollow =
    (p : Program) (k : Kept ℕ) (i l v f : ℕ) (args : List Expr) (x : Statement) → out-Statement x ≡ Statement-F.Invoke i l (target.Declared v) f args
    → k.statement i ≡ true → k.result i ≡ false → k.variable v ≡ true → IsSplit p k i v x
