-- What a parser can return: the trees of texts, told from the trees alone.
--
-- Each line says of one form what is asked of it and of its direct parts. Nothing is asked of what stands beside a part, but that a
-- return ends its function, so that what is left of such a tree is such a tree, too, where parts of lists are taken away.
-- What a tree has no form for isn't said: jumps and labels, a break (an arm ends with its own), calls, assignments, `++` and commas inside
-- expressions, calls through pointers, casts to pointers but of malloc, sizes but in malloc, `static` inside a function, other words of
-- types, struct definitions inside declarations, a second length of a parameter, a for without a test, preprocessing.
use Rattle.std.specs.Prelude.{◌≡◌, ℕ, ◌+◌, nat_le, Bool, true, false, ◌&&◌, not, List, [], ◌∷◌, codes, Option, Some, None}
use Rattle.std.specs.List.{list_all}
use Rattle.std.specs.Option.{option_map_or}
use Rattle.std.specs.Str.{bytes_eq}
use Rattle.c_tree.specs.declared.raw.expr.RawExpr.{RawExpr, fold-RawExpr}
use Rattle.c_tree.specs.declared.raw.expr.RawExpr.TheOpen.{RawExpr-F}
use Rattle.c_tree.specs.declared.raw.expr.RawLength.TheVariants.{Written, Listed}
use Rattle.c_tree.specs.declared.raw.expr.RawType.{RawType, fold-RawType}
use Rattle.c_tree.specs.declared.raw.expr.RawType.TheOpen.{RawType-F}
use Rattle.c_tree.specs.declared.raw.expr.RawVar.{RawVar}
use Rattle.c_tree.specs.declared.raw.program.RawInit.{RawInit}
use Rattle.c_tree.specs.declared.raw.program.RawInit.TheVariants as begins
use Rattle.c_tree.specs.declared.raw.program.RawMember.{RawMember}
use Rattle.c_tree.specs.declared.raw.program.RawParam.{RawParam}
use Rattle.c_tree.specs.declared.raw.program.RawHead.{RawHead}
use Rattle.c_tree.specs.declared.raw.program.RawItem.{RawItem}
use Rattle.c_tree.specs.declared.raw.program.RawItem.TheVariants.{Include, Tag, Struct, Global, Prototype, Define}
use Rattle.c_tree.specs.declared.raw.program.RawProgram.{RawProgram}
use Rattle.c_tree.specs.declared.raw.statement.RawTarget.{RawTarget}
use Rattle.c_tree.specs.declared.raw.statement.RawTarget.TheVariants as target
use Rattle.c_tree.specs.declared.raw.statement.RawArg.{RawArg}
use Rattle.c_tree.specs.declared.raw.statement.RawArg.TheVariants.{Value, Literal}
use Rattle.c_tree.specs.declared.raw.statement.RawTypeName.{RawTypeName}
use Rattle.c_tree.specs.declared.raw.statement.RawSize.{RawSize}
use Rattle.c_tree.specs.declared.raw.statement.RawSize.TheVariants as size
use Rattle.c_tree.specs.declared.raw.statement.RawAmount.{RawAmount}
use Rattle.c_tree.specs.declared.raw.statement.RawAmount.TheVariants as amount
use Rattle.c_tree.specs.declared.raw.statement.RawLabel.{RawLabel}
use Rattle.c_tree.specs.declared.raw.statement.RawLabel.TheVariants.{Case, Default}
use Rattle.c_tree.specs.declared.raw.statement.RawArm.{RawArm, fold-RawArm}
use Rattle.c_tree.specs.declared.raw.statement.RawStatement.{RawStatement, fold-RawStatement}
use Rattle.c_tree.specs.declared.raw.statement.RawStatement.TheOpen.{RawStatement-F, RawArm-F}
use Rattle.c_language.specs.Words.{Bytes}
use Rattle.c_language.specs.Lists.{all_true}
use Rattle.c_language.specs.Spellings.{is_string, is_name, is_constant, is_own_name, is_used_name}
use Rattle.c_language.specs.ExprGrammar.{binary_level, conditional_level, level, multiplicative_level, cast_level, unary_level, postfix_level, is_place}
use Rattle.c_language.specs.TypeGrammar.{has_star}
use Rattle.c_language.specs.StatementGrammar.{is_callee, assigns_by}
use Rattle.c_language.specs.ItemGrammar.{are_named}
use Rattle.c_language.specs.declared.operators.Infix.TheVariants.{AndAlso, OrElse}

-- one element or more
abbrev pub is_there : {A : Type 0} → List A → Bool
is_there [] = false
is_there (x ∷ xs) = true

-- ---- expressions (6.5)

-- an expression that binds at least as tightly as this, given which of its operands do
abbrev pub binds_step : RawExpr-F (ℕ → Bool) → ℕ → Bool
binds_step (RawExpr-F.Constant text) n = is_constant text
binds_step RawExpr-F.Null n = true
binds_step RawExpr-F.Eof n = true
binds_step (RawExpr-F.Variable name) n = is_used_name name
binds_step (RawExpr-F.Unary op a) n = nat_le n unary_level && a cast_level
binds_step (RawExpr-F.Deref a) n = nat_le n unary_level && a cast_level
binds_step (RawExpr-F.AddressOf a) n = nat_le n unary_level && a cast_level
binds_step (RawExpr-F.Binary op a b) n = nat_le n (binary_level op) && (a (binary_level op) && b (binary_level op + 1))
binds_step (RawExpr-F.AndAlso a b) n = nat_le n (level AndAlso) && (a (level AndAlso) && b (level AndAlso + 1))
binds_step (RawExpr-F.OrElse a b) n = nat_le n (level OrElse) && (a (level OrElse) && b (level OrElse + 1))
binds_step (RawExpr-F.Choose c a b) n = nat_le n conditional_level && (c (conditional_level + 1) && (a conditional_level && b conditional_level))
binds_step (RawExpr-F.Cast t a) n = nat_le n cast_level && a cast_level
binds_step (RawExpr-F.Index a i) n = nat_le n postfix_level && (a postfix_level && i conditional_level)
binds_step (RawExpr-F.Member a m) n = nat_le n postfix_level && (a postfix_level && is_used_name m)
binds_step (RawExpr-F.Arrow a m) n = nat_le n postfix_level && (a postfix_level && is_used_name m)
binds_step (RawExpr-F.Paren a) n = a conditional_level

-- the tree is an expression that binds at least as tightly as this
abbrev pub binds : RawExpr → ℕ → Bool
binds = fold-RawExpr (ℕ → Bool) binds_step

-- any expression
abbrev pub is_expr : RawExpr → Bool
is_expr a = binds a conditional_level

-- an expression that may be assigned to (6.5.16)
abbrev pub is_assigned : RawExpr → Bool
is_assigned a = is_place a && is_expr a

-- ---- types and declarators (6.7.5, 6.7.6)

-- how far a type goes beyond the words in front
pub data Extent : Type 0 where
  -- they are all
  bare : Extent
  -- stars may follow
  starred : Extent
  -- and behind the name lengths
  sized : Extent
  -- the first of which may be left to a list
  listed : Extent

abbrev pub takes_stars : Extent → Bool
takes_stars bare = false
takes_stars starred = true
takes_stars sized = true
takes_stars listed = true

abbrev pub takes_lengths : Extent → Bool
takes_lengths bare = false
takes_lengths starred = false
takes_lengths sized = true
takes_lengths listed = true

abbrev pub takes_list : Extent → Bool
takes_list bare = false
takes_list starred = false
takes_list sized = false
takes_list listed = true

-- No pointer is to an array, since no declarator stands in parentheses.
abbrev pub reaches_step : RawType-F (Extent → Bool) → Extent → Bool
reaches_step (RawType-F.Integer t) x = true
reaches_step (RawType-F.Struct tag) x = is_own_name tag
reaches_step (RawType-F.PointerTo a) x = takes_stars x && a starred
reaches_step (RawType-F.Array a (Written n)) x = takes_lengths x && (a sized && is_expr n)
reaches_step (RawType-F.Array a Listed) x = takes_list x && a sized

-- the tree is a type that goes no further than this
abbrev pub reaches : RawType → Extent → Bool
reaches = fold-RawType (Extent → Bool) reaches_step

abbrev pub struct_step : RawType-F Bool → Bool
struct_step (RawType-F.Integer t) = false
struct_step (RawType-F.PointerTo a) = false
struct_step (RawType-F.Array a n) = false
struct_step (RawType-F.Struct tag) = true

-- a whole struct, which is neither passed nor returned
abbrev pub is_struct : RawType → Bool
is_struct = fold-RawType Bool struct_step

abbrev pub pointer_step : RawType-F Bool → Bool
pointer_step (RawType-F.Integer t) = false
pointer_step (RawType-F.PointerTo a) = true
pointer_step (RawType-F.Array a n) = false
pointer_step (RawType-F.Struct tag) = false

abbrev pub is_pointer : RawType → Bool
is_pointer = fold-RawType Bool pointer_step

-- a name with a type that goes no further than this
abbrev pub is_declared : RawVar → Extent → Bool
is_declared v x = is_own_name v.name && reaches v.shape x

-- a type name, whose stars are counted
abbrev pub is_type_name : RawTypeName → Bool
is_type_name t = reaches t.base bare

-- a declarator with its initialiser (6.7.8): only a list with items gives a length
abbrev pub is_begun : RawVar → RawInit → Bool
is_begun v begins.None = is_declared v sized
is_begun v (begins.One a) = is_declared v sized && is_expr a
is_begun v (begins.Items all) = is_declared v listed && (is_there all && list_all is_expr all)

-- ---- calls (6.5.2.2) and allocations (7.20.3.3)

-- an argument, which may be a string or not
abbrev pub is_arg : Bool → RawArg → Bool
is_arg strings (Value a) = is_expr a
is_arg strings (Literal text) = strings && is_string text

-- No argument is a string, but the first one of printf.
abbrev pub are_args : Bytes → List RawArg → Bool
are_args f [] = true
are_args f (a ∷ rest) = is_arg (bytes_eq f (codes "printf")) a && list_all (is_arg false) rest

abbrev pub is_call : Bytes → List RawArg → Bool
is_call f args = is_name f && (is_callee f && are_args f args)

abbrev pub is_size : RawSize → Bool
is_size (size.Type t) = is_type_name t
is_size (size.Pointee name closed) = is_own_name name

abbrev pub is_amount : RawAmount → Bool
is_amount (amount.Size z) = is_size z
is_amount (amount.CountSize a z) = binds a multiplicative_level && is_size z
is_amount (amount.SizeCount z a) = is_size z && binds a cast_level
is_amount (amount.Count a) = is_expr a

-- what malloc's result is cast to, if anything: a pointer
abbrev pub is_heap : Option RawTypeName → RawAmount → Bool
is_heap None n = is_amount n
is_heap (Some t) n = (is_type_name t && has_star t) && is_amount n

-- malloc's result is stored
abbrev pub is_stored : RawTarget → Bool
is_stored target.None = false
is_stored (target.Place a) = true
is_stored (target.Declared v) = true

-- ---- statements (6.7, 6.8)

-- where a statement stands
pub data Position : Type 0 where
  -- in a list, with or without others behind it
  inner : Position
  -- as the last of a function's body
  final : Position
  -- as what a for begins with
  first : Position
  -- as what a for does after each turn
  step : Position

abbrev pub takes_declaration : Position → Bool
takes_declaration inner = true
takes_declaration final = true
takes_declaration first = true
takes_declaration step = false

abbrev pub takes_compound : Position → Bool
takes_compound inner = true
takes_compound final = true
takes_compound first = false
takes_compound step = false

abbrev pub takes_return : Position → Bool
takes_return inner = false
takes_return final = true
takes_return first = false
takes_return step = false

-- where a result is stored: in a variable that is declared there, only where a declaration may stand
abbrev pub is_target : Position → RawTarget → Bool
is_target p target.None = true
is_target p (target.Place a) = is_assigned a
is_target p (target.Declared v) = takes_declaration p && is_declared v sized

abbrev pub is_label : RawLabel → Bool
is_label (Case a) = is_expr a
is_label Default = true

-- a list of statements
abbrev pub all_inner : List (Position → Bool) → Bool
all_inner [] = true
all_inner (x ∷ xs) = x inner && all_inner xs

-- a part of a for, which may lack
abbrev pub part_at : Position → Option (Position → Bool) → Bool
part_at p None = true
part_at p (Some x) = x p

-- what stands behind an operator in front, or in front of one behind: `*p++` would move p (6.5.2.4, 6.5.3.1)
abbrev pub bumped_level : Bool → ℕ
bumped_level true = conditional_level
bumped_level false = postfix_level

-- a statement that may stand there, given where its parts may
abbrev pub stands_step : RawStatement-F (Position → Bool) Bool → Position → Bool
stands_step (RawStatement-F.Declare l v i) p = takes_declaration p && is_begun v i
stands_step (RawStatement-F.Assign l a op b) p = is_assigned a && (assigns_by op && is_expr b)
stands_step (RawStatement-F.Bump l a up before) p = is_place a && binds a (bumped_level before)
stands_step (RawStatement-F.Call l to f args) p = is_target p to && is_call f args
stands_step (RawStatement-F.Heap l to cast n) p = is_target p to && (is_stored to && is_heap cast n)
stands_step (RawStatement-F.If l a body other) p = takes_compound p && (is_expr a && (all_inner body && all_inner other))
stands_step (RawStatement-F.While l a b) p = takes_compound p && (is_expr a && all_inner b)
stands_step (RawStatement-F.Do l a b) p = takes_compound p && (is_expr a && all_inner b)
stands_step (RawStatement-F.For l i a k b) p = takes_compound p && (part_at first i && (is_expr a && (part_at step k && all_inner b)))
stands_step (RawStatement-F.Switch l a arms) p = takes_compound p && (is_expr a && all_true arms)
stands_step (RawStatement-F.Block l b) p = takes_compound p && all_inner b
stands_step (RawStatement-F.Return l a) p = takes_return p && option_map_or is_expr a true

-- an arm, which has a label
abbrev pub arm_step : RawArm-F (Position → Bool) Bool → Bool
arm_step a = is_there a.labels && (list_all is_label a.labels && all_inner a.body)

-- the tree is a statement that may stand there
abbrev pub stands : RawStatement → Position → Bool
stands = fold-RawStatement (Position → Bool) Bool stands_step arm_step

-- the tree is an arm of a switch
abbrev pub is_arm : RawArm → Bool
is_arm = fold-RawArm (Position → Bool) Bool stands_step arm_step

-- the body of a function, which a return may end
abbrev pub is_body : List RawStatement → Bool
is_body [] = true
is_body (x ∷ []) = stands x final
is_body (x ∷ (y ∷ ys)) = stands x inner && is_body (y ∷ ys)

-- ---- items (6.9)

abbrev pub is_member : RawMember → Bool
is_member m = is_own_name m.name && reaches m.shape sized

-- one that is written as an array is a pointer
abbrev pub is_param : RawParam → Bool
is_param p =
    (option_map_or is_own_name p.name true && (reaches p.shape starred && not (is_struct p.shape)))
    && option_map_or (λ (n : RawExpr). is_pointer p.shape && is_expr n) p.length true

abbrev pub is_result : RawType → Bool
is_result t = reaches t starred && not (is_struct t)

abbrev pub is_head : RawHead → Bool
is_head h = is_own_name h.name && (option_map_or is_result h.result true && list_all is_param h.params)

abbrev pub is_item : RawItem → Bool
is_item (Include is_stdlib) = true
is_item (Tag l w) = is_own_name w
is_item (Struct l w members) = is_own_name w && (is_there members && list_all is_member members)
is_item (Global l v i is_static) = is_begun v i
is_item (Prototype l h) = is_head h
is_item (Define l h body) = is_head h && (are_named h.params && is_body body)

-- the tree is that of a text, as far as the tree shows it
abbrev pub is_syntax : RawProgram → Bool
is_syntax raw = list_all is_item raw.items

abbrev pub IsSyntax : RawProgram → Type 0
IsSyntax raw = is_syntax raw ≡ true
