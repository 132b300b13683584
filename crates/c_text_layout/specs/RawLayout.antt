-- The layout of the tree of a text, with names as they stand there. It is the layout of the text's program, where the text
-- keeps all rules; any other text has one, too.
use Rattle.std.specs.Prelude.{ℕ, List, [], ◌∷◌, ◌++◌, Bool, true, false, Option, Some, None, codes, map, decimal}
use Rattle.c_tree.specs.declared.raw.expr.RawExpr.{RawExpr}
use Rattle.c_tree.specs.declared.raw.expr.RawLength.{RawLength}
use Rattle.c_tree.specs.declared.raw.expr.RawLength.TheVariants.{Written, Listed}
use Rattle.c_tree.specs.declared.raw.expr.RawType.{RawType, fold-RawType}
use Rattle.c_tree.specs.declared.raw.expr.RawType.TheOpen.{RawType-F}
use Rattle.c_tree.specs.declared.raw.program.RawInit.{RawInit}
use Rattle.c_tree.specs.declared.raw.program.RawInit.TheVariants as init
use Rattle.c_tree.specs.declared.raw.program.RawMember.{RawMember}
use Rattle.c_tree.specs.declared.raw.program.RawParam.{RawParam}
use Rattle.c_tree.specs.declared.raw.program.RawHead.{RawHead}
use Rattle.c_tree.specs.declared.raw.program.RawItem.{RawItem}
use Rattle.c_tree.specs.declared.raw.program.RawItem.TheVariants.{Include, Tag, Struct, Global, Prototype, Define}
use Rattle.c_tree.specs.declared.raw.program.RawProgram.{RawProgram}
use Rattle.c_tree.specs.declared.raw.statement.RawTarget.{RawTarget}
use Rattle.c_tree.specs.declared.raw.statement.RawTarget.TheVariants as target
use Rattle.c_tree.specs.declared.raw.statement.RawArg.{RawArg}
use Rattle.c_tree.specs.declared.raw.statement.RawArg.TheVariants.{Value, Literal}
use Rattle.c_tree.specs.declared.raw.statement.RawTypeName.{RawTypeName}
use Rattle.c_tree.specs.declared.raw.statement.RawSize.{RawSize}
use Rattle.c_tree.specs.declared.raw.statement.RawSize.TheVariants as size
use Rattle.c_tree.specs.declared.raw.statement.RawAmount.{RawAmount}
use Rattle.c_tree.specs.declared.raw.statement.RawAmount.TheVariants as amount
use Rattle.c_tree.specs.declared.raw.statement.RawLabel.{RawLabel}
use Rattle.c_tree.specs.declared.raw.statement.RawLabel.TheVariants.{Case, Default}
use Rattle.c_tree.specs.declared.raw.statement.RawStatement.{RawStatement, fold-RawStatement}
use Rattle.c_tree.specs.declared.raw.statement.RawStatement.TheOpen.{RawStatement-F, RawArm-F}
use Rattle.c_language.specs.Words.{Bytes, joined, int_words, assign_sign, spaced_stars}
use Rattle.c_language.specs.Layout.{line, call_words, bump_words, Laid, plain, block_lines, laid_if, laid_while, laid_do, laid_for, laid_switch, laid_block, laid_case, static_words, params_words, include_words}
use Rattle.c_language.specs.TypeGrammar.{named_type}
use Rattle.c_language.specs.DeclaredTypes.{item_count}
use Rattle.c_text_layout.specs.SpacedWords.{spaced_words}

-- ---- types and declarators

abbrev pub raw_base_step : RawType-F Bytes → Bytes
raw_base_step (RawType-F.Integer t) = int_words t
raw_base_step (RawType-F.PointerTo a) = a
raw_base_step (RawType-F.Array a n) = a
raw_base_step (RawType-F.Struct tag) = codes "struct " ++ tag

-- the words of a type before its declarators
abbrev pub raw_base : RawType → Bytes
raw_base = fold-RawType Bytes raw_base_step

abbrev pub raw_stars_step : RawType-F Bytes → Bytes
raw_stars_step (RawType-F.Integer t) = []
raw_stars_step (RawType-F.PointerTo a) = 42 ∷ a
raw_stars_step (RawType-F.Array a n) = a
raw_stars_step (RawType-F.Struct tag) = []

-- the stars of a declarator
abbrev pub raw_stars : RawType → Bytes
raw_stars = fold-RawType Bytes raw_stars_step

-- a length: its own words, or the number of items where a list gives it
abbrev pub raw_length_words : ℕ → RawLength → Bytes
raw_length_words items (Written a) = spaced_words a
raw_length_words items Listed = decimal items

abbrev pub raw_lengths_step : ℕ → RawType-F Bytes → Bytes
raw_lengths_step items (RawType-F.Integer t) = []
raw_lengths_step items (RawType-F.PointerTo a) = []
raw_lengths_step items (RawType-F.Array a n) = codes "[" ++ (raw_length_words items n ++ (codes "]" ++ a))
raw_lengths_step items (RawType-F.Struct tag) = []

-- the lengths of a declarator whose list of initialisers has so many items, outermost first
abbrev pub raw_lengths : ℕ → RawType → Bytes
raw_lengths items = fold-RawType Bytes (raw_lengths_step items)

-- a name with its type, as it is declared
abbrev pub raw_declared : ℕ → RawType → Bytes → Bytes
raw_declared items t name = raw_base t ++ (codes " " ++ (raw_stars t ++ (name ++ raw_lengths items t)))

-- a type without a name
abbrev pub raw_type_words : RawType → Bytes
raw_type_words t = raw_base t ++ spaced_stars (raw_stars t)

abbrev pub raw_init_words : RawInit → Bytes
raw_init_words init.None = []
raw_init_words (init.One a) = codes " = " ++ spaced_words a
raw_init_words (init.Items all) = codes " = {" ++ (joined (codes ", ") (map spaced_words all) ++ codes "}")

-- ---- calls

abbrev pub raw_target_words : RawTarget → Bytes
raw_target_words target.None = []
raw_target_words (target.Place a) = spaced_words a ++ codes " = "
raw_target_words (target.Declared v) = raw_declared 0 v.shape v.name ++ codes " = "

abbrev pub raw_arg_words : RawArg → Bytes
raw_arg_words (Value a) = spaced_words a
raw_arg_words (Literal text) = text

abbrev pub raw_pointee_words : Bytes → Bool → Bytes
raw_pointee_words name true = codes "sizeof(*" ++ (name ++ codes ")")
raw_pointee_words name false = codes "sizeof *" ++ name

abbrev pub raw_size_words : RawSize → Bytes
raw_size_words (size.Type t) = codes "sizeof(" ++ (raw_type_words (named_type t) ++ codes ")")
raw_size_words (size.Pointee name closed) = raw_pointee_words name closed

abbrev pub raw_amount_words : RawAmount → Bytes
raw_amount_words (amount.Size z) = raw_size_words z
raw_amount_words (amount.CountSize a z) = spaced_words a ++ (codes " * " ++ raw_size_words z)
raw_amount_words (amount.SizeCount z a) = raw_size_words z ++ (codes " * " ++ spaced_words a)
raw_amount_words (amount.Count a) = spaced_words a

abbrev pub raw_cast_words : Option RawTypeName → Bytes
raw_cast_words None = []
raw_cast_words (Some t) = codes "(" ++ (raw_type_words (named_type t) ++ codes ")")

-- ---- statements

abbrev pub raw_return_words : Option RawExpr → Bytes
raw_return_words None = codes "return"
raw_return_words (Some a) = codes "return " ++ spaced_words a

abbrev pub raw_label_words : RawLabel → Bytes
raw_label_words (Case a) = codes "case " ++ (spaced_words a ++ codes ":")
raw_label_words Default = codes "default:"

abbrev pub raw_label_lines : List RawLabel → ℕ → Bytes
raw_label_lines [] n = []
raw_label_lines (l ∷ ls) n = line n (raw_label_words l) ++ raw_label_lines ls n

abbrev pub raw_statement_step : RawStatement-F Laid (ℕ → Bytes) → Laid
raw_statement_step (RawStatement-F.Declare l v i) = plain (raw_declared (item_count i) v.shape v.name ++ raw_init_words i)
raw_statement_step (RawStatement-F.Assign l a op b) = plain (spaced_words a ++ (codes " " ++ (assign_sign op ++ (codes " " ++ spaced_words b))))
raw_statement_step (RawStatement-F.Bump l a up before) = plain (bump_words (spaced_words a) up before)
raw_statement_step (RawStatement-F.Call l to f args) = plain (raw_target_words to ++ call_words f (map raw_arg_words args))
raw_statement_step (RawStatement-F.Heap l to cast n) =
    plain (raw_target_words to ++ (raw_cast_words cast ++ call_words (codes "malloc") (raw_amount_words n ∷ [])))
raw_statement_step (RawStatement-F.If l a body other) = laid_if (spaced_words a) body other
raw_statement_step (RawStatement-F.While l a b) = laid_while (spaced_words a) b
raw_statement_step (RawStatement-F.Do l a b) = laid_do (spaced_words a) b
raw_statement_step (RawStatement-F.For l i a step b) = laid_for i (spaced_words a) step b
raw_statement_step (RawStatement-F.Switch l a arms) = laid_switch (spaced_words a) arms
raw_statement_step (RawStatement-F.Block l b) = laid_block b
raw_statement_step (RawStatement-F.Return l a) = plain (raw_return_words a)

abbrev pub raw_arm_step : RawArm-F Laid (ℕ → Bytes) → ℕ → Bytes
raw_arm_step a = laid_case (raw_label_lines a.labels) a.body

-- a statement: its words, and its lines at each level
abbrev pub raw_laid : RawStatement → Laid
raw_laid = fold-RawStatement Laid (ℕ → Bytes) raw_statement_step raw_arm_step

-- a list of statements, at one level
abbrev pub raw_body_lines : ℕ → List RawStatement → Bytes
raw_body_lines n all = block_lines (map raw_laid all) n

-- ---- items

abbrev pub raw_result_words : Option RawType → Bytes
raw_result_words None = codes "void "
raw_result_words (Some t) = raw_base t ++ (codes " " ++ raw_stars t)

abbrev pub raw_named_words : Option Bytes → RawType → Bytes
raw_named_words None t = raw_type_words t
raw_named_words (Some name) t = raw_declared 0 t name

abbrev pub raw_param_words : RawParam → Bytes
raw_param_words p = raw_named_words p.name p.shape

-- the words of a function before its body or its semicolon
abbrev pub raw_head_words : RawHead → Bytes
raw_head_words h =
    static_words h.is_static ++ (raw_result_words h.result ++ (h.name ++ (codes "(" ++ (params_words (map raw_param_words h.params) ++ codes ")"))))

abbrev pub raw_member_lines : List RawMember → Bytes
raw_member_lines [] = []
raw_member_lines (m ∷ ms) = line 1 (raw_declared 0 m.shape m.name ++ codes ";") ++ raw_member_lines ms

abbrev pub raw_item_lines : RawItem → Bytes
raw_item_lines (Include is_stdlib) = line 0 (include_words is_stdlib)
raw_item_lines (Tag l name) = line 0 (codes "struct " ++ (name ++ codes ";"))
raw_item_lines (Struct l name members) = line 0 (codes "struct " ++ (name ++ codes " {")) ++ (raw_member_lines members ++ line 0 (codes "};"))
raw_item_lines (Global l v i is_static) = line 0 ((static_words is_static ++ raw_declared (item_count i) v.shape v.name) ++ (raw_init_words i ++ codes ";"))
raw_item_lines (Prototype l h) = line 0 (raw_head_words h ++ codes ";")
raw_item_lines (Define l h body) = line 0 (raw_head_words h ++ codes " {") ++ (raw_body_lines 1 body ++ line 0 (codes "}"))

abbrev pub raw_items_lines : List RawItem → Bytes
raw_items_lines [] = []
raw_items_lines (x ∷ xs) = raw_item_lines x ++ raw_items_lines xs

-- the layout of the tree of a text
abbrev pub raw_layout : RawProgram → Bytes
raw_layout raw = raw_items_lines raw.items
