-- The constructs of C99 that the language leaves out, each by the token at which it is recognised.
--
-- Below, `before` holds the tokens before that token, the nearest first, and `behind` those behind it. A construct of the
-- first kind is told by these tokens alone, wherever it stands. Those of the second kind have no production, so that a
-- text with such a construct has no tree: they are only spoken of where the tokens have none, and their places are then
-- told by the tokens around.
use Rattle.std.specs.Prelude.{◌≡◌, ℕ, ◌+◌, ◌-◌, ◌==◌, Bool, true, false, ◌&&◌, ◌||◌, not, List, [], ◌∷◌, ◌++◌, drop, reverse, codes, Option, Some, None, if◌then◌else◌, slice_get}
use Rattle.std.specs.Str.{bytes_eq}
use Rattle.std.specs.List.{list_any}
use Rattle.c_tree.specs.declared.raw.program.RawProgram.{RawProgram}
use Rattle.c_language.specs.Words.{Bytes}
use Rattle.c_language.specs.TokenForms.{Tokens, name, mark, string, directive}
use Rattle.c_language.specs.Sees.{is_kind, is_token, is_some_token, sees, sees_second, is_keyword, is_some_name}
use Rattle.c_language.specs.IntWords.{is_int_word, sees_int_word}
use Rattle.c_language.specs.ItemGrammar.{IsProgram}
use Rattle.c_language.specs.declared.token.Token.{Token}
use Rattle.c_language.specs.declared.token.TokenKind.{TokenKind}
use Rattle.c_language.specs.declared.token.TokenKind.TheVariants.{Name, Mark}

-- ---- what stands around a token

-- the words that begin a construct wherever they stand (ISO C99 6.4.1)
abbrev pub left_out_words : List Bytes
left_out_words =
    codes "goto" ∷ codes "continue" ∷ codes "typedef" ∷ codes "enum" ∷ codes "union" ∷ codes "float" ∷ codes "double" ∷ codes "_Bool" ∷ codes "const" ∷ codes "volatile" ∷ codes "restrict" ∷ codes "extern" ∷ codes "register" ∷ codes "auto" ∷ codes "inline" ∷ []

unfoldable pub is_left_out_word : Bytes → Bool
is_left_out_word w = list_any (bytes_eq w) left_out_words

-- how many braces are open
unfoldable pub open_braces : Tokens → ℕ
open_braces [] = 0
open_braces (t ∷ before) =
    if is_token Mark (codes "{") t then open_braces before + 1
    else if is_token Mark (codes "}") t then open_braces before - 1
    else open_braces before

-- what stands behind the first semicolon
unfoldable pub behind_semicolon : Tokens → Tokens
behind_semicolon [] = []
behind_semicolon (t ∷ behind) = if is_token Mark (codes ";") t then behind else behind_semicolon behind

-- a statement here stands in its list by itself, and is no body of another one
unfoldable pub stands_in_list : Tokens → Bool
stands_in_list before = sees Mark (codes ";") before || (sees Mark (codes "{") before || sees Mark (codes "}") before)

-- A statement here, which goes up to the first semicolon, is the last of its function: behind it stands the one brace that is open.
unfoldable pub ends_function : Tokens → Tokens → Bool
ends_function before behind = (open_braces before == 1) && (stands_in_list before && sees Mark (codes "}") (behind_semicolon behind))

-- a label may follow: that of the first arm, another one of its arm, or one behind a break
unfoldable pub begins_label : Tokens → Bool
begins_label before =
    sees Mark (codes "{") before || (sees Mark (codes ":") before || (sees Mark (codes ";") before && sees_second Name (codes "break") before))

-- the first argument of printf follows
unfoldable pub begins_format : Tokens → Bool
begins_format before = sees Mark (codes "(") before && sees_second Name (codes "printf") before

abbrev pub is_some_kind : TokenKind → Option Token → Bool
is_some_kind kind None = false
is_some_kind kind (Some t) = is_kind kind t

-- a tag, the name of a function, and its parenthesis
unfoldable pub names_function : Tokens → Bool
names_function behind = is_some_kind Name (slice_get behind 0) && (is_some_kind Name (slice_get behind 1) && is_some_token Mark (codes "(") (slice_get behind 2))

abbrev pub ends_param : Option Token → Bool
ends_param t = is_some_token Mark (codes ",") t || is_some_token Mark (codes ")") t

-- a parameter may begin here: behind a comma, or behind a parenthesis that isn't that of a sizeof
unfoldable pub begins_param : Tokens → Bool
begins_param before = sees Mark (codes ",") before || (sees Mark (codes "(") before && not (sees_second Name (codes "sizeof") before))

-- a tag, and a name or none, up to the end of a parameter
unfoldable pub names_param : Tokens → Bool
names_param behind = is_some_kind Name (slice_get behind 0) && (ends_param (slice_get behind 1) || (is_some_kind Name (slice_get behind 1) && ends_param (slice_get behind 2)))

-- ---- constructs that are told wherever they stand

-- the token begins one of them
pub data IsTold : Tokens → Token → Tokens → Type 0 where
  -- a word of jumps, types, qualifiers or storage that has no place in the language
  word : {before behind : Tokens} {w : Bytes} {l : ℕ} → is_left_out_word w ≡ true → IsTold before (name w l) behind
  -- a preprocessing line other than the includes of stdio.h and stdlib.h
  preprocessing : {before behind : Tokens} {text : Bytes} {l : ℕ} → IsTold before (directive text l) behind
  ellipsis : {before behind : Tokens} {l : ℕ} → IsTold before (mark (codes "...") l) behind
  -- a return that isn't the last statement of a function
  early_return : {before behind : Tokens} {l : ℕ} → ends_function before behind ≡ false → IsTold before (name (codes "return") l) behind
  -- behind an arm that has statements and no break, the next label
  fallen_into_case : {before behind : Tokens} {l : ℕ} → begins_label before ≡ false → IsTold before (name (codes "case") l) behind
  fallen_into_default : {before behind : Tokens} {l : ℕ} → begins_label before ≡ false → IsTold before (name (codes "default") l) behind
  -- a string other than the format of a printf
  other_string : {before behind : Tokens} {text : Bytes} {l : ℕ} → begins_format before ≡ false → IsTold before (string text l) behind
  -- a function whose result is a struct
  struct_result : {before behind : Tokens} {l : ℕ} → names_function behind ≡ true → IsTold before (name (codes "struct") l) behind
  -- a parameter that is a struct
  struct_param : {before behind : Tokens} {l : ℕ} → (open_braces before == 0) ≡ true → begins_param before ≡ true → names_param behind ≡ true → IsTold before (name (codes "struct") l) behind

-- ---- what stands around a token that has no place in a production

-- brackets of all kinds
abbrev pub opens : Bytes → Bool
opens w = bytes_eq w (codes "(") || (bytes_eq w (codes "[") || bytes_eq w (codes "{"))

abbrev pub closes : Bytes → Bool
closes w = bytes_eq w (codes ")") || (bytes_eq w (codes "]") || bytes_eq w (codes "}"))

abbrev pub is_opening : Token → Bool
is_opening t = is_kind Mark t && opens t.text

abbrev pub is_closing : Token → Bool
is_closing t = is_kind Mark t && closes t.text

-- the innermost bracket that is open once so many more are opened, and the tokens before it
unfoldable pub innermost : ℕ → Tokens → Tokens
innermost n [] = []
innermost n (t ∷ before) =
    if is_closing t then innermost (n + 1) before
    else if is_opening t then (if n == 0 then t ∷ before else innermost (n - 1) before)
    else innermost n before

-- what stands behind the bracket that closes so many and one
unfoldable pub outside : ℕ → Tokens → Tokens
outside n [] = []
outside n (t ∷ behind) =
    if is_opening t then outside (n + 1) behind
    else if is_closing t then (if n == 0 then behind else outside (n - 1) behind)
    else outside n behind

-- the innermost open bracket is the parenthesis behind this word
unfoldable pub is_within : Bytes → Tokens → Bool
is_within w before = sees Mark (codes "(") (innermost 0 before) && sees_second Name w (innermost 0 before)

-- the innermost open bracket is a brace behind a closing parenthesis, whose opening one stands behind `switch`
unfoldable pub is_in_switch : Tokens → Bool
is_in_switch before =
    (sees Mark (codes "{") (innermost 0 before) && sees_second Mark (codes ")") (innermost 0 before)) && is_within (codes "switch") (drop 2 (innermost 0 before))

-- the innermost open bracket is a brace behind a tag
unfoldable pub is_in_struct : Tokens → Bool
is_in_struct before = sees Mark (codes "{") (innermost 0 before) && is_some_token Name (codes "struct") (slice_get (innermost 0 before) 2)

-- the innermost open bracket is the brace of a list behind `=`
unfoldable pub is_in_list : Tokens → Bool
is_in_list before = sees Mark (codes "{") (innermost 0 before) && sees_second Mark (codes "=") (innermost 0 before)

-- the innermost open bracket is a parenthesis other than that of a for
unfoldable pub is_in_parens : Tokens → Bool
is_in_parens before = sees Mark (codes "(") (innermost 0 before) && not (is_within (codes "for") before)

unfoldable pub is_in_index : Tokens → Bool
is_in_index before = sees Mark (codes "[") (innermost 0 before)

-- Going back from here to the bracket or semicolon behind which the statement begins, past what stands in brackets of its own, a
-- token is found before one that ends the search.
unfoldable pub stands_here : (Token → Bool) → (Token → Bool) → ℕ → Tokens → Bool
stands_here found ends n [] = false
stands_here found ends n (t ∷ before) =
    if is_closing t then (if (n == 0) && is_token Mark (codes "}") t then false else stands_here found ends (n + 1) before)
    else if is_opening t then (if n == 0 then false else stands_here found ends (n - 1) before)
    else if n == 0 then (if found t then true else if ends t then false else stands_here found ends 0 before)
    else stands_here found ends n before

-- the operators of an assignment (6.5.16)
abbrev pub assignment_signs : List Bytes
assignment_signs = codes "=" ∷ codes "+=" ∷ codes "-=" ∷ codes "*=" ∷ codes "/=" ∷ codes "%=" ∷ codes "&=" ∷ codes "|=" ∷ codes "^=" ∷ codes "<<=" ∷ codes ">>=" ∷ []

unfoldable pub is_assignment_sign : Bytes → Bool
is_assignment_sign w = list_any (bytes_eq w) assignment_signs

abbrev pub is_bump_sign : Bytes → Bool
is_bump_sign w = bytes_eq w (codes "++") || bytes_eq w (codes "--")

-- the operator of an assignment, `++`, `--`, or return
unfoldable pub is_effect : Token → Bool
is_effect t = (is_kind Mark t && (is_assignment_sign t.text || is_bump_sign t.text)) || is_token Name (codes "return") t

unfoldable pub ends_effect : Token → Bool
ends_effect t = is_token Mark (codes ";") t || is_token Mark (codes ",") t

-- before this in its statement, and behind a comma, stands a side effect or return
unfoldable pub holds_effect : Tokens → Bool
holds_effect before = stands_here is_effect ends_effect 0 before

-- a word of a type
unfoldable pub is_type_word : Token → Bool
is_type_word t = is_kind Name t && (is_int_word t.text || (bytes_eq t.text (codes "struct") || bytes_eq t.text (codes "void")))

unfoldable pub ends_declaration : Token → Bool
ends_declaration t = is_token Mark (codes ";") t

-- this stands in a declaration
unfoldable pub declares : Tokens → Bool
declares before = stands_here is_type_word ends_declaration 0 before

unfoldable pub is_case : Token → Bool
is_case t = is_token Name (codes "case") t

unfoldable pub ends_label : Token → Bool
ends_label t = is_token Mark (codes ":") t || is_token Mark (codes ";") t

-- this stands between case and its colon
unfoldable pub is_in_label : Tokens → Bool
is_in_label before = stands_here is_case ends_label 0 before

-- a semicolon, and behind it the end of an arm
unfoldable pub ends_arm : Tokens → Bool
ends_arm behind = sees Mark (codes ";") behind && (sees_second Mark (codes "}") behind || (sees_second Name (codes "case") behind || sees_second Name (codes "default") behind))

-- a statement of an arm's list begins here
unfoldable pub begins_in_arm : Tokens → Bool
begins_in_arm before = stands_in_list before || sees Mark (codes ":") before

-- a break here ends the arm of a switch
unfoldable pub is_own_break : Tokens → Tokens → Bool
is_own_break before behind = is_in_switch before && (begins_in_arm before && ends_arm behind)

-- a statement may begin here
unfoldable pub begins_statement : Tokens → Bool
begins_statement before =
    sees Mark (codes ";") before || (sees Mark (codes "{") before || (sees Mark (codes "}") before || (sees Mark (codes ")") before || (sees Mark (codes ":") before || (sees Name (codes "else") before || sees Name (codes "do") before)))))

-- a colon belongs to this token
unfoldable pub owes_colon : Token → Bool
owes_colon t = is_token Mark (codes "?") t || (is_token Name (codes "case") t || is_token Name (codes "default") t)

-- a semicolon or a brace
unfoldable pub ends_statement : Token → Bool
ends_statement t = is_token Mark (codes ";") t || (is_token Mark (codes "{") t || is_token Mark (codes "}") t)

-- how many colons are still to come, of `?`, case and default in this statement
unfoldable pub owed_colons : Tokens → ℕ
owed_colons [] = 0
owed_colons (t ∷ before) =
    if owes_colon t then owed_colons before + 1
    else if is_token Mark (codes ":") t then owed_colons before - 1
    else if ends_statement t then 0
    else owed_colons before

-- the words of a type, or a tag, end here
unfoldable pub ends_type : Tokens → Bool
ends_type before = sees_int_word before || (sees Name (codes "void") before || sees_second Name (codes "struct") before)

-- the tokens without the stars in front
unfoldable pub behind_stars : Tokens → Tokens
behind_stars [] = []
behind_stars (t ∷ ts) = if is_token Mark (codes "*") t then behind_stars ts else t ∷ ts

-- among the words of an integer type in front is `long`
unfoldable pub holds_long : Tokens → Bool
holds_long [] = false
holds_long (t ∷ ts) = if is_token Name (codes "long") t then true else if is_kind Name t && is_int_word t.text then holds_long ts else false

-- the tokens without the words of an integer type in front
unfoldable pub behind_words : Tokens → Tokens
behind_words [] = []
behind_words (t ∷ ts) = if is_kind Name t && is_int_word t.text then behind_words ts else t ∷ ts

-- ---- calls

-- the marks before which a call is a statement's end, an initialiser or a head
abbrev pub ends_call : Bytes → Bool
ends_call w = bytes_eq w (codes ";") || (bytes_eq w (codes ",") || (bytes_eq w (codes ")") || (bytes_eq w (codes "{") || bytes_eq w (codes "}"))))

abbrev pub is_some_operator : Option Token → Bool
is_some_operator None = false
is_some_operator (Some t) = is_kind Mark t && not (ends_call t.text)

-- the marks behind which no operand is a part of a larger expression
abbrev pub parts_operands : Bytes → Bool
parts_operands w = ends_call w || (bytes_eq w (codes "=") || (bytes_eq w (codes ":") || (bytes_eq w (codes "]") || bytes_eq w (codes "("))))

-- a mark with a right operand, return or case
unfoldable pub is_left_operator : Token → Bool
is_left_operator t = (is_kind Mark t && not (parts_operands t.text)) || (is_token Name (codes "return") t || is_token Name (codes "case") t)

abbrev pub is_some_left_operator : Option Token → Bool
is_some_left_operator None = false
is_some_left_operator (Some t) = is_left_operator t

-- a cast to an integer type ends here
unfoldable pub ends_cast : Tokens → Bool
ends_cast before = sees Mark (codes ")") before && sees_int_word (drop 1 before)

-- an operand here has an operator, return or case before it
unfoldable pub has_left_operator : Tokens → Bool
has_left_operator before = is_some_left_operator (slice_get before 0) || (ends_cast before || (sees Mark (codes ":") before && holds_effect before))

-- an operand here stands in brackets other than those of a for, in a list, or is what a global begins with
unfoldable pub is_enclosed : Tokens → Bool
is_enclosed before = (is_in_index before || is_in_parens before) || (is_in_list before || (sees Mark (codes "=") before && (open_braces before == 0)))

-- what stands behind a call is an operator, or the semicolon of a for's condition
unfoldable pub goes_on : Tokens → Tokens → Bool
goes_on before after = is_some_operator (slice_get after 0) || (is_within (codes "for") before && (sees Mark (codes ";") before && sees Mark (codes ";") after))

-- what stands here is the name of a member
unfoldable pub is_selected : Tokens → Bool
is_selected before = sees Mark (codes ".") before || sees Mark (codes "->") before

-- A call here, of no member, is a part of a larger expression, or stands where an expression is. `behind` begins with its parenthesis.
unfoldable pub is_inner_call : Tokens → Tokens → Bool
is_inner_call before behind =
    not (ends_type (behind_stars before) || is_selected before) && (has_left_operator before || (is_enclosed before || goes_on before (outside 0 (drop 1 behind))))

-- a parenthesis in front is that of an if, while, for or switch
unfoldable pub opens_condition : Tokens → Bool
opens_condition ts = sees_second Name (codes "if") ts || (sees_second Name (codes "while") ts || (sees_second Name (codes "for") ts || sees_second Name (codes "switch") ts))

-- the parenthesis that is closed here holds an expression
unfoldable pub ends_parens : Tokens → Bool
ends_parens before = sees Mark (codes ")") before && (not (ends_type (behind_stars (drop 1 before))) && not (opens_condition (innermost 0 (drop 1 before))))

-- a member behind `.` or `->` ends here
unfoldable pub ends_member : Tokens → Bool
ends_member before = is_some_kind Name (slice_get before 0) && (sees_second Mark (codes ".") before || sees_second Mark (codes "->") before)

-- an operand that isn't a name ends here
unfoldable pub ends_designator : Tokens → Bool
ends_designator before = sees Mark (codes "]") before || (ends_member before || ends_parens before)

-- expressions stand here: in a function, or behind `=`
unfoldable pub is_in_code : Tokens → Bool
is_in_code before = not (open_braces before == 0) || holds_effect before

unfoldable pub is_pointer_call : Tokens → Bool
is_pointer_call before = ends_designator before && is_in_code before

-- ---- side effects and commas

-- A side effect here stands inside an expression: in brackets other than those of a for or of parameters, in a list, or in a statement
-- that has another one or case before it.
unfoldable pub is_inner_effect : Tokens → Bool
is_inner_effect before =
    (is_in_index before || (is_in_parens before && not (declares before))) || (is_in_list before || (holds_effect before || is_in_label before))

-- `++` or `--` behind what a star stands before
unfoldable pub is_starred : Tokens → Bool
is_starred before = is_some_kind Name (slice_get before 0) && sees_second Mark (codes "*") before

-- no name stands before the innermost open parenthesis
unfoldable pub is_grouped : Tokens → Bool
is_grouped before = sees Mark (codes "(") (innermost 0 before) && not (is_some_name (slice_get (innermost 0 before) 1))

-- behind a side effect or return in a statement of a function
unfoldable pub is_behind_effect : Tokens → Bool
is_behind_effect before = not (open_braces before == 0) && (holds_effect before && not (is_in_list before))

-- A comma that no list has: in an index, in parentheses that no name stands before, behind case, or behind a side effect or return,
-- and in no declaration.
unfoldable pub is_comma_place : Tokens → Bool
is_comma_place before = is_in_index before || (is_in_label before || ((is_grouped before || is_behind_effect before) && not (declares before)))

-- ---- types

-- the parenthesis of a cast in front: no name and no sizeof stands before it
unfoldable pub is_cast_paren : Tokens → Bool
is_cast_paren ts = sees Mark (codes "(") ts && not (is_some_name (slice_get ts 1) || sees_second Name (codes "sizeof") ts)

-- the parenthesis of a cast stands before the type here
unfoldable pub opens_cast : Tokens → Bool
opens_cast before = (sees_int_word before && is_cast_paren (behind_words before)) || (sees_second Name (codes "struct") before && is_cast_paren (drop 2 before))

-- stars and the closing parenthesis of a cast, which isn't on malloc
unfoldable pub casts_other : Tokens → Bool
casts_other behind = sees Mark (codes ")") (behind_stars behind) && not (sees_second Name (codes "malloc") (behind_stars behind))

-- a name or a bracket that is closed ends here, as before parameters
unfoldable pub ends_declarator : Tokens → Bool
ends_declarator before = is_some_name (slice_get before 0) || (sees Mark (codes "]") before || sees Mark (codes ")") before)

-- `void` is a result, stands for no parameters, or before a parenthesis
unfoldable pub is_void_place : Tokens → Tokens → Bool
is_void_place before behind =
    (sees Mark (codes "(") before && (ends_declarator (drop 1 before) && sees Mark (codes ")") behind))
    || (sees Mark (codes "(") behind || (is_some_kind Name (slice_get behind 0) && sees_second Mark (codes "(") behind))

-- a declarator may begin with this
unfoldable pub begins_declarator : Tokens → Bool
begins_declarator ts = sees Mark (codes "*") ts || (sees Mark (codes "(") ts || is_some_name (slice_get ts 0))

-- A struct is defined here inside another declaration: in a function, struct or parameter, or with a declarator behind its closing brace.
unfoldable pub is_inner_definition : Tokens → Tokens → Bool
is_inner_definition before behind = not (open_braces before == 0) || (is_in_parens before || begins_declarator (outside 0 behind))

-- this stands in a parameter of a function's head
unfoldable pub is_in_param : Tokens → Bool
is_in_param before = (open_braces before == 0) && (is_in_parens before && declares before)

-- the first semicolon behind a for's parenthesis has another one behind it
unfoldable pub lacks_condition : Tokens → Bool
lacks_condition behind = sees Mark (codes "(") behind && sees Mark (codes ";") (behind_semicolon behind)

-- ---- the constructs

-- the token begins one of them
pub data IsWithoutProduction : Tokens → Token → Tokens → Type 0 where
  -- a label, at the beginning of a statement
  label : {before behind : Tokens} {w : Bytes} {l m : ℕ} → is_keyword w ≡ false → begins_statement before ≡ true → (owed_colons before == 0) ≡ true
      → IsWithoutProduction before (name w l) (mark (codes ":") m ∷ behind)
  -- a break that isn't the end of a switch's arm
  early_break : {before behind : Tokens} {l : ℕ} → is_own_break before behind ≡ false → IsWithoutProduction before (name (codes "break") l) behind
  -- a call inside a larger expression
  inner_call : {before behind : Tokens} {w : Bytes} {l m : ℕ} → is_keyword w ≡ false → is_inner_call before (mark (codes "(") m ∷ behind) ≡ true
      → IsWithoutProduction before (name w l) (mark (codes "(") m ∷ behind)
  -- a call of what is no name
  pointer_call : {before behind : Tokens} {l : ℕ} → is_pointer_call before ≡ true → IsWithoutProduction before (mark (codes "(") l) behind
  -- a declarator in parentheses
  paren_declarator : {before behind : Tokens} {l : ℕ} → ends_type (behind_stars before) ≡ true → IsWithoutProduction before (mark (codes "(") l) behind
  second_long : {before behind : Tokens} {l : ℕ} → holds_long before ≡ true → IsWithoutProduction before (name (codes "long") l) behind
  -- a static variable inside a function
  inner_static : {before behind : Tokens} {l : ℕ} → (open_braces before == 0) ≡ false → is_in_struct before ≡ false → IsWithoutProduction before (name (codes "static") l) behind
  -- a sizeof outside the argument of malloc
  other_size : {before behind : Tokens} {l : ℕ} → is_within (codes "malloc") before ≡ false → IsWithoutProduction before (name (codes "sizeof") l) behind
  -- an assignment inside an expression
  inner_assignment : {before behind : Tokens} {w : Bytes} {l : ℕ} → is_assignment_sign w ≡ true → is_inner_effect before ≡ true → IsWithoutProduction before (mark w l) behind
  -- `++` or `--` inside an expression, as in `*p++`
  inner_bump : {before behind : Tokens} {w : Bytes} {l : ℕ} → is_bump_sign w ≡ true → (is_inner_effect before || is_starred before) ≡ true → IsWithoutProduction before (mark w l) behind
  -- a comma operator
  comma : {before behind : Tokens} {l : ℕ} → is_comma_place before ≡ true → IsWithoutProduction before (mark (codes ",") l) behind
  -- the width of a bit-field
  bit_field : {before behind : Tokens} {l : ℕ} → is_in_struct before ≡ true → IsWithoutProduction before (mark (codes ":") l) behind
  -- a cast to a pointer that isn't on malloc
  pointer_cast : {before behind : Tokens} {l : ℕ} → opens_cast before ≡ true → casts_other behind ≡ true → IsWithoutProduction before (mark (codes "*") l) behind
  -- a void that is neither a result nor stands for no parameters
  other_void : {before behind : Tokens} {l : ℕ} → is_void_place before behind ≡ false → IsWithoutProduction before (name (codes "void") l) behind
  -- a struct that is defined inside another declaration
  inner_struct : {before behind : Tokens} {l m k : ℕ} {w : Bytes} → is_inner_definition before behind ≡ true
      → IsWithoutProduction (name w m ∷ name (codes "struct") k ∷ before) (mark (codes "{") l) behind
  inner_untagged_struct : {before behind : Tokens} {l k : ℕ} → IsWithoutProduction (name (codes "struct") k ∷ before) (mark (codes "{") l) behind
  -- the second length of a parameter
  second_length : {before behind : Tokens} {l m : ℕ} → is_in_param (mark (codes "]") m ∷ before) ≡ true → IsWithoutProduction (mark (codes "]") m ∷ before) (mark (codes "[") l) behind
  -- a for without a condition
  endless_for : {before behind : Tokens} {l : ℕ} → lacks_condition behind ≡ true → IsWithoutProduction before (name (codes "for") l) behind

-- ---- left out, and in the grammar

-- The token between these two parts of the tokens begins a left-out construct.
pub data BeginsLeftOut (ts : Tokens) : Tokens → Token → Tokens → Type 0 where
  told : {front behind : Tokens} {t : Token} → IsTold (reverse front) t behind → BeginsLeftOut ts front t behind
  without_tree : {front behind : Tokens} {t : Token} → ((all : RawProgram) → IsProgram ts all → ⊥) → IsWithoutProduction (reverse front) t behind → BeginsLeftOut ts front t behind

-- A token with this text, on this line, begins a left-out construct.
pub record IsLeftOut (ts : Tokens) (text : Bytes) (line : ℕ) : Type 0 where
  pub front : Tokens
  pub token : Token
  pub behind : Tokens
  pub split : ts ≡ front ++ token ∷ behind
  pub text_is : token.text ≡ text
  pub line_is : token.line ≡ line
  pub begins : BeginsLeftOut ts front token behind

-- The tokens are in the grammar: they have a tree, and no left-out construct begins among them.
pub record IsInGrammar (ts : Tokens) : Type 0 where
  pub tree : RawProgram
  pub is : IsProgram ts tree
  pub whole : (text : Bytes) (line : ℕ) → IsLeftOut ts text line → ⊥
