-- Reading statements from left to right, as the parser does it. A number `d` bounds how deep what is read may nest.
use Rattle.std.specs.Prelude.{ℕ, zero, suc, ◌==◌, Bool, true, false, ◌||◌, List, [], ◌∷◌, ◌++◌, length, drop, codes, slice_get, Option, Some, None, Ok, Err, if◌then◌else◌}
use Rattle.c_tree.specs.declared.raw.expr.RawExpr.{RawExpr}
use Rattle.c_tree.specs.declared.raw.statement.RawLabel.{RawLabel}
use Rattle.c_tree.specs.declared.raw.statement.RawLabel.TheVariants.{Case, Default}
use Rattle.c_tree.specs.declared.raw.statement.RawArm.{RawArm}
use Rattle.c_tree.specs.declared.raw.statement.RawStatement.{RawStatement}
use Rattle.c_tree.specs.declared.raw.statement.RawStatement.TheVariants as s
use Rattle.c_language.specs.Words.{Bytes}
use Rattle.c_language.specs.TokenForms.{Tokens, line_of}
use Rattle.c_language.specs.Sees.{sees, is_token}
use Rattle.c_language.specs.ExprGrammar.{conditional_level}
use Rattle.c_language.specs.StatementGrammar.{arm}
use Rattle.c_language.specs.declared.token.Token.{Token}
use Rattle.c_language.specs.declared.token.TokenKind.TheVariants.{Name, Mark}
use Rattle.c_parse_expr.specs.Outcome.{Parser, and_then, refused, Deep, expect}
use Rattle.c_parse_expr.specs.ExprReading.{nested, expression}
use Rattle.c_parse_expr.specs.TypeReading.{begins_type, base}
use Rattle.c_parse_simple.specs.SimpleReading.{word, simple, nested_simple, nested_declared, nested_declaration}

-- ---- parts of statements

-- a test in its parentheses
unfoldable pub condition : ℕ → Parser RawExpr
condition d ts = and_then (expect (codes "(") ts) (λ _ ts. and_then (nested d conditional_level ts) (λ a ts. and_then (expect (codes ")") ts) (λ _ ts. Ok (a, ts))))

-- a declaration of a for, with its semicolon
unfoldable pub for_declared : ℕ → Parser (Option RawStatement)
for_declared d ts =
    and_then (base ts) (λ b mid. and_then (nested_declared d (line_of ts) b mid) (λ a mid. and_then (expect (codes ";") mid) (λ _ rest. Ok (Some a, rest))))

-- a simple statement of a for, up to a mark and with it
unfoldable pub for_simple : ℕ → Bytes → Parser (Option RawStatement)
for_simple d close ts = and_then (nested_simple d ts) (λ a ts. and_then (expect close ts) (λ _ ts. Ok (Some a, ts)))

-- what a for begins with, and its semicolon
unfoldable pub for_init : ℕ → Parser (Option RawStatement)
for_init d ts =
    if sees Mark (codes ";") ts then Ok (None, drop 1 ts)
    else if begins_type ts then for_declared d ts
    else for_simple d (codes ";") ts

-- what a for does after each turn, and its closing parenthesis
unfoldable pub for_step : ℕ → Parser (Option RawStatement)
for_step d ts = if sees Mark (codes ")") ts then Ok (None, drop 1 ts) else for_simple d (codes ")") ts

unfoldable pub sees_label : Tokens → Bool
sees_label ts = sees Name (codes "case") ts || sees Name (codes "default") ts

-- a label of a switch
unfoldable pub label : ℕ → Parser RawLabel
label d ts =
    if sees Name (codes "case") ts then and_then (nested d conditional_level (drop 1 ts)) (λ a ts. and_then (expect (codes ":") ts) (λ _ ts. Ok (Case a, ts)))
    else and_then (word (codes "default") ts) (λ _ ts. and_then (expect (codes ":") ts) (λ _ ts. Ok (Default, ts)))

-- one label or more; each turn reads one
unfoldable pub labels_from : ℕ → ℕ → List RawLabel → Parser (List RawLabel)
labels_from d zero found ts = refused ts
labels_from d (suc turns) found ts =
    and_then (label d ts) (λ a ts. if sees_label ts then labels_from d turns (found ++ a ∷ []) ts else Ok (found ++ a ∷ [], ts))

abbrev pub labels : ℕ → Parser (List RawLabel)
labels d ts = labels_from d (length ts) [] ts

abbrev pub ends : Option Token → Bool
ends None = true
ends (Some t) = is_token Mark (codes "}") t || (is_token Name (codes "break") t || (is_token Name (codes "case") t || is_token Name (codes "default") t))

-- the statements of a body or an arm end here
unfoldable pub is_at_end : Tokens → Bool
is_at_end ts = ends (slice_get ts 0)

-- a statement without parts, with its semicolon
unfoldable pub simple_statement : ℕ → Parser RawStatement
simple_statement d ts = and_then (simple d ts) (λ a ts. and_then (expect (codes ";") ts) (λ _ ts. Ok (a, ts)))

unfoldable pub returned : ℕ → ℕ → Parser RawStatement
returned d line ts =
    if sees Mark (codes ";") ts then Ok (s.Return line None, drop 1 ts)
    else and_then (expression d conditional_level ts) (λ a ts. and_then (expect (codes ";") ts) (λ _ ts. Ok (s.Return line (Some a), ts)))

-- ---- statements

-- The parameter reads a statement that is nested one deeper.
module _ (inner : Parser RawStatement) (d : ℕ) where
  -- what stands in a list: nothing for `;`, the variables of a declaration, or a statement
  unfoldable pub listed : Parser (List RawStatement)
  listed ts =
      if sees Mark (codes ";") ts then Ok ([], drop 1 ts)
      else if begins_type ts then nested_declaration d ts
      else and_then (inner ts) (λ a ts. Ok (a ∷ [], ts))

  -- each turn reads a statement, which takes at least one token
  unfoldable pub statements_from : ℕ → List RawStatement → Parser (List RawStatement)
  statements_from zero found ts = Ok (found, ts)
  statements_from (suc turns) found ts = if is_at_end ts then Ok (found, ts) else and_then (listed ts) (λ some ts. statements_from turns (found ++ some) ts)

  abbrev pub statements : Parser (List RawStatement)
  statements ts = statements_from (length ts) [] ts

  -- statements behind a brace, with the closing one
  unfoldable pub braced : Parser (List RawStatement)
  braced ts = and_then (statements ts) (λ all ts. and_then (expect (codes "}") ts) (λ _ ts. Ok (all, ts)))

  unfoldable pub body : Parser (List RawStatement)
  body ts =
      if sees Mark (codes "{") ts then braced (drop 1 ts)
      else if sees Mark (codes ";") ts then Ok ([], drop 1 ts)
      else and_then (inner ts) (λ a ts. Ok (a ∷ [], ts))

  unfoldable pub alternative : Parser (List RawStatement)
  alternative ts = if sees Name (codes "else") ts then body (drop 1 ts) else Ok ([], ts)

  unfoldable pub conditional : ℕ → Parser RawStatement
  conditional line ts = and_then (condition d ts) (λ a ts. and_then (body ts) (λ all ts. and_then (alternative ts) (λ other ts. Ok (s.If line a all other, ts))))

  unfoldable pub while_loop : ℕ → Parser RawStatement
  while_loop line ts = and_then (condition d ts) (λ a ts. and_then (body ts) (λ all ts. Ok (s.While line a all, ts)))

  unfoldable pub do_loop : ℕ → Parser RawStatement
  do_loop line ts =
      and_then (body ts) (λ all ts. and_then (word (codes "while") ts) (λ _ ts. and_then (condition d ts) (λ a ts. and_then (expect (codes ";") ts) (λ _ ts. Ok (s.Do line a all, ts)))))

  unfoldable pub for_loop : ℕ → Parser RawStatement
  for_loop line ts =
      and_then (expect (codes "(") ts) (λ _ ts. and_then (for_init d ts) (λ first ts. and_then (nested d conditional_level ts) (λ a ts. and_then (expect (codes ";") ts) (λ _ ts.
      and_then (for_step d ts) (λ step ts. and_then (body ts) (λ all ts. Ok (s.For line first a step all, ts)))))))

  -- the end of an arm behind its labels and statements, and whether it is a break, so that another arm may follow
  unfoldable pub arm_end : Bool → List RawLabel → List RawStatement → Parser (RawArm × Bool)
  arm_end is_empty marks all ts =
      if sees Name (codes "break") ts then and_then (expect (codes ";") (drop 1 ts)) (λ _ ts. Ok ((arm marks all, true), ts))
      else if is_empty then refused ts
      else and_then (expect (codes "}") ts) (λ _ ts. Ok ((arm marks all, false), ts))

  unfoldable pub arm_of : Parser (RawArm × Bool)
  arm_of ts = and_then (labels d ts) (λ marks mid. and_then (statements mid) (λ all ts. arm_end (sees Mark (codes "}") mid) marks all ts))

  unfoldable pub arms_from : ℕ → List RawArm → Parser (List RawArm)
  arms_from zero found ts = refused ts
  arms_from (suc turns) found ts =
      if sees Mark (codes "}") ts then Ok (found, drop 1 ts)
      else and_then (arm_of ts) (λ x ts. if x.1 then arms_from turns (found ++ x.0 ∷ []) ts else Ok (found ++ x.0 ∷ [], ts))

  unfoldable pub switch : ℕ → Parser RawStatement
  switch line ts = and_then (condition d ts) (λ a ts. and_then (expect (codes "{") ts) (λ _ ts. and_then (arms_from (length ts) [] ts) (λ arms ts. Ok (s.Switch line a arms, ts))))

  unfoldable pub block : ℕ → Parser RawStatement
  block line ts = if d == 0 then Err Deep else and_then (braced ts) (λ all ts. Ok (s.Block line all, ts))

  -- a statement other than a declaration and `;`
  unfoldable pub statement_with : Parser RawStatement
  statement_with ts =
      if sees Name (codes "if") ts then conditional (line_of ts) (drop 1 ts)
      else if sees Name (codes "while") ts then while_loop (line_of ts) (drop 1 ts)
      else if sees Name (codes "do") ts then do_loop (line_of ts) (drop 1 ts)
      else if sees Name (codes "for") ts then for_loop (line_of ts) (drop 1 ts)
      else if sees Name (codes "switch") ts then switch (line_of ts) (drop 1 ts)
      else if sees Name (codes "return") ts then returned d (line_of ts) (drop 1 ts)
      else if sees Mark (codes "{") ts then block (line_of ts) (drop 1 ts)
      else simple_statement d ts

-- a statement that nests less deep than the number
unfoldable pub nested_statement : ℕ → Parser RawStatement
nested_statement zero ts = Err Deep
nested_statement (suc d) ts = statement_with (nested_statement d) d ts
