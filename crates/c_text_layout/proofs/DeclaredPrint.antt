-- The words of declarations: how they are joined.
use Rattle.std.proofs.Common.{◌≡◌, ℕ, [], ◌∷◌, ◌++◌, append_assoc, append-nil, refl, sym, ap, ◌∙◌, subst, false, codes}
use Rattle.c_tree.specs.declared.raw.expr.RawType.{RawType}
use Rattle.c_tree.specs.declared.raw.expr.RawVar.{RawVar}
use Rattle.c_tree.specs.declared.raw.statement.RawStatement.{RawStatement}
use Rattle.c_language.specs.Words.{Bytes}
use Rattle.c_language.specs.TokenForms.{Tokens, mark, line_of}
use Rattle.c_language.specs.Sees.{sees}
use Rattle.c_language.specs.TypeGrammar.{IsBase, IsDeclarator}
use Rattle.c_language.specs.StatementGrammar.{IsDeclared}
use Rattle.c_language.specs.Tokens.{IsTokens}
use Rattle.c_language.specs.declared.token.TokenKind.TheVariants.{Name, Mark}
use Rattle.c_language.specs.declared.token.Before.{Before}
use Rattle.text_syntax.proofs.Clear.{ClearInside}
use Rattle.c_text_layout.specs.Settled.{settled_var, settled}

-- ---- declarators with their base

-- tokens of a declared name, behind its base
pub record PrintedNamed (items line : ℕ) (bytes : Bytes) (v : RawVar) (after : Tokens) : Type 0 where
  pub tokens : Tokens
  pub mid : Tokens
  pub base : RawType
  pub lexed : (before : Before) → IsTokens before line bytes tokens
  pub is_base : IsBase tokens base mid
  pub is : IsDeclarator mid base (settled_var items v) after
  pub no_else : sees Name (codes "else") tokens ≡ false

pub named_join : (base x y z more : Bytes) → (base ++ (32 ∷ (x ++ (y ++ z)))) ++ more ≡ base ++ (32 ∷ (x ++ (y ++ (z ++ more))))
named_join base x y z more = append_assoc base _ more ∙ ap (λ (u : Bytes). base ++ (32 ∷ u)) (append_assoc x (y ++ z) more ∙ ap (λ (u : Bytes). x ++ u) (append_assoc y z more))

-- ---- declarations of one name

-- tokens of a declaration that is the same in all that the layout keeps, and then these
pub record PrintedDeclared (line : ℕ) (bytes : Bytes) (a : RawStatement) (after : Tokens) : Type 0 where
  pub tokens : Tokens
  pub mid : Tokens
  pub base : RawType
  pub lexed : (before : Before) → IsTokens before line bytes tokens
  pub is_base : IsBase tokens base mid
  pub found : RawStatement
  pub is : IsDeclared (line_of tokens) base mid found after
  pub same : settled found ≡ settled a
  pub no_else : sees Name (codes "else") tokens ≡ false
  pub clear : ClearInside mid after

pub declared_as : {line : ℕ} {a : RawStatement} {after : Tokens} {x y : Bytes} → x ≡ y → PrintedDeclared line y a after → PrintedDeclared line x a after
declared_as {line} {a} {after} e p = subst (λ (z : Bytes). PrintedDeclared line z a after) (sym e) p

pub equals_no_length : (l : ℕ) (ts : Tokens) → sees Mark (codes "[") (mark (codes "=") l ∷ ts) ≡ false
unfolding sees
equals_no_length l ts = refl

pub equals_join : (x y more : Bytes) → (x ++ (codes " = " ++ y)) ++ more ≡ x ++ (codes " = " ++ (y ++ more))
equals_join x y more = append_assoc x (codes " = " ++ y) more

pub list_join : (x y more : Bytes) → (x ++ (codes " = {" ++ (y ++ codes "}"))) ++ more ≡ x ++ (codes " = {" ++ (y ++ (125 ∷ more)))
list_join x y more = append_assoc x _ more ∙ ap (λ (z : Bytes). x ++ (codes " = {" ++ z)) (append_assoc y (codes "}") more)

pub plain_join : (x more : Bytes) → (x ++ []) ++ more ≡ x ++ more
plain_join x more = ap (λ (z : Bytes). z ++ more) (append-nil x)
