-- Tokens in front of others, among which no left-out construct is told, form by form: expressions, declarations and statements.
use Rattle.std.proofs.Common.{◌≡◌, ◌≤◌, ℕ, ◌+◌, ◌-◌, ◌∷◌, Bool, true, false, not, ◌&&◌, codes, Option, refl, sym, ap, subst, ◌∙◌, arith, true≢false, slice_get}
use Rattle.std.specs.Prelude.{◌==◌, bytes_eq}
use Rattle.std.proofs.lemmas.Bool.{and_parts, not-true}
use Rattle.std.proofs.lemmas.Bool.Decides.{nat_tests}
use Rattle.c_arith.specs.declared.operators.BinaryOp.{BinaryOp}
use Rattle.c_tree.specs.declared.raw.expr.RawExpr.{RawExpr}
use Rattle.c_tree.specs.declared.raw.expr.RawType.{RawType}
use Rattle.c_tree.specs.declared.raw.expr.RawVar.{RawVar}
use Rattle.c_tree.specs.declared.raw.statement.RawAmount.{RawAmount}
use Rattle.c_tree.specs.declared.raw.statement.RawLabel.{RawLabel}
use Rattle.c_tree.specs.declared.raw.statement.RawSize.{RawSize}
use Rattle.c_tree.specs.declared.raw.statement.RawStatement.{RawStatement}
use Rattle.c_tree.specs.declared.raw.statement.RawTypeName.{RawTypeName}
use Rattle.c_language.specs.Words.{Bytes, assign_sign, bump_sign}
use Rattle.c_language.specs.TokenForms.{Tokens, name, string, mark}
use Rattle.c_language.specs.Sees.{is_some_token, sees, sees_second, is_keyword}
use Rattle.c_language.specs.ExprGrammar.{IsExpr}
use Rattle.c_language.specs.TypeGrammar.{IsBase, structure, integer, IsStars, NamesType, starred, IsLengths, IsOuterLengths, written, empty, IsDeclarator}
use Rattle.c_language.specs.StatementGrammar.{is_callee, IsSize, of_type, of_pointee, of_bare_pointee, IsAmount, IsMalloc, IsHeap, IsDeclared, IsLabel, IsTest, test}
use Rattle.c_language.specs.LeftOut.{is_left_out_word, IsTold, open_braces, behind_semicolon, ends_function, stands_in_list, begins_label, begins_format, names_function, begins_param, names_param, is_some_kind}
use Rattle.c_language.specs.Syntax.{Position, inner, final, takes_return}
use Rattle.c_language.specs.declared.token.TokenKind.TheVariants.{Name, Mark}
use Rattle.c_language.proofs.Tests.{false_true}
use Rattle.text_syntax.proofs.CalmTokens.{is_watched, AreUntold, AreCalm, done, more, calm_then, calm_braces, calm_behind, calm_untold, name_calm, expr_calm, int_calm, mark_untold, string_untold, return_untold, case_untold, default_untold, struct_untold}
use Rattle.text_syntax.proofs.Exprs.{stars_calm, outer_calm}
use Rattle.text_syntax.proofs.Statements.{name_level, string_level, end_level, opens_level, closes_level, back_level, assign_calm, bump_calm, end_behind, stands_end, stands_closed, inside_at, format_name, Inside}

-- ---- tokens before others at which none is told

-- what stands behind some tokens at the same depth of braces, where none is told
abbrev pub Behind : Tokens → Tokens → Type 0
Behind before rest = (after : Tokens) → open_braces after ≡ open_braces before → AreUntold after rest

pub calm_clear : {ts rest : Tokens} → AreCalm ts rest → (before : Tokens) → Behind before rest → AreUntold before ts
calm_clear done before k = k before refl
calm_clear (more {t} {ts} c j) before k = (calm_untold t before ts c, calm_clear j (t ∷ before) (λ after e. k after (e ∙ calm_braces t before c)))

pub mark_here : (w : Bytes) (l : ℕ) (before rest : Tokens) → bytes_eq w (codes "...") ≡ false → IsTold before (mark w l) rest → ⊥
mark_here w l before rest c told = mark_untold (mark w l) before rest refl c told

-- a word of the language that tells none
pub word_here : (w : Bytes) (l : ℕ) (before rest : Tokens) → not (is_watched w) ≡ true → IsTold before (name w l) rest → ⊥
word_here w l before rest c told = calm_untold (name w l) before rest c told

-- none is told among the tokens in front of the rest, wherever they stand
pub record Clear (ts rest : Tokens) : Type 0 where
  pub at : (before : Tokens) → Behind before rest → AreUntold before ts

-- nor where a brace is open
pub record ClearInside (ts rest : Tokens) : Type 0 where
  pub at : (before : Tokens) → Inside before → Behind before rest → AreUntold before ts

pub calm : {ts rest : Tokens} → AreCalm ts rest → Clear ts rest
calm c = record { at = λ before k. calm_clear c before k }

pub inside : {ts rest : Tokens} → Clear ts rest → ClearInside ts rest
inside c = record { at = λ before i k. c.at before k }

pub calm_inside : {ts rest : Tokens} → AreCalm ts rest → ClearInside ts rest
calm_inside c = inside (calm c)

pub expr_clear : {n : ℕ} {ts rest : Tokens} {a : RawExpr} → IsExpr n ts a rest → Clear ts rest
expr_clear h = calm (expr_calm h)

pub then_inside : {ts mid rest : Tokens} → AreCalm ts mid → ClearInside mid rest → ClearInside ts rest
then_inside c d = record { at = λ before i k. calm_clear c before (λ a u. d.at a (inside_at u i) (λ b v. k b (v ∙ u))) }

-- ---- types and declarators

-- a name and a parenthesis come next
abbrev pub function_follows : Tokens → Bool
function_follows ts = is_some_kind Name (slice_get ts 0) && is_some_token Mark (codes "(") (slice_get ts 1)

-- no parameter that is a struct begins here, before these tokens
abbrev pub NoParam : Tokens → Tokens → Type 0
NoParam before mid = (open_braces before == 0) ≡ true → begins_param before ≡ true → (tag : Bytes) (l : ℕ) → names_param (name tag l ∷ mid) ≡ true → ⊥

pub inside_param : (before mid : Tokens) → Inside before → NoParam before mid
inside_param before mid h z b tag l n = let e : (open_braces before == 0) ≡ false = grind (arith, nat_tests, h) in true≢false (sym z ∙ e)

pub no_function : (tag : Bytes) (l : ℕ) (ts : Tokens) → function_follows ts ≡ false → names_function (name tag l ∷ ts) ≡ false
unfolding names_function
no_function tag l ts h = h

pub base_clear : {ts mid : Tokens} {base : RawType} → IsBase ts base mid → function_follows mid ≡ false → (before : Tokens) → NoParam before mid → Behind before mid → AreUntold before ts
base_clear (structure {l} {m} {tag} {rest} key) f before p k = (
  struct_untold (name (codes "struct") l) before (name tag m ∷ rest) refl refl (no_function tag m rest f) (λ z b n. p z b tag m n),
  (
    word_here tag m (name (codes "struct") l ∷ before) rest (name_calm tag key),
    k (name tag m ∷ name (codes "struct") l ∷ before) (name_level tag m (name (codes "struct") l ∷ before) ∙ name_level (codes "struct") l before),
  ),
)
base_clear (integer h) f before p k = calm_clear (int_calm h) before k

pub outer_no_paren : {ts rest : Tokens} {a b : RawType} → IsOuterLengths ts a b rest → sees Mark (codes "(") rest ≡ false → sees Mark (codes "(") ts ≡ false
unfolding sees
outer_no_paren (written (IsLengths.done f)) h = h
outer_no_paren (written (IsLengths.length k j)) h = refl
outer_no_paren (empty k) h = refl

pub declarator_no_function : {ts rest : Tokens} {base : RawType} {v : RawVar} → IsDeclarator ts base v rest → sees Mark (codes "(") rest ≡ false → function_follows ts ≡ false
unfolding sees
declarator_no_function (IsDeclarator.named (IsStars.done f) k j) h = outer_no_paren j h
declarator_no_function (IsDeclarator.named (IsStars.star f) k j) h = refl

pub stars_no_function : {ts rest : Tokens} {l : ℕ} {a b : RawType} → IsStars ts a b (mark (codes ")") l ∷ rest) → function_follows ts ≡ false
stars_no_function (IsStars.done f) = refl
stars_no_function (IsStars.star f) = refl

pub declarator_calm : {ts rest : Tokens} {base : RawType} {v : RawVar} → IsDeclarator ts base v rest → AreCalm ts rest
declarator_calm (IsDeclarator.named {text} h k j) = calm_then (stars_calm h) (more (name_calm text k) (outer_calm j))

pub named_clear : {ts rest : Tokens} {l : ℕ} {t : RawTypeName} → NamesType ts t (mark (codes ")") l ∷ rest) → (before : Tokens) → Inside before → Behind before (mark (codes ")") l ∷ rest) → AreUntold before ts
named_clear (starred b j) before i k = base_clear b (stars_no_function j) before (inside_param before _ i) (λ a e. calm_clear (stars_calm j) a (λ c g. k c (g ∙ e)))

-- ---- calls

-- none is told among arguments, of which the first may be a string where a format may begin
pub record ClearArgs (strings : Bool) (ts rest : Tokens) : Type 0 where
  pub at : (before : Tokens) → (strings ≡ true → begins_format before ≡ true) → Behind before rest → AreUntold before ts

pub arg_value : {b : Bool} {n : ℕ} {ts rest : Tokens} {a : RawExpr} → IsExpr n ts a rest → ClearArgs b ts rest
arg_value h = record { at = λ before f k. calm_clear (expr_calm h) before k }

pub arg_literal : {b : Bool} (text : Bytes) (l : ℕ) (rest : Tokens) → b ≡ true → ClearArgs b (string text l ∷ rest) rest
arg_literal text l rest h = record { at = λ before f k. (string_untold (string text l) before rest refl (f h), k (string text l ∷ before) (string_level text l before)) }

pub args_last : {b : Bool} {l : ℕ} {ts rest : Tokens} → ClearArgs b ts (mark (codes ")") l ∷ rest) → ClearArgs b ts rest
args_last c = record { at = λ before f k. c.at before f (λ a u. calm_clear (more refl done) a (λ d v. k d (v ∙ u))) }

pub args_more : {b : Bool} {l : ℕ} {ts mid rest : Tokens} → ClearArgs b ts (mark (codes ",") l ∷ mid) → ClearArgs false mid rest → ClearArgs b ts rest
args_more c d = record { at = λ before f k. c.at before f (λ a u. calm_clear (more refl done) a (λ e v. d.at e (λ no. false_true no) (λ g w. k g (w ∙ v ∙ u)))) }

pub callee_calm : (w : Bytes) → is_callee w ≡ true → not (is_watched w) ≡ true
unfolding is_callee
callee_calm w h = name_calm w (not-true (is_keyword w) (and_parts _ _ h).0)

pub bare_call : {w : Bytes} {l m k : ℕ} {rest : Tokens} → is_callee w ≡ true → Clear (name w l ∷ mark (codes "(") m ∷ mark (codes ")") k ∷ rest) rest
bare_call {w} c = calm (more (callee_calm w c) (more refl (more refl done)))

pub call_clear : {w : Bytes} {l m : ℕ} {ts rest : Tokens} → is_callee w ≡ true → ClearArgs (bytes_eq w (codes "printf")) ts rest → Clear (name w l ∷ mark (codes "(") m ∷ ts) rest
call_clear {w} {l} {m} {ts} c d = record {
  at = λ before k. (
    word_here w l before (mark (codes "(") m ∷ ts) (callee_calm w c),
    (
      mark_here (codes "(") m (name w l ∷ before) ts refl,
      d.at (mark (codes "(") m ∷ name w l ∷ before) (λ f. format_name w l m before ∙ f) (λ a u. k a (u ∙ calm_braces (mark (codes "(") m) (name w l ∷ before) refl ∙ name_level w l before)),
    ),
  );
}

pub calm_sizeof : not (is_watched (codes "sizeof")) ≡ true
unfolding is_watched is_left_out_word
calm_sizeof = refl

pub calm_malloc : not (is_watched (codes "malloc")) ≡ true
unfolding is_watched is_left_out_word
calm_malloc = refl

pub calm_if : not (is_watched (codes "if")) ≡ true
unfolding is_watched is_left_out_word
calm_if = refl

pub calm_while : not (is_watched (codes "while")) ≡ true
unfolding is_watched is_left_out_word
calm_while = refl

pub calm_do : not (is_watched (codes "do")) ≡ true
unfolding is_watched is_left_out_word
calm_do = refl

pub calm_for : not (is_watched (codes "for")) ≡ true
unfolding is_watched is_left_out_word
calm_for = refl

pub calm_switch : not (is_watched (codes "switch")) ≡ true
unfolding is_watched is_left_out_word
calm_switch = refl

pub calm_else : not (is_watched (codes "else")) ≡ true
unfolding is_watched is_left_out_word
calm_else = refl

pub calm_break : not (is_watched (codes "break")) ≡ true
unfolding is_watched is_left_out_word
calm_break = refl

pub calm_static : not (is_watched (codes "static")) ≡ true
unfolding is_watched is_left_out_word
calm_static = refl

pub calm_void : not (is_watched (codes "void")) ≡ true
unfolding is_watched is_left_out_word
calm_void = refl

pub size_clear : {ts rest : Tokens} {z : RawSize} → IsSize ts z rest → (before : Tokens) → Inside before → Behind before rest → AreUntold before ts
size_clear (of_type {l} {m} {k = n} {ts} h) before i k =
    let at = mark (codes "(") m ∷ name (codes "sizeof") l ∷ before in
    let e = calm_braces (mark (codes "(") m) (name (codes "sizeof") l ∷ before) refl ∙ name_level (codes "sizeof") l before in (
      word_here (codes "sizeof") l before (mark (codes "(") m ∷ ts) calm_sizeof,
      (
        mark_here (codes "(") m (name (codes "sizeof") l ∷ before) ts refl,
        named_clear h at (inside_at e i) (λ a u. calm_clear (more refl done) a (λ b v. k b (v ∙ u ∙ e))),
      ),
    )
size_clear (of_pointee {w = w} key) before i k = calm_clear (more calm_sizeof (more refl (more refl (more (name_calm w key) (more refl done))))) before k
size_clear (of_bare_pointee {w = w} key) before i k = calm_clear (more calm_sizeof (more refl (more (name_calm w key) done))) before k

pub amount_clear : {ts rest : Tokens} {n : RawAmount} → IsAmount ts n rest → (before : Tokens) → Inside before → Behind before rest → AreUntold before ts
amount_clear (IsAmount.one h) before i k = size_clear h before i k
amount_clear (IsAmount.counted e h) before i k = calm_clear (calm_then (expr_calm e) (more refl done)) before (λ a u. size_clear h a (inside_at u i) (λ b v. k b (v ∙ u)))
amount_clear (IsAmount.multiplied h e) before i k = size_clear h before i (λ a u. calm_clear (more refl (expr_calm e)) a (λ b v. k b (v ∙ u)))
amount_clear (IsAmount.bytes e) before i k = calm_clear (expr_calm e) before k

pub malloc_clear : {ts rest : Tokens} {n : RawAmount} → IsMalloc ts n rest → (before : Tokens) → Inside before → Behind before rest → AreUntold before ts
malloc_clear (IsMalloc.malloc h) before i k =
    calm_clear (more calm_malloc (more refl done)) before (λ a u. amount_clear h a (inside_at u i) (λ b v. calm_clear (more refl done) b (λ c w. k c (w ∙ v ∙ u))))

pub heap_clear : {ts rest : Tokens} {t : Option RawTypeName} {n : RawAmount} → IsHeap ts t n rest → (before : Tokens) → Inside before → Behind before rest → AreUntold before ts
heap_clear (IsHeap.uncast h) before i k = malloc_clear h before i k
heap_clear (IsHeap.cast h p j) before i k =
    calm_clear (more refl done) before (λ a u. named_clear h a (inside_at u i) (λ b v. calm_clear (more refl done) b (λ c w. malloc_clear j c (inside_at (w ∙ v ∙ u) i) (λ d x. k d (x ∙ w ∙ v ∙ u)))))

pub allocation : {ts rest : Tokens} {t : Option RawTypeName} {n : RawAmount} → IsHeap ts t n rest → ClearInside ts rest
allocation h = record { at = λ before i k. heap_clear h before i k }

-- ---- simple statements and declarations

pub assigned : {n m l : ℕ} {ts mid rest : Tokens} {a b : RawExpr} (op : Option BinaryOp) → IsExpr n ts a (mark (assign_sign op) l ∷ mid) → IsExpr m mid b rest → ClearInside ts rest
assigned {l = l} op h k = calm_inside (calm_then (expr_calm h) (more (assign_calm op l) (expr_calm k)))

pub stored : {n l : ℕ} {ts mid rest : Tokens} {a : RawExpr} → IsExpr n ts a (mark (codes "=") l ∷ mid) → ClearInside mid rest → ClearInside ts rest
stored h c = then_inside (calm_then (expr_calm h) (more refl done)) c

pub bumped : {n l : ℕ} {ts rest : Tokens} {a : RawExpr} (up : Bool) → IsExpr n ts a (mark (bump_sign up) l ∷ rest) → ClearInside ts rest
bumped {l = l} up h = calm_inside (calm_then (expr_calm h) (more (bump_calm up l) done))

pub bumps : {n l : ℕ} {ts rest : Tokens} {a : RawExpr} (up : Bool) → IsExpr n ts a rest → ClearInside (mark (bump_sign up) l ∷ ts) rest
bumps {l = l} up h = calm_inside (more (bump_calm up l) (expr_calm h))

-- a list of initialisers up to its brace, which is opened before it
pub record ClearList (ts rest : Tokens) : Type 0 where
  pub at : (before : Tokens) → ((after : Tokens) → open_braces after ≡ open_braces before - 1 → AreUntold after rest) → AreUntold before ts

pub list_last : {n l : ℕ} {ts rest : Tokens} {a : RawExpr} → IsExpr n ts a (mark (codes "}") l ∷ rest) → ClearList ts rest
list_last {l = l} {rest = rest} e =
    record { at = λ before k. calm_clear (expr_calm e) before (λ a u. (mark_here (codes "}") l a rest refl, k (mark (codes "}") l ∷ a) (closes_level l a ∙ ap (λ (n : ℕ). n - 1) u))) }

pub list_more : {n l : ℕ} {ts mid rest : Tokens} {a : RawExpr} → IsExpr n ts a (mark (codes ",") l ∷ mid) → ClearList mid rest → ClearList ts rest
list_more e d = record { at = λ before k. calm_clear (calm_then (expr_calm e) (more refl done)) before (λ a u. d.at a (λ b v. k b (v ∙ ap (λ (n : ℕ). n - 1) u))) }

list_clear : {l m : ℕ} {mid rest : Tokens} → ClearList mid rest → Clear (mark (codes "=") l ∷ mark (codes "{") m ∷ mid) rest
list_clear {l} {m} {mid} d = record {
  at = λ before k.
      let one = mark (codes "=") l ∷ before in
      let e = opens_level m one ∙ ap (λ (n : ℕ). n + 1) (calm_braces (mark (codes "=") l) before refl) in (
        mark_here (codes "=") l before (mark (codes "{") m ∷ mid) refl,
        (
          mark_here (codes "{") m one mid refl,
          d.at (mark (codes "{") m ∷ one) (λ a u. k a (u ∙ ap (λ (n : ℕ). n - 1) e ∙ back_level (open_braces before))),
        ),
      );
}

-- behind its base: a name alone, one with a value, a call or an allocation, and one with a list
pub name_alone : {ts rest : Tokens} {base : RawType} {v : RawVar} → IsDeclarator ts base v rest → Clear ts rest
name_alone d = calm (declarator_calm d)

pub name_begun : {l : ℕ} {ts mid rest : Tokens} {base : RawType} {v : RawVar} → IsDeclarator ts base v (mark (codes "=") l ∷ mid) → ClearInside mid rest → ClearInside ts rest
name_begun d c = then_inside (calm_then (declarator_calm d) (more refl done)) c

pub name_valued : {n l : ℕ} {ts mid rest : Tokens} {base : RawType} {v : RawVar} {a : RawExpr} → IsDeclarator ts base v (mark (codes "=") l ∷ mid) → IsExpr n mid a rest → Clear ts rest
name_valued d e = calm (calm_then (declarator_calm d) (more refl (expr_calm e)))

pub name_listed : {l m : ℕ} {ts mid rest : Tokens} {base : RawType} {v : RawVar} → IsDeclarator ts base v (mark (codes "=") l ∷ mark (codes "{") m ∷ mid) → ClearList mid rest → Clear ts rest
name_listed d c = record { at = λ before k. calm_clear (declarator_calm d) before (λ a u. (list_clear c).at a (λ b v. k b (v ∙ u))) }

-- a declaration begins with no function, where what stands behind it isn't a parenthesis
pub declared_no_function : {line : ℕ} {base : RawType} {ts rest : Tokens} {a : RawStatement} → IsDeclared line base ts a rest → sees Mark (codes "(") rest ≡ false → function_follows ts ≡ false
unfolding sees
declared_no_function (IsDeclared.plain d p) h = declarator_no_function d h
declared_no_function (IsDeclared.value d p e) h = declarator_no_function d refl
declared_no_function (IsDeclared.list d j) h = declarator_no_function d refl
declared_no_function (IsDeclared.call d p j) h = declarator_no_function d refl
declared_no_function (IsDeclared.heap d p j) h = declarator_no_function d refl

pub no_paren_end : (l : ℕ) (rest : Tokens) → sees Mark (codes "(") (mark (codes ";") l ∷ rest) ≡ false
unfolding sees
no_paren_end l rest = refl

-- a base, and what stands behind it up to its semicolon
pub declaration : {line l : ℕ} {ts mid rest : Tokens} {base : RawType} {a : RawStatement} → IsBase ts base mid → IsDeclared line base mid a (mark (codes ";") l ∷ rest) → ClearInside mid (mark (codes ";") l ∷ rest) → ClearInside ts (mark (codes ";") l ∷ rest)
declaration {l = l} {rest = rest} b d c =
    record { at = λ before i k. base_clear b (declared_no_function d (no_paren_end l rest)) before (inside_param before _ i) (λ a u. c.at a (inside_at u i) (λ e w. k e (w ∙ u))) }

-- ---- lists of statements

-- what stands behind a statement of a list, which ends in a semicolon or a brace
abbrev pub Standing : Tokens → Tokens → Type 0
Standing before rest = (after : Tokens) → open_braces after ≡ open_braces before → stands_in_list after ≡ true → AreUntold after rest

pub end_clear : {l : ℕ} {rest : Tokens} (before after : Tokens) → open_braces after ≡ open_braces before → Standing before rest → AreUntold after (mark (codes ";") l ∷ rest)
end_clear {l} {rest} before after u k = (mark_here (codes ";") l after rest refl, k (mark (codes ";") l ∷ after) (end_level l after ∙ u) (stands_end l after))

-- a return may stand here, before the rest behind it
abbrev pub Last : Tokens → Tokens → Type 0
Last before rest = (open_braces before ≡ 1) × (stands_in_list before ≡ true) × (sees Mark (codes "}") rest ≡ true)

pub ends_here : (before behind rest : Tokens) → behind_semicolon behind ≡ rest → Last before rest → ends_function before behind ≡ true
unfolding ends_function
ends_here before behind rest is (n, s, c) = let a : (open_braces before == 1) ≡ true = ap (λ (m : ℕ). m == 1) n in let b = ap (sees Mark (codes "}")) is ∙ c in rw (a, s, b) refl

-- none is told among the tokens of a statement, which may be a return where that may stand
pub record ClearStatement (p : Position) (ts rest : Tokens) : Type 0 where
  pub at : (before : Tokens) → (takes_return p ≡ true → Last before rest) → Inside before → Standing before rest → AreUntold before ts

pub ended : {l : ℕ} {ts rest : Tokens} → ClearInside ts (mark (codes ";") l ∷ rest) → ClearInside ts rest
ended {l} c = record { at = λ before i k. c.at before i (λ a u. end_clear {l = l} before a u (λ b v s. k b v)) }

pub statement_more : {ts mid rest : Tokens} → ClearStatement inner ts mid → ClearInside mid rest → ClearInside ts rest
statement_more c d = record { at = λ before i k. c.at before (λ f. false_true f) i (λ a u s. d.at a (inside_at u i) (λ b v. k b (v ∙ u))) }

pub simple_more : {l : ℕ} {ts mid rest : Tokens} → ClearInside ts (mark (codes ";") l ∷ mid) → ClearInside mid rest → ClearInside ts rest
simple_more {l} c d = record { at = λ before i k. c.at before i (λ a u. end_clear {l = l} before a u (λ b v s. d.at b (inside_at v i) (λ e w. k e (w ∙ v)))) }

pub nothing_more : (ts : Tokens) → ClearInside ts ts
nothing_more ts = record { at = λ before i k. k before refl }

-- the body of a function, up to its brace
pub record ClearBody (ts rest : Tokens) : Type 0 where
  pub at : (before : Tokens) → open_braces before ≡ 1 → stands_in_list before ≡ true → sees Mark (codes "}") rest ≡ true → Behind before rest → AreUntold before ts

pub body_done : (ts : Tokens) → ClearBody ts ts
body_done ts = record { at = λ before o s c k. k before refl }

pub body_simple : {l : ℕ} {ts mid rest : Tokens} → ClearInside ts (mark (codes ";") l ∷ mid) → ClearBody mid rest → ClearBody ts rest
body_simple {l} c d = record { at = λ before o s e k. c.at before (omega (arith, o)) (λ a u. end_clear {l = l} before a u (λ b v t. d.at b (v ∙ o) t e (λ g w. k g (w ∙ v)))) }

pub body_statement : {ts mid rest : Tokens} → ClearStatement inner ts mid → ClearBody mid rest → ClearBody ts rest
body_statement c d = record { at = λ before o s e k. c.at before (λ f. false_true f) (omega (arith, o)) (λ a u t. d.at a (u ∙ o) t e (λ b v. k b (v ∙ u))) }

pub body_last : {p : Position} {ts rest : Tokens} → ClearStatement p ts rest → ClearBody ts rest
body_last c = record { at = λ before o s e k. c.at before (λ f. (o, s, e)) (omega (arith, o)) (λ a u t. k a u) }

-- how a list is told of by its first statement and the others
pub record Joins (p : Position) (C D : Tokens → Tokens → Type 0) : Type 0 where
  pub simples : {l : ℕ} {ts mid rest : Tokens} → ClearInside ts (mark (codes ";") l ∷ mid) → D mid rest → C ts rest
  pub wholes : {ts mid rest : Tokens} → ClearStatement p ts mid → D mid rest → C ts rest

pub in_list : Joins inner ClearInside ClearInside
in_list = record { simples = simple_more; wholes = statement_more }

pub in_body : Joins inner ClearBody ClearBody
in_body = record { simples = body_simple; wholes = body_statement }

-- nothing stands between
abbrev pub Same : Tokens → Tokens → Type 0
Same ts rest = ts ≡ rest

last_simple : {l : ℕ} {ts mid rest : Tokens} → ClearInside ts (mark (codes ";") l ∷ mid) → mid ≡ rest → ClearBody ts rest
last_simple {l} {ts} {mid} c e = subst (ClearBody ts) e (body_simple c (body_done mid))

last_statement : {ts mid rest : Tokens} → ClearStatement final ts mid → mid ≡ rest → ClearBody ts rest
last_statement {ts} c e = subst (ClearBody ts) e (body_last c)

-- the last statement of a body
pub at_end : Joins final ClearBody Same
at_end = record { simples = last_simple; wholes = last_statement }

-- ---- parts of statements

pub test_clear : {ts rest : Tokens} {e : RawExpr} → IsTest ts e rest → (before : Tokens) → Behind before rest → AreUntold before ts
test_clear (test e) before k = calm_clear (more refl (calm_then (expr_calm e) (more refl done))) before k

pub inside_opened : (l : ℕ) (before : Tokens) → 1 ≤ open_braces (mark (codes "{") l ∷ before)
inside_opened l before = let e = opens_level l before in omega (arith, e)

pub close_clear : {l : ℕ} {rest : Tokens} (before after : Tokens) (n : ℕ) → open_braces after ≡ n → n - 1 ≡ open_braces before → Standing before rest → AreUntold after (mark (codes "}") l ∷ rest)
close_clear {l} {rest} before after n u e k =
    (mark_here (codes "}") l after rest refl, k (mark (codes "}") l ∷ after) (closes_level l after ∙ ap (λ (m : ℕ). m - 1) u ∙ e) (stands_closed l after))

pub opened_back : (l : ℕ) (before : Tokens) → open_braces (mark (codes "{") l ∷ before) - 1 ≡ open_braces before
opened_back l before = ap (λ (n : ℕ). n - 1) (opens_level l before) ∙ back_level (open_braces before)

pub braces_clear : {p : Position} {l m : ℕ} {ts rest : Tokens} → ClearInside ts (mark (codes "}") m ∷ rest) → ClearStatement p (mark (codes "{") l ∷ ts) rest
braces_clear {l = l} {m} {ts} c = record {
  at = λ before last i k. (mark_here (codes "{") l before ts refl, c.at (mark (codes "{") l ∷ before) (inside_opened l before) (λ a u. close_clear {l = m} before a _ u (opened_back l before) k));
}

-- what stands behind an if
pub record ClearElse (ts rest : Tokens) : Type 0 where
  pub at : (before : Tokens) → Inside before → stands_in_list before ≡ true → Standing before rest → AreUntold before ts

pub without_else : (ts : Tokens) → ClearElse ts ts
without_else ts = record { at = λ before i s k. k before refl s }

pub otherwise : {l : ℕ} {ts rest : Tokens} → ClearStatement inner ts rest → ClearElse (name (codes "else") l ∷ ts) rest
otherwise {l} {ts} c = record {
  at = λ before i s k.
      let n = name_level (codes "else") l before in
      (word_here (codes "else") l before ts calm_else, c.at (name (codes "else") l ∷ before) (λ f. false_true f) (inside_at n i) (λ a u t. k a (u ∙ n) t));
}

-- ---- statements with parts

pub if_clear : {p : Position} {l : ℕ} {ts mid after rest : Tokens} {e : RawExpr} → IsTest ts e mid → ClearStatement inner mid after → ClearElse after rest → ClearStatement p (name (codes "if") l ∷ ts) rest
if_clear {l = l} {ts} t c d = record {
  at = λ before last i k.
      let n = name_level (codes "if") l before in (
        word_here (codes "if") l before ts calm_if,
        test_clear t (name (codes "if") l ∷ before) (λ a u. c.at a (λ f. false_true f) (inside_at (u ∙ n) i) (λ b v s. d.at b (inside_at (v ∙ u ∙ n) i) s (λ g w s. k g (w ∙ v ∙ u ∙ n) s))),
      );
}

pub while_clear : {p : Position} {l : ℕ} {ts mid rest : Tokens} {e : RawExpr} → IsTest ts e mid → ClearStatement inner mid rest → ClearStatement p (name (codes "while") l ∷ ts) rest
while_clear {l = l} {ts} t c = record {
  at = λ before last i k.
      let n = name_level (codes "while") l before in
      (word_here (codes "while") l before ts calm_while, test_clear t (name (codes "while") l ∷ before) (λ a u. c.at a (λ f. false_true f) (inside_at (u ∙ n) i) (λ b v s. k b (v ∙ u ∙ n) s)));
}

pub do_clear : {p : Position} {l m x : ℕ} {ts mid rest : Tokens} {e : RawExpr} → ClearStatement inner ts (name (codes "while") m ∷ mid) → IsTest mid e (mark (codes ";") x ∷ rest) → ClearStatement p (name (codes "do") l ∷ ts) rest
do_clear {l = l} {m} {x} {ts} {mid} c t = record {
  at = λ before last i k.
      let n = name_level (codes "do") l before in (
        word_here (codes "do") l before ts calm_do,
        c.at (name (codes "do") l ∷ before) (λ f. false_true f) (inside_at n i) (λ a u s.
            (word_here (codes "while") m a mid calm_while, test_clear t (name (codes "while") m ∷ a) (λ b v. end_clear {l = x} before b (v ∙ name_level (codes "while") m a ∙ u ∙ n) k))),
      );
}

pub turned : {l : ℕ} {ts rest : Tokens} → ClearInside ts (mark (codes ")") l ∷ rest) → ClearInside ts rest
turned c = record { at = λ before i k. c.at before i (λ a u. calm_clear (more refl done) a (λ b v. k b (v ∙ u))) }

pub no_turn : (l : ℕ) (rest : Tokens) → ClearInside (mark (codes ")") l ∷ rest) rest
no_turn l rest = calm_inside (more refl done)

pub no_init : (l : ℕ) (rest : Tokens) → ClearInside (mark (codes ";") l ∷ rest) rest
no_init l rest = ended (nothing_more (mark (codes ";") l ∷ rest))

pub for_clear : {p : Position} {l m x n : ℕ} {ts mid next after rest : Tokens} {e : RawExpr} → ClearInside ts mid → IsExpr n mid e (mark (codes ";") x ∷ next) → ClearInside next after → ClearStatement inner after rest
    → ClearStatement p (name (codes "for") l ∷ mark (codes "(") m ∷ ts) rest
for_clear {l = l} {m} {x} {ts = ts} c t d b = record {
  at = λ before last i k.
      let n = calm_braces (mark (codes "(") m) (name (codes "for") l ∷ before) refl ∙ name_level (codes "for") l before in (
        word_here (codes "for") l before (mark (codes "(") m ∷ ts) calm_for,
        (
          mark_here (codes "(") m (name (codes "for") l ∷ before) ts refl,
          c.at (mark (codes "(") m ∷ name (codes "for") l ∷ before) (inside_at n i) (λ a u.
              calm_clear (expr_calm t) a (λ e v. end_clear {l = x} before e (v ∙ u ∙ n) (λ g w s.
              d.at g (inside_at w i) (λ y z. b.at y (λ f. false_true f) (inside_at (z ∙ w) i) (λ o r s. k o (r ∙ z ∙ w) s))))),
        ),
      );
}

pub return_clear : {p : Position} {l m : ℕ} {rest : Tokens} → takes_return p ≡ true → ClearStatement p (name (codes "return") l ∷ mark (codes ";") m ∷ rest) rest
return_clear {l = l} {m} {rest} h = record {
  at = λ before last i k. (
    return_untold (name (codes "return") l) before (mark (codes ";") m ∷ rest) refl refl (ends_here before (mark (codes ";") m ∷ rest) rest (end_behind m rest) (last h)),
    end_clear {l = m} before (name (codes "return") l ∷ before) (name_level (codes "return") l before) k,
  );
}

pub return_value_clear : {p : Position} {l m n : ℕ} {ts rest : Tokens} {e : RawExpr} → takes_return p ≡ true → IsExpr n ts e (mark (codes ";") m ∷ rest) → ClearStatement p (name (codes "return") l ∷ ts) rest
return_value_clear {l = l} {m} {ts = ts} {rest} h j = record {
  at = λ before last i k. (
    return_untold (name (codes "return") l) before ts refl refl (ends_here before ts rest (calm_behind (expr_calm j) ∙ end_behind m rest) (last h)),
    calm_clear (expr_calm j) (name (codes "return") l ∷ before) (λ b u. end_clear {l = m} before b (u ∙ name_level (codes "return") l before) k),
  );
}

-- ---- arms

-- a label may stand here
pub colon_label : (l : ℕ) (before : Tokens) → begins_label (mark (codes ":") l ∷ before) ≡ true
unfolding begins_label sees
colon_label l before = refl

pub brace_label : (l : ℕ) (before : Tokens) → begins_label (mark (codes "{") l ∷ before) ≡ true
unfolding begins_label sees
brace_label l before = refl

pub break_label : (l m : ℕ) (before : Tokens) → begins_label (mark (codes ";") m ∷ name (codes "break") l ∷ before) ≡ true
unfolding begins_label sees sees_second
break_label l m before = refl

pub colon_clear : {l : ℕ} {rest : Tokens} (before after : Tokens) → open_braces after ≡ open_braces before → ((a : Tokens) → open_braces a ≡ open_braces before → begins_label a ≡ true → AreUntold a rest) → AreUntold after (mark (codes ":") l ∷ rest)
colon_clear {l} {rest} before after u k = (mark_here (codes ":") l after rest refl, k (mark (codes ":") l ∷ after) (calm_braces (mark (codes ":") l) after refl ∙ u) (colon_label l after))

pub label_clear : {ts rest : Tokens} {a : RawLabel} → IsLabel ts a rest → (before : Tokens) → begins_label before ≡ true → ((a : Tokens) → open_braces a ≡ open_braces before → begins_label a ≡ true → AreUntold a rest) → AreUntold before ts
label_clear (IsLabel.case {l} {m} {ts} e) before b k = (
  case_untold (name (codes "case") l) before ts refl refl b,
  calm_clear (expr_calm e) (name (codes "case") l ∷ before) (λ a u. colon_clear {l = m} before a (u ∙ name_level (codes "case") l before) k),
)
label_clear (IsLabel.default {l} {m} {rest}) before b k =
    (default_untold (name (codes "default") l) before (mark (codes ":") m ∷ rest) refl refl b, colon_clear {l = m} before (name (codes "default") l ∷ before) (name_level (codes "default") l before) k)

pub record ClearLabels (ts rest : Tokens) : Type 0 where
  pub at : (before : Tokens) → begins_label before ≡ true → Behind before rest → AreUntold before ts

pub labels_last : {ts rest : Tokens} {a : RawLabel} → IsLabel ts a rest → ClearLabels ts rest
labels_last h = record { at = λ before b k. label_clear h before b (λ a u c. k a u) }

pub labels_more : {ts mid rest : Tokens} {a : RawLabel} → IsLabel ts a mid → ClearLabels mid rest → ClearLabels ts rest
labels_more h d = record { at = λ before b k. label_clear h before b (λ a u c. d.at a c (λ e v. k e (v ∙ u))) }

pub record ClearArms (ts rest : Tokens) : Type 0 where
  pub at : (before : Tokens) → Inside before → begins_label before ≡ true
      → ((after : Tokens) → open_braces after ≡ open_braces before - 1 → stands_in_list after ≡ true → AreUntold after rest) → AreUntold before ts

pub no_arms : (l : ℕ) (rest : Tokens) → ClearArms (mark (codes "}") l ∷ rest) rest
no_arms l rest = record { at = λ before i b k. (mark_here (codes "}") l before rest refl, k (mark (codes "}") l ∷ before) (closes_level l before) (stands_closed l before)) }

pub arm_clear : {l m : ℕ} {ts mid after rest : Tokens} → ClearLabels ts mid → ClearInside mid (name (codes "break") l ∷ mark (codes ";") m ∷ after) → ClearArms after rest → ClearArms ts rest
arm_clear {l} {m} {after = after} h c d = record {
  at = λ before i b k. h.at before b (λ a u. c.at a (inside_at u i) (λ e v. (
    word_here (codes "break") l e (mark (codes ";") m ∷ after) calm_break,
    (
      mark_here (codes ";") m (name (codes "break") l ∷ e) after refl,
      (let w = end_level m (name (codes "break") l ∷ e) ∙ name_level (codes "break") l e ∙ v ∙ u in
          d.at (mark (codes ";") m ∷ name (codes "break") l ∷ e) (inside_at w i) (break_label l m e) (λ g x s. k g (x ∙ ap (λ (n : ℕ). n - 1) w) s)),
    ),
  )));
}

pub switch_clear : {p : Position} {l m : ℕ} {ts mid rest : Tokens} {e : RawExpr} → IsTest ts e (mark (codes "{") m ∷ mid) → ClearArms mid rest → ClearStatement p (name (codes "switch") l ∷ ts) rest
switch_clear {l = l} {m} {ts} {mid} t d = record {
  at = λ before last i k.
      let n = name_level (codes "switch") l before in (
        word_here (codes "switch") l before ts calm_switch,
        test_clear t (name (codes "switch") l ∷ before) (λ a u.
            (mark_here (codes "{") m a mid refl, d.at (mark (codes "{") m ∷ a) (inside_opened m a) (brace_label m a) (λ b v s. k b (v ∙ opened_back m a ∙ u ∙ n) s))),
      );
}
