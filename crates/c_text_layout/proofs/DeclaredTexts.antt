-- What is printed of declarations that are syntax has their tokens.
use Rattle.std.proofs.Common.{◌≡◌, ℕ, List, [], ◌∷◌, ◌++◌, length, map, append_assoc, refl, sym, ap, ◌∙◌, subst, true, false, codes, decimal, Option, arith}
use Rattle.std.specs.Prelude.{nat_lt}
use Rattle.std.specs.List.{list_all}
use Rattle.std.proofs.lemmas.Bool.{and_parts}
use Rattle.std.proofs.lemmas.Bool.Decides.{nat_tests}
use Rattle.c_tree.specs.declared.raw.expr.RawExpr.{RawExpr}
use Rattle.c_tree.specs.declared.raw.expr.RawType.{RawType}
use Rattle.c_tree.specs.declared.raw.expr.RawVar.{RawVar}
use Rattle.c_tree.specs.declared.raw.program.RawInit.{RawInit}
use Rattle.c_tree.specs.declared.raw.program.RawInit.TheVariants as init
use Rattle.c_tree.specs.declared.raw.statement.RawAmount.{RawAmount}
use Rattle.c_tree.specs.declared.raw.statement.RawArg.{RawArg}
use Rattle.c_tree.specs.declared.raw.statement.RawStatement.{RawStatement}
use Rattle.c_tree.specs.declared.raw.statement.RawStatement.TheVariants as s
use Rattle.c_tree.specs.declared.raw.statement.RawTarget.TheVariants as target
use Rattle.c_tree.specs.declared.raw.statement.RawTypeName.{RawTypeName}
use Rattle.c_language.specs.Words.{Bytes, joined}
use Rattle.c_language.specs.TokenForms.{Tokens, mark, line_of}
use Rattle.c_language.specs.Tokens.{number_goes_on, IsTokens}
use Rattle.c_language.specs.Sees.{sees}
use Rattle.c_language.specs.ExprGrammar.{conditional_level}
use Rattle.c_language.specs.TypeGrammar.{IsDeclarator, is_listed}
use Rattle.c_language.specs.StatementGrammar.{IsList, IsDeclared}
use Rattle.c_language.specs.Layout.{call_words}
use Rattle.c_language.specs.Spellings.{is_own_name}
use Rattle.c_language.specs.Syntax.{is_expr, sized, listed, reaches, is_declared, is_begun, is_call, is_heap}
use Rattle.c_language.specs.declared.token.TokenKind.TheVariants.{Number, Mark}
use Rattle.c_language.specs.declared.token.Before.TheVariants.{Token}
use Rattle.c_language.proofs.Tests.{false_true}
use Rattle.text_syntax.proofs.CallTokens.{sized_unlisted}
use Rattle.text_syntax.proofs.Clear.{inside, allocation, ClearList, list_last, list_more, name_alone, name_begun, name_valued, name_listed}
use Rattle.c_text_layout.specs.RawLayout.{raw_declared, raw_arg_words, raw_cast_words, raw_laid}
use Rattle.c_text_layout.specs.Settled.{settled_type, settled_var}
use Rattle.c_text_layout.specs.SpacedWords.{spaced_words}
use Rattle.c_text_layout.specs.Declarations.{is_short}
use Rattle.c_text_layout.proofs.Written.{HasForm}
use Rattle.c_text_layout.proofs.TokenPrint.{print_blank, print_mark, Stops, stops_name}
use Rattle.c_text_layout.proofs.ExprTexts.{expr_text}
use Rattle.c_text_layout.proofs.TypeTexts.{Lengthy, lengthy_type, outer_type, Parted, lengthy_stays, written_parts, outer_parts, named_text}
use Rattle.c_text_layout.proofs.SimplePrint.{Has, has_as, malloc_words, print_equals, store_join, words_of}
use Rattle.c_text_layout.proofs.SimpleTexts.{call_text, heap_text}
use Rattle.c_text_layout.proofs.DecimalPrint.{decimal_form}
use Rattle.c_text_layout.proofs.RawStatementLemmas.{raw_laid-Declare, raw_laid-Call, raw_laid-Heap, settled-Declare, settled-Call, settled-Heap}
use Rattle.c_text_layout.proofs.DeclaredPrint.{PrintedNamed, PrintedDeclared, declared_as, equals_no_length, equals_join, list_join, plain_join}

-- ---- lists of initialisers

pub list_text : (a : RawExpr) (all : List RawExpr) → list_all is_expr (a ∷ all) ≡ true → (line : ℕ) (more : Bytes) (after : Tokens) → IsTokens Token line more after
    → Has line (joined (codes ", ") (map spaced_words (a ∷ all)) ++ (125 ∷ more)) (λ ts. IsList ts (a ∷ all) after × ClearList ts after)
list_text a [] h line more after t =
    let x = expr_text a conditional_level (and_parts (is_expr a) true h).0 line (125 ∷ more) (mark (codes "}") line ∷ after) (λ b. refl) (print_mark (codes "}") refl refl t) in
    record { tokens = x.tokens; lexed = x.lexed; is = (IsList.last x.is, list_last x.is) }
list_text a (b ∷ all) h line more after t =
    let p = and_parts (is_expr a) (list_all is_expr (b ∷ all)) h in
    let y = list_text b all p.1 line more after t in
    let next : Bytes = 44 ∷ 32 ∷ (joined (codes ", ") (map spaced_words (b ∷ all)) ++ (125 ∷ more)) in
    let x = expr_text a conditional_level p.0 line next (mark (codes ",") line ∷ y.tokens) (λ d. refl) (print_mark (codes ",") refl refl (print_blank (y.lexed Token))) in
    has_as (append_assoc (spaced_words a) _ (125 ∷ more)) (record { tokens = x.tokens; lexed = x.lexed; is = (IsList.more x.is y.is.0, list_more x.is y.is.1) })

-- the number of items of a short list can be written
list_counts : (a : RawExpr) (all : List RawExpr) → nat_lt (length (a ∷ all)) 4294967296 ≡ true → (nat_lt (length (a ∷ all)) 4294967296 ≡ true) × HasForm Number (decimal (length (a ∷ all)))
list_counts a all few = (few, decimal_form (length (a ∷ all)) (omega arith) (grind (arith, nat_tests)))

-- ---- declared names

-- a name whose lengths are all written
pub record SizedName (v : RawVar) : Type 0 where
  pub own : is_own_name v.name ≡ true
  pub shaped : Lengthy v.shape
  pub unlisted : is_listed v.shape ≡ false

pub sized_name : (v : RawVar) → is_declared v sized ≡ true → SizedName v
sized_name v h =
    let p = and_parts (is_own_name v.name) (reaches v.shape sized) h in
    record { own = p.0; shaped = lengthy_type v.shape sized refl p.1; unlisted = sized_unlisted v h }

abbrev var_of : Bytes → RawType → RawVar
var_of text a = record { name = text; shape = a }

-- it is settled
pub sized_stays : {v : RawVar} (n : SizedName v) → settled_var 0 v ≡ v
sized_stays {v} n = ap (var_of v.name) (lengthy_stays 0 n.shaped)

pub sized_text : {v : RawVar} (n : SizedName v) → (line : ℕ) (more : Bytes) (after : Tokens) → Stops number_goes_on more → sees Mark (codes "[") after ≡ false → IsTokens Token line more after → PrintedNamed 0 line (raw_declared 0 v.shape v.name ++ more) v after
sized_text {v} n line more after s f t = named_text v n.own (written_parts 0 n.shaped) line more after (stops_name more s) f t

pub settled_unlisted : {v : RawVar} (n : SizedName v) → is_listed (settled_type 0 v.shape) ≡ false
settled_unlisted n = ap is_listed (lengthy_stays 0 n.shaped) ∙ n.unlisted

-- a name before a list of initialisers
pub record ListedName (v : RawVar) (items : ℕ) : Type 0 where
  pub own : is_own_name v.name ≡ true
  pub parts : Parted items v.shape

pub listed_name : (v : RawVar) (a : RawExpr) (all : List RawExpr) → is_declared v listed ≡ true → nat_lt (length (a ∷ all)) 4294967296 ≡ true → ListedName v (length (a ∷ all))
listed_name v a all h few =
    let p = and_parts (is_own_name v.name) (reaches v.shape listed) h in
    record { own = p.0; parts = outer_parts (length (a ∷ all)) (outer_type v.shape p.1) (list_counts a all few) }

pub listed_twice : {v : RawVar} {items : ℕ} → ListedName v items → settled_var items (settled_var items v) ≡ settled_var items v
listed_twice {v} n = ap (var_of v.name) n.parts.twice

-- ---- declarations of one name

-- a declaration before bytes that end a number, and no bracket
abbrev pub Declares : RawStatement → Type 0
Declares a = (line : ℕ) (more : Bytes) (after : Tokens) → Stops number_goes_on more → sees Mark (codes "[") after ≡ false → IsTokens Token line more after → PrintedDeclared line ((raw_laid a).words ++ more) a after

pub declare_text : (l : ℕ) (v : RawVar) (i : RawInit) → is_begun v i ≡ true → is_short v i ≡ true → Declares (s.Declare l v i)
declare_text l v init.None h short line more after stop f t =
    let n = sized_name v h in
    let x = sized_text n line more after stop f t in
    declared_as (words_of more (raw_laid-Declare l v init.None) ∙ plain_join (raw_declared 0 v.shape v.name) more)
    (record {
      tokens = x.tokens;
      mid = x.mid;
      base = x.base;
      lexed = x.lexed;
      is_base = x.is_base;
      no_else = x.no_else;
      found = s.Declare (line_of x.tokens) (settled_var 0 v) init.None;
      is = IsDeclared.plain x.is (settled_unlisted n);
      clear = inside (name_alone x.is);
      same = settled-Declare (line_of x.tokens) (settled_var 0 v) init.None ∙ ap (λ (z : RawVar). s.Declare 0 (settled_var 0 z) init.None) (sized_stays n) ∙ sym (settled-Declare l v init.None);
    })
declare_text l v (init.One a) h short line more after stop f t =
    let p = and_parts (is_declared v sized) (is_expr a) h in
    let n = sized_name v p.0 in
    let y = expr_text a conditional_level p.1 line more after stop t in
    let x = sized_text n line (codes " = " ++ (spaced_words a ++ more)) (mark (codes "=") line ∷ y.tokens) (λ d. refl) (equals_no_length line y.tokens) (print_equals (y.lexed Token)) in
    declared_as (words_of more (raw_laid-Declare l v (init.One a)) ∙ equals_join (raw_declared 0 v.shape v.name) (spaced_words a) more)
    (record {
      tokens = x.tokens;
      mid = x.mid;
      base = x.base;
      lexed = x.lexed;
      is_base = x.is_base;
      no_else = x.no_else;
      found = s.Declare (line_of x.tokens) (settled_var 0 v) (init.One a);
      is = IsDeclared.value x.is (settled_unlisted n) y.is;
      clear = inside (name_valued x.is y.is);
      same = settled-Declare (line_of x.tokens) (settled_var 0 v) (init.One a) ∙ ap (λ (z : RawVar). s.Declare 0 (settled_var 0 z) (init.One a)) (sized_stays n) ∙ sym (settled-Declare l v (init.One a));
    })
declare_text l v (init.Items []) h short line more after stop f t = false_true (and_parts (is_declared v listed) _ h).1
declare_text l v (init.Items (a ∷ all)) h short line more after stop f t =
    let p = and_parts (is_declared v listed) _ h in
    let c = length (a ∷ all) in
    let n = listed_name v a all p.0 short in
    let y = list_text a all p.1 line more after t in
    let x = named_text v n.own n.parts line (codes " = {" ++ (joined (codes ", ") (map spaced_words (a ∷ all)) ++ (125 ∷ more))) (mark (codes "=") line ∷ mark (codes "{") line ∷ y.tokens) (λ d. refl)
    (equals_no_length line (mark (codes "{") line ∷ y.tokens)) (print_equals (print_mark (codes "{") refl refl (y.lexed Token))) in
    declared_as (words_of more (raw_laid-Declare l v (init.Items (a ∷ all))) ∙ list_join (raw_declared c v.shape v.name) (joined (codes ", ") (map spaced_words (a ∷ all))) more)
    (record {
      tokens = x.tokens;
      mid = x.mid;
      base = x.base;
      lexed = x.lexed;
      is_base = x.is_base;
      no_else = x.no_else;
      found = s.Declare (line_of x.tokens) (settled_var c v) (init.Items (a ∷ all));
      is = IsDeclared.list x.is y.is.0;
      clear = inside (name_listed x.is y.is.1);
      same = settled-Declare (line_of x.tokens) (settled_var c v) (init.Items (a ∷ all)) ∙ ap (λ (z : RawVar). s.Declare 0 z (init.Items (a ∷ all))) (listed_twice n) ∙ sym (settled-Declare l v (init.Items (a ∷ all)));
    })

pub declare_call_text : (l : ℕ) (v : RawVar) (f : Bytes) (all : List RawArg) → is_declared v sized ≡ true → is_call f all ≡ true → Declares (s.Call l (target.Declared v) f all)
declare_call_text l v g all h k line more after stop f t =
    let n = sized_name v h in
    let y = call_text g all k line more after t in
    let x = sized_text n line (codes " = " ++ (call_words g (map raw_arg_words all) ++ more)) (mark (codes "=") line ∷ y.tokens) (λ d. refl) (equals_no_length line y.tokens) (print_equals (y.lexed Token)) in
    declared_as (words_of more (raw_laid-Call l (target.Declared v) g all) ∙ store_join (raw_declared 0 v.shape v.name) (call_words g (map raw_arg_words all)) more)
    (record {
      tokens = x.tokens;
      mid = x.mid;
      base = x.base;
      lexed = x.lexed;
      is_base = x.is_base;
      no_else = x.no_else;
      found = s.Call (line_of x.tokens) (target.Declared v) g all;
      is = IsDeclared.call (subst (λ (z : RawVar). IsDeclarator x.mid x.base z (mark (codes "=") line ∷ y.tokens)) (sized_stays n) x.is) n.unlisted y.is.0;
      clear = name_begun x.is (inside y.is.1);
      same = settled-Call (line_of x.tokens) (target.Declared v) g all ∙ sym (settled-Call l (target.Declared v) g all);
    })

pub declare_heap_text : (l : ℕ) (v : RawVar) (c : Option RawTypeName) (m : RawAmount) → is_declared v sized ≡ true → is_heap c m ≡ true → Declares (s.Heap l (target.Declared v) c m)
declare_heap_text l v c m h k line more after stop f t =
    let n = sized_name v h in
    let y = heap_text c m k line more after t in
    let x = sized_text n line (codes " = " ++ ((raw_cast_words c ++ malloc_words m) ++ more)) (mark (codes "=") line ∷ y.tokens) (λ d. refl) (equals_no_length line y.tokens) (print_equals (y.lexed Token)) in
    declared_as (words_of more (raw_laid-Heap l (target.Declared v) c m) ∙ store_join (raw_declared 0 v.shape v.name) (raw_cast_words c ++ malloc_words m) more)
    (record {
      tokens = x.tokens;
      mid = x.mid;
      base = x.base;
      lexed = x.lexed;
      is_base = x.is_base;
      no_else = x.no_else;
      found = s.Heap (line_of x.tokens) (target.Declared v) c m;
      is = IsDeclared.heap (subst (λ (z : RawVar). IsDeclarator x.mid x.base z (mark (codes "=") line ∷ y.tokens)) (sized_stays n) x.is) n.unlisted y.is;
      clear = name_begun x.is (allocation y.is);
      same = settled-Heap (line_of x.tokens) (target.Declared v) c m ∙ sym (settled-Heap l (target.Declared v) c m);
    })
