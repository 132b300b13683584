-- What is printed of calls, allocations and simple statements that are syntax has their tokens.
use Rattle.std.proofs.Common.{◌≡◌, ℕ, List, [], ◌∷◌, ◌++◌, map, append_assoc, refl, sym, ap, ◌∙◌, subst, Bool, true, false, ◌&&◌, codes, Option, Some, None}
use Rattle.std.specs.Prelude.{bytes_eq}
use Rattle.std.specs.List.{list_all}
use Rattle.std.proofs.lemmas.Bool.{and_parts, not-true}
use Rattle.c_arith.specs.declared.operators.BinaryOp.{BinaryOp}
use Rattle.c_tree.specs.declared.raw.expr.RawExpr.{RawExpr}
use Rattle.c_tree.specs.declared.raw.statement.RawAmount.{RawAmount}
use Rattle.c_tree.specs.declared.raw.statement.RawAmount.TheVariants as amount
use Rattle.c_tree.specs.declared.raw.statement.RawArg.{RawArg}
use Rattle.c_tree.specs.declared.raw.statement.RawArg.TheVariants.{Value, Literal}
use Rattle.c_tree.specs.declared.raw.statement.RawSize.{RawSize}
use Rattle.c_tree.specs.declared.raw.statement.RawSize.TheVariants as size
use Rattle.c_tree.specs.declared.raw.statement.RawStatement.{RawStatement}
use Rattle.c_tree.specs.declared.raw.statement.RawStatement.TheVariants as s
use Rattle.c_tree.specs.declared.raw.statement.RawTarget.TheVariants as target
use Rattle.c_tree.specs.declared.raw.statement.RawTypeName.{RawTypeName}
use Rattle.c_language.specs.Words.{Bytes, joined, assign_sign, bump_sign}
use Rattle.c_language.specs.TokenForms.{Tokens, name, string, mark, line_of}
use Rattle.c_language.specs.Tokens.{name_goes_on, number_goes_on, IsTokens}
use Rattle.c_language.specs.Sees.{sees, is_keyword}
use Rattle.c_language.specs.ExprGrammar.{is_place, conditional_level, multiplicative_level, cast_level, postfix_level}
use Rattle.c_language.specs.TypeGrammar.{named_type, has_star}
use Rattle.c_language.specs.StatementGrammar.{IsSeparated, IsArg, IsArgs, IsCall, is_callee, IsSize, IsAmount, IsMalloc, IsHeap, assigns_by, IsSimple}
use Rattle.c_language.specs.Layout.{call_words}
use Rattle.c_language.specs.Spellings.{is_name, is_string}
use Rattle.c_language.specs.Syntax.{binds, is_expr, is_assigned, is_type_name, is_arg, is_call, is_size, is_amount, is_heap, bumped_level}
use Rattle.c_language.specs.declared.token.TokenKind.TheVariants.{Name}
use Rattle.c_language.specs.declared.token.Before.{Before}
use Rattle.c_language.specs.declared.token.Before.TheVariants.{Token}
use Rattle.text_syntax.proofs.TypeTokens.{own_parts}
use Rattle.text_syntax.proofs.Clear.{Clear, ClearInside, inside, ClearArgs, arg_value, arg_literal, args_last, args_more, bare_call, call_clear, allocation, assigned, stored, bumped, bumps}
use Rattle.c_text_layout.specs.RawLayout.{raw_type_words, raw_arg_words, raw_size_words, raw_amount_words, raw_cast_words, raw_laid}
use Rattle.c_text_layout.specs.Settled.{settled}
use Rattle.c_text_layout.specs.SpacedWords.{spaced_words}
use Rattle.c_text_layout.proofs.SpelledForms.{name_form, string_form}
use Rattle.c_text_layout.proofs.TokenPrint.{print_blank, print_mark, Stops, stops_name, print_name, print_string, word_form}
use Rattle.c_text_layout.proofs.ExprTexts.{no_else_word, name_no_else, mark_no_else, expr_text, place_text}
use Rattle.c_text_layout.proofs.TypePrint.{closes_paren, name_sure}
use Rattle.c_text_layout.proofs.TypeTexts.{type_name_text}
use Rattle.c_text_layout.proofs.RawStatementLemmas.{raw_laid-Assign, raw_laid-Bump, raw_laid-Call, raw_laid-Heap, settled-Assign, settled-Bump, settled-Call, settled-Heap}
use Rattle.c_text_layout.proofs.SimplePrint.{Has, has_as, call_join, print_times, malloc_words, cast_join, bump_stops, assign_mark, assign_sure, print_equals, print_bump, assign_join, store_join, words_of}

-- ---- calls

-- tokens of an argument, of arguments up to the parenthesis, and of a call, among which no left-out construct is told; a call begins with no else
abbrev Arg : Bool → RawArg → Tokens → Tokens → Type 0
Arg strings a after ts = IsArg ts a after × ClearArgs strings ts after

abbrev Args : Bool → List RawArg → Tokens → Tokens → Type 0
Args strings all after ts = IsArgs ts all after × ClearArgs strings ts after

abbrev pub Calls : Bytes → List RawArg → Tokens → Tokens → Type 0
Calls f all after ts = IsCall ts f all after × Clear ts after × (sees Name (codes "else") ts ≡ false)

arg_text : (strings : Bool) (a : RawArg) → is_arg strings a ≡ true → (line : ℕ) (more : Bytes) (after : Tokens) → Stops number_goes_on more → IsTokens Token line more after → Has line (raw_arg_words a ++ more) (Arg strings a after)
arg_text strings (Value a) h line more after s t =
    let x = expr_text a conditional_level h line more after s t in
    record { tokens = x.tokens; lexed = x.lexed; is = (IsArg.value x.is, arg_value x.is) }
arg_text strings (Literal text) h line more after s t =
    let p = and_parts strings (is_string text) h in
    record { tokens = string text line ∷ after; lexed = λ before. print_string text (string_form text p.1) t; is = (IsArg.literal, arg_literal text line after p.0) }

args_text : (strings : Bool) (a : RawArg) (all : List RawArg) → is_arg strings a ≡ true → list_all (is_arg false) all ≡ true → (line : ℕ) (more : Bytes) (after : Tokens) → IsTokens Token line more after
    → Has line (joined (codes ", ") (map raw_arg_words (a ∷ all)) ++ (41 ∷ more)) (Args strings (a ∷ all) after)
args_text strings a [] h k line more after t =
    let x = arg_text strings a h line (41 ∷ more) (mark (codes ")") line ∷ after) (λ b. refl) (print_mark (codes ")") refl refl t) in
    record { tokens = x.tokens; lexed = x.lexed; is = (IsSeparated.last x.is.0, args_last x.is.1) }
args_text strings a (b ∷ all) h k line more after t =
    let p = and_parts (is_arg false b) (list_all (is_arg false) all) k in
    let y = args_text false b all p.0 p.1 line more after t in
    let next : Bytes = 44 ∷ 32 ∷ (joined (codes ", ") (map raw_arg_words (b ∷ all)) ++ (41 ∷ more)) in
    let x = arg_text strings a h line next (mark (codes ",") line ∷ y.tokens) (λ d. refl) (print_mark (codes ",") refl refl (print_blank (y.lexed Token))) in
    has_as (append_assoc (raw_arg_words a) _ (41 ∷ more)) (record { tokens = x.tokens; lexed = x.lexed; is = (IsSeparated.more x.is.0 y.is.0, args_more x.is.1 y.is.1) })

callee_no_else : (w : Bytes) → is_callee w ≡ true → bytes_eq w (codes "else") ≡ false
unfolding is_callee
callee_no_else w h = no_else_word w (not-true (is_keyword w) (and_parts _ _ h).0)

pub call_text : (f : Bytes) (all : List RawArg) → is_call f all ≡ true → (line : ℕ) (more : Bytes) (after : Tokens) → IsTokens Token line more after → Has line (call_words f (map raw_arg_words all) ++ more) (Calls f all after)
call_text f [] h line more after t =
    let p = and_parts (is_name f) _ h in
    let q = and_parts (is_callee f) true p.1 in
    has_as (call_join f [] more)
    (record {
      tokens = name f line ∷ mark (codes "(") line ∷ mark (codes ")") line ∷ after;
      lexed = λ before. print_name f (name_form f p.0) (λ b. refl) (print_mark (codes "(") refl refl (print_mark (codes ")") refl refl t));
      is = (IsCall.bare q.0, bare_call q.0, name_no_else f line (mark (codes "(") line ∷ mark (codes ")") line ∷ after) (callee_no_else f q.0));
    })
call_text f (a ∷ all) h line more after t =
    let p = and_parts (is_name f) _ h in
    let q = and_parts (is_callee f) _ p.1 in
    let k = and_parts (is_arg (bytes_eq f (codes "printf")) a) (list_all (is_arg false) all) q.1 in
    let x = args_text (bytes_eq f (codes "printf")) a all k.0 k.1 line more after t in
    has_as (call_join f (joined (codes ", ") (map raw_arg_words (a ∷ all))) more)
    (record {
      tokens = name f line ∷ mark (codes "(") line ∷ x.tokens;
      lexed = λ before. print_name f (name_form f p.0) (λ b. refl) (print_mark (codes "(") refl refl (x.lexed Token));
      is = (IsCall.with_args q.0 x.is.0, call_clear q.0 x.is.1, name_no_else f line (mark (codes "(") line ∷ x.tokens) (callee_no_else f q.0));
    })

-- ---- allocations

size_text : (z : RawSize) → is_size z ≡ true → (line : ℕ) (more : Bytes) (after : Tokens) → Stops name_goes_on more → IsTokens Token line more after → Has line (raw_size_words z ++ more) (λ ts. IsSize ts z after)
size_text (size.Type a) h line more after s t =
    let x = type_name_text a h line (41 ∷ more) (mark (codes ")") line ∷ after) (closes_paren more line after) (print_mark (codes ")") refl refl t) in
    has_as (ap (λ (z : Bytes). codes "sizeof(" ++ z) (append_assoc (raw_type_words (named_type a)) (codes ")") more))
    (record {
      tokens = name (codes "sizeof") line ∷ mark (codes "(") line ∷ x.tokens;
      lexed = λ before. print_name (codes "sizeof") (word_form (codes "sizeof") refl) (λ b. refl) (print_mark (codes "(") refl refl (x.lexed Token));
      is = IsSize.of_type x.is;
    })
size_text (size.Pointee f true) h line more after s t =
    let p = own_parts f h in
    let form = name_form f p.0 in
    has_as (ap (λ (z : Bytes). codes "sizeof(*" ++ z) (append_assoc f (codes ")") more))
    (record {
      tokens = name (codes "sizeof") line ∷ mark (codes "(") line ∷ mark (codes "*") line ∷ name f line ∷ mark (codes ")") line ∷ after;
      lexed = λ before. print_name (codes "sizeof") (word_form (codes "sizeof") refl) (λ b. refl)
          (print_mark (codes "(") refl refl (print_mark (codes "*") refl (name_sure f (41 ∷ more) form) (print_name f form (λ b. refl) (print_mark (codes ")") refl refl t))));
      is = IsSize.of_pointee p.1;
    })
size_text (size.Pointee f false) h line more after s t =
    let p = own_parts f h in
    let form = name_form f p.0 in
    record {
      tokens = name (codes "sizeof") line ∷ mark (codes "*") line ∷ name f line ∷ after;
      lexed = λ before. print_name (codes "sizeof") (word_form (codes "sizeof") refl) (λ b. refl) (print_blank (print_mark (codes "*") refl (name_sure f more form) (print_name f form s t)));
      is = IsSize.of_bare_pointee p.1;
    }

amount_text : (n : RawAmount) → is_amount n ≡ true → (line : ℕ) (more : Bytes) (after : Tokens) → Stops number_goes_on more → IsTokens Token line more after → Has line (raw_amount_words n ++ more) (λ ts. IsAmount ts n after)
amount_text (amount.Size z) h line more after s t =
    let x = size_text z h line more after (stops_name more s) t in
    record { tokens = x.tokens; lexed = x.lexed; is = IsAmount.one x.is }
amount_text (amount.CountSize a z) h line more after s t =
    let p = and_parts (binds a multiplicative_level) (is_size z) h in
    let y = size_text z p.1 line more after (stops_name more s) t in
    let x = expr_text a multiplicative_level p.0 line (codes " * " ++ (raw_size_words z ++ more)) (mark (codes "*") line ∷ y.tokens) (λ b. refl) (print_times (y.lexed Token)) in
    has_as (append_assoc (spaced_words a) _ more) (record { tokens = x.tokens; lexed = x.lexed; is = IsAmount.counted x.is y.is })
amount_text (amount.SizeCount z a) h line more after s t =
    let p = and_parts (is_size z) (binds a cast_level) h in
    let y = expr_text a cast_level p.1 line more after s t in
    let x = size_text z p.0 line (codes " * " ++ (spaced_words a ++ more)) (mark (codes "*") line ∷ y.tokens) (λ b. refl) (print_times (y.lexed Token)) in
    has_as (append_assoc (raw_size_words z) _ more) (record { tokens = x.tokens; lexed = x.lexed; is = IsAmount.multiplied x.is y.is })
amount_text (amount.Count a) h line more after s t =
    let x = expr_text a conditional_level h line more after s t in
    record { tokens = x.tokens; lexed = x.lexed; is = IsAmount.bytes x.is }

malloc_text : (n : RawAmount) → is_amount n ≡ true → (line : ℕ) (more : Bytes) (after : Tokens) → IsTokens Token line more after → Has line (malloc_words n ++ more) (λ ts. IsMalloc ts n after)
malloc_text n h line more after t =
    let x = amount_text n h line (41 ∷ more) (mark (codes ")") line ∷ after) (λ b. refl) (print_mark (codes ")") refl refl t) in
    has_as (call_join (codes "malloc") (raw_amount_words n) more)
    (record {
      tokens = name (codes "malloc") line ∷ mark (codes "(") line ∷ x.tokens;
      lexed = λ before. print_name (codes "malloc") (word_form (codes "malloc") refl) (λ b. refl) (print_mark (codes "(") refl refl (x.lexed Token));
      is = IsMalloc.malloc x.is;
    })

pub heap_text : (c : Option RawTypeName) (n : RawAmount) → is_heap c n ≡ true → (line : ℕ) (more : Bytes) (after : Tokens) → IsTokens Token line more after → Has line ((raw_cast_words c ++ malloc_words n) ++ more) (λ ts. IsHeap ts c n after)
heap_text None n h line more after t =
    let x = malloc_text n h line more after t in
    record { tokens = x.tokens; lexed = x.lexed; is = IsHeap.uncast x.is }
heap_text (Some a) n h line more after t =
    let p = and_parts (is_type_name a && has_star a) (is_amount n) h in
    let q = and_parts (is_type_name a) (has_star a) p.0 in
    let y = malloc_text n p.1 line more after t in
    let x = type_name_text a q.0 line (41 ∷ (malloc_words n ++ more)) (mark (codes ")") line ∷ y.tokens) (closes_paren (malloc_words n ++ more) line y.tokens) (print_mark (codes ")") refl refl (y.lexed Token)) in
    has_as (cast_join (raw_type_words (named_type a)) (malloc_words n) more)
    (record { tokens = mark (codes "(") line ∷ x.tokens; lexed = λ before. print_mark (codes "(") refl refl (x.lexed Token); is = IsHeap.cast x.is q.1 y.is })

-- ---- simple statements

-- tokens of a simple statement that is the same in all that the layout keeps, and then these
pub record SimpleText (line : ℕ) (bytes : Bytes) (a : RawStatement) (after : Tokens) : Type 0 where
  pub tokens : Tokens
  pub lexed : (before : Before) → IsTokens before line bytes tokens
  pub found : RawStatement
  pub is : IsSimple tokens found after
  pub same : settled found ≡ settled a
  pub no_else : sees Name (codes "else") tokens ≡ false
  pub clear : ClearInside tokens after

simple_as : {line : ℕ} {a : RawStatement} {after : Tokens} {x y : Bytes} → x ≡ y → SimpleText line y a after → SimpleText line x a after
simple_as {line} {a} {after} e p = subst (λ (z : Bytes). SimpleText line z a after) (sym e) p

-- a simple statement before bytes that end a number
abbrev pub Simple : RawStatement → Type 0
Simple a = (line : ℕ) (more : Bytes) (after : Tokens) → Stops number_goes_on more → IsTokens Token line more after → SimpleText line ((raw_laid a).words ++ more) a after

pub assign_text : (l : ℕ) (a : RawExpr) (op : Option BinaryOp) (b : RawExpr) → (is_assigned a && (assigns_by op && is_expr b)) ≡ true → Simple (s.Assign l a op b)
assign_text l a op b h line more after stop t =
    let p = and_parts (is_assigned a) _ h in
    let q = and_parts (assigns_by op) (is_expr b) p.1 in
    let i = and_parts (is_place a) (is_expr a) p.0 in
    let y = expr_text b conditional_level q.1 line more after stop t in
    let x = expr_text a conditional_level i.1 line (32 ∷ (assign_sign op ++ (32 ∷ (spaced_words b ++ more)))) (mark (assign_sign op) line ∷ y.tokens) (λ d. refl)
    (print_blank (print_mark (assign_sign op) (assign_mark op q.0) (assign_sure op (spaced_words b ++ more) q.0) (print_blank (y.lexed Token)))) in
    simple_as (words_of more (raw_laid-Assign l a op b) ∙ assign_join (spaced_words a) (spaced_words b) more op)
    (record {
      tokens = x.tokens;
      lexed = x.lexed;
      found = s.Assign (line_of x.tokens) a op b;
      is = IsSimple.assign op q.0 x.is i.0 y.is;
      clear = assigned op x.is y.is;
      same = settled-Assign (line_of x.tokens) a op b ∙ sym (settled-Assign l a op b);
      no_else = x.no_else;
    })

pub store_call_text : (l : ℕ) (a : RawExpr) (f : Bytes) (all : List RawArg) → is_assigned a ≡ true → is_call f all ≡ true → Simple (s.Call l (target.Place a) f all)
store_call_text l a f all h k line more after stop t =
    let i = and_parts (is_place a) (is_expr a) h in
    let y = call_text f all k line more after t in
    let x = expr_text a conditional_level i.1 line (codes " = " ++ (call_words f (map raw_arg_words all) ++ more)) (mark (codes "=") line ∷ y.tokens) (λ b. refl) (print_equals (y.lexed Token)) in
    simple_as (words_of more (raw_laid-Call l (target.Place a) f all) ∙ store_join (spaced_words a) (call_words f (map raw_arg_words all)) more)
    (record {
      tokens = x.tokens;
      lexed = x.lexed;
      found = s.Call (line_of x.tokens) (target.Place a) f all;
      is = IsSimple.store_call x.is i.0 y.is.0;
      clear = stored x.is (inside y.is.1);
      same = settled-Call (line_of x.tokens) (target.Place a) f all ∙ sym (settled-Call l (target.Place a) f all);
      no_else = x.no_else;
    })

pub store_heap_text : (l : ℕ) (a : RawExpr) (c : Option RawTypeName) (n : RawAmount) → is_assigned a ≡ true → is_heap c n ≡ true → Simple (s.Heap l (target.Place a) c n)
store_heap_text l a c n h k line more after stop t =
    let i = and_parts (is_place a) (is_expr a) h in
    let y = heap_text c n k line more after t in
    let x = expr_text a conditional_level i.1 line (codes " = " ++ ((raw_cast_words c ++ malloc_words n) ++ more)) (mark (codes "=") line ∷ y.tokens) (λ b. refl) (print_equals (y.lexed Token)) in
    simple_as (words_of more (raw_laid-Heap l (target.Place a) c n) ∙ store_join (spaced_words a) (raw_cast_words c ++ malloc_words n) more)
    (record {
      tokens = x.tokens;
      lexed = x.lexed;
      found = s.Heap (line_of x.tokens) (target.Place a) c n;
      is = IsSimple.store_heap x.is i.0 y.is;
      clear = stored x.is (allocation y.is);
      same = settled-Heap (line_of x.tokens) (target.Place a) c n ∙ sym (settled-Heap l (target.Place a) c n);
      no_else = x.no_else;
    })

pub bump_text : (l : ℕ) (a : RawExpr) (up before : Bool) → (is_place a && binds a (bumped_level before)) ≡ true → Simple (s.Bump l a up before)
bump_text l a up true h line more after stop t =
    let p = and_parts (is_place a) (binds a conditional_level) h in
    let x = expr_text a conditional_level p.1 line more after stop t in
    simple_as (words_of more (raw_laid-Bump l a up true) ∙ append_assoc (bump_sign up) (spaced_words a) more)
    (record {
      tokens = mark (bump_sign up) line ∷ x.tokens;
      lexed = λ before. print_bump up (x.lexed Token);
      found = s.Bump line a up true;
      is = IsSimple.bump_before up x.is p.0;
      clear = bumps up x.is;
      same = settled-Bump line a up true ∙ sym (settled-Bump l a up true);
      no_else = mark_no_else (bump_sign up) line x.tokens;
    })
bump_text l a up false h line more after stop t =
    let p = and_parts (is_place a) (binds a postfix_level) h in
    let x = place_text a p.0 p.1 line (bump_sign up ++ more) (mark (bump_sign up) line ∷ after) (bump_stops up more) (print_bump up t) in
    simple_as (words_of more (raw_laid-Bump l a up false) ∙ append_assoc (spaced_words a) (bump_sign up) more)
    (record {
      tokens = x.tokens;
      lexed = x.lexed;
      found = s.Bump (line_of x.tokens) a up false;
      is = IsSimple.bump_after up x.is p.0;
      clear = bumped up x.is;
      same = settled-Bump (line_of x.tokens) a up false ∙ sym (settled-Bump l a up false);
      no_else = x.no_else;
    })

pub call_alone : (l : ℕ) (f : Bytes) (all : List RawArg) → is_call f all ≡ true → Simple (s.Call l target.None f all)
call_alone l f all h line more after stop t =
    let x = call_text f all h line more after t in
    simple_as (words_of more (raw_laid-Call l target.None f all))
    (record {
      tokens = x.tokens;
      lexed = x.lexed;
      found = s.Call (line_of x.tokens) target.None f all;
      is = IsSimple.call x.is.0;
      clear = inside x.is.1;
      same = settled-Call (line_of x.tokens) target.None f all ∙ sym (settled-Call l target.None f all);
      no_else = x.is.2;
    })
