-- Each call and each allocation of the grammar is read, and each that nests too deep is refused for that.
use Rattle.std.proofs.Common.{◌≡◌, ℕ, zero, suc, ◌+◌, ◌≤◌, ◌<◌, max, List, [], ◌∷◌, map, length, drop, refl, sym, ap, ◌∙◌, arith, true, false, not, Option, Ok, codes, inl, inr}
use Rattle.std.proofs.lemmas.Bool.{cases_Bool, and_parts, not-true, le-leb}
use Rattle.c_tree.specs.declared.raw.expr.RawExpr.{RawExpr}
use Rattle.c_tree.specs.declared.raw.expr.RawType.{RawType}
use Rattle.c_tree.specs.declared.raw.statement.RawTarget.{RawTarget}
use Rattle.c_tree.specs.declared.raw.statement.RawArg.{RawArg}
use Rattle.c_tree.specs.declared.raw.statement.RawTypeName.{RawTypeName}
use Rattle.c_tree.specs.declared.raw.statement.RawArg.TheVariants.{Value, Literal}
use Rattle.c_tree.specs.declared.raw.statement.RawSize.{RawSize}
use Rattle.c_tree.specs.declared.raw.statement.RawAmount.{RawAmount}
use Rattle.c_tree.specs.declared.raw.statement.RawAmount.TheVariants as amount
use Rattle.c_tree.specs.declared.raw.statement.RawStatement.TheVariants as s
use Rattle.c_language.specs.Words.{Bytes}
use Rattle.c_language.specs.TokenForms.{Tokens, mark}
use Rattle.c_language.specs.Sees.{sees, sees_second, is_keyword}
use Rattle.c_language.specs.IntWords.{sees_int_word}
use Rattle.c_language.specs.ExprGrammar.{IsExpr, tightness}
use Rattle.c_language.specs.TypeGrammar.{IsBase, NamesType, structure, integer, starred}
use Rattle.c_language.specs.Nesting.{nesting}
use Rattle.c_language.specs.StatementGrammar.{IsSeparated, IsArg, IsArgs, is_callee, IsCall, IsSize, IsAmount, IsMalloc, malloc, IsHeap}
use Rattle.c_language.specs.StatementNesting.{arg_nesting, call_nesting, amount_nesting, heap_nesting}
use Rattle.c_language.specs.declared.token.TokenKind.TheVariants.{Name, Mark}
use Rattle.c_parse_expr.specs.Outcome.{and_then, expect}
use Rattle.c_parse_expr.specs.ExprReading.{logical, comparison, arithmetic, infix_by, extension_by, multiplies_size, extension, goes_on, nested}
use Rattle.c_parse_simple.specs.SimpleReading.{word, string_at, arg, args, called, call_parts, call, pointee, size_inside, size_in_parens, size_of, sized, counted, amount_of, malloc_of, cast_amount, heap_parts, heap}
use Rattle.c_parse_words.proofs.SeenTokens.{by_seen}
use Rattle.c_parse_expr.proofs.Tests.{read_name_at}
use Rattle.c_parse_expr.proofs.IntLaws.{int_type_begins}
use Rattle.c_parse_expr.proofs.ExprLaws.{Exact, expression_exact, nested_exact, level_exact, shorter, head_level, no_level}
use Rattle.c_parse_expr.proofs.ExprSound.{weaken}
use Rattle.c_parse_expr.proofs.TightLaws.{tight}
use Rattle.c_parse_simple.proofs.Exact.{done, at_depth, seq, after, guarded, lowered, tested, greatest_above, separated_exact, separated_shorter}
use Rattle.c_parse_simple.proofs.Begins.{starts, starts_no_word, starts_no_mark, starts_no_string}
use Rattle.c_parse_expr.proofs.TypeLaws.{type_name_read, named_shorter}
use Rattle.c_language.specs.Lists.{greatest}

-- ---- what ends an expression

pub close_ends : (l : ℕ) (ts : Tokens) → goes_on (mark (codes ")") l ∷ ts) ≡ false
unfolding goes_on extension extension_by infix_by logical comparison arithmetic multiplies_size sees
close_ends l ts = refl

pub brace_ends : (l : ℕ) (ts : Tokens) → goes_on (mark (codes "}") l ∷ ts) ≡ false
unfolding goes_on extension extension_by infix_by logical comparison arithmetic multiplies_size sees
brace_ends l ts = refl

pub comma_ends : (l : ℕ) (ts : Tokens) → goes_on (mark (codes ",") l ∷ ts) ≡ false
unfolding goes_on extension extension_by infix_by logical comparison arithmetic multiplies_size sees
comma_ends l ts = refl

pub semicolon_ends : (l : ℕ) (ts : Tokens) → goes_on (mark (codes ";") l ∷ ts) ≡ false
unfolding goes_on extension extension_by infix_by logical comparison arithmetic multiplies_size sees
semicolon_ends l ts = refl

pub colon_ends : (l : ℕ) (ts : Tokens) → goes_on (mark (codes ":") l ∷ ts) ≡ false
unfolding goes_on extension extension_by infix_by logical comparison arithmetic multiplies_size sees
colon_ends l ts = refl

-- ---- arguments

pub arg_shorter : {ts rest : Tokens} {a : RawArg} → IsArg ts a rest → length rest < length ts
arg_shorter (IsArg.value h) = shorter h
arg_shorter IsArg.literal = omega arith

-- how deep an argument stands under its call
abbrev pub arg_depth : RawArg → ℕ
arg_depth (Value a) = 1 + nesting a
arg_depth (Literal text) = 0

arg_under : (a : RawArg) → (arg_depth a ≤ 1 + arg_nesting a) × (1 + arg_nesting a ≤ max 1 (arg_depth a))
arg_under (Value a) = (omega arith, omega arith)
arg_under (Literal text) = (omega arith, omega arith)

pub arg_exact : {ts rest : Tokens} {a : RawArg} → IsArg ts a rest → goes_on rest ≡ false → (d : ℕ) → Exact d (arg_depth a) (arg d ts) a rest
unfolding arg string_at
arg_exact (IsArg.value h) free d = rw (starts_no_string (starts h)) (at_depth (omega arith) (seq _ (nested_exact h free d) done))
arg_exact IsArg.literal free d = done

arg_begins : {ts rest : Tokens} {a : RawArg} → IsArg ts a rest → sees Mark (codes ")") ts ≡ false
unfolding sees
arg_begins (IsArg.value h) = starts_no_mark (starts h) (codes ")") refl
arg_begins IsArg.literal = refl

args_begin : {ts rest : Tokens} {all : List RawArg} → IsArgs ts all rest → sees Mark (codes ")") ts ≡ false
args_begin (IsSeparated.last h) = arg_begins h
args_begin (IsSeparated.more h k) = arg_begins h

pub args_exact : {ts rest : Tokens} {all : List RawArg} → IsArgs ts all rest → (d : ℕ) → Exact d (greatest (map arg_depth all)) (args d ts) all rest
unfolding args sees
args_exact {ts} h d =
    rw (args_begin h)
    (separated_exact IsArg (codes ")") (arg d) arg_depth d (λ l ts. refl) (λ l ts. refl) (λ ts rest a h. arg_shorter h)
    (λ l ts rest a h. arg_exact h (close_ends l rest) d) (λ l ts rest a h. arg_exact h (comma_ends l rest) d) h (length ts) [] (omega arith))

-- ---- calls

callee_free : (w : Bytes) → is_callee w ≡ true → is_keyword w ≡ false
unfolding is_callee
callee_free w h = not-true (is_keyword w) (and_parts (not (is_keyword w)) _ h).0

called_exact : (d : ℕ) (w : Bytes) (ts rest : Tokens) (all : List RawArg) → is_callee w ≡ true → Exact d (greatest (map arg_depth all)) (args d ts) all rest
    → Exact d (call_nesting all) (called d w ts) all rest
unfolding called
called_exact d w ts rest all callee x =
    let e = greatest_above arg_depth arg_nesting arg_under all in
    rw callee (at_depth (omega (arith, e.0, e.1)) (guarded d x))

call_parts_exact : {ts rest : Tokens} {w : Bytes} {all : List RawArg} → IsCall ts w all rest → (d : ℕ) → Exact d (call_nesting all) (call_parts d ts) (w, all) rest
unfolding call_parts expect sees args
call_parts_exact (IsCall.bare {l} {m} {k} {w} {rest} callee) d =
    after _ (read_name_at w l _ (callee_free w callee)) (at_depth (omega arith) (seq _ (called_exact d w (mark (codes ")") k ∷ rest) rest [] callee done) done))
call_parts_exact (IsCall.with_args {l} {m} {w} {ts} {rest} {all} callee h) d =
    after _ (read_name_at w l _ (callee_free w callee)) (at_depth (omega arith) (seq _ (called_exact d w ts rest all callee (args_exact h d)) done))

pub call_exact : {ts rest : Tokens} {w : Bytes} {all : List RawArg} → IsCall ts w all rest → (d line : ℕ) (t : RawTarget) → Exact d (call_nesting all) (call d line t ts) (s.Call line t w all) rest
unfolding call
call_exact h d line t = at_depth (omega arith) (seq _ (call_parts_exact h d) done)

pub call_shorter : {ts rest : Tokens} {w : Bytes} {all : List RawArg} → IsCall ts w all rest → length rest < length ts
call_shorter (IsCall.bare callee) = omega arith
call_shorter (IsCall.with_args callee h) =
    let x = separated_shorter IsArg (codes ")") (λ ts rest a h. arg_shorter h) h in
    omega (arith, x)

-- ---- sizes and amounts

word_no_mark : (ts : Tokens) (w : Bytes) → sees_int_word ts ≡ true → sees Mark w ts ≡ false
unfolding sees sees_int_word
word_no_mark [] w h = refl
word_no_mark (t ∷ ts) w h = elim (cases_Bool (sees Mark w (t ∷ ts))) [
  | inl is ↦ by_seen Mark w (t ∷ ts) is (λ l rest at. let e : sees_int_word (mark w l ∷ rest) ≡ true = sym (ap sees_int_word at) ∙ h in absurd cc)
  | inr isnt ↦ isnt
]

pub base_no_mark : {ts rest : Tokens} {a : RawType} (w : Bytes) → IsBase ts a rest → sees Mark w ts ≡ false
unfolding sees
base_no_mark w (structure free) = refl
base_no_mark {ts} w (integer h) = word_no_mark ts w (int_type_begins h)

type_no_star : {ts rest : Tokens} {a : RawTypeName} → NamesType ts a rest → sees Mark (codes "*") ts ≡ false
type_no_star (starred h k) = base_no_mark (codes "*") h

pub record SizeRead (ts : Tokens) (z : RawSize) (rest : Tokens) : Type 0 where
  pub begins : sees Name (codes "sizeof") ts ≡ true
  pub read : size_of (drop 1 ts) ≡ Ok (z, rest)
  pub short : length rest < length ts
  pub multiplied : (l : ℕ) → multiplies_size (mark (codes "*") l ∷ ts) ≡ true

pub size_read : {ts rest : Tokens} {z : RawSize} → IsSize ts z rest → SizeRead ts z rest
unfolding size_of size_in_parens size_inside pointee expect sees sees_second multiplies_size
size_read (IsSize.of_type {ts} {rest} {t} h) =
    let short = named_shorter h in
    record { begins = refl; read = rw (type_no_star h, type_name_read h) refl; short = omega (arith, short); multiplied = λ l. refl }
size_read (IsSize.of_pointee {j} {w} {rest} free) = record { begins = refl; read = rw (read_name_at w j _ free) refl; short = omega arith; multiplied = λ l. refl }
size_read (IsSize.of_bare_pointee {k} {w} {rest} free) = record { begins = refl; read = rw (read_name_at w k _ free) refl; short = omega arith; multiplied = λ l. refl }

star_ends : (l : ℕ) (ts : Tokens) → multiplies_size (mark (codes "*") l ∷ ts) ≡ true → goes_on (mark (codes "*") l ∷ ts) ≡ false
unfolding goes_on extension
star_ends l ts h = rw h refl

-- an operand that stands under a node of its own
nested_level : {n : ℕ} {ts rest : Tokens} {a : RawExpr} → IsExpr n ts a rest → 2 ≤ n → head_level rest < n → (d : ℕ) → Exact d (1 + nesting a) (nested d n ts) a rest
unfolding nested
nested_level h some loose zero = record { fits = λ p. absurd (omega (arith, p)); deep = λ p. refl }
nested_level h some loose (suc d) = let x = level_exact h some loose d in record { fits = λ p. x.fits (omega (arith, p)); deep = λ p. x.deep (omega (arith, p)) }

pub amount_exact : {ts rest : Tokens} {n : RawAmount} (k : ℕ) → IsAmount ts n (mark (codes ")") k ∷ rest) → (d : ℕ) → Exact d (amount_nesting n) (amount_of d ts) n (mark (codes ")") k ∷ rest)
unfolding amount_of sized counted sees multiplies_size is_keyword
amount_exact k (IsAmount.one h) d =
    let x = size_read h in
    rw x.begins (after _ x.read (at_depth (omega arith) (tested 0 done)))
amount_exact {rest} k (IsAmount.multiplied {a} h j) d =
    let x = size_read h in
    rw x.begins (after _ x.read (at_depth (omega arith) (tested 1 (seq _ (nested_level j (omega arith) (omega (arith, no_level _ (close_ends k rest))) d) done))))
amount_exact {ts} {rest} k (IsAmount.counted {l} {mid} {a} {z} h j) d =
    let x = size_read j in
    let low : 11 ≤ tightness a = tight h (omega arith) in
    let inner : Exact d (max (1 + max (nesting a) 1) 0) (counted d a (mark (codes "*") l ∷ mid)) (amount.CountSize a z) (mark (codes ")") k ∷ rest) =
    rw (x.multiplied l, le-leb _ _ low) (after _ x.read (tested (max (nesting a) 1) done)) in
    rw (starts_no_word (starts h) (codes "sizeof") refl)
    (at_depth (omega arith) (seq _ (expression_exact (weaken h 1 (omega arith)) (star_ends l mid (x.multiplied l)) d) inner))
amount_exact {ts} {rest} k (IsAmount.bytes {a} h) d =
    rw (starts_no_word (starts h) (codes "sizeof") refl) (at_depth (omega arith) (seq _ (expression_exact h (close_ends k rest) d) done))

pub amount_shorter : {ts rest : Tokens} {n : RawAmount} → IsAmount ts n rest → length rest < length ts
amount_shorter (IsAmount.one h) = (size_read h).short
amount_shorter (IsAmount.multiplied h j) = let x = (size_read h).short in omega (arith, x, shorter j)
amount_shorter (IsAmount.counted h j) = let x = (size_read j).short in omega (arith, x, shorter h)
amount_shorter (IsAmount.bytes h) = shorter h

-- ---- allocations

pub malloc_exact : {ts rest : Tokens} {n : RawAmount} → IsMalloc ts n rest → (d : ℕ) → Exact d (1 + amount_nesting n) (malloc_of d ts) n rest
unfolding malloc_of word expect sees
malloc_exact (malloc {k} {ts} {n} h) d =
    at_depth (omega arith) (lowered (λ j. and_then (amount_of j ts) (λ n ts. and_then (expect (codes ")") ts) (λ _ ts. Ok (n, ts)))) d (λ j. seq _ (amount_exact k h j) done))

pub malloc_shorter : {ts rest : Tokens} {n : RawAmount} → IsMalloc ts n rest → length rest < length ts
malloc_shorter (malloc h) = let x = amount_shorter h in omega (arith, x)

malloc_no_open : {ts rest : Tokens} {n : RawAmount} → IsMalloc ts n rest → sees Mark (codes "(") ts ≡ false
unfolding sees
malloc_no_open (malloc h) = refl

heap_parts_exact : {ts rest : Tokens} {t : Option RawTypeName} {n : RawAmount} → IsHeap ts t n rest → (d : ℕ) → Exact d (heap_nesting t n) (heap_parts d ts) (t, n) rest
unfolding heap_parts cast_amount expect sees
heap_parts_exact (IsHeap.uncast {n} h) d = rw (malloc_no_open h) (at_depth (omega arith) (seq _ (malloc_exact h d) done))
heap_parts_exact (IsHeap.cast {mid} {t = a} {n} h p k) d =
    after _ (type_name_read h) (rw p (at_depth (omega arith) (seq _ (lowered (λ j. malloc_of j mid) d (λ j. malloc_exact k j)) done)))

pub heap_exact : {ts rest : Tokens} {t : Option RawTypeName} {n : RawAmount} → IsHeap ts t n rest → (d line : ℕ) (to : RawTarget) → Exact d (heap_nesting t n) (heap d line to ts) (s.Heap line to t n) rest
unfolding heap
heap_exact h d line to = at_depth (omega arith) (seq _ (heap_parts_exact h d) done)

pub heap_shorter : {ts rest : Tokens} {t : Option RawTypeName} {n : RawAmount} → IsHeap ts t n rest → length rest < length ts
heap_shorter (IsHeap.uncast h) = malloc_shorter h
heap_shorter (IsHeap.cast h p k) = let x = named_shorter h in let y = malloc_shorter k in omega (arith, x, y)
