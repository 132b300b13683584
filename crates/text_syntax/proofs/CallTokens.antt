-- Tokens of trees that are syntax: calls, allocations, and what declares a variable.
use Rattle.std.proofs.Common.{◌≡◌, ℕ, List, [], ◌∷◌, Bool, true, false, ◌&&◌, codes, Option, Some, None, refl}
use Rattle.std.specs.Prelude.{bytes_eq}
use Rattle.std.specs.List.{list_all}
use Rattle.std.proofs.lemmas.Bool.{and_parts}
use Rattle.c_tree.specs.declared.raw.expr.RawType.{RawType}
use Rattle.c_tree.specs.declared.raw.expr.RawVar.{RawVar}
use Rattle.c_tree.specs.declared.raw.program.RawInit.{RawInit}
use Rattle.c_tree.specs.declared.raw.program.RawInit.TheVariants as begins
use Rattle.c_tree.specs.declared.raw.statement.RawArg.{RawArg}
use Rattle.c_tree.specs.declared.raw.statement.RawArg.TheVariants.{Value, Literal}
use Rattle.c_tree.specs.declared.raw.statement.RawTypeName.{RawTypeName}
use Rattle.c_tree.specs.declared.raw.statement.RawSize.{RawSize}
use Rattle.c_tree.specs.declared.raw.statement.RawSize.TheVariants as size
use Rattle.c_tree.specs.declared.raw.statement.RawAmount.{RawAmount}
use Rattle.c_tree.specs.declared.raw.statement.RawAmount.TheVariants as amount
use Rattle.c_tree.specs.declared.raw.statement.RawStatement.{RawStatement}
use Rattle.c_tree.specs.declared.raw.statement.RawStatement.TheVariants as s
use Rattle.c_tree.specs.declared.raw.statement.RawTarget.TheVariants as target
use Rattle.c_language.specs.Words.{Bytes}
use Rattle.c_language.specs.TokenForms.{Tokens, mark, string}
use Rattle.c_language.specs.ExprGrammar.{conditional_level, multiplicative_level, cast_level}
use Rattle.c_language.specs.TypeGrammar.{NamesType, has_star, is_listed}
use Rattle.c_language.specs.StatementGrammar.{IsSeparated, IsArg, IsArgs, IsCall, is_callee, IsSize, IsAmount, IsMalloc, IsHeap, IsDeclared}
use Rattle.c_language.specs.Spellings.{is_name, is_string}
use Rattle.c_language.specs.Syntax.{binds, is_expr, sized, listed, reaches, is_declared, is_type_name, is_begun, is_arg, is_call, is_size, is_amount, is_heap}
use Rattle.text_syntax.proofs.Clear.{Clear, ClearInside, inside, ClearArgs, arg_value, arg_literal, args_last, args_more, bare_call, call_clear, allocation, name_alone, name_begun, name_valued, name_listed}
use Rattle.text_syntax.proofs.TreeTokens.{Tokened, expr_tokens}
use Rattle.text_syntax.proofs.TypeTokens.{Based, NoIntWord, NoBracket, own_parts, bare_type, star_tokens, stars_are, stars_spelled, unlisted, Declarator, sized_declarator, listed_declarator, list_tokens}
use Rattle.text_syntax.proofs.Runs.{Front, nothing, join, sign, word, of, of_declarator, Run, on_line, other_mark, mark_no_int, stars_end}

-- ---- calls

arg_tokens : (strings : Bool) (a : RawArg) → is_arg strings a ≡ true → Run (λ ts r. IsArg ts a r × ClearArgs strings ts r)
arg_tokens strings (Value a) h = let x = expr_tokens a conditional_level 0 h in record { front = of x; is = λ r. (IsArg.value (x.is r), arg_value (x.is r)) }
arg_tokens strings (Literal text) h =
    record { front = record { tokens = λ r. string text 0 ∷ r; spelled = λ r k. ((and_parts strings (is_string text) h).1, k) }; is = λ r. (IsArg.literal, arg_literal text 0 r (and_parts strings (is_string text) h).0) }

args_tokens : (strings : Bool) (a : RawArg) (all : List RawArg) → is_arg strings a ≡ true → list_all (is_arg false) all ≡ true → Run (λ ts r. IsArgs ts (a ∷ all) r × ClearArgs strings ts r)
args_tokens strings a [] h k = let x = arg_tokens strings a h in record { front = join x.front (sign (codes ")") 0 refl); is = λ r. let i = x.is (mark (codes ")") 0 ∷ r) in (IsSeparated.last i.0, args_last i.1) }
args_tokens strings a (b ∷ all) h k =
    let p = and_parts (is_arg false b) (list_all (is_arg false) all) k in
    let x = arg_tokens strings a h in
    let y = args_tokens false b all p.0 p.1 in
    record { front = join x.front (join (sign (codes ",") 0 refl) y.front); is = λ r. let i = x.is (mark (codes ",") 0 ∷ y.front.tokens r) in let j = y.is r in (IsSeparated.more i.0 j.0, args_more i.1 j.1) }

pub call_tokens : (l : ℕ) (f : Bytes) (args : List RawArg) → is_call f args ≡ true → Tokened (λ ts r. IsCall ts f args r × Clear ts r) l
call_tokens l f [] h =
    let p = and_parts (is_name f) _ h in
    let q = and_parts (is_callee f) true p.1 in
    on_line l (join (word f l p.0) (join (sign (codes "(") 0 refl) (sign (codes ")") 0 refl))) (λ r. refl) (λ r. (IsCall.bare q.0, bare_call q.0))
call_tokens l f (a ∷ all) h =
    let p = and_parts (is_name f) _ h in
    let q = and_parts (is_callee f) _ p.1 in
    let k = and_parts (is_arg (bytes_eq f (codes "printf")) a) (list_all (is_arg false) all) q.1 in
    let x = args_tokens (bytes_eq f (codes "printf")) a all k.0 k.1 in
    on_line l (join (word f l p.0) (join (sign (codes "(") 0 refl) x.front)) (λ r. refl) (λ r. (IsCall.with_args q.0 (x.is r).0, call_clear q.0 (x.is r).1))

-- ---- allocations

-- a type name, and the parenthesis behind it
type_name_tokens : (t : RawTypeName) → is_type_name t ≡ true → Run (λ ts r. NamesType ts t (mark (codes ")") 0 ∷ r))
type_name_tokens t h =
    let b = bare_type t.base 0 h in
    record {
      front = record {
        tokens = λ r. b.front (star_tokens t.stars 0 (mark (codes ")") 0 ∷ r));
        spelled = λ r k. b.spelled (star_tokens t.stars 0 (mark (codes ")") 0 ∷ r)) (stars_spelled t.stars 0 (mark (codes ")") 0 ∷ r) (refl, k));
      };
      is = λ r. NamesType.starred
          (b.is (star_tokens t.stars 0 (mark (codes ")") 0 ∷ r)) (stars_end t.stars 0 (mark (codes ")") 0 ∷ r) (mark_no_int (codes ")") 0 r)))
          (stars_are t.stars 0 t.base (mark (codes ")") 0 ∷ r) (other_mark (codes ")") (codes "*") 0 r refl));
    }

size_tokens : (z : RawSize) → is_size z ≡ true → Run (λ ts r. IsSize ts z r)
size_tokens (size.Type t) h =
    let x = type_name_tokens t h in
    record { front = join (word (codes "sizeof") 0 refl) (join (sign (codes "(") 0 refl) x.front); is = λ r. IsSize.of_type (x.is r) }
size_tokens (size.Pointee w true) h =
    let p = own_parts w h in
    record {
      front = join (word (codes "sizeof") 0 refl) (join (sign (codes "(") 0 refl) (join (sign (codes "*") 0 refl) (join (word w 0 p.0) (sign (codes ")") 0 refl))));
      is = λ r. IsSize.of_pointee p.1;
    }
size_tokens (size.Pointee w false) h =
    let p = own_parts w h in
    record { front = join (word (codes "sizeof") 0 refl) (join (sign (codes "*") 0 refl) (word w 0 p.0)); is = λ r. IsSize.of_bare_pointee p.1 }

amount_tokens : (n : RawAmount) → is_amount n ≡ true → Run (λ ts r. IsAmount ts n r)
amount_tokens (amount.Size z) h = let x = size_tokens z h in record { front = x.front; is = λ r. IsAmount.one (x.is r) }
amount_tokens (amount.CountSize a z) h =
    let p = and_parts (binds a multiplicative_level) (is_size z) h in
    let x = expr_tokens a multiplicative_level 0 p.0 in
    let y = size_tokens z p.1 in
    record { front = join (of x) (join (sign (codes "*") 0 refl) y.front); is = λ r. IsAmount.counted (x.is (mark (codes "*") 0 ∷ y.front.tokens r)) (y.is r) }
amount_tokens (amount.SizeCount z a) h =
    let p = and_parts (is_size z) (binds a cast_level) h in
    let x = expr_tokens a cast_level 0 p.1 in
    let y = size_tokens z p.0 in
    record { front = join y.front (join (sign (codes "*") 0 refl) (of x)); is = λ r. IsAmount.multiplied (y.is (mark (codes "*") 0 ∷ x.front r)) (x.is r) }
amount_tokens (amount.Count a) h = let x = expr_tokens a conditional_level 0 h in record { front = of x; is = λ r. IsAmount.bytes (x.is r) }

malloc_tokens : (n : RawAmount) → is_amount n ≡ true → Run (λ ts r. IsMalloc ts n r)
malloc_tokens n h =
    let x = amount_tokens n h in
    record { front = join (word (codes "malloc") 0 refl) (join (sign (codes "(") 0 refl) (join x.front (sign (codes ")") 0 refl))); is = λ r. IsMalloc.malloc (x.is (mark (codes ")") 0 ∷ r)) }

pub heap_tokens : (cast : Option RawTypeName) (n : RawAmount) → is_heap cast n ≡ true → Run (λ ts r. IsHeap ts cast n r)
heap_tokens None n h = let x = malloc_tokens n h in record { front = x.front; is = λ r. IsHeap.uncast (x.is r) }
heap_tokens (Some t) n h =
    let p = and_parts (is_type_name t && has_star t) (is_amount n) h in
    let q = and_parts (is_type_name t) (has_star t) p.0 in
    let x = type_name_tokens t q.0 in
    let y = malloc_tokens n p.1 in
    record { front = join (sign (codes "(") 0 refl) (join x.front y.front); is = λ r. IsHeap.cast (x.is (y.front.tokens r)) q.1 (y.is r) }

-- ---- what declares a variable

-- a base, and one declarator with its initialiser
pub record Opened (x : RawStatement) : Type 0 where
  pub line : ℕ
  pub base : RawType
  pub based : Based line base
  pub front : Front
  pub no_int : (r : Tokens) → NoIntWord (front.tokens r)
  pub is : (r : Tokens) → NoBracket r → IsDeclared line base (front.tokens r) x r
  pub clear : (r : Tokens) → NoBracket r → ClearInside (front.tokens r) r

opened : {l : ℕ} {v : RawVar} {x : RawStatement} (d : Declarator l v) (tail : Front) → ((r : Tokens) → NoBracket r → IsDeclared l d.base (d.front (tail.tokens r)) x r × ClearInside (d.front (tail.tokens r)) r) → Opened x
opened {l} d tail is = record { line = l; base = d.base; based = d.based; front = join (of_declarator d) tail; no_int = λ r. d.no_int (tail.tokens r); is = λ r k. (is r k).0; clear = λ r k. (is r k).1 }

pub equals_ends : (r : Tokens) → NoBracket (mark (codes "=") 0 ∷ r)
equals_ends r = other_mark (codes "=") (codes "[") 0 r refl

pub sized_unlisted : (v : RawVar) → is_declared v sized ≡ true → is_listed v.shape ≡ false
sized_unlisted v h = unlisted v.shape (and_parts _ (reaches v.shape sized) h).1

pub declare_tokens : (l : ℕ) (v : RawVar) (i : RawInit) → is_begun v i ≡ true → Opened (s.Declare l v i)
declare_tokens l v begins.None h =
    let d = sized_declarator l v h in
    opened d nothing (λ r k. (IsDeclared.plain (d.is r k) (sized_unlisted v h), inside (name_alone (d.is r k))))
declare_tokens l v (begins.One a) h =
    let p = and_parts (is_declared v sized) (is_expr a) h in
    let d = sized_declarator l v p.0 in
    let x = expr_tokens a conditional_level 0 p.1 in
    opened d (join (sign (codes "=") 0 refl) (of x)) (λ r k. let i = d.is (mark (codes "=") 0 ∷ x.front r) (equals_ends (x.front r)) in (IsDeclared.value i (sized_unlisted v p.0) (x.is r), inside (name_valued i (x.is r))))
declare_tokens l v (begins.Items []) h = let p = (and_parts (is_declared v listed) _ h).1 in absurd cc
declare_tokens l v (begins.Items (a ∷ all)) h =
    let p = and_parts (is_declared v listed) _ h in
    let d = listed_declarator l v p.0 in
    let x = list_tokens 0 a all p.1 in
    opened d (join (sign (codes "=") 0 refl) (join (sign (codes "{") 0 refl) (of x)))
    (λ r k. let i = d.is (mark (codes "=") 0 ∷ mark (codes "{") 0 ∷ x.front r) (equals_ends (mark (codes "{") 0 ∷ x.front r)) in (IsDeclared.list i (x.is r).0, inside (name_listed i (x.is r).1)))

pub declare_call : (l : ℕ) (v : RawVar) (f : Bytes) (args : List RawArg) → is_declared v sized ≡ true → is_call f args ≡ true → Opened (s.Call l (target.Declared v) f args)
declare_call l v f args h k =
    let d = sized_declarator l v h in
    let x = call_tokens 0 f args k in
    opened d (join (sign (codes "=") 0 refl) (of x)) (λ r j. let i = d.is (mark (codes "=") 0 ∷ x.front r) (equals_ends (x.front r)) in (IsDeclared.call i (sized_unlisted v h) (x.is r).0, name_begun i (inside (x.is r).1)))

pub declare_heap : (l : ℕ) (v : RawVar) (cast : Option RawTypeName) (n : RawAmount) → is_declared v sized ≡ true → is_heap cast n ≡ true → Opened (s.Heap l (target.Declared v) cast n)
declare_heap l v cast n h k =
    let d = sized_declarator l v h in
    let x = heap_tokens cast n k in
    opened d (join (sign (codes "=") 0 refl) x.front) (λ r j. let i = d.is (mark (codes "=") 0 ∷ x.front.tokens r) (equals_ends (x.front.tokens r)) in (IsDeclared.heap i (sized_unlisted v h) (x.is r), name_begun i (allocation (x.is r))))
