-- Where calls, simple statements or declarations are refused as too deep, as many tokens can nest.
use Rattle.std.proofs.Common.{◌≡◌, ℕ, zero, suc, ◌+◌, ◌-◌, ◌≤◌, max, List, [], ◌∷◌, ◌++◌, length, drop, refl, ap, arith, true, false, Bool, ◌||◌, Option, Some, None, Ok, Err, codes, nat_lt, nat_le, ◌==◌}
use Rattle.std.proofs.lemmas.Bool.{eqb-true, eqb-false, ltb-false}
use Rattle.c_arith.specs.declared.operators.BinaryOp.{BinaryOp}
use Rattle.c_arith.specs.declared.operators.BinaryOp.TheVariants.{Mul, Div, Rem, Add, Sub, Shl, Shr, Less, Greater, AtMost, AtLeast, Equal, Unequal, And, Xor, Or}
use Rattle.c_tree.specs.declared.raw.expr.RawExpr.{RawExpr}
use Rattle.c_tree.specs.declared.raw.expr.RawType.{RawType}
use Rattle.c_tree.specs.declared.raw.expr.RawVar.{RawVar}
use Rattle.c_tree.specs.declared.raw.statement.RawTarget.{RawTarget}
use Rattle.c_tree.specs.declared.raw.statement.RawTarget.TheVariants as target
use Rattle.c_tree.specs.declared.raw.statement.RawArg.{RawArg}
use Rattle.c_tree.specs.declared.raw.statement.RawTypeName.{RawTypeName}
use Rattle.c_tree.specs.declared.raw.statement.RawSize.{RawSize}
use Rattle.c_tree.specs.declared.raw.statement.RawAmount.{RawAmount}
use Rattle.c_tree.specs.declared.raw.statement.RawStatement.{RawStatement}
use Rattle.c_language.specs.Words.{Bytes, assign_sign, bump_sign}
use Rattle.c_language.specs.TokenForms.{Tokens, name, mark, line_of}
use Rattle.c_language.specs.Sees.{sees}
use Rattle.c_language.specs.ExprGrammar.{is_place, tightness}
use Rattle.c_language.specs.TypeGrammar.{has_star, is_listed}
use Rattle.c_language.specs.Nesting.{nesting, type_nesting, nesting_tokens}
use Rattle.c_language.specs.StatementGrammar.{IsSeparated, IsArg, IsArgs, is_callee, IsCall, IsSize, IsAmount, IsMalloc, malloc, IsHeap, IsSimple, IsList, IsDeclared, IsDeclaration, declaration}
use Rattle.c_language.specs.declared.token.TokenKind.TheVariants.{Name, Mark}
use Rattle.c_parse_expr.specs.Outcome.{Parser, Deep, expect, read_name}
use Rattle.c_parse_expr.specs.ExprReading.{multiplies_size, nested, expression}
use Rattle.c_parse_expr.specs.TypeReading.{base, type_name, declarator}
use Rattle.c_parse_simple.specs.SimpleReading as r
use Rattle.c_parse_simple.specs.SimpleReading.{word, string_at, separated, arg, args, sees_call, called, call_parts, call, pointee, size_inside, size_in_parens, size_of, sized, counted, amount_of, malloc_of, cast_amount, heap_parts, heap, sees_effect, effect, bumped, bump, compound_at, stored, assigned, changed, acted, placed, simple, list_from, list, initialised, declared}
use Rattle.c_parse_words.proofs.SeenTokens.{by_seen}
use Rattle.c_parse_expr.proofs.Tests.{by_choice, by_fault, by_expect, by_name, expect_fault, name_fault}
use Rattle.c_parse_expr.proofs.ExprDeep.{expr_tokens, IsDeep, drop_tokens, nested_expr_deep, whole_expr_deep}
use Rattle.c_parse_expr.proofs.TypeLaws.{base_flat}
use Rattle.c_parse_expr.proofs.TypeSound.{base_sound, type_name_sound, declarator_sound}
use Rattle.c_parse_expr.proofs.TypeDeep.{base_tokens, named_tokens, declarator_tokens, base_fault, declarator_deep}
use Rattle.c_parse_simple.proofs.CallSound.{expression_is, by_word, arg_sound, size_sound, multiplied_is}
use Rattle.c_parse_simple.proofs.SimpleSound.{compound_is, declared_sound}
use Rattle.c_language.proofs.Tests.{by_test}

-- ---- steps that are never too deep

type_name_fault : {G : Type 0} (ts : Tokens) → type_name ts ≡ Err Deep → G
unfolding type_name
type_name_fault ts h = by_fault (base ts) _ h (base_fault ts) (λ _ _ _ h. absurd cc)

pub word_fault : {G : Type 0} (text : Bytes) (ts : Tokens) → word text ts ≡ Err Deep → G
unfolding word
word_fault text ts h = by_test (sees Name text ts) h (λ _ h. absurd cc) (λ _ h. absurd cc)

pointee_fault : {G : Type 0} (in_parens : Bool) (ts : Tokens) → pointee in_parens ts ≡ Err Deep → G
unfolding pointee
pointee_fault in_parens ts h = by_fault (read_name ts) _ h (name_fault ts) (λ _ _ _ h. absurd cc)

inside_fault : {G : Type 0} (ts : Tokens) → size_inside ts ≡ Err Deep → G
unfolding size_inside
inside_fault ts h = by_test (sees Mark (codes "*") ts) h (λ _ h. pointee_fault true (drop 1 ts) h) (λ _ h. by_fault (type_name ts) _ h (type_name_fault ts) (λ _ _ _ h. absurd cc))

size_fault : {G : Type 0} (ts : Tokens) → size_of ts ≡ Err Deep → G
unfolding size_of size_in_parens
size_fault ts h = by_test (sees Mark (codes "*") ts) h
    (λ _ h. pointee_fault false (drop 1 ts) h)
    (λ _ h. by_fault (expect (codes "(") ts) _ h (expect_fault (codes "(") ts) (λ _ mid _ h.
    by_fault (size_inside mid) _ h (inside_fault mid) (λ _ after _ h. by_fault (expect (codes ")") after) _ h (expect_fault (codes ")") after) (λ _ _ _ h. absurd cc))))

-- ---- what is read leaves no more tokens that nest

module _ {A : Type 0} (Is : Tokens → A → Tokens → Type 0) (close : Bytes) (falls : (ts rest : Tokens) (a : A) → Is ts a rest → nesting_tokens rest ≤ nesting_tokens ts)
    (drops : (l : ℕ) (ts : Tokens) → nesting_tokens ts ≤ nesting_tokens (mark close l ∷ ts)) where
  pub separated_tokens : {ts rest : Tokens} {all : List A} → IsSeparated Is close ts all rest → nesting_tokens rest ≤ nesting_tokens ts
  separated_tokens (IsSeparated.last {l} {ts} {rest} {a} h) = omega (arith, falls ts (mark close l ∷ rest) a h, drops l rest)
  separated_tokens (IsSeparated.more {l} {ts} {mid} {a} h k) = omega (arith, falls ts (mark (codes ",") l ∷ mid) a h, separated_tokens k)

arg_tokens : (ts rest : Tokens) (a : RawArg) → IsArg ts a rest → nesting_tokens rest ≤ nesting_tokens ts
arg_tokens ts rest _ (IsArg.value h) = omega (arith, expr_tokens h)
arg_tokens _ rest _ IsArg.literal = omega arith

args_tokens : {ts rest : Tokens} {all : List RawArg} → IsArgs ts all rest → nesting_tokens rest ≤ nesting_tokens ts
args_tokens h = separated_tokens IsArg (codes ")") arg_tokens (λ l ts. omega arith) h

pub call_tokens : {ts rest : Tokens} {w : Bytes} {all : List RawArg} → IsCall ts w all rest → nesting_tokens rest ≤ nesting_tokens ts
call_tokens (IsCall.bare {l} {m} {k} {w} {rest} callee) = let x = drop_tokens (name w l ∷ mark (codes "(") m ∷ mark (codes ")") k ∷ rest) in omega (arith, x)
call_tokens (IsCall.with_args {l} {m} {w} {ts} callee h) = let x = args_tokens h in let y = drop_tokens (name w l ∷ mark (codes "(") m ∷ ts) in omega (arith, x, y)

-- a size has a parenthesis or a star
pub size_tokens : {ts rest : Tokens} {z : RawSize} → IsSize ts z rest → 1 + nesting_tokens rest ≤ nesting_tokens ts
size_tokens (IsSize.of_type h) = let x = named_tokens h in omega (arith, x)
size_tokens (IsSize.of_pointee {j} {i} {w} {rest} free) = let x = drop_tokens (name w j ∷ mark (codes ")") i ∷ rest) in omega (arith, x)
size_tokens (IsSize.of_bare_pointee {k} {w} {rest} free) = let x = drop_tokens (name w k ∷ rest) in omega (arith, x)

amount_tokens : {ts rest : Tokens} {n : RawAmount} → IsAmount ts n rest → nesting_tokens rest ≤ nesting_tokens ts
amount_tokens (IsAmount.one h) = let x = size_tokens h in omega (arith, x)
amount_tokens (IsAmount.counted h k) = let x = size_tokens k in omega (arith, x, expr_tokens h)
amount_tokens (IsAmount.multiplied h k) = let x = size_tokens h in omega (arith, x, expr_tokens k)
amount_tokens (IsAmount.bytes h) = omega (arith, expr_tokens h)

malloc_tokens : {ts rest : Tokens} {n : RawAmount} → IsMalloc ts n rest → nesting_tokens rest ≤ nesting_tokens ts
malloc_tokens (malloc h) = let x = amount_tokens h in omega (arith, x)

pub heap_tokens : {ts rest : Tokens} {t : Option RawTypeName} {n : RawAmount} → IsHeap ts t n rest → nesting_tokens rest ≤ nesting_tokens ts
heap_tokens (IsHeap.uncast h) = malloc_tokens h
heap_tokens (IsHeap.cast h p k) = let x = named_tokens h in let y = malloc_tokens k in omega (arith, x, y)

assign_nests : (op : Option BinaryOp) (l : ℕ) (ts : Tokens) → nesting_tokens (mark (assign_sign op) l ∷ ts) ≡ 1 + nesting_tokens ts
assign_nests None l ts = refl
assign_nests (Some Mul) l ts = refl
assign_nests (Some Div) l ts = refl
assign_nests (Some Rem) l ts = refl
assign_nests (Some Add) l ts = refl
assign_nests (Some Sub) l ts = refl
assign_nests (Some Shl) l ts = refl
assign_nests (Some Shr) l ts = refl
assign_nests (Some Less) l ts = refl
assign_nests (Some Greater) l ts = refl
assign_nests (Some AtMost) l ts = refl
assign_nests (Some AtLeast) l ts = refl
assign_nests (Some Equal) l ts = refl
assign_nests (Some Unequal) l ts = refl
assign_nests (Some And) l ts = refl
assign_nests (Some Xor) l ts = refl
assign_nests (Some Or) l ts = refl

bump_nests : (up : Bool) (l : ℕ) (ts : Tokens) → nesting_tokens (mark (bump_sign up) l ∷ ts) ≡ 1 + nesting_tokens ts
bump_nests true l ts = refl
bump_nests false l ts = refl

pub simple_tokens : {ts rest : Tokens} {a : RawStatement} → IsSimple ts a rest → nesting_tokens rest ≤ nesting_tokens ts
simple_tokens (IsSimple.assign {l} {mid} op can h p k) = omega (arith, expr_tokens h, expr_tokens k, assign_nests op l mid)
simple_tokens (IsSimple.store_call h p k) = let x = call_tokens k in omega (arith, expr_tokens h, x)
simple_tokens (IsSimple.store_heap h p k) = let x = heap_tokens k in omega (arith, expr_tokens h, x)
simple_tokens (IsSimple.bump_after {l} {rest} up h p) = omega (arith, expr_tokens h, bump_nests up l rest)
simple_tokens (IsSimple.bump_before {l} {ts} up h p) = omega (arith, expr_tokens h, bump_nests up l ts)
simple_tokens (IsSimple.call h) = call_tokens h

pub list_tokens : {ts rest : Tokens} {all : List RawExpr} → IsList ts all rest → nesting_tokens rest ≤ nesting_tokens ts
list_tokens (IsList.last h) = omega (arith, expr_tokens h)
list_tokens (IsList.trailing h) = omega (arith, expr_tokens h)
list_tokens (IsList.more h k) = omega (arith, expr_tokens h, list_tokens k)

pub declared_tokens : {line : ℕ} {b : RawType} {ts rest : Tokens} {a : RawStatement} → type_nesting b ≡ 0 → IsDeclared line b ts a rest → nesting_tokens rest ≤ nesting_tokens ts
declared_tokens flat (IsDeclared.plain h p) = let x = declarator_tokens h in omega (arith, flat, x)
declared_tokens flat (IsDeclared.value h p k) = let x = declarator_tokens h in omega (arith, flat, x, expr_tokens k)
declared_tokens flat (IsDeclared.list h k) = let x = declarator_tokens h in let y = list_tokens k in omega (arith, flat, x, y)
declared_tokens flat (IsDeclared.call h p k) = let x = declarator_tokens h in let y = call_tokens k in omega (arith, flat, x, y)
declared_tokens flat (IsDeclared.heap h p k) = let x = declarator_tokens h in let y = heap_tokens k in omega (arith, flat, x, y)

pub declaration_tokens : {ts rest : Tokens} {all : List RawStatement} → IsDeclaration ts all rest → nesting_tokens rest ≤ nesting_tokens ts
declaration_tokens {ts} (declaration {base = b} h k) =
    let flat = base_flat h in
    let x = base_tokens h in
    let y = separated_tokens (IsDeclared (line_of ts) b) (codes ";") (λ ts rest a h. declared_tokens flat h) (λ l ts. omega arith) k in
    omega (arith, x, y)

-- ---- lists with commas

module _ {A : Type 0} (close : Bytes) (read : Parser A) (d : ℕ) (deep : IsDeep d read) (falls : (ts : Tokens) (a : A) (rest : Tokens) → read ts ≡ Ok (a, rest) → nesting_tokens rest ≤ nesting_tokens ts) where
  pub separated_deep : (turns : ℕ) (found : List A) → IsDeep d (separated close read turns found)
  unfolding separated
  separated_deep zero found ts h = absurd cc
  separated_deep (suc turns) found ts h = by_fault (read ts) _ h (deep ts)
      (λ a mid went h. by_test (sees Mark close mid) h (λ _ h. absurd cc)
      (λ _ h. by_fault (expect (codes ",") mid) _ h (expect_fault (codes ",") mid) (λ u after parted h.
      by_expect (codes ",") mid after u parted (λ l at.
      let x = separated_deep turns (found ++ a ∷ []) after h in
      let y = falls ts a mid went in
      let z : nesting_tokens mid ≡ nesting_tokens (mark (codes ",") l ∷ after) = ap nesting_tokens at in
      omega (arith, x, y, z)))))

-- ---- calls

arg_deep : (d : ℕ) → IsDeep d (arg d)
unfolding arg
arg_deep d ts h = by_choice (string_at ts) _ _ h
    (λ _ h. by_fault (nested d 1 ts) _ h (nested_expr_deep d 1 (omega arith) (omega arith) ts) (λ _ _ _ h. absurd cc))
    (λ text _ h. absurd cc)

args_deep : (d : ℕ) → IsDeep d (args d)
unfolding args
args_deep d ts h = by_test (sees Mark (codes ")") ts) h (λ _ h. absurd cc)
    (λ _ h. separated_deep (codes ")") (arg d) d (arg_deep d) (λ ts a rest went. arg_tokens ts rest a (arg_sound d ts a rest went)) (length ts) [] ts h)

called_deep : (d : ℕ) (w : Bytes) (ts : Tokens) → called d w ts ≡ Err Deep → d ≤ nesting_tokens ts
unfolding called
called_deep d w ts h = by_test (is_callee w) h
    (λ _ h. by_test (d == 0) h (λ is _. let e = eqb-true d 0 is in omega (arith, e)) (λ _ h. args_deep d ts h))
    (λ _ h. absurd cc)

call_parts_deep : (d : ℕ) → IsDeep (suc d) (call_parts d)
unfolding call_parts
call_parts_deep d ts h = by_fault (read_name ts) _ h (name_fault ts) (λ w mid went h.
    by_name ts mid w went (λ l free at.
    by_fault (expect (codes "(") mid) _ h (expect_fault (codes "(") mid) (λ u after opened h.
    by_expect (codes "(") mid after u opened (λ m at2.
    by_fault (called d w after) _ h
    (λ h. let x = called_deep d w after h in
    let y : nesting_tokens ts ≡ nesting_tokens (name w l ∷ mid) = ap nesting_tokens at in
    let z : nesting_tokens mid ≡ nesting_tokens (mark (codes "(") m ∷ after) = ap nesting_tokens at2 in
    let v = drop_tokens (name w l ∷ mid) in
    omega (arith, x, y, z, v))
    (λ _ _ _ h. absurd cc)))))

pub call_deep : (d line : ℕ) (t : RawTarget) → IsDeep (suc d) (call d line t)
unfolding call
call_deep d line t ts h = by_fault (call_parts d ts) _ h (call_parts_deep d ts) (λ _ _ _ h. absurd cc)

-- ---- allocations

sized_deep : (d : ℕ) (z : RawSize) (ts : Tokens) → sized d z ts ≡ Err Deep → d ≤ nesting_tokens ts
unfolding sized
sized_deep d z ts h = by_test (sees Mark (codes "*") ts) h
    (λ is h. by_seen Mark (codes "*") ts is (λ l mid at.
    let y : nesting_tokens ts ≡ nesting_tokens (mark (codes "*") l ∷ mid) = ap nesting_tokens at in
    by_test (nat_lt 1 d) h
    (λ _ h. by_fault (nested d 12 (drop 1 ts)) _ h (λ h. let x = nested_expr_deep d 12 (omega arith) (omega arith) (drop 1 ts) h in let w = drop_tokens ts in omega (arith, x, w)) (λ _ _ _ h. absurd cc))
    (λ low _. let x = ltb-false 1 d low in omega (arith, x, y))))
    (λ _ h. by_test (nat_lt 0 d) h (λ _ h. absurd cc) (λ low _. let x = ltb-false 0 d low in omega (arith, x)))

counted_deep : (d : ℕ) (a : RawExpr) (ts : Tokens) → counted d a ts ≡ Err Deep → suc d ≤ nesting a + nesting_tokens ts
unfolding counted
counted_deep d a ts h = by_test (multiplies_size ts) h
    (λ is h. multiplied_is ts is (λ l m mid at.
    let y : nesting_tokens ts ≡ nesting_tokens (mark (codes "*") l ∷ name (codes "sizeof") m ∷ mid) = ap nesting_tokens at in
    let e : drop 2 ts ≡ mid = ap (drop 2) at in
    by_test (nat_le 11 (tightness a)) h
    (λ _ h. by_fault (size_of (drop 2 ts)) _ h (size_fault (drop 2 ts)) (λ z after went h.
    let x = size_tokens (size_sound m mid z after (rw e at went)) in
    by_test (nat_lt (max (nesting a) 1) d) h (λ _ h. absurd cc)
    (λ low _. let v = ltb-false (max (nesting a) 1) d low in omega (arith, x, y, v))))
    (λ _ h. absurd cc)))
    (λ _ h. absurd cc)

amount_deep : (d : ℕ) → IsDeep (suc d) (amount_of d)
unfolding amount_of
amount_deep d ts h = by_test (sees Name (codes "sizeof") ts) h
    (λ is h. by_seen Name (codes "sizeof") ts is (λ l mid at.
    let e : drop 1 ts ≡ mid = ap (drop 1) at in
    let y : nesting_tokens ts ≡ nesting_tokens (name (codes "sizeof") l ∷ mid) = ap nesting_tokens at in
    by_fault (size_of (drop 1 ts)) _ h (size_fault (drop 1 ts)) (λ z after went h.
    let x = size_tokens (size_sound l mid z after (rw e at went)) in
    let v = sized_deep d z after h in
    omega (arith, x, y, v))))
    (λ _ h. by_fault (expression d 1 ts) _ h (whole_expr_deep d 1 (omega arith) (omega arith) ts) (λ a mid went h.
    let x = counted_deep d a mid h in
    let y = expr_tokens (expression_is d ts a mid went) in
    omega (arith, x, y)))

malloc_deep : (d : ℕ) → IsDeep (suc d) (malloc_of d)
unfolding malloc_of
malloc_deep d ts h = by_fault (word (codes "malloc") ts) _ h (word_fault (codes "malloc") ts) (λ u mid begun h.
    by_word (codes "malloc") ts mid u begun (λ l at.
    by_fault (expect (codes "(") mid) _ h (expect_fault (codes "(") mid) (λ v after opened h.
    by_expect (codes "(") mid after v opened (λ m at2.
    let y : nesting_tokens ts ≡ nesting_tokens (name (codes "malloc") l ∷ mid) = ap nesting_tokens at in
    let z : nesting_tokens mid ≡ nesting_tokens (mark (codes "(") m ∷ after) = ap nesting_tokens at2 in
    by_test (d == 0) h
    (λ is _. let e = eqb-true d 0 is in omega (arith, e, y, z))
    (λ some h. by_fault (amount_of (d - 1) after) _ h
    (λ h. let x = amount_deep (d - 1) after h in let positive : d ≡ 0 → ⊥ = eqb-false d 0 some in omega (arith, x, y, z, positive))
    (λ n next _ h. by_fault (expect (codes ")") next) _ h (expect_fault (codes ")") next) (λ _ _ _ h. absurd cc)))))))

cast_deep : (d : ℕ) (a : RawTypeName) (ts : Tokens) → cast_amount d a ts ≡ Err Deep → d ≤ nesting_tokens ts
unfolding cast_amount
cast_deep d a ts h = by_test (has_star a) h
    (λ _ h. by_test (d == 0) h (λ is _. let e = eqb-true d 0 is in omega (arith, e))
    (λ some h. let x = malloc_deep (d - 1) ts h in omega (arith, x)))
    (λ _ h. absurd cc)

heap_parts_deep : (d : ℕ) → IsDeep (suc d) (heap_parts d)
unfolding heap_parts
heap_parts_deep d ts h = by_test (sees Mark (codes "(") ts) h
    (λ is h. by_seen Mark (codes "(") ts is (λ l mid at.
    let e : drop 1 ts ≡ mid = ap (drop 1) at in
    let y : nesting_tokens ts ≡ nesting_tokens (mark (codes "(") l ∷ mid) = ap nesting_tokens at in
    by_fault (type_name (drop 1 ts)) _ h (type_name_fault (drop 1 ts)) (λ a after went h.
    let z = named_tokens (type_name_sound mid after a (rw e at went)) in
    by_fault (expect (codes ")") after) _ h (expect_fault (codes ")") after) (λ u next closed h.
    by_expect (codes ")") after next u closed (λ k at2.
    let v : nesting_tokens after ≡ nesting_tokens (mark (codes ")") k ∷ next) = ap nesting_tokens at2 in
    by_fault (cast_amount d a next) _ h
    (λ h. let x = cast_deep d a next h in omega (arith, x, y, z, v))
    (λ _ _ _ h. absurd cc))))))
    (λ _ h. by_fault (malloc_of d ts) _ h (malloc_deep d ts) (λ _ _ _ h. absurd cc))

heap_deep : (d line : ℕ) (t : RawTarget) → IsDeep (suc d) (heap d line t)
unfolding heap
heap_deep d line t ts h = by_fault (heap_parts d ts) _ h (heap_parts_deep d ts) (λ _ _ _ h. absurd cc)

pub effect_deep : (d line : ℕ) (t : RawTarget) → IsDeep (suc d) (effect d line t)
unfolding effect
effect_deep d line t ts h = by_test (sees Name (codes "malloc") ts || sees Mark (codes "(") ts) h (λ _ h. heap_deep d line t ts h) (λ _ h. call_deep d line t ts h)

-- ---- simple statements

bumped_deep : (d line : ℕ) (up : Bool) → IsDeep d (bumped d line up)
unfolding bumped
bumped_deep d line up ts h = by_fault (nested d 1 ts) _ h (nested_expr_deep d 1 (omega arith) (omega arith) ts) (λ a mid _ h. by_test (is_place a) h (λ _ h. absurd cc) (λ _ h. absurd cc))

bump_deep : (d line : ℕ) (a : RawExpr) (up : Bool) (ts : Tokens) → bump d line a up ts ≡ Err Deep → d ≤ nesting a
unfolding bump
bump_deep d line a up ts h = by_test (nat_le 14 (tightness a)) h (λ _ h. by_test (nat_lt (nesting a) d) h (λ _ h. absurd cc) (λ low _. ltb-false (nesting a) d low)) (λ _ h. absurd cc)

stored_deep : (d line : ℕ) (a : RawExpr) → IsDeep (suc d) (stored d line a)
unfolding stored
stored_deep d line a ts h = by_test (sees_effect ts) h (λ _ h. effect_deep d line (target.Place a) ts h)
    (λ _ h. by_fault (expression d 1 ts) _ h (whole_expr_deep d 1 (omega arith) (omega arith) ts) (λ _ _ _ h. absurd cc))

assigned_deep : (d line : ℕ) (a : RawExpr) (ts : Tokens) → assigned d line a ts ≡ Err Deep → d ≤ nesting a + nesting_tokens ts
unfolding assigned
assigned_deep d line a ts h = by_test (nat_lt (nesting a) d) h
    (λ _ h. let x = stored_deep (d - 1) line a ts h in omega (arith, x))
    (λ low _. let x = ltb-false (nesting a) d low in omega (arith, x))

changed_deep : (d line : ℕ) (a : RawExpr) (op : BinaryOp) (ts : Tokens) → changed d line a op ts ≡ Err Deep → d ≤ nesting a + nesting_tokens ts
unfolding changed
changed_deep d line a op ts h = by_test (nat_lt (nesting a) d) h
    (λ _ h. by_fault (nested d 1 ts) _ h (λ h. let x = nested_expr_deep d 1 (omega arith) (omega arith) ts h in omega (arith, x)) (λ _ _ _ h. absurd cc))
    (λ low _. let x = ltb-false (nesting a) d low in omega (arith, x))

acted_deep : (d line : ℕ) (a : RawExpr) (ts : Tokens) → acted d line a ts ≡ Err Deep → suc d ≤ nesting a + nesting_tokens ts
unfolding acted
acted_deep d line a ts h = by_test (sees Mark (codes "++") ts) h
    (λ is h. by_seen Mark (codes "++") ts is (λ l mid at.
    let y : nesting_tokens ts ≡ nesting_tokens (mark (codes "++") l ∷ mid) = ap nesting_tokens at in
    let x = bump_deep d line a true (drop 1 ts) h in omega (arith, x, y)))
    (λ _ h. by_test (sees Mark (codes "--") ts) h
    (λ is h. by_seen Mark (codes "--") ts is (λ l mid at.
    let y : nesting_tokens ts ≡ nesting_tokens (mark (codes "--") l ∷ mid) = ap nesting_tokens at in
    let x = bump_deep d line a false (drop 1 ts) h in omega (arith, x, y)))
    (λ _ h. by_test (sees Mark (codes "=") ts) h
    (λ is h. by_seen Mark (codes "=") ts is (λ l mid at.
    let y : nesting_tokens ts ≡ nesting_tokens (mark (codes "=") l ∷ mid) = ap nesting_tokens at in
    let e : nesting_tokens (drop 1 ts) ≡ nesting_tokens mid = ap (λ r. nesting_tokens (drop 1 r)) at in
    let x = assigned_deep d line a (drop 1 ts) h in omega (arith, x, y, e)))
    (λ _ h. by_choice (compound_at ts) _ _ h (λ _ h. absurd cc)
    (λ op there h. compound_is ts op there (λ l mid at can.
    let y : nesting_tokens ts ≡ nesting_tokens (mark (assign_sign (Some op)) l ∷ mid) = ap nesting_tokens at in
    let z = assign_nests (Some op) l mid in
    let e : nesting_tokens (drop 1 ts) ≡ nesting_tokens mid = ap (λ r. nesting_tokens (drop 1 r)) at in
    let x = changed_deep d line a op (drop 1 ts) h in omega (arith, x, y, z, e))))))

placed_deep : (d line : ℕ) → IsDeep (suc d) (placed d line)
unfolding placed
placed_deep d line ts h = by_fault (expression d 1 ts) _ h (whole_expr_deep d 1 (omega arith) (omega arith) ts) (λ a mid went h.
    by_test (is_place a) h
    (λ _ h. let x = acted_deep d line a mid h in let y = expr_tokens (expression_is d ts a mid went) in omega (arith, x, y))
    (λ _ h. absurd cc))

pub simple_deep : (d : ℕ) → IsDeep (suc d) (simple d)
unfolding simple
simple_deep d ts h = by_test (sees Mark (codes "++") ts) h
    (λ is h. by_seen Mark (codes "++") ts is (λ l mid at.
    let y : nesting_tokens ts ≡ nesting_tokens (mark (codes "++") l ∷ mid) = ap nesting_tokens at in
    let e : nesting_tokens (drop 1 ts) ≡ nesting_tokens mid = ap (λ r. nesting_tokens (drop 1 r)) at in
    let x = bumped_deep d (line_of ts) true (drop 1 ts) h in omega (arith, x, y, e)))
    (λ _ h. by_test (sees Mark (codes "--") ts) h
    (λ is h. by_seen Mark (codes "--") ts is (λ l mid at.
    let y : nesting_tokens ts ≡ nesting_tokens (mark (codes "--") l ∷ mid) = ap nesting_tokens at in
    let e : nesting_tokens (drop 1 ts) ≡ nesting_tokens mid = ap (λ r. nesting_tokens (drop 1 r)) at in
    let x = bumped_deep d (line_of ts) false (drop 1 ts) h in omega (arith, x, y, e)))
    (λ _ h. by_test (sees_call ts) h (λ _ h. call_deep d (line_of ts) target.None ts h) (λ _ h. placed_deep d (line_of ts) ts h)))

-- ---- declarations

list_from_deep : (d turns : ℕ) (found : List RawExpr) → IsDeep (suc d) (list_from d turns found)
unfolding list_from
list_from_deep d zero found ts h = absurd cc
list_from_deep d (suc turns) found ts h = by_fault (expression d 1 ts) _ h (whole_expr_deep d 1 (omega arith) (omega arith) ts) (λ a mid went h.
    let y = expr_tokens (expression_is d ts a mid went) in
    by_test (sees Mark (codes "}") mid) h (λ _ h. absurd cc)
    (λ _ h. by_fault (expect (codes ",") mid) _ h (expect_fault (codes ",") mid) (λ u after parted h.
    by_expect (codes ",") mid after u parted (λ l at.
    let z : nesting_tokens mid ≡ nesting_tokens (mark (codes ",") l ∷ after) = ap nesting_tokens at in
    by_test (sees Mark (codes "}") after) h (λ _ h. absurd cc)
    (λ _ h. let x = list_from_deep d turns (found ++ a ∷ []) after h in omega (arith, x, y, z))))))

pub list_deep : (d : ℕ) → IsDeep (suc d) (list d)
list_deep d ts h = list_from_deep d (length ts) [] ts h

initialised_deep : (d line : ℕ) (v : RawVar) → IsDeep (suc d) (initialised d line v)
unfolding initialised
initialised_deep d line v ts h = by_test (sees Mark (codes "{") ts) h
    (λ _ h. by_fault (list d (drop 1 ts)) _ h (λ h. let x = list_deep d (drop 1 ts) h in let y = drop_tokens ts in omega (arith, x, y)) (λ _ _ _ h. absurd cc))
    (λ _ h. by_test (is_listed v.shape) h (λ _ h. absurd cc)
    (λ _ h. by_test (sees_effect ts) h (λ _ h. effect_deep d line (target.Declared v) ts h)
    (λ _ h. by_fault (expression d 1 ts) _ h (whole_expr_deep d 1 (omega arith) (omega arith) ts) (λ _ _ _ h. absurd cc))))

pub declared_deep : (d line : ℕ) (b : RawType) → type_nesting b ≡ 0 → IsDeep (suc d) (declared d line b)
unfolding declared
declared_deep d line b flat ts h = by_fault (declarator d b ts) _ h (λ h. let x = declarator_deep d b ts flat h in omega (arith, x)) (λ v mid went h.
    let y = declarator_tokens (declarator_sound d ts mid b v went).is in
    by_test (sees Mark (codes "=") mid) h
    (λ _ h. let x = initialised_deep d line v (drop 1 mid) h in let z = drop_tokens mid in omega (arith, flat, x, y, z))
    (λ _ h. by_test (is_listed v.shape) h (λ _ h. absurd cc) (λ _ h. absurd cc)))

pub declaration_deep : (d : ℕ) → IsDeep (suc d) (r.declaration d)
unfolding r.declaration
declaration_deep d ts h = by_fault (base ts) _ h (base_fault ts) (λ b mid went h.
    let is = base_sound ts mid b went in
    let flat = base_flat is in
    let y = base_tokens is in
    let x = separated_deep (codes ";") (declared d (line_of ts) b) (suc d) (declared_deep d (line_of ts) b flat) (λ ts a rest went. declared_tokens flat (declared_sound d _ b ts a rest went)) (length mid) [] mid h in
    omega (arith, x, y))
