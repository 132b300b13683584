-- Each simple statement and each declaration of the grammar is read, and each that nests too deep is refused for that.
use Rattle.std.proofs.Common.{◌≡◌, ℕ, zero, suc, ◌+◌, ◌≤◌, ◌<◌, max, List, [], ◌∷◌, ◌++◌, append_assoc, map, length, refl, arith, true, false, Bool, not, Option, Some, None, Ok, codes}
use Rattle.std.specs.Str.{bytes_eq}
use Rattle.std.proofs.lemmas.Bool.{and_parts, not-true, le-leb, ltb-true, or_right}
use Rattle.c_arith.specs.declared.operators.BinaryOp.{BinaryOp}
use Rattle.c_arith.specs.declared.operators.BinaryOp.TheVariants.{Mul, Div, Rem, Add, Sub, Shl, Shr, Less, Greater, AtMost, AtLeast, Equal, Unequal, And, Xor, Or}
use Rattle.c_tree.specs.declared.raw.expr.RawExpr.{RawExpr}
use Rattle.c_tree.specs.declared.raw.expr.RawType.{RawType}
use Rattle.c_tree.specs.declared.raw.expr.RawVar.{RawVar}
use Rattle.c_tree.specs.declared.raw.program.RawInit.TheVariants as init
use Rattle.c_tree.specs.declared.raw.statement.RawTarget.{RawTarget}
use Rattle.c_tree.specs.declared.raw.statement.RawTarget.TheVariants as target
use Rattle.c_tree.specs.declared.raw.statement.RawArg.{RawArg}
use Rattle.c_tree.specs.declared.raw.statement.RawTypeName.{RawTypeName}
use Rattle.c_tree.specs.declared.raw.statement.RawAmount.{RawAmount}
use Rattle.c_tree.specs.declared.raw.statement.RawStatement.{RawStatement}
use Rattle.c_tree.specs.declared.raw.statement.RawStatement.TheVariants as s
use Rattle.c_language.specs.Words.{Bytes, assign_sign, bump_sign}
use Rattle.c_language.specs.TokenForms.{Tokens, name, mark, line_of}
use Rattle.c_language.specs.Sees.{sees, sees_second, sees_name, is_keyword}
use Rattle.c_language.specs.ExprGrammar.{IsExpr, is_place, tightness}
use Rattle.c_language.specs.TypeGrammar.{IsStars, IsLengths, IsOuterLengths, NamesType, starred, has_star, IsDeclarator, is_listed}
use Rattle.c_language.specs.Nesting.{nesting, type_nesting}
use Rattle.c_language.specs.StatementGrammar.{is_callee, IsCall, malloc, IsHeap, is_compound, assigns_by, IsSimple, IsList, IsDeclared, IsDeclaration, declaration}
use Rattle.c_language.specs.StatementNesting.{call_nesting, heap_nesting, statement_nesting, body_nesting}
use Rattle.c_language.specs.declared.token.TokenKind.TheVariants.{Mark}
use Rattle.c_language.proofs.StatementNestingLemmas.{nesting-Declare, nesting-Assign, nesting-Bump, nesting-Call, nesting-Heap}
use Rattle.c_parse_expr.specs.Outcome.{expect}
use Rattle.c_parse_expr.specs.ExprReading.{logical, comparison, arithmetic, infix_by, extension_by, multiplies_size, extension, goes_on}
use Rattle.c_parse_expr.specs.TypeReading.{base}
use Rattle.c_parse_simple.specs.SimpleReading as r
use Rattle.c_parse_simple.specs.SimpleReading.{sees_call, sees_cast, sees_effect, effect, bumped, bump, compound_by, compound_at, stored, assigned, changed, acted, simple, list_from, list, initialised, declared}
use Rattle.c_parse_expr.proofs.ExprLaws.{Exact, expression_exact, nested_exact, shorter}
use Rattle.c_parse_expr.proofs.ExprSound.{weaken}
use Rattle.c_parse_expr.proofs.TightLaws.{tight}
use Rattle.c_parse_simple.proofs.Exact.{done, at_depth, same_read, same_tree, seq, after, tested, under, separated_exact, separated_shorter}
use Rattle.c_parse_simple.proofs.Begins.{starts, starts_no_mark, no_call, no_cast}
use Rattle.c_parse_expr.proofs.TypeLaws.{base_read, base_flat, base_shorter, declarator_exact, stars_shorter, pointed_nests}
use Rattle.c_parse_simple.proofs.CallLaws.{close_ends, brace_ends, comma_ends, semicolon_ends, call_exact, call_shorter, heap_exact, heap_shorter}
use Rattle.c_language.specs.Lists.{greatest}

-- ---- calls and allocations that are stored

call_seen : (w : Bytes) (l m : ℕ) (ts : Tokens) → is_keyword w ≡ false → sees_call (name w l ∷ mark (codes "(") m ∷ ts) ≡ true
unfolding sees_call sees_name sees_second
call_seen w l m ts h = rw h refl

pub callee_parts : (w : Bytes) → is_callee w ≡ true → (is_keyword w ≡ false) × (bytes_eq w (codes "malloc") ≡ false)
unfolding is_callee
callee_parts w h = let p = and_parts (not (is_keyword w)) _ h in (not-true _ p.0, not-true _ p.1)

-- what a call or an allocation says where it is looked for
record EffectRead (d m line : ℕ) (t : RawTarget) (ts : Tokens) (a : RawStatement) (rest : Tokens) : Type 0 where
  seen : sees_effect ts ≡ true
  exact : Exact d m (effect d line t ts) a rest
  no_brace : sees Mark (codes "{") ts ≡ false

call_effect : {ts rest : Tokens} {w : Bytes} {all : List RawArg} → IsCall ts w all rest → (d line : ℕ) (t : RawTarget) → EffectRead d (call_nesting all) line t ts (s.Call line t w all) rest
unfolding effect sees_effect sees
call_effect (IsCall.bare {l} {m} {w} callee) d line t =
    let p = callee_parts w callee in
    record { seen = rw (call_seen w l m _ p.0) refl; exact = rw p.1 (call_exact (IsCall.bare callee) d line t); no_brace = refl }
call_effect (IsCall.with_args {l} {m} {w} callee h) d line t =
    let p = callee_parts w callee in
    record { seen = rw (call_seen w l m _ p.0) refl; exact = rw p.1 (call_exact (IsCall.with_args callee h) d line t); no_brace = refl }

malloc_seen : (l m : ℕ) (ts : Tokens) → sees_call (name (codes "malloc") l ∷ mark (codes "(") m ∷ ts) ≡ true
unfolding sees_call sees_name sees_second is_keyword
malloc_seen l m ts = refl

star_there : {ts rest : Tokens} {a b : RawType} → IsStars ts a b rest → type_nesting a < type_nesting b → sees Mark (codes "*") ts ≡ true
unfolding sees
star_there (IsStars.done h) low = absurd (omega (arith, low))
star_there (IsStars.star h) low = refl

cast_told : {mid : Tokens} {a : RawType} (l : ℕ) (ts : Tokens) → base ts ≡ Ok (a, mid) → sees Mark (codes "*") mid ≡ true → sees_cast (mark (codes "(") l ∷ ts) ≡ true
unfolding sees_cast sees
cast_told l ts h k = rw (h, k) refl

cast_seen : {ts mid : Tokens} {t : RawTypeName} (l : ℕ) → NamesType ts t mid → has_star t ≡ true → sees_cast (mark (codes "(") l ∷ ts) ≡ true
cast_seen l (starred {n} {base = a} h k) p =
    let some = ltb-true 0 n p in
    let e = pointed_nests n a in
    cast_told l _ (base_read h) (star_there k (omega (arith, some, e)))

heap_effect : {ts rest : Tokens} {cast : Option RawTypeName} {n : RawAmount} → IsHeap ts cast n rest → (d line : ℕ) (t : RawTarget) → EffectRead d (heap_nesting cast n) line t ts (s.Heap line t cast n) rest
unfolding effect sees_effect sees
heap_effect (IsHeap.uncast (malloc {l} {m} h)) d line t =
    record { seen = rw (malloc_seen l m _) refl; exact = heap_exact (IsHeap.uncast (malloc h)) d line t; no_brace = refl }
heap_effect (IsHeap.cast {l} h p k) d line t =
    record { seen = rw (cast_seen l h p) (or_right _ true refl); exact = heap_exact (IsHeap.cast h p k) d line t; no_brace = refl }

-- ---- simple statements

-- what may stand behind a simple statement, and behind a declarator with its initialiser
pub record Ends (rest : Tokens) : Type 0 where
  pub free : goes_on rest ≡ false
  pub no_open : sees Mark (codes "(") rest ≡ false
  pub no_equals : sees Mark (codes "=") rest ≡ false

pub at_semicolon : (l : ℕ) (ts : Tokens) → Ends (mark (codes ";") l ∷ ts)
unfolding sees
at_semicolon l ts = record { free = semicolon_ends l ts; no_open = refl; no_equals = refl }

pub at_comma : (l : ℕ) (ts : Tokens) → Ends (mark (codes ",") l ∷ ts)
unfolding sees
at_comma l ts = record { free = comma_ends l ts; no_open = refl; no_equals = refl }

pub at_close : (l : ℕ) (ts : Tokens) → Ends (mark (codes ")") l ∷ ts)
unfolding sees
at_close l ts = record { free = close_ends l ts; no_open = refl; no_equals = refl }

no_effect : {n : ℕ} {ts rest : Tokens} {a : RawExpr} → IsExpr n ts a rest → sees Mark (codes "(") rest ≡ false → sees_effect ts ≡ false
unfolding sees_effect
no_effect h p = rw (no_call h p, no_cast h) refl

-- what is done with a place, by the token behind it
record ActsBy (w : Bytes) : Type 0 where
  ends : (l : ℕ) (ts : Tokens) → goes_on (mark w l ∷ ts) ≡ false
  no_open : (l : ℕ) (ts : Tokens) → sees Mark (codes "(") (mark w l ∷ ts) ≡ false

assigns : (op : Option BinaryOp) → assigns_by op ≡ true → ActsBy (assign_sign op)
unfolding goes_on extension extension_by infix_by logical comparison arithmetic multiplies_size sees
assigns None h = record { ends = λ l ts. refl; no_open = λ l ts. refl }
assigns (Some Mul) h = record { ends = λ l ts. refl; no_open = λ l ts. refl }
assigns (Some Div) h = record { ends = λ l ts. refl; no_open = λ l ts. refl }
assigns (Some Rem) h = record { ends = λ l ts. refl; no_open = λ l ts. refl }
assigns (Some Add) h = record { ends = λ l ts. refl; no_open = λ l ts. refl }
assigns (Some Sub) h = record { ends = λ l ts. refl; no_open = λ l ts. refl }
assigns (Some Shl) h = record { ends = λ l ts. refl; no_open = λ l ts. refl }
assigns (Some Shr) h = record { ends = λ l ts. refl; no_open = λ l ts. refl }
assigns (Some And) h = record { ends = λ l ts. refl; no_open = λ l ts. refl }
assigns (Some Xor) h = record { ends = λ l ts. refl; no_open = λ l ts. refl }
assigns (Some Or) h = record { ends = λ l ts. refl; no_open = λ l ts. refl }
assigns (Some Less) h = absurd cc
assigns (Some Greater) h = absurd cc
assigns (Some AtMost) h = absurd cc
assigns (Some AtLeast) h = absurd cc
assigns (Some Equal) h = absurd cc
assigns (Some Unequal) h = absurd cc

bumps : (up : Bool) → ActsBy (bump_sign up)
unfolding goes_on extension extension_by infix_by logical comparison arithmetic multiplies_size sees
bumps true = record { ends = λ l ts. refl; no_open = λ l ts. refl }
bumps false = record { ends = λ l ts. refl; no_open = λ l ts. refl }

acts_equals : (d line l : ℕ) (a : RawExpr) (ts : Tokens) → acted d line a (mark (codes "=") l ∷ ts) ≡ assigned d line a ts
unfolding acted sees
acts_equals d line l a ts = refl

acts_bump : (d line l : ℕ) (a : RawExpr) (up : Bool) (ts : Tokens) → acted d line a (mark (bump_sign up) l ∷ ts) ≡ bump d line a up ts
unfolding acted sees
acts_bump d line l a true ts = refl
acts_bump d line l a false ts = refl

acts_compound : (d line l : ℕ) (a : RawExpr) (op : BinaryOp) (ts : Tokens) → is_compound op ≡ true → acted d line a (mark (assign_sign (Some op)) l ∷ ts) ≡ changed d line a op ts
unfolding acted sees compound_at compound_by
acts_compound d line l a Mul ts h = refl
acts_compound d line l a Div ts h = refl
acts_compound d line l a Rem ts h = refl
acts_compound d line l a Add ts h = refl
acts_compound d line l a Sub ts h = refl
acts_compound d line l a Shl ts h = refl
acts_compound d line l a Shr ts h = refl
acts_compound d line l a And ts h = refl
acts_compound d line l a Xor ts h = refl
acts_compound d line l a Or ts h = refl
acts_compound d line l a Less ts h = absurd cc
acts_compound d line l a Greater ts h = absurd cc
acts_compound d line l a AtMost ts h = absurd cc
acts_compound d line l a AtLeast ts h = absurd cc
acts_compound d line l a Equal ts h = absurd cc
acts_compound d line l a Unequal ts h = absurd cc

-- an expression at the front that is a place, and what is done with it
placed : {w : Bytes} {l d n : ℕ} {ts mid rest : Tokens} {a : RawExpr} {b : RawStatement} → IsExpr 1 ts a (mark w l ∷ mid) → is_place a ≡ true → ActsBy w
    → Exact d n (acted d (line_of ts) a (mark w l ∷ mid)) b rest → Exact d (max (nesting a) n) (simple d ts) b rest
unfolding simple r.placed
placed {w} {l} {d} {ts} {mid} h p by x =
    rw (starts_no_mark (starts h) (codes "++") refl, starts_no_mark (starts h) (codes "--") refl, no_call h (by.no_open l mid))
    (seq _ (expression_exact h (by.ends l mid) d) (rw p x))

stored_value : {mid rest : Tokens} {b : RawExpr} (a : RawExpr) (line : ℕ) → IsExpr 1 mid b rest → Ends rest → (d : ℕ) → Exact d (nesting b) (stored d line a mid) (s.Assign line a None b) rest
unfolding stored
stored_value a line h ends d = rw (no_effect h ends.no_open) (at_depth (omega arith) (seq _ (expression_exact h ends.free d) done))

stored_effect : {m line : ℕ} {a : RawExpr} {ts rest : Tokens} {b : RawStatement} (d : ℕ) → EffectRead d m line (target.Place a) ts b rest → Exact d m (stored d line a ts) b rest
unfolding stored
stored_effect d x = rw x.seen x.exact

assigned_exact : {m : ℕ} {rest : Tokens} {b : RawStatement} (line : ℕ) (a : RawExpr) (ts : Tokens) (d : ℕ) → ((k : ℕ) → Exact k m (stored k line a ts) b rest) → Exact d (1 + max (nesting a) m) (assigned d line a ts) b rest
unfolding assigned
assigned_exact line a ts d x = under (λ k. stored k line a ts) (nesting a) d x

changed_exact : {mid rest : Tokens} {b : RawExpr} (a : RawExpr) (op : BinaryOp) (line : ℕ) → IsExpr 1 mid b rest → Ends rest → (d : ℕ) → Exact d (1 + max (nesting a) (nesting b)) (changed d line a op mid) (s.Assign line a (Some op) b) rest
unfolding changed
changed_exact a op line h ends d = at_depth (omega arith) (tested (nesting a) (seq _ (nested_exact h ends.free d) done))

bump_exact : {rest : Tokens} (a : RawExpr) (line : ℕ) (up : Bool) → 14 ≤ tightness a → (d : ℕ) → Exact d (1 + nesting a) (bump d line a up rest) (s.Bump line a up false) rest
unfolding bump
bump_exact a line up low d = rw (le-leb _ _ low) (at_depth (omega arith) (tested (nesting a) done))

bumped_exact : {ts rest : Tokens} {a : RawExpr} (line : ℕ) (up : Bool) → IsExpr 1 ts a rest → is_place a ≡ true → Ends rest → (d : ℕ) → Exact d (1 + nesting a) (bumped d line up ts) (s.Bump line a up true) rest
unfolding bumped
bumped_exact line up h p ends d = at_depth (omega arith) (seq {n = 0} _ (nested_exact h ends.free d) (rw p done))

simple_call : {ts rest : Tokens} {w : Bytes} {all : List RawArg} → IsCall ts w all rest → (d : ℕ) → Exact d (call_nesting all) (simple d ts) (s.Call (line_of ts) target.None w all) rest
unfolding simple sees
simple_call (IsCall.bare {l} {m} {w} callee) d = rw (call_seen w l m _ (callee_parts w callee).0) (call_exact (IsCall.bare callee) d l target.None)
simple_call (IsCall.with_args {l} {m} {w} callee h) d = rw (call_seen w l m _ (callee_parts w callee).0) (call_exact (IsCall.with_args callee h) d l target.None)

bump_begins : (d l : ℕ) (up : Bool) (ts : Tokens) → simple d (mark (bump_sign up) l ∷ ts) ≡ bumped d l up ts
unfolding simple sees
bump_begins d l true ts = refl
bump_begins d l false ts = refl

pub simple_exact : {ts rest : Tokens} {a : RawStatement} → IsSimple ts a rest → Ends rest → (d : ℕ) → Exact d (statement_nesting a) (simple d ts) a rest
simple_exact (IsSimple.assign {l} {ts} {mid} {rest} {a} {b} None can h p k) ends d =
    let x = assigned_exact (line_of ts) a mid d (stored_value a (line_of ts) k ends) in
    at_depth (omega (arith, nesting-Assign (line_of ts) a None b)) (placed h p (assigns None refl) (same_read (acts_equals d (line_of ts) l a mid) x))
simple_exact (IsSimple.assign {l} {ts} {mid} {rest} {a} {b} (Some op) can h p k) ends d =
    let x = changed_exact a op (line_of ts) k ends d in
    at_depth (omega (arith, nesting-Assign (line_of ts) a (Some op) b)) (placed h p (assigns (Some op) can) (same_read (acts_compound d (line_of ts) l a op mid can) x))
simple_exact (IsSimple.store_call {l} {ts} {mid} {rest} {a} {w} {all} h p k) ends d =
    let x = assigned_exact (line_of ts) a mid d (λ j. stored_effect j (call_effect k j (line_of ts) (target.Place a))) in
    at_depth (omega (arith, nesting-Call (line_of ts) (target.Place a) w all)) (placed h p (assigns None refl) (same_read (acts_equals d (line_of ts) l a mid) x))
simple_exact (IsSimple.store_heap {l} {ts} {mid} {rest} {a} {t} {n} h p k) ends d =
    let x = assigned_exact (line_of ts) a mid d (λ j. stored_effect j (heap_effect k j (line_of ts) (target.Place a))) in
    at_depth (omega (arith, nesting-Heap (line_of ts) (target.Place a) t n)) (placed h p (assigns None refl) (same_read (acts_equals d (line_of ts) l a mid) x))
simple_exact (IsSimple.bump_after {l} {ts} {rest} {a} up h p) ends d =
    let x = bump_exact {rest = rest} a (line_of ts) up (tight h (omega arith)) d in
    at_depth (omega (arith, nesting-Bump (line_of ts) a up false)) (placed (weaken h 1 (omega arith)) p (bumps up) (same_read (acts_bump d (line_of ts) l a up rest) x))
simple_exact (IsSimple.bump_before {l} {ts} {rest} {a} up h p) ends d =
    same_read (bump_begins d l up ts) (at_depth (omega (arith, nesting-Bump l a up true)) (bumped_exact l up h p ends d))
simple_exact (IsSimple.call {ts} {rest} {w} {all} h) ends d = at_depth (omega (arith, nesting-Call (line_of ts) target.None w all)) (simple_call h d)

pub simple_shorter : {ts rest : Tokens} {a : RawStatement} → IsSimple ts a rest → length rest < length ts
simple_shorter (IsSimple.assign op can h p k) = omega (arith, shorter h, shorter k)
simple_shorter (IsSimple.store_call h p k) = let x = call_shorter k in omega (arith, shorter h, x)
simple_shorter (IsSimple.store_heap h p k) = let x = heap_shorter k in omega (arith, shorter h, x)
simple_shorter (IsSimple.bump_after up h p) = omega (arith, shorter h)
simple_shorter (IsSimple.bump_before up h p) = omega (arith, shorter h)
simple_shorter (IsSimple.call h) = call_shorter h

-- ---- lists of initialisers

pub list_shorter : {ts rest : Tokens} {all : List RawExpr} → IsList ts all rest → length rest < length ts
list_shorter (IsList.last h) = omega (arith, shorter h)
list_shorter (IsList.trailing h) = omega (arith, shorter h)
list_shorter (IsList.more h k) = omega (arith, shorter h, list_shorter k)

list_goes_on : {ts rest : Tokens} {all : List RawExpr} → IsList ts all rest → sees Mark (codes "}") ts ≡ false
list_goes_on (IsList.last h) = starts_no_mark (starts h) (codes "}") refl
list_goes_on (IsList.trailing h) = starts_no_mark (starts h) (codes "}") refl
list_goes_on (IsList.more h k) = starts_no_mark (starts h) (codes "}") refl

list_from_exact : {ts rest : Tokens} {all : List RawExpr} → IsList ts all rest → (d turns : ℕ) (found : List RawExpr) → length ts ≤ turns
    → Exact d (greatest (map nesting all)) (list_from d turns found ts) (found ++ all) rest
unfolding list_from expect sees
list_from_exact (IsList.last h) d zero found p = absurd (omega (arith, p, shorter h))
list_from_exact (IsList.last {l} {rest} h) d (suc turns) found p = seq _ (expression_exact h (brace_ends l rest) d) done
list_from_exact (IsList.trailing h) d zero found p = absurd (omega (arith, p, shorter h))
list_from_exact (IsList.trailing {l} {m} {rest} h) d (suc turns) found p = seq _ (expression_exact h (comma_ends l (mark (codes "}") m ∷ rest)) d) done
list_from_exact (IsList.more h k) d zero found p = absurd (omega (arith, p, shorter h))
list_from_exact (IsList.more {l} {mid} {a} {all} h k) d (suc turns) found p =
    let short = shorter h in
    seq _ (expression_exact h (comma_ends l mid) d) (rw (list_goes_on k) (same_tree (append_assoc found (a ∷ []) all) (list_from_exact k d turns (found ++ a ∷ []) (omega (arith, p, short)))))

pub list_exact : {ts rest : Tokens} {all : List RawExpr} → IsList ts all rest → (d : ℕ) → Exact d (greatest (map nesting all)) (list d ts) all rest
list_exact {ts} h d = list_from_exact h d (length ts) [] (omega arith)

-- ---- declarations

lengths_shorter : {ts rest : Tokens} {a b : RawType} → IsLengths ts a b rest → length rest ≤ length ts
lengths_shorter (IsLengths.done h) = omega arith
lengths_shorter (IsLengths.length h k) = omega (arith, shorter h, lengths_shorter k)

outer_shorter : {ts rest : Tokens} {a b : RawType} → IsOuterLengths ts a b rest → length rest ≤ length ts
outer_shorter (IsOuterLengths.written h) = lengths_shorter h
outer_shorter (IsOuterLengths.empty h) = omega (arith, lengths_shorter h)

pub declarator_shorter : {ts rest : Tokens} {a : RawType} {v : RawVar} → IsDeclarator ts a v rest → length rest < length ts
declarator_shorter (IsDeclarator.named h free k) = let x = stars_shorter h in let y = outer_shorter k in omega (arith, x, y)

declared_with : {l n : ℕ} {ts mid rest : Tokens} {b : RawType} {v : RawVar} {a : RawStatement} (d line : ℕ) → type_nesting b ≡ 0 → IsDeclarator ts b v (mark (codes "=") l ∷ mid)
    → Exact d n (initialised d line v mid) a rest → Exact d (max (type_nesting v.shape) n) (declared d line b ts) a rest
unfolding declared sees
declared_with d line flat h x = seq _ (declarator_exact h flat d) x

declared_plain : {ts rest : Tokens} {b : RawType} {v : RawVar} (d line : ℕ) → type_nesting b ≡ 0 → IsDeclarator ts b v rest → is_listed v.shape ≡ false → sees Mark (codes "=") rest ≡ false
    → Exact d (max (type_nesting v.shape) 0) (declared d line b ts) (s.Declare line v init.None) rest
unfolding declared
declared_plain d line flat h p q = seq _ (declarator_exact h flat d) (rw (q, p) done)

initialised_list : {ts rest : Tokens} {all : List RawExpr} (m d line : ℕ) (v : RawVar) → IsList ts all rest
    → Exact d (greatest (map nesting all)) (initialised d line v (mark (codes "{") m ∷ ts)) (s.Declare line v (init.Items all)) rest
unfolding initialised sees
initialised_list m d line v h = at_depth (omega arith) (seq _ (list_exact h d) done)

initialised_value : {ts rest : Tokens} {a : RawExpr} (d line : ℕ) (v : RawVar) → IsExpr 1 ts a rest → is_listed v.shape ≡ false → Ends rest
    → Exact d (nesting a) (initialised d line v ts) (s.Declare line v (init.One a)) rest
unfolding initialised
initialised_value d line v h p ends = rw (starts_no_mark (starts h) (codes "{") refl, p, no_effect h ends.no_open) (at_depth (omega arith) (seq _ (expression_exact h ends.free d) done))

initialised_effect : {m : ℕ} {ts rest : Tokens} {a : RawStatement} (d line : ℕ) (v : RawVar) → EffectRead d m line (target.Declared v) ts a rest → is_listed v.shape ≡ false
    → Exact d m (initialised d line v ts) a rest
unfolding initialised
initialised_effect d line v x p = rw (x.no_brace, p, x.seen) x.exact

pub declared_exact : {line : ℕ} {b : RawType} {ts rest : Tokens} {a : RawStatement} → IsDeclared line b ts a rest → type_nesting b ≡ 0 → Ends rest → (d : ℕ) → Exact d (statement_nesting a) (declared d line b ts) a rest
declared_exact {line} (IsDeclared.plain {v} h p) flat ends d = at_depth (omega (arith, nesting-Declare line v init.None)) (declared_plain d line flat h p ends.no_equals)
declared_exact {line} (IsDeclared.value {v} {a} h p k) flat ends d = at_depth (omega (arith, nesting-Declare line v (init.One a))) (declared_with d line flat h (initialised_value d line v k p ends))
declared_exact {line} (IsDeclared.list {m} {v} {all} h k) flat ends d = at_depth (omega (arith, nesting-Declare line v (init.Items all))) (declared_with d line flat h (initialised_list m d line v k))
declared_exact {line} (IsDeclared.call {v} {w} {all} h p k) flat ends d =
    at_depth (omega (arith, nesting-Call line (target.Declared v) w all)) (declared_with d line flat h (initialised_effect d line v (call_effect k d line (target.Declared v)) p))
declared_exact {line} (IsDeclared.heap {v} {t} {n} h p k) flat ends d =
    at_depth (omega (arith, nesting-Heap line (target.Declared v) t n)) (declared_with d line flat h (initialised_effect d line v (heap_effect k d line (target.Declared v)) p))

pub declared_shorter : {line : ℕ} {b : RawType} {ts rest : Tokens} {a : RawStatement} → IsDeclared line b ts a rest → length rest < length ts
declared_shorter (IsDeclared.plain h p) = declarator_shorter h
declared_shorter (IsDeclared.value h p k) = let x = declarator_shorter h in omega (arith, x, shorter k)
declared_shorter (IsDeclared.list h k) = let x = declarator_shorter h in omega (arith, x, list_shorter k)
declared_shorter (IsDeclared.call h p k) = let x = declarator_shorter h in let y = call_shorter k in omega (arith, x, y)
declared_shorter (IsDeclared.heap h p k) = let x = declarator_shorter h in let y = heap_shorter k in omega (arith, x, y)

pub declaration_exact : {ts rest : Tokens} {all : List RawStatement} → IsDeclaration ts all rest → (d : ℕ) → Exact d (body_nesting all) (r.declaration d ts) all rest
unfolding r.declaration sees
declaration_exact {ts} (declaration {mid} {base = b} {all} h k) d =
    let flat = base_flat h in
    after _ (base_read h) (separated_exact (IsDeclared (line_of ts) b) (codes ";") (declared d (line_of ts) b) statement_nesting d (λ l ts. refl) (λ l ts. refl) (λ ts rest a h. declared_shorter h)
    (λ l ts rest a h. declared_exact h flat (at_semicolon l rest) d) (λ l ts rest a h. declared_exact h flat (at_comma l rest) d) k (length mid) [] (omega arith))

pub declaration_shorter : {ts rest : Tokens} {all : List RawStatement} → IsDeclaration ts all rest → length rest < length ts
declaration_shorter {ts} (declaration {base = b} h k) =
    let x = base_shorter h in
    let y = separated_shorter (IsDeclared (line_of ts) b) (codes ";") (λ ts rest a h. declared_shorter h) k in
    omega (arith, x, y)
