-- Statements of tokens are syntax, where the tokens are spelled as their kinds are, and none begins a left-out construct.
use Rattle.std.proofs.Common.{◌≡◌, ◌≤◌, ℕ, ◌+◌, ◌-◌, List, [], ◌∷◌, map, Bool, true, false, ◌&&◌, codes, Option, Some, None, refl, sym, ap, ap₂, ◌∙◌, arith, true≢false, ◌⊎◌, inl, inr}
use Rattle.std.specs.Prelude.{◌==◌, bytes_eq}
use Rattle.std.specs.List.{list_all}
use Rattle.std.proofs.lemmas.Bool.{and_parts, true_from_ne_false, and_right, and_from}
use Rattle.std.proofs.lemmas.Bool.Decides.{nat_tests}
use Rattle.c_tree.specs.declared.raw.expr.RawExpr.{RawExpr}
use Rattle.c_tree.specs.declared.raw.expr.RawType.{RawType}
use Rattle.c_tree.specs.declared.raw.expr.RawVar.{RawVar}
use Rattle.c_tree.specs.declared.raw.program.RawInit.{RawInit}
use Rattle.c_tree.specs.declared.raw.program.RawInit.TheVariants as begins
use Rattle.c_tree.specs.declared.raw.statement.RawArg.{RawArg}
use Rattle.c_tree.specs.declared.raw.statement.RawAmount.{RawAmount}
use Rattle.c_tree.specs.declared.raw.statement.RawArm.{RawArm}
use Rattle.c_tree.specs.declared.raw.statement.RawLabel.{RawLabel}
use Rattle.c_tree.specs.declared.raw.statement.RawSize.{RawSize}
use Rattle.c_tree.specs.declared.raw.statement.RawStatement.{RawStatement}
use Rattle.c_tree.specs.declared.raw.statement.RawStatement.TheOpen.{RawStatement-F}
use Rattle.c_tree.specs.declared.raw.statement.RawStatement.TheVariants as s
use Rattle.c_tree.specs.declared.raw.statement.RawTarget.TheVariants as target
use Rattle.c_tree.specs.declared.raw.statement.RawTypeName.{RawTypeName}
use Rattle.c_arith.specs.declared.operators.BinaryOp.{BinaryOp}
use Rattle.c_arith.specs.declared.operators.BinaryOp.TheVariants.{Mul, Div, Rem, Add, Sub, Shl, Shr, Less, Greater, AtMost, AtLeast, Equal, Unequal, And, Xor, Or}
use Rattle.c_language.specs.Words.{Bytes, assign_sign, bump_sign}
use Rattle.c_language.specs.Lists.{all_true}
use Rattle.c_language.specs.TokenForms.{Tokens, name, string, mark, line_of}
use Rattle.c_language.specs.Sees.{sees, sees_second}
use Rattle.c_language.specs.ExprGrammar.{IsExpr, conditional_level}
use Rattle.c_language.specs.TypeGrammar.{IsBase, structure, integer, IsTypeName, pointed, NamesType, starred, IsDeclarator, is_listed}
use Rattle.c_language.specs.StatementGrammar.{IsSeparated, IsArg, IsArgs, IsCall, bare, with_args, IsSize, of_type, of_pointee, of_bare_pointee, IsAmount, IsMalloc, IsHeap, IsSimple, IsList, trailing, IsDeclared, AreDeclared, IsDeclaration, declaration, IsInit, IsStep, IsLabel, AreLabels, IsTest, test, IsStatement, AreStatements, IsBody, IsElse, AreArms}
use Rattle.c_language.specs.LeftOut.{IsTold, early_return, other_string, open_braces, behind_semicolon, ends_function, stands_in_list, begins_format}
use Rattle.c_language.specs.Syntax.{binds, is_expr, is_declared, Extent, sized, reaches, is_there, is_assigned, is_arg, are_args, is_call, is_size, is_amount, is_heap, is_begun, Position, inner, final, first, step, takes_declaration, is_label, stands, is_arm}
use Rattle.c_language.specs.declared.token.TokenKind.TheVariants.{Mark}
use Rattle.text_syntax.proofs.CalmTokens.{is_calm, AreCalm, done, more, calm_braces, calm_behind, expr_calm, int_calm, calm_then}
use Rattle.text_syntax.proofs.Spelled.{spelled, AreSpelled}
use Rattle.text_syntax.proofs.Forms.{stands_by, are_inner, arm_by, inner_append}
use Rattle.text_syntax.proofs.Exprs.{own_name, expr_is, list_is, base_is, stars_calm, outer_calm, named_is, MayDeclare, declarator_is}

-- no token begins a left-out construct, where these stand before them, and each is spelled as its kind is
abbrev pub AreSound : Tokens → Tokens → Type 0
AreSound before [] = Unit {0}
AreSound before (t ∷ ts) = (IsTold before t ts → ⊥) × AreSound (t ∷ before) ts × (spelled t.kind t.text ≡ true)

pub are_spelled : (before ts : Tokens) → AreSound before ts → AreSpelled ts
are_spelled before [] h = tt
are_spelled before (t ∷ ts) h = (h.2, are_spelled (t ∷ before) ts h.1)

-- the type in front of declarators
abbrev pub IsBaseType : RawType → Type 0
IsBaseType base = (x : Extent) → reaches base x ≡ true

-- ---- going on behind some tokens

-- the tokens behind, at the same depth of braces
pub record Went (before rest : Tokens) : Type 0 where
  pub after : Tokens
  pub level : open_braces after ≡ open_braces before
  pub sound : AreSound after rest

pub record Goes (ts rest : Tokens) : Type 0 where
  pub go : (before : Tokens) → AreSound before ts → Went before rest

pub goes_then : {ts mid rest : Tokens} → Goes ts mid → Goes mid rest → Goes ts rest
goes_then g k = record {
  go = λ before h.
      let a = g.go before h in
      let b = k.go a.after a.sound in
      record { after = b.after; level = b.level ∙ a.level; sound = b.sound };
}

calm_went : {ts rest : Tokens} → AreCalm ts rest → (before : Tokens) → AreSound before ts → Went before rest
calm_went done before h = record { after = before; level = refl; sound = h }
calm_went (more {t} c k) before h =
    let a = calm_went k (t ∷ before) h.1 in
    record { after = a.after; level = a.level ∙ calm_braces t before c; sound = a.sound }

pub goes_calm : {ts rest : Tokens} → AreCalm ts rest → Goes ts rest
goes_calm c = record { go = calm_went c }

pub name_level : (w : Bytes) (l : ℕ) (before : Tokens) → open_braces (name w l ∷ before) ≡ open_braces before
unfolding open_braces
name_level w l before = refl

pub string_level : (w : Bytes) (l : ℕ) (before : Tokens) → open_braces (string w l ∷ before) ≡ open_braces before
unfolding open_braces
string_level w l before = refl

pub end_level : (l : ℕ) (before : Tokens) → open_braces (mark (codes ";") l ∷ before) ≡ open_braces before
unfolding open_braces
end_level l before = refl

pub opens_level : (l : ℕ) (before : Tokens) → open_braces (mark (codes "{") l ∷ before) ≡ open_braces before + 1
unfolding open_braces
opens_level l before = refl

pub closes_level : (l : ℕ) (before : Tokens) → open_braces (mark (codes "}") l ∷ before) ≡ open_braces before - 1
unfolding open_braces
closes_level l before = refl

pub goes_name : {w : Bytes} {l : ℕ} {rest : Tokens} → Goes (name w l ∷ rest) rest
goes_name {w} {l} = record { go = λ before h. record { after = name w l ∷ before; level = name_level w l before; sound = h.1 } }

pub goes_end : {l : ℕ} {rest : Tokens} → Goes (mark (codes ";") l ∷ rest) rest
goes_end {l} = record { go = λ before h. record { after = mark (codes ";") l ∷ before; level = end_level l before; sound = h.1 } }

-- ---- types and declarators

pub base_goes : {ts rest : Tokens} {a : RawType} → IsBase ts a rest → Goes ts rest
base_goes (structure h) = goes_then goes_name goes_name
base_goes (integer h) = goes_calm (int_calm h)

pub type_goes : {ts rest : Tokens} {a : RawType} → IsTypeName ts a rest → Goes ts rest
type_goes (pointed h k) = goes_then (base_goes h) (goes_calm (stars_calm k))

named_goes : {ts rest : Tokens} {t : RawTypeName} → NamesType ts t rest → Goes ts rest
named_goes (starred h k) = goes_then (base_goes h) (goes_calm (stars_calm k))

pub declarator_goes : {ts rest : Tokens} {base : RawType} {v : RawVar} → IsDeclarator ts base v rest → Goes ts rest
declarator_goes (IsDeclarator.named h k j) = goes_then (goes_calm (stars_calm h)) (goes_then goes_name (goes_calm (outer_calm j)))

-- ---- calls

abbrev HasArgs : Bytes → List RawArg → Tokens → Tokens → Type 0
HasArgs f args before rest = (are_args f args ≡ true) × Went before rest

lacks_here : (before : Tokens) (l : ℕ) → begins_format (mark (codes ",") l ∷ before) ≡ false
unfolding begins_format sees
lacks_here before l = refl

expr_there : {n : ℕ} {ts rest : Tokens} {a : RawExpr} (before : Tokens) → IsExpr n ts a rest → AreSound before ts → binds a n ≡ true
expr_there before e h = expr_is e (are_spelled before _ h)

-- arguments behind a comma
later_args : {ts rest : Tokens} {all : List RawArg} {l : ℕ} → IsArgs ts all rest → (before : Tokens) → AreSound (mark (codes ",") l ∷ before) ts → (list_all (is_arg false) all ≡ true) × Went (mark (codes ",") l ∷ before) rest
later_args {l = l} (IsSeparated.last (IsArg.value e)) before h =
    (and_from _ _ (expr_there (mark (codes ",") l ∷ before) e h) refl, (goes_then (goes_calm (expr_calm e)) (goes_calm (more refl done))).go (mark (codes ",") l ∷ before) h)
later_args {l = l} (IsSeparated.last IsArg.literal) before h = absurd (h.0 (other_string (lacks_here before l)))
later_args {l = l} (IsSeparated.more {l = k} (IsArg.value e) j) before h =
    let a = calm_went (expr_calm e) (mark (codes ",") l ∷ before) h in
    let b = later_args {l = k} j a.after a.sound.1 in
    (and_from _ _ (expr_there (mark (codes ",") l ∷ before) e h) b.0, record { after = b.1.after; level = b.1.level ∙ calm_braces (mark (codes ",") k) a.after refl ∙ a.level; sound = b.1.sound })
later_args {l = l} (IsSeparated.more IsArg.literal j) before h = absurd (h.0 (other_string (lacks_here before l)))

pub format_name : (f : Bytes) (l m : ℕ) (before : Tokens) → begins_format (mark (codes "(") m ∷ name f l ∷ before) ≡ bytes_eq f (codes "printf")
unfolding begins_format sees sees_second
format_name f l m before = refl

first_args : {ts rest : Tokens} {all : List RawArg} (f : Bytes) (l m : ℕ) → IsArgs ts all rest → (before : Tokens) → AreSound (mark (codes "(") m ∷ name f l ∷ before) ts → HasArgs f all (mark (codes "(") m ∷ name f l ∷ before) rest
first_args f l m (IsSeparated.last (IsArg.value e)) before h =
    (and_from _ _ (expr_there (mark (codes "(") m ∷ name f l ∷ before) e h) refl, (goes_then (goes_calm (expr_calm e)) (goes_calm (more refl done))).go (mark (codes "(") m ∷ name f l ∷ before) h)
first_args f l m (IsSeparated.last (IsArg.literal {l = k} {text})) before h =
    let is = true_from_ne_false (bytes_eq f (codes "printf")) (λ no. h.0 (other_string (format_name f l m before ∙ no))) in
    (and_from _ _ (and_from _ _ is h.2) refl, record { after = _; level = calm_braces (mark (codes ")") _) _ refl ∙ string_level text k _; sound = h.1.1 })
first_args f l m (IsSeparated.more {l = k} (IsArg.value e) j) before h =
    let a = calm_went (expr_calm e) (mark (codes "(") m ∷ name f l ∷ before) h in
    let b = later_args {l = k} j a.after a.sound.1 in
    (and_from _ _ (expr_there (mark (codes "(") m ∷ name f l ∷ before) e h) b.0, record { after = b.1.after; level = b.1.level ∙ calm_braces (mark (codes ",") k) a.after refl ∙ a.level; sound = b.1.sound })
first_args f l m (IsSeparated.more {l = k} {all = all} (IsArg.literal {l = i} {text}) j) before h =
    let is = true_from_ne_false (bytes_eq f (codes "printf")) (λ no. h.0 (other_string (format_name f l m before ∙ no))) in
    let b = later_args {l = k} j (string text i ∷ mark (codes "(") m ∷ name f l ∷ before) h.1.1 in
    (and_from _ _ (and_from _ _ is h.2) b.0, record { after = b.1.after; level = b.1.level ∙ calm_braces (mark (codes ",") k) (string text i ∷ mark (codes "(") m ∷ name f l ∷ before) refl ∙ string_level text i _; sound = b.1.sound })

pub call_goes : {ts rest : Tokens} {w : Bytes} {all : List RawArg} → IsCall ts w all rest → (before : Tokens) → AreSound before ts → (is_call w all ≡ true) × Went before rest
call_goes (bare {l} {w = w} c) before h = (and_from _ _ h.2 (and_from _ _ c refl), (goes_then goes_name (goes_calm (more refl (more refl done)))).go before h)
call_goes (with_args {l} {m} {w = w} c k) before h =
    let a = first_args w l m k before h.1.1 in
    (and_from _ _ h.2 (and_from _ _ c a.0), record { after = a.1.after; level = a.1.level ∙ calm_braces (mark (codes "(") m) (name w l ∷ before) refl ∙ name_level w l before; sound = a.1.sound })

size_goes : {ts rest : Tokens} {z : RawSize} → IsSize ts z rest → Goes ts rest
size_goes (of_type h) = goes_then goes_name (goes_then (goes_calm (more refl done)) (goes_then (named_goes h) (goes_calm (more refl done))))
size_goes (of_pointee k) = goes_then goes_name (goes_then (goes_calm (more refl (more refl done))) (goes_then goes_name (goes_calm (more refl done))))
size_goes (of_bare_pointee k) = goes_then goes_name (goes_then (goes_calm (more refl done)) goes_name)

size_is : {ts rest : Tokens} {z : RawSize} → IsSize ts z rest → AreSpelled ts → is_size z ≡ true
size_is (of_type h) w = named_is h w.1.1
size_is (of_pointee {w = x} k) w = own_name x w.1.1.1.0 k
size_is (of_bare_pointee {w = x} k) w = own_name x w.1.1.0 k

-- what is behind tokens that some goes along
pub rest_spelled : {ts rest : Tokens} → Goes ts rest → (before : Tokens) → AreSound before ts → AreSpelled rest
rest_spelled g before h = let a = g.go before h in are_spelled a.after _ a.sound

amount_goes : {ts rest : Tokens} {n : RawAmount} → IsAmount ts n rest → Goes ts rest
amount_goes (IsAmount.one h) = size_goes h
amount_goes (IsAmount.counted h k) = goes_then (goes_calm (expr_calm h)) (goes_then (goes_calm (more refl done)) (size_goes k))
amount_goes (IsAmount.multiplied h k) = goes_then (size_goes h) (goes_then (goes_calm (more refl done)) (goes_calm (expr_calm k)))
amount_goes (IsAmount.bytes h) = goes_calm (expr_calm h)

amount_is : {ts rest : Tokens} {n : RawAmount} → IsAmount ts n rest → (before : Tokens) → AreSound before ts → is_amount n ≡ true
amount_is (IsAmount.one k) before h = size_is k (are_spelled before _ h)
amount_is (IsAmount.counted k j) before h = and_from _ _ (expr_there before k h) (size_is j (rest_spelled (goes_calm (expr_calm k)) before h).1)
amount_is (IsAmount.multiplied k j) before h = and_from _ _ (size_is k (are_spelled before _ h)) (expr_is j (rest_spelled (size_goes k) before h).1)
amount_is (IsAmount.bytes k) before h = expr_there before k h

malloc_goes : {ts rest : Tokens} {n : RawAmount} → IsMalloc ts n rest → Goes ts rest
malloc_goes (IsMalloc.malloc h) = goes_then goes_name (goes_then (goes_calm (more refl done)) (goes_then (amount_goes h) (goes_calm (more refl done))))

malloc_is : {ts rest : Tokens} {n : RawAmount} → IsMalloc ts n rest → (before : Tokens) → AreSound before ts → is_amount n ≡ true
malloc_is (IsMalloc.malloc k) before h = amount_is k _ h.1.1

pub heap_goes : {ts rest : Tokens} {t : Option RawTypeName} {n : RawAmount} → IsHeap ts t n rest → (before : Tokens) → AreSound before ts → (is_heap t n ≡ true) × Went before rest
heap_goes (IsHeap.uncast k) before h = (malloc_is k before h, (malloc_goes k).go before h)
heap_goes (IsHeap.cast {l} k p j) before h =
    let a = (goes_then (named_goes k) (goes_calm (more refl done))).go (mark (codes "(") l ∷ before) h.1 in
    let b = (malloc_goes j).go a.after a.sound in (
      and_from _ _ (and_from _ _ (named_is k (are_spelled (mark (codes "(") l ∷ before) _ h.1)) p) (malloc_is j a.after a.sound),
      record { after = b.after; level = b.level ∙ a.level ∙ calm_braces (mark (codes "(") l) before refl; sound = b.sound },
    )

-- ---- simple statements and declarations

pub assign_calm : (op : Option BinaryOp) (l : ℕ) → is_calm (mark (assign_sign op) l) ≡ true
assign_calm None l = refl
assign_calm (Some Mul) l = refl
assign_calm (Some Div) l = refl
assign_calm (Some Rem) l = refl
assign_calm (Some Add) l = refl
assign_calm (Some Sub) l = refl
assign_calm (Some Shl) l = refl
assign_calm (Some Shr) l = refl
assign_calm (Some Less) l = refl
assign_calm (Some Greater) l = refl
assign_calm (Some AtMost) l = refl
assign_calm (Some AtLeast) l = refl
assign_calm (Some Equal) l = refl
assign_calm (Some Unequal) l = refl
assign_calm (Some And) l = refl
assign_calm (Some Xor) l = refl
assign_calm (Some Or) l = refl

assign_goes : {rest : Tokens} (op : Option BinaryOp) (l : ℕ) → Goes (mark (assign_sign op) l ∷ rest) rest
assign_goes op l = goes_calm (more (assign_calm op l) done)

pub bump_calm : (up : Bool) (l : ℕ) → is_calm (mark (bump_sign up) l) ≡ true
bump_calm true l = refl
bump_calm false l = refl

bump_goes : {rest : Tokens} (up : Bool) (l : ℕ) → Goes (mark (bump_sign up) l ∷ rest) rest
bump_goes up l = goes_calm (more (bump_calm up l) done)

pub went_then : {before mid rest : Tokens} (a : Went before mid) → Goes mid rest → Went before rest
went_then a k = let b = k.go a.after a.sound in record { after = b.after; level = b.level ∙ a.level; sound = b.sound }

pub went_behind : {before middle rest : Tokens} → open_braces middle ≡ open_braces before → Went middle rest → Went before rest
went_behind e a = record { after = a.after; level = a.level ∙ e; sound = a.sound }

-- the statement may stand anywhere
abbrev Anywhere : RawStatement → Type 0
Anywhere a = (p : Position) → stands a p ≡ true

-- and where a declaration may
abbrev Declares : RawStatement → Type 0
Declares a = (p : Position) → takes_declaration p ≡ true → stands a p ≡ true

stored_call : (l : ℕ) (a : RawExpr) (w : Bytes) (all : List RawArg) → is_assigned a ≡ true → is_call w all ≡ true → Anywhere (s.Call l (target.Place a) w all)
stored_call l a w all h k = λ p. stands_by p (RawStatement-F.Call l (target.Place a) w all) (s.rolls-Call l (target.Place a) w all) (and_from _ _ h k)

declared_call : (l : ℕ) (v : RawVar) (w : Bytes) (all : List RawArg) → is_declared v sized ≡ true → is_call w all ≡ true → Declares (s.Call l (target.Declared v) w all)
declared_call l v w all h k = λ p t. stands_by p (RawStatement-F.Call l (target.Declared v) w all) (s.rolls-Call l (target.Declared v) w all) (and_from _ _ (and_from _ _ t h) k)

bare_call : (l : ℕ) (w : Bytes) (all : List RawArg) → is_call w all ≡ true → Anywhere (s.Call l target.None w all)
bare_call l w all k = λ p. stands_by p (RawStatement-F.Call l target.None w all) (s.rolls-Call l target.None w all) k

stored_heap : (l : ℕ) (a : RawExpr) (t : Option RawTypeName) (n : RawAmount) → is_assigned a ≡ true → is_heap t n ≡ true → Anywhere (s.Heap l (target.Place a) t n)
stored_heap l a t n h k = λ p. stands_by p (RawStatement-F.Heap l (target.Place a) t n) (s.rolls-Heap l (target.Place a) t n) (and_from _ _ h k)

declared_heap : (l : ℕ) (v : RawVar) (t : Option RawTypeName) (n : RawAmount) → is_declared v sized ≡ true → is_heap t n ≡ true → Declares (s.Heap l (target.Declared v) t n)
declared_heap l v t n h k = λ p c. stands_by p (RawStatement-F.Heap l (target.Declared v) t n) (s.rolls-Heap l (target.Declared v) t n) (and_from _ _ (and_from _ _ c h) k)

begun : (l : ℕ) (v : RawVar) (i : RawInit) → is_begun v i ≡ true → Declares (s.Declare l v i)
begun l v i h = λ p t. stands_by p (RawStatement-F.Declare l v i) (s.rolls-Declare l v i) (and_from _ _ t h)

simple_goes : {ts rest : Tokens} {a : RawStatement} → IsSimple ts a rest → (before : Tokens) → AreSound before ts → Anywhere a × Went before rest
simple_goes (IsSimple.assign {l} {ts} {a} {b} op c e q k) before h =
    let x = (goes_then (goes_calm (expr_calm e)) (assign_goes op l)).go before h in (
      λ p. stands_by p (RawStatement-F.Assign (line_of ts) a op b) (s.rolls-Assign (line_of ts) a op b) (and_from _ _ (and_from _ _ q (expr_there before e h)) (and_from _ _ c (expr_there x.after k x.sound))),
      went_then x (goes_calm (expr_calm k)),
    )
simple_goes (IsSimple.store_call {ts} {a} {w = w} {all} e q k) before h =
    let x = (goes_then (goes_calm (expr_calm e)) (goes_calm (more refl done))).go before h in
    let y = call_goes k x.after x.sound in
    (stored_call (line_of ts) a w all (and_from _ _ q (expr_there before e h)) y.0, went_behind x.level y.1)
simple_goes (IsSimple.store_heap {ts} {a} {t} {n} e q k) before h =
    let x = (goes_then (goes_calm (expr_calm e)) (goes_calm (more refl done))).go before h in
    let y = heap_goes k x.after x.sound in
    (stored_heap (line_of ts) a t n (and_from _ _ q (expr_there before e h)) y.0, went_behind x.level y.1)
simple_goes (IsSimple.bump_after {l} {ts} {a} up e q) before h = (
  λ p. stands_by p (RawStatement-F.Bump (line_of ts) a up false) (s.rolls-Bump (line_of ts) a up false) (and_from _ _ q (expr_there before e h)),
  (goes_then (goes_calm (expr_calm e)) (bump_goes up l)).go before h,
)
simple_goes (IsSimple.bump_before {l} {a} up e q) before h =
    let x = (bump_goes up l).go before h in (
      λ p. stands_by p (RawStatement-F.Bump l a up true) (s.rolls-Bump l a up true) (and_from _ _ q (expr_there x.after e x.sound)),
      went_then x (goes_calm (expr_calm e)),
    )
simple_goes (IsSimple.call {ts} {w = w} {all} k) before h = let y = call_goes k before h in (bare_call (line_of ts) w all y.0, y.1)

-- a list of initialisers up to its brace, which is opened before it
list_goes : {ts rest : Tokens} {all : List RawExpr} → IsList ts all rest → (before : Tokens) → AreSound before ts → (after : Tokens) × (open_braces after ≡ open_braces before - 1) × AreSound after rest
list_goes (IsList.last {l} e) before h =
    let a = calm_went (expr_calm e) before h in
    (mark (codes "}") l ∷ a.after, closes_level l a.after ∙ ap (λ (n : ℕ). n - 1) a.level, a.sound.1)
list_goes (trailing {m} e) before h =
    let a = calm_went (calm_then (expr_calm e) (more refl done)) before h in
    (mark (codes "}") m ∷ a.after, closes_level m a.after ∙ ap (λ (n : ℕ). n - 1) a.level, a.sound.1)
list_goes (IsList.more e k) before h =
    let a = calm_went (calm_then (expr_calm e) (more refl done)) before h in
    let b = list_goes k a.after a.sound in
    (b.0, b.1 ∙ ap (λ (n : ℕ). n - 1) a.level, b.2)

pub back_level : (n : ℕ) → (n + 1) - 1 ≡ n
back_level n = omega arith

-- `= {`, and a list
pub list_init_goes : {l m : ℕ} {mid rest : Tokens} {all : List RawExpr} → IsList mid all rest → Goes (mark (codes "=") l ∷ mark (codes "{") m ∷ mid) rest
list_init_goes {l} {m} k = record {
  go = λ before h.
      let open_one = opens_level m (mark (codes "=") l ∷ before) ∙ ap (λ (n : ℕ). n + 1) (calm_braces (mark (codes "=") l) before refl) in
      let b = list_goes k (mark (codes "{") m ∷ mark (codes "=") l ∷ before) h.1.1 in
      record { after = b.0; level = b.1 ∙ ap (λ (n : ℕ). n - 1) open_one ∙ back_level (open_braces before); sound = b.2 };
}

-- a declarator of a base that is syntax
pub variable_goes : {base : RawType} {ts rest : Tokens} {v : RawVar} → IsDeclarator ts base v rest → IsBaseType base → (before : Tokens) → AreSound before ts → MayDeclare v × Went before rest
variable_goes d k before h = (declarator_is d (are_spelled before _ h) k, (declarator_goes d).go before h)

pub begun_value : {l : ℕ} {base : RawType} {ts mid rest : Tokens} {v : RawVar} {a : RawExpr} → IsDeclarator ts base v (mark (codes "=") l ∷ mid) → is_listed v.shape ≡ false → IsExpr conditional_level mid a rest
    → IsBaseType base → (before : Tokens) → AreSound before ts → (is_begun v (begins.One a) ≡ true) × Went before rest
begun_value d q e k before h =
    let x = variable_goes d k before h in
    let y = went_then x.1 (goes_calm (more refl done)) in
    (and_from _ _ (x.0.not_listed q) (expr_there y.after e y.sound), went_then y (goes_calm (expr_calm e)))

pub begun_list : {l m : ℕ} {base : RawType} {ts mid rest : Tokens} {v : RawVar} {all : List RawExpr} → IsDeclarator ts base v (mark (codes "=") l ∷ mark (codes "{") m ∷ mid) → IsList mid all rest
    → IsBaseType base → (before : Tokens) → AreSound before ts → (is_begun v (begins.Items all) ≡ true) × Went before rest
begun_list {l} {m} {mid = mid} d j k before h =
    let x = variable_goes d k before h in
    let y = list_is j (are_spelled x.1.after (mark (codes "=") l ∷ mark (codes "{") m ∷ mid) x.1.sound).1.1 in
    (and_from _ _ x.0.may (and_from _ _ y.0 y.1), went_then x.1 (list_init_goes j))

declared_goes : {line : ℕ} {base : RawType} {ts rest : Tokens} {a : RawStatement} → IsDeclared line base ts a rest → IsBaseType base → (before : Tokens) → AreSound before ts → Declares a × Went before rest
declared_goes {line} (IsDeclared.plain {v} d q) k before h = let x = variable_goes d k before h in (begun line v begins.None (x.0.not_listed q), x.1)
declared_goes {line} (IsDeclared.value {v} {a} d q e) k before h = let x = begun_value d q e k before h in (begun line v (begins.One a) x.0, x.1)
declared_goes {line} (IsDeclared.list {v} {all} d j) k before h = let x = begun_list d j k before h in (begun line v (begins.Items all) x.0, x.1)
declared_goes {line} (IsDeclared.call {v} {w} {all} d q j) k before h =
    let x = variable_goes d k before h in
    let y = went_then x.1 (goes_calm (more refl done)) in
    let z = call_goes j y.after y.sound in
    (declared_call line v w all (x.0.not_listed q) z.0, went_behind y.level z.1)
declared_goes {line} (IsDeclared.heap {v} {t} {n} d q j) k before h =
    let x = variable_goes d k before h in
    let y = went_then x.1 (goes_calm (more refl done)) in
    let z = heap_goes j y.after y.sound in
    (declared_heap line v t n (x.0.not_listed q) z.0, went_behind y.level z.1)

-- what stands behind a statement of a list, which ends in a semicolon or a brace
pub record Stood (before rest : Tokens) : Type 0 where
  pub after : Tokens
  pub level : open_braces after ≡ open_braces before
  pub stands : stands_in_list after ≡ true
  pub sound : AreSound after rest

pub stands_end : (l : ℕ) (before : Tokens) → stands_in_list (mark (codes ";") l ∷ before) ≡ true
unfolding stands_in_list sees
stands_end l before = refl

pub stands_opened : (l : ℕ) (before : Tokens) → stands_in_list (mark (codes "{") l ∷ before) ≡ true
unfolding stands_in_list sees
stands_opened l before = refl

pub stands_closed : (l : ℕ) (before : Tokens) → stands_in_list (mark (codes "}") l ∷ before) ≡ true
unfolding stands_in_list sees
stands_closed l before = refl

stood : {l : ℕ} {before rest : Tokens} → Went before (mark (codes ";") l ∷ rest) → Stood before rest
stood {l} a = record { after = mark (codes ";") l ∷ a.after; level = end_level l a.after ∙ a.level; stands = stands_end l a.after; sound = a.sound.1 }

stood_then : {before mid rest : Tokens} (a : Went before mid) → Stood a.after rest → Stood before rest
stood_then a b = record { after = b.after; level = b.level ∙ a.level; stands = b.stands; sound = b.sound }

declared_all_go : {line : ℕ} {base : RawType} {ts rest : Tokens} {all : List RawStatement} → AreDeclared line base ts all rest → IsBaseType base → (before : Tokens) → AreSound before ts → (are_inner all ≡ true) × Stood before rest
declared_all_go (IsSeparated.last d) k before h = let a = declared_goes d k before h in (and_from _ _ (a.0 inner refl) refl, stood a.1)
declared_all_go (IsSeparated.more d j) k before h =
    let a = declared_goes d k before h in
    let b = calm_went (more refl done) a.1.after a.1.sound in
    let c = declared_all_go j k b.after b.sound in
    (and_from _ _ (a.0 inner refl) c.0, record { after = c.1.after; level = c.1.level ∙ b.level ∙ a.1.level; stands = c.1.stands; sound = c.1.sound })

pub declaration_goes : {ts rest : Tokens} {all : List RawStatement} → IsDeclaration ts all rest → (before : Tokens) → AreSound before ts → (are_inner all ≡ true) × Stood before rest
declaration_goes (declaration b k) before h =
    let a = (base_goes b).go before h in
    let c = declared_all_go k (base_is b (are_spelled before _ h)) a.after a.sound in
    (c.0, stood_then a c.1)

-- ---- statements

-- some brace is open, and two are
abbrev pub Inside : Tokens → Type 0
Inside before = 1 ≤ open_braces before

abbrev pub Deeper : Tokens → Type 0
Deeper before = 2 ≤ open_braces before

-- a statement here may be the last of its function
abbrev pub is_top : Tokens → Bool
is_top before = (open_braces before == 1) && stands_in_list before

far_one : (n : ℕ) → 2 ≤ n → (n == 1) ≡ false
far_one n h = grind (arith, nat_tests)

deeper_top : (before : Tokens) → Deeper before → is_top before ≡ false
deeper_top before h = ap (λ (b : Bool). b && stands_in_list before) (far_one (open_braces before) h)

-- it is the last statement of its function, which is a return
pub record Returned (a : RawStatement) (before rest : Tokens) : Type 0 where
  pub ends : stands a final ≡ true
  pub top : is_top before ≡ true
  pub closes : sees Mark (codes "}") rest ≡ true

abbrev pub Gone : RawStatement → Tokens → Tokens → Type 0
Gone a before rest = Stood before rest × ((stands a inner ≡ true) ⊎ Returned a before rest)

gone_inner : {a : RawStatement} {before rest : Tokens} → is_top before ≡ false → Gone a before rest → stands a inner ≡ true
gone_inner h (s, inl f) = f
gone_inner h (s, inr r) = absurd (true≢false (sym r.top ∙ h))

ends_parts : (before behind rest : Tokens) → behind_semicolon behind ≡ rest → ends_function before behind ≡ true → (is_top before ≡ true) × (sees Mark (codes "}") rest ≡ true)
unfolding ends_function
ends_parts before behind rest is h =
    let a = and_parts (open_braces before == 1) _ h in
    let b = and_parts (stands_in_list before) _ a.1 in
    (ap₂ (λ (x y : Bool). x && y) a.0 b.0, ap (sees Mark (codes "}")) (sym is) ∙ b.1)

pub end_behind : (l : ℕ) (rest : Tokens) → behind_semicolon (mark (codes ";") l ∷ rest) ≡ rest
unfolding behind_semicolon
end_behind l rest = refl

no_stand_mark : (l : ℕ) (before : Tokens) → stands_in_list (mark (codes ")") l ∷ before) ≡ false
unfolding stands_in_list sees
no_stand_mark l before = refl

no_stand_name : (w : Bytes) (l : ℕ) (before : Tokens) → stands_in_list (name w l ∷ before) ≡ false
unfolding stands_in_list sees
no_stand_name w l before = refl

-- what stands behind a head, which is no place for a statement of a list
record Headed (before rest : Tokens) : Type 0 where
  after : Tokens
  level : open_braces after ≡ open_braces before
  no_list : stands_in_list after ≡ false
  sound : AreSound after rest

test_goes : {ts rest : Tokens} {e : RawExpr} → IsTest ts e rest → (before : Tokens) → AreSound before ts → (is_expr e ≡ true) × Headed before rest
test_goes (test {l} {m} e) before h =
    let a = calm_went (expr_calm e) (mark (codes "(") l ∷ before) h.1 in (
      expr_there (mark (codes "(") l ∷ before) e h.1,
      record { after = mark (codes ")") m ∷ a.after; level = calm_braces (mark (codes ")") m) a.after refl ∙ a.level ∙ calm_braces (mark (codes "(") l) before refl; no_list = no_stand_mark m a.after; sound = a.sound.1 },
    )

headed_name : {w : Bytes} {l : ℕ} {before rest : Tokens} → Headed (name w l ∷ before) rest → Headed before rest
headed_name {w} {l} {before} a = record { after = a.after; level = a.level ∙ name_level w l before; no_list = a.no_list; sound = a.sound }

stood_behind : {before middle rest : Tokens} → open_braces middle ≡ open_braces before → Stood middle rest → Stood before rest
stood_behind e a = record { after = a.after; level = a.level ∙ e; stands = a.stands; sound = a.sound }

-- a part of a for, which may lack
abbrev part_stands : Position → Option RawStatement → Bool
part_stands p None = true
part_stands p (Some x) = stands x p

init_goes : {ts rest : Tokens} {a : Option RawStatement} → IsInit ts a rest → (before : Tokens) → AreSound before ts → (part_stands first a ≡ true) × Went before rest
init_goes IsInit.nothing before h = (refl, goes_end.go before h)
init_goes (IsInit.simple k) before h = let a = simple_goes k before h in (a.0 first, went_then a.1 goes_end)
init_goes (IsInit.declared b k) before h =
    let a = (base_goes b).go before h in
    let c = declared_goes k (base_is b (are_spelled before _ h)) a.after a.sound in
    (c.0 first refl, went_behind a.level (went_then c.1 goes_end))

step_goes : {ts rest : Tokens} {a : Option RawStatement} → IsStep ts a rest → (before : Tokens) → AreSound before ts → (part_stands step a ≡ true) × Headed before rest
step_goes (IsStep.nothing {l}) before h = (refl, record { after = mark (codes ")") l ∷ before; level = calm_braces (mark (codes ")") l) before refl; no_list = no_stand_mark l before; sound = h.1 })
step_goes (IsStep.simple {l} k) before h =
    let a = simple_goes k before h in
    (a.0 step, record { after = mark (codes ")") l ∷ a.1.after; level = calm_braces (mark (codes ")") l) a.1.after refl ∙ a.1.level; no_list = no_stand_mark l a.1.after; sound = a.1.sound.1 })

stands-For : (l : ℕ) (i : Option RawStatement) (e : RawExpr) (k : Option RawStatement) (b : List RawStatement)
    → part_stands first i ≡ true → is_expr e ≡ true → part_stands step k ≡ true → are_inner b ≡ true → stands (s.For l i e k b) inner ≡ true
stands-For l None e None b h t j g = stands_by inner (RawStatement-F.For l None e None b) (s.rolls-For l None e None b) (and_from _ _ t g)
stands-For l None e (Some x) b h t j g = stands_by inner (RawStatement-F.For l None e (Some x) b) (s.rolls-For l None e (Some x) b) (and_from _ _ t (and_from _ _ j g))
stands-For l (Some i) e None b h t j g = stands_by inner (RawStatement-F.For l (Some i) e None b) (s.rolls-For l (Some i) e None b) (and_from _ _ h (and_from _ _ t g))
stands-For l (Some i) e (Some x) b h t j g = stands_by inner (RawStatement-F.For l (Some i) e (Some x) b) (s.rolls-For l (Some i) e (Some x) b) (and_from _ _ h (and_from _ _ t (and_from _ _ j g)))

label_goes : {ts rest : Tokens} {a : RawLabel} → IsLabel ts a rest → Goes ts rest
label_goes (IsLabel.case e) = goes_then goes_name (goes_calm (calm_then (expr_calm e) (more refl done)))
label_goes IsLabel.default = goes_then goes_name (goes_calm (more refl done))

label_is : {ts rest : Tokens} {a : RawLabel} → IsLabel ts a rest → AreSpelled ts → is_label a ≡ true
label_is (IsLabel.case e) w = expr_is e w.1
label_is IsLabel.default w = refl

labels_go : {ts rest : Tokens} {all : List RawLabel} → AreLabels ts all rest → (before : Tokens) → AreSound before ts → (is_there all ≡ true) × (list_all is_label all ≡ true) × Went before rest
labels_go (AreLabels.last k) before h = (refl, and_from _ _ (label_is k (are_spelled before _ h)) refl, (label_goes k).go before h)
labels_go (AreLabels.more k j) before h =
    let a = (label_goes k).go before h in
    let b = labels_go j a.after a.sound in
    (refl, and_from _ _ (label_is k (are_spelled before _ h)) b.1, went_behind a.level b.2)

-- behind a closing brace
record Closed (before rest : Tokens) : Type 0 where
  after : Tokens
  level : open_braces after ≡ open_braces before - 1
  stands : stands_in_list after ≡ true
  sound : AreSound after rest

closed : {l : ℕ} {before rest : Tokens} → Went before (mark (codes "}") l ∷ rest) → Closed before rest
closed {l} a = record { after = mark (codes "}") l ∷ a.after; level = closes_level l a.after ∙ ap (λ (n : ℕ). n - 1) a.level; stands = stands_closed l a.after; sound = a.sound.1 }

-- a brace that is opened and closed
stood_closed : {l : ℕ} {before rest : Tokens} → Closed (mark (codes "{") l ∷ before) rest → Stood before rest
stood_closed {l} {before} a = record { after = a.after; level = a.level ∙ ap (λ (n : ℕ). n - 1) (opens_level l before) ∙ back_level (open_braces before); stands = a.stands; sound = a.sound }

deeper_opened : (l : ℕ) (before : Tokens) → Inside before → Deeper (mark (codes "{") l ∷ before)
deeper_opened l before h = let e = opens_level l before in omega (arith, e, h)

pub inside_at : {m n : ℕ} → n ≡ m → 1 ≤ m → 1 ≤ n
inside_at e h = omega (arith, e, h)

pub deeper_at : {m n : ℕ} → n ≡ m → 2 ≤ m → 2 ≤ n
deeper_at e h = omega (arith, e, h)

mutual
  pub statement_goes : {ts rest : Tokens} {a : RawStatement} → IsStatement ts a rest → (before : Tokens) → AreSound before ts → Inside before → Gone a before rest
  statement_goes (IsStatement.simple k) before h i = let a = simple_goes k before h in (stood a.1, inl (a.0 inner))
  statement_goes (IsStatement.returns {l} {m} {rest}) before h i =
      let e = ends_parts before (mark (codes ";") m ∷ rest) rest (end_behind m rest) (true_from_ne_false (ends_function before (mark (codes ";") m ∷ rest)) (λ no. h.0 (early_return no))) in
      (stood (goes_name.go before h), inr (record { ends = stands_by final (RawStatement-F.Return l None) (s.rolls-Return l None) refl; top = e.0; closes = e.1 }))
  statement_goes (IsStatement.returns_value {l} {m} {ts} {rest} {a = a} k) before h i =
      let e = ends_parts before ts rest (calm_behind (expr_calm k) ∙ end_behind m rest) (true_from_ne_false (ends_function before ts) (λ no. h.0 (early_return no))) in
      (stood ((goes_then goes_name (goes_calm (expr_calm k))).go before h), inr (record { ends = stands_by final (RawStatement-F.Return l (Some a)) (s.rolls-Return l (Some a)) (expr_there (name (codes "return") l ∷ before) k h.1); top = e.0; closes = e.1 }))
  statement_goes (IsStatement.block {l} {all = all} k) before h i =
      let b = statements_go k (mark (codes "{") l ∷ before) h.1 (deeper_opened l before i) in
      (stood_closed (closed b.1), inl (stands_by inner (RawStatement-F.Block l all) (s.rolls-Block l all) b.0))
  statement_goes (IsStatement.conditional {l} {a = a} {yes = body} {other} k j g) before h i =
      let c = test_goes k (name (codes "if") l ∷ before) h.1 in
      let t = headed_name c.1 in
      let b = body_goes j t.after t.sound (inside_at t.level i) t.no_list in
      let d = else_goes g b.1.after b.1.sound (inside_at (b.1.level ∙ t.level) i) b.1.stands in
      (stood_behind (b.1.level ∙ t.level) d.1, inl (stands_by inner (RawStatement-F.If l a body other) (s.rolls-If l a body other) (and_from _ _ c.0 (and_from _ _ b.0 d.0))))
  statement_goes (IsStatement.while_loop {l} {a = a} {all} k j) before h i =
      let c = test_goes k (name (codes "while") l ∷ before) h.1 in
      let t = headed_name c.1 in
      let b = body_goes j t.after t.sound (inside_at t.level i) t.no_list in
      (stood_behind t.level b.1, inl (stands_by inner (RawStatement-F.While l a all) (s.rolls-While l a all) (and_from _ _ c.0 b.0)))
  statement_goes (IsStatement.do_loop {l} {m} {a = a} {all} k j) before h i =
      let e = name_level (codes "do") l before in
      let b = body_goes k (name (codes "do") l ∷ before) h.1 (inside_at e i) (no_stand_name (codes "do") l before) in
      let c = test_goes j (name (codes "while") m ∷ b.1.after) b.1.sound.1 in
      let t = headed_name c.1 in
      (stood (record { after = t.after; level = t.level ∙ b.1.level ∙ e; sound = t.sound }), inl (stands_by inner (RawStatement-F.Do l a all) (s.rolls-Do l a all) (and_from _ _ c.0 b.0)))
  statement_goes (IsStatement.for_loop {l} {m} {first = i} {step = x} {a} {all} k e j g) before h n =
      let v = calm_braces (mark (codes "(") m) (name (codes "for") l ∷ before) refl ∙ name_level (codes "for") l before in
      let w = init_goes k (mark (codes "(") m ∷ name (codes "for") l ∷ before) h.1.1 in
      let y = went_then w.1 (goes_then (goes_calm (expr_calm e)) goes_end) in
      let z = step_goes j y.after y.sound in
      let c = z.1.level ∙ y.level ∙ v in
      let b = body_goes g z.1.after z.1.sound (inside_at c n) z.1.no_list in
      (stood_behind c b.1, inl (stands-For l i a x all w.0 (expr_there w.1.after e w.1.sound) z.0 b.0))
  statement_goes (IsStatement.switch {l} {m} {a = a} {arms} k j) before h i =
      let c = test_goes k (name (codes "switch") l ∷ before) h.1 in
      let t = headed_name c.1 in
      let b = arms_go j (mark (codes "{") m ∷ t.after) t.sound.1 (deeper_opened m t.after (inside_at t.level i)) in
      (stood_behind t.level (stood_closed b.1), inl (stands_by inner (RawStatement-F.Switch l a arms) (s.rolls-Switch l a arms) (and_from _ _ c.0 b.0)))

  -- a list inside a function's body
  pub statements_go : {ts rest : Tokens} {all : List RawStatement} → AreStatements ts all rest → (before : Tokens) → AreSound before ts → Deeper before → (are_inner all ≡ true) × Went before rest
  statements_go AreStatements.done before h i = (refl, record { after = before; level = refl; sound = h })
  statements_go (AreStatements.empty {l} k) before h i =
      let b = statements_go k (mark (codes ";") l ∷ before) h.1 (deeper_at (end_level l before) i) in
      (b.0, record { after = b.1.after; level = b.1.level ∙ end_level l before; sound = b.1.sound })
  statements_go (AreStatements.declared {some} {all} k j) before h i =
      let a = declaration_goes k before h in
      let b = statements_go j a.1.after a.1.sound (deeper_at a.1.level i) in
      (inner_append some all a.0 b.0, record { after = b.1.after; level = b.1.level ∙ a.1.level; sound = b.1.sound })
  statements_go (AreStatements.more k j) before h i =
      let a = statement_goes k before h (omega (arith, i)) in
      let b = statements_go j a.0.after a.0.sound (deeper_at a.0.level i) in
      (and_from _ _ (gone_inner (deeper_top before i) a) b.0, record { after = b.1.after; level = b.1.level ∙ a.0.level; sound = b.1.sound })

  body_goes : {ts rest : Tokens} {all : List RawStatement} → IsBody ts all rest → (before : Tokens) → AreSound before ts → Inside before → stands_in_list before ≡ false → (are_inner all ≡ true) × Stood before rest
  body_goes (IsBody.braces {l} k) before h i n =
      let b = statements_go k (mark (codes "{") l ∷ before) h.1 (deeper_opened l before i) in
      (b.0, stood_closed (closed b.1))
  body_goes (IsBody.nothing {l}) before h i n = (refl, record { after = mark (codes ";") l ∷ before; level = end_level l before; stands = stands_end l before; sound = h.1 })
  body_goes (IsBody.single p k) before h i n =
      let a = statement_goes k before h i in
      (and_from _ _ (gone_inner (and_right (open_braces before == 1) (stands_in_list before) n) a) refl, a.0)

  else_goes : {ts rest : Tokens} {all : List RawStatement} → IsElse ts all rest → (before : Tokens) → AreSound before ts → Inside before → stands_in_list before ≡ true → (are_inner all ≡ true) × Stood before rest
  else_goes (IsElse.otherwise {l} k) before h i n =
      let e = name_level (codes "else") l before in
      let b = body_goes k (name (codes "else") l ∷ before) h.1 (inside_at e i) (no_stand_name (codes "else") l before) in
      (b.0, stood_behind e b.1)
  else_goes (IsElse.without p) before h i n = (refl, record { after = before; level = refl; stands = n; sound = h })

  arms_go : {ts rest : Tokens} {arms : List RawArm} → AreArms ts arms rest → (before : Tokens) → AreSound before ts → Deeper before → (all_true (map is_arm arms) ≡ true) × Closed before rest
  arms_go (AreArms.none {l}) before h i = (refl, closed {l = l} (record { after = before; level = refl; sound = h }))
  arms_go (AreArms.broken {l} {m} {labels = labels} {body} k j g) before h i =
      let x = labels_go k before h in
      let a = x.2 in
      let b = statements_go j a.after a.sound (deeper_at a.level i) in
      let c = went_then b.1 (goes_then goes_name goes_end) in
      let n = c.level ∙ a.level in
      let d = arms_go g c.after c.sound (deeper_at n i) in
      (and_from _ _ (arm_by labels body x.0 x.1 b.0) d.0, record { after = d.1.after; level = d.1.level ∙ ap (λ (x : ℕ). x - 1) n; stands = d.1.stands; sound = d.1.sound })
  arms_go (AreArms.unbroken {labels = labels} {body} k p j) before h i =
      let x = labels_go k before h in
      let a = x.2 in
      let b = statements_go j a.after a.sound (deeper_at a.level i) in
      let d = closed b.1 in
      (and_from _ _ (arm_by labels body x.0 x.1 b.0) refl, record { after = d.after; level = d.level ∙ ap (λ (x : ℕ). x - 1) a.level; stands = d.stands; sound = d.sound })
