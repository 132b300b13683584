-- Bodies, heads and items of tokens are syntax, and so is the tree of a text.
use Rattle.std.proofs.Common.{◌≡◌, ℕ, ◌-◌, List, [], ◌∷◌, ◌++◌, Bool, true, false, not, ◌&&◌, codes, Option, None, refl, sym, ap, subst, ◌∙◌, arith, true≢false, inl, inr, slice_get, reverse, append-nil}
use Rattle.std.specs.Prelude.{◌==◌}
use Rattle.std.specs.List.{list_all}
use Rattle.std.specs.Option.{option_map_or}
use Rattle.std.proofs.lemmas.Bool.{and_parts, not_from_false, and_from, or_left}
use Rattle.c_arith.specs.declared.operators.UnaryOp.TheVariants.{Plus, Minus, Flip, Not}
use Rattle.c_tree.specs.declared.raw.expr.RawExpr.{RawExpr}
use Rattle.c_tree.specs.declared.raw.expr.RawType.{RawType}
use Rattle.c_tree.specs.declared.raw.expr.RawType.TheOpen.{RawType-F}
use Rattle.c_tree.specs.declared.raw.expr.RawType.TheVariants as type
use Rattle.c_tree.specs.declared.raw.expr.RawVar.{RawVar}
use Rattle.c_tree.specs.declared.raw.program.RawHead.{RawHead}
use Rattle.c_tree.specs.declared.raw.program.RawItem.{RawItem}
use Rattle.c_tree.specs.declared.raw.program.RawMember.{RawMember}
use Rattle.c_tree.specs.declared.raw.program.RawParam.{RawParam}
use Rattle.c_tree.specs.declared.raw.program.RawProgram.{RawProgram}
use Rattle.c_tree.specs.declared.raw.statement.RawStatement.{RawStatement}
use Rattle.c_language.specs.Words.{Bytes}
use Rattle.c_language.specs.TokenForms.{Tokens, name, mark, line_of}
use Rattle.c_language.specs.Sees.{sees, sees_second, is_keyword}
use Rattle.c_language.specs.IntWords.{none, some, words}
use Rattle.c_language.specs.Spellings.{is_own_name}
use Rattle.c_language.specs.ExprGrammar.{IsExpr, number_constant, character_constant, null, eof, variable, paren, index, member, unary, cast, binary, choose}
use Rattle.c_language.specs.TypeGrammar.{structure, integer, IsStars, pointed, IsTypeName, IsDeclarator, IsParamName, unnamed, IsParam, plain, unsized, sized, IsMoreParams, IsParams, nothing}
use Rattle.c_language.specs.StatementGrammar.{IsSeparated, bare, with_args, IsSimple, IsDeclared, AreDeclared, IsDeclaration, declaration, IsStatement, AreStatements}
use Rattle.c_language.specs.ItemGrammar.{IsMemberDeclarator, IsMember, AreMembers, IsGlobal, AreGlobals, IsStatic, IsResult, IsHead, head, IsItem, AreItems}
use Rattle.c_language.specs.LeftOut.{IsTold, BeginsLeftOut, IsLeftOut, struct_result, struct_param, open_braces, names_function, begins_param, names_param, ends_param}
use Rattle.c_language.specs.Syntax.{is_there, reaches, starred, is_struct, inner, final, stands, is_body, is_member, is_param, is_result, is_head, is_item, is_syntax, IsSyntax}
use Rattle.c_language.specs.Programs.{IsTree}
use Rattle.c_language.specs.declared.operators.Prefix.TheVariants.{Sign, Deref, AddressOf}
use Rattle.c_language.specs.declared.token.TokenKind.TheVariants.{Mark}
use Rattle.c_language.proofs.Keywords.{no_keyword}
use Rattle.c_language.proofs.Lists.{all_append}
use Rattle.text_syntax.proofs.CalmTokens.{AreUntold, told_all, done, more, calm_braces, expr_calm, calm_then}
use Rattle.text_syntax.proofs.Spelled.{AreSpelled, formed_spelled}
use Rattle.text_syntax.proofs.Forms.{are_inner, ends_too, type_by}
use Rattle.text_syntax.proofs.Equations.{struct-Integer, struct-PointerTo, pointer-PointerTo}
use Rattle.text_syntax.proofs.Exprs.{own_name, expr_is, HasStars, base_is, type_is}
use Rattle.text_syntax.proofs.Statements.{AreSound, are_spelled, IsBaseType, Went, Goes, goes_then, goes_calm, goes_name, goes_end, went_then, went_behind, rest_spelled, name_level, end_level, opens_level, closes_level, back_level, base_goes, type_goes, variable_goes, begun_value, begun_list, Inside, inside_at, Gone, declaration_goes, statement_goes}

-- ---- no statement begins with a closing brace

expr_no_close : {n : ℕ} {ts rest : Tokens} {a : RawExpr} → IsExpr n ts a rest → sees Mark (codes "}") ts ≡ false
unfolding sees
expr_no_close number_constant = refl
expr_no_close character_constant = refl
expr_no_close null = refl
expr_no_close eof = refl
expr_no_close (variable h) = refl
expr_no_close (paren h) = refl
expr_no_close (index p h k) = expr_no_close h
expr_no_close (member by p h k) = expr_no_close h
expr_no_close (unary (Sign Plus) p h) = refl
expr_no_close (unary (Sign Minus) p h) = refl
expr_no_close (unary (Sign Flip) p h) = refl
expr_no_close (unary (Sign Not) p h) = refl
expr_no_close (unary Deref p h) = refl
expr_no_close (unary AddressOf p h) = refl
expr_no_close (cast p h k) = refl
expr_no_close (binary op p h k) = expr_no_close h
expr_no_close (choose p h k j) = expr_no_close h

simple_no_close : {ts rest : Tokens} {a : RawStatement} → IsSimple ts a rest → sees Mark (codes "}") ts ≡ false
unfolding sees
simple_no_close (IsSimple.assign op q h p k) = expr_no_close h
simple_no_close (IsSimple.store_call h p k) = expr_no_close h
simple_no_close (IsSimple.store_heap h p k) = expr_no_close h
simple_no_close (IsSimple.bump_after up h p) = expr_no_close h
simple_no_close (IsSimple.bump_before true h p) = refl
simple_no_close (IsSimple.bump_before false h p) = refl
simple_no_close (IsSimple.call (bare h)) = refl
simple_no_close (IsSimple.call (with_args h k)) = refl

declarator_no_close : {ts rest : Tokens} {base : RawType} {v : RawVar} → IsDeclarator ts base v rest → sees Mark (codes "}") ts ≡ false
unfolding sees
declarator_no_close (IsDeclarator.named (IsStars.done h) k j) = refl
declarator_no_close (IsDeclarator.named (IsStars.star h) k j) = refl

declared_no_close : {line : ℕ} {base : RawType} {ts rest : Tokens} {a : RawStatement} → IsDeclared line base ts a rest → sees Mark (codes "}") ts ≡ false
declared_no_close (IsDeclared.plain d p) = declarator_no_close d
declared_no_close (IsDeclared.value d p e) = declarator_no_close d
declared_no_close (IsDeclared.list d k) = declarator_no_close d
declared_no_close (IsDeclared.call d p k) = declarator_no_close d
declared_no_close (IsDeclared.heap d p k) = declarator_no_close d

all_no_close : {line : ℕ} {base : RawType} {ts rest : Tokens} {all : List RawStatement} → AreDeclared line base ts all rest → sees Mark (codes "}") ts ≡ false
all_no_close (IsSeparated.last d) = declared_no_close d
all_no_close (IsSeparated.more d k) = declared_no_close d

declaration_no_close : {ts rest : Tokens} {all : List RawStatement} → IsDeclaration ts all rest → sees Mark (codes "}") ts ≡ false
unfolding sees
declaration_no_close (declaration (structure h) k) = refl
declaration_no_close (declaration (integer (words none s n)) k) = all_no_close k
declaration_no_close (declaration (integer (words (some h) s n)) k) = refl

statement_no_close : {ts rest : Tokens} {a : RawStatement} → IsStatement ts a rest → sees Mark (codes "}") ts ≡ false
unfolding sees
statement_no_close (IsStatement.simple h) = simple_no_close h
statement_no_close IsStatement.returns = refl
statement_no_close (IsStatement.returns_value h) = refl
statement_no_close (IsStatement.block h) = refl
statement_no_close (IsStatement.conditional h k j) = refl
statement_no_close (IsStatement.while_loop h k) = refl
statement_no_close (IsStatement.do_loop h k) = refl
statement_no_close (IsStatement.for_loop h k j i) = refl
statement_no_close (IsStatement.switch h k) = refl

closing_empty : {ts rest : Tokens} {all : List RawStatement} → AreStatements ts all rest → sees Mark (codes "}") ts ≡ true → all ≡ []
unfolding sees
closing_empty AreStatements.done h = refl
closing_empty (AreStatements.empty k) h = absurd (true≢false (sym h))
closing_empty (AreStatements.declared k j) h = absurd (true≢false (sym h ∙ declaration_no_close k))
closing_empty (AreStatements.more k j) h = absurd (true≢false (sym h ∙ statement_no_close k))

-- ---- bodies of functions

body_cons : (x : RawStatement) (xs : List RawStatement) → stands x inner ≡ true → is_body xs ≡ true → is_body (x ∷ xs) ≡ true
body_cons x [] h k = ends_too x h
body_cons x (y ∷ ys) h k = and_from _ _ h k

body_append : (xs ys : List RawStatement) → are_inner xs ≡ true → is_body ys ≡ true → is_body (xs ++ ys) ≡ true
body_append [] ys h k = k
body_append (x ∷ xs) ys h k = let p = and_parts (stands x inner) (are_inner xs) h in body_cons x (xs ++ ys) p.0 (body_append xs ys p.1 k)

body_last : (x : RawStatement) (xs : List RawStatement) → stands x final ≡ true → xs ≡ [] → is_body (x ∷ xs) ≡ true
body_last x xs h k = ap (λ (ys : List RawStatement). is_body (x ∷ ys)) k ∙ h

function_goes : {ts rest : Tokens} {all : List RawStatement} → AreStatements ts all rest → (before : Tokens) → AreSound before ts → Inside before → (is_body all ≡ true) × Went before rest
function_goes AreStatements.done before h i = (refl, record { after = before; level = refl; sound = h })
function_goes (AreStatements.empty {l} k) before h i =
    let b = function_goes k (mark (codes ";") l ∷ before) h.1 (inside_at (end_level l before) i) in
    (b.0, went_behind (end_level l before) b.1)
function_goes (AreStatements.declared {some} {all} k j) before h i =
    let a = declaration_goes k before h in
    let b = function_goes j a.1.after a.1.sound (inside_at a.1.level i) in
    (body_append some all a.0 b.0, went_behind a.1.level b.1)
function_goes (AreStatements.more {mid = mid} {first = x} {all} k j) before h i =
    let a = statement_goes k before h i in
    let b = function_goes j a.0.after a.0.sound (inside_at a.0.level i) in
    (by_end a b.0, went_behind a.0.level b.1)
  where
    by_end : Gone x before mid → is_body all ≡ true → is_body (x ∷ all) ≡ true
    by_end (s, inl f) g = body_cons x all f g
    by_end (s, inr r) g = body_last x all r.ends (closing_empty j r.closes)

-- ---- heads of functions

pointer_struct : {ts rest : Tokens} {a b : RawType} → IsStars ts a b rest → is_struct a ≡ false → is_struct b ≡ false
pointer_struct (IsStars.done h) k = k
pointer_struct (IsStars.star {a = a} h) k = pointer_struct h (struct-PointerTo a)

-- a type with stars that is no struct by itself
whole_type : {ts rest : Tokens} {a : RawType} → IsTypeName ts a rest → (before : Tokens) → AreSound before ts → is_struct a ≡ false → is_result a ≡ true
whole_type {ts} {a = a} h before s k = and_from _ _ (type_is h (are_spelled before ts s) starred refl) (not_from_false (is_struct a) k)

result_told : (tag w : Bytes) (l m k : ℕ) (rest : Tokens) → names_function (name tag l ∷ name w m ∷ mark (codes "(") k ∷ rest) ≡ true
unfolding names_function
result_told tag w l m k rest = refl

result_goes : {t : Option RawType} {ts rest : Tokens} {w : Bytes} {l m : ℕ} → IsResult ts t (name w l ∷ mark (codes "(") m ∷ rest) → (before : Tokens) → AreSound before ts
    → (option_map_or is_result t true ≡ true) × Went before (name w l ∷ mark (codes "(") m ∷ rest)
result_goes IsResult.nothing before h = (refl, goes_name.go before h)
result_goes {rest = rest} {w} {l} {m} (IsResult.some (pointed (structure {m = k} {tag = tag} g) (IsStars.done f))) before h = absurd (h.0 (struct_result (result_told tag w k l m rest)))
result_goes (IsResult.some (pointed (structure {tag = tag} g) (IsStars.star {a = a} {b = b} j))) before h =
    let t = pointed (structure g) (IsStars.star j) in
    (whole_type t before h (pointer_struct j (struct-PointerTo a)), (type_goes t).go before h)
result_goes (IsResult.some (pointed (integer {t = t} g) j)) before h =
    let n = pointed (integer g) j in
    (whole_type n before h (pointer_struct j (struct-Integer t)), (type_goes n).go before h)

unnamed_told : (tag : Bytes) (l : ℕ) (rest : Tokens) → ends_param (slice_get rest 0) ≡ true → names_param (name tag l ∷ rest) ≡ true
unfolding names_param
unnamed_told tag l rest h = or_left (ends_param (slice_get rest 0)) _ h

named_told : (tag w : Bytes) (l m : ℕ) (rest : Tokens) → ends_param (slice_get rest 0) ≡ true → names_param (name tag l ∷ name w m ∷ rest) ≡ true
unfolding names_param
named_told tag w l m rest h = h

name_goes : {ts rest : Tokens} {called : Option Bytes} → IsParamName ts called rest → Goes ts rest
name_goes (IsParamName.named k) = goes_name
name_goes (unnamed k) = goes_calm done

name_is : {ts rest : Tokens} {called : Option Bytes} → IsParamName ts called rest → AreSpelled ts → option_map_or is_own_name called true ≡ true
name_is (IsParamName.named {text} k) w = own_name text w.0 k
name_is (unnamed k) w = refl

no_brace : (before : Tokens) → open_braces before ≡ 0 → (open_braces before == 0) ≡ true
no_brace before h = ap (λ (n : ℕ). n == 0) h

-- a type and a name of a parameter
typed_name : {ts mid rest : Tokens} {a : RawType} {called : Option Bytes} → IsTypeName ts a mid → IsParamName mid called rest → (before : Tokens) → AreSound before ts → Went before rest
typed_name h c before s = (goes_then (type_goes h) (name_goes c)).go before s

called_is : {ts mid rest : Tokens} {a : RawType} {called : Option Bytes} → IsTypeName ts a mid → IsParamName mid called rest → (before : Tokens) → AreSound before ts → option_map_or is_own_name called true ≡ true
called_is h c before s = name_is c (rest_spelled (type_goes h) before s)

plain_param : {ts mid rest : Tokens} {a : RawType} {called : Option Bytes} (line : ℕ) → IsTypeName ts a mid → IsParamName mid called rest → (before : Tokens) → AreSound before ts → is_struct a ≡ false
    → (is_param (record { line = line; name = called; shape = a; length = None }) ≡ true) × Went before rest
plain_param line h c before s k = (and_from _ _ (and_from _ _ (called_is h c before s) (whole_type h before s k)) refl, typed_name h c before s)

starred_pointer : (a : RawType) → HasStars a → reaches (type.PointerTo a) starred ≡ true
starred_pointer a h = type_by starred (RawType-F.PointerTo a) (type.rolls-PointerTo a) (h starred refl)

-- a parameter that is written as an array
array_param : {ts mid rest : Tokens} {a : RawType} {called : Option Bytes} → IsTypeName ts a mid → IsParamName mid called rest → (before : Tokens) → AreSound before ts
    → (option_map_or is_own_name called true && (reaches (type.PointerTo a) starred && not (is_struct (type.PointerTo a)))) ≡ true
array_param {a = a} h c before s =
    and_from _ _ (called_is h c before s) (and_from _ _ (starred_pointer a (type_is h (are_spelled before _ s))) (not_from_false (is_struct (type.PointerTo a)) (struct-PointerTo a)))

param_goes : {ts rest : Tokens} {p : RawParam} → IsParam ts p rest → ends_param (slice_get rest 0) ≡ true → (before : Tokens) → open_braces before ≡ 0 → begins_param before ≡ true → AreSound before ts
    → (is_param p ≡ true) × Went before rest
param_goes (plain (pointed (structure {m = k} {tag = tag} g) (IsStars.done f)) (unnamed j) n) e before z b h = absurd (h.0 (struct_param (no_brace before z) b (unnamed_told tag k _ e)))
param_goes (plain (pointed (structure {m = k} {tag = tag} g) (IsStars.done f)) (IsParamName.named {l = i} {text = w} j) n) e before z b h = absurd (h.0 (struct_param (no_brace before z) b (named_told tag w k i _ e)))
param_goes (plain {ts} (pointed (structure g) (IsStars.star {a = a} j)) c n) e before z b h = plain_param (line_of ts) (pointed (structure g) (IsStars.star j)) c before h (pointer_struct j (struct-PointerTo a))
param_goes (plain {ts} (pointed (integer {t = t} g) j) c n) e before z b h = plain_param (line_of ts) (pointed (integer g) j) c before h (pointer_struct j (struct-Integer t))
param_goes (unsized k c) e before z b h = (and_from _ _ (array_param k c before h) refl, went_then (typed_name k c before h) (goes_calm (more refl (more refl done))))
param_goes (sized {a = a} {n = n} k c j) e before z b h =
    let x = typed_name k c before h in
    let y = went_then x (goes_calm (more refl done)) in
    (and_from _ _ (array_param k c before h) (and_from _ _ (pointer-PointerTo a) (expr_is j (are_spelled y.after _ y.sound))), went_then y (goes_calm (calm_then (expr_calm j) (more refl done))))

front_ends : {ts rest : Tokens} {ps : List RawParam} → IsMoreParams ts ps rest → ends_param (slice_get ts 0) ≡ true
front_ends IsMoreParams.closed = refl
front_ends (IsMoreParams.more h k) = refl

comma_begins : (l : ℕ) (before : Tokens) → begins_param (mark (codes ",") l ∷ before) ≡ true
unfolding begins_param sees
comma_begins l before = refl

more_params_go : {ts rest : Tokens} {ps : List RawParam} → IsMoreParams ts ps rest → (before : Tokens) → open_braces before ≡ 0 → AreSound before ts → (list_all is_param ps ≡ true) × Went before rest
more_params_go IsMoreParams.closed before z h = (refl, (goes_calm (more refl done)).go before h)
more_params_go (IsMoreParams.more {l} k j) before z h =
    let e = calm_braces (mark (codes ",") l) before refl in
    let a = param_goes k (front_ends j) (mark (codes ",") l ∷ before) (e ∙ z) (comma_begins l before) h.1 in
    let b = more_params_go j a.1.after (a.1.level ∙ e ∙ z) a.1.sound in
    (and_from _ _ a.0 b.0, went_behind (a.1.level ∙ e) b.1)

paren_begins : (w : Bytes) (l m : ℕ) (before : Tokens) → is_keyword w ≡ false → begins_param (mark (codes "(") m ∷ name w l ∷ before) ≡ true
unfolding begins_param sees sees_second is_keyword
paren_begins w l m before k = ap not (no_keyword w (codes "sizeof") k refl)

params_go : {ts rest : Tokens} {ps : List RawParam} → IsParams ts ps rest → (before : Tokens) → open_braces before ≡ 0 → begins_param before ≡ true → AreSound before ts → (list_all is_param ps ≡ true) × Went before rest
params_go IsParams.empty before z b h = (refl, (goes_calm (more refl done)).go before h)
params_go nothing before z b h = (refl, (goes_then goes_name (goes_calm (more refl done))).go before h)
params_go (IsParams.some k j) before z b h =
    let a = param_goes k (front_ends j) before z b h in
    let c = more_params_go j a.1.after (a.1.level ∙ z) a.1.sound in
    (and_from _ _ a.0 c.0, went_behind a.1.level c.1)

static_goes : {b : Bool} {ts rest : Tokens} → IsStatic ts b rest → Goes ts rest
static_goes IsStatic.static = goes_name
static_goes IsStatic.external = goes_calm done

head_goes : {h : RawHead} {ts rest : Tokens} → IsHead ts h rest → (before : Tokens) → open_braces before ≡ 0 → AreSound before ts → (is_head h ≡ true) × Went before rest
head_goes (head {l} {m} {w = w} k j key i) before z h =
    let a = (static_goes k).go before h in
    let b = result_goes j a.after a.sound in
    let e = calm_braces (mark (codes "(") m) (name w l ∷ b.1.after) refl ∙ name_level w l b.1.after ∙ b.1.level ∙ a.level in
    let c = params_go i (mark (codes "(") m ∷ name w l ∷ b.1.after) (e ∙ z) (paren_begins w l m b.1.after key) b.1.sound.1.1 in
    (and_from _ _ (own_name w b.1.sound.2 key) (and_from _ _ b.0 c.0), went_behind e c.1)

-- ---- items

member_variable : {line : ℕ} {base : RawType} {ts rest : Tokens} {m : RawMember} → IsMemberDeclarator line base ts m rest → IsBaseType base → (before : Tokens) → AreSound before ts → (is_member m ≡ true) × Went before rest
member_variable (IsMemberDeclarator.named d q) k before h = let x = variable_goes d k before h in (x.0.not_listed q, x.1)

fields_go : {line : ℕ} {base : RawType} {ts rest : Tokens} {all : List RawMember} → IsSeparated (IsMemberDeclarator line base) (codes ";") ts all rest → IsBaseType base → (before : Tokens) → AreSound before ts
    → (is_there all ≡ true) × (list_all is_member all ≡ true) × Went before rest
fields_go (IsSeparated.last d) k before h = let a = member_variable d k before h in (refl, and_from _ _ a.0 refl, went_then a.1 goes_end)
fields_go (IsSeparated.more d j) k before h =
    let a = member_variable d k before h in
    let b = went_then a.1 (goes_calm (more refl done)) in
    let c = fields_go j k b.after b.sound in
    (refl, and_from _ _ a.0 c.1, went_behind b.level c.2)

member_goes : {ts rest : Tokens} {all : List RawMember} → IsMember ts all rest → (before : Tokens) → AreSound before ts → (is_there all ≡ true) × (list_all is_member all ≡ true) × Went before rest
member_goes (IsMember.member b k) before h =
    let a = (base_goes b).go before h in
    let c = fields_go k (base_is b (are_spelled before _ h)) a.after a.sound in
    (c.0, c.1, went_behind a.level c.2)

there_append : {A : Type 0} (xs ys : List A) → is_there xs ≡ true → is_there (xs ++ ys) ≡ true
there_append [] ys h = absurd cc
there_append (x ∷ xs) ys h = refl

-- members up to their brace, which is opened before them
record Membered (all : List RawMember) (before rest : Tokens) : Type 0 where
  there : is_there all ≡ true
  are : list_all is_member all ≡ true
  after : Tokens
  level : open_braces after ≡ open_braces before - 1
  sound : AreSound after rest

members_go : {ts rest : Tokens} {all : List RawMember} → AreMembers ts all rest → (before : Tokens) → AreSound before ts → Membered all before rest
members_go (AreMembers.last {l} k) before h =
    let a = member_goes k before h in
    record { there = a.0; are = a.1; after = mark (codes "}") l ∷ a.2.after; level = closes_level l a.2.after ∙ ap (λ (n : ℕ). n - 1) a.2.level; sound = a.2.sound.1 }
members_go (AreMembers.more {some} {all} k j) before h =
    let a = member_goes k before h in
    let b = members_go j a.2.after a.2.sound in
    record { there = there_append some all a.0; are = all_append is_member some all a.1 b.are; after = b.after; level = b.level ∙ ap (λ (n : ℕ). n - 1) a.2.level; sound = b.sound }

global_goes : {line : ℕ} {is_static : Bool} {base : RawType} {ts rest : Tokens} {x : RawItem} → IsGlobal line is_static base ts x rest → IsBaseType base → (before : Tokens) → AreSound before ts → (is_item x ≡ true) × Went before rest
global_goes (IsGlobal.plain d q) k before h = let x = variable_goes d k before h in (x.0.not_listed q, x.1)
global_goes (IsGlobal.value d q e) k before h = begun_value d q e k before h
global_goes (IsGlobal.list d j) k before h = begun_list d j k before h

globals_go : {line : ℕ} {is_static : Bool} {base : RawType} {ts rest : Tokens} {all : List RawItem} → AreGlobals line is_static base ts all rest → IsBaseType base → (before : Tokens) → AreSound before ts → (list_all is_item all ≡ true) × Went before rest
globals_go (IsSeparated.last g) k before h = let a = global_goes g k before h in (and_from _ _ a.0 refl, went_then a.1 goes_end)
globals_go (IsSeparated.more g j) k before h =
    let a = global_goes g k before h in
    let b = went_then a.1 (goes_calm (more refl done)) in
    let c = globals_go j k b.after b.sound in
    (and_from _ _ a.0 c.0, went_behind b.level c.1)

inside_opened : (l : ℕ) (before : Tokens) → Inside (mark (codes "{") l ∷ before)
inside_opened l before = let e = opens_level l before in omega (arith, e)

item_goes : {ts rest : Tokens} {some : List RawItem} → IsItem ts some rest → (before : Tokens) → open_braces before ≡ 0 → AreSound before ts → (list_all is_item some ≡ true) × Went before rest
item_goes (IsItem.include b) before z h = (refl, (goes_calm (more refl done)).go before h)
item_goes (IsItem.tag {w} key) before z h = (and_from _ _ (own_name w h.1.2 key) refl, (goes_then goes_name (goes_then goes_name goes_end)).go before h)
item_goes (IsItem.structure {l} {m} {k} {w = w} key j) before z h =
    let inside = name w m ∷ name (codes "struct") l ∷ before in
    let a = members_go j (mark (codes "{") k ∷ inside) h.1.1.1 in
    let e = a.level ∙ ap (λ (n : ℕ). n - 1) (opens_level k inside) ∙ back_level (open_braces inside) ∙ name_level w m (name (codes "struct") l ∷ before) ∙ name_level (codes "struct") l before in
    (and_from _ _ (and_from _ _ (own_name w h.1.2 key) (and_from _ _ a.there a.are)) refl, went_then (record { after = a.after; level = e; sound = a.sound }) goes_end)
item_goes (IsItem.globals s b k) before z h =
    let a = (static_goes s).go before h in
    let c = (base_goes b).go a.after a.sound in
    let d = globals_go k (base_is b (are_spelled a.after _ a.sound)) c.after c.sound in
    (d.0, went_behind (c.level ∙ a.level) d.1)
item_goes (IsItem.prototype k) before z h = let a = head_goes k before z h in (and_from _ _ a.0 refl, went_then a.1 goes_end)
item_goes (IsItem.definition {l} {m} k p j) before z h =
    let a = head_goes k before z h in
    let b = function_goes j (mark (codes "{") l ∷ a.1.after) a.1.sound.1 (inside_opened l a.1.after) in
    let e = closes_level m b.1.after ∙ ap (λ (n : ℕ). n - 1) (b.1.level ∙ opens_level l a.1.after) ∙ back_level (open_braces a.1.after) ∙ a.1.level in
    (and_from _ _ (and_from _ _ a.0 (and_from _ _ p b.0)) refl, record { after = mark (codes "}") m ∷ b.1.after; level = e; sound = b.1.sound.1 })

items_go : {ts rest : Tokens} {all : List RawItem} → AreItems ts all rest → (before : Tokens) → open_braces before ≡ 0 → AreSound before ts → list_all is_item all ≡ true
items_go AreItems.done before z h = refl
items_go (AreItems.more {some} {all} k j) before z h =
    let a = item_goes k before z h in
    all_append is_item some all a.0 (items_go j a.1.after (a.1.level ∙ z) a.1.sound)

no_open : open_braces [] ≡ 0
unfolding open_braces
no_open = refl

-- the tree of tokens that are spelled as their kinds are, and of which none begins a left-out construct, is syntax
pub tree_is_syntax : {ts : Tokens} (raw : RawProgram) → AreItems ts raw.items [] → AreSound [] ts → is_syntax raw ≡ true
tree_is_syntax raw k h = items_go k [] no_open h

sound_tokens : (before ts : Tokens) → AreUntold before ts → AreSpelled ts → AreSound before ts
sound_tokens before [] h w = tt
sound_tokens before (t ∷ ts) h w = (h.0, sound_tokens (t ∷ before) ts h.1 w.1, w.0)

-- no token of a text begins a construct that is told by tokens alone
pub untold_tokens : (ts : Tokens) → ((text : Bytes) (line : ℕ) → IsLeftOut ts text line → ⊥) → AreUntold [] ts
untold_tokens ts h = told_all [] ts (λ front t behind is told.
    h t.text t.line (record { front = front; token = t; behind = behind; split = is; text_is = refl; line_is = refl; begins = BeginsLeftOut.told (subst (λ (x : Tokens). IsTold x t behind) (append-nil (reverse front)) told) }))

-- the tree of a text is syntax
pub text_is_syntax : (raw : RawProgram) → IsTree raw → IsSyntax raw
text_is_syntax raw tree = tree_is_syntax raw tree.is.grammar (sound_tokens [] tree.tokens (untold_tokens tree.tokens tree.is.whole) (formed_spelled tree.tokens tree.is.formed))
