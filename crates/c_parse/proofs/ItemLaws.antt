-- Each text of the grammar is read, and each that nests too deep is refused for that.
use Rattle.std.proofs.Common.{◌≡◌, ℕ, zero, suc, ◌+◌, ◌≤◌, ◌<◌, max, List, [], ◌∷◌, ◌++◌, append_assoc, append-nil, map, length, refl, sym, ap, ◌∙◌, arith, true, false, Bool, Option, Some, None, codes}
use Rattle.c_arith.specs.declared.int_type.IntType.{IntType}
use Rattle.c_tree.specs.declared.raw.expr.RawType.{RawType, fold-roll-RawType}
use Rattle.c_tree.specs.declared.raw.expr.RawType.TheOpen.{RawType-F}
use Rattle.c_tree.specs.declared.raw.expr.RawType.TheVariants as type
use Rattle.c_tree.specs.declared.raw.expr.RawLength.{RawLength}
use Rattle.c_tree.specs.declared.raw.expr.RawVar.{RawVar}
use Rattle.c_tree.specs.declared.raw.program.RawInit.TheVariants as init
use Rattle.c_tree.specs.declared.raw.program.RawMember.{RawMember}
use Rattle.c_tree.specs.declared.raw.program.RawParam.{RawParam}
use Rattle.c_tree.specs.declared.raw.program.RawHead.{RawHead}
use Rattle.c_tree.specs.declared.raw.program.RawItem.{RawItem}
use Rattle.c_tree.specs.declared.raw.program.RawItem.TheVariants as item
use Rattle.c_tree.specs.declared.raw.program.RawProgram.{RawProgram}
use Rattle.c_tree.specs.declared.raw.statement.RawStatement.{RawStatement}
use Rattle.c_language.specs.Words.{Bytes}
use Rattle.c_language.specs.TokenForms.{Tokens, of_kind, name, mark, line_of}
use Rattle.c_language.specs.Sees.{sees, is_keyword}
use Rattle.c_language.specs.IntWords.{is_int_word}
use Rattle.c_language.specs.TypeGrammar.{IsBase, IsStars, IsLengths, IsOuterLengths, IsDeclarator, IsParams, IsMoreParams, structure, integer, pointed, is_listed}
use Rattle.c_language.specs.Nesting.{nesting, type_nesting, params_nesting}
use Rattle.c_language.specs.StatementGrammar.{IsSeparated, AreStatements}
use Rattle.c_language.specs.ItemGrammar.{IsMemberDeclarator, IsMember, member, AreMembers, IsGlobal, AreGlobals, IsStatic, IsResult, IsHead, head, are_named, header, IsItem, AreItems, IsProgram}
use Rattle.c_language.specs.StatementNesting.{body_nesting, member_nesting, head_nesting, item_nesting, items_nesting, program_nesting}
use Rattle.c_language.specs.declared.token.TokenKind.TheVariants.{Name, Mark, Include}
use Rattle.c_parse_expr.specs.Outcome.{expect}
use Rattle.c_parse_statements.specs.StatementReading.{statements_from, braced, nested_statement}
use Rattle.c_parse.specs.ItemReading as r
use Rattle.c_parse.specs.ItemReading.{member_of, members_from, tagged, sees_tag, global_init, global_of, global, globals, definition, headed, function, array_step, is_array, declares, void_function, declared_or_defined, item_of, none_left, items_from, program}
use Rattle.c_parse_words.proofs.SeenTokens.{apart_by}
use Rattle.c_parse_expr.proofs.Tests.{read_name_at}
use Rattle.c_parse_expr.proofs.IntLaws.{int_type_begins}
use Rattle.c_parse_expr.proofs.ExprLaws.{Exact, expression_exact, shorter}
use Rattle.c_parse_expr.proofs.TypeLaws.{base_read, base_flat, base_shorter, stars_shorter, declarator_exact, params_exact, param_shorter}
use Rattle.c_parse_simple.proofs.Exact.{done, at_depth, same_read, same_tree, seq, after, greatest_append, separated_exact, separated_shorter}
use Rattle.c_parse_simple.proofs.Begins.{starts, starts_no_mark}
use Rattle.c_parse_simple.proofs.CallLaws.{base_no_mark}
use Rattle.c_parse_simple.proofs.SimpleLaws.{Ends, at_semicolon, at_comma, list_exact, list_shorter, declarator_shorter}
use Rattle.c_parse_statements.proofs.StatementLaws.{int_word_is, depths, depths_under, statements_exact, statements_shorter, brace_ends_list}
use Rattle.c_language.specs.Lists.{greatest}

-- ---- struct definitions

member_of_exact : {line : ℕ} {b : RawType} {ts rest : Tokens} {m : RawMember} → IsMemberDeclarator line b ts m rest → type_nesting b ≡ 0 → (d : ℕ) → Exact d (member_nesting m) (member_of d line b ts) m rest
unfolding member_of
member_of_exact (IsMemberDeclarator.named h p) flat d = at_depth (omega arith) (seq {n = 0} _ (declarator_exact h flat d) (rw p done))

member_of_shorter : {line : ℕ} {b : RawType} {ts rest : Tokens} {m : RawMember} → IsMemberDeclarator line b ts m rest → length rest < length ts
member_of_shorter (IsMemberDeclarator.named h p) = declarator_shorter h

member_exact : {ts rest : Tokens} {all : List RawMember} → IsMember ts all rest → (d : ℕ) → Exact d (greatest (map member_nesting all)) (r.member d ts) all rest
unfolding r.member sees
member_exact {ts} (member {mid} {base = b} h k) d =
    let flat = base_flat h in
    after _ (base_read h) (separated_exact (IsMemberDeclarator (line_of ts) b) (codes ";") (member_of d (line_of ts) b) member_nesting d (λ l ts. refl) (λ l ts. refl) (λ ts rest a h. member_of_shorter h)
    (λ l ts rest a h. member_of_exact h flat d) (λ l ts rest a h. member_of_exact h flat d) k (length mid) [] (omega arith))

member_shorter : {ts rest : Tokens} {all : List RawMember} → IsMember ts all rest → length rest < length ts
member_shorter {ts} (member {base = b} h k) =
    let x = base_shorter h in
    let y = separated_shorter (IsMemberDeclarator (line_of ts) b) (codes ";") (λ ts rest a h. member_of_shorter h) k in
    omega (arith, x, y)

members_begin : {ts rest : Tokens} {all : List RawMember} → AreMembers ts all rest → sees Mark (codes "}") ts ≡ false
members_begin (AreMembers.last (member h k)) = base_no_mark (codes "}") h
members_begin (AreMembers.more (member h k) j) = base_no_mark (codes "}") h

members_exact : {ts rest : Tokens} {all : List RawMember} → AreMembers ts all rest → (d turns : ℕ) (found : List RawMember) → length ts ≤ turns
    → Exact d (greatest (map member_nesting all)) (members_from d turns found ts) (found ++ all) rest
unfolding members_from sees
members_exact (AreMembers.last h) d zero found p = absurd (let x = member_shorter h in omega (arith, p, x))
members_exact (AreMembers.last h) d (suc turns) found p = at_depth (omega arith) (seq _ (member_exact h d) done)
members_exact (AreMembers.more h k) d zero found p = absurd (let x = member_shorter h in omega (arith, p, x))
members_exact (AreMembers.more {some} {all} h k) d (suc turns) found p =
    let short = member_shorter h in
    at_depth (omega (arith, greatest_append member_nesting some all))
    (seq {n = greatest (map member_nesting all)} _ (member_exact h d) (rw (members_begin k) (same_tree (append_assoc found some all) (members_exact k d turns (found ++ some) (omega (arith, p, short))))))

members_shorter : {ts rest : Tokens} {all : List RawMember} → AreMembers ts all rest → length rest < length ts
members_shorter (AreMembers.last h) = let x = member_shorter h in omega (arith, x)
members_shorter (AreMembers.more h k) = let x = member_shorter h in omega (arith, x, members_shorter k)

-- ---- globals

-- a global behind its declarator
record GlobalRead (d line : ℕ) (is_static : Bool) (b : RawType) (ts : Tokens) (g : RawItem) (rest : Tokens) : Type 0 where
  var : RawVar
  mid : Tokens
  depth : ℕ
  is : IsDeclarator ts b var mid
  no_open : sees Mark (codes "(") mid ≡ false
  exact : Exact d depth (global_of d line is_static var mid) g rest
  nests : max (type_nesting var.shape) depth ≡ item_nesting g

global_of_plain : (d line : ℕ) (is_static : Bool) (v : RawVar) (ts : Tokens) → is_listed v.shape ≡ false → sees Mark (codes "=") ts ≡ false → Exact d 0 (global_of d line is_static v ts) (item.Global line v init.None is_static) ts
unfolding global_of
global_of_plain d line is_static v ts p q = rw (q, p) done

global_read : {line : ℕ} {is_static : Bool} {b : RawType} {ts rest : Tokens} {g : RawItem} → IsGlobal line is_static b ts g rest → Ends rest → (d : ℕ) → GlobalRead d line is_static b ts g rest
unfolding global_of global_init sees
global_read {line} {is_static} {rest} (IsGlobal.plain {v} h p) ends d =
    record { var = v; mid = rest; depth = 0; is = h; no_open = ends.no_open; exact = global_of_plain d line is_static v rest p ends.no_equals; nests = omega arith }
global_read (IsGlobal.value {l} {mid} {v} {a} h p k) ends d =
    record {
      var = v;
      mid = mark (codes "=") l ∷ mid;
      depth = max (nesting a) 0;
      is = h;
      no_open = refl;
      exact = rw (starts_no_mark (starts k) (codes "{") refl, p) (seq _ (expression_exact k ends.free d) done);
      nests = omega arith;
    }
global_read (IsGlobal.list {l} {m} {mid} {v} {all} h k) ends d =
    record { var = v; mid = mark (codes "=") l ∷ mark (codes "{") m ∷ mid; depth = max (greatest (map nesting all)) 0; is = h; no_open = refl; exact = seq _ (list_exact k d) done; nests = omega arith }

global_exact : {line : ℕ} {is_static : Bool} {b : RawType} {ts rest : Tokens} {g : RawItem} → IsGlobal line is_static b ts g rest → type_nesting b ≡ 0 → Ends rest → (d : ℕ) → Exact d (item_nesting g) (global d line is_static b ts) g rest
unfolding global
global_exact h flat ends d = let x = global_read h ends d in at_depth x.nests (seq _ (declarator_exact x.is flat d) x.exact)

global_shorter : {line : ℕ} {is_static : Bool} {b : RawType} {ts rest : Tokens} {g : RawItem} → IsGlobal line is_static b ts g rest → length rest < length ts
global_shorter (IsGlobal.plain h p) = declarator_shorter h
global_shorter (IsGlobal.value h p k) = let x = declarator_shorter h in let y = shorter k in omega (arith, x, y)
global_shorter (IsGlobal.list h k) = let x = declarator_shorter h in let y = list_shorter k in omega (arith, x, y)

-- globals of which the first declarator was read
record GlobalsRead (d line : ℕ) (is_static : Bool) (b : RawType) (ts : Tokens) (all : List RawItem) (rest : Tokens) : Type 0 where
  var : RawVar
  mid : Tokens
  depth : ℕ
  is : IsDeclarator ts b var mid
  no_open : sees Mark (codes "(") mid ≡ false
  exact : Exact d depth (globals d line is_static b var mid) all rest
  nests : max (type_nesting var.shape) depth ≡ items_nesting all

globals_read : {line : ℕ} {is_static : Bool} {b : RawType} {ts rest : Tokens} {all : List RawItem} → AreGlobals line is_static b ts all rest → type_nesting b ≡ 0 → (d : ℕ) → GlobalsRead d line is_static b ts all rest
unfolding globals expect sees
globals_read (IsSeparated.last {l} {rest} {a = g} h) flat d =
    let x = global_read h (at_semicolon l rest) d in
    record { var = x.var; mid = x.mid; depth = max x.depth 0; is = x.is; no_open = x.no_open; exact = seq _ x.exact done; nests = omega (arith, x.nests) }
globals_read {line} {is_static} {b} (IsSeparated.more {l} {mid} {a = g} {all} h k) flat d =
    let x = global_read h (at_comma l mid) d in
    let y = separated_exact (IsGlobal line is_static b) (codes ";") (global d line is_static b) item_nesting d (λ l ts. refl) (λ l ts. refl) (λ ts rest a h. global_shorter h)
    (λ l ts rest a h. global_exact h flat (at_semicolon l rest) d) (λ l ts rest a h. global_exact h flat (at_comma l rest) d) k (length mid) (g ∷ []) (omega arith) in
    record { var = x.var; mid = x.mid; depth = max x.depth (items_nesting all); is = x.is; no_open = x.no_open; exact = seq _ x.exact y; nests = omega (arith, x.nests) }

globals_shorter : {line : ℕ} {is_static : Bool} {b : RawType} {ts rest : Tokens} {all : List RawItem} → AreGlobals line is_static b ts all rest → length rest < length ts
globals_shorter {line} {is_static} {b} h = separated_shorter (IsGlobal line is_static b) (codes ";") (λ ts rest a h. global_shorter h) h

declares_globals : {n : ℕ} {rest : Tokens} {all : List RawItem} (d line : ℕ) (is_static : Bool) (b : RawType) (v : RawVar) (ts : Tokens) → sees Mark (codes "(") ts ≡ false → Exact d n (globals d line is_static b v ts) all rest
    → Exact d n (declares d line is_static b v ts) all rest
unfolding declares
declares_globals d line is_static b v ts p x = rw p x

-- ---- functions

-- what stands behind the head of a function
module _ (d line : ℕ) where
  behind_params : {n : ℕ} {ts mid rest : Tokens} {ps : List RawParam} {all : List RawItem} (is_static : Bool) (t : Option RawType) (w : Bytes) → IsParams ts ps mid
      → Exact d n (headed d line (record { name = w; result = t; params = ps; is_static = is_static }) mid) all rest → Exact d (max (params_nesting ps) n) (function d line is_static t w ts) all rest
  unfolding function
  behind_params is_static t w h x = seq _ (params_exact h d) x

  prototype_exact : (l : ℕ) (h : RawHead) (rest : Tokens) → Exact d 0 (headed d line h (mark (codes ";") l ∷ rest)) (item.Prototype line h ∷ []) rest
  unfolding headed sees
  prototype_exact l h rest = done

  definition_exact : {m : ℕ} {ts rest : Tokens} {body : List RawStatement} (l : ℕ) (h : RawHead) → are_named h.params ≡ true → AreStatements ts body (mark (codes "}") m ∷ rest)
      → Exact d (body_nesting body) (headed d line h (mark (codes "{") l ∷ ts)) (item.Define line h body ∷ []) rest
  unfolding headed definition braced expect sees
  definition_exact {m} {ts} {rest} {body} l h p k =
      let x : Exact (d + 1) (depths body) (statements_from (nested_statement (d + 1)) (d + 1) (length ts) [] ts) body (mark (codes "}") m ∷ rest) =
      statements_exact k (d + 1) (length ts) [] (brace_ends_list m rest) (omega arith) in
      let e = depths_under body in
      let y : Exact d (body_nesting body) (statements_from (nested_statement (d + 1)) (d + 1) (length ts) [] ts) body (mark (codes "}") m ∷ rest) =
      record { fits = λ q. x.fits (omega (arith, q, e.0)); deep = λ q. x.deep (omega (arith, q, e.1)) } in
      rw p (at_depth (omega arith) (seq _ (seq _ y done) done))

stars_begin : {ts rest : Tokens} {a b : RawType} {w : Bytes} {l : ℕ} → IsStars ts a b (name w l ∷ rest) → (sees Mark (codes ";") ts ≡ false) × (sees Mark (codes "{") ts ≡ false)
unfolding sees
stars_begin (IsStars.done h) = (refl, refl)
stars_begin (IsStars.star h) = (refl, refl)

is_array-Integer : (t : IntType) → is_array (type.Integer t) ≡ false
is_array-Integer t = ap is_array (sym (type.rolls-Integer t)) ∙ fold-roll-RawType Bool array_step (RawType-F.Integer t)

is_array-Struct : (tag : Bytes) → is_array (type.Struct tag) ≡ false
is_array-Struct tag = ap is_array (sym (type.rolls-Struct tag)) ∙ fold-roll-RawType Bool array_step (RawType-F.Struct tag)

is_array-PointerTo : (a : RawType) → is_array (type.PointerTo a) ≡ false
is_array-PointerTo a = ap is_array (sym (type.rolls-PointerTo a)) ∙ fold-roll-RawType Bool array_step (RawType-F.PointerTo a)

pub is_array-Array : (a : RawType) (n : RawLength) → is_array (type.Array a n) ≡ true
is_array-Array a n = ap is_array (sym (type.rolls-Array a n)) ∙ fold-roll-RawType Bool array_step (RawType-F.Array a n)

base_no_array : {ts rest : Tokens} {a : RawType} → IsBase ts a rest → is_array a ≡ false
base_no_array (structure {tag} free) = is_array-Struct tag
base_no_array (integer {t} h) = is_array-Integer t

stars_no_array : {ts rest : Tokens} {a b : RawType} → IsStars ts a b rest → is_array a ≡ false → is_array b ≡ false
stars_no_array (IsStars.done h) p = p
stars_no_array (IsStars.star {a} h) p = stars_no_array h (is_array-PointerTo a)

-- ---- which item it is, by its first tokens

-- an item that begins so is no include, and neither a tag alone nor a struct definition
record OpensExternal (ts : Tokens) : Type 0 where
  no_stdio : sees Include (header false) ts ≡ false
  no_stdlib : sees Include (header true) ts ≡ false
  no_tag : sees_tag ts ≡ false
  no_static : sees Name (codes "static") ts ≡ false

declared_or_defined_begins : {ts mid : Tokens} {is_static : Bool} (d : ℕ) → IsStatic ts is_static mid → OpensExternal mid → item_of d ts ≡ declared_or_defined d (line_of ts) is_static mid
unfolding item_of sees_tag sees
declared_or_defined_begins d IsStatic.static o = refl
declared_or_defined_begins d IsStatic.external o = rw (o.no_stdio, o.no_stdlib, o.no_tag, o.no_static) refl

opens_void : (l : ℕ) (ts : Tokens) → OpensExternal (name (codes "void") l ∷ ts)
unfolding sees sees_tag
opens_void l ts = record { no_stdio = refl; no_stdlib = refl; no_tag = refl; no_static = refl }

opens_struct : (l m : ℕ) (tag : Bytes) (ts : Tokens) → sees Mark (codes ";") ts ≡ false → sees Mark (codes "{") ts ≡ false → OpensExternal (name (codes "struct") l ∷ name tag m ∷ ts)
unfolding sees sees_tag
opens_struct l m tag ts p q =
    record { no_stdio = refl; no_stdlib = refl; no_tag = rw (p, q) refl; no_static = refl }

opens_int : (w : Bytes) (l : ℕ) (ts : Tokens) → is_int_word w ≡ true → OpensExternal (name w l ∷ ts)
unfolding sees sees_tag
opens_int w l ts h = record { no_stdio = refl; no_stdlib = refl; no_tag = rw (apart_by is_int_word w (codes "struct") h refl) refl; no_static = apart_by is_int_word w (codes "static") h refl }

opens_base : {ts rest : Tokens} {a : RawType} → IsBase ts a rest → sees Mark (codes ";") rest ≡ false → sees Mark (codes "{") rest ≡ false → OpensExternal ts
opens_base (structure {l} {m} {tag} {rest} free) p q = opens_struct l m tag rest p q
opens_base {ts} (integer h) p q = int_word_is ts (int_type_begins h) (λ w l rest is at. rw at (opens_int w l rest is))

base_no_void : {ts rest : Tokens} {a : RawType} → IsBase ts a rest → sees Name (codes "void") ts ≡ false
unfolding sees
base_no_void (structure free) = refl
base_no_void {ts} (integer h) = int_word_is ts (int_type_begins h) (λ w l rest is at. rw at (apart_by is_int_word w (codes "void") is refl))

declared_or_defined_base : {n : ℕ} {b : RawType} {v : RawVar} {ts mid next rest : Tokens} {all : List RawItem} (d line : ℕ) (is_static : Bool) → IsBase ts b mid → IsDeclarator mid b v next
    → Exact d n (declares d line is_static b v next) all rest → Exact d (max (type_nesting v.shape) n) (declared_or_defined d line is_static ts) all rest
unfolding declared_or_defined
declared_or_defined_base d line is_static h k x = rw (base_no_void h) (after _ (base_read h) (seq _ (declarator_exact k (base_flat h) d) x))

declares_function : {n : ℕ} {rest : Tokens} {all : List RawItem} (d line : ℕ) (is_static : Bool) (b t : RawType) (w : Bytes) (ts : Tokens) (m : ℕ) → is_array t ≡ false → Exact d n (function d line is_static (Some t) w ts) all rest
    → Exact d n (declares d line is_static b (record { name = w; shape = t }) (mark (codes "(") m ∷ ts)) all rest
unfolding declares sees
declares_function d line is_static b t w ts m p x = rw p x

declared_or_defined_void : {n : ℕ} {rest : Tokens} {all : List RawItem} (d line : ℕ) (is_static : Bool) (w : Bytes) (ts : Tokens) (l k m : ℕ) → is_keyword w ≡ false → Exact d n (function d line is_static None w ts) all rest
    → Exact d n (declared_or_defined d line is_static (name (codes "void") l ∷ name w k ∷ mark (codes "(") m ∷ ts)) all rest
unfolding declared_or_defined void_function expect sees
declared_or_defined_void d line is_static w ts l k m free x = after _ (read_name_at w k _ free) x

-- a head, and what stands behind it
no_length : (m : ℕ) (ts : Tokens) → sees Mark (codes "[") (mark (codes "(") m ∷ ts) ≡ false
unfolding sees
no_length m ts = refl

headed_item : {d n : ℕ} {ts mid rest : Tokens} {h : RawHead} {all : List RawItem} → IsHead ts h mid → Exact d n (headed d (line_of ts) h mid) all rest → Exact d (max (head_nesting h) n) (item_of d ts) all rest
headed_item {d} {ts} (head {l} {m} {is_static} {w} {ps} s (IsResult.nothing {l = k}) free p) x =
    same_read (declared_or_defined_begins d s (opens_void k _)) (at_depth (omega arith) (declared_or_defined_void d (line_of ts) is_static w _ k l m free (behind_params d (line_of ts) is_static None w p x)))
headed_item {d} {ts} (head {l} {m} {is_static} {w} {ps} s (IsResult.some {t} (pointed b stars)) free p) x =
    let begin = stars_begin stars in
    same_read (declared_or_defined_begins d s (opens_base b begin.0 begin.1)) (at_depth (omega arith)
    (declared_or_defined_base d (line_of ts) is_static b (IsDeclarator.named stars free (IsOuterLengths.written (IsLengths.done (no_length m _))))
    (declares_function d (line_of ts) is_static _ t w _ m (stars_no_array stars (base_no_array b)) (behind_params d (line_of ts) is_static (Some t) w p x))))

-- ---- items

declarator_begins : {ts rest : Tokens} {b : RawType} {v : RawVar} → IsDeclarator ts b v rest → (sees Mark (codes ";") ts ≡ false) × (sees Mark (codes "{") ts ≡ false)
declarator_begins (IsDeclarator.named h free k) = stars_begin h

tag_begins : (d l m k : ℕ) (w : Bytes) (rest : Tokens) → is_keyword w ≡ false → Exact d 0 (item_of d (name (codes "struct") l ∷ name w m ∷ mark (codes ";") k ∷ rest)) (item.Tag l w ∷ []) rest
unfolding item_of sees_tag tagged sees
tag_begins d l m k w rest free = after _ (read_name_at w m _ free) done

struct_begins : {n : ℕ} {rest : Tokens} {all : List RawItem} (d l m k : ℕ) (w : Bytes) (ts : Tokens) → is_keyword w ≡ false → Exact d n (r.structure d l w ts) all rest → Exact d n (item_of d (name (codes "struct") l ∷ name w m ∷ mark (codes "{") k ∷ ts)) all rest
unfolding item_of sees_tag tagged expect sees
struct_begins d l m k w ts free x = after _ (read_name_at w m _ free) x

struct_exact : {j : ℕ} {ts rest : Tokens} {all : List RawMember} (d line : ℕ) (w : Bytes) → AreMembers ts all (mark (codes ";") j ∷ rest) → Exact d (greatest (map member_nesting all)) (r.structure d line w ts) (item.Struct line w all ∷ []) rest
unfolding r.structure expect sees
struct_exact {ts} d line w h = at_depth (omega arith) (seq _ (members_exact h d (length ts) [] (omega arith)) done)

include_exact : (d l : ℕ) (is_stdlib : Bool) (rest : Tokens) → Exact d 0 (item_of d (of_kind Include (header is_stdlib) l ∷ rest)) (item.Include is_stdlib ∷ []) rest
unfolding item_of sees
include_exact d l true rest = done
include_exact d l false rest = done

pub item_exact : {ts rest : Tokens} {all : List RawItem} → IsItem ts all rest → (d : ℕ) → Exact d (items_nesting all) (item_of d ts) all rest
item_exact (IsItem.include {l} {rest} is_stdlib) d = at_depth (omega arith) (include_exact d l is_stdlib rest)
item_exact (IsItem.tag {l} {m} {k} {w} {rest} free) d = at_depth (omega arith) (tag_begins d l m k w rest free)
item_exact (IsItem.structure {l} {m} {k} {w} free h) d = at_depth (omega arith) (struct_begins d l m k w _ free (struct_exact d l w h))
item_exact (IsItem.globals {ts} {mid} {next} {is_static} {base = b} s h k) d =
    let x = globals_read k (base_flat h) d in
    let begin = declarator_begins x.is in
    at_depth x.nests (same_read (declared_or_defined_begins d s (opens_base h begin.0 begin.1)) (declared_or_defined_base d (line_of ts) is_static h x.is (declares_globals d (line_of ts) is_static b x.var x.mid x.no_open x.exact)))
item_exact (IsItem.prototype {l} {ts} {rest} {h} is) d = at_depth (omega arith) (headed_item is (prototype_exact d (line_of ts) l h rest))
item_exact (IsItem.definition {l} {ts} {h} is named k) d = at_depth (omega arith) (headed_item is (definition_exact d (line_of ts) l h named k))

static_shorter : {ts rest : Tokens} {is_static : Bool} → IsStatic ts is_static rest → length rest ≤ length ts
static_shorter IsStatic.static = omega arith
static_shorter IsStatic.external = omega arith

result_shorter : {ts rest : Tokens} {t : Option RawType} → IsResult ts t rest → length rest ≤ length ts
result_shorter IsResult.nothing = omega arith
result_shorter (IsResult.some (pointed h k)) = let x = base_shorter h in let y = stars_shorter k in omega (arith, x, y)

more_params_shorter : {ts rest : Tokens} {ps : List RawParam} → IsMoreParams ts ps rest → length rest < length ts
more_params_shorter IsMoreParams.closed = omega arith
more_params_shorter (IsMoreParams.more h k) = let x = param_shorter h in omega (arith, x, more_params_shorter k)

pub params_shorter : {ts rest : Tokens} {ps : List RawParam} → IsParams ts ps rest → length rest < length ts
params_shorter IsParams.empty = omega arith
params_shorter IsParams.nothing = omega arith
params_shorter (IsParams.some h k) = let x = param_shorter h in let y = more_params_shorter k in omega (arith, x, y)

head_shorter : {ts rest : Tokens} {h : RawHead} → IsHead ts h rest → length rest < length ts
head_shorter (head s t free p) = let x = static_shorter s in let y = result_shorter t in let z = params_shorter p in omega (arith, x, y, z)

item_shorter : {ts rest : Tokens} {all : List RawItem} → IsItem ts all rest → length rest < length ts
item_shorter (IsItem.include is_stdlib) = omega arith
item_shorter (IsItem.tag free) = omega arith
item_shorter (IsItem.structure free h) = let x = members_shorter h in omega (arith, x)
item_shorter (IsItem.globals s h k) = let x = static_shorter s in let y = base_shorter h in let z = globals_shorter k in omega (arith, x, y, z)
item_shorter (IsItem.prototype h) = let x = head_shorter h in omega (arith, x)
item_shorter (IsItem.definition h named k) = let x = head_shorter h in let y = statements_shorter k in omega (arith, x, y)

shorter_some : (ts rest : Tokens) → length rest < length ts → none_left ts ≡ false
unfolding none_left
shorter_some [] rest p = absurd (omega (arith, p))
shorter_some (t ∷ ts) rest p = refl

nothing_left : none_left [] ≡ true
unfolding none_left
nothing_left = refl

items_from_exact : {ts rest : Tokens} {all : List RawItem} → AreItems ts all rest → none_left rest ≡ true → (d turns : ℕ) (found : List RawItem) → length ts ≤ turns → Exact d (items_nesting all) (items_from d turns found ts) (found ++ all) rest
unfolding items_from
items_from_exact AreItems.done q d zero found p = same_tree (sym (append-nil found)) done
items_from_exact AreItems.done q d (suc turns) found p = rw q (same_tree (sym (append-nil found)) done)
items_from_exact (AreItems.more h k) q d zero found p = absurd (let x = item_shorter h in omega (arith, p, x))
items_from_exact (AreItems.more {ts} {mid} {some} {all} h k) q d (suc turns) found p =
    let x = item_shorter h in
    rw (shorter_some ts mid x) (at_depth (omega (arith, greatest_append item_nesting some all))
    (seq _ (item_exact h d) (same_tree (append_assoc found some all) (items_from_exact k q d turns (found ++ some) (omega (arith, p, x))))))

-- A text with a tree is read as that tree where it nests at most so deep, and else told to be too deep.
pub program_exact : {ts : Tokens} {all : RawProgram} → IsProgram ts all → (limit : ℕ) → Exact limit (program_nesting all) (program limit ts) all []
unfolding program
program_exact {ts} h limit = at_depth (omega arith) (seq {n = 0} _ (items_from_exact h nothing_left limit (length ts) [] (omega arith)) (rw nothing_left done))
