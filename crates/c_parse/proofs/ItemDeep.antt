-- Where a text is refused as too deep, more tokens than the limit can nest.
use Rattle.std.proofs.Common.{◌≡◌, ℕ, zero, suc, ◌+◌, ◌≤◌, ◌<◌, List, [], ◌∷◌, ◌++◌, length, drop, ap, arith, true, false, Bool, Option, Some, None, Err, codes}
use Rattle.c_tree.specs.declared.raw.expr.RawType.{RawType}
use Rattle.c_tree.specs.declared.raw.expr.RawVar.{RawVar}
use Rattle.c_tree.specs.declared.raw.program.RawMember.{RawMember}
use Rattle.c_tree.specs.declared.raw.program.RawHead.{RawHead}
use Rattle.c_tree.specs.declared.raw.program.RawItem.{RawItem}
use Rattle.c_language.specs.Words.{Bytes}
use Rattle.c_language.specs.TokenForms.{Tokens, name, mark, line_of}
use Rattle.c_language.specs.Sees.{sees}
use Rattle.c_language.specs.TypeGrammar.{IsDeclarator, is_listed}
use Rattle.c_language.specs.Nesting.{type_nesting, nesting_tokens}
use Rattle.c_language.specs.ItemGrammar.{IsMemberDeclarator, IsMember, member, AreMembers, IsGlobal, IsStatic, IsResult, IsHead, head, are_named, header, IsItem}
use Rattle.c_language.specs.TypeGrammar.{pointed}
use Rattle.c_language.specs.declared.token.TokenKind.TheVariants.{Name, Mark, Include}
use Rattle.c_parse_expr.specs.Outcome.{Deep, expect, read_name}
use Rattle.c_parse_expr.specs.ExprReading.{expression}
use Rattle.c_parse_expr.specs.TypeReading.{base, declarator, params}
use Rattle.c_parse_simple.specs.SimpleReading.{list}
use Rattle.c_parse_statements.specs.StatementReading.{braced, nested_statement}
use Rattle.c_parse.specs.ItemReading as r
use Rattle.c_parse.specs.ItemReading.{member_of, members_from, tagged, sees_tag, global_init, global_of, global, globals, definition, headed, function, is_array, declares, void_function, declared_or_defined, item_of, none_left, items_from, items, program}
use Rattle.c_parse_expr.proofs.Tests.{by_fault, by_expect, by_name, expect_fault, name_fault}
use Rattle.c_parse_expr.proofs.ExprDeep.{expr_tokens, IsDeep, drop_tokens, whole_expr_deep}
use Rattle.c_parse_expr.proofs.TypeLaws.{base_flat}
use Rattle.c_parse_expr.proofs.TypeSound.{base_sound, declarator_sound, params_sound}
use Rattle.c_parse_expr.proofs.TypeDeep.{base_tokens, stars_tokens, declarator_tokens, params_tokens, base_fault, declarator_deep, params_deep}
use Rattle.c_parse_simple.proofs.CallDeep.{separated_tokens, separated_deep, list_tokens, list_deep}
use Rattle.c_parse_statements.proofs.StatementSound.{nested_statement_sound}
use Rattle.c_parse_statements.proofs.StatementDeep.{statements_tokens, braced_deep, nested_statement_deep}
use Rattle.c_parse.proofs.ItemSound.{member_of_sound, member_sound, global_of_sound, global_sound, item_sound}
use Rattle.c_language.proofs.Tests.{by_test}

-- ---- what is read leaves no more tokens that nest

member_of_tokens : {line : ℕ} {b : RawType} {ts rest : Tokens} {m : RawMember} → type_nesting b ≡ 0 → IsMemberDeclarator line b ts m rest → nesting_tokens rest ≤ nesting_tokens ts
member_of_tokens flat (IsMemberDeclarator.named h p) = let x = declarator_tokens h in omega (arith, flat, x)

member_tokens : {ts rest : Tokens} {all : List RawMember} → IsMember ts all rest → nesting_tokens rest ≤ nesting_tokens ts
member_tokens {ts} (member {base = b} h k) =
    let flat = base_flat h in
    let x = base_tokens h in
    let y = separated_tokens (IsMemberDeclarator (line_of ts) b) (codes ";") (λ ts rest a h. member_of_tokens flat h) (λ l ts. omega arith) k in
    omega (arith, x, y)

members_tokens : {ts rest : Tokens} {all : List RawMember} → AreMembers ts all rest → nesting_tokens rest ≤ nesting_tokens ts
members_tokens (AreMembers.last h) = let x = member_tokens h in omega (arith, x)
members_tokens (AreMembers.more h k) = let x = member_tokens h in omega (arith, x, members_tokens k)

global_tokens : {line : ℕ} {is_static : Bool} {b : RawType} {ts rest : Tokens} {g : RawItem} → type_nesting b ≡ 0 → IsGlobal line is_static b ts g rest → nesting_tokens rest ≤ nesting_tokens ts
global_tokens flat (IsGlobal.plain h p) = let x = declarator_tokens h in omega (arith, flat, x)
global_tokens flat (IsGlobal.value h p k) = let x = declarator_tokens h in let y = expr_tokens k in omega (arith, flat, x, y)
global_tokens flat (IsGlobal.list h k) = let x = declarator_tokens h in let y = list_tokens k in omega (arith, flat, x, y)

static_tokens : {ts rest : Tokens} {is_static : Bool} → IsStatic ts is_static rest → nesting_tokens rest ≤ nesting_tokens ts
static_tokens IsStatic.static = omega arith
static_tokens IsStatic.external = omega arith

result_tokens : {ts rest : Tokens} {t : Option RawType} → IsResult ts t rest → nesting_tokens rest ≤ nesting_tokens ts
result_tokens IsResult.nothing = omega arith
result_tokens (IsResult.some (pointed h k)) = let x = base_tokens h in let y = stars_tokens k in let z = base_flat h in omega (arith, x, y, z)

head_tokens : {ts rest : Tokens} {h : RawHead} → IsHead ts h rest → nesting_tokens rest ≤ nesting_tokens ts
head_tokens (head {l} {m} {next} {w} s t free p) =
    let x = static_tokens s in
    let y = result_tokens t in
    let z = params_tokens p in
    let v = drop_tokens (name w l ∷ mark (codes "(") m ∷ next) in
    omega (arith, x, y, z, v)

item_tokens : {ts rest : Tokens} {all : List RawItem} → IsItem ts all rest → nesting_tokens rest ≤ nesting_tokens ts
item_tokens (IsItem.include is_stdlib) = omega arith
item_tokens (IsItem.tag {m} {k} {w} {rest} free) = let x = drop_tokens (name w m ∷ mark (codes ";") k ∷ rest) in omega (arith, x)
item_tokens (IsItem.structure {m} {k} {w} {ts} free h) = let x = members_tokens h in let y = drop_tokens (name w m ∷ mark (codes "{") k ∷ ts) in omega (arith, x, y)
item_tokens (IsItem.globals {ts} {is_static} {base = b} s h k) =
    let flat = base_flat h in
    let x = static_tokens s in
    let y = base_tokens h in
    let z = separated_tokens (IsGlobal (line_of ts) is_static b) (codes ";") (λ ts rest a h. global_tokens flat h) (λ l ts. omega arith) k in
    omega (arith, x, y, z)
item_tokens (IsItem.prototype h) = let x = head_tokens h in omega (arith, x)
item_tokens (IsItem.definition h named k) = let x = head_tokens h in let y = statements_tokens k in omega (arith, x, y)

-- ---- items

member_of_deep : (d line : ℕ) (b : RawType) → type_nesting b ≡ 0 → IsDeep (suc d) (member_of d line b)
unfolding member_of
member_of_deep d line b flat ts h = by_fault (declarator d b ts) _ h (λ h. let x = declarator_deep d b ts flat h in omega (arith, x)) (λ v mid _ h. by_test (is_listed v.shape) h (λ _ h. absurd cc) (λ _ h. absurd cc))

member_deep : (d : ℕ) → IsDeep (suc d) (r.member d)
unfolding r.member
member_deep d ts h = by_fault (base ts) _ h (base_fault ts) (λ b mid went h.
    let is = base_sound ts mid b went in
    let flat = base_flat is in
    let y = base_tokens is in
    let x = separated_deep (codes ";") (member_of d (line_of ts) b) (suc d) (member_of_deep d (line_of ts) b flat) (λ ts a rest went. member_of_tokens flat (member_of_sound d _ b ts a rest went)) (length mid) [] mid h in
    omega (arith, x, y))

members_deep : (d turns : ℕ) (found : List RawMember) → IsDeep (suc d) (members_from d turns found)
unfolding members_from
members_deep d zero found ts h = absurd cc
members_deep d (suc turns) found ts h = by_fault (r.member d ts) _ h (member_deep d ts) (λ some mid went h.
    by_test (sees Mark (codes "}") mid) h (λ _ h. absurd cc)
    (λ _ h. let x = members_deep d turns (found ++ some) mid h in let y = member_tokens (member_sound d ts some mid went) in omega (arith, x, y)))

tagged_deep : (d line : ℕ) → IsDeep (suc d) (tagged d line)
unfolding tagged r.structure
tagged_deep d line ts h = by_fault (read_name ts) _ h (name_fault ts) (λ w mid went h.
    by_name ts mid w went (λ m free at.
    let p : nesting_tokens ts ≡ nesting_tokens (name w m ∷ mid) = ap nesting_tokens at in
    let q = drop_tokens (name w m ∷ mid) in
    by_test (sees Mark (codes ";") mid) h (λ _ h. absurd cc)
    (λ _ h. by_fault (expect (codes "{") mid) _ h (expect_fault (codes "{") mid) (λ u after opened h.
    by_expect (codes "{") mid after u opened (λ k at2.
    let y : nesting_tokens mid ≡ nesting_tokens (mark (codes "{") k ∷ after) = ap nesting_tokens at2 in
    by_fault (members_from d (length after) [] after) _ h (λ h. let x = members_deep d (length after) [] after h in omega (arith, x, y, p, q))
    (λ some next _ h. by_fault (expect (codes ";") next) _ h (expect_fault (codes ";") next) (λ _ _ _ h. absurd cc)))))))

init_deep : (d line : ℕ) (is_static : Bool) (v : RawVar) → IsDeep (suc d) (global_init d line is_static v)
unfolding global_init
init_deep d line is_static v ts h = by_test (sees Mark (codes "{") ts) h
    (λ _ h. by_fault (list d (drop 1 ts)) _ h (λ h. let x = list_deep d (drop 1 ts) h in let y = drop_tokens ts in omega (arith, x, y)) (λ _ _ _ h. absurd cc))
    (λ _ h. by_test (is_listed v.shape) h (λ _ h. absurd cc)
    (λ _ h. by_fault (expression d 1 ts) _ h (whole_expr_deep d 1 (omega arith) (omega arith) ts) (λ _ _ _ h. absurd cc)))

global_of_deep : (d line : ℕ) (is_static : Bool) (v : RawVar) → IsDeep (suc d) (global_of d line is_static v)
unfolding global_of
global_of_deep d line is_static v ts h = by_test (sees Mark (codes "=") ts) h
    (λ _ h. let x = init_deep d line is_static v (drop 1 ts) h in let y = drop_tokens ts in omega (arith, x, y))
    (λ _ h. by_test (is_listed v.shape) h (λ _ h. absurd cc) (λ _ h. absurd cc))

global_deep : (d line : ℕ) (is_static : Bool) (b : RawType) → type_nesting b ≡ 0 → IsDeep (suc d) (global d line is_static b)
unfolding global
global_deep d line is_static b flat ts h = by_fault (declarator d b ts) _ h (λ h. let x = declarator_deep d b ts flat h in omega (arith, x)) (λ v mid went h.
    let x = global_of_deep d line is_static v mid h in
    let y = declarator_tokens (declarator_sound d ts mid b v went).is in
    omega (arith, flat, x, y))

-- behind the first declarator
globals_deep : (d line : ℕ) (is_static : Bool) (b : RawType) (v : RawVar) (start ts : Tokens) → type_nesting b ≡ 0 → IsDeclarator start b v ts → globals d line is_static b v ts ≡ Err Deep → suc d ≤ nesting_tokens start
unfolding globals
globals_deep d line is_static b v start ts flat is h =
    let p = declarator_tokens is in
    by_fault (global_of d line is_static v ts) _ h (λ h. let x = global_of_deep d line is_static v ts h in omega (arith, flat, x, p)) (λ g mid went h.
    let q = global_tokens flat (global_of_sound d line is_static b v start ts g mid is went) in
    by_test (sees Mark (codes ";") mid) h (λ _ h. absurd cc)
    (λ _ h. by_fault (expect (codes ",") mid) _ h (expect_fault (codes ",") mid) (λ u after parted h.
    by_expect (codes ",") mid after u parted (λ l at.
    let y : nesting_tokens mid ≡ nesting_tokens (mark (codes ",") l ∷ after) = ap nesting_tokens at in
    let x = separated_deep (codes ";") (global d line is_static b) (suc d) (global_deep d line is_static b flat) (λ ts a rest went. global_tokens flat (global_sound d line is_static b ts a rest went)) (length after) (g ∷ []) after h in
    omega (arith, x, y, q)))))

headed_deep : (d line : ℕ) (f : RawHead) → IsDeep (suc d) (headed d line f)
unfolding headed definition
headed_deep d line f ts h = by_test (sees Mark (codes ";") ts) h (λ _ h. absurd cc)
    (λ _ h. by_fault (expect (codes "{") ts) _ h (expect_fault (codes "{") ts) (λ u mid opened h.
    by_expect (codes "{") ts mid u opened (λ l at.
    let y : nesting_tokens ts ≡ nesting_tokens (mark (codes "{") l ∷ mid) = ap nesting_tokens at in
    by_test (are_named f.params) h
    (λ _ h. by_fault (braced (nested_statement (d + 1)) (d + 1) mid) _ h
    (λ h. let x = braced_deep (nested_statement (d + 1)) (d + 1) (nested_statement_sound (d + 1)) (nested_statement_deep (d + 1)) mid h in omega (arith, x, y))
    (λ _ _ _ h. absurd cc))
    (λ _ h. absurd cc))))

function_deep : (d line : ℕ) (is_static : Bool) (t : Option RawType) (w : Bytes) → IsDeep (suc d) (function d line is_static t w)
unfolding function
function_deep d line is_static t w ts h = by_fault (params d ts) _ h (λ h. let x = params_deep d ts h in omega (arith, x)) (λ ps mid went h.
    let x = headed_deep d line _ mid h in
    let y = params_tokens (params_sound d ts mid ps went).is in
    omega (arith, x, y))

declared_or_defined_deep : (d line : ℕ) (is_static : Bool) → IsDeep (suc d) (declared_or_defined d line is_static)
unfolding declared_or_defined void_function declares
declared_or_defined_deep d line is_static ts h = by_test (sees Name (codes "void") ts) h
    (λ _ h. by_fault (read_name (drop 1 ts)) _ h (name_fault (drop 1 ts)) (λ w mid went h.
    by_name (drop 1 ts) mid w went (λ l free at.
    let o = drop_tokens ts in
    let p : nesting_tokens (drop 1 ts) ≡ nesting_tokens (name w l ∷ mid) = ap nesting_tokens at in
    let q = drop_tokens (name w l ∷ mid) in
    by_fault (expect (codes "(") mid) _ h (expect_fault (codes "(") mid) (λ u after opened h.
    by_expect (codes "(") mid after u opened (λ m at2.
    let y : nesting_tokens mid ≡ nesting_tokens (mark (codes "(") m ∷ after) = ap nesting_tokens at2 in
    let x = function_deep d line is_static None w after h in
    omega (arith, x, y, o, p, q))))))
    (λ _ h. by_fault (base ts) _ h (base_fault ts) (λ b mid went h.
    let is = base_sound ts mid b went in
    let flat = base_flat is in
    let z = base_tokens is in
    by_fault (declarator d b mid) _ h (λ h. let x = declarator_deep d b mid flat h in omega (arith, x, z)) (λ v after went2 h.
    let k = (declarator_sound d mid after b v went2).is in
    let y = declarator_tokens k in
    by_test (sees Mark (codes "(") after) h
    (λ _ h. by_test (is_array v.shape) h (λ _ h. absurd cc)
    (λ _ h. let x = function_deep d line is_static (Some v.shape) v.name (drop 1 after) h in let w = drop_tokens after in omega (arith, flat, x, y, z, w)))
    (λ _ h. let x = globals_deep d line is_static b v mid after flat k h in omega (arith, x, z)))))

item_deep : (d : ℕ) → IsDeep (suc d) (item_of d)
unfolding item_of
item_deep d ts h = by_test (sees Include (header false) ts) h (λ _ h. absurd cc)
    (λ _ h. by_test (sees Include (header true) ts) h (λ _ h. absurd cc)
    (λ _ h. by_test (sees_tag ts) h
    (λ _ h. let x = tagged_deep d (line_of ts) (drop 1 ts) h in let y = drop_tokens ts in omega (arith, x, y))
    (λ _ h. by_test (sees Name (codes "static") ts) h
    (λ _ h. let x = declared_or_defined_deep d (line_of ts) true (drop 1 ts) h in let y = drop_tokens ts in omega (arith, x, y))
    (λ _ h. declared_or_defined_deep d (line_of ts) false ts h))))

items_deep : (d turns : ℕ) (found : List RawItem) → IsDeep (suc d) (items_from d turns found)
unfolding items_from
items_deep d zero found ts h = absurd cc
items_deep d (suc turns) found ts h = by_test (none_left ts) h (λ _ h. absurd cc)
    (λ _ h. by_fault (item_of d ts) _ h (item_deep d ts) (λ some mid went h.
    let x = items_deep d turns (found ++ some) mid h in
    let y = item_tokens (item_sound d ts some mid went) in
    omega (arith, x, y)))

-- Where a text is refused as too deep, more of its tokens than the limit can nest.
pub program_deep : (limit : ℕ) (ts : Tokens) → program limit ts ≡ Err Deep → limit < nesting_tokens ts
unfolding program
program_deep limit ts h = by_fault (items limit ts) _ h
    (λ h. let x = items_deep limit (length ts) [] ts h in omega (arith, x))
    (λ all rest _ h. by_test (none_left rest) h (λ _ h. absurd cc) (λ _ h. absurd cc))
