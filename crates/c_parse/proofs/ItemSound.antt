-- What is read as a text has the grammar's tree.
use Rattle.std.proofs.Common.{◌≡◌, ℕ, zero, suc, ◌+◌, List, [], ◌∷◌, ◌++◌, append_assoc, append-nil, length, drop, refl, sym, ap, subst, ◌∙◌, true, false, Bool, Option, Some, None, Ok, codes}
use Rattle.std.proofs.lemmas.Bool.{and_parts}
use Rattle.c_tree.specs.declared.raw.expr.RawLength.TheVariants.{Written, Listed}
use Rattle.c_tree.specs.declared.raw.expr.RawType.{RawType}
use Rattle.c_tree.specs.declared.raw.expr.RawVar.{RawVar}
use Rattle.c_tree.specs.declared.raw.program.RawMember.{RawMember}
use Rattle.c_tree.specs.declared.raw.program.RawHead.{RawHead}
use Rattle.c_tree.specs.declared.raw.program.RawItem.{RawItem}
use Rattle.c_tree.specs.declared.raw.program.RawProgram.{RawProgram}
use Rattle.c_language.specs.Words.{Bytes}
use Rattle.c_language.specs.TokenForms.{Tokens, of_kind, name, mark, line_of}
use Rattle.c_language.specs.Sees.{sees, is_keyword}
use Rattle.c_language.specs.TypeGrammar.{IsBase, IsStars, IsLengths, IsOuterLengths, IsDeclarator, pointed, is_listed}
use Rattle.c_language.specs.StatementGrammar.{IsSeparated}
use Rattle.c_language.specs.ItemGrammar.{IsMemberDeclarator, IsMember, member, AreMembers, IsGlobal, AreGlobals, IsStatic, IsResult, IsHead, head, are_named, header, IsItem, AreItems, IsProgram}
use Rattle.c_language.specs.declared.token.TokenKind.TheVariants.{Name, Mark, Include}
use Rattle.c_parse_expr.specs.Outcome.{expect, read_name}
use Rattle.c_parse_expr.specs.ExprReading.{expression}
use Rattle.c_parse_expr.specs.TypeReading.{base, declarator, params}
use Rattle.c_parse_simple.specs.SimpleReading.{list}
use Rattle.c_parse_statements.specs.StatementReading.{braced, nested_statement}
use Rattle.c_parse.specs.ItemReading as r
use Rattle.c_parse.specs.ItemReading.{member_of, members_from, tagged, sees_tag, global_init, global_of, global, globals, definition, headed, function, is_array, declares, void_function, declared_or_defined, item_of, none_left, items_from, items, program}
use Rattle.c_parse_words.proofs.SeenTokens.{by_seen}
use Rattle.c_parse_expr.proofs.Tests.{by_step, by_expect, by_name, with_parts}
use Rattle.c_parse_expr.proofs.TypeSound.{base_sound, declarator_sound, params_sound}
use Rattle.c_parse_simple.proofs.CallSound.{expression_is, separated_read, separated_sound}
use Rattle.c_parse_simple.proofs.SimpleSound.{list_sound}
use Rattle.c_parse_statements.proofs.StatementSound.{braced_sound, nested_statement_sound}
use Rattle.c_parse.proofs.ItemLaws.{is_array-Array}
use Rattle.c_language.proofs.Tests.{by_test}

-- ---- struct definitions

pub member_of_sound : (d line : ℕ) (b : RawType) (ts : Tokens) (m : RawMember) (rest : Tokens) → member_of d line b ts ≡ Ok (m, rest) → IsMemberDeclarator line b ts m rest
unfolding member_of
member_of_sound d line b ts m rest h =
    by_step (declarator d b ts) _ h (λ v mid went h.
    let x = declarator_sound d ts mid b v went in
    by_test (is_listed v.shape) h (λ _ h. absurd cc)
    (λ whole h. with_parts (λ (y : RawMember) r. IsMemberDeclarator line b ts y r) h (IsMemberDeclarator.named x.is whole)))

pub member_sound : (d : ℕ) (ts : Tokens) (all : List RawMember) (rest : Tokens) → r.member d ts ≡ Ok (all, rest) → IsMember ts all rest
unfolding r.member
member_sound d ts all rest h =
    by_step (base ts) _ h (λ b mid went h.
    member (base_sound ts mid b went) (separated_sound (IsMemberDeclarator (line_of ts) b) (codes ";") (member_of d (line_of ts) b) (member_of_sound d (line_of ts) b) (length mid) mid all rest h))

record MembersRead (found : List RawMember) (ts : Tokens) (all : List RawMember) (rest : Tokens) : Type 0 where
  added : List RawMember
  is : AreMembers ts added rest
  same : all ≡ found ++ added

members_read : (d turns : ℕ) (found : List RawMember) (ts : Tokens) (all : List RawMember) (rest : Tokens) → members_from d turns found ts ≡ Ok (all, rest) → MembersRead found ts all rest
unfolding members_from
members_read d zero found ts all rest h = absurd cc
members_read d (suc turns) found ts all rest h =
    by_step (r.member d ts) _ h (λ some mid went h.
    by_test (sees Mark (codes "}") mid) h
    (λ is h. by_seen Mark (codes "}") mid is (λ l after at.
    with_parts (λ b r. MembersRead found ts b r) (rw at at h) (record { added = some; is = AreMembers.last (rw at at (member_sound d ts some mid went)); same = refl })))
    (λ _ h. let x = members_read d turns (found ++ some) mid all rest h in
    record { added = some ++ x.added; is = AreMembers.more (member_sound d ts some mid went) x.is; same = x.same ∙ append_assoc found some x.added }))

tagged_sound : (d line : ℕ) (ts : Tokens) (all : List RawItem) (rest : Tokens) → tagged d line ts ≡ Ok (all, rest) → IsItem (name (codes "struct") line ∷ ts) all rest
unfolding tagged r.structure
tagged_sound d line ts all rest h =
    by_step (read_name ts) _ h (λ w mid went h.
    by_name ts mid w went (λ m free at. rw at (
    by_test (sees Mark (codes ";") mid) h
    (λ is h. by_seen Mark (codes ";") mid is (λ k after at2. rw at2 (
    with_parts (λ b r. IsItem (name (codes "struct") line ∷ name w m ∷ mark (codes ";") k ∷ after) b r) (rw at2 at h) (IsItem.tag free))))
    (λ _ h. by_step (expect (codes "{") mid) _ h (λ u after opened h.
    by_expect (codes "{") mid after u opened (λ k at2. rw at2 (
    by_step (members_from d (length after) [] after) _ h (λ some next went2 h.
    by_step (expect (codes ";") next) _ h (λ v last closed h.
    by_expect (codes ";") next last v closed (λ j at3.
    let x = members_read d (length after) [] after some next went2 in
    let are : AreMembers after some next = subst (λ y. AreMembers after y next) (sym x.same) x.is in
    with_parts (λ b r. IsItem (name (codes "struct") line ∷ name w m ∷ mark (codes "{") k ∷ after) b r) h (IsItem.structure free (rw at3 at are))))))))))))

-- ---- globals

init_sound : (d line l : ℕ) (is_static : Bool) (b : RawType) (v : RawVar) (start ts : Tokens) (g : RawItem) (rest : Tokens) → IsDeclarator start b v (mark (codes "=") l ∷ ts) → global_init d line is_static v ts ≡ Ok (g, rest)
    → IsGlobal line is_static b start g rest
unfolding global_init
init_sound d line l is_static b v start ts g rest is h = by_test (sees Mark (codes "{") ts) h
    (λ there h. by_seen Mark (codes "{") ts there (λ m mid at.
    by_step (list d (drop 1 ts)) _ h (λ all after went h.
    let e : drop 1 ts ≡ mid = ap (drop 1) at in
    with_parts (λ x r. IsGlobal line is_static b start x r) h (IsGlobal.list (subst (λ r. IsDeclarator start b v (mark (codes "=") l ∷ r)) at is) (list_sound d mid all after (rw e at went))))))
    (λ _ h. by_test (is_listed v.shape) h (λ _ h. absurd cc)
    (λ whole h. by_step (expression d 1 ts) _ h (λ a mid went h. with_parts (λ x r. IsGlobal line is_static b start x r) h (IsGlobal.value is whole (expression_is d ts a mid went)))))

pub global_of_sound : (d line : ℕ) (is_static : Bool) (b : RawType) (v : RawVar) (start ts : Tokens) (g : RawItem) (rest : Tokens) → IsDeclarator start b v ts → global_of d line is_static v ts ≡ Ok (g, rest) → IsGlobal line is_static b start g rest
unfolding global_of
global_of_sound d line is_static b v start ts g rest is h = by_test (sees Mark (codes "=") ts) h
    (λ there h. by_seen Mark (codes "=") ts there (λ l after at. init_sound d line l is_static b v start after g rest (rw at at is) (rw at at h)))
    (λ _ h. by_test (is_listed v.shape) h (λ _ h. absurd cc)
    (λ whole h. with_parts (λ x r. IsGlobal line is_static b start x r) h (IsGlobal.plain is whole)))

pub global_sound : (d line : ℕ) (is_static : Bool) (b : RawType) (ts : Tokens) (g : RawItem) (rest : Tokens) → global d line is_static b ts ≡ Ok (g, rest) → IsGlobal line is_static b ts g rest
unfolding global
global_sound d line is_static b ts g rest h =
    by_step (declarator d b ts) _ h (λ v mid went h. let x = declarator_sound d ts mid b v went in global_of_sound d line is_static b v ts mid g rest x.is h)

globals_sound : (d line : ℕ) (is_static : Bool) (b : RawType) (v : RawVar) (start ts : Tokens) (all : List RawItem) (rest : Tokens) → IsDeclarator start b v ts → globals d line is_static b v ts ≡ Ok (all, rest)
    → AreGlobals line is_static b start all rest
unfolding globals
globals_sound d line is_static b v start ts all rest is h =
    by_step (global_of d line is_static v ts) _ h (λ g mid went h.
    let one = global_of_sound d line is_static b v start ts g mid is went in
    by_test (sees Mark (codes ";") mid) h
    (λ there h. by_seen Mark (codes ";") mid there (λ l after at. with_parts (λ x r. AreGlobals line is_static b start x r) (rw at at h) (IsSeparated.last (rw at at one))))
    (λ _ h. by_step (expect (codes ",") mid) _ h (λ u after parted h.
    by_expect (codes ",") mid after u parted (λ l at.
    let x = separated_read (IsGlobal line is_static b) (codes ";") (global d line is_static b) (global_sound d line is_static b) (length after) (g ∷ []) after all rest h in
    let more : AreGlobals line is_static b start (g ∷ x.added) rest = IsSeparated.more (rw at at one) x.is in
    subst (λ y. AreGlobals line is_static b start y rest) (sym x.same) more))))

-- ---- functions

headed_sound : (d : ℕ) (start ts : Tokens) (f : RawHead) (all : List RawItem) (rest : Tokens) → IsHead start f ts → headed d (line_of start) f ts ≡ Ok (all, rest) → IsItem start all rest
unfolding headed definition
headed_sound d start ts f all rest is h = by_test (sees Mark (codes ";") ts) h
    (λ there h. by_seen Mark (codes ";") ts there (λ l mid at. with_parts (λ x r. IsItem start x r) (rw at at h) (IsItem.prototype (rw at at is))))
    (λ _ h. by_step (expect (codes "{") ts) _ h (λ u mid opened h.
    by_expect (codes "{") ts mid u opened (λ l at.
    by_test (are_named f.params) h
    (λ named h. by_step (braced (nested_statement (d + 1)) (d + 1) mid) _ h (λ body after went h.
    let x = braced_sound (nested_statement (d + 1)) (d + 1) (nested_statement_sound (d + 1)) mid body after went in
    with_parts (λ y r. IsItem start y r) h (IsItem.definition (rw at at is) named x.1)))
    (λ _ h. absurd cc))))

function_sound : (d m : ℕ) (is_static : Bool) (t : Option RawType) (w : Bytes) (l : ℕ) (start mid ts : Tokens) (all : List RawItem) (rest : Tokens) → IsStatic start is_static mid
    → IsResult mid t (name w l ∷ mark (codes "(") m ∷ ts) → is_keyword w ≡ false → function d (line_of start) is_static t w ts ≡ Ok (all, rest) → IsItem start all rest
unfolding function
function_sound d m is_static t w l start mid ts all rest s is free h =
    by_step (params d ts) _ h (λ ps after went h.
    let x = params_sound d ts after ps went in
    headed_sound d start after _ all rest (head s is free x.is) h)

-- a declarator without lengths
plain_declarator : {G : Type 0} (w : Bytes) (l : ℕ) (a b : RawType) (ts rest : Tokens) → IsOuterLengths ts a b rest → is_array b ≡ false → (a ≡ b → ts ≡ rest → G) → G
plain_declarator w l a b ts rest (IsOuterLengths.written (IsLengths.done h)) p go = go refl refl
plain_declarator w l a b ts rest (IsOuterLengths.written (IsLengths.length {n} {b = c} h k)) p go = absurd (let e : true ≡ false = sym (is_array-Array c (Written n)) ∙ p in cc)
plain_declarator w l a b ts rest (IsOuterLengths.empty {b = c} h) p go = absurd (let e : true ≡ false = sym (is_array-Array c Listed) ∙ p in cc)

result_of : {G : Type 0} (mid ts : Tokens) (b : RawType) (v : RawVar) → IsDeclarator mid b v ts → is_array v.shape ≡ false → ((l : ℕ) → is_keyword v.name ≡ false → IsStars mid b v.shape (name v.name l ∷ ts) → G) → G
result_of mid ts b v (IsDeclarator.named {l} {mid = next} {a} {b = c} {text} stars free outer) p go =
    plain_declarator text l a c next ts outer p (λ e f. go l free (subst (λ x. IsStars mid b x (name text l ∷ ts)) e (subst (λ r. IsStars mid b a (name text l ∷ r)) f stars)))

declares_sound : (d : ℕ) (is_static : Bool) (b : RawType) (v : RawVar) (start mid next ts : Tokens) (all : List RawItem) (rest : Tokens) → IsStatic start is_static mid → IsBase mid b next → IsDeclarator next b v ts
    → declares d (line_of start) is_static b v ts ≡ Ok (all, rest) → IsItem start all rest
unfolding declares
declares_sound d is_static b v start mid next ts all rest s is k h = by_test (sees Mark (codes "(") ts) h
    (λ there h. by_test (is_array v.shape) h (λ _ h. absurd cc)
    (λ plain h. by_seen Mark (codes "(") ts there (λ m after at.
    result_of next (mark (codes "(") m ∷ after) b v (rw at at k) plain (λ l free stars.
    function_sound d m is_static (Some v.shape) v.name l start mid after all rest s (IsResult.some (pointed is stars)) free (rw at at h)))))
    (λ _ h. IsItem.globals s is (globals_sound d (line_of start) is_static b v next ts all rest k h))

declared_or_defined_sound : (d : ℕ) (is_static : Bool) (start ts : Tokens) (all : List RawItem) (rest : Tokens) → IsStatic start is_static ts → declared_or_defined d (line_of start) is_static ts ≡ Ok (all, rest) → IsItem start all rest
unfolding declared_or_defined void_function
declared_or_defined_sound d is_static start ts all rest s h = by_test (sees Name (codes "void") ts) h
    (λ there h. by_seen Name (codes "void") ts there (λ k mid at.
    by_step (read_name (drop 1 ts)) _ h (λ w after went h.
    let e : drop 1 ts ≡ mid = ap (drop 1) at in
    by_name mid after w (rw e at went) (λ l free at2.
    by_step (expect (codes "(") after) _ h (λ u last opened h.
    by_expect (codes "(") after last u opened (λ m at3.
    let begun : IsStatic start is_static (name (codes "void") k ∷ name w l ∷ mark (codes "(") m ∷ last) =
    subst (λ r. IsStatic start is_static r) (at ∙ (ap (λ r. name (codes "void") k ∷ r) at2 ∙ ap (λ r. name (codes "void") k ∷ name w l ∷ r) at3)) s in
    function_sound d m is_static None w l start _ last all rest begun IsResult.nothing free h))))))
    (λ _ h. by_step (base ts) _ h (λ b mid went h.
    by_step (declarator d b mid) _ h (λ v after went2 h.
    let x = declarator_sound d mid after b v went2 in
    declares_sound d is_static b v start ts mid after all rest s (base_sound ts mid b went) x.is h)))

-- ---- items

pub item_sound : (d : ℕ) (ts : Tokens) (all : List RawItem) (rest : Tokens) → item_of d ts ≡ Ok (all, rest) → IsItem ts all rest
unfolding item_of sees_tag
item_sound d ts all rest h = by_test (sees Include (header false) ts) h
    (λ is h. by_seen Include (header false) ts is (λ l mid at. rw at (with_parts (λ b r. IsItem (of_kind Include (header false) l ∷ mid) b r) (rw at at h) (IsItem.include false))))
    (λ _ h. by_test (sees Include (header true) ts) h
    (λ is h. by_seen Include (header true) ts is (λ l mid at. rw at (with_parts (λ b r. IsItem (of_kind Include (header true) l ∷ mid) b r) (rw at at h) (IsItem.include true))))
    (λ _ h. by_test (sees_tag ts) h
    (λ is h. let p = and_parts (sees Name (codes "struct") ts) _ is in by_seen Name (codes "struct") ts p.0 (λ l mid at. rw at (tagged_sound d l mid all rest (rw at at h))))
    (λ _ h. by_test (sees Name (codes "static") ts) h
    (λ is h. by_seen Name (codes "static") ts is (λ l mid at. declared_or_defined_sound d true ts mid all rest (rw at IsStatic.static) (subst (λ r. declared_or_defined d (line_of ts) true r ≡ Ok (all, rest)) (ap (drop 1) at) h)))
    (λ _ h. declared_or_defined_sound d false ts ts all rest IsStatic.external h))))

record ItemsRead (found : List RawItem) (ts : Tokens) (all : List RawItem) (rest : Tokens) : Type 0 where
  added : List RawItem
  is : AreItems ts added rest
  same : all ≡ found ++ added

no_items : (found : List RawItem) (ts : Tokens) → ItemsRead found ts found ts
no_items found ts = record { added = []; is = AreItems.done; same = sym (append-nil found) }

items_read : (d turns : ℕ) (found : List RawItem) (ts : Tokens) (all : List RawItem) (rest : Tokens) → items_from d turns found ts ≡ Ok (all, rest) → ItemsRead found ts all rest
unfolding items_from
items_read d zero found ts all rest h = with_parts (λ b r. ItemsRead found ts b r) h (no_items found ts)
items_read d (suc turns) found ts all rest h = by_test (none_left ts) h
    (λ _ h. with_parts (λ b r. ItemsRead found ts b r) h (no_items found ts))
    (λ _ h. by_step (item_of d ts) _ h (λ some mid went h.
    let x = items_read d turns (found ++ some) mid all rest h in
    record { added = some ++ x.added; is = AreItems.more (item_sound d ts some mid went) x.is; same = x.same ∙ append_assoc found some x.added }))

none_is : (ts : Tokens) → none_left ts ≡ true → ts ≡ []
unfolding none_left
none_is [] h = refl
none_is (t ∷ ts) h = absurd cc

-- What is read of all tokens is the tree of a text.
pub program_sound : (limit : ℕ) (ts : Tokens) (all : RawProgram) (rest : Tokens) → program limit ts ≡ Ok (all, rest) → IsProgram ts all
unfolding program
program_sound limit ts all rest h =
    by_step (items limit ts) _ h (λ some mid went h.
    by_test (none_left mid) h
    (λ is h. let x = items_read limit (length ts) [] ts some mid went in
    let e = none_is mid is in
    let are : AreItems ts some mid = subst (λ y. AreItems ts y mid) (sym x.same) x.is in
    with_parts (λ (b : RawProgram) r. AreItems ts b.items []) h (rw e at are))
    (λ _ h. absurd cc))
