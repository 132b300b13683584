-- What is read as a simple statement or a declaration is one.
use Rattle.std.proofs.Common.{◌≡◌, ℕ, zero, suc, ◌-◌, List, [], ◌∷◌, ◌++◌, append_assoc, length, drop, refl, sym, ap, subst, ◌∙◌, true, false, Bool, ◌||◌, Option, Some, None, Ok, codes, nat_lt, nat_le}
use Rattle.std.specs.Str.{bytes_eq}
use Rattle.std.proofs.lemmas.Bool.{leb-true}
use Rattle.c_arith.specs.declared.operators.BinaryOp.{BinaryOp}
use Rattle.c_arith.specs.declared.operators.BinaryOp.TheVariants.{Mul, Div, Rem, Add, Sub, Shl, Shr, And, Xor, Or}
use Rattle.c_tree.specs.declared.raw.expr.RawExpr.{RawExpr}
use Rattle.c_tree.specs.declared.raw.expr.RawType.{RawType}
use Rattle.c_tree.specs.declared.raw.expr.RawVar.{RawVar}
use Rattle.c_tree.specs.declared.raw.statement.RawTarget.{RawTarget}
use Rattle.c_tree.specs.declared.raw.statement.RawTarget.TheVariants as target
use Rattle.c_tree.specs.declared.raw.statement.RawArg.{RawArg}
use Rattle.c_tree.specs.declared.raw.statement.RawTypeName.{RawTypeName}
use Rattle.c_tree.specs.declared.raw.statement.RawAmount.{RawAmount}
use Rattle.c_tree.specs.declared.raw.statement.RawStatement.{RawStatement}
use Rattle.c_tree.specs.declared.raw.statement.RawStatement.TheVariants as s
use Rattle.c_language.specs.Words.{Bytes, assign_sign, bump_sign}
use Rattle.c_language.specs.TokenForms.{Tokens, mark, line_of}
use Rattle.c_language.specs.Sees.{sees, is_kind}
use Rattle.c_language.specs.ExprGrammar.{IsExpr, is_place, tightness}
use Rattle.c_language.specs.TypeGrammar.{IsDeclarator, is_listed}
use Rattle.c_language.specs.Nesting.{nesting}
use Rattle.c_language.specs.StatementGrammar.{IsCall, IsHeap, is_compound, IsSimple, IsList, IsDeclared, IsDeclaration, declaration}
use Rattle.c_language.specs.declared.token.TokenKind.TheVariants.{Name, Mark}
use Rattle.c_parse_expr.specs.Outcome.{expect}
use Rattle.c_parse_expr.specs.ExprReading.{nested, expression}
use Rattle.c_parse_expr.specs.TypeReading.{base, declarator}
use Rattle.c_parse_simple.specs.SimpleReading as r
use Rattle.c_parse_simple.specs.SimpleReading.{sees_call, sees_effect, effect, heap, call, bumped, bump, compound_by, compound_at, stored, assigned, changed, acted, simple, list_from, list, initialised, declared}
use Rattle.c_parse_words.proofs.SeenTokens.{by_seen, of_kind_is}
use Rattle.c_parse_expr.proofs.Tests.{by_step, by_choice, by_expect, with_parts}
use Rattle.c_parse_expr.proofs.TypeSound.{base_sound, declarator_sound}
use Rattle.c_parse_expr.proofs.TightLaws.{tighten}
use Rattle.c_parse_simple.proofs.CallSound.{expression_is, nested_is, separated_sound, call_sound, heap_sound}
use Rattle.c_language.proofs.Lists.{same_bytes}
use Rattle.c_language.proofs.Tests.{by_test}

pub by_effect : {G : Type 0} (d line : ℕ) (t : RawTarget) (ts : Tokens) (a : RawStatement) (rest : Tokens) → effect d line t ts ≡ Ok (a, rest)
    → ((w : Bytes) (all : List RawArg) → IsCall ts w all rest → s.Call line t w all ≡ a → G) → ((c : Option RawTypeName) (n : RawAmount) → IsHeap ts c n rest → s.Heap line t c n ≡ a → G) → G
unfolding effect
by_effect d line t ts a rest h called taken = by_test (sees Name (codes "malloc") ts || sees Mark (codes "(") ts) h
    (λ _ h. let x = heap_sound d line t ts a rest h in taken x.to x.size x.is x.same)
    (λ _ h. let x = call_sound d line t ts a rest h in called x.callee x.args x.is x.same)

bumped_sound : (d line : ℕ) (up : Bool) (ts : Tokens) (a : RawStatement) (rest : Tokens) → bumped d line up ts ≡ Ok (a, rest) → IsSimple (mark (bump_sign up) line ∷ ts) a rest
unfolding bumped
bumped_sound d line up ts a rest h =
    by_step (nested d 1 ts) _ h (λ e mid went h.
    by_test (is_place e) h
    (λ place h. with_parts (λ b r. IsSimple (mark (bump_sign up) line ∷ ts) b r) h (IsSimple.bump_before up (nested_is d ts e mid went) place))
    (λ _ h. absurd cc))

compound_told : (w : Bytes) (op : BinaryOp) → compound_by w ≡ Some op → (w ≡ assign_sign (Some op)) × (is_compound op ≡ true)
unfolding compound_by
compound_told w op h =
    let Told : BinaryOp → Type 0 = λ o. (w ≡ assign_sign (Some o)) × (is_compound o ≡ true) in
    by_test (bytes_eq w (codes "+=")) h (λ is h. let e : Add ≡ op = cc in subst Told e (same_bytes w _ is, refl))
    (λ _ h. by_test (bytes_eq w (codes "-=")) h (λ is h. let e : Sub ≡ op = cc in subst Told e (same_bytes w _ is, refl))
    (λ _ h. by_test (bytes_eq w (codes "*=")) h (λ is h. let e : Mul ≡ op = cc in subst Told e (same_bytes w _ is, refl))
    (λ _ h. by_test (bytes_eq w (codes "/=")) h (λ is h. let e : Div ≡ op = cc in subst Told e (same_bytes w _ is, refl))
    (λ _ h. by_test (bytes_eq w (codes "%=")) h (λ is h. let e : Rem ≡ op = cc in subst Told e (same_bytes w _ is, refl))
    (λ _ h. by_test (bytes_eq w (codes "<<=")) h (λ is h. let e : Shl ≡ op = cc in subst Told e (same_bytes w _ is, refl))
    (λ _ h. by_test (bytes_eq w (codes ">>=")) h (λ is h. let e : Shr ≡ op = cc in subst Told e (same_bytes w _ is, refl))
    (λ _ h. by_test (bytes_eq w (codes "&=")) h (λ is h. let e : And ≡ op = cc in subst Told e (same_bytes w _ is, refl))
    (λ _ h. by_test (bytes_eq w (codes "^=")) h (λ is h. let e : Xor ≡ op = cc in subst Told e (same_bytes w _ is, refl))
    (λ _ h. by_test (bytes_eq w (codes "|=")) h (λ is h. let e : Or ≡ op = cc in subst Told e (same_bytes w _ is, refl))
    (λ _ h. absurd cc))))))))))

pub compound_is : {G : Type 0} (ts : Tokens) (op : BinaryOp) → compound_at ts ≡ Some op → ((l : ℕ) (rest : Tokens) → ts ≡ mark (assign_sign (Some op)) l ∷ rest → is_compound op ≡ true → G) → G
unfolding compound_at
compound_is [] op h go = absurd cc
compound_is (t ∷ ts) op h go = by_test (is_kind Mark t) h
    (λ is h. let told = compound_told t.text op h in go t.line ts (ap (λ u. u ∷ ts) (sym (of_kind_is Mark t is)) ∙ ap (λ w. mark w t.line ∷ ts) told.0) told.1)
    (λ _ h. absurd cc)

stored_sound : (d l : ℕ) (e : RawExpr) (start ts : Tokens) (a : RawStatement) (rest : Tokens) → IsExpr 1 start e (mark (codes "=") l ∷ ts) → is_place e ≡ true → stored d (line_of start) e ts ≡ Ok (a, rest) → IsSimple start a rest
unfolding stored
stored_sound d l e start ts a rest is place h = by_test (sees_effect ts) h
    (λ _ h. by_effect d (line_of start) (target.Place e) ts a rest h
    (λ w all call same. subst (λ b. IsSimple start b rest) same (IsSimple.store_call is place call))
    (λ c n heap same. subst (λ b. IsSimple start b rest) same (IsSimple.store_heap is place heap)))
    (λ _ h. by_step (expression d 1 ts) _ h (λ b mid went h. with_parts (λ b r. IsSimple start b r) h (IsSimple.assign None refl is place (expression_is d ts b mid went))))

bump_sound : (d l : ℕ) (e : RawExpr) (up : Bool) (start ts : Tokens) (a : RawStatement) (rest : Tokens) → IsExpr 1 start e (mark (bump_sign up) l ∷ ts) → is_place e ≡ true → bump d (line_of start) e up ts ≡ Ok (a, rest)
    → IsSimple start a rest
unfolding bump
bump_sound d l e up start ts a rest is place h = by_test (nat_le 14 (tightness e)) h
    (λ low h. by_test (nat_lt (nesting e) d) h
    (λ _ h. with_parts (λ b r. IsSimple start b r) h (IsSimple.bump_after up (tighten is 14 (leb-true 14 (tightness e) low)) place))
    (λ _ h. absurd cc))
    (λ _ h. absurd cc)

changed_sound : (d l : ℕ) (e : RawExpr) (op : BinaryOp) (start ts : Tokens) (a : RawStatement) (rest : Tokens) → is_compound op ≡ true → IsExpr 1 start e (mark (assign_sign (Some op)) l ∷ ts) → is_place e ≡ true
    → changed d (line_of start) e op ts ≡ Ok (a, rest) → IsSimple start a rest
unfolding changed
changed_sound d l e op start ts a rest can is place h = by_test (nat_lt (nesting e) d) h
    (λ _ h. by_step (nested d 1 ts) _ h (λ b mid went h. with_parts (λ b r. IsSimple start b r) h (IsSimple.assign (Some op) can is place (nested_is d ts b mid went))))
    (λ _ h. absurd cc)

assigned_sound : (d l : ℕ) (e : RawExpr) (start ts : Tokens) (a : RawStatement) (rest : Tokens) → IsExpr 1 start e (mark (codes "=") l ∷ ts) → is_place e ≡ true → assigned d (line_of start) e ts ≡ Ok (a, rest) → IsSimple start a rest
unfolding assigned
assigned_sound d l e start ts a rest is place h = by_test (nat_lt (nesting e) d) h (λ _ h. stored_sound (d - 1) l e start ts a rest is place h) (λ _ h. absurd cc)

acted_sound : (d : ℕ) (e : RawExpr) (start ts : Tokens) (a : RawStatement) (rest : Tokens) → IsExpr 1 start e ts → is_place e ≡ true → acted d (line_of start) e ts ≡ Ok (a, rest) → IsSimple start a rest
unfolding acted
acted_sound d e start ts a rest is place h = by_test (sees Mark (codes "++") ts) h
    (λ yes_ h. by_seen Mark (codes "++") ts yes_ (λ l mid at. bump_sound d l e true start mid a rest (rw at at is) place (rw at at h)))
    (λ _ h. by_test (sees Mark (codes "--") ts) h
    (λ yes_ h. by_seen Mark (codes "--") ts yes_ (λ l mid at. bump_sound d l e false start mid a rest (rw at at is) place (rw at at h)))
    (λ _ h. by_test (sees Mark (codes "=") ts) h
    (λ yes_ h. by_seen Mark (codes "=") ts yes_ (λ l mid at. assigned_sound d l e start mid a rest (rw at at is) place (rw at at h)))
    (λ _ h. by_choice (compound_at ts) _ _ h (λ _ h. absurd cc)
    (λ op there h. compound_is ts op there (λ l mid at can. changed_sound d l e op start mid a rest can (rw at at is) place (rw at at h))))))

pub simple_sound : (d : ℕ) (ts : Tokens) (a : RawStatement) (rest : Tokens) → simple d ts ≡ Ok (a, rest) → IsSimple ts a rest
unfolding simple r.placed
simple_sound d ts a rest h = by_test (sees Mark (codes "++") ts) h
    (λ is h. by_seen Mark (codes "++") ts is (λ l mid at. rw at (bumped_sound d l true mid a rest (rw at at h))))
    (λ _ h. by_test (sees Mark (codes "--") ts) h
    (λ is h. by_seen Mark (codes "--") ts is (λ l mid at. rw at (bumped_sound d l false mid a rest (rw at at h))))
    (λ _ h. by_test (sees_call ts) h
    (λ _ h. let x = call_sound d (line_of ts) target.None ts a rest h in subst (λ b. IsSimple ts b rest) x.same (IsSimple.call x.is))
    (λ _ h. by_step (expression d 1 ts) _ h (λ e mid went h.
    by_test (is_place e) h (λ place h. acted_sound d e ts mid a rest (expression_is d ts e mid went) place h) (λ _ h. absurd cc)))))

-- ---- declarations

record ListRead (found : List RawExpr) (ts : Tokens) (all : List RawExpr) (rest : Tokens) : Type 0 where
  added : List RawExpr
  is : IsList ts added rest
  same : all ≡ found ++ added

list_read : (d turns : ℕ) (found : List RawExpr) (ts : Tokens) (all : List RawExpr) (rest : Tokens) → list_from d turns found ts ≡ Ok (all, rest) → ListRead found ts all rest
unfolding list_from
list_read d zero found ts all rest h = absurd cc
list_read d (suc turns) found ts all rest h =
    by_step (expression d 1 ts) _ h (λ a mid went h.
    by_test (sees Mark (codes "}") mid) h
    (λ is h. by_seen Mark (codes "}") mid is (λ l after at.
    with_parts (λ b r. ListRead found ts b r) (rw at at h) (record { added = a ∷ []; is = IsList.last (rw at at (expression_is d ts a mid went)); same = refl })))
    (λ _ h. by_step (expect (codes ",") mid) _ h (λ u after parted h.
    by_expect (codes ",") mid after u parted (λ l at.
    by_test (sees Mark (codes "}") after) h
    (λ is h. by_seen Mark (codes "}") after is (λ m last at2.
    with_parts (λ b r. ListRead found ts b r) (rw at2 at h) (record { added = a ∷ []; is = IsList.trailing (subst (λ r. IsExpr 1 ts a r) (at ∙ ap (λ r. mark (codes ",") l ∷ r) at2) (expression_is d ts a mid went)); same = refl })))
    (λ _ h. let x = list_read d turns (found ++ a ∷ []) after all rest h in
    record { added = a ∷ x.added; is = IsList.more (rw at at (expression_is d ts a mid went)) x.is; same = x.same ∙ append_assoc found (a ∷ []) x.added })))))

pub list_sound : (d : ℕ) (ts : Tokens) (all : List RawExpr) (rest : Tokens) → list d ts ≡ Ok (all, rest) → IsList ts all rest
list_sound d ts all rest h = let x = list_read d (length ts) [] ts all rest h in subst (λ b. IsList ts b rest) (sym x.same) x.is

initialised_sound : (d line l : ℕ) (b : RawType) (v : RawVar) (start ts : Tokens) (a : RawStatement) (rest : Tokens) → IsDeclarator start b v (mark (codes "=") l ∷ ts) → initialised d line v ts ≡ Ok (a, rest) → IsDeclared line b start a rest
unfolding initialised
initialised_sound d line l b v start ts a rest is h = by_test (sees Mark (codes "{") ts) h
    (λ there h. by_seen Mark (codes "{") ts there (λ m mid at.
    by_step (list d (drop 1 ts)) _ h (λ all after went h.
    let e : drop 1 ts ≡ mid = ap (drop 1) at in
    with_parts (λ x r. IsDeclared line b start x r) h (IsDeclared.list (subst (λ r. IsDeclarator start b v (mark (codes "=") l ∷ r)) at is) (list_sound d mid all after (rw e at went))))))
    (λ _ h. by_test (is_listed v.shape) h (λ _ h. absurd cc)
    (λ whole h. by_test (sees_effect ts) h
    (λ _ h. by_effect d line (target.Declared v) ts a rest h
    (λ w all call same. subst (λ x. IsDeclared line b start x rest) same (IsDeclared.call is whole call))
    (λ c n heap same. subst (λ x. IsDeclared line b start x rest) same (IsDeclared.heap is whole heap)))
    (λ _ h. by_step (expression d 1 ts) _ h (λ e mid went h. with_parts (λ x r. IsDeclared line b start x r) h (IsDeclared.value is whole (expression_is d ts e mid went))))))

pub declared_sound : (d line : ℕ) (b : RawType) (ts : Tokens) (a : RawStatement) (rest : Tokens) → declared d line b ts ≡ Ok (a, rest) → IsDeclared line b ts a rest
unfolding declared
declared_sound d line b ts a rest h =
    by_step (declarator d b ts) _ h (λ v mid went h.
    let x = declarator_sound d ts mid b v went in
    by_test (sees Mark (codes "=") mid) h
    (λ there h. by_seen Mark (codes "=") mid there (λ l after at. initialised_sound d line l b v ts after a rest (rw at at x.is) (rw at at h)))
    (λ _ h. by_test (is_listed v.shape) h (λ _ h. absurd cc)
    (λ whole h. with_parts (λ y r. IsDeclared line b ts y r) h (IsDeclared.plain x.is whole))))

pub declaration_sound : (d : ℕ) (ts : Tokens) (all : List RawStatement) (rest : Tokens) → r.declaration d ts ≡ Ok (all, rest) → IsDeclaration ts all rest
unfolding r.declaration
declaration_sound d ts all rest h =
    by_step (base ts) _ h (λ b mid went h.
    declaration (base_sound ts mid b went) (separated_sound (IsDeclared (line_of ts) b) (codes ";") (declared d (line_of ts) b) (declared_sound d (line_of ts) b) (length mid) mid all rest h))
