-- What is read as a call or an allocation is one.
use Rattle.std.proofs.Common.{◌≡◌, ℕ, zero, suc, ◌-◌, max, List, [], ◌∷◌, ◌++◌, append_assoc, length, drop, refl, sym, ap, subst, ◌∙◌, arith, true, false, Bool, Option, Some, Ok, codes, nat_lt, nat_le, ◌==◌}
use Rattle.std.proofs.lemmas.Bool.{and_parts, leb-true}
use Rattle.c_tree.specs.declared.raw.expr.RawExpr.{RawExpr}
use Rattle.c_tree.specs.declared.raw.statement.RawTarget.{RawTarget}
use Rattle.c_tree.specs.declared.raw.statement.RawArg.{RawArg}
use Rattle.c_tree.specs.declared.raw.statement.RawTypeName.{RawTypeName}
use Rattle.c_tree.specs.declared.raw.statement.RawSize.{RawSize}
use Rattle.c_tree.specs.declared.raw.statement.RawSize.TheVariants as size
use Rattle.c_tree.specs.declared.raw.statement.RawAmount.{RawAmount}
use Rattle.c_tree.specs.declared.raw.statement.RawStatement.{RawStatement}
use Rattle.c_tree.specs.declared.raw.statement.RawStatement.TheVariants as s
use Rattle.c_language.specs.Words.{Bytes}
use Rattle.c_language.specs.TokenForms.{Tokens, name, mark, string}
use Rattle.c_language.specs.Sees.{sees, sees_second, is_kind, is_keyword}
use Rattle.c_language.specs.ExprGrammar.{IsExpr, tightness}
use Rattle.c_language.specs.TypeGrammar.{NamesType, has_star}
use Rattle.c_language.specs.Nesting.{nesting}
use Rattle.c_language.specs.StatementGrammar.{IsSeparated, IsArg, is_callee, IsCall, IsSize, IsAmount, IsMalloc, malloc, IsHeap}
use Rattle.c_language.specs.declared.token.Token.{Token}
use Rattle.c_language.specs.declared.token.TokenKind.TheVariants.{Name, Str, Mark}
use Rattle.c_parse_expr.specs.Outcome.{Parser, expect, read_name}
use Rattle.c_parse_expr.specs.ExprReading.{multiplies_size, nested, expression}
use Rattle.c_parse_expr.specs.TypeReading.{type_name}
use Rattle.c_parse_simple.specs.SimpleReading.{word, string_at, separated, arg, args, called, call_parts, call, pointee, size_inside, size_in_parens, size_of, sized, counted, amount_of, malloc_of, cast_amount, heap_parts, heap}
use Rattle.c_parse_words.proofs.SeenTokens.{by_seen, of_kind_is}
use Rattle.c_parse_expr.proofs.Tests.{by_step, by_choice, by_expect, by_name, ok_parts, with_parts}
use Rattle.c_parse_expr.proofs.ExprSound.{Sound, nested_sound, expression_sound}
use Rattle.c_parse_expr.proofs.TightLaws.{tighten}
use Rattle.c_parse_expr.proofs.TypeSound.{type_name_sound}
use Rattle.c_language.proofs.Tests.{by_test}

pub expression_is : (d : ℕ) (ts : Tokens) (a : RawExpr) (rest : Tokens) → expression d 1 ts ≡ Ok (a, rest) → IsExpr 1 ts a rest
expression_is d ts a rest h = let x : Sound 1 (suc d) ts a rest = expression_sound d 1 ts a rest (omega arith) (omega arith) h in x.is

pub nested_is : (d : ℕ) (ts : Tokens) (a : RawExpr) (rest : Tokens) → nested d 1 ts ≡ Ok (a, rest) → IsExpr 1 ts a rest
nested_is d ts a rest h = let x : Sound 1 d ts a rest = nested_sound d 1 ts a rest (omega arith) (omega arith) h in x.is

pub by_word : {G : Type 0} (text : Bytes) (ts rest : Tokens) (u : Unit {0}) → word text ts ≡ Ok (u, rest) → ((l : ℕ) → ts ≡ name text l ∷ rest → G) → G
unfolding word
by_word text ts rest u h go = by_test (sees Name text ts) h
    (λ is h. by_seen Name text ts is (λ l mid at. let e : drop 1 ts ≡ mid = ap (drop 1) at in go l (at ∙ ap (λ r. name text l ∷ r) (sym e ∙ (ok_parts h).1))))
    (λ isnt h. absurd cc)

-- ---- lists with commas

pub record SeparatedRead {A : Type 0} (Is : Tokens → A → Tokens → Type 0) (close : Bytes) (found : List A) (ts : Tokens) (all : List A) (rest : Tokens) : Type 0 where
  pub added : List A
  pub is : IsSeparated Is close ts added rest
  pub same : all ≡ found ++ added

module _ {A : Type 0} (Is : Tokens → A → Tokens → Type 0) (close : Bytes) (read : Parser A) (sound : (ts : Tokens) (a : A) (rest : Tokens) → read ts ≡ Ok (a, rest) → Is ts a rest) where
  pub separated_read : (turns : ℕ) (found : List A) (ts : Tokens) (all : List A) (rest : Tokens) → separated close read turns found ts ≡ Ok (all, rest) → SeparatedRead Is close found ts all rest
  unfolding separated
  separated_read zero found ts all rest h = absurd cc
  separated_read (suc turns) found ts all rest h =
      by_step (read ts) _ h (λ a mid went h.
      by_test (sees Mark close mid) h
      (λ is h. by_seen Mark close mid is (λ l after at.
      with_parts (λ b r. SeparatedRead Is close found ts b r) (rw at at h) (record { added = a ∷ []; is = IsSeparated.last (rw at at (sound ts a mid went)); same = refl })))
      (λ _ h. by_step (expect (codes ",") mid) _ h (λ u after parted h.
      by_expect (codes ",") mid after u parted (λ l at.
      let x = separated_read turns (found ++ a ∷ []) after all rest h in
      record { added = a ∷ x.added; is = IsSeparated.more (rw at at (sound ts a mid went)) x.is; same = x.same ∙ append_assoc found (a ∷ []) x.added }))))

  pub separated_sound : (turns : ℕ) (ts : Tokens) (all : List A) (rest : Tokens) → separated close read turns [] ts ≡ Ok (all, rest) → IsSeparated Is close ts all rest
  separated_sound turns ts all rest h = let x = separated_read turns [] ts all rest h in subst (λ b. IsSeparated Is close ts b rest) (sym x.same) x.is

-- ---- calls

string_is : {G : Type 0} (ts : Tokens) (text : Bytes) → string_at ts ≡ Some text → ((l : ℕ) (rest : Tokens) → ts ≡ string text l ∷ rest → G) → G
unfolding string_at
string_is [] text h go = absurd cc
string_is (t ∷ ts) text h go = by_test (is_kind Str t) h
    (λ is h. let e : t.text ≡ text = cc in go t.line ts (ap (λ u. u ∷ ts) (sym (of_kind_is Str t is)) ∙ ap (λ w. string w t.line ∷ ts) e))
    (λ _ h. absurd cc)

pub arg_sound : (d : ℕ) (ts : Tokens) (a : RawArg) (rest : Tokens) → arg d ts ≡ Ok (a, rest) → IsArg ts a rest
unfolding arg
arg_sound d ts a rest h = by_choice (string_at ts) _ _ h
    (λ _ h. by_step (nested d 1 ts) _ h (λ x mid went h. with_parts (λ b r. IsArg ts b r) h (IsArg.value (nested_is d ts x mid went))))
    (λ text at h. string_is ts text at (λ l mid is. rw is (with_parts (λ b r. IsArg (string text l ∷ mid) b r) (rw is at h) IsArg.literal)))

pub record CallRead (line : ℕ) (t : RawTarget) (ts : Tokens) (a : RawStatement) (rest : Tokens) : Type 0 where
  pub callee : Bytes
  pub args : List RawArg
  pub is : IsCall ts callee args rest
  pub same : s.Call line t callee args ≡ a

called_sound : (d : ℕ) (w : Bytes) (l m : ℕ) (ts : Tokens) (all : List RawArg) (rest : Tokens) → called d w ts ≡ Ok (all, rest) → IsCall (name w l ∷ mark (codes "(") m ∷ ts) w all rest
unfolding called args
called_sound d w l m ts all rest h = by_test (is_callee w) h
    (λ callee h. by_test (d == 0) h (λ _ h. absurd cc)
    (λ _ h. by_test (sees Mark (codes ")") ts) h
    (λ is h. by_seen Mark (codes ")") ts is (λ k after at. rw at (
    with_parts (λ b r. IsCall (name w l ∷ mark (codes "(") m ∷ mark (codes ")") k ∷ after) w b r) (rw at at h) (IsCall.bare callee))))
    (λ _ h. IsCall.with_args callee (separated_sound IsArg (codes ")") (arg d) (arg_sound d) (length ts) ts all rest h))))
    (λ _ h. absurd cc)

call_parts_sound : (d : ℕ) (ts : Tokens) (p : Bytes × List RawArg) (rest : Tokens) → call_parts d ts ≡ Ok (p, rest) → IsCall ts p.0 p.1 rest
unfolding call_parts
call_parts_sound d ts p rest h =
    by_step (read_name ts) _ h (λ w mid went h.
    by_name ts mid w went (λ l free at.
    by_step (expect (codes "(") mid) _ h (λ u after opened h.
    by_expect (codes "(") mid after u opened (λ m at2.
    by_step (called d w after) _ h (λ all last read h.
    with_parts (λ q r. IsCall ts q.0 q.1 r) h (rw (at, at2) (called_sound d w l m after all last read)))))))

pub call_sound : (d line : ℕ) (t : RawTarget) (ts : Tokens) (a : RawStatement) (rest : Tokens) → call d line t ts ≡ Ok (a, rest) → CallRead line t ts a rest
unfolding call
call_sound d line t ts a rest h =
    by_step (call_parts d ts) _ h (λ p mid went h.
    with_parts (λ b r. CallRead line t ts b r) h (record { callee = p.0; args = p.1; is = call_parts_sound d ts p mid went; same = refl }))

-- ---- sizes and amounts

pointee_sound : {G : Type 0} (in_parens : Bool) (ts : Tokens) (z : RawSize) (rest : Tokens) → pointee in_parens ts ≡ Ok (z, rest)
    → ((w : Bytes) (l : ℕ) → is_keyword w ≡ false → ts ≡ name w l ∷ rest → size.Pointee w in_parens ≡ z → G) → G
unfolding pointee
pointee_sound in_parens ts z rest h go =
    by_step (read_name ts) _ h (λ w mid went h.
    by_name ts mid w went (λ l free at. let p = ok_parts h in go w l free (at ∙ ap (λ r. name w l ∷ r) p.1) p.0))

star_size : (l m : ℕ) (ts : Tokens) (z : RawSize) (rest : Tokens) → pointee false ts ≡ Ok (z, rest) → IsSize (name (codes "sizeof") l ∷ mark (codes "*") m ∷ ts) z rest
star_size l m ts z rest h = pointee_sound false ts z rest h (λ w k free at same.
    subst (λ t. IsSize (name (codes "sizeof") l ∷ mark (codes "*") m ∷ t) z rest) (sym at)
    (subst (λ x. IsSize (name (codes "sizeof") l ∷ mark (codes "*") m ∷ name w k ∷ rest) x rest) same (IsSize.of_bare_pointee free)))

star_size_in_parens : (l m k i : ℕ) (ts : Tokens) (z : RawSize) (mid rest : Tokens) → pointee true ts ≡ Ok (z, mid) → mid ≡ mark (codes ")") i ∷ rest
    → IsSize (name (codes "sizeof") l ∷ mark (codes "(") m ∷ mark (codes "*") k ∷ ts) z rest
star_size_in_parens l m k i ts z mid rest h e = pointee_sound true ts z mid h (λ w j free at same.
    subst (λ t. IsSize (name (codes "sizeof") l ∷ mark (codes "(") m ∷ mark (codes "*") k ∷ t) z rest) (sym (at ∙ ap (λ t. name w j ∷ t) e))
    (subst (λ x. IsSize (name (codes "sizeof") l ∷ mark (codes "(") m ∷ mark (codes "*") k ∷ name w j ∷ mark (codes ")") i ∷ rest) x rest) same (IsSize.of_pointee free)))

inside_sound : (l m i : ℕ) (ts : Tokens) (z : RawSize) (mid rest : Tokens) → size_inside ts ≡ Ok (z, mid) → mid ≡ mark (codes ")") i ∷ rest → IsSize (name (codes "sizeof") l ∷ mark (codes "(") m ∷ ts) z rest
unfolding size_inside
inside_sound l m i ts z mid rest h e = by_test (sees Mark (codes "*") ts) h
    (λ is h. by_seen Mark (codes "*") ts is (λ k next at. rw at (star_size_in_parens l m k i next z mid rest (rw at at h) e)))
    (λ _ h. by_step (type_name ts) _ h (λ t next went h.
    let p = ok_parts h in
    subst (λ x. IsSize (name (codes "sizeof") l ∷ mark (codes "(") m ∷ ts) x rest) p.0 (IsSize.of_type (subst (λ r. NamesType ts t r) (p.1 ∙ e) (type_name_sound ts next t went)))))

pub size_sound : (l : ℕ) (ts : Tokens) (z : RawSize) (rest : Tokens) → size_of ts ≡ Ok (z, rest) → IsSize (name (codes "sizeof") l ∷ ts) z rest
unfolding size_of size_in_parens
size_sound l ts z rest h = by_test (sees Mark (codes "*") ts) h
    (λ is h. by_seen Mark (codes "*") ts is (λ m mid at. rw at (star_size l m mid z rest (rw at at h))))
    (λ _ h. by_step (expect (codes "(") ts) _ h (λ u after opened h.
    by_expect (codes "(") ts after u opened (λ m at. rw at (
    by_step (size_inside after) _ h (λ y mid went h.
    by_step (expect (codes ")") mid) _ h (λ v last closed h.
    by_expect (codes ")") mid last v closed (λ i at3.
    with_parts (λ b r. IsSize (name (codes "sizeof") l ∷ mark (codes "(") m ∷ after) b r) h (inside_sound l m i after y mid last went at3))))))))

sized_sound : (d : ℕ) (z : RawSize) (start ts : Tokens) (n : RawAmount) (rest : Tokens) → IsSize start z ts → sized d z ts ≡ Ok (n, rest) → IsAmount start n rest
unfolding sized
sized_sound d z start ts n rest is h = by_test (sees Mark (codes "*") ts) h
    (λ star h. by_seen Mark (codes "*") ts star (λ l mid at.
    by_test (nat_lt 1 d) h
    (λ _ h. by_step (nested d 12 (drop 1 ts)) _ h (λ a after went h.
    let e : drop 1 ts ≡ mid = ap (drop 1) at in
    let x : Sound 12 d mid a after = nested_sound d 12 mid a after (omega arith) (omega arith) (rw e at went) in
    with_parts (λ b r. IsAmount start b r) h (IsAmount.multiplied (rw at at is) x.is)))
    (λ _ h. absurd cc)))
    (λ _ h. by_test (nat_lt 0 d) h
    (λ _ h. with_parts (λ b r. IsAmount start b r) h (IsAmount.one is))
    (λ _ h. absurd cc))

second_is : (t : Token) (ts : Tokens) → sees_second Name (codes "sizeof") (t ∷ ts) ≡ true → sees Name (codes "sizeof") ts ≡ true
unfolding sees sees_second
second_is t [] h = cc
second_is t (u ∷ ts) h = h

pub multiplied_is : {G : Type 0} (ts : Tokens) → multiplies_size ts ≡ true → ((l m : ℕ) (rest : Tokens) → ts ≡ mark (codes "*") l ∷ name (codes "sizeof") m ∷ rest → G) → G
unfolding multiplies_size
multiplied_is ts h go =
    let p = and_parts (sees Mark (codes "*") ts) _ h in
    by_seen Mark (codes "*") ts p.0 (λ l mid at.
    let e : sees Name (codes "sizeof") mid ≡ true = second_is (mark (codes "*") l) mid (sym (ap (sees_second Name (codes "sizeof")) at) ∙ p.1) in
    by_seen Name (codes "sizeof") mid e (λ m rest at2. go l m rest (at ∙ ap (λ r. mark (codes "*") l ∷ r) at2)))

counted_sound : (d : ℕ) (a : RawExpr) (start ts : Tokens) (n : RawAmount) (rest : Tokens) → IsExpr 1 start a ts → counted d a ts ≡ Ok (n, rest) → IsAmount start n rest
unfolding counted
counted_sound d a start ts n rest is h = by_test (multiplies_size ts) h
    (λ is_size h. multiplied_is ts is_size (λ l m mid at.
    by_test (nat_le 11 (tightness a)) h
    (λ low h. by_step (size_of (drop 2 ts)) _ h (λ z after went h.
    let e : drop 2 ts ≡ mid = ap (drop 2) at in
    by_test (nat_lt (max (nesting a) 1) d) h
    (λ _ h. with_parts (λ b r. IsAmount start b r) h (IsAmount.counted (tighten (rw at at is) 11 (leb-true 11 (tightness a) low)) (size_sound m mid z after (rw e at went))))
    (λ _ h. absurd cc)))
    (λ _ h. absurd cc)))
    (λ _ h. with_parts (λ b r. IsAmount start b r) h (IsAmount.bytes is))

pub amount_sound : (d : ℕ) (ts : Tokens) (n : RawAmount) (rest : Tokens) → amount_of d ts ≡ Ok (n, rest) → IsAmount ts n rest
unfolding amount_of
amount_sound d ts n rest h = by_test (sees Name (codes "sizeof") ts) h
    (λ is h. by_seen Name (codes "sizeof") ts is (λ l mid at. rw at (
    by_step (size_of mid) _ (rw at at h) (λ z after went h. sized_sound d z _ after n rest (size_sound l mid z after went) h))))
    (λ _ h. by_step (expression d 1 ts) _ h (λ a mid went h. counted_sound d a ts mid n rest (expression_is d ts a mid went) h))

-- ---- allocations

pub malloc_sound : (d : ℕ) (ts : Tokens) (n : RawAmount) (rest : Tokens) → malloc_of d ts ≡ Ok (n, rest) → IsMalloc ts n rest
unfolding malloc_of
malloc_sound d ts n rest h =
    by_step (word (codes "malloc") ts) _ h (λ u mid begun h.
    by_word (codes "malloc") ts mid u begun (λ l at.
    by_step (expect (codes "(") mid) _ h (λ v after opened h.
    by_expect (codes "(") mid after v opened (λ m at2.
    by_test (d == 0) h (λ _ h. absurd cc)
    (λ _ h. by_step (amount_of (d - 1) after) _ h (λ x next went h.
    by_step (expect (codes ")") next) _ h (λ w last closed h.
    by_expect (codes ")") next last w closed (λ k at3.
    rw (at, at2) (with_parts (λ b r. IsMalloc (name (codes "malloc") l ∷ mark (codes "(") m ∷ after) b r) h (malloc (rw at3 at (amount_sound (d - 1) after x next went))))))))))))

pub record HeapRead (line : ℕ) (t : RawTarget) (ts : Tokens) (a : RawStatement) (rest : Tokens) : Type 0 where
  pub to : Option RawTypeName
  pub size : RawAmount
  pub is : IsHeap ts to size rest
  pub same : s.Heap line t to size ≡ a

heap_parts_sound : (d : ℕ) (ts : Tokens) (p : Option RawTypeName × RawAmount) (rest : Tokens) → heap_parts d ts ≡ Ok (p, rest) → IsHeap ts p.0 p.1 rest
unfolding heap_parts cast_amount
heap_parts_sound d ts p rest h = by_test (sees Mark (codes "(") ts) h
    (λ is h. by_seen Mark (codes "(") ts is (λ l mid at. rw at (
    by_step (type_name mid) _ (rw at at h) (λ c after went h.
    by_step (expect (codes ")") after) _ h (λ u next closed h.
    by_expect (codes ")") after next u closed (λ k at2.
    by_step (cast_amount d c next) _ h (λ n last read h.
    by_test (has_star c) read
    (λ points read. by_test (d == 0) read (λ _ read. absurd cc)
    (λ _ read. with_parts (λ q r. IsHeap (mark (codes "(") l ∷ mid) q.0 q.1 r) h
    (IsHeap.cast (rw at2 at (type_name_sound mid after c went)) points (malloc_sound (d - 1) next n last read))))
    (λ _ read. absurd cc))))))))
    (λ _ h. by_step (malloc_of d ts) _ h (λ n mid went h.
    with_parts (λ q r. IsHeap ts q.0 q.1 r) h (IsHeap.uncast (malloc_sound d ts n mid went))))

pub heap_sound : (d line : ℕ) (t : RawTarget) (ts : Tokens) (a : RawStatement) (rest : Tokens) → heap d line t ts ≡ Ok (a, rest) → HeapRead line t ts a rest
unfolding heap
heap_sound d line t ts a rest h =
    by_step (heap_parts d ts) _ h (λ p mid went h.
    with_parts (λ b r. HeapRead line t ts b r) h (record { to = p.0; size = p.1; is = heap_parts_sound d ts p mid went; same = refl }))
