-- The thinner text of a text is what stays of it, where what is kept is a text.
use Rattle.std.proofs.Common.{◌≡◌, ℕ, List, [], ◌∷◌, ◌++◌, Bool, true, false, ◌||◌, Some, refl, sym, ap, subst, ◌∙◌}
use Rattle.std.specs.List.{list_any}
use Rattle.c_tree.specs.declared.raw.expr.RawVar.{RawVar}
use Rattle.c_tree.specs.declared.raw.program.RawInit.{RawInit}
use Rattle.c_tree.specs.declared.raw.program.RawHead.{RawHead}
use Rattle.c_tree.specs.declared.raw.program.RawItem.{RawItem}
use Rattle.c_tree.specs.declared.raw.program.RawItem.TheVariants.{Include, Tag, Struct, Global, Prototype, Define}
use Rattle.c_tree.specs.declared.raw.program.RawProgram.{RawProgram}
use Rattle.c_tree.specs.declared.raw.expr.RawExpr.{RawExpr}
use Rattle.c_tree.specs.declared.raw.statement.RawStatement.{RawStatement, fold-roll-RawStatement}
use Rattle.c_tree.specs.declared.raw.statement.RawStatement.TheOpen.{RawStatement-F, RawArm-F}
use Rattle.c_tree.specs.declared.raw.statement.RawStatement.TheVariants as s
use Rattle.c_language.specs.Words.{Bytes}
use Rattle.c_language.specs.DeclaredTypes.{StructText, struct_texts, is_include}
use Rattle.c_language.specs.Scopes.{Scope, Scoped, outset, scope_of_parameters, entered}
use Rattle.c_language.specs.Phrases.{scoped, Returns, phrase, DeclaresFunction, EndsFunction, head_phrases, body_phrases, item_phrases, items_phrases, after_item, phrases}
use Rattle.c_language.specs.Rules.{IsBroken, KeepsRules, AreKept}
use Rattle.c_scope_laws.specs.Agreement.{SameOutside}
use Rattle.projection.specs.Kept.{Kept}
use Rattle.c_scope_laws.specs.ThinTexts.{ItemsThin, IsThinner}
use Rattle.c_scope_laws.specs.ThinnedBodies.{body_left, Need, Left, ArmLeft, plain_with, left_step, left_scoped, left_arm_step, left, return_needs}
use Rattle.c_scope_laws.specs.ThinnedTexts.{LastStays, chosen, items_left, VariableStays, ItemIsClosed, ItemsAreClosed, thinned_text, KeepsText}
use Rattle.c_language.specs.CallRules.{EndsWithValue}
use Rattle.c_language.proofs.Tests.{false_true}
use Rattle.c_language.proofs.ScopesAfter.{statement_after}
use Rattle.c_language.proofs.PhraseLists.{kept_first, kept_second, kept_from}
use Rattle.c_language.specs.CallRules.{head_around}
use Rattle.c_scope_laws.specs.Agreement.{head_left}
use Rattle.c_scope_laws.specs.Thinning.{heads_of}
use Rattle.c_scope_laws.proofs.ThinnedBodies.{body_stays, body_goes}

-- ---- the same struct types and headers

no_include : (is_stdlib b : Bool) (x : RawItem) (rest : List RawItem) → is_include is_stdlib x ≡ false → list_any (is_include is_stdlib) (chosen b x ++ rest) ≡ list_any (is_include is_stdlib) rest
no_include is_stdlib true x rest h = ap (λ (c : Bool). c || list_any (is_include is_stdlib) rest) h
no_include is_stdlib false x rest h = refl

is_global : (is_stdlib : Bool) (l : ℕ) (v : RawVar) (i : RawInit) (is_static : Bool) → is_include is_stdlib (Global l v i is_static) ≡ false
is_global true l v i is_static = refl
is_global false l v i is_static = refl

is_prototype : (is_stdlib : Bool) (l : ℕ) (head : RawHead) → is_include is_stdlib (Prototype l head) ≡ false
is_prototype true l head = refl
is_prototype false l head = refl

is_define : (is_stdlib : Bool) (l : ℕ) (head : RawHead) (body : List RawStatement) → is_include is_stdlib (Define l head body) ≡ false
is_define true l head body = refl
is_define false l head body = refl

no_struct_global : (b : Bool) (l : ℕ) (v : RawVar) (i : RawInit) (is_static : Bool) (rest : List RawItem) → struct_texts (chosen b (Global l v i is_static) ++ rest) ≡ struct_texts rest
no_struct_global true l v i is_static rest = refl
no_struct_global false l v i is_static rest = refl

no_struct_prototype : (b : Bool) (l : ℕ) (head : RawHead) (rest : List RawItem) → struct_texts (chosen b (Prototype l head) ++ rest) ≡ struct_texts rest
no_struct_prototype true l head rest = refl
no_struct_prototype false l head rest = refl

no_struct_define : (b : Bool) (l : ℕ) (head : RawHead) (body : List RawStatement) (rest : List RawItem) → struct_texts (chosen b (Define l head body) ++ rest) ≡ struct_texts rest
no_struct_define true l head body rest = refl
no_struct_define false l head body rest = refl

not_first : (is_stdlib : Bool) (x : RawItem) (rest : List RawItem) → is_include is_stdlib x ≡ false → list_any (is_include is_stdlib) rest ≡ list_any (is_include is_stdlib) (x ∷ rest)
not_first is_stdlib x rest h = sym (ap (λ (c : Bool). c || list_any (is_include is_stdlib) rest) h)

module _ (k : Kept Bytes) (raw : RawProgram) where
  structs_left : (xs : List RawItem) (scope : Scope) → struct_texts (items_left k raw xs scope) ≡ struct_texts xs
  structs_left [] scope = refl
  structs_left (Include is_stdlib ∷ xs) scope = structs_left xs _
  structs_left (Tag l w ∷ xs) scope = structs_left xs _
  structs_left (Struct l w members ∷ xs) scope = ap (λ (all : List StructText). record { tag = w; members = members } ∷ all) (structs_left xs (after_item raw (Struct l w members) scope))
  structs_left (Global l v i is_static ∷ xs) scope =
      let next = after_item raw (Global l v i is_static) scope in no_struct_global (k.variable scope.variables) l v i is_static (items_left k raw xs next) ∙ structs_left xs next
  structs_left (Prototype l head ∷ xs) scope =
      let next = after_item raw (Prototype l head) scope in no_struct_prototype (k.function head.name) l (head_left (heads_of k) head) (items_left k raw xs next) ∙ structs_left xs next
  structs_left (Define l head body ∷ xs) scope =
      let next = after_item raw (Define l head body) scope in
      no_struct_define (k.function head.name) l (head_left (heads_of k) head) (body_left k raw body (entered raw head scope)).some (items_left k raw xs next) ∙ structs_left xs next

  includes_left : (is_stdlib : Bool) (xs : List RawItem) (scope : Scope) → list_any (is_include is_stdlib) (items_left k raw xs scope) ≡ list_any (is_include is_stdlib) xs
  includes_left b [] scope = refl
  includes_left b (Include is_stdlib ∷ xs) scope = ap (λ (c : Bool). is_include b (Include is_stdlib) || c) (includes_left b xs scope)
  includes_left b (Tag l w ∷ xs) scope = ap (λ (c : Bool). is_include b (Tag l w) || c) (includes_left b xs scope)
  includes_left b (Struct l w members ∷ xs) scope = ap (λ (c : Bool). is_include b (Struct l w members) || c) (includes_left b xs (after_item raw (Struct l w members) scope))
  includes_left b (Global l v i is_static ∷ xs) scope =
      let next = after_item raw (Global l v i is_static) scope in
      no_include b (k.variable scope.variables) (Global l v i is_static) (items_left k raw xs next) (is_global b l v i is_static)
      ∙ includes_left b xs next ∙ not_first b (Global l v i is_static) xs (is_global b l v i is_static)
  includes_left b (Prototype l head ∷ xs) scope =
      let next = after_item raw (Prototype l head) scope in
      no_include b (k.function head.name) (Prototype l (head_left (heads_of k) head)) (items_left k raw xs next) (is_prototype b l (head_left (heads_of k) head))
      ∙ includes_left b xs next ∙ not_first b (Prototype l head) xs (is_prototype b l head)
  includes_left b (Define l head body ∷ xs) scope =
      let next = after_item raw (Define l head body) scope in
      let some = (body_left k raw body (entered raw head scope)).some in
      no_include b (k.function head.name) (Define l (head_left (heads_of k) head) some) (items_left k raw xs next) (is_define b l (head_left (heads_of k) head) some)
      ∙ includes_left b xs next ∙ not_first b (Define l head body) xs (is_define b l head body)

  like : SameOutside raw (thinned_text k raw)
  like = record { structs = structs_left raw.items outset; stdio = includes_left false raw.items outset; stdlib = includes_left true raw.items outset }

  -- ---- a function ends as before

  ends_behind : (xs ys : List RawStatement) → EndsWithValue ys → EndsWithValue (xs ++ ys)
  ends_behind [] ys h = h
  ends_behind (x ∷ xs) ys h = EndsWithValue.later (ends_behind xs ys h)

  return_left : (l : ℕ) (a : RawExpr) (needs : List Need) (scope : Scope) (b : Bool) → b ≡ true → EndsWithValue ((plain_with b needs (RawStatement-F.Return l (Some a)) scope (Returns (Some a))).some ++ [])
  return_left l a needs scope true h = subst (λ (z : RawStatement). EndsWithValue (z ∷ [])) (sym (s.rolls-Return l (Some a))) (EndsWithValue.last a)
  return_left l a needs scope false h = false_true h

  rest_stays : (x : RawStatement) (rest : List RawStatement) (scope : Scope) → LastStays k raw (x ∷ rest) scope → LastStays k raw rest ((scoped raw x).after scope)
  rest_stays x [] scope h = tt
  rest_stays x (y ∷ rest) scope h = h

  ends_left : {body : List RawStatement} (scope : Scope) → EndsWithValue body → LastStays k raw body scope → EndsWithValue (body_left k raw body scope).some
  ends_left scope (EndsWithValue.last {line} a) h =
      subst (λ (t : Scoped Left). EndsWithValue ((t.gives scope).some ++ []))
      (sym (ap (left k raw) (sym (s.rolls-Return line (Some a))) ∙ fold-roll-RawStatement (Scoped Left) (Scoped ArmLeft) (left_scoped k raw) (left_arm_step k raw) (RawStatement-F.Return line (Some a))))
      (return_left line a (return_needs (head_around raw scope) (Some a)) scope (k.statement scope.statements) h)
  ends_left scope (EndsWithValue.later {first} {rest} d) h =
      let next = (scoped raw first).after scope in
      ends_behind ((left k raw first).gives scope).some (body_left k raw rest ((left k raw first).after scope)).some
      (subst (λ (z : Scope). EndsWithValue (body_left k raw rest z).some)
      (sym (statement_after raw Left ArmLeft (left_step k raw) (λ (a : RawArm-F (Scoped Left) (Scoped ArmLeft)). (left_arm_step k raw a).gives) first scope))
      (ends_left next d (rest_stays first rest scope h)))

  -- ---- items

  abbrev Here : Scope → List RawItem → List RawItem → Type 0
  Here = ItemsThin k raw (thinned_text k raw)

  global_left : (l : ℕ) (v : RawVar) (i : RawInit) (is_static : Bool) (scope : Scope) (rest others : List RawItem) (b : Bool) → k.variable scope.variables ≡ b
      → (k.variable scope.variables ≡ true → VariableStays k raw v i is_static scope) → Here (after_item raw (Global l v i is_static) scope) rest others
      → Here scope (Global l v i is_static ∷ rest) (chosen b (Global l v i is_static) ++ others)
  global_left l v i is_static scope rest others true h c d = ItemsThin.global h (c h).declares (c h).begins d
  global_left l v i is_static scope rest others false h c d = ItemsThin.global_goes h d

  prototype_left : (l : ℕ) (head : RawHead) (scope : Scope) (rest others : List RawItem) (b : Bool) → k.function head.name ≡ b
      → Here (after_item raw (Prototype l head) scope) rest others → Here scope (Prototype l head ∷ rest) (chosen b (Prototype l (head_left (heads_of k) head)) ++ others)
  prototype_left l head scope rest others true h d = ItemsThin.prototype h d
  prototype_left l head scope rest others false h d = ItemsThin.prototype_goes h d

  define_left : (l : ℕ) (head : RawHead) (body : List RawStatement) (scope : Scope) → AreKept raw (body_phrases raw body (entered raw head scope)) → (rest others : List RawItem) (b : Bool) → k.function head.name ≡ b
      → ItemIsClosed k raw (Define l head body) scope → Here (after_item raw (Define l head body) scope) rest others
      → Here scope (Define l head body ∷ rest) (chosen b (Define l (head_left (heads_of k) head) (body_left k raw body (entered raw head scope)).some) ++ others)
  define_left l head body scope rules rest others true h c d =
      let f = c.0 h in ItemsThin.define h f.parameters (body_stays k raw (thinned_text k raw) like body (entered raw head scope) rules f.statements) (λ gives other q. ends_left (entered raw head scope) q (f.result gives other q)) d
  define_left l head body scope rules rest others false h c d =
      let f = c.1 h in
      ItemsThin.define_goes h f.parameters (body_goes k raw (thinned_text k raw) like body (entered raw head scope) rules f.statements) d

  behind : (x : RawItem) (xs : List RawItem) (scope : Scope) → AreKept raw (items_phrases raw (x ∷ xs) scope) → AreKept raw (items_phrases raw xs (after_item raw x scope))
  behind x xs scope = kept_second raw (item_phrases raw x scope) (items_phrases raw xs (after_item raw x scope))

  body_rules : (l : ℕ) (head : RawHead) (body : List RawStatement) (xs : List RawItem) (scope : Scope) → AreKept raw (items_phrases raw (Define l head body ∷ xs) scope)
      → AreKept raw (body_phrases raw body (entered raw head scope))
  body_rules l head body xs scope rules =
      let first = phrase l scope (DeclaresFunction head true) in
      let params = head_phrases raw head.params (scope_of_parameters head scope) in
      let inside = body_phrases raw body (entered raw head scope) in
      let end = phrase l scope (EndsFunction head body) ∷ [] in
      let all = kept_first raw (first ∷ (params ++ (inside ++ end))) (items_phrases raw xs (after_item raw (Define l head body) scope)) rules in
      kept_first raw inside end (kept_second raw params (inside ++ end) all.1)

  all_items_left : (xs : List RawItem) (scope : Scope) → AreKept raw (items_phrases raw xs scope) → ItemsAreClosed k raw xs scope → Here scope xs (items_left k raw xs scope)
  all_items_left [] scope rules c = ItemsThin.none
  all_items_left (Include is_stdlib ∷ xs) scope rules c = ItemsThin.include (all_items_left xs scope rules c.1)
  all_items_left (Tag l w ∷ xs) scope rules c = ItemsThin.tag (all_items_left xs scope (behind (Tag l w) xs scope rules) c.1)
  all_items_left (Struct l w members ∷ xs) scope rules c = ItemsThin.structure c.0 (all_items_left xs (after_item raw (Struct l w members) scope) (behind (Struct l w members) xs scope rules) c.1)
  all_items_left (Global l v i is_static ∷ xs) scope rules c =
      let next = after_item raw (Global l v i is_static) scope in global_left l v i is_static scope xs (items_left k raw xs next) (k.variable scope.variables) refl c.0 (all_items_left xs next (behind (Global l v i is_static) xs scope rules) c.1)
  all_items_left (Prototype l head ∷ xs) scope rules c =
      let next = after_item raw (Prototype l head) scope in prototype_left l head scope xs (items_left k raw xs next) (k.function head.name) refl (all_items_left xs next (behind (Prototype l head) xs scope rules) c.1)
  all_items_left (Define l head body ∷ xs) scope rules c =
      let next = after_item raw (Define l head body) scope in define_left l head body scope (body_rules l head body xs scope rules) xs (items_left k raw xs next) (k.function head.name) refl c.0 (all_items_left xs next (behind (Define l head body) xs scope rules) c.1)

  pub text_left : KeepsRules raw → KeepsText k raw → IsThinner k raw (thinned_text k raw)
  text_left rules c = record { items = all_items_left raw.items outset (kept_from raw (phrases raw) (λ p c n b. rules n p.line (IsBroken.by_phrase c b))) c.items; main = c.main; result = c.result }
