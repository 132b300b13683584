-- Nothing stays in an if, loop or switch of a program that isn't kept, where what is kept hangs together.
use Rattle.std.proofs.Common.{◌≡◌, ℕ, zero, suc, ◌≤◌, ◌<◌, List, [], ◌∷◌, ◌++◌, map, slice_get, Bool, true, false, ◌⊎◌, inl, inr, Some, refl, sym, ap, ◌∙◌, subst, arith}
use Rattle.std.specs.List.{list_all}
use Rattle.std.proofs.lemmas.Bool.{and_parts, and_from}
use Rattle.std.proofs.lemmas.Option.{same_Some}
use Rattle.c_tree.specs.declared.program.Function.{Function}
use Rattle.c_tree.specs.declared.program.Program.{Program}
use Rattle.c_tree.specs.declared.raw.program.RawHead.{RawHead}
use Rattle.c_tree.specs.declared.raw.program.RawItem.{RawItem}
use Rattle.c_tree.specs.declared.raw.program.RawItem.TheVariants.{Define}
use Rattle.c_tree.specs.declared.raw.program.RawProgram.{RawProgram}
use Rattle.c_tree.specs.declared.raw.statement.RawStatement.{RawStatement}
use Rattle.c_tree.specs.declared.statement.Statement.{Statement}
use Rattle.c_language.specs.Phrases.{EndsFunction, phrase, head_phrases, body_phrases, item_phrases, after_item, after_items, items_phrases}
use Rattle.c_language.specs.ProgramOf.{treed, body_of, function_tree}
use Rattle.c_language.specs.Rules.{AreKept}
use Rattle.c_language.specs.Scopes.{Scope, scope_of_parameters, entered, after_all}
use Rattle.c_language.proofs.PhraseLists.{kept_first, kept_second}
use Rattle.c_language.proofs.ProgramParts.{function_made}
use Rattle.dep_model.specs.Doings.{Doing, body_doings, functions_doings}
use Rattle.dep_model.proofs.Membership.{IsIn, in_either}
use Rattle.projection.specs.Kept.{Kept}
use Rattle.projection.specs.KeptVertices.{is_taken}
use Rattle.projection_laws.specs.Nested.{all_fit, nest, is_nested}
use Rattle.projection_laws.specs.Staying.{any_stays, all_clear, rest, is_clear, IsClear}
use Rattle.hanging_sets.specs.Hanging.{words_in, HangsTogether}
use Rattle.hanging_sets.specs.NamedBy.{doing_names}
use Rattle.hanging_sets.proofs.NamedDoings.{functions_same, named_of_in, in_of_named, kept_named}
use Rattle.hanging_sets.proofs.Taken.{taken_by}
use Rattle.kept_texts.proofs.Clearing.{Inside, body_clear, body_held}
use Rattle.kept_texts.proofs.NestedDoings.{any_done}
use Rattle.kept_texts.proofs.OwnVariables.{HasFunctions, next, next_spans, entered_more, item_more, item_spans, spans_entered, after_body_is, params_entered, params_below, reached, passed, params_later, names_later}
use Rattle.kept_texts.proofs.Spans.{Spans, Gap, not_between, Any}

-- a statement of some functions is one of a function
pub record IsOf (fs : List Function) (d : Doing) : Type 0 where
  pub number : ℕ
  pub function : Function
  pub at : slice_get fs number ≡ Some function
  pub member : IsIn (body_doings function.body) d

pub of_function : (fs : List Function) (d : Doing) → IsIn (functions_doings fs) d → IsOf fs d
of_function [] d m = absurd m
of_function (f ∷ fs) d m = elim (in_either (body_doings f.body) (functions_doings fs) d m) [
  | inl a ↦ record { number = zero; function = f; at = refl; member = a }
  | inr b ↦ let w = of_function fs d b in record { number = suc w.number; function = w.function; at = w.at; member = w.member }
]

none_at : {A : Type 0} {B : Type 0} (k : ℕ) (x : A) → slice_get {X = A} [] k ≡ Some x → B
none_at k x h = cc

module _ (raw : RawProgram) where
  kept_behind : (before rest : List RawItem) (scope : Scope) → AreKept raw (items_phrases raw (before ++ rest) scope) → AreKept raw (items_phrases raw rest (after_items raw before scope))
  kept_behind [] rest scope kept = kept
  kept_behind (x ∷ before) rest scope kept = kept_behind before rest (after_item raw x scope) (kept_second raw (item_phrases raw x scope) (items_phrases raw (before ++ rest) (after_item raw x scope)) kept)

  -- where a function stands in a text: its variables are named in it alone, and no parameter is among those of its body
  record StandsAt (fs : List Function) (scope : Scope) (f : ℕ) (c : Function) : Type 0 where
    line : ℕ
    head : RawHead
    body : List RawStatement
    place : Scope
    made : function_tree raw line head body place ≡ Some c
    more : scope.variables ≤ place.variables
    spans : Spans Any place
    kept : AreKept raw (body_phrases raw body (entered raw head place))
    parameters : (g n x : ℕ) (k : Function) → slice_get fs g ≡ Some k → slice_get k.params n ≡ Some x → (x < (entered raw head place).variables) ⊎ ((after_item raw (Define line head body) place).variables ≤ x)
    own : (g x : ℕ) (k : Function) (d : Doing) → slice_get fs g ≡ Some k → IsIn (body_doings k.body) d → doing_names d x ≡ true
        → (entered raw head place).variables ≤ x → x < (after_item raw (Define line head body) place).variables → g ≡ f

  stands_at : (fs : List Function) (xs : List RawItem) (scope : Scope) → Spans Any scope → AreKept raw (items_phrases raw xs scope) → HasFunctions raw xs scope fs → (f : ℕ) (c : Function) → slice_get fs f ≡ Some c → StandsAt fs scope f c
  stands_at [] xs scope s kept e f c at = none_at f c at
  stands_at (z ∷ fs) xs scope s kept e zero c at =
      let w = next raw xs scope z fs e in
      let after = after_item raw (Define w.line w.head w.body) w.place in
      let rules = subst (λ (y : Scope). AreKept raw (items_phrases raw (Define w.line w.head w.body ∷ w.items) y)) (sym w.at) (kept_behind w.before (Define w.line w.head w.body ∷ w.items) scope (subst (λ (ys : List RawItem). AreKept raw (items_phrases raw ys scope)) w.split kept)) in
      let here = kept_first raw (item_phrases raw (Define w.line w.head w.body) w.place) (items_phrases raw w.items after) rules in
      let inside = kept_second raw (head_phrases raw w.head.params (scope_of_parameters w.head w.place)) (body_phrases raw w.body (entered raw w.head w.place) ++ (phrase w.line w.place (EndsFunction w.head w.body) ∷ [])) here.1 in
      let start = entered_more raw w.head w.place in
      record {
        line = w.line;
        head = w.head;
        body = w.body;
        place = w.place;
        made = w.made ∙ at;
        more = w.more;
        spans = next_spans raw Any w s;
        kept = kept_first raw (body_phrases raw w.body (entered raw w.head w.place)) (phrase w.line w.place (EndsFunction w.head w.body) ∷ []) inside;
        parameters = λ g n x k there h. outside w.line w.head w.body w.place w.items w.made w.later g n x k there h;
        own = λ g x k d there m names low high. within w.line w.head w.body w.place w.items w.made w.later (next_spans raw Any w s) g x k d there m names low high;
      }
    where
      outside : (l : ℕ) (head : RawHead) (body : List RawStatement) (place : Scope) (items : List RawItem) → function_tree raw l head body place ≡ Some z → HasFunctions raw items (after_item raw (Define l head body) place) fs
          → (g n x : ℕ) (k : Function) → slice_get (z ∷ fs) g ≡ Some k → slice_get k.params n ≡ Some x → (x < (entered raw head place).variables) ⊎ ((after_item raw (Define l head body) place).variables ≤ x)
      outside l head body place items made later zero n x k there h = inl (params_entered raw l head body place z made n x (ap (λ (y : Function). slice_get y.params n) (same_Some _ _ there) ∙ h))
      outside l head body place items made later (suc g) n x k there h = inr (params_later raw fs items (after_item raw (Define l head body) place) later g n x k there h)

      within : (l : ℕ) (head : RawHead) (body : List RawStatement) (place : Scope) (items : List RawItem) → function_tree raw l head body place ≡ Some z → HasFunctions raw items (after_item raw (Define l head body) place) fs → Spans Any place
          → (g x : ℕ) (k : Function) (d : Doing) → slice_get (z ∷ fs) g ≡ Some k → IsIn (body_doings k.body) d → doing_names d x ≡ true
          → (entered raw head place).variables ≤ x → x < (after_item raw (Define l head body) place).variables → g ≡ 0
      within l head body place items made later spans zero x k d there m names low high = refl
      within l head body place items made later spans (suc g) x k d there m names low high =
          let after = after_item raw (Define l head body) place in
          let start = entered_more raw head place in
          not_between place.variables after.variables x (names_later raw (Gap place.variables after.variables) fs items after (passed raw l head body place z made spans) later g x k d there m names) (omega (arith, start, low)) high
  stands_at (z ∷ fs) xs scope s kept e (suc f) c at =
      let w = next raw xs scope z fs e in
      let after = after_item raw (Define w.line w.head w.body) w.place in
      let rules = subst (λ (y : Scope). AreKept raw (items_phrases raw (Define w.line w.head w.body ∷ w.items) y)) (sym w.at) (kept_behind w.before (Define w.line w.head w.body ∷ w.items) scope (subst (λ (ys : List RawItem). AreKept raw (items_phrases raw ys scope)) w.split kept)) in
      let r = stands_at fs w.items after (item_spans raw Any (Define w.line w.head w.body) w.place (next_spans raw Any w s)) (kept_second raw (item_phrases raw (Define w.line w.head w.body) w.place) (items_phrases raw w.items after) rules) w.later f c at in
      let grown = item_more raw (Define w.line w.head w.body) w.place in
      let far = r.more in
      let near = w.more in
      record {
        line = r.line;
        head = r.head;
        body = r.body;
        place = r.place;
        made = r.made;
        more = omega (arith, grown, far, near);
        spans = r.spans;
        kept = r.kept;
        parameters = λ g n x k there h. outside w.line w.head w.body w.place w.made r far g n x k there h;
        own = λ g x k d there m names low high. within w.line w.head w.body w.place w.made (next_spans raw Any w s) r far g x k d there m names low high;
      }
    where
      outside : (l : ℕ) (head : RawHead) (body : List RawStatement) (place : Scope) → function_tree raw l head body place ≡ Some z → (r : StandsAt fs (after_item raw (Define l head body) place) f c) → (after_item raw (Define l head body) place).variables ≤ r.place.variables
          → (g n x : ℕ) (k : Function) → slice_get (z ∷ fs) g ≡ Some k → slice_get k.params n ≡ Some x → (x < (entered raw r.head r.place).variables) ⊎ ((after_item raw (Define r.line r.head r.body) r.place).variables ≤ x)
      outside l head body place made r far zero n x k there h =
          let below = params_below raw l head body place z made n x (ap (λ (y : Function). slice_get y.params n) (same_Some _ _ there) ∙ h) in
          let start = entered_more raw r.head r.place in
          inl (omega (arith, below, far, start))
      outside l head body place made r far (suc g) n x k there h = r.parameters g n x k there h

      within : (l : ℕ) (head : RawHead) (body : List RawStatement) (place : Scope) → function_tree raw l head body place ≡ Some z → Spans Any place → (r : StandsAt fs (after_item raw (Define l head body) place) f c) → (after_item raw (Define l head body) place).variables ≤ r.place.variables
          → (g x : ℕ) (k : Function) (d : Doing) → slice_get (z ∷ fs) g ≡ Some k → IsIn (body_doings k.body) d → doing_names d x ≡ true
          → (entered raw r.head r.place).variables ≤ x → x < (after_item raw (Define r.line r.head r.body) r.place).variables → g ≡ suc f
      within l head body place made spans r far zero x k d there m names low high =
          let below = (reached raw l head body place z made Any spans d x (subst (λ (y : Function). IsIn (body_doings y.body) d) (sym (same_Some _ _ there)) m) names).1 in
          let start = entered_more raw r.head r.place in
          absurd (omega (arith, below, far, start, low))
      within l head body place made spans r far (suc g) x k d there m names low high = ap suc (r.own g x k d there m names low high)

module _ (raw : RawProgram) (p : Program) (k : Kept ℕ) (h : HangsTogether p k) where
  not_taken : (b : Bool) → (b ≡ true → ⊥) → b ≡ false
  not_taken true f = absurd (f refl)
  not_taken false f = refl

  fit_all : (xs : List Statement) → list_all (is_nested k.statement) xs ≡ true → all_fit (map (nest k.statement) xs) ≡ true
  fit_all [] q = refl
  fit_all (x ∷ xs) q = let b = and_parts (is_nested k.statement x) (list_all (is_nested k.statement) xs) q in and_from (is_nested k.statement x) _ b.0 (fit_all xs b.1)

  clear_all : (xs : List Statement) → all_clear (map (rest k.statement k.variable) xs) ≡ true → list_all (is_clear k.statement k.variable) xs ≡ true
  clear_all [] q = refl
  clear_all (x ∷ xs) q =
      let b = and_parts (is_clear k.statement k.variable x) (all_clear (map (rest k.statement k.variable) xs)) q in and_from (is_clear k.statement k.variable x) (list_all (is_clear k.statement k.variable) xs) b.0 (clear_all xs b.1)

  -- the function of a text with a number: its body, and that each kept variable that it declares is named in it
  record Body (c : Function) : Type 0 where
    body : List RawStatement
    place : Scope
    statements : List Statement
    same : c.body ≡ statements
    spans : Spans Any place
    there : body_of raw body place ≡ Some statements
    kept : AreKept raw (body_phrases raw body place)
    inside : Inside raw k (body_doings statements) place.variables (after_all (map (treed raw) body) place).variables

  body_at : (xs : List RawItem) (scope : Scope) → Spans Any scope → AreKept raw (items_phrases raw xs scope) → HasFunctions raw xs scope p.functions → (f : ℕ) (c : Function) → slice_get p.functions f ≡ Some c → Body c
  body_at xs scope s kept e f c at =
      let w = stands_at raw p.functions xs scope s kept e f c at in
      let q = function_made raw w.line w.head w.body w.place c w.made in
      let place = entered raw w.head w.place in
      let same : c.body ≡ q.statements = ap (λ (y : Function). y.body) q.is in
      let end : (after_item raw (Define w.line w.head w.body) w.place).variables ≡ (after_all (map (treed raw) w.body) place).variables = ap (λ (y : Scope). y.variables) (after_body_is raw w.body place) in
      let inside : Inside raw k (body_doings c.body) place.variables (after_all (map (treed raw) w.body) place).variables =
      λ id v low high.
      let below : id < (after_item raw (Define w.line w.head w.body) w.place).variables = omega (arith, high, end) in
      let free : is_taken p.functions id ≡ false = not_taken (is_taken p.functions id) (λ t.
      let y = taken_by p.functions id t in
      elim (w.parameters y.function y.place id y.is.function y.is.at y.is.parameter) [ inl a ↦ absurd (omega (arith, a, low)) | inr b ↦ absurd (omega (arith, b, below)) ])
      in
      let n = in_of_named (words_in k) (functions_doings p.functions) id (sym (functions_same (words_in k) p.functions id) ∙ h.variables id v free) in
      let o = of_function p.functions n.doing n.member in
      let here = w.own o.number id o.function n.doing o.at o.member (kept_named (words_in k) n.doing id n.names) low below in
      let is : o.function ≡ c = same_Some _ _ (sym o.at ∙ ap (slice_get p.functions) here ∙ at) in
      named_of_in (words_in k) (body_doings c.body) n.doing id (subst (λ (y : Function). IsIn (body_doings y.body) n.doing) is o.member) n.names
      in
      record {
        body = w.body;
        place = place;
        statements = q.statements;
        same = same;
        spans = spans_entered raw Any w.head w.place w.spans;
        there = q.statements_there;
        kept = w.kept;
        inside = subst (λ (ys : List Statement). Inside raw k (body_doings ys) place.variables (after_all (map (treed raw) w.body) place).variables) same inside;
      }

  -- each function of the text is clear
  function_clear : (xs : List RawItem) (scope : Scope) → Spans Any scope → AreKept raw (items_phrases raw xs scope) → HasFunctions raw xs scope p.functions
      → (f : ℕ) (c : Function) → slice_get p.functions f ≡ Some c → list_all (is_nested k.statement) c.body ≡ true → list_all (is_clear k.statement k.variable) c.body ≡ true
  function_clear xs scope s kept e f c at nested =
      let w = body_at xs scope s kept e f c at in
      clear_all c.body
      (subst (λ (ys : List Statement). all_clear (map (rest k.statement k.variable) ys) ≡ true) (sym w.same)
      (body_clear raw k w.body w.place w.statements w.spans w.there w.kept (fit_all w.statements (subst (λ (ys : List Statement). list_all (is_nested k.statement) ys ≡ true) w.same nested)) w.inside))

  -- what stays of a function is kept in it
  pub function_held : (xs : List RawItem) (scope : Scope) → Spans Any scope → AreKept raw (items_phrases raw xs scope) → HasFunctions raw xs scope p.functions
      → (f : ℕ) (c : Function) → slice_get p.functions f ≡ Some c → any_stays (map (rest k.statement k.variable) c.body) ≡ true → any_done k.statement (body_doings c.body) ≡ true
  function_held xs scope s kept e f c at stays =
      let w = body_at xs scope s kept e f c at in
      subst (λ (ys : List Statement). any_done k.statement (body_doings ys) ≡ true) (sym w.same)
      (body_held raw k w.body w.place w.statements w.there w.inside (subst (λ (ys : List Statement). any_stays (map (rest k.statement k.variable) ys) ≡ true) w.same stays))

  each : (test other : Function → Bool) (fs : List Function) → list_all test fs ≡ true → ((f : ℕ) (c : Function) → slice_get fs f ≡ Some c → test c ≡ true → other c ≡ true) → list_all other fs ≡ true
  each test other [] q g = refl
  each test other (c ∷ fs) q g =
      let b = and_parts (test c) (list_all test fs) q in and_from (other c) (list_all other fs) (g zero c refl b.0) (each test other fs b.1 (λ f x at t. g (suc f) x at t))

  pub program_clear : (xs : List RawItem) (scope : Scope) → Spans Any scope → AreKept raw (items_phrases raw xs scope) → HasFunctions raw xs scope p.functions → IsClear k.statement k.variable p
  program_clear xs scope s kept e =
      each (λ (c : Function). list_all (is_nested k.statement) c.body) (λ (c : Function). list_all (is_clear k.statement k.variable) c.body) p.functions h.nested (function_clear xs scope s kept e)
