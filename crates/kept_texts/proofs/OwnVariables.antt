-- The functions of a text have parameters of their own, each with one number, which no other function names.
use Rattle.std.proofs.Common.{◌≡◌, ℕ, zero, suc, ◌+◌, ◌<◌, ◌≤◌, List, [], ◌∷◌, ◌++◌, map, slice_get, Bool, true, false, Option, Some, None, refl, sym, ap, ◌∙◌, subst, arith, le_refl}
use Rattle.std.specs.Prelude.{if◌then◌else◌, is_some}
use Rattle.std.proofs.lemmas.Option.{same_Some}
use Rattle.c_tree.specs.declared.program.Function.{Function}
use Rattle.c_tree.specs.declared.raw.program.RawHead.{RawHead}
use Rattle.c_tree.specs.declared.raw.program.RawInit.TheVariants as init
use Rattle.c_tree.specs.declared.raw.program.RawItem.{RawItem}
use Rattle.c_tree.specs.declared.raw.program.RawItem.TheVariants.{Include, Tag, Struct, Global, Prototype, Define}
use Rattle.c_tree.specs.declared.raw.program.RawParam.{RawParam}
use Rattle.c_tree.specs.declared.raw.program.RawProgram.{RawProgram}
use Rattle.c_tree.specs.declared.raw.statement.RawStatement.{RawStatement}
use Rattle.c_language.specs.Words.{Bytes}
use Rattle.c_language.specs.Phrases.{after_body, after_item, after_items}
use Rattle.c_language.specs.ProgramOf.{collected, treed, parameter_ids, function_tree, functions_from}
use Rattle.c_language.specs.Scopes.{Scope, with_function, with_named, with_parameter, with_parameters, parameter_of, scope_of_parameters, entered, after_all}
use Rattle.c_language.proofs.Lists.{head_is, tail_is, no_list}
use Rattle.c_language.proofs.Options.{some_same, more_there}
use Rattle.c_language.proofs.PhraseLists.{body_after}
use Rattle.c_language.proofs.ProgramParts.{function_made}
use Rattle.c_language.proofs.ScopeNumbers.{function_declared, function_variables}
use Rattle.c_language.proofs.TreeScopes.{list_after}
use Rattle.dep_model.specs.Doings.{Doing, body_doings}
use Rattle.dep_model.proofs.Membership.{IsIn}
use Rattle.hanging_sets.specs.NamedBy.{doing_names}
use Rattle.kept_texts.proofs.NamesReach.{one_reached, body_reached, body_grows}
use Rattle.kept_texts.proofs.Spans.{holds_more, Spans, spans_later, spans_more, Gap, not_between, Any, gap_spans}

none_at : {A : Type 0} {B : Type 0} (k : ℕ) (x : A) → slice_get {X = A} [] k ≡ Some x → B
none_at k x h = cc

-- ---- the numbers of parameters

ids_low : (ps : List RawParam) (n k x : ℕ) → slice_get (parameter_ids ps n) k ≡ Some x → n ≤ x
ids_low [] n k x h = none_at k x h
ids_low (p ∷ ps) n k x h = by_name (is_some p.name) k h (λ m j q. ids_low ps m j x q)
  where
    by_name : (b : Bool) (k : ℕ) → slice_get (if b then n ∷ parameter_ids ps (n + 1) else parameter_ids ps n) k ≡ Some x → ((m j : ℕ) → slice_get (parameter_ids ps m) j ≡ Some x → m ≤ x) → n ≤ x
    by_name true zero q later = let e : n ≡ x = same_Some _ _ q in omega (arith, e)
    by_name true (suc j) q later = let e = later (n + 1) j q in omega (arith, e)
    by_name false j q later = later n j q

ids_once : (ps : List RawParam) (n j k x : ℕ) → slice_get (parameter_ids ps n) j ≡ Some x → slice_get (parameter_ids ps n) k ≡ Some x → j ≡ k
ids_once [] n j k x h q = none_at j x h
ids_once (p ∷ ps) n j k x h q = by_name (is_some p.name) j k h q (λ m a b r t. ids_once ps m a b x r t)
  where
    by_name : (b : Bool) (j k : ℕ) → slice_get (if b then n ∷ parameter_ids ps (n + 1) else parameter_ids ps n) j ≡ Some x → slice_get (if b then n ∷ parameter_ids ps (n + 1) else parameter_ids ps n) k ≡ Some x
        → ((m a b : ℕ) → slice_get (parameter_ids ps m) a ≡ Some x → slice_get (parameter_ids ps m) b ≡ Some x → a ≡ b) → j ≡ k
    by_name true zero zero h q later = refl
    by_name true zero (suc k) h q later = let e : n ≡ x = same_Some _ _ h in let le = ids_low ps (n + 1) k x q in absurd (omega (arith, e, le))
    by_name true (suc j) zero h q later = let e : n ≡ x = same_Some _ _ q in let le = ids_low ps (n + 1) j x h in absurd (omega (arith, e, le))
    by_name true (suc j) (suc k) h q later = ap suc (later (n + 1) j k h q)
    by_name false j k h q later = later n j k h q

module _ (raw : RawProgram) where
  parameters_grow : (ps : List RawParam) (scope : Scope) → scope.variables ≤ (with_parameters raw ps scope).variables
  parameters_grow [] scope = le_refl scope.variables
  parameters_grow (p ∷ ps) scope = by_name p.name (parameters_grow ps)
    where
      by_name : (o : Option Bytes) → ((s : Scope) → s.variables ≤ (with_parameters raw ps s).variables) → scope.variables ≤ (with_parameters raw ps (with_named raw p o scope)).variables
      by_name None grow = grow scope
      by_name (Some name) grow =
          let le : scope.variables + 1 ≤ (with_parameters raw ps (with_named raw p (Some name) scope)).variables = grow (with_named raw p (Some name) scope) in omega (arith, le)

  ids_below : (ps : List RawParam) (scope : Scope) (k x : ℕ) → slice_get (parameter_ids ps scope.variables) k ≡ Some x → x < (with_parameters raw ps scope).variables
  ids_below [] scope k x h = none_at k x h
  ids_below (p ∷ ps) scope k x h = by_name p.name k h (λ s j q. ids_below ps s j x q) (parameters_grow ps)
    where
      by_name : (o : Option Bytes) (k : ℕ) → slice_get (if is_some o then scope.variables ∷ parameter_ids ps (scope.variables + 1) else parameter_ids ps scope.variables) k ≡ Some x
          → ((s : Scope) (j : ℕ) → slice_get (parameter_ids ps s.variables) j ≡ Some x → x < (with_parameters raw ps s).variables)
          → ((s : Scope) → s.variables ≤ (with_parameters raw ps s).variables) → x < (with_parameters raw ps (with_named raw p o scope)).variables
      by_name None k q later grow = later scope k q
      by_name (Some name) zero q later grow =
          let e : scope.variables ≡ x = same_Some _ _ q in
          let le : scope.variables + 1 ≤ (with_parameters raw ps (with_named raw p (Some name) scope)).variables = grow (with_named raw p (Some name) scope) in
          omega (arith, e, le)
      by_name (Some name) (suc j) q later grow = later (with_named raw p (Some name) scope) j q

  -- ---- scopes along a text

  pub after_body_is : (body : List RawStatement) (scope : Scope) → after_body raw body scope ≡ after_all (map (treed raw) body) scope
  after_body_is body scope = body_after raw body scope ∙ sym (list_after raw body scope)

  pub entered_more : (head : RawHead) (scope : Scope) → scope.variables ≤ (entered raw head scope).variables
  entered_more head scope =
      let same : (with_function head.name scope).variables ≡ scope.variables = function_variables head.name scope in
      let le : (with_function head.name scope).variables ≤ (entered raw head scope).variables = parameters_grow head.params (scope_of_parameters head scope) in
      omega (arith, same, le)

  pub define_more : (l : ℕ) (head : RawHead) (body : List RawStatement) (scope : Scope) → (entered raw head scope).variables ≤ (after_item raw (Define l head body) scope).variables
  define_more l head body scope =
      let same = ap (λ (z : Scope). z.variables) (after_body_is body (entered raw head scope)) in
      let le = (body_grows raw Any body).more (entered raw head scope) in
      omega (arith, same, le)

  pub item_more : (x : RawItem) (scope : Scope) → scope.variables ≤ (after_item raw x scope).variables
  item_more (Include b) scope = le_refl scope.variables
  item_more (Tag l tag) scope = le_refl scope.variables
  item_more (Struct l tag members) scope = le_refl scope.variables
  item_more (Global l v i is_static) scope = omega arith
  item_more (Prototype l head) scope = let same = function_variables head.name scope in omega (arith, same)
  item_more (Define l head body) scope =
      let one = entered_more head scope in
      let other = define_more l head body scope in
      omega (arith, one, other)

  module _ (P : ℕ → Type 0) where
    spans_function : (name : Bytes) (scope : Scope) → Spans P scope → Spans P (with_function name scope)
    spans_function name scope s = function_declared (Spans P) name scope s (holds_more P scope.variables scope.names _ s.0 tt, s.1)

    spans_parameters : (ps : List RawParam) (scope : Scope) → Spans P scope → Spans P (with_parameters raw ps scope)
    spans_parameters [] scope s = s
    spans_parameters (p ∷ ps) scope s = spans_parameters ps (with_parameter raw p scope) (by_name p.name)
      where
        by_name : (o : Option Bytes) → Spans P (with_named raw p o scope)
        by_name None = s
        by_name (Some name) = spans_more P raw scope (parameter_of p name) init.None s

    pub spans_entered : (head : RawHead) (scope : Scope) → Spans P scope → Spans P (entered raw head scope)
    spans_entered head scope s = spans_parameters head.params (scope_of_parameters head scope) (spans_function head.name scope s)

    pub item_spans : (x : RawItem) (scope : Scope) → Spans P scope → Spans P (after_item raw x scope)
    item_spans (Include b) scope s = s
    item_spans (Tag l tag) scope s = s
    item_spans (Struct l tag members) scope s = s
    item_spans (Global l v i is_static) scope s = spans_more P raw scope v i s
    item_spans (Prototype l head) scope s = spans_function head.name scope s
    item_spans (Define l head body) scope s =
        let same : (with_function head.name scope).variables ≡ scope.variables = function_variables head.name scope in
        let le : scope.variables ≤ (after_item raw (Define l head body) scope).variables = item_more (Define l head body) scope in
        spans_later P (with_function head.name scope) (after_item raw (Define l head body) scope) refl (omega (arith, same, le)) (spans_function head.name scope s)

  -- ---- the next function of a text

  abbrev pub HasFunctions : List RawItem → Scope → List Function → Type 0
  HasFunctions xs scope fs = collected (functions_from raw xs scope) ≡ Some fs

  pub record Next (xs : List RawItem) (scope : Scope) (c : Function) (cs : List Function) : Type 0 where
    pub line : ℕ
    pub head : RawHead
    pub body : List RawStatement
    pub items : List RawItem
    pub place : Scope
    pub before : List RawItem
    pub split : xs ≡ before ++ Define line head body ∷ items
    pub at : place ≡ after_items raw before scope
    pub more : scope.variables ≤ place.variables
    pub made : function_tree raw line head body place ≡ Some c
    pub later : HasFunctions items (after_item raw (Define line head body) place) cs

  behind : (x : RawItem) (xs : List RawItem) (scope : Scope) (c : Function) (cs : List Function) → Next xs (after_item raw x scope) c cs → Next (x ∷ xs) scope c cs
  behind x xs scope c cs w =
      let one = item_more x scope in
      let other = w.more in
      record {
        line = w.line;
        head = w.head;
        body = w.body;
        items = w.items;
        place = w.place;
        before = x ∷ w.before;
        split = ap (λ (ys : List RawItem). x ∷ ys) w.split;
        at = w.at;
        more = omega (arith, one, other);
        made = w.made;
        later = w.later;
      }

  pub next : (xs : List RawItem) (scope : Scope) (c : Function) (cs : List Function) → HasFunctions xs scope (c ∷ cs) → Next xs scope c cs
  next [] scope c cs e = no_list (sym (some_same e))
  next (Include b ∷ xs) scope c cs e = behind (Include b) xs scope c cs (next xs scope c cs e)
  next (Tag l tag ∷ xs) scope c cs e = behind (Tag l tag) xs scope c cs (next xs scope c cs e)
  next (Struct l tag members ∷ xs) scope c cs e = behind (Struct l tag members) xs scope c cs (next xs (after_item raw (Struct l tag members) scope) c cs e)
  next (Global l v i is_static ∷ xs) scope c cs e = behind (Global l v i is_static) xs scope c cs (next xs (after_item raw (Global l v i is_static) scope) c cs e)
  next (Prototype l head ∷ xs) scope c cs e = behind (Prototype l head) xs scope c cs (next xs (with_function head.name scope) c cs e)
  next (Define l head body ∷ xs) scope c cs e =
      let after = after_item raw (Define l head body) scope in
      let z = more_there (function_tree raw l head body scope) (functions_from raw xs after) (c ∷ cs) e in
      record {
        line = l;
        head = head;
        body = body;
        items = xs;
        place = scope;
        before = [];
        split = refl;
        at = refl;
        more = le_refl scope.variables;
        made = z.first_there ∙ ap Some (head_is z.same);
        later = z.rest_there ∙ ap Some (tail_is z.same);
      }

  items_span : (P : ℕ → Type 0) (xs : List RawItem) (scope : Scope) → Spans P scope → Spans P (after_items raw xs scope)
  items_span P [] scope s = s
  items_span P (x ∷ xs) scope s = items_span P xs (after_item raw x scope) (item_spans P x scope s)

  pub next_spans : (P : ℕ → Type 0) {xs : List RawItem} {scope : Scope} {c : Function} {cs : List Function} (w : Next xs scope c cs) → Spans P scope → Spans P w.place
  next_spans P {scope = scope} w s = subst (Spans P) (sym w.at) (items_span P w.before scope s)

  -- ---- one function

  module _ (l : ℕ) (head : RawHead) (body : List RawStatement) (scope : Scope) (c : Function) (made : function_tree raw l head body scope ≡ Some c) where
    params_are : c.params ≡ parameter_ids head.params scope.variables
    params_are = ap (λ (f : Function). f.params) (function_made raw l head body scope c made).is

    params_from : (n x : ℕ) → slice_get c.params n ≡ Some x → scope.variables ≤ x
    params_from n x h = ids_low head.params scope.variables n x (subst (λ (xs : List ℕ). slice_get xs n ≡ Some x) params_are h)

    -- its parameters are numbered before its body
    pub params_entered : (n x : ℕ) → slice_get c.params n ≡ Some x → x < (entered raw head scope).variables
    params_entered n x h =
        let start : scope.variables ≡ (scope_of_parameters head scope).variables = sym (function_variables head.name scope) in
        ids_below head.params (scope_of_parameters head scope) n x (subst (λ (m : ℕ). slice_get (parameter_ids head.params m) n ≡ Some x) start (subst (λ (xs : List ℕ). slice_get xs n ≡ Some x) params_are h))

    pub params_below : (n x : ℕ) → slice_get c.params n ≡ Some x → x < (after_item raw (Define l head body) scope).variables
    params_below n x h =
        let below = params_entered n x h in
        let le = define_more l head body scope in
        omega (arith, below, le)

    params_once : (n m x : ℕ) → slice_get c.params n ≡ Some x → slice_get c.params m ≡ Some x → n ≡ m
    params_once n m x h k =
        ids_once head.params scope.variables n m x (subst (λ (xs : List ℕ). slice_get xs n ≡ Some x) params_are h) (subst (λ (xs : List ℕ). slice_get xs m ≡ Some x) params_are k)

    pub reached : (P : ℕ → Type 0) → Spans P scope → (d : Doing) (x : ℕ) → IsIn (body_doings c.body) d → doing_names d x ≡ true → P x × (x < (after_item raw (Define l head body) scope).variables)
    reached P s d x m h =
        let q = function_made raw l head body scope c made in
        let after = after_item raw (Define l head body) scope in
        let end : (after_all (map (treed raw) body) (entered raw head scope)).variables ≡ after.variables = sym (ap (λ (z : Scope). z.variables) (after_body_is body (entered raw head scope))) in
        let all = body_reached raw P body (entered raw head scope) q.statements (spans_entered P head scope s) q.statements_there after.variables (omega (arith, end)) in
        one_reached raw P after.variables (body_doings q.statements) d all (subst (λ (f : Function). IsIn (body_doings f.body) d) q.is m) x h

    -- behind it, its variables are passed over
    pub passed : Spans Any scope → Spans (Gap scope.variables (after_item raw (Define l head body) scope).variables) (after_item raw (Define l head body) scope)
    passed s =
        let same : (with_function head.name scope).variables ≡ scope.variables = function_variables head.name scope in
        let le : scope.variables ≤ (after_item raw (Define l head body) scope).variables = item_more (Define l head body) scope in
        let after = after_item raw (Define l head body) scope in
        subst (λ (m : ℕ). Spans (Gap m after.variables) after) same
        (gap_spans (with_function head.name scope) after (spans_function Any head.name scope s) refl (omega (arith, same, le)))

  -- ---- all of them

  pub params_later : (fs : List Function) (xs : List RawItem) (scope : Scope) → HasFunctions xs scope fs → (g n x : ℕ) (c : Function) → slice_get fs g ≡ Some c → slice_get c.params n ≡ Some x → scope.variables ≤ x
  params_later [] xs scope e g n x c at h = none_at g c at
  params_later (f ∷ fs) xs scope e zero n x c at h =
      let w = next xs scope f fs e in
      let le = params_from w.line w.head w.body w.place f w.made n x (ap (λ (k : Function). slice_get k.params n) (same_Some _ _ at) ∙ h) in
      let more = w.more in
      omega (arith, more, le)
  params_later (f ∷ fs) xs scope e (suc g) n x c at h =
      let w = next xs scope f fs e in
      let le = params_later fs w.items (after_item raw (Define w.line w.head w.body) w.place) w.later g n x c at h in
      let more = w.more in
      let grown = item_more (Define w.line w.head w.body) w.place in
      omega (arith, more, grown, le)

  pub names_later : (P : ℕ → Type 0) (fs : List Function) (xs : List RawItem) (scope : Scope) → Spans P scope → HasFunctions xs scope fs → (f x : ℕ) (c : Function) (d : Doing) → slice_get fs f ≡ Some c → IsIn (body_doings c.body) d → doing_names d x ≡ true → P x
  names_later P [] xs scope s e f x c d at m h = none_at f c at
  names_later P (k ∷ fs) xs scope s e zero x c d at m h =
      let w = next xs scope k fs e in
      (reached w.line w.head w.body w.place k w.made P (next_spans P w s) d x (subst (λ (f : Function). IsIn (body_doings f.body) d) (sym (same_Some _ _ at)) m) h).0
  names_later P (k ∷ fs) xs scope s e (suc f) x c d at m h =
      let w = next xs scope k fs e in
      names_later P fs w.items (after_item raw (Define w.line w.head w.body) w.place) (item_spans P (Define w.line w.head w.body) w.place (next_spans P w s)) w.later f x c d at m h

  pub own : (fs : List Function) (xs : List RawItem) (scope : Scope) → Spans Any scope → HasFunctions xs scope fs
      → (f g n x : ℕ) (c k : Function) (d : Doing) → slice_get fs f ≡ Some c → IsIn (body_doings c.body) d → doing_names d x ≡ true → slice_get fs g ≡ Some k → slice_get k.params n ≡ Some x → g ≡ f
  own [] xs scope s e f g n x c k d at m h there q = none_at f c at
  own (z ∷ fs) xs scope s e zero zero n x c k d at m h there q = refl
  own (z ∷ fs) xs scope s e zero (suc g) n x c k d at m h there q =
      let w = next xs scope z fs e in
      let after = after_item raw (Define w.line w.head w.body) w.place in
      let below = (reached w.line w.head w.body w.place z w.made Any (next_spans Any w s) d x (subst (λ (f : Function). IsIn (body_doings f.body) d) (sym (same_Some _ _ at)) m) h).1 in
      let le = params_later fs w.items after w.later g n x k there q in
      absurd (omega (arith, below, le))
  own (z ∷ fs) xs scope s e (suc f) zero n x c k d at m h there q =
      let w = next xs scope z fs e in
      let after = after_item raw (Define w.line w.head w.body) w.place in
      let here = ap (λ (y : Function). slice_get y.params n) (same_Some _ _ there) ∙ q in
      let gap = names_later (Gap w.place.variables after.variables) fs w.items after (passed w.line w.head w.body w.place z w.made (next_spans Any w s)) w.later f x c d at m h in
      not_between w.place.variables after.variables x gap (params_from w.line w.head w.body w.place z w.made n x here) (params_below w.line w.head w.body w.place z w.made n x here)
  own (z ∷ fs) xs scope s e (suc f) (suc g) n x c k d at m h there q =
      let w = next xs scope z fs e in
      ap suc (own fs w.items (after_item raw (Define w.line w.head w.body) w.place) (item_spans Any (Define w.line w.head w.body) w.place (next_spans Any w s)) w.later f g n x c k d at m h there q)

  pub once : (fs : List Function) (xs : List RawItem) (scope : Scope) → HasFunctions xs scope fs
      → (f g n m x : ℕ) (c k : Function) → slice_get fs f ≡ Some c → slice_get c.params n ≡ Some x → slice_get fs g ≡ Some k → slice_get k.params m ≡ Some x → (f ≡ g) × (n ≡ m)
  once [] xs scope e f g n m x c k at h there q = none_at f c at
  once (z ∷ fs) xs scope e zero zero n m x c k at h there q =
      let w = next xs scope z fs e in
      (refl, params_once w.line w.head w.body w.place z w.made n m x (ap (λ (y : Function). slice_get y.params n) (same_Some _ _ at) ∙ h) (ap (λ (y : Function). slice_get y.params m) (same_Some _ _ there) ∙ q))
  once (z ∷ fs) xs scope e zero (suc g) n m x c k at h there q =
      let w = next xs scope z fs e in
      let below = params_below w.line w.head w.body w.place z w.made n x (ap (λ (y : Function). slice_get y.params n) (same_Some _ _ at) ∙ h) in
      let le = params_later fs w.items (after_item raw (Define w.line w.head w.body) w.place) w.later g m x k there q in
      absurd (omega (arith, below, le))
  once (z ∷ fs) xs scope e (suc f) zero n m x c k at h there q =
      let w = next xs scope z fs e in
      let below = params_below w.line w.head w.body w.place z w.made m x (ap (λ (y : Function). slice_get y.params m) (same_Some _ _ there) ∙ q) in
      let le = params_later fs w.items (after_item raw (Define w.line w.head w.body) w.place) w.later f n x c at h in
      absurd (omega (arith, below, le))
  once (z ∷ fs) xs scope e (suc f) (suc g) n m x c k at h there q =
      let w = next xs scope z fs e in
      let r = once fs w.items (after_item raw (Define w.line w.head w.body) w.place) w.later f g n m x c k at h there q in
      (ap suc r.0, r.1)
