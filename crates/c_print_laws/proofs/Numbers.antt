-- How the parts of a text count variables, functions and struct types.
use Rattle.std.proofs.Common.{◌≡◌, ℕ, ◌+◌, List, [], ◌∷◌, ◌++◌, length, map, Option, Some, None, refl, sym, ap, subst, ◌∙◌, arith}
use Rattle.c_tree.specs.declared.raw.program.RawInit.{RawInit}
use Rattle.c_tree.specs.declared.raw.program.RawInit.TheVariants as init
use Rattle.c_tree.specs.declared.raw.program.RawParam.{RawParam}
use Rattle.c_tree.specs.declared.raw.program.RawHead.{RawHead}
use Rattle.c_tree.specs.declared.raw.program.RawItem.{RawItem}
use Rattle.c_tree.specs.declared.raw.program.RawItem.TheVariants.{Include, Tag, Struct, Global, Prototype, Define}
use Rattle.c_tree.specs.declared.raw.program.RawProgram.{RawProgram}
use Rattle.c_tree.specs.declared.raw.statement.RawTarget.{RawTarget}
use Rattle.c_tree.specs.declared.raw.statement.RawTarget.TheVariants as target
use Rattle.c_tree.specs.declared.raw.statement.RawStatement.{RawStatement, map-RawStatement, fold-roll-RawStatement}
use Rattle.c_tree.specs.declared.raw.statement.RawStatement.TheOpen.{RawStatement-F}
use Rattle.c_tree.specs.declared.raw.statement.RawArm.{RawArm, fold-roll-RawArm}
use Rattle.c_tree.proofs.RawTrees.{StatementParts, statement_layer, arm_layer, of_every_statement}
use Rattle.c_language.specs.Words.{Bytes}
use Rattle.c_language.specs.Scopes.{Scope, Scoped, with_variable, with_function, with_named, with_parameter, with_parameters, scope_of_parameters, entered, with_target, opened, closed, numbered, begun, in_order, after_all, after_block}
use Rattle.c_language.specs.Phrases.{Stand, InBlock, InFile, Phrases, phrase, begun_phrases, joined_at, ArmText, EndsFunction, scoped_step, scoped_arm, scoped, scoped_of_arm, body_phrases, after_body, member_phrases, taken_phrases, parameter_phrases, head_phrases, item_phrases, after_item}
use Rattle.c_language.proofs.PhraseLists.{body_in_order, body_after, begun_nothing, members_declare, taken_declare}
use Rattle.c_language.proofs.ScopeNumbers.{through_function, function_variables}
use Rattle.c_print_laws.proofs.Scoping.{declared_count, count_append, after_count}

-- the two scopes have as many functions and struct types before them
pub record SameNumbers (a b : Scope) : Type 0 where
  pub functions : a.functions ≡ b.functions
  pub structs : a.structs ≡ b.structs

same_numbers : (a : Scope) → SameNumbers a a
same_numbers a = record { functions = refl; structs = refl }

then_numbers : {a b c : Scope} → SameNumbers a b → SameNumbers b c → SameNumbers a c
then_numbers x y = record { functions = x.functions ∙ y.functions; structs = x.structs ∙ y.structs }

module _ (raw : RawProgram) where
  abbrev KeepsNumbers : {R : Type 0} → Scoped R → Type 0
  KeepsNumbers a = (scope : Scope) → SameNumbers (a.after scope) scope

  abbrev Kept : RawStatement → Type 0
  Kept x = KeepsNumbers (scoped raw x)

  abbrev ArmKept : RawArm → Type 0
  ArmKept x = KeepsNumbers (scoped_of_arm raw x)

  abbrev bare : List ((x : RawStatement) × Kept x) → List RawStatement
  bare = map (λ (x : (s : RawStatement) × Kept s). x.0)

  abbrev bare_arms : List ((x : RawArm) × ArmKept x) → List RawArm
  bare_arms = map (λ (x : (s : RawArm) × ArmKept s). x.0)

  all_kept : (xs : List ((x : RawStatement) × Kept x)) (scope : Scope) → SameNumbers (after_all (map (scoped raw) (bare xs)) scope) scope
  all_kept [] scope = same_numbers scope
  all_kept (x ∷ xs) scope = then_numbers (all_kept xs ((scoped raw x.0).after scope)) (x.1 scope)

  arms_kept : (xs : List ((x : RawArm) × ArmKept x)) (scope : Scope) → SameNumbers (after_all (map (scoped_of_arm raw) (bare_arms xs)) scope) scope
  arms_kept [] scope = same_numbers scope
  arms_kept (x ∷ xs) scope = then_numbers (arms_kept xs ((scoped_of_arm raw x.0).after scope)) (x.1 scope)

  block_kept : (xs : List ((x : RawStatement) × Kept x)) (scope : Scope) → SameNumbers (after_block (map (scoped raw) (bare xs)) scope) scope
  block_kept xs scope = let h = all_kept xs (opened scope) in record { functions = h.functions; structs = h.structs }

  arms_block_kept : (xs : List ((x : RawArm) × ArmKept x)) (scope : Scope) → SameNumbers (after_block (map (scoped_of_arm raw) (bare_arms xs)) scope) scope
  arms_block_kept xs scope = let h = arms_kept xs (opened scope) in record { functions = h.functions; structs = h.structs }

  target_kept : (to : RawTarget) (scope : Scope) → SameNumbers (numbered (with_target raw to scope)) scope
  target_kept target.None scope = record { functions = refl; structs = refl }
  target_kept (target.Place a) scope = record { functions = refl; structs = refl }
  target_kept (target.Declared v) scope = record { functions = refl; structs = refl }

  begun_kept : (i : RawInit) (scope : Scope) → SameNumbers (begun i scope) scope
  begun_kept init.None scope = same_numbers scope
  begun_kept (init.One a) scope = record { functions = refl; structs = refl }
  begun_kept (init.Items all) scope = record { functions = refl; structs = refl }

  numbered_kept : (scope : Scope) → SameNumbers (numbered scope) scope
  numbered_kept scope = record { functions = refl; structs = refl }

  opened_kept : (scope : Scope) → SameNumbers (opened (numbered scope)) scope
  opened_kept scope = record { functions = refl; structs = refl }

  closed_kept : (before inside : Scope) → SameNumbers inside before → SameNumbers (closed before inside) before
  closed_kept before inside h = record { functions = h.functions; structs = h.structs }

  abbrev shape : StatementParts Kept ArmKept → RawStatement-F RawStatement RawArm
  shape = statement_layer Kept ArmKept

  abbrev step_of : RawStatement-F RawStatement RawArm → Scoped (Stand → Phrases)
  step_of y = scoped_step raw (map-RawStatement RawStatement RawArm (Scoped (Stand → Phrases)) (Scoped ArmText) (scoped raw) (scoped_of_arm raw) y)

  step_kept : (y : StatementParts Kept ArmKept) → KeepsNumbers (step_of (shape y))
  step_kept (RawStatement-F.Declare l v i) scope = then_numbers (begun_kept i (with_variable raw v i scope)) (record { functions = refl; structs = refl })
  step_kept (RawStatement-F.Assign l a op b) scope = numbered_kept scope
  step_kept (RawStatement-F.Bump l a up before) scope = numbered_kept scope
  step_kept (RawStatement-F.Call l to f args) scope = target_kept to scope
  step_kept (RawStatement-F.Heap l to cast n) scope = target_kept to scope
  step_kept (RawStatement-F.If l a body other) scope = then_numbers (block_kept other (after_block (map (scoped raw) (bare body)) (numbered scope))) (then_numbers (block_kept body (numbered scope)) (numbered_kept scope))
  step_kept (RawStatement-F.While l a b) scope = then_numbers (block_kept b (numbered scope)) (numbered_kept scope)
  step_kept (RawStatement-F.Do l a b) scope = then_numbers (block_kept b (numbered scope)) (numbered_kept scope)
  step_kept (RawStatement-F.For l None a None b) scope = closed_kept scope _ (then_numbers (block_kept b (opened (numbered scope))) (opened_kept scope))
  step_kept (RawStatement-F.For l None a (Some k) b) scope =
      closed_kept scope _ (then_numbers (block_kept b ((scoped raw k.0).after (opened (numbered scope)))) (then_numbers (k.1 (opened (numbered scope))) (opened_kept scope)))
  step_kept (RawStatement-F.For l (Some i) a None b) scope =
      closed_kept scope _ (then_numbers (block_kept b ((scoped raw i.0).after (opened (numbered scope)))) (then_numbers (i.1 (opened (numbered scope))) (opened_kept scope)))
  step_kept (RawStatement-F.For l (Some i) a (Some k) b) scope =
      closed_kept scope _ (then_numbers (block_kept b ((scoped raw k.0).after ((scoped raw i.0).after (opened (numbered scope))))) (then_numbers (k.1 ((scoped raw i.0).after (opened (numbered scope)))) (then_numbers (i.1 (opened (numbered scope))) (opened_kept scope))))
  step_kept (RawStatement-F.Switch l a arms) scope = then_numbers (arms_block_kept arms (numbered scope)) (numbered_kept scope)
  step_kept (RawStatement-F.Block l b) scope = block_kept b scope
  step_kept (RawStatement-F.Return l a) scope = numbered_kept scope

  statement_kept : (x : RawStatement) → Kept x
  statement_kept = of_every_statement Kept ArmKept
      (λ y. subst (λ (t : Scoped (Stand → Phrases)). KeepsNumbers t) (sym (fold-roll-RawStatement (Scoped (Stand → Phrases)) (Scoped ArmText) (scoped_step raw) scoped_arm (shape y))) (step_kept y))
      (λ y. subst (λ (t : Scoped ArmText). KeepsNumbers t) (sym (fold-roll-RawArm (Scoped (Stand → Phrases)) (Scoped ArmText) (scoped_step raw) scoped_arm (arm_layer Kept ArmKept y))) (all_kept y.body))

  -- ---- bodies

  pub body_numbers : (body : List RawStatement) (scope : Scope) → SameNumbers (after_body raw body scope) scope
  body_numbers [] scope = same_numbers scope
  body_numbers (x ∷ xs) scope = then_numbers (body_numbers xs ((scoped raw x).after scope)) (statement_kept x scope)

  body_count : (body : List RawStatement) (scope : Scope) → scope.variables + declared_count raw (body_phrases raw body scope) ≡ (after_body raw body scope).variables
  body_count body scope =
      let a : declared_count raw (body_phrases raw body scope) ≡ declared_count raw (joined_at InBlock (in_order (map (scoped raw) body) scope)) = ap (declared_count raw) (body_in_order raw body scope) in
      let b : (after_body raw body scope).variables ≡ (after_all (map (scoped raw) body) scope).variables = ap (λ (z : Scope). z.variables) (body_after raw body scope) in
      let c : scope.variables + declared_count raw (joined_at InBlock (in_order (map (scoped raw) body) scope)) ≡ (after_all (map (scoped raw) body) scope).variables = after_count raw body scope InBlock in
      omega (arith, a, b, c)

  -- ---- functions and parameters

  parameter_numbers : (p : RawParam) (name : Option Bytes) (scope : Scope) → SameNumbers (with_named raw p name scope) scope
  parameter_numbers p None scope = same_numbers scope
  parameter_numbers p (Some name) scope = record { functions = refl; structs = refl }

  parameters_numbers : (ps : List RawParam) (scope : Scope) → SameNumbers (with_parameters raw ps scope) scope
  parameters_numbers [] scope = same_numbers scope
  parameters_numbers (p ∷ ps) scope = then_numbers (parameters_numbers ps (with_parameter raw p scope)) (parameter_numbers p p.name scope)

  pub parameter_count : (p : RawParam) (name : Option Bytes) (scope : Scope) → scope.variables + declared_count raw (parameter_phrases raw p name scope) ≡ (with_named raw p name scope).variables
  parameter_count p None scope = omega arith
  parameter_count p (Some name) scope = refl

  pub head_count : (ps : List RawParam) (scope : Scope) → scope.variables + declared_count raw (head_phrases raw ps scope) ≡ (with_parameters raw ps scope).variables
  head_count [] scope = omega arith
  head_count (p ∷ ps) scope =
      let one = parameter_phrases raw p p.name scope in
      let rest = head_phrases raw ps (with_parameter raw p scope) in
      let a : declared_count raw (one ++ rest) ≡ declared_count raw one + declared_count raw rest = count_append raw one rest in
      let b : scope.variables + declared_count raw one ≡ (with_parameter raw p scope).variables = parameter_count p p.name scope in
      let c : (with_parameter raw p scope).variables + declared_count raw rest ≡ (with_parameters raw ps (with_parameter raw p scope)).variables = head_count ps (with_parameter raw p scope) in
      omega (arith, a, b, c)

  pub entered_structs : (head : RawHead) (scope : Scope) → (entered raw head scope).structs ≡ scope.structs
  entered_structs head scope = (parameters_numbers head.params (scope_of_parameters head scope)).structs ∙ through_function (λ (z : Scope). z.structs) head.name scope refl

  pub entered_functions : (head : RawHead) (scope : Scope) → (entered raw head scope).functions ≡ scope.functions + 1
  entered_functions head scope = (parameters_numbers head.params (scope_of_parameters head scope)).functions

  -- ---- items

  pub define_count : (l : ℕ) (head : RawHead) (body : List RawStatement) (scope : Scope)
      → scope.variables + declared_count raw (item_phrases raw (Define l head body) scope) ≡ (after_item raw (Define l head body) scope).variables
  define_count l head body scope =
      let begin = scope_of_parameters head scope in
      let inside = entered raw head scope in
      let ps = head_phrases raw head.params begin in
      let bs = body_phrases raw body inside in
      let a : declared_count raw (ps ++ (bs ++ (phrase l scope (EndsFunction head body) ∷ []))) ≡ declared_count raw ps + declared_count raw (bs ++ (phrase l scope (EndsFunction head body) ∷ [])) = count_append raw ps _ in
      let b : declared_count raw (bs ++ (phrase l scope (EndsFunction head body) ∷ [])) ≡ declared_count raw bs + 0 = count_append raw bs _ in
      let c : begin.variables + declared_count raw ps ≡ inside.variables = head_count head.params begin in
      let d : begin.variables ≡ scope.variables = function_variables head.name scope in
      let e : inside.variables + declared_count raw bs ≡ (after_body raw body inside).variables = body_count body inside in
      omega (arith, a, b, c, d, e)

  pub item_variables : (x : RawItem) (scope : Scope) → scope.variables + declared_count raw (item_phrases raw x scope) ≡ (after_item raw x scope).variables
  item_variables (Include is_stdlib) scope = omega arith
  item_variables (Tag l tag) scope = omega arith
  item_variables (Struct l tag members) scope = let a : declared_count raw (member_phrases scope [] members) ≡ 0 = ap length (members_declare raw scope [] members) in omega (arith, a)
  item_variables (Global l v i is_static) scope =
      let a : declared_count raw (begun_phrases l (with_variable raw v i scope) (InFile is_static) v i) ≡ 0 = ap length (begun_nothing raw l (with_variable raw v i scope) (InFile is_static) v i) in
      omega (arith, a)
  item_variables (Prototype l head) scope =
      let a : declared_count raw (taken_phrases scope [] head.params) ≡ 0 = ap length (taken_declare raw scope [] head.params) in
      let b : (with_function head.name scope).variables ≡ scope.variables = function_variables head.name scope in
      omega (arith, a, b)
  item_variables (Define l head body) scope = define_count l head body scope

  pub define_functions : (l : ℕ) (head : RawHead) (body : List RawStatement) (scope : Scope) → (after_item raw (Define l head body) scope).functions ≡ scope.functions + 1
  define_functions l head body scope = (body_numbers body (entered raw head scope)).functions ∙ entered_functions head scope

  pub define_structs : (l : ℕ) (head : RawHead) (body : List RawStatement) (scope : Scope) → (after_item raw (Define l head body) scope).structs ≡ scope.structs
  define_structs l head body scope = (body_numbers body (entered raw head scope)).structs ∙ entered_structs head scope

  pub prototype_functions : (l : ℕ) (head : RawHead) (scope : Scope) → (after_item raw (Prototype l head) scope).functions ≡ scope.functions
  prototype_functions l head scope = through_function (λ (z : Scope). z.functions) head.name scope refl

  pub prototype_structs : (l : ℕ) (head : RawHead) (scope : Scope) → (after_item raw (Prototype l head) scope).structs ≡ scope.structs
  prototype_structs l head scope = through_function (λ (z : Scope). z.structs) head.name scope refl
