-- Each number that a text gives to a statement is that of a statement in the layout of its program.
use Rattle.std.proofs.Common.{◌≡◌, ℕ, zero, suc, ◌+◌, ◌<◌, ◌≤◌, ◌&&◌, List, [], ◌∷◌, ◌++◌, append-nil, length, map, Bool, true, false, Option, Some, None, slice_get, refl, sym, ap, subst, ◌∙◌, arith, inl, inr, codes}
use Rattle.std.specs.Prelude.{◌⊎◌, if◌then◌else◌, bytes_eq, option_map}
use Rattle.std.specs.Option.{option_map_or}
use Rattle.std.specs.Option as std_option
use Rattle.std.proofs.lemmas.Bool.{and_parts, cases_lt}
use Rattle.c_arith.specs.declared.int_type.IntType.{IntType}
use Rattle.c_tree.specs.Numbered.{Starts, start, declared_start}
use Rattle.c_tree.specs.declared.expr.Expr.{Expr}
use Rattle.c_tree.specs.declared.types.CType.{CType}
use Rattle.c_tree.specs.declared.program.Program.{Program}
use Rattle.c_tree.specs.declared.program.Function.{Function}
use Rattle.c_tree.specs.declared.program.Item.{Item}
use Rattle.c_tree.specs.declared.program.Item.TheVariants as item
use Rattle.c_tree.specs.declared.program.Init.{Init}
use Rattle.c_tree.specs.declared.statement.Target.{Target}
use Rattle.c_tree.specs.declared.statement.Arm.{Arm}
use Rattle.c_tree.specs.declared.statement.Statement.{Statement}
use Rattle.c_tree.specs.declared.statement.Statement.TheVariants as s
use Rattle.c_tree.specs.declared.raw.expr.RawExpr.{RawExpr}
use Rattle.c_tree.specs.declared.raw.program.RawInit.{RawInit}
use Rattle.c_tree.specs.declared.raw.program.RawInit.TheVariants as init
use Rattle.c_tree.specs.declared.raw.program.RawHead.{RawHead}
use Rattle.c_tree.specs.declared.raw.program.RawItem.{RawItem}
use Rattle.c_tree.specs.declared.raw.program.RawItem.TheVariants.{Include, Tag, Struct, Global, Prototype, Define}
use Rattle.c_tree.specs.declared.raw.program.RawProgram.{RawProgram}
use Rattle.c_tree.specs.declared.raw.statement.RawArg.{RawArg}
use Rattle.c_tree.specs.declared.raw.statement.RawTypeName.{RawTypeName}
use Rattle.c_tree.specs.declared.raw.statement.RawAmount.{RawAmount}
use Rattle.c_tree.specs.declared.raw.statement.RawStatement.{RawStatement, map-RawStatement, roll-RawStatement, fold-roll-RawStatement}
use Rattle.c_tree.specs.declared.raw.statement.RawStatement.TheOpen.{RawStatement-F}
use Rattle.c_tree.specs.declared.raw.statement.RawArm.{RawArm, roll-RawArm, fold-roll-RawArm}
use Rattle.c_tree.proofs.RawTrees.{StatementParts, ArmParts, statement_layer, arm_layer, of_every_statement}
use Rattle.c_language.specs.Words.{Bytes}
use Rattle.c_language.specs.TypeGrammar.{named_type}
use Rattle.c_language.specs.Scopes.{Scope, with_variable, with_target, entered, opened, numbered, Scoped, in_order, after_all, after_block, after_part, scope_of_test, scope_of_body, begun}
use Rattle.c_language.specs.Phrases.{after_item, after_items}
use Rattle.c_language.specs.CallRules.{format_in, later_args}
use Rattle.c_language.specs.ProgramOf.{collected, expr_of, init_of, declaration_id, target_tree, args_tree, only_tree, print_tree, invoke_tree, amount_tree, heap_tree, ctype_if, label_tree, arm_tree, ArmTree, arm_tree_step, block_tree, at_type, switch_type, part_tree, for_tree, treed_step, treed, body_of, functions_from, items_from, treed_arm}
use Rattle.c_language.proofs.Options.{some_same, optional_there, map_there, then_there, both_there}
use Rattle.c_language.proofs.Tests.{false_true}
use Rattle.c_language.proofs.PhraseLists.{body_after}
use Rattle.c_language.proofs.TreeScopes.{list_after}
use Rattle.c_language.proofs.ScopeNumbers.{target_statements, begun_statements, through_function, entered_statements}
use Rattle.c_print.specs.Lines.{Placed, placed, arm_placed, item_placed, function_placed, bare, simple, heights, part_starts, starts_from, block_starts}
use Rattle.c_print.proofs.PlacedLemmas.{placed-Declare, placed-Assign, placed-Bump, placed-Invoke, placed-Fetch, placed-Write, placed-Print, placed-Heap, placed-Release, placed-Return, placed-If, placed-While, placed-Do, placed-For, placed-Switch, placed-Block, placed-arm}
use Rattle.c_print.proofs.OpeningLemmas.{IsListed, listed_left, listed_right, inside_listed}
use Rattle.c_print_laws.proofs.Options.{collected_are}
use Rattle.c_print_laws.proofs.Definitions.{Behind, behind_first, behind_rest, behind_at}
use Rattle.c_print_laws.proofs.Numbers.{define_functions}
use Rattle.c_print_laws.proofs.ForParts.{Form, all_tidy, is_single_part, form_step, form_arm, form_of, form_of_arm, are_tidy, AreTidy}
use Rattle.c_language.proofs.Lists.{no_list, head_is, tail_is}

-- ---- numbers in order

-- in the first part, or else in the second
split : {A : Type 0} (m n : ℕ) → (m < n → A) → (n ≤ m → A) → A
split {A} m n f g = by (cases_lt m n)
  where
    by : ((m < n) ⊎ (n ≤ m)) → A
    by (inl h) = f h
    by (inr h) = g h

own_listed : (n m k : ℕ) → m ≡ n → IsListed m (declared_start (Some n) k)
own_listed n m k e = (k, (zero, omega arith, ap (λ (x : ℕ). start x k) (sym e)))

-- a statement with a number of its own, and others inside
compound : (t : Statement) (n m k height : ℕ) (within : ℕ → Starts) → placed t ≡ record { own = Some n; height = height; inside = within } → n ≤ m → (suc n ≤ m → IsListed m (within k)) → IsListed m (starts_from (placed t) k)
compound t n m k height within e low inner =
    subst (λ (y : Placed). IsListed m (starts_from y k)) (sym e)
    (split m (suc n) (λ h. listed_left m (declared_start (Some n) k) (within k) (own_listed n m k (omega (arith, h, low)))) (λ h. listed_right m (declared_start (Some n) k) (within k) (inner h)))

-- ---- what a statement takes

-- each number that the statement takes is listed in its tree; one of one line has nothing inside
record Takes (b : Scoped (Option Statement)) (single : Bool) : Type 0 where
  has : (scope : Scope) (t : Statement) → b.gives scope ≡ Some t → (m k : ℕ) → scope.statements ≤ m → m < (b.after scope).statements → IsListed m (starts_from (placed t) k)
  alone : single ≡ true → (scope : Scope) (t : Statement) → b.gives scope ≡ Some t → (k : ℕ) → (placed t).inside k ≡ []

record ArmTakes (b : Scoped ArmTree) : Type 0 where
  has : (scope : Scope) (type : IntType) (a : Arm) → b.gives scope type ≡ Some a → (m k : ℕ) → scope.statements ≤ m → m < (b.after scope).statements → IsListed m (starts_from (arm_placed a) k)

-- a statement of one line with a number
one_takes : (b : Scoped (Option Statement)) (single : Bool) → ((scope : Scope) (t : Statement) → b.gives scope ≡ Some t → placed t ≡ simple (Some scope.statements)) → ((scope : Scope) → (b.after scope).statements ≡ scope.statements + 1) → Takes b single
one_takes b single gives after = record {
  has = λ scope t h m k low high. compound t scope.statements m k 1 (λ n. []) (gives scope t h) low (λ more. absurd (omega (arith, more, high, after scope)));
  alone = λ is scope t h k. ap (λ (y : Placed). y.inside k) (gives scope t h);
}

-- ---- lists

module _ (raw : RawProgram) where
  abbrev Q : RawStatement → Type 0
  Q x = (form_of x).tidy ≡ true → Takes (treed raw x) (form_of x).single

  abbrev R : RawArm → Type 0
  R x = (form_of_arm x).tidy ≡ true → ArmTakes (treed_arm raw x)

  abbrev bodies : List ((x : RawStatement) × Q x) → List RawStatement
  bodies = map (λ (x : (y : RawStatement) × Q y). x.0)

  abbrev bodies_of_arms : List ((x : RawArm) × R x) → List RawArm
  bodies_of_arms = map (λ (x : (y : RawArm) × R y). x.0)

  -- the same for a list of statements
  abbrev ListTakes : List (Scoped (Option Statement)) → Type 0
  ListTakes bs =
      (scope : Scope) (ts : List Statement) → in_order bs scope ≡ map Some ts → (m k : ℕ) → scope.statements ≤ m → m < (after_all bs scope).statements → IsListed m (block_starts (map placed ts) k)

  no_more : ListTakes []
  no_more scope ts h m k low high = absurd (omega (arith, low, high))

  one_more : (b : Scoped (Option Statement)) (bs : List (Scoped (Option Statement))) (single : Bool) → Takes b single → ListTakes bs → ListTakes (b ∷ bs)
  one_more b bs single x xs scope [] h m k low high = no_list h
  one_more b bs single x xs scope (t ∷ ts) h m k low high =
      let one = starts_from (placed t) k in
      let rest = block_starts (map placed ts) (k + (placed t).height) in
      split m (b.after scope).statements
      (λ lt. listed_left m one rest (x.has scope t (head_is h) m k low lt))
      (λ ge. listed_right m one rest (xs (b.after scope) ts (tail_is h) m (k + (placed t).height) ge high))

  all_take : (xs : List ((x : RawStatement) × Q x)) → are_tidy (bodies xs) ≡ true → ListTakes (map (treed raw) (bodies xs))
  all_take [] h = no_more
  all_take (x ∷ xs) h =
      let p = and_parts (form_of x.0).tidy (are_tidy (bodies xs)) h in one_more (treed raw x.0) (map (treed raw) (bodies xs)) (form_of x.0).single (x.1 p.0) (all_take xs p.1)

  abbrev ArmsTake : List (Scoped ArmTree) → Type 0
  ArmsTake bs =
      (scope : Scope) (type : IntType) (as_ : List Arm) → map (λ (a : ArmTree). a type) (in_order bs scope) ≡ map Some as_ → (m k : ℕ) → scope.statements ≤ m → m < (after_all bs scope).statements → IsListed m (block_starts (map arm_placed as_) k)

  arms_take : (xs : List ((x : RawArm) × R x)) → all_tidy (map form_of_arm (bodies_of_arms xs)) ≡ true → ArmsTake (map (treed_arm raw) (bodies_of_arms xs))
  arms_take [] h scope type as_ e m k low high = absurd (omega (arith, low, high))
  arms_take (x ∷ xs) h scope type [] e m k low high = no_list e
  arms_take (x ∷ xs) h scope type (a ∷ as_) e m k low high =
      let p = and_parts (form_of_arm x.0).tidy (all_tidy (map form_of_arm (bodies_of_arms xs))) h in
      let one = starts_from (arm_placed a) k in
      let rest = block_starts (map arm_placed as_) (k + (arm_placed a).height) in
      split m ((treed_arm raw x.0).after scope).statements
      (λ lt. listed_left m one rest ((x.1 p.0).has scope type a (head_is e) m k low lt))
      (λ ge. listed_right m one rest (arms_take xs p.1 ((treed_arm raw x.0).after scope) type as_ (tail_is e) m (k + (arm_placed a).height) ge high))

  -- ---- calls

  invoke_placed : (scope : Scope) (id l : ℕ) (to : Option Target) (f : Bytes) (args : List RawArg) (t : Statement) → invoke_tree raw scope id l to f args ≡ Some t → placed t ≡ simple (Some id)
  invoke_placed scope id l to f args t h =
      let a = then_there _ to t h in
      let b = both_there (s.Invoke id l a.value) _ (args_tree raw scope args) t a.same in
      ap placed (sym b.same) ∙ placed-Invoke id l a.value b.left b.right

  print_placed : (scope : Scope) (id l : ℕ) (args : List RawArg) (t : Statement) → print_tree raw scope id l args ≡ Some t → placed t ≡ simple (Some id)
  print_placed scope id l args t h =
      let a = then_there (λ (text : Bytes). option_map (s.Print id l text) (args_tree raw scope (later_args args))) (format_in args) t h in
      let b = map_there (s.Print id l a.value) (args_tree raw scope (later_args args)) t a.same in
      ap placed (sym b.same) ∙ placed-Print id l a.value b.value

  call_placed : (fetches writes prints frees : Bool) (scope : Scope) (id l : ℕ) (to : Option Target) (f : Bytes) (args : List RawArg) (t : Statement)
      → (if fetches then option_map (s.Fetch id l) to
      else (if writes then option_map (s.Write id l) (only_tree raw scope args)
      else (if prints then print_tree raw scope id l args
      else (if frees then option_map (s.Release id l) (only_tree raw scope args)
      else invoke_tree raw scope id l to f args)))) ≡ Some t → placed t ≡ simple (Some id)
  call_placed true writes prints frees scope id l to f args t h = let g = map_there (s.Fetch id l) to t h in ap placed (sym g.same) ∙ placed-Fetch id l g.value
  call_placed false true prints frees scope id l to f args t h = let g = map_there (s.Write id l) (only_tree raw scope args) t h in ap placed (sym g.same) ∙ placed-Write id l g.value
  call_placed false false true frees scope id l to f args t h = print_placed scope id l args t h
  call_placed false false false true scope id l to f args t h = let g = map_there (s.Release id l) (only_tree raw scope args) t h in ap placed (sym g.same) ∙ placed-Release id l g.value
  call_placed false false false false scope id l to f args t h = invoke_placed scope id l to f args t h

  heap_placed : (scope : Scope) (id l : ℕ) (to : Option Target) (cast : Option RawTypeName) (n : RawAmount) (t : Statement) → heap_tree raw scope id l to cast n ≡ Some t → placed t ≡ simple (Some id)
  heap_placed scope id l to cast n t h =
      let a = then_there _ to t h in
      let b = then_there (λ (c : Option CType). option_map (s.Heap id l a.value c) (amount_tree raw scope n)) (ctype_if raw (option_map named_type cast)) t a.same in
      let c = map_there (s.Heap id l a.value b.value) (amount_tree raw scope n) t b.same in
      ap placed (sym c.same) ∙ placed-Heap id l a.value b.value c.value

  -- ---- the parts of a for

  abbrev PartTakes : Option (Scoped (Option Statement)) → Type 0
  PartTakes None = Unit {0}
  PartTakes (Some b) = Takes b true

  part_takes : (part : Option (Scoped (Option Statement))) → PartTakes part → (scope : Scope) (t : Option Statement) → part_tree part scope ≡ Some t → (m k : ℕ) → scope.statements ≤ m → m < (after_part part scope).statements
      → IsListed m (part_starts (std_option.option_map placed t) k)
  part_takes None x scope t h m k low high = absurd (omega (arith, low, high))
  part_takes (Some b) x scope t h m k low high =
      let g = optional_there (b.gives scope) t h in
      let all = x.has scope g.0 g.1.0 m k low high in
      let none = x.alone refl scope g.0 g.1.0 k in
      subst (λ (o : Option Statement). IsListed m (part_starts (std_option.option_map placed o) k)) g.1.1
      (subst (IsListed m) (append-nil (declared_start (placed g.0).own k)) (subst (λ (y : Starts). IsListed m (declared_start (placed g.0).own k ++ y)) none all))

  for_takes : (l : ℕ) (i j : Option (Scoped (Option Statement))) (e : RawExpr) (bs : List (Scoped (Option Statement))) → PartTakes i → PartTakes j → ListTakes bs
      → (scope : Scope) (t : Statement) → for_tree scope.statements l (part_tree i (opened (numbered scope))) (expr_of raw (scope_of_test i scope) e) (part_tree j (scope_of_test i scope)) (block_tree bs (scope_of_body i j scope)) ≡ Some t
      → (m k : ℕ) → scope.statements ≤ m → m < (after_block bs (scope_of_body i j scope)).statements → IsListed m (starts_from (placed t) k)
  for_takes l i j e bs hi hj hb scope t h m k low high =
      let a = then_there _ (part_tree i (opened (numbered scope))) t h in
      let b = then_there _ (expr_of raw (scope_of_test i scope) e) t a.same in
      let c = both_there (s.For scope.statements l a.value b.value) (part_tree j (scope_of_test i scope)) (block_tree bs (scope_of_body i j scope)) t b.same in
      let first = part_starts (std_option.option_map placed a.value) k in
      let second = part_starts (std_option.option_map placed c.left) k in
      let third = block_starts (map placed c.right) (k + 1) in
      compound t scope.statements m k _ _ (ap placed (sym c.same) ∙ placed-For scope.statements l a.value b.value c.left c.right) low
      (λ more. split m (scope_of_test i scope).statements
      (λ lt. listed_left m first (second ++ third) (part_takes i hi (opened (numbered scope)) a.value a.there m k (omega (arith, more)) lt))
      (λ ge. listed_right m first (second ++ third) (split m (scope_of_body i j scope).statements
      (λ lt. listed_left m second third (part_takes j hj (scope_of_test i scope) c.left c.left_there m k ge lt))
      (λ over. listed_right m second third (hb (opened (scope_of_body i j scope)) c.right (collected_are (in_order bs (opened (scope_of_body i j scope))) c.right c.right_there) m (k + 1) over high)))))

  part_of : (x : (y : RawStatement) × Q y) → is_single_part (Some (form_of x.0)) ≡ true → Takes (treed raw x.0) true
  part_of x h =
      let p = and_parts (form_of x.0).single (form_of x.0).tidy h in
      subst (Takes (treed raw x.0)) p.0 (x.1 p.1)

  has_others : (b : Scoped (Option Statement)) → ((scope : Scope) (t : Statement) → b.gives scope ≡ Some t → (m k : ℕ) → scope.statements ≤ m → m < (b.after scope).statements → IsListed m (starts_from (placed t) k)) → Takes b false
  has_others b h = record { has = h; alone = λ is. false_true is }

  -- a body behind a test
  body_takes : (bs : List (Scoped (Option Statement))) → ListTakes bs → (scope : Scope) (ts : List Statement) → block_tree bs scope ≡ Some ts → (m k : ℕ) → scope.statements ≤ m → m < (after_block bs scope).statements → IsListed m (block_starts (map placed ts) k)
  body_takes bs h scope ts e m k low high = h (opened scope) ts (collected_are (in_order bs (opened scope)) ts e) m k low high

  -- ---- all forms

  abbrev layer : StatementParts Q R → RawStatement-F RawStatement RawArm
  layer = statement_layer Q R

  abbrev forms : StatementParts Q R → Form
  forms y = form_step (map-RawStatement RawStatement RawArm Form Form form_of form_of_arm (layer y))

  abbrev step_of : StatementParts Q R → Scoped (Option Statement)
  step_of y = treed_step raw (map-RawStatement RawStatement RawArm (Scoped (Option Statement)) (Scoped ArmTree) (treed raw) (treed_arm raw) (layer y))

  declare_takes : (l : ℕ) (b : Scoped (Option Statement)) (x : Scope → ℕ) (i : RawInit) (inits : Scope → Option Init) → ((scope : Scope) → b.gives scope ≡ option_map (s.Declare (declaration_id i scope.statements) l (x scope)) (inits scope))
      → ((scope : Scope) → (b.after scope).statements ≡ (begun i scope).statements) → Takes b true
  declare_takes l b x init.None inits gives after = record {
    has = λ scope t h m k low high. absurd (omega (arith, low, high, after scope));
    alone = λ is scope t h k. let g = map_there (s.Declare None l (x scope)) (inits scope) t (sym (gives scope) ∙ h) in ap (λ (y : Placed). y.inside k) (ap placed (sym g.same) ∙ placed-Declare None l (x scope) g.value);
  }
  declare_takes l b x (init.One a) inits gives after =
      one_takes b true (λ scope t h. let g = map_there (s.Declare (Some scope.statements) l (x scope)) (inits scope) t (sym (gives scope) ∙ h) in ap placed (sym g.same) ∙ placed-Declare (Some scope.statements) l (x scope) g.value) after
  declare_takes l b x (init.Items all) inits gives after =
      one_takes b true (λ scope t h. let g = map_there (s.Declare (Some scope.statements) l (x scope)) (inits scope) t (sym (gives scope) ∙ h) in ap placed (sym g.same) ∙ placed-Declare (Some scope.statements) l (x scope) g.value) after

  step_takes : (y : StatementParts Q R) → (forms y).tidy ≡ true → Takes (step_of y) (forms y).single
  step_takes (RawStatement-F.Declare l v i) h =
      declare_takes l (step_of (RawStatement-F.Declare l v i)) (λ scope. scope.variables) i (λ scope. init_of raw (with_variable raw v i scope) i) (λ scope. refl) (λ scope. begun_statements i (with_variable raw v i scope) scope refl)
  step_takes (RawStatement-F.Assign l a op b) h =
      one_takes (step_of (RawStatement-F.Assign l a op b)) true (λ scope t e. let g = both_there (λ (x y : Expr). s.Assign scope.statements l x op y) (expr_of raw scope a) (expr_of raw scope b) t e in ap placed (sym g.same) ∙ placed-Assign scope.statements l g.left op g.right) (λ scope. refl)
  step_takes (RawStatement-F.Bump l a up before) h =
      one_takes (step_of (RawStatement-F.Bump l a up before)) true (λ scope t e. let g = map_there (λ (x : Expr). s.Bump scope.statements l x up before) (expr_of raw scope a) t e in ap placed (sym g.same) ∙ placed-Bump scope.statements l g.value up before) (λ scope. refl)
  step_takes (RawStatement-F.Call l to f args) h =
      one_takes (step_of (RawStatement-F.Call l to f args)) true
      (λ scope t e. call_placed (bytes_eq f (codes "getchar")) (bytes_eq f (codes "putchar")) (bytes_eq f (codes "printf")) (bytes_eq f (codes "free")) (with_target raw to scope) scope.statements l (target_tree raw scope to) f args t e)
      (λ scope. ap (λ (n : ℕ). n + 1) (target_statements raw to scope))
  step_takes (RawStatement-F.Heap l to cast n) h =
      one_takes (step_of (RawStatement-F.Heap l to cast n)) true (λ scope t e. heap_placed (with_target raw to scope) scope.statements l (target_tree raw scope to) cast n t e) (λ scope. ap (λ (n : ℕ). n + 1) (target_statements raw to scope))
  step_takes (RawStatement-F.Return l a) h =
      one_takes (step_of (RawStatement-F.Return l a)) false (λ scope t e. let g = map_there (s.Return scope.statements l) _ t e in ap placed (sym g.same) ∙ placed-Return scope.statements l g.value) (λ scope. refl)
  step_takes (RawStatement-F.If l e a b) h =
      let p = and_parts (are_tidy (bodies a)) (are_tidy (bodies b)) h in
      let as_ = map (treed raw) (bodies a) in
      let bs = map (treed raw) (bodies b) in
      has_others (step_of (RawStatement-F.If l e a b)) (λ scope t is m k low high.
      let x = then_there _ (expr_of raw scope e) t is in
      let y = both_there (s.If scope.statements l x.value) (block_tree as_ (numbered scope)) (block_tree bs (after_block as_ (numbered scope))) t x.same in
      let first = block_starts (map placed y.left) (k + 1) in
      let second = block_starts (map placed y.right) (k + 1 + heights (map placed y.left) + 1) in
      compound t scope.statements m k _ _ (ap placed (sym y.same) ∙ placed-If scope.statements l x.value y.left y.right) low
      (λ more. split m (after_block as_ (numbered scope)).statements
      (λ lt. listed_left m first second (body_takes as_ (all_take a p.0) (numbered scope) y.left y.left_there m (k + 1) (omega (arith, more)) lt))
      (λ ge. listed_right m first second (body_takes bs (all_take b p.1) (after_block as_ (numbered scope)) y.right y.right_there m (k + 1 + heights (map placed y.left) + 1) ge high))))
  step_takes (RawStatement-F.While l e b) h =
      let bs = map (treed raw) (bodies b) in
      has_others (step_of (RawStatement-F.While l e b)) (λ scope t is m k low high.
      let y = both_there (s.While scope.statements l) (expr_of raw scope e) (block_tree bs (numbered scope)) t is in
      compound t scope.statements m k _ _ (ap placed (sym y.same) ∙ placed-While scope.statements l y.left y.right) low
      (λ more. body_takes bs (all_take b h) (numbered scope) y.right y.right_there m (k + 1) (omega (arith, more)) high))
  step_takes (RawStatement-F.Do l e b) h =
      let bs = map (treed raw) (bodies b) in
      has_others (step_of (RawStatement-F.Do l e b)) (λ scope t is m k low high.
      let y = both_there (s.Do scope.statements l) (expr_of raw scope e) (block_tree bs (numbered scope)) t is in
      compound t scope.statements m k _ _ (ap placed (sym y.same) ∙ placed-Do scope.statements l y.left y.right) low
      (λ more. body_takes bs (all_take b h) (numbered scope) y.right y.right_there m (k + 1) (omega (arith, more)) high))
  step_takes (RawStatement-F.For l None e None b) h =
      let bs = map (treed raw) (bodies b) in
      has_others (step_of (RawStatement-F.For l None e None b)) (λ scope t is m k low high. for_takes l None None e bs tt tt (all_take b h) scope t is m k low high)
  step_takes (RawStatement-F.For l None e (Some x) b) h =
      let bs = map (treed raw) (bodies b) in
      let p = and_parts (is_single_part (Some (form_of x.0))) (are_tidy (bodies b)) h in
      has_others (step_of (RawStatement-F.For l None e (Some x) b)) (λ scope t is m k low high. for_takes l None (Some (treed raw x.0)) e bs tt (part_of x p.0) (all_take b p.1) scope t is m k low high)
  step_takes (RawStatement-F.For l (Some i) e None b) h =
      let bs = map (treed raw) (bodies b) in
      let p = and_parts (is_single_part (Some (form_of i.0))) (are_tidy (bodies b)) h in
      has_others (step_of (RawStatement-F.For l (Some i) e None b)) (λ scope t is m k low high. for_takes l (Some (treed raw i.0)) None e bs (part_of i p.0) tt (all_take b p.1) scope t is m k low high)
  step_takes (RawStatement-F.For l (Some i) e (Some x) b) h =
      let bs = map (treed raw) (bodies b) in
      let o = and_parts (is_single_part (Some (form_of i.0))) (is_single_part (Some (form_of x.0)) && are_tidy (bodies b)) h in
      let p = and_parts (is_single_part (Some (form_of x.0))) (are_tidy (bodies b)) o.1 in
      has_others (step_of (RawStatement-F.For l (Some i) e (Some x) b)) (λ scope t is m k low high. for_takes l (Some (treed raw i.0)) (Some (treed raw x.0)) e bs (part_of i o.0) (part_of x p.0) (all_take b p.1) scope t is m k low high)
  step_takes (RawStatement-F.Switch l e arms) h =
      let bs = map (treed_arm raw) (bodies_of_arms arms) in
      has_others (step_of (RawStatement-F.Switch l e arms)) (λ scope t is m k low high.
      let x = then_there _ (expr_of raw scope e) t is in
      let y = then_there _ (switch_type raw scope e) t x.same in
      let z = map_there (s.Switch scope.statements l x.value) (at_type y.value (in_order bs (opened (numbered scope)))) t y.same in
      compound t scope.statements m k _ _ (ap placed (sym z.same) ∙ placed-Switch scope.statements l x.value z.value) low
      (λ more. arms_take arms h (opened (numbered scope)) y.value z.value (collected_are (map (λ (a : ArmTree). a y.value) (in_order bs (opened (numbered scope)))) z.value z.there) m (k + 1) (omega (arith, more)) high))
  step_takes (RawStatement-F.Block l b) h =
      let bs = map (treed raw) (bodies b) in
      has_others (step_of (RawStatement-F.Block l b)) (λ scope t is m k low high.
      let y = map_there (s.Block l) (block_tree bs scope) t is in
      inside_listed t m k _ _ _ (ap placed (sym y.same) ∙ placed-Block l y.value) (body_takes bs (all_take b h) scope y.value y.there m (k + 1) low high))

  statement_takes : (x : RawStatement) → Q x
  statement_takes = of_every_statement Q R
      (λ y h. taken (form_of (roll-RawStatement (layer y))) (treed raw (roll-RawStatement (layer y))) (forms y) (step_of y)
      (fold-roll-RawStatement Form Form form_step form_arm (layer y)) (fold-roll-RawStatement (Scoped (Option Statement)) (Scoped ArmTree) (treed_step raw) (arm_tree_step raw) (layer y)) (step_takes y) h)
      arm_takes
    where
      taken : (f : Form) (b : Scoped (Option Statement)) (g : Form) (c : Scoped (Option Statement)) → f ≡ g → b ≡ c → (g.tidy ≡ true → Takes c g.single) → f.tidy ≡ true → Takes b f.single
      taken f b g c e d h is = subst (λ (z : Scoped (Option Statement)). Takes z f.single) (sym d) (subst (λ (z : Form). Takes c z.single) (sym e) (h (sym (ap (λ (z : Form). z.tidy) e) ∙ is)))

      arm_takes : (y : ArmParts Q R) → R (roll-RawArm (arm_layer Q R y))
      arm_takes y h =
          let bs = map (treed raw) (bodies y.body) in
          let tidy = sym (ap (λ (z : Form). z.tidy) (fold-roll-RawArm Form Form form_step form_arm (arm_layer Q R y))) ∙ h in
          subst ArmTakes (sym (fold-roll-RawArm (Scoped (Option Statement)) (Scoped ArmTree) (treed_step raw) (arm_tree_step raw) (arm_layer Q R y))) (record {
            has = λ scope type a is m k low high.
                let g = both_there arm_tree (collected (map (label_tree raw scope type) y.labels)) (collected (in_order bs scope)) a is in
                let inner = all_take y.body tidy scope g.right (collected_are (in_order bs scope) g.right g.right_there) m (k + length g.left) low high in
                subst (λ (z : Placed). IsListed m (starts_from z k)) (sym (ap arm_placed (sym g.same) ∙ placed-arm (arm_tree g.left g.right))) inner;
          })

  body_listed : (xs : List RawStatement) → are_tidy xs ≡ true → ListTakes (map (treed raw) xs)
  body_listed [] h = no_more
  body_listed (x ∷ xs) h =
      let p = and_parts (form_of x).tidy (are_tidy xs) h in one_more (treed raw x) (map (treed raw) xs) (form_of x).single (statement_takes x p.0) (body_listed xs p.1)

  -- ---- items

  module _ (p : Program) where
    abbrev ItemsTake : List RawItem → Type 0
    ItemsTake xs =
        (scope : Scope) (is : List Item) (fs : List Function) → items_from raw xs scope ≡ map Some is → functions_from raw xs scope ≡ map Some fs → Behind p.functions scope.functions fs
        → (m k : ℕ) → scope.statements ≤ m → m < (after_items raw xs scope).statements → IsListed m (block_starts (map (item_placed p) is) k)

    -- an item without statements
    bare_item : (x : RawItem) (xs : List RawItem) → ((scope : Scope) → (after_item raw x scope).statements ≡ scope.statements) → ((scope : Scope) → (after_item raw x scope).functions ≡ scope.functions)
        → ((scope : Scope) → functions_from raw (x ∷ xs) scope ≡ functions_from raw xs (after_item raw x scope)) → ItemsTake xs → ItemsTake (x ∷ xs)
    bare_item x xs statements functions passes rest scope [] fs i f b m k low high = no_list i
    bare_item x xs statements functions passes rest scope (one ∷ is) fs i f b m k low high =
        let next = after_item raw x scope in
        listed_right m (starts_from (item_placed p one) k) (block_starts (map (item_placed p) is) (k + (item_placed p one).height))
        (rest next is fs (tail_is i) (sym (passes scope) ∙ f) (behind_at p.functions scope.functions next.functions fs (functions scope) b) m (k + (item_placed p one).height) (omega (arith, low, statements scope)) high)

    defined_item : (l : ℕ) (h : RawHead) (body : List RawStatement) (xs : List RawItem) → are_tidy body ≡ true → ItemsTake xs → ItemsTake (Define l h body ∷ xs)
    defined_item l h body xs tidy rest scope [] fs i f b m k low high = no_list i
    defined_item l h body xs tidy rest scope (one ∷ is) [] i f b m k low high = no_list f
    defined_item l h body xs tidy rest scope (one ∷ is) (g ∷ fs) i f b m k low high =
        let next = after_item raw (Define l h body) scope in
        let begin = entered raw h scope in
        let made = both_there _ (ctype_if raw h.result) (body_of raw body begin) g (head_is f) in
        let same : made.right ≡ g.body = ap (λ (z : Function). z.body) made.same in
        let is_one : one ≡ item.Define scope.functions = sym (some_same (head_is i)) in
        let at : slice_get p.functions scope.functions ≡ Some g = behind_first p.functions scope.functions g fs b in
        let begins : begin.statements ≡ scope.statements = entered_statements raw h scope in
        let ends : next.statements ≡ (after_all (map (treed raw) body) begin).statements = ap (λ (z : Scope). z.statements) (body_after raw body begin ∙ sym (list_after raw body begin)) in
        let own = starts_from (item_placed p one) k in
        let others = block_starts (map (item_placed p) is) (k + (item_placed p one).height) in
        split m next.statements
        (λ lt. listed_left m own others
        (subst (λ (z : Item). IsListed m (starts_from (item_placed p z) k)) (sym is_one)
        (subst (λ (o : Option Function). IsListed m (starts_from (option_map_or function_placed o (bare 0)) k)) (sym at)
        (subst (λ (z : List Statement). IsListed m (block_starts (map placed z) (k + 1))) same
        (body_listed body tidy begin made.right (collected_are (in_order (map (treed raw) body) begin) made.right made.right_there) m (k + 1) (omega (arith, low, begins)) (omega (arith, lt, ends)))))))
        (λ ge. listed_right m own others
        (rest next is fs (tail_is i) (tail_is f) (behind_rest p.functions scope.functions next.functions g fs (define_functions raw l h body scope) b) m (k + (item_placed p one).height) ge high))

    pub items_take : (xs : List RawItem) → AreTidy xs → ItemsTake xs
    items_take [] h = λ scope is fs i f b m k low high. absurd (omega (arith, low, high))
    items_take (Include is_stdlib ∷ xs) h = bare_item (Include is_stdlib) xs (λ scope. refl) (λ scope. refl) (λ scope. refl) (items_take xs h.1)
    items_take (Tag l tag ∷ xs) h = bare_item (Tag l tag) xs (λ scope. refl) (λ scope. refl) (λ scope. refl) (items_take xs h.1)
    items_take (Struct l tag members ∷ xs) h = bare_item (Struct l tag members) xs (λ scope. refl) (λ scope. refl) (λ scope. refl) (items_take xs h.1)
    items_take (Global l v i is_static ∷ xs) h = bare_item (Global l v i is_static) xs (λ scope. refl) (λ scope. refl) (λ scope. refl) (items_take xs h.1)
    items_take (Prototype l d ∷ xs) h =
        bare_item (Prototype l d) xs (λ scope. through_function (λ (z : Scope). z.statements) d.name scope refl) (λ scope. through_function (λ (z : Scope). z.functions) d.name scope refl) (λ scope. refl) (items_take xs h.1)
    items_take (Define l d body ∷ xs) h = defined_item l d body xs h.0 (items_take xs h.1)
