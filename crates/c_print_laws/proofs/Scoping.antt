-- The scope after a statement is the same for its phrases and for its tree, and counts the variables that it declares.
use Rattle.std.proofs.Common.{◌≡◌, ℕ, ◌+◌, List, [], ◌∷◌, ◌++◌, length, map, Option, Some, None, refl, sym, ap, subst, ◌∙◌, arith, length-append}
use Rattle.c_tree.specs.declared.program.Var.{Var}
use Rattle.c_tree.specs.declared.statement.Statement.{Statement}
use Rattle.c_tree.specs.declared.raw.expr.RawVar.{RawVar}
use Rattle.c_tree.specs.declared.raw.program.RawInit.{RawInit}
use Rattle.c_tree.specs.declared.raw.program.RawProgram.{RawProgram}
use Rattle.c_tree.specs.declared.raw.statement.RawTarget.{RawTarget}
use Rattle.c_tree.specs.declared.raw.statement.RawTarget.TheVariants as target
use Rattle.c_tree.specs.declared.raw.statement.RawStatement.{RawStatement, roll-RawStatement, map-RawStatement, fold-roll-RawStatement}
use Rattle.c_tree.specs.declared.raw.statement.RawStatement.TheOpen.{RawStatement-F, RawArm-F}
use Rattle.c_tree.specs.declared.raw.statement.RawArm.{RawArm, roll-RawArm, map-RawArm, fold-roll-RawArm}
use Rattle.c_tree.proofs.RawTrees.{StatementParts, statement_layer, ArmParts, arm_layer, of_every_statement, of_every_arm}
use Rattle.c_language.specs.Scopes.{Scope, Scoped, with_variable, with_target, opened, closed, numbered, begun, in_order, after_all, after_block, part_gives, after_part, scope_of_test, scope_of_body}
use Rattle.c_language.specs.Phrases.{Stand, InBlock, InArm, InFor, Part, Phrases, phrase, declaration, begun_phrases, target_phrases, joined_at, block_phrases, at_stand, ArmText, phrases_of_arms, Tests, phrases_step, scoped_step, scoped_arm, scoped, scoped_of_arm}
use Rattle.c_language.specs.ProgramOf.{ArmTree, treed_step, arm_tree_step, treed, declared_by, variables_in, treed_arm}
use Rattle.c_language.proofs.PhraseLists.{variables-append, begun_nothing}
use Rattle.c_language.proofs.ScopeNumbers.{begun_variables}

module _ (raw : RawProgram) where
  abbrev pub declared_count : Phrases → ℕ
  declared_count ps = length (variables_in raw ps)

  pub count_append : (ps qs : Phrases) → declared_count (ps ++ qs) ≡ declared_count ps + declared_count qs
  count_append ps qs = ap length (variables-append raw ps qs) ∙ length-append (variables_in raw ps) (variables_in raw qs)

  pub target_count : (l : ℕ) (scope : Scope) (stand : Stand) (to : RawTarget) → scope.variables + declared_count (target_phrases raw l scope stand to) ≡ (with_target raw to scope).variables
  target_count l scope stand target.None = omega arith
  target_count l scope stand (target.Place a) = omega arith
  target_count l scope stand (target.Declared var) = refl

  -- the scope after a statement or an arm, for its phrases and for its tree
  pub record IsScoped {R Q : Type 0} (a : Scoped R) (b : Scoped Q) (phrases : Scope → Stand → Phrases) : Type 0 where
    pub same : (scope : Scope) → b.after scope ≡ a.after scope
    pub counts : (scope : Scope) (stand : Stand) → scope.variables + declared_count (phrases scope stand) ≡ (a.after scope).variables

  abbrev pub IsScopedStatement : RawStatement → Type 0
  IsScopedStatement x = IsScoped (scoped raw x) (treed raw x) (scoped raw x).gives

  abbrev pub IsScopedArm : RawArm → Type 0
  IsScopedArm x = IsScoped (scoped_of_arm raw x) (treed_arm raw x) (λ scope stand. ((scoped_of_arm raw x).gives scope).phrases)

  abbrev Statements : Type 0
  Statements = List ((x : RawStatement) × IsScopedStatement x)

  abbrev Arms : Type 0
  Arms = List ((x : RawArm) × IsScopedArm x)

  abbrev bare : Statements → List RawStatement
  bare = map (λ (x : (s : RawStatement) × IsScopedStatement s). x.0)

  abbrev bare_arms : Arms → List RawArm
  bare_arms = map (λ (x : (s : RawArm) × IsScopedArm s). x.0)

  all_same : (xs : Statements) (scope : Scope) → after_all (map (treed raw) (bare xs)) scope ≡ after_all (map (scoped raw) (bare xs)) scope
  all_same [] scope = refl
  all_same (x ∷ xs) scope = ap (after_all (map (treed raw) (bare xs))) (x.1.same scope) ∙ all_same xs ((scoped raw x.0).after scope)

  all_count : (xs : Statements) (scope : Scope) (stand : Stand)
      → scope.variables + declared_count (joined_at stand (in_order (map (scoped raw) (bare xs)) scope)) ≡ (after_all (map (scoped raw) (bare xs)) scope).variables
  all_count [] scope stand = omega arith
  all_count (x ∷ xs) scope stand =
      let one = (scoped raw x.0).gives scope stand in
      let rest = joined_at stand (in_order (map (scoped raw) (bare xs)) ((scoped raw x.0).after scope)) in
      let a : declared_count (one ++ rest) ≡ declared_count one + declared_count rest = count_append one rest in
      let b : scope.variables + declared_count one ≡ ((scoped raw x.0).after scope).variables = x.1.counts scope stand in
      let c : ((scoped raw x.0).after scope).variables + declared_count rest ≡ (after_all (map (scoped raw) (bare xs)) ((scoped raw x.0).after scope)).variables = all_count xs ((scoped raw x.0).after scope) stand in
      omega (arith, a, b, c)

  arms_same : (xs : Arms) (scope : Scope) → after_all (map (treed_arm raw) (bare_arms xs)) scope ≡ after_all (map (scoped_of_arm raw) (bare_arms xs)) scope
  arms_same [] scope = refl
  arms_same (x ∷ xs) scope = ap (after_all (map (treed_arm raw) (bare_arms xs))) (x.1.same scope) ∙ arms_same xs ((scoped_of_arm raw x.0).after scope)

  arms_count : (xs : Arms) (scope : Scope)
      → scope.variables + declared_count (phrases_of_arms (in_order (map (scoped_of_arm raw) (bare_arms xs)) scope)) ≡ (after_all (map (scoped_of_arm raw) (bare_arms xs)) scope).variables
  arms_count [] scope = omega arith
  arms_count (x ∷ xs) scope =
      let one = ((scoped_of_arm raw x.0).gives scope).phrases in
      let rest = phrases_of_arms (in_order (map (scoped_of_arm raw) (bare_arms xs)) ((scoped_of_arm raw x.0).after scope)) in
      let a : declared_count (one ++ rest) ≡ declared_count one + declared_count rest = count_append one rest in
      let b : scope.variables + declared_count one ≡ ((scoped_of_arm raw x.0).after scope).variables = x.1.counts scope InArm in
      let c : ((scoped_of_arm raw x.0).after scope).variables + declared_count rest ≡ (after_all (map (scoped_of_arm raw) (bare_arms xs)) ((scoped_of_arm raw x.0).after scope)).variables = arms_count xs ((scoped_of_arm raw x.0).after scope) in
      omega (arith, a, b, c)

  block_same : (xs : Statements) (scope : Scope) → after_block (map (treed raw) (bare xs)) scope ≡ after_block (map (scoped raw) (bare xs)) scope
  block_same xs scope = ap (closed scope) (all_same xs (opened scope))

  block_count : (xs : Statements) (scope : Scope)
      → scope.variables + declared_count (block_phrases (map (scoped raw) (bare xs)) scope) ≡ (after_block (map (scoped raw) (bare xs)) scope).variables
  block_count xs scope = all_count xs (opened scope) InBlock

  abbrev shape : StatementParts IsScopedStatement IsScopedArm → RawStatement-F RawStatement RawArm
  shape = statement_layer IsScopedStatement IsScopedArm

  abbrev Opened : RawStatement-F RawStatement RawArm → Type 0
  Opened y =
      IsScoped (scoped_step raw (map-RawStatement RawStatement RawArm (Scoped (Stand → Phrases)) (Scoped ArmText) (scoped raw) (scoped_of_arm raw) y))
      (treed_step raw (map-RawStatement RawStatement RawArm (Scoped (Option Statement)) (Scoped ArmTree) (treed raw) (treed_arm raw) y))
      (phrases_step raw (map-RawStatement RawStatement RawArm (Scoped (Stand → Phrases)) (Scoped ArmText) (scoped raw) (scoped_of_arm raw) y))

  declare_count : (l : ℕ) (var : RawVar) (i : RawInit) (scope : Scope) (stand : Stand) → scope.variables + declared_count (declaration raw l scope stand var i) ≡ (begun i (with_variable raw var i scope)).variables
  declare_count l var i scope stand =
      let a : declared_count (begun_phrases l (with_variable raw var i scope) stand var i) ≡ 0 = ap length (begun_nothing raw l (with_variable raw var i scope) stand var i) in
      let b : (begun i (with_variable raw var i scope)).variables ≡ scope.variables + 1 = begun_variables i (with_variable raw var i scope) in
      omega (arith, a, b)

  after_target_count : (l : ℕ) (scope : Scope) (stand : Stand) (to : RawTarget) (part : Part) → declared_by raw l (with_target raw to scope) part ≡ []
      → scope.variables + declared_count (target_phrases raw l scope stand to ++ (phrase l (with_target raw to scope) part ∷ [])) ≡ (with_target raw to scope).variables
  after_target_count l scope stand to part none =
      let last = phrase l (with_target raw to scope) part ∷ [] in
      let a : declared_count (target_phrases raw l scope stand to ++ last) ≡ declared_count (target_phrases raw l scope stand to) + declared_count last = count_append (target_phrases raw l scope stand to) last in
      let b : declared_count last ≡ 0 = ap length (ap (λ (vs : List (Option Var)). vs ++ []) none) in
      let c : scope.variables + declared_count (target_phrases raw l scope stand to) ≡ (with_target raw to scope).variables = target_count l scope stand to in
      omega (arith, a, b, c)

  abbrev Part_of : Type 0
  Part_of = Option ((x : RawStatement) × IsScopedStatement x)

  abbrev pub with_scope : {R : Type 0} → (RawStatement → R) → Part_of → Option R
  with_scope f None = None
  with_scope f (Some x) = Some (f x.0)

  part_same : (x : Part_of) (scope : Scope) → after_part (with_scope (treed raw) x) scope ≡ after_part (with_scope (scoped raw) x) scope
  part_same None scope = refl
  part_same (Some x) scope = x.1.same scope

  part_count : (x : Part_of) (scope : Scope) (stand : Stand)
      → scope.variables + declared_count (at_stand stand (part_gives (with_scope (scoped raw) x) scope)) ≡ (after_part (with_scope (scoped raw) x) scope).variables
  part_count None scope stand = omega arith
  part_count (Some x) scope stand = x.1.counts scope stand

  for_same : (i step : Part_of) (body : Statements) (scope : Scope)
      → closed scope (after_block (map (treed raw) (bare body)) (scope_of_body (with_scope (treed raw) i) (with_scope (treed raw) step) scope))
      ≡ closed scope (after_block (map (scoped raw) (bare body)) (scope_of_body (with_scope (scoped raw) i) (with_scope (scoped raw) step) scope))
  for_same i step body scope =
      let first = after_part (with_scope (scoped raw) i) (opened (numbered scope)) in
      ap (λ (z : Scope). closed scope (after_block (map (treed raw) (bare body)) (after_part (with_scope (treed raw) step) z))) (part_same i (opened (numbered scope)))
      ∙ ap (λ (z : Scope). closed scope (after_block (map (treed raw) (bare body)) z)) (part_same step first)
      ∙ ap (closed scope) (block_same body (after_part (with_scope (scoped raw) step) first))

  for_count : (l : ℕ) (part : Part) (i step : Part_of) (body : Statements) (scope : Scope)
      → declared_by raw l (scope_of_test (with_scope (scoped raw) i) scope) part ≡ []
      → scope.variables + declared_count (at_stand InFor (part_gives (with_scope (scoped raw) i) (opened (numbered scope)))
      ++ (phrase l (scope_of_test (with_scope (scoped raw) i) scope) part ∷ (at_stand InBlock (part_gives (with_scope (scoped raw) step) (scope_of_test (with_scope (scoped raw) i) scope))
      ++ block_phrases (map (scoped raw) (bare body)) (scope_of_body (with_scope (scoped raw) i) (with_scope (scoped raw) step) scope))))
      ≡ (after_block (map (scoped raw) (bare body)) (scope_of_body (with_scope (scoped raw) i) (with_scope (scoped raw) step) scope)).variables
  for_count l part i step body scope none =
      let ps = at_stand InFor (part_gives (with_scope (scoped raw) i) (opened (numbered scope))) in
      let first = scope_of_test (with_scope (scoped raw) i) scope in
      let qs = at_stand InBlock (part_gives (with_scope (scoped raw) step) first) in
      let second = scope_of_body (with_scope (scoped raw) i) (with_scope (scoped raw) step) scope in
      let rs = block_phrases (map (scoped raw) (bare body)) second in
      let a : declared_count (ps ++ (phrase l first part ∷ (qs ++ rs))) ≡ declared_count ps + declared_count (phrase l first part ∷ (qs ++ rs)) = count_append ps (phrase l first part ∷ (qs ++ rs)) in
      let b : declared_count (phrase l first part ∷ (qs ++ rs)) ≡ declared_count (qs ++ rs) = ap length (ap (λ (vs : List (Option Var)). vs ++ variables_in raw (qs ++ rs)) none) in
      let c : declared_count (qs ++ rs) ≡ declared_count qs + declared_count rs = count_append qs rs in
      let d : scope.variables + declared_count ps ≡ first.variables = part_count i (opened (numbered scope)) InFor in
      let e : first.variables + declared_count qs ≡ second.variables = part_count step first InBlock in
      let f : second.variables + declared_count rs ≡ (after_block (map (scoped raw) (bare body)) second).variables = block_count body second in
      omega (arith, a, b, c, d, e, f)

  opened_statement : (y : StatementParts IsScopedStatement IsScopedArm) → Opened (shape y)
  opened_statement (RawStatement-F.Declare l v i) = record { same = λ scope. refl; counts = declare_count l v i }
  opened_statement (RawStatement-F.Assign l a op b) = record { same = λ scope. refl; counts = λ scope stand. omega arith }
  opened_statement (RawStatement-F.Bump l a up before) = record { same = λ scope. refl; counts = λ scope stand. omega arith }
  opened_statement (RawStatement-F.Call l to f args) = record { same = λ scope. refl; counts = λ scope stand. after_target_count l scope stand to _ refl }
  opened_statement (RawStatement-F.Heap l to cast n) = record { same = λ scope. refl; counts = λ scope stand. after_target_count l scope stand to _ refl }
  opened_statement (RawStatement-F.If l a body other) = record {
    same = λ scope. ap (after_block (map (treed raw) (bare other))) (block_same body (numbered scope)) ∙ block_same other (after_block (map (scoped raw) (bare body)) (numbered scope));
    counts = λ scope stand.
        let ps = block_phrases (map (scoped raw) (bare body)) (numbered scope) in
        let middle = after_block (map (scoped raw) (bare body)) (numbered scope) in
        let qs = block_phrases (map (scoped raw) (bare other)) middle in
        let a : declared_count (ps ++ qs) ≡ declared_count ps + declared_count qs = count_append ps qs in
        let b : scope.variables + declared_count ps ≡ middle.variables = block_count body (numbered scope) in
        let c : middle.variables + declared_count qs ≡ (after_block (map (scoped raw) (bare other)) middle).variables = block_count other middle in
        omega (arith, a, b, c);
  }
  opened_statement (RawStatement-F.While l a b) = record { same = λ scope. block_same b (numbered scope); counts = λ scope stand. block_count b (numbered scope) }
  opened_statement (RawStatement-F.Do l a b) = record { same = λ scope. block_same b (numbered scope); counts = λ scope stand. block_count b (numbered scope) }
  opened_statement (RawStatement-F.For l None a None b) = record { same = for_same None None b; counts = λ scope stand. for_count l (Tests a) None None b scope refl }
  opened_statement (RawStatement-F.For l None a (Some k) b) = record { same = for_same None (Some k) b; counts = λ scope stand. for_count l (Tests a) None (Some k) b scope refl }
  opened_statement (RawStatement-F.For l (Some i) a None b) = record { same = for_same (Some i) None b; counts = λ scope stand. for_count l (Tests a) (Some i) None b scope refl }
  opened_statement (RawStatement-F.For l (Some i) a (Some k) b) = record { same = for_same (Some i) (Some k) b; counts = λ scope stand. for_count l (Tests a) (Some i) (Some k) b scope refl }
  opened_statement (RawStatement-F.Switch l a arms) = record { same = λ scope. ap (closed (numbered scope)) (arms_same arms (opened (numbered scope))); counts = λ scope stand. arms_count arms (opened (numbered scope)) }
  opened_statement (RawStatement-F.Block l b) = record { same = λ scope. block_same b scope; counts = λ scope stand. block_count b scope }
  opened_statement (RawStatement-F.Return l a) = record { same = λ scope. refl; counts = λ scope stand. omega arith }

  opened_arm : (y : ArmParts IsScopedStatement IsScopedArm) → IsScopedArm (roll-RawArm (arm_layer IsScopedStatement IsScopedArm y))
  opened_arm y = arm_from (record { same = λ scope. all_same y.body scope; counts = λ scope stand. all_count y.body scope InArm })
    where
      layer : RawArm-F RawStatement RawArm
      layer = arm_layer IsScopedStatement IsScopedArm y

      arm_from : IsScoped (scoped_arm (map-RawArm RawStatement RawArm (Scoped (Stand → Phrases)) (Scoped ArmText) (scoped raw) (scoped_of_arm raw) layer))
          (arm_tree_step raw (map-RawArm RawStatement RawArm (Scoped (Option Statement)) (Scoped ArmTree) (treed raw) (treed_arm raw) layer))
          (λ scope stand. ((scoped_arm (map-RawArm RawStatement RawArm (Scoped (Stand → Phrases)) (Scoped ArmText) (scoped raw) (scoped_of_arm raw) layer)).gives scope).phrases)
          → IsScopedArm (roll-RawArm layer)
      arm_from h =
          subst (λ (t : Scoped ArmTree). IsScoped (scoped_of_arm raw (roll-RawArm layer)) t (λ scope stand. ((scoped_of_arm raw (roll-RawArm layer)).gives scope).phrases)) (sym (fold-roll-RawArm (Scoped (Option Statement)) (Scoped ArmTree) (treed_step raw) (arm_tree_step raw) layer))
          (subst (λ (t : Scoped ArmText). IsScoped t (arm_tree_step raw (map-RawArm RawStatement RawArm (Scoped (Option Statement)) (Scoped ArmTree) (treed raw) (treed_arm raw) layer)) (λ scope stand. (t.gives scope).phrases)) (sym (fold-roll-RawArm (Scoped (Stand → Phrases)) (Scoped ArmText) (scoped_step raw) scoped_arm layer)) h)

  scoped_layer : (y : StatementParts IsScopedStatement IsScopedArm) → IsScopedStatement (roll-RawStatement (shape y))
  scoped_layer y =
      subst (λ (t : Scoped (Option Statement)). IsScoped (scoped raw (roll-RawStatement (shape y))) t (scoped raw (roll-RawStatement (shape y))).gives) (sym (fold-roll-RawStatement (Scoped (Option Statement)) (Scoped ArmTree) (treed_step raw) (arm_tree_step raw) (shape y)))
      (subst (λ (t : Scoped (Stand → Phrases)). IsScoped t (treed_step raw (map-RawStatement RawStatement RawArm (Scoped (Option Statement)) (Scoped ArmTree) (treed raw) (treed_arm raw) (shape y))) t.gives) (sym (fold-roll-RawStatement (Scoped (Stand → Phrases)) (Scoped ArmText) (scoped_step raw) scoped_arm (shape y)))
      (opened_statement y))

  pub statement_scoped : (x : RawStatement) → IsScopedStatement x
  statement_scoped = of_every_statement IsScopedStatement IsScopedArm scoped_layer opened_arm

  -- the same for the arms of switches
  pub arm_scoped : (x : RawArm) → IsScopedArm x
  arm_scoped = of_every_arm IsScopedStatement IsScopedArm scoped_layer opened_arm

  -- ---- lists of statements, and parts that may be missing

  pub after_count : (xs : List RawStatement) (scope : Scope) (stand : Stand)
      → scope.variables + declared_count (joined_at stand (in_order (map (scoped raw) xs) scope)) ≡ (after_all (map (scoped raw) xs) scope).variables
  after_count [] scope stand = omega arith
  after_count (x ∷ xs) scope stand =
      let one = (scoped raw x).gives scope stand in
      let rest = joined_at stand (in_order (map (scoped raw) xs) ((scoped raw x).after scope)) in
      let a : declared_count (one ++ rest) ≡ declared_count one + declared_count rest = count_append one rest in
      let b : scope.variables + declared_count one ≡ ((scoped raw x).after scope).variables = (statement_scoped x).counts scope stand in
      let c : ((scoped raw x).after scope).variables + declared_count rest ≡ (after_all (map (scoped raw) xs) ((scoped raw x).after scope)).variables = after_count xs ((scoped raw x).after scope) stand in
      omega (arith, a, b, c)

  pub after_block_count : (xs : List RawStatement) (scope : Scope)
      → scope.variables + declared_count (block_phrases (map (scoped raw) xs) scope) ≡ (after_block (map (scoped raw) xs) scope).variables
  after_block_count xs scope = after_count xs (opened scope) InBlock

  -- a function of a part that may be missing
  abbrev pub mapped : {R : Type 0} → (RawStatement → R) → Option RawStatement → Option R
  mapped f None = None
  mapped f (Some x) = Some (f x)

  pub after_part_same : (x : Option RawStatement) (scope : Scope) → after_part (mapped (treed raw) x) scope ≡ after_part (mapped (scoped raw) x) scope
  after_part_same None scope = refl
  after_part_same (Some x) scope = (statement_scoped x).same scope

  pub after_part_count : (x : Option RawStatement) (scope : Scope) (stand : Stand)
      → scope.variables + declared_count (at_stand stand (part_gives (mapped (scoped raw) x) scope)) ≡ (after_part (mapped (scoped raw) x) scope).variables
  after_part_count None scope stand = omega arith
  after_part_count (Some x) scope stand = (statement_scoped x).counts scope stand
