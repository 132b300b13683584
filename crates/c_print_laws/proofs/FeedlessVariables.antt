-- The variables that a text declares hold no line feed, where the text's own trees don't.
use Rattle.std.proofs.Common.{◌≡◌, ℕ, List, [], ◌∷◌, ◌++◌, map, Bool, true, ◌&&◌, Option, Some, None, refl, sym, ap, ◌∙◌}
use Rattle.std.specs.List.{list_all}
use Rattle.std.specs.Option.{option_map_or}
use Rattle.std.proofs.lemmas.Bool.{and_from, and_parts}
use Rattle.c_language.specs.Lists.{all_true}
use Rattle.c_tree.specs.declared.program.Var.{Var}
use Rattle.c_tree.specs.declared.raw.expr.RawExpr.{RawExpr}
use Rattle.c_tree.specs.declared.raw.expr.RawVar.{RawVar}
use Rattle.c_tree.specs.declared.raw.program.RawInit.{RawInit}
use Rattle.c_tree.specs.declared.raw.program.RawInit.TheVariants as init
use Rattle.c_tree.specs.declared.raw.program.RawMember.{RawMember}
use Rattle.c_tree.specs.declared.raw.program.RawParam.{RawParam}
use Rattle.c_tree.specs.declared.raw.program.RawItem.{RawItem}
use Rattle.c_tree.specs.declared.raw.program.RawItem.TheVariants.{Include, Tag, Struct, Global, Prototype, Define}
use Rattle.c_tree.specs.declared.raw.program.RawProgram.{RawProgram}
use Rattle.c_tree.specs.declared.raw.statement.RawTarget.{RawTarget}
use Rattle.c_tree.specs.declared.raw.statement.RawTarget.TheVariants as target
use Rattle.c_tree.specs.declared.raw.statement.RawStatement.{RawStatement, map-RawStatement, fold-roll-RawStatement}
use Rattle.c_tree.specs.declared.raw.statement.RawStatement.TheOpen.{RawStatement-F}
use Rattle.c_tree.specs.declared.raw.statement.RawArm.{RawArm, map-RawArm, fold-roll-RawArm}
use Rattle.c_tree.proofs.RawTrees.{StatementParts, ArmParts, statement_layer, arm_layer, of_every_statement}
use Rattle.c_language.specs.Words.{Bytes}
use Rattle.c_language.specs.DeclaredTypes.{item_count}
use Rattle.c_language.specs.Scopes.{Scope, outset, with_variable, with_target, parameter_of, with_parameter, scope_of_parameters, entered, opened, numbered, Scoped, in_order, after_block, part_gives, scope_of_test, scope_of_body}
use Rattle.c_language.specs.Phrases.{Stand, InFile, InHead, InBlock, InArm, InFor, Part, NamesStruct, DefinesStruct, HasMember, DeclaresFunction, Takes, EndsFunction, Declares, Begins, Assigns, Bumps, Calls, Allocates, Tests, Switches, Returns, Phrase, Phrases, phrase, begun_phrases, declaration, target_phrases, joined_at, block_phrases, at_stand, ArmText, phrases_of_arms, scoped_step, scoped_arm, scoped, scoped_of_arm, body_phrases, member_phrases, taken_phrases, parameter_phrases, head_phrases, item_phrases, after_item, items_phrases, phrases}
use Rattle.c_language.specs.ProgramOf.{ctype_with, variables_in}
use Rattle.c_language.proofs.Lists.{all_append, no_list, head_is, tail_is}
use Rattle.c_print.specs.Feedless.{feedless, var_feedless}
use Rattle.c_language.proofs.Options.{map_there}
use Rattle.c_print_laws.proofs.RawFeedless.{raw_expr_feedless, raw_type_feedless, raw_var_feedless, raw_init_feedless, raw_target_feedless, raw_arg_feedless, raw_name_feedless, raw_amount_feedless, raw_label_feedless, raw_statement_step, raw_arm_step, raw_statement_feedless, raw_arm_feedless, raw_body_feedless, raw_param_feedless, raw_head_feedless, raw_item_feedless, raw_items_feedless}
use Rattle.c_print_laws.proofs.FeedlessTypes.{type_given}

-- ---- phrases

-- a variable that is declared has a name and a shape without line feeds
abbrev part_feedless : Part → Bool
part_feedless (NamesStruct tag) = true
part_feedless (DefinesStruct tag) = true
part_feedless (HasMember before m) = true
part_feedless (DeclaresFunction head is_definition) = true
part_feedless (Takes before p) = true
part_feedless (EndsFunction head body) = true
part_feedless (Declares stand v i) = raw_var_feedless v
part_feedless (Begins stand v i) = true
part_feedless (Assigns a op b) = true
part_feedless (Bumps a) = true
part_feedless (Calls stand to f args) = true
part_feedless (Allocates to cast n) = true
part_feedless (Tests a) = true
part_feedless (Switches a labels) = true
part_feedless (Returns a) = true

abbrev phrase_feedless : Phrase → Bool
phrase_feedless p = part_feedless p.part

abbrev AreFeedless : Phrases → Type 0
AreFeedless ps = list_all phrase_feedless ps ≡ true

joined : (ps qs : Phrases) → AreFeedless ps → AreFeedless qs → AreFeedless (ps ++ qs)
joined = all_append phrase_feedless

begun_feedless : (l : ℕ) (scope : Scope) (stand : Stand) (v : RawVar) (i : RawInit) → AreFeedless (begun_phrases l scope stand v i)
begun_feedless l scope stand v init.None = refl
begun_feedless l scope stand v (init.One a) = refl
begun_feedless l scope stand v (init.Items all) = refl

module _ (raw : RawProgram) where
  declaration_feedless : (l : ℕ) (scope : Scope) (stand : Stand) (v : RawVar) (i : RawInit) → raw_var_feedless v ≡ true → AreFeedless (declaration raw l scope stand v i)
  declaration_feedless l scope stand v i h = and_from _ _ h (begun_feedless l (with_variable raw v i scope) stand v i)

  target_phrases_feedless : (l : ℕ) (scope : Scope) (stand : Stand) (to : RawTarget) → raw_target_feedless to ≡ true → AreFeedless (target_phrases raw l scope stand to)
  target_phrases_feedless l scope stand target.None h = refl
  target_phrases_feedless l scope stand (target.Place a) h = refl
  target_phrases_feedless l scope stand (target.Declared v) h = declaration_feedless l scope stand v init.None h

  -- ---- statements

  abbrev Q : RawStatement → Type 0
  Q x = raw_statement_feedless x ≡ true → (scope : Scope) (stand : Stand) → AreFeedless ((scoped raw x).gives scope stand)

  abbrev R : RawArm → Type 0
  R x = raw_arm_feedless x ≡ true → (scope : Scope) → AreFeedless ((scoped_of_arm raw x).gives scope).phrases

  abbrev bodies : List ((x : RawStatement) × Q x) → List RawStatement
  bodies = map (λ (x : (y : RawStatement) × Q y). x.0)

  abbrev bodies_of_arms : List ((x : RawArm) × R x) → List RawArm
  bodies_of_arms = map (λ (x : (y : RawArm) × R y). x.0)

  all_phrases : (xs : List ((x : RawStatement) × Q x)) → raw_body_feedless (bodies xs) ≡ true → (scope : Scope) (stand : Stand) → AreFeedless (joined_at stand (in_order (map (scoped raw) (bodies xs)) scope))
  all_phrases [] h scope stand = refl
  all_phrases (x ∷ xs) h scope stand =
      let p = and_parts (raw_statement_feedless x.0) (raw_body_feedless (bodies xs)) h in
      joined ((scoped raw x.0).gives scope stand) (joined_at stand (in_order (map (scoped raw) (bodies xs)) ((scoped raw x.0).after scope)))
      (x.1 p.0 scope stand) (all_phrases xs p.1 ((scoped raw x.0).after scope) stand)

  block_feedless : (xs : List ((x : RawStatement) × Q x)) → raw_body_feedless (bodies xs) ≡ true → (scope : Scope) → AreFeedless (block_phrases (map (scoped raw) (bodies xs)) scope)
  block_feedless xs h scope = all_phrases xs h (opened scope) InBlock

  arms_phrases : (xs : List ((x : RawArm) × R x)) → all_true (map raw_arm_feedless (bodies_of_arms xs)) ≡ true → (scope : Scope) → AreFeedless (phrases_of_arms (in_order (map (scoped_of_arm raw) (bodies_of_arms xs)) scope))
  arms_phrases [] h scope = refl
  arms_phrases (x ∷ xs) h scope =
      let p = and_parts (raw_arm_feedless x.0) (all_true (map raw_arm_feedless (bodies_of_arms xs))) h in
      joined ((scoped_of_arm raw x.0).gives scope).phrases (phrases_of_arms (in_order (map (scoped_of_arm raw) (bodies_of_arms xs)) ((scoped_of_arm raw x.0).after scope)))
      (x.1 p.0 scope) (arms_phrases xs p.1 ((scoped_of_arm raw x.0).after scope))

  -- the parts of a for
  abbrev PartFeedless : Option (Scoped (Stand → Phrases)) → Type 0
  PartFeedless None = Unit {0}
  PartFeedless (Some b) = (scope : Scope) (stand : Stand) → AreFeedless (b.gives scope stand)

  part_phrases : (part : Option (Scoped (Stand → Phrases))) → PartFeedless part → (scope : Scope) (stand : Stand) → AreFeedless (at_stand stand (part_gives part scope))
  part_phrases None h scope stand = refl
  part_phrases (Some b) h scope stand = h scope stand

  for_phrases : (l : ℕ) (i k : Option (Scoped (Stand → Phrases))) (a : RawExpr) (b : List ((x : RawStatement) × Q x)) → PartFeedless i → PartFeedless k → raw_body_feedless (bodies b) ≡ true → (scope : Scope)
      → AreFeedless (at_stand InFor (part_gives i (opened (numbered scope)))
      ++ (phrase l (scope_of_test i scope) (Tests a) ∷ (at_stand InBlock (part_gives k (scope_of_test i scope)) ++ block_phrases (map (scoped raw) (bodies b)) (scope_of_body i k scope))))
  for_phrases l i k a b hi hk hb scope =
      let first = at_stand InFor (part_gives i (opened (numbered scope))) in
      let step = at_stand InBlock (part_gives k (scope_of_test i scope)) in
      let body = block_phrases (map (scoped raw) (bodies b)) (scope_of_body i k scope) in
      joined first (phrase l (scope_of_test i scope) (Tests a) ∷ (step ++ body)) (part_phrases i hi (opened (numbered scope)) InFor)
      (joined step body (part_phrases k hk (scope_of_test i scope) InBlock) (block_feedless b hb (scope_of_body i k scope)))

  abbrev layer : StatementParts Q R → RawStatement-F RawStatement RawArm
  layer = statement_layer Q R

  abbrev step_of : StatementParts Q R → Scoped (Stand → Phrases)
  step_of y = scoped_step raw (map-RawStatement RawStatement RawArm (Scoped (Stand → Phrases)) (Scoped ArmText) (scoped raw) (scoped_of_arm raw) (layer y))

  step_phrases : (y : StatementParts Q R) → raw_statement_step (map-RawStatement RawStatement RawArm Bool Bool raw_statement_feedless raw_arm_feedless (layer y)) ≡ true → (scope : Scope) (stand : Stand) → AreFeedless ((step_of y).gives scope stand)
  step_phrases (RawStatement-F.Declare l v i) h scope stand = declaration_feedless l scope stand v i (and_parts (raw_var_feedless v) (raw_init_feedless i) h).0
  step_phrases (RawStatement-F.Assign l a op b) h scope stand = refl
  step_phrases (RawStatement-F.Bump l a up before) h scope stand = refl
  step_phrases (RawStatement-F.Call l to f args) h scope stand =
      joined (target_phrases raw l scope stand to) (phrase l (with_target raw to scope) (Calls stand to f args) ∷ []) (target_phrases_feedless l scope stand to (and_parts (raw_target_feedless to) (list_all raw_arg_feedless args) h).0) refl
  step_phrases (RawStatement-F.Heap l to cast n) h scope stand =
      joined (target_phrases raw l scope stand to) (phrase l (with_target raw to scope) (Allocates to cast n) ∷ [])
      (target_phrases_feedless l scope stand to (and_parts (raw_target_feedless to) (option_map_or raw_name_feedless cast true && raw_amount_feedless n) h).0) refl
  step_phrases (RawStatement-F.If l e a b) h scope stand =
      let p = and_parts (raw_expr_feedless e) (raw_body_feedless (bodies a) && raw_body_feedless (bodies b)) h in
      let q = and_parts (raw_body_feedless (bodies a)) (raw_body_feedless (bodies b)) p.1 in
      let next = after_block (map (scoped raw) (bodies a)) (numbered scope) in
      joined (block_phrases (map (scoped raw) (bodies a)) (numbered scope)) (block_phrases (map (scoped raw) (bodies b)) next) (block_feedless a q.0 (numbered scope)) (block_feedless b q.1 next)
  step_phrases (RawStatement-F.While l e b) h scope stand = block_feedless b (and_parts (raw_expr_feedless e) (raw_body_feedless (bodies b)) h).1 (numbered scope)
  step_phrases (RawStatement-F.Do l e b) h scope stand = block_feedless b (and_parts (raw_expr_feedless e) (raw_body_feedless (bodies b)) h).1 (numbered scope)
  step_phrases (RawStatement-F.For l None e None b) h scope stand =
      let q = and_parts (raw_expr_feedless e) (raw_body_feedless (bodies b)) h in
      for_phrases l None None e b tt tt q.1 scope
  step_phrases (RawStatement-F.For l None e (Some k) b) h scope stand =
      let q = and_parts (raw_expr_feedless e) (raw_statement_feedless k.0 && raw_body_feedless (bodies b)) h in
      let r = and_parts (raw_statement_feedless k.0) (raw_body_feedless (bodies b)) q.1 in
      for_phrases l None (Some (scoped raw k.0)) e b tt (k.1 r.0) r.1 scope
  step_phrases (RawStatement-F.For l (Some i) e None b) h scope stand =
      let p = and_parts (raw_statement_feedless i.0) (raw_expr_feedless e && raw_body_feedless (bodies b)) h in
      let q = and_parts (raw_expr_feedless e) (raw_body_feedless (bodies b)) p.1 in
      for_phrases l (Some (scoped raw i.0)) None e b (i.1 p.0) tt q.1 scope
  step_phrases (RawStatement-F.For l (Some i) e (Some k) b) h scope stand =
      let p = and_parts (raw_statement_feedless i.0) (raw_expr_feedless e && (raw_statement_feedless k.0 && raw_body_feedless (bodies b))) h in
      let q = and_parts (raw_expr_feedless e) (raw_statement_feedless k.0 && raw_body_feedless (bodies b)) p.1 in
      let r = and_parts (raw_statement_feedless k.0) (raw_body_feedless (bodies b)) q.1 in
      for_phrases l (Some (scoped raw i.0)) (Some (scoped raw k.0)) e b (i.1 p.0) (k.1 r.0) r.1 scope
  step_phrases (RawStatement-F.Switch l e arms) h scope stand = arms_phrases arms (and_parts (raw_expr_feedless e) (all_true (map raw_arm_feedless (bodies_of_arms arms))) h).1 (opened (numbered scope))
  step_phrases (RawStatement-F.Block l b) h scope stand = block_feedless b h scope
  step_phrases (RawStatement-F.Return l a) h scope stand = refl

  arm_step_phrases : (y : ArmParts Q R) → raw_arm_step (map-RawArm RawStatement RawArm Bool Bool raw_statement_feedless raw_arm_feedless (arm_layer Q R y)) ≡ true → (scope : Scope)
      → AreFeedless ((scoped_arm (map-RawArm RawStatement RawArm (Scoped (Stand → Phrases)) (Scoped ArmText) (scoped raw) (scoped_of_arm raw) (arm_layer Q R y))).gives scope).phrases
  arm_step_phrases y h scope = all_phrases y.body (and_parts (list_all raw_label_feedless y.labels) (raw_body_feedless (bodies y.body)) h).1 scope InArm

  statement_phrases : (x : RawStatement) → Q x
  statement_phrases = of_every_statement Q R
      (λ y h scope stand.
      ap (λ (b : Scoped (Stand → Phrases)). list_all phrase_feedless (b.gives scope stand)) (fold-roll-RawStatement (Scoped (Stand → Phrases)) (Scoped ArmText) (scoped_step raw) scoped_arm (layer y))
      ∙ step_phrases y (sym (fold-roll-RawStatement Bool Bool raw_statement_step raw_arm_step (layer y)) ∙ h) scope stand)
      (λ y h scope.
      ap (λ (b : Scoped ArmText). list_all phrase_feedless (b.gives scope).phrases) (fold-roll-RawArm (Scoped (Stand → Phrases)) (Scoped ArmText) (scoped_step raw) scoped_arm (arm_layer Q R y))
      ∙ arm_step_phrases y (sym (fold-roll-RawArm Bool Bool raw_statement_step raw_arm_step (arm_layer Q R y)) ∙ h) scope)

  body_feedless : (body : List RawStatement) (scope : Scope) → raw_body_feedless body ≡ true → AreFeedless (body_phrases raw body scope)
  body_feedless [] scope h = refl
  body_feedless (x ∷ xs) scope h =
      let p = and_parts (raw_statement_feedless x) (raw_body_feedless xs) h in
      joined ((scoped raw x).gives scope InBlock) (body_phrases raw xs ((scoped raw x).after scope)) (statement_phrases x p.0 scope InBlock) (body_feedless xs ((scoped raw x).after scope) p.1)

  -- ---- items

  members_feedless : (scope : Scope) (before ms : List RawMember) → AreFeedless (member_phrases scope before ms)
  members_feedless scope before [] = refl
  members_feedless scope before (m ∷ ms) = members_feedless scope (before ++ m ∷ []) ms

  taken_feedless : (scope : Scope) (before ps : List RawParam) → AreFeedless (taken_phrases scope before ps)
  taken_feedless scope before [] = refl
  taken_feedless scope before (p ∷ ps) = taken_feedless scope (before ++ p ∷ []) ps

  parameter_feedless : (p : RawParam) (name : Option Bytes) (scope : Scope) → option_map_or feedless name true ≡ true → raw_type_feedless p.shape ≡ true → AreFeedless (parameter_phrases raw p name scope)
  parameter_feedless p None scope h k = refl
  parameter_feedless p (Some name) scope h k = declaration_feedless p.line scope InHead (parameter_of p name) init.None (and_from _ _ h k)

  head_feedless : (ps : List RawParam) (scope : Scope) → list_all raw_param_feedless ps ≡ true → AreFeedless (head_phrases raw ps scope)
  head_feedless [] scope h = refl
  head_feedless (p ∷ ps) scope h =
      let x = and_parts (raw_param_feedless p) (list_all raw_param_feedless ps) h in
      let y = and_parts (option_map_or feedless p.name true) (raw_type_feedless p.shape) x.0 in
      joined (parameter_phrases raw p p.name scope) (head_phrases raw ps (with_parameter raw p scope)) (parameter_feedless p p.name scope y.0 y.1) (head_feedless ps (with_parameter raw p scope) x.1)

  item_feedless : (x : RawItem) (scope : Scope) → raw_item_feedless x ≡ true → AreFeedless (item_phrases raw x scope)
  item_feedless (Include is_stdlib) scope h = refl
  item_feedless (Tag l tag) scope h = refl
  item_feedless (Struct l tag members) scope h = members_feedless scope [] members
  item_feedless (Global l v i is_static) scope h = declaration_feedless l scope (InFile is_static) v i (and_parts (raw_var_feedless v) (raw_init_feedless i) h).0
  item_feedless (Prototype l head) scope h = taken_feedless scope [] head.params
  item_feedless (Define l head body) scope h =
      let p = and_parts (raw_head_feedless head) (raw_body_feedless body) h in
      let q = and_parts (feedless head.name) (option_map_or raw_type_feedless head.result true && list_all raw_param_feedless head.params) p.0 in
      let params = (and_parts (option_map_or raw_type_feedless head.result true) (list_all raw_param_feedless head.params) q.1).1 in
      let begin = scope_of_parameters head scope in
      let inside = entered raw head scope in
      joined (head_phrases raw head.params begin) (body_phrases raw body inside ++ (phrase l scope (EndsFunction head body) ∷ [])) (head_feedless head.params begin params)
      (joined (body_phrases raw body inside) (phrase l scope (EndsFunction head body) ∷ []) (body_feedless body inside p.1) refl)

  items_feedless : (xs : List RawItem) (scope : Scope) → raw_items_feedless xs ≡ true → AreFeedless (items_phrases raw xs scope)
  items_feedless [] scope h = refl
  items_feedless (x ∷ xs) scope h =
      let p = and_parts (raw_item_feedless x) (raw_items_feedless xs) h in
      joined (item_phrases raw x scope) (items_phrases raw xs (after_item raw x scope)) (item_feedless x scope p.0) (items_feedless xs (after_item raw x scope) p.1)

  -- ---- variables

  -- the variables of phrases
  abbrev Given : Phrases → Type 0
  Given ps = (vs : List Var) → variables_in raw ps ≡ map Some vs → list_all var_feedless vs ≡ true

  declares : (l : ℕ) (scope : Scope) (stand : Stand) (v : RawVar) (i : RawInit) (ps : Phrases) → raw_var_feedless v ≡ true → Given ps → Given (phrase l scope (Declares stand v i) ∷ ps)
  declares l scope stand v i ps h rest [] is = no_list is
  declares l scope stand v i ps h rest (x ∷ vs) is =
      let p = and_parts (feedless v.name) (raw_type_feedless v.shape) h in
      let g = map_there _ (ctype_with raw (item_count i) v.shape) x (head_is is) in
      and_from _ _ (ap var_feedless (sym g.same) ∙ and_from _ _ p.0 (type_given raw (item_count i) v.shape p.1 g.value g.there)) (rest vs (tail_is is))

  with_phrase : (l : ℕ) (scope : Scope) (part : Part) (ps : Phrases) → part_feedless part ≡ true → Given ps → Given (phrase l scope part ∷ ps)
  with_phrase l scope (NamesStruct tag) ps h rest = rest
  with_phrase l scope (DefinesStruct tag) ps h rest = rest
  with_phrase l scope (HasMember before m) ps h rest = rest
  with_phrase l scope (DeclaresFunction head is_definition) ps h rest = rest
  with_phrase l scope (Takes before p) ps h rest = rest
  with_phrase l scope (EndsFunction head body) ps h rest = rest
  with_phrase l scope (Declares stand v i) ps h rest = declares l scope stand v i ps h rest
  with_phrase l scope (Begins stand v i) ps h rest = rest
  with_phrase l scope (Assigns a op b) ps h rest = rest
  with_phrase l scope (Bumps a) ps h rest = rest
  with_phrase l scope (Calls stand to f args) ps h rest = rest
  with_phrase l scope (Allocates to cast n) ps h rest = rest
  with_phrase l scope (Tests a) ps h rest = rest
  with_phrase l scope (Switches a labels) ps h rest = rest
  with_phrase l scope (Returns a) ps h rest = rest

  phrases_given : (ps : Phrases) → AreFeedless ps → Given ps
  phrases_given [] h [] is = refl
  phrases_given [] h (v ∷ vs) is = no_list (sym is)
  phrases_given (p ∷ ps) h vs is =
      let x = and_parts (phrase_feedless p) (list_all phrase_feedless ps) h in
      with_phrase p.line p.scope p.part ps x.0 (phrases_given ps x.1) vs is

  pub variables_given : (vs : List Var) → raw_items_feedless raw.items ≡ true → variables_in raw (phrases raw) ≡ map Some vs → list_all var_feedless vs ≡ true
  variables_given vs h is = phrases_given (phrases raw) (items_feedless raw.items outset h) vs is
