-- The variables that a function declares, with its parameters, are owned by a function.
use Rattle.std.proofs.Common.{◌≡◌, ℕ, List, [], ◌∷◌, ◌++◌, map, false, Option, Some, None, refl, sym, ap, ◌∙◌, subst}
use Rattle.std.specs.Prelude.{is_none}
use Rattle.c_language.proofs.Options.{map_there}
use Rattle.c_language.proofs.PhraseLists.{variables-append}
use Rattle.c_language.specs.Phrases.{Stand, InHead, InBlock, InArm, InFor, Tests, Phrases, phrase, begun_phrases, declaration, target_phrases, joined_at, block_phrases, ArmText, phrases_of_arms, scoped_step, scoped_arm, scoped, scoped_of_arm, body_phrases, parameter_phrases, head_phrases, item_phrases}
use Rattle.c_language.specs.ProgramOf.{variable_of, variables_in}
use Rattle.c_language.specs.Scopes.{Scope, Scoped, opened, numbered, with_variable, with_target, with_named, with_parameter, with_parameters, parameter_of, scope_of_parameters, entered, begun, in_order, after_all, after_block}
use Rattle.c_language.specs.Words.{Bytes}
use Rattle.c_tree.specs.declared.program.Var.{Var}
use Rattle.c_tree.specs.declared.raw.expr.RawExpr.{RawExpr}
use Rattle.c_tree.specs.declared.raw.expr.RawVar.{RawVar}
use Rattle.c_tree.specs.declared.raw.program.RawHead.{RawHead}
use Rattle.c_tree.specs.declared.raw.program.RawInit.{RawInit}
use Rattle.c_tree.specs.declared.raw.program.RawInit.TheVariants as init
use Rattle.c_tree.specs.declared.raw.program.RawItem.TheVariants.{Define}
use Rattle.c_tree.specs.declared.raw.program.RawParam.{RawParam}
use Rattle.c_tree.specs.declared.raw.program.RawProgram.{RawProgram}
use Rattle.c_tree.specs.declared.raw.statement.RawArm.{RawArm, roll-RawArm, map-RawArm, fold-roll-RawArm}
use Rattle.c_tree.specs.declared.raw.statement.RawStatement.{RawStatement, ind-RawStatement, roll-RawStatement, map-RawStatement, fold-roll-RawStatement}
use Rattle.c_tree.specs.declared.raw.statement.RawStatement.TheOpen.{RawStatement-F, RawArm-F}
use Rattle.c_tree.specs.declared.raw.statement.RawTarget.{RawTarget}
use Rattle.c_tree.specs.declared.raw.statement.RawTarget.TheVariants as target

-- in a function
abbrev pub IsInFunction : Scope → Type 0
IsInFunction scope = is_none scope.owner ≡ false

abbrev pub IsOwned : Option Var → Type 0
IsOwned o = (v : Var) → o ≡ Some v → is_none v.owner ≡ false

abbrev pub AllOwned : List (Option Var) → Type 0
AllOwned [] = Unit {0}
AllOwned (o ∷ os) = IsOwned o × AllOwned os

both_owned : (os more : List (Option Var)) → AllOwned os → AllOwned more → AllOwned (os ++ more)
both_owned [] more h k = k
both_owned (o ∷ os) more h k = (h.0, both_owned os more h.1 k)

module _ (raw : RawProgram) where
  abbrev Declared : Phrases → Type 0
  Declared ps = AllOwned (variables_in raw ps)

  declared_both : (ps qs : Phrases) → Declared ps → Declared qs → Declared (ps ++ qs)
  declared_both ps qs h k = subst AllOwned (sym (variables-append raw ps qs)) (both_owned (variables_in raw ps) (variables_in raw qs) h k)

  variable_owned : (l : ℕ) (scope : Scope) (stand : Stand) (v : RawVar) (i : RawInit) → IsInFunction scope → IsOwned (variable_of raw l scope.owner stand v i)
  variable_owned l scope stand v i h u e =
      let m = map_there _ _ u e in
      ap is_none (ap (λ (y : Var). y.owner) (sym m.same)) ∙ h

  begun_none : (l : ℕ) (scope : Scope) (stand : Stand) (v : RawVar) (i : RawInit) → Declared (begun_phrases l scope stand v i)
  begun_none l scope stand v init.None = tt
  begun_none l scope stand v (init.One a) = tt
  begun_none l scope stand v (init.Items es) = tt

  declaration_owned : (l : ℕ) (scope : Scope) (stand : Stand) (v : RawVar) (i : RawInit) → IsInFunction scope → Declared (declaration raw l scope stand v i)
  declaration_owned l scope stand v i h = (variable_owned l scope stand v i h, begun_none l (with_variable raw v i scope) stand v i)

  begun_in : (i : RawInit) (scope : Scope) → IsInFunction scope → IsInFunction (begun i scope)
  begun_in init.None scope h = h
  begun_in (init.One a) scope h = h
  begun_in (init.Items es) scope h = h

  target_owned : (l : ℕ) (scope : Scope) (stand : Stand) (to : RawTarget) → IsInFunction scope → Declared (target_phrases raw l scope stand to)
  target_owned l scope stand target.None h = tt
  target_owned l scope stand (target.Place a) h = tt
  target_owned l scope stand (target.Declared v) h = declaration_owned l scope stand v init.None h

  target_in : (to : RawTarget) (scope : Scope) → IsInFunction scope → IsInFunction (with_target raw to scope)
  target_in target.None scope h = h
  target_in (target.Place a) scope h = h
  target_in (target.Declared v) scope h = h

  -- ---- parts of a text

  pub record Case (w : Scoped (Stand → Phrases)) : Type 0 where
    pub owned : (scope : Scope) (stand : Stand) → IsInFunction scope → Declared (w.gives scope stand)
    pub after_in : (scope : Scope) → IsInFunction scope → IsInFunction (w.after scope)

  pub record ArmCase (w : Scoped ArmText) : Type 0 where
    pub owned : (scope : Scope) → IsInFunction scope → Declared (w.gives scope).phrases
    pub after_in : (scope : Scope) → IsInFunction scope → IsInFunction (w.after scope)

  abbrev Known : Type 0
  Known = (one : RawStatement) × Case (scoped raw one)

  abbrev KnownArm : Type 0
  KnownArm = (a : RawArm) × ArmCase (scoped_of_arm raw a)

  abbrev layer_of : RawStatement-F Known KnownArm → RawStatement-F RawStatement RawArm
  layer_of = map-RawStatement Known KnownArm RawStatement RawArm (λ p. p.0) (λ p. p.0)

  abbrev arm_layer_of : RawArm-F Known KnownArm → RawArm-F RawStatement RawArm
  arm_layer_of = map-RawArm Known KnownArm RawStatement RawArm (λ p. p.0) (λ p. p.0)

  abbrev as_text : RawStatement-F RawStatement RawArm → Scoped (Stand → Phrases)
  as_text y = scoped_step raw (map-RawStatement RawStatement RawArm (Scoped (Stand → Phrases)) (Scoped ArmText) (scoped raw) (scoped_of_arm raw) y)

  abbrev as_arm_text : RawArm-F RawStatement RawArm → Scoped ArmText
  as_arm_text y = scoped_arm (map-RawArm RawStatement RawArm (Scoped (Stand → Phrases)) (Scoped ArmText) (scoped raw) (scoped_of_arm raw) y)

  abbrev texts : List Known → List (Scoped (Stand → Phrases))
  texts ks = map (scoped raw) (map (λ (p : Known). p.0) ks)

  abbrev arm_texts : List KnownArm → List (Scoped ArmText)
  arm_texts ks = map (scoped_of_arm raw) (map (λ (p : KnownArm). p.0) ks)

  list_in : (ks : List Known) (scope : Scope) → IsInFunction scope → IsInFunction (after_all (texts ks) scope)
  list_in [] scope h = h
  list_in (k ∷ ks) scope h = list_in ks ((scoped raw k.0).after scope) (k.1.after_in scope h)

  list_owned : (ks : List Known) (scope : Scope) (stand : Stand) → IsInFunction scope → Declared (joined_at stand (in_order (texts ks) scope))
  list_owned [] scope stand h = tt
  list_owned (k ∷ ks) scope stand h =
      let next = (scoped raw k.0).after scope in
      declared_both ((scoped raw k.0).gives scope stand) (joined_at stand (in_order (texts ks) next)) (k.1.owned scope stand h) (list_owned ks next stand (k.1.after_in scope h))

  arms_in : (ks : List KnownArm) (scope : Scope) → IsInFunction scope → IsInFunction (after_all (arm_texts ks) scope)
  arms_in [] scope h = h
  arms_in (k ∷ ks) scope h = arms_in ks ((scoped_of_arm raw k.0).after scope) (k.1.after_in scope h)

  arms_owned : (ks : List KnownArm) (scope : Scope) → IsInFunction scope → Declared (phrases_of_arms (in_order (arm_texts ks) scope))
  arms_owned [] scope h = tt
  arms_owned (k ∷ ks) scope h =
      let next = (scoped_of_arm raw k.0).after scope in
      declared_both ((scoped_of_arm raw k.0).gives scope).phrases (phrases_of_arms (in_order (arm_texts ks) next)) (k.1.owned scope h) (arms_owned ks next (k.1.after_in scope h))

  -- ---- a for

  abbrev text_after : Option Known → Scope → Scope
  text_after None scope = scope
  text_after (Some k) scope = (scoped raw k.0).after scope

  abbrev part_phrases : Option Known → Scope → Stand → Phrases
  part_phrases None scope stand = []
  part_phrases (Some k) scope stand = (scoped raw k.0).gives scope stand

  part_in : (o : Option Known) (scope : Scope) → IsInFunction scope → IsInFunction (text_after o scope)
  part_in None scope h = h
  part_in (Some k) scope h = k.1.after_in scope h

  part_owned : (o : Option Known) (scope : Scope) (stand : Stand) → IsInFunction scope → Declared (part_phrases o scope stand)
  part_owned None scope stand h = tt
  part_owned (Some k) scope stand h = k.1.owned scope stand h

  for_owned : (i : Option Known) (l : ℕ) (test : RawExpr) (step : Option Known) (b : List Known) (scope : Scope) → IsInFunction scope
      → Declared (part_phrases i (opened (numbered scope)) InFor ++ (phrase l (text_after i (opened (numbered scope))) (Tests test) ∷ (part_phrases step (text_after i (opened (numbered scope))) InBlock ++ block_phrases (texts b) (text_after step (text_after i (opened (numbered scope)))))))
  for_owned i l test step b scope h =
      let first = opened (numbered scope) in
      let second = text_after i first in
      let third = text_after step second in
      let at_second = part_in i first h in
      let at_third = part_in step second at_second in
      declared_both (part_phrases i first InFor) (phrase l second (Tests test) ∷ (part_phrases step second InBlock ++ block_phrases (texts b) third)) (part_owned i first InFor h) (declared_both (part_phrases step second InBlock) (block_phrases (texts b) third) (part_owned step second InBlock at_second) (list_owned b (opened third) InBlock at_third))

  -- ---- forms

  layer_owned : (y : RawStatement-F Known KnownArm) → Case (as_text (layer_of y))
  layer_owned (RawStatement-F.Declare l v i) = record { owned = λ scope stand h. declaration_owned l scope stand v i h; after_in = λ scope h. begun_in i (with_variable raw v i scope) h }
  layer_owned (RawStatement-F.Assign l left op right) = record { owned = λ scope stand h. tt; after_in = λ scope h. h }
  layer_owned (RawStatement-F.Bump l left up before) = record { owned = λ scope stand h. tt; after_in = λ scope h. h }
  layer_owned (RawStatement-F.Call l to f args) = record {
    owned = λ scope stand h. declared_both (target_phrases raw l scope stand to) _ (target_owned l scope stand to h) tt;
    after_in = λ scope h. target_in to scope h;
  }
  layer_owned (RawStatement-F.Heap l to cast n) = record {
    owned = λ scope stand h. declared_both (target_phrases raw l scope stand to) _ (target_owned l scope stand to h) tt;
    after_in = λ scope h. target_in to scope h;
  }
  layer_owned (RawStatement-F.If l test a b) = record {
    owned = λ scope stand h. declared_both (block_phrases (texts a) (numbered scope)) (block_phrases (texts b) (after_block (texts a) (numbered scope))) (list_owned a (opened (numbered scope)) InBlock h) (list_owned b (opened (after_block (texts a) (numbered scope))) InBlock h);
    after_in = λ scope h. h;
  }
  layer_owned (RawStatement-F.While l test b) = record { owned = λ scope stand h. list_owned b (opened (numbered scope)) InBlock h; after_in = λ scope h. h }
  layer_owned (RawStatement-F.Do l test b) = record { owned = λ scope stand h. list_owned b (opened (numbered scope)) InBlock h; after_in = λ scope h. h }
  layer_owned (RawStatement-F.For l None test None b) = record { owned = λ scope stand h. for_owned None l test None b scope h; after_in = λ scope h. h }
  layer_owned (RawStatement-F.For l None test (Some k) b) = record { owned = λ scope stand h. for_owned None l test (Some k) b scope h; after_in = λ scope h. h }
  layer_owned (RawStatement-F.For l (Some i) test None b) = record { owned = λ scope stand h. for_owned (Some i) l test None b scope h; after_in = λ scope h. h }
  layer_owned (RawStatement-F.For l (Some i) test (Some k) b) = record { owned = λ scope stand h. for_owned (Some i) l test (Some k) b scope h; after_in = λ scope h. h }
  layer_owned (RawStatement-F.Switch l test arms) = record { owned = λ scope stand h. arms_owned arms (opened (numbered scope)) h; after_in = λ scope h. h }
  layer_owned (RawStatement-F.Block l b) = record { owned = λ scope stand h. list_owned b (opened scope) InBlock h; after_in = λ scope h. h }
  layer_owned (RawStatement-F.Return l a) = record { owned = λ scope stand h. tt; after_in = λ scope h. h }

  arm_owned : (y : RawArm-F Known KnownArm) → ArmCase (as_arm_text (arm_layer_of y))
  arm_owned y = record { owned = λ scope h. list_owned y.body scope InArm h; after_in = λ scope h. list_in y.body scope h }

  statement_owned : (one : RawStatement) → Case (scoped raw one)
  statement_owned =
      ind-RawStatement (λ one. Case (scoped raw one)) (λ a. ArmCase (scoped_of_arm raw a))
      (λ z y is. subst (λ w. Case (scoped raw (roll-RawStatement w))) is (subst Case (sym (fold-roll-RawStatement (Scoped (Stand → Phrases)) (Scoped ArmText) (scoped_step raw) scoped_arm (layer_of y))) (layer_owned y)))
      (λ z y is. subst (λ w. ArmCase (scoped_of_arm raw (roll-RawArm w))) is (subst ArmCase (sym (fold-roll-RawArm (Scoped (Stand → Phrases)) (Scoped ArmText) (scoped_step raw) scoped_arm (arm_layer_of y))) (arm_owned y)))

  -- ---- a definition

  body_owned : (ss : List RawStatement) (scope : Scope) → IsInFunction scope → Declared (body_phrases raw ss scope)
  body_owned [] scope h = tt
  body_owned (one ∷ ss) scope h =
      let next = (scoped raw one).after scope in
      declared_both ((scoped raw one).gives scope InBlock) (body_phrases raw ss next) ((statement_owned one).owned scope InBlock h) (body_owned ss next ((statement_owned one).after_in scope h))

  parameter_owned : (q : RawParam) (o : Option Bytes) (scope : Scope) → IsInFunction scope → Declared (parameter_phrases raw q o scope)
  parameter_owned q None scope h = tt
  parameter_owned q (Some name) scope h = declaration_owned q.line scope InHead (parameter_of q name) init.None h

  named_in : (q : RawParam) (o : Option Bytes) (scope : Scope) → IsInFunction scope → IsInFunction (with_named raw q o scope)
  named_in q None scope h = h
  named_in q (Some name) scope h = h

  head_owned : (qs : List RawParam) (scope : Scope) → IsInFunction scope → Declared (head_phrases raw qs scope)
  head_owned [] scope h = tt
  head_owned (q ∷ qs) scope h =
      let next = with_parameter raw q scope in
      declared_both (parameter_phrases raw q q.name scope) (head_phrases raw qs next) (parameter_owned q q.name scope h) (head_owned qs next (named_in q q.name scope h))

  parameters_in : (qs : List RawParam) (scope : Scope) → IsInFunction scope → IsInFunction (with_parameters raw qs scope)
  parameters_in [] scope h = h
  parameters_in (q ∷ qs) scope h = parameters_in qs (with_parameter raw q scope) (named_in q q.name scope h)

  pub definition_owned : (l : ℕ) (head : RawHead) (body : List RawStatement) (scope : Scope) → Declared (item_phrases raw (Define l head body) scope)
  definition_owned l head body scope =
      let start = scope_of_parameters head scope in
      let first = head_phrases raw head.params start in
      let rest = body_phrases raw body (entered raw head scope) in
      declared_both first _ (head_owned head.params start refl) (declared_both rest _ (body_owned body (entered raw head scope) (parameters_in head.params start refl)) tt)
