-- The scope after a statement is the same for its phrases and for whatever else is said of it where it stands.
use Rattle.std.proofs.Common.{◌≡◌, List, [], ◌∷◌, map, Option, Some, None, option_map, refl, sym, ap, subst, ◌∙◌}
use Rattle.c_tree.specs.declared.raw.program.RawProgram.{RawProgram}
use Rattle.c_tree.specs.declared.raw.statement.RawStatement.{RawStatement, fold-RawStatement, ind-RawStatement, roll-RawStatement, map-RawStatement, fold-roll-RawStatement}
use Rattle.c_tree.specs.declared.raw.statement.RawStatement.TheOpen.{RawStatement-F, RawArm-F}
use Rattle.c_tree.specs.declared.raw.statement.RawArm.{RawArm, fold-RawArm, roll-RawArm, map-RawArm, fold-roll-RawArm}
use Rattle.c_language.specs.Scopes.{Scope, Scoped, opened, closed, numbered, after_all, after_arm, after_block, after_part, scope_of_body, after_step}
use Rattle.c_language.specs.Phrases.{Stand, Phrases, ArmText, scoped_step, scoped_arm, scoped, scoped_of_arm}

module _ (raw : RawProgram) (R Q : Type 0) (gives : RawStatement-F (Scoped R) (Scoped Q) → Scope → R) (gives_arm : RawArm-F (Scoped R) (Scoped Q) → Scope → Q) where
  abbrev pub said_step : RawStatement-F (Scoped R) (Scoped Q) → Scoped R
  said_step x = record { gives = gives x; after = after_step raw x }

  abbrev pub said_arm_step : RawArm-F (Scoped R) (Scoped Q) → Scoped Q
  said_arm_step a = record { gives = gives_arm a; after = after_arm a }

  abbrev pub said : RawStatement → Scoped R
  said = fold-RawStatement (Scoped R) (Scoped Q) said_step said_arm_step

  abbrev pub said_arm : RawArm → Scoped Q
  said_arm = fold-RawArm (Scoped R) (Scoped Q) said_step said_arm_step

  abbrev Same : RawStatement → Type 0
  Same x = (scope : Scope) → (said x).after scope ≡ (scoped raw x).after scope

  abbrev ArmSame : RawArm → Type 0
  ArmSame a = (scope : Scope) → (said_arm a).after scope ≡ (scoped_of_arm raw a).after scope

  abbrev Statements : Type 0
  Statements = List ((x : RawStatement) × Same x)

  abbrev Arms : Type 0
  Arms = List ((a : RawArm) × ArmSame a)

  abbrev Part : Type 0
  Part = Option ((x : RawStatement) × Same x)

  abbrev all_of : {A : Type 0} → (RawStatement → A) → Statements → List A
  all_of f xs = map f (map (λ (x : (y : RawStatement) × Same y). x.0) xs)

  abbrev arms_of : {A : Type 0} → (RawArm → A) → Arms → List A
  arms_of f xs = map f (map (λ (x : (y : RawArm) × ArmSame y). x.0) xs)

  abbrev part_of : {A : Type 0} → (RawStatement → A) → Part → Option A
  part_of f None = None
  part_of f (Some x) = Some (f x.0)

  all_same : (xs : Statements) (scope : Scope) → after_all (all_of said xs) scope ≡ after_all (all_of (scoped raw) xs) scope
  all_same [] scope = refl
  all_same (x ∷ xs) scope = ap (after_all (all_of said xs)) (x.1 scope) ∙ all_same xs ((scoped raw x.0).after scope)

  arms_same : (xs : Arms) (scope : Scope) → after_all (arms_of said_arm xs) scope ≡ after_all (arms_of (scoped_of_arm raw) xs) scope
  arms_same [] scope = refl
  arms_same (x ∷ xs) scope = ap (after_all (arms_of said_arm xs)) (x.1 scope) ∙ arms_same xs ((scoped_of_arm raw x.0).after scope)

  block_same : (xs : Statements) (scope : Scope) → after_block (all_of said xs) scope ≡ after_block (all_of (scoped raw) xs) scope
  block_same xs scope = ap (closed scope) (all_same xs (opened scope))

  part_same : (x : Part) (scope : Scope) → after_part (part_of said x) scope ≡ after_part (part_of (scoped raw) x) scope
  part_same None scope = refl
  part_same (Some x) scope = x.1 scope

  for_same : (i step : Part) (body : Statements) (scope : Scope)
      → closed scope (after_block (all_of said body) (scope_of_body (part_of said i) (part_of said step) scope))
      ≡ closed scope (after_block (all_of (scoped raw) body) (scope_of_body (part_of (scoped raw) i) (part_of (scoped raw) step) scope))
  for_same i step body scope =
      let first = after_part (part_of (scoped raw) i) (opened (numbered scope)) in
      ap (λ (z : Scope). closed scope (after_block (all_of said body) (after_part (part_of said step) z))) (part_same i (opened (numbered scope)))
      ∙ ap (λ (z : Scope). closed scope (after_block (all_of said body) z)) (part_same step first)
      ∙ ap (closed scope) (block_same body (after_part (part_of (scoped raw) step) first))

  abbrev Layer : Type 0
  Layer = RawStatement-F ((x : RawStatement) × Same x) ((a : RawArm) × ArmSame a)

  abbrev shape : Layer → RawStatement-F RawStatement RawArm
  shape = map-RawStatement ((x : RawStatement) × Same x) ((a : RawArm) × ArmSame a) RawStatement RawArm (λ x. x.0) (λ a. a.0)

  abbrev trees : RawStatement-F RawStatement RawArm → RawStatement-F (Scoped R) (Scoped Q)
  trees y = map-RawStatement RawStatement RawArm (Scoped R) (Scoped Q) said said_arm y

  abbrev texts : RawStatement-F RawStatement RawArm → RawStatement-F (Scoped (Stand → Phrases)) (Scoped ArmText)
  texts y = map-RawStatement RawStatement RawArm (Scoped (Stand → Phrases)) (Scoped ArmText) (scoped raw) (scoped_of_arm raw) y

  steps_same : (y : Layer) (scope : Scope) → after_step raw (trees (shape y)) scope ≡ after_step raw (texts (shape y)) scope
  steps_same (RawStatement-F.Declare l v i) scope = refl
  steps_same (RawStatement-F.Assign l a op b) scope = refl
  steps_same (RawStatement-F.Bump l a up before) scope = refl
  steps_same (RawStatement-F.Call l to f args) scope = refl
  steps_same (RawStatement-F.Heap l to cast n) scope = refl
  steps_same (RawStatement-F.If l a b c) scope = ap (after_block (all_of said c)) (block_same b (numbered scope)) ∙ block_same c (after_block (all_of (scoped raw) b) (numbered scope))
  steps_same (RawStatement-F.While l a b) scope = block_same b (numbered scope)
  steps_same (RawStatement-F.Do l a b) scope = block_same b (numbered scope)
  steps_same (RawStatement-F.For l None a None b) scope = for_same None None b scope
  steps_same (RawStatement-F.For l None a (Some k) b) scope = for_same None (Some k) b scope
  steps_same (RawStatement-F.For l (Some i) a None b) scope = for_same (Some i) None b scope
  steps_same (RawStatement-F.For l (Some i) a (Some k) b) scope = for_same (Some i) (Some k) b scope
  steps_same (RawStatement-F.Switch l a arms) scope = ap (closed (numbered scope)) (arms_same arms (opened (numbered scope)))
  steps_same (RawStatement-F.Block l b) scope = block_same b scope
  steps_same (RawStatement-F.Return l a) scope = refl

  statement_layer : (y : Layer) → Same (roll-RawStatement (shape y))
  statement_layer y scope =
      ap (λ (t : Scoped R). t.after scope) (fold-roll-RawStatement (Scoped R) (Scoped Q) said_step said_arm_step (shape y))
      ∙ steps_same y scope
      ∙ sym (ap (λ (t : Scoped (Stand → Phrases)). t.after scope) (fold-roll-RawStatement (Scoped (Stand → Phrases)) (Scoped ArmText) (scoped_step raw) scoped_arm (shape y)))

  abbrev arm_shape : RawArm-F ((x : RawStatement) × Same x) ((a : RawArm) × ArmSame a) → RawArm-F RawStatement RawArm
  arm_shape = map-RawArm ((x : RawStatement) × Same x) ((a : RawArm) × ArmSame a) RawStatement RawArm (λ x. x.0) (λ a. a.0)

  arm_layer : (y : RawArm-F ((x : RawStatement) × Same x) ((a : RawArm) × ArmSame a)) → ArmSame (roll-RawArm (arm_shape y))
  arm_layer y scope =
      ap (λ (t : Scoped Q). t.after scope) (fold-roll-RawArm (Scoped R) (Scoped Q) said_step said_arm_step (arm_shape y))
      ∙ all_same y.body scope
      ∙ sym (ap (λ (t : Scoped ArmText). t.after scope) (fold-roll-RawArm (Scoped (Stand → Phrases)) (Scoped ArmText) (scoped_step raw) scoped_arm (arm_shape y)))

  pub statement_after : (x : RawStatement) → Same x
  statement_after = ind-RawStatement Same ArmSame (λ x y is. subst (λ z. Same (roll-RawStatement z)) is (statement_layer y)) (λ x y is. subst (λ z. ArmSame (roll-RawArm z)) is (arm_layer y))

  -- ---- lists, and parts that may be missing

  pub statements_after : (xs : List RawStatement) (scope : Scope) → after_all (map said xs) scope ≡ after_all (map (scoped raw) xs) scope
  statements_after [] scope = refl
  statements_after (x ∷ xs) scope = ap (after_all (map said xs)) (statement_after x scope) ∙ statements_after xs ((scoped raw x).after scope)

  pub block_scope_after : (xs : List RawStatement) (scope : Scope) → after_block (map said xs) scope ≡ after_block (map (scoped raw) xs) scope
  block_scope_after xs scope = ap (closed scope) (statements_after xs (opened scope))

  pub part_scope_after : (x : Option RawStatement) (scope : Scope) → after_part (option_map said x) scope ≡ after_part (option_map (scoped raw) x) scope
  part_scope_after None scope = refl
  part_scope_after (Some x) scope = statement_after x scope
