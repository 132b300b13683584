-- The phrases of a text agree with those of what the layout keeps of it.
use Rattle.std.proofs.Common.{◌≡◌, ℕ, ◌+◌, ◌&&◌, List, [], ◌∷◌, ◌++◌, map, Bool, true, Option, Some, None, refl, sym, ap, ap₂, subst, ◌∙◌}
use Rattle.std.proofs.lemmas.Bool.{and_parts}
use Rattle.std.specs.List.{AllZip}
use Rattle.c_language.specs.Lists.{all_true}
use Rattle.c_language.specs.TypeGrammar.{is_written}
use Rattle.c_tree.specs.declared.raw.expr.RawExpr.{RawExpr}
use Rattle.c_tree.specs.declared.raw.expr.RawVar.{RawVar}
use Rattle.c_tree.specs.declared.raw.program.RawInit.{RawInit}
use Rattle.c_tree.specs.declared.raw.program.RawInit.TheVariants as init
use Rattle.c_tree.specs.declared.raw.program.RawProgram.{RawProgram}
use Rattle.c_tree.specs.declared.raw.statement.RawLabel.{RawLabel}
use Rattle.c_tree.specs.declared.raw.statement.RawTarget.{RawTarget}
use Rattle.c_tree.specs.declared.raw.statement.RawTarget.TheVariants as target
use Rattle.c_tree.specs.declared.raw.statement.RawStatement.{RawStatement, roll-RawStatement, map-RawStatement, fold-roll-RawStatement}
use Rattle.c_tree.specs.declared.raw.statement.RawStatement.TheOpen.{RawStatement-F, RawArm-F}
use Rattle.c_tree.specs.declared.raw.statement.RawStatement.TheVariants as s
use Rattle.c_tree.specs.declared.raw.statement.RawArm.{RawArm, roll-RawArm, map-RawArm, fold-roll-RawArm}
use Rattle.c_tree.proofs.RawTrees.{StatementParts, statement_layer, ArmParts, arm_layer, of_every_statement, of_every_arm}
use Rattle.c_language.specs.Words.{Bytes}
use Rattle.c_language.specs.DeclaredTypes.{item_count}
use Rattle.c_language.specs.Scopes.{Scope, Scoped, Meaning, with_entry, with_variable, with_target, opened, closed, numbered, begun, in_order, after_all, after_block, part_gives, after_part, scope_of_test, scope_of_body}
use Rattle.c_language.specs.Phrases.{Stand, InBlock, InArm, InFor, Part, Phrase, Phrases, phrase, Tests, Switches, declaration, begun_phrases, target_phrases, joined_at, block_phrases, at_stand, ArmText, labels_of, phrases_of_arms, scoped_step, scoped_arm, scoped, scoped_of_arm}
use Rattle.c_language.specs.declared.expr_type.ExprType.{ExprType}
use Rattle.c_text_layout.specs.Settled.{settled_var, settled_step, settled_arm_step, settled}
use Rattle.c_text_layout.proofs.RawStatementLemmas.{settled_arm}
use Rattle.c_text_layout.specs.Declarations.{declares_step, arm_declares, declarations_pass}
use Rattle.c_text_layout.proofs.DeclarationLemmas.{arm_passes}
use Rattle.c_print_laws.proofs.Alike.{pairwise_append}
use Rattle.c_print_laws.proofs.Resembling.{Resembles}
use Rattle.c_print_laws.proofs.RuleTransfer.{VarsAgree, PartsAgree, vars_same}
use Rattle.c_print_laws.proofs.Settling.{IsCounted, settled_var_agrees}

-- ---- what the layout keeps, layer by layer

abbrev pub zero_line : {S A : Type 0} → RawStatement-F S A → RawStatement-F S A
zero_line (RawStatement-F.Declare l v i) = RawStatement-F.Declare 0 (settled_var (item_count i) v) i
zero_line (RawStatement-F.Assign l a op b) = RawStatement-F.Assign 0 a op b
zero_line (RawStatement-F.Bump l a up before) = RawStatement-F.Bump 0 a up before
zero_line (RawStatement-F.Call l to f args) = RawStatement-F.Call 0 to f args
zero_line (RawStatement-F.Heap l to cast n) = RawStatement-F.Heap 0 to cast n
zero_line (RawStatement-F.If l a body other) = RawStatement-F.If 0 a body other
zero_line (RawStatement-F.While l a b) = RawStatement-F.While 0 a b
zero_line (RawStatement-F.Do l a b) = RawStatement-F.Do 0 a b
zero_line (RawStatement-F.For l i a step b) = RawStatement-F.For 0 i a step b
zero_line (RawStatement-F.Switch l a arms) = RawStatement-F.Switch 0 a arms
zero_line (RawStatement-F.Block l b) = RawStatement-F.Block 0 b
zero_line (RawStatement-F.Return l a) = RawStatement-F.Return 0 a

settled_rolls : (y : RawStatement-F RawStatement RawArm) → settled_step y ≡ roll-RawStatement (zero_line y)
settled_rolls (RawStatement-F.Declare l v i) = sym (s.rolls-Declare 0 (settled_var (item_count i) v) i)
settled_rolls (RawStatement-F.Assign l a op b) = sym (s.rolls-Assign 0 a op b)
settled_rolls (RawStatement-F.Bump l a up before) = sym (s.rolls-Bump 0 a up before)
settled_rolls (RawStatement-F.Call l to f args) = sym (s.rolls-Call 0 to f args)
settled_rolls (RawStatement-F.Heap l to cast n) = sym (s.rolls-Heap 0 to cast n)
settled_rolls (RawStatement-F.If l a body other) = sym (s.rolls-If 0 a body other)
settled_rolls (RawStatement-F.While l a b) = sym (s.rolls-While 0 a b)
settled_rolls (RawStatement-F.Do l a b) = sym (s.rolls-Do 0 a b)
settled_rolls (RawStatement-F.For l i a step b) = sym (s.rolls-For 0 i a step b)
settled_rolls (RawStatement-F.Switch l a arms) = sym (s.rolls-Switch 0 a arms)
settled_rolls (RawStatement-F.Block l b) = sym (s.rolls-Block 0 b)
settled_rolls (RawStatement-F.Return l a) = sym (s.rolls-Return 0 a)

abbrev pub kept_layer : RawStatement-F RawStatement RawArm → RawStatement-F RawStatement RawArm
kept_layer y = zero_line (map-RawStatement RawStatement RawArm RawStatement RawArm settled settled_arm y)

pub settled_layer : (y : RawStatement-F RawStatement RawArm) → settled (roll-RawStatement y) ≡ roll-RawStatement (kept_layer y)
settled_layer y = fold-roll-RawStatement RawStatement RawArm settled_step settled_arm_step y ∙ settled_rolls (map-RawStatement RawStatement RawArm RawStatement RawArm settled settled_arm y)

pub settled_arm_layer : (y : RawArm-F RawStatement RawArm) → settled_arm (roll-RawArm y) ≡ roll-RawArm (map-RawArm RawStatement RawArm RawStatement RawArm settled settled_arm y)
settled_arm_layer y = fold-roll-RawArm RawStatement RawArm settled_step settled_arm_step y

-- a list of initialisers or a written length gives each length of a declaration
abbrev pub Fine : (RawVar → RawInit → Bool) → Type 0
Fine test = (v : RawVar) (i : RawInit) → test v i ≡ true → IsCounted (item_count i) (is_written v.shape)

module _ (raw other : RawProgram) (like : Resembles raw other) (test : RawVar → RawInit → Bool) (fine : Fine test) where
  pub record PhraseAgrees (a b : Phrase) : Type 0 where
    pub scope : a.scope ≡ b.scope
    pub part : PartsAgree raw other a.part b.part

  abbrev pub PhrasesAgree : Phrases → Phrases → Type 0
  PhrasesAgree = AllZip PhraseAgrees

  pub agree_append : (ps qs rs ss : Phrases) → PhrasesAgree ps qs → PhrasesAgree rs ss → PhrasesAgree (ps ++ rs) (qs ++ ss)
  agree_append ps qs rs ss h k = pairwise_append PhraseAgrees ps qs rs ss h k

  pub same_phrase : (l m : ℕ) (scope next : Scope) (part : Part) → scope ≡ next → PhraseAgrees (phrase l scope part) (phrase m next part)
  same_phrase l m scope next part h = record { scope = h; part = PartsAgree.same }

  -- two parts of a text give phrases that agree, and the same scope after them
  pub record Agrees {R Q : Type 0} (a : Scoped R) (b : Scoped Q) (ps qs : Scope → Stand → Phrases) : Type 0 where
    pub after : (scope : Scope) → a.after scope ≡ b.after scope
    pub phrases : (scope : Scope) (stand : Stand) → PhrasesAgree (ps scope stand) (qs scope stand)

  abbrev pub StatementAgrees : RawStatement → Type 0
  StatementAgrees x = declarations_pass test x ≡ true → Agrees (scoped raw x) (scoped other (settled x)) (scoped raw x).gives (scoped other (settled x)).gives

  pub record ArmAgrees (a b : Scoped ArmText) : Type 0 where
    pub after : (scope : Scope) → a.after scope ≡ b.after scope
    pub phrases : (scope : Scope) → PhrasesAgree (a.gives scope).phrases (b.gives scope).phrases
    pub labels : (scope next : Scope) → (a.gives scope).labels ≡ (b.gives next).labels

  abbrev pub IsArmAgreed : RawArm → Type 0
  IsArmAgreed x = arm_passes test x ≡ true → ArmAgrees (scoped_of_arm raw x) (scoped_of_arm other (settled_arm x))

  abbrev Statements : Type 0
  Statements = List ((x : RawStatement) × StatementAgrees x)

  abbrev bare : Statements → List RawStatement
  bare = map (λ (x : (y : RawStatement) × StatementAgrees y). x.0)

  abbrev Arms : Type 0
  Arms = List ((x : RawArm) × IsArmAgreed x)

  abbrev bare_arms : Arms → List RawArm
  bare_arms = map (λ (x : (y : RawArm) × IsArmAgreed y). x.0)

  -- ---- declarations

  pub variable_same : (scope : Scope) (v w : RawVar) (i : RawInit) → VarsAgree raw other i v w → with_variable raw v i scope ≡ with_variable other w i scope
  variable_same scope v w i h =
      ap₂ (λ (name : Bytes) (t : Option ExprType). with_entry name (Meaning.Variable scope.variables t) (record scope { variables = scope.variables + 1 })) h.name h.type

  begun_agree : (l m : ℕ) (scope next : Scope) (stand : Stand) (v w : RawVar) (i : RawInit) → scope ≡ next → VarsAgree raw other i v w → PhrasesAgree (begun_phrases l scope stand v i) (begun_phrases m next stand w i)
  begun_agree l m scope next stand v w init.None h k = tt
  begun_agree l m scope next stand v w (init.One a) h k = (record { scope = h; part = PartsAgree.begins k }, tt)
  begun_agree l m scope next stand v w (init.Items all) h k = (record { scope = h; part = PartsAgree.begins k }, tt)

  pub declaration_agrees : (l m : ℕ) (scope : Scope) (stand : Stand) (v w : RawVar) (i : RawInit) → VarsAgree raw other i v w → PhrasesAgree (declaration raw l scope stand v i) (declaration other m scope stand w i)
  declaration_agrees l m scope stand v w i k = (record { scope = refl; part = PartsAgree.declares k }, begun_agree l m (with_variable raw v i scope) (with_variable other w i scope) stand v w i (variable_same scope v w i k) k)

  pub target_same : (to : RawTarget) (scope : Scope) → with_target raw to scope ≡ with_target other to scope
  target_same target.None scope = refl
  target_same (target.Place a) scope = refl
  target_same (target.Declared v) scope = variable_same scope v v init.None (vars_same raw other like init.None v)

  target_agrees : (l m : ℕ) (scope : Scope) (stand : Stand) (to : RawTarget) → PhrasesAgree (target_phrases raw l scope stand to) (target_phrases other m scope stand to)
  target_agrees l m scope stand target.None = tt
  target_agrees l m scope stand (target.Place a) = tt
  target_agrees l m scope stand (target.Declared v) = declaration_agrees l m scope stand v v init.None (vars_same raw other like init.None v)

  -- ---- lists of statements

  abbrev first_list : Statements → List (Scoped (Stand → Phrases))
  first_list xs = map (scoped raw) (bare xs)

  abbrev second_list : Statements → List (Scoped (Stand → Phrases))
  second_list xs = map (scoped other) (map settled (bare xs))

  all_after : (xs : Statements) → all_true (map (declarations_pass test) (bare xs)) ≡ true → (scope : Scope) → after_all (first_list xs) scope ≡ after_all (second_list xs) scope
  all_after [] h scope = refl
  all_after (x ∷ xs) h scope =
      let p = and_parts (declarations_pass test x.0) _ h in
      all_after xs p.1 ((scoped raw x.0).after scope) ∙ ap (after_all (second_list xs)) ((x.1 p.0).after scope)

  all_agree_at : (xs : Statements) → all_true (map (declarations_pass test) (bare xs)) ≡ true → (scope : Scope) (stand : Stand)
      → PhrasesAgree (joined_at stand (in_order (first_list xs) scope)) (joined_at stand (in_order (second_list xs) scope))
  all_agree_at [] h scope stand = tt
  all_agree_at (x ∷ xs) h scope stand =
      let p = and_parts (declarations_pass test x.0) _ h in
      let a = x.1 p.0 in
      agree_append ((scoped raw x.0).gives scope stand) ((scoped other (settled x.0)).gives scope stand) _ _ (a.phrases scope stand)
      (subst (λ (z : Scope). PhrasesAgree (joined_at stand (in_order (first_list xs) ((scoped raw x.0).after scope))) (joined_at stand (in_order (second_list xs) z))) (a.after scope)
      (all_agree_at xs p.1 ((scoped raw x.0).after scope) stand))

  block_after : (xs : Statements) → all_true (map (declarations_pass test) (bare xs)) ≡ true → (scope : Scope) → after_block (first_list xs) scope ≡ after_block (second_list xs) scope
  block_after xs h scope = ap (closed scope) (all_after xs h (opened scope))

  block_agrees : (xs : Statements) → all_true (map (declarations_pass test) (bare xs)) ≡ true → (scope next : Scope) → scope ≡ next → PhrasesAgree (block_phrases (first_list xs) scope) (block_phrases (second_list xs) next)
  block_agrees xs h scope next is = subst (λ (z : Scope). PhrasesAgree (block_phrases (first_list xs) scope) (block_phrases (second_list xs) z)) is (all_agree_at xs h (opened scope) InBlock)

  -- ---- arms

  arms_after : (xs : Arms) → all_true (map (arm_passes test) (bare_arms xs)) ≡ true → (scope : Scope)
      → after_all (map (scoped_of_arm raw) (bare_arms xs)) scope ≡ after_all (map (scoped_of_arm other) (map settled_arm (bare_arms xs))) scope
  arms_after [] h scope = refl
  arms_after (x ∷ xs) h scope =
      let p = and_parts (arm_passes test x.0) _ h in
      arms_after xs p.1 ((scoped_of_arm raw x.0).after scope) ∙ ap (after_all (map (scoped_of_arm other) (map settled_arm (bare_arms xs)))) ((x.1 p.0).after scope)

  arms_agree : (xs : Arms) → all_true (map (arm_passes test) (bare_arms xs)) ≡ true → (scope : Scope)
      → PhrasesAgree (phrases_of_arms (in_order (map (scoped_of_arm raw) (bare_arms xs)) scope)) (phrases_of_arms (in_order (map (scoped_of_arm other) (map settled_arm (bare_arms xs))) scope))
  arms_agree [] h scope = tt
  arms_agree (x ∷ xs) h scope =
      let p = and_parts (arm_passes test x.0) _ h in
      let a = x.1 p.0 in
      agree_append ((scoped_of_arm raw x.0).gives scope).phrases ((scoped_of_arm other (settled_arm x.0)).gives scope).phrases _ _ (a.phrases scope)
      (subst (λ (z : Scope). PhrasesAgree (phrases_of_arms (in_order (map (scoped_of_arm raw) (bare_arms xs)) ((scoped_of_arm raw x.0).after scope))) (phrases_of_arms (in_order (map (scoped_of_arm other) (map settled_arm (bare_arms xs))) z))) (a.after scope)
      (arms_agree xs p.1 ((scoped_of_arm raw x.0).after scope)))

  labels_same : (xs : Arms) → all_true (map (arm_passes test) (bare_arms xs)) ≡ true → (scope next : Scope)
      → labels_of (in_order (map (scoped_of_arm raw) (bare_arms xs)) scope) ≡ labels_of (in_order (map (scoped_of_arm other) (map settled_arm (bare_arms xs))) next)
  labels_same [] h scope next = refl
  labels_same (x ∷ xs) h scope next =
      let p = and_parts (arm_passes test x.0) _ h in
      let a = x.1 p.0 in
      ap₂ (λ (ls ms : List RawLabel). ls ++ ms) (a.labels scope next) (labels_same xs p.1 ((scoped_of_arm raw x.0).after scope) ((scoped_of_arm other (settled_arm x.0)).after next))

  -- ---- parts of a for

  abbrev Part_of : Type 0
  Part_of = Option ((x : RawStatement) × StatementAgrees x)

  abbrev in_first : Part_of → Option (Scoped (Stand → Phrases))
  in_first None = None
  in_first (Some x) = Some (scoped raw x.0)

  abbrev in_second : Part_of → Option (Scoped (Stand → Phrases))
  in_second None = None
  in_second (Some x) = Some (scoped other (settled x.0))

  abbrev part_passes : Part_of → Bool
  part_passes None = true
  part_passes (Some x) = declarations_pass test x.0

  part_after : (x : Part_of) → part_passes x ≡ true → (scope : Scope) → after_part (in_first x) scope ≡ after_part (in_second x) scope
  part_after None h scope = refl
  part_after (Some x) h scope = (x.1 h).after scope

  part_agrees : (x : Part_of) → part_passes x ≡ true → (scope next : Scope) (stand : Stand) → scope ≡ next → PhrasesAgree (at_stand stand (part_gives (in_first x) scope)) (at_stand stand (part_gives (in_second x) next))
  part_agrees None h scope next stand is = tt
  part_agrees (Some x) h scope next stand is =
      subst (λ (z : Scope). PhrasesAgree ((scoped raw x.0).gives scope stand) ((scoped other (settled x.0)).gives z stand)) is ((x.1 h).phrases scope stand)

  for_agrees : (l : ℕ) (i : Part_of) (a : RawExpr) (step : Part_of) (b : Statements) → (part_passes i && (part_passes step && all_true (map (declarations_pass test) (bare b)))) ≡ true
      → ((scope : Scope) → closed scope (after_block (first_list b) (scope_of_body (in_first i) (in_first step) scope)) ≡ closed scope (after_block (second_list b) (scope_of_body (in_second i) (in_second step) scope)))
      × ((scope : Scope) → PhrasesAgree
      (at_stand InFor (part_gives (in_first i) (opened (numbered scope))) ++ (phrase l (scope_of_test (in_first i) scope) (Tests a) ∷ (at_stand InBlock (part_gives (in_first step) (scope_of_test (in_first i) scope)) ++ block_phrases (first_list b) (scope_of_body (in_first i) (in_first step) scope))))
      (at_stand InFor (part_gives (in_second i) (opened (numbered scope))) ++ (phrase 0 (scope_of_test (in_second i) scope) (Tests a) ∷ (at_stand InBlock (part_gives (in_second step) (scope_of_test (in_second i) scope)) ++ block_phrases (second_list b) (scope_of_body (in_second i) (in_second step) scope)))))
  for_agrees l i a step b h =
      let p = and_parts (part_passes i) _ h in
      let q = and_parts (part_passes step) _ p.1 in
      let first = λ (scope : Scope). part_after i p.0 (opened (numbered scope)) in
      let second : (scope : Scope) → scope_of_body (in_first i) (in_first step) scope ≡ scope_of_body (in_second i) (in_second step) scope
      = λ scope. part_after step q.0 (after_part (in_first i) (opened (numbered scope))) ∙ ap (after_part (in_second step)) (first scope) in (
        (λ scope. ap (closed scope) (block_after b q.1 (scope_of_body (in_first i) (in_first step) scope) ∙ ap (after_block (second_list b)) (second scope))),
        (λ scope. agree_append (at_stand InFor (part_gives (in_first i) (opened (numbered scope)))) (at_stand InFor (part_gives (in_second i) (opened (numbered scope)))) _ _ (part_agrees i p.0 (opened (numbered scope)) (opened (numbered scope)) InFor refl) (
          same_phrase l 0 (scope_of_test (in_first i) scope) (scope_of_test (in_second i) scope) (Tests a) (first scope),
          agree_append (at_stand InBlock (part_gives (in_first step) (scope_of_test (in_first i) scope))) (at_stand InBlock (part_gives (in_second step) (scope_of_test (in_second i) scope))) _ _
              (part_agrees step q.0 (scope_of_test (in_first i) scope) (scope_of_test (in_second i) scope) InBlock (first scope))
              (block_agrees b q.1 (scope_of_body (in_first i) (in_first step) scope) (scope_of_body (in_second i) (in_second step) scope) (second scope)),
        )),
      )

  -- ---- each form

  abbrev shape : StatementParts StatementAgrees IsArmAgreed → RawStatement-F RawStatement RawArm
  shape = statement_layer StatementAgrees IsArmAgreed

  abbrev first_step : RawStatement-F RawStatement RawArm → Scoped (Stand → Phrases)
  first_step y = scoped_step raw (map-RawStatement RawStatement RawArm (Scoped (Stand → Phrases)) (Scoped ArmText) (scoped raw) (scoped_of_arm raw) y)

  abbrev second_step : RawStatement-F RawStatement RawArm → Scoped (Stand → Phrases)
  second_step y = scoped_step other (map-RawStatement RawStatement RawArm (Scoped (Stand → Phrases)) (Scoped ArmText) (scoped other) (scoped_of_arm other) (kept_layer y))

  abbrev passes_step : RawStatement-F RawStatement RawArm → Bool
  passes_step y = declares_step test (map-RawStatement RawStatement RawArm Bool Bool (declarations_pass test) (arm_passes test) y)

  layer_agrees : (y : StatementParts StatementAgrees IsArmAgreed) → passes_step (shape y) ≡ true → Agrees (first_step (shape y)) (second_step (shape y)) (first_step (shape y)).gives (second_step (shape y)).gives
  layer_agrees (RawStatement-F.Declare l v i) h =
      let k = settled_var_agrees raw other like i v (fine v i h) in
      record { after = λ scope. ap (begun i) (variable_same scope v (settled_var (item_count i) v) i k); phrases = λ scope stand. declaration_agrees l 0 scope stand v (settled_var (item_count i) v) i k }
  layer_agrees (RawStatement-F.Assign l a op b) h = record { after = λ scope. refl; phrases = λ scope stand. (same_phrase l 0 scope scope _ refl, tt) }
  layer_agrees (RawStatement-F.Bump l a up before) h = record { after = λ scope. refl; phrases = λ scope stand. (same_phrase l 0 scope scope _ refl, tt) }
  layer_agrees (RawStatement-F.Call l to f args) h = record {
    after = λ scope. ap numbered (target_same to scope);
    phrases = λ scope stand. agree_append (target_phrases raw l scope stand to) (target_phrases other 0 scope stand to) _ _ (target_agrees l 0 scope stand to) (same_phrase l 0 (with_target raw to scope) (with_target other to scope) _ (target_same to scope), tt);
  }
  layer_agrees (RawStatement-F.Heap l to cast n) h = record {
    after = λ scope. ap numbered (target_same to scope);
    phrases = λ scope stand. agree_append (target_phrases raw l scope stand to) (target_phrases other 0 scope stand to) _ _ (target_agrees l 0 scope stand to) (same_phrase l 0 (with_target raw to scope) (with_target other to scope) _ (target_same to scope), tt);
  }
  layer_agrees (RawStatement-F.If l a body next) h =
      let p = and_parts (all_true (map (declarations_pass test) (bare body))) (all_true (map (declarations_pass test) (bare next))) h in
      record {
        after = λ scope. block_after next p.1 (after_block (first_list body) (numbered scope)) ∙ ap (after_block (second_list next)) (block_after body p.0 (numbered scope));
        phrases = λ scope stand. (
          same_phrase l 0 scope scope (Tests a) refl,
          agree_append (block_phrases (first_list body) (numbered scope)) (block_phrases (second_list body) (numbered scope)) _ _ (block_agrees body p.0 (numbered scope) (numbered scope) refl)
              (block_agrees next p.1 (after_block (first_list body) (numbered scope)) (after_block (second_list body) (numbered scope)) (block_after body p.0 (numbered scope))),
        );
      }
  layer_agrees (RawStatement-F.While l a b) h = record { after = λ scope. block_after b h (numbered scope); phrases = λ scope stand. (same_phrase l 0 scope scope (Tests a) refl, block_agrees b h (numbered scope) (numbered scope) refl) }
  layer_agrees (RawStatement-F.Do l a b) h = record { after = λ scope. block_after b h (numbered scope); phrases = λ scope stand. (same_phrase l 0 scope scope (Tests a) refl, block_agrees b h (numbered scope) (numbered scope) refl) }
  layer_agrees (RawStatement-F.For l None a None b) h = let k = for_agrees l None a None b h in record { after = k.0; phrases = λ scope stand. k.1 scope }
  layer_agrees (RawStatement-F.For l None a (Some x) b) h = let k = for_agrees l None a (Some x) b h in record { after = k.0; phrases = λ scope stand. k.1 scope }
  layer_agrees (RawStatement-F.For l (Some i) a None b) h = let k = for_agrees l (Some i) a None b h in record { after = k.0; phrases = λ scope stand. k.1 scope }
  layer_agrees (RawStatement-F.For l (Some i) a (Some x) b) h = let k = for_agrees l (Some i) a (Some x) b h in record { after = k.0; phrases = λ scope stand. k.1 scope }
  layer_agrees (RawStatement-F.Switch l a arms) h = record {
    after = λ scope. ap (closed (numbered scope)) (arms_after arms h (opened (numbered scope)));
    phrases = λ scope stand. (
      record { scope = refl; part = subst (λ (ls : List RawLabel). PartsAgree raw other (Switches a (labels_of (in_order (map (scoped_of_arm raw) (bare_arms arms)) (opened (numbered scope))))) (Switches a ls)) (labels_same arms h (opened (numbered scope)) (opened (numbered scope))) PartsAgree.same },
      arms_agree arms h (opened (numbered scope)),
    );
  }
  layer_agrees (RawStatement-F.Block l b) h = record { after = λ scope. block_after b h scope; phrases = λ scope stand. block_agrees b h scope scope refl }
  layer_agrees (RawStatement-F.Return l a) h = record { after = λ scope. refl; phrases = λ scope stand. (same_phrase l 0 scope scope _ refl, tt) }

  statement_rolled : (y : StatementParts StatementAgrees IsArmAgreed) → StatementAgrees (roll-RawStatement (shape y))
  statement_rolled y h =
      let one = sym (fold-roll-RawStatement (Scoped (Stand → Phrases)) (Scoped ArmText) (scoped_step raw) scoped_arm (shape y)) in
      let two = sym (ap (scoped other) (settled_layer (shape y)) ∙ fold-roll-RawStatement (Scoped (Stand → Phrases)) (Scoped ArmText) (scoped_step other) scoped_arm (kept_layer (shape y))) in
      subst (λ (b : Scoped (Stand → Phrases)). Agrees (scoped raw (roll-RawStatement (shape y))) b (scoped raw (roll-RawStatement (shape y))).gives b.gives) two
      (subst (λ (a : Scoped (Stand → Phrases)). Agrees a (second_step (shape y)) a.gives (second_step (shape y)).gives) one
      (layer_agrees y (sym (fold-roll-RawStatement Bool Bool (declares_step test) arm_declares (shape y)) ∙ h)))

  abbrev arm_shape : ArmParts StatementAgrees IsArmAgreed → RawArm-F RawStatement RawArm
  arm_shape = arm_layer StatementAgrees IsArmAgreed

  arm_rolled : (y : ArmParts StatementAgrees IsArmAgreed) → IsArmAgreed (roll-RawArm (arm_shape y))
  arm_rolled y h =
      let one = sym (fold-roll-RawArm (Scoped (Stand → Phrases)) (Scoped ArmText) (scoped_step raw) scoped_arm (arm_shape y)) in
      let next = map-RawArm RawStatement RawArm RawStatement RawArm settled settled_arm (arm_shape y) in
      let two = sym (ap (scoped_of_arm other) (settled_arm_layer (arm_shape y)) ∙ fold-roll-RawArm (Scoped (Stand → Phrases)) (Scoped ArmText) (scoped_step other) scoped_arm next) in
      let k = sym (fold-roll-RawArm Bool Bool (declares_step test) arm_declares (arm_shape y)) ∙ h in
      subst (λ (b : Scoped ArmText). ArmAgrees (scoped_of_arm raw (roll-RawArm (arm_shape y))) b) two
      (subst (λ (a : Scoped ArmText). ArmAgrees a (scoped_arm (map-RawArm RawStatement RawArm (Scoped (Stand → Phrases)) (Scoped ArmText) (scoped other) (scoped_of_arm other) next))) one
      (record { after = λ scope. all_after y.body k scope; phrases = λ scope. all_agree_at y.body k scope InArm; labels = λ scope next. refl }))

  -- a statement agrees with what the layout keeps of it
  pub statement_agrees : (x : RawStatement) → StatementAgrees x
  statement_agrees = of_every_statement StatementAgrees IsArmAgreed statement_rolled arm_rolled

  -- the same for the arms of switches
  pub arm_agrees_kept : (x : RawArm) → IsArmAgreed x
  arm_agrees_kept = of_every_arm StatementAgrees IsArmAgreed statement_rolled arm_rolled
