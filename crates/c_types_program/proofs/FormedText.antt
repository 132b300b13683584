-- The phrases of a tree that is syntax have the forms that tokens give them; those that keep the rules fit.
use Rattle.std.proofs.Common.{◌≡◌, ℕ, List, [], ◌∷◌, ◌++◌, map, true, Option, Some, None, refl, sym, subst}
use Rattle.std.specs.List.{list_all}
use Rattle.std.proofs.lemmas.Bool.{and_parts}
use Rattle.c_language.proofs.PhraseLists.{phrases_kept}
use Rattle.c_tree.specs.declared.raw.expr.RawExpr.{RawExpr}
use Rattle.c_tree.specs.declared.raw.expr.RawVar.{RawVar}
use Rattle.c_tree.specs.declared.raw.program.RawHead.{RawHead}
use Rattle.c_tree.specs.declared.raw.program.RawInit.{RawInit}
use Rattle.c_tree.specs.declared.raw.program.RawInit.TheVariants as init
use Rattle.c_tree.specs.declared.raw.program.RawItem.{RawItem}
use Rattle.c_tree.specs.declared.raw.program.RawItem.TheVariants.{Include, Tag, Struct, Global, Prototype, Define}
use Rattle.c_tree.specs.declared.raw.program.RawMember.{RawMember}
use Rattle.c_tree.specs.declared.raw.program.RawParam.{RawParam}
use Rattle.c_tree.specs.declared.raw.program.RawProgram.{RawProgram}
use Rattle.c_tree.specs.declared.raw.statement.RawAmount.{RawAmount}
use Rattle.c_tree.specs.declared.raw.statement.RawArg.{RawArg}
use Rattle.c_tree.specs.declared.raw.statement.RawArm.{RawArm, roll-RawArm}
use Rattle.c_tree.specs.declared.raw.statement.RawLabel.{RawLabel}
use Rattle.c_tree.specs.declared.raw.statement.RawStatement.{RawStatement, roll-RawStatement}
use Rattle.c_tree.specs.declared.raw.statement.RawStatement.TheOpen.{RawStatement-F, RawArm-F}
use Rattle.text_syntax.proofs.Folds.{standing, standing_arm, AllAre, ArmsAre, PartIs, PartsAre, body_gives}
use Rattle.text_syntax.proofs.Items.{text_is_syntax}
use Rattle.c_tree.specs.declared.raw.statement.RawStatement.TheVariants as s
use Rattle.c_tree.specs.declared.raw.statement.RawTarget.{RawTarget}
use Rattle.c_tree.specs.declared.raw.statement.RawTarget.TheVariants as target
use Rattle.c_tree.specs.declared.raw.statement.RawTypeName.{RawTypeName}
use Rattle.c_language.specs.ItemGrammar.{are_named}
use Rattle.c_language.specs.Syntax.{Position, stands_step, arm_step, is_body, is_head, is_item}
use Rattle.c_language.specs.Phrases.{Stand, InFile, InHead, InBlock, InArm, InFor, EndsFunction, Calls, Allocates, Tests, Phrases, phrase, ArmText, begun_phrases, declaration, target_phrases, joined_at, block_phrases, at_stand, phrases_of_arms, scoped, scoped_of_arm, body_phrases, member_phrases, taken_phrases, parameter_phrases, head_phrases, item_phrases, items_phrases, after_item, phrases}
use Rattle.c_language.specs.Programs.{IsTree}
use Rattle.c_language.specs.Rules.{KeepsRules, AreKept}
use Rattle.c_language.specs.Scopes.{Scope, Scoped, opened, numbered, in_order, part_gives, after_block, with_parameter, with_variable, with_target, scope_of_parameters, scope_of_test, scope_of_body, entered, outset, parameter_of}
use Rattle.c_language.specs.StatementGrammar.{arm}
use Rattle.c_language.specs.Words.{Bytes}
use Rattle.c_language.proofs.ScopedForms.{scoped-Declare, scoped-Assign, scoped-Bump, scoped-Call, scoped-Heap, scoped-If, scoped-While, scoped-Do, scoped-Switch, scoped-Block, scoped-Return}
use Rattle.c_types_trees.specs.FitPhrases.{IsAllocation, IsFormed, AreFit}
use Rattle.c_types_trees.specs.KeptPhrases.{HasNoLengthIf}
use Rattle.c_types_program.proofs.SyntaxTrees.{is_allocation, head_plain}
use Rattle.c_types_program.proofs.StatementForms.{scoped_part, scoped-For, scoped-arm}

abbrev AreFormed : Phrases → Type 0
AreFormed [] = Unit {0}
AreFormed (p ∷ ps) = IsFormed p.part × AreFormed ps

formed_both : (ps qs : Phrases) → AreFormed ps → AreFormed qs → AreFormed (ps ++ qs)
formed_both [] qs h k = k
formed_both (p ∷ ps) qs h k = (h.0, formed_both ps qs h.1 k)

-- what keeps the rules and has its form fits
fit_from : (raw : RawProgram) (ps : Phrases) → AreKept raw ps → AreFormed ps → AreFit raw ps
fit_from raw [] h k = tt
fit_from raw (p ∷ ps) h k = (record { kept = h.0; formed = k.0 }, fit_from raw ps h.1 k.1)

-- what a statement gives is formed wherever it stands
abbrev GivesFormed : Scoped (Stand → Phrases) → Type 0
GivesFormed x = (scope : Scope) (stand : Stand) → AreFormed (x.gives scope stand)

abbrev GiveFormed : List (Scoped (Stand → Phrases)) → Type 0
GiveFormed [] = Unit {0}
GiveFormed (x ∷ xs) = GivesFormed x × GiveFormed xs

abbrev GivesFormedIf : Option (Scoped (Stand → Phrases)) → Type 0
GivesFormedIf None = Unit {0}
GivesFormedIf (Some x) = GivesFormed x

abbrev GivesFormedArm : Scoped ArmText → Type 0
GivesFormedArm a = (scope : Scope) → AreFormed (a.gives scope).phrases

abbrev GiveFormedArms : List (Scoped ArmText) → Type 0
GiveFormedArms [] = Unit {0}
GiveFormedArms (a ∷ arms) = GivesFormedArm a × GiveFormedArms arms

joined_formed : (xs : List (Scoped (Stand → Phrases))) → GiveFormed xs → (scope : Scope) (stand : Stand) → AreFormed (joined_at stand (in_order xs scope))
joined_formed [] h scope stand = tt
joined_formed (x ∷ xs) h scope stand = formed_both (x.gives scope stand) (joined_at stand (in_order xs (x.after scope))) (h.0 scope stand) (joined_formed xs h.1 (x.after scope) stand)

block_formed : (xs : List (Scoped (Stand → Phrases))) → GiveFormed xs → (scope : Scope) → AreFormed (block_phrases xs scope)
block_formed xs h scope = joined_formed xs h (opened scope) InBlock

arms_formed : (arms : List (Scoped ArmText)) → GiveFormedArms arms → (scope : Scope) → AreFormed (phrases_of_arms (in_order arms scope))
arms_formed [] h scope = tt
arms_formed (a ∷ arms) h scope = formed_both (a.gives scope).phrases (phrases_of_arms (in_order arms (a.after scope))) (h.0 scope) (arms_formed arms h.1 (a.after scope))

part_formed : (x : Option (Scoped (Stand → Phrases))) → GivesFormedIf x → (scope : Scope) (stand : Stand) → AreFormed (at_stand stand (part_gives x scope))
part_formed None h scope stand = tt
part_formed (Some x) h scope stand = h scope stand

begun_formed : (l : ℕ) (scope : Scope) (stand : Stand) (v : RawVar) (i : RawInit) → AreFormed (begun_phrases l scope stand v i)
begun_formed l scope stand v init.None = tt
begun_formed l scope stand v (init.One a) = (tt, tt)
begun_formed l scope stand v (init.Items es) = (tt, tt)

declaration_formed : (raw : RawProgram) (l : ℕ) (scope : Scope) (stand : Stand) (v : RawVar) (i : RawInit) → AreFormed (declaration raw l scope stand v i)
declaration_formed raw l scope stand v i = (tt, begun_formed l (with_variable raw v i scope) stand v i)

target_formed : (raw : RawProgram) (l : ℕ) (scope : Scope) (stand : Stand) (to : RawTarget) → AreFormed (target_phrases raw l scope stand to)
target_formed raw l scope stand target.None = tt
target_formed raw l scope stand (target.Place a) = tt
target_formed raw l scope stand (target.Declared v) = declaration_formed raw l scope stand v init.None

-- ---- statements by their forms

module _ (raw : RawProgram) where
  abbrev Formed : RawStatement → Type 0
  Formed a = GivesFormed (scoped raw a)

  abbrev AllFormed : List RawStatement → Type 0
  AllFormed all = GiveFormed (map (scoped raw) all)

  as_form : (a : RawStatement) (x : Scoped (Stand → Phrases)) → scoped raw a ≡ x → GivesFormed x → Formed a
  as_form a x is h = subst GivesFormed (sym is) h

  formed-Declare : (l : ℕ) (v : RawVar) (i : RawInit) → Formed (s.Declare l v i)
  formed-Declare l v i = as_form (s.Declare l v i) _ (scoped-Declare raw l v i) (λ scope stand. declaration_formed raw l scope stand v i)

  formed-Call : (l : ℕ) (to : RawTarget) (w : Bytes) (args : List RawArg) → Formed (s.Call l to w args)
  formed-Call l to w args =
      as_form (s.Call l to w args) _ (scoped-Call raw l to w args) (λ scope stand. formed_both (target_phrases raw l scope stand to) (phrase l (with_target raw to scope) (Calls stand to w args) ∷ []) (target_formed raw l scope stand to) (tt, tt))

  formed-Heap : (l : ℕ) (to : RawTarget) (cast : Option RawTypeName) (n : RawAmount) → IsAllocation to cast n → Formed (s.Heap l to cast n)
  formed-Heap l to cast n form =
      as_form (s.Heap l to cast n) _ (scoped-Heap raw l to cast n) (λ scope stand. formed_both (target_phrases raw l scope stand to) (phrase l (with_target raw to scope) (Allocates to cast n) ∷ []) (target_formed raw l scope stand to) (form, tt))

  formed-If : (l : ℕ) (e : RawExpr) (all other : List RawStatement) → AllFormed all → AllFormed other → Formed (s.If l e all other)
  formed-If l e all other h k =
      as_form (s.If l e all other) _ (scoped-If raw l e all other) (λ scope stand. (
        tt,
        formed_both (block_phrases (map (scoped raw) all) (numbered scope)) (block_phrases (map (scoped raw) other) (after_block (map (scoped raw) all) (numbered scope)))
            (block_formed (map (scoped raw) all) h (numbered scope)) (block_formed (map (scoped raw) other) k (after_block (map (scoped raw) all) (numbered scope))),
      ))

  formed-While : (l : ℕ) (e : RawExpr) (all : List RawStatement) → AllFormed all → Formed (s.While l e all)
  formed-While l e all h = as_form (s.While l e all) _ (scoped-While raw l e all) (λ scope stand. (tt, block_formed (map (scoped raw) all) h (numbered scope)))

  formed-Do : (l : ℕ) (e : RawExpr) (all : List RawStatement) → AllFormed all → Formed (s.Do l e all)
  formed-Do l e all h = as_form (s.Do l e all) _ (scoped-Do raw l e all) (λ scope stand. (tt, block_formed (map (scoped raw) all) h (numbered scope)))

  formed-Block : (l : ℕ) (all : List RawStatement) → AllFormed all → Formed (s.Block l all)
  formed-Block l all h = as_form (s.Block l all) _ (scoped-Block raw l all) (λ scope stand. block_formed (map (scoped raw) all) h scope)

  formed-For : (l : ℕ) (first : Option RawStatement) (e : RawExpr) (step : Option RawStatement) (all : List RawStatement)
      → GivesFormedIf (scoped_part raw first) → GivesFormedIf (scoped_part raw step) → AllFormed all → Formed (s.For l first e step all)
  formed-For l first e step all h k m =
      let i = scoped_part raw first in
      let n = scoped_part raw step in
      as_form (s.For l first e step all) _ (scoped-For raw l first e step all) (λ scope stand.
      formed_both (at_stand InFor (part_gives i (opened (numbered scope))))
      (phrase l (scope_of_test i scope) (Tests e) ∷ (at_stand InBlock (part_gives n (scope_of_test i scope)) ++ block_phrases (map (scoped raw) all) (scope_of_body i n scope))) (part_formed i h (opened (numbered scope)) InFor) (
        tt,
        formed_both (at_stand InBlock (part_gives n (scope_of_test i scope))) (block_phrases (map (scoped raw) all) (scope_of_body i n scope))
            (part_formed n k (scope_of_test i scope) InBlock) (block_formed (map (scoped raw) all) m (scope_of_body i n scope)),
      ))

  abbrev ArmsFormed : List RawArm → Type 0
  ArmsFormed arms = GiveFormedArms (map (scoped_of_arm raw) arms)

  formed-arm : (labels : List RawLabel) (body : List RawStatement) → AllFormed body → GivesFormedArm (scoped_of_arm raw (arm labels body))
  formed-arm labels body h = subst GivesFormedArm (sym (scoped-arm raw labels body)) (λ scope. joined_formed (map (scoped raw) body) h scope InArm)

  formed-Switch : (l : ℕ) (e : RawExpr) (arms : List RawArm) → ArmsFormed arms → Formed (s.Switch l e arms)
  formed-Switch l e arms h =
      as_form (s.Switch l e arms) _ (scoped-Switch raw l e arms) (λ scope stand. (tt, arms_formed (map (scoped_of_arm raw) arms) h (opened (numbered scope))))

  -- ---- along the tree

  list_of : (xs : List RawStatement) → AllAre Formed xs → AllFormed xs
  list_of [] h = tt
  list_of (x ∷ xs) h = (h.0, list_of xs h.1)

  abbrev FormedArm : RawArm → Type 0
  FormedArm a = GivesFormedArm (scoped_of_arm raw a)

  arms_of : (arms : List RawArm) → ArmsAre FormedArm arms → ArmsFormed arms
  arms_of [] h = tt
  arms_of (a ∷ arms) h = (h.0, arms_of arms h.1)

  part_of : (x : Option RawStatement) → PartIs Formed x → GivesFormedIf (scoped_part raw x)
  part_of None h = tt
  part_of (Some x) h = h

  form_formed : (y : RawStatement-F RawStatement RawArm) (p : Position) → true ≡ true → stands_step (standing y) p ≡ true → PartsAre Formed FormedArm y → Formed (roll-RawStatement y)
  form_formed (RawStatement-F.Declare l v i) p m h k = subst Formed (sym (s.rolls-Declare l v i)) (formed-Declare l v i)
  form_formed (RawStatement-F.Assign l a op b) p m h k = subst Formed (sym (s.rolls-Assign l a op b)) (as_form (s.Assign l a op b) _ (scoped-Assign raw l a op b) (λ scope stand. (tt, tt)))
  form_formed (RawStatement-F.Bump l a up before) p m h k = subst Formed (sym (s.rolls-Bump l a up before)) (as_form (s.Bump l a up before) _ (scoped-Bump raw l a up before) (λ scope stand. (tt, tt)))
  form_formed (RawStatement-F.Call l to w args) p m h k = subst Formed (sym (s.rolls-Call l to w args)) (formed-Call l to w args)
  form_formed (RawStatement-F.Heap l to cast n) p m h k = subst Formed (sym (s.rolls-Heap l to cast n)) (formed-Heap l to cast n (is_allocation p to cast n h))
  form_formed (RawStatement-F.If l a b c) p m h k = subst Formed (sym (s.rolls-If l a b c)) (formed-If l a b c (list_of b k.0) (list_of c k.1))
  form_formed (RawStatement-F.While l a b) p m h k = subst Formed (sym (s.rolls-While l a b)) (formed-While l a b (list_of b k))
  form_formed (RawStatement-F.Do l a b) p m h k = subst Formed (sym (s.rolls-Do l a b)) (formed-Do l a b (list_of b k))
  form_formed (RawStatement-F.For l i a x b) p m h k = subst Formed (sym (s.rolls-For l i a x b)) (formed-For l i a x b (part_of i k.0) (part_of x k.1) (list_of b k.2))
  form_formed (RawStatement-F.Switch l a arms) p m h k = subst Formed (sym (s.rolls-Switch l a arms)) (formed-Switch l a arms (arms_of arms k))
  form_formed (RawStatement-F.Block l b) p m h k = subst Formed (sym (s.rolls-Block l b)) (formed-Block l b (list_of b k))
  form_formed (RawStatement-F.Return l a) p m h k = subst Formed (sym (s.rolls-Return l a)) (as_form (s.Return l a) _ (scoped-Return raw l a) (λ scope stand. (tt, tt)))

  arm_form_formed : (y : RawArm-F RawStatement RawArm) → arm_step (standing_arm y) ≡ true → AllAre Formed y.body → FormedArm (roll-RawArm y)
  arm_form_formed y h k = formed-arm y.labels y.body (list_of y.body k)

  formed_body : (body : List RawStatement) → is_body body ≡ true → AllFormed body
  formed_body body h = list_of body (body_gives Formed FormedArm (λ p. true) refl refl refl form_formed arm_form_formed refl body h)

  -- ---- items

  members_formed : (scope : Scope) (before ms : List RawMember) → AreFormed (member_phrases scope before ms)
  members_formed scope before [] = tt
  members_formed scope before (m ∷ ms) = (tt, members_formed scope (before ++ m ∷ []) ms)

  taken_formed : (scope : Scope) (before ps : List RawParam) → AreFormed (taken_phrases scope before ps)
  taken_formed scope before [] = tt
  taken_formed scope before (p ∷ ps) = (tt, taken_formed scope (before ++ p ∷ []) ps)

  parameter_formed : (p : RawParam) (name : Option Bytes) (scope : Scope) → AreFormed (parameter_phrases raw p name scope)
  parameter_formed p None scope = tt
  parameter_formed p (Some name) scope = declaration_formed raw p.line scope InHead (parameter_of p name) init.None

  parameters_formed : (ps : List RawParam) (scope : Scope) → AreFormed (head_phrases raw ps scope)
  parameters_formed [] scope = tt
  parameters_formed (p ∷ ps) scope =
      formed_both (parameter_phrases raw p p.name scope) (head_phrases raw ps (with_parameter raw p scope)) (parameter_formed p p.name scope) (parameters_formed ps (with_parameter raw p scope))

  body_formed : (body : List RawStatement) → AllFormed body → (scope : Scope) → AreFormed (body_phrases raw body scope)
  body_formed [] h scope = tt
  body_formed (a ∷ body) h scope = formed_both ((scoped raw a).gives scope InBlock) (body_phrases raw body ((scoped raw a).after scope)) (h.0 scope InBlock) (body_formed body h.1 ((scoped raw a).after scope))

  abbrev ItemFormed : RawItem → Type 0
  ItemFormed x = (scope : Scope) → AreFormed (item_phrases raw x scope)

  abbrev ItemsFormed : List RawItem → Type 0
  ItemsFormed [] = Unit {0}
  ItemsFormed (x ∷ xs) = ItemFormed x × ItemsFormed xs

  items_both : (xs ys : List RawItem) → ItemsFormed xs → ItemsFormed ys → ItemsFormed (xs ++ ys)
  items_both [] ys h k = k
  items_both (x ∷ xs) ys h k = (h.0, items_both xs ys h.1 k)

  formed_prototype : (line : ℕ) (head : RawHead) → HasNoLengthIf head.result → ItemFormed (Prototype line head)
  formed_prototype line head plain = λ scope. (plain, taken_formed scope [] head.params)

  formed_definition : (line : ℕ) (head : RawHead) (body : List RawStatement) → HasNoLengthIf head.result → AllFormed body → ItemFormed (Define line head body)
  formed_definition line head body plain h = λ scope. (
    plain,
    formed_both (head_phrases raw head.params (scope_of_parameters head scope)) (body_phrases raw body (entered raw head scope) ++ (phrase line scope (EndsFunction head body) ∷ [])) (parameters_formed head.params (scope_of_parameters head scope))
        (formed_both (body_phrases raw body (entered raw head scope)) (phrase line scope (EndsFunction head body) ∷ []) (body_formed body h (entered raw head scope)) (tt, tt)),
  )

  formed_item : (x : RawItem) → is_item x ≡ true → ItemFormed x
  formed_item (Include is_stdlib) h = λ scope. tt
  formed_item (Tag line tag) h = λ scope. (tt, tt)
  formed_item (Struct line tag members) h = λ scope. (tt, members_formed scope [] members)
  formed_item (Global line v i is_static) h = λ scope. declaration_formed raw line scope (InFile is_static) v i
  formed_item (Prototype line head) h = formed_prototype line head (head_plain head h)
  formed_item (Define line head body) h =
      let p = and_parts (is_head head) _ h in
      formed_definition line head body (head_plain head p.0) (formed_body body (and_parts (are_named head.params) _ p.1).1)

  formed_items : (xs : List RawItem) → list_all is_item xs ≡ true → ItemsFormed xs
  formed_items [] h = tt
  formed_items (x ∷ xs) h = let p = and_parts (is_item x) (list_all is_item xs) h in (formed_item x p.0, formed_items xs p.1)

  text_formed : (xs : List RawItem) → ItemsFormed xs → (scope : Scope) → AreFormed (items_phrases raw xs scope)
  text_formed [] h scope = tt
  text_formed (x ∷ xs) h scope = formed_both (item_phrases raw x scope) (items_phrases raw xs (after_item raw x scope)) (h.0 scope) (text_formed xs h.1 (after_item raw x scope))

-- the phrases of the tree of a text that keeps all rules fit
pub text_fits : (raw : RawProgram) → IsTree raw → KeepsRules raw → AreFit raw (phrases raw)
text_fits raw tree keeps = fit_from raw (phrases raw) (phrases_kept raw keeps) (text_formed raw raw.items (formed_items raw raw.items (text_is_syntax raw tree)) outset)
